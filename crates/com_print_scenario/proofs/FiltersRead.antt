-- Filters, threads and picks are read again.
use Rattle.std.proofs.Common.{◌≡◌, ℕ, ◌+◌, ◌≤◌, ◌<◌, ◌^◌, ◌&&◌, List, [], ◌∷◌, ◌++◌, map, None, Bool, true, false, nat_le, nat_lt, if◌then◌else◌, refl, sym, ap, ◌∙◌, subst, arith, length, length-append, codes, decimal, Result, Ok, All, append_assoc, bytes_eq, slice_index_or, zero, suc}
use Rattle.std.specs.List.{list_all}
use Rattle.std.specs.Char.{is_ascii_alphabetic}
use Rattle.std.proofs.lemmas.List.{append-nil}
use Rattle.std.proofs.lemmas.List.Elements.{All-head, All-tail, All-append}
use Rattle.std.proofs.lemmas.Bool.Decides.{nat_tests}
use Rattle.std.proofs.lemmas.Slice.Eq.{bytes_eq-Decides}
use Rattle.std.proofs.lemmas.Fmt.{decimal_injective, length-decimal-le}
use Rattle.com_body.specs.declared.statements.Stmt.{Stmt}
use Rattle.com_body.specs.Bodies.{fault_of}
use Rattle.com_filter.specs.declared.Rule.{Rule}
use Rattle.com_model.specs.Formed.{IsRule, IsFilter}
use Rattle.com_text.specs.Words.{WordAt}
use Rattle.com_read_operands.specs.declared.faults.Fault.{Fault}
use Rattle.com_read_operands.specs.Numbers.{is_digit}
use Rattle.com_read_operands.specs.Reading.{◌>>=◌}
use Rattle.com_read_operands.specs.Naming.{is_name, is_tail, are_tail}
use Rattle.com_read_statements.specs.declared.keywords.Program.TheVariants as programs
use Rattle.com_read_statements.specs.declared.names.Names.{Names}
use Rattle.com_read_sections.specs.declared.outline.Outline.{Outline}
use Rattle.com_read_sections.specs.declared.state.State.{State}
use Rattle.com_read_sections.specs.declared.state.Section.TheVariants as sections
use Rattle.com_read_lines.specs.Codes.{no_code}
use Rattle.com_read_lines.specs.Rules.{rule_word_of}
use Rattle.com_read_sections.specs.Opened.{step, filter_ended, ruled, inner_filter}
use Rattle.com_print.specs.Spelled.{Spelled, plain, spelled_of}
use Rattle.com_print.specs.Ranges.{Distinct as Apart}
use Rattle.com_print.proofs.Decimals.{decimal_digits}
use Rattle.com_print.proofs.Places.{end_again}
use Rattle.com_print.specs.Standing.{AreDeclared}
use Rattle.com_print_scenario.specs.Printed.{end_words, filter_name, filter_names, rule_words, rules_lines, filter_words, filters_lines, thread_words, program_lines, threads_lines, number_word, picks_lines}
use Rattle.com_print_scenario.proofs.Apart.{IsNew, new_append, no_position}
use Rattle.com_print_scenario.proofs.Following.{differs}
use Rattle.com_print_scenario.proofs.Places.{at_of, first_word}
use Rattle.com_print_scenario.proofs.Programs.{CanRead, in_thread, thread_read, thread_statement, thread_end}
use Rattle.com_print_scenario.proofs.Rules.{rule_again}
use Rattle.com_print_scenario.proofs.Runs.{Gets, line_then, step_in, program_on}
use Rattle.com_print_scenario.proofs.Tops.{first_of, room_of, filter_by, filter_again, thread_again, picks_again}

-- ---- filters' names

digit_tail : (b : ℕ) → is_digit b ≡ true → is_tail b ≡ true
digit_tail b h = grind (arith, nat_tests)

digits_tail : (bs : List ℕ) → list_all is_digit bs ≡ true → are_tail bs ≡ true
digits_tail [] h = refl
digits_tail (b ∷ bs) h =
    let t = parts (is_digit b) (list_all is_digit bs) h in
    ap (λ (x : Bool). if x then are_tail bs else false) (digit_tail b t.0) ∙ digits_tail bs t.1
  where
    parts : (x y : Bool) → (x && y) ≡ true → (x ≡ true) × (y ≡ true)
    parts true true h = (refl, refl)
    parts true false h = absurd cc
    parts false y h = absurd cc

pub good_name : (n : ℕ) → n < 100 → is_name (filter_name n) ≡ true
good_name n lt =
    let short : length (decimal n) ≤ 2 = length-decimal-le 2 n (omega arith) (omega arith) (omega arith) in
    let a : nat_lt (length (decimal n)) 32 ≡ true = grind (arith, nat_tests) in
    let b : are_tail (decimal n) ≡ true = digits_tail (decimal n) (decimal_digits n (omega arith)).all in
    ap (λ (x : Bool). is_ascii_alphabetic 70 && x && are_tail (decimal n)) a ∙ ap (λ (x : Bool). is_ascii_alphabetic 70 && true && x) b

abbrev begins_with_f : List ℕ → Bool
begins_with_f [] = false
begins_with_f (b ∷ bs) = nat_le b 70

pub no_none : (n : ℕ) → bytes_eq (filter_name n) (codes "none") ≡ false
no_none n = differs begins_with_f (filter_name n) (codes "none") refl refl

other_name : (m n : ℕ) → m < n → n < 100 → bytes_eq (filter_name m) (filter_name n) ≡ false
other_name m n lt few = apart (bytes_eq (filter_name m) (filter_name n)) (bytes_eq-Decides (filter_name m) (filter_name n)).0
  where
    apart : (b : Bool) → (b ≡ true → filter_name m ≡ filter_name n) → b ≡ false
    apart true h =
        let e : decimal m ≡ decimal n = (let f = h refl in cc) in
        let same = decimal_injective m n (omega arith) (omega arith) e in
        absurd (omega arith)
    apart false h = refl

all_cons : {X : Type 0} (P : X → Type 0) (x : X) (xs : List X) → P x → All P xs → All P (x ∷ xs)
all_cons P x xs h hs = All-append P (x ∷ []) xs (λ k d lt. one k d lt) hs
  where
    one : (k : ℕ) (d : _) → k < 1 → P (slice_index_or (x ∷ []) k d)
    one zero d lt = h
    one (suc k) d lt = absurd (omega arith)

-- a filter's name differs from those that follow
apart_filters : (m n : ℕ) (fs : List (List Rule)) → m < n → n + length fs ≤ 17 → All (λ x. bytes_eq (filter_name m) x ≡ false) (filter_names n fs)
apart_filters m n [] lt few = λ k d h. absurd (omega arith)
apart_filters m n (f ∷ fs) lt few =
    all_cons (λ x. bytes_eq (filter_name m) x ≡ false) (filter_name n) (filter_names (n + 1) fs) (other_name m n lt (omega arith)) (apart_filters m (n + 1) fs (omega arith) (omega arith))

pub filters_named : (n : ℕ) (fs : List (List Rule)) → n + length fs ≤ 17
    → All (λ x. is_name x ≡ true) (filter_names n fs) × Apart (filter_names n fs) × All (λ x. bytes_eq x (codes "none") ≡ false) (filter_names n fs)
filters_named n [] few = (λ k d lt. absurd (omega arith), tt, λ k d lt. absurd (omega arith))
filters_named n (f ∷ fs) few =
    let more = filters_named (n + 1) fs (omega arith) in (
      all_cons (λ x. is_name x ≡ true) (filter_name n) (filter_names (n + 1) fs) (good_name n (omega arith)) more.0,
      (apart_filters n (n + 1) fs (omega arith) (omega arith), more.1),
      all_cons (λ x. bytes_eq x (codes "none") ≡ false) (filter_name n) (filter_names (n + 1) fs) (no_none n) more.2,
    )

-- Each name from a number on is new.
abbrev pub AreOlder : List (List ℕ) → ℕ → Type 0
AreOlder names n = (m : ℕ) → n ≤ m → m < 100 → IsNew bytes_eq names (filter_name m)

older_more : (names : List (List ℕ)) (n : ℕ) → AreOlder names n → AreOlder (names ++ filter_name n ∷ []) (n + 1)
older_more names n h m ge lt = new_append bytes_eq names (filter_name n ∷ []) (filter_name m) (h m (omega arith) lt) (other_name n m (omega arith) lt, tt)

-- ---- rules

abbrev pub in_filter : State → List Rule → State
in_filter st rs = record st { section = sections.Filter rs }

abbrev pub filter_read : State → List Rule → State
filter_read st rs = record st { filters = st.filters ++ rs ∷ []; section = sections.Top }

abbrev ruled_again : State → Result (List Rule) Fault → Result State Fault
ruled_again st r = r >>= λ more. Ok (in_filter st more)

abbrev filter_by_word : State → List Rule → List WordAt → WordAt → List ℕ → Result State Fault
filter_by_word st rs line w bs = if bytes_eq bs (codes "end") then filter_ended st rs line else ruled_again st (ruled rs w line (rule_word_of bs))

filter_word : (st : State) (rs : List Rule) (line : List WordAt) (bs : List ℕ) (rest : List Spelled) (e : map spelled_of line ≡ plain bs ∷ rest)
    → step (in_filter st rs) line ≡ filter_by_word st rs line (first_of line bs rest e).word bs
unfolding inner_filter
filter_word st rs line bs rest e =
    let s = first_of line bs rest e in
    step_in (in_filter st rs) line (plain bs) rest e
    ∙ ap (λ (r : Result WordAt Fault). r >>= λ w. filter_by_word st rs line w w.bytes) (first_word line (plain bs) s tt)
    ∙ ap (filter_by_word st rs line s.word) s.bytes

rule_step : (st : State) (rs : List Rule) (r : Rule) (line : List WordAt) → map spelled_of line ≡ rule_words r → IsRule r → length rs < 32
    → step (in_filter st rs) line ≡ Ok (in_filter st (rs ++ r ∷ []))
rule_step st rs r line e is room =
    let reads = rule_again line r e is in
    let w = (first_of line reads.word reads.rest reads.first).word in
    filter_word st rs line reads.word reads.rest reads.first
    ∙ ap (λ (b : Bool). if b then filter_ended st rs line else ruled_again st (ruled rs w line (rule_word_of reads.word))) reads.no_end
    ∙ ap (ruled_again st) (reads.read rs w (room_of 32 (length rs) room))

filter_end : (st : State) (rs : List Rule) (line : List WordAt) → map spelled_of line ≡ end_words → step (in_filter st rs) line ≡ Ok (filter_read st rs)
filter_end st rs line e =
    filter_word st rs line (codes "end") [] e
    ∙ ap (λ (r : Result (Unit {0}) Fault). r >>= λ done. Ok (filter_read st rs)) (end_again line 1 (at_of line _ 1 e))

rules_on : (st : State) (rest done : List Rule) (ls : List (List Spelled)) (o : Outline) → All IsRule rest → length done + length rest ≤ 32
    → Gets (filter_read st (done ++ rest)) ls o → Gets (in_filter st done) (rules_lines rest ++ ls) o
rules_on st [] done ls o all few more =
    line_then (in_filter st done) (filter_read st done) end_words ls o (filter_end st done)
    (subst (λ (x : List Rule). Gets (filter_read st x) ls o) (append-nil done) more)
rules_on st (r ∷ rs) done ls o all few more =
    let e : done ++ r ∷ rs ≡ (done ++ r ∷ []) ++ rs = sym (append_assoc done (r ∷ []) rs) in
    let shorter : length (done ++ r ∷ []) + length rs ≤ 32 = simp length-append (omega arith) in
    line_then (in_filter st done) (in_filter st (done ++ r ∷ [])) (rule_words r) (rules_lines rs ++ ls) o
    (λ line h. rule_step st done r line h (All-head IsRule r rs all) (omega arith))
    (rules_on st rs (done ++ r ∷ []) ls o (All-tail IsRule r rs all) shorter (subst (λ (x : List Rule). Gets (filter_read st x) ls o) e more))

-- ---- filters

abbrev pub at_filters : State → List (List ℕ) → List (List Rule) → State
at_filters st names filters = record st { names = record (st.names) { filters = names }; filters = filters; section = sections.Top }

pub filters_on : (st : State) (n : ℕ) (names : List (List ℕ)) (rest done : List (List Rule)) (ls : List (List Spelled)) (o : Outline)
    → AreOlder names n → All IsFilter rest → length names + length rest ≤ 16 → n + length rest ≤ 17
    → Gets (at_filters st (names ++ filter_names n rest) (done ++ rest)) ls o → Gets (at_filters st names done) (filters_lines n rest ++ ls) o
filters_on st n names [] done ls o older all few last more =
    subst (λ (x : List (List ℕ)). Gets (at_filters st x done) ls o) (append-nil names)
    (subst (λ (x : List (List Rule)). Gets (at_filters st (names ++ []) x) ls o) (append-nil done) more)
filters_on st n names (f ∷ fs) done ls o older all few last more =
    let t = at_filters st names done in
    let next = filter_by t (filter_name n) in
    let is = All-head IsFilter f fs all in
    let e : names ++ filter_name n ∷ filter_names (n + 1) fs ≡ (names ++ filter_name n ∷ []) ++ filter_names (n + 1) fs = sym (append_assoc names (filter_name n ∷ []) (filter_names (n + 1) fs)) in
    let g : done ++ f ∷ fs ≡ (done ++ f ∷ []) ++ fs = sym (append_assoc done (f ∷ []) fs) in
    let shorter : length (names ++ filter_name n ∷ []) + length fs ≤ 16 = simp length-append (omega arith) in
    let split : (rules_lines f ++ filters_lines (n + 1) fs) ++ ls ≡ rules_lines f ++ (filters_lines (n + 1) fs ++ ls) = append_assoc (rules_lines f) (filters_lines (n + 1) fs) ls in
    let behind = filters_on st (n + 1) (names ++ filter_name n ∷ []) fs (done ++ f ∷ []) ls o (older_more names n older) (All-tail IsFilter f fs all) shorter (omega arith)
    (subst (λ (x : List (List ℕ)). Gets (at_filters st x ((done ++ f ∷ []) ++ fs)) ls o) e
    (subst (λ (x : List (List Rule)). Gets (at_filters st (names ++ filter_name n ∷ filter_names (n + 1) fs) x) ls o) g more)) in
    let rules = rules_on next f [] (filters_lines (n + 1) fs ++ ls) o is.0 (omega (arith, is.1)) behind in
    line_then t next (filter_words n) ((rules_lines f ++ filters_lines (n + 1) fs) ++ ls) o
    (λ line h. step_in t line _ _ h ∙ filter_again t line n h (omega arith) (good_name n (omega arith)) (no_none n)
    (no_position names (filter_name n) (older n (omega arith) (omega arith))))
    (subst (λ (x : List (List Spelled)). Gets next x o) (sym split) rules)

-- ---- threads

-- a script that can be written and read
pub record CanRun (names : Names) (b : List Stmt) : Type 0 where
  pub statements : All (CanRead programs.Script names) b
  pub whole : fault_of b 2000 ≡ None

abbrev pub at_threads : State → List (List Stmt) → State
at_threads st threads = record st { threads = threads; section = sections.Top }

pub threads_on : (st : State) (rest done : List (List Stmt)) (ls : List (List Spelled)) (o : Outline) → AreDeclared st.names → All (CanRun st.names) rest
    → length done + length rest ≤ 16 → Gets (at_threads st (done ++ rest)) ls o → Gets (at_threads st done) (threads_lines st.names rest ++ ls) o
threads_on st [] done ls o are all few more = subst (λ (x : List (List Stmt)). Gets (at_threads st x) ls o) (append-nil done) more
threads_on st (b ∷ bs) done ls o are all few more =
    let t = at_threads st done in
    let can = All-head (CanRun st.names) b bs all in
    let e : done ++ b ∷ bs ≡ (done ++ b ∷ []) ++ bs = sym (append_assoc done (b ∷ []) bs) in
    let shorter : length (done ++ b ∷ []) + length bs ≤ 16 = simp length-append (omega arith) in
    let split : (program_lines st.names b ++ threads_lines st.names bs) ++ ls ≡ program_lines st.names b ++ (threads_lines st.names bs ++ ls)
    = append_assoc (program_lines st.names b) (threads_lines st.names bs) ls in
    let behind = threads_on st bs (done ++ b ∷ []) ls o are (All-tail (CanRun st.names) b bs all) shorter
    (subst (λ (x : List (List Stmt)). Gets (at_threads st x) ls o) e more) in
    let script = program_on (in_thread t) (thread_read t) 2000 st.names (CanRead programs.Script st.names)
    (λ code s line one room h. thread_statement t code s line are one room h) (thread_end t) b no_code (threads_lines st.names bs ++ ls) o can.statements can.whole behind in
    line_then t (in_thread t no_code) thread_words ((program_lines st.names b ++ threads_lines st.names bs) ++ ls) o
    (λ line h. step_in t line _ _ h ∙ thread_again t line h (omega arith))
    (subst (λ (x : List (List Spelled)). Gets (in_thread t no_code) x o) (sym split) script)

-- ---- picks

abbrev pub at_picks : State → List ℕ → State
at_picks st picks = record st { picks = picks; section = sections.Top }

pub picks_on : (st : State) (ns : List ℕ) (o : Outline) → All (λ n. n < 2 ^ 32) ns → Gets (at_picks st ns) [] o → Gets (at_picks st []) (picks_lines ns) o
picks_on st [] o all more = more
picks_on st (n ∷ ns) o all more =
    line_then (at_picks st []) (at_picks st (n ∷ ns)) (plain (codes "picks") ∷ map number_word (n ∷ ns)) [] o
    (λ line h. step_in (at_picks st []) line _ _ h ∙ picks_again (at_picks st []) line (n ∷ ns) h all) more
