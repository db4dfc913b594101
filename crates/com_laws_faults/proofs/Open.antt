-- A line in its section: each fault is that of its words in front of a cut, or stands behind it, unless it is one
-- that was kept from a line above.
use Rattle.std.proofs.Common.{◌≡◌, ℕ, zero, suc, ◌+◌, ◌<◌, if◌then◌else◌, ◌≤◌, inl, inr, Bool, true, false, not, List, [], ◌∷◌, ◌++◌, length, drop, Option, Some, None, Result, Ok, Err, All, refl, sym, ap, subst, arith, nat_le}
use Rattle.std.specs.Prelude.{is_some, bytes_eq, codes, slice_get}
use Rattle.std.proofs.lemmas.List.Elements.{All-head, All-tail}
use Rattle.com_body.specs.declared.body.BodyFault.TheVariants as body_faults
use Rattle.com_body.specs.Bodies.{skip_of, first_past_end}
use Rattle.com_body.specs.declared.statements.Stmt.{Stmt}
use Rattle.std.specs.Prelude.{nat_lt}
use Rattle.std.proofs.lemmas.Bool.{ltb-true}
use Rattle.com_classes.specs.declared.interfaces.Interface.{Interface}
use Rattle.com_classes.specs.declared.classes.Class.{Class}
use Rattle.com_filter.specs.declared.Rule.{Rule}
use Rattle.com_text.specs.declared.word.Sort.{Sort}
use Rattle.com_text.specs.declared.word.Sort.TheVariants as sorts
use Rattle.com_text.specs.Words.{WordAt, is_over, is_remark}
use Rattle.com_read_operands.specs.declared.faults.Fault.{Fault}
use Rattle.com_read_operands.specs.Reading.{◌>>=◌, fault_at, first_at, number_at}
use Rattle.com_read_statements.specs.declared.calls.MethodNumber.{MethodNumber}
use Rattle.com_read_statements.specs.declared.keywords.Program.TheVariants as programs
use Rattle.com_read_statements.specs.Calls.{method_at}
use Rattle.com_read_lines.specs.declared.rules.RuleWord.{RuleWord}
use Rattle.com_read_lines.specs.Codes.{CodeAt, spotted, checked_by, checked}
use Rattle.com_read_lines.specs.Programs.{program_line}
use Rattle.com_read_lines.specs.Header.{version_of, lone_fault, ended, compared, version_by, version_at}
use Rattle.com_read_lines.specs.Declaring.{free_guid_at, free_name_at, interface_name_at, filter_name_at, model_at, native_at, listed_at, picks_on}
use Rattle.com_read_lines.specs.Methods.{method_of}
use Rattle.com_read_lines.specs.Rules.{rule_word_of, rule_of}
use Rattle.com_read_sections.specs.declared.begin.SectionWord.{SectionWord}
use Rattle.com_read_sections.specs.declared.begin.SectionWord.TheVariants as begins
use Rattle.com_read_sections.specs.declared.state.State.{State}
use Rattle.com_read_sections.specs.declared.state.Section.{Section}
use Rattle.com_read_sections.specs.declared.state.Section.TheVariants as sections
use Rattle.com_read_sections.specs.Header.{lone, header_line}
use Rattle.com_read_sections.specs.Beginning.{section_word_of, pool_line, interface_line, class_line, native_line, filter_line, thread_line, picks_line, top_by, top_line}
use Rattle.com_read_sections.specs.Opened.{interface_closed, method_line, inner_interface, has_body, body_head, inner_class, program_of, inner_body, inner_thread, ruled, inner_filter, by_section, step}
use Rattle.com_laws_faults.specs.Prefixes.{is_lone}
use Rattle.com_laws_faults.proofs.Sections.{is_header, version_same}
use Rattle.com_laws_faults.proofs.Out.{IsFrom, IsOut, Cut, Outside, Told, okay, wrong, tells, fixed, settled, branch, made, next}
use Rattle.com_laws_faults.proofs.At.{word_then, first_reads, first_from, number_reads, head_reads, free_guid_reads, free_name_reads, interface_name_reads, filter_name_reads, model_reads, native_reads}
use Rattle.com_laws_faults.proofs.Told.{ends}
use Rattle.com_laws_faults.proofs.Ruled.{list_told, picks_all_told, method_told, rule_told, program_told}

-- ---- faults that are kept

-- that of a skip
abbrev pub IsSpot : Fault → Type 0
IsSpot f = f.number ≡ 11

-- the statements so far, with the fault of each
pub record IsCode (limit : ℕ) (code : CodeAt) : Type 0 where
  pub spots : All IsSpot code.spots
  pub each : length code.spots ≡ length code.statements
  pub few : length code.statements ≤ limit

abbrev pub IsKept : Section → Type 0
IsKept (sections.Body c head code) = IsCode 200 code
IsKept (sections.Thread code) = IsCode 2000 code
IsKept _ = Unit {0}

spot_is : (fs : List Fault) (k : ℕ) (f : Fault) → All IsSpot fs → slice_get fs k ≡ Some f → IsSpot f
spot_is [] k f h e = absurd cc
spot_is (g ∷ gs) zero f h e = let q : g ≡ f = cc in subst IsSpot q (All-head IsSpot g gs h)
spot_is (g ∷ gs) (suc k) f h e = spot_is gs k f (All-tail IsSpot g gs h) e

spot_there : (fs : List Fault) (k : ℕ) → k < length fs → slice_get fs k ≡ None → ⊥
spot_there [] k l e = absurd (omega arith)
spot_there (g ∷ gs) zero l e = absurd cc
spot_there (g ∷ gs) (suc k) l e = spot_there gs k (omega arith) e

-- the statement that skips too far is one of the list
past_below : (ss : List Stmt) (j k : ℕ) → first_past_end ss j ≡ Some k → k < j + length ss
past_below [] j k e = absurd cc
past_below (s ∷ rest) j k e = by (nat_lt (length rest) (skip_of s)) e (λ q. past_below rest (j + 1) k q)
  where
    by : (b : Bool) → (if b then Some j else first_past_end rest (j + 1)) ≡ Some k → (first_past_end rest (j + 1) ≡ Some k → k < j + 1 + length rest) → k < j + length (s ∷ rest)
    by true q later = let same : j ≡ k = cc in omega arith
    by false q later = let l : k < j + 1 + length rest = later q in omega arith

module _ (x : Cut) where
  held : {A : Type 0} (g : Fault) → IsSpot g → Outside {A = A} x (Err g)
  held g n = record { of = λ f e. let q : g ≡ f = cc in subst (IsOut x.line x.column) q (inr (inl n)) }

  spotted_out : (o : Option Fault) → (o ≡ None → ⊥) → ((f : Fault) → o ≡ Some f → IsSpot f) → Outside x (spotted o)
  spotted_out None some h = absurd (some refl)
  spotted_out (Some f) some h = held f (h f refl)

  past_out : (code : CodeAt) (limit : ℕ) → IsCode limit code → (o : Option ℕ) → ((k : ℕ) → o ≡ Some k → k < length code.spots)
      → Outside x (checked_by code (elim o [ None ↦ None | Some k ↦ Some (body_faults.Jump k) ]))
  past_out code limit h None below = okay x _
  past_out code limit h (Some k) below = spotted_out (slice_get code.spots k) (spot_there code.spots k (below k refl)) (λ f e. spot_is code.spots k f h.spots e)

  checked_out : (code : CodeAt) (limit : ℕ) → IsCode limit code → Outside x (checked code limit)
  checked_out code limit h = by (nat_lt limit (length code.statements)) refl
    where
      by : (b : Bool) → nat_lt limit (length code.statements) ≡ b
          → Outside x (checked_by code (if b then Some body_faults.TooLong else elim (first_past_end code.statements 0) [ None ↦ None | Some k ↦ Some (body_faults.Jump k) ]))
      by true e = let many : limit < length code.statements = ltb-true limit (length code.statements) e in let few : length code.statements ≤ limit = h.few in absurd (omega arith)
      by false e = past_out code limit h (first_past_end code.statements 0)
          (λ k q. let l : k < 0 + length code.statements = past_below code.statements 0 k q in let each : length code.spots ≡ length code.statements = h.each in omega arith)

  -- ---- outside of sections

  top_by_told : (st : State) (w : WordAt) (o : Option SectionWord) → (length x.p ≤ 0 → IsFrom x.line x.column w) → Told x 0 (top_by st x.p w o) (top_by st (x.p ++ x.a) w o)
  unfolding pool_line interface_line class_line native_line filter_line thread_line picks_line
  top_by_told st w None h = settled x 0 (Err (fault_at 3 w)) (λ l. wrong x 3 w (h l))
  top_by_told st w (Some begins.Pool) h = branch x 0 (is_some st.pool) _ _ _ _ (settled x 0 (Err (fault_at 9 w)) (λ l. wrong x 9 w (h l)))
      (next x 0 1 (number_at 1 8 x.p 1) (number_at 1 8 (x.p ++ x.a) 1) _ _ (omega arith) (number_reads x 1 8 1) (λ lanes _. ends x 1 2 _ _ (omega arith)))
  top_by_told st w (Some begins.Interface) h = branch x 0 (nat_le 64 (length st.names.interfaces)) _ _ _ _ (settled x 0 (Err (fault_at 12 w)) (λ l. wrong x 12 w (h l)))
      (next x 0 1 (interface_name_at st.names.interfaces x.p) (interface_name_at st.names.interfaces (x.p ++ x.a)) _ _ (omega arith) (interface_name_reads x st.names.interfaces) (λ name _.
      next x 1 2 (free_guid_at st.iids x.p 2) (free_guid_at st.iids (x.p ++ x.a) 2) _ _ (omega arith) (free_guid_reads x st.iids 2) (λ iid _. ends x 2 3 _ _ (omega arith))))
  top_by_told st w (Some begins.Class) h = branch x 0 (nat_le 64 (length st.names.classes)) _ _ _ _ (settled x 0 (Err (fault_at 12 w)) (λ l. wrong x 12 w (h l)))
      (next x 0 1 (free_name_at st.names.classes x.p 1) (free_name_at st.names.classes (x.p ++ x.a) 1) _ _ (omega arith) (free_name_reads x st.names.classes 1) (λ name _.
      next x 1 2 (free_guid_at st.clsids x.p 2) (free_guid_at st.clsids (x.p ++ x.a) 2) _ _ (omega arith) (free_guid_reads x st.clsids 2) (λ clsid _.
      next x 2 3 (model_at x.p 3) (model_at (x.p ++ x.a) 3) _ _ (omega arith) (model_reads x 3) (λ model _.
      made x 3 (listed_at st.names.interfaces x.p) (listed_at st.names.interfaces (x.p ++ x.a)) _ _ (list_told x st.names.interfaces)))))
  top_by_told st w (Some begins.Native) h = branch x 0 (nat_le 64 (length st.names.classes)) _ _ _ _ (settled x 0 (Err (fault_at 12 w)) (λ l. wrong x 12 w (h l)))
      (next x 0 1 (free_name_at st.names.classes x.p 1) (free_name_at st.names.classes (x.p ++ x.a) 1) _ _ (omega arith) (free_name_reads x st.names.classes 1) (λ name _.
      next x 1 2 (free_guid_at st.clsids x.p 2) (free_guid_at st.clsids (x.p ++ x.a) 2) _ _ (omega arith) (free_guid_reads x st.clsids 2) (λ clsid _.
      next x 2 3 (model_at x.p 3) (model_at (x.p ++ x.a) 3) _ _ (omega arith) (model_reads x 3) (λ model _.
      next x 3 4 (native_at model x.p 4) (native_at model (x.p ++ x.a) 4) _ _ (omega arith) (native_reads x model 4) (λ native _. ends x 4 5 _ _ (omega arith))))))
  top_by_told st w (Some begins.Filter) h = branch x 0 (nat_le 16 (length st.names.filters)) _ _ _ _ (settled x 0 (Err (fault_at 12 w)) (λ l. wrong x 12 w (h l)))
      (next x 0 1 (filter_name_at st.names.filters x.p) (filter_name_at st.names.filters (x.p ++ x.a)) _ _ (omega arith) (filter_name_reads x st.names.filters) (λ name _. ends x 1 2 _ _ (omega arith)))
  top_by_told st w (Some begins.Thread) h = branch x 0 (nat_le 16 (length st.threads)) _ _ _ _ (settled x 0 (Err (fault_at 12 w)) (λ l. wrong x 12 w (h l))) (ends x 0 1 _ _ (omega arith))
  top_by_told st w (Some begins.Picks) h = made x 0 (picks_on [] x.p 1 (drop 1 x.p)) (picks_on [] (x.p ++ x.a) 1 (drop 1 (x.p ++ x.a))) _ _ (picks_all_told x)

  top_told : (st : State) → Told x 0 (top_line st x.p) (top_line st (x.p ++ x.a))
  unfolding top_line
  top_told st = next x 0 0 (first_at x.p) (first_at (x.p ++ x.a)) _ _ (omega arith) (first_reads x) (λ w e. top_by_told st w (section_word_of w.bytes) (λ l. first_from x w l e))

  -- ---- inside of sections

  method_line_told : (names : List (List ℕ)) (i : Interface) (w : WordAt) → (length x.p ≤ 0 → IsFrom x.line x.column w) → Told x 0 (method_line names i w x.p) (method_line names i w (x.p ++ x.a))
  unfolding method_line
  method_line_told names i w h = branch x 0 (nat_le 32 (length i.methods)) _ _ _ _ (settled x 0 (Err (fault_at 12 w)) (λ l. wrong x 12 w (h l)))
      (made x 0 (method_of names i.methods x.p) (method_of names i.methods (x.p ++ x.a)) _ _ (method_told x names i.methods))

  interface_told : (st : State) (i : Interface) → Told x 0 (inner_interface st i x.p) (inner_interface st i (x.p ++ x.a))
  unfolding inner_interface
  interface_told st i = next x 0 0 (first_at x.p) (first_at (x.p ++ x.a)) _ _ (omega arith) (first_reads x) (λ w e. branch x 0 (bytes_eq w.bytes (codes "method")) _ _ _ _
      (made x 0 (method_line st.names.interfaces i w x.p) (method_line st.names.interfaces i w (x.p ++ x.a)) _ _ (method_line_told st.names.interfaces i w (λ l. first_from x w l e)))
      (top_told (interface_closed st i)))

  body_head_told : (st : State) (c : Class) → Told x 0 (body_head st c x.p) (body_head st c (x.p ++ x.a))
  unfolding body_head
  body_head_told st c = next x 0 1 (method_at st.names x.p 1) (method_at st.names (x.p ++ x.a) 1) _ _ (omega arith) (head_reads x st.names 1) (λ head _. branch x 1 (has_body c.bodies head) _ _ _ _
      (tells x 1 _ _ (word_then x 1 _ (λ w h. wrong x 9 w h)))
      (ends x 1 2 _ _ (omega arith)))

  class_told : (st : State) (c : Class) → Told x 0 (inner_class st c x.p) (inner_class st c (x.p ++ x.a))
  unfolding inner_class
  class_told st c = next x 0 0 (first_at x.p) (first_at (x.p ++ x.a)) _ _ (omega arith) (first_reads x) (λ w e. branch x 0 (bytes_eq w.bytes (codes "body")) _ _ _ _
      (body_head_told st c)
      (branch x 0 (bytes_eq w.bytes (codes "end")) _ _ _ _ (ends x 0 1 _ _ (omega arith)) (settled x 0 (Err (fault_at 3 w)) (λ l. wrong x 3 w (first_from x w l e)))))

  body_told : (st : State) (c : Class) (head : MethodNumber) (code : CodeAt) → IsCode 200 code → Told x 0 (inner_body st c head code x.p) (inner_body st c head code (x.p ++ x.a))
  unfolding inner_body
  body_told st c head code good = next x 0 0 (first_at x.p) (first_at (x.p ++ x.a)) _ _ (omega arith) (first_reads x) (λ w e. branch x 0 (bytes_eq w.bytes (codes "end")) _ _ _ _
      (next x 0 0 (checked code 200) (checked code 200) _ _ (omega arith) (fixed x 0 (checked code 200) (λ l. checked_out code 200 good)) (λ body _. ends x 0 1 _ _ (omega arith)))
      (made x 0 (program_line (program_of c.model) 200 st.names code w x.p) (program_line (program_of c.model) 200 st.names code w (x.p ++ x.a)) _ _ (program_told x (program_of c.model) 200 st.names code w (λ l. first_from x w l e))))

  thread_told : (st : State) (code : CodeAt) → IsCode 2000 code → Told x 0 (inner_thread st code x.p) (inner_thread st code (x.p ++ x.a))
  unfolding inner_thread
  thread_told st code good = next x 0 0 (first_at x.p) (first_at (x.p ++ x.a)) _ _ (omega arith) (first_reads x) (λ w e. branch x 0 (bytes_eq w.bytes (codes "end")) _ _ _ _
      (next x 0 0 (checked code 2000) (checked code 2000) _ _ (omega arith) (fixed x 0 (checked code 2000) (λ l. checked_out code 2000 good)) (λ body _. ends x 0 1 _ _ (omega arith)))
      (made x 0 (program_line programs.Script 2000 st.names code w x.p) (program_line programs.Script 2000 st.names code w (x.p ++ x.a)) _ _ (program_told x programs.Script 2000 st.names code w (λ l. first_from x w l e))))

  ruled_told : (rules : List Rule) (w : WordAt) (o : Option RuleWord) → (length x.p ≤ 0 → IsFrom x.line x.column w) → Told x 0 (ruled rules w x.p o) (ruled rules w (x.p ++ x.a) o)
  ruled_told rules w None h = settled x 0 (Err (fault_at 3 w)) (λ l. wrong x 3 w (h l))
  ruled_told rules w (Some k) h = branch x 0 (nat_le 32 (length rules)) _ _ _ _ (settled x 0 (Err (fault_at 12 w)) (λ l. wrong x 12 w (h l)))
      (made x 0 (rule_of k x.p) (rule_of k (x.p ++ x.a)) _ _ (rule_told x k))

  filter_told : (st : State) (rules : List Rule) → Told x 0 (inner_filter st rules x.p) (inner_filter st rules (x.p ++ x.a))
  unfolding inner_filter
  filter_told st rules = next x 0 0 (first_at x.p) (first_at (x.p ++ x.a)) _ _ (omega arith) (first_reads x) (λ w e. branch x 0 (bytes_eq w.bytes (codes "end")) _ _ _ _
      (ends x 0 1 _ _ (omega arith))
      (made x 0 (ruled rules w x.p (rule_word_of w.bytes)) (ruled rules w (x.p ++ x.a) (rule_word_of w.bytes)) _ _ (ruled_told rules w (rule_word_of w.bytes) (λ l. first_from x w l e))))

  -- ---- the header

  -- a fault of a line that has words in front of the cut
  same_told : {A : Type 0} (r : Result A Fault) → 1 ≤ length x.p → Told x 0 r r
  same_told r low = settled x 0 r (λ l. absurd (omega arith))

  ended_told : (two : WordAt) (o : Option ℕ) → 1 ≤ length x.p → Told x 0 (ended x.p two o) (ended (x.p ++ x.a) two o)
  ended_told two None low = same_told (Err (fault_at 1 two)) low
  ended_told two (Some v) low = ends x 0 2 _ _ (omega arith)

  compared_told : (one two : WordAt) (pending : Option Fault) → 1 ≤ length x.p → Told x 0 (compared x.p one two pending) (compared (x.p ++ x.a) one two pending)
  compared_told one two (Some f) low = same_told (Err f) low
  compared_told one two None low = branch x 0 (not (bytes_eq one.bytes (codes "scenario"))) _ _ _ _ (same_told (Err (fault_at 1 one)) low) (ended_told two (version_of two.bytes) low)

  version_told : (pending : Option Fault) (one two : WordAt) (sort : Sort) → 1 ≤ length x.p → Told x 0 (version_by pending x.p one two sort) (version_by pending (x.p ++ x.a) one two sort)
  version_told pending one two (sorts.Remark c) low = same_told (Err (lone_fault pending one)) low
  version_told pending one two sorts.Plain low = compared_told one two pending low
  version_told pending one two sorts.Text low = compared_told one two pending low
  version_told pending one two sorts.Bytes low = compared_told one two pending low
  version_told pending one two sorts.Unclosed low = compared_told one two pending low
  version_told pending one two (sorts.Stray c) low = compared_told one two pending low

  alike : {A : Type 0} (r s : Result A Fault) → s ≡ r → 1 ≤ length x.p → Told x 0 r s
  alike r s e low = subst (λ (t : Result _ Fault). Told x 0 r t) (sym e) (same_told r low)

  lone_told : (st : State) (pending : Option Fault) (w v : WordAt) (vs : List WordAt) → 1 ≤ length x.p → (is_lone (w ∷ []) ≡ true → ⊥) → Told x 0 (Err (lone_fault pending w)) (header_line st pending (w ∷ v ∷ vs))
  unfolding header_line version_at
  lone_told st pending w v vs low lone = by (bytes_eq w.bytes (codes "scenario")) refl
    where
      by : (b : Bool) → bytes_eq w.bytes (codes "scenario") ≡ b → Told x 0 (Err (lone_fault pending w)) (version_by pending (w ∷ v ∷ vs) w v v.sort >>= λ n. Ok (record st { version = n; section = sections.Top }))
      by true e = absurd (lone e)
      by false e = alike _ _ (ap (λ (r : Result ℕ Fault). r >>= λ n. Ok (record st { version = n; section = sections.Top })) (version_same (w ∷ v ∷ vs) w v pending v.sort e)) low

  lone_by_told : (st : State) (pending : Option Fault) (w v : WordAt) (vs : List WordAt) (sort : Sort) → w.sort ≡ sort → 1 ≤ length x.p → (is_over (w ∷ []) ≡ true → ⊥) → (is_lone (w ∷ []) ≡ true → ⊥)
      → Told x 0 (lone st pending w sort) (header_line st pending (w ∷ v ∷ vs))
  lone_by_told st pending w v vs (sorts.Remark c) e low over lone = absurd (over (ap is_remark e))
  lone_by_told st pending w v vs sorts.Plain e low over lone = lone_told st pending w v vs low lone
  lone_by_told st pending w v vs sorts.Text e low over lone = lone_told st pending w v vs low lone
  lone_by_told st pending w v vs sorts.Bytes e low over lone = lone_told st pending w v vs low lone
  lone_by_told st pending w v vs sorts.Unclosed e low over lone = lone_told st pending w v vs low lone
  lone_by_told st pending w v vs (sorts.Stray c) e low over lone = lone_told st pending w v vs low lone

  header_by : (st : State) (pending : Option Fault) (p a : List WordAt) → x.p ≡ p → x.a ≡ a → (is_over p ≡ true → ⊥) → (is_lone p ≡ true → ⊥) → Told x 0 (header_line st pending p) (header_line st pending (p ++ a))
  unfolding header_line version_at
  header_by st pending [] a e d over lone = absurd (over refl)
  header_by st pending (w ∷ []) [] e d over lone = same_told _ (omega (arith, ap length e))
  header_by st pending (w ∷ []) (v ∷ vs) e d over lone = lone_by_told st pending w v vs w.sort refl (omega (arith, ap length e)) over lone
  header_by st pending (one ∷ two ∷ ws) a e d over lone = made x 0 _ _ _ _
      (subst (λ (q : List WordAt). Told x 0 (version_by pending (one ∷ two ∷ ws) one two two.sort) (version_by pending ((one ∷ two ∷ ws) ++ q) one two two.sort)) d
      (subst (λ (q : List WordAt). Told x 0 (version_by pending q one two two.sort) (version_by pending (q ++ x.a) one two two.sort)) e (version_told pending one two two.sort (omega (arith, ap length e)))))

  -- ---- a line

  section_told : (st : State) (section : Section) → IsKept section → (is_header section ≡ true → is_over x.p ≡ true → ⊥) → (is_header section ≡ true → is_lone x.p ≡ true → ⊥)
      → Told x 0 (by_section st x.p section) (by_section st (x.p ++ x.a) section)
  section_told st (sections.Header pending) kept over lone = header_by st pending x.p x.a refl refl (over refl) (lone refl)
  section_told st sections.Top kept over lone = top_told st
  section_told st (sections.Interface i) kept over lone = interface_told st i
  section_told st (sections.Class c) kept over lone = class_told st c
  section_told st (sections.Body c head code) kept over lone = body_told st c head code kept
  section_told st (sections.Filter rules) kept over lone = filter_told st rules
  section_told st (sections.Thread code) kept over lone = thread_told st code kept

  step_by : (st : State) (p a : List WordAt) → x.p ≡ p → x.a ≡ a → Told x 0 (by_section st p st.section) (by_section st (p ++ a) st.section) → Told x 0 (step st p) (step st (p ++ a))
  unfolding step
  step_by st [] [] e d h = record { told = λ f q. absurd cc; late = λ l. okay x st }
  step_by st [] (w ∷ ws) e d h = let late : Outside x (by_section st (w ∷ ws) st.section) = h.late (omega (arith, ap length e)) in record { told = λ f q. inr (late.of f q); late = λ l. late }
  step_by st (w ∷ ws) a e d h = h

  -- each fault of a line is that of its words in front of the cut, or it stands behind the cut
  pub line_told : (st : State) → IsKept st.section → (is_header st.section ≡ true → is_over x.p ≡ true → ⊥) → (is_header st.section ≡ true → is_lone x.p ≡ true → ⊥)
      → Told x 0 (step st x.p) (step st (x.p ++ x.a))
  line_told st kept over lone = step_by st x.p x.a refl refl (section_told st st.section kept over lone)
