-- A number's scenario is spelled by its text.
use Rattle.std.proofs.Common.{◌≡◌, ℕ, zero, suc, ◌+◌, ◌-◌, ◌<◌, ◌%◌, ◌==◌, List, [], ◌∷◌, ◌++◌, map, Bool}
use Rattle.std.proofs.Common.{true, false, if◌then◌else◌, codes, decimal, refl, sym, ap, ◌∙◌, append_assoc}
use Rattle.std.proofs.Common.{arith}
use Rattle.std.specs.Fmt.{digits}
use Rattle.std.proofs.lemmas.Fmt.{decimal_digit}
use Rattle.std.proofs.lemmas.List.{append-nil, map-append}
use Rattle.uuid.specs.Text.{by_index}
use Rattle.rand_pcg.specs.Lcg.{Lcg}
use Rattle.com_base.specs.declared.value.Mode.{Mode}
use Rattle.com_base.specs.declared.value.Mode.TheVariants as modes
use Rattle.com_body.specs.declared.statements.Stmt.{Stmt}
use Rattle.com_classes.specs.BuiltIns.{built_in_interfaces}
use Rattle.com_read_statements.specs.declared.names.Names.{Names}
use Rattle.com_print.specs.Spelled.{Spelled, plain, line_text, text_of}
use Rattle.com_print.specs.Words.{mode_word, name_at}
use Rattle.com_print.specs.StatementWords.{statement_words}
use Rattle.com_print_scenario.specs.Printed.{program_lines, thread_words, threads_lines}
use Rattle.com_print_scenario.specs.Printed.{scenario_lines, printed}
use Rattle.com_print_scenario.proofs.Pieces.{all_text}
use Rattle.com_gen.specs.Loads.{seeded, word, behind, behind_rounds, behind_scripts, head_text}
use Rattle.com_gen.specs.Loads.{apartment_text, round_of, rounds_text, script_text, scripts_text, load_text}
use Rattle.com_laws_load.specs.LoadScenarios.{counters, round, round_from, rounds, script, scripts}
use Rattle.com_laws_load.specs.LoadScenarios.{with_threads, load_scenario}

-- what the head declares
abbrev names : Names
names = record {
  classes = map (λ c. c.name) counters;
  interfaces = map (λ i. i.name) built_in_interfaces;
  filters = [];
  tables = built_in_interfaces;
}

abbrev words : Stmt → List Spelled
words s = statement_words names s

-- ---- a round

class_named : (k : ℕ) → k < 5 → name_at names.classes (1 + k - 1) ≡ 78 ∷ decimal (1 + k)
class_named zero h = ap (λ (d : List ℕ). 78 ∷ d) (sym (decimal_digit 1 (omega arith)))
class_named (suc zero) h = ap (λ (d : List ℕ). 78 ∷ d) (sym (decimal_digit 2 (omega arith)))
class_named (suc (suc zero)) h = ap (λ (d : List ℕ). 78 ∷ d) (sym (decimal_digit 3 (omega arith)))
class_named (suc (suc (suc zero))) h = ap (λ (d : List ℕ). 78 ∷ d) (sym (decimal_digit 4 (omega arith)))
class_named (suc (suc (suc (suc zero)))) h = ap (λ (d : List ℕ). 78 ∷ d) (sym (decimal_digit 5 (omega arith)))
class_named (suc (suc (suc (suc (suc k))))) h = absurd (omega (arith, h))

-- the lines of a round, from the digits of 0 and 1 on
abbrev create_words : (class zeroth : List ℕ) → List Spelled
create_words class zeroth =
    plain (codes "create") ∷ plain (115 ∷ zeroth) ∷ plain class ∷ plain (codes "ICounter") ∷ []

abbrev call_words : (zeroth first argument : List ℕ) → List Spelled
call_words zeroth first argument =
    plain (codes "call") ∷ plain (115 ∷ zeroth) ∷ plain (codes "ICounter.add") ∷ plain argument
    ∷ plain (codes "->") ∷ plain (114 ∷ first) ∷ []

abbrev round_lines : (class zeroth first argument : List ℕ) → List (List Spelled)
round_lines class zeroth first argument =
    create_words class zeroth ∷ call_words zeroth first argument
    ∷ (plain (codes "release") ∷ plain (115 ∷ zeroth) ∷ []) ∷ []

regroup : (a b c d : List ℕ) → ((a ++ b) ++ c) ++ d ≡ a ++ (b ++ (c ++ d))
regroup a b c d = simp append_assoc

in_a_row : (a b c d e : List ℕ) → a ++ b ++ c ++ d ++ e ≡ a ++ (b ++ (c ++ (d ++ e)))
in_a_row a b c d e = simp append_assoc

abbrev create_text : List ℕ
create_text = codes "create s0 N"

abbrev call_text : List ℕ
call_text = codes " ICounter\ncall s0 ICounter.add "

abbrev release_text : List ℕ
release_text = codes " -> r1\nrelease s0\n"

round_spelled : (class argument : List ℕ)
    → text_of (round_lines (78 ∷ class) (48 ∷ []) (49 ∷ []) argument)
    ≡ create_text ++ class ++ call_text ++ argument ++ release_text
round_spelled class argument =
    let released = ((argument ++ codes " -> r1") ++ codes "\n") ++ codes "release s0\n" in
    let called = codes "call s0 ICounter.add " ++ released in
    ap (λ (t : List ℕ). create_text ++ t) (regroup class (codes " ICounter") (codes "\n") called)
    ∙ ap (λ (t : List ℕ). create_text ++ (class ++ (call_text ++ t)))
    (regroup argument (codes " -> r1") (codes "\n") (codes "release s0\n"))
    ∙ sym (in_a_row create_text class call_text argument release_text)

round_text : (class argument : ℕ) → text_of (map words (round class argument)) ≡ round_of class argument
unfolding round_of
round_text class argument =
    let number = decimal (argument % 1000) in
    let k : class % 5 < 5 = omega arith in
    let name = 78 ∷ decimal (1 + class % 5) in
    ap (λ (x : List ℕ). text_of (round_lines x (decimal 0) (decimal 1) number)) (class_named (class % 5) k)
    ∙ ap (λ (zeroth : List ℕ). text_of (round_lines name zeroth (decimal 1) number))
    (decimal_digit 0 (omega arith))
    ∙ ap (λ (first : List ℕ). text_of (round_lines name (48 ∷ []) first number))
    (decimal_digit 1 (omega arith))
    ∙ round_spelled (decimal (1 + class % 5)) number

rounds_spelled : (n : ℕ) (g : Lcg) → text_of (map words (rounds n g)) ≡ rounds_text n g
unfolding rounds rounds_text
rounds_spelled zero g = refl
rounds_spelled (suc n) g =
    let h = behind_rounds n g in
    ap text_of (map-append words (rounds n g) (round_from h))
    ∙ all_text (map words (rounds n g)) (map words (round_from h))
    ∙ ap (λ (t : List ℕ). t ++ text_of (map words (round_from h))) (rounds_spelled n g)
    ∙ ap (λ (t : List ℕ). rounds_text n g ++ t) (round_text (word h) (word (behind h)))

-- ---- a script

program_spelled : (statements : List Stmt)
    → text_of (program_lines names statements) ≡ text_of (map words statements) ++ codes "end\n"
program_spelled [] = refl
program_spelled (s ∷ ss) =
    ap (λ (t : List ℕ). line_text (words s) ++ t) (program_spelled ss)
    ∙ sym (append_assoc (line_text (words s)) (text_of (map words ss)) (codes "end\n"))

abbrev mode_for : Bool → Mode
mode_for odd = if odd then modes.Sta else modes.Mta

opening_spelled : (odd : Bool) (rest : List ℕ)
    → line_text thread_words ++ (line_text (plain (codes "init") ∷ mode_word (mode_for odd) ∷ []) ++ rest)
    ≡ (if odd then codes "thread\ninit sta\n" else codes "thread\ninit mta\n") ++ rest
opening_spelled true rest = refl
opening_spelled false rest = refl

script_spelled : (g : Lcg) → text_of (threads_lines names (script g ∷ [])) ≡ script_text g
script_spelled g =
    let rounds_on = rounds 400 (behind g) in
    let front = apartment_text (word g) in
    ap (λ (ls : List (List Spelled)). text_of (thread_words ∷ ls))
    (append-nil (program_lines names (script g)))
    ∙ opening_spelled (word g % 2 == 1) (text_of (program_lines names rounds_on))
    ∙ ap (λ (t : List ℕ). front ++ t) (program_spelled rounds_on)
    ∙ ap (λ (t : List ℕ). front ++ (t ++ codes "end\n")) (rounds_spelled 400 (behind g))
    ∙ sym (append_assoc front (rounds_text 400 (behind g)) (codes "end\n"))

threads_in_two : (a b : List (List Stmt))
    → threads_lines names (a ++ b) ≡ threads_lines names a ++ threads_lines names b
threads_in_two [] b = refl
threads_in_two (x ∷ a) b =
    let one = program_lines names x in
    ap (λ (ls : List (List Spelled)). thread_words ∷ (one ++ ls)) (threads_in_two a b)
    ∙ ap (λ (ls : List (List Spelled)). thread_words ∷ ls)
    (sym (append_assoc one (threads_lines names a) (threads_lines names b)))

scripts_spelled : (n : ℕ) (g : Lcg) → text_of (threads_lines names (scripts n g)) ≡ scripts_text n g
unfolding scripts scripts_text
scripts_spelled zero g = refl
scripts_spelled (suc n) g =
    let last = script (behind_scripts n g) ∷ [] in
    ap text_of (threads_in_two (scripts n g) last)
    ∙ all_text (threads_lines names (scripts n g)) (threads_lines names last)
    ∙ ap (λ (t : List ℕ). t ++ text_of (threads_lines names last)) (scripts_spelled n g)
    ∙ ap (λ (t : List ℕ). scripts_text n g ++ t) (script_spelled (behind_scripts n g))

-- ---- the whole

-- The digits and the GUIDs of the head compute.
head_spelled : (threads : List (List Stmt))
    → printed (with_threads threads) ≡ head_text ++ text_of (threads_lines names threads)
unfolding scenario_lines by_index digits
head_spelled threads =
    ap (λ (ls : List (List Spelled)). head_text ++ text_of ls) (append-nil (threads_lines names threads))

pub load_spelled : (number : ℕ) → printed (load_scenario number) ≡ load_text number
unfolding load_scenario
load_spelled number =
    head_spelled (scripts 8 (seeded number))
    ∙ ap (λ (t : List ℕ). head_text ++ t) (scripts_spelled 8 (seeded number))
