-- The text of a whole scenario in parts.
use Rattle.std.proofs.Common.{◌≡◌, ℕ, ◌≤◌, List, [], ◌++◌, drop, length, sym, ap, ◌∙◌, append_assoc, arith, All}
use Rattle.std.proofs.lemmas.List.{length-append}
use Rattle.com_model.specs.declared.scenario.Scenario.{Scenario}
use Rattle.com_model.specs.Formed.{Formed}
use Rattle.com_classes.specs.BuiltIns.{built_in_interfaces}
use Rattle.com_print.specs.Spelled.{Spelled, line_text, text_of}
use Rattle.com_print_scenario.specs.Printed.{header_words, pool_words, names_in, interface_lines, classes_lines, filters_lines, threads_lines, picks_lines, sections_lines, scenario_lines, printed}
use Rattle.com_print_scenario.specs.Ranges.{FitsInterface, FitsClass, FitsProgram, FitsTypes}
use Rattle.com_print_scenario.proofs.Pieces.{all_text}
use Rattle.com_print_scenario.proofs.Whole.{built_first}

-- a text grows by lines
grown : (text longer whole : List ℕ) (lines others : List (List Spelled)) → longer ≡ text ++ text_of lines → whole ≡ longer ++ text_of others → whole ≡ text ++ text_of (lines ++ others)
grown text longer whole lines others a b =
    b ∙ ap (λ (t : List ℕ). t ++ text_of others) a ∙ append_assoc text (text_of lines) (text_of others)
    ∙ ap (λ (t : List ℕ). text ++ t) (sym (all_text lines others))

pub built_in_there : (s : Scenario) → Formed s → 4 ≤ length s.classes.interfaces
built_in_there s f =
    let e = ap length (built_first s f) in
    omega (arith, e, length-append built_in_interfaces (drop 4 s.classes.interfaces))

pub whole_text : (s : Scenario) (a b c d e f g : List ℕ) → a ≡ [] ++ line_text (header_words s.version) → b ≡ a ++ line_text (pool_words s.pool)
    → c ≡ b ++ text_of (interface_lines (names_in s).interfaces (drop 4 s.classes.interfaces)) → d ≡ c ++ text_of (classes_lines (names_in s) s.classes.classes)
    → e ≡ d ++ text_of (filters_lines 1 s.filters) → f ≡ e ++ text_of (threads_lines (names_in s) s.threads) → g ≡ f ++ text_of (picks_lines s.picks)
    → g ≡ printed s
unfolding scenario_lines
whole_text s a b c d e f g ha hb hc hd he hf hg =
    let n = names_in s in
    let threads = grown e f g (threads_lines n s.threads) (picks_lines s.picks) hf hg in
    let filters = grown d e g (filters_lines 1 s.filters) (threads_lines n s.threads ++ picks_lines s.picks) he threads in
    let classes = grown c d g (classes_lines n s.classes.classes) (filters_lines 1 s.filters ++ (threads_lines n s.threads ++ picks_lines s.picks)) hd filters in
    let interfaces : g ≡ b ++ text_of (sections_lines n s) = grown b c g (interface_lines n.interfaces (drop 4 s.classes.interfaces)) _ hc classes in
    interfaces ∙ ap (λ (t : List ℕ). t ++ text_of (sections_lines n s)) (hb ∙ ap (λ (t : List ℕ). t ++ line_text (pool_words s.pool)) ha)
    ∙ append_assoc (line_text (header_words s.version)) (line_text (pool_words s.pool)) (text_of (sections_lines n s))

pub whole_fits : (s : Scenario) → All FitsInterface (drop 4 s.classes.interfaces) → All FitsClass s.classes.classes → All FitsProgram s.threads → FitsTypes s
whole_fits s interfaces classes threads = record { interfaces = interfaces; classes = classes; threads = threads }
