-- Texts of lines in parts.
use Rattle.std.proofs.Common.{◌≡◌, ℕ, ◌+◌, List, [], ◌∷◌, ◌++◌, map, drop, codes, refl, sym, ap, ◌∙◌, append_assoc, All, zero, suc, Some, None, length, arith, subst, ◌<◌, get_or}
use Rattle.std.proofs.lemmas.List.{append-nil, drop_more}
use Rattle.std.proofs.lemmas.List.Elements.{All-cons}
use Rattle.com_base.specs.declared.value.Kind.{Kind}
use Rattle.com_base.specs.Guids.{text_of as text_of_guid}
use Rattle.com_body.specs.declared.statements.Stmt.{Stmt}
use Rattle.com_classes.specs.declared.interfaces.Interface.{Interface}
use Rattle.com_classes.specs.declared.interfaces.Method.{Method}
use Rattle.com_classes.specs.declared.classes.Class.{Class}
use Rattle.com_classes.specs.declared.classes.MethodBody.{MethodBody}
use Rattle.com_filter.specs.declared.Rule.{Rule}
use Rattle.com_classes.specs.Tables.{Tables}
use Rattle.com_classes.specs.Lookups.{class_at}
use Rattle.com_read_statements.specs.declared.names.Names.{Names}
use Rattle.com_print.specs.Spelled.{Spelled, plain, more_text, words_text, line_text, text_of}
use Rattle.com_print.specs.Ranges.{Fits, IsGuid}
use Rattle.com_print.specs.StatementWords.{statement_words}
use Rattle.com_print.proofs.StatementPieces.{both_texts, words_behind}
use Rattle.com_print_scenario.specs.Printed.{kind_word, method_words, interface_words, interface_lines, program_lines, body_words, bodies_lines, class_head, interface_name, class_lines, classes_lines, rule_words, rules_lines, filter_words, filters_lines, thread_words, threads_lines, number_word, kept_word, picks_lines, model_word}
use Rattle.com_print_scenario.specs.Ranges.{FitsProgram, FitsBodies, FitsClass, FitsInterface}
use Rattle.com_print_scenario.proofs.Lists.{next_class, no_class, all_dropped}

-- lines, and more lines behind them
pub all_text : (a b : List (List Spelled)) → text_of (a ++ b) ≡ text_of a ++ text_of b
all_text [] b = refl
all_text (l ∷ a) b = ap (λ (t : List ℕ). line_text l ++ t) (all_text a b) ∙ sym (append_assoc (line_text l) (text_of a) (text_of b))

-- a text grows by a line, and then by more
line_in_two : (text longer line more : List ℕ) → longer ≡ text ++ line → longer ++ more ≡ text ++ (line ++ more)
line_in_two text longer line more h = ap (λ (t : List ℕ). t ++ more) h ∙ append_assoc text line more

-- by lines, more lines, and then more
lines_in_three : (text second longer line : List ℕ) (lines : List (List Spelled)) (others : List (List Spelled)) → second ≡ text ++ line → longer ≡ second ++ text_of lines
    → longer ++ text_of others ≡ text ++ (line ++ text_of (lines ++ others))
lines_in_three text second longer line lines others a b =
    line_in_two second longer (text_of lines) (text_of others) b
    ∙ line_in_two text second line (text_of lines ++ text_of others) a
    ∙ ap (λ (t : List ℕ). text ++ (line ++ t)) (sym (all_text lines others))

-- a word of a list, and then the others
word_in_two : (text longer : List ℕ) (w : Spelled) (ws : List Spelled) → longer ≡ text ++ more_text (w ∷ []) → longer ++ more_text ws ≡ text ++ more_text (w ∷ ws)
word_in_two text longer w ws h =
    ap (λ (t : List ℕ). t ++ more_text ws) h
    ∙ append_assoc text (more_text (w ∷ [])) (more_text ws)
    ∙ ap (λ (t : List ℕ). text ++ t) (sym (both_texts (w ∷ []) ws))

-- ---- interfaces

pub kind_first : (text longer : List ℕ) (names : List (List ℕ)) (k : Kind) (rest : List Kind) → longer ≡ text ++ more_text (kind_word names k ∷ [])
    → longer ++ more_text (map (kind_word names) rest) ≡ text ++ more_text (map (kind_word names) (k ∷ rest))
kind_first text longer names k rest h = word_in_two text longer (kind_word names k) (map (kind_word names) rest) h

pub method_first : (text longer : List ℕ) (names : List (List ℕ)) (m : Method) (rest : List Method) → longer ≡ text ++ line_text (method_words names m)
    → longer ++ text_of (map (method_words names) rest) ≡ text ++ text_of (map (method_words names) (m ∷ rest))
method_first text longer names m rest h = line_in_two text longer (line_text (method_words names m)) (text_of (map (method_words names) rest)) h

pub interface_first : (text longer : List ℕ) (names : List (List ℕ)) (i : Interface) (rest : List Interface)
    → longer ≡ text ++ (line_text (interface_words i) ++ text_of (map (method_words names) i.methods)) → longer ++ text_of (interface_lines names rest) ≡ text ++ text_of (interface_lines names (i ∷ rest))
interface_first text longer names i rest h =
    let line = line_text (interface_words i) in
    let methods = map (method_words names) i.methods in
    line_in_two text longer (line ++ text_of methods) (text_of (interface_lines names rest)) h
    ∙ ap (λ (t : List ℕ). text ++ t) (append_assoc line (text_of methods) (text_of (interface_lines names rest)))
    ∙ ap (λ (t : List ℕ). text ++ (line ++ t)) (sym (all_text methods (interface_lines names rest)))

pub interfaces_fit : (i : Interface) (rest whole : List Interface) → (All FitsInterface (i ∷ rest) → All FitsInterface whole) → IsGuid i.iid → All FitsInterface rest → All FitsInterface whole
interfaces_fit i rest whole f one all = f (All-cons FitsInterface i rest one all)

-- ---- bodies

pub statement_first : (text longer : List ℕ) (names : Names) (s : Stmt) (rest : List Stmt) → longer ≡ text ++ line_text (statement_words names s)
    → longer ++ text_of (program_lines names rest) ≡ text ++ text_of (program_lines names (s ∷ rest))
statement_first text longer names s rest h = line_in_two text longer (line_text (statement_words names s)) (text_of (program_lines names rest)) h

pub statements_fit : (s : Stmt) (rest whole : List Stmt) → (FitsProgram (s ∷ rest) → FitsProgram whole) → Fits s → FitsProgram rest → FitsProgram whole
statements_fit s rest whole f one all = f (All-cons Fits s rest one all)

pub body_first : (text second longer : List ℕ) (names : Names) (b : MethodBody) (rest : List MethodBody) → second ≡ text ++ line_text (body_words names b)
    → longer ≡ second ++ text_of (program_lines names b.body) → longer ++ text_of (bodies_lines names rest) ≡ text ++ text_of (bodies_lines names (b ∷ rest))
body_first text second longer names b rest a h = lines_in_three text second longer (line_text (body_words names b)) (program_lines names b.body) (bodies_lines names rest) a h

pub bodies_fit : (b : MethodBody) (rest whole : List MethodBody) → (FitsBodies (b ∷ rest) → FitsBodies whole) → FitsProgram b.body → FitsBodies rest → FitsBodies whole
bodies_fit b rest whole f one all = f (All-cons (λ (x : MethodBody). FitsProgram x.body) b rest one all)

pub listed_first : (text longer : List ℕ) (names : Names) (i : ℕ) (rest : List ℕ) → longer ≡ text ++ more_text (interface_name names i ∷ [])
    → longer ++ more_text (map (interface_name names) rest) ≡ text ++ more_text (map (interface_name names) (i ∷ rest))
listed_first text longer names i rest h = word_in_two text longer (interface_name names i) (map (interface_name names) rest) h

-- ---- classes

-- a line's words, words behind them, and the line's end
line_behind : (text first second : List ℕ) (w : Spelled) (ws more : List Spelled) → first ≡ text ++ words_text (w ∷ ws) → second ≡ first ++ more_text more
    → second ++ 10 ∷ [] ≡ text ++ line_text (w ∷ (ws ++ more))
line_behind text first second w ws more a b =
    ap (λ (t : List ℕ). t ++ 10 ∷ []) (b ∙ words_behind text first w ws more a) ∙ append_assoc text (words_text (w ∷ (ws ++ more))) (10 ∷ [])

-- a class's name, CLSID and model
abbrev head_words : Class → List Spelled
head_words c = plain c.name ∷ plain (text_of_guid c.clsid) ∷ model_word c.model ∷ []

pub class_behind : (text first second : List ℕ) (word : List ℕ) (c : Class) (more : List Spelled) → first ≡ text ++ words_text (class_head word c []) → second ≡ first ++ more_text more
    → second ++ 10 ∷ [] ≡ text ++ line_text (class_head word c more)
class_behind text first second word c more a b = line_behind text first second (plain word) (head_words c) more a b

pub method_behind : (text first second third : List ℕ) (name : List ℕ) (kinds result : List Spelled) → first ≡ text ++ words_text (plain (codes "method") ∷ plain name ∷ []) → second ≡ first ++ more_text kinds
    → third ≡ second ++ more_text result → third ++ 10 ∷ [] ≡ text ++ line_text (plain (codes "method") ∷ plain name ∷ (kinds ++ result))
method_behind text first second third name kinds result a b c =
    line_behind text second third (plain (codes "method")) (plain name ∷ kinds) result (b ∙ words_behind text first (plain (codes "method")) (plain name ∷ []) kinds a) c

-- a class, and then the others of the tables
pub class_first : (text longer : List ℕ) (names : Names) (t : Tables) (n : ℕ) (c : Class) → Some c ≡ class_at t (n + 1)
    → longer ≡ text ++ text_of (class_lines names c c.native) → longer ++ text_of (classes_lines names (drop (n + 1) t.classes)) ≡ text ++ text_of (classes_lines names (drop n t.classes))
class_first text longer names t n c is h =
    line_in_two text longer (text_of (class_lines names c c.native)) (text_of (classes_lines names (drop (n + 1) t.classes))) h
    ∙ ap (λ (x : List ℕ). text ++ x) (sym (all_text (class_lines names c c.native) (classes_lines names (drop (n + 1) t.classes))))
    ∙ ap (λ (x : List Class). text ++ text_of (classes_lines names x)) (sym (next_class t n c is))

pub classes_done : (text : List ℕ) (names : Names) (t : Tables) (n : ℕ) → None ≡ class_at t (n + 1) → text ++ text_of (classes_lines names (drop n t.classes)) ≡ text
classes_done text names t n is = ap (λ (x : List Class). text ++ text_of (classes_lines names x)) (no_class t n is) ∙ append-nil text

pub classes_fit : (t : Tables) (n : ℕ) (c : Class) (whole : List Class) → Some c ≡ class_at t (n + 1) → (All FitsClass (drop n t.classes) → All FitsClass whole) → FitsClass c
    → All FitsClass (drop (n + 1) t.classes) → All FitsClass whole
classes_fit t n c whole is f one all = f (subst (All FitsClass) (sym (next_class t n c is)) (All-cons FitsClass c (drop (n + 1) t.classes) one all))

pub classes_fit_all : (t : Tables) (n : ℕ) (whole : List Class) → None ≡ class_at t (n + 1) → (All FitsClass (drop n t.classes) → All FitsClass whole) → All FitsClass whole
classes_fit_all t n whole is f = f (subst (All FitsClass) (sym (no_class t n is)) (λ k d lt. absurd (omega arith)))

-- ---- filters

pub kept_other : (n : ℕ) → (n ≡ 0 → ⊥) → (n ≡ 1 → ⊥) → kept_word n ≡ plain (codes "discard")
kept_other zero h k = absurd (h refl)
kept_other (suc zero) h k = absurd (k refl)
kept_other (suc (suc n)) h k = refl

pub rule_first : (text longer : List ℕ) (r : Rule) (rest : List Rule) → longer ≡ text ++ line_text (rule_words r)
    → longer ++ text_of (rules_lines rest) ≡ text ++ text_of (rules_lines (r ∷ rest))
rule_first text longer r rest h = line_in_two text longer (line_text (rule_words r)) (text_of (rules_lines rest)) h

filter_at : (filters : List (List Rule)) (n m : ℕ) (f : List Rule) → n < length filters → f ≡ get_or filters n f
    → filters_lines m (drop n filters) ≡ filter_words m ∷ (rules_lines f ++ filters_lines (m + 1) (drop (n + 1) filters))
filter_at filters n m f lt is =
    ap (filters_lines m) (drop_more filters n f lt)
    ∙ ap (λ (x : List Rule). filter_words m ∷ (rules_lines x ++ filters_lines (m + 1) (drop (n + 1) filters))) (sym is)

pub filter_first : (text second longer : List ℕ) (filters : List (List Rule)) (n : ℕ) (f : List Rule) → n < length filters → f ≡ get_or filters n f
    → second ≡ text ++ line_text (filter_words (n + 1)) → longer ≡ second ++ text_of (rules_lines f)
    → longer ++ text_of (filters_lines (n + 1 + 1) (drop (n + 1) filters)) ≡ text ++ text_of (filters_lines (n + 1) (drop n filters))
filter_first text second longer filters n f lt is a b =
    lines_in_three text second longer (line_text (filter_words (n + 1))) (rules_lines f) (filters_lines (n + 1 + 1) (drop (n + 1) filters)) a b
    ∙ ap (λ (x : List (List Spelled)). text ++ text_of x) (sym (filter_at filters n (n + 1) f lt is))

pub filters_all : (text : List ℕ) (filters : List (List Rule)) (n m : ℕ) → n ≡ length filters → text ++ text_of (filters_lines m (drop n filters)) ≡ text
filters_all text filters n m e = ap (λ (k : ℕ). text ++ text_of (filters_lines m (drop k filters))) e ∙ ap (λ (x : List (List Rule)). text ++ text_of (filters_lines m x)) (all_dropped filters) ∙ append-nil text

-- ---- threads and picks

pub thread_first : (text second longer : List ℕ) (names : Names) (b : List Stmt) (rest : List (List Stmt)) → second ≡ text ++ line_text thread_words
    → longer ≡ second ++ text_of (program_lines names b) → longer ++ text_of (threads_lines names rest) ≡ text ++ text_of (threads_lines names (b ∷ rest))
thread_first text second longer names b rest a h = lines_in_three text second longer (line_text thread_words) (program_lines names b) (threads_lines names rest) a h

pub threads_fit : (b : List Stmt) (rest whole : List (List Stmt)) → (All FitsProgram (b ∷ rest) → All FitsProgram whole) → FitsProgram b → All FitsProgram rest → All FitsProgram whole
threads_fit b rest whole f one all = f (All-cons FitsProgram b rest one all)

pub pick_first : (text longer : List ℕ) (n : ℕ) (rest : List ℕ) → longer ≡ text ++ more_text (number_word n ∷ []) → longer ++ more_text (map number_word rest) ≡ text ++ more_text (map number_word (n ∷ rest))
pick_first text longer n rest h = word_in_two text longer (number_word n) (map number_word rest) h

pub picks_behind : (text first second : List ℕ) (ns : List ℕ) → 0 < length ns → first ≡ text ++ codes "picks" → second ≡ first ++ more_text (map number_word ns)
    → second ++ 10 ∷ [] ≡ text ++ text_of (picks_lines ns)
picks_behind text first second [] lt a b = absurd (omega arith)
picks_behind text first second (n ∷ ns) lt a b =
    line_behind text first second (plain (codes "picks")) [] (map number_word (n ∷ ns)) (a ∙ ap (λ (t : List ℕ). text ++ t) (sym (append-nil (codes "picks")))) b
    ∙ ap (λ (t : List ℕ). text ++ t) (sym (append-nil (line_text (plain (codes "picks") ∷ map number_word (n ∷ ns)))))
