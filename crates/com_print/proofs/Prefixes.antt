-- A statement's words are the same where more is declared behind what it names.
use Rattle.std.proofs.Common.{◌≡◌, ℕ, zero, suc, ◌-◌, ◌<◌, List, [], ◌∷◌, ◌++◌, map, Option, Some, None, length, take, get_or, get_or-take, slice_get, refl, sym, ap, ◌∙◌, arith, codes}
use Rattle.com_body.specs.declared.operands.Asked.{Asked}
use Rattle.com_body.specs.declared.operands.Asked.TheVariants as askeds
use Rattle.com_body.specs.declared.operands.Arg.{Arg}
use Rattle.com_body.specs.declared.operands.Destination.{Destination}
use Rattle.com_body.specs.declared.operands.Destination.TheVariants as destinations
use Rattle.com_body.specs.declared.statements.Stmt.{Stmt}
use Rattle.com_body.specs.declared.statements.Stmt.TheVariants as stmts
use Rattle.com_classes.specs.declared.interfaces.Interface.{Interface}
use Rattle.com_read_statements.specs.declared.keywords.Program.{Program}
use Rattle.com_read_statements.specs.declared.names.Names.{Names}
use Rattle.com_read_statements.specs.Calls.{in_methods, method_of}
use Rattle.com_print.specs.Spelled.{Spelled, plain}
use Rattle.com_print.specs.Words.{slot_word, arg_word, destination_words, name_at, asked_word}
use Rattle.com_print.specs.Ranges.{IsNamed}
use Rattle.com_print.specs.StatementWords.{statement_words, filter_word, alone_text, method_text, name_of, target_word}
use Rattle.com_print.specs.Standing.{Stands, Extends, IsFilter, IsCall}

same_name : (few all : List (List ℕ)) (n : ℕ) → take (length few) all ≡ few → n < length few → name_at all n ≡ name_at few n
same_name few all n e lt = sym (get_or-take (length few) all n [] lt) ∙ ap (λ (l : List (List ℕ)). get_or l n []) e

same_asked : (few all : List (List ℕ)) (low : ℕ) (a : Asked) → take (length few) all ≡ few → IsNamed few low a → asked_word all low a ≡ asked_word few low a
same_asked few all low (askeds.Number n) e is =
    let a = is.0 in
    let b = is.1 in
    ap plain (same_name few all (n - low) e (omega arith))
same_asked few all low (askeds.Guid g) e is = refl

same_filter : (few all : Names) (f : Option ℕ) → Extends few all → IsFilter few f → filter_word all f ≡ filter_word few f
same_filter few all None e is = refl
same_filter few all (Some n) e is =
    let a = is.0 in
    let b = is.1 in
    ap plain (same_name few.filters all.filters (n - 1) e.filters (omega arith))

-- what stands at an index of a list's front
at_front : {X : Type 0} (n : ℕ) (xs : List X) (k : ℕ) → k < n → slice_get (take n xs) k ≡ slice_get xs k
at_front zero xs k lt = absurd (omega (arith, lt))
at_front (suc n) [] k lt = refl
at_front (suc n) (y ∷ xs) zero lt = refl
at_front (suc n) (y ∷ xs) (suc k) lt = at_front n xs k (omega (arith, lt))

same_method : (few all : Names) (iface method : ℕ) → Extends few all → iface < length few.interfaces → method_of all.tables iface method ≡ method_of few.tables iface method
same_method few all iface method e lt =
    let n = length few.interfaces in
    ap (in_methods method) (
    sym (at_front n all.tables iface lt) ∙ ap (λ (l : List Interface). slice_get l iface) e.tables ∙ at_front n few.tables iface lt
    )

same_text : (few all : Names) (iface method : ℕ) (given : List Arg) (to : Destination) → Extends few all → iface < length few.interfaces
    → method_text all iface method given to ≡ method_text few iface method given to
same_text few all iface method [] destinations.Nowhere e lt = ap (alone_text method) (same_method few all iface method e lt)
same_text few all iface method [] (destinations.Register n) e lt = ap name_of (same_method few all iface method e lt)
same_text few all iface method [] (destinations.Slot n) e lt = ap name_of (same_method few all iface method e lt)
same_text few all iface method (a ∷ given) to e lt = ap name_of (same_method few all iface method e lt)

same_target : (few all : Names) (iface method : ℕ) (given : List Arg) (to : Destination) → Extends few all → IsCall few iface method given to → target_word all iface method given to ≡ target_word few iface method given to
same_target few all iface method given to e is =
    ap (λ (f : List ℕ). plain (f ++ 46 ∷ method_text all iface method given to)) (same_name few.interfaces all.interfaces iface e.interfaces is.0)
    ∙ ap (λ (t : List ℕ). plain (name_at few.interfaces iface ++ 46 ∷ t)) (same_text few all iface method given to e is.0)

pub words_same : (p : Program) (few all : Names) (s : Stmt) → Extends few all → Stands p few s → statement_words all s ≡ statement_words few s
words_same p few all (stmts.Create slot class iface) e is =
    ap (λ (w : Spelled). plain (codes "create") ∷ slot_word slot ∷ w ∷ asked_word all.interfaces 0 iface ∷ []) (same_asked few.classes all.classes 1 class e.classes is.0)
    ∙ ap (λ (w : Spelled). plain (codes "create") ∷ slot_word slot ∷ asked_word few.classes 1 class ∷ w ∷ []) (same_asked few.interfaces all.interfaces 0 iface e.interfaces is.1)
words_same p few all (stmts.Query to from iface) e is =
    ap (λ (w : Spelled). plain (codes "query") ∷ slot_word to ∷ slot_word from ∷ w ∷ []) (same_asked few.interfaces all.interfaces 0 iface e.interfaces is)
words_same p few all (stmts.Call slot iface method given to) e is =
    ap (λ (w : Spelled). plain (codes "call") ∷ slot_word slot ∷ w ∷ (map arg_word given ++ destination_words to)) (same_target few all iface method given to e is)
words_same p few all (stmts.SetFilter filter) e is =
    ap (λ (w : Spelled). plain (codes "setfilter") ∷ w ∷ []) (same_filter few all filter e is.1)
words_same p few all _ e is = refl
