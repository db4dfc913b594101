-- A body that begins with some statements, and does not go on with others.
use Rattle.std.proofs.Common.{sym, ap, ◌∙◌}
use Rattle.std.proofs.lemmas.List.{append_cancel_left}
use Rattle.std.specs.Prelude.{◌≡◌, Bool, false, List, [], ◌∷◌, ◌++◌, Option, Some, None, IfNone, IsTrue}
use Rattle.com_body.specs.declared.statements.Stmt.{Stmt}
use Rattle.com_body.specs.declared.statements.Stmt.TheVariants as stmt
use Rattle.com_body.specs.declared.operands.Given.TheVariants as given
use Rattle.com_body.specs.declared.operands.Place.TheVariants as place
use Rattle.com_laws_sources.specs.Bodies.{ok, int, move_down, no_connection, advise_limit, leave_with, leave_register, take_place, look_in, look_at, send_event, event_round}

pub peel : (front rest more body : List Stmt) → body ≡ front ++ rest → body ≡ front ++ more → rest ≡ more
peel front rest more body e p = append_cancel_left front rest more (sym e ∙ p)

pub if_none : {X : Type 0} (r : Option X) (P : Type 0) → P → IfNone r P
if_none None P p = p
if_none (Some x) P p = tt

pub none_map : {X : Type 0} (r : Option X) (P Q : Type 0) → (P → Q) → IfNone r P → IfNone r Q
none_map None P Q f p = f p
none_map (Some x) P Q f p = tt

-- ---- what stands behind, in each body

abbrev pub places_3 : List Stmt → List Stmt
places_3 x = take_place 3 ++ (leave_with advise_limit given.Nothing ∷ x)

abbrev pub places_2 : List Stmt → List Stmt
places_2 x = take_place 2 ++ places_3 x

abbrev pub places_1 : List Stmt → List Stmt
places_1 x = take_place 1 ++ places_2 x

abbrev pub places_0 : List Stmt → List Stmt
places_0 x = take_place 0 ++ places_1 x

abbrev pub looks_3 : List Stmt → List Stmt
looks_3 x = look_in 3 ++ (leave_with no_connection given.Nothing ∷ x)

abbrev pub looks_2 : List Stmt → List Stmt
looks_2 x = look_in 2 ++ looks_3 x

abbrev pub looks_1 : List Stmt → List Stmt
looks_1 x = look_in 1 ++ looks_2 x

abbrev pub looks_0 : List Stmt → List Stmt
looks_0 x = look_in 0 ++ looks_1 x

abbrev pub sends : List Stmt → List Stmt
sends x = (leave_register 6 ∷ send_event) ++ x

abbrev pub finds_3 : List Stmt → List Stmt
finds_3 x = look_at 3 ++ sends x

abbrev pub finds_2 : List Stmt → List Stmt
finds_2 x = look_at 2 ++ finds_3 x

abbrev pub finds_1 : List Stmt → List Stmt
finds_1 x = look_at 1 ++ finds_2 x

abbrev pub finds_0 : List Stmt → List Stmt
finds_0 x = look_at 0 ++ finds_1 x

abbrev pub rounds_1 : List Stmt → List Stmt
rounds_1 x = event_round ++ x

abbrev pub rounds_2 : List Stmt → List Stmt
rounds_2 x = event_round ++ rounds_1 x

abbrev pub rounds_3 : List Stmt → List Stmt
rounds_3 x = event_round ++ rounds_2 x

abbrev pub rounds_4 : List Stmt → List Stmt
rounds_4 x = event_round ++ rounds_3 x

-- ---- a whole body

pub whole : (front rest more body : List Stmt) (b : Bool) → body ≡ front ++ rest → (IsTrue b → rest ≡ more) × (rest ≡ more → IsTrue b) → (IsTrue b → body ≡ front ++ more) × (body ≡ front ++ more → IsTrue b)
whole front rest more body b e f = (λ t. e ∙ ap (λ (xs : List Stmt). front ++ xs) (f.0 t), λ p. f.1 (peel front rest more body e p))

pub never : (body other : List Stmt) → (body ≡ other → ⊥) → (IsTrue false → body ≡ other) × (body ≡ other → IsTrue false)
never body other f = (λ t. cc, λ p. absurd (f p))

abbrev pub moves : List Stmt → List Stmt
moves x = move_down 0 ++ (move_down 1 ++ (move_down 2 ++ x))

abbrev pub unadvise_end : List Stmt
unadvise_end = stmt.Store 3 (int 0) ∷ stmt.Release (place.Link 3) ∷ leave_with ok given.Nothing ∷ []
