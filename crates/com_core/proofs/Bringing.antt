-- What comes to places by an entry: references that pass a test, where what its step writes and what it carries do; and few of them.
use Rattle.std.proofs.Common.{◌≡◌, ℕ, zero, suc, true, false, cond, not, ◌&&◌, ◌+◌, ◌<◌, ◌≤◌, List, [], ◌∷◌, ◌++◌, length, refl, sym, ap, subst, arith}
use Rattle.std.specs.Prelude.{Option, Some, None, All, slice_index_or}
use Rattle.com_base.specs.declared.value.RefValue.{RefValue}
use Rattle.com_base.specs.declared.value.Value.{Value}
use Rattle.com_base.specs.declared.value.Value.TheVariants as value
use Rattle.com_body.specs.declared.actions.Action.{Action}
use Rattle.com_body.specs.declared.actions.Action.TheVariants as action
use Rattle.com_body.specs.declared.frame.Outcome.{Outcome}
use Rattle.com_body.specs.declared.operands.Place.{Place}
use Rattle.com_body.specs.declared.operands.Place.TheVariants as place
use Rattle.com_body.specs.declared.operands.Destination.{Destination}
use Rattle.com_body.specs.declared.operands.Destination.TheVariants as destination
use Rattle.com_body.specs.Frames.{references}
use Rattle.com_model.specs.declared.deeds.Deed.{Deed}
use Rattle.com_model.specs.declared.deeds.Deed.TheVariants as deed
use Rattle.com_model.specs.declared.deeds.Entry.{Entry}
use Rattle.com_model.specs.Apartments.{ends_sta}
use Rattle.com_model.specs.Calls.{is_direct, route_of}
use Rattle.com_model.specs.Frames.{Actor, Body, Script, Nobody, taken_in, value_reference}
use Rattle.com_model.specs.Places.{Ground}
use Rattle.com_model.specs.State.{SceneTables}
use Rattle.com_laws_places.specs.Moves.{Move as Moving, moved, all_moved, entered_where, result_moved, slots_where}
use Rattle.com_laws_values.specs.Held.{HeldBy, ValueBy, ResultBy}
use Rattle.com_laws_values.proofs.Scenes.{OutBy}
use Rattle.com_laws_values.proofs.Walks.{ActionBy, all-head, all-tail}
use Rattle.com_reference_moves.specs.declared.moves.Move.{Move}
use Rattle.com_reference_moves.specs.declared.written.Written.{Written}
use Rattle.com_reference_moves.specs.Steps.{acted_stepped, arrived_stepped, ended_stepped, given_moves, moves_stepped, movings_of, place_moves, place_write, slots_stepped, step_moves}
use Rattle.com_refs_rows.specs.Moving.{no_move}
use Rattle.com_scene.specs.Ranges.{FitsDeed}
use Rattle.com_state.specs.SceneParts.{destination_at}

-- Each reference passes the test.
abbrev pub AllMoves : (R : RefValue → Type 0) → List Moving → Type 0
AllMoves R [] = Unit {0}
AllMoves R (m ∷ ms) = R m.reference × AllMoves R ms

all-both : (R : RefValue → Type 0) (xs ys : List Moving) → AllMoves R xs → AllMoves R ys → AllMoves R (xs ++ ys)
all-both R [] ys p q = q
all-both R (x ∷ xs) ys p q = (p.0, all-both R xs ys p.1 q)

len-both : (xs ys : List Moving) → length (xs ++ ys) ≡ length xs + length ys
len-both [] ys = omega arith
len-both (x ∷ xs) ys = omega (arith, len-both xs ys)

-- ---- one reference

moved-by : (R : RefValue → Type 0) (a : Option ℕ) (held : Option RefValue) → HeldBy R held → AllMoves R (moved a held)
moved-by R None held p = tt
moved-by R (Some a) None p = tt
moved-by R (Some a) (Some r) p = (p, tt)

moved-one : (a : Option ℕ) (held : Option RefValue) → length (moved a held) ≤ 1
moved-one None held = omega arith
moved-one (Some a) None = omega arith
moved-one (Some a) (Some r) = omega arith

reference-by : (R : RefValue → Type 0) (v : Option Value) → ResultBy R v → HeldBy R (value_reference v)
reference-by R None p = tt
reference-by R (Some (value.Ref held)) p = p
reference-by R (Some (value.Int x)) p = tt
reference-by R (Some (value.Bool x)) p = tt
reference-by R (Some (value.Text x)) p = tt
reference-by R (Some (value.Bytes x)) p = tt
reference-by R (Some (value.Guid x)) p = tt

-- ---- what an action writes

abbrev WrittenBy : (R : RefValue → Type 0) → Option Written → Type 0
WrittenBy R None = Unit {0}
WrittenBy R (Some x) = HeldBy R x.held

write-by : (R : RefValue → Type 0) (a : Action) (d : Deed) → ActionBy R a → HeldBy R (taken_in d) → WrittenBy R (place_write a d)
write-by R (action.Create slot k i) d p t = t
write-by R (action.Query to held i) d p t = t
write-by R (action.Copy to held) d p t = p
write-by R (action.Release from held) d p t = tt
write-by R (action.Unmarshal slot b) d p t = t
write-by R (action.Get slot g) d p t = t
write-by R _ d p t = tt

placed-by : (R : RefValue → Type 0) (g : Ground) (a : Actor) (r : Outcome) (x : Place) (held : Option RefValue) → HeldBy R held → AllMoves R (place_moves g a r x held).gained
placed-by R g a r (place.Slot k) held p = moved-by R (slots_where g a) held p
placed-by R g (Body c o) r (place.Link k) held p = moved-by R (Some (g.named o)) held p
placed-by R g (Script l) r (place.Link k) held p = tt
placed-by R g Nobody r (place.Link k) held p = tt

placed-one : (g : Ground) (a : Actor) (r : Outcome) (x : Place) (held : Option RefValue) → length (place_moves g a r x held).gained ≤ 1
placed-one g a r (place.Slot k) held = moved-one (slots_where g a) held
placed-one g (Body c o) r (place.Link k) held = moved-one (Some (g.named o)) held
placed-one g (Script l) r (place.Link k) held = omega arith
placed-one g Nobody r (place.Link k) held = omega arith

step-by : (R : RefValue → Type 0) (g : Ground) (a : Actor) (r : Outcome) (x : Option Written) → WrittenBy R x → AllMoves R (step_moves g a r x).gained
step-by R g a r None p = tt
step-by R g a r (Some x) p = placed-by R g a r x.place x.held p

step-one : (g : Ground) (a : Actor) (r : Outcome) (x : Option Written) → length (step_moves g a r x).gained ≤ 1
step-one g a r None = omega arith
step-one g a r (Some x) = placed-one g a r x.place x.held

acted-by : (R : RefValue → Type 0) (g : Ground) (a : Actor) (r : Option Outcome) (d : Deed) → OutBy R r → HeldBy R (taken_in d) → AllMoves R (acted_stepped g a r d).gained
acted-by R g a None d p t = tt
acted-by R g a (Some r) d p t = step-by R g a r (place_write r.action d) (write-by R r.action d p.action t)

acted-one : (g : Ground) (a : Actor) (r : Option Outcome) (d : Deed) → length (acted_stepped g a r d).gained ≤ 1
acted-one g a None d = omega arith
acted-one g a (Some r) d = step-one g a r (place_write r.action d)

-- ---- what arrives

-- The values of an Enter, a Leave and a Back.
abbrev pub CarriesBy : (R : RefValue → Type 0) → Deed → Type 0
CarriesBy R (deed.Enter c o a t vs) = All (ValueBy R) vs
CarriesBy R (deed.Leave c hr v bytes) = ResultBy R v
CarriesBy R (deed.Back c hr v) = ResultBy R v
CarriesBy R _ = Unit {0}

entered-by : (R : RefValue → Type 0) (a : ℕ) (vs : List Value) → All (ValueBy R) vs → AllMoves R (all_moved (Some a) (references vs))
entered-by R a [] p = tt
entered-by R a (value.Ref held ∷ vs) p = all-both R (moved (Some a) held) (all_moved (Some a) (references vs)) (moved-by R (Some a) held (all-head (ValueBy R) (value.Ref held) vs p)) (entered-by R a vs (all-tail (ValueBy R) (value.Ref held) vs p))
entered-by R a (value.Int x ∷ vs) p = entered-by R a vs (all-tail (ValueBy R) (value.Int x) vs p)
entered-by R a (value.Bool x ∷ vs) p = entered-by R a vs (all-tail (ValueBy R) (value.Bool x) vs p)
entered-by R a (value.Text x ∷ vs) p = entered-by R a vs (all-tail (ValueBy R) (value.Text x) vs p)
entered-by R a (value.Bytes x ∷ vs) p = entered-by R a vs (all-tail (ValueBy R) (value.Bytes x) vs p)
entered-by R a (value.Guid x ∷ vs) p = entered-by R a vs (all-tail (ValueBy R) (value.Guid x) vs p)

entered-few : (a : ℕ) (vs : List Value) → length (all_moved (Some a) (references vs)) ≤ length vs
entered-few a [] = omega arith
entered-few a (value.Ref held ∷ vs) =
    let one : length (moved (Some a) held) ≤ 1 = moved-one (Some a) held in
    let rest : length (all_moved (Some a) (references vs)) ≤ length vs = entered-few a vs in
    omega (arith, one, rest, len-both (moved (Some a) held) (all_moved (Some a) (references vs)))
entered-few a (value.Int x ∷ vs) = omega (arith, entered-few a vs)
entered-few a (value.Bool x ∷ vs) = omega (arith, entered-few a vs)
entered-few a (value.Text x ∷ vs) = omega (arith, entered-few a vs)
entered-few a (value.Bytes x ∷ vs) = omega (arith, entered-few a vs)
entered-few a (value.Guid x ∷ vs) = omega (arith, entered-few a vs)

result-by : (R : RefValue → Type 0) (g : Ground) (c : ℕ) (v : Option Value) → ResultBy R v → AllMoves R (result_moved g c v)
result-by R g c v p = elim (is_direct (route_of (g.issue c)) && not (g.returned c)) as (λ b. AllMoves R (cond b (moved (entered_where (g.admitted c)) (value_reference v)) [])) [
  | true ↦ moved-by R (entered_where (g.admitted c)) (value_reference v) (reference-by R v p)
  | false ↦ tt
]

result-one : (g : Ground) (c : ℕ) (v : Option Value) → length (result_moved g c v) ≤ 1
result-one g c v = elim (is_direct (route_of (g.issue c)) && not (g.returned c)) as (λ b. length (cond b (moved (entered_where (g.admitted c)) (value_reference v)) []) ≤ 1) [
  | true ↦ moved-one (entered_where (g.admitted c)) (value_reference v)
  | false ↦ omega arith
]

given-by : (R : RefValue → Type 0) (a : Option ℕ) (xs : List (Option RefValue)) (x : Destination) (v : Option Value) → ResultBy R v → AllMoves R (given_moves a xs x v).gained
given-by R a xs (destination.Slot k) v p = moved-by R a (value_reference v) (reference-by R v p)
given-by R a xs (destination.Register k) v p = tt
given-by R a xs destination.Nowhere v p = tt

given-one : (a : Option ℕ) (xs : List (Option RefValue)) (x : Destination) (v : Option Value) → length (given_moves a xs x v).gained ≤ 1
given-one a xs (destination.Slot k) v = moved-one a (value_reference v)
given-one a xs (destination.Register k) v = omega arith
given-one a xs destination.Nowhere v = omega arith

arrived-by : (R : RefValue → Type 0) (g : Ground) (t : SceneTables) (a : Actor) (r : Option Outcome) (b : Actor) (l : ℕ) (d : Deed) → CarriesBy R d → AllMoves R (arrived_stepped g t a r b l d).gained
arrived-by R g t a r b l (deed.Leave c hr v bytes) p = result-by R g c v p
arrived-by R g t a r b l (deed.Enter c o x k vs) p = entered-by R x vs p
arrived-by R g t a r b l (deed.Back c hr v) p = given-by R (slots_where g b) (slots_stepped t a r (deed.Back c hr v) b) (destination_at t c) v p
arrived-by R g t a r b l (deed.Uninit h zero) p = tt
arrived-by R g t a r b l (deed.Uninit h (suc n)) p = tt
arrived-by R g t a r b l (deed.Final o) p = tt
arrived-by R g t a r b l _ p = tt

arrived-few : (g : Ground) (t : SceneTables) (a : Actor) (r : Option Outcome) (b : Actor) (l : ℕ) (d : Deed) → FitsDeed d → length (arrived_stepped g t a r b l d).gained ≤ 4
arrived-few g t a r b l (deed.Leave c hr v bytes) f = omega (arith, result-one g c v)
arrived-few g t a r b l (deed.Enter c o x k vs) f = omega (arith, f, entered-few x vs)
arrived-few g t a r b l (deed.Back c hr v) f = omega (arith, given-one (slots_where g b) (slots_stepped t a r (deed.Back c hr v) b) (destination_at t c) v)
arrived-few g t a r b l (deed.Uninit h zero) f = omega arith
arrived-few g t a r b l (deed.Uninit h (suc n)) f = omega arith
arrived-few g t a r b l (deed.Final o) f = omega arith
arrived-few g t a r b l _ f = omega arith

-- ---- an entry

ended-none : (g : Ground) (t : SceneTables) (a : Actor) (r : Option Outcome) (d : Deed) (x : Option ℕ) → (ended_stepped g t a r d x).gained ≡ []
ended-none g t a r d None = refl
ended-none g t a r d (Some x) = refl

pub gained_by : (R : RefValue → Type 0) (g : Ground) (t : SceneTables) (a : Actor) (r : Option Outcome) (b : Actor) (e : Entry) → OutBy R r → HeldBy R (taken_in e.deed) → CarriesBy R e.deed → AllMoves R (moves_stepped g t a r b e).gained
gained_by R g t a r b e p q c =
    all-both R (acted_stepped g a r e.deed).gained ((arrived_stepped g t a r b e.lane e.deed).gained ++ (ended_stepped g t a r e.deed (ends_sta e.deed)).gained) (acted-by R g a r e.deed p q)
    (all-both R (arrived_stepped g t a r b e.lane e.deed).gained (ended_stepped g t a r e.deed (ends_sta e.deed)).gained (arrived-by R g t a r b e.lane e.deed c)
    (subst (λ (ms : List Moving). AllMoves R ms) (sym (ended-none g t a r e.deed (ends_sta e.deed))) tt))

pub gained_few : (g : Ground) (t : SceneTables) (a : Actor) (r : Option Outcome) (b : Actor) (e : Entry) → FitsDeed e.deed → length (moves_stepped g t a r b e).gained ≤ 8
gained_few g t a r b e f =
    let xs : List Moving = (acted_stepped g a r e.deed).gained in
    let ys : List Moving = (arrived_stepped g t a r b e.lane e.deed).gained in
    let zs : List Moving = (ended_stepped g t a r e.deed (ends_sta e.deed)).gained in
    let first : length (xs ++ (ys ++ zs)) ≡ length xs + length (ys ++ zs) = len-both xs (ys ++ zs) in
    let second : length (ys ++ zs) ≡ length ys + length zs = len-both ys zs in
    let none : length zs ≡ 0 = ap (λ (ms : List Moving). length ms) (ended-none g t a r e.deed (ends_sta e.deed)) in
    let acted : length xs ≤ 1 = acted-one g a r e.deed in
    let arrived : length ys ≤ 4 = arrived-few g t a r b e.lane e.deed f in
    omega (arith, first, second, none, acted, arrived)

-- ---- as lists of the code

pub each_moved : (R : RefValue → Type 0) (ms : List Move) (k : ℕ) → AllMoves R (movings_of ms) → k < length ms → R (slice_index_or ms k no_move).reference
each_moved R [] k p h = absurd (omega (arith, h))
each_moved R (m ∷ ms) zero p h = p.0
each_moved R (m ∷ ms) (suc k) p h = each_moved R ms k p.1 (omega (arith, h))
