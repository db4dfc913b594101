-- The moves of an action's writes, and what slots and links hold after them.
use Rattle.std.proofs.Common.{ap, ap₂, ◌∙◌}
use Rattle.std.specs.Prelude.{◌≡◌, refl, ℕ, List, [], ◌∷◌, Option, Some, None}
use Rattle.com_base.specs.declared.hresult.HResult.{HResult}
use Rattle.com_base.specs.declared.value.RefValue.{RefValue}
use Rattle.com_base.specs.declared.value.Value.{Value}
use Rattle.com_body.specs.declared.actions.Action.{Action}
use Rattle.com_body.specs.declared.actions.Action.TheVariants as action
use Rattle.com_body.specs.declared.frame.Cells.{Cells}
use Rattle.com_body.specs.declared.frame.Outcome.{Outcome}
use Rattle.com_body.specs.declared.operands.Place.{Place}
use Rattle.com_body.specs.declared.operands.Place.TheVariants as place
use Rattle.com_body.specs.Frames.{FrameView}
use Rattle.com_model.specs.declared.deeds.Deed.{Deed}
use Rattle.com_model.specs.declared.deeds.Deed.TheVariants as deed
use Rattle.com_model.specs.Frames.{Scene, Actor, Body, Script, Nobody, ToRegister, writes, to_answer, to_place, marshalled_in, taken_in, with_frame, written}
use Rattle.com_model.specs.Places.{Ground}
use Rattle.com_laws_places.specs.Moves.{Move as Moving, Moves as Movings, no_moves, together, slots_where, slots_of, write_moves, writes_moves, acted_moves}
use Rattle.com_laws_places.proofs.Frames.{same-row}
use Rattle.com_reference_moves.specs.Steps.{place_write, exchanged, place_moves, step_moves}
use Rattle.com_reference_moves.proofs.Lists.{append_none}

pub together-none : (m : Movings) → together m no_moves ≡ m
together-none m = ap₂ (λ (x y : List Moving). record { lost = x; gained = y }) (append_none m.lost) (append_none m.gained)

-- An answer goes to a register.
pub answer-slots : (w : Scene) (a : Actor) (n : ℕ) (v : Value) → slots_of (written a w (ToRegister n v)) a ≡ slots_of w a
answer-slots w (Body c o) n v = ap (λ (f : FrameView). f.slots) (same-row c _ w.bodies)
answer-slots w (Script l) n v = ap (λ (f : FrameView). f.slots) (same-row l _ w.scripts)
answer-slots w Nobody n v = refl

framed-slots : (w : Scene) (a : Actor) (r : Outcome) (k : ℕ) (held : Option RefValue) (g : Ground) → exchanged (slots_where g a) (slots_of (with_frame a r w) a) k held ≡ exchanged (slots_where g a) r.frame.slots k held
framed-slots w (Body c o) r k held g = ap (λ (f : FrameView). exchanged (slots_where g (Body c o)) f.slots k held) (same-row c r.frame w.bodies)
framed-slots w (Script l) r k held g = ap (λ (f : FrameView). exchanged (slots_where g (Script l)) f.slots k held) (same-row l r.frame w.scripts)
framed-slots w Nobody r k held g = refl

-- One reference after the answer.
place-moved : (g : Ground) (w : Scene) (a : Actor) (r : Outcome) (n : ℕ) (v : Value) (p : Place) (held : Option RefValue) → write_moves g (written a (with_frame a r w) (ToRegister n v)) a (to_place p held) ≡ place_moves g a r p held
place-moved g w a r n v (place.Slot k) held = ap (λ (xs : List (Option RefValue)). exchanged (slots_where g a) xs k held) (answer-slots (with_frame a r w) a n v) ∙ framed-slots w a r k held g
place-moved g w (Body c o) r n v (place.Link k) held = ap (λ (x : Cells). exchanged (Some (g.named o)) x.links k held) (same-row o r.cells w.cells)
place-moved g w (Script l) r n v (place.Link k) held = refl
place-moved g w Nobody r n v (place.Link k) held = refl

two-moves : (g : Ground) (w : Scene) (a : Actor) (r : Outcome) (hr : HResult) (p : Place) (held : Option RefValue) → writes_moves g (with_frame a r w) a (to_answer hr ∷ to_place p held ∷ []) ≡ place_moves g a r p held
two-moves g w a r hr p held = together-none (write_moves g (written a (with_frame a r w) (to_answer hr)) a (to_place p held)) ∙ place-moved g w a r _ _ p held

marshal-moves : (g : Ground) (w : Scene) (a : Actor) (b : ℕ) (d : Deed) → writes_moves g w a (marshalled_in b d) ≡ no_moves
marshal-moves g w a b (deed.Marshal p m held refs hr None) = refl
marshal-moves g w a b (deed.Marshal p m held refs hr (Some bytes)) = refl
marshal-moves g w a b _ = refl

pub acted-moves : (g : Ground) (w : Scene) (a : Actor) (r : Outcome) (d : Deed) → acted_moves g w a (Some r) d ≡ step_moves g a r (place_write r.action d)
acted-moves g w a r d = by r.action
  where
    by : (x : Action) → writes_moves g (with_frame a r w) a (writes x d) ≡ step_moves g a r (place_write x d)
    by (action.Create slot k i) = two-moves g w a r _ (place.Slot slot) (taken_in d)
    by (action.Query to held i) = two-moves g w a r _ (place.Slot to) (taken_in d)
    by (action.Copy to held) = two-moves g w a r _ to held
    by (action.Release from held) = two-moves g w a r _ from None
    by (action.Unmarshal slot b) = two-moves g w a r _ (place.Slot slot) (taken_in d)
    by (action.Get slot c) = two-moves g w a r _ (place.Slot slot) (taken_in d)
    by (action.Marshal b held m) = marshal-moves g (written a (with_frame a r w) _) a b d
    by (action.Call held i m args to) = refl
    by _ = refl
