-- An HRESULT and a result that a frame is given, as writes.
use Rattle.std.proofs.Common.{◌≡◌, ℕ, List, [], ◌∷◌, Option, Some, None, fold, refl, sym, ◌∙◌, ap, pos}
use Rattle.com_base.specs.declared.hresult.HResult.{HResult}
use Rattle.com_base.specs.declared.value.Value.{Value}
use Rattle.com_base.specs.declared.value.Value.TheVariants as value
use Rattle.com_body.specs.declared.operands.Destination.{Destination}
use Rattle.com_body.specs.declared.operands.Destination.TheVariants as destination
use Rattle.com_body.specs.Frames.{FrameView, entered, with_register, with_slot}
use Rattle.com_model.specs.Frames.{to_answer, to_destination, value_reference}
use Rattle.com_model.specs.State.{SceneTables}
use Rattle.com_state.specs.SceneParts.{row_written, with_body, with_script, body_at, script_at}
use Rattle.com_scene.specs.declared.actor.Actor.{Actor}
use Rattle.com_scene.specs.declared.actor.Actor.TheVariants as actor
use Rattle.com_scene.specs.Actors.{acting_of}
use Rattle.com_scene.specs.Steps.{frame_with}
use Rattle.com_scene.proofs.RowLemmas.{set_on}

answered : FrameView → HResult → FrameView
answered f hr = with_register f 15 (value.Int (pos hr.0))

pub given_body : (c o : ℕ) (t : SceneTables) (hr : HResult) (to : Destination) (v : Option Value) →
    with_body t c (fold frame_with (body_at t c) (to_answer hr ∷ to_destination to v))
    ≡ fold (row_written (acting_of (actor.Body c o))) t (to_answer hr ∷ to_destination to v)
unfolding answered
given_body c o t hr destination.Nowhere v = refl
given_body c o t hr (destination.Register r) None = refl
given_body c o t hr (destination.Register r) (Some v) =
    ap (λ (bodies : List FrameView). record t { bodies = bodies })
    (sym (set_on (λ (g : FrameView). with_register g r v) t.bodies c (answered (body_at t c) hr) (entered [])))
given_body c o t hr (destination.Slot k) v =
    ap (λ (bodies : List FrameView). record t { bodies = bodies })
    (sym (set_on (λ (g : FrameView). with_slot g k (value_reference v)) t.bodies c (answered (body_at t c) hr) (entered [])))

pub given_script : (l : ℕ) (t : SceneTables) (hr : HResult) (to : Destination) (v : Option Value) →
    with_script t l (fold frame_with (script_at t l) (to_answer hr ∷ to_destination to v))
    ≡ fold (row_written (acting_of (actor.Script l))) t (to_answer hr ∷ to_destination to v)
unfolding answered
given_script l t hr destination.Nowhere v = refl
given_script l t hr (destination.Register r) None = refl
given_script l t hr (destination.Register r) (Some v) =
    ap (λ (scripts : List FrameView). record t { scripts = scripts })
    (sym (set_on (λ (g : FrameView). with_register g r v) t.scripts l (answered (script_at t l) hr) (entered [])))
given_script l t hr (destination.Slot k) v =
    ap (λ (scripts : List FrameView). record t { scripts = scripts })
    (sym (set_on (λ (g : FrameView). with_slot g k (value_reference v)) t.scripts l (answered (script_at t l) hr) (entered [])))

pub given_to_body : (a : Actor) (c o : ℕ) (t : SceneTables) (hr : HResult) (to : Destination) (v : Option Value) → a ≡ actor.Body c o →
    with_body t c (fold frame_with (body_at t c) (to_answer hr ∷ to_destination to v))
    ≡ fold (row_written (acting_of a)) t (to_answer hr ∷ to_destination to v)
given_to_body a c o t hr to v e =
    given_body c o t hr to v ∙ ap (λ (b : Actor). fold (row_written (acting_of b)) t (to_answer hr ∷ to_destination to v)) (sym e)

pub given_to_script : (a : Actor) (l : ℕ) (t : SceneTables) (hr : HResult) (to : Destination) (v : Option Value) → a ≡ actor.Script l →
    with_script t l (fold frame_with (script_at t l) (to_answer hr ∷ to_destination to v))
    ≡ fold (row_written (acting_of a)) t (to_answer hr ∷ to_destination to v)
given_to_script a l t hr to v e =
    given_script l t hr to v ∙ ap (λ (b : Actor). fold (row_written (acting_of b)) t (to_answer hr ∷ to_destination to v)) (sym e)

pub given_nobody : (t : SceneTables) (hr : HResult) (to : Destination) (v : Option Value) →
    fold (row_written (acting_of actor.Nobody)) t (to_answer hr ∷ to_destination to v) ≡ t
given_nobody t hr destination.Nowhere v = refl
given_nobody t hr (destination.Register r) None = refl
given_nobody t hr (destination.Register r) (Some v) = refl
given_nobody t hr (destination.Slot k) v = refl
