-- When a lane can step: its body always can, and else one of the rules must give an entry.
use Rattle.std.proofs.Common.{◌≡◌, ℕ, true, ◌||◌, List, [], ◌∷◌, Option, Some, None, is_some, option_map, refl}
use Rattle.com_body.specs.declared.actions.Action.{Action}
use Rattle.com_refs_books.specs.Changes.{Books}
use Rattle.com_model.specs.declared.deeds.Deed.{Deed}
use Rattle.com_model.specs.declared.keeps.Opener.{Opener}
use Rattle.com_model.specs.declared.keeps.Opener.TheVariants.{Pumps, Waits, Enters}
use Rattle.com_model.specs.Deeds.{deed_of}
use Rattle.com_model.specs.Frames.{actor, act_by}
use Rattle.com_model.specs.Lists.{first}
use Rattle.com_model.specs.Rules.{can_step, ruled, top}
use Rattle.com_model.specs.State.{scene_read}
use Rattle.com_model.specs.Tables.{lane_sort}
use Rattle.com_model.specs.Openers.{is_body}
use Rattle.com_state.specs.Parts.{openers_at, class_at, issue_at}
use Rattle.com_view.specs.Seen.{Seen, sight_by}

abbrev stepped_with : (Action → Deed) → Option Action → Option Deed → Option Opener → Option Deed
stepped_with d a r (Some (Enters c o p)) = option_map d a
stepped_with d a r _ = r

some_map : (d : Action → Deed) (a : Option Action) → is_some a ≡ true → is_some (option_map d a) ≡ true
some_map d (Some a) e = refl
some_map d None e = cc

can_on : (d : Action → Deed) (acts : List Opener → Option Action) (r : Option Deed) → ((c o p : ℕ) (os : List Opener) → is_some (acts (Enters c o p ∷ os)) ≡ true)
    → (os : List Opener) → is_some (stepped_with d (acts os) r (first os)) ≡ (is_body (first os) || is_some r)
can_on d acts r h [] = refl
can_on d acts r h (Pumps n ∷ os) = refl
can_on d acts r h (Waits c ∷ os) = refl
can_on d acts r h (Enters c o p ∷ os) = some_map d (acts (Enters c o p ∷ os)) (h c o p os)

pub can_step_by : (w : Seen) (b : Books) (l : ℕ) → can_step w.scenario (sight_by w b) l ≡ (is_body (top (sight_by w b) l) || is_some (ruled w.scenario (sight_by w b) l))
can_step_by w b l =
    can_on (deed_of w.scenario (sight_by w b) l)
    (λ os. act_by w.scenario (class_at w.objects) (issue_at w.calls.tables) (scene_read w.scene) (actor (lane_sort w.scenario l) l os))
    (ruled w.scenario (sight_by w b) l) (λ c o p os. refl) (openers_at w.lanes l)
