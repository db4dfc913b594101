-- The tables are changed as the definition says, and keep what holds of every scene.
use Rattle.std.proofs.Common.{◌≡◌, ◌∙◌, sym, subst, slice_index_or}
use Rattle.com_state.specs.SceneParts.{rows_after}
use Rattle.com_scene.specs.Actors.{acting_of}
use Rattle.com_scene.specs.Kept.{IsKept}
use Rattle.com_scene.specs.Rooms.{SceneRows}
use Rattle.com_scene.specs.Seen.{seen}
use Rattle.com_scene.proofs.CutLemmas.{after_same}
use Rattle.com_scene.proofs.KeptLemmas.{after_kept}
use Rattle.com_scene.proofs.scene.Scene.apply.Goals as goal

pub invariant_of-self : goal.invariant_of-self
invariant_of-self c =
    subst IsKept (sym c.apply.ensures)
    (after_kept (λ o. slice_index_or c.args.owners.now o 0) (acting_of c.args.entry.now.acting) c.args.outcome.now (acting_of c.args.entry.now.after)
    (record { lane = c.args.entry.now.lane; deed = c.args.entry.now.deed.now }) (seen c.self.inside.tables) c.requires.step c.self.invariant)

pub returns : goal.returns
returns c =
    λ named h. subst (λ (s : SceneRows). seen c.apply.new.self ≡ rows_after named (acting_of c.args.entry.now.acting) c.args.outcome.now (acting_of c.args.entry.now.after) (record { lane = c.args.entry.now.lane; deed = c.args.entry.now.deed.now }) s.tables) c.self.view_is
    (c.apply.ensures
    ∙ after_same named c.args.owners.now (acting_of c.args.entry.now.acting) c.args.outcome.now (acting_of c.args.entry.now.after)
    (record { lane = c.args.entry.now.lane; deed = c.args.entry.now.deed.now }) (seen c.self.inside.tables) h)
