-- What holds of every scene holds of a new one.
use Rattle.std.proofs.Common.{sym, subst}
use Rattle.com_scene.specs.Kept.{IsKept}
use Rattle.com_scene.proofs.KeptLemmas.{new_kept}
use Rattle.com_scene.proofs.scene.Scene.new.Goals as goal

pub invariant_of-result : goal.invariant_of-result
invariant_of-result c = subst IsKept (sym c.in_ok-new.ensures) (new_kept c.args.threads)
