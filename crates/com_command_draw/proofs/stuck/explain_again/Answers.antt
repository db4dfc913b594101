use Rattle.std.proofs.Common.{◌≡◌, subst, sym}
use Rattle.std.proofs.lemmas.Result.{IfOk-weaker}
use Rattle.std.specs.Arc.{arc_value}
use Rattle.com_model.specs.Ends.{scheduled}
use Rattle.com_model.specs.Formed.{Formed}
use Rattle.com_waits.specs.Chains.{explanation_of}
use Rattle.com_command_draw.proofs.Finished.{explained_at}
use Rattle.com_command_draw.proofs.stuck.explain_again.Goals as goal

pub waits_at-requires : goal.waits_at-requires
waits_at-requires c = subst Formed (sym c.deref.ensures) c.requires

pub returns : goal.returns
returns c =
    IfOk-weaker c.waits_at.result _ (λ waits. waits ≡ explanation_of (arc_value c.args.scenario.now) (scheduled (arc_value c.args.scenario.now)))
    (λ waits explains. explained_at (arc_value c.args.scenario.now) c.deref.result.now c.in_ok-recorded.recorded.entries.items c.as_slice.result.now
    c.in_ok-recorded.recorded.ended waits c.deref.ensures c.as_slice.ensures.value c.in_ok-recorded.ensures explains)
    c.waits_at.ensures
