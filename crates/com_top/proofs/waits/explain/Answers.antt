use Rattle.std.proofs.Common.{◌≡◌, subst, sym}
use Rattle.std.proofs.lemmas.Result.{IfOk-weaker}
use Rattle.std.specs.Arc.{arc_value}
use Rattle.com_model.specs.Formed.{Formed}
use Rattle.com_top.specs.Explaining.{explanation}
use Rattle.com_top.proofs.Explained.{explained_at}
use Rattle.com_top.proofs.waits.explain.Goals as goal

pub waits_at-requires : goal.waits_at-requires
waits_at-requires c = subst Formed (sym c.deref.ensures) c.requires.formed

pub returns : goal.returns
returns c =
    IfOk-weaker c.text_of.result _ (λ text. text ≡ explanation (arc_value c.args.scenario.now))
    (λ text written. explained_at (arc_value c.args.scenario.now) c.deref.result.now c.args.recorded.entries.items c.as_slice.result.now
    c.args.recorded.ended c.in_ok-waits.waits text c.deref.ensures c.as_slice.ensures.value c.requires.kept
    c.in_ok-waits.ensures written)
    c.text_of.ensures
