use Rattle.std.proofs.lemmas.Result.{IfOk-weaker}
use Rattle.com_check.proofs.AgreedLines.{made_for}
use Rattle.com_check.proofs.agreement.reading.make_named.Goals as goal

pub returns-clause-made : goal.returns-clause-made
returns-clause-made g c =
    IfOk-weaker c.make_next.result _ _ (λ e made. made_for _ _ _ _ _ e c.in-Some.ensures made) c.make_next.ensures.made
