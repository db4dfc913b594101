use Rattle.com_view.specs.Seen.{sight_by}
use Rattle.com_rules.proofs.deeds.references.unmarshal_deed.Goals as goal

pub returns : goal.returns
returns c = λ b live kept. c.unmarshal_deed.ensures (sight_by c.args.view.now b) c.args.lane (λ p e. (kept p e, c.target-target.ensures b live))
