use Rattle.std.proofs.Common.{sym}
use Rattle.com_view.specs.Seen.{sight_by}
use Rattle.com_rules.proofs.deeds.actions.filter_deed.Goals as goal

pub returns : goal.returns
returns c = λ b. c.filter_deed.ensures (sight_by c.args.view.now b) c.args.lane (sym c.home.ensures)
