use Rattle.com_laws_sources.proofs.Servers.{legal-one-lane}
use Rattle.com_laws_sources.proofs.one_lane.Goals as goal

pub returns : goal.returns
returns c = legal-one-lane
