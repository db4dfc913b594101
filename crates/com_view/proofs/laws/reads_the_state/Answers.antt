use Rattle.com_view.proofs.Sights.{reads_state}
use Rattle.com_view.proofs.laws.reads_the_state.Goals as goal

pub returns : goal.returns
returns c = reads_state
