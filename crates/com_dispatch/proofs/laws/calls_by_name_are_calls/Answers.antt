use Rattle.com_dispatch.proofs.CallLines.{same_lines}
use Rattle.com_dispatch.proofs.laws.calls_by_name_are_calls.Goals as goal

pub returns : goal.returns
returns c = same_lines
