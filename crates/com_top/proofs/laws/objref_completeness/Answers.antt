use Rattle.com_commands.proofs.Answering.{responds_whole}
use Rattle.com_top.specs.Showing.{IsShown, digits_input}
use Rattle.com_top.proofs.laws.objref_completeness.Goals as goal

pub returns : goal.returns
returns c = responds_whole digits_input IsShown
