use Rattle.com_commands.proofs.Answering.{responds_whole}
use Rattle.com_command_check.specs.Checking.{IsVerdict, question_input}
use Rattle.com_top.proofs.laws.check_completeness.Goals as goal

pub returns : goal.returns
returns c = responds_whole question_input IsVerdict
