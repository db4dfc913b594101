use Rattle.std.proofs.Common.{sym, ◌∙◌}
use Rattle.com_commands.proofs.Asking.{faulty_input, reads_input, short_text}
use Rattle.com_command_check.specs.Checking.{is_long_trace, question_of}
use Rattle.com_command_check.proofs.check.CheckCommandInputReader.read.Goals as goal

pub returns-in-Ok-clause-value : goal.returns-in-Ok-clause-value
returns-in-Ok-clause-value c =
    reads_input is_long_trace question_of c.args.text c.in-Ok.question (short_text 67108864 c.args.text c.requires)
    (sym c.in_ok-question.ensures.value ∙ c.in-Ok.is)

pub returns-in-Err-clause-value : goal.returns-in-Err-clause-value
returns-in-Err-clause-value c =
    faulty_input is_long_trace question_of c.args.text c.in-Err.fault (short_text 67108864 c.args.text c.requires)
    (sym c.in_ok-question.ensures.value ∙ c.in-Err.is)
