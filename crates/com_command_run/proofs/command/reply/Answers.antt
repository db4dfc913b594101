use Rattle.std.specs.Arc.{arc_value}
use Rattle.com_command_run.proofs.Running.{is_run_at}
use Rattle.com_command_run.proofs.command.reply.Goals as goal

pub returns : goal.returns
returns g c =
    is_run_at c.args.scenario (arc_value c.in_ok-scenario.scenario) c.in_ok-ran.ran c.status_at.result c.in_ok-text.text c.in_ok-scenario.ensures
    c.in_ok-ran.ensures.lawful c.in_ok-ran.ensures.safe c.in_ok-ran.ensures.ended c.in_ok-ran.ensures.counts c.in_ok-ran.ensures.clock
    c.status_at.ensures c.in_ok-text.ensures
