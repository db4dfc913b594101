use Rattle.com_command_draw.proofs.Finished.{agreed_page}
use Rattle.com_command_draw.proofs.traces.draw_agreed.Goals as goal

pub returns : goal.returns
returns c =
    agreed_page c.args.scenario.now c.args.agreed c.as_slice.result.now c.as_slice-2.result.now c.in_ok-waits.waits c.new.result c.new-page.result _
    c.as_slice.ensures c.as_slice-2.ensures c.new-page.ensures c.in_ok-waits.ensures c.new.ensures c.in_ok-push_page.ensures
