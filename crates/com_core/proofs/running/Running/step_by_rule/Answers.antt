-- What the rules made is the turn of the lane.
use Rattle.com_refs_rows.specs.Books.{books_held}
use Rattle.com_core.specs.Stands.{seen_by}
use Rattle.com_core.proofs.ByRules.{no_step, ruled_is}
use Rattle.com_core.proofs.running.Running.step_by_rule.Goals as goal

pub make_ruled-requires-clause-whole : goal.make_ruled-requires-clause-whole
make_ruled-requires-clause-whole c = no_step c.args.step.now c.requires.none

pub make_ruled-requires-clause-turn : goal.make_ruled-requires-clause-turn
make_ruled-requires-clause-turn c =
    let s = c.args.scenario.now in
    let r = c.args.self.now in
    ruled_is (seen_by s r.parts r.fallen.objects r.clock) (books_held r.ledger) c.args.lane c.in_ok-made.made c.rule.new.deed c.args.step.now
    c.in_ok-made.ensures.turn c.if-not-made.false c.requires.none
