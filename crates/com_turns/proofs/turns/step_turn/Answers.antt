use Rattle.std.proofs.Common.{refl}
use Rattle.com_scene.specs.Actors.{acting_of}
use Rattle.com_turns.proofs.Stepping.{step_turn}
use Rattle.com_turns.proofs.turns.step_turn.Goals as goal

pub act-requires-clause-fits : goal.act-requires-clause-fits
act-requires-clause-fits g c = c.requires.acts (acting_of c.args.acting) c.args.outcome.now c.requires.steps.step

pub returns-in-Ok : goal.returns-in-Ok
returns-in-Ok g c =
    let b = g.B.References.books c.args.books.now in
    record {
      turn = step_turn c.args.view.now b c.args.lane (acting_of c.args.acting) c.args.outcome.now _ c.requires.steps c.requires.next
          c.in-Ok.ensures.deed c.in-Ok.ensures.issued c.in-Ok.ensures.answer c.in-Ok.ensures.carried refl;
    }
