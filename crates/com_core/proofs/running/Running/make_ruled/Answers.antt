-- The entry that the rules gave a lane is the next one of it, and all has changed by it.
use Rattle.com_refs_rows.specs.Books.{books_held}
use Rattle.com_turns.specs.Turns.{ruled_turn}
use Rattle.com_core.proofs.Booked.{turn_books, turn_brings}
use Rattle.com_core.specs.Stands.{state_read}
use Rattle.com_core.proofs.Turned.{turn_made, turn_taken}
use Rattle.com_core.proofs.running.Running.make_ruled.Goals as goal

pub make-requires-clause-fits : goal.make-requires-clause-fits
make-requires-clause-fits c =
    let s = c.args.scenario.now in
    let v = c.args.self.now in
    let e = c.args.entry.now in
    let b = books_held v.ledger in
    turn_books s (state_read s v.parts b v.fallen.objects v.clock) v.parts v.fallen.objects v.clock e.lane c.args.step.now (ruled_turn e.deed) v.ledger
    c.requires.core.reached c.requires.core.stands c.requires.named c.requires.above c.requires.below c.requires.turn c.requires.ties c.requires.room

pub make-requires-clause-brings : goal.make-requires-clause-brings
make-requires-clause-brings c =
    let s = c.args.scenario.now in
    let v = c.args.self.now in
    let e = c.args.entry.now in
    let b = books_held v.ledger in
    turn_brings s (state_read s v.parts b v.fallen.objects v.clock) v.parts v.fallen.objects v.clock e.lane c.args.step.now (ruled_turn e.deed) v.ledger
    c.requires.core.reached c.requires.core.stands c.requires.named c.requires.above c.requires.below c.requires.turn c.requires.ties

pub make-requires-clause-takes : goal.make-requires-clause-takes
make-requires-clause-takes c =
    let s = c.args.scenario.now in
    let v = c.args.self.now in
    let e = c.args.entry.now in
    let b = books_held v.ledger in
    turn_taken s (state_read s v.parts b v.fallen.objects v.clock) v.parts b v.fallen.objects v.clock e.lane c.args.step.now (ruled_turn e.deed)
    c.requires.core.reached c.requires.core.stands c.requires.named c.requires.above c.requires.below c.requires.room c.requires.turn

pub returns-clause-next : goal.returns-clause-next
returns-clause-next c =
    let s = c.args.scenario.now in
    let v = c.args.self.now in
    let u = c.make.new.self in
    let e = c.args.entry.now in
    turn_made c.make.result s v u e.lane c.args.step.now (ruled_turn e.deed) c.requires.turn c.requires.named c.requires.few.entries c.requires.core c.requires.above c.requires.below
    c.make.ensures.changed c.make.ensures.clock

pub make-requires-clause-answer : goal.make-requires-clause-answer
make-requires-clause-answer c = c.requires.turn.answer
