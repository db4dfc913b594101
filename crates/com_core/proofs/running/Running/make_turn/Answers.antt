-- The entry of a turn is the next one of its lane, and all has changed by it.
use Rattle.std.proofs.Common.{◌≡◌, ℕ, List, Option, OnOk, subst, sym}
use Rattle.com_body.specs.declared.frame.Outcome.{Outcome}
use Rattle.com_model.specs.declared.deeds.Deed.{Deed}
use Rattle.com_model.specs.declared.deeds.Entry.{Entry}
use Rattle.com_base.specs.declared.value.RefValue.{RefValue}
use Rattle.com_scene.specs.Actors.{acting_of}
use Rattle.com_refs_rows.specs.Books.{books_held}
use Rattle.com_model.specs.Lists.{number_or_zero}
use Rattle.com_refs_rows.specs.Entries.{tally}
use Rattle.com_refs_rows.specs.Fits.{FitsBooks}
use Rattle.com_core.proofs.Booked.{turn_books, turn_brings}
use Rattle.com_refs_books.specs.Changes.{Books}
use Rattle.com_turns.specs.declared.turns.Turn.{Turn}
use Rattle.com_turns.specs.Turns.{IsTurn}
use Rattle.com_view.specs.Seen.{Seen, running_seen}
use Rattle.com_parts.specs.Fits.{sent_by}
use Rattle.com_core.specs.Making.{Changed}
use Rattle.com_core.specs.Stands.{seen_by, state_read}
use Rattle.com_core.proofs.Turned.{turn_made, turn_taken}
use Rattle.com_core.proofs.running.Running.make_turn.Goals as goal

-- The deed that was taken out of the turn is the turn's.
abbrev with_deed : Turn → Deed → Turn
with_deed t d = record t { doing = record t.doing { deed = d } }

taken_turn : (w : Seen) (b : Books) (l : ℕ) (o : Option Outcome) (t : Turn) (d : Deed) → d ≡ t.doing.deed → IsTurn w b l o t → IsTurn w b l o (with_deed t d)
taken_turn w b l o t d e k = subst (λ (x : Deed). IsTurn w b l o (with_deed t x)) (sym e) k

pub make-requires-clause-fits : goal.make-requires-clause-fits
make-requires-clause-fits c =
    let s = c.args.scenario.now in
    let v = c.args.self.now in
    let b = books_held v.ledger in
    let t = with_deed c.args.turn.now c.swap.new.x in
    subst (λ (rs : List RefValue). FitsBooks s.classes rs (number_or_zero (running_seen (seen_by s v.parts v.fallen.objects v.clock) c.args.lane)) (tally v.ledger.tables v.ledger.calls) t.doing.deed) (sym c.as_slice.ensures)
    (turn_books s (state_read s v.parts b v.fallen.objects v.clock) v.parts v.fallen.objects v.clock c.args.lane c.args.outcome.now t v.ledger
    c.requires.core.reached c.requires.core.stands c.requires.named c.requires.above c.requires.below (taken_turn (seen_by s v.parts v.fallen.objects v.clock) b c.args.lane c.args.outcome.now c.args.turn.now c.swap.new.x c.swap.ensures.x_after c.requires.turn) c.requires.ties c.requires.room)

pub make-requires-clause-brings : goal.make-requires-clause-brings
make-requires-clause-brings c =
    let s = c.args.scenario.now in
    let v = c.args.self.now in
    let b = books_held v.ledger in
    turn_brings s (state_read s v.parts b v.fallen.objects v.clock) v.parts v.fallen.objects v.clock c.args.lane c.args.outcome.now (with_deed c.args.turn.now c.swap.new.x) v.ledger
    c.requires.core.reached c.requires.core.stands c.requires.named c.requires.above c.requires.below (taken_turn (seen_by s v.parts v.fallen.objects v.clock) b c.args.lane c.args.outcome.now c.args.turn.now c.swap.new.x c.swap.ensures.x_after c.requires.turn) c.requires.ties

pub make-requires-clause-takes : goal.make-requires-clause-takes
make-requires-clause-takes c =
    let s = c.args.scenario.now in
    let v = c.args.self.now in
    let b = books_held v.ledger in
    turn_taken s (state_read s v.parts b v.fallen.objects v.clock) v.parts b v.fallen.objects v.clock c.args.lane c.args.outcome.now (with_deed c.args.turn.now c.swap.new.x)
    c.requires.core.reached c.requires.core.stands c.requires.named c.requires.above c.requires.below c.requires.room (taken_turn (seen_by s v.parts v.fallen.objects v.clock) b c.args.lane c.args.outcome.now c.args.turn.now c.swap.new.x c.swap.ensures.x_after c.requires.turn)

pub returns-clause-next : goal.returns-clause-next
returns-clause-next c =
    let s = c.args.scenario.now in
    let v = c.args.self.now in
    let u = c.make.new.self in
    let t = with_deed c.args.turn.now c.swap.new.x in
    let b = books_held v.ledger in
    let d : Entry = record { lane = c.args.lane; deed = t.doing.deed } in
    let changed : OnOk c.make.result (Changed s v.parts u.parts v.ledger u.ledger v.entered.counts u.entered.counts v.fallen.objects u.fallen.objects v.clock d (acting_of t.acting) c.args.outcome.now t.doing.carried (sent_by t.doing.enclosed)) =
    subst (λ (rs : List RefValue). OnOk c.make.result (Changed s v.parts u.parts v.ledger u.ledger v.entered.counts u.entered.counts v.fallen.objects u.fallen.objects v.clock d (acting_of t.acting) c.args.outcome.now rs (sent_by t.doing.enclosed)))
    c.as_slice.ensures c.make.ensures.changed in
    turn_made c.make.result s v u c.args.lane c.args.outcome.now t (taken_turn (seen_by s v.parts v.fallen.objects v.clock) b c.args.lane c.args.outcome.now c.args.turn.now c.swap.new.x c.swap.ensures.x_after c.requires.turn) c.requires.named c.requires.few.entries c.requires.core c.requires.above c.requires.below changed c.make.ensures.clock

pub make-requires-clause-answer : goal.make-requires-clause-answer
make-requires-clause-answer c = (taken_turn (seen_by c.args.scenario.now c.args.self.now.parts c.args.self.now.fallen.objects c.args.self.now.clock) (books_held c.args.self.now.ledger) c.args.lane c.args.outcome.now c.args.turn.now c.swap.new.x c.swap.ensures.x_after c.requires.turn).answer
