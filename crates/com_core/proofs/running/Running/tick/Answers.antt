-- The clock's entry is the next one of its lane, where the clock goes on.
use Rattle.std.proofs.Common.{◌≡◌, None, Some, ap, sym, ◌∙◌}
use Rattle.com_runtime.proofs.Limits.{not-some}
use Rattle.com_calls.specs.Kept.{Kept}
use Rattle.com_calls.specs.Waits.{next_wait}
use Rattle.com_refs_rows.specs.Books.{books_held}
use Rattle.com_core.specs.Stands.{state_read}
use Rattle.com_core.proofs.Ticking.{time_waits}
use Rattle.com_core.proofs.Fits.{brings_tick, fits_tick}
use Rattle.com_core.proofs.Turned.{clock_made, tick_taken}
use Rattle.com_model.specs.Frames.{Nobody}
use Rattle.com_core.proofs.running.Running.tick.Goals as goal

pub unreachable-requires : goal.unreachable-requires
unreachable-requires c =
    let v = c.args.self.now in
    let b = books_held v.ledger in
    let none : next_wait v.parts.calls v.clock ≡ None = ap (λ (k : Kept). next_wait k v.clock) (sym c.calls.ensures.value) ∙ sym c.next_time.ensures ∙ not-some c.next_time.result c.in_default.not-Some in
    time_waits c.args.scenario.now (state_read c.args.scenario.now v.parts b v.fallen.objects v.clock) v.parts b v.fallen.objects v.clock c.requires.core.stands c.requires.due none

pub make-requires-clause-fits : goal.make-requires-clause-fits
make-requires-clause-fits c =
    let s = c.args.scenario.now in
    let v = c.args.self.now in
    let b = books_held v.ledger in
    fits_tick s (state_read s v.parts b v.fallen.objects v.clock) v.ledger c.in-Some.clock _ c.requires.ties c.requires.room

pub make-requires-clause-brings : goal.make-requires-clause-brings
make-requires-clause-brings c = brings_tick c.args.scenario.now c.args.self.now.parts c.args.self.now.ledger 0 c.in-Some.clock Nobody

pub make-requires-clause-takes : goal.make-requires-clause-takes
make-requires-clause-takes c =
    let s = c.args.scenario.now in
    let v = c.args.self.now in
    let b = books_held v.ledger in
    let time : next_wait v.parts.calls v.clock ≡ Some c.in-Some.clock = ap (λ (k : Kept). next_wait k v.clock) (sym c.calls.ensures.value) ∙ sym c.next_time.ensures ∙ c.in-Some.is in
    tick_taken s (state_read s v.parts b v.fallen.objects v.clock) v.parts b v.fallen.objects v.clock c.in-Some.clock
    c.requires.core.reached c.requires.core.stands c.requires.room c.requires.due time

pub returns-clause-next : goal.returns-clause-next
returns-clause-next c =
    let v = c.args.self.now in
    let u = c.make.new.self in
    let time : next_wait v.parts.calls v.clock ≡ Some c.in-Some.clock = ap (λ (k : Kept). next_wait k v.clock) (sym c.calls.ensures.value) ∙ sym c.next_time.ensures ∙ c.in-Some.is in
    clock_made c.make.result c.args.scenario.now v u c.in-Some.clock c.calls.ensures.named c.requires.few.entries time c.requires.core c.requires.due c.make.ensures.changed c.make.ensures.clock
