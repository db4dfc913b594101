use Rattle.std.proofs.Common.{not, sym, ◌∙◌}
use Rattle.com_refs_books.specs.Changes.{packet}
use Rattle.com_refs_holders.specs.Tables.{books_of}
use Rattle.com_refs_rows.proofs.Listed.{first_first, first_found, first_passed, first_none}
use Rattle.com_ledger.proofs.reads.left_one.Goals as goal

pub loop-place-init : goal.loop-place-init
loop-place-init c = first_first (λ p. not (not (packet (books_of c.args.refs.now) p).outstanding)) c.args.packets.first c.args.packets.count

pub returns-then-is_left : goal.returns-then-is_left
returns-then-is_left c =
    first_found (λ p. not (not (packet (books_of c.args.refs.now) p).outstanding)) c.args.packets.first c.args.packets.count c.loop-place.place c.loop-place-test.true (sym c.is_left.ensures ∙ c.if-is_left.true) c.loop-place.invariant

pub loop-place-preserved : goal.loop-place-preserved
loop-place-preserved c =
    first_passed (λ p. not (not (packet (books_of c.args.refs.now) p).outstanding)) c.args.packets.first c.args.packets.count c.loop-place.place c.loop-place-test.true (sym c.is_left.ensures ∙ c.if-is_left.false) c.loop-place.invariant

pub returns : goal.returns
returns c = first_none (λ p. not (not (packet (books_of c.args.refs.now) p).outstanding)) c.args.packets.first c.args.packets.count c.loop-place.place c.loop-place-test.false c.loop-place.invariant
