use Rattle.std.proofs.Common.{not, sym, ◌∙◌}
use Rattle.com_refs_books.specs.Changes.{packet}
use Rattle.com_refs_holders.specs.Tables.{books_of}
use Rattle.com_refs_rows.proofs.Listed.{any_first, any_found, any_passed, any_none}
use Rattle.com_ledger.proofs.reads.lost_one.Goals as goal

pub loop-place-init : goal.loop-place-init
loop-place-init c = any_first (λ p. not (packet (books_of c.args.refs.now) p).outstanding) c.args.packets.first c.args.packets.count

pub returns-then-is_gone : goal.returns-then-is_gone
returns-then-is_gone c =
    any_found (λ p. not (packet (books_of c.args.refs.now) p).outstanding) c.args.packets.first c.args.packets.count c.loop-place.place c.loop-place-test.true (sym c.is_gone.ensures ∙ c.if-is_gone.true) c.loop-place.invariant

pub loop-place-preserved : goal.loop-place-preserved
loop-place-preserved c =
    any_passed (λ p. not (packet (books_of c.args.refs.now) p).outstanding) c.args.packets.first c.args.packets.count c.loop-place.place c.loop-place-test.true (sym c.is_gone.ensures ∙ c.if-is_gone.false) c.loop-place.invariant

pub returns : goal.returns
returns c = any_none (λ p. not (packet (books_of c.args.refs.now) p).outstanding) c.args.packets.first c.args.packets.count c.loop-place.place c.loop-place-test.false c.loop-place.invariant
