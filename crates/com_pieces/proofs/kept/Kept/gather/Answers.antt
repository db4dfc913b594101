-- What was gathered before, handed on or not, and the bytes behind it.
use Rattle.std.proofs.Common.{arith, refl, sym}
use Rattle.com_pieces.proofs.Gathering.{laid_behind}
use Rattle.com_pieces.proofs.kept.Kept.gather.Goals as goal

pub returns-clause-taken : goal.returns-clause-taken
returns-clause-taken g c =
    let more = c.in_ok-hand_on_full.ensures.more in
    let count = c.min-count.ensures in
    laid_behind _ _ _ c.self.inside.room.items _ _ _ c.args.from.now _ _ _ _ _ (sym c.self.view_is) c.as_slice.ensures.value refl more.0 (omega (arith, more.1, c.self.invariant)) (omega (arith, count))
    c.put.ensures.front c.in_ok-hand_on_full.ensures.same
