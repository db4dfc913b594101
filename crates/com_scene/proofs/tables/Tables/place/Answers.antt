-- A row that changes has its frame, or the spare one.
use Rattle.std.proofs.Common.{◌<◌, length, arith, sym, subst, IsSome}
use Rattle.com_scene.specs.declared.tables.CallRow.{CallRow}
use Rattle.com_scene.specs.Seen.{own_or}
use Rattle.com_scene.proofs.SeatLemmas.{seated_kept, seat_at}
use Rattle.com_scene.proofs.tables.Tables.place.Goals as goal

pub place-requires : goal.place-requires
place-requires c =
    let h : c.args.call < length c.args.self.now.calls.items = omega arith in
    record {
      seat = subst (λ (row : CallRow). IsSome (own_or row.frame c.args.spare.now)) (sym c.index_mut-row.ensures.value)
          (seat_at c.args.self.now.calls.items c.args.call c.index_mut-row.result.now c.args.spare.now h c.requires.seat);
    }

pub returns-then-call-len-clause-seats : goal.returns-then-call-len-clause-seats
returns-then-call-len-clause-seats c =
    λ k s. seated_kept c.args.self.now.calls.items c.args.call k c.place.new.self c.index_mut-row.result.now (λ r. c.place.ensures.seated) s
