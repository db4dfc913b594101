use Rattle.std.proofs.Common.{◌≡◌, ◌+◌, ◌-◌, ◌++◌, drop, ap, arith, to_z-of_z}
use Rattle.std.proofs.lemmas.List.{drop-set}
use Rattle.itoa.proofs.Decimal.{minus_first}
use Rattle.com_report.proofs.pieces.signed_number.Goals as goal

pub returns-clause-written : goal.returns-clause-written
returns-clause-written c =
    let n = c.number-start in
    let e : n.result - 1 + 1 ≡ n.result = omega arith in
    let back = to_z-of_z c.ranges.value in
    rw (drop-set n.new.room (n.result - 1) 45 (omega arith), e, n.ensures.written, c.unsigned_abs.ensures.value, back)
    (ap (λ t. t ++ drop c.args.end c.args.room.now) (minus_first c.args.value (rw back at c.if-value-ge0.false)))
