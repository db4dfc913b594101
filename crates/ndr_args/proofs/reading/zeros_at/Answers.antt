use Rattle.std.proofs.Common.{◌≡◌, ◌+◌, ◌-◌, ◌∙◌, ap, subst, ℕ, Ok, arith}
use Rattle.ndr_args.specs.Reading.{zeros_at}
use Rattle.ndr_args.proofs.Fronts.{zeros_go_on, zeros_end_short, zeros_end_other, zeros_done}
use Rattle.ndr_args.proofs.reading.zeros_at.Goals as goal

pub returns-then-at-bytes-clause-value : goal.returns-then-at-bytes-clause-value
returns-then-at-bytes-clause-value c =
    let total = zeros_at c.args.bytes.now c.args.count c.args.position in
    rw c.fault.ensures (zeros_end_short c.args.bytes.now (c.args.position + c.args.count - c.loop-at.at) c.loop-at.at total (omega arith) (omega arith) c.loop-at.invariant.1)

pub returns-then-bytes-at-ne0-clause-value : goal.returns-then-bytes-at-ne0-clause-value
returns-then-bytes-at-ne0-clause-value c =
    let total = zeros_at c.args.bytes.now c.args.count c.args.position in
    rw c.fault-then-bytes-at-ne0.ensures (zeros_end_other c.args.bytes.now (c.args.position + c.args.count - c.loop-at.at) c.loop-at.at total (omega arith) (omega arith) c.if-bytes-at-ne0.true c.loop-at.invariant.1)

pub loop-at-preserved : goal.loop-at-preserved
loop-at-preserved c =
    let total = zeros_at c.args.bytes.now c.args.count c.args.position in
    let left : c.args.position + c.args.count - c.loop-at.at - 1 ≡ c.args.position + c.args.count - (c.loop-at.at + 1) = omega arith in (
      omega arith,
      subst (λ (n : ℕ). zeros_at c.args.bytes.now n (c.loop-at.at + 1) ≡ total) left
          (zeros_go_on c.args.bytes.now (c.args.position + c.args.count - c.loop-at.at) c.loop-at.at total (omega arith) (omega arith) c.if-bytes-at-ne0.false c.loop-at.invariant.1),
    )

pub returns-clause-value : goal.returns-clause-value
returns-clause-value c =
    let total = zeros_at c.args.bytes.now c.args.count c.args.position in
    zeros_done c.args.bytes.now (c.args.position + c.args.count - c.loop-at.at) c.loop-at.at total (omega arith) c.loop-at.invariant.1 ∙ ap (λ (k : ℕ). Ok k) (omega arith)
