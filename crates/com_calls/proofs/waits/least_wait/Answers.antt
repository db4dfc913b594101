use Rattle.std.proofs.Common.{◌≡◌, ◌∙◌, ap, take, fold, List, ℕ, None, arith}
use Rattle.std.proofs.lemmas.Grind.{common_steps}
use Rattle.com_calls.specs.Rows.{row_at}
use Rattle.com_calls.specs.Inside.{row_wait}
use Rattle.com_calls.specs.Waits.{sooner_of}
use Rattle.com_calls.proofs.Delays.{least_folded}
use Rattle.com_calls.proofs.waits.least_wait.Goals as goal

pub returns : goal.returns
returns c =
    let all : take c.loop-call.call-index c.args.delayed.now ≡ c.args.delayed.now = grind (arith, common_steps) in
    c.loop-call.invariant
    ∙ ap (λ (xs : List ℕ). fold (λ a k. sooner_of a (row_wait c.args.now (row_at c.args.rows.now k))) None xs) all
    ∙ least_folded (λ k. row_wait c.args.now (row_at c.args.rows.now k)) c.args.delayed.now
