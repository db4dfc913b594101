use Rattle.std.proofs.Common.{ℕ, [], ◌∷◌}
use Rattle.com_refs_rows.specs.Moving.{plus}
use Rattle.com_refs_rows.proofs.Unheld.{others-held, touches-one}
use Rattle.com_refs_rows.proofs.Placed.{lost}
use Rattle.com_refs_rows.proofs.moving.lose_by.Goals as goal

pub returns-clause-ended : goal.returns-clause-ended
returns-clause-ended c = λ n later below counts.
    let less = lost n later _ _ c.args.moved c.release-is_lost.ensures.places below counts in
    record {
      counts = less;
      books = c.release-is_lost.ensures.books n later below (c.tells-2.ensures.tells n later less) (c.tells-2.ensures.totals n later less);
    }

pub returns-clause-touched : goal.returns-clause-touched
returns-clause-touched c = λ n later below counts.
    let before : ℕ → ℕ → ℕ = plus later (c.args.moved ∷ []) in
    let less = lost n later _ _ c.args.moved c.release-is_lost.ensures.places below counts in
    let was = c.tells.ensures.totals n before counts in
    let now = c.tells-2.ensures.totals n later less in
    touches-one _ _ c.args.moved.reference.object _ _ _
    (others-held n before later _ _ _ _ _ c.release-is_lost.ensures.places was now (c.rests.ensures n before (c.tells.ensures.tells n before counts) was)
    (c.release-is_lost.ensures.books n later below (c.tells-2.ensures.tells n later less) now))
    c.release-is_lost.ensures.lost.1 c.touch_where.ensures.members

pub returns-clause-objects : goal.returns-clause-objects
returns-clause-objects c = (c.release-is_lost.ensures.places.made, c.release-is_lost.ensures.places.owns)
