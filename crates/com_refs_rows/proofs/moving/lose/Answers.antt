use Rattle.std.proofs.Common.{[], ◌∷◌, refl}
use Rattle.com_refs_rows.specs.Moving.{plus}
use Rattle.com_refs_rows.proofs.Placeless.{no_place}
use Rattle.com_refs_rows.proofs.moving.lose.Goals as goal

pub returns-in-None-clause-objects : goal.returns-in-None-clause-objects
returns-in-None-clause-objects c = (refl, λ x a. refl)

pub returns-in-None-clause-ended : goal.returns-in-None-clause-ended
returns-in-None-clause-ended c = λ n later below counts.
    absurd (no_place n later c.args.refs.now c.args.moved below counts (c.tells.ensures.tells n (plus later (c.args.moved ∷ [])) counts) c.in-None.ensures.free c.in-None.ensures.none)

pub returns-in-None-clause-touched : goal.returns-in-None-clause-touched
returns-in-None-clause-touched c = λ n later below counts.
    absurd (no_place n later c.args.refs.now c.args.moved below counts (c.tells.ensures.tells n (plus later (c.args.moved ∷ [])) counts) c.in-None.ensures.free c.in-None.ensures.none)
