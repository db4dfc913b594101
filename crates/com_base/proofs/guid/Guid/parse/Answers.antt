use Rattle.com_base.proofs.guid.Guid.parse.Goals as goal
use Rattle.com_base.proofs.Texts.{no_guid}

pub returns-in-Err : goal.returns-in-Err
returns-in-Err c =
    no_guid c.args.text.now (search (c.if-text-ne38.false))
    (λ found. let never = c.in-Err.ensures.ok.1 found in cc)
