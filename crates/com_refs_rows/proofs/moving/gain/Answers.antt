use Rattle.com_refs_rows.proofs.Unheld.{more-held}
use Rattle.com_refs_rows.proofs.Placed.{gained}
use Rattle.com_refs_rows.proofs.moving.gain.Goals as goal

pub returns-in-Ok-clause-places : goal.returns-in-Ok-clause-places
returns-in-Ok-clause-places c = λ n places below counts. gained n places _ _ c.args.moved c.in-Ok.ensures.places below counts

pub returns-in-Ok-clause-more : goal.returns-in-Ok-clause-more
returns-in-Ok-clause-more c = λ o. more-held _ _ _ _ _ o c.in-Ok.ensures.places c.share.ensures.books

pub returns-in-Ok-clause-objects : goal.returns-in-Ok-clause-objects
returns-in-Ok-clause-objects c = (c.in-Ok.ensures.places.made, c.in-Ok.ensures.places.owns)
