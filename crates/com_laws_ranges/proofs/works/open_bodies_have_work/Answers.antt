use Rattle.com_laws_ranges.proofs.OpenWork.{works}
use Rattle.com_laws_ranges.proofs.works.open_bodies_have_work.Goals as goal

pub returns : goal.returns
returns c = works
