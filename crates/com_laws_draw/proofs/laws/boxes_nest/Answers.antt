use Rattle.com_laws_draw.proofs.Pages.{page_nests}
use Rattle.com_laws_draw.proofs.Runs.{page_stands}
use Rattle.com_laws_draw.proofs.laws.boxes_nest.Goals as goal

pub returns : goal.returns
returns c = record { nest = page_nests; stand = page_stands }
