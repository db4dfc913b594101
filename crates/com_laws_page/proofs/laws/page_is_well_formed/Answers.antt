use Rattle.com_laws_page.proofs.Paged.{page_well_formed, page_scriptless}
use Rattle.com_laws_page.proofs.laws.page_is_well_formed.Goals as goal

pub returns : goal.returns
returns c = record { well_formed = page_well_formed; scriptless = page_scriptless }
