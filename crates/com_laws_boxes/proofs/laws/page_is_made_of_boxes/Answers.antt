use Rattle.com_laws_boxes.proofs.Texts.{page_text}
use Rattle.com_laws_boxes.proofs.laws.page_is_made_of_boxes.Goals as goal

pub returns : goal.returns
returns c = page_text
