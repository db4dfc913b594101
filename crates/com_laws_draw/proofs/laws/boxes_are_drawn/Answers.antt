use Rattle.com_laws_draw.proofs.Texts.{closing_texts, section_texts}
use Rattle.com_laws_draw.proofs.laws.boxes_are_drawn.Goals as goal

pub returns : goal.returns
returns c = record { closing = closing_texts; section = section_texts }
