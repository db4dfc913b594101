use Rattle.com_laws_markup.proofs.Words.{closed_arrow, closed_box, closed_label, closed_link, closed_touch}
use Rattle.com_laws_markup.proofs.laws.words_are_closed.Goals as goal

pub returns : goal.returns
returns c = record {
  boxes = closed_box;
  touches = closed_touch;
  arrows = closed_arrow;
  labels = closed_label;
  links = closed_link;
}
