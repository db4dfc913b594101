use Rattle.com_laws_draw.proofs.Rows.{is_counted}
use Rattle.com_laws_draw.proofs.laws.what_is_not_drawn_is_counted.Goals as goal

pub returns : goal.returns
returns c = is_counted
