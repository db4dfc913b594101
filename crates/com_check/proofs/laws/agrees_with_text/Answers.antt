use Rattle.com_check.proofs.Joined.{text_is}
use Rattle.com_check.proofs.laws.agrees_with_text.Goals as goal

pub returns : goal.returns
returns c = text_is
