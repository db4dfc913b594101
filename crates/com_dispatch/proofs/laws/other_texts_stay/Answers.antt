use Rattle.com_dispatch.proofs.Others.{same_text}
use Rattle.com_dispatch.proofs.laws.other_texts_stay.Goals as goal

pub returns : goal.returns
returns c = same_text
