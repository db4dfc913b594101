use Rattle.com_laws_page.proofs.Told.{closed_story}
use Rattle.com_laws_page.proofs.laws.stories_are_closed.Goals as goal

pub returns : goal.returns
returns c = closed_story
