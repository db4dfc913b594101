use Rattle.com_laws_markup.proofs.Passing.{escaped_in_content, escaped_in_title}
use Rattle.com_laws_markup.proofs.laws.nothing_comes_in.Goals as goal

pub returns : goal.returns
returns c = record { content = escaped_in_content; title = escaped_in_title }
