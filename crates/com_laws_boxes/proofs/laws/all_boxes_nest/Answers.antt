use Rattle.com_laws_boxes.proofs.Nesting.{bare_nest, legal_nest}
use Rattle.com_laws_boxes.proofs.laws.all_boxes_nest.Goals as goal

pub returns : goal.returns
returns c = record { bare = bare_nest; legal = legal_nest }
