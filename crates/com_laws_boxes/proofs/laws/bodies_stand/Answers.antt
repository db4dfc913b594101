use Rattle.com_laws_boxes.proofs.Bodies.{bodies_run}
use Rattle.com_laws_boxes.proofs.laws.bodies_stand.Goals as goal

pub returns : goal.returns
returns c = bodies_run
