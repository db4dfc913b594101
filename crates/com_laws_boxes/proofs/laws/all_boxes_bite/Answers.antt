use Rattle.com_laws_boxes.proofs.Bites.{body_is_elsewhere, box_is_lost, boxes_cross, ground_ends_inside}
use Rattle.com_laws_boxes.proofs.laws.all_boxes_bite.Goals as goal

pub returns : goal.returns
returns c = record { crossing = boxes_cross; ground = ground_ends_inside; lane = body_is_elsewhere; lost = box_is_lost }
