use Rattle.com_laws_draw.proofs.Bites.{body_is_strange, boxes_cross, lane_is_wrong, level_is_shared}
use Rattle.com_laws_draw.proofs.laws.boxes_bite.Goals as goal

pub returns : goal.returns
returns c = record { crossing = boxes_cross; level = level_is_shared; lane = lane_is_wrong; stranger = body_is_strange }
