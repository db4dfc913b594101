-- The boxes of a lane among all boxes of a page nest.
use Rattle.std.proofs.Common.{ℕ, List, sym, subst}
use Rattle.com_model.specs.declared.deeds.Entry.{Entry}
use Rattle.com_model.specs.declared.scenario.Scenario.{Scenario}
use Rattle.com_model.specs.Formed.{Formed}
use Rattle.com_model.specs.Rules.{legal}
use Rattle.com_draw.specs.declared.beside.Beside.{Beside}
use Rattle.com_laws_draw.specs.Boxes.{AllNest, Placed}
use Rattle.com_laws_boxes.specs.Boxes.{GroundsAreBare, in_lane}
use Rattle.com_laws_boxes.specs.Pieces.{page_boxes}
use Rattle.com_laws_boxes.proofs.Bare.{grounds_bare}
use Rattle.com_laws_boxes.proofs.Filters.{lane_of_page}
use Rattle.com_laws_boxes.proofs.Pages.{lane_nests}

pub bare_nest : (s : Scenario) (l : ℕ) (h : List Entry) (x : Beside) → GroundsAreBare s h → AllNest (in_lane l (page_boxes s h x))
bare_nest s l h x bare =
    subst (λ (xs : List Placed). AllNest xs) (sym (lane_of_page s l h x)) (lane_nests s l h x bare)

pub legal_nest : (s : Scenario) (l : ℕ) (h : List Entry) (x : Beside) → Formed s → legal s h → AllNest (in_lane l (page_boxes s h x))
legal_nest s l h x formed is = bare_nest s l h x (grounds_bare s h formed is)
