-- Each body's box stands in the lane that entered its call.
use Rattle.std.proofs.Common.{◌≡◌, ℕ, List, [], ◌∷◌, ◌++◌, ◌+◌, ◌-◌, length, Bool, true, false, not, ◌==◌, ◌&&◌}
use Rattle.std.proofs.Common.{refl, ap, sym, subst, ◌∙◌, Option, Some, None, if◌then◌else◌, nat_le}
use Rattle.std.proofs.lemmas.Bool.{eq-eqb}
use Rattle.com_model.specs.declared.deeds.Entry.{Entry}
use Rattle.com_model.specs.declared.scenario.Scenario.{Scenario}
use Rattle.com_waits.specs.declared.reasons.Wait.{Wait}
use Rattle.com_draw_state.specs.declared.lanes.Home.{Home}
use Rattle.com_draw_state.specs.declared.lanes.Lane.{Lane}
use Rattle.com_draw_state.specs.declared.stacks.Start.{Start}
use Rattle.com_draw_state.specs.Lanes.{lane_at}
use Rattle.com_draw_state.specs.Stacks.{innermost}
use Rattle.com_draw_words.specs.declared.boxes.BoxKind.{BoxKind}
use Rattle.com_draw_words.specs.declared.boxes.BoxKind.TheVariants as kind
use Rattle.com_draw_words.specs.declared.boxes.BoxText.{BoxText}
use Rattle.com_draw_words.specs.declared.boxes.Foot.{Foot}
use Rattle.com_draw_words.specs.declared.boxes.Foot.TheVariants as foot
use Rattle.com_draw_words.specs.Boxes.{is_of_object}
use Rattle.com_draw_shapes.specs.declared.effects.Closing.{Closing}
use Rattle.com_draw_shapes.specs.declared.effects.Closing.TheVariants as close
use Rattle.com_draw_shapes.specs.Boxes.{home_in}
use Rattle.com_draw_shapes.specs.Effects.{closed_by}
use Rattle.com_draw_shapes.specs.Places.{opens_section, row_at, start_of}
use Rattle.com_draw_shapes.specs.Sections.{foot_in}
use Rattle.com_draw.specs.declared.beside.Beside.{Beside}
use Rattle.com_draw.specs.Ends.{rows_of}
use Rattle.com_draw.specs.Entries.{drawn}
use Rattle.com_draw.specs.Reasons.{cycle_in, waits_in}
use Rattle.com_laws_draw.specs.Boxes.{Each, Placed, boxes_below}
use Rattle.com_laws_draw.specs.Lanes.{IsRun, StandsIn, openings_of}
use Rattle.com_laws_draw.proofs.Lists.{each_append, each_at, each_if}
use Rattle.com_laws_draw.proofs.Runs.{RunsIn, below_stand, innermost_stands, longer_boxes, open_runs}
use Rattle.com_laws_boxes.specs.Boxes.{StandsWhereRun, in_lane, is_in}
use Rattle.com_laws_boxes.specs.Pieces.{grounds, page_boxes}
use Rattle.com_laws_boxes.proofs.Filters.{lane_of_page}
use Rattle.com_laws_boxes.proofs.Moves.{closed_at, own_closed}
use Rattle.com_laws_boxes.proofs.Pages.{above_in, at_in, behind_in, front_in, lane_below, lane_list, last_in, waits_in_lane, written_in}

-- ---- the boxes of a lane

grounds_stand : (h : List Entry) (here : Start) (l : ℕ) (f : Foot) (v : Option Home) → Each (StandsIn h l) (grounds here l f v)
grounds_stand h here l f None = tt
grounds_stand h here l f (Some g) = (record { lane = refl; run = tt }, tt)

lane_stands : (h : List Entry) (here : Start) (cycle : List ℕ) (l : ℕ) (v : Option Lane) → Each (RunsIn h l) (openings_of v)
    → Each (StandsIn h l) (lane_below here cycle l v)
lane_stands h here cycle l v r =
    each_append (StandsIn h l) (grounds here l foot.Down (home_in v)) (boxes_below here l (foot_in cycle l) 1 (openings_of v))
    (grounds_stand h here l foot.Down (home_in v)) (below_stand h here l (foot_in cycle l) 1 (openings_of v) r)

front_stands : (h : List Entry) (n l : ℕ) (v : Option Lane) → Each (RunsIn h l) (openings_of v) → Each (StandsIn h l) (front_in n l v)
front_stands h n l v r =
    each_if (StandsIn h l) (opens_section n) (above_in n l v) []
    (each_if (StandsIn h l) (n == 1) [] (lane_below (row_at (n - 1)) [] l v) tt (lane_stands h (row_at (n - 1)) [] l v r)) tt

own_stands : (h : List Entry) (here : Start) (l : ℕ) (c : Closing) (v : Option Lane) → Each (RunsIn h l) (openings_of v)
    → Each (StandsIn h l) (own_closed here l c v)
own_stands h here l close.Nothing v r = tt
own_stands h here l (close.Home a) v r = grounds_stand h here l foot.Inner (home_in v)
own_stands h here l close.Innermost v r =
    innermost_stands h here l (length (openings_of v)) (innermost (openings_of v))
    (each_at (RunsIn h l) (openings_of v) (length (openings_of v) - 1) r)
own_stands h here l (close.Cut o) v r = tt
own_stands h here l (close.Life o) v r = tt

at_stands : (h : List Entry) (n l : ℕ) (e : Entry) (v : Option Lane) → Each (RunsIn h l) (openings_of v)
    → Each (StandsIn h l) (at_in n l e v)
at_stands h n l e v r =
    each_if (StandsIn h l) (nat_le n 5000) (front_in n l v ++ closed_at (start_of n) l e v)
    (if n == 5001 then lane_below (row_at 5000) [] l v else [])
    (each_append (StandsIn h l) (front_in n l v) (closed_at (start_of n) l e v) (front_stands h n l v r)
    (each_if (StandsIn h l) (e.lane == l) (own_closed (start_of n) l (closed_by e.deed) v) []
    (own_stands h (start_of n) l (closed_by e.deed) v r) tt))
    (each_if (StandsIn h l) (n == 5001) (lane_below (row_at 5000) [] l v) [] (lane_stands h (row_at 5000) [] l v r) tt)

written_stand : (s : Scenario) (l : ℕ) (h : List Entry) → Each (StandsIn h l) (written_in s l h)
written_stand s l [] = tt
written_stand s l (e ∷ h) =
    longer_boxes e h l (written_in s l h ++ at_in ((drawn s h).entries + 1) l e (lane_at (drawn s h).board.lanes l))
    (each_append (StandsIn h l) (written_in s l h) (at_in ((drawn s h).entries + 1) l e (lane_at (drawn s h).board.lanes l))
    (written_stand s l h) (at_stands h ((drawn s h).entries + 1) l e (lane_at (drawn s h).board.lanes l) (open_runs s l h)))

waits_stand : (h : List Entry) (n l : ℕ) (v : Option Lane) (ws : List Wait) → Each (RunsIn h l) (openings_of v)
    → Each (StandsIn h l) (waits_in_lane n l v ws)
waits_stand h n l v [] r = tt
waits_stand h n l v (w ∷ ws) r =
    each_append (StandsIn h l) (front_in n l v) (waits_in_lane (n + 1) l v ws) (front_stands h n l v r)
    (waits_stand h (n + 1) l v ws r)

last_stands : (h : List Entry) (m l : ℕ) (cycle : List ℕ) (v : Option Lane) → Each (RunsIn h l) (openings_of v)
    → Each (StandsIn h l) (last_in m cycle l v)
last_stands h m l cycle v r =
    each_if (StandsIn h l) (m == 0) [] (lane_below (row_at m) cycle l v) tt (lane_stands h (row_at m) cycle l v r)

list_stands : (s : Scenario) (l : ℕ) (h : List Entry) (x : Beside) → Each (StandsIn h l) (lane_list s l h x)
list_stands s l h x =
    each_append (StandsIn h l) (written_in s l h)
    (behind_in (drawn s h).entries (cycle_in x.waits) l (waits_in x.waits) (lane_at (drawn s h).board.lanes l)) (written_stand s l h)
    (each_append (StandsIn h l)
    (waits_in_lane (rows_of (drawn s h).entries + 1) l (lane_at (drawn s h).board.lanes l) (waits_in x.waits))
    (last_in (rows_of (drawn s h).entries + length (waits_in x.waits)) (cycle_in x.waits) l (lane_at (drawn s h).board.lanes l))
    (waits_stand h (rows_of (drawn s h).entries + 1) l (lane_at (drawn s h).board.lanes l) (waits_in x.waits) (open_runs s l h))
    (last_stands h (rows_of (drawn s h).entries + length (waits_in x.waits)) l (cycle_in x.waits) (lane_at (drawn s h).board.lanes l)
    (open_runs s l h)))

lane_of_page_stands : (s : Scenario) (h : List Entry) (x : Beside) (l : ℕ) → Each (StandsIn h l) (in_lane l (page_boxes s h x))
lane_of_page_stands s h x l =
    subst (λ (xs : List Placed). Each (StandsIn h l) xs) (sym (lane_of_page s l h x)) (list_stands s l h x)

-- ---- all boxes

wrong : true ≡ false → ⊥
wrong q = cc

-- no life of an object is a body
life_runs : (h : List Entry) (l : ℕ) (k : BoxKind) (t : BoxText) → not (is_of_object k) ≡ false → IsRun h l k t
life_runs h l kind.Live t e = tt
life_runs h l kind.Cut t e = tt
life_runs h l _ t e = absurd (wrong e)

one_stands : (h : List Entry) (x : Placed) (ys : List Placed) (t : Bool) → is_in x.box.lane x ≡ t
    → Each (StandsIn h x.box.lane) (if t then x ∷ ys else ys) → StandsWhereRun h x
one_stands h x ys true e w = w.0.run
one_stands h x ys false e w =
    life_runs h x.box.lane x.box.kind x.box.text
    (sym (ap (λ (b : Bool). b && not (is_of_object x.box.kind)) (eq-eqb x.box.lane x.box.lane refl)) ∙ e)

rest_stand : (h : List Entry) (l : ℕ) (x : Placed) (ys : List Placed) (t : Bool) → Each (StandsIn h l) (if t then x ∷ ys else ys)
    → Each (StandsIn h l) ys
rest_stand h l x ys true w = w.1
rest_stand h l x ys false w = w

all_stand : (h : List Entry) (xs : List Placed) → ((l : ℕ) → Each (StandsIn h l) (in_lane l xs)) → Each (StandsWhereRun h) xs
all_stand h [] f = tt
all_stand h (x ∷ xs) f = (
  one_stands h x (in_lane x.box.lane xs) (is_in x.box.lane x) refl (f x.box.lane),
  all_stand h xs (λ l. rest_stand h l x (in_lane l xs) (is_in l x) (f l)),
)

pub bodies_run : (s : Scenario) (h : List Entry) (x : Beside) → Each (StandsWhereRun h) (page_boxes s h x)
bodies_run s h x = all_stand h (page_boxes s h x) (lane_of_page_stands s h x)
