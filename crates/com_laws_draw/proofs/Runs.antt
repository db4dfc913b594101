-- A body's box stands in the lane that ran it.
use Rattle.std.proofs.Common.{◌≡◌, ℕ, List, [], ◌∷◌, ◌++◌, ◌+◌, ◌-◌, length, Bool, true, false, ◌==◌, ◌&&◌, ◌||◌}
use Rattle.std.proofs.Common.{refl, ap, sym, subst, ◌∙◌, Option, Some, None, if◌then◌else◌, nat_le}
use Rattle.std.proofs.Math.Bool.{or-true}
use Rattle.com_model.specs.declared.deeds.Entry.{Entry}
use Rattle.com_model.specs.declared.scenario.Scenario.{Scenario}
use Rattle.com_model.specs.Tables.{threads}
use Rattle.com_waits.specs.declared.reasons.Wait.{Wait}
use Rattle.com_draw_state.specs.declared.stacks.Opening.{Opening}
use Rattle.com_draw_state.specs.declared.stacks.Start.{Start}
use Rattle.com_draw_state.specs.Board.{State}
use Rattle.com_draw_state.specs.Stacks.{innermost}
use Rattle.com_draw_words.specs.declared.boxes.BoxKind.{BoxKind}
use Rattle.com_draw_words.specs.declared.boxes.BoxKind.TheVariants as kind
use Rattle.com_draw_words.specs.declared.boxes.BoxText.{BoxText}
use Rattle.com_draw_words.specs.declared.boxes.BoxText.TheVariants as inner
use Rattle.com_draw_words.specs.declared.boxes.Foot.{Foot}
use Rattle.com_draw_words.specs.declared.boxes.Foot.TheVariants as foot
use Rattle.com_draw_shapes.specs.Boxes.{inner_of, kind_of}
use Rattle.com_draw_shapes.specs.Places.{opens_section, row_at, start_of}
use Rattle.com_draw_shapes.specs.Sections.{foot_in}
use Rattle.com_draw.specs.declared.beside.Beside.{Beside}
use Rattle.com_draw.specs.Ends.{rows_of}
use Rattle.com_draw.specs.Entries.{after, drawn}
use Rattle.com_draw.specs.Reasons.{cycle_in, waits_in}
use Rattle.com_laws_draw.specs.Boxes.{Each, Placed, box_of, boxes_below}
use Rattle.com_laws_draw.specs.Lanes.{IsRun, StandsIn, boxes_above, boxes_at, boxes_before, boxes_behind, boxes_in, boxes_last, boxes_of, boxes_of_waits, boxes_written, has_entered, is_enter, open_in}
use Rattle.com_laws_draw.proofs.Lists.{OnSome, each_append, each_at, each_if, each_take, each_weaker}
use Rattle.com_laws_draw.proofs.Pages.{bare_first, open_after}
use Rattle.com_laws_draw.proofs.Steps.{Stepped, closed, kept, opened, stepped}

-- ---- what was entered

longer : (e : Entry) (h : List Entry) (l : ℕ) (k : BoxKind) (t : BoxText) → IsRun h l k t → IsRun (e ∷ h) l k t
longer e h l kind.Body (inner.Call c) r =
    ap (λ (b : Bool). (e.lane == l && is_enter c e.deed) || b) r ∙ or-true (e.lane == l && is_enter c e.deed)
longer e h l kind.Body inner.Nothing r = r
longer e h l kind.Body (inner.Object o) r = r
longer e h l _ t r = tt

wrong : false ≡ true → ⊥
wrong q = cc

or_more : (a b : Bool) → (a || false) ≡ true → (a || b) ≡ true
or_more true b e = refl
or_more false b e = absurd (wrong e)

first_entry : (e : Entry) (h : List Entry) (l : ℕ) (k : BoxKind) (t : BoxText) → IsRun (e ∷ []) l k t → IsRun (e ∷ h) l k t
first_entry e h l kind.Body (inner.Call c) r = or_more (e.lane == l && is_enter c e.deed) (has_entered h l c) r
first_entry e h l kind.Body inner.Nothing r = r
first_entry e h l kind.Body (inner.Object o) r = r
first_entry e h l _ t r = tt

-- what is open, if it is a body, is that of a call which the lane entered
abbrev pub RunsIn : List Entry → ℕ → Opening → Type 0
RunsIn h l o = IsRun h l (kind_of o.what) (inner_of o.what)

longer_open : (e : Entry) (h : List Entry) (l : ℕ) (os : List Opening) → Each (RunsIn h l) os → Each (RunsIn (e ∷ h) l) os
longer_open e h l os r =
    each_weaker (RunsIn h l) (RunsIn (e ∷ h) l) (λ o q. longer e h l (kind_of o.what) (inner_of o.what) q) os r

pub longer_boxes : (e : Entry) (h : List Entry) (l : ℕ) (xs : List Placed) → Each (StandsIn h l) xs → Each (StandsIn (e ∷ h) l) xs
longer_boxes e h l xs r =
    each_weaker (StandsIn h l) (StandsIn (e ∷ h) l)
    (λ x q. record { lane = q.lane; run = longer e h l x.box.kind x.box.text q.run }) xs r

-- ---- boxes of what is open

pub below_stand : (h : List Entry) (here : Start) (l : ℕ) (f : Foot) (d : ℕ) (os : List Opening) → Each (RunsIn h l) os
    → Each (StandsIn h l) (boxes_below here l f d os)
below_stand h here l f d [] r = tt
below_stand h here l f d (o ∷ os) r = (record { lane = refl; run = r.0 }, below_stand h here l f (d + 1) os r.1)

pub innermost_stands : (h : List Entry) (here : Start) (l d : ℕ) (v : Option Opening) → OnSome (RunsIn h l) v
    → Each (StandsIn h l) (box_of here l d v)
innermost_stands h here l d None r = tt
innermost_stands h here l d (Some o) r = (record { lane = refl; run = r }, tt)

above_stand : (h : List Entry) (n l : ℕ) (b : State) → Each (RunsIn h l) (open_in b l) → Each (StandsIn h l) (boxes_above n l b)
above_stand h n l b r =
    each_if (StandsIn h l) (opens_section n) (boxes_before n l b) []
    (each_if (StandsIn h l) (n == 1) [] (boxes_below (row_at (n - 1)) l foot.Down 1 (open_in b l)) tt
    (below_stand h (row_at (n - 1)) l foot.Down 1 (open_in b l) r)) tt

-- ---- an entry

now_runs : (here : Start) (l : ℕ) (e : Entry) (h : List Entry) (was now : List Opening) (new : List Placed)
    → Each (RunsIn h l) was → Stepped here l e was now new → Each (RunsIn (e ∷ h) l) now
now_runs here l e h was now new r (kept same none) =
    subst (λ (os : List Opening). Each (RunsIn (e ∷ h) l) os) (sym same) (longer_open e h l was r)
now_runs here l e h was now new r (opened w ran same none) =
    subst (λ (os : List Opening). Each (RunsIn (e ∷ h) l) os) (sym same)
    (each_append (RunsIn (e ∷ h) l) was (record { what = w; start = here } ∷ []) (longer_open e h l was r)
    (first_entry e h l (kind_of w) (inner_of w) ran, tt))
now_runs here l e h was now new r (closed same box) =
    subst (λ (os : List Opening). Each (RunsIn (e ∷ h) l) os) (sym same)
    (each_take (RunsIn (e ∷ h) l) (length was - 1) was (longer_open e h l was r))

new_stand : (here : Start) (l : ℕ) (e : Entry) (h : List Entry) (was now : List Opening) (new : List Placed)
    → Each (RunsIn h l) was → Stepped here l e was now new → Each (StandsIn h l) new
new_stand here l e h was now new r (kept same none) = subst (λ (xs : List Placed). Each (StandsIn h l) xs) (sym none) tt
new_stand here l e h was now new r (opened w ran same none) = subst (λ (xs : List Placed). Each (StandsIn h l) xs) (sym none) tt
new_stand here l e h was now new r (closed same box) =
    subst (λ (xs : List Placed). Each (StandsIn h l) xs) (sym box)
    (innermost_stands h here l (length was) (innermost was) (each_at (RunsIn h l) was (length was - 1) r))

entry_stands : (n l : ℕ) (e : Entry) (h : List Entry) (b : State) (now : List Opening) → Each (RunsIn h l) (open_in b l)
    → Stepped (start_of n) l e (open_in b l) now (boxes_of (start_of n) l e b) → Each (StandsIn h l) (boxes_at n l e b)
entry_stands n l e h b now r step =
    each_if (StandsIn h l) (nat_le n 5000) (boxes_above n l b ++ boxes_of (start_of n) l e b)
    (if n == 5001 then boxes_below (row_at 5000) l foot.Down 1 (open_in b l) else [])
    (each_append (StandsIn h l) (boxes_above n l b) (boxes_of (start_of n) l e b) (above_stand h n l b r)
    (new_stand (start_of n) l e h (open_in b l) now (boxes_of (start_of n) l e b) r step))
    (each_if (StandsIn h l) (n == 5001) (boxes_below (row_at 5000) l foot.Down 1 (open_in b l)) []
    (below_stand h (row_at 5000) l foot.Down 1 (open_in b l) r) tt)

step_of : (s : Scenario) (l : ℕ) (e : Entry) (h : List Entry)
    → Stepped (start_of ((drawn s h).entries + 1)) l e (open_in (drawn s h).board l) (open_in (after s (drawn s h) e).board l)
    (boxes_of (start_of ((drawn s h).entries + 1)) l e (drawn s h).board)
step_of s l e h =
    subst (λ (os : List Opening). Stepped (start_of ((drawn s h).entries + 1)) l e (open_in (drawn s h).board l) os
    (boxes_of (start_of ((drawn s h).entries + 1)) l e (drawn s h).board)) (sym (open_after s (drawn s h) e l))
    (stepped (start_of ((drawn s h).entries + 1)) l e (drawn s h).board)

-- ---- a history

pub open_runs : (s : Scenario) (l : ℕ) (h : List Entry) → Each (RunsIn h l) (open_in (drawn s h).board l)
open_runs s l [] = subst (λ (os : List Opening). Each (RunsIn [] l) os) (sym (bare_first (threads s) s.pool l)) tt
open_runs s l (e ∷ h) =
    now_runs (start_of ((drawn s h).entries + 1)) l e h (open_in (drawn s h).board l) (open_in (after s (drawn s h) e).board l)
    (boxes_of (start_of ((drawn s h).entries + 1)) l e (drawn s h).board) (open_runs s l h) (step_of s l e h)

written_stand : (s : Scenario) (l : ℕ) (h : List Entry) → Each (StandsIn h l) (boxes_written s l h)
written_stand s l [] = tt
written_stand s l (e ∷ h) =
    longer_boxes e h l (boxes_written s l h ++ boxes_at ((drawn s h).entries + 1) l e (drawn s h).board)
    (each_append (StandsIn h l) (boxes_written s l h) (boxes_at ((drawn s h).entries + 1) l e (drawn s h).board) (written_stand s l h)
    (entry_stands ((drawn s h).entries + 1) l e h (drawn s h).board (open_in (after s (drawn s h) e).board l) (open_runs s l h)
    (step_of s l e h)))

waits_stand : (h : List Entry) (n l : ℕ) (b : State) (ws : List Wait) → Each (RunsIn h l) (open_in b l)
    → Each (StandsIn h l) (boxes_of_waits n l b ws)
waits_stand h n l b [] r = tt
waits_stand h n l b (w ∷ ws) r =
    each_append (StandsIn h l) (boxes_above n l b) (boxes_of_waits (n + 1) l b ws) (above_stand h n l b r)
    (waits_stand h (n + 1) l b ws r)

last_stand : (h : List Entry) (m l : ℕ) (cycle : List ℕ) (b : State) → Each (RunsIn h l) (open_in b l)
    → Each (StandsIn h l) (boxes_last m l cycle b)
last_stand h m l cycle b r =
    each_if (StandsIn h l) (m == 0) [] (boxes_below (row_at m) l (foot_in cycle l) 1 (open_in b l)) tt
    (below_stand h (row_at m) l (foot_in cycle l) 1 (open_in b l) r)

-- each box of a lane stands in it, and each body's was run there
pub page_stands : (s : Scenario) (l : ℕ) (h : List Entry) (x : Beside) → Each (StandsIn h l) (boxes_in s l h x)
page_stands s l h x =
    each_append (StandsIn h l) (boxes_written s l h)
    (boxes_behind (drawn s h).entries l (cycle_in x.waits) (waits_in x.waits) (drawn s h).board) (written_stand s l h)
    (each_append (StandsIn h l) (boxes_of_waits (rows_of (drawn s h).entries + 1) l (drawn s h).board (waits_in x.waits))
    (boxes_last (rows_of (drawn s h).entries + length (waits_in x.waits)) l (cycle_in x.waits) (drawn s h).board)
    (waits_stand h (rows_of (drawn s h).entries + 1) l (drawn s h).board (waits_in x.waits) (open_runs s l h))
    (last_stand h (rows_of (drawn s h).entries + length (waits_in x.waits)) l (cycle_in x.waits) (drawn s h).board (open_runs s l h)))
