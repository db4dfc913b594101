-- In legal histories of formed scenarios grounds begin and end while nothing is open in their lanes.
use Rattle.std.proofs.Common.{◌≡◌, ℕ, zero, suc, List, [], ◌∷◌, ◌+◌, ◌-◌, ◌≤◌, length, Bool, true, false, ◌==◌, ◌||◌, take}
use Rattle.std.proofs.Common.{refl, ap, sym, subst, arith, Option, Some, None, if◌then◌else◌}
use Rattle.std.proofs.lemmas.Bool.{eqb-false, eqb-true}
use Rattle.com_model.specs.declared.deeds.Deed.{Deed}
use Rattle.com_model.specs.declared.deeds.Deed.TheVariants as deed
use Rattle.com_model.specs.declared.deeds.Entry.{Entry}
use Rattle.com_model.specs.declared.keeps.Opener.{Opener}
use Rattle.com_model.specs.declared.scenario.Scenario.{Scenario}
use Rattle.com_model.specs.Answers.{is_failure}
use Rattle.com_model.specs.Formed.{Formed}
use Rattle.com_model.specs.Lists.{without_first}
use Rattle.com_model.specs.Openers.{Keeps, effect, effect_on, opened, openers}
use Rattle.com_model.specs.Rules.{legal}
use Rattle.com_model.specs.Safe.{EachEntry, MadeOnTop, ScriptAlone, maker}
use Rattle.com_model.specs.Tables.{threads}
use Rattle.com_draw_state.specs.declared.lanes.Lane.{Lane}
use Rattle.com_draw_state.specs.declared.stacks.Opening.{Opening}
use Rattle.com_draw_state.specs.declared.stacks.Start.{Start}
use Rattle.com_draw_state.specs.Board.{State, first_board, with_lanes}
use Rattle.com_draw_state.specs.Lanes.{acted, lane_at, with_lane}
use Rattle.com_draw_shapes.specs.declared.effects.Closing.{Closing}
use Rattle.com_draw_shapes.specs.declared.effects.Closing.TheVariants as close
use Rattle.com_draw_shapes.specs.declared.effects.Opens.{Opens}
use Rattle.com_draw_shapes.specs.declared.effects.Opens.TheVariants as opens
use Rattle.com_draw_shapes.specs.Changes.{changed, closed_on, opened_on, own_home}
use Rattle.com_draw_shapes.specs.Effects.{closed_by, opened_by}
use Rattle.com_draw_shapes.specs.Places.{start_of}
use Rattle.com_draw.specs.Entries.{drawn, rise}
use Rattle.com_laws_draw.specs.Lanes.{open_in, openings_of}
use Rattle.com_laws_draw.proofs.Lists.{last_length}
use Rattle.com_laws_draw.proofs.Pages.{bare_first, open_after}
use Rattle.com_laws_safety.proofs.OnTop.{legal-on-top}
use Rattle.com_laws_boxes.specs.Boxes.{GroundsAreBare, enters_home, leaves_home}
use Rattle.com_laws_boxes.proofs.Lanes.{changed_other, changed_own, row_after, row_closes, row_opens}

-- ---- no more is open in a drawn lane than in the history

abbrev fall : Closing → ℕ
fall close.Nothing = 0
fall (close.Home a) = 0
fall close.Innermost = 1
fall (close.Cut o) = 0
fall (close.Life o) = 0

rises_if : (o : Opens) (b : Bool) → rise o ≡ 0 → rise (if b then opens.Nothing else o) ≡ 0
rises_if o true e = refl
rises_if o false e = e

falls_if : (c : Closing) (b : Bool) → fall c ≡ 0 → fall (if b then close.Nothing else c) ≡ 0
falls_if c true e = refl
falls_if c false e = e

home_falls : (a : ℕ) (b : Bool) → fall (if b then close.Home a else close.Nothing) ≡ 0
home_falls a true = refl
home_falls a false = refl

shorter : (os : List Opener) → length os - 1 ≤ length (without_first os)
shorter [] = omega arith
shorter (o ∷ os) = omega arith

counts : (hh : Bool) (d : Deed) (os : List Opener) (n : ℕ) → n ≤ length os
    → n + rise (opened_by hh d) - fall (closed_by d) ≤ length (opened (effect d) os)
counts hh (deed.Init mode home hr) os n h =
    let none : rise (opened_by hh (deed.Init mode home hr)) ≡ 0 = rises_if (opens.Home home) (hh || is_failure hr) refl in
    omega (arith, h, none)
counts hh (deed.Made (Some o) (Some a) class iface hr) os n h =
    let none : rise (opened_by hh (deed.Made (Some o) (Some a) class iface hr)) ≡ 0 = rises_if (opens.Life o a) (is_failure hr) refl in
    omega (arith, h, none)
counts hh (deed.Uninit (Some a) count) os n h =
    let none : fall (closed_by (deed.Uninit (Some a) count)) ≡ 0 = home_falls a (count == 0) in omega (arith, h, none)
counts hh (deed.Disconnect (Some o) hr) os n h =
    let none : fall (closed_by (deed.Disconnect (Some o) hr)) ≡ 0 = falls_if (close.Cut o) (is_failure hr) refl in
    omega (arith, h, none)
counts hh deed.EndPump os n h =
    let k : length os - 1 ≤ length (without_first os) = shorter os in omega (arith, h, k)
counts hh (deed.Leave call hr value bytes) os n h =
    let k : length os - 1 ≤ length (without_first os) = shorter os in omega (arith, h, k)
counts hh (deed.Back call hr value) os n h =
    let k : length os - 1 ≤ length (without_first os) = shorter os in omega (arith, h, k)
counts hh _ os n h = omega (arith, h)

take_short : (n : ℕ) (os : List Opening) → length (take n os) ≤ n
take_short zero os = omega arith
take_short (suc n) [] = omega arith
take_short (suc n) (o ∷ os) = let k : length (take n os) ≤ n = take_short n os in omega (arith, k)

closed_row : (c : Closing) (row : Lane) → length (row_closes c row).openings ≤ length row.openings - fall c
closed_row close.Nothing row = omega arith
closed_row (close.Home a) row = omega arith
closed_row close.Innermost row = take_short (length row.openings - 1) row.openings
closed_row (close.Cut o) row = omega arith
closed_row (close.Life o) row = omega arith

opened_row : (here : Start) (o : Opens) (row : Lane) → length (row_opens here o row).openings ≡ length row.openings + rise o
opened_row here opens.Nothing row = omega arith
opened_row here (opens.Home a) row = omega arith
opened_row here (opens.Life o a) row = omega arith
opened_row here (opens.Level w) row = last_length row.openings (record { what = w; start = here })

row_count : (here : Start) (o : Opens) (c : Closing) (v : Option Lane)
    → length (openings_of (row_after here o c v)) ≤ length (openings_of v) + rise o - fall c
row_count here o c None = omega arith
row_count here o c (Some row) =
    let k : length (row_closes c (row_opens here o (acted row))).openings ≤ length (row_opens here o (acted row)).openings - fall c =
    closed_row c (row_opens here o (acted row)) in
    let l : length (row_opens here o (acted row)).openings ≡ length row.openings + rise o = opened_row here o (acted row) in
    omega (arith, k, l)

abbrev open_then : (here : Start) (m l : ℕ) → Opens → Closing → State → List Opening
open_then here m l o c b = openings_of (lane_at (closed_on here m c (opened_on here m o (with_lanes (with_lane acted m b.lanes) b))).lanes l)

own_count : (here : Start) (l : ℕ) (o : Opens) (c : Closing) (b : State)
    → length (open_then here l l o c b) ≤ length (open_in b l) + rise o - fall c
own_count here l o c b =
    subst (λ (v : Option Lane). length (openings_of v) ≤ length (open_in b l) + rise o - fall c) (sym (changed_own here l o c b))
    (row_count here o c (lane_at b.lanes l))

step_by : (here : Start) (hh : Bool) (m l : ℕ) (d : Deed) (b : State) (os : List Opener) (t : Bool) → (m == l) ≡ t
    → length (open_in b l) ≤ length os
    → length (open_then here m l (opened_by hh d) (closed_by d) b) ≤ length (opened (if t then effect d else Keeps) os)
step_by here hh m l d b os true e h =
    let more : length (open_in b l) + rise (opened_by hh d) - fall (closed_by d) ≤ length (opened (effect d) os) =
    counts hh d os (length (open_in b l)) h in
    let own : length (open_then here l l (opened_by hh d) (closed_by d) b) ≤ length (open_in b l) + rise (opened_by hh d) - fall (closed_by d) =
    own_count here l (opened_by hh d) (closed_by d) b in
    subst (λ (n : ℕ). length (open_then here n l (opened_by hh d) (closed_by d) b) ≤ length (opened (effect d) os)) (sym (eqb-true m l e))
    (omega (arith, more, own))
step_by here hh m l d b os false e h =
    subst (λ (v : Option Lane). length (openings_of v) ≤ length os)
    (sym (changed_other here m l (opened_by hh d) (closed_by d) b (eqb-false m l e))) h

step : (here : Start) (l : ℕ) (e : Entry) (b : State) (os : List Opener) → length (open_in b l) ≤ length os
    → length (open_in (changed here e b) l) ≤ length (opened (effect_on l e) os)
unfolding changed
step here l e b os h = step_by here (own_home (lane_at b.lanes e.lane)) e.lane l e.deed b os (e.lane == l) refl h

few_at_first : (t p l : ℕ) → length (open_in (first_board t p) l) ≤ 0
few_at_first t p l = let none : length (open_in (first_board t p) l) ≡ 0 = ap (λ (os : List Opening). length os) (bare_first t p l) in omega (arith, none)

few_open : (s : Scenario) (l : ℕ) (h : List Entry) → length (open_in (drawn s h).board l) ≤ length (openers h l)
few_open s l [] = few_at_first (threads s) s.pool l
few_open s l (e ∷ h) =
    subst (λ (os : List Opening). length os ≤ length (opened (effect_on l e) (openers h l))) (sym (open_after s (drawn s h) e l))
    (step (start_of ((drawn s h).entries + 1)) l e (drawn s h).board (openers h l) (few_open s l h))

-- ---- who enters a home and leaves one

wrong : false ≡ true → ⊥
wrong q = cc

script : (os : List Opener) → MadeOnTop ScriptAlone os → os ≡ []
script [] on = refl
script (o ∷ os) on = absurd on

no_life : (o a : ℕ) (b : Bool) → enters_home (if b then opens.Nothing else opens.Life o a) ≡ true → ⊥
no_life o a true h = wrong h
no_life o a false h = wrong h

no_cut : (o : ℕ) (b : Bool) → leaves_home (if b then close.Nothing else close.Cut o) ≡ true → ⊥
no_cut o true h = wrong h
no_cut o false h = wrong h

enters : (hh : Bool) (d : Deed) (os : List Opener) → MadeOnTop (maker d) os → enters_home (opened_by hh d) ≡ true → os ≡ []
enters hh (deed.Init mode home hr) os on h = script os on
enters hh (deed.Made (Some o) (Some a) class iface hr) os on h = absurd (no_life o a (is_failure hr) h)
enters hh _ os on h = absurd (wrong h)

leaves : (d : Deed) (os : List Opener) → MadeOnTop (maker d) os → leaves_home (closed_by d) ≡ true → os ≡ []
leaves (deed.Uninit (Some a) count) os on h = script os on
leaves (deed.Disconnect (Some o) hr) os on h = absurd (no_cut o (is_failure hr) h)
leaves _ os on h = absurd (wrong h)

nothing : (os : List Opening) → length os ≤ 0 → os ≡ []
nothing [] h = refl
nothing (o ∷ os) h = absurd (omega (arith, h))

none_open : (s : Scenario) (l : ℕ) (h : List Entry) → openers h l ≡ [] → open_in (drawn s h).board l ≡ []
none_open s l h e =
    let few : length (open_in (drawn s h).board l) ≤ length (openers h l) = few_open s l h in
    let zero_open : length (openers h l) ≡ 0 = ap (λ (os : List Opener). length os) e in
    nothing (open_in (drawn s h).board l) (omega (arith, few, zero_open))

bare_by : (s : Scenario) (h : List Entry) → EachEntry (λ h l d. MadeOnTop (maker d) (openers h l)) h → GroundsAreBare s h
bare_by s [] on = tt
bare_by s (e ∷ h) on = (
  bare_by s h on.0,
  record {
    enters =
        λ k. none_open s e.lane h
        (enters (own_home (lane_at (drawn s h).board.lanes e.lane)) e.deed (openers h e.lane) on.1 k);
    leaves = λ k. none_open s e.lane h (leaves e.deed (openers h e.lane) on.1 k);
  },
)

pub grounds_bare : (s : Scenario) (h : List Entry) → Formed s → legal s h → GroundsAreBare s h
grounds_bare s h formed is = bare_by s h (legal-on-top s h formed is)
