-- What an entry changes of what stands open in a lane, and the box that it draws there.
use Rattle.std.proofs.Common.{◌≡◌, ℕ, List, [], ◌∷◌, ◌++◌, ◌⊎◌, inl, inr, Bool, true, false, ◌==◌, ◌&&◌, ◌||◌}
use Rattle.std.proofs.Common.{refl, ap, sym, subst, ◌∙◌, Option, Some, None, if◌then◌else◌, nat_le}
use Rattle.std.specs.Prelude.{map}
use Rattle.std.proofs.lemmas.Bool.{eq-eqb, eqb-false, eqb-true}
use Rattle.com_model.specs.declared.deeds.Deed.{Deed}
use Rattle.com_model.specs.declared.deeds.Deed.TheVariants as deed
use Rattle.com_model.specs.declared.deeds.Entry.{Entry}
use Rattle.com_model.specs.declared.deeds.Route.{Route}
use Rattle.com_model.specs.declared.deeds.Route.TheVariants as route
use Rattle.com_model.specs.Answers.{is_failure}
use Rattle.com_draw_state.specs.declared.lanes.Lane.{Lane}
use Rattle.com_draw_state.specs.declared.stacks.Opened.{Opened}
use Rattle.com_draw_state.specs.declared.stacks.Opened.TheVariants as what
use Rattle.com_draw_state.specs.declared.stacks.Opening.{Opening}
use Rattle.com_draw_state.specs.declared.stacks.Start.{Start}
use Rattle.com_draw_state.specs.Board.{State, with_lanes, with_tracks}
use Rattle.com_draw_state.specs.Lanes.{acted, homed, lane_at, with_lane, with_opening, without_innermost}
use Rattle.com_draw_state.specs.Stacks.{outer}
use Rattle.com_draw_state.specs.Tracks.{cut_of_apartment}
use Rattle.com_draw_shapes.specs.declared.effects.Closing.{Closing}
use Rattle.com_draw_shapes.specs.declared.effects.Closing.TheVariants as close
use Rattle.com_draw_shapes.specs.declared.effects.Opens.{Opens}
use Rattle.com_draw_shapes.specs.declared.effects.Opens.TheVariants as opens
use Rattle.com_draw_shapes.specs.Boxes.{inner_of, kind_of}
use Rattle.com_draw_shapes.specs.Changes.{changed, closed_on, opened_on, own_home}
use Rattle.com_draw_shapes.specs.Effects.{closed_by, manner_of, opened_by}
use Rattle.com_draw_shapes.specs.Places.{below}
use Rattle.com_laws_draw.specs.Boxes.{Placed, box_of_innermost}
use Rattle.com_laws_draw.specs.Lanes.{IsRun, box_closed, boxes_of, is_enter, open_in}
use Rattle.com_laws_draw.proofs.Lanes.{Changes, keeps, others, own}

-- nothing changes in the lane, something opens there, or the innermost is closed
pub data Stepped (here : Start) (l : ℕ) (e : Entry) (was now : List Opening) (new : List Placed) : Type 0 where
  kept : now ≡ was → new ≡ [] → Stepped here l e was now new
  opened : (w : Opened) → IsRun (e ∷ []) l (kind_of w) (inner_of w) → now ≡ was ++ record { what = w; start = here } ∷ []
      → new ≡ [] → Stepped here l e was now new
  closed : now ≡ outer was → new ≡ box_of_innermost here l was → Stepped here l e was now new

-- ---- an entry opens or closes, and not both

abbrev level_of : Opens → Option Opened
level_of opens.Nothing = None
level_of (opens.Home a) = None
level_of (opens.Life o a) = None
level_of (opens.Level w) = Some w

one_way : (hh : Bool) (d : Deed) → (level_of (opened_by hh d) ≡ None) ⊎ (closed_by d ≡ close.Nothing)
one_way hh (deed.Uninit home count) = inl refl
one_way hh deed.EndPump = inl refl
one_way hh (deed.Leave call hr value bytes) = inl refl
one_way hh (deed.Back call hr value) = inl refl
one_way hh (deed.Disconnect object hr) = inl refl
one_way hh (deed.Final object) = inl refl
one_way hh _ = inr refl

-- a body that opens is that of a call which the lane entered
abbrev Runs : Entry → ℕ → Opens → Type 0
Runs e l opens.Nothing = Unit {0}
Runs e l (opens.Home a) = Unit {0}
Runs e l (opens.Life o a) = Unit {0}
Runs e l (opens.Level w) = IsRun (e ∷ []) l (kind_of w) (inner_of w)

runs_if : (e : Entry) (l : ℕ) (o : Opens) → Runs e l o → (b : Bool) → Runs e l (if b then opens.Nothing else o)
runs_if e l o h true = tt
runs_if e l o h false = h

runs_out : (e : Entry) (l call iface method : ℕ) (r : Route)
    → IsRun (e ∷ []) l (kind_of (what.Waits call (manner_of r) iface method)) (inner_of (what.Waits call (manner_of r) iface method))
runs_out e l call iface method route.Refused = tt
runs_out e l call iface method route.Post = tt
runs_out e l call iface method route.Direct = tt
runs_out e l call iface method route.Switch = tt

entered_own : (m l c : ℕ) (d : Deed) → m ≡ l → is_enter c d ≡ true → ((m == l && is_enter c d) || false) ≡ true
entered_own m l c d same e =
    ap (λ (b : Bool). (b && is_enter c d) || false) (eq-eqb m l same) ∙ ap (λ (b : Bool). b || false) e

runs : (hh : Bool) (m l : ℕ) (d : Deed) → m ≡ l → Runs (record { lane = m; deed = d }) l (opened_by hh d)
runs hh m l (deed.Init mode home hr) same =
    runs_if (record { lane = m; deed = deed.Init mode home hr }) l (opens.Home home) tt (hh || is_failure hr)
runs hh m l (deed.Made (Some o) (Some a) class iface hr) same =
    runs_if (record { lane = m; deed = deed.Made (Some o) (Some a) class iface hr }) l (opens.Life o a) tt (is_failure hr)
runs hh m l (deed.Pump bound) same = tt
runs hh m l (deed.Out call object iface method r cause bytes) same =
    runs_out (record { lane = m; deed = deed.Out call object iface method r cause bytes }) l call iface method r
runs hh m l (deed.Enter call object apartment call_type values) same =
    entered_own m l call (deed.Enter call object apartment call_type values) same (eq-eqb call call refl)
runs hh m l _ same = tt

-- ---- what opens

some_none : (w : Opened) → Some w ≡ None → ⊥
some_none w e = cc

opened_keeps : (here : Start) (m l : ℕ) (o : Opens) (b : State) → level_of o ≡ None
    → open_in (opened_on here m o b) l ≡ open_in b l
opened_keeps here m l opens.Nothing b n = refl
opened_keeps here m l (opens.Home a) b n =
    keeps (homed (Some (record { apartment = a; start = here }))) (λ row. refl) b.lanes m l
opened_keeps here m l (opens.Life o a) b n = refl
opened_keeps here m l (opens.Level w) b n = absurd (some_none w n)

opened_other : (here : Start) (m l : ℕ) (o : Opens) (b : State) → (m ≡ l → ⊥)
    → open_in (opened_on here m o b) l ≡ open_in b l
opened_other here m l opens.Nothing b n = refl
opened_other here m l (opens.Home a) b n =
    keeps (homed (Some (record { apartment = a; start = here }))) (λ row. refl) b.lanes m l
opened_other here m l (opens.Life o a) b n = refl
opened_other here m l (opens.Level w) b n = others (with_opening (record { what = w; start = here })) b.lanes m l n

opens_level : (here : Start) (l : ℕ) (e : Entry) (w : Opened) (b : State) → IsRun (e ∷ []) l (kind_of w) (inner_of w)
    → Stepped here l e (open_in b l) (open_in (opened_on here l (opens.Level w) b) l) []
opens_level here l e w b r =
    elim (own (with_opening (record { what = w; start = here })) (λ os. os ++ record { what = w; start = here } ∷ [])
    (λ row. refl) b.lanes l) as
    (λ v. Stepped here l e (open_in b l) (open_in (opened_on here l (opens.Level w) b) l) []) [
      | inl is ↦ opened w r is refl
      | inr none ↦ kept none.0 refl
    ]

opens_own : (here : Start) (l : ℕ) (e : Entry) (o : Opens) (b : State) → Runs e l o
    → Stepped here l e (open_in b l) (open_in (opened_on here l o b) l) []
opens_own here l e opens.Nothing b r = kept refl refl
opens_own here l e (opens.Home a) b r =
    kept (keeps (homed (Some (record { apartment = a; start = here }))) (λ row. refl) b.lanes l l) refl
opens_own here l e (opens.Life o a) b r = kept refl refl
opens_own here l e (opens.Level w) b r = opens_level here l e w b r

-- ---- what closes

leaves : (here : Start) (m l a : ℕ) (b : State) (far : Bool)
    → open_in (if far then with_tracks (map (cut_of_apartment a (below here)) b.tracks) (with_lanes (with_lane (homed None) m b.lanes) b)
    else with_lanes (with_lane (homed None) m b.lanes) b) l ≡ open_in b l
leaves here m l a b true = keeps (homed None) (λ row. refl) b.lanes m l
leaves here m l a b false = keeps (homed None) (λ row. refl) b.lanes m l

closed_other : (here : Start) (m l : ℕ) (c : Closing) (b : State) → (m ≡ l → ⊥)
    → open_in (closed_on here m c b) l ≡ open_in b l
closed_other here m l close.Nothing b n = refl
closed_other here m l (close.Home a) b n = leaves here m l a b (nat_le 3 a)
closed_other here m l close.Innermost b n = others without_innermost b.lanes m l n
closed_other here m l (close.Cut o) b n = refl
closed_other here m l (close.Life o) b n = refl

innermost_closed : (lanes : List Lane) (l : ℕ) (was now : List Opening) → Changes outer was now → now ≡ outer was
innermost_closed lanes l was now (inl e) = e
innermost_closed lanes l was now (inr w) = w.0 ∙ w.1 ∙ sym (ap outer w.1)

closes_own : (here : Start) (l : ℕ) (e : Entry) (c : Closing) (was mid : State) → open_in mid l ≡ open_in was l
    → Stepped here l e (open_in was l) (open_in (closed_on here l c mid) l) (box_closed here l c was)
closes_own here l e close.Nothing was mid same = kept same refl
closes_own here l e (close.Home a) was mid same = kept (leaves here l l a mid (nat_le 3 a) ∙ same) refl
closes_own here l e close.Innermost was mid same =
    closed (innermost_closed mid.lanes l (open_in mid l) (open_in (closed_on here l close.Innermost mid) l)
    (own without_innermost outer (λ row. refl) mid.lanes l) ∙ ap outer same) refl
closes_own here l e (close.Cut o) was mid same = kept same refl
closes_own here l e (close.Life o) was mid same = kept same refl

-- ---- an entry

own_step : (here : Start) (l : ℕ) (e : Entry) (o : Opens) (c : Closing) (was mid : State) → open_in mid l ≡ open_in was l
    → Runs e l o → (level_of o ≡ None) ⊎ (c ≡ close.Nothing)
    → Stepped here l e (open_in was l) (open_in (closed_on here l c (opened_on here l o mid)) l) (box_closed here l c was)
own_step here l e o c was mid same r (inl n) =
    closes_own here l e c was (opened_on here l o mid) (opened_keeps here l l o mid n ∙ same)
own_step here l e o c was mid same r (inr n) =
    subst (λ (x : Closing). Stepped here l e (open_in was l) (open_in (closed_on here l x (opened_on here l o mid)) l) (box_closed here l x was))
    (sym n)
    (subst (λ (os : List Opening). Stepped here l e os (open_in (opened_on here l o mid) l) []) same (opens_own here l e o mid r))

step_by : (here : Start) (l m : ℕ) (d : Deed) (o : Opens) (b : State) (t : Bool) → (m == l) ≡ t
    → ((m ≡ l) → Runs (record { lane = m; deed = d }) l o) → (level_of o ≡ None) ⊎ (closed_by d ≡ close.Nothing)
    → Stepped here l (record { lane = m; deed = d }) (open_in b l)
    (open_in (closed_on here m (closed_by d) (opened_on here m o (with_lanes (with_lane acted m b.lanes) b))) l)
    (if t then box_closed here l (closed_by d) b else [])
step_by here l m d o b true e r one =
    let same : m ≡ l = eqb-true m l e in
    subst (λ (k : ℕ). Stepped here l (record { lane = m; deed = d }) (open_in b l)
    (open_in (closed_on here k (closed_by d) (opened_on here k o (with_lanes (with_lane acted k b.lanes) b))) l)
    (box_closed here l (closed_by d) b)) (sym same)
    (own_step here l (record { lane = m; deed = d }) o (closed_by d) b (with_lanes (with_lane acted l b.lanes) b)
    (keeps acted (λ row. refl) b.lanes l l) (r same) one)
step_by here l m d o b false e r one =
    let other : m ≡ l → ⊥ = eqb-false m l e in
    kept (closed_other here m l (closed_by d) (opened_on here m o (with_lanes (with_lane acted m b.lanes) b)) other
    ∙ opened_other here m l o (with_lanes (with_lane acted m b.lanes) b) other ∙ keeps acted (λ row. refl) b.lanes m l) refl

-- an entry in a row
pub stepped : (here : Start) (l : ℕ) (e : Entry) (b : State)
    → Stepped here l e (open_in b l) (open_in (changed here e b) l) (boxes_of here l e b)
unfolding changed
stepped here l e b =
    step_by here l e.lane e.deed (opened_by (own_home (lane_at b.lanes e.lane)) e.deed) b (e.lane == l) refl
    (λ same. runs (own_home (lane_at b.lanes e.lane)) e.lane l e.deed same) (one_way (own_home (lane_at b.lanes e.lane)) e.deed)
