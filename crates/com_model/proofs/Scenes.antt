-- Frames, cells, buffers and destinations stay within the numbers that were given, and their references name what is there.
use Rattle.std.proofs.Common.{subst, ap, ◌∙◌, eqb-true, arith}
use Rattle.std.proofs.lemmas.Bool.{false_from_ne_true}
use Rattle.std.proofs.lemmas.List.Elements.{All-set, All-replicate, All-nil}
use Rattle.std.proofs.lemmas.Grind.{common_steps}
use Rattle.std.specs.Prelude.{◌≡◌, refl, ℕ, zero, suc, ◌+◌, ◌≤◌, ◌<◌, Bool, true, false, cond, ◌==◌, nat_le, List, [], ◌∷◌, Option, Some, None, All, fold, replicate, length}
use Rattle.com_base.specs.declared.value.RefValue.{RefValue}
use Rattle.com_base.specs.declared.value.Value.{Value}
use Rattle.com_base.specs.declared.value.Value.TheVariants as value
use Rattle.com_body.specs.declared.operands.Place.{Place}
use Rattle.com_body.specs.declared.operands.Place.TheVariants as place
use Rattle.com_body.specs.declared.operands.Destination.{Destination}
use Rattle.com_body.specs.declared.operands.Destination.TheVariants as destination
use Rattle.com_body.specs.declared.actions.Action.{Action}
use Rattle.com_body.specs.declared.actions.Action.TheVariants as action
use Rattle.com_body.specs.declared.frame.Cells.{Cells}
use Rattle.com_body.specs.declared.frame.Outcome.{Outcome}
use Rattle.com_body.specs.Frames.{FrameView, entered, with_slot}
use Rattle.com_body.specs.Operands.{new_cells}
use Rattle.com_classes.specs.Lookups.{body_of}
use Rattle.com_model.specs.declared.deeds.Deed.{Deed}
use Rattle.com_model.specs.declared.deeds.Deed.TheVariants as deed
use Rattle.com_model.specs.declared.scenario.Scenario.{Scenario}
use Rattle.com_model.specs.Answers.{S_OK}
use Rattle.com_model.specs.Lists.{put}
use Rattle.com_model.specs.Tables.{threads, script, LaneSort, Thread, Host, Pool, NoLane, lane_sort, host_lane, lanes}
use Rattle.com_model.specs.Openers.{Opener, Pumps, Waits, Enters}
use Rattle.com_model.specs.Apartments.{ends_sta}
use Rattle.com_model.specs.Calls.{Issue}
use Rattle.com_model.specs.Frames.{Scene, Actor, Body, Script, Nobody, actor, issued_body, outcome, is_leave, unless_over, unless_final, taken_in, Write, ToRegister, ToSlot, ToLink, ToBuffer, to_place, to_answer, marshalled_in, writes, value_reference, to_destination, written, with_frame, wants, acted, arrived, cut_links, acting, scene_after}
use Rattle.com_model.specs.Formed.{Formed}
use Rattle.com_model.proofs.Goods.{GoodHeld, GoodValue, GoodResult, GoodFrame, GoodCells, GoodAction, GoodOutcome, Clean, more-frame, more-cells, register-good, step-good, entered-good}
use Rattle.com_model.proofs.Cleans.{script-clean, body-clean}
use Rattle.com_model.proofs.Fines.{cond-is}

abbrev pub faces : Scenario → ℕ
faces s = length s.classes.interfaces

-- n objects were made and c calls issued.
pub record GoodScene (s : Scenario) (n c : ℕ) (w : Scene) : Type 0 where
  pub scripts : (l : ℕ) → GoodFrame n (faces s) (w.scripts l)
  pub bodies : (k : ℕ) → GoodFrame n (faces s) (w.bodies k)
  pub cells : (o : ℕ) → GoodCells n (faces s) (w.cells o)
  pub no_script : (l : ℕ) → threads s + 1 ≤ l → w.scripts l ≡ entered []
  pub no_body : (k : ℕ) → c + 1 ≤ k → w.bodies k ≡ entered []
  pub no_cells : (o : ℕ) → n + 1 ≤ o → w.cells o ≡ new_cells
  pub no_buffer : (b : ℕ) → 64 ≤ b → w.buffers b ≡ []
  pub no_destination : (k : ℕ) → c + 1 ≤ k → w.destinations k ≡ destination.Nowhere

pub more-scene : (s : Scenario) (n c k d : ℕ) (w : Scene) → n ≤ k → c ≤ d → GoodScene s n c w → GoodScene s k d w
more-scene s n c k d w p q g = record {
  scripts = λ l. more-frame n k (faces s) p (w.scripts l) (g.scripts l);
  bodies = λ l. more-frame n k (faces s) p (w.bodies l) (g.bodies l);
  cells = λ o. more-cells n k (faces s) p (w.cells o) (g.cells o);
  no_script = g.no_script;
  no_body = λ j h. g.no_body j (omega (arith, q, h));
  no_cells = λ j h. g.no_cells j (omega (arith, p, h));
  no_buffer = g.no_buffer;
  no_destination = λ j h. g.no_destination j (omega (arith, q, h));
}

abbrev pub GoodActor : Scenario → (n c : ℕ) → Actor → Type 0
GoodActor s n c (Body k o) = (k ≤ c) × (o ≤ n)
GoodActor s n c (Script l) = l ≤ threads s
GoodActor s n c Nobody = Unit {0}

abbrev GoodWrite : (n m : ℕ) → Write → Type 0
GoodWrite n m (ToRegister r v) = GoodValue n m v
GoodWrite n m (ToSlot k held) = GoodHeld n m held
GoodWrite n m (ToLink k held) = GoodHeld n m held
GoodWrite n m (ToBuffer b bytes) = b < 64

abbrev GoodWrites : (n m : ℕ) → List Write → Type 0
GoodWrites n m [] = Unit {0}
GoodWrites n m (x ∷ xs) = GoodWrite n m x × GoodWrites n m xs

-- ---- a table that is changed at one number

put-all : {X : Type 0} (P : X → Type 0) (k : ℕ) (x : X) (f : ℕ → X) → P x → ((j : ℕ) → P (f j)) → (j : ℕ) → P (put k x f j)
put-all P k x f p q j = cond-is P (j == k) x (f j) p (q j)

pub put-past : {X : Type 0} (n k : ℕ) (x d : X) (f : ℕ → X) → k ≤ n → ((j : ℕ) → n + 1 ≤ j → f j ≡ d) → (j : ℕ) → n + 1 ≤ j → put k x f j ≡ d
put-past n k x d f p q j h = ap (λ (b : Bool). cond b x (f j)) (false_from_ne_true (j == k) (λ t. let z : j ≡ k = eqb-true j k t in omega (arith, z, p, h))) ∙ q j h

put-low : {X : Type 0} (n k : ℕ) (x d : X) (f : ℕ → X) → k < n → ((j : ℕ) → n ≤ j → f j ≡ d) → (j : ℕ) → n ≤ j → put k x f j ≡ d
put-low n k x d f p q j h = ap (λ (b : Bool). cond b x (f j)) (false_from_ne_true (j == k) (λ t. let z : j ≡ k = eqb-true j k t in omega (arith, z, p, h))) ∙ q j h

slot-set : (n m : ℕ) (f : FrameView) (k : ℕ) (held : Option RefValue) → GoodFrame n m f → GoodHeld n m held → GoodFrame n m (with_slot f k held)
slot-set n m f k held g p = record { registers = g.registers; slots = All-set (GoodHeld n m) f.slots k held p g.slots }

-- ---- writes

written-good : (s : Scenario) (n c : ℕ) (a : Actor) (w : Scene) (x : Write) → GoodActor s n c a → GoodWrite n (faces s) x → GoodScene s n c w → GoodScene s n c (written a w x)
written-good s n c (Body k o) w (ToRegister r v) a p g = record { scripts = g.scripts; bodies = put-all (GoodFrame n (faces s)) k _ w.bodies (register-good n (faces s) (w.bodies k) r v (g.bodies k) p) g.bodies; cells = g.cells; no_script = g.no_script; no_body = put-past c k _ _ w.bodies a.0 g.no_body; no_cells = g.no_cells; no_buffer = g.no_buffer; no_destination = g.no_destination }
written-good s n c (Body k o) w (ToSlot i held) a p g = record { scripts = g.scripts; bodies = put-all (GoodFrame n (faces s)) k _ w.bodies (slot-set n (faces s) (w.bodies k) i held (g.bodies k) p) g.bodies; cells = g.cells; no_script = g.no_script; no_body = put-past c k _ _ w.bodies a.0 g.no_body; no_cells = g.no_cells; no_buffer = g.no_buffer; no_destination = g.no_destination }
written-good s n c (Body k o) w (ToLink i held) a p g = record { scripts = g.scripts; bodies = g.bodies; cells = put-all (GoodCells n (faces s)) o _ w.cells (All-set (GoodHeld n (faces s)) (w.cells o).links i held p (g.cells o)) g.cells; no_script = g.no_script; no_body = g.no_body; no_cells = put-past n o _ _ w.cells a.1 g.no_cells; no_buffer = g.no_buffer; no_destination = g.no_destination }
written-good s n c (Body k o) w (ToBuffer b bytes) a p g = record { scripts = g.scripts; bodies = g.bodies; cells = g.cells; no_script = g.no_script; no_body = g.no_body; no_cells = g.no_cells; no_buffer = put-low 64 b _ _ w.buffers p g.no_buffer; no_destination = g.no_destination }
written-good s n c (Script l) w (ToRegister r v) a p g = record { scripts = put-all (GoodFrame n (faces s)) l _ w.scripts (register-good n (faces s) (w.scripts l) r v (g.scripts l) p) g.scripts; bodies = g.bodies; cells = g.cells; no_script = put-past (threads s) l _ _ w.scripts a g.no_script; no_body = g.no_body; no_cells = g.no_cells; no_buffer = g.no_buffer; no_destination = g.no_destination }
written-good s n c (Script l) w (ToSlot i held) a p g = record { scripts = put-all (GoodFrame n (faces s)) l _ w.scripts (slot-set n (faces s) (w.scripts l) i held (g.scripts l) p) g.scripts; bodies = g.bodies; cells = g.cells; no_script = put-past (threads s) l _ _ w.scripts a g.no_script; no_body = g.no_body; no_cells = g.no_cells; no_buffer = g.no_buffer; no_destination = g.no_destination }
written-good s n c (Script l) w (ToLink i held) a p g = g
written-good s n c (Script l) w (ToBuffer b bytes) a p g = record { scripts = g.scripts; bodies = g.bodies; cells = g.cells; no_script = g.no_script; no_body = g.no_body; no_cells = g.no_cells; no_buffer = put-low 64 b _ _ w.buffers p g.no_buffer; no_destination = g.no_destination }
written-good s n c Nobody w x a p g = g

all-written : (s : Scenario) (n c : ℕ) (a : Actor) (w : Scene) (xs : List Write) → GoodActor s n c a → GoodWrites n (faces s) xs → GoodScene s n c w → GoodScene s n c (fold (written a) w xs)
all-written s n c a w [] p q g = g
all-written s n c a w (x ∷ xs) p q g = all-written s n c a (written a w x) xs p q.1 (written-good s n c a w x p q.0 g)

marshalled-writes : (n m b : ℕ) (d : Deed) → b < 64 → GoodWrites n m (marshalled_in b d)
marshalled-writes n m b (deed.Marshal p x held refs hr (Some bytes)) h = (h, tt)
marshalled-writes n m b (deed.Marshal p x held refs hr None) h = tt
marshalled-writes n m b _ h = tt

place-writes : (n m : ℕ) (x : Place) (held : Option RefValue) → GoodHeld n m held → GoodWrite n m (to_place x held)
place-writes n m (place.Slot k) held p = p
place-writes n m (place.Link k) held p = p

good-writes : (n m : ℕ) (a : Action) (d : Deed) → GoodAction n m a → GoodHeld n m (taken_in d) → GoodWrites n m (writes a d)
good-writes n m (action.Create slot k i) d p t = (tt, (t, tt))
good-writes n m (action.Query to held i) d p t = (tt, (t, tt))
good-writes n m (action.Copy to held) d p t = (tt, (place-writes n m to held p, tt))
good-writes n m (action.Release from held) d p t = (tt, (place-writes n m from None tt, tt))
good-writes n m (action.Call held i x args to) d p t = tt
good-writes n m (action.Marshal b held x) d p t = (tt, marshalled-writes n m b d p.0)
good-writes n m (action.Unmarshal slot b) d p t = (tt, (t, tt))
good-writes n m (action.Drop b) d p t = (tt, tt)
good-writes n m (action.Raw b bytes) d p t = (tt, (p, tt))
good-writes n m (action.Register to held) d p t = (tt, (tt, tt))
good-writes n m (action.Get slot x) d p t = (tt, (t, tt))
good-writes n m (action.Revoke x) d p t = (tt, tt)
good-writes n m (action.Disconnect held) d p t = (tt, tt)
good-writes n m (action.Post l x) d p t = (tt, tt)
good-writes n m (action.Quit l) d p t = (tt, tt)
good-writes n m (action.Leave hr v) d p t = tt
good-writes n m (action.Init x) d p t = (tt, tt)
good-writes n m action.Uninit d p t = (tt, tt)
good-writes n m (action.SetFilter f) d p t = (tt, tt)
good-writes n m (action.Pump k) d p t = tt

-- ---- what an entry does

framed-good : (s : Scenario) (n c : ℕ) (a : Actor) (r : Outcome) (w : Scene) → GoodActor s n c a → GoodOutcome n (faces s) r → GoodScene s n c w → GoodScene s n c (with_frame a r w)
framed-good s n c (Body k o) r w p q g = record { scripts = g.scripts; bodies = put-all (GoodFrame n (faces s)) k r.frame w.bodies q.frame g.bodies; cells = put-all (GoodCells n (faces s)) o r.cells w.cells q.cells g.cells; no_script = g.no_script; no_body = put-past c k _ _ w.bodies p.0 g.no_body; no_cells = put-past n o _ _ w.cells p.1 g.no_cells; no_buffer = g.no_buffer; no_destination = g.no_destination }
framed-good s n c (Script l) r w p q g = record { scripts = put-all (GoodFrame n (faces s)) l r.frame w.scripts q.frame g.scripts; bodies = g.bodies; cells = g.cells; no_script = put-past (threads s) l _ _ w.scripts p g.no_script; no_body = g.no_body; no_cells = g.no_cells; no_buffer = g.no_buffer; no_destination = g.no_destination }
framed-good s n c Nobody r w p q g = g

-- The calls that an Out, an Enter, a Leave names were issued.
abbrev pub Issued : ℕ → Deed → Type 0
Issued c (deed.Out k o i x r b bytes) = k ≤ c
Issued c (deed.Enter k o a t vs) = k ≤ c
Issued c (deed.Leave k hr v bytes) = k ≤ c
Issued c _ = Unit {0}

wants-good : (s : Scenario) (n c : ℕ) (a : Action) (d : Deed) (w : Scene) → Issued c d → GoodScene s n c w → GoodScene s n c (wants a d w)
wants-good s n c (action.Call held i x args to) (deed.Out k o j y r b bytes) w p g = record { scripts = g.scripts; bodies = g.bodies; cells = g.cells; no_script = g.no_script; no_body = g.no_body; no_cells = g.no_cells; no_buffer = g.no_buffer; no_destination = put-past c k _ _ w.destinations p g.no_destination }
wants-good s n c (action.Call held i x args to) _ w p g = g
wants-good s n c _ d w p g = g

abbrev pub GoodOut : (n m : ℕ) → Option Outcome → Type 0
GoodOut n m None = Unit {0}
GoodOut n m (Some r) = GoodOutcome n m r

acted-good : (s : Scenario) (n c : ℕ) (a : Actor) (r : Option Outcome) (d : Deed) (w : Scene) → GoodActor s n c a → GoodOut n (faces s) r → GoodHeld n (faces s) (taken_in d) → Issued c d → GoodScene s n c w → GoodScene s n c (acted a r d w)
acted-good s n c a None d w p q t i g = g
acted-good s n c a (Some r) d w p q t i g =
    wants-good s n c r.action d _ i (all-written s n c a (with_frame a r w) (writes r.action d) p (good-writes n (faces s) r.action d q.action t) (framed-good s n c a r w p q g))

reference-good : (n m : ℕ) (v : Option Value) → GoodResult n m v → GoodHeld n m (value_reference v)
reference-good n m None p = tt
reference-good n m (Some (value.Ref held)) p = p
reference-good n m (Some (value.Int x)) p = tt
reference-good n m (Some (value.Bool x)) p = tt
reference-good n m (Some (value.Text x)) p = tt
reference-good n m (Some (value.Bytes x)) p = tt
reference-good n m (Some (value.Guid x)) p = tt

destination-writes : (n m : ℕ) (x : Destination) (v : Option Value) → GoodResult n m v → GoodWrites n m (to_destination x v)
destination-writes n m destination.Nowhere v p = tt
destination-writes n m (destination.Register r) None p = tt
destination-writes n m (destination.Register r) (Some v) p = (p, tt)
destination-writes n m (destination.Slot k) v p = (reference-good n m v p, tt)

-- What a deed brings: the values of an Enter and a Back, and an object's number.
abbrev pub Brings : (n m : ℕ) → Deed → Type 0
Brings n m (deed.Enter k o a t vs) = All (GoodValue n m) vs
Brings n m (deed.Back k hr v) = GoodResult n m v
Brings n m (deed.Final o) = o ≤ n
Brings n m _ = Unit {0}

emptied : (s : Scenario) (l j : ℕ) (w : Scene) (t : Bool) → (j == l) ≡ t → ((k : ℕ) → threads s + 1 ≤ k → w.scripts k ≡ entered []) → threads s + 1 ≤ j → cond t (record (w.scripts l) { slots = replicate 8 None }) (w.scripts j) ≡ entered []
emptied s l j w true e q h = let z : j ≡ l = eqb-true j l e in ap (λ (f : FrameView). record f { slots = replicate 8 None }) (q l (subst (λ (k : ℕ). threads s + 1 ≤ k) z h))
emptied s l j w false e q h = q j h

put-default : {X : Type 0} (k j : ℕ) (d : X) (f : ℕ → X) → f j ≡ d → put k d f j ≡ d
put-default k j d f e = elim (j == k) as (λ t. cond t d (f j) ≡ d) [
  | true ↦ refl
  | false ↦ e
]

arrived-good : (s : Scenario) (n c : ℕ) (b : Actor) (l : ℕ) (d : Deed) (w : Scene) → GoodActor s n c b → Issued c d → Brings n (faces s) d → GoodScene s n c w → GoodScene s n c (arrived b l d w)
arrived-good s n c b l (deed.Enter k o a t vs) w p i q g = record { scripts = g.scripts; bodies = put-all (GoodFrame n (faces s)) k (entered vs) w.bodies (entered-good n (faces s) vs q) g.bodies; cells = g.cells; no_script = g.no_script; no_body = put-past c k _ _ w.bodies i g.no_body; no_cells = g.no_cells; no_buffer = g.no_buffer; no_destination = g.no_destination }
arrived-good s n c b l (deed.Leave k hr v bytes) w p i q g = record { scripts = g.scripts; bodies = put-all (GoodFrame n (faces s)) k (entered []) w.bodies (entered-good n (faces s) [] (All-nil (GoodValue n (faces s)))) g.bodies; cells = g.cells; no_script = g.no_script; no_body = λ j h. put-default k j (entered []) w.bodies (g.no_body j h); no_cells = g.no_cells; no_buffer = g.no_buffer; no_destination = g.no_destination }
arrived-good s n c b l (deed.Back k hr v) w p i q g = all-written s n c b w (to_answer hr ∷ to_destination (w.destinations k) v) p (tt, destination-writes n (faces s) (w.destinations k) v q) g
arrived-good s n c b l deed.EndPump w p i q g = written-good s n c b w (to_answer S_OK) p tt g
arrived-good s n c b l (deed.Uninit a zero) w p i q g = record { scripts = put-all (GoodFrame n (faces s)) l (record (w.scripts l) { slots = replicate 8 None }) w.scripts (record { registers = (g.scripts l).registers; slots = All-replicate (GoodHeld n (faces s)) 8 None tt }) g.scripts; bodies = g.bodies; cells = g.cells; no_script = λ j h. emptied s l j w (j == l) refl g.no_script h; no_body = g.no_body; no_cells = g.no_cells; no_buffer = g.no_buffer; no_destination = g.no_destination }
arrived-good s n c b l (deed.Uninit a (suc k)) w p i q g = g
arrived-good s n c b l (deed.Final o) w p i q g = record { scripts = g.scripts; bodies = g.bodies; cells = put-all (GoodCells n (faces s)) o (record (w.cells o) { links = replicate 4 None }) w.cells (All-replicate (GoodHeld n (faces s)) 4 None tt) g.cells; no_script = g.no_script; no_body = g.no_body; no_cells = put-past n o _ _ w.cells q g.no_cells; no_buffer = g.no_buffer; no_destination = g.no_destination }
arrived-good s n c b l _ w p i q g = g

still-new : (b : Bool) → cond b (record new_cells { links = replicate 4 None }) new_cells ≡ new_cells
still-new true = refl
still-new false = refl

cut-good : (s : Scenario) (n c : ℕ) (named : ℕ → ℕ) (x : Option ℕ) (w : Scene) → GoodScene s n c w → GoodScene s n c (cut_links named x w)
cut-good s n c named None w g = g
cut-good s n c named (Some a) w g = record { scripts = g.scripts; bodies = g.bodies; cells = λ o. cond-is (GoodCells n (faces s)) (named o == a) (record (w.cells o) { links = replicate 4 None }) (w.cells o) (All-replicate (GoodHeld n (faces s)) 4 None tt) (g.cells o); no_script = g.no_script; no_body = g.no_body; no_cells = λ o h. ap (λ (x : Cells). cond (named o == a) (record x { links = replicate 4 None }) x) (g.no_cells o h) ∙ still-new (named o == a); no_buffer = g.no_buffer; no_destination = g.no_destination }

-- ---- who acts, and its step

pub over-good : (s : Scenario) (n c : ℕ) (a : Actor) (r : Option Outcome) → GoodActor s n c a → GoodActor s n c (unless_over a r)
over-good s n c (Script l) (Some r) p = cond-is (GoodActor s n c) (is_leave r.action) Nobody (Script l) tt p
over-good s n c (Script l) None p = p
over-good s n c (Body k o) r p = p
over-good s n c Nobody r p = p

final-good : (s : Scenario) (n c : ℕ) (d : Deed) (a : Actor) → GoodActor s n c a → GoodActor s n c (unless_final d a)
final-good s n c (deed.Final o) a p = tt
final-good s n c _ a p = p

pub new-cells-good : (n m : ℕ) → GoodCells n m new_cells
new-cells-good n m = All-replicate (GoodHeld n m) 4 None tt

issued-good : (s : Scenario) → Formed s → (n k : ℕ) (i : Option Issue) (f : FrameView) (c : Cells) → GoodFrame n (faces s) f → GoodCells n (faces s) c → GoodOutcome n (faces s) (issued_body s k i f c)
issued-good s x n k None f c p q = step-good n (faces s) [] f c (All-nil Clean) p q
issued-good s x n k (Some i) f c p q = step-good n (faces s) (body_of s.classes k i.iface i.method) f c (body-clean s x k i.iface i.method) p q

pub outcome-good : (s : Scenario) → Formed s → (n c : ℕ) (k : ℕ → ℕ) (i : ℕ → Option Issue) (w : Scene) (a : Actor) → GoodScene s n c w → GoodOut n (faces s) (outcome s k i w a)
outcome-good s x n c k i w (Body b o) g = issued-good s x n (k o) (i b) (w.bodies b) (w.cells o) (g.bodies b) (g.cells o)
outcome-good s x n c k i w (Script l) g = step-good n (faces s) (script s l) (w.scripts l) new_cells (script-clean s x l) (g.scripts l) (new-cells-good n (faces s))
outcome-good s x n c k i w Nobody g = tt

pub scene-good : (s : Scenario) → Formed s → (n c : ℕ) (k m : ℕ → ℕ) (i : ℕ → Option Issue) (a b : Actor) (l : ℕ) (d : Deed) (w : Scene) → GoodActor s n c a → GoodActor s n c b → GoodHeld n (faces s) (taken_in d) → Issued c d → Brings n (faces s) d → GoodScene s n c w → GoodScene s n c (scene_after s k m i a b l d w)
scene-good s x n c k m i a b l d w p q t j y g =
    let u : Actor = acting s k i w a d in
    cut-good s n c m (ends_sta d) _ (arrived-good s n c b l d _ q j y (acted-good s n c u (outcome s k i w u) d w (final-good s n c d _ (over-good s n c a (outcome s k i w a) p)) (outcome-good s x n c k i w u g) t j g))

-- A lane that acts by its script is a thread's, and one that acts by a body acts for the innermost opener.
abbrev pub GoodOpeners : (n c a : ℕ) → List Opener → Type 0
GoodOpeners n c a [] = Unit {0}
GoodOpeners n c a (Enters k o b ∷ os) = ((k ≤ c) × (o ≤ n) × (b < a)) × GoodOpeners n c a os
GoodOpeners n c a (_ ∷ os) = GoodOpeners n c a os

sorted-thread : (a b c e : Bool) → cond a NoLane (cond b Thread (cond c Host (cond e Pool NoLane))) ≡ Thread → b ≡ true
sorted-thread true b c e p = cc
sorted-thread false true c e p = refl
sorted-thread false false true e p = cc
sorted-thread false false false true p = cc
sorted-thread false false false false p = cc

thread-low : (s : Scenario) (l : ℕ) → lane_sort s l ≡ Thread → l ≤ threads s
thread-low s l e = let b : nat_le l (threads s) ≡ true = sorted-thread (l == 0) (nat_le l (threads s)) (l == host_lane s) (nat_le l (lanes s)) e in grind (arith, common_steps)

pub actor-good : (s : Scenario) (n c a l : ℕ) (sort : LaneSort) (os : List Opener) → lane_sort s l ≡ sort → GoodOpeners n c a os → GoodActor s n c (actor sort l os)
actor-good s n c a l Thread [] e p = thread-low s l e
actor-good s n c a l Host [] e p = tt
actor-good s n c a l Pool [] e p = tt
actor-good s n c a l NoLane [] e p = tt
actor-good s n c a l sort (Enters k o b ∷ os) e p = (p.0.0, p.0.1)
actor-good s n c a l sort (Pumps k ∷ os) e p = tt
actor-good s n c a l sort (Waits k ∷ os) e p = tt
