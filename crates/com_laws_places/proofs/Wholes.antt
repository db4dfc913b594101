-- In every legal history each frame has its eight slots and each object its four links, and each result goes to a slot that there is.
use Rattle.std.proofs.Common.{subst, sym, arith}
use Rattle.std.proofs.lemmas.List.{length-append, length-replicate, length-set}
use Rattle.std.specs.Prelude.{◌≡◌, ℕ, zero, suc, ◌+◌, ◌-◌, ◌≤◌, ◌<◌, ◌==◌, List, [], ◌∷◌, ◌++◌, length, replicate, Option, Some, None, fold, slice_set}
use Rattle.com_base.specs.declared.value.RefValue.{RefValue}
use Rattle.com_base.specs.declared.value.Value.{Value}
use Rattle.com_body.specs.declared.operands.Place.{Place}
use Rattle.com_body.specs.declared.operands.Place.TheVariants as place
use Rattle.com_body.specs.declared.operands.Destination.{Destination}
use Rattle.com_body.specs.declared.operands.Destination.TheVariants as destination
use Rattle.com_body.specs.declared.actions.Action.{Action}
use Rattle.com_body.specs.declared.actions.Action.TheVariants as action
use Rattle.com_body.specs.declared.frame.Cells.{Cells}
use Rattle.com_body.specs.declared.frame.Outcome.{Outcome}
use Rattle.com_body.specs.Bodies.{IsPlace}
use Rattle.com_body.specs.Frames.{FrameView, references, entered, with_slot}
use Rattle.com_model.specs.declared.deeds.Deed.{Deed}
use Rattle.com_model.specs.declared.deeds.Deed.TheVariants as deed
use Rattle.com_model.specs.declared.deeds.Entry.{Entry}
use Rattle.com_model.specs.declared.scenario.Scenario.{Scenario}
use Rattle.com_model.specs.Answers.{S_OK}
use Rattle.com_model.specs.Lists.{put}
use Rattle.com_model.specs.Apartments.{ends_sta}
use Rattle.com_model.specs.Objects.{class_of, named}
use Rattle.com_model.specs.Calls.{issue}
use Rattle.com_model.specs.Frames.{Scene, scene, first_scene, Actor, Body, Script, Nobody, actor_in, Write, ToRegister, ToSlot, ToLink, ToBuffer, to_place, to_answer, marshalled_in, writes, to_destination, with_link, written, with_frame, wants, acted, arrived, cut_links, acting, outcome}
use Rattle.com_model.specs.Rules.{legal}
use Rattle.com_model.specs.Formed.{Formed}
use Rattle.com_model.proofs.Fines.{cond-is}
use Rattle.com_laws_balance.proofs.Moves.{OutBy}
use Rattle.com_laws_balance.proofs.Bases.{S0, B0, I_of, L_of}
use Rattle.com_laws_balance.proofs.Directs.{out-base}
use Rattle.com_laws_places.proofs.Ranges.{FitsTarget, FitsAction, FitsOut, outcome-fits}

abbrev WholeFrame : FrameView → Type 0
WholeFrame f = 8 ≤ length f.slots

abbrev WholeCells : Cells → Type 0
WholeCells c = 4 ≤ length c.links

pub record Whole (w : Scene) : Type 0 where
  pub scripts : (l : ℕ) → 8 ≤ length (w.scripts l).slots
  pub bodies : (c : ℕ) → 8 ≤ length (w.bodies c).slots
  pub cells : (o : ℕ) → 4 ≤ length (w.cells o).links
  pub targets : (c : ℕ) → FitsTarget (w.destinations c)

abbrev pub FitsWrite : Write → Type 0
FitsWrite (ToSlot k held) = k < 8
FitsWrite (ToLink k held) = k < 4
FitsWrite _ = Unit {0}

abbrev pub FitsWrites : List Write → Type 0
FitsWrites [] = Unit {0}
FitsWrites (x ∷ xs) = FitsWrite x × FitsWrites xs

-- ---- what is written fits

place-fits : (x : Place) (held : Option RefValue) → IsPlace x → FitsWrite (to_place x held)
place-fits (place.Slot k) held p = p
place-fits (place.Link k) held p = p

marshalled-fits : (b : ℕ) (d : Deed) → FitsWrites (marshalled_in b d)
marshalled-fits b (deed.Marshal p m held refs hr (Some bytes)) = (tt, tt)
marshalled-fits b (deed.Marshal p m held refs hr None) = tt
marshalled-fits b _ = tt

pub writes-fit : (x : Action) (d : Deed) → FitsAction x → FitsWrites (writes x d)
writes-fit (action.Create slot k i) d p = (tt, (p, tt))
writes-fit (action.Query to held i) d p = (tt, (p, tt))
writes-fit (action.Copy to held) d p = (tt, (place-fits to held p, tt))
writes-fit (action.Release from held) d p = (tt, (place-fits from None p, tt))
writes-fit (action.Call held i m args to) d p = tt
writes-fit (action.Marshal b held m) d p = (tt, marshalled-fits b d)
writes-fit (action.Unmarshal slot b) d p = (tt, (p, tt))
writes-fit (action.Drop b) d p = (tt, tt)
writes-fit (action.Raw b bytes) d p = (tt, (tt, tt))
writes-fit (action.Register to held) d p = (tt, (tt, tt))
writes-fit (action.Get slot g) d p = (tt, (p, tt))
writes-fit (action.Revoke g) d p = (tt, tt)
writes-fit (action.Disconnect held) d p = (tt, tt)
writes-fit (action.Post l w) d p = (tt, tt)
writes-fit (action.Quit l) d p = (tt, tt)
writes-fit (action.Leave hr v) d p = tt
writes-fit (action.Init m) d p = (tt, tt)
writes-fit action.Uninit d p = (tt, tt)
writes-fit (action.SetFilter f) d p = (tt, tt)
writes-fit (action.Pump k) d p = tt

pub target-writes : (to : Destination) (v : Option Value) → FitsTarget to → FitsWrites (to_destination to v)
target-writes destination.Nowhere v p = tt
target-writes (destination.Register r) None p = tt
target-writes (destination.Register r) (Some v) p = (tt, tt)
target-writes (destination.Slot k) v p = (p, tt)

-- ---- an entry keeps all whole

put-each : {X : Type 0} (P : X → Type 0) (k : ℕ) (x : X) (f : ℕ → X) → P x → ((j : ℕ) → P (f j)) → (j : ℕ) → P (put k x f j)
put-each P k x f p q j = cond-is P (j == k) x (f j) p (q j)

set-whole : (n : ℕ) (xs : List (Option RefValue)) (k : ℕ) (held : Option RefValue) → n ≤ length xs → n ≤ length (slice_set xs k held)
set-whole n xs k held p = let same : length (slice_set xs k held) ≡ length xs = length-set xs k held in omega (arith, same, p)

pub written-whole : (a : Actor) (w : Scene) (x : Write) → Whole w → Whole (written a w x)
written-whole (Body c o) w (ToRegister r v) p = record { scripts = p.scripts; bodies = put-each WholeFrame c _ w.bodies (p.bodies c) p.bodies; cells = p.cells; targets = p.targets }
written-whole (Body c o) w (ToSlot k held) p = record { scripts = p.scripts; bodies = put-each WholeFrame c (with_slot (w.bodies c) k held) w.bodies (set-whole 8 (w.bodies c).slots k held (p.bodies c)) p.bodies; cells = p.cells; targets = p.targets }
written-whole (Body c o) w (ToLink k held) p = record { scripts = p.scripts; bodies = p.bodies; cells = put-each WholeCells o (with_link (w.cells o) k held) w.cells (set-whole 4 (w.cells o).links k held (p.cells o)) p.cells; targets = p.targets }
written-whole (Body c o) w (ToBuffer b bytes) p = record { scripts = p.scripts; bodies = p.bodies; cells = p.cells; targets = p.targets }
written-whole (Script l) w (ToRegister r v) p = record { scripts = put-each WholeFrame l _ w.scripts (p.scripts l) p.scripts; bodies = p.bodies; cells = p.cells; targets = p.targets }
written-whole (Script l) w (ToSlot k held) p = record { scripts = put-each WholeFrame l (with_slot (w.scripts l) k held) w.scripts (set-whole 8 (w.scripts l).slots k held (p.scripts l)) p.scripts; bodies = p.bodies; cells = p.cells; targets = p.targets }
written-whole (Script l) w (ToLink k held) p = p
written-whole (Script l) w (ToBuffer b bytes) p = record { scripts = p.scripts; bodies = p.bodies; cells = p.cells; targets = p.targets }
written-whole Nobody w x p = p

all-written-whole : (a : Actor) (w : Scene) (xs : List Write) → Whole w → Whole (fold (written a) w xs)
all-written-whole a w [] p = p
all-written-whole a w (x ∷ xs) p = all-written-whole a (written a w x) xs (written-whole a w x p)

same-size : (n : ℕ) (xs ys : List (Option RefValue)) → ys ≡ xs → n ≤ length xs → n ≤ length ys
same-size n xs ys e p = subst (λ (zs : List (Option RefValue)). n ≤ length zs) (sym e) p

pub framed-whole : (s : Scenario) (S B : ℕ → RefValue → Type 0) (I L : Type 0) (a : Actor) (r : Outcome) (w : Scene) → OutBy s S B I L a w (Some r) → Whole w → Whole (with_frame a r w)
framed-whole s S B I L (Body c o) r w q p = record {
  scripts = p.scripts;
  bodies = put-each WholeFrame c r.frame w.bodies (same-size 8 (w.bodies c).slots r.frame.slots q.slots (p.bodies c)) p.bodies;
  cells = put-each WholeCells o r.cells w.cells (same-size 4 (w.cells o).links r.cells.links q.links (p.cells o)) p.cells;
  targets = p.targets;
}
framed-whole s S B I L (Script l) r w q p = record { scripts = put-each WholeFrame l r.frame w.scripts (same-size 8 (w.scripts l).slots r.frame.slots q.slots (p.scripts l)) p.scripts; bodies = p.bodies; cells = p.cells; targets = p.targets }
framed-whole s S B I L Nobody r w q p = p

wanted-whole : (x : Action) (d : Deed) (w : Scene) → FitsAction x → Whole w → Whole (wants x d w)
wanted-whole (action.Call held i m args to) (deed.Out c o j n r k bytes) w f p = record { scripts = p.scripts; bodies = p.bodies; cells = p.cells; targets = put-each FitsTarget c to w.destinations f p.targets }
wanted-whole (action.Call held i m args to) _ w f p = p
wanted-whole _ d w f p = p

pub acted-whole : (s : Scenario) (S B : ℕ → RefValue → Type 0) (I L : Type 0) (a : Actor) (r : Option Outcome) (d : Deed) (w : Scene) → OutBy s S B I L a w r → FitsOut r → Whole w → Whole (acted a r d w)
acted-whole s S B I L a None d w q f p = p
acted-whole s S B I L a (Some r) d w q f p =
    wanted-whole r.action d (fold (written a) (with_frame a r w) (writes r.action d)) f (all-written-whole a (with_frame a r w) (writes r.action d) (framed-whole s S B I L a r w q p))

abbrev nulls : ℕ → List (Option RefValue)
nulls n = replicate n None

entered-whole : (vs : List Value) → WholeFrame (entered vs)
entered-whole vs =
    let held : List (Option RefValue) = references vs in
    let rest : List (Option RefValue) = nulls (8 - length held) in
    let both : length (held ++ rest) ≡ length held + length rest = length-append held rest in
    let more : length rest ≡ 8 - length held = length-replicate (8 - length held) None in
    omega (arith, both, more)

eight : 8 ≤ length (nulls 8)
eight = omega arith

four : 4 ≤ length (nulls 4)
four = omega arith

arrived-whole : (b : Actor) (l : ℕ) (d : Deed) (w : Scene) → Whole w → Whole (arrived b l d w)
arrived-whole b l (deed.Leave c hr v bytes) w p = record { scripts = p.scripts; bodies = put-each WholeFrame c (entered []) w.bodies (entered-whole []) p.bodies; cells = p.cells; targets = p.targets }
arrived-whole b l (deed.Enter c o a k vs) w p = record { scripts = p.scripts; bodies = put-each WholeFrame c (entered vs) w.bodies (entered-whole vs) p.bodies; cells = p.cells; targets = p.targets }
arrived-whole b l (deed.Back c hr v) w p = all-written-whole b w (to_answer hr ∷ to_destination (w.destinations c) v) p
arrived-whole b l deed.EndPump w p = written-whole b w (to_answer S_OK) p
arrived-whole b l (deed.Uninit a zero) w p = record { scripts = put-each WholeFrame l (record (w.scripts l) { slots = replicate 8 None }) w.scripts eight p.scripts; bodies = p.bodies; cells = p.cells; targets = p.targets }
arrived-whole b l (deed.Uninit a (suc n)) w p = p
arrived-whole b l (deed.Final o) w p = record { scripts = p.scripts; bodies = p.bodies; cells = put-each WholeCells o (record (w.cells o) { links = replicate 4 None }) w.cells four p.cells; targets = p.targets }
arrived-whole b l _ w p = p

cut-whole : (n : ℕ → ℕ) (x : Option ℕ) (w : Scene) → Whole w → Whole (cut_links n x w)
cut-whole n None w p = p
cut-whole n (Some a) w p = record { scripts = p.scripts; bodies = p.bodies; cells = λ o. cond-is WholeCells (n o == a) (record (w.cells o) { links = replicate 4 None }) (w.cells o) four (p.cells o); targets = p.targets }

first-whole : Whole first_scene
first-whole = record { scripts = λ l. entered-whole []; bodies = λ c. entered-whole []; cells = λ o. four; targets = λ c. tt }

pub scene-whole : (s : Scenario) (h : List Entry) → Formed s → legal s h → Whole (scene s h)
scene-whole s [] f q = first-whole
scene-whole s (e ∷ h) f q =
    let u : Actor = acting s (class_of h) (issue h) (scene s h) (actor_in s h e.lane) e.deed in
    let r : Option Outcome = outcome s (class_of h) (issue h) (scene s h) u in
    cut-whole (named h) (ends_sta e.deed) (arrived (actor_in s (e ∷ h) e.lane) e.lane e.deed (acted u r e.deed (scene s h)))
    (arrived-whole (actor_in s (e ∷ h) e.lane) e.lane e.deed (acted u r e.deed (scene s h))
    (acted-whole s (S0 s h) (B0 (e ∷ h)) (I_of u) (L_of s h u) u r e.deed (scene s h) (out-base s h e f q) (outcome-fits s f (class_of h) (issue h) (scene s h) u) (scene-whole s h f q.0)))
