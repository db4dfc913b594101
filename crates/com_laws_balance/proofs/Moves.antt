-- What an entry does to the references in scripts, bodies and links: each is there still, or was taken, entered or returned.
use Rattle.std.proofs.Common.{subst, sym, ◌∙◌, eqb-true}
use Rattle.std.proofs.lemmas.List.Elements.{All-set, All-replicate, All-nil}
use Rattle.std.specs.Prelude.{◌≡◌, refl, ℕ, zero, suc, true, false, cond, ◌==◌, List, [], ◌∷◌, Option, Some, None, All, fold}
use Rattle.com_base.specs.declared.value.RefValue.{RefValue}
use Rattle.com_base.specs.declared.value.Value.{Value}
use Rattle.com_body.specs.declared.operands.Place.{Place}
use Rattle.com_body.specs.declared.operands.Place.TheVariants as place
use Rattle.com_body.specs.declared.operands.Destination.{Destination}
use Rattle.com_body.specs.declared.operands.Destination.TheVariants as destination
use Rattle.com_body.specs.declared.actions.Action.{Action}
use Rattle.com_body.specs.declared.actions.Action.TheVariants as action
use Rattle.com_body.specs.declared.frame.Cells.{Cells}
use Rattle.com_body.specs.declared.frame.Outcome.{Outcome}
use Rattle.com_body.specs.Frames.{FrameView, entered, with_register, with_slot}
use Rattle.com_body.specs.Operands.{new_cells}
use Rattle.com_classes.specs.Lookups.{body_of}
use Rattle.com_model.specs.declared.deeds.Deed.{Deed}
use Rattle.com_model.specs.declared.deeds.Deed.TheVariants as deed
use Rattle.com_model.specs.declared.scenario.Scenario.{Scenario}
use Rattle.com_model.specs.Answers.{S_OK}
use Rattle.com_model.specs.Lists.{put}
use Rattle.com_model.specs.Tables.{script}
use Rattle.com_model.specs.Apartments.{ends_sta}
use Rattle.com_model.specs.declared.keeps.Issue.{Issue}
use Rattle.com_model.specs.Frames.{Scene, Actor, Body, Script, Nobody, issued_body, outcome, is_leave, unless_over, unless_final, taken_in, Write, ToRegister, ToSlot, ToLink, ToBuffer, to_place, to_answer, marshalled_in, writes, value_reference, to_destination, written, with_frame, wants, acted, arrived, cut_links, acting}
use Rattle.com_model.proofs.Goods.{IsPlain}
use Rattle.com_model.proofs.Fines.{cond-is}
use Rattle.com_laws_balance.proofs.Carries.{HeldBy, ValueBy, PlaceBy, Orderly, ActionBy, FrameBy, OutcomeBy, step-by, entered-by}

-- Tests of the references in a script by its lane, in a body by its call, and in the links of an object.

pub record SceneBy (S B K : ℕ → RefValue → Type 0) (w : Scene) : Type 0 where
  pub scripts : (l : ℕ) → FrameBy (S l) (w.scripts l)
  pub bodies : (c : ℕ) → FrameBy (B c) (w.bodies c)
  pub links : (o : ℕ) → All (HeldBy (K o)) (w.cells o).links

abbrev pub TestOf : (S B : ℕ → RefValue → Type 0) → Actor → RefValue → Type 0
TestOf S B (Body c o) = B c
TestOf S B (Script l) = S l
TestOf S B Nobody = λ r. Unit {0}

abbrev WriteBy : (S B K : ℕ → RefValue → Type 0) → Actor → Write → Type 0
WriteBy S B K a (ToRegister n v) = IsPlain v
WriteBy S B K a (ToSlot k held) = HeldBy (TestOf S B a) held
WriteBy S B K (Body c o) (ToLink k held) = HeldBy (K o) held
WriteBy S B K (Script l) (ToLink k held) = Unit {0}
WriteBy S B K Nobody (ToLink k held) = Unit {0}
WriteBy S B K a (ToBuffer b bytes) = Unit {0}

abbrev WritesBy : (S B K : ℕ → RefValue → Type 0) → Actor → List Write → Type 0
WritesBy S B K a [] = Unit {0}
WritesBy S B K a (x ∷ xs) = WriteBy S B K a x × WritesBy S B K a xs

-- ---- a table that is changed at one number

pub put-each : {X : Type 0} (Q : ℕ → X → Type 0) (k : ℕ) (x : X) (f : ℕ → X) → Q k x → ((j : ℕ) → Q j (f j)) → (j : ℕ) → Q j (put k x f j)
put-each Q k x f p q j =
    elim (j == k) as (λ t. (j == k) ≡ t → Q j (cond t x (f j))) [
      | true ↦ λ e. subst (λ (i : ℕ). Q i x) (sym (eqb-true j k e)) p
      | false ↦ λ e. q j
    ] refl

register-by : (P : RefValue → Type 0) (f : FrameView) (r : ℕ) (v : Value) → IsPlain v → FrameBy P f → FrameBy P (with_register f r v)
register-by P f r v p g = record { registers = All-set IsPlain f.registers r v p g.registers; slots = g.slots }

slot-set : (P : RefValue → Type 0) (f : FrameView) (k : ℕ) (held : Option RefValue) → HeldBy P held → FrameBy P f → FrameBy P (with_slot f k held)
slot-set P f k held p g = record { registers = g.registers; slots = All-set (HeldBy P) f.slots k held p g.slots }

-- ---- writes

written-by : (S B K : ℕ → RefValue → Type 0) (a : Actor) (w : Scene) (x : Write) → WriteBy S B K a x → SceneBy S B K w → SceneBy S B K (written a w x)
written-by S B K (Body c o) w (ToRegister r v) p g = record { scripts = g.scripts; bodies = put-each (λ j f. FrameBy (B j) f) c _ w.bodies (register-by (B c) (w.bodies c) r v p (g.bodies c)) g.bodies; links = g.links }
written-by S B K (Body c o) w (ToSlot k held) p g = record { scripts = g.scripts; bodies = put-each (λ j f. FrameBy (B j) f) c _ w.bodies (slot-set (B c) (w.bodies c) k held p (g.bodies c)) g.bodies; links = g.links }
written-by S B K (Body c o) w (ToLink k held) p g = record { scripts = g.scripts; bodies = g.bodies; links = put-each (λ j (x : Cells). All (HeldBy (K j)) x.links) o _ w.cells (All-set (HeldBy (K o)) (w.cells o).links k held p (g.links o)) g.links }
written-by S B K (Body c o) w (ToBuffer b bytes) p g = record { scripts = g.scripts; bodies = g.bodies; links = g.links }
written-by S B K (Script l) w (ToRegister r v) p g = record { scripts = put-each (λ j f. FrameBy (S j) f) l _ w.scripts (register-by (S l) (w.scripts l) r v p (g.scripts l)) g.scripts; bodies = g.bodies; links = g.links }
written-by S B K (Script l) w (ToSlot k held) p g = record { scripts = put-each (λ j f. FrameBy (S j) f) l _ w.scripts (slot-set (S l) (w.scripts l) k held p (g.scripts l)) g.scripts; bodies = g.bodies; links = g.links }
written-by S B K (Script l) w (ToLink k held) p g = g
written-by S B K (Script l) w (ToBuffer b bytes) p g = record { scripts = g.scripts; bodies = g.bodies; links = g.links }
written-by S B K Nobody w x p g = g

all-written : (S B K : ℕ → RefValue → Type 0) (a : Actor) (w : Scene) (xs : List Write) → WritesBy S B K a xs → SceneBy S B K w → SceneBy S B K (fold (written a) w xs)
all-written S B K a w [] q g = g
all-written S B K a w (x ∷ xs) q g = all-written S B K a (written a w x) xs q.1 (written-by S B K a w x q.0 g)

pub written-to : (a : Actor) (w : Scene) (x : Write) → (written a w x).destinations ≡ w.destinations
written-to (Body c o) w (ToRegister r v) = refl
written-to (Body c o) w (ToSlot k held) = refl
written-to (Body c o) w (ToLink k held) = refl
written-to (Body c o) w (ToBuffer b bytes) = refl
written-to (Script l) w (ToRegister r v) = refl
written-to (Script l) w (ToSlot k held) = refl
written-to (Script l) w (ToLink k held) = refl
written-to (Script l) w (ToBuffer b bytes) = refl
written-to Nobody w x = refl

pub all-written-to : (a : Actor) (w : Scene) (xs : List Write) → (fold (written a) w xs).destinations ≡ w.destinations
all-written-to a w [] = refl
all-written-to a w (x ∷ xs) = all-written-to a (written a w x) xs ∙ written-to a w x

marshalled-writes : (S B K : ℕ → RefValue → Type 0) (a : Actor) (b : ℕ) (d : Deed) → WritesBy S B K a (marshalled_in b d)
marshalled-writes S B K a b (deed.Marshal p x held refs hr (Some bytes)) = (tt, tt)
marshalled-writes S B K a b (deed.Marshal p x held refs hr None) = tt
marshalled-writes S B K a b _ = tt

-- Whoever acts may read the links of the body's object, and may write them where L holds.
abbrev pub Shares : (S B K : ℕ → RefValue → Type 0) → Type 0 → Type 0 → Actor → Type 0
Shares S B K I L (Body c o) = ((r : RefValue) → K o r → B c r) × (L → (r : RefValue) → B c r → K o r)
Shares S B K I L _ = Unit {0}

pub held-more : (P Q : RefValue → Type 0) (held : Option RefValue) → ((r : RefValue) → P r → Q r) → HeldBy P held → HeldBy Q held
held-more P Q None f p = tt
held-more P Q (Some r) f p = f r p

copied-writes : (S B K : ℕ → RefValue → Type 0) (I L : Type 0) (a : Actor) (x : Place) (held : Option RefValue) → Shares S B K I L a → HeldBy (TestOf S B a) held → PlaceBy L x → WriteBy S B K a (to_place x held)
copied-writes S B K I L a (place.Slot k) held h p q = p
copied-writes S B K I L (Body c o) (place.Link k) held h p q = held-more (B c) (K o) held (h.1 q) p
copied-writes S B K I L (Script l) (place.Link k) held h p q = tt
copied-writes S B K I L Nobody (place.Link k) held h p q = tt

released-writes : (S B K : ℕ → RefValue → Type 0) (a : Actor) (x : Place) → WriteBy S B K a (to_place x None)
released-writes S B K a (place.Slot k) = tt
released-writes S B K (Body c o) (place.Link k) = tt
released-writes S B K (Script l) (place.Link k) = tt
released-writes S B K Nobody (place.Link k) = tt

action-writes : (s : Scenario) (S B K : ℕ → RefValue → Type 0) (I L : Type 0) (a : Actor) (x : Action) (d : Deed) → Shares S B K I L a → ActionBy s I L (TestOf S B a) x → HeldBy (TestOf S B a) (taken_in d) → WritesBy S B K a (writes x d)
action-writes s S B K I L a (action.Create slot k i) d h p t = (tt, (t, tt))
action-writes s S B K I L a (action.Query to held i) d h p t = (tt, (t, tt))
action-writes s S B K I L a (action.Copy to held) d h p t = (tt, (copied-writes S B K I L a to held h p.0 p.1, tt))
action-writes s S B K I L a (action.Release from held) d h p t = (tt, (released-writes S B K a from, tt))
action-writes s S B K I L a (action.Call held i x args to) d h p t = tt
action-writes s S B K I L a (action.Marshal b held x) d h p t = (tt, marshalled-writes S B K a b d)
action-writes s S B K I L a (action.Unmarshal slot b) d h p t = (tt, (t, tt))
action-writes s S B K I L a (action.Drop b) d h p t = (tt, tt)
action-writes s S B K I L a (action.Raw b bytes) d h p t = (tt, (tt, tt))
action-writes s S B K I L a (action.Register to held) d h p t = (tt, (tt, tt))
action-writes s S B K I L a (action.Get slot x) d h p t = (tt, (t, tt))
action-writes s S B K I L a (action.Revoke x) d h p t = (tt, tt)
action-writes s S B K I L a (action.Disconnect held) d h p t = (tt, tt)
action-writes s S B K I L a (action.Post l x) d h p t = (tt, tt)
action-writes s S B K I L a (action.Quit l) d h p t = (tt, tt)
action-writes s S B K I L a (action.Leave hr v) d h p t = tt
action-writes s S B K I L a (action.Init x) d h p t = (tt, tt)
action-writes s S B K I L a action.Uninit d h p t = (tt, tt)
action-writes s S B K I L a (action.SetFilter f) d h p t = (tt, tt)
action-writes s S B K I L a (action.Pump k) d h p t = tt

-- ---- the step of whoever acts

-- What a step leaves: the slots and links, no reference in a register, and an action with references that pass.
abbrev pub OutBy : Scenario → (S B : ℕ → RefValue → Type 0) → Type 0 → Type 0 → Actor → Scene → Option Outcome → Type 0
OutBy s S B I L a w None = Unit {0}
OutBy s S B I L (Body c o) w (Some r) = OutcomeBy s I L (B c) (w.bodies c) (w.cells o) r
OutBy s S B I L (Script l) w (Some r) = OutcomeBy s I L (S l) (w.scripts l) new_cells r
OutBy s S B I L Nobody w (Some r) = ⊥

same-frame : (P : RefValue → Type 0) (f g : FrameView) → All IsPlain g.registers → g.slots ≡ f.slots → FrameBy P f → FrameBy P g
same-frame P f g r e p = record { registers = r; slots = subst (λ (xs : List (Option RefValue)). All (HeldBy P) xs) (sym e) p.slots }

framed-by : (s : Scenario) (S B K : ℕ → RefValue → Type 0) (I L : Type 0) (a : Actor) (r : Outcome) (w : Scene) → OutBy s S B I L a w (Some r) → SceneBy S B K w → SceneBy S B K (with_frame a r w)
framed-by s S B K I L (Body c o) r w p g = record {
  scripts = g.scripts;
  bodies = put-each (λ j f. FrameBy (B j) f) c r.frame w.bodies (same-frame (B c) (w.bodies c) r.frame p.registers p.slots (g.bodies c)) g.bodies;
  links = put-each (λ j (x : Cells). All (HeldBy (K j)) x.links) o r.cells w.cells (subst (λ (xs : List (Option RefValue)). All (HeldBy (K o)) xs) (sym p.links) (g.links o)) g.links;
}
framed-by s S B K I L (Script l) r w p g = record {
  scripts = put-each (λ j f. FrameBy (S j) f) l r.frame w.scripts (same-frame (S l) (w.scripts l) r.frame p.registers p.slots (g.scripts l)) g.scripts;
  bodies = g.bodies;
  links = g.links;
}
framed-by s S B K I L Nobody r w p g = absurd p

wants-by : (S B K : ℕ → RefValue → Type 0) (a : Action) (d : Deed) (w : Scene) → SceneBy S B K w → SceneBy S B K (wants a d w)
wants-by S B K (action.Call held i x args to) (deed.Out k o j y r b bytes) w g = record { scripts = g.scripts; bodies = g.bodies; links = g.links }
wants-by S B K (action.Call held i x args to) _ w g = g
wants-by S B K _ d w g = g

pub out-action : (s : Scenario) (S B : ℕ → RefValue → Type 0) (I L : Type 0) (a : Actor) (w : Scene) (r : Outcome) → OutBy s S B I L a w (Some r) → ActionBy s I L (TestOf S B a) r.action
out-action s S B I L (Body c o) w r p = p.action
out-action s S B I L (Script l) w r p = p.action
out-action s S B I L Nobody w r p = absurd p

acted-by : (s : Scenario) (S B K : ℕ → RefValue → Type 0) (I L : Type 0) (a : Actor) (r : Option Outcome) (d : Deed) (w : Scene) → Shares S B K I L a → OutBy s S B I L a w r → HeldBy (TestOf S B a) (taken_in d) → SceneBy S B K w → SceneBy S B K (acted a r d w)
acted-by s S B K I L a None d w h q t g = g
acted-by s S B K I L a (Some r) d w h q t g =
    wants-by S B K r.action d _ (all-written S B K a (with_frame a r w) (writes r.action d) (action-writes s S B K I L a r.action d h (out-action s S B I L a w r q) t) (framed-by s S B K I L a r w q g))

pub framed-to : (a : Actor) (r : Outcome) (w : Scene) → (with_frame a r w).destinations ≡ w.destinations
framed-to (Body c o) r w = refl
framed-to (Script l) r w = refl
framed-to Nobody r w = refl

-- The statements of whoever acts.
abbrev pub OrderlyActor : Scenario → (class : ℕ → ℕ) → (issue : ℕ → Option Issue) → Type 0 → Type 0 → Actor → Type 0
OrderlyActor s k i I L (Body c o) = (j m : ℕ) → All (Orderly s I L) (body_of s.classes (k o) j m)
OrderlyActor s k i I L (Script l) = All (Orderly s I L) (script s l)
OrderlyActor s k i I L Nobody = Unit {0}

pub links-more : (P Q : RefValue → Type 0) (xs : List (Option RefValue)) → ((r : RefValue) → P r → Q r) → All (HeldBy P) xs → All (HeldBy Q) xs
links-more P Q xs f p = λ k d h. held-more P Q _ f (p k d h)

pub new-links : (P : RefValue → Type 0) → All (HeldBy P) new_cells.links
new-links P = All-replicate (HeldBy P) 4 None tt

body-out : (s : Scenario) (I L : Type 0) (P : RefValue → Type 0) (k : ℕ) (i : Option Issue) (f : FrameView) (c : Cells) → ((j m : ℕ) → All (Orderly s I L) (body_of s.classes k j m)) → FrameBy P f → All (HeldBy P) c.links → OutcomeBy s I L P f c (issued_body s k i f c)
body-out s I L P k None f c o g e = step-by s I L P [] f c (All-nil (Orderly s I L)) g e
body-out s I L P k (Some x) f c o g e = step-by s I L P (body_of s.classes k x.iface x.method) f c (o x.iface x.method) g e

pub outcome-by : (s : Scenario) (S B K : ℕ → RefValue → Type 0) (I L : Type 0) (k : ℕ → ℕ) (i : ℕ → Option Issue) (a : Actor) (w : Scene) → Shares S B K I L a → OrderlyActor s k i I L a → SceneBy S B K w → OutBy s S B I L a w (outcome s k i w a)
outcome-by s S B K I L k i (Body c o) w h p g = body-out s I L (B c) (k o) (i c) (w.bodies c) (w.cells o) p (g.bodies c) (links-more (K o) (B c) (w.cells o).links h.0 (g.links o))
outcome-by s S B K I L k i (Script l) w h p g = step-by s I L (S l) (script s l) (w.scripts l) new_cells p (g.scripts l) (new-links (S l))
outcome-by s S B K I L k i Nobody w h p g = tt

-- ---- what arrives

abbrev pub PlainAt : Destination → Option Value → Type 0
PlainAt (destination.Register r) (Some v) = IsPlain v
PlainAt (destination.Register r) None = Unit {0}
PlainAt (destination.Slot k) v = Unit {0}
PlainAt destination.Nowhere v = Unit {0}

abbrev pub ArrivesBy : (S B : ℕ → RefValue → Type 0) → (ℕ → Destination) → Actor → Deed → Type 0
ArrivesBy S B x b (deed.Enter c o a t vs) = All (ValueBy (B c)) vs
ArrivesBy S B x b (deed.Back c hr v) = HeldBy (TestOf S B b) (value_reference v) × PlainAt (x c) v
ArrivesBy S B x b _ = Unit {0}

destination-writes : (S B K : ℕ → RefValue → Type 0) (a : Actor) (x : Destination) (v : Option Value) → HeldBy (TestOf S B a) (value_reference v) → PlainAt x v → WritesBy S B K a (to_destination x v)
destination-writes S B K a destination.Nowhere v p q = tt
destination-writes S B K a (destination.Register r) None p q = tt
destination-writes S B K a (destination.Register r) (Some v) p q = (q, tt)
destination-writes S B K a (destination.Slot k) v p q = (p, tt)

arrived-by : (S B K : ℕ → RefValue → Type 0) (b : Actor) (l : ℕ) (d : Deed) (w : Scene) → ArrivesBy S B w.destinations b d → SceneBy S B K w → SceneBy S B K (arrived b l d w)
arrived-by S B K b l (deed.Enter c o a t vs) w q g = record { scripts = g.scripts; bodies = put-each (λ j f. FrameBy (B j) f) c (entered vs) w.bodies (entered-by (B c) vs q) g.bodies; links = g.links }
arrived-by S B K b l (deed.Leave c hr v bytes) w q g = record { scripts = g.scripts; bodies = put-each (λ j f. FrameBy (B j) f) c (entered []) w.bodies (entered-by (B c) [] (All-nil (ValueBy (B c)))) g.bodies; links = g.links }
arrived-by S B K b l (deed.Back c hr v) w q g = all-written S B K b w (to_answer hr ∷ to_destination (w.destinations c) v) (tt, destination-writes S B K b (w.destinations c) v q.0 q.1) g
arrived-by S B K b l deed.EndPump w q g = written-by S B K b w (to_answer S_OK) tt g
arrived-by S B K b l (deed.Uninit a zero) w q g = record { scripts = put-each (λ j f. FrameBy (S j) f) l _ w.scripts (record { registers = (g.scripts l).registers; slots = All-replicate (HeldBy (S l)) 8 None tt }) g.scripts; bodies = g.bodies; links = g.links }
arrived-by S B K b l (deed.Uninit a (suc n)) w q g = g
arrived-by S B K b l (deed.Final o) w q g = record { scripts = g.scripts; bodies = g.bodies; links = put-each (λ j (x : Cells). All (HeldBy (K j)) x.links) o _ w.cells (All-replicate (HeldBy (K o)) 4 None tt) g.links }
arrived-by S B K b l _ w q g = g

cut-by : (S B K : ℕ → RefValue → Type 0) (n : ℕ → ℕ) (x : Option ℕ) (w : Scene) → SceneBy S B K w → SceneBy S B K (cut_links n x w)
cut-by S B K n None w g = g
cut-by S B K n (Some a) w g = record { scripts = g.scripts; bodies = g.bodies; links = λ o. cond-is (λ (x : Cells). All (HeldBy (K o)) x.links) (n o == a) _ (w.cells o) (All-replicate (HeldBy (K o)) 4 None tt) (g.links o) }

-- ---- an entry

over-is : (P : Actor → Type 0) (a : Actor) (r : Option Outcome) → P a → P Nobody → P (unless_over a r)
over-is P (Script l) (Some r) p q = cond-is P (is_leave r.action) Nobody (Script l) q p
over-is P (Script l) None p q = p
over-is P (Body c o) r p q = p
over-is P Nobody r p q = q

final-is : (P : Actor → Type 0) (d : Deed) (a : Actor) → P a → P Nobody → P (unless_final d a)
final-is P (deed.Final o) a p q = q
final-is P _ a p q = p

pub acting-is : (P : Actor → Type 0) (s : Scenario) (k : ℕ → ℕ) (i : ℕ → Option Issue) (w : Scene) (a : Actor) (d : Deed) → P a → P Nobody → P (acting s k i w a d)
acting-is P s k i w a d p q = final-is P d (unless_over a (outcome s k i w a)) (over-is P a (outcome s k i w a) p q) q

pub scene-by : (s : Scenario) (S B K : ℕ → RefValue → Type 0) (I L : Type 0) (k n : ℕ → ℕ) (i : ℕ → Option Issue) (u b : Actor) (l : ℕ) (d : Deed) (w : Scene) → Shares S B K I L u → OrderlyActor s k i I L u → HeldBy (TestOf S B u) (taken_in d) → ArrivesBy S B (acted u (outcome s k i w u) d w).destinations b d → SceneBy S B K w → SceneBy S B K (cut_links n (ends_sta d) (arrived b l d (acted u (outcome s k i w u) d w)))
scene-by s S B K I L k n i u b l d w h o t q g =
    cut-by S B K n (ends_sta d) _ (arrived-by S B K b l d _ q (acted-by s S B K I L u (outcome s k i w u) d w h (outcome-by s S B K I L k i u w h o g) t g))
