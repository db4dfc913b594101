-- What an entry does to the frames and links: what passed a test passes it still, and so does what was taken, entered or returned.
use Rattle.std.proofs.lemmas.List.Elements.{All-set, All-replicate, All-nil}
use Rattle.std.specs.Prelude.{ℕ, zero, suc, ◌==◌, List, [], ◌∷◌, Option, Some, None, All, fold, replicate}
use Rattle.com_base.specs.declared.value.RefValue.{RefValue}
use Rattle.com_base.specs.declared.value.Value.{Value}
use Rattle.com_base.specs.declared.value.Value.TheVariants as value
use Rattle.com_body.specs.declared.operands.Place.{Place}
use Rattle.com_body.specs.declared.operands.Place.TheVariants as place
use Rattle.com_body.specs.declared.operands.Destination.{Destination}
use Rattle.com_body.specs.declared.operands.Destination.TheVariants as destination
use Rattle.com_body.specs.declared.actions.Action.{Action}
use Rattle.com_body.specs.declared.actions.Action.TheVariants as action
use Rattle.com_body.specs.declared.frame.Cells.{Cells}
use Rattle.com_body.specs.declared.frame.Outcome.{Outcome}
use Rattle.com_body.specs.Frames.{FrameView, entered, with_slot}
use Rattle.com_body.specs.Operands.{new_cells}
use Rattle.com_classes.specs.Lookups.{body_of}
use Rattle.com_model.specs.declared.deeds.Deed.{Deed}
use Rattle.com_model.specs.declared.deeds.Deed.TheVariants as deed
use Rattle.com_model.specs.declared.scenario.Scenario.{Scenario}
use Rattle.com_model.specs.Answers.{S_OK}
use Rattle.com_model.specs.Lists.{put}
use Rattle.com_model.specs.Tables.{script}
use Rattle.com_model.specs.Apartments.{ends_sta}
use Rattle.com_model.specs.declared.keeps.Issue.{Issue}
use Rattle.com_model.specs.Frames.{Scene, Actor, Body, Script, Nobody, issued_body, outcome, taken_in, Write, ToRegister, ToSlot, ToLink, ToBuffer, to_place, to_answer, marshalled_in, writes, value_reference, to_destination, written, with_frame, wants, acted, arrived, cut_links, acting, scene_after}
use Rattle.com_model.specs.Formed.{Formed}
use Rattle.com_model.proofs.Fines.{cond-is}
use Rattle.com_laws_values.specs.Held.{HeldBy, ValueBy, ResultBy, FrameBy}
use Rattle.com_laws_values.proofs.Walks.{LinksBy, ActionBy, OutcomeBy, Clean, more-frame, more-links, register-by, step-by, entered-by}
use Rattle.com_laws_values.proofs.Cleans.{script-clean, body-clean}

pub record SceneBy (R : RefValue → Type 0) (w : Scene) : Type 0 where
  pub scripts : (l : ℕ) → FrameBy R (w.scripts l)
  pub bodies : (c : ℕ) → FrameBy R (w.bodies c)
  pub links : (o : ℕ) → LinksBy R (w.cells o)

pub more-scene : (P Q : RefValue → Type 0) → ((r : RefValue) → P r → Q r) → (w : Scene) → SceneBy P w → SceneBy Q w
more-scene P Q f w g = record {
  scripts = λ l. more-frame P Q f (w.scripts l) (g.scripts l);
  bodies = λ c. more-frame P Q f (w.bodies c) (g.bodies c);
  links = λ o. more-links P Q f (w.cells o) (g.links o);
}

abbrev WriteBy : (R : RefValue → Type 0) → Write → Type 0
WriteBy R (ToRegister r v) = ValueBy R v
WriteBy R (ToSlot k held) = HeldBy R held
WriteBy R (ToLink k held) = HeldBy R held
WriteBy R (ToBuffer b bytes) = Unit {0}

abbrev WritesBy : (R : RefValue → Type 0) → List Write → Type 0
WritesBy R [] = Unit {0}
WritesBy R (x ∷ xs) = WriteBy R x × WritesBy R xs

put-all : {X : Type 0} (P : X → Type 0) (k : ℕ) (x : X) (f : ℕ → X) → P x → ((j : ℕ) → P (f j)) → (j : ℕ) → P (put k x f j)
put-all P k x f p q j = cond-is P (j == k) x (f j) p (q j)

slot-set : (R : RefValue → Type 0) (f : FrameView) (k : ℕ) (held : Option RefValue) → FrameBy R f → HeldBy R held → FrameBy R (with_slot f k held)
slot-set R f k held g p = record { registers = g.registers; slots = All-set (HeldBy R) f.slots k held p g.slots }

-- ---- writes

written-by : (R : RefValue → Type 0) (a : Actor) (w : Scene) (x : Write) → WriteBy R x → SceneBy R w → SceneBy R (written a w x)
written-by R (Body k o) w (ToRegister r v) p g = record { scripts = g.scripts; bodies = put-all (FrameBy R) k _ w.bodies (register-by R (w.bodies k) r v (g.bodies k) p) g.bodies; links = g.links }
written-by R (Body k o) w (ToSlot i held) p g = record { scripts = g.scripts; bodies = put-all (FrameBy R) k _ w.bodies (slot-set R (w.bodies k) i held (g.bodies k) p) g.bodies; links = g.links }
written-by R (Body k o) w (ToLink i held) p g = record { scripts = g.scripts; bodies = g.bodies; links = put-all (LinksBy R) o _ w.cells (All-set (HeldBy R) (w.cells o).links i held p (g.links o)) g.links }
written-by R (Body k o) w (ToBuffer b bytes) p g = record { scripts = g.scripts; bodies = g.bodies; links = g.links }
written-by R (Script l) w (ToRegister r v) p g = record { scripts = put-all (FrameBy R) l _ w.scripts (register-by R (w.scripts l) r v (g.scripts l) p) g.scripts; bodies = g.bodies; links = g.links }
written-by R (Script l) w (ToSlot i held) p g = record { scripts = put-all (FrameBy R) l _ w.scripts (slot-set R (w.scripts l) i held (g.scripts l) p) g.scripts; bodies = g.bodies; links = g.links }
written-by R (Script l) w (ToLink i held) p g = g
written-by R (Script l) w (ToBuffer b bytes) p g = record { scripts = g.scripts; bodies = g.bodies; links = g.links }
written-by R Nobody w x p g = g

all-written : (R : RefValue → Type 0) (a : Actor) (w : Scene) (xs : List Write) → WritesBy R xs → SceneBy R w → SceneBy R (fold (written a) w xs)
all-written R a w [] q g = g
all-written R a w (x ∷ xs) q g = all-written R a (written a w x) xs q.1 (written-by R a w x q.0 g)

marshalled-writes : (R : RefValue → Type 0) (b : ℕ) (d : Deed) → WritesBy R (marshalled_in b d)
marshalled-writes R b (deed.Marshal p x held refs hr (Some bytes)) = (tt, tt)
marshalled-writes R b (deed.Marshal p x held refs hr None) = tt
marshalled-writes R b _ = tt

place-writes : (R : RefValue → Type 0) (x : Place) (held : Option RefValue) → HeldBy R held → WriteBy R (to_place x held)
place-writes R (place.Slot k) held p = p
place-writes R (place.Link k) held p = p

action-writes : (R : RefValue → Type 0) (a : Action) (d : Deed) → ActionBy R a → HeldBy R (taken_in d) → WritesBy R (writes a d)
action-writes R (action.Create slot k i) d p t = (tt, (t, tt))
action-writes R (action.Query to held i) d p t = (tt, (t, tt))
action-writes R (action.Copy to held) d p t = (tt, (place-writes R to held p, tt))
action-writes R (action.Release from held) d p t = (tt, (place-writes R from None tt, tt))
action-writes R (action.Call held i x args to) d p t = tt
action-writes R (action.Marshal b held x) d p t = (tt, marshalled-writes R b d)
action-writes R (action.Unmarshal slot b) d p t = (tt, (t, tt))
action-writes R (action.Drop b) d p t = (tt, tt)
action-writes R (action.Raw b bytes) d p t = (tt, (tt, tt))
action-writes R (action.Register to held) d p t = (tt, (tt, tt))
action-writes R (action.Get slot x) d p t = (tt, (t, tt))
action-writes R (action.Revoke x) d p t = (tt, tt)
action-writes R (action.Disconnect held) d p t = (tt, tt)
action-writes R (action.Post l x) d p t = (tt, tt)
action-writes R (action.Quit l) d p t = (tt, tt)
action-writes R (action.Leave hr v) d p t = tt
action-writes R (action.Init x) d p t = (tt, tt)
action-writes R action.Uninit d p t = (tt, tt)
action-writes R (action.SetFilter f) d p t = (tt, tt)
action-writes R (action.Pump k) d p t = tt

-- ---- what an entry does

framed-by : (R : RefValue → Type 0) (a : Actor) (r : Outcome) (w : Scene) → OutcomeBy R r → SceneBy R w → SceneBy R (with_frame a r w)
framed-by R (Body k o) r w q g = record { scripts = g.scripts; bodies = put-all (FrameBy R) k r.frame w.bodies q.frame g.bodies; links = put-all (LinksBy R) o r.cells w.cells q.cells g.links }
framed-by R (Script l) r w q g = record { scripts = put-all (FrameBy R) l r.frame w.scripts q.frame g.scripts; bodies = g.bodies; links = g.links }
framed-by R Nobody r w q g = g

wants-by : (R : RefValue → Type 0) (a : Action) (d : Deed) (w : Scene) → SceneBy R w → SceneBy R (wants a d w)
wants-by R (action.Call held i x args to) (deed.Out k o j y r b bytes) w g = record { scripts = g.scripts; bodies = g.bodies; links = g.links }
wants-by R (action.Call held i x args to) _ w g = g
wants-by R _ d w g = g

abbrev pub OutBy : (R : RefValue → Type 0) → Option Outcome → Type 0
OutBy R None = Unit {0}
OutBy R (Some r) = OutcomeBy R r

acted-by : (R : RefValue → Type 0) (a : Actor) (r : Option Outcome) (d : Deed) (w : Scene) → OutBy R r → HeldBy R (taken_in d) → SceneBy R w → SceneBy R (acted a r d w)
acted-by R a None d w q t g = g
acted-by R a (Some r) d w q t g =
    wants-by R r.action d _ (all-written R a (with_frame a r w) (writes r.action d) (action-writes R r.action d q.action t) (framed-by R a r w q g))

reference-by : (R : RefValue → Type 0) (v : Option Value) → ResultBy R v → HeldBy R (value_reference v)
reference-by R None p = tt
reference-by R (Some (value.Ref held)) p = p
reference-by R (Some (value.Int x)) p = tt
reference-by R (Some (value.Bool x)) p = tt
reference-by R (Some (value.Text x)) p = tt
reference-by R (Some (value.Bytes x)) p = tt
reference-by R (Some (value.Guid x)) p = tt

destination-writes : (R : RefValue → Type 0) (x : Destination) (v : Option Value) → ResultBy R v → WritesBy R (to_destination x v)
destination-writes R destination.Nowhere v p = tt
destination-writes R (destination.Register r) None p = tt
destination-writes R (destination.Register r) (Some v) p = (p, tt)
destination-writes R (destination.Slot k) v p = (reference-by R v p, tt)

-- What a deed brings: the values of an Enter and a Back.
abbrev pub Brings : (R : RefValue → Type 0) → Deed → Type 0
Brings R (deed.Enter k o a t vs) = All (ValueBy R) vs
Brings R (deed.Back k hr v) = ResultBy R v
Brings R _ = Unit {0}

arrived-by : (R : RefValue → Type 0) (b : Actor) (l : ℕ) (d : Deed) (w : Scene) → Brings R d → SceneBy R w → SceneBy R (arrived b l d w)
arrived-by R b l (deed.Enter k o a t vs) w q g = record { scripts = g.scripts; bodies = put-all (FrameBy R) k (entered vs) w.bodies (entered-by R vs q) g.bodies; links = g.links }
arrived-by R b l (deed.Leave k hr v bytes) w q g = record { scripts = g.scripts; bodies = put-all (FrameBy R) k (entered []) w.bodies (entered-by R [] (All-nil (ValueBy R))) g.bodies; links = g.links }
arrived-by R b l (deed.Back k hr v) w q g = all-written R b w (to_answer hr ∷ to_destination (w.destinations k) v) (tt, destination-writes R (w.destinations k) v q) g
arrived-by R b l deed.EndPump w q g = written-by R b w (to_answer S_OK) tt g
arrived-by R b l (deed.Uninit a zero) w q g = record { scripts = put-all (FrameBy R) l (record (w.scripts l) { slots = replicate 8 None }) w.scripts (record { registers = (g.scripts l).registers; slots = All-replicate (HeldBy R) 8 None tt }) g.scripts; bodies = g.bodies; links = g.links }
arrived-by R b l (deed.Uninit a (suc k)) w q g = g
arrived-by R b l (deed.Final o) w q g = record { scripts = g.scripts; bodies = g.bodies; links = put-all (LinksBy R) o (record (w.cells o) { links = replicate 4 None }) w.cells (All-replicate (HeldBy R) 4 None tt) g.links }
arrived-by R b l _ w q g = g

cut-by : (R : RefValue → Type 0) (named : ℕ → ℕ) (x : Option ℕ) (w : Scene) → SceneBy R w → SceneBy R (cut_links named x w)
cut-by R named None w g = g
cut-by R named (Some a) w g = record { scripts = g.scripts; bodies = g.bodies; links = λ o. cond-is (LinksBy R) (named o == a) (record (w.cells o) { links = replicate 4 None }) (w.cells o) (All-replicate (HeldBy R) 4 None tt) (g.links o) }

-- ---- who acts, and its step

new-links : (R : RefValue → Type 0) → LinksBy R new_cells
new-links R = All-replicate (HeldBy R) 4 None tt

issued-by : (s : Scenario) → Formed s → (R : RefValue → Type 0) (k : ℕ) (i : Option Issue) (f : FrameView) (c : Cells) → FrameBy R f → LinksBy R c → OutcomeBy R (issued_body s k i f c)
issued-by s x R k None f c p q = step-by R [] f c (All-nil Clean) p q
issued-by s x R k (Some i) f c p q = step-by R (body_of s.classes k i.iface i.method) f c (body-clean s x k i.iface i.method) p q

pub outcome-by : (s : Scenario) → Formed s → (R : RefValue → Type 0) (k : ℕ → ℕ) (i : ℕ → Option Issue) (w : Scene) (a : Actor) → SceneBy R w → OutBy R (outcome s k i w a)
outcome-by s x R k i w (Body b o) g = issued-by s x R (k o) (i b) (w.bodies b) (w.cells o) (g.bodies b) (g.links o)
outcome-by s x R k i w (Script l) g = step-by R (script s l) (w.scripts l) new_cells (script-clean s x l) (g.scripts l) (new-links R)
outcome-by s x R k i w Nobody g = tt

pub scene-by : (s : Scenario) → Formed s → (R : RefValue → Type 0) (k m : ℕ → ℕ) (i : ℕ → Option Issue) (a b : Actor) (l : ℕ) (d : Deed) (w : Scene) → HeldBy R (taken_in d) → Brings R d → SceneBy R w → SceneBy R (scene_after s k m i a b l d w)
scene-by s x R k m i a b l d w t y g =
    let u : Actor = acting s k i w a d in
    cut-by R m (ends_sta d) _ (arrived-by R b l d _ y (acted-by R u (outcome s k i w u) d w (outcome-by s x R k i w u g) t g))

pub first-scene : (R : RefValue → Type 0) → FrameBy R (entered []) × LinksBy R new_cells
first-scene R = (entered-by R [] (All-nil (ValueBy R)), new-links R)
