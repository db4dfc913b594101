-- In every legal history of a formed scenario each frame has as many slots as frames have, and an Enter has no more values than
-- a method may have parameters.
use Rattle.std.proofs.Common.{subst, sym, ap, ◌∙◌, arith}
use Rattle.std.proofs.lemmas.List.{length-append, length-replicate, length-set}
use Rattle.std.specs.Prelude.{◌≡◌, refl, ℕ, zero, suc, ◌+◌, ◌-◌, ◌≤◌, Bool, true, false, ◌==◌, List, [], ◌∷◌, ◌++◌, length, replicate, drop, Option, Some, None, All, fold, slice_get, option_and_then}
use Rattle.com_base.specs.declared.value.Kind.{Kind}
use Rattle.com_base.specs.declared.value.RefValue.{RefValue}
use Rattle.com_base.specs.declared.value.Value.{Value}
use Rattle.com_base.specs.declared.value.Value.TheVariants as value
use Rattle.com_body.specs.declared.statements.Stmt.{Stmt}
use Rattle.com_body.specs.declared.statements.Stmt.TheVariants as stmt
use Rattle.com_body.specs.declared.actions.Action.{Action}
use Rattle.com_body.specs.declared.actions.Action.TheVariants as action
use Rattle.com_body.specs.declared.frame.Cells.{Cells}
use Rattle.com_body.specs.declared.frame.Outcome.{Outcome}
use Rattle.com_body.specs.Frames.{FrameView, references, entered, with_slot, moved}
use Rattle.com_body.specs.BodySteps.{Effect, Goes, Acts, effect_of, walk, body_step}
use Rattle.com_body.specs.Operands.{new_cells}
use Rattle.com_refs_books.specs.Changes.{Books}
use Rattle.com_classes.specs.declared.interfaces.Interface.{Interface}
use Rattle.com_classes.specs.declared.interfaces.Method.{Method}
use Rattle.com_classes.specs.Lookups.{method_at, body_of}
use Rattle.com_model.specs.declared.deeds.Deed.{Deed}
use Rattle.com_model.specs.declared.deeds.Deed.TheVariants as deed
use Rattle.com_model.specs.declared.deeds.Entry.{Entry}
use Rattle.com_model.specs.declared.keeps.Issue.{Issue}
use Rattle.com_model.specs.declared.scenario.Scenario.{Scenario}
use Rattle.com_model.specs.Answers.{S_OK}
use Rattle.com_model.specs.Lists.{put}
use Rattle.com_model.specs.Tables.{parameters, script}
use Rattle.com_model.specs.Apartments.{ends_sta}
use Rattle.com_model.specs.Objects.{class_of, named}
use Rattle.com_model.specs.declared.keeps.Admission.{Admission}
use Rattle.com_model.specs.declared.keeps.Ending.{Ending}
use Rattle.com_model.specs.Calls.{issues, issue, admitted, is_marshalled}
use Rattle.com_model.specs.Values.{sent_values}
use Rattle.com_model.specs.Books.{books, out_values}
use Rattle.com_model.specs.Endings.{ending}
use Rattle.com_model.specs.Issue.{own_values, values_or, sent, unread_values}
use Rattle.com_model.specs.Frames.{Scene, scene, act, Actor, Body, Script, Nobody, actor_in, Write, ToRegister, ToSlot, ToLink, ToBuffer, to_answer, writes, to_destination, written, with_frame, wants, acted, arrived, cut_links, issued_body, acting, outcome}
use Rattle.com_model.specs.Formed.{IsMethod, IsInterface, EachFrom, Formed}
use Rattle.com_model.specs.Sight.{sight}
use Rattle.com_model.specs.Rules.{next, legal}
use Rattle.com_model.specs.State.{State, StandsFor, scene_in, class_in, issue_in, next_of}
use Rattle.com_model.proofs.Fines.{cond-is}
use Rattle.com_model.proofs.Sights.{same-next}
use Rattle.com_laws_balance.proofs.Carries.{all-head, all-tail}
use Rattle.com_laws_balance.proofs.Says.{Says, next-says}
use Rattle.com_scene.specs.Kept.{HasSlots}
use Rattle.com_state.specs.After.{acting_in, step_in}
use Rattle.com_reference_moves.specs.Steps.{IsWhole, FramesWhole, FewValues}

-- ---- values of calls

abbrev Few : List Value → Type 0
Few vs = length vs ≤ 4

sent-length : (m : Bool) (live : ℕ → Bool) (ks : List Kind) (vs : List Value) → length (sent_values m live ks vs) ≡ length ks
sent-length m live [] vs = refl
sent-length m live (k ∷ ks) [] = let e : length (sent_values m live ks []) ≡ length ks = sent-length m live ks [] in omega (arith, e)
sent-length m live (k ∷ ks) (v ∷ vs) = let e : length (sent_values m live ks vs) ≡ length ks = sent-length m live ks vs in omega (arith, e)

method-few : (n : ℕ) (ms : List Method) (m : ℕ) → All (IsMethod n) ms → length (parameters (slice_get ms m)) ≤ 4
method-few n [] m p = omega arith
method-few n (x ∷ xs) zero p = (all-head (IsMethod n) x xs p).2
method-few n (x ∷ xs) (suc m) p = method-few n xs m (all-tail (IsMethod n) x xs p)

each-few : (n : ℕ) (xs : List Interface) (i m : ℕ) → EachFrom IsInterface n xs → length (parameters (option_and_then (λ (k : Interface). slice_get k.methods m) (slice_get xs i))) ≤ 4
each-few n [] i m p = omega arith
each-few n (x ∷ xs) zero m p = method-few n x.methods m p.0.1
each-few n (x ∷ xs) (suc i) m p = each-few (n + 1) xs i m p.1

out-few : (s : Scenario) → Formed s → (b : Books) (m : Bool) (x : Option Action) → Few (out_values s b m x)
out-few s f b m (Some (action.Call held i k args to)) =
    let e : length (sent_values m b.live (parameters (method_at s.classes i k)) args) ≡ length (parameters (method_at s.classes i k)) = sent-length m b.live (parameters (method_at s.classes i k)) args in
    let p : length (parameters (method_at s.classes i k)) ≤ 4 = each-few 0 s.classes.interfaces i k f.interfaces.each in
    omega (arith, e, p)
out-few s f b m _ = omega arith

own-few : (s : Scenario) → Formed s → (h : List Entry) (i : Issue) (t : Bool) (before : List Value) → Few before → Few (own_values s h i t before)
own-few s f h i true before p = out-few s f (books s h) (is_marshalled i.route) (act s h i.lane)
own-few s f h i false before p = p

issued-few : (s : Scenario) → Formed s → (h : List Entry) (x : Option Issue) (c : ℕ) (before : List Value) → Few before → Few (values_or s h x c before)
issued-few s f h None c before p = p
issued-few s f h (Some i) c before p = own-few s f h i (i.call == c) before p

none-few : Few []
none-few = omega arith

sent-few : (s : Scenario) → Formed s → (h : List Entry) (c : ℕ) → Few (sent s h c)
sent-few s f [] c = none-few
sent-few s f (e ∷ h) c = issued-few s f h (issues e.lane e.deed) c (sent s h c) (sent-few s f h c)

unread-few : (a : Option Admission) (x : Option Ending) (vs : List Value) → Few vs → Few (unread_values a x vs)
unread-few None None vs p = p
unread-few (Some a) x vs p = none-few
unread-few None (Some x) vs p = none-few

deed-few : (s : Scenario) (h : List Entry) (l : ℕ) (d : Deed) → Formed s → next s h l ≡ Some d → FewValues d
deed-few s h l (deed.Enter c o a t vs) f q =
    let z : Says s (sight s h) l (deed.Enter c o a t vs) = next-says s h l (deed.Enter c o a t vs) q in
    subst Few (sym z.2) (unread-few (admitted h c) (ending s h c) (sent s h c) (sent-few s f h c))
deed-few s h l _ f q = tt

-- ---- a step keeps how many slots there are

abbrev Keeps : Effect → FrameView → Type 0
Keeps (Goes g d k) f = g.slots ≡ f.slots
Keeps (Acts a) f = Unit {0}

effect-keeps : (f : FrameView) (c : Cells) (x : Stmt) → Keeps (effect_of f c x) f
effect-keeps f c (stmt.Set to from) = refl
effect-keeps f c (stmt.Add to from) = refl
effect-keeps f c (stmt.Sub to from) = refl
effect-keeps f c (stmt.Less to left right) = refl
effect-keeps f c (stmt.Same to left right) = refl
effect-keeps f c (stmt.Load to cell) = refl
effect-keeps f c (stmt.Store cell from) = refl
effect-keeps f c (stmt.Skip n) = refl
effect-keeps f c (stmt.SkipZero r n) = refl
effect-keeps f c _ = tt

stepped-keeps : (xs : List Stmt) (f g : FrameView) (c : Cells) (e : Effect) → g.slots ≡ f.slots → ((k : ℕ) (u : FrameView) (d : Cells) → u.slots ≡ f.slots → (walk xs k u d).frame.slots ≡ f.slots) → Keeps e g → (elim e as (λ _. Outcome) [ Goes u d k ↦ walk xs k (moved u (k + 1)) d | Acts a ↦ record { frame = moved g 1; cells = c; action = a } ]).frame.slots ≡ f.slots
stepped-keeps xs f g c (Goes u d k) p w q = w k (moved u (k + 1)) d (q ∙ p)
stepped-keeps xs f g c (Acts a) p w q = p

walk-keeps : (xs : List Stmt) (f : FrameView) (k : ℕ) (g : FrameView) (c : Cells) → g.slots ≡ f.slots → (walk xs k g c).frame.slots ≡ f.slots
walk-keeps [] f k g c p = p
walk-keeps (x ∷ xs) f (suc k) g c p = walk-keeps xs f k g c p
walk-keeps (x ∷ xs) f zero g c p = stepped-keeps xs f g c (effect_of g c x) p (walk-keeps xs f) (effect-keeps g c x)

step-keeps : (xs : List Stmt) (f : FrameView) (c : Cells) → HasSlots f → HasSlots (body_step xs f c).frame
step-keeps xs f c p = ap length (walk-keeps (drop f.place xs) f 0 f c refl) ∙ p

issued-keeps : (s : Scenario) (k : ℕ) (i : Option Issue) (f : FrameView) (c : Cells) → HasSlots f → HasSlots (issued_body s k i f c).frame
issued-keeps s k None f c p = step-keeps [] f c p
issued-keeps s k (Some i) f c p = step-keeps (body_of s.classes k i.iface i.method) f c p

-- ---- the scene

record Sized (w : Scene) : Type 0 where
  scripts : (l : ℕ) → HasSlots (w.scripts l)
  bodies : (c : ℕ) → HasSlots (w.bodies c)

outcome-sized : (s : Scenario) (k : ℕ → ℕ) (i : ℕ → Option Issue) (w : Scene) (a : Actor) → Sized w → IsWhole (outcome s k i w a)
outcome-sized s k i w (Body c o) p = issued-keeps s (k o) (i c) (w.bodies c) (w.cells o) (p.bodies c)
outcome-sized s k i w (Script l) p = step-keeps (script s l) (w.scripts l) new_cells (p.scripts l)
outcome-sized s k i w Nobody p = tt

references-few : (vs : List Value) → length (references vs) ≤ length vs
references-few [] = omega arith
references-few (value.Ref held ∷ vs) = let e : length (references vs) ≤ length vs = references-few vs in omega (arith, e)
references-few (_ ∷ vs) = let e : length (references vs) ≤ length vs = references-few vs in omega (arith, e)

filled-up : (held : List (Option RefValue)) (n : ℕ) → length held ≤ n → length (held ++ replicate (n - length held) None) ≡ n
filled-up held n p =
    let nulls : List (Option RefValue) = replicate (n - length held) None in
    let both : length (held ++ nulls) ≡ length held + length nulls = length-append held nulls in
    let more : length nulls ≡ n - length held = length-replicate (n - length held) None in
    omega (arith, both, more, p)

entered-sized : (vs : List Value) → Few vs → HasSlots (entered vs)
entered-sized vs p =
    let few : length (references vs) ≤ length vs = references-few vs in
    filled-up (references vs) _ (omega (arith, few, p))

new-sized : HasSlots (entered [])
new-sized = entered-sized [] none-few

put-each : (k : ℕ) (x : FrameView) (f : ℕ → FrameView) → HasSlots x → ((j : ℕ) → HasSlots (f j)) → (j : ℕ) → HasSlots (put k x f j)
put-each k x f p q j = cond-is HasSlots (j == k) x (f j) p (q j)

slot-sized : (f : FrameView) (k : ℕ) (held : Option RefValue) → HasSlots f → HasSlots (with_slot f k held)
slot-sized f k held p = length-set f.slots k held ∙ p

written-sized : (a : Actor) (w : Scene) (x : Write) → Sized w → Sized (written a w x)
written-sized (Body c o) w (ToRegister r v) p = record { scripts = p.scripts; bodies = put-each c _ w.bodies (p.bodies c) p.bodies }
written-sized (Body c o) w (ToSlot k held) p = record { scripts = p.scripts; bodies = put-each c (with_slot (w.bodies c) k held) w.bodies (slot-sized (w.bodies c) k held (p.bodies c)) p.bodies }
written-sized (Body c o) w (ToLink k held) p = record { scripts = p.scripts; bodies = p.bodies }
written-sized (Body c o) w (ToBuffer b bytes) p = record { scripts = p.scripts; bodies = p.bodies }
written-sized (Script l) w (ToRegister r v) p = record { scripts = put-each l _ w.scripts (p.scripts l) p.scripts; bodies = p.bodies }
written-sized (Script l) w (ToSlot k held) p = record { scripts = put-each l (with_slot (w.scripts l) k held) w.scripts (slot-sized (w.scripts l) k held (p.scripts l)) p.scripts; bodies = p.bodies }
written-sized (Script l) w (ToLink k held) p = p
written-sized (Script l) w (ToBuffer b bytes) p = record { scripts = p.scripts; bodies = p.bodies }
written-sized Nobody w x p = p

all-written-sized : (a : Actor) (w : Scene) (xs : List Write) → Sized w → Sized (fold (written a) w xs)
all-written-sized a w [] p = p
all-written-sized a w (x ∷ xs) p = all-written-sized a (written a w x) xs (written-sized a w x p)

framed-sized : (a : Actor) (r : Outcome) (w : Scene) → HasSlots r.frame → Sized w → Sized (with_frame a r w)
framed-sized (Body c o) r w q p = record { scripts = p.scripts; bodies = put-each c r.frame w.bodies q p.bodies }
framed-sized (Script l) r w q p = record { scripts = put-each l r.frame w.scripts q p.scripts; bodies = p.bodies }
framed-sized Nobody r w q p = p

wanted-sized : (x : Action) (d : Deed) (w : Scene) → Sized w → Sized (wants x d w)
wanted-sized (action.Call held i m args to) (deed.Out c o j n r k bytes) w p = record { scripts = p.scripts; bodies = p.bodies }
wanted-sized (action.Call held i m args to) _ w p = p
wanted-sized _ d w p = p

acted-sized : (a : Actor) (r : Option Outcome) (d : Deed) (w : Scene) → IsWhole r → Sized w → Sized (acted a r d w)
acted-sized a None d w q p = p
acted-sized a (Some r) d w q p =
    wanted-sized r.action d (fold (written a) (with_frame a r w) (writes r.action d)) (all-written-sized a (with_frame a r w) (writes r.action d) (framed-sized a r w q p))

arrived-sized : (b : Actor) (l : ℕ) (d : Deed) (w : Scene) → FewValues d → Sized w → Sized (arrived b l d w)
arrived-sized b l (deed.Leave c hr v bytes) w q p = record { scripts = p.scripts; bodies = put-each c (entered []) w.bodies new-sized p.bodies }
arrived-sized b l (deed.Enter c o a k vs) w q p = record { scripts = p.scripts; bodies = put-each c (entered vs) w.bodies (entered-sized vs q) p.bodies }
arrived-sized b l (deed.Back c hr v) w q p = all-written-sized b w (to_answer hr ∷ to_destination (w.destinations c) v) p
arrived-sized b l deed.EndPump w q p = written-sized b w (to_answer S_OK) p
arrived-sized b l (deed.Uninit a zero) w q p = record { scripts = put-each l (record (w.scripts l) { slots = (entered []).slots }) w.scripts new-sized p.scripts; bodies = p.bodies }
arrived-sized b l (deed.Uninit a (suc n)) w q p = p
arrived-sized b l (deed.Final o) w q p = record { scripts = p.scripts; bodies = p.bodies }
arrived-sized b l _ w q p = p

cut-sized : (n : ℕ → ℕ) (x : Option ℕ) (w : Scene) → Sized w → Sized (cut_links n x w)
cut-sized n None w p = p
cut-sized n (Some a) w p = record { scripts = p.scripts; bodies = p.bodies }

scene-sized : (s : Scenario) (h : List Entry) → Formed s → legal s h → Sized (scene s h)
scene-sized s [] f q = record { scripts = λ l. new-sized; bodies = λ c. new-sized }
scene-sized s (e ∷ h) f q =
    let p : Sized (scene s h) = scene-sized s h f q.0 in
    let u : Actor = acting s (class_of h) (issue h) (scene s h) (actor_in s h e.lane) e.deed in
    let r : Option Outcome = outcome s (class_of h) (issue h) (scene s h) u in
    cut-sized (named h) (ends_sta e.deed) (arrived (actor_in s (e ∷ h) e.lane) e.lane e.deed (acted u r e.deed (scene s h)))
    (arrived-sized (actor_in s (e ∷ h) e.lane) e.lane e.deed (acted u r e.deed (scene s h)) (deed-few s h e.lane e.deed f q.1)
    (acted-sized u r e.deed (scene s h) (outcome-sized s (class_of h) (issue h) (scene s h) u p) p))

-- ---- a state that stands for a history

frame-same : (f g : FrameView) → f ≡ g → HasSlots g → HasSlots f
frame-same f g e p = subst HasSlots (sym e) p

state-sized : (s : Scenario) (st : State) (h : List Entry) → Formed s → StandsFor s st h → Sized (scene_in st)
state-sized s st h f p =
    let q : Sized (scene s h) = scene-sized s h f p.lawful in
    record {
      scripts = λ l. frame-same ((scene_in st).scripts l) ((scene s h).scripts l) (p.scene.scripts l) (q.scripts l);
      bodies = λ c. frame-same ((scene_in st).bodies c) ((scene s h).bodies c) (p.scene.bodies c) (q.bodies c);
    }

pub frames-whole : (s : Scenario) (st : State) (h : List Entry) → Formed s → StandsFor s st h → FramesWhole st.scene
frames-whole s st h f p = let q : Sized (scene_in st) = state-sized s st h f p in record { scripts = q.scripts; bodies = q.bodies }

pub step-whole : (s : Scenario) (st : State) (h : List Entry) (e : Entry) → Formed s → StandsFor s st h → IsWhole (step_in s st e)
step-whole s st h e f p = outcome-sized s (class_in st) (issue_in st) (scene_in st) (acting_in s st e) (state-sized s st h f p)

pub few-values : (s : Scenario) (st : State) (h : List Entry) (l : ℕ) (d : Deed) → Formed s → StandsFor s st h → next_of s st l ≡ Some d → FewValues d
few-values s st h l d f p q = deed-few s h l d f (sym (same-next s st h l p) ∙ q)
