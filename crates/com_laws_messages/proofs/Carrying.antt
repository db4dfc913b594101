-- In every legal history what scripts, bodies and cells hold, what calls sent and what they are answered fits the types that hold
-- it, where the literals of the scenario do.
use Rattle.std.proofs.Common.{subst, arith}
use Rattle.std.proofs.lemmas.List.Elements.{All-replicate, All-nil}
use Rattle.std.specs.Int.{w64}
use Rattle.std.specs.Int.RustNames.{FitsSigned}
use Rattle.std.specs.Prelude.{◌≡◌, ℕ, zero, suc, ◌+◌, ◌^◌, ◌<◌, ◌≤◌, pos, negsuc, Bool, true, false, cond, ◌==◌, ◌&&◌, List, [], ◌∷◌, length, Option, Some, None, All, fold, replicate}
use Rattle.com_base.specs.declared.hresult.HResult.{HResult}
use Rattle.com_base.specs.declared.value.RefValue.{RefValue}
use Rattle.com_base.specs.declared.value.Value.{Value}
use Rattle.com_body.specs.declared.operands.Place.{Place}
use Rattle.com_body.specs.declared.operands.Place.TheVariants as place
use Rattle.com_body.specs.declared.operands.Destination.{Destination}
use Rattle.com_body.specs.declared.operands.Destination.TheVariants as destination
use Rattle.com_body.specs.declared.actions.Action.{Action}
use Rattle.com_body.specs.declared.actions.Action.TheVariants as action
use Rattle.com_body.specs.declared.frame.Cells.{Cells}
use Rattle.com_body.specs.declared.frame.Outcome.{Outcome}
use Rattle.com_body.specs.Frames.{FrameView, entered}
use Rattle.com_body.specs.Operands.{new_cells}
use Rattle.com_classes.specs.Lookups.{body_of}
use Rattle.com_filter.specs.declared.Verdict.{Verdict}
use Rattle.com_model.specs.declared.deeds.Deed.{Deed}
use Rattle.com_model.specs.declared.deeds.Deed.TheVariants as deed
use Rattle.com_model.specs.declared.deeds.Entry.{Entry}
use Rattle.com_model.specs.declared.deeds.Route.TheVariants as route
use Rattle.com_model.specs.declared.scenario.Scenario.{Scenario}
use Rattle.com_model.specs.Answers.{S_OK}
use Rattle.com_model.specs.Lists.{put, or_else, where_true}
use Rattle.com_model.specs.Tables.{script}
use Rattle.com_model.specs.Apartments.{home, running, ends_sta}
use Rattle.com_model.specs.Objects.{class_of, named, owns, disconnects}
use Rattle.com_model.specs.declared.keeps.Admission.{Admission}
use Rattle.com_model.specs.Calls.{issues, issue, admitted, target, is_marshalled}
use Rattle.com_model.specs.declared.keeps.Issue.{Issue}
use Rattle.com_model.specs.Frames.{Scene, scene, Actor, Body, Script, Nobody, actor_in, issued_body, outcome, unless_over, Write, ToRegister, ToSlot, ToLink, ToBuffer, to_place, to_answer, marshalled_in, writes, to_destination, written, with_frame, wants, acted, arrived, cut_links, acting, scene_after, answer_in, cookie_in, action_of, act}
use Rattle.com_model.specs.Endings.{EndEffect, EndsCall, CutsObject, CutsSta, EndsNone, cuts_object, cuts_sta, end_effect, ends, filtered, can_be_cut, ending}
use Rattle.com_model.specs.declared.keeps.Ending.{Ending}
use Rattle.com_model.specs.declared.keeps.Ending.TheVariants.{ByVerdict}
use Rattle.com_model.specs.Books.{books}
use Rattle.com_model.specs.Issue.{refusal_before, own_refusal, refusal_or, at_issue, own_values, values_or, sent, unread_values}
use Rattle.com_model.specs.Sight.{sight}
use Rattle.com_model.specs.Rules.{next, legal}
use Rattle.com_model.proofs.Fines.{cond-is}
use Rattle.com_laws_safety.proofs.Sources.{next-source}
use Rattle.com_laws_messages.proofs.Walking.{CanCarry, ResultCan, IsShort, FrameCan, CellsFit, ActionCan, OutcomeCan, Clean, short-can, small-can, register-can, step-can, entered-can}
use Rattle.com_laws_messages.proofs.Answering.{ActCan, out-can, issue-short, EndingCan, Brings, DeedCan, SeesCan, source-can}

-- The literals of each script and body.
pub record CleanScenario (s : Scenario) : Type 0 where
  pub scripts : (l : ℕ) → All Clean (script s l)
  pub bodies : (k i m : ℕ) → All Clean (body_of s.classes k i m)

pub record SceneCan (w : Scene) : Type 0 where
  pub scripts : (l : ℕ) → FrameCan (w.scripts l)
  pub bodies : (c : ℕ) → FrameCan (w.bodies c)
  pub cells : (o : ℕ) → CellsFit (w.cells o)

-- ---- writes

abbrev WriteCan : Write → Type 0
WriteCan (ToRegister r v) = CanCarry v
WriteCan _ = Unit {0}

abbrev WritesCan : List Write → Type 0
WritesCan [] = Unit {0}
WritesCan (x ∷ xs) = WriteCan x × WritesCan xs

put-all : {X : Type 0} (P : X → Type 0) (k : ℕ) (x : X) (f : ℕ → X) → P x → ((j : ℕ) → P (f j)) → (j : ℕ) → P (put k x f j)
put-all P k x f p q j = cond-is P (j == k) x (f j) p (q j)

written-can : (a : Actor) (w : Scene) (x : Write) → WriteCan x → SceneCan w → SceneCan (written a w x)
written-can (Body k o) w (ToRegister r v) p g = record { scripts = g.scripts; bodies = put-all FrameCan k _ w.bodies (register-can (w.bodies k) r v (g.bodies k) p) g.bodies; cells = g.cells }
written-can (Body k o) w (ToSlot i held) p g = record { scripts = g.scripts; bodies = put-all FrameCan k _ w.bodies (g.bodies k) g.bodies; cells = g.cells }
written-can (Body k o) w (ToLink i held) p g = record { scripts = g.scripts; bodies = g.bodies; cells = put-all CellsFit o _ w.cells (g.cells o) g.cells }
written-can (Body k o) w (ToBuffer b bytes) p g = record { scripts = g.scripts; bodies = g.bodies; cells = g.cells }
written-can (Script l) w (ToRegister r v) p g = record { scripts = put-all FrameCan l _ w.scripts (register-can (w.scripts l) r v (g.scripts l) p) g.scripts; bodies = g.bodies; cells = g.cells }
written-can (Script l) w (ToSlot i held) p g = record { scripts = put-all FrameCan l _ w.scripts (g.scripts l) g.scripts; bodies = g.bodies; cells = g.cells }
written-can (Script l) w (ToLink i held) p g = g
written-can (Script l) w (ToBuffer b bytes) p g = record { scripts = g.scripts; bodies = g.bodies; cells = g.cells }
written-can Nobody w x p g = g

all-written : (a : Actor) (w : Scene) (xs : List Write) → WritesCan xs → SceneCan w → SceneCan (fold (written a) w xs)
all-written a w [] q g = g
all-written a w (x ∷ xs) q g = all-written a (written a w x) xs q.1 (written-can a w x q.0 g)

marshalled-writes : (b : ℕ) (d : Deed) → WritesCan (marshalled_in b d)
marshalled-writes b (deed.Marshal p x held refs hr (Some bytes)) = (tt, tt)
marshalled-writes b (deed.Marshal p x held refs hr None) = tt
marshalled-writes b _ = tt

place-writes : (x : Place) (held : Option RefValue) → WriteCan (to_place x held)
place-writes (place.Slot k) held = tt
place-writes (place.Link k) held = tt

action-writes : (a : Action) (d : Deed) → IsShort (answer_in d) → cookie_in d < 2 ^ 63 → WritesCan (writes a d)
action-writes (action.Create slot k i) d p q = (short-can _ p, (tt, tt))
action-writes (action.Query to held i) d p q = (short-can _ p, (tt, tt))
action-writes (action.Copy to held) d p q = (short-can _ p, (place-writes to held, tt))
action-writes (action.Release from held) d p q = (short-can _ p, (place-writes from None, tt))
action-writes (action.Call held i x args to) d p q = tt
action-writes (action.Marshal b held x) d p q = (short-can _ p, marshalled-writes b d)
action-writes (action.Unmarshal slot b) d p q = (short-can _ p, (tt, tt))
action-writes (action.Drop b) d p q = (short-can _ p, tt)
action-writes (action.Raw b bytes) d p q = (short-can _ p, (tt, tt))
action-writes (action.Register to held) d p q = (short-can _ p, (small-can _ q, tt))
action-writes (action.Get slot x) d p q = (short-can _ p, (tt, tt))
action-writes (action.Revoke x) d p q = (short-can _ p, tt)
action-writes (action.Disconnect held) d p q = (short-can _ p, tt)
action-writes (action.Post l x) d p q = (short-can _ p, tt)
action-writes (action.Quit l) d p q = (short-can _ p, tt)
action-writes (action.Leave hr v) d p q = tt
action-writes (action.Init x) d p q = (short-can _ p, tt)
action-writes action.Uninit d p q = (short-can _ p, tt)
action-writes (action.SetFilter f) d p q = (short-can _ p, tt)
action-writes (action.Pump k) d p q = tt

-- ---- what an entry does

framed-can : (a : Actor) (r : Outcome) (w : Scene) → OutcomeCan r → SceneCan w → SceneCan (with_frame a r w)
framed-can (Body k o) r w q g = record { scripts = g.scripts; bodies = put-all FrameCan k r.frame w.bodies q.frame g.bodies; cells = put-all CellsFit o r.cells w.cells q.cells g.cells }
framed-can (Script l) r w q g = record { scripts = put-all FrameCan l r.frame w.scripts q.frame g.scripts; bodies = g.bodies; cells = g.cells }
framed-can Nobody r w q g = g

wants-can : (a : Action) (d : Deed) (w : Scene) → SceneCan w → SceneCan (wants a d w)
wants-can (action.Call held i x args to) (deed.Out k o j y r b bytes) w g = record { scripts = g.scripts; bodies = g.bodies; cells = g.cells }
wants-can (action.Call held i x args to) _ w g = g
wants-can _ d w g = g

abbrev OutCan : Option Outcome → Type 0
OutCan None = Unit {0}
OutCan (Some r) = OutcomeCan r

acted-can : (a : Actor) (r : Option Outcome) (d : Deed) (w : Scene) → OutCan r → DeedCan d → SceneCan w → SceneCan (acted a r d w)
acted-can a None d w q t g = g
acted-can a (Some r) d w q t g =
    wants-can r.action d _ (all-written a (with_frame a r w) (writes r.action d) (action-writes r.action d t.answer t.cookie) (framed-can a r w q g))

destination-writes : (x : Destination) (v : Option Value) → ResultCan v → WritesCan (to_destination x v)
destination-writes destination.Nowhere v p = tt
destination-writes (destination.Register r) None p = tt
destination-writes (destination.Register r) (Some v) p = (p, tt)
destination-writes (destination.Slot k) v p = (tt, tt)

arrived-can : (b : Actor) (l : ℕ) (d : Deed) (w : Scene) → Brings d → SceneCan w → SceneCan (arrived b l d w)
arrived-can b l (deed.Enter k o a t vs) w q g = record { scripts = g.scripts; bodies = put-all FrameCan k (entered vs) w.bodies (entered-can vs q) g.bodies; cells = g.cells }
arrived-can b l (deed.Leave k hr v bytes) w q g = record { scripts = g.scripts; bodies = put-all FrameCan k (entered []) w.bodies (entered-can [] (All-nil CanCarry)) g.bodies; cells = g.cells }
arrived-can b l (deed.Back k hr v) w q g = all-written b w (to_answer hr ∷ to_destination (w.destinations k) v) (short-can hr q.0, destination-writes (w.destinations k) v q.1) g
arrived-can b l deed.EndPump w q g = written-can b w (to_answer S_OK) (small-can 0 (omega arith)) g
arrived-can b l (deed.Uninit a zero) w q g = record { scripts = put-all FrameCan l (record (w.scripts l) { slots = replicate 8 None }) w.scripts (g.scripts l) g.scripts; bodies = g.bodies; cells = g.cells }
arrived-can b l (deed.Uninit a (suc k)) w q g = g
arrived-can b l (deed.Final o) w q g = record { scripts = g.scripts; bodies = g.bodies; cells = put-all CellsFit o (record (w.cells o) { links = replicate 4 None }) w.cells (g.cells o) g.cells }
arrived-can b l _ w q g = g

cut-can : (n : ℕ → ℕ) (x : Option ℕ) (w : Scene) → SceneCan w → SceneCan (cut_links n x w)
cut-can n None w g = g
cut-can n (Some a) w g = record { scripts = g.scripts; bodies = g.bodies; cells = λ o. cond-is CellsFit (n o == a) (record (w.cells o) { links = replicate 4 None }) (w.cells o) (g.cells o) (g.cells o) }

-- ---- who acts, and its step

new-fit : CellsFit new_cells
new-fit = All-replicate (FitsSigned w64) 8 (pos 0) (small-can 0 (omega arith))

issued-can : (s : Scenario) → CleanScenario s → (k : ℕ) (i : Option Issue) (f : FrameView) (c : Cells) → FrameCan f → CellsFit c → OutcomeCan (issued_body s k i f c)
issued-can s x k None f c p q = step-can [] f c (All-nil Clean) p q
issued-can s x k (Some i) f c p q = step-can (body_of s.classes k i.iface i.method) f c (x.bodies k i.iface i.method) p q

outcome-can : (s : Scenario) → CleanScenario s → (k : ℕ → ℕ) (i : ℕ → Option Issue) (w : Scene) (a : Actor) → SceneCan w → OutCan (outcome s k i w a)
outcome-can s x k i w (Body b o) g = issued-can s x (k o) (i b) (w.bodies b) (w.cells o) (g.bodies b) (g.cells o)
outcome-can s x k i w (Script l) g = step-can (script s l) (w.scripts l) new_cells (x.scripts l) (g.scripts l) new-fit
outcome-can s x k i w Nobody g = tt

scene-can : (s : Scenario) → CleanScenario s → (k m : ℕ → ℕ) (i : ℕ → Option Issue) (a b : Actor) (l : ℕ) (d : Deed) (w : Scene) → DeedCan d → SceneCan w → SceneCan (scene_after s k m i a b l d w)
scene-can s x k m i a b l d w t g =
    let u : Actor = acting s k i w a d in
    cut-can m (ends_sta d) _ (arrived-can b l d _ t.brings (acted-can u (outcome s k i w u) d w (outcome-can s x k i w u g) t g))

action-out : (o : Option Outcome) → OutCan o → ActCan (action_of o)
action-out None p = tt
action-out (Some r) p = p.action

pub acts-can : (s : Scenario) (h : List Entry) → CleanScenario s → SceneCan (scene s h) → (l : ℕ) → ActCan (act s h l)
acts-can s h x g l = action-out _ (outcome-can s x (class_of h) (issue h) (scene s h) (unless_over (actor_in s h l) (outcome s (class_of h) (issue h) (scene s h) (actor_in s h l))) g)

-- ---- answers

end-can : (f : ℕ → Bool) (d : Deed) (c o a : ℕ) (b : Bool) → Brings d → EndingCan (ends (end_effect f d) c o a b)
end-can f d c o a b q = by-effect (end_effect f d) (effect-can f d q)
  where
    where-can : (t : Bool) (x : Ending) → EndingCan (Some x) → EndingCan (where_true t x)
    where-can true x p = p
    where-can false x p = tt

    EffectCan : EndEffect → Type 0
    EffectCan (EndsCall k x) = EndingCan (Some x)
    EffectCan _ = Unit {0}

    object-can : (x : Option ℕ) → EffectCan (cuts_object x)
    object-can None = tt
    object-can (Some n) = tt

    sta-can : (x : Option ℕ) → EffectCan (cuts_sta x)
    sta-can None = tt
    sta-can (Some n) = tt

    judged-can : (k : ℕ) (v : Verdict) (t : Bool) → EffectCan (cond t EndsNone (EndsCall k (ByVerdict v)))
    judged-can k v true = tt
    judged-can k v false = tt

    effect-can : (f : ℕ → Bool) (d : Deed) → Brings d → EffectCan (end_effect f d)
    effect-can f (deed.Leave k hr v bytes) p = p
    effect-can f (deed.Refuse k hr) p = p
    effect-can f (deed.Out k u i x route.Refused cause bytes) p = tt
    effect-can f (deed.Out k u i x route.Direct cause bytes) p = tt
    effect-can f (deed.Out k u i x route.Switch cause bytes) p = tt
    effect-can f (deed.Out k u i x route.Post cause bytes) p = tt
    effect-can f (deed.Verdict k t v) p = judged-can k v (f k)
    effect-can f (deed.Retry k (negsuc x)) p = tt
    effect-can f (deed.Retry k (pos x)) p = tt
    effect-can f (deed.Pending k w zero) p = tt
    effect-can f (deed.Pending k w (suc x)) p = tt
    effect-can f (deed.Disconnect u hr) p = object-can (disconnects (deed.Disconnect u hr))
    effect-can f (deed.Uninit u x) p = sta-can (ends_sta (deed.Uninit u x))
    effect-can f _ p = tt

    by-effect : (x : EndEffect) → EffectCan x → EndingCan (ends x c o a b)
    by-effect (EndsCall k e) p = where-can (k == c) e p
    by-effect (CutsObject u) p = where-can (b && u == o) _ tt
    by-effect (CutsSta u) p = where-can (b && u == a) _ tt
    by-effect EndsNone p = tt

either-can : (x y : Option Ending) → EndingCan x → EndingCan y → EndingCan (or_else x y)
either-can None y p q = q
either-can (Some e) y p q = p

-- ---- what calls sent, and their refusals

own-can : (s : Scenario) (h : List Entry) (i : Issue) (b : Bool) (xs : List Value) → ActCan (act s h i.lane) → All CanCarry xs → All CanCarry (own_values s h i b xs)
own-can s h i true xs p q = out-can s (books s h) (is_marshalled i.route) (act s h i.lane) p
own-can s h i false xs p q = q

sent-after : (s : Scenario) (h : List Entry) (l c : ℕ) (d : Deed) (xs : List Value) → ActCan (act s h l) → All CanCarry xs → All CanCarry (values_or s h (issues l d) c xs)
sent-after s h l c (deed.Out x o j z r cause bytes) xs p q = own-can s h (record { call = x; lane = l; object = o; iface = j; method = z; route = r; cause = cause }) (x == c) xs p q
sent-after s h l c _ xs p q = q

before-short : (s : Scenario) (h : List Entry) (l : ℕ) → IsShort (refusal_before s h l)
before-short s h l = issue-short s (home s h l) (running s h l) (owns s h) (books s h).live (act s h l)

own-short : (s : Scenario) (h : List Entry) (l : ℕ) (b : Bool) (hr : HResult) → IsShort hr → IsShort (own_refusal s h l b hr)
own-short s h l true hr p = before-short s h l
own-short s h l false hr p = p

refused-short : (s : Scenario) (h : List Entry) (i : Option Issue) (c : ℕ) (hr : HResult) → IsShort hr → IsShort (refusal_or s h i c hr)
refused-short s h None c hr p = p
refused-short s h (Some i) c hr p = own-short s h i.lane (i.call == c) hr p

at-issue-short : (s : Scenario) (h : List Entry) (c : ℕ) → IsShort (at_issue s h c)
at-issue-short s [] c = omega arith
at-issue-short s (e ∷ h) c = refused-short s h (issues e.lane e.deed) c (at_issue s h c) (at-issue-short s h c)

-- ---- histories

pub record Carries (s : Scenario) (h : List Entry) : Type 0 where
  pub scene : SceneCan (scene s h)
  pub sent : (c : ℕ) → All CanCarry (sent s h c)
  pub endings : (c : ℕ) → EndingCan (ending s h c)

acts-some : (o : Option Action) (a : Action) → ActCan o → o ≡ Some a → ActionCan a
acts-some o a p e = subst ActCan e p

unread-can : (a : Option Admission) (x : Option Ending) (vs : List Value) → All CanCarry vs → All CanCarry (unread_values a x vs)
unread-can None None vs p = p
unread-can (Some a) x vs p = All-nil CanCarry
unread-can None (Some x) vs p = All-nil CanCarry

sees-can : (s : Scenario) (h : List Entry) → CleanScenario s → length (books s h).cookies + 1 < 2 ^ 63 → Carries s h → SeesCan (sight s h)
sees-can s h x n k = record {
  acts = λ l a e. acts-some (act s h l) a (acts-can s h x k.scene l) e;
  unread = λ c. unread-can (admitted h c) (ending s h c) (sent s h c) (k.sent c);
  endings = k.endings;
  issues = at-issue-short s h;
  cookies = n;
}

-- What the next entry brings.
pub deed-can : (s : Scenario) (h : List Entry) (l : ℕ) (d : Deed) → CleanScenario s → length (books s h).cookies + 1 < 2 ^ 63 → Carries s h → next s h l ≡ Some d → DeedCan d
deed-can s h l d x n k e = source-can s (sight s h) l d (sees-can s h x n k) (next-source s h l d e)

carries-first : (s : Scenario) → Carries s []
carries-first s = record {
  scene = record { scripts = λ l. entered-can [] (All-nil CanCarry); bodies = λ c. entered-can [] (All-nil CanCarry); cells = λ o. new-fit };
  sent = λ c. All-nil CanCarry;
  endings = λ c. tt;
}

carries-step : (s : Scenario) (h : List Entry) (e : Entry) → CleanScenario s → length (books s h).cookies + 1 < 2 ^ 63 → next s h e.lane ≡ Some e.deed → Carries s h → Carries s (e ∷ h)
carries-step s h e x n q k =
    let t : DeedCan e.deed = deed-can s h e.lane e.deed x n k q in
    record {
      scene = scene-can s x (class_of h) (named h) (issue h) (actor_in s h e.lane) (actor_in s (e ∷ h) e.lane) e.lane e.deed (scene s h) t k.scene;
      sent = λ c. sent-after s h e.lane c e.deed (sent s h c) (acts-can s h x k.scene e.lane) (k.sent c);
      endings = λ c. either-can (ending s h c) _ (k.endings c) (end-can (filtered s h) e.deed c (target h c) (named h (target h c)) (can_be_cut (issue h c) (admitted h c)) t.brings);
    }

pub legal-carries : (s : Scenario) (h : List Entry) (n : ℕ) → CleanScenario s → ((j : List Entry) → length (books s j).cookies ≤ length j) → length h ≤ n → n < 2 ^ 32 → legal s h → Carries s h
legal-carries s [] n x few le lt q = carries-first s
legal-carries s (e ∷ h) n x few le lt q =
    let m : length (books s h).cookies ≤ length h = few h in
    carries-step s h e x (omega (arith, m, le, lt)) q.1 (legal-carries s h n x few (omega (arith, le)) lt q.0)
