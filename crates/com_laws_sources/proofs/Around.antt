-- What an entry leaves of an object of a source and of the calls that are open on it.
use Rattle.std.proofs.Common.{refl, sym, ap, subst, ◌∙◌, inl, inr, eqb-true, arith}
use Rattle.std.proofs.lemmas.Bool.{false_from_ne_true}
use Rattle.std.specs.Prelude.{◌≡◌, ℕ, ◌+◌, ◌≤◌, Bool, true, false, cond, ◌==◌, List, [], ◌∷◌, fold, Option, Some, None}
use Rattle.com_base.specs.declared.hresult.HResult.{HResult}
use Rattle.com_base.specs.declared.value.RefValue.{RefValue}
use Rattle.com_base.specs.declared.value.Value.{Value}
use Rattle.com_body.specs.declared.operands.Destination.{Destination}
use Rattle.com_body.specs.declared.actions.Action.{Action}
use Rattle.com_body.specs.declared.actions.Action.TheVariants as action
use Rattle.com_body.specs.declared.frame.Outcome.{Outcome}
use Rattle.com_body.specs.Frames.{FrameView}
use Rattle.com_model.specs.declared.deeds.Deed.{Deed}
use Rattle.com_model.specs.declared.deeds.Deed.TheVariants as deed
use Rattle.com_model.specs.declared.deeds.Entry.{Entry}
use Rattle.com_model.specs.declared.deeds.Route.{Route}
use Rattle.com_model.specs.declared.scenario.Scenario.{Scenario}
use Rattle.com_model.specs.declared.keeps.Issue.{Issue}
use Rattle.com_model.specs.declared.keeps.Opener.{Opener}
use Rattle.com_model.specs.declared.keeps.Opener.TheVariants.{Waits, Enters}
use Rattle.com_model.specs.Answers.{is_S_OK}
use Rattle.com_model.specs.Lists.{first, is_number}
use Rattle.com_model.specs.Tables.{lane_sort}
use Rattle.com_model.specs.Openers.{Effect, Opens, Closes, Keeps, Closer, effect, opened, openers, top_call}
use Rattle.com_model.specs.Apartments.{is_sta, ends_sta}
use Rattle.com_model.specs.Objects.{agile, named, class_of}
use Rattle.com_model.specs.Calls.{issue, calls}
use Rattle.com_model.specs.Frames.{Scene, scene, Actor, actor_in, Body, outcome, writes, written, with_frame, wants, acted, arrived, acting, cut_links}
use Rattle.com_model.specs.Formed.{Formed}
use Rattle.com_model.specs.Rules.{legal}
use Rattle.com_model.proofs.Comes.{next-comes}
use Rattle.com_laws_balance.proofs.Answered.{TopEnter, top-enter, leave-top}
use Rattle.com_laws_balance.proofs.Bases.{actor-is, top-among, cut-to, arrived-to}
use Rattle.com_laws_balance.proofs.Counts.{Among}
use Rattle.com_laws_balance.proofs.Directs.{Over, over-among, over-below, openers-own, waits-issued}
use Rattle.com_laws_balance.proofs.Moves.{all-written-to, framed-to}
use Rattle.com_laws_balance.proofs.Results.{out-number}
use Rattle.com_laws_balance.proofs.Below.{Distinct, legal-distinct}
use Rattle.com_laws_sources.specs.Histories.{is_on, change, Change, Stays, changed, sinks, one_taken, taken, at_enter, last, reached, sends, with_next, visited}
use Rattle.com_laws_sources.specs.Sinks.{first_between}
use Rattle.com_laws_sources.specs.Sources.{IsSource, advise, unadvise, fire}
use Rattle.com_laws_sources.specs.Steps.{acts_for}
use Rattle.com_laws_sources.proofs.Called.{open-target, on-object}
use Rattle.com_laws_sources.proofs.Framed.{frames-stay}
use Rattle.com_laws_sources.proofs.Placed.{in-sta}
use Rattle.com_laws_sources.proofs.Runs.{Same, stays-same, fresh, one-call, stands-in, named-in, no-begin, first-same}
use Rattle.com_laws_sources.proofs.Servers.{number-is, legal-one-lane}
use Rattle.com_laws_sources.proofs.Sitting.{leaving-stays}
use Rattle.com_laws_sources.proofs.Sourced.{source-runs}
use Rattle.com_laws_sources.proofs.Stepped.{off, put-same, after-body}
use Rattle.com_laws_sources.proofs.Told.{Waiting, AtSeen, at-same}

-- ---- the lane of an object's bodies

pub source-agile : (s : Scenario) (h : List Entry) (o i : ℕ) → IsSource s (class_of h o) i → agile s h o ≡ false
source-agile s h o i p = (source-runs s (class_of h o) i p).not_agile

pub open-sta : (s : Scenario) (h : List Entry) (l c o a i : ℕ) → Formed s → legal s h → IsSource s (class_of h o) i → Among (Enters c o a) (openers h l) → is_sta a ≡ true
open-sta s h l c o a i f q p m =
    subst (λ (y : ℕ). is_sta y ≡ true) (sym (named-in s h l c o a f q (source-agile s h o i p) m)) (in-sta s h o i q p)

pub same-lane : (s : Scenario) (h : List Entry) (l j c d o a b i : ℕ) → Formed s → legal s h → IsSource s (class_of h o) i → Among (Enters c o a) (openers h l) → Among (Enters d o b) (openers h j) → l ≡ j
same-lane s h l j c d o a b i f q p m n =
    let free : agile s h o ≡ false = source-agile s h o i p in
    let z : b ≡ a = named-in s h j d o b f q free n ∙ sym (named-in s h l c o a f q free m) in
    legal-one-lane s h f q l j c o d o a (open-sta s h l c o a i f q p m) (stands-in (Enters c o a) (openers h l) m)
    (stands-in (Enters d o a) (openers h j) (subst (λ (y : ℕ). Among (Enters d o y) (openers h j)) z n))

-- ---- a call below another opener is not on top

over-cons : (d c o a x b : ℕ) (os rest : List Opener) → Over d (Enters c o a ∷ os) (Enters c x b ∷ rest) → Among (Enters c o a) rest
over-cons d c o a x b os rest (inl p) = absurd (not-waits p.0)
  where
    not-waits : Enters c x b ≡ Waits d → ⊥
    not-waits e = cc
over-cons d c o a x b os rest (inr p) = over-below d (Enters c o a ∷ os) rest (Enters c o a) p (inl refl)

pub over-open : (h : List Entry) (l d c o a : ℕ) (os : List Opener) → Over d (Enters c o a ∷ os) (openers h l) → Among (Enters c o a) (openers h l)
over-open h l d c o a os v = over-below d (Enters c o a ∷ os) (openers h l) (Enters c o a) v (inl refl)

pub not-top : (s : Scenario) (h : List Entry) (l j d c o a : ℕ) (os : List Opener) (x b : ℕ) (rest : List Opener) → legal s h → Over d (Enters c o a ∷ os) (openers h l) → openers h j ≡ Enters c x b ∷ rest → ⊥
not-top s h l j d c o a os x b rest q v r =
    let z : l ≡ j = one-call s h l j c o a x b q (over-open h l d c o a os v) (top-among c x b (openers h j) rest r) in
    let w : Over d (Enters c o a ∷ os) (Enters c x b ∷ rest) = subst (Over d (Enters c o a ∷ os)) r (subst (λ (k : ℕ). Over d (Enters c o a ∷ os) (openers h k)) z v) in
    (subst Distinct r (legal-distinct s h j q)).0 o a (over-cons d c o a x b os rest w)

pub not-top-call : (s : Scenario) (h : List Entry) (l j d c o a : ℕ) (os : List Opener) → legal s h → Over d (Enters c o a ∷ os) (openers h l) → top_call (first (openers h j)) ≡ Some c → ⊥
not-top-call s h l j d c o a os q v e =
    let t : TopEnter (openers h j) c = top-enter (openers h j) c e in not-top s h l j d c o a os t.object t.apartment t.rest q v t.is

below-quiet : (s : Scenario) (h : List Entry) (l j d c o a : ℕ) (os : List Opener) → legal s h → Over d (Enters c o a ∷ os) (openers h l) → acts_for (actor_in s h j) c ≡ false
below-quiet s h l j d c o a os q v =
    actor-is (λ y. acts_for y c ≡ false) (lane_sort s j) j (openers h j)
    (λ k x b rest p. false_from_ne_true (c == k) (λ t. not-top s h l j d c o a os x b rest q v (p ∙ ap (λ (y : ℕ). Enters y x b ∷ rest) (sym (eqb-true c k t)))))
    (λ p. refl) refl

-- ---- where a result is to go

wants-off : (x : Action) (d : Deed) (w : Scene) (n : ℕ) → ((k : ℕ) (o : Option ℕ) (i m : ℕ) (r : Route) (cause : ℕ) (bytes : Option (List ℕ)) → d ≡ deed.Out k o i m r cause bytes → n ≡ k → ⊥) → (wants x d w).destinations n ≡ w.destinations n
wants-off (action.Call held i m args to) (deed.Out k o j x r cause bytes) w n f = off k n to w.destinations (false_from_ne_true (n == k) (λ t. f k o j x r cause bytes refl (eqb-true n k t)))
wants-off (action.Call held i m args to) _ w n f = refl
wants-off _ d w n f = refl

acted-off : (a : Actor) (r : Option Outcome) (d : Deed) (w : Scene) (n : ℕ) → ((k : ℕ) (o : Option ℕ) (i m : ℕ) (r : Route) (cause : ℕ) (bytes : Option (List ℕ)) → d ≡ deed.Out k o i m r cause bytes → n ≡ k → ⊥) → (acted a r d w).destinations n ≡ w.destinations n
acted-off a None d w n f = refl
acted-off a (Some r) d w n f =
    wants-off r.action d (fold (written a) (with_frame a r w) (writes r.action d)) n f
    ∙ ap (λ (y : ℕ → Destination). y n) (all-written-to a (with_frame a r w) (writes r.action d) ∙ framed-to a r w)

past-number : (n k c : ℕ) → n ≤ c → k ≡ c + 1 → n ≡ k → ⊥
past-number n k c p q e = omega (arith, p, q, e)

dest-stays : (s : Scenario) (h : List Entry) (e : Entry) (n : ℕ) → legal s (e ∷ h) → n ≤ calls h → (scene s (e ∷ h)).destinations n ≡ (scene s h).destinations n
dest-stays s h e n q low =
    let u : Actor = acting s (class_of h) (issue h) (scene s h) (actor_in s h e.lane) e.deed in
    let r : Option Outcome = outcome s (class_of h) (issue h) (scene s h) u in
    ap (λ (y : ℕ → Destination). y n) (cut-to (named h) (ends_sta e.deed) (arrived (actor_in s (e ∷ h) e.lane) e.lane e.deed (acted u r e.deed (scene s h))) ∙ arrived-to (actor_in s (e ∷ h) e.lane) e.lane e.deed (acted u r e.deed (scene s h)))
    ∙ acted-off u r e.deed (scene s h) n (λ k o i m t cause bytes d z. past-number n k (calls h) low (out-number s h e.lane e.deed (next-comes s h e.lane e.deed q.1) k o i m t cause bytes d) z)

pub call-dest : (c o : ℕ) (r : Outcome) (b : Actor) (l k : ℕ) (x : Option ℕ) (j m : ℕ) (t : Route) (cause : ℕ) (bytes : Option (List ℕ)) (n : ℕ → ℕ) (w : Scene) (held : Option RefValue) (i y : ℕ) (args : List Value) (to : Destination) → r.action ≡ action.Call held i y args to
    → (cut_links n (ends_sta (deed.Out k x j m t cause bytes)) (after-body c o r b l (deed.Out k x j m t cause bytes) w)).destinations k ≡ to
call-dest c o r b l k x j m t cause bytes n w held i y args to e =
    let d : Deed = deed.Out k x j m t cause bytes in
    let z : Scene = fold (written (Body c o)) (with_frame (Body c o) r w) (writes r.action d) in
    ap (λ (a : Action). (wants a d z).destinations k) e ∙ put-same k to z.destinations

-- ---- what is said of an event

enter-last : (c now before : ℕ) (d : Deed) → ((k o a : ℕ) (t : Option ℕ) (vs : List Value) → d ≡ deed.Enter k o a t vs → k ≡ c → ⊥) → at_enter d c now before ≡ before
enter-last c now before (deed.Enter k o a t vs) f = ap (λ (b : Bool). cond b now before) (false_from_ne_true (k == c) (λ z. f k o a t vs refl (eqb-true k c z)))
enter-last c now before _ f = refl

pub last-stays : (s : Scenario) (h : List Entry) (e : Entry) (l c o a i : ℕ) → legal s (e ∷ h) → Among (Enters c o a) (openers h l) → last (e ∷ h) o i c ≡ last h o i c
last-stays s h e l c o a i q m = enter-last c (taken h o i) (last h o i c) e.deed (λ k x b t vs d z. fresh s h e l c o a k x b t vs q m d z)

pub seen-stays : (h : List Entry) (e : Entry) (o i c : ℕ) → sends h e.lane c e.deed ≡ false → visited (e ∷ h) o i c ≡ visited h o i c
seen-stays h e o i c p = ap (λ (b : Bool). with_next b (first_between (reached (visited h o i c)) (last h o i c) (sinks h o i)) (visited h o i c)) p

pub not-sending : (h : List Entry) (l c : ℕ) (d : Deed) → (top_call (first (openers h l)) ≡ Some c → ⊥) → sends h l c d ≡ false
not-sending h l c (deed.Out k o i m r cause bytes) n = false_from_ne_true (is_number c (top_call (first (openers h l)))) (λ t. n (number-is c (top_call (first (openers h l))) t))
not-sending h l c _ n = refl

pub below-stays : (s : Scenario) (h : List Entry) (e : Entry) (l d c o a i : ℕ) (os : List Opener) → Formed s → legal s (e ∷ h) → Over d (Enters c o a ∷ os) (openers h l) → Over d (Enters c o a ∷ os) (openers (e ∷ h) l)
    → (is_on (issue h c) o i fire ≡ true) × Waiting s h o i d c → (is_on (issue (e ∷ h) c) o i fire ≡ true) × Waiting s (e ∷ h) o i d c
below-stays s h e l d c o a i os f q v w k =
    let m : Among (Enters c o a) (openers h l) = over-open h l d c o a os v in
    let z : Same s h e c o = stays-same s h e l c o a f q m in
    let frame : (scene s (e ∷ h)).bodies c ≡ (scene s h).bodies c =
    frames-stay s h e c (below-quiet s h l e.lane d c o a os q.0 v) (below-quiet s (e ∷ h) l e.lane d c o a os q w)
    (no-begin c e.deed (λ j x b t vs y u. fresh s h e l c o a j x b t vs q m y u)
    (λ j hr x bytes y u. let t : TopEnter (openers h e.lane) j = leave-top s h e.lane j e.deed hr x bytes q.1 y in
    not-top s h l e.lane d c o a os t.object t.apartment t.rest q.0 v (t.is ∙ ap (λ (n : ℕ). Enters n t.object t.apartment ∷ t.rest) u))) in
    let low : d ≤ calls h = (waits-issued s h l d q.0 (over-among d (Enters c o a ∷ os) (openers h l) v)).0 in (
      ap (λ (x : Option Issue). is_on x o i fire) z.issued ∙ k.0,
      record {
        to = dest-stays s h e d q low ∙ k.1.to;
        event = k.1.event;
        at = at-same ((scene s (e ∷ h)).bodies c) k.1.event (last h o i c) (last (e ∷ h) o i c) (visited h o i c) (visited (e ∷ h) o i c) (last-stays s h e l c o a i q m)
            (seen-stays h e o i c (not-sending h e.lane c e.deed (not-top-call s h l e.lane d c o a os q.0 v)))
            (subst (λ (g : FrameView). AtSeen g k.1.event (last h o i c) (visited h o i c)) (sym frame) k.1.at);
      },
    )

-- ---- the sinks stay, unless a body of the object leaves

abbrev pub Free : List Entry → (lane object : ℕ) → Type 0
Free h l o = (c a : ℕ) (os : List Opener) → openers h l ≡ Enters c o a ∷ os → ⊥

free-off : (s : Scenario) (h : List Entry) (l o i k m : ℕ) → legal s h → TopEnter (openers h l) k → Free h l o → is_on (issue h k) o i m ≡ false
free-off s h l o i k m q t n =
    false_from_ne_true (is_on (issue h k) o i m) (λ u.
    let z : t.object ≡ o = sym (open-target s h l k t.object t.apartment q (top-among k t.object t.apartment (openers h l) t.rest t.is)) ∙ on-object (issue h k) o i m u in
    n k t.apartment t.rest (t.is ∙ ap (λ (y : ℕ). Enters k y t.apartment ∷ t.rest) z))

free-by : (s : Scenario) (h : List Entry) (l o i : ℕ) (d : Deed) → legal s h → ((k : ℕ) (hr : HResult) (v : Option Value) (bytes : Option (List ℕ)) → d ≡ deed.Leave k hr v bytes → TopEnter (openers h l) k) → Free h l o → change h o i d ≡ Stays
free-by s h l o i (deed.Leave k hr v bytes) q f n =
    let t : TopEnter (openers h l) k = f k hr v bytes refl in
    leaving-stays h o i k (is_S_OK hr) v (free-off s h l o i k advise q t n) (free-off s h l o i k unadvise q t n)
free-by s h l o i _ q f n = refl

pub free-change : (s : Scenario) (h : List Entry) (e : Entry) (o i : ℕ) → legal s (e ∷ h) → Free h e.lane o → change h o i e.deed ≡ Stays
free-change s h e o i q n = free-by s h e.lane o i e.deed q.0 (λ k hr v bytes d. leave-top s h e.lane k e.deed hr v bytes q.1 d) n

pub sinks-same : (h : List Entry) (e : Entry) (o i : ℕ) → change h o i e.deed ≡ Stays → sinks (e ∷ h) o i ≡ sinks h o i
sinks-same h e o i p = ap (λ (x : Change). changed x (sinks h o i)) p

pub taken-same : (h : List Entry) (e : Entry) (o i : ℕ) → change h o i e.deed ≡ Stays → taken (e ∷ h) o i ≡ taken h o i
taken-same h e o i p = ap (λ (x : Change). one_taken x (taken h o i)) p

-- ---- how a body came on top

pub data Came (h : List Entry) (e : Entry) (c o a : ℕ) (os : List Opener) : Type 0 where
  entered_now : effect e.deed ≡ Opens (Enters c o a) → openers h e.lane ≡ os → Came h e c o a os
  came_back : (x : Opener) (k : Closer) → effect e.deed ≡ Closes k → openers h e.lane ≡ x ∷ (Enters c o a ∷ os) → Came h e c o a os
  stayed : effect e.deed ≡ Keeps → openers h e.lane ≡ Enters c o a ∷ os → Came h e c o a os

came-by : (h : List Entry) (e : Entry) (c o a : ℕ) (os : List Opener) (y : Effect) (xs : List Opener) → effect e.deed ≡ y → openers h e.lane ≡ xs → opened y xs ≡ Enters c o a ∷ os → Came h e c o a os
came-by h e c o a os (Opens v) xs p z r =
    let w : (v ≡ Enters c o a) × (xs ≡ os) = first-same v (Enters c o a) xs os r in entered_now (p ∙ ap Opens w.0) (z ∙ w.1)
came-by h e c o a os (Closes k) [] p z r = cc
came-by h e c o a os (Closes k) (x ∷ xs) p z r = came_back x k p (z ∙ ap (λ (us : List Opener). x ∷ us) r)
came-by h e c o a os Keeps xs p z r = stayed p (z ∙ r)

pub came : (h : List Entry) (e : Entry) (c o a : ℕ) (os : List Opener) → openers (e ∷ h) e.lane ≡ Enters c o a ∷ os → Came h e c o a os
came h e c o a os r = came-by h e c o a os (effect e.deed) (openers h e.lane) refl refl (sym (openers-own h e) ∙ r)
