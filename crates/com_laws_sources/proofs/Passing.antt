-- What is said of an object of a source is said again after each entry.
use Rattle.std.proofs.Common.{refl, sym, ap, ap₂, subst, ◌∙◌, inl, inr, eqb-true, arith}
use Rattle.std.specs.Prelude.{◌≡◌, ℕ, ◌≤◌, ◌<◌, ◌^◌, ℤ, pos, Bool, true, false, cond, ◌==◌, ◌&&◌, List, [], ◌∷◌, length, Option, Some, None}
use Rattle.com_base.specs.declared.hresult.HResult.{HResult}
use Rattle.com_base.specs.declared.value.Value.{Value}
use Rattle.com_base.specs.declared.value.Value.TheVariants as value
use Rattle.com_body.specs.declared.statements.Stmt.{Stmt}
use Rattle.com_body.specs.declared.operands.Destination.{Destination}
use Rattle.com_body.specs.declared.operands.Destination.TheVariants as destination
use Rattle.com_body.specs.declared.frame.Cells.{Cells}
use Rattle.com_body.specs.Frames.{FrameView, entered, with_register}
use Rattle.com_classes.specs.Lookups.{body_of}
use Rattle.com_model.specs.declared.deeds.Deed.{Deed}
use Rattle.com_model.specs.declared.deeds.Deed.TheVariants as deed
use Rattle.com_model.specs.declared.deeds.Entry.{Entry}
use Rattle.com_model.specs.declared.scenario.Scenario.{Scenario}
use Rattle.com_model.specs.declared.keeps.Issue.{Issue}
use Rattle.com_model.specs.declared.keeps.Opener.{Opener}
use Rattle.com_model.specs.declared.keeps.Opener.TheVariants.{Waits, Enters}
use Rattle.com_model.specs.Lists.{is_number}
use Rattle.com_model.specs.Tables.{lane_sort}
use Rattle.com_model.specs.Openers.{Effect, Opens, Closes, Closer, Backs, Leaves, EndsPump, effect, opened, openers, fits, matches}
use Rattle.com_model.specs.Apartments.{is_sta, ends_sta}
use Rattle.com_model.specs.Objects.{objects, agile, named, class_of, finals}
use Rattle.com_model.specs.Calls.{issue, admits, admitted}
use Rattle.com_model.specs.Frames.{scene, actor, actor_in}
use Rattle.com_model.specs.Formed.{Formed}
use Rattle.com_model.specs.Rules.{legal}
use Rattle.com_model.proofs.Stacks.{next-fits}
use Rattle.com_laws_balance.proofs.Answered.{TopEnter, top-enter}
use Rattle.com_laws_balance.proofs.Bases.{top-among, some-none}
use Rattle.com_laws_balance.proofs.Counts.{Among}
use Rattle.com_laws_balance.proofs.Directs.{Over, openers-own, openers-other}
use Rattle.com_laws_balance.proofs.Stacks.{admission_in, open-admitted}
use Rattle.com_laws_balance.proofs.Homes.{admitted-none}
use Rattle.com_laws_balance.proofs.Tests.{enter-fresh}
use Rattle.com_laws_safety.proofs.Small.{not-both, and-left, and-right, same-number}
use Rattle.com_laws_sources.specs.Alone.{alone}
use Rattle.com_laws_sources.specs.Bodies.{fire_body}
use Rattle.com_laws_sources.specs.Histories.{given_to, is_on, change, Stays, sinks, taken, at_enter, last, reached, sends, visited}
use Rattle.com_laws_sources.specs.Kept.{Keeps}
use Rattle.com_laws_sources.specs.Rounds.{AtRound, Begins}
use Rattle.com_laws_sources.specs.Runs.{at_begin, began, Rest}
use Rattle.com_laws_sources.specs.Sources.{IsSource, advise, unadvise, fire}
use Rattle.com_laws_sources.specs.Steps.{acts_on, body_for, returned_to}
use Rattle.com_laws_sources.proofs.Around.{source-agile, same-lane, last-stays, seen-stays, not-sending, Free, sinks-same, taken-same}
use Rattle.com_laws_sources.proofs.Called.{Issued, issued-on, advises, unadvises, fires, others, runs, on-method, at-method}
use Rattle.com_laws_sources.proofs.Fired.{begins, stays}
use Rattle.com_laws_sources.proofs.Framed.{back-writes}
use Rattle.com_laws_sources.proofs.Living.{enter-alive, open-alive}
use Rattle.com_laws_sources.proofs.Placed.{in-sta}
use Rattle.com_laws_sources.proofs.Runs.{differs, enters-rest}
use Rattle.com_laws_sources.proofs.Sitting.{ChangeBy, one-number, given-kinds}
use Rattle.com_laws_sources.proofs.Sourced.{source-runs}
use Rattle.com_laws_sources.proofs.Stepped.{cells-stay}
use Rattle.com_laws_sources.proofs.Told.{owing-changed, owing-first, AtSeen, Firing, Waiting, Due, Told, keeps-same, at-same, owing-same}

-- ---- what is known of an entry, and of an object of a source before it

pub record Around (s : Scenario) (h : List Entry) (e : Entry) (o i : ℕ) : Type 0 where
  pub formed : Formed s
  pub lawful : legal s (e ∷ h)
  pub short : length h < 2 ^ 63
  pub made : o ≤ objects h
  pub before : IsSource s (class_of h o) i
  pub after : IsSource s (class_of (e ∷ h) o) i
  pub told : Told s h o i

pub here-or-not : (e : Entry) (l : ℕ) (P : ℕ → Type 0) → P e.lane → ((e.lane == l) ≡ false → P l) → P l
here-or-not e l P p f =
    elim (e.lane == l) as (λ t. (e.lane == l) ≡ t → P l) [
      | true ↦ λ z. subst P (eqb-true e.lane l z) p
      | false ↦ λ z. f z
    ] refl

pub fire-body : (s : Scenario) (h : List Entry) (o i c : ℕ) (y : Issued h c o) → IsSource s (class_of h o) i → is_on (issue h c) o i fire ≡ true → body_for s h o y.of ≡ fire_body
fire-body s h o i c y p on =
    elim (runs s (class_of h o) i y.of p) as (λ _. body_for s h o y.of ≡ fire_body) [
      | advises u z ↦ absurd (not-both (is_on (issue h c) o i fire) on (on-method h c o i fire y.of false y.is y.object (at-method i fire advise y.of u z)))
      | unadvises u z ↦ absurd (not-both (is_on (issue h c) o i fire) on (on-method h c o i fire y.of false y.is y.object (at-method i fire unadvise y.of u z)))
      | fires u z ↦ ap₂ (λ (j n : ℕ). body_of s.classes (class_of h o) j n) u z ∙ (source-runs s (class_of h o) i p).fires
      | others f z ↦ absurd (not-both (is_on (issue h c) o i fire) on (on-method h c o i fire y.of false y.is y.object (f fire (omega arith))))
    ]

pub record OnFire (y : Issue) (i : ℕ) : Type 0 where
  pub iface : y.iface ≡ i
  pub method : y.method ≡ fire

pub on-fire : (h : List Entry) (o i c : ℕ) (y : Issued h c o) → is_on (issue h c) o i fire ≡ true → OnFire y.of i
on-fire h o i c y on =
    let t : is_on (Some y.of) o i fire ≡ true = subst (λ (x : Option Issue). is_on x o i fire ≡ true) y.is on in
    let u : (y.of.iface == i && y.of.method == fire) ≡ true = and-right (is_number o y.of.object) (y.of.iface == i && y.of.method == fire) t in
    record { iface = eqb-true y.of.iface i (and-left (y.of.iface == i) (y.of.method == fire) u); method = eqb-true y.of.method fire (and-right (y.of.iface == i) (y.of.method == fire) u) }

-- ---- an event stays as it was

pub due-stays : (s : Scenario) (h : List Entry) (e : Entry) (l c o a i : ℕ) → legal s (e ∷ h) → ChangeBy (change h o i e.deed) (taken h o i) → Among (Enters c o a) (openers h l) → sends h e.lane c e.deed ≡ false → Due h o i c → Due (e ∷ h) o i c
due-stays s h e l c o a i q k m p d =
    owing-same (last h o i c) (last (e ∷ h) o i c) (taken (e ∷ h) o i) (taken (e ∷ h) o i) (visited h o i c) (visited (e ∷ h) o i c) (sinks (e ∷ h) o i) (sinks (e ∷ h) o i)
    (last-stays s h e l c o a i q m) refl (seen-stays h e o i c p) refl
    (owing-changed (last h o i c) (taken h o i) (visited h o i c) (sinks h o i) (change h o i e.deed) k d)

pub firing-stays : (s : Scenario) (h : List Entry) (e : Entry) (l c o a i : ℕ) → legal s (e ∷ h) → Among (Enters c o a) (openers h l) → sends h e.lane c e.deed ≡ false → change h o i e.deed ≡ Stays
    → (scene s (e ∷ h)).bodies c ≡ (scene s h).bodies c → (scene s (e ∷ h)).cells o ≡ (scene s h).cells o → Firing s h o i c → Firing s (e ∷ h) o i c
firing-stays s h e l c o a i q m p u f g w = record {
  event = w.event;
  frame = w.frame;
  cells = w.cells;
  steps = w.steps;
  at = at-same w.frame w.event (last h o i c) (last (e ∷ h) o i c) (visited h o i c) (visited (e ∷ h) o i c) (last-stays s h e l c o a i q m) (seen-stays h e o i c p) w.at;
  keeps = keeps-same w.cells w.cells (sinks h o i) (sinks (e ∷ h) o i) (taken h o i) (taken (e ∷ h) o i) refl (sinks-same h e o i u) (taken-same h e o i u) w.keeps;
  same = ap₂ (λ (x : FrameView) (d : Cells). alone fire_body w.steps x d) f g ∙ w.same;
}

-- ---- a body of `fire` begins

pub none-visited : (s : Scenario) (h : List Entry) (o i c : ℕ) → legal s h → admitted h c ≡ None → visited h o i c ≡ []
none-visited s [] o i c q n = refl
none-visited s (e ∷ h) o i c q n =
    let z : admitted h c ≡ None = admitted-none (admits e.lane e.deed) c (admitted h c) n in
    seen-stays h e o i c (not-sending h e.lane c e.deed (λ t. let k : TopEnter (openers h e.lane) c = top-enter (openers h e.lane) c t in
    some-none (admitted h c) (admission_in c e.lane k.apartment) (open-admitted s h q.0 e.lane c k.object k.apartment (top-among c k.object k.apartment (openers h e.lane) k.rest k.is)) z))
    ∙ none-visited s h o i c q.0 z

enter-seen : (h : List Entry) (l c o a : ℕ) (d : Deed) → effect d ≡ Opens (Enters c o a) → sends h l c d ≡ false
enter-seen h l c o a (deed.Enter k x b t vs) p = refl
enter-seen h l c o a (deed.Out k x i m r cause bytes) p = cc
enter-seen h l c o a _ p = refl

enter-at : (c o a now before : ℕ) (d : Deed) → effect d ≡ Opens (Enters c o a) → at_enter d c now before ≡ now
enter-at c o a now before (deed.Enter k x b t vs) p = ap (λ (y : Bool). cond y now before) (subst (λ (y : ℕ). (k == y) ≡ true) (call-of p) (same-number k))
  where
    call-of : Opens (Enters k x b) ≡ Opens (Enters c o a) → k ≡ c
    call-of p = cc
enter-at c o a now before _ p = cc

pub enter-began : (s : Scenario) (h : List Entry) (c o a : ℕ) (before : Cells) (d : Deed) → effect d ≡ Opens (Enters c o a) → at_begin s h d c before ≡ (scene s h).cells o
enter-began s h c o a before (deed.Enter k x b t vs) p =
    ap (λ (y : Bool). cond y ((scene s h).cells x) before) (subst (λ (y : ℕ). (k == y) ≡ true) (call-of p) (same-number k)) ∙ ap (scene s h).cells (object-of p)
  where
    call-of : Opens (Enters k x b) ≡ Opens (Enters c o a) → k ≡ c
    call-of p = cc

    object-of : Opens (Enters k x b) ≡ Opens (Enters c o a) → x ≡ o
    object-of p = cc
enter-began s h c o a before _ p = cc

entered-seen : (s : Scenario) (h : List Entry) (e : Entry) (c o a i : ℕ) → legal s (e ∷ h) → effect e.deed ≡ Opens (Enters c o a) → visited (e ∷ h) o i c ≡ []
entered-seen s h e c o a i q p = seen-stays h e o i c (enter-seen h e.lane c o a e.deed p) ∙ none-visited s h o i c q.0 (enter-fresh s h e.lane c o a e.deed q.1 p)

entered-last : (h : List Entry) (e : Entry) (c o a i : ℕ) → effect e.deed ≡ Opens (Enters c o a) → last (e ∷ h) o i c ≡ taken h o i
entered-last h e c o a i p = enter-at c o a (taken h o i) (last h o i c) e.deed p

-- The object before its Enter.
pub entered-keeps : (s : Scenario) (h : List Entry) (e : Entry) (o i c a : ℕ) → Around s h e o i → Free h e.lane o → effect e.deed ≡ Opens (Enters c o a) → Keeps ((scene s h).cells o) (sinks h o i) (taken h o i)
entered-keeps s h e o i c a g n p =
    g.told.rests (enter-alive s h e c o a g.formed g.lawful p (source-agile s h o i g.before) (in-sta s h o i g.lawful.0 g.before))
    (λ l d b os r. here-or-not e l (λ j. openers h j ≡ Enters d o b ∷ os → ⊥) (λ z. n d b os z)
    (λ z y. differs e.lane l z (same-lane s (e ∷ h) l e.lane d c o b a i g.formed g.lawful g.after
    (top-among d o b (openers (e ∷ h) l) os (openers-other h e l z ∙ y)) now)) r)
  where
    now : Among (Enters c o a) (openers (e ∷ h) e.lane)
    now = subst (λ (os : List Opener). Among (Enters c o a) os) (sym (openers-own h e)) (subst (λ (y : Effect). Among (Enters c o a) (opened y (openers h e.lane))) (sym p) (inl refl))

enter-among : (h : List Entry) (e : Entry) (c o a : ℕ) → effect e.deed ≡ Opens (Enters c o a) → Among (Enters c o a) (openers (e ∷ h) e.lane)
enter-among h e c o a p = subst (λ (os : List Opener). Among (Enters c o a) os) (sym (openers-own h e)) (subst (λ (y : Effect). Among (Enters c o a) (opened y (openers h e.lane))) (sym p) (inl refl))

pub entered-firing : (s : Scenario) (h : List Entry) (e : Entry) (o i c a : ℕ) → Around s h e o i → Free h e.lane o → change h o i e.deed ≡ Stays → effect e.deed ≡ Opens (Enters c o a) → is_on (issue (e ∷ h) c) o i fire ≡ true → Firing s (e ∷ h) o i c
entered-firing s h e o i c a g n u p on =
    let m : Among (Enters c o a) (openers (e ∷ h) e.lane) = enter-among h e c o a p in
    let y : Issued (e ∷ h) c o = issued-on s (e ∷ h) e.lane c o a i g.formed g.lawful g.after m in
    let z : OnFire y.of i = on-fire (e ∷ h) o i c y on in
    let v : (n : ℤ) × (given_to (e ∷ h) c ≡ value.Int n ∷ []) = one-number (given_to (e ∷ h) c) (given-kinds s (e ∷ h) e.lane c o a i fire y.of g.formed g.lawful g.after m y.is z.iface z.method) in
    let k : Keeps ((scene s h).cells o) (sinks h o i) (taken h o i) = entered-keeps s h e o i c a g n p in
    let b : Begins ((scene s h).cells o) v.0 (taken h o i) = begins ((scene s h).cells o) (sinks h o i) (taken h o i) v.0 k in
    let w : Rest s (e ∷ h) c o y.of 1 = enters-rest s h e.lane c o a y.of 1 e.deed g.lawful p in
    let body : body_for s (e ∷ h) o y.of ≡ fire_body = fire-body s (e ∷ h) o i c y g.after on in record {
      event = value.Int v.0;
      frame = b.frame;
      cells = (scene s h).cells o;
      steps = w.steps;
      at = at-same b.frame (value.Int v.0) (taken h o i) (last (e ∷ h) o i c) [] (visited (e ∷ h) o i c) (entered-last h e c o a i p) (entered-seen s h e c o a i g.lawful p) b.at_round;
      keeps = keeps-same ((scene s h).cells o) ((scene s h).cells o) (sinks h o i) (sinks (e ∷ h) o i) (taken h o i) (taken (e ∷ h) o i) refl (sinks-same h e o i u) (taken-same h e o i u) k;
      same = ap (λ (x : List Stmt). alone x w.steps ((scene s (e ∷ h)).bodies c) ((scene s (e ∷ h)).cells o)) (sym body) ∙ w.same
          ∙ ap (λ (x : List Stmt). alone x 1 (entered (given_to (e ∷ h) c)) (began s (e ∷ h) c)) body
          ∙ ap₂ (λ (vs : List Value) (d : Cells). alone fire_body 1 (entered vs) d) v.1 (enter-began s h c o a (began s h c) e.deed p) ∙ b.same;
    }

pub entered-due : (s : Scenario) (h : List Entry) (e : Entry) (o i c a : ℕ) → Around s h e o i → Free h e.lane o → change h o i e.deed ≡ Stays → effect e.deed ≡ Opens (Enters c o a) → Due (e ∷ h) o i c
entered-due s h e o i c a g n u p =
    let k : Keeps ((scene s h).cells o) (sinks h o i) (taken h o i) = entered-keeps s h e o i c a g n p in
    owing-same (taken h o i) (last (e ∷ h) o i c) (taken h o i) (taken (e ∷ h) o i) [] (visited (e ∷ h) o i c) (sinks h o i) (sinks (e ∷ h) o i)
    (entered-last h e c o a i p) (taken-same h e o i u) (entered-seen s h e c o a i g.lawful p) (sinks-same h e o i u) (owing-first (taken h o i) (sinks h o i) k.rising k.few)

-- ---- a call comes back to a body of `fire`

pub record Backed (d : Deed) (c : ℕ) : Type 0 where
  pub hr : HResult
  pub value : Option Value
  pub is : d ≡ deed.Back c hr value

backed : (d : Deed) (k : Closer) (c : ℕ) (os : List Opener) → effect d ≡ Closes k → fits (Closes k) (Waits c ∷ os) → Backed d c
backed (deed.Back j hr v) k c os e p = record { hr = hr; value = v; is = ap (λ (n : ℕ). deed.Back n hr v) (subst (λ (x : Closer). matches x (Waits c)) (sym (closer-of e)) p) }
  where
    closer-of : Closes (Backs j) ≡ Closes k → Backs j ≡ k
    closer-of e = cc
backed (deed.Leave j hr v bytes) k c os e p = absurd (subst (λ (x : Closer). matches x (Waits c)) (sym (closer-of e)) p)
  where
    closer-of : Closes (Leaves j) ≡ Closes k → Leaves j ≡ k
    closer-of e = cc
backed deed.EndPump k c os e p = absurd (subst (λ (x : Closer). matches x (Waits c)) (sym (closer-of e)) p)
  where
    closer-of : Closes EndsPump ≡ Closes k → EndsPump ≡ k
    closer-of e = cc
backed (deed.Pump n) k c os e p = cc
backed (deed.Out j o i m r cause bytes) k c os e p = cc
backed (deed.Enter j o a t vs) k c os e p = cc
backed _ k c os e p = cc

back-keeps : (h : List Entry) (l o i c : ℕ) (d : Deed) (j : ℕ) (hr : HResult) (v : Option Value) → d ≡ deed.Back j hr v → sends h l c d ≡ false
back-keeps h l o i c d j hr v e = subst (λ (x : Deed). sends h l c x ≡ false) (sym e) refl

-- What a Back writes leaves the round.
after-back : (f : FrameView) (to : Destination) (event : Value) (n l r : ℕ) (hr : HResult) (v : Option Value) → to ≡ destination.Register 7 → AtRound f n event l r → AtRound (returned_to to hr v f) n event l r
after-back f to event n l r hr v e k =
    subst (λ (x : Destination). AtRound (returned_to x hr v f) n event l r) (sym e) (by-value v)
  where
    answered : AtRound (with_register f 15 (value.Int (pos hr.0))) n event l r
    answered = (stays n event (value.Int (pos hr.0)) l r f k).1

    by-value : (v : Option Value) → AtRound (returned_to (destination.Register 7) hr v f) n event l r
    by-value None = answered
    by-value (Some x) = (stays n event x l r (with_register f 15 (value.Int (pos hr.0))) answered).0

pub back-firing : (s : Scenario) (h : List Entry) (e : Entry) (o i c a d : ℕ) (os : List Opener) (k : Closer) → Around s h e o i → Free h e.lane o → change h o i e.deed ≡ Stays → effect e.deed ≡ Closes k → openers h e.lane ≡ Waits d ∷ (Enters c o a ∷ os)
    → openers (e ∷ h) e.lane ≡ Enters c o a ∷ os → Firing s (e ∷ h) o i c
back-firing s h e o i c a d os k g n u p r z =
    let m : Among (Enters c o a) (openers h e.lane) = subst (λ (us : List Opener). Among (Enters c o a) us) (sym r) (inr (inl refl)) in
    let v : Over d (Enters c o a ∷ os) (openers h e.lane) = subst (λ (us : List Opener). Over d (Enters c o a ∷ os) us) (sym r) (inl (refl, refl)) in
    let w : Waiting s h o i d c = (g.told.below e.lane d c a os v).1 in
    let b : Backed e.deed d = backed e.deed k d (Enters c o a ∷ os) p (subst (λ (us : List Opener). fits (Closes k) us) r (subst (λ (y : Effect). fits y (openers h e.lane)) p (next-fits s h e.lane e.deed g.lawful.1))) in
    let free : agile s h o ≡ false = source-agile s h o i g.before in
    let sta : is_sta (named h o) ≡ true = in-sta s h o i g.lawful.0 g.before in
    let quiet : acts_on (actor_in s h e.lane) o ≡ false = ap (λ (us : List Opener). acts_on (actor (lane_sort s e.lane) e.lane us) o) r in
    let cells : (scene s (e ∷ h)).cells o ≡ (scene s h).cells o =
    cells-stay s h e o quiet (subst (λ (x : Deed). is_number o (finals x) ≡ false) (sym b.is) refl) (subst (λ (x : Deed). is_number (named h o) (ends_sta x) ≡ false) (sym b.is) refl) in
    let keep : Keeps ((scene s h).cells o) (sinks h o i) (taken h o i) =
    g.told.rests (open-alive s h e.lane c o a g.formed g.lawful.0 free sta m) (λ l j x us y. here-or-not e l (λ f. openers h f ≡ Enters j o x ∷ us → ⊥) (λ t. n j x us t)
    (λ t q. differs e.lane l t (same-lane s h l e.lane j c o x a i g.formed g.lawful.0 g.before (top-among j o x (openers h l) us q) m)) y) in
    let frame : (scene s (e ∷ h)).bodies c ≡ returned_to ((scene s h).destinations d) b.hr b.value ((scene s h).bodies c) =
    back-writes s h e d c o b.hr b.value b.is (ap (λ (us : List Opener). actor (lane_sort s e.lane) e.lane us) r) (ap (λ (us : List Opener). actor (lane_sort s e.lane) e.lane us) z) in record {
      event = w.event;
      frame = (scene s (e ∷ h)).bodies c;
      cells = (scene s (e ∷ h)).cells o;
      steps = 1;
      at = at-same ((scene s (e ∷ h)).bodies c) w.event (last h o i c) (last (e ∷ h) o i c) (visited h o i c) (visited (e ∷ h) o i c) (last-stays s h e e.lane c o a i g.lawful m) (seen-stays h e o i c (back-keeps h e.lane o i c e.deed d b.hr b.value b.is))
          (subst (λ (f : FrameView). AtSeen f w.event (last h o i c) (visited h o i c)) (sym frame) (after-back ((scene s h).bodies c) ((scene s h).destinations d) w.event (length (visited h o i c)) (last h o i c) (reached (visited h o i c)) b.hr b.value w.to w.at));
      keeps = keeps-same ((scene s h).cells o) ((scene s (e ∷ h)).cells o) (sinks h o i) (sinks (e ∷ h) o i) (taken h o i) (taken (e ∷ h) o i) cells (sinks-same h e o i u) (taken-same h e o i u) keep;
      same = refl;
    }
