-- Each direct call that waits is on top and not admitted, with its references in slots of the frame below, or is admitted in the
-- apartment of that frame.
use Rattle.std.proofs.Common.{subst, sym, ap, ◌∙◌, ◌⊎◌, inl, inr, eqb-true, arith}
use Rattle.std.specs.Prelude.{◌≡◌, refl, ℕ, ◌+◌, ◌≤◌, ◌<◌, Bool, true, false, cond, ◌==◌, ◌||◌, List, [], ◌∷◌, length, Option, Some, None, All, option_map}
use Rattle.com_base.specs.declared.value.RefValue.{RefValue}
use Rattle.com_base.specs.declared.value.Kind.{Kind}
use Rattle.com_base.specs.declared.value.Kind.TheVariants as kind
use Rattle.com_base.specs.declared.value.Value.{Value}
use Rattle.com_base.specs.declared.value.Value.TheVariants as value
use Rattle.com_base.specs.Values.{as_kind, default_of, has_kind}
use Rattle.com_body.specs.declared.operands.Destination.{Destination}
use Rattle.com_body.specs.declared.actions.Action.{Action}
use Rattle.com_body.specs.declared.actions.Action.TheVariants as action
use Rattle.com_body.specs.declared.frame.Outcome.{Outcome}
use Rattle.com_classes.specs.Lookups.{method_at}
use Rattle.com_model.specs.declared.deeds.Deed.{Deed}
use Rattle.com_model.specs.declared.deeds.Deed.TheVariants as deed
use Rattle.com_model.specs.declared.deeds.Entry.{Entry}
use Rattle.com_model.specs.declared.deeds.Route.{Route}
use Rattle.com_model.specs.declared.deeds.Route.TheVariants as route
use Rattle.com_model.specs.declared.scenario.Scenario.{Scenario}
use Rattle.com_model.specs.Lists.{first, or_else, number_or_zero}
use Rattle.com_model.specs.Tables.{lane_sort, parameters}
use Rattle.com_model.specs.Openers.{Effect, Opens, Closes, Keeps, Closer, effect, effect_on, opened, openers, entered_apartment}
use Rattle.com_model.specs.declared.keeps.Opener.{Opener}
use Rattle.com_model.specs.declared.keeps.Opener.TheVariants.{Waits, Enters}
use Rattle.com_model.specs.Apartments.{home, running}
use Rattle.com_model.specs.Objects.{objects, agile, named, owns, owner, class_of}
use Rattle.com_model.specs.Calls.{issue, calls, admits, admission_or, admitted, target, object_of, lane_of, route_of, is_direct, is_post, is_marshalled, route_for}
use Rattle.com_model.specs.declared.keeps.Issue.{Issue}
use Rattle.com_model.specs.declared.keeps.Admission.{Admission}
use Rattle.com_model.specs.Values.{sent_values, carried}
use Rattle.com_model.specs.Frames.{Scene, scene, Actor, actor, actor_in, outcome, action_of, unless_over, act, writes}
use Rattle.com_model.specs.Books.{books, out_values}
use Rattle.com_model.specs.Issue.{own_values, sent}
use Rattle.com_model.specs.Deeds.{route_to}
use Rattle.com_model.specs.Sight.{Sight, sight}
use Rattle.com_model.specs.Rules.{top, legal}
use Rattle.com_model.specs.Formed.{Formed}
use Rattle.com_model.proofs.Comes.{next-comes}
use Rattle.com_laws_balance.proofs.Carries.{ValueBy, all-head, all-tail}
use Rattle.com_laws_balance.proofs.Packets.{In}
use Rattle.com_model.proofs.Kept.{legal-kept}
use Rattle.com_laws_balance.proofs.Stacks.{admission_in, still-admitted}
use Rattle.com_laws_balance.proofs.Makings.{OwnedAt, owned-later, fine-next}
use Rattle.com_laws_balance.proofs.Results.{out-number}
use Rattle.com_laws_balance.proofs.Says.{Says, OutSays, next-says}
use Rattle.com_laws_balance.proofs.Tops.{Tops, Acts, no_top, by_body, not-enter, next-tops}
use Rattle.com_laws_balance.proofs.Homes.{home-remains}
use Rattle.com_laws_balance.proofs.Bases.{Base, I_of, L_of, actor-orderly, home-stays, first-among}
use Rattle.com_laws_balance.proofs.Steps.{legal-base, ActionOf, action-from, opens-own, same-number}
use Rattle.com_laws_balance.proofs.Arguments.{InSlots, CallBy, slots_of, CallOut, PlainScene, call-out, acts-own, StillBy}
use Rattle.com_laws_balance.proofs.Directs.{Over, over-after, over-among, over-below, over-short, openers-own, openers-other, issue-stays, sent-stays, admission-past, admitted-past, waits-issued, still-slots, other-slots, own-slots-stay}

abbrev pub apartment_of : List Opener → Option ℕ → ℕ
apartment_of os home = number_or_zero (or_else (entered_apartment os) home)

pub data DirectAt (s : Scenario) (h : List Entry) (l c : ℕ) (os : List Opener) : Type 0 where
  pending : admitted h c ≡ None → openers h l ≡ Waits c ∷ os → OwnedAt s h (target h c) (apartment_of os (home s h l)) → ((r : RefValue) → In r (carried (sent s h c)) → InSlots (slots_of (actor (lane_sort s l) l os) (scene s h)) r) → DirectAt s h l c os
  entered : (y : Admission) → admitted h c ≡ Some y → y.apartment ≡ apartment_of os (home s h l) → DirectAt s h l c os

direct-not-post : (r : Route) → is_direct r ≡ true → is_post r ≡ true → ⊥
direct-not-post route.Direct d p = cc
direct-not-post route.Refused d p = cc
direct-not-post route.Switch d p = cc
direct-not-post route.Post d p = cc

pub direct-not-marshalled : (r : Route) → is_direct r ≡ true → is_marshalled r ≡ false
direct-not-marshalled route.Direct d = refl
direct-not-marshalled route.Refused d = cc
direct-not-marshalled route.Switch d = cc
direct-not-marshalled route.Post d = cc

-- ---- what comes while a direct call waits on top

data Nexts (c : ℕ) (d : Deed) : Type 0 where
  enters : (o y : ℕ) (t : Option ℕ) (vs : List Value) → d ≡ deed.Enter c o y t vs → Nexts c d
  keeps : effect d ≡ Keeps → Nexts c d
  closes : (x : Closer) → effect d ≡ Closes x → Nexts c d

top-is : (c : ℕ) (os : List Opener) (o : Option Opener) → first os ≡ o → (ys : List Opener) → os ≡ Waits c ∷ ys → o ≡ Some (Waits c)
top-is c os o e ys p = sym e ∙ ap first p

not-acting : (v : Sight) (l c : ℕ) (d : Deed) → top v l ≡ Some (Waits c) → Acts v l d → ⊥
not-acting v l c d t (no_top e p) = none-some (sym e ∙ t)
  where
    none-some : None ≡ Some (Waits c) → ⊥
    none-some e = cc
not-acting v l c d t (by_body k o a e x y p) = enter-wait (sym e ∙ t)
  where
    enter-wait : Some (Enters k o a) ≡ Some (Waits c) → ⊥
    enter-wait e = cc

same-wait : (k c : ℕ) → Some (Waits k) ≡ Some (Waits c) → k ≡ c
same-wait k c e = cc

nexts : (v : Sight) (l c : ℕ) (d : Deed) → Tops v l d → top v l ≡ Some (Waits c) → is_direct (route_of (v.issue c)) ≡ true → Nexts c d
nexts v l c d (inl p) t z = absurd (not-acting v l c d t p)
nexts v l c (deed.Enter k o y x vs) (inr (inl p)) t z = enters o y x vs (ap (λ (j : ℕ). deed.Enter j o y x vs) (same-wait k c (sym p.0 ∙ t)))
nexts v l c (deed.Enter k o y x vs) (inr (inr p)) t z = absurd (direct-not-post (route_of (v.issue c)) z (p.1 c t))
nexts v l c (deed.Out k o i m r cause bytes) (inr p) t z = absurd p
nexts v l c (deed.Pump n) (inr p) t z = absurd p
nexts v l c deed.EndPump (inr p) t z = closes _ refl
nexts v l c (deed.Back k hr x) (inr p) t z = closes _ refl
nexts v l c (deed.Leave k hr x bytes) (inr p) t z = closes _ refl
nexts v l c d (inr p) t z = keeps refl

keeps-admits : (l : ℕ) (d : Deed) → effect d ≡ Keeps → admits l d ≡ None
keeps-admits l (deed.Enter c o a t vs) e = cc
keeps-admits l _ e = refl

owned-owner : (b : Bool) (r n a : ℕ) → (b ≡ true) ⊎ (a ≡ n) → r ≡ a → cond b r n ≡ a
owned-owner true r n a p e = e
owned-owner false r n a (inl p) e = cc
owned-owner false r n a (inr p) e = sym p

-- ---- one entry: a call that was issued before

pub enter-apartment : (s : Scenario) (h : List Entry) (l c o y : ℕ) (t : Option ℕ) (vs : List Value) (os : List Opener) → Says s (sight s h) l (deed.Enter c o y t vs) → openers h l ≡ Waits c ∷ os → OwnedAt s h (target h c) (apartment_of os (home s h l)) → y ≡ apartment_of os (home s h l)
enter-apartment s h l c o y t vs os z p w =
    let run : number_or_zero (running s h l) ≡ apartment_of os (home s h l) = ap (λ (ys : List Opener). apartment_of ys (home s h l)) p in
    z.1 ∙ ap (λ (k : ℕ). owner s h k l) z.0 ∙ owned-owner (agile s h (target h c)) (number_or_zero (running s h l)) (named h (target h c)) (apartment_of os (home s h l)) w run

direct-enters : (s : Scenario) (h : List Entry) (e : Entry) (c o y : ℕ) (t : Option ℕ) (vs : List Value) (os : List Opener) → Formed s → legal s (e ∷ h) → openers h e.lane ≡ Waits c ∷ os → OwnedAt s h (target h c) (apartment_of os (home s h e.lane)) → home s (e ∷ h) e.lane ≡ home s h e.lane → e.deed ≡ deed.Enter c o y t vs → DirectAt s (e ∷ h) e.lane c os
direct-enters s h e c o y t vs os f q p w n d =
    entered (admission_in c e.lane y)
    (subst (λ (x : Deed). admission_or (admits e.lane x) c (admitted h c) ≡ Some (admission_in c e.lane y)) (sym d) (ap (λ (b : Bool). cond b (Some (admission_in c e.lane y)) (admitted h c)) (same-number c)))
    (enter-apartment s h e.lane c o y t vs os (subst (Says s (sight s h) e.lane) d (next-says s h e.lane e.deed q.1)) p w ∙ ap (apartment_of os) (sym n))

direct-keeps : (s : Scenario) (h : List Entry) (e : Entry) (l c : ℕ) (os : List Opener) → Formed s → legal s (e ∷ h) → c ≤ calls h → OwnedAt s h (target h c) (apartment_of os (home s h l)) → home s (e ∷ h) l ≡ home s h l → admitted (e ∷ h) c ≡ None → openers (e ∷ h) l ≡ Waits c ∷ os → slots_of (actor (lane_sort s l) l os) (scene s (e ∷ h)) ≡ slots_of (actor (lane_sort s l) l os) (scene s h) → ((r : RefValue) → In r (carried (sent s h c)) → InSlots (slots_of (actor (lane_sort s l) l os) (scene s h)) r) → DirectAt s (e ∷ h) l c os
direct-keeps s h e l c os f q low w n a p same g =
    pending a p
    (subst (λ (k : ℕ). OwnedAt s (e ∷ h) k (apartment_of os (home s (e ∷ h) l))) (sym (ap object_of (issue-stays s h e c q low)))
    (subst (λ (x : Option ℕ). OwnedAt s (e ∷ h) (target h c) (apartment_of os x)) (sym n)
    (owned-later s h e (target h c) (apartment_of os (home s h l)) f q ((legal-kept s h f q.0).targets c) w)))
    (λ r m. subst (λ (xs : List (Option RefValue)). InSlots xs r) (sym same) (g r (subst (λ (vs : List Value). In r (carried vs)) (sent-stays s h e c q low) m)))

direct-own : (s : Scenario) (h : List Entry) (e : Entry) (c : ℕ) (os : List Opener) → Formed s → legal s (e ∷ h) → c ≤ calls h → Over c os (openers (e ∷ h) e.lane) → admitted h c ≡ None → openers h e.lane ≡ Waits c ∷ os → OwnedAt s h (target h c) (apartment_of os (home s h e.lane)) → ((r : RefValue) → In r (carried (sent s h c)) → InSlots (slots_of (actor (lane_sort s e.lane) e.lane os) (scene s h)) r) → home s (e ∷ h) e.lane ≡ home s h e.lane → Nexts c e.deed → DirectAt s (e ∷ h) e.lane c os
direct-own s h e c os f q low m a p w g n (enters o y t vs d) = direct-enters s h e c o y t vs os f q p w n d
direct-own s h e c os f q low m a p w g n (keeps k) =
    direct-keeps s h e e.lane c os f q low w n
    (subst (λ (x : Option Admission). admission_or x c (admitted h c) ≡ None) (sym (keeps-admits e.lane e.deed k)) a)
    (openers-own h e ∙ ap (λ (x : Effect). opened x (openers h e.lane)) k ∙ p)
    (own-slots-stay s h e c os f q p k (actor (lane_sort s e.lane) e.lane os)) g
direct-own s h e c os f q low m a p w g n (closes x k) =
    let y : openers (e ∷ h) e.lane ≡ os = openers-own h e ∙ ap (λ (x : Effect). opened x (openers h e.lane)) k ∙ ap (opened (Closes x)) p in
    let z : length os < length os = over-short c os os (subst (Over c os) y m) in absurd (omega (arith, z))

-- Another lane admits no direct call of this one.
direct-other-admits : (s : Scenario) (h : List Entry) (e : Entry) (l c : ℕ) (d : Deed) → legal s h → Tops (sight s h) e.lane d → (e.lane ≡ l → ⊥) → lane_of (issue h c) ≡ l → is_direct (route_of (issue h c)) ≡ true → admitted h c ≡ None → admission_or (admits e.lane d) c (admitted h c) ≡ None
direct-other-admits s h e l c d q t n i z a =
    admission-past (admitted h c) e.lane c d (λ k o y x vs w u. by-top k o y x vs u (subst (Tops (sight s h) e.lane) w t)) a
  where
    by-top : (k o y : ℕ) (x : Option ℕ) (vs : List Value) → k ≡ c → Tops (sight s h) e.lane (deed.Enter k o y x vs) → ⊥
    by-top k o y x vs u (inl p) = not-enter (sight s h) e.lane k o y x vs p
    by-top k o y x vs u (inr (inl p)) = n (sym (waits-issued s h e.lane k q (first-among (openers h e.lane) (Waits k) p.0)).1 ∙ ap (λ (j : ℕ). lane_of (issue h j)) u ∙ i)
    by-top k o y x vs u (inr (inr p)) = direct-not-post (route_of (issue h c)) z (subst (λ (j : ℕ). is_post (route_of (issue h j)) ≡ true) u p.0)

not-both : (b : Bool) → b ≡ false → b ≡ true → ⊥
not-both b p q = cc

direct-old : (s : Scenario) (h : List Entry) (e : Entry) (l c : ℕ) (os : List Opener) → Formed s → legal s (e ∷ h) → Over c os (openers h l) → Over c os (openers (e ∷ h) l) → is_direct (route_of (issue h c)) ≡ true → DirectAt s h l c os → DirectAt s (e ∷ h) l c os
direct-old s h e l c os f q m k z (entered y a b) =
    entered y (still-admitted s h e.lane c e.deed y q.1 a) (b ∙ ap (apartment_of os) (sym (home-stays s h e f q (legal-base s h f q.0) l (Waits c) (over-among c os (openers h l) m))))
direct-old s h e l c os f q m k z (pending a p w g) =
    let low : (c ≤ calls h) × (lane_of (issue h c) ≡ l) = waits-issued s h l c q.0 (over-among c os (openers h l) m) in
    let n : home s (e ∷ h) l ≡ home s h l = home-stays s h e f q (legal-base s h f q.0) l (Waits c) (over-among c os (openers h l) m) in
    elim (e.lane == l) as (λ t. (e.lane == l) ≡ t → DirectAt s (e ∷ h) l c os) [
      | true ↦ λ x. subst-lane (eqb-true e.lane l x) low.0 n
      | false ↦ λ x. direct-keeps s h e l c os f q low.0 w n
          (direct-other-admits s h e l c e.deed q.0 (next-tops s h e q) (λ y. not-both (e.lane == l) x (subst (λ (j : ℕ). (e.lane == j) ≡ true) y (same-number e.lane))) low.1 z a)
          (openers-other h e l x ∙ p)
          (other-slots s h e l os f q x (λ o y. over-below c os (openers h l) o m y)) g
    ] refl
  where
    subst-lane : e.lane ≡ l → c ≤ calls h → home s (e ∷ h) l ≡ home s h l → DirectAt s (e ∷ h) l c os
    subst-lane x low n =
        subst (λ (j : ℕ). Over c os (openers (e ∷ h) j) → openers h j ≡ Waits c ∷ os → OwnedAt s h (target h c) (apartment_of os (home s h j)) → ((r : RefValue) → In r (carried (sent s h c)) → InSlots (slots_of (actor (lane_sort s j) j os) (scene s h)) r) → home s (e ∷ h) j ≡ home s h j → DirectAt s (e ∷ h) j c os) x
        (λ k p w g n. direct-own s h e c os f q low k a p w g n (nexts (sight s h) e.lane c e.deed (next-tops s h e q) (ap first p) z))
        k p w g n

-- ---- one entry: a new call

pub default-by : (P : RefValue → Type 0) (k : Kind) → ValueBy P (default_of k)
default-by P kind.Int = tt
default-by P kind.Bool = tt
default-by P kind.Text = tt
default-by P kind.Bytes = tt
default-by P kind.Guid = tt
default-by P (kind.Ref i) = tt

pub kind-by : (P : RefValue → Type 0) (v : Value) (k : Kind) → ValueBy P v → ValueBy P (as_kind v k)
kind-by P v k p = by-test (has_kind v k)
  where
    by-test : (t : Bool) → ValueBy P (cond t v (default_of k))
    by-test true = p
    by-test false = default-by P k

carried-by : (P : RefValue → Type 0) (x : Value) (rest : List Value) (r : RefValue) → ValueBy P x → (In r (carried rest) → P r) → In r (carried (x ∷ rest)) → P r
carried-by P (value.Ref (Some y)) rest r p f (inl e) = subst P e p
carried-by P (value.Ref (Some y)) rest r p f (inr n) = f n
carried-by P (value.Ref None) rest r p f n = f n
carried-by P (value.Int x) rest r p f n = f n
carried-by P (value.Bool x) rest r p f n = f n
carried-by P (value.Text x) rest r p f n = f n
carried-by P (value.Bytes x) rest r p f n = f n
carried-by P (value.Guid x) rest r p f n = f n

sent-slots : (P : RefValue → Type 0) (live : ℕ → Bool) (ks : List Kind) (vs : List Value) → All (ValueBy P) vs → (r : RefValue) → In r (carried (sent_values false live ks vs)) → P r
sent-slots P live [] vs g r m = absurd m
sent-slots P live (k ∷ ks) [] g r m = carried-by P (default_of k) (sent_values false live ks []) r (default-by P k) (λ n. sent-slots P live ks [] g r n) m
sent-slots P live (k ∷ ks) (v ∷ vs) g r m = carried-by P (as_kind v k) (sent_values false live ks vs) r (kind-by P v k (all-head (ValueBy P) v vs g)) (λ n. sent-slots P live ks vs (all-tail (ValueBy P) v vs g) r n) m

plain-scene : (s : Scenario) (h : List Entry) → Base s h → PlainScene (scene s h)
plain-scene s h b = record { scripts = λ l. (b.frames.scripts l).registers; bodies = λ c. (b.frames.bodies c).registers }

call-of : (a : Actor) (w : Scene) (r : Option Outcome) (held : Option RefValue) (i m : ℕ) (args : List Value) (to : Destination) → action_of r ≡ Some (action.Call held i m args to) → CallOut a w r → All (ValueBy (InSlots (slots_of a w))) args
call-of a w r held i m args to e g =
    let z : ActionOf r (action.Call held i m args to) = action-from r (action.Call held i m args to) e in
    subst (CallBy (InSlots (slots_of a w))) z.action (subst (CallOut a w) z.is g)

-- The arguments of a lane's call stand in slots of who acts there.
args-in : (s : Scenario) (h : List Entry) (l : ℕ) (held : Option RefValue) (i m : ℕ) (args : List Value) (to : Destination) → Formed s → legal s h → act s h l ≡ Some (action.Call held i m args to) → All (ValueBy (InSlots (slots_of (actor_in s h l) (scene s h)))) args
args-in s h l held i m args to f q e =
    let a : Actor = actor_in s h l in
    let own : unless_over a (outcome s (class_of h) (issue h) (scene s h) a) ≡ a = acts-own s (class_of h) (issue h) (scene s h) a (action.Call held i m args to) e in
    call-of a (scene s h) (outcome s (class_of h) (issue h) (scene s h) a) held i m args to
    (subst (λ (x : Actor). action_of (outcome s (class_of h) (issue h) (scene s h) x) ≡ Some (action.Call held i m args to)) own e)
    (call-out s (I_of a) (L_of s h a) (class_of h) (issue h) a (scene s h) (actor-orderly s h f a) (plain-scene s h (legal-base s h f q)))

still-call : (x u : Actor) (r : Option Outcome) (held : Option RefValue) (i m : ℕ) (args : List Value) (to : Destination) (d : Deed) → action_of r ≡ Some (action.Call held i m args to) → StillBy x u r d
still-call x u r held i m args to d e =
    let z : ActionOf r (action.Call held i m args to) = action-from r (action.Call held i m args to) e in
    subst (λ (y : Option Outcome). StillBy x u y d) (sym z.is) (inr (ap (λ (y : Action). writes y d) z.action))

or-parts : (p q : Bool) → (p || q) ≡ true → (p ≡ true) ⊎ (q ≡ true)
or-parts true q e = inl refl
or-parts false q e = inr e

route-owned : (v : Sight) (l : ℕ) (held : Option RefValue) → is_direct (route_to v l held) ≡ true → v.owns (number_or_zero (option_map (λ (x : RefValue). x.object) held)) (number_or_zero (v.running l)) ≡ true
route-owned v l None e = cc
route-owned v l (Some r) e = by-test (v.owns r.object (number_or_zero (v.running l))) e
  where
    by-rest : (t : Bool) → is_direct (cond t route.Switch route.Post) ≡ true → ⊥
    by-rest true e = cc
    by-rest false e = cc

    by-test : (t : Bool) → is_direct (route_for t (v.named r.object) (v.home l)) ≡ true → t ≡ true
    by-test true e = refl
    by-test false e = absurd (by-rest _ e)

direct-out : (s : Scenario) (h : List Entry) (l k : ℕ) (u : Option ℕ) (i m : ℕ) (t : Route) (cause : ℕ) (bytes : Option (List ℕ)) (os : List Opener) → Formed s → legal s (record { lane = l; deed = deed.Out k u i m t cause bytes } ∷ h) → openers h l ≡ os → is_direct (route_of (issue (record { lane = l; deed = deed.Out k u i m t cause bytes } ∷ h) k)) ≡ true → DirectAt s (record { lane = l; deed = deed.Out k u i m t cause bytes } ∷ h) l k os
direct-out s h l k u i m t cause bytes os f q p z =
    let d : Deed = deed.Out k u i m t cause bytes in
    let e : Entry = record { lane = l; deed = d } in
    let y : Issue = record { call = k; lane = l; object = u; iface = i; method = m; route = t; cause = cause } in
    let own : issue (e ∷ h) k ≡ Some y = ap (λ (b : Bool). cond b (Some y) (issue h k)) (same-number k) in
    let direct : is_direct t ≡ true = subst (λ (x : Option Issue). is_direct (route_of x) ≡ true) own z in
    let says : OutSays s (sight s h) l i m u t bytes = next-says s h l d q.1 in
    let n : k ≡ calls h + 1 = out-number s h l d (next-comes s h l d q.1) k u i m t cause bytes refl in
    let run : number_or_zero (running s h l) ≡ apartment_of os (home s h l) = ap (λ (ys : List Opener). apartment_of ys (home s h l)) p in
    let stays : home s (e ∷ h) l ≡ home s h l = home-remains s h e l refl in
    let a : Actor = actor_in s h l in
    let act-own : unless_over a (outcome s (class_of h) (issue h) (scene s h) a) ≡ a = acts-own s (class_of h) (issue h) (scene s h) a (action.Call says.held i m says.args says.to) says.acts in
    let low : number_or_zero u ≤ objects h = fine-next s h e f q in
    pending (admitted-past s h k q.0 (omega (arith, n)))
    (openers-own h e ∙ ap (λ (ys : List Opener). Waits k ∷ ys) p)
    (subst (λ (j : ℕ). OwnedAt s (e ∷ h) j (apartment_of os (home s (e ∷ h) l))) (sym (ap object_of own))
    (subst (λ (x : Option ℕ). OwnedAt s (e ∷ h) (number_or_zero u) (apartment_of os x)) (sym stays)
    (owned-later s h e (number_or_zero u) (apartment_of os (home s h l)) f q low
    (subst (λ (j : ℕ). OwnedAt s h (number_or_zero u) j) run (owned-at (number_or_zero u) (number_or_zero (running s h l))
    (subst (λ (x : Option ℕ). owns s h (number_or_zero x) (number_or_zero (running s h l)) ≡ true) (sym says.object)
    (route-owned (sight s h) l says.held (to-route direct says.homed))))))))
    (λ r w. subst (λ (xs : List (Option RefValue)). InSlots xs r)
    (sym (still-slots s h e a f q (still-call a _ _ says.held i m says.args says.to d says.acts) tt) ∙ ap (λ (ys : List Opener). slots_of (actor (lane_sort s l) l ys) (scene s (e ∷ h))) p)
    (sent-slots (InSlots (slots_of a (scene s h))) (books s h).live (parameters (method_at s.classes i m)) says.args (args-in s h l says.held i m says.args says.to f q.0 says.acts) r
    (subst (λ (vs : List Value). In r (carried vs)) (ap (λ (b : Bool). own_values s h y b (sent s h k)) (same-number k) ∙ ap (λ (b : Bool). out_values s (books s h) b (act s h l)) (direct-not-marshalled t direct) ∙ ap (out_values s (books s h) false) says.acts) w)))
  where
    owned-at : (o b : ℕ) → owns s h o b ≡ true → OwnedAt s h o b
    owned-at o b e = elim (or-parts (agile s h o) (b == named h o) e) as (λ _. OwnedAt s h o b) [ inl y ↦ inl y | inr y ↦ inr (eqb-true b (named h o) y) ]

    not-refused : is_direct t ≡ true → t ≡ route.Refused → ⊥
    not-refused d e = let x : false ≡ true = subst (λ (j : Route). is_direct j ≡ true) e d in cc

    to-route : {H : Type 0} {r : Route} → is_direct t ≡ true → (t ≡ route.Refused) ⊎ (H × (t ≡ r)) → is_direct r ≡ true
    to-route d (inl x) = absurd (not-refused d x)
    to-route d (inr x) = subst (λ (j : Route). is_direct j ≡ true) x.1 d

direct-new : (s : Scenario) (h : List Entry) (l c : ℕ) (d : Deed) (os : List Opener) → Formed s → legal s (record { lane = l; deed = d } ∷ h) → openers h l ≡ os → effect d ≡ Opens (Waits c) → is_direct (route_of (issue (record { lane = l; deed = d } ∷ h) c)) ≡ true → DirectAt s (record { lane = l; deed = d } ∷ h) l c os
direct-new s h l c (deed.Out k u i m t cause bytes) os f q p e =
    subst (λ (j : ℕ). is_direct (route_of (issue (record { lane = l; deed = deed.Out k u i m t cause bytes } ∷ h) j)) ≡ true → DirectAt s (record { lane = l; deed = deed.Out k u i m t cause bytes } ∷ h) l j os) (same-call e) (direct-out s h l k u i m t cause bytes os f q p)
  where
    same-call : Opens (Waits k) ≡ Opens (Waits c) → k ≡ c
    same-call e = cc
direct-new s h l c (deed.Enter k x y t vs) os f q p e = cc
direct-new s h l c (deed.Pump m) os f q p e = cc
direct-new s h l c deed.EndPump os f q p e = cc
direct-new s h l c (deed.Back k hr v) os f q p e = cc
direct-new s h l c (deed.Leave k hr v bytes) os f q p e = cc
direct-new s h l c _ os f q p e = cc

pub legal-direct : (s : Scenario) (h : List Entry) (l c : ℕ) (os : List Opener) → Formed s → legal s h → Over c os (openers h l) → is_direct (route_of (issue h c)) ≡ true → DirectAt s h l c os
legal-direct s [] l c os f q m z = absurd m
legal-direct s (e ∷ h) l c os f q m z =
    elim (over-after c os (effect_on l e) (openers h l) m) as (λ _. DirectAt s (e ∷ h) l c os) [
      | inl p ↦ let w : is_direct (route_of (issue h c)) ≡ true = subst (λ (x : Option Issue). is_direct (route_of x) ≡ true) (issue-stays s h e c q (waits-issued s h l c q.0 (over-among c os (openers h l) p)).0) z in
          direct-old s h e l c os f q p m w (legal-direct s h l c os f q.0 p w)
      | inr p ↦ let y : (e.lane ≡ l) × (effect e.deed ≡ Opens (Waits c)) = opens-own l e (Waits c) p.0 in
          subst (λ (j : ℕ). openers h j ≡ os → DirectAt s (e ∷ h) j c os) y.0 (λ n. direct-new s h e.lane c e.deed os f q n y.1 z) p.1
    ]
