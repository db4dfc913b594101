-- What arrives by an entry is backed: the values of an Enter, and the result of a Back.
use Rattle.std.proofs.Common.{subst, sym, ap, ◌∙◌, ◌⊎◌, inl, inr, eqb-true, arith}
use Rattle.std.proofs.lemmas.List.Elements.{All-cons, All-nil}
use Rattle.std.specs.Prelude.{◌≡◌, refl, ℕ, ◌+◌, ◌≤◌, Bool, true, false, not, ◌==◌, ◌&&◌, ◌||◌, map, List, [], ◌∷◌, Option, Some, None, is_some, is_none, All}
use Rattle.com_base.specs.declared.hresult.HResult.{HResult}
use Rattle.com_base.specs.declared.value.RefValue.{RefValue}
use Rattle.com_base.specs.declared.value.Value.{Value}
use Rattle.com_base.specs.declared.value.Value.TheVariants as value
use Rattle.com_body.specs.declared.frame.Outcome.{Outcome}
use Rattle.com_body.specs.Frames.{FrameView, entered as begun}
use Rattle.com_model.specs.declared.deeds.Deed.{Deed}
use Rattle.com_model.specs.declared.deeds.Deed.TheVariants as deed
use Rattle.com_model.specs.declared.deeds.Entry.{Entry}
use Rattle.com_model.specs.declared.deeds.Route.{Route}
use Rattle.com_model.specs.declared.deeds.Route.TheVariants as route
use Rattle.com_model.specs.declared.scenario.Scenario.{Scenario}
use Rattle.com_model.specs.Lists.{first, without_first, number_or_zero, is_number, is_member, any_of}
use Rattle.com_model.specs.Tables.{lane_sort, threads}
use Rattle.com_model.specs.Openers.{Opens, effect_on, openers}
use Rattle.com_model.specs.declared.keeps.Opener.{Opener}
use Rattle.com_model.specs.declared.keeps.Opener.TheVariants.{Waits, Enters}
use Rattle.com_model.specs.Apartments.{home, running}
use Rattle.com_model.specs.Objects.{objects, owns}
use Rattle.com_model.specs.Calls.{issue, calls, admitted, left, route_of, lane_of, is_direct, is_marshalled, is_post}
use Rattle.com_model.specs.declared.keeps.Admission.{Admission}
use Rattle.com_model.specs.declared.keeps.Leaving.{Leaving}
use Rattle.com_model.specs.Values.{carried}
use Rattle.com_model.specs.Frames.{scene, Actor, actor, actor_in, acted, value_reference}
use Rattle.com_model.specs.Endings.{ending, is_leave}
use Rattle.com_model.specs.declared.keeps.Ending.{Ending}
use Rattle.com_model.specs.declared.keeps.Ending.TheVariants.{ByLeave}
use Rattle.com_model.specs.Places.{ground, entered_in, left_value}
use Rattle.com_refs_books.specs.Changes.{packet, Unmarshals, entered_rows}
use Rattle.com_model.specs.Books.{back_rows, books}
use Rattle.com_refs_books.specs.declared.keeps.Packet.{Packet}
use Rattle.com_model.specs.Issue.{sent, unread_values}
use Rattle.com_model.specs.Safe.{Secured}
use Rattle.com_model.specs.Sight.{sight}
use Rattle.com_model.specs.Rules.{is_gone, arguments_gone, result_gone, legal}
use Rattle.com_model.specs.Formed.{Formed}
use Rattle.com_model.proofs.Goods.{GoodValue}
use Rattle.com_model.proofs.Onces.{named-in-range}
use Rattle.com_model.proofs.Scenes.{faces}
use Rattle.com_model.proofs.Stacks.{back-own}
use Rattle.com_laws_balance.proofs.Holds.{unmarshals-bring, unmarshals-all}
use Rattle.com_laws_balance.proofs.Counts.{Among, PlaceOf, of_script, of_body, of_result}
use Rattle.com_laws_balance.proofs.Secures.{Backed, books-full}
use Rattle.com_laws_balance.proofs.Carries.{HeldBy, ValueBy, entered-by, all-head, all-tail}
use Rattle.com_laws_balance.proofs.Moves.{TestOf, ArrivesBy}
use Rattle.com_laws_balance.proofs.Packets.{In, Of}
use Rattle.com_laws_balance.proofs.Sendings.{ArgumentOf, sent-argument}
use Rattle.com_laws_balance.proofs.Leavings.{ResultFor, ResultBy, results-of}
use Rattle.com_model.proofs.Kept.{legal-kept}
use Rattle.com_laws_balance.proofs.Stacks.{admission_in, among-after, opens-enter, open-admitted}
use Rattle.com_laws_balance.proofs.Results.{NotLeft}
use Rattle.com_laws_balance.proofs.Says.{Says, next-says}
use Rattle.com_laws_balance.proofs.Tops.{Tops, not-enter, next-tops}
use Rattle.com_laws_balance.proofs.Homes.{home-remains}
use Rattle.com_laws_balance.proofs.Bases.{S0, actor-is, top-among, some-none}
use Rattle.com_laws_balance.proofs.Steps.{legal-base, made-or-new, same-number, arrives-at}
use Rattle.com_laws_balance.proofs.Arguments.{InSlots, slots_of}
use Rattle.com_laws_balance.proofs.Directs.{Over, openers-own, waits-issued}
use Rattle.com_laws_balance.proofs.Pending.{apartment_of, DirectAt, pending, entered, legal-direct, enter-apartment}
use Rattle.com_laws_balance.proofs.Answered.{lane-low, Known, left-known, left-admitted, left-value-of, issued-some, refused-ends, back-not-back}
use Rattle.com_laws_balance.proofs.Tests.{S1, B1, EitherOpen, still-backed, in-slots-by, enter-fresh, to-test}

pub record WaitsTop (os : List Opener) (c : ℕ) : Type 0 where
  pub rest : List Opener
  pub is : os ≡ Waits c ∷ rest

waits-top : (os : List Opener) (c : ℕ) → first os ≡ Some (Waits c) → WaitsTop os c
waits-top [] c e = cc
waits-top (x ∷ os) c e = record { rest = os; is = ap (λ (y : Opener). y ∷ os) (same x e) }
  where
    same : (x : Opener) → Some x ≡ Some (Waits c) → x ≡ Waits c
    same x e = cc

top-over : (os xs : List Opener) (c : ℕ) → xs ≡ Waits c ∷ os → Over c os xs
top-over os xs c e = subst (λ (ys : List Opener). Over c os ys) (sym e) (inl (refl, refl))

route-is : (r : Route) → (is_direct r ≡ true) ⊎ ((is_marshalled r ≡ true) ⊎ (r ≡ route.Refused))
route-is route.Direct = inl refl
route-is route.Switch = inr (inl refl)
route-is route.Post = inr (inl refl)
route-is route.Refused = inr (inr refl)

values-by : (P : RefValue → Type 0) (vs : List Value) → ((r : RefValue) → In r (carried vs) → P r) → All (ValueBy P) vs
values-by P [] f = All-nil (ValueBy P)
values-by P (value.Ref None ∷ vs) f = All-cons (ValueBy P) (value.Ref None) vs tt (values-by P vs f)
values-by P (value.Ref (Some r) ∷ vs) f = All-cons (ValueBy P) (value.Ref (Some r)) vs (f r (inl refl)) (values-by P vs (λ x m. f x (inr m)))
values-by P (value.Int x ∷ vs) f = All-cons (ValueBy P) (value.Int x) vs tt (values-by P vs f)
values-by P (value.Bool x ∷ vs) f = All-cons (ValueBy P) (value.Bool x) vs tt (values-by P vs f)
values-by P (value.Text x ∷ vs) f = All-cons (ValueBy P) (value.Text x) vs tt (values-by P vs f)
values-by P (value.Bytes x ∷ vs) f = All-cons (ValueBy P) (value.Bytes x) vs tt (values-by P vs f)
values-by P (value.Guid x ∷ vs) f = All-cons (ValueBy P) (value.Guid x) vs tt (values-by P vs f)

carried-known : (n m : ℕ) (vs : List Value) (r : RefValue) → All (GoodValue n m) vs → In r (carried vs) → r.object ≤ n
carried-known n m [] r g k = absurd k
carried-known n m (value.Ref None ∷ vs) r g k = carried-known n m vs r (all-tail (GoodValue n m) (value.Ref None) vs g) k
carried-known n m (value.Ref (Some x) ∷ vs) r g (inl e) = subst (λ (y : RefValue). y.object ≤ n) e (all-head (GoodValue n m) (value.Ref (Some x)) vs g).0
carried-known n m (value.Ref (Some x) ∷ vs) r g (inr k) = carried-known n m vs r (all-tail (GoodValue n m) (value.Ref (Some x)) vs g) k
carried-known n m (value.Int x ∷ vs) r g k = carried-known n m vs r (all-tail (GoodValue n m) (value.Int x) vs g) k
carried-known n m (value.Bool x ∷ vs) r g k = carried-known n m vs r (all-tail (GoodValue n m) (value.Bool x) vs g) k
carried-known n m (value.Text x ∷ vs) r g k = carried-known n m vs r (all-tail (GoodValue n m) (value.Text x) vs g) k
carried-known n m (value.Bytes x ∷ vs) r g k = carried-known n m vs r (all-tail (GoodValue n m) (value.Bytes x) vs g) k
carried-known n m (value.Guid x ∷ vs) r g k = carried-known n m vs r (all-tail (GoodValue n m) (value.Guid x) vs g) k

-- ---- a slot of who stands in a lane is a place

none-here : (xs : FrameView) (r : RefValue) → xs ≡ begun [] → InSlots xs.slots r → ⊥
none-here xs r e i = in-slots-by (λ _. ⊥) (begun []).slots r (entered-by (λ _. ⊥) [] (All-nil (ValueBy (λ _. ⊥)))).slots (subst (λ (f : FrameView). InSlots f.slots r) e i)

home-some : (x : Option ℕ) → (x ≡ None → ⊥) → is_number (number_or_zero x) x ≡ true
home-some None f = absurd (f refl)
home-some (Some a) f = same-number a

script-place : (s : Scenario) (h : List Entry) (l : ℕ) (r : RefValue) → Formed s → legal s h → InSlots ((scene s h).scripts l).slots r → PlaceOf s (ground s h) (scene s h) (number_or_zero (home s h l)) r
script-place s h l r f q i =
    elim (made-or-new (threads s) l) as (λ _. PlaceOf s (ground s h) (scene s h) (number_or_zero (home s h l)) r) [
      | inl p ↦ of_script l i.index p (home-some (home s h l) (in-slots-by (S0 s h l) ((scene s h).scripts l).slots r ((legal-base s h f q).frames.scripts l).slots i)) i.is
      | inr p ↦ absurd (none-here ((scene s h).scripts l) r ((legal-kept s h f q).scene.no_script l p) i)
    ]

none-in : (r : RefValue) → InSlots [] r → ⊥
none-in r i = in-slots-by (λ _. ⊥) [] r (All-nil (HeldBy (λ _. ⊥))) i

slot-place : (s : Scenario) (h : List Entry) (l : ℕ) (os : List Opener) (r : RefValue) → Formed s → legal s h → ((o : Opener) → Among o os → Among o (openers h l)) → InSlots (slots_of (actor (lane_sort s l) l os) (scene s h)) r → PlaceOf s (ground s h) (scene s h) (apartment_of os (home s h l)) r
slot-place s h l os r f q m =
    actor-is (λ a. InSlots (slots_of a (scene s h)) r → PlaceOf s (ground s h) (scene s h) (apartment_of os (home s h l)) r) (lane_sort s l) l os
    (λ c o a rest p i. subst (λ (ys : List Opener). PlaceOf s (ground s h) (scene s h) (apartment_of ys (home s h l)) r) (sym p)
    (of_body l c o i.index (lane-low s h l (Enters c o a) q (m (Enters c o a) (top-among c o a os rest p))) (m (Enters c o a) (top-among c o a os rest p)) i.is))
    (λ p i. subst (λ (ys : List Opener). PlaceOf s (ground s h) (scene s h) (apartment_of ys (home s h l)) r) (sym p) (script-place s h l r f q i))
    (λ i. absurd (none-in r i))

-- ---- an Enter

gone-none : (f : ℕ → Bool) (p : ℕ) (ps : List ℕ) → any_of f ps ≡ false → is_member p ps ≡ true → f p ≡ false
gone-none f p [] e m = cc
gone-none f p (x ∷ xs) e m =
    elim (p == x) as (λ t. (p == x) ≡ t → (t || is_member p xs) ≡ true → f p ≡ false) [
      | true ↦ λ z n. subst (λ (j : ℕ). f j ≡ false) (sym (eqb-true p x z)) (or-none (f x) (any_of f xs) e).0
      | false ↦ λ z n. gone-none f p xs (or-none (f x) (any_of f xs) e).1 n
    ] refl m
  where
    or-none : (p q : Bool) → (p || q) ≡ false → (p ≡ false) × (q ≡ false)
    or-none true q e = cc
    or-none false q e = (refl, e)

not-gone : (b : Bool) → not b ≡ false → b ≡ true
not-gone true e = refl
not-gone false e = cc

and-false : (p q : Bool) → p ≡ true → (p && q) ≡ false → q ≡ false
and-false true q e f = f
and-false false q e f = cc

some-is-none : {X : Type 0} (x : Option X) → is_some x ≡ true → is_none x ≡ true → ⊥
some-is-none None p q = cc
some-is-none (Some y) p q = cc

refused-post : (r : Route) → r ≡ route.Refused → is_post r ≡ true → ⊥
refused-post route.Refused e p = cc
refused-post route.Direct e p = cc
refused-post route.Switch e p = cc
refused-post route.Post e p = cc

direct-post : (r : Route) → is_direct r ≡ true → is_post r ≡ true → ⊥
direct-post route.Direct d p = cc
direct-post route.Refused d p = cc
direct-post route.Switch d p = cc
direct-post route.Post d p = cc

below : (c : ℕ) (os xs : List Opener) → xs ≡ Waits c ∷ os → (o : Opener) → Among o os → Among o xs
below c os xs e o m = subst (λ (ys : List Opener). Among o ys) (sym e) (inr m)

enter-direct : (s : Scenario) (h : List Entry) (l c o y : ℕ) (t : Option ℕ) (vs : List Value) (r : RefValue) → Formed s → legal s (record { lane = l; deed = deed.Enter c o y t vs } ∷ h) → Secured s h → r.object ≤ objects h → In r (carried (sent s h c)) → is_direct (route_of (issue h c)) ≡ true → first (openers h l) ≡ Some (Waits c) → Backed s h (record { lane = l; deed = deed.Enter c o y t vs }) y r
enter-direct s h l c o y t vs r f q w low m z p =
    let e : Entry = record { lane = l; deed = deed.Enter c o y t vs } in
    let k : WaitsTop (openers h l) c = waits-top (openers h l) c p in
    by-direct k (legal-direct s h l c k.rest f q.0 (top-over k.rest (openers h l) c k.is) z)
  where
    by-direct : (k : WaitsTop (openers h l) c) → DirectAt s h l c k.rest → Backed s h (record { lane = l; deed = deed.Enter c o y t vs }) y r
    by-direct k (pending a v u g) =
        subst (λ (b : ℕ). Backed s h (record { lane = l; deed = deed.Enter c o y t vs }) b r) (sym (enter-apartment s h l c o y t vs k.rest (next-says s h l (deed.Enter c o y t vs) q.1) v u))
        (still-backed s h (record { lane = l; deed = deed.Enter c o y t vs }) (apartment_of k.rest (home s h l)) r f q w low (slot-place s h l k.rest r f q.0 (below c k.rest (openers h l) v) (g r m)))
    by-direct k (entered x a b) = absurd (some-none (admitted h c) x a (enter-fresh s h l c o y (deed.Enter c o y t vs) q.1 refl))

enter-packet : (s : Scenario) (h : List Entry) (l c o y : ℕ) (t : Option ℕ) (vs : List Value) (r : RefValue) → legal s (record { lane = l; deed = deed.Enter c o y t vs } ∷ h) → In r (carried (sent s h c)) → is_marshalled (route_of (issue h c)) ≡ true → arguments_gone (sight s h) c ≡ false → Backed s h (record { lane = l; deed = deed.Enter c o y t vs }) y r
enter-packet s h l c o y t vs r q m z g =
    let e : Entry = record { lane = l; deed = deed.Enter c o y t vs } in
    let p : ArgumentOf (books s h) c r = sent-argument s h c r q.0 z m in
    let k : Packet = packet (books s h) p.number in
    let there : k.outstanding ≡ true = not-gone k.outstanding (gone-none (is_gone (sight s h)) p.number ((books s h).arguments c) (and-false (is_marshalled (route_of (issue h c))) _ z g) p.member) in
    let of : Of k r = p.is there in
    λ live other.
    subst (λ (j : ℕ). 1 ≤ (entered_rows (owns s (e ∷ h)) (books s h) (map (λ p. Unmarshals y p) ((books s h).arguments c))).proxy y r.object j) of.iface
    (subst (λ (j : ℕ). 1 ≤ (entered_rows (owns s (e ∷ h)) (books s h) (map (λ p. Unmarshals y p) ((books s h).arguments c))).proxy y j k.iface) of.object
    (unmarshals-all (owns s (e ∷ h)) (books s h) y p.number k ((books s h).arguments c) refl p.member there (books-full s h)
    (subst (λ (j : ℕ). owns s (e ∷ h) j y ≡ false) (sym of.object) other)))

unread-sent : (a : Option Admission) (x : Option Ending) (vs : List Value) (r : RefValue) → In r (carried (unread_values a x vs)) → In r (carried vs)
unread-sent None None vs r m = m
unread-sent None (Some y) vs r m = absurd m
unread-sent (Some y) x vs r m = absurd m

no-more : (n c : ℕ) → c ≤ 0 + n → c ≤ n
no-more n c p = omega (arith, p)

enter-backed : (s : Scenario) (h : List Entry) (l c o y : ℕ) (t : Option ℕ) (vs : List Value) → Formed s → legal s (record { lane = l; deed = deed.Enter c o y t vs } ∷ h) → Secured s h → (r : RefValue) → In r (carried vs) → Backed s h (record { lane = l; deed = deed.Enter c o y t vs }) y r
enter-backed s h l c o y t vs f q w r m =
    let e : Entry = record { lane = l; deed = deed.Enter c o y t vs } in
    let z : Says s (sight s h) l (deed.Enter c o y t vs) = next-says s h l (deed.Enter c o y t vs) q.1 in
    let n : In r (carried (sent s h c)) = unread-sent (admitted h c) (ending s h c) (sent s h c) r (subst (λ (us : List Value). In r (carried us)) z.2 m) in
    let low : r.object ≤ objects h = carried-known (objects h) (faces s) (sent s h c) r ((legal-kept s h f q.0).sent c) n in
    by-route (next-tops s h e q) z.3 n low (route-is (route_of (issue h c)))
  where
    by-route : Tops (sight s h) l (deed.Enter c o y t vs) → arguments_gone (sight s h) c ≡ false → In r (carried (sent s h c)) → r.object ≤ objects h → (is_direct (route_of (issue h c)) ≡ true) ⊎ ((is_marshalled (route_of (issue h c)) ≡ true) ⊎ (route_of (issue h c) ≡ route.Refused)) → Backed s h (record { lane = l; deed = deed.Enter c o y t vs }) y r
    by-route (inl a) g n low p = absurd (not-enter (sight s h) l c o y t vs a)
    by-route (inr (inl a)) g n low (inl p) = enter-direct s h l c o y t vs r f q w low n p a.0
    by-route (inr (inr a)) g n low (inl p) = absurd (direct-post (route_of (issue h c)) p a.0)
    by-route (inr a) g n low (inr (inl p)) = enter-packet s h l c o y t vs r q n p g
    by-route (inr (inl a)) g n low (inr (inr p)) = absurd (some-is-none (ending s h c) ((refused-ends s h c q.0 p).1 (issued-some s h c q.0 (named-in-range s h (record { lane = l; deed = deed.Enter c o y t vs }) q).0 (no-more (calls h) c (named-in-range s h (record { lane = l; deed = deed.Enter c o y t vs }) q).1))) a.2)
    by-route (inr (inr a)) g n low (inr (inr p)) = absurd (refused-post (route_of (issue h c)) p a.0)

opens-same : (c o y x b : ℕ) → Opens (Enters c o y) ≡ Opens (Enters c x b) → y ≡ b
opens-same c o y x b e = cc

enter-passes : (s : Scenario) (h : List Entry) (l c o y : ℕ) (t : Option ℕ) (vs : List Value) → Formed s → legal s (record { lane = l; deed = deed.Enter c o y t vs } ∷ h) → Secured s h → (r : RefValue) → In r (carried vs) → B1 s h (record { lane = l; deed = deed.Enter c o y t vs }) c r
enter-passes s h l c o y t vs f q w r m = λ j x b z. subst (λ (a : ℕ). Backed s h (record { lane = l; deed = deed.Enter c o y t vs }) a r) (by-open j x b z) (enter-backed s h l c o y t vs f q w r m)
  where
    not-open : (j x b : ℕ) → Among (Enters c x b) (openers h j) → ⊥
    not-open j x b z = some-none (admitted h c) (admission_in c j b) (open-admitted s h q.0 j c x b z) (enter-fresh s h l c o y (deed.Enter c o y t vs) q.1 refl)

    by-open : (j x b : ℕ) → EitherOpen h (record { lane = l; deed = deed.Enter c o y t vs }) j c x b → y ≡ b
    by-open j x b (inl z) = absurd (not-open j x b z)
    by-open j x b (inr z) = elim (among-after c x b (effect_on j (record { lane = l; deed = deed.Enter c o y t vs })) (openers h j) z) as (λ _. y ≡ b) [
      | inl p ↦ absurd (not-open j x b p)
      | inr p ↦ opens-same c o y x b (opens-enter j c x b (record { lane = l; deed = deed.Enter c o y t vs }) p).1
    ]

-- ---- a Back

held-each : (P : RefValue → Type 0) (x : Option RefValue) → ((r : RefValue) → x ≡ Some r → P r) → HeldBy P x
held-each P None f = tt
held-each P (Some r) f = f r refl

pub none-reference : (v : Option Value) (r : RefValue) → v ≡ None → value_reference v ≡ Some r → ⊥
none-reference None r e p = cc
none-reference (Some v) r e p = cc

left-none-value : (x : Option Leaving) (v : Option Value) (r : RefValue) → x ≡ None → left_value x ≡ v → value_reference v ≡ Some r → ⊥
left-none-value x v r n e p = none-reference (left_value x) r (ap left_value n) (ap value_reference e ∙ p)

pub known-of : (n : ℕ) (x : Option RefValue) (r : RefValue) → Known n x → x ≡ Some r → r.object ≤ n
known-of n x r k e = subst (Known n) e k

back-direct : (s : Scenario) (h : List Entry) (l c : ℕ) (hr : HResult) (v : Option Value) (os : List Opener) (r : RefValue) → Formed s → legal s (record { lane = l; deed = deed.Back c hr v } ∷ h) → Secured s h → openers h l ≡ Waits c ∷ os → ending s h c ≡ Some (ByLeave hr v) → value_reference v ≡ Some r → is_direct (route_of (issue h c)) ≡ true → DirectAt s h l c os → Backed s h (record { lane = l; deed = deed.Back c hr v }) (apartment_of os (home s h l)) r
back-direct s h l c hr v os r f q w p n m z (pending a u k g) = absurd (left-none-value (left h c) v r (left-admitted s h c q.0 a) (left-value-of s h c hr v q.0 n) m)
back-direct s h l c hr v os r f q w p n m z (entered y a b) =
    let e : value_reference (left_value (left h c)) ≡ Some r = ap value_reference (left-value-of s h c hr v q.0 n) ∙ m in
    let k : (c ≤ calls h) × (lane_of (issue h c) ≡ l) = waits-issued s h l c q.0 (subst (λ (ys : List Opener). Among (Waits c) ys) (sym p) (inl refl)) in
    still-backed s h (record { lane = l; deed = deed.Back c hr v }) (apartment_of os (home s h l)) r f q w
    (known-of (objects h) (value_reference (left_value (left h c))) r (left-known s h c f q.0) e)
    (of_result c k.0 z
    (subst (λ (x : Option Admission). entered_in (apartment_of os (home s h l)) x ≡ true) (sym a) (subst (λ (j : ℕ). (y.apartment == j) ≡ true) b (same-number y.apartment)))
    (back-not-back s h (record { lane = l; deed = deed.Back c hr v }) c hr v q refl) e)

back-packet : (s : Scenario) (h : List Entry) (l c : ℕ) (hr : HResult) (v : Option Value) (r : RefValue) → legal s (record { lane = l; deed = deed.Back c hr v } ∷ h) → ending s h c ≡ Some (ByLeave hr v) → value_reference v ≡ Some r → is_marshalled (route_of (issue h c)) ≡ true → result_gone (sight s h) c ((books s h).result c) ≡ false → Backed s h (record { lane = l; deed = deed.Back c hr v }) (number_or_zero (running s h l)) r
back-packet s h l c hr v r q n m z g =
    let e : Entry = record { lane = l; deed = deed.Back c hr v } in
    let a : ℕ = number_or_zero (running s h l) in
    let u : ResultFor (books s h) c r = subst (ResultBy (books s h) (issue h c) c) n (results-of s h c q.0) z r m in
    let k : Packet = packet (books s h) u.number in
    let by : is_leave (ending s h c) ≡ true = ap is_leave n in
    let there : k.outstanding ≡ true = not-gone k.outstanding (and-false (is_leave (ending s h c)) _ by (subst (λ (x : Option ℕ). result_gone (sight s h) c x ≡ false) u.given g)) in
    let of : Of k r = u.is there in
    λ live other.
    subst (λ (b : Bool). 1 ≤ (entered_rows (owns s (e ∷ h)) (books s h) (back_rows a b ((books s h).result c))).proxy a r.object r.iface) (sym by)
    (subst (λ (x : Option ℕ). 1 ≤ (entered_rows (owns s (e ∷ h)) (books s h) (back_rows a true x)).proxy a r.object r.iface) (sym u.given)
    (subst (λ (j : ℕ). 1 ≤ (entered_rows (owns s (e ∷ h)) (books s h) (back_rows a true (Some u.number))).proxy a r.object j) of.iface
    (subst (λ (j : ℕ). 1 ≤ (entered_rows (owns s (e ∷ h)) (books s h) (back_rows a true (Some u.number))).proxy a j k.iface) of.object
    (unmarshals-bring (owns s (e ∷ h)) (books s h) a u.number there (books-full s h)
    (subst (λ (j : ℕ). owns s (e ∷ h) j a ≡ false) (sym of.object) other)))))

back-backed : (s : Scenario) (h : List Entry) (l c : ℕ) (hr : HResult) (v : Option Value) (os : List Opener) (r : RefValue) → Formed s → legal s (record { lane = l; deed = deed.Back c hr v } ∷ h) → Secured s h → openers h l ≡ Waits c ∷ os → value_reference v ≡ Some r → Backed s h (record { lane = l; deed = deed.Back c hr v }) (apartment_of os (home s h l)) r
back-backed s h l c hr v os r f q w p m = by-answer (next-says s h l (deed.Back c hr v) q.1).1 (route-is (route_of (issue h c)))
  where
    by-answer : (v ≡ None) ⊎ ((ending s h c ≡ Some (ByLeave hr v)) × (result_gone (sight s h) c ((books s h).result c) ≡ false)) → (is_direct (route_of (issue h c)) ≡ true) ⊎ ((is_marshalled (route_of (issue h c)) ≡ true) ⊎ (route_of (issue h c) ≡ route.Refused)) → Backed s h (record { lane = l; deed = deed.Back c hr v }) (apartment_of os (home s h l)) r
    by-answer (inl n) z = absurd (none-reference v r n m)
    by-answer (inr n) (inl z) = back-direct s h l c hr v os r f q w p n.0 m z (legal-direct s h l c os f q.0 (top-over os (openers h l) c p) z)
    by-answer (inr n) (inr (inl z)) = subst (λ (b : ℕ). Backed s h (record { lane = l; deed = deed.Back c hr v }) b r) (ap (λ (ys : List Opener). apartment_of ys (home s h l)) p) (back-packet s h l c hr v r q n.0 m z n.1)
    by-answer (inr n) (inr (inr z)) = absurd (subst NotLeft n.0 (refused-ends s h c q.0 z).0)

back-passes : (s : Scenario) (h : List Entry) (l c : ℕ) (hr : HResult) (v : Option Value) → Formed s → legal s (record { lane = l; deed = deed.Back c hr v } ∷ h) → Secured s h → HeldBy (TestOf (S1 s h (record { lane = l; deed = deed.Back c hr v })) (B1 s h (record { lane = l; deed = deed.Back c hr v })) (actor_in s (record { lane = l; deed = deed.Back c hr v } ∷ h) l)) (value_reference v)
back-passes s h l c hr v f q w =
    let e : Entry = record { lane = l; deed = deed.Back c hr v } in
    let k : WaitsTop (openers h l) c = waits-top (openers h l) c (back-own s h l c hr v q.1) in
    subst (λ (ys : List Opener). HeldBy (TestOf (S1 s h e) (B1 s h e) (actor (lane_sort s l) l ys)) (value_reference v)) (sym (openers-own h e ∙ ap (λ (ys : List Opener). without_first ys) k.is))
    (to-test s h e l k.rest (value_reference v) q (below c k.rest (openers h l) k.is) (home-remains s h e l refl)
    (held-each (Backed s h e (apartment_of k.rest (home s h l))) (value_reference v) (λ r m. back-backed s h l c hr v k.rest r f q w k.is m)))

arrives-deed : (s : Scenario) (h : List Entry) (l : ℕ) (d : Deed) (u : Actor) (r : Option Outcome) → Formed s → legal s (record { lane = l; deed = d } ∷ h) → Secured s h → ArrivesBy (S1 s h (record { lane = l; deed = d })) (B1 s h (record { lane = l; deed = d })) (acted u r d (scene s h)).destinations (actor_in s (record { lane = l; deed = d } ∷ h) l) d
arrives-deed s h l (deed.Enter c o y t vs) u r f q w = values-by (B1 s h (record { lane = l; deed = deed.Enter c o y t vs }) c) vs (λ x m. enter-passes s h l c o y t vs f q w x m)
arrives-deed s h l (deed.Back c hr v) u r f q w = (back-passes s h l c hr v f q w, (arrives-at s h (record { lane = l; deed = deed.Back c hr v }) (deed.Back c hr v) u r q (legal-base s h f q.0) (next-says s h l (deed.Back c hr v) q.1) refl).1)
arrives-deed s h l _ u r f q w = tt

pub arrives-law : (s : Scenario) (h : List Entry) (e : Entry) (u : Actor) (r : Option Outcome) → Formed s → legal s (e ∷ h) → Secured s h → ArrivesBy (S1 s h e) (B1 s h e) (acted u r e.deed (scene s h)).destinations (actor_in s (e ∷ h) e.lane) e.deed
arrives-law s h e u r f q w = arrives-deed s h e.lane e.deed u r f q w
