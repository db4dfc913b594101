-- What is true of every legal history of a formed scenario: nothing is said of a call before its Out, nor of
-- an object before it is made.
use Rattle.std.proofs.Common.{refl, ap, sym, subst, ◌∙◌, inl, arith, eqb-true}
use Rattle.std.specs.Prelude.{◌≡◌, ℕ, ◌+◌, ◌-◌, ◌≤◌, ◌<◌, ◌^◌, Bool, true, false, cond, ◌&&◌, ◌==◌, List, [], ◌∷◌, length, Option, Some, None, is_some}
use Rattle.com_base.specs.declared.hresult.HResult.{HResult}
use Rattle.com_base.specs.declared.value.Value.{Value}
use Rattle.com_deliveries.specs.Tables.{AreSources}
use Rattle.com_deliveries.specs.Book.{told, deliveries_in}
use Rattle.com_deliveries.specs.Delivered.{AreDeliveries}
use Rattle.com_deliveries.proofs.Events.{are-deliveries}
use Rattle.com_deliveries.proofs.Standing.{Stands}
use Rattle.com_deliveries.proofs.Stepping.{Lawful, NewIn, stands-first, stands-next}
use Rattle.com_model.specs.declared.deeds.Deed.{Deed}
use Rattle.com_model.specs.declared.deeds.Deed.TheVariants as deed
use Rattle.com_model.specs.declared.deeds.Entry.{Entry}
use Rattle.com_model.specs.declared.scenario.Scenario.{Scenario}
use Rattle.com_model.specs.declared.keeps.Issue.{Issue}
use Rattle.com_model.specs.declared.keeps.Leaving.{Leaving}
use Rattle.com_model.specs.declared.keeps.Making.{Making}
use Rattle.com_model.specs.declared.keeps.Opener.{Opener}
use Rattle.com_model.specs.declared.keeps.Opener.TheVariants.{Pumps, Waits, Enters}
use Rattle.com_model.specs.Answers.{is_S_OK}
use Rattle.com_model.specs.Lists.{first, is_number, number_or_zero}
use Rattle.com_model.specs.Apartments.{next_sta}
use Rattle.com_model.specs.Openers.{openers, top_call}
use Rattle.com_model.specs.Objects.{makes, one_more, objects}
use Rattle.com_model.specs.Calls.{issues, issue_or, issue, leaves, leaving_or, left, calls}
use Rattle.com_model.specs.Formed.{Formed}
use Rattle.com_model.specs.Rules.{legal}
use Rattle.com_model.proofs.Fines.{FineBy}
use Rattle.com_model.proofs.Onces.{Names, InRange, call_named, named-in-range}
use Rattle.com_model.proofs.Scenes.{faces}
use Rattle.com_laws_balance.proofs.Counts.{Among}
use Rattle.com_laws_balance.proofs.Makings.{fine-next}
use Rattle.com_laws_balance.proofs.Results.{more-calls}
use Rattle.com_laws_sources.specs.Histories.{first_number, first_reference, result_cookie, is_on, enter_values, given_to, Change, Takes, Loses, Stays, leaving, change, changed, sinks, one_taken, taken, at_enter, last, sends, with_next, reached, visited}
use Rattle.com_laws_sources.specs.Sinks.{first_between}
use Rattle.com_laws_sources.specs.Sources.{advise, unadvise}
use Rattle.com_laws_sources.proofs.Runs.{call-low}
use Rattle.com_laws_safety.proofs.Posted.{NewOut, next-new}

not-true : (b : Bool) → (b ≡ true → ⊥) → b ≡ false
not-true true g = absurd (g refl)
not-true false g = refl

low : (n m c : ℕ) → n ≤ m → m + 1 ≤ c → n + 1 ≤ c
low n m c p q = omega (arith, p, q)

above : (n k c : ℕ) → k ≤ n → n + 1 ≤ c → k ≡ c → ⊥
above n k c p q e = omega (arith, p, q, e)

-- ---- which call an entry names

enters : (s : Scenario) (h : List Entry) (e : Entry) (k o a : ℕ) (t : Option ℕ) (vs : List Value) → legal s (e ∷ h) → e.deed ≡ deed.Enter k o a t vs → k ≤ calls (e ∷ h)
enters s h e k o a t vs q d =
    let r : InRange (calls (e ∷ h)) k = subst (λ (x : Deed). Names (InRange (calls (e ∷ h))) (call_named x)) d (named-in-range s h e q) in r.1

leaves-low : (s : Scenario) (h : List Entry) (e : Entry) (k : ℕ) (hr : HResult) (v : Option Value) (bytes : Option (List ℕ)) → legal s (e ∷ h) → e.deed ≡ deed.Leave k hr v bytes → k ≤ calls (e ∷ h)
leaves-low s h e k hr v bytes q d =
    let r : InRange (calls (e ∷ h)) k = subst (λ (x : Deed). Names (InRange (calls (e ∷ h))) (call_named x)) d (named-in-range s h e q) in r.1

-- ---- a call before its Out

no-values : (n c : ℕ) (d : Deed) (x : List Value) → ((k o a : ℕ) (t : Option ℕ) (vs : List Value) → d ≡ deed.Enter k o a t vs → k ≤ n) → n + 1 ≤ c → x ≡ [] → enter_values d c x ≡ []
no-values n c (deed.Enter k o a t vs) x f p e = ap (λ (b : Bool). cond b vs x) (not-true (k == c) (λ z. above n k c (f k o a t vs refl) p (eqb-true k c z))) ∙ e
no-values n c _ x f p e = e

given-past : (s : Scenario) (h : List Entry) (c : ℕ) → legal s h → calls h + 1 ≤ c → given_to h c ≡ []
given-past s [] c q p = refl
given-past s (e ∷ h) c q p =
    no-values (calls (e ∷ h)) c e.deed (given_to h c) (λ k o a t vs d. enters s h e k o a t vs q d) p (given-past s h c q.0 (low (calls h) (calls (e ∷ h)) c (more-calls s h e) p))

no-leave : (n c : ℕ) (d : Deed) (x : Option Leaving) → ((k : ℕ) (hr : HResult) (v : Option Value) (bytes : Option (List ℕ)) → d ≡ deed.Leave k hr v bytes → k ≤ n) → n + 1 ≤ c → is_some x ≡ false → is_some (leaving_or (leaves d) c x) ≡ false
no-leave n c (deed.Leave k hr v bytes) x f p e = ap (λ (b : Bool). is_some (cond b (Some (record { call = k; hr = hr; value = v })) x)) (not-true (k == c) (λ z. above n k c (f k hr v bytes refl) p (eqb-true k c z))) ∙ e
no-leave n c _ x f p e = e

left-past : (s : Scenario) (h : List Entry) (c : ℕ) → legal s h → calls h + 1 ≤ c → is_some (left h c) ≡ false
left-past s [] c q p = refl
left-past s (e ∷ h) c q p =
    no-leave (calls (e ∷ h)) c e.deed (left h c) (λ k hr v bytes d. leaves-low s h e k hr v bytes q d) p (left-past s h c q.0 (low (calls h) (calls (e ∷ h)) c (more-calls s h e) p))

no-enter : (n c now : ℕ) (d : Deed) (x : ℕ) → ((k o a : ℕ) (t : Option ℕ) (vs : List Value) → d ≡ deed.Enter k o a t vs → k ≤ n) → n + 1 ≤ c → x ≡ 0 → at_enter d c now x ≡ 0
no-enter n c now (deed.Enter k o a t vs) x f p e = ap (λ (b : Bool). cond b now x) (not-true (k == c) (λ z. above n k c (f k o a t vs refl) p (eqb-true k c z))) ∙ e
no-enter n c now _ x f p e = e

last-past : (s : Scenario) (h : List Entry) (o i c : ℕ) → legal s h → calls h + 1 ≤ c → last h o i c ≡ 0
last-past s [] o i c q p = refl
last-past s (e ∷ h) o i c q p =
    no-enter (calls (e ∷ h)) c (taken h o i) e.deed (last h o i c) (λ k x a t vs d. enters s h e k x a t vs q d) p (last-past s h o i c q.0 (low (calls h) (calls (e ∷ h)) c (more-calls s h e) p))

-- ---- the innermost body of a lane

top-by : (s : Scenario) (h : List Entry) (l c : ℕ) (os : List Opener) → legal s h → openers h l ≡ os → top_call (first os) ≡ Some c → c ≤ calls h
top-by s h l c (Enters k o a ∷ os) q e t = call-low s h l c o a q (subst (λ (xs : List Opener). Among (Enters c o a) xs) (sym e) (inl (ap (λ (n : ℕ). Enters n o a) (same t))))
  where
    same : Some k ≡ Some c → k ≡ c
    same t = cc
top-by s h l c [] q e t = cc
top-by s h l c (Pumps n ∷ os) q e t = cc
top-by s h l c (Waits n ∷ os) q e t = cc

top-low : (s : Scenario) (h : List Entry) (l c : ℕ) → legal s h → top_call (first (openers h l)) ≡ Some c → c ≤ calls h
top-low s h l c q t = top-by s h l c (openers h l) q refl t

not-number : (n c : ℕ) (x : Option ℕ) → ((k : ℕ) → x ≡ Some k → k ≤ n) → n + 1 ≤ c → is_number c x ≡ false
not-number n c None f p = refl
not-number n c (Some k) f p = not-true (c == k) (λ z. above n k c (f k refl) p (sym (eqb-true c k z)))

no-send : (s : Scenario) (h : List Entry) (l c : ℕ) (d : Deed) → legal s h → calls h + 1 ≤ c → sends h l c d ≡ false
no-send s h l c (deed.Out k o i m r cause bytes) q p = not-number (calls h) c (top_call (first (openers h l))) (λ k t. top-low s h l k q t) p
no-send s h l c _ q p = refl

visited-past : (s : Scenario) (h : List Entry) (o i c : ℕ) → legal s h → calls h + 1 ≤ c → visited h o i c ≡ []
visited-past s [] o i c q p = refl
visited-past s (e ∷ h) o i c q p =
    let k : calls h + 1 ≤ c = low (calls h) (calls (e ∷ h)) c (more-calls s h e) p in
    ap (λ (b : Bool). with_next b (first_between (reached (visited h o i c)) (last h o i c) (sinks h o i)) (visited h o i c)) (no-send s h e.lane c e.deed q.0 k) ∙ visited-past s h o i c q.0 k

-- ---- an object before it is made

one-up : (x : Option Making) (n : ℕ) → n ≤ one_more x n
one-up None n = omega arith
one-up (Some m) n = omega arith

more-objects : (h : List Entry) (e : Entry) → objects h ≤ objects (e ∷ h)
more-objects h e = one-up (makes e.deed) (objects h)

target-by : (n m a l c : ℕ) (d : Deed) (x : Option Issue) (y : Issue) → FineBy n m a d → ((z : Issue) → x ≡ Some z → number_or_zero z.object ≤ n) → issue_or (issues l d) c x ≡ Some y → number_or_zero y.object ≤ n
target-by n m a l c (deed.Out k o i j r cause bytes) x y f g e = elim (k == c) as (λ b. cond b (Some (record { call = k; lane = l; object = o; iface = i; method = j; route = r; cause = cause })) x ≡ Some y → number_or_zero y.object ≤ n) [
  | true ↦ λ z. subst (λ (u : Issue). number_or_zero u.object ≤ n) (same z) f
  | false ↦ λ z. g y z
] e
  where
    same : {u v : Issue} → Some u ≡ Some v → u ≡ v
    same z = cc
target-by n m a l c _ x y f g e = g y e

up : (k n m : ℕ) → k ≤ n → n ≤ m → k ≤ m
up k n m p q = omega (arith, p, q)

target-low : (s : Scenario) (h : List Entry) (c : ℕ) (y : Issue) → Formed s → legal s h → issue h c ≡ Some y → number_or_zero y.object ≤ objects h
target-low s [] c y f q e = cc
target-low s (e ∷ h) c y f q w =
    up (number_or_zero y.object) (objects h) (objects (e ∷ h))
    (target-by (objects h) (faces s) (next_sta h) e.lane c e.deed (issue h c) y (fine-next s h e f q) (λ z p. target-low s h c z f q.0 p) w) (more-objects h e)

not-on : (x : Option Issue) (o i m n : ℕ) → ((y : Issue) → x ≡ Some y → number_or_zero y.object ≤ n) → n + 1 ≤ o → is_on x o i m ≡ false
not-on None o i m n f p = refl
not-on (Some y) o i m n f p = ap (λ (b : Bool). b && (y.iface == i && y.method == m)) (by-object y.object (f y refl))
  where
    by-object : (u : Option ℕ) → number_or_zero u ≤ n → is_number o u ≡ false
    by-object None g = refl
    by-object (Some k) g = not-true (o == k) (λ z. above n k o g p (sym (eqb-true o k z)))

no-leaving : (h : List Entry) (o i c : ℕ) (ok : Bool) (v : Option Value) → is_on (issue h c) o i advise ≡ false → is_on (issue h c) o i unadvise ≡ false → leaving h o i c ok v ≡ Stays
no-leaving h o i c false v p r = refl
no-leaving h o i c true v p r =
    let x : Change = Takes (record { cookie = result_cookie v; held = first_reference (given_to h c) }) in
    let y : Change = Loses (first_number (given_to h c)) in
    ap (λ (b : Bool). cond b x (cond (is_on (issue h c) o i unadvise) y Stays)) p ∙ ap (λ (b : Bool). cond b y Stays) r

no-change : (s : Scenario) (h : List Entry) (o i : ℕ) (d : Deed) → Formed s → legal s h → objects h + 1 ≤ o → change h o i d ≡ Stays
no-change s h o i (deed.Leave c hr v bytes) f q p =
    no-leaving h o i c (is_S_OK hr) v (not-on (issue h c) o i advise (objects h) (λ y e. target-low s h c y f q e) p) (not-on (issue h c) o i unadvise (objects h) (λ y e. target-low s h c y f q e) p)
no-change s h o i _ f q p = refl

sinks-past : (s : Scenario) (h : List Entry) (o i : ℕ) → Formed s → legal s h → objects h + 1 ≤ o → sinks h o i ≡ []
sinks-past s [] o i f q p = refl
sinks-past s (e ∷ h) o i f q p =
    let k : objects h + 1 ≤ o = low (objects h) (objects (e ∷ h)) o (more-objects h e) p in
    ap (λ (x : Change). changed x (sinks h o i)) (no-change s h o i e.deed f q.0 k) ∙ sinks-past s h o i f q.0 k

taken-past : (s : Scenario) (h : List Entry) (o i : ℕ) → Formed s → legal s h → objects h + 1 ≤ o → taken h o i ≡ 0
taken-past s [] o i f q p = refl
taken-past s (e ∷ h) o i f q p =
    let k : objects h + 1 ≤ o = low (objects h) (objects (e ∷ h)) o (more-objects h e) p in
    ap (λ (x : Change). one_taken x (taken h o i)) (no-change s h o i e.deed f q.0 k) ∙ taken-past s h o i f q.0 k

one-taken-up : (x : Change) (n k : ℕ) → n ≤ k → one_taken x n ≤ k + 1
one-taken-up (Takes x) n k p = omega (arith, p)
one-taken-up (Loses n) m k p = omega (arith, p)
one-taken-up Stays n k p = omega (arith, p)

long : (h : List Entry) (e : Entry) → length (e ∷ h) ≡ length h + 1
long h e = omega arith

taken-few : (h : List Entry) (o i : ℕ) → taken h o i ≤ length h
taken-few [] o i = omega arith
taken-few (e ∷ h) o i = subst (λ (n : ℕ). taken (e ∷ h) o i ≤ n) (sym (long h e)) (one-taken-up (change h o i e.deed) (taken h o i) (length h) (taken-few h o i))

room-by : (n k m : ℕ) → n ≤ k → k < m → n + 1 ≤ m
room-by n k m p q = omega (arith, p, q)

wide : 2 ^ 63 ≤ 2 ^ 64 - 1
wide = omega arith

lawful : (s : Scenario) (h : List Entry) → Formed s → legal s h → length h < 2 ^ 63 → Lawful s h
lawful s h f q n = record {
  target = λ c y e. target-low s h c y f q e;
  no_values = λ c p. given-past s h c q p;
  not_left = λ c p. left-past s h c q p;
  no_last = λ o i c p. last-past s h o i c q p;
  none_visited = λ o i c p. visited-past s h o i c q p;
  no_sinks = λ o i p. sinks-past s h o i f q p;
  none_taken = λ o i p. taken-past s h o i f q p;
  top = λ l c t. top-low s h l c q t;
  room = λ o i. up (taken h o i + 1) (2 ^ 63) (2 ^ 64 - 1) (room-by (taken h o i) (length h) (2 ^ 63) (taken-few h o i) n) wide;
}

new-by : (n m a k : ℕ) (d : Deed) → FineBy n m a d → NewOut k d → NewIn n k d
new-by n m a k (deed.Made (Some o) (Some b) c i hr) f g = f.0
new-by n m a k (deed.Made (Some o) None c i hr) f g = f
new-by n m a k (deed.Made None b c i hr) f g = tt
new-by n m a k (deed.Out c o i j r cause bytes) f g = g
new-by n m a k _ f g = tt

shorter : (h : List Entry) (e : Entry) (m : ℕ) → length (e ∷ h) < m → length h < m
shorter h e m p = omega (arith, p)

-- ---- the book of a legal history

pub stands : (s : Scenario) (table : List (Option ℕ)) (h : List Entry) → AreSources s table → Formed s → legal s h → length h < 2 ^ 63 → Stands s h (told table h)
stands s table [] src f q n = stands-first s
stands s table (e ∷ h) src f q n =
    let k : length h < 2 ^ 63 = shorter h e (2 ^ 63) n in
    stands-next s table h e (told table h) src (lawful s h f q.0 k)
    (new-by (objects h) (faces s) (next_sta h) (calls h) e.deed (fine-next s h e f q) (next-new s h e.lane e.deed q.1)) (stands s table h src f q.0 k)

pub told-deliveries : (s : Scenario) (table : List (Option ℕ)) (h : List Entry) → AreSources s table → Formed s → legal s h → length h < 2 ^ 63 → AreDeliveries s h (deliveries_in (told table h))
told-deliveries s table h src f q n = are-deliveries s h (told table h) (stands s table h src f q n)
