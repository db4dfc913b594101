-- The events that are read of the book of a legal history.
use Rattle.std.proofs.Common.{refl, ap, sym, subst, ◌∙◌, inl, inr, arith, eqb-true}
use Rattle.std.proofs.lemmas.List.Elements.{All-cons, All-nil}
use Rattle.std.specs.Prelude.{◌≡◌, ℕ, zero, suc, ◌+◌, ◌<◌, ◌≤◌, Bool, true, false, cond, ◌&&◌, ◌==◌, List, [], ◌∷◌, All, map, Option, Some, None, is_some, option_map, slice_get}
use Rattle.com_deliveries.specs.declared.Delivery.{Delivery}
use Rattle.com_deliveries.specs.declared.sources.Source.{Source}
use Rattle.com_deliveries.specs.declared.tally.Call.{Call}
use Rattle.com_deliveries.specs.Book.{Book, has_iface, on_source, is_event, events, delivery, deliveries_in}
use Rattle.com_deliveries.specs.Delivered.{cookie_of, IsDelivery, CallsRise, IsListed, AreDeliveries}
use Rattle.com_deliveries.specs.Rows.{row_at}
use Rattle.com_deliveries.proofs.Leaving.{own-number}
use Rattle.com_deliveries.proofs.RowReads.{row-is}
use Rattle.com_deliveries.proofs.Standing.{ObjectFor, CallFor, RowFor, Stands, kept-of, event-own}
use Rattle.com_model.specs.declared.deeds.Entry.{Entry}
use Rattle.com_model.specs.declared.scenario.Scenario.{Scenario}
use Rattle.com_model.specs.declared.keeps.Issue.{Issue}
use Rattle.com_model.specs.declared.keeps.Making.{Making}
use Rattle.com_model.specs.Lists.{is_number, number_or_zero}
use Rattle.com_model.specs.Objects.{making, class_of}
use Rattle.com_model.specs.Calls.{issue, left}
use Rattle.com_laws_sources.specs.Histories.{is_on, given_to, sinks, taken, last, visited}
use Rattle.com_laws_sources.specs.Sources.{IsSource, fire}

-- ---- bits

and-left : (a b : Bool) → (a && b) ≡ true → a ≡ true
and-left true b e = refl
and-left false b e = cc

and-right : (a b : Bool) → (a && b) ≡ true → b ≡ true
and-right true b e = e
and-right false b e = cc

both : (a b : Bool) → a ≡ true → b ≡ true → (a && b) ≡ true
both true true p q = refl
both true false p q = cc
both false b p q = cc

number-is : (n : ℕ) (x : Option ℕ) → is_number n x ≡ true → x ≡ Some n
number-is n None e = cc
number-is n (Some m) e = ap (λ (k : ℕ). Some k) (sym (eqb-true n m e))

is-number : (n : ℕ) (x : Option ℕ) → x ≡ Some n → is_number n x ≡ true
is-number n x e = ap (is_number n) e ∙ same n
  where
    same : (n : ℕ) → (n == n) ≡ true
    same n = grind arith

-- ---- a row that is an event

record OnSource (s : Scenario) (h : List Entry) (rows : List Source) (r : Call) : Type 0 where
  row : Source
  is : row_at rows r.object ≡ Some row
  source : IsSource s (class_of h r.object) r.iface

on-source-by : (s : Scenario) (h : List Entry) (rows : List Source) (r : Call) (q : Option Source) (m : Option Making) → row_at rows r.object ≡ q → making h r.object ≡ m → ObjectFor s (sinks h r.object) (taken h r.object) q m
    → has_iface q r.iface ≡ true → OnSource s h rows r
on-source-by s h rows r (Some q) (Some m) e d w t = record {
  row = q;
  is = e;
  source = subst (λ (k : ℕ). IsSource s k r.iface) (sym (ap (λ (x : Option Making). number_or_zero (option_map (λ (y : Making). y.class) x)) d)) (w.found r.iface (number-is r.iface q.iface t));
}
on-source-by s h rows r None m e d w t = cc
on-source-by s h rows r (Some q) None e d w t = absurd w

on-source : (s : Scenario) (h : List Entry) (b : Book) (r : Call) → Stands s h b → on_source b.objects r ≡ true → OnSource s h b.objects r
on-source s h b r st t = on-source-by s h b.objects r (row_at b.objects r.object) (making h r.object) refl refl (st.objects r.object) t

-- The row of the call with this number.
record Known (s : Scenario) (h : List Entry) (c : ℕ) (r : Call) : Type 0 where
  of : Issue
  is : issue h c ≡ Some of
  row : RowFor s c of (class_of h (number_or_zero of.object)) (given_to h c) (is_some (left h c)) (last h (number_or_zero of.object) of.iface c) (visited h (number_or_zero of.object) of.iface c) r

known-by : (s : Scenario) (h : List Entry) (c : ℕ) (r : Call) (x : Option Call) (y : Option Issue) → x ≡ Some r → issue h c ≡ y
    → CallFor s c (class_of h) (given_to h c) (is_some (left h c)) (λ o i. last h o i c) (λ o i. visited h o i c) x y → Known s h c r
known-by s h c r (Some q) (Some y) e d w = record { of = y; is = d; row = subst (λ (z : Call). RowFor s c y (class_of h (number_or_zero y.object)) (given_to h c) (is_some (left h c)) (last h (number_or_zero y.object) y.iface c) (visited h (number_or_zero y.object) y.iface c) z) (same e) w }
  where
    same : Some q ≡ Some r → q ≡ r
    same e = cc
known-by s h c r None y e d w = cc
known-by s h c r (Some q) None e d w = absurd w

known : (s : Scenario) (h : List Entry) (b : Book) (c : ℕ) (r : Call) → Stands s h b → row_at b.calls c ≡ Some r → Known s h c r
known s h b c r st e = known-by s h c r (row_at b.calls c) (issue h c) e refl (st.calls c)

delivered : (s : Scenario) (h : List Entry) (b : Book) (c : ℕ) (r : Call) → Stands s h b → Known s h c r → on_source b.objects r ≡ true → (r.method == fire) ≡ true → r.has_left ≡ true → IsDelivery s h (delivery r)
delivered s h b c r st k on me le =
    let o : OnSource s h b.objects r = on-source s h b r st on in
    let w : RowFor s c k.of (class_of h (number_or_zero k.of.object)) (given_to h c) (is_some (left h c)) (last h (number_or_zero k.of.object) k.of.iface c) (visited h (number_or_zero k.of.object) k.of.iface c) r = k.row in
    let mine : k.of.object ≡ Some r.object = own-number b.objects r.object k.of.object o.row w.object o.is in
    let method : k.of.method ≡ fire = sym w.method ∙ eqb-true r.method fire me in
    let source : IsSource s (class_of h (number_or_zero k.of.object)) k.of.iface =
    subst (λ (x : ℕ). IsSource s (class_of h x) k.of.iface) w.object (subst (λ (i : ℕ). IsSource s (class_of h r.object) i) w.iface o.source) in
    record {
      iface = r.iface;
      event = record {
        source = o.source;
        fires = ap (λ (n : ℕ). is_on (issue h n) r.object r.iface fire) w.call ∙ ap (λ (y : Option Issue). is_on y r.object r.iface fire) k.is
            ∙ both (is_number r.object k.of.object) (k.of.iface == r.iface && k.of.method == fire) (is-number r.object k.of.object mine)
            (both (k.of.iface == r.iface) (k.of.method == fire) (ap (λ (i : ℕ). i == r.iface) (sym w.iface) ∙ same r.iface) (ap (λ (n : ℕ). n == fire) method ∙ same fire));
      };
      left = ap (λ (n : ℕ). is_some (left h n)) w.call ∙ sym w.left ∙ le;
      cookies = (w.got source method).1 ∙ ap (λ (n : ℕ). map cookie_of (visited h n k.of.iface c)) (sym w.object)
          ∙ ap (λ (n : ℕ). map cookie_of (visited h r.object n c)) (sym w.iface) ∙ ap (λ (n : ℕ). map cookie_of (visited h r.object r.iface n)) (sym w.call);
    }
  where
    same : (n : ℕ) → (n == n) ≡ true
    same n = grind arith

-- ---- all rows

record GoodRow (s : Scenario) (h : List Entry) (objs : List Source) (c : ℕ) (r : Call) : Type 0 where
  number : r.call ≡ c
  good : (is_event objs r && r.has_left) ≡ true → IsDelivery s h (delivery r)

abbrev EachRow : Scenario → List Entry → List Source → ℕ → List Call → Type 0
EachRow s h objs n [] = Unit {0}
EachRow s h objs n (r ∷ rs) = GoodRow s h objs (n + 1) r × EachRow s h objs (n + 1) rs

good-row : (s : Scenario) (h : List Entry) (b : Book) (c : ℕ) (r : Call) → Stands s h b → row_at b.calls c ≡ Some r → GoodRow s h b.objects c r
good-row s h b c r st e =
    let k : Known s h c r = known s h b c r st e in record {
      number = k.row.call;
      good = λ t.
          let ev : is_event b.objects r ≡ true = and-left (is_event b.objects r) r.has_left t in
          delivered s h b c r st k (and-left (on_source b.objects r) (r.method == fire) ev) (and-right (on_source b.objects r) (r.method == fire) ev) (and-right (is_event b.objects r) r.has_left t);
    }

rows-good : (s : Scenario) (h : List Entry) (objs : List Source) (rows : List Call) (n : ℕ) → ((k : ℕ) (r : Call) → slice_get rows k ≡ Some r → GoodRow s h objs (n + k + 1) r) → EachRow s h objs n rows
rows-good s h objs [] n f = tt
rows-good s h objs (r ∷ rs) n f = (
  subst (λ (c : ℕ). GoodRow s h objs c r) (first-is n) (f zero r refl),
  rows-good s h objs rs (n + 1) (λ k x e. subst (λ (c : ℕ). GoodRow s h objs c x) (next-is n k) (f (suc k) x e)),
)
  where
    first-is : (n : ℕ) → n + zero + 1 ≡ n + 1
    first-is n = omega arith

    next-is : (n k : ℕ) → n + suc k + 1 ≡ n + 1 + k + 1
    next-is n k = omega arith

each-of : (s : Scenario) (h : List Entry) (objs : List Source) (rows : List Call) (n : ℕ) → EachRow s h objs n rows → All (IsDelivery s h) (events objs rows)
each-of s h objs [] n f = All-nil (IsDelivery s h)
each-of s h objs (r ∷ rs) n f =
    elim (is_event objs r && r.has_left) as (λ t. (is_event objs r && r.has_left) ≡ t → All (IsDelivery s h) (cond t (delivery r ∷ events objs rs) (events objs rs))) [
      | true ↦ λ e. All-cons (IsDelivery s h) (delivery r) (events objs rs) (f.0.good e) (each-of s h objs rs (n + 1) f.1)
      | false ↦ λ e. each-of s h objs rs (n + 1) f.1
    ] refl

rise-of : (s : Scenario) (h : List Entry) (objs : List Source) (rows : List Call) (m n : ℕ) → m ≤ n → EachRow s h objs n rows → CallsRise m (events objs rows)
rise-of s h objs [] m n l f = tt
rise-of s h objs (r ∷ rs) m n l f =
    let number : r.call ≡ n + 1 = f.0.number in
    elim (is_event objs r && r.has_left) as (λ t. CallsRise m (cond t (delivery r ∷ events objs rs) (events objs rs))) [
      | true ↦ (higher r.call number, rise-of s h objs rs r.call (n + 1) (same-or-less r.call number) f.1)
      | false ↦ rise-of s h objs rs m (n + 1) later f.1
    ]
  where
    higher : (c : ℕ) → c ≡ n + 1 → m < c
    higher c e = omega (arith, l, e)

    same-or-less : (c : ℕ) → c ≡ n + 1 → c ≤ n + 1
    same-or-less c e = omega (arith, e)

    later : m ≤ n + 1
    later = omega (arith, l)

listed-here : (objs : List Source) (x r : Call) (rs : List Call) → Some x ≡ Some r → (is_event objs r && r.has_left) ≡ true → IsListed r.call (events objs (x ∷ rs))
listed-here objs x r rs e t =
    let z : x ≡ r = same e in
    subst (λ (y : Call). IsListed r.call (events objs (y ∷ rs))) (sym z)
    (subst (λ (b : Bool). IsListed r.call (cond b (delivery r ∷ events objs rs) (events objs rs))) (sym t) (inl refl))
  where
    same : Some x ≡ Some r → x ≡ r
    same e = cc

listed-more : (c : ℕ) (d : Delivery) (t : Bool) (ds : List Delivery) → IsListed c ds → IsListed c (cond t (d ∷ ds) ds)
listed-more c d true ds m = inr m
listed-more c d false ds m = m

listed-of : (objs : List Source) (rows : List Call) (k : ℕ) (r : Call) → slice_get rows k ≡ Some r → (is_event objs r && r.has_left) ≡ true → IsListed r.call (events objs rows)
listed-of objs [] k r e t = cc
listed-of objs (x ∷ rs) zero r e t = listed-here objs x r rs e t
listed-of objs (x ∷ rs) (suc k) r e t = listed-more r.call (delivery x) (is_event objs x && x.has_left) (events objs rs) (listed-of objs rs k r e t)

listed-at : (objs : List Source) (rows : List Call) (c : ℕ) (r : Call) → row_at rows c ≡ Some r → (is_event objs r && r.has_left) ≡ true → IsListed r.call (events objs rows)
listed-at objs rows zero r e t = cc
listed-at objs rows (suc k) r e t = listed-of objs rows k r (sym (row-is rows k) ∙ e) t

-- ---- an event that left

event-by : (s : Scenario) (h : List Entry) (b : Book) (o i c : ℕ) (x : Option Call) (y : Option Issue) → Stands s h b → row_at b.calls c ≡ x
    → CallFor s c (class_of h) (given_to h c) (is_some (left h c)) (λ o i. last h o i c) (λ o i. visited h o i c) x y
    → IsSource s (class_of h o) i → is_on y o i fire ≡ true → is_some (left h c) ≡ true → IsListed c (events b.objects b.calls)
event-by s h b o i c (Some r) (Some y) st e w p t le =
    let mine : y.object ≡ Some o = number-is o y.object (and-left (is_number o y.object) (y.iface == i && y.method == fire) t) in
    let rest : (y.iface == i && y.method == fire) ≡ true = and-right (is_number o y.object) (y.iface == i && y.method == fire) t in
    let ev : is_event b.objects r ≡ true =
    event-own s b.objects o i (taken h o i) (sinks h o i) r (kept-of s h b st o i p) (w.object ∙ ap number_or_zero mine)
    (w.iface ∙ eqb-true y.iface i (and-left (y.iface == i) (y.method == fire) rest)) (w.method ∙ eqb-true y.method fire (and-right (y.iface == i) (y.method == fire) rest)) in
    subst (λ (n : ℕ). IsListed n (events b.objects b.calls)) w.call
    (listed-at b.objects b.calls c r e (both (is_event b.objects r) r.has_left ev (w.left ∙ le)))
event-by s h b o i c x None st e w p t le = cc
event-by s h b o i c None (Some y) st e w p t le = absurd w

pub are-deliveries : (s : Scenario) (h : List Entry) (b : Book) → Stands s h b → AreDeliveries s h (deliveries_in b)
are-deliveries s h b st =
    let f : EachRow s h b.objects 0 b.calls = rows-good s h b.objects b.calls 0 (λ k r e. good-row s h b (0 + k + 1) r st (row-of k r e)) in record {
      each = each-of s h b.objects b.calls 0 f;
      rise = rise-of s h b.objects b.calls 0 0 (omega arith) f;
      all = λ o i c p le. event-by s h b o i c (row_at b.calls c) (issue h c) st refl (st.calls c) p.source p.fires le;
    }
  where
    one-later : (k : ℕ) → suc k ≡ 0 + k + 1
    one-later k = omega arith

    row-of : (k : ℕ) (r : Call) → slice_get b.calls k ≡ Some r → row_at b.calls (0 + k + 1) ≡ Some r
    row-of k r e = subst (λ (c : ℕ). row_at b.calls c ≡ Some r) (one-later k) (row-is b.calls k ∙ e)
