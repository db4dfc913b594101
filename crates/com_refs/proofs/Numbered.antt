-- The numbers of a report, from what the tables count: each proxy, packet, cookie and counter is of one interface.
use Rattle.std.proofs.Common.{◌≡◌, ℕ, zero, suc, Bool, true, false, eqb, cond, not, ◌&&◌, ◌+◌, ◌<◌, ◌≤◌, List, [], ◌∷◌, length, refl, sym, ◌∙◌, arith, eqb-true, inl, inr}
use Rattle.std.proofs.lemmas.Bool.{cases_lt, false_from_ne_true}
use Rattle.std.proofs.lemmas.Grind.{common_steps}
use Rattle.std.specs.Prelude.{Option, None, Some, map, sum_by}
use Rattle.com_base.specs.declared.value.RefValue.{RefValue}
use Rattle.com_base.specs.declared.value.MarshalMode.{MarshalMode}
use Rattle.com_base.specs.declared.value.MarshalMode.TheVariants as marshal
use Rattle.com_packets.specs.declared.Packet as P
use Rattle.com_packets.specs.Sums.{normal_for, normal_sum}
use Rattle.com_proxy.specs.declared.ProxyRow.{ProxyRow}
use Rattle.com_proxy.specs.Rows.{is_for, public_of, public_any, public_sum}
use Rattle.com_slots.specs.Table.{held_in}
use Rattle.com_stub.specs.declared.counters.CounterRow.{CounterRow}
use Rattle.com_stub.specs.CounterRows as counters
use Rattle.com_stub.proofs.CounterLemmas.{index_in_range, row_at_index, counter_keys}
use Rattle.com_refs_books.specs.Counting.{sum_below}
use Rattle.com_refs_books.proofs.Sums.{sum-same, sum-changed, sum-nothing}
use Rattle.com_refs_books.specs.Changes.{packet_holds_of, cookie_holds_of, is_normal, in_normal, in_table, in_cookie}
use Rattle.com_refs_books.specs.declared.keeps.Packet.{Packet}
use Rattle.com_refs_holders.specs.Tables.{packet_read, cookie_read}
use Rattle.com_refs_holders.specs.Places.{has_row, distinct}
use Rattle.com_refs_holders.proofs.Rowed.{no_row_public}

-- ---- sums

pub sum-add : (n : ℕ) (f g : ℕ → ℕ) → sum_below n (λ a. f a + g a) ≡ sum_below n f + sum_below n g
sum-add zero f g = refl
sum-add (suc n) f g = omega (arith, sum-add n f g)

pub sum_swap : (n m : ℕ) (f : ℕ → ℕ → ℕ) → sum_below n (λ a. sum_below m (λ i. f a i)) ≡ sum_below m (λ i. sum_below n (λ a. f a i))
sum_swap zero m f = sym (sum-nothing m (λ i. 0) (λ k. refl))
sum_swap (suc n) m f = omega (arith, sum_swap n m f, sum-add m (λ i. sum_below n (λ a. f a i)) (λ i. f n i))

-- one number of all
pick : (m j r : ℕ) (e : Bool) → j < m → sum_below m (λ i. cond (e && eqb j i) r 0) ≡ cond e r 0
pick m j r false h = sum-nothing m (λ i. 0) (λ k. refl)
pick m j r true h =
    let others : (k : ℕ) → (k ≡ j → ⊥) → 0 ≡ cond (eqb j k) r 0 = λ k other. grind (arith, common_steps, other) in
    let one : sum_below m (λ i. cond (eqb j i) r 0) + 0 ≡ sum_below m (λ i. 0) + cond (eqb j j) r 0 = sum-changed m j (λ i. 0) (λ i. cond (eqb j i) r 0) h others in
    let here : cond (eqb j j) r 0 ≡ r = grind (arith, common_steps) in
    omega (arith, one, here, sum-nothing m (λ i. 0) (λ k. refl))

-- ---- proxies

split-row : (r : ProxyRow) (rs : List ProxyRow) (a o i : ℕ) → distinct (r ∷ rs) ≡ true → public_of (r ∷ rs) a o i ≡ cond (is_for a o i r) r.public 0 + public_of rs a o i
split-row r rs a o i d = elim (is_for a o i r) as (λ y. is_for a o i r ≡ y → public_of (r ∷ rs) a o i ≡ cond y r.public 0 + public_of rs a o i) [
  | true ↦ λ y.
      let eo : r.object ≡ o = eqb-true r.object o (grind (arith, common_steps, y)) in
      let ea : r.apartment ≡ a = eqb-true r.apartment a (grind (arith, common_steps, y)) in
      let ei : r.iface ≡ i = eqb-true r.iface i (grind (arith, common_steps, y)) in
      let none : has_row rs r.apartment r.object r.iface ≡ false = grind (arith, common_steps, d) in
      let nothing : public_of rs a o i ≡ 0 = no_row_public rs a o i (rw (← ea, ← eo, ← ei) none) in
      grind (arith, common_steps, y, nothing)
  | false ↦ λ y. grind (arith, common_steps, y)
] refl

by-key : (x y z : Bool) (r : ℕ) → cond (x && (y && z)) r 0 ≡ cond ((x && y) && z) r 0
by-key true y z r = refl
by-key false y z r = refl

row-sum : (n m o : ℕ) (r : ProxyRow) → r.iface < m → (n ≤ r.apartment → r.object ≡ o → r.public ≡ 0) → sum_below n (λ a. sum_below m (λ i. cond (is_for a o i r) r.public 0)) ≡ public_any o r
row-sum n m o r h past =
    sum-same n (λ a. sum_below m (λ i. cond (is_for a o i r) r.public 0)) (λ a. cond (eqb r.object o && eqb r.apartment a) r.public 0) (λ a l.
    sum-same m (λ i. cond (is_for a o i r) r.public 0) (λ i. cond ((eqb r.object o && eqb r.apartment a) && eqb r.iface i) r.public 0) (λ i k. by-key (eqb r.object o) (eqb r.apartment a) (eqb r.iface i) r.public)
    ∙ pick m r.iface r.public (eqb r.object o && eqb r.apartment a) h)
    ∙ elim (cases_lt r.apartment n) [
      | inl l ↦ pick n r.apartment r.public (eqb r.object o) l
      | inr l ↦
          let none : sum_below n (λ a. cond (eqb r.object o && eqb r.apartment a) r.public 0) ≡ sum_below n (λ a. 0) = sum-same n (λ a. cond (eqb r.object o && eqb r.apartment a) r.public 0) (λ a. 0) (λ a k.
          let other : eqb r.apartment a ≡ false = false_from_ne_true _ (λ e. omega (arith, eqb-true r.apartment a e, k, l)) in grind (arith, common_steps, other)) in
          none ∙ sum-nothing n (λ a. 0) (λ k. refl) ∙ sym (grind (arith, common_steps, past l))
    ]

pub proxies_sum : (n m o : ℕ) (rs : List ProxyRow) → distinct rs ≡ true → ((a i : ℕ) → has_row rs a o i ≡ true → i < m) → ((a i : ℕ) → n ≤ a → public_of rs a o i ≡ 0)
    → sum_below n (λ a. sum_below m (λ i. public_of rs a o i)) ≡ public_sum o rs
proxies_sum n m o [] d h past = sum-nothing n (λ a. sum_below m (λ i. 0)) (λ a. sum-nothing m (λ i. 0) (λ k. refl))
proxies_sum n m o (r ∷ rs) d h past =
    let later : distinct rs ≡ true = grind (arith, common_steps, d) in
    let whole : public_sum o (r ∷ rs) ≡ public_any o r + public_sum o rs = grind (arith, common_steps) in
    let rest = proxies_sum n m o rs later (λ a i k. h a i (grind (arith, common_steps, k))) (λ a i l. omega (arith, split-row r rs a o i d, past a i l)) in
    elim (eqb r.object o) as (λ y. eqb r.object o ≡ y → sum_below n (λ a. sum_below m (λ i. public_of (r ∷ rs) a o i)) ≡ public_sum o (r ∷ rs)) [
      | true ↦ λ y.
          let same : r.object ≡ o = eqb-true r.object o y in
          let mine : has_row (r ∷ rs) r.apartment o r.iface ≡ true = grind (arith, common_steps, same) in
          let here : is_for r.apartment o r.iface r ≡ true = grind (arith, common_steps, same) in
          let gone : n ≤ r.apartment → r.object ≡ o → r.public ≡ 0 = λ l e. let z : cond (is_for r.apartment o r.iface r) r.public 0 + public_of rs r.apartment o r.iface ≡ 0 = sym (split-row r rs r.apartment o r.iface d) ∙ past r.apartment r.iface l in grind (arith, common_steps, z, here) in
          parts ∙ omega (arith, row-sum n m o r (h r.apartment r.iface mine) gone, rest, whole)
      | false ↦ λ y.
          let none : sum_below n (λ a. sum_below m (λ i. cond (is_for a o i r) r.public 0)) ≡ 0 = sum-nothing n (λ a. sum_below m (λ i. cond (is_for a o i r) r.public 0)) (λ a. sum-nothing m (λ i. cond (is_for a o i r) r.public 0) (λ i. grind (arith, common_steps, y))) in
          let nothing : public_any o r ≡ 0 = grind (arith, common_steps, y) in
          parts ∙ omega (arith, none, nothing, rest, whole)
    ] refl where
      parts : sum_below n (λ a. sum_below m (λ i. public_of (r ∷ rs) a o i)) ≡ sum_below n (λ a. sum_below m (λ i. cond (is_for a o i r) r.public 0)) + sum_below n (λ a. sum_below m (λ i. public_of rs a o i))
      parts =
          sum-same n (λ a. sum_below m (λ i. public_of (r ∷ rs) a o i)) (λ a. sum_below m (λ i. cond (is_for a o i r) r.public 0) + sum_below m (λ i. public_of rs a o i)) (λ a l.
          sum-same m (λ i. public_of (r ∷ rs) a o i) (λ i. cond (is_for a o i r) r.public 0 + public_of rs a o i) (λ i k. split-row r rs a o i d) ∙ sum-add m (λ i. cond (is_for a o i r) r.public 0) (λ i. public_of rs a o i))
          ∙ sum-add n (λ a. sum_below m (λ i. cond (is_for a o i r) r.public 0)) (λ a. sum_below m (λ i. public_of rs a o i))

-- ---- packets

entry-of : (o m : ℕ) (q : Packet) → q.outstanding ≡ true → q.iface < m → sum_below m (λ i. packet_holds_of o i q) ≡ in_normal o q + in_table o q
entry-of o m q out h =
    sum-same m (λ i. packet_holds_of o i q) (λ i. cond (eqb q.object o && eqb q.iface i) q.refs 0) (λ i l. grind (arith, common_steps, out))
    ∙ pick m q.iface q.refs (eqb q.object o) h ∙ by-mode (is_normal q.mode) (eqb q.object o) q.refs ∙ sym (rw out refl) where
      by-mode : (k e : Bool) (r : ℕ) → cond e r 0 ≡ cond (true && (k && e)) r 0 + cond (true && (not k && e)) r 0
      by-mode true true r = grind (arith, common_steps)
      by-mode true false r = refl
      by-mode false e r = grind (arith, common_steps)

entry-sum : (live : ℕ → Bool) (o m : ℕ) (x : Option P.Packet) → ((p : P.Packet) → x ≡ Some p → p.iface < m) → sum_below m (λ i. packet_holds_of o i (packet_read live x)) ≡ in_normal o (packet_read live x) + in_table o (packet_read live x)
entry-sum live o m None h = sum-nothing m (λ i. 0) (λ k. refl)
entry-sum live o m (Some p) h = elim (live p.object) as (λ y. sum_below m (λ i. packet_holds_of o i (cond y (record { outstanding = true; mode = p.mode; object = p.object; iface = p.iface; refs = p.refs }) (record { outstanding = false; mode = marshal.Weak; object = 0; iface = 0; refs = 0 })))
    ≡ in_normal o (cond y (record { outstanding = true; mode = p.mode; object = p.object; iface = p.iface; refs = p.refs }) (record { outstanding = false; mode = marshal.Weak; object = 0; iface = 0; refs = 0 }))
    + in_table o (cond y (record { outstanding = true; mode = p.mode; object = p.object; iface = p.iface; refs = p.refs }) (record { outstanding = false; mode = marshal.Weak; object = 0; iface = 0; refs = 0 }))) [
      | true ↦ entry-of o m (record { outstanding = true; mode = p.mode; object = p.object; iface = p.iface; refs = p.refs }) refl (h p refl)
      | false ↦ sum-nothing m (λ i. 0) (λ k. refl)
    ]

packet-tail : (m : ℕ) (x : Option P.Packet) (ps : List (Option P.Packet)) → ((n : ℕ) (p : P.Packet) → held_in (x ∷ ps) n ≡ Some p → p.iface < m) → (n : ℕ) (p : P.Packet) → held_in ps n ≡ Some p → p.iface < m
packet-tail m x ps h zero p g = absurd (cc)
packet-tail m x ps h (suc n) p g = h (suc (suc n)) p g

pub packets_sum : (live : ℕ → Bool) (o m : ℕ) (ps : List (Option P.Packet)) → ((n : ℕ) (p : P.Packet) → held_in ps n ≡ Some p → p.iface < m)
    → sum_below m (λ i. sum_by (packet_holds_of o i) (map (packet_read live) ps)) ≡ sum_by (in_normal o) (map (packet_read live) ps) + sum_by (in_table o) (map (packet_read live) ps)
packets_sum live o m [] h = sum-nothing m (λ i. 0) (λ k. refl)
packets_sum live o m (x ∷ ps) h =
    let rest = packets_sum live o m ps (packet-tail m x ps h) in
    let one = entry-sum live o m x (λ p e. h 1 p e) in
    let split : sum_below m (λ i. sum_by (packet_holds_of o i) (map (packet_read live) (x ∷ ps))) ≡ sum_below m (λ i. packet_holds_of o i (packet_read live x)) + sum_below m (λ i. sum_by (packet_holds_of o i) (map (packet_read live) ps)) =
    sum-same m (λ i. sum_by (packet_holds_of o i) (map (packet_read live) (x ∷ ps))) (λ i. packet_holds_of o i (packet_read live x) + sum_by (packet_holds_of o i) (map (packet_read live) ps)) (λ i l. cons-sum (packet_holds_of o i) (packet_read live x) (map (packet_read live) ps))
    ∙ sum-add m (λ i. packet_holds_of o i (packet_read live x)) (λ i. sum_by (packet_holds_of o i) (map (packet_read live) ps)) in
    omega (arith, split, one, rest, cons-sum (in_normal o) (packet_read live x) (map (packet_read live) ps), cons-sum (in_table o) (packet_read live x) (map (packet_read live) ps)) where
      cons-sum : (f : Packet → ℕ) (y : Packet) (ys : List Packet) → sum_by f (y ∷ ys) ≡ f y + sum_by f ys
      cons-sum f y ys = grind (arith, common_steps)

normal-entry : (live : ℕ → Bool) (o : ℕ) (x : Option P.Packet) → live o ≡ true → in_normal o (packet_read live x) ≡ normal_for o x
normal-entry live o None l = refl
normal-entry live o (Some p) l = elim (eqb p.object o) as (λ y. eqb p.object o ≡ y → in_normal o (packet_read live (Some p)) ≡ normal_for o (Some p)) [
  | true ↦ λ y.
      let same : p.object ≡ o = eqb-true p.object o y in
      let on : live p.object ≡ true = rw same l in
      by-mode p.mode on y
  | false ↦ λ y. grind (arith, common_steps, y)
] refl where
  by-mode : (k : MarshalMode) → live p.object ≡ true → eqb p.object o ≡ true → in_normal o (packet_read live (Some (record p { mode = k }))) ≡ normal_for o (Some (record p { mode = k }))
  by-mode marshal.Normal on y = grind (arith, common_steps, on, y)
  by-mode marshal.Strong on y = grind (arith, common_steps, on, y)
  by-mode marshal.Weak on y = grind (arith, common_steps, on, y)

pub normal_is : (live : ℕ → Bool) (o : ℕ) (ps : List (Option P.Packet)) → live o ≡ true → sum_by (in_normal o) (map (packet_read live) ps) ≡ normal_sum o ps
normal_is live o [] l = refl
normal_is live o (x ∷ ps) l = grind (arith, common_steps, normal-entry live o x l, normal_is live o ps l)

-- ---- cookies

cookie-entry : (live : ℕ → Bool) (o m : ℕ) (x : Option RefValue) → ((r : RefValue) → x ≡ Some r → r.iface < m) → sum_below m (λ i. cookie_holds_of o i (cookie_read live x)) ≡ in_cookie o (cookie_read live x)
cookie-entry live o m None h = sum-nothing m (λ i. cookie_holds_of o i (cookie_read live None)) (λ k. grind (arith, common_steps)) ∙ sym (grind (arith, common_steps))
cookie-entry live o m (Some r) h = pick m r.iface (cond (live r.object) 1 0) (eqb r.object o) (h r refl)

cookie-tail : (m : ℕ) (x : Option RefValue) (gs : List (Option RefValue)) → ((n : ℕ) (r : RefValue) → held_in (x ∷ gs) n ≡ Some r → r.iface < m) → (n : ℕ) (r : RefValue) → held_in gs n ≡ Some r → r.iface < m
cookie-tail m x gs h zero r g = absurd (cc)
cookie-tail m x gs h (suc n) r g = h (suc (suc n)) r g

pub cookies_sum : (live : ℕ → Bool) (o m : ℕ) (gs : List (Option RefValue)) → ((n : ℕ) (r : RefValue) → held_in gs n ≡ Some r → r.iface < m)
    → sum_below m (λ i. sum_by (cookie_holds_of o i) (map (cookie_read live) gs)) ≡ sum_by (in_cookie o) (map (cookie_read live) gs)
cookies_sum live o m [] h = sum-nothing m (λ i. 0) (λ k. refl)
cookies_sum live o m (x ∷ gs) h =
    let rest = cookies_sum live o m gs (cookie-tail m x gs h) in
    let one = cookie-entry live o m x (λ r e. h 1 r e) in
    let split : sum_below m (λ i. sum_by (cookie_holds_of o i) (map (cookie_read live) (x ∷ gs))) ≡ sum_below m (λ i. cookie_holds_of o i (cookie_read live x)) + sum_below m (λ i. sum_by (cookie_holds_of o i) (map (cookie_read live) gs)) =
    sum-same m (λ i. sum_by (cookie_holds_of o i) (map (cookie_read live) (x ∷ gs))) (λ i. cookie_holds_of o i (cookie_read live x) + sum_by (cookie_holds_of o i) (map (cookie_read live) gs)) (λ i l. grind (arith, common_steps))
    ∙ sum-add m (λ i. cookie_holds_of o i (cookie_read live x)) (λ i. sum_by (cookie_holds_of o i) (map (cookie_read live) gs)) in
    let whole : sum_by (in_cookie o) (map (cookie_read live) (x ∷ gs)) ≡ in_cookie o (cookie_read live x) + sum_by (in_cookie o) (map (cookie_read live) gs) = grind (arith, common_steps) in
    omega (arith, split, one, rest, whole)

-- ---- counters

first-tail : (c : CounterRow) (cs : List CounterRow) → counters.EachFirst (c ∷ cs) → counters.EachFirst cs
first-tail c cs f p h =
    let later : counters.index_of (c ∷ cs) (counters.row_at cs p).object (counters.row_at cs p).iface ≡ suc p = f (suc p) (omega (arith, h)) in
    grind (arith, common_steps, later)

first-alone : (c : CounterRow) (cs : List CounterRow) (o i : ℕ) → counters.EachFirst (c ∷ cs) → counters.is_for o i c ≡ true → counters.has_counter cs o i ≡ false
first-alone c cs o i f y = false_from_ne_true _ (λ e.
    let inside : counters.index_of cs o i < length cs = index_in_range cs o i e in
    let at : counters.row_at cs (counters.index_of cs o i) ≡ counters.counter_of cs o i = row_at_index cs o i (counters.no_counter 0 0) inside in
    let keys = counter_keys cs o i in
    let later : counters.index_of (c ∷ cs) (counters.row_at cs (counters.index_of cs o i)).object (counters.row_at cs (counters.index_of cs o i)).iface ≡ suc (counters.index_of cs o i) = f (suc (counters.index_of cs o i)) (omega (arith, inside)) in
    let here : counters.index_of (c ∷ cs) o i ≡ suc (counters.index_of cs o i) = rw (at, keys.0, keys.1) at later in
    let first : counters.index_of (c ∷ cs) o i ≡ 0 = grind (arith, common_steps, y) in
    omega (arith, here, first))

no-counter : (cs : List CounterRow) (o i : ℕ) → counters.has_counter cs o i ≡ false → (counters.counter_of cs o i).count ≡ 0
no-counter [] o i h = refl
no-counter (c ∷ cs) o i h = grind (arith, common_steps, no-counter cs o i, h)

split-counter : (c : CounterRow) (cs : List CounterRow) (o i : ℕ) → counters.EachFirst (c ∷ cs) → (counters.counter_of (c ∷ cs) o i).count ≡ cond (eqb c.object o && eqb c.iface i) c.count 0 + (counters.counter_of cs o i).count
split-counter c cs o i f = elim (counters.is_for o i c) as (λ y. counters.is_for o i c ≡ y → (cond y c (counters.counter_of cs o i)).count ≡ cond y c.count 0 + (counters.counter_of cs o i).count) [
  | true ↦ λ y. omega (arith, no-counter cs o i (first-alone c cs o i f y))
  | false ↦ λ y. omega arith
] refl

pub counters_sum : (m o : ℕ) (cs : List CounterRow) → counters.EachFirst cs → ((i : ℕ) → counters.has_counter cs o i ≡ true → i < m) → sum_below m (λ i. (counters.counter_of cs o i).count) ≡ counters.sum_of cs o
counters_sum m o [] f h = sum-nothing m (λ i. 0) (λ k. refl)
counters_sum m o (c ∷ cs) f h =
    let rest = counters_sum m o cs (first-tail c cs f) (λ i k. h i (grind (arith, common_steps, k))) in
    let split : sum_below m (λ i. (counters.counter_of (c ∷ cs) o i).count) ≡ sum_below m (λ i. cond (eqb c.object o && eqb c.iface i) c.count 0) + sum_below m (λ i. (counters.counter_of cs o i).count) =
    sum-same m (λ i. (counters.counter_of (c ∷ cs) o i).count) (λ i. cond (eqb c.object o && eqb c.iface i) c.count 0 + (counters.counter_of cs o i).count) (λ i l. split-counter c cs o i f)
    ∙ sum-add m (λ i. cond (eqb c.object o && eqb c.iface i) c.count 0) (λ i. (counters.counter_of cs o i).count) in
    let whole : counters.sum_of (c ∷ cs) o ≡ counters.count_for o c + counters.sum_of cs o = grind (arith, common_steps) in
    elim (eqb c.object o) as (λ y. eqb c.object o ≡ y → sum_below m (λ i. (counters.counter_of (c ∷ cs) o i).count) ≡ counters.sum_of (c ∷ cs) o) [
      | true ↦ λ y.
          let mine : counters.has_counter (c ∷ cs) o c.iface ≡ true = grind (arith, common_steps, y) in
          let one : sum_below m (λ i. cond (eqb c.object o && eqb c.iface i) c.count 0) ≡ cond (eqb c.object o) c.count 0 = pick m c.iface c.count (eqb c.object o) (h c.iface mine) in
          omega (arith, split, one, rest, whole)
      | false ↦ λ y.
          let none : sum_below m (λ i. cond (eqb c.object o && eqb c.iface i) c.count 0) ≡ 0 = sum-nothing m (λ i. cond (eqb c.object o && eqb c.iface i) c.count 0) (λ i. grind (arith, common_steps, y)) in
          let nothing : counters.count_for o c ≡ 0 = grind (arith, common_steps, y) in
          omega (arith, split, none, nothing, rest, whole)
    ] refl
