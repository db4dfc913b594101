-- Packets keep the reference that they were made of, and each reference that is marshalled has one.
use Rattle.std.proofs.Common.{subst, sym, ap, ◌∙◌, ◌⊎◌, inl, inr, append_assoc, arith}
use Rattle.std.proofs.lemmas.Grind.{common_steps}
use Rattle.std.specs.Prelude.{◌≡◌, refl, ℕ, zero, suc, ◌+◌, ◌-◌, ◌/◌, ◌≤◌, ◌<◌, Bool, true, false, cond, ◌==◌, ◌||◌, nat_le, List, [], ◌∷◌, ◌++◌, length, map, Some, slice_set, slice_index_or}
use Rattle.com_base.specs.declared.value.RefValue.{RefValue}
use Rattle.com_base.specs.declared.value.MarshalMode.TheVariants as marshal
use Rattle.com_model.specs.Lists.{is_member}
use Rattle.com_refs_books.specs.Counting.{numbers_from}
use Rattle.com_refs_books.specs.Changes.{Books, no_packet, packet, Change, ToProxy, ToPacket, Split, Join, Return, ToCookie, Withdraw, Same, new_packet, set_from_one, changed, Row, Marshals, marshal_change, change, marshal_all, entered_rows, made_since, first_of, cut_packet, cut}
use Rattle.com_refs_books.specs.declared.keeps.Packet.{Packet}

-- The packet is of the reference.
pub record Of (k : Packet) (r : RefValue) : Type 0 where
  pub object : k.object ≡ r.object
  pub iface : k.iface ≡ r.iface

abbrev pub In : RefValue → List RefValue → Type 0
In r [] = ⊥
In r (x ∷ xs) = (x ≡ r) ⊎ In r xs

-- ---- packets are named as before

-- A packet that was made and is outstanding is the same.
pub record Grown (b c : Books) : Type 0 where
  pub more : length b.packets ≤ length c.packets
  pub same : (p : ℕ) → p ≤ length b.packets → (packet c p).outstanding ≡ true → packet c p ≡ packet b p

pub grown-of : (b c : Books) (p : ℕ) (r : RefValue) → Grown b c → p ≤ length b.packets → ((packet b p).outstanding ≡ true → Of (packet b p) r) → (packet c p).outstanding ≡ true → Of (packet c p) r
grown-of b c p r g h f e =
    let z : packet c p ≡ packet b p = g.same p h e in
    subst (λ (k : Packet). Of k r) (sym z) (f (subst (λ (k : Packet). k.outstanding ≡ true) z e))

pub grown-then : (b c d : Books) → Grown b c → Grown c d → Grown b d
grown-then b c d g k = record {
  more = omega (arith, g.more, k.more);
  same = λ p h e.
      let z : packet d p ≡ packet c p = k.same p (omega (arith, h, g.more)) e in
      z ∙ g.same p h (subst (λ (x : Packet). x.outstanding ≡ true) z e);
}

pub grown-same : (b c : Books) → c.packets ≡ b.packets → Grown b c
grown-same b c e = record { more = subst (λ (ps : List Packet). length b.packets ≤ length ps) (sym e) (omega arith); same = same }
  where
    same : (p : ℕ) → p ≤ length b.packets → (packet c p).outstanding ≡ true → packet c p ≡ packet b p
    same zero h o = refl
    same (suc p) h o = ap (λ (ps : List Packet). slice_index_or ps p no_packet) e

before-end : (ps : List Packet) (x : Packet) (p : ℕ) → p < length ps → slice_index_or (ps ++ x ∷ []) p no_packet ≡ slice_index_or ps p no_packet
before-end [] x p h = absurd (omega (arith, h))
before-end (y ∷ ps) x zero h = refl
before-end (y ∷ ps) x (suc p) h = before-end ps x p (grind (arith, common_steps, h))

grown-push : (b c : Books) (x : Packet) → c.packets ≡ b.packets ++ x ∷ [] → Grown b c
grown-push b c x e = record { more = subst (λ (ps : List Packet). length b.packets ≤ length ps) (sym e) (grind (arith, common_steps)); same = same }
  where
    same : (p : ℕ) → p ≤ length b.packets → (packet c p).outstanding ≡ true → packet c p ≡ packet b p
    same zero h o = refl
    same (suc p) h o = ap (λ (ps : List Packet). slice_index_or ps p no_packet) e ∙ before-end b.packets x p (omega (arith, h))

set-length : (ps : List Packet) (p : ℕ) (x : Packet) → length (set_from_one ps p x) ≡ length ps
set-length ps zero x = refl
set-length ps (suc p) x = grind (arith, common_steps)

set-same : (ps : List Packet) (p q : ℕ) → (slice_index_or (slice_set ps p no_packet) q no_packet).outstanding ≡ true → slice_index_or (slice_set ps p no_packet) q no_packet ≡ slice_index_or ps q no_packet
set-same [] p q e = refl
set-same (x ∷ ps) zero zero e = cc
set-same (x ∷ ps) zero (suc q) e = refl
set-same (x ∷ ps) (suc p) zero e = refl
set-same (x ∷ ps) (suc p) (suc q) e = set-same ps p q e

grown-end : (b c : Books) (p : ℕ) → c.packets ≡ set_from_one b.packets p no_packet → Grown b c
grown-end b c zero e = grown-same b c e
grown-end b c (suc p) e = record { more = subst (λ (ps : List Packet). length b.packets ≤ length ps) (sym e) (subst (λ (n : ℕ). length b.packets ≤ n) (sym (set-length b.packets (suc p) _)) (omega arith)); same = same }
  where
    same : (q : ℕ) → q ≤ length b.packets → (packet c q).outstanding ≡ true → packet c q ≡ packet b q
    same zero h o = refl
    same (suc q) h o =
        let z : slice_index_or c.packets q no_packet ≡ slice_index_or (slice_set b.packets p no_packet) q no_packet = ap (λ (ps : List Packet). slice_index_or ps q no_packet) e in
        z ∙ set-same b.packets p q (subst (λ (k : Packet). k.outstanding ≡ true) z o)

changed-grown : (b : Books) (c : Change) → Grown b (changed b c)
changed-grown b (ToProxy a o i n) = grown-same b (changed b (ToProxy a o i n)) refl
changed-grown b (ToPacket m o i n) = grown-push b (changed b (ToPacket m o i n)) (new_packet m o i n) refl
changed-grown b (Split a o i n) = grown-push b (changed b (Split a o i n)) (new_packet marshal.Normal o i n) refl
changed-grown b (Join a p) = grown-end b (changed b (Join a p)) p refl
changed-grown b (Return p) = grown-end b (changed b (Return p)) p refl
changed-grown b (ToCookie o i n) = grown-same b (changed b (ToCookie o i n)) refl
changed-grown b (Withdraw g) = grown-same b (changed b (Withdraw g)) refl
changed-grown b Same = grown-same b b refl

pub rows-grown : (owned : ℕ → ℕ → Bool) (b : Books) (rs : List Row) → Grown b (entered_rows owned b rs)
rows-grown owned b [] = grown-same b b refl
rows-grown owned b (r ∷ rs) = grown-then b (changed b (change owned b r)) (entered_rows owned (changed b (change owned b r)) rs) (changed-grown b (change owned b r)) (rows-grown owned (changed b (change owned b r)) rs)

cut-same : (live : ℕ → Bool) (x : Packet) → (cut_packet live x).outstanding ≡ true → cut_packet live x ≡ x
cut-same live x e = by-test (live x.object) e
  where
    by-test : (t : Bool) → (cond t x no_packet).outstanding ≡ true → cond t x no_packet ≡ x
    by-test true o = refl
    by-test false o = cc

map-same : (live : ℕ → Bool) (ps : List Packet) (q : ℕ) → (slice_index_or (map (cut_packet live) ps) q no_packet).outstanding ≡ true → slice_index_or (map (cut_packet live) ps) q no_packet ≡ slice_index_or ps q no_packet
map-same live [] q e = refl
map-same live (x ∷ ps) zero e = cut-same live x e
map-same live (x ∷ ps) (suc q) e = map-same live ps q e

pub cut-grown : (live : ℕ → Bool) (b : Books) → Grown b (cut live b)
cut-grown live b = record { more = grind (arith, common_steps); same = same }
  where
    same : (q : ℕ) → q ≤ length b.packets → (packet (cut live b) q).outstanding ≡ true → packet (cut live b) q ≡ packet b q
    same zero h o = refl
    same (suc q) h o = map-same live b.packets q o

-- ---- marshalled references

abbrev pub AllLive : (ℕ → Bool) → List RefValue → Type 0
AllLive live [] = Unit {0}
AllLive live (r ∷ rs) = (live r.object ≡ true) × AllLive live rs

abbrev Matches : List Packet → List RefValue → Type 0
Matches [] [] = Unit {0}
Matches [] (r ∷ rs) = ⊥
Matches (k ∷ ks) [] = ⊥
Matches (k ∷ ks) (r ∷ rs) = Of k r × Matches ks rs

record Pushed (b c : Books) (o i : ℕ) : Type 0 where
  refs : ℕ
  is : c.packets ≡ b.packets ++ new_packet marshal.Normal o i refs ∷ []

pushed-if : (b : Books) (o i : ℕ) (t : Bool) (x y : Change) → Pushed b (changed b x) o i → Pushed b (changed b y) o i → Pushed b (changed b (cond t x y)) o i
pushed-if b o i true x y p q = p
pushed-if b o i false x y p q = q

marshal-pushed : (b : Books) (w : Bool) (n a o i : ℕ) → Pushed b (changed b (marshal_change marshal.Normal w n a o i)) o i
marshal-pushed b w n a o i =
    pushed-if b o i w (ToPacket marshal.Normal o i 5) _ (record { refs = 5; is = refl })
    (pushed-if b o i (nat_le 2 n) (Split a o i (n / 2)) (ToPacket marshal.Normal o i 5) (record { refs = n / 2; is = refl }) (record { refs = 5; is = refl }))

row-pushed : (owned : ℕ → ℕ → Bool) (b : Books) (a o i : ℕ) → b.live o ≡ true → Pushed b (changed b (change owned b (Marshals a marshal.Normal o i))) o i
row-pushed owned b a o i e = subst (λ (t : Bool). Pushed b (changed b (cond t (marshal_change marshal.Normal (owned o a) (b.proxy a o i) a o i) Same)) o i) (sym e) (marshal-pushed b (owned o a) (b.proxy a o i) a o i)

record Added (b c : Books) (rs : List RefValue) : Type 0 where
  new : List Packet
  is : c.packets ≡ b.packets ++ new
  matches : Matches new rs

live-kept : (b : Books) (c : Change) → (changed b c).live ≡ b.live
live-kept b (ToProxy x y z m) = refl
live-kept b (ToPacket m x y r) = refl
live-kept b (Split x y z m) = refl
live-kept b (Join x q) = refl
live-kept b (Return q) = refl
live-kept b (ToCookie x y m) = refl
live-kept b (Withdraw g) = refl
live-kept b Same = refl

nothing-added : (ps : List Packet) → ps ≡ ps ++ []
nothing-added ps = grind (arith, common_steps)

marshals-add : (owned : ℕ → ℕ → Bool) (b : Books) (a : ℕ) (rs : List RefValue) → AllLive b.live rs → Added b (entered_rows owned b (marshal_all a rs)) rs
marshals-add owned b a [] p = record { new = []; is = nothing-added b.packets; matches = tt }
marshals-add owned b a (r ∷ rs) p =
    let x : Change = change owned b (Marshals a marshal.Normal r.object r.iface) in
    let u : Pushed b (changed b x) r.object r.iface = row-pushed owned b a r.object r.iface p.0 in
    let v : Added (changed b x) (entered_rows owned (changed b x) (marshal_all a rs)) rs = marshals-add owned (changed b x) a rs (subst (λ (f : ℕ → Bool). AllLive f rs) (sym (live-kept b x)) p.1) in
    record {
      new = new_packet marshal.Normal r.object r.iface u.refs ∷ v.new;
      is = v.is ∙ ap (λ (ps : List Packet). ps ++ v.new) u.is ∙ append_assoc b.packets (new_packet marshal.Normal r.object r.iface u.refs ∷ []) v.new;
      matches = (record { object = refl; iface = refl }, v.matches);
    }

record Placed (ks : List Packet) (r : RefValue) : Type 0 where
  index : ℕ
  low : index < length ks
  is : Of (slice_index_or ks index no_packet) r

match-placed : (ks : List Packet) (rs : List RefValue) (r : RefValue) → Matches ks rs → In r rs → Placed ks r
match-placed [] [] r m p = absurd p
match-placed [] (x ∷ rs) r m p = absurd m
match-placed (k ∷ ks) [] r m p = absurd p
match-placed (k ∷ ks) (x ∷ rs) r m (inl e) = record { index = 0; low = grind (arith, common_steps); is = subst (Of k) e m.0 }
match-placed (k ∷ ks) (x ∷ rs) r m (inr p) = let q : Placed ks r = match-placed ks rs r m.1 p in record { index = suc q.index; low = grind (arith, common_steps, q.low); is = q.is }

past-front : (ps ks : List Packet) (j : ℕ) → slice_index_or (ps ++ ks) (length ps + j) no_packet ≡ slice_index_or ks j no_packet
past-front ps ks j = grind (arith, common_steps)

member-from : (n k j : ℕ) → j < k → is_member (n + j) (numbers_from n k) ≡ true
member-from n zero j h = absurd (omega (arith, h))
member-from n (suc k) zero h = grind (arith, common_steps)
member-from n (suc k) (suc j) h = or-true (n + suc j == n) (is_member (n + suc j) (numbers_from (n + 1) k)) (subst (λ (m : ℕ). is_member m (numbers_from (n + 1) k) ≡ true) (omega arith) (member-from (n + 1) k j (omega (arith, h))))
  where
    or-true : (p q : Bool) → q ≡ true → (p || q) ≡ true
    or-true true q e = refl
    or-true false q e = e

-- A packet of the reference among those that were made since.
pub record MadeOf (b c : Books) (r : RefValue) : Type 0 where
  pub number : ℕ
  pub made : is_member number (made_since b c) ≡ true
  pub low : number ≤ length c.packets
  pub is : Of (packet c number) r

pub marshals-make : (owned : ℕ → ℕ → Bool) (b : Books) (a : ℕ) (rs : List RefValue) (r : RefValue) → AllLive b.live rs → In r rs → MadeOf b (entered_rows owned b (marshal_all a rs)) r
marshals-make owned b a rs r p m =
    let c : Books = entered_rows owned b (marshal_all a rs) in
    let u : Added b c rs = marshals-add owned b a rs p in
    let v : Placed u.new r = match-placed u.new rs r u.matches m in
    let n : length c.packets ≡ length b.packets + length u.new = ap (λ (ps : List Packet). length ps) u.is ∙ together b.packets u.new in
    record {
      number = suc (length b.packets + v.index);
      made = subst (λ (k : ℕ). is_member (suc (length b.packets + v.index)) (numbers_from (length b.packets + 1) k) ≡ true) (omega (arith, n))
          (subst (λ (k : ℕ). is_member k (numbers_from (length b.packets + 1) (length u.new)) ≡ true) (omega arith) (member-from (length b.packets + 1) (length u.new) v.index v.low));
      low = omega (arith, n, v.low);
      is = subst (λ (ps : List Packet). Of (slice_index_or ps (length b.packets + v.index) no_packet) r) (sym u.is) (subst (λ (k : Packet). Of k r) (sym (past-front b.packets u.new v.index)) v.is);
    }
  where
    together : (xs ys : List Packet) → length (xs ++ ys) ≡ length xs + length ys
    together xs ys = grind (arith, common_steps)

first_number : (n k : ℕ) → k ≡ 1 → first_of (numbers_from n k) ≡ Some n
first_number n k e = subst (λ (j : ℕ). first_of (numbers_from n j) ≡ Some n) (sym e) refl

-- The one packet that was made since.
pub record OneMade (b c : Books) (r : RefValue) : Type 0 where
  pub first : first_of (made_since b c) ≡ Some (suc (length b.packets))
  pub low : suc (length b.packets) ≤ length c.packets
  pub is : Of (packet c (suc (length b.packets))) r

pub marshals-one : (owned : ℕ → ℕ → Bool) (b : Books) (a : ℕ) (r : RefValue) → b.live r.object ≡ true → OneMade b (entered_rows owned b (marshal_all a (r ∷ []))) r
marshals-one owned b a r p =
    let c : Books = entered_rows owned b (marshal_all a (r ∷ [])) in
    let u : Pushed b c r.object r.iface = row-pushed owned b a r.object r.iface p in
    let n : length c.packets ≡ length b.packets + 1 = ap (λ (ps : List Packet). length ps) u.is ∙ one-more b.packets (new_packet marshal.Normal r.object r.iface u.refs) in
    record {
      first = subst (λ (k : ℕ). first_of (numbers_from (length b.packets + 1) (length c.packets - length b.packets)) ≡ Some k) (omega arith) (first_number (length b.packets + 1) (length c.packets - length b.packets) (omega (arith, n)));
      low = omega (arith, n);
      is = subst (λ (ps : List Packet). Of (slice_index_or ps (length b.packets) no_packet) r) (sym u.is) (subst (λ (k : Packet). Of k r) (sym (at-end b.packets (new_packet marshal.Normal r.object r.iface u.refs))) (record { object = refl; iface = refl }));
    }
  where
    one-more : (xs : List Packet) (x : Packet) → length (xs ++ x ∷ []) ≡ length xs + 1
    one-more xs x = grind (arith, common_steps)

    at-end : (xs : List Packet) (x : Packet) → slice_index_or (xs ++ x ∷ []) (length xs) no_packet ≡ x
    at-end [] x = refl
    at-end (y ∷ xs) x = grind (arith, common_steps, at-end xs x)
