-- What rows leave to proxies, and bring them.
use Rattle.std.proofs.Common.{◌≡◌, ℕ, zero, suc, Bool, true, false, eqb, cond, not, ◌&&◌, ◌||◌, ◌/◌, ◌<◌, ◌≤◌, List, [], ◌∷◌, ◌++◌, refl, subst, sym, ap, ◌∙◌, ◌⊎◌, inl, inr, arith, eqb-true}
use Rattle.std.proofs.lemmas.Bool.{leb-true, eqb-false}
use Rattle.std.proofs.lemmas.Grind.{common_steps}
use Rattle.std.specs.Prelude.{slice_set, slice_index_or, map, nat_le}
use Rattle.com_base.specs.declared.value.MarshalMode.{MarshalMode}
use Rattle.com_base.specs.declared.value.MarshalMode.TheVariants as marshal
use Rattle.com_model.specs.Lists.{is_member}
use Rattle.com_refs_books.specs.Changes.{Books, no_packet, packet, Change, ToProxy, ToPacket, Split, Join, Return, ToCookie, Withdraw, Same, new_packet, set_from_one, changed, Row, Makes, Takes, Asks, Marshals, Unmarshals, Drops, Registers, Revokes, marshal_change, unmarshal_change, change, entered_rows, cut_packet, cut}
use Rattle.com_refs_books.specs.declared.keeps.Packet.{Packet}

-- ---- no row takes the last reference of a proxy

abbrev Spares : Books → Change → Type 0
Spares b (Split a o i m) = (1 ≤ m) × (m < b.proxy a o i)
Spares b _ = Unit {0}

changed-keeps : (b : Books) (c : Change) (a o i : ℕ) → Spares b c → 1 ≤ b.proxy a o i → 1 ≤ (changed b c).proxy a o i
changed-keeps b (ToProxy x y z m) a o i f p = grind (arith, common_steps, p)
changed-keeps b (ToPacket m x y r) a o i f p = p
changed-keeps b (Split x y z m) a o i f p = grind (arith, common_steps, p, f.1)
changed-keeps b (Join x q) a o i f p = grind (arith, common_steps, p)
changed-keeps b (Return q) a o i f p = p
changed-keeps b (ToCookie x y m) a o i f p = p
changed-keeps b (Withdraw g) a o i f p = p
changed-keeps b Same a o i f p = p

spares-if : (b : Books) (t : Bool) (c d : Change) → (t ≡ true → Spares b c) → Spares b d → Spares b (cond t c d)
spares-if b true c d p q = p refl
spares-if b false c d p q = q

half-of : (n : ℕ) → nat_le 2 n ≡ true → (1 ≤ n / 2) × (n / 2 < n)
half-of n h = let two : 2 ≤ n = leb-true 2 n h in (omega arith, omega arith)

marshal-spares : (b : Books) (m : MarshalMode) (w : Bool) (a o i : ℕ) → Spares b (marshal_change m w (b.proxy a o i) a o i)
marshal-spares b marshal.Normal w a o i = spares-if b w (ToPacket marshal.Normal o i 5) _ (λ e. tt) (spares-if b (nat_le 2 (b.proxy a o i)) (Split a o i (b.proxy a o i / 2)) (ToPacket marshal.Normal o i 5) (λ e. half-of (b.proxy a o i) e) tt)
marshal-spares b marshal.Strong w a o i = tt
marshal-spares b marshal.Weak w a o i = tt

unmarshal-spares : (b : Books) (m : MarshalMode) (w : Bool) (a p o i : ℕ) → Spares b (unmarshal_change m w a p o i)
unmarshal-spares b marshal.Normal w a p o i = spares-if b w (Return p) (Join a p) (λ e. tt) tt
unmarshal-spares b marshal.Strong w a p o i = spares-if b w Same (ToProxy a o i 5) (λ e. tt) tt
unmarshal-spares b marshal.Weak w a p o i = spares-if b w Same (ToProxy a o i 5) (λ e. tt) tt

change-spares : (owned : ℕ → ℕ → Bool) (b : Books) (r : Row) → Spares b (change owned b r)
change-spares owned b (Makes a o i) = spares-if b (owned o a) Same (ToProxy a o i 5) (λ e. tt) tt
change-spares owned b (Takes a o i) = spares-if b (b.live o && not (owned o a)) (ToProxy a o i 5) Same (λ e. tt) tt
change-spares owned b (Asks a o i) = spares-if b (b.live o && (not (owned o a) && eqb (b.proxy a o i) 0)) (ToProxy a o i 5) Same (λ e. tt) tt
change-spares owned b (Marshals a m o i) = spares-if b (b.live o) (marshal_change m (owned o a) (b.proxy a o i) a o i) Same (λ e. marshal-spares b m (owned o a) a o i) tt
change-spares owned b (Unmarshals a p) = spares-if b (packet b p).outstanding _ Same (λ e. unmarshal-spares b (packet b p).mode (owned (packet b p).object a) a p (packet b p).object (packet b p).iface) tt
change-spares owned b (Drops p) = spares-if b (packet b p).outstanding (Return p) Same (λ e. tt) tt
change-spares owned b (Registers o i) = spares-if b (b.live o) (ToCookie o i 1) Same (λ e. tt) tt
change-spares owned b (Revokes g) = tt

row-keeps : (owned : ℕ → ℕ → Bool) (b : Books) (r : Row) (a o i : ℕ) → 1 ≤ b.proxy a o i → 1 ≤ (changed b (change owned b r)).proxy a o i
row-keeps owned b r a o i p = changed-keeps b (change owned b r) a o i (change-spares owned b r) p

pub rows-keep : (owned : ℕ → ℕ → Bool) (b : Books) (rs : List Row) (a o i : ℕ) → 1 ≤ b.proxy a o i → 1 ≤ (entered_rows owned b rs).proxy a o i
rows-keep owned b [] a o i p = p
rows-keep owned b (r ∷ rs) a o i p = rows-keep owned (changed b (change owned b r)) rs a o i (row-keeps owned b r a o i p)

changed-live : (b : Books) (c : Change) (o : ℕ) → (changed b c).live o ≡ b.live o
changed-live b (ToProxy x y z m) o = refl
changed-live b (ToPacket m x y r) o = refl
changed-live b (Split x y z m) o = refl
changed-live b (Join x q) o = refl
changed-live b (Return q) o = refl
changed-live b (ToCookie x y m) o = refl
changed-live b (Withdraw g) o = refl
changed-live b Same o = refl

pub rows-live : (owned : ℕ → ℕ → Bool) (b : Books) (rs : List Row) (o : ℕ) → (entered_rows owned b rs).live o ≡ b.live o
rows-live owned b [] o = refl
rows-live owned b (r ∷ rs) o = rows-live owned (changed b (change owned b r)) rs o ∙ changed-live b (change owned b r) o

-- ---- what a row brings

pub makes-bring : (owned : ℕ → ℕ → Bool) (b : Books) (a o i : ℕ) → owned o a ≡ false → 1 ≤ (changed b (change owned b (Makes a o i))).proxy a o i
makes-bring owned b a o i p = rw p (grind (arith, common_steps))

pub takes-bring : (owned : ℕ → ℕ → Bool) (b : Books) (a o i : ℕ) → b.live o ≡ true → owned o a ≡ false → 1 ≤ (changed b (change owned b (Takes a o i))).proxy a o i
takes-bring owned b a o i p q = rw (p, q) (grind (arith, common_steps))

pub asks-bring : (owned : ℕ → ℕ → Bool) (b : Books) (a o i : ℕ) → b.live o ≡ true → owned o a ≡ false → 1 ≤ (changed b (change owned b (Asks a o i))).proxy a o i
asks-bring owned b a o i p q = rw (p, q) (by-test (eqb (b.proxy a o i) 0) refl)
  where
    by-test : (t : Bool) → eqb (b.proxy a o i) 0 ≡ t → 1 ≤ (changed b (cond t (ToProxy a o i 5) Same)).proxy a o i
    by-test true e = grind (arith, common_steps)
    by-test false e = let z : (b.proxy a o i ≡ 0 → ⊥) = eqb-false (b.proxy a o i) 0 e in grind (arith, z)

-- A normal packet that is outstanding has a reference.
abbrev pub Filled : Packet → Type 0
Filled p = p.outstanding ≡ true → p.mode ≡ marshal.Normal → 1 ≤ p.refs

pub record Full (b : Books) : Type 0 where
  pub each : (p : ℕ) → Filled (packet b p)

unmarshal-brings : (b : Books) (m : MarshalMode) (a p : ℕ) → (packet b p).mode ≡ m → (packet b p).outstanding ≡ true → Full b → 1 ≤ (changed b (unmarshal_change m false a p (packet b p).object (packet b p).iface)).proxy a (packet b p).object (packet b p).iface
unmarshal-brings b marshal.Normal a p e q f = let n : 1 ≤ (packet b p).refs = f.each p q e in grind (arith, common_steps, n)
unmarshal-brings b marshal.Strong a p e q f = grind (arith, common_steps)
unmarshal-brings b marshal.Weak a p e q f = grind (arith, common_steps)

pub unmarshals-bring : (owned : ℕ → ℕ → Bool) (b : Books) (a p : ℕ) → (packet b p).outstanding ≡ true → Full b → owned (packet b p).object a ≡ false → 1 ≤ (changed b (change owned b (Unmarshals a p))).proxy a (packet b p).object (packet b p).iface
unmarshals-bring owned b a p q f w =
    subst (λ (t : Bool). 1 ≤ (changed b (cond t (unmarshal_change (packet b p).mode (owned (packet b p).object a) a p (packet b p).object (packet b p).iface) Same)).proxy a (packet b p).object (packet b p).iface) (sym q)
    (subst (λ (t : Bool). 1 ≤ (changed b (unmarshal_change (packet b p).mode t a p (packet b p).object (packet b p).iface)).proxy a (packet b p).object (packet b p).iface) (sym w)
    (unmarshal-brings b (packet b p).mode a p refl q f))

-- ---- packets stay filled

Fills : List Packet → Type 0
Fills ps = (p : ℕ) → Filled (slice_index_or ps p no_packet)

fills-new : (o i r p : ℕ) (m : MarshalMode) (ps : List Packet) → 1 ≤ r → Fills ps → Filled (slice_index_or (ps ++ new_packet m o i r ∷ []) p no_packet)
unfolding Fills
fills-new o i r zero m [] h g = λ e f. h
fills-new o i r (suc p) m [] h g = λ e f. cc
fills-new o i r zero m (x ∷ ps) h g = g 0
fills-new o i r (suc p) m (x ∷ ps) h g = fills-new o i r p m ps h (λ j. g (suc j))

fills-other : (o i r p : ℕ) (m : MarshalMode) (ps : List Packet) → (m ≡ marshal.Normal → ⊥) → Fills ps → Filled (slice_index_or (ps ++ new_packet m o i r ∷ []) p no_packet)
unfolding Fills
fills-other o i r zero m [] h g = λ e f. absurd (h f)
fills-other o i r (suc p) m [] h g = λ e f. cc
fills-other o i r zero m (x ∷ ps) h g = g 0
fills-other o i r (suc p) m (x ∷ ps) h g = fills-other o i r p m ps h (λ j. g (suc j))

fills-ended : (p q : ℕ) (x : Packet) (ps : List Packet) → x.outstanding ≡ false → Fills ps → Filled (slice_index_or (slice_set ps p x) q no_packet)
unfolding Fills
fills-ended p q x [] h g = λ e f. cc
fills-ended zero zero x (y ∷ ps) h g = λ e f. cc
fills-ended zero (suc q) x (y ∷ ps) h g = g (suc q)
fills-ended (suc p) zero x (y ∷ ps) h g = g 0
fills-ended (suc p) (suc q) x (y ∷ ps) h g = fills-ended p q x ps h (λ j. g (suc j))

abbrev Brims : Books → Change → Type 0
Brims b (ToPacket m o i r) = (m ≡ marshal.Normal → ⊥) ⊎ (1 ≤ r)
Brims b (Split a o i m) = 1 ≤ m
Brims b _ = Unit {0}

full-of : (b : Books) → Fills b.packets → Full b
unfolding Fills
full-of b f = record { each = each }
  where
    each : (p : ℕ) → Filled (packet b p)
    each zero = λ e q. cc
    each (suc p) = f p

fills-pushed : (o i r : ℕ) (m : MarshalMode) (ps : List Packet) → (m ≡ marshal.Normal → ⊥) ⊎ (1 ≤ r) → Fills ps → Fills (ps ++ new_packet m o i r ∷ [])
unfolding Fills
fills-pushed o i r m ps (inl h) g = λ p. fills-other o i r p m ps h g
fills-pushed o i r m ps (inr h) g = λ p. fills-new o i r p m ps h g

fills-set : (p : ℕ) (x : Packet) (ps : List Packet) → x.outstanding ≡ false → Fills ps → Fills (set_from_one ps p x)
unfolding Fills
fills-set zero x ps h g = g
fills-set (suc p) x ps h g = λ q. fills-ended p q x ps h g

fills-in : (b : Books) → Full b → Fills b.packets
unfolding Fills
fills-in b f = λ p. f.each (suc p)

changed-full : (b : Books) (c : Change) → Brims b c → Full b → Full (changed b c)
changed-full b (ToProxy x y z m) p f = full-of (changed b (ToProxy x y z m)) (fills-in b f)
changed-full b (ToPacket m x y r) p f = full-of (changed b (ToPacket m x y r)) (fills-pushed x y r m b.packets p (fills-in b f))
changed-full b (Split x y z m) p f = full-of (changed b (Split x y z m)) (fills-pushed y z m marshal.Normal b.packets (inr p) (fills-in b f))
changed-full b (Join x q) p f = full-of (changed b (Join x q)) (fills-set q no_packet b.packets refl (fills-in b f))
changed-full b (Return q) p f = full-of (changed b (Return q)) (fills-set q no_packet b.packets refl (fills-in b f))
changed-full b (ToCookie x y m) p f = full-of (changed b (ToCookie x y m)) (fills-in b f)
changed-full b (Withdraw g) p f = full-of (changed b (Withdraw g)) (fills-in b f)
changed-full b Same p f = f

brims-if : (b : Books) (t : Bool) (c d : Change) → (t ≡ true → Brims b c) → Brims b d → Brims b (cond t c d)
brims-if b true c d p q = p refl
brims-if b false c d p q = q

marshal-brims : (b : Books) (m : MarshalMode) (w : Bool) (n a o i : ℕ) → Brims b (marshal_change m w n a o i)
marshal-brims b marshal.Normal w n a o i = brims-if b w (ToPacket marshal.Normal o i 5) _ (λ e. inr (omega arith)) (brims-if b (nat_le 2 n) (Split a o i (n / 2)) (ToPacket marshal.Normal o i 5) (λ e. (half-of n e).0) (inr (omega arith)))
marshal-brims b marshal.Strong w n a o i = inl (λ e. cc)
marshal-brims b marshal.Weak w n a o i = inl (λ e. cc)

unmarshal-brims : (b : Books) (m : MarshalMode) (w : Bool) (a p o i : ℕ) → Brims b (unmarshal_change m w a p o i)
unmarshal-brims b marshal.Normal w a p o i = brims-if b w (Return p) (Join a p) (λ e. tt) tt
unmarshal-brims b marshal.Strong w a p o i = brims-if b w Same (ToProxy a o i 5) (λ e. tt) tt
unmarshal-brims b marshal.Weak w a p o i = brims-if b w Same (ToProxy a o i 5) (λ e. tt) tt

change-brims : (owned : ℕ → ℕ → Bool) (b : Books) (r : Row) → Brims b (change owned b r)
change-brims owned b (Makes a o i) = brims-if b (owned o a) Same (ToProxy a o i 5) (λ e. tt) tt
change-brims owned b (Takes a o i) = brims-if b (b.live o && not (owned o a)) (ToProxy a o i 5) Same (λ e. tt) tt
change-brims owned b (Asks a o i) = brims-if b (b.live o && (not (owned o a) && eqb (b.proxy a o i) 0)) (ToProxy a o i 5) Same (λ e. tt) tt
change-brims owned b (Marshals a m o i) = brims-if b (b.live o) (marshal_change m (owned o a) (b.proxy a o i) a o i) Same (λ e. marshal-brims b m (owned o a) (b.proxy a o i) a o i) tt
change-brims owned b (Unmarshals a p) = brims-if b (packet b p).outstanding _ Same (λ e. unmarshal-brims b (packet b p).mode (owned (packet b p).object a) a p (packet b p).object (packet b p).iface) tt
change-brims owned b (Drops p) = brims-if b (packet b p).outstanding (Return p) Same (λ e. tt) tt
change-brims owned b (Registers o i) = brims-if b (b.live o) (ToCookie o i 1) Same (λ e. tt) tt
change-brims owned b (Revokes g) = tt

pub rows-full : (owned : ℕ → ℕ → Bool) (b : Books) (rs : List Row) → Full b → Full (entered_rows owned b rs)
rows-full owned b [] f = f
rows-full owned b (r ∷ rs) f = rows-full owned (changed b (change owned b r)) rs (changed-full b (change owned b r) (change-brims owned b r) f)

cut-filled : (live : ℕ → Bool) (p : Packet) → Filled p → Filled (cut_packet live p)
cut-filled live p g = by-test (live p.object)
  where
    by-test : (t : Bool) → Filled (cond t p no_packet)
    by-test true = g
    by-test false = λ e f. cc

cut-fills : (live : ℕ → Bool) (q : ℕ) (ps : List Packet) → Fills ps → Filled (slice_index_or (map (cut_packet live) ps) q no_packet)
unfolding Fills
cut-fills live q [] g = λ e f. cc
cut-fills live zero (p ∷ ps) g = cut-filled live p (g 0)
cut-fills live (suc q) (p ∷ ps) g = cut-fills live q ps (λ j. g (suc j))

fills-cut : (live : ℕ → Bool) (ps : List Packet) → Fills ps → Fills (map (cut_packet live) ps)
unfolding Fills
fills-cut live ps g = λ q. cut-fills live q ps g

pub cut-full : (live : ℕ → Bool) (b : Books) → Full b → Full (cut live b)
cut-full live b f = full-of (cut live b) (fills-cut live b.packets (fills-in b f))

-- ---- the packets of a call, unmarshalled one after the other

set-other : (p q : ℕ) (x : Packet) (ps : List Packet) → (p ≡ q → ⊥) → slice_index_or (slice_set ps p x) q no_packet ≡ slice_index_or ps q no_packet
set-other p q x [] h = refl
set-other zero zero x (y ∷ ps) h = absurd (h refl)
set-other zero (suc q) x (y ∷ ps) h = refl
set-other (suc p) zero x (y ∷ ps) h = refl
set-other (suc p) (suc q) x (y ∷ ps) h = set-other p q x ps (λ e. h (ap suc e))

set-packet : (b : Books) (p q : ℕ) (x : Packet) → (p ≡ q → ⊥) → packet (record b { packets = set_from_one b.packets p x }) q ≡ packet b q
set-packet b zero q x h = refl
set-packet b (suc p) zero x h = refl
set-packet b (suc p) (suc q) x h = set-other p q x b.packets (λ e. h (ap suc e))

packet-if : (b : Books) (q : ℕ) (t : Bool) (c d : Change) → packet (changed b c) q ≡ packet b q → packet (changed b d) q ≡ packet b q → packet (changed b (cond t c d)) q ≡ packet b q
packet-if b q true c d e f = e
packet-if b q false c d e f = f

joined-packet : (b : Books) (a p q : ℕ) → (p ≡ q → ⊥) → packet (changed b (Join a p)) q ≡ packet b q
joined-packet b a zero q h = refl
joined-packet b a (suc p) zero h = refl
joined-packet b a (suc p) (suc q) h = set-other p q _ b.packets (λ e. h (ap suc e))

returned-packet : (b : Books) (p q : ℕ) → (p ≡ q → ⊥) → packet (changed b (Return p)) q ≡ packet b q
returned-packet b zero q h = refl
returned-packet b (suc p) zero h = refl
returned-packet b (suc p) (suc q) h = set-other p q _ b.packets (λ e. h (ap suc e))

proxied-packet : (b : Books) (a o i n q : ℕ) → packet (changed b (ToProxy a o i n)) q ≡ packet b q
proxied-packet b a o i n zero = refl
proxied-packet b a o i n (suc q) = refl

unmarshal-other : (b : Books) (m : MarshalMode) (w : Bool) (a p o i q : ℕ) → (p ≡ q → ⊥) → packet (changed b (unmarshal_change m w a p o i)) q ≡ packet b q
unmarshal-other b marshal.Normal w a p o i q h = packet-if b q w (Return p) (Join a p) (returned-packet b p q h) (joined-packet b a p q h)
unmarshal-other b marshal.Strong w a p o i q h = packet-if b q w Same (ToProxy a o i 5) refl (proxied-packet b a o i 5 q)
unmarshal-other b marshal.Weak w a p o i q h = packet-if b q w Same (ToProxy a o i 5) refl (proxied-packet b a o i 5 q)

other-packet : (owned : ℕ → ℕ → Bool) (b : Books) (a p q : ℕ) → (p ≡ q → ⊥) → packet (changed b (change owned b (Unmarshals a p))) q ≡ packet b q
other-packet owned b a p q h = packet-if b q (packet b p).outstanding _ Same (unmarshal-other b (packet b p).mode (owned (packet b p).object a) a p (packet b p).object (packet b p).iface q h) refl

unmarshals-first : (owned : ℕ → ℕ → Bool) (b : Books) (a p q : ℕ) (k : Packet) → packet b q ≡ k → q ≡ p → k.outstanding ≡ true → Full b → owned k.object a ≡ false → 1 ≤ (changed b (change owned b (Unmarshals a p))).proxy a k.object k.iface
unmarshals-first owned b a p q k e s o f w =
    subst (λ (p : ℕ). 1 ≤ (changed b (change owned b (Unmarshals a p))).proxy a k.object k.iface) s
    (subst (λ (k : Packet). k.outstanding ≡ true → owned k.object a ≡ false → 1 ≤ (changed b (change owned b (Unmarshals a q))).proxy a k.object k.iface) e (λ o w. unmarshals-bring owned b a q o f w) o w)

pub unmarshals-all : (owned : ℕ → ℕ → Bool) (b : Books) (a q : ℕ) (k : Packet) (ps : List ℕ) → packet b q ≡ k → is_member q ps ≡ true → k.outstanding ≡ true → Full b → owned k.object a ≡ false → 1 ≤ (entered_rows owned b (map (λ p. Unmarshals a p) ps)).proxy a k.object k.iface
unmarshals-all owned b a q k [] e m o f w = cc
unmarshals-all owned b a q k (p ∷ ps) e m o f w =
    elim (eqb q p) as (λ t. eqb q p ≡ t → (t || is_member q ps) ≡ true → 1 ≤ (entered_rows owned (changed b (change owned b (Unmarshals a p))) (map (λ p. Unmarshals a p) ps)).proxy a k.object k.iface) [
      | true ↦ λ z n. rows-keep owned (changed b (change owned b (Unmarshals a p))) (map (λ p. Unmarshals a p) ps) a k.object k.iface (unmarshals-first owned b a p q k e (eqb-true q p z) o f w)
      | false ↦ λ z n. unmarshals-all owned (changed b (change owned b (Unmarshals a p))) a q k ps (other-packet owned b a p q (λ s. eqb-false q p z (sym s)) ∙ e) n o
          (changed-full b (change owned b (Unmarshals a p)) (change-brims owned b (Unmarshals a p)) f) w
    ] refl m
