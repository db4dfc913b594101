-- In every history, legal or not, a stub counts at least what is held of it, over any number of apartments. So no change takes
-- more than is there.
use Rattle.std.proofs.Common.{◌≡◌, ℕ, zero, suc, Bool, true, false, eqb, cond, not, ◌&&◌, ◌+◌, ◌-◌, ◌<◌, ◌≤◌, List, [], ◌∷◌, ◌++◌, length, refl, subst, arith, add-zero, add-suc}
use Rattle.std.proofs.lemmas.Grind.{common_steps}
use Rattle.std.specs.Prelude.{slice_set, slice_index_or, map, sum_by, ◌/◌, ◌==◌, nat_le}
use Rattle.com_base.specs.declared.value.MarshalMode.{MarshalMode}
use Rattle.com_base.specs.declared.value.MarshalMode.TheVariants as marshal
use Rattle.com_refs_books.specs.Counting.{sum_below}
use Rattle.com_refs_books.specs.Changes.{Books, no_packet, no_cookie, packet, cookie, Change, ToProxy, ToPacket, Split, Join, Return, ToCookie, Withdraw, Same, at3, new_packet, changed, given_back, cut_packet, cut_cookie, cut, packet_holds_of, cookie_holds_of, held}
use Rattle.com_refs_books.specs.Changes.{Row, Makes, Takes, Asks, Marshals, Unmarshals, Drops, Registers, Revokes, marshal_change, unmarshal_change, change, entered_rows}
use Rattle.com_refs_books.specs.declared.keeps.Packet.{Packet}
use Rattle.com_refs_books.specs.declared.keeps.Cookie.{Cookie}
use Rattle.com_refs_books.proofs.Sums.{sum-changed, sum-split, sum-cut, sum-nothing}
use Rattle.com_model.specs.declared.deeds.Deed.{Deed}
use Rattle.com_model.specs.declared.deeds.Deed.TheVariants as deed
use Rattle.com_model.specs.declared.deeds.Entry.{Entry}
use Rattle.com_model.specs.declared.scenario.Scenario.{Scenario}
use Rattle.com_model.specs.Apartments.{apartments}
use Rattle.com_model.specs.Objects.{owns}
use Rattle.com_model.specs.Books.{books, kept}
use Rattle.com_model.proofs.Fines.{cond-is}
use Rattle.com_laws_amounts.specs.Amounts.{taken_from_stub, taken_from_proxy, Covers, IsThere, CoversReturns, rows_of, after_rows, places_after}

-- The stub counts at least what is held, over however many apartments.
pub record Enough (b : Books) : Type 0 where
  pub backs : (n o i : ℕ) → held n b o i ≤ b.stub o i

-- What a change has, where a cookie that it ends has W.
abbrev pub Sound : (ℕ → Type 0) → Books → Change → Type 0
Sound W b (Split a o i m) = m ≤ b.proxy a o i
Sound W b (Join a p) = (packet b p).outstanding ≡ true
Sound W b (Return p) = (packet b p).outstanding ≡ true
Sound W b (Withdraw g) = W g
Sound W b _ = Unit {0}

-- ---- sums

through : (x y z : ℕ) → x ≤ y → y ≤ z → x ≤ z
through x y z p q = omega arith

sum-grow : (n k : ℕ) (f : ℕ → ℕ) → sum_below n f ≤ sum_below (n + k) f
sum-grow n zero f = rw add-zero (omega arith)
sum-grow n (suc k) f = rw add-suc (omega (arith, sum-grow n k f))

held-grow : (n k : ℕ) (b : Books) (o i : ℕ) → held n b o i ≤ held (n + k) b o i
held-grow n k b o i = more _ _ _ _ (sum-grow n k (λ a. b.proxy a o i))
  where
    more : (x y p c : ℕ) → x ≤ y → x + p + c ≤ y + p + c
    more x y p c h = omega arith

-- It is enough to look at more apartments than one number.
from-large : (a : ℕ) (b : Books) → ((n o i : ℕ) → a < n → held n b o i ≤ b.stub o i) → Enough b
from-large a b p = record {
  backs = λ n o i. through (held n b o i) (held (n + suc a) b o i) (b.stub o i) (held-grow n (suc a) b o i) (p (n + suc a) o i (omega arith));
}

-- The proxies' sum after a change at one of them.
proxy-sum : (n a o i x : ℕ) (f : ℕ → ℕ → ℕ → ℕ) (k j : ℕ) → a < n → sum_below n (λ c. at3 a o i x f c k j) + cond (eqb k o && eqb j i) (f a k j) 0 ≡ sum_below n (λ c. f c k j) + cond (eqb k o && eqb j i) x 0
proxy-sum n a o i x f k j h =
    let main : sum_below n (λ c. at3 a o i x f c k j) + f a k j ≡ sum_below n (λ c. f c k j) + at3 a o i x f a k j = sum-changed n a (λ c. f c k j) (λ c. at3 a o i x f c k j) h (λ c other. grind (arith, common_steps, other)) in
    grind (arith, common_steps, main)

packet-sum-new : (o i k j n : ℕ) (m : MarshalMode) (ps : List Packet) → sum_by (packet_holds_of k j) (ps ++ new_packet m o i n ∷ []) ≡ sum_by (packet_holds_of k j) ps + cond (eqb k o && eqb j i) n 0
packet-sum-new o i k j n m ps = grind (arith, common_steps)

cookie-sum-new : (o i k j n : ℕ) (gs : List Cookie) → sum_by (cookie_holds_of k j) (gs ++ record { is_revoked = false; object = o; iface = i; refs = n } ∷ []) ≡ sum_by (cookie_holds_of k j) gs + cond (eqb k o && eqb j i) n 0
cookie-sum-new o i k j n gs = grind (arith, common_steps)

inside : (ps : List Packet) (p : ℕ) → (slice_index_or ps p no_packet).outstanding ≡ true → p < length ps
inside ps p h = grind (arith, common_steps)

packet-sum-end : (k j p : ℕ) (ps : List Packet) → (slice_index_or ps p no_packet).outstanding ≡ true → sum_by (packet_holds_of k j) (slice_set ps p no_packet) + cond (eqb k (slice_index_or ps p no_packet).object && eqb j (slice_index_or ps p no_packet).iface) (slice_index_or ps p no_packet).refs 0 ≡ sum_by (packet_holds_of k j) ps
packet-sum-end k j p ps h = grind (arith, common_steps, inside ps p h, h)

cookie-sum-end : (k j g : ℕ) (gs : List Cookie) → sum_by (cookie_holds_of k j) (slice_set gs g no_cookie) + cond (eqb k (slice_index_or gs g no_cookie).object && eqb j (slice_index_or gs g no_cookie).iface) (slice_index_or gs g no_cookie).refs 0 ≡ sum_by (cookie_holds_of k j) gs
cookie-sum-end k j g [] = grind (arith, common_steps)
cookie-sum-end k j zero (x ∷ gs) = grind (arith, common_steps)
cookie-sum-end k j (suc g) (x ∷ gs) = grind (arith, common_steps, cookie-sum-end k j g gs)

-- ---- one change

pub changed-enough : (b : Books) (c : Change) → Sound (λ g. Unit {0}) b c → Enough b → Enough (changed b c)
changed-enough b (ToProxy a o i m) f p = from-large a _ (λ n k j h. grind (arith, p.backs n k j, proxy-sum n a o i (b.proxy a o i + m) b.proxy k j h))
changed-enough b (ToPacket m o i r) f p = record { backs = λ n k j. grind (arith, p.backs n k j, packet-sum-new o i k j r m b.packets) }
changed-enough b (Split a o i m) f p = from-large a _ (λ n k j h. grind (arith, p.backs n k j, proxy-sum n a o i (b.proxy a o i - m) b.proxy k j h, packet-sum-new o i k j m marshal.Normal b.packets, f))
changed-enough b (Join a zero) f p = let no : false ≡ true = f in cc
changed-enough b (Join a (suc q)) f p = from-large a _ (λ n k j h. grind (arith, p.backs n k j, proxy-sum n a (packet b (suc q)).object (packet b (suc q)).iface (b.proxy a (packet b (suc q)).object (packet b (suc q)).iface + (packet b (suc q)).refs) b.proxy k j h, packet-sum-end k j q b.packets f))
changed-enough b (Return zero) f p = let no : false ≡ true = f in cc
changed-enough b (Return (suc q)) f p = record { backs = λ n k j. grind (arith, p.backs n k j, packet-sum-end k j q b.packets f) }
changed-enough b (ToCookie o i r) f p = record { backs = λ n k j. grind (arith, p.backs n k j, cookie-sum-new o i k j r b.cookies) }
changed-enough b (Withdraw zero) f p = record { backs = λ n k j. grind (arith, p.backs n k j) }
changed-enough b (Withdraw (suc g)) f p = record { backs = λ n k j. grind (arith, p.backs n k j, cookie-sum-end k j g b.cookies) }
changed-enough b Same f p = p

part : (x y p s c h : ℕ) → y + x ≡ p → s + p + c ≤ h → x ≤ h
part x y p s c h e q = omega arith

part-cookie : (x y p s c h : ℕ) → y + x ≡ c → s + p + c ≤ h → x ≤ h
part-cookie x y p s c h e q = omega arith

no-more : (t : Bool) (x : ℕ) → cond t 0 0 ≤ x
no-more true x = omega arith
no-more false x = omega arith

stub-covered : (W : ℕ → Type 0) (b : Books) (c : Change) → Sound W b c → Enough b → (k j : ℕ) → taken_from_stub b c k j ≤ b.stub k j
stub-covered W b (Return zero) f e k j = let no : false ≡ true = f in cc
stub-covered W b (Return (suc q)) f e k j = part _ _ _ _ _ _ (packet-sum-end k j q b.packets f) (e.backs 0 k j)
stub-covered W b (Withdraw zero) f e k j = no-more (eqb k 0 && eqb j 0) (b.stub k j)
stub-covered W b (Withdraw (suc g)) f e k j = part-cookie _ _ _ _ _ _ (cookie-sum-end k j g b.cookies) (e.backs 0 k j)
stub-covered W b _ f e k j = omega arith

split-covered : (f : ℕ → ℕ → ℕ → ℕ) (a o i m c k j : ℕ) → m ≤ f a o i → cond (eqb c a && (eqb k o && eqb j i)) m 0 ≤ f c k j
split-covered f a o i m c k j h = grind (arith, common_steps)

proxy-covered : (W : ℕ → Type 0) (b : Books) (c : Change) → Sound W b c → (a k j : ℕ) → taken_from_proxy c a k j ≤ b.proxy a k j
proxy-covered W b (Split a o i m) f c k j = split-covered b.proxy a o i m c k j f
proxy-covered W b _ f c k j = omega arith

is-there : (b : Books) (c : Change) → Sound (λ g. (cookie b g).is_revoked ≡ false) b c → IsThere b c
is-there b (Join a p) f = f
is-there b (Return p) f = f
is-there b (Withdraw g) f = f
is-there b _ f = tt

pub covers : (b : Books) (c : Change) → Sound (λ g. (cookie b g).is_revoked ≡ false) b c → Enough b → Covers b c
covers b c f e = record {
  stub = stub-covered (λ g. (cookie b g).is_revoked ≡ false) b c f e;
  proxy = proxy-covered (λ g. (cookie b g).is_revoked ≡ false) b c f;
  source = is-there b c f;
}

-- ---- the change of a row

-- A cookie that a row revokes has W.
abbrev pub RowHas : (ℕ → Type 0) → Row → Type 0
RowHas W (Revokes g) = W g
RowHas W _ = Unit {0}

pub any-row : (r : Row) → RowHas (λ g. Unit {0}) r
any-row (Revokes g) = tt
any-row _ = tt

sound-if : (W : ℕ → Type 0) (b : Books) (t : Bool) (c : Change) → (t ≡ true → Sound W b c) → Sound W b (cond t c Same)
sound-if W b true c f = f refl
sound-if W b false c f = tt

marshal-sound : (W : ℕ → Type 0) (b : Books) (m : MarshalMode) (w : Bool) (a o i : ℕ) → Sound W b (marshal_change m w (b.proxy a o i) a o i)
marshal-sound W b marshal.Normal w a o i = cond-is (Sound W b) w (ToPacket marshal.Normal o i 5) _ tt (cond-is (Sound W b) (nat_le 2 (b.proxy a o i)) (Split a o i (b.proxy a o i / 2)) (ToPacket marshal.Normal o i 5) (omega arith) tt)
marshal-sound W b marshal.Strong w a o i = tt
marshal-sound W b marshal.Weak w a o i = tt

unmarshal-sound : (W : ℕ → Type 0) (b : Books) (m : MarshalMode) (w : Bool) (a p o i : ℕ) → (packet b p).outstanding ≡ true → Sound W b (unmarshal_change m w a p o i)
unmarshal-sound W b marshal.Normal w a p o i q = cond-is (Sound W b) w (Return p) (Join a p) q q
unmarshal-sound W b marshal.Strong w a p o i q = cond-is (Sound W b) w Same (ToProxy a o i 5) tt tt
unmarshal-sound W b marshal.Weak w a p o i q = cond-is (Sound W b) w Same (ToProxy a o i 5) tt tt

pub change-sound : (W : ℕ → Type 0) (owned : ℕ → ℕ → Bool) (b : Books) (r : Row) → RowHas W r → Sound W b (change owned b r)
change-sound W owned b (Makes a o i) f = cond-is (Sound W b) (owned o a) Same (ToProxy a o i 5) tt tt
change-sound W owned b (Takes a o i) f = cond-is (Sound W b) (b.live o && not (owned o a)) (ToProxy a o i 5) Same tt tt
change-sound W owned b (Asks a o i) f = cond-is (Sound W b) (b.live o && (not (owned o a) && b.proxy a o i == 0)) (ToProxy a o i 5) Same tt tt
change-sound W owned b (Marshals a m o i) f = cond-is (Sound W b) (b.live o) (marshal_change m (owned o a) (b.proxy a o i) a o i) Same (marshal-sound W b m (owned o a) a o i) tt
change-sound W owned b (Unmarshals a p) f = sound-if W b (packet b p).outstanding _ (λ q. unmarshal-sound W b (packet b p).mode (owned (packet b p).object a) a p (packet b p).object (packet b p).iface q)
change-sound W owned b (Drops p) f = sound-if W b (packet b p).outstanding (Return p) (λ q. q)
change-sound W owned b (Registers o i) f = cond-is (Sound W b) (b.live o) (ToCookie o i 1) Same tt tt
change-sound W owned b (Revokes g) f = f

pub row-enough : (owned : ℕ → ℕ → Bool) (b : Books) (r : Row) → Enough b → Enough (changed b (change owned b r))
row-enough owned b r e = changed-enough b (change owned b r) (change-sound (λ g. Unit {0}) owned b r (any-row r)) e

pub rows-enough : (owned : ℕ → ℕ → Bool) (b : Books) (rs : List Row) → Enough b → Enough (entered_rows owned b rs)
rows-enough owned b [] e = e
rows-enough owned b (r ∷ rs) e = rows-enough owned (changed b (change owned b r)) rs (row-enough owned b r e)

-- ---- the end of an entry

kept-enough : (before : Books) (d : Deed) (after : Books) → Enough after → Enough (kept before d after)
kept-enough x (deed.Out c o i m r cause bytes) b p = record { backs = p.backs }
kept-enough x (deed.Leave c hr v bytes) b p = record { backs = p.backs }
kept-enough x _ b p = p

pub after-enough : (s : Scenario) (h : List Entry) (e : Entry) → Enough (books s h) → Enough (after_rows s h e)
after-enough s h e p = kept-enough (books s h) e.deed _ (rows-enough (owns s (e ∷ h)) (books s h) (rows_of s h e) p)

pub covers-returns : (n : ℕ) (places : ℕ → ℕ → ℕ) (b : Books) → Enough b → CoversReturns n places b
covers-returns n places b p = λ o i. small _ _ _ _ _ _ (sum-split n (λ a. eqb (places a o) 0) (λ a. b.proxy a o i)) (p.backs n o i)
  where
    small : (x y z p c h : ℕ) → x + y ≡ z → z + p + c ≤ h → y ≤ h
    small x y z p c h e q = omega arith

given-back-enough : (n : ℕ) (places : ℕ → ℕ → ℕ) (b : Books) → Enough b → Enough (given_back n places b)
given-back-enough n places b p = record {
  backs = λ m o i. left _ _ _ _ _ _ _ _
      (sum-split (m + n) (λ a. eqb (places a o) 0) (λ a. b.proxy a o i))
      (sum-grow m n (λ a. cond (eqb (places a o) 0) 0 (b.proxy a o i)))
      (subst (λ (k : ℕ). sum_below n (λ a. cond (eqb (places a o) 0) (b.proxy a o i) 0) ≤ sum_below k (λ a. cond (eqb (places a o) 0) (b.proxy a o i) 0)) (turned n m) (sum-grow n m (λ a. cond (eqb (places a o) 0) (b.proxy a o i) 0)))
      (p.backs (m + n) o i);
}
  where
    turned : (n m : ℕ) → n + m ≡ m + n
    turned n m = omega arith

    left : (km k rn r all p c h : ℕ) → k + r ≡ all → km ≤ k → rn ≤ r → all + p + c ≤ h → km + p + c ≤ h - rn
    left km k rn r all p c h e x y z = omega arith

packets-cut : (live : ℕ → Bool) (o i : ℕ) (ps : List Packet) → sum_by (packet_holds_of o i) (map (cut_packet live) ps) ≡ cond (live o) (sum_by (packet_holds_of o i) ps) 0
packets-cut live o i [] = grind (arith, common_steps)
packets-cut live o i (p ∷ ps) = grind (arith, common_steps, packets-cut live o i ps)

cookies-cut : (live : ℕ → Bool) (o i : ℕ) (gs : List Cookie) → sum_by (cookie_holds_of o i) (map (cut_cookie live) gs) ≡ cond (live o) (sum_by (cookie_holds_of o i) gs) 0
cookies-cut live o i [] = grind (arith, common_steps)
cookies-cut live o i (g ∷ gs) = grind (arith, common_steps, cookies-cut live o i gs)

cut-enough : (live : ℕ → Bool) (b : Books) → Enough b → Enough (cut live b)
cut-enough live b p = record {
  backs = λ n o i. grind (arith, p.backs n o i, sum-cut n (live o) (λ a. b.proxy a o i), packets-cut live o i b.packets, cookies-cut live o i b.cookies);
}

none-held : (n : ℕ) → sum_below n (λ a. 0) + 0 + 0 ≤ 0
none-held n = omega (arith, sum-nothing n (λ a. 0) (λ k. refl))

pub enough : (s : Scenario) (h : List Entry) → Enough (books s h)
enough s [] = record { backs = λ n o i. none-held n }
enough s (e ∷ h) = cut-enough _ _ (given-back-enough (apartments (e ∷ h)) (places_after s (e ∷ h)) (after_rows s h e) (after-enough s h e (enough s h)))
