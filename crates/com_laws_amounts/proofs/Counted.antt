-- Over the integers the numbers are those of the books.
use Rattle.std.proofs.Common.{arith}
use Rattle.std.proofs.lemmas.Grind.{common_steps}
use Rattle.std.proofs.lemmas.Int.{ints}
use Rattle.std.specs.Prelude.{◌≡◌, refl, ℕ, zero, suc, ◌+◌, ◌-◌, ◌≤◌, ℤ, pos, ◌+ℤ◌, ◌-ℤ◌, ◌≤ℤ◌, Bool, true, false, cond, ◌==◌, List, [], ◌∷◌, sum_by}
use Rattle.com_refs_books.specs.Counting.{sum_below}
use Rattle.com_refs_books.specs.Changes.{Books, packet, cookie, Change, ToProxy, ToPacket, Split, Join, Return, ToCookie, Withdraw, at2, at3, changed, Row, change, entered_rows, given_back, cut, packet_holds_of, cookie_holds_of}
use Rattle.com_model.specs.declared.deeds.Deed.{Deed}
use Rattle.com_model.specs.declared.deeds.Deed.TheVariants as deed
use Rattle.com_model.specs.declared.deeds.Entry.{Entry}
use Rattle.com_model.specs.declared.scenario.Scenario.{Scenario}
use Rattle.com_model.specs.Apartments.{apartments}
use Rattle.com_model.specs.Objects.{owns}
use Rattle.com_model.specs.Books.{books, kept}
use Rattle.com_model.specs.Rules.{legal}
use Rattle.com_model.specs.Safe.{EachPrefix, Balanced}
use Rattle.com_laws_balance.proofs.Balances.{legal-balanced}
use Rattle.com_laws_safety.proofs.Caused.{each-prefix}
use Rattle.com_laws_amounts.specs.Amounts.{if_same, if_same_proxy, given_to_stub, taken_from_stub, given_to_proxy, taken_from_proxy, Covers, CoversRows, CoversReturns, rows_of, places_after, IsCovered}
use Rattle.com_laws_amounts.specs.Integers.{Numbers, counted, counted_rows, int_sum_below, given_if, counted_back, counted_cut, numbers, AreEqual, NoneNegative, Balances}
use Rattle.com_laws_amounts.proofs.Covered.{legal-covered}

-- ---- one change, over the natural numbers

at2-gain : (o i n : ℕ) (f : ℕ → ℕ → ℕ) (k j : ℕ) → at2 o i (f o i + n) f k j + 0 ≡ f k j + if_same k j o i n
at2-gain o i n f k j = grind (arith, common_steps)

at2-lose : (o i n : ℕ) (f : ℕ → ℕ → ℕ) (k j : ℕ) → if_same k j o i n ≤ f k j → at2 o i (f o i - n) f k j + if_same k j o i n ≡ f k j + 0
at2-lose o i n f k j h = grind (arith, common_steps)

at3-gain : (a o i n : ℕ) (f : ℕ → ℕ → ℕ → ℕ) (c k j : ℕ) → at3 a o i (f a o i + n) f c k j + 0 ≡ f c k j + if_same_proxy c k j a o i n
at3-gain a o i n f c k j = grind (arith, common_steps)

at3-lose : (a o i n : ℕ) (f : ℕ → ℕ → ℕ → ℕ) (c k j : ℕ) → if_same_proxy c k j a o i n ≤ f c k j → at3 a o i (f a o i - n) f c k j + if_same_proxy c k j a o i n ≡ f c k j + 0
at3-lose a o i n f c k j h = grind (arith, common_steps)

stub-moves : (b : Books) (c : Change) → Covers b c → (k j : ℕ) → (changed b c).stub k j + taken_from_stub b c k j ≡ b.stub k j + given_to_stub c k j
stub-moves b (ToProxy a o i n) p k j = at2-gain o i n b.stub k j
stub-moves b (ToPacket m o i n) p k j = at2-gain o i n b.stub k j
stub-moves b (Return q) p k j = at2-lose (packet b q).object (packet b q).iface (packet b q).refs b.stub k j (p.stub k j)
stub-moves b (ToCookie o i n) p k j = at2-gain o i n b.stub k j
stub-moves b (Withdraw g) p k j = at2-lose (cookie b g).object (cookie b g).iface (cookie b g).refs b.stub k j (p.stub k j)
stub-moves b _ p k j = refl

proxy-moves : (b : Books) (c : Change) → Covers b c → (a k j : ℕ) → (changed b c).proxy a k j + taken_from_proxy c a k j ≡ b.proxy a k j + given_to_proxy b c a k j
proxy-moves b (ToProxy a o i n) p c k j = at3-gain a o i n b.proxy c k j
proxy-moves b (Split a o i n) p c k j = at3-lose a o i n b.proxy c k j (p.proxy c k j)
proxy-moves b (Join a q) p c k j = at3-gain a (packet b q).object (packet b q).iface (packet b q).refs b.proxy c k j
proxy-moves b _ p c k j = refl

-- ---- one change, over the integers

moved : (z : ℤ) (x y given taken : ℕ) → z ≡ pos x → y + taken ≡ x + given → z +ℤ pos given -ℤ pos taken ≡ pos y
moved z x y given taken e m = omega (arith, ints)

counted-equal : (b : Books) (z : Numbers) (c : Change) → Covers b c → AreEqual z b → AreEqual (counted b z c) (changed b c)
counted-equal b z c p e = record {
  stub = λ k j. moved (z.stub k j) (b.stub k j) ((changed b c).stub k j) (given_to_stub c k j) (taken_from_stub b c k j) (e.stub k j) (stub-moves b c p k j);
  proxy = λ a k j. moved (z.proxy a k j) (b.proxy a k j) ((changed b c).proxy a k j) (given_to_proxy b c a k j) (taken_from_proxy c a k j) (e.proxy a k j) (proxy-moves b c p a k j);
}

rows-equal : (owned : ℕ → ℕ → Bool) (b : Books) (z : Numbers) (rs : List Row) → CoversRows owned b rs → AreEqual z b → AreEqual (counted_rows owned b z rs) (entered_rows owned b rs)
rows-equal owned b z [] p e = e
rows-equal owned b z (r ∷ rs) p e = rows-equal owned (changed b (change owned b r)) (counted b z (change owned b r)) rs p.1 (counted-equal b z (change owned b r) p.0 e)

kept-equal : (before : Books) (d : Deed) (b : Books) (z : Numbers) → AreEqual z b → AreEqual z (kept before d b)
kept-equal x (deed.Out c o i m r cause bytes) b z p = record { stub = p.stub; proxy = p.proxy }
kept-equal x (deed.Leave c hr v bytes) b z p = record { stub = p.stub; proxy = p.proxy }
kept-equal x _ b z p = p

-- ---- the end of an entry

given-if-is : (t : Bool) (z : ℤ) (x : ℕ) → z ≡ pos x → given_if t z ≡ pos (cond t x 0)
given-if-is true z x e = e
given-if-is false z x e = refl

joined : (z w : ℤ) (x y : ℕ) → z ≡ pos x → w ≡ pos y → z +ℤ w ≡ pos (x + y)
joined z w x y e f = omega (arith, ints)

int-sum-is : (n : ℕ) (g : ℕ → ℤ) (f : ℕ → ℕ) → ((k : ℕ) → g k ≡ pos (f k)) → int_sum_below n g ≡ pos (sum_below n f)
int-sum-is zero g f p = refl
int-sum-is (suc n) g f p = joined (int_sum_below n g) (g n) (sum_below n f) (f n) (int-sum-is n g f p) (p n)

less : (z w : ℤ) (x y : ℕ) → z ≡ pos x → w ≡ pos y → y ≤ x → z -ℤ w ≡ pos (x - y)
less z w x y e f h = omega (arith, ints)

all-or-none : (t : Bool) (z : ℤ) (x : ℕ) → z ≡ pos x → z -ℤ given_if t z ≡ pos (cond t 0 x)
all-or-none true z x e = omega (arith, ints)
all-or-none false z x e = omega (arith, ints)

back-equal : (n : ℕ) (places : ℕ → ℕ → ℕ) (b : Books) (z : Numbers) → CoversReturns n places b → AreEqual z b → AreEqual (counted_back n places z) (given_back n places b)
back-equal n places b z p e = record {
  stub = λ o i. less (z.stub o i) (int_sum_below n (λ a. given_if (places a o == 0) (z.proxy a o i))) (b.stub o i) (sum_below n (λ a. cond (places a o == 0) (b.proxy a o i) 0)) (e.stub o i)
      (int-sum-is n (λ a. given_if (places a o == 0) (z.proxy a o i)) (λ a. cond (places a o == 0) (b.proxy a o i) 0) (λ a. given-if-is (places a o == 0) (z.proxy a o i) (b.proxy a o i) (e.proxy a o i)))
      (p o i);
  proxy = λ a o i. all-or-none (places a o == 0) (z.proxy a o i) (b.proxy a o i) (e.proxy a o i);
}

cut-equal : (live : ℕ → Bool) (b : Books) (z : Numbers) → AreEqual z b → AreEqual (counted_cut live z) (cut live b)
cut-equal live b z e = record {
  stub = λ o i. given-if-is (live o) (z.stub o i) (b.stub o i) (e.stub o i);
  proxy = λ a o i. given-if-is (live o) (z.proxy a o i) (b.proxy a o i) (e.proxy a o i);
}

equal : (s : Scenario) (h : List Entry) → legal s h → AreEqual (numbers s h) (books s h)
equal s [] q = record { stub = λ o i. refl; proxy = λ a o i. refl }
equal s (e ∷ h) q =
    let c : IsCovered s h e = (legal-covered s (e ∷ h) q).1 in
    cut-equal _ _ _ (back-equal (apartments (e ∷ h)) (places_after s (e ∷ h)) _ _ c.returns
    (kept-equal (books s h) e.deed _ _ (rows-equal (owns s (e ∷ h)) (books s h) (numbers s h) (rows_of s h e) c.rows (equal s h q.0))))

-- ---- the laws

pub legal-equal : (s : Scenario) (h : List Entry) → legal s h → EachPrefix (λ h. AreEqual (numbers s h) (books s h)) h
legal-equal s = each-prefix s (λ h. AreEqual (numbers s h) (books s h)) (λ h q. equal s h q)

not-below : (z : ℤ) (x : ℕ) → z ≡ pos x → pos 0 ≤ℤ z
not-below z x e = omega (arith, ints)

none : (z : Numbers) (b : Books) → AreEqual z b → NoneNegative z
none z b e = record {
  stub = λ o i. not-below (z.stub o i) (b.stub o i) (e.stub o i);
  proxy = λ a o i. not-below (z.proxy a o i) (b.proxy a o i) (e.proxy a o i);
}

pub legal-none : (s : Scenario) (h : List Entry) → legal s h → EachPrefix (λ h. NoneNegative (numbers s h)) h
legal-none s = each-prefix s (λ h. NoneNegative (numbers s h)) (λ h q. none (numbers s h) (books s h) (equal s h q))

summed : (z w : ℤ) (x y p c : ℕ) → z ≡ pos y → w ≡ pos x → y ≡ x + p + c → z ≡ w +ℤ pos p +ℤ pos c
summed z w x y p c e f q = omega (arith, ints)

balances : (n : ℕ) (b : Books) (z : Numbers) → AreEqual z b → ((o i : ℕ) → b.stub o i ≡ sum_below n (λ a. b.proxy a o i) + sum_by (packet_holds_of o i) b.packets + sum_by (cookie_holds_of o i) b.cookies) → Balances n b z
balances n b z e p = λ o i. summed (z.stub o i) (int_sum_below n (λ a. z.proxy a o i)) (sum_below n (λ a. b.proxy a o i)) (b.stub o i) (sum_by (packet_holds_of o i) b.packets) (sum_by (cookie_holds_of o i) b.cookies) (e.stub o i) (int-sum-is n (λ a. z.proxy a o i) (λ a. b.proxy a o i) (λ a. e.proxy a o i)) (p o i)

last-prefix : (P : List Entry → Type 0) (h : List Entry) → EachPrefix P h → P h
last-prefix P [] p = p
last-prefix P (e ∷ h) p = p.1

pub legal-balances : (s : Scenario) (h : List Entry) → legal s h → EachPrefix (λ h. Balances (apartments h) (books s h) (numbers s h)) h
legal-balances s = each-prefix s (λ h. Balances (apartments h) (books s h) (numbers s h)) (λ h q. balances (apartments h) (books s h) (numbers s h) (equal s h q) (last-prefix (Balanced s) h (legal-balanced s h q)))
