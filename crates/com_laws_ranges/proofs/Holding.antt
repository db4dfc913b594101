-- How many public references a stub counts and a proxy has after so many entries: no more than twenty for each.
use Rattle.std.proofs.Common.{subst, sym, ap, ◌∙◌, eqb-true, arith}
use Rattle.std.proofs.lemmas.Bool.{ltb-true, ltb-false}
use Rattle.std.proofs.lemmas.Grind.{common_steps}
use Rattle.std.specs.Prelude.{◌≡◌, refl, ℕ, zero, suc, ◌+◌, ◌-◌, ◌*◌, ◌/◌, ◌≤◌, ◌<◌, pos, Bool, true, false, cond, not, ◌==◌, ◌&&◌, nat_le, nat_lt, List, [], ◌∷◌, length, map, Option, Some, None}
use Rattle.com_base.specs.declared.value.Value.{Value}
use Rattle.com_base.specs.declared.value.MarshalMode.{MarshalMode}
use Rattle.com_base.specs.declared.value.MarshalMode.TheVariants as marshal
use Rattle.com_body.specs.declared.operands.Asked.TheVariants as asked
use Rattle.com_body.specs.declared.actions.Action.{Action}
use Rattle.com_model.specs.declared.deeds.Deed.{Deed}
use Rattle.com_model.specs.declared.deeds.Deed.TheVariants as deed
use Rattle.com_model.specs.declared.deeds.Entry.{Entry}
use Rattle.com_model.specs.declared.scenario.Scenario.{Scenario}
use Rattle.com_model.specs.Answers.{is_S_OK}
use Rattle.com_model.specs.Lists.{number_or_zero}
use Rattle.com_model.specs.Apartments.{running, apartments, next_sta}
use Rattle.com_model.specs.Values.{carried, result_list}
use Rattle.com_model.specs.Frames.{Scene, scene, act}
use Rattle.com_model.specs.Endings.{ending, is_leave}
use Rattle.com_model.specs.Places.{Ground, ground}
use Rattle.com_refs_books.specs.Counting.{sum_below, numbers_from}
use Rattle.com_refs_books.specs.Changes.{Books, packet, cookie, Change, ToProxy, ToPacket, Split, Join, Return, ToCookie, Withdraw, Same, changed, Row, Makes, Takes, Asks, Marshals, Unmarshals, Drops, Registers, Revokes, marshal_change, unmarshal_change, change, marshal_all, entered_rows, made_since, held}
use Rattle.com_model.specs.Books.{out_values, reply_rows, back_rows, rows, kept, most, closed, books}
use Rattle.com_model.specs.Formed.{Formed}
use Rattle.com_model.specs.Safe.{Balanced}
use Rattle.com_model.specs.Rules.{legal}
use Rattle.com_model.proofs.Fines.{cond-is}
use Rattle.com_model.proofs.Kept.{legal-kept}
use Rattle.com_laws_safety.proofs.Small.{and-left, and-right}
use Rattle.com_laws_balance.proofs.Balances.{legal-balanced}
use Rattle.com_laws_ranges.proofs.Numbers.{out-few, carried-few, result-few}

-- ---- rows leave which packets are a call's

pub record SameOwners (b c : Books) : Type 0 where
  pub arguments : c.arguments ≡ b.arguments
  pub result : c.result ≡ b.result

change-keeps : (b : Books) (c : Change) → SameOwners b (changed b c)
change-keeps b (ToProxy x y z m) = record { arguments = refl; result = refl }
change-keeps b (ToPacket m x y r) = record { arguments = refl; result = refl }
change-keeps b (Split x y z m) = record { arguments = refl; result = refl }
change-keeps b (Join x q) = record { arguments = refl; result = refl }
change-keeps b (Return q) = record { arguments = refl; result = refl }
change-keeps b (ToCookie x y m) = record { arguments = refl; result = refl }
change-keeps b (Withdraw g) = record { arguments = refl; result = refl }
change-keeps b Same = record { arguments = refl; result = refl }

pub rows-keep : (owned : ℕ → ℕ → Bool) (b : Books) (rs : List Row) → SameOwners b (entered_rows owned b rs)
rows-keep owned b [] = record { arguments = refl; result = refl }
rows-keep owned b (r ∷ rs) =
    let c : Books = changed b (change owned b r) in
    let x : SameOwners b c = change-keeps b (change owned b r) in
    let y : SameOwners c (entered_rows owned c rs) = rows-keep owned c rs in
    record { arguments = y.arguments ∙ x.arguments; result = y.result ∙ x.result }

-- ---- the stubs gain five with a row

abbrev Gains : (n : ℕ) (b c : Books) → Type 0
Gains n b c = (o i : ℕ) → c.stub o i ≤ b.stub o i + n

at-least : (n : ℕ) (f : ℕ → ℕ → ℕ) (o i x k j : ℕ) → x ≤ f o i + n → cond (k == o && j == i) x (f k j) ≤ f k j + n
at-least n f o i x k j h =
    elim (k == o && j == i) as (λ t. (k == o && j == i) ≡ t → cond t x (f k j) ≤ f k j + n) [
      | true ↦ λ e. let a : k ≡ o = eqb-true k o (and-left (k == o) (j == i) e) in let b : j ≡ i = eqb-true j i (and-right (k == o) (j == i) e) in
          subst (λ (m : ℕ). x ≤ f m j + n) (sym a) (subst (λ (m : ℕ). x ≤ f o m + n) (sym b) h)
      | false ↦ λ e. omega arith
    ] refl

less : (x y n : ℕ) → x - y ≤ x + n
less x y n = omega arith

-- What a change may give to a stub.
abbrev Gives : Change → Type 0
Gives (ToProxy a o i n) = n ≤ 5
Gives (ToPacket m o i n) = n ≤ 5
Gives (ToCookie o i n) = n ≤ 5
Gives _ = Unit {0}

changed-gains : (b : Books) (c : Change) → Gives c → Gains 5 b (changed b c)
changed-gains b (ToProxy a o i n) p = λ k j. at-least 5 b.stub o i (b.stub o i + n) k j (omega (arith, p))
changed-gains b (ToPacket m o i n) p = λ k j. at-least 5 b.stub o i (b.stub o i + n) k j (omega (arith, p))
changed-gains b (Split a o i n) p = λ k j. omega arith
changed-gains b (Join a q) p = λ k j. omega arith
changed-gains b (Return q) p = λ k j. at-least 5 b.stub (packet b q).object (packet b q).iface _ k j (less (b.stub (packet b q).object (packet b q).iface) (packet b q).refs 5)
changed-gains b (ToCookie o i n) p = λ k j. at-least 5 b.stub o i (b.stub o i + n) k j (omega (arith, p))
changed-gains b (Withdraw g) p = λ k j. at-least 5 b.stub (cookie b g).object (cookie b g).iface _ k j (less (b.stub (cookie b g).object (cookie b g).iface) (cookie b g).refs 5)
changed-gains b Same p = λ k j. omega arith

marshal-gives : (m : MarshalMode) (owned : Bool) (n a o i : ℕ) → Gives (marshal_change m owned n a o i)
marshal-gives marshal.Normal owned n a o i = cond-is Gives owned (ToPacket marshal.Normal o i 5) _ (omega arith) (cond-is Gives (nat_le 2 n) (Split a o i (n / 2)) (ToPacket marshal.Normal o i 5) tt (omega arith))
marshal-gives marshal.Strong owned n a o i = omega arith
marshal-gives marshal.Weak owned n a o i = omega arith

unmarshal-gives : (m : MarshalMode) (owned : Bool) (a p o i : ℕ) → Gives (unmarshal_change m owned a p o i)
unmarshal-gives marshal.Normal owned a p o i = cond-is Gives owned (Return p) (Join a p) tt tt
unmarshal-gives marshal.Strong owned a p o i = cond-is Gives owned Same (ToProxy a o i 5) tt (omega arith)
unmarshal-gives marshal.Weak owned a p o i = cond-is Gives owned Same (ToProxy a o i 5) tt (omega arith)

change-gives : (owned : ℕ → ℕ → Bool) (b : Books) (r : Row) → Gives (change owned b r)
change-gives owned b (Makes a o i) = cond-is Gives (owned o a) Same (ToProxy a o i 5) tt (omega arith)
change-gives owned b (Takes a o i) = cond-is Gives (b.live o && not (owned o a)) (ToProxy a o i 5) Same (omega arith) tt
change-gives owned b (Asks a o i) = cond-is Gives (b.live o && (not (owned o a) && b.proxy a o i == 0)) (ToProxy a o i 5) Same (omega arith) tt
change-gives owned b (Marshals a m o i) = cond-is Gives (b.live o) _ Same (marshal-gives m (owned o a) (b.proxy a o i) a o i) tt
change-gives owned b (Unmarshals a p) = cond-is Gives (packet b p).outstanding _ Same (unmarshal-gives (packet b p).mode (owned (packet b p).object a) a p (packet b p).object (packet b p).iface) tt
change-gives owned b (Drops p) = cond-is Gives (packet b p).outstanding (Return p) Same tt tt
change-gives owned b (Registers o i) = cond-is Gives (b.live o) (ToCookie o i 1) Same (omega arith) tt
change-gives owned b (Revokes g) = tt

rows-gain : (owned : ℕ → ℕ → Bool) (b : Books) (rs : List Row) → Gains (5 * length rs) b (entered_rows owned b rs)
rows-gain owned b [] = λ o i. omega arith
rows-gain owned b (r ∷ rs) = λ o i.
    let c : Books = changed b (change owned b r) in
    let x : c.stub o i ≤ b.stub o i + 5 = changed-gains b (change owned b r) (change-gives owned b r) o i in
    let y : (entered_rows owned c rs).stub o i ≤ c.stub o i + 5 * length rs = rows-gain owned c rs o i in
    omega (arith, x, y)

-- ---- the rows of an entry are four at most

map-length : {X Y : Type 0} (f : X → Y) (xs : List X) → length (map f xs) ≡ length xs
map-length f [] = refl
map-length f (x ∷ xs) = ap suc (map-length f xs)

if-few : (b : Bool) (xs ys : List Row) → length xs ≤ 4 → length ys ≤ 4 → length (cond b xs ys) ≤ 4
if-few b xs ys p q = cond-is (λ (zs : List Row). length zs ≤ 4) b xs ys p q

one-carried : (v : Option Value) → length (carried (result_list v)) ≤ 4 → (a : ℕ) → length (marshal_all a (carried (result_list v))) ≤ 4
one-carried v p a = let e : length (marshal_all a (carried (result_list v))) ≡ length (carried (result_list v)) = map-length _ (carried (result_list v)) in omega (arith, e, p)

reply-few : (a : ℕ) (v : Option Value) (bytes : Option (List ℕ)) → length (carried (result_list v)) ≤ 4 → length (reply_rows a v bytes) ≤ 4
reply-few a v None p = omega arith
reply-few a v (Some bytes) p = one-carried v p a

back-few : (a : ℕ) (t : Bool) (p : Option ℕ) → length (back_rows a t p) ≤ 4
back-few a t None = omega arith
back-few a t (Some p) = if-few t (Unmarshals a p ∷ []) (Drops p ∷ []) (omega arith) (omega arith)

rows-few : (s : Scenario) (x : Option Action) (left : ℕ → Bool) (b : Books) (a : ℕ) (d : Deed) → length (carried (out_values s b true x)) ≤ 4 → ((v : Option Value) → length (carried (result_list v)) ≤ 4) → ((c : ℕ) → length (b.arguments c) ≤ 4) → length (rows s x left b a d) ≤ 4
rows-few s x left b a (deed.Made (Some o) w k (asked.Number i) hr) p r q = omega arith
rows-few s x left b a (deed.Query (Some o) (asked.Number i) hr) p r q = if-few (is_S_OK hr) (Asks a o i ∷ []) [] (omega arith) (omega arith)
rows-few s x left b a (deed.Marshal (Some n) m (Some y) refs hr bytes) p r q = omega arith
rows-few s x left b a (deed.Unmarshal (Some n) held refs hr) p r q = omega arith
rows-few s x left b a (deed.DropPacket (Some n) hr) p r q = omega arith
rows-few s x left b a (deed.Register (Some g) (Some y) hr) p r q = omega arith
rows-few s x left b a (deed.Get g (Some y) refs hr) p r q = omega arith
rows-few s x left b a (deed.Revoke (pos g) hr) p r q = if-few (is_S_OK hr) (Revokes g ∷ []) [] (omega arith) (omega arith)
rows-few s x left b a (deed.Out c o i m t k (Some bytes)) p r q = let e : length (marshal_all a (carried (out_values s b true x))) ≡ length (carried (out_values s b true x)) = map-length _ (carried (out_values s b true x)) in omega (arith, e, p)
rows-few s x left b a (deed.Enter c o y t vs) p r q = let e : length (map (λ n. Unmarshals y n) (b.arguments c)) ≡ length (b.arguments c) = map-length _ (b.arguments c) in let z : length (b.arguments c) ≤ 4 = q c in omega (arith, e, z)
rows-few s x left b a (deed.Leave c hr v bytes) p r q = reply-few a v bytes (r v)
rows-few s x left b a (deed.Back c hr v) p r q = back-few a (left c) (b.result c)
rows-few s x left b a _ p r q = omega arith

-- ---- a row makes one packet at most

packets-more : (b : Books) (c : Change) → length (changed b c).packets ≤ length b.packets + 1
packets-more b (ToProxy a o i n) = omega arith
packets-more b (ToPacket m o i n) = grind (arith, common_steps)
packets-more b (Split a o i n) = grind (arith, common_steps)
packets-more b (Join a zero) = omega arith
packets-more b (Join a (suc p)) = grind (arith, common_steps)
packets-more b (Return zero) = omega arith
packets-more b (Return (suc p)) = grind (arith, common_steps)
packets-more b (ToCookie o i n) = omega arith
packets-more b (Withdraw g) = omega arith
packets-more b Same = omega arith

rows-make : (owned : ℕ → ℕ → Bool) (b : Books) (rs : List Row) → length (entered_rows owned b rs).packets ≤ length b.packets + length rs
rows-make owned b [] = omega arith
rows-make owned b (r ∷ rs) =
    let c : Books = changed b (change owned b r) in
    let x : length c.packets ≤ length b.packets + 1 = packets-more b (change owned b r) in
    let y : length (entered_rows owned c rs).packets ≤ length c.packets + length rs = rows-make owned c rs in
    omega (arith, x, y)

-- ---- histories

pub record FewIn (b : Books) (n : ℕ) : Type 0 where
  pub arguments : (c : ℕ) → length (b.arguments c) ≤ 4
  pub stubs : (o i : ℕ) → b.stub o i ≤ 20 * n

kept-stub : (b c : Books) (d : Deed) → (kept b d c).stub ≡ c.stub
kept-stub b c (deed.Out k o i m r x bytes) = refl
kept-stub b c (deed.Leave k hr v bytes) = refl
kept-stub b c _ = refl

less-than : (x y n : ℕ) → x ≤ n → x - y ≤ n
less-than x y n h = omega (arith, h)

one-listed : (v : Option Value) → length (carried (result_list v)) ≤ 4
one-listed v = let f : length (carried (result_list v)) ≤ length (result_list v) = carried-few (result_list v) in let g : length (result_list v) ≤ 4 = result-few v in omega (arith, f, g)

cut-less : (t : Bool) (x n : ℕ) → x ≤ n → cond t x 0 ≤ n
cut-less true x n h = h
cut-less false x n h = omega arith

row-length : (n k : ℕ) → length (numbers_from n k) ≡ k
row-length n zero = refl
row-length n (suc k) = ap suc (row-length (n + 1) k)

kept-arguments : (b c : Books) (d : Deed) (x : ℕ) → length c.packets ≤ length b.packets + 4 → length (b.arguments x) ≤ 4 → length (c.arguments x) ≤ 4 → length ((kept b d c).arguments x) ≤ 4
kept-arguments b c (deed.Out k o i m r y bytes) x more p q =
    cond-is (λ (ps : List ℕ). length ps ≤ 4) (x == k) (made_since b c) (c.arguments x) (let e : length (made_since b c) ≡ length c.packets - length b.packets = row-length (length b.packets + 1) (length c.packets - length b.packets) in omega (arith, e, more)) q
kept-arguments b c (deed.Leave k hr v bytes) x more p q = q
kept-arguments b c _ x more p q = q

entry-few : (s : Scenario) (g : Ground) (w : Scene) (x : Option Action) (left : ℕ → Bool) (a : ℕ) (d : Deed) (b : Books) (n : ℕ) → length (carried (out_values s b true x)) ≤ 4 → FewIn b n → FewIn (closed s g w d (most s g w x left a d b)) (suc n)
entry-few s g w x left a d b n four few =
    let rs : List Row = rows s x left b a d in
    let c : Books = entered_rows g.owns b rs in
    let many : length rs ≤ 4 = rows-few s x left b a d four one-listed few.arguments in
    let made : length c.packets ≤ length b.packets + length rs = rows-make g.owns b rs in
    record {
      arguments = λ k. kept-arguments b c d k (omega (arith, many, made)) (few.arguments k) (subst (λ (f : ℕ → List ℕ). length (f k) ≤ 4) (sym (rows-keep g.owns b rs).arguments) (few.arguments k));
      stubs = λ o i.
          let y : c.stub o i ≤ b.stub o i + 5 * length rs = rows-gain g.owns b rs o i in
          let z : b.stub o i ≤ 20 * n = few.stubs o i in
          let e : (kept b d c).stub o i ≡ c.stub o i = ap (λ (f : ℕ → ℕ → ℕ). f o i) (kept-stub b c d) in
          let below : (most s g w x left a d b).stub o i ≤ 20 * suc n = less-than ((kept b d c).stub o i) _ (20 * suc n) (omega (arith, y, z, e, many)) in
          cut-less ((closed s g w d (most s g w x left a d b)).live o) ((most s g w x left a d b).stub o i) (20 * suc n) below;
    }

pub legal-few : (s : Scenario) (h : List Entry) → Formed s → FewIn (books s h) (length h)
legal-few s [] f = record { arguments = λ c. omega arith; stubs = λ o i. omega arith }
legal-few s (e ∷ h) f =
    let p : length (out_values s (books s h) true (act s h e.lane)) ≤ 4 = out-few s f (books s h) true (act s h e.lane) in
    let q : length (carried (out_values s (books s h) true (act s h e.lane))) ≤ length (out_values s (books s h) true (act s h e.lane)) = carried-few (out_values s (books s h) true (act s h e.lane)) in
    entry-few s (ground s (e ∷ h)) (scene s (e ∷ h)) (act s h e.lane) (λ c. is_leave (ending s h c)) (number_or_zero (running s h e.lane)) e.deed (books s h) (length h) (omega (arith, p, q)) (legal-few s h f)

-- ---- no proxy holds more than its stub counts

summed : (n a : ℕ) (f : ℕ → ℕ) → a < n → f a ≤ sum_below n f
summed zero a f h = absurd (omega (arith, h))
summed (suc n) a f h =
    elim (nat_lt a n) as (λ t. nat_lt a n ≡ t → f a ≤ sum_below n f + f n) [
      | true ↦ λ e. let p : f a ≤ sum_below n f = summed n a f (ltb-true a n e) in omega (arith, p)
      | false ↦ λ e. let q : n ≤ a = ltb-false a n e in let is : a ≡ n = omega (arith, q, h) in subst (λ (k : ℕ). f k ≤ sum_below n f + f n) (sym is) (omega arith)
    ] refl

balanced : (s : Scenario) (h : List Entry) → legal s h → Balanced s h
balanced s [] q = legal-balanced s [] q
balanced s (e ∷ h) q = (legal-balanced s (e ∷ h) q).1

pub proxies-few : (s : Scenario) (h : List Entry) → Formed s → legal s h → (a o i : ℕ) → (books s h).proxy a o i ≤ 20 * length h
proxies-few s h f q a o i =
    let b : Books = books s h in
    let z : b.stub o i ≤ 20 * length h = (legal-few s h f).stubs o i in
    let e : b.stub o i ≡ held (apartments h) b o i = balanced s h q o i in
    elim (nat_lt a (next_sta h)) as (λ t. nat_lt a (next_sta h) ≡ t → b.proxy a o i ≤ 20 * length h) [
      | true ↦ λ u. let y : b.proxy a o i ≤ sum_below (next_sta h) (λ x. b.proxy x o i) = summed (next_sta h) a (λ x. b.proxy x o i) (ltb-true a (next_sta h) u) in omega (arith, y, z, e)
      | false ↦ λ u. let y : b.proxy a o i ≡ 0 = (legal-kept s h f q).books.proxy_a a o i (ltb-false a (next_sta h) u) in omega (arith, y)
    ] refl
