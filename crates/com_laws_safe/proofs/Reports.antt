-- A report adds up: what the stub of an object counts is what its proxies, packets and tables hold.
use Rattle.std.proofs.Common.{sym, ap, ap₂, ◌∙◌, eqb-true, arith}
use Rattle.std.proofs.lemmas.Bool.{false_from_ne_true}
use Rattle.std.proofs.lemmas.List.Sums.{sum_by-cons}
use Rattle.std.proofs.lemmas.Grind.{common_steps}
use Rattle.std.specs.Prelude.{◌≡◌, refl, ℕ, zero, suc, ◌+◌, ◌≤◌, ◌<◌, Bool, true, false, not, cond, ◌==◌, ◌&&◌, List, [], ◌∷◌, length, sum_by, All}
use Rattle.com_model.specs.declared.deeds.Entry.{Entry}
use Rattle.com_model.specs.declared.scenario.Scenario.{Scenario}
use Rattle.com_refs_books.specs.Counting.{sum_below}
use Rattle.com_model.specs.Apartments.{apartments}
use Rattle.com_model.specs.Objects.{objects, finaled}
use Rattle.com_refs_books.specs.Changes.{Books, packet_holds_of, cookie_holds_of, held, is_normal, in_normal, in_table, in_cookie}
use Rattle.com_refs_books.specs.declared.keeps.Packet.{Packet}
use Rattle.com_refs_books.specs.declared.keeps.Cookie.{Cookie}
use Rattle.com_model.specs.Books.{books}
use Rattle.com_model.specs.Ends.{state_of, over_interfaces, counts_of}
use Rattle.com_model.specs.Safe.{EachPrefix, Balanced}
use Rattle.com_model.specs.Rules.{legal}
use Rattle.com_model.specs.Formed.{Formed}
use Rattle.com_refs_books.proofs.Sums.{sum-same, sum-nothing}
use Rattle.com_model.proofs.Fines.{GoodPacket, GoodCookie}
use Rattle.com_model.proofs.Scenes.{faces}
use Rattle.com_model.proofs.Kept.{legal-kept}
use Rattle.com_laws_balance.proofs.Carries.{all-head, all-tail}
use Rattle.com_laws_balance.proofs.Balances.{legal-balanced}
use Rattle.com_laws_safety.proofs.Caused.{each-prefix}
use Rattle.com_laws_safety.proofs.Severed.{severed}
use Rattle.com_laws_release.proofs.Dyings.{finaled-dead}
use Rattle.com_laws_safe.specs.Stricter.{NothingUnless, ReportsAddUp}

-- ---- sums

sum-add : (n : ℕ) (f g : ℕ → ℕ) → sum_below n (λ i. f i + g i) ≡ sum_below n f + sum_below n g
sum-add zero f g = refl
sum-add (suc n) f g = omega (arith, sum-add n f g)

sum-swap : (n m : ℕ) (f : ℕ → ℕ → ℕ) → sum_below n (λ i. sum_below m (λ a. f a i)) ≡ sum_below m (λ a. sum_below n (f a))
sum-swap n zero f = sum-nothing n (λ i. 0) (λ i. refl)
sum-swap n (suc m) f = sum-add n (λ i. sum_below m (λ a. f a i)) (f m) ∙ ap (λ (k : ℕ). k + sum_below n (f m)) (sum-swap n m f)

sum-list : {X : Type 0} (n : ℕ) (f : ℕ → X → ℕ) (xs : List X) → sum_below n (λ i. sum_by (f i) xs) ≡ sum_by (λ x. sum_below n (λ i. f i x)) xs
sum-list n f [] = sum-nothing n (λ i. 0) (λ i. refl)
sum-list n f (x ∷ xs) =
    sum-same n (λ i. sum_by (f i) (x ∷ xs)) (λ i. f i x + sum_by (f i) xs) (λ i h. sum_by-cons (f i) x xs)
    ∙ sum-add n (λ i. f i x) (λ i. sum_by (f i) xs)
    ∙ ap (λ (k : ℕ). sum_below n (λ i. f i x) + k) (sum-list n f xs)
    ∙ sym (sum_by-cons (λ y. sum_below n (λ i. f i y)) x xs)

-- The one term of a key.
sum-key : (n k r : ℕ) → k < n → sum_below n (λ i. cond (k == i) r 0) ≡ r
sum-key zero k r h = absurd (omega (arith, h))
sum-key (suc n) k r h =
    elim (k == n) as (λ t. (k == n) ≡ t → sum_below n (λ i. cond (k == i) r 0) + cond t r 0 ≡ r) [
      | true ↦ λ e. let same : k ≡ n = eqb-true k n e in let z : sum_below n (λ i. cond (k == i) r 0) ≡ 0 = none-below n k r (omega (arith, same)) in omega (arith, z)
      | false ↦ λ e. let z : sum_below n (λ i. cond (k == i) r 0) ≡ r = sum-key n k r (grind (arith, common_steps, e, h)) in omega (arith, z)
    ] refl
  where
    none-below : (n k r : ℕ) → n ≤ k → sum_below n (λ i. cond (k == i) r 0) ≡ 0
    none-below n k r p = sum-same n (λ i. cond (k == i) r 0) (λ i. 0) (λ i h. ap (λ (t : Bool). cond t r 0) (false_from_ne_true (k == i) (λ e. let z : k ≡ i = eqb-true k i e in omega (arith, z, p, h)))) ∙ sum-nothing n (λ i. 0) (λ i. refl)

sum-where : (n k r : ℕ) (u v : Bool) → k < n → sum_below n (λ i. cond (u && (v && k == i)) r 0) ≡ cond (u && v) r 0
sum-where n k r true true h = sum-key n k r h
sum-where n k r true false h = sum-nothing n (λ i. 0) (λ i. refl)
sum-where n k r false v h = sum-nothing n (λ i. 0) (λ i. refl)

either-mode : (u m v : Bool) (r : ℕ) → cond (u && v) r 0 ≡ cond (u && (m && v)) r 0 + cond (u && (not m && v)) r 0
either-mode true true true r = omega arith
either-mode true true false r = omega arith
either-mode true false true r = omega arith
either-mode true false false r = omega arith
either-mode false m v r = omega arith

packet-sum : (n m o : ℕ) (p : Packet) → GoodPacket n m p → sum_below m (λ i. packet_holds_of o i p) ≡ in_normal o p + in_table o p
packet-sum n m o p g = sum-where m p.iface p.refs p.outstanding (p.object == o) g.1 ∙ either-mode p.outstanding (is_normal p.mode) (p.object == o) p.refs

cookie-sum : (n m o : ℕ) (g : Cookie) → GoodCookie n m g → sum_below m (λ i. cookie_holds_of o i g) ≡ in_cookie o g
cookie-sum n m o g q = sum-where m g.iface g.refs true (g.object == o) q.1

packets-sum : (n m o : ℕ) (ps : List Packet) → All (GoodPacket n m) ps → sum_by (λ p. sum_below m (λ i. packet_holds_of o i p)) ps ≡ sum_by (in_normal o) ps + sum_by (in_table o) ps
packets-sum n m o [] g = refl
packets-sum n m o (p ∷ ps) g =
    let here : sum_below m (λ i. packet_holds_of o i p) ≡ in_normal o p + in_table o p = packet-sum n m o p (all-head (GoodPacket n m) p ps g) in
    let rest : sum_by (λ p. sum_below m (λ i. packet_holds_of o i p)) ps ≡ sum_by (in_normal o) ps + sum_by (in_table o) ps = packets-sum n m o ps (all-tail (GoodPacket n m) p ps g) in
    let a : sum_by (λ p. sum_below m (λ i. packet_holds_of o i p)) (p ∷ ps) ≡ sum_below m (λ i. packet_holds_of o i p) + sum_by (λ p. sum_below m (λ i. packet_holds_of o i p)) ps = sum_by-cons (λ p. sum_below m (λ i. packet_holds_of o i p)) p ps in
    let b : sum_by (in_normal o) (p ∷ ps) ≡ in_normal o p + sum_by (in_normal o) ps = sum_by-cons (in_normal o) p ps in
    let c : sum_by (in_table o) (p ∷ ps) ≡ in_table o p + sum_by (in_table o) ps = sum_by-cons (in_table o) p ps in
    joined _ _ _ _ _ _ _ _ _ a b c here rest
  where
    joined : (x y z u v w r s t : ℕ) → x ≡ u + r → y ≡ v + s → z ≡ w + t → u ≡ v + w → r ≡ s + t → x ≡ y + z
    joined x y z u v w r s t a b c d e = omega (arith, a, b, c, d, e)

cookies-sum : (n m o : ℕ) (gs : List Cookie) → All (GoodCookie n m) gs → sum_by (λ g. sum_below m (λ i. cookie_holds_of o i g)) gs ≡ sum_by (in_cookie o) gs
cookies-sum n m o [] q = refl
cookies-sum n m o (g ∷ gs) q =
    sum_by-cons (λ g. sum_below m (λ i. cookie_holds_of o i g)) g gs
    ∙ ap₂ (λ (x y : ℕ). x + y) (cookie-sum n m o g (all-head (GoodCookie n m) g gs q)) (cookies-sum n m o gs (all-tail (GoodCookie n m) g gs q))
    ∙ sym (sum_by-cons (in_cookie o) g gs)

-- ---- the report

held-sum : (a n m o : ℕ) (b : Books) → All (GoodPacket n m) b.packets → All (GoodCookie n m) b.cookies → sum_below m (λ i. held a b o i) ≡ sum_below a (λ x. sum_below m (b.proxy x o)) + sum_by (in_normal o) b.packets + (sum_by (in_table o) b.packets + sum_by (in_cookie o) b.cookies)
held-sum a n m o b p q =
    let all : sum_below m (λ i. held a b o i) ≡ sum_below m (λ i. sum_below a (λ x. b.proxy x o i) + sum_by (packet_holds_of o i) b.packets) + sum_below m (λ i. sum_by (cookie_holds_of o i) b.cookies) =
    sum-add m (λ i. sum_below a (λ x. b.proxy x o i) + sum_by (packet_holds_of o i) b.packets) (λ i. sum_by (cookie_holds_of o i) b.cookies) in
    let two : sum_below m (λ i. sum_below a (λ x. b.proxy x o i) + sum_by (packet_holds_of o i) b.packets) ≡ sum_below m (λ i. sum_below a (λ x. b.proxy x o i)) + sum_below m (λ i. sum_by (packet_holds_of o i) b.packets) =
    sum-add m (λ i. sum_below a (λ x. b.proxy x o i)) (λ i. sum_by (packet_holds_of o i) b.packets) in
    let x : sum_below m (λ i. sum_below a (λ x. b.proxy x o i)) ≡ sum_below a (λ x. sum_below m (b.proxy x o)) = sum-swap m a (λ x i. b.proxy x o i) in
    let y : sum_below m (λ i. sum_by (packet_holds_of o i) b.packets) ≡ sum_by (in_normal o) b.packets + sum_by (in_table o) b.packets = sum-list m (packet_holds_of o) b.packets ∙ packets-sum n m o b.packets p in
    let z : sum_below m (λ i. sum_by (cookie_holds_of o i) b.cookies) ≡ sum_by (in_cookie o) b.cookies = sum-list m (cookie_holds_of o) b.cookies ∙ cookies-sum n m o b.cookies q in
    joined _ _ _ _ _ _ _ _ _ all two x y z
  where
    joined : (t u w x y r v n c : ℕ) → t ≡ u + w → u ≡ x + y → x ≡ r → y ≡ v + n → w ≡ c → t ≡ r + v + (n + c)
    joined t u w x y r v n c a b d e f = omega (arith, a, b, d, e, f)

counts-sum : (s : Scenario) (h : List Entry) (o : ℕ) → Formed s → legal s h → Balanced s h → (counts_of s h o).stub ≡ (counts_of s h o).proxies + (counts_of s h o).packets + (counts_of s h o).tables
counts-sum s h o f q b =
    sum-same (faces s) ((books s h).stub o) (λ i. held (apartments h) (books s h) o i) (λ i k. b o i)
    ∙ held-sum (apartments h) (objects h) (faces s) o (books s h) (legal-kept s h f q).books.packets (legal-kept s h f q).books.cookies

stub-none : (s : Scenario) (h : List Entry) (o : ℕ) → (books s h).live o ≡ false → over_interfaces s ((books s h).stub o) ≡ 0
stub-none s h o e = sum-nothing (length s.classes.interfaces) ((books s h).stub o) (severed s h o e).no_stub

by-state : (released live : Bool) (n : ℕ) → (released ≡ true → n ≡ 0) → (live ≡ false → n ≡ 0) → NothingUnless (state_of released live) n
by-state true live n f g = f refl
by-state false true n f g = tt
by-state false false n f g = g refl

adds-up : (s : Scenario) (h : List Entry) → Formed s → legal s h → Balanced s h → ReportsAddUp s h
adds-up s h f q b o = record {
  sum = counts-sum s h o f q b;
  connected = by-state (finaled h o) ((books s h).live o) (counts_of s h o).stub (λ e. stub-none s h o (finaled-dead s h o f q e).not_live) (λ e. stub-none s h o e);
}

last-prefix : (P : List Entry → Type 0) (h : List Entry) → EachPrefix P h → P h
last-prefix P [] p = p
last-prefix P (e ∷ h) p = p.1

pub legal-reports : (s : Scenario) (h : List Entry) → Formed s → legal s h → EachPrefix (ReportsAddUp s) h
legal-reports s h f q = each-prefix s (ReportsAddUp s) (λ h p. adds-up s h f p (last-prefix (Balanced s) h (legal-balanced s h p))) h q
