-- Ending twice, with fewer places the second time, is ending once.
use mathlib.Core.Path.{fun_ext}
use Rattle.std.proofs.Common.{◌≡◌, ℕ, zero, suc, Bool, true, false, eqb, cond, not, ◌&&◌, ◌+◌, ◌-◌, ◌≤◌, List, [], ◌∷◌, refl, sym, ap, ◌∙◌, arith, eqb-true}
use Rattle.std.proofs.lemmas.Grind.{common_steps}
use Rattle.std.specs.Prelude.{map, sum_by}
use Rattle.com_refs_books.specs.Counting.{sum_below, count_if}
use Rattle.com_refs_books.specs.Changes.{Books, cut, cut_packet, cut_cookie, given_back, no_packet, packet_holds, cookie_holds, held_outside, is_weak}
use Rattle.com_refs_books.specs.Ends.{stays, ends}
use Rattle.com_refs_books.specs.declared.keeps.Packet.{Packet}
use Rattle.com_refs_books.specs.declared.keeps.Cookie.{Cookie}
use Rattle.com_refs_holders.proofs.Same.{same_books}

sum-le : (n : ℕ) (f g : ℕ → ℕ) → ((k : ℕ) → f k ≤ g k) → sum_below n f ≤ sum_below n g
sum-le zero f g p = omega arith
sum-le (suc n) f g p = omega (arith, sum-le n f g p, p n)

none-le : (x y : ℕ) → x ≤ y → eqb y 0 ≡ true → eqb x 0 ≡ true
none-le x y h e = let z : y ≡ 0 = eqb-true y 0 e in let w : x ≡ 0 = omega arith in rw w refl

-- what is given back in two steps
twice : (n : ℕ) (t u l : ℕ → Bool) (f : ℕ → ℕ) → ((k : ℕ) → t k ≡ true → u k ≡ true)
    → sum_below n (λ k. cond (t k) (f k) 0) + sum_below n (λ k. cond (u k) (cond (t k) 0 (f k)) 0) ≡ sum_below n (λ k. cond (u k) (f k) 0)
twice zero t u l f p = refl
twice (suc n) t u l f p = grind (arith, common_steps, twice n t u l f p, p n)

-- a stub that is cut in between
stub-twice : (m l : Bool) (s : ℕ) (n : ℕ) (t u : ℕ → Bool) (f : ℕ → ℕ) → (m ≡ true → l ≡ true) → ((k : ℕ) → t k ≡ true → u k ≡ true)
    → cond m (cond l (s - sum_below n (λ k. cond (t k) (f k) 0)) 0 - sum_below n (λ k. cond (u k) (cond l (cond (t k) 0 (f k)) 0) 0)) 0 ≡ cond m (s - sum_below n (λ k. cond (u k) (f k) 0)) 0
stub-twice true l s n t u f h p = rw (h refl) (omega (arith, twice n t u t f p))
stub-twice false l s n t u f h p = refl

proxy-twice : (m l t u : Bool) (f : ℕ) → (m ≡ true → l ≡ true) → (t ≡ true → u ≡ true) → cond m (cond u 0 (cond l (cond t 0 f) 0)) 0 ≡ cond m (cond u 0 f) 0
proxy-twice true l t u f h p = rw (h refl) (grind (arith, common_steps, p))
proxy-twice false l t u f h p = refl

cookie-twice : (m l : Bool) (r : ℕ) → (m ≡ true → l ≡ true) → cond m (cond l r 0) 0 ≡ cond m r 0
cookie-twice true l r h = rw (h refl) refl
cookie-twice false l r h = refl

module _ (more less : ℕ → Bool) (h : (x : ℕ) → less x ≡ true → more x ≡ true) where
  packet-twice : (p : Packet) → cut_packet less (cut_packet more p) ≡ cut_packet less p
  packet-twice p = elim (more p.object) as (λ l. more p.object ≡ l → cut_packet less (cond l p no_packet) ≡ cut_packet less p) [
    | true ↦ λ e. refl
    | false ↦ λ e. elim (less p.object) as (λ m. less p.object ≡ m → cut_packet less no_packet ≡ cond m p no_packet) [
      | true ↦ λ f. let yes : more p.object ≡ true = h p.object f in absurd (cc)
      | false ↦ λ f. grind (arith, common_steps)
    ] refl
  ] refl

  packets-twice : (ps : List Packet) → map (cut_packet less) (map (cut_packet more) ps) ≡ map (cut_packet less) ps
  packets-twice [] = refl
  packets-twice (p ∷ ps) = ap (λ x. x ∷ map (cut_packet less) (map (cut_packet more) ps)) (packet-twice p) ∙ ap (λ xs. cut_packet less p ∷ xs) (packets-twice ps)

  cookies-twice : (gs : List Cookie) → map (cut_cookie less) (map (cut_cookie more) gs) ≡ map (cut_cookie less) gs
  cookies-twice [] = refl
  cookies-twice (g ∷ gs) = ap (λ (n : ℕ). record g { refs = n } ∷ map (cut_cookie less) (map (cut_cookie more) gs)) (cookie-twice (less g.object) (more g.object) g.refs (h g.object)) ∙ ap (λ xs. cut_cookie less g ∷ xs) (cookies-twice gs)

-- what stays is held by as many packets and cookies as before
pub holds-kept : (live : ℕ → Bool) (x : ℕ) → live x ≡ true → (ps : List Packet) → sum_by (packet_holds x) (map (cut_packet live) ps) ≡ sum_by (packet_holds x) ps
holds-kept live x h [] = refl
holds-kept live x h (p ∷ ps) =
    let rest = holds-kept live x h ps in
    let here : packet_holds x (cut_packet live p) ≡ packet_holds x p = elim (live p.object) as (λ l. live p.object ≡ l → packet_holds x (cond l p no_packet) ≡ packet_holds x p) [
      | true ↦ λ e. refl
      | false ↦ λ e. elim (eqb p.object x) as (λ t. eqb p.object x ≡ t → 0 ≡ count_if (p.outstanding && (not (is_weak p.mode) && t))) [
        | true ↦ λ t. let same : p.object ≡ x = eqb-true p.object x t in let yes : live p.object ≡ true = rw same h in absurd (cc)
        | false ↦ λ t. grind (arith, common_steps)
      ] refl
    ] refl in
    grind (arith, common_steps, rest, here)

pub holds-same : (live : ℕ → Bool) (x : ℕ) (gs : List Cookie) → sum_by (cookie_holds x) (map (cut_cookie live) gs) ≡ sum_by (cookie_holds x) gs
holds-same live x [] = refl
holds-same live x (g ∷ gs) = grind (arith, common_steps, holds-same live x gs)

module _ (n : ℕ) (places later : ℕ → ℕ → ℕ) (b : Books) (fewer : (a o : ℕ) → later a o ≤ places a o) where
  outside-kept : (x : ℕ) → stays n places b x ≡ true → held_outside (ends n places b) x ≡ held_outside b x
  unfolding ends
  outside-kept x h = omega (arith, holds-kept (stays n places b) x h b.packets, holds-same (stays n places b) x b.cookies)

  stay-test : (l : Bool) (p q k : ℕ) → q ≤ p → (l && not (eqb (p + k) 0)) && not (eqb (q + k) 0) ≡ l && not (eqb (q + k) 0)
  stay-test true p q k h = grind (arith, common_steps, h)
  stay-test false p q k h = refl

  live-is : (x : ℕ) → stays n later (ends n places b) x ≡ stays n places b x && not (eqb (sum_below n (λ a. later a x) + held_outside (ends n places b) x) 0)
  unfolding ends
  live-is x = refl

  below-test : (l : Bool) (p q k : ℕ) → q ≤ p → l && not (eqb (q + k) 0) ≡ true → l && not (eqb (p + k) 0) ≡ true
  below-test true p q k h e = grind (arith, common_steps, h, e)
  below-test false p q k h e = e

  below : (x : ℕ) → stays n later b x ≡ true → stays n places b x ≡ true
  below x e = below-test (b.live x) _ _ (held_outside b x) (sum-le n (λ a. later a x) (λ a. places a x) (λ a. fewer a x)) e

  stays-again : (x : ℕ) → stays n later (ends n places b) x ≡ stays n later b x
  stays-again x =
      let le : sum_below n (λ a. later a x) ≤ sum_below n (λ a. places a x) = sum-le n (λ a. later a x) (λ a. places a x) (λ a. fewer a x) in
      let test = stay-test (b.live x) (sum_below n (λ a. places a x)) (sum_below n (λ a. later a x)) (held_outside b x) le in
      live-is x ∙ (elim (stays n places b x) as (λ t. stays n places b x ≡ t → t && not (eqb (sum_below n (λ a. later a x) + held_outside (ends n places b) x) 0) ≡ stays n later b x) [
        | true ↦ λ e. let o = outside-kept x e in rw o (sym (ap (λ t. t && not (eqb (sum_below n (λ a. later a x) + held_outside b x) 0)) e) ∙ test)
        | false ↦ λ e. sym (ap (λ t. t && not (eqb (sum_below n (λ a. later a x) + held_outside b x) 0)) e) ∙ test
      ] refl)

  pub ends_again : ends n later (ends n places b) ≡ ends n later b
  unfolding ends
  ends_again =
      let again : stays n later (ends n places b) ≡ stays n later b = fun_ext stays-again in
      ap (λ (t : ℕ → Bool). cut t (given_back n later (ends n places b))) again ∙ same_books _ _ (record {
        stub = λ o i. stub-twice (stays n later b o) (stays n places b o) (b.stub o i) n (λ a. eqb (places a o) 0) (λ a. eqb (later a o) 0) (λ a. b.proxy a o i) (below o) (λ a. none-le _ _ (fewer a o));
        proxy = λ a o i. proxy-twice (stays n later b o) (stays n places b o) (eqb (places a o) 0) (eqb (later a o) 0) (b.proxy a o i) (below o) (none-le _ _ (fewer a o));
        packets = packets-twice (stays n places b) (stays n later b) below b.packets;
        cookies = cookies-twice (stays n places b) (stays n later b) below b.cookies;
        live = λ o. refl;
        arguments = refl;
        result = refl;
      })
