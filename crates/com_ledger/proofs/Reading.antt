-- Rows of packets and cookies, which the packets of calls leave alone.
use Rattle.std.proofs.Common.{◌≡◌, ℕ, zero, suc, ◌<◌, ◌≤◌, List, [], ◌∷◌, length, refl, ap, ◌∙◌, arith, inl, inr}
use Rattle.std.proofs.lemmas.Bool.{cases_lt}
use Rattle.std.specs.Prelude.{Option, slice_index_or}
use Rattle.com_refs_books.specs.Changes.{Books, packet, cookie, no_cookie}
use Rattle.com_refs_books.specs.declared.keeps.Cookie.{Cookie}

pub cookie_same : (b : Books) (x : ℕ → List ℕ) (y : ℕ → Option ℕ) (n : ℕ) → cookie (record b { arguments = x; result = y }) n ≡ cookie b n
cookie_same b x y zero = refl
cookie_same b x y (suc n) = refl

pub packet_same : (b : Books) (x : ℕ → List ℕ) (y : ℕ → Option ℕ) (n : ℕ) → packet (record b { arguments = x; result = y }) n ≡ packet b n
packet_same b x y zero = refl
packet_same b x y (suc n) = refl

past_end : (gs : List Cookie) (k : ℕ) → length gs ≤ k → no_cookie ≡ slice_index_or gs k no_cookie
past_end [] k h = refl
past_end (g ∷ gs) zero h = absurd (omega (arith, h))
past_end (g ∷ gs) (suc k) h = past_end gs k (omega (arith, h))

none_past : (b : Books) (n : ℕ) → length b.cookies < n → no_cookie ≡ cookie b n
none_past b zero h = refl
none_past b (suc k) h = past_end b.cookies k (omega (arith, h))

pub cookie_found : (b : Books) (m n k : ℕ) → length b.cookies < m → (n < m → k ≡ n) → (m ≤ n → k ≡ 0) → cookie b k ≡ cookie b n
cookie_found b m n k few within past = elim (cases_lt n m) [
  | inl l ↦ ap (λ (j : ℕ). cookie b j) (within l)
  | inr l ↦ ap (λ (j : ℕ). cookie b j) (past l) ∙ none_past b n (omega (arith, few, l))
]
