-- Lists whose first elements were changed, one after another.
use Rattle.std.proofs.Common.{◌≡◌, ℕ, zero, suc, List, [], ◌∷◌, ◌++◌, ◌+◌, ◌-◌, ◌<◌, ◌≤◌, length, length-append, set, get_or}
use Rattle.std.proofs.Common.{refl, ap, sym, subst, ◌∙◌, arith, add-one, append_assoc, append-nil}
use Rattle.std.specs.Prelude.{map}
use Rattle.com_draw_state.specs.Board.{copies}
use Rattle.com_draw_state.specs.declared.board.TheConstants.{MOST_LANES}

-- the list in which so many elements from the first on are changed
unfoldable pub mapped : {X : Type 0} → (X → X) → ℕ → List X → List X
mapped f zero xs = xs
mapped f (suc n) [] = []
mapped f (suc n) (x ∷ xs) = f x ∷ mapped f n xs

pub mapped_none : {X : Type 0} (f : X → X) (xs : List X) → mapped f 0 xs ≡ xs
unfolding mapped
mapped_none f xs = refl

step : {X : Type 0} (f : X → X) (n : ℕ) (xs : List X) (d : X) → n < length xs
    → set (mapped f n xs) n (f (get_or (mapped f n xs) n d)) ≡ mapped f (suc n) xs
unfolding mapped
step f zero [] d h = absurd (omega arith)
step f zero (y ∷ xs) d h = refl
step f (suc n) [] d h = absurd (omega arith)
step f (suc n) (y ∷ xs) d h = ap (λ rest. f y ∷ rest) (step f n xs d (omega arith))

same_length : {X : Type 0} (f : X → X) (n : ℕ) (xs : List X) → length (mapped f n xs) ≡ length xs
unfolding mapped
same_length f zero xs = refl
same_length f (suc n) [] = refl
same_length f (suc n) (x ∷ xs) = ap suc (same_length f n xs)

-- one element more
pub mapped_next : {X : Type 0} (f : X → X) (n : ℕ) (xs now : List X) (d new : X) → now ≡ mapped f n xs → n < length now → new ≡ f (get_or now n d)
    → set now n new ≡ mapped f (n + 1) xs
mapped_next {X} f n xs now d new e h is =
    let P : List X → Type 0 = λ v. n < length v → new ≡ f (get_or v n d) → set v n new ≡ mapped f (n + 1) xs in
    subst P (sym e) (λ lt i. rw (add-one, i) (step f n xs d (omega (arith, same_length f n xs)))) h is

all_of : {X : Type 0} (f : X → X) (n : ℕ) (xs : List X) → length xs ≤ n → mapped f n xs ≡ map f xs
unfolding mapped
all_of f zero [] h = refl
all_of f zero (x ∷ xs) h = absurd (omega arith)
all_of f (suc n) [] h = refl
all_of f (suc n) (x ∷ xs) h = ap (λ rest. f x ∷ rest) (all_of f n xs (omega arith))

-- all elements
pub mapped_all : {X : Type 0} (f : X → X) (n : ℕ) (xs now : List X) → now ≡ mapped f n xs → length now ≤ n → now ≡ map f xs
mapped_all f n xs now e h = e ∙ all_of f n xs (omega (arith, same_length f n xs, ap length e))

-- one more of the same behind a list
pub copies_more : {X : Type 0} (xs longer : List X) (x : X) (left : ℕ) → longer ≡ xs ++ x ∷ [] → 0 < left
    → longer ++ copies (left - 1) x ≡ xs ++ copies left x
copies_more xs longer x zero e h = absurd (omega arith)
copies_more xs longer x (suc n) e h =
    let one : suc n - 1 ≡ n = omega arith in
    rw (e, one) (append_assoc xs (x ∷ []) (copies n x))

pub copies_none : {X : Type 0} (xs : List X) (x : X) (left : ℕ) → left ≤ 0 → xs ++ copies left x ≡ xs
copies_none xs x zero h = append-nil xs
copies_none xs x (suc n) h = absurd (omega arith)

pub length_copies : {X : Type 0} (x : X) (n : ℕ) → length (copies n x) ≡ n
length_copies x zero = refl
length_copies x (suc n) = ap suc (length_copies x n)

-- the lanes before the first entry are few
pub few_lanes : {X : Type 0} (none a b d : List X) (x y z : X) (t p : ℕ) → none ≡ [] → a ≡ none ++ copies t x → b ≡ a ++ copies 1 y → d ≡ b ++ copies p z
    → t + p < MOST_LANES → length d ≤ MOST_LANES
few_lanes none a b d x y z t p en ea eb ed h =
    rw (ed, eb, ea, en) (simp (length-append, length_copies) (omega arith))
