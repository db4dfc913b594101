-- The first line of a text, and those behind it.
use Rattle.std.proofs.Common.{◌≡◌, ◌≢◌, ℕ, zero, suc, ◌+◌, ◌==◌, ◌-◌, ◌<◌, ◌≤◌, List, [], ◌∷◌, false, true, refl, ap, length, take, drop, get_or, add-one, arith}
use Rattle.std.proofs.lemmas.List.{take_rest}
use Rattle.com_check.specs.Lines.{lines_of, onto}

no_end : (b : ℕ) → b ≢ 10 → (b == 10) ≡ false
no_end b h = grind arith

an_end : (b : ℕ) → b ≡ 10 → (b == 10) ≡ true
an_end b h = grind arith

-- A text with a line end after so many bytes.
line_before : (text : List ℕ) (n : ℕ) → n < length text → ((k : ℕ) → k < n → get_or text k 0 ≢ 10) → get_or text n 0 ≡ 10
    → lines_of text ≡ take n text ∷ lines_of (drop (suc n) text)
unfolding lines_of
line_before [] n h before end = absurd (omega arith)
line_before (b ∷ bs) zero h before end = rw (an_end b end) refl
line_before (b ∷ bs) (suc n) h before end =
    let rest : lines_of bs ≡ take n bs ∷ lines_of (drop (suc n) bs) = line_before bs n (omega arith) (λ k below. before (suc k) (omega arith)) end in
    rw (no_end b (before 0 (omega arith))) (ap (onto b) rest)

pub line_is_cut : (text : List ℕ) (n : ℕ) → n < length text → ((k : ℕ) → k < n → get_or text k 0 ≢ 10) → (n < length text → get_or text n 0 ≡ 10)
    → lines_of text ≡ take n text ∷ lines_of (drop (n + 1) text)
line_is_cut text n h before end = rw add-one (line_before text n h before (end h))

-- A text without a line end is one line.
whole_line : (b : ℕ) (bs : List ℕ) → ((k : ℕ) → k < length (b ∷ bs) → get_or (b ∷ bs) k 0 ≢ 10) → lines_of (b ∷ bs) ≡ (b ∷ bs) ∷ []
unfolding lines_of
whole_line b [] before = rw (no_end b (before 0 (omega arith))) refl
whole_line b (c ∷ bs) before =
    rw (no_end b (before 0 (omega arith))) (ap (onto b) (whole_line c bs (λ k below. before (suc k) (omega arith))))

no_line : lines_of [] ≡ []
unfolding lines_of
no_line = refl

pub last_line_is : (text rest : List ℕ) (n : ℕ) → 0 < length text → n ≡ length text → ((k : ℕ) → k < n → get_or text k 0 ≢ 10) → rest ≡ []
    → lines_of text ≡ text ∷ lines_of rest
last_line_is [] rest n some all before none = absurd (omega arith)
last_line_is (b ∷ bs) rest n some all before none =
    rw (none, no_line) (whole_line b bs (λ k below. before k (omega (arith, all, below))))

-- The first line and what follows, in the words of ranges.
pub line_is_ranges : (text : List ℕ) (n : ℕ) → n < length text → ((k : ℕ) → k < n → get_or text k 0 ≢ 10) → (n < length text → get_or text n 0 ≡ 10)
    → lines_of text ≡ take n text ∷ lines_of (take (length text - (n + 1)) (drop (n + 1) text))
line_is_ranges text n h before end = rw (take_rest text (n + 1)) (line_is_cut text n h before end)

pub last_line_is_range : (text : List ℕ) (n : ℕ) → 0 < length text → n ≤ length text → length text ≤ n → ((k : ℕ) → k < n → get_or text k 0 ≢ 10)
    → lines_of text ≡ text ∷ lines_of (take (length text - n) (drop n text))
last_line_is_range text n some low high before =
    let none : length text - n ≡ 0 = omega (arith, low, high) in
    last_line_is text (take (length text - n) (drop n text)) n some (omega (arith, low, high)) before (rw none refl)
