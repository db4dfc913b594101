-- Words in the order of their numbers, after one comes and after one goes.
use Rattle.std.proofs.Common.{◌≡◌, ℕ, zero, suc, ◌+◌, ◌<◌, ◌≤◌, ℤ, Bool, true, false, not, cond, ◌==◌, if◌then◌else◌, List, [], ◌∷◌, ◌++◌, length, Option, Some, None, refl, sym, ◌∙◌, ap, subst, arith, filter, slice_index_or, slice_get, nat_lt, eqb-true}
use Rattle.std.proofs.lemmas.Bool.{lt-ltb, ltb-true, false_from_ne_true}
use Rattle.std.proofs.lemmas.Grind.{common_steps}
use Rattle.std.specs.List.{remove}
use Rattle.std.specs.List.Sorted.{IsNonDecreasingBy}
use Rattle.com_model.specs.declared.keeps.Word.{Word}
use Rattle.com_model.specs.Lists.{without_first}
use Rattle.com_model.specs.declared.keeps.Mark.{Mark}
use Rattle.com_model.specs.Waiting.{Mail, Asks, not_asked, mark_of, without_mark, asked_about, taken_if, mail_after}
use Rattle.com_lane_lists.specs.Words.{number_of, Ascend}

pub ascend_lower : (m n : ℕ) (ws : List Word) (p : ℕ) → m ≤ n → Ascend n ws p → Ascend m ws p
ascend_lower m n [] p h a = omega (arith, h, a)
ascend_lower m n (w ∷ ws) p h a = (omega (arith, h, a.0), a.1)

pub ascend_first : (n : ℕ) (ws : List Word) (p : ℕ) → Ascend n ws p → Ascend n (without_first ws) p
ascend_first n [] p a = a
ascend_first n (w ∷ ws) p a = ascend_lower n w.number ws p (omega (arith, a.0)) a.1

pub ascend_append : (n : ℕ) (ws : List Word) (p : ℕ) (x : ℤ) → Ascend n ws p → Ascend n (ws ++ record { number = p + 1; word = x } ∷ []) (p + 1)
ascend_append n [] p x a = (omega (arith, a), omega arith)
ascend_append n (w ∷ ws) p x a = (a.0, ascend_append w.number ws p x a.1)

pub ascend_filter : (t : Word → Bool) (n : ℕ) (ws : List Word) (p : ℕ) → Ascend n ws p → Ascend n (filter t ws) p
ascend_filter t n [] p a = a
ascend_filter t n (w ∷ ws) p a = by-test (t w) (ascend_filter t w.number ws p a.1) a.0
  where
    by-test : (b : Bool) → Ascend w.number (filter t ws) p → n < w.number → Ascend n (cond b (w ∷ filter t ws) (filter t ws)) p
    by-test true r h = (h, r)
    by-test false r h = ascend_lower n w.number (filter t ws) p (omega (arith, h)) r

above : (n : ℕ) (ws : List Word) (p : ℕ) → Ascend n ws p → (i : ℕ) (d : Word) → i < length ws → n < (slice_index_or ws i d).number
above n [] p a i d h = absurd (omega (arith, h))
above n (w ∷ ws) p a zero d h = a.0
above n (w ∷ ws) p a (suc i) d h = let z : w.number < (slice_index_or ws i d).number = above w.number ws p a.1 i d (omega (arith, h)) in omega (arith, z, a.0)

pub ascend_rises : (n : ℕ) (ws : List Word) (p : ℕ) → Ascend n ws p → IsNonDecreasingBy number_of ws
ascend_rises n [] p a i j d le lt = absurd (omega (arith, lt))
ascend_rises n (w ∷ ws) p a zero zero d le lt = omega arith
ascend_rises n (w ∷ ws) p a zero (suc j) d le lt = let z : w.number < (slice_index_or ws j d).number = above w.number ws p a.1 j d (omega (arith, lt)) in omega (arith, z)
ascend_rises n (w ∷ ws) p a (suc i) zero d le lt = absurd (omega (arith, le))
ascend_rises n (w ∷ ws) p a (suc i) (suc j) d le lt = ascend_rises w.number ws p a.1 i j d (omega (arith, le)) (omega (arith, lt))

test-lt : (a b : ℕ) → a < b → nat_lt a b ≡ true
test-lt a b h = lt-ltb a b h

test-le : (a b : ℕ) → b ≤ a → nat_lt a b ≡ false
test-le a b h = false_from_ne_true (nat_lt a b) (λ q. let z : a < b = ltb-true a b q in absurd (omega (arith, z, h)))

pub not_asked_at : (mark : ℕ) (ws : List Word) (i : ℕ) → ((k : ℕ) (d : Word) → k < i → k < length ws → (slice_index_or ws k d).number ≤ mark) → ((d : Word) → i < length ws → mark < (slice_index_or ws i d).number)
    → slice_get ws i ≡ not_asked mark ws
not_asked_at mark [] i f g = refl
not_asked_at mark (w ∷ ws) zero f g = sym (ap (λ (b : Bool). if b then Some w else not_asked mark ws) (test-lt mark w.number (g w (omega arith))))
not_asked_at mark (w ∷ ws) (suc i) f g =
    not_asked_at mark ws i (λ k d h q. f (suc k) d (omega (arith, h)) (omega (arith, q))) (λ d h. g d (omega (arith, h)))
    ∙ sym (ap (λ (b : Bool). if b then Some w else not_asked mark ws) (test-le mark w.number (f zero w (omega arith) (omega arith))))

test-apart : (a b : ℕ) → a < b → (a == b) ≡ false
test-apart a b h = false_from_ne_true (a == b) (λ q. let z : a ≡ b = eqb-true a b q in absurd (omega (arith, z, h)))

test-apart' : (a b : ℕ) → b < a → (a == b) ≡ false
test-apart' a b h = false_from_ne_true (a == b) (λ q. let z : a ≡ b = eqb-true a b q in absurd (omega (arith, z, h)))

test-same : (a : ℕ) → (a == a) ≡ true
test-same a = grind (arith, common_steps)

abbrev pub others : ℕ → List Word → List Word
others k ws = filter (λ (w : Word). not (w.number == k)) ws

all-others : (n k : ℕ) (ws : List Word) (p : ℕ) → Ascend n ws p → k ≤ n → others k ws ≡ ws
all-others n k [] p a h = refl
all-others n k (w ∷ ws) p a h =
    ap (λ (b : Bool). cond (not b) (w ∷ others k ws) (others k ws)) (test-apart' w.number k (omega (arith, a.0, h)))
    ∙ ap (λ (xs : List Word). w ∷ xs) (all-others w.number k ws p a.1 (omega (arith, a.0, h)))

pub removed : (n : ℕ) (ws : List Word) (p : ℕ) → Ascend n ws p → (i : ℕ) (d : Word) → i < length ws → remove ws i ≡ others (slice_index_or ws i d).number ws
removed n [] p a i d h = absurd (omega (arith, h))
removed n (w ∷ ws) p a zero d h =
    sym (ap (λ (b : Bool). cond (not b) (w ∷ others w.number ws) (others w.number ws)) (test-same w.number) ∙ all-others w.number w.number ws p a.1 (omega arith))
removed n (w ∷ ws) p a (suc i) d h =
    let k : ℕ = (slice_index_or ws i d).number in
    ap (λ (xs : List Word). w ∷ xs) (removed w.number ws p a.1 i d (omega (arith, h)))
    ∙ sym (ap (λ (b : Bool). cond (not b) (w ∷ others k ws) (others k ws)) (test-apart w.number k (above w.number ws p a.1 i d (omega (arith, h)))))

-- A call is asked about a word.

abbrev pub seen : ℕ → List Word → List Mark → Mail
seen p ws ms = record { posted = p; words = ws; marks = ms }

abbrev pub marked : ℕ → ℕ → List Mark → List Mark
marked c n ms = record { call = c; number = n } ∷ without_mark c ms

get-within : (ws : List Word) (i : ℕ) (w : Word) → slice_get ws i ≡ Some w → i < length ws
get-within [] i w e = absurd cc
get-within (x ∷ ws) zero w e = omega arith
get-within (x ∷ ws) (suc i) w e = let z : i < length ws = get-within ws i w e in omega (arith, z)

get-is : (ws : List Word) (i : ℕ) (w d : Word) → slice_get ws i ≡ Some w → slice_index_or ws i d ≡ w
get-is [] i w d e = absurd cc
get-is (x ∷ ws) zero w d e = cc
get-is (x ∷ ws) (suc i) w d e = get-is ws i w d e

pub word_within : (ws : List Word) (i : ℕ) (w : Word) → slice_get ws i ≡ Some w → i < length ws
word_within ws i w e = get-within ws i w e

abbrev asked : (p : ℕ) (ws : List Word) (ms : List Mark) (c n : ℕ) → Option Word → Mail
asked p ws ms c n o = asked_about c n o (seen p ws ms)

asked-word : (p : ℕ) (ws : List Word) (ms : List Mark) (c n i : ℕ) (o : Option Word) (t : Mail) → seen p ws ms ≡ t → slice_get ws i ≡ not_asked (mark_of ms c) ws → slice_get ws i ≡ o
    → asked p ws ms c n o ≡ mail_after (Asks c n) t
asked-word p ws ms c n i o t s e f = ap (asked p ws ms c n) (sym f ∙ e) ∙ ap (mail_after (Asks c n)) s

pub asked_none : (p : ℕ) (ws : List Word) (ms : List Mark) (c n i : ℕ) (t : Mail) → seen p ws ms ≡ t → slice_get ws i ≡ not_asked (mark_of ms c) ws → slice_get ws i ≡ None → t ≡ mail_after (Asks c n) t
asked_none p ws ms c n i t s e f = sym s ∙ asked-word p ws ms c n i None t s e f

pub asked_taken : (p : ℕ) (ws : List Word) (ms : List Mark) (c n i : ℕ) (w : Word) (t : Mail) → seen p ws ms ≡ t → Ascend 0 ws p → slice_get ws i ≡ not_asked (mark_of ms c) ws → slice_get ws i ≡ Some w → n ≡ 2
    → seen p (remove ws i) (marked c w.number ms) ≡ mail_after (Asks c n) t
asked_taken p ws ms c n i w t s a e f two =
    ap (λ (xs : List Word). seen p xs (marked c w.number ms))
    (removed 0 ws p a i w (get-within ws i w f) ∙ ap (λ (x : Word). others x.number ws) (get-is ws i w w f)
    ∙ sym (ap (λ (k : ℕ). taken_if k w.number ws) two))
    ∙ asked-word p ws ms c n i (Some w) t s e f

pub asked_left : (p : ℕ) (ws : List Word) (ms : List Mark) (c n i : ℕ) (w : Word) (t : Mail) → seen p ws ms ≡ t → slice_get ws i ≡ not_asked (mark_of ms c) ws → slice_get ws i ≡ Some w → (n ≡ 2 → ⊥)
    → seen p ws (marked c w.number ms) ≡ mail_after (Asks c n) t
asked_left p ws ms c n i w t s e f two =
    ap (λ (b : Bool). seen p (if b then others w.number ws else ws) (marked c w.number ms)) (sym (false_from_ne_true (n == 2) (λ q. two (eqb-true n 2 q))))
    ∙ asked-word p ws ms c n i (Some w) t s e f

pub ascend_removed : (ws : List Word) (p : ℕ) (i : ℕ) (w : Word) → Ascend 0 ws p → slice_get ws i ≡ Some w → Ascend 0 (remove ws i) p
ascend_removed ws p i w a f = subst (λ (xs : List Word). Ascend 0 xs p) (sym (removed 0 ws p a i w (get-within ws i w f))) (ascend_filter (λ (x : Word). not (x.number == (slice_index_or ws i w).number)) 0 ws p a)
