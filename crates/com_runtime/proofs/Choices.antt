-- Whose turn it is, by the picks and then by the lanes in their order.
use Rattle.std.proofs.Common.{sym, subst, ◌∙◌, ap, arith, get_or, drop, append_assoc}
use Rattle.std.proofs.lemmas.Grind.{common_steps}
use Rattle.std.proofs.Math.Seq.{drop-cons}
use Rattle.std.specs.Prelude.{◌≡◌, refl, ℕ, zero, suc, ◌+◌, ◌-◌, ◌≤◌, ◌<◌, Bool, true, false, not, cond, ◌==◌, ◌&&◌, ◌||◌, nat_le, List, [], ◌∷◌, ◌++◌, length, Option, Some, None, is_none, option_map}
use Rattle.com_refs_books.specs.Counting.{numbers_from}
use Rattle.com_model.specs.declared.counts.Ended.{Ended}
use Rattle.com_model.specs.declared.counts.Ended.TheVariants as ended
use Rattle.com_model.specs.declared.scenario.Scenario.{Scenario}
use Rattle.com_model.specs.Lists.{or_else, one_to, any_of, first_that}
use Rattle.com_model.specs.Tables.{lanes}
use Rattle.com_model.specs.Rules.{can_step, no_lane_can, tick_time}
use Rattle.com_model.specs.Ends.{Turn, can_pick, picked, lanes_after, in_round, at_clock, finished_by, stuck_by, limit}
use Rattle.com_model.specs.State.{State, sight_of}
use Rattle.com_runtime.specs.declared.runtime.Standing.{Standing}
use Rattle.com_runtime.specs.declared.runtime.Standing.TheVariants as standing
use Rattle.com_runtime.specs.Standings.{can_step_in, can_pick_in, none_can_in, finished_in, standing_of, ended_now, turn_now, budget_of, CanGo, HasTurn, Rests}

-- ---- picks

low-true : (m n : ℕ) → m ≤ n → nat_le m n ≡ true
low-true m n p = grind (arith, common_steps, p)

high-false : (m n : ℕ) → n < m → nat_le m n ≡ false
high-false m n p = grind (arith, common_steps, p)

and-false : (a b c : Bool) → b ≡ false → ((a && b) && c) ≡ false
and-false true b c e = ap (λ (x : Bool). x && c) e
and-false false b c e = refl

pub too_low : (s : Scenario) (st : State) (l : ℕ) → l < 1 → false ≡ can_pick_in s st l
unfolding can_pick_in
too_low s st l p = sym (ap (λ (b : Bool). (b && nat_le l (lanes s)) && can_step_in s st l) (high-false 1 l p))

pub too_high : (s : Scenario) (st : State) (l : ℕ) → lanes s < l → false ≡ can_pick_in s st l
unfolding can_pick_in
too_high s st l p = sym (and-false (nat_le 1 l) (nat_le l (lanes s)) (can_step_in s st l) (high-false l (lanes s) p))

pub is_pick : (s : Scenario) (st : State) (l : ℕ) → 1 ≤ l → l ≤ lanes s → can_step_in s st l ≡ can_pick_in s st l
unfolding can_pick_in
is_pick s st l p q =
    sym (ap (λ (b : Bool). (b && nat_le l (lanes s)) && can_step_in s st l) (low-true 1 l p)
    ∙ ap (λ (b : Bool). b && can_step_in s st l) (low-true l (lanes s) q))

abbrev chosen : ℕ → List ℕ → Option Turn
chosen l ls = Some (record { lane = l; picks = ls })

next-of-list : (xs : List ℕ) (n : ℕ) → n < length xs → drop n xs ≡ get_or xs n 0 ∷ drop (n + 1) xs
next-of-list xs n h =
    let q : suc n ≡ n + 1 = omega arith in
    drop-cons xs n 0 h ∙ ap (λ (m : ℕ). get_or xs n 0 ∷ drop m xs) q

pub pick_on : (can : ℕ → Bool) (xs : List ℕ) (n : ℕ) → n < length xs → can (get_or xs n 0) ≡ false → picked can (drop n xs) ≡ picked can (drop (n + 1) xs)
pick_on can xs n h c =
    ap (picked can) (next-of-list xs n h)
    ∙ ap (λ (b : Bool). cond b (chosen (get_or xs n 0) (drop (n + 1) xs)) (picked can (drop (n + 1) xs))) c

pub pick_here : (can : ℕ → Bool) (xs : List ℕ) (n : ℕ) → n < length xs → can (get_or xs n 0) ≡ true → picked can (drop n xs) ≡ Some (record { lane = get_or xs n 0; picks = drop (n + 1) xs })
pick_here can xs n h c =
    ap (picked can) (next-of-list xs n h)
    ∙ ap (λ (b : Bool). cond b (chosen (get_or xs n 0) (drop (n + 1) xs)) (picked can (drop (n + 1) xs))) c

drop-past : (xs : List ℕ) (n : ℕ) → length xs ≤ n → drop n xs ≡ []
drop-past [] n h = grind (arith, common_steps)
drop-past (x ∷ xs) zero h = absurd (omega (arith, h))
drop-past (x ∷ xs) (suc n) h = drop-past xs n (omega (arith, h))

pub pick_none : (can : ℕ → Bool) (xs : List ℕ) (n : ℕ) → length xs ≤ n → picked can (drop n xs) ≡ None
pick_none can xs n h = ap (picked can) (drop-past xs n h)

-- ---- lanes in their order

-- So far as the lanes were tried: the first of all is the first of those that are left.
pub record Scanning (can : ℕ → Bool) (last count step : ℕ) : Type 0 where
  pub more : ℕ
  pub total : more + step ≡ count
  pub way : first_that can (numbers_from (last + 1) count) ≡ first_that can (numbers_from (last + 1 + step) more)

pub scan_start : (can : ℕ → Bool) (last count : ℕ) → Scanning can last count 0
scan_start can last count =
    let q : last + 1 ≡ last + 1 + 0 = omega arith in
    record { more = count; total = omega arith; way = ap (λ (m : ℕ). first_that can (numbers_from m count)) q }

pub scan_on : (can : ℕ → Bool) (last count step : ℕ) → Scanning can last count step → step < count → can (last + 1 + step) ≡ false → Scanning can last count (step + 1)
scan_on can last count step p h e = further p.more p.total p.way
  where
    further : (more : ℕ) → more + step ≡ count → first_that can (numbers_from (last + 1) count) ≡ first_that can (numbers_from (last + 1 + step) more) → Scanning can last count (step + 1)
    further zero t w = absurd (omega (arith, t, h))
    further (suc k) t w =
        let q : last + 1 + step + 1 ≡ last + 1 + (step + 1) = omega arith in
        record {
          more = k;
          total = omega (arith, t);
          way = w ∙ ap (λ (b : Bool). cond b (Some (last + 1 + step)) (first_that can (numbers_from (last + 1 + step + 1) k))) e ∙ ap (λ (m : ℕ). first_that can (numbers_from m k)) q;
        }

pub scan_here : (can : ℕ → Bool) (last count step : ℕ) → Scanning can last count step → step < count → can (last + 1 + step) ≡ true → Some (last + 1 + step) ≡ first_that can (numbers_from (last + 1) count)
scan_here can last count step p h e = found p.more p.total p.way
  where
    found : (more : ℕ) → more + step ≡ count → first_that can (numbers_from (last + 1) count) ≡ first_that can (numbers_from (last + 1 + step) more) → Some (last + 1 + step) ≡ first_that can (numbers_from (last + 1) count)
    found zero t w = absurd (omega (arith, t, h))
    found (suc k) t w = sym (w ∙ ap (λ (b : Bool). cond b (Some (last + 1 + step)) (first_that can (numbers_from (last + 1 + step + 1) k))) e)

pub scan_none : (can : ℕ → Bool) (last count step : ℕ) → Scanning can last count step → count ≤ step → None ≡ first_that can (numbers_from (last + 1) count)
scan_none can last count step p h = nothing p.more p.total p.way
  where
    nothing : (more : ℕ) → more + step ≡ count → first_that can (numbers_from (last + 1) count) ≡ first_that can (numbers_from (last + 1 + step) more) → None ≡ first_that can (numbers_from (last + 1) count)
    nothing zero t w = sym w
    nothing (suc k) t w = absurd (omega (arith, t, h))

first-append : (can : ℕ → Bool) (xs ys : List ℕ) → first_that can (xs ++ ys) ≡ or_else (first_that can xs) (first_that can ys)
first-append can [] ys = refl
first-append can (x ∷ xs) ys =
    elim (can x) as (λ b. cond b (Some x) (first_that can (xs ++ ys)) ≡ or_else (cond b (Some x) (first_that can xs)) (first_that can ys)) [
      | true ↦ refl
      | false ↦ first-append can xs ys
    ]

numbers-last : (a k : ℕ) → numbers_from a (suc k) ≡ numbers_from a k ++ (a + k) ∷ []
numbers-last a zero = let q : a ≡ a + 0 = omega arith in ap (λ (m : ℕ). m ∷ []) q
numbers-last a (suc k) =
    let q : a + 1 + k ≡ a + suc k = omega arith in
    ap (λ (xs : List ℕ). a ∷ xs) (numbers-last (a + 1) k ∙ ap (λ (m : ℕ). numbers_from (a + 1) k ++ m ∷ []) q)

one-from : (n : ℕ) → one_to n ≡ numbers_from 1 n
one-from zero = refl
one-from (suc n) =
    let q : suc n ≡ 1 + n = omega arith in
    ap (λ (xs : List ℕ). xs ++ suc n ∷ []) (one-from n) ∙ ap (λ (m : ℕ). numbers_from 1 n ++ m ∷ []) q ∙ sym (numbers-last 1 n)

one-split : (a k n : ℕ) → a + k ≡ n → one_to n ≡ one_to a ++ numbers_from (a + 1) k
one-split a zero n e =
    let q : n ≡ a = omega (arith, e) in
    ap one_to q ∙ nothing-more (one_to a)
  where
    nothing-more : (xs : List ℕ) → xs ≡ xs ++ []
    nothing-more [] = refl
    nothing-more (x ∷ xs) = ap (λ (ys : List ℕ). x ∷ ys) (nothing-more xs)
one-split a (suc k) zero e = absurd (omega (arith, e))
one-split a (suc k) (suc n) e =
    let q : suc n ≡ a + 1 + k = omega (arith, e) in
    ap (λ (xs : List ℕ). xs ++ suc n ∷ []) (one-split a k n (omega (arith, e)))
    ∙ append_assoc (one_to a) (numbers_from (a + 1) k) (suc n ∷ [])
    ∙ ap (λ (m : ℕ). one_to a ++ (numbers_from (a + 1) k ++ m ∷ [])) q
    ∙ ap (λ (xs : List ℕ). one_to a ++ xs) (sym (numbers-last (a + 1) k))

pub round_some : (can : ℕ → Bool) (s : Scenario) (last l : ℕ) → Some l ≡ first_that can (numbers_from (last + 1) (lanes s - last)) → Some l ≡ first_that can (lanes_after s last)
round_some can s last l e =
    sym (first-append can (numbers_from (last + 1) (lanes s - last)) (one_to last)
    ∙ ap (λ (x : Option ℕ). or_else x (first_that can (one_to last))) (sym e))

pub round_rest : (can : ℕ → Bool) (s : Scenario) (last : ℕ) (x : Option ℕ) → None ≡ first_that can (numbers_from (last + 1) (lanes s - last)) → x ≡ first_that can (numbers_from 1 last) → x ≡ first_that can (lanes_after s last)
round_rest can s last x e r =
    r ∙ ap (first_that can) (sym (one-from last))
    ∙ sym (first-append can (numbers_from (last + 1) (lanes s - last)) (one_to last)
    ∙ ap (λ (y : Option ℕ). or_else y (first_that can (one_to last))) (sym e))

-- ---- some lane that can step has the turn

none-first : (can : ℕ → Bool) (xs : List ℕ) → first_that can xs ≡ None → any_of can xs ≡ false
none-first can [] e = refl
none-first can (x ∷ xs) e =
    elim (can x) as (λ b. cond b (Some x) (first_that can xs) ≡ None → (b || any_of can xs) ≡ false) [
      | true ↦ λ p. cc
      | false ↦ λ p. none-first can xs p
    ] e

none-left : (x y : Option ℕ) → or_else x y ≡ None → x ≡ None
none-left None y e = refl
none-left (Some a) y e = e

none-right : (x y : Option ℕ) → or_else x y ≡ None → y ≡ None
none-right None y e = e
none-right (Some a) y e = cc

none-both : (can : ℕ → Bool) (xs ys : List ℕ) → any_of can xs ≡ false → any_of can ys ≡ false → any_of can (xs ++ ys) ≡ false
none-both can [] ys p q = q
none-both can (x ∷ xs) ys p q =
    elim (can x) as (λ b. (b || any_of can xs) ≡ false → (b || any_of can (xs ++ ys)) ≡ false) [
      | true ↦ λ e. e
      | false ↦ λ e. none-both can xs ys e q
    ] p

none-anywhere : (can : ℕ → Bool) (n last : ℕ) → last ≤ n → first_that can (numbers_from (last + 1) (n - last) ++ one_to last) ≡ None → any_of can (one_to n) ≡ false
none-anywhere can n last p e =
    let parts = sym (first-append can (numbers_from (last + 1) (n - last)) (one_to last)) ∙ e in
    let whole : one_to n ≡ one_to last ++ numbers_from (last + 1) (n - last) = one-split last (n - last) n (omega (arith, p)) in
    ap (any_of can) whole
    ∙ none-both can (one_to last) (numbers_from (last + 1) (n - last))
    (none-first can (one_to last) (none-right _ _ parts))
    (none-first can (numbers_from (last + 1) (n - last)) (none-left _ _ parts))

-- ---- by how the state stands

abbrev standing_by : (f k n : Bool) → Standing
standing_by f k n = cond f standing.Finished (cond k standing.Stuck (cond n standing.Ticks standing.Runs))

runs-by : (f k n : Bool) → standing_by f k n ≡ standing.Runs → (f ≡ false) × (k ≡ false) × (n ≡ false)
runs-by true k n e = cc
runs-by false true n e = cc
runs-by false false true e = cc
runs-by false false false e = (refl, refl, refl)

ticks-by : (f k n : Bool) → standing_by f k n ≡ standing.Ticks → (f ≡ false) × (k ≡ false) × (n ≡ true)
ticks-by true k n e = cc
ticks-by false true n e = cc
ticks-by false false true e = (refl, refl, refl)
ticks-by false false false e = cc

finished-by : (f k n : Bool) → standing_by f k n ≡ standing.Finished → f ≡ true
finished-by true k n e = refl
finished-by false true n e = cc
finished-by false false true e = cc
finished-by false false false e = cc

stuck-by : (f k n : Bool) → standing_by f k n ≡ standing.Stuck → (f ≡ false) × (k ≡ true)
stuck-by true k n e = cc
stuck-by false true n e = (refl, refl)
stuck-by false false true e = cc
stuck-by false false false e = cc

is-runs : (s : Scenario) (st : State) → standing_of s st ≡ standing.Runs → (finished_by s (sight_of s st) ≡ false) × (stuck_by s (sight_of s st) ≡ false) × (no_lane_can s (sight_of s st) ≡ false)
unfolding standing_of
is-runs s st e = runs-by _ _ _ e

is-ticks : (s : Scenario) (st : State) → standing_of s st ≡ standing.Ticks → (finished_by s (sight_of s st) ≡ false) × (stuck_by s (sight_of s st) ≡ false) × (no_lane_can s (sight_of s st) ≡ true)
unfolding standing_of
is-ticks s st e = ticks-by _ _ _ e

pub turn_picked : (s : Scenario) (st : State) (picks : List ℕ) (last : ℕ) (t : Turn) → standing_of s st ≡ standing.Runs → picked (can_pick_in s st) picks ≡ Some t → turn_now s st picks last ≡ Some t
unfolding turn_now can_pick_in can_step_in
turn_picked s st picks last t e p =
    ap (λ (b : Bool). cond b (at_clock (sight_of s st) picks) (or_else (picked (can_pick s (sight_of s st)) picks) (in_round s (sight_of s st) last))) ((is-runs s st e).2)
    ∙ ap (λ (x : Option Turn). or_else x (in_round s (sight_of s st) last)) p

past-all : (picks : List ℕ) → drop (length picks) picks ≡ []
past-all picks = drop-past picks (length picks) (omega arith)

pub turn_round : (s : Scenario) (st : State) (picks left : List ℕ) (last l : ℕ) → standing_of s st ≡ standing.Runs → picked (can_pick_in s st) left ≡ None → Some l ≡ first_that (can_step_in s st) (lanes_after s last) → turn_now s st left last ≡ Some (record { lane = l; picks = drop (length picks) picks })
unfolding turn_now can_pick_in can_step_in
turn_round s st picks left last l e p q =
    ap (λ (b : Bool). cond b (at_clock (sight_of s st) left) (or_else (picked (can_pick s (sight_of s st)) left) (in_round s (sight_of s st) last))) ((is-runs s st e).2)
    ∙ ap (λ (x : Option Turn). or_else x (in_round s (sight_of s st) last)) p
    ∙ ap (λ (x : Option ℕ). option_map (λ (k : ℕ). record { lane = k; picks = [] }) x) (sym q)
    ∙ ap (λ (xs : List ℕ). chosen l xs) (sym (past-all picks))

not-false : (b : Bool) → not b ≡ false → b ≡ true
not-false true e = refl
not-false false e = cc

both : (b : Bool) → b ≡ true → b ≡ false → ⊥
both b p q = cc

pub none_can : (s : Scenario) (st : State) (last : ℕ) → last ≤ lanes s → None ≡ first_that (can_step_in s st) (lanes_after s last) → none_can_in s st ≡ true
unfolding can_step_in none_can_in
none_can s st last p q = ap not (none-anywhere (can_step s (sight_of s st)) (lanes s) last p (sym q))

pub has_picked : (s : Scenario) (st : State) (picks left : List ℕ) (last l : ℕ) → picked (can_pick_in s st) picks ≡ Some (record { lane = l; picks = left }) → HasTurn s st picks last l left
has_picked s st picks left last l p = record { turn = λ e. turn_picked s st picks last (record { lane = l; picks = left }) e p }

pub has_round : (s : Scenario) (st : State) (picks left : List ℕ) (last l n : ℕ) → n ≡ length picks → picked (can_pick_in s st) left ≡ None → Some l ≡ first_that (can_step_in s st) (lanes_after s last) → HasTurn s st left last l (drop n picks)
has_round s st picks left last l n e p q = record { turn = λ r. turn_round s st picks left last l r p q ∙ ap (λ (k : ℕ). chosen l (drop k picks)) (sym e) }

pub same_turn : (s : Scenario) (st : State) (all picks : List ℕ) (tried left last l : ℕ) → all ≡ picks → HasTurn s st (drop tried all) last l (drop left all) → HasTurn s st (drop tried picks) last l (drop left picks)
same_turn s st all picks tried left last l e p = subst (λ (xs : List ℕ). HasTurn s st (drop tried xs) last l (drop left xs)) e p

-- ---- how the state stands where a lane can step

any-left : (can : ℕ → Bool) (xs ys : List ℕ) → any_of can xs ≡ true → any_of can (xs ++ ys) ≡ true
any-left can [] ys e = cc
any-left can (x ∷ xs) ys e =
    elim (can x) as (λ b. (b || any_of can xs) ≡ true → (b || any_of can (xs ++ ys)) ≡ true) [
      | true ↦ λ p. refl
      | false ↦ λ p. any-left can xs ys p
    ] e

any-right : (can : ℕ → Bool) (xs : List ℕ) (y : ℕ) → can y ≡ true → any_of can (xs ++ y ∷ []) ≡ true
any-right can [] y e = ap (λ (b : Bool). b || false) e
any-right can (x ∷ xs) y e =
    elim (can x) as (λ b. (b || any_of can (xs ++ y ∷ [])) ≡ true) [
      | true ↦ refl
      | false ↦ any-right can xs y e
    ]

any-within : (can : ℕ → Bool) (n l : ℕ) → 1 ≤ l → l ≤ n → can l ≡ true → any_of can (one_to n) ≡ true
any-within can zero l p q e = absurd (omega (arith, p, q))
any-within can (suc n) l p q e =
    elim (nat_le l n) as (λ t. nat_le l n ≡ t → any_of can (one_to (suc n)) ≡ true) [
      | true ↦ λ z. any-left can (one_to n) (suc n ∷ []) (any-within can n l p (grind (arith, common_steps, z)) e)
      | false ↦ λ z. let same : l ≡ suc n = grind (arith, common_steps, z, q) in any-right can (one_to n) (suc n) (ap can (sym same) ∙ e)
    ] refl

runs-if : (f n : Bool) (x : Option ℕ) → (f ≡ true → n ≡ true) → n ≡ false → standing_by f (n && (is_none x && not f)) n ≡ standing.Runs
runs-if true true x p e = cc
runs-if true false x p e = absurd (both true refl (sym (p refl) ∙ e))
runs-if false true x p e = cc
runs-if false false x p e = refl

pub runs_when : (s : Scenario) (st : State) (l : ℕ) → Rests s st → CanGo s st l → standing.Runs ≡ standing_of s st
unfolding standing_of can_step_in none_can_in finished_in
runs_when s st l p g =
    sym (runs-if (finished_by s (sight_of s st)) (no_lane_can s (sight_of s st)) (tick_time (sight_of s st)) p
    (ap not (any-within (can_step s (sight_of s st)) (lanes s) l g.0 g.1 g.2)))

pub not_runs : (s : Scenario) (st : State) → standing.Runs ≡ standing_of s st → none_can_in s st ≡ true → ⊥
unfolding none_can_in
not_runs s st e p = both (no_lane_can s (sight_of s st)) p ((is-runs s st (sym e)).2)

clock-due : (f k n : Bool) (x : Option ℕ) (picks : List ℕ) → n ≡ true → f ≡ false → (n && (is_none x && not f)) ≡ false → option_map (λ (t : ℕ). record { lane = 0; picks = picks }) x ≡ chosen 0 picks
clock-due f k n (Some t) picks a b c = refl
clock-due true k n None picks a b c = cc
clock-due false k false None picks a b c = cc
clock-due false k true None picks a b c = cc

pub turn_ticks : (s : Scenario) (st : State) (picks : List ℕ) (last : ℕ) → standing_of s st ≡ standing.Ticks → turn_now s st picks last ≡ Some (record { lane = 0; picks = picks })
unfolding turn_now
turn_ticks s st picks last e =
    let w = is-ticks s st e in
    ap (λ (b : Bool). cond b (at_clock (sight_of s st) picks) (or_else (picked (can_pick s (sight_of s st)) picks) (in_round s (sight_of s st) last))) (w.2)
    ∙ clock-due (finished_by s (sight_of s st)) false (no_lane_can s (sight_of s st)) (tick_time (sight_of s st)) picks w.2 w.0 w.1

-- ---- ends

abbrev ended_as_by : (f k n : Bool) → Option Ended
ended_as_by f k n = cond f (Some ended.Ok) (cond k (Some ended.Stuck) (cond n (Some ended.Budget) None))

pub ended_finished : (s : Scenario) (st : State) → standing.Finished ≡ standing_of s st → Some ended.Ok ≡ ended_now s st
unfolding standing_of ended_now
ended_finished s st e =
    sym (ap (λ (f : Bool). ended_as_by f (stuck_by s (sight_of s st)) (st.entries == limit s)) (finished-by _ _ _ (sym e)))

pub ended_stuck : (s : Scenario) (st : State) → standing.Stuck ≡ standing_of s st → Some ended.Stuck ≡ ended_now s st
unfolding standing_of ended_now
ended_stuck s st e =
    let w = stuck-by _ _ _ (sym e) in
    sym (ap (λ (f : Bool). ended_as_by f (stuck_by s (sight_of s st)) (st.entries == limit s)) w.0
    ∙ ap (λ (k : Bool). ended_as_by false k (st.entries == limit s)) w.1)

within-by : (s : Scenario) (st : State) → finished_by s (sight_of s st) ≡ false → stuck_by s (sight_of s st) ≡ false → budget_of s st ≡ ended_now s st
unfolding ended_now
within-by s st f k =
    sym (ap (λ (f : Bool). ended_as_by f (stuck_by s (sight_of s st)) (st.entries == limit s)) f
    ∙ ap (λ (k : Bool). ended_as_by false k (st.entries == limit s)) k)

pub ended_ticks : (s : Scenario) (st : State) → standing.Ticks ≡ standing_of s st → budget_of s st ≡ ended_now s st
ended_ticks s st e = let w = is-ticks s st (sym e) in within-by s st w.0 w.1

pub ended_runs : (s : Scenario) (st : State) → standing.Runs ≡ standing_of s st → budget_of s st ≡ ended_now s st
ended_runs s st e = let w = is-runs s st (sym e) in within-by s st w.0 w.1
