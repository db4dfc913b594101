-- Every success of `init` is balanced by one `uninit`.
use Rattle.std.proofs.Common.{◌≡◌, ◌≢◌, ℕ, ◌+◌, ◌-◌, ◌≤◌, List, [], ◌∷◌, length, Option, None, Some, Bool, true, false, ◌&&◌, cond, eqb, ltb, leb, zero, suc, get_or, set, refl, sym, ap, subst, ◌∙◌, arith, replicate}
use Rattle.std.proofs.lemmas.Bool.{cond_both, ne_eqb, eqb-true, and_parts, and_from, both_ways, ltb-true, leb-true, lt-ltb, le-leb}
use Rattle.std.proofs.lemmas.Bool.Decides.{nat_tests}
use Rattle.std.proofs.lemmas.List.{get_or-set_other, length-set}
use Rattle.std.proofs.lemmas.Grind.{get_or-set_at}
use Rattle.com_base.specs.declared.value.Mode.{Mode}
use Rattle.com_apts.specs.declared.Seat.{Seat}
use Rattle.com_apts.specs.Lanes.{Lanes, IsThread, is_thread, free_seat, seat_at, seat_of, count_of, init_succeeds, is_in_mode, after_init_at, after_uninit, Step, after_step, after_steps, success, undoing, successes, undoings, IsBalanced}
use Rattle.com_apts.specs.Lanes.Step.{Init, Uninit}
use Rattle.com_apts.proofs.LaneLemmas.{home_of-thread}

seat_at-set : (seats : List Seat) (other lane : ℕ) (seat : Seat) → 1 ≤ other → other ≤ length seats → seat_at (set seats (other - 1) seat) lane ≡ cond (eqb other lane) seat (seat_at seats lane)
seat_at-set seats other lane seat h le =
    grind (arith, nat_tests, get_or-set_at seats (other - 1) (lane - 1) seat free_seat, get_or-set_other seats (other - 1) (lane - 1) seat free_seat)

-- a lane has a home exactly as long as it is initialised
record Paired (seat : Seat) : Type 0 where
  pub housed : seat.count ≡ 0 → seat.home ≡ None
  pub unhoused : seat.home ≡ None → seat.count ≡ 0

is_thread_tells : (t : Lanes) (lane : ℕ) → is_thread t lane ≡ true → (1 ≤ lane) × (lane ≤ length t.seats)
is_thread_tells t lane e =
    let parts = and_parts (ltb 0 lane) (leb lane (length t.seats)) e in
    (omega (arith, ltb-true 0 lane parts.0), leb-true lane (length t.seats) parts.1)

other_lane : (t : Lanes) (other lane : ℕ) → 1 ≤ lane → lane ≤ length t.seats → is_thread t other ≡ false → eqb other lane ≡ false
other_lane t other lane h le isnt =
    ne_eqb other lane (λ same. both_ways (is_thread t other) isnt (ap (is_thread t) same ∙ and_from (ltb 0 lane) (leb lane (length t.seats)) (lt-ltb 0 lane (omega arith)) (le-leb lane (length t.seats) le)))

-- from t to u the lane is initialised so much more, and so much less
record Moves (t u : Lanes) (lane more less : ℕ) : Type 0 where
  pub counted : count_of u lane + less ≡ count_of t lane + more
  pub paired : Paired (seat_of t lane) → Paired (seat_of u lane)
  pub long : length u.seats ≡ length t.seats

moves-none : (t : Lanes) (lane : ℕ) → Moves t t lane 0 0
moves-none t lane = record { counted = refl; paired = λ p. p; long = refl }

moves-as : (t u : Lanes) (lane more less more' less' : ℕ) → more ≡ more' → less ≡ less' → Moves t u lane more less → Moves t u lane more' less'
moves-as t u lane more less more' less' e f m = record { counted = omega (arith, m.counted); paired = m.paired; long = m.long }

paired-cond : (b : Bool) (s u : Seat) → Paired s → Paired u → Paired (cond b s u)
paired-cond true s u p q = p
paired-cond false s u p q = q

counted-cond : (b : Bool) (s u : Seat) (more less had : ℕ) → s.count + less ≡ had + more → (b ≡ true → had ≡ u.count) → (cond b s u).count + cond b less 0 ≡ u.count + cond b more 0
counted-cond true s u more less had e same = omega (arith, same refl)
counted-cond false s u more less had e same = refl

moves-seat : (t : Lanes) (other lane : ℕ) (seat : Seat) (pool : ℕ) (ended : List Bool) (more less : ℕ) → 1 ≤ other → other ≤ length t.seats → seat.count + less ≡ count_of t other + more → Paired seat
    → Moves t (record { seats = set t.seats (other - 1) seat; pool = pool; ended = ended }) lane (cond (eqb other lane) more 0) (cond (eqb other lane) less 0)
moves-seat t other lane seat pool ended more less h le e p =
    let is = seat_at-set t.seats other lane seat h le in
    record {
      counted = ap (λ (s : Seat). s.count + cond (eqb other lane) less 0) is ∙ counted-cond (eqb other lane) seat (seat_at t.seats lane) more less (count_of t other) e (λ same. ap (count_of t) (eqb-true other lane same));
      paired = λ old. subst (λ (s : Seat). Paired s) (sym is) (paired-cond (eqb other lane) seat (seat_at t.seats lane) p old);
      long = length-set t.seats (other - 1) seat;
    }

cond_zero : (b : Bool) → ◌≡◌ {A = ℕ} (cond b 0 0) 0
cond_zero true = refl
cond_zero false = refl

and_false : (b : Bool) → (b && false) ≡ false
and_false true = refl
and_false false = refl

-- a seat that has a home and is initialised
paired-some : (home count : ℕ) → Paired (record { home = Some home; count = count + 1 })
paired-some home count = record { housed = λ e. absurd (omega arith); unhoused = λ e. absurd cc }

moves-init : (home : Option ℕ) (mode : Mode) (t : Lanes) (other lane : ℕ) → 1 ≤ other → other ≤ length t.seats
    → Moves t (after_init_at home mode t other) lane (cond (init_succeeds home mode && eqb other lane) 1 0) 0
moves-init None mode t other lane h le =
    moves-as _ _ lane _ _ _ _ refl (cond_zero (eqb other lane)) (moves-seat t other lane _ _ _ 1 0 h le (omega arith) (paired-some _ _))
moves-init (Some home) mode t other lane h le =
    let kept = moves-as _ _ lane _ _ _ _ refl (cond_zero (eqb other lane)) (moves-seat t other lane (record { home = Some home; count = count_of t other + 1 }) t.pool t.ended 1 0 h le (omega arith) (paired-some _ _)) in
    elim (is_in_mode mode home) as (λ b. Moves t (cond b (record { seats = set t.seats (other - 1) (record { home = Some home; count = count_of t other + 1 }); pool = t.pool; ended = t.ended }) t) lane (cond (b && eqb other lane) 1 0) 0)
    [ true ↦ kept | false ↦ moves-none t lane ]

paired-free : Paired free_seat
paired-free = record { housed = λ e. refl; unhoused = λ e. refl }

paired-less : (seat : Seat) (count : ℕ) → Paired seat → count ≢ 0 → seat.count ≢ 0 → Paired (record { home = seat.home; count = count })
paired-less seat count p nz was = record { housed = λ e. absurd (nz e); unhoused = λ e. absurd (was (p.unhoused e)) }

-- what an `uninit` does, where every seat is paired
moves-uninit : (t : Lanes) (other lane : ℕ) → 1 ≤ other → other ≤ length t.seats → Paired (seat_of t other)
    → Moves t (after_uninit t other) lane 0 (cond (ltb 0 (count_of t other) && eqb other lane) 1 0)
moves-uninit t other lane h le p =
    cond_both (eqb (count_of t other) 0) _ _ (λ (u : Lanes). Moves t u lane 0 (cond (ltb 0 (count_of t other) && eqb other lane) 1 0))
    (λ z. moves-as _ _ lane _ _ _ _ refl (grind (arith, nat_tests)) (moves-none t lane))
    (λ nz. let some : ltb 0 (count_of t other) ≡ true = grind (arith, nat_tests) in
    cond_both (eqb (count_of t other) 1) _ _ (λ (u : Lanes). Moves t u lane 0 (cond (ltb 0 (count_of t other) && eqb other lane) 1 0))
    (λ one. rw some (moves-as _ _ lane _ _ _ _ (cond_zero (eqb other lane)) refl (moves-seat t other lane free_seat _ _ 0 1 h le (grind (arith, nat_tests)) paired-free)))
    (λ more. rw some (moves-as _ _ lane _ _ _ _ (cond_zero (eqb other lane)) refl (moves-seat t other lane (record { home = (seat_of t other).home; count = count_of t other - 1 }) t.pool t.ended 0 1 h le (grind (arith, nat_tests)) (paired-less (seat_of t other) (count_of t other - 1) p (grind (arith, nat_tests)) (grind (arith, nat_tests)))))))

-- one call, whichever lane it is of
moves-step : (t : Lanes) (step : Step) (lane : ℕ) → 1 ≤ lane → lane ≤ length t.seats → ((other : ℕ) → Paired (seat_of t other)) → Moves t (after_step t step) lane (success t lane step) (undoing t lane step)
moves-step t (Init other mode) lane h le paired =
    cond_both (is_thread t other) _ _ (λ (u : Lanes). Moves t u lane (success t lane (Init other mode)) 0)
    (λ is. moves-init (seat_of t other).home mode t other lane (is_thread_tells t other is).0 (is_thread_tells t other is).1)
    (λ isnt. moves-as _ _ lane _ _ _ _ (sym (ap (λ b. cond b 1 0) (ap (λ b. init_succeeds (seat_of t other).home mode && b) (other_lane t other lane h le isnt) ∙ and_false _))) refl (moves-none t lane))
moves-step t (Uninit other) lane h le paired =
    cond_both (is_thread t other) _ _ (λ (u : Lanes). Moves t u lane 0 (undoing t lane (Uninit other)))
    (λ is. moves-uninit t other lane (is_thread_tells t other is).0 (is_thread_tells t other is).1 (paired other))
    (λ isnt. moves-as _ _ lane _ _ _ _ refl (sym (ap (λ b. cond b 1 0) (ap (λ b. ltb 0 (count_of t other) && b) (other_lane t other lane h le isnt) ∙ and_false _))) (moves-none t lane))

-- every list of calls

record IsAfter (t u : Lanes) (steps : List Step) : Type 0 where
  pub long : length u.seats ≡ length t.seats
  pub paired : (lane : ℕ) → Paired (seat_of u lane)
  pub counted : (lane : ℕ) → 1 ≤ lane → lane ≤ length t.seats → count_of u lane + undoings t lane steps ≡ count_of t lane + successes t lane steps

keeps-step : (t : Lanes) (step : Step) (lane : ℕ) → ((other : ℕ) → Paired (seat_of t other)) → Paired (seat_of (after_step t step) lane) × (length (after_step t step).seats ≡ length t.seats)
keeps-step t (Init other mode) lane paired =
    cond_both (is_thread t other) _ _ (λ (u : Lanes). Paired (seat_of u lane) × (length u.seats ≡ length t.seats))
    (λ is. let thread = is_thread_tells t other is in let m = moves-init (seat_of t other).home mode t other lane thread.0 thread.1 in (m.paired (paired lane), m.long))
    (λ isnt. (paired lane, refl))
keeps-step t (Uninit other) lane paired =
    cond_both (is_thread t other) _ _ (λ (u : Lanes). Paired (seat_of u lane) × (length u.seats ≡ length t.seats))
    (λ is. let thread = is_thread_tells t other is in let m = moves-uninit t other lane thread.0 thread.1 (paired other) in (m.paired (paired lane), m.long))
    (λ isnt. (paired lane, refl))

is_after : (t : Lanes) → ((lane : ℕ) → Paired (seat_of t lane)) → (steps : List Step) → IsAfter t (after_steps t steps) steps
is_after t p [] = record { long = refl; paired = p; counted = λ lane h le. refl }
is_after t p (step ∷ steps) =
    let before = is_after t p steps in
    record {
      long = (keeps-step (after_steps t steps) step 0 before.paired).1 ∙ before.long;
      paired = λ lane. (keeps-step (after_steps t steps) step lane before.paired).0;
      counted = λ lane h le. omega (arith, before.counted lane h le, (moves-step (after_steps t steps) step lane h (omega (arith, before.long)) before.paired).counted);
    }

get_or-free : (n index : ℕ) → get_or (replicate n free_seat) index free_seat ≡ free_seat
get_or-free zero index = refl
get_or-free (suc n) zero = refl
get_or-free (suc n) (suc index) = get_or-free n index

seat_at-free : (n lane : ℕ) → seat_at (replicate n free_seat) lane ≡ free_seat
seat_at-free n lane = grind (arith, nat_tests, get_or-free n (lane - 1))

-- lanes of which no thread's is initialised
pub balanced : (t : Lanes) (threads : ℕ) → t.seats ≡ replicate threads free_seat → (steps : List Step) (lane : ℕ) → IsThread t lane → IsBalanced t steps lane
balanced t threads new steps lane thread =
    let free : (other : ℕ) → seat_of t other ≡ free_seat = λ other. ap (λ seats. seat_at seats other) new ∙ seat_at-free threads other in
    let after = is_after t (λ other. rw (free other) paired-free) steps in
    let home = home_of-thread (after_steps t steps) lane (omega (arith, after.long, thread.within)) in
    let none = ap (λ (seat : Seat). seat.count) (free lane) in
    record {
      counted = omega (arith, none, after.counted lane thread.from_one thread.within);
      housed = λ e. home ∙ (after.paired lane).housed e;
      unhoused = λ e. (after.paired lane).unhoused (sym home ∙ e);
    }
