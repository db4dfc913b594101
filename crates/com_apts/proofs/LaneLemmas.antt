-- Lemmas on the apartments that have ended, on the threads' seats, and on what each call leaves.
use Rattle.std.proofs.Common.{◌≡◌, ℕ, ◌+◌, ◌-◌, ◌<◌, ◌≤◌, ◌^◌, List, [], ◌∷◌, ◌++◌, length, Option, None, Some, Bool, true, false, zero, suc, get_or, set, refl, sym, ap, ◌∙◌, ⊎_elim, arith}
use Rattle.std.proofs.lemmas.Bool.{cases_eq}
use Rattle.std.proofs.lemmas.Bool.Decides.{nat_tests}
use Rattle.std.proofs.lemmas.List.{get_or-set_same, get_or-set_other, get_or_read, length-append}
use Rattle.std.proofs.lemmas.Option.{same_Some}
use Rattle.com_base.specs.declared.value.Mode.{Mode}
use Rattle.com_base.specs.declared.value.Mode.TheVariants.{Sta, Mta}
use Rattle.com_apts.specs.declared.Seat.{Seat}
use Rattle.com_apts.specs.Lanes.{Lanes, free_seat, seat_at, seat_of, home_of, ended_first, home_in, ended_in, sta_of}
use Rattle.com_apts.specs.Kept.{IsKept}

-- the first apartments that have all ended

pub ended_first_le : (es : List Bool) → ended_first es ≤ length es
ended_first_le [] = omega arith
ended_first_le (true ∷ es) = omega (arith, ended_first_le es)
ended_first_le (false ∷ es) = omega arith

-- one that has ended is passed over
pub ended_first_more : (es : List Bool) (index : ℕ) (d : Bool) → index < length es → index ≤ ended_first es → get_or es index d ≡ true → index + 1 ≤ ended_first es
ended_first_more [] index d lt le e = absurd (omega arith)
ended_first_more (true ∷ es) zero d lt le e = omega arith
ended_first_more (true ∷ es) (suc index) d lt le e = omega (arith, ended_first_more es index d (omega arith) (omega arith) e)
ended_first_more (false ∷ es) zero d lt le e = absurd cc
ended_first_more (false ∷ es) (suc index) d lt le e = absurd (omega arith)

-- one that has not ended is the first
pub ended_first_here : (es : List Bool) (index : ℕ) (d : Bool) → index < length es → index ≤ ended_first es → get_or es index d ≡ false → index ≡ ended_first es
ended_first_here [] index d lt le e = absurd (omega arith)
ended_first_here (true ∷ es) zero d lt le e = absurd cc
ended_first_here (true ∷ es) (suc index) d lt le e = omega (arith, ended_first_here es index d (omega arith) (omega arith) e)
ended_first_here (false ∷ es) zero d lt le e = refl
ended_first_here (false ∷ es) (suc index) d lt le e = absurd (omega arith)

pub ended_first_push : (es : List Bool) → ended_first (es ++ false ∷ []) ≡ ended_first es
ended_first_push [] = refl
ended_first_push (true ∷ es) = omega (arith, ended_first_push es)
ended_first_push (false ∷ es) = refl

pub ended_first_set : (es : List Bool) (index : ℕ) → ended_first es ≤ ended_first (set es index true)
ended_first_set [] index = omega arith
ended_first_set (true ∷ es) zero = omega arith
ended_first_set (true ∷ es) (suc index) = omega (arith, ended_first_set es index)
ended_first_set (false ∷ es) index = omega arith

pub ended_first_in : (mode : Mode) (es : List Bool) → ended_first (ended_in mode es) ≡ ended_first es
ended_first_in Sta es = ended_first_push es
ended_first_in Mta es = refl

pub length_in : (mode : Mode) (es : List Bool) → (length es ≤ length (ended_in mode es)) × (length (ended_in mode es) ≤ length es + 1) × (home_in mode es < length (ended_in mode es) + 3)
length_in Sta es = let long = length-append es (false ∷ []) in (omega arith, omega arith, omega arith)
length_in Mta es = (omega arith, omega arith, omega arith)

-- the threads' seats

pub seat_at-thread : (seats : List Seat) (lane : ℕ) → 1 ≤ lane → seat_at seats lane ≡ get_or seats (lane - 1) free_seat
seat_at-thread seats lane h = grind (arith, nat_tests)

pub seat_at-read : (seats : List Seat) (lane : ℕ) (seat : Seat) → 1 ≤ lane → lane ≤ length seats → seat ≡ get_or seats (lane - 1) seat → seat ≡ seat_at seats lane
seat_at-read seats lane seat h le e =
    get_or_read seats (lane - 1) seat (omega arith) e free_seat ∙ sym (seat_at-thread seats lane h)

pub home_of-thread : (t : Lanes) (lane : ℕ) → lane ≤ length t.seats → home_of t lane ≡ (seat_of t lane).home
home_of-thread t lane le = grind (arith, nat_tests)

-- each home of a thread was made
abbrev pub IsMade : List Seat → ℕ → Type 0
IsMade seats made = (index home : ℕ) → (get_or seats index free_seat).home ≡ Some home → home < made

pub made-set : (seats : List Seat) (index : ℕ) (seat : Seat) (made more : ℕ) → index < length seats → IsMade seats made → made ≤ more → ((home : ℕ) → seat.home ≡ Some home → home < more) → IsMade (set seats index seat) more
made-set seats index seat made more lt old le new p home e =
    ⊎_elim
    (λ same. new home (ap (λ (s : Seat). s.home) (sym (ap (λ k. get_or (set seats index seat) k free_seat) same ∙ get_or-set_same seats index seat free_seat lt)) ∙ e))
    (λ other. let was = old p home (ap (λ (s : Seat). s.home) (sym (get_or-set_other seats index p seat free_seat other)) ∙ e) in omega arith)
    (cases_eq p index)

-- what a lane that had no home leaves when it is initialised
pub kept-init : (seats : List Seat) (es es' : List Bool) (oldest index home : ℕ) (seat : Seat) (mode : Mode) → IsKept seats es oldest → index < length seats → length es + 4 ≤ 2 ^ 32
    → es' ≡ ended_in mode es → home ≡ home_in mode es → seat.home ≡ Some home → IsKept (set seats index seat) es' oldest
kept-init seats es es' oldest index home seat mode kept lt room is_in is_home has =
    let long = length_in mode es in
    let same = ap length is_in in
    record {
      oldest_is = kept.oldest_is ∙ sym (ended_first_in mode es) ∙ sym (ap ended_first is_in);
      made = made-set seats index seat (length es + 3) (length es' + 3) lt kept.made (omega (arith, long, same)) (λ other e. let equal : other ≡ home = same_Some other home (sym e ∙ has) in omega (arith, long, same));
      numbered = omega (arith, long, same);
    }

sta_of-some : (home : Option ℕ) (sta : ℕ) → sta_of home ≡ Some sta → (home ≡ Some sta) × (3 ≤ sta)
sta_of-some None sta e = absurd cc
sta_of-some (Some home) sta e = grind (arith, nat_tests)

-- the apartment that ends was made
pub sta_within : (seats : List Seat) (es : List Bool) (oldest index sta : ℕ) (seat : Seat) → IsKept seats es oldest → index < length seats → seat ≡ get_or seats index seat → sta_of seat.home ≡ Some sta → sta - 3 < length es
sta_within seats es oldest index sta seat kept lt read e =
    let found = sta_of-some seat.home sta e in
    let is = get_or_read seats index seat lt read free_seat in
    let made = kept.made index sta (ap (λ (s : Seat). s.home) (sym is) ∙ found.0) in
    omega (arith, found.1)
