-- What follows a place of a line, word by word.
use Rattle.std.proofs.Common.{◌≡◌, ℕ, zero, suc, ◌+◌, ◌≤◌, ◌<◌, ◌^◌, List, [], ◌∷◌, ◌++◌, map, drop, length-append, Some, Bool, true, false, nat_le, refl, sym, ap, ◌∙◌, arith, length, slice_get, Result, Ok, bytes_eq, All, append_assoc}
use Rattle.std.proofs.lemmas.List.{append-nil}
use Rattle.std.proofs.lemmas.Slice.Eq.{bytes_eq-Decides}
use Rattle.std.proofs.lemmas.Bool.Decides.{nat_tests}
use Rattle.std.proofs.lemmas.List.Elements.{All-head, All-tail}
use Rattle.com_text.specs.Words.{WordAt}
use Rattle.com_read_operands.specs.declared.faults.Fault.{Fault}
use Rattle.com_read_operands.specs.Reading.{◌>>=◌}
use Rattle.com_read_lines.specs.Declaring.{listed_item, listed_on, listed_at, pick_at, picks_on}
use Rattle.com_print.specs.Spelled.{Spelled, plain, spelled_of}
use Rattle.com_print.specs.Words.{name_at}
use Rattle.com_print.specs.Ranges.{AreNames}
use Rattle.com_print.proofs.Names.{declared_again}
use Rattle.com_print.proofs.Places.{at, stands, word_again, present, number_at_again}
use Rattle.com_print_scenario.specs.Printed.{number_word}

-- words that differ by a test
pub differs : (f : List ℕ → Bool) (xs ys : List ℕ) → f xs ≡ true → f ys ≡ false → bytes_eq xs ys ≡ false
differs f xs ys t u = apart (bytes_eq xs ys) (bytes_eq-Decides xs ys).0
  where
    apart : (b : Bool) → (b ≡ true → xs ≡ ys) → b ≡ false
    apart true h = let e = ap f (h refl) in absurd cc
    apart false h = refl

-- from a place on the line has these words
abbrev pub Follows : List WordAt → ℕ → List WordAt → Type 0
Follows line k vs = (j : ℕ) → at line (k + j) ≡ at vs j

pub follows : (k : ℕ) (line : List WordAt) → Follows line k (drop k line)
follows zero line j = ap (at line) (omega arith)
follows (suc k) [] j = refl
follows (suc k) (w ∷ line) j =
    let e : suc k + j ≡ suc (k + j) = omega arith in
    ap (at (w ∷ line)) e ∙ follows k line j

pub follows_next : (line : List WordAt) (k : ℕ) (v : WordAt) (vs : List WordAt) → Follows line k (v ∷ vs) → Follows line (k + 1) vs
follows_next line k v vs f j =
    let e : k + 1 + j ≡ k + suc j = omega arith in
    ap (at line) e ∙ f (suc j)

pub follows_here : (line : List WordAt) (k : ℕ) (vs : List WordAt) → Follows line k vs → at line k ≡ at vs 0
follows_here line k vs f =
    let e : k ≡ k + 0 = omega arith in
    ap (at line) e ∙ f 0

pub map_drop : (k : ℕ) (line : List WordAt) → map spelled_of (drop k line) ≡ drop k (map spelled_of line)
map_drop zero line = refl
map_drop (suc k) [] = refl
map_drop (suc k) (w ∷ line) = map_drop k line

-- the words of a line that was written, behind so many
pub rest_of : (k : ℕ) (line : List WordAt) (l : List Spelled) → map spelled_of line ≡ l → map spelled_of (drop k line) ≡ drop k l
rest_of k line l e = map_drop k line ∙ ap (drop k) e

head_of : (v : WordAt) (vs : List WordAt) (s : Spelled) (l : List Spelled) → map spelled_of (v ∷ vs) ≡ s ∷ l → spelled_of v ≡ s
head_of v vs s l e = cc

tail_of : (v : WordAt) (vs : List WordAt) (s : Spelled) (l : List Spelled) → map spelled_of (v ∷ vs) ≡ s ∷ l → map spelled_of vs ≡ l
tail_of v vs s l e = cc

-- the first of the words that follow
pub here_is : (line : List WordAt) (k : ℕ) (v : WordAt) (vs : List WordAt) (s : Spelled) (l : List Spelled) → Follows line k (v ∷ vs)
    → map spelled_of (v ∷ vs) ≡ s ∷ l → at line k ≡ Some s
here_is line k v vs s l f e = follows_here line k (v ∷ vs) f ∙ ap Some (head_of v vs s l e)

-- ---- a class's interfaces

abbrev pub interface_word_of : List (List ℕ) → ℕ → Spelled
interface_word_of names i = plain (name_at names i)

item_again : (names : List (List ℕ)) (count : ℕ) (line : List WordAt) (k i : ℕ) → at line k ≡ Some (interface_word_of names i) → AreNames names
    → i < length names → count < 16 → listed_item names count line k ≡ Ok i
unfolding listed_item
item_again names count line k i h are lt few =
    let s = stands line k (plain (name_at names i)) h in
    let room : nat_le 16 count ≡ false = grind (arith, nat_tests) in
    rw (present line k _ s tt, declared_again names line k i h are lt, room) refl

listed_on_again : (names : List (List ℕ)) (is done : List ℕ) (line : List WordAt) (k : ℕ) (vs : List WordAt) → AreNames names
    → All (λ i. i < length names) is → length done + length is ≤ 16 → Follows line k vs → map spelled_of vs ≡ map (interface_word_of names) is
    → listed_on names done line k vs ≡ Ok (done ++ is)
listed_on_again names [] done line k [] are all few f e = ap Ok (sym (append-nil done))
listed_on_again names [] done line k (v ∷ vs) are all few f e = absurd cc
listed_on_again names (i ∷ is) done line k [] are all few f e = absurd cc
listed_on_again names (i ∷ is) done line k (v ∷ vs) are all few f e =
    let one = item_again names (length done) line k i (here_is line k v vs _ _ f e) are (All-head (λ (x : ℕ). x < length names) i is all) (omega arith) in
    let shorter : length (done ++ i ∷ []) + length is ≤ 16 = simp length-append (omega arith) in
    let more = listed_on_again names is (done ++ i ∷ []) line (k + 1) vs are (All-tail (λ (x : ℕ). x < length names) i is all) shorter
    (follows_next line k v vs f) (tail_of v vs _ _ e) in
    ap (λ (r : Result ℕ Fault). r >>= λ n. listed_on names (done ++ n ∷ []) line (k + 1) vs) one
    ∙ more ∙ ap Ok (append_assoc done (i ∷ []) is)

pub listed_again : (names : List (List ℕ)) (is : List ℕ) (line : List WordAt) (a b c d : Spelled) → AreNames names → All (λ i. i < length names) is
    → 1 ≤ length is → length is ≤ 16 → map spelled_of line ≡ a ∷ b ∷ c ∷ d ∷ map (interface_word_of names) is → listed_at names line ≡ Ok is
unfolding listed_at
listed_again names [] line a b c d are all some few e = absurd (omega (arith, some))
listed_again names (i ∷ is) line a b c d are all some few e =
    let s = stands line 4 (interface_word_of names i) (ap (λ (x : List Spelled). slice_get x 4) e) in
    ap (λ (r : Result WordAt Fault). r >>= λ w. listed_on names [] line 4 (drop 4 line)) (word_again line 4 _ s tt)
    ∙ listed_on_again names (i ∷ is) [] line 4 (drop 4 line) are all (omega arith) (follows 4 line) (rest_of 4 line _ e)

-- ---- picks

pick_again : (line : List WordAt) (k n : ℕ) → at line k ≡ Some (number_word n) → n < 2 ^ 32 → pick_at line k ≡ Ok n
unfolding pick_at
pick_again line k n h lt =
    let s = stands line k (number_word n) h in
    rw (present line k _ s tt) (number_at_again 0 4294967295 line k n h (omega arith) (omega arith) (omega arith))

pub picks_on_again : (ns done : List ℕ) (line : List WordAt) (k : ℕ) (vs : List WordAt) → All (λ n. n < 2 ^ 32) ns
    → Follows line k vs → map spelled_of vs ≡ map number_word ns → picks_on done line k vs ≡ Ok (done ++ ns)
picks_on_again [] done line k [] all f e = ap Ok (sym (append-nil done))
picks_on_again [] done line k (v ∷ vs) all f e = absurd cc
picks_on_again (n ∷ ns) done line k [] all f e = absurd cc
picks_on_again (n ∷ ns) done line k (v ∷ vs) all f e =
    let one = pick_again line k n (here_is line k v vs _ _ f e) (All-head (λ (x : ℕ). x < 2 ^ 32) n ns all) in
    let more = picks_on_again ns (done ++ n ∷ []) line (k + 1) vs (All-tail (λ (x : ℕ). x < 2 ^ 32) n ns all)
    (follows_next line k v vs f) (tail_of v vs _ _ e) in
    ap (λ (r : Result ℕ Fault). r >>= λ m. picks_on (done ++ m ∷ []) line (k + 1) vs) one
    ∙ more ∙ ap Ok (append_assoc done (n ∷ []) ns)
