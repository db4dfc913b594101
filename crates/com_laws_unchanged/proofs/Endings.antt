-- How an entry ends, and what of it is certain for all that the entry does not touch.
use Rattle.std.proofs.Common.{◌≡◌, refl, sym, ◌∙◌, ap, arith, ℕ, ◌+◌, ◌≤◌, Bool, true, false, not, ◌==◌, ◌&&◌, ◌||◌, nat_le, eqb-true, List, ◌∷◌}
use Rattle.std.proofs.lemmas.Bool.{false_from_ne_true}
use Rattle.std.proofs.lemmas.Bool.Decides.{nat_tests}
use Rattle.com_refs_books.specs.Counting.{sum_below}
use Rattle.com_refs_books.specs.Changes.{Books, entered_rows, given_back, cut, held_outside}
use Rattle.com_refs_books.specs.Ends.{stays, ends}
use Rattle.com_model.specs.declared.deeds.Deed.{Deed}
use Rattle.com_model.specs.declared.deeds.Entry.{Entry}
use Rattle.com_model.specs.declared.scenario.Scenario.{Scenario}
use Rattle.com_model.specs.Lists.{is_member, is_number, number_or_zero}
use Rattle.com_model.specs.Apartments.{ends_sta, next_sta, running}
use Rattle.com_model.specs.Objects.{makes, disconnects}
use Rattle.com_model.specs.Frames.{Scene, scene, act}
use Rattle.com_model.specs.Endings.{ending, is_leave}
use Rattle.com_model.specs.Places.{Ground, ground, places, all_places}
use Rattle.com_model.specs.Books.{live_after, made_by, rows, kept, closed, books, holders_in}
use Rattle.com_model.specs.Dying.{is_dying_by, is_entered}
use Rattle.com_model.specs.State.{State, openers_in, ground_in, scene_in, books_in, named_in, next_sta_in, scene_next, books_next, book_tables, dies_in, objects_in, after}
use Rattle.com_state.specs.After.{parts_after}
use Rattle.com_state.proofs.Joined.{joined}
use Rattle.com_laws_unchanged.specs.Ends.{connected, rows_entered, books_entered, history_entered}
use Rattle.com_laws_unchanged.specs.Resting.{Resting}

regroup : (x y z w : Bool) → (x && (y && (z && w))) ≡ ((x && (y && z)) && w)
regroup true true z w = refl
regroup true false z w = refl
regroup false y z w = refl

pub books-end : (s : Scenario) (st su : State) (w : Scene) (e : Entry) → books_next s st su w e ≡ ends (next_sta_in su) (places s (ground_in s su) w) (books_entered s st su e)
unfolding ends
books-end s st su w e =
    let r : Books = rows_entered s st su e in
    let m : Books = given_back (next_sta_in su) (places s (ground_in s su) w) r in
    let h : ℕ → ℕ = λ o. sum_below (next_sta_in su) (λ a. places s (ground_in s su) w a o) + held_outside r o in
    let q : live_after e.deed (named_in su) h r.live ≡ stays (next_sta_in su) (places s (ground_in s su) w) (books_entered s st su e) =
    λ i o. regroup (made_by (makes e.deed) o || r.live o) (not (is_number o (disconnects e.deed))) (not (is_number (named_in su o) (ends_sta e.deed))) (not (h o == 0)) i in
    ap (λ (f : ℕ → Bool). cut f m) q

-- ---- what is not touched

clash : false ≡ true → ⊥
clash e = cc

both-true : (x y : Bool) → x ≡ true → y ≡ true → (x && y) ≡ true
both-true true y e f = f
both-true false y e f = absurd (clash e)

not-false : (b : Bool) → b ≡ false → not b ≡ true
not-false true e = absurd (clash (sym e))
not-false false e = refl

more-none : (n m : ℕ) → n ≤ m → (n == 0) ≡ false → (m == 0) ≡ false
more-none n m h e = false_from_ne_true (m == 0) (λ q. let z : m ≡ 0 = eqb-true m 0 q in let y : n ≡ 0 = omega (arith, z, h) in let x : (n == 0) ≡ true = ap (λ (k : ℕ). k == 0) y in clash (sym e ∙ x))

-- What was connected and lost no holder stays.
pub holds-on : (n m : ℕ) (pl pl' : ℕ → ℕ → ℕ) (b c : Books) (o : ℕ) → (b.live o ≡ true → (sum_below n (λ a. pl a o) + held_outside b o == 0) ≡ false) → b.live o ≡ true → c.live o ≡ true → sum_below n (λ a. pl a o) + held_outside b o ≤ sum_below m (λ a. pl' a o) + held_outside c o → stays m pl' c o ≡ true
holds-on n m pl pl' b c o p e f h = both-true (c.live o) (not (sum_below m (λ a. pl' a o) + held_outside c o == 0)) f (not-false (sum_below m (λ a. pl' a o) + held_outside c o == 0) (more-none (sum_below n (λ a. pl a o) + held_outside b o) (sum_below m (λ a. pl' a o) + held_outside c o) h (p e)))

first-of : (x y : Bool) → (x && y) ≡ true → x ≡ true
first-of true y e = refl
first-of false y e = e

second-of : (x y : Bool) → (x && y) ≡ true → y ≡ true
second-of true y e = e
second-of false y e = absurd (clash e)

not-true : (b : Bool) → not b ≡ true → b ≡ false
not-true true e = absurd (clash e)
not-true false e = refl

-- What dies, and whose holders and Enters are not fewer than before, died before.
pub died-before : (n m : ℕ) (f g : ℕ → Bool) (h k : ℕ → ℕ) (x y : ℕ → Bool) (o : ℕ) → o ≤ n → (g o ≡ false → f o ≡ false) → h o ≤ k o → (y o ≡ false → x o ≡ false) → is_dying_by m g k y o ≡ true → is_dying_by n f h x o ≡ true
died-before n m f g h k x y o low p q r e =
    let range : (nat_le 1 o && nat_le o m) ≡ true = first-of (nat_le 1 o && nat_le o m) (not (g o) && (k o == 0 && not (y o))) e in
    let rest : (not (g o) && (k o == 0 && not (y o))) ≡ true = second-of (nat_le 1 o && nat_le o m) (not (g o) && (k o == 0 && not (y o))) e in
    let last : (k o == 0 && not (y o)) ≡ true = second-of (not (g o)) (k o == 0 && not (y o)) rest in
    let none : k o ≡ 0 = eqb-true (k o) 0 (first-of (k o == 0) (not (y o)) last) in
    let from : nat_le 1 o ≡ true = first-of (nat_le 1 o) (nat_le o m) range in
    let to : nat_le o n ≡ true = grind (arith, nat_tests, low) in
    let zero-h : h o ≡ 0 = omega (arith, none, q) in
    both-true (nat_le 1 o && nat_le o n) (not (f o) && (h o == 0 && not (x o))) (both-true (nat_le 1 o) (nat_le o n) from to)
    (both-true (not (f o)) (h o == 0 && not (x o)) (not-false (f o) (p (not-true (g o) (first-of (not (g o)) (k o == 0 && not (y o)) rest))))
    (both-true (h o == 0) (not (x o)) (ap (λ (j : ℕ). j == 0) zero-h) (not-false (x o) (r (not-true (y o) (second-of (k o == 0) (not (y o)) last))))))

pub history-end : (s : Scenario) (h : List Entry) (e : Entry) → books s (e ∷ h) ≡ ends (next_sta (e ∷ h)) (places s (ground s (e ∷ h)) (scene s (e ∷ h))) (history_entered s h e)
unfolding ends
history-end s h e =
    let g : Ground = ground s (e ∷ h) in
    let r : Books = kept (books s h) e.deed (entered_rows g.owns (books s h) (rows s (act s h e.lane) (λ c. is_leave (ending s h c)) (books s h) (number_or_zero (running s h e.lane)) e.deed)) in
    ends-same s g (scene s (e ∷ h)) e.deed r
  where
    ends-same : (s : Scenario) (g : Ground) (w : Scene) (d : Deed) (r : Books) → closed s g w d (given_back g.apartments (places s g w) r) ≡ ends g.apartments (places s g w) (connected d g.named r)
    ends-same s g w d r =
        let h : ℕ → ℕ = λ o. sum_below g.apartments (λ a. places s g w a o) + held_outside r o in
        let q : live_after d g.named h r.live ≡ stays g.apartments (places s g w) (connected d g.named r) =
        λ i o. regroup (made_by (makes d) o || r.live o) (not (is_number o (disconnects d))) (not (is_number (g.named o) (ends_sta d))) (not (h o == 0)) i in
        ap (λ (f : ℕ → Bool). cut f (given_back g.apartments (places s g w) r)) q

pub state-end : (s : Scenario) (st : State) (l : ℕ) (d : Deed) → let e : Entry = record { lane = l; deed = d } in let su : State = parts_after s st e in (after s st l d).books ≡ book_tables s su (ends (next_sta_in su) (places s (ground_in s su) (scene_next s st su e)) (books_entered s st su e))
state-end s st l d =
    let e : Entry = record { lane = l; deed = d } in
    let su : State = parts_after s st e in
    ap (λ (x : State). x.books) (joined s st l d) ∙ ap (book_tables s su) (books-end s st su (scene_next s st su e) e)

pub stays-connected : (s : Scenario) (st : State) (n : ℕ) (pl : ℕ → ℕ → ℕ) (c : Books) (o : ℕ) → Resting s st → (books_in st).live o ≡ true → c.live o ≡ true → all_places s (ground_in s st) (scene_in st) o + held_outside (books_in st) o ≤ sum_below n (λ a. pl a o) + held_outside c o → stays n pl c o ≡ true
stays-connected s st n pl c o p e f h = holds-on (next_sta_in st) n (places s (ground_in s st) (scene_in st)) pl (books_in st) c o (p.settled.rested.held o) e f h

pub none-else-falls : (s : Scenario) (st y : State) (o : ℕ) → Resting s st → o ≤ objects_in st → (is_member o y.finaled ≡ false → is_member o st.finaled ≡ false) → holders_in s (ground_in s st) (scene_in st) (books_in st) o ≤ holders_in s (ground_in s y) (scene_in y) (books_in y) o → (is_entered s (openers_in y) o ≡ false → is_entered s (openers_in st) o ≡ false) → dies_in s y o ≡ true → is_member o st.fallen ≡ true
none-else-falls s st y o p low q h r e =
    p.settled.fell o (died-before (objects_in st) (objects_in y) (λ x. is_member x st.finaled) (λ x. is_member x y.finaled) (holders_in s (ground_in s st) (scene_in st) (books_in st)) (holders_in s (ground_in s y) (scene_in y) (books_in y)) (is_entered s (openers_in st)) (is_entered s (openers_in y)) o low q h r e)
