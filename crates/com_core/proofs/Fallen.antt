-- The objects that begin to die by an entry are found among those that it touched.
use Rattle.std.proofs.Common.{arith, ap, sym, subst, ◌∙◌, eqb-true}
use Rattle.std.proofs.lemmas.Grind.{common_steps}
use Rattle.std.specs.Prelude.{◌≡◌, refl, ℕ, zero, suc, ◌+◌, ◌<◌, ◌≤◌, Bool, true, false, cond, not, ◌==◌, ◌&&◌, ◌||◌, nat_le, nat_lt, List, [], ◌∷◌, Option, Some, None, is_some, filter, slice_index_or}
use Rattle.std.proofs.Common.{inl, inr}
use Rattle.std.proofs.lemmas.Bool.{eqb-false}
use Rattle.com_model.specs.declared.deeds.Deed.{Deed}
use Rattle.com_model.specs.declared.deeds.Deed.TheVariants as deed
use Rattle.com_model.specs.declared.deeds.Entry.{Entry}
use Rattle.com_model.specs.declared.keeps.Opener.{Opener}
use Rattle.com_model.specs.declared.keeps.Opener.TheVariants.{Pumps, Waits, Enters}
use Rattle.com_model.specs.declared.scenario.Scenario.{Scenario}
use Rattle.com_model.specs.Dying.{is_entered, is_dying_by}
use Rattle.com_model.specs.Formed.{Formed}
use Rattle.com_model.specs.Frames.{Actor, Body}
use Rattle.com_model.specs.Lists.{is_member, is_number, or_else}
use Rattle.com_model.specs.Objects.{makes}
use Rattle.com_model.specs.Openers.{Closes, Leaves, effect, fits}
use Rattle.com_refs_books.specs.Counting.{count_if}
use Rattle.com_laws_balance.proofs.Bases.{first-is}
use Rattle.com_laws_safety.proofs.Small.{not-both, and-left, and-right, or-right, or-second, same-number}
use Rattle.com_model.specs.State.{State, StandsFor, openers_in, objects_in, dies_in, next_of, after}
use Rattle.com_objects.specs.Settled.{Rise, Falls}
use Rattle.com_state.specs.After.{acting_in}
use Rattle.com_state.specs.Parts.{objects_of}
use Rattle.com_laws_dying.specs.Falling.{holders_of, LeavesBody, MayFall}
use Rattle.com_laws_dying.proofs.Losing.{fresh}
use Rattle.com_ledger.specs.Bodies.{CountsBodies, left_object}
use Rattle.com_ledger.specs.Falling.{dies_by, placed, placed_in, other_object, Touches, CountsHolders}
use Rattle.com_core.proofs.OpenBodies.{entered_counted, body_acts, objects_grow, top_made, entry_fits}

-- ---- members and order of a list of which some are kept

and-false : (b : Bool) → false ≡ (b && false)
and-false true = refl
and-false false = refl

member-kept : (test : ℕ → Bool) (o : ℕ) (xs : List ℕ) → is_member o (filter test xs) ≡ (test o && is_member o xs)
member-kept test o [] = and-false (test o)
member-kept test o (x ∷ xs) =
    let rest : is_member o (filter test xs) ≡ (test o && is_member o xs) = member-kept test o xs in
    elim (o == x) as (λ b. (o == x) ≡ b → is_member o (cond (test x) (x ∷ filter test xs) (filter test xs)) ≡ (test o && (b || is_member o xs))) [
      | true ↦ λ e.
          let same : test o ≡ test x = ap test (eqb-true o x e) in
          elim (test x) as (λ t. test o ≡ t → is_member o (cond t (x ∷ filter test xs) (filter test xs)) ≡ (test o && true)) [
            | true ↦ λ k. ap (λ (b : Bool). b || is_member o (filter test xs)) e ∙ sym (ap (λ (b : Bool). b && true) k)
            | false ↦ λ k. rest ∙ ap (λ (b : Bool). b && is_member o xs) k ∙ sym (ap (λ (b : Bool). b && true) k)
          ] same
      | false ↦ λ e. elim (test x) as (λ t. is_member o (cond t (x ∷ filter test xs) (filter test xs)) ≡ (test o && is_member o xs)) [
        | true ↦ ap (λ (b : Bool). b || is_member o (filter test xs)) e ∙ rest
        | false ↦ rest
      ]
    ] refl

rise-from : (a b : ℕ) (xs : List ℕ) (m : ℕ) → a ≤ b → Rise b xs m → Rise a xs m
rise-from a b [] m p r = let q : b ≤ m = r in omega (arith, p, q)
rise-from a b (x ∷ xs) m p r = let q : b < x = r.0 in (omega (arith, p, q), r.1)

rise-kept : (test : ℕ → Bool) (a : ℕ) (xs : List ℕ) (m : ℕ) → Rise a xs m → Rise a (filter test xs) m
rise-kept test a [] m r = r
rise-kept test a (x ∷ xs) m r =
    let q : a < x = r.0 in
    let rest : Rise x (filter test xs) m = rise-kept test x xs m r.1 in
    elim (test x) as (λ t. Rise a (cond t (x ∷ filter test xs) (filter test xs)) m) [
      | true ↦ (q, rest)
      | false ↦ rise-from a x (filter test xs) m (omega (arith, q)) rest
    ]

-- ---- a number put in its place

member-placed : (x : ℕ) (ys : List ℕ) (o : ℕ) → is_member o (placed x ys) ≡ (o == x || is_member o ys)
member-placed x [] o = refl
member-placed x (y ∷ ys) o =
    elim (nat_lt x y) as (λ t. is_member o (cond t (x ∷ y ∷ ys) (cond (x == y) (y ∷ ys) (y ∷ placed x ys))) ≡ (o == x || (o == y || is_member o ys))) [
      | true ↦ refl
      | false ↦ elim (x == y) as (λ t. (x == y) ≡ t → is_member o (cond t (y ∷ ys) (y ∷ placed x ys)) ≡ (o == x || (o == y || is_member o ys))) [
        | true ↦ λ e. twice (o == y) (is_member o ys) ∙ ap (λ (z : ℕ). o == z || (o == y || is_member o ys)) (sym (eqb-true x y e))
        | false ↦ λ e. ap (λ (b : Bool). o == y || b) (member-placed x ys o) ∙ over (o == y) (o == x) (is_member o ys)
      ] refl
    ]
  where
    twice : (a b : Bool) → (a || b) ≡ (a || (a || b))
    twice true b = refl
    twice false b = refl

    over : (a b c : Bool) → (a || (b || c)) ≡ (b || (a || c))
    over true true c = refl
    over true false c = refl
    over false true c = refl
    over false false c = refl

rise-placed : (a x : ℕ) (ys : List ℕ) (m : ℕ) → a < x → x ≤ m → Rise a ys m → Rise a (placed x ys) m
rise-placed a x [] m p q r = (p, q)
rise-placed a x (y ∷ ys) m p q r =
    elim (nat_lt x y) as (λ t. nat_lt x y ≡ t → Rise a (cond t (x ∷ y ∷ ys) (cond (x == y) (y ∷ ys) (y ∷ placed x ys))) m) [
      | true ↦ λ e. (p, (grind (arith, common_steps, e), r.1))
      | false ↦ λ e. elim (x == y) as (λ t. (x == y) ≡ t → Rise a (cond t (y ∷ ys) (y ∷ placed x ys)) m) [
        | true ↦ λ k. r
        | false ↦ λ k. let other : (x ≡ y → ⊥) = eqb-false x y k in
            let less : y < x = grind (arith, common_steps, e, other) in
            (r.0, rise-placed y x ys m less q r.1)
      ] refl
    ] refl

member-or : (x : Option ℕ) (ys : List ℕ) (o : ℕ) → is_member o (placed_in x ys) ≡ (is_number o x || is_member o ys)
member-or None ys o = refl
member-or (Some x) ys o = member-placed x ys o

-- ---- what begins to die

found : (dying : ℕ → Bool) (n : ℕ) (before cs : List ℕ) → Rise 0 cs n
    → ((o : ℕ) → dying o ≡ true → is_member o before ≡ false → is_member o cs ≡ true) → Falls dying n before (filter (λ o. dying o && not (is_member o before)) cs)
found dying n before cs r p =
    let test : ℕ → Bool = λ o. dying o && not (is_member o before) in
    record {
      rise = rise-kept test 0 cs n r;
      each = λ o a b. member-kept test o cs ∙ each-by (dying o) (is_member o before) (is_member o cs) (p o);
    }
  where
    each-by : (a b c : Bool) → (a ≡ true → b ≡ false → c ≡ true) → ((a && not b) && c) ≡ (a && not b)
    each-by true true c q = refl
    each-by true false c q = q refl refl
    each-by false b c q = refl

-- ---- the tests by tables

holders-same : (s : Scenario) (st : State) (holders : ℕ → ℕ) (x n : ℕ) (a b : Bool) → CountsHolders s st holders
    → ((nat_le 1 x && nat_le x n) && (a && (holders x == 0 && b))) ≡ ((nat_le 1 x && nat_le x n) && (a && (holders_of s st x == 0 && b)))
holders-same s st holders x n a b p =
    elim (nat_le 1 x) as (λ t. nat_le 1 x ≡ t → ((t && nat_le x n) && (a && (holders x == 0 && b))) ≡ ((t && nat_le x n) && (a && (holders_of s st x == 0 && b)))) [
      | true ↦ λ e. ap (λ (k : ℕ). nat_le x n && (a && (k == 0 && b))) (p x (grind (arith, common_steps, e)))
      | false ↦ λ e. refl
    ] refl

pub dies_as : (s : Scenario) (st : State) (holders : ℕ → ℕ) (entered : List ℕ) (x : ℕ) → CountsHolders s st holders → CountsBodies s st entered
    → dies_by (objects_of st) holders entered x ≡ dies_in s st x
dies_as s st holders entered x p k =
    let runs : not (slice_index_or entered x 0 == 0) ≡ is_entered s (openers_in st) x =
    ap (λ (n : ℕ). not (n == 0)) (k.each x) ∙ sym (entered_counted s (openers_in st) x) in
    ap (λ (b : Bool). is_dying_by (objects_in st) (λ y. is_member y st.finaled) holders (λ y. b) x) runs
    ∙ holders-same s st holders x (objects_in st) (not (is_member x st.finaled)) (not (is_entered s (openers_in st) x)) p

-- ---- the candidates of an entry

-- Number 0 is no object's.
zero-dropped : (test : ℕ → Bool) (ys : List ℕ) (m : ℕ) → test 0 ≡ false → Rise 0 ys m → filter test (placed 0 ys) ≡ filter test ys
zero-dropped test [] m e r = ap (λ (b : Bool). cond b (0 ∷ []) []) e
zero-dropped test (y ∷ ys) m e r =
    let low : nat_lt 0 y ≡ true = let p : 0 < y = r.0 in grind (arith, common_steps, p) in
    ap (λ (b : Bool). filter test (cond b (0 ∷ y ∷ ys) (cond (0 == y) (y ∷ ys) (y ∷ placed 0 ys)))) low
    ∙ ap (λ (b : Bool). cond b (0 ∷ filter test (y ∷ ys)) (filter test (y ∷ ys))) e

abbrev AtMost : ℕ → Option ℕ → Type 0
AtMost n None = Unit {0}
AtMost n (Some x) = x ≤ n

-- Those that begin to die are among the touched and one more.
record Among_these (dying : ℕ → Bool) (n : ℕ) (before touched : List ℕ) (x : Option ℕ) : Type 0 where
  rise : Rise 0 touched n
  high : AtMost n x
  all : (o : ℕ) → dying o ≡ true → is_member o before ≡ false → (is_number o x || is_member o touched) ≡ true

falls-among : (dying : ℕ → Bool) (n : ℕ) (before touched : List ℕ) (x : Option ℕ) → dying 0 ≡ false → Among_these dying n before touched x
    → Falls dying n before (filter (λ o. dying o && not (is_member o before)) (placed_in x touched))
falls-among dying n before touched None z k = found dying n before touched k.rise k.all
falls-among dying n before touched (Some zero) z k =
    let test : ℕ → Bool = λ o. dying o && not (is_member o before) in
    let none : test 0 ≡ false = ap (λ (b : Bool). b && not (is_member 0 before)) z in
    subst (λ (xs : List ℕ). Falls dying n before xs) (sym (zero-dropped test touched n none k.rise))
    (found dying n before touched k.rise (λ o p q. dies-above o p (k.all o p q)))
  where
    dies-above : (o : ℕ) → dying o ≡ true → (o == 0 || is_member o touched) ≡ true → is_member o touched ≡ true
    dies-above zero p q = absurd (not-both (dying 0) p z)
    dies-above (suc o) p q = let n : (suc o == 0) ≡ false = grind (arith, common_steps) in or-second (suc o == 0) (is_member (suc o) touched) n q
falls-among dying n before touched (Some (suc x)) z k =
    found dying n before (placed (suc x) touched) (rise-placed 0 (suc x) touched n (omega arith) k.high k.rise)
    (λ o p q. member-placed (suc x) touched o ∙ k.all o p q)

-- The object of the body that leaves was made.
left-made : (d : Deed) (a : Actor) (os : List Opener) (n : ℕ) → fits (effect d) os
    → ((c k o b : ℕ) (rest : List Opener) → effect d ≡ Closes (Leaves c) → os ≡ Enters k o b ∷ rest → a ≡ Body k o)
    → ((k o b : ℕ) (rest : List Opener) → os ≡ Enters k o b ∷ rest → o ≤ n) → AtMost n (left_object d a)
left-made (deed.Leave c hr v bytes) a [] n f p q = absurd f
left-made (deed.Leave c hr v bytes) a (Pumps k ∷ os) n f p q = absurd f
left-made (deed.Leave c hr v bytes) a (Waits k ∷ os) n f p q = absurd f
left-made (deed.Leave c hr v bytes) a (Enters k o b ∷ os) n f p q =
    subst (λ (y : Actor). AtMost n (left_object (deed.Leave c hr v bytes) y)) (sym (p c k o b os refl refl)) (q k o b os refl)
left-made _ a os n f p q = tt

made-most : (n m : ℕ) (b : Bool) (x : Option ℕ) → n ≤ m → AtMost n x → AtMost m (or_else (cond b (Some m) None) x)
made-most n m true x p q = omega arith
made-most n m false None p q = tt
made-most n m false (Some y) p q = let r : y ≤ n = q in omega (arith, p, r)

leave-makes : (d : Deed) (c : ℕ) → effect d ≡ Closes (Leaves c) → is_some (makes d) ≡ false
leave-makes (deed.Made p q k i hr) c e = cc
leave-makes _ c e = refl

leave-object : (d : Deed) (c k o : ℕ) → effect d ≡ Closes (Leaves c) → left_object d (Body k o) ≡ Some o
leave-object (deed.Leave c hr v bytes) b k o e = refl
leave-object _ c k o e = cc

-- The object of the body that leaves is the other candidate.
left-other : (s : Scenario) (st : State) (l : ℕ) (d : Deed) (n o : ℕ) → LeavesBody st l d o → other_object n d (acting_in s st (record { lane = l; deed = d })) ≡ Some o
left-other s st l d n o z =
    let r : (rest : List Opener) × (openers_in st l ≡ Enters z.call o z.apartment ∷ rest) = first-is (openers_in st l) z.call o z.apartment z.top in
    ap (λ (b : Bool). or_else (cond b (Some n) None) (left_object d (acting_in s st (record { lane = l; deed = d })))) (leave-makes d z.call z.leaves)
    ∙ ap (λ (a : Actor). left_object d a) (body_acts s st l d z.call z.call o z.apartment r.0 z.leaves r.1)
    ∙ leave-object d z.call z.call o z.leaves

same-or : (o : ℕ) (x : Option ℕ) (b : Bool) → x ≡ Some o → (is_number o x || b) ≡ true
same-or o x b e = ap (λ (y : Option ℕ). is_number o y || b) e ∙ ap (λ (t : Bool). t || b) (same-number o)

-- What is made is the last object, and so is any that is above those before.
made-last : (m n o : ℕ) (b : Bool) (x : Option ℕ) (c : Bool) → n ≡ m + count_if b → m < o → o ≤ n → (is_number o (or_else (cond b (Some n) None) x) || c) ≡ true
made-last m n o true x c e p q = let same : o ≡ n = omega (arith, e, p, q) in same-or o (Some n) c (ap (λ (k : ℕ). Some k) (sym same))
made-last m n o false x c e p q = absurd (omega (arith, e, p, q))

dies-made : (s : Scenario) (st : State) (o : ℕ) → dies_in s st o ≡ true → o ≤ objects_in st
dies-made s st o e =
    let rest : Bool = not (is_member o st.finaled) && (holders_of s st o == 0 && not (is_entered s (openers_in st) o)) in
    let low : nat_le o (objects_in st) ≡ true = and-right (nat_le 1 o) (nat_le o (objects_in st)) (and-left (nat_le 1 o && nat_le o (objects_in st)) rest e) in
    grind (arith, common_steps, low)

dies-some : (s : Scenario) (st : State) (o : ℕ) → dies_in s st o ≡ true → 1 ≤ o
dies-some s st o e =
    let rest : Bool = not (is_member o st.finaled) && (holders_of s st o == 0 && not (is_entered s (openers_in st) o)) in
    let low : nat_le 1 o ≡ true = and-left (nat_le 1 o) (nat_le o (objects_in st)) (and-left (nat_le 1 o && nat_le o (objects_in st)) rest e) in
    grind (arith, common_steps, low)

may-found : (s : Scenario) (st : State) (l : ℕ) (d : Deed) (touched : List ℕ) (o : ℕ) → Touches s st l d touched
    → objects_in (after s st l d) ≡ objects_in st + count_if (is_some (makes d)) → dies_in s (after s st l d) o ≡ true → MayFall s st l d o
    → (is_number o (other_object (objects_in (after s st l d)) d (acting_in s st (record { lane = l; deed = d }))) || is_member o touched) ≡ true
may-found s st l d touched o t n e (inl z) = or-right (is_number o (other_object (objects_in (after s st l d)) d (acting_in s st (record { lane = l; deed = d })))) (is_member o touched) (t.all o (dies-some s (after s st l d) o e) z)
may-found s st l d touched o t n e (inr (inl z)) =
    same-or o (other_object (objects_in (after s st l d)) d (acting_in s st (record { lane = l; deed = d }))) (is_member o touched) (left-other s st l d (objects_in (after s st l d)) o z)
may-found s st l d touched o t n e (inr (inr z)) =
    made-last (objects_in st) (objects_in (after s st l d)) o (is_some (makes d)) (left_object d (acting_in s st (record { lane = l; deed = d }))) (is_member o touched) n z (dies-made s (after s st l d) o e)

-- The candidates that are dying after a lane's next entry and were not before are what falls by it.
pub fallen_found : (s : Scenario) (st : State) (h : List Entry) (l : ℕ) (d : Deed) (touched : List ℕ) → Formed s → StandsFor s st h → next_of s st l ≡ Some d → Touches s st l d touched
    → Falls (dies_in s (after s st l d)) (objects_in (after s st l d)) st.fallen
    (filter (λ o. dies_in s (after s st l d) o && not (is_member o st.fallen)) (placed_in (other_object (objects_in (after s st l d)) d (acting_in s st (record { lane = l; deed = d }))) touched))
fallen_found s st h l d touched f p e t =
    let su : State = after s st l d in
    let n : objects_in su ≡ objects_in st + count_if (is_some (makes d)) = objects_grow s st l d in
    let top : (k o b : ℕ) (rest : List Opener) → openers_in st l ≡ Enters k o b ∷ rest → o ≤ objects_in st = top_made s st h l f p in
    let left : AtMost (objects_in st) (left_object d (acting_in s st (record { lane = l; deed = d }))) =
    left-made d (acting_in s st (record { lane = l; deed = d })) (openers_in st l) (objects_in st) (entry_fits s st h l d p e) (body_acts s st l d) top in
    falls-among (dies_in s su) (objects_in su) st.fallen touched (other_object (objects_in su) d (acting_in s st (record { lane = l; deed = d }))) refl
    (record {
      rise = t.rise;
      high = made-most (objects_in st) (objects_in su) (is_some (makes d)) (left_object d (acting_in s st (record { lane = l; deed = d }))) (omega (arith, n)) left;
      all = λ o a b. may-found s st l d touched o t n a (fresh s st h l d o f p e a b);
    })
