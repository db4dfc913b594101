-- Where all has ended no lane can step.
use Rattle.std.proofs.Common.{ap, ◌∙◌, arith}
use Rattle.std.proofs.lemmas.Grind.{common_steps}
use Rattle.std.specs.Prelude.{◌≡◌, refl, ℕ, zero, suc, ◌+◌, ◌<◌, ◌≤◌, Bool, true, false, not, cond, ◌&&◌, ◌||◌, nat_le, List, [], ◌∷◌, ◌++◌, Option, Some, None, is_none, is_some, option_map, option_and_then}
use Rattle.com_refs_books.specs.Counting.{numbers_from}
use Rattle.com_model.specs.declared.deeds.Deed.{Deed}
use Rattle.com_model.specs.declared.deeds.Deed.TheVariants as deed
use Rattle.com_model.specs.declared.keeps.Opener.{Opener}
use Rattle.com_model.specs.declared.scenario.Scenario.{Scenario}
use Rattle.com_model.specs.Lists.{or_else, where_true, first, one_to, any_of, each_of, is_empty}
use Rattle.com_model.specs.Tables.{LaneSort, Thread, Host, Pool, NoLane, lane_sort, lanes, threads}
use Rattle.com_model.specs.Apartments.{mta, is_sta}
use Rattle.com_model.specs.Waiting.{bound_reached}
use Rattle.com_model.specs.Sight.{Sight}
use Rattle.com_model.specs.Rules.{waiting_call, admission, admits_sta, admits_next, pumped, is_script_turn, scripted, is_open_to_calls, top, rule_final, rule_own, rule_answer, rule_bound, rule_inbox, rule_retry, rule_again, rule_pending, rule_word, ruled, stepped, can_step, no_lane_can}
use Rattle.com_model.specs.Ends.{finished_by}
use Rattle.com_model.proofs.Fines.{GoodHome, GoodSight}
use Rattle.com_model.proofs.Scenes.{actor-good}

or-none : (a b : Option Deed) → a ≡ None → b ≡ None → or_else a b ≡ None
or-none None b p q = q
or-none (Some x) b p q = cc

cond-none : {X : Type 0} (b : Bool) (x : Option X) → x ≡ None → cond b x None ≡ None
cond-none true x e = e
cond-none false x e = refl

-- ---- one lane

own-none : (f : ℕ → Option Deed) (os : List Opener) → os ≡ [] → option_and_then f (waiting_call (first os)) ≡ None
own-none f os e = ap (λ (xs : List Opener). option_and_then f (waiting_call (first xs))) e

first-none : (xs : List ℕ) → xs ≡ [] → first xs ≡ None
first-none xs e = ap (λ (ys : List ℕ). first ys) e

-- Nothing is open or dying in the lane, it is over where it is a thread's, and no inbox of an apartment has a call.
record Idle (s : Scenario) (v : Sight) (l : ℕ) : Type 0 where
  closed : v.openers l ≡ []
  none : v.dying l ≡ []
  over : lane_sort s l ≡ Thread → v.over l ≡ true
  empty : (a : ℕ) → a < v.next_sta → v.inbox a ≡ []
  home : GoodHome v.next_sta (v.home l)
  three : 3 ≤ v.next_sta

sta-none : (v : Sight) (l : ℕ) (sort : LaneSort) (x : Option ℕ) → GoodHome v.next_sta x → ((a : ℕ) → a < v.next_sta → v.inbox a ≡ []) → admits_sta v l sort x ≡ None
sta-none v l sort None g p = refl
sta-none v l sort (Some a) g p = cond-none (is_sta a && is_open_to_calls v sort (top v l)) (first (v.inbox a)) (first-none (v.inbox a) (p a g))

admits-none : (s : Scenario) (v : Sight) (l : ℕ) (sort : LaneSort) → Idle s v l → admits_next v l sort ≡ None
admits-none s v l Pool p =
    let low : 3 ≤ v.next_sta = p.three in
    cond-none (is_none (top v l)) (first (v.inbox mta)) (first-none (v.inbox mta) (p.empty mta (omega (arith, low))))
admits-none s v l Thread p = sta-none v l Thread (v.home l) p.home p.empty
admits-none s v l Host p = sta-none v l Host (v.home l) p.home p.empty
admits-none s v l NoLane p = sta-none v l NoLane (v.home l) p.home p.empty

script-none : (sort : LaneSort) (os : List Opener) (over : Bool) (d : Deed) → os ≡ [] → (sort ≡ Thread → over ≡ true) → where_true (is_script_turn sort (first os) over) d ≡ None
script-none Thread os over d e p = ap (λ (xs : List Opener). where_true (is_script_turn Thread (first xs) over) d) e ∙ ap (λ (b : Bool). where_true (not b) d) (p refl)
script-none Host os over d e p = ap (λ (xs : List Opener). where_true (is_script_turn Host (first xs) over) d) e
script-none Pool os over d e p = ap (λ (xs : List Opener). where_true (is_script_turn Pool (first xs) over) d) e
script-none NoLane os over d e p = ap (λ (xs : List Opener). where_true (is_script_turn NoLane (first xs) over) d) e

ruled-none : (s : Scenario) (v : Sight) (l : ℕ) → Idle s v l → ruled s v l ≡ None
ruled-none s v l p =
    let e : v.openers l ≡ [] = p.closed in
    or-none (rule_final v l) _ (ap (λ (xs : List ℕ). option_map (λ (o : ℕ). deed.Final o) (first xs)) p.none)
    (or-none (rule_own s v l) _ (own-none _ (v.openers l) e)
    (or-none (rule_answer v l) _ (own-none _ (v.openers l) e)
    (or-none (rule_bound v l) _ (ap (λ (xs : List Opener). where_true (bound_reached xs (v.served l)) deed.EndPump) e)
    (or-none (rule_inbox s v l) _ (ap (λ (x : Option ℕ). option_map (admission s v l) x) (admits-none s v l (lane_sort s l) p))
    (or-none (rule_retry s v l) _ (own-none _ (v.openers l) e)
    (or-none (rule_again v l) _ (own-none _ (v.openers l) e)
    (or-none (rule_pending s v l) _ (own-none _ (v.openers l) e)
    (or-none (rule_word v l) _ (ap (λ (xs : List Opener). pumped v l (first xs)) e)
    (script-none (lane_sort s l) (v.openers l) (v.over l) (scripted s v l (v.act l)) e p.over)))))))))

lane-none : (s : Scenario) (v : Sight) (l : ℕ) → Idle s v l → can_step s v l ≡ false
lane-none s v l p =
    ap (λ (xs : List Opener). is_some (stepped s v l (first xs))) p.closed
    ∙ ap (λ (x : Option Deed). is_some x) (ruled-none s v l p)

-- ---- all lanes

pub left-of : (p q : Bool) → (p && q) ≡ true → p ≡ true
left-of true q e = refl
left-of false q e = e

right-of : (p q : Bool) → (p && q) ≡ true → q ≡ true
right-of true q e = e
right-of false q e = cc

each-last : (test : ℕ → Bool) (xs : List ℕ) (y : ℕ) → each_of test (xs ++ y ∷ []) ≡ true → (each_of test xs ≡ true) × (test y ≡ true)
each-last test [] y e = (refl, left-of (test y) true e)
each-last test (x ∷ xs) y e =
    let r : (each_of test xs ≡ true) × (test y ≡ true) = each-last test xs y (right-of (test x) (each_of test (xs ++ y ∷ [])) e) in
    (ap (λ (b : Bool). b && each_of test xs) (left-of (test x) (each_of test (xs ++ y ∷ [])) e) ∙ r.0, r.1)

pub each-one : (test : ℕ → Bool) (n l : ℕ) → each_of test (one_to n) ≡ true → 1 ≤ l → l ≤ n → test l ≡ true
each-one test zero l e p q = absurd (omega (arith, p, q))
each-one test (suc n) l e p q =
    let r : (each_of test (one_to n) ≡ true) × (test (suc n) ≡ true) = each-last test (one_to n) (suc n) e in
    elim (nat_le l n) as (λ t. nat_le l n ≡ t → test l ≡ true) [
      | true ↦ λ z. each-one test n l r.0 p (grind (arith, common_steps, z))
      | false ↦ λ z. let same : l ≡ suc n = grind (arith, common_steps, z, q) in ap test same ∙ r.1
    ] refl

each-number : (test : ℕ → Bool) (k n a : ℕ) → each_of test (numbers_from n k) ≡ true → n ≤ a → a < n + k → test a ≡ true
each-number test zero n a e p q = absurd (omega (arith, p, q))
each-number test (suc k) n a e p q =
    elim (nat_le a n) as (λ t. nat_le a n ≡ t → test a ≡ true) [
      | true ↦ λ z. let same : a ≡ n = grind (arith, common_steps, z, p) in ap test same ∙ left-of (test n) (each_of test (numbers_from (n + 1) k)) e
      | false ↦ λ z. let low : n + 1 ≤ a = grind (arith, common_steps, z) in each-number test k (n + 1) a (right-of (test n) (each_of test (numbers_from (n + 1) k)) e) low (omega (arith, q))
    ] refl

none-last : (test : ℕ → Bool) (xs : List ℕ) (y : ℕ) → any_of test xs ≡ false → test y ≡ false → any_of test (xs ++ y ∷ []) ≡ false
none-last test [] y p q = ap (λ (b : Bool). b || false) q
none-last test (x ∷ xs) y p q =
    elim (test x) as (λ b. (b || any_of test xs) ≡ false → (b || any_of test (xs ++ y ∷ [])) ≡ false) [
      | true ↦ λ e. e
      | false ↦ λ e. none-last test xs y e q
    ] p

none-one : (test : ℕ → Bool) (n : ℕ) → ((l : ℕ) → 1 ≤ l → l ≤ n → test l ≡ false) → any_of test (one_to n) ≡ false
none-one test zero p = refl
none-one test (suc n) p = none-last test (one_to n) (suc n) (none-one test n (λ l a b. p l a (omega (arith, b)))) (p (suc n) (omega arith) (omega arith))

pub empty-is : {X : Type 0} (xs : List X) → is_empty xs ≡ true → xs ≡ []
empty-is [] e = refl
empty-is (x ∷ xs) e = cc

thread-lane : (s : Scenario) (l : ℕ) → lane_sort s l ≡ Thread → l ≤ threads s
thread-lane s l e = actor-good s 0 0 0 l Thread [] e tt

pub record Parts (s : Scenario) (v : Sight) : Type 0 where
  pub over : each_of v.over (one_to (threads s)) ≡ true
  pub closed : each_of (λ l. is_empty (v.openers l) && is_empty (v.dying l)) (one_to (lanes s)) ≡ true
  pub empty : each_of (λ a. is_empty (v.inbox a)) (numbers_from 0 v.next_sta) ≡ true

three-parts : (a b c : Bool) → (a && (b && c)) ≡ true → (a ≡ true) × (b ≡ true) × (c ≡ true)
three-parts true true true e = (refl, refl, refl)
three-parts true true false e = cc
three-parts true false c e = cc
three-parts false b c e = cc

pub parts-of : (s : Scenario) (v : Sight) → finished_by s v ≡ true → Parts s v
parts-of s v e =
    let z = three-parts (each_of v.over (one_to (threads s))) (each_of (λ l. is_empty (v.openers l) && is_empty (v.dying l)) (one_to (lanes s))) (each_of (λ a. is_empty (v.inbox a)) (numbers_from 0 v.next_sta)) e in
    record { over = z.0; closed = z.1; empty = z.2 }

pub all-rest : (s : Scenario) (v : Sight) → GoodSight s v → finished_by s v ≡ true → no_lane_can s v ≡ true
all-rest s v g e = ap not (none-one (can_step s v) (lanes s) (λ l low high. lane-none s v l (idle l low high)))
  where
    bare : (l : ℕ) → 1 ≤ l → l ≤ lanes s → (is_empty (v.openers l) && is_empty (v.dying l)) ≡ true
    bare l low high = each-one (λ k. is_empty (v.openers k) && is_empty (v.dying k)) (lanes s) l (parts-of s v e).closed low high

    idle : (l : ℕ) → 1 ≤ l → l ≤ lanes s → Idle s v l
    idle l low high = record {
      closed = empty-is (v.openers l) (left-of (is_empty (v.openers l)) (is_empty (v.dying l)) (bare l low high));
      none = empty-is (v.dying l) (right-of (is_empty (v.openers l)) (is_empty (v.dying l)) (bare l low high));
      over = λ z. each-one v.over (threads s) l (parts-of s v e).over low (thread-lane s l z);
      empty = λ a h. empty-is (v.inbox a) (each-number (λ b. is_empty (v.inbox b)) v.next_sta 0 a (parts-of s v e).empty (omega arith) (omega (arith, h)));
      home = g.homes l;
      three = g.three;
    }
