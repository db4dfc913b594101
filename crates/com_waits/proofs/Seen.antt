-- What is read of the entries is why lanes wait; and where one waits for the pool, the pool is exhausted.
use Rattle.std.proofs.Common.{subst, sym, ap, ap₂, ◌∙◌, inl, eqb-true, arith}
use Rattle.std.proofs.lemmas.Grind.{common_steps}
use Rattle.std.specs.List.{cons_option}
use Rattle.std.specs.Prelude.{◌≡◌, refl, ℕ, ◌≤◌, Bool, true, false, cond, ◌==◌, ◌||◌, nat_le, List, [], ◌∷◌, Option, Some, None, filter_map, is_none, is_some, option_map}
use Rattle.com_model.specs.declared.deeds.Entry.{Entry}
use Rattle.com_model.specs.declared.keeps.Admission.{Admission}
use Rattle.com_model.specs.declared.keeps.Opener.{Opener}
use Rattle.com_model.specs.declared.keeps.Opener.TheVariants.{Pumps, Waits, Enters}
use Rattle.com_model.specs.declared.scenario.Scenario.{Scenario}
use Rattle.com_model.specs.Lists.{first, is_empty, is_member, one_to, where_true, any_of}
use Rattle.com_model.specs.Tables.{LaneSort, Thread, Host, Pool, NoLane, host_lane, lane_sort, lanes, threads}
use Rattle.com_model.specs.Apartments.{mta}
use Rattle.com_model.specs.Openers.{openers}
use Rattle.com_model.specs.Objects.{named}
use Rattle.com_model.specs.Calls.{admitted, target}
use Rattle.com_model.specs.Waiting.{inbox}
use Rattle.com_model.specs.Formed.{Formed}
use Rattle.com_model.specs.Sight.{sight}
use Rattle.com_model.specs.Rules.{admission, admits_next, legal}
use Rattle.com_model.specs.Ends.{stuck}
use Rattle.com_laws_safety.proofs.Small.{not-both}
use Rattle.com_laws_balance.proofs.Counts.{Among}
use Rattle.com_laws_balance.proofs.Arrivals.{WaitsTop}
use Rattle.com_laws_balance.proofs.Bases.{first-among}
use Rattle.com_laws_release.proofs.Arrived.{waits-top}
use Rattle.com_waits.specs.declared.reasons.Why.{Why}
use Rattle.com_waits.specs.declared.reasons.Why.TheVariants as reason
use Rattle.com_waits.specs.declared.reasons.Wait.{Wait}
use Rattle.com_waits.specs.Reasons.{pool_lane, wait_of, waits_of, why, why_at, why_at_call}
use Rattle.com_waits.specs.Walks.{is_for_pool, lane_in, seen, seen_at, seen_at_call, seen_waits}
use Rattle.com_waits.specs.Laws.{CallsWait, IsExhausted, IsOpen, IsRing, is_at_pool, is_pool}
use Rattle.com_waits.proofs.Stills.{Still, stuck-still, NoRule, AtTop, at_none, at_pump, at_call, at-top}
use Rattle.com_waits.proofs.Tops.{map-none, not-answered, rings-reach, top-stands}
use Rattle.com_waits.proofs.Queued.{in-inbox, inbox-names}

-- ---- the same reasons

same-bool : (a b : Bool) → (a ≡ true → b ≡ true) → (b ≡ true → a ≡ true) → a ≡ b
same-bool true b f g = sym (f refl)
same-bool false true f g = g refl
same-bool false false f g = refl

seen-call : (s : Scenario) (h : List Entry) (c : ℕ) (x : Option Admission) → (x ≡ None → is_for_pool h c ≡ is_member c (inbox s h mta)) → seen_at_call (pool_lane s) c (is_for_pool h c) (lane_in x) ≡ why_at_call s h c x
seen-call s h c None f = ap (λ (b : Bool). where_true b (reason.Pool c (pool_lane s))) (f refl)
seen-call s h c (Some a) f = refl

pool-member : (s : Scenario) (h : List Entry) (l c : ℕ) (os : List Opener) → Formed s → legal s h → Still s h → openers h l ≡ Waits c ∷ os → NoRule s (sight s h) l → admitted h c ≡ None → is_for_pool h c ≡ is_member c (inbox s h mta)
pool-member s h l c os f p t e r n =
    same-bool (is_for_pool h c) (is_member c (inbox s h mta))
    (λ z. subst (λ (a : ℕ). is_member c (inbox s h a) ≡ true) (eqb-true (named h (target h c)) mta z) (in-inbox s h l c os f p t e r n))
    (λ z. inbox-names s h mta c z)

seen-top : (s : Scenario) (h : List Entry) (l c : ℕ) (os : List Opener) → Formed s → legal s h → stuck s h ≡ true → openers h l ≡ Waits c ∷ os → AtTop s h l → seen_at (pool_lane s) h (Some (Waits c)) ≡ why_at s h (Some (Waits c))
seen-top s h l c os f p t e (at_none z r) = absurd (none-some (sym e ∙ z))
  where
    none-some : Waits c ∷ os ≡ [] → ⊥
    none-some e = cc
seen-top s h l c os f p t e (at_pump n xs z r) = seen-call s h c (admitted h c) (λ y. pool-member s h l c os f p (stuck-still s h t) e r y)
seen-top s h l c os f p t e (at_call d xs z r) = seen-call s h c (admitted h c) (λ y. pool-member s h l c os f p (stuck-still s h t) e r y)

pub seen-why : (s : Scenario) (h : List Entry) (l : ℕ) → Formed s → legal s h → stuck s h ≡ true → seen (pool_lane s) h l ≡ why s h l
seen-why s h l f p t = by-openers (openers h l) refl
  where
    by-openers : (os : List Opener) → openers h l ≡ os → seen_at (pool_lane s) h (first os) ≡ why_at s h (first os)
    by-openers [] e = refl
    by-openers (Pumps n ∷ os) e = refl
    by-openers (Enters c o a ∷ os) e = refl
    by-openers (Waits c ∷ os) e = seen-top s h l c os f p t e (top-stands s h l (Waits c) p t (subst (λ (ys : List Opener). Among (Waits c) ys) (sym e) (inl refl)))

filter-same : (f g : ℕ → Option Wait) (xs : List ℕ) → ((x : ℕ) → f x ≡ g x) → filter_map f xs ≡ filter_map g xs
filter-same f g [] p = refl
filter-same f g (x ∷ xs) p = ap₂ (λ (o : Option Wait) (ys : List Wait). cons_option o ys) (p x) (filter-same f g xs p)

pub seen-waits : (s : Scenario) (h : List Entry) → Formed s → legal s h → stuck s h ≡ true → seen_waits (pool_lane s) h (lanes s) ≡ waits_of s h
seen-waits s h f p t =
    filter-same (λ l. option_map (wait_of l) (seen (pool_lane s) h l)) (λ l. option_map (wait_of l) (why s h l)) (one_to (lanes s))
    (λ l. ap (λ (x : Option Why). option_map (wait_of l) x) (seen-why s h l f p t))

-- ---- the pool

pool-sort : (a b c e : Bool) → cond a NoLane (cond b Thread (cond c Host (cond e Pool NoLane))) ≡ Pool → (a ≡ false) × (e ≡ true)
pool-sort true b c e z = cc
pool-sort false true c e z = cc
pool-sort false false true e z = cc
pool-sort false false false true z = (refl, refl)
pool-sort false false false false z = cc

pool-range : (s : Scenario) (l : ℕ) → lane_sort s l ≡ Pool → (1 ≤ l) × (l ≤ lanes s)
pool-range s l z =
    let r : ((l == 0) ≡ false) × (nat_le l (lanes s) ≡ true) = pool-sort (l == 0) (nat_le l (threads s)) (l == host_lane s) (nat_le l (lanes s)) z in
    (grind (arith, common_steps, r.0), grind (arith, common_steps, r.1))

not-empty : (c : ℕ) (xs : List ℕ) → is_member c xs ≡ true → is_empty xs ≡ false
not-empty c [] e = cc
not-empty c (x ∷ xs) e = refl

first-none : (xs : List ℕ) → first xs ≡ None → is_empty xs ≡ true
first-none [] e = refl
first-none (x ∷ xs) e = cc

-- A pool lane without opener admits the first call of the inbox.
pool-admits : (s : Scenario) (h : List Entry) (l : ℕ) → lane_sort s l ≡ Pool → openers h l ≡ [] → NoRule s (sight s h) l → is_empty (inbox s h mta) ≡ true
pool-admits s h l z e r =
    let n : admits_next (sight s h) l (lane_sort s l) ≡ None = map-none (admission s (sight s h) l) (admits_next (sight s h) l (lane_sort s l)) r.inbox in
    first-none (inbox s h mta)
    (subst (λ (os : List Opener). cond (is_none (first os)) (first (inbox s h mta)) None ≡ None) e
    (subst (λ (x : LaneSort). admits_next (sight s h) l x ≡ None) z n))

open-some : (h : List Entry) (l : ℕ) (o : Opener) (os : List Opener) → openers h l ≡ o ∷ os → IsOpen h l
open-some h l o os e = ap (λ (ys : List Opener). is_some (first ys)) e

pool-open : (s : Scenario) (h : List Entry) (l : ℕ) → lane_sort s l ≡ Pool → is_empty (inbox s h mta) ≡ false → AtTop s h l → IsOpen h l
pool-open s h l z n (at_none e r) = absurd (not-both (is_empty (inbox s h mta)) (pool-admits s h l z e r) n)
pool-open s h l z n (at_pump k os e r) = open-some h l (Pumps k) os e
pool-open s h l z n (at_call c os e r) = open-some h l (Waits c) os e

why-member : (s : Scenario) (h : List Entry) (x : Option Opener) → is_pool (why_at s h x) ≡ true → is_empty (inbox s h mta) ≡ false
why-member s h None e = cc
why-member s h (Some (Pumps n)) e = cc
why-member s h (Some (Enters c o a)) e = cc
why-member s h (Some (Waits c)) e = by-admission (admitted h c) e
  where
    by-admission : (x : Option Admission) → is_pool (why_at_call s h c x) ≡ true → is_empty (inbox s h mta) ≡ false
    by-admission (Some a) e = cc
    by-admission None e = not-empty c (inbox s h mta) (by-test (is_member c (inbox s h mta)) e)
      where
        by-test : (b : Bool) → is_pool (where_true b (reason.Pool c (pool_lane s))) ≡ true → b ≡ true
        by-test true e = refl
        by-test false e = cc

pub pool-exhausts : (s : Scenario) (h : List Entry) → legal s h → stuck s h ≡ true → (l : ℕ) → is_at_pool s h l ≡ true → IsExhausted s h
pool-exhausts s h p t l e =
    let n : is_empty (inbox s h mta) ≡ false = why-member s h (first (openers h l)) e in
    record {
      waits = n;
      busy = λ k z. let r : (1 ≤ k) × (k ≤ lanes s) = pool-range s k z in pool-open s h k z n (at-top s h k (stuck-still s h t) r.0 r.1);
    }

record Found (test : ℕ → Bool) : Type 0 where
  number : ℕ
  passes : test number ≡ true

any-found : (test : ℕ → Bool) (xs : List ℕ) → any_of test xs ≡ true → Found test
any-found test [] e = cc
any-found test (x ∷ xs) e =
    elim (test x) as (λ b. test x ≡ b → (b || any_of test xs) ≡ true → Found test) [
      | true ↦ λ z k. record { number = x; passes = z }
      | false ↦ λ z k. any-found test xs k
    ] refl e

pub rings-exhaust : (s : Scenario) (h : List Entry) → Formed s → legal s h → stuck s h ≡ true → (ls : List ℕ) → IsRing s h ls → IsExhausted s h
rings-exhaust s h f p t ls r = let k : Found (is_at_pool s h) = any-found (is_at_pool s h) ls (rings-reach s h f p t ls r) in pool-exhausts s h p t k.number k.passes

-- ---- a call on top

pub rule-of : (s : Scenario) (h : List Entry) (l : ℕ) → AtTop s h l → NoRule s (sight s h) l
rule-of s h l (at_none e r) = r
rule-of s h l (at_pump n os e r) = r
rule-of s h l (at_call c os e r) = r

pub calls-wait : (s : Scenario) (h : List Entry) → Formed s → legal s h → stuck s h ≡ true → CallsWait s h
calls-wait s h f p t = λ l c e.
    let w : WaitsTop (openers h l) c = waits-top (openers h l) c e in
    let r : NoRule s (sight s h) l = rule-of s h l (top-stands s h l (Waits c) p t (first-among (openers h l) (Waits c) e)) in
    record {
      unanswered = not-answered s h l c w.rest w.is r;
      queued = λ n. in-inbox s h l c w.rest f p (stuck-still s h t) w.is r n;
    }
