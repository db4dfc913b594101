-- What a stuck history says of each lane: none of the rules applies.
use Rattle.std.proofs.Common.{subst, sym, ap, ◌∙◌, eqb-true, arith}
use Rattle.std.proofs.lemmas.Grind.{common_steps}
use Rattle.std.specs.Prelude.{◌≡◌, refl, ℕ, zero, suc, ◌≤◌, Bool, true, false, cond, not, ◌==◌, ◌&&◌, ◌||◌, nat_le, List, [], ◌∷◌, ◌++◌, Option, Some, None, is_none, is_some, option_map}
use Rattle.com_body.specs.declared.actions.Action.{Action}
use Rattle.com_model.specs.declared.deeds.Deed.{Deed}
use Rattle.com_model.specs.declared.deeds.Deed.TheVariants as deed
use Rattle.com_model.specs.declared.deeds.Entry.{Entry}
use Rattle.com_model.specs.declared.keeps.Opener.{Opener}
use Rattle.com_model.specs.declared.keeps.Opener.TheVariants.{Pumps, Waits, Enters}
use Rattle.com_model.specs.declared.scenario.Scenario.{Scenario}
use Rattle.com_model.specs.Lists.{or_else, first, one_to, any_of}
use Rattle.com_model.specs.Tables.{lane_sort, lanes}
use Rattle.com_model.specs.Openers.{Effect, Keeps, effect, opened, openers}
use Rattle.com_model.specs.Objects.{class_of}
use Rattle.com_model.specs.Calls.{issue}
use Rattle.com_model.specs.Frames.{actor, act_by, act, issued_body, scene}
use Rattle.com_model.specs.Sight.{Sight, sight}
use Rattle.com_model.specs.Rules.{rule_final, rule_own, rule_answer, rule_bound, rule_inbox, rule_retry, rule_again, rule_pending, rule_word, rule_script, ruled, stepped, lane_next, can_step, no_lane_can, tick_time, next, legal}
use Rattle.com_model.specs.Deeds.{deed_of}
use Rattle.com_model.specs.Ends.{finished_by, stuck}
use Rattle.com_laws_safety.proofs.Small.{and-left, and-right, neither, not-true, none-of}

-- ---- no lane can step

any-parts : (test : ℕ → Bool) (xs : List ℕ) (y : ℕ) → any_of test (xs ++ y ∷ []) ≡ false → (any_of test xs ≡ false) × (test y ≡ false)
any-parts test [] y e = (refl, (neither (test y) false e).0)
any-parts test (x ∷ xs) y e =
    let n : (test x ≡ false) × (any_of test (xs ++ y ∷ []) ≡ false) = neither (test x) (any_of test (xs ++ y ∷ [])) e in
    let r : (any_of test xs ≡ false) × (test y ≡ false) = any-parts test xs y n.1 in
    (ap (λ (b : Bool). b || any_of test xs) n.0 ∙ r.0, r.1)

none-of-one : (test : ℕ → Bool) (n l : ℕ) → any_of test (one_to n) ≡ false → 1 ≤ l → l ≤ n → test l ≡ false
none-of-one test zero l e p q = absurd (omega (arith, p, q))
none-of-one test (suc n) l e p q =
    let r : (any_of test (one_to n) ≡ false) × (test (suc n) ≡ false) = any-parts test (one_to n) (suc n) e in
    elim (nat_le l n) as (λ t. nat_le l n ≡ t → test l ≡ false) [
      | true ↦ λ z. none-of-one test n l r.0 p (grind (arith, common_steps, z))
      | false ↦ λ z. let same : l ≡ suc n = grind (arith, common_steps, z, q) in ap test same ∙ r.1
    ] refl

none-next : (x : Option Deed) → is_some x ≡ false → x ≡ None
none-next None e = refl
none-next (Some d) e = cc

pub record Still (s : Scenario) (h : List Entry) : Type 0 where
  pub lanes : (l : ℕ) → 1 ≤ l → l ≤ lanes s → lane_next s (sight s h) l ≡ None
  pub clock : tick_time (sight s h) ≡ None

pub stuck-still : (s : Scenario) (h : List Entry) → stuck s h ≡ true → Still s h
stuck-still s h e =
    let v : Sight = sight s h in
    let n : no_lane_can s v ≡ true = and-left (no_lane_can s v) (is_none (tick_time v) && not (finished_by s v)) e in
    let r : (is_none (tick_time v) && not (finished_by s v)) ≡ true = and-right (no_lane_can s v) (is_none (tick_time v) && not (finished_by s v)) e in
    record {
      lanes = λ l p q. none-next (lane_next s v l) (none-of-one (can_step s v) (lanes s) l (not-true (any_of (can_step s v) (one_to (lanes s))) n) p q);
      clock = none-of (tick_time v) (and-left (is_none (tick_time v)) (not (finished_by s v)) r);
    }

-- ---- no rule applies

both-none : (a b : Option Deed) → or_else a b ≡ None → (a ≡ None) × (b ≡ None)
both-none None b e = (refl, e)
both-none (Some d) b e = cc

pub record NoRule (s : Scenario) (v : Sight) (l : ℕ) : Type 0 where
  pub final : rule_final v l ≡ None
  pub own : rule_own s v l ≡ None
  pub answer : rule_answer v l ≡ None
  pub inbox : rule_inbox s v l ≡ None
  pub retry : rule_retry s v l ≡ None
  pub again : rule_again v l ≡ None
  pub script : rule_script s v l ≡ None

no-rule : (s : Scenario) (v : Sight) (l : ℕ) → ruled s v l ≡ None → NoRule s v l
no-rule s v l e =
    let p1 = both-none (rule_final v l) _ e in
    let p2 = both-none (rule_own s v l) _ p1.1 in
    let p3 = both-none (rule_answer v l) _ p2.1 in
    let p4 = both-none (rule_bound v l) _ p3.1 in
    let p5 = both-none (rule_inbox s v l) _ p4.1 in
    let p6 = both-none (rule_retry s v l) _ p5.1 in
    let p7 = both-none (rule_again v l) _ p6.1 in
    let p8 = both-none (rule_pending s v l) _ p7.1 in
    let p9 = both-none (rule_word v l) _ p8.1 in
    record { final = p1.0; own = p2.0; answer = p3.0; inbox = p5.0; retry = p6.0; again = p7.0; script = p9.1 }

-- ---- a body can always step

-- The action of the body on top.
record Acting (s : Scenario) (h : List Entry) (l : ℕ) : Type 0 where
  action : Action
  acts : act s h l ≡ Some action

body-acts : (s : Scenario) (h : List Entry) (l c o a : ℕ) (os : List Opener) → openers h l ≡ Enters c o a ∷ os → Acting s h l
body-acts s h l c o a os e = record {
  action = (issued_body s (class_of h o) (issue h c) ((scene s h).bodies c) ((scene s h).cells o)).action;
  acts = ap (λ (xs : List Opener). act_by s (class_of h) (issue h) (scene s h) (actor (lane_sort s l) l xs)) e;
}

acting-steps : (s : Scenario) (v : Sight) (l : ℕ) (x : Action) → v.act l ≡ Some x → option_map (deed_of s v l) (v.act l) ≡ None → ⊥
acting-steps s v l x e n = not-none (deed_of s v l x) (sym (ap (λ (y : Option Action). option_map (deed_of s v l) y) e) ∙ n)
  where
    not-none : (d : Deed) → Some d ≡ None → ⊥
    not-none d e = cc

-- What stands on top of a lane of a stuck history.
pub data AtTop (s : Scenario) (h : List Entry) (l : ℕ) : Type 0 where
  at_none : openers h l ≡ [] → NoRule s (sight s h) l → AtTop s h l
  at_pump : (n : ℕ) (os : List Opener) → openers h l ≡ Pumps n ∷ os → NoRule s (sight s h) l → AtTop s h l
  at_call : (c : ℕ) (os : List Opener) → openers h l ≡ Waits c ∷ os → NoRule s (sight s h) l → AtTop s h l

pub at-top : (s : Scenario) (h : List Entry) (l : ℕ) → Still s h → 1 ≤ l → l ≤ lanes s → AtTop s h l
at-top s h l t p q = by-openers (openers h l) refl
  where
    stands : (os : List Opener) → openers h l ≡ os → stepped s (sight s h) l (first os) ≡ None
    stands os e = subst (λ (xs : List Opener). stepped s (sight s h) l (first xs) ≡ None) e (t.lanes l p q)

    by-openers : (os : List Opener) → openers h l ≡ os → AtTop s h l
    by-openers [] e = at_none e (no-rule s (sight s h) l (stands [] e))
    by-openers (Pumps n ∷ os) e = at_pump n os e (no-rule s (sight s h) l (stands (Pumps n ∷ os) e))
    by-openers (Waits c ∷ os) e = at_call c os e (no-rule s (sight s h) l (stands (Waits c ∷ os) e))
    by-openers (Enters c o a ∷ os) e = let x : Acting s h l = body-acts s h l c o a os e in absurd (acting-steps s (sight s h) l x.action x.acts (stands (Enters c o a ∷ os) e))

-- ---- nothing is open in the clock's lane

some-deed : (x y : Deed) → Some x ≡ Some y → x ≡ y
some-deed x y e = cc

tick-keeps : (b : Bool) (t : Option ℕ) (d : Deed) → cond b (option_map (λ (n : ℕ). deed.Tick n) t) None ≡ Some d → effect d ≡ Keeps
tick-keeps true (Some n) d e = ap effect (sym (some-deed (deed.Tick n) d e))
tick-keeps true None d e = cc
tick-keeps false t d e = cc

clock-keeps : (s : Scenario) (h : List Entry) (d : Deed) → next s h 0 ≡ Some d → effect d ≡ Keeps
clock-keeps s h d e = tick-keeps (no_lane_can s (sight s h)) (tick_time (sight s h)) d e

kept-bare : (b : Bool) (e : Entry) (os : List Opener) → (b ≡ true → effect e.deed ≡ Keeps) → os ≡ [] → opened (cond b (effect e.deed) Keeps) os ≡ []
kept-bare true e os p q = ap (λ (x : Effect). opened x os) (p refl) ∙ q
kept-bare false e os p q = q

pub clock-bare : (s : Scenario) (h : List Entry) → legal s h → openers h 0 ≡ []
clock-bare s [] p = refl
clock-bare s (e ∷ h) p = kept-bare (e.lane == 0) e (openers h 0) (λ z. clock-keeps s h e.deed (subst (λ (l : ℕ). next s h l ≡ Some e.deed) (eqb-true e.lane 0 z) p.1)) (clock-bare s h p.0)
