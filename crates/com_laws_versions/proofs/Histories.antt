-- Rules, counts and ends of a history are those of the scenario in version 2: no table of a core looks at the version.
use Rattle.std.proofs.Common.{sym, subst, ◌∙◌, ap, arith}
use Rattle.std.proofs.lemmas.Grind.{common_steps}
use Rattle.std.specs.Prelude.{◌≡◌, refl, ℕ, ◌≤◌, ◌<◌, Bool, true, false, cond, ◌==◌, nat_le, List, [], ◌∷◌, length, Some, None}
use Rattle.com_model.specs.declared.counts.Ended.TheVariants as ended
use Rattle.com_model.specs.declared.deeds.Deed.{Deed}
use Rattle.com_model.specs.declared.deeds.Entry.{Entry}
use Rattle.com_model.specs.declared.scenario.Scenario.{Scenario}
use Rattle.com_model.specs.Ends.{all_counts, ended_as, finished_by, limit, stuck_by}
use Rattle.com_model.specs.Formed.{Formed}
use Rattle.com_model.specs.Rules.{legal, next}
use Rattle.com_model.specs.Sight.{Sight, sight}
use Rattle.com_model.specs.State.{State, StandsFor, after, first_tables, next_of, sight_of}
use Rattle.com_model.proofs.Sights.{same-next, same-sight}
use Rattle.com_model.proofs.Whole.{first-stands}
use Rattle.com_runtime.proofs.Runs.{stands-later}
use Rattle.com_runtime.specs.Reports.{all_counts_in}
use Rattle.com_runtime.proofs.Counting.{all-counted}
use Rattle.com_laws_versions.specs.Moved.{moved}
use Rattle.com_laws_versions.proofs.Formed.{moved_formed}

-- ---- tables

first-moved : (s : Scenario) → first_tables (moved s) ≡ first_tables s
first-moved s = refl

sight-moved : (s : Scenario) (st : State) → sight_of (moved s) st ≡ sight_of s st
sight-moved s st = refl

next-moved : (s : Scenario) (st : State) (l : ℕ) → next_of (moved s) st l ≡ next_of s st l
next-moved s st l = refl

after-moved : (s : Scenario) (st : State) (l : ℕ) (d : Deed) → after (moved s) st l d ≡ after s st l d
after-moved s st l d = refl

-- ---- the tables behind a history

tables_of : Scenario → List Entry → State
tables_of s [] = first_tables s
tables_of s (e ∷ h) = after s (tables_of s h) e.lane e.deed

tables-stand : (s : Scenario) (h : List Entry) → Formed s → legal s h → StandsFor s (tables_of s h) h
unfolding tables_of
tables-stand s [] f q = first-stands s
tables-stand s (e ∷ h) f q = stands-later s (tables_of s h) h e.lane e.deed f q (tables-stand s h f q.0)

tables-moved : (s : Scenario) (h : List Entry) → tables_of (moved s) h ≡ tables_of s h
unfolding tables_of
tables-moved s [] = first-moved s
tables-moved s (e ∷ h) = after-moved s (tables_of (moved s) h) e.lane e.deed ∙ ap (λ (st : State). after s st e.lane e.deed) (tables-moved s h)

-- ---- histories

next-same : (s : Scenario) (h : List Entry) (l : ℕ) → Formed s → legal s h → legal (moved s) h → next (moved s) h l ≡ next s h l
next-same s h l f p q =
    sym (same-next (moved s) (tables_of (moved s) h) h l (tables-stand (moved s) h (moved_formed s f) q))
    ∙ next-moved s (tables_of (moved s) h) l
    ∙ ap (λ (st : State). next_of s st l) (tables-moved s h)
    ∙ same-next s (tables_of s h) h l (tables-stand s h f p)

pub moved_legal : (s : Scenario) (h : List Entry) → Formed s → legal s h → legal (moved s) h
moved_legal s [] f q = tt
moved_legal s (e ∷ h) f q =
    let older : legal (moved s) h = moved_legal s h f q.0 in
    (older, next-same s h e.lane f q.0 older ∙ q.1)

stands-moved : (s : Scenario) (h : List Entry) → Formed s → legal s h → StandsFor (moved s) (tables_of s h) h
stands-moved s h f q = subst (λ (st : State). StandsFor (moved s) st h) (tables-moved s h) (tables-stand (moved s) h (moved_formed s f) (moved_legal s h f q))

counts-moved : (s : Scenario) (st : State) → all_counts_in (moved s) st ≡ all_counts_in s st
unfolding Rattle.com_runtime.specs.Reports.counts_in
counts-moved s st = refl

pub moved_counts : (s : Scenario) (h : List Entry) → Formed s → legal s h → all_counts (moved s) h ≡ all_counts s h
moved_counts s h f q =
    sym (all-counted (moved s) (tables_of s h) h (stands-moved s h f q))
    ∙ counts-moved s (tables_of s h)
    ∙ all-counted s (tables_of s h) h (tables-stand s h f q)

sight-same : (s : Scenario) (h : List Entry) → Formed s → legal s h → sight (moved s) h ≡ sight s h
sight-same s h f q =
    sym (same-sight (moved s) (tables_of s h) h (stands-moved s h f q))
    ∙ sight-moved s (tables_of s h)
    ∙ same-sight s (tables_of s h) h (tables-stand s h f q)

-- ---- ends

ended-within : (n a b : ℕ) (f k : Bool) → n < a → a ≤ b → cond (nat_le n b) (cond f (Some ended.Ok) (cond k (Some ended.Stuck) (cond (n == b) (Some ended.Budget) None))) None ≡ cond (nat_le n a) (cond f (Some ended.Ok) (cond k (Some ended.Stuck) (cond (n == a) (Some ended.Budget) None))) None
ended-within n a b f k p q =
    let u : nat_le n b ≡ true = grind (arith, p, q) in
    let v : nat_le n a ≡ true = grind (arith, p) in
    let w : (n == b) ≡ false = grind (arith, common_steps, p, q) in
    let x : (n == a) ≡ false = grind (arith, common_steps, p) in
    rw (u, v, w, x) refl

limits : (s : Scenario) → limit s ≤ limit (moved s)
limits s = by-version (s.version == 2)
  where
    by-version : (b : Bool) → cond b 1_000_000 200_000 ≤ 1_000_000
    by-version true = omega arith
    by-version false = omega arith

pub moved_ends : (s : Scenario) (h : List Entry) → Formed s → legal s h → length h < limit s → ended_as (moved s) h ≡ ended_as s h
moved_ends s h f q low =
    ap (λ (v : Sight). cond (nat_le (length h) (limit (moved s))) (cond (finished_by (moved s) v) (Some ended.Ok) (cond (stuck_by (moved s) v) (Some ended.Stuck) (cond (length h == limit (moved s)) (Some ended.Budget) None))) None) (sight-same s h f q)
    ∙ ended-within (length h) (limit s) (limit (moved s)) (finished_by s (sight s h)) (stuck_by s (sight s h)) low (limits s)
