-- A scenario keeps its form in version 2: only the header's clause looks at the version.
use Rattle.std.proofs.Common.{arith}
use Rattle.std.specs.Prelude.{ℕ, ◌+◌, List, [], ◌∷◌, All}
use Rattle.com_body.specs.declared.statements.Stmt.{Stmt}
use Rattle.com_classes.specs.declared.classes.Class.{Class}
use Rattle.com_classes.specs.declared.classes.MethodBody.{MethodBody}
use Rattle.com_model.specs.declared.scenario.Scenario.{Scenario}
use Rattle.com_model.specs.Formed.{Context, EachFrom, Formed, FormedBody, FormedClasses, IsBody, IsClass, in_class, in_script}
use Rattle.com_laws_versions.specs.Moved.{moved}

each-all : {X : Type 0} (P Q : X → Type 0) (xs : List X) → ((x : X) → P x → Q x) → All P xs → All Q xs
each-all P Q xs f p = λ k d low. f _ (p k d low)

each-from : {X : Type 0} (P Q : ℕ → X → Type 0) (n : ℕ) (xs : List X) → ((n : ℕ) (x : X) → P n x → Q n x) → EachFrom P n xs → EachFrom Q n xs
each-from P Q n [] f p = tt
each-from P Q n (x ∷ xs) f p = (f n x p.0, each-from P Q (n + 1) xs f p.1)

same-body : (s : Scenario) (x : Context) (n : ℕ) (b : List Stmt) → FormedBody s x n b → FormedBody (moved s) x n b
same-body s x n b p = record { ranges = p.ranges; statements = p.statements; whole = p.whole }

same-bodies : (s : Scenario) (x : Context) (bs : List MethodBody) → All (IsBody s x) bs → All (IsBody (moved s) x) bs
same-bodies s x bs p = each-all (IsBody s x) (IsBody (moved s) x) bs (λ b q. (same-body s x 200 b.body q.0, q.1)) p

same-class : (s : Scenario) (n : ℕ) (k : Class) → IsClass s n k → IsClass (moved s) n k
same-class s n k p = (p.0, p.1, p.2, same-bodies s (in_class n k) k.bodies p.3, p.4)

same-classes : (s : Scenario) → FormedClasses s → FormedClasses (moved s)
same-classes s p = record {
  few = p.few;
  each = each-from (IsClass s) (IsClass (moved s)) 1 s.classes.classes (same-class s) p.each;
  distinct = p.distinct;
}

pub moved_formed : (s : Scenario) → Formed s → Formed (moved s)
moved_formed s p = record {
  version = (omega arith, omega arith);
  pool = p.pool;
  interfaces = p.interfaces;
  classes = same-classes s p.classes;
  filters = p.filters;
  threads = (each-all (FormedBody s (in_script s) 2000) (FormedBody (moved s) (in_script (moved s)) 2000) s.threads (same-body s (in_script s) 2000) p.threads.0, p.threads.1);
  picks = p.picks;
}
