-- An object that is connected was connected after each entry since its making.
use Rattle.std.proofs.Common.{arith}
use Rattle.std.specs.Prelude.{◌≡◌, refl, ℕ, ◌≤◌, true, false, List, [], ◌∷◌, ◌++◌, Option, Some, None}
use Rattle.com_model.specs.declared.deeds.Entry.{Entry}
use Rattle.com_model.specs.declared.scenario.Scenario.{Scenario}
use Rattle.com_model.specs.Books.{books}
use Rattle.com_model.specs.Cases.{direct_call, direct_call_3, direct_call_10}
use Rattle.com_model.specs.Formed.{Formed}
use Rattle.com_model.specs.declared.keeps.Making.{Making}
use Rattle.com_model.specs.Objects.{makes, objects, one_more}
use Rattle.com_model.specs.Rules.{legal}
use Rattle.com_laws_balance.proofs.Makings.{not-made-by}
use Rattle.com_laws_balance.proofs.Secures.{was-live}

one-more-is : (x : Option Making) (n : ℕ) → n ≤ one_more x n
one-more-is None n = omega arith
one-more-is (Some m) n = omega arith

objects-stay : (later h : List Entry) → objects h ≤ objects (later ++ h)
objects-stay [] h = omega arith
objects-stay (e ∷ more) h = let p = objects-stay more h in let q = one-more-is (makes e.deed) (objects (more ++ h)) in omega (arith, p, q)

pub live-before : (s : Scenario) (h later : List Entry) (o : ℕ) → Formed s → legal s (later ++ h) → o ≤ objects h → (books s (later ++ h)).live o ≡ true → (books s h).live o ≡ true
live-before s h [] o f q made live = live
live-before s h (e ∷ more) o f q made live =
    let stays = objects-stay more h in
    live-before s h more o f q.0 made (was-live s (more ++ h) e o (not-made-by s (more ++ h) e o f q (omega (arith, made, stays))) live)

pub held-live : (books direct_call direct_call_3).live 1 ≡ true
held-live = refl

pub released-dead : (books direct_call direct_call_10).live 1 ≡ false
released-dead = refl
