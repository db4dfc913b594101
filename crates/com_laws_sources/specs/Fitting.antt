-- The values with which a call is entered: as many as the method has parameters, each of its kind.
use Rattle.std.specs.Prelude.{◌≡◌, ℕ, true, List, [], ◌∷◌, Some}
use Rattle.com_base.specs.declared.value.Kind.{Kind}
use Rattle.com_base.specs.declared.value.Value.{Value}
use Rattle.com_base.specs.Values.{has_kind}
use Rattle.com_classes.specs.Lookups.{method_at}
use Rattle.com_model.specs.declared.deeds.Entry.{Entry}
use Rattle.com_model.specs.declared.scenario.Scenario.{Scenario}
use Rattle.com_model.specs.declared.keeps.Issue.{Issue}
use Rattle.com_model.specs.declared.keeps.Opener.TheVariants.{Enters}
use Rattle.com_model.specs.Tables.{parameters}
use Rattle.com_model.specs.Openers.{openers}
use Rattle.com_model.specs.Calls.{issue}
use Rattle.com_laws_sources.specs.Histories.{given_to}
use Rattle.com_laws_sources.specs.Servers.{Stands}

abbrev pub HasKinds : List Kind → List Value → Type 0
HasKinds [] [] = Unit {0}
HasKinds (k ∷ ks) (v ∷ vs) = (has_kind v k ≡ true) × HasKinds ks vs
HasKinds _ _ = ⊥

-- Of each call whose body is open.
abbrev pub GivenFit : Scenario → List Entry → Type 0
GivenFit s h =
    (l c o a : ℕ) (i : Issue) → Stands (Enters c o a) (openers h l) → issue h c ≡ Some i
    → HasKinds (parameters (method_at s.classes i.iface i.method)) (given_to h c)
