-- A source in a history: which bodies its calls run, and what their Leaves do.
use Rattle.std.specs.Prelude.{◌≡◌, ℕ, false, List, ◌∷◌, Option}
use Rattle.com_base.specs.declared.hresult.HResult.{HResult}
use Rattle.com_base.specs.declared.value.Value.{Value}
use Rattle.com_classes.specs.Lookups.{body_of}
use Rattle.com_model.specs.declared.deeds.Deed.TheVariants as deed
use Rattle.com_model.specs.declared.deeds.Entry.{Entry}
use Rattle.com_model.specs.declared.scenario.Scenario.{Scenario}
use Rattle.com_model.specs.declared.keeps.Issue.{Issue}
use Rattle.com_model.specs.declared.keeps.Opener.{Opener}
use Rattle.com_model.specs.declared.keeps.Opener.TheVariants.{Enters}
use Rattle.com_model.specs.Openers.{openers}
use Rattle.com_model.specs.Tables.{is_agile_class}
use Rattle.com_model.specs.Frames.{scene}
use Rattle.com_laws_sources.specs.Bodies.{advise_body, unadvise_body, fire_body}
use Rattle.com_laws_sources.specs.Kept.{Keeps}
use Rattle.com_laws_sources.specs.Rounds.{Leaves}
use Rattle.com_laws_sources.specs.Runs.{by_itself, Sits}
use Rattle.com_laws_sources.specs.Sinks.{Sink}
use Rattle.com_laws_sources.specs.Sources.{advise, unadvise, fire}
use Rattle.com_laws_sources.specs.Steps.{IsLeave, result_of}

-- The bodies that run for the methods of a source, and that its objects are not agile.
pub record SourceRuns (s : Scenario) (class iface : ℕ) : Type 0 where
  pub advises : body_of s.classes class iface advise ≡ advise_body
  pub unadvises : body_of s.classes class iface unadvise ≡ unadvise_body
  pub fires : body_of s.classes class iface fire ≡ fire_body
  pub not_agile : is_agile_class s class ≡ false

-- Where a call's body leaves by itself with an answer and some sinks in the cells, its Leave in the history
-- has the answer, and the cells keep these sinks after it.
abbrev pub SinksAfter : Scenario → List Entry → Entry → Type 0
SinksAfter s h e =
    (c o a : ℕ) (os : List Opener) (i : Issue) (n : ℕ) (hr : HResult) (given : Option Value)
    (sinks : List Sink) (last : ℕ)
    → openers h e.lane ≡ Enters c o a ∷ os → Sits s h c o a i n
    → Leaves (by_itself s h c o i n) hr given sinks last
    → (d : ℕ) (y : HResult) (v : Option Value) (bytes : Option (List ℕ)) → e.deed ≡ deed.Leave d y v bytes
    → IsLeave e.deed c hr (result_of s h i hr given) × Keeps ((scene s (e ∷ h)).cells o) sinks last
