-- Each entry is made behind a history that has not ended.
use Rattle.std.specs.Prelude.{◌≡◌, ℕ, ◌<◌, List, ◌∷◌, None, length}
use Rattle.com_model.specs.declared.deeds.Deed.{Deed}
use Rattle.com_model.specs.declared.deeds.Deed.TheVariants as deed
use Rattle.com_model.specs.declared.deeds.Entry.{Entry}
use Rattle.com_model.specs.declared.scenario.Scenario.{Scenario}
use Rattle.com_model.specs.Cases.{direct_call_10}
use Rattle.com_model.specs.Ends.{ended_as, limit}

-- What stood before an entry had fewer entries than the limit, and was neither finished nor stuck.
abbrev pub GoesOn : Scenario → List Entry → ℕ → Deed → Type 0
GoesOn s h l d = (length h < limit s) × (ended_as s h ≡ None)

-- A script ends once more, behind a history that is finished.
abbrev pub after_the_end : List Entry
after_the_end = record { lane = 1; deed = deed.End } ∷ direct_call_10
