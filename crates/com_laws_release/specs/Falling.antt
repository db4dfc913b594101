-- What is dying stays so until its Final, and the order in which objects fell.
use Rattle.std.specs.Prelude.{◌≡◌, ℕ, true, not, ◌&&◌, List, [], ◌∷◌, ◌++◌, filter, ◌⊎◌}
use Rattle.com_model.specs.declared.deeds.Deed.{Deed}
use Rattle.com_model.specs.declared.deeds.Deed.TheVariants as deed
use Rattle.com_model.specs.declared.deeds.Entry.{Entry}
use Rattle.com_model.specs.declared.scenario.Scenario.{Scenario}
use Rattle.com_model.specs.Lists.{one_to, is_member}
use Rattle.com_model.specs.Objects.{objects}
use Rattle.com_model.specs.Dying.{is_dying}

-- An object that is dying before an entry is dying after it, or the entry is its Final.
abbrev pub StaysDying : Scenario → List Entry → ℕ → Deed → Type 0
StaysDying s h l d =
    (o : ℕ) → is_dying s h o ≡ true → (is_dying s (record { lane = l; deed = d } ∷ h) o ≡ true)
    ⊎ (d ≡ deed.Final o)

-- All objects that were dying after some entry, in the order of the entries after which each first was, and
-- by number where one entry made several so.
abbrev pub first_fallen : Scenario → List Entry → List ℕ
first_fallen s [] = []
first_fallen s (e ∷ h) =
    first_fallen s h ++ filter (λ o. is_dying s (e ∷ h) o && not (is_member o (first_fallen s h)))
    (one_to (objects (e ∷ h)))
