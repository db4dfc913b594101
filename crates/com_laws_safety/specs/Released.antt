-- What is known where an object is released.
use Rattle.std.specs.Prelude.{◌≡◌, ℕ, true, false, List}
use Rattle.com_model.specs.declared.deeds.Deed.{Deed}
use Rattle.com_model.specs.declared.deeds.Deed.TheVariants as deed
use Rattle.com_model.specs.declared.deeds.Entry.{Entry}
use Rattle.com_model.specs.declared.scenario.Scenario.{Scenario}
use Rattle.com_model.specs.Openers.{openers}
use Rattle.com_model.specs.Apartments.{serves}
use Rattle.com_model.specs.Objects.{named, finaled}
use Rattle.com_model.specs.Frames.{scene}
use Rattle.com_model.specs.Places.{ground, direct_places}
use Rattle.com_refs_books.specs.Changes.{Books}
use Rattle.com_model.specs.Books.{books}
use Rattle.com_model.specs.Dying.{is_entered, is_dying}

-- A Final is the first of its object, made in a lane that serves its owner while it is dying and not
-- connected.
abbrev pub ReleasesOnce : Scenario → List Entry → ℕ → Deed → Type 0
ReleasesOnce s h l (deed.Final o) =
    (finaled h o ≡ false) × (serves s h l (named h o) ≡ true) × (is_dying s h o ≡ true)
    × ((books s h).live o ≡ false)
ReleasesOnce s h l _ = Unit {0}

-- At its Final no apartment that owns the object has a place of it, and no Enter of it is open.
abbrev pub ReleasesBare : Scenario → List Entry → ℕ → Deed → Type 0
ReleasesBare s h l (deed.Final o) =
    (direct_places s (ground s h) (scene s h) o ≡ 0) × (is_entered s (openers h) o ≡ false)
ReleasesBare s h l _ = Unit {0}

-- What is not connected, and of which no stub counts and no proxy holds a public reference.
pub record Severed (b : Books) (o : ℕ) : Type 0 where
  pub not_live : b.live o ≡ false
  pub no_stub : (i : ℕ) → b.stub o i ≡ 0
  pub no_proxy : (a i : ℕ) → b.proxy a o i ≡ 0

-- Every object that had its Final is severed.
abbrev pub StaySevered : Scenario → List Entry → Type 0
StaySevered s h = (o : ℕ) → finaled h o ≡ true → Severed (books s h) o
