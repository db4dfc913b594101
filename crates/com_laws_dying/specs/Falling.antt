-- Which objects can fall by an entry, and what a list of those has.
use Rattle.std.specs.Prelude.{◌≡◌, ℕ, ◌<◌, ◌≤◌, true, false, ◌==◌, List, ◌++◌, ◌⊎◌, Some, filter}
use Rattle.com_model.specs.declared.deeds.Deed.{Deed}
use Rattle.com_model.specs.declared.keeps.Opener.TheVariants.{Enters}
use Rattle.com_model.specs.declared.scenario.Scenario.{Scenario}
use Rattle.com_model.specs.Lists.{first, is_member}
use Rattle.com_model.specs.Openers.{Closes, Leaves, effect}
use Rattle.com_model.specs.Objects.{finals}
use Rattle.com_model.specs.Books.{holders_in}
use Rattle.com_model.specs.State.{State, openers_in, objects_in, ground_in, scene_in, books_in, dies_in}
use Rattle.com_model.specs.State.{after}
use Rattle.com_objects.specs.Settled.{DieBut, Rise, Falls, without}

-- How many places, packets and cookies hold an object; of one that is not connected, its direct places alone.
abbrev pub holders_of : Scenario → State → ℕ → ℕ
holders_of s st o = holders_in s (ground_in s st) (scene_in st) (books_in st) o

-- The object had a holder, and has none any more.
pub record LosesLast (s : Scenario) (st su : State) (o : ℕ) : Type 0 where
  pub held : (holders_of s st o == 0) ≡ false
  pub none : (holders_of s su o == 0) ≡ true

-- The deed is the Leave of the body on top of the lane, which is one of the object.
pub record LeavesBody (st : State) (l : ℕ) (d : Deed) (o : ℕ) : Type 0 where
  pub call : ℕ
  pub apartment : ℕ
  pub leaves : effect d ≡ Closes (Leaves call)
  pub top : first (openers_in st l) ≡ Some (Enters call o apartment)

-- What an entry may let fall: an object whose last holder goes, one whose body leaves, and one that it makes.
abbrev pub MayFall : Scenario → State → (lane : ℕ) → Deed → ℕ → Type 0
MayFall s st l d o = LosesLast s st (after s st l d) o ⊎ (LeavesBody st l d o ⊎ (objects_in st < o))

-- A list of candidates by number: all objects that may fall, and none that was dying before.
pub record Candidates (s : Scenario) (st : State) (l : ℕ) (d : Deed) (cs : List ℕ) : Type 0 where
  pub rise : Rise 0 cs (objects_in (after s st l d))
  pub all : (o : ℕ) → o ≤ objects_in (after s st l d) → MayFall s st l d o → is_member o cs ≡ true
  pub alive : (o : ℕ) → is_member o cs ≡ true → dies_in s st o ≡ false

-- Those of the candidates that are dying after the entry.
abbrev pub falling : Scenario → State → (lane : ℕ) → Deed → (candidates : List ℕ) → List ℕ
falling s st l d cs = filter (dies_in s (after s st l d)) cs

-- What each object in the list of the dying does by an entry.
abbrev pub StayBut : Scenario → State → (lane : ℕ) → Deed → Type 0
StayBut s st l d = DieBut (dies_in s (after s st l d)) (finals d) st.fallen

abbrev pub Picked : Scenario → State → (lane : ℕ) → Deed → List ℕ → Type 0
Picked s st l d cs =
    Falls (dies_in s (after s st l d)) (objects_in (after s st l d)) st.fallen (falling s st l d cs)

-- The list of the dying after an entry.
abbrev pub fallen_by : Scenario → State → (lane : ℕ) → Deed → (candidates : List ℕ) → List ℕ
fallen_by s st l d cs = without (finals d) st.fallen ++ falling s st l d cs
