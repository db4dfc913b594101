-- How many bodies of each object run, and what an entry changes in that.
use Rattle.std.specs.Prelude.{◌≡◌, ℕ, suc, ◌+◌, ◌-◌, ◌==◌, List, [], ◌∷◌, ◌++◌, Option, Some, None, length}
use Rattle.std.specs.Prelude.{slice_index_or, slice_set}
use Rattle.com_refs_books.specs.Counting.{count_if, sum_below}
use Rattle.com_model.specs.declared.deeds.Deed.{Deed}
use Rattle.com_model.specs.declared.deeds.Deed.TheVariants as deed
use Rattle.com_model.specs.declared.keeps.Opener.{Opener}
use Rattle.com_model.specs.declared.keeps.Opener.TheVariants.{Enters}
use Rattle.com_model.specs.declared.scenario.Scenario.{Scenario}
use Rattle.com_model.specs.Frames.{Actor, Body}
use Rattle.com_model.specs.State.{State, openers_in, objects_in}
use Rattle.com_model.specs.Tables.{lanes}

-- The open bodies of an object among the openers of a lane.
abbrev pub bodies_among : (object : ℕ) → List Opener → ℕ
bodies_among x [] = 0
bodies_among x (Enters c o a ∷ os) = count_if (o == x) + bodies_among x os
bodies_among x (_ ∷ os) = bodies_among x os

-- In all lanes.
abbrev pub bodies_over : Scenario → (openers : ℕ → List Opener) → (object : ℕ) → ℕ
bodies_over s os x = sum_below (lanes s) (λ k. bodies_among x (os (suc k)))

-- The list has a row for each object, and one for number 0, and each row is how many bodies of that object
-- are open.
pub record CountsBodies (s : Scenario) (st : State) (entered : List ℕ) : Type 0 where
  pub rows : length entered ≡ objects_in st + 1
  pub each : (x : ℕ) → slice_index_or entered x 0 ≡ bodies_over s (openers_in st) x

-- The object whose body an entry ends: that of the body that acts.
abbrev pub left_object : Deed → (acting : Actor) → Option ℕ
left_object (deed.Leave c hr v bytes) (Body k o) = Some o
left_object d a = None

-- The counts without a body that ended.
abbrev pub without_body : Option ℕ → List ℕ → List ℕ
without_body None xs = xs
without_body (Some x) xs = slice_set xs x (slice_index_or xs x 0 - 1)

-- The counts after an entry.
abbrev pub entered_after : Deed → (acting : Actor) → List ℕ → List ℕ
entered_after (deed.Made (Some o) (Some a) k i hr) b xs = xs ++ 0 ∷ []
entered_after (deed.Enter c o a k vs) b xs = slice_set xs o (slice_index_or xs o 0 + 1)
entered_after d b xs = without_body (left_object d b) xs
