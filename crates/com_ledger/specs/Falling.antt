-- The objects that begin to die by an entry.
use Rattle.std.specs.Prelude.{◌≡◌, ℕ, ◌≤◌, Bool, true, not, ◌==◌, ◌&&◌, nat_lt, if◌then◌else◌, List, [], ◌∷◌}
use Rattle.std.specs.Prelude.{Option, Some, None, is_some, length, slice_index_or}
use Rattle.com_model.specs.declared.deeds.Deed.{Deed}
use Rattle.com_model.specs.declared.scenario.Scenario.{Scenario}
use Rattle.com_model.specs.Dying.{is_dying_by}
use Rattle.com_model.specs.Frames.{Actor}
use Rattle.com_model.specs.Lists.{is_member, or_else}
use Rattle.com_model.specs.Objects.{makes}
use Rattle.com_model.specs.State.{State, objects_in, after}
use Rattle.com_objects.specs.Settled.{Rise}
use Rattle.com_state.specs.Parts.{ObjectTables}
use Rattle.com_laws_dying.specs.Falling.{LosesLast, holders_of}
use Rattle.com_ledger.specs.Bodies.{left_object}

-- Whether an object is dying, by the objects, by how many holders each has, and by how many bodies of each
-- run.
abbrev pub dies_by : ObjectTables → (holders : ℕ → ℕ) → (entered : List ℕ) → ℕ → Bool
dies_by o holders entered x =
    is_dying_by (length o.makings) (λ y. is_member y o.finaled) holders
    (λ y. not (slice_index_or entered y 0 == 0)) x

-- And was not dying before.
abbrev pub begins_by : ObjectTables → (holders : ℕ → ℕ) → (entered fallen : List ℕ) → ℕ → Bool
begins_by o holders entered fallen x = dies_by o holders entered x && not (is_member x fallen)

-- A number put in its place in a list by number, where it does not stand there.
abbrev pub placed : ℕ → List ℕ → List ℕ
placed x [] = x ∷ []
placed x (y ∷ ys) = if nat_lt x y then x ∷ y ∷ ys else if x == y then y ∷ ys else y ∷ placed x ys

-- A number put in its place in such a list, where one is given.
abbrev pub placed_in : Option ℕ → List ℕ → List ℕ
placed_in None xs = xs
placed_in (Some x) xs = placed x xs

-- The object that an entry makes: the last one, where there are so many after it.
abbrev pub made_object : (objects : ℕ) → Deed → Option ℕ
made_object n d = if is_some (makes d) then Some n else None

-- The object that may be without holder and body though it lost no holder: one that is made, or whose body
-- ends.
abbrev pub other_object : (objects : ℕ) → Deed → (acting : Actor) → Option ℕ
other_object n d b = or_else (made_object n d) (left_object d b)

-- The objects that lost their last holder by an entry are among these, which stand by number.
pub record Touches (s : Scenario) (st : State) (lane : ℕ) (d : Deed) (touched : List ℕ) : Type 0 where
  pub rise : Rise 0 touched (objects_in (after s st lane d))
  pub all : (o : ℕ) → 1 ≤ o → LosesLast s st (after s st lane d) o → is_member o touched ≡ true

-- So many holders has each object in a state.
abbrev pub CountsHolders : Scenario → State → (holders : ℕ → ℕ) → Type 0
CountsHolders s st holders = (o : ℕ) → 1 ≤ o → holders o ≡ holders_of s st o
