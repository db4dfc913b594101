-- Dying objects, and the order in which their Finals are due.
use Rattle.std.specs.Prelude.{ℕ, Bool, not, ◌==◌, ◌&&◌, nat_le, List, [], ◌∷◌, ◌++◌, filter}
use Rattle.com_model.specs.declared.deeds.Entry.{Entry}
use Rattle.com_model.specs.declared.scenario.Scenario.{Scenario}
use Rattle.com_model.specs.Lists.{one_to, is_member, any_of}
use Rattle.com_model.specs.Tables.{lanes}
use Rattle.com_model.specs.Openers.{Opener, openers, runs}
use Rattle.com_model.specs.Apartments.{serves}
use Rattle.com_model.specs.Objects.{objects, named, finaled}
use Rattle.com_model.specs.Books.{holders}

-- Whether an Enter of the object is open in some lane.
abbrev pub is_entered : Scenario → (ℕ → List Opener) → ℕ → Bool
is_entered s os o = any_of (λ l. runs o (os l)) (one_to (lanes s))

-- An object is dying where it was made, has no Final, has no holder, and no Enter of it is open. Source:
-- Essential COM, the release of an object when its last reference goes.
abbrev pub is_dying_by : (objects : ℕ) → (finaled : ℕ → Bool) → (holders : ℕ → ℕ) → (entered : ℕ → Bool) → ℕ
    → Bool
is_dying_by n finaled holders entered o =
    (nat_le 1 o && nat_le o n) && (not (finaled o) && (holders o == 0 && not (entered o)))

-- Whether an object is dying after a history: its Final is due.
abbrev pub is_dying : Scenario → List Entry → ℕ → Bool
is_dying s h o = is_dying_by (objects h) (finaled h) (holders s h) (is_entered s (openers h)) o

-- The dying objects in the order of the entries after which each was dying, and by number where one entry
-- made several so.
abbrev pub fallen_more : (ℕ → Bool) → ℕ → List ℕ → List ℕ
fallen_more dying n before =
    filter dying before ++ filter (λ o. dying o && not (is_member o before)) (one_to n)

-- The objects that are dying after a history, in the order in which they began to be so.
abbrev pub fallen : Scenario → List Entry → List ℕ
fallen s [] = []
fallen s (e ∷ h) = fallen_more (is_dying s (e ∷ h)) (objects (e ∷ h)) (fallen s h)

-- The dying objects that a lane serves: those of the apartments that it serves, by the apartment that their
-- making names.
abbrev pub dying : Scenario → List Entry → ℕ → List ℕ
dying s h l = filter (λ o. is_dying s h o && serves s h l (named h o)) (fallen s h)
