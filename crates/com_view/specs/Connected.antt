-- What the holders of references say of one object.
use Rattle.std.specs.Prelude.{◌≡◌, Bool, Option, Some, None}
use Rattle.com_base.specs.declared.value.RefValue.{RefValue}
use Rattle.com_refs_books.specs.Changes.{Books}

-- The object of a reference is connected, or is not. Of null nothing is said.
abbrev pub Says : Books → Option RefValue → (connected : Bool) → Type 0
Says b None x = Unit {0}
Says b (Some r) x = b.live r.object ≡ x
