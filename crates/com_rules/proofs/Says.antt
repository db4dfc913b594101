-- What is said of the object of a reference.
use Rattle.std.proofs.Common.{◌≡◌, Bool, false, Option, Some, None, refl, ap, sym, ◌∙◌}
use Rattle.com_base.specs.declared.value.RefValue.{RefValue}
use Rattle.com_refs_books.specs.Changes.{Books, no_books}
use Rattle.com_view.specs.Connected.{Says}

pub says_all : (b : Books) (held : Option RefValue) (x : Bool) → Says b held x → (r : RefValue) → held ≡ Some r → b.live r.object ≡ x
says_all b None x h r e = cc
says_all b (Some s) x h r e = let q : s ≡ r = cc in ap (λ (y : RefValue). b.live y.object) (sym q) ∙ h

pub says_not : (held : Option RefValue) → Says no_books held false
says_not None = tt
says_not (Some r) = refl
