-- What a lane finds of the object of a reference that it acts on, in plain values.
use Rattle.std.specs.Prelude.{◌≡◌, ℕ, ◌^◌, ◌<◌, Option, Some, None}
use Rattle.com_base.specs.declared.value.RefValue.{RefValue}
use Rattle.com_body.specs.declared.operands.Asked.{Asked}
use Rattle.com_body.specs.declared.operands.Asked.TheVariants as asked
use Rattle.com_deeds.specs.declared.target.Target.{Target}
use Rattle.com_model.specs.Deeds.{owned_by}
use Rattle.com_model.specs.Sight.{Sight}

-- What a lane finds of an object: whether its running apartment owns it, whether it is connected, the apartment that
-- its making names, and its class.
pub record SeesObject (v : Sight) (l o : ℕ) (t : Target) : Type 0 where
  pub owned : owned_by v l o ≡ t.is_owned
  pub connected : v.books.live o ≡ t.is_connected
  pub owner : v.named o ≡ t.owner
  pub class : v.class o ≡ t.class

-- Of null there is nothing to find.
abbrev pub Sees : Sight → ℕ → Option RefValue → Target → Type 0
Sees v l None t = Unit {0}
Sees v l (Some r) t = SeesObject v l r.object t

-- An interface that is asked for by number has one that fits 16 bits, as each number of a formed scenario
-- does.
abbrev pub FitsNumber : Asked → Type 0
FitsNumber (asked.Number i) = i < 2 ^ 16
FitsNumber (asked.Guid g) = Unit {0}
