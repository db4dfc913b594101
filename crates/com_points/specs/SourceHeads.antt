-- The first statements of a source's bodies.
use Rattle.std.specs.Prelude.{◌≡◌, Some, ℕ, Bool, true, false, not, ◌||◌, ◌==◌, nat_lt, if◌then◌else◌}
use Rattle.std.specs.Prelude.{List, [], ◌∷◌}
use Rattle.com_classes.specs.declared.classes.MethodBody.{MethodBody}
use Rattle.com_body.specs.declared.statements.Stmt.{Stmt}
use Rattle.com_body.specs.declared.statements.Stmt.TheVariants as stmt
use Rattle.com_body.specs.declared.operands.Given.TheVariants as given
use Rattle.com_body.specs.declared.frame.Native.TheVariants as native
use Rattle.com_classes.specs.declared.classes.Class.{Class}
use Rattle.com_classes.specs.Tables.{Tables}
use Rattle.com_classes.specs.declared.interfaces.Interface.{Interface}
use Rattle.com_classes.specs.Lookups.{body_at}
use Rattle.com_laws_sources.specs.Bodies.{e_pointer, no_connection, int, register, leave_with}
use Rattle.com_laws_sources.specs.Bodies.{advise_body, unadvise_body, fire_body}
use Rattle.com_laws_sources.specs.Sources.{IsPoint, IsStaModel, advise, fire, unadvise}

-- Null is refused, and the new cookie is one more than the last one.
abbrev pub advise_head : List Stmt
advise_head =
    stmt.Same 1 0 7 ∷ stmt.SkipZero 1 1 ∷ leave_with e_pointer given.Nothing ∷ stmt.Load 2 4
    ∷ stmt.Add 2 (int 1) ∷ []

-- A cookie is above 0.
abbrev pub unadvise_head : List Stmt
unadvise_head =
    stmt.Less 1 (int 0) (register 0) ∷ stmt.SkipZero 1 1 ∷ stmt.Skip 1
    ∷ leave_with no_connection given.Nothing ∷ []

abbrev pub fire_head : List Stmt
fire_head = stmt.Load 4 4 ∷ stmt.Set 5 (int 0) ∷ stmt.Set 6 (int 0) ∷ []

-- ---- a class

-- All bodies are those of the interface's first three methods.
abbrev pub are_own_bodies : ℕ → List MethodBody → Bool
are_own_bodies iface [] = true
are_own_bodies iface (b ∷ bs) =
    if not (b.iface == iface) || nat_lt fire b.method then false else are_own_bodies iface bs

-- What is looked at in a class whose one interface is this one.
abbrev pub Looks : Tables → (class : ℕ) → Class → (iface : ℕ) → Interface → Type 0
Looks t class k i p =
    IsStaModel k.model × (k.native ≡ native.Bodies) × IsPoint p × (are_own_bodies i k.bodies ≡ true)
    × (body_at t class i advise ≡ Some advise_body) × (body_at t class i unadvise ≡ Some unadvise_body)
    × (body_at t class i fire ≡ Some fire_body)
