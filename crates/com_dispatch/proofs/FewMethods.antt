-- Interfaces with few methods.
use Rattle.std.proofs.Common.{◌≡◌, ℕ, zero, suc, ◌+◌, ◌≤◌, List, [], ◌∷◌, length, All, sym, subst, arith}
use Rattle.std.specs.Prelude.{slice_get}
use Rattle.std.proofs.lemmas.List.Elements.{All-cons, All-head, All-nil, All-tail}
use Rattle.com_base.specs.declared.limits.TheConstants.{METHOD_LIMIT}
use Rattle.com_classes.specs.declared.interfaces.Interface.{Interface}
use Rattle.com_classes.specs.declared.interfaces.Method.{Method}
use Rattle.com_model.specs.Formed.{EachFrom, FormedInterfaces, IsInterface}
use Rattle.com_dispatch.specs.Binding.{HasFewMethods, methods_of}

few_at : (tables : List Interface) (k : ℕ) → All HasFewMethods tables → length (methods_of (slice_get tables k)) ≤ METHOD_LIMIT
few_at [] k h = omega arith
few_at (i ∷ is) zero h = All-head HasFewMethods i is h
few_at (i ∷ is) (suc k) h = few_at is k (All-tail HasFewMethods i is h)

-- The methods of one of several interfaces that have few are few.
pub few_of : (tables : List Interface) (k : ℕ) (methods : List Method) → methods ≡ methods_of (slice_get tables k) → All HasFewMethods tables → length methods ≤ METHOD_LIMIT
few_of tables k methods e h = subst (λ (ms : List Method). length ms ≤ METHOD_LIMIT) (sym e) (few_at tables k h)

each_few : (n : ℕ) (is : List Interface) → EachFrom IsInterface n is → All HasFewMethods is
each_few n [] h = All-nil HasFewMethods
each_few n (i ∷ is) h = All-cons HasFewMethods i is h.0.2 (each_few (n + 1) is h.1)

-- Interfaces that keep the forms and the limits of the language have few.
pub formed_few : (is : List Interface) → FormedInterfaces is → All HasFewMethods is
formed_few is h = each_few 0 is h.each
