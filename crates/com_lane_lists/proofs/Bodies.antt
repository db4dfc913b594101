-- The bodies and the calls that are waited for, after the innermost opener is closed, and what runs by the first of them.
use Rattle.std.proofs.Common.{◌≡◌, refl, ℕ, List, [], ◌∷◌, Option, Some, None}
use Rattle.com_model.specs.Lists.{first, without_first}
use Rattle.com_model.specs.Openers.{open_calls, running_call, running_object, entered_apartment}
use Rattle.com_model.specs.declared.keeps.Opener.{Opener}
use Rattle.com_model.specs.declared.keeps.Opener.TheVariants.{Pumps, Waits, Enters}
use Rattle.com_lane_lists.specs.declared.openers.Body.{Body}
use Rattle.com_lane_lists.specs.Bodies.{bodies_of}

pub pop_pump : (os : List Opener) (n : ℕ) → first os ≡ Some (Pumps n) → (bodies_of (without_first os) ≡ bodies_of os) × (open_calls (without_first os) ≡ open_calls os)
pop_pump [] n e = absurd cc
pop_pump (Pumps m ∷ os) n e = (refl, refl)
pop_pump (Waits c ∷ os) n e = absurd cc
pop_pump (Enters c o a ∷ os) n e = absurd cc

pub pop_wait : (os : List Opener) (c : ℕ) → first os ≡ Some (Waits c) → (bodies_of (without_first os) ≡ bodies_of os) × (open_calls (without_first os) ≡ without_first (open_calls os))
pop_wait [] n e = absurd cc
pop_wait (Pumps m ∷ os) n e = absurd cc
pop_wait (Waits c ∷ os) n e = (refl, refl)
pop_wait (Enters c o a ∷ os) n e = absurd cc

pub pop_body : (os : List Opener) (c o a : ℕ) → first os ≡ Some (Enters c o a) → (bodies_of (without_first os) ≡ without_first (bodies_of os)) × (open_calls (without_first os) ≡ open_calls os)
pop_body [] c o a e = absurd cc
pop_body (Pumps m ∷ os) c o a e = absurd cc
pop_body (Waits d ∷ os) c o a e = absurd cc
pop_body (Enters d p b ∷ os) c o a e = (refl, refl)

pub pop_none : (os : List Opener) → first os ≡ None → os ≡ without_first os
pop_none [] e = refl
pop_none (o ∷ os) e = absurd cc

abbrev pub call_in : Option Body → Option ℕ
call_in None = None
call_in (Some b) = Some b.call

abbrev pub object_in : Option Body → Option ℕ
object_in None = None
object_in (Some b) = Some b.object

abbrev pub apartment_in : Option Body → Option ℕ
apartment_in None = None
apartment_in (Some b) = Some b.apartment

pub call_of_first : (os : List Opener) → running_call os ≡ call_in (first (bodies_of os))
call_of_first [] = refl
call_of_first (Pumps n ∷ os) = call_of_first os
call_of_first (Waits c ∷ os) = call_of_first os
call_of_first (Enters c o a ∷ os) = refl

pub object_of_first : (os : List Opener) → running_object os ≡ object_in (first (bodies_of os))
object_of_first [] = refl
object_of_first (Pumps n ∷ os) = object_of_first os
object_of_first (Waits c ∷ os) = object_of_first os
object_of_first (Enters c o a ∷ os) = refl

pub apartment_of_first : (os : List Opener) → entered_apartment os ≡ apartment_in (first (bodies_of os))
apartment_of_first [] = refl
apartment_of_first (Pumps n ∷ os) = apartment_of_first os
apartment_of_first (Waits c ∷ os) = apartment_of_first os
apartment_of_first (Enters c o a ∷ os) = refl
