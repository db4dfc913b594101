-- Facts of the deed that a rule gives, where it gives one.
use Rattle.std.specs.Prelude.{ℕ, Bool, true, false, cond, List, [], ◌∷◌, Option, Some, None, option_map, option_and_then}
use Rattle.com_model.specs.declared.deeds.Deed.{Deed}
use Rattle.com_model.specs.Lists.{or_else, where_true, first}
use Rattle.com_model.specs.Openers.{Opener, Pumps, Waits, Enters}
use Rattle.com_model.specs.Rules.{waiting_call}

abbrev pub Given : (Deed → Type 0) → Option Deed → Type 0
Given P None = Unit {0}
Given P (Some d) = P d

pub given-or : (P : Deed → Type 0) (a b : Option Deed) → Given P a → Given P b → Given P (or_else a b)
given-or P None b p q = q
given-or P (Some d) b p q = p

pub given-where : (P : Deed → Type 0) (b : Bool) (d : Deed) → P d → Given P (where_true b d)
given-where P true d p = p
given-where P false d p = tt

pub given-map : {X : Type 0} (P : Deed → Type 0) (f : X → Deed) (o : Option X) → ((x : X) → P (f x)) → Given P (option_map f o)
given-map P f None p = tt
given-map P f (Some x) p = p x

pub given-then : {X : Type 0} (P : Deed → Type 0) (f : X → Option Deed) (o : Option X) → ((x : X) → Given P (f x)) → Given P (option_and_then f o)
given-then P f None p = tt
given-then P f (Some x) p = p x

pub cond-of : (P : Deed → Type 0) (b : Bool) (x y : Deed) → P x → P y → P (cond b x y)
cond-of P true x y p q = p
cond-of P false x y p q = q

-- A rule for the lane whose top is an Out.
pub own-given : (P : List Opener → Deed → Type 0) (f : ℕ → Option Deed) → ((c : ℕ) (os : List Opener) → Given (P (Waits c ∷ os)) (f c)) → (os : List Opener) → Given (P os) (option_and_then f (waiting_call (first os)))
own-given P f p [] = tt
own-given P f p (Waits c ∷ os) = p c os
own-given P f p (Pumps n ∷ os) = tt
own-given P f p (Enters c o a ∷ os) = tt
