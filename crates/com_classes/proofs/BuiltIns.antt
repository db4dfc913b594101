-- No built-in interface has the IID of one before it, and the table has room for each.
use Rattle.std.proofs.Common.{◌≡◌, List, [], ◌∷◌, Option, Some, None, ap, ◌∙◌, refl, is_some, length, nat_le, position, if◌then◌else◌}
use Rattle.com_base.specs.declared.guid.Guid.{Guid}
use Rattle.com_base.specs.declared.limits.TheConstants.{INTERFACE_LIMIT}
use Rattle.com_classes.specs.declared.interfaces.Interface.{Interface}
use Rattle.com_classes.specs.declared.classes.ClassError.{ClassError}
use Rattle.com_classes.specs.declared.classes.ClassError.TheVariants as error
use Rattle.com_classes.specs.BuiltIns.{iunknown, icounter, irelay, ilatch}
use Rattle.com_classes.specs.Lookups.{same_guid, interface_refusal}
use Rattle.com_classes.specs.Tables.{Tables}

-- why an interface with an IID is not taken beside those of a list
abbrev refusal_among : List Interface → Guid → Option ClassError
refusal_among is iid =
    if is_some (position (λ i. same_guid iid i.iid) is) then Some error.Repeated
    else if nat_le INTERFACE_LIMIT (length is) then Some error.Full
    else None

-- one that is not refused by what is known of the table and of it
new_among : (t : Tables) (i j : Interface) (is : List Interface) → t.interfaces ≡ is → i ≡ j → refusal_among is j.iid ≡ None →
    interface_refusal t i ≡ None
new_among t i j is those this taken =
    ap (λ (xs : List Interface). refusal_among xs i.iid) those ∙ ap (λ (x : Interface). refusal_among is x.iid) this ∙ taken

pub iunknown_is_new : (t : Tables) (i : Interface) → t.interfaces ≡ [] → i ≡ iunknown → interface_refusal t i ≡ None
iunknown_is_new t i those this = new_among t i iunknown [] those this refl

pub icounter_is_new : (t : Tables) (i : Interface) → t.interfaces ≡ iunknown ∷ [] → i ≡ icounter → interface_refusal t i ≡ None
icounter_is_new t i those this = new_among t i icounter (iunknown ∷ []) those this refl

pub irelay_is_new : (t : Tables) (i : Interface) → t.interfaces ≡ iunknown ∷ icounter ∷ [] → i ≡ irelay → interface_refusal t i ≡ None
irelay_is_new t i those this = new_among t i irelay (iunknown ∷ icounter ∷ []) those this refl

pub ilatch_is_new : (t : Tables) (i : Interface) → t.interfaces ≡ iunknown ∷ icounter ∷ irelay ∷ [] → i ≡ ilatch → interface_refusal t i ≡ None
ilatch_is_new t i those this = new_among t i ilatch (iunknown ∷ icounter ∷ irelay ∷ []) those this refl
