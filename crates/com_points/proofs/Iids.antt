-- Whether a GUID is the IID of a source's interface.
use Rattle.std.proofs.Common.{refl, sym}
use Rattle.std.proofs.lemmas.Bool.{false_from_ne_true}
use Rattle.std.specs.Prelude.{◌≡◌, Bool, true, false, Some, IsTrue}
use Rattle.com_base.specs.declared.guid.Guid.{Guid}
use Rattle.com_classes.specs.Lookups.{same_guid}
use Rattle.com_formed.proofs.Same.{guids_same}
use Rattle.com_laws_sources.specs.Sources.{point_iid}
use Rattle.com_points.specs.Heads.{names_point}

never : false ≡ true → ⊥
never e = cc

pub iid_told : (g : Guid) (b : Bool) → (IsTrue b → g ≡ point_iid) × (g ≡ point_iid → IsTrue b) → b ≡ names_point (Some g)
iid_told g true f = sym ((guids_same g point_iid).1 (f.0 refl))
iid_told g false f =
    sym (false_from_ne_true (same_guid g point_iid) (λ same. never (f.1 ((guids_same g point_iid).0 same))))
