-- The law of activation fails of an entry that makes an object in another apartment.
use Rattle.std.proofs.Common.{ap, sym, ◌∙◌, arith}
use Rattle.std.specs.Prelude.{◌≡◌, refl, ℕ, [], ◌∷◌, Option, Some}
use Rattle.com_base.specs.declared.guid.Guid.{Guid}
use Rattle.com_body.specs.declared.operands.Asked.{Asked}
use Rattle.com_body.specs.declared.operands.Asked.TheVariants as asked
use Rattle.com_body.specs.declared.actions.Action.TheVariants as action
use Rattle.com_model.specs.Frames.{act}
use Rattle.com_model.specs.Lists.{number_or_zero}
use Rattle.com_model.specs.Tables.{class_number, interface_number}
use Rattle.com_model.specs.Cases.{direct_call, direct_call_1}
use Rattle.com_model.specs.Rules.{legal}
use Rattle.com_model.specs.Safe.{EachEntry}
use Rattle.com_model.proofs.Cases.{whole-direct_call}
use Rattle.com_laws_activation.specs.Activations.{Activates, in_the_host}

pub legal-one : legal direct_call direct_call_1
legal-one = whole-direct_call.0.0.0.0.0.0.0.0.0.0

two-not-three : ◌≡◌ {A = Option ℕ} (Some 2) (Some 3) → ⊥
two-not-three e = let z : 2 ≡ 3 = ap number_or_zero e in absurd (omega (arith, z))

-- The GUIDs of the counter's class and interface.
counter_clsid : Guid
counter_clsid = record { data1 = 1544224961; data2 = 0; data3 = 16384; data4 = 128 ∷ 0 ∷ 0 ∷ 0 ∷ 0 ∷ 0 ∷ 0 ∷ 1 ∷ [] }

counter_iid : Guid
counter_iid = record { data1 = 0x5C0B0001; data2 = 0; data3 = 0x4000; data4 = 0x80 ∷ 0 ∷ 0 ∷ 0 ∷ 0 ∷ 0 ∷ 0 ∷ 1 ∷ [] }

same-class : (slot too : ℕ) (k i c j : Asked) → Some (action.Create slot k i) ≡ Some (action.Create too c j) → k ≡ c
same-class slot too k i c j e = cc

same-iface : (slot too : ℕ) (k i c j : Asked) → Some (action.Create slot k i) ≡ Some (action.Create too c j) → i ≡ j
same-iface slot too k i c j e = cc

pub owner-bites : EachEntry (Activates direct_call) in_the_host → ⊥
unfolding counter_clsid counter_iid
owner-bites p =
    let e : Some (action.Create 0 (asked.Number 1) (asked.Number 1)) ≡ Some (action.Create p.1.slot p.1.class p.1.iface) = p.1.acts in
    two-not-three (p.1.answers 3 counter_clsid counter_iid refl
    (ap (class_number direct_call) (sym (same-class 0 p.1.slot (asked.Number 1) (asked.Number 1) p.1.class p.1.iface e)))
    (ap (interface_number direct_call) (sym (same-iface 0 p.1.slot (asked.Number 1) (asked.Number 1) p.1.class p.1.iface e)))).1
