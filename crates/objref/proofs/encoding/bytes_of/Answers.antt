use Rattle.std.proofs.Common.{◌∙◌, append_assoc, refl}
use Rattle.std.specs.Int.{w16, w32, w64}
use Rattle.com_wire.proofs.Filling.{nothing_filled, put_next, number_is, guid_is}
use Rattle.objref.specs.Grammar.{header, standard_body, strings}
use Rattle.objref.proofs.encoding.bytes_of.Goals as goal

pub returns : goal.returns
unfolding header standard_body strings
returns c =
    let fields = c.args.fields.now in
    let a = put_next _ _ _ _ _ 0 4 68 (nothing_filled 72) c.put.ensures (c.to_le_bytes.ensures ∙ number_is w32 0x574f454d) (rw c.to_le_bytes.ensures refl) in
    let b = put_next _ _ _ _ _ 4 4 64 a c.put-2.ensures (c.to_le_bytes-2.ensures ∙ number_is w32 1) (rw c.to_le_bytes-2.ensures refl) in
    let d = put_next _ _ _ _ _ 8 16 48 b c.put-3.ensures (c.to_wire.ensures ∙ guid_is fields.iid) (search c.to_wire.type_inv) in
    let e = put_next _ _ _ _ _ 24 4 44 d c.put-4.ensures (c.to_le_bytes-3.ensures ∙ number_is w32 0) (rw c.to_le_bytes-3.ensures refl) in
    let f = put_next _ _ _ _ _ 28 4 40 e c.put-5.ensures (c.to_le_bytes-4.ensures ∙ number_is w32 fields.refs) (rw c.to_le_bytes-4.ensures refl) in
    let g = put_next _ _ _ _ _ 32 8 32 f c.put-6.ensures (c.to_le_bytes-5.ensures ∙ number_is w64 fields.oxid) (rw c.to_le_bytes-5.ensures refl) in
    let h = put_next _ _ _ _ _ 40 8 24 g c.put-7.ensures (c.to_le_bytes-6.ensures ∙ number_is w64 fields.oid) (rw c.to_le_bytes-6.ensures refl) in
    let i = put_next _ _ _ _ _ 48 16 8 h c.put-8.ensures (c.to_wire-2.ensures ∙ guid_is fields.ipid) (search c.to_wire-2.type_inv) in
    let j = put_next _ _ _ _ _ 64 2 6 i c.put-9.ensures (c.to_le_bytes-7.ensures ∙ number_is w16 2) (rw c.to_le_bytes-7.ensures refl) in
    let k = put_next _ _ _ _ _ 66 2 4 j c.put-10.ensures (c.to_le_bytes-8.ensures ∙ number_is w16 1) (rw c.to_le_bytes-8.ensures refl) in
    k.parts ∙ simp append_assoc
