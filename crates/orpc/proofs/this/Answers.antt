use Rattle.std.proofs.Common.{◌∙◌, append_assoc, refl}
use Rattle.std.specs.Int.{w16, w32}
use Rattle.std.proofs.lemmas.List.{append-nil}
use Rattle.com_wire.specs.Fields.{number}
use Rattle.com_wire.proofs.Filling.{nothing_filled, put_next, skip_next, number_is, guid_is, zeros_4}
use Rattle.orpc.specs.Headers.{this_text}
use Rattle.orpc.proofs.this.Goals as goal

pub returns : goal.returns
unfolding this_text
returns c =
    let cause = c.args.cause.now in
    let a = put_next _ _ _ _ _ 0 2 30 (nothing_filled 32) c.put.ensures (c.to_le_bytes.ensures ∙ number_is w16 5) (rw c.to_le_bytes.ensures refl) in
    let b = put_next _ _ _ _ _ 2 2 28 a c.put-2.ensures (c.to_le_bytes-2.ensures ∙ number_is w16 7) (rw c.to_le_bytes-2.ensures refl) in
    let d = skip_next _ _ (number w32 0) 4 4 24 b zeros_4 in
    let e = skip_next _ _ (number w32 0) 8 4 20 d zeros_4 in
    let f = put_next _ _ _ _ _ 12 16 4 e c.put-3.ensures (c.to_wire.ensures ∙ guid_is cause) (search c.to_wire.type_inv) in
    let g = skip_next _ _ (number w32 0) 28 4 0 f zeros_4 in
    g.parts ∙ simp (append_assoc, append-nil)
