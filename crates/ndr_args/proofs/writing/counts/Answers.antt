use Rattle.std.proofs.Common.{◌∙◌, append_assoc, refl}
use Rattle.std.specs.Int.{w32}
use Rattle.std.proofs.lemmas.List.{append-nil}
use Rattle.com_wire.proofs.Filling.{nothing_filled, put_next, number_is}
use Rattle.ndr_args.proofs.writing.counts.Goals as goal

pub returns : goal.returns
returns c =
    let a = put_next _ _ _ _ _ 0 4 8 (nothing_filled 12) c.put.ensures (c.to_le_bytes.ensures ∙ number_is w32 c.args.referent) (rw c.to_le_bytes.ensures refl) in
    let b = put_next _ _ _ _ _ 4 4 4 a c.put-2.ensures (c.to_le_bytes-2.ensures ∙ number_is w32 72) (rw c.to_le_bytes-2.ensures refl) in
    let d = put_next _ _ _ _ _ 8 4 0 b c.put-3.ensures (c.to_le_bytes-3.ensures ∙ number_is w32 72) (rw c.to_le_bytes-3.ensures refl) in
    d.parts ∙ simp (append_assoc, append-nil)
