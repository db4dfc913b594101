use Rattle.std.proofs.Common.{sym}
use Rattle.uuid.specs.Text.{upper}
use Rattle.com_base.proofs.guid.Guid.text.Goals as goal
use Rattle.com_base.proofs.Texts.{braced_length}

pub copy_from_slice-requires : goal.copy_from_slice-requires
copy_from_slice-requires c = rw (c.as_bytes-written.ensures.value, c.encode_upper.ensures.text) (sym (braced_length upper _))
