use Rattle.std.proofs.Common.{append_assoc}
use Rattle.com_draw_labels.proofs.reference_labels.push_object_and_packet.Goals as goal

pub returns : goal.returns
returns c =
    simp append_assoc (simp append_assoc at (rw c.in_ok-push_words_named.ensures at c.push_words_named-2.ensures))
