use Rattle.std.proofs.Common.{◌≡◌, length}
use Rattle.com_draw_words.specs.Escapes.{are_plain}
use Rattle.com_draw_words.proofs.texts.are_plain.Given as goal

abbrev pub invariant-bytes : goal.invariant-bytes
invariant-bytes l = are_plain l.rest ≡ are_plain l.text

abbrev pub decreases-bytes : goal.decreases-bytes
decreases-bytes l = length l.rest
