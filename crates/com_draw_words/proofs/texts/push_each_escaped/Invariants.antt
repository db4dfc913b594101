use Rattle.std.proofs.Common.{◌≡◌, ◌++◌, length}
use Rattle.com_draw_words.specs.Escapes.{escaped}
use Rattle.com_draw_words.proofs.texts.push_each_escaped.Given as goal

abbrev pub invariant-bytes : goal.invariant-bytes
invariant-bytes l = l.out ++ escaped l.rest ≡ l.initial.out ++ escaped l.text

abbrev pub decreases-bytes : goal.decreases-bytes
decreases-bytes l = length l.rest
