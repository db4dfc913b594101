use Rattle.std.proofs.Common.{◌≡◌, ◌++◌, drop}
use Rattle.com_points.specs.Writing.{words_text}
use Rattle.com_points.proofs.source_text.writing.words_text.Given as goal

abbrev pub invariant-loop-word : goal.invariant-loop-word
invariant-loop-word l = l.text ++ words_text (drop l.word-index l.words) ≡ words_text l.words
