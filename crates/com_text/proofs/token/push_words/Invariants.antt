use Rattle.std.proofs.Common.{◌≡◌, ◌++◌, map, drop}
use Rattle.com_text.specs.Tokens.{token_of}
use Rattle.com_text.proofs.token.push_words.Given as goal

abbrev pub invariant-loop-word : goal.invariant-loop-word
invariant-loop-word l = l.tokens.items ++ map token_of (drop l.word-index l.words) ≡ l.fn.tokens.items ++ map token_of l.words
