use Rattle.std.proofs.Common.{rules}
use Rattle.com_text.specs.Scanning.{lines_of}
use Rattle.com_text.proofs.Cuts.{cut_of}
use Rattle.com_text.proofs.token.tokens.Goals as goal

pub returns-then-end-clause-cut : goal.returns-then-end-clause-cut
unfolding lines_of
returns-then-end-clause-cut c = cut_of c.args.text.now c.push_words.new.tokens.items (search rules)
