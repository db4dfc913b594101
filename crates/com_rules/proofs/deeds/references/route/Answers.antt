use Rattle.std.proofs.Common.{sym}
use Rattle.com_refs_books.specs.Changes.{no_books}
use Rattle.com_view.specs.Seen.{bare}
use Rattle.com_rules.proofs.Says.{says_not}
use Rattle.com_rules.proofs.deeds.references.route.Goals as goal

pub returns : goal.returns
returns c = λ b. c.route_to.ensures (bare c.args.view.now) c.args.lane (sym c.home-home.ensures) (c.target_of-target.ensures no_books (says_not c.args.held))
