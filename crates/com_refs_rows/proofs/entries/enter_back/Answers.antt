use Rattle.std.proofs.Common.{ℕ, true, ap}
use Rattle.com_model.specs.Books.{back_rows}
use Rattle.com_refs_rows.specs.Calls.{number_of}
use Rattle.com_refs_rows.proofs.Rowless.{gained_nil}
use Rattle.com_refs_rows.proofs.entries.enter_back.Goals as goal

pub returns-then-number-eq0-clause-row : goal.returns-then-number-eq0-clause-row
returns-then-number-eq0-clause-row c =
    gained_nil c.args.apartment _ c.args.refs.now c.args.brought.now.items (ap (λ (k : ℕ). back_rows c.args.apartment true (number_of k)) c.if-number-eq0.true)
