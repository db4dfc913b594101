use Rattle.std.proofs.Common.{ℤ, rules, subst}
use Rattle.std.proofs.lemmas.Int.{to_z-of_z}
use Rattle.com_refs_books.specs.Changes.{Revokes}
use Rattle.com_model.specs.Deeds.{cookie_number}
use Rattle.com_refs_rows.specs.Books.{Taken}
use Rattle.com_ledger.proofs.Closing.{closed_revoke}
use mir.Syntax.{w64}
use mir.Val.{SFits}
use Rattle.com_ledger.proofs.ends.end_cookie.Goals as goal

pub returns-clause-row : goal.returns-clause-row
returns-clause-row c = λ objects s x g owned calls same.
    let t = c.args.refs.now in
    let u = c.revoke.new.refs in
    let fits : SFits w64 c.args.cookie.now = search rules in
    closed_revoke s x g owned calls t u c.tells.ensures.tells c.tells.ensures.totals c.args.cookie.now c.args.hr c.if-hr-ne0.false
    (subst (λ (z : ℤ). Taken (Revokes (cookie_number z)) t u) (to_z-of_z w64 c.args.cookie.now fits) c.revoke.ensures.row)
