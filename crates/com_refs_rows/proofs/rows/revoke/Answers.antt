use Rattle.std.proofs.Common.{◌≡◌, ◌<◌, ℕ, ℤ, w64, sym, ap, subst, ◌∙◌}
use Rattle.std.proofs.lemmas.Int.{to_z-of_z}
use Rattle.com_refs_books.specs.Changes.{Books, changed, Revokes, Withdraw}
use Rattle.com_refs_books.specs.Ends.{ends}
use Rattle.com_refs_holders.specs.Tables.{books_of}
use Rattle.com_refs_holders.proofs.Cookies.{cookie_hidden}
use Rattle.com_model.specs.Deeds.{cookie_number}
use Rattle.com_refs_rows.proofs.Losing.{taken_nothing, withdraw_found, withdraw_none}
use Rattle.com_refs_rows.proofs.Unholding.{revoke-touched, touches-same}
use Rattle.com_refs_rows.proofs.rows.revoke.Goals as goal

pub returns-in-Ok-clause-row : goal.returns-in-Ok-clause-row
returns-in-Ok-clause-row c =
    let b = books_of c.args.refs.now in
    let few = subst (λ (n : ℕ). n < 4294967296) c.cookies-count.ensures.books c.cookies-count.type_inv in
    let same = to_z-of_z w64 c.args.cookie c.ranges.cookie in
    let found : changed b (Withdraw c.cookie_number-number.result) ≡ changed b (Withdraw (cookie_number c.args.cookie)) =
    withdraw_found b 4294967296 _ c.cookie_number-number.result few c.cookie_number-number.ensures.within c.cookie_number-number.ensures.past ∙ ap (λ (z : ℤ). changed b (Withdraw (cookie_number z))) same in
    record {
      books = λ n places tells totals. c.in-Ok.ensures.books n places tells totals ∙ ap (λ (x : Books). ends n places x) found;
      places = c.in-Ok.ensures.places;
    }

pub returns-in-Err-clause-row : goal.returns-in-Err-clause-row
returns-in-Err-clause-row c =
    let b = books_of c.args.refs.now in
    let few = subst (λ (n : ℕ). n < 4294967296) c.cookies-count.ensures.books c.cookies-count.type_inv in
    let same = to_z-of_z w64 c.args.cookie c.ranges.cookie in
    let found : changed b (Withdraw c.cookie_number-number.result) ≡ changed b (Withdraw (cookie_number c.args.cookie)) =
    withdraw_found b 4294967296 _ c.cookie_number-number.result few c.cookie_number-number.ensures.within c.cookie_number-number.ensures.past ∙ ap (λ (z : ℤ). changed b (Withdraw (cookie_number z))) same in
    taken_nothing (Revokes (cookie_number c.args.cookie)) c.args.refs.now c.revoke.new.self c.in-Err.ensures.err c.rests.ensures
    (sym found ∙ withdraw_none b c.cookie_number-number.result (cookie_hidden c.args.refs.now c.cookie_number-number.result (c.revoke.ensures.unknown.0 (c.in-Err.is ∙ c.in-Err.ensures.only))))

pub returns-in-Ok-clause-touched : goal.returns-in-Ok-clause-touched
returns-in-Ok-clause-touched c =
    revoke-touched c.args.refs.now c.revoke.new.self c.cookie_number-number.result c.in-Ok.lost c.args.touched.now.items c.touch_if.new.touched.items
    c.tells.ensures.tells c.tells.ensures.totals c.rests.ensures c.tells-in-Ok.ensures.tells c.tells-in-Ok.ensures.totals c.in-Ok.ensures.places c.in-Ok.ensures.lost c.in-Ok.ensures.books c.touch_if.ensures.members

pub returns-in-Err-clause-touched : goal.returns-in-Err-clause-touched
returns-in-Err-clause-touched c = λ n places counts. touches-same c.args.refs.now c.revoke.new.self c.args.touched.now.items c.in-Err.ensures.err
