use Rattle.std.proofs.Common.{◌≡◌, ◌+◌, true, false, sym, ap, ◌∙◌, arith}
use Rattle.com_view.specs.Standings.{is_unasked}
use Rattle.com_view.proofs.Each.{each_from_more, each_not_from}
use Rattle.com_view.proofs.going_on.are_empty.Goals as goal

pub returns-then-not-is_unasked : goal.returns-then-not-is_unasked
returns-then-not-is_unasked c =
    let n = c.loop-apartment.apartment in
    let stops : is_unasked c.args.view.now.calls n ≡ false = cc (c.is_unasked.ensures, c.if-not-is_unasked.true) in
    let from : 0 + n ≡ n = omega arith in
    sym (each_not_from (is_unasked c.args.view.now.calls) 0 c.args.apartments n (omega arith) (ap (is_unasked c.args.view.now.calls) from ∙ stops))

pub loop-apartment-preserved : goal.loop-apartment-preserved
loop-apartment-preserved c =
    let n = c.loop-apartment.apartment in
    let passes : is_unasked c.args.view.now.calls n ≡ true = cc (c.is_unasked.ensures, c.if-not-is_unasked.false) in
    let from : 0 + n ≡ n = omega arith in
    each_from_more (is_unasked c.args.view.now.calls) 0 n c.loop-apartment.invariant (ap (is_unasked c.args.view.now.calls) from ∙ passes)
