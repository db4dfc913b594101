use Rattle.std.proofs.Common.{refl, sym, ◌∙◌, arith}
use Rattle.com_refs_rows.proofs.Cutting.{cut_dead, same_rows}
use Rattle.com_refs_rows.proofs.Unholding.{cut-direct, cut-written, touches-same}
use Rattle.com_refs_rows.proofs.rows.disconnect.Goals as goal

pub returns-then-not-connected-clause-cut : goal.returns-then-not-connected-clause-cut
returns-then-not-connected-clause-cut c = cut_dead c.args.refs.now c.args.object (sym c.connected.ensures ∙ c.if-not-connected.true)

pub returns-then-direct-gt0-clause-cut : goal.returns-then-direct-gt0-clause-cut
returns-then-direct-gt0-clause-cut c = record {
  books = c.disconnect.ensures.books;
  places = same_rows c.args.refs.now c.disconnect.new.self c.disconnect.ensures.objects c.disconnect.ensures.proxies;
}

pub returns-clause-cut : goal.returns-clause-cut
returns-clause-cut c = record {
  books = c.disconnect.ensures.books;
  places = same_rows c.args.refs.now c.disconnect.new.self c.disconnect.ensures.objects c.disconnect.ensures.proxies;
}

pub returns-then-not-connected-clause-touched : goal.returns-then-not-connected-clause-touched
returns-then-not-connected-clause-touched c = touches-same c.args.refs.now c.args.refs.now c.args.touched.now.items refl

pub returns-then-direct-gt0-clause-touched : goal.returns-then-direct-gt0-clause-touched
returns-then-direct-gt0-clause-touched c =
    cut-direct c.args.refs.now c.disconnect.new.self c.args.object c.args.touched.now.items c.disconnect.ensures.books c.disconnect.ensures.objects c.disconnect.ensures.proxies
    (omega (arith, c.direct.ensures, c.if-direct-gt0.true))

pub returns-clause-touched : goal.returns-clause-touched
returns-clause-touched c =
    cut-written c.args.refs.now c.disconnect.new.self c.args.object c.args.touched.now.items c.touch.new.touched.items c.disconnect.ensures.books c.disconnect.ensures.objects c.disconnect.ensures.proxies c.touch.ensures.members
