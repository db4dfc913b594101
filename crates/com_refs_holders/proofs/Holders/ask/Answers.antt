use Rattle.std.proofs.Common.{◌≡◌, ◌<◌, ◌≤◌, sym, subst, arith}
use Rattle.std.specs.Prelude.{OnOk}
use Rattle.com_proxy.specs.Rows.{public_of}
use Rattle.com_refs_books.specs.Changes.{Books}
use Rattle.com_refs_holders.specs.Tables.{owns_of, books_of}
use Rattle.com_refs_holders.proofs.Choices.{asks_new, asks_more, books_live, proxy_some, proxy_none}
use Rattle.com_refs_holders.proofs.Holders.ask.Goals as goal

pub returns-then-public-gt0-clause-row : goal.returns-then-public-gt0-clause-row
returns-then-public-gt0-clause-row c =
    let some : 0 < public_of c.args.self.now.proxies c.args.apartment c.args.held.object c.args.held.iface = omega (arith, c.public.ensures, c.if-public-gt0.true) in
    let row = asks_more (owns_of c.args.self.now.objects) (books_of c.args.self.now) c.args.apartment c.args.held.object c.args.held.iface (books_live c.args.self.now c.args.held.object c.requires.connected) c.requires.elsewhere
    (proxy_some c.args.self.now c.args.apartment c.args.held.object c.args.held.iface c.requires.connected some) in
    subst (λ (b : Books). OnOk c.take_shared.result (books_of c.take_shared.new.self ≡ b)) (sym row) c.take_shared.ensures.books

pub returns-clause-row : goal.returns-clause-row
returns-clause-row c =
    let none : public_of c.args.self.now.proxies c.args.apartment c.args.held.object c.args.held.iface ≤ 0 = omega (arith, c.public.ensures, c.if-public-gt0.false) in
    let row = asks_new (owns_of c.args.self.now.objects) (books_of c.args.self.now) c.args.apartment c.args.held.object c.args.held.iface (books_live c.args.self.now c.args.held.object c.requires.connected) c.requires.elsewhere
    (proxy_none c.args.self.now c.args.apartment c.args.held.object c.args.held.iface c.requires.connected none) in
    subst (λ (b : Books). OnOk c.take_new.result (books_of c.take_new.new.self ≡ b)) (sym row) c.take_new.ensures.books
