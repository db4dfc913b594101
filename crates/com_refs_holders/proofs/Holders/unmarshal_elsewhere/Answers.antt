use Rattle.std.proofs.Common.{◌≡◌, ◌∙◌, sym, subst, refl, true, false}
use Rattle.std.specs.Prelude.{OnOk}
use Rattle.com_refs_books.specs.Changes.{Books}
use Rattle.com_refs_holders.specs.Tables.{owns_of, books_of}
use Rattle.com_refs_holders.proofs.Choices.{joins, takes_table}
use Rattle.com_refs_holders.proofs.Cuts.{shown, packet_shown, outstanding_held}
use Rattle.com_refs_holders.proofs.Holders.unmarshal_elsewhere.Goals as goal

pub returns-then-is_normal-clause-row : goal.returns-then-is_normal-clause-row
returns-then-is_normal-clause-row c =
    let is = packet_shown c.args.self.now c.args.number c.args.packet c.requires.outstanding in
    let row = joins (owns_of c.args.self.now.objects) (books_of c.args.self.now) c.args.apartment c.args.number (shown c.args.packet) is.0 refl (c.is_normal.ensures.0 c.if-is_normal.true) c.requires.elsewhere in
    subst (λ (b : Books). OnOk c.take_packet.result (books_of c.take_packet.new.self ≡ b)) (sym row) c.take_packet.ensures.books

pub take_new-requires-clause-connected : goal.take_new-requires-clause-connected
take_new-requires-clause-connected c = (packet_shown c.args.self.now c.args.number c.args.packet c.requires.outstanding).1

pub take_new-requires-clause-known : goal.take_new-requires-clause-known
take_new-requires-clause-known c = c.stands.ensures.known.packets c.args.number c.args.packet (outstanding_held c.args.self.now c.args.number c.args.packet c.requires.outstanding)

pub returns-clause-row : goal.returns-clause-row
returns-clause-row c =
    let is = packet_shown c.args.self.now c.args.number c.args.packet c.requires.outstanding in
    let row = takes_table (owns_of c.args.self.now.objects) (books_of c.args.self.now) c.args.apartment c.args.number (shown c.args.packet) is.0 refl
    (λ m. let yes : true ≡ false = sym (c.is_normal.ensures.1 m) ∙ c.if-is_normal.false in absurd (cc)) c.requires.elsewhere in
    subst (λ (b : Books). OnOk c.take_new.result (books_of c.take_new.new.self ≡ b)) (sym row) c.take_new.ensures.books
