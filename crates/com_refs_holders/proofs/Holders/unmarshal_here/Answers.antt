use Rattle.std.proofs.Common.{◌≡◌, ◌∙◌, sym, refl, true, false}
use Rattle.com_refs_holders.specs.Tables.{owns_of, books_of}
use Rattle.com_refs_holders.proofs.Choices.{returns, keeps_table}
use Rattle.com_refs_holders.proofs.Cuts.{shown, packet_shown, outstanding_held}
use Rattle.com_refs_holders.proofs.Moves.{more_from}
use Rattle.com_refs_holders.proofs.Holders.unmarshal_here.Goals as goal

pub keep_direct-requires-clause-made : goal.keep_direct-requires-clause-made
keep_direct-requires-clause-made c =
    let known = c.stands.ensures.known.packets c.args.number c.args.packet (outstanding_held c.args.self.now c.args.number c.args.packet c.requires.outstanding) in
    let made = c.stands.ensures.known.counters c.args.packet.object c.args.packet.iface known in
    (made.0, rw c.end_packet.ensures.objects made.1)

pub returns-then-is_normal-clause-row : goal.returns-then-is_normal-clause-row
returns-then-is_normal-clause-row c =
    let is = packet_shown c.args.self.now c.args.number c.args.packet c.requires.outstanding in
    c.keep_direct.ensures.books ∙ c.end_packet.ensures.books
    ∙ sym (returns (owns_of c.args.self.now.objects) (books_of c.args.self.now) c.args.apartment c.args.number (shown c.args.packet) is.0 refl (c.is_normal.ensures.0 c.if-is_normal.true) c.requires.here)

pub returns-then-is_normal-clause-places : goal.returns-then-is_normal-clause-places
returns-then-is_normal-clause-places c = more_from _ _ _ _ _ _ c.end_packet.ensures.objects c.end_packet.ensures.proxies (c.keep_direct.ensures.places c.args.apartment)

pub keep_direct-requires-2-clause-made : goal.keep_direct-requires-2-clause-made
keep_direct-requires-2-clause-made c =
    let known = c.stands.ensures.known.packets c.args.number c.args.packet (outstanding_held c.args.self.now c.args.number c.args.packet c.requires.outstanding) in
    c.stands.ensures.known.counters c.args.packet.object c.args.packet.iface known

pub returns-clause-row : goal.returns-clause-row
returns-clause-row c =
    let is = packet_shown c.args.self.now c.args.number c.args.packet c.requires.outstanding in
    c.keep_direct-2.ensures.books
    ∙ sym (keeps_table (owns_of c.args.self.now.objects) (books_of c.args.self.now) c.args.apartment c.args.number (shown c.args.packet) is.0 refl
    (λ m. let yes : true ≡ false = sym (c.is_normal.ensures.1 m) ∙ c.if-is_normal.false in absurd (cc)) c.requires.here)

pub returns-clause-places : goal.returns-clause-places
returns-clause-places c = c.keep_direct-2.ensures.places c.args.apartment
