use Rattle.std.proofs.Common.{Bool, not, refl, sym, subst, ap, ◌∙◌}
use Rattle.com_model.specs.declared.deeds.Deed.{Deed}
use Rattle.com_model.specs.declared.deeds.Deed.TheVariants as deed
use Rattle.com_refs_rows.specs.declared.calls.CallPackets.{CallPackets}
use Rattle.com_refs_rows.specs.Entries.{Closes, around, tally, left_by}
use Rattle.com_ledger.proofs.Closing.{closes_tables, closes_nothing, closes_back, not_ender}
use Rattle.com_ledger.proofs.books.Books.enter_end.Goals as goal

pub returns-in-DropPacket-clause-closes : goal.returns-in-DropPacket-clause-closes
returns-in-DropPacket-clause-closes c = (
    subst (λ (d : Deed). Closes (around c.args.context.calls.now.tables c.args.context.objects.now.tables c.args.context.classes.now c.args.context.carried.now c.args.apartment) d (tally c.args.self.now.refs c.args.self.now.calls) (tally c.end_packet.new.refs c.args.self.now.calls)) (sym c.in-DropPacket.is)
    (closes_tables c.args.context.objects.now.tables (deed.DropPacket c.in-DropPacket.packet _) (around c.args.context.calls.now.tables c.args.context.objects.now.tables c.args.context.classes.now c.args.context.carried.now c.args.apartment) c.args.self.now.refs c.end_packet.new.refs c.args.self.now.calls refl (λ left. refl) (c.end_packet.ensures.row c.args.context.objects.now.tables _)))

pub returns-in-Revoke-clause-closes : goal.returns-in-Revoke-clause-closes
returns-in-Revoke-clause-closes c = (
    subst (λ (d : Deed). Closes (around c.args.context.calls.now.tables c.args.context.objects.now.tables c.args.context.classes.now c.args.context.carried.now c.args.apartment) d (tally c.args.self.now.refs c.args.self.now.calls) (tally c.end_cookie.new.refs c.args.self.now.calls)) (sym c.in-Revoke.is)
    (closes_tables c.args.context.objects.now.tables (deed.Revoke c.in-Revoke.cookie c.in-Revoke.hr) (around c.args.context.calls.now.tables c.args.context.objects.now.tables c.args.context.classes.now c.args.context.carried.now c.args.apartment) c.args.self.now.refs c.end_cookie.new.refs c.args.self.now.calls refl (λ left. refl) (c.end_cookie.ensures.row c.args.context.objects.now.tables)))

pub returns-in-Disconnect-clause-closes : goal.returns-in-Disconnect-clause-closes
returns-in-Disconnect-clause-closes c = (
    subst (λ (d : Deed). Closes (around c.args.context.calls.now.tables c.args.context.objects.now.tables c.args.context.classes.now c.args.context.carried.now c.args.apartment) d (tally c.args.self.now.refs c.args.self.now.calls) (tally c.end_connection.new.refs c.args.self.now.calls)) (sym c.in-Disconnect.is)
    (closes_tables c.args.context.objects.now.tables (deed.Disconnect c.in-Disconnect.object c.in-Disconnect.hr) (around c.args.context.calls.now.tables c.args.context.objects.now.tables c.args.context.classes.now c.args.context.carried.now c.args.apartment) c.args.self.now.refs c.end_connection.new.refs c.args.self.now.calls refl (λ left. refl) (c.end_connection.ensures.row c.args.context.objects.now.tables)))

pub returns-in-Uninit-clause-closes : goal.returns-in-Uninit-clause-closes
returns-in-Uninit-clause-closes c = (
    subst (λ (d : Deed). Closes (around c.args.context.calls.now.tables c.args.context.objects.now.tables c.args.context.classes.now c.args.context.carried.now c.args.apartment) d (tally c.args.self.now.refs c.args.self.now.calls) (tally c.end_home.new.refs c.args.self.now.calls)) (sym c.in-Uninit.is)
    (closes_tables c.args.context.objects.now.tables (deed.Uninit c.in-Uninit.home c.in-Uninit.count) (around c.args.context.calls.now.tables c.args.context.objects.now.tables c.args.context.classes.now c.args.context.carried.now c.args.apartment) c.args.self.now.refs c.end_home.new.refs c.args.self.now.calls refl (λ left. refl) c.end_home.ensures.row))

pub returns-then-is_left-clause-closes : goal.returns-then-is_left-clause-closes
returns-then-is_left-clause-closes c =
    subst (λ (d : Deed). Closes (around c.args.context.calls.now.tables c.args.context.objects.now.tables c.args.context.classes.now c.args.context.carried.now c.args.apartment) d (tally c.args.self.now.refs c.args.self.now.calls) (tally c.args.self.now.refs c.args.self.now.calls)) (sym c.in-Back.is)
    (closes_nothing (around c.args.context.calls.now.tables c.args.context.objects.now.tables c.args.context.classes.now c.args.context.carried.now c.args.apartment) (deed.Back c.in-Back.call c.in-Back.hr c.in-Back.value) c.args.self.now.refs c.args.self.now.calls (ap (λ (w : Bool). not w) (sym c.is_left.ensures ∙ c.if-is_left.true)))

pub returns-else-is_left-clause-closes : goal.returns-else-is_left-clause-closes
returns-else-is_left-clause-closes c = (
    subst (λ (d : Deed). Closes (around c.args.context.calls.now.tables c.args.context.objects.now.tables c.args.context.classes.now c.args.context.carried.now c.args.apartment) d (tally c.args.self.now.refs c.args.self.now.calls) (tally c.give_up.new.refs c.args.self.now.calls)) (sym c.in-Back.is)
    (closes_back (around c.args.context.calls.now.tables c.args.context.objects.now.tables c.args.context.classes.now c.args.context.carried.now c.args.apartment) c.in-Back.call c.get-number.result.result c.in-Back.hr c.in-Back.value c.args.self.now.refs c.give_up.new.refs c.args.self.now.calls (sym c.is_left.ensures ∙ c.if-is_left.false) (sym (ap (λ (r : CallPackets). r.result) c.get-number.ensures.row)) c.give_up.ensures.row))

pub returns-in_default-clause-closes : goal.returns-in_default-clause-closes
returns-in_default-clause-closes c = closes_nothing (around c.args.context.calls.now.tables c.args.context.objects.now.tables c.args.context.classes.now c.args.context.carried.now c.args.apartment) c.args.deed.now c.args.self.now.refs c.args.self.now.calls
    (not_ender (left_by c.args.context.calls.now.tables) c.args.deed.now c.in_default.not-DropPacket c.in_default.not-Revoke c.in_default.not-Back c.in_default.not-Disconnect c.in_default.not-Uninit)
