use Rattle.std.proofs.Common.{◌≡◌, arith, Bool, cond, not, [], refl, sym, subst, ap, ◌∙◌}
use Rattle.com_model.specs.declared.deeds.Deed.{Deed}
use Rattle.com_model.specs.declared.deeds.Deed.TheVariants as deed
use Rattle.com_refs_rows.specs.declared.calls.CallPackets.{CallPackets}
use Rattle.com_refs_rows.specs.Entries.{Gives, around, tally}
use Rattle.com_refs_rows.specs.Fits.{FitsRow, IsIssued, IsLeft}
use Rattle.com_ledger.proofs.Offered.{known_carried}
use Rattle.com_ledger.proofs.Giving.{given_out, given_leave, given_enter, gives_back, gives_later, gives_other}
use Rattle.com_refs_rows.proofs.Losing.{on_ok, on_ok_three}
use Rattle.com_refs_rows.specs.Entries.{asked_packets}
use Rattle.com_ledger.proofs.books.Books.enter_call.Goals as goal

pub issue-requires-clause-known : goal.issue-requires-clause-known
issue-requires-clause-known c =
    let fits : IsIssued (tally c.args.self.now.refs c.args.self.now.calls) c.args.context.carried.now c.in-Out.call = subst (λ (d : Deed). FitsRow c.args.context.classes.now c.args.context.carried.now c.args.apartment (tally c.args.self.now.refs c.args.self.now.calls) d) c.in-Out.is c.requires.fits in
    known_carried c.args.self.now.refs c.is_some.result c.args.context.carried.now c.carried_in-carried.result.now c.carried_in-carried.ensures fits.known

pub reply-requires-clause-some : goal.reply-requires-clause-some
reply-requires-clause-some c =
    let fits : IsLeft (tally c.args.self.now.refs c.args.self.now.calls) c.args.context.carried.now c.in-Leave.call = subst (λ (d : Deed). FitsRow c.args.context.classes.now c.args.context.carried.now c.args.apartment (tally c.args.self.now.refs c.args.self.now.calls) d) c.in-Leave.is c.requires.fits in
    fits.some

pub reply-requires-clause-issued : goal.reply-requires-clause-issued
reply-requires-clause-issued c =
    let fits : IsLeft (tally c.args.self.now.refs c.args.self.now.calls) c.args.context.carried.now c.in-Leave.call = subst (λ (d : Deed). FitsRow c.args.context.classes.now c.args.context.carried.now c.args.apartment (tally c.args.self.now.refs c.args.self.now.calls) d) c.in-Leave.is c.requires.fits in
    fits.issued

pub reply-requires-clause-known : goal.reply-requires-clause-known
reply-requires-clause-known c =
    let fits : IsLeft (tally c.args.self.now.refs c.args.self.now.calls) c.args.context.carried.now c.in-Leave.call = subst (λ (d : Deed). FitsRow c.args.context.classes.now c.args.context.carried.now c.args.apartment (tally c.args.self.now.refs c.args.self.now.calls) d) c.in-Leave.is c.requires.fits in
    known_carried c.args.self.now.refs c.is_some-in-Leave.result c.args.context.carried.now c.carried_in-carried-in-Leave.result.now c.carried_in-carried-in-Leave.ensures fits.known

pub returns-in-Out-clause-gives : goal.returns-in-Out-clause-gives
returns-in-Out-clause-gives c =
    let fits : IsIssued (tally c.args.self.now.refs c.args.self.now.calls) c.args.context.carried.now c.in-Out.call = subst (λ (d : Deed). FitsRow c.args.context.classes.now c.args.context.carried.now c.args.apartment (tally c.args.self.now.refs c.args.self.now.calls) d) c.in-Out.is c.requires.fits in
    on_ok_three c.issue.result (λ packed books many. λ other.
    subst (λ (d : Deed). Gives (around c.args.context.calls.now.tables c.args.context.objects.now.tables c.args.context.classes.now c.args.context.carried.now c.args.apartment) d (tally c.args.self.now.refs c.args.self.now.calls) c.args.self.now.brought.items (tally c.issue.new.refs c.issue.new.calls) c.args.self.now.brought.items) (sym c.in-Out.is)
    (λ s x carries. given_out s x (around c.args.context.calls.now.tables c.args.context.objects.now.tables c.args.context.classes.now c.args.context.carried.now c.args.apartment) c.in-Out.call c.in-Out.object c.in-Out.iface c.in-Out.method c.in-Out.route c.in-Out.cause c.in-Out.bytes c.args.self.now.refs c.issue.new.refs c.args.self.now.calls c.issue.new.calls c.args.self.now.brought.items c.carried_in-carried.result.now
    carries (c.carried_in-carried.ensures ∙ ap (λ (w : Bool). cond w c.args.context.carried.now []) c.is_some.ensures) packed (books c.in-Out.call fits.next) many))
    c.issue.ensures.rows c.issue.ensures.books c.issue.ensures.calls

pub returns-in-Enter-clause-gives : goal.returns-in-Enter-clause-gives
returns-in-Enter-clause-gives c = (λ other.
    subst (λ (d : Deed). Gives (around c.args.context.calls.now.tables c.args.context.objects.now.tables c.args.context.classes.now c.args.context.carried.now c.args.apartment) d (tally c.args.self.now.refs c.args.self.now.calls) c.args.self.now.brought.items (tally c.read_all.new.refs c.args.self.now.calls) c.read_all.new.brought.items) (sym c.in-Enter.is)
    (λ s x carries. given_enter s x (around c.args.context.calls.now.tables c.args.context.objects.now.tables c.args.context.classes.now c.args.context.carried.now c.args.apartment) c.in-Enter.call c.in-Enter.object c.in-Enter.apartment c.in-Enter.call_type c.in-Enter.values c.args.self.now.refs c.read_all.new.refs c.args.self.now.calls c.get-packets.result c.args.self.now.brought.items c.read_all.new.brought.items c.get-packets.ensures.row c.read_all.ensures.rows))

pub returns-in-Leave-clause-gives : goal.returns-in-Leave-clause-gives
returns-in-Leave-clause-gives c = λ other.
    subst (λ (d : Deed). Gives (around c.args.context.calls.now.tables c.args.context.objects.now.tables c.args.context.classes.now c.args.context.carried.now c.args.apartment) d (tally c.args.self.now.refs c.args.self.now.calls) c.args.self.now.brought.items (tally c.reply.new.refs c.reply.new.calls) c.args.self.now.brought.items) (sym c.in-Leave.is)
    (λ s x carries. given_leave s x (around c.args.context.calls.now.tables c.args.context.objects.now.tables c.args.context.classes.now c.args.context.carried.now c.args.apartment) c.in-Leave.call c.in-Leave.hr c.in-Leave.value c.in-Leave.bytes c.args.self.now.refs c.reply.new.refs c.args.self.now.calls c.reply.new.calls c.args.self.now.brought.items c.carried_in-carried-in-Leave.result.now
    carries (c.carried_in-carried-in-Leave.ensures ∙ ap (λ (w : Bool). cond w c.args.context.carried.now []) c.is_some-in-Leave.ensures) c.reply.ensures.rows c.reply.ensures.books c.reply.ensures.calls)

pub returns-then-not-is_left-clause-gives : goal.returns-then-not-is_left-clause-gives
returns-then-not-is_left-clause-gives c = λ other.
    subst (λ (d : Deed). Gives (around c.args.context.calls.now.tables c.args.context.objects.now.tables c.args.context.classes.now c.args.context.carried.now c.args.apartment) d (tally c.args.self.now.refs c.args.self.now.calls) c.args.self.now.brought.items (tally c.args.self.now.refs c.args.self.now.calls) c.args.self.now.brought.items) (sym c.in-Back.is)
    (gives_later (around c.args.context.calls.now.tables c.args.context.objects.now.tables c.args.context.classes.now c.args.context.carried.now c.args.apartment) (deed.Back c.in-Back.call c.in-Back.hr c.in-Back.value) c.args.self.now.refs c.args.self.now.calls c.args.self.now.brought.items (ap (λ (w : Bool). not w) (sym c.is_left.ensures ∙ c.if-not-is_left.true)) (λ l. refl))

pub returns-else-not-is_left-clause-gives : goal.returns-else-not-is_left-clause-gives
returns-else-not-is_left-clause-gives c = λ other.
    subst (λ (d : Deed). Gives (around c.args.context.calls.now.tables c.args.context.objects.now.tables c.args.context.classes.now c.args.context.carried.now c.args.apartment) d (tally c.args.self.now.refs c.args.self.now.calls) c.args.self.now.brought.items (tally c.enter_back.new.refs c.args.self.now.calls) c.enter_back.new.brought.items) (sym c.in-Back.is)
    (gives_back (around c.args.context.calls.now.tables c.args.context.objects.now.tables c.args.context.classes.now c.args.context.carried.now c.args.apartment) c.in-Back.call c.in-Back.hr c.in-Back.value c.args.self.now.refs c.enter_back.new.refs c.args.self.now.calls c.get-number.result.result c.args.self.now.brought.items c.enter_back.new.brought.items
    (ap (λ (r : CallPackets). r.result) c.get-number.ensures.row) (sym c.is_left.ensures ∙ c.if-not-is_left.false) c.enter_back.ensures.row)

pub returns-in_default-clause-gives : goal.returns-in_default-clause-gives
returns-in_default-clause-gives c = λ other. gives_other (around c.args.context.calls.now.tables c.args.context.objects.now.tables c.args.context.classes.now c.args.context.carried.now c.args.apartment) c.args.deed.now c.args.self.now.refs c.args.self.now.calls c.args.self.now.brought.items other c.in_default.not-Out c.in_default.not-Enter c.in_default.not-Leave c.in_default.not-Back

pub read_all-requires-clause-few : goal.read_all-requires-clause-few
read_all-requires-clause-few c =
    let asked : asked_packets c.args.self.now.calls c.args.deed.now ≡ c.get-packets.result.count = ap (λ (d : Deed). asked_packets c.args.self.now.calls d) c.in-Enter.is ∙ sym (ap (λ (r : CallPackets). r.count) c.get-packets.ensures.row) in
    omega (arith, asked, c.requires.few)

pub read_all-requires-clause-room : goal.read_all-requires-clause-room
read_all-requires-clause-room c =
    let asked : asked_packets c.args.self.now.calls c.args.deed.now ≡ c.get-packets.result.count = ap (λ (d : Deed). asked_packets c.args.self.now.calls d) c.in-Enter.is ∙ sym (ap (λ (r : CallPackets). r.count) c.get-packets.ensures.row) in
    omega (arith, asked, c.requires.room)

pub read_all-requires-clause-places : goal.read_all-requires-clause-places
read_all-requires-clause-places c =
    let asked : asked_packets c.args.self.now.calls c.args.deed.now ≡ c.get-packets.result.count = ap (λ (d : Deed). asked_packets c.args.self.now.calls d) c.in-Enter.is ∙ sym (ap (λ (r : CallPackets). r.count) c.get-packets.ensures.row) in
    omega (arith, asked, c.requires.places)

pub returns-in-Enter-clause-issued : goal.returns-in-Enter-clause-issued
returns-in-Enter-clause-issued c =
    let asked : asked_packets c.args.self.now.calls c.args.deed.now ≡ c.get-packets.result.count = ap (λ (d : Deed). asked_packets c.args.self.now.calls d) c.in-Enter.is ∙ sym (ap (λ (r : CallPackets). r.count) c.get-packets.ensures.row) in
    omega (arith, asked, c.read_all.ensures.issued)

pub returns-in-Enter-clause-spare : goal.returns-in-Enter-clause-spare
returns-in-Enter-clause-spare c =
    let asked : asked_packets c.args.self.now.calls c.args.deed.now ≡ c.get-packets.result.count = ap (λ (d : Deed). asked_packets c.args.self.now.calls d) c.in-Enter.is ∙ sym (ap (λ (r : CallPackets). r.count) c.get-packets.ensures.row) in
    omega (arith, asked, c.read_all.ensures.spare)

pub returns-in-Enter-clause-brought : goal.returns-in-Enter-clause-brought
returns-in-Enter-clause-brought c =
    let asked : asked_packets c.args.self.now.calls c.args.deed.now ≡ c.get-packets.result.count = ap (λ (d : Deed). asked_packets c.args.self.now.calls d) c.in-Enter.is ∙ sym (ap (λ (r : CallPackets). r.count) c.get-packets.ensures.row) in
    omega (arith, asked, c.read_all.ensures.len)

pub returns-in-Out-clause-offers : goal.returns-in-Out-clause-offers
returns-in-Out-clause-offers c = on_ok c.issue.result (λ x j e. c.issue.ensures.offers x j ∙ e)

pub returns-in-Leave-clause-offers : goal.returns-in-Leave-clause-offers
returns-in-Leave-clause-offers c = λ x j e. c.reply.ensures.offers x j ∙ e

pub returns-in-Enter-clause-offers : goal.returns-in-Enter-clause-offers
returns-in-Enter-clause-offers c = λ x j e. c.read_all.ensures.offers x j ∙ e

pub returns-else-not-is_left-clause-offers : goal.returns-else-not-is_left-clause-offers
returns-else-not-is_left-clause-offers c = λ x j e. c.enter_back.ensures.offers x j ∙ e
