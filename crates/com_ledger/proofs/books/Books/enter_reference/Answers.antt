use Rattle.std.proofs.Common.{◌<◌, sym, subst, ap}
use Rattle.std.proofs.lemmas.Result.{on_ok_weaker}
use Rattle.com_model.specs.declared.deeds.Deed.{Deed}
use Rattle.com_model.specs.Objects.{makes}
use Rattle.com_refs_rows.specs.Entries.{Gives, around, brings_to, tally}
use Rattle.com_refs_rows.specs.Fits.{FitsRow}
use Rattle.com_refs_rows.specs.Owners.{OffersMore}
use Rattle.com_ledger.proofs.Giving.{gives_made, gives_query, gives_marshal, gives_unmarshal, gives_register, gives_get, not_of_reference}
use Rattle.com_ledger.proofs.Offered.{more_later, more_none, unmade}
use Rattle.com_ledger.proofs.books.Books.enter_reference.Goals as goal

pub enter_made-requires-clause-making : goal.enter_made-requires-clause-making
enter_made-requires-clause-making c = subst (λ (d : Deed). FitsRow c.args.context.classes.now c.args.context.carried.now c.args.apartment (tally c.args.self.now.refs c.args.self.now.calls) d) c.in-Made.is c.requires.fits

pub enter_query-requires-clause-asked : goal.enter_query-requires-clause-asked
enter_query-requires-clause-asked c = subst (λ (d : Deed). FitsRow c.args.context.classes.now c.args.context.carried.now c.args.apartment (tally c.args.self.now.refs c.args.self.now.calls) d) c.in-Query.is c.requires.fits

pub enter_marshal-requires-clause-held : goal.enter_marshal-requires-clause-held
enter_marshal-requires-clause-held c = subst (λ (d : Deed). FitsRow c.args.context.classes.now c.args.context.carried.now c.args.apartment (tally c.args.self.now.refs c.args.self.now.calls) d) c.in-Marshal.is c.requires.fits

pub enter_register-requires-clause-held : goal.enter_register-requires-clause-held
enter_register-requires-clause-held c = subst (λ (d : Deed). FitsRow c.args.context.classes.now c.args.context.carried.now c.args.apartment (tally c.args.self.now.refs c.args.self.now.calls) d) c.in-Register.is c.requires.fits

pub enter_get-requires-clause-kept : goal.enter_get-requires-clause-kept
enter_get-requires-clause-kept c = subst (λ (d : Deed). FitsRow c.args.context.classes.now c.args.context.carried.now c.args.apartment (tally c.args.self.now.refs c.args.self.now.calls) d) c.in-Get.is c.requires.fits

pub returns-in-Made-clause-gives : goal.returns-in-Made-clause-gives
returns-in-Made-clause-gives c = on_ok_weaker c.enter_made.result (λ m.
    subst (λ (d : Deed). Gives (around c.args.context.calls.now.tables c.args.context.objects.now.tables c.args.context.classes.now c.args.context.carried.now c.args.apartment) d (tally c.args.self.now.refs c.args.self.now.calls) c.args.self.now.brought.items (tally c.enter_made.new.refs c.args.self.now.calls) c.enter_made.new.brought.items) (sym c.in-Made.is)
    (gives_made (around c.args.context.calls.now.tables c.args.context.objects.now.tables c.args.context.classes.now c.args.context.carried.now c.args.apartment) c.in-Made.object c.in-Made.owner c.in-Made.class c.in-Made.iface _ c.args.self.now.refs c.enter_made.new.refs c.args.self.now.calls c.args.self.now.brought.items c.enter_made.new.brought.items m))
    c.enter_made.ensures.row

pub returns-in-Query-clause-gives : goal.returns-in-Query-clause-gives
returns-in-Query-clause-gives c =
    subst (λ (d : Deed). Gives (around c.args.context.calls.now.tables c.args.context.objects.now.tables c.args.context.classes.now c.args.context.carried.now c.args.apartment) d (tally c.args.self.now.refs c.args.self.now.calls) c.args.self.now.brought.items (tally c.enter_query.new.refs c.args.self.now.calls) c.enter_query.new.brought.items) (sym c.in-Query.is)
    (gives_query (around c.args.context.calls.now.tables c.args.context.objects.now.tables c.args.context.classes.now c.args.context.carried.now c.args.apartment) c.in-Query.object c.in-Query.iface c.in-Query.hr c.args.self.now.refs c.enter_query.new.refs c.args.self.now.calls c.args.self.now.brought.items c.enter_query.new.brought.items c.enter_query.ensures.row)

pub returns-in-Marshal-clause-gives : goal.returns-in-Marshal-clause-gives
returns-in-Marshal-clause-gives c =
    subst (λ (d : Deed). Gives (around c.args.context.calls.now.tables c.args.context.objects.now.tables c.args.context.classes.now c.args.context.carried.now c.args.apartment) d (tally c.args.self.now.refs c.args.self.now.calls) c.args.self.now.brought.items (tally c.enter_marshal.new.refs c.args.self.now.calls) c.args.self.now.brought.items) (sym c.in-Marshal.is)
    (gives_marshal (around c.args.context.calls.now.tables c.args.context.objects.now.tables c.args.context.classes.now c.args.context.carried.now c.args.apartment) c.in-Marshal.packet c.in-Marshal.mode c.in-Marshal.held _ _ _ c.args.self.now.refs c.enter_marshal.new.refs c.args.self.now.calls c.args.self.now.brought.items c.args.self.now.brought.items (c.enter_marshal.ensures.row _ _ _ c.args.self.now.brought.items))

pub returns-in-Unmarshal-clause-gives : goal.returns-in-Unmarshal-clause-gives
returns-in-Unmarshal-clause-gives c =
    subst (λ (d : Deed). Gives (around c.args.context.calls.now.tables c.args.context.objects.now.tables c.args.context.classes.now c.args.context.carried.now c.args.apartment) d (tally c.args.self.now.refs c.args.self.now.calls) c.args.self.now.brought.items (tally c.enter_unmarshal.new.refs c.args.self.now.calls) c.enter_unmarshal.new.brought.items) (sym c.in-Unmarshal.is)
    (gives_unmarshal (around c.args.context.calls.now.tables c.args.context.objects.now.tables c.args.context.classes.now c.args.context.carried.now c.args.apartment) c.in-Unmarshal.packet _ _ _ c.args.self.now.refs c.enter_unmarshal.new.refs c.args.self.now.calls c.args.self.now.brought.items c.enter_unmarshal.new.brought.items (c.enter_unmarshal.ensures.row _ _ _))

pub returns-in-Register-clause-gives : goal.returns-in-Register-clause-gives
returns-in-Register-clause-gives c =
    subst (λ (d : Deed). Gives (around c.args.context.calls.now.tables c.args.context.objects.now.tables c.args.context.classes.now c.args.context.carried.now c.args.apartment) d (tally c.args.self.now.refs c.args.self.now.calls) c.args.self.now.brought.items (tally c.enter_register.new.refs c.args.self.now.calls) c.args.self.now.brought.items) (sym c.in-Register.is)
    (gives_register (around c.args.context.calls.now.tables c.args.context.objects.now.tables c.args.context.classes.now c.args.context.carried.now c.args.apartment) c.in-Register.cookie c.in-Register.held _ c.args.self.now.refs c.enter_register.new.refs c.args.self.now.calls c.args.self.now.brought.items c.args.self.now.brought.items (c.enter_register.ensures.row c.args.apartment _ c.args.self.now.brought.items))

pub returns-in-Get-clause-gives : goal.returns-in-Get-clause-gives
returns-in-Get-clause-gives c =
    subst (λ (d : Deed). Gives (around c.args.context.calls.now.tables c.args.context.objects.now.tables c.args.context.classes.now c.args.context.carried.now c.args.apartment) d (tally c.args.self.now.refs c.args.self.now.calls) c.args.self.now.brought.items (tally c.enter_get.new.refs c.args.self.now.calls) c.enter_get.new.brought.items) (sym c.in-Get.is)
    (gives_get (around c.args.context.calls.now.tables c.args.context.objects.now.tables c.args.context.classes.now c.args.context.carried.now c.args.apartment) c.in-Get.cookie c.in-Get.held _ _ c.args.self.now.refs c.enter_get.new.refs c.args.self.now.calls c.args.self.now.brought.items c.enter_get.new.brought.items (c.enter_get.ensures.row _ _))

pub returns-in_default-clause-gives : goal.returns-in_default-clause-gives
returns-in_default-clause-gives c = on_ok_weaker c.enter_call.result (λ m. m (not_of_reference c.args.deed.now c.in_default.not-Made c.in_default.not-Query c.in_default.not-Marshal c.in_default.not-Unmarshal c.in_default.not-Register c.in_default.not-Get)) c.enter_call.ensures.gives

pub returns-in-Made-clause-more : goal.returns-in-Made-clause-more
returns-in-Made-clause-more c = on_ok_weaker c.enter_made.result (λ more. λ n places low made counts.
    more n places (subst (λ (d : Deed). brings_to c.args.apartment d < n) c.in-Made.is low) made counts)
    c.enter_made.ensures.more

pub returns-in-Query-clause-more : goal.returns-in-Query-clause-more
returns-in-Query-clause-more c = λ n places low made counts. c.enter_query.ensures.more

pub returns-in-Marshal-clause-more : goal.returns-in-Marshal-clause-more
returns-in-Marshal-clause-more c = λ n places low made counts. c.enter_marshal.ensures.more

pub returns-in-Unmarshal-clause-more : goal.returns-in-Unmarshal-clause-more
returns-in-Unmarshal-clause-more c = λ n places low made counts. c.enter_unmarshal.ensures.more

pub returns-in-Register-clause-more : goal.returns-in-Register-clause-more
returns-in-Register-clause-more c = λ n places low made counts. c.enter_register.ensures.more

pub returns-in-Get-clause-more : goal.returns-in-Get-clause-more
returns-in-Get-clause-more c = λ n places low made counts. c.enter_get.ensures.more

pub returns-in_default-clause-more : goal.returns-in_default-clause-more
returns-in_default-clause-more c = on_ok_weaker c.enter_call.result (λ more. λ n places low made counts. more) c.enter_call.ensures.more

pub returns-in-Made-clause-offers : goal.returns-in-Made-clause-offers
returns-in-Made-clause-offers c = on_ok_weaker c.enter_made.result
    (λ m. subst (λ (d : Deed). OffersMore c.args.context.classes.now (makes d) c.args.self.now.refs c.enter_made.new.refs) (sym c.in-Made.is) (m _)) c.enter_made.ensures.offers

pub returns-in-Query-clause-offers : goal.returns-in-Query-clause-offers
returns-in-Query-clause-offers c = more_none c.args.context.classes.now _ c.args.self.now.refs c.enter_query.new.refs (ap makes c.in-Query.is) c.enter_query.ensures.offers

pub returns-in-Marshal-clause-offers : goal.returns-in-Marshal-clause-offers
returns-in-Marshal-clause-offers c = more_none c.args.context.classes.now _ c.args.self.now.refs c.enter_marshal.new.refs (ap makes c.in-Marshal.is) c.enter_marshal.ensures.offers

pub returns-in-Unmarshal-clause-offers : goal.returns-in-Unmarshal-clause-offers
returns-in-Unmarshal-clause-offers c = more_none c.args.context.classes.now _ c.args.self.now.refs c.enter_unmarshal.new.refs (ap makes c.in-Unmarshal.is) c.enter_unmarshal.ensures.offers

pub returns-in-Register-clause-offers : goal.returns-in-Register-clause-offers
returns-in-Register-clause-offers c = more_none c.args.context.classes.now _ c.args.self.now.refs c.enter_register.new.refs (ap makes c.in-Register.is) c.enter_register.ensures.offers

pub returns-in-Get-clause-offers : goal.returns-in-Get-clause-offers
returns-in-Get-clause-offers c = more_none c.args.context.classes.now _ c.args.self.now.refs c.enter_get.new.refs (ap makes c.in-Get.is) c.enter_get.ensures.offers

pub returns-in_default-clause-offers : goal.returns-in_default-clause-offers
returns-in_default-clause-offers c = on_ok_weaker c.enter_call.result
    (λ m. more_later c.args.context.classes.now _ c.args.self.now.refs c.enter_call.new.self.refs (unmade c.args.deed.now c.in_default.not-Made) m) c.enter_call.ensures.offers
