use Rattle.std.proofs.Common.{◌≡◌, ◌+◌, ◌<◌, ◌^◌, length, sym, subst}
use Rattle.com_model.specs.Calls.{issues, object_of}
use Rattle.com_scene.specs.Actors.{acting_of}
use Rattle.com_state.specs.Parts.{named_at}
use Rattle.com_parts.specs.Fits.{Fits}
use Rattle.com_parts.specs.Tables.{PartTables}
use Rattle.com_parts.proofs.Starts.{begun_is, then_ok}
use Rattle.com_parts.proofs.parts.Parts.begin.Goals as goal

pub reserve-requires-clause-target : goal.reserve-requires-clause-target
reserve-requires-clause-target c =
    let e = c.args.change.now.entry in
    subst (λ (p : PartTables). named_at p.objects (object_of (issues e.lane e.deed.now)) + 1 < 2 ^ 32) (sym c.self.view_is) c.requires.target

pub returns-clause-begun : goal.returns-clause-begun
returns-clause-begun c =
    let e = c.args.change.now.entry in
    let clock = c.args.change.now.clock in
    let fits : Fits c.self.inside.lanes.tables c.self.inside.objects.tables c.self.inside.calls e.lane e.deed.now clock =
    subst (λ (p : PartTables). Fits p.lanes p.objects p.calls e.lane e.deed.now clock) (sym c.self.view_is) c.requires.fits in
    then_ok c.prepare.result
    (λ ready. begun_is c.self.inside.lanes c.reserve.new.lanes c.self.inside.objects c.reserve.new.objects c.self.inside.calls c.reserve.new.calls c.prepare.new.self
    c.keep_owners.new.owners.items c.self.inside.entries
    e.lane clock c.reserve.new.calls.room c.reserve.new.calls.inboxes (acting_of e.acting) (acting_of e.after) e.deed.now
    c.in_ok-reserve.ensures.lanes c.in_ok-reserve.ensures.objects c.in_ok-reserve.ensures.calls
    fits
    (subst (λ (p : PartTables). p.entries < 2 ^ 28) (sym c.self.view_is) c.requires.few)
    (subst (λ (p : PartTables). length p.calls.apartments ≡ length p.calls.tables.issues) (sym c.self.view_is) c.homes.ensures)
    c.in_ok-reserve.ensures.space c.in_ok-reserve.ensures.row c.in_ok-reserve.ensures.place ready c.in_ok-keep_owners.ensures)
    c.prepare.ensures.ready
