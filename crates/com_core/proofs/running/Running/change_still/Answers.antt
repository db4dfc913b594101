-- What holds of a core after an entry that moves no reference, has no row in the books, and begins and ends no body.
use Rattle.std.proofs.Common.{◌≡◌, List, [], All, ap, ◌∙◌, subst, sym}
use Rattle.com_ledger.specs.Quiet.{LeavesBooks, calls_passed}
use Rattle.com_model.specs.Lists.{number_or_zero}
use Rattle.com_laws_places.specs.Moves.{Moves}
use Rattle.com_objects.specs.Lists.{BodyCounts, DyingList}
use Rattle.com_reference_moves.specs.Steps.{moves_stepped}
use Rattle.com_reference_moves.specs.Tables.{ground_at}
use Rattle.com_refs.specs.Counts.{holders_of}
use Rattle.com_refs_rows.specs.declared.calls.CallPackets.{CallPackets}
use Rattle.com_refs_rows.specs.Books.{Held}
use Rattle.com_refs_rows.specs.Entries.{Around, around}
use Rattle.com_scene.specs.Actors.{acting_of}
use Rattle.com_scene.specs.Kept.{HasSlots}
use Rattle.com_parts.specs.Tables.{PartTables}
use Rattle.com_parts.specs.Fits.{sent_by}
use Rattle.com_core.specs.Making.{Booked}
use Rattle.com_core.specs.Quiet.{Still}
use Rattle.com_core.proofs.Made.{becomes_finished}
use Rattle.com_core.proofs.Quiet.{still_booked, still_entry, still_most, still_settles}
use Rattle.com_core.proofs.running.Running.change_still.Goals as goal

-- ---- the parts take the entry

pub begin_parts-requires-clause-fits : goal.begin_parts-requires-clause-fits
begin_parts-requires-clause-fits c = c.requires.takes.fits

pub finish_parts-requires-clause-sent : goal.finish_parts-requires-clause-sent
finish_parts-requires-clause-sent c = c.requires.takes.sent

pub begin_parts-requires-clause-target : goal.begin_parts-requires-clause-target
begin_parts-requires-clause-target c = c.requires.takes.target

pub finish_parts-requires-clause-deed : goal.finish_parts-requires-clause-deed
finish_parts-requires-clause-deed c = c.requires.takes.fits.deed

pub finish_parts-requires-clause-writes : goal.finish_parts-requires-clause-writes
finish_parts-requires-clause-writes c = c.requires.takes.writes

-- ---- the parts

pub finish_parts-requires-clause-bodies : goal.finish_parts-requires-clause-bodies
finish_parts-requires-clause-bodies c =
    subst (λ (t : PartTables). All HasSlots t.scene.bodies) (sym c.begin_parts.ensures.same) c.requires.sound.bodies

pub returns-clause-becomes : goal.returns-clause-becomes
returns-clause-becomes c =
    let a = c.args in
    let v = a.self.now in
    becomes_finished v.parts c.begin_parts.new.self.parts c.finish_parts.new.self.parts a.entry.now (acting_of a.acting) a.outcome.now (acting_of a.basis.after)
    a.basis.has_filter (sent_by a.enclosed.now) v.clock c.begin_parts.ensures.same c.finish_parts.ensures.becomes

-- ---- the running bodies and the dying objects

pub returns-clause-runs : goal.returns-clause-runs
returns-clause-runs c =
    let v = c.args.self.now in
    let x = c.finish_parts.new.self in
    let same : x.entered.counts ≡ v.entered.counts = ap (λ (e : BodyCounts). e.counts) (c.finish_parts.ensures.entered ∙ c.begin_parts.ensures.entered) in
    λ n most. still_most n v.entered.counts x.entered.counts same most

pub returns-clause-entered : goal.returns-clause-entered
returns-clause-entered c =
    let a = c.args in
    let v = a.self.now in
    let x = c.finish_parts.new.self in
    let still : Still v.parts v.ledger (acting_of a.acting) a.outcome.now (acting_of a.basis.after) a.entry.now =
    still_entry v.parts v.ledger (acting_of a.acting) a.outcome.now (acting_of a.basis.after) a.entry.now c.requires.still in
    let same : x.entered.counts ≡ v.entered.counts = ap (λ (e : BodyCounts). e.counts) (c.finish_parts.ensures.entered ∙ c.begin_parts.ensures.entered) in
    same ∙ sym (still.bodies v.entered.counts)

pub returns-clause-fallen : goal.returns-clause-fallen
returns-clause-fallen c =
    let a = c.args in
    let v = a.self.now in
    let x = c.finish_parts.new.self in
    let still : Still v.parts v.ledger (acting_of a.acting) a.outcome.now (acting_of a.basis.after) a.entry.now =
    still_entry v.parts v.ledger (acting_of a.acting) a.outcome.now (acting_of a.basis.after) a.entry.now c.requires.still in
    let touched : x.ledger.touched ≡ [] = ap (λ (w : Held). w.touched) c.finish_parts.ensures.ledger ∙ c.in_ok-pass.ensures.touched in
    let fallen : x.fallen.objects ≡ v.fallen.objects = ap (λ (f : DyingList). f.objects) (c.finish_parts.ensures.fallen ∙ c.begin_parts.ensures.fallen) in
    still_settles x.parts.objects (holders_of x.ledger.tables) x.entered.counts v.fallen.objects x.ledger.touched a.entry.now.deed (acting_of a.acting) x.fallen.objects
    (still.other _) still.finals_none touched fallen

-- ---- the books

pub returns-clause-booked : goal.returns-clause-booked
returns-clause-booked c = λ s home running carried.
    let a = c.args in
    let v = a.self.now in
    let d = a.entry.now.deed in
    let b = c.begin_parts.new.self.ledger in
    let y = c.pass.new.self in
    let g : Around = around v.parts.calls.tables v.parts.objects s.classes carried (number_or_zero running) in
    let m : Moves = moves_stepped (ground_at home v.parts.objects v.parts.calls.tables) v.parts.scene (acting_of a.acting) a.outcome.now (acting_of a.basis.after) a.entry.now in
    let still : Still v.parts v.ledger (acting_of a.acting) a.outcome.now (acting_of a.basis.after) a.entry.now =
    still_entry v.parts v.ledger (acting_of a.acting) a.outcome.now (acting_of a.basis.after) a.entry.now c.requires.still in
    let leaves : LeavesBooks g d b.tables b.calls y.calls =
    subst (λ (cs : List CallPackets). LeavesBooks g d b.tables b.calls cs) (sym c.in_ok-pass.ensures.calls)
    (subst (λ (h : Held). LeavesBooks g d h.tables h.calls (calls_passed d h.calls)) (sym c.begin_parts.ensures.ledger) (still.books g)) in
    let passed : Booked g d m b y =
    still_booked g d b y m (still.moves home) leaves.makes_none c.pass.ensures.tables c.in_ok-pass.ensures.touched (c.in_ok-pass.ensures.applies g leaves) c.pass.ensures.totals in
    subst (λ (h : Held). Booked g d m v.ledger h) (sym c.finish_parts.ensures.ledger) (subst (λ (h : Held). Booked g d m h y) c.begin_parts.ensures.ledger passed)
