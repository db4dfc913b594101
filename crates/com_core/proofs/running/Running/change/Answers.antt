-- What holds of a core after an entry.
use Rattle.std.proofs.Common.{◌≡◌, ◌≤◌, ℕ, ◌+◌, ◌<◌, ◌^◌, List, All, ap, arith, length, vec_capacity, ◌∙◌, subst, sym}
use Rattle.com_ledger.specs.Most.{Most}
use Rattle.com_model.specs.Calls.{issues, object_of}
use Rattle.com_model.specs.Lists.{number_or_zero}
use Rattle.com_reference_moves.specs.Steps.{moves_stepped}
use Rattle.com_reference_moves.specs.Tables.{ground_at}
use Rattle.com_objects.specs.Lists.{BodyCounts, DyingList}
use Rattle.com_parts.specs.Fits.{Fits}
use Rattle.com_parts.specs.Tables.{PartTables}
use Rattle.com_state.specs.Parts.{named_at}
use Rattle.com_laws_places.specs.Moves.{Moves}
use Rattle.com_refs.specs.Counts.{holders_of}
use Rattle.com_scene.specs.Actors.{acting_of}
use Rattle.com_scene.specs.Kept.{HasSlots}
use Rattle.com_refs_rows.specs.Books.{Held}
use Rattle.com_refs_rows.specs.Entries.{AllGiven, Around, around, most_left, tally}
use Rattle.com_refs_rows.specs.Fits.{FitsBooks}
use Rattle.com_parts.specs.Fits.{sent_by}
use Rattle.com_core.specs.Changes.{Becomes, Settles}
use Rattle.com_core.specs.Making.{Booked}
use Rattle.com_core.specs.Shown.{parts_shown}
use Rattle.com_core.proofs.Made.{becomes_finished}
use Rattle.com_core.proofs.Runs.{few_run}
use Rattle.com_core.proofs.running.Running.change.Goals as goal

-- ---- the parts take the entry

pub prepare-requires-clause-deed : goal.prepare-requires-clause-deed
prepare-requires-clause-deed c = c.requires.takes.fits.deed

pub book-requires-clause-deed : goal.book-requires-clause-deed
book-requires-clause-deed c = c.requires.takes.fits.deed

pub finish_parts-requires-clause-deed : goal.finish_parts-requires-clause-deed
finish_parts-requires-clause-deed c = c.requires.takes.fits.deed

pub finish_parts-requires-clause-writes : goal.finish_parts-requires-clause-writes
finish_parts-requires-clause-writes c = c.requires.takes.writes

pub finish_parts-requires-clause-sent : goal.finish_parts-requires-clause-sent
finish_parts-requires-clause-sent c = c.requires.takes.sent

pub begin_parts-requires-clause-fits : goal.begin_parts-requires-clause-fits
begin_parts-requires-clause-fits c =
    let e = c.args.entry.now in
    subst (λ (p : PartTables). Fits p.lanes p.objects p.calls e.lane e.deed c.args.self.now.clock) (sym c.prepare.ensures.parts) c.requires.takes.fits

pub begin_parts-requires-clause-target : goal.begin_parts-requires-clause-target
begin_parts-requires-clause-target c =
    let e = c.args.entry.now in
    subst (λ (p : PartTables). named_at p.objects (object_of (issues e.lane e.deed)) + 1 < 2 ^ 32) (sym c.prepare.ensures.parts) c.requires.takes.target

pub begin_parts-requires-clause-room : goal.begin_parts-requires-clause-room
begin_parts-requires-clause-room c = subst (λ (p : PartTables). p.entries < 1_000_000) (sym c.prepare.ensures.parts) c.requires.room

-- ---- the parts

pub finish_parts-requires-clause-bodies : goal.finish_parts-requires-clause-bodies
finish_parts-requires-clause-bodies c =
    let v = c.args.self.now in
    let same : parts_shown c.book.new.self.parts ≡ parts_shown v.parts = ap parts_shown c.book.ensures.parts ∙ c.begin_parts.ensures.same ∙ ap parts_shown c.prepare.ensures.parts in
    subst (λ (t : PartTables). All HasSlots t.scene.bodies) (sym same) c.requires.sound.bodies

pub returns-clause-becomes : goal.returns-clause-becomes
returns-clause-becomes c =
    let a = c.args in
    let v = a.self.now in
    let same : parts_shown c.book.new.self.parts ≡ parts_shown v.parts = ap parts_shown c.book.ensures.parts ∙ c.begin_parts.ensures.same ∙ ap parts_shown c.prepare.ensures.parts in
    let made : Becomes v.parts c.finish_parts.new.self.parts a.entry.now (acting_of a.acting) a.outcome.now (acting_of a.basis.after) a.basis.has_filter (sent_by a.enclosed.now) v.clock =
    becomes_finished v.parts c.book.new.self.parts c.finish_parts.new.self.parts a.entry.now (acting_of a.acting) a.outcome.now (acting_of a.basis.after)
    a.basis.has_filter (sent_by a.enclosed.now) v.clock same c.finish_parts.ensures.becomes in
    subst (λ (t : PartTables). Becomes v.parts t a.entry.now (acting_of a.acting) a.outcome.now (acting_of a.basis.after) a.basis.has_filter (sent_by a.enclosed.now) v.clock) (sym c.settle.ensures.parts) made

-- ---- the running bodies and the dying objects

pub settle-requires-clause-few : goal.settle-requires-clause-few
settle-requires-clause-few c =
    let v = c.args.self.now in
    let x = c.finish_parts.new.self in
    let same : x.entered.counts ≡ v.entered.counts =
    ap (λ (e : BodyCounts). e.counts) (c.finish_parts.ensures.entered ∙ c.book.ensures.entered ∙ c.begin_parts.ensures.entered) ∙ c.prepare.ensures.entered in
    few_run v.parts.entries x.entered.counts c.requires.room (subst (λ (xs : List ℕ). Most v.parts.entries xs) (sym same) c.requires.sound.runs)

pub settle-requires-clause-dying : goal.settle-requires-clause-dying
settle-requires-clause-dying c =
    let a = c.args in
    let v = a.self.now in
    let p = c.prepare.new.self in
    let b = c.begin_parts.new.self in
    let x = c.finish_parts.new.self in
    let d = a.entry.now.deed in
    let same : parts_shown b.parts ≡ parts_shown v.parts = c.begin_parts.ensures.same ∙ ap parts_shown c.prepare.ensures.parts in
    let held : b.ledger ≡ v.ledger = c.begin_parts.ensures.ledger ∙ c.prepare.ensures.ledger in
    let most : most_left b.ledger.calls b.parts.objects d b.moves ≡ most_left v.ledger.calls v.parts.objects d p.moves =
    λ i. most_left (held i).calls (same i).objects d (c.begin_parts.ensures.moves i) in
    let books : x.ledger ≡ c.book.new.self.ledger = c.finish_parts.ensures.ledger in
    let touched : length x.ledger.touched ≡ length c.book.new.self.ledger.touched = ap (λ (w : Held). length w.touched) books in
    let spare : x.fallen.spare ≡ p.fallen.spare = ap (λ (f : DyingList). f.spare) (c.finish_parts.ensures.fallen ∙ c.book.ensures.fallen ∙ c.begin_parts.ensures.fallen) in
    omega (arith, most, touched, spare, c.in_ok-book.ensures.few, c.in_ok-prepare.ensures.dying)

pub settle-requires-clause-fresh : goal.settle-requires-clause-fresh
settle-requires-clause-fresh c =
    let a = c.args in
    let v = a.self.now in
    let p = c.prepare.new.self in
    let b = c.begin_parts.new.self in
    let x = c.finish_parts.new.self in
    let d = a.entry.now.deed in
    let same : parts_shown b.parts ≡ parts_shown v.parts = c.begin_parts.ensures.same ∙ ap parts_shown c.prepare.ensures.parts in
    let held : b.ledger ≡ v.ledger = c.begin_parts.ensures.ledger ∙ c.prepare.ensures.ledger in
    let most : most_left b.ledger.calls b.parts.objects d b.moves ≡ most_left v.ledger.calls v.parts.objects d p.moves =
    λ i. most_left (held i).calls (same i).objects d (c.begin_parts.ensures.moves i) in
    let books : x.ledger ≡ c.book.new.self.ledger = c.finish_parts.ensures.ledger in
    let touched : length x.ledger.touched ≡ length c.book.new.self.ledger.touched = ap (λ (w : Held). length w.touched) books in
    let room : vec_capacity x.fresh ≡ vec_capacity p.fresh = cc (c.finish_parts.ensures.fresh, c.book.ensures.fresh, c.begin_parts.ensures.fresh) in
    omega (arith, most, touched, room, c.in_ok-book.ensures.few, c.in_ok-prepare.ensures.fresh)

pub returns-clause-runs : goal.returns-clause-runs
returns-clause-runs c =
    let v = c.args.self.now in
    let x = c.finish_parts.new.self in
    let same : x.entered.counts ≡ v.entered.counts =
    ap (λ (e : BodyCounts). e.counts) (c.finish_parts.ensures.entered ∙ c.book.ensures.entered ∙ c.begin_parts.ensures.entered) ∙ c.prepare.ensures.entered in
    λ n most. c.settle.ensures.runs n (subst (λ (xs : List ℕ). Most n xs) (sym same) most)

pub returns-clause-fallen : goal.returns-clause-fallen
returns-clause-fallen c =
    let u = c.settle.new.self in
    subst (λ (xs : List ℕ). Settles u.parts.objects (holders_of u.ledger.tables) u.entered.counts xs u.ledger.touched c.args.entry.now.deed (acting_of c.args.acting) u.fallen.objects)
    (ap (λ (f : DyingList). f.objects) (c.finish_parts.ensures.fallen ∙ c.book.ensures.fallen ∙ c.begin_parts.ensures.fallen) ∙ c.prepare.ensures.fallen) c.settle.ensures.fallen

-- ---- the books

pub book-requires-clause-fits : goal.book-requires-clause-fits
book-requires-clause-fits c =
    subst (λ (h : Held). FitsBooks c.args.scenario.now.classes c.args.carried.now (number_or_zero c.args.seat.running) (tally h.tables h.calls) c.args.entry.now.deed) (sym (c.begin_parts.ensures.ledger ∙ c.prepare.ensures.ledger)) c.requires.fits

pub book-requires-clause-known : goal.book-requires-clause-known
book-requires-clause-known c = λ gained is.
    let a = c.args in
    let moved : c.begin_parts.new.self.moves ≡ moves_stepped (ground_at a.seat.home a.self.now.parts.objects a.self.now.parts.calls.tables) a.self.now.parts.scene (acting_of a.acting) a.outcome.now (acting_of a.basis.after) a.entry.now =
    c.begin_parts.ensures.moves ∙ c.in_ok-prepare.ensures.moves in
    subst (λ (h : Held). AllGiven a.scenario.now.classes h.tables a.entry.now.deed gained) (sym (c.begin_parts.ensures.ledger ∙ c.prepare.ensures.ledger))
    (c.requires.brings.known a.seat.home (acting_of a.basis.after) gained (is ∙ ap (λ (m : Moves). m.gained) moved))

pub book-requires-clause-gained : goal.book-requires-clause-gained
book-requires-clause-gained c =
    let a = c.args in
    subst (λ (m : Moves). length m.gained ≤ 8) (sym (c.begin_parts.ensures.moves ∙ c.in_ok-prepare.ensures.moves)) (c.requires.brings.few a.seat.home (acting_of a.basis.after))

pub returns-clause-booked : goal.returns-clause-booked
returns-clause-booked c =
    let a = c.args in
    let v = a.self.now in
    let p = c.begin_parts.new.self in
    let b = c.book.new.self in
    let d = a.entry.now.deed in
    let g : PartTables → Around = λ t. around t.calls.tables t.objects a.scenario.now.classes a.carried.now (number_or_zero a.seat.running) in
    let m : Moves = moves_stepped (ground_at a.seat.home v.parts.objects v.parts.calls.tables) v.parts.scene (acting_of a.acting) a.outcome.now (acting_of a.basis.after) a.entry.now in
    let same : parts_shown p.parts ≡ parts_shown v.parts = c.begin_parts.ensures.same ∙ ap parts_shown c.prepare.ensures.parts in
    subst (λ (h : Held). Booked (g v.parts) d m v.ledger h) (sym (c.settle.ensures.ledger ∙ c.finish_parts.ensures.ledger))
    (subst (λ (h : Held). Booked (g v.parts) d m h b.ledger) (c.begin_parts.ensures.ledger ∙ c.prepare.ensures.ledger)
    (subst (λ (k : Moves). Booked (g v.parts) d k p.ledger b.ledger) (c.begin_parts.ensures.moves ∙ c.in_ok-prepare.ensures.moves)
    (subst (λ (t : PartTables). Booked (g t) d p.moves p.ledger b.ledger) same c.in_ok-book.ensures.booked)))
