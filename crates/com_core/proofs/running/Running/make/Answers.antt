-- All that an entry changes, with what its change rests on.
use Rattle.std.proofs.Common.{◌≡◌, ℕ, OnOk, refl, sym, subst, ◌∙◌}
use Rattle.std.specs.Prelude.{Option, None}
use Rattle.com_body.specs.declared.frame.Outcome.{Outcome}
use Rattle.com_model.specs.Frames.{Actor, Nobody}
use Rattle.com_model.specs.Lists.{number_or_zero}
use Rattle.com_refs_rows.specs.Entries.{tally}
use Rattle.com_refs_rows.specs.Fits.{FitsBooks}
use Rattle.com_scene.specs.Actors.{acting_of}
use Rattle.com_view.specs.Seen.{Seen, home_seen, running_seen}
use Rattle.com_parts.specs.Fits.{Sent, sent_by}
use Rattle.com_turns.specs.Turns.{actor_later}
use Rattle.com_core.specs.Making.{Changed}
use Rattle.com_core.specs.Stands.{seen_by}
use Rattle.com_core.proofs.Runs.{entries_made, few_made, sound_made}
use Rattle.com_core.proofs.Made.{changed_made}
use Rattle.com_core.proofs.Quiet.{alone_deed, alone_none, then_ok}
use Rattle.com_core.proofs.running.Running.make.Goals as goal

-- ---- an entry that changes nothing but the calls, and that nobody's step makes

pub change_alone-requires-clause-alone : goal.change_alone-requires-clause-alone
change_alone-requires-clause-alone c = alone_deed c.args.outcome.now c.args.entry.now.deed (sym c.is_alone.ensures ∙ c.if-is_alone.true)

pub change_alone-requires-clause-fits : goal.change_alone-requires-clause-fits
change_alone-requires-clause-fits c = c.requires.takes.fits

pub returns-then-is_alone-clause-few : goal.returns-then-is_alone-clause-few
returns-then-is_alone-clause-few c =
    let m = c.change_alone.ensures in
    few_made c.change_alone.result c.args.self.now c.change_alone.new.self _ Nobody None Nobody _ None
    (then_ok c.change_alone.result (λ f. f Nobody Nobody None) m.becomes) m.err c.requires.room c.requires.few

pub returns-then-is_alone-clause-sound : goal.returns-then-is_alone-clause-sound
returns-then-is_alone-clause-sound c =
    let m = c.change_alone.ensures in
    sound_made c.change_alone.result c.args.self.now c.change_alone.new.self _ Nobody None Nobody _ None
    (then_ok c.change_alone.result (λ f. f Nobody Nobody None) m.becomes) m.bodies m.runs m.err c.requires.sound

pub returns-then-is_alone-clause-entries : goal.returns-then-is_alone-clause-entries
returns-then-is_alone-clause-entries c =
    entries_made c.change_alone.result c.args.self.now.parts c.change_alone.new.self.parts _ Nobody None Nobody _ None _
    (then_ok c.change_alone.result (λ f. f Nobody Nobody None) c.change_alone.ensures.becomes)

pub returns-then-is_alone-clause-changed : goal.returns-then-is_alone-clause-changed
returns-then-is_alone-clause-changed c =
    let s = c.args.scenario.now in
    let v = c.args.self.now in
    let u = c.change_alone.new.self in
    let e = c.args.entry.now in
    let acting : Actor = acting_of c.args.acting in
    let sent : Option Sent = sent_by c.args.enclosed.now in
    let m = c.change_alone.ensures in
    let w : Seen = seen_by s v.parts v.fallen.objects v.clock in
    let after : Actor = actor_later w e.lane e.deed in
    let x = c.change_alone.result in
    let none : c.args.outcome.now ≡ None = alone_none c.args.outcome.now e.deed (sym c.is_alone.ensures ∙ c.if-is_alone.true) in
    subst (λ (r : Option Outcome). OnOk x (Changed s v.parts u.parts v.ledger u.ledger v.entered.counts u.entered.counts v.fallen.objects u.fallen.objects v.clock e acting r c.args.carried.now sent)) (sym none)
    (changed_made x s v u e acting None after c.has_filter-has_filter.result (home_seen w e.lane) (running_seen w e.lane) c.args.carried.now sent
    (λ few there. refl) c.has_filter-has_filter.ensures refl refl
    (then_ok x (λ f. f acting after sent) m.becomes) (then_ok x (λ f. f acting) m.entered) (then_ok x (λ f. f acting) m.fallen)
    (then_ok x (λ f. f s (home_seen w e.lane) (running_seen w e.lane) c.args.carried.now acting after) m.booked))

-- ---- an entry that moves no reference, has no row in the books, and begins and ends no body

pub returns-then-is_still-clause-few : goal.returns-then-is_still-clause-few
returns-then-is_still-clause-few c =
    let m = c.change_still.ensures in
    few_made c.change_still.result c.args.self.now c.change_still.new.self _ _ _ _ _ _ m.becomes m.err c.requires.room c.requires.few

pub returns-then-is_still-clause-sound : goal.returns-then-is_still-clause-sound
returns-then-is_still-clause-sound c =
    let m = c.change_still.ensures in
    sound_made c.change_still.result c.args.self.now c.change_still.new.self _ _ _ _ _ _ m.becomes m.bodies m.runs m.err c.requires.sound

pub returns-then-is_still-clause-entries : goal.returns-then-is_still-clause-entries
returns-then-is_still-clause-entries c = entries_made c.change_still.result c.args.self.now.parts c.change_still.new.self.parts _ _ _ _ _ _ _ c.change_still.ensures.becomes

pub returns-then-is_still-clause-changed : goal.returns-then-is_still-clause-changed
returns-then-is_still-clause-changed c =
    let s = c.args.scenario.now in
    let v = c.args.self.now in
    let before = c.basis-basis in
    let m = c.change_still.ensures in
    let w : Seen = seen_by s v.parts v.fallen.objects v.clock in
    changed_made c.change_still.result s v c.change_still.new.self c.args.entry.now (acting_of c.args.acting) _ (acting_of before.result.after)
    before.result.has_filter (home_seen w c.args.entry.now.lane) (running_seen w c.args.entry.now.lane) c.args.carried.now _ before.ensures.after before.ensures.has_filter refl refl
    m.becomes m.entered m.fallen (then_ok c.change_still.result (λ f. f s (home_seen w c.args.entry.now.lane) (running_seen w c.args.entry.now.lane) c.args.carried.now) m.booked)

-- ---- every other

pub change-requires-clause-fits : goal.change-requires-clause-fits
change-requires-clause-fits c =
    let w = c.args.self.now.ledger in
    subst (λ (x : Option ℕ). FitsBooks c.args.scenario.now.classes c.args.carried.now (number_or_zero x) (tally w.tables w.calls) c.args.entry.now.deed) (sym c.seat-seat.ensures.running) c.requires.fits

pub returns-clause-few : goal.returns-clause-few
returns-clause-few c =
    let m = c.change.ensures in
    few_made c.change.result c.args.self.now c.change.new.self _ _ _ _ _ _ m.becomes m.err c.requires.room c.requires.few

pub returns-clause-sound : goal.returns-clause-sound
returns-clause-sound c =
    let m = c.change.ensures in
    sound_made c.change.result c.args.self.now c.change.new.self _ _ _ _ _ _ m.becomes m.bodies m.runs m.err c.requires.sound

pub returns-clause-entries : goal.returns-clause-entries
returns-clause-entries c = entries_made c.change.result c.args.self.now.parts c.change.new.self.parts _ _ _ _ _ _ _ c.change.ensures.becomes

pub returns-clause-changed : goal.returns-clause-changed
returns-clause-changed c =
    let before = c.basis-basis in
    let place = c.seat-seat in
    let m = c.change.ensures in
    changed_made c.change.result c.args.scenario.now c.args.self.now c.change.new.self c.args.entry.now (acting_of c.args.acting) _ (acting_of before.result.after)
    before.result.has_filter place.result.home place.result.running c.args.carried.now _ before.ensures.after before.ensures.has_filter place.ensures.home place.ensures.running
    m.becomes m.entered m.fallen m.booked
