-- What `points` answers, from what the calls below answer.
use Rattle.std.proofs.Common.{◌≡◌, ℕ, ◌≤◌, ◌<◌, inl, inr, List, length, refl, ap, sym, subst, ◌∙◌, Option, Some, None, arith, ◌++◌}
use Rattle.std.proofs.lemmas.Grind.{common_steps}
use Rattle.std.specs.Prelude.{◌^◌, ◌==◌, true, false, cond, is_some, nat_le, reverse}
use Rattle.com_io.specs.Faults.{Rose}
use Rattle.com_io.specs.Told.{Gains, GainsPrefix}
use Rattle.com_io.proofs.Passing.{gains_both, gains_then_prefix, prefix_of_more}
use Rattle.com_commands.specs.declared.statuses.Status.{Status}
use Rattle.com_commands.specs.declared.statuses.Status.TheVariants as status
use Rattle.com_commands.specs.Responses.{IsAnswered, GainsFront}
use Rattle.com_commands.specs.Statuses.{Says, status_at}
use Rattle.com_deliveries.specs.declared.Delivery.{Delivery}
use Rattle.com_deliveries.specs.Book.{told, deliveries_in}
use Rattle.com_deliveries.specs.Delivered.{AreDeliveries}
use Rattle.com_deliveries.specs.Tables.{AreSources}
use Rattle.com_deliveries.proofs.Lawful.{told-deliveries}
use Rattle.com_replay.specs.Replays.{whole_text}
use Rattle.com_model.specs.declared.counts.Ended.{Ended}
use Rattle.com_model.specs.declared.scenario.Scenario.{Scenario}
use Rattle.com_model.specs.Ends.{limit, ended_by, ended_as, scheduled}
use Rattle.com_model.specs.Formed.{Formed}
use Rattle.com_model.specs.Rules.{legal}
use Rattle.com_model.specs.Sight.{sight}
use Rattle.com_model.specs.declared.deeds.Entry.{Entry}
use Rattle.com_replay.specs.Recorded.{IsRecorded}
use Rattle.com_laws_safe.proofs.Schedule.{legal-end}
use Rattle.com_command_points.specs.Events.{event_lines}
use Rattle.com_command_points.specs.Playing.{AreLines, IsPlayed}

-- ---- the length of a history that has ended

within : (s : Scenario) (h : List Entry) → is_some (ended_as s h) ≡ true → length h ≤ limit s
within s h e =
    elim (nat_le (length h) (limit s)) as (λ b. nat_le (length h) (limit s) ≡ b → is_some (cond b (ended_by s (sight s h) (length h)) None) ≡ true → length h ≤ limit s) [
      | true ↦ λ z p. grind (arith, common_steps, z)
      | false ↦ λ z p. cc
    ] refl e

limit_few : (s : Scenario) → limit s ≤ 1_000_000
limit_few s = elim (s.version == 2) as (λ b. cond b 1_000_000 200_000 ≤ 1_000_000) [ true ↦ omega arith | false ↦ omega arith ]

below : (n m : ℕ) → n ≤ m → m ≤ 1_000_000 → n < 2 ^ 63
below n m p q = omega (arith, p, q)

ended_few : (s : Scenario) (h : List Entry) → is_some (ended_as s h) ≡ true → length h < 2 ^ 63
ended_few s h e = below (length h) (limit s) (within s h e) (limit_few s)

-- ---- the lines of the events of the one history

pub lines_by : (s : Scenario) (entries : List Entry) (events : List Delivery) (text : List ℕ) → AreDeliveries s (reverse entries) events
    → text ≡ event_lines events → AreLines s (reverse entries) text
lines_by s entries events text d e = record { events = events; delivered = d; lines = e }

-- There are such lines, whether or not they were made.
some_lines : (s : Scenario) (table : List (Option ℕ)) → AreSources s table → Formed s
    → AreLines s (scheduled s) (event_lines (deliveries_in (told table (scheduled s))))
some_lines s table src f = record {
  events = deliveries_in (told table (scheduled s));
  delivered = told-deliveries s table (scheduled s) src f (legal-end s).0 (ended_few s (scheduled s) (legal-end s).1);
  lines = refl;
}

some_end : (o : Option Ended) → is_some o ≡ true → (x : Ended) × (o ≡ Some x)
some_end None e = cc
some_end (Some x) e = (x, refl)

-- A front of the history's text and report is a front of an answer.
front : (s : Scenario) (table : List (Option ℕ)) (held held_after : Option (List ℕ)) → AreSources s table → Formed s
    → GainsPrefix held held_after (whole_text s) → GainsFront (IsPlayed s) held held_after
front s table held held_after src f g =
    let w : (x : Ended) × (ended_as s (scheduled s) ≡ Some x) = some_end (ended_as s (scheduled s)) ((legal-end s).1) in
    let rest : List ℕ = event_lines (deliveries_in (told table (scheduled s))) in
    record {
      status = status_at w.0;
      text = whole_text s ++ rest;
      answer = record { ends = w.0; ended_is = w.1; rest = rest; events = some_lines s table src f; written = refl; status_is = refl };
      gained = prefix_of_more held held_after (whole_text s) rest g;
    }

pub sources_of : (s : Scenario) (table rows : List (Option ℕ)) → rows ≡ table → (Formed s → AreSources s table) → Formed s → AreSources s rows
sources_of s table rows e src f = subst (λ (t : List (Option ℕ)). AreSources s t) (sym e) (src f)

-- ---- the answers

pub played_nothing : (s : Scenario) (held held_after : Option (List ℕ)) (faults faults_after : ℕ) → held_after ≡ held
    → IsAnswered (IsPlayed s) status.Memory held held_after faults faults_after
played_nothing s held held_after faults faults_after e = inr (inr (refl, inl e))

pub played_fault : (s : Scenario) (table : List (Option ℕ)) (held held_after : Option (List ℕ)) (faults faults_after : ℕ)
    → AreSources s table → Formed s → Rose faults faults_after → GainsPrefix held held_after (whole_text s)
    → IsAnswered (IsPlayed s) status.WriteFault held held_after faults faults_after
played_fault s table held held_after faults faults_after src f rose g = inr (inl (refl, rose, front s table held held_after src f g))

pub played_memory : (s : Scenario) (table : List (Option ℕ)) (held held_after : Option (List ℕ)) (faults faults_after : ℕ)
    → AreSources s table → Formed s → GainsPrefix held held_after (whole_text s)
    → IsAnswered (IsPlayed s) status.Memory held held_after faults faults_after
played_memory s table held held_after faults faults_after src f g = inr (inr (refl, inr (front s table held held_after src f g)))

rose_more : (a b c : ℕ) → a ≤ b → Rose b c → Rose a c
rose_more a b c h (inl r) = inl (omega (arith, h, r))
rose_more a b c h (inr r) = inr r

played : (s : Scenario) (ends : Ended) (rest : List ℕ) → ended_as s (scheduled s) ≡ Some ends → AreLines s (scheduled s) rest → IsPlayed s (status_at ends) (whole_text s ++ rest)
played s ends rest e lines = record { ends = ends; ended_is = e; rest = rest; events = lines; written = refl; status_is = refl }

-- The lines of events behind the history's text and report.
pub played_said : (s : Scenario) (ends : Ended) (rest : List ℕ) (result : Status) (held mid held_after : Option (List ℕ)) (faults between faults_after : ℕ)
    → ended_as s (scheduled s) ≡ Some ends → AreLines s (scheduled s) rest → Gains held mid (whole_text s) → faults ≤ between
    → Says result (status_at ends) rest mid held_after between faults_after → IsAnswered (IsPlayed s) result held held_after faults faults_after
played_said s ends rest result held mid held_after faults between faults_after e lines g few (inl whole) = inl (record {
  text = whole_text s ++ rest;
  answer = subst (λ (x : Status). IsPlayed s x (whole_text s ++ rest)) (sym whole.0) (played s ends rest e lines);
  gained = gains_both held mid held_after (whole_text s) rest g whole.1;
})
played_said s ends rest result held mid held_after faults between faults_after e lines g few (inr part) = inr (inl (
  part.0,
  rose_more faults between faults_after few part.1,
  record {
    status = status_at ends;
    text = whole_text s ++ rest;
    answer = played s ends rest e lines;
    gained = gains_then_prefix held mid held_after (whole_text s) rest g part.2;
  },
))

-- How the entries that were kept have ended is how the one history has ended.
pub recorded_ends : (s : Scenario) (entries : List Entry) (ends : Ended) → IsRecorded s entries ends → ended_as s (scheduled s) ≡ Some ends
recorded_ends s entries ends r = subst (λ (h : List Entry). ended_as s h ≡ Some ends) r.history r.ended_is

-- The lines of the events of the entries that were kept are those of the one history.
pub recorded_lines : (s : Scenario) (table : List (Option ℕ)) (entries rows : List Entry) (ends : Ended) (text : List ℕ) → rows ≡ entries → IsRecorded s entries ends
    → AreSources s table → Formed s
    → ((x : Scenario) → AreSources x table → Formed x → legal x (reverse rows) → length (reverse rows) < 2 ^ 63 → AreLines x (reverse rows) text)
    → AreLines s (scheduled s) text
recorded_lines s table entries rows ends text e r src f g =
    let h : reverse rows ≡ scheduled s = ap (λ (es : List Entry). reverse es) e ∙ r.history in
    subst (λ (y : List Entry). AreLines s y text) h
    (g s src f (subst (λ (y : List Entry). legal s y) (sym h) (legal-end s).0)
    (subst (λ (y : List Entry). length y < 2 ^ 63) (sym h) (ended_few s (scheduled s) (legal-end s).1)))
