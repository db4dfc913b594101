-- The parts of a core take the next entry of a lane.
use Rattle.std.proofs.Common.{◌≡◌, ℕ, ◌+◌, ◌<◌, ◌≤◌, ◌^◌, ap, sym, subst, arith}
use Rattle.std.specs.Prelude.{List, Option, Some, None}
use Rattle.com_body.specs.declared.frame.Outcome.{Outcome}
use Rattle.com_model.specs.declared.deeds.Deed.{Deed}
use Rattle.com_model.specs.declared.deeds.Deed.TheVariants as deed
use Rattle.com_model.specs.declared.deeds.Entry.{Entry}
use Rattle.com_model.specs.declared.scenario.Scenario.{Scenario}
use Rattle.com_model.specs.Calls.{issues, object_of}
use Rattle.com_model.specs.Ends.{limit}
use Rattle.com_model.specs.Formed.{Formed}
use Rattle.com_model.specs.Apartments.{next_sta}
use Rattle.com_model.specs.Objects.{named}
use Rattle.com_model.specs.Places.{Ground, ground}
use Rattle.com_model.specs.State.{State, StandsFor, ground_in, named_in, next_of, next_sta_in}
use Rattle.com_model.proofs.Kept.{legal-kept}
use Rattle.com_laws_ranges.proofs.Standing.{place}
use Rattle.com_laws_ranges.proofs.Takes.{taken, writes}
use Rattle.com_ledger.proofs.Following.{ground-is}
use Rattle.com_parts.specs.Fits.{Sent}
use Rattle.com_parts.specs.Fits.{Fits, HasIssued, IsWriting}
use Rattle.com_parts.specs.Tables.{PartTables}
use Rattle.com_refs_books.specs.Changes.{Books}
use Rattle.com_state.specs.After.{step_in}
use Rattle.com_state.specs.Parts.{LaneTables, ObjectTables, lanes_of, named_at, objects_of}
use Rattle.com_core.specs.Changes.{Takes}
use Rattle.com_core.specs.Stands.{IsReached, IsSent, Stands}

-- ---- what an Out issues

unsent : (l : ℕ) (d : Deed) → issues l d ≡ None → HasIssued d None
unsent l (deed.Out c o i m r k bytes) e = absurd (cc)
unsent l _ e = tt

some-sent : (d : Deed) (x : Sent) → HasIssued d (Some x)
some-sent (deed.Out c o i m r k bytes) x = tt
some-sent _ x = tt

issued-by : (s : Scenario) (st : State) (l : ℕ) (d : Deed) (x : Option Sent) → IsSent s st (record { lane = l; deed = d }) x → HasIssued d x
issued-by s st l d None h = unsent l d h
issued-by s st l d (Some x) h = some-sent d x

-- ---- the apartment of its target

named-low : (s : Scenario) (st : State) (h : List Entry) (o : ℕ) → Formed s → StandsFor s st h → st.entries ≤ limit s → named_in st o + 1 < 2 ^ 32
named-low s st h o f p few =
    let g : ground_in s st ≡ ground s h = ground-is s st h p in
    let same : named_in st o ≡ named h o = ap (λ (x : Ground). x.named o) g in
    let stas : next_sta_in st ≡ next_sta h = ap (λ (x : Ground). x.apartments) g in
    let low : named h o < next_sta h = (legal-kept s h f p.lawful).named o in
    let room : next_sta_in st + 1 < 2 ^ 32 = (place s st h f p few).apartments in
    omega (arith, same, stas, low, room)

-- ---- the entry

pub next_taken : (s : Scenario) (st : State) (p : PartTables) (b : Books) (fallen : List ℕ) (clock l : ℕ) (d : Deed) (r : Option Outcome) (x : Option Sent)
    → IsReached s st → Stands st p b fallen clock → st.entries ≤ limit s → next_of s st l ≡ Some d
    → r ≡ step_in s st (record { lane = l; deed = d }) → IsSent s st (record { lane = l; deed = d }) x
    → Takes p clock r x (record { lane = l; deed = d })
next_taken s st p b fallen clock l d r x reached h few n step sent =
    let e : Entry = record { lane = l; deed = d } in
    let fits : Fits (lanes_of st) (objects_of st) p.calls l d st.clock = taken s st reached.history l d reached.formed reached.stands few n p.calls h.calls in
    let o : ℕ = object_of (issues l d) in
    record {
      fits = subst (λ (t : LaneTables). Fits t p.objects p.calls l d clock) (sym h.lanes)
          (subst (λ (t : ObjectTables). Fits (lanes_of st) t p.calls l d clock) (sym h.objects)
          (subst (λ (k : ℕ). Fits (lanes_of st) (objects_of st) p.calls l d k) (sym h.clock_is) fits));
      writes = subst IsWriting (sym step) (writes s st e reached.formed);
      sent = issued-by s st l d x sent;
      target = subst (λ (t : ObjectTables). named_at t o + 1 < 2 ^ 32) (sym h.objects) (named-low s st reached.history o reached.formed reached.stands few);
    }
