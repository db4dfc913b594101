-- From what entries name to what the parts ask.
use Rattle.std.proofs.Common.{subst, sym, arith}
use Rattle.std.specs.Prelude.{◌≡◌, ℕ, ℤ, pos, negsuc, ◌-◌, ◌≤◌, Bool, true, false, cond, nat_lt, List, length, Option, Some, None, slice_index_or}
use Rattle.com_body.specs.declared.frame.Outcome.{Outcome}
use Rattle.com_laws_ranges.specs.Bounds.{IssuedCall, NextCall, TakesBack as OneLess, FitsParts, StepWrites}
use Rattle.com_laws_ranges.proofs.Fitting.{entry-fits}
use Rattle.com_laws_ranges.proofs.Standing.{fits-parts}
use Rattle.com_laws_ranges.proofs.Times.{time-fits}
use Rattle.com_laws_ranges.proofs.Writing.{steps-write}
use Rattle.com_calls.specs.Steps.{is_known}
use Rattle.com_model.specs.declared.deeds.Deed.{Deed}
use Rattle.com_model.specs.declared.deeds.Deed.TheVariants as deed
use Rattle.com_model.specs.declared.deeds.Entry.{Entry}
use Rattle.com_model.specs.declared.scenario.Scenario.{Scenario}
use Rattle.com_model.specs.Apartments.{home_effect}
use Rattle.com_model.specs.Ends.{limit}
use Rattle.com_model.specs.Formed.{Formed}
use Rattle.com_model.specs.State.{State, StandsFor, next_of}
use Rattle.com_model.specs.Waiting.{Posts, Delays, retries}
use Rattle.com_parts.specs.Fits.{IsBack, IsCalled, IsAimed, IsWriting}
use Rattle.com_state.specs.Parts.{CallTables, calls_of}
use Rattle.com_state.specs.After.{step_in}
use Rattle.com_laws_ranges.specs.Taken.{IsTaken}

is-back : (n : ℕ) (d : Deed) → OneLess n d → IsBack (home_effect d) n
is-back n (deed.Uninit home k) p = let e : k ≡ n - 1 = p in omega (arith, e)
is-back n _ p = tt

retry-known : (t : CallTables) (c : ℕ) (n : ℤ) → (1 ≤ c) × (c ≤ length t.issues) → is_known t (retries c n)
retry-known t c (negsuc n) p = tt
retry-known t c (pos n) p = by-test (nat_lt n 100)
  where
    by-test : (b : Bool) → is_known t (cond b (Posts c) (Delays c n))
    by-test true = p
    by-test false = p.1

is-called : (t : CallTables) (k : ℕ) (d : Deed) → IssuedCall (length t.issues) d → NextCall (length t.issues) k d → IsCalled t d
is-called t k (deed.Out c o i m r x bytes) p q = q.0
is-called t k (deed.Again c) p q = p
is-called t k (deed.Retry c n) p q = retry-known t c n p
is-called t k _ p q = tt

is-aimed : (n k : ℕ) (d : Deed) → NextCall n k d → IsAimed k d
is-aimed n k (deed.Out c o i m r x bytes) q = q.1
is-aimed n k _ q = tt

step-writes : (r : Option Outcome) → StepWrites r → IsWriting r
step-writes None p = tt
step-writes (Some r) p = p

pub taken : (s : Scenario) (st : State) (h : List Entry) (l : ℕ) (d : Deed) → Formed s → StandsFor s st h → st.entries ≤ limit s → next_of s st l ≡ Some d → IsTaken st l d
taken s st h l d f p r q b e =
    let k : FitsParts st l d = fits-parts s st h l d f p q in
    record {
      stas = k.stas;
      back = is-back (slice_index_or st.counts l 0) d k.takes;
      made = k.made;
      called = subst (λ (t : CallTables). IsCalled t d) (sym e) (is-called (calls_of st) (length st.makings) d k.issued k.called);
      aimed = is-aimed (length st.issues) (length st.makings) d k.called;
      time = time-fits s st h l d f p r q;
      deed = entry-fits s st h l d f p q;
    }

pub writes : (s : Scenario) (st : State) (e : Entry) → Formed s → IsWriting (step_in s st e)
writes s st e f = step-writes (step_in s st e) (steps-write s st e f)
