-- What is answered, from what the calls below answer.
use Rattle.std.proofs.Common.{◌≡◌, ℕ, ◌<◌, ◌≤◌, ◌^◌, inl, inr, List, [], length, ap, sym, subst, ◌∙◌, arith, drop, Option}
use Rattle.com_check.specs.declared.agreement.traces.Agreed.{Agreed}
use Rattle.com_check.specs.declared.agreement.traces.Trace.{Trace}
use Rattle.com_check.specs.declared.agreement.traces.Trace.TheVariants as traces
use Rattle.com_check.specs.Agreeing.{IsAgreed, IsOther, IsRead}
use Rattle.com_check.specs.declared.judged.Judged.{Judged}
use Rattle.com_check.proofs.Agreeing.{agreed_few}
use Rattle.com_check.specs.Judging.{IsJudged, judged_text}
use Rattle.com_commands.specs.declared.statuses.Status.{Status}
use Rattle.com_commands.specs.declared.statuses.Status.TheVariants as status
use Rattle.com_commands.specs.Statuses.{Says, status_at}
use Rattle.com_deliveries.specs.declared.Delivery.{Delivery}
use Rattle.com_deliveries.specs.Delivered.{AreDeliveries}
use Rattle.com_model.specs.declared.scenario.Scenario.{Scenario}
use Rattle.com_model.specs.Ends.{limit, scheduled}
use Rattle.com_command_check.specs.declared.questions.Question.{Question}
use Rattle.com_waits.specs.Chains.{explanation_of}
use Rattle.com_waits.specs.declared.reasons.Waits.{Waits}
use Rattle.com_command_draw.specs.declared.beginning.Begun.{Begun}
use Rattle.com_command_draw.specs.Begun.{IsBegun}
use Rattle.com_command_draw.specs.Pages.{ArePointsDrawn, IsDrawn, page_of}
use Rattle.com_command_draw.specs.Traces.{IsTraceAnswer, IsTraceDrawn, IsTraceRefuted}
use Rattle.com_command_draw.proofs.Passing.{limit_few}

-- What the end of a page answers.
abbrev pub Draws : Begun → Option Waits → List Delivery → List ℕ → Type 0
Draws b w events text =
    (s : Scenario) → IsBegun s b → w ≡ explanation_of s (scheduled s) → text ≡ page_of s (scheduled s) b.ended events

-- A scenario is shared.
pub drawn_at : (s shared : Scenario) (b : Begun) (w : Option Waits) (events : List Delivery) (st : Status) (text : List ℕ)
    → shared ≡ s → IsBegun shared b → w ≡ explanation_of shared (scheduled shared) → events ≡ [] → Draws b w events text → st ≡ status_at b.ended
    → IsDrawn s st text
drawn_at s shared b w events st text is_shared begun explains none draws is =
    subst (λ (y : Scenario). IsDrawn y st text) is_shared (record {
      ends = b.ended;
      ended_is = begun.ended;
      written = draws shared begun explains ∙ ap (λ (ds : List Delivery). page_of shared (scheduled shared) b.ended ds) none;
      status_is = is;
    })

pub points_at : (s shared : Scenario) (b : Begun) (w : Option Waits) (found events : List Delivery) (st : Status) (text : List ℕ)
    → shared ≡ s → IsBegun shared b → w ≡ explanation_of shared (scheduled shared) → AreDeliveries shared (scheduled shared) found → events ≡ found
    → Draws b w events text → st ≡ status_at b.ended → ArePointsDrawn s st text
points_at s shared b w found events st text is_shared begun explains delivered same draws is =
    subst (λ (y : Scenario). ArePointsDrawn y st text) is_shared (record {
      ends = b.ended;
      ended_is = begun.ended;
      events = events;
      delivered = subst (λ (ds : List Delivery). AreDeliveries shared (scheduled shared) ds) (sym same) delivered;
      written = draws shared begun explains;
      status_is = is;
    })

-- What the page of an agreed trace is, of a scenario that is looked at.
abbrev pub DrawsTrace : Scenario → Agreed → List ℕ → Type 0
DrawsTrace s a text = (trace : List ℕ) (is : IsAgreed s trace a) → text ≡ page_of s is.text.history a.ended []

drawn_trace : (q : Question) (a : Agreed) (text : List ℕ) → IsAgreed q.scenario (drop q.from q.text) a → DrawsTrace q.scenario a text → IsTraceDrawn q text
drawn_trace q a text is draws = record {
  is = is.text;
  ends = a.ended;
  ended_is = is.ended;
  written = draws (drop q.from q.text) is;
}

-- What was read of a trace, where it is known what it is.
pub agreed_of : (s : Scenario) (trace : List ℕ) (t : Trace) (a : Agreed) → t ≡ traces.Agrees a → IsRead s trace t → IsAgreed s trace a
agreed_of s trace t a is read = subst (λ (y : Trace). IsRead s trace y) is read

-- An agreed trace has few entries.
pub agreed_short : (s : Scenario) (trace : List ℕ) (t : Trace) (a : Agreed) → t ≡ traces.Agrees a → IsRead s trace t → length a.history < 2 ^ 31
agreed_short s trace t a is read =
    let few : length a.history ≤ limit s = agreed_few s trace a (agreed_of s trace t a is read) in
    let most : limit s ≤ 1_000_000 = limit_few s in
    omega (arith, few, most)

pub differs_of : (s : Scenario) (trace : List ℕ) (t : Trace) (j : Judged) → t ≡ traces.Differs j → IsRead s trace t → IsJudged s trace j × IsOther j
differs_of s trace t j is read = subst (λ (y : Trace). IsRead s trace y) is read

-- A scenario is shared, and looked at; and so is a text.
pub traced_at : (q : Question) (shared seen : Scenario) (slice trace : List ℕ) (a : Agreed) (text : List ℕ)
    → shared ≡ q.scenario → seen ≡ shared → slice ≡ q.text → trace ≡ drop q.from slice → IsAgreed shared trace a → DrawsTrace seen a text → IsTraceDrawn q text
traced_at q shared seen slice trace a text is_shared is_seen is_slice is_trace is draws =
    drawn_trace q a text
    (subst (λ (x : Scenario). IsAgreed x (drop q.from q.text) a) is_shared
    (subst (λ (t : List ℕ). IsAgreed shared t a) (is_trace ∙ ap (λ (t : List ℕ). drop q.from t) is_slice) is))
    (subst (λ (x : Scenario). DrawsTrace x a text) (is_seen ∙ is_shared) draws)

pub refuted_at : (q : Question) (shared : Scenario) (slice trace : List ℕ) (j : Judged) (st : Status) (text : List ℕ)
    → shared ≡ q.scenario → slice ≡ q.text → trace ≡ drop q.from slice → IsJudged shared trace j × IsOther j → st ≡ status.Differs → text ≡ judged_text j
    → IsTraceAnswer q st text
refuted_at q shared slice trace j st text is_shared is_slice is_trace judged is writes =
    subst (λ (x : Status). IsTraceAnswer q x text) (sym is) (refuted q shared slice trace j text is_shared is_slice is_trace judged writes)
  where
    refuted : (q : Question) (shared : Scenario) (slice trace : List ℕ) (j : Judged) (text : List ℕ)
        → shared ≡ q.scenario → slice ≡ q.text → trace ≡ drop q.from slice → IsJudged shared trace j × IsOther j → text ≡ judged_text j → IsTraceRefuted q text
    refuted q shared slice trace j text is_shared is_slice is_trace judged writes = record {
      verdict = j;
      is = subst (λ (x : Scenario). IsJudged x (drop q.from q.text) j) is_shared
          (subst (λ (t : List ℕ). IsJudged shared t j) (is_trace ∙ ap (λ (t : List ℕ). drop q.from t) is_slice) judged.0);
      differs = judged.1;
      written = writes;
    }

-- The line of the usage goes with no want of memory.
pub usage_unwritten : (result : Status) (text : List ℕ) (held held_after : Option (List ℕ)) (faults faults_after : ℕ)
    → Says result status.Usage text held held_after faults faults_after → result ≡ status.Memory → held_after ≡ held
usage_unwritten result text held held_after faults faults_after (inl whole) is =
    let no : status.Usage ≡ status.Memory = sym whole.0 ∙ is in absurd (cc)
usage_unwritten result text held held_after faults faults_after (inr part) is =
    let no : status.WriteFault ≡ status.Memory = sym part.0 ∙ is in absurd (cc)
