-- The entries that are kept, from the first state to the end of the history.
use Rattle.std.proofs.Common.{sym, subst, ◌∙◌, ap, arith}
use Rattle.std.proofs.lemmas.List.{reverse-append}
use Rattle.std.specs.Prelude.{◌≡◌, refl, ℕ, zero, suc, ◌+◌, ◌-◌, ◌≤◌, ◌<◌, Bool, true, cond, nat_le, List, [], ◌∷◌, ◌++◌, length, Some, None, drop, reverse}
use Rattle.com_model.specs.declared.counts.Ended.{Ended}
use Rattle.com_model.specs.declared.deeds.Entry.{Entry}
use Rattle.com_model.specs.declared.scenario.Scenario.{Scenario}
use Rattle.com_model.specs.Sight.{Sight, sight}
use Rattle.com_model.specs.Rules.{legal, next}
use Rattle.com_model.specs.Ends.{turn, ended_by, ended_as, last_after, limit, run_on, with_entry, with_turn, unless_ended, scheduled}
use Rattle.com_model.specs.Formed.{Formed}
use Rattle.com_model.specs.State.{State, StandsFor, sight_of, first_tables}
use Rattle.com_model.proofs.Whole.{first-stands}
use Rattle.com_model.proofs.Sights.{same-sight, same-next}
use Rattle.com_runtime.proofs.Runs.{stands-later}
use Rattle.com_replay.specs.declared.course.Turned.{Turned}
use Rattle.com_replay.specs.declared.course.Turned.TheVariants.{Made, Over}
use Rattle.com_replay.specs.Replays.{whole_history}
use Rattle.com_runtime.specs.Standings.{Reached, ended_now, turn_now}
use Rattle.com_replay.specs.Steps.{IsMade, IsOver, Moment, StepsTo}
use Rattle.com_runtime.proofs.Resting.{reached_by}
use Rattle.com_runtime.proofs.Limits.{below_limit, one_entry}
use Rattle.com_replay.specs.Recorded.{IsRecorded}

-- What stands between two steps: the state is that of the entries so far, and the schedule comes from them to the whole history.
pub record Recording (s : Scenario) (st : State) (picks : List ℕ) (last : ℕ) (entries : List Entry) : Type 0 where
  pub history : List Entry
  pub is : reverse entries ≡ history
  pub more : ℕ
  pub stands : StandsFor s st history
  pub count : more + length history ≡ limit s
  pub way : run_on more s history picks last ≡ whole_history s

whole-way : (s : Scenario) → run_on (limit s) s [] s.picks 0 ≡ whole_history s
unfolding whole_history
whole-way s = refl

pub recording_starts : (s : Scenario) (st : State) (tried last : ℕ) (entries : List Entry)
    → st ≡ first_tables s → tried ≡ 0 → last ≡ 0 → entries ≡ [] → Recording s st (drop tried s.picks) last entries
recording_starts s st tried last entries first t l none = record {
  history = [];
  is = ap reverse none;
  more = limit s;
  stands = subst (λ (x : State). StandsFor s x []) (sym first) (first-stands s);
  count = no-sum (limit s);
  way = ap (λ (n : ℕ). run_on (limit s) s [] (drop n s.picks) last) t ∙ ap (λ (n : ℕ). run_on (limit s) s [] s.picks n) l ∙ whole-way s;
}
  where
    no-sum : (n : ℕ) → n + 0 ≡ n
    no-sum n = omega arith

pub recording_within : (s : Scenario) (st : State) (picks : List ℕ) (last : ℕ) (entries : List Entry)
    → Recording s st picks last entries → st.entries ≤ limit s
recording_within s st picks last entries p = let c = p.count in let k = p.stands.entries in omega (arith, c, k)

pub recording_reached : (s : Scenario) (st : State) (picks : List ℕ) (last : ℕ) (entries : List Entry)
    → Formed s → Recording s st picks last entries → Reached s st
recording_reached s st picks last entries f p = reached_by s st p.history f p.stands

-- ---- the same by the tables as by the history

is-low : (k n : ℕ) → k ≤ n → nat_le k n ≡ true
is-low k n q = grind (arith, q)

ended-same : (s : Scenario) (st : State) (h : List Entry) → StandsFor s st h → length h ≤ limit s → ended_as s h ≡ ended_now s st
unfolding ended_now
ended-same s st h p q =
    ap (λ (b : Bool). cond b (ended_by s (sight s h) (length h)) None) (is-low (length h) (limit s) q)
    ∙ ap (λ (v : Sight). ended_by s v (length h)) (sym (same-sight s st h p))
    ∙ ap (ended_by s (sight_of s st)) (sym p.entries)

turn-same : (s : Scenario) (st : State) (h : List Entry) (picks : List ℕ) (last : ℕ) → StandsFor s st h → turn s (sight s h) picks last ≡ turn_now s st picks last
unfolding turn_now
turn-same s st h picks last p = ap (λ (v : Sight). turn s v picks last) (sym (same-sight s st h p))

run-more : (n : ℕ) (s : Scenario) (h : List Entry) (picks left : List ℕ) (last : ℕ) (e : Entry) → ended_as s h ≡ None → turn s (sight s h) picks last ≡ Some (record { lane = e.lane; picks = left }) → next s h e.lane ≡ Some e.deed → run_on (suc n) s h picks last ≡ run_on n s (e ∷ h) left (last_after e.lane last)
run-more n s h picks left last e a b c =
    ap (unless_ended s (run_on n s) h picks last) a
    ∙ ap (with_turn s (run_on n s) h last) b
    ∙ ap (with_entry (run_on n s) h (record { lane = e.lane; picks = left }) last) c

run-over : (n : ℕ) (s : Scenario) (h : List Entry) (picks : List ℕ) (last : ℕ) (x : Ended) → ended_as s h ≡ Some x → run_on n s h picks last ≡ h
run-over zero s h picks last x e = refl
run-over (suc n) s h picks last x e = ap (unless_ended s (run_on n s) h picks last) e

-- ---- one entry more

one-less : (n k q : ℕ) → suc n + k ≡ q → n + suc k ≡ q
one-less n k q c = omega (arith, c)

pub recording_goes_on : (s : Scenario) (m n : Moment) (e : Entry) (entries after : List Entry) → Formed s → IsMade s m n e
    → Recording s m.state m.picks m.last entries → after ≡ entries ++ (e ∷ [])
    → Recording s n.state n.picks n.last after
recording_goes_on s m n e entries after f made p kept = on p.more p.count p.way
  where
    within : length p.history ≤ limit s
    within = let c = p.count in omega (arith, c)

    goes : ended_as s p.history ≡ None
    goes = ended-same s m.state p.history p.stands within ∙ made.turn.goes_on

    turns : turn s (sight s p.history) m.picks m.last ≡ Some (record { lane = e.lane; picks = n.picks })
    turns = turn-same s m.state p.history m.picks m.last p.stands ∙ made.turn.turn

    nexts : next s p.history e.lane ≡ Some e.deed
    nexts = sym (same-next s m.state p.history e.lane p.stands) ∙ made.turn.next.deed

    stands : StandsFor s n.state (e ∷ p.history)
    stands = subst (λ (x : State). StandsFor s x (e ∷ p.history)) (sym made.turn.next.becomes) (stands-later s m.state p.history e.lane e.deed f (p.stands.lawful, nexts) p.stands)

    small : m.state.entries < limit s
    small = below_limit s m.state made.turn.goes_on (recording_within s m.state m.picks m.last entries p)

    is : reverse after ≡ e ∷ p.history
    is = ap reverse kept ∙ reverse-append entries (e ∷ []) ∙ ap (λ (h : List Entry). e ∷ h) p.is

    on : (more : ℕ) → more + length p.history ≡ limit s → run_on more s p.history m.picks m.last ≡ whole_history s → Recording s n.state n.picks n.last after
    on zero c w = absurd (let k = p.stands.entries in let b = small in omega (arith, c, k, b))
    on (suc more) c w = record {
      history = e ∷ p.history;
      is = is;
      more = more;
      stands = stands;
      count = one-less more (length p.history) (limit s) c;
      way = ap (λ (l : ℕ). run_on more s (e ∷ p.history) n.picks l) made.turn.follows ∙ sym (run-more more s p.history m.picks n.picks m.last e goes turns nexts) ∙ w;
    }

pub recording_same : (s : Scenario) (st new : State) (picks : List ℕ) (last : ℕ) (entries : List Entry) → new ≡ st → Recording s st picks last entries → Recording s new picks last entries
recording_same s st new picks last entries e r = subst (λ (x : State). Recording s x picks last entries) (sym e) r

fewer : (most a b : ℕ) → a < most → b ≡ a + 1 → most - b < most - a
fewer most a b h k = omega (arith, h, k)

pub recording_smaller : (s : Scenario) (m n : Moment) (e : Entry) (entries : List Entry)
    → IsMade s m n e → Recording s m.state m.picks m.last entries → limit s - n.state.entries < limit s - m.state.entries
recording_smaller s m n e entries made p =
    fewer (limit s) m.state.entries n.state.entries
    (below_limit s m.state made.turn.goes_on (recording_within s m.state m.picks m.last entries p))
    (one_entry s m.state n.state e.lane e made.turn.next)

-- Once a step was made, fewer entries are left by the state that the runtime has after it, too.
pub recording_smaller_at : (s : Scenario) (m n : Moment) (e : Entry) (entries : List Entry) (new : State)
    → new ≡ n.state → IsMade s m n e → Recording s m.state m.picks m.last entries → limit s - new.entries < limit s - m.state.entries
recording_smaller_at s m n e entries new same made p =
    subst (λ (x : State). limit s - x.entries < limit s - m.state.entries) (sym same) (recording_smaller s m n e entries made p)

-- ---- the end

whole-is : (s : Scenario) → whole_history s ≡ scheduled s
unfolding whole_history
whole-is s = refl

pub recording_ends : (s : Scenario) (m n : Moment) (x : Ended) (entries : List Entry)
    → IsOver s m n x → Recording s m.state m.picks m.last entries → IsRecorded s entries x
recording_ends s m n x entries over p = record {
  history = p.is ∙ sym (run-over p.more s p.history m.picks m.last x ends) ∙ p.way ∙ whole-is s;
  lawful = subst (λ (h : List Entry). legal s h) (sym p.is) p.stands.lawful;
  ended_is = ap (ended_as s) p.is ∙ ends;
}
  where
    within : length p.history ≤ limit s
    within = let c = p.count in omega (arith, c)

    ends : ended_as s p.history ≡ Some x
    ends = ended-same s m.state p.history p.stands within ∙ over.ended

-- ---- a step, where it is known what it did

pub made_of : (s : Scenario) (m n : Moment) (x : Turned) (e : Entry) → x ≡ Made → StepsTo s m n e x → IsMade s m n e
made_of s m n x e is steps = subst (λ (y : Turned). StepsTo s m n e y) is steps

pub over_of : (s : Scenario) (m n : Moment) (x : Turned) (e : Entry) (y : Ended) → x ≡ Over y → StepsTo s m n e x → IsOver s m n y
over_of s m n x e y is steps = subst (λ (z : Turned). StepsTo s m n e z) is steps
