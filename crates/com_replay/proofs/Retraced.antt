-- What stands between two entries that are made again.
use Rattle.std.proofs.Common.{ap, sym, subst, ◌∙◌, arith, append_assoc, append-nil}
use Rattle.std.proofs.lemmas.List.{reverse-append}
use Rattle.std.specs.Prelude.{◌≡◌, refl, ◌+◌, ◌<◌, ◌≤◌, true, List, [], ◌∷◌, ◌++◌, length, reverse, Option, Some, is_some}
use Rattle.com_model.specs.declared.deeds.Deed.{Deed}
use Rattle.com_model.specs.declared.deeds.Entry.{Entry}
use Rattle.com_model.specs.declared.scenario.Scenario.{Scenario}
use Rattle.com_model.specs.Rules.{legal}
use Rattle.com_model.specs.Ends.{limit, stuck}
use Rattle.com_model.specs.Formed.{Formed}
use Rattle.com_model.specs.State.{State, StandsFor, after, first_tables, next_of}
use Rattle.com_model.proofs.Sights.{same-next}
use Rattle.com_model.proofs.Whole.{first-stands}
use Rattle.com_runtime.proofs.Runs.{stands-later}
use Rattle.com_runtime.specs.declared.runtime.Standing.{Standing}
use Rattle.com_runtime.specs.Standings.{Reached, standing_of}
use Rattle.com_runtime.specs.Turns.{IsNext}
use Rattle.com_runtime.proofs.Resting.{reached_by}
use Rattle.com_waits.specs.Walks.{told}
use Rattle.com_replay.specs.Nexts.{HasNext}
use Rattle.com_replay.specs.Stuck.{IsLawful, is_stuck, is_stuck_by}
use Rattle.com_replay.proofs.StuckStates.{stands_stuck}

-- The state stands for the entries so far; with those that are left they are the whole history, which is legal.
pub record Retraced (s : Scenario) (all : List Entry) (st : State) (rest : List Entry) : Type 0 where
  pub history : List Entry
  pub stands : StandsFor s st history
  pub lawful : legal s (reverse rest ++ history)
  pub parts : told all ≡ reverse rest ++ history
  pub count : length history + length rest ≡ length all

pub starts : (s : Scenario) (all : List Entry) (st : State) → st ≡ first_tables s → IsLawful s all → Retraced s all st all
starts s all st first q = record {
  history = [];
  stands = subst (λ (x : State). StandsFor s x []) (sym first) (first-stands s);
  lawful = subst (legal s) (sym (append-nil (reverse all))) q.lawful;
  parts = sym (append-nil (reverse all));
  count = omega arith;
}

legal-behind : (s : Scenario) (xs h : List Entry) → legal s (xs ++ h) → legal s h
legal-behind s [] h q = q
legal-behind s (x ∷ xs) h q = legal-behind s xs h q.0

moved : (e : Entry) (others h : List Entry) → reverse (e ∷ others) ++ h ≡ reverse others ++ (e ∷ h)
moved e others h = ap (λ (xs : List Entry). xs ++ h) (reverse-append (e ∷ []) others) ∙ append_assoc (reverse others) (e ∷ []) h

-- The next entry in turn is the next one of its lane.
comes : (s : Scenario) (all : List Entry) (st : State) (rest others : List Entry) (e : Entry) → rest ≡ e ∷ others → (p : Retraced s all st rest)
    → legal s (reverse others ++ (e ∷ p.history))
comes s all st rest others e cut p =
    subst (legal s) (ap (λ (xs : List Entry). reverse xs ++ p.history) cut ∙ moved e others p.history) p.lawful

nexts : (s : Scenario) (all : List Entry) (st : State) (rest others : List Entry) (e : Entry) → rest ≡ e ∷ others → (p : Retraced s all st rest)
    → legal s (e ∷ p.history)
nexts s all st rest others e cut p = legal-behind s (reverse others) (e ∷ p.history) (comes s all st rest others e cut p)

pub has_next : (r s : Scenario) (all : List Entry) (st : State) (rest others : List Entry) (e : Entry) → r ≡ s → rest ≡ e ∷ others → Retraced s all st rest
    → HasNext r st e.lane
unfolding HasNext
has_next r s all st rest others e same cut p =
    subst (λ (x : Scenario). is_some (next_of x st e.lane) ≡ true) (sym same)
    (ap is_some (same-next s st p.history e.lane p.stands ∙ (nexts s all st rest others e cut p).1))

one-less : (rest others : List Entry) (e : Entry) → rest ≡ e ∷ others → length rest ≡ length others + 1
one-less rest others e cut = omega (arith, ap length cut)

pub has_room : (r s : Scenario) (all : List Entry) (st : State) (rest others : List Entry) (e : Entry) → r ≡ s → rest ≡ e ∷ others → IsLawful s all
    → Retraced s all st rest → st.entries < limit r
has_room r s all st rest others e same cut q p =
    let few : length all ≤ limit s = q.few in
    let left : length rest ≡ length others + 1 = one-less rest others e cut in
    let count : length p.history + length rest ≡ length all = p.count in
    let entries : st.entries ≡ length p.history = p.stands.entries in
    let low : st.entries < limit s = omega (arith, left, count, entries, few) in
    subst (λ (x : Scenario). st.entries < limit x) (sym same) low

pub is_reached : (r s : Scenario) (all : List Entry) (st : State) (rest : List Entry) → r ≡ s → IsLawful s all → Retraced s all st rest → Reached r st
is_reached r s all st rest same q p = subst (λ (x : Scenario). Reached x st) (sym same) (reached_by s st p.history q.formed p.stands)

same-deed : (x : Option Deed) (d e : Deed) → x ≡ Some d → x ≡ Some e → d ≡ e
same-deed x d e a b = one (sym a ∙ b)
  where
    one : Some d ≡ Some e → d ≡ e
    one q = cc

-- One entry more: the runtime made the same one.
pub goes_on : (r s : Scenario) (all : List Entry) (st new : State) (rest others : List Entry) (e made : Entry) → r ≡ s → IsLawful s all → rest ≡ e ∷ others
    → IsNext r st e.lane made new → Retraced s all st rest → Retraced s all new others
goes_on r s all st new rest others e made same given cut is p =
    let f : Formed s = given.formed in
    let q : legal s (e ∷ p.history) = nexts s all st rest others e cut p in
    let next_is : IsNext s st e.lane made new = subst (λ (x : Scenario). IsNext x st e.lane made new) same is in
    let one : made.deed ≡ e.deed = same-deed (next_of s st e.lane) made.deed e.deed next_is.deed (same-next s st p.history e.lane p.stands ∙ q.1) in
    let becomes : new ≡ after s st e.lane e.deed = next_is.becomes ∙ ap (λ (d : Deed). after s st e.lane d) one in
    let left : length rest ≡ length others + 1 = one-less rest others e cut in
    let count : length p.history + length rest ≡ length all = p.count in
    record {
      history = e ∷ p.history;
      stands = subst (λ (x : State). StandsFor s x (e ∷ p.history)) (sym becomes) (stands-later s st p.history e.lane e.deed f q p.stands);
      lawful = comes s all st rest others e cut p;
      parts = p.parts ∙ ap (λ (xs : List Entry). reverse xs ++ p.history) cut ∙ moved e others p.history;
      count = omega (arith, left, count);
    }

-- No entry is left.
no-entry : (rest : List Entry) → length rest ≡ 0 → rest ≡ []
no-entry [] e = refl
no-entry (x ∷ xs) e = absurd (omega (arith, e))

pub is_told : (r s : Scenario) (all : List Entry) (st : State) (rest : List Entry) (x : Standing) → r ≡ s → length rest ≡ 0 → x ≡ standing_of r st
    → Retraced s all st rest → is_stuck x ≡ is_stuck_by s all
unfolding is_stuck_by
is_told r s all st rest x same over is p =
    let none : rest ≡ [] = no-entry rest over in
    ap is_stuck (is ∙ ap (λ (y : Scenario). standing_of y st) same) ∙ stands_stuck s st p.history p.stands
    ∙ ap (stuck s) (sym (p.parts ∙ ap (λ (xs : List Entry). reverse xs ++ p.history) none))
