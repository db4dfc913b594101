-- There is room for the numbers of one more entry within the limit of entries, and the numbers of each action fit.
use Rattle.std.proofs.Common.{◌≡◌, ℕ, ◌+◌, ◌*◌, ◌<◌, ◌≤◌, ◌^◌, List, length, subst, sym, arith}
use Rattle.std.specs.Prelude.{Option, Some}
use Rattle.com_body.specs.declared.actions.Action.{Action}
use Rattle.com_body.specs.declared.actions.Action.TheVariants as action
use Rattle.com_body.specs.declared.frame.Outcome.{Outcome}
use Rattle.com_body.specs.declared.operands.Asked.{Asked}
use Rattle.com_body.specs.declared.operands.Asked.TheVariants as asked
use Rattle.com_refs_books.specs.Changes.{Books}
use Rattle.com_deeds.specs.Seen.{FitsNumber}
use Rattle.com_model.specs.declared.scenario.Scenario.{Scenario}
use Rattle.com_model.specs.Ends.{limit}
use Rattle.com_model.specs.Formed.{Formed, IsInterfaceNamed}
use Rattle.com_model.specs.State.{State, books_in, scene_read}
use Rattle.com_laws_ranges.specs.Bounds.{Counted}
use Rattle.com_laws_ranges.proofs.Numbers.{parameters-few}
use Rattle.com_laws_ranges.proofs.Standing.{few, limited}
use Rattle.com_laws_ranges.proofs.Writing.{Proper, ProperOut, outcome-proper}
use Rattle.com_parts.specs.Tables.{PartTables}
use Rattle.com_rules.specs.Fits.{FitsAction}
use Rattle.com_rules.specs.Room.{HasRoom}
use Rattle.com_state.specs.Parts.{CallTables, LaneTables, ObjectTables, class_at, issue_at}
use Rattle.com_turns.specs.Turns.{ActsFit, outcome_seen}
use Rattle.com_core.specs.Stands.{IsReached, Stands, seen_by}
use Rattle.com_core.proofs.Acting.{FewBytes, FewOut, outcome-few}
use Rattle.com_core.proofs.Travelling.{ActionTravels, OutTravels, outcome_travels}

small : (n m k : ℕ) → n ≤ m → m < k → k ≤ 1000000 → n + 4 ≤ 2 ^ 32
small n m k p q r = omega (arith, p, q, r)

next-small : (n m k : ℕ) → n ≤ m → m < k → k ≤ 1000000 → n + 1 < 2 ^ 32
next-small n m k p q r = omega (arith, p, q, r)

packets-small : (n m k : ℕ) → n ≤ 4 * m → m < k → k ≤ 1000000 → n + 4 < 2 ^ 32
packets-small n m k p q r = omega (arith, p, q, r)

proxies-small : (n m k : ℕ) → n ≤ 20 * m → m < k → k ≤ 1000000 → n < 2 ^ 32
proxies-small n m k p q r = omega (arith, p, q, r)

threads-small : (n : ℕ) → n ≤ 16 → n < 2 ^ 32
threads-small n p = omega (arith, p)

pub room_seen : (s : Scenario) (st : State) (p : PartTables) (b : Books) (fallen : List ℕ) (clock : ℕ) → IsReached s st → Stands st p b fallen clock → st.entries < limit s → HasRoom (seen_by s p fallen clock) b
room_seen s st p b fallen clock r h low =
    let n : Counted st st.entries = few s st r.history r.formed r.stands in
    let k : limit s ≤ 1000000 = limited s in
    record {
      stas = subst (λ (t : LaneTables). length t.stas + 4 ≤ 2 ^ 32) (sym h.lanes) (small (length st.stas) st.entries (limit s) n.stas low k);
      threads = threads-small (length s.threads) r.formed.threads.1;
      objects = subst (λ (t : ObjectTables). length t.makings + 1 < 2 ^ 32) (sym h.objects) (next-small (length st.makings) st.entries (limit s) n.objects low k);
      calls = subst (λ (t : CallTables). length t.issues + 1 < 2 ^ 32) (sym h.calls) (next-small (length st.issues) st.entries (limit s) n.calls low k);
      causes = subst (λ (t : CallTables). t.causes + 1 < 2 ^ 32) (sym h.calls) (next-small st.causes st.entries (limit s) n.causes low k);
      cookies = subst (λ (x : Books). length x.cookies + 1 < 2 ^ 32) (sym h.books) (next-small (length (books_in st).cookies) st.entries (limit s) n.cookies low k);
      packets = subst (λ (x : Books). length x.packets + 4 < 2 ^ 32) (sym h.books) (packets-small (length (books_in st).packets) st.entries (limit s) n.packets low k);
      proxies = λ a o i. subst (λ (x : Books). x.proxy a o i < 2 ^ 32) (sym h.books) (proxies-small ((books_in st).proxy a o i) st.entries (limit s) (n.proxies a o i) low k);
      few = parameters-few s r.formed;
    }

-- ---- actions

number-fits : (s : Scenario) (i : Asked) → Formed s → IsInterfaceNamed s i → FitsNumber i
number-fits s (asked.Number i) f p = let few : length s.classes.interfaces ≤ 64 = f.interfaces.few in omega (arith, p, few)
number-fits s (asked.Guid g) f p = tt

action-fits : (s : Scenario) (a : Action) → Formed s → Proper s a → FewBytes a → ActionTravels a → FitsAction a
action-fits s (action.Create slot k i) f p q t = number-fits s i f p.1
action-fits s (action.Query to held i) f p q t = number-fits s i f p.1
action-fits s (action.Raw b bytes) f p q t = omega (arith, q)
action-fits s (action.Call held i m args to) f p q t = t
action-fits s (action.Leave hr v) f p q t = t
action-fits s _ f p q t = tt

out-fits : (s : Scenario) (o : Option Outcome) (r : Outcome) → Formed s → ProperOut s o → FewOut o → OutTravels o → o ≡ Some r → FitsAction r.action
out-fits s o r f p q t e =
    action-fits s r.action f (subst (λ (x : Option Outcome). ProperOut s x) e p) (subst (λ (x : Option Outcome). FewOut x) e q)
    (subst (λ (x : Option Outcome). OutTravels x) e t)

pub acts_seen : (s : Scenario) (st : State) (p : PartTables) (b : Books) (fallen : List ℕ) (clock : ℕ) → IsReached s st → Stands st p b fallen clock
    → ActsFit (seen_by s p fallen clock)
acts_seen s st p b fallen clock r h a o e =
    out-fits s (outcome_seen (seen_by s p fallen clock) a) o r.formed
    (outcome-proper s r.formed (class_at p.objects) (issue_at p.calls.tables) (scene_read p.scene) a)
    (outcome-few s r.formed (class_at p.objects) (issue_at p.calls.tables) (scene_read p.scene) a)
    (outcome_travels s st p b fallen clock r h a) e
