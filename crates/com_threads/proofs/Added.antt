-- Entries that were added, and the runtime that made them.
use Rattle.std.proofs.Common.{◌≡◌, ◌⊎◌, inl, inr, ⊎_elim, Bool, false, cond, true, ℕ, ◌+◌, ◌^◌, ◌<◌, ◌≤◌, ◌==◌, List, [], ◌∷◌, ◌++◌, length, reverse, refl, sym, ap, ◌∙◌, subst, arith, append_assoc, length-append, append-nil}
use Rattle.std.specs.Prelude.{Some, None, nat_le, Result, Ok, Err, OnOk, OnErr}
use Rattle.std.proofs.lemmas.List.{reverse-append}
use Rattle.std.proofs.lemmas.List.Elements.{All-nil, All-cons, All-append, All-weaker}
use Rattle.com_model.specs.declared.counts.Counts.{Counts}
use Rattle.com_model.specs.declared.counts.Ended.{Ended}
use Rattle.com_model.specs.declared.deeds.Entry.{Entry}
use Rattle.com_model.specs.declared.scenario.Scenario.{Scenario}
use Rattle.com_model.specs.Ends.{all_counts, ended_as, ended_by, limit}
use Rattle.com_model.specs.Formed.{Formed}
use Rattle.com_model.specs.Sight.{Sight, sight}
use Rattle.com_model.specs.State.{State, StandsFor, first_tables, sight_of}
use Rattle.com_model.specs.Tables.{lanes}
use Rattle.com_model.proofs.Sights.{same-sight}
use Rattle.com_model.proofs.Whole.{first-stands}
use Rattle.com_runtime.proofs.Taken.{stands-next}
use Rattle.com_runtime.specs.Reports.{all_counts_in}
use Rattle.com_runtime.specs.Standings.{ended_now, Reached}
use Rattle.com_runtime.specs.Turns.{IsNext}
use Rattle.com_runtime.proofs.Counting.{all-counted}
use Rattle.com_runtime.proofs.Resting.{reached_by}
use Rattle.com_threads.specs.Histories.{Adds, newest_first, Written, UpToDate}

-- ---- what was added

lane_at : Entry → ℕ
lane_at e = e.lane

abbrev OfLane : ℕ → Entry → Type 0
OfLane l e = (e.lane ≡ l) ⊎ (e.lane ≡ 0)

pub adds_none : (l : ℕ) (h : List Entry) → Adds l h h
adds_none l h = ([], sym (append-nil h), All-nil (OfLane l))

pub adds_one : (l : ℕ) (h new : List Entry) (e : Entry) → e.lane ≡ l → new ≡ h ++ e ∷ [] → Adds l h new
adds_one l h new e own is = (e ∷ [], is, All-cons (OfLane l) e [] (inl own) (All-nil (OfLane l)))

pub adds_both : (l : ℕ) (a b c : List Entry) → Adds l a b → Adds l b c → Adds l a c
adds_both l a b c p q =
    (p.0 ++ q.0, q.1 ∙ ap (λ (x : List Entry). x ++ q.0) p.1 ∙ append_assoc a p.0 q.0, All-append (OfLane l) p.0 q.0 p.2 q.2)

pub adds_clock : (l : ℕ) (a b : List Entry) → Adds 0 a b → Adds l a b
adds_clock l a b p = (p.0, p.1, All-weaker (OfLane 0) (OfLane l) (λ e. ⊎_elim (λ z. inr z) (λ z. inr z)) p.0 p.2)

-- ---- the runtime

pub reached_at : (s running : Scenario) (st : State) (w : Written) → UpToDate s running st w → Reached running st
reached_at s running st w u = subst (λ (x : Scenario). Reached x st) (sym u.same) (reached_by s st (newest_first w.entries) u.formed u.stands)

pub entries_at : (s running : Scenario) (st : State) (w : Written) → UpToDate s running st w → st.entries ≡ length w.entries
entries_at s running st w u = u.stands.entries ∙ length_reversed w.entries
  where
    length_reversed : (h : List Entry) → length (reverse h) ≡ length h
    length_reversed [] = refl
    length_reversed (e ∷ h) = ap length (reverse-append (e ∷ []) h) ∙ length-append (reverse h) (e ∷ []) ∙ ap (λ (n : ℕ). n + 1) (length_reversed h) ∙ omega arith

pub first_up_to_date : (s running : Scenario) (st : State) → Formed s → running ≡ s → st ≡ first_tables s → UpToDate s running st (record { entries = []; rows = lanes s + 1 })
first_up_to_date s running st f same first = record {
  formed = f;
  same = same;
  rows = refl;
  stands = subst (λ (x : State). StandsFor s x []) (sym first) (first-stands s);
  within = omega arith;
}

-- After the next entry, written behind the others.
pub one_later : (s running later : Scenario) (st new : State) (w x : Written) (l : ℕ) (e : Entry)
    → UpToDate s running st w → later ≡ running → st.entries < limit s → IsNext running st l e new
    → x ≡ record { entries = w.entries ++ e ∷ []; rows = w.rows } → UpToDate s later new x
one_later s running later st new w x l e u same room n is =
    subst (λ (y : Written). UpToDate s later new y) (sym is) (record {
      formed = u.formed;
      same = same ∙ u.same;
      rows = u.rows;
      stands = subst (λ (h : List Entry). StandsFor s new h) (sym (reverse-append w.entries (e ∷ [])))
          (stands-next s st new (reverse w.entries) l e u.formed u.stands (subst (λ (y : Scenario). IsNext y st l e new) u.same n));
      within = let n = entries_at s running st w u in let k = length-append w.entries (e ∷ []) in omega (arith, room);
    })

-- Where nothing has changed.
pub same_later : (s running later : Scenario) (st new : State) (w : Written)
    → UpToDate s running st w → later ≡ running → new ≡ st → UpToDate s later new w
same_later s running later st new w u same kept = record {
  formed = u.formed;
  same = same ∙ u.same;
  rows = u.rows;
  stands = subst (λ (x : State). StandsFor s x (newest_first w.entries)) (sym kept) u.stands;
  within = u.within;
}

limit_by : (b : Bool) → cond b 1_000_000 200_000 < 2 ^ 32
limit_by true = omega arith
limit_by false = omega arith

-- There are few entries, and each entry's lane is one of those that are counted.
pub few_entries : (s running : Scenario) (st : State) (w : Written) → UpToDate s running st w → length w.entries < 2 ^ 32
few_entries s running st w u = let few = limit_by (s.version == 2) in let most = u.within in omega (arith, few, most)

pub row_of_next : (s running : Scenario) (st new : State) (w : Written) (l : ℕ) (e : Entry) → UpToDate s running st w → l ≤ lanes s → IsNext running st l e new → e.lane < w.rows
row_of_next s running st new w l e u low n = let rows = u.rows in let by = n.by in omega (arith, rows, by, low)

-- ---- how it ended

is_low : (k n : ℕ) → k ≤ n → nat_le k n ≡ true
is_low k n q = grind (arith, q)

pub ended_same : (s running : Scenario) (st : State) (w : Written) (x : Ended) → UpToDate s running st w → ended_now s st ≡ Some x → ended_as s (newest_first w.entries) ≡ Some x
unfolding ended_now
ended_same s running st w x u e =
    let few : length (newest_first w.entries) ≤ limit s = let n = u.stands.entries in let k = entries_at s running st w u in let m = u.within in omega arith in
    ap (λ (b : Bool). cond b (ended_by s (sight s (newest_first w.entries)) (length (newest_first w.entries))) None) (is_low _ (limit s) few)
    ∙ ap (λ (v : Sight). ended_by s v (length (newest_first w.entries))) (sym (same-sight s st (newest_first w.entries) u.stands))
    ∙ ap (ended_by s (sight_of s st)) (sym u.stands.entries)
    ∙ e

-- ---- the scenario by its name

pub at_named : (s t running : Scenario) (st : State) (w : Written) → s ≡ t → UpToDate t running st w → UpToDate s running st w
at_named s t running st w e u = subst (λ (x : Scenario). UpToDate x running st w) (sym e) u

pub named_at : (s t running : Scenario) (st : State) (w : Written) → s ≡ t → UpToDate s running st w → UpToDate t running st w
named_at s t running st w e u = subst (λ (x : Scenario). UpToDate x running st w) e u

-- ---- what is answered

pub reached_of : (s running : Scenario) (st : State) (w : Written) → UpToDate s running st w → Reached s st
reached_of s running st w u = reached_by s st (newest_first w.entries) u.formed u.stands

pub ended_told : (s running : Scenario) (st : State) (w : Written) (x : Ended) (h : List Entry) → UpToDate s running st w → ended_now s st ≡ Some x → h ≡ w.entries → ended_as s (newest_first h) ≡ Some x
ended_told s running st w x h u e is = subst (λ (k : List Entry). ended_as s (newest_first k) ≡ Some x) (sym is) (ended_same s running st w x u e)

pub counts_told : (s running : Scenario) (st : State) (w : Written) (all : List Counts) (h : List Entry) → UpToDate s running st w → all ≡ all_counts_in s st → h ≡ w.entries → all ≡ all_counts s (newest_first h)
counts_told s running st w all h u e is = subst (λ (k : List Entry). all ≡ all_counts s (newest_first k)) (sym is) (e ∙ all-counted s st (newest_first w.entries) u.stands)

-- ---- before the first entry

pub first_told : (s t running : Scenario) (st : State) (w : Written) (count : ℕ) → s ≡ t → Formed s → running ≡ s → st ≡ first_tables s → count ≡ lanes running
    → w ≡ record { entries = []; rows = count + 1 } → UpToDate t running st w
first_told s t running st w count named f same first counted is =
    named_at s t running st w named
    (subst (λ (x : Written). UpToDate s running st x) (sym (is ∙ ap (λ (k : ℕ). written_at k) (counted ∙ ap lanes same))) (first_up_to_date s running st f same first))
  where
    written_at : ℕ → Written
    written_at k = record { entries = []; rows = k + 1 }

-- A formed scenario has 25 lanes at most.
pub few_lanes : (s running : Scenario) (count : ℕ) → Formed s → running ≡ s → count ≡ lanes running → count ≤ 25
few_lanes s running count f same counted = let pool = f.pool in let threads = f.threads in let is : count ≡ lanes s = counted ∙ ap lanes same in omega arith

-- ---- what was written of an entry that was made

pub written_adds : {A E : Type 0} (r : Result A E) (l : ℕ) (w x : Written) (e : Entry) → e.lane ≡ l → OnOk r (x ≡ record { entries = w.entries ++ e ∷ []; rows = w.rows }) → OnErr r (x ≡ w) → Adds l w.entries x.entries
written_adds (Ok u) l w x e own ok err = adds_one l w.entries x.entries e own (ap (λ (y : Written). y.entries) ok)
written_adds (Err z) l w x e own ok err = subst (λ (y : Written). Adds l w.entries y.entries) (sym err) (adds_none l w.entries)

pub entries_within : (s running : Scenario) (st : State) (w : Written) → UpToDate s running st w → st.entries ≤ limit s
entries_within s running st w u = let n = entries_at s running st w u in let m = u.within in omega (arith, n, m)

pub few_passes : (s running : Scenario) (count : ℕ) → Formed s → running ≡ s → count ≡ lanes running → (0 < count + 1) × (count + 1 ≤ 64)
few_passes s running count f same counted = let few = few_lanes s running count f same counted in (omega arith, omega (arith, few))

pub few_sum : (s running : Scenario) (count : ℕ) → Formed s → running ≡ s → count ≡ lanes running → count + 1 < 2 ^ 32
few_sum s running count f same counted = let few = few_lanes s running count f same counted in omega (arith, few)
