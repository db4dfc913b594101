-- A core that is whole, and whose ledger is tied to its state, stays so by each entry.
use Rattle.std.proofs.Common.{◌≡◌, ℕ, refl, sym, ap, subst}
use Rattle.std.specs.Prelude.{Result, Ok, Err, OnErr, OnOk}
use Rattle.com_model.specs.declared.deeds.Entry.{Entry}
use Rattle.com_model.specs.declared.scenario.Scenario.{Scenario}
use Rattle.com_model.specs.Clock.{ticked}
use Rattle.com_model.specs.State.{State, after}
use Rattle.com_ledger.specs.Ties.{Ties}
use Rattle.com_runtime.specs.Turns.{IsNext}
use Rattle.com_core.specs.declared.running.Running.{Running}
use Rattle.com_core.specs.Making.{TiesLater}
use Rattle.com_core.specs.Seen.{CoreView, IsAsBefore, IsFirst, IsKept, IsWhole, Steps, TurnsTo, core_of, core_state, kept_of}
use Rattle.com_core.proofs.Entries.{steps_stand}
use Rattle.com_core.specs.Shown.{held_shown}
use Rattle.com_core.proofs.Shown.{as_kept, core_alike, state_shown, steps_shown, ties_kept, whole_kept}

pub steps_kept : (lane : ℕ) (old new : CoreView) (e : Entry) → IsKept old → Steps lane old new e → new.scenario ≡ old.scenario → new.clock ≡ ticked e.deed old.clock
    → (core_state new ≡ after old.scenario (core_state old) lane e.deed) × IsKept new
steps_kept lane old new e k m same tells =
    let t : TiesLater old.scenario (core_state old) lane e.deed new.held = m.tied k.ties in
    let r : (core_state new ≡ after old.scenario (core_state old) lane e.deed) × IsWhole new = steps_stand lane old new e k.whole m same tells t.books in (
      r.0,
      record {
        whole = r.1;
        ties = subst (λ (s : Scenario). Ties s (core_state new) new.held) (sym same) (subst (λ (x : State). Ties old.scenario x new.held) (sym r.0) t.ties);
      },
    )

pub first_kept : (s : Scenario) (c : CoreView) → c.scenario ≡ s → IsFirst s c → IsKept c
first_kept s c e f = record {
  whole = f.whole;
  ties = subst (λ (x : Scenario). Ties x (core_state c) c.held) (sym e) (subst (λ (st : State). Ties s st c.held) (sym f.state) f.ties);
}

pub same_state : (old new : CoreView) → new ≡ old → core_state new ≡ core_state old
same_state old new e = ap core_state e

-- ---- a core by what it keeps

-- A core is whole in what it keeps, whichever scenario that is told of, if it is the core's.
pub whole_held : (w s : Scenario) (r : Running) → w ≡ s → IsKept (core_of s r) → IsWhole (kept_of w r)
whole_held w s r same k = subst (λ (y : Scenario). IsWhole (kept_of y r)) (sym same) (whole_kept (kept_of s r) k.whole)

-- And its ledger is tied to its state.
pub ties_held : (w s : Scenario) (r : Running) → w ≡ s → IsKept (core_of s r) → Ties w (core_state (kept_of w r)) r.ledger
ties_held w s r same k =
    subst (λ (y : Scenario). Ties y (core_state (kept_of y r)) r.ledger) (sym same)
    (ties_kept s (core_state (kept_of s r)) r.ledger (subst (λ (x : State). Ties s x (held_shown r.ledger)) (state_shown (kept_of s r)) k.ties))

-- What holds of a core's scenario and state holds of what it keeps, whichever scenario that is told of.
pub as_held : (P : Scenario → State → Type 0) (w s : Scenario) (r : Running) (x : CoreView) → w ≡ s → core_of s r ≡ x → P x.scenario (core_state x) → P w (core_state (kept_of w r))
as_held P w s r x same e p = subst (λ (y : Scenario). P y (core_state (kept_of y r))) (sym same) (as_kept P s r x e p)

-- Where what a core keeps is as it was but for room, the core is as it was.
pub same_core : {E F : Type 0} (x : Result E F) (s : Scenario) (r u : Running) → OnErr x (IsAsBefore r u) → OnErr x (core_of s u ≡ core_of s r)
same_core (Ok e) s r u a = tt
same_core (Err e) s r u a = core_alike s r u a

-- ---- after an entry

-- What an entry makes of what a core keeps, it makes of the core.
pub steps_turned : (lane : ℕ) (s : Scenario) (r u : Running) (e : Entry) → TurnsTo s lane r u e → Steps lane (core_of s r) (core_of s u) e
steps_turned lane s r u e t = steps_shown lane (kept_of s r) (kept_of s u) e t.steps

pub kept_turned : (lane : ℕ) (s : Scenario) (r u : Running) (e : Entry) → IsKept (core_of s r) → TurnsTo s lane r u e → IsKept (core_of s u)
kept_turned lane s r u e k t = (steps_kept lane (core_of s r) (core_of s u) e k (steps_turned lane s r u e t) refl t.tells).1

-- It is the next entry of the lane.
pub next_turned : (lane : ℕ) (s : Scenario) (r u : Running) (e : Entry) → IsKept (core_of s r) → TurnsTo s lane r u e → IsNext s (core_state (core_of s r)) lane e (core_state (core_of s u))
next_turned lane s r u e k t = record {
  by = t.own;
  deed = (steps_turned lane s r u e t).next;
  becomes = (steps_kept lane (core_of s r) (core_of s u) e k (steps_turned lane s r u e t) refl t.tells).0;
}

-- An entry that is taken is the one that was made.
pub next_taken : (s : Scenario) (st : State) (lane : ℕ) (e d : Entry) (v w : CoreView) → d ≡ e → w ≡ v → IsNext s st lane e (core_state v) → IsNext s st lane d (core_state w)
next_taken s st lane e d v w same is n = subst (λ (x : Entry). IsNext s st lane x (core_state w)) (sym same) (subst (λ (x : CoreView). IsNext s st lane e (core_state x)) (sym is) n)

-- ---- the same of an answer, for which what a core keeps is told of a scenario that is the core's

pub turned_by : {A E : Type 0} (x : Result A E) (lane : ℕ) (w s : Scenario) (r u : Running) (e : Entry) → w ≡ s → OnOk x (TurnsTo w lane r u e) → OnOk x (TurnsTo s lane r u e)
turned_by x lane w s r u e same t = subst (λ (y : Scenario). OnOk x (TurnsTo y lane r u e)) same t

pub kept_after : {A E : Type 0} (x : Result A E) (lane : ℕ) (s : Scenario) (r u : Running) (e : Entry) → IsKept (core_of s r) → OnOk x (TurnsTo s lane r u e) → OnErr x (IsAsBefore r u) → IsKept (core_of s u)
kept_after (Ok y) lane s r u e k t err = kept_turned lane s r u e k t
kept_after (Err y) lane s r u e k t err = subst IsKept (sym (core_alike s r u err)) k

pub next_after : {A E : Type 0} (x : Result A E) (lane : ℕ) (s : Scenario) (r u : Running) (e : Entry) → IsKept (core_of s r) → OnOk x (TurnsTo s lane r u e)
    → OnOk x (IsNext s (core_state (core_of s r)) lane e (core_state (core_of s u)))
next_after (Ok y) lane s r u e k t = next_turned lane s r u e k t
next_after (Err y) lane s r u e k t = tt

pub steps_after : {A E : Type 0} (x : Result A E) (lane : ℕ) (s : Scenario) (r u : Running) (e : Entry) → OnOk x (TurnsTo s lane r u e) → OnOk x (Steps lane (core_of s r) (core_of s u) e)
steps_after (Ok y) lane s r u e t = steps_turned lane s r u e t
steps_after (Err y) lane s r u e t = tt
