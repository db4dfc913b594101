-- The servant that steps in a lane is that of the kind of class whose body is innermost there, by the parts as by the state.
use Rattle.std.proofs.Common.{◌≡◌, ℕ, zero, suc, ◌≤◌, refl, ap, ◌∙◌, arith}
use Rattle.std.specs.Prelude.{List, Result, Ok, Err, OnOk}
use Rattle.com_model.specs.declared.scenario.Scenario.{Scenario}
use Rattle.com_model.specs.Lists.{first}
use Rattle.com_model.specs.State.{State, class_in, openers_in}
use Rattle.com_runtime.specs.Turns.{body_kind, served_in}
use Rattle.com_turns.specs.Turns.{kind_seen}
use Rattle.com_core.specs.Seen.{CoreView, core_state}
use Rattle.com_core.specs.Stands.{seen_by}
use Rattle.com_servant.specs.Rows.{one_served}

pub served_read : (s : Scenario) (st : State) (l : ℕ) (steps : List ℕ) → 1 ≤ l
    → one_served (body_kind s (class_in st) (first (openers_in st l))) steps ≡ served_in s st l steps
unfolding served_in
served_read s st zero steps h = absurd (omega (arith, h))
served_read s st (suc l) steps h = refl

pub served_core : {E F : Type 0} (r : Result E F) (w : Scenario) (v c : CoreView) (l : ℕ) (old new : List ℕ) → w ≡ v.scenario → v ≡ c → 1 ≤ l
    → OnOk r (new ≡ one_served (kind_seen (seen_by w v.parts v.fallen v.clock) l) old) → OnOk r (new ≡ served_in c.scenario (core_state c) l old)
served_core (Ok e) w v c l old new same is h q =
    q ∙ ap (λ (s : Scenario). one_served (kind_seen (seen_by s v.parts v.fallen v.clock) l) old) same
    ∙ served_read v.scenario (core_state v) l old h ∙ ap (λ (x : CoreView). served_in x.scenario (core_state x) l old) is
served_core (Err e) w v c l old new same is h q = tt
