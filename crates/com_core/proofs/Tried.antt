-- A lane that is tried can step where it made its entry.
use Rattle.std.proofs.Common.{◌≡◌, ℕ, zero, suc, ◌≤◌, refl, ap, sym, subst, ◌∙◌}
use Rattle.std.specs.Prelude.{Bool, true, false, List, [], ◌∷◌, Option, Some, None, is_some, option_map, Result, Ok, Err, IfOk, OnErr, OnOk}
use Rattle.com_body.specs.declared.frame.Outcome.{Outcome}
use Rattle.com_calls.specs.Kept.{IsNamed}
use Rattle.com_model.specs.declared.deeds.Deed.{Deed}
use Rattle.com_model.specs.declared.deeds.Entry.{Entry}
use Rattle.com_model.specs.declared.keeps.Opener.{Opener}
use Rattle.com_model.specs.declared.keeps.Opener.TheVariants.{Pumps, Waits, Enters}
use Rattle.com_model.specs.declared.scenario.Scenario.{Scenario}
use Rattle.com_model.specs.Deeds.{deed_of}
use Rattle.com_model.specs.Frames.{act_by, actor}
use Rattle.com_model.specs.Lists.{first}
use Rattle.com_model.specs.Rules.{lane_next, stepped}
use Rattle.com_model.specs.Sight.{Sight}
use Rattle.com_model.specs.State.{State, class_in, issue_in, openers_in, scene_in, sight_of}
use Rattle.com_model.specs.Tables.{lane_sort}
use Rattle.com_parts.specs.Tables.{PartTables}
use Rattle.com_refs_books.specs.Changes.{Books}
use Rattle.com_runtime.specs.Standings.{can_step_in}
use Rattle.com_runtime.specs.Turns.{body_kind, served_in}
use Rattle.com_schedule.specs.Tried.{Tried}
use Rattle.com_servant.specs.Rows.{one_served}
use Rattle.com_turns.specs.declared.turns.Turn.{Turn}
use Rattle.com_turns.specs.Turns.{IsNext, kind_seen}
use Rattle.com_view.specs.Seen.{Seen, sight_by}
use Rattle.com_view.proofs.Sights.{reads_state as sight_read}
use Rattle.com_core.specs.declared.running.Running.{Running}
use Rattle.com_core.specs.Seen.{CoreView, IsAsBefore, IsKept, Steps, TriesTo, core_of, core_state}
use Rattle.com_core.specs.Stands.{IsReached, Stands, seen_by}
use Rattle.com_core.proofs.Entries.{reads_state}
use Rattle.com_core.proofs.Kept.{kept_turned, next_turned, steps_turned}
use Rattle.com_core.proofs.Served.{served_core}
use Rattle.com_core.proofs.Shown.{core_alike}

-- ---- whether a lane can step

made-can : (w : Seen) (b : Books) (l : ℕ) (r : Option Outcome) (x : Option Turn) → IsNext w b l r x → is_some x ≡ is_some (lane_next w.scenario (sight_by w b) l)
made-can w b l r None n = sym (ap (λ (d : Option Deed). is_some d) n)
made-can w b l r (Some t) n = sym (ap (λ (d : Option Deed). is_some d) n.next)

pub turn_tells : (s : Scenario) (st : State) (p : PartTables) (b : Books) (fallen : List ℕ) (clock l : ℕ) (r : Option Outcome) (x : Option Turn) → IsReached s st → Stands st p b fallen clock
    → IsNamed p.objects p.calls → IsNext (seen_by s p fallen clock) b l r x → is_some x ≡ can_step_in s st l
unfolding can_step_in
turn_tells s st p b fallen clock l r x reached h n t =
    made-can (seen_by s p fallen clock) b l r x t
    ∙ ap (λ (v : Sight). is_some (lane_next s v l)) (sym (sight_read (seen_by s p fallen clock) b st (reads_state s st p b fallen clock reached h n)))

-- ---- a lane that cannot step runs no body

rests-by : (s : Scenario) (st : State) (l : ℕ) (steps : List ℕ) (os : List Opener) → openers_in st l ≡ os → is_some (lane_next s (sight_of s st) l) ≡ false
    → one_served (body_kind s (class_in st) (first os)) steps ≡ steps
rests-by s st l steps [] e f = refl
rests-by s st l steps (Pumps n ∷ os) e f = refl
rests-by s st l steps (Waits c ∷ os) e f = refl
rests-by s st l steps (Enters c o a ∷ os) e f =
    let goes : is_some (lane_next s (sight_of s st) l) ≡ true =
    ap (λ (xs : List Opener). is_some (stepped s (sight_of s st) l (first xs))) e
    ∙ ap (λ (xs : List Opener). is_some (option_map (deed_of s (sight_of s st) l) (act_by s (class_in st) (issue_in st) (scene_in st) (actor (lane_sort s l) l xs)))) e in
    absurd (both (is_some (lane_next s (sight_of s st) l)) goes f)
  where
    both : (b : Bool) → b ≡ true → b ≡ false → ⊥
    both b p q = cc

rests-served : (s : Scenario) (st : State) (l : ℕ) (steps : List ℕ) → can_step_in s st l ≡ false → served_in s st l steps ≡ steps
unfolding can_step_in served_in
rests-served s st zero steps f = refl
rests-served s st (suc l) steps f = rests-by s st (suc l) steps (openers_in st (suc l)) refl f

-- ---- a core whose lane was tried

one-tried : (lane : ℕ) (s : Scenario) (can : Bool) (r u : Running) (e : Entry) (a b : List ℕ) → IsKept (core_of s r) → 1 ≤ lane → TriesTo s lane can r u e
    → can ≡ can_step_in s (core_state (core_of s r)) lane → b ≡ served_in s (core_state (core_of s r)) lane a
    → Tried s (core_state (core_of s r)) lane can e (core_state (core_of s u)) a b
one-tried lane s true r u e a b k low t can served = record { next = next_turned lane s r u e k t; steps_are = served }
one-tried lane s false r u e a b k low t can served = record {
  state = ap (λ (v : CoreView). core_state v) (core_alike s r u t);
  steps_are = served ∙ rests-served s (core_state (core_of s r)) lane a (sym can);
}

pub tried_after : {E : Type 0} (x : Result Bool E) (lane : ℕ) (s : Scenario) (r u : Running) (e : Entry) (a b : List ℕ) → IsKept (core_of s r) → 1 ≤ lane → IfOk x (λ can. TriesTo s lane can r u e)
    → IfOk x (λ can. can ≡ can_step_in s (core_state (core_of s r)) lane) → OnOk x (b ≡ served_in s (core_state (core_of s r)) lane a)
    → IfOk x (λ can. Tried s (core_state (core_of s r)) lane can e (core_state (core_of s u)) a b)
tried_after (Ok can) lane s r u e a b k low t is served = one-tried lane s can r u e a b k low t is served
tried_after (Err y) lane s r u e a b k low t is served = tt

pub tried_core : {E : Type 0} (x : Result Bool E) (lane : ℕ) (w s : Scenario) (r u : Running) (v : CoreView) (e : Entry) (a b : List ℕ) → w ≡ s → core_of s r ≡ v → IsKept (core_of s r) → 1 ≤ lane
    → IfOk x (λ can. TriesTo s lane can r u e) → IfOk x (λ can. can ≡ can_step_in s (core_state (core_of s r)) lane)
    → OnOk x (b ≡ one_served (kind_seen (seen_by w r.parts r.fallen.objects r.clock) lane) a)
    → IfOk x (λ can. Tried v.scenario (core_state v) lane can e (core_state (core_of s u)) a b)
tried_core x lane w s r u v e a b same is k low t can served =
    subst (λ (z : CoreView). IfOk x (λ can. Tried z.scenario (core_state z) lane can e (core_state (core_of s u)) a b)) is
    (tried_after x lane s r u e a b k low t can (served_core x w (core_of s r) (core_of s r) lane a b same refl low served))

pub kept_tried : {E : Type 0} (x : Result Bool E) (lane : ℕ) (s : Scenario) (r u : Running) (e : Entry) → IsKept (core_of s r) → IfOk x (λ can. TriesTo s lane can r u e) → OnErr x (IsAsBefore r u) → IsKept (core_of s u)
kept_tried (Ok true) lane s r u e k t err = kept_turned lane s r u e k t
kept_tried (Ok false) lane s r u e k t err = subst IsKept (sym (core_alike s r u t)) k
kept_tried (Err y) lane s r u e k t err = subst IsKept (sym (core_alike s r u err)) k

steps-by : (can : Bool) (lane : ℕ) (s : Scenario) (r u : Running) (e : Entry) → TriesTo s lane can r u e → can ≡ true → Steps lane (core_of s r) (core_of s u) e
steps-by true lane s r u e t is = steps_turned lane s r u e t
steps-by false lane s r u e t is = cc

pub steps_tried : {E : Type 0} (x : Result Bool E) (lane : ℕ) (s : Scenario) (r u : Running) (e : Entry) → IfOk x (λ can. TriesTo s lane can r u e) → IfOk x (λ can. can ≡ true → Steps lane (core_of s r) (core_of s u) e)
steps_tried (Ok can) lane s r u e t = steps-by can lane s r u e t
steps_tried (Err y) lane s r u e t = tt

rests-as : (can : Bool) (lane : ℕ) (s : Scenario) (r u : Running) (e : Entry) → TriesTo s lane can r u e → can ≡ false → core_of s u ≡ core_of s r
rests-as true lane s r u e t is = cc
rests-as false lane s r u e t is = core_alike s r u t

pub rests_tried : {E : Type 0} (x : Result Bool E) (lane : ℕ) (s : Scenario) (r u : Running) (e : Entry) → IfOk x (λ can. TriesTo s lane can r u e) → IfOk x (λ can. can ≡ false → core_of s u ≡ core_of s r)
rests_tried (Ok can) lane s r u e t = rests-as can lane s r u e t
rests_tried (Err y) lane s r u e t = tt
