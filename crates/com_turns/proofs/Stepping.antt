-- Turns that are steps, and turns that rules give.
use Rattle.std.proofs.Common.{◌≡◌, ℕ, zero, suc, Bool, true, false, cond, not, ◌&&◌, ◌==◌, ◌≤◌, nat_le, List, [], ◌∷◌, Option, Some, None, option_map, refl, ap, sym, ◌∙◌, subst, arith}
use Rattle.std.proofs.lemmas.Grind.{common_steps}
use Rattle.com_body.specs.declared.actions.Action.{Action}
use Rattle.com_body.specs.declared.frame.Outcome.{Outcome}
use Rattle.com_refs_books.specs.Changes.{Books}
use Rattle.com_calls.specs.declared.rows.Enclosed.{Enclosed}
use Rattle.com_calls.specs.declared.rows.Enclosed.TheVariants as enclosed
use Rattle.com_calls.specs.Enclosures.{HasAnswer}
use Rattle.com_model.specs.declared.deeds.Deed.{Deed}
use Rattle.com_model.specs.declared.deeds.Deed.TheVariants as deed
use Rattle.com_model.specs.declared.keeps.Opener.{Opener}
use Rattle.com_model.specs.declared.keeps.Opener.TheVariants.{Pumps, Waits, Enters}
use Rattle.com_model.specs.declared.scenario.Scenario.{Scenario}
use Rattle.com_model.specs.Deeds.{deed_of}
use Rattle.com_model.specs.Frames.{Actor, Body, Script, Nobody, actor, action_of, is_leave, unless_final, unless_over}
use Rattle.com_model.specs.Lists.{or_else, where_true, first}
use Rattle.com_model.specs.Rules.{after_script, is_script_turn, lane_next, rule_final, rule_script, ruled, scripted, stepped, top}
use Rattle.com_model.specs.Sight.{Sight}
use Rattle.com_model.specs.Tables.{LaneSort, Thread, Host, Pool, NoLane, host_lane, lane_sort, lanes, threads}
use Rattle.com_model.specs.Openers.{is_body}
use Rattle.com_rules.specs.Acts.{Issues, carried_by}
use Rattle.com_rules.proofs.Chains.{none_first}
use Rattle.com_scene.specs.Actors.{acting_of}
use Rattle.com_laws_safety.proofs.Acted.{OfAction, action_sort, deed-acted}
use Rattle.com_state.specs.Parts.{openers_at}
use Rattle.com_view.specs.Seen.{Seen, sight_by}
use Rattle.com_turns.specs.declared.turns.Turn.{Turn}
use Rattle.com_turns.specs.Turns.{ByRule, IsIssued, IsNext, IsRule, IsTurn, Steps, acting_seen, actor_seen, body_seen, carried_seen, carried_with, is_ruled, issuing_with, outcome_seen, ruled_turn, script_seen, step_seen, turn_made}
use Rattle.com_turns.proofs.Rules.{Acts, IsFinal, acts_in, after_rule, carries_none, final_nobody, final_rule, idle, issues_none, next_ruled, nobody_final, none_open, rule_final_is, ruled_rule, script_turn, thread, thread_rules}

-- ---- entries of steps

acted_final : (s : Scenario) (v : Sight) (l : ℕ) (x : Action) (a : Actor) (d : Deed) → OfAction (action_sort x) d → unless_final d a ≡ a
acted_final s v l x a (deed.Final o) h = absurd h
acted_final s v l x a _ h = refl

act_of : (w : Seen) (b : Books) (l : ℕ) (a : Actor) (r : Outcome) → Steps w l a r → (sight_by w b).act l ≡ Some r.action
act_of w b l a r h =
    ap (λ (x : Actor). action_of (outcome_seen w x)) h.acts ∙ ap (λ (x : Option Outcome). action_of x) h.step

issued_as : (w : Seen) (b : Books) (l : ℕ) (x : Action) (d : Deed) (i : Enclosed) → (sight_by w b).act l ≡ Some x
    → Issues w.scenario (sight_by w b) l x d i → IsIssued w b l d i
issued_as w b l x d enclosed.Nothing e h = h
issued_as w b l x d (enclosed.Answer a) e h = h
issued_as w b l x d (enclosed.Issued i) e h = h ∙ ap (λ (y : Option Action). issuing_with w b l d y) (sym e)

carried_as : (s : Scenario) (b : Books) (x : Action) (d : Deed) → carried_by s b x d ≡ carried_with s b (Some x) d
carried_as s b x (deed.Out c o i m r k (Some bytes)) = refl
carried_as s b x (deed.Out c o i m r k None) = refl
carried_as s b x (deed.Leave c hr v (Some bytes)) = refl
carried_as s b x (deed.Leave c hr v None) = refl
carried_as s b x _ = refl

-- The turn of whoever goes on by a step.
pub step_turn : (w : Seen) (b : Books) (l : ℕ) (a : Actor) (r : Outcome) (t : Turn) → Steps w l a r
    → lane_next w.scenario (sight_by w b) l ≡ Some (deed_of w.scenario (sight_by w b) l r.action)
    → t.doing.deed ≡ deed_of w.scenario (sight_by w b) l r.action
    → Issues w.scenario (sight_by w b) l r.action t.doing.deed t.doing.enclosed → HasAnswer t.doing.deed t.doing.enclosed
    → t.doing.carried ≡ carried_by w.scenario b r.action t.doing.deed
    → acting_of t.acting ≡ a → IsTurn w b l (Some r) t
step_turn w b l a r t h n d i j k p =
    let s : Scenario = w.scenario in
    let v : Sight = sight_by w b in
    let act : v.act l ≡ Some r.action = act_of w b l a r h in
    let final : unless_final t.doing.deed a ≡ a = ap (λ (x : Deed). unless_final x a) d ∙ acted_final s v l r.action a (deed_of s v l r.action) (deed-acted s v l r.action) in
    let acting : acting_seen w l t.doing.deed ≡ a = ap (λ (x : Actor). unless_final t.doing.deed x) h.acts ∙ final in
    record {
      next = n ∙ ap (λ (x : Deed). Some x) (sym d);
      acting = p ∙ sym acting;
      outcome = sym (ap (λ (x : Actor). outcome_seen w x) acting ∙ h.step);
      issued = issued_as w b l r.action t.doing.deed t.doing.enclosed act i;
      answer = j;
      carried = k ∙ (carried_as s b r.action t.doing.deed ∙ ap (λ (x : Option Action). carried_with s b x t.doing.deed) (sym act));
    }

-- ---- entries of rules

issued_none : (w : Seen) (b : Books) (l : ℕ) (d : Deed) (i : Enclosed) → IsRule d → i ≡ enclosed.Nothing → IsIssued w b l d i
issued_none w b l d i h e = subst (λ (x : Enclosed). IsIssued w b l d x) (sym e) (issues_none l d h)

answer_none : (d : Deed) (i : Enclosed) → IsRule d → HasAnswer d i
answer_none (deed.Leave c hr v bytes) i h = absurd h
answer_none _ i h = tt

-- The turn of an entry that is nobody's step.
pub rule_turn : (w : Seen) (b : Books) (l : ℕ) (d : Deed) (t : Turn) → ByRule w b l d → t.doing.deed ≡ d
    → acting_of t.acting ≡ Nobody → t.doing.enclosed ≡ enclosed.Nothing → t.doing.carried ≡ [] → IsTurn w b l None t
rule_turn w b l d t h e p i k =
    let acting : acting_seen w l t.doing.deed ≡ Nobody = ap (λ (x : Deed). acting_seen w l x) e ∙ h.nobody in
    let rule : IsRule t.doing.deed = subst IsRule (sym e) h.rule in
    record {
      next = h.next ∙ ap (λ (x : Deed). Some x) (sym e);
      acting = p ∙ sym acting;
      outcome = sym (ap (λ (x : Actor). outcome_seen w x) acting);
      issued = issued_none w b l t.doing.deed t.doing.enclosed rule i;
      answer = answer_none t.doing.deed t.doing.enclosed rule;
      carried = k ∙ sym (carries_none w.scenario b ((sight_by w b).act l) t.doing.deed rule);
    }

-- ---- a script's turn

pub record Turns (w : Seen) (l : ℕ) : Type 0 where
  pub thread : lane_sort w.scenario l ≡ Thread
  pub closed : openers_at w.lanes l ≡ []
  pub actor : actor_seen w l ≡ Script l

pub turns_in : (w : Seen) (b : Books) (l : ℕ) → is_script_turn (lane_sort w.scenario l) (top (sight_by w b) l) ((sight_by w b).over l) ≡ true → Turns w l
turns_in w b l e =
    let z : (lane_sort w.scenario l ≡ Thread) × (first (openers_at w.lanes l) ≡ None) = script_turn (lane_sort w.scenario l) (first (openers_at w.lanes l)) ((sight_by w b).over l) e in
    let os : openers_at w.lanes l ≡ [] = none_open (openers_at w.lanes l) z.1 in
    record {
      thread = z.0;
      closed = os;
      actor = ap (λ (x : LaneSort). actor x l (openers_at w.lanes l)) z.0 ∙ ap (λ (xs : List Opener). actor Thread l xs) os;
    }

-- A thread's lane is one of the scenario's threads.
thread_is : (s : Scenario) (l : ℕ) (t : Bool) (x : LaneSort) → (x ≡ Thread → ⊥) → cond t Thread x ≡ Thread → t ≡ true
thread_is s l true x h e = refl
thread_is s l false x h e = absurd (h e)

lane_zero : (s : Scenario) (t : Bool) (x : LaneSort) → cond t NoLane x ≡ Thread → (t ≡ false) × (x ≡ Thread)
lane_zero s true x e = absurd cc
lane_zero s false x e = (refl, e)

no_thread : (s : Scenario) (l : ℕ) → cond (l == host_lane s) Host (cond (nat_le l (lanes s)) Pool NoLane) ≡ Thread → ⊥
no_thread s l e = elim (l == host_lane s) as (λ t. cond t Host (cond (nat_le l (lanes s)) Pool NoLane) ≡ Thread → ⊥) [
  | true ↦ λ f. cc
  | false ↦ elim (nat_le l (lanes s)) as (λ t. cond t Pool NoLane ≡ Thread → ⊥) [ true ↦ λ f. cc | false ↦ λ f. cc ]
] e

pub thread_above : (s : Scenario) (l : ℕ) → lane_sort s l ≡ Thread → 1 ≤ l
thread_above s zero e = absurd cc
thread_above s (suc l) e = omega arith

pub thread_below : (s : Scenario) (l : ℕ) → lane_sort s l ≡ Thread → l ≤ threads s
thread_below s l e =
    let in_threads : nat_le l (threads s) ≡ true = thread_is s l (nat_le l (threads s)) _ (no_thread s l) (lane_zero s (l == 0) _ e).1 in
    grind (arith, common_steps, in_threads)

acts_as : (w : Seen) (l : ℕ) (a : Actor) → actor_seen w l ≡ a
    → unless_over (actor_seen w l) (outcome_seen w (actor_seen w l)) ≡ unless_over a (outcome_seen w a)
acts_as w l a e = ap (λ (x : Actor). unless_over x (outcome_seen w x)) e

leave_first : (l : ℕ) (t : Bool) → t ≡ false → cond t Nobody (Script l) ≡ Script l
leave_first l true e = absurd cc
leave_first l false e = refl

leave_last : (l : ℕ) (t : Bool) → t ≡ true → cond t Nobody (Script l) ≡ Nobody
leave_last l true e = refl
leave_last l false e = absurd cc

-- What was taken out of a place is what stood there.
pub taken_is : (r x : Outcome) → Some r ≡ Some x → r ≡ x
taken_is r x e = cc

pub script_steps : (w : Seen) (l : ℕ) (r : Outcome) → Turns w l → r ≡ script_seen w l → is_leave r.action ≡ false → Steps w l (Script l) r
script_steps w l r h e f =
    record {
      acts = acts_as w l (Script l) h.actor ∙ leave_first l (is_leave (script_seen w l).action) (ap (λ (x : Outcome). is_leave x.action) (sym e) ∙ f);
      step = ap (λ (x : Outcome). Some x) (sym e);
    }

-- A script that leaves is over.
script_over : (w : Seen) (l : ℕ) (r : Outcome) → Turns w l → r ≡ script_seen w l → is_leave r.action ≡ true
    → unless_over (actor_seen w l) (outcome_seen w (actor_seen w l)) ≡ Nobody
script_over w l r h e f = acts_as w l (Script l) h.actor ∙ leave_last l (is_leave (script_seen w l).action) (ap (λ (x : Outcome). is_leave x.action) (sym e) ∙ f)

where_is : (t : Bool) (d : Deed) → t ≡ true → where_true t d ≡ Some d
where_is true d e = refl
where_is false d e = absurd cc

ruled_next : (s : Scenario) (v : Sight) (l : ℕ) → v.openers l ≡ [] → lane_next s v l ≡ ruled s v l
ruled_next s v l e = next_ruled s v l (top v l) (ap (λ (os : List Opener). is_body (first os)) e)

-- The next entry of a lane whose script acts, where no object waits for its Final.
pub script_next : (w : Seen) (b : Books) (l : ℕ) → is_script_turn (lane_sort w.scenario l) (top (sight_by w b) l) ((sight_by w b).over l) ≡ true
    → rule_final (sight_by w b) l ≡ None
    → lane_next w.scenario (sight_by w b) l ≡ Some (scripted w.scenario (sight_by w b) l ((sight_by w b).act l))
script_next w b l e f =
    let s : Scenario = w.scenario in
    let v : Sight = sight_by w b in
    let h : Turns w l = turns_in w b l e in
    ruled_next s v l h.closed ∙ (thread_rules s v l h.thread h.closed
    ∙ (none_first (rule_final v l) (rule_script s v l) f ∙ where_is (is_script_turn (lane_sort s l) (top v l) (v.over l)) (scripted s v l (v.act l)) e))

pub step_next : (w : Seen) (b : Books) (l : ℕ) (r : Outcome) → is_script_turn (lane_sort w.scenario l) (top (sight_by w b) l) ((sight_by w b).over l) ≡ true
    → rule_final (sight_by w b) l ≡ None → Steps w l (Script l) r
    → lane_next w.scenario (sight_by w b) l ≡ Some (deed_of w.scenario (sight_by w b) l r.action)
step_next w b l r e f h =
    script_next w b l e f ∙ ap (λ (x : Option Action). Some (scripted w.scenario (sight_by w b) l x)) (act_of w b l (Script l) r h)

pub over_rules : (w : Seen) (b : Books) (l : ℕ) (r : Outcome) (d : Deed) → is_script_turn (lane_sort w.scenario l) (top (sight_by w b) l) ((sight_by w b).over l) ≡ true
    → rule_final (sight_by w b) l ≡ None → r ≡ script_seen w l → is_leave r.action ≡ true → d ≡ after_script (sight_by w b) l → ByRule w b l d
over_rules w b l r d e f p q k =
    let v : Sight = sight_by w b in
    let h : Turns w l = turns_in w b l e in
    let nobody : unless_over (actor_seen w l) (outcome_seen w (actor_seen w l)) ≡ Nobody = script_over w l r h p q in
    let act : v.act l ≡ None = ap (λ (x : Actor). action_of (outcome_seen w x)) nobody in
    record {
      next = script_next w b l e f ∙ (ap (λ (x : Option Action). Some (scripted w.scenario v l x)) act ∙ ap (λ (x : Deed). Some x) (sym k));
      nobody = ap (λ (x : Actor). unless_final d x) nobody ∙ nobody_final d;
      rule = subst IsRule (sym k) (after_rule v l);
    }

some_first : (a r : Option Deed) (d : Deed) → a ≡ Some d → or_else a r ≡ Some d
some_first a r d e = rw e refl

pub final_rules : (w : Seen) (b : Books) (l : ℕ) (d : Deed) → is_script_turn (lane_sort w.scenario l) (top (sight_by w b) l) ((sight_by w b).over l) ≡ true
    → rule_final (sight_by w b) l ≡ Some d → ByRule w b l d
final_rules w b l d e f =
    let s : Scenario = w.scenario in
    let v : Sight = sight_by w b in
    let h : Turns w l = turns_in w b l e in
    let final : IsFinal d = rule_final_is v l d f in
    record {
      next = ruled_next s v l h.closed ∙ (thread_rules s v l h.thread h.closed ∙ some_first (rule_final v l) (rule_script s v l) d f);
      nobody = final_nobody d (unless_over (actor_seen w l) (outcome_seen w (actor_seen w l))) final;
      rule = final_rule d final;
    }

-- ---- a turn by the rules

no_script : (s : Scenario) (v : Sight) (l : ℕ) → is_script_turn (lane_sort s l) (top v l) (v.over l) ≡ false → rule_script s v l ≡ None
no_script s v l e = ap (λ (t : Bool). where_true t (scripted s v l (v.act l))) e

or_none : (a r : Option Deed) → r ≡ None → or_else a r ≡ a
or_none None r e = e
or_none (Some d) r e = refl

-- Where it is not the turn of a script, the rules but for that of the script are all.
pub ruled_lane : (w : Seen) (b : Books) (l : ℕ) (x : Option Deed) → is_body (top (sight_by w b) l) ≡ false
    → is_script_turn (lane_sort w.scenario l) (top (sight_by w b) l) ((sight_by w b).over l) ≡ false
    → or_else x (rule_script w.scenario (sight_by w b) l) ≡ ruled w.scenario (sight_by w b) l
    → lane_next w.scenario (sight_by w b) l ≡ x
ruled_lane w b l x p e h =
    let s : Scenario = w.scenario in
    let v : Sight = sight_by w b in
    next_ruled s v l (top v l) p ∙ (sym h ∙ or_none x (rule_script s v l) (no_script s v l e))

nobody_acts : (w : Seen) (b : Books) (l : ℕ) (d : Deed) → Acts (lane_sort w.scenario l) l (openers_at w.lanes l)
    → rule_script w.scenario (sight_by w b) l ≡ None → ruled w.scenario (sight_by w b) l ≡ Some d → acting_seen w l d ≡ Nobody
nobody_acts w b l d (idle e) n q =
    ap (λ (x : Actor). unless_final d (unless_over x (outcome_seen w x))) e ∙ nobody_final d
nobody_acts w b l d (thread t e) n q =
    let s : Scenario = w.scenario in
    let v : Sight = sight_by w b in
    let final : rule_final v l ≡ Some d = sym (or_none (rule_final v l) (rule_script s v l) n) ∙ (sym (thread_rules s v l t e) ∙ q) in
    final_nobody d (unless_over (actor_seen w l) (outcome_seen w (actor_seen w l))) (rule_final_is v l d final)

pub ruled_rules : (w : Seen) (b : Books) (l : ℕ) (d : Deed) → is_body (top (sight_by w b) l) ≡ false
    → is_script_turn (lane_sort w.scenario l) (top (sight_by w b) l) ((sight_by w b).over l) ≡ false
    → or_else (Some d) (rule_script w.scenario (sight_by w b) l) ≡ ruled w.scenario (sight_by w b) l → ByRule w b l d
ruled_rules w b l d p e h =
    let s : Scenario = w.scenario in
    let v : Sight = sight_by w b in
    let n : rule_script s v l ≡ None = no_script s v l e in
    record {
      next = ruled_lane w b l (Some d) p e h;
      nobody = nobody_acts w b l d (acts_in (lane_sort s l) l (openers_at w.lanes l) p) n (sym h);
      rule = ruled_rule s v l d n (sym h);
    }

not-first : (a b : Bool) → (not a && not b) ≡ true → a ≡ false
not-first true b e = absurd cc
not-first false b e = refl

not-second : (a b : Bool) → (not a && not b) ≡ true → b ≡ false
not-second true b e = absurd cc
not-second false true e = absurd cc
not-second false false e = refl

pub ruled_body : (w : Seen) (b : Books) (l : ℕ) → is_ruled w l ≡ true → is_body (top (sight_by w b) l) ≡ false
ruled_body w b l e = not-first (is_body (top (sight_by w b) l)) (is_script_turn (lane_sort w.scenario l) (top (sight_by w b) l) ((sight_by w b).over l)) e

pub ruled_script : (w : Seen) (b : Books) (l : ℕ) → is_ruled w l ≡ true → is_script_turn (lane_sort w.scenario l) (top (sight_by w b) l) ((sight_by w b).over l) ≡ false
ruled_script w b l e = not-second (is_body (top (sight_by w b) l)) (is_script_turn (lane_sort w.scenario l) (top (sight_by w b) l) ((sight_by w b).over l)) e

-- What the rules made, or did not, is the turn of the lane.
pub ruled_made : (w : Seen) (b : Books) (l : ℕ) (made : Bool) (d : Deed) → is_body (top (sight_by w b) l) ≡ false
    → is_script_turn (lane_sort w.scenario l) (top (sight_by w b) l) ((sight_by w b).over l) ≡ false
    → or_else (where_true made d) (rule_script w.scenario (sight_by w b) l) ≡ ruled w.scenario (sight_by w b) l → IsNext w b l None (turn_made made d)
ruled_made w b l true d p e h = rule_turn w b l d (ruled_turn d) (ruled_rules w b l d p e h) refl refl refl refl
ruled_made w b l false d p e h = ruled_lane w b l None p e h

-- Where it was made, another turn with the same deed, of nobody's step, is one too.
pub turn_ruled : (w : Seen) (b : Books) (l : ℕ) (made : Bool) (d : Deed) (t : Turn) → IsNext w b l None (turn_made made d) → made ≡ true → t.doing.deed ≡ d
    → acting_of t.acting ≡ Nobody → t.doing.enclosed ≡ enclosed.Nothing → t.doing.carried ≡ [] → IsTurn w b l None t
turn_ruled w b l true d t h m e p i k =
    record {
      next = h.next ∙ ap (λ (x : Deed). Some x) (sym e);
      acting = p ∙ (h.acting ∙ ap (λ (x : Deed). acting_seen w l x) (sym e));
      outcome = h.outcome ∙ ap (λ (x : Deed). step_seen w l x) (sym e);
      issued = subst (λ (x : Enclosed). IsIssued w b l t.doing.deed x) (sym i) (subst (λ (x : Deed). IsIssued w b l x enclosed.Nothing) (sym e) h.issued);
      answer = subst (λ (x : Enclosed). HasAnswer t.doing.deed x) (sym i) (subst (λ (x : Deed). HasAnswer x enclosed.Nothing) (sym e) h.answer);
      carried = k ∙ (h.carried ∙ ap (λ (x : Deed). carried_seen w b l x) (sym e));
    }
turn_ruled w b l false d t h m e p i k = absurd cc

-- The same with the turn in the place of another.
pub made_ruled : (w : Seen) (b : Books) (l : ℕ) (made : Bool) (d : Deed) (t : Turn) → IsNext w b l None (turn_made made d) → t.doing.deed ≡ d
    → acting_of t.acting ≡ Nobody → t.doing.enclosed ≡ enclosed.Nothing → t.doing.carried ≡ [] → IsNext w b l None (where_true made t)
made_ruled w b l true d t h e p i k = turn_ruled w b l true d t h refl e p i k
made_ruled w b l false d t h e p i k = h

-- ---- a body's turn

body_actor : (sort : LaneSort) (l : ℕ) (os : List Opener) (c o a : ℕ) → first os ≡ Some (Enters c o a) → actor sort l os ≡ Body c o
body_actor sort l [] c o a e = absurd cc
body_actor sort l (Waits d ∷ os) c o a e = absurd cc
body_actor sort l (Pumps n ∷ os) c o a e = absurd cc
body_actor sort l (Enters d p x ∷ os) c o a e =
    let q : Enters d p x ≡ Enters c o a = cc in
    let same : d ≡ c = cc in
    let on : p ≡ o = cc in
    ap (λ (k : ℕ). Body k p) same ∙ ap (λ (k : ℕ). Body c k) on

pub body_steps : (w : Seen) (l c o a : ℕ) (r : Outcome) → first (openers_at w.lanes l) ≡ Some (Enters c o a) → r ≡ body_seen w c o → Steps w l (Body c o) r
body_steps w l c o a r e q =
    record {
      acts = acts_as w l (Body c o) (body_actor (lane_sort w.scenario l) l (openers_at w.lanes l) c o a e);
      step = ap (λ (x : Outcome). Some x) (sym q);
    }

pub body_next : (w : Seen) (b : Books) (l c o a : ℕ) (r : Outcome) → first (openers_at w.lanes l) ≡ Some (Enters c o a) → Steps w l (Body c o) r
    → lane_next w.scenario (sight_by w b) l ≡ Some (deed_of w.scenario (sight_by w b) l r.action)
body_next w b l c o a r e h =
    let s : Scenario = w.scenario in
    let v : Sight = sight_by w b in
    ap (λ (x : Option Opener). stepped s v l x) e ∙ ap (λ (x : Option Action). option_map (deed_of s v l) x) (act_of w b l (Body c o) r h)

-- The turn of a body whose step was computed before.
pub given_turn : (w : Seen) (b : Books) (l c o a : ℕ) (r : Outcome) (t : Turn) → Some (Enters c o a) ≡ first (openers_at w.lanes l)
    → ((c o a : ℕ) → first (openers_at w.lanes l) ≡ Some (Enters c o a) → r ≡ body_seen w c o)
    → t.doing.deed ≡ deed_of w.scenario (sight_by w b) l r.action
    → Issues w.scenario (sight_by w b) l r.action t.doing.deed t.doing.enclosed → HasAnswer t.doing.deed t.doing.enclosed
    → t.doing.carried ≡ carried_by w.scenario b r.action t.doing.deed
    → acting_of t.acting ≡ Body c o → IsTurn w b l (Some r) t
given_turn w b l c o a r t e f d i j k p =
    let steps : Steps w l (Body c o) r = body_steps w l c o a r (sym e) (f c o a (sym e)) in
    step_turn w b l (Body c o) r t steps (body_next w b l c o a r (sym e) steps) d i j k p
