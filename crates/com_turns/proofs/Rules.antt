-- Entries that the rules give without a step: who acts there, and that they issue no call and carry no references.
use Rattle.std.proofs.Common.{◌≡◌, ℕ, Bool, true, false, cond, not, ◌==◌, ◌&&◌, nat_le, List, [], ◌∷◌, length, Option, Some, None, option_map, option_and_then, refl, ap, sym, ◌∙◌, subst}
use Rattle.com_body.specs.declared.actions.Action.{Action}
use Rattle.com_refs_books.specs.Changes.{Books}
use Rattle.com_model.specs.declared.deeds.Deed.{Deed}
use Rattle.com_model.specs.declared.deeds.Deed.TheVariants as deed
use Rattle.com_model.specs.declared.keeps.Opener.{Opener}
use Rattle.com_model.specs.declared.keeps.Opener.TheVariants.{Pumps, Waits, Enters}
use Rattle.com_model.specs.declared.keeps.Phase.{Phase}
use Rattle.com_model.specs.declared.keeps.Phase.TheVariants.{Unposted, Queued, Judged, Delayed, GivenUp}
use Rattle.com_model.specs.declared.keeps.Word.{Word}
use Rattle.com_model.specs.declared.scenario.Scenario.{Scenario}
use Rattle.com_model.specs.Answers.{RPC_E_OUT_OF_RESOURCES, RPC_E_SERVER_CANTUNMARSHAL_DATA}
use Rattle.com_model.specs.Apartments.{is_sta}
use Rattle.com_model.specs.Calls.{issues, is_post, object_of, route_of}
use Rattle.com_model.specs.Deeds.{in_sta, uninitialised}
use Rattle.com_model.specs.Endings.{Answer}
use Rattle.com_model.specs.Frames.{Actor, Nobody, actor, unless_final}
use Rattle.com_model.specs.Lists.{or_else, where_true, first}
use Rattle.com_model.specs.Rules.{top, waiting_call, own_call, posted_to_sta, call_sort, verdict_on, is_handled_in, arguments_gone, admission, rule_final, enters_itself, rule_own, due_of, packet_left, answered, rule_answer, rule_bound, is_open_to_calls, admits_sta, admits_next, rule_inbox, retried, rule_retry, posted_again, rule_again, asked_on, rule_pending, takes_word, pumped, rule_word, after_script, is_script_turn, rule_script, ruled, stepped}
use Rattle.com_model.specs.Sight.{Sight}
use Rattle.com_model.specs.Tables.{LaneSort, Thread, Host, Pool, NoLane, lane_sort}
use Rattle.com_model.specs.Waiting.{bound_reached, mark_of, not_asked}
use Rattle.com_model.proofs.Given.{Given, given-or, given-where, given-map, given-then, cond-of}
use Rattle.com_model.specs.Openers.{is_body}
use Rattle.com_rules.proofs.Chains.{none_first}
use Rattle.com_turns.specs.Turns.{IsRule, carried_with}

pub issues_none : (l : ℕ) (d : Deed) → IsRule d → issues l d ≡ None
issues_none l (deed.Out c o i m r k bytes) h = absurd h
issues_none l _ h = refl

pub carries_none : (s : Scenario) (b : Books) (x : Option Action) (d : Deed) → IsRule d → carried_with s b x d ≡ []
carries_none s b x (deed.Out c o i m r k bytes) h = absurd h
carries_none s b x (deed.Leave c hr v bytes) h = absurd h
carries_none s b x _ h = refl

-- ---- each rule

admitted_rule : (s : Scenario) (v : Sight) (l c : ℕ) → IsRule (admission s v l c)
admitted_rule s v l c =
    cond-of IsRule (nat_le 256 (length (v.openers l))) (deed.Refuse c RPC_E_OUT_OF_RESOURCES) _ tt
    (cond-of IsRule (posted_to_sta v c && not (is_handled_in s v l c)) (deed.Verdict c (call_sort v l c) (verdict_on s v l c)) _ tt
    (cond-of IsRule (arguments_gone v c) (deed.Refuse c RPC_E_SERVER_CANTUNMARSHAL_DATA)
    (deed.Enter c (object_of (v.issue c)) (v.owner (object_of (v.issue c)) l) (where_true (posted_to_sta v c) (call_sort v l c)) (v.unread c)) tt tt))

answered_rule : (v : Sight) (c : ℕ) (x : Answer) (p : Option ℕ) → IsRule (answered v c x p)
answered_rule v c x (Some p) = tt
answered_rule v c x None = tt

retried_rule : (s : Scenario) (v : Sight) (l c : ℕ) (p : Phase) → Given IsRule (retried s v l c p)
retried_rule s v l c Unposted = tt
retried_rule s v l c Queued = tt
retried_rule s v l c (Judged x) = tt
retried_rule s v l c (Delayed t) = tt
retried_rule s v l c GivenUp = tt

again_rule : (v : Sight) (c : ℕ) (p : Phase) → Given IsRule (posted_again v c p)
again_rule v c Unposted = tt
again_rule v c Queued = tt
again_rule v c (Judged x) = tt
again_rule v c (Delayed t) = given-where IsRule (nat_le t v.clock) (deed.Again c) tt
again_rule v c GivenUp = tt

asked_rule : (s : Scenario) (v : Sight) (l c : ℕ) (w : Option Word) → Given IsRule (asked_on s v l c w)
asked_rule s v l c None = tt
asked_rule s v l c (Some w) = given-where IsRule (in_sta (v.home l) && is_post (route_of (v.issue c))) (deed.Pending c w.word _) tt

taken_rule : (w : Option Word) (q : Bool) → Given IsRule (takes_word w q)
taken_rule (Some w) q = tt
taken_rule None q = given-where IsRule q deed.EndPump tt

word_rule : (v : Sight) (l : ℕ) (o : Option Opener) → Given IsRule (pumped v l o)
word_rule v l None = tt
word_rule v l (Some (Pumps n)) = taken_rule (first (v.mail l).words) (v.quit l)
word_rule v l (Some (Waits c)) = tt
word_rule v l (Some (Enters c o a)) = tt

none_given : (P : Deed → Type 0) (x : Option Deed) → x ≡ None → Given P x
none_given P x e = subst (λ (y : Option Deed). Given P y) (sym e) tt

-- What the rules give where it is not the turn of a script.
ruled_given : (s : Scenario) (v : Sight) (l : ℕ) → rule_script s v l ≡ None → Given IsRule (ruled s v l)
ruled_given s v l e =
    given-or IsRule (rule_final v l) _ (given-map IsRule (λ o. deed.Final o) (first (v.dying l)) (λ o. tt))
    (given-or IsRule (rule_own s v l) _ (given-then IsRule (λ c. where_true (enters_itself v c) (admission s v l c)) (own_call v l) (λ c. given-where IsRule (enters_itself v c) (admission s v l c) (admitted_rule s v l c)))
    (given-or IsRule (rule_answer v l) _ (given-then IsRule (λ c. option_map (λ x. answered v c x (packet_left v c)) (due_of v c)) (own_call v l) (λ c. given-map IsRule (λ x. answered v c x (packet_left v c)) (due_of v c) (λ x. answered_rule v c x (packet_left v c))))
    (given-or IsRule (rule_bound v l) _ (given-where IsRule (bound_reached (v.openers l) (v.served l)) deed.EndPump tt)
    (given-or IsRule (rule_inbox s v l) _ (given-map IsRule (admission s v l) (admits_next v l (lane_sort s l)) (λ c. admitted_rule s v l c))
    (given-or IsRule (rule_retry s v l) _ (given-then IsRule (λ c. retried s v l c (v.phase c)) (own_call v l) (λ c. retried_rule s v l c (v.phase c)))
    (given-or IsRule (rule_again v l) _ (given-then IsRule (λ c. posted_again v c (v.phase c)) (own_call v l) (λ c. again_rule v c (v.phase c)))
    (given-or IsRule (rule_pending s v l) _ (given-then IsRule (λ c. asked_on s v l c (not_asked (mark_of (v.mail l).marks c) (v.mail l).words)) (own_call v l) (λ c. asked_rule s v l c (not_asked (mark_of (v.mail l).marks c) (v.mail l).words)))
    (given-or IsRule (rule_word v l) (rule_script s v l) (word_rule v l (top v l))
    (none_given IsRule (rule_script s v l) e)))))))))

pub ruled_rule : (s : Scenario) (v : Sight) (l : ℕ) (d : Deed) → rule_script s v l ≡ None → ruled s v l ≡ Some d → IsRule d
ruled_rule s v l d e q = subst (λ (x : Option Deed). Given IsRule x) q (ruled_given s v l e)

pub after_rule : (v : Sight) (l : ℕ) → IsRule (after_script v l)
after_rule v l = cond-of IsRule (v.count l == 0) deed.End (uninitialised v l) tt tt

-- ---- a thread's lane with nothing open

-- Of its rules the first and the last alone apply.
thread_inbox : (v : Sight) (l : ℕ) (h : Option ℕ) → top v l ≡ None → admits_sta v l Thread h ≡ None
thread_inbox v l None e = refl
thread_inbox v l (Some a) e = ap (λ (t : Option Opener). cond (is_sta a && is_open_to_calls v Thread t) (first (v.inbox a)) None) e ∙ closed (is_sta a)
  where
    closed : (b : Bool) → cond (b && false) (first (v.inbox a)) None ≡ None
    closed true = refl
    closed false = refl

pub thread_rules : (s : Scenario) (v : Sight) (l : ℕ) → lane_sort s l ≡ Thread → v.openers l ≡ []
    → ruled s v l ≡ or_else (rule_final v l) (rule_script s v l)
thread_rules s v l t e =
    let own : own_call v l ≡ None = ap (λ (os : List Opener). waiting_call (first os)) e in
    ap (λ (x : Option Deed). or_else (rule_final v l) x)
    (none_first (rule_own s v l) _ (ap (λ (k : Option ℕ). option_and_then (λ c. where_true (enters_itself v c) (admission s v l c)) k) own)
    ∙ (none_first (rule_answer v l) _ (ap (λ (k : Option ℕ). option_and_then (λ c. option_map (λ x. answered v c x (packet_left v c)) (due_of v c)) k) own)
    ∙ (none_first (rule_bound v l) _ (ap (λ (os : List Opener). where_true (bound_reached os (v.served l)) deed.EndPump) e)
    ∙ (none_first (rule_inbox s v l) _ (ap (λ (x : LaneSort). option_map (admission s v l) (admits_next v l x)) t ∙ ap (λ (k : Option ℕ). option_map (admission s v l) k) (thread_inbox v l (v.home l) (ap (λ (os : List Opener). first os) e)))
    ∙ (none_first (rule_retry s v l) _ (ap (λ (k : Option ℕ). option_and_then (λ c. retried s v l c (v.phase c)) k) own)
    ∙ (none_first (rule_again v l) _ (ap (λ (k : Option ℕ). option_and_then (λ c. posted_again v c (v.phase c)) k) own)
    ∙ (none_first (rule_pending s v l) _ (ap (λ (k : Option ℕ). option_and_then (λ c. asked_on s v l c (not_asked (mark_of (v.mail l).marks c) (v.mail l).words)) k) own)
    ∙ none_first (rule_word v l) _ (ap (λ (os : List Opener). pumped v l (first os)) e))))))))

-- ---- who acts at an entry that a rule gives

-- A Final, where anybody acts in the lane.
abbrev pub IsFinal : Deed → Type 0
IsFinal (deed.Final o) = Unit {0}
IsFinal _ = ⊥

pub final_nobody : (d : Deed) (a : Actor) → IsFinal d → unless_final d a ≡ Nobody
final_nobody (deed.Final o) a h = refl
final_nobody _ a h = absurd h

pub nobody_final : (d : Deed) → unless_final d Nobody ≡ Nobody
nobody_final (deed.Final o) = refl
nobody_final _ = refl

pub final_rule : (d : Deed) → IsFinal d → IsRule d
final_rule (deed.Final o) h = tt
final_rule _ h = absurd h

final_of : (x : Option ℕ) (d : Deed) → option_map (λ o. deed.Final o) x ≡ Some d → IsFinal d
final_of None d e = absurd cc
final_of (Some o) d e = let q : deed.Final o ≡ d = cc in subst IsFinal q tt

pub rule_final_is : (v : Sight) (l : ℕ) (d : Deed) → rule_final v l ≡ Some d → IsFinal d
rule_final_is v l d e = final_of (first (v.dying l)) d e

-- Nobody acts in a lane without a body on top, but in a thread's lane with nothing open.
pub data Acts (sort : LaneSort) (l : ℕ) (os : List Opener) : Type 0 where
  idle : actor sort l os ≡ Nobody → Acts sort l os
  thread : sort ≡ Thread → os ≡ [] → Acts sort l os

pub acts_in : (sort : LaneSort) (l : ℕ) (os : List Opener) → is_body (first os) ≡ false → Acts sort l os
acts_in sort l (Enters c o a ∷ os) e = absurd cc
acts_in sort l (Waits c ∷ os) e = idle refl
acts_in sort l (Pumps n ∷ os) e = idle refl
acts_in Thread l [] e = thread refl refl
acts_in Host l [] e = idle refl
acts_in Pool l [] e = idle refl
acts_in NoLane l [] e = idle refl

-- ---- a lane's next entry by the top

pub next_ruled : (s : Scenario) (v : Sight) (l : ℕ) (o : Option Opener) → is_body o ≡ false → stepped s v l o ≡ ruled s v l
next_ruled s v l None e = refl
next_ruled s v l (Some (Pumps n)) e = refl
next_ruled s v l (Some (Waits c)) e = refl
next_ruled s v l (Some (Enters c o a)) e = absurd cc

pub script_turn : (sort : LaneSort) (o : Option Opener) (over : Bool) → is_script_turn sort o over ≡ true → (sort ≡ Thread) × (o ≡ None)
script_turn Thread None over e = (refl, refl)
script_turn Thread (Some x) over e = cc
script_turn Host o over e = cc
script_turn Pool o over e = cc
script_turn NoLane o over e = cc

pub none_open : {X : Type 0} (xs : List X) → first xs ≡ None → xs ≡ []
none_open [] e = refl
none_open (x ∷ xs) e = cc
