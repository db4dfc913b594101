-- Each entry of a legal history has its cause, and its values and answers are the call's own.
use Rattle.std.proofs.Common.{subst, ap}
use Rattle.std.specs.Prelude.{◌≡◌, refl, ℕ, Bool, true, false, not, ◌==◌, ◌&&◌, nat_le, length, List, [], ◌∷◌, Option, Some, None, option_map}
use Rattle.com_base.specs.declared.value.Value.{Value}
use Rattle.com_body.specs.declared.actions.Action.{Action}
use Rattle.com_model.specs.declared.deeds.Deed.{Deed}
use Rattle.com_model.specs.declared.deeds.Deed.TheVariants as deed
use Rattle.com_model.specs.declared.deeds.Entry.{Entry}
use Rattle.com_model.specs.declared.scenario.Scenario.{Scenario}
use Rattle.com_model.specs.Answers.{RPC_E_OUT_OF_RESOURCES, RPC_E_SERVER_CANTUNMARSHAL_DATA, is_S_OK}
use Rattle.com_model.specs.Lists.{where_true}
use Rattle.com_model.specs.Tables.{lane_sort}
use Rattle.com_model.specs.Calls.{admitted, object_of}
use Rattle.com_model.specs.Endings.{Answer, ending}
use Rattle.com_model.specs.declared.keeps.Admission.{Admission}
use Rattle.com_model.specs.declared.keeps.Ending.{Ending}
use Rattle.com_model.specs.Issue.{sent, unread_values}
use Rattle.com_model.specs.Frames.{act, answer_in}
use Rattle.com_model.specs.Deeds.{deed_of, uninitialised}
use Rattle.com_model.specs.Sight.{Sight, sight}
use Rattle.com_model.specs.Rules.{posted_to_sta, call_sort, verdict_on, is_handled_in, arguments_gone, admission, due_of, back_answer, packet_left, answered, after_script, legal}
use Rattle.com_model.specs.Safe.{EachEntry, EachPrefix, OwnReply, Replies, is_refused_route, Refused, HasCause, Causes}
use Rattle.com_model.proofs.Given.{cond-of}
use Rattle.com_model.proofs.Onces.{legal-once}
use Rattle.com_laws_safety.proofs.Sources.{IsRest, Source, by_body, by_script, by_end, by_final, by_own, by_answer, by_inbox, by_retry, by_again, by_rest, next-source}
use Rattle.com_laws_safety.proofs.Acted.{ActionSort, action_sort, OfAction, deed-acted}
use Rattle.com_laws_safety.proofs.Waits.{First, taken-first, next-taken, own-enters}

-- ---- a law of each entry from a law of each next deed

pub each-next : (s : Scenario) (P : List Entry → ℕ → Deed → Type 0) → ((h : List Entry) (l : ℕ) (d : Deed) → legal s h → Source s (sight s h) l d → P h l d) → (h : List Entry) → legal s h → EachEntry P h
each-next s P f [] p = tt
each-next s P f (e ∷ h) p = (each-next s P f h p.0, f h e.lane e.deed p.0 (next-source s h e.lane e.deed p.1))

-- A law of each prefix.
pub each-prefix : (s : Scenario) (P : List Entry → Type 0) → ((h : List Entry) → legal s h → P h) → (h : List Entry) → legal s h → EachPrefix P h
each-prefix s P f [] p = f [] p
each-prefix s P f (e ∷ h) p = (each-prefix s P f h p.0, f (e ∷ h) p)

-- ---- causes

refused : (s : Scenario) (h : List Entry) (l : ℕ) (d : Deed) (b : Bool) → option_map (deed_of s (sight s h) l) (act s h l) ≡ Some d → Refused s h l d b
refused s h l d true e = e
refused s h l d false e = tt

acted-cause : (s : Scenario) (h : List Entry) (l : ℕ) (b : ActionSort) (d : Deed) → OfAction b d → option_map (deed_of s (sight s h) l) (act s h l) ≡ Some d → HasCause s h l d
acted-cause s h l b (deed.Back c hr v) p e = absurd p
acted-cause s h l b (deed.Refuse c hr) p e = absurd p
acted-cause s h l b (deed.Verdict c t v) p e = absurd p
acted-cause s h l b (deed.Out c o i m r k bytes) p e = refused s h l (deed.Out c o i m r k bytes) (is_refused_route r) e
acted-cause s h l b d p e = refused s h l d (not (is_S_OK (answer_in d))) e

rest-cause : (s : Scenario) (h : List Entry) (l : ℕ) (d : Deed) → IsRest d → HasCause s h l d
rest-cause s h l deed.EndPump p = tt
rest-cause s h l (deed.Word w) p = tt
rest-cause s h l (deed.Pending c w n) p = tt
rest-cause s h l (deed.Tick t) p = tt
rest-cause s h l _ p = absurd p

answered-cause : (s : Scenario) (h : List Entry) (l c : ℕ) (x : Answer) (p : Option ℕ) → due_of (sight s h) c ≡ Some x → HasCause s h l (answered (sight s h) c x p)
answered-cause s h l c x (Some p) e = tt
answered-cause s h l c x None e = ap (option_map (back_answer (sight s h) c)) e

admission-cause : (s : Scenario) (h : List Entry) (l c : ℕ) → HasCause s h l (admission s (sight s h) l c)
admission-cause s h l c =
    let v : Sight = sight s h in
    let P : Deed → Type 0 = λ d. admission s v l c ≡ d → HasCause s h l d in
    cond-of P (nat_le 256 (length (v.openers l))) (deed.Refuse c RPC_E_OUT_OF_RESOURCES) _ (λ e. e)
    (cond-of P (posted_to_sta v c && not (is_handled_in s v l c)) (deed.Verdict c (call_sort v l c) (verdict_on s v l c)) _ (λ e. e)
    (cond-of P (arguments_gone v c) (deed.Refuse c RPC_E_SERVER_CANTUNMARSHAL_DATA) (deed.Enter c (object_of (v.issue c)) (v.owner (object_of (v.issue c)) l) (where_true (posted_to_sta v c) (call_sort v l c)) (v.unread c)) (λ e. e) (λ e. tt)))
    refl

ended-cause : (s : Scenario) (h : List Entry) (l : ℕ) → HasCause s h l (after_script (sight s h) l)
ended-cause s h l = cond-of (HasCause s h l) ((sight s h).count l == 0) deed.End (uninitialised (sight s h) l) tt tt

acted-by : (s : Scenario) (v : Sight) (l : ℕ) (x : Action) (d : Deed) → v.act l ≡ Some x → deed_of s v l x ≡ d → option_map (deed_of s v l) (v.act l) ≡ Some d
acted-by s v l x d p e = subst (λ (y : Deed). option_map (deed_of s v l) (v.act l) ≡ Some y) e (ap (option_map (deed_of s v l)) p)

pub has-cause : (s : Scenario) (h : List Entry) (l : ℕ) (d : Deed) → Source s (sight s h) l d → HasCause s h l d
has-cause s h l d (by_body c o a os x p q e) = acted-cause s h l (action_sort x) d (subst (OfAction (action_sort x)) e (deed-acted s (sight s h) l x)) (acted-by s (sight s h) l x d q e)
has-cause s h l d (by_script x p t q e) = acted-cause s h l (action_sort x) d (subst (OfAction (action_sort x)) e (deed-acted s (sight s h) l x)) (acted-by s (sight s h) l x d q e)
has-cause s h l d (by_end p t e) = subst (HasCause s h l) e (ended-cause s h l)
has-cause s h l d (by_final o p e) = subst (HasCause s h l) e tt
has-cause s h l d (by_own c p q e) = subst (HasCause s h l) e (admission-cause s h l c)
has-cause s h l d (by_answer c x p q e) = subst (HasCause s h l) e (answered-cause s h l c x (packet_left (sight s h) c) q)
has-cause s h l d (by_inbox c p q e) = subst (HasCause s h l) e (admission-cause s h l c)
has-cause s h l d (by_retry c n x q e) = subst (HasCause s h l) e tt
has-cause s h l d (by_again c t q e) = subst (HasCause s h l) e tt
has-cause s h l d (by_rest p) = rest-cause s h l d p

pub legal-causes : (s : Scenario) (h : List Entry) → legal s h → Causes s h
legal-causes s = each-next s (HasCause s) (λ h l d p z. has-cause s h l d z)

-- ---- a call's own values and answers

acted-reply : (s : Scenario) (h : List Entry) (l : ℕ) (b : ActionSort) (d : Deed) → OfAction b d → option_map (deed_of s (sight s h) l) (act s h l) ≡ Some d → OwnReply s h l d
acted-reply s h l b (deed.Enter c o a t vs) p e = absurd p
acted-reply s h l b (deed.Leave c hr v bytes) p e = e
acted-reply s h l b (deed.Back c hr v) p e = absurd p
acted-reply s h l b _ p e = tt

rest-reply : (s : Scenario) (h : List Entry) (l : ℕ) (d : Deed) → IsRest d → OwnReply s h l d
rest-reply s h l deed.EndPump p = tt
rest-reply s h l (deed.Word w) p = tt
rest-reply s h l (deed.Pending c w n) p = tt
rest-reply s h l (deed.Tick t) p = tt
rest-reply s h l _ p = absurd p

answered-reply : (s : Scenario) (h : List Entry) (l c : ℕ) (x : Answer) (p : Option ℕ) → due_of (sight s h) c ≡ Some x → OwnReply s h l (answered (sight s h) c x p)
answered-reply s h l c x (Some p) e = tt
answered-reply s h l c x None e = ap (option_map (back_answer (sight s h) c)) e

unread-all : (a : Option Admission) (x : Option Ending) (vs : List Value) → a ≡ None → x ≡ None → unread_values a x vs ≡ vs
unread-all None None vs p q = refl
unread-all None (Some y) vs p q = cc
unread-all (Some y) x vs p q = cc

admission-reply : (s : Scenario) (h : List Entry) (l c : ℕ) → admitted h c ≡ None → ending s h c ≡ None → OwnReply s h l (admission s (sight s h) l c)
admission-reply s h l c a n =
    let v : Sight = sight s h in
    cond-of (OwnReply s h l) (nat_le 256 (length (v.openers l))) (deed.Refuse c RPC_E_OUT_OF_RESOURCES) _ tt
    (cond-of (OwnReply s h l) (posted_to_sta v c && not (is_handled_in s v l c)) (deed.Verdict c (call_sort v l c) (verdict_on s v l c)) _ tt
    (cond-of (OwnReply s h l) (arguments_gone v c) (deed.Refuse c RPC_E_SERVER_CANTUNMARSHAL_DATA) (deed.Enter c (object_of (v.issue c)) (v.owner (object_of (v.issue c)) l) (where_true (posted_to_sta v c) (call_sort v l c)) (v.unread c)) tt (unread-all (admitted h c) (ending s h c) (sent s h c) a n, n)))

ended-reply : (s : Scenario) (h : List Entry) (l : ℕ) → OwnReply s h l (after_script (sight s h) l)
ended-reply s h l = cond-of (OwnReply s h l) ((sight s h).count l == 0) deed.End (uninitialised (sight s h) l) tt tt

pub own-reply : (s : Scenario) (h : List Entry) (l : ℕ) (d : Deed) → Source s (sight s h) l d → OwnReply s h l d
own-reply s h l d (by_body c o a os x p q e) = acted-reply s h l (action_sort x) d (subst (OfAction (action_sort x)) e (deed-acted s (sight s h) l x)) (acted-by s (sight s h) l x d q e)
own-reply s h l d (by_script x p t q e) = acted-reply s h l (action_sort x) d (subst (OfAction (action_sort x)) e (deed-acted s (sight s h) l x)) (acted-by s (sight s h) l x d q e)
own-reply s h l d (by_end p t e) = subst (OwnReply s h l) e (ended-reply s h l)
own-reply s h l d (by_final o p e) = subst (OwnReply s h l) e tt
own-reply s h l d (by_own c p q e) = subst (OwnReply s h l) e (admission-reply s h l c (own-enters (sight s h) c q).not_entered (own-enters (sight s h) c q).not_answered)
own-reply s h l d (by_answer c x p q e) = subst (OwnReply s h l) e (answered-reply s h l c x (packet_left (sight s h) c) q)
own-reply s h l d (by_inbox c p q e) = subst (OwnReply s h l) e (let f : (a : ℕ) × First s h a c = taken-first s h l (lane_sort s l) c (next-taken (sight s h) l (lane_sort s l) c q) in admission-reply s h l c f.1.not_entered f.1.not_answered)
own-reply s h l d (by_retry c n x q e) = subst (OwnReply s h l) e tt
own-reply s h l d (by_again c t q e) = subst (OwnReply s h l) e tt
own-reply s h l d (by_rest p) = rest-reply s h l d p

pub legal-own : (s : Scenario) (h : List Entry) → legal s h → EachEntry (OwnReply s) h
legal-own s = each-next s (OwnReply s) (λ h l d p z. own-reply s h l d z)

pub legal-replies : (s : Scenario) (h : List Entry) → legal s h → Replies s h
legal-replies s h p = (legal-once s h p, legal-own s h p)
