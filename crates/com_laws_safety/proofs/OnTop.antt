-- Who makes which deed: a body's action is made while its Enter is the top, and a script's while nothing is open.
use Rattle.std.proofs.Common.{subst, sym}
use Rattle.std.specs.Prelude.{◌≡◌, refl, ℕ, true, false, not, ◌&&◌, nat_le, length, List, [], ◌∷◌, Option, Some, None}
use Rattle.com_model.specs.declared.deeds.Deed.{Deed}
use Rattle.com_model.specs.declared.deeds.Deed.TheVariants as deed
use Rattle.com_model.specs.declared.deeds.Entry.{Entry}
use Rattle.com_model.specs.declared.scenario.Scenario.{Scenario}
use Rattle.com_model.specs.Answers.{RPC_E_OUT_OF_RESOURCES, RPC_E_SERVER_CANTUNMARSHAL_DATA}
use Rattle.com_model.specs.Lists.{where_true}
use Rattle.com_model.specs.Openers.{openers}
use Rattle.com_model.specs.declared.keeps.Opener.{Opener}
use Rattle.com_model.specs.declared.keeps.Opener.TheVariants.{Enters}
use Rattle.com_model.specs.Calls.{object_of}
use Rattle.com_model.specs.Endings.{Answer}
use Rattle.com_model.specs.Sight.{Sight, sight}
use Rattle.com_model.specs.Formed.{Formed}
use Rattle.com_model.specs.Rules.{posted_to_sta, call_sort, verdict_on, is_handled_in, arguments_gone, admission, packet_left, answered, legal}
use Rattle.com_model.specs.Safe.{EachEntry, Maker, BodyOrScript, ScriptAlone, ARule, maker, MadeOnTop}
use Rattle.com_model.proofs.Given.{cond-of}
use Rattle.com_laws_safety.proofs.Sources.{IsRest, Source, by_body, by_script, by_end, by_final, by_own, by_answer, by_inbox, by_retry, by_again, by_rest}
use Rattle.com_laws_safety.proofs.Acted.{ActionSort, Initial, Uninitial, OfScript, action_sort, is_of_script, OfAction, deed-acted}
use Rattle.com_laws_safety.proofs.Bodies.{not-scripts}
use Rattle.com_laws_safety.proofs.Caused.{each-next}

abbrev OnTop : List Opener → Deed → Type 0
OnTop os d = MadeOnTop (maker d) os

none-open : (m : Maker) → MadeOnTop m []
none-open ARule = tt
none-open BodyOrScript = tt
none-open ScriptAlone = tt

not-of-script : (t u : ActionSort) → is_of_script t ≡ false → is_of_script u ≡ true → t ≡ u → ⊥
not-of-script t u p q e = let z : is_of_script t ≡ true = subst (λ (x : ActionSort). is_of_script x ≡ true) (sym e) q in cc

above-enter : (t : ActionSort) (c o a : ℕ) (os : List Opener) (d : Deed) → is_of_script t ≡ false → OfAction t d → OnTop (Enters c o a ∷ os) d
above-enter t c o a os (deed.Init m b hr) q p = not-of-script t Initial q refl p
above-enter t c o a os (deed.Uninit b n) q p = not-of-script t Uninitial q refl p
above-enter t c o a os (deed.SetFilter f hr) q p = not-of-script t OfScript q refl p
above-enter t c o a os (deed.Pump n) q p = not-of-script t OfScript q refl p
above-enter t c o a os deed.End q p = absurd p
above-enter t c o a os (deed.DropPacket None hr) q p = tt
above-enter t c o a os (deed.DropPacket (Some k) hr) q p = tt
above-enter t c o a os _ q p = tt

rest-on-top : (os : List Opener) (d : Deed) → IsRest d → OnTop os d
rest-on-top os deed.EndPump p = tt
rest-on-top os (deed.Word w) p = tt
rest-on-top os (deed.Pending c w n) p = tt
rest-on-top os (deed.Tick t) p = tt
rest-on-top os _ p = absurd p

answered-on-top : (v : Sight) (os : List Opener) (c : ℕ) (x : Answer) (p : Option ℕ) → OnTop os (answered v c x p)
answered-on-top v os c x (Some p) = tt
answered-on-top v os c x None = tt

admission-on-top : (s : Scenario) (v : Sight) (os : List Opener) (l c : ℕ) → OnTop os (admission s v l c)
admission-on-top s v os l c =
    cond-of (OnTop os) (nat_le 256 (length (v.openers l))) (deed.Refuse c RPC_E_OUT_OF_RESOURCES) _ tt
    (cond-of (OnTop os) (posted_to_sta v c && not (is_handled_in s v l c)) (deed.Verdict c (call_sort v l c) (verdict_on s v l c)) _ tt
    (cond-of (OnTop os) (arguments_gone v c) (deed.Refuse c RPC_E_SERVER_CANTUNMARSHAL_DATA) (deed.Enter c (object_of (v.issue c)) (v.owner (object_of (v.issue c)) l) (where_true (posted_to_sta v c) (call_sort v l c)) (v.unread c)) tt tt))

pub made-on-top : (s : Scenario) → Formed s → (h : List Entry) (l : ℕ) (d : Deed) → Source s (sight s h) l d → MadeOnTop (maker d) (openers h l)
made-on-top s f h l d (by_body c o a os x p q e) =
    subst (λ (y : List Opener). OnTop y d) (sym p)
    (above-enter (action_sort x) c o a os d (not-scripts s h l c o a os x f p q) (subst (OfAction (action_sort x)) e (deed-acted s (sight s h) l x)))
made-on-top s f h l d (by_script x p t q e) = subst (λ (y : List Opener). OnTop y d) (sym p) (none-open (maker d))
made-on-top s f h l d (by_end p t e) = subst (λ (y : List Opener). OnTop y d) (sym p) (none-open (maker d))
made-on-top s f h l d (by_final o p e) = subst (OnTop (openers h l)) e tt
made-on-top s f h l d (by_own c p q e) = subst (OnTop (openers h l)) e (admission-on-top s (sight s h) (openers h l) l c)
made-on-top s f h l d (by_answer c x p q e) = subst (OnTop (openers h l)) e (answered-on-top (sight s h) (openers h l) c x (packet_left (sight s h) c))
made-on-top s f h l d (by_inbox c p q e) = subst (OnTop (openers h l)) e (admission-on-top s (sight s h) (openers h l) l c)
made-on-top s f h l d (by_retry c n x q e) = subst (OnTop (openers h l)) e tt
made-on-top s f h l d (by_again c t q e) = subst (OnTop (openers h l)) e tt
made-on-top s f h l d (by_rest p) = rest-on-top (openers h l) d p

pub legal-on-top : (s : Scenario) (h : List Entry) → Formed s → legal s h → EachEntry (λ h l d. MadeOnTop (maker d) (openers h l)) h
legal-on-top s h f = each-next s (λ h l d. MadeOnTop (maker d) (openers h l)) (λ h l d p z. made-on-top s f h l d z) h
