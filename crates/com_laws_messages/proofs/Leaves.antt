-- What a Leave says that the rules give to its lane: its value and its bytes.
use Rattle.std.proofs.Common.{subst, sym, ap, ◌∙◌}
use Rattle.std.specs.Prelude.{◌≡◌, refl, ℕ, not, ◌&&◌, List, Option, Some, None, option_map}
use Rattle.com_base.specs.declared.hresult.HResult.{HResult}
use Rattle.com_base.specs.declared.value.Value.{Value}
use Rattle.com_body.specs.declared.actions.Action.{Action}
use Rattle.com_classes.specs.Lookups.{method_at}
use Rattle.com_model.specs.declared.deeds.Deed.{Deed}
use Rattle.com_model.specs.declared.deeds.Deed.TheVariants as deed
use Rattle.com_model.specs.declared.deeds.Entry.{Entry}
use Rattle.com_model.specs.declared.scenario.Scenario.{Scenario}
use Rattle.com_model.specs.Tables.{result_kind}
use Rattle.com_model.specs.Openers.{openers, running_call}
use Rattle.com_model.specs.declared.keeps.Opener.{Opener}
use Rattle.com_model.specs.Calls.{issue, is_marshalled}
use Rattle.com_model.specs.declared.keeps.Issue.{Issue}
use Rattle.com_model.specs.Values.{sent_result}
use Rattle.com_model.specs.Frames.{act}
use Rattle.com_model.specs.Sight.{Sight, sight}
use Rattle.com_model.specs.Deeds.{deed_of, reply_for, left_as, left_by}
use Rattle.com_model.specs.Rules.{next}
use Rattle.com_laws_safety.proofs.Caused.{own-reply}
use Rattle.com_laws_safety.proofs.Sources.{next-source}
use Rattle.com_laws_balance.proofs.Answered.{TopEnter, leave-top}
use Rattle.com_laws_balance.proofs.Says.{LeaveSays, next-says}

pub record LeaveGives (s : Scenario) (v : Sight) (l c : ℕ) (i : Issue) (hr : HResult) (x : Option Value) (bytes : Option (List ℕ)) : Type 0 where
  pub given : Option Value
  pub sent : x ≡ sent_result (is_marshalled i.route) v.books.live hr (result_kind (method_at s.classes i.iface i.method)) given
  pub spelled : bytes ≡ reply_for s v l (is_marshalled i.route && not (v.returned c)) hr x

same-leave : (c k : ℕ) (hr g : HResult) (x y : Option Value) (a b : Option (List ℕ)) → Some (deed.Leave c hr x a) ≡ Some (deed.Leave k g y b) → (x ≡ y) × (a ≡ b)
same-leave c k hr g x y a b e = (cc, cc)

left : (s : Scenario) (v : Sight) (l c : ℕ) (i : Issue) (hr : HResult) (given x : Option Value) (bytes : Option (List ℕ)) → Some (left_as s v l c (Some i) hr given) ≡ Some (deed.Leave c hr x bytes) → LeaveGives s v l c i hr x bytes
left s v l c i hr given x bytes e =
    let y : Option Value = sent_result (is_marshalled i.route) v.books.live hr (result_kind (method_at s.classes i.iface i.method)) given in
    let z : (y ≡ x) × (reply_for s v l (is_marshalled i.route && not (v.returned c)) hr y ≡ bytes) = same-leave _ _ _ _ _ _ _ _ e in
    record {
      given = given;
      sent = sym z.0;
      spelled = sym z.1 ∙ ap (λ (u : Option Value). reply_for s v l (is_marshalled i.route && not (v.returned c)) hr u) z.0;
    }

-- A Leave is what the body's step gives to the call on top.
record LeaveMade (s : Scenario) (h : List Entry) (l c : ℕ) (hr : HResult) (x : Option Value) (bytes : Option (List ℕ)) : Type 0 where
  given : Option Value
  is : Some (left_as s (sight s h) l c (issue h c) hr given) ≡ Some (deed.Leave c hr x bytes)

leave-made : (s : Scenario) (h : List Entry) (l c : ℕ) (hr : HResult) (x : Option Value) (bytes : Option (List ℕ)) → next s h l ≡ Some (deed.Leave c hr x bytes) → LeaveMade s h l c hr x bytes
leave-made s h l c hr x bytes e =
    let v : Sight = sight s h in
    let d : Deed = deed.Leave c hr x bytes in
    let z : LeaveSays s v l c hr x bytes = next-says s h l d e in
    let top : TopEnter (openers h l) c = leave-top s h l c d hr x bytes e refl in
    let a : option_map (deed_of s v l) (act s h l) ≡ Some d = own-reply s h l d (next-source s h l d e) in
    let b : Some (left_by s v l hr z.given (running_call (openers h l))) ≡ Some d = subst (λ (y : Option Action). option_map (deed_of s v l) y ≡ Some d) z.acts a in
    record { given = z.given; is = subst (λ (os : List Opener). Some (left_by s v l hr z.given (running_call os)) ≡ Some d) top.is b }

pub leave-gives : (s : Scenario) (h : List Entry) (l c : ℕ) (i : Issue) (hr : HResult) (x : Option Value) (bytes : Option (List ℕ)) → next s h l ≡ Some (deed.Leave c hr x bytes) → issue h c ≡ Some i → LeaveGives s (sight s h) l c i hr x bytes
leave-gives s h l c i hr x bytes e issued =
    let z : LeaveMade s h l c hr x bytes = leave-made s h l c hr x bytes e in
    left s (sight s h) l c i hr z.given x bytes (subst (λ (y : Option Issue). Some (left_as s (sight s h) l c y hr z.given) ≡ Some (deed.Leave c hr x bytes)) issued z.is)

-- A Leave of a call that was not issued replies nothing.
silent : (s : Scenario) (v : Sight) (l c : ℕ) (hr : HResult) (given x : Option Value) (bytes : List ℕ) → Some (left_as s v l c None hr given) ≡ Some (deed.Leave c hr x (Some bytes)) → ⊥
silent s v l c hr given x bytes e = let z : (None ≡ x) × (None ≡ Some bytes) = same-leave _ _ _ _ _ _ _ _ e in none-some bytes z.1
  where
    none-some : (y : List ℕ) → None ≡ Some y → ⊥
    none-some y e = cc

pub unissued-silent : (s : Scenario) (h : List Entry) (l c : ℕ) (hr : HResult) (x : Option Value) (bytes : List ℕ) → next s h l ≡ Some (deed.Leave c hr x (Some bytes)) → issue h c ≡ None → ⊥
unissued-silent s h l c hr x bytes e none =
    let z : LeaveMade s h l c hr x (Some bytes) = leave-made s h l c hr x (Some bytes) e in
    silent s (sight s h) l c hr z.given x bytes (subst (λ (y : Option Issue). Some (left_as s (sight s h) l c y hr z.given) ≡ Some (deed.Leave c hr x (Some bytes))) none z.is)
