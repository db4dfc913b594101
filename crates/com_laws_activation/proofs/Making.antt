-- Each Made entry is what the factory answers.
use Rattle.std.proofs.Common.{subst, sym, ap, ◌∙◌}
use Rattle.std.specs.Prelude.{◌≡◌, refl, ℕ, Bool, true, false, not, ◌==◌, ◌&&◌, nat_le, length, List, [], ◌∷◌, Option, Some, None, Result, Ok, Err}
use Rattle.com_base.specs.declared.guid.Guid.{Guid}
use Rattle.com_base.specs.declared.hresult.HResult.{HResult}
use Rattle.com_body.specs.declared.operands.Asked.{Asked}
use Rattle.com_body.specs.declared.actions.Action.{Action}
use Rattle.com_body.specs.declared.actions.Action.TheVariants as action
use Rattle.com_classes.specs.declared.classes.Class.{Class}
use Rattle.com_classes.specs.declared.factory.Creator.{Creator}
use Rattle.com_classes.specs.declared.factory.Placed.{Placed}
use Rattle.com_classes.specs.Activation.{placed, placed_in}
use Rattle.com_classes.specs.Lookups.{class_at, find_class, find_interface}
use Rattle.com_classes.specs.Tables.{Tables}
use Rattle.com_model.specs.declared.deeds.Deed.{Deed}
use Rattle.com_model.specs.declared.deeds.Deed.TheVariants as deed
use Rattle.com_model.specs.declared.deeds.Entry.{Entry}
use Rattle.com_model.specs.declared.scenario.Scenario.{Scenario}
use Rattle.com_model.specs.Answers.{REGDB_E_CLASSNOTREG, RPC_E_OUT_OF_RESOURCES, RPC_E_SERVER_CANTUNMARSHAL_DATA}
use Rattle.com_model.specs.Tables.{class_number, interface_number}
use Rattle.com_model.specs.Apartments.{home}
use Rattle.com_model.specs.Lists.{where_true}
use Rattle.com_model.specs.Objects.{objects}
use Rattle.com_model.specs.Calls.{object_of}
use Rattle.com_model.specs.Frames.{act}
use Rattle.com_model.specs.Endings.{Answer}
use Rattle.com_model.specs.Sight.{Sight, sight}
use Rattle.com_model.specs.Deeds.{deed_of, creator, placing, made_as, created_of, created, uninitialised}
use Rattle.com_model.specs.Rules.{posted_to_sta, call_sort, verdict_on, is_handled_in, arguments_gone, admission, answered, packet_left, next, legal}
use Rattle.com_model.specs.Safe.{EachEntry}
use Rattle.com_model.proofs.Given.{cond-of}
use Rattle.com_laws_safety.proofs.Sources.{IsRest, Source, by_body, by_script, by_end, by_final, by_own, by_answer, by_inbox, by_retry, by_again, by_rest, next-source}
use Rattle.com_laws_safety.proofs.Acted.{ActionSort, Making, action_sort, OfAction, deed-acted}
use Rattle.com_laws_activation.specs.Activations.{creator_in, IsMade, Activates}

-- The factory's answer by the numbers that were found.
abbrev placed_by : Tables → Creator → (class iface : Option ℕ) → Result Placed HResult
placed_by t x None j = Err REGDB_E_CLASSNOTREG
placed_by t x (Some c) j = placing x c j (class_at t c)

placed-in : (t : Tables) (x : Creator) (c : ℕ) (j : Option ℕ) (o : Option Class) → (elim o [ None ↦ Err REGDB_E_CLASSNOTREG | Some k ↦ placed_in k c j x ]) ≡ placing x c j o
placed-in t x c j None = refl
placed-in t x c j (Some k) = refl

placed-of : (t : Tables) (x : Creator) (c j : Option ℕ) → (elim c [ None ↦ Err REGDB_E_CLASSNOTREG | Some n ↦ elim (class_at t n) [ None ↦ Err REGDB_E_CLASSNOTREG | Some k ↦ placed_in k n j x ] ]) ≡ placed_by t x c j
placed-of t x None j = refl
placed-of t x (Some c) j = placed-in t x c j (class_at t c)

placed-is : (t : Tables) (clsid iid : Guid) (x : Creator) → placed t clsid iid x ≡ placed_by t x (find_class t clsid) (find_interface t iid)
placed-is t clsid iid x = placed-of t x (find_class t clsid) (find_interface t iid)

-- ---- what was made

abbrev MadeAs : ℕ → Result Placed HResult → Deed → Type 0
MadeAs n r (deed.Made o a k i hr) = IsMade n r o a k i hr
MadeAs n r _ = ⊥

result-made : (s : Scenario) (v : Sight) (k i : Asked) (r : Result Placed HResult) → MadeAs v.objects r (made_as s v k i r)
result-made s v k i (Ok p) = (refl, refl, refl, refl, refl)
result-made s v k i (Err hr) = (refl, refl, refl)

created-made : (s : Scenario) (v : Sight) (l a : ℕ) (k i : Asked) (c j : Option ℕ) → MadeAs v.objects (placed_by s.classes (creator v l a) c j) (created_of s v l a k i c j)
created-made s v l a k i None j = (refl, refl, refl)
created-made s v l a k i (Some c) j = result-made s v k i (placing (creator v l a) c j (class_at s.classes c))

some-same : (x y : ℕ) → Some x ≡ Some y → x ≡ y
some-same x y e = cc

none-some : (x : Option ℕ) (y : ℕ) → x ≡ None → x ≡ Some y → ⊥
none-some None y e p = cc
none-some (Some z) y e p = cc

activated : (s : Scenario) (h : List Entry) (l slot a : ℕ) (k i : Asked) (d : Deed) → act s h l ≡ Some (action.Create slot k i) → home s h l ≡ Some a → ((clsid iid : Guid) → class_number s k ≡ find_class s.classes clsid → interface_number s i ≡ find_interface s.classes iid → MadeAs (objects h) (placed s.classes clsid iid (creator_in s h l a)) d) → Activates s h l d
activated s h l slot a k i (deed.Made o b c j hr) e p f = record {
  slot = slot;
  class = k;
  iface = i;
  acts = e;
  uninitialised = λ z. absurd (none-some (home s h l) a z p);
  answers = λ lives clsid iid z u w. subst (λ (n : ℕ). IsMade (objects h) (placed s.classes clsid iid (creator_in s h l n)) o b c j hr) (some-same a lives (sym p ∙ z)) (f clsid iid u w);
}
activated s h l slot a k i _ e p f = tt

made-at : (s : Scenario) (h : List Entry) (l a : ℕ) (k i : Asked) (clsid iid : Guid) → class_number s k ≡ find_class s.classes clsid → interface_number s i ≡ find_interface s.classes iid → MadeAs (objects h) (placed s.classes clsid iid (creator_in s h l a)) (created_of s (sight s h) l a k i (class_number s k) (interface_number s i))
made-at s h l a k i clsid iid p q =
    let x : Creator = creator (sight s h) l a in
    let d : Deed = created_of s (sight s h) l a k i (class_number s k) (interface_number s i) in
    subst (λ (r : Result Placed HResult). MadeAs (objects h) r d) (sym (placed-is s.classes clsid iid x))
    (subst (λ (c : Option ℕ). MadeAs (objects h) (placed_by s.classes x c (find_interface s.classes iid)) d) p
    (subst (λ (j : Option ℕ). MadeAs (objects h) (placed_by s.classes x (class_number s k) j) d) q
    (created-made s (sight s h) l a k i (class_number s k) (interface_number s i))))

created-activates : (s : Scenario) (h : List Entry) (l slot : ℕ) (k i : Asked) (x : Option ℕ) → act s h l ≡ Some (action.Create slot k i) → home s h l ≡ x → Activates s h l (created s (sight s h) l k i x)
created-activates s h l slot k i None e p = record {
  slot = slot;
  class = k;
  iface = i;
  acts = e;
  uninitialised = λ z. (refl, refl, refl);
  answers = λ lives clsid iid z u w. absurd (none-some (home s h l) lives p z);
}
created-activates s h l slot k i (Some a) e p = activated s h l slot a k i _ e p (made-at s h l a k i)

-- ---- every entry

false-true : false ≡ true → ⊥
false-true e = cc

abbrev is_making : ActionSort → Bool
is_making Making = true
is_making _ = false

-- An action that makes an object is a Create.
making-create : (P : Action → Type 0) (x : Action) → ((slot : ℕ) (k i : Asked) → x ≡ action.Create slot k i → P (action.Create slot k i)) → action_sort x ≡ Making → P x
making-create P (action.Create slot k i) f e = f slot k i refl
making-create P (action.Init m) f e = absurd (false-true (ap is_making e))
making-create P action.Uninit f e = absurd (false-true (ap is_making e))
making-create P (action.SetFilter y) f e = absurd (false-true (ap is_making e))
making-create P (action.Pump n) f e = absurd (false-true (ap is_making e))
making-create P (action.Call held i m args to) f e = absurd (false-true (ap is_making e))
making-create P (action.Query to held i) f e = absurd (false-true (ap is_making e))
making-create P (action.Copy to held) f e = absurd (false-true (ap is_making e))
making-create P (action.Release from held) f e = absurd (false-true (ap is_making e))
making-create P (action.Marshal b held m) f e = absurd (false-true (ap is_making e))
making-create P (action.Unmarshal slot b) f e = absurd (false-true (ap is_making e))
making-create P (action.Drop b) f e = absurd (false-true (ap is_making e))
making-create P (action.Raw b bytes) f e = absurd (false-true (ap is_making e))
making-create P (action.Register to held) f e = absurd (false-true (ap is_making e))
making-create P (action.Get slot g) f e = absurd (false-true (ap is_making e))
making-create P (action.Revoke g) f e = absurd (false-true (ap is_making e))
making-create P (action.Disconnect held) f e = absurd (false-true (ap is_making e))
making-create P (action.Post m w) f e = absurd (false-true (ap is_making e))
making-create P (action.Quit m) f e = absurd (false-true (ap is_making e))
making-create P (action.Leave hr v) f e = absurd (false-true (ap is_making e))

acted-activates : (s : Scenario) (h : List Entry) (l : ℕ) (x : Action) (d : Deed) → act s h l ≡ Some x → deed_of s (sight s h) l x ≡ d → OfAction (action_sort x) d → Activates s h l d
acted-activates s h l x (deed.Made o a k i hr) p e m = subst (Activates s h l) e (making-create (λ y. Activates s h l (deed_of s (sight s h) l y)) x (λ slot c j u. created-activates s h l slot c j (home s h l) (subst (λ (y : Action). act s h l ≡ Some y) u p) refl) m)
acted-activates s h l x _ p e m = tt

admission-activates : (s : Scenario) (h : List Entry) (l c : ℕ) → Activates s h l (admission s (sight s h) l c)
admission-activates s h l c =
    let v : Sight = sight s h in
    cond-of (Activates s h l) (nat_le 256 (length (v.openers l))) (deed.Refuse c RPC_E_OUT_OF_RESOURCES) _ tt
    (cond-of (Activates s h l) (posted_to_sta v c && not (is_handled_in s v l c)) (deed.Verdict c (call_sort v l c) (verdict_on s v l c)) _ tt
    (cond-of (Activates s h l) (arguments_gone v c) (deed.Refuse c RPC_E_SERVER_CANTUNMARSHAL_DATA) (deed.Enter c (object_of (v.issue c)) (v.owner (object_of (v.issue c)) l) (where_true (posted_to_sta v c) (call_sort v l c)) (v.unread c)) tt tt))

answered-activates : (s : Scenario) (h : List Entry) (l c : ℕ) (x : Answer) (p : Option ℕ) → Activates s h l (answered (sight s h) c x p)
answered-activates s h l c x (Some p) = tt
answered-activates s h l c x None = tt

rest-activates : (s : Scenario) (h : List Entry) (l : ℕ) (d : Deed) → IsRest d → Activates s h l d
rest-activates s h l (deed.Made o a k i hr) p = absurd p
rest-activates s h l _ p = tt

source-activates : (s : Scenario) (h : List Entry) (l : ℕ) (d : Deed) → Source s (sight s h) l d → Activates s h l d
source-activates s h l d (by_body c o a os x p q e) = acted-activates s h l x d q e (subst (OfAction (action_sort x)) e (deed-acted s (sight s h) l x))
source-activates s h l d (by_script x p t q e) = acted-activates s h l x d q e (subst (OfAction (action_sort x)) e (deed-acted s (sight s h) l x))
source-activates s h l d (by_end p t e) = subst (Activates s h l) e (cond-of (Activates s h l) ((sight s h).count l == 0) deed.End (uninitialised (sight s h) l) tt tt)
source-activates s h l d (by_final o p e) = subst (Activates s h l) e tt
source-activates s h l d (by_own c p q e) = subst (Activates s h l) e (admission-activates s h l c)
source-activates s h l d (by_answer c x p q e) = subst (Activates s h l) e (answered-activates s h l c x (packet_left (sight s h) c))
source-activates s h l d (by_inbox c n q e) = subst (Activates s h l) e (admission-activates s h l c)
source-activates s h l d (by_retry c n x q e) = subst (Activates s h l) e tt
source-activates s h l d (by_again c t q e) = subst (Activates s h l) e tt
source-activates s h l d (by_rest p) = rest-activates s h l d p

pub legal-activates : (s : Scenario) (h : List Entry) → legal s h → EachEntry (Activates s) h
legal-activates s [] q = tt
legal-activates s (e ∷ h) q = (legal-activates s h q.0, source-activates s h e.lane e.deed (next-source s h e.lane e.deed q.1))
