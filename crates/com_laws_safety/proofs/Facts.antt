-- What the entries that initialise a lane, issue a call or make an object say of what stood before them.
use Rattle.std.proofs.Common.{subst, ap}
use Rattle.std.specs.Prelude.{◌≡◌, refl, ℕ, Bool, true, false, cond, not, ◌==◌, ◌||◌, ◌&&◌, nat_le, length, List, Option, Some, None, Ok, Err}
use Rattle.com_base.specs.declared.hresult.HResult.{HResult}
use Rattle.com_base.specs.declared.value.RefValue.{RefValue}
use Rattle.com_base.specs.declared.value.Value.{Value}
use Rattle.com_base.specs.declared.value.Mode.{Mode}
use Rattle.com_body.specs.declared.operands.Asked.{Asked}
use Rattle.com_body.specs.declared.actions.Action.{Action}
use Rattle.com_body.specs.declared.actions.Action.TheVariants as action
use Rattle.com_classes.specs.declared.classes.Class.{Class}
use Rattle.com_classes.specs.declared.classes.ThreadingModel.{ThreadingModel}
use Rattle.com_classes.specs.declared.classes.ThreadingModel.TheVariants as model
use Rattle.com_classes.specs.declared.factory.Creator.{Creator}
use Rattle.com_classes.specs.Activation.{owner_for, is_agile}
use Rattle.com_classes.specs.Lookups.{class_at, class_has}
use Rattle.com_model.specs.declared.deeds.Deed.{Deed}
use Rattle.com_model.specs.declared.deeds.Deed.TheVariants as deed
use Rattle.com_model.specs.declared.deeds.Route.{Route}
use Rattle.com_model.specs.declared.deeds.Route.TheVariants as route
use Rattle.com_model.specs.declared.scenario.Scenario.{Scenario}
use Rattle.com_model.specs.Answers.{RPC_E_OUT_OF_RESOURCES, RPC_E_SERVER_CANTUNMARSHAL_DATA}
use Rattle.com_model.specs.Lists.{number_or_zero, is_number, where_true}
use Rattle.com_model.specs.Tables.{class_number, interface_number, has_agile_model, is_agile_class}
use Rattle.com_model.specs.Apartments.{neutral}
use Rattle.com_model.specs.Objects.{asked_number}
use Rattle.com_model.specs.Calls.{object_of}
use Rattle.com_model.specs.Endings.{Answer}
use Rattle.com_model.specs.Issue.{call_refusal}
use Rattle.com_model.specs.Sight.{Sight}
use Rattle.com_model.specs.Deeds.{deed_of, created, created_of, made_as, creator, placing, initialised, uninitialised, owned_by, called}
use Rattle.com_model.specs.Rules.{posted_to_sta, call_sort, verdict_on, is_handled_in, arguments_gone, admission, packet_left, answered, after_script}
use Rattle.com_model.proofs.Given.{cond-of}
use Rattle.com_laws_safety.proofs.Sources.{IsRest, Source, by_body, by_script, by_end, by_final, by_own, by_answer, by_inbox, by_retry, by_again, by_rest}
use Rattle.com_laws_safety.proofs.Acted.{Common, OfAction, deed-acted}

-- The apartment is the neutral one or the home.
abbrev pub near : Option ℕ → ℕ → Bool
near home a = a == neutral || is_number a home

abbrev pub RouteFact : Sight → ℕ → ℕ → Route → Type 0
RouteFact v l o route.Direct = v.owns o (number_or_zero (v.running l)) ≡ true
RouteFact v l o route.Switch = near (v.home l) (v.named o) ≡ true
RouteFact v l o _ = Unit {0}

abbrev pub Fact : Scenario → Sight → ℕ → Deed → Type 0
Fact s v l (deed.Init m a hr) = initialised v m (v.home l) ≡ deed.Init m a hr
Fact s v l (deed.Uninit a n) = a ≡ v.home l
Fact s v l (deed.Out c o i m r k bytes) = RouteFact v l (number_or_zero o) r
Fact s v l (deed.Made (Some o) (Some a) k i hr) = is_agile_class s (asked_number k) ≡ true → a ≡ 0
Fact s v l _ = Unit {0}

common-fact : (s : Scenario) (v : Sight) (l : ℕ) (d : Deed) → OfAction Common d → Fact s v l d
common-fact s v l (deed.Init m a hr) p = cc
common-fact s v l (deed.Uninit a n) p = cc
common-fact s v l (deed.Out c o i m r k bytes) p = cc
common-fact s v l (deed.Made (Some o) (Some a) k i hr) p = cc
common-fact s v l (deed.Made (Some o) None k i hr) p = tt
common-fact s v l (deed.Made None a k i hr) p = tt
common-fact s v l _ p = tt

-- ---- making an object

agile-owner : (m : ThreadingModel) (x : Creator) → is_agile m ≡ true → owner_for m x ≡ 0
agile-owner model.Agile x e = refl
agile-owner model.Nothing x e = cc
agile-owner model.Apartment x e = cc
agile-owner model.Free x e = cc
agile-owner model.Both x e = cc
agile-owner model.Neutral x e = cc

placed-fact : (s : Scenario) (v : Sight) (l : ℕ) (k i : Asked) (x : Creator) (c j : ℕ) (t : Class) (b : Bool) → class_at s.classes c ≡ Some t → Fact s v l (made_as s v k i (cond b (Ok (record { class = c; iface = j; owner = owner_for t.model x; agile = is_agile t.model })) (Err (record { 0 = 0x80004002 }))))
placed-fact s v l k i x c j t true e = λ p. agile-owner t.model x (subst (λ (o : Option Class). has_agile_model o ≡ true) e p)
placed-fact s v l k i x c j t false e = tt

made-fact : (s : Scenario) (v : Sight) (l : ℕ) (k i : Asked) (x : Creator) (c : ℕ) (j : Option ℕ) (t : Option Class) → class_at s.classes c ≡ t → Fact s v l (made_as s v k i (placing x c j t))
made-fact s v l k i x c j None e = tt
made-fact s v l k i x c None (Some t) e = tt
made-fact s v l k i x c (Some j) (Some t) e = placed-fact s v l k i x c j t (class_has t j) e

created_of-fact : (s : Scenario) (v : Sight) (l a : ℕ) (k i : Asked) (c j : Option ℕ) → Fact s v l (created_of s v l a k i c j)
created_of-fact s v l a k i None j = tt
created_of-fact s v l a k i (Some c) j = made-fact s v l k i (creator v l a) c j (class_at s.classes c) refl

created-fact : (s : Scenario) (v : Sight) (l : ℕ) (k i : Asked) (a : Option ℕ) → Fact s v l (created s v l k i a)
created-fact s v l k i None = tt
created-fact s v l k i (Some a) = created_of-fact s v l a k i (class_number s k) (interface_number s i)

-- ---- initialising, and issuing a call

initialised-fact : (s : Scenario) (v : Sight) (l : ℕ) (m : Mode) (h : Option ℕ) → v.home l ≡ h → Fact s v l (initialised v m h)
initialised-fact s v l m None e = ap (initialised v m) e
initialised-fact s v l m (Some a) e = ap (initialised v m) e

way-fact : (s : Scenario) (v : Sight) (l o : ℕ) (d w : Bool) → v.owns o (number_or_zero (v.running l)) ≡ d → near (v.home l) (v.named o) ≡ w → RouteFact v l o (cond d route.Direct (cond w route.Switch route.Post))
way-fact s v l o true w p q = p
way-fact s v l o false true p q = q
way-fact s v l o false false p q = tt

called-fact : (s : Scenario) (v : Sight) (l : ℕ) (held : Option RefValue) (i m : ℕ) (args : List Value) (hr : Option HResult) → Fact s v l (called s v l held i m args hr)
called-fact s v l held i m args (Some hr) = tt
called-fact s v l None i m args None = tt
called-fact s v l (Some r) i m args None = way-fact s v l r.object (owned_by v l r.object) (near (v.home l) (v.named r.object)) refl refl

deed-fact : (s : Scenario) (v : Sight) (l : ℕ) (a : Action) → Fact s v l (deed_of s v l a)
deed-fact s v l (action.Create slot k i) = created-fact s v l k i (v.home l)
deed-fact s v l (action.Call held i m args to) = called-fact s v l held i m args (call_refusal s (v.home l) (v.running l) v.owns v.books.live held i m)
deed-fact s v l (action.Init m) = initialised-fact s v l m (v.home l) refl
deed-fact s v l action.Uninit = refl
deed-fact s v l (action.SetFilter f) = tt
deed-fact s v l (action.Pump n) = tt
deed-fact s v l a = common-fact s v l (deed_of s v l a) (deed-acted s v l a)

-- ---- by the rules

-- The deeds that rules make.
abbrev pub IsRuled : Deed → Type 0
IsRuled (deed.DropPacket p hr) = Unit {0}
IsRuled (deed.Verdict c t v) = Unit {0}
IsRuled (deed.Refuse c hr) = Unit {0}
IsRuled (deed.Enter c o a t vs) = Unit {0}
IsRuled (deed.Retry c n) = Unit {0}
IsRuled (deed.Again c) = Unit {0}
IsRuled (deed.Back c hr v) = Unit {0}
IsRuled (deed.Final o) = Unit {0}
IsRuled deed.EndPump = Unit {0}
IsRuled (deed.Word w) = Unit {0}
IsRuled (deed.Pending c w n) = Unit {0}
IsRuled (deed.Tick t) = Unit {0}
IsRuled deed.End = Unit {0}
IsRuled _ = ⊥

pub admission-ruled : (s : Scenario) (v : Sight) (l c : ℕ) → IsRuled (admission s v l c)
admission-ruled s v l c =
    cond-of IsRuled (nat_le 256 (length (v.openers l))) (deed.Refuse c RPC_E_OUT_OF_RESOURCES) _ tt
    (cond-of IsRuled (posted_to_sta v c && not (is_handled_in s v l c)) (deed.Verdict c (call_sort v l c) (verdict_on s v l c)) _ tt
    (cond-of IsRuled (arguments_gone v c) (deed.Refuse c RPC_E_SERVER_CANTUNMARSHAL_DATA) (deed.Enter c (object_of (v.issue c)) (v.owner (object_of (v.issue c)) l) (where_true (posted_to_sta v c) (call_sort v l c)) (v.unread c)) tt tt))

pub answered-ruled : (v : Sight) (c : ℕ) (x : Answer) (p : Option ℕ) → IsRuled (answered v c x p)
answered-ruled v c x (Some p) = tt
answered-ruled v c x None = tt

pub rest-ruled : (d : Deed) → IsRest d → IsRuled d
rest-ruled deed.EndPump p = tt
rest-ruled (deed.Word w) p = tt
rest-ruled (deed.Pending c w n) p = tt
rest-ruled (deed.Tick t) p = tt
rest-ruled _ p = absurd p

ruled-fact : (s : Scenario) (v : Sight) (l : ℕ) (d : Deed) → IsRuled d → Fact s v l d
ruled-fact s v l (deed.Init m a hr) p = absurd p
ruled-fact s v l (deed.Uninit a n) p = absurd p
ruled-fact s v l (deed.Out c o i m r k bytes) p = absurd p
ruled-fact s v l (deed.Made o a k i hr) p = absurd p
ruled-fact s v l _ p = tt

ended-fact : (s : Scenario) (v : Sight) (l : ℕ) → Fact s v l (after_script v l)
ended-fact s v l = cond-of (Fact s v l) (v.count l == 0) deed.End (uninitialised v l) tt refl

pub source-fact : (s : Scenario) (v : Sight) (l : ℕ) (d : Deed) → Source s v l d → Fact s v l d
source-fact s v l d (by_body c o a os x p q e) = subst (Fact s v l) e (deed-fact s v l x)
source-fact s v l d (by_script x p t q e) = subst (Fact s v l) e (deed-fact s v l x)
source-fact s v l d (by_end p t e) = subst (Fact s v l) e (ended-fact s v l)
source-fact s v l d (by_final o p e) = subst (Fact s v l) e tt
source-fact s v l d (by_own c p q e) = ruled-fact s v l d (subst IsRuled e (admission-ruled s v l c))
source-fact s v l d (by_answer c x p q e) = ruled-fact s v l d (subst IsRuled e (answered-ruled v c x (packet_left v c)))
source-fact s v l d (by_inbox c p q e) = ruled-fact s v l d (subst IsRuled e (admission-ruled s v l c))
source-fact s v l d (by_retry c n x q e) = subst (Fact s v l) e tt
source-fact s v l d (by_again c t q e) = subst (Fact s v l) e tt
source-fact s v l d (by_rest p) = ruled-fact s v l d (rest-ruled d p)
