-- In a formed scenario an Enter has at most 4 values, and what is made or asked for is by an interface of 16 bits.
use Rattle.std.proofs.Common.{subst, sym, ◌∙◌, arith}
use Rattle.std.proofs.lemmas.List.Quantifiers.{position-Some}
use Rattle.std.specs.Prelude.{◌≡◌, refl, ℕ, ◌<◌, ◌≤◌, ◌^◌, Bool, true, false, ◌==◌, List, [], ◌∷◌, length, Option, Some, None, option_map, position}
use Rattle.com_base.specs.declared.value.Value.{Value}
use Rattle.com_body.specs.declared.operands.Asked.{Asked}
use Rattle.com_body.specs.declared.operands.Asked.TheVariants as asked
use Rattle.com_body.specs.declared.actions.Action.{Action}
use Rattle.com_body.specs.declared.actions.Action.TheVariants as action
use Rattle.com_body.specs.declared.frame.Outcome.{Outcome}
use Rattle.com_classes.specs.declared.interfaces.Interface.{Interface}
use Rattle.com_classes.specs.Lookups.{interface_at, find_interface}
use Rattle.com_model.specs.declared.deeds.Deed.{Deed}
use Rattle.com_model.specs.declared.deeds.Deed.TheVariants as deed
use Rattle.com_model.specs.declared.deeds.Entry.{Entry}
use Rattle.com_model.specs.declared.keeps.Issue.{Issue}
use Rattle.com_model.specs.declared.keeps.Admission.{Admission}
use Rattle.com_model.specs.declared.keeps.Ending.{Ending}
use Rattle.com_model.specs.declared.scenario.Scenario.{Scenario}
use Rattle.com_model.specs.Tables.{interface_number, shown}
use Rattle.com_model.specs.Apartments.{next_sta}
use Rattle.com_model.specs.Objects.{objects, class_of}
use Rattle.com_model.specs.Calls.{issues, issue, admitted, is_marshalled}
use Rattle.com_model.specs.Books.{books}
use Rattle.com_model.specs.Endings.{ending}
use Rattle.com_model.specs.Issue.{own_values, values_or, sent, unread_values}
use Rattle.com_model.specs.Frames.{scene, Actor, actor_in, action_of, outcome, unless_over, act}
use Rattle.com_model.specs.Formed.{IsInterfaceNamed, Formed}
use Rattle.com_model.specs.Sight.{sight}
use Rattle.com_model.specs.Rules.{next, legal}
use Rattle.com_model.specs.State.{State, StandsFor, next_of}
use Rattle.com_model.proofs.Fines.{FineBy}
use Rattle.com_model.proofs.Sights.{same-next}
use Rattle.com_laws_balance.proofs.Makings.{fine-next}
use Rattle.com_laws_balance.proofs.Says.{Says, next-says}
use Rattle.com_scene.specs.Ranges.{FitsDeed, IsInterface, HasInterface}
use Rattle.com_laws_ranges.proofs.Homes.{AsksFor, homes-say}
use Rattle.com_laws_ranges.proofs.Numbers.{out-few}
use Rattle.com_laws_ranges.proofs.Writing.{Proper, ProperOut, outcome-proper}

-- ---- values

abbrev Few : List Value → Type 0
Few vs = length vs ≤ 4

none-few : Few []
none-few = omega arith

own-few : (s : Scenario) → Formed s → (h : List Entry) (i : Issue) (t : Bool) (before : List Value) → Few before → Few (own_values s h i t before)
own-few s f h i true before p = out-few s f (books s h) (is_marshalled i.route) (act s h i.lane)
own-few s f h i false before p = p

issued-few : (s : Scenario) → Formed s → (h : List Entry) (x : Option Issue) (c : ℕ) (before : List Value) → Few before → Few (values_or s h x c before)
issued-few s f h None c before p = p
issued-few s f h (Some i) c before p = own-few s f h i (i.call == c) before p

sent-few : (s : Scenario) → Formed s → (h : List Entry) (c : ℕ) → Few (sent s h c)
sent-few s f [] c = none-few
sent-few s f (e ∷ h) c = issued-few s f h (issues e.lane e.deed) c (sent s h c) (sent-few s f h c)

unread-few : (a : Option Admission) (x : Option Ending) (vs : List Value) → Few vs → Few (unread_values a x vs)
unread-few None None vs p = p
unread-few (Some a) x vs p = none-few
unread-few None (Some x) vs p = none-few

-- ---- interfaces

small : (s : Scenario) (i : ℕ) → Formed s → i < length s.classes.interfaces → i < 2 ^ 16
small s i f p = let few : length s.classes.interfaces ≤ 64 = f.interfaces.few in omega (arith, p, few)

same-number : (o : Option Interface) (i : ℕ) → i < 2 ^ 16 → IsInterface (shown (option_map (λ (k : Interface). i) o) (asked.Number i))
same-number None i p = p
same-number (Some k) i p = p

found-number : (test : Interface → Bool) (xs : List Interface) (o : Option ℕ) (a : Asked) → length xs ≤ 64 → IsInterface a → position test xs ≡ o → IsInterface (shown o a)
found-number test xs None a few p e = p
found-number test [] (Some i) a few p e = cc
found-number test (x ∷ xs) (Some i) a few p e = let z : i < length (x ∷ xs) = (position-Some test (x ∷ xs) i x e).0 in omega (arith, z, few)

shown-fits : (s : Scenario) (i : Asked) → Formed s → IsInterfaceNamed s i → IsInterface (shown (interface_number s i) i)
shown-fits s (asked.Number i) f p = same-number (interface_at s.classes i) i (small s i f p)
shown-fits s (asked.Guid g) f p = found-number _ s.classes.interfaces (find_interface s.classes g) (asked.Guid g) f.interfaces.few tt refl

from-out : (s : Scenario) (o : Option Outcome) (x : Action) → ProperOut s o → action_of o ≡ Some x → Proper s x
from-out s None x p e = cc
from-out s (Some r) x p e = subst (Proper s) (same e) p
  where
    same : Some r.action ≡ Some x → r.action ≡ x
    same e = cc

act-proper : (s : Scenario) (h : List Entry) (l : ℕ) (x : Action) → Formed s → act s h l ≡ Some x → Proper s x
act-proper s h l x f e =
    let a : Actor = unless_over (actor_in s h l) (outcome s (class_of h) (issue h) (scene s h) (actor_in s h l)) in
    from-out s (outcome s (class_of h) (issue h) (scene s h) a) x (outcome-proper s f (class_of h) (issue h) (scene s h) a) e

query-fits : (s : Scenario) (h : List Entry) (l : ℕ) (o : Option ℕ) (i : Asked) → Formed s → AsksFor s (sight s h) l i → HasInterface o i
query-fits s h l None i f z = tt
query-fits s h l (Some o) i f z = subst IsInterface (sym z.is) (shown-fits s z.iface f (act-proper s h l (action.Query z.to z.held z.iface) f z.acts).1)

deed-fits : (s : Scenario) (h : List Entry) (l : ℕ) (d : Deed) → Formed s → legal s (record { lane = l; deed = d } ∷ h) → FineBy (objects h) (length s.classes.interfaces) (next_sta h) d → FitsDeed d
deed-fits s h l (deed.Enter c o a t vs) f q g =
    let z : Says s (sight s h) l (deed.Enter c o a t vs) = next-says s h l (deed.Enter c o a t vs) q.1 in
    subst Few (sym z.2) (unread-few (admitted h c) (ending s h c) (sent s h c) (sent-few s f h c))
deed-fits s h l (deed.Made None a k i hr) f q g = tt
deed-fits s h l (deed.Made (Some o) None k i hr) f q g = absurd g
deed-fits s h l (deed.Made (Some o) (Some a) k (asked.Number i) hr) f q g = small s i f g.2
deed-fits s h l (deed.Made (Some o) (Some a) k (asked.Guid x) hr) f q g = tt
deed-fits s h l (deed.Query o i hr) f q g = query-fits s h l o i f (homes-say s h l (deed.Query o i hr) q.1)
deed-fits s h l _ f q g = tt

pub entry-fits : (s : Scenario) (st : State) (h : List Entry) (l : ℕ) (d : Deed) → Formed s → StandsFor s st h → next_of s st l ≡ Some d → FitsDeed d
entry-fits s st h l d f p q =
    let n : next s h l ≡ Some d = sym (same-next s st h l p) ∙ q in
    deed-fits s h l d f (p.lawful, n) (fine-next s h (record { lane = l; deed = d }) f (p.lawful, n))
