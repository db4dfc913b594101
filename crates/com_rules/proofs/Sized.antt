-- How many values travel and how many references they carry, and that what is sent of a result that can travel can travel.
use Rattle.std.specs.Prelude.{All}
use Rattle.std.proofs.Common.{◌≡◌, ℕ, ◌≤◌, Bool, true, false, cond, ◌&&◌, List, [], ◌∷◌, Option, Some, None, length, refl, sym, subst, arith}
use Rattle.std.proofs.lemmas.List.Elements.{All-cons, All-nil}
use Rattle.com_base.specs.declared.hresult.HResult.{HResult}
use Rattle.com_base.specs.declared.value.Kind.{Kind}
use Rattle.com_base.specs.declared.value.Value.{Value}
use Rattle.com_base.specs.declared.value.Value.TheVariants as value
use Rattle.com_base.specs.Values.{as_kind}
use Rattle.com_exchange.specs.Answers.{TravelsAs}
use Rattle.com_exchange.specs.Messages.{CanTravel, TravelAs}
use Rattle.com_exchange.specs.Replies.{kinds_before}
use Rattle.com_exchange.specs.Sent.{ResultCanTravel}
use Rattle.com_model.specs.Answers.{is_failure}
use Rattle.com_model.specs.Values.{carried, given_or_default, result_list, sent_result, sent_value}
use Rattle.com_rules.specs.Packets.{AllConnected}
use Rattle.com_exchange.proofs.KindLemmas.{value_kind}
use Rattle.com_rules.proofs.Carrying.{default_travels, one_connected, value_travels}

-- There are as many values as kinds, and all can travel, where they travel as values of these kinds.
pub travel_size : (ks : List Kind) (vs : List Value) → TravelAs ks vs → length vs ≡ length ks
travel_size [] [] t = refl
travel_size [] (v ∷ vs) t = absurd t
travel_size (k ∷ ks) [] t = absurd t
travel_size (k ∷ ks) (v ∷ vs) t = let e : length vs ≡ length ks = travel_size ks vs t.2 in omega (arith, e)

pub travel_all : (ks : List Kind) (vs : List Value) → TravelAs ks vs → All CanTravel vs
travel_all [] [] t = All-nil CanTravel
travel_all [] (v ∷ vs) t = absurd t
travel_all (k ∷ ks) [] t = absurd t
travel_all (k ∷ ks) (v ∷ vs) t = All-cons CanTravel v vs t.1 (travel_all ks vs t.2)

pub carried_few : (vs : List Value) → length (carried vs) ≤ length vs
carried_few [] = omega arith
carried_few (value.Ref (Some r) ∷ vs) = let e : length (carried vs) ≤ length vs = carried_few vs in omega (arith, e)
carried_few (value.Ref None ∷ vs) = let e : length (carried vs) ≤ length vs = carried_few vs in omega (arith, e)
carried_few (_ ∷ vs) = let e : length (carried vs) ≤ length vs = carried_few vs in omega (arith, e)

pub result_few : (v : Option Value) → length (carried (result_list v)) ≤ 4
result_few None = omega arith
result_few (Some v) = let e : length (carried (v ∷ [])) ≤ length (v ∷ []) = carried_few (v ∷ []) in omega (arith, e)

-- ---- a result

given_travels : (k : Kind) (v : Option Value) → ResultCanTravel v → CanTravel (given_or_default k v)
given_travels k None p = default_travels k
given_travels k (Some v) p = p

-- What is sent of a result that can travel travels as the method's result.
pub result_travels : (m : Bool) (live : ℕ → Bool) (hr : HResult) (k : Option Kind) (v : Option Value) → ResultCanTravel v → TravelsAs k hr (sent_result m live hr k v)
result_travels m live hr None v p = tt
result_travels m live hr (Some k) v p =
    by_test (is_failure hr) (value_kind m live k (given_or_default k v), value_travels m live k (given_or_default k v) (given_travels k v p), tt)
  where
    by_test : (t : Bool) → TravelAs (k ∷ []) (sent_value m live k (given_or_default k v) ∷ [])
        → TravelAs (cond t [] (k ∷ [])) (result_list (cond t None (Some (sent_value m live k (given_or_default k v)))))
    by_test true q = tt
    by_test false q = q

travels_alone : (ks : List Kind) (v : Option Value) → TravelAs ks (result_list v) → ResultCanTravel v
travels_alone [] None p = tt
travels_alone [] (Some v) p = absurd p
travels_alone (k ∷ ks) None p = absurd p
travels_alone (k ∷ ks) (Some v) p = p.1

-- And then it can travel.
pub travels_can : (k : Option Kind) (hr : HResult) (v : Option Value) → TravelsAs k hr v → ResultCanTravel v
travels_can k hr v p = travels_alone (kinds_before k hr) v p

-- On a route that marshals it is a reference to a connected object, or none.
pub result_connected : (m : Bool) (live : ℕ → Bool) (hr : HResult) (k : Option Kind) (v : Option Value) → m ≡ true
    → AllConnected live (carried (result_list (sent_result m live hr k v)))
result_connected m live hr None v e = tt
result_connected m live hr (Some k) v e =
    subst (λ (b : Bool). AllConnected live (carried (result_list (sent_result b live hr (Some k) v)))) (sym e)
    (by_test (is_failure hr) (one_connected live (as_kind (given_or_default k v) k) [] tt))
  where
    by_test : (t : Bool) → AllConnected live (carried (sent_value true live k (given_or_default k v) ∷ []))
        → AllConnected live (carried (result_list (cond t None (Some (sent_value true live k (given_or_default k v))))))
    by_test true q = tt
    by_test false q = q

pub first_holds : (a b : Bool) → (a && b) ≡ true → a ≡ true
first_holds true b e = refl
first_holds false b e = absurd cc
