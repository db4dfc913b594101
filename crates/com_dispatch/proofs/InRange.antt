-- What is passed on names no slot but those that were given.
use Rattle.std.proofs.Common.{◌≡◌, ℕ, ◌==◌, Bool, true, false, List, [], ◌∷◌, ◌++◌, length, Option, Some, None, Result, Ok, Err, All, refl, subst, if◌then◌else◌}
use Rattle.std.specs.Prelude.{slice_get, option_map}
use Rattle.std.proofs.lemmas.List.Elements.{All-nil, All-head, All-tail, All-push}
use Rattle.com_base.specs.declared.hresult.HResult.{HResult}
use Rattle.com_base.specs.declared.value.Kind.{Kind}
use Rattle.com_base.specs.declared.value.Kind.TheVariants as kinds
use Rattle.com_base.specs.declared.value.Value.{Value}
use Rattle.com_classes.specs.declared.interfaces.Method.{Method}
use Rattle.com_dispatch.specs.declared.members.Bound.{Bound}
use Rattle.com_dispatch.specs.declared.members.DispArg.{DispArg}
use Rattle.com_dispatch.specs.declared.members.DispArg.TheVariants as given
use Rattle.com_dispatch.specs.declared.members.Member.{Member}
use Rattle.com_dispatch.specs.declared.members.Sort.{Sort}
use Rattle.com_dispatch.specs.Coercing.{coerced_value, coerced, coerced_on}
use Rattle.com_dispatch.specs.Binding.{index_of, absent, is_for, matched, signed, found, bound_among, bad_parameter_count}
use Rattle.com_dispatch.specs.Ranges.{IsDispArg}

literal_stays : (o : Option Value) (c : DispArg) → option_map (λ v. given.Literal v) o ≡ Some c → IsDispArg c
literal_stays None c e = absurd cc
literal_stays (Some v) c e = let k : given.Literal v ≡ c = cc in subst IsDispArg k tt

pub coerced_stays : (k : Kind) (a c : DispArg) → coerced k a ≡ Some c → IsDispArg a → IsDispArg c
coerced_stays k (given.Literal v) c e h = literal_stays (coerced_value k v) c e
coerced_stays (kinds.Ref i) (given.Slot n) c e h = let k : given.Slot n ≡ c = cc in subst IsDispArg k h
coerced_stays (kinds.Ref i) given.Null c e h = let k : given.Null ≡ c = cc in subst IsDispArg k tt
coerced_stays kinds.Int (given.Slot n) c e h = absurd cc
coerced_stays kinds.Bool (given.Slot n) c e h = absurd cc
coerced_stays kinds.Text (given.Slot n) c e h = absurd cc
coerced_stays kinds.Bytes (given.Slot n) c e h = absurd cc
coerced_stays kinds.Guid (given.Slot n) c e h = absurd cc
coerced_stays kinds.Int given.Null c e h = absurd cc
coerced_stays kinds.Bool given.Null c e h = absurd cc
coerced_stays kinds.Text given.Null c e h = absurd cc
coerced_stays kinds.Bytes given.Null c e h = absurd cc
coerced_stays kinds.Guid given.Null c e h = absurd cc

pub coerced_all_stay : (done : List DispArg) (ks : List Kind) (as' out : List DispArg) → coerced_on done ks as' ≡ Some out → All IsDispArg done → All IsDispArg as' → All IsDispArg out
coerced_all_stay done [] [] out e d h = let k : done ≡ out = cc in subst (All IsDispArg) k d
coerced_all_stay done [] (a ∷ as') out e d h = absurd cc
coerced_all_stay done (k ∷ ks) [] out e d h = absurd cc
coerced_all_stay done (k ∷ ks) (a ∷ as') out e d h =
    by (coerced k a) refl e (λ c g f. coerced_all_stay (done ++ c ∷ []) ks as' out f (All-push IsDispArg done c d (coerced_stays k a c g (All-head IsDispArg a as' h))) (All-tail IsDispArg a as' h))
  where
    by : (o : Option DispArg) → coerced k a ≡ o → elim o as (λ _. Option (List DispArg)) [ None ↦ None | Some c ↦ coerced_on (done ++ c ∷ []) ks as' ] ≡ Some out
        → ((c : DispArg) → coerced k a ≡ Some c → coerced_on (done ++ c ∷ []) ks as' ≡ Some out → All IsDispArg out) → All IsDispArg out
    by None g f more = absurd cc
    by (Some c) g f more = more c g f

pub matched_args : (p : ℕ) (o : Option (List DispArg)) (f : Bool) (b : Bound) → matched p o f ≡ Ok b → o ≡ Some b.args
matched_args p None f b e = absurd cc
matched_args p (Some xs) false b e = absurd cc
matched_args p (Some xs) true b e =
    let r : Bound = record { method = p; args = xs } in
    let k : r ≡ b = cc in
    let P : Bound → Type 0 = λ (x : Bound). Some xs ≡ Some x.args in
    subst P k refl

pub signed_args : (p : ℕ) (m : Method) (as' : List DispArg) (d : Option Sort) (b : Bound) → signed p m as' d ≡ Ok b → coerced_on [] m.params as' ≡ Some b.args
signed_args p m as' d b e = by (length as' == length m.params) e
  where
    by : (t : Bool) → (if t then matched p (coerced_on [] m.params as') (is_for m.result d) else Err bad_parameter_count) ≡ Ok b → coerced_on [] m.params as' ≡ Some b.args
    by true f = matched_args p (coerced_on [] m.params as') (is_for m.result d) b f
    by false f = absurd cc

-- what is bound is a method of the table with its coerced arguments
pub record IsBoundTo (ms : List Method) (as' : List DispArg) (d : Option Sort) (b : Bound) : Type 0 where
  pub index : ℕ
  pub method : Method
  pub there : slice_get ms index ≡ Some method
  pub signature : signed index method as' d ≡ Ok b

pub bound_to : (ms : List Method) (m : Member) (as' : List DispArg) (d : Option Sort) (b : Bound) → bound_among ms m as' d ≡ Ok b → IsBoundTo ms as' d b
unfolding bound_among
bound_to ms m as' d b e = by (index_of ms m) e
  where
    at : (p : ℕ) (o : Option Method) → slice_get ms p ≡ o → elim o as (λ _. Result Bound HResult) [ None ↦ Err (absent m) | Some x ↦ signed p x as' d ] ≡ Ok b → IsBoundTo ms as' d b
    at p None g f = absurd cc
    at p (Some x) g f = record { index = p; method = x; there = g; signature = f }

    by : (o : Option ℕ) → found ms m as' d o ≡ Ok b → IsBoundTo ms as' d b
    by None f = absurd cc
    by (Some p) f = at p (slice_get ms p) refl f

pub bound_stays : (ms : List Method) (m : Member) (as' : List DispArg) (d : Option Sort) (b : Bound) → bound_among ms m as' d ≡ Ok b → All IsDispArg as' → All IsDispArg b.args
bound_stays ms m as' d b e h =
    let t = bound_to ms m as' d b e in
    coerced_all_stay [] t.method.params as' b.args (signed_args t.index t.method as' d b t.signature) (All-nil IsDispArg) h
