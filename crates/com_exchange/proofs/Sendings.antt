-- The values of a call as they travel, one after the other.
use Rattle.std.proofs.Common.{◌≡◌, ℕ, zero, suc, ◌+◌, ◌<◌, ◌≤◌, Bool, true, false, List, [], ◌∷◌, ◌++◌, length, get_or, drop, Option, Some, None, refl, sym, ap, subst, ◌∙◌, append_assoc, append-nil, arith, slice_get}
use Rattle.std.proofs.Math.Seq.{drop-cons}
use Rattle.std.proofs.Math.ListN.{drop_of_length-le}
use Rattle.com_base.specs.declared.value.Kind.{Kind}
use Rattle.com_base.specs.declared.value.Kind.TheVariants as kind
use Rattle.com_base.specs.declared.value.RefValue.{RefValue}
use Rattle.com_base.specs.declared.value.Value.{Value}
use Rattle.com_base.specs.declared.value.Value.TheVariants as value
use Rattle.com_model.specs.Values.{sent_value, sent_values, given_or_default, carried}
use Rattle.com_exchange.specs.Sent.{sent_or_default}
use Rattle.com_exchange.specs.Wires.{reference_in}

-- a default has its kind, and names no object
pub sent_given : (m : Bool) (live : ℕ → Bool) (k : Kind) (v : Option Value)
    → sent_value m live k (given_or_default k v) ≡ sent_or_default m live k v
sent_given m live k (Some v) = refl
sent_given true live kind.Int None = refl
sent_given true live kind.Bool None = refl
sent_given true live kind.Text None = refl
sent_given true live kind.Bytes None = refl
sent_given true live kind.Guid None = refl
sent_given true live (kind.Ref i) None = refl
sent_given false live kind.Int None = refl
sent_given false live kind.Bool None = refl
sent_given false live kind.Text None = refl
sent_given false live kind.Bytes None = refl
sent_given false live kind.Guid None = refl
sent_given false live (kind.Ref i) None = refl

-- one parameter more
sent_next : (m : Bool) (live : ℕ → Bool) (k : Kind) (ks : List Kind) (vs : List Value) (i : ℕ)
    → sent_values m live (k ∷ ks) (drop i vs) ≡ sent_or_default m live k (slice_get vs i) ∷ sent_values m live ks (drop (suc i) vs)
sent_next m live k ks [] zero = refl
sent_next m live k ks [] (suc i) = refl
sent_next m live k ks (v ∷ vs) zero = refl
sent_next m live k ks (v ∷ vs) (suc i) = sent_next m live k ks vs i

-- what was sent so far, and what is still to be sent, is all
abbrev pub SentSoFar : Bool → (ℕ → Bool) → List Kind → List Value → ℕ → List Value → Type 0
SentSoFar m live ks vs i sent = sent ++ sent_values m live (drop i ks) (drop i vs) ≡ sent_values m live ks vs

pub sent_more : (m : Bool) (live : ℕ → Bool) (ks : List Kind) (vs : List Value) (i : ℕ) (sent : List Value) (k : Kind) (v : Value)
    → i < length ks → k ≡ get_or ks i k → v ≡ sent_or_default m live k (slice_get vs i)
    → SentSoFar m live ks vs i sent → SentSoFar m live ks vs (i + 1) (sent ++ v ∷ [])
sent_more m live ks vs i sent k v within is v_is so_far =
    let split : drop i ks ≡ k ∷ drop (suc i) ks = drop-cons ks i k within ∙ ap (λ (x : Kind). x ∷ drop (suc i) ks) (sym is) in
    let next : sent_values m live (drop i ks) (drop i vs) ≡ v ∷ sent_values m live (drop (suc i) ks) (drop (suc i) vs) =
    ap (λ (l : List Kind). sent_values m live l (drop i vs)) split ∙ sent_next m live k (drop (suc i) ks) vs i
    ∙ ap (λ (x : Value). x ∷ sent_values m live (drop (suc i) ks) (drop (suc i) vs)) (sym v_is) in
    let more : suc i ≡ i + 1 = omega arith in
    let all : (sent ++ v ∷ []) ++ sent_values m live (drop (suc i) ks) (drop (suc i) vs) ≡ sent_values m live ks vs =
    append_assoc sent (v ∷ []) (sent_values m live (drop (suc i) ks) (drop (suc i) vs))
    ∙ ap (λ (l : List Value). sent ++ l) (sym next) ∙ so_far in
    let At : ℕ → Type 0 = λ n. (sent ++ v ∷ []) ++ sent_values m live (drop n ks) (drop n vs) ≡ sent_values m live ks vs in
    subst At more all

pub sent_all : (m : Bool) (live : ℕ → Bool) (ks : List Kind) (vs : List Value) (i : ℕ) (sent : List Value)
    → length ks ≤ i → SentSoFar m live ks vs i sent → sent ≡ sent_values m live ks vs
sent_all m live ks vs i sent past so_far =
    let none : drop i ks ≡ [] = drop_of_length-le ks past in
    sym (append-nil sent) ∙ ap (λ (l : List Kind). sent ++ sent_values m live l (drop i vs)) (sym none) ∙ so_far

-- references, one value after the other
carried_first : (v : Value) (vs : List Value) → carried (v ∷ vs) ≡ reference_in v ++ carried vs
carried_first (value.Int n) vs = refl
carried_first (value.Bool b) vs = refl
carried_first (value.Text t) vs = refl
carried_first (value.Bytes t) vs = refl
carried_first (value.Guid g) vs = refl
carried_first (value.Ref None) vs = refl
carried_first (value.Ref (Some r)) vs = refl

abbrev pub CarriedSoFar : List Value → ℕ → List RefValue → Type 0
CarriedSoFar vs i held = held ++ carried (drop i vs) ≡ carried vs

pub carried_more : (vs : List Value) (i : ℕ) (held new : List RefValue) (v : Value) → i < length vs → v ≡ get_or vs i v
    → new ≡ held ++ reference_in v → CarriedSoFar vs i held → CarriedSoFar vs (i + 1) new
carried_more vs i held new v within is new_is so_far =
    let split : drop i vs ≡ v ∷ drop (suc i) vs = drop-cons vs i v within ∙ ap (λ (x : Value). x ∷ drop (suc i) vs) (sym is) in
    let next : carried (drop i vs) ≡ reference_in v ++ carried (drop (suc i) vs) = ap carried split ∙ carried_first v (drop (suc i) vs) in
    let all : new ++ carried (drop (suc i) vs) ≡ carried vs =
    ap (λ (l : List RefValue). l ++ carried (drop (suc i) vs)) new_is
    ∙ append_assoc held (reference_in v) (carried (drop (suc i) vs))
    ∙ ap (λ (l : List RefValue). held ++ l) (sym next) ∙ so_far in
    let more : suc i ≡ i + 1 = omega arith in
    let At : ℕ → Type 0 = λ n. new ++ carried (drop n vs) ≡ carried vs in
    subst At more all

pub carried_all : (vs : List Value) (i : ℕ) (held : List RefValue) → length vs ≤ i → CarriedSoFar vs i held → held ≡ carried vs
carried_all vs i held past so_far =
    let none : drop i vs ≡ [] = drop_of_length-le vs past in
    sym (append-nil held) ∙ ap (λ (l : List Value). held ++ carried l) (sym none) ∙ so_far
