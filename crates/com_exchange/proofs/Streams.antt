-- Values as they travel, one after the other.
use Rattle.std.proofs.Common.{◌≡◌, ℕ, suc, zero, ◌+◌, ◌-◌, ◌*◌, ◌<◌, ◌≤◌, ◌^◌, List, [], ◌∷◌, ◌++◌, length, get_or, drop, Option, Some, None, refl, sym, ap, subst, ◌∙◌, arith, slice_get}
use Rattle.std.proofs.lemmas.List.{append-nil, length-append}
use Rattle.std.proofs.lemmas.List.Elements.{All-get_or}
use Rattle.std.proofs.Math.Seq.{drop-cons}
use Rattle.std.proofs.Math.ListN.{drop_of_length-le}
use Rattle.ndr_args.specs.declared.wire.Wire.{Wire}
use Rattle.ndr_args.specs.declared.wire.Wire.TheVariants as wire
use Rattle.ndr_args.specs.Grammar.{gap, zeros}
use Rattle.ndr_args.specs.Written.{align_of_value, written_arg, next_referent, written_args}
use Rattle.ndr_args.proofs.Appending.{Appended, appended_more, appended_all}
use Rattle.com_base.specs.declared.standard.StdFields.{StdFields}
use Rattle.com_base.specs.declared.value.Value.{Value}
use Rattle.com_base.specs.declared.value.Value.TheVariants as value
use Rattle.com_model.specs.Lists.{first, without_first}
use Rattle.com_model.specs.Values.{wires}
use Rattle.std.specs.Prelude.{All}
use Rattle.com_exchange.specs.Messages.{CanTravel}
use Rattle.com_exchange.specs.Wires.{wire_of, packets_of}

pub each_at : (vs : List Value) (i : ℕ) (v : Value) → i < length vs → v ≡ get_or vs i v → All CanTravel vs → CanTravel v
each_at vs i v within is all = subst (λ (x : Value). CanTravel x) (sym is) (All-get_or (λ (x : Value). CanTravel x) vs i v within all)

first_at : {X : Type 0} (xs : List X) (k : ℕ) → first (drop k xs) ≡ slice_get xs k
first_at [] zero = refl
first_at [] (suc k) = refl
first_at (x ∷ xs) zero = refl
first_at (x ∷ xs) (suc k) = first_at xs k

without_first_at : {X : Type 0} (xs : List X) (k : ℕ) → without_first (drop k xs) ≡ drop (suc k) xs
without_first_at [] zero = refl
without_first_at [] (suc k) = refl
without_first_at (x ∷ xs) zero = refl
without_first_at (x ∷ xs) (suc k) = without_first_at xs k

-- the first value takes the packets that it needs from the front
no_more : (w : Wire) (vs : List Value) (fs : List StdFields) (k : ℕ) → w ∷ wires vs (drop k fs) ≡ w ∷ wires vs (drop (k + 0) fs)
no_more w vs fs k =
    let same : k ≡ k + 0 = omega arith in
    ap (λ (j : ℕ). w ∷ wires vs (drop j fs)) same

one_more : (vs : List Value) (fs : List StdFields) (k : ℕ)
    → wire.Ref (first (drop k fs)) ∷ wires vs (without_first (drop k fs)) ≡ wire.Ref (slice_get fs k) ∷ wires vs (drop (k + 1) fs)
one_more vs fs k =
    let next : suc k ≡ k + 1 = omega arith in
    ap (λ (f : Option StdFields). wire.Ref f ∷ wires vs (without_first (drop k fs))) (first_at fs k)
    ∙ ap (λ (rest : List StdFields). wire.Ref (slice_get fs k) ∷ wires vs rest) (without_first_at fs k ∙ ap (λ (j : ℕ). drop j fs) next)

pub wires_next : (v : Value) (vs : List Value) (fs : List StdFields) (k : ℕ)
    → wires (v ∷ vs) (drop k fs) ≡ wire_of v (slice_get fs k) ∷ wires vs (drop (k + packets_of v) fs)
wires_next (value.Int n) vs fs k = no_more (wire.Int n) vs fs k
wires_next (value.Bool b) vs fs k = no_more (wire.Bool b) vs fs k
wires_next (value.Text t) vs fs k = no_more (wire.Text t) vs fs k
wires_next (value.Bytes t) vs fs k = no_more (wire.Bytes t) vs fs k
wires_next (value.Guid g) vs fs k = no_more (wire.Guid g) vs fs k
wires_next (value.Ref None) vs fs k = no_more (wire.Ref None) vs fs k
wires_next (value.Ref (Some r)) vs fs k = one_more vs fs k

-- a writer that has written the values before number i, with the packets that they took
pub record SoFar (old out : List ℕ) (referent taken i : ℕ) (vs : List Value) (fs : List StdFields) : Type 0 where
  pub appended : Appended old out referent (wires (drop i vs) (drop taken fs)) (written_args (wires vs fs))
  pub few : taken ≤ i
  pub low : referent ≤ 0x20000 + 4 * i

pub so_far_fits : (old out : List ℕ) (referent taken i : ℕ) (vs : List Value) (fs : List StdFields)
    → SoFar old out referent taken i vs fs → i < length vs → 0x20000 + 4 * length vs < 2 ^ 32 → referent + 4 < 2 ^ 32
so_far_fits old out referent taken i vs fs so_far within fits = let low : referent ≤ 0x20000 + 4 * i = so_far.low in omega (arith, low, within, fits)

referent_low : (referent : ℕ) (w : Wire) → next_referent referent w ≤ referent + 4
referent_low referent (wire.Int n) = omega arith
referent_low referent (wire.Bool b) = omega arith
referent_low referent (wire.Text t) = omega arith
referent_low referent (wire.Bytes t) = omega arith
referent_low referent (wire.Guid g) = omega arith
referent_low referent (wire.Ref None) = omega arith
referent_low referent (wire.Ref (Some fields)) = omega arith

pub so_far_none : (old : List ℕ) (vs : List Value) (fs : List StdFields) → SoFar old old 0x20000 0 0 vs fs
so_far_none old vs fs = record {
  appended = record { front = []; out_is = sym (append-nil old); total_is = refl };
  few = omega arith;
  low = omega arith;
}

pub so_far_more : (old out new : List ℕ) (referent next position taken i : ℕ) (v : Value) (vs : List Value) (fs : List StdFields)
    → i < length vs → v ≡ get_or vs i v → SoFar old out referent taken i vs fs → position ≡ length out - length old
    → new ≡ out ++ (zeros (gap position (align_of_value (wire_of v (slice_get fs taken)))) ++ written_arg referent (wire_of v (slice_get fs taken)))
    → next ≡ next_referent referent (wire_of v (slice_get fs taken)) → packets_of v ≤ 1 → SoFar old new next (taken + packets_of v) (i + 1) vs fs
so_far_more old out new referent next position taken i v vs fs within is so_far place_is new_is next_is few =
    let w : Wire = wire_of v (slice_get fs taken) in
    let total : List ℕ = written_args (wires vs fs) in
    let rest : List Wire = wires (drop (suc i) vs) (drop (taken + packets_of v) fs) in
    let split : drop i vs ≡ v ∷ drop (suc i) vs = drop-cons vs i v within ∙ ap (λ (x : Value). x ∷ drop (suc i) vs) (sym is) in
    let here : wires (drop i vs) (drop taken fs) ≡ w ∷ rest = ap (λ (l : List Value). wires l (drop taken fs)) split ∙ wires_next v (drop (suc i) vs) fs taken in
    let before : Appended old out referent (w ∷ rest) total = subst (λ (l : List Wire). Appended old out referent l total) here so_far.appended in
    let after : Appended old new next rest total = appended_more old out new referent next position w rest total before place_is new_is next_is in
    let more : suc i ≡ i + 1 = omega arith in
    let step : next_referent referent w ≤ referent + 4 = referent_low referent w in
    let low : referent ≤ 0x20000 + 4 * i = so_far.low in
    record {
      appended = subst (λ (n : ℕ). Appended old new next (wires (drop n vs) (drop (taken + packets_of v) fs)) total) more after;
      few = omega (arith, so_far.few);
      low = omega (arith, step, low, next_is);
    }

pub so_far_all : (old out : List ℕ) (referent taken i : ℕ) (vs : List Value) (fs : List StdFields)
    → length vs ≤ i → SoFar old out referent taken i vs fs → out ≡ old ++ written_args (wires vs fs)
so_far_all old out referent taken i vs fs past so_far =
    let total : List ℕ = written_args (wires vs fs) in
    let none : drop i vs ≡ [] = drop_of_length-le vs past in
    let ended : Appended old out referent [] total = subst (λ (l : List Value). Appended old out referent (wires l (drop taken fs)) total) none so_far.appended in
    appended_all old out referent [] 0 total (omega arith) ended

pub so_far_longer : (old out : List ℕ) (referent taken i : ℕ) (vs : List Value) (fs : List StdFields)
    → SoFar old out referent taken i vs fs → length old ≤ length out
so_far_longer old out referent taken i vs fs so_far =
    omega (arith, ap length so_far.appended.out_is, length-append old so_far.appended.front)

pub so_far_step : (old out new : List ℕ) (referent next position taken count i : ℕ) (v : Value) (packet : Option StdFields) (vs : List Value)
    (fs : List StdFields) → i < length vs → v ≡ get_or vs i v → SoFar old out referent taken i vs fs → position ≡ length out - length old
    → new ≡ out ++ (zeros (gap position (align_of_value (wire_of v packet))) ++ written_arg referent (wire_of v packet))
    → next ≡ next_referent referent (wire_of v packet) → packet ≡ slice_get fs taken → count ≡ packets_of v → count ≤ 1
    → SoFar old new next (taken + count) (i + 1) vs fs
so_far_step old out new referent next position taken count i v packet vs fs within is so_far place_is new_is next_is packet_is count_is few =
    let Writes : Option StdFields → Type 0 =
    λ p. new ≡ out ++ (zeros (gap position (align_of_value (wire_of v p))) ++ written_arg referent (wire_of v p)) in
    let Follows : Option StdFields → Type 0 = λ p. next ≡ next_referent referent (wire_of v p) in
    let Takes : ℕ → Type 0 = λ n. SoFar old new next (taken + n) (i + 1) vs fs in
    let one : packets_of v ≤ 1 = omega (arith, count_is) in
    subst Takes (sym count_is)
    (so_far_more old out new referent next position taken i v vs fs within is so_far place_is
    (subst Writes packet_is new_is) (subst Follows packet_is next_is) one)
