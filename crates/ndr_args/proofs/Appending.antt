-- What a writer has appended so far, as its loop goes on.
use Rattle.std.proofs.Common.{◌≡◌, ℕ, suc, ◌+◌, ◌-◌, ◌<◌, ◌≤◌, ◌^◌, List, [], ◌∷◌, ◌++◌, length, get_or, drop, Some, None, sym, ap, subst, ◌∙◌, append_assoc, arith}
use Rattle.std.proofs.lemmas.List.{append-nil, length-append, length-replicate}
use Rattle.std.proofs.Math.Seq.{drop-cons}
use Rattle.std.proofs.Math.ListN.{drop_of_length-le}
use Rattle.com_base.specs.Room.{Room}
use Rattle.ndr_args.specs.declared.wire.Wire.{Wire}
use Rattle.ndr_args.specs.declared.wire.Wire.TheVariants as wire
use Rattle.ndr_args.specs.Grammar.{gap, zeros}
use Rattle.ndr_args.specs.Written.{align_of_value, written_arg, next_referent, written_from, written_args, padded_length, length_from, length_args, referent_after}

pub record Appended (old out : List ℕ) (referent : ℕ) (rest : List Wire) (total : List ℕ) : Type 0 where
  pub front : List ℕ
  pub out_is : out ≡ old ++ front
  pub total_is : front ++ written_from (length front) referent rest ≡ total

-- a value more, behind what was written
pub appended_more : (old out new : List ℕ) (referent next position : ℕ) (v : Wire) (vs : List Wire) (total : List ℕ) → Appended old out referent (v ∷ vs) total → position ≡ length out - length old
    → new ≡ out ++ (zeros (gap position (align_of_value v)) ++ written_arg referent v) → next ≡ next_referent referent v → Appended old new next vs total
unfolding written_from
appended_more old out new referent next position v vs total so_far position_is new_is next_is =
    let front = so_far.front in
    let here : position ≡ length front = omega (arith, position_is, ap length so_far.out_is, length-append old front) in
    let pad = gap (length front) (align_of_value v) in
    let w = written_arg referent v in
    let piece = zeros pad ++ w in
    let new_at : new ≡ out ++ piece = new_is ∙ ap (λ (k : ℕ). out ++ (zeros (gap k (align_of_value v)) ++ w)) here in
    let len : length (front ++ piece) ≡ length front + pad + length w = omega (arith, length-append front piece, length-append (zeros pad) w, length-replicate {A = ℕ} pad 0) in
    record {
      front = front ++ piece;
      out_is = new_at ∙ ap (λ (t : List ℕ). t ++ piece) so_far.out_is ∙ append_assoc old front piece;
      total_is = ap (λ (n : ℕ). (front ++ piece) ++ written_from n next vs) len
          ∙ ap (λ (r : ℕ). (front ++ piece) ++ written_from (length front + pad + length w) r vs) next_is
          ∙ append_assoc front piece (written_from (length front + pad + length w) (next_referent referent v) vs)
          ∙ ap (λ (t : List ℕ). front ++ t) (append_assoc (zeros pad) w (written_from (length front + pad + length w) (next_referent referent v) vs))
          ∙ so_far.total_is;
    }

pub appended_all : (old out : List ℕ) (referent : ℕ) (vs : List Wire) (i : ℕ) (total : List ℕ) → length vs ≤ i → Appended old out referent (drop i vs) total → out ≡ old ++ total
unfolding written_from
appended_all old out referent vs i total le so_far =
    let none : drop i vs ≡ [] = drop_of_length-le vs le in
    let done : so_far.front ++ [] ≡ total = ap (λ (l : List Wire). so_far.front ++ written_from (length so_far.front) referent l) (sym none) ∙ so_far.total_is in
    so_far.out_is ∙ ap (λ (t : List ℕ). old ++ t) (sym (append-nil so_far.front) ∙ done)

-- ---- room

-- a step's bytes come off the room that is left
less_left : (step rest before after : ℕ) → step + rest ≤ before → before ≤ after + step → rest ≤ after
less_left step rest before after fits lowered = omega (arith, fits, lowered)

lowered_by : (first before after n step : ℕ) → first ≤ before + n → before ≤ after + step → first ≤ after + (n + step)
lowered_by first before after n step so_far now = omega (arith, so_far, now)

longer_by : (old out new n step : ℕ) → out ≡ old + n → new ≡ out + step → new ≡ old + (n + step)
longer_by old out new n step so_far now = omega (arith, so_far, now)

regrouped : (n step rest total : ℕ) → n + (step + rest) ≡ total → (n + step) + rest ≡ total
regrouped n step rest total is = omega (arith, is)

-- what was appended so far, and that there is room and there are referents for the rest
pub record Roomy (old out : Room) (referent : ℕ) (rest vs : List Wire) : Type 0 where
  pub n : ℕ
  pub longer : length out.items ≡ length old.items + n
  pub appended : Appended old.items out.items referent rest (written_args vs)
  pub room : length_from n rest ≤ out.spare
  pub lowered : old.spare ≤ out.spare + n
  pub total : n + length_from n rest ≡ length_args vs
  pub referents : referent_after referent rest < 2 ^ 32

roomy_more : (old out new : Room) (referent next position : ℕ) (v : Wire) (rest vs : List Wire) → Roomy old out referent (v ∷ rest) vs → position ≡ length out.items - length old.items
    → new.items ≡ out.items ++ (zeros (gap position (align_of_value v)) ++ written_arg referent v) → out.spare ≤ new.spare + padded_length position v → length new.items ≡ length out.items + padded_length position v
    → next ≡ next_referent referent v → Roomy old new next rest vs
unfolding length_from referent_after
roomy_more old out new referent next position v rest vs so_far position_is new_is spare_is length_is next_is =
    let n = so_far.n in
    let here : position ≡ n = omega (arith, position_is, so_far.longer) in
    let step : padded_length position v ≡ padded_length n v = ap (λ (k : ℕ). padded_length k v) here in
    let spare_here : out.spare ≤ new.spare + padded_length n v = subst (λ (k : ℕ). out.spare ≤ new.spare + k) step spare_is in
    let length_here : length new.items ≡ length out.items + padded_length n v = subst (λ (k : ℕ). length new.items ≡ length out.items + k) step length_is in
    record {
      n = n + padded_length n v;
      longer = longer_by _ _ _ n _ so_far.longer length_here;
      appended = appended_more old.items out.items new.items referent next position v rest (written_args vs) so_far.appended position_is new_is next_is;
      room = less_left (padded_length n v) _ _ _ so_far.room spare_here;
      lowered = lowered_by _ _ _ n _ so_far.lowered spare_here;
      total = regrouped n (padded_length n v) _ _ so_far.total;
      referents = subst (λ (k : ℕ). referent_after k rest < 2 ^ 32) (sym next_is) so_far.referents;
    }

split_at : (vs : List Wire) (i : ℕ) (v : Wire) → i < length vs → v ≡ get_or vs i v → drop i vs ≡ v ∷ drop (i + 1) vs
split_at vs i v lt is =
    let more : suc i ≡ i + 1 = omega arith in
    rw (← more) (drop-cons vs i v lt ∙ ap (λ (x : Wire). x ∷ drop (suc i) vs) (sym is))

pub roomy_at : (old out new : Room) (referent next position : ℕ) (v : Wire) (vs : List Wire) (i : ℕ) → i < length vs → v ≡ get_or vs i v → Roomy old out referent (drop i vs) vs → position ≡ length out.items - length old.items
    → new.items ≡ out.items ++ (zeros (gap position (align_of_value v)) ++ written_arg referent v) → out.spare ≤ new.spare + padded_length position v → length new.items ≡ length out.items + padded_length position v
    → next ≡ next_referent referent v → Roomy old new next (drop (i + 1) vs) vs
roomy_at old out new referent next position v vs i lt is so_far =
    roomy_more old out new referent next position v (drop (i + 1) vs) vs (subst (λ (l : List Wire). Roomy old out referent l vs) (split_at vs i v lt is) so_far)

first_fits : (n rest spare : ℕ) → n + rest ≤ spare → n ≤ spare
first_fits n rest spare room = omega (arith, room)

roomy_first : (old out : Room) (referent position : ℕ) (v : Wire) (rest vs : List Wire) → Roomy old out referent (v ∷ rest) vs → position ≡ length out.items - length old.items → padded_length position v ≤ out.spare
unfolding length_from
roomy_first old out referent position v rest vs so_far position_is =
    let here : position ≡ so_far.n = omega (arith, position_is, so_far.longer) in
    subst (λ (k : ℕ). padded_length k v ≤ out.spare) (sym here) (first_fits (padded_length so_far.n v) _ out.spare so_far.room)

-- there is room for the next value
pub roomy_next : (old out : Room) (referent position : ℕ) (v : Wire) (vs : List Wire) (i : ℕ) → i < length vs → v ≡ get_or vs i v → Roomy old out referent (drop i vs) vs → position ≡ length out.items - length old.items → padded_length position v ≤ out.spare
roomy_next old out referent position v vs i lt is so_far =
    roomy_first old out referent position v (drop (i + 1) vs) vs (subst (λ (l : List Wire). Roomy old out referent l vs) (split_at vs i v lt is) so_far)

-- ---- referents

grows : (referent : ℕ) (v : Wire) → referent ≤ next_referent referent v
grows referent (wire.Int n) = omega arith
grows referent (wire.Bool b) = omega arith
grows referent (wire.Text t) = omega arith
grows referent (wire.Bytes t) = omega arith
grows referent (wire.Guid g) = omega arith
grows referent (wire.Ref None) = omega arith
grows referent (wire.Ref (Some fields)) = omega arith

referent_grows : (referent : ℕ) (vs : List Wire) → referent ≤ referent_after referent vs
unfolding referent_after
referent_grows referent [] = omega arith
referent_grows referent (v ∷ vs) = omega (arith, grows referent v, referent_grows (next_referent referent v) vs)

next_below : (referent : ℕ) (v : Wire) (rest : List Wire) → next_referent referent v ≤ referent_after referent (v ∷ rest)
unfolding referent_after
next_below referent v rest = referent_grows (next_referent referent v) rest

pub next_fits : (old out : Room) (referent : ℕ) (v : Wire) (vs : List Wire) (i : ℕ) → i < length vs → v ≡ get_or vs i v → Roomy old out referent (drop i vs) vs → next_referent referent v < 2 ^ 32
next_fits old out referent v vs i lt is so_far =
    let here = subst (λ (l : List Wire). Roomy old out referent l vs) (split_at vs i v lt is) so_far in
    omega (arith, here.referents, next_below referent v (drop (i + 1) vs))

-- ---- the end

pub record Ended (old out : Room) (vs : List Wire) : Type 0 where
  pub items : out.items ≡ old.items ++ written_args vs
  pub spare : old.spare ≤ out.spare + length_args vs
  pub longer : length out.items ≡ length old.items + length_args vs

ended_at : (old out : Room) (referent : ℕ) (vs : List Wire) (so_far : Roomy old out referent [] vs) → so_far.n ≡ length_args vs
unfolding length_from
ended_at old out referent vs so_far = omega (arith, so_far.total)

pub roomy_all : (old out : Room) (referent : ℕ) (vs : List Wire) (i : ℕ) → length vs ≤ i → Roomy old out referent (drop i vs) vs → Ended old out vs
roomy_all old out referent vs i le so_far =
    let done = subst (λ (l : List Wire). Roomy old out referent l vs) (drop_of_length-le vs le) so_far in
    let whole = ended_at old out referent vs done in
    record {
      items = appended_all old.items out.items referent vs i (written_args vs) le so_far.appended;
      spare = subst (λ (k : ℕ). old.spare ≤ out.spare + k) whole done.lowered;
      longer = subst (λ (k : ℕ). length out.items ≡ length old.items + k) whole done.longer;
    }

-- ---- how long a stream is

pub record Measured (so_long referent : ℕ) (rest vs : List Wire) : Type 0 where
  pub total : so_long + length_from so_long rest ≡ length_args vs
  pub referents : referent_after referent rest ≡ referent_after 0x20000 vs
  pub fits : referent < 2 ^ 32

measured_more : (so_long next referent after : ℕ) (v : Wire) (rest vs : List Wire) → Measured so_long referent (v ∷ rest) vs → next ≡ so_long + padded_length so_long v → after ≡ next_referent referent v → after < 2 ^ 32 → Measured next after rest vs
unfolding length_from referent_after
measured_more so_long next referent after v rest vs so_far next_is after_is fits = record {
  total = rw next_is (regrouped so_long (padded_length so_long v) _ _ so_far.total);
  referents = rw after_is so_far.referents;
  fits = fits;
}

pub measured_at : (so_long next referent after : ℕ) (v : Wire) (vs : List Wire) (i : ℕ) → i < length vs → v ≡ get_or vs i v → Measured so_long referent (drop i vs) vs → next ≡ so_long + padded_length so_long v → after ≡ next_referent referent v
    → after < 2 ^ 32 → Measured next after (drop (i + 1) vs) vs
measured_at so_long next referent after v vs i lt is so_far =
    measured_more so_long next referent after v (drop (i + 1) vs) vs (subst (λ (l : List Wire). Measured so_long referent l vs) (split_at vs i v lt is) so_far)

front_below : (n step rest total : ℕ) → n + (step + rest) ≡ total → n + step ≤ total
front_below n step rest total is = omega (arith, is)

measured_below : (so_long referent : ℕ) (v : Wire) (rest vs : List Wire) → Measured so_long referent (v ∷ rest) vs → so_long + padded_length so_long v ≤ length_args vs
unfolding length_from
measured_below so_long referent v rest vs so_far = front_below so_long (padded_length so_long v) _ _ so_far.total

-- a length that no number tells
pub too_long : (so_long referent : ℕ) (v : Wire) (vs : List Wire) (i : ℕ) → i < length vs → v ≡ get_or vs i v → Measured so_long referent (drop i vs) vs → 2 ^ 64 ≤ so_long + padded_length so_long v → 2 ^ 64 ≤ length_args vs
too_long so_long referent v vs i lt is so_far past =
    let below = measured_below so_long referent v (drop (i + 1) vs) vs (subst (λ (l : List Wire). Measured so_long referent l vs) (split_at vs i v lt is) so_far) in
    omega (arith, past, below)

-- a referent that 32 bits do not tell
pub too_many : (so_long referent : ℕ) (v : Wire) (vs : List Wire) (i : ℕ) → i < length vs → v ≡ get_or vs i v → Measured so_long referent (drop i vs) vs → 2 ^ 32 ≤ next_referent referent v → 2 ^ 32 ≤ referent_after 0x20000 vs
too_many so_long referent v vs i lt is so_far past =
    let here = subst (λ (l : List Wire). Measured so_long referent l vs) (split_at vs i v lt is) so_far in
    omega (arith, past, next_below referent v (drop (i + 1) vs), here.referents)

measured_end : (so_long referent : ℕ) (vs : List Wire) → Measured so_long referent [] vs → (so_long ≡ length_args vs) × (referent_after 0x20000 vs < 2 ^ 32)
unfolding length_from referent_after
measured_end so_long referent vs done =
    let last : referent ≡ referent_after 0x20000 vs = done.referents in
    (omega (arith, done.total), subst (λ (k : ℕ). k < 2 ^ 32) last done.fits)

pub measured_all : (so_long referent : ℕ) (vs : List Wire) (i : ℕ) → length vs ≤ i → Measured so_long referent (drop i vs) vs → (so_long ≡ length_args vs) × (referent_after 0x20000 vs < 2 ^ 32)
measured_all so_long referent vs i le so_far =
    measured_end so_long referent vs (subst (λ (l : List Wire). Measured so_long referent l vs) (drop_of_length-le vs le) so_far)
