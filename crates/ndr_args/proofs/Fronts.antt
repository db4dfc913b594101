-- Reading step by step, as the loops do.
use Rattle.std.proofs.Common.{◌≡◌, ℕ, zero, suc, ◌+◌, ◌-◌, ◌<◌, ◌≤◌, Bool, true, false, ltb, eqb, List, [], ◌∷◌, ◌++◌, length, get_or, drop, Result, Ok, Err, refl, sym, ap, ◌∙◌, append_assoc, arith, MatchResult, is_ok}
use Rattle.std.specs.Str.{is_utf8, IsUtf8}
use Rattle.std.proofs.lemmas.Bool.{lt-ltb, le-ltb, ne_eqb}
use Rattle.std.proofs.lemmas.List.{append-nil}
use Rattle.std.proofs.Math.Seq.{drop-cons}
use Rattle.std.proofs.Math.ListN.{drop_of_length-le}
use Rattle.std.proofs.lemmas.Str.{IsUtf8-from_is_utf8, is_utf8-from_IsUtf8}
use Rattle.com_base.specs.declared.value.Kind.{Kind}
use Rattle.com_wire.specs.Steps.{◌>>=◌}
use Rattle.ndr_args.specs.declared.wire.Wire.{Wire}
use Rattle.ndr_args.specs.declared.wire.ArgFault.{ArgFault}
use Rattle.ndr_args.specs.declared.wire.ArgError.{ArgError}
use Rattle.ndr_args.specs.declared.wire.ArgError.TheVariants as errors
use Rattle.ndr_args.specs.Reading.{Fails, fault, short, zeros_at, arg_at, args_at}

-- ---- UTF-8

not_utf8 : (bytes : List ℕ) (b : Bool) → is_utf8 bytes ≡ b → ¬ (IsUtf8 bytes) → false ≡ is_utf8 bytes
not_utf8 bytes true e h = absurd (h (IsUtf8-from_is_utf8 bytes e))
not_utf8 bytes false e h = sym e

pub utf8_is : {A B : Type 0} (P : A → Type 0) (Q : B → Type 0) (bytes : List ℕ) (r : Result A B) → MatchResult r (λ s. P s × IsUtf8 bytes) (λ x. ¬ (IsUtf8 bytes) × Q x) → is_ok r ≡ is_utf8 bytes
utf8_is P Q bytes (Ok x) h = sym (is_utf8-from_IsUtf8 bytes h.1)
utf8_is P Q bytes (Err e) h = not_utf8 bytes (is_utf8 bytes) refl h.0

-- ---- padding

-- one byte more that is 0
pub zeros_go_on : (bytes : List ℕ) (left position : ℕ) (total : Result ℕ ArgFault) → 0 < left → position < length bytes → get_or bytes position 0 ≡ 0 → zeros_at bytes left position ≡ total → zeros_at bytes (left - 1) (position + 1) ≡ total
unfolding zeros_at
zeros_go_on bytes zero position total some lt is e = absurd (omega arith)
zeros_go_on bytes (suc left) position total some lt is e =
    let t1 : ltb position (length bytes) ≡ true = lt-ltb _ _ lt in
    let t2 : eqb (get_or bytes position 0) 0 ≡ true = rw is refl in
    let k : suc left - 1 ≡ left = omega arith in
    rw k (sym (rw (t1, t2) refl) ∙ e)

pub zeros_end_short : (bytes : List ℕ) (left position : ℕ) (total : Result ℕ ArgFault) → 0 < left → length bytes ≤ position → zeros_at bytes left position ≡ total → total ≡ Err (short bytes)
unfolding zeros_at
zeros_end_short bytes zero position total some le e = absurd (omega arith)
zeros_end_short bytes (suc left) position total some le e =
    let t1 : ltb position (length bytes) ≡ false = le-ltb _ _ le in
    sym e ∙ rw t1 refl

pub zeros_end_other : (bytes : List ℕ) (left position : ℕ) (total : Result ℕ ArgFault) → 0 < left → position < length bytes → (get_or bytes position 0 ≡ 0 → ⊥) → zeros_at bytes left position ≡ total → total ≡ Err (fault 2 position)
unfolding zeros_at
zeros_end_other bytes zero position total some lt ne e = absurd (omega arith)
zeros_end_other bytes (suc left) position total some lt ne e =
    let t1 : ltb position (length bytes) ≡ true = lt-ltb _ _ lt in
    let t2 : eqb (get_or bytes position 0) 0 ≡ false = ne_eqb _ _ ne in
    sym e ∙ rw (t1, t2) refl

pub zeros_done : (bytes : List ℕ) (left position : ℕ) (total : Result ℕ ArgFault) → left ≡ 0 → zeros_at bytes left position ≡ total → total ≡ Ok position
unfolding zeros_at
zeros_done bytes zero position total none e = sym e
zeros_done bytes (suc left) position total none e = absurd (omega arith)

-- ---- the arguments

-- what was read before, and what is still read
abbrev pub with_front : List Wire → Result (List Wire × ℕ) ArgFault → Result (List Wire × ℕ) ArgFault
with_front front read = read >>= λ x. Ok (front ++ x.0, x.1)

regroup : (front : List Wire) (v : Wire) (read : Result (List Wire × ℕ) ArgFault) → with_front front (read >>= λ x. Ok (v ∷ x.0, x.1)) ≡ with_front (front ++ v ∷ []) read
regroup front v (Ok x) = ap (λ (vs : List Wire). Ok (vs, x.1)) (simp append_assoc)
regroup front v (Err f) = refl

pub args_go_on : (front : List Wire) (k : Kind) (ks : List Kind) (bytes : List ℕ) (position : ℕ) (v : Wire) (end : ℕ) (total : Result (List Wire × ℕ) ArgFault) → arg_at k bytes position ≡ Ok (v, end)
    → with_front front (args_at (k ∷ ks) bytes position) ≡ total → with_front (front ++ v ∷ []) (args_at ks bytes end) ≡ total
unfolding args_at
args_go_on front k ks bytes position v end total h so_far =
    let one : with_front front (args_at (k ∷ ks) bytes position) ≡ with_front (front ++ v ∷ []) (args_at ks bytes end) = rw h (regroup front v (args_at ks bytes end)) in
    sym one ∙ so_far

pub args_go_on_at : (front : List Wire) (ks : List Kind) (i : ℕ) (d : Kind) (bytes : List ℕ) (position : ℕ) (v : Wire) (end : ℕ) (total : Result (List Wire × ℕ) ArgFault) → i < length ks → arg_at (get_or ks i d) bytes position ≡ Ok (v, end)
    → with_front front (args_at (drop i ks) bytes position) ≡ total → with_front (front ++ v ∷ []) (args_at (drop (i + 1) ks) bytes end) ≡ total
args_go_on_at front ks i d bytes position v end total lt h so_far =
    let next : suc i ≡ i + 1 = omega arith in
    let split : with_front front (args_at (get_or ks i d ∷ drop (suc i) ks) bytes position) ≡ total = ap (λ (l : List Kind). with_front front (args_at l bytes position)) (sym (drop-cons ks i d lt)) ∙ so_far in
    rw (← next) (args_go_on front (get_or ks i d) (drop (suc i) ks) bytes position v end total h split)

pub args_end : (e : ArgError) (front : List Wire) (k : Kind) (ks : List Kind) (bytes : List ℕ) (position : ℕ) (total : Result (List Wire × ℕ) ArgFault) → Fails e (arg_at k bytes position)
    → with_front front (args_at (k ∷ ks) bytes position) ≡ total → Fails e total
unfolding args_at
args_end errors.Memory front k ks bytes position total h so_far = tt
args_end (errors.Fault f) front k ks bytes position total h so_far =
    let one : with_front front (args_at (k ∷ ks) bytes position) ≡ Err f = rw h refl in
    sym so_far ∙ one

pub args_end_at : (e : ArgError) (front : List Wire) (ks : List Kind) (i : ℕ) (d : Kind) (bytes : List ℕ) (position : ℕ) (total : Result (List Wire × ℕ) ArgFault) → i < length ks → Fails e (arg_at (get_or ks i d) bytes position)
    → with_front front (args_at (drop i ks) bytes position) ≡ total → Fails e total
args_end_at e front ks i d bytes position total lt h so_far =
    args_end e front (get_or ks i d) (drop (suc i) ks) bytes position total h (ap (λ (l : List Kind). with_front front (args_at l bytes position)) (sym (drop-cons ks i d lt)) ∙ so_far)

pub args_done : (front : List Wire) (bytes : List ℕ) (position : ℕ) (total : Result (List Wire × ℕ) ArgFault) → with_front front (args_at [] bytes position) ≡ total → total ≡ Ok (front, position)
unfolding args_at
args_done front bytes position total so_far = sym so_far ∙ ap (λ (vs : List Wire). Ok (vs, position)) (append-nil front)

pub args_done_at : (front : List Wire) (ks : List Kind) (i : ℕ) (bytes : List ℕ) (position : ℕ) (total : Result (List Wire × ℕ) ArgFault) → length ks ≤ i → with_front front (args_at (drop i ks) bytes position) ≡ total → total ≡ Ok (front, position)
args_done_at front ks i bytes position total le so_far =
    args_done front bytes position total (ap (λ (l : List Kind). with_front front (args_at l bytes position)) (sym (drop_of_length-le ks le)) ∙ so_far)
