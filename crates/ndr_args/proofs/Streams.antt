-- Arguments one behind the other: what is read is spelled so, what is spelled so is read, and the writer's
-- spelling is one.
use Rattle.std.proofs.Common.{◌≡◌, ℕ, suc, ◌+◌, ◌*◌, ◌%◌, ◌^◌, ◌<◌, ◌≤◌, false, cond, ltb, List, [], ◌∷◌, ◌++◌, length, drop, Some, None, Result, Ok, Err, refl, sym, ap, subst, ◌∙◌, append_assoc, arith}
use Rattle.std.specs.Prelude.{IfOk, if◌then◌else◌}
use Rattle.std.specs.Global.{Vec}
use Rattle.std.specs.List.{AllByRecursion}
use Rattle.std.specs.Int.{w32, w64, cast_unsigned}
use Rattle.std.proofs.lemmas.Bool.{ltb-false, le-ltb}
use Rattle.std.proofs.lemmas.List.{append-nil, length-append, length-replicate, nil_from_length}
use Rattle.std.proofs.Math.ListN.{drop_of_length-le}
use Rattle.com_base.specs.declared.standard.StdFields.{StdFields}
use Rattle.com_base.specs.declared.value.Kind.{Kind}
use Rattle.com_base.specs.declared.value.Kind.TheVariants as kind
use Rattle.com_wire.specs.Fields.{IsBytes, number}
use Rattle.com_wire.specs.Steps.{◌>>=◌}
use Rattle.com_wire.proofs.Chosen.{bind_ok, guard_ok, ok_is}
use Rattle.com_wire.proofs.Fields.{Stands, Stands-then, wide32, wide64, length-number, length-guid, after}
use Rattle.objref.specs.Grammar.{written_of, IsStdFields}
use Rattle.objref.proofs.Spelled.{said_fits, length-written}
use Rattle.ndr_args.specs.declared.wire.Wire.{Wire}
use Rattle.ndr_args.specs.declared.wire.Wire.TheVariants as wire
use Rattle.ndr_args.specs.declared.wire.ArgFault.{ArgFault}
use Rattle.ndr_args.specs.declared.wire.ArgError.{ArgError}
use Rattle.ndr_args.specs.Grammar.{gap, align_of, zeros, IsRef, IsArg, IsArgs}
use Rattle.ndr_args.specs.Reading.{Gives, fault, zeros_at, value_at, arg_at, args_at, args_of}
use Rattle.ndr_args.specs.Written.{align_of_value, written_arg, next_referent, written_from, length_of, padded_length, length_from, CanSend, HasKind, CanSendAll, IsInRange}
use Rattle.ndr_args.proofs.Spelled.{stands_end, zeros_take, zeros_again}
use Rattle.ndr_args.proofs.Values.{length-counted, value_take, value_again}

-- behind the padding lies a multiple of the alignment
aligned : (k : Kind) (position : ℕ) → (position + gap position (align_of k)) % align_of k ≡ 0
aligned kind.Int position = omega arith
aligned kind.Bool position = omega arith
aligned kind.Text position = omega arith
aligned kind.Bytes position = omega arith
aligned kind.Guid position = omega arith
aligned (kind.Ref i) position = omega arith

pub args_take : (ks : List Kind) (bytes : List ℕ) (position : ℕ) (x : List Wire × ℕ) → IsBytes bytes → position ≤ length bytes → args_at ks bytes position ≡ Ok x → (text : List ℕ) × IsArgs ks position x.0 text × Stands bytes position text x.1
unfolding args_at arg_at
args_take [] bytes position x fits le e =
    subst (λ (y : List Wire × ℕ). (text : List ℕ) × IsArgs [] position y.0 text × Stands bytes position text y.1) (ok_is {F = ArgFault} ([], position) x e) ([], refl, record { parts = refl; within = le })
args_take (k ∷ ks) bytes position x fits le e =
    let pad = gap position (align_of k) in
    let a = bind_ok (arg_at k bytes position) (λ first. args_at ks bytes first.1 >>= λ others. Ok (first.0 ∷ others.0, others.1)) x e in
    let b = bind_ok (args_at ks bytes a.0.1) (λ others. Ok (a.0.0 ∷ others.0, others.1)) x a.2 in
    let z = bind_ok (zeros_at bytes pad position) (λ start. value_at k bytes start) a.0 a.1 in
    let tz = zeros_take bytes pad position z.0 le z.1 in
    let even : z.0 % align_of k ≡ 0 = ap (λ (n : ℕ). n % align_of k) tz.1 ∙ aligned k position in
    let v = value_take k bytes z.0 a.0 fits even z.2 in
    let others = args_take ks bytes a.0.1 b.0 fits v.2.within b.1 in
    let end : a.0.1 ≡ position + pad + length v.0 = stands_end bytes v.0 z.0 a.0.1 v.2 tz.0.within ∙ ap (λ (n : ℕ). n + length v.0) tz.1 in
    let all = Stands-then bytes position z.0 b.0.1 (zeros pad) (v.0 ++ others.0) tz.0 (Stands-then bytes z.0 a.0.1 b.0.1 v.0 others.0 v.2 others.2) in
    let is : IsArgs (k ∷ ks) position (a.0.0 ∷ b.0.0) (zeros pad ++ (v.0 ++ others.0)) = (v.0, others.0, v.1, refl, subst (λ (n : ℕ). IsArgs ks n b.0.0 others.0) end others.1) in
    subst (λ (y : List Wire × ℕ). (text : List ℕ) × IsArgs (k ∷ ks) position y.0 text × Stands bytes position text y.1) (ok_is {F = ArgFault} (a.0.0 ∷ b.0.0, b.0.1) x b.2) (zeros pad ++ (v.0 ++ others.0), is, all)

pub args_again : (ks : List Kind) (vs : List Wire) (bytes : List ℕ) (position : ℕ) (text rest : List ℕ) → IsArgs ks position vs text → drop position bytes ≡ text ++ rest → args_at ks bytes position ≡ Ok (vs, position + length text)
unfolding args_at arg_at
args_again [] [] bytes position text rest is e = ap (λ (n : ℕ). Ok ([], n)) (omega (arith, ap length is))
args_again [] (v ∷ vs) bytes position text rest is e = absurd is
args_again (k ∷ ks) [] bytes position text rest is e = absurd is
args_again (k ∷ ks) (v ∷ vs) bytes position text rest is e =
    let pad = gap position (align_of k) in
    let t = is.0 in
    let r = is.1 in
    let here : drop position bytes ≡ zeros pad ++ (t ++ (r ++ rest)) = e ∙ ap (λ (x : List ℕ). x ++ rest) is.3 ∙ simp append_assoc in
    let z = zeros_again bytes pad position (t ++ (r ++ rest)) here in
    let at_value : drop (position + pad) bytes ≡ t ++ (r ++ rest) = after bytes (zeros pad) (t ++ (r ++ rest)) position pad here (length-replicate {A = ℕ} pad 0) in
    let value = value_again k v bytes (position + pad) t (r ++ rest) (aligned k position) is.2 at_value in
    let at_rest : drop (position + pad + length t) bytes ≡ r ++ rest = after bytes t (r ++ rest) (position + pad) (length t) at_value refl in
    let others = args_again ks vs bytes (position + pad + length t) r rest is.4 at_rest in
    let len : position + pad + length t + length r ≡ position + length text = omega (arith, ap length is.3, length-append (zeros pad) (t ++ r), length-append t r, length-replicate {A = ℕ} pad 0) in
    rw (z, value, others, len) refl

-- ---- all of the bytes

of_takes : (ks : List Kind) (bytes : List ℕ) (vs : List Wire) → IsBytes bytes → args_of ks bytes ≡ Ok vs → IsArgs ks 0 vs bytes
unfolding args_of
of_takes ks bytes vs fits e =
    let a = bind_ok (args_at ks bytes 0) (λ all. cond (ltb all.1 (length bytes)) (Err (fault 6 all.1)) (Ok all.0)) vs e in
    let g = guard_ok (ltb a.0.1 (length bytes)) (fault 6 a.0.1) (Ok a.0.0) vs a.2 in
    let le : length bytes ≤ a.0.1 = ltb-false _ _ g.0 in
    let t = args_take ks bytes 0 a.0 fits (omega arith) a.1 in
    let whole : bytes ≡ t.0 = t.2.parts ∙ ap (λ (x : List ℕ). t.0 ++ x) (drop_of_length-le bytes le) ∙ append-nil t.0 in
    subst (λ (y : List Wire). IsArgs ks 0 y bytes) (ok_is {F = ArgFault} a.0.0 vs g.1) (subst (λ (b : List ℕ). IsArgs ks 0 a.0.0 b) (sym whole) t.1)

pub of_again : (ks : List Kind) (vs : List Wire) (bytes : List ℕ) → IsArgs ks 0 vs bytes → args_of ks bytes ≡ Ok vs
unfolding args_of
of_again ks vs bytes is =
    let all = args_again ks vs bytes 0 bytes [] is (sym (append-nil bytes)) in
    let done : ltb (0 + length bytes) (length bytes) ≡ false = le-ltb _ _ (omega arith) in
    rw (all, done) refl

-- no stream begins another one of the same kinds
pub streams_end : (ks : List Kind) (vs ws : List Wire) (front more : List ℕ) → IsArgs ks 0 vs front → IsArgs ks 0 ws (front ++ more) → (vs ≡ ws) × (more ≡ [])
streams_end ks vs ws front more is whole_is =
    let bytes = front ++ more in
    let a = args_again ks vs bytes 0 front more is refl in
    let b = args_again ks ws bytes 0 bytes [] whole_is (sym (append-nil bytes)) in
    let same : (vs, 0 + length front) ≡ (ws, 0 + length bytes) = ok_is {F = ArgFault} (vs, 0 + length front) (ws, 0 + length bytes) (sym a ∙ b) in
    let len : 0 + length front ≡ 0 + length bytes = ap (λ (p : List Wire × ℕ). p.1) same in
    (ap (λ (p : List Wire × ℕ). p.0) same, nil_from_length more (omega (arith, len, length-append front more)))

pub is_found : (ks : List Kind) (bytes : List ℕ) (r : Result (Vec Wire) ArgError) → IsBytes bytes → Gives (λ v. v.items) r (args_of ks bytes) → IfOk r (λ v. IsArgs ks 0 v.items bytes)
is_found ks bytes (Ok v) fits given = of_takes ks bytes v.items fits given
is_found ks bytes (Err e) fits given = tt

-- ---- the writer

align_same : (k : Kind) (v : Wire) → HasKind k v → align_of_value v ≡ align_of k
align_same kind.Int (wire.Int n) has = refl
align_same kind.Bool (wire.Bool b) has = refl
align_same kind.Text (wire.Text t) has = refl
align_same kind.Bytes (wire.Bytes t) has = refl
align_same kind.Guid (wire.Guid g) has = refl
align_same (kind.Ref i) (wire.Ref r) has = refl
align_same k v has = absurd has

ref_written : (f : StdFields) (referent : ℕ) → IsStdFields f → 0 < referent → referent < 2 ^ 32 → IsRef f (number w32 referent ++ (number w32 72 ++ (number w32 72 ++ written_of f)))
ref_written f referent fits some lt =
    let o = written_of f in
    let len : length o ≡ 72 = length-written f fits in
    record {
      referent = referent;
      flags = 0;
      strings = record { entries = 2; security = 1; values = 0 ∷ 0 ∷ 0 ∷ 0 ∷ [] };
      some = some;
      fits = lt;
      says = said_fits f fits;
      short = omega (arith, len);
      text_is = ap (λ (t : List ℕ). number w32 referent ++ (number w32 72 ++ (number w32 72 ++ t))) (sym (append-nil o))
          ∙ ap (λ (n : ℕ). number w32 referent ++ (number w32 n ++ (number w32 n ++ (o ++ zeros (gap n 4))))) (sym len);
    }

arg_written : (k : Kind) (v : Wire) (referent : ℕ) → HasKind k v → CanSend v → IsInRange v → 0 < referent → referent < 2 ^ 32 → IsArg k v (written_arg referent v)
unfolding written_arg
arg_written kind.Int (wire.Int n) referent has can fits some lt = (fits, refl)
arg_written kind.Bool (wire.Bool b) referent has can fits some lt = refl
arg_written kind.Text (wire.Text t) referent has can fits some lt = (can.0, can.1, refl)
arg_written kind.Bytes (wire.Bytes t) referent has can fits some lt = (can, refl)
arg_written kind.Guid (wire.Guid g) referent has can fits some lt = (fits, refl)
arg_written (kind.Ref i) (wire.Ref None) referent has can fits some lt = refl
arg_written (kind.Ref i) (wire.Ref (Some f)) referent has can fits some lt = ref_written f referent fits some lt
arg_written k v referent has can fits some lt = absurd has

next_above : (referent : ℕ) (v : Wire) → (referent ≤ next_referent referent v) × (next_referent referent v ≤ referent + 4)
next_above referent (wire.Int n) = (omega arith, omega arith)
next_above referent (wire.Bool b) = (omega arith, omega arith)
next_above referent (wire.Text t) = (omega arith, omega arith)
next_above referent (wire.Bytes t) = (omega arith, omega arith)
next_above referent (wire.Guid g) = (omega arith, omega arith)
next_above referent (wire.Ref None) = (omega arith, omega arith)
next_above referent (wire.Ref (Some f)) = (omega arith, omega arith)

pub args_written : (ks : List Kind) (vs : List Wire) (position referent : ℕ) → CanSendAll ks vs → AllByRecursion IsInRange vs → 0 < referent → referent + 4 * length vs ≤ 2 ^ 32 → IsArgs ks position vs (written_from position referent vs)
unfolding written_from
args_written [] [] position referent can fits some le = refl
args_written [] (v ∷ vs) position referent can fits some le = absurd can
args_written (k ∷ ks) [] position referent can fits some le = absurd can
args_written (k ∷ ks) (v ∷ vs) position referent can fits some le =
    let w = written_arg referent v in
    let next = next_referent referent v in
    let above = next_above referent v in
    let arg = arg_written k v referent can.0 can.1 fits.0 some (omega (arith, le)) in
    let others = args_written ks vs (position + gap position (align_of k) + length w) next can.2 fits.1 (omega (arith, some, above.0)) (omega (arith, le, above.1)) in
    subst (λ (a : ℕ). IsArgs (k ∷ ks) position (v ∷ vs) (zeros (gap position a) ++ (w ++ written_from (position + gap position a + length w) next vs))) (sym (align_same k v can.0))
    (w, written_from (position + gap position (align_of k) + length w) next vs, arg, refl, others)

pub all_can_send : (ks : List Kind) (vs : List Wire) → CanSendAll ks vs → AllByRecursion CanSend vs
all_can_send [] [] can = tt
all_can_send [] (v ∷ vs) can = absurd can
all_can_send (k ∷ ks) [] can = absurd can
all_can_send (k ∷ ks) (v ∷ vs) can = (can.1, all_can_send ks vs can.2)

pub as_many : (ks : List Kind) (vs : List Wire) → CanSendAll ks vs → length ks ≡ length vs
as_many [] [] can = refl
as_many [] (v ∷ vs) can = absurd can
as_many (k ∷ ks) [] can = absurd can
as_many (k ∷ ks) (v ∷ vs) can = ap suc (as_many ks vs can.2)

-- ---- how long a stream is

arg_length : (referent : ℕ) (v : Wire) → IsInRange v → length (written_arg referent v) ≡ length_of v
unfolding written_arg
arg_length referent (wire.Int n) fits = length-number w64 (2 ^ 64) wide64 (cast_unsigned w64 n)
arg_length referent (wire.Bool b) fits = length-number w32 (2 ^ 32) wide32 (if b then 1 else 0)
arg_length referent (wire.Text t) fits = length-counted t
arg_length referent (wire.Bytes t) fits = length-counted t
arg_length referent (wire.Guid g) fits = length-guid g fits
arg_length referent (wire.Ref None) fits = length-number w32 (2 ^ 32) wide32 0
arg_length referent (wire.Ref (Some f)) fits =
    let o = written_of f in
    omega (arith, length-append (number w32 referent) (number w32 72 ++ (number w32 72 ++ o)), length-append (number w32 72) (number w32 72 ++ o), length-append (number w32 72) o, length-number w32 (2 ^ 32) wide32 referent, length-number w32 (2 ^ 32) wide32 72, length-written f fits)

pub stream_length : (vs : List Wire) (position referent : ℕ) → AllByRecursion IsInRange vs → length (written_from position referent vs) ≡ length_from position vs
unfolding written_from length_from
stream_length [] position referent fits = refl
stream_length (v ∷ vs) position referent fits =
    let pad = gap position (align_of_value v) in
    let w = written_arg referent v in
    let others = written_from (position + pad + length w) (next_referent referent v) vs in
    let here : length w ≡ length_of v = arg_length referent v fits.0 in
    let place : position + pad + length w ≡ position + padded_length position v = omega (arith, here) in
    let behind : length others ≡ length_from (position + padded_length position v) vs = subst (λ (k : ℕ). length others ≡ length_from k vs) place (stream_length vs (position + pad + length w) (next_referent referent v) fits.1) in
    omega (arith, length-append (zeros pad) (w ++ others), length-append w others, length-replicate {A = ℕ} pad 0, here, behind)
