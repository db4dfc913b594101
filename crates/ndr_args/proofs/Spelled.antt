-- What is read is spelled so, and what is spelled so is read.
use Rattle.std.proofs.Common.{◌≡◌, ℕ, zero, suc, ◌+◌, ◌^◌, ◌<◌, ◌≤◌, true, false, cond, ltb, eqb, List, ◌∷◌, ◌++◌, length, get_or, take, drop, Option, Some, None, Ok, Err, refl, sym, ap, subst, ◌∙◌, append_assoc, arith}
use Rattle.std.specs.Int.{w32}
use Rattle.std.proofs.lemmas.Bool.{ltb-false, ltb-true, le-ltb, lt-ltb, eqb-true, eq-eqb}
use Rattle.std.proofs.lemmas.List.{length-append, length-drop, length-take, take_at}
use Rattle.std.proofs.Math.Seq.{drop-cons}
use Rattle.com_wire.specs.Fields.{IsBytes, number, number_at}
use Rattle.com_wire.proofs.Chosen.{bind_ok, guard_ok, guard_then, ok_is}
use Rattle.com_wire.proofs.Fields.{IsBytes-drop, IsBytes-take, Stands, Stands-then, part_stands, wide32, number_takes, field_again, length-number}
use Rattle.ndr_args.specs.declared.wire.ArgFault.{ArgFault}
use Rattle.ndr_args.specs.Grammar.{zeros, counted}
use Rattle.ndr_args.specs.Reading.{fault, short, field, u32_field, zeros_at, count_at, part_at, counted_at}

-- ---- positions

-- where a part that stands at a position ends
pub stands_end : (bytes text : List ℕ) (position end : ℕ) → Stands bytes position text end → position ≤ length bytes → end ≡ position + length text
stands_end bytes text position end s le = omega (arith, ap length s.parts, length-drop position bytes, length-append text (drop end bytes), length-drop end bytes, s.within)

-- ---- padding

pub zeros_take : (bytes : List ℕ) (count position end : ℕ) → position ≤ length bytes → zeros_at bytes count position ≡ Ok end → Stands bytes position (zeros count) end × (end ≡ position + count)
unfolding zeros_at
zeros_take bytes zero position end le e =
    subst (λ (k : ℕ). Stands bytes position (zeros 0) k × (k ≡ position + 0)) (ok_is {F = ArgFault} position end e) (record { parts = refl; within = le }, omega arith)
zeros_take bytes (suc count) position end le e =
    let a = guard_then (ltb position (length bytes)) (cond (eqb (get_or bytes position 0) 0) (zeros_at bytes count (position + 1)) (Err (fault 2 position))) (short bytes) end e in
    let b = guard_then (eqb (get_or bytes position 0) 0) (zeros_at bytes count (position + 1)) (fault 2 position) end a.1 in
    let lt : position < length bytes = ltb-true _ _ a.0 in
    let rest = zeros_take bytes count (position + 1) end (omega arith) b.1 in
    let next : position + 1 ≡ suc position = omega arith in
    let first : drop position bytes ≡ 0 ∷ drop (position + 1) bytes = drop-cons bytes position 0 lt ∙ ap (λ (x : ℕ). x ∷ drop (suc position) bytes) (eqb-true _ _ b.0) ∙ ap (λ (k : ℕ). 0 ∷ drop k bytes) (sym next) in
    (record { parts = first ∙ ap (λ (t : List ℕ). 0 ∷ t) rest.0.parts; within = rest.0.within }, omega (arith, rest.1))

pub zeros_again : (bytes : List ℕ) (count position : ℕ) (rest : List ℕ) → drop position bytes ≡ zeros count ++ rest → zeros_at bytes count position ≡ Ok (position + count)
unfolding zeros_at
zeros_again bytes zero position rest e = ap (λ (k : ℕ). Ok k) (omega arith)
zeros_again bytes (suc count) position rest e =
    let lt : position < length bytes = omega (arith, ap length e, length-drop position bytes) in
    let split : get_or bytes position 0 ∷ drop (suc position) bytes ≡ 0 ∷ (zeros count ++ rest) = sym (drop-cons bytes position 0 lt) ∙ e in
    let head : get_or bytes position 0 ≡ 0 = cc in
    let tail : drop (suc position) bytes ≡ zeros count ++ rest = cc in
    let next : position + 1 ≡ suc position = omega arith in
    let t1 : ltb position (length bytes) ≡ true = lt-ltb _ _ lt in
    let t2 : eqb (get_or bytes position 0) 0 ≡ true = eq-eqb _ _ head in
    let more : zeros_at bytes count (position + 1) ≡ Ok (position + 1 + count) = zeros_again bytes count (position + 1) rest (rw next tail) in
    rw (t1, t2, more) (ap (λ (k : ℕ). Ok k) (omega arith))

-- ---- numbers

pub field_is : {A : Type 0} (bytes : List ℕ) (o : Option A) (end : ℕ) (x : A × ℕ) → field bytes o end ≡ Ok x → (o ≡ Some x.0) × (x.1 ≡ end)
field_is bytes None end x e = absurd cc
field_is {A} bytes (Some y) end x e =
    let same : (y, end) ≡ x = ok_is {F = ArgFault} (y, end) x e in
    (ap (λ (p : A × ℕ). Some p.0) same, ap (λ (p : A × ℕ). p.1) (sym same))

pub u32_take : (bytes : List ℕ) (position : ℕ) (x : ℕ × ℕ) → IsBytes bytes → u32_field bytes position ≡ Ok x → Stands bytes position (number w32 x.0) (position + 4) × (x.0 < 2 ^ 32) × (x.1 ≡ position + 4)
u32_take bytes position x fits e =
    let f = field_is bytes (number_at w32 bytes position) (position + 4) x e in
    let t = number_takes w32 (2 ^ 32) wide32 bytes position x.0 fits f.0 in
    (t.0, t.1, f.1)

pub u32_again : (bytes : List ℕ) (position n : ℕ) (rest : List ℕ) → n < 2 ^ 32 → drop position bytes ≡ number w32 n ++ rest → (u32_field bytes position ≡ Ok (n, position + 4)) × (drop (position + 4) bytes ≡ rest)
u32_again bytes position n rest lt e =
    let f = field_again w32 (2 ^ 32) wide32 bytes position n rest (omega arith) lt e in
    (rw f.0 refl, f.1)

-- ---- counts, and what stands behind them

pub count_take : (bytes : List ℕ) (position : ℕ) (x : ℕ × ℕ) → IsBytes bytes → count_at bytes position ≡ Ok x → Stands bytes position (number w32 x.0) (position + 4) × (x.0 ≤ 65536) × (x.1 ≡ position + 4)
unfolding count_at
count_take bytes position x fits e =
    let a = bind_ok (u32_field bytes position) (λ c. cond (ltb 65536 c.0) (Err (fault 5 position)) (Ok c)) x e in
    let g = guard_ok (ltb 65536 a.0.0) (fault 5 position) (Ok a.0) x a.2 in
    let t = u32_take bytes position a.0 fits a.1 in
    let le : a.0.0 ≤ 65536 = ltb-false _ _ g.0 in
    subst (λ (y : ℕ × ℕ). Stands bytes position (number w32 y.0) (position + 4) × (y.0 ≤ 65536) × (y.1 ≡ position + 4)) (ok_is {F = ArgFault} a.0 x g.1) (t.0, le, t.2)

pub count_again : (bytes : List ℕ) (position n : ℕ) (rest : List ℕ) → n ≤ 65536 → drop position bytes ≡ number w32 n ++ rest → (count_at bytes position ≡ Ok (n, position + 4)) × (drop (position + 4) bytes ≡ rest)
unfolding count_at
count_again bytes position n rest le e =
    let u = u32_again bytes position n rest (omega arith) e in
    let t : ltb 65536 n ≡ false = le-ltb _ _ le in
    (rw (u.0, t) refl, u.1)

pub part_take : (bytes : List ℕ) (count position : ℕ) (x : List ℕ × ℕ) → IsBytes bytes → part_at bytes count position ≡ Ok x → Stands bytes position x.0 x.1 × (length x.0 ≡ count) × (x.1 ≡ position + count) × IsBytes x.0
part_take bytes count position x fits e =
    let g = guard_ok (ltb (length bytes) (position + count)) (short bytes) (Ok (take count (drop position bytes), position + count)) x e in
    let le : position + count ≤ length bytes = ltb-false _ _ g.0 in
    let len : length (take count (drop position bytes)) ≡ count = omega (arith, length-take count (drop position bytes), length-drop position bytes) in
    subst (λ (y : List ℕ × ℕ). Stands bytes position y.0 y.1 × (length y.0 ≡ count) × (y.1 ≡ position + count) × IsBytes y.0) (ok_is {F = ArgFault} (take count (drop position bytes), position + count) x g.1)
    (part_stands bytes position count le, len, refl, IsBytes-take count (drop position bytes) (IsBytes-drop position bytes fits))

pub part_again : (bytes : List ℕ) (position : ℕ) (text rest : List ℕ) → position ≤ length bytes → drop position bytes ≡ text ++ rest → part_at bytes (length text) position ≡ Ok (text, position + length text)
part_again bytes position text rest within e =
    let t : ltb (length bytes) (position + length text) ≡ false = le-ltb _ _ (omega (arith, ap length e, length-drop position bytes, length-append text rest)) in
    let front : take (length text) (drop position bytes) ≡ text = ap (take (length text)) e ∙ take_at text rest (length text) refl in
    rw (t, front) refl

pub counted_take : (bytes : List ℕ) (position : ℕ) (x : List ℕ × ℕ) → IsBytes bytes → counted_at bytes position ≡ Ok x → Stands bytes position (counted x.0) x.1 × (length x.0 ≤ 65536)
unfolding counted_at
counted_take bytes position x fits e =
    let a = bind_ok (count_at bytes position) (λ c. part_at bytes c.0 c.1) x e in
    let t = count_take bytes position a.0 fits a.1 in
    let p = part_take bytes a.0.0 a.0.1 x fits a.2 in
    let behind : Stands bytes (position + 4) x.0 x.1 = subst (λ (k : ℕ). Stands bytes k x.0 x.1) t.2 p.0 in
    let both = Stands-then bytes position (position + 4) x.1 (number w32 a.0.0) x.0 t.0 behind in
    (subst (λ (n : ℕ). Stands bytes position (number w32 n ++ x.0) x.1) (sym p.1) both, omega (arith, p.1, t.1))

-- a number at a position lies within the bytes
pub u32_within : (bytes : List ℕ) (position n : ℕ) (rest : List ℕ) → drop position bytes ≡ number w32 n ++ rest → position + 4 ≤ length bytes
u32_within bytes position n rest e = omega (arith, ap length e, length-drop position bytes, length-append (number w32 n) rest, length-number w32 (2 ^ 32) wide32 n)

pub counted_again : (bytes : List ℕ) (position : ℕ) (text rest : List ℕ) → length text ≤ 65536 → drop position bytes ≡ counted text ++ rest → counted_at bytes position ≡ Ok (text, position + 4 + length text)
unfolding counted_at
counted_again bytes position text rest le e =
    let regrouped : drop position bytes ≡ number w32 (length text) ++ (text ++ rest) = e ∙ append_assoc (number w32 (length text)) text rest in
    let c = count_again bytes position (length text) (text ++ rest) le regrouped in
    let p = part_again bytes (position + 4) text rest (u32_within bytes position (length text) (text ++ rest) regrouped) c.1 in
    rw (c.0, p) refl
