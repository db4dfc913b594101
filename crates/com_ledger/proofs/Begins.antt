-- Whether an object begins to die, test by test.
use Rattle.std.proofs.Common.{◌≡◌, ℕ, ◌<◌, ◌≤◌, Bool, true, false, not, ◌==◌, ◌&&◌, List, refl, sym, ap, ◌∙◌, length, slice_index_or, arith}
use Rattle.std.proofs.lemmas.Grind.{common_steps}
use Rattle.std.specs.Prelude.{nat_le}
use Rattle.com_model.specs.Lists.{is_member}
use Rattle.com_state.specs.Parts.{ObjectTables}
use Rattle.com_ledger.specs.Falling.{begins_by}

-- One test of five fails.
third-fails : (a b c d : Bool) → c ≡ false → false ≡ ((a && (b && (c && d))))
third-fails true true c d e = sym (ap (λ (x : Bool). x && d) e)
third-fails true false c d e = refl
third-fails false b c d e = refl

some-fails : (a b : Bool) → a ≡ false → false ≡ (a && b)
some-fails a b e = sym (ap (λ (x : Bool). x && b) e)

both-fail : (a b : Bool) → false ≡ a → false ≡ (a && b)
both-fail a b e = ap (λ (x : Bool). x && b) e

pub not_zero : (o : ObjectTables) (h : ℕ → ℕ) (e f : List ℕ) (x : ℕ) → x ≡ 0 → false ≡ begins_by o h e f x
not_zero o h e f x p = sym (ap (begins_by o h e f) p)

pub not_above : (o : ObjectTables) (h : ℕ → ℕ) (e f : List ℕ) (x : ℕ) → length o.makings < x → false ≡ begins_by o h e f x
not_above o h e f x p =
    let high : nat_le x (length o.makings) ≡ false = grind (arith, common_steps, p) in
    let rest : Bool = not (is_member x o.finaled) && (h x == 0 && not (not (slice_index_or e x 0 == 0))) in
    elim (nat_le 1 x) as (λ t. false ≡ (((t && nat_le x (length o.makings)) && rest) && not (is_member x f))) [
      | true ↦ ap (λ (b : Bool). (b && rest) && not (is_member x f)) (sym high)
      | false ↦ refl
    ]

pub not_held : (o : ObjectTables) (h : ℕ → ℕ) (e f : List ℕ) (x : ℕ) → 0 < h x → false ≡ begins_by o h e f x
not_held o h e f x p =
    let held : (h x == 0) ≡ false = grind (arith, common_steps, p) in
    both-fail _ (not (is_member x f)) (third-fails (nat_le 1 x && nat_le x (length o.makings)) (not (is_member x o.finaled)) (h x == 0) (not (not (slice_index_or e x 0 == 0))) held)

fourth-fails : (a b c d : Bool) → d ≡ true → false ≡ ((a && (b && (c && not d))))
fourth-fails true true true d e = ap not (sym e)
fourth-fails true true false d e = refl
fourth-fails true false c d e = refl
fourth-fails false b c d e = refl

pub not_running : (o : ObjectTables) (h : ℕ → ℕ) (e f : List ℕ) (x : ℕ) → not (slice_index_or e x 0 == 0) ≡ true → false ≡ begins_by o h e f x
not_running o h e f x p =
    both-fail _ (not (is_member x f)) (fourth-fails (nat_le 1 x && nat_le x (length o.makings)) (not (is_member x o.finaled)) (h x == 0) (not (slice_index_or e x 0 == 0)) p)

second-fails : (a b c : Bool) → b ≡ true → false ≡ (a && (not b && c))
second-fails true b c e = ap (λ (x : Bool). not x && c) (sym e)
second-fails false b c e = refl

pub not_released : (o : ObjectTables) (h : ℕ → ℕ) (e f : List ℕ) (x : ℕ) → is_member x o.finaled ≡ true → false ≡ begins_by o h e f x
not_released o h e f x p =
    both-fail _ (not (is_member x f)) (second-fails (nat_le 1 x && nat_le x (length o.makings)) (is_member x o.finaled) (h x == 0 && not (not (slice_index_or e x 0 == 0))) p)

all-pass : (a b c d e g : Bool) → a ≡ true → b ≡ true → c ≡ false → d ≡ true → e ≡ false → g ≡ (((a && b) && (not c && (d && not e))) && g)
all-pass a b c d e g p q r s t = sym (λ i. ((p i && q i) && (not (r i) && (s i && not (t i)))) && g)

pub else_begins : (o : ObjectTables) (h : ℕ → ℕ) (e f : List ℕ) (x : ℕ) (was : Bool) → was ≡ is_member x f → (x ≡ 0 → ⊥) → x ≤ length o.makings → (0 < h x → ⊥)
    → not (slice_index_or e x 0 == 0) ≡ false → is_member x o.finaled ≡ false → not was ≡ begins_by o h e f x
else_begins o h e f x was w z a n r l =
    let low : nat_le 1 x ≡ true = let one : 1 ≤ x = grind (arith, z) in grind (arith, common_steps, one) in
    let high : nat_le x (length o.makings) ≡ true = grind (arith, common_steps, a) in
    let none : (h x == 0) ≡ true = grind (arith, common_steps, n) in
    ap not w ∙ all-pass (nat_le 1 x) (nat_le x (length o.makings)) (is_member x o.finaled) (h x == 0) (not (slice_index_or e x 0 == 0)) (not (is_member x f)) low high l none r
