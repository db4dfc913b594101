-- The scenario's class is a source.
use Rattle.std.proofs.Common.{refl, ap, ◌∙◌, inr, arith}
use Rattle.std.proofs.lemmas.Grind.{common_steps}
use Rattle.std.specs.Prelude.{◌≡◌, ℕ, zero, suc, Bool, true, false, cond, ◌==◌, ◌&&◌, List, Option, Some, None, option_map}
use Rattle.com_body.specs.declared.statements.Stmt.{Stmt}
use Rattle.com_classes.specs.declared.classes.MethodBody.{MethodBody}
use Rattle.com_classes.specs.Lookups.{class_body}
use Rattle.com_laws_sources.specs.Bodies.{advise_body, unadvise_body, fire_body}
use Rattle.com_laws_sources.specs.Sources.{IsSource, point_body, source_body}
use Rattle.com_laws_events.specs.Broken.{point, source, source_class}

-- What the three bodies are, by the tests of the interface and of the method.
abbrev chosen : (a b c : Bool) → Option (List Stmt)
chosen true b c = Some advise_body
chosen false true c = Some unadvise_body
chosen false false true = Some fire_body
chosen false false false = None

by-tests : (a b c : Bool) → option_map (λ (x : MethodBody). x.body) (cond a (Some (record { iface = 4; method = 0; body = advise_body })) (cond b (Some (record { iface = 4; method = 1; body = unadvise_body })) (cond c (Some (record { iface = 4; method = 2; body = fire_body })) None))) ≡ chosen a b c
by-tests true b c = refl
by-tests false true c = refl
by-tests false false true = refl
by-tests false false false = refl

not-zero : (n : ℕ) → (0 == suc (suc (suc n))) ≡ false
not-zero n = grind (arith, common_steps)

not-one : (n : ℕ) → (1 == suc (suc (suc n))) ≡ false
not-one n = grind (arith, common_steps)

not-two : (n : ℕ) → (2 == suc (suc (suc n))) ≡ false
not-two n = grind (arith, common_steps)

-- The tests of a method fail where they are false.
all-off : (t a b c : Bool) → a ≡ false → b ≡ false → c ≡ false → chosen (t && a) (t && b) (t && c) ≡ None
all-off true true b c p q r = cc
all-off true false true c p q r = cc
all-off true false false true p q r = cc
all-off true false false false p q r = refl
all-off false a b c p q r = refl

none-either : (t : Bool) → ◌≡◌ {A = Option (List Stmt)} None (cond t None None)
none-either true = refl
none-either false = refl

by-method : (t : Bool) (m : ℕ) → chosen (t && 0 == m) (t && 1 == m) (t && 2 == m) ≡ cond t (point_body m) None
by-method true zero = refl
by-method false zero = refl
by-method true (suc zero) = refl
by-method false (suc zero) = refl
by-method true (suc (suc zero)) = refl
by-method false (suc (suc zero)) = refl
by-method t (suc (suc (suc n))) =
    all-off t (0 == suc (suc (suc n))) (1 == suc (suc (suc n))) (2 == suc (suc (suc n))) (not-zero n) (not-one n) (not-two n) ∙ none-either t

flipped : (j : ℕ) → (4 == j) ≡ (j == 4)
flipped j = grind (arith, common_steps)

bodies-are : (j m : ℕ) → class_body source_class j m ≡ source_body 4 j m
bodies-are j m =
    by-tests (4 == j && 0 == m) (4 == j && 1 == m) (4 == j && 2 == m) ∙ by-method (4 == j) m
    ∙ ap (λ (t : Bool). cond t (point_body m) None) (flipped j)

pub is-source : IsSource source 1 4
is-source = record {
  declaration = source_class;
  there = refl;
  source = record {
    model = inr refl;
    native = refl;
    interfaces = refl;
    point = point;
    declared = refl;
    is_point = record { iid = refl; methods = refl };
    bodies = bodies-are;
  };
}
