-- Loops over tables by number.
use Rattle.std.proofs.Common.{◌≡◌, ℕ, zero, suc, ◌+◌, ◌-◌, ◌<◌, List, [], ◌∷◌, ◌++◌, map, drop, Some, None, refl, sym, ap, ◌∙◌, arith, length, slice_get, append_assoc, Bool, false, ◌==◌, if◌then◌else◌}
use Rattle.std.proofs.lemmas.Bool.Decides.{nat_tests}
use Rattle.std.proofs.lemmas.List.{append-nil}
use Rattle.com_classes.specs.Tables.{Tables}
use Rattle.com_classes.specs.Lookups.{interface_at, class_at}
use Rattle.com_classes.specs.declared.interfaces.Interface.{Interface}
use Rattle.com_classes.specs.declared.classes.Class.{Class}
use Rattle.com_filter.specs.declared.Rule.{Rule}
use Rattle.com_print_scenario.specs.Printed.{filter_name, filter_names}

-- the elements from one that is there on
pub next_of : {X : Type 0} (xs : List X) (n : ℕ) (x : X) → Some x ≡ slice_get xs n → drop n xs ≡ x ∷ drop (n + 1) xs
next_of [] n x h = absurd cc
next_of (y ∷ ys) zero x h = let e : x ≡ y = cc in ap (λ z. z ∷ ys) (sym e)
next_of (y ∷ ys) (suc n) x h =
    let e : suc n + 1 ≡ suc (n + 1) = omega arith in
    next_of ys n x h ∙ ap (λ k. x ∷ drop k (y ∷ ys)) (sym e)

there : {X : Type 0} (xs : List X) (n : ℕ) (x : X) → Some x ≡ slice_get xs n → n < length xs
there [] n x h = absurd cc
there (y ∷ ys) zero x h = omega arith
there (y ∷ ys) (suc n) x h = let lt = there ys n x h in omega arith

-- no elements are left where none is there
none_left : {X : Type 0} (xs : List X) (n : ℕ) → None ≡ slice_get xs n → drop n xs ≡ []
none_left [] zero h = refl
none_left [] (suc n) h = refl
none_left (y ∷ ys) zero h = absurd cc
none_left (y ∷ ys) (suc n) h = none_left ys n h

-- ---- interfaces

pub interface_more : (t : Tables) (copies : List Interface) (n : ℕ) (x : Interface) → copies ++ drop n t.interfaces ≡ t.interfaces → Some x ≡ interface_at t n
    → (copies ++ x ∷ []) ++ drop (n + 1) t.interfaces ≡ t.interfaces
interface_more t copies n x h is =
    append_assoc copies (x ∷ []) (drop (n + 1) t.interfaces) ∙ ap (λ (l : List Interface). copies ++ l) (sym (next_of t.interfaces n x is)) ∙ h

pub interface_there : (t : Tables) (n : ℕ) (x : Interface) → Some x ≡ interface_at t n → n < length t.interfaces
interface_there t n x is = there t.interfaces n x is

pub interfaces_end : (t : Tables) (copies : List Interface) (n : ℕ) → copies ++ drop n t.interfaces ≡ t.interfaces → None ≡ interface_at t n → copies ≡ t.interfaces
interfaces_end t copies n h is = sym (append-nil copies) ∙ ap (λ (l : List Interface). copies ++ l) (sym (none_left t.interfaces n is)) ∙ h

-- ---- classes, which count from 1

class_place : (t : Tables) (n : ℕ) → class_at t (n + 1) ≡ slice_get t.classes n
class_place t n =
    let f : (n + 1 == 0) ≡ false = grind (arith, nat_tests) in
    let e : n + 1 - 1 ≡ n = omega arith in
    ap (λ (b : Bool). if b then None else slice_get t.classes (n + 1 - 1)) f ∙ ap (slice_get t.classes) e

pub next_class : (t : Tables) (n : ℕ) (c : Class) → Some c ≡ class_at t (n + 1) → drop n t.classes ≡ c ∷ drop (n + 1) t.classes
next_class t n c is = next_of t.classes n c (is ∙ class_place t n)

pub no_class : (t : Tables) (n : ℕ) → None ≡ class_at t (n + 1) → drop n t.classes ≡ []
no_class t n is = none_left t.classes n (is ∙ class_place t n)

abbrev pub named : Class → List ℕ
named c = c.name

pub class_more : (t : Tables) (names : List (List ℕ)) (n : ℕ) (x : Class) → names ++ map (λ (c : Class). c.name) (drop n t.classes) ≡ map (λ (c : Class). c.name) t.classes
    → Some x ≡ class_at t (n + 1) → (names ++ x.name ∷ []) ++ map (λ (c : Class). c.name) (drop (n + 1) t.classes) ≡ map (λ (c : Class). c.name) t.classes
class_more t names n x h is =
    append_assoc names (x.name ∷ []) (map named (drop (n + 1) t.classes))
    ∙ ap (λ (l : List Class). names ++ map named l) (sym (next_of t.classes n x (is ∙ class_place t n))) ∙ h

pub class_there : (t : Tables) (n : ℕ) (x : Class) → Some x ≡ class_at t (n + 1) → n < length t.classes
class_there t n x is = there t.classes n x (is ∙ class_place t n)

pub classes_end : (t : Tables) (names : List (List ℕ)) (n : ℕ) → names ++ map (λ (c : Class). c.name) (drop n t.classes) ≡ map (λ (c : Class). c.name) t.classes
    → None ≡ class_at t (n + 1) → names ≡ map (λ (c : Class). c.name) t.classes
classes_end t names n h is = sym (append-nil names) ∙ ap (λ (l : List Class). names ++ map named l) (sym (none_left t.classes n (is ∙ class_place t n))) ∙ h

-- ---- filters

more_of : (filters : List (List Rule)) (n m : ℕ) → n < length filters → filter_names m (drop n filters) ≡ filter_name m ∷ filter_names (m + 1) (drop (n + 1) filters)
more_of [] n m lt = absurd (omega arith)
more_of (f ∷ fs) zero m lt = refl
more_of (f ∷ fs) (suc n) m lt =
    let e : suc n + 1 ≡ suc (n + 1) = omega arith in
    more_of fs n m (omega arith) ∙ ap (λ k. filter_name m ∷ filter_names (m + 1) (drop k (f ∷ fs))) (sym e)

pub filter_more : (filters : List (List Rule)) (names : List (List ℕ)) (n : ℕ) → names ++ filter_names (n + 1) (drop n filters) ≡ filter_names 1 filters → n < length filters
    → (names ++ filter_name (n + 1) ∷ []) ++ filter_names (n + 1 + 1) (drop (n + 1) filters) ≡ filter_names 1 filters
filter_more filters names n h lt =
    append_assoc names (filter_name (n + 1) ∷ []) (filter_names (n + 1 + 1) (drop (n + 1) filters))
    ∙ ap (λ (l : List (List ℕ)). names ++ l) (sym (more_of filters n (n + 1) lt)) ∙ h

pub all_dropped : (filters : List (List Rule)) → drop (length filters) filters ≡ []
all_dropped [] = refl
all_dropped (f ∷ fs) = all_dropped fs

pub filters_end : (filters : List (List Rule)) (names : List (List ℕ)) (n : ℕ) → names ++ filter_names (n + 1) (drop n filters) ≡ filter_names 1 filters → n ≡ length filters
    → names ≡ filter_names 1 filters
filters_end filters names n h e =
    sym (append-nil names) ∙ ap (λ (l : List (List Rule)). names ++ filter_names (n + 1) l) (sym (ap (λ k. drop k filters) e ∙ all_dropped filters)) ∙ h
