-- What is formed is refused by no table.
use Rattle.std.proofs.Common.{◌≡◌, ℕ, zero, suc, map, take, drop, get_or, subst, ◌+◌, ◌<◌, ◌≤◌, Bool, true, false, ◌||◌, not, cond, nat_le, nat_lt, List, [], ◌∷◌, ◌++◌, length, Option, Some, None, is_some, All, position, refl, sym, ap, ◌∙◌, arith, true≢false, option_map, length-append, if◌then◌else◌}
use Rattle.std.specs.List.{prefix_len}
use Rattle.std.specs.Prelude.{bytes_eq}
use Rattle.std.proofs.lemmas.List.Elements.{All-nil, All-cons, All-head, All-tail}
use Rattle.std.proofs.lemmas.List.{append_assoc, map-id}
use Rattle.std.proofs.lemmas.Bool.{le-ltb, lt-leb}
use Rattle.com_classes.specs.declared.interfaces.Interface.{Interface}
use Rattle.com_classes.specs.declared.classes.Class.{Class}
use Rattle.com_classes.specs.declared.classes.ClassError.{ClassError}
use Rattle.com_classes.specs.declared.classes.ClassError.TheVariants as error
use Rattle.com_classes.specs.BuiltIns.{built_in_interfaces}
use Rattle.com_classes.specs.Tables.{Tables}
use Rattle.com_classes.specs.Lookups.{same_guid, interface_refusal, class_refusal}
use Rattle.com_model.specs.Formed.{Distinct, FormedInterfaces, same_interface, same_class}
use Rattle.com_scenario.proofs.Alike.{guid_flip}

-- ---- what stands nowhere in a list

-- the walk over a list of which nothing passes goes to its end
walk_passes : {X : Type 0} (p : X → Bool) (xs : List X) → All (λ x. p x ≡ false) xs → prefix_len (λ x. not (p x)) xs ≡ length xs
walk_passes p [] h = refl
walk_passes p (x ∷ xs) h =
    ap (λ (b : Bool). cond (not b) (1 + prefix_len (λ y. not (p y)) xs) 0) (All-head (λ y. p y ≡ false) x xs h)
    ∙ ap (λ (n : ℕ). 1 + n) (walk_passes p xs (All-tail (λ y. p y ≡ false) x xs h))
    ∙ (let e : 1 + length xs ≡ suc (length xs) = omega arith in e)

nowhere : {X : Type 0} (p : X → Bool) (xs : List X) → All (λ x. p x ≡ false) xs → position p xs ≡ None
nowhere p xs h =
    ap (λ (n : ℕ). cond (nat_lt n (length xs)) (Some n) None) (walk_passes p xs h)
    ∙ ap (λ (b : Bool). cond b (Some (length xs)) None) (le-ltb (length xs) (length xs) (omega arith))

-- ---- what stands before another in a list without repeats

middle : {X : Type 0} (P : X → Type 0) (before : List X) (x : X) (after : List X) → All P (before ++ x ∷ after) → P x
middle P [] x after h = All-head P x after h
middle P (y ∷ ys) x after h = middle P ys x after (All-tail P y (ys ++ x ∷ after) h)

-- what a test that is weaker than that of the repeats says of those before another
apart : {X : Type 0} (same : X → X → Bool) (p : X → X → Bool) → ((x y : X) → same y x ≡ false → p x y ≡ false) → (before : List X) (x : X) (after : List X)
    → Distinct same (before ++ x ∷ after) → All (λ y. p x y ≡ false) before
apart same p weaker [] x after h = All-nil (λ y. p x y ≡ false)
apart same p weaker (y ∷ ys) x after h =
    All-cons (λ z. p x z ≡ false) y ys (weaker x y (middle (λ z. same y z ≡ false) ys x after h.0)) (apart same p weaker ys x after h.1)

right_of : (a b : Bool) → (a || b) ≡ false → b ≡ false
right_of true b h = absurd (true≢false h)
right_of false b h = h

other_iid : (x y : Interface) → same_interface y x ≡ false → same_guid x.iid y.iid ≡ false
other_iid x y h = guid_flip x.iid y.iid ∙ right_of (bytes_eq y.name x.name) (same_guid y.iid x.iid) h

other_clsid : (x y : Class) → same_class y x ≡ false → same_guid x.clsid y.clsid ≡ false
other_clsid x y h = guid_flip x.clsid y.clsid ∙ right_of (bytes_eq y.name x.name) (same_guid y.clsid x.clsid) h

room : {X : Type 0} (before : List X) (x : X) (after : List X) → length (before ++ x ∷ after) ≤ 64 → length before < 64
room before x after few = let e = length-append before (x ∷ after) in omega (arith, e, few)

-- ---- no refusal

taken_in : (o : Option ℕ) (n : ℕ) → o ≡ None → n < 64
    → ◌≡◌ {A = Option ClassError} (if is_some o then Some error.Repeated else if nat_le 64 n then Some error.Full else None) None
taken_in None n free few = ap (λ (b : Bool). if b then Some error.Full else None) (lt-leb 64 n few)
taken_in (Some k) n free few = absurd cc

-- ---- the next of a list that is walked

split_at : {X : Type 0} (all : List X) (n : ℕ) (x : X) → n < length all → x ≡ get_or all n x → all ≡ take n all ++ x ∷ drop (suc n) all
split_at [] n x l e = absurd (omega (arith, l))
split_at (y ∷ ys) zero x l e = ap (λ z. z ∷ ys) (sym e)
split_at (y ∷ ys) (suc n) x l e = ap (λ zs. y ∷ zs) (split_at ys n x (omega (arith, l)) e)

-- Where a walk has come to an element, the list is what was walked, the element, and others.
next_is : {X : Type 0} (all xs : List X) (x : X) → map (λ (y : X). y) xs ≡ take (length xs) all → (length xs < length all) × (x ≡ get_or all (length xs) x)
    → all ≡ xs ++ x ∷ drop (suc (length xs)) all
next_is all xs x so_far at = split_at all (length xs) x at.0 at.1 ∙ ap (λ ys. ys ++ x ∷ drop (suc (length xs)) all) (sym so_far ∙ map-id xs)

-- An interface is taken behind those that stand before it in a list that is formed.
interface_taken : (t : Tables) (before : List Interface) (x : Interface) (after : List Interface) → t.interfaces ≡ before
    → Distinct same_interface (before ++ x ∷ after) → length (before ++ x ∷ after) ≤ 64 → interface_refusal t x ≡ None
interface_taken t before x after same distinct few =
    taken_in (position (λ i. same_guid x.iid i.iid) t.interfaces) (length t.interfaces)
    (ap (λ (is : List Interface). position (λ i. same_guid x.iid i.iid) is) same
    ∙ nowhere (λ i. same_guid x.iid i.iid) before (apart same_interface (λ i k. same_guid i.iid k.iid) other_iid before x after distinct))
    (let l = ap (λ (is : List Interface). length is) same in let r = room before x after few in omega (arith, l, r))

-- The next interface of a walk is taken, behind the built-in ones and those that were walked.
pub next_interface : (t : Tables) (all xs : List Interface) (x : Interface) → t ≡ record { interfaces = built_in_interfaces ++ xs; classes = [] } → FormedInterfaces (built_in_interfaces ++ all)
    → map (λ (y : Interface). y) xs ≡ take (length xs) all → (length xs < length all) × (x ≡ get_or all (length xs) x) → interface_refusal t x ≡ None
next_interface t all xs x stands formed so_far at =
    let after = drop (suc (length xs)) all in
    let e : built_in_interfaces ++ all ≡ (built_in_interfaces ++ xs) ++ x ∷ after = ap (λ ys. built_in_interfaces ++ ys) (next_is all xs x so_far at) ∙ sym (append_assoc built_in_interfaces xs (x ∷ after)) in
    let g : FormedInterfaces ((built_in_interfaces ++ xs) ++ x ∷ after) = subst (λ is. FormedInterfaces is) e formed in
    interface_taken t (built_in_interfaces ++ xs) x after (ap (λ (s : Tables). s.interfaces) stands) g.distinct g.few

-- A class is taken behind those that stand before it in a list that is formed.
class_taken : (t : Tables) (before : List Class) (x : Class) (after : List Class) → t.classes ≡ before
    → Distinct same_class (before ++ x ∷ after) → length (before ++ x ∷ after) ≤ 64 → class_refusal t x ≡ None
class_taken t before x after same distinct few =
    taken_in (option_map (λ (k : ℕ). k + 1) (position (λ c. same_guid x.clsid c.clsid) t.classes)) (length t.classes)
    (ap (λ (cs : List Class). option_map (λ (k : ℕ). k + 1) (position (λ c. same_guid x.clsid c.clsid) cs)) same
    ∙ ap (λ (o : Option ℕ). option_map (λ (k : ℕ). k + 1) o)
    (nowhere (λ c. same_guid x.clsid c.clsid) before (apart same_class (λ c k. same_guid c.clsid k.clsid) other_clsid before x after distinct)))
    (let l = ap (λ (cs : List Class). length cs) same in let r = room before x after few in omega (arith, l, r))

-- The next class of a walk is taken, behind those that were walked.
pub next_class : (t : Tables) (interfaces : List Interface) (all xs : List Class) (x : Class) → t ≡ record { interfaces = interfaces; classes = xs } → Distinct same_class all → length all ≤ 64
    → map (λ (y : Class). y) xs ≡ take (length xs) all → (length xs < length all) × (x ≡ get_or all (length xs) x) → class_refusal t x ≡ None
next_class t interfaces all xs x stands distinct few so_far at =
    let after = drop (suc (length xs)) all in
    let e : all ≡ xs ++ x ∷ after = next_is all xs x so_far at in
    class_taken t xs x after (ap (λ (s : Tables). s.classes) stands) (subst (λ cs. Distinct same_class cs) e distinct) (let l = ap (λ (cs : List Class). length cs) e in omega (arith, l, few))
