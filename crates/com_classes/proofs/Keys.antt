-- A GUID's index in a table is that of its key in the map.
use Rattle.std.proofs.Common.{◌≡◌, ℕ, ◌+◌, is_some, true, false, true≢false, sym, ◌<◌, List, [], ◌∷◌, ◌++◌, Bool, not, cond, map, length, Option, Some, None, position, refl, ap, ◌∙◌, arith, nat_lt, nat_le, if◌then◌else◌}
use Rattle.std.specs.List.{prefix_len}
use Rattle.std.specs.Option.{option_map}
use Rattle.std.proofs.lemmas.List.{length-map}
use Rattle.std.proofs.lemmas.Option.{none-some}
use Rattle.std.proofs.lemmas.Bool.{leb-false}
use Rattle.indexmap.specs.IndexMap.{IndexMap, get, index_of, insert_entry}
use Rattle.indexmap.proofs.CallerLemmas.{insert_entry-new}
use Rattle.indexmap.proofs.MapLemmas.{some_index}
use Rattle.com_base.specs.declared.guid.Guid.{Guid}
use Rattle.com_classes.specs.declared.interfaces.Interface.{Interface}
use Rattle.com_classes.specs.declared.classes.Class.{Class}
use Rattle.com_classes.specs.declared.classes.ClassError.{ClassError}
use Rattle.com_classes.specs.declared.classes.ClassError.TheVariants as error
use Rattle.com_classes.specs.Tables.{Tables}
use Rattle.com_classes.specs.Lookups.{same_guid, find_interface, find_class, interface_refusal, class_refusal}
use Rattle.com_classes.specs.Indexed.{key_of, same_key}

prefix_len-map : {A B : Type 0} (f : A → B) (p : B → Bool) (xs : List A) → prefix_len p (map f xs) ≡ prefix_len (λ x. p (f x)) xs
prefix_len-map f p [] = refl
prefix_len-map f p (x ∷ xs) = ap (λ n. cond (p (f x)) (1 + n) 0) (prefix_len-map f p xs)

position-map : {A B : Type 0} (f : A → B) (p : B → Bool) (xs : List A) → position p (map f xs) ≡ position (λ x. p (f x)) xs
position-map {A} {B} f p xs =
    let at : ℕ → ℕ → Option ℕ = λ n m. cond (nat_lt n m) (Some n) None in
    ap (λ n. at n (length (map f xs))) (prefix_len-map f (λ y. not (p y)) xs) ∙
    ap (λ m. at (prefix_len (λ x. not (p (f x))) xs) m) (length-map xs f)

pub found_interface : (iid : Guid) (ks : List (ℕ × ℕ × ℕ × List ℕ)) (is : List Interface) → ks ≡ map (λ i. key_of i.iid) is →
    position (same_key (key_of iid)) ks ≡ position (λ i. same_guid iid i.iid) is
found_interface iid ks is keyed = ap (position (same_key (key_of iid))) keyed ∙ position-map (λ i. key_of i.iid) (same_key (key_of iid)) is

pub found_class : (clsid : Guid) (ks : List (ℕ × ℕ × ℕ × List ℕ)) (cs : List Class) → ks ≡ map (λ c. key_of c.clsid) cs →
    position (same_key (key_of clsid)) ks ≡ position (λ c. same_guid clsid c.clsid) cs
found_class clsid ks cs keyed = ap (position (same_key (key_of clsid))) keyed ∙ position-map (λ c. key_of c.clsid) (same_key (key_of clsid)) cs

-- what it says that nothing speaks against an interface or a class
unrefused : (o : Option ℕ) (n : ℕ) →
    ◌≡◌ {A = Option ClassError} (if is_some o then Some error.Repeated else if nat_le 64 n then Some error.Full else None) None → (o ≡ None) × (n < 64)
unrefused (Some x) n e = absurd (none-some error.Repeated (sym e))
unrefused None n e = (refl, by (nat_le 64 n) refl e)
  where
    by : (b : Bool) → nat_le 64 n ≡ b → ◌≡◌ {A = Option ClassError} (if b then Some error.Full else None) None → n < 64
    by true at e = absurd (none-some error.Full (sym e))
    by false at e = omega (arith, leb-false 64 n at)

-- an option that is not there
none_from_is_some : {A : Type 0} (o : Option A) → is_some o ≡ false → o ≡ None
none_from_is_some None e = refl
none_from_is_some (Some x) e = absurd (true≢false e)

-- a key that stands nowhere in the index is new to it
absent : {V S : Type 0} (m : IndexMap (ℕ × ℕ × ℕ × List ℕ) V S) (k : ℕ × ℕ × ℕ × List ℕ) → index_of same_key m k ≡ None → get same_key m k ≡ None
absent m k nowhere = none_from_is_some (get same_key m k) (sym (some_index (same_key k) m.entries) ∙ ap is_some nowhere)

-- and its entry goes to the end
pub appended : {V S : Type 0} (m : IndexMap (ℕ × ℕ × ℕ × List ℕ) V S) (k : ℕ × ℕ × ℕ × List ℕ) (v : V) → index_of same_key m k ≡ None →
    insert_entry same_key m.entries k v ≡ m.entries ++ (k, v) ∷ []
appended m k v nowhere = insert_entry-new same_key m k v (absent m k nowhere)

pub unrefused_interface : (t : Tables) (i : Interface) → interface_refusal t i ≡ None → (find_interface t i.iid ≡ None) × (length t.interfaces < 64)
unrefused_interface t i e = unrefused (find_interface t i.iid) (length t.interfaces) e

pub unrefused_class : (t : Tables) (c : Class) → class_refusal t c ≡ None → (find_class t c.clsid ≡ None) × (length t.classes < 64)
unrefused_class t c e = unrefused (find_class t c.clsid) (length t.classes) e

-- the number of an index, where there is no index
pub unmapped : (o : Option ℕ) → option_map (λ before. before + 1) o ≡ None → o ≡ None
unmapped None e = refl
unmapped (Some x) e = absurd (none-some (x + 1) (sym e))
