-- The interfaces of a formed scenario can be declared one after another.
use Rattle.std.proofs.Common.{◌≡◌, ℕ, ◌+◌, ◌≤◌, List, [], ◌∷◌, ◌++◌, map, Option, Some, None, is_some, Bool, false, if◌then◌else◌, refl, sym, ap, ◌∙◌, subst, arith, length, length-append, codes, All, append_assoc, bytes_eq}
use Rattle.std.proofs.lemmas.List.{map-append, length-map}
use Rattle.std.proofs.lemmas.List.Elements.{All-head, All-tail}
use Rattle.com_base.specs.declared.guid.Guid.{Guid}
use Rattle.com_base.specs.declared.value.Kind.{Kind}
use Rattle.com_base.specs.declared.value.Kind.TheVariants as kinds
use Rattle.com_classes.specs.declared.interfaces.Interface.{Interface}
use Rattle.com_classes.specs.declared.interfaces.Method.{Method}
use Rattle.com_classes.specs.Lookups.{same_guid}
use Rattle.com_model.specs.Formed.{Distinct, EachFrom, IsKindBy, IsResultBy, IsMethod, IsInterface, same_interface, is_type_word, IsAllowed}
use Rattle.com_read_lines.specs.Tables.{guid_eq}
use Rattle.com_read_lines.specs.Methods.{type_word_of}
use Rattle.com_print_scenario.specs.Ranges.{FitsInterface}
use Rattle.com_print_scenario.proofs.Apart.{IsNew, new_of, new_map, new_append, same_guids, no_position, no_guid, either_left, either_right}
use Rattle.com_print_scenario.proofs.Forms.{name_of, all_each, types_front}
use Rattle.com_print_scenario.proofs.InterfacesRead.{IsSigned, CanDefine, CanDefineAll, name_of_interface}
use Rattle.com_print_scenario.proofs.Methods.{AreTypes, IsKind, IsResult}

-- ---- methods

kind_in : (n : ℕ) (names : List (List ℕ)) (k : Kind) → length names ≡ n + 1 → IsKindBy n k → IsKind names k
kind_in n names kinds.Int e h = tt
kind_in n names kinds.Bool e h = tt
kind_in n names kinds.Text e h = tt
kind_in n names kinds.Bytes e h = tt
kind_in n names kinds.Guid e h = tt
kind_in n names (kinds.Ref i) e h = omega (arith, h, e)

result_in : (n : ℕ) (names : List (List ℕ)) (r : Option Kind) → length names ≡ n + 1 → IsResultBy n r → IsResult names r
result_in n names None e h = tt
result_in n names (Some k) e h = kind_in n names k e h

signed_in : (n : ℕ) (names : List (List ℕ)) (m : Method) → length names ≡ n + 1 → IsMethod n m → IsSigned names m
signed_in n names m e h = record {
  name = name_of m.name h.0;
  params = all_each (IsKindBy n) (IsKind names) (λ k g. kind_in n names k e g) m.params h.1;
  few = h.2;
  result = result_in n names m.result e h.3;
}

-- ---- GUIDs and names that are new

new_name : (d i : Interface) → same_interface d i ≡ false → bytes_eq d.name i.name ≡ false
new_name d i h = either_left (bytes_eq d.name i.name) (same_guid d.iid i.iid) h

pub new_iid : (d i : Interface) → same_interface d i ≡ false → guid_eq d.iid i.iid ≡ false
new_iid d i h = same_guids d.iid i.iid ∙ either_right (bytes_eq d.name i.name) (same_guid d.iid i.iid) h

pub no_type_word : (n : List ℕ) → is_type_word n ≡ false → is_some (type_word_of n) ≡ false
no_type_word n h =
    let int = either_left (bytes_eq n (codes "int")) _ h in
    let h1 = either_right (bytes_eq n (codes "int")) _ h in
    let bool = either_left (bytes_eq n (codes "bool")) _ h1 in
    let h2 = either_right (bytes_eq n (codes "bool")) _ h1 in
    let text = either_left (bytes_eq n (codes "text")) _ h2 in
    let h3 = either_right (bytes_eq n (codes "text")) _ h2 in
    let bytes = either_left (bytes_eq n (codes "bytes")) _ h3 in
    let guid = either_right (bytes_eq n (codes "bytes")) _ h3 in
    none_of_five (bytes_eq n (codes "int")) (bytes_eq n (codes "bool")) (bytes_eq n (codes "text")) (bytes_eq n (codes "bytes")) (bytes_eq n (codes "guid"))
    int bool text
    bytes guid
  where
    none_of_five : (a b c d e : Bool) → a ≡ false → b ≡ false → c ≡ false → d ≡ false → e ≡ false
        → is_some (if a then Some kinds.Int else (if b then Some kinds.Bool else (if c then Some kinds.Text else (if d then Some kinds.Bytes else (if e then Some kinds.Guid else None))))) ≡ false
    none_of_five a b c d e f g h i j = rw (f, g, h, i, j) refl

-- ---- the list

-- Behind these interfaces, these IIDs are taken: an interface that is new and allowed has none of them.
abbrev pub AreTaken : List Interface → List Guid → Type 0
AreTaken before iids = (i : Interface) → IsNew same_interface before i → IsAllowed i → IsNew guid_eq iids i.iid

pub new_front : {X : Type 0} (same : X → X → Bool) (ds es : List X) (x : X) → IsNew same (ds ++ es) x → IsNew same ds x
new_front same [] es x h = tt
new_front same (d ∷ ds) es x h = (h.0, new_front same ds es x h.1)

pub new_back : {X : Type 0} (same : X → X → Bool) (ds es : List X) (x : X) → IsNew same (ds ++ es) x → IsNew same es x
new_back same [] es x h = h
new_back same (d ∷ ds) es x h = new_back same ds es x h.1

taken_more : (before : List Interface) (iids : List Guid) (i : Interface) → AreTaken before iids → AreTaken (before ++ i ∷ []) (iids ++ i.iid ∷ [])
taken_more before iids i h x new allowed =
    new_append guid_eq iids (i.iid ∷ []) x.iid (h x (new_front same_interface before (i ∷ []) x new) allowed)
    (new_iid i x (new_back same_interface before (i ∷ []) x new).0, tt)

pub define_all : (all : List (List ℕ)) (done rest : List Interface) (iids : List Guid) (names : List (List ℕ)) (n : ℕ)
    → all ≡ names ++ map name_of_interface rest → names ≡ map name_of_interface done → length done ≡ n → n + length rest ≤ 64
    → AreTypes all → EachFrom IsInterface n rest → Distinct same_interface (done ++ rest) → All IsAllowed rest → All FitsInterface rest → AreTaken done iids
    → CanDefineAll names iids rest
define_all all done [] iids names n whole are count few types each apart allowed fits taken = tt
define_all all done (i ∷ is) iids names n whole are count few types each apart allowed fits taken =
    let is_i = each.0 in
    let ok = All-head IsAllowed i is allowed in
    let new = new_of same_interface done i is apart in
    let split : all ≡ (names ++ i.name ∷ []) ++ map name_of_interface is = whole ∙ sym (append_assoc names (i.name ∷ []) (map name_of_interface is)) in
    let long : length names ≡ n = ap length are ∙ length-map done name_of_interface ∙ count in
    let longer : length (names ++ i.name ∷ []) ≡ n + 1 = simp length-append (omega arith) in
    let named : names ++ i.name ∷ [] ≡ map name_of_interface (done ++ i ∷ []) =
    ap (λ (x : List (List ℕ)). x ++ i.name ∷ []) are ∙ sym (map-append name_of_interface done (i ∷ [])) in
    let counted : length (done ++ i ∷ []) ≡ n + 1 = simp length-append (omega arith) in
    let new_named : IsNew bytes_eq names i.name = subst (λ (x : List (List ℕ)). IsNew bytes_eq x i.name) (sym are)
    (new_map name_of_interface same_interface bytes_eq done i (λ d h. new_name d i h) new) in
    let can : CanDefine names iids i = record {
      room = omega arith;
      name = name_of i.name is_i.0;
      no_type = no_type_word i.name ok.1;
      free = no_position names i.name new_named;
      fits = All-head FitsInterface i is fits;
      new = no_guid iids i.iid (taken i new ok);
      types = types_front (names ++ i.name ∷ []) (map name_of_interface is) (subst AreTypes split types);
      methods = all_each (IsMethod n) (IsSigned (names ++ i.name ∷ [])) (λ m h. signed_in n (names ++ i.name ∷ []) m longer h) i.methods is_i.1;
      apart = is_i.3;
      few = is_i.2;
    } in (
      can,
      define_all all (done ++ i ∷ []) is (iids ++ i.iid ∷ []) (names ++ i.name ∷ []) (n + 1) split named counted (omega arith) types each.1
          (subst (Distinct same_interface) (sym (append_assoc done (i ∷ []) is)) apart) (All-tail IsAllowed i is allowed) (All-tail FitsInterface i is fits)
          (taken_more done iids i taken),
    )
