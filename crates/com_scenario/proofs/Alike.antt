-- Names and GUIDs that are not among others, in the words of forms.
use Rattle.std.proofs.Common.{◌≡◌, ℕ, ◌+◌, ◌<◌, Bool, true, false, ◌==◌, ◌&&◌, ◌||◌, nat_le, nat_lt, eqb, List, [], ◌∷◌, ◌++◌, length, map, Option, Some, None, is_some, All, refl, arith, sym, ap, ◌∙◌, if◌then◌else◌, option_map, codes, true≢false}
use Rattle.std.specs.Prelude.{bytes_eq}
use Rattle.std.proofs.lemmas.List.Elements.{All-nil, All-cons}
use Rattle.std.proofs.lemmas.Bool.{or_from, leb-true, ltb-true, eqb-true, eq-eqb}
use Rattle.com_base.specs.declared.guid.Guid.{Guid}
use Rattle.com_base.specs.declared.value.Kind.{Kind}
use Rattle.com_read_operands.specs.Naming.{is_tail, are_tail, is_name, position_of}
use Rattle.com_classes.specs.declared.interfaces.Method.{Method}
use Rattle.com_read_statements.specs.Calls.{method_position}
use Rattle.com_read_lines.specs.Tables.{guid_eq, has_guid}
use Rattle.com_read_lines.specs.Methods.{type_word_of}
use Rattle.com_read_sections.specs.Outlines.{microsoft}
use Rattle.com_classes.specs.Lookups.{same_guid}
use Rattle.com_model.specs.Formed.{is_letter, is_name_byte, IsName, is_type_word, is_reserved, documented_iid, same_method}

-- ---- the same GUID

eqb_flip : (m n : ℕ) → eqb m n ≡ eqb n m
eqb_flip m n = by (eqb m n) (eqb n m) refl refl
  where
    by : (a b : Bool) → eqb m n ≡ a → eqb n m ≡ b → a ≡ b
    by true true e f = refl
    by false false e f = refl
    by true false e f = absurd (true≢false (sym (eq-eqb n m (sym (eqb-true m n e))) ∙ f))
    by false true e f = absurd (true≢false (sym (eq-eqb m n (sym (eqb-true n m f))) ∙ e))

bytes_flip : (a b : List ℕ) → bytes_eq a b ≡ bytes_eq b a
bytes_flip [] [] = refl
bytes_flip [] (y ∷ ys) = refl
bytes_flip (x ∷ xs) [] = refl
bytes_flip (x ∷ xs) (y ∷ ys) = ap (λ (b : Bool). b && bytes_eq xs ys) (eqb_flip x y) ∙ ap (λ (b : Bool). eqb y x && b) (bytes_flip xs ys)

pub guid_flip : (g k : Guid) → guid_eq g k ≡ guid_eq k g
guid_flip g k = cc (eqb_flip g.data1 k.data1, eqb_flip g.data2 k.data2, eqb_flip g.data3 k.data3, bytes_flip g.data4 k.data4)

-- ---- not among others

pub unmet : (b t : Bool) → (if b then true else t) ≡ false → (b ≡ false) × (t ≡ false)
unmet true t h = absurd (true≢false h)
unmet false t h = (refl, h)

-- a GUID that is not among those of a list, nor among those behind it
pub unlisted : {X : Type 0} (f : X → Guid) (xs : List X) (rest : List Guid) (g : Guid) → has_guid (map f xs ++ rest) g ≡ false → All (λ x. guid_eq (f x) g ≡ false) xs × (has_guid rest g ≡ false)
unlisted f [] rest g h = (All-nil (λ x. guid_eq (f x) g ≡ false), h)
unlisted f (x ∷ xs) rest g h =
    let u = unmet (guid_eq (f x) g) (has_guid (map f xs ++ rest) g) h in
    let more = unlisted f xs rest g u.1 in
    (All-cons (λ y. guid_eq (f y) g ≡ false) x xs u.0 more.0, more.1)

pub not_first : (d : Guid) (ds : List Guid) (g : Guid) → has_guid (d ∷ ds) g ≡ false → (guid_eq d g ≡ false) × (has_guid ds g ≡ false)
not_first d ds g h = unmet (guid_eq d g) (has_guid ds g) h

mapped_some : (o : Option ℕ) → is_some (option_map (λ (k : ℕ). k + 1) o) ≡ false → is_some o ≡ false
mapped_some None h = refl
mapped_some (Some k) h = h

-- a name that is not among those of a list
pub unnamed : {X : Type 0} (f : X → List ℕ) (xs : List X) (name : List ℕ) → is_some (position_of (map f xs) name) ≡ false → All (λ x. bytes_eq (f x) name ≡ false) xs
unnamed f [] name h = All-nil (λ x. bytes_eq (f x) name ≡ false)
unnamed f (x ∷ xs) name h = by (bytes_eq (f x) name) refl h (λ k. unnamed f xs name k)
  where
    by : (b : Bool) → bytes_eq (f x) name ≡ b → is_some (if b then Some 0 else option_map (λ (k : ℕ). k + 1) (position_of (map f xs) name)) ≡ false
        → (is_some (position_of (map f xs) name) ≡ false → All (λ y. bytes_eq (f y) name ≡ false) xs) → All (λ y. bytes_eq (f y) name ≡ false) (x ∷ xs)
    by true e k more = absurd (true≢false k)
    by false e k more = All-cons (λ y. bytes_eq (f y) name ≡ false) x xs e (more (mapped_some (position_of (map f xs) name) k))

-- a name that no method above has
pub unnamed_method : (ms : List Method) (m : Method) → is_some (method_position ms m.name) ≡ false → All (λ k. same_method k m ≡ false) ms
unnamed_method [] m h = All-nil (λ k. same_method k m ≡ false)
unnamed_method (x ∷ xs) m h = by (bytes_eq x.name m.name) refl h (λ k. unnamed_method xs m k)
  where
    by : (b : Bool) → bytes_eq x.name m.name ≡ b → is_some (if b then Some 0 else option_map (λ (k : ℕ). k + 1) (method_position xs m.name)) ≡ false
        → (is_some (method_position xs m.name) ≡ false → All (λ k. same_method k m ≡ false) xs) → All (λ k. same_method k m ≡ false) (x ∷ xs)
    by true e k more = absurd (true≢false k)
    by false e k more = All-cons (λ k. same_method k m ≡ false) x xs e (more (mapped_some (method_position xs m.name) k))

-- ---- names of the language

tail_byte : (b : ℕ) → is_tail b ≡ is_name_byte b
tail_byte b = three (nat_le 65 b && nat_le b 90) (nat_le 97 b && nat_le b 122) (nat_le 48 b && nat_le b 57) (b == 95)
  where
    three : (u l d o : Bool) → (((d || u) || l) || o) ≡ ((u || l) || (d || o))
    three true l d o = by d
      where
        by : (d : Bool) → (((d || true) || l) || o) ≡ true
        by true = refl
        by false = refl
    three false true true o = refl
    three false true false o = refl
    three false false true o = refl
    three false false false o = refl

name_bytes : (bs : List ℕ) → are_tail bs ≡ true → All (λ b. is_name_byte b ≡ true) bs
name_bytes [] h = All-nil (λ b. is_name_byte b ≡ true)
name_bytes (b ∷ bs) h = by (is_tail b) refl h (λ k. name_bytes bs k)
  where
    by : (t : Bool) → is_tail b ≡ t → (if t then are_tail bs else false) ≡ true → (are_tail bs ≡ true → All (λ b. is_name_byte b ≡ true) bs) → All (λ b. is_name_byte b ≡ true) (b ∷ bs)
    by true e k more = All-cons (λ b. is_name_byte b ≡ true) b bs (sym (tail_byte b) ∙ e) (more k)
    by false e k more = absurd (true≢false (sym k))

pub name_good : (bs : List ℕ) → is_name bs ≡ true → IsName bs
name_good [] h = absurd (true≢false (sym h))
name_good (b ∷ bs) h =
    let p = three_parts (is_letter b) (nat_lt (length bs) 32) (are_tail bs) h in
    let short : length bs < 32 = ltb-true (length bs) 32 p.1 in
    (p.0, name_bytes bs p.2, omega (arith, short))
  where
    three_parts : (p q r : Bool) → (p && q && r) ≡ true → (p ≡ true) × (q ≡ true) × (r ≡ true)
    three_parts true true true e = (refl, refl, refl)
    three_parts true true false e = absurd (true≢false (sym e))
    three_parts true false r e = absurd (true≢false (sym e))
    three_parts false q r e = absurd (true≢false (sym e))

-- a name that is no word of a type
untyped_by : (p q r s t : Bool) (a b c d e : Kind) → is_some (if p then Some a else (if q then Some b else (if r then Some c else (if s then Some d else (if t then Some e else None))))) ≡ false
    → (p || (q || (r || (s || t)))) ≡ false
untyped_by true q r s t a b c d e h = h
untyped_by false true r s t a b c d e h = h
untyped_by false false true s t a b c d e h = h
untyped_by false false false true t a b c d e h = h
untyped_by false false false false true a b c d e h = h
untyped_by false false false false false a b c d e h = refl

pub untyped : (n : List ℕ) → is_some (type_word_of n) ≡ false → is_type_word n ≡ false
untyped n h =
    (untyped_by (bytes_eq n (codes "int")) (bytes_eq n (codes "bool")) (bytes_eq n (codes "text")) (bytes_eq n (codes "bytes")) (bytes_eq n (codes "guid")) _ _ _ _ _ h)

-- an IID that is none of Microsoft's
unlike_documented : (n : ℕ) (g : Guid) → guid_eq (microsoft n) g ≡ false → same_guid g (documented_iid n) ≡ false
unlike_documented n g h = guid_flip g (documented_iid n) ∙ h

pub unreserved : (g : Guid) → guid_eq (microsoft 1) g ≡ false → guid_eq (microsoft 0x16) g ≡ false → guid_eq (microsoft 0x146) g ≡ false → is_reserved g ≡ false
unreserved g a b c =
    or_from (same_guid g (documented_iid 1)) (same_guid g (documented_iid 0x16) || same_guid g (documented_iid 0x146)) (unlike_documented 1 g a)
    (or_from (same_guid g (documented_iid 0x16)) (same_guid g (documented_iid 0x146)) (unlike_documented 0x16 g b) (unlike_documented 0x146 g c))
