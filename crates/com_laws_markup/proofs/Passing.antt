-- What the reader makes of digits and of escaped texts.
use Rattle.std.proofs.Common.{◌≡◌, ℕ, ◌≤◌, ◌==◌, ◌&&◌, Bool, true, false, List, [], ◌∷◌, ◌++◌, refl, ap, ◌∙◌, arith, if◌then◌else◌}
use Rattle.std.proofs.lemmas.List.{reverse-reverse}
use Rattle.std.specs.Prelude.{codes, decimal, nat_le, reverse}
use Rattle.com_draw_words.specs.Escapes.{escaped, escaped_byte}
use Rattle.com_laws_markup.specs.Markup.{Reader, Content, Value, Raw, is_entry, is_link, step, read}
use Rattle.com_laws_markup.proofs.Digits.{Digits, none, more, decimal_digits}

-- the reader goes over one text and then over another
read_both : (s : Bool) (m : Reader) (a b : List ℕ) → read s m (a ++ b) ≡ read s (read s m a) b
read_both s m [] b = refl
read_both s m (x ∷ a) b = read_both s (step s m x) a b

pub go : (s : Bool) (m k l : Reader) (a b : List ℕ) → read s m a ≡ k → read s k b ≡ l → read s m (a ++ b) ≡ l
go s m k l a b h g = read_both s m a b ∙ ap (λ x. read s x b) h ∙ g

-- ---- digits

digit_in_content : (s : Bool) (n : List ℕ) (o e : List (List ℕ)) (x : ℕ) → 48 ≤ x → x ≤ 57
    → step s (Content (n ∷ o) e) x ≡ Content (n ∷ o) e
digit_in_content s n o e x low high = grind arith

digit_in_raw : (s : Bool) (o e : List (List ℕ)) (x : ℕ) → 48 ≤ x → x ≤ 57 → step s (Raw o e) x ≡ Raw o e
digit_in_raw s o e x low high = grind arith

digit_in_value : (s : Bool) (o e : List (List ℕ)) (n : List ℕ) (g : List (List ℕ)) (a v : List ℕ) (x : ℕ)
    → is_entry a ≡ false → is_link a ≡ false → 48 ≤ x → x ≤ 57 → step s (Value o e n g a v) x ≡ Value o e n g a v
digit_in_value s o e n g a v x entry link low high = grind arith

digit_of_entry : (s : Bool) (o e : List (List ℕ)) (n : List ℕ) (g : List (List ℕ)) (v : List ℕ) (x : ℕ)
    → 48 ≤ x → x ≤ 57 → step s (Value o e n g (codes "data-entry") v) x ≡ Value o e n g (codes "data-entry") (x ∷ v)
digit_of_entry s o e n g v x low high = grind arith

digit_of_link : (s : Bool) (o e : List (List ℕ)) (n : List ℕ) (g : List (List ℕ)) (y : ℕ) (v : List ℕ) (x : ℕ)
    → 48 ≤ x → x ≤ 57 → step s (Value o e n g (codes "href") (y ∷ v)) x ≡ Value o e n g (codes "href") (x ∷ y ∷ v)
digit_of_link s o e n g y v x low high = grind arith

digits_in_content : (s : Bool) (n : List ℕ) (o e : List (List ℕ)) {ds : List ℕ} → Digits ds
    → read s (Content (n ∷ o) e) ds ≡ Content (n ∷ o) e
digits_in_content s n o e none = refl
digits_in_content s n o e (more {x = x} {t = r} d h) =
    ap (λ m. read s m r) (digit_in_content s n o e x d.low d.high) ∙ digits_in_content s n o e h

digits_in_raw : (s : Bool) (o e : List (List ℕ)) {ds : List ℕ} → Digits ds → read s (Raw o e) ds ≡ Raw o e
digits_in_raw s o e none = refl
digits_in_raw s o e (more {x = x} {t = r} d h) =
    ap (λ m. read s m r) (digit_in_raw s o e x d.low d.high) ∙ digits_in_raw s o e h

digits_in_value : (s : Bool) (o e : List (List ℕ)) (n : List ℕ) (g : List (List ℕ)) (a v : List ℕ) → is_entry a ≡ false
    → is_link a ≡ false → {ds : List ℕ} → Digits ds → read s (Value o e n g a v) ds ≡ Value o e n g a v
digits_in_value s o e n g a v entry link none = refl
digits_in_value s o e n g a v entry link (more {x = x} {t = r} d h) =
    ap (λ m. read s m r) (digit_in_value s o e n g a v x entry link d.low d.high)
    ∙ digits_in_value s o e n g a v entry link h

-- the bytes of one text before those of another, the newest first
pub onto : List ℕ → List ℕ → List ℕ
onto [] v = v
onto (x ∷ t) v = onto t (x ∷ v)

digits_of_entry : (s : Bool) (o e : List (List ℕ)) (n : List ℕ) (g : List (List ℕ)) (v : List ℕ) {ds : List ℕ} → Digits ds
    → read s (Value o e n g (codes "data-entry") v) ds ≡ Value o e n g (codes "data-entry") (onto ds v)
unfolding onto
digits_of_entry s o e n g v none = refl
digits_of_entry s o e n g v (more {x = x} {t = r} d h) =
    ap (λ m. read s m r) (digit_of_entry s o e n g v x d.low d.high) ∙ digits_of_entry s o e n g (x ∷ v) h

digits_of_link : (s : Bool) (o e : List (List ℕ)) (n : List ℕ) (g : List (List ℕ)) (y : ℕ) (v : List ℕ) {ds : List ℕ}
    → Digits ds → read s (Value o e n g (codes "href") (y ∷ v)) ds ≡ Value o e n g (codes "href") (onto ds (y ∷ v))
unfolding onto
digits_of_link s o e n g y v none = refl
digits_of_link s o e n g y v (more {x = x} {t = r} d h) =
    ap (λ m. read s m r) (digit_of_link s o e n g y v x d.low d.high) ∙ digits_of_link s o e n g x (y ∷ v) h

-- a number as text, and in the style sheets
pub number_in_content : (s : Bool) (n : List ℕ) (o e : List (List ℕ)) (k : ℕ)
    → read s (Content (n ∷ o) e) (decimal k) ≡ Content (n ∷ o) e
number_in_content s n o e k = digits_in_content s n o e (decimal_digits k)

pub number_in_raw : (s : Bool) (o e : List (List ℕ)) (k : ℕ) → read s (Raw o e) (decimal k) ≡ Raw o e
number_in_raw s o e k = digits_in_raw s o e (decimal_digits k)

-- a number in the value of an attribute that is neither an entry's nor a link's
pub number_in_value : (s : Bool) (o e : List (List ℕ)) (n : List ℕ) (g : List (List ℕ)) (a v : List ℕ) → is_entry a ≡ false
    → is_link a ≡ false → (k : ℕ) → read s (Value o e n g a v) (decimal k) ≡ Value o e n g a v
number_in_value s o e n g a v entry link k = digits_in_value s o e n g a v entry link (decimal_digits k)

-- the number of an entry, and that of a link
pub number_of_entry : (s : Bool) (o e : List (List ℕ)) (n : List ℕ) (g : List (List ℕ)) (k : ℕ)
    → read s (Value o e n g (codes "data-entry") []) (decimal k) ≡ Value o e n g (codes "data-entry") (onto (decimal k) [])
number_of_entry s o e n g k = digits_of_entry s o e n g [] (decimal_digits k)

pub number_of_link : (s : Bool) (o e : List (List ℕ)) (n : List ℕ) (g : List (List ℕ)) (y : ℕ) (v : List ℕ) (k : ℕ)
    → read s (Value o e n g (codes "href") (y ∷ v)) (decimal k) ≡ Value o e n g (codes "href") (onto (decimal k) (y ∷ v))
number_of_link s o e n g y v k = digits_of_link s o e n g y v (decimal_digits k)

-- what was read of a number is the number
pub read_number : (ds : List ℕ) → reverse (onto ds []) ≡ ds
unfolding onto
read_number ds = reverse-reverse ds

-- ---- escaped texts

then_or_else : (Q : List ℕ → Type 0) (c : Bool) (a b : List ℕ) → (c ≡ true → Q a) → (c ≡ false → Q b) → Q (if c then a else b)
then_or_else Q true a b p q = p refl
then_or_else Q false a b p q = q refl

-- what holds of the escapes, of the question mark, and of a byte that stands for itself, holds of each escaped byte
of_escaped : (Q : List ℕ → Type 0) (x : ℕ) → Q (codes "&amp;") → Q (codes "&lt;") → Q (codes "&gt;") → Q (codes "&quot;")
    → Q (codes "&#9;") → Q (codes "?")
    → ((x == 38) ≡ false → (x == 60) ≡ false → (x == 62) ≡ false → (x == 34) ≡ false → (nat_le 32 x && nat_le x 126) ≡ true
    → Q (x ∷ []))
    → Q (escaped_byte x)
of_escaped Q x amp lt gt quot tab other plain =
    then_or_else Q (x == 38) _ _ (λ h. amp)
    (λ h1. then_or_else Q (x == 60) _ _ (λ h. lt)
    (λ h2. then_or_else Q (x == 62) _ _ (λ h. gt)
    (λ h3. then_or_else Q (x == 34) _ _ (λ h. quot)
    (λ h4. then_or_else Q (x == 9) _ _ (λ h. tab)
    (λ h5. then_or_else Q (nat_le 32 x && nat_le x 126) _ _ (λ h. plain h1 h2 h3 h4 h) (λ h. other))))))

plain_in_content : (s : Bool) (n : List ℕ) (o e : List (List ℕ)) (x : ℕ) → (x == 38) ≡ false → (x == 60) ≡ false
    → (x == 62) ≡ false → (x == 34) ≡ false → (nat_le 32 x && nat_le x 126) ≡ true
    → step s (Content (n ∷ o) e) x ≡ Content (n ∷ o) e
plain_in_content s n o e x amp lt gt quot printed = grind arith

plain_in_title : (s : Bool) (o e : List (List ℕ)) (n : List ℕ) (g : List (List ℕ)) (v : List ℕ) (x : ℕ) → (x == 38) ≡ false
    → (x == 60) ≡ false → (x == 62) ≡ false → (x == 34) ≡ false → (nat_le 32 x && nat_le x 126) ≡ true
    → step s (Value o e n g (codes "title") v) x ≡ Value o e n g (codes "title") v
plain_in_title s o e n g v x amp lt gt quot printed = grind arith

byte_in_content : (s : Bool) (n : List ℕ) (o e : List (List ℕ)) (x : ℕ)
    → read s (Content (n ∷ o) e) (escaped_byte x) ≡ Content (n ∷ o) e
byte_in_content s n o e x =
    of_escaped (λ w. read s (Content (n ∷ o) e) w ≡ Content (n ∷ o) e) x refl refl refl refl refl refl
    (λ amp lt gt quot printed. plain_in_content s n o e x amp lt gt quot printed)

byte_in_title : (s : Bool) (o e : List (List ℕ)) (n : List ℕ) (g : List (List ℕ)) (v : List ℕ) (x : ℕ)
    → read s (Value o e n g (codes "title") v) (escaped_byte x) ≡ Value o e n g (codes "title") v
byte_in_title s o e n g v x =
    of_escaped (λ w. read s (Value o e n g (codes "title") v) w ≡ Value o e n g (codes "title") v) x
    refl refl refl refl refl refl
    (λ amp lt gt quot printed. plain_in_title s o e n g v x amp lt gt quot printed)

-- an escaped text is text, and in a title too
pub escaped_in_content : (s : Bool) (n : List ℕ) (o e : List (List ℕ)) (w : List ℕ)
    → read s (Content (n ∷ o) e) (escaped w) ≡ Content (n ∷ o) e
escaped_in_content s n o e [] = refl
escaped_in_content s n o e (x ∷ w) =
    go s (Content (n ∷ o) e) (Content (n ∷ o) e) (Content (n ∷ o) e) (escaped_byte x) (escaped w)
    (byte_in_content s n o e x) (escaped_in_content s n o e w)

pub escaped_in_title : (s : Bool) (o e : List (List ℕ)) (n : List ℕ) (g : List (List ℕ)) (v w : List ℕ)
    → read s (Value o e n g (codes "title") v) (escaped w) ≡ Value o e n g (codes "title") v
escaped_in_title s o e n g v [] = refl
escaped_in_title s o e n g v (x ∷ w) =
    go s (Value o e n g (codes "title") v) (Value o e n g (codes "title") v) (Value o e n g (codes "title") v) (escaped_byte x)
    (escaped w) (byte_in_title s o e n g v x) (escaped_in_title s o e n g v w)
