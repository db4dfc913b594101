-- Texts that lead a reader from one place to another.
use Rattle.std.proofs.Common.{◌≡◌, ℕ, zero, suc, ◌<◌, Bool, true, false, not, ◌&&◌, ◌==◌, List, [], ◌∷◌, ◌++◌, length, refl, ap, sym, ◌∙◌, arith, if◌then◌else◌}
use Rattle.std.specs.Prelude.{codes, decimal, nat_le, slice_index}
use Rattle.com_draw_words.specs.Escapes.{are_plain, is_plain, word_and_number}
use Rattle.com_laws_markup.specs.Closed.{IsClosed, IsStyle}
use Rattle.com_laws_markup.specs.Markup.{Reader, Content, Raw, Value, read, step}
use Rattle.com_laws_markup.proofs.Passing.{go, number_in_content, number_in_raw, number_in_value}
use Rattle.com_laws_markup.proofs.Words.{closed_both, closed_decimal, closed_if, closed_none}

pub record Leads (s : Bool) (m : Reader) (w : List ℕ) (k : Reader) : Type 0 where
  pub reads : read s m w ≡ k

-- a text leads to where it is read to
pub lead : {s : Bool} {m : Reader} (w : List ℕ) → Leads s m w (read s m w)
lead w = record { reads = refl }

-- one text behind another
pub onward : {s : Bool} {m k l : Reader} {a b : List ℕ} → Leads s m a k → Leads s k b l → Leads s m (a ++ b) l
onward {s = s} {m = m} {k = k} {l = l} {a = a} {b = b} h g = record { reads = go s m k l a b h.reads g.reads }

-- where places and texts are equal
pub along : {s : Bool} {from here to there : Reader} {a b : List ℕ} → from ≡ here → a ≡ b → to ≡ there
    → Leads s here b there → Leads s from a to
along {s = s} {here = here} {a = a} f t l h =
    record { reads = ap (λ m. read s m a) f ∙ ap (λ w. read s here w) t ∙ h.reads ∙ sym l }

-- a closed text, and one of a style sheet
pub inside : {s : Bool} {n : List ℕ} {o e : List (List ℕ)} {w : List ℕ} → IsClosed w
    → Leads s (Content (n ∷ o) e) w (Content (n ∷ o) e)
inside {s = s} {n = n} {o = o} {e = e} c = record { reads = c.stays s n o e }

pub styled : {s : Bool} {o e : List (List ℕ)} {w : List ℕ} → IsStyle w → Leads s (Raw o e) w (Raw o e)
styled {s = s} {o = o} {e = e} c = record { reads = c.stays s o e }

-- a number as text, and in the value of a class
pub in_content : {s : Bool} {n : List ℕ} {o e : List (List ℕ)} (k : ℕ)
    → Leads s (Content (n ∷ o) e) (decimal k) (Content (n ∷ o) e)
in_content {s = s} {n = n} {o = o} {e = e} k = record { reads = number_in_content s n o e k }

pub in_class : {s : Bool} {o e : List (List ℕ)} {n : List ℕ} {g : List (List ℕ)} {v : List ℕ} (k : ℕ)
    → Leads s (Value o e n g (codes "class") v) (decimal k) (Value o e n g (codes "class") v)
in_class {s = s} {o = o} {e = e} {n = n} {g = g} {v = v} k =
    record { reads = number_in_value s o e n g (codes "class") v refl refl k }

-- ---- closed texts

pub closed_as : {w : List ℕ}
    → ((s : Bool) (n : List ℕ) (o e : List (List ℕ)) → Leads s (Content (n ∷ o) e) w (Content (n ∷ o) e)) → IsClosed w
closed_as f = record { stays = λ s n o e. (f s n o e).reads }

pub both : {a b : List ℕ} → IsClosed a → IsClosed b → IsClosed (a ++ b)
both {a = a} {b = b} h g = closed_both a b h g

pub either : (c : Bool) {a b : List ℕ} → IsClosed a → IsClosed b → IsClosed (if c then a else b)
either c {a = a} {b = b} h g = closed_if c a b h g

pub numbered : {w : List ℕ} → IsClosed w → (k : ℕ) → IsClosed (word_and_number w k)
numbered {w = w} h k = closed_both w (decimal k) h (closed_decimal k)

-- ---- texts of which each byte stands for itself

both_true : (a b : Bool) → (a && b) ≡ true → (a ≡ true) × (b ≡ true)
both_true true b h = (refl, h)
both_true false b h = cc

not_true : (b : Bool) → not b ≡ true → b ≡ false
not_true true h = cc
not_true false h = refl

plain_byte : (s : Bool) (n : List ℕ) (o e : List (List ℕ)) (x : ℕ) → (nat_le 32 x && nat_le x 126) ≡ true
    → (x == 38) ≡ false → (x == 60) ≡ false → (x == 62) ≡ false → (x == 34) ≡ false
    → step s (Content (n ∷ o) e) x ≡ Content (n ∷ o) e
plain_byte s n o e x printed amp lt gt quot = grind arith

plain_step : (s : Bool) (n : List ℕ) (o e : List (List ℕ)) (x : ℕ) → is_plain x ≡ true
    → step s (Content (n ∷ o) e) x ≡ Content (n ∷ o) e
plain_step s n o e x h =
    let quot = both_true (nat_le 32 x && nat_le x 126 && not (x == 38) && not (x == 60) && not (x == 62)) (not (x == 34)) h in
    let gt = both_true (nat_le 32 x && nat_le x 126 && not (x == 38) && not (x == 60)) (not (x == 62)) quot.0 in
    let lt = both_true (nat_le 32 x && nat_le x 126 && not (x == 38)) (not (x == 60)) gt.0 in
    let amp = both_true (nat_le 32 x && nat_le x 126) (not (x == 38)) lt.0 in
    plain_byte s n o e x amp.0 (not_true (x == 38) amp.1) (not_true (x == 60) lt.1) (not_true (x == 62) gt.1)
    (not_true (x == 34) quot.1)

pub more : (x : ℕ) {w : List ℕ} → is_plain x ≡ true → IsClosed w → IsClosed (x ∷ w)
more x {w = w} h g = record {
  stays = λ s n o e. ap (λ m. read s m w) (plain_step s n o e x h) ∙ g.stays s n o e;
}

-- a text that is plain
pub said : (w : List ℕ) → are_plain w ≡ true → IsClosed w
said [] h = closed_none
said (x ∷ w) h = let each = both_true (is_plain x) (are_plain w) h in more x each.0 (said w each.1)

-- a plain digit of a table
pub plain_at : (xs : List ℕ) (k : ℕ) → are_plain xs ≡ true → k < length xs → is_plain (slice_index xs k) ≡ true
plain_at [] k h l = absurd (omega (arith, l))
plain_at (x ∷ xs) zero h l = (both_true (is_plain x) (are_plain xs) h).0
plain_at (x ∷ xs) (suc k) h l = plain_at xs k (both_true (is_plain x) (are_plain xs) h).1 (omega (arith, l))

-- ---- style sheets

pub style_as : {w : List ℕ} → ((s : Bool) (o e : List (List ℕ)) → Leads s (Raw o e) w (Raw o e)) → IsStyle w
style_as f = record { stays = λ s o e. (f s o e).reads }

pub style_none : IsStyle []
style_none = record { stays = λ s o e. refl }

pub style_both : {a b : List ℕ} → IsStyle a → IsStyle b → IsStyle (a ++ b)
style_both {a = a} {b = b} h g = record {
  stays = λ s o e. go s (Raw o e) (Raw o e) (Raw o e) a b (h.stays s o e) (g.stays s o e);
}

pub style_numbered : {w : List ℕ} → IsStyle w → (k : ℕ) → IsStyle (word_and_number w k)
style_numbered h k = style_both h (record { stays = λ s o e. number_in_raw s o e k })
