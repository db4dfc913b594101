-- Bytes that pass in several pieces, one call after another.
use Rattle.std.proofs.Common.{◌≡◌, ℕ, ◌<◌, ◌≤◌, ◌+◌, List, [], ◌++◌, length, take, drop, Option, Some, None, option_map, Err, refl, ap, ◌∙◌, sym, append_assoc, append-nil, arith, subst, length-append, length-take}
use Rattle.std.proofs.lemmas.List.{take-append-drop}
use Rattle.com_io.specs.declared.whole.ReadAllError.{ReadAllError}
use Rattle.com_io.specs.declared.whole.ReadAllError.TheVariants.{ReadFault, TooLong, Memory}
use Rattle.com_io.specs.Told.{Loses, Gains, IsAtEnd, LosesAtMost, LosesMore, GainsPrefix, IsWholeOf}

prepend_twice : (a b : List ℕ) (known : Option (List ℕ))
    → option_map (λ rest. a ++ rest) (option_map (λ rest. b ++ rest) known) ≡ option_map (λ rest. (a ++ b) ++ rest) known
prepend_twice a b None = refl
prepend_twice a b (Some xs) = ap Some (sym (append_assoc a b xs))

append_twice : (a b : List ℕ) (known : Option (List ℕ))
    → option_map (λ front. front ++ b) (option_map (λ front. front ++ a) known) ≡ option_map (λ front. front ++ (a ++ b)) known
append_twice a b None = refl
append_twice a b (Some xs) = ap Some (append_assoc xs a b)

-- what is lost in two calls
pub loses_both : (start old new : Option (List ℕ)) (a b : List ℕ) → Loses start old a → Loses old new b → Loses start new (a ++ b)
loses_both start old new a b h k = h ∙ ap (λ known. option_map (λ rest. a ++ rest) known) k ∙ prepend_twice a b new

-- what is gained in two calls
pub gains_both : (old mid new : Option (List ℕ)) (a b : List ℕ) → Gains old mid a → Gains mid new b → Gains old new (a ++ b)
gains_both old mid new a b h k = k ∙ ap (λ known. option_map (λ front. front ++ b) known) h ∙ append_twice a b old

pub loses_nothing : (known : Option (List ℕ)) → Loses known known []
loses_nothing None = refl
loses_nothing (Some xs) = refl

pub gains_nothing : (known : Option (List ℕ)) → Gains known known []
gains_nothing None = refl
gains_nothing (Some xs) = ap Some (sym (append-nil xs))

-- one more read, of at most as many bytes as the buffer has
pub loses_at_most : (start old new : Option (List ℕ)) (had buffer : List ℕ) (n most : ℕ)
    → Loses start old had → Loses old new (take n buffer) → length had + length buffer ≤ most → LosesAtMost start new most
loses_at_most start old new had buffer n most h k room = record {
  bytes = had ++ take n buffer;
  few = omega (arith, length-append had (take n buffer), length-take n buffer);
  lost = loses_both start old new had (take n buffer) h k;
}

-- the bytes held gained what is before the back of the text
pub record GainsBefore (old new : Option (List ℕ)) (text back : List ℕ) : Type 0 where
  pub front : List ℕ
  pub parts : text ≡ front ++ back
  pub gained : Gains old new front

pub before_all : (known : Option (List ℕ)) (text : List ℕ) → GainsBefore known known text text
before_all known text = record { front = []; parts = refl; gained = gains_nothing known }

pub before_more : (old mid new : Option (List ℕ)) (text rest : List ℕ) (n : ℕ)
    → GainsBefore old mid text rest → Gains mid new (take n rest) → GainsBefore old new text (drop n rest)
before_more old mid new text rest n h k = record {
  front = h.front ++ take n rest;
  parts = h.parts ∙ ap (λ part. h.front ++ part) (sym (take-append-drop n rest)) ∙ sym (append_assoc h.front (take n rest) (drop n rest));
  gained = gains_both old mid new h.front (take n rest) h.gained k;
}

pub before_nothing : (old new : Option (List ℕ)) (text : List ℕ) → GainsBefore old new text [] → Gains old new text
before_nothing old new text h =
    subst (λ (front : List ℕ). Gains old new front) (sym (h.parts ∙ append-nil h.front)) h.gained

pub before_is_prefix : (old new : Option (List ℕ)) (text rest : List ℕ) → GainsBefore old new text rest → GainsPrefix old new text
before_is_prefix old new text rest h = record { front = h.front; back = rest; parts = h.parts; gained = h.gained }

-- a text written in two calls: the second wrote a prefix of its part, or the first stopped the whole
pub gains_then_prefix : (old mid new : Option (List ℕ)) (a b : List ℕ) → Gains old mid a → GainsPrefix mid new b → GainsPrefix old new (a ++ b)
gains_then_prefix old mid new a b h k = record {
  front = a ++ k.front;
  back = k.back;
  parts = ap (λ part. a ++ part) k.parts ∙ sym (append_assoc a k.front k.back);
  gained = gains_both old mid new a k.front h k.gained;
}

pub prefix_of_more : (old new : Option (List ℕ)) (a b : List ℕ) → GainsPrefix old new a → GainsPrefix old new (a ++ b)
prefix_of_more old new a b h = record {
  front = h.front;
  back = h.back ++ b;
  parts = ap (λ part. part ++ b) h.parts ∙ append_assoc h.front h.back b;
  gained = h.gained;
}

pub prefix_of_all : (old new : Option (List ℕ)) (a : List ℕ) → Gains old new a → GainsPrefix old new a
prefix_of_all old new a h = record { front = a; back = []; parts = sym (append-nil a); gained = h }

pub prefix_of_none : (known : Option (List ℕ)) (a : List ℕ) → GainsPrefix known known a
prefix_of_none known a = record { front = []; back = a; parts = refl; gained = gains_nothing known }

-- the whole of an input that was told
pub whole_of : (old new : Option (List ℕ)) (input bytes : List ℕ) → old ≡ Some input → Loses old new bytes → IsAtEnd new → bytes ≡ input
whole_of old None input bytes e h k = cc
whole_of old (Some xs) input bytes e h k =
    let none : xs ≡ [] = cc in
    let both : bytes ++ xs ≡ input = cc in
    sym (append-nil bytes) ∙ ap (λ rest. bytes ++ rest) (sym none) ∙ both

-- more than the limit came of an input that was told
pub more_of : (old new : Option (List ℕ)) (input : List ℕ) (limit : ℕ) → old ≡ Some input → LosesMore old new limit → limit < length input
more_of old None input limit e h = let h2 = h.lost in absurd (cc)
more_of old (Some xs) input limit e h =
    let lost = h.lost in
    let both : h.bytes ++ xs ≡ input = cc in
    omega (arith, h.many, ap length both, length-append h.bytes xs)

-- an error, where the input was told
pub told_error : (error : ReadAllError) (old new : Option (List ℕ)) (limit : ℕ) → (error ≡ TooLong → LosesMore old new limit)
    → (input : List ℕ) → old ≡ Some input → IsWholeOf limit input (Err error)
told_error ReadFault old new limit more input told = tt
told_error TooLong old new limit more input told = more_of old new input limit told (more refl)
told_error Memory old new limit more input told = tt
