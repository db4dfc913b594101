-- An array of zeros that is filled from its front, field by field.
use Rattle.std.proofs.Common.{◌≡◌, ℕ, ◌+◌, List, [], ◌++◌, length, take, drop, refl, sym, ap, ◌∙◌, append_assoc, arith}
use Rattle.std.specs.Prelude.{replicate}
use Rattle.std.specs.Int.{Width, w32, to_le_bytes}
use Rattle.std.proofs.lemmas.List.{take_at, drop_at, length-append, drop-drop, drop-replicate, length-replicate, replicate-append-replicate}
use Rattle.com_base.specs.declared.guid.Guid.{Guid}
use Rattle.com_base.specs.Guids.{wire_of}
use Rattle.com_wire.specs.Fields.{number, guid}

-- these bytes stand in front, and zeros behind them
pub record Filled (bytes done : List ℕ) (position left : ℕ) : Type 0 where
  pub parts : bytes ≡ done ++ replicate left 0
  pub len : length done ≡ position

pub nothing_filled : (count : ℕ) → Filled (replicate count 0) [] 0 count
nothing_filled count = record { parts = refl; len = refl }

abbrev pub zeros : ℕ → List ℕ
zeros n = replicate n 0

drop_zeros : (count left : ℕ) → drop count (zeros (left + count)) ≡ zeros left
drop_zeros count left = drop-replicate count (left + count) 0 ∙ ap zeros (omega arith)

-- one field more
pub put_next : (old new done field text : List ℕ) (position count left : ℕ) → Filled old done position (left + count)
    → new ≡ take position old ++ (field ++ drop (position + length field) old) → field ≡ text → length field ≡ count → Filled new (done ++ text) (position + count) left
put_next old new done field text position count left filled is text_is field_len =
    let front : take position old ≡ done = ap (take position) filled.parts ∙ take_at done (zeros (left + count)) position filled.len in
    let behind : drop position old ≡ zeros (left + count) = ap (drop position) filled.parts ∙ drop_at done (zeros (left + count)) position filled.len in
    let len : length text ≡ count = sym (ap length text_is) ∙ field_len in
    let rest : drop (position + length field) old ≡ zeros left = rw field_len (sym (drop-drop count position old) ∙ ap (drop count) behind ∙ drop_zeros count left) in
    record {
      parts = is ∙ rw (front, rest, text_is) (sym (append_assoc done text (zeros left)));
      len = omega (arith, length-append done text, filled.len, len);
    }

-- a field of zeros, which stand there already
pub skip_next : (bytes done text : List ℕ) (position count left : ℕ) → Filled bytes done position (left + count) → zeros count ≡ text → Filled bytes (done ++ text) (position + count) left
skip_next bytes done text position count left filled is =
    let split : zeros (left + count) ≡ text ++ zeros left = ap zeros (omega arith) ∙ sym (replicate-append-replicate count left 0) ∙ ap (λ (t : List ℕ). t ++ zeros left) is in
    record {
      parts = filled.parts ∙ ap (λ (t : List ℕ). done ++ t) split ∙ sym (append_assoc done text (zeros left));
      len = omega (arith, length-append done text, filled.len, length-replicate {A = ℕ} count 0, ap length is);
    }

pub number_is : (w : Width) (n : ℕ) → to_le_bytes w n ≡ number w n
unfolding number
number_is w n = refl

pub guid_is : (g : Guid) → wire_of g ≡ guid g
unfolding guid
guid_is g = refl

pub zeros_4 : zeros 4 ≡ number w32 0
unfolding number
zeros_4 = refl
