-- Frames are the same where their places, registers and slots are, and jobs where their parts are.
use Rattle.std.proofs.Common.{refl, sym, ap, subst, ◌∙◌}
use Rattle.std.proofs.lemmas.List.{ext_get_or}
use Rattle.std.specs.Prelude.{◌≡◌, ℕ, zero, suc, ◌<◌, List, [], Option, None, length, replicate, slice_index_or}
use Rattle.com_base.specs.declared.limits.TheConstants.{REGISTER_COUNT, SLOT_COUNT}
use Rattle.com_base.specs.declared.value.RefValue.{RefValue}
use Rattle.com_base.specs.declared.value.Value.{Value}
use Rattle.com_body.specs.Frames.{FrameView, entered, no_number}
use Rattle.com_body.specs.Operands.{register_of, slot_of}

same-parts : (f g : FrameView) → f.place ≡ g.place → f.registers ≡ g.registers → f.slots ≡ g.slots → f ≡ g
same-parts f g p r s =
    ap (λ (n : ℕ). record f { place = n }) p
    ∙ ap (λ (vs : List Value). record f { place = g.place; registers = vs }) r
    ∙ ap (λ (ks : List (Option RefValue)). record g { slots = ks }) s

pub same_frames : (f g : FrameView) → length f.registers ≡ REGISTER_COUNT → length f.slots ≡ SLOT_COUNT → length g.registers ≡ REGISTER_COUNT → length g.slots ≡ SLOT_COUNT
    → f.place ≡ g.place → ((k : ℕ) → k < SLOT_COUNT → slot_of f k ≡ slot_of g k) → ((r : ℕ) → r < REGISTER_COUNT → register_of f r ≡ register_of g r) → f ≡ g
same_frames f g fr fs gr gs p s r =
    same-parts f g p
    (ext_get_or no_number f.registers g.registers (fr ∙ sym gr) (λ i h. r i (subst (λ (n : ℕ). i < n) fr h)))
    (ext_get_or None f.slots g.slots (fs ∙ sym gs) (λ i h. s i (subst (λ (n : ℕ). i < n) fs h)))

-- ---- the frame of a body that was entered without values

rep-read : {X : Type 0} (n i : ℕ) (x : X) → slice_index_or (replicate n x) i x ≡ x
rep-read zero i x = refl
rep-read (suc n) zero x = refl
rep-read (suc n) (suc i) x = rep-read n i x

pub first_frame : (f : FrameView) → length f.registers ≡ REGISTER_COUNT → length f.slots ≡ SLOT_COUNT → f.place ≡ 0 → ((k : ℕ) → k < SLOT_COUNT → slot_of f k ≡ None)
    → ((r : ℕ) → r < REGISTER_COUNT → register_of f r ≡ no_number) → f ≡ entered []
first_frame f fr fs p s r =
    same_frames f (entered []) fr fs refl refl p (λ k h. s k h ∙ sym (rep-read SLOT_COUNT k None)) (λ i h. r i h ∙ sym (rep-read REGISTER_COUNT i no_number))
