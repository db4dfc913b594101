-- What is written of lanes one after another; lines without their ends; and how many entries a picture has.
use Rattle.std.proofs.Common.{◌≡◌, ℕ, zero, suc, List, [], ◌∷◌, ◌++◌, ◌+◌, ◌-◌, ◌*◌, ◌<◌, ◌≤◌, length, take, reverse}
use Rattle.std.proofs.Common.{refl, ap, sym, ◌∙◌, append_assoc, append-nil, arith, add-one, length-append}
use Rattle.com_model.specs.declared.deeds.Entry.{Entry}
use Rattle.com_model.specs.declared.scenario.Scenario.{Scenario}
use Rattle.com_draw_words.specs.declared.limits.TheConstants.{FULL}
use Rattle.com_draw_words.specs.declared.sections.LaneKind.{LaneKind}
use Rattle.com_draw_words.specs.Sections.{lane_name_text}
use Rattle.com_draw_words.specs.Widths.{lane_widths_text}
use Rattle.com_draw.specs.Entries.{after, drawn}
use Rattle.com_draw.specs.Fronts.{first_widths, names_of}
use Rattle.com_draw.specs.Pictures.{Picture}

-- the width of one lane more
pub next_width : (text longer : List ℕ) (l left : ℕ) → longer ≡ text ++ lane_widths_text l ((l - 1) * FULL) FULL → 0 < left
    → longer ++ first_widths (l + 1) (left - 1) ≡ text ++ first_widths l left
next_width text longer l zero e h = absurd (omega arith)
next_width text longer l (suc n) e h =
    let one : suc n - 1 ≡ n = omega arith in
    rw (e, one) (append_assoc text (lane_widths_text l ((l - 1) * FULL) FULL) (first_widths (l + 1) n))

pub no_width : (text : List ℕ) (l left : ℕ) → left ≤ 0 → text ++ first_widths l left ≡ text
no_width text l zero h = append-nil text
no_width text l (suc n) h = absurd (omega arith)

-- the name of one lane more
pub next_name : (text longer : List ℕ) (k : LaneKind) (l left : ℕ) → longer ≡ text ++ lane_name_text l k → 0 < left
    → longer ++ names_of k (l + 1) (left - 1) ≡ text ++ names_of k l left
next_name text longer k l zero e h = absurd (omega arith)
next_name text longer k l (suc n) e h =
    let one : suc n - 1 ≡ n = omega arith in
    rw (e, one) (append_assoc text (lane_name_text l k) (names_of k (l + 1) n))

pub no_name : (text : List ℕ) (k : LaneKind) (l left : ℕ) → left ≤ 0 → text ++ names_of k l left ≡ text
no_name text k l zero h = append-nil text
no_name text k l (suc n) h = absurd (omega arith)

-- a line has an end, and stands before it
pub line_is_long : (words line : List ℕ) (end : ℕ) → line ≡ words ++ (end ∷ []) → 1 ≤ length line
line_is_long words line end e = rw e (simp length-append (omega arith))

take_front : (words more : List ℕ) → take (length words) (words ++ more) ≡ words
take_front [] more = refl
take_front (w ∷ words) more = ap (λ rest. w ∷ rest) (take_front words more)

pub without_end : (words line : List ℕ) (end : ℕ) → line ≡ words ++ (end ∷ []) → take (length line - 1) line ≡ words
without_end words line end e =
    let count : length (words ++ (end ∷ [])) - 1 ≡ length words = omega (arith, length-append words (end ∷ [])) in
    rw (e, count) (take_front words (end ∷ []))

-- an entry more is counted
pub one_more : (s : Scenario) (p : Picture) (e : Entry) → (after s p e).entries ≡ p.entries + 1
unfolding after
one_more s p e = refl

-- a picture counts the entries of its history
pub drawn_entries : (s : Scenario) (h : List Entry) → (drawn s h).entries ≡ length h
drawn_entries s [] = refl
drawn_entries s (e ∷ h) = one_more s (drawn s h) e ∙ ap (λ n. n + 1) (drawn_entries s h) ∙ add-one (length h)
