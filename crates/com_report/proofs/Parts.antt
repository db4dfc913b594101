-- Texts in parts.
use Rattle.std.proofs.Common.{◌≡◌, ℕ, List, [], ◌∷◌, ◌++◌, ◌+◌, ap, sym, ◌∙◌, append_assoc, arith, drop, set, ◌<◌, ◌≤◌, length}
use Rattle.std.proofs.lemmas.Fmt.{decimal_digit, length-decimal-le}
use Rattle.std.proofs.lemmas.List.{drop-set, flat_map_more}
use Rattle.std.specs.Prelude.{codes, decimal}
use Rattle.std.specs.List.{flat_map}
use Rattle.com_base.specs.declared.value.Value.{Value}
use Rattle.com_model.specs.declared.counts.Counts.{Counts}
use Rattle.com_model.specs.Text.{later_value_text, object_line, object_lines, object_state_text}
use Rattle.com_report.specs.Width.{own_width, values_width}

-- a number of 64 bits has at most 20 digits
pub digits_of_64 : (n : ℕ) → n < 18446744073709551616 → length (decimal n) ≤ 20
digits_of_64 n small = length-decimal-le 20 n (omega arith) (omega arith) small

-- a digit that was written in front of the end
pub digit_in_front : (room : List ℕ) (n at end : ℕ) → n < 10 → at + 1 ≡ end → end ≤ length room → drop at (set room at (48 + n)) ≡ decimal n ++ drop end room
digit_in_front room n at end small next within =
    drop-set room at (48 + n) (omega (arith, next, within))
    ∙ ap (λ i. (48 + n) ∷ drop i room) next
    ∙ ap (λ ds. ds ++ drop end room) (sym (decimal_digit n small))

-- values without the last, and then the last behind a comma
pub values_from_end : (rest others : List Value) (v : Value) (before behind : List ℕ) → rest ≡ others ++ v ∷ [] → before ≡ later_value_text v ++ behind
    → flat_map later_value_text others ++ before ≡ flat_map later_value_text rest ++ behind
values_from_end rest others v before behind last e =
    ap (λ t. flat_map later_value_text others ++ t) e
    ∙ sym (append_assoc (flat_map later_value_text others) (later_value_text v) behind)
    ∙ ap (λ t. t ++ behind) (flat_map_more later_value_text [] others v)
    ∙ ap (λ r. flat_map later_value_text r ++ behind) (sym last)

widths_of_last : (others : List Value) (v : Value) → values_width (others ++ v ∷ []) ≡ values_width others + (own_width v + 48)
widths_of_last [] v = omega arith
widths_of_last (x ∷ others) v = omega (arith, widths_of_last others v)

-- their room
pub widths_from_end : (rest others : List Value) (v : Value) → rest ≡ others ++ v ∷ [] → values_width rest ≡ values_width others + (own_width v + 48)
widths_from_end rest others v last = ap values_width last ∙ widths_of_last others v

-- the lines of the first object, and then those of the rest
pub objects_in_two : (text longer : List ℕ) (number : ℕ) (c : Counts) (rest : List Counts) → longer ≡ text ++ object_line number c
    → longer ++ object_lines (number + 1) rest ≡ text ++ object_lines number (c ∷ rest)
objects_in_two text longer number c rest h =
    ap (λ t. t ++ object_lines (number + 1) rest) h ∙ append_assoc text (object_line number c) (object_lines (number + 1) rest)

-- an object's line, piece by piece behind a text
pub object_line_behind : (text : List ℕ) (number : ℕ) (c : Counts)
    → text ++ codes "o" ++ decimal number ++ codes " C" ++ decimal c.class ++ codes " a" ++ decimal c.owner
    ++ codes " " ++ object_state_text c.state ++ codes " direct " ++ decimal c.direct
    ++ codes " proxies " ++ decimal c.proxies ++ codes " packets " ++ decimal c.packets
    ++ codes " tables " ++ decimal c.tables ++ codes " stub " ++ decimal c.stub ++ codes "\n"
    ≡ text ++ object_line number c
object_line_behind text number c = simp append_assoc
