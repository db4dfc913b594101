-- The law, of the reader of scenarios.
use Rattle.std.proofs.Common.{◌≡◌, true, false, List, ◌++◌, inl, inr, Result, Ok, Err, sym, ap, ◌∙◌, ◌<◌, ℕ, arith}
use Rattle.com_classes.specs.BuiltIns.{built_in_interfaces}
use Rattle.com_text.specs.Scanning.{lines_of}
use Rattle.com_read_operands.specs.declared.faults.Fault.{Fault}
use Rattle.com_read_operands.specs.Reading.{◌>>=◌}
use Rattle.com_read_sections.specs.declared.outline.Outline.{Outline}
use Rattle.com_read_sections.specs.Outlines.{begun, read}
use Rattle.com_scenario.specs.Scenarios.{scenario_of, reading}
use Rattle.com_text.specs.declared.scan.Within.{Within}
use Rattle.com_text.specs.Scanning.{closed_by}
use Rattle.com_laws_faults.specs.Prefixes.{end_of, CutsNoWord, EndsEarly}
use Rattle.com_laws_faults.specs.Places.{IsApart, StandsIn}
use Rattle.com_laws_faults.specs.Laws.{IsDecided, Stays, IsHopeless, IsOne, IsKnown, IsShared, IsBarred}
use Rattle.com_laws_faults.proofs.Texts.{outline_stays}
use Rattle.com_laws_faults.proofs.Back.{outline_known}

outlined : (r : Result Outline Fault) (f : Fault) → (r >>= λ o. Ok (scenario_of o)) ≡ Err f → r ≡ Err f
outlined (Ok o) f e = absurd cc
outlined (Err x) f e = cc

pub stays : Stays reading
unfolding reading
stays text rest f h = ap (λ (r : Result Outline Fault). r >>= λ o. Ok (scenario_of o))
    (outline_stays built_in_interfaces text rest f h.whole (outlined (read (begun built_in_interfaces) (lines_of text)) f h.fault) h.not_early)

pub hopeless : IsHopeless reading
hopeless text rest f s h e = let q = stays text rest f h in let no : Ok s ≡ Err f = sym e ∙ q in absurd cc

pub one : IsOne reading
one first other rest more f g h k e =
    let p = stays first rest f h in
    let q = stays other more g k in
    let same : Err f ≡ Err g = sym p ∙ (ap reading e ∙ q) in
    cc

-- ---- faults of words

pub known : IsKnown reading
unfolding reading
known text rest f apart h e = ap (λ (r : Result Outline Fault). r >>= λ o. Ok (scenario_of o))
    (outline_known built_in_interfaces text rest f apart h (outlined (read (begun built_in_interfaces) (lines_of (text ++ rest))) f e))

not_early : (text : List ℕ) (f : Fault) → StandsIn text f → EndsEarly text f → ⊥
not_early text f h (inl m) =
    let ends : (end_of text).column ≡ 1 = (h.missing m.number).0 in
    let goes_on : 1 < (end_of text).column = m.within_line in
    absurd (omega arith)
not_early text f h (inr (inl e)) = h.no_end (ap (λ (g : Fault). g.number) e)
not_early text f h (inr (inr m)) = let r : true ≡ false = sym m.lacks ∙ h.headed in absurd cc

uncut : (text rest : List ℕ) → IsApart text rest → CutsNoWord text rest
uncut text rest (inl e) = inl (ap (λ (w : Within). closed_by (end_of text) w) e)
uncut text rest (inr h) = inr h

decided : (text one other : List ℕ) (f : Fault) → IsApart text one → IsApart text other → StandsIn text f → reading (text ++ one) ≡ Err f → IsDecided reading text other f
decided text one other f apart beside h e = record {
  whole = uncut text other beside;
  fault = known text one f apart h e;
  not_early = not_early text f h;
}

pub shared : IsShared reading
shared text one other f apart beside h e = stays text other f (decided text one other f apart beside h e)

pub barred : IsBarred reading
barred text one other f s apart beside h e = hopeless text other f s (decided text one other f apart beside h e)
