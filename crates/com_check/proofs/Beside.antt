-- The lines of a report beside those of a trace.
use Rattle.std.proofs.Common.{◌≡◌, ℕ, ◌+◌, refl, sym, ◌∙◌, ap, subst, append_assoc, length-append, arith, List, [], ◌∷◌, ◌++◌, length, Some}
use Rattle.std.specs.Prelude.{codes}
use Rattle.com_check.specs.declared.judged.Judged.{Judged}
use Rattle.com_check.specs.declared.judged.Judged.TheVariants as judged
use Rattle.com_check.specs.Lines.{lines_of}
use Rattle.com_check.specs.Turning.{IsReported}

-- In front of what is left of the report and of the trace stand equal lines.
pub record Beside (before : ℕ) (report trace : List (List ℕ)) (line : ℕ) (legal found : List ℕ) : Type 0 where
  pub front : List (List ℕ)
  pub report_is : report ≡ front ++ lines_of legal
  pub trace_is : trace ≡ front ++ lines_of found
  pub place : line ≡ before + length front

pub first_beside : (before : ℕ) (legal found : List ℕ) → Beside before (lines_of legal) (lines_of found) before legal found
first_beside before legal found = record { front = []; report_is = refl; trace_is = refl; place = omega arith }

one_more : (front : List (List ℕ)) (l : List ℕ) (all rest ls : List (List ℕ)) → all ≡ front ++ rest → rest ≡ l ∷ ls → all ≡ (front ++ (l ∷ [])) ++ ls
one_more front l all rest ls is cut = is ∙ ap (λ (x : List (List ℕ)). front ++ x) cut ∙ sym (append_assoc front (l ∷ []) ls)

-- One line more, which is the same in both.
pub more_beside : (before : ℕ) (report trace : List (List ℕ)) (line : ℕ) (legal found l f ls fs : List ℕ) → Beside before report trace line legal found
    → lines_of legal ≡ l ∷ lines_of ls → lines_of found ≡ f ∷ lines_of fs → l ≡ f → Beside before report trace (line + 1) ls fs
more_beside before report trace line legal found l f ls fs b cut_legal cut_found same = record {
  front = b.front ++ (l ∷ []);
  report_is = one_more b.front l report (lines_of legal) (lines_of ls) b.report_is cut_legal;
  trace_is = one_more b.front l trace (lines_of found) (lines_of fs) b.trace_is (cut_found ∙ ap (λ (x : List ℕ). x ∷ lines_of fs) (sym same));
  place = omega (arith, b.place, length-append b.front (l ∷ []));
}

no_lines : (rest : List ℕ) → rest ≡ [] → lines_of rest ≡ []
unfolding lines_of
no_lines rest none = rw none refl

behind : (front all rest ls : List (List ℕ)) → all ≡ front ++ rest → rest ≡ ls → all ≡ front ++ ls
behind front all rest ls is cut = is ∙ ap (λ (x : List (List ℕ)). front ++ x) cut

some_differ : (l f : List ℕ) → (l ≡ f → ⊥) → Some f ≡ Some l → ⊥
some_differ l f differ same = differ (cc)

-- The trace ends in the place of a line.
pub report_ends : (before : ℕ) (report trace : List (List ℕ)) (line : ℕ) (legal found l ls : List ℕ) (j : Judged) → Beside before report trace line legal found
    → lines_of legal ≡ l ∷ lines_of ls → found ≡ [] → j ≡ judged.Differs (line + 1) (codes "none") l → IsReported before report trace j
report_ends before report trace line legal found l ls j b cut none is =
    subst (λ (x : Judged). IsReported before report trace x) (sym is) (record {
      front = b.front;
      back = l ∷ lines_of ls;
      rest = [];
      report_is = behind b.front report (lines_of legal) (l ∷ lines_of ls) b.report_is cut;
      trace_is = behind b.front trace (lines_of found) [] b.trace_is (no_lines found none);
      place = omega (arith, b.place);
      differ = λ same. cc;
      found_is = refl;
      legal_is = refl;
    })

-- A line of the trace is not that of the report.
pub report_differs : (before : ℕ) (report trace : List (List ℕ)) (line : ℕ) (legal found l f ls fs : List ℕ) (j : Judged)
    → Beside before report trace line legal found → lines_of legal ≡ l ∷ lines_of ls → lines_of found ≡ f ∷ lines_of fs → (l ≡ f → ⊥)
    → j ≡ judged.Differs (line + 1) f l → IsReported before report trace j
report_differs before report trace line legal found l f ls fs j b cut_legal cut_found differ is =
    subst (λ (x : Judged). IsReported before report trace x) (sym is) (record {
      front = b.front;
      back = l ∷ lines_of ls;
      rest = f ∷ lines_of fs;
      report_is = behind b.front report (lines_of legal) (l ∷ lines_of ls) b.report_is cut_legal;
      trace_is = behind b.front trace (lines_of found) (f ∷ lines_of fs) b.trace_is cut_found;
      place = omega (arith, b.place);
      differ = λ same. some_differ l f differ same;
      found_is = refl;
      legal_is = refl;
    })

-- A line stands behind the report.
pub report_over : (before : ℕ) (report trace : List (List ℕ)) (line : ℕ) (legal found f fs : List ℕ) (j : Judged) → Beside before report trace line legal found
    → legal ≡ [] → lines_of found ≡ f ∷ lines_of fs → j ≡ judged.Differs (line + 1) f (codes "none") → IsReported before report trace j
report_over before report trace line legal found f fs j b none cut is =
    subst (λ (x : Judged). IsReported before report trace x) (sym is) (record {
      front = b.front;
      back = [];
      rest = f ∷ lines_of fs;
      report_is = behind b.front report (lines_of legal) [] b.report_is (no_lines legal none);
      trace_is = behind b.front trace (lines_of found) (f ∷ lines_of fs) b.trace_is cut;
      place = omega (arith, b.place);
      differ = λ same. cc;
      found_is = refl;
      legal_is = refl;
    })

-- Nothing is left of both.
pub report_agrees : (before : ℕ) (report trace : List (List ℕ)) (line : ℕ) (legal found : List ℕ) → Beside before report trace line legal found
    → legal ≡ [] → found ≡ [] → IsReported before report trace judged.Agrees
report_agrees before report trace line legal found b none_legal none_found =
    b.report_is ∙ ap (λ (x : List (List ℕ)). b.front ++ x) (no_lines legal none_legal ∙ sym (no_lines found none_found)) ∙ sym b.trace_is
