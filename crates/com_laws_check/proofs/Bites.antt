-- Of a worked case: its text and report are whole; its text alone is not, nor with a line more, and neither is nothing.
use Rattle.std.proofs.Common.{ap, sym, subst, ◌∙◌, inl, inr, append_assoc}
use Rattle.std.specs.Prelude.{◌≡◌, refl, ℕ, true, false, List, [], ◌∷◌, ◌++◌, is_some, codes}
use Rattle.com_model.specs.declared.scenario.Scenario.{Scenario}
use Rattle.com_model.specs.Cases.{direct_call, direct_call_10, direct_call_text, direct_call_report}
use Rattle.com_model.specs.Ends.{report, text}
use Rattle.com_model.proofs.Cases.{whole-direct_call, text-direct_call, report-direct_call}
use Rattle.com_check.specs.Judging.{IsUpToEnd}
use Rattle.com_laws_check.specs.Exact.{IsWhole}
use Rattle.com_laws_check.proofs.Cutting.{Ends, is_last, not-empty, same-end, same-front, whole-ends}

whole-by : (trace : List ℕ) → IsUpToEnd trace (text direct_call direct_call_10 ++ report direct_call direct_call_10) → IsWhole direct_call trace
whole-by trace p = record {
  history = direct_call_10;
  lawful = whole-direct_call.0;
  ends = ap is_some whole-direct_call.1;
  is = p;
}

pub worked-whole : IsWhole direct_call (direct_call_text ++ direct_call_report)
worked-whole =
    whole-by (direct_call_text ++ direct_call_report)
    (inl (ap (λ (t : List ℕ). t ++ direct_call_report) (sym text-direct_call) ∙ ap (λ (r : List ℕ). text direct_call direct_call_10 ++ r) (sym report-direct_call)))

-- ---- the last letter

wrong : false ≡ true → ⊥
wrong e = cc

other-letter : (a b : ℕ) → is_last a ≡ false → is_last b ≡ true → a ≡ b → ⊥
other-letter a b p q e = wrong (sym p ∙ ap is_last e ∙ q)

parted : (front : List ℕ) (b : ℕ) → (front ++ b ∷ []) ++ 10 ∷ [] ≡ front ++ b ∷ 10 ∷ []
parted front b = append_assoc front (b ∷ []) (10 ∷ [])

other-end : (front : List ℕ) (b : ℕ) (w : List ℕ) → is_last b ≡ false → Ends w → IsUpToEnd (front ++ b ∷ 10 ∷ []) w → ⊥
other-end front b w p e (inl q) =
    let before : front ++ b ∷ [] ≡ e.front ++ e.last ∷ [] = same-front (front ++ b ∷ []) (e.front ++ e.last ∷ []) 10 10 (parted front b ∙ q ∙ e.is ∙ sym (parted e.front e.last)) in
    other-letter b e.last p e.letter (same-end front e.front b e.last before)
other-end front b w p e (inr q) =
    let before : front ++ b ∷ 10 ∷ [] ≡ e.front ++ e.last ∷ [] = same-front (front ++ b ∷ 10 ∷ []) (e.front ++ e.last ∷ []) 10 10 (q ∙ e.is ∙ sym (parted e.front e.last)) in
    other-letter 10 e.last refl e.letter (same-end (front ++ b ∷ []) e.front 10 e.last (parted front b ∙ before))

not-whole : (s : Scenario) (front : List ℕ) (b : ℕ) → is_last b ≡ false → IsWhole s (front ++ b ∷ 10 ∷ []) → ⊥
not-whole s front b p w = other-end front b (text s w.history ++ report s w.history) p (whole-ends s w.history w.ends) w.is

nothing-ends : (w : List ℕ) → Ends w → IsUpToEnd [] w → ⊥
nothing-ends w e (inl q) = not-empty (e.front ++ e.last ∷ []) 10 (q ∙ e.is ∙ sym (parted e.front e.last))
nothing-ends w e (inr q) = not-empty e.front e.last (same-front [] (e.front ++ e.last ∷ []) 10 10 (q ∙ e.is ∙ sym (parted e.front e.last)))

-- ---- what is not whole

abbrev without-end : List ℕ
without-end =
    codes "1 L1 init sta a3 S_OK\n"
    ++ codes "2 L1 made o1 a3 C1 I1 S_OK\n"
    ++ codes "3 L1 out c1 o1 I1.0 direct cause1 -\n"
    ++ codes "4 L1 enter c1 o1 a3 - (5)\n"
    ++ codes "5 L1 leave c1 S_OK (5) -\n"
    ++ codes "6 L1 back c1 S_OK (5)\n"
    ++ codes "7 L1 release o1 I1\n"
    ++ codes "8 L1 final o1\n"
    ++ codes "9 L1 uninit a3 0\n"
    ++ codes "10 L1 en"

text-is : direct_call_text ≡ without-end ++ 100 ∷ 10 ∷ []
text-is = refl

pub text-alone : IsWhole direct_call direct_call_text → ⊥
text-alone w = not-whole direct_call without-end 100 refl (subst (λ (t : List ℕ). IsWhole direct_call t) text-is w)

abbrev report-before : List ℕ
report-before =
    codes "o1 C1 a3 released direct 0 proxies 0 packets 0 tables 0 stub 0\n"
    ++ codes "entries 10 clock 0\n"
    ++ codes "end ok"

report-is : direct_call_report ++ codes "\n" ≡ report-before ++ 10 ∷ 10 ∷ []
report-is = refl

pub line-more : IsWhole direct_call (direct_call_text ++ (direct_call_report ++ codes "\n")) → ⊥
line-more w =
    not-whole direct_call (direct_call_text ++ report-before) 10 refl
    (subst (λ (t : List ℕ). IsWhole direct_call t)
    (ap (λ (r : List ℕ). direct_call_text ++ r) report-is ∙ sym (append_assoc direct_call_text report-before (10 ∷ 10 ∷ []))) w)

pub nothing : IsWhole direct_call [] → ⊥
nothing w = nothing-ends (text direct_call w.history ++ report direct_call w.history) (whole-ends direct_call w.history w.ends) w.is
