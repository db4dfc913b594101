-- Lines with their ends, one behind the other, are the text again.
use Rattle.std.proofs.Common.{◌≡◌, ℕ, ◌+◌, inl, inr, refl, sym, ◌∙◌, ap, subst, append_assoc, eqb-true, List, [], ◌∷◌, ◌++◌, length, true, false, Option, Some, None}
use Rattle.std.specs.Prelude.{codes, decimal, if◌then◌else◌, is_some, ◌==◌}
use Rattle.com_model.specs.declared.counts.Counts.{Counts}
use Rattle.com_model.specs.declared.counts.Ended.{Ended}
use Rattle.com_model.specs.declared.deeds.Entry.{Entry}
use Rattle.com_model.specs.declared.scenario.Scenario.{Scenario}
use Rattle.com_model.specs.Ends.{ended_as, report, report_as, text}
use Rattle.com_model.specs.Text.{ended_text, history_text, line_text, object_lines, report_text}
use Rattle.com_check.specs.Judging.{IsText, IsUpToEnd, entry_line, history_lines, report_lines}
use Rattle.com_check.specs.Lines.{lines_of, onto}

abbrev joined : List (List ℕ) → List ℕ
joined [] = []
joined (l ∷ ls) = l ++ 10 ∷ joined ls

joined_both : (xs ys : List (List ℕ)) → joined (xs ++ ys) ≡ joined xs ++ joined ys
joined_both [] ys = refl
joined_both (x ∷ xs) ys =
    ap (λ (t : List ℕ). x ++ 10 ∷ t) (joined_both xs ys) ∙ sym (append_assoc x (10 ∷ joined xs) (joined ys))

-- ---- any text

one_end : (b : ℕ) (bs w : List ℕ) → b ≡ 10 → IsUpToEnd bs w → IsUpToEnd (b ∷ bs) (10 ∷ w)
one_end b bs w e (inl p) = inl (ap (λ (c : ℕ). c ∷ bs) e ∙ ap (λ (t : List ℕ). 10 ∷ t) p)
one_end b bs w e (inr p) = inr (ap (λ (c : ℕ). c ∷ bs ++ codes "\n") e ∙ ap (λ (t : List ℕ). 10 ∷ t) p)

not_ended : (bs : List ℕ) → bs ++ codes "\n" ≡ [] → ⊥
not_ended [] e = cc
not_ended (b ∷ bs) e = cc

one_byte : (b : ℕ) (bs : List ℕ) (ls : List (List ℕ)) → IsUpToEnd bs (joined ls) → IsUpToEnd (b ∷ bs) (joined (onto b ls))
one_byte b bs [] (inl p) = inr (ap (λ (t : List ℕ). b ∷ t ++ codes "\n") p)
one_byte b bs [] (inr p) = absurd (not_ended bs p)
one_byte b bs (l ∷ ls) (inl p) = inl (ap (λ (t : List ℕ). b ∷ t) p)
one_byte b bs (l ∷ ls) (inr p) = inr (ap (λ (t : List ℕ). b ∷ t) p)

up_to_end : (t : List ℕ) → IsUpToEnd t (joined (lines_of t))
unfolding lines_of
up_to_end [] = inl refl
up_to_end (b ∷ bs) =
    elim (b == 10) as (λ c. (b == 10) ≡ c → IsUpToEnd (b ∷ bs) (joined (if c then [] ∷ lines_of bs else onto b (lines_of bs)))) [
      | true ↦ λ e. one_end b bs (joined (lines_of bs)) (eqb-true b 10 e) (up_to_end bs)
      | false ↦ λ e. one_byte b bs (lines_of bs) (up_to_end bs)
    ] refl

-- ---- the text of a history and its report

history_joined : (v : ℕ) (h : List Entry) → joined (history_lines v h) ≡ history_text v h
unfolding history_lines entry_line
history_joined v [] = refl
history_joined v (e ∷ h) =
    joined_both (history_lines v h) (entry_line v (length h + 1) e ∷ []) ∙ ap (λ (t : List ℕ). t ++ line_text v (length h + 1) e) (history_joined v h)

onto_joined : (b : ℕ) (ls : List (List ℕ)) (w : List ℕ) → joined ls ≡ w ++ codes "\n" → joined (onto b ls) ≡ b ∷ w ++ codes "\n"
onto_joined b [] w e = absurd (not_ended w (sym e))
onto_joined b (l ∷ ls) w e = ap (λ (t : List ℕ). b ∷ t) e

ended_joined : (w : List ℕ) → joined (lines_of (w ++ codes "\n")) ≡ w ++ codes "\n"
unfolding lines_of
ended_joined [] = refl
ended_joined (b ∷ w) =
    elim (b == 10) as (λ c. (b == 10) ≡ c → joined (if c then [] ∷ lines_of (w ++ codes "\n") else onto b (lines_of (w ++ codes "\n"))) ≡ b ∷ w ++ codes "\n") [
      | true ↦ λ e. ap (λ (t : List ℕ). 10 ∷ t) (ended_joined w) ∙ ap (λ (c : ℕ). c ∷ w ++ codes "\n") (sym (eqb-true b 10 e))
      | false ↦ λ e. onto_joined b (lines_of (w ++ codes "\n")) w (ended_joined w)
    ] refl

report_joined : (cs : List Counts) (n t : ℕ) (x : Ended) → joined (lines_of (report_text cs n t x)) ≡ report_text cs n t x
report_joined cs n t x =
    ended_joined (object_lines 1 cs ++ codes "entries " ++ decimal n ++ codes " clock " ++ decimal t ++ codes "\nend " ++ ended_text x)

told_joined : (s : Scenario) (h : List Entry) (o : Option Ended) → ended_as s h ≡ o → is_some o ≡ true → joined (report_lines s h) ≡ report s h
unfolding report_lines
told_joined s h None e p = cc
told_joined s h (Some x) e p =
    ap (λ (y : Option Ended). joined (lines_of (report_as s h y))) e ∙ report_joined _ _ _ x ∙ ap (λ (y : Option Ended). report_as s h y) (sym e)

pub text_is : (s : Scenario) (trace : List ℕ) (t : IsText s trace) → IsUpToEnd trace (text s t.history ++ report s t.history)
text_is s trace t =
    let h : List Entry = t.history in
    subst (λ (w : List ℕ). IsUpToEnd trace w)
    (ap joined t.lines ∙ joined_both (history_lines s.version h) (report_lines s h)
    ∙ ap (λ (w : List ℕ). w ++ joined (report_lines s h)) (history_joined s.version h)
    ∙ ap (λ (w : List ℕ). text s h ++ w) (told_joined s h (ended_as s h) refl t.ends))
    (up_to_end trace)
