-- A trace that differs does not agree; and the history of one that agrees is legal.
use Rattle.std.proofs.Common.{sym, subst, ◌∙◌, arith}
use Rattle.std.proofs.lemmas.List.{length-reverse}
use Rattle.std.specs.Prelude.{◌≡◌, ℕ, ◌<◌, ◌≤◌, List, [], ◌∷◌, Option, Some, None, IfSome, length, reverse}
use Rattle.com_model.specs.declared.deeds.Entry.{Entry}
use Rattle.com_model.specs.declared.scenario.Scenario.{Scenario}
use Rattle.com_model.specs.Ends.{limit}
use Rattle.com_model.specs.Formed.{Formed}
use Rattle.com_model.specs.Rules.{legal}
use Rattle.com_check.specs.declared.judged.Judged.{Judged}
use Rattle.com_check.specs.declared.judged.Judged.TheVariants as judged
use Rattle.com_check.specs.Judging.{IsJudged, Unended}
use Rattle.com_check.proofs.Alone.{not_both}
use Rattle.com_check.specs.declared.agreement.traces.Agreed.{Agreed}
use Rattle.com_check.specs.declared.agreement.traces.Trace.{Trace}
use Rattle.com_check.specs.declared.agreement.traces.Trace.TheVariants as traces
use Rattle.com_check.specs.Agreeing.{IsAgreed, IsOther, IsRead, history_in}

pub not_agreed : (s : Scenario) (trace : List ℕ) (j : Judged) → Formed s → IsJudged s trace j → IsOther j → IsJudged s trace judged.Agrees → ⊥
not_agreed s trace judged.Agrees f p o t = o
not_agreed s trace (judged.Differs line found legal) f p o t = not_both s trace line found legal f t p

pub some_agreed : (s : Scenario) (trace : List ℕ) (t : Trace) (x : Option Agreed) → x ≡ history_in t → IsRead s trace t
    → IfSome x (λ a. IsAgreed s trace a)
some_agreed s trace (traces.Agrees a) x is p = subst (λ (y : Option Agreed). IfSome y (λ a. IsAgreed s trace a)) (sym is) p
some_agreed s trace (traces.Differs j) x is p = subst (λ (y : Option Agreed). IfSome y (λ a. IsAgreed s trace a)) (sym is) tt

pub none_agreed : (s : Scenario) (trace : List ℕ) (t : Trace) (x : Option Agreed) → Formed s → x ≡ history_in t → IsRead s trace t → x ≡ None
    → IsJudged s trace judged.Agrees → ⊥
none_agreed s trace (traces.Agrees a) x f is p e q = absurd (not-none (sym is ∙ e))
  where
    not-none : Some a ≡ None → ⊥
    not-none e = cc
none_agreed s trace (traces.Differs j) x f is p e q = not_agreed s trace j f p.0 p.1 q

-- ---- what callers know of the history of an agreed trace

pub agreed_lawful : (s : Scenario) (trace : List ℕ) (a : Agreed) → IsAgreed s trace a → legal s (reverse a.history)
agreed_lawful s trace a p = subst (legal s) (sym p.history) p.text.lawful

within : (s : Scenario) (h : List Entry) → Unended s h → length h ≤ limit s
within s [] u = omega arith
within s (e ∷ h) u = let low : length h < limit s = u.1 in omega (arith, low)

pub agreed_few : (s : Scenario) (trace : List ℕ) (a : Agreed) → IsAgreed s trace a → length a.history ≤ limit s
agreed_few s trace a p =
    subst (λ (n : ℕ). n ≤ limit s) (length-reverse a.history)
    (within s (reverse a.history) (subst (λ (h : List Entry). Unended s h) (sym p.history) p.text.unended))
