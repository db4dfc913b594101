-- A trace agrees exactly where it is the text and the report of a legal history that has ended.
use Rattle.std.proofs.Common.{subst, arith}
use Rattle.std.proofs.lemmas.Grind.{common_steps}
use Rattle.std.specs.Prelude.{◌≡◌, ◌↔◌, refl, ℕ, ◌≤◌, Bool, true, false, cond, nat_le, List, [], ◌∷◌, length, Option, None, is_some}
use Rattle.com_model.specs.declared.counts.Ended.{Ended}
use Rattle.com_model.specs.declared.deeds.Entry.{Entry}
use Rattle.com_model.specs.declared.scenario.Scenario.{Scenario}
use Rattle.com_model.specs.Ends.{ended_as, ended_by, limit}
use Rattle.com_model.specs.Sight.{sight}
use Rattle.com_model.specs.Rules.{legal}
use Rattle.com_model.specs.Safe.{EachEntry}
use Rattle.com_model.specs.Formed.{Formed}
use Rattle.com_laws_ended.specs.Going.{GoesOn}
use Rattle.com_laws_ended.proofs.Going.{legal-goes-on}
use Rattle.com_laws_lines.proofs.Lines.{legal-whole}
use Rattle.com_check.specs.declared.judged.Judged.{Judged}
use Rattle.com_check.specs.declared.judged.Judged.TheVariants as judged
use Rattle.com_check.specs.Judging.{IsJudged, IsText, Unended}
use Rattle.com_check.proofs.Joined.{text_is}
use Rattle.com_check.proofs.Alone.{judged_alone}
use Rattle.com_laws_check.specs.Exact.{IsWhole}
use Rattle.com_laws_check.proofs.Cutting.{whole-cut}

within-limit : (b : Bool) (o : Option Ended) → is_some (cond b o None) ≡ true → b ≡ true
within-limit true o p = refl
within-limit false o p = cc

at-most : (n m : ℕ) → nat_le n m ≡ true → n ≤ m
at-most n m e = grind (arith, common_steps)

unended : (s : Scenario) (h : List Entry) → EachEntry (GoesOn s) h → Unended s h
unended s [] p = tt
unended s (e ∷ h) p = (unended s h p.0, p.1.0, p.1.1)

whole-unended : (s : Scenario) (h : List Entry) → Formed s → legal s h → is_some (ended_as s h) ≡ true → Unended s h
whole-unended s h f q e = unended s h (legal-goes-on s h f q (at-most (length h) (limit s) (within-limit (nat_le (length h) (limit s)) (ended_by s (sight s h) (length h)) e)))

pub whole-text : (s : Scenario) (trace : List ℕ) → Formed s → IsWhole s trace → IsText s trace
whole-text s trace f w = record {
  history = w.history;
  lawful = w.lawful;
  unended = whole-unended s w.history f w.lawful w.ends;
  ends = w.ends;
  lines = whole-cut s w.history trace (legal-whole s w.history f w.lawful) w.ends w.is;
}

pub text-whole : (s : Scenario) (trace : List ℕ) → IsText s trace → IsWhole s trace
text-whole s trace t = record { history = t.history; lawful = t.lawful; ends = t.ends; is = text_is s trace t }

pub agrees : (s : Scenario) (trace : List ℕ) → Formed s → IsJudged s trace judged.Agrees ↔ IsWhole s trace
agrees s trace f = (text-whole s trace, whole-text s trace f)

pub judged-agrees : (s : Scenario) (trace : List ℕ) (j : Judged) → Formed s → IsJudged s trace j → (j ≡ judged.Agrees) ↔ IsWhole s trace
judged-agrees s trace j f p = (λ e. text-whole s trace (subst (IsJudged s trace) e p), λ w. judged_alone s trace j judged.Agrees f p (whole-text s trace f w))
