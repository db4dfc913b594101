-- A lane keeps one mark for each open Out, and it is the number of the word that the Out was last asked about.
use Rattle.std.proofs.Common.{subst, sym, ap, ◌∙◌, eqb-true}
use Rattle.std.specs.Prelude.{◌≡◌, refl, ℕ, Bool, true, false, not, cond, ◌==◌, ◌||◌, ◌&&◌, pos, negsuc, List, [], ◌∷◌, Option, Some, None}
use Rattle.com_model.specs.declared.deeds.Deed.{Deed}
use Rattle.com_model.specs.declared.deeds.Deed.TheVariants as deed
use Rattle.com_model.specs.declared.deeds.Entry.{Entry}
use Rattle.com_model.specs.declared.scenario.Scenario.{Scenario}
use Rattle.com_model.specs.Answers.{is_S_OK}
use Rattle.com_model.specs.Lists.{is_member}
use Rattle.com_model.specs.Openers.{openers, open_calls}
use Rattle.com_model.specs.Waiting.{Mark, Word, Mail, mark_of, without_mark, Brings, Takes, Asks, Forgets, Leaves, mail_effect, mail_after, asked_about, not_asked, mail}
use Rattle.com_model.specs.LastAsked.{asks_for, number_or, asked_then, last_asked}
use Rattle.com_model.specs.Rules.{legal}
use Rattle.com_model.specs.Safe.{event, Stage, stage_after, stage}
use Rattle.com_model.proofs.Onces.{legal-open}

-- ---- the marks of other calls stay

other-mark : (c d : ℕ) (ms : List Mark) → (d == c) ≡ false → mark_of (without_mark d ms) c ≡ mark_of ms c
other-mark c d [] q = refl
other-mark c d (m ∷ ms) q =
    elim (m.call == d) as (λ b. (m.call == d) ≡ b → mark_of (cond (not b) (m ∷ without_mark d ms) (without_mark d ms)) c ≡ cond (m.call == c) m.number (mark_of ms c)) [
      | true ↦ λ e. other-mark c d ms q ∙ ap (λ (b : Bool). cond b m.number (mark_of ms c)) (sym (subst (λ (k : ℕ). (k == c) ≡ false) (sym (eqb-true m.call d e)) q))
      | false ↦ λ e. ap (λ (n : ℕ). cond (m.call == c) m.number n) (other-mark c d ms q)
    ] refl

-- ---- one entry

brought : (b : Bool) (w : _) (m : Mail) → (mail_after (cond b (Brings w) Leaves) m).marks ≡ m.marks
brought true w m = refl
brought false w m = refl

taken : (b : Bool) (m : Mail) → (mail_after (cond b Takes Leaves) m).marks ≡ m.marks
taken true m = refl
taken false m = refl

asked-word : (d c n : ℕ) (m : Mail) (w : Option Word) (b : Bool) → (d == c) ≡ b → mark_of (asked_about d n w m).marks c ≡ cond b (number_or (mark_of m.marks c) w) (mark_of m.marks c)
asked-word d c n m None true q = refl
asked-word d c n m None false q = refl
asked-word d c n m (Some w) true q = ap (λ (b : Bool). cond b w.number (mark_of (without_mark d m.marks) c)) q
asked-word d c n m (Some w) false q = ap (λ (b : Bool). cond b w.number (mark_of (without_mark d m.marks) c)) q ∙ other-mark c d m.marks q

asked-if : (own : Bool) (d c n : ℕ) (m : Mail) (b : Bool) → (d == c) ≡ b → mark_of (mail_after (cond own (Asks d n) Leaves) m).marks c ≡ asked_then (own && b) m.words (mark_of m.marks c)
asked-if false d c n m b q = refl
asked-if true d c n m true q = asked-word d c n m (not_asked (mark_of m.marks d) m.words) true q ∙ ap (λ (k : ℕ). number_or (mark_of m.marks c) (not_asked (mark_of m.marks k) m.words)) (eqb-true d c q)
asked-if true d c n m false q = asked-word d c n m (not_asked (mark_of m.marks d) m.words) false q

forgot : (own : Bool) (d c : ℕ) (m : Mail) → (d == c) ≡ false → mark_of (mail_after (cond own (Forgets d) Leaves) m).marks c ≡ mark_of m.marks c
forgot true d c m q = other-mark c d m.marks q
forgot false d c m q = refl

or-first : (p q : Bool) → (p || q) ≡ false → p ≡ false
or-first true q e = cc
or-first false q e = refl

or-second : (p q : Bool) → (p || q) ≡ false → q ≡ false
or-second true q e = cc
or-second false q e = e

-- Until its Back a call's mark is what it was last asked about.
marks-step : (l : ℕ) (own : Bool) (d : Deed) (c : ℕ) (m : Mail) (t : Stage) → (stage_after (event d) c t).back ≡ false → mark_of (mail_after (mail_effect l own d) m).marks c ≡ asked_then (asks_for own d c) m.words (mark_of m.marks c)
marks-step l own (deed.Post (pos j) w hr) c m t e = ap (λ (x : List Mark). mark_of x c) (brought (j == l && is_S_OK hr) w m)
marks-step l own (deed.Post (negsuc j) w hr) c m t e = refl
marks-step l own (deed.Word w) c m t e = ap (λ (x : List Mark). mark_of x c) (taken own m)
marks-step l own (deed.Pending d w n) c m t e = asked-if own d c n m (d == c) refl
marks-step l own (deed.Back d hr v) c m t e = forgot own d c m (or-first (d == c) t.back e)
marks-step l own _ c m t e = refl

not-before : (d : Deed) (c : ℕ) (t : Stage) → (stage_after (event d) c t).back ≡ false → t.back ≡ false
not-before (deed.Out k o i m r cause bytes) c t e = e
not-before (deed.Enter k o a x vs) c t e = e
not-before (deed.Leave k hr v bytes) c t e = e
not-before (deed.Back k hr v) c t e = or-second (k == c) t.back e
not-before _ c t e = e

kept-mark : (h : List Entry) (l c : ℕ) → (stage h c).back ≡ false → mark_of (mail h l).marks c ≡ last_asked h l c
kept-mark [] l c e = refl
kept-mark (e ∷ h) l c q =
    marks-step l (e.lane == l) e.deed c (mail h l) (stage h c) q
    ∙ ap (asked_then (asks_for (e.lane == l) e.deed c) (mail h l).words) (kept-mark h l c (not-before e.deed c (stage h c) q))

pub legal-marks : (s : Scenario) (h : List Entry) (l c : ℕ) → legal s h → is_member c (open_calls (openers h l)) ≡ true → mark_of (mail h l).marks c ≡ last_asked h l c
legal-marks s h l c p e = kept-mark h l c (legal-open s h l c p e)
