-- Steps of the walks over entries, from the newest on.
use Rattle.std.proofs.Common.{subst, sym, ap, ◌∙◌, drop, arith}
use Rattle.std.proofs.lemmas.List.{reverse-append}
use Rattle.std.proofs.lemmas.List.Elements.{filter_map-append}
use Rattle.std.specs.List.{cons_option}
use Rattle.std.specs.Prelude.{◌≡◌, refl, ℕ, zero, suc, ◌+◌, Bool, true, false, cond, ◌==◌, List, [], ◌∷◌, ◌++◌, Option, Some, None, option_map}
use Rattle.com_model.specs.declared.deeds.Entry.{Entry}
use Rattle.com_model.specs.declared.keeps.Admission.{Admission}
use Rattle.com_model.specs.declared.keeps.Issue.{Issue}
use Rattle.com_model.specs.declared.keeps.Making.{Making}
use Rattle.com_model.specs.declared.keeps.Opener.{Opener}
use Rattle.com_model.specs.Lists.{first, one_to, without_first}
use Rattle.com_model.specs.Openers.{Effect, Opens, Closes, Keeps, effect_on, opened, openers}
use Rattle.com_model.specs.Objects.{made_or, makes, making}
use Rattle.com_model.specs.Calls.{admits, admission_or, admitted, issue, issue_or, issues}
use Rattle.com_waits.specs.declared.walks.Passed.{Passed}
use Rattle.com_waits.specs.declared.walks.Passed.TheVariants as passed
use Rattle.com_waits.specs.declared.reasons.Why.{Why}
use Rattle.com_waits.specs.declared.reasons.Wait.{Wait}
use Rattle.com_waits.specs.Reasons.{wait_of}
use Rattle.com_waits.specs.Walks.{apartment_in, change_by, change_of, lane_in, object_in, passed_by, row_of, seen, seen_waits, told}

pub told_more : (xs : List Entry) (e : Entry) → told (xs ++ e ∷ []) ≡ e ∷ told xs
told_more xs e = reverse-append xs (e ∷ [])

pub told_is : (all rest : List Entry) (e : Entry) → all ≡ rest ++ e ∷ [] → told all ≡ e ∷ told rest
told_is all rest e z = ap told z ∙ told_more rest e

-- What stands on top of a lane, behind an entry.
abbrev Behind : Passed → (Option Opener) → (ℕ → Option Opener) → Type 0
Behind (passed.Found o) top rest = top ≡ Some o
Behind (passed.On n) top rest = top ≡ rest n

drop-rest : (n : ℕ) (os : List Opener) → first (drop n (without_first os)) ≡ first (drop (suc n) os)
drop-rest zero [] = refl
drop-rest zero (o ∷ os) = refl
drop-rest (suc n) [] = refl
drop-rest (suc n) (o ∷ os) = refl

one-more : (n : ℕ) → suc n ≡ n + 1
one-more n = omega arith

behind : (x : Effect) (n : ℕ) (os : List Opener) → Behind (passed_by (change_by x) n) (first (drop n (opened x os))) (λ k. first (drop k os))
behind (Opens o) zero os = refl
behind (Opens o) (suc n) os = refl
behind (Closes c) n os = drop-rest n os ∙ ap (λ (k : ℕ). first (drop k os)) (one-more n)
behind Keeps n os = refl

behind-found : (x : Passed) (o : Opener) (top : Option Opener) (rest : ℕ → Option Opener) → x ≡ passed.Found o → Behind x top rest → top ≡ Some o
behind-found x o top rest e b = subst (λ (y : Passed). Behind y top rest) e b

behind-on : (x : Passed) (n : ℕ) (top : Option Opener) (rest : ℕ → Option Opener) → x ≡ passed.On n → Behind x top rest → top ≡ rest n
behind-on x n top rest e b = subst (λ (y : Passed). Behind y top rest) e b

pub top_found : (all rest : List Entry) (e : Entry) (l n : ℕ) (o : Opener) → all ≡ rest ++ e ∷ [] → passed_by (change_of l e) n ≡ passed.Found o → first (drop n (openers (told all) l)) ≡ Some o
top_found all rest e l n o z q =
    ap (λ (h : List Entry). first (drop n (openers h l))) (told_is all rest e z)
    ∙ behind-found (passed_by (change_of l e) n) o _ (λ k. first (drop k (openers (told rest) l))) q (behind (effect_on l e) n (openers (told rest) l))

pub top_on : (all rest : List Entry) (e : Entry) (l n k : ℕ) → all ≡ rest ++ e ∷ [] → passed_by (change_of l e) n ≡ passed.On k → first (drop n (openers (told all) l)) ≡ first (drop k (openers (told rest) l))
top_on all rest e l n k z q =
    ap (λ (h : List Entry). first (drop n (openers h l))) (told_is all rest e z)
    ∙ behind-on (passed_by (change_of l e) n) k _ (λ j. first (drop j (openers (told rest) l))) q (behind (effect_on l e) n (openers (told rest) l))

-- The lane that a call was entered in.
admits-first : (x : Option Admission) (c l : ℕ) (y : Option Admission) → lane_in (admission_or x c None) ≡ Some l → lane_in (admission_or x c y) ≡ Some l
admits-first None c l y e = cc
admits-first (Some a) c l y e = by-test (a.call == c) e
  where
    by-test : (b : Bool) → lane_in (cond b (Some a) None) ≡ Some l → lane_in (cond b (Some a) y) ≡ Some l
    by-test true e = e
    by-test false e = cc

admits-later : (x : Option Admission) (c : ℕ) (y : Option Admission) → lane_in (admission_or x c None) ≡ None → lane_in (admission_or x c y) ≡ lane_in y
admits-later None c y e = refl
admits-later (Some a) c y e = by-test (a.call == c) e
  where
    by-test : (b : Bool) → lane_in (cond b (Some a) None) ≡ None → lane_in (cond b (Some a) y) ≡ lane_in y
    by-test true e = cc
    by-test false e = refl

pub lane_first : (all rest : List Entry) (e : Entry) (c l : ℕ) → all ≡ rest ++ e ∷ [] → lane_in (admission_or (admits e.lane e.deed) c None) ≡ Some l → lane_in (admitted (told all) c) ≡ Some l
lane_first all rest e c l z q = ap (λ (h : List Entry). lane_in (admitted h c)) (told_is all rest e z) ∙ admits-first (admits e.lane e.deed) c l (admitted (told rest) c) q

pub lane_later : (all rest : List Entry) (e : Entry) (c : ℕ) → all ≡ rest ++ e ∷ [] → lane_in (admission_or (admits e.lane e.deed) c None) ≡ None → lane_in (admitted (told all) c) ≡ lane_in (admitted (told rest) c)
lane_later all rest e c z q = ap (λ (h : List Entry). lane_in (admitted h c)) (told_is all rest e z) ∙ admits-later (admits e.lane e.deed) c (admitted (told rest) c) q

-- The object that a call's Out names.
issues-first : (x : Option Issue) (c l : ℕ) (y : Option Issue) → object_in (issue_or x c None) ≡ Some l → object_in (issue_or x c y) ≡ Some l
issues-first None c l y e = cc
issues-first (Some a) c l y e = by-test (a.call == c) e
  where
    by-test : (b : Bool) → object_in (cond b (Some a) None) ≡ Some l → object_in (cond b (Some a) y) ≡ Some l
    by-test true e = e
    by-test false e = cc

issues-later : (x : Option Issue) (c : ℕ) (y : Option Issue) → object_in (issue_or x c None) ≡ None → object_in (issue_or x c y) ≡ object_in y
issues-later None c y e = refl
issues-later (Some a) c y e = by-test (a.call == c) e
  where
    by-test : (b : Bool) → object_in (cond b (Some a) None) ≡ None → object_in (cond b (Some a) y) ≡ object_in y
    by-test true e = cc
    by-test false e = refl

pub object_first : (all rest : List Entry) (e : Entry) (c o : ℕ) → all ≡ rest ++ e ∷ [] → object_in (issue_or (issues e.lane e.deed) c None) ≡ Some o → object_in (issue (told all) c) ≡ Some o
object_first all rest e c o z q = ap (λ (h : List Entry). object_in (issue h c)) (told_is all rest e z) ∙ issues-first (issues e.lane e.deed) c o (issue (told rest) c) q

pub object_later : (all rest : List Entry) (e : Entry) (c : ℕ) → all ≡ rest ++ e ∷ [] → object_in (issue_or (issues e.lane e.deed) c None) ≡ None → object_in (issue (told all) c) ≡ object_in (issue (told rest) c)
object_later all rest e c z q = ap (λ (h : List Entry). object_in (issue h c)) (told_is all rest e z) ∙ issues-later (issues e.lane e.deed) c (issue (told rest) c) q

-- The apartment that an object was made in.
makes-first : (x : Option Making) (o a : ℕ) (y : Option Making) → apartment_in (made_or x o None) ≡ Some a → apartment_in (made_or x o y) ≡ Some a
makes-first None o a y e = cc
makes-first (Some m) o a y e = by-test (m.object == o) e
  where
    by-test : (b : Bool) → apartment_in (cond b (Some m) None) ≡ Some a → apartment_in (cond b (Some m) y) ≡ Some a
    by-test true e = e
    by-test false e = cc

makes-later : (x : Option Making) (o : ℕ) (y : Option Making) → apartment_in (made_or x o None) ≡ None → apartment_in (made_or x o y) ≡ apartment_in y
makes-later None o y e = refl
makes-later (Some m) o y e = by-test (m.object == o) e
  where
    by-test : (b : Bool) → apartment_in (cond b (Some m) None) ≡ None → apartment_in (cond b (Some m) y) ≡ apartment_in y
    by-test true e = cc
    by-test false e = refl

pub apartment_first : (all rest : List Entry) (e : Entry) (o a : ℕ) → all ≡ rest ++ e ∷ [] → apartment_in (made_or (makes e.deed) o None) ≡ Some a → apartment_in (making (told all) o) ≡ Some a
apartment_first all rest e o a z q = ap (λ (h : List Entry). apartment_in (making h o)) (told_is all rest e z) ∙ makes-first (makes e.deed) o a (making (told rest) o) q

pub apartment_later : (all rest : List Entry) (e : Entry) (o : ℕ) → all ≡ rest ++ e ∷ [] → apartment_in (made_or (makes e.deed) o None) ≡ None → apartment_in (making (told all) o) ≡ apartment_in (making (told rest) o)
apartment_later all rest e o z q = ap (λ (h : List Entry). apartment_in (making h o)) (told_is all rest e z) ∙ makes-later (makes e.deed) o (making (told rest) o) q

-- ---- one lane more

rows-suc : (p : ℕ) (h : List Entry) (n : ℕ) → seen_waits p h (suc n) ≡ seen_waits p h n ++ row_of (suc n) (seen p h (suc n))
rows-suc p h n =
    filter_map-append (λ l. option_map (wait_of l) (seen p h l)) (one_to n) (suc n ∷ [])
    ∙ ap (λ (xs : List Wait). seen_waits p h n ++ xs) (last-row (seen p h (suc n)))
  where
    last-row : (x : Option Why) → cons_option (option_map (wait_of (suc n)) x) [] ≡ row_of (suc n) x
    last-row None = refl
    last-row (Some y) = refl

pub rows_more : (p : ℕ) (h : List Entry) (n : ℕ) (ws vs : List Wait) → ws ≡ seen_waits p h n → vs ≡ ws ++ row_of (n + 1) (seen p h (n + 1)) → vs ≡ seen_waits p h (n + 1)
rows_more p h n ws vs e q =
    q ∙ ap (λ (xs : List Wait). xs ++ row_of (n + 1) (seen p h (n + 1))) e
    ∙ subst (λ (k : ℕ). seen_waits p h n ++ row_of k (seen p h k) ≡ seen_waits p h k) (one-more n) (sym (rows-suc p h n))
