-- An object that had its Final is never connected again.
use Rattle.std.proofs.Common.{subst, sym, ap, ◌∙◌, ◌⊎◌, inl, inr, eqb-true, arith}
use Rattle.std.proofs.lemmas.Grind.{common_steps}
use Rattle.std.specs.Prelude.{◌≡◌, refl, ℕ, ◌+◌, ◌≤◌, Bool, true, false, cond, ◌==◌, ◌&&◌, ◌||◌, nat_le, List, [], ◌∷◌, Option, Some, None}
use Rattle.com_body.specs.declared.actions.Action.{Action}
use Rattle.com_model.specs.declared.deeds.Deed.{Deed}
use Rattle.com_model.specs.declared.deeds.Deed.TheVariants as deed
use Rattle.com_model.specs.declared.deeds.Entry.{Entry}
use Rattle.com_model.specs.declared.scenario.Scenario.{Scenario}
use Rattle.com_model.specs.Lists.{number_or_zero, is_number}
use Rattle.com_model.specs.Openers.{openers}
use Rattle.com_model.specs.declared.keeps.Opener.{Opener}
use Rattle.com_model.specs.Apartments.{running}
use Rattle.com_model.specs.Objects.{makes, one_more, objects, finals, finaled}
use Rattle.com_model.specs.declared.keeps.Making.{Making}
use Rattle.com_model.specs.Frames.{Scene, scene, act}
use Rattle.com_model.specs.Endings.{ending, is_leave}
use Rattle.com_model.specs.Places.{Ground, ground}
use Rattle.com_refs_books.specs.Changes.{Books, Change, ToProxy, ToPacket, Split, Join, Return, ToCookie, Withdraw, Same, changed, change, Row, entered_rows}
use Rattle.com_model.specs.Books.{rows, kept, made_by, most, books}
use Rattle.com_model.specs.Waiting.{postings}
use Rattle.com_model.specs.Dying.{is_dying}
use Rattle.com_model.specs.Sight.{Sight, sight}
use Rattle.com_model.specs.Rules.{next, legal}
use Rattle.com_model.specs.Safe.{EachPrefix}
use Rattle.com_model.proofs.Comes.{sort_of, Comes, next-comes}
use Rattle.com_laws_safety.specs.Released.{ReleasesOnce, Severed, StaySevered}
use Rattle.com_laws_safety.proofs.Small.{not-both, differ, and-left, and-right}
use Rattle.com_laws_safety.proofs.Sources.{next-source}
use Rattle.com_laws_safety.proofs.Caused.{each-prefix}
use Rattle.com_laws_safety.proofs.Released.{releases}

-- ---- what the books of an entry leave connected

changed-live : (b : Books) (c : Change) (o : ℕ) → (changed b c).live o ≡ b.live o
changed-live b (ToProxy x y z m) o = refl
changed-live b (ToPacket m x y r) o = refl
changed-live b (Split x y z m) o = refl
changed-live b (Join x q) o = refl
changed-live b (Return q) o = refl
changed-live b (ToCookie x y m) o = refl
changed-live b (Withdraw g) o = refl
changed-live b Same o = refl

rows-live : (owned : ℕ → ℕ → Bool) (b : Books) (rs : List Row) (o : ℕ) → (entered_rows owned b rs).live o ≡ b.live o
rows-live owned b [] o = refl
rows-live owned b (r ∷ rs) o = rows-live owned (changed b (change owned b r)) rs o ∙ changed-live b (change owned b r) o

kept-live : (before after : Books) (d : Deed) (o : ℕ) → (kept before d after).live o ≡ after.live o
kept-live x b (deed.Out c u j m r cause bytes) o = refl
kept-live x b (deed.Leave c hr v bytes) o = refl
kept-live x b _ o = refl

most-live : (s : Scenario) (g : Ground) (w : Scene) (x : Option Action) (left : ℕ → Bool) (a : ℕ) (d : Deed) (b : Books) (o : ℕ) → (most s g w x left a d b).live o ≡ b.live o
most-live s g w x left a d b o = kept-live b (entered_rows g.owns b (rows s x left b a d)) d o ∙ rows-live g.owns b (rows s x left b a d) o

live-part : (m l e : Bool) → m ≡ false → ((m || l) && e) ≡ true → l ≡ true
live-part true l e p q = cc
live-part false l e p q = and-left l e q

-- An object that the deed does not make was connected before, if it is connected after.
pub was-live : (s : Scenario) (h : List Entry) (e : Entry) (o : ℕ) → made_by (makes e.deed) o ≡ false → (books s (e ∷ h)).live o ≡ true → (books s h).live o ≡ true
was-live s h e o p q =
    sym (most-live s (ground s (e ∷ h)) (scene s (e ∷ h)) (act s h e.lane) (λ c. is_leave (ending s h c)) (number_or_zero (running s h e.lane)) e.deed (books s h) o)
    ∙ live-part (made_by (makes e.deed) o) _ _ p q

-- ---- an entry makes only the next object

past : (n o k : ℕ) → n ≡ k + 1 → o ≤ k → (n == o) ≡ false
past n o k p q = grind (arith, common_steps, p, q)

not-made : (s : Scenario) (v : Sight) (ps : List ℕ) (os : List Opener) (d : Deed) (o : ℕ) → Comes s v ps os (sort_of d) → o ≤ v.objects → made_by (makes d) o ≡ false
not-made s v ps os (deed.Made (Some n) (Some a) k i hr) o p q = past n o v.objects p q
not-made s v ps os _ o p q = refl

pub next-makes : (s : Scenario) (h : List Entry) (l : ℕ) (d : Deed) (o : ℕ) → next s h l ≡ Some d → o ≤ objects h → made_by (makes d) o ≡ false
next-makes s h l d o p q = not-made s (sight s h) (postings h) (openers h l) d o (next-comes s h l d p) q

more-objects : (x : Option Making) (o n : ℕ) → o ≤ n → o ≤ one_more x n
more-objects None o n p = p
more-objects (Some m) o n p = grind (arith, p)

-- ---- after a Final

record Past (s : Scenario) (h : List Entry) (o : ℕ) : Type 0 where
  made : o ≤ objects h
  not_live : (books s h).live o ≡ false

low : (o n : ℕ) → nat_le o n ≡ true → o ≤ n
low o n p = grind (arith, common_steps, p)

final-past : (s : Scenario) (h : List Entry) (l : ℕ) (d : Deed) (o : ℕ) → ReleasesOnce s h l d → is_number o (finals d) ≡ true → Past s h o
final-past s h l (deed.Final x) o p q =
    let r : is_dying s h x ≡ true = p.2 in
    subst (Past s h) (sym (eqb-true o x q)) (record {
      made = low x (objects h) (and-right (nat_le 1 x) _ (and-left (nat_le 1 x && nat_le x (objects h)) _ r));
      not_live = p.3;
    })
final-past s h l _ o p q = cc

either : (p q : Bool) → (p || q) ≡ true → (p ≡ true) ⊎ (q ≡ true)
either true q e = inl refl
either false q e = inr e

finaled-past : (s : Scenario) (h : List Entry) (o : ℕ) → legal s h → finaled h o ≡ true → Past s h o
finaled-past s [] o p q = cc
finaled-past s (e ∷ h) o p q =
    let before : Past s h o = elim (either (is_number o (finals e.deed)) (finaled h o) q) as (λ _. Past s h o) [
      | inl t ↦ final-past s h e.lane e.deed o (releases s h e.lane e.deed (next-source s h e.lane e.deed p.1)) t
      | inr t ↦ finaled-past s h o p.0 t
    ] in
    record {
      made = more-objects (makes e.deed) o (objects h) before.made;
      not_live = differ ((books s (e ∷ h)).live o) (λ t. not-both ((books s h).live o) (was-live s h e o (next-makes s h e.lane e.deed o p.1 before.made) t) before.not_live);
    }

-- ---- what is not connected has no public references

off : (b : Bool) (n : ℕ) → b ≡ false → cond b n 0 ≡ 0
off b n e = ap (λ t. cond t n 0) e

pub severed : (s : Scenario) (h : List Entry) (o : ℕ) → (books s h).live o ≡ false → Severed (books s h) o
severed s [] o p = record { not_live = p; no_stub = λ i. refl; no_proxy = λ a i. refl }
severed s (e ∷ h) o p = record { not_live = p; no_stub = λ i. off ((books s (e ∷ h)).live o) _ p; no_proxy = λ a i. off ((books s (e ∷ h)).live o) _ p }

pub legal-severed : (s : Scenario) (h : List Entry) → legal s h → EachPrefix (StaySevered s) h
legal-severed s = each-prefix s (StaySevered s) (λ h p o q. severed s h o (finaled-past s h o p q).not_live)
