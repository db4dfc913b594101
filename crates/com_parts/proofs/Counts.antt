-- No lane counts more than one for each entry.
use Rattle.std.proofs.Common.{◌≡◌, ℕ, zero, suc, ◌+◌, ◌<◌, ◌≤◌, ◌^◌, Bool, true, false, List, [], ◌∷◌, ◌++◌, Option, Some, None, pos, negsuc, length, length-append, refl, ◌∙◌, ap, subst, sym, arith, slice_index_or, slice_set, if◌then◌else◌}
use Rattle.com_lanes.specs.Changes.{HasRoom}
use Rattle.com_model.specs.declared.deeds.Deed.{Deed}
use Rattle.com_model.specs.declared.deeds.Deed.TheVariants as deed
use Rattle.com_model.specs.Answers.{is_S_OK, is_failure}
use Rattle.com_model.specs.Apartments.{HomeEffect, Initialises, Uninitialises, Remains, home_effect, count_after, makes_sta, with_last}
use Rattle.com_model.specs.Lists.{tabulated, where_true}
use Rattle.com_model.specs.Openers.{Effect, Opens, Closes, Keeps, EndsPump, Backs, Leaves, effect, opened, left_on}
use Rattle.com_model.specs.State.{changed_at, counts_change, mail_change, mail_lane, serves_more}
use Rattle.com_model.specs.Waiting.{Mail, no_mail, mail_after, Brings, Takes, Asks, Forgets, not_asked, mark_of, asked_about}
use Rattle.com_model.specs.declared.keeps.Opener.{Opener}
use Rattle.com_model.specs.declared.keeps.Opener.TheVariants.{Pumps, Waits, Enters}
use Rattle.com_model.specs.declared.keeps.Word.{Word}
use Rattle.com_state.specs.Parts.{LaneTables, lanes_after, openers_at, served_at}
use Rattle.com_parts.specs.Fits.{IsBack, TakesBack}
use Rattle.com_parts.specs.Whole.{Counted}

-- What holds of a row that is written and of the row before holds of what is read.
read-set : {X : Type 0} (t : List X) (k l : ℕ) (x d : X) (P : X → Type 0) → P x → P (slice_index_or t l d) → P (slice_index_or (slice_set t k x) l d)
read-set [] k l x d P h b = b
read-set (y ∷ ys) zero zero x d P h b = h
read-set (y ∷ ys) zero (suc l) x d P h b = b
read-set (y ∷ ys) (suc k) zero x d P h b = b
read-set (y ∷ ys) (suc k) (suc l) x d P h b = read-set ys k l x d P h b

more : (m n : ℕ) → m ≤ n → m ≤ n + 1
more m n h = omega (arith, h)

-- ---- bodies that a pump served

left-more : (c : ℕ) (os : List Opener) (k n : ℕ) → k ≤ n → left_on (Closes (Leaves c)) os k ≤ n + 1
left-more c [] k n h = more k n h
left-more c (Pumps b ∷ []) k n h = omega (arith, h)
left-more c (Pumps b ∷ o ∷ os) k n h = more k n h
left-more c (Waits d ∷ os) k n h = more k n h
left-more c (Enters d o a ∷ os) k n h = more k n h

served-row : (x : Effect) (os : List Opener) (t : List ℕ) (k l n : ℕ) → ((j : ℕ) → slice_index_or t j 0 ≤ n) → slice_index_or (changed_at (serves_more x os) k 0 t) l 0 ≤ n + 1
served-row (Opens (Pumps b)) os t k l n h = read-set t k l 0 0 (λ v. v ≤ n + 1) (omega arith) (more (slice_index_or t l 0) n (h l))
served-row (Opens (Waits c)) os t k l n h = more (slice_index_or t l 0) n (h l)
served-row (Opens (Enters c o a)) os t k l n h = more (slice_index_or t l 0) n (h l)
served-row (Closes EndsPump) os t k l n h = more (slice_index_or t l 0) n (h l)
served-row (Closes (Backs c)) os t k l n h = more (slice_index_or t l 0) n (h l)
served-row (Closes (Leaves c)) os t k l n h =
    read-set t k l (left_on (Closes (Leaves c)) os (slice_index_or t k 0)) 0 (λ v. v ≤ n + 1) (left-more c os (slice_index_or t k 0) n (h k)) (more (slice_index_or t l 0) n (h l))
served-row Keeps os t k l n h = more (slice_index_or t l 0) n (h l)

-- ---- initialisations

counted-more : (b : Bool) (k n : ℕ) → k ≤ n → (if b then k else k + 1) ≤ n + 1
counted-more true k n h = more k n h
counted-more false k n h = omega (arith, h)

counts-row : (x : HomeEffect) (t : List ℕ) (k l n : ℕ) → IsBack x (slice_index_or t k 0) → ((j : ℕ) → slice_index_or t j 0 ≤ n) → slice_index_or (changed_at (counts_change x) k 0 t) l 0 ≤ n + 1
counts-row (Initialises a hr) t k l n b h =
    read-set t k l (count_after (Initialises a hr) (slice_index_or t k 0)) 0 (λ v. v ≤ n + 1) (counted-more (is_failure hr) (slice_index_or t k 0) n (h k)) (more (slice_index_or t l 0) n (h l))
counts-row (Uninitialises a c) t k l n b h =
    let top : slice_index_or t k 0 ≤ n = h k in
    read-set t k l c 0 (λ v. v ≤ n + 1) (omega (arith, b, top)) (more (slice_index_or t l 0) n (h l))
counts-row Remains t k l n b h = more (slice_index_or t l 0) n (h l)

-- ---- words

asked-posted : (c n : ℕ) (w : Option Word) (m : Mail) → (asked_about c n w m).posted ≡ m.posted
asked-posted c n None m = refl
asked-posted c n (Some w) m = refl

brought-row : (b : Bool) (w : _) (t : List Mail) (k l n : ℕ) → ((j : ℕ) → (slice_index_or t j no_mail).posted ≤ n) → (slice_index_or (changed_at (where_true b (mail_after (Brings w))) k no_mail t) l no_mail).posted ≤ n + 1
brought-row false w t k l n h = more (slice_index_or t l no_mail).posted n (h l)
brought-row true w t k l n h =
    let top : (slice_index_or t k no_mail).posted ≤ n = h k in
    read-set t k l (mail_after (Brings w) (slice_index_or t k no_mail)) no_mail (λ (v : Mail). v.posted ≤ n + 1) (omega (arith, top)) (more (slice_index_or t l no_mail).posted n (h l))

mail-row : (d : Deed) (i : ℕ) (t : List Mail) (l n : ℕ) → ((j : ℕ) → (slice_index_or t j no_mail).posted ≤ n) → (slice_index_or (changed_at (mail_change d) (mail_lane i d) no_mail t) l no_mail).posted ≤ n + 1
mail-row (deed.Post (pos m) w hr) i t l n h = brought-row (is_S_OK hr) w t m l n h
mail-row (deed.Post (negsuc m) w hr) i t l n h = more (slice_index_or t l no_mail).posted n (h l)
mail-row (deed.Word w) i t l n h =
    read-set t i l (mail_after Takes (slice_index_or t i no_mail)) no_mail (λ (v : Mail). v.posted ≤ n + 1) (more (slice_index_or t i no_mail).posted n (h i)) (more (slice_index_or t l no_mail).posted n (h l))
mail-row (deed.Pending c w a) i t l n h =
    let m : Mail = slice_index_or t i no_mail in
    read-set t i l (mail_after (Asks c a) m) no_mail (λ (v : Mail). v.posted ≤ n + 1)
    (subst (λ (v : ℕ). v ≤ n + 1) (sym (asked-posted c a (not_asked (mark_of m.marks c) m.words) m)) (more m.posted n (h i)))
    (more (slice_index_or t l no_mail).posted n (h l))
mail-row (deed.Back c hr v) i t l n h =
    read-set t i l (mail_after (Forgets c) (slice_index_or t i no_mail)) no_mail (λ (v' : Mail). v'.posted ≤ n + 1) (more (slice_index_or t i no_mail).posted n (h i)) (more (slice_index_or t l no_mail).posted n (h l))
mail-row _ i t l n h = more (slice_index_or t l no_mail).posted n (h l)

-- ---- apartments

stas-row : (x : Option ℕ) (t : List ℕ) (n : ℕ) → length t ≤ n → length (with_last t x) ≤ n + 1
stas-row None t n h = more (length t) n h
stas-row (Some a) t n h = omega (arith, h, length-append t (a ∷ []))

pub counted_after : (t : LaneTables) (l : ℕ) (d : Deed) (n : ℕ) → Counted t n → TakesBack t l d → Counted (lanes_after t (record { lane = l; deed = d })) (n + 1)
counted_after t l d n k b = record {
  served = λ i. served-row (effect d) (opened (effect d) (openers_at t l)) t.served l i n k.served;
  counts = λ i. counts-row (home_effect d) t.counts l i n b k.counts;
  posted = λ i. mail-row d l t.mail i n k.posted;
  stas = stas-row (makes_sta d) t.stas n k.stas;
}

-- One more can be counted where so few were.
pub has_room : (t : LaneTables) (n : ℕ) → Counted t n → n < 2 ^ 28 → HasRoom t
has_room t n k h = record {
  served = λ l. (let top : served_at t l ≤ n = k.served l in omega (arith, top, h));
  counts = λ l. (let top : slice_index_or t.counts l 0 ≤ n = k.counts l in omega (arith, top, h));
  posted = λ l. (let top : (slice_index_or t.mail l no_mail).posted ≤ n = k.posted l in omega (arith, top, h));
  stas = (let top : length t.stas ≤ n = k.stas in omega (arith, top, h));
}

pub stas_fit : (t : LaneTables) (n : ℕ) → Counted t n → n < 2 ^ 28 → length t.stas + 4 ≤ 2 ^ 32
stas_fit t n k h = (has_room t n k h).stas

-- ---- before the first entry

last-default : {X : Type 0} (xs : List X) (l : ℕ) (d : X) → slice_index_or (xs ++ d ∷ []) l d ≡ slice_index_or xs l d
last-default [] zero d = refl
last-default [] (suc l) d = refl
last-default (x ∷ xs) zero d = refl
last-default (x ∷ xs) (suc l) d = last-default xs l d

all-default : {X : Type 0} (n l : ℕ) (d : X) → slice_index_or (tabulated n (λ k. d)) l d ≡ d
all-default zero l d = refl
all-default (suc n) l d = last-default (tabulated n (λ k. d)) l d ∙ all-default n l d

none-more : (m : ℕ) → m ≡ 0 → m ≤ 0
none-more m e = omega (arith, e)

pub first_read : (n l : ℕ) → slice_index_or (tabulated n (λ k. 0)) l 0 ≤ 0
first_read n l = none-more (slice_index_or (tabulated n (λ k. 0)) l 0) (all-default n l 0)

pub first_posted : (n l : ℕ) → (slice_index_or (tabulated n (λ k. no_mail)) l no_mail).posted ≤ 0
first_posted n l = none-more (slice_index_or (tabulated n (λ k. no_mail)) l no_mail).posted (ap (λ (m : Mail). m.posted) (all-default n l no_mail))
