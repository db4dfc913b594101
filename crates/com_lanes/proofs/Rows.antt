-- Rows of tables.
use Rattle.std.proofs.Common.{◌≡◌, ℕ, zero, suc, ◌+◌, Bool, true, false, List, [], ◌∷◌, refl, ◌∙◌, ap, slice_index_or, slice_set, length, map, slice_get, ◌++◌, ◌≤◌, Some, None, ℤ, pos, negsuc}
use Rattle.std.proofs.lemmas.List.{set_past as set-past, map-set, map-append}
use Rattle.std.proofs.Math.Seq.{map-set_same}
use Rattle.com_base.specs.declared.hresult.HResult.{HResult}
use Rattle.com_model.specs.Answers.{is_S_OK}
use Rattle.com_model.specs.Lists.{where_true, without_first}
use Rattle.com_model.specs.declared.deeds.Deed.TheVariants as deed
use Rattle.com_model.specs.State.{changed_at, mail_change, mail_lane, quit_change, quit_lane}
use Rattle.com_model.specs.Waiting.{Mail, no_mail, mail_after, Brings}
use Rattle.com_lanes.specs.Changes.{natural, posted_to, quit_to}
use Rattle.com_model.specs.declared.keeps.Opener.{Opener}
use Rattle.com_model.specs.declared.keeps.Opener.TheVariants.{Pumps, Waits, Enters}
use Rattle.com_model.specs.Openers.{Closes, Leaves, left_on}
use Rattle.com_lane_lists.specs.Bodies.{is_one_pump}
use Rattle.com_lane_lists.specs.Rooms.{OpenerRows, MailRows, openers_in, mail_in, no_opener, no_word}
use Rattle.com_lane_lists.proofs.Rows.{read_map}

pub set_own : {X : Type 0} (xs : List X) (i : ℕ) (d : X) → slice_set xs i (slice_index_or xs i d) ≡ xs
set_own [] i d = refl
set_own (x ∷ xs) zero d = refl
set_own (x ∷ xs) (suc i) d = ap (λ (ys : List _). x ∷ ys) (set_own xs i d)

pub left_one : (c : ℕ) (os : List Opener) (n : ℕ) → is_one_pump os ≡ true → left_on (Closes (Leaves c)) os n ≡ n + 1
left_one c [] n e = absurd cc
left_one c (Pumps b ∷ []) n e = refl
left_one c (Pumps b ∷ o ∷ os) n e = absurd cc
left_one c (Waits d ∷ os) n e = absurd cc
left_one c (Enters d o a ∷ os) n e = absurd cc

pub left_other : (c : ℕ) (os : List Opener) (n : ℕ) → is_one_pump os ≡ false → left_on (Closes (Leaves c)) os n ≡ n
left_other c [] n e = refl
left_other c (Pumps b ∷ []) n e = absurd cc
left_other c (Pumps b ∷ o ∷ os) n e = refl
left_other c (Waits d ∷ os) n e = refl
left_other c (Enters d o a ∷ os) n e = refl

pub set_past : {X : Type 0} (xs : List X) (i : ℕ) (y : X) → length xs ≤ i → slice_set xs i y ≡ xs
set_past xs i y h = set-past xs i y h

pub posted_not : (z w : ℤ) (hr : HResult) (t : List Mail) → is_S_OK hr ≡ false → posted_to z w hr t ≡ t
posted_not (pos m) w hr t e = ap (λ (b : Bool). changed_at (where_true b (mail_after (Brings w))) m no_mail t) e
posted_not (negsuc m) w hr t e = refl

pub posted_none : (z w : ℤ) (hr : HResult) (t : List Mail) → natural z ≡ None → posted_to z w hr t ≡ t
posted_none (pos m) w hr t e = absurd cc
posted_none (negsuc m) w hr t e = refl

pub posted_some : (z w : ℤ) (hr : HResult) (t : List Mail) (n : ℕ) → natural z ≡ Some n → is_S_OK hr ≡ true → posted_to z w hr t ≡ slice_set t n (mail_after (Brings w) (slice_index_or t n no_mail))
posted_some (pos m) w hr t n e g =
    ap (λ (b : Bool). changed_at (where_true b (mail_after (Brings w))) m no_mail t) g ∙ ap (λ (k : ℕ). slice_set t k (mail_after (Brings w) (slice_index_or t k no_mail))) (let q : m ≡ n = cc in q)
posted_some (negsuc m) w hr t n e g = absurd cc

pub quit_not : (z : ℤ) (hr : HResult) (t : List Bool) → is_S_OK hr ≡ false → quit_to z hr t ≡ t
quit_not (pos m) hr t e = ap (λ (b : Bool). changed_at (where_true b (λ (x : Bool). true)) m false t) e
quit_not (negsuc m) hr t e = refl

pub quit_none : (z : ℤ) (hr : HResult) (t : List Bool) → natural z ≡ None → quit_to z hr t ≡ t
quit_none (pos m) hr t e = absurd cc
quit_none (negsuc m) hr t e = refl

pub quit_some : (z : ℤ) (hr : HResult) (t : List Bool) (n : ℕ) → natural z ≡ Some n → is_S_OK hr ≡ true → quit_to z hr t ≡ slice_set t n true
quit_some (pos m) hr t n e g = ap (λ (b : Bool). changed_at (where_true b (λ (x : Bool). true)) m false t) g ∙ ap (λ (k : ℕ). slice_set t k true) (let q : m ≡ n = cc in q)
quit_some (negsuc m) hr t n e g = absurd cc

-- The row of a lane whose innermost opener was closed.
pub popped_row : {X : Type 0} (xs : List (List X)) (i : ℕ) → slice_index_or (slice_set xs i (without_first (slice_index_or xs i []))) i [] ≡ without_first (slice_index_or xs i [])
popped_row [] i = refl
popped_row (x ∷ xs) zero = refl
popped_row (x ∷ xs) (suc i) = popped_row xs i

pub posted_seen : (l : ℕ) (z w : ℤ) (hr : HResult) (t : List Mail) → posted_to z w hr t ≡ changed_at (mail_change (deed.Post z w hr)) (mail_lane l (deed.Post z w hr)) no_mail t
posted_seen l (pos m) w hr t = refl
posted_seen l (negsuc m) w hr t = refl

pub quit_seen : (l : ℕ) (own : Bool) (z : ℤ) (hr : HResult) (t : List Bool) → quit_to z hr t ≡ changed_at (quit_change own (deed.Quit z hr)) (quit_lane l (deed.Quit z hr)) false t
quit_seen l own (pos m) hr t = refl
quit_seen l own (negsuc m) hr t = refl

-- ---- the tables in rows that say what has room

read-some : {X Y : Type 0} (f : X → Y) (xs : List X) (i : ℕ) (x : X) (e : Y) → slice_get xs i ≡ Some x → slice_index_or (map f xs) i e ≡ f x
read-some f [] i x e q = absurd cc
read-some f (y ∷ ys) zero x e q = ap f (let z : y ≡ x = cc in z)
read-some f (y ∷ ys) (suc i) x e q = read-some f ys i x e q

read-none : {X Y : Type 0} (f : X → Y) (xs : List X) (i : ℕ) (e : Y) → slice_get xs i ≡ None → slice_index_or (map f xs) i e ≡ e
read-none f [] i e q = refl
read-none f (y ∷ ys) zero e q = absurd cc
read-none f (y ∷ ys) (suc i) e q = read-none f ys i e q

pub openers_set : (t : List OpenerRows) (i : ℕ) (r : OpenerRows) → openers_in (slice_set t i r) ≡ slice_set (openers_in t) i r.openers
openers_set t i r = map-set (λ (r : OpenerRows). r.openers) t i r

pub openers_at : (t : List OpenerRows) (i : ℕ) → slice_index_or (openers_in t) i [] ≡ (slice_index_or t i no_opener).openers
openers_at t i = read_map (λ (r : OpenerRows). r.openers) t i no_opener

pub openers_same : (t : List OpenerRows) (i : ℕ) (r d : OpenerRows) → r.openers ≡ (slice_index_or t i d).openers → openers_in (slice_set t i r) ≡ openers_in t
openers_same t i r d e = map-set_same (λ (r : OpenerRows). r.openers) t i r d e

pub openers_some : (t : List OpenerRows) (i : ℕ) (r : OpenerRows) → slice_get t i ≡ Some r → slice_index_or (openers_in t) i [] ≡ r.openers
openers_some t i r q = read-some (λ (r : OpenerRows). r.openers) t i r [] q

pub openers_none : (t : List OpenerRows) (i : ℕ) → slice_get t i ≡ None → slice_index_or (openers_in t) i [] ≡ []
openers_none t i q = read-none (λ (r : OpenerRows). r.openers) t i [] q

pub openers_more : (t : List OpenerRows) (r : OpenerRows) → openers_in (t ++ r ∷ []) ≡ openers_in t ++ r.openers ∷ []
openers_more t r = map-append (λ (r : OpenerRows). r.openers) t (r ∷ [])

pub mail_set : (t : List MailRows) (i : ℕ) (r : MailRows) → mail_in (slice_set t i r) ≡ slice_set (mail_in t) i r.mail
mail_set t i r = map-set (λ (r : MailRows). r.mail) t i r

pub mail_at : (t : List MailRows) (i : ℕ) → slice_index_or (mail_in t) i no_mail ≡ (slice_index_or t i no_word).mail
mail_at t i = read_map (λ (r : MailRows). r.mail) t i no_word

pub mail_same : (t : List MailRows) (i : ℕ) (r d : MailRows) → r.mail ≡ (slice_index_or t i d).mail → mail_in (slice_set t i r) ≡ mail_in t
mail_same t i r d e = map-set_same (λ (r : MailRows). r.mail) t i r d e

pub mail_some : (t : List MailRows) (i : ℕ) (r : MailRows) → slice_get t i ≡ Some r → slice_index_or (mail_in t) i no_mail ≡ r.mail
mail_some t i r q = read-some (λ (r : MailRows). r.mail) t i r no_mail q

pub mail_none : (t : List MailRows) (i : ℕ) → slice_get t i ≡ None → slice_index_or (mail_in t) i no_mail ≡ no_mail
mail_none t i q = read-none (λ (r : MailRows). r.mail) t i no_mail q

pub mail_more : (t : List MailRows) (r : MailRows) → mail_in (t ++ r ∷ []) ≡ mail_in t ++ r.mail ∷ []
mail_more t r = map-append (λ (r : MailRows). r.mail) t (r ∷ [])
