-- What a deed changes in single columns of the lanes, by the parts of the deed that a column looks at.
use Rattle.std.specs.Prelude.{ℕ, ◌+◌, ◌≤◌, ◌<◌, ◌^◌, ◌≡◌, ℤ, pos, negsuc, Bool, true, false, List, [], ◌∷◌, length}
use Rattle.std.specs.Prelude.{Option, Some, None, slice_index_or, slice_set}
use Rattle.com_base.specs.declared.apartments.TheConstants.{FIRST_STA}
use Rattle.com_base.specs.declared.hresult.HResult.{HResult}
use Rattle.com_model.specs.declared.deeds.Deed.{Deed}
use Rattle.com_model.specs.declared.keeps.Opener.{Opener}
use Rattle.com_model.specs.declared.keeps.Opener.TheVariants.{Pumps}
use Rattle.com_model.specs.Answers.{is_S_OK}
use Rattle.com_model.specs.Lists.{where_true, without_first}
use Rattle.com_model.specs.Apartments.{makes_sta, ends_sta, with_last}
use Rattle.com_model.specs.Waiting.{Mail, no_mail, mail_after, Brings}
use Rattle.com_model.specs.State.{changed_at, made_change}
use Rattle.com_lane_lists.specs.Apartments.{StaTables}
use Rattle.com_state.specs.Parts.{LaneTables, openers_at, served_at}

-- A natural number, where it is one.
abbrev pub natural : ℤ → Option ℕ
natural (pos n) = Some n
natural (negsuc n) = None

-- The words after a Post to a lane.
abbrev pub posted_to : ℤ → (word : ℤ) → HResult → List Mail → List Mail
posted_to (pos m) w hr t = changed_at (where_true (is_S_OK hr) (mail_after (Brings w))) m no_mail t
posted_to (negsuc m) w hr t = t

-- The quits after a Quit to a lane.
abbrev pub quit_to : ℤ → HResult → List Bool → List Bool
quit_to (pos m) hr t = changed_at (where_true (is_S_OK hr) (λ b. true)) m false t
quit_to (negsuc m) hr t = t

-- The number, if there is one, is this one.
abbrev pub IsNumber : ℕ → Option ℕ → Type 0
IsNumber n None = Unit {0}
IsNumber n (Some m) = m ≡ n

-- The number, if there is one, is below this one.
abbrev pub IsBelow : ℕ → Option ℕ → Type 0
IsBelow n None = Unit {0}
IsBelow n (Some m) = m < n

-- The STA that a deed makes is the next one, and the one that it ends is among those that were made, or the
-- host's. It is so with each deed that the rules give.
pub record NamesStas (t : LaneTables) (d : Deed) : Type 0 where
  pub next : IsNumber (length t.stas + FIRST_STA) (makes_sta d)
  pub made : IsBelow (length t.stas + FIRST_STA) (ends_sta d)

-- One more entry can be counted in each lane.
pub record HasRoom (t : LaneTables) : Type 0 where
  pub served : (l : ℕ) → served_at t l + 1 < 2 ^ 64
  pub counts : (l : ℕ) → slice_index_or t.counts l 0 + 1 < 2 ^ 32
  pub posted : (l : ℕ) → (slice_index_or t.mail l no_mail).posted + 1 < 2 ^ 64
  pub stas : length t.stas + 4 ≤ 2 ^ 32

-- The apartments after a lane makes one, if it does.
abbrev pub stas_made : StaTables → (lane : ℕ) → Option ℕ → StaTables
stas_made t l o =
    record { made = changed_at (made_change o) l [] t.made; stas = with_last t.stas o; ended = t.ended }

-- How many bodies the pump of each lane has admitted, after one more is opened in a lane: a new pump none.
abbrev pub served_opened : (lane : ℕ) → Opener → List ℕ → List ℕ
served_opened l (Pumps bound) t = slice_set t l 0
served_opened l _ t = t

-- The lanes after one more is opened in a lane.
abbrev pub opened : LaneTables → (lane : ℕ) → Opener → LaneTables
opened t l o = record t {
  openers = slice_set t.openers l (o ∷ openers_at t l);
  served = served_opened l o t.served;
}

-- The lanes after the innermost of a lane is closed.
abbrev pub closed : LaneTables → (lane : ℕ) → LaneTables
closed t l = record t { openers = slice_set t.openers l (without_first (openers_at t l)) }
