-- Calls that wait to be entered, words, and quits.
use Rattle.std.specs.Prelude.{ℕ, zero, suc, ◌+◌, ℤ, pos, negsuc, Bool, true, false, not, ◌==◌, ◌&&◌, nat_lt}
use Rattle.std.specs.Prelude.{nat_le, if◌then◌else◌, List, [], ◌∷◌, ◌++◌, Option, Some, None, filter, is_none}
use Rattle.com_base.specs.declared.hresult.HResult.{HResult}
use Rattle.com_filter.specs.declared.TheConstants.{LEAST_DELAY_MS}
use Rattle.com_filter.specs.declared.Verdict.{Verdict}
use Rattle.com_model.specs.declared.deeds.Deed.{Deed}
use Rattle.com_model.specs.declared.deeds.Deed.TheVariants as deed
use Rattle.com_model.specs.declared.deeds.Entry.{Entry}
use Rattle.com_model.specs.declared.deeds.Route.TheVariants as route
use Rattle.com_model.specs.declared.scenario.Scenario.{Scenario}
use Rattle.com_model.specs.Answers.{is_S_OK}
use Rattle.com_model.specs.Lists.{without_first}
use Rattle.com_model.specs.Openers.{Opener, Pumps, openers, served}
use Rattle.com_model.specs.Objects.{named}
use Rattle.com_model.specs.Calls.{admitted, target}
use Rattle.com_model.specs.Clock.{clock}
use Rattle.com_model.specs.Endings.{ending}
pub use Rattle.com_model.specs.declared.keeps.Mark.{Mark}
pub use Rattle.com_model.specs.declared.keeps.Word.{Word}
pub use Rattle.com_model.specs.declared.keeps.Phase.{Phase}
pub use Rattle.com_model.specs.declared.keeps.Phase.TheVariants.{Unposted, Queued, Judged, Delayed, GivenUp}

-- What a deed does to a posted call: an Out by post, an Again, and a Retry from 0 to below `LEAST_DELAY_MS` post
-- it at the inbox's end; a Verdict judges it; a Retry of `LEAST_DELAY_MS` and more lets it wait until the clock has
-- grown by that number; one below 0 gives it up.
pub data PostEffect : Type 0 where
  Posts : (call : ℕ) → PostEffect
  Judges : (call : ℕ) → Verdict → PostEffect
  Delays : (call ms : ℕ) → PostEffect
  GivesUp : (call : ℕ) → PostEffect
  PostsNone : PostEffect

-- What a Retry with this answer does: below 0 it gives the call up, from 0 to below `LEAST_DELAY_MS` it posts it
-- again at once, and from there on it delays it by that many milliseconds.
abbrev pub retries : (call : ℕ) → ℤ → PostEffect
retries c (negsuc n) = GivesUp c
retries c (pos n) = if nat_lt n LEAST_DELAY_MS then Posts c else Delays c n

-- An Out by post, an Again, a Retry and a Verdict act on their call; every other deed acts on none.
abbrev pub post_effect : Deed → PostEffect
post_effect (deed.Out c o i m route.Post k bytes) = Posts c
post_effect (deed.Again c) = Posts c
post_effect (deed.Retry c n) = retries c n
post_effect (deed.Verdict c t v) = Judges c v
post_effect _ = PostsNone

-- Where call c stands after an effect at the clock `now`: a delay ends so many milliseconds later than that,
-- and an effect on another call leaves c as it stood.
abbrev pub phase_after : PostEffect → (now call : ℕ) → Phase → Phase
phase_after (Posts d) t c p = if d == c then Queued else p
phase_after (Judges d v) t c p = if d == c then Judged v else p
phase_after (Delays d ms) t c p = if d == c then Delayed (t + ms) else p
phase_after (GivesUp d) t c p = if d == c then GivenUp else p
phase_after PostsNone t c p = p

-- Where a call stands since its last posting; Unposted where it was never posted.
abbrev pub phase : List Entry → ℕ → Phase
phase [] c = Unposted
phase (e ∷ h) c = phase_after (post_effect e.deed) (clock h) c (phase h c)

-- Whether a call was posted and has no Verdict since: it waits in an inbox, unless it was entered or has its
-- answer.
abbrev pub is_queued : Phase → Bool
is_queued Queued = true
is_queued _ = false

-- The calls in the order of their last posting.
abbrev pub posted_last : PostEffect → List ℕ → List ℕ
posted_last (Posts c) cs = filter (λ d. not (d == c)) cs ++ c ∷ []
posted_last _ cs = cs

-- All calls that were posted, in the order of their last posting, those that were entered or answered too.
abbrev pub postings : List Entry → List ℕ
postings [] = []
postings (e ∷ h) = posted_last (post_effect e.deed) (postings h)

-- The inbox of an apartment: the posted calls to its objects that have no Enter, no answer and no Verdict
-- since their last posting, in the order of that posting.
abbrev pub waits_in : Scenario → List Entry → ℕ → ℕ → Bool
waits_in s h a c =
    named h (target h c) == a && (is_queued (phase h c) && (is_none (admitted h c) && is_none (ending s h c)))

-- The calls that wait for admission to an apartment, the next to be admitted first.
abbrev pub inbox : Scenario → List Entry → ℕ → List ℕ
inbox s h a = filter (waits_in s h a) (postings h)

-- A lane's words, each with its number among all that were posted to the lane, from 1; and for each open Out
-- of the lane the number of the word that it was last asked about, 0 at first: one mark at most for each.
pub record Mail : Type 0 where
  pub posted : ℕ
  pub words : List Word
  pub marks : List Mark

-- The mail of a lane before the first entry: no word, and no mark.
abbrev pub no_mail : Mail
no_mail = record { posted = 0; words = []; marks = [] }

-- The mark of an Out, and 0 where it has none.
abbrev pub mark_of : List Mark → ℕ → ℕ
mark_of [] c = 0
mark_of (m ∷ ms) c = if m.call == c then m.number else mark_of ms c

-- The marks of all Outs but that of call c.
abbrev pub without_mark : ℕ → List Mark → List Mark
without_mark c ms = filter (λ (m : Mark). not (m.call == c)) ms

-- A Post with S_OK brings a word; a Word takes the first; a Pending asks about the first that its Out was not
-- asked about yet, and takes that word where its answer is 2, PENDINGMSG_WAITDEFPROCESS; a Back forgets the
-- mark of its call.
pub data MailEffect : Type 0 where
  Brings : ℤ → MailEffect
  Takes : MailEffect
  Asks : (call answer : ℕ) → MailEffect
  Forgets : (call : ℕ) → MailEffect
  Leaves : MailEffect

abbrev pub brings : ℕ → ℤ → ℤ → HResult → MailEffect
brings l (pos m) w hr = if m == l && is_S_OK hr then Brings w else Leaves
brings l (negsuc m) w hr = Leaves

-- What a deed does to the mail of lane l: a Post in any lane may bring it a word; a Word, a Pending and a
-- Back change it only where they are the lane's own.
abbrev pub mail_effect : ℕ → (own : Bool) → Deed → MailEffect
mail_effect l own (deed.Post m w hr) = brings l m w hr
mail_effect l own (deed.Word w) = if own then Takes else Leaves
mail_effect l own (deed.Pending c w n) = if own then Asks c n else Leaves
mail_effect l own (deed.Back c hr v) = if own then Forgets c else Leaves
mail_effect l own _ = Leaves

-- The first of the words that is numbered above the mark, so that its Out was not asked about it yet; None
-- where there is none.
abbrev pub not_asked : ℕ → List Word → Option Word
not_asked mark [] = None
not_asked mark (w ∷ ws) = if nat_lt mark w.number then Some w else not_asked mark ws

-- The words after a Pending with answer n about word number k: without that word where n is 2, else all.
abbrev pub taken_if : (answer number : ℕ) → List Word → List Word
taken_if n k ws = if n == 2 then filter (λ (w : Word). not (w.number == k)) ws else ws

-- The mail after a Pending of call c with answer n: the mark of c is the number of the word that was asked
-- about, which goes where n is 2. Without such a word nothing changes.
abbrev pub asked_about : ℕ → ℕ → Option Word → Mail → Mail
asked_about c n None m = m
asked_about c n (Some w) m =
    record m {
      words = taken_if n w.number m.words;
      marks = record { call = c; number = w.number } ∷ without_mark c m.marks;
    }

-- The mail after what a deed does to it. A word that is brought gets the next number, and none comes twice.
abbrev pub mail_after : MailEffect → Mail → Mail
mail_after (Brings w) m =
    record m { posted = m.posted + 1; words = m.words ++ record { number = m.posted + 1; word = w } ∷ [] }
mail_after Takes m = record m { words = without_first m.words }
mail_after (Asks c n) m = asked_about c n (not_asked (mark_of m.marks c) m.words) m
mail_after (Forgets c) m = record m { marks = without_mark c m.marks }
mail_after Leaves m = m

-- How many words were posted to a lane in a history, which were not taken, and the marks of its open Outs.
abbrev pub mail : List Entry → ℕ → Mail
mail [] l = no_mail
mail (e ∷ h) l = mail_after (mail_effect l (e.lane == l) e.deed) (mail h l)

-- A pump with a bound ends where that many bodies that it admitted have left.
abbrev pub bound_reached : List Opener → (left : ℕ) → Bool
bound_reached (Pumps zero ∷ os) n = false
bound_reached (Pumps (suc k) ∷ os) n = nat_le (suc k) n
bound_reached _ n = false

-- A quit stands for a lane where a Quit to it with S_OK is younger than the last EndPump that was made
-- because a quit stood. An EndPump by the bound leaves it standing.
pub data QuitEffect : Type 0 where
  Stands : QuitEffect
  Ends : QuitEffect
  LeavesQuit : QuitEffect

abbrev pub quits : ℕ → ℤ → HResult → QuitEffect
quits l (pos m) hr = if m == l && is_S_OK hr then Stands else LeavesQuit
quits l (negsuc m) hr = LeavesQuit

abbrev pub quit_effect : ℕ → (own_by_quit : Bool) → Deed → QuitEffect
quit_effect l own (deed.Quit m hr) = quits l m hr
quit_effect l own deed.EndPump = if own then Ends else LeavesQuit
quit_effect l own _ = LeavesQuit

abbrev pub quit_after : QuitEffect → Bool → Bool
quit_after Stands b = true
quit_after Ends b = false
quit_after LeavesQuit b = b

abbrev pub quit_stands : List Entry → ℕ → Bool
quit_stands [] l = false
quit_stands (e ∷ h) l =
    quit_after (quit_effect l (e.lane == l && not (bound_reached (openers h l) (served h l))) e.deed)
    (quit_stands h l)
