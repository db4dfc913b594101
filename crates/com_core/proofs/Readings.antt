-- What is read of the parts is read of the state that they are.
use Rattle.std.proofs.Common.{◌≡◌, ℕ, refl, ap, sym, ◌∙◌}
use Rattle.std.specs.Prelude.{Bool, true, false, not, cond, ◌&&◌, Option, Some, None, is_none, is_some, List}
use Rattle.com_refs_books.specs.Changes.{Books}
use Rattle.com_calls.specs.Kept.{IsNamed}
use Rattle.com_model.specs.declared.scenario.Scenario.{Scenario}
use Rattle.com_model.specs.Ends.{finished_by}
use Rattle.com_model.specs.declared.keeps.Opener.{Opener}
use Rattle.com_model.specs.declared.keeps.Opener.TheVariants.{Pumps, Waits, Enters}
use Rattle.com_model.specs.Rules.{can_step, no_lane_can, ruled, stepped, tick_time, top}
use Rattle.com_model.specs.Sight.{Sight}
use Rattle.com_model.specs.State.{State, books_in, sight_of}
use Rattle.com_model.specs.Openers.{is_body}
use Rattle.com_parts.specs.Tables.{PartTables}
use Rattle.com_view.specs.Seen.{sight_by}
use Rattle.com_view.proofs.Sights.{reads_state as sight_read}
use Rattle.com_runtime.specs.declared.runtime.Standing.{Standing}
use Rattle.com_runtime.specs.declared.runtime.Standing.TheVariants as standing
use Rattle.com_runtime.specs.Standings.{can_step_in, standing_of}
use Rattle.com_runtime.specs.Jobs.{next_by, next_in}
use Rattle.com_view.specs.declared.next.Next.{Next as Seeing}
use Rattle.com_view.specs.Nexts.{kind_of}
use Rattle.com_view.specs.Standings.{standing_by}
use Rattle.com_core.specs.Nexts.{next_as}
use Rattle.com_core.specs.Stands.{IsReached, seen_by, state_read}
use Rattle.com_core.proofs.Entries.{reads_state}

-- Whatever the books are, the rules look at those of the state.
sight-is : (s : Scenario) (p : PartTables) (b : Books) (fallen : List ℕ) (clock : ℕ) → IsReached s (state_read s p b fallen clock) → IsNamed p.objects p.calls
    → sight_by (seen_by s p fallen clock) (books_in (state_read s p b fallen clock)) ≡ sight_of s (state_read s p b fallen clock)
sight-is s p b fallen clock r n =
    let st : State = state_read s p b fallen clock in
    sym (sight_read (seen_by s p fallen clock) (books_in st) st
    (reads_state s st p (books_in st) fallen clock r
    (record { lanes = refl; objects = refl; calls = refl; scene = refl; entries = refl; books = refl; fallen_is = refl; clock_is = refl }) n))

pub can_step_read : (s : Scenario) (p : PartTables) (b : Books) (fallen : List ℕ) (clock l : ℕ) (x : Bool) → IsNamed p.objects p.calls
    → ((c : Books) → x ≡ can_step s (sight_by (seen_by s p fallen clock) c) l) → IsReached s (state_read s p b fallen clock) → x ≡ can_step_in s (state_read s p b fallen clock) l
unfolding can_step_in
can_step_read s p b fallen clock l x n e r =
    e (books_in (state_read s p b fallen clock)) ∙ ap (λ (v : Sight). can_step s v l) (sight-is s p b fallen clock r n)

-- By whether all is done, no lane can step, and a time is waited for.
standing-by : (f c : Bool) (t : Option ℕ)
    → cond f standing.Finished (cond c (cond (is_none t) standing.Stuck standing.Ticks) standing.Runs)
    ≡ cond f standing.Finished (cond (c && (is_none t && not f)) standing.Stuck (cond c standing.Ticks standing.Runs))
standing-by true c t = refl
standing-by false true None = refl
standing-by false true (Some x) = refl
standing-by false false t = refl

standing-same : (s : Scenario) (st : State) → standing_by s (sight_of s st) ≡ standing_of s st
unfolding standing_of
standing-same s st = standing-by (finished_by s (sight_of s st)) (no_lane_can s (sight_of s st)) (tick_time (sight_of s st))

pub standing_read : (s : Scenario) (p : PartTables) (b : Books) (fallen : List ℕ) (clock : ℕ) (x : Standing) → IsNamed p.objects p.calls
    → ((c : Books) → x ≡ standing_by s (sight_by (seen_by s p fallen clock) c)) → IsReached s (state_read s p b fallen clock) → x ≡ standing_of s (state_read s p b fallen clock)
standing_read s p b fallen clock x n e r =
    e (books_in (state_read s p b fallen clock)) ∙ ap (λ (v : Sight). standing_by s v) (sight-is s p b fallen clock r n) ∙ standing-same s (state_read s p b fallen clock)

-- ---- what a lane does next

kinds-same : (ruled over : Bool) → next_as (kind_of false ruled over) ≡ next_by false ruled over
kinds-same true over = refl
kinds-same false true = refl
kinds-same false false = refl

next-same : (s : Scenario) (v : Sight) (l : ℕ) (t : Option Opener) (over : Bool) → next_as (kind_of (is_body t) (is_some (ruled s v l)) over) ≡ next_by (is_body t) (is_some (stepped s v l t)) over
next-same s v l None over = kinds-same (is_some (ruled s v l)) over
next-same s v l (Some (Pumps n)) over = kinds-same (is_some (ruled s v l)) over
next-same s v l (Some (Waits c)) over = kinds-same (is_some (ruled s v l)) over
next-same s v l (Some (Enters c o a)) over = refl

next-here : (s : Scenario) (st : State) (l : ℕ) (x : Seeing) → x ≡ kind_of (is_body (top (sight_of s st) l)) (is_some (ruled s (sight_of s st) l)) ((sight_of s st).over l) → next_as x ≡ next_in s st l
unfolding next_in can_step_in
next-here s st l x e = ap next_as e ∙ next-same s (sight_of s st) l (top (sight_of s st) l) ((sight_of s st).over l)

pub next_read : (s : Scenario) (p : PartTables) (b : Books) (fallen : List ℕ) (clock l : ℕ) (x : Seeing) → IsNamed p.objects p.calls
    → ((c : Books) → x ≡ kind_of (is_body (top (sight_by (seen_by s p fallen clock) c) l)) (is_some (ruled s (sight_by (seen_by s p fallen clock) c) l)) ((sight_by (seen_by s p fallen clock) c).over l))
    → IsReached s (state_read s p b fallen clock) → next_as x ≡ next_in s (state_read s p b fallen clock) l
next_read s p b fallen clock l x n e r =
    next-here s (state_read s p b fallen clock) l x
    (e (books_in (state_read s p b fallen clock))
    ∙ ap (λ (v : Sight). kind_of (is_body (top v l)) (is_some (ruled s v l)) (v.over l)) (sight-is s p b fallen clock r n))
