-- What holds of every stuck history, whatever it waits for.
use Rattle.std.specs.Prelude.{◌≡◌, ℕ, Bool, true, false, List, [], ◌∷◌, Option, Some, None, is_some}
use Rattle.std.specs.Prelude.{option_and_then}
use Rattle.com_model.specs.declared.deeds.Entry.{Entry}
use Rattle.com_model.specs.declared.keeps.Opener.{Opener}
use Rattle.com_model.specs.declared.keeps.Opener.TheVariants as opener
use Rattle.com_model.specs.declared.scenario.Scenario.{Scenario}
use Rattle.com_model.specs.Lists.{any_of, first, is_empty, is_member}
use Rattle.com_model.specs.Tables.{Pool, lane_sort}
use Rattle.com_model.specs.Apartments.{mta}
use Rattle.com_model.specs.Openers.{openers}
use Rattle.com_model.specs.Calls.{admitted, issue, is_post, route_of, target}
use Rattle.com_model.specs.Endings.{ending}
use Rattle.com_model.specs.Objects.{named}
use Rattle.com_model.specs.Waiting.{inbox}
use Rattle.com_waits.specs.declared.reasons.Why.{Why}
use Rattle.com_waits.specs.declared.reasons.Why.TheVariants as reason
use Rattle.com_waits.specs.Reasons.{why}
use Rattle.com_waits.specs.Chains.{lane_named}

-- On top of a lane stands nothing, a pump, or an Out of route post.
abbrev pub TopWaits : List Entry → Option Opener → Type 0
TopWaits h None = Unit {0}
TopWaits h (Some (opener.Pumps n)) = Unit {0}
TopWaits h (Some (opener.Waits c)) = is_post (route_of (issue h c)) ≡ true
TopWaits h (Some (opener.Enters c o a)) = ⊥

abbrev pub TopsWait : Scenario → List Entry → Type 0
TopsWait s h = (l : ℕ) → TopWaits h (first (openers h l))

-- A call on top has no answer; and where it was not entered, it stands in the inbox of its target's
-- apartment.
pub record CallWaits (s : Scenario) (h : List Entry) (c : ℕ) : Type 0 where
  pub unanswered : ending s h c ≡ None
  pub queued : admitted h c ≡ None → is_member c (inbox s h (named h (target h c))) ≡ true

abbrev pub CallsWait : Scenario → List Entry → Type 0
CallsWait s h = (l c : ℕ) → first (openers h l) ≡ Some (opener.Waits c) → CallWaits s h c

-- Something is open in the lane.
abbrev pub IsOpen : List Entry → ℕ → Type 0
IsOpen h l = is_some (first (openers h l)) ≡ true

-- Each lane with an opener has a reason.
abbrev pub HasReasons : Scenario → List Entry → Type 0
HasReasons s h = (l : ℕ) → IsOpen h l → is_some (why s h l) ≡ true

-- The lane for which a lane waits.
abbrev pub leads : Scenario → List Entry → ℕ → Option ℕ
leads s h l = option_and_then lane_named (why s h l)

-- Each lane of the list waits for the next one, and the last one for this lane.
abbrev pub RunsTo : Scenario → List Entry → List ℕ → ℕ → Type 0
RunsTo s h [] m = ⊥
RunsTo s h (l ∷ []) m = leads s h l ≡ Some m
RunsTo s h (l ∷ k ∷ ls) m = (leads s h l ≡ Some k) × RunsTo s h (k ∷ ls) m

-- A cycle: the last lane waits for the first one.
abbrev pub IsRing : Scenario → List Entry → List ℕ → Type 0
IsRing s h [] = ⊥
IsRing s h (l ∷ ls) = RunsTo s h (l ∷ ls) l

-- Whether a reason is that a call waits for a lane of the pool.
abbrev pub is_pool : Option Why → Bool
is_pool None = false
is_pool (Some reason.Message) = false
is_pool (Some (reason.Body c m)) = false
is_pool (Some (reason.Pool c m)) = true

-- Whether a lane waits for the pool to take its call.
abbrev pub is_at_pool : Scenario → List Entry → ℕ → Bool
is_at_pool s h l = is_pool (why s h l)

-- Every cycle has a lane that waits for the pool.
abbrev pub RingsReachPool : Scenario → List Entry → Type 0
RingsReachPool s h = (ls : List ℕ) → IsRing s h ls → any_of (is_at_pool s h) ls ≡ true

-- The pool is exhausted: a call waits for it, and each of its lanes has an opener.
pub record IsExhausted (s : Scenario) (h : List Entry) : Type 0 where
  pub waits : is_empty (inbox s h mta) ≡ false
  pub busy : (l : ℕ) → lane_sort s l ≡ Pool → IsOpen h l

-- Where a lane waits for the pool, and where lanes wait for each other in a cycle, the pool is exhausted.
abbrev pub PoolExhausts : Scenario → List Entry → Type 0
PoolExhausts s h = (l : ℕ) → is_at_pool s h l ≡ true → IsExhausted s h

abbrev pub RingsExhaust : Scenario → List Entry → Type 0
RingsExhaust s h = (ls : List ℕ) → IsRing s h ls → IsExhausted s h

-- Where a lane waits for another one, and not for a message, the pool is exhausted.
abbrev pub CallsExhaust : Scenario → List Entry → Type 0
CallsExhaust s h = (l m : ℕ) → leads s h l ≡ Some m → IsExhausted s h
