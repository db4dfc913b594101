-- What is known of a call that is admitted.
use Rattle.std.specs.Prelude.{◌≡◌, refl, ℕ, Bool, true, false, cond, not, ◌==◌, ◌&&◌, List, [], ◌∷◌, Option, Some, None, is_none}
use Rattle.std.proofs.Common.{eqb-true}
use Rattle.com_model.specs.declared.deeds.Entry.{Entry}
use Rattle.com_model.specs.declared.scenario.Scenario.{Scenario}
use Rattle.com_model.specs.Lists.{first}
use Rattle.com_model.specs.Tables.{LaneSort, Thread, Host, Pool, NoLane}
use Rattle.com_model.specs.declared.keeps.Opener.{Opener}
use Rattle.com_model.specs.Apartments.{mta, is_sta}
use Rattle.com_model.specs.Objects.{named}
use Rattle.com_model.specs.Calls.{admitted, target, is_post, route_of}
use Rattle.com_model.specs.Endings.{ending}
use Rattle.com_model.specs.Waiting.{is_queued, phase, postings, waits_in, inbox}
use Rattle.com_model.specs.Sight.{Sight, sight}
use Rattle.com_model.specs.Rules.{top, enters_itself, is_open_to_calls, admits_sta, admits_next}
use Rattle.com_model.proofs.Comes.{first-filter}
use Rattle.com_laws_safety.proofs.Small.{not-true, and-left, and-right, none-of}

-- The first call of an inbox.
pub record First (s : Scenario) (h : List Entry) (a c : ℕ) : Type 0 where
  pub stands : first (inbox s h a) ≡ Some c
  pub named : named h (target h c) ≡ a
  pub queued : is_queued (phase h c) ≡ true
  pub not_entered : admitted h c ≡ None
  pub not_answered : ending s h c ≡ None

pub first-in : (s : Scenario) (h : List Entry) (a c : ℕ) → first (inbox s h a) ≡ Some c → First s h a c
first-in s h a c e =
    let w : waits_in s h a c ≡ true = (first-filter (waits_in s h a) (postings h) c e).0 in
    let r : (is_queued (phase h c) && (is_none (admitted h c) && is_none (ending s h c))) ≡ true = and-right (named h (target h c) == a) _ w in
    let t : (is_none (admitted h c) && is_none (ending s h c)) ≡ true = and-right (is_queued (phase h c)) _ r in
    record {
      stands = e;
      named = eqb-true (named h (target h c)) a (and-left (named h (target h c) == a) _ w);
      queued = and-left (is_queued (phase h c)) _ r;
      not_entered = none-of (admitted h c) (and-left (is_none (admitted h c)) _ t);
      not_answered = none-of (ending s h c) (and-right (is_none (admitted h c)) _ t);
    }

-- Where a lane takes a call from an inbox.
pub data Taken (v : Sight) (l : ℕ) (sort : LaneSort) (c : ℕ) : Type 0 where
  in_pool : sort ≡ Pool → v.openers l ≡ [] → first (v.inbox mta) ≡ Some c → Taken v l sort c
  in_sta : (a : ℕ) → v.home l ≡ Some a → is_sta a ≡ true → is_open_to_calls v sort (top v l) ≡ true → first (v.inbox a) ≡ Some c → Taken v l sort c

sta-taken : (v : Sight) (l a : ℕ) (sort : LaneSort) (c : ℕ) (p q : Bool) → v.home l ≡ Some a → is_sta a ≡ p → is_open_to_calls v sort (top v l) ≡ q → cond (p && q) (first (v.inbox a)) None ≡ Some c → Taken v l sort c
sta-taken v l a sort c true true h p q e = in_sta a h p q e
sta-taken v l a sort c true false h p q e = cc
sta-taken v l a sort c false q h p r e = cc

home-taken : (v : Sight) (l : ℕ) (sort : LaneSort) (c : ℕ) (home : Option ℕ) → v.home l ≡ home → admits_sta v l sort home ≡ Some c → Taken v l sort c
home-taken v l sort c None h e = cc
home-taken v l sort c (Some a) h e = sta-taken v l a sort c (is_sta a) (is_open_to_calls v sort (top v l)) h refl refl e

pool-taken : (v : Sight) (l c : ℕ) (os : List Opener) → v.openers l ≡ os → cond (is_none (first os)) (first (v.inbox mta)) None ≡ Some c → Taken v l Pool c
pool-taken v l c [] h e = in_pool refl h e
pool-taken v l c (o ∷ os) h e = cc

pub next-taken : (v : Sight) (l : ℕ) (sort : LaneSort) (c : ℕ) → admits_next v l sort ≡ Some c → Taken v l sort c
next-taken v l Thread c e = home-taken v l Thread c (v.home l) refl e
next-taken v l Host c e = home-taken v l Host c (v.home l) refl e
next-taken v l Pool c e = pool-taken v l c (v.openers l) refl e
next-taken v l NoLane c e = home-taken v l NoLane c (v.home l) refl e

pub taken-first : (s : Scenario) (h : List Entry) (l : ℕ) (sort : LaneSort) (c : ℕ) → Taken (sight s h) l sort c → (a : ℕ) × First s h a c
taken-first s h l sort c (in_pool p e q) = (mta, first-in s h mta c q)
taken-first s h l sort c (in_sta a p b o q) = (a, first-in s h a c q)

-- A call that its own lane enters has no answer and no Enter, and was not posted.
pub record Own (v : Sight) (c : ℕ) : Type 0 where
  pub not_posted : is_post (route_of (v.issue c)) ≡ false
  pub not_entered : v.admitted c ≡ None
  pub not_answered : v.ending c ≡ None

pub own-enters : (v : Sight) (c : ℕ) → enters_itself v c ≡ true → Own v c
own-enters v c e =
    let t : (is_none (v.admitted c) && is_none (v.ending c)) ≡ true = and-right (not (is_post (route_of (v.issue c)))) _ e in
    record {
      not_posted = not-true (is_post (route_of (v.issue c))) (and-left (not (is_post (route_of (v.issue c)))) _ e);
      not_entered = none-of (v.admitted c) (and-left (is_none (v.admitted c)) _ t);
      not_answered = none-of (v.ending c) (and-right (is_none (v.admitted c)) _ t);
    }
