-- A deed looks at the filter of one call at most.
use Rattle.std.proofs.Common.{◌≡◌, refl, ap, ℕ, zero, suc, pos, negsuc, Bool}
use Rattle.com_model.specs.declared.deeds.Deed.{Deed}
use Rattle.com_model.specs.declared.deeds.Deed.TheVariants as deed
use Rattle.com_model.specs.declared.deeds.Route.TheVariants as route
use Rattle.com_model.specs.declared.deeds.Entry.{Entry}
use Rattle.com_model.specs.declared.scenario.Scenario.{Scenario}
use Rattle.com_model.specs.Endings.{EndEffect, end_effect}
use Rattle.com_model.specs.Calls.{admits, issues, lane_of}
use Rattle.com_model.specs.Books.{out_values}
use Rattle.std.specs.Prelude.{List, None, is_some}
use Rattle.com_base.specs.declared.value.Value.{Value}
use Rattle.com_model.specs.State.{State, after, tables_after, refusals_after, endings_by, unread_by, grown, issued_by, with_books, scene_next, books_next, filter_in, issue_in, is_marshalled_by, books_in, sight_of}
use Rattle.com_state.specs.Parts.{calls_of, objects_of, calls_after}
use Rattle.com_state.specs.After.{filtered_by, joined_after, moment_in, issuing_in}

one-filter : (f : ℕ → Bool) (d : Deed) → end_effect f d ≡ end_effect (λ c. filtered_by f d) d
one-filter f (deed.Out c o i m route.Refused k bytes) = refl
one-filter f (deed.Out c o i m r k bytes) = refl
one-filter f (deed.Retry c (negsuc n)) = refl
one-filter f (deed.Retry c (pos n)) = refl
one-filter f (deed.Pending c w zero) = refl
one-filter f (deed.Pending c w (suc n)) = refl
one-filter f _ = refl

-- The state after an entry, with what it does to the answers of calls.
abbrev ended : Scenario → State → Entry → EndEffect → State
ended s st e x =
    let su : State = record (tables_after s st e) { endings = endings_by st x (grown (issued_by e) None st.endings) } in
    let vs : List (List Value) = unread_by st (admits e.lane e.deed) x (grown (issued_by e) (out_values s (books_in st) (is_marshalled_by (issues e.lane e.deed)) ((sight_of s st).act e.lane)) st.unread) in
    with_books s (record su { refusals = refusals_after s st e; unread = vs }) (scene_next s st su e) (books_next s st su (scene_next s st su e) e)

pub joined : (s : Scenario) (st : State) (l : ℕ) (d : Deed) → after s st l d ≡ joined_after s st (record { lane = l; deed = d })
joined s st l d = ap (ended s st (record { lane = l; deed = d })) (one-filter (λ c. is_some (filter_in s st (lane_of (issue_in st c)))) d)

pub calls-joined : (s : Scenario) (st : State) (l : ℕ) (d : Deed) → let e : Entry = record { lane = l; deed = d } in calls_of (after s st l d) ≡ calls_after (objects_of st) (moment_in s st e) (issuing_in s st e) (calls_of st) e
calls-joined s st l d = ap calls_of (joined s st l d)
