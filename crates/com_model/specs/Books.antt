-- Public references over a history: the rows of each entry, and which objects are connected. What a row
-- changes, and what is given back and cut, is said by `Changes` of com_refs_books.
use Rattle.std.specs.Prelude.{ℕ, ◌+◌, pos, Bool, true, false, not, ◌==◌, ◌&&◌, ◌||◌, if◌then◌else◌, List, []}
use Rattle.std.specs.Prelude.{◌∷◌, map, Option, Some, None}
use Rattle.com_base.specs.declared.hresult.HResult.{HResult}
use Rattle.com_base.specs.declared.value.Value.{Value}
use Rattle.com_body.specs.declared.operands.Asked.TheVariants as asked
use Rattle.com_body.specs.declared.actions.Action.{Action}
use Rattle.com_body.specs.declared.actions.Action.TheVariants as action
use Rattle.com_classes.specs.Lookups.{method_at}
use Rattle.com_refs_books.specs.Changes.{Books, no_books, Row, Makes, Takes, Asks, Marshals, Unmarshals, Drops}
use Rattle.com_refs_books.specs.Changes.{Registers, Revokes, marshal_all, entered_rows, made_since, first_of}
use Rattle.com_refs_books.specs.Changes.{given_back, held_outside, cut, held}
use Rattle.com_model.specs.declared.deeds.Deed.{Deed}
use Rattle.com_model.specs.declared.deeds.Deed.TheVariants as deed
use Rattle.com_model.specs.declared.deeds.Entry.{Entry}
use Rattle.com_model.specs.declared.scenario.Scenario.{Scenario}
use Rattle.com_model.specs.Answers.{is_S_OK}
use Rattle.com_model.specs.Lists.{put, is_number, number_or_zero}
use Rattle.com_model.specs.Tables.{parameters}
use Rattle.com_model.specs.Apartments.{running, ends_sta}
use Rattle.com_model.specs.Objects.{Making, makes, named, disconnects}
use Rattle.com_model.specs.Values.{sent_values, carried, result_list}
use Rattle.com_model.specs.Frames.{Scene, scene, act}
use Rattle.com_model.specs.Endings.{ending, is_leave}
use Rattle.com_model.specs.Places.{Ground, ground, places, all_places, direct_places}

-- The values of a call that is issued, as they are sent.
abbrev pub out_values : Scenario → Books → (marshalled : Bool) → Option Action → List Value
out_values s b m (Some (action.Call held i method args to)) =
    sent_values m b.live (parameters (method_at s.classes i method)) args
out_values s b m _ = []

-- The rows of an entry, in their order.
abbrev pub query_row : ℕ → ℕ → ℕ → HResult → List Row
query_row a o i hr = if is_S_OK hr then Asks a o i ∷ [] else []

abbrev pub revoke_row : ℕ → HResult → List Row
revoke_row g hr = if is_S_OK hr then Revokes g ∷ [] else []

-- A Leave that has a reply marshals the reference in its result, if there is one; a Leave without reply
-- marshals nothing.
abbrev pub reply_rows : ℕ → Option Value → Option (List ℕ) → List Row
reply_rows a v None = []
reply_rows a v (Some bytes) = marshal_all a (carried (result_list v))

-- At a Back a result packet is unmarshalled where the answer is its call's Leave, else it goes back.
abbrev pub back_rows : ℕ → (by_leave : Bool) → Option ℕ → List Row
back_rows a by_leave None = []
back_rows a by_leave (Some p) = if by_leave then Unmarshals a p ∷ [] else Drops p ∷ []

-- The rows of an entry, by the lane's action before it and the books that it finds. The apartment is the
-- running one; `by_leave` says of a call that its answer is its Leave. What is refused has no row.
abbrev pub rows : Scenario → (act : Option Action) → (by_leave : ℕ → Bool) → Books → (apartment : ℕ) → Deed
    → List Row
rows s x left b a (deed.Made (Some o) w k (asked.Number i) hr) = Makes a o i ∷ []
rows s x left b a (deed.Query (Some o) (asked.Number i) hr) = query_row a o i hr
rows s x left b a (deed.Marshal (Some p) m (Some r) refs hr bytes) = Marshals a m r.object r.iface ∷ []
rows s x left b a (deed.Unmarshal (Some p) held refs hr) = Unmarshals a p ∷ []
rows s x left b a (deed.DropPacket (Some p) hr) = Drops p ∷ []
rows s x left b a (deed.Register (Some g) (Some r) hr) = Registers r.object r.iface ∷ []
rows s x left b a (deed.Get g (Some r) refs hr) = Takes a r.object r.iface ∷ []
rows s x left b a (deed.Revoke (pos g) hr) = revoke_row g hr
rows s x left b a (deed.Out c o i m r k (Some bytes)) = marshal_all a (carried (out_values s b true x))
rows s x left b a (deed.Enter c o y t vs) = map (λ p. Unmarshals y p) (b.arguments c)
rows s x left b a (deed.Leave c hr v bytes) = reply_rows a v bytes
rows s x left b a (deed.Back c hr v) = back_rows a (left c) (b.result c)
rows s x left b a _ = []

-- An Out and a Leave keep which packets are theirs.
abbrev pub kept : Books → Deed → Books → Books
kept before (deed.Out c o i m r k bytes) after =
    record after { arguments = put c (made_since before after) after.arguments }
kept before (deed.Leave c hr v bytes) after =
    record after { result = put c (first_of (made_since before after)) after.result }
kept before _ after = after

-- An object is connected from its making until the first of: a Disconnect of it, the end of its owner, a
-- moment at which it has no holder; and never again afterwards.
abbrev pub made_by : Option Making → ℕ → Bool
made_by None o = false
made_by (Some m) o = m.object == o

-- Whether an object is connected after a deed: `holders` counts all its places then, and the packets and
-- cookies that hold it.
abbrev pub live_after : Deed → (named : ℕ → ℕ) → (holders : ℕ → ℕ) → (ℕ → Bool) → ℕ → Bool
live_after d named holders live o =
    (made_by (makes d) o || live o)
    && (not (is_number o (disconnects d)) && (not (is_number (named o) (ends_sta d)) && not (holders o == 0)))

-- The books with all rows of the entry, and with what apartments without place give back. Of the steps of an entry only
-- the last is left out, the cut of what is not connected. The places are those after the entry.
abbrev pub most : Scenario → Ground → Scene → (act : Option Action) → (by_leave : ℕ → Bool) → (apartment : ℕ)
    → Deed → Books → Books
most s g w x left a d b =
    given_back g.apartments (places s g w) (kept b d (entered_rows g.owns b (rows s x left b a d)))

-- The books at the end of an entry: what is not connected, by the places and books then, is cut.
abbrev pub closed : Scenario → Ground → Scene → Deed → Books → Books
closed s g w d b = cut (live_after d g.named (λ o. all_places s g w o + held_outside b o) b.live) b

-- The books after a history. Before the first entry nobody holds anything.
abbrev pub books : Scenario → List Entry → Books
books s [] = no_books
books s (e ∷ h) =
    closed s (ground s (e ∷ h)) (scene s (e ∷ h)) e.deed
    (most s (ground s (e ∷ h)) (scene s (e ∷ h)) (act s h e.lane) (λ c. is_leave (ending s h c))
    (number_or_zero (running s h e.lane))
    e.deed (books s h))

-- The holders of an object: its direct places and, as long as it is connected, its proxy places, packets and
-- cookies.
abbrev pub holders_in : Scenario → Ground → Scene → Books → ℕ → ℕ
holders_in s g w b o = if b.live o then all_places s g w o + held_outside b o else direct_places s g w o

-- How many holders an object has after a history. An object without holder is not connected.
abbrev pub holders : Scenario → List Entry → ℕ → ℕ
holders s h o = holders_in s (ground s h) (scene s h) (books s h) o
