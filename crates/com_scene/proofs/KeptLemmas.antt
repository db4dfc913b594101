-- What every entry keeps of the tables.
use Rattle.std.proofs.Common.{ℕ, zero, suc, ◌+◌, Bool, true, false, List, [], ◌∷◌, Option, Some, None, All, arith, fold, refl, ◌∙◌, replicate, slice_set, slice_index_or}
use Rattle.std.proofs.lemmas.List.{length-set}
use Rattle.std.proofs.lemmas.List.Elements.{All-nil, All-set, All-push, All-tail}
use Rattle.com_body.specs.declared.actions.Action.{Action}
use Rattle.com_body.specs.declared.actions.Action.TheVariants as action
use Rattle.com_body.specs.declared.operands.Destination.{Destination}
use Rattle.com_body.specs.declared.operands.Destination.TheVariants as destination
use Rattle.com_body.specs.declared.frame.Outcome.{Outcome}
use Rattle.com_body.specs.Bodies.{IsDestination}
use Rattle.com_body.specs.Frames.{FrameView, entered, with_register, with_slot}
use Rattle.com_model.specs.declared.deeds.Deed.{Deed}
use Rattle.com_model.specs.declared.deeds.Deed.TheVariants as deed
use Rattle.com_model.specs.declared.deeds.Entry.{Entry}
use Rattle.com_model.specs.Answers.{S_OK}
use Rattle.com_model.specs.Apartments.{ends_sta}
use Rattle.com_model.specs.Frames.{Actor as Acting, Body, Script, Nobody, Write as Writing, ToRegister, ToSlot, ToLink, ToBuffer, writes, to_answer, to_destination}
use Rattle.com_model.specs.Lists.{tabulated}
use Rattle.com_model.specs.State.{SceneTables, grown, issued_by}
use Rattle.com_state.specs.SceneParts.{script_at, destination_at, with_rows, row_written, rows_framed, row_wanted, rows_acted, rows_arrived, links_cut, rows_after}
use Rattle.com_scene.specs.Kept.{HasSlots, FitsActor, IsKept, IsStep}
use Rattle.com_scene.specs.Ranges.{WritesInRange}
use Rattle.com_scene.specs.Scenes.{new_scene}

All_at : {X : Type 0} (P : X → Type 0) (xs : List X) (i : ℕ) (d : X) → P d → All P xs → P (slice_index_or xs i d)
All_at P [] i d p a = p
All_at P (x ∷ xs) zero d p a = a 0 d (omega arith)
All_at P (x ∷ xs) (suc i) d p a = All_at P xs i d p (All-tail P x xs a)

-- A script has 8 slots, and a destination is in range, also beyond the tables.
pub script_slots : (t : SceneTables) (l : ℕ) → IsKept t → HasSlots (script_at t l)
script_slots t l k = All_at HasSlots t.scripts l (entered []) refl k.slots

pub destination_in_range : (t : SceneTables) (c : ℕ) → IsKept t → IsDestination (destination_at t c)
destination_in_range t c k = All_at IsDestination t.destinations c destination.Nowhere tt k.destinations

pub script_kept : (t : SceneTables) (l : ℕ) (f : FrameView) → HasSlots f → IsKept t → IsKept (record t { scripts = slice_set t.scripts l f })
script_kept t l f h k = record { slots = All-set HasSlots t.scripts l f h k.slots; destinations = k.destinations }

written_kept : (a : Acting) (t : SceneTables) (w : Writing) → IsKept t → IsKept (row_written a t w)
written_kept (Body c o) t (ToRegister r v) k = record { slots = k.slots; destinations = k.destinations }
written_kept (Body c o) t (ToSlot n held) k = record { slots = k.slots; destinations = k.destinations }
written_kept (Body c o) t (ToLink n held) k = record { slots = k.slots; destinations = k.destinations }
written_kept (Body c o) t (ToBuffer p bytes) k = record { slots = k.slots; destinations = k.destinations }
written_kept (Script l) t (ToRegister r v) k = script_kept t l (with_register (script_at t l) r v) (script_slots t l k) k
written_kept (Script l) t (ToSlot n held) k =
    script_kept t l (with_slot (script_at t l) n held) (length-set (script_at t l).slots n held ∙ script_slots t l k) k
written_kept (Script l) t (ToLink n held) k = k
written_kept (Script l) t (ToBuffer p bytes) k = record { slots = k.slots; destinations = k.destinations }
written_kept Nobody t w k = k

all_written_kept : (a : Acting) (t : SceneTables) (ws : List Writing) → IsKept t → IsKept (fold (row_written a) t ws)
all_written_kept a t [] k = k
all_written_kept a t (w ∷ ws) k = all_written_kept a (row_written a t w) ws (written_kept a t w k)

framed_kept : (a : Acting) (r : Outcome) (t : SceneTables) → FitsActor a r.frame → IsKept t → IsKept (rows_framed a r t)
framed_kept (Body c o) r t h k = record { slots = k.slots; destinations = k.destinations }
framed_kept (Script l) r t h k = script_kept t l r.frame h k
framed_kept Nobody r t h k = k

wanted_kept : (x : Action) (d : Deed) (t : SceneTables) → WritesInRange x → IsKept t → IsKept (row_wanted x d t)
wanted_kept (action.Call held i m args to) (deed.Out c o j n r kk bytes) t h k =
    record { slots = k.slots; destinations = All-set IsDestination t.destinations c to h k.destinations }
wanted_kept _ _ t h k = k

pub acted_kept : (a : Acting) (r : Option Outcome) (d : Deed) (t : SceneTables) → IsStep a r → IsKept t → IsKept (rows_acted a r d t)
acted_kept a None d t s k = k
acted_kept a (Some r) d t s k =
    wanted_kept r.action d _ s.1 (all_written_kept a (rows_framed a r t) (writes r.action d) (framed_kept a r t s.0 k))

grown_kept : (b : Bool) (xs : List Destination) → All IsDestination xs → All IsDestination (grown b destination.Nowhere xs)
grown_kept true xs a = All-push IsDestination xs destination.Nowhere a tt
grown_kept false xs a = a

pub rows_kept : (e : Entry) (t : SceneTables) → IsKept t → IsKept (with_rows e t)
rows_kept e t k = record { slots = k.slots; destinations = grown_kept (issued_by e) t.destinations k.destinations }

arrived_kept : (b : Acting) (l : ℕ) (d : Deed) (t : SceneTables) → IsKept t → IsKept (rows_arrived b l d t)
arrived_kept b l (deed.Leave c hr v bytes) t k = record { slots = k.slots; destinations = k.destinations }
arrived_kept b l (deed.Enter c o a n vs) t k = record { slots = k.slots; destinations = k.destinations }
arrived_kept b l (deed.Back c hr v) t k = all_written_kept b t (to_answer hr ∷ to_destination (destination_at t c) v) k
arrived_kept b l deed.EndPump t k = written_kept b t (to_answer S_OK) k
arrived_kept b l (deed.Uninit a zero) t k = script_kept t l (record (script_at t l) { slots = replicate 8 None }) refl k
arrived_kept b l (deed.Final o) t k = record { slots = k.slots; destinations = k.destinations }
arrived_kept b l _ t k = k

cut_kept : (named : ℕ → ℕ) (a : Option ℕ) (t : SceneTables) → IsKept t → IsKept (links_cut named a t)
cut_kept named None t k = k
cut_kept named (Some a) t k = record { slots = k.slots; destinations = k.destinations }

pub after_kept : (named : ℕ → ℕ) (a : Acting) (r : Option Outcome) (b : Acting) (e : Entry) (t : SceneTables) → IsStep a r → IsKept t → IsKept (rows_after named a r b e t)
after_kept named a r b e t s k =
    cut_kept named (ends_sta e.deed) _ (arrived_kept b e.lane e.deed _ (acted_kept a r e.deed (with_rows e t) s (rows_kept e t k)))

all_tabulated : {X : Type 0} (P : X → Type 0) (n : ℕ) (f : ℕ → X) → ((k : ℕ) → P (f k)) → All P (tabulated n f)
all_tabulated P zero f h = All-nil P
all_tabulated P (suc n) f h = All-push P (tabulated n f) (f n) (all_tabulated P n f h) (h n)

pub new_kept : (threads : ℕ) → IsKept (new_scene threads)
new_kept n = record {
  slots = all_tabulated HasSlots (n + 1) (λ l. entered []) (λ l. refl);
  destinations = all_tabulated IsDestination 1 (λ c. destination.Nowhere) (λ c. tt);
}
