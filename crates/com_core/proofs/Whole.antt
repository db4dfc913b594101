-- An entry keeps how many slots the frames of bodies have.
use Rattle.std.proofs.Common.{◌≡◌, ℕ, zero, suc, ◌+◌, ◌-◌, ◌≤◌, Bool, true, false, List, [], ◌∷◌, ◌++◌, Option, Some, None, All, arith, fold, refl, sym, subst, ◌∙◌, replicate, length, slice_set, slice_index_or}
use Rattle.std.proofs.lemmas.List.{length-append, length-replicate, length-set}
use Rattle.std.proofs.lemmas.List.Elements.{All-nil, All-set, All-push, All-tail}
use Rattle.com_base.specs.declared.value.RefValue.{RefValue}
use Rattle.com_base.specs.declared.value.Value.{Value}
use Rattle.com_base.specs.declared.value.Value.TheVariants as value
use Rattle.com_body.specs.declared.actions.Action.{Action}
use Rattle.com_body.specs.declared.actions.Action.TheVariants as action
use Rattle.com_body.specs.declared.frame.Outcome.{Outcome}
use Rattle.com_body.specs.Frames.{FrameView, references, entered, with_register, with_slot}
use Rattle.com_model.specs.declared.deeds.Deed.{Deed}
use Rattle.com_model.specs.declared.deeds.Deed.TheVariants as deed
use Rattle.com_model.specs.declared.deeds.Entry.{Entry}
use Rattle.com_model.specs.Answers.{S_OK}
use Rattle.com_model.specs.Apartments.{ends_sta}
use Rattle.com_model.specs.Frames.{Actor as Acting, Body, Script, Nobody, Write as Writing, ToRegister, ToSlot, ToLink, ToBuffer, writes, to_answer, to_destination}
use Rattle.com_model.specs.State.{SceneTables, grown, issued_by}
use Rattle.com_state.specs.SceneParts.{body_at, destination_at, with_rows, row_written, rows_framed, row_wanted, rows_acted, rows_arrived, links_cut, rows_after}
use Rattle.com_scene.specs.Kept.{HasSlots}
use Rattle.com_scene.specs.Ranges.{FitsDeed}
use Rattle.com_scene.specs.Scenes.{new_scene}
use Rattle.com_reference_moves.specs.Steps.{IsWhole, BodiesWhole, FrameWhole}
use Rattle.com_parts.specs.Changes.{FitsFrame}

abbrev pub Bodies : SceneTables → Type 0
Bodies t = All HasSlots t.bodies

all_at : {X : Type 0} (P : X → Type 0) (xs : List X) (i : ℕ) (d : X) → P d → All P xs → P (slice_index_or xs i d)
all_at P [] i d p a = p
all_at P (x ∷ xs) zero d p a = a 0 d (omega arith)
all_at P (x ∷ xs) (suc i) d p a = all_at P xs i d p (All-tail P x xs a)

pub body_whole : (t : SceneTables) → Bodies t → (c : ℕ) → HasSlots (body_at t c)
body_whole t p c = all_at HasSlots t.bodies c (entered []) refl p

references_few : (vs : List Value) → length (references vs) ≤ length vs
references_few [] = omega arith
references_few (value.Ref held ∷ vs) = let e : length (references vs) ≤ length vs = references_few vs in omega (arith, e)
references_few (_ ∷ vs) = let e : length (references vs) ≤ length vs = references_few vs in omega (arith, e)

filled_up : (held : List (Option RefValue)) (n : ℕ) → length held ≤ n → length (held ++ replicate (n - length held) None) ≡ n
filled_up held n p =
    let nulls : List (Option RefValue) = replicate (n - length held) None in
    let both : length (held ++ nulls) ≡ length held + length nulls = length-append held nulls in
    let more : length nulls ≡ n - length held = length-replicate (n - length held) None in
    omega (arith, both, more, p)

entered_whole : (vs : List Value) → length vs ≤ 4 → HasSlots (entered vs)
entered_whole vs p =
    let few : length (references vs) ≤ length vs = references_few vs in
    filled_up (references vs) _ (omega (arith, few, p))

body_set : (t : SceneTables) (c : ℕ) (f : FrameView) → HasSlots f → Bodies t → All HasSlots (slice_set t.bodies c f)
body_set t c f h p = All-set HasSlots t.bodies c f h p

written_whole : (a : Acting) (t : SceneTables) (w : Writing) → Bodies t → Bodies (row_written a t w)
written_whole (Body c o) t (ToRegister r v) p = body_set t c (with_register (body_at t c) r v) (body_whole t p c) p
written_whole (Body c o) t (ToSlot n held) p =
    body_set t c (with_slot (body_at t c) n held) (length-set (body_at t c).slots n held ∙ body_whole t p c) p
written_whole (Body c o) t (ToLink n held) p = p
written_whole (Body c o) t (ToBuffer b bytes) p = p
written_whole (Script l) t (ToRegister r v) p = p
written_whole (Script l) t (ToSlot n held) p = p
written_whole (Script l) t (ToLink n held) p = p
written_whole (Script l) t (ToBuffer b bytes) p = p
written_whole Nobody t w p = p

all_written_whole : (a : Acting) (t : SceneTables) (ws : List Writing) → Bodies t → Bodies (fold (row_written a) t ws)
all_written_whole a t [] p = p
all_written_whole a t (w ∷ ws) p = all_written_whole a (row_written a t w) ws (written_whole a t w p)

framed_whole : (a : Acting) (r : Outcome) (t : SceneTables) → HasSlots r.frame → Bodies t → Bodies (rows_framed a r t)
framed_whole (Body c o) r t h p = body_set t c r.frame h p
framed_whole (Script l) r t h p = p
framed_whole Nobody r t h p = p

wanted_whole : (x : Action) (d : Deed) (t : SceneTables) → Bodies t → Bodies (row_wanted x d t)
wanted_whole (action.Call held i m args to) (deed.Out c o j n r k bytes) t p = p
wanted_whole _ _ t p = p

acted_whole : (a : Acting) (r : Option Outcome) (d : Deed) (t : SceneTables) → IsWhole r → Bodies t → Bodies (rows_acted a r d t)
acted_whole a None d t s p = p
acted_whole a (Some r) d t s p =
    wanted_whole r.action d _ (all_written_whole a (rows_framed a r t) (writes r.action d) (framed_whole a r t s p))

grown_whole : (b : Bool) (xs : List FrameView) → All HasSlots xs → All HasSlots (grown b (entered []) xs)
grown_whole true xs a = All-push HasSlots xs (entered []) a refl
grown_whole false xs a = a

rows_whole : (e : Entry) (t : SceneTables) → Bodies t → Bodies (with_rows e t)
rows_whole e t p = grown_whole (issued_by e) t.bodies p

arrived_whole : (b : Acting) (l : ℕ) (d : Deed) (t : SceneTables) → FitsDeed d → Bodies t → Bodies (rows_arrived b l d t)
arrived_whole b l (deed.Leave c hr v bytes) t q p = body_set t c (entered []) refl p
arrived_whole b l (deed.Enter c o a n vs) t q p = body_set t c (entered vs) (entered_whole vs q) p
arrived_whole b l (deed.Back c hr v) t q p = all_written_whole b t (to_answer hr ∷ to_destination (destination_at t c) v) p
arrived_whole b l deed.EndPump t q p = written_whole b t (to_answer S_OK) p
arrived_whole b l (deed.Uninit a zero) t q p = p
arrived_whole b l (deed.Final o) t q p = p
arrived_whole b l _ t q p = p

cut_whole : (named : ℕ → ℕ) (a : Option ℕ) (t : SceneTables) → Bodies t → Bodies (links_cut named a t)
cut_whole named None t p = p
cut_whole named (Some a) t p = p

pub after_whole : (named : ℕ → ℕ) (a : Acting) (r : Option Outcome) (b : Acting) (e : Entry) (t : SceneTables) → IsWhole r → FitsDeed e.deed → Bodies t → Bodies (rows_after named a r b e t)
after_whole named a r b e t s q p =
    cut_whole named (ends_sta e.deed) _ (arrived_whole b e.lane e.deed _ q (acted_whole a r e.deed (with_rows e t) s (rows_whole e t p)))

-- The scene after an entry that was made.
pub later_whole : (named : ℕ → ℕ) (a : Acting) (r : Option Outcome) (b : Acting) (e : Entry) (t u : SceneTables)
    → u ≡ rows_after named a r b e t → IsWhole r → FitsDeed e.deed → All HasSlots t.bodies → All HasSlots u.bodies
later_whole named a r b e t u same s q p = subst Bodies (sym same) (after_whole named a r b e t s q p)

pub bodies_whole : (t : SceneTables) → All HasSlots t.bodies → BodiesWhole t
bodies_whole t p = body_whole t p

pub frame_whole : (t : SceneTables) (a : Acting) → All HasSlots t.bodies → FrameWhole t a
frame_whole t (Body c o) p = body_whole t p c
frame_whole t (Script l) p = tt
frame_whole t Nobody p = tt

pub frame_fits : (a : Acting) (r : Option Outcome) → IsWhole r → FitsFrame a r
frame_fits a None s = tt
frame_fits (Body c o) (Some r) s = tt
frame_fits (Script l) (Some r) s = s
frame_fits Nobody (Some r) s = tt

pub new_whole : (threads : ℕ) → All HasSlots (new_scene threads).bodies
new_whole n = All-push HasSlots [] (entered []) (All-nil HasSlots) refl
