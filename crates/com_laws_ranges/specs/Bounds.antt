-- How far the counters of a core can have come, and what each entry that the rules give asks of them.
use Rattle.std.specs.Prelude.{◌≡◌, ℕ, ◌+◌, ◌-◌, ◌*◌, ◌^◌, ◌<◌, ◌≤◌, length, Option, Some, None}
use Rattle.std.specs.Prelude.{slice_index_or}
use Rattle.com_base.specs.declared.limits.TheConstants.{PARAMETER_LIMIT, PUBLIC_REFERENCES}
use Rattle.com_body.specs.declared.frame.Outcome.{Outcome}
use Rattle.com_lanes.specs.Changes.{NamesStas, HasRoom}
use Rattle.com_model.specs.declared.deeds.Deed.{Deed}
use Rattle.com_model.specs.declared.deeds.Deed.TheVariants as deed
use Rattle.com_model.specs.Lists.{number_or_zero}
use Rattle.com_model.specs.Objects.{finals}
use Rattle.com_model.specs.Waiting.{no_mail}
use Rattle.com_model.specs.State.{State, openers_in, served_in, next_sta_in, books_in}
use Rattle.com_objects.specs.Kept.{IsMade}
use Rattle.com_scene.specs.Ranges.{WritesInRange}
use Rattle.com_state.specs.Parts.{lanes_of}

-- Of a state after so many entries: each makes one call, object, STA, cookie or opener at most, and a packet for each
-- parameter of a method, and gives at most the public references that so many packets carry.
pub record Counted (st : State) (n : ℕ) : Type 0 where
  pub calls : length st.issues ≤ n
  pub objects : length st.makings ≤ n
  pub stas : length st.stas ≤ n
  pub causes : st.causes ≤ n
  pub openers : (l : ℕ) → length (openers_in st l) ≤ n
  pub served : (l : ℕ) → served_in st l ≤ n
  pub counts : (l : ℕ) → slice_index_or st.counts l 0 ≤ n
  pub posted : (l : ℕ) → (slice_index_or st.mail l no_mail).posted ≤ n
  pub packets : length (books_in st).packets ≤ PARAMETER_LIMIT * n
  pub cookies : length (books_in st).cookies ≤ n
  pub proxies : (a o i : ℕ) → (books_in st).proxy a o i ≤ PARAMETER_LIMIT * PUBLIC_REFERENCES * n

-- One more of each fits the types that count them, and so many more packets as a method may have parameters.
pub record HasPlace (st : State) : Type 0 where
  pub lanes : HasRoom (lanes_of st)
  pub openers : (l : ℕ) → length (openers_in st l) + 1 < 2 ^ 32
  pub apartments : next_sta_in st + 1 < 2 ^ 32
  pub calls : length st.issues + 1 < 2 ^ 32
  pub causes : st.causes + 1 < 2 ^ 32
  pub objects : length st.makings + 1 < 2 ^ 32
  pub packets : length (books_in st).packets + PARAMETER_LIMIT < 2 ^ 32
  pub cookies : length (books_in st).cookies + 1 < 2 ^ 32

-- A call that waits for a time or is posted again was issued.
abbrev pub IssuedCall : (calls : ℕ) → Deed → Type 0
IssuedCall n (deed.Retry c k) = (1 ≤ c) × (c ≤ n)
IssuedCall n (deed.Again c) = (1 ≤ c) × (c ≤ n)
IssuedCall n _ = Unit {0}

-- An Out issues the next call, on an object that was made or on none.
abbrev pub NextCall : (calls objects : ℕ) → Deed → Type 0
NextCall n k (deed.Out c o i m r x bytes) = (c ≡ n + 1) × (number_or_zero o ≤ k)
NextCall n k _ = Unit {0}

-- An Uninit leaves one initialisation less, and none where there was none.
abbrev pub TakesBack : (count : ℕ) → Deed → Type 0
TakesBack n (deed.Uninit home k) = k ≡ n - 1
TakesBack n _ = Unit {0}

-- What an entry of a lane names is there: the STA that it makes is the next one and the one that it ends was
-- made, the object of a Final was made, the call was issued, and an Out issues the next.
pub record FitsParts (st : State) (l : ℕ) (d : Deed) : Type 0 where
  pub stas : NamesStas (lanes_of st) d
  pub made : IsMade (length st.makings) (finals d)
  pub issued : IssuedCall (length st.issues) d
  pub called : NextCall (length st.issues) (length st.makings) d
  pub takes : TakesBack (slice_index_or st.counts l 0) d

-- The action of a step writes to registers, slots and links that there are.
abbrev pub StepWrites : Option Outcome → Type 0
StepWrites None = Unit {0}
StepWrites (Some r) = WritesInRange r.action
