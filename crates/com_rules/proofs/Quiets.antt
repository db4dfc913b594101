-- The entry of an action that sends no values issues no call, answers none and carries nothing.
use Rattle.std.proofs.Common.{◌≡◌, ℕ, ℤ, Bool, true, false, if◌then◌else◌, [], Option, Some, None, Result, Ok, Err, refl}
use Rattle.com_base.specs.declared.hresult.HResult.{HResult}
use Rattle.com_base.specs.declared.value.MarshalMode.{MarshalMode}
use Rattle.com_base.specs.declared.value.Mode.{Mode}
use Rattle.com_base.specs.declared.value.RefValue.{RefValue}
use Rattle.com_body.specs.declared.actions.Action.{Action}
use Rattle.com_body.specs.declared.actions.Action.TheVariants as action
use Rattle.com_body.specs.declared.operands.Asked.{Asked}
use Rattle.com_refs_books.specs.Changes.{Books, cookie}
use Rattle.com_refs_books.specs.declared.keeps.Cookie.{Cookie}
use Rattle.com_calls.specs.declared.rows.Enclosed.TheVariants.{Nothing}
use Rattle.com_calls.specs.Enclosures.{HasAnswer}
use Rattle.com_classes.specs.declared.factory.Placed.{Placed}
use Rattle.com_classes.specs.Lookups.{class_at}
use Rattle.com_model.specs.declared.deeds.Deed.{Deed}
use Rattle.com_model.specs.declared.scenario.Scenario.{Scenario}
use Rattle.com_model.specs.Calls.{issues}
use Rattle.com_model.specs.Deeds.{deed_of, created, created_of, made_as, placing, creator, marshalled, unmarshalled, dropped, registered, got, got_with, cookie_number, revoked, initialised, hold_refusal, named_by, Named, NamesPacket, Refuses}
use Rattle.com_model.specs.Sight.{Sight}
use Rattle.com_model.specs.Tables.{class_number, interface_number}
use Rattle.com_rules.specs.Acts.{carried_by}
use Rattle.com_rules.specs.Fits.{IsSilent}

pub record IsQuiet (s : Scenario) (l : ℕ) (x : Action) (d : Deed) : Type 0 where
  pub issues_none : issues l d ≡ None
  pub carries_none : (b : Books) → carried_by s b x d ≡ []
  pub answers_none : HasAnswer d Nothing

quiet_placed : (s : Scenario) (v : Sight) (l : ℕ) (x : Action) (k i : Asked) (r : Result Placed HResult) → IsQuiet s l x (made_as s v k i r)
quiet_placed s v l x k i (Err hr) = record { issues_none = refl; carries_none = λ b. refl; answers_none = tt }
quiet_placed s v l x k i (Ok p) = record { issues_none = refl; carries_none = λ b. refl; answers_none = tt }

quiet_created_of : (s : Scenario) (v : Sight) (l : ℕ) (x : Action) (a : ℕ) (k i : Asked) (c j : Option ℕ) → IsQuiet s l x (created_of s v l a k i c j)
quiet_created_of s v l x a k i None j = record { issues_none = refl; carries_none = λ b. refl; answers_none = tt }
quiet_created_of s v l x a k i (Some c) j = quiet_placed s v l x k i (placing (creator v l a) c j (class_at s.classes c))

quiet_created : (s : Scenario) (v : Sight) (l : ℕ) (x : Action) (k i : Asked) (home : Option ℕ) → IsQuiet s l x (created s v l k i home)
quiet_created s v l x k i None = record { issues_none = refl; carries_none = λ b. refl; answers_none = tt }
quiet_created s v l x k i (Some a) = quiet_created_of s v l x a k i (class_number s k) (interface_number s i)

quiet_marshalled : (s : Scenario) (v : Sight) (l : ℕ) (x : Action) (m : MarshalMode) (held : Option RefValue) (hr : Option HResult) → IsQuiet s l x (marshalled s v l m held hr)
quiet_marshalled s v l x m held (Some hr) = record { issues_none = refl; carries_none = λ b. refl; answers_none = tt }
quiet_marshalled s v l x m None None = record { issues_none = refl; carries_none = λ b. refl; answers_none = tt }
quiet_marshalled s v l x m (Some r) None = record { issues_none = refl; carries_none = λ b. refl; answers_none = tt }

quiet_unmarshalled : (s : Scenario) (v : Sight) (l : ℕ) (x : Action) (n : Named) → IsQuiet s l x (unmarshalled v l n)
quiet_unmarshalled s v l x (Refuses hr) = record { issues_none = refl; carries_none = λ b. refl; answers_none = tt }
quiet_unmarshalled s v l x (NamesPacket p) = record { issues_none = refl; carries_none = λ b. refl; answers_none = tt }

quiet_dropped : (s : Scenario) (l : ℕ) (x : Action) (n : Named) → IsQuiet s l x (dropped n)
quiet_dropped s l x (Refuses hr) = record { issues_none = refl; carries_none = λ b. refl; answers_none = tt }
quiet_dropped s l x (NamesPacket p) = record { issues_none = refl; carries_none = λ b. refl; answers_none = tt }

quiet_registered : (s : Scenario) (v : Sight) (l : ℕ) (x : Action) (held : Option RefValue) (hr : Option HResult) → IsQuiet s l x (registered v held hr)
quiet_registered s v l x held (Some hr) = record { issues_none = refl; carries_none = λ b. refl; answers_none = tt }
quiet_registered s v l x held None = record { issues_none = refl; carries_none = λ b. refl; answers_none = tt }

quiet_if : (s : Scenario) (l : ℕ) (x : Action) (t : Bool) (d e : Deed) → IsQuiet s l x d → IsQuiet s l x e → IsQuiet s l x (if t then d else e)
quiet_if s l x true d e holds fails = holds
quiet_if s l x false d e holds fails = fails

quiet_got : (s : Scenario) (v : Sight) (l : ℕ) (x : Action) (g : ℤ) (home : Option ℕ) → IsQuiet s l x (got v l g home)
quiet_got s v l x g None = record { issues_none = refl; carries_none = λ b. refl; answers_none = tt }
quiet_got s v l x g (Some a) =
    let k : Cookie = cookie v.books (cookie_number g) in
    quiet_if s l x k.is_revoked _ (got_with v l g k) (record { issues_none = refl; carries_none = λ b. refl; answers_none = tt })
    (quiet_if s l x (v.books.live k.object) _ _ (record { issues_none = refl; carries_none = λ b. refl; answers_none = tt }) (record { issues_none = refl; carries_none = λ b. refl; answers_none = tt }))

quiet_revoked : (s : Scenario) (v : Sight) (l : ℕ) (x : Action) (g : ℤ) (home : Option ℕ) → IsQuiet s l x (revoked v g home)
quiet_revoked s v l x g None = record { issues_none = refl; carries_none = λ b. refl; answers_none = tt }
quiet_revoked s v l x g (Some a) = record { issues_none = refl; carries_none = λ b. refl; answers_none = tt }

quiet_initialised : (s : Scenario) (v : Sight) (l : ℕ) (x : Action) (m : Mode) (home : Option ℕ) → IsQuiet s l x (initialised v m home)
quiet_initialised s v l x m None = record { issues_none = refl; carries_none = λ b. refl; answers_none = tt }
quiet_initialised s v l x m (Some a) = record { issues_none = refl; carries_none = λ b. refl; answers_none = tt }

pub quiet : (s : Scenario) (v : Sight) (l : ℕ) (x : Action) → IsSilent x → IsQuiet s l x (deed_of s v l x)
quiet s v l (action.Create slot k i) h = quiet_created s v l (action.Create slot k i) k i (v.home l)
quiet s v l (action.Query to held i) h = record { issues_none = refl; carries_none = λ b. refl; answers_none = tt }
quiet s v l (action.Copy to held) h = record { issues_none = refl; carries_none = λ b. refl; answers_none = tt }
quiet s v l (action.Release from held) h = record { issues_none = refl; carries_none = λ b. refl; answers_none = tt }
quiet s v l (action.Call held i m args to) h = absurd h
quiet s v l (action.Marshal b held m) h = quiet_marshalled s v l (action.Marshal b held m) m held (hold_refusal v (v.home l) held)
quiet s v l (action.Unmarshal slot b) h = quiet_unmarshalled s v l (action.Unmarshal slot b) (named_by s v (v.home l) (v.buffers b))
quiet s v l (action.Drop b) h = quiet_dropped s l (action.Drop b) (named_by s v (v.home l) (v.buffers b))
quiet s v l (action.Raw b bytes) h = record { issues_none = refl; carries_none = λ b. refl; answers_none = tt }
quiet s v l (action.Register to held) h = quiet_registered s v l (action.Register to held) held (hold_refusal v (v.home l) held)
quiet s v l (action.Get slot g) h = quiet_got s v l (action.Get slot g) g (v.home l)
quiet s v l (action.Revoke g) h = quiet_revoked s v l (action.Revoke g) g (v.home l)
quiet s v l (action.Disconnect held) h = record { issues_none = refl; carries_none = λ b. refl; answers_none = tt }
quiet s v l (action.Post m w) h = record { issues_none = refl; carries_none = λ b. refl; answers_none = tt }
quiet s v l (action.Quit m) h = record { issues_none = refl; carries_none = λ b. refl; answers_none = tt }
quiet s v l (action.Leave hr y) h = absurd h
quiet s v l (action.Init m) h = quiet_initialised s v l (action.Init m) m (v.home l)
quiet s v l action.Uninit h = record { issues_none = refl; carries_none = λ b. refl; answers_none = tt }
quiet s v l (action.SetFilter f) h = record { issues_none = refl; carries_none = λ b. refl; answers_none = tt }
quiet s v l (action.Pump n) h = record { issues_none = refl; carries_none = λ b. refl; answers_none = tt }
