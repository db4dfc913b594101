-- The second of two answers.
use Rattle.std.proofs.Common.{◌≡◌, ℕ, Bool, true, false, if◌then◌else◌, Option, Some, None, refl}
use Rattle.com_base.specs.declared.hresult.HResult.{HResult}
use Rattle.com_base.specs.declared.value.RefValue.{RefValue}
use Rattle.com_model.specs.declared.deeds.Deed.{Deed}
use Rattle.com_model.specs.Deeds.{hold_refusal}
use Rattle.com_model.specs.Lists.{or_else}
use Rattle.com_model.specs.Sight.{Sight}

pub none_first : (a r : Option Deed) → a ≡ None → or_else a r ≡ r
none_first a r e = rw e refl

-- A reference that may be held is to an object that is connected.
held_live : (t : Bool) (hr : HResult) → (if t then None else Some hr) ≡ None → t ≡ true
held_live true hr e = refl
held_live false hr e = cc

pub live_held : (v : Sight) (home : Option ℕ) (r : RefValue) → hold_refusal v home (Some r) ≡ None → v.books.live r.object ≡ true
live_held v None r e = cc
live_held v (Some a) r e = held_live (v.books.live r.object) _ e
