-- The Out of a call by its route.
use Rattle.std.proofs.Common.{◌≡◌, ℕ, Bool, true, List, Option, Some, None, refl}
use Rattle.com_base.specs.declared.hresult.HResult.{HResult}
use Rattle.com_base.specs.declared.value.Kind.{Kind}
use Rattle.com_base.specs.declared.value.RefValue.{RefValue}
use Rattle.com_base.specs.declared.value.Value.{Value}
use Rattle.com_refs_books.specs.Changes.{Books}
use Rattle.com_model.specs.declared.deeds.Route.{Route}
use Rattle.com_model.specs.declared.deeds.Route.TheVariants as route
use Rattle.com_model.specs.declared.scenario.Scenario.{Scenario}
use Rattle.com_model.specs.Calls.{is_marshalled}
use Rattle.com_model.specs.Deeds.{called, out_on, out_bytes}
use Rattle.com_model.specs.Sight.{Sight}
use Rattle.com_model.specs.Values.{sent_values}
use Rattle.com_view.specs.Seen.{Seen, sight_by}
use Rattle.com_rules.specs.Acts.{route_or}

pub called_on : (w : Seen) (b : Books) (l : ℕ) (held : Option RefValue) (i m : ℕ) (args : List Value) (refusal : Option HResult)
    → out_on w.scenario (sight_by w b) l held i m args (route_or w b l held refusal) ≡ called w.scenario (sight_by w b) l held i m args refusal
called_on w b l held i m args (Some hr) = refl
called_on w b l held i m args None = refl

-- Only what is marshalled is written.
pub bytes_on : (s : Scenario) (v : Sight) (l : ℕ) (r : Route) (k : ℕ) (live : ℕ → Bool) (ps : List Kind) (args : List Value)
    → out_bytes s v l r k (sent_values (is_marshalled r) live ps args) ≡ out_bytes s v l r k (sent_values true live ps args)
bytes_on s v l route.Direct k live ps args = refl
bytes_on s v l route.Switch k live ps args = refl
bytes_on s v l route.Post k live ps args = refl
bytes_on s v l route.Refused k live ps args = refl
