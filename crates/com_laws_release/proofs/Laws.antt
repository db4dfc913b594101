-- The law of release: an object has one Final, made when nothing holds it; it is never entered afterwards, and gets no direct place.
use Rattle.std.specs.Prelude.{refl, ℕ, List, [], ◌∷◌}
use Rattle.com_model.specs.declared.deeds.Deed.{Deed}
use Rattle.com_model.specs.declared.deeds.Deed.TheVariants as deed
use Rattle.com_model.specs.declared.deeds.Entry.{Entry}
use Rattle.com_model.specs.declared.scenario.Scenario.{Scenario}
use Rattle.com_model.specs.Objects.{finaled}
use Rattle.com_model.specs.Rules.{legal}
use Rattle.com_model.specs.Safe.{EachEntry, Releases, Gone, Release}
use Rattle.com_model.specs.Formed.{Formed}
use Rattle.com_laws_safety.proofs.Small.{differ}
use Rattle.com_laws_safety.proofs.Sources.{next-source}
use Rattle.com_laws_safety.proofs.Caused.{each-prefix}
use Rattle.com_laws_safety.proofs.Released.{releases}
use Rattle.com_laws_safety.specs.Released.{ReleasesOnce}
use Rattle.com_laws_release.proofs.Stays.{enter-alive, dead-bare}
use Rattle.com_laws_release.proofs.Dyings.{finaled-dead}

entry-releases : (s : Scenario) (h : List Entry) (l : ℕ) (d : Deed) → Formed s → legal s (record { lane = l; deed = d } ∷ h) → ReleasesOnce s h l d → Releases s h l d
entry-releases s h l (deed.Final o) f q p = p
entry-releases s h l (deed.Enter c o a t vs) f q p = differ (finaled h o) (λ e. enter-alive s h l c o a t vs o f q (finaled-dead s h o f q.0 e) refl)
entry-releases s h l _ f q p = tt

each-releases : (s : Scenario) (h : List Entry) → Formed s → legal s h → EachEntry (Releases s) h
each-releases s [] f q = tt
each-releases s (e ∷ h) f q = (each-releases s h f q.0, entry-releases s h e.lane e.deed f q (releases s h e.lane e.deed (next-source s h e.lane e.deed q.1)))

pub legal-release : (s : Scenario) (h : List Entry) → Formed s → legal s h → Release s h
legal-release s h f q = (each-releases s h f q, each-prefix s (Gone s) (λ h p o e. dead-bare s h o (finaled-dead s h o f p e)) h q)
