use Rattle.std.proofs.Common.{ℕ, ◌<◌, ◌≤◌, length, subst}
use Rattle.com_refs_holders.specs.Tables.{Tables}
use Rattle.com_refs.specs.Counts.{holders_of}
use Rattle.com_refs.proofs.Bounds.{held_made}
use Rattle.com_refs.proofs.Refs.bounds.Goals as goal

pub returns-clause-held : goal.returns-clause-held
returns-clause-held c = subst (λ (t : Tables). (o : ℕ) → 0 < holders_of t o → o ≤ length t.objects) c.self.view_is
    (λ o h. held_made c.self.inside.holders o c.stands.ensures.known h)
