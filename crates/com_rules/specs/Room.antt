-- Room for the numbers of one more entry.
use Rattle.std.specs.Prelude.{ℕ, ◌+◌, ◌<◌, ◌≤◌, ◌^◌, length}
use Rattle.com_base.specs.declared.limits.TheConstants.{PARAMETER_LIMIT}
use Rattle.com_classes.specs.Lookups.{method_at}
use Rattle.com_model.specs.Tables.{parameters}
use Rattle.com_refs_books.specs.Changes.{Books}
use Rattle.com_view.specs.Seen.{Seen}

-- The next apartment, object, call, causality and cookie have numbers of 32 bits, and so have each thread's
-- lane, the public references of each proxy, and the next packets: as many as a method may have parameters. No
-- method has more parameters than one may have.
pub record HasRoom (w : Seen) (b : Books) : Type 0 where
  pub stas : length w.lanes.stas + 4 ≤ 2 ^ 32
  pub threads : length w.scenario.threads < 2 ^ 32
  pub objects : length w.objects.makings + 1 < 2 ^ 32
  pub calls : length w.calls.tables.issues + 1 < 2 ^ 32
  pub causes : w.calls.tables.causes + 1 < 2 ^ 32
  pub cookies : length b.cookies + 1 < 2 ^ 32
  pub packets : length b.packets + PARAMETER_LIMIT < 2 ^ 32
  pub proxies : (a o i : ℕ) → b.proxy a o i < 2 ^ 32
  pub few : (i m : ℕ) → length (parameters (method_at w.scenario.classes i m)) ≤ PARAMETER_LIMIT
