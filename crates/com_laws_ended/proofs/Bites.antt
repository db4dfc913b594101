-- The law fails of an entry behind a history that is finished.
use Rattle.std.proofs.Common.{ap, sym, ◌∙◌}
use Rattle.std.specs.Prelude.{◌≡◌, true, false, is_some}
use Rattle.com_model.specs.Cases.{direct_call, direct_call_10}
use Rattle.com_model.specs.Rules.{legal}
use Rattle.com_model.specs.Safe.{EachEntry}
use Rattle.com_model.proofs.Cases.{whole-direct_call}
use Rattle.com_laws_ended.specs.Going.{GoesOn, after_the_end}

pub legal-whole : legal direct_call direct_call_10
legal-whole = whole-direct_call.0

wrong : true ≡ false → ⊥
wrong e = cc

pub going-on-bites : EachEntry (GoesOn direct_call) after_the_end → ⊥
going-on-bites p = wrong (ap is_some (sym whole-direct_call.1 ∙ p.1.1))
