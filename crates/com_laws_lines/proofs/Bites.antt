-- The law of lines fails of an entry with a text of two lines.
use Rattle.std.specs.Prelude.{◌≡◌, true, false}
use Rattle.std.specs.Fmt.{digits}
use Rattle.com_model.specs.Cases.{direct_call, direct_call_3}
use Rattle.com_model.specs.Rules.{legal}
use Rattle.com_model.specs.Safe.{EachEntry}
use Rattle.com_model.proofs.Cases.{whole-direct_call}
use Rattle.com_laws_lines.specs.Breaks.{HasWholeLine, with_two_lines}

pub legal-three : legal direct_call direct_call_3
legal-three = whole-direct_call.0.0.0.0.0.0.0.0

wrong : false ≡ true → ⊥
wrong e = cc

pub two-lines-bite : EachEntry (HasWholeLine direct_call) with_two_lines → ⊥
unfolding digits
two-lines-bite p = wrong p.1
