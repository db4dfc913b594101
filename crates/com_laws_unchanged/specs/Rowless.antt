-- The deeds that have no row in the books, whatever the state.
use Rattle.std.specs.Prelude.{Bool, true, not, None}
use Rattle.com_model.specs.declared.deeds.Deed.{Deed}
use Rattle.com_model.specs.declared.deeds.Deed.TheVariants as deed
use Rattle.com_model.specs.Answers.{is_S_OK}
use Rattle.com_state.specs.Resting.{is_quiet}

-- Beside the quiet ones: each Init, what copies or releases a reference, a Final, and refusals that write a
-- slot.
abbrev pub is_rowless : Deed → Bool
is_rowless (deed.Init m a hr) = true
is_rowless (deed.Made None a k i hr) = true
is_rowless (deed.Query o i hr) = not (is_S_OK hr)
is_rowless (deed.Copy held) = true
is_rowless (deed.Release held) = true
is_rowless (deed.Unmarshal None held refs hr) = true
is_rowless (deed.Get g None refs hr) = true
is_rowless (deed.Final o) = true
is_rowless d = is_quiet d
