-- What a message filter does with a call, and when a call is sent again.
use Rattle.std.specs.Prelude.{ℕ, ℤ, List, ◌++◌, codes}
use Rattle.std.specs.Fmt.{signed_decimal}
use Rattle.com_filter.specs.declared.Verdict.{Verdict}
use Rattle.com_filter.specs.declared.Verdict.TheVariants as verdict

-- What a message filter does with a call, as a verb: it rejects the call, puts it off or takes it.
abbrev pub verdict_verb : Verdict → List ℕ
verdict_verb verdict.Rejected = codes "rejects"
verdict_verb verdict.Later = codes "puts off"
verdict_verb verdict.Handled = codes "takes"

-- When a call is sent again.
abbrev pub later_words : ℤ → List ℕ
later_words n = codes " again in " ++ signed_decimal n ++ codes " ms"
