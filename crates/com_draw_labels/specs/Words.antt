-- Words and what stands behind them, as many labels have it.
use Rattle.std.specs.Prelude.{ℕ, ℤ, List, ◌++◌, Option}
use Rattle.std.specs.Fmt.{signed_decimal}
use Rattle.com_base.specs.declared.hresult.HResult.{HResult}
use Rattle.com_model.specs.Text.{named}
use Rattle.com_draw_names.specs.Failures.{hresult_behind}
use Rattle.com_draw_names.specs.Names.{place_text}

abbrev pub words_named : (words letters : List ℕ) → Option ℕ → List ℕ
words_named words letters n = words ++ named letters n

abbrev pub words_signed : List ℕ → ℤ → List ℕ
words_signed words n = words ++ signed_decimal n

abbrev pub words_place : List ℕ → ℕ → List ℕ
words_place words a = words ++ place_text a

-- What failed, with the HRESULT.
abbrev pub failed_label : List ℕ → (version : ℕ) → HResult → List ℕ
failed_label words version hr = words ++ hresult_behind version hr
