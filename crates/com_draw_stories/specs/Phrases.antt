-- A lane and what it does, as many stories begin.
use Rattle.std.specs.Prelude.{ℕ, ℤ, List, ◌++◌, Option, codes, decimal}
use Rattle.std.specs.Fmt.{signed_decimal}
use Rattle.com_base.specs.declared.hresult.HResult.{HResult}
use Rattle.com_draw_words.specs.Escapes.{link_text, word_and_number}
use Rattle.com_model.specs.Text.{named}
use Rattle.com_draw_names.specs.Failures.{failure_text}
use Rattle.com_draw_names.specs.Names.{object_text, place_text}
use Rattle.com_draw_stories.specs.declared.speakers.Speaker.{Speaker}

-- A lane, and the words for what it does.
abbrev pub lane_does : ℕ → List ℕ → List ℕ
lane_does l words = word_and_number (codes "L") l ++ words

-- A lane, what it does, and a number.
abbrev pub lane_at : ℕ → List ℕ → ℕ → List ℕ
lane_at l words n = lane_does l words ++ decimal n

-- A lane, what it does, and a signed number.
abbrev pub lane_signed : ℕ → List ℕ → ℤ → List ℕ
lane_signed l words n = lane_does l words ++ signed_decimal n

-- A lane, what it does, and a number behind its letters, or a dash where there is none.
abbrev pub lane_named : ℕ → (words letters : List ℕ) → Option ℕ → List ℕ
lane_named l words letters n = lane_does l words ++ named letters n

-- A lane, what it does, an apartment, and words behind that.
abbrev pub lane_place : ℕ → List ℕ → ℕ → (behind : List ℕ) → List ℕ
lane_place l words a behind = lane_does l words ++ place_text a ++ behind

-- A lane, what it does, a link to a call, and words behind that.
abbrev pub lane_link : ℕ → List ℕ → (call : ℕ) → (behind : List ℕ) → List ℕ
lane_link l words c behind = lane_does l words ++ link_text c ++ behind

-- A lane, what it cannot do, and why.
abbrev pub lane_fails : Speaker → List ℕ → HResult → List ℕ
lane_fails s words hr = lane_does s.lane words ++ failure_text s.version hr

-- A lane, what it cannot do with a number, and why.
abbrev pub signed_fails : Speaker → List ℕ → ℤ → HResult → List ℕ
signed_fails s words n hr = lane_signed s.lane words n ++ failure_text s.version hr

-- A lane, what it cannot do with an object, and why.
abbrev pub object_fails : Speaker → List ℕ → (object : Option ℕ) → (behind : List ℕ) → HResult → List ℕ
object_fails s words o behind hr =
    lane_does s.lane words ++ object_text o ++ behind ++ failure_text s.version hr
