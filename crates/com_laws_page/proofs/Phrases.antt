-- What a lane does is closed.
use Rattle.std.proofs.Common.{List, Option, codes, refl, ℕ, ℤ}
use Rattle.com_base.specs.declared.hresult.HResult.{HResult}
use Rattle.com_draw_stories.specs.Phrases.{lane_at, lane_does, lane_fails, lane_link, lane_named, lane_place, lane_signed, object_fails, signed_fails}
use Rattle.com_draw_stories.specs.declared.speakers.Speaker.{Speaker}
use Rattle.com_laws_markup.proofs.Leading.{both, numbered, said}
use Rattle.com_laws_markup.proofs.Words.{closed_decimal, closed_link}
use Rattle.com_laws_markup.specs.Closed.{IsClosed}
use Rattle.com_laws_page.proofs.Names.{closed_failure_text, closed_object_text, closed_place_text}
use Rattle.com_laws_page.proofs.Numbers.{closed_named, closed_signed}

pub closed_lane_does : (l : ℕ) → {words : List ℕ} → IsClosed words → IsClosed (lane_does l words)
closed_lane_does l words = both (numbered (said (codes "L") refl) l) words

pub closed_lane_at : (l : ℕ) → {words : List ℕ} → IsClosed words → (n : ℕ) → IsClosed (lane_at l words n)
closed_lane_at l words n = both (closed_lane_does l words) (closed_decimal n)

pub closed_lane_signed : (l : ℕ) → {words : List ℕ} → IsClosed words → (n : ℤ) → IsClosed (lane_signed l words n)
closed_lane_signed l words n = both (closed_lane_does l words) (closed_signed n)

pub closed_lane_named : (l : ℕ) → {words : List ℕ} → IsClosed words → {letters : List ℕ} → IsClosed letters → (n : Option ℕ) → IsClosed (lane_named l words letters n)
closed_lane_named l words letters n = both (closed_lane_does l words) (closed_named letters n)

pub closed_lane_place : (l : ℕ) → {words : List ℕ} → IsClosed words → (a : ℕ) → {behind : List ℕ} → IsClosed behind → IsClosed (lane_place l words a behind)
closed_lane_place l words a behind = both (both (closed_lane_does l words) (closed_place_text a)) behind

pub closed_lane_link : (l : ℕ) → {words : List ℕ} → IsClosed words → (call : ℕ) → {behind : List ℕ} → IsClosed behind → IsClosed (lane_link l words call behind)
closed_lane_link l words c behind = both (both (closed_lane_does l words) (closed_link c)) behind

pub closed_lane_fails : (s : Speaker) → {words : List ℕ} → IsClosed words → (hr : HResult) → IsClosed (lane_fails s words hr)
closed_lane_fails s words hr = both (closed_lane_does s.lane words) (closed_failure_text s.version hr)

pub closed_signed_fails : (s : Speaker) → {words : List ℕ} → IsClosed words → (n : ℤ) (hr : HResult) → IsClosed (signed_fails s words n hr)
closed_signed_fails s words n hr = both (closed_lane_signed s.lane words n) (closed_failure_text s.version hr)

pub closed_object_fails : (s : Speaker) → {words : List ℕ} → IsClosed words → (object : Option ℕ) → {behind : List ℕ} → IsClosed behind → (hr : HResult) → IsClosed (object_fails s words object behind hr)
closed_object_fails s words o behind hr = both (both (both (closed_lane_does s.lane words) (closed_object_text o)) behind) (closed_failure_text s.version hr)
