-- The stories of apartments, objects and references are closed.
use Rattle.std.proofs.Common.{Bool, None, Option, Some, codes, refl, ℕ, ℤ, ◌==◌}
use Rattle.com_base.specs.declared.hresult.HResult.{HResult}
use Rattle.com_base.specs.declared.value.MarshalMode.TheVariants as mode
use Rattle.com_base.specs.declared.value.MarshalMode.{MarshalMode}
use Rattle.com_base.specs.declared.value.RefValue.{RefValue}
use Rattle.com_body.specs.declared.operands.Asked.{Asked}
use Rattle.com_classes.specs.Tables.{Tables}
use Rattle.com_model.specs.Answers.{is_failure}
use Rattle.com_draw_names.specs.Names.{class_words, interface_words}
use Rattle.com_draw_names.specs.declared.contexts.Born.{Born}
use Rattle.com_draw_stories.specs.Stories.{copy_story, create_story, cut_story, disconnect_story, drop_story, final_story, get_story, got_story, init_story, leaves_once, made_story, marshal_story, mode_words, packed_story, query_story, raw_story, register_story, registered_story, release_story, revoke_story, uninit_story, unmade_story, unmarshal_story, unpacked_story}
use Rattle.com_draw_stories.specs.declared.speakers.Speaker.{Speaker}
use Rattle.com_laws_markup.proofs.Leading.{both, either, numbered, said}
use Rattle.com_laws_markup.proofs.Words.{closed_decimal, closed_escaped, closed_none}
use Rattle.com_laws_markup.specs.Closed.{IsClosed}
use Rattle.com_laws_page.proofs.Names.{closed_failure_if, closed_failure_text, closed_object_text, closed_place_at}
use Rattle.com_laws_page.proofs.Numbers.{closed_named, closed_signed}
use Rattle.com_laws_page.proofs.Phrases.{closed_lane_at, closed_lane_does, closed_lane_fails, closed_lane_named, closed_lane_place, closed_lane_signed, closed_object_fails, closed_signed_fails}

pub closed_init_story : (s : Speaker) (home : ℕ) (has_home : Bool) (hr : HResult) → IsClosed (init_story s home has_home hr)
closed_init_story s a has_home hr = either (is_failure hr) (closed_lane_fails s (said (codes " cannot enter an apartment") refl) hr) (either (has_home) (closed_lane_place s.lane (said (codes " enters ") refl) a (said (codes " once more") refl)) (closed_lane_place s.lane (said (codes " enters ") refl) a closed_none))

pub closed_leaves_once : (lane : ℕ) (home : ℕ) (count : ℕ) → IsClosed (leaves_once lane home count)
closed_leaves_once l a n = both (both (closed_lane_place l (said (codes " leaves ") refl) a (said (codes " once, ") refl)) (closed_decimal n)) (said (codes " to go") refl)

pub closed_uninit_story : (lane : ℕ) (home : Option ℕ) (count : ℕ) → IsClosed (uninit_story lane home count)
closed_uninit_story l None n = closed_lane_does l (said (codes " is in no apartment to leave") refl)
closed_uninit_story l (Some a) n = either (n == 0) (closed_lane_place l (said (codes " leaves ") refl) a closed_none) (closed_leaves_once l a n)

pub closed_unmade_story : (t : Tables) (s : Speaker) (class : Asked) (hr : HResult) → IsClosed (unmade_story t s class hr)
closed_unmade_story t s class hr = both (both (closed_lane_does s.lane (said (codes " cannot make a ") refl)) (closed_escaped (class_words t class))) (closed_failure_text s.version hr)

pub closed_made_story : (t : Tables) (lane : ℕ) (b : Born) (class : Asked) → IsClosed (made_story t lane b class)
closed_made_story t l b class = both (both (both (both (closed_lane_named l (said (codes " makes ") refl) (said (codes "o") refl) b.object) (said (codes ", a ") refl)) (closed_escaped (class_words t class))) (said (codes "; it lives in ") refl)) (closed_place_at b.apartment)

pub closed_create_story : (t : Tables) (s : Speaker) (b : Born) (class : Asked) (hr : HResult) → IsClosed (create_story t s b class hr)
closed_create_story t s b class hr = either (is_failure hr) (closed_unmade_story t s class hr) (closed_made_story t s.lane b class)

pub closed_query_story : (t : Tables) (s : Speaker) (object : Option ℕ) (i : Asked) (hr : HResult) → IsClosed (query_story t s object i hr)
closed_query_story t s o i hr = both (both (both (both (closed_lane_does s.lane (said (codes " asks ") refl)) (closed_object_text o)) (said (codes " for ") refl)) (closed_escaped (interface_words t i))) (closed_failure_if s.version hr)

pub closed_copy_story : (lane : ℕ) (held : Option RefValue) → IsClosed (copy_story lane held)
closed_copy_story l None = closed_lane_does l (said (codes " copies a null reference") refl)
closed_copy_story l (Some r) = closed_lane_at l (said (codes " keeps one more reference to o") refl) r.object

pub closed_release_story : (lane : ℕ) (held : Option RefValue) → IsClosed (release_story lane held)
closed_release_story l None = closed_lane_does l (said (codes " releases a null reference") refl)
closed_release_story l (Some r) = closed_lane_at l (said (codes " releases a reference to o") refl) r.object

pub closed_mode_words : (m : MarshalMode) → IsClosed (mode_words m)
closed_mode_words mode.Normal = said (codes ", normal") refl
closed_mode_words mode.Strong = said (codes ", strong") refl
closed_mode_words mode.Weak = said (codes ", weak") refl

pub closed_packed_story : (lane : ℕ) (packet : Option ℕ) (m : MarshalMode) (object : Option ℕ) → IsClosed (packed_story lane packet m object)
closed_packed_story l p m o = both (both (both (closed_lane_named l (said (codes " packs a reference to ") refl) (said (codes "o") refl) o) (said (codes " into ") refl)) (closed_named (said (codes "pk") refl) p)) (closed_mode_words m)

pub closed_marshal_story : (s : Speaker) (packet : Option ℕ) (m : MarshalMode) (object : Option ℕ) (hr : HResult) → IsClosed (marshal_story s packet m object hr)
closed_marshal_story s p m o hr = either (is_failure hr) (closed_object_fails s (said (codes " cannot pack a reference to ") refl) o closed_none hr) (closed_packed_story s.lane p m o)

pub closed_unpacked_story : (lane : ℕ) (packet : Option ℕ) (object : Option ℕ) → IsClosed (unpacked_story lane packet object)
closed_unpacked_story l p o = both (both (closed_lane_named l (said (codes " unpacks a reference to ") refl) (said (codes "o") refl) o) (said (codes " from ") refl)) (closed_named (said (codes "pk") refl) p)

pub closed_unmarshal_story : (s : Speaker) (packet : Option ℕ) (object : Option ℕ) (hr : HResult) → IsClosed (unmarshal_story s packet object hr)
closed_unmarshal_story s p o hr = either (is_failure hr) (closed_lane_fails s (said (codes " cannot unpack a reference") refl) hr) (closed_unpacked_story s.lane p o)

pub closed_drop_story : (s : Speaker) (packet : Option ℕ) (hr : HResult) → IsClosed (drop_story s packet hr)
closed_drop_story s p hr = either (is_failure hr) (closed_lane_fails s (said (codes " cannot drop a packet") refl) hr) (closed_lane_named s.lane (said (codes " drops packet ") refl) (said (codes "pk") refl) p)

pub closed_raw_story : (lane : ℕ) (buffer : ℕ) (count : ℕ) → IsClosed (raw_story lane buffer count)
closed_raw_story l p n = both (closed_lane_at l (said (codes " writes ") refl) n) (numbered (said (codes " bytes into buffer p") refl) p)

pub closed_registered_story : (lane : ℕ) (cookie : Option ℕ) (object : Option ℕ) → IsClosed (registered_story lane cookie object)
closed_registered_story l g o = both (both (closed_lane_named l (said (codes " puts ") refl) (said (codes "o") refl) o) (said (codes " into the global table under cookie ") refl)) (closed_named closed_none g)

pub closed_register_story : (s : Speaker) (cookie : Option ℕ) (object : Option ℕ) (hr : HResult) → IsClosed (register_story s cookie object hr)
closed_register_story s g o hr = either (is_failure hr) (closed_object_fails s (said (codes " cannot put ") refl) o (said (codes " into the global table") refl) hr) (closed_registered_story s.lane g o)

pub closed_got_story : (lane : ℕ) (cookie : ℤ) (object : Option ℕ) → IsClosed (got_story lane cookie object)
closed_got_story l g o = both (both (closed_lane_named l (said (codes " takes a reference to ") refl) (said (codes "o") refl) o) (said (codes " by cookie ") refl)) (closed_signed g)

pub closed_get_story : (s : Speaker) (cookie : ℤ) (object : Option ℕ) (hr : HResult) → IsClosed (get_story s cookie object hr)
closed_get_story s g o hr = either (is_failure hr) (closed_signed_fails s (said (codes " gets nothing by cookie ") refl) g hr) (closed_got_story s.lane g o)

pub closed_revoke_story : (s : Speaker) (cookie : ℤ) (hr : HResult) → IsClosed (revoke_story s cookie hr)
closed_revoke_story s g hr = either (is_failure hr) (closed_signed_fails s (said (codes " cannot revoke cookie ") refl) g hr) (closed_lane_signed s.lane (said (codes " revokes cookie ") refl) g)

pub closed_cut_story : (lane : ℕ) (object : Option ℕ) → IsClosed (cut_story lane object)
closed_cut_story l o = both (closed_lane_named l (said (codes " cuts ") refl) (said (codes "o") refl) o) (said (codes " off from all other apartments") refl)

pub closed_disconnect_story : (s : Speaker) (object : Option ℕ) (hr : HResult) → IsClosed (disconnect_story s object hr)
closed_disconnect_story s o hr = either (is_failure hr) (closed_object_fails s (said (codes " cannot disconnect ") refl) o closed_none hr) (closed_cut_story s.lane o)

pub closed_final_story : (lane : ℕ) (object : ℕ) → IsClosed (final_story lane object)
closed_final_story l o = both (both (numbered (said (codes "Nothing holds o") refl) o) (numbered (said (codes " any more: L") refl) l)) (said (codes " destroys it") refl)
