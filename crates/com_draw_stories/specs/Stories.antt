-- What an entry says in plain words: the rows that stand for apartments, objects and references.
use Rattle.std.specs.Prelude.{ℕ, ℤ, ◌==◌, Bool, if◌then◌else◌, List, [], ◌++◌, Option, Some, None, codes}
use Rattle.std.specs.Prelude.{decimal}
use Rattle.std.specs.Fmt.{signed_decimal}
use Rattle.com_base.specs.declared.hresult.HResult.{HResult}
use Rattle.com_base.specs.declared.value.MarshalMode.{MarshalMode}
use Rattle.com_base.specs.declared.value.MarshalMode.TheVariants as mode
use Rattle.com_base.specs.declared.value.RefValue.{RefValue}
use Rattle.com_body.specs.declared.operands.Asked.{Asked}
use Rattle.com_classes.specs.Tables.{Tables}
use Rattle.com_draw_words.specs.Escapes.{escaped, word_and_number}
use Rattle.com_model.specs.Text.{named}
use Rattle.com_draw_names.specs.declared.contexts.Born.{Born}
use Rattle.com_draw_stories.specs.declared.speakers.Speaker.{Speaker}
use Rattle.com_model.specs.Answers.{is_failure}
use Rattle.com_draw_names.specs.Failures.{failure_if, failure_text}
use Rattle.com_draw_names.specs.Names.{class_words, interface_words, object_text, place_at}
use Rattle.com_draw_stories.specs.Phrases.{lane_at, lane_does, lane_fails, lane_named, lane_place}
use Rattle.com_draw_stories.specs.Phrases.{lane_signed, object_fails, signed_fails}

-- ---- apartments

-- That a lane enters an apartment, once more where it is in one already, or why it cannot.
abbrev pub init_story : Speaker → (home : ℕ) → (has_home : Bool) → HResult → List ℕ
init_story s a has_home hr =
    if is_failure hr then lane_fails s (codes " cannot enter an apartment") hr
    else if has_home then lane_place s.lane (codes " enters ") a (codes " once more")
    else lane_place s.lane (codes " enters ") a []

-- That a lane leaves its apartment once, and how many of its initialisations are left.
abbrev pub leaves_once : (lane home count : ℕ) → List ℕ
leaves_once l a n = lane_place l (codes " leaves ") a (codes " once, ") ++ decimal n ++ codes " to go"

-- That a lane leaves its apartment, and how many of its initialisations are left if any is, or that it is in
-- none.
abbrev pub uninit_story : (lane : ℕ) → (home : Option ℕ) → (count : ℕ) → List ℕ
uninit_story l None n = lane_does l (codes " is in no apartment to leave")
uninit_story l (Some a) n = if n == 0 then lane_place l (codes " leaves ") a [] else leaves_once l a n

-- ---- objects and references to them

-- That a lane cannot make an object of a class, and why.
abbrev pub unmade_story : Tables → Speaker → Asked → HResult → List ℕ
unmade_story t s class hr =
    lane_does s.lane (codes " cannot make a ") ++ escaped (class_words t class) ++ failure_text s.version hr

-- That a lane makes an object of a class, and in which apartment that lives.
abbrev pub made_story : Tables → (lane : ℕ) → Born → Asked → List ℕ
made_story t l b class =
    lane_named l (codes " makes ") (codes "o") b.object ++ codes ", a " ++ escaped (class_words t class)
    ++ codes "; it lives in " ++ place_at b.apartment

-- That a lane makes an object of a class and where that lives, or why it cannot.
abbrev pub create_story : Tables → Speaker → Born → Asked → HResult → List ℕ
create_story t s b class hr =
    if is_failure hr then unmade_story t s class hr else made_story t s.lane b class

-- That a lane asks an object, or null, for an interface, and why that fails where it does.
abbrev pub query_story : Tables → Speaker → (object : Option ℕ) → Asked → HResult → List ℕ
query_story t s o i hr =
    lane_does s.lane (codes " asks ") ++ object_text o ++ codes " for " ++ escaped (interface_words t i)
    ++ failure_if s.version hr

-- That a lane copies a reference to an object, or a null one.
abbrev pub copy_story : (lane : ℕ) → Option RefValue → List ℕ
copy_story l None = lane_does l (codes " copies a null reference")
copy_story l (Some r) = lane_at l (codes " keeps one more reference to o") r.object

-- That a lane releases a reference to an object, or a null one.
abbrev pub release_story : (lane : ℕ) → Option RefValue → List ℕ
release_story l None = lane_does l (codes " releases a null reference")
release_story l (Some r) = lane_at l (codes " releases a reference to o") r.object

-- ---- packets and buffers

-- Whether a packet is normal, strong or weak.
abbrev pub mode_words : MarshalMode → List ℕ
mode_words mode.Normal = codes ", normal"
mode_words mode.Strong = codes ", strong"
mode_words mode.Weak = codes ", weak"

-- That a lane marshals a reference to an object, into which packet, and of which mode.
abbrev pub packed_story : (lane : ℕ) → (packet : Option ℕ) → MarshalMode → (object : Option ℕ) → List ℕ
packed_story l p m o =
    lane_named l (codes " packs a reference to ") (codes "o") o ++ codes " into " ++ named (codes "pk") p
    ++ mode_words m

-- That a lane marshals a reference to an object into a packet, or why it cannot.
abbrev pub marshal_story :
    Speaker → (packet : Option ℕ) → MarshalMode → (object : Option ℕ) → HResult → List ℕ
marshal_story s p m o hr =
    if is_failure hr then object_fails s (codes " cannot pack a reference to ") o [] hr
    else packed_story s.lane p m o

-- That a lane unmarshals a reference to an object, and from which packet.
abbrev pub unpacked_story : (lane : ℕ) → (packet object : Option ℕ) → List ℕ
unpacked_story l p o =
    lane_named l (codes " unpacks a reference to ") (codes "o") o ++ codes " from " ++ named (codes "pk") p

-- That a lane unmarshals a reference from a packet, or why it cannot.
abbrev pub unmarshal_story : Speaker → (packet object : Option ℕ) → HResult → List ℕ
unmarshal_story s p o hr =
    if is_failure hr then lane_fails s (codes " cannot unpack a reference") hr else unpacked_story s.lane p o

-- That a lane gives a packet up, or why it cannot.
abbrev pub drop_story : Speaker → (packet : Option ℕ) → HResult → List ℕ
drop_story s p hr =
    if is_failure hr then lane_fails s (codes " cannot drop a packet") hr
    else lane_named s.lane (codes " drops packet ") (codes "pk") p

-- How many bytes a lane puts into a packet buffer, and into which.
abbrev pub raw_story : (lane buffer count : ℕ) → List ℕ
raw_story l p n = lane_at l (codes " writes ") n ++ word_and_number (codes " bytes into buffer p") p

-- ---- the global table

-- That a lane puts a reference to an object into the global interface table, under which cookie.
abbrev pub registered_story : (lane : ℕ) → (cookie object : Option ℕ) → List ℕ
registered_story l g o =
    lane_named l (codes " puts ") (codes "o") o ++ codes " into the global table under cookie " ++ named [] g

-- That a lane puts a reference into the global interface table, or why it cannot.
abbrev pub register_story : Speaker → (cookie object : Option ℕ) → HResult → List ℕ
register_story s g o hr =
    if is_failure hr then object_fails s (codes " cannot put ") o (codes " into the global table") hr
    else registered_story s.lane g o

-- That a lane takes a reference to an object from the global interface table, by which cookie.
abbrev pub got_story : (lane : ℕ) → (cookie : ℤ) → (object : Option ℕ) → List ℕ
got_story l g o =
    lane_named l (codes " takes a reference to ") (codes "o") o ++ codes " by cookie " ++ signed_decimal g

-- That a lane takes a reference from the global interface table by a cookie, or why it cannot.
abbrev pub get_story : Speaker → (cookie : ℤ) → (object : Option ℕ) → HResult → List ℕ
get_story s g o hr =
    if is_failure hr then signed_fails s (codes " gets nothing by cookie ") g hr else got_story s.lane g o

-- That a lane revokes a cookie, or why it cannot.
abbrev pub revoke_story : Speaker → (cookie : ℤ) → HResult → List ℕ
revoke_story s g hr =
    if is_failure hr then signed_fails s (codes " cannot revoke cookie ") g hr
    else lane_signed s.lane (codes " revokes cookie ") g

-- ---- the end of objects

-- That a lane cuts an object off from all other apartments.
abbrev pub cut_story : (lane : ℕ) → (object : Option ℕ) → List ℕ
cut_story l o = lane_named l (codes " cuts ") (codes "o") o ++ codes " off from all other apartments"

-- That a lane disconnects an object, which cuts it off from all other apartments, or why it cannot.
abbrev pub disconnect_story : Speaker → (object : Option ℕ) → HResult → List ℕ
disconnect_story s o hr =
    if is_failure hr then object_fails s (codes " cannot disconnect ") o [] hr else cut_story s.lane o

-- That nothing holds an object any more, and which lane ends it.
abbrev pub final_story : (lane object : ℕ) → List ℕ
final_story l o =
    word_and_number (codes "Nothing holds o") o ++ word_and_number (codes " any more: L") l
    ++ codes " destroys it"
