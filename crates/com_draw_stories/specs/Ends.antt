-- What is said of the end of a history: why lanes wait, the ring, the events, and the summary.
use Rattle.std.specs.Prelude.{ℕ, List, [], ◌∷◌, ◌++◌, codes, decimal}
use Rattle.com_draw_words.specs.Escapes.{link_text, word_and_number}
use Rattle.com_model.specs.declared.counts.Ended.{Ended}
use Rattle.com_model.specs.declared.counts.Ended.TheVariants as ended
use Rattle.com_model.specs.Text.{ended_text}
use Rattle.com_draw_stories.specs.Phrases.{lane_at, lane_does}

-- ---- reasons

-- That a lane waits for a message.
abbrev pub message_story : ℕ → List ℕ
message_story l = lane_does l (codes " waits for a message")

-- That a lane waits for the body of a call, and in which lane that runs.
abbrev pub body_story : (lane to call : ℕ) → List ℕ
body_story l m c = lane_at l (codes " waits for L") m ++ codes ", which runs " ++ link_text c

-- That a lane waits for a lane of the pool that is free to enter a call.
abbrev pub pool_story : (lane call : ℕ) → List ℕ
pool_story l c = lane_does l (codes " waits for a free thread of the pool, for ") ++ link_text c

-- ---- the ring

-- The lanes of a ring behind its first one, each behind a comma.
abbrev pub later_lanes : List ℕ → List ℕ
later_lanes [] = []
later_lanes (l ∷ ls) = word_and_number (codes ", L") l ++ later_lanes ls

-- The lanes of a ring in its order, with commas between them.
abbrev pub ring_lanes : List ℕ → List ℕ
ring_lanes [] = []
ring_lanes (l ∷ ls) = word_and_number (codes "L") l ++ later_lanes ls

-- That lanes wait for each other in a ring, and which.
abbrev pub ring_text : List ℕ → List ℕ
ring_text ls = codes "<strong>They wait in a ring: " ++ ring_lanes ls ++ codes "</strong>"

-- ---- events

-- The cookies of an event's sinks behind the first one, each behind a comma.
abbrev pub later_sinks : List ℕ → List ℕ
later_sinks [] = []
later_sinks (k ∷ ks) = word_and_number (codes ", ") k ++ later_sinks ks

-- The sinks to which an event went, by their cookies, or that there is none.
abbrev pub sinks_text : List ℕ → List ℕ
sinks_text [] = codes "no sink"
sinks_text (k ∷ ks) = word_and_number (codes "sinks ") k ++ later_sinks ks

-- To which sinks the event that a call sent went, by their cookies.
abbrev pub event_text : (call : ℕ) → (sinks : List ℕ) → List ℕ
event_text c ks = codes "The event of " ++ link_text c ++ codes " went to " ++ sinks_text ks

-- ---- the summary

-- How a history ended, behind the time of its clock: with all done, stuck, or with as many entries as it may
-- have.
abbrev pub ended_words : Ended → List ℕ
ended_words ended.Ok = codes " ms. <strong>Every thread came to its end.</strong></p>\n"
ended_words ended.Stuck = codes " ms. <strong>It is stuck: nobody can go on.</strong></p>\n"
ended_words ended.Budget = codes " ms. <strong>It was broken off at its greatest length.</strong></p>\n"

-- What opens the summary: a paragraph whose class tells how the history ended.
abbrev pub summary_front : Ended → List ℕ
summary_front e = codes "<p class=\"" ++ ended_text e ++ codes "\">"

-- How many entries there are, where the clock stands, and how the history ended.
abbrev pub summary_text : Ended → (entries clock : ℕ) → List ℕ
summary_text e n t = summary_front e ++ decimal n ++ codes " entries, clock " ++ decimal t ++ ended_words e
