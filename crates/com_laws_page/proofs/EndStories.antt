-- What is said of the end of a history is closed.
use Rattle.std.proofs.Common.{Bool, List, [], codes, refl, ℕ, ◌∷◌}
use Rattle.com_draw_stories.specs.Ends.{body_story, ended_words, event_text, later_lanes, later_sinks, message_story, pool_story, ring_lanes, ring_text, sinks_text, summary_front, summary_text}
use Rattle.com_laws_markup.proofs.Leading.{Leads, both, closed_as, in_content, inside, lead, numbered, onward, said}
use Rattle.com_laws_markup.proofs.Words.{closed_link, closed_none}
use Rattle.com_laws_markup.specs.Closed.{IsClosed}
use Rattle.com_laws_markup.specs.Markup.{Content}
use Rattle.com_laws_page.proofs.Phrases.{closed_lane_at, closed_lane_does}
use Rattle.com_model.specs.declared.counts.Ended.TheVariants as ended
use Rattle.com_model.specs.declared.counts.Ended.{Ended}

pub closed_message_story : (l : ℕ) → IsClosed (message_story l)
closed_message_story l = closed_lane_does l (said (codes " waits for a message") refl)

pub closed_body_story : (lane : ℕ) (to_ : ℕ) (call : ℕ) → IsClosed (body_story lane to_ call)
closed_body_story l m c = both (both (closed_lane_at l (said (codes " waits for L") refl) m) (said (codes ", which runs ") refl)) (closed_link c)

pub closed_pool_story : (lane : ℕ) (call : ℕ) → IsClosed (pool_story lane call)
closed_pool_story l c = both (closed_lane_does l (said (codes " waits for a free thread of the pool, for ") refl)) (closed_link c)

pub closed_later_lanes : (number : List ℕ) → IsClosed (later_lanes number)
closed_later_lanes [] = closed_none
closed_later_lanes (l ∷ ls) = both (numbered (said (codes ", L") refl) l) (closed_later_lanes ls)

pub closed_ring_lanes : (number : List ℕ) → IsClosed (ring_lanes number)
closed_ring_lanes [] = closed_none
closed_ring_lanes (l ∷ ls) = both (numbered (said (codes "L") refl) l) (closed_later_lanes ls)

pub closed_later_sinks : (number : List ℕ) → IsClosed (later_sinks number)
closed_later_sinks [] = closed_none
closed_later_sinks (k ∷ ks) = both (numbered (said (codes ", ") refl) k) (closed_later_sinks ks)

pub closed_sinks_text : (number : List ℕ) → IsClosed (sinks_text number)
closed_sinks_text [] = said (codes "no sink") refl
closed_sinks_text (k ∷ ks) = both (numbered (said (codes "sinks ") refl) k) (closed_later_sinks ks)

pub closed_event_text : (call : ℕ) (sinks : List ℕ) → IsClosed (event_text call sinks)
closed_event_text c ks = both (both (both (said (codes "The event of ") refl) (closed_link c)) (said (codes " went to ") refl)) (closed_sinks_text ks)

-- ---- the ring and the summary

pub closed_ring : (lanes : List ℕ) → IsClosed (ring_text lanes)
closed_ring lanes =
    closed_as (λ s n o e. onward (onward (lead (codes "<strong>They wait in a ring: ")) (inside (closed_ring_lanes lanes)))
    (lead (codes "</strong>")))

ended_leads : (s : Bool) (n : List ℕ) (o e : List (List ℕ)) (x : Ended)
    → Leads s (Content (codes "p" ∷ n ∷ o) e) (ended_words x) (Content (n ∷ o) e)
ended_leads s n o e ended.Ok = lead (codes " ms. <strong>Every thread came to its end.</strong></p>\n")
ended_leads s n o e ended.Stuck = lead (codes " ms. <strong>It is stuck: nobody can go on.</strong></p>\n")
ended_leads s n o e ended.Budget = lead (codes " ms. <strong>It was broken off at its greatest length.</strong></p>\n")

front_leads : (s : Bool) (n : List ℕ) (o e : List (List ℕ)) (x : Ended)
    → Leads s (Content (n ∷ o) e) (summary_front x) (Content (codes "p" ∷ n ∷ o) e)
front_leads s n o e ended.Ok = lead (codes "<p class=\"ok\">")
front_leads s n o e ended.Stuck = lead (codes "<p class=\"stuck\">")
front_leads s n o e ended.Budget = lead (codes "<p class=\"budget\">")

pub closed_summary : (x : Ended) (count time : ℕ) → IsClosed (summary_text x count time)
closed_summary x count time =
    closed_as (λ s n o e. onward (onward (onward (onward (front_leads s n o e x) (in_content count))
    (inside (said (codes " entries, clock ") refl))) (in_content time)) (ended_leads s n o e x))
