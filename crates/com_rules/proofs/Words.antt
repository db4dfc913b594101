-- Which lanes take words.
use Rattle.std.proofs.Common.{◌≡◌, ℕ, ℤ, pos, negsuc, false, not, ◌&&◌, Some, None, refl, ap}
use Rattle.com_model.specs.declared.scenario.Scenario.{Scenario}
use Rattle.com_model.specs.Deeds.{takes_words}
use Rattle.com_model.specs.Sight.{Sight}
use Rattle.com_model.specs.Tables.{is_thread}
use Rattle.com_lanes.specs.Changes.{natural}

pub words_none : (s : Scenario) (v : Sight) (m : ℤ) → natural m ≡ None → takes_words s v m ≡ false
words_none s v (pos n) e = cc
words_none s v (negsuc n) e = refl

pub words_some : (s : Scenario) (v : Sight) (m : ℤ) (n : ℕ) → natural m ≡ Some n → takes_words s v m ≡ (is_thread s n && not (v.over n))
words_some s v (pos k) n e = let h : k ≡ n = cc in ap (λ x. is_thread s x && not (v.over x)) h
words_some s v (negsuc k) n e = cc
