-- The entries that initialise a lane's apartment, or take that back, are those of threads' lanes.
use Rattle.std.proofs.Common.{subst, ap}
use Rattle.std.specs.Prelude.{◌≡◌, refl, ℕ, Bool, true, false, List}
use Rattle.com_model.specs.declared.deeds.Deed.{Deed}
use Rattle.com_model.specs.declared.deeds.Deed.TheVariants as deed
use Rattle.com_model.specs.declared.deeds.Entry.{Entry}
use Rattle.com_model.specs.declared.scenario.Scenario.{Scenario}
use Rattle.com_model.specs.Tables.{Thread, lane_sort}
use Rattle.com_model.specs.Formed.{Formed}
use Rattle.com_model.specs.Sight.{sight}
use Rattle.com_model.specs.Rules.{packet_left}
use Rattle.com_laws_safety.proofs.Small.{not-both}
use Rattle.com_laws_safety.proofs.Sources.{Source, by_body, by_script, by_end, by_final, by_own, by_answer, by_inbox, by_retry, by_again, by_rest}
use Rattle.com_laws_safety.proofs.Acted.{ActionSort, action_sort, is_of_script, OfAction, deed-acted}
use Rattle.com_laws_safety.proofs.Bodies.{not-scripts}
use Rattle.com_laws_safety.proofs.Facts.{IsRuled, admission-ruled, answered-ruled, rest-ruled}

abbrev pub is_homes : Deed → Bool
is_homes (deed.Init m a hr) = true
is_homes (deed.Uninit a n) = true
is_homes _ = false

ruled-homes : (d : Deed) → IsRuled d → is_homes d ≡ true → ⊥
ruled-homes (deed.Init m a hr) p e = p
ruled-homes (deed.Uninit a n) p e = p
ruled-homes _ p e = not-both false e refl

body-homes : (t : ActionSort) (d : Deed) → is_of_script t ≡ false → OfAction t d → is_homes d ≡ true → ⊥
body-homes t (deed.Init m a hr) q p e = not-both (is_of_script t) (ap is_of_script p) q
body-homes t (deed.Uninit a n) q p e = not-both (is_of_script t) (ap is_of_script p) q
body-homes t _ q p e = not-both false e refl

pub source-thread : (s : Scenario) → Formed s → (h : List Entry) (l : ℕ) (d : Deed) → Source s (sight s h) l d → is_homes d ≡ true → lane_sort s l ≡ Thread
source-thread s f h l d (by_body c o a os x p q e) z = absurd (body-homes (action_sort x) d (not-scripts s h l c o a os x f p q) (subst (OfAction (action_sort x)) e (deed-acted s (sight s h) l x)) z)
source-thread s f h l d (by_script x p t q e) z = t
source-thread s f h l d (by_end p t e) z = t
source-thread s f h l d (by_final o p e) z = absurd (ruled-homes d (subst IsRuled e tt) z)
source-thread s f h l d (by_own c p q e) z = absurd (ruled-homes d (subst IsRuled e (admission-ruled s (sight s h) l c)) z)
source-thread s f h l d (by_answer c x p q e) z = absurd (ruled-homes d (subst IsRuled e (answered-ruled (sight s h) c x (packet_left (sight s h) c))) z)
source-thread s f h l d (by_inbox c p q e) z = absurd (ruled-homes d (subst IsRuled e (admission-ruled s (sight s h) l c)) z)
source-thread s f h l d (by_retry c n x q e) z = absurd (ruled-homes d (subst IsRuled e tt) z)
source-thread s f h l d (by_again c t q e) z = absurd (ruled-homes d (subst IsRuled e tt) z)
source-thread s f h l d (by_rest p) z = absurd (ruled-homes d (rest-ruled d p) z)
