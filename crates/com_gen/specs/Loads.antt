-- The texts of the load scenarios: what is written from drawn words on.
use Rattle.std.specs.Prelude.{ℕ, zero, suc, ◌+◌, ◌%◌, ◌==◌, List, [], ◌++◌, if◌then◌else◌, codes, decimal}
use Rattle.rand_core.specs.Pcg32Seed.{pcg32_seed}
use Rattle.rand_pcg.specs.Lcg.{Lcg}
use Rattle.rand_pcg.specs.Pcg.{pcg32, pcg32_of_seed}
use Rattle.com_gen.specs.declared.TheConstants.{ROUNDS, SCRIPTS}

-- The generator of a number's words: PCG-XSH-RR 64/32, seeded by the number.
unfoldable pub seeded : ℕ → Lcg
seeded number = pcg32_of_seed (pcg32_seed 16 number)

-- The word that a generator gives, of 32 bits, and the generator behind it.
unfoldable pub word : Lcg → ℕ
word g = (pcg32 g).0

-- The generator as it stands once its next word was drawn.
unfoldable pub behind : Lcg → Lcg
behind g = (pcg32 g).1

-- The scenario's header, its pool, and five classes, one of each model.
abbrev pub head_text : List ℕ
head_text =
    codes "scenario 1\npool 4\n"
    ++ codes "native N1 {5C0B00D1-0000-4000-8000-000000000001} none counter\n"
    ++ codes "native N2 {5C0B00D2-0000-4000-8000-000000000001} Apartment counter\n"
    ++ codes "native N3 {5C0B00D3-0000-4000-8000-000000000001} Free counter\n"
    ++ codes "native N4 {5C0B00D4-0000-4000-8000-000000000001} Both counter\n"
    ++ codes "native N5 {5C0B00D5-0000-4000-8000-000000000001} Neutral counter\n"

-- A script begins in an STA where the word is odd, and else in the MTA.
abbrev pub apartment_text : ℕ → List ℕ
apartment_text w = if w % 2 == 1 then codes "thread\ninit sta\n" else codes "thread\ninit mta\n"

-- A round: an object of a class that the first word says is made, called with a number that the second word
-- says, and released.
unfoldable pub round_of : (class argument : ℕ) → List ℕ
round_of class argument =
    codes "create s0 N" ++ decimal (1 + class % 5) ++ codes " ICounter\ncall s0 ICounter.add "
    ++ decimal (argument % 1000) ++ codes " -> r1\nrelease s0\n"

abbrev pub round_text : Lcg → List ℕ
round_text g = round_of (word g) (word (behind g))

abbrev pub behind_round : Lcg → Lcg
behind_round g = behind (behind g)

-- So many rounds from a generator on, and the generator behind them.
unfoldable pub behind_rounds : ℕ → Lcg → Lcg
behind_rounds zero g = g
behind_rounds (suc n) g = behind_round (behind_rounds n g)

-- The text of so many rounds, from a generator on.
unfoldable pub rounds_text : ℕ → Lcg → List ℕ
rounds_text zero g = []
rounds_text (suc n) g = rounds_text n g ++ round_text (behind_rounds n g)

-- A script: the apartment, its rounds, and its end.
abbrev pub script_text : Lcg → List ℕ
script_text g = apartment_text (word g) ++ rounds_text ROUNDS (behind g) ++ codes "end\n"

abbrev pub behind_script : Lcg → Lcg
behind_script g = behind_rounds ROUNDS (behind g)

-- So many scripts from a generator on, and the generator behind them.
unfoldable pub behind_scripts : ℕ → Lcg → Lcg
behind_scripts zero g = g
behind_scripts (suc n) g = behind_script (behind_scripts n g)

-- The text of so many scripts, from a generator on.
unfoldable pub scripts_text : ℕ → Lcg → List ℕ
scripts_text zero g = []
scripts_text (suc n) g = scripts_text n g ++ script_text (behind_scripts n g)

-- The text of a number's scenario: the head, and its scripts.
abbrev pub load_text : ℕ → List ℕ
load_text number = head_text ++ scripts_text SCRIPTS (seeded number)
