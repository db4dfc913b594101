-- Texts that grow behind a text.
use Rattle.std.proofs.Common.{◌≡◌, ℕ, ◌+◌, List, ◌++◌, refl, ap, sym, ◌∙◌, append_assoc, append-nil, add-one}
use Rattle.std.specs.Prelude.{codes, decimal, ◌%◌}
use Rattle.rand_pcg.specs.Lcg.{Lcg}
use Rattle.com_gen.specs.Loads.{apartment_text, behind, behind_round, behind_rounds, behind_script, behind_scripts, round_of, round_text, rounds_text, script_text, scripts_text, word}

pub no_rounds : (text : List ℕ) (g : Lcg) → text ≡ text ++ rounds_text 0 g
unfolding rounds_text
no_rounds text g = sym (append-nil text)

pub behind_no_rounds : (g : Lcg) → g ≡ behind_rounds 0 g
unfolding behind_rounds
behind_no_rounds g = refl

-- One round more.
pub more_rounds : (text longer : List ℕ) (n : ℕ) (g h : Lcg) → h ≡ behind_rounds n g → longer ≡ (text ++ rounds_text n g) ++ round_text h
    → longer ≡ text ++ rounds_text (n + 1) g
unfolding rounds_text
more_rounds text longer n g h is more =
    rw add-one (more ∙ append_assoc text (rounds_text n g) (round_text h) ∙ ap (λ (x : Lcg). text ++ (rounds_text n g ++ round_text x)) is)

pub behind_more_rounds : (n : ℕ) (g h k : Lcg) → h ≡ behind_rounds n g → k ≡ behind_round h → k ≡ behind_rounds (n + 1) g
unfolding behind_rounds
behind_more_rounds n g h k is more = rw add-one (more ∙ ap behind_round is)

pub no_scripts : (text : List ℕ) (g : Lcg) → text ≡ text ++ scripts_text 0 g
unfolding scripts_text
no_scripts text g = sym (append-nil text)

pub behind_no_scripts : (g : Lcg) → g ≡ behind_scripts 0 g
unfolding behind_scripts
behind_no_scripts g = refl

-- One script more.
pub more_scripts : (text longer : List ℕ) (n : ℕ) (g h : Lcg) → h ≡ behind_scripts n g → longer ≡ (text ++ scripts_text n g) ++ script_text h
    → longer ≡ text ++ scripts_text (n + 1) g
unfolding scripts_text
more_scripts text longer n g h is more =
    rw add-one (more ∙ append_assoc text (scripts_text n g) (script_text h) ∙ ap (λ (x : Lcg). text ++ (scripts_text n g ++ script_text x)) is)

pub behind_more_scripts : (n : ℕ) (g h k : Lcg) → h ≡ behind_scripts n g → k ≡ behind_script h → k ≡ behind_scripts (n + 1) g
unfolding behind_scripts
behind_more_scripts n g h k is more = rw add-one (more ∙ ap behind_script is)

-- A round, piece by piece behind a text.
pub round_behind : (text : List ℕ) (class argument : ℕ)
    → text ++ codes "create s0 N" ++ decimal (1 + class % 5) ++ codes " ICounter\ncall s0 ICounter.add " ++ decimal (argument % 1000)
    ++ codes " -> r1\nrelease s0\n" ≡ text ++ round_of class argument
unfolding round_of
round_behind text class argument = simp append_assoc

-- A script, part by part behind a text.
pub script_behind : (text : List ℕ) (w : ℕ) (rounds : List ℕ)
    → text ++ apartment_text w ++ rounds ++ codes "end\n" ≡ text ++ (apartment_text w ++ rounds ++ codes "end\n")
script_behind text w rounds = simp append_assoc

-- A round, where each piece makes a longer text, with words that were drawn.
pub round_said : (text a b c d longer : List ℕ) (g h : Lcg) (class argument : ℕ) → class ≡ word g → h ≡ behind g → argument ≡ word h
    → a ≡ text ++ codes "create s0 N" → b ≡ a ++ decimal (1 + class % 5) → c ≡ b ++ codes " ICounter\ncall s0 ICounter.add "
    → d ≡ c ++ decimal (argument % 1000) → longer ≡ d ++ codes " -> r1\nrelease s0\n" → longer ≡ text ++ round_text g
round_said text a b c d longer g h class argument is_class is_h is_argument ea eb ec ed el =
    el ∙ ap (λ (t : List ℕ). t ++ codes " -> r1\nrelease s0\n")
    (ed ∙ ap (λ (t : List ℕ). t ++ decimal (argument % 1000))
    (ec ∙ ap (λ (t : List ℕ). t ++ codes " ICounter\ncall s0 ICounter.add ")
    (eb ∙ ap (λ (t : List ℕ). t ++ decimal (1 + class % 5)) ea)))
    ∙ round_behind text class argument
    ∙ ap (λ (x : ℕ). text ++ round_of x argument) is_class
    ∙ ap (λ (x : ℕ). text ++ round_of (word g) x) (is_argument ∙ ap word is_h)

pub script_said : (text a b longer : List ℕ) (g h : Lcg) (w : ℕ) → w ≡ word g → h ≡ behind g → a ≡ text ++ apartment_text w
    → b ≡ a ++ rounds_text 400 h → longer ≡ b ++ codes "end\n" → longer ≡ text ++ script_text g
script_said text a b longer g h w is_w is_h ea eb el =
    el ∙ ap (λ (t : List ℕ). t ++ codes "end\n") (eb ∙ ap (λ (t : List ℕ). t ++ rounds_text 400 h) ea)
    ∙ script_behind text w (rounds_text 400 h)
    ∙ ap (λ (x : ℕ). text ++ (apartment_text x ++ rounds_text 400 h ++ codes "end\n")) is_w
    ∙ ap (λ (x : Lcg). text ++ (apartment_text (word g) ++ rounds_text 400 x ++ codes "end\n")) is_h
