-- What the labels say of the lanes that wait where a history is stuck.
use Rattle.std.specs.Prelude.{ℕ, List, codes}
use Rattle.com_draw_words.specs.Escapes.{word_and_number}

-- The label of a lane that pumps and waits for a message.
abbrev pub message_label : List ℕ
message_label = codes "waits for a message"

-- The label of a lane that waits for the body of its call, which was entered in this other lane.
abbrev pub body_label : (to : ℕ) → List ℕ
body_label m = word_and_number (codes "waits for L") m

-- The label of a lane that waits for a lane of the pool to enter its call.
abbrev pub pool_label : List ℕ
pool_label = codes "waits for the pool"
