-- What a contract sees of an `Inbox`.
use Rattle.std.specs.Prelude.{ℕ, ◌+◌, List, [], ◌∷◌, ◌++◌, map, Option, slice_index_or, slice_set}
use Rattle.com_lists.specs.Linked.{Linked, holder_from, without}

-- the numbers that wait in each queue, in their order, and the greatest number that has room
pub record Queues : Type 0 where
  pub queues : List (List ℕ)
  pub numbers : ℕ

-- the numbers of a queue
abbrev pub queue_at : Queues → ℕ → List ℕ
queue_at t queue = slice_index_or t.queues queue []

-- the queue that a number waits in
abbrev pub queue_of : Queues → ℕ → Option ℕ
queue_of t number = holder_from 0 number t.queues

-- the number waits at the end of this queue
abbrev pub with_last : Queues → ℕ → ℕ → Queues
with_last t queue number =
    record t { queues = slice_set t.queues queue (queue_at t queue ++ number ∷ []) }

-- the number waits in no queue, and all others wait as they did
abbrev pub without_number : Queues → ℕ → Queues
without_number t number = record t { queues = map (without number) t.queues }

-- the lists with 1 added to each node
abbrev pub numbered : List (List ℕ) → List (List ℕ)
numbered lists = map (map (λ node. node + 1)) lists

-- the queues that linked lists stand for
abbrev pub queues_of : Linked → Queues
queues_of t = record { queues = numbered t.lists; numbers = t.nodes }
