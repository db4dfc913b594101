-- What a contract sees of a `Lists`.
use Rattle.std.specs.Prelude.{◌≡◌, ℕ, ◌+◌, ◌≤◌, List, [], ◌∷◌, map, Option, None, Some, ◌==◌, nat_lt}
use Rattle.std.specs.Prelude.{if◌then◌else◌, slice_get, slice_index_or, slice_set, ◌++◌}

-- the list of nodes of each head, in order of the heads, and how many nodes there are
pub record Linked : Type 0 where
  pub lists : List (List ℕ)
  pub nodes : ℕ

-- how often a node stands in a list
abbrev pub times : ℕ → List ℕ → ℕ
times node [] = 0
times node (n ∷ ns) = if n == node then times node ns + 1 else times node ns

-- how often a node stands in all lists
abbrev pub times_in_all : ℕ → List (List ℕ) → ℕ
times_in_all node [] = 0
times_in_all node (ns ∷ rest) = times node ns + times_in_all node rest

-- no node stands twice, in one list or in two, and each that stands in a list is one of the nodes
pub record IsApart (t : Linked) : Type 0 where
  pub once : (node : ℕ) → times_in_all node t.lists ≤ 1
  pub within : (node : ℕ) → t.nodes ≤ node → times_in_all node t.lists ≡ 0

-- the list of a head
abbrev pub list_of : Linked → ℕ → List ℕ
list_of t head = slice_index_or t.lists head []

-- the first head, counted from this number on, whose list has the node
abbrev pub holder_from : ℕ → ℕ → List (List ℕ) → Option ℕ
holder_from head node [] = None
holder_from head node (ns ∷ rest) =
    if nat_lt 0 (times node ns) then Some head else holder_from (head + 1) node rest

-- the head whose list has the node
abbrev pub holder_of : Linked → ℕ → Option ℕ
holder_of t node = holder_from 0 node t.lists

-- the node that stands right behind this one in a list
abbrev pub next_in : ℕ → List ℕ → Option ℕ
next_in node [] = None
next_in node (n ∷ ns) = if n == node then slice_get ns 0 else next_in node ns

-- the node that stands right behind this one in the list that has it
abbrev pub next_in_all : ℕ → List (List ℕ) → Option ℕ
next_in_all node [] = None
next_in_all node (ns ∷ rest) =
    if nat_lt 0 (times node ns) then next_in node ns else next_in_all node rest

-- a list without this node, and all else in its order
abbrev pub without : ℕ → List ℕ → List ℕ
without node [] = []
without node (n ∷ ns) = if n == node then without node ns else n ∷ without node ns

-- the node is at the end of the list of this head
abbrev pub with_last : Linked → ℕ → ℕ → Linked
with_last t head node =
    record t { lists = slice_set t.lists head (list_of t head ++ node ∷ []) }

-- the node is in no list, and all other nodes stand as they did
abbrev pub without_node : Linked → ℕ → Linked
without_node t node = record t { lists = map (without node) t.lists }
