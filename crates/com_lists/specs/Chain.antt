-- How a `Lists` keeps its lists. No public clause cites this module.
use Rattle.std.specs.Prelude.{◌≡◌, ℕ, zero, suc, ◌≤◌, List, [], ◌∷◌, length, map, Option, None, Some, ◌==◌}
use Rattle.std.specs.Prelude.{nat_lt, if◌then◌else◌, slice_get, slice_index_or, slice_set}
use Rattle.com_lists.specs.Linked.{times, times_in_all, holder_from, next_in_all}
use Rattle.com_lists.specs.declared.Node.{Node}
use Rattle.com_lists.specs.declared.Head.{Head}

-- a node in no list
abbrev pub free_node : Node
free_node = record { holder = None; before = None; after = None }

-- the head of an empty list
abbrev pub empty_head : Head
empty_head = record { first = None; last = None }

-- what is kept of a node; past the end, a node in no list
abbrev pub node_at : List Node → ℕ → Node
node_at nodes n = slice_index_or nodes n free_node

-- what is kept of a head
abbrev pub head_at : List Head → ℕ → Head
head_at heads h = slice_index_or heads h empty_head

-- the nodes from here on, at most so many of them
abbrev pub walk : ℕ → List Node → Option ℕ → List ℕ
walk zero nodes from = []
walk (suc most) nodes None = []
walk (suc most) nodes (Some n) = n ∷ walk most nodes (node_at nodes n).after

-- the list of each head
abbrev pub lists_of : List Head → List Node → List (List ℕ)
lists_of heads nodes = map (λ head. walk (length nodes) nodes head.first) heads

-- the node that stands right before this one in a list, or this one where the list begins with it
abbrev pub previous_in : Option ℕ → ℕ → List ℕ → Option ℕ
previous_in before node [] = None
previous_in before node (n ∷ ns) = if n == node then before else previous_in (Some n) node ns

-- the node that stands right before this one in the list that has it
abbrev pub previous_in_all : ℕ → List (List ℕ) → Option ℕ
previous_in_all node [] = None
previous_in_all node (ns ∷ rest) =
    if nat_lt 0 (times node ns) then previous_in None node ns else previous_in_all node rest

-- the last node of a list, or this one where the list is empty
abbrev pub last_or : Option ℕ → List ℕ → Option ℕ
last_or before [] = before
last_or before (n ∷ ns) = last_or (Some n) ns

-- the head of a list
abbrev pub head_of : List ℕ → Head
head_of ns = record { first = slice_get ns 0; last = last_or None ns }

-- what is kept of heads and nodes stands for these lists
pub record StandsFor (heads : List Head) (nodes : List Node) (lists : List (List ℕ)) : Type 0 where
  pub heads_are : heads ≡ map head_of lists
  pub holder_is : (n : ℕ) → (node_at nodes n).holder ≡ holder_from 0 n lists
  pub before_is : (n : ℕ) → (node_at nodes n).before ≡ previous_in_all n lists
  pub after_is : (n : ℕ) → (node_at nodes n).after ≡ next_in_all n lists
  pub once : (n : ℕ) → times_in_all n lists ≤ 1

-- the nodes once this one follows that, if there is one
abbrev pub with_after : Option ℕ → Option ℕ → List Node → List Node
with_after None after nodes = nodes
with_after (Some before) after nodes =
    slice_set nodes before (record (node_at nodes before) { after = after })

-- the nodes once this one stands before that, if there is one
abbrev pub with_before : Option ℕ → Option ℕ → List Node → List Node
with_before None before nodes = nodes
with_before (Some after) before nodes =
    slice_set nodes after (record (node_at nodes after) { before = before })

-- the heads once this node is first in a list, if nothing stands before it
abbrev pub with_first : ℕ → Option ℕ → Option ℕ → List Head → List Head
with_first head None after heads = slice_set heads head (record (head_at heads head) { first = after })
with_first head (Some before) after heads = heads

-- the heads once this node is last in a list, if nothing stands behind it
abbrev pub with_last_node : ℕ → Option ℕ → Option ℕ → List Head → List Head
with_last_node head None before heads = slice_set heads head (record (head_at heads head) { last = before })
with_last_node head (Some after) before heads = heads
