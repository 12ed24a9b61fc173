-- Entries under levels of nodes. Of a part under them `entries` gives the entries, `size` tells of how many it is made,
-- and `is_sized` that it is sized within; `half` is the fewest of which one is made that versions share.
use Rattle.std.specs.Prelude.{◌≡◌, ℕ, ◌*◌, ◌<◌, ◌≤◌, List, ◌++◌, length, All}
use Rattle.std.specs.List.{flat_map}
use Rattle.cell_store.specs.declared.node.Node.{Node}
use Rattle.cell_store.specs.declared.level.Level.{Level}
use Rattle.cell_store.specs.Inside.Order.{EndsAt}

-- the entries of a node's part
abbrev pub entries_under : {E T : Type 0} → (T → List E) → Node T → List E
entries_under entries node = entries node.part.value

-- the entries of a level, in their order
abbrev pub level_entries : {E T : Type 0} → (T → List E) → Level T → List E
level_entries entries level = flat_map (entries_under entries) level.nodes.items ++ entries level.last

module _ {E T : Type 0} (cell : E → ℕ) (entries : T → List E) (is_sized : T → Type 0) (size : T → ℕ) (half : ℕ) where
  -- a node isn't empty, its part has at least half of what is too much, and it knows its last cell and its count
  pub record IsNode (node : Node T) : Type 0 where
    pub sized : is_sized node.part.value
    pub least : half ≤ size node.part.value
    pub most : size node.part.value < 2 * half
    pub last : EndsAt cell node.last (entries_under entries node)
    pub count : node.count ≡ length (entries_under entries node)

  abbrev pub AreNodes : List (Node T) → Type 0
  AreNodes nodes = All (λ node. IsNode node) nodes

  -- the sizes of a level
  pub record IsLevel (level : Level T) : Type 0 where
    pub nodes : AreNodes level.nodes.items
    pub last_part : is_sized level.last
    pub short : size level.last < 2 * half
