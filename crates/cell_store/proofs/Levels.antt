-- Entries under levels of nodes.
use Rattle.std.proofs.Common.{◌≡◌, ℕ, List, [], ◌∷◌, ◌++◌, All, ap, sym, ◌∙◌, Some, append_assoc, append-nil, take, drop, take-append-drop}
use Rattle.std.specs.List.{slice_get, flat_map}
use Rattle.std.proofs.lemmas.List.Concat.{flat_map-append}
use Rattle.std.proofs.lemmas.List.Elements.{All-weaker}
use Rattle.cell_store.specs.declared.node.Node.{Node}
use Rattle.cell_store.specs.Inside.Order.{EndsAt}
use Rattle.cell_store.specs.Inside.Levels.{IsNode, AreNodes, entries_under}
use Rattle.cell_store.proofs.InOrder.{item_at}

abbrev pub last_of : {T : Type 0} → Node T → ℕ
last_of node = node.last

module _ {E T : Type 0} (cell : E → ℕ) (entries : T → List E) (is_sized : T → Type 0) (size : T → ℕ) (half : ℕ) where
  -- each node ends at its last cell
  pub nodes_end : (nodes : List (Node T)) → AreNodes cell entries is_sized size half nodes → All (λ (node : Node T). EndsAt cell (last_of node) (entries_under entries node)) nodes
  nodes_end nodes are = All-weaker (λ (node : Node T). IsNode cell entries is_sized size half node) (λ (node : Node T). EndsAt cell (last_of node) (entries_under entries node)) (λ node is. is.last) nodes are

  -- a node that is found is one of them
  pub node_at : (nodes : List (Node T)) (i : ℕ) (node : Node T) → AreNodes cell entries is_sized size half nodes → slice_get nodes i ≡ Some node → IsNode cell entries is_sized size half node
  node_at nodes i node are is = let found = item_at last_of nodes i node is in rw (sym found.1) at (are i node found.0)

module _ {E T : Type 0} (entries : T → List E) where
  -- a node more, which is made of what came last
  pub node_added : (before after : List (Node T)) (front last all : List E) → flat_map (entries_under entries) after ≡ flat_map (entries_under entries) before ++ front → front ++ last ≡ all
      → flat_map (entries_under entries) after ++ last ≡ flat_map (entries_under entries) before ++ all
  node_added before after front last all more parts =
      ap (λ xs. xs ++ last) more ∙ (append_assoc (flat_map (entries_under entries) before) front last ∙ ap (λ xs. flat_map (entries_under entries) before ++ xs) parts)

  -- a node that is shared, where no entry waits
  pub node_shared : (before after : List (Node T)) (node : Node T) (last more : List E) → after ≡ before ++ node ∷ [] → entries_under entries node ≡ more → last ≡ []
      → flat_map (entries_under entries) after ++ last ≡ (flat_map (entries_under entries) before ++ last) ++ more
  node_shared before after node last more after_is same empty =
      let pushed : flat_map (entries_under entries) after ≡ flat_map (entries_under entries) before ++ more = ap (λ nodes. flat_map (entries_under entries) nodes) after_is ∙ (flat_map-append (entries_under entries) before (node ∷ []) ∙ ap (λ xs. flat_map (entries_under entries) before ++ xs) (append-nil (entries_under entries node) ∙ same)) in
      rw (pushed, empty) (append-nil (flat_map (entries_under entries) before ++ more) ∙ ap (λ xs. xs ++ more) (sym (append-nil (flat_map (entries_under entries) before))))

  -- nodes in two parts
  pub cut_nodes : (nodes front back : List (Node T)) (last none : List E) (n : ℕ) → front ≡ take n nodes → back ≡ drop n nodes → none ≡ []
      → (flat_map (entries_under entries) front ++ none) ++ (flat_map (entries_under entries) back ++ last) ≡ flat_map (entries_under entries) nodes ++ last
  cut_nodes nodes front back last none n front_is back_is none_is =
      let items = λ (some : List (Node T)). flat_map (entries_under entries) some in
      let first : items front ++ none ≡ items (take n nodes) = ap (λ xs. items front ++ xs) none_is ∙ (append-nil (items front) ∙ ap items front_is) in
      let whole : items (take n nodes) ++ items (drop n nodes) ≡ items nodes = sym (flat_map-append (entries_under entries) (take n nodes) (drop n nodes)) ∙ ap items (take-append-drop n nodes) in
      ap (λ xs. xs ++ (items back ++ last)) first
      ∙ (ap (λ some. items (take n nodes) ++ (items some ++ last)) back_is
      ∙ (sym (append_assoc (items (take n nodes)) (items (drop n nodes)) last) ∙ ap (λ xs. xs ++ last) whole))
