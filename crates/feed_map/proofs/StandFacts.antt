-- The leaf cells that a cell stands for.
use Rattle.std.proofs.Common.{◌≡◌, sym, subst, ℕ, false, List, []}
use Rattle.std.specs.List.{Contains}
use Rattle.cube_space.specs.Layout.{axes}
use Rattle.cube_space.specs.Cells.{IsCell, cube_of, elements_of, is_leaf_cell}
use Rattle.rule_laws.specs.Feeding.{leaves_of}
use Rattle.rule_model.specs.BoundModel.{BoundModel}
use Rattle.rule_model.specs.System.{system_of}
use Rattle.feed_map.specs.Inside.Leaves.{GoesOn}
use Rattle.feed_map.proofs.LeafFacts.{goes-on-below, below-goes-on}

module _ (m : BoundModel) (t : ℕ) where
  -- a consolidated cell stands for what goes on from its elements
  pub total-stands : IsCell m.space t → is_leaf_cell m.space t ≡ false → (cube : ℕ) → cube ≡ cube_of m.space t → (es : List ℕ) → es ≡ elements_of m.space t → (c : ℕ)
      → GoesOn m.space cube es 0 (axes m.space cube) [] c → Contains (leaves_of (system_of m) t) c
  unfolding system_of
  total-stands cell total cube own es its c goes =
      let P : ℕ → Type 0 = λ k. GoesOn m.space k es 0 (axes m.space k) [] c in
      let Q : List ℕ → Type 0 = λ xs. GoesOn m.space (cube_of m.space t) xs 0 (axes m.space (cube_of m.space t)) [] c in
      rw total (goes-on-below m.space t cell c (subst Q its (subst P own goes)))

  pub stands-total : IsCell m.space t → is_leaf_cell m.space t ≡ false → (cube : ℕ) → cube ≡ cube_of m.space t → (es : List ℕ) → es ≡ elements_of m.space t → (c : ℕ)
      → Contains (leaves_of (system_of m) t) c → GoesOn m.space cube es 0 (axes m.space cube) [] c
  unfolding system_of
  stands-total cell total cube own es its c has =
      let P : ℕ → Type 0 = λ k. GoesOn m.space k es 0 (axes m.space k) [] c in
      let Q : List ℕ → Type 0 = λ xs. GoesOn m.space (cube_of m.space t) xs 0 (axes m.space (cube_of m.space t)) [] c in
      subst P (sym own) (subst Q (sym its) (below-goes-on m.space t cell c (rw total at has)))
