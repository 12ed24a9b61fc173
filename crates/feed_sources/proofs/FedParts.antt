-- What a feeder feeds from a cell, by its parts.
use Rattle.std.proofs.Common.{◌≡◌, sym, ap, ◌∙◌, ℕ, ◌≤◌, true, false, ℤ, pos, unsigned_abs, w64, to_z, of_z}
use Rattle.std.specs.List.{Contains}
use Rattle.dim_weights.proofs.Nonzero.{counts-nonzero, nonzero-counts}
use Rattle.cube_space.specs.Cells.{IsCell, is_leaf_cell}
use Rattle.rule_laws.specs.Feeding.{FeedsBy, leaves_of}
use Rattle.rule_model.specs.declared.rules.Feeder.{Feeder}
use Rattle.rule_model.specs.BoundModel.{BoundModel}
use Rattle.rule_model.specs.Weights.{weight}
use Rattle.rule_model.specs.System.{system_of, feed_of}
use Rattle.rule_model.proofs.Coefs.{word_of}
use Rattle.feed_sources.specs.Feeders.{StandsFor}
use Rattle.feed_sources.proofs.BelowFacts.{below-has, has-below, leaf_cells-has}

module _ (m : BoundModel) (cube x c : ℕ) (feeder : Feeder) where
  -- a leaf cell in the area, and what its reference means
  pub record AreParts : Type 0 where
    pub cell : IsCell m.space x
    pub leaf : is_leaf_cell m.space x ≡ true
    pub source : (feed_of m.space cube feeder).source x ≡ true
    pub stands : StandsFor m feeder.target x c

  pub fed-parts : FeedsBy (system_of m) (feed_of m.space cube feeder) x c → AreParts
  unfolding system_of
  fed-parts by = record { cell = by.0.0; leaf = by.0.1; source = by.1; stands = by.2 }

  pub parts-fed : AreParts → FeedsBy (system_of m) (feed_of m.space cube feeder) x c
  unfolding system_of
  parts-fed is = ((is.cell, is.leaf), is.source, is.stands)

-- a weight is 0 where its word is
pub word-zero : (z : ℤ) → unsigned_abs z ≤ 1000000000 → of_z w64 z ≡ 0 → z ≡ pos 0
word-zero z small none = sym (word_of z small) ∙ ap (to_z w64) none

-- below a consolidated cell are the leaf cells with a weight other than 0
module _ (m : BoundModel) (t c : ℕ) (total : is_leaf_cell m.space t ≡ false) where
  pub weighs-below : IsCell m.space c → is_leaf_cell m.space c ≡ true → (weight m.space t c ≡ pos 0 → ⊥) → Contains (leaves_of (system_of m) t) c
  unfolding system_of
  weighs-below cell leaf counts = rw total (has-below m.space t c (leaf_cells-has m.space c cell leaf) (counts-nonzero (weight m.space t c) counts))

  pub below-weighs : Contains (leaves_of (system_of m) t) c → weight m.space t c ≡ pos 0 → ⊥
  unfolding system_of
  below-weighs has none = nonzero-counts (weight m.space t c) (below-has m.space t c (rw total at has)).1 none
