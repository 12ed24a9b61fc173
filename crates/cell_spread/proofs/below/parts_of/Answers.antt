use Rattle.std.proofs.Common.{◌≡◌, ◌∙◌, sym, ap, List, ℕ, ℤ, ◌++◌, map, not, pos, All, subst}
use Rattle.std.specs.List.{list_any, range_with_len}
use Rattle.std.specs.Ordering.{int_eq}
use Rattle.std.proofs.lemmas.List.Elements.{All-nil}
use Rattle.cube_fixed.specs.Range.{IsInRange}
use Rattle.cell_store.specs.Entries.{cells_of}
use Rattle.dim_weights.specs.Table.{nonzero_among}
use Rattle.rule_model.specs.Weights.{leaves_below}
use Rattle.sparse_sum.specs.Walking.{Progress, left}
use Rattle.cell_spread.specs.Spread.{part_of}
use Rattle.cell_spread.proofs.Walks.{all-begun}
use Rattle.cell_spread.proofs.below.parts_of.Goals as goal

pub leaves-init : goal.leaves-init
leaves-init c =
    let space = c.space-space.result.now in
    let begun : left space (cells_of c.args.store.now) (range_with_len 0 c.size.result) c.at-walk.result ≡ leaves_below space c.args.cell =
    ap (left space (cells_of c.args.store.now) (range_with_len 0 c.size.result)) c.at-walk.ensures ∙ all-begun space (cells_of c.args.store.now) c.args.cell c.size.result c.size.ensures.size in
    let part = part_of c.args.how c.args.store.now in
    record {
      front = ap (λ (xs : List (ℕ × ℤ)). xs ++ nonzero_among part (map (λ (pair : ℕ × ℤ). pair.0) (left space (cells_of c.args.store.now) (range_with_len 0 c.size.result) c.at-walk.result))) c.new-parts.ensures.items
          ∙ ap (λ (pairs : List (ℕ × ℤ)). nonzero_among part (map (λ (pair : ℕ × ℤ). pair.0) pairs)) begun;
      plain = ap (list_any (λ (pair : ℕ × ℤ). not (int_eq pair.1 (pos 1)))) begun;
      cell = ap (λ (w : Progress). w.cell) c.at-walk.ensures;
      small = subst (All (λ (one : ℕ × ℤ). IsInRange one.1)) (sym c.new-parts.ensures.items) (All-nil (λ (one : ℕ × ℤ). IsInRange one.1));
    }
