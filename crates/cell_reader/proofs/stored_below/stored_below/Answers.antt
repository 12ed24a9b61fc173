use Rattle.std.proofs.Common.{◌≡◌, ◌∙◌, ap, ℕ, ℤ, List, [], ◌++◌, map}
use Rattle.cell_store.specs.Entries.{cells_of}
use Rattle.sparse_sum.specs.Live.{live_below}
use Rattle.sparse_sum.specs.Walking.{Progress, left}
use Rattle.sparse_sum.proofs.Totals.{all-left}
use Rattle.cell_reader.proofs.stored_below.stored_below.Goals as goal

pub leaves-init : goal.leaves-init
leaves-init c =
    let space = c.space-space.result.now in
    let stored = cells_of c.args.store.now in
    let begun : left space stored [] c.at-walk.result ≡ live_below space stored [] c.args.cell =
    ap (left space stored []) c.at-walk.ensures ∙ all-left space stored [] c.args.cell in
    record {
      front = ap (λ (xs : List ℕ). xs ++ map (λ (pair : ℕ × ℤ). pair.0) (left space stored [] c.at-walk.result)) c.new-cells.ensures.items
          ∙ ap (map (λ (pair : ℕ × ℤ). pair.0)) begun;
      cell = ap (λ (w : Progress). w.cell) c.at-walk.ensures;
    }
