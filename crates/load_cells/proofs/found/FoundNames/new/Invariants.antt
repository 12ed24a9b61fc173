use Rattle.std.proofs.Common.{◌≡◌, [], length, All}
use Rattle.load_cells.specs.declared.found.FoundElements.{FoundElements}
use Rattle.load_cells.proofs.found.FoundNames.new.Given as goal

-- as many as dimensions so far, and none is found yet
abbrev pub invariant-loop-dim : goal.invariant-loop-dim
invariant-loop-dim l = record {
  many : length l.elements.items ≡ l.dim;
  none : All (λ (names : FoundElements). names.names.items ≡ []) l.elements.items;
}
