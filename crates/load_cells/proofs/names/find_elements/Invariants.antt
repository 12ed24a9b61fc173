use Rattle.std.proofs.Common.{◌≡◌, drop, take}
use Rattle.cube_space.specs.Layout.{axes_of}
use Rattle.rule_model.proofs.Named.{with_front}
use Rattle.load_cells.specs.Found.{AreElements}
use Rattle.load_cells.specs.Names.{elements_by_texts}
use Rattle.load_cells.proofs.names.find_elements.Given as goal

-- the elements so far, and those of the texts that are left
abbrev pub invariant-each : goal.invariant-each
invariant-each l = record {
  elements : elements_by_texts (axes_of l.space.dimensions l.dims) l.texts
      ≡ with_front (take l.place l.at) (elements_by_texts (axes_of l.space.dimensions (drop l.place l.dims)) (drop l.place l.texts));
  found : AreElements l.space.dimensions l.found.items;
}
