use Rattle.std.specs.Prelude.{is_ok}
use Rattle.load_cells.specs.Found.{IsFound}
use Rattle.load_cells.specs.Names.{element_by_text}
use Rattle.load_cells.proofs.Texts.{no_name, one_more}
use Rattle.load_cells.proofs.found.add_place.Goals as goal

pub returns-clause-names : goal.returns-clause-names
returns-clause-names c =
    let named = element_by_text c.args.dimension.now in
    one_more (IsFound named) c.args.names.now.items c.push.new.self.items c.none-name.result (is_ok c.push.result) c.push.ensures.items c.requires (no_name named c.none-name.result c.none-name.ensures)
