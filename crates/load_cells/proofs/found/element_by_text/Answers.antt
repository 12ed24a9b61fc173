use Rattle.std.proofs.lemmas.List.Elements.{All-set}
use Rattle.load_cells.specs.Found.{IsFound}
use Rattle.load_cells.specs.Names.{element_by_text}
use Rattle.load_cells.proofs.found.element_by_text.Goals as goal

pub returns-clause-found : goal.returns-clause-found
returns-clause-found c =
    All-set (IsFound (element_by_text c.args.dimension.now)) c.make_places.new.self.names.items c.place_in-place.result c.element_at.new.found c.element_at.ensures.found c.make_places.ensures.names
