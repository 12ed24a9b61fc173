-- The front and the back are the whole.
use Rattle.std.proofs.Common.{◌≡◌, take, drop}
use Rattle.std.proofs.lemmas.List.Elements.{All-take, All-drop}
use Rattle.cell_store.specs.declared.level.TheConstants.{HALF_LEVEL}
use Rattle.cell_store.specs.declared.node.Node.{Node}
use Rattle.cell_store.specs.Inside.Levels.{IsNode}
use Rattle.cell_store.proofs.level.LevelPart.cut.Goals as goal

pub returns-clause-front : goal.returns-clause-front
returns-clause-front g c =
    let nodes = c.args.self.now.nodes.items in
    let front : c.replace-nodes.result.items ≡ take HALF_LEVEL nodes = rw c.replace-nodes.ensures.value c.in_ok-back.ensures.items in
    record {
      nodes = rw front (All-take (λ (node : Node g.row.T.Denot). IsNode g.E.Placed.cell g.T.Part.entries g.T.Part.is_sized g.T.Part.size g.T.Part.half node) HALF_LEVEL nodes c.requires.sized.nodes);
      last_part = c.new.ensures.sized;
      short = c.new.ensures.short;
    }

pub returns-clause-sized : goal.returns-clause-sized
returns-clause-sized g c =
    let nodes = c.args.self.now.nodes.items in
    let back : c.replace-nodes.new.dest.items ≡ drop HALF_LEVEL nodes = rw c.replace-nodes.ensures.after c.in_ok-back.ensures.tail in
    record {
      nodes = rw back (All-drop (λ (node : Node g.row.T.Denot). IsNode g.E.Placed.cell g.T.Part.entries g.T.Part.is_sized g.T.Part.size g.T.Part.half node) HALF_LEVEL nodes c.requires.sized.nodes);
      last_part = c.requires.sized.last_part;
      short = c.requires.sized.short;
    }
