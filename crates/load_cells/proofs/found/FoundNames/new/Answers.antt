use Rattle.std.proofs.Common.{rules, ◌≡◌, length}
use Rattle.load_cells.proofs.Texts.{none_yet}
use Rattle.load_cells.proofs.found.FoundNames.new.Goals as goal

pub returns : goal.returns
returns c =
    let many : length c.loop-dim.elements.items ≡ length c.args.space.now.dimensions = search rules in
    record {
      cube = λ some. absurd (some (search rules));
      dimension = λ some. absurd (some (search rules));
      below = tt;
      elements = none_yet c.args.space.now.dimensions c.loop-dim.elements.items many c.loop-dim.invariant.none;
    }
