use Rattle.std.specs.List.{All}
use Rattle.cube_lex.specs.Lexed.{IsWellFormed}
use Rattle.model_text.proofs.Kept.{cube_end_told, order_written, order_stands}
use Rattle.model_text.proofs.ModelExact.{cube_head_exact, cube_dimensions_exact}
use Rattle.model_text.proofs.Stopping.{rests}
use Rattle.model_text.proofs.cubes.cube_at.Goals as goal

pub add_cube-requires-clause-writable : goal.add_cube-requires-clause-writable
add_cube-requires-clause-writable c =
    let behind_head : All IsWellFormed c.head_at.new.cursor.tokens = rests cube_head_exact _ _ _ _ _ c.in_ok-position.ensures.read c.requires in
    let behind : All IsWellFormed c.dimensions_at.new.cursor.tokens = rests cube_dimensions_exact _ _ _ _ _ (c.in_ok-dims.ensures.read c.in_ok-position.position c.in_ok-position.name) behind_head in
    let (rules, order) = cube_end_told _ c.dimensions_at.new.cursor.tokens _ _ _ _ _ (rw c.has_totals.ensures at c.in_ok-rules.ensures) behind in
    record { name = c.in_ok-position.ensures.writable c.requires; dims = rw c.new-dims.ensures c.in_ok-dims.ensures.some; rules = rules; order = rw (c.order_of-order.ensures, c.version.ensures) (order_written c.args.partial.now.version c.in_ok-rules.order order) }

pub add_cube-requires-clause-ordered : goal.add_cube-requires-clause-ordered
add_cube-requires-clause-ordered c =
    let behind_head : All IsWellFormed c.head_at.new.cursor.tokens = rests cube_head_exact _ _ _ _ _ c.in_ok-position.ensures.read c.requires in
    let behind : All IsWellFormed c.dimensions_at.new.cursor.tokens = rests cube_dimensions_exact _ _ _ _ _ (c.in_ok-dims.ensures.read c.in_ok-position.position c.in_ok-position.name) behind_head in
    let (rules, order) = cube_end_told _ c.dimensions_at.new.cursor.tokens _ _ _ _ _ (rw c.has_totals.ensures at c.in_ok-rules.ensures) behind in
    rw (c.order_of-order.ensures, c.version.ensures) (order_stands c.args.partial.now.version c.in_ok-rules.order order)
