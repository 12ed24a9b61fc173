use Rattle.std.proofs.Common.{◌≡◌, Ok, subst}
use Rattle.dim_text.specs.Building.{opened}
use Rattle.dim_text.specs.Readers.Reading.{read_elements}
use Rattle.dim_text.proofs.BlockParts.{body_parts}
use Rattle.dim_text.proofs.block.statements_at.Goals as goal

pub returns : goal.returns
returns c = body_parts c.closing_at.result (opened c.args.head c.args.name) c.in_ok-partial.partial
    c.args.cursor.now.tokens c.elements_at.new.cursor.tokens c.ending_at.new.cursor.tokens c.closing_at.new.cursor.tokens
    (subst (λ start. read_elements start c.args.cursor.now.tokens ≡ Ok (tt, c.in_ok-partial.partial, c.elements_at.new.cursor.tokens)) c.in_ok-new.ensures c.in_ok-partial.ensures)
    c.in_ok-block.ensures.0 (c.closing_at.ensures c.in_ok-partial.partial c.in_ok-block.ensures.1)
