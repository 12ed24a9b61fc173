use Rattle.std.proofs.Common.{subst}
use Rattle.std.proofs.lemmas.List.{take_all}
use Rattle.std.proofs.lemmas.List.Elements.{All-nil}
use Rattle.std.specs.List.{All, flat_map}
use Rattle.cube_lex.proofs.Spaced.{writes-none}
use Rattle.cube_lex.specs.Written.{Writes}
use Rattle.dim_core.specs.Outline.{IsDimension}
use Rattle.cube_lex.proofs.Spaced.{writes-more}
use Rattle.model_text.specs.Readers.Views.{IsValid}
use Rattle.model_text.specs.Spelled.{dim_spelled}
use Rattle.model_text.proofs.WrittenParts.{valid_more}
use Rattle.model_text.proofs.printing.write_dims.Goals as goal

pub loop-dim-init : goal.loop-dim-init
loop-dim-init c = (All-nil IsValid, writes-none c.args.out.now.items)

pub loop-dim-preserved : goal.loop-dim-preserved
loop-dim-preserved c = (
  valid_more c.args.dims.now c.loop-dim.dim-index c.dim-item.result c.loop-dim-test.true c.loop-dim.invariant.0
      (subst IsValid c.dim-item.is (subst IsDimension c.dimension.ensures.dimension c.len-len.ensures.valid)),
  writes-more dim_spelled c.args.out.now.items c.loop-dim.out.items c.print.new.out.items c.args.dims.now c.loop-dim.dim-index c.dim-item.result c.loop-dim-test.true c.loop-dim.invariant.1
      (subst (λ x. Writes c.loop-dim.out.items c.print.new.out.items (dim_spelled x)) c.dim-item.is c.in_ok-print.ensures.written.tokens),
)

pub returns : goal.returns
returns c = subst (λ ds. All IsValid ds × Writes c.args.out.now.items c.loop-dim.out.items (flat_map dim_spelled ds)) (take_all c.loop-dim.dim-index c.args.dims.now c.loop-dim-test.false) c.loop-dim.invariant
