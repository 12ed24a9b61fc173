use Rattle.std.proofs.Common.{ℕ, ℤ, [], get_or, subst, ap, sym, ◌∙◌}
use Rattle.std.proofs.lemmas.List.{take_all}
use Rattle.std.proofs.lemmas.List.Folds.{flat_map-map}
use Rattle.std.specs.List.{flat_map}
use Rattle.cube_lex.specs.Written.{Spaces}
use Rattle.dim_core.specs.Outline.{names_of}
use Rattle.cube_lex.proofs.Spaced.{spaces-more}
use Rattle.dim_text.proofs.PrintedParts.{further_of}
use Rattle.dim_text.specs.Spelled.{next_part_spelled}
use Rattle.dim_text.proofs.printing.write_further.Goals as goal

pub loop-part-preserved : goal.loop-part-preserved
loop-part-preserved c = spaces-more (further_of (names_of c.args.dimension.now.elements)) c.args.out.now.items c.loop-part.out.items c.write_part.new.out.items c.args.parts.now c.loop-part.part-index _ c.loop-part-test.true
    c.loop-part.invariant c.in_ok-write_part.ensures

pub returns : goal.returns
returns c = subst (Spaces c.args.out.now.items c.loop-part.out.items)
    (ap (flat_map (further_of (names_of c.args.dimension.now.elements))) (take_all c.loop-part.part-index c.args.parts.now c.loop-part-test.false)
    ∙ sym (flat_map-map next_part_spelled (λ (part : ℕ × ℤ). (get_or (names_of c.args.dimension.now.elements) part.0 [], part.1)) c.args.parts.now)) c.loop-part.invariant
