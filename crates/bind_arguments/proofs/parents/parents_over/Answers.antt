use Rattle.std.proofs.Common.{◌<◌, ◌==◌, ◌∙◌, ap, sym, subst, arith, All}
use Rattle.std.specs.List.{list_any}
use Rattle.bind_arguments.specs.Family.{is_component}
use Rattle.bind_arguments.specs.Inside.Kin.{kin_at, with_parent}
use Rattle.bind_arguments.proofs.KinFacts.{all_before, one_parent_more}
use Rattle.bind_arguments.proofs.parents.parents_over.Goals as goal

pub add_to_parts-requires-clause-before : goal.add_to_parts-requires-clause-before
add_to_parts-requires-clause-before c element low =
    subst (All (λ other. other < c.loop-parent.parent)) (sym (c.loop-parent.invariant.kin element low)) (all_before c.args.dimension.now c.loop-parent.parent element)

pub loop-parent-preserved : goal.loop-parent-preserved
loop-parent-preserved c =
    let d = c.args.dimension.now in
    let p = c.loop-parent.parent in
    let old = c.loop-parent.parents.items in
    record {
      len = c.in_ok-add_to_parts.ensures.len ∙ c.loop-parent.invariant.len;
      kin = λ e low.
          c.in_ok-add_to_parts.ensures.kin e low
          ∙ ap (λ parts. with_parent (kin_at old e) p (list_any (λ part. part.0 == e) parts)) c.components.ensures
          ∙ ap (λ kin. with_parent kin p (is_component d p e)) (c.loop-parent.invariant.kin e (omega (arith, low, c.in_ok-add_to_parts.ensures.len)))
          ∙ sym (one_parent_more d p e);
    }
