use Rattle.std.proofs.Common.{◌≡◌, ◌<◌, ◌∙◌, ◌++◌, ◌∷◌, [], ap, sym, subst, arith, pos, length, All, slice_index_or}
use Rattle.std.proofs.lemmas.List.{get_or_default, length-set}
use Rattle.bind_arguments.proofs.KinFacts.{kin_of, part_more}
use Rattle.bind_arguments.proofs.parents.add_to_parts.Goals as goal

pub loop-part-preserved : goal.loop-part-preserved
loop-part-preserved c =
    let lists = c.loop-part.parents.items in
    let parts = c.args.parts.now in
    let i = c.loop-part.part-index in
    let part = slice_index_or parts i (0, pos 0) in
    let inside : i < length parts = omega (arith, c.loop-part-test.true) in
    let at : part ≡ slice_index_or parts i part = get_or_default parts i (0, pos 0) part inside in
    let first = c.requires.within i (0, pos 0) inside in
    let within : part.0 < length lists = omega (arith, first, c.loop-part.invariant.len) in
    let old = kin_of lists part.0 c.index_mut.result.now within c.index_mut.ensures.value in
    let len = length-set lists part.0 c.add_parent.new.parents in
    record {
      len = len ∙ c.loop-part.invariant.len;
      kin = λ e low. part_more c.args.parents.now.items lists c.args.parent parts i part c.add_parent.new.parents at inside within (c.requires.before part.0 first) c.loop-part.invariant.kin
          (λ all. c.in_ok-add_parent.ensures.added (subst (All (λ other. other < c.args.parent)) old all) ∙ ap (λ l. l ++ c.args.parent ∷ []) (sym old))
          (λ front is. c.in_ok-add_parent.ensures.there front (sym old ∙ is) ∙ sym old) e (omega (arith, low, len));
    }
