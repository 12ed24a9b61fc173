use Rattle.std.proofs.Common.{◌≡◌, ◌+◌, ◌++◌, refl, rules, sym}
use Rattle.std.proofs.lemmas.List.{append-nil}
use Rattle.cube_sample.specs.Sample.{leaf_line}
use Rattle.cube_sample.proofs.Repeating.{appended, none_repeated}
use Rattle.cube_sample.proofs.model.write_leaves.Goals as goal

pub loop-index-init : goal.loop-index-init
loop-index-init c = sym (rw (none_repeated (λ i. leaf_line c.args.letter.now (i + 1))) (append-nil c.args.out.now.items))

pub loop-index-preserved : goal.loop-index-preserved
loop-index-preserved c =
    let line : c.write_leaf.new.out.items ≡ c.loop-index.out.items ++ leaf_line c.args.letter.now (c.loop-index.index + 1) = search rules in
    appended (λ i. leaf_line c.args.letter.now (i + 1)) c.loop-index.index c.args.out.now.items c.loop-index.out.items
    (leaf_line c.args.letter.now (c.loop-index.index + 1)) c.write_leaf.new.out.items line c.loop-index.invariant refl
