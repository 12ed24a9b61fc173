use Rattle.std.proofs.Common.{◌≡◌, ◌+◌, ◌++◌, refl, rules, sym}
use Rattle.std.proofs.lemmas.List.{append-nil}
use Rattle.cube_sample.specs.Sample.{further_part}
use Rattle.cube_sample.proofs.Repeating.{appended, none_repeated}
use Rattle.cube_sample.proofs.model.write_further_parts.Goals as goal

pub loop-index-init : goal.loop-index-init
loop-index-init c = sym (rw (none_repeated (λ i. further_part c.args.letter.now (i + 2))) (append-nil c.args.out.now.items))

pub loop-index-preserved : goal.loop-index-preserved
loop-index-preserved c =
    let line : c.write_part.new.out.items ≡ c.loop-index.out.items ++ further_part c.args.letter.now (c.loop-index.index + 2) = search rules in
    appended (λ i. further_part c.args.letter.now (i + 2)) c.loop-index.index c.args.out.now.items c.loop-index.out.items
    (further_part c.args.letter.now (c.loop-index.index + 2)) c.write_part.new.out.items line c.loop-index.invariant refl
