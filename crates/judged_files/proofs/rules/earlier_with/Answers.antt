use Rattle.std.proofs.Common.{◌≡◌, ◌<◌, ◌∙◌, bytes_eq, length, true, sym, subst, arith}
use Rattle.judged_files.proofs.RuleFileFacts.{its-name, with-name}
use Rattle.judged_files.proofs.rules.earlier_with.Goals as goal

pub returns-in-loop-earlier : goal.returns-in-loop-earlier
returns-in-loop-earlier c =
    let cubes = c.args.cubes.now in
    let item = c.index-cubes-earlier.result in
    let earlier = c.loop-earlier.earlier in
    let file = c.in-Some.file in
    let low : earlier < length cubes = omega (arith, c.loop-earlier-test.true, c.requires) in
    let has = its-name cubes earlier c.in-Some.field-0-0 item file c.index-cubes-earlier.is c.in-Some.is in
    let same = subst (λ bytes. bytes_eq bytes c.args.name.now ≡ true) c.as_slice.ensures (sym c.eq.ensures ∙ c.if-eq.true) in
    with-name cubes item c.args.cube earlier file c.args.name.now c.loop-earlier-test.true low c.index-cubes-earlier.is has same
