use Rattle.std.proofs.Common.{◌≡◌, OnOk, subst}
use Rattle.judged_files.specs.Inside.RuleFiles.{IsEarlierWith}
use Rattle.judged_files.proofs.RuleFileFacts.{its-name, files-shared}
use Rattle.judged_files.proofs.rules.add_file.Goals as goal

pub returns-in-Some-earlier_with : goal.returns-in-Some-earlier_with
returns-in-Some-earlier_with c =
    let cubes = c.args.cubes.now in
    let item = c.index-cubes-cube.result in
    let earlier = c.in-Some-earlier_with.earlier in
    let name = c.in-Some.name in
    let has = its-name cubes c.args.cube c.in-Some.field-0-0 item name c.index-cubes-cube.is c.in-Some.is in
    let there = subst (λ n. IsEarlierWith cubes c.args.cube n earlier) c.as_slice.ensures c.in-Some-earlier_with.ensures in
    let more = files-shared cubes item c.args.sources.now c.args.cube c.requires.cube c.index-cubes-cube.is c.args.files.now name earlier c.requires.so_far has there in
    subst (λ files. OnOk c.push_shared.result (c.push_shared.new.self ≡ files)) more c.push_shared.ensures.pushed
