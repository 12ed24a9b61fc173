use Rattle.std.proofs.Common.{rules, ◌≡◌, ◌+◌, ◌∷◌, ◌++◌, [], append_assoc, refl, sym, drop, subst, string_bytes}
use Rattle.file_passes.specs.Pass.{file, files}
use Rattle.cube_words.specs.Words.{texts_of}
use Rattle.file_passes.proofs.WordFacts.{texts-drop}
use Rattle.file_passes.proofs.readings.Readings.sources.Goals as goal

pub loop-name-preserved : goal.loop-name-preserved
loop-name-preserved c =
    let item = c.name-item.result in
    let rest = texts_of (drop (c.loop-name.name-index + 1) c.args.names.now) in
    let next : texts_of (drop c.loop-name.name-index c.args.names.now) ≡ string_bytes item ∷ rest =
    texts-drop c.args.names.now c.loop-name.name-index item c.loop-name-test.true c.name-item.is in
    let before = c.loop-name.invariant.rest in
    let known = subst (λ l. (files before.0 l).finds c.args.self.now before.1) next before.2 in
    let pushed : c.push.new.self.items ≡ c.loop-name.all.items ++ c.source.result ∷ [] = search rules in
    record {
      rest = (before.0, known.2.0, known.2.1);
      behind = λ extent more is.
          let found = subst (λ n. (file extent n).finds c.args.self.now c.source.result) c.as_str.ensures.value (c.source.ensures extent) in
          let here = subst (λ l. (files extent l).finds c.args.self.now (c.source.result ∷ more)) (sym next) (c.source.result, found, (more, is, refl)) in
          let all = c.loop-name.invariant.behind extent (c.source.result ∷ more) here in
          rw (pushed, append_assoc c.loop-name.all.items (c.source.result ∷ []) more) all;
    }
