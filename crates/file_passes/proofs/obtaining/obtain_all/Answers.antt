use Rattle.std.proofs.Common.{◌≡◌, ◌+◌, ◌∷◌, [], Ok, Err, ◌∙◌, ap, drop, subst, string_bytes}
use Rattle.file_passes.specs.Outside.{outside}
use Rattle.file_passes.specs.Pass.{file}
use Rattle.cube_words.specs.Words.{texts_of}
use Rattle.file_passes.specs.Halting.{ComesThrough}
use Rattle.file_passes.specs.Inside.Steps.{CarriesOn}
use Rattle.file_passes.proofs.WordFacts.{texts-drop, drop-end}
use Rattle.file_passes.proofs.ObtainFacts.{carries-next, carries-stop, carries-end}
use Rattle.file_passes.proofs.obtaining.obtain_all.Goals as goal

pub returns-in-Err-clause-through : goal.returns-in-Err-clause-through
returns-in-Err-clause-through g c =
    let item = c.name-item.result in
    let all = texts_of c.args.names.now in
    let rest = texts_of (drop (c.loop-name.name-index + 1) c.args.names.now) in
    let next : texts_of (drop c.loop-name.name-index c.args.names.now) ≡ string_bytes item ∷ rest =
    texts-drop c.args.names.now c.loop-name.name-index item c.loop-name-test.true c.name-item.is in
    let on = subst (λ l. CarriesOn g.F.Files.seen c.args.extent all c.args.files.now c.args.readings.now l c.loop-name.files c.loop-name.readings) next c.loop-name.invariant.on in
    let stop = subst (λ n. ComesThrough (file c.args.extent n) (outside g.F.Files.seen c.loop-name.files c.obtain.new.files) c.loop-name.readings c.obtain.new.readings (Err c.in-Err.halt)) c.as_str.ensures.value c.in-Err.ensures.through in
    carries-stop g.F.Files.seen c.args.extent all c.args.files.now c.args.readings.now (string_bytes item) rest c.loop-name.files c.obtain.new.files c.loop-name.readings c.obtain.new.readings c.in-Err.halt on stop

pub loop-name-preserved : goal.loop-name-preserved
loop-name-preserved g c =
    let item = c.name-item.result in
    let all = texts_of c.args.names.now in
    let rest = texts_of (drop (c.loop-name.name-index + 1) c.args.names.now) in
    let next : texts_of (drop c.loop-name.name-index c.args.names.now) ≡ string_bytes item ∷ rest =
    texts-drop c.args.names.now c.loop-name.name-index item c.loop-name-test.true c.name-item.is in
    let on = subst (λ l. CarriesOn g.F.Files.seen c.args.extent all c.args.files.now c.args.readings.now l c.loop-name.files c.loop-name.readings) next c.loop-name.invariant.on in
    let here = subst (λ n. ComesThrough (file c.args.extent n) (outside g.F.Files.seen c.loop-name.files c.obtain.new.files) c.loop-name.readings c.obtain.new.readings (Ok c.in_default.field-0)) c.as_str.ensures.value c.in_default.ensures.through in
    record {
      known = c.in_default.ensures.known ∙ c.loop-name.invariant.known;
      on = carries-next g.F.Files.seen c.args.extent all c.args.files.now c.args.readings.now (string_bytes item) rest c.loop-name.files c.obtain.new.files c.loop-name.readings c.obtain.new.readings c.in_default.field-0 on c.in_default.ensures.known here;
    }

pub returns-clause-through : goal.returns-clause-through
returns-clause-through g c =
    let all = texts_of c.args.names.now in
    let none : texts_of (drop c.loop-name.name-index c.args.names.now) ≡ [] = ap texts_of (drop-end c.loop-name.name-index c.args.names.now c.loop-name-test.false) in
    let on = subst (λ l. CarriesOn g.F.Files.seen c.args.extent all c.args.files.now c.args.readings.now l c.loop-name.files c.loop-name.readings) none c.loop-name.invariant.on in
    carries-end g.F.Files.seen c.args.extent all c.args.files.now c.args.readings.now c.loop-name.files c.loop-name.readings tt on
