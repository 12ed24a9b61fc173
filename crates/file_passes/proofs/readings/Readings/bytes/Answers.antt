use Rattle.std.proofs.Common.{rules, ◌<◌, length, Some, sym, ◌∙◌, ap}
use Rattle.std.specs.Option.{option_and_then, option_map}
use Rattle.std.proofs.lemmas.Option.{slice_get-get_or}
use Rattle.file_passes.specs.Inside.Kept.{bytes_at}
use Rattle.file_passes.specs.Pass.{bytes_of}
use Rattle.file_passes.proofs.readings.Readings.bytes.Goals as goal

pub returns-in-Some : goal.returns-in-Some
returns-in-Some c =
    let files = c.self.inside.files.items in
    let name = c.args.name.now in
    let place = c.in-Some.place.now in
    let below : place < length files = c.self.invariant.within name place (sym c.in-Some.ensures.value) in
    ap Some (c.as_slice.ensures.value ∙ ap (λ reading. reading.bytes.items) c.index.ensures)
    ∙ sym (ap (option_map (λ reading. reading.bytes.items)) (slice_get-get_or files place c.index.result.now below))
    ∙ ap (option_and_then (bytes_at files)) c.in-Some.ensures.value ∙ c.self.invariant.bytes name ∙ ap (λ r. bytes_of r name) c.self.view_is

pub returns-in-None : goal.returns-in-None
returns-in-None c =
    let files = c.self.inside.files.items in
    let name = c.args.name.now in
    ap (option_and_then (bytes_at files)) c.in-None.ensures.value ∙ c.self.invariant.bytes name ∙ ap (λ r. bytes_of r name) c.self.view_is

pub index-requires : goal.index-requires
index-requires c =
    let low : c.in-Some.place.now < length c.self.inside.files.items = c.self.invariant.within c.args.name.now c.in-Some.place.now (sym c.in-Some.ensures.value) in
    search (rules, low)
