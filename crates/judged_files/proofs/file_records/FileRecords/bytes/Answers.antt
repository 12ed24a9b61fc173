use Rattle.std.proofs.Common.{◌≡◌, ◌∙◌, Some, IsSome, length, option_map, position, bytes_eq, refl, sym, ap, subst}
use Rattle.std.proofs.lemmas.Option.{slice_get_read}
use Rattle.file_passes.specs.Pass.{source_of}
use Rattle.judged_files.proofs.RecordFacts.{place-there, file-there}
use Rattle.judged_files.proofs.file_records.FileRecords.bytes.Goals as goal

pub unwrap-place-requires : goal.unwrap-place-requires
unwrap-place-requires c =
    let known = subst (λ s. IsSome (source_of s c.args.name.now)) (sym c.self.view_is) c.requires in
    subst IsSome (sym c.place_of.ensures) (place-there c.self.inside.sources.now c.self.inside.names c.args.name.now c.self.invariant.0 known)

pub returns : goal.returns
returns c =
    let sources = c.self.inside.sources.now in
    let word = c.args.name.now in
    let place = c.unwrap-place.result in
    let at : position (λ other. bytes_eq other word) c.self.inside.names ≡ Some place = sym c.place_of.ensures ∙ c.unwrap-place.ensures in
    let there = file-there sources c.self.inside.names word place c.self.invariant.0 at in
    let read = slice_get_read sources (length sources) place c.index-self-place.result refl there.0 c.index-self-place.is in
    let bytes : c.index-self-place.result.1 ≡ c.bytes.result.now = ap (λ source. source.1) c.index-self-place.is ∙ sym c.bytes.ensures in
    ap (λ s. option_map (λ source. source.1) (source_of s word)) (sym c.self.view_is)
    ∙ ap (option_map (λ source. source.1)) (there.1 ∙ read) ∙ ap Some bytes
