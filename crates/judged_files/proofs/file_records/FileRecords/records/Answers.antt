use Rattle.std.proofs.Common.{rules, ◌≡◌, ◌∙◌, ◌++◌, ◌∷◌, [], Some, length, option_map, position, bytes_eq, refl, sym, ap, subst}
use Rattle.std.specs.Arc.{arc_value}
use Rattle.std.proofs.lemmas.Option.{slice_get_read}
use Rattle.file_passes.specs.Pass.{source_of}
use Rattle.user_text.specs.Rows.{rows_of}
use Rattle.judged_files.specs.Inside.Kept.{file_records, key_of}
use Rattle.judged_files.proofs.RecordFacts.{bytes-read, kept-low, records-added, records-kept}
use Rattle.judged_files.proofs.file_records.FileRecords.records.Goals as goal

pub returns-in-Some-clause-records : goal.returns-in-Some-clause-records
returns-in-Some-clause-records c =
    let sources = c.self.inside.sources.now in
    let keys = c.self.inside.keys in
    let kept = c.self.inside.kept.items in
    let separator = c.args.separator in
    let name = c.args.name.now in
    let place = c.in-Some.place in
    let spelled : c.deref.result.now ≡ key_of separator name = c.deref.ensures.value ∙ c.in_ok-key.ensures in
    let at : position (λ other. bytes_eq other (key_of separator name)) keys ≡ Some place =
    subst (λ key. position (λ other. bytes_eq other key) keys ≡ Some place) spelled (sym c.in-Some.ensures) in
    let low = kept-low sources keys kept (key_of separator name) place c.self.invariant.1 at in
    let read = slice_get_read kept (length kept) place c.index.result.now refl low c.index.ensures in
    let found = records-kept sources keys kept separator name place c.index.result.now c.self.invariant.1 at read in
    ap (λ s. file_records s separator name) (sym c.self.view_is) ∙ found ∙ ap Some (sym c.in_ok-records.ensures)

pub invariant_of-self-2 : goal.invariant_of-self-2
invariant_of-self-2 c =
    let sources = c.self.inside.sources.now in
    let separator = c.args.separator in
    let name = c.args.name.now in
    let records = c.in_ok-records-2.records in
    let is : arc_value records ≡ rows_of separator 0 c.bytes.result.now = search rules in
    let bytes : option_map (λ source. source.1) (source_of sources name) ≡ Some c.bytes.result.now =
    ap (λ s. option_map (λ source. source.1) (source_of s name)) c.self.view_is ∙ c.bytes.ensures in
    let file : file_records sources separator name ≡ Some (arc_value records) =
    bytes-read (source_of sources name) c.bytes.result.now separator bytes ∙ ap Some (sym is) in
    let keys : c.keep.new.keys ≡ c.self.inside.keys ++ key_of separator name ∷ [] = search rules in
    let kept : c.keep.new.kept.items ≡ c.self.inside.kept.items ++ records ∷ [] = search rules in
    (c.self.invariant.0, rw (keys, kept) (records-added sources c.self.inside.keys c.self.inside.kept.items separator name records file c.self.invariant.1))
