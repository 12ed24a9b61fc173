use Rattle.std.proofs.Common.{◌≡◌, ℕ, List, Some, option_map, ap, sym, subst}
use Rattle.std.specs.Arc.{arc_value}
use Rattle.file_passes.specs.Pass.{source_of}
use Rattle.user_text.specs.Rows.{rows_of}
use Rattle.judged_files.proofs.RecordFacts.{records-behind, nothing-behind}
use Rattle.judged_files.proofs.loads.records_of.Goals as goal

pub returns-in_ok-records-in-Some-clause-records : goal.returns-in_ok-records-in-Some-clause-records
returns-in_ok-records-in-Some-clause-records c skip =
    let sources = c.args.sources.now in
    let records = arc_value c.in_ok-records-in-Some.records in
    let here : option_map (λ source. rows_of c.args.separator 0 source.1) (source_of sources c.in-Some.name) ≡ Some records =
    subst (λ (n : List ℕ). option_map (λ source. rows_of c.args.separator 0 source.1) (source_of sources n) ≡ Some records) c.as_slice.ensures c.in_ok-records-in-Some.ensures.records in
    rw c.in-Some.is (records-behind (source_of sources c.in-Some.name) records c.args.separator skip here)

pub returns-in-None-clause-records : goal.returns-in-None-clause-records
returns-in-None-clause-records c skip = rw c.in-None.is (ap Some (sym (nothing-behind skip)))
