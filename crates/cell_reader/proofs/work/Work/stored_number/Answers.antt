use Rattle.std.proofs.Common.{◌≡◌, ◌∙◌, ap, ◌-◌, List, drop, length, take}
use Rattle.std.specs.Arc.{arc_value}
use Rattle.std.proofs.lemmas.List.{take_rest}
use Rattle.cell_store.specs.Entries.{after_writes, number_at}
use Rattle.cell_store.specs.declared.entry.Entry.{Entry}
use Rattle.cell_versions.specs.Versions.{NumberedVersion}
use Rattle.cell_writes.specs.Writes.{last_writes}
use Rattle.cell_reader.proofs.Works.{all_after}
use Rattle.cell_reader.proofs.work.Work.stored_number.Goals as goal

pub returns-clause-number : goal.returns-clause-number
returns-clause-number c =
    let work = c.args.self.now in
    let waiting = drop work.made work.written.items in
    let slice : take (length c.deref-2.result.now - work.made) (drop work.made c.deref-2.result.now) ≡ waiting = take_rest c.deref-2.result.now work.made ∙ ap (drop work.made) c.deref-2.ensures.value in
    let numbers : c.in_ok-numbers.numbers.entries ≡ last_writes waiting = c.in_ok-numbers.ensures ∙ ap last_writes slice in
    let stored : c.store-2.result.now ≡ (arc_value work.latest).stored = c.store-2.ensures.stored ∙ ap (λ (version : NumberedVersion). version.stored) c.deref-3.ensures in
    let all = all_after work.opening work.latest work.written.items work.made work.room work.ahead in
    c.number_after-number.ensures waiting numbers
    ∙ ap (λ (es : List Entry). number_at es c.args.cell) (ap (λ (es : List Entry). after_writes es waiting) stored ∙ all.after)
