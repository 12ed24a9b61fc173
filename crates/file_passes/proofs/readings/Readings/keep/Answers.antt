use Rattle.std.proofs.Common.{rules, ◌≡◌, ◌∙◌, ◌∷◌, ◌++◌, [], ℕ, List, length, Some, string_bytes, bytes_eq, sym, ap, subst}
use Rattle.std.specs.BTreeMap.{get_by_text}
use Rattle.std.specs.Map.{update}
use Rattle.std.proofs.lemmas.Map.Text.{btree_map_updates_text}
use Rattle.file_passes.specs.declared.reading.Reading.{Reading}
use Rattle.file_passes.specs.Inside.Kept.{AreFound}
use Rattle.file_passes.proofs.ReadingsFacts.{found-push}
use Rattle.file_passes.proofs.readings.Readings.keep.Goals as goal

pub invariant_of-self-2 : goal.invariant_of-self-2
invariant_of-self-2 c =
    let files = c.self.inside.files.items in
    let places = c.self.inside.places in
    let after = c.insert.new.self in
    let key = string_bytes c.in_ok-key.key in
    let reading : Reading = record { name = c.in_ok-name.name; bytes = c.args.bytes } in
    let same_name : key ≡ reading.name.items = search rules in
    let long : c.len.result ≡ length files = search rules in
    let updated : (name : List ℕ) → get_by_text after name ≡ update bytes_eq (get_by_text places) key (Some c.len.result) name =
    btree_map_updates_text key places after (Some c.len.result) c.in_ok-insert.ensures.updates in
    let pushed : c.push_reserved.new.self.items ≡ files ++ reading ∷ [] = search rules in
    let found = found-push files places after reading c.self.invariant
    (λ name. updated name ∙ ap (λ bytes. update bytes_eq (get_by_text places) bytes (Some c.len.result) name) same_name
    ∙ ap (λ n. update bytes_eq (get_by_text places) reading.name.items (Some n) name) long) in
    subst (λ kept. AreFound kept after) (sym pushed) found
