use Rattle.std.proofs.Common.{sym, ◌∙◌, position, is_some, bytes_eq, List, ℕ, Option, Some, None, ◌≡◌}
use Rattle.std.specs.List.{list_any}
use Rattle.lists.proofs.NumberedFacts.{some_there, none_there}
use Rattle.word_table.proofs.table.WordTable.contains.Goals as goal

there : (words : List (List ℕ)) (word : List ℕ) (o : Option ℕ) → position (λ other. bytes_eq other word) words ≡ o → is_some o ≡ list_any (λ other. bytes_eq other word) words
there words word (Some i) at = sym (some_there (λ other. bytes_eq other word) words i at)
there words word None at = sym (none_there (λ other. bytes_eq other word) words at)

pub returns : goal.returns
returns c = c.is_some.ensures ∙ there c.args.self.now c.args.word.now c.place_of.result (sym c.place_of.ensures)
