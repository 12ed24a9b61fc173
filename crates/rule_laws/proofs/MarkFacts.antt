-- The number of a marked element.
use Rattle.std.proofs.Common.{◌≡◌, ap, ℕ, ℤ, pos, Bool, List, Option, option_map, slice_get, unwrap_or}
use Rattle.std.proofs.lemmas.Option.{slice_get-map}
use Rattle.rule_laws.specs.Tables.{number_of, mark_number, mark_numbers}

pub mark_number_of : (marks : List Bool) (element : ℕ) → number_of (mark_numbers marks) element ≡ unwrap_or (option_map mark_number (slice_get marks element)) (pos 0)
mark_number_of marks element = ap (λ (o : Option ℤ). unwrap_or o (pos 0)) (slice_get-map mark_number marks element)
