-- The numbers of passes: a pass commits under one number, and keeps those of the passes that were met into it.
use Rattle.std.specs.Prelude.{ℕ, ◌==◌, Bool, List, ◌∷◌, Option, None, Some}
use Rattle.std.specs.List.{list_any}
use Rattle.version_book.specs.declared.pass_view.PassView.{PassView}

-- whether it is one of these numbers
abbrev pub has : List ℕ → ℕ → Bool
has ns n = list_any (λ m. m == n) ns

-- all numbers of a pass
abbrev pub numbers : {C T : Type 0} → PassView C T → List ℕ
numbers view = view.number ∷ view.joined

-- the number that a pass of two gives next: that of the one that gives numbers
abbrev pub next_of_both : Option ℕ → Option ℕ → Option ℕ
next_of_both None other = other
next_of_both (Some n) other = Some n
