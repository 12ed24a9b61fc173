-- The lines of a sum's parts, which are found one after another.
use Rattle.std.proofs.Common.{◌≡◌, sym, ◌∙◌, ap, arith, ℕ, zero, suc, ◌+◌, ◌-◌, ◌≤◌, ltb, Bool, true, false, cond, ℤ, List, [], ◌∷◌, ◌++◌, length, map, take, append_assoc}
use Rattle.std.specs.Prelude.{fold}
use Rattle.std.proofs.lemmas.Bool.Decides.{nat_tests}
use Rattle.std.proofs.lemmas.List.{append-nil, length_push}
use Rattle.cube_fixed.specs.declared.value.Value.{Value}
use Rattle.cell_trace.specs.declared.line.Line.{Line}
use Rattle.cell_trace.specs.declared.line.Line.TheVariants as lines
use Rattle.cell_trace.specs.Inside.Listed.{Listed, none_listed, with_part, lines_of, part_at}
use Rattle.cell_trace.specs.Trace.{most_parts, part_lines}

module _ (values : ℕ → Value) where
  -- with a cell of this weight more
  abbrev pub with_cell : ℕ → Listed → ℕ × ℤ → Listed
  with_cell most listed pair = with_part most listed (part_at values pair)

  abbrev listed_at : List Line → ℕ → Listed
  listed_at listed more = record { lines = listed; more = more }

  -- the lines of these cells
  abbrev lines_at : List (ℕ × ℤ) → List Line
  lines_at cells = map (λ pair. lines.Part (part_at values pair)) cells

  full : (most : ℕ) (cells : List (ℕ × ℤ)) (listed : List Line) (more : ℕ) → most ≤ length listed
      → fold (with_cell most) (listed_at listed more) cells ≡ listed_at listed (more + length cells)
  full most [] listed more past = ap (listed_at listed) (let e : more ≡ more + 0 = omega arith in e)
  full most (cell ∷ cells) listed more past =
      let no : ltb (length listed) most ≡ false = grind (arith, nat_tests) in
      let e : more + 1 + length cells ≡ more + suc (length cells) = omega arith in
      rw no (full most cells listed (more + 1) past ∙ ap (listed_at listed) e)

  with_room : (most room : ℕ) (cells : List (ℕ × ℤ)) (listed : List Line) → length listed + room ≡ most
      → fold (with_cell most) (listed_at listed 0) cells ≡ listed_at (listed ++ lines_at (take room cells)) (length cells - room)
  with_room most zero cells listed is =
      full most cells listed 0 (omega (arith, is))
      ∙ ap (λ (more : ℕ). listed_at listed more) (let e : 0 + length cells ≡ length cells - 0 = omega arith in e)
      ∙ ap (λ (all : List Line). listed_at all (length cells - 0)) (sym (append-nil listed))
  with_room most (suc room) [] listed is =
      ap (λ (all : List Line). listed_at all 0) (sym (append-nil listed))
      ∙ ap (listed_at (listed ++ [])) (let e : 0 ≡ 0 - suc room = omega arith in e)
  with_room most (suc room) (cell ∷ cells) listed is =
      let yes : ltb (length listed) most ≡ true = grind (arith, nat_tests, is) in
      let line = lines.Part (part_at values cell) in
      let longer : length (listed ++ line ∷ []) + room ≡ most = omega (arith, is, length_push listed line) in
      let fewer : length cells - room ≡ suc (length cells) - suc room = omega arith in
      rw yes
      (with_room most room cells (listed ++ line ∷ []) longer
      ∙ ap (λ (all : List Line). listed_at all (length cells - room)) (append_assoc listed (line ∷ []) (lines_at (take room cells)))
      ∙ ap (listed_at (listed ++ line ∷ lines_at (take room cells))) fewer)

  -- the lines of all cells
  pub all-lines : (cells : List (ℕ × ℤ)) → lines_of (fold (with_cell most_parts) none_listed cells) ≡ part_lines values cells
  all-lines cells = up_to most_parts
    where
      some_more : (most n : ℕ) → ltb 0 (n - most) ≡ ltb most n
      some_more most n = grind (arith, nat_tests)

      up_to : (most : ℕ) → lines_of (fold (with_cell most) none_listed cells)
          ≡ lines_at (take most cells) ++ cond (ltb most (length cells)) (lines.More (length cells - most) ∷ []) []
      up_to most =
          ap lines_of (with_room most most cells [] (let e : 0 + most ≡ most = omega arith in e))
          ∙ ap (λ (b : Bool). lines_at (take most cells) ++ cond b (lines.More (length cells - most) ∷ []) []) (some_more most (length cells))
