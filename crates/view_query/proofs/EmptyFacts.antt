-- A view without a cell, of which zeros are left out, shows no line and asks for none.
use Rattle.std.proofs.Common.{◌≡◌, ◌∙◌, ℕ, Bool, true, false, ◌||◌, ◌&&◌, ◌⊎◌, inl, inr, List, [], ◌∷◌, ◌++◌, map, filter, refl, sym, ap, Result, Ok, Err, OnOk}
use Rattle.std.specs.List.{enumerate_from, flat_map}
use Rattle.std.proofs.lemmas.Bool.{or_cases}
use Rattle.std.proofs.lemmas.List.{append-nil}
use Rattle.cube_fixed.specs.declared.value.Value.{Value}
use Rattle.cube_space.specs.Layout.{Layout}
use Rattle.view_query.specs.declared.shape.View.{View}
use Rattle.view_query.specs.Views.{lines, cell_at, table_cells}
use Rattle.view_query.specs.Table.{is_shown, head_line, shown_rows, shown_columns, table_lines, table_text}
use Rattle.view_query.specs.Inside.Lines.{has_empty, shows_nothing}
use Rattle.view_query.specs.Inside.Text.{heads, led}
use Rattle.view_query.proofs.LineFacts.{none_with_empty}
use Rattle.view_query.proofs.ShownFacts.{title_of}

both_true : (a b : Bool) → (a && b) ≡ true → (a ≡ true) × (b ≡ true)
both_true true b h = (refl, h)
both_true false b h = absurd (cc)

-- a side of the view has no line
no_line : (view : View) → (has_empty view.rows || has_empty view.columns) ≡ true → (lines view.rows ≡ []) ⊎ (lines view.columns ≡ [])
no_line view any = by (or_cases (has_empty view.rows) (has_empty view.columns) any)
  where
    by : (has_empty view.rows ≡ true) ⊎ (has_empty view.columns ≡ true) → (lines view.rows ≡ []) ⊎ (lines view.columns ≡ [])
    by (inl rows) = inl (sym (none_with_empty view.rows rows))
    by (inr columns) = inr (sym (none_with_empty view.columns columns))

-- where there is no line along or none across, no line along is left
each_out : (along : List (List ℕ)) → filter (λ line. is_shown true []) along ≡ []
each_out [] = refl
each_out (line ∷ along) = each_out along

none_left : (nozeros : Bool) → nozeros ≡ true → (value : List ℕ → List ℕ → Value) (along across : List (List ℕ)) → (along ≡ []) ⊎ (across ≡ [])
    → filter (λ line. is_shown nozeros (map (value line) across)) along ≡ []
none_left nozeros out value along across (inl none) = ap (filter (λ line. is_shown nozeros (map (value line) across))) none
none_left nozeros out value along across (inr none) =
    ap (λ l. filter (λ line. is_shown nozeros (map (value line) l)) along) none ∙ ap (λ b. filter (λ line. is_shown b []) along) out ∙ each_out along

-- and there is no cell
no_pair : (cell : List ℕ → List ℕ → ℕ) (rows : List (List ℕ)) → flat_map (λ row. map (cell row) []) rows ≡ []
no_pair cell [] = refl
no_pair cell (row ∷ rows) = no_pair cell rows

no_cell : (cell : List ℕ → List ℕ → ℕ) (rows columns : List (List ℕ)) → (rows ≡ []) ⊎ (columns ≡ []) → flat_map (λ row. map (cell row) columns) rows ≡ []
no_cell cell rows columns (inl none) = ap (flat_map (λ row. map (cell row) columns)) none
no_cell cell rows columns (inr none) = ap (λ l. flat_map (λ row. map (cell row) l) rows) none ∙ no_pair cell rows

pub nothing_asked : (space : Layout) (view : View) → shows_nothing view ≡ true → table_cells space view ≡ []
nothing_asked space view nothing = no_cell (cell_at space view) (lines view.rows) (lines view.columns) (no_line view (both_true view.nozeros _ nothing).1)

swapped : (view : View) → (lines view.rows ≡ []) ⊎ (lines view.columns ≡ []) → (lines view.columns ≡ []) ⊎ (lines view.rows ≡ [])
swapped view (inl rows) = inr rows
swapped view (inr columns) = inl columns

-- so the table is its title and its head lines
pub nothing_left : (space : Layout) (view : View) (values : ℕ → Value) → shows_nothing view ≡ true → title_of 0 0 ++ heads space view [] [] ≡ table_text space view values
unfolding table_text
nothing_left space view values nothing =
    let value : List ℕ → List ℕ → Value = λ row column. values (cell_at space view row column) in
    let parts = both_true view.nozeros (has_empty view.rows || has_empty view.columns) nothing in
    let none = no_line view parts.1 in
    let rows : shown_rows view value ≡ [] = none_left view.nozeros parts.0 value (lines view.rows) (lines view.columns) none in
    let columns : shown_columns view value ≡ [] = none_left view.nozeros parts.0 (λ column row. value row column) (lines view.columns) (lines view.rows) (swapped view none) in
    let head_lines : List (List ℕ) = map (head_line space view []) (enumerate_from 0 view.columns) in
    ap (λ l. title_of 0 0 ++ led l) (sym (append-nil head_lines))
    ∙ sym (ap (λ l. table_lines space view value l (shown_columns view value)) rows ∙ ap (table_lines space view value []) columns)

-- what holds anyway holds of an answer
pub on_ok : {T E : Type 0} (r : Result T E) {P : Type 0} → P → OnOk r P
on_ok (Ok x) p = p
on_ok (Err e) p = tt
