-- Which lines are shown, and what is written of them.
use Rattle.std.proofs.Common.{◌≡◌, ◌+◌, ℕ, zero, suc, Bool, true, false, not, ◌||◌, if◌then◌else◌, List, [], ◌∷◌, ◌++◌, map, filter, length, Some, refl, sym, ap, ◌∙◌, arith, slice_get, count_by, codes, decimal, append_assoc}
use Rattle.std.specs.List.{enumerate_from, items_where_true, list_any, range_with_len, zip}
use Rattle.std.specs.Option.{option_map_or}
use Rattle.std.proofs.lemmas.Simd.{map-map}
use Rattle.std.proofs.lemmas.Grind.{flat_map-append}
use Rattle.std.proofs.lemmas.List.Sums.{sum_by-cons}
use Rattle.cube_fixed.specs.declared.value.Value.{Value}
use Rattle.cube_fixed.specs.Arithmetic.{is_zero}
use Rattle.cube_space.specs.Layout.{Layout}
use Rattle.view_query.specs.declared.shape.View.{View}
use Rattle.view_query.specs.Views.{lines}
use Rattle.view_query.specs.Table.{is_shown, head_line, row_line, table_of}
use Rattle.view_query.specs.Inside.Lines.{is_other_at}
use Rattle.view_query.specs.Inside.Text.{led, heads, row_lines}

-- ---- lists

pub where-map : {A B : Type 0} (p : A → Bool) (f : A → B) (xs : List A) → items_where_true (map p xs) (map f xs) ≡ map f (filter p xs)
where-map p f [] = refl
where-map p f (x ∷ xs) = by (p x) (where-map p f xs)
  where
    by : (b : Bool) → items_where_true (map p xs) (map f xs) ≡ map f (filter p xs)
        → items_where_true (b ∷ map p xs) (f x ∷ map f xs) ≡ map f (if b then x ∷ filter p xs else filter p xs)
    by true later = ap (λ l. f x ∷ l) later
    by false later = later

pub where-self : {A : Type 0} (p : A → Bool) (xs : List A) → items_where_true (map p xs) xs ≡ filter p xs
where-self p [] = refl
where-self p (x ∷ xs) = by (p x) (where-self p xs)
  where
    by : (b : Bool) → items_where_true (map p xs) xs ≡ filter p xs → items_where_true (b ∷ map p xs) (x ∷ xs) ≡ (if b then x ∷ filter p xs else filter p xs)
    by true later = ap (λ l. x ∷ l) later
    by false later = later

pub count-where : {A : Type 0} (p : A → Bool) (xs : List A) → count_by (λ b. b) (map p xs) ≡ length (filter p xs)
count-where p [] = refl
count-where p (x ∷ xs) = sum_by-cons (λ b. if b then 1 else 0) (p x) (map p xs) ∙ by (p x) (count-where p xs)
  where
    by : (b : Bool) → count_by (λ t. t) (map p xs) ≡ length (filter p xs) → (if b then 1 else 0) + count_by (λ t. t) (map p xs) ≡ length (if b then x ∷ filter p xs else filter p xs)
    by true later = omega (arith, later)
    by false later = omega (arith, later)

zip-map : {A B : Type 0} (g : A → B) (xs : List A) → zip xs (map g xs) ≡ map (λ x. (x, g x)) xs
zip-map g [] = refl
zip-map g (x ∷ xs) = ap (λ l. (x, g x) ∷ l) (zip-map g xs)

map-range : {A B : Type 0} (f : ℕ → B) (g : A → B) (xs : List A) (from : ℕ) → ((k : ℕ) (x : A) → slice_get xs k ≡ Some x → f (from + k) ≡ g x) → map f (range_with_len from (length xs)) ≡ map g xs
map-range f g [] from same = refl
map-range f g (x ∷ xs) from same =
    let here : from + 0 ≡ from = omega arith in
    ap (λ y. y ∷ map f (range_with_len (from + 1) (length xs))) (ap f (sym here) ∙ same 0 x refl)
    ∙ ap (λ l. g x ∷ l) (map-range f g xs (from + 1) (λ k y is. let later : from + 1 + k ≡ from + suc k = omega arith in ap f later ∙ same (suc k) y is))

got-map : {A B : Type 0} (f : A → B) (xs : List A) (k : ℕ) (x : A) → slice_get xs k ≡ Some x → slice_get (map f xs) k ≡ Some (f x)
got-map f [] k x is = absurd (cc is)
got-map f (y ∷ xs) zero x is = let same : y ≡ x = cc in ap (λ z. Some (f z)) same
got-map f (y ∷ xs) (suc k) x is = got-map f xs k x is

-- ---- the columns

module _ (value : List ℕ → List ℕ → Value) (columns : List (List ℕ)) where
  others : (rows : List (List ℕ)) (k : ℕ) (column : List ℕ) → slice_get columns k ≡ Some column
      → list_any (is_other_at k) (map (λ row. map (value row) columns) rows) ≡ list_any (λ v. not (is_zero v)) (map (λ row. value row column) rows)
  others [] k column is = refl
  others (row ∷ rows) k column is =
      ap (λ o. option_map_or (λ v. not (is_zero v)) o false || list_any (is_other_at k) (map (λ r. map (value r) columns) rows)) (got-map (value row) columns k column is)
      ∙ ap (λ t. not (is_zero (value row column)) || t) (others rows k column is)

  -- a column is shown by its values of all rows
  pub by_column : (nozeros : Bool) (rows : List (List ℕ))
      → map (λ k. not nozeros || list_any (is_other_at k) (map (λ row. map (value row) columns) rows)) (range_with_len 0 (length columns))
      ≡ map (λ column. is_shown nozeros (map (λ row. value row column) rows)) columns
  by_column nozeros rows =
      map-range (λ k. not nozeros || list_any (is_other_at k) (map (λ row. map (value row) columns) rows)) (λ column. is_shown nozeros (map (λ row. value row column) rows)) columns 0
      (λ k column is. let same : 0 + k ≡ k = omega arith in
      ap (λ n. not nozeros || list_any (is_other_at n) (map (λ row. map (value row) columns) rows)) same ∙ ap (λ t. not nozeros || t) (others rows k column is))

-- ---- the whole text

abbrev pub title_of : ℕ → ℕ → List ℕ
title_of rows columns = codes "table " ++ decimal rows ++ codes " " ++ decimal columns

-- what is written of a grid is the table
module _ (space : Layout) (view : View) (value : List ℕ → List ℕ → Value) where
  abbrev pub row_passes : List ℕ → Bool
  row_passes row = is_shown view.nozeros (map (value row) (lines view.columns))

  abbrev pub column_passes : List ℕ → Bool
  column_passes column = is_shown view.nozeros (map (λ row. value row column) (lines view.rows))

  pub table_is : (rows columns : List (List ℕ)) (values : List (List Value)) (rows_shown columns_shown : List Bool) → rows ≡ lines view.rows → columns ≡ lines view.columns
      → values ≡ map (λ row. map (value row) (lines view.columns)) (lines view.rows) → rows_shown ≡ map (is_shown view.nozeros) values
      → columns_shown ≡ map (λ k. not view.nozeros || list_any (is_other_at k) values) (range_with_len 0 (length (lines view.columns)))
      → title_of (count_by (λ b. b) rows_shown) (count_by (λ b. b) columns_shown) ++ heads space view columns columns_shown ++ row_lines space view rows values rows_shown columns_shown
      ≡ table_of space view value
  table_is rows columns values rows_shown columns_shown are_rows are_columns are_values are_rows_shown are_columns_shown =
      let R : List (List ℕ) = lines view.rows in
      let C : List (List ℕ) = lines view.columns in
      let cs : columns_shown ≡ map column_passes C =
      are_columns_shown ∙ ap (λ v. map (λ k. not view.nozeros || list_any (is_other_at k) v) (range_with_len 0 (length C))) are_values ∙ columns_shown_are view.nozeros in
      let rs : rows_shown ≡ map row_passes R =
      are_rows_shown ∙ ap (map (is_shown view.nozeros)) are_values ∙ map-map (is_shown view.nozeros) (λ row. map (value row) C) R in
      let shown_columns : items_where_true columns_shown columns ≡ filter column_passes C =
      ap (λ l. items_where_true columns_shown l) are_columns ∙ ap (λ b. items_where_true b C) cs ∙ where-self column_passes C in
      let shown_values : (row : List ℕ) → items_where_true columns_shown (map (value row) C) ≡ map (value row) (filter column_passes C) =
      λ row. ap (λ b. items_where_true b (map (value row) C)) cs ∙ where-map column_passes (value row) C in
      let pairs : items_where_true rows_shown (zip rows values) ≡ map (λ row. (row, map (value row) C)) (filter row_passes R) =
      ap (λ l. items_where_true rows_shown (zip l values)) are_rows ∙ ap (λ l. items_where_true rows_shown (zip R l)) are_values
      ∙ ap (λ l. items_where_true rows_shown l) (zip-map (λ row. map (value row) C) R) ∙ ap (λ b. items_where_true b (map (λ row. (row, map (value row) C)) R)) rs
      ∙ where-map row_passes (λ row. (row, map (value row) C)) R in
      let row_count : count_by (λ b. b) rows_shown ≡ length (filter row_passes R) = ap (count_by (λ b. b)) rs ∙ count-where row_passes R in
      let column_count : count_by (λ b. b) columns_shown ≡ length (filter column_passes C) = ap (count_by (λ b. b)) cs ∙ count-where column_passes C in
      let head_lines : List (List ℕ) = map (head_line space view (filter column_passes C)) (enumerate_from 0 view.columns) in
      let heads_are : heads space view columns columns_shown ≡ led head_lines = ap (λ l. led (map (head_line space view l) (enumerate_from 0 view.columns))) shown_columns in
      let rows_are : row_lines space view rows values rows_shown columns_shown ≡ led (map (λ row. row_line space view row (map (value row) (filter column_passes C))) (filter row_passes R)) =
      ap (λ l. led (map (λ pair. row_line space view pair.0 (items_where_true columns_shown pair.1)) l)) pairs
      ∙ ap led (map-map (λ pair. row_line space view pair.0 (items_where_true columns_shown pair.1)) (λ row. (row, map (value row) C)) (filter row_passes R)
      ∙ mapped_same (λ row. row_line space view row (items_where_true columns_shown (map (value row) C))) (λ row. row_line space view row (map (value row) (filter column_passes C)))
      (λ row. ap (row_line space view row) (shown_values row)) (filter row_passes R)) in
      ap (λ n. title_of n (count_by (λ b. b) columns_shown) ++ heads space view columns columns_shown ++ row_lines space view rows values rows_shown columns_shown) row_count
      ∙ ap (λ n. title_of (length (filter row_passes R)) n ++ heads space view columns columns_shown ++ row_lines space view rows values rows_shown columns_shown) column_count
      ∙ ap (λ l. title_of (length (filter row_passes R)) (length (filter column_passes C)) ++ l ++ row_lines space view rows values rows_shown columns_shown) heads_are
      ∙ ap (λ l. title_of (length (filter row_passes R)) (length (filter column_passes C)) ++ led head_lines ++ l) rows_are
      ∙ append_assoc (title_of (length (filter row_passes R)) (length (filter column_passes C))) (led head_lines) (led (map (λ row. row_line space view row (map (value row) (filter column_passes C))) (filter row_passes R)))
      ∙ ap (λ l. title_of (length (filter row_passes R)) (length (filter column_passes C)) ++ l)
      (sym (flat_map-append (λ line. 10 ∷ line) head_lines (map (λ row. row_line space view row (map (value row) (filter column_passes C))) (filter row_passes R))))
    where
      mapped_same : (f g : List ℕ → List ℕ) → ((row : List ℕ) → f row ≡ g row) → (rows : List (List ℕ)) → map f rows ≡ map g rows
      mapped_same f g same [] = refl
      mapped_same f g same (row ∷ rows) = ap (λ x. x ∷ map f rows) (same row) ∙ ap (λ l. g row ∷ l) (mapped_same f g same rows)

      columns_shown_are : (nozeros : Bool)
          → map (λ k. not nozeros || list_any (is_other_at k) (map (λ row. map (value row) (lines view.columns)) (lines view.rows))) (range_with_len 0 (length (lines view.columns)))
          ≡ map (λ column. is_shown nozeros (map (λ row. value row column) (lines view.rows))) (lines view.columns)
      columns_shown_are nozeros = by_column value (lines view.columns) nozeros (lines view.rows)
