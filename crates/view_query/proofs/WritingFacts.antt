-- Fields and lines, written one by one.
use Rattle.std.proofs.Common.{◌≡◌, ◌<◌, ◌≤◌, ◌+◌, ◌-◌, ℕ, Bool, true, false, List, [], ◌∷◌, ◌++◌, map, length, drop, take, get_or, refl, sym, ap, ◌∙◌, arith, length-append}
use Rattle.std.specs.List.{enumerate_from, items_where_true, zip}
use Rattle.std.proofs.lemmas.List.{drop_more, drop_all, append-nil, append_assoc}
use Rattle.std.proofs.lemmas.Grind.{flat_map-append}
use Rattle.std.proofs.Math.Seq.{take-append_seam}
use Rattle.cube_fixed.specs.declared.value.Value.{Value}
use Rattle.cube_space.specs.Layout.{Layout}
use Rattle.view_query.specs.declared.shape.Axis.{Axis}
use Rattle.view_query.specs.declared.shape.View.{View}
use Rattle.view_query.specs.Table.{shown_name, joined, row_line}
use Rattle.view_query.specs.Inside.Text.{tabbed, tabbed_if, names_along, led, line_if}

pub names_next : (space : Layout) (cube : ℕ) (along : List Axis) (line : List ℕ) (i : ℕ) (a : Axis) (e : ℕ) → i < length along → i < length line
    → (shown_name space cube (get_or along i a) (get_or line i e) ++ 9 ∷ []) ++ tabbed (names_along space cube (drop (i + 1) along) (drop (i + 1) line))
    ≡ tabbed (names_along space cube (drop i along) (drop i line))
names_next space cube along line i a e low there =
    sym (ap (λ l. tabbed (names_along space cube l (drop i line))) (drop_more along i a low)
    ∙ ap (λ l. tabbed (names_along space cube (get_or along i a ∷ drop (i + 1) along) l)) (drop_more line i e there))

pub names_end : (space : Layout) (cube : ℕ) (along : List Axis) (line : List ℕ) (i : ℕ) → length along ≤ i → tabbed (names_along space cube (drop i along) (drop i line)) ≡ []
names_end space cube along line i past = ap (λ l. tabbed (names_along space cube l (drop i line))) (drop_all i along past)

-- the fields of items that are shown
abbrev pub picked : {A : Type 0} → (A → List ℕ) → List Bool → List A → ℕ → List ℕ
picked f shown xs i = tabbed (map f (items_where_true (drop i shown) (drop i xs)))

pub picked_next : {A : Type 0} (f : A → List ℕ) (shown : List Bool) (xs : List A) (i : ℕ) (b : Bool) (x : A) → i < length shown → i < length xs
    → tabbed_if (get_or shown i b) (f (get_or xs i x)) ++ picked f shown xs (i + 1) ≡ picked f shown xs i
picked_next f shown xs i b x low there =
    by (get_or shown i b)
    ∙ sym (ap (λ l. tabbed (map f (items_where_true l (drop i xs)))) (drop_more shown i b low)
    ∙ ap (λ l. tabbed (map f (items_where_true (get_or shown i b ∷ drop (i + 1) shown) l))) (drop_more xs i x there))
  where
    by : (t : Bool) → tabbed_if t (f (get_or xs i x)) ++ picked f shown xs (i + 1) ≡ tabbed (map f (items_where_true (t ∷ drop (i + 1) shown) (get_or xs i x ∷ drop (i + 1) xs)))
    by true = refl
    by false = refl

pub picked_end : {A : Type 0} (f : A → List ℕ) (shown : List Bool) (xs : List A) (i : ℕ) → length shown ≤ i → picked f shown xs i ≡ []
picked_end f shown xs i past = ap (λ l. tabbed (map f (items_where_true l (drop i xs)))) (drop_all i shown past)

-- ---- the tab behind the last field goes

tabbed_joined : (field : List ℕ) (fields : List (List ℕ)) → tabbed (field ∷ fields) ≡ joined (field ∷ fields) ++ 9 ∷ []
tabbed_joined field [] = append-nil (field ++ 9 ∷ [])
tabbed_joined field (x ∷ fields) =
    ap (λ l. (field ++ 9 ∷ []) ++ l) (tabbed_joined x fields)
    ∙ append_assoc field (9 ∷ []) (joined (x ∷ fields) ++ 9 ∷ []) ∙ sym (append_assoc field (9 ∷ joined (x ∷ fields)) (9 ∷ []))

pub line_ended : (old next before : List ℕ) (fields : List (List ℕ)) (start : ℕ) → length before ≡ start → old ≡ before ++ tabbed fields → start < length old → next ≡ take (length old - 1) old
    → next ≡ before ++ joined fields
line_ended old next before [] start long is some cut = absurd (let e = ap length is in let a = length-append before [] in omega (arith, e, a, long, some))
line_ended old next before (field ∷ fields) start long is some cut =
    let whole : old ≡ (before ++ joined (field ∷ fields)) ++ 9 ∷ [] = is ∙ ap (λ l. before ++ l) (tabbed_joined field fields) ∙ sym (append_assoc before (joined (field ∷ fields)) (9 ∷ [])) in
    let e = ap length whole in
    let a = length-append (before ++ joined (field ∷ fields)) (9 ∷ []) in
    let back : length old - 1 ≡ length (before ++ joined (field ∷ fields)) = omega (arith, e, a) in
    cut ∙ ap (λ n. take n old) back ∙ ap (take (length (before ++ joined (field ∷ fields)))) whole ∙ take-append_seam (before ++ joined (field ∷ fields)) (9 ∷ [])

pub line_empty : (old before : List ℕ) (fields : List (List ℕ)) (start : ℕ) → length before ≡ start → old ≡ before ++ tabbed fields → length old ≤ start → old ≡ before ++ joined fields
line_empty old before [] start long is none = is
line_empty old before (field ∷ fields) start long is none =
    let e = ap length is in
    let a = length-append before (tabbed (field ∷ fields)) in
    let b = ap length (tabbed_joined field fields) in
    let d = length-append (joined (field ∷ fields)) (9 ∷ []) in
    absurd (omega (arith, e, a, b, d, long, none))

-- two groups of fields
pub tabbed_both : (out : List ℕ) (one two : List (List ℕ)) → (out ++ tabbed one) ++ tabbed two ≡ out ++ tabbed (one ++ two)
tabbed_both out one two = append_assoc out (tabbed one) (tabbed two) ∙ ap (λ l. out ++ l) (sym (flat_map-append (λ field. field ++ 9 ∷ []) one two))

-- ---- lines

pub heads_next : (H : ℕ × Axis → List ℕ) (along : List Axis) (i : ℕ) (a : Axis) → i < length along
    → (10 ∷ H (i, get_or along i a)) ++ led (map H (enumerate_from (i + 1) (drop (i + 1) along))) ≡ led (map H (enumerate_from i (drop i along)))
heads_next H along i a low = sym (ap (λ l. led (map H (enumerate_from i l))) (drop_more along i a low))

pub heads_end : (H : ℕ × Axis → List ℕ) (along : List Axis) (i : ℕ) → length along ≤ i → led (map H (enumerate_from i (drop i along))) ≡ []
heads_end H along i past = ap (λ l. led (map H (enumerate_from i l))) (drop_all i along past)

abbrev pub lines_of : Layout → View → List Bool → List (List ℕ × List Value) → List ℕ
lines_of space view columns pairs = led (map (λ pair. row_line space view pair.0 (items_where_true columns pair.1)) pairs)

-- the lines of the rows from a place on that are shown
abbrev pub rows_from : Layout → View → List Bool → List (List ℕ) → List (List Value) → List Bool → ℕ → List ℕ
rows_from space view columns rows values shown i =
    led (map (λ pair. row_line space view pair.0 (items_where_true columns pair.1)) (items_where_true (drop i shown) (zip (drop i rows) (drop i values))))

pub rows_next : (space : Layout) (view : View) (columns : List Bool) (rows : List (List ℕ)) (values : List (List Value)) (shown : List Bool) (i : ℕ)
    → i < length rows → i < length values → i < length shown
    → line_if space view columns (get_or rows i []) (get_or values i []) (get_or shown i false) ++ rows_from space view columns rows values shown (i + 1) ≡ rows_from space view columns rows values shown i
rows_next space view columns rows values shown i row_low value_low shown_low =
    by (get_or shown i false)
    ∙ sym (ap (λ l. lines_of space view columns (items_where_true l (zip (drop i rows) (drop i values)))) (drop_more shown i false shown_low)
    ∙ ap (λ l. lines_of space view columns (items_where_true (get_or shown i false ∷ drop (i + 1) shown) (zip l (drop i values)))) (drop_more rows i [] row_low)
    ∙ ap (λ l. lines_of space view columns (items_where_true (get_or shown i false ∷ drop (i + 1) shown) (zip (get_or rows i [] ∷ drop (i + 1) rows) l))) (drop_more values i [] value_low))
  where
    by : (t : Bool) → line_if space view columns (get_or rows i []) (get_or values i []) t ++ rows_from space view columns rows values shown (i + 1)
        ≡ lines_of space view columns (items_where_true (t ∷ drop (i + 1) shown) ((get_or rows i [], get_or values i []) ∷ zip (drop (i + 1) rows) (drop (i + 1) values)))
    by true = refl
    by false = refl

pub rows_end : (space : Layout) (view : View) (columns : List Bool) (rows : List (List ℕ)) (values : List (List Value)) (shown : List Bool) (i : ℕ) → length shown ≤ i
    → rows_from space view columns rows values shown i ≡ []
rows_end space view columns rows values shown i past =
    ap (λ l. led (map (λ pair. row_line space view pair.0 (items_where_true columns pair.1)) (items_where_true l (zip (drop i rows) (drop i values))))) (drop_all i shown past)
