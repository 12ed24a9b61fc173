-- The components that are read from a cell, one by one.
use Rattle.std.proofs.Common.{◌≡◌, refl, sym, ap, ◌∙◌, arith, subst, ℕ, ◌<◌, Bool, true, false, ℤ, pos, Option, Some, None, List, [], ◌∷◌, length, map, take, get_or, set, if◌then◌else◌}
use Rattle.std.specs.Prelude.{slice_get, slice_set}
use Rattle.std.specs.Option.{option_map_or}
use Rattle.std.specs.List.{AllZip}
use Rattle.dim_core.specs.Outline.{Outline, components_of}
use Rattle.dim_weights.specs.Table.{is_nonzero}
use Rattle.cube_space.specs.Layout.{axes, sizes}
use Rattle.cube_space.specs.Cells.{IsSpace, IsCell, cube_of, elements_of, cell_number}
use Rattle.cube_space.proofs.Places.{cell_number-cell}
use Rattle.rule_laws.specs.Meaning.{Named, Components}
use Rattle.rule_laws.specs.declared.reference.Reference.{Reference}
use Rattle.rule_laws.specs.Ordered.{HasPrecedent}
use Rattle.rule_model.specs.declared.rules.Statement.{Statement}
use Rattle.rule_model.specs.BoundModel.{BoundModel}
use Rattle.rule_model.specs.System.{system_of}
use Rattle.rule_model.specs.Targets.{target}
use Rattle.rule_model.specs.Conditions.{IsSet, IsArea, AreRules}
use Rattle.order_laws.specs.Scales.{parts_in}
use Rattle.order_laws.proofs.CellFacts.{IsAt, cell-digits, cell-cube}
use Rattle.order_laws.proofs.Components.{read-part, part-read}
use Rattle.late_example.specs.Example.{rank_at, is_late}
use Rattle.late_example.specs.Inside.Shown.{IsFound, found_at, component_cell}
use Rattle.late_example.proofs.Inside.{statement_of}
use Rattle.late_example.proofs.Levels.{dim_low, item_is}

-- ---- what a reference names

pub found-late : (m : BoundModel) (c q : ℕ) (read : Option ℕ) (t : ℕ) → found_at m c q read ≡ Some t → (read ≡ Some t) × (is_late q (rank_at m q c) (rank_at m q t) ≡ true)
found-late m c q None t h = absurd (cc)
found-late m c q (Some u) t h = by (is_late q (rank_at m q c) (rank_at m q u)) refl h
  where
    by : (b : Bool) → is_late q (rank_at m q c) (rank_at m q u) ≡ b → (if b then Some u else None) ≡ Some t → (Some u ≡ Some t) × (is_late q (rank_at m q c) (rank_at m q t) ≡ true)
    by true e h = let same : u ≡ t = cc in (h, subst (λ x. is_late q (rank_at m q c) (rank_at m q x) ≡ true) same e)
    by false e h = absurd (cc)

pub none-found : (m : BoundModel) (c q : ℕ) (read : Option ℕ) (t : ℕ) → None ≡ found_at m c q read → read ≡ Some t → is_late q (rank_at m q c) (rank_at m q t) ≡ false
none-found m c q None t h e = absurd (cc)
none-found m c q (Some u) t h e = by (is_late q (rank_at m q c) (rank_at m q u)) refl h
  where
    same : u ≡ t
    same = cc

    by : (b : Bool) → is_late q (rank_at m q c) (rank_at m q u) ≡ b → None ≡ (if b then Some u else None) → is_late q (rank_at m q c) (rank_at m q t) ≡ false
    by true e h = absurd (cc)
    by false e h = subst (λ x. is_late q (rank_at m q c) (rank_at m q x) ≡ false) same e

within : (m : BoundModel) (read : Option ℕ) (t : ℕ) → Rattle.std.specs.Prelude.IfSome read (IsCell m.space) → read ≡ Some t → IsCell m.space t
within m None t h e = absurd (cc)
within m (Some u) t h e = let same : u ≡ t = cc in subst (IsCell m.space) same h

pub named-found : (m : BoundModel) (c q : ℕ) (r : Reference) (read result : Option ℕ) → read ≡ target m.space r c → Rattle.std.specs.Prelude.IfSome read (IsCell m.space) → result ≡ found_at m c q read → IsFound m c q (Named r) result
unfolding system_of
named-found m c q r read None names cell is = λ t has. none-found m c q read t is (names ∙ has)
named-found m c q r read (Some t) names cell is =
    let found = found-late m c q read t (sym is) in
    (sym names ∙ found.0, found.1, within m read t cell found.0)

-- ---- components

whole-sets : (ss : List ℕ) → AllZip IsSet ss (map (λ _. None) ss)
whole-sets [] = tt
whole-sets (s ∷ ss) = (tt, whole-sets ss)

module _ (m : BoundModel) (valid : IsSpace m.space) (ruled : AreRules m.space m.rules) (c : ℕ) (cell : IsCell m.space c) (dim : ℕ) (low : dim < length (axes m.space (cube_of m.space c))) where
  abbrev pub own : ℕ
  own = cube_of m.space c

  abbrev pub parts : List (ℕ × ℤ)
  parts = parts_in (axes m.space own) dim (get_or (elements_of m.space c) dim 0)

  abbrev pub part_at : ℕ → ℕ × ℤ
  part_at k = get_or parts k (0, pos 0)

  abbrev all_cells : Statement
  all_cells = statement_of (record { sets = map (λ _. None) (sizes m.space own) })

  is_all : IsArea m.space own all_cells.area
  is_all = whole-sets (sizes m.space own)

  at : IsAt m.space own (elements_of m.space c) c
  at = record { cell = cell; own = refl; elements = refl }

  abbrev pub read_at : ℕ → Option ℕ
  read_at k = component_cell m.space own (elements_of m.space c) dim (part_at k)

  number-of : (t k : ℕ) → IsAt m.space own (set (elements_of m.space c) dim (part_at k).0) t → is_nonzero (part_at k).1 ≡ true → read_at k ≡ Some t
  number-of t k there nonzero =
      ap (λ b. if b then cell_number m.space own (slice_set (elements_of m.space c) dim (part_at k).0) else None) nonzero
      ∙ sym (ap (λ j. cell_number m.space j (set (elements_of m.space c) dim (part_at k).0)) there.own)
      ∙ sym (ap (cell_number m.space (cube_of m.space t)) there.elements) ∙ cell_number-cell m.space t there.cell

  nonzero-there : (k t : ℕ) → read_at k ≡ Some t → is_nonzero (part_at k).1 ≡ true
  nonzero-there k t h = by (is_nonzero (part_at k).1) h
    where
      by : (b : Bool) → (if b then cell_number m.space own (slice_set (elements_of m.space c) dim (part_at k).0) else None) ≡ Some t → b ≡ true
      by true h = refl
      by false h = absurd (cc)

  -- a component that comes late is found
  pub part-found : (q k t : ℕ) → k < length parts → Some t ≡ found_at m c q (read_at k) → IsFound m c q (Components dim) (Some t)
  part-found q k t less is =
      let found = found-late m c q (read_at k) t (sym is) in
      let nonzero = nonzero-there k t found.0 in
      let read = part-read m valid ruled own (cell-cube m.space c cell) all_cells is_all dim low (elements_of m.space c) c k at (cell-digits m.space c cell) less nonzero in
      let e : Some read.0 ≡ Some t = sym (number-of read.0 k read.2 nonzero) ∙ found.0 in
      let same : read.0 ≡ t = cc in
      (subst (λ x. HasPrecedent (system_of m) (Components dim) c x) same read.1, found.1, subst (IsCell m.space) same read.2.cell)

  -- and where none is, none comes late
  pub no-part : (q : ℕ) → ((k : ℕ) → k < length parts → None ≡ found_at m c q (read_at k)) → IsFound m c q (Components dim) None
  no-part q none t has =
      let (k, less, nonzero, there) = read-part m valid ruled own (cell-cube m.space c cell) all_cells is_all dim low (elements_of m.space c) c t at (cell-digits m.space c cell) has in
      none-found m c q (read_at k) t (none k less) (number-of t k there nonzero)

-- ---- the same as the code has it

module _ (m : BoundModel) (valid : IsSpace m.space) (ruled : AreRules m.space m.rules) (c : ℕ) (cell : IsCell m.space c) (dim : ℕ) (low : dim < length (axes m.space (cube_of m.space c)))
    (cube count : ℕ) (elements : List ℕ) (d : Outline) (all : List (ℕ × ℤ)) (own_is : cube ≡ cube_of m.space c) (same : take count elements ≡ elements_of m.space c)
    (axis : slice_get (axes m.space cube) dim ≡ Some d) (listed : all ≡ components_of d (get_or elements dim 0)) where
  all-parts : all ≡ parts m valid ruled c cell dim low
  all-parts =
      listed ∙ ap (components_of d) (item_is m.space c count dim elements same (dim_low m.space c count dim elements cell same low))
      ∙ sym (ap (λ x. option_map_or (λ y. components_of y (get_or (elements_of m.space c) dim 0)) x []) (ap (λ k. slice_get (axes m.space k) dim) (sym own_is) ∙ axis))

  abbrev pub code_at : ℕ → Option ℕ
  code_at k = component_cell m.space cube (take count elements) dim (get_or all k (0, pos 0))

  code-is : (k : ℕ) → code_at k ≡ read_at m valid ruled c cell dim low k
  code-is k =
      ap (λ j. component_cell m.space j (take count elements) dim (get_or all k (0, pos 0))) own_is ∙ ap (λ es. component_cell m.space (cube_of m.space c) es dim (get_or all k (0, pos 0))) same
      ∙ ap (λ (ps : List (ℕ × ℤ)). component_cell m.space (cube_of m.space c) (elements_of m.space c) dim (get_or ps k (0, pos 0))) all-parts

  pub found_part : (q k t : ℕ) → k < length all → Some t ≡ found_at m c q (code_at k) → IsFound m c q (Components dim) (Some t)
  found_part q k t less is = part-found m valid ruled c cell dim low q k t (omega (arith, less, ap length all-parts)) (is ∙ ap (found_at m c q) (code-is k))

  pub none_part : (q : ℕ) → ((k : ℕ) → k < length all → None ≡ found_at m c q (code_at k)) → IsFound m c q (Components dim) None
  none_part q none = no-part m valid ruled c cell dim low q (λ k less. none k (omega (arith, less, ap length all-parts)) ∙ ap (found_at m c q) (code-is k))
