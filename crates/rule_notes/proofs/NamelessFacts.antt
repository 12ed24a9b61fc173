-- A reference names nothing just where it is so by dimension.
use Rattle.std.proofs.Common.{◌≡◌, refl, sym, ap, ◌∙◌, subst, ℕ, ◌<◌, Bool, true, false, not, ◌||◌, ◌==◌, Option, Some, None, length}
use Rattle.std.proofs.lemmas.Bool.{and_parts, and_from, eq-eqb, or_right}
use Rattle.std.proofs.lemmas.Bool.Decides.{Decides-eqb}
use Rattle.cube_space.specs.Cells.{cube_of, is_leaf_cell}
use Rattle.rule_laws.specs.declared.reference.Reference.{Reference}
use Rattle.rule_laws.specs.Meaning.{Precedent, Named, Components}
use Rattle.rule_model.specs.declared.rules.Statement.{Statement}
use Rattle.rule_model.specs.BoundModel.{BoundModel}
use Rattle.rule_model.specs.Areas.{in_area}
use Rattle.rule_model.specs.Targets.{target}
use Rattle.rule_model.specs.System.{system_of}
use Rattle.rule_model.specs.Conditions.{IsArea, IsReference, AreRules}
use Rattle.ref_order.specs.Counted.{Counted}
use Rattle.rule_notes.specs.Named.{read_for, IsFor, NamesNoCell}
use Rattle.rule_notes.specs.Inside.Named.{has_cells, is_for, names, names_some, names_nothing, IsReadFor, IsReadOf}
use Rattle.rule_notes.proofs.CellFacts.{IsCellFor, naming-some, some-naming, cell-has, has-cell}

either-false : (a b : Bool) → not (a || b) ≡ true → (a ≡ false) × (b ≡ false)
either-false true b h = absurd (cc)
either-false false true h = absurd (cc)
either-false false false h = (refl, refl)

neither : (a b : Bool) → a ≡ false → b ≡ false → not (a || b) ≡ true
neither true b one two = absurd (cc)
neither false true one two = absurd (cc)
neither false false one two = refl

module _ (m : BoundModel) (ruled : AreRules m.space m.rules) (cube : ℕ) (there : cube < length m.space.cubes)
    (s : Statement) (is_area : IsArea m.space cube s.area) (it : Counted) (is_read : IsReadOf m.space cube it) where
  read-is : (kind : Bool) → IsReadFor m.space cube (read_for it kind)
  read-is true = is_read.leaf
  read-is false = is_read.cons

  reference-is : (kind : Bool) (r : Reference) → read_for it kind ≡ Some (Named r) → IsReference m.space cube r
  reference-is kind r reads = subst (IsReadFor m.space cube) reads (read-is kind)

  -- a cell that it is for is one of the statement's cells of its kind
  cell-for : (r : Reference) (c : ℕ) → IsFor m cube s it r c → IsCellFor m ruled cube there s is_area (is_leaf_cell m.space c) c
  unfolding system_of
  cell-for r c is = record {
    cell = is.cell;
    kind_is = refl;
    applied = and_from (cube == cube_of m.space c) (in_area m.space s.area c) (eq-eqb cube (cube_of m.space c) (sym is.own)) is.inside;
  }

  for-cell : (r : Reference) (kind : Bool) (c : ℕ) → read_for it kind ≡ Some (Named r) → IsCellFor m ruled cube there s is_area kind c → IsFor m cube s it r c
  unfolding system_of
  for-cell r kind c reads of =
      let parts = and_parts (cube == cube_of m.space c) (in_area m.space s.area c) of.applied in
      record {
        cell = of.cell;
        own = sym ((Decides-eqb cube (cube_of m.space c)).0 parts.0);
        inside = parts.1;
        reads = ap (read_for it) of.kind_is ∙ reads;
      }

  -- ---- by dimension, from the cells

  for-some : (kind : Bool) (r : Reference) (c : ℕ) → read_for it kind ≡ Some (Named r) → IsCellFor m ruled cube there s is_area kind c → is_for (has_cells m cube s.area kind) (read_for it kind) ≡ true
  for-some kind r c reads of = ap (is_for (has_cells m cube s.area kind)) reads ∙ cell-has m ruled cube there s is_area kind c of

  names-none : (kind : Bool) → ((c : ℕ) (r : Reference) → IsFor m cube s it r c → target m.space r c ≡ None) → names m cube s.area kind (read_for it kind) ≡ false
  names-none kind none = by (read_for it kind) refl
    where
      by : (read : Option Precedent) → read_for it kind ≡ read → names m cube s.area kind read ≡ false
      by None reads = refl
      by (Some (Components dim)) reads = refl
      by (Some (Named r)) reads = at (names_some m cube s.area kind r) refl
        where
          at : (t : Bool) → names_some m cube s.area kind r ≡ t → t ≡ false
          at false is = refl
          at true is =
              let naming = some-naming m ruled cube there s is_area r kind (reference-is kind r reads) is in
              let wrong : Some naming.named ≡ None = sym naming.names ∙ none naming.cell r (for-cell r kind naming.cell reads naming.of) in
              absurd (cc wrong)

  either-kind : (kind : Bool) → is_for (has_cells m cube s.area kind) (read_for it kind) ≡ true
      → (is_for (has_cells m cube s.area true) it.leaf || is_for (has_cells m cube s.area false) it.cons) ≡ true
  either-kind true is = ap (λ t. t || is_for (has_cells m cube s.area false) it.cons) is
  either-kind false is = or_right (is_for (has_cells m cube s.area true) it.leaf) (is_for (has_cells m cube s.area false) it.cons) is

  pub nothing-by : NamesNoCell m cube s it → names_nothing m cube s.area it ≡ true
  nothing-by is =
      let (c, (r, own)) = is.some in
      let kind = is_leaf_cell m.space c in
      and_from (is_for (has_cells m cube s.area true) it.leaf || is_for (has_cells m cube s.area false) it.cons) (not (names m cube s.area true it.leaf || names m cube s.area false it.cons))
      (either-kind kind (for-some kind r c own.reads (cell-for r c own)))
      (neither (names m cube s.area true it.leaf) (names m cube s.area false it.cons) (names-none true is.none) (names-none false is.none))

  -- ---- the cells, from what is so by dimension

  some-for : (kind : Bool) → is_for (has_cells m cube s.area kind) (read_for it kind) ≡ true → (c : ℕ) × ((r : Reference) × IsFor m cube s it r c)
  some-for kind is = by (read_for it kind) refl is
    where
      by : (read : Option Precedent) → read_for it kind ≡ read → is_for (has_cells m cube s.area kind) read ≡ true → (c : ℕ) × ((r : Reference) × IsFor m cube s it r c)
      by None reads is = absurd (cc)
      by (Some (Components dim)) reads is = absurd (cc)
      by (Some (Named r)) reads is =
          let found = has-cell m ruled cube there s is_area kind is in
          (found.0, (r, for-cell r kind found.0 reads found.1))

  none-names : (kind : Bool) (c : ℕ) (r : Reference) → is_leaf_cell m.space c ≡ kind → names m cube s.area kind (read_for it kind) ≡ false → IsFor m cube s it r c → target m.space r c ≡ None
  none-names kind c r kind_is none own = by (target m.space r c) refl
    where
      by : (o : Option ℕ) → target m.space r c ≡ o → o ≡ None
      by None names = refl
      by (Some t) names_t =
          let reads : read_for it kind ≡ Some (Named r) = ap (read_for it) (sym kind_is) ∙ own.reads in
          let of : IsCellFor m ruled cube there s is_area kind c = subst (λ k. IsCellFor m ruled cube there s is_area k c) kind_is (cell-for r c own) in
          let some = naming-some m ruled cube there s is_area r kind (reference-is kind r reads) (record { cell = c; of = of; named = t; names = names_t }) in
          let wrong : true ≡ false = sym some ∙ sym (ap (names m cube s.area kind) reads) ∙ none in
          absurd (cc wrong)

  pub by-nothing : names_nothing m cube s.area it ≡ true → NamesNoCell m cube s it
  by-nothing is =
      let parts = and_parts (is_for (has_cells m cube s.area true) it.leaf || is_for (has_cells m cube s.area false) it.cons) (not (names m cube s.area true it.leaf || names m cube s.area false it.cons)) is in
      let neither_names = either-false (names m cube s.area true it.leaf) (names m cube s.area false it.cons) parts.1 in
      record { some = by (is_for (has_cells m cube s.area true) it.leaf) refl parts.0; none = λ c r own. of neither_names c r own (is_leaf_cell m.space c) refl }
    where
      by : (t : Bool) → is_for (has_cells m cube s.area true) it.leaf ≡ t → (t || is_for (has_cells m cube s.area false) it.cons) ≡ true → (c : ℕ) × ((r : Reference) × IsFor m cube s it r c)
      by true leaf some = some-for true leaf
      by false leaf some = some-for false some

      of : (names m cube s.area true it.leaf ≡ false) × (names m cube s.area false it.cons ≡ false) → (c : ℕ) (r : Reference) → IsFor m cube s it r c → (kind : Bool) → is_leaf_cell m.space c ≡ kind → target m.space r c ≡ None
      of both c r own true kind_is = none-names true c r kind_is both.0 own
      of both c r own false kind_is = none-names false c r kind_is both.1 own
