-- A feeder covers a reference by dimension just where it feeds each cell from each leaf cell below what is named.
use Rattle.std.proofs.Common.{◌≡◌, refl, sym, ap, ◌∙◌, arith, subst, ℕ, zero, suc, ◌+◌, ◌<◌, Bool, true, Option, Some, None, ℤ, pos, List, [], ◌∷◌, length, get_or, ◌==◌, Contains}
use Rattle.std.specs.Prelude.{slice_get, slice_index_or}
use Rattle.std.specs.List.{list_all, zip}
use Rattle.std.specs.Option.{option_map_or}
use Rattle.std.proofs.lemmas.Bool.{and_parts, and_from, eq-eqb, lt-ltb}
use Rattle.std.proofs.lemmas.Bool.Decides.{Decides-eqb}
use Rattle.dim_core.specs.Outline.{Outline, IsDimension, IsElement, components_of}
use Rattle.dim_weights.specs.Coefficients.{coef}
use Rattle.dim_weights.specs.Table.{is_nonzero, leaves_of}
use Rattle.dim_weights.proofs.Equations.{only-leaves}
use Rattle.cube_space.specs.Radix.{are_digits}
use Rattle.cube_space.specs.Layout.{axes, sizes, sizes_of}
use Rattle.cube_space.specs.Cells.{IsSpace, cube_of, elements_of, is_leaf, are_leaves, is_leaf_cell}
use Rattle.rule_laws.specs.declared.reference.Reference.{Reference}
use Rattle.rule_laws.specs.declared.reference.Arg.{Arg}
use Rattle.rule_laws.specs.declared.reference.Arg.TheVariants.{Moved}
use Rattle.rule_laws.specs.Ordered.{IsCellOf}
use Rattle.rule_laws.specs.Feeding.{leaves_of as cells_of, FeedsBy}
use Rattle.rule_laws.specs.Cover.{CoversBy}
use Rattle.rule_model.specs.declared.rules.Statement.{Statement}
use Rattle.rule_model.specs.declared.rules.Feeder.{Feeder}
use Rattle.rule_model.specs.declared.rules.Form.TheVariants.{Both}
use Rattle.rule_model.specs.BoundModel.{BoundModel}
use Rattle.rule_model.specs.Areas.{in_source_set, in_source_sets}
use Rattle.rule_model.specs.Targets.{elements_by, target}
use Rattle.rule_model.specs.System.{system_of, rule_of, feed_of}
use Rattle.rule_model.specs.Conditions.{IsArea, IsReference, IsFeeder, AreRules, IsSet}
use Rattle.order_laws.proofs.SetFacts.{follow-all, named-digits, zip-long}
use Rattle.order_laws.proofs.CellFacts.{IsAt, axes-sizes, cell-there, cell-digits, digits-long}
use Rattle.order_laws.proofs.Decided as decided
use Rattle.cover_laws.specs.Looking.{Look, is_possible}
use Rattle.cover_laws.specs.Covered.{has_leaves, counts_in, are_sources, reaches, all_reach, look_below, feeds_all, covers}
use Rattle.cover_laws.proofs.Pairs as pairs
use Rattle.cover_laws.proofs.Pairs.{there-low, arg-there, named-at, named-all, follows-at}
use Rattle.cover_laws.proofs.Named as naming
use Rattle.cover_laws.proofs.Reached as reached
use Rattle.cover_laws.proofs.Reached.{IsLeafBelow, has-some, some-has, all-elim, all-intro}
use Rattle.cover_laws.proofs.Counted.{IsUnder, StandsFor, stands-contains, contains-stands, under-counts, counts-under, below-counts, counts-below}
use Rattle.cover_laws.proofs.Looks.{shift}

-- ---- lists

reach_from-elim : (look : Look) (dims : List Outline) (base : ℕ) (args : List Arg) → all_reach look dims base args ≡ true → (d : ℕ) (b : Arg) → slice_get args d ≡ Some b → reaches look dims (base + d) b ≡ true
reach_from-elim look dims base [] h d b at = absurd (cc)
reach_from-elim look dims base (a ∷ args) h zero b at =
    let same : a ≡ b = cc in
    let own : base ≡ base + 0 = omega arith in
    subst (λ n. reaches look dims n b ≡ true) own (subst (λ a. reaches look dims base a ≡ true) same (and_parts _ _ h).0)
reach_from-elim look dims base (a ∷ args) h (suc d) b at = subst (λ n. reaches look dims n b ≡ true) (shift base d) (reach_from-elim look dims (suc base) args (and_parts _ _ h).1 d b at)

reach_from-intro : (look : Look) (dims : List Outline) (base : ℕ) (args : List Arg) → ((d : ℕ) (b : Arg) → slice_get args d ≡ Some b → reaches look dims (base + d) b ≡ true) → all_reach look dims base args ≡ true
reach_from-intro look dims base [] h = refl
reach_from-intro look dims base (a ∷ args) h =
    let own : base + 0 ≡ base = omega arith in
    and_from _ _ (subst (λ n. reaches look dims n a ≡ true) own (h 0 a refl))
    (reach_from-intro look dims (suc base) args (λ d b at. subst (λ n. reaches look dims n b ≡ true) (sym (shift base d)) (h (suc d) b at)))

reach-elim : (look : Look) (dims : List Outline) (args : List Arg) → all_reach look dims 0 args ≡ true → (d : ℕ) (b : Arg) → slice_get args d ≡ Some b → reaches look dims d b ≡ true
reach-elim look dims args h d b at = let own : 0 + d ≡ d = omega arith in subst (λ n. reaches look dims n b ≡ true) own (reach_from-elim look dims 0 args h d b at)

reach-intro : (look : Look) (dims : List Outline) (args : List Arg) → ((d : ℕ) (b : Arg) → slice_get args d ≡ Some b → reaches look dims d b ≡ true) → all_reach look dims 0 args ≡ true
reach-intro look dims args h = reach_from-intro look dims 0 args (λ d b at. let own : 0 + d ≡ d = omega arith in subst (λ n. reaches look dims n b ≡ true) (sym own) (h d b at))

-- a leaf is a source in a dimension
abbrev pub is_source_at : List Outline → List (Option (List ℕ)) → ℕ → ℕ → Bool
is_source_at ds sets j l = option_map_or (λ d. in_source_set d (slice_index_or sets j None) l) (slice_get ds j) true

sources-elim : (ds : List Outline) (sets : List (Option (List ℕ))) (xs : List ℕ) → length sets ≡ length ds → length xs ≡ length ds
    → list_all (λ p. in_source_set p.0 p.1.0 p.1.1) (zip ds (zip sets xs)) ≡ true → (j : ℕ) → j < length ds → is_source_at ds sets j (get_or xs j 0) ≡ true
sources-elim [] sets xs long wide h j low = absurd (omega arith)
sources-elim (d ∷ ds) [] xs long wide h j low = absurd (omega arith)
sources-elim (d ∷ ds) (s ∷ sets) [] long wide h j low = absurd (omega arith)
sources-elim (d ∷ ds) (s ∷ sets) (x ∷ xs) long wide h zero low = (and_parts _ _ h).0
sources-elim (d ∷ ds) (s ∷ sets) (x ∷ xs) long wide h (suc j) low = sources-elim ds sets xs (omega arith) (omega arith) (and_parts _ _ h).1 j (omega arith)

sources-intro : (ds : List Outline) (sets : List (Option (List ℕ))) (xs : List ℕ) → length sets ≡ length ds → length xs ≡ length ds
    → ((j : ℕ) → j < length ds → is_source_at ds sets j (get_or xs j 0) ≡ true) → list_all (λ p. in_source_set p.0 p.1.0 p.1.1) (zip ds (zip sets xs)) ≡ true
sources-intro [] [] [] long wide h = refl
sources-intro [] (s ∷ sets) xs long wide h = absurd (omega arith)
sources-intro [] [] (x ∷ xs) long wide h = refl
sources-intro (d ∷ ds) [] xs long wide h = absurd (omega arith)
sources-intro (d ∷ ds) (s ∷ sets) [] long wide h = absurd (omega arith)
sources-intro (d ∷ ds) (s ∷ sets) (x ∷ xs) long wide h = and_from _ _ (h 0 (omega arith)) (sources-intro ds sets xs (omega arith) (omega arith) (λ j low. h (suc j) (omega arith)))

source-good : (ds : List Outline) (sets : List (Option (List ℕ))) (j t : ℕ) → are_sources ds sets j t ≡ true → (l : ℕ) → IsLeafBelow ds j t l → is_source_at ds sets j l ≡ true
source-good ds sets j t h l (w, c) = by (slice_get ds j) h c
  where
    by : (o : Option Outline) → option_map_or (λ d. list_all (λ pair. in_source_set d (slice_index_or sets j None) pair.0) (leaves_of d t)) o true ≡ true
        → Contains (option_map_or (λ d. leaves_of d t) o []) (l, w) → option_map_or (λ d. in_source_set d (slice_index_or sets j None) l) o true ≡ true
    by None h c = refl
    by (Some d) h c = all-elim (λ pair. in_source_set d (slice_index_or sets j None) pair.0) (leaves_of d t) (l, w) h c

good-source : (ds : List Outline) (sets : List (Option (List ℕ))) (j t : ℕ) → ((l : ℕ) → IsLeafBelow ds j t l → is_source_at ds sets j l ≡ true) → are_sources ds sets j t ≡ true
good-source ds sets j t h = by (slice_get ds j) (λ l w c. h l (w, c))
  where
    by : (o : Option Outline) → ((l : ℕ) (w : ℤ) → Contains (option_map_or (λ d. leaves_of d t) o []) (l, w) → option_map_or (λ d. in_source_set d (slice_index_or sets j None) l) o true ≡ true)
        → option_map_or (λ d. list_all (λ pair. in_source_set d (slice_index_or sets j None) pair.0) (leaves_of d t)) o true ≡ true
    by None h = refl
    by (Some d) h = all-intro (λ pair. in_source_set d (slice_index_or sets j None) pair.0) (leaves_of d t) (λ x c. h x.0 x.1 c)

-- a leaf below an element is an element, and a leaf
leaf-below : (d : Outline) (t l : ℕ) (w : ℤ) → IsDimension d → IsElement d t → Contains (leaves_of d t) (l, w) → IsElement d l × (is_leaf d l ≡ true)
leaf-below d t l w dim there c = (omega (arith, inside.0), by (components_of d l) refl)
  where
    found : Contains (Rattle.std.specs.List.range_with_len 0 (length d.elements)) l × (is_nonzero (coef d t l) ≡ true)
    found = Rattle.cover_laws.proofs.Counted.contained (λ p. Contains (Rattle.std.specs.List.range_with_len 0 (length d.elements)) p.0 × (is_nonzero (coef d t p.0) ≡ true)) (leaves_of d t) (l, w)
        (Rattle.cover_laws.proofs.Counted.in-among (coef d t) (Rattle.std.specs.List.range_with_len 0 (length d.elements))) c

    inside : (l < length d.elements) × Rattle.std.specs.Prelude.⊤
    inside = (Rattle.cover_laws.proofs.Counted.contained (λ x. x < length d.elements) (Rattle.std.specs.List.range_with_len 0 (length d.elements)) l (Rattle.model_laws.proofs.Below.range-below (length d.elements)) found.0, tt)

    by : (parts : List (ℕ × ℤ)) → components_of d l ≡ parts → (length (components_of d l) == 0) ≡ true
    by [] e = ap (λ (ps : List (ℕ × ℤ)). length ps == 0) e
    by (p ∷ ps) e = absurd (let none = only-leaves d dim l (λ nil. (let clash = sym nil ∙ e in cc)) t there in let clash : is_nonzero (pos 0) ≡ true = ap is_nonzero (sym none) ∙ found.1 in cc)

-- leaves below elements make a leaf cell
leaf-digits : (ds : List Outline) (t : ℕ → ℕ) (xs : List ℕ) → ((j : ℕ) (d : Outline) → slice_get ds j ≡ Some d → IsDimension d) → length xs ≡ length ds
    → ((j : ℕ) (d : Outline) → slice_get ds j ≡ Some d → IsElement d (t j)) → ((j : ℕ) → j < length ds → IsLeafBelow ds j (t j) (get_or xs j 0))
    → (are_digits (sizes_of ds) xs ≡ true) × (are_leaves ds xs ≡ true)
leaf-digits [] t [] dims long there h = (refl, refl)
leaf-digits [] t (x ∷ xs) dims long there h = absurd (omega arith)
leaf-digits (d ∷ ds) t [] dims long there h = absurd (omega arith)
leaf-digits (d ∷ ds) t (x ∷ xs) dims long there h =
    let below = h 0 (omega arith) in
    let first = leaf-below d (t 0) x below.0 (dims 0 d refl) (there 0 d refl) below.1 in
    let rest = leaf-digits ds (λ j. t (suc j)) xs (λ j o at. dims (suc j) o at) (omega arith) (λ j o at. there (suc j) o at) (λ j low. h (suc j) (omega arith)) in
    (and_from _ _ (lt-ltb x (length d.elements) first.0) rest.0, and_from _ _ first.1 rest.1)

module _ (m : BoundModel) (valid : IsSpace m.space) (ruled : AreRules m.space m.rules) (cube : ℕ) (there : cube < length m.space.cubes)
    (statement : Statement) (is_area : IsArea m.space cube statement.area) (r : Reference) (is : IsReference m.space cube r) where
  abbrev dims : List Outline
  dims = axes m.space r.cube

  abbrev width : ℕ
  width = length (axes m.space cube)

  abbrev IsPair : List ℕ → List ℕ → List ℕ → Type 0
  IsPair = reached.IsPair m ruled cube there statement is_area r is

  abbrev look : Look
  look = look_below m cube statement.area r

  args-long : length r.args ≡ length dims
  args-long = zip-long (Rattle.rule_model.specs.Conditions.IsArg (sizes m.space cube)) (sizes m.space r.cube) r.args is.1 ∙ axes-sizes m.space r.cube

  -- a cell of the statement, the cell that is named from it, and a leaf cell at or below that, by their elements
  pub record IsReading (es ts xs : List ℕ) (c t x : ℕ) : Type 0 where
    pub of : IsCellOf (system_of m) (rule_of m.space cube statement) true c
    pub names : target m.space r c ≡ Some t
    pub stands : StandsFor m valid t x
    pub cell_at : IsAt m.space cube es c
    pub target_at : IsAt m.space r.cube ts t
    pub leaf_at : IsAt m.space r.cube xs x

  pub pair-reading : (es ts xs : List ℕ) → IsPair es ts xs → (c t x : ℕ) × IsReading es ts xs c t x
  unfolding is_leaf_cell
  pair-reading es ts xs pair =
      let (c, at, of) = decided.of-cell m ruled cube there statement is_area true es pair.of in
      let (t, names, at_t, long_t) = decided.at-target m ruled cube there statement is_area r c es ts is at pair.of.long pair.named in
      let digits_t = named-digits (sizes m.space cube) (sizes m.space r.cube) r.args es ts (pair.of.long ∙ sym (axes-sizes m.space cube)) is.1 pair.named in
      let made = leaf-digits dims (λ j. get_or ts j 0) xs (Rattle.model_laws.proofs.Levels.axis-is m.space valid r.cube) (pair.long ∙ args-long) (λ j d here. (Rattle.model_laws.proofs.Levels.element-of dims ts j d digits_t here).1) (λ j low. pair.below j (omega (arith, low, args-long))) in
      let found = cell-there m.space r.cube xs is.0 made.0 in
      let at_x : IsAt m.space r.cube xs found.0 = found.1 in
      let leaf : is_leaf_cell m.space found.0 ≡ true = ap (λ k. are_leaves (axes m.space k) (elements_of m.space found.0)) at_x.own ∙ ap (are_leaves dims) at_x.elements ∙ made.1 in
      let under : IsUnder dims ts xs = counts-under dims ts xs (λ j low. below-counts dims j (get_or ts j 0) (get_or xs j 0) (pair.below j (omega (arith, low, args-long)))) in (
        c,
        t,
        found.0,
        record {
          of = of;
          names = names;
          cell_at = at;
          target_at = at_t;
          leaf_at = at_x;
          stands = record { cell = at_x.cell; leaf = leaf; own = at_x.own ∙ sym at_t.own; under = under-of t found.0 ts xs at_t at_x under };
        },
      )
    where
      under-of : (t x : ℕ) (ts xs : List ℕ) → IsAt m.space r.cube ts t → IsAt m.space r.cube xs x → IsUnder dims ts xs → IsUnder (axes m.space (cube_of m.space t)) (elements_of m.space t) (elements_of m.space x)
      under-of t x ts xs at_t at_x under =
          subst (λ k. IsUnder (axes m.space k) (elements_of m.space t) (elements_of m.space x)) (sym at_t.own)
          (subst (λ l. IsUnder dims l (elements_of m.space x)) (sym at_t.elements) (subst (IsUnder dims ts) (sym at_x.elements) under))

  pub reading-pair : (c t x : ℕ) → IsCellOf (system_of m) (rule_of m.space cube statement) true c → target m.space r c ≡ Some t → Contains (cells_of (system_of m) t) x
      → (es ts xs : List ℕ) × IsPair es ts xs × IsReading es ts xs c t x
  reading-pair c t x of names inside =
      let (at, own) = decided.cell-of m ruled cube there statement is_area true c of in
      let es = elements_of m.space c in
      let (ts, named, at_t, long_t) = decided.target-at m ruled cube there statement is_area r c t es is at own.long names in
      let s = contains-stands m valid t x at_t.cell inside in
      let xs = elements_of m.space x in
      let at_x : IsAt m.space r.cube xs x = record { cell = s.cell; own = s.own ∙ at_t.own; elements = refl } in
      let digits = subst (λ k. are_digits (sizes m.space k) xs ≡ true) at_x.own (cell-digits m.space x s.cell) in
      let long = digits-long m.space r.cube xs digits in
      let under = subst (λ l. IsUnder dims l xs) at_t.elements (subst (λ k. IsUnder (axes m.space k) (elements_of m.space t) xs) at_t.own s.under) in (
        es,
        ts,
        xs,
        record {
          of = own;
          named = named;
          long = long ∙ sym args-long;
          below = λ j low. counts-below dims j (get_or ts j 0) (get_or xs j 0) (λ d here. (Rattle.model_laws.proofs.Levels.element-of dims xs j d digits here).1) (under-counts dims ts xs under j (omega (arith, low, args-long)));
        },
        record { of = of; names = names; stands = s; cell_at = at; target_at = at_t; leaf_at = at_x },
      )

  -- ---- a feeder

  module _ (own : ℕ) (own_there : own < length m.space.cubes) (f : Feeder) (is_feeder : IsFeeder m.space own f) where
    -- by elements, from a leaf cell the feeder feeds a cell
    pub record IsFedBy (es xs : List ℕ) : Type 0 where
      pub own_cube : own ≡ r.cube
      pub its_cube : f.target.cube ≡ cube
      pub sources : (j : ℕ) → j < length dims → is_source_at dims f.area.sets j (get_or xs j 0) ≡ true
      pub over : (d : ℕ) (b : Arg) → slice_get f.target.args d ≡ Some b → reached.IsOver m ruled cube there statement is_area r is d b es xs

    sets-long : own ≡ r.cube → length f.area.sets ≡ length dims
    sets-long same = zip-long IsSet (sizes m.space own) f.area.sets is_feeder.area ∙ axes-sizes m.space own ∙ ap (λ k. length (axes m.space k)) same

    target-long : f.target.cube ≡ cube → length f.target.args ≡ width
    target-long same = zip-long (Rattle.rule_model.specs.Conditions.IsArg (sizes m.space own)) (sizes m.space f.target.cube) f.target.args is_feeder.target.1 ∙ axes-sizes m.space f.target.cube ∙ ap (λ k. length (axes m.space k)) same

    abbrev stand-in : Statement
    stand-in = record { area = f.area; leaf = None; cons = None; form = Both }

    pub feeds : (es ts xs : List ℕ) (c t x : ℕ) → IsReading es ts xs c t x → IsFedBy es xs → FeedsBy (system_of m) (feed_of m.space own f) x c
    unfolding system_of in_source_sets
    feeds es ts xs c t x reading fed =
        let at_x : IsAt m.space own xs x = record { cell = reading.stands.cell; own = reading.leaf_at.own ∙ sym fed.own_cube; elements = reading.leaf_at.elements } in
        let digits : are_digits (sizes m.space own) xs ≡ true = subst (λ l. are_digits (sizes m.space own) l ≡ true) at_x.elements (subst (λ k. are_digits (sizes m.space k) (elements_of m.space x) ≡ true) at_x.own (cell-digits m.space x at_x.cell)) in
        let long : length xs ≡ length (axes m.space own) = digits-long m.space own xs digits in
        let long_dims : length xs ≡ length dims = long ∙ ap (λ k. length (axes m.space k)) fed.own_cube in
        let listed : list_all (λ p. in_source_set p.0 p.1.0 p.1.1) (zip (axes m.space own) (zip f.area.sets (elements_of m.space x))) ≡ true =
        ap (λ k. list_all (λ p. in_source_set p.0 p.1.0 p.1.1) (zip (axes m.space k) (zip f.area.sets (elements_of m.space x)))) fed.own_cube
        ∙ ap (λ l. list_all (λ p. in_source_set p.0 p.1.0 p.1.1) (zip dims (zip f.area.sets l))) at_x.elements
        ∙ sources-intro dims f.area.sets xs (sets-long fed.own_cube) long_dims fed.sources in
        let (us, named) = named-all xs f.target.args (λ d b at. let (u, name, counts) = fed.over d b at in (u, name)) in
        let (t', names, at_t, long_t) = decided.at-target m ruled own own_there stand-in is_feeder.area f.target x xs us is_feeder.target at_x long named in (
          (at_x.cell, reading.stands.leaf),
          and_from _ _ (and_from _ _ (eq-eqb _ _ at_x.own) reading.stands.leaf) listed,
          (
            t',
            names,
            stands-contains m valid t' c at_t.cell (record {
              cell = reading.of.cell;
              leaf = reading.of.kind_is;
              own = reading.cell_at.own ∙ sym fed.its_cube ∙ sym at_t.own;
              under = subst (λ k. IsUnder (axes m.space k) (elements_of m.space t') (elements_of m.space c)) (sym (at_t.own ∙ fed.its_cube))
                  (subst (λ l. IsUnder (axes m.space cube) l (elements_of m.space c)) (sym at_t.elements) (subst (IsUnder (axes m.space cube) us) (sym reading.cell_at.elements)
                  (counts-under (axes m.space cube) us es (over-each us named fed))));
            }),
          ),
        )
      where
        over-each : (us : List ℕ) → elements_by xs f.target.args ≡ Some us → IsFedBy es xs → (d : ℕ) → d < width → counts_in (axes m.space cube) d (get_or us d 0) (get_or es d 0) ≡ true
        over-each us named fed d low =
            let (b, at) = arg-there f.target.args d (omega (arith, low, target-long fed.its_cube)) in
            let (u, name, counts) = fed.over d b at in
            let own = named-at xs f.target.args us named d b at in
            let same : u ≡ get_or us d 0 = cc in
            subst (λ u. counts_in (axes m.space cube) d u (get_or es d 0) ≡ true) same counts

    pub fed-by : (es ts xs : List ℕ) (c t x : ℕ) → IsReading es ts xs c t x → FeedsBy (system_of m) (feed_of m.space own f) x c → IsFedBy es xs
    unfolding system_of in_source_sets
    fed-by es ts xs c t x reading (cell, source, (t', names, inside)) =
        let parts = and_parts _ _ source in
        let same : own ≡ r.cube = sym ((Decides-eqb (cube_of m.space x) own).0 (and_parts _ _ parts.0).0) ∙ reading.leaf_at.own in
        let at_x : IsAt m.space own xs x = record { cell = cell.0; own = reading.leaf_at.own ∙ sym same; elements = reading.leaf_at.elements } in
        let digits : are_digits (sizes m.space own) xs ≡ true = subst (λ l. are_digits (sizes m.space own) l ≡ true) at_x.elements (subst (λ k. are_digits (sizes m.space k) (elements_of m.space x) ≡ true) at_x.own (cell-digits m.space x at_x.cell)) in
        let long : length xs ≡ length (axes m.space own) = digits-long m.space own xs digits in
        let long_dims : length xs ≡ length dims = long ∙ ap (λ k. length (axes m.space k)) same in
        let listed : list_all (λ p. in_source_set p.0 p.1.0 p.1.1) (zip dims (zip f.area.sets xs)) ≡ true =
        ap (λ k. list_all (λ p. in_source_set p.0 p.1.0 p.1.1) (zip (axes m.space k) (zip f.area.sets xs))) (sym same)
        ∙ ap (λ l. list_all (λ p. in_source_set p.0 p.1.0 p.1.1) (zip (axes m.space own) (zip f.area.sets l))) (sym at_x.elements)
        ∙ parts.1 in
        let (us, named, at_t, long_t) = decided.target-at m ruled own own_there stand-in is_feeder.area f.target x t' xs is_feeder.target at_x long names in
        let s = contains-stands m valid t' c at_t.cell inside in
        let its : f.target.cube ≡ cube = sym at_t.own ∙ sym s.own ∙ reading.cell_at.own in
        let under : IsUnder (axes m.space cube) us es = subst (IsUnder (axes m.space cube) us) reading.cell_at.elements (subst (λ l. IsUnder (axes m.space cube) l (elements_of m.space c)) at_t.elements
        (subst (λ k. IsUnder (axes m.space k) (elements_of m.space t') (elements_of m.space c)) (at_t.own ∙ its) s.under)) in
        record {
          own_cube = same;
          its_cube = its;
          sources = sources-elim dims f.area.sets xs (sets-long same) long_dims listed;
          over = λ d b at. (get_or us d 0, named-at xs f.target.args us named d b at, under-counts (axes m.space cube) us es under d (omega (arith, there-low f.target.args d b at, target-long its)));
        }

    -- each argument of the feeder follows one of the reference
    follows-one : own ≡ r.cube → (d : ℕ) (b : Arg) → slice_get f.target.args d ≡ Some b → reached.FollowsOne m ruled cube there statement is_area r is b
    follows-one same d b at j to e =
        let moved : slice_get f.target.args d ≡ Some (Moved j to) = at ∙ ap Some e in
        let low : j < length (sizes m.space own) = follows-at (length (sizes m.space own)) f.target.args (follow-all (sizes m.space own) (sizes m.space f.target.cube) f.target.args is_feeder.target.1) d j to moved in
        omega (arith, low, axes-sizes m.space own ∙ ap (λ k. length (axes m.space k)) same, args-long)

    module _ (wide : 0 < width) where
      pub covers-by : covers m cube statement.area r own f ≡ true → CoversBy (system_of m) (rule_of m.space cube statement) r (feed_of m.space own f)
      unfolding system_of feeds_all
      covers-by h c t x of names inside =
          let (es, ts, xs, pair, reading) = reading-pair c t x of names inside in
          let possible = pairs.pair-possible m ruled cube there statement is_area r is (has_leaves dims) (IsLeafBelow dims) (has-some dims) (some-has dims) es ts xs pair in
          let all = Rattle.cover_laws.proofs.Looks.not-or (is_possible look) _ h possible in
          let cubes = and_parts _ _ all in
          let each = and_parts _ _ cubes.1 in
          let both = and_parts _ _ cubes.0 in
          let same : own ≡ r.cube = (Decides-eqb own r.cube).0 both.0 in
          let its : f.target.cube ≡ cube = (Decides-eqb f.target.cube cube).0 both.1 in
          feeds es ts xs c t x reading (record {
            own_cube = same;
            its_cube = its;
            sources = λ j low. naming.named-good m ruled cube there statement is_area r is (has_leaves dims) (IsLeafBelow dims) (has-some dims) (some-has dims) wide
                (are_sources dims f.area.sets) (λ j l. is_source_at dims f.area.sets j l ≡ true) (source-good dims f.area.sets) (λ j t count. good-source dims f.area.sets j t) each.0 es ts xs pair j (omega (arith, low, args-long));
            over = λ d b at. reached.reaches-over m ruled cube there statement is_area r is d (omega (arith, there-low f.target.args d b at, target-long its)) b (follows-one same d b at)
                (reach-elim look dims f.target.args each.1 d b at) es ts xs pair;
          })

      pub by-covers : CoversBy (system_of m) (rule_of m.space cube statement) r (feed_of m.space own f) → covers m cube statement.area r own f ≡ true
      unfolding system_of feeds_all
      by-covers h = Rattle.cover_laws.proofs.Looks.or-not (is_possible look) _ (λ possible.
          let first = pairs.narrow-there m ruled cube there statement is_area r is (has_leaves dims) (IsLeafBelow dims) (has-some dims) (some-has dims) possible 0 wide in
          let (es, long, each) = pairs.cell-with m ruled cube there statement is_area r is (has_leaves dims) (IsLeafBelow dims) (has-some dims) (some-has dims) possible 0 first.0 0 first.0 wide first.1 first.1 (λ _. refl) in
          let (ts, xs, pair) = pairs.pair-of m ruled cube there statement is_area r is (has_leaves dims) (IsLeafBelow dims) (has-some dims) (some-has dims) possible es long (λ k low. (each k low).0) in
          let one = fed-of es ts xs pair in
          and_from _ _ (and_from _ _ (eq-eqb _ _ one.own_cube) (eq-eqb _ _ one.its_cube))
          (and_from _ _
          (naming.good-named m ruled cube there statement is_area r is (has_leaves dims) (IsLeafBelow dims) (has-some dims) (some-has dims) wide
          (are_sources dims f.area.sets) (λ j l. is_source_at dims f.area.sets j l ≡ true) (source-good dims f.area.sets) (λ j t count. good-source dims f.area.sets j t) possible
          (λ es ts xs pair j low. (fed-of es ts xs pair).sources j (omega (arith, low, args-long))))
          (reach-intro look dims f.target.args (λ d b at. reached.over-reaches m ruled cube there statement is_area r is d (omega (arith, there-low f.target.args d b at, target-long one.its_cube)) possible b
          (follows-one one.own_cube d b at) (λ es ts xs pair. (fed-of es ts xs pair).over d b at)))))
        where
          fed-of : (es ts xs : List ℕ) → IsPair es ts xs → IsFedBy es xs
          fed-of es ts xs pair =
              let (c, t, x, reading) = pair-reading es ts xs pair in
              fed-by es ts xs c t x reading (h c t x reading.of reading.names (stands-contains m valid t x reading.target_at.cell reading.stands))
