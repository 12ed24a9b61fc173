-- The arrows that ConsolidateChildren makes are those by dimension.
use Rattle.std.proofs.Common.{◌≡◌, refl, sym, ap, ◌∙◌, arith, subst, ℕ, ◌<◌, Bool, true, false, not, ◌&&◌, ◌==◌, ℤ, pos, Option, Some, None, List, [], length, get_or, set, if◌then◌else◌}
use Rattle.std.specs.Prelude.{IsTrue, slice_get}
use Rattle.std.specs.List.{list_any}
use Rattle.std.specs.Option.{option_map_or}
use Rattle.std.proofs.lemmas.Bool.{and_parts, and_from, eq-eqb, ne_eqb}
use Rattle.std.proofs.lemmas.Bool.Decides.{Decides-eqb}
use Rattle.std.proofs.lemmas.List.{length-set, get_or-set_same, get_or-set_other, get_or_default}
use Rattle.std.proofs.lemmas.List.Folds.{Any-from_list_any, list_any_at}
use Rattle.dim_core.specs.Outline.{Outline, components_of}
use Rattle.dim_weights.specs.Table.{is_nonzero}
use Rattle.cube_space.specs.Layout.{axes}
use Rattle.cube_space.specs.Cells.{IsSpace, elements_of, is_leaf, is_leaf_cell}
use Rattle.rule_laws.specs.Meaning.{Components}
use Rattle.rule_laws.specs.Ordered.{IsCellOf, HasPrecedent}
use Rattle.rule_model.specs.declared.rules.Statement.{Statement}
use Rattle.rule_model.specs.BoundModel.{BoundModel}
use Rattle.rule_model.specs.System.{system_of, rule_of}
use Rattle.rule_model.specs.Conditions.{IsArea, AreRules}
use Rattle.order_laws.specs.Scales.{is_total, is_leaf_element, parts_in}
use Rattle.order_laws.proofs.SumFacts.{all_from}
use Rattle.order_laws.proofs.CellFacts.{IsAt, not-not, leaf-all}
use Rattle.order_laws.proofs.Decided.{cell-of, of-cell}
use Rattle.order_laws.proofs.Components.{read-part, part-read}
use Rattle.arrow_laws.specs.Nodes.{Node, last_of, node_kind, kind_in}
use Rattle.arrow_laws.specs.Arrows.{IsJoined}
use Rattle.arrow_laws.specs.ByDimension.{admits, asks_total, has_part, is_part, serves, names_total, is_from, Asked, left, Choice, IsElsewhere, HasElsewhere, IsPartFrom, IsJoinedByDimension}
use Rattle.arrow_laws.proofs.ReadKind.{Has, fixed-admits, each-admits, one-fails, node-there, kind-is}
use Rattle.arrow_laws.proofs.Made.{last-there, node-is, same-node, Of, Passes, IsPlaced, choice, asked, from-parts, of-passes, passes-of, placed}

-- an element with a component is consolidated
part-total : (dims : List Outline) (i e k : ℕ) → k < length (parts_in dims i e) → is_total dims i e ≡ true
part-total dims i e k = by (slice_get dims i)
  where
    many : (n : ℕ) → k < n → not (n == 0) ≡ true
    many n low = ap not (ne_eqb n 0 (λ e. omega (arith, e, low)))

    by : (o : Option Outline) → k < length (option_map_or (λ d. components_of d e) o []) → option_map_or (λ d. not (is_leaf d e)) o false ≡ true
    by None low = absurd (omega arith)
    by (Some d) low = many (length (components_of d e)) low

-- the part that passes a test
part-found : (test : ℕ × ℤ → Bool) (parts : List (ℕ × ℤ)) → list_any test parts ≡ true → (k : ℕ) × (k < length parts) × (test (get_or parts k (0, pos 0)) ≡ true)
part-found test parts h =
    let (k, x, low, is, passes) = Any-from_list_any test parts h in
    (k, low, ap test (get_or_default parts k (0, pos 0) x low ∙ is) ∙ passes)

-- where totals are asked, all is admitted
asked-admits : (its : Option Bool) → asks_total its true ≡ true → (leaf : Bool) → admits its leaf ≡ true
asked-admits None asks leaf = absurd (cc)
asked-admits (Some true) asks leaf = absurd (cc)
asked-admits (Some false) asks leaf = refl

module _ (m : BoundModel) (valid : IsSpace m.space) (ruled : AreRules m.space m.rules) (cube : ℕ) (there : cube < length m.space.cubes)
    (s : Statement) (is_area : IsArea m.space cube s.area) (kind : Bool) (dim : ℕ) (is_dim : dim < length (axes m.space cube)) where
  abbrev width : ℕ
  width = length (axes m.space cube)

  abbrev last : ℕ
  last = last_of m.space cube

  abbrev From : Option Bool → ℕ → ℕ → Bool
  From its = is_from m cube s.area kind (Components dim) its

  abbrev IsHere : Option Bool → List ℕ → Type 0
  IsHere its es = Of m ruled cube there s is_area kind (Components dim) its es

  abbrev Pass : Option Bool → List ℕ → Type 0
  Pass its es = Passes m ruled cube there s is_area kind (Components dim) its es

  abbrev may : Option Bool → Choice
  may its = choice m ruled cube there s is_area kind (Components dim) its

  abbrev ask : Option Bool → Asked
  ask its = asked m ruled cube there s is_area kind (Components dim) its

  -- where what is asked is, in a cell that reads one with this element in the last dimension
  abbrev IsBeside : Option Bool → ℕ → Type 0
  IsBeside its element = HasElsewhere (may its) last last (left (ask its) true (is_total (axes m.space cube) last element))

  abbrev Parts : ℕ → List (ℕ × ℤ)
  Parts e = parts_in (axes m.space cube) dim e

  abbrev part : ℕ → ℕ → ℕ × ℤ
  part e n = get_or (Parts e) n (0, pos 0)

  -- the elements of the cell of a component
  abbrev other : List ℕ → ℕ → List ℕ
  other es n = set es dim (part (get_or es dim 0) n).0

  abbrev is_leaf_in : ℕ → ℕ → Bool
  is_leaf_in = is_leaf_element (axes m.space cube)

  abbrev names : ℕ → ℕ → Bool
  names = names_total m.space cube (Components dim)

  -- a component of a weight other than 0
  abbrev IsPart : ℕ → ℕ → Type 0
  IsPart e n = (n < length (Parts e)) × (is_nonzero (part e n).1 ≡ true)

  low_last : last < width
  low_last = last-there m.space cube valid there

  -- ---- the elements of a component's cell

  at-dim : (es : List ℕ) (n : ℕ) → length es ≡ width → get_or (other es n) dim 0 ≡ (part (get_or es dim 0) n).0
  at-dim es n long = get_or-set_same es dim (part (get_or es dim 0) n).0 0 (omega (arith, long, is_dim))

  beside : (es : List ℕ) (n i : ℕ) → (i == dim) ≡ false → get_or (other es n) i 0 ≡ get_or es i 0
  beside es n i apart = get_or-set_other es dim i (part (get_or es dim 0) n).0 0 (λ same. (let clash = (Decides-eqb i dim).1 same in absurd (cc)))

  read-leaf : (es : List ℕ) (n t : ℕ) → length es ≡ width → IsAt m.space cube (other es n) t → true && all_from is_leaf_in 0 (other es n) ≡ is_leaf_cell m.space t
  read-leaf es n t long at_t = sym (leaf-all m.space cube (other es n) t at_t (length-set es dim (part (get_or es dim 0) n).0 ∙ long))

  -- some component passes
  part-passes : (test : ℕ → Bool) (es : List ℕ) (n : ℕ) → IsPart (get_or es dim 0) n → test (part (get_or es dim 0) n).0 ≡ true → has_part (axes m.space cube) test dim (get_or es dim 0) ≡ true
  part-passes test es n (low, nonzero) is = list_any_at (λ part. test part.0 && is_nonzero part.1) (Parts (get_or es dim 0)) n (0, pos 0) low (and_from _ _ is nonzero)

  passing-part : (test : ℕ → Bool) (e : ℕ) → has_part (axes m.space cube) test dim e ≡ true → (n : ℕ) × IsPart e n × (test (part e n).0 ≡ true)
  passing-part test e h =
      let (n, low, passes) = part-found (λ part. test part.0 && is_nonzero part.1) (Parts e) h in
      let (is, nonzero) = and_parts (test (part e n).0) (is_nonzero (part e n).1) passes in
      (n, (low, nonzero), is)

  serving : (its : Option Bool) (es : List ℕ) (n : ℕ) → length es ≡ width → IsPart (get_or es dim 0) n → ((i : ℕ) → i < width → admits its (is_leaf_in i (get_or (other es n) i 0)) ≡ true)
      → (i : ℕ) → i < width → serves m.space cube (Components dim) its i (get_or es i 0) ≡ true
  serving its es n long is_one admit i low = by (i == dim) refl
    where
      by : (t : Bool) → (i == dim) ≡ t → serves m.space cube (Components dim) its i (get_or es i 0) ≡ true
      by true e =
          let same : dim ≡ i = sym ((Decides-eqb i dim).0 e) in
          let own = subst (λ x. admits its (is_leaf_in dim x) ≡ true) (at-dim es n long) (admit dim is_dim) in
          let has = part-passes (λ part. admits its (is_leaf_in dim part)) es n is_one own in
          ap (λ b. if b then has_part (axes m.space cube) (λ part. admits its (is_leaf_in i part)) i (get_or es i 0) else admits its (is_leaf_in i (get_or es i 0))) e
          ∙ subst (λ n. has_part (axes m.space cube) (λ part. admits its (is_leaf_in n part)) n (get_or es n 0) ≡ true) same has
      by false e =
          ap (λ b. if b then has_part (axes m.space cube) (λ part. admits its (is_leaf_in i part)) i (get_or es i 0) else admits its (is_leaf_in i (get_or es i 0))) e
          ∙ subst (λ x. admits its (is_leaf_in i x) ≡ true) (beside es n i e) (admit i low)

  -- where a component's cell has a consolidated element, one is named from that dimension
  naming : (es : List ℕ) (n i : ℕ) → length es ≡ width → IsPart (get_or es dim 0) n → not (is_leaf_in i (get_or (other es n) i 0)) ≡ true → names i (get_or es i 0) ≡ true
  naming es n i long is_one total = by (i == dim) refl
    where
      by : (t : Bool) → (i == dim) ≡ t → names i (get_or es i 0) ≡ true
      by true e =
          let same : i ≡ dim = (Decides-eqb i dim).0 e in
          let own = subst (λ x. not (is_leaf_in dim x) ≡ true) (at-dim es n long) (subst (λ j. not (is_leaf_in j (get_or (other es n) j 0)) ≡ true) same total) in
          let has = part-passes (λ part. not (is_leaf_in dim part)) es n is_one own in
          ap (λ b. if b then has_part (axes m.space cube) (λ part. not (is_leaf_in i part)) i (get_or es i 0) else is_total (axes m.space cube) i (get_or es i 0)) e
          ∙ subst (λ n. has_part (axes m.space cube) (λ part. not (is_leaf_in n part)) n (get_or es n 0) ≡ true) (sym same) has
      by false e =
          ap (λ b. if b then has_part (axes m.space cube) (λ part. not (is_leaf_in i part)) i (get_or es i 0) else is_total (axes m.space cube) i (get_or es i 0)) e
          ∙ sym (not-not (is_total (axes m.space cube) i (get_or es i 0))) ∙ subst (λ x. not (is_leaf_in i x) ≡ true) (beside es n i e) total

  -- ---- what is joined is so by dimension

  abbrev JoinedBy : Node → Node → Type 0
  JoinedBy = IsJoinedByDimension m cube s.area kind (Components dim)

  abbrev Joined : Node → Node → Type 0
  Joined = IsJoined m cube s kind (Components dim)

  -- the nodes of a cell of these elements, and of what it reads
  abbrev node_by : List ℕ → Bool → Node
  node_by es leaf = record { cube = cube; element = get_or es last 0; kind = node_kind m cube leaf }

  never : (b : Bool) → b && false ≡ true → ⊥
  never true h = absurd (cc)
  never false h = absurd (cc)

  beside-of : (its : Option Bool) (es : List ℕ) (n : ℕ) → length es ≡ width → Pass its es → IsPart (get_or es dim 0) n
      → ((ask its).its ≡ true → Has width (λ i e. not (is_leaf_in i e)) (other es n)) → IsBeside its (get_or (other es n) last 0)
  beside-of its es n long passes is_one has =
      let (e, is) = by (ask its).its has in
      record { d = last; element = get_or es last 0; own = λ h. absurd (never (ask its).own h); e = e; other = get_or es e 0; its = is; same = λ same. ap (λ n. get_or es n 0) same }
    where
      by : (b : Bool) → (b ≡ true → Has width (λ i e. not (is_leaf_in i e)) (other es n))
          → (e : ℕ) × (IsTrue (b && not (is_total (axes m.space cube) last (get_or (other es n) last 0))) → IsElsewhere (may its) last last e (get_or es e 0) × IsTrue (names e (get_or es e 0)))
      by false has = (0, λ h. absurd (cc))
      by true has =
          let (e, low, total) = has refl in
          (e, λ none. (record { within = low; not_first = apart e total none; not_second = apart e total none; passes = passes e low }, naming es n e long is_one total))
        where
          clash : (t : Bool) → not (not t) ≡ true → not t ≡ true → ⊥
          clash true h k = absurd (cc)
          clash false h k = absurd (cc)

          apart : (e : ℕ) → not (is_leaf_in e (get_or (other es n) e 0)) ≡ true → not (is_total (axes m.space cube) last (get_or (other es n) last 0)) ≡ true → e ≡ last → ⊥
          apart e total none same = clash (is_total (axes m.space cube) last (get_or (other es n) last 0)) (subst (λ k. not (is_leaf_in k (get_or (other es n) k 0)) ≡ true) same total) none

  part-from : (its : Option Bool) (es : List ℕ) (n : ℕ) → length es ≡ width → IsPart (get_or es dim 0) n → ((i : ℕ) → i < width → admits its (is_leaf_in i (get_or (other es n) i 0)) ≡ true)
      → IsBeside its (get_or (other es n) last 0) → (t : Bool) → (dim == last) ≡ t → IsPartFrom (may its) (ask its) its (axes m.space cube) last t (get_or es last 0) (get_or (other es n) last 0)
  part-from its es n long is_one admit is_beside true e =
      let here : dim ≡ last = (Decides-eqb dim last).0 e in
      let x = (part (get_or es dim 0) n).0 in
      let has = part-passes (λ part. part == x) es n is_one (eq-eqb x x refl) in
      let moved = sym (at-dim es n long) ∙ ap (λ k. get_or (other es n) k 0) here in
      (subst (λ k. is_part (axes m.space cube) k (get_or es k 0) (get_or (other es n) last 0) ≡ true) here (subst (λ y. is_part (axes m.space cube) dim (get_or es dim 0) y ≡ true) moved has), admit last low_last, is_beside)
  part-from its es n long is_one admit is_beside false e =
      let same = beside es n last (ne_eqb last dim (λ same. (let clash = (Decides-eqb dim last).1 (sym same) in absurd (cc)))) in
      (sym same, subst (IsBeside its) same is_beside)

  joined-at : (c t : ℕ) → IsCellOf (system_of m) (rule_of m.space cube s) kind c → HasPrecedent (system_of m) (Components dim) c t
      → (ts : List ℕ) × JoinedBy (node_by (elements_of m.space c) kind) (node_by ts (is_leaf_cell m.space t)) × IsAt m.space cube ts t
  joined-at c t is_of has =
      let (at, of) = cell-of m ruled cube there s is_area kind c is_of in
      let es = elements_of m.space c in
      let (n, low, nonzero, at_t) = read-part m valid ruled cube there s is_area dim is_dim es c t at of.digits has in
      let long : length (other es n) ≡ width = length-set es dim (part (get_or es dim 0) n).0 ∙ of.long in
      let leaf = is_leaf_cell m.space t in
      let read = read-leaf es n t of.long at_t in
      let its = kind_in m cube (node_kind m cube leaf) in
      let admit : (i : ℕ) → i < width → admits its (is_leaf_in i (get_or (other es n) i 0)) ≡ true = λ i low. each-admits m cube is_leaf_in (other es n) true leaf read i (omega (arith, long, low)) in
      let passes = of-passes m ruled cube there s is_area kind (Components dim) its es of (serving its es n of.long (low, nonzero) admit) in
      let has_total : asks_total its true ≡ true → Has width (λ i e. not (is_leaf_in i e)) (other es n) =
      λ asks. (let (k, low, total) = one-fails m cube is_leaf_in (other es n) true leaf read asks in (k, omega (arith, long, low), total)) in
      let is_beside = beside-of its es n of.long passes (low, nonzero) has_total in (
        other es n,
        record {
          source = refl;
          source_kind = refl;
          target = refl;
          target_kind = node-there m cube leaf;
          fixed = fixed-admits m cube is_leaf_in (other es n) true leaf read;
          each = λ i low. (get_or es i 0, passes i low);
          own = passes last low_last;
          named = part-from its es n of.long (low, nonzero) admit is_beside (dim == last) refl;
        },
        at_t,
      )

  leaf-kind : (c : ℕ) → IsCellOf (system_of m) (rule_of m.space cube s) kind c → is_leaf_cell m.space c ≡ kind
  unfolding system_of
  leaf-kind c is_of = is_of.kind_is

  pub joined-children : (from to : Node) → Joined from to → JoinedBy from to
  joined-children from to j =
      let (at, of) = cell-of m ruled cube there s is_area kind j.cell j.is_of in
      let (ts, by, at_t) = joined-at j.cell j.read j.is_of j.has in
      subst (λ n. JoinedBy n to) (sym (node-is m cube (elements_of m.space j.cell) j.cell kind at (leaf-kind j.cell j.is_of)) ∙ j.source)
      (subst (JoinedBy (node_by (elements_of m.space j.cell) kind)) (sym (node-is m cube ts j.read (is_leaf_cell m.space j.read) at_t refl) ∙ j.target) by)

  -- ---- and back

  -- an element of the dimension from which components are read has one that is admitted
  from-part : (its : Option Bool) (e : ℕ) → IsTrue (From its dim e) → (n : ℕ) × IsPart e n × (admits its (is_leaf_in dim (part e n).0) ≡ true)
  from-part its e h =
      let serving = (from-parts m ruled cube there s is_area kind (Components dim) its dim e h).2 in
      passing-part (λ part. admits its (is_leaf_in dim part)) e
      (ap (λ b. if b then has_part (axes m.space cube) (λ part. admits its (is_leaf_in dim part)) dim e else admits its (is_leaf_in dim e)) (sym (eq-eqb dim dim refl)) ∙ serving)

  -- a cell from which components are read is consolidated
  of-parent : (its : Option Bool) (es : List ℕ) → length es ≡ width → Pass its es → IsHere its es
  of-parent its es long passes =
      let (n, is_one, admit) = from-part its (get_or es dim 0) (passes dim is_dim) in
      passes-of m ruled cube there s is_area kind (Components dim) its es long passes (λ asks. (dim, is_dim, part-total (axes m.space cube) dim (get_or es dim 0) n is_one.0))

  module _ (from : Node) (element : ℕ) (k : Bool) where
    abbrev its : Option Bool
    its = kind_in m cube k

    abbrev read_node : Node
    read_node = record { cube = cube; element = element; kind = k }

    -- from such elements it is read
    made-joined : JoinedBy from read_node → (es : List ℕ) → length es ≡ width → Pass its es → get_or es last 0 ≡ from.element → (n : ℕ) → IsPart (get_or es dim 0) n
        → admits its (is_leaf_in dim (part (get_or es dim 0) n).0) ≡ true → get_or (other es n) last 0 ≡ element
        → (asks_total its true ≡ true → Has width (λ i e. not (is_leaf_in i e)) (other es n)) → Joined from read_node
    made-joined j es long passes own n is_one admit same has =
        let of = of-parent its es long passes in
        let (c, at, is_of) = of-cell m ruled cube there s is_area kind es of in
        let (t, reads, at_t) = part-read m valid ruled cube there s is_area dim is_dim es c n at of.digits is_one.0 is_one.1 in
        let long_t : length (other es n) ≡ width = length-set es dim (part (get_or es dim 0) n).0 ∙ long in
        let kind_t = kind-is m cube is_leaf_in (other es n) true (is_leaf_cell m.space t) (read-leaf es n t long at_t) k j.target_kind j.fixed (λ i low. admitted i (omega (arith, low, long_t)) (i == dim) refl)
        (λ asks. (let (k, low, total) = has asks in (k, omega (arith, long_t, low), total))) in
        record {
          cell = c;
          read = t;
          is_of = is_of;
          has = reads;
          source = node-is m cube es c kind at (leaf-kind c is_of) ∙ same-node from cube (get_or es last 0) (node_kind m cube kind) j.source own (sym j.source_kind);
          target = node-is m cube (other es n) t (is_leaf_cell m.space t) at_t refl ∙ same-node read_node cube (get_or (other es n) last 0) (node_kind m cube (is_leaf_cell m.space t)) refl same kind_t;
        }
      where
        admitted : (i : ℕ) → i < width → (t : Bool) → (i == dim) ≡ t → admits its (is_leaf_in i (get_or (other es n) i 0)) ≡ true
        admitted i low true e =
            let here : dim ≡ i = sym ((Decides-eqb i dim).0 e) in
            subst (λ j. admits its (is_leaf_in j (get_or (other es n) j 0)) ≡ true) here (subst (λ x. admits its (is_leaf_in dim x) ≡ true) (sym (at-dim es n long)) admit)
        admitted i low false e =
            let serving = (from-parts m ruled cube there s is_area kind (Components dim) its i (get_or es i 0) (passes i low)).2 in
            let bare = ap (λ b. if b then has_part (axes m.space cube) (λ part. admits its (is_leaf_in i part)) i (get_or es i 0) else admits its (is_leaf_in i (get_or es i 0))) (sym e) ∙ serving in
            subst (λ x. admits its (is_leaf_in i x) ≡ true) (sym (beside es n i e)) bare

    module _ (has : IsBeside its element) (es : List ℕ)
        (is : IsPlaced m ruled cube there s is_area kind (Components dim) its from.element last from.element (left (ask its) true (is_total (axes m.space cube) last element)) has es) where
      -- whether a consolidated element that is named is asked elsewhere
      abbrev wanted : Bool
      wanted = (ask its).its && not (is_total (axes m.space cube) last element)

      -- what the other element names
      elsewhere-names : wanted ≡ true → (t : Bool) → (has.e == dim) ≡ t → (if t then has_part (axes m.space cube) (λ part. not (is_leaf_in has.e part)) has.e has.other else is_total (axes m.space cube) has.e has.other) ≡ true
      elsewhere-names asks t e =
          ap (λ b. if b then has_part (axes m.space cube) (λ part. not (is_leaf_in has.e part)) has.e has.other else is_total (axes m.space cube) has.e has.other) (sym e) ∙ (has.its asks).1

      -- it is there in the component's cell
      total-there : (n : ℕ) → get_or (other es n) last 0 ≡ element → (wanted ≡ true → has.e ≡ dim → not (is_leaf_in dim (part (get_or es dim 0) n).0) ≡ true)
          → (ask its).its ≡ true → Has width (λ i e. not (is_leaf_in i e)) (other es n)
      total-there n same chosen asks = by (is_total (axes m.space cube) last element) refl
        where
          at : wanted ≡ true → (t : Bool) → (has.e == dim) ≡ t → not (is_leaf_in has.e (get_or (other es n) has.e 0)) ≡ true
          at want true e =
              let here : has.e ≡ dim = (Decides-eqb has.e dim).0 e in
              subst (λ j. not (is_leaf_in j (get_or (other es n) j 0)) ≡ true) (sym here) (subst (λ x. not (is_leaf_in dim x) ≡ true) (sym (at-dim es n is.put.long)) (chosen want here))
          at want false e =
              subst (λ x. not (is_leaf_in has.e x) ≡ true) (sym (beside es n has.e e ∙ is.has_its want)) (not-not (is_total (axes m.space cube) has.e has.other) ∙ elsewhere-names want false e)

          by : (t : Bool) → is_total (axes m.space cube) last element ≡ t → Has width (λ i e. not (is_leaf_in i e)) (other es n)
          by true e = (last, low_last, subst (λ x. not (is_leaf_in last x) ≡ true) (sym same) (not-not (is_total (axes m.space cube) last element) ∙ e))
          by false e = let want = and_from (ask its).its _ asks (ap not e) in (has.e, (has.its want).0.within, at want (has.e == dim) refl)

      -- a component that is admitted, and consolidated where that is asked of it
      abbrev IsFound : Type 0
      IsFound = (n : ℕ) × IsPart (get_or es dim 0) n × (admits its (is_leaf_in dim (part (get_or es dim 0) n).0) ≡ true)
          × (wanted ≡ true → has.e ≡ dim → not (is_leaf_in dim (part (get_or es dim 0) n).0) ≡ true)

      component : IsFound
      component = by wanted refl (has.e == dim) refl
        where
          any : (wanted ≡ true → has.e ≡ dim → ⊥) → IsFound
          any none = let (n, is_one, admit) = from-part its (get_or es dim 0) (is.put.passes dim is_dim) in (n, is_one, admit, λ want here. absurd (none want here))

          by : (w : Bool) → wanted ≡ w → (t : Bool) → (has.e == dim) ≡ t → IsFound
          by false want t e = any (λ other here. (let clash : true ≡ false = sym other ∙ want in absurd (cc)))
          by true want false e = any (λ _ here. (let clash = (Decides-eqb has.e dim).1 here in absurd (cc)))
          by true want true e =
              let here : has.e ≡ dim = (Decides-eqb has.e dim).0 e in
              let at : has.other ≡ get_or es dim 0 = sym (is.has_its want) ∙ ap (λ n. get_or es n 0) here in
              let named = subst (λ j. has_part (axes m.space cube) (λ part. not (is_leaf_in j part)) j has.other ≡ true) here (elsewhere-names want true e) in
              let (n, is_one, total) = passing-part (λ part. not (is_leaf_in dim part)) (get_or es dim 0) (subst (λ x. has_part (axes m.space cube) (λ part. not (is_leaf_in dim part)) dim x ≡ true) at named) in
              (n, is_one, asked-admits its (and_parts _ _ want).0 (is_leaf_in dim (part (get_or es dim 0) n).0), λ _ _. total)

    part-joined : JoinedBy from read_node → (t : Bool) → (dim == last) ≡ t → IsPartFrom (may its) (ask its) its (axes m.space cube) last t from.element element → Joined from read_node
    part-joined j true e (is_other, admit, has) =
        let here : dim ≡ last = (Decides-eqb dim last).0 e in
        let (es, is) = placed m ruled cube there s is_area kind (Components dim) its valid j.each from.element j.own last from.element low_last j.own (λ _. refl) (left (ask its) true (is_total (axes m.space cube) last element)) has in
        let at_dim : from.element ≡ get_or es dim 0 = sym is.put.at_last ∙ ap (λ n. get_or es n 0) (sym here) in
        let in_dim = subst (λ x. is_part (axes m.space cube) dim x element ≡ true) at_dim (subst (λ n. is_part (axes m.space cube) n from.element element ≡ true) (sym here) is_other) in
        let (n, is_one, named) = passing-part (λ part. part == element) (get_or es dim 0) in_dim in
        let part_is : (part (get_or es dim 0) n).0 ≡ element = (Decides-eqb (part (get_or es dim 0) n).0 element).0 named in
        let same : get_or (other es n) last 0 ≡ element = ap (λ k. get_or (other es n) k 0) (sym here) ∙ at-dim es n is.put.long ∙ part_is in
        made-joined j es is.put.long is.put.passes is.put.at_last n is_one
        (subst (λ x. admits its (is_leaf_in dim x) ≡ true) (sym part_is) (subst (λ k. admits its (is_leaf_in k element) ≡ true) (sym here) admit)) same
        (total-there has es is n same (λ want at. absurd ((has.its want).0.not_first (at ∙ here))))
    part-joined j false e (same, has) =
        let has_to = subst (IsBeside its) same has in
        let (es, is) = placed m ruled cube there s is_area kind (Components dim) its valid j.each from.element j.own last from.element low_last j.own (λ _. refl) (left (ask its) true (is_total (axes m.space cube) last element)) has_to in
        let (n, is_one, admit, chosen) = component has_to es is in
        let apart = ne_eqb last dim (λ same. (let clash = (Decides-eqb dim last).1 (sym same) in absurd (cc))) in
        let own : get_or (other es n) last 0 ≡ element = beside es n last apart ∙ is.put.at_last ∙ same in
        made-joined j es is.put.long is.put.passes is.put.at_last n is_one admit own (total-there has_to es is n own chosen)

  -- a node in another cube
  abbrev node_in : Node → ℕ → Node
  node_in node c = record { cube = c; element = node.element; kind = node.kind }

  pub children-joined : (from to : Node) → JoinedBy from to → Joined from to
  children-joined from to j =
      let here : JoinedBy from (node_in to cube) = subst (λ c. JoinedBy from (node_in to c)) j.target j in
      subst (λ c. Joined from (node_in to c)) (sym j.target) (part-joined from to.element to.kind here (dim == last) refl here.named)
