-- The arrows that a reference makes are those by dimension.
use Rattle.std.proofs.Common.{◌≡◌, refl, sym, ap, ◌∙◌, arith, subst, ℕ, ◌<◌, Bool, true, false, not, ◌&&◌, ◌||◌, ◌==◌, Option, Some, None, List, [], ◌∷◌, length, get_or}
use Rattle.std.specs.Prelude.{is_some, slice_get}
use Rattle.std.specs.List.{list_all}
use Rattle.std.proofs.lemmas.Bool.{and_parts, and_from, eq-eqb}
use Rattle.std.proofs.lemmas.Bool.Decides.{Decides-eqb}
use Rattle.std.proofs.lemmas.List.Sums.{AllPass-from_list_all}
use Rattle.cube_space.specs.Layout.{axes, sizes}
use Rattle.cube_space.specs.Cells.{IsSpace, elements_of, is_leaf_cell}
use Rattle.lists.proofs.Found.{found_holds}
use Rattle.rule_laws.specs.declared.reference.Arg.{Arg}
use Rattle.rule_laws.specs.declared.reference.Arg.TheVariants.{Fixed, Moved}
use Rattle.rule_laws.specs.declared.reference.Reference.{Reference}
use Rattle.rule_laws.specs.Meaning.{Named}
use Rattle.rule_laws.specs.Ordered.{IsCellOf, HasPrecedent}
use Rattle.rule_model.specs.declared.rules.Statement.{Statement}
use Rattle.rule_model.specs.BoundModel.{BoundModel}
use Rattle.rule_model.specs.Targets.{element_by, elements_by}
use Rattle.rule_model.specs.System.{system_of, rule_of}
use Rattle.rule_model.specs.Conditions.{IsArea, IsReference, AreRules}
use Rattle.order_laws.proofs.SumFacts.{all_from}
use Rattle.order_laws.proofs.ReferenceFacts.{AllFollow, moved-element}
use Rattle.order_laws.proofs.SetFacts.{follow-all, with-parts}
use Rattle.order_laws.specs.Earlier.{fixed_leaves, moved_leaves}
use Rattle.order_laws.proofs.LeafFacts.{named-leaves}
use Rattle.order_laws.proofs.CellFacts.{IsAt, axes-sizes, leaf-all}
use Rattle.order_laws.proofs.Decided.{cell-of, of-cell, target-at, at-target}
use Rattle.cover_laws.specs.Looking.{sent}
use Rattle.cover_laws.proofs.Pairs.{named-at, named-all, follows-at, named-long, arg-there}
use Rattle.arrow_laws.specs.Nodes.{Node, last_of, node_kind, kind_in}
use Rattle.arrow_laws.specs.Arrows.{IsJoined}
use Rattle.arrow_laws.specs.ByDimension.{names_from, names_total, is_from, admits, asks_total, IsNamedBy, IsJoinedByDimension}
use Rattle.arrow_laws.proofs.ReadKind.{Has, fixed-admits, each-admits, one-fails, node-there, kind-is}
use Rattle.arrow_laws.proofs.Made.{last-there, node-is, same-node, Of, Passes, choice, asked, from-parts, of-passes, of-suits, made}

-- where arguments name elements, they do so from each element of the cell
names-all : (es : List ℕ) (args : List Arg) (ts : List ℕ) → elements_by es args ≡ Some ts → (i : ℕ) → i < length es → list_all (names_from i (get_or es i 0)) args ≡ true
names-all es [] ts h i low = refl
names-all es (Fixed t ∷ args) ts h i low = let (x, us, first, rest, same) = with-parts (Some t) (elements_by es args) ts h in names-all es args us rest i low
names-all es (Moved from to ∷ args) ts h i low =
    let (x, us, first, rest, same) = with-parts (element_by es (Moved from to)) (elements_by es args) ts h in
    and_from (names_from i (get_or es i 0) (Moved from to)) _ (by (i == from) refl x first) (names-all es args us rest i low)
  where
    by : (t : Bool) → (i == from) ≡ t → (x : ℕ) → element_by es (Moved from to) ≡ Some x → not t || is_some (sent to (get_or es i 0)) ≡ true
    by false e x first = refl
    by true e x first =
        let same : i ≡ from = (Decides-eqb i from).0 e in
        ap (λ n. is_some (sent to (get_or es n 0))) same ∙ ap is_some (sym (moved-element es from to (omega (arith, low, same))) ∙ first)

-- and where they do so from each element, they name elements
all-named : (es : List ℕ) (args : List Arg) → AllFollow (length es) args → ((i : ℕ) → i < length es → list_all (names_from i (get_or es i 0)) args ≡ true) → (ts : List ℕ) × (elements_by es args ≡ Some ts)
all-named es args follow h = named-all es args by
  where
    some : (o : Option ℕ) → is_some o ≡ true → (t : ℕ) × (o ≡ Some t)
    some None e = absurd (cc)
    some (Some t) e = (t, refl)

    by : (j : ℕ) (arg : Arg) → slice_get args j ≡ Some arg → (t : ℕ) × (element_by es arg ≡ Some t)
    by j (Fixed t) at = (t, refl)
    by j (Moved from to) at =
        let low = follows-at (length es) args follow j from to at in
        let passes = found_holds (λ arg. names_from from (get_or es from 0) arg ≡ true) args j (Moved from to) (AllPass-from_list_all (names_from from (get_or es from 0)) args (h from low)) at in
        let (t, is) = some (sent to (get_or es from 0)) (ap (λ b. not b || is_some (sent to (get_or es from 0))) (sym (eq-eqb from from refl)) ∙ passes) in
        (t, moved-element es from to low ∙ is)

module _ (m : BoundModel) (valid : IsSpace m.space) (ruled : AreRules m.space m.rules) (cube : ℕ) (there : cube < length m.space.cubes)
    (s : Statement) (is_area : IsArea m.space cube s.area) (kind : Bool) (r : Reference) (is : IsReference m.space cube r) where
  abbrev width : ℕ
  width = length (axes m.space cube)

  abbrev last : ℕ
  last = last_of m.space cube

  -- the place of the last dimension of what is read
  abbrev end : ℕ
  end = last_of m.space r.cube

  abbrev From : Option Bool → ℕ → ℕ → Bool
  From its = is_from m cube s.area kind (Named r) its

  abbrev IsHere : Option Bool → List ℕ → Type 0
  IsHere its es = Of m ruled cube there s is_area kind (Named r) its es

  abbrev Pass : Option Bool → List ℕ → Type 0
  Pass its es = Passes m ruled cube there s is_area kind (Named r) its es

  abbrev IsNamed : Option Bool → Arg → ℕ → ℕ → Type 0
  IsNamed its = IsNamedBy (choice m ruled cube there s is_area kind (Named r) its) (asked m ruled cube there s is_area kind (Named r) its) last

  -- whether fixed arguments name leaves alone, and those that follow a dimension do from an element
  abbrev fixed : Bool
  fixed = fixed_leaves (axes m.space r.cube) 0 r.args

  abbrev flags : ℕ → ℕ → Bool
  flags = moved_leaves (axes m.space r.cube) 0 r.args

  follow : AllFollow width r.args
  follow = subst (λ n. AllFollow n r.args) (axes-sizes m.space cube) (follow-all (sizes m.space cube) (sizes m.space r.cube) r.args is.1)

  low_last : last < width
  low_last = last-there m.space cube valid there

  -- whether what is named is a leaf cell
  leaf : (es ts : List ℕ) (t : ℕ) → length es ≡ width → elements_by es r.args ≡ Some ts → IsAt m.space r.cube ts t → length ts ≡ length (axes m.space r.cube) → fixed && all_from flags 0 es ≡ is_leaf_cell m.space t
  leaf es ts t long named at_t long_t = named-leaves (axes m.space r.cube) 0 r.args es ts (subst (λ n. AllFollow n r.args) (sym long) follow) named ∙ sym (leaf-all m.space r.cube ts t at_t long_t)

  -- the nodes of a cell of these elements, and of what it reads
  abbrev source_node : List ℕ → Node
  source_node es = record { cube = cube; element = get_or es last 0; kind = node_kind m cube kind }

  abbrev target_node : List ℕ → Bool → Node
  target_node ts leaf = record { cube = r.cube; element = get_or ts end 0; kind = node_kind m r.cube leaf }

  abbrev JoinedBy : Node → Node → Type 0
  JoinedBy = IsJoinedByDimension m cube s.area kind (Named r)

  abbrev Joined : Node → Node → Type 0
  Joined = IsJoined m cube s kind (Named r)

  -- ---- what is joined is so by dimension

  named-by : (its : Option Bool) (es : List ℕ) → (of : IsHere its es) → Pass its es → (asks_total its fixed ≡ true → Has width (names_total m.space cube (Named r)) es) → (arg : Arg) (t : ℕ)
      → element_by es arg ≡ Some t → ((i : ℕ) (map : List (Option ℕ)) → arg ≡ Moved i map → i < width) → IsNamed its arg (get_or es last 0) t
  named-by its es of passes names (Fixed x) t name low =
      let same : x ≡ t = cc in
      (same, of-suits m ruled cube there s is_area kind (Named r) its es of passes names last)
  named-by its es of passes names (Moved i map) t name low = (
    get_or es i 0,
    passes i (low i map refl),
    λ same. ap (λ n. get_or es n 0) same,
    sym (moved-element es i map (omega (arith, of.long, low i map refl))) ∙ name,
    of-suits m ruled cube there s is_area kind (Named r) its es of passes names i,
  )

  joined-at : (c t : ℕ) → IsCellOf (system_of m) (rule_of m.space cube s) kind c → HasPrecedent (system_of m) (Named r) c t → (ts : List ℕ) × JoinedBy (source_node (elements_of m.space c)) (target_node ts (is_leaf_cell m.space t)) × IsAt m.space r.cube ts t
  unfolding system_of
  joined-at c t is_of has =
      let (at, of) = cell-of m ruled cube there s is_area kind c is_of in
      let es = elements_of m.space c in
      let (ts, named, at_t, long_t) = target-at m ruled cube there s is_area r c t es is at of.long has in
      let read = leaf es ts t of.long named at_t long_t in
      let its = kind_in m r.cube (node_kind m r.cube (is_leaf_cell m.space t)) in
      let passes = of-passes m ruled cube there s is_area kind (Named r) its es of
      (λ i low. and_from _ _ (names-all es r.args ts named i (omega (arith, of.long, low))) (each-admits m r.cube flags es fixed (is_leaf_cell m.space t) read i (omega (arith, of.long, low)))) in
      let names : asks_total its fixed ≡ true → Has width (names_total m.space cube (Named r)) es = λ asks. (let (k, low, total) = one-fails m r.cube flags es fixed (is_leaf_cell m.space t) read asks in (k, omega (arith, of.long, low), total)) in
      let (arg, here) = arg-there r.args end (omega (arith, named-long es r.args ts named, long_t, last-there m.space r.cube valid is.0)) in (
        ts,
        record {
          source = refl;
          source_kind = refl;
          target = refl;
          target_kind = node-there m r.cube (is_leaf_cell m.space t);
          fixed = fixed-admits m r.cube flags es fixed (is_leaf_cell m.space t) read;
          each = λ i low. (get_or es i 0, passes i low);
          own = passes last low_last;
          named = (arg, here, named-by its es of passes names arg (get_or ts end 0) (named-at es r.args ts named end arg here) (λ i map is. follows-at width r.args follow end i map (here ∙ ap Some is)));
        },
        at_t,
      )

  pub joined-reference : (from to : Node) → Joined from to → JoinedBy from to
  unfolding system_of
  joined-reference from to j =
      let (at, of) = cell-of m ruled cube there s is_area kind j.cell j.is_of in
      let (ts, by, at_t) = joined-at j.cell j.read j.is_of j.has in
      subst (λ n. JoinedBy n to) (sym (node-is m cube (elements_of m.space j.cell) j.cell kind at j.is_of.kind_is) ∙ j.source)
      (subst (JoinedBy (source_node (elements_of m.space j.cell))) (sym (node-is m r.cube ts j.read (is_leaf_cell m.space j.read) at_t refl) ∙ j.target) by)

  -- ---- and back

  module _ (from : Node) (element : ℕ) (k : Bool) where
    abbrev its : Option Bool
    its = kind_in m r.cube k

    abbrev read_node : Node
    read_node = record { cube = r.cube; element = element; kind = k }

    abbrev IsHad : List ℕ → Type 0
    IsHad es = Has width (names_total m.space cube (Named r)) es

    -- from such elements it is read
    made-joined : JoinedBy from read_node → (es : List ℕ) → (of : IsHere its es) → Pass its es → (asks_total its fixed ≡ true → IsHad es) → get_or es last 0 ≡ from.element
        → (arg : Arg) → slice_get r.args end ≡ Some arg → element_by es arg ≡ Some element → Joined from read_node
    unfolding system_of
    made-joined j es of passes names own arg here name =
        let (c, at, is_of) = of-cell m ruled cube there s is_area kind es of in
        let serving : (i : ℕ) → i < length es → list_all (names_from i (get_or es i 0)) r.args && admits its (flags i (get_or es i 0)) ≡ true =
        λ i low. (from-parts m ruled cube there s is_area kind (Named r) its i (get_or es i 0) (passes i (omega (arith, of.long, low)))).2 in
        let (ts, named) = all-named es r.args (subst (λ n. AllFollow n r.args) (sym of.long) follow) (λ i low. (and_parts _ _ (serving i low)).0) in
        let (t, names_t, at_t, long_t) = at-target m ruled cube there s is_area r c es ts is at of.long named in
        let last_name = sym (named-at es r.args ts named end arg here) ∙ name in
        let same : get_or ts end 0 ≡ element = cc in
        let kind_t = kind-is m r.cube flags es fixed (is_leaf_cell m.space t) (leaf es ts t of.long named at_t long_t) k j.target_kind j.fixed (λ i low. (and_parts _ _ (serving i low)).1)
        (λ asks. (let (k, low, total) = names asks in (k, omega (arith, of.long, low), total))) in
        record {
          cell = c;
          read = t;
          is_of = is_of;
          has = names_t;
          source = node-is m cube es c kind at is_of.kind_is ∙ same-node from cube (get_or es last 0) (node_kind m cube kind) j.source own (sym j.source_kind);
          target = node-is m r.cube ts t (is_leaf_cell m.space t) at_t refl ∙ same-node read_node r.cube (get_or ts end 0) (node_kind m r.cube (is_leaf_cell m.space t)) refl same kind_t;
        }

    named-joined : JoinedBy from read_node → (arg : Arg) → slice_get r.args end ≡ Some arg → IsNamed its arg from.element element → Joined from read_node
    named-joined j (Fixed x) here (same, suits) =
        let (es, is) = made m ruled cube there s is_area kind (Named r) its valid j.each from.element j.own last from.element low_last j.own (λ _. refl) suits in
        made-joined j es is.of is.put.passes is.names is.put.at_last (Fixed x) here (ap Some same)
    named-joined j (Moved i map) here (w, from_w, agree, sends, suits) =
        let low = follows-at width r.args follow end i map here in
        let (es, is) = made m ruled cube there s is_area kind (Named r) its valid j.each from.element j.own i w low from_w agree suits in
        made-joined j es is.of is.put.passes is.names is.put.at_last (Moved i map) here (moved-element es i map (omega (arith, is.of.long, low)) ∙ ap (sent map) is.put.at_i ∙ sends)

  -- a node in another cube
  abbrev node_in : Node → ℕ → Node
  node_in node c = record { cube = c; element = node.element; kind = node.kind }

  pub reference-joined : (from to : Node) → JoinedBy from to → Joined from to
  reference-joined from to j =
      let here : JoinedBy from (node_in to r.cube) = subst (λ c. JoinedBy from (node_in to c)) j.target j in
      let (arg, at, named) = here.named in
      subst (λ c. Joined from (node_in to c)) (sym j.target) (named-joined from to.element to.kind here arg at named)
