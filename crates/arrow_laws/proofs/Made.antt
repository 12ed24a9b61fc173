-- The cells of an area from which something is read, by elements of single dimensions.
use Rattle.std.proofs.Common.{◌≡◌, refl, sym, ap, ◌∙◌, arith, subst, ℕ, suc, ◌+◌, ◌<◌, ◌≤◌, Bool, true, false, not, ◌&&◌, ◌||◌, ◌==◌, Option, Some, List, [], ◌∷◌, length, get_or, set}
use Rattle.std.specs.Prelude.{IsTrue, ◌≢◌}
use Rattle.std.proofs.lemmas.Bool.{and_parts, and_from, not-true as not-false}
use Rattle.std.proofs.lemmas.Bool.Decides.{Decides-eqb}
use Rattle.std.proofs.lemmas.List.{length-set, get_or-set_same, get_or-set_other}
use Rattle.cube_space.specs.Layout.{Layout, axes, sizes}
use Rattle.cube_space.specs.Cells.{IsSpace, elements_of, is_leaf_cell}
use Rattle.cube_space.specs.Radix.{are_digits}
use Rattle.rule_laws.specs.Meaning.{Precedent}
use Rattle.rule_model.specs.declared.rules.Statement.{Statement}
use Rattle.rule_model.specs.BoundModel.{BoundModel}
use Rattle.rule_model.specs.Areas.{in_sets}
use Rattle.rule_model.specs.Conditions.{IsArea, AreRules}
use Rattle.cube_space.proofs.AxisFacts.{axes_count}
use Rattle.lists.proofs.Found.{there as place-there, found_holds}
use Rattle.order_laws.specs.Greatest.{any_from}
use Rattle.order_laws.specs.Scales.{is_total, is_leaf_element}
use Rattle.order_laws.proofs.CellFacts.{IsAt, IsOf, area-each}
use Rattle.cover_laws.proofs.Pairs.{all-at, all-of, any-not, choose}
use Rattle.arrow_laws.specs.Nodes.{Node, last_of, node_of, node_kind}
use Rattle.arrow_laws.specs.ByDimension.{admits, names_total, has_element, serves, is_from, HasEach, Asked, asked_of, left, Choice, IsElsewhere, HasElsewhere, Suits, choice_of}
use Rattle.arrow_laws.proofs.ReadKind.{Has}

-- one element passes where some does
any-found-from : (test : ℕ → ℕ → Bool) (base : ℕ) (es : List ℕ) → any_from test base es ≡ true → (k : ℕ) × (k < length es) × (test (base + k) (get_or es k 0) ≡ true)
any-found-from test base [] h = absurd (cc)
any-found-from test base (e ∷ es) h = by (test base e) refl h (any-found-from test (suc base) es)
  where
    by : (t : Bool) → test base e ≡ t → t || any_from test (suc base) es ≡ true
        → (any_from test (suc base) es ≡ true → (k : ℕ) × (k < length es) × (test (suc base + k) (get_or es k 0) ≡ true))
        → (k : ℕ) × (k < length (e ∷ es)) × (test (base + k) (get_or (e ∷ es) k 0) ≡ true)
    by true is h rest = let own : base ≡ base + 0 = omega arith in (0, omega arith, subst (λ n. test n e ≡ true) own is)
    by false is h rest =
        let (k, low, passes) = rest h in
        let on : (suc base + k) ≡ (base + suc k) = omega arith in
        (suc k, omega (arith, low), subst (λ n. test n (get_or es k 0) ≡ true) on passes)

any-found : (test : ℕ → ℕ → Bool) (es : List ℕ) → any_from test 0 es ≡ true → (k : ℕ) × (k < length es) × (test k (get_or es k 0) ≡ true)
any-found test es h =
    let (k, low, passes) = any-found-from test 0 es h in
    let own : 0 + k ≡ k = omega arith in
    (k, low, subst (λ n. test n (get_or es k 0) ≡ true) own passes)

-- each cube has a last dimension
pub last-there : (space : Layout) (cube : ℕ) → IsSpace space → cube < length space.cubes → last_of space cube < length (axes space cube)
last-there space cube valid there =
    let (shape, is) = place-there space.cubes cube there in
    let many = (found_holds (λ s. (2 ≤ length s.dims) × (length s.dims ≤ 16)) space.cubes cube shape valid.counts is).0 in
    omega (arith, many, axes_count space cube shape valid is)

-- the node of a cell of these elements and this kind
pub node-is : (m : BoundModel) (cube : ℕ) (es : List ℕ) (c : ℕ) (leaf : Bool) → IsAt m.space cube es c → is_leaf_cell m.space c ≡ leaf
    → node_of m c ≡ record { cube = cube; element = get_or es (last_of m.space cube) 0; kind = node_kind m cube leaf }
node-is m cube es c leaf at is =
    ap (λ k. own k (elements_of m.space c) (is_leaf_cell m.space c)) at.own ∙ ap (λ l. own cube l (is_leaf_cell m.space c)) at.elements ∙ ap (own cube es) is
  where
    own : ℕ → List ℕ → Bool → Node
    own k l b = record { cube = k; element = get_or l (last_of m.space k) 0; kind = node_kind m k b }

pub same-node : (n : Node) (cube element : ℕ) (kind : Bool) → n.cube ≡ cube → element ≡ n.element → kind ≡ n.kind → record { cube = cube; element = element; kind = kind } ≡ n
same-node n cube element kind own is kind_is = ap (λ k. made_of k element kind) (sym own) ∙ ap (λ e. made_of n.cube e kind) is ∙ ap (made_of n.cube n.element) kind_is
  where
    made_of : ℕ → ℕ → Bool → Node
    made_of k e b = record { cube = k; element = e; kind = b }

module _ (m : BoundModel) (ruled : AreRules m.space m.rules) (cube : ℕ) (there : cube < length m.space.cubes)
    (s : Statement) (is_area : IsArea m.space cube s.area) (kind : Bool) (p : Precedent) (its : Option Bool) where
  abbrev pub width : ℕ
  width = length (axes m.space cube)

  abbrev pub last : ℕ
  last = last_of m.space cube

  abbrev pub From : ℕ → ℕ → Bool
  From = is_from m cube s.area kind p its

  abbrev pub choice : Choice
  choice = choice_of m cube s.area kind p its

  abbrev pub asked : Asked
  asked = asked_of m kind p its

  abbrev pub Of : List ℕ → Type 0
  Of es = IsOf m.space cube s.area kind es

  -- each of these elements is one from which something is read
  abbrev pub Passes : List ℕ → Type 0
  Passes es = (i : ℕ) → i < width → IsTrue (From i (get_or es i 0))

  -- what holds of such an element
  pub from-parts : (i e : ℕ) → IsTrue (From i e) → (has_element m.space cube s.area i e ≡ true) × (admits (Some kind) (is_leaf_element (axes m.space cube) i e) ≡ true) × (serves m.space cube p its i e ≡ true)
  unfolding is_from
  from-parts i e h =
      let (inside, rest) = and_parts (has_element m.space cube s.area i e) (admits (Some kind) (is_leaf_element (axes m.space cube) i e) && serves m.space cube p its i e) h in
      let (suits, serving) = and_parts (admits (Some kind) (is_leaf_element (axes m.space cube) i e)) (serves m.space cube p its i e) rest in
      (inside, suits, serving)

  -- of a cell from which something is read
  pub of-passes : (es : List ℕ) → Of es → ((i : ℕ) → i < width → serves m.space cube p its i (get_or es i 0) ≡ true) → Passes es
  unfolding is_from
  of-passes es of serving i low =
      and_from _ _ (all-at (has_element m.space cube s.area) es (area-each m.space cube s.area es is_area of.long ∙ and_from _ _ of.digits of.inside) i within)
      (and_from _ _ (suits kind of.kind_is) (serving i low))
    where
      within : i < length es
      within = omega (arith, of.long, low)

      suits : (k : Bool) → any_from (is_total (axes m.space cube)) 0 es ≡ not k → admits (Some k) (is_leaf_element (axes m.space cube) i (get_or es i 0)) ≡ true
      suits false h = refl
      suits true h = all-at (λ i e. not (is_total (axes m.space cube) i e)) es (sym (any-not (is_total (axes m.space cube)) 0 es) ∙ ap not h) i within

  -- and back, where a consolidated cell has a consolidated element
  pub passes-of : (es : List ℕ) → length es ≡ width → Passes es → (asked.own ≡ true → Has width (is_total (axes m.space cube)) es) → Of es
  passes-of es long passes total =
      let all = sym (area-each m.space cube s.area es is_area long) ∙ all-of (has_element m.space cube s.area) es (λ i low. (from-parts i (get_or es i 0) (passes i (omega (arith, long, low)))).0) in
      let parts = and_parts (are_digits (sizes m.space cube) es) (in_sets s.area.sets es) all in
      record { long = long; digits = parts.0; inside = parts.1; kind_is = by kind refl }
    where
      leaf : (k : Bool) → kind ≡ k → (i : ℕ) → i < length es → admits (Some k) (is_leaf_element (axes m.space cube) i (get_or es i 0)) ≡ true
      leaf k is i low = subst (λ k. admits (Some k) (is_leaf_element (axes m.space cube) i (get_or es i 0)) ≡ true) is (from-parts i (get_or es i 0) (passes i (omega (arith, long, low)))).1

      some : (t : Bool) → any_from (is_total (axes m.space cube)) 0 es ≡ t → (k : ℕ) → k < length es → is_total (axes m.space cube) k (get_or es k 0) ≡ true → t ≡ true
      some true is k low h = refl
      some false is k low h =
          let none = all-at (λ i e. not (is_total (axes m.space cube) i e)) es (sym (any-not (is_total (axes m.space cube)) 0 es) ∙ ap not is) k low in
          absurd (let clash : not true ≡ true = ap not (sym h) ∙ none in cc)

      by : (k : Bool) → kind ≡ k → any_from (is_total (axes m.space cube)) 0 es ≡ not k
      by true is = not-false _ (any-not (is_total (axes m.space cube)) 0 es ∙ all-of (λ i e. not (is_total (axes m.space cube) i e)) es (leaf true is))
      by false is = let (k, low, h) = total (ap not is) in some (any_from (is_total (axes m.space cube)) 0 es) refl k (omega (arith, long, low)) h

  -- ---- where what is asked is found

  -- where one of the elements passes as asked, and none of two, it is elsewhere
  elsewhere : (test : ℕ → ℕ → Bool) (asks : Bool) (es : List ℕ) → Passes es → (asks ≡ true → Has width test es) → (i : ℕ)
      → (d : ℕ) × (IsTrue (asks && not (test last (get_or es last 0) || test i (get_or es i 0))) → IsElsewhere choice last i d (get_or es d 0) × IsTrue (test d (get_or es d 0)))
  elsewhere test false es passes has i = (0, λ h. absurd (cc))
  elsewhere test true es passes has i =
      let (d, low, is) = has refl in (
        d,
        λ none. (
          record { within = low; not_first = apart last d is (λ t. first (test last (get_or es last 0)) (test i (get_or es i 0)) t none); not_second = apart i d is (λ t. second (test last (get_or es last 0)) (test i (get_or es i 0)) t none); passes = passes d low },
          is,
        ),
      )
    where
      first : (a b : Bool) → a ≡ true → not (a || b) ≡ true → ⊥
      first true b e h = absurd (cc)
      first false b e h = absurd (cc)

      second : (a b : Bool) → b ≡ true → not (a || b) ≡ true → ⊥
      second true b e h = absurd (cc)
      second false true e h = absurd (cc)
      second false false e h = absurd (cc)

      apart : (k d : ℕ) → test d (get_or es d 0) ≡ true → (test k (get_or es k 0) ≡ true → ⊥) → d ≢ k
      apart k d is none same = none (subst (λ n. test n (get_or es n 0) ≡ true) same is)

  -- the elements of a cell suit each other
  pub of-suits : (es : List ℕ) → Of es → Passes es → (asked.its ≡ true → Has width (names_total m.space cube p) es) → (i : ℕ) → Suits choice asked last (get_or es last 0) i (get_or es i 0)
  of-suits es of passes names i =
      let (d, own) = elsewhere (is_total (axes m.space cube)) asked.own es passes (totals kind of.kind_is) i in
      let (e, other) = elsewhere (names_total m.space cube p) asked.its es passes names i in
      record { d = d; element = get_or es d 0; own = own; e = e; other = get_or es e 0; its = other; same = λ same. ap (λ n. get_or es n 0) same }
    where
      totals : (k : Bool) → any_from (is_total (axes m.space cube)) 0 es ≡ not k → not k ≡ true → Has width (is_total (axes m.space cube)) es
      totals true h asks = absurd (cc)
      totals false h asks = let (d, low, total) = any-found (is_total (axes m.space cube)) es h in (d, omega (arith, of.long, low), total)

  -- ---- elements that are put in

  -- another element in one dimension
  pub put-passes : (es : List ℕ) → length es ≡ width → Passes es → (d v : ℕ) → d < width → IsTrue (From d v) → Passes (set es d v)
  put-passes es long passes d v within from i low = by (i == d) refl
    where
      by : (t : Bool) → (i == d) ≡ t → IsTrue (From i (get_or (set es d v) i 0))
      by true e =
          let same : i ≡ d = (Decides-eqb i d).0 e in
          subst (λ n. IsTrue (From n (get_or (set es d v) n 0))) (sym same) (subst (λ x. IsTrue (From d x)) (sym (get_or-set_same es d v 0 (omega (arith, long, within)))) from)
      by false e = subst (λ x. IsTrue (From i x)) (sym (get_or-set_other es d i v 0 (λ same. (let clash = (Decides-eqb i d).1 same in absurd (cc))))) (passes i low)

  -- elements from which something is read, with these in the last dimension and in this one
  pub record IsPut (e i u : ℕ) (es : List ℕ) : Type 0 where
    pub long : length es ≡ width
    pub passes : Passes es
    pub at_last : get_or es last 0 ≡ e
    pub at_i : get_or es i 0 ≡ u

  -- another one elsewhere, where it is asked
  abbrev IsMore : ℕ → ℕ → ℕ → Bool → ℕ → ℕ → List ℕ → List ℕ → Type 0
  IsMore e i u asks d v es more =
      IsPut e i u more × (IsTrue asks → get_or more d 0 ≡ v) × ((k x : ℕ) → get_or es k 0 ≡ x → (k ≡ d → v ≡ x) → get_or more k 0 ≡ x)

  put-more : (e i u : ℕ) (asks : Bool) (d v : ℕ) → (IsTrue asks → IsElsewhere choice last i d v) → (es : List ℕ) → IsPut e i u es → (more : List ℕ) × IsMore e i u asks d v es more
  put-more e i u false d v there es put = (es, (put, (λ h. absurd (cc)), λ k x h same. h))
  put-more e i u true d v there es put = by (there refl)
    where
      by : IsElsewhere choice last i d v → (more : List ℕ) × IsMore e i u true d v es more
      by at =
          let low : d < length es = omega (arith, put.long, at.within) in (
            set es d v,
            (
              record {
                long = length-set es d v ∙ put.long;
                passes = put-passes es put.long put.passes d v at.within at.passes;
                at_last = get_or-set_other es d last v 0 (λ same. at.not_first (sym same)) ∙ put.at_last;
                at_i = get_or-set_other es d i v 0 (λ same. at.not_second (sym same)) ∙ put.at_i;
              },
              (λ _. get_or-set_same es d v 0 low),
              λ k x h same. kept k x h same low (k == d) refl,
            ),
          )
        where
          kept : (k x : ℕ) → get_or es k 0 ≡ x → (k ≡ d → v ≡ x) → d < length es → (t : Bool) → (k == d) ≡ t → get_or (set es d v) k 0 ≡ x
          kept k x h same low true is = let at : k ≡ d = (Decides-eqb k d).0 is in ap (λ n. get_or (set es d v) n 0) at ∙ get_or-set_same es d v 0 low ∙ same at
          kept k x h same low false is = get_or-set_other es d k v 0 (λ at. (let clash = (Decides-eqb k d).1 at in absurd (cc))) ∙ h

  -- what is asked is put elsewhere
  pub record IsPlaced (e i u : ℕ) (wanted : Asked) (has : HasElsewhere choice last i wanted) (es : List ℕ) : Type 0 where
    pub put : IsPut e i u es
    pub has_own : IsTrue wanted.own → get_or es has.d 0 ≡ has.element
    pub has_its : IsTrue wanted.its → get_or es has.e 0 ≡ has.other

  pub placed : (valid : IsSpace m.space) → HasEach From width → (e : ℕ) → IsTrue (From last e) → (i u : ℕ) → i < width → IsTrue (From i u) → (i ≡ last → u ≡ e)
      → (wanted : Asked) (has : HasElsewhere choice last i wanted) → (es : List ℕ) × IsPlaced e i u wanted has es
  placed valid each e own i u within from agree wanted has =
      let (es, long, passes) = choose width (λ k x. IsTrue (From k x)) each in
      let low = last-there m.space cube valid there in
      let first_passes = put-passes es long passes last e low own in
      let first_long : length (set es last e) ≡ width = length-set es last e ∙ long in
      let put : IsPut e i u (set (set es last e) i u) = record {
        long = length-set (set es last e) i u ∙ first_long;
        passes = put-passes (set es last e) first_long first_passes i u within from;
        at_last = at_last es long low (i == last) refl;
        at_i = get_or-set_same (set es last e) i u 0 (omega (arith, first_long, within));
      } in
      let (more, (is, owns, kept)) = put-more e i u wanted.own has.d has.element (λ h. (has.own h).0) (set (set es last e) i u) put in
      let (found, (is_too, names, kept_too)) = put-more e i u wanted.its has.e has.other (λ h. (has.its h).0) more is in
      (found, record { put = is_too; has_own = λ h. kept_too has.d has.element (owns h) (λ same. sym (has.same same)); has_its = names })
    where
      at_last : (es : List ℕ) → length es ≡ width → last < width → (t : Bool) → (i == last) ≡ t → get_or (set (set es last e) i u) last 0 ≡ e
      at_last es long low true is =
          let same : i ≡ last = (Decides-eqb i last).0 is in
          ap (λ n. get_or (set (set es last e) n u) last 0) same
          ∙ get_or-set_same (set es last e) last u 0 (omega (arith, length-set es last e, long, low)) ∙ agree same
      at_last es long low false is =
          get_or-set_other (set es last e) i last u 0 (λ same. (let clash = (Decides-eqb i last).1 (sym same) in absurd (cc)))
          ∙ get_or-set_same es last e 0 (omega (arith, long, low))

  -- what is asked is with the two elements or elsewhere
  found-in : (test : ℕ → ℕ → Bool) (e i u : ℕ) (es : List ℕ) → last < width → i < width → IsPut e i u es → (d v : ℕ) (a b : Bool) → test last e ≡ a → test i u ≡ b
      → (not (a || b) ≡ true → IsElsewhere choice last i d v × IsTrue (test d v)) → (not (a || b) ≡ true → get_or es d 0 ≡ v) → Has width test es
  found-in test e i u es low within put d v true b at_last at_i there is = (last, low, ap (test last) put.at_last ∙ at_last)
  found-in test e i u es low within put d v false true at_last at_i there is = (i, within, ap (test i) put.at_i ∙ at_i)
  found-in test e i u es low within put d v false false at_last at_i there is = (d, (there refl).0.within, ap (test d) (is refl) ∙ (there refl).1)

  -- a cell with these elements in the last dimension and in this one
  pub record IsMade (e i u : ℕ) (es : List ℕ) : Type 0 where
    pub put : IsPut e i u es
    pub of : Of es
    pub names : asked.its ≡ true → Has width (names_total m.space cube p) es

  pub made : (valid : IsSpace m.space) → HasEach From width → (e : ℕ) → IsTrue (From last e) → (i u : ℕ) → i < width → IsTrue (From i u) → (i ≡ last → u ≡ e) → Suits choice asked last e i u
      → (es : List ℕ) × IsMade e i u es
  made valid each e own i u within from agree suits =
      let (es, is) = placed valid each e own i u within from agree
      (left asked (is_total (axes m.space cube) last e || is_total (axes m.space cube) i u) (names_total m.space cube p last e || names_total m.space cube p i u)) suits in
      let low = last-there m.space cube valid there in
      let owns : asked.own ≡ true → Has width (is_total (axes m.space cube)) es = λ h. found-in (is_total (axes m.space cube)) e i u es low within is.put suits.d suits.element (is_total (axes m.space cube) last e) (is_total (axes m.space cube) i u) refl refl
      (λ none. suits.own (and_from _ _ h none)) (λ none. is.has_own (and_from _ _ h none)) in
      let names : asked.its ≡ true → Has width (names_total m.space cube p) es = λ h. found-in (names_total m.space cube p) e i u es low within is.put suits.e suits.other (names_total m.space cube p last e) (names_total m.space cube p i u) refl refl
      (λ none. suits.its (and_from _ _ h none)) (λ none. is.has_its (and_from _ _ h none)) in
      (es, record { put = is.put; of = passes-of es is.put.long is.put.passes owns; names = names })
