-- The sources that are looked at, one more filed at a time.
use Rattle.std.proofs.Common.{◌≡◌, refl, sym, ap, ◌∙◌, subst, arith, ℕ, zero, suc, ◌+◌, ◌<◌, ◌≤◌, ◌⊎◌, inl, inr, Bool, true, false, Option, Some, None, List, [], length, replicate, Contains, All, get_or, not, ◌||◌, ◌==◌}
use Rattle.std.specs.Prelude.{slice_get, slice_index_or}
use Rattle.std.specs.List.{list_any}
use Rattle.std.specs.List.Sorted.{IsStrictlyIncreasing}
use Rattle.std.proofs.lemmas.Bool.{eqb-true, eq-eqb, cases_lt}
use Rattle.std.proofs.lemmas.List.{length-replicate, get_or_default}
use Rattle.std.proofs.lemmas.List.Elements.{Contains-append_left}
use Rattle.std.proofs.lemmas.List.Folds.{Any-from_list_any, list_any_at}
use Rattle.std.proofs.lemmas.Option.{slice_get-get_or, slice_get_within}
use Rattle.lists.proofs.Found.{some_same}
use Rattle.cube_space.specs.Layout.{sizes}
use Rattle.rule_model.specs.Areas.{in_set}
use Rattle.rule_model.specs.BoundModel.{BoundModel}
use Rattle.rule_model.specs.Conditions.{IsSet}
use Rattle.order_laws.proofs.SetFacts.{set-at}
use Rattle.arrow_laws.specs.Nodes.{last_of, has_nodes, has_kinds, node_kind}
use Rattle.order_find.specs.declared.numbering.Place.{Place}
use Rattle.order_find.specs.declared.numbering.Numbering.{Numbering}
use Rattle.read_sources.specs.declared.source.Source.{Source}
use Rattle.order_find.specs.Numbers.{IsNumbering, IsPlace, count_of, firsts_of, number_of, place_at, width}
use Rattle.read_sources.specs.Ways.{IsSource}
use Rattle.order_find.specs.Slots.{IsSourceOf}
use Rattle.order_find.specs.Filing.{Looked, Adds, AreFiled}
use Rattle.order_find.proofs.Filed.{one, added-has, has-added, added-long}

-- nothing is filed yet
same-row : {X : Type 0} (x : X) (n i : ℕ) → get_or (replicate n x) i x ≡ x
same-row x zero i = refl
same-row x (suc n) zero = refl
same-row x (suc n) (suc i) = same-row x n i

has-none : (rows : List (List ℕ)) (n i k : ℕ) → rows ≡ replicate n [] → Contains (slice_index_or rows i []) k → ⊥
has-none rows n i k is has =
    let row : slice_index_or rows i [] ≡ [] = ap (λ r. slice_index_or r i []) is ∙ same-row [] n i in
    let (j, low, e) = subst (λ r. Contains r k) row has in
    omega (arith, low)

none-long : (rows : List (List ℕ)) (n i : ℕ) → rows ≡ replicate n [] → length (slice_index_or rows i []) ≤ 0
none-long rows n i is =
    let row : slice_index_or rows i [] ≡ [] = ap (λ r. slice_index_or r i []) is ∙ same-row [] n i in
    omega (arith, ap length row)

pub none-filed : (p : Looked) → p.of_cubes ≡ replicate (length p.model.space.cubes) [] → p.of_nodes ≡ replicate (count_of p.numbering) [] → AreFiled p 0
none-filed p cubes nodes = record {
  cubes = ap length cubes ∙ length-replicate (length p.model.space.cubes) [];
  nodes = ap length nodes ∙ length-replicate (count_of p.numbering) [];
  of_cubes = λ cube k has. absurd (has-none p.of_cubes (length p.model.space.cubes) cube k cubes has);
  of_nodes = λ n k place at has. absurd (has-none p.of_nodes (count_of p.numbering) n k nodes has);
  few_of_cubes = λ cube. none-long p.of_cubes (length p.model.space.cubes) cube cubes;
  few_of_nodes = λ n. none-long p.of_nodes (count_of p.numbering) n nodes;
  looked_at = λ k s place low. absurd (omega (arith, low));
}

-- what an area lists in the last dimension
pub record IsListOf (m : BoundModel) (s : Source) (listed : List ℕ) : Type 0 where
  pub set : slice_index_or s.area.now.sets (last_of m.space s.cube) None ≡ Some listed
  pub rising : IsStrictlyIncreasing listed
  pub within : All (λ e. e < width m.space s.cube) listed

pub list-of : (m : BoundModel) (s : Source) (last : ℕ) (set : Option (List ℕ)) (listed : List ℕ) → IsSource m s → last ≡ last_of m.space s.cube
    → set ≡ slice_index_or s.area.now.sets last None → set ≡ Some listed → IsListOf m s listed
list-of m s last set listed source is here found =
    let same : slice_index_or s.area.now.sets (last_of m.space s.cube) None ≡ Some listed = ap (λ i. slice_index_or s.area.now.sets i None) (sym is) ∙ sym here ∙ found in
    let (rising, within) = subst (IsSet (width m.space s.cube)) same (set-at (sizes m.space s.cube) s.area.now.sets (last_of m.space s.cube) source.area) in
    record { set = same; rising = rising; within = within }

pub first-of : (firsts : List ℕ) (cube first count : ℕ) → length firsts ≡ count → cube < count → first ≡ slice_index_or firsts cube first → first ≡ slice_index_or firsts cube 0
first-of firsts cube first count long there is = is ∙ get_or_default firsts cube first 0 (omega (arith, long, there))

either : (t : Bool) → (not t || t) ≡ true
either true = refl
either false = refl

-- the cells of a cube have a node of their own kind
pub own-nodes : (m : BoundModel) (cube : ℕ) (leaf : Bool) → has_nodes m cube (node_kind m cube leaf) ≡ true
own-nodes m cube true = refl
own-nodes m cube false = either (has_kinds m cube)

abbrev pub own-place : BoundModel → Source → ℕ → Place
own-place m s element = place_at s.cube (node_kind m s.cube s.kind) element

pub own-there : (m : BoundModel) (s : Source) (element : ℕ) → s.cube < length m.space.cubes → element < width m.space s.cube → IsPlace m (own-place m s element)
own-there m s element cube low = record { cube = cube; element = low; kind = own-nodes m s.cube s.kind }

abbrev pub first-at : BoundModel → Numbering → Source → ℕ
first-at m numbering s = slice_index_or (firsts_of numbering (node_kind m s.cube s.kind)) s.cube 0

pub rows-there : (m : BoundModel) (numbering : Numbering) (s : Source) (first : ℕ) (listed : List ℕ) → IsNumbering m numbering → s.cube < length m.space.cubes
    → first ≡ first-at m numbering s → All (λ e. e < width m.space s.cube) listed → All (λ e. first + e < count_of numbering) listed
rows-there m numbering s first listed numbers cube begins within = λ k d low.
    let own : Place = own-place m s (get_or listed k d) in
    let found : slice_get numbering.places.items (number_of numbering own) ≡ Some own = numbers.there own (own-there m s (get_or listed k d) cube (within k d low)) in
    omega (arith, slice_get_within numbering.places.items (number_of numbering own) own found, begins)

pub source-at : (m : BoundModel) (sources : List Source) (k : ℕ) (s : Source) → All (IsSource m) sources → k < length sources → s ≡ get_or sources k s → IsSource m s × (slice_get sources k ≡ Some s)
source-at m sources k s all low is = (subst (IsSource m) (sym is) (all k s low), slice_get-get_or sources k s low ∙ ap Some (sym is))

-- what is looked at by these rows
abbrev pub plan : BoundModel → Numbering → List Source → List (List ℕ) → List (List ℕ) → Looked
plan m numbering sources of_cubes of_nodes =
    record { model = m; numbering = numbering; sources = sources; of_cubes = of_cubes; of_nodes = of_nodes }

module _ (m : BoundModel) (numbering : Numbering) (sources : List Source) (of_cubes of_nodes : List (List ℕ)) (k : ℕ) (s : Source)
    (at : slice_get sources k ≡ Some s) (filed : AreFiled (plan m numbering sources of_cubes of_nodes) k) where
  abbrev row : List (List ℕ) → ℕ → List ℕ
  row rows n = slice_index_or rows n []

  source-here : (cube j : ℕ) → s.cube ≡ cube → k ≡ j → IsSourceOf sources cube j
  source-here cube j own same = (s, subst (λ i. slice_get sources i ≡ Some s) same at, own)

  abbrev IsLooked : List (List ℕ) → List (List ℕ) → Place → ℕ → Type 0
  IsLooked cubes nodes place j = Contains (row cubes place.cube) j ⊎ Contains (row nodes (number_of numbering place)) j

  abbrev IsListed : Source → Place → Type 0
  IsListed source place = (place.kind ≡ node_kind m source.cube source.kind) × (in_set (slice_index_or source.area.now.sets (last_of m.space source.cube) None) place.element ≡ true)

  -- what was looked at before still is
  looked-on : (cubes nodes : List (List ℕ)) → ((n j : ℕ) → Contains (row of_cubes n) j → Contains (row cubes n) j) → ((n j : ℕ) → Contains (row of_nodes n) j → Contains (row nodes n) j)
      → ((place : Place) → IsPlace m place → place.cube ≡ s.cube → IsListed s place → IsLooked cubes nodes place k)
      → (j : ℕ) (source : Source) (place : Place) → j < suc k → slice_get sources j ≡ Some source → IsPlace m place → place.cube ≡ source.cube → IsListed source place
      → IsLooked cubes nodes place j
  looked-on cubes nodes on-cubes on-nodes new j source place low there within own listed = by (cases_lt j k)
    where
      before : Contains (row of_cubes place.cube) j ⊎ Contains (row of_nodes (number_of numbering place)) j → IsLooked cubes nodes place j
      before (inl has) = inl (on-cubes place.cube j has)
      before (inr has) = inr (on-nodes (number_of numbering place) j has)

      by : (j < k) ⊎ (k ≤ j) → IsLooked cubes nodes place j
      by (inl less) = before (filed.looked_at j source place less there within own listed.0 listed.1)
      by (inr past) =
          let same : k ≡ j = omega (arith, low, past) in
          let is : source ≡ s = some_same (sym there ∙ ap (slice_get sources) (sym same) ∙ at) in
          subst (IsLooked cubes nodes place) same
          (new place within (own ∙ ap (λ (o : Source). o.cube) is) (subst (λ o. IsListed o place) is listed))

  keeps : (holds : ℕ → Bool) (old_rows rows : List (List ℕ)) → Adds holds k old_rows rows → (n j : ℕ) → Contains (row old_rows n) j → Contains (row rows n) j
  keeps holds old_rows rows a n j has = subst (λ r. Contains r j) (sym (a.each n)) (Contains-append_left (row old_rows n) (one (holds n) k) j has)

  -- the row of the source's cube has one more
  pub filed-whole : (rows : List (List ℕ)) → Adds (λ n. s.cube == n) k of_cubes rows → AreFiled (plan m numbering sources rows of_nodes) (suc k)
  filed-whole rows a = record {
    cubes = a.rows ∙ filed.cubes;
    nodes = filed.nodes;
    of_cubes = λ cube j has. of cube j (added-has (s.cube == cube) (row of_cubes cube) k j (subst (λ r. Contains r j) (a.each cube) has));
    of_nodes = filed.of_nodes;
    few_of_cubes = λ cube. omega (arith, ap length (a.each cube), added-long (s.cube == cube) (row of_cubes cube) k, filed.few_of_cubes cube);
    few_of_nodes = λ n. omega (arith, filed.few_of_nodes n);
    looked_at = λ j source place low there within own kind set. looked-on rows of_nodes (keeps (λ n. s.cube == n) of_cubes rows a) (λ n j has. has) new j source place low there within own (kind, set);
  }
    where
      of : (cube j : ℕ) → Contains (row of_cubes cube) j ⊎ (((s.cube == cube) ≡ true) × (k ≡ j)) → IsSourceOf sources cube j
      of cube j (inl has) = filed.of_cubes cube j has
      of cube j (inr (own, same)) = source-here cube j (eqb-true s.cube cube own) same

      new : (place : Place) → IsPlace m place → place.cube ≡ s.cube → IsListed s place → IsLooked rows of_nodes place k
      new place within own listed =
          inl (subst (λ r. Contains r k) (sym (a.each place.cube)) (has-added (s.cube == place.cube) (row of_cubes place.cube) k (eq-eqb s.cube place.cube (sym own))))

  -- the rows of the elements that its area lists have one more
  pub filed-listed : (first : ℕ) (listed : List ℕ) (rows : List (List ℕ)) → IsNumbering m numbering → s.cube < length m.space.cubes → first ≡ first-at m numbering s
      → slice_index_or s.area.now.sets (last_of m.space s.cube) None ≡ Some listed → All (λ e. e < width m.space s.cube) listed
      → Adds (λ n. list_any (λ e. first + e == n) listed) k of_nodes rows → AreFiled (plan m numbering sources of_cubes rows) (suc k)
  filed-listed first listed rows numbers cube begins set within a = record {
    cubes = filed.cubes;
    nodes = a.rows ∙ filed.nodes;
    of_cubes = filed.of_cubes;
    of_nodes = λ n j place there has. of n j place there (added-has (hit n) (row of_nodes n) k j (subst (λ r. Contains r j) (a.each n) has));
    few_of_cubes = λ cube'. omega (arith, filed.few_of_cubes cube');
    few_of_nodes = λ n. omega (arith, ap length (a.each n), added-long (hit n) (row of_nodes n) k, filed.few_of_nodes n);
    looked_at = λ j source place low there inside own kind set. looked-on of_cubes rows (λ n j has. has) (keeps hit of_nodes rows a) new j source place low there inside own (kind, set);
  }
    where
      hit : ℕ → Bool
      hit n = list_any (λ e. first + e == n) listed

      cube-of : (n : ℕ) (place : Place) → slice_get numbering.places.items n ≡ Some place → hit n ≡ true → s.cube ≡ place.cube
      cube-of n place there is =
          let (i, e, low, here, same) = Any-from_list_any (λ e. first + e == n) listed is in
          let less : e < width m.space s.cube = subst (λ x. x < width m.space s.cube) here (within i e low) in
          let own : Place = own-place m s e in
          let number : number_of numbering own ≡ n = omega (arith, begins, eqb-true (first + e) n same) in
          let found : slice_get numbering.places.items n ≡ Some own = ap (slice_get numbering.places.items) (sym number) ∙ numbers.there own (own-there m s e cube less) in
          ap (λ (p : Place). p.cube) (some_same (sym found ∙ there))

      of : (n j : ℕ) (place : Place) → slice_get numbering.places.items n ≡ Some place → Contains (row of_nodes n) j ⊎ ((hit n ≡ true) × (k ≡ j)) → IsSourceOf sources place.cube j
      of n j place there (inl has) = filed.of_nodes n j place there has
      of n j place there (inr (is, same)) = source-here place.cube j (cube-of n place there is) same

      hits : (place : Place) → place.cube ≡ s.cube → IsListed s place → hit (number_of numbering place) ≡ true
      hits place own is =
          let among : list_any (λ e. e == place.element) listed ≡ true = ap (λ o. in_set o place.element) (sym set) ∙ is.1 in
          let (i, e, low, here, same) = Any-from_list_any (λ e. e == place.element) listed among in
          let start : first ≡ slice_index_or (firsts_of numbering place.kind) place.cube 0 = begins ∙ ap (λ kind. slice_index_or (firsts_of numbering kind) s.cube 0) (sym is.0) ∙ ap (λ c. slice_index_or (firsts_of numbering place.kind) c 0) (sym own) in
          let alike : first + get_or listed i e ≡ number_of numbering place = omega (arith, here, eqb-true e place.element same, start) in
          list_any_at (λ e. first + e == number_of numbering place) listed i e low (eq-eqb (first + get_or listed i e) (number_of numbering place) alike)

      new : (place : Place) → IsPlace m place → place.cube ≡ s.cube → IsListed s place → IsLooked of_cubes rows place k
      new place inside own is =
          let n = number_of numbering place in
          inr (subst (λ r. Contains r k) (sym (a.each n)) (has-added (hit n) (row of_nodes n) k (hits place own is)))
