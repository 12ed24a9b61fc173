-- What is bound is a view.
use Rattle.std.proofs.Common.{◌≡◌, ◌<◌, ◌≤◌, ◌+◌, ◌==◌, ℕ, zero, suc, Bool, true, false, nat_lt, if◌then◌else◌, List, [], ◌∷◌, map, length, min, Option, Some, None, Result, Ok, Err, refl, sym, ap, ◌∙◌, subst, arith, All, IfOk, slice_get}
use Rattle.std.specs.List.{AllByRecursion, list_all, range_with_len}
use Rattle.std.proofs.lemmas.Bool.{and_parts, eqb-true, ltb-false}
use Rattle.std.proofs.lemmas.List.{length-map}
use Rattle.std.proofs.lemmas.List.Quantifiers.{position-Some}
use Rattle.dim_name.specs.Name.{place_of, is_same_name}
use Rattle.dim_core.specs.Outline.{Outline, index_of}
use Rattle.dim_core.proofs.Naming.{called_within}
use Rattle.cube_space.specs.Layout.{Layout, axes, cube_names}
use Rattle.user_text.specs.declared.command.SetText.{SetText}
use Rattle.user_text.specs.declared.command.ViewText.{ViewText}
use Rattle.view_query.specs.declared.fault.ViewFault.{ViewFault}
use Rattle.view_query.specs.declared.fault.ViewFault.TheVariants.{ViewLimit}
use Rattle.view_query.specs.declared.shape.Axis.{Axis}
use Rattle.view_query.specs.declared.shape.View.{View}
use Rattle.view_query.specs.Meaning.{Meaning, done, ◌>>=◌, known, each, Answers}
use Rattle.view_query.specs.Views.{IsView, IsAxis, IsPoint, times_at, cell_count, most_view_cells}
use Rattle.view_query.specs.Binding.{place_named, is_each_once, elements_of_set, bound_set, bound_point, within_limit, with_elements, is_counted, if_counted, bound_in, bound}
use Rattle.view_query.proofs.LineFacts.{from_each}
use Rattle.view_query.proofs.Meanings.{goes_on, stops}
use Rattle.dim_weights.proofs.ByLevel.{range-within as range_low}

-- what two lines mean together, each of them means
record Both {A B : Type 0} (meant : Meaning A) (next : A → Meaning B) (b : B) : Type 0 where
  first : A
  is : meant ≡ Ok first
  then_is : next first ≡ Ok b

both : {A B : Type 0} (meant : Meaning A) (next : A → Meaning B) (b : B) → (meant >>= next) ≡ Ok b → Both meant next b
both (Ok a) next b e = record { first = a; is = refl; then_is = e }
both (Err cause) next b e = absurd (cc e)

known_is : {A : Type 0} (o : Option A) (a : A) → known o ≡ Ok a → o ≡ Some a
known_is None a e = absurd (cc e)
known_is (Some b) a e = let same : b ≡ a = cc in ap Some same

ok_same : {A : Type 0} (a b : A) → done {E = ViewFault} a ≡ Ok b → a ≡ b
ok_same a b e = cc

-- what holds of whatever an item means holds of all that a list means
each_holds : {A B : Type 0} (meaning : A → Meaning B) (P : B → Type 0) → ((x : A) (y : B) → meaning x ≡ Ok y → P y) → (xs : List A) (ys : List B) → each meaning xs ≡ Ok ys → AllByRecursion P ys
each_holds meaning P holds [] ys e = subst (AllByRecursion P) (ok_same [] ys e) tt
each_holds meaning P holds (x ∷ xs) ys e =
    let one = both (meaning x) (λ first. each meaning xs >>= (λ further. done (first ∷ further))) ys e in
    let more = both (each meaning xs) (λ further. done (one.first ∷ further)) ys one.then_is in
    subst (AllByRecursion P) (ok_same (one.first ∷ more.first) ys more.then_is) (holds x one.first one.is, each_holds meaning P holds xs more.first more.is)

-- two meanings of the same items, one after the other
each_maps : {A B C : Type 0} (f : A → Meaning B) (g : A → Meaning C) (h : B → C) → ((x : A) (y : B) (z : C) → f x ≡ Ok y → g x ≡ Ok z → h y ≡ z)
    → (xs : List A) (ys : List B) (zs : List C) → each f xs ≡ Ok ys → each g xs ≡ Ok zs → map h ys ≡ zs
each_maps f g h same [] ys zs e w = ap (map h) (sym (ok_same [] ys e)) ∙ ok_same [] zs w
each_maps f g h same (x ∷ xs) ys zs e w =
    let one = both (f x) (λ first. each f xs >>= (λ further. done (first ∷ further))) ys e in
    let more = both (each f xs) (λ further. done (one.first ∷ further)) ys one.then_is in
    let two = both (g x) (λ first. each g xs >>= (λ further. done (first ∷ further))) zs w in
    let rest = both (each g xs) (λ further. done (two.first ∷ further)) zs two.then_is in
    ap (map h) (sym (ok_same (one.first ∷ more.first) ys more.then_is))
    ∙ ap (λ c. c ∷ map h more.first) (same x one.first two.first one.is two.is)
    ∙ ap (λ l. two.first ∷ l) (each_maps f g h same xs more.first rest.first more.is rest.is)
    ∙ ok_same (two.first ∷ rest.first) zs rest.then_is

set_low : (d : Outline) (listed : Option (List (List ℕ))) (elements : List ℕ) → elements_of_set d listed ≡ Ok elements → All (λ e. e < length d.elements) elements
set_low d None elements is = subst (All (λ e. e < length d.elements)) (ok_same (range_with_len 0 (length d.elements)) elements is) (range_low (length d.elements))
set_low d (Some names) elements is =
    from_each (λ e. e < length d.elements) elements (each_holds (λ name. known (index_of d name)) (λ e. e < length d.elements) (λ name e found. called_within d name e (known_is (index_of d name) e found)) names elements is)

-- a bound set: its place, its dimension and its elements
record Parts (dimensions : List Outline) (set : SetText) (axis : Axis) : Type 0 where
  place : place_named dimensions set.dim ≡ Ok axis.place
  own : IsAxis dimensions axis

parts_of : (dimensions : List Outline) (set : SetText) (axis : Axis) → bound_set dimensions set ≡ Ok axis → Parts dimensions set axis
parts_of dimensions set axis e =
    let one = both (place_named dimensions set.dim) (λ place. known (slice_get dimensions place) >>= (λ d. elements_of_set d set.elements >>= (λ elements. done (record { place = place; elements = elements })))) axis e in
    let two = both (known (slice_get dimensions one.first)) (λ d. elements_of_set d set.elements >>= (λ elements. done (record { place = one.first; elements = elements }))) axis one.then_is in
    let three = both (elements_of_set two.first set.elements) (λ elements. done (record { place = one.first; elements = elements })) axis two.then_is in
    let made : Axis = record { place = one.first; elements = three.first } in
    subst (Parts dimensions set) (ok_same made axis three.then_is)
    (record { place = one.is; own = (two.first, known_is (slice_get dimensions one.first) two.first two.is, set_low two.first set.elements three.first three.is) })

record PointParts (dimensions : List Outline) (point : List ℕ × List ℕ) (at : ℕ × ℕ) : Type 0 where
  place : place_named dimensions point.0 ≡ Ok at.0
  own : IsPoint dimensions at

point_parts : (dimensions : List Outline) (point : List ℕ × List ℕ) (at : ℕ × ℕ) → bound_point dimensions point ≡ Ok at → PointParts dimensions point at
point_parts dimensions point at e =
    let one = both (place_named dimensions point.0) (λ place. known (slice_get dimensions place) >>= (λ d. known (index_of d point.1) >>= (λ element. done (place, element)))) at e in
    let two = both (known (slice_get dimensions one.first)) (λ d. known (index_of d point.1) >>= (λ element. done (one.first, element))) at one.then_is in
    let three = both (known (index_of two.first point.1)) (λ element. done (one.first, element)) at two.then_is in
    let made : ℕ × ℕ = (one.first, three.first) in
    subst (PointParts dimensions point) (ok_same made at three.then_is)
    (record { place = one.is; own = (two.first, known_is (slice_get dimensions one.first) two.first two.is, called_within two.first point.1 three.first (known_is (index_of two.first point.1) three.first three.is)) })

one_place : (m : Meaning ℕ) (a b : ℕ) → m ≡ Ok a → m ≡ Ok b → a ≡ b
one_place m a b e w = ok_same a b (sym e ∙ w)

all_counted : (test : ℕ → Bool) (from n : ℕ) → list_all test (range_with_len from n) ≡ true → (k : ℕ) → k < n → test (from + k) ≡ true
all_counted test from zero all k low = absurd (omega arith)
all_counted test from (suc n) all zero low =
    let parts = and_parts (test from) (list_all test (range_with_len (from + 1) n)) all in
    let same : from ≡ from + 0 = omega arith in
    subst (λ i. test i ≡ true) same parts.0
all_counted test from (suc n) all (suc k) low =
    let parts = and_parts (test from) (list_all test (range_with_len (from + 1) n)) all in
    let same : from + 1 + k ≡ from + suc k = omega arith in
    subst (λ i. test i ≡ true) same (all_counted test (from + 1) n parts.1 k (omega arith))

record Limited (view result : View) : Type 0 where
  same : view ≡ result
  few : cell_count view.rows view.columns ≤ most_view_cells

limited : (view result : View) → within_limit view ≡ Ok result → Limited view result
limited view result e = by (nat_lt most_view_cells (cell_count view.rows view.columns)) refl e
  where
    by : (b : Bool) → nat_lt most_view_cells (cell_count view.rows view.columns) ≡ b
        → (if b then Err (ViewLimit (min (cell_count view.rows view.columns) 18446744073709551615)) else Ok view) ≡ Ok result → Limited view result
    by true is e = absurd (cc e)
    by false is e = record { same = ok_same view result e; few = ltb-false _ _ is }

module _ (space : Layout) (cube : ℕ) (text : ViewText) (view : View) (there : cube < length space.cubes) where
  made_is : (rows columns points : List ℕ) → each (λ set. place_named (axes space cube) set.dim) text.rows ≡ Ok rows → each (λ set. place_named (axes space cube) set.dim) text.columns ≡ Ok columns
      → each (λ point. place_named (axes space cube) point.0) text.points ≡ Ok points → is_each_once (length (axes space cube)) rows columns points ≡ true
      → with_elements (axes space cube) cube text ≡ Ok view → IsView space view
  made_is rows columns points row_places column_places point_places once e =
      let D : List Outline = axes space cube in
      let R = both (each (bound_set D) text.rows) (λ r. each (bound_set D) text.columns >>= (λ c. each (bound_point D) text.points >>= (λ p.
      within_limit (record { cube = cube; rows = r; columns = c; points = p; nozeros = text.nozeros })))) view e in
      let C = both (each (bound_set D) text.columns) (λ c. each (bound_point D) text.points >>= (λ p.
      within_limit (record { cube = cube; rows = R.first; columns = c; points = p; nozeros = text.nozeros }))) view R.then_is in
      let P = both (each (bound_point D) text.points) (λ p.
      within_limit (record { cube = cube; rows = R.first; columns = C.first; points = p; nozeros = text.nozeros })) view C.then_is in
      let made : View = record { cube = cube; rows = R.first; columns = C.first; points = P.first; nozeros = text.nozeros } in
      let limit = limited made view P.then_is in
      let same_places = λ (x : SetText) (y : Axis) (z : ℕ) (own : bound_set D x ≡ Ok y) (place : place_named D x.dim ≡ Ok z). one_place (place_named D x.dim) y.place z (parts_of D x y own).place place in
      let rows_are : map (λ axis. axis.place) R.first ≡ rows = each_maps (bound_set D) (λ set. place_named D set.dim) (λ axis. axis.place) same_places text.rows R.first rows R.is row_places in
      let columns_are : map (λ axis. axis.place) C.first ≡ columns = each_maps (bound_set D) (λ set. place_named D set.dim) (λ axis. axis.place) same_places text.columns C.first columns C.is column_places in
      let points_are : map (λ point. point.0) P.first ≡ points = each_maps (bound_point D) (λ point. place_named D point.0) (λ point. point.0)
      (λ x y z own place. one_place (place_named D x.0) y.0 z (point_parts D x y own).place place) text.points P.first points P.is point_places in
      subst (IsView space) limit.same (record {
        cube = there;
        rows = from_each (IsAxis D) R.first (each_holds (bound_set D) (IsAxis D) (λ x y own. (parts_of D x y own).own) text.rows R.first R.is);
        columns = from_each (IsAxis D) C.first (each_holds (bound_set D) (IsAxis D) (λ x y own. (parts_of D x y own).own) text.columns C.first C.is);
        points = from_each (IsPoint D) P.first (each_holds (bound_point D) (IsPoint D) (λ x y own. (point_parts D x y own).own) text.points P.first P.is);
        once = λ place low.
            let counted_once : times_at rows columns points (0 + place) ≡ 1 = eqb-true _ _ (all_counted (λ k. times_at rows columns points k == 1) 0 (length D) once place low) in
            let same : 0 + place ≡ place = omega arith in
            ap (λ l. times_at l (map (λ axis. axis.place) C.first) (map (λ point. point.0) P.first) place) rows_are
            ∙ ap (λ l. times_at rows l (map (λ point. point.0) P.first) place) columns_are
            ∙ ap (λ l. times_at rows columns l place) points_are
            ∙ ap (times_at rows columns points) (sym same) ∙ counted_once;
        few = limit.few;
      })

  by_count : (b : Bool) (rows columns points : List ℕ) → each (λ set. place_named (axes space cube) set.dim) text.rows ≡ Ok rows → each (λ set. place_named (axes space cube) set.dim) text.columns ≡ Ok columns
      → each (λ point. place_named (axes space cube) point.0) text.points ≡ Ok points → is_each_once (length (axes space cube)) rows columns points ≡ b
      → if_counted (axes space cube) cube text b ≡ Ok view → IsView space view
  by_count true rows columns points r c p once e = made_is rows columns points r c p once e
  by_count false rows columns points r c p once e = absurd (cc e)

  in_cube : bound_in (axes space cube) cube text ≡ Ok view → IsView space view
  in_cube e =
      let D : List Outline = axes space cube in
      let K = both (is_counted D text) (if_counted D cube text) view e in
      let R = both (each (λ set. place_named D set.dim) text.rows) (λ r. each (λ set. place_named D set.dim) text.columns >>= (λ c. each (λ point. place_named D point.0) text.points >>= (λ p.
      done (is_each_once (length D) r c p)))) K.first K.is in
      let C = both (each (λ set. place_named D set.dim) text.columns) (λ c. each (λ point. place_named D point.0) text.points >>= (λ p.
      done (is_each_once (length D) R.first c p))) K.first R.then_is in
      let P = both (each (λ point. place_named D point.0) text.points) (λ p. done (is_each_once (length D) R.first C.first p)) K.first C.then_is in
      by_count K.first R.first C.first P.first R.is C.is P.is (ok_same (is_each_once (length D) R.first C.first P.first) K.first P.then_is) K.then_is

bound_is : (space : Layout) (text : ViewText) (view : View) → bound space text ≡ Ok view → IsView space view
unfolding bound
bound_is space text view e =
    let cube = both (known (place_of (cube_names space) text.cube)) (λ c. bound_in (axes space c) c text) view e in
    let low = (position-Some (is_same_name text.cube) (cube_names space) cube.first [] (known_is (place_of (cube_names space) text.cube) cube.first cube.is)).0 in
    in_cube space cube.first text view (omega (arith, low, length-map space.cubes (λ shape. shape.name))) cube.then_is

-- an answer that is what is bound
pub answers_view : (space : Layout) (text : ViewText) (result : Result View ViewFault) → Answers (bound space text) result → IfOk result (IsView space)
answers_view space text (Ok view) is = bound_is space text view is
answers_view space text (Err fault) is = tt

-- ---- places of rows, columns and points, found one after the other

module _ (D : List Outline) (text : ViewText) (rs cs : List SetText) (ps : List (List ℕ × List ℕ)) (rows columns : List ℕ)
    (r : rs ≡ text.rows) (c : cs ≡ text.columns) (p : ps ≡ text.points)
    (row_places : each (λ set. place_named D set.dim) rs ≡ Ok rows) (column_places : each (λ set. place_named D set.dim) cs ≡ Ok columns) where
  pub points_refused : (result : Result Bool ViewFault) (fault : ViewFault) → result ≡ Err fault → Answers (each (λ point. place_named D point.0) ps) (Err fault) → Answers (is_counted D text) result
  points_refused result fault is refused =
      subst (Answers (is_counted D text)) (sym is)
      (goes_on (each (λ set. place_named D set.dim) text.rows) rows (λ rows. each (λ set. place_named D set.dim) text.columns >>= (λ columns. each (λ point. place_named D point.0) text.points >>= (λ points.
      done (is_each_once (length D) rows columns points)))) (Err fault) (ap (each (λ set. place_named D set.dim)) (sym r) ∙ row_places)
      (goes_on (each (λ set. place_named D set.dim) text.columns) columns (λ columns. each (λ point. place_named D point.0) text.points >>= (λ points.
      done (is_each_once (length D) rows columns points))) (Err fault) (ap (each (λ set. place_named D set.dim)) (sym c) ∙ column_places)
      (stops (each (λ point. place_named D point.0) text.points) (λ points. done (is_each_once (length D) rows columns points)) fault
      (subst (λ l. Answers (each (λ point. place_named D point.0) l) (Err fault)) p refused))))

  pub points_counted : (points : List ℕ) (n : ℕ) (b : Bool) → each (λ point. place_named D point.0) ps ≡ Ok points → n ≡ length D → b ≡ is_each_once n rows columns points → is_counted D text ≡ Ok b
  points_counted points n b point_places long is =
      ap (λ m. m >>= (λ rows. each (λ set. place_named D set.dim) text.columns >>= (λ columns. each (λ point. place_named D point.0) text.points >>= (λ points.
      done (is_each_once (length D) rows columns points))))) (ap (each (λ set. place_named D set.dim)) (sym r) ∙ row_places)
      ∙ ap (λ m. m >>= (λ columns. each (λ point. place_named D point.0) text.points >>= (λ points.
      done (is_each_once (length D) rows columns points)))) (ap (each (λ set. place_named D set.dim)) (sym c) ∙ column_places)
      ∙ ap (λ m. m >>= (λ points. done (is_each_once (length D) rows columns points))) (ap (each (λ point. place_named D point.0)) (sym p) ∙ point_places)
      ∙ ap Ok (ap (λ k. is_each_once k rows columns points) (sym long) ∙ sym is)
