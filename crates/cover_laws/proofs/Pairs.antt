-- A cell of an area and a cell at or below what arguments name from it: what is known of one element of each is just that
-- the one is narrow, and that the other is reached with it.
use Rattle.std.proofs.Common.{◌≡◌, refl, sym, ap, ◌∙◌, arith, subst, ℕ, zero, suc, ◌+◌, ◌<◌, Bool, true, false, not, Option, Some, List, [], ◌∷◌, length, get_or, ◌==◌}
use Rattle.std.specs.Prelude.{slice_get}
use Rattle.std.proofs.lemmas.Bool.{and_parts, and_from, not-true as not-false}
use Rattle.std.proofs.lemmas.Bool.Decides.{Decides-eqb}
use Rattle.cube_space.specs.Layout.{axes, sizes}
use Rattle.cube_space.specs.Radix.{are_digits}
use Rattle.rule_laws.specs.declared.reference.Reference.{Reference}
use Rattle.rule_laws.specs.declared.reference.Arg.{Arg}
use Rattle.rule_laws.specs.declared.reference.Arg.TheVariants.{Fixed, Moved}
use Rattle.rule_model.specs.declared.rules.Statement.{Statement}
use Rattle.rule_model.specs.BoundModel.{BoundModel}
use Rattle.rule_model.specs.Areas.{in_sets}
use Rattle.rule_model.specs.Targets.{element_by, elements_by}
use Rattle.rule_model.specs.Conditions.{IsArea, IsReference, AreRules}
use Rattle.order_laws.specs.Scales.{is_total, is_leaf_element}
use Rattle.order_laws.proofs.SumFacts.{all_from}
use Rattle.order_laws.proofs.ReferenceFacts.{AllFollow, moved-element}
use Rattle.order_laws.proofs.SetFacts.{follow-all, with-parts}
use Rattle.order_laws.proofs.CellFacts.{IsOf, axes-sizes, is_in_area, area-each}
use Rattle.cover_laws.specs.Looking.{Look, sent, is_narrow, is_possible}
use Rattle.cover_laws.proofs.Looks.{NamesCounted, name_each-elim, name_each-intro, fixed-elim, fixed-intro, each-elim, each-intro, IsNarrow, some_in-elim, some_in-intro}
pub use Rattle.std.proofs.lemmas.Option.{slice_get_within as there-low}
pub use Rattle.rule_model.proofs.Arguments.{one_each as named-long}
pub use Rattle.lists.proofs.Found.{there as arg-there}
pub use Rattle.order_laws.proofs.SumFacts.{any-not}

-- ---- lists of elements

all_from-at : (test : ℕ → ℕ → Bool) (base : ℕ) (es : List ℕ) → all_from test base es ≡ true → (k : ℕ) → k < length es → test (base + k) (get_or es k 0) ≡ true
all_from-at test base [] h k low = absurd (omega arith)
all_from-at test base (e ∷ es) h zero low = let own : base ≡ base + 0 = omega arith in subst (λ n. test n e ≡ true) own (and_parts _ _ h).0
all_from-at test base (e ∷ es) h (suc k) low = let on : (suc base + k) ≡ (base + suc k) = omega arith in subst (λ n. test n (get_or es k 0) ≡ true) on (all_from-at test (suc base) es (and_parts _ _ h).1 k (omega arith))

all_from-of : (test : ℕ → ℕ → Bool) (base : ℕ) (es : List ℕ) → ((k : ℕ) → k < length es → test (base + k) (get_or es k 0) ≡ true) → all_from test base es ≡ true
all_from-of test base [] h = refl
all_from-of test base (e ∷ es) h =
    let own : base + 0 ≡ base = omega arith in
    and_from _ _ (subst (λ n. test n e ≡ true) own (h 0 (omega arith)))
    (all_from-of test (suc base) es (λ k low. let on : (base + suc k) ≡ (suc base + k) = omega arith in subst (λ n. test n (get_or es k 0) ≡ true) on (h (suc k) (omega arith))))

pub all-at : (test : ℕ → ℕ → Bool) (es : List ℕ) → all_from test 0 es ≡ true → (k : ℕ) → k < length es → test k (get_or es k 0) ≡ true
all-at test es h k low = let own : 0 + k ≡ k = omega arith in subst (λ n. test n (get_or es k 0) ≡ true) own (all_from-at test 0 es h k low)

pub all-of : (test : ℕ → ℕ → Bool) (es : List ℕ) → ((k : ℕ) → k < length es → test k (get_or es k 0) ≡ true) → all_from test 0 es ≡ true
all-of test es h = all_from-of test 0 es (λ k low. let own : 0 + k ≡ k = omega arith in subst (λ n. test n (get_or es k 0) ≡ true) (sym own) (h k low))

-- one for each number below this, chosen
pub choose : (n : ℕ) (P : ℕ → ℕ → Type 0) → ((k : ℕ) → k < n → (x : ℕ) × P k x) → (xs : List ℕ) × (length xs ≡ n) × ((k : ℕ) → k < n → P k (get_or xs k 0))
choose zero P h = ([], refl, λ k low. absurd (omega arith))
choose (suc n) P h =
    let first = h 0 (omega arith) in
    let rest = choose n (λ k. P (suc k)) (λ k low. h (suc k) (omega arith)) in
    (first.0 ∷ rest.0, ap suc rest.1, both first.0 first.1 rest.0 rest.2)
  where
    both : (x : ℕ) → P 0 x → (xs : List ℕ) → ((k : ℕ) → k < n → P (suc k) (get_or xs k 0)) → (k : ℕ) → k < suc n → P k (get_or (x ∷ xs) k 0)
    both x own xs rest zero low = own
    both x own xs rest (suc k) low = rest k (omega arith)

-- ---- arguments

pub named-at : (es : List ℕ) (args : List Arg) (ts : List ℕ) → elements_by es args ≡ Some ts → (j : ℕ) (arg : Arg) → slice_get args j ≡ Some arg → element_by es arg ≡ Some (get_or ts j 0)
named-at es [] ts h j arg is = absurd (cc)
named-at es (a ∷ args) ts h zero arg is =
    let (t, us, first, rest, same) = with-parts (element_by es a) (elements_by es args) ts h in
    let own : a ≡ arg = cc in
    subst (λ a. element_by es a ≡ Some (get_or ts 0 0)) own (first ∙ ap (λ l. Some (get_or l 0 0)) same)
named-at es (a ∷ args) ts h (suc j) arg is =
    let (t, us, first, rest, same) = with-parts (element_by es a) (elements_by es args) ts h in
    named-at es args us rest j arg is ∙ ap (λ l. Some (get_or l (suc j) 0)) same

pub named-all : (es : List ℕ) (args : List Arg) → ((j : ℕ) (arg : Arg) → slice_get args j ≡ Some arg → (t : ℕ) × (element_by es arg ≡ Some t)) → (ts : List ℕ) × (elements_by es args ≡ Some ts)
named-all es [] h = ([], refl)
named-all es (a ∷ args) h =
    let first = h 0 a refl in
    let rest = named-all es args (λ j arg is. h (suc j) arg is) in
    (first.0 ∷ rest.0, joined (element_by es a) first.0 first.1 (elements_by es args) rest.0 rest.1)
  where
    joined : (o : Option ℕ) (t : ℕ) → o ≡ Some t → (os : Option (List ℕ)) (ts : List ℕ) → os ≡ Some ts → Rattle.rule_model.specs.Named.with_element o os ≡ Some (t ∷ ts)
    joined o t e os ts es = ap (λ o. Rattle.rule_model.specs.Named.with_element o os) e ∙ ap (Rattle.rule_model.specs.Named.with_element (Some t)) es

pub follows-at : (n : ℕ) (args : List Arg) → AllFollow n args → (j from : ℕ) (to : List (Option ℕ)) → slice_get args j ≡ Some (Moved from to) → from < n
follows-at n [] h j from to is = absurd (cc)
follows-at n (a ∷ args) h zero from to is = let own : a ≡ Moved from to = cc in subst (Rattle.order_laws.proofs.ReferenceFacts.follows n) own h.0
follows-at n (a ∷ args) h (suc j) from to is = follows-at n args h.1 j from to is

-- ---- cells

module _ (m : BoundModel) (ruled : AreRules m.space m.rules) (cube : ℕ) (there : cube < length m.space.cubes)
    (statement : Statement) (is_area : IsArea m.space cube statement.area) (r : Reference) (is : IsReference m.space cube r)
    (counts : ℕ → ℕ → Bool) (Below : ℕ → ℕ → ℕ → Type 0)
    (some : (j t : ℕ) → counts j t ≡ true → (l : ℕ) × Below j t l) (only : (j t l : ℕ) → Below j t l → counts j t ≡ true) where
  abbrev pub look : Look
  look = record { space = m.space; cube = cube; area = statement.area; args = r.args; counts = counts }

  abbrev pub width : ℕ
  width = length (axes m.space cube)

  abbrev pub Of : List ℕ → Type 0
  Of es = IsOf m.space cube statement.area true es

  -- the elements of a leaf cell of the area are leaves that it has
  pub of-leaf : (es : List ℕ) → Of es → (i : ℕ) → i < width → is_in_area m.space cube statement.area i (get_or es i 0) ≡ true
  of-leaf es of i low = all-at (is_in_area m.space cube statement.area) es (area-each m.space cube statement.area es is_area of.long ∙ and_from _ _ of.digits of.inside) i (omega (arith, of.long))

  pub of-leaf-element : (es : List ℕ) → Of es → (i : ℕ) → i < width → is_leaf_element (axes m.space cube) i (get_or es i 0) ≡ true
  of-leaf-element es of i low =
      all-at (is_leaf_element (axes m.space cube)) es (sym (any-not (is_total (axes m.space cube)) 0 es) ∙ ap not of.kind_is) i (omega (arith, of.long))

  pub leaf-of : (es : List ℕ) → length es ≡ width → ((i : ℕ) → i < width → IsNarrow look is_area i (get_or es i 0)) → Of es
  unfolding is_narrow
  leaf-of es long h =
      let all = sym (area-each m.space cube statement.area es is_area long) ∙ all-of (is_in_area m.space cube statement.area) es (λ i low. (h i (omega (arith, long, low))).inside) in
      let leaves = all-of (is_leaf_element (axes m.space cube)) es (λ i low. leaf-narrow i (get_or es i 0) (h i (omega (arith, long, low))).narrow) in
      let parts = and_parts (are_digits (sizes m.space cube) es) (in_sets statement.area.sets es) all in
      record { long = long; digits = parts.0; inside = parts.1; kind_is = not-false _ (any-not (is_total (axes m.space cube)) 0 es ∙ leaves) }
    where
      leaf-narrow : (i e : ℕ) → is_narrow look i e ≡ true → is_leaf_element (axes m.space cube) i e ≡ true
      leaf-narrow i e h = (and_parts _ _ h).0

  -- a cell, what the arguments name from it, and what is at or below that
  pub record IsPair (es ts xs : List ℕ) : Type 0 where
    pub of : Of es
    pub named : elements_by es r.args ≡ Some ts
    pub long : length xs ≡ length r.args
    pub below : (j : ℕ) → j < length r.args → Below j (get_or ts j 0) (get_or xs j 0)

  pub follow : AllFollow width r.args
  follow = subst (λ n. AllFollow n r.args) (axes-sizes m.space cube) (follow-all (sizes m.space cube) (sizes m.space r.cube) r.args is.1)

  pub sent-at : (es : List ℕ) → length es ≡ width → (j from : ℕ) (to : List (Option ℕ)) → slice_get r.args j ≡ Some (Moved from to) → element_by es (Moved from to) ≡ sent to (get_or es from 0)
  sent-at es long j from to here = moved-element es from to (omega (arith, long, follows-at width r.args follow j from to here))

  -- ---- of a pair, each element of the first is narrow, and what the arguments name counts

  pub pair-narrow : (es ts xs : List ℕ) → IsPair es ts xs → (i : ℕ) → i < width → IsNarrow look is_area i (get_or es i 0)
  unfolding is_narrow
  pair-narrow es ts xs pair i low = record {
    inside = of-leaf es pair.of i low;
    narrow = and_from _ _ (of-leaf-element es pair.of i low) (name_each-intro counts r.args i (get_or es i 0) names);
  }
    where
      names : NamesCounted counts r.args i (get_or es i 0)
      names j from to here same =
          let target = named-at es r.args ts pair.named j (Moved from to) here in (
            get_or ts j 0,
            ap (λ n. sent to (get_or es n 0)) (sym same) ∙ sym (sent-at es pair.of.long j from to here) ∙ target,
            only j (get_or ts j 0) (get_or xs j 0) (pair.below j (there-low r.args j (Moved from to) here)),
          )

  pub pair-possible : (es ts xs : List ℕ) → IsPair es ts xs → is_possible look ≡ true
  unfolding is_possible
  pair-possible es ts xs pair =
      and_from _ _
      (each-intro _ width (λ i low. let n = pair-narrow es ts xs pair i low in some_in-intro look is_area i (is_narrow look i) (get_or es i 0) n.inside n.narrow))
      (fixed-intro counts r.args (λ j t here.
      let target : Some t ≡ Some (get_or ts j 0) = named-at es r.args ts pair.named j (Fixed t) here in
      let same : get_or ts j 0 ≡ t = cc in
      subst (λ t. counts j t ≡ true) same (only j (get_or ts j 0) (get_or xs j 0) (pair.below j (there-low r.args j (Fixed t) here)))))

  -- ---- where narrow elements are there, a pair is made of any of them

  module _ (possible : is_possible look ≡ true) where
    pub narrow-there : (i : ℕ) → i < width → (e : ℕ) × IsNarrow look is_area i e
    unfolding is_possible
    narrow-there i low =
        let found = some_in-elim look is_area i (is_narrow look i) (each-elim _ width (and_parts _ _ possible).0 i low) in
        (found.0, record { inside = found.1; narrow = found.2 })

    pub fixed-counts : (j t : ℕ) → slice_get r.args j ≡ Some (Fixed t) → counts j t ≡ true
    unfolding is_possible
    fixed-counts j t here = fixed-elim counts r.args (and_parts _ _ possible).1 j t here

    pub moved-counts : (i e : ℕ) → IsNarrow look is_area i e → NamesCounted counts r.args i e
    unfolding is_narrow
    moved-counts i e n = name_each-elim counts r.args i e (and_parts _ _ n.narrow).1

    module _ (es : List ℕ) (long : length es ≡ width) (narrow : (i : ℕ) → i < width → IsNarrow look is_area i (get_or es i 0)) where
      names : (j : ℕ) (arg : Arg) → slice_get r.args j ≡ Some arg → (t : ℕ) × (element_by es arg ≡ Some t) × (counts j t ≡ true)
      names j (Fixed t) here = (t, refl, fixed-counts j t here)
      names j (Moved from to) here =
          let low = follows-at width r.args follow j from to here in
          let (t, sends, count) = moved-counts from (get_or es from 0) (narrow from low) j from to here refl in
          (t, sent-at es long j from to here ∙ sends, count)

      pub pair-from : (j : ℕ) (arg : Arg) (t l : ℕ) → slice_get r.args j ≡ Some arg → element_by es arg ≡ Some t → Below j t l → (ts xs : List ℕ) × IsPair es ts xs × (get_or xs j 0 ≡ l)
      pair-from j arg t l here name below =
          let (ts, named) = named-all es r.args (λ k a at. ((names k a at).0, (names k a at).1)) in
          let own = named-at es r.args ts named j arg here in
          let same : t ≡ get_or ts j 0 = cc in
          let (xs, count, each) = choose (length r.args) (λ k x. Below k (get_or ts k 0) x × (k ≡ j → x ≡ l)) (picked ts named same) in
          (ts, xs, record { of = leaf-of es long narrow; named = named; long = count; below = λ k low. (each k low).0 }, (each j (there-low r.args j arg here)).1 refl)
        where
          picked : (ts : List ℕ) → elements_by es r.args ≡ Some ts → t ≡ get_or ts j 0 → (k : ℕ) → k < length r.args → (x : ℕ) × (Below k (get_or ts k 0) x × (k ≡ j → x ≡ l))
          picked ts named same k low = by (k == j) refl
            where
              by : (b : Bool) → (k == j) ≡ b → (x : ℕ) × (Below k (get_or ts k 0) x × (k ≡ j → x ≡ l))
              by true e =
                  let at : k ≡ j = (Decides-eqb k j).0 e in
                  (l, (subst (λ k. Below k (get_or ts k 0) l) (sym at) (subst (λ t. Below j t l) same below), λ _. refl))
              by false e =
                  let (arg, at) = arg-there r.args k low in
                  let (t, name, count) = names k arg at in
                  let own = named-at es r.args ts named k arg at in
                  let equal : t ≡ get_or ts k 0 = cc in
                  let x = some k (get_or ts k 0) (subst (λ t. counts k t ≡ true) equal count) in
                  (x.0, (x.1, λ same. (let clash : (k == j) ≡ true = (Decides-eqb k j).1 same in absurd (cc))))

      -- and one of them alone
      pub pair-of : (ts xs : List ℕ) × IsPair es ts xs
      pair-of =
          let (ts, named) = named-all es r.args (λ k a at. ((names k a at).0, (names k a at).1)) in
          let (xs, count, each) = choose (length r.args) (λ k x. Below k (get_or ts k 0) x) (λ k low.
          let (arg, at) = arg-there r.args k low in
          let (t, name, count) = names k arg at in
          let own = named-at es r.args ts named k arg at in
          let equal : t ≡ get_or ts k 0 = cc in
          some k (get_or ts k 0) (subst (λ t. counts k t ≡ true) equal count)) in
          (ts, xs, record { of = leaf-of es long narrow; named = named; long = count; below = each })

    -- a cell of narrow elements with these two, if they are of different dimensions
    pub cell-with : (d v i w : ℕ) → d < width → IsNarrow look is_area d v → IsNarrow look is_area i w → (i ≡ d → w ≡ v)
        → (es : List ℕ) × (length es ≡ width) × ((k : ℕ) → k < width → IsNarrow look is_area k (get_or es k 0) × (k ≡ d → get_or es k 0 ≡ v) × (k ≡ i → get_or es k 0 ≡ w))
    cell-with d v i w low narrow_v narrow_w agree = choose width (λ k x. IsNarrow look is_area k x × (k ≡ d → x ≡ v) × (k ≡ i → x ≡ w)) (λ k low. by k low (k == d) refl (k == i) refl)
      where
        by : (k : ℕ) → k < width → (b : Bool) → (k == d) ≡ b → (c : Bool) → (k == i) ≡ c → (x : ℕ) × (IsNarrow look is_area k x × (k ≡ d → x ≡ v) × (k ≡ i → x ≡ w))
        by k low true e c f =
            let at : k ≡ d = (Decides-eqb k d).0 e in
            (v, (subst (λ k. IsNarrow look is_area k v) (sym at) narrow_v, λ _. refl, λ same. sym (agree (sym same ∙ at))))
        by k low false e true f =
            let at : k ≡ i = (Decides-eqb k i).0 f in
            (w, (subst (λ k. IsNarrow look is_area k w) (sym at) narrow_w, λ same. (let clash : (k == d) ≡ true = (Decides-eqb k d).1 same in absurd (cc)), λ _. refl))
        by k low false e false f =
            let found = narrow-there k low in
            (found.0, (found.1, λ same. (let clash : (k == d) ≡ true = (Decides-eqb k d).1 same in absurd (cc)), λ same. (let clash : (k == i) ≡ true = (Decides-eqb k i).1 same in absurd (cc))))

    -- what an argument names with a narrow element of a dimension, or by a narrow one of another, stands in a pair with it
    pub pair-with : (d v : ℕ) → d < width → IsNarrow look is_area d v → (j : ℕ) (arg : Arg) (i w t l : ℕ) → slice_get r.args j ≡ Some arg → IsNarrow look is_area i w → (i ≡ d → w ≡ v) → i < width
        → ((es : List ℕ) → length es ≡ width → get_or es i 0 ≡ w → element_by es arg ≡ Some t) → Below j t l
        → (es ts xs : List ℕ) × IsPair es ts xs × (get_or es d 0 ≡ v) × (get_or xs j 0 ≡ l)
    pair-with d v low narrow_v j arg i w t l here narrow_w agree low_i name below =
        let (es, long, each) = cell-with d v i w low narrow_v narrow_w agree in
        let (ts, xs, pair, own) = pair-from es long (λ k low. (each k low).0) j arg t l here (name es long ((each i low_i).2 refl)) below in
        (es, ts, xs, pair, (each d low).1 refl, own)
