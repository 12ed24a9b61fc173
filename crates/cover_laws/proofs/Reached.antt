-- Each argument of a feeder names an element over those of the cell, from each pair, just where it does by dimension.
use Rattle.std.proofs.Common.{◌≡◌, refl, sym, ap, ◌∙◌, arith, subst, ℕ, suc, ◌<◌, Bool, true, false, ℤ, Option, Some, None, List, [], ◌∷◌, length, get_or, ◌==◌, if◌then◌else◌, Contains}
use Rattle.std.specs.Prelude.{slice_get}
use Rattle.std.specs.List.{list_all}
use Rattle.std.specs.Option.{option_map_or}
use Rattle.std.proofs.lemmas.Bool.{ne_eqb}
use Rattle.std.proofs.lemmas.Bool.Decides.{Decides-eqb}
use Rattle.std.proofs.lemmas.List.Elements.{Contains-get_or}
use Rattle.std.proofs.lemmas.List.Sums.{AllPass-from_list_all, list_all-from_AllPass}
use Rattle.dim_core.specs.Outline.{Outline}
use Rattle.cube_space.specs.Layout.{axes}
use Rattle.rule_laws.specs.declared.reference.Reference.{Reference}
use Rattle.rule_laws.specs.declared.reference.Arg.{Arg}
use Rattle.rule_laws.specs.declared.reference.Arg.TheVariants.{Fixed, Moved}
use Rattle.rule_model.specs.declared.rules.Statement.{Statement}
use Rattle.rule_model.specs.BoundModel.{BoundModel}
use Rattle.rule_model.specs.Targets.{element_by}
use Rattle.rule_model.specs.Conditions.{IsArea, IsReference, AreRules}
use Rattle.order_laws.proofs.ReferenceFacts.{moved-element}
use Rattle.cover_laws.specs.Looking.{Look, sent, is_possible, each_narrow, each_named}
use Rattle.cover_laws.specs.Covered.{leaves_at, has_leaves, counts_in, stands_over, each_sent, reaches_from, reaches, look_below}
use Rattle.cover_laws.proofs.Looks.{IsNarrow, each_narrow-elim, each_narrow-intro, counted as some-passes, counted-from as passes-some}
use Rattle.cover_laws.proofs.Named.{sent-passes, passes-sent}
use Rattle.cover_laws.proofs.Pairs as pairs
use Rattle.cover_laws.proofs.Pairs.{named-at, arg-there, there-low, follows-at}

-- a leaf stands among the leaves of an element
abbrev pub IsLeafBelow : List Outline → ℕ → ℕ → ℕ → Type 0
IsLeafBelow dims j t l = (w : ℤ) × Contains (leaves_at dims j t) (l, w)

pub has-some : (dims : List Outline) (j t : ℕ) → has_leaves dims j t ≡ true → (l : ℕ) × IsLeafBelow dims j t l
has-some dims j t h = by (leaves_at dims j t) h
  where
    by : (xs : List (ℕ × ℤ)) → Rattle.std.specs.Prelude.not (length xs == 0) ≡ true → (l : ℕ) × ((w : ℤ) × Contains xs (l, w))
    by [] h = absurd (cc)
    by (x ∷ xs) h = (x.0, (x.1, (0, omega arith, refl)))

pub some-has : (dims : List Outline) (j t l : ℕ) → IsLeafBelow dims j t l → has_leaves dims j t ≡ true
some-has dims j t l below = by (leaves_at dims j t) (l, below.0) below.1
  where
    by : (xs : List (ℕ × ℤ)) (x : ℕ × ℤ) → Contains xs x → Rattle.std.specs.Prelude.not (length xs == 0) ≡ true
    by [] x h = absurd (let low = h.1 in omega (arith, low))
    by (y ∷ xs) x h = ap Rattle.std.specs.Prelude.not (ne_eqb (suc (length xs)) 0 (λ e. omega (arith, e)))

pub all-elim : (p : ℕ × ℤ → Bool) (xs : List (ℕ × ℤ)) (x : ℕ × ℤ) → list_all p xs ≡ true → Contains xs x → p x ≡ true
all-elim p xs x h c = ap p (sym c.2) ∙ AllPass-from_list_all p xs h c.0 x c.1

pub all-intro : (p : ℕ × ℤ → Bool) (xs : List (ℕ × ℤ)) → ((x : ℕ × ℤ) → Contains xs x → p x ≡ true) → list_all p xs ≡ true
all-intro p xs h = list_all-from_AllPass p xs (λ k d low. h _ (Contains-get_or xs k d low))

module _ (m : BoundModel) (ruled : AreRules m.space m.rules) (cube : ℕ) (there : cube < length m.space.cubes)
    (statement : Statement) (is_area : IsArea m.space cube statement.area) (r : Reference) (is : IsReference m.space cube r) where
  abbrev dims : List Outline
  dims = axes m.space r.cube

  abbrev pub IsPair : List ℕ → List ℕ → List ℕ → Type 0
  IsPair = pairs.IsPair m ruled cube there statement is_area r is (has_leaves (axes m.space r.cube)) (IsLeafBelow (axes m.space r.cube)) (has-some (axes m.space r.cube)) (some-has (axes m.space r.cube))

  abbrev look : Look
  look = look_below m cube statement.area r

  abbrev width : ℕ
  width = length (axes m.space cube)

  pair-narrow : (es ts xs : List ℕ) → IsPair es ts xs → (i : ℕ) → i < width → IsNarrow look is_area i (get_or es i 0)
  pair-narrow = pairs.pair-narrow m ruled cube there statement is_area r is (has_leaves dims) (IsLeafBelow dims) (has-some dims) (some-has dims)

  follows : (j from : ℕ) (to : List (Option ℕ)) → slice_get r.args j ≡ Some (Moved from to) → from < width
  follows j from to at = follows-at width r.args (pairs.follow m ruled cube there statement is_area r is (has_leaves dims) (IsLeafBelow dims) (has-some dims) (some-has dims)) j from to at

  sent-at : (es : List ℕ) → length es ≡ width → (j from : ℕ) (to : List (Option ℕ)) → slice_get r.args j ≡ Some (Moved from to) → element_by es (Moved from to) ≡ sent to (get_or es from 0)
  sent-at = pairs.sent-at m ruled cube there statement is_area r is (has_leaves dims) (IsLeafBelow dims) (has-some dims) (some-has dims)

  -- the feeder's argument for dimension d names, from the leaf, an element in which the cell's element counts
  abbrev pub IsOver : ℕ → Arg → List ℕ → List ℕ → Type 0
  IsOver d b es xs = (u : ℕ) × (element_by xs b ≡ Some u) × (counts_in (axes m.space cube) d u (get_or es d 0) ≡ true)

  -- an argument of the feeder follows one of the reference
  abbrev pub FollowsOne : Arg → Type 0
  FollowsOne b = (j : ℕ) (to : List (Option ℕ)) → b ≡ Moved j to → j < length r.args

  module _ (d : ℕ) (low : d < width) where
    fed-element : (xs : List ℕ) → length xs ≡ length r.args → (j : ℕ) (to : List (Option ℕ)) → j < length r.args → element_by xs (Moved j to) ≡ sent to (get_or xs j 0)
    fed-element xs long j to at = moved-element xs j to (omega (arith, long, at))

    -- by dimension, so of each pair
    over-free : (j : ℕ) (to : List (Option ℕ)) (t : ℕ) (es ts xs : List ℕ) → IsPair es ts xs → j < length r.args → t ≡ get_or ts j 0 → each_sent dims j to (stands_over look d) t ≡ true → IsOver d (Moved j to) es xs
    over-free j to t es ts xs pair at same h =
        let below = pair.below j at in
        let sends = all-elim (λ p. option_map_or (stands_over look d) (sent to p.0) false) (leaves_at dims j t) (get_or xs j 0, below.0) h (subst (λ t. Contains (leaves_at dims j t) (get_or xs j 0, below.0)) (sym same) below.1) in
        let (u, named, stands) = some-passes (stands_over look d) (sent to (get_or xs j 0)) sends in
        (u, fed-element xs pair.long j to at ∙ named, each_narrow-elim look is_area d (counts_in (axes m.space cube) d u) stands (get_or es d 0) (pair-narrow es ts xs pair d low))

    over-same : (j : ℕ) (to : List (Option ℕ)) (t : ℕ) (es ts xs : List ℕ) → IsPair es ts xs → j < length r.args → t ≡ get_or ts j 0 → each_sent dims j to (λ over. counts_in (axes m.space cube) d over (get_or es d 0)) t ≡ true → IsOver d (Moved j to) es xs
    over-same j to t es ts xs pair at same h =
        let below = pair.below j at in
        let sends = all-elim (λ p. option_map_or (λ over. counts_in (axes m.space cube) d over (get_or es d 0)) (sent to p.0) false) (leaves_at dims j t) (get_or xs j 0, below.0) h (subst (λ t. Contains (leaves_at dims j t) (get_or xs j 0, below.0)) (sym same) below.1) in
        let (u, named, counts) = some-passes (λ over. counts_in (axes m.space cube) d over (get_or es d 0)) (sent to (get_or xs j 0)) sends in
        (u, fed-element xs pair.long j to at ∙ named, counts)

    over-from : (j : ℕ) (to : List (Option ℕ)) (es ts xs : List ℕ) → IsPair es ts xs → j < length r.args → (arg : Arg) → slice_get r.args j ≡ Some arg → reaches_from look dims d to j arg ≡ true → IsOver d (Moved j to) es xs
    over-from j to es ts xs pair at (Fixed t) here h =
        let target : Some t ≡ Some (get_or ts j 0) = named-at es r.args ts pair.named j (Fixed t) here in
        let same : t ≡ get_or ts j 0 = cc in
        over-free j to t es ts xs pair at same h
    over-from j to es ts xs pair at (Moved from by) here h = split (from == d) refl h
      where
        sends : sent by (get_or es from 0) ≡ Some (get_or ts j 0)
        sends = sym (sent-at es pair.of.long j from by here) ∙ named-at es r.args ts pair.named j (Moved from by) here

        split : (b : Bool) → (from == d) ≡ b → (if b
            then each_narrow look d (λ e. option_map_or (each_sent dims j to (λ over. counts_in (axes m.space cube) d over e)) (sent by e) true)
            else each_named look (each_sent dims j to (stands_over look d)) (Moved from by)) ≡ true → IsOver d (Moved j to) es xs
        split true e h =
            let same : from ≡ d = (Decides-eqb from d).0 e in
            let each = each_narrow-elim look is_area d (λ e. option_map_or (each_sent dims j to (λ over. counts_in (axes m.space cube) d over e)) (sent by e) true) h (get_or es d 0) (pair-narrow es ts xs pair d low) in
            over-same j to (get_or ts j 0) es ts xs pair at refl (sent-passes (each_sent dims j to (λ over. counts_in (axes m.space cube) d over (get_or es d 0))) (sent by (get_or es d 0)) (get_or ts j 0) (ap (λ n. sent by (get_or es n 0)) (sym same) ∙ sends) each)
        split false e h =
            let each = each_narrow-elim look is_area from (λ e. option_map_or (each_sent dims j to (stands_over look d)) (sent by e) true) h (get_or es from 0) (pair-narrow es ts xs pair from (follows j from by here)) in
            over-free j to (get_or ts j 0) es ts xs pair at refl (sent-passes (each_sent dims j to (stands_over look d)) (sent by (get_or es from 0)) (get_or ts j 0) sends each)

    pub reaches-over : (b : Arg) → FollowsOne b → reaches look dims d b ≡ true → (es ts xs : List ℕ) → IsPair es ts xs → IsOver d b es xs
    reaches-over (Fixed u) follow h es ts xs pair = (u, refl, each_narrow-elim look is_area d (counts_in (axes m.space cube) d u) h (get_or es d 0) (pair-narrow es ts xs pair d low))
    reaches-over (Moved j to) follow h es ts xs pair = by (slice_get r.args j) refl h
      where
        by : (o : Option Arg) → slice_get r.args j ≡ o → option_map_or (reaches_from look dims d to j) o false ≡ true → IsOver d (Moved j to) es xs
        by None e h = absurd (cc)
        by (Some arg) e h = over-from j to es ts xs pair (follow j to refl) arg e h

    -- of each pair, so by dimension
    module _ (possible : is_possible look ≡ true) where
      pair-with : (v : ℕ) → IsNarrow look is_area d v → (j : ℕ) (arg : Arg) (i w t l : ℕ) → slice_get r.args j ≡ Some arg → IsNarrow look is_area i w → (i ≡ d → w ≡ v) → i < width
          → ((es : List ℕ) → length es ≡ width → get_or es i 0 ≡ w → element_by es arg ≡ Some t) → IsLeafBelow dims j t l
          → (es ts xs : List ℕ) × IsPair es ts xs × (get_or es d 0 ≡ v) × (get_or xs j 0 ≡ l)
      pair-with v = pairs.pair-with m ruled cube there statement is_area r is (has_leaves dims) (IsLeafBelow dims) (has-some dims) (some-has dims) possible d v low

      first-narrow : (i : ℕ) → i < width → (e : ℕ) × IsNarrow look is_area i e
      first-narrow = pairs.narrow-there m ruled cube there statement is_area r is (has_leaves dims) (IsLeafBelow dims) (has-some dims) (some-has dims) possible

      module _ (b : Arg) (h : (es ts xs : List ℕ) → IsPair es ts xs → IsOver d b es xs) where
        -- what a leaf is sent to counts the narrow element, where a pair has both
        over-at : (j : ℕ) (to : List (Option ℕ)) → b ≡ Moved j to → j < length r.args → (v l : ℕ) → ((es ts xs : List ℕ) × IsPair es ts xs × (get_or es d 0 ≡ v) × (get_or xs j 0 ≡ l))
            → (u : ℕ) × (sent to l ≡ Some u) × (counts_in (axes m.space cube) d u v ≡ true)
        over-at j to own at v l (es, ts, xs, pair, first, second) =
            let (u, named, counts) = h es ts xs pair in
            let sends = sym (fed-element xs pair.long j to at) ∙ ap (element_by xs) (sym own) ∙ named in
            (u, ap (sent to) (sym second) ∙ sends, subst (λ e. counts_in (axes m.space cube) d u e ≡ true) first counts)

        free : (j : ℕ) (to : List (Option ℕ)) (t : ℕ) → b ≡ Moved j to → j < length r.args
            → ((v : ℕ) → IsNarrow look is_area d v → (l : ℕ) → IsLeafBelow dims j t l → (es ts xs : List ℕ) × IsPair es ts xs × (get_or es d 0 ≡ v) × (get_or xs j 0 ≡ l))
            → each_sent dims j to (stands_over look d) t ≡ true
        free j to t own at made = all-intro _ (leaves_at dims j t) (λ x contains.
            let v = first-narrow d low in
            let (u, sends, counts) = over-at j to own at v.0 x.0 (made v.0 v.1 x.0 (x.1, contains)) in
            passes-some (stands_over look d) (sent to x.0) u sends (each_narrow-intro look is_area d (counts_in (axes m.space cube) d u) (λ w narrow.
            let (u', sends', counts') = over-at j to own at w x.0 (made w narrow x.0 (x.1, contains)) in
            let same : u' ≡ u = cc in
            subst (λ u. counts_in (axes m.space cube) d u w ≡ true) same counts')))

        from-over : (j : ℕ) (to : List (Option ℕ)) → b ≡ Moved j to → j < length r.args → (arg : Arg) → slice_get r.args j ≡ Some arg → reaches_from look dims d to j arg ≡ true
        from-over j to own at (Fixed t) here = free j to t own at (λ v narrow l below. pair-with v narrow j (Fixed t) d v t l here narrow (λ _. refl) low (λ es long e. refl) below)
        from-over j to own at (Moved from by) here = split (from == d) refl
          where
            name : (w t : ℕ) → sent by w ≡ Some t → (es : List ℕ) → length es ≡ width → get_or es from 0 ≡ w → element_by es (Moved from by) ≡ Some t
            name w t sends es long e = sent-at es long j from by here ∙ ap (sent by) e ∙ sends

            split : (c : Bool) → (from == d) ≡ c → (if c
                then each_narrow look d (λ e. option_map_or (each_sent dims j to (λ over. counts_in (axes m.space cube) d over e)) (sent by e) true)
                else each_named look (each_sent dims j to (stands_over look d)) (Moved from by)) ≡ true
            split true e = each_narrow-intro look is_area d _ (λ v narrow. passes-sent _ (sent by v) (λ t sends. all-intro _ (leaves_at dims j t) (λ x contains.
                let same : from ≡ d = (Decides-eqb from d).0 e in
                let made = pair-with v narrow j (Moved from by) from v t x.0 here (subst (λ i. IsNarrow look is_area i v) (sym same) narrow) (λ _. refl) (follows j from by here) (name v t sends) (x.1, contains) in
                let (u, sends', counts) = over-at j to own at v x.0 made in
                passes-some (λ over. counts_in (axes m.space cube) d over v) (sent to x.0) u sends' counts)))
            split false e = each_narrow-intro look is_area from _ (λ w narrow_w. passes-sent _ (sent by w) (λ t sends. free j to t own at (λ v narrow l below.
                pair-with v narrow j (Moved from by) from w t l here narrow_w (λ same. (let clash : (from == d) ≡ true = (Decides-eqb from d).1 same in absurd (cc))) (follows j from by here) (name w t sends) below)))

      pub over-reaches : (b : Arg) → FollowsOne b → ((es ts xs : List ℕ) → IsPair es ts xs → IsOver d b es xs) → reaches look dims d b ≡ true
      over-reaches (Fixed u) follow h = each_narrow-intro look is_area d (counts_in (axes m.space cube) d u) by
        where
          by : (v : ℕ) → IsNarrow look is_area d v → counts_in (axes m.space cube) d u v ≡ true
          by v narrow =
              let (es, long, each) = pairs.cell-with m ruled cube there statement is_area r is (has_leaves dims) (IsLeafBelow dims) (has-some dims) (some-has dims) possible d v d v low narrow narrow (λ _. refl) in
              let (ts, xs, pair) = pairs.pair-of m ruled cube there statement is_area r is (has_leaves dims) (IsLeafBelow dims) (has-some dims) (some-has dims) possible es long (λ k low. (each k low).0) in
              let (u', named, counts) = h es ts xs pair in
              let equal : u' ≡ u = cc in
              subst (λ u. counts_in (axes m.space cube) d u v ≡ true) equal (subst (λ e. counts_in (axes m.space cube) d u' e ≡ true) ((each d low).1 refl) counts)
      over-reaches (Moved j to) follow h = by (slice_get r.args j) refl (arg-there r.args j (follow j to refl))
        where
          by : (o : Option Arg) → slice_get r.args j ≡ o → (arg : Arg) × (slice_get r.args j ≡ Some arg) → option_map_or (reaches_from look dims d to j) o false ≡ true
          by None e found = absurd (let clash = sym e ∙ found.1 in cc)
          by (Some arg) e found = from-over (Moved j to) h j to refl (follow j to refl) arg e
