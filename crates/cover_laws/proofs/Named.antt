-- A test of what arguments name holds by dimension just where it holds of each pair.
use Rattle.std.proofs.Common.{◌≡◌, refl, sym, ap, ◌∙◌, subst, ℕ, ◌<◌, Bool, true, Option, Some, None, List, length, get_or}
use Rattle.std.specs.Prelude.{slice_get}
use Rattle.std.specs.Option.{option_map_or}
use Rattle.rule_laws.specs.declared.reference.Reference.{Reference}
use Rattle.rule_laws.specs.declared.reference.Arg.{Arg}
use Rattle.rule_laws.specs.declared.reference.Arg.TheVariants.{Fixed, Moved}
use Rattle.rule_model.specs.declared.rules.Statement.{Statement}
use Rattle.rule_model.specs.BoundModel.{BoundModel}
use Rattle.rule_model.specs.Conditions.{IsArea, IsReference, AreRules}
use Rattle.cover_laws.specs.Looking.{Look, sent, is_possible, each_named, all_named}
use Rattle.cover_laws.proofs.Looks.{IsNarrow, each_narrow-elim, each_narrow-intro, all_named-elim, all_named-intro}
use Rattle.cover_laws.proofs.Pairs as pairs
use Rattle.cover_laws.proofs.Pairs.{named-at, arg-there, there-low, follows-at}

pub sent-passes : (test : ℕ → Bool) (o : Option ℕ) (t : ℕ) → o ≡ Some t → option_map_or test o true ≡ true → test t ≡ true
sent-passes test o t e h = ap (λ o. option_map_or test o true) (sym e) ∙ h

pub passes-sent : (test : ℕ → Bool) (o : Option ℕ) → ((t : ℕ) → o ≡ Some t → test t ≡ true) → option_map_or test o true ≡ true
passes-sent test None h = refl
passes-sent test (Some t) h = h t refl

module _ (m : BoundModel) (ruled : AreRules m.space m.rules) (cube : ℕ) (there : cube < length m.space.cubes)
    (statement : Statement) (is_area : IsArea m.space cube statement.area) (r : Reference) (is : IsReference m.space cube r)
    (counts : ℕ → ℕ → Bool) (Below : ℕ → ℕ → ℕ → Type 0)
    (some : (j t : ℕ) → counts j t ≡ true → (l : ℕ) × Below j t l) (only : (j t l : ℕ) → Below j t l → counts j t ≡ true) where
  abbrev look : Look
  look = pairs.look m ruled cube there statement is_area r is counts Below some only

  abbrev width : ℕ
  width = pairs.width m ruled cube there statement is_area r is counts Below some only

  abbrev IsPair : List ℕ → List ℕ → List ℕ → Type 0
  IsPair = pairs.IsPair m ruled cube there statement is_area r is counts Below some only

  module _ (wide : 0 < width) (test : ℕ → ℕ → Bool) (Good : ℕ → ℕ → Type 0)
      (good : (j t : ℕ) → test j t ≡ true → (l : ℕ) → Below j t l → Good j l) (tested : (j t : ℕ) → counts j t ≡ true → ((l : ℕ) → Below j t l → Good j l) → test j t ≡ true) where
    pub named-good : all_named look test 0 r.args ≡ true → (es ts xs : List ℕ) → IsPair es ts xs → (j : ℕ) → j < length r.args → Good j (get_or xs j 0)
    named-good h es ts xs pair j low = let (arg, at) = arg-there r.args j low in good j (get_or ts j 0) (by arg at) (get_or xs j 0) (pair.below j low)
      where
        by : (arg : Arg) → slice_get r.args j ≡ Some arg → test j (get_or ts j 0) ≡ true
        by (Fixed t) at =
            let target : Some t ≡ Some (get_or ts j 0) = named-at es r.args ts pair.named j (Fixed t) at in
            let same : t ≡ get_or ts j 0 = cc in
            subst (λ t. test j t ≡ true) same (all_named-elim look test r.args h j (Fixed t) at)
        by (Moved from to) at =
            let low_from : from < width = follows-at width r.args (pairs.follow m ruled cube there statement is_area r is counts Below some only) j from to at in
            let narrow = pairs.pair-narrow m ruled cube there statement is_area r is counts Below some only es ts xs pair from low_from in
            let each = each_narrow-elim look is_area from (λ e. option_map_or (test j) (sent to e) true) (all_named-elim look test r.args h j (Moved from to) at) (get_or es from 0) narrow in
            let sends = sym (pairs.sent-at m ruled cube there statement is_area r is counts Below some only es pair.of.long j from to at) ∙ named-at es r.args ts pair.named j (Moved from to) at in
            sent-passes (test j) (sent to (get_or es from 0)) (get_or ts j 0) sends each

    pub good-named : is_possible look ≡ true → ((es ts xs : List ℕ) → IsPair es ts xs → (j : ℕ) → j < length r.args → Good j (get_or xs j 0)) → all_named look test 0 r.args ≡ true
    good-named possible h = all_named-intro look test r.args each
      where
        counted : (j from : ℕ) (to : List (Option ℕ)) (w t : ℕ) → slice_get r.args j ≡ Some (Moved from to) → IsNarrow look is_area from w → sent to w ≡ Some t → counts j t ≡ true
        counted j from to w t at narrow sends =
            let (t', sends', count) = pairs.moved-counts m ruled cube there statement is_area r is counts Below some only possible from w narrow j from to at refl in
            let same : t' ≡ t = cc in
            subst (λ t. counts j t ≡ true) same count

        each : (j : ℕ) (arg : Arg) → slice_get r.args j ≡ Some arg → each_named look (test j) arg ≡ true
        each j (Fixed t) at = tested j t (pairs.fixed-counts m ruled cube there statement is_area r is counts Below some only possible j t at) (λ l below.
            let first = pairs.narrow-there m ruled cube there statement is_area r is counts Below some only possible 0 wide in
            let (es, ts, xs, pair, own, got) = pairs.pair-with m ruled cube there statement is_area r is counts Below some only possible 0 first.0 wide first.1 j (Fixed t) 0 first.0 t l at first.1 (λ _. refl) wide (λ es long e. refl) below in
            subst (Good j) got (h es ts xs pair j (there-low r.args j (Fixed t) at)))
        each j (Moved from to) at = each_narrow-intro look is_area from _ (λ w narrow. passes-sent (test j) (sent to w) (λ t sends. tested j t (counted j from to w t at narrow sends) (λ l below.
            let low_from : from < width = follows-at width r.args (pairs.follow m ruled cube there statement is_area r is counts Below some only) j from to at in
            let (es, ts, xs, pair, own, got) = pairs.pair-with m ruled cube there statement is_area r is counts Below some only possible from w low_from narrow j (Moved from to) from w t l at narrow (λ _. refl) low_from
            (λ es long e. pairs.sent-at m ruled cube there statement is_area r is counts Below some only es long j from to at ∙ ap (sent to) e ∙ sends) below in
            subst (Good j) got (h es ts xs pair j (there-low r.args j (Moved from to) at)))))
