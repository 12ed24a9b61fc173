-- The rule files of cubes, with one cube more.
use Rattle.std.proofs.Common.{◌≡◌, ◌∙◌, inl, inr, ◌⊎◌, ℕ, ◌<◌, List, [], ◌∷◌, ◌++◌, length, map, slice_index_or, Option, Some, None, IfSome, sym, ap, subst, arith, length-append}
use Rattle.std.proofs.lemmas.Bool.{cases_order}
use Rattle.std.proofs.lemmas.List.{length-map, map-append, get_or_append_left, get_or_push, get_or_past}
use Rattle.model_bind.specs.declared.rule_files.CubeFile.{CubeFile}
use Rattle.model_bind.specs.Inside.Shared.{files_of, HasFile, IsEarlier, AreShared}

module _ (cubes : List CubeFile) (cube : CubeFile) (are : AreShared cubes) (own : IfSome cube.same_as (HasFile (files_of cubes) cube.file)) where
  is-own : (same : Option ℕ) (earlier : ℕ) → IfSome same (HasFile (files_of cubes) cube.file) → same ≡ Some earlier → HasFile (files_of cubes) cube.file earlier
  is-own None earlier has at = (let clash : None ≡ Some earlier = at in absurd (cc clash))
  is-own (Some k) earlier has at = (let is : k ≡ earlier = cc at in subst (HasFile (files_of cubes) cube.file) is has)

  pub shared-push : AreShared (cubes ++ cube ∷ [])
  shared-push k earlier at = by (cases_order k (length cubes))
    where
      sames : List (Option ℕ)
      sames = map (λ c. c.same_as) cubes

      files : files_of (cubes ++ cube ∷ []) ≡ files_of cubes ++ cube.file ∷ []
      files = map-append (λ c. c.file) cubes (cube ∷ [])

      held : slice_index_or (map (λ c. c.same_as) cubes ++ cube.same_as ∷ []) k None ≡ Some earlier
      held = ap (λ l. slice_index_or l k None) (sym (map-append (λ (c : CubeFile). c.same_as) cubes (cube ∷ []))) ∙ at

      long : length (files_of cubes) ≡ length cubes
      long = length-map cubes (λ c. c.file)

      as-long : length (map (λ (c : CubeFile). c.same_as) cubes) ≡ length cubes
      as-long = length-map cubes (λ c. c.same_as)

      before-it : (n : ℕ) → n < length cubes → slice_index_or (files_of cubes ++ cube.file ∷ []) n None ≡ slice_index_or (files_of cubes) n None
      before-it n low = get_or_append_left (files_of cubes) (cube.file ∷ []) None n (omega (arith, low, long))

      by : (k ≡ length cubes) ⊎ ((k < length cubes) ⊎ (length cubes < k)) → IsEarlier (files_of (cubes ++ cube ∷ [])) k earlier
      by (inl end) =
          let same : cube.same_as ≡ Some earlier = sym (get_or_push (map (λ (c : CubeFile). c.same_as) cubes) cube.same_as None k (as-long ∙ sym end)) ∙ held in
          let has = is-own cube.same_as earlier own same in
          let low : earlier < length cubes = omega (arith, has.there, long) in
          rw files (record {
            before = omega (arith, low, end);
            same = before-it earlier low ∙ has.is ∙ sym (get_or_push (files_of cubes) cube.file None k (long ∙ sym end));
          })
      by (inr (inl low)) =
          let old = are k earlier (sym (get_or_append_left (map (λ (c : CubeFile). c.same_as) cubes) (cube.same_as ∷ []) None k (omega (arith, low, as-long))) ∙ held) in
          rw files (record {
            before = old.before;
            same = before-it earlier (omega (arith, old.before, low)) ∙ old.same ∙ sym (before-it k low);
          })
      by (inr (inr high)) =
          let past = get_or_past (map (λ (c : CubeFile). c.same_as) cubes ++ cube.same_as ∷ []) k None (omega (arith, high, as-long, length-append (map (λ (c : CubeFile). c.same_as) cubes) (cube.same_as ∷ []))) in
          let clash : None ≡ Some earlier = sym past ∙ held in
          absurd (cc clash)
