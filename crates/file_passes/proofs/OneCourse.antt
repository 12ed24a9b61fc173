-- A run over files that tell their content has one course.
use Rattle.std.proofs.Common.{◌≡◌, ℕ, ◌<◌, List, [], ◌∷◌, length, Option, Some, inl, inr, refl, sym, ◌∙◌, subst, ap, arith}
use Rattle.std.proofs.lemmas.Bool.{cases_lt}
use Rattle.std.specs.Prelude.{option_map}
use Rattle.cube_outside.specs.Extents.{part_of}
use Rattle.cube_outside.specs.declared.files.Extent.{Extent}
use Rattle.file_passes.specs.Pass.{Readings, Reads, Pass, IsTurnOf}
use Rattle.file_passes.specs.Course.{IsCourse}
use Rattle.file_passes.proofs.PassFacts.{AreAlike, same_source}

module _ {A : Type 0} (run : Pass A) (one : AreAlike run run) (map : List ℕ → Option (List ℕ)) where
  -- two courses of as many files are one
  same_length : (r s : Readings) → IsCourse run (Some map) r → IsCourse run (Some map) s → length r ≡ length s → r ≡ s
  same_length [] [] p q long = refl
  same_length [] (y ∷ s) p q long = absurd (omega arith)
  same_length (x ∷ r) [] p q long = absurd (omega arith)
  same_length (x ∷ r) (y ∷ s) p q long =
      let older : r ≡ s = same_length r s p.1 q.1 (omega arith) in
      let read = p.0 in
      let too = q.0 in
      let alike = one.one_stop s (Reads read.0 x.0) (Reads too.0 y.0) (subst (λ l. run.stops l (Reads read.0 x.0)) older read.1) too.1 in
      let name : x.0 ≡ y.0 = alike.1 in
      let first : Extent → Option (List ℕ) = λ extent. option_map (part_of extent) (map x.0) in
      let second : List ℕ → Option (List ℕ) = λ l. option_map (part_of too.0) (map l) in
      let told : Some x.1 ≡ Some y.1 = sym read.2 ∙ ap first alike.0 ∙ ap second name ∙ too.2 in
      let bytes : x.1 ≡ y.1 = cc in
      let reading : x ≡ y = same_source x y name bytes in
      cc

  -- after the shorter of two courses there is a file to be read
  goes_on : (r s : Readings) → IsCourse run (Some map) r → IsCourse run (Some map) s → length s < length r → (name : List ℕ) × IsTurnOf run s name
  goes_on [] s p q more = absurd (omega arith)
  goes_on (x ∷ r) s p q more =
      elim (cases_lt (length s) (length r)) [
        | inl less ↦ goes_on r s p.1 q less
        | inr same ↦ (x.0, (p.0.0, subst (λ l. run.stops l (Reads p.0.0 x.0)) (same_length r s p.1 q (omega arith)) p.0.1))
      ]

  -- two courses that have come to an end are one
  pub same_course : (r s : Readings) → IsCourse run (Some map) r → IsCourse run (Some map) s
      → ((name : List ℕ) → ¬ IsTurnOf run r name) → ((name : List ℕ) → ¬ IsTurnOf run s name) → r ≡ s
  same_course r s p q r_ends s_ends =
      elim (cases_lt (length r) (length s)) [
        | inl less ↦ (let next = goes_on s r q p less in absurd (r_ends next.0 next.1))
        | inr at_least ↦ elim (cases_lt (length s) (length r)) [
          | inl more ↦ (let next = goes_on r s p q more in absurd (s_ends next.0 next.1))
          | inr at_most ↦ same_length r s p q (omega arith)
        ]
      ]
