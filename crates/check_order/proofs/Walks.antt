-- A walk over one list of what is read, and then over another.
use Rattle.std.proofs.Common.{◌≡◌, sym, ap, ◌∙◌, subst, arith, ℕ, ◌+◌, Bool, List, [], ◌∷◌, ◌++◌, length, length-append, map, All}
use Rattle.std.proofs.lemmas.List.{map-append, length-map}
use Rattle.std.proofs.lemmas.List.Elements.{All-drop, All-take}
use Rattle.std.proofs.Math.Seq.{drop-append_seam, take-append_seam}
use Rattle.std.proofs.lemmas.List.Sums.{fold-append}
use Rattle.cube_space.specs.Layout.{Layout}
use Rattle.rule_laws.specs.Meaning.{Precedent}
use Rattle.rule_model.specs.Conditions.{IsPrecedent}
use Rattle.check_order.specs.declared.walk.Seen.{Seen}
use Rattle.check_order.specs.Inside.Walk.{AreReads, seen_next, seen_after}

-- what holds of all of two lists holds of all of each
pub all-first : {X : Type 0} (P : X → Type 0) (ps qs : List X) → All P (ps ++ qs) → All P ps
all-first P ps qs all = subst (All P) (take-append_seam ps qs) (All-take P (length ps) (ps ++ qs) all)

pub all-second : {X : Type 0} (P : X → Type 0) (ps qs : List X) → All P (ps ++ qs) → All P qs
all-second P ps qs all = subst (All P) (drop-append_seam ps qs) (All-drop P (length ps) (ps ++ qs) all)

-- a walk has seen as many more as the list has
pub seen-count : (s : Seen) (marks : List Bool) → (seen_after s marks).count ≡ s.count + length marks
seen-count s [] = omega arith
seen-count s (mark ∷ marks) = omega (arith, seen-count (seen_next s mark) marks)

module _ (space : Layout) (cube : ℕ) (test : Precedent → Bool) where
  -- the first list of two is read as the whole is
  pub first : (n : ℕ) (all ps qs : List Precedent) → all ≡ ps ++ qs → AreReads space cube n all → AreReads space cube n ps
  first n all ps qs e h =
      let own : AreReads space cube n (ps ++ qs) = subst (AreReads space cube n) e h in
      record { each = all-first (IsPrecedent space cube) ps qs own.each; few = omega (arith, own.few, length-append ps qs) }

  -- and the second one after the first
  pub second : (s u : Seen) (all ps qs : List Precedent) → all ≡ ps ++ qs → u ≡ seen_after s (map test ps) → AreReads space cube s.count all → AreReads space cube u.count qs
  second s u all ps qs e walked h =
      let own : AreReads space cube s.count (ps ++ qs) = subst (AreReads space cube s.count) e h in
      let seen : u.count ≡ s.count + length ps = ap (λ (u : Seen). u.count) walked ∙ seen-count s (map test ps) ∙ ap (λ n. s.count + n) (length-map ps test) in
      record { each = all-second (IsPrecedent space cube) ps qs own.each; few = omega (arith, own.few, length-append ps qs, seen) }

  -- a walk over both is one over the whole
  pub both : (s u v : Seen) (all ps qs : List Precedent) → all ≡ ps ++ qs → u ≡ seen_after s (map test ps) → v ≡ seen_after u (map test qs) → v ≡ seen_after s (map test all)
  both s u v all ps qs e walked then =
      then ∙ ap (λ w. seen_after w (map test qs)) walked ∙ sym (fold-append seen_next s (map test ps) (map test qs))
      ∙ ap (seen_after s) (sym (map-append test ps qs)) ∙ ap (λ l. seen_after s (map test l)) (sym e)
