-- What the references of a statement read, as they are counted.
use Rattle.std.proofs.Common.{◌≡◌, refl, sym, ap, ◌∙◌, arith, subst, ℕ, zero, suc, ◌+◌, ◌<◌, Option, Some, None, IfSome, List, [], ◌∷◌, length, drop, map, All, ◌≤◌, ◌^◌, max}
use Rattle.std.specs.Prelude.{slice_get}
use Rattle.std.proofs.lemmas.List.{length-map, length-append}
use Rattle.std.proofs.lemmas.Option.{slice_get_within, get_or_from_slice_get}
use Rattle.std.proofs.lemmas.List.Elements.{All-nil, All-cons, All-map, All-weaker, All-append}
use Rattle.cube_space.specs.Layout.{Layout}
use Rattle.rule_laws.specs.declared.formula.Formula.{Formula}
use Rattle.rule_laws.specs.Meaning.{Precedent}
use Rattle.rule_model.specs.declared.rules.Form.{Form}
use Rattle.rule_model.specs.declared.rules.Form.TheVariants.{Both, LeafFirst, ConsFirst}
use Rattle.rule_model.specs.declared.rules.Statement.{Statement}
use Rattle.rule_model.specs.Conditions.{IsPrecedent, IsLeafPart, IsConsolidatedPart, IsStatement, read_count}
use Rattle.ref_order.specs.Counted.{Counted, for_leaf, for_cons, for_both, counted_by, reads, counted_of}
use Rattle.rule_notes.specs.Inside.Named.{IsReadOf}

module _ (space : Layout) (cube : ℕ) where
  abbrev AreReads : List Precedent → Type 0
  AreReads ps = All (IsPrecedent space cube) ps

  leaf-read : (ps : List Precedent) → AreReads ps → All (IsReadOf space cube) (map for_leaf ps)
  leaf-read ps all = All-map (IsReadOf space cube) for_leaf ps (All-weaker (IsPrecedent space cube) (λ p. IsReadOf space cube (for_leaf p)) (λ p is. record { leaf = is; cons = tt }) ps all)

  cons-read : (ps : List Precedent) → AreReads ps → All (IsReadOf space cube) (map for_cons ps)
  cons-read ps all = All-map (IsReadOf space cube) for_cons ps (All-weaker (IsPrecedent space cube) (λ p. IsReadOf space cube (for_cons p)) (λ p is. record { leaf = tt; cons = is }) ps all)

  both-read : (ls cs : List Precedent) → AreReads ls → AreReads cs → All (IsReadOf space cube) (for_both ls cs)
  both-read [] cs one two = cons-read cs two
  both-read (p ∷ ls) [] one two = leaf-read (p ∷ ls) one
  both-read (p ∷ ls) (q ∷ cs) one two =
      All-cons (IsReadOf space cube) (record { leaf = Some p; cons = Some q }) (for_both ls cs) (record { leaf = one 0 p (omega arith); cons = two 0 q (omega arith) })
      (both-read ls cs (λ k d low. one (suc k) d (omega (arith, low))) (λ k d low. two (suc k) d (omega (arith, low))))

  counted-read : (form : Form) (ls cs : List Precedent) → AreReads ls → AreReads cs → All (IsReadOf space cube) (counted_by form ls cs)
  counted-read Both ls cs one two = both-read ls cs one two
  counted-read LeafFirst ls cs one two = All-append (IsReadOf space cube) (map for_leaf ls) (map for_cons cs) (leaf-read ls one) (cons-read cs two)
  counted-read ConsFirst ls cs one two = All-append (IsReadOf space cube) (map for_cons cs) (map for_leaf ls) (cons-read cs two) (leaf-read ls one)

  leaf-reads : (part : Option Formula) → IfSome part (IsLeafPart space cube) → AreReads (reads part)
  leaf-reads None own = All-nil (IsPrecedent space cube)
  leaf-reads (Some f) own = own.0

  cons-reads : (part : Option Formula) → IfSome part (IsConsolidatedPart space cube) → AreReads (reads part)
  cons-reads None own = All-nil (IsPrecedent space cube)
  cons-reads (Some f) own = own

  pub reads-are : (s : Statement) → IsStatement space cube s → All (IsReadOf space cube) (counted_of s)
  unfolding counted_of
  reads-are s is = counted-read s.form (reads s.leaf) (reads s.cons) (leaf-reads s.leaf is.leaf) (cons-reads s.cons is.consolidated)

-- what holds of a list holds of what is there at a place
pub read-at : (P : Counted → Type 0) (its : List Counted) (k : ℕ) (it : Counted) → slice_get its k ≡ Some it → All P its → P it
read-at P its k it here all = subst P (get_or_from_slice_get its k it it here) (all k it (slice_get_within its k it here))

-- a statement has no more references than both parts together read
both-few : (ls cs : List Precedent) → length (for_both ls cs) ≤ length ls + length cs
both-few [] cs = omega (arith, length-map cs for_cons)
both-few (p ∷ ls) [] = omega (arith, length-map ls for_leaf)
both-few (p ∷ ls) (q ∷ cs) = omega (arith, both-few ls cs)

form-few : (form : Form) (ls cs : List Precedent) → length (counted_by form ls cs) ≤ length ls + length cs
form-few Both ls cs = both-few ls cs
form-few LeafFirst ls cs = omega (arith, length-append (map for_leaf ls) (map for_cons cs), length-map ls for_leaf, length-map cs for_cons)
form-few ConsFirst ls cs = omega (arith, length-append (map for_cons cs) (map for_leaf ls), length-map ls for_leaf, length-map cs for_cons)

read-length : (part : Option Formula) → length (reads part) ≡ read_count part
read-length None = refl
read-length (Some f) = refl

pub counted-few : (space : Layout) (cube : ℕ) (s : Statement) → IsStatement space cube s → length (counted_of s) < 2 ^ 32
unfolding counted_of
counted-few space cube s is = omega (arith, form-few s.form (reads s.leaf) (reads s.cons), read-length s.leaf, read-length s.cons, is.few_read)

-- ---- references of a formula that is both parts, one after the other

both-leaf : (ls : List Precedent) → for_both ls [] ≡ map for_leaf ls
both-leaf [] = refl
both-leaf (p ∷ ls) = refl

-- what is there of two lists at a place
abbrev pub pair-at : List Precedent → List Precedent → ℕ → Counted
pair-at ls cs k = record { leaf = slice_get ls k; cons = slice_get cs k }

nil-drop : (k : ℕ) → drop {A = Precedent} k [] ≡ []
nil-drop zero = refl
nil-drop (suc k) = refl

pub both-drop : (ls cs : List Precedent) (k : ℕ) → k < max (length ls) (length cs) → for_both (drop k ls) (drop k cs) ≡ pair-at ls cs k ∷ for_both (drop (suc k) ls) (drop (suc k) cs)
both-drop [] [] k low = absurd (omega (arith, low))
both-drop [] (q ∷ cs) zero low = refl
both-drop (p ∷ ls) [] zero low = ap (λ l. for_leaf p ∷ l) (sym (both-leaf ls))
both-drop (p ∷ ls) (q ∷ cs) zero low = refl
both-drop [] (q ∷ cs) (suc k) low = ap (λ l. for_both l (drop k cs)) (sym (nil-drop k)) ∙ both-drop [] cs k (omega (arith, low))
both-drop (p ∷ ls) [] (suc k) low = ap (for_both (drop k ls)) (sym (nil-drop k)) ∙ both-drop ls [] k (omega (arith, low))
both-drop (p ∷ ls) (q ∷ cs) (suc k) low = both-drop ls cs k (omega (arith, low))
