-- The references of a statement as they are counted, by its parts.
use Rattle.std.proofs.Common.{◌≡◌, refl, ap, ◌∙◌, arith, ℕ, zero, suc, ◌+◌, inl, inr, Bool, true, false, Some, None, List, [], ◌∷◌, ◌++◌, length, map}
use Rattle.std.specs.Prelude.{slice_get}
use Rattle.std.proofs.lemmas.List.{length-map}
use Rattle.rule_laws.specs.Meaning.{Precedent}
use Rattle.rule_model.specs.declared.rules.Form.{Form}
use Rattle.rule_model.specs.declared.rules.Form.TheVariants.{Both, LeafFirst, ConsFirst}
use Rattle.rule_model.specs.declared.rules.Statement.{Statement}
use Rattle.ref_order.specs.Counted.{Counted, for_leaf, for_cons, for_both, counted_by, counted_of, reads}
use Rattle.read_sources.specs.Sources.{read_for}
use Rattle.read_sources.specs.Gathering.{reads_for, before_by, counted_before}
use Rattle.read_sources.proofs.Placed.{get-first, get-second, get-either, get-mapped, mapped-at}

abbrev list_for : Bool → List Precedent → List Precedent → List Precedent
list_for true ls cs = ls
list_for false ls cs = cs

-- what is counted at a place, for a kind of cell
abbrev IsCountedAs : List Counted → ℕ → Bool → Precedent → Type 0
IsCountedAs all j kind p = (it : Counted) × (slice_get all j ≡ Some it) × (read_for kind it ≡ Some p)

both-leaf : (ls cs : List Precedent) (k : ℕ) (p : Precedent) → slice_get ls k ≡ Some p → IsCountedAs (for_both ls cs) k true p
both-leaf [] cs k p is = absurd (cc)
both-leaf (l ∷ ls) [] k p is = (for_leaf p, get-mapped for_leaf (l ∷ ls) k p is, refl)
both-leaf (l ∷ ls) (c ∷ cs) zero p is = (record { leaf = Some l; cons = Some c }, refl, is)
both-leaf (l ∷ ls) (c ∷ cs) (suc k) p is = both-leaf ls cs k p is

both-cons : (ls cs : List Precedent) (k : ℕ) (p : Precedent) → slice_get cs k ≡ Some p → IsCountedAs (for_both ls cs) k false p
both-cons [] cs k p is = (for_cons p, get-mapped for_cons cs k p is, refl)
both-cons (l ∷ ls) [] k p is = absurd (cc)
both-cons (l ∷ ls) (c ∷ cs) zero p is = (record { leaf = Some l; cons = Some c }, refl, is)
both-cons (l ∷ ls) (c ∷ cs) (suc k) p is = both-cons ls cs k p is

leaf-there : (ls : List Precedent) (j : ℕ) (p : Precedent) → slice_get ls j ≡ Some p → IsCountedAs (map for_leaf ls) j true p
leaf-there ls j p is = (for_leaf p, get-mapped for_leaf ls j p is, refl)

cons-there : (cs : List Precedent) (j : ℕ) (p : Precedent) → slice_get cs j ≡ Some p → IsCountedAs (map for_cons cs) j false p
cons-there cs j p is = (for_cons p, get-mapped for_cons cs j p is, refl)

in-first : (xs ys : List Counted) (j : ℕ) (kind : Bool) (p : Precedent) → IsCountedAs xs j kind p → IsCountedAs (xs ++ ys) j kind p
in-first xs ys j kind p (it, here, reads) = (it, get-first xs ys j it here, reads)

in-second : (xs ys : List Counted) (j k : ℕ) (kind : Bool) (p : Precedent) → j ≡ length xs + k → IsCountedAs ys k kind p → IsCountedAs (xs ++ ys) j kind p
in-second xs ys j k kind p at (it, here, reads) = (it, get-second xs ys j k it at here, reads)

counted-at : (form : Form) (kind : Bool) (ls cs : List Precedent) (j k : ℕ) (p : Precedent) → j ≡ before_by form kind (length ls) (length cs) + k
    → slice_get (list_for kind ls cs) k ≡ Some p → IsCountedAs (counted_by form ls cs) j kind p
counted-at Both true ls cs j k p at is = let same : j ≡ k = omega (arith, at) in both-leaf ls cs j p (ap (slice_get ls) same ∙ is)
counted-at Both false ls cs j k p at is = let same : j ≡ k = omega (arith, at) in both-cons ls cs j p (ap (slice_get cs) same ∙ is)
counted-at LeafFirst true ls cs j k p at is =
    let same : j ≡ k = omega (arith, at) in
    in-first (map for_leaf ls) (map for_cons cs) j true p (leaf-there ls j p (ap (slice_get ls) same ∙ is))
counted-at LeafFirst false ls cs j k p at is =
    in-second (map for_leaf ls) (map for_cons cs) j k false p (omega (arith, at, length-map ls for_leaf)) (cons-there cs k p is)
counted-at ConsFirst true ls cs j k p at is =
    in-second (map for_cons cs) (map for_leaf ls) j k true p (omega (arith, at, length-map cs for_cons)) (leaf-there ls k p is)
counted-at ConsFirst false ls cs j k p at is =
    let same : j ≡ k = omega (arith, at) in
    in-first (map for_cons cs) (map for_leaf ls) j false p (cons-there cs j p (ap (slice_get cs) same ∙ is))

-- ---- and the other way round

leaf-in : (ls : List Precedent) (j : ℕ) (it : Counted) (p : Precedent) → slice_get (map for_leaf ls) j ≡ Some it → it.leaf ≡ Some p → slice_get ls j ≡ Some p
leaf-in ls j it p is own = let (q, here, same) = mapped-at for_leaf ls j it is in here ∙ ap (λ (c : Counted). c.leaf) same ∙ own

cons-in : (cs : List Precedent) (j : ℕ) (it : Counted) (p : Precedent) → slice_get (map for_cons cs) j ≡ Some it → it.cons ≡ Some p → slice_get cs j ≡ Some p
cons-in cs j it p is own = let (q, here, same) = mapped-at for_cons cs j it is in here ∙ ap (λ (c : Counted). c.cons) same ∙ own

leaf-not : (cs : List Precedent) (j : ℕ) (it : Counted) (p : Precedent) → slice_get (map for_cons cs) j ≡ Some it → it.leaf ≡ Some p → ⊥
leaf-not cs j it p is own =
    let (q, here, same) = mapped-at for_cons cs j it is in
    let wrong : None ≡ Some p = ap (λ (c : Counted). c.leaf) same ∙ own in cc

cons-not : (ls : List Precedent) (j : ℕ) (it : Counted) (p : Precedent) → slice_get (map for_leaf ls) j ≡ Some it → it.cons ≡ Some p → ⊥
cons-not ls j it p is own =
    let (q, here, same) = mapped-at for_leaf ls j it is in
    let wrong : None ≡ Some p = ap (λ (c : Counted). c.cons) same ∙ own in cc

leaf-both : (ls cs : List Precedent) (j : ℕ) (it : Counted) (p : Precedent) → slice_get (for_both ls cs) j ≡ Some it → it.leaf ≡ Some p → slice_get ls j ≡ Some p
leaf-both [] cs j it p is own = absurd (leaf-not cs j it p is own)
leaf-both (l ∷ ls) [] j it p is own = leaf-in (l ∷ ls) j it p is own
leaf-both (l ∷ ls) (c ∷ cs) zero it p is own =
    let same : record { leaf = Some l; cons = Some c } ≡ it = cc in ap (λ (c : Counted). c.leaf) same ∙ own
leaf-both (l ∷ ls) (c ∷ cs) (suc j) it p is own = leaf-both ls cs j it p is own

cons-both : (ls cs : List Precedent) (j : ℕ) (it : Counted) (p : Precedent) → slice_get (for_both ls cs) j ≡ Some it → it.cons ≡ Some p → slice_get cs j ≡ Some p
cons-both [] cs j it p is own = cons-in cs j it p is own
cons-both (l ∷ ls) [] j it p is own = absurd (cons-not (l ∷ ls) j it p is own)
cons-both (l ∷ ls) (c ∷ cs) zero it p is own =
    let same : record { leaf = Some l; cons = Some c } ≡ it = cc in ap (λ (c : Counted). c.cons) same ∙ own
cons-both (l ∷ ls) (c ∷ cs) (suc j) it p is own = cons-both ls cs j it p is own

-- the place in its part of what is counted at a place
abbrev IsPlaced : ℕ → ℕ → List Precedent → Precedent → Type 0
IsPlaced before j ps p = (k : ℕ) × (j ≡ before + k) × (slice_get ps k ≡ Some p)

at-counted : (form : Form) (kind : Bool) (ls cs : List Precedent) (j : ℕ) (it : Counted) (p : Precedent) → slice_get (counted_by form ls cs) j ≡ Some it → read_for kind it ≡ Some p
    → IsPlaced (before_by form kind (length ls) (length cs)) j (list_for kind ls cs) p
at-counted Both true ls cs j it p is own = (j, omega arith, leaf-both ls cs j it p is own)
at-counted Both false ls cs j it p is own = (j, omega arith, cons-both ls cs j it p is own)
at-counted LeafFirst true ls cs j it p is own = elim (get-either (map for_leaf ls) (map for_cons cs) j it is) [
  | inl here ↦ (j, omega arith, leaf-in ls j it p here own)
  | inr (k, at, there) ↦ absurd (leaf-not cs k it p there own)
]
at-counted LeafFirst false ls cs j it p is own = elim (get-either (map for_leaf ls) (map for_cons cs) j it is) [
  | inl here ↦ absurd (cons-not ls j it p here own)
  | inr (k, at, there) ↦ (k, omega (arith, at, length-map ls for_leaf), cons-in cs k it p there own)
]
at-counted ConsFirst true ls cs j it p is own = elim (get-either (map for_cons cs) (map for_leaf ls) j it is) [
  | inl here ↦ absurd (leaf-not cs j it p here own)
  | inr (k, at, there) ↦ (k, omega (arith, at, length-map cs for_cons), leaf-in ls k it p there own)
]
at-counted ConsFirst false ls cs j it p is own = elim (get-either (map for_cons cs) (map for_leaf ls) j it is) [
  | inl here ↦ (j, omega arith, cons-in cs j it p here own)
  | inr (k, at, there) ↦ absurd (cons-not ls k it p there own)
]

-- of a statement
pub counted-place : (s : Statement) (kind : Bool) (j k : ℕ) (p : Precedent) → j ≡ counted_before s kind + k → slice_get (reads_for s kind) k ≡ Some p
    → (it : Counted) × (slice_get (counted_of s) j ≡ Some it) × (read_for kind it ≡ Some p)
unfolding counted_of
counted-place s true j k p at is = counted-at s.form true (reads s.leaf) (reads s.cons) j k p at is
counted-place s false j k p at is = counted-at s.form false (reads s.leaf) (reads s.cons) j k p at is

pub place-counted : (s : Statement) (kind : Bool) (j : ℕ) (it : Counted) (p : Precedent) → slice_get (counted_of s) j ≡ Some it → read_for kind it ≡ Some p
    → (k : ℕ) × (j ≡ counted_before s kind + k) × (slice_get (reads_for s kind) k ≡ Some p)
unfolding counted_of
place-counted s true j it p is own = at-counted s.form true (reads s.leaf) (reads s.cons) j it p is own
place-counted s false j it p is own = at-counted s.form false (reads s.leaf) (reads s.cons) j it p is own
