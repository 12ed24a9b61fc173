-- An operand that is a reference is one that its formula reads.
use Rattle.std.proofs.Common.{◌≡◌, ◌∙◌, ap, refl, subst, sym, arith, inl, inr, ℕ, zero, suc, ◌-◌, List, [], ◌∷◌, ◌++◌, All, map, OnOk, Option, Some, None, Result, Ok, Err}
use Rattle.std.specs.List.{Contains}
use Rattle.std.specs.Prelude.{IfSome, option_and_then, slice_get, slice_index_or}
use Rattle.std.proofs.lemmas.List.Elements.{Contains-push, Contains-append_left, Contains-append_right, Contains-append_cases}
use Rattle.rule_laws.specs.declared.formula.Formula.{Formula}
use Rattle.rule_laws.specs.declared.formula.Formula.TheOpen.{Formula-F, Truth-F}
use Rattle.rule_laws.specs.declared.reference.Reference.{Reference}
use Rattle.rule_laws.specs.Meaning.{Precedent, Named, Components, precedents, precedents_step, truth_precedents_step}
use Rattle.rule_laws.proofs.FindingFacts.{Contains-push_only}
use Rattle.rule_laws.proofs.Folds.{Layers, TruthLayers, by_layers}
use Rattle.cube_space.specs.Layout.{Layout}
use Rattle.rule_model.specs.Conditions.{IsLeafPart, IsPrecedent, IsReference, IsStatement}
use Rattle.rule_model.specs.declared.rules.Statement.{Statement}
use Rattle.operand_cover.specs.Operands.{operand_at, operands, operands_step, truth_operands_step}

abbrev AreNamed : List Precedent → List (Option Reference) → List (Option Reference) → Type 0
AreNamed ps os _ = (r : Reference) → Contains os (Some r) → Contains ps (Named r)

none : (ps : List Precedent) → AreNamed ps [] []
none ps r has = absurd (omega (arith, has.1))

other : (ps : List Precedent) → AreNamed ps (None ∷ []) (None ∷ [])
other ps r has = let is : None ≡ Some r = Contains-push_only None (Some r) has in cc is

both : (ps qs : List Precedent) (os more x y : List (Option Reference)) → AreNamed ps os x → AreNamed qs more y → AreNamed (ps ++ qs) (os ++ more) (x ++ y)
both ps qs os more x y left right r has = elim (Contains-append_cases os more (Some r) has) [
  | inl here ↦ Contains-append_left ps qs (Named r) (left r here)
  | inr there ↦ Contains-append_right ps qs (Named r) (right r there)
]

named : Layers precedents_step truth_precedents_step operands_step truth_operands_step operands_step truth_operands_step AreNamed AreNamed
named (Formula-F.Number k) = other []
named Formula-F.Stet = other []
named Formula-F.Continue = none []
named (Formula-F.Children dim) = other (Components dim ∷ [])
named (Formula-F.Ref r) = λ s has. let is : Some r ≡ Some s = Contains-push_only (Some r) (Some s) has in let same : r ≡ s = cc is in subst (λ x. Contains (Named r ∷ []) (Named x)) same (Contains-push [] (Named r))
named (Formula-F.Table dim table) = other []
named (Formula-F.Binary op a b) = both a.x b.x a.y b.y a.z b.z a.holds b.holds
named (Formula-F.Unary function a) = a.holds
named (Formula-F.If t a b) = both (t.x ++ a.x) b.x (t.y ++ a.y) b.y (t.z ++ a.z) b.z (both t.x a.x t.y a.y t.z a.z t.holds a.holds) b.holds

named_truth : TruthLayers precedents_step truth_precedents_step operands_step truth_operands_step operands_step truth_operands_step AreNamed AreNamed
named_truth (Truth-F.Compare rel a b) = both a.x b.x a.y b.y a.z b.z a.holds b.holds
named_truth (Truth-F.And a b) = both a.x b.x a.y b.y a.z b.z a.holds b.holds
named_truth (Truth-F.Or a b) = both a.x b.x a.y b.y a.z b.z a.holds b.holds
named_truth (Truth-F.Not a) = a.holds

pub are-named : (f : Formula) (r : Reference) → Contains (operands f) (Some r) → Contains (precedents f) (Named r)
are-named = by_layers precedents_step truth_precedents_step operands_step truth_operands_step operands_step truth_operands_step AreNamed AreNamed named named_truth

contained : {A : Type 0} (xs : List A) (k : ℕ) (x : A) → slice_get xs k ≡ Some x → Contains xs x
contained [] k x is = cc is
contained (y ∷ xs) zero x is = let same : y ≡ x = cc is in (zero, omega arith, same)
contained (y ∷ xs) (suc k) x is = let it = contained xs k x is in (suc it.0, omega (arith, it.1), it.2)

pub at-place : {A : Type 0} (P : A → Type 0) (xs : List A) (k : ℕ) (x : A) → All P xs → slice_get xs k ≡ Some x → P x
at-place P xs k x all is = let c = contained xs k x is in subst P c.2 (all c.0 x c.1)

-- the operand of a number that is a reference
pub one-named : (f : Formula) (operand : ℕ) (r : Reference) → operand_at (Some f) operand ≡ Some r → Contains (precedents f) (Named r)
one-named f operand r is = by (slice_get (operands f) (operand - 1)) refl is where
  by : (found : Option (Option Reference)) → slice_get (operands f) (operand - 1) ≡ found → option_and_then (λ known. known) found ≡ Some r → Contains (precedents f) (Named r)
  by None at some = cc some
  by (Some None) at some = cc some
  by (Some (Some s)) at some =
      let same : s ≡ r = cc some in
      are-named f r (contained (operands f) (operand - 1) (Some r) (at ∙ ap (λ x. Some (Some x)) same))

-- and so it is a reference from the statement's cube
pub valid : (space : Layout) (cube : ℕ) (s : Statement) → IsStatement space cube s → (operand : ℕ) (r : Reference) → operand_at s.leaf operand ≡ Some r → IsReference space cube r
valid space cube s is operand r at = by s.leaf at is.leaf where
  by : (leaf : Option Formula) → operand_at leaf operand ≡ Some r → IfSome leaf (IsLeafPart space cube) → IsReference space cube r
  by None none part = cc none
  by (Some f) some part = let c = one-named f operand r some in subst (IsPrecedent space cube) c.2 (part.0 c.0 (Named r) c.1)

-- what stands at a place of a list, seen in another way
pub mapped-at : {A B : Type 0} (view : A → B) (xs : List A) (k : ℕ) (x : A) (other : B) → slice_get xs k ≡ Some x → slice_index_or (map view xs) k other ≡ view x
mapped-at view [] k x other is = cc is
mapped-at view (y ∷ xs) zero x other is = let same : y ≡ x = cc is in ap view same
mapped-at view (y ∷ xs) (suc k) x other is = mapped-at view xs k x other is

-- what follows where memory lasted
pub on-ok : {A E P Q : Type 0} (r : Result A E) → (P → Q) → OnOk r P → OnOk r Q
on-ok (Ok x) step p = step p
on-ok (Err e) step p = tt
