-- The numbers of an element.
use Rattle.std.proofs.Common.{◌≡◌, ap, ◌∙◌, ℕ, Bool, ℤ, pos, Option, Some}
use Rattle.std.specs.Prelude.{neg_ℤ}
use Rattle.cube_space.specs.Layout.{axes}
use Rattle.rule_laws.specs.declared.reference.Reference.{Reference}
use Rattle.rule_laws.specs.Meaning.{Named}
use Rattle.rule_model.specs.BoundModel.{BoundModel}
use Rattle.order_laws.specs.Greatest.{plus, only}
use Rattle.order_laws.specs.Scales.{scale_of, moved_sum}
use Rattle.order_laws.specs.Earlier.{Kinds, is_same, moved_leaves, number_by_kinds}
use Rattle.ref_order.specs.declared.kinds.Numbers.{Numbers}
use Rattle.ref_order.specs.Kinds.{AreNumbers}
use Rattle.ref_order.proofs.KindFacts.{numbers-same}

pub named-is : (m : BoundModel) (cube place i e : ℕ) (kinds : Kinds) (r : Reference) (numbers : Numbers) (leaves : Bool) (sum number below : Option ℤ) (worth : ℕ) → AreNumbers numbers (λ kind. only (is_same kind leaves) number)
    → leaves ≡ moved_leaves (axes m.space r.cube) 0 r.args i e → sum ≡ moved_sum (scale_of m r.cube kinds.its place).worth 0 r.args i e → number ≡ plus sum below → below ≡ Some (neg_ℤ (pos worth)) → worth ≡ (scale_of m cube kinds.own place).worth i e
    → AreNumbers numbers (number_by_kinds m cube kinds place (Named r) i e)
named-is m cube place i e kinds r numbers leaves sum number below worth are l s n b w =
    let moved = moved_sum (scale_of m r.cube kinds.its place).worth 0 r.args i e in
    let whole = n ∙ ap (λ (x : Option ℤ). plus x below) s ∙ ap (plus moved) (b ∙ ap (λ (k : ℕ). Some (neg_ℤ (pos k))) w) in
    numbers-same numbers (λ kind. only (is_same kind leaves) number) (number_by_kinds m cube kinds place (Named r) i e) are
    (λ leaf. ap (λ (x : Bool). only (is_same leaf x) number) l ∙ ap (only (is_same leaf (moved_leaves (axes m.space r.cube) 0 r.args i e))) whole)
