-- Which part of a statement isn't reached, and the notes of it.
use Rattle.std.proofs.Common.{◌≡◌, refl, sym, ap, ◌∙◌, arith, subst, ℕ, zero, suc, ◌+◌, Bool, true, false, Option, Some, None, [], ◌∷◌, Contains, cond}
use Rattle.std.specs.Prelude.{slice_get, is_some}
use Rattle.std.specs.Option.{option_map_or}
use Rattle.std.proofs.lemmas.Bool.{and_parts, and_from}
use Rattle.rule_model.specs.declared.area.Area.{Area}
use Rattle.rule_model.specs.declared.rules.Statement.{Statement}
use Rattle.rule_model.specs.BoundModel.{BoundModel, rules_of}
use Rattle.rule_model.specs.Conditions.{IsArea}
use Rattle.rule_model.specs.Inside.Parts.{part_of_kind}
use Rattle.rule_notes.specs.declared.note.Note.{Note}
use Rattle.rule_notes.specs.declared.note.Note.TheVariants.{NotReached}
use Rattle.rule_notes.specs.Reached.{is_final, Takes}
use Rattle.rule_notes.specs.Inside.Areas.{has_area}
use Rattle.rule_notes.specs.Inside.Reached.{takes_all, takes, first_taker, taken_notes, reach_notes}
use Rattle.rule_notes.proofs.AreaFacts.{has-area, area-has}

module _ (m : BoundModel) (cube : ℕ) (kind : Bool) (area : Area) where
  pub takes-tells : (place : ℕ) → takes m cube kind area place ≡ true → Takes m cube kind area place
  takes-tells place is = by (slice_get (rules_of m cube).statements place) refl is
    where
      by : (at : Option Statement) → slice_get (rules_of m cube).statements place ≡ at → option_map_or (takes_all m cube kind area) at false ≡ true → Takes m cube kind area place
      by None here is = absurd (cc)
      by (Some s) here is =
          let parts = and_parts (is_final (part_of_kind s kind)) (has_area m.space cube s.area area) is in
          record { by = s; here = here; final = parts.0; has = has-area m.space cube s.area area parts.1 }

  pub tells-takes : (place : ℕ) → IsArea m.space cube area → Takes m cube kind area place → takes m cube kind area place ≡ true
  tells-takes place is_area is =
      ap (λ at. option_map_or (takes_all m cube kind area) at false) is.here
      ∙ and_from (is_final (part_of_kind is.by kind)) (has_area m.space cube is.by.area area) is.final (area-has m.space cube is.by.area area is_area is.has)

  pub not-takes : (place : ℕ) → IsArea m.space cube area → (Takes m cube kind area place → ⊥) → takes m cube kind area place ≡ false
  not-takes place is_area not = by (takes m cube kind area place) refl
    where
      by : (t : Bool) → takes m cube kind area place ≡ t → t ≡ false
      by true is = absurd (not (takes-tells place is))
      by false is = refl

-- the one item of a list
pub only-item : {X : Type 0} (x y : X) → Contains (x ∷ []) y → x ≡ y
only-item x y (zero, low, is) = is
only-item x y (suc k, low, is) = absurd (omega (arith, low))

-- what a note of a part that isn't reached tells
pub record IsReachNote (m : BoundModel) (cube place : ℕ) (s : Statement) (kind : Bool) (note : Note) : Type 0 where
  pub part : is_some (part_of_kind s kind) ≡ true
  pub taker : ℕ
  pub found : first_taker m cube kind s.area place ≡ Some taker
  pub is : note ≡ NotReached cube (place + 1) kind (taker + 1)

pub in-reach : (m : BoundModel) (cube place : ℕ) (s : Statement) (kind : Bool) (note : Note) → Contains (reach_notes m cube place s kind) note → IsReachNote m cube place s kind note
in-reach m cube place s kind note has = by (is_some (part_of_kind s kind)) (first_taker m cube kind s.area place) refl refl has
  where
    by : (part : Bool) (taker : Option ℕ) → is_some (part_of_kind s kind) ≡ part → first_taker m cube kind s.area place ≡ taker
        → Contains (cond part (taken_notes cube place kind taker) []) note → IsReachNote m cube place s kind note
    by false taker there found has = absurd (omega (arith, has.1))
    by true None there found has = absurd (omega (arith, has.1))
    by true (Some taker) there found has = record { part = there; taker = taker; found = found; is = sym (only-item (NotReached cube (place + 1) kind (taker + 1)) note has) }

pub reach-in : (m : BoundModel) (cube place : ℕ) (s : Statement) (kind : Bool) (note : Note) → IsReachNote m cube place s kind note → Contains (reach_notes m cube place s kind) note
reach-in m cube place s kind note is =
    subst (λ l. Contains l note) (sym (ap (λ b. cond b (taken_notes cube place kind (first_taker m cube kind s.area place)) []) is.part ∙ ap (taken_notes cube place kind) is.found))
    (0, omega arith, sym is.is)
