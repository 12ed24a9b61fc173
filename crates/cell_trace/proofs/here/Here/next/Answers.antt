use Rattle.std.proofs.Common.{◌≡◌, ◌<◌, sym, ap, ◌∙◌, subst, length, get_or}
use Rattle.cube_space.proofs.Places.{is_place-parts}
use Rattle.cell_reader.specs.Snapshots.{version_of}
use Rattle.rule_model.specs.BoundModel.{rules_of}
use Rattle.rule_model.specs.Conditions.{AreRules}
use Rattle.cell_trace.specs.declared.next.Next.{Next}
use Rattle.cell_trace.specs.Inside.Chain.{IsNext}
use Rattle.cell_trace.specs.Inside.Place.{Place}
use Rattle.cell_trace.specs.Trace.{first_number}
use Rattle.cell_trace.proofs.NextFacts.{few_read, is_part}
use Rattle.cell_trace.proofs.here.Here.next.Goals as goal

pub first_number-first-requires : goal.first_number-first-requires
first_number-first-requires c =
    let there = (is_place-parts (version_of c.self.inside.version.now).model.space c.self.inside.cube c.self.inside.elements.now c.self.invariant.placed).there in
    let m = c.model-model.result.now in
    let within : c.self.inside.cube < length m.space.cubes = rw c.model-model.ensures.model there in
    let here = c.index-as_slice-place.is ∙ ap (λ xs. get_or xs c.in-Some.place c.index-as_slice-place.result) (c.as_slice.ensures ∙ ap (λ rules. rules.statements) c.rules.ensures) in
    few_read m c.space-space.ensures.rules c.self.inside.cube within c.in-Some.place c.index-as_slice-place.result c.in-Some.ensures.within here

pub returns-in-Some-part_of : goal.returns-in-Some-part_of
returns-in-Some-part_of c =
    let version = version_of c.self.inside.version.now in
    let cell = c.self.inside.cell in
    let p : Place = record { version = version; cell = cell } in
    let next : Next = record { place = c.in-Some.place; first = c.first_number-first.result; formula = c.in-Some-part_of.formula } in
    let same = c.model-model.ensures.model in
    let of = c.self.invariant in
    let st = c.index-as_slice-place.result in
    let governs = (rw same at c.in-Some.ensures.value) cell of.own_cube of.own_elements of.own_kind in
    let formula = (rw same at c.in-Some-part_of.ensures.value) cell c.args.from of.own_cube of.own_kind (sym governs) in
    let rules : AreRules version.model.space version.model.rules = rw same at c.space-space.ensures.rules in
    let there = (is_place-parts version.model.space c.self.inside.cube c.self.inside.elements.now of.placed).there in
    let within = rw same at c.in-Some.ensures.within in
    let here = c.index-as_slice-place.is ∙ ap (λ xs. get_or xs c.in-Some.place st) (c.as_slice.ensures ∙ ap (λ rules. rules.statements) (c.rules.ensures ∙ ap (λ m. rules_of m c.self.inside.cube) same)) in
    let first = c.first_number-first.ensures ∙ ap (λ leaf. first_number leaf st) (sym of.own_kind) in
    subst (λ q. IsNext q c.args.from next) c.self.view_is
    (record {
      governs = sym governs;
      part =
          is_part p rules (subst (λ k. k < length version.model.space.cubes) (sym of.own_cube) there) next st (sym formula)
          (subst (λ k. c.in-Some.place < length (rules_of version.model k).statements) (sym of.own_cube) within)
          (subst (λ k. st ≡ get_or (rules_of version.model k).statements c.in-Some.place st) (sym of.own_cube) here) first;
    })
