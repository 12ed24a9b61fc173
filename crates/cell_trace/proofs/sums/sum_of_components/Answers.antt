use Rattle.std.proofs.Common.{◌≡◌, ◌≤◌, ◌+◌, sym, ◌∙◌, ap, arith, ℕ, ℤ, pos, List, take, get_or, w64, to_z, of_z, unsigned_abs, Some}
use Rattle.std.specs.Prelude.{fold}
use Rattle.std.proofs.lemmas.Result.{IfOk-weaker}
use Rattle.std.proofs.lemmas.List.{take_all}
use Rattle.lists.proofs.Found.{none_found}
use Rattle.cell_reader.specs.Snapshots.{version_of}
use Rattle.cell_trace.specs.Inside.Listed.{none_listed, with_part, lines_of}
use Rattle.cell_trace.specs.Trace.{most_parts, part_lines}
use Rattle.cell_trace.proofs.Components.{more-some, more-none, all-components}
use Rattle.cell_trace.proofs.MoreParts.{sum-more, parts-more}
use Rattle.cell_trace.proofs.PartLines.{with_cell, all-lines}
use Rattle.cell_values.specs.Reading.{value_on}
use Rattle.cell_versions.specs.Versions.{NumberedVersion}
use Rattle.cube_fixed.specs.Total.{Total, no_terms, with_term, value_of}
use Rattle.cube_space.specs.Layout.{Layout}
use Rattle.rule_laws.specs.RuleSystem.{weighted_sum}
use Rattle.rule_laws.proofs.SystemFacts.{add_pair}
use Rattle.rule_model.specs.Targets.{component_cells, parts_at, with_components}
use Rattle.sparse_sum.proofs.Placed.{word-is}
use Rattle.cell_trace.proofs.sums.sum_of_components.Goals as goal
use Rattle.cell_trace.proofs.sums.sum_of_components.Goals.{After-summed}

pub loop-part-preserved-in_default : goal.loop-part-preserved-in_default
loop-part-preserved-in_default c =
    let v = version_of c.args.version.now in
    let found = sym c.with_element_at.ensures.value ∙ none_found c.with_element_at.result c.in_default.not-Some in
    let none = more-none c.space-space.result.now c.args.cell c.args.dim c.parts_at-components.result.now c.loop-part.part-index (0, pos 0) c.loop-part-test.true found in
    let so_far = c.loop-part.invariant in
    let few = c.loop-part.invariant.few in
    record {
      same = so_far.same;
      sum = so_far.sum ∙ ap (fold (add_pair (value_on v)) no_terms) (sym none);
      parts = so_far.parts ∙ ap (fold (with_cell (value_on v) most_parts) none_listed) (sym none);
      few = omega (arith, few);
    }

pub loop-part-preserved : goal.loop-part-preserved
loop-part-preserved c =
    let v = version_of c.args.version.now in
    let parts = c.parts_at-components.result.now in
    let i = c.loop-part.part-index in
    let part = get_or parts i (0, pos 0) in
    let x = c.in-Some.component in
    let found = sym c.with_element_at.ensures.value ∙ c.in-Some.is in
    let cells = with_components c.space-space.result.now c.args.cell c.args.dim (take i parts) in
    let all = with_components c.space-space.result.now c.args.cell c.args.dim (take (i + 1) parts) in
    let longer = more-some c.space-space.result.now c.args.cell c.args.dim parts i (0, pos 0) c.loop-part-test.true x found in
    let small : unsigned_abs part.1 ≤ 1000000 = c.parts_at-components.ensures.weights i (0, pos 0) c.loop-part-test.true in
    let weight : to_z w64 (of_z w64 part.1) ≡ part.1 = word-is part.1 (omega (arith, small)) in
    let value = c.in_ok-value.ensures.value ∙ ap (λ (u : NumberedVersion). value_on u x) c.loop-part.invariant.same in
    let few = c.loop-part.invariant.few in
    let terms : c.add.new.self.terms ≡ c.loop-part.sum.terms + 1 = ap (λ (t : Total). t.terms) c.add.ensures in
    record {
      same = c.value_at.ensures.version ∙ c.loop-part.invariant.same;
      sum = sum-more (value_on v) cells all x part.1 c.in_ok-value.value c.loop-part.sum c.add.new.self longer value c.loop-part.invariant.sum
          (c.add.ensures ∙ ap (λ (z : ℤ). with_term c.loop-part.sum z c.in_ok-value.value) weight);
      parts = parts-more (value_on v) most_parts cells all x part.1 c.in_ok-value.value c.loop-part.parts c.push.new.self longer value c.loop-part.invariant.parts
          (c.in_ok-push.ensures ∙ ap (λ (z : ℤ). with_part most_parts c.loop-part.parts (record { cell = x; weight = z; value = c.in_ok-value.value })) weight);
      few = omega (arith, few, terms);
    }

-- all parts are passed
passed : (c : After-summed) → with_components c.space-space.result.now c.args.cell c.args.dim (take c.loop-part.part-index c.parts_at-components.result.now)
    ≡ with_components (version_of c.args.version.now).model.space c.args.cell c.args.dim (parts_at (version_of c.args.version.now).model.space c.args.cell c.args.dim)
passed c =
    let all = take_all c.loop-part.part-index c.parts_at-components.result.now c.loop-part-test.false in
    let space : c.space-space.result.now ≡ (version_of c.args.version.now).model.space = c.space-space.ensures.space ∙ ap (λ m. m.space) c.model.ensures.model in
    ap (with_components c.space-space.result.now c.args.cell c.args.dim) (all ∙ c.parts_at-components.ensures.parts)
    ∙ ap (λ (s : Layout). with_components s c.args.cell c.args.dim (parts_at s c.args.cell c.args.dim)) space

pub returns-clause-value : goal.returns-clause-value
returns-clause-value c =
    let v = version_of c.args.version.now in
    IfOk-weaker c.summed.result (λ sum. sum.value ≡ c.value.result)
    (λ sum. (cells : List (ℕ × ℤ)) → component_cells v.model.space c.args.cell c.args.dim ≡ Some cells → sum.value ≡ weighted_sum (value_on v) cells)
    (λ sum is cells some. is ∙ c.value.ensures ∙ ap value_of c.loop-part.invariant.sum
    ∙ ap (weighted_sum (value_on v)) (passed (goal.at.returns-clause-value c).After-summed ∙ all-components v.model.space c.args.cell c.args.dim cells some))
    c.summed.ensures.value

pub returns-clause-lines : goal.returns-clause-lines
returns-clause-lines c =
    let v = version_of c.args.version.now in
    IfOk-weaker c.summed.result (λ sum. sum.lines.items ≡ lines_of c.loop-part.parts)
    (λ sum. (cells : List (ℕ × ℤ)) → component_cells v.model.space c.args.cell c.args.dim ≡ Some cells → sum.lines.items ≡ part_lines (value_on v) cells)
    (λ sum is cells some. is ∙ ap lines_of c.loop-part.invariant.parts
    ∙ ap (λ (pairs : List (ℕ × ℤ)). lines_of (fold (with_cell (value_on v) most_parts) none_listed pairs)) (passed (goal.at.returns-clause-lines c).After-summed ∙ all-components v.model.space c.args.cell c.args.dim cells some)
    ∙ all-lines (value_on v) cells)
    c.summed.ensures.lines
