use Rattle.std.proofs.Common.{refl, ap, ◌∙◌, inl, inr, ℕ, Bool}
use Rattle.cube_fixed.specs.declared.value.Value.{Value}
use Rattle.cell_values.specs.Reading.{value_on}
use Rattle.cell_values.specs.Inside.Growth.{grew-later}
use Rattle.cell_values.proofs.ReadFacts.{no-value, may-count, not-known, not-held, not-worked}
use Rattle.cell_values.proofs.read.value_of.Goals as goal

pub returns-in-Value-clause-value : goal.returns-in-Value-clause-value
unfolding value_on
returns-in-Value-clause-value g c = c.in-Value.ensures.value ∙ ap (λ (values : ℕ → Value). values c.args.cell) c.requires.values

pub returns-in-Some-clause-value : goal.returns-in-Some-clause-value
unfolding value_on
returns-in-Some-clause-value g c = c.in-Some.ensures.value ∙ ap (λ (values : ℕ → Value). values c.args.cell) (c.look.ensures.values ∙ c.requires.values)

pub returns-in-Stored : goal.returns-in-Stored
unfolding value_on
returns-in-Stored g c =
    record {
      value = c.in-Stored.ensures.2;
      values = c.look.ensures.values;
      grew = c.look.ensures.grew;
      known = λ knows. refl;
      held = λ held. refl;
      counted = inl refl;
      plain = λ plain. refl;
      kept = λ worked. absurd (not-worked c.args.version.now c.args.cell c.in-Stored.ensures.0 c.in-Stored.ensures.1 worked);
    }

pub returns-in_ok-value-in_default-origin_of : goal.returns-in_ok-value-in_default-origin_of
unfolding value_on
returns-in_ok-value-in_default-origin_of g c =
    let before = g.M.Memory.known c.args.memory.now in
    let mid = g.M.Memory.known c.look.new.self in
    let reserved = g.M.Memory.known c.reserve.new.memory in
    let worked = g.M.Memory.known c.computed.new.memory in
    let after = g.M.Memory.known c.keep-in_default-origin_of.new.memory in
    let none = no-value c.look.result c.in_default.not-Value in
    let grown = grew-later mid reserved after c.reserve.ensures.grew (grew-later reserved worked after c.computed.ensures.grew c.keep-in_default-origin_of.ensures.grew) in
    record {
      value = c.in_ok-value-in_default-origin_of.ensures.value;
      values = c.keep-in_default-origin_of.ensures.values ∙ c.computed.ensures.values ∙ c.reserve.ensures.values ∙ c.look.ensures.values;
      grew = grew-later before mid after c.look.ensures.grew grown;
      known = λ knows. absurd (not-known before c.args.cell c.look.result c.look.ensures.known none knows);
      held = λ held. absurd (not-held c.recall.result c.in_default-recall.not-Some (c.recall.ensures.holds ∙ ap (λ (holds : ℕ → Bool). holds c.args.cell) c.look.ensures.holds ∙ held));
      counted = inr (may-count before mid after c.args.cell c.look.result c.look.ensures.learned grown none);
      plain = λ plain. c.computed.ensures.plain plain;
      kept = λ worked. c.keep-in_default-origin_of.ensures.kept;
    }
