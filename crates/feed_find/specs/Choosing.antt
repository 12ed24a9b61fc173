-- For which references of a formula feeders are found: one fold over the formula, like the zero test.
use Rattle.std.specs.Prelude.{ℕ, ◌+◌, Bool, true, false, not, ◌&&◌, if◌then◌else◌, is_some}
use Rattle.std.specs.Prelude.{Option, Some, None, List, [], ◌∷◌, ◌++◌}
use Rattle.std.specs.Option.{option_map_or}
use Rattle.rule_laws.specs.declared.finding.Finding.{Finding}
use Rattle.rule_laws.specs.declared.operation.Op.{Op}
use Rattle.rule_laws.specs.declared.operation.Op.TheVariants.{Add, Sub, Mul, DivSafe, Div, Max, Min, Mod, RoundTo}
use Rattle.rule_laws.specs.declared.operation.Fun.{Fun}
use Rattle.rule_laws.specs.declared.operation.Rel.{Rel}
use Rattle.rule_laws.specs.declared.reference.Reference.{Reference}
use Rattle.rule_laws.specs.declared.formula.Formula.{Formula}
use Rattle.rule_laws.specs.declared.formula.Truth.{Truth}
use Rattle.rule_laws.specs.declared.formula.Formula.TheFolds.{fold-Formula, fold-Truth}
use Rattle.rule_laws.specs.declared.formula.Formula.TheOpen.{Formula-F, Truth-F}
use Rattle.rule_laws.specs.ZeroTest.{of_number, of_operand, of_table, of_continue, of_operation, of_function}
use Rattle.rule_laws.specs.ZeroTest.{of_choice, is_sure_number, sure_and, sure_or, truth_finding_step}
use Rattle.rule_model.specs.declared.area.Area.{Area}
use Rattle.rule_model.specs.declared.rules.Feeder.{Feeder}
use Rattle.rule_model.specs.BoundModel.{BoundModel}
use Rattle.cover_laws.specs.Covered.{names_no_governed, is_covered}
use Rattle.feed_turn.specs.Turning.{turned_feeder}
use Rattle.feed_find.specs.declared.choice.Choice.{Choice}
use Rattle.feed_find.specs.declared.choice.Choice.TheVariants as choices
use Rattle.feed_find.specs.declared.chosen.Chosen.{Chosen}
use Rattle.feed_find.specs.declared.chosen.Chosen.TheVariants.{Found, Unturned}
use Rattle.feed_find.specs.declared.chosen.FoundFeeder.{FoundFeeder}
use Rattle.feed_find.specs.declared.need.Need.{Need}
use Rattle.feed_find.specs.declared.need.TruthNeed.{TruthNeed}

-- ---- a reference

-- the feeder that a reference of a statement of a cube with this area has when it is turned round. One that may name a
-- consolidated cell which a statement governs has none, since no feeder covers it
abbrev pub own_feeder : BoundModel → ℕ → Area → Reference → Option Feeder
own_feeder m cube area r =
    if names_no_governed m cube area r
    then turned_feeder (record { space = m.space; cube = cube; area = area; reference = r }) 0 else None

-- a feeder of the model covers it, or its own would, or none
unfoldable pub choice : BoundModel → ℕ → Area → Reference → Choice
choice m cube area r =
    if is_covered m cube area r then choices.Covered
    else option_map_or choices.Turned (own_feeder m cube area r) choices.Missing

-- ---- a formula: what the zero test finds of it by the feeders of the model, and with the own feeders of all its
-- references beside them; how many references are counted up to its end; and those that are chosen to make it 0

-- a part that has no reference, behind so many
abbrev pub plain : ℕ → Finding → Need
plain n finding = record { by_written = finding; by_all = finding; behind = n; chosen = [] }

-- a reference that is chosen, and whether it can be covered
abbrev pub picked : ℕ → Bool → Chosen → Need
picked n can chosen = record {
  by_written = of_operand false;
  by_all = of_operand can;
  behind = n + 1;
  chosen = chosen ∷ [];
}

abbrev pub of_reference : ℕ → Reference → Choice → Need
of_reference n r choices.Covered = plain (n + 1) (of_operand true)
of_reference n r (choices.Turned feeder) = picked n true (Found (record { cube = r.cube; feeder = feeder }))
of_reference n r choices.Missing = picked n false (Unturned (n + 1))

-- what is 0 already needs nothing
abbrev pub unless : Bool → List Chosen → List Chosen
unless true chosen = []
unless false chosen = chosen

-- of a product the first factor that can be made 0, else the left one
abbrev pub chosen_factor : Need → Need → List Chosen
chosen_factor a b = if not a.by_all.is_zero && b.by_all.is_zero then b.chosen else a.chosen

-- of a sum both sides, of a division the left one; of a rounding that too, and the right one where it may be Over
abbrev pub chosen_side : Op → Need → Need → List Chosen
chosen_side Add a b = a.chosen ++ b.chosen
chosen_side Sub a b = a.chosen ++ b.chosen
chosen_side Max a b = a.chosen ++ b.chosen
chosen_side Min a b = a.chosen ++ b.chosen
chosen_side Mul a b = chosen_factor a b
chosen_side DivSafe a b = chosen_factor a b
chosen_side Div a b = a.chosen
chosen_side Mod a b = a.chosen
chosen_side RoundTo a b = if is_sure_number b.by_written then a.chosen else a.chosen ++ b.chosen

abbrev pub of_binary : Op → Need → Need → Need
of_binary op a b = record {
  by_written = of_operation op a.by_written b.by_written;
  by_all = of_operation op a.by_all b.by_all;
  behind = b.behind;
  chosen = unless (of_operation op a.by_written b.by_written).is_zero (chosen_side op a b);
}

abbrev pub of_unary : Fun → Need → Need
of_unary function a = record {
  by_written = of_function function a.by_written;
  by_all = of_function function a.by_all;
  behind = a.behind;
  chosen = a.chosen;
}

-- ---- a condition: what is chosen makes it sure

-- whether a truth is sure, and is this one
abbrev pub is_surely : Bool → Option Bool → Bool
is_surely truth None = false
is_surely truth (Some true) = truth
is_surely truth (Some false) = not truth

abbrev pub of_compare : Rel → Need → Need → TruthNeed
of_compare rel a b = record {
  by_written = truth_finding_step (Truth-F.Compare rel a.by_written b.by_written);
  by_all = truth_finding_step (Truth-F.Compare rel a.by_all b.by_all);
  behind = b.behind;
  chosen = a.chosen ++ b.chosen;
}

-- of two conditions the first that can surely be what decides for both, else both
abbrev pub chosen_truth : Bool → TruthNeed → TruthNeed → List Chosen
chosen_truth deciding a b =
    if is_surely deciding a.by_all.sure then a.chosen
    else if is_surely deciding b.by_all.sure then b.chosen
    else a.chosen ++ b.chosen

abbrev pub of_both : TruthNeed → TruthNeed → TruthNeed
of_both a b = record {
  by_written = truth_finding_step (Truth-F.And a.by_written b.by_written);
  by_all = truth_finding_step (Truth-F.And a.by_all b.by_all);
  behind = b.behind;
  chosen = unless (is_some (sure_and a.by_written.sure b.by_written.sure)) (chosen_truth false a b);
}

abbrev pub of_either : TruthNeed → TruthNeed → TruthNeed
of_either a b = record {
  by_written = truth_finding_step (Truth-F.Or a.by_written b.by_written);
  by_all = truth_finding_step (Truth-F.Or a.by_all b.by_all);
  behind = b.behind;
  chosen = unless (is_some (sure_or a.by_written.sure b.by_written.sure)) (chosen_truth true a b);
}

abbrev pub of_opposite : TruthNeed → TruthNeed
of_opposite a = record {
  by_written = truth_finding_step (Truth-F.Not a.by_written);
  by_all = truth_finding_step (Truth-F.Not a.by_all);
  behind = a.behind;
  chosen = a.chosen;
}

-- of an IF the branch that is surely taken, with what makes that sure; both branches where nothing does
abbrev pub chosen_taken : Option Bool → List Chosen → List Chosen → List Chosen → List Chosen
chosen_taken (Some true) truth a b = truth ++ a
chosen_taken (Some false) truth a b = truth ++ b
chosen_taken None truth a b = a ++ b

-- where it isn't sure yet which one is taken, both branches come first, if both can be made 0
abbrev pub chosen_branch : TruthNeed → Need → Need → List Chosen
chosen_branch truth a b =
    if not (is_some truth.by_written.sure) && (a.by_all.is_zero && b.by_all.is_zero)
    then a.chosen ++ b.chosen else chosen_taken truth.by_all.sure truth.chosen a.chosen b.chosen

abbrev pub of_if : TruthNeed → Need → Need → Need
of_if truth a b = record {
  by_written = of_choice truth.by_written a.by_written b.by_written;
  by_all = of_choice truth.by_all a.by_all b.by_all;
  behind = b.behind;
  chosen = unless (of_choice truth.by_written a.by_written b.by_written).is_zero (chosen_branch truth a b);
}

-- ---- the fold: what is needed of a formula behind so many references

abbrev pub need_step : (Reference → Choice) → Formula-F (ℕ → Need) (ℕ → TruthNeed) → ℕ → Need
need_step choose (Formula-F.Number k) n = plain n (of_number k)
need_step choose Formula-F.Stet n = plain n (of_operand true)
need_step choose Formula-F.Continue n = plain n of_continue
need_step choose (Formula-F.Children dim) n = plain (n + 1) (of_operand false)
need_step choose (Formula-F.Ref r) n = of_reference n r (choose r)
need_step choose (Formula-F.Table dim table) n = plain n of_table
need_step choose (Formula-F.Binary op a b) n = of_binary op (a n) (b (a n).behind)
need_step choose (Formula-F.Unary function a) n = of_unary function (a n)
need_step choose (Formula-F.If truth a b) n =
    of_if (truth n) (a (truth n).behind) (b (a (truth n).behind).behind)

abbrev pub truth_need_step : Truth-F (ℕ → Need) (ℕ → TruthNeed) → ℕ → TruthNeed
truth_need_step (Truth-F.Compare rel a b) n = of_compare rel (a n) (b (a n).behind)
truth_need_step (Truth-F.And a b) n = of_both (a n) (b (a n).behind)
truth_need_step (Truth-F.Or a b) n = of_either (a n) (b (a n).behind)
truth_need_step (Truth-F.Not a) n = of_opposite (a n)

abbrev pub need : (Reference → Choice) → Formula → ℕ → Need
need choose = fold-Formula (ℕ → Need) (ℕ → TruthNeed) (need_step choose) truth_need_step

abbrev pub truth_need : (Reference → Choice) → Truth → ℕ → TruthNeed
truth_need choose = fold-Truth (ℕ → Need) (ℕ → TruthNeed) (need_step choose) truth_need_step
