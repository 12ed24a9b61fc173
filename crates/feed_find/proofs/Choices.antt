-- What is chosen of a formula is chosen of its parts.
use Rattle.std.proofs.Common.{◌≡◌, refl, ap, sym, subst, Bool, true, false, not, ◌&&◌, Option, Some, None, List, [], ◌++◌, All, if◌then◌else◌}
use Rattle.std.specs.Prelude.{is_some}
use Rattle.std.proofs.lemmas.List.Elements.{All-append, All-nil}
use Rattle.rule_laws.specs.declared.operation.Op.{Op}
use Rattle.rule_laws.specs.declared.operation.Op.TheVariants.{Add, Sub, Mul, DivSafe, Div, Max, Min, Mod, RoundTo}
use Rattle.rule_laws.specs.declared.operation.Rel.{Rel}
use Rattle.rule_laws.specs.ZeroTest.{is_sure_number}
use Rattle.feed_find.specs.declared.chosen.Chosen.{Chosen}
use Rattle.feed_find.specs.declared.need.Need.{Need}
use Rattle.feed_find.specs.declared.need.TruthNeed.{TruthNeed}
use Rattle.feed_find.specs.Choosing.{unless, chosen_side, chosen_factor, of_binary, is_surely, chosen_truth, of_both, of_either, of_compare, chosen_taken, chosen_branch, of_if}

module _ (P : Chosen → Type 0) where
  unless-all : (already : Bool) (xs : List Chosen) → All P xs → All P (unless already xs)
  unless-all true xs all = All-nil P
  unless-all false xs all = all

  either-all : (b : Bool) (xs ys : List Chosen) → All P xs → All P ys → All P (if b then xs else ys)
  either-all true xs ys one other = one
  either-all false xs ys one other = other

  side-all : (op : Op) (a b : Need) → All P a.chosen → All P b.chosen → All P (chosen_side op a b)
  side-all Add a b left right = All-append P a.chosen b.chosen left right
  side-all Sub a b left right = All-append P a.chosen b.chosen left right
  side-all Max a b left right = All-append P a.chosen b.chosen left right
  side-all Min a b left right = All-append P a.chosen b.chosen left right
  side-all Mul a b left right = either-all (not a.by_all.is_zero && b.by_all.is_zero) b.chosen a.chosen right left
  side-all DivSafe a b left right = either-all (not a.by_all.is_zero && b.by_all.is_zero) b.chosen a.chosen right left
  side-all Div a b left right = left
  side-all Mod a b left right = left
  side-all RoundTo a b left right = either-all (is_sure_number b.by_written) a.chosen (a.chosen ++ b.chosen) left (All-append P a.chosen b.chosen left right)

  pub binary-all : (op : Op) (a b : Need) → All P a.chosen → All P b.chosen → All P (of_binary op a b).chosen
  binary-all op a b left right = unless-all (of_binary op a b).by_written.is_zero (chosen_side op a b) (side-all op a b left right)

  truth-all : (deciding : Bool) (a b : TruthNeed) → All P a.chosen → All P b.chosen → All P (chosen_truth deciding a b)
  truth-all deciding a b left right =
      either-all (is_surely deciding a.by_all.sure) a.chosen (if is_surely deciding b.by_all.sure then b.chosen else a.chosen ++ b.chosen) left
      (either-all (is_surely deciding b.by_all.sure) b.chosen (a.chosen ++ b.chosen) right (All-append P a.chosen b.chosen left right))

  pub both-all : (a b : TruthNeed) → All P a.chosen → All P b.chosen → All P (of_both a b).chosen
  both-all a b left right = unless-all (is_some (of_both a b).by_written.sure) (chosen_truth false a b) (truth-all false a b left right)

  pub or-all : (a b : TruthNeed) → All P a.chosen → All P b.chosen → All P (of_either a b).chosen
  or-all a b left right = unless-all (is_some (of_either a b).by_written.sure) (chosen_truth true a b) (truth-all true a b left right)

  pub compare-all : (rel : Rel) (a b : Need) → All P a.chosen → All P b.chosen → All P (of_compare rel a b).chosen
  compare-all rel a b left right = All-append P a.chosen b.chosen left right

  taken-all : (sure : Option Bool) (truth a b : List Chosen) → All P truth → All P a → All P b → All P (chosen_taken sure truth a b)
  taken-all (Some true) truth a b by left right = All-append P truth a by left
  taken-all (Some false) truth a b by left right = All-append P truth b by right
  taken-all None truth a b by left right = All-append P a b left right

  pub if-all : (truth : TruthNeed) (a b : Need) → All P truth.chosen → All P a.chosen → All P b.chosen → All P (of_if truth a b).chosen
  if-all truth a b by left right =
      unless-all (of_if truth a b).by_written.is_zero (chosen_branch truth a b)
      (either-all (not (is_some truth.by_written.sure) && (a.by_all.is_zero && b.by_all.is_zero)) (a.chosen ++ b.chosen) (chosen_taken truth.by_all.sure truth.chosen a.chosen b.chosen)
      (All-append P a.chosen b.chosen left right) (taken-all truth.by_all.sure truth.chosen a.chosen b.chosen by left right))
