-- The bytes of a user's text have one answer.
use Rattle.std.proofs.Common.{◌≡◌, ◌≢◌, ℕ, List, refl, ap}
use Rattle.grammar.specs.Whole.{HasOneAnswer}
use Rattle.grammar.proofs.Cuts.{token_cuts}
use Rattle.grammar.proofs.OneAnswer.{has_one_answer}
use Rattle.user_text.specs.Counting.{count, counting, counted_from}
use Rattle.user_text.specs.UserText.{user}
use Rattle.user_text.specs.declared.command.UserCommand.{UserCommand}
use Rattle.user_text.specs.declared.fault.TooMany.{TooMany}
use Rattle.user_text.specs.declared.fault.UserFault.{UserFault}
use Rattle.user_text.specs.declared.fault.UserFault.TheVariants as faults
use Rattle.text_laws.specs.UserAnswers.{AreCommands, IsUserFault, OneUserAnswer}
use Rattle.user_text.proofs.Settled.{user_settles}
use Rattle.user_text.proofs.UserExact.{user_exact}

pub user_has_one_answer : (before : ℕ) → HasOneAnswer user counting (counted_from before)
user_has_one_answer before = has_one_answer user counting (counted_from before) (token_cuts count) user_exact refl user_settles

module _ (bytes : List ℕ) (before : ℕ) where
  one : HasOneAnswer user counting (counted_from before)
  one = user_has_one_answer before

  pub one_user_fault : (e f : UserFault) → e ≢ faults.Memory → f ≢ faults.Memory → IsUserFault bytes before e → IsUserFault bytes before f → e ≡ f
  one_user_fault (faults.Syntax k) (faults.Syntax l) some other h g = ap (λ place. faults.Syntax place) (one.one_place bytes k l h g)
  one_user_fault (faults.Syntax k) (faults.TooMany l) some other h g = absurd (one.one_fault bytes k (record { at = l }) h g)
  one_user_fault (faults.Syntax k) faults.Memory some other h g = absurd (other refl)
  one_user_fault (faults.TooMany k) (faults.Syntax l) some other h g = absurd (one.one_fault bytes l (record { at = k }) g h)
  one_user_fault (faults.TooMany k) (faults.TooMany l) some other h g = ap (λ (c : TooMany). faults.TooMany c.at) (one.one_cause bytes (record { at = k }) (record { at = l }) h g)
  one_user_fault (faults.TooMany k) faults.Memory some other h g = absurd (other refl)
  one_user_fault faults.Memory f some other h g = absurd (some refl)

  pub no_user_fault : (x : List UserCommand) (e : UserFault) → e ≢ faults.Memory → AreCommands bytes before x → IsUserFault bytes before e → ⊥
  no_user_fault x (faults.Syntax k) some (r, h) g = one.no_syntax bytes x r k h g
  no_user_fault x (faults.TooMany k) some (r, h) g = one.no_refusal bytes x r (record { at = k }) h g
  no_user_fault x faults.Memory some h g = some refl

  pub user_texts : OneUserAnswer bytes before
  user_texts = record {
    one_list = λ x y (r, h) (s, k). one.one_tree bytes x y r s h k;
    one_fault = one_user_fault;
    not_both = no_user_fault;
  }
