use Rattle.std.proofs.Common.{rules, ◌≡◌, ◌∙◌, ap₂}
use Rattle.std.proofs.lemmas.Result.{IfOk-weaker}
use Rattle.clap.specs.Words.{app_of, with_rule}
use Rattle.cube_words.specs.Inside.Command.{plain}
use Rattle.cube_words.proofs.command.command.Goals as goal

pub returns : goal.returns
returns c =
    let plain_is : app_of c.disable_version_flag.result ≡ plain = search rules in
    let check_is = c.in_ok-arg.ensures.shape c.check_flag.ensures.local ∙ ap₂ with_rule plain_is c.check_flag.ensures.rule in
    let feeders_is = c.in_ok-arg-2.ensures.shape c.feeders_flag.ensures.local ∙ ap₂ with_rule check_is c.feeders_flag.ensures.rule in
    let explain_is = c.in_ok-arg-3.ensures.shape c.explain_flag.ensures.local ∙ ap₂ with_rule feeders_is c.explain_flag.ensures.rule in
    let sample_is = c.in_ok-arg-4.ensures.shape c.sample_option.ensures.local ∙ ap₂ with_rule explain_is c.sample_option.ensures.rule in
    let model_is = c.in_ok-arg-5.ensures.shape (search rules) ∙ ap₂ with_rule sample_is (search rules) in
    IfOk-weaker c.arg-6.result _ _
    (λ command is. is.shape c.users_after_the_model.ensures.local ∙ ap₂ with_rule model_is c.users_after_the_model.ensures.rule) c.arg-6.ensures
