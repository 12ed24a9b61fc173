use Rattle.std.proofs.Common.{◌∙◌, ap, is_some}
use Rattle.user_text.proofs.SetParams.{set_or_not, some_mapped}
use Rattle.user_text.proofs.load_params.LoadParams.is_set.Goals as goal

pub returns : goal.returns
returns c =
    c.is_some.ensures ∙ some_mapped (λ value. value.now) c.get.result ∙ ap is_some c.get.ensures
    ∙ set_or_not c.args.self.now c.args.word.now
