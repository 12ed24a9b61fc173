use Rattle.std.proofs.Common.{sym, ap, ◌∙◌, None}
use Rattle.cube_server.specs.Output.{output}
use Rattle.user_session.specs.Content.{opening}
use Rattle.cube_server.proofs.laws.one_user_has_one_output.Goals as goal

pub returns : goal.returns
returns c = λ model commands text other a b.
    let same = c.one_user_has_one_layered_history.ensures (opening model) None commands a.told b.told a.log b.log a.history b.history in
    a.is_text ∙ ap (λ told. output told a.log) same.0 ∙ ap (λ log. output b.told log) same.1 ∙ sym b.is_text
