use Rattle.std.proofs.Common.{rules, ◌≡◌, ◌∙◌, subst, Ok}
use Rattle.cell_reader.specs.Snapshots.{version_of}
use Rattle.cell_values.specs.Reading.{value_on}
use Rattle.view_query.specs.Binding.{bound}
use Rattle.view_query.specs.Table.{table_text}
use Rattle.user_session.specs.Content.{content_of}
use Rattle.user_session.specs.Planning.{value_at}
use Rattle.user_session.proofs.view_command.view.Goals as goal

pub returns-in-Ok-clause-effect : goal.returns-in-Ok-clause-effect
unfolding value_on
returns-in-Ok-clause-effect c =
    let view = c.in-Ok.view in
    let reader = version_of c.in_ok-reader.reader in
    let version = version_of c.args.state.now in
    let model : c.model-model.result.now ≡ version.model = search rules in
    let same : reader ≡ version = c.in_ok-reader.ensures.version in
    let meant : bound version.model.space c.args.text.now ≡ Ok view = subst (λ m. bound m.space c.args.text.now ≡ Ok view) model c.in-Ok.ensures.answered in
    let told : c.new.result ≡ table_text c.model-model.result.now.space view (value_on reader) =
    subst (λ s. c.new.result ≡ table_text s view (value_on reader)) c.space.ensures.space (c.new.ensures ∙ c.in_ok-table-in-Ok.ensures.text) in
    let by_version : c.new.result ≡ table_text c.model-model.result.now.space view (value_on version) = subst (λ v. c.new.result ≡ table_text c.model-model.result.now.space view (value_on v)) same told in
    let table : c.new.result ≡ table_text version.model.space view (value_at (content_of c.args.state.now)) = subst (λ m. c.new.result ≡ table_text m.space view (value_on version)) model by_version in
    rw meant (cc)
