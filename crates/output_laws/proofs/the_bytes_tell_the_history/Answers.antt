use Rattle.output_laws.proofs.Histories.{history_told}
use Rattle.output_laws.proofs.the_bytes_tell_the_history.Goals as goal

pub returns : goal.returns
returns g model users told replies log other is rules few few_too h k e =
    history_told model is rules users told replies log other few few_too h k e
