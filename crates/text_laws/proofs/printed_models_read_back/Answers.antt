use Rattle.text_laws.proofs.PrintedModels.{reads_back}
use Rattle.text_laws.proofs.printed_models_read_back.Goals as goal

pub returns : goal.returns
returns g contents old new bytes = reads_back contents old new bytes
