use Rattle.model_format_laws.proofs.ModelFacts.{model_too}
use Rattle.model_format_laws.proofs.a_bound_text_binds_the_same_in_version_2.Goals as goal

pub returns : goal.returns
returns c contents rules model valid one is = model_too contents rules model valid one is
