use Rattle.model_format_laws.proofs.TextFacts.{same_rest}
use Rattle.model_format_laws.proofs.texts_of_two_versions_differ_in_their_opening.Goals as goal

pub returns : goal.returns
returns c contents version = same_rest contents version
