use Rattle.output_laws.proofs.SameJobs.{same_text}
use Rattle.output_laws.proofs.same_jobs_print_the_same.Goals as goal

pub returns : goal.returns
returns c = λ readings more a b text other few same p q. same_text c.one_user_has_one_output.ensures readings more a b text other few same p q
