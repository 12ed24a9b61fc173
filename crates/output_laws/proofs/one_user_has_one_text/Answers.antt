use Rattle.output_laws.proofs.OneText.{one_text}
use Rattle.output_laws.proofs.one_user_has_one_text.Goals as goal

pub returns : goal.returns
returns c = λ words content model user o p text other is known too done again. one_text c.same_jobs_print_the_same.ensures c.a_run_finds_one_job.ensures words content model user o p text other is known too done again
