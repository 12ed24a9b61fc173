use Rattle.output_laws.proofs.OneJob.{same_run}
use Rattle.output_laws.proofs.a_run_finds_one_job.Goals as goal

pub returns : goal.returns
returns c words readings a b p q = same_run c.script_texts_have_one_answer.ensures words readings a b p q
