-- The commands of users' texts are the same.
use Rattle.std.proofs.Common.{List, [], ◌∷◌, refl, sym, ◌∙◌, ap}
use Rattle.std.specs.Arc.{arc_value}
use Rattle.std.specs.List.{AllZip, slice_get}
use Rattle.file_passes.specs.Pass.{Source}
use Rattle.judged_files.specs.Loads.{IsLoad, IsCommand, AreCommands}
use Rattle.judged_files.specs.ModelFiles.{ModelFiles}
use Rattle.lists.proofs.Found.{some_same}
use Rattle.sandbox.specs.declared.act.Act.{Act}
use Rattle.script_bound.specs.declared.script.BoundScript.{BoundScript}
use Rattle.user_session.specs.declared.command.PlanCommand.{PlanCommand}
use Rattle.user_text.specs.declared.command.LoadText.{LoadText}
use Rattle.user_text.specs.declared.command.UserBody.{UserBody}
use Rattle.user_text.specs.declared.command.UserBody.TheVariants as bodies
use Rattle.user_text.specs.declared.command.UserCommand.{UserCommand}
use Rattle.user_text.specs.declared.load_job.LoadJob.{LoadJob}
use Rattle.output_laws.specs.SameJob.{IsSameLoad, IsSameAct}

-- what belongs to one text each is alike
zip_alike : {A B : Type 0} (R : A → B → Type 0) (Same : B → B → Type 0)
    → ((a : A) (x y : B) → R a x → R a y → Same x y)
    → (texts : List A) (xs ys : List B) → AllZip R texts xs → AllZip R texts ys → AllZip Same xs ys
zip_alike R Same one [] [] [] p q = tt
zip_alike R Same one [] [] (y ∷ ys) p q = absurd q
zip_alike R Same one [] (x ∷ xs) ys p q = absurd p
zip_alike R Same one (a ∷ texts) [] ys p q = absurd p
zip_alike R Same one (a ∷ texts) (x ∷ xs) [] p q = absurd q
zip_alike R Same one (a ∷ texts) (x ∷ xs) (y ∷ ys) p q =
    (one a x y p.0 q.0, zip_alike R Same one texts xs ys p.1 q.1)

module _ (files : ModelFiles) (sources : List Source) where
  same_load : (load : LoadText) (job other : LoadJob) (bound again : BoundScript)
      → IsLoad files sources load job bound → IsLoad files sources load other again
      → IsSameLoad job other bound again
  same_load load job other bound again p q =
      let place = some_same (sym p.place ∙ q.place) in
      record {
        place = place;
        script = some_same (sym p.script ∙ ap (slice_get files.bound) place ∙ q.script);
        records = some_same (sym p.records ∙ q.records);
        decimal = p.decimal ∙ sym q.decimal;
        rejects = p.rejects ∙ sym q.rejects;
        params = p.params ∙ sym q.params;
      }

  same_command : (body : UserBody) (x y : Act PlanCommand)
      → IsCommand files sources body x → IsCommand files sources body y → IsSameAct x y
  same_command (bodies.Put cell number) x y p q = rw (p, q) refl
  same_command (bodies.Get cell) x y p q = rw (p, q) refl
  same_command (bodies.View view) x y p q = rw (p, q) refl
  same_command (bodies.Spread cell amount how) x y p q = rw (p, q) refl
  same_command (bodies.Trace cell) x y (names, is, named) (again, too, called) = rw (is, too) (refl, named ∙ sym called)
  same_command bodies.Sandbox x y p q = rw p q
  same_command bodies.Publish x y p q = rw p q
  same_command bodies.Discard x y p q = rw p q
  same_command (bodies.Load load) x y (job, script, is, loads) (other, again, too, runs) =
      rw (is, too) (same_load load job other (arc_value script) (arc_value again) loads runs)

  same_commands : (texts : List UserCommand) (xs ys : List (Act PlanCommand))
      → AreCommands files sources texts xs → AreCommands files sources texts ys
      → AllZip IsSameAct xs ys
  same_commands texts xs ys p q =
      zip_alike (λ text command. IsCommand files sources text.body command) IsSameAct
      (λ text x y. same_command text.body x y) texts xs ys p q

  pub same_users : (users : List (List UserCommand)) (xs ys : List (List (Act PlanCommand)))
      → AllZip (AreCommands files sources) users xs → AllZip (AreCommands files sources) users ys
      → AllZip (AllZip IsSameAct) xs ys
  same_users users xs ys p q =
      zip_alike (AreCommands files sources) (AllZip IsSameAct) same_commands users xs ys p q
