use Rattle.cube_server.proofs.laws.served_values_are_the_only_solution.Goals as goal

pub returns : goal.returns
returns c = λ model users text served stored. (
    let law = c.ordered_models_have_one_solution.ensures in
    let is = served.accepted in
    record {
      solves = law.solution model stored is.valid is.rules is.ordered;
      only = λ other solves cell there. law.only model stored other is.valid is.rules is.ordered solves cell there;
    })
