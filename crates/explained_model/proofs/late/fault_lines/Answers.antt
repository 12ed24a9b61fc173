use Rattle.std.proofs.Common.{◌∙◌, ap, sym, subst, [], Some}
use Rattle.std.specs.Option.{option_map_or}
use Rattle.late_example.proofs.Examples.{ok-map}
use Rattle.explained_model.specs.Late.{AreFaultLines, example_lines}
use Rattle.explained_model.proofs.late.fault_lines.Goals as goal

pub returns-in-Some : goal.returns-in-Some
returns-in-Some c =
    ok-map c.example_lines.result _ _ c.example_lines.ensures
    (λ lines is. subst (λ fault. AreFaultLines c.args.model.now (Some fault) lines.items) (sym c.in-NotEarlier.is) (
      c.in_ok-example.field-0,
      c.in_ok-example.ensures,
      is ∙ ap (λ example. option_map_or (example_lines c.args.model.now.space) example []) (sym c.in-Some.is),
    ))
