use Rattle.std.proofs.Common.{◌≡◌, ◌∙◌, ◌∷◌, ◌++◌, ap, append_assoc, codes, List, ℕ, subst, []}
use Rattle.operand_cover.proofs.Named.{on-ok}
use Rattle.std.specs.List.{flat_map}
use Rattle.cell_names.specs.CellNames.{quoted_name}
use Rattle.cube_lex.specs.Written.{IsWritten}
use Rattle.rule_printer.specs.Spelled.{feeder_spelled}
use Rattle.operand_cover.proofs.lines.push_text.Goals as goal

pub returns : goal.returns
returns c =
    let begun : List ℕ = c.args.lines.now.items in
    let word : List ℕ = codes "  feeder of " in
    let name : List ℕ = quoted_name c.args.name.now in
    let colon : List ℕ = codes ": " in
    let one : c.deref.result.now ≡ c.args.text ∷ [] =
    c.deref.ensures.value ∙ c.in_ok-push.ensures.items ∙ ap (λ l. l ++ c.args.text ∷ []) c.new-feeders.ensures.items in
    let before : c.extend_from_slice-2.new.self.items ≡ ((begun ++ word) ++ name) ++ colon =
    c.in_ok-extend_from_slice-2.ensures.items
    ∙ ap (λ l. l ++ colon) (c.in_ok-write_quoted_name.ensures ∙ ap (λ l. l ++ name) c.in_ok-extend_from_slice.ensures.items) in
    on-ok c.write_each_feeder.result
    (λ w. (
      w.0,
      subst (λ feeders. IsWritten (flat_map feeder_spelled feeders) w.0) one w.2,
      w.1
          ∙ ap (λ l. l ++ w.0) before
          ∙ append_assoc ((begun ++ word) ++ name) colon w.0
          ∙ append_assoc (begun ++ word) name (colon ++ w.0)
          ∙ append_assoc begun word (name ++ (colon ++ w.0)),
    ))
    c.write_each_feeder.ensures
