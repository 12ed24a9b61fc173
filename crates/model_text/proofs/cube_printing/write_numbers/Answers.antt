use Rattle.std.proofs.Common.{◌-◌, ℕ, List, [], length, take, drop, get_or, codes, refl}
use Rattle.std.specs.List.{flat_map}
use Rattle.cube_lex.proofs.Adding.{spaces_same, then_spaces}
use Rattle.model_text.proofs.Adding.{first_and_rest}
use Rattle.model_text.specs.Contents.{dimension_names}
use Rattle.model_text.specs.Spelled.{dimension_spelled, next_dimension_spelled, cube_dimensions_spelled}
use Rattle.model_text.proofs.cube_printing.write_numbers.Goals as goal

pub returns : goal.returns
returns c =
    let names : List (List ℕ) = dimension_names c.args.dims.now in
    spaces_same c.write_further_numbers.result c.args.out.now.items c.write_further_numbers.new.out.items _ (cube_dimensions_spelled names c.args.numbers.now)
    (first_and_rest (λ n. dimension_spelled (codes "(") (get_or names n [])) (next_dimension_spelled names) (cube_dimensions_spelled names) (λ x rest. refl) c.args.numbers.now 0 c.in-len1-up.len_at_least)
    (then_spaces c.write_further_numbers.result c.args.out.now.items c.write_number.new.out.items c.write_further_numbers.new.out.items
    (dimension_spelled (codes "(") (get_or names (get_or c.args.numbers.now 0 0) [])) (flat_map (next_dimension_spelled names) (take (length c.args.numbers.now - 1) (drop 1 c.args.numbers.now)))
    c.in_ok-write_number.ensures c.write_further_numbers.ensures)
