use Rattle.std.proofs.Common.{◌≡◌, ◌-◌, ℕ, ℤ, pos, List, [], ◌∷◌, ◌++◌, length, take, drop, get_or, codes, subst, arith, length-drop, OnOk}
use Rattle.std.proofs.lemmas.List.{take_all}
use Rattle.std.specs.List.{flat_map}
use Rattle.cube_lex.specs.Written.{Spelling, Spaces}
use Rattle.dim_core.specs.Outline.{names_of}
use Rattle.dim_core.specs.Written.{by_name}
use Rattle.cube_lex.proofs.Adding.{spaces_same, then_spaces}
use Rattle.dim_text.proofs.PrintedParts.{parts_split}
use Rattle.cube_lex.specs.Written.{sign_token}
use Rattle.dim_text.specs.Spelled.{part_spelled, next_part_spelled, parts_spelled}
use Rattle.dim_text.proofs.printing.write_parts.Goals as goal

pub returns : goal.returns
returns c =
    let none : ℕ × ℤ = (0, pos 0) in
    let names : List (List ℕ) = names_of c.args.dimension.now.elements in
    let first : List Spelling = sign_token (codes ":") ∷ part_spelled (get_or names (get_or c.args.parts.now 0 none).0 [], (get_or c.args.parts.now 0 none).1) in
    let further : List Spelling = flat_map next_part_spelled (by_name names (drop 1 c.args.parts.now)) in
    let tail : take (length c.args.parts.now - 1) (drop 1 c.args.parts.now) ≡ drop 1 c.args.parts.now = take_all (length c.args.parts.now - 1) (drop 1 c.args.parts.now) (omega (arith, length-drop 1 c.args.parts.now)) in
    spaces_same c.write_further.result c.args.out.now.items c.write_further.new.out.items (first ++ further) (parts_spelled (by_name names c.args.parts.now)) (parts_split names c.args.parts.now none c.in-len1-up.len_at_least)
    (then_spaces c.write_further.result c.args.out.now.items c.write_part.new.out.items c.write_further.new.out.items first further c.in_ok-write_part.ensures
    (subst (λ parts. OnOk c.write_further.result (Spaces c.write_part.new.out.items c.write_further.new.out.items (flat_map next_part_spelled (by_name names parts)))) tail c.write_further.ensures))
