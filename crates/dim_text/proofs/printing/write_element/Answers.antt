use Rattle.std.proofs.Common.{◌≡◌, ℕ, ℤ, List, ◌∷◌, ◌++◌, [], codes, subst, true}
use Rattle.cube_lex.proofs.Spaced.{spaces-both}
use Rattle.cube_lex.specs.Written.{Spelling, Spaces}
use Rattle.dim_core.specs.Outline.{names_of, name_of, components_of}
use Rattle.dim_core.specs.Written.{by_name}
use Rattle.cube_lex.proofs.Adding.{writes_same, then_ends}
use Rattle.dim_text.proofs.PrintedParts.{consolidated_spelled}
use Rattle.cube_lex.specs.Written.{word_token, sign_token, text_token}
use Rattle.dim_text.specs.Spelled.{parts_spelled, spelled, defining}
use Rattle.dim_text.proofs.printing.write_element.Goals as goal

pub returns : goal.returns
returns c =
    let names : List (List ℕ) = names_of c.args.dimension.now.elements in
    let shown : List ℕ = name_of c.args.dimension.now c.args.element in
    let components : List (ℕ × ℤ) = components_of c.args.dimension.now c.args.element in
    let front : List Spelling = word_token (codes "C") ∷ text_token shown ∷ [] in
    let parts : List Spelling = parts_spelled (by_name names components) in
    let first : Spaces c.args.out.now.items c.write_pieces.new.out.items front =
    subst (λ n. Spaces c.args.out.now.items c.write_pieces.new.out.items (word_token (codes "C") ∷ text_token n ∷ [])) c.shown_of-name.ensures.shown c.in_ok-write_pieces.ensures.ok in
    let second : Spaces c.write_pieces.new.out.items c.write_parts.new.out.items parts =
    subst (λ cs. Spaces c.write_pieces.new.out.items c.write_parts.new.out.items (parts_spelled (by_name names cs))) c.components.ensures c.in_ok-write_parts.ensures in
    writes_same c.write_line-2.result c.args.out.now.items c.write_line-2.new.out.items ((front ++ parts) ++ sign_token (codes ";") ∷ []) (spelled (defining shown (by_name names components)))
    (consolidated_spelled names shown components (λ none. (let leaf : c.is_leaf.result ≡ true = c.is_leaf.ensures.1 none in cc (leaf, c.if-is_leaf.false))))
    (then_ends c.write_line-2.result c.args.out.now.items c.write_parts.new.out.items c.write_line-2.new.out.items (front ++ parts) (sign_token (codes ";") ∷ [])
    (spaces-both c.args.out.now.items c.write_pieces.new.out.items c.write_parts.new.out.items front parts first second) c.write_line-2.ensures.ok)
