use Rattle.std.proofs.Common.{List, [], ◌∷◌, ◌++◌, codes, sym, ap, subst}
use Rattle.cube_lex.specs.Written.{Spelling, Spaces, sign_token, word_token}
use Rattle.rule_printer.proofs.WrittenParts.{then_adds, adds_same}
use Rattle.rule_printer.specs.Spelled.{listed_spelled, tree_spelled, target_spelled}
use Rattle.rule_printer.proofs.printing.write_target.Goals as goal

pub returns-in_ok-write_trees-in-Db : goal.returns-in_ok-write_trees-in-Db
returns-in_ok-write_trees-in-Db c =
    let arguments : List Spelling = listed_spelled tree_spelled c.in-Db.arguments in
    let end : List Spelling = sign_token (codes ")") ∷ [] in
    adds_same c.write_sign-in-Db.result c.args.out.now.items c.write_sign-in-Db.new.out.items (word_token (codes "DB") ∷ sign_token (codes "(") ∷ (arguments ++ end)) (target_spelled c.args.target.now) (ap target_spelled (sym c.in-Db.is))
    (then_adds c.write_sign-in-Db.result c.args.out.now.items c.write_word.new.out.items c.write_sign-in-Db.new.out.items (word_token (codes "DB") ∷ []) (sign_token (codes "(") ∷ (arguments ++ end)) c.in_ok-write_word-in-Db.ensures.spaced
    (then_adds c.write_sign-in-Db.result c.write_word.new.out.items c.write_sign.new.out.items c.write_sign-in-Db.new.out.items (sign_token (codes "(") ∷ []) (arguments ++ end) c.in_ok-write_sign-in-Db.ensures.spaced
    (then_adds c.write_sign-in-Db.result c.write_sign.new.out.items c.write_trees.new.out.items c.write_sign-in-Db.new.out.items arguments end
    (subst (λ l. Spaces c.write_sign.new.out.items c.write_trees.new.out.items (listed_spelled tree_spelled l)) c.as_slice-in-Db.ensures c.in_ok-write_trees-in-Db.ensures) c.write_sign-in-Db.ensures.spaced)))
