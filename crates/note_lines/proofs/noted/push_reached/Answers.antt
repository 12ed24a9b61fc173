use Rattle.std.proofs.Common.{◌≡◌, ◌∙◌, ◌++◌, ap, ℕ, List, codes, append_assoc}
use Rattle.std.specs.Prelude.{decimal}
use Rattle.note_lines.specs.Notes.{mark}
use Rattle.note_lines.proofs.noted.push_reached.Goals as goal

pub returns : goal.returns
returns c =
    let tail : List ℕ = codes " by statement " ++ decimal c.args.by in
    let begun = c.args.out.now.items in
    let said : List ℕ = codes " NotReached " in
    c.in_ok-push_numbered.ensures
    ∙ ap (λ l. l ++ tail) (
    c.in_ok-extend_from_slice-2.ensures.items
    ∙ ap (λ m. c.extend_from_slice.new.self.items ++ m) c.mark.ensures
    ∙ ap (λ l. l ++ mark c.args.leaf) c.in_ok-extend_from_slice.ensures.items
    )
    ∙ append_assoc (begun ++ said) (mark c.args.leaf) tail
    ∙ append_assoc begun said (mark c.args.leaf ++ tail)
