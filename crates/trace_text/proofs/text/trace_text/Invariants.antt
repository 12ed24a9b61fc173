use Rattle.std.proofs.Common.{◌≡◌, ◌++◌, ◌∷◌, suc, length, map, take, decimal, codes}
use Rattle.std.specs.List.{flat_map}
use Rattle.trace_text.specs.TraceText.{fields_of, head_fields, joined}
use Rattle.trace_text.proofs.text.trace_text.Given as goal

abbrev pub invariant-loop-line : goal.invariant-loop-line
invariant-loop-line l =
    l.text.items ≡ ((codes "trace " ++ decimal (suc (length l.lines))) ++ 10 ∷ joined (head_fields l.model.space l.cell l.fn.value))
    ++ flat_map (λ fields. 10 ∷ joined fields) (map (fields_of l.model.space l.files l.cell) (take l.line-index l.lines))
