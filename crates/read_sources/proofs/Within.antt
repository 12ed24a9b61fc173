-- The node that is read is one of an element.
use Rattle.std.proofs.Common.{refl, arith, subst, ℕ, ◌<◌, ◌==◌, Bool, true, false, List, length, if◌then◌else◌}
use Rattle.std.specs.Prelude.{slice_index_or}
use Rattle.cube_space.specs.Layout.{axes, sizes}
use Rattle.cube_space.specs.Cells.{IsSpace}
use Rattle.rule_laws.specs.declared.reference.Arg.{Arg}
use Rattle.rule_laws.specs.declared.reference.Arg.TheVariants.{Fixed, Moved}
use Rattle.rule_laws.specs.Meaning.{Precedent, Named, Components}
use Rattle.rule_model.specs.BoundModel.{BoundModel}
use Rattle.rule_model.specs.Conditions.{IsArg, IsPrecedent}
use Rattle.order_laws.proofs.CellFacts.{axes-sizes}
use Rattle.order_laws.proofs.SetFacts.{named-below}
use Rattle.ref_order.proofs.Args.{args-long, arg-at}
use Rattle.arrow_laws.specs.Nodes.{last_of}
use Rattle.arrow_laws.specs.ByDimension.{read_cube}
use Rattle.arrow_laws.proofs.Made.{last-there}
use Rattle.read_sources.specs.Ways.{width}
use Rattle.read_sources.specs.Ways.{Same, Component, Sent, SentOver, Names, IsIn, follows_by, follows}

arg-names : (source : List ℕ) (cube other size last : ℕ) (arg : Arg) → IsArg source size arg → Names cube other size (follows_by last arg)
arg-names source cube other size last (Fixed target) is = is
arg-names source cube other size last (Moved i to) is = by (i == last)
  where
    by : (t : Bool) → Names cube other size (if t then Sent to else SentOver i to)
    by true = λ element target h. named-below to element target size is.2 h
    by false = λ element target h. named-below to element target size is.2 h

pub names-within : (m : BoundModel) (cube : ℕ) (p : Precedent) → IsSpace m.space → IsPrecedent m.space cube p
    → Names cube (read_cube cube p) (width m.space (read_cube cube p)) (follows m cube p)
names-within m cube (Named r) valid is =
    let low : last_of m.space r.cube < length r.args = omega (arith, args-long m.space cube r is, last-there m.space r.cube valid is.0) in
    arg-names (sizes m.space cube) cube r.cube (width m.space r.cube) (last_of m.space cube) (slice_index_or r.args (last_of m.space r.cube) (Fixed 0))
    (arg-at (IsArg (sizes m.space cube)) (sizes m.space r.cube) r.args (last_of m.space r.cube) (Fixed 0) is.1 low)
names-within m cube (Components dim) valid is = by (dim == last_of m.space cube)
  where
    by : (t : Bool) → Names cube cube (width m.space cube) (if t then Component else Same)
    by true = refl
    by false = refl

pub reads-cube : (m : BoundModel) (cube : ℕ) (p : Precedent) → cube < length m.space.cubes → IsPrecedent m.space cube p → read_cube cube p < length m.space.cubes
reads-cube m cube (Named r) there is = is.0
reads-cube m cube (Components dim) there is = there

-- an element is found in a dimension of the cube
arg-in : (source : List ℕ) (size last : ℕ) (arg : Arg) → IsArg source size arg → IsIn (length source) (follows_by last arg)
arg-in source size last (Fixed target) is = tt
arg-in source size last (Moved i to) is = by (i == last)
  where
    by : (t : Bool) → IsIn (length source) (if t then Sent to else SentOver i to)
    by true = tt
    by false = is.0

pub follows-in : (m : BoundModel) (cube : ℕ) (p : Precedent) → IsSpace m.space → IsPrecedent m.space cube p → IsIn (length (axes m.space cube)) (follows m cube p)
follows-in m cube (Named r) valid is =
    let low : last_of m.space r.cube < length r.args = omega (arith, args-long m.space cube r is, last-there m.space r.cube valid is.0) in
    subst (λ n. IsIn n (follows m cube (Named r))) (axes-sizes m.space cube)
    (arg-in (sizes m.space cube) (width m.space r.cube) (last_of m.space cube) (slice_index_or r.args (last_of m.space r.cube) (Fixed 0))
    (arg-at (IsArg (sizes m.space cube)) (sizes m.space r.cube) r.args (last_of m.space r.cube) (Fixed 0) is.1 low))
follows-in m cube (Components dim) valid is = by (dim == last_of m.space cube)
  where
    by : (t : Bool) → IsIn (length (axes m.space cube)) (if t then Component else Same)
    by true = tt
    by false = tt
