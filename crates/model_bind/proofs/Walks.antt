-- The links of a circle are elements of the space.
use Rattle.std.proofs.Common.{◌≡◌, sym, ap, arith, subst, ℕ, ◌<◌, Bool, true, List, [], ◌∷◌, length, All, get_or}
use Rattle.std.proofs.lemmas.List.{get_or-map}
use Rattle.std.proofs.lemmas.List.Elements.{All-nil, All-cons}
use Rattle.std.proofs.lemmas.Option.{get_or_from_slice_get}
use Rattle.dim_core.specs.Outline.{Outline}
use Rattle.cube_space.specs.Layout.{axes, sizes}
use Rattle.cube_space.specs.Cells.{IsSpace, IsCell, cube_of, elements_of}
use Rattle.cube_space.proofs.Radix.{digit-below}
use Rattle.rule_model.specs.BoundModel.{BoundModel}
use Rattle.rule_model.specs.System.{system_of, rule_of}
use Rattle.rule_laws.specs.Ordered.{IsCellOf}
use Rattle.rule_model.specs.declared.rules.Statement.{Statement}
use Rattle.order_laws.proofs.CellFacts.{axes-sizes, cell-cube, cell-digits}
use Rattle.arrow_laws.specs.Nodes.{Node, last_of, node_of}
use Rattle.arrow_laws.proofs.Made.{last-there}
use Rattle.order_find.specs.Numbers.{width}
use Rattle.order_find.specs.Circles.{IsAt, IsBy, IsWalk, IsCircle}
use Rattle.order_find.specs.declared.link.Link.{Link}
use Rattle.order_find.specs.declared.link.LinkBy.{LinkBy}
use Rattle.order_find.specs.declared.link.LinkBy.TheVariants.{Reference, Below}
use Rattle.model_bind.specs.Inside.Linked.{IsLinked}

module _ (m : BoundModel) (valid : IsSpace m.space) where
  a-cell : (cube : ℕ) (s : Statement) (kind : Bool) (c : ℕ) → IsCellOf (system_of m) (rule_of m.space cube s) kind c → IsCell m.space c
  unfolding system_of
  a-cell cube s kind c is = is.cell

  -- a node of the model: a cube, and an element of its last dimension
  abbrev Within : Node → Type 0
  Within n = (n.cube < length m.space.cubes) × (n.element < width m.space n.cube)

  -- the node of a cell
  of-cell : (c : ℕ) (n : Node) → IsCell m.space c → node_of m c ≡ n → Within n
  of-cell c n cell is =
      let own = cube_of m.space c in
      let last = last_of m.space own in
      let there = cell-cube m.space c cell in
      let low : last < length (sizes m.space own) = omega (arith, last-there m.space own valid there, axes-sizes m.space own) in
      let inside : get_or (elements_of m.space c) last 0 < width m.space own = digit-below (sizes m.space own) (elements_of m.space c) last 0 0 (cell-digits m.space c cell) low in
      subst Within is (there, inside)

  of-link : (from : Node) (by : LinkBy) (to : Node) (strict : Bool) → IsBy m from by to strict → Within from
  of-link from (Reference statement reference) to strict is =
      let joined = is.arrow.joined in
      of-cell joined.cell from (a-cell is.arrow.cube is.arrow.statement is.arrow.kind joined.cell joined.is_of) joined.source
  of-link from Below to strict is =
      let last = last_of m.space from.cube in
      let size = get_or-map (λ (d : Outline). length d.elements) (axes m.space from.cube) last is.dimension 0 (last-there m.space from.cube valid is.within) in
      let at = ap (λ (d : Outline). length d.elements) (get_or_from_slice_get (axes m.space from.cube) last is.dimension is.dimension is.last) in
      let element = is.source in
      (is.within, omega (arith, element, size, at))

  -- a link names what its node names
  named : (link : Link) (n : Node) → IsAt link n → Within n → IsLinked m.space link
  named link n at within =
      let element = subst (λ e. e < width m.space n.cube) (sym at.1) within.1 in
      (subst (λ cube. cube < length m.space.cubes) (sym at.0) within.0, subst (λ cube. link.element < width m.space cube) (sym at.0) element)

  of-walk : (links : List Link) (strict : Bool) (from to : Node) → IsWalk m links strict from to → All (IsLinked m.space) links
  of-walk [] strict from to walk = All-nil (IsLinked m.space)
  of-walk (link ∷ links) strict from to (at, (next, here, later, by, rest, is)) =
      All-cons (IsLinked m.space) link links (named link from at (of-link from link.by next here by)) (of-walk links later next to rest)

  pub of-circle : (links : List Link) → IsCircle m links → All (IsLinked m.space) links
  of-circle links (start, walk) = of-walk links true start start walk
