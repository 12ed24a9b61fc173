-- The arrows that formulas make are those that are decided by the elements of single dimensions.
use Rattle.std.proofs.Common.{◌≡◌, refl, sym, ◌∙◌, arith, ℕ, ◌<◌, ◌↔◌, Bool, true, false, not, length, Contains, true≢false}
use Rattle.std.specs.Prelude.{IsTrue}
use Rattle.std.proofs.lemmas.Bool.{false_from_ne_true}
use Rattle.std.proofs.lemmas.List.Elements.{All-contains}
use Rattle.cube_space.specs.Layout.{axes}
use Rattle.cube_space.specs.Cells.{IsSpace}
use Rattle.rule_laws.specs.Meaning.{Precedent, Named, Components, precedents}
use Rattle.rule_model.specs.declared.rules.Statement.{Statement}
use Rattle.rule_model.specs.BoundModel.{BoundModel, rules_of}
use Rattle.rule_model.specs.Conditions.{IsArea, IsPrecedent, IsStatement, AreRules}
use Rattle.order_laws.proofs.CellFacts.{axes-sizes}
use Rattle.order_laws.proofs.Ordered.{part-reads}
use Rattle.arrow_laws.specs.Nodes.{Node}
use Rattle.arrow_laws.specs.Arrows.{IsWeak, IsJoined, IsReadArrow, Reads}
use Rattle.arrow_laws.specs.ByDimension.{is_lagged, is_level, is_weak, IsJoinedByDimension}
use Rattle.arrow_laws.proofs.Lag.{lagged-decided, level-decided, weak-decided}
use Rattle.arrow_laws.proofs.Named.{joined-reference, reference-joined}
use Rattle.arrow_laws.proofs.Children.{joined-children, children-joined}

-- an arrow that a formula makes by reading at the same lag, by single dimensions
pub record IsReadByDimension (m : BoundModel) (from to : Node) (strict : Bool) : Type 0 where
  pub cube : ℕ
  pub within : cube < length m.space.cubes
  pub statement : Statement
  pub stands : Contains (rules_of m cube).statements statement
  pub kind : Bool
  pub read : Precedent
  pub reads : Reads m cube statement kind read
  pub level : IsTrue (is_level m cube statement.area kind read)
  pub not_lagged : is_lagged m cube statement.area kind read ≡ false
  pub weak : is_weak m cube statement.area kind read ≡ not strict
  pub joined : IsJoinedByDimension m cube statement.area kind read from to

-- the arrow that such a reading makes
pub record IsMadeBy (m : BoundModel) (from to : Node) (strict : Bool) (r : IsReadByDimension m from to strict) : Type 0 where
  pub arrow : IsReadArrow m from to strict
  pub own_cube : arrow.cube ≡ r.cube
  pub own_statement : arrow.statement ≡ r.statement
  pub own_kind : arrow.kind ≡ r.kind
  pub own_read : arrow.precedent ≡ r.read

-- a test that decides what holds just where a flag is off
off-where : (a strict : Bool) (W : Type 0) → (IsTrue a ↔ W) → (W ↔ (strict ≡ false)) → a ≡ not strict
off-where a true W decides weak = false_from_ne_true a (λ h. true≢false (weak.0 (decides.0 h)))
off-where a false W decides weak = decides.1 (weak.1 refl)

where-off : (a strict : Bool) (W : Type 0) → (IsTrue a ↔ W) → a ≡ not strict → W ↔ (strict ≡ false)
where-off a true W decides is = (λ w. sym (decides.1 w) ∙ is, λ e. absurd (true≢false e))
where-off a false W decides is = (λ w. refl, λ e. decides.0 is)

module _ (m : BoundModel) (valid : IsSpace m.space) (ruled : AreRules m.space m.rules) where
  statement-is : (cube : ℕ) (s : Statement) → cube < length m.space.cubes → Contains (rules_of m cube).statements s → IsStatement m.space cube s
  statement-is cube s within stands = All-contains (IsStatement m.space cube) (rules_of m cube).statements s (ruled.cube cube within).statements stands

  reads-is : (cube : ℕ) (s : Statement) (kind : Bool) (p : Precedent) → IsStatement m.space cube s → Reads m cube s kind p → IsPrecedent m.space cube p
  reads-is cube s kind p is (f, e, has) = All-contains (IsPrecedent m.space cube) (precedents f) p (part-reads m valid ruled cube s kind f is e) has

  by-dimension : (cube : ℕ) (s : Statement) (kind : Bool) (p : Precedent) (from to : Node) → cube < length m.space.cubes → IsArea m.space cube s.area → IsPrecedent m.space cube p
      → IsJoinedByDimension m cube s.area kind p from to ↔ IsJoined m cube s kind p from to
  by-dimension cube s kind (Named r) from to there is_area is =
      (reference-joined m valid ruled cube there s is_area kind r is from to, joined-reference m valid ruled cube there s is_area kind r is from to)
  by-dimension cube s kind (Components dim) from to there is_area is =
      let low : dim < length (axes m.space cube) = omega (arith, is, axes-sizes m.space cube) in
      (children-joined m valid ruled cube there s is_area kind dim low from to, joined-children m valid ruled cube there s is_area kind dim low from to)

  pub read-dimension : (from to : Node) (strict : Bool) → IsReadArrow m from to strict → IsReadByDimension m from to strict
  read-dimension from to strict r =
      let s = statement-is r.cube r.statement r.within r.stands in
      let is = reads-is r.cube r.statement r.kind r.precedent s r.reads in
      record {
        cube = r.cube;
        within = r.within;
        statement = r.statement;
        stands = r.stands;
        kind = r.kind;
        read = r.precedent;
        reads = r.reads;
        level = (level-decided m valid ruled r.cube r.within r.statement s.area r.kind r.precedent is).1 r.level;
        not_lagged = false_from_ne_true (is_lagged m r.cube r.statement.area r.kind r.precedent)
            (λ h. r.not_lagged ((lagged-decided m valid ruled r.cube r.within r.statement s.area r.kind r.precedent is).0 h));
        weak = off-where (is_weak m r.cube r.statement.area r.kind r.precedent) strict (IsWeak m r.cube r.statement r.kind r.precedent)
            (weak-decided m valid ruled r.cube r.within r.statement s.area r.kind r.precedent is) r.weak;
        joined = (by-dimension r.cube r.statement r.kind r.precedent from to r.within s.area is).1 r.joined;
      }

  pub dimension-read : (from to : Node) (strict : Bool) (r : IsReadByDimension m from to strict) → IsMadeBy m from to strict r
  dimension-read from to strict r =
      let s = statement-is r.cube r.statement r.within r.stands in
      let is = reads-is r.cube r.statement r.kind r.read s r.reads in
      let arrow : IsReadArrow m from to strict = record {
        cube = r.cube;
        within = r.within;
        statement = r.statement;
        stands = r.stands;
        kind = r.kind;
        precedent = r.read;
        reads = r.reads;
        level = (level-decided m valid ruled r.cube r.within r.statement s.area r.kind r.read is).0 r.level;
        not_lagged = λ h. true≢false (sym ((lagged-decided m valid ruled r.cube r.within r.statement s.area r.kind r.read is).1 h) ∙ r.not_lagged);
        weak = where-off (is_weak m r.cube r.statement.area r.kind r.read) strict (IsWeak m r.cube r.statement r.kind r.read)
            (weak-decided m valid ruled r.cube r.within r.statement s.area r.kind r.read is) r.weak;
        joined = (by-dimension r.cube r.statement r.kind r.read from to r.within s.area is).0 r.joined;
      } in
      record { arrow = arrow; own_cube = refl; own_statement = refl; own_kind = refl; own_read = refl }
