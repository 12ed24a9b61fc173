-- What is read is a source.
use Rattle.std.proofs.Common.{sym, subst, arith, ℕ, ◌<◌, ◌≤◌, ◌⊎◌, inl, inr, Some, List, length, Contains, All, get_or}
use Rattle.std.specs.Prelude.{◌≡◌, slice_get}
use Rattle.std.proofs.lemmas.Bool.{cases_lt}
use Rattle.std.proofs.lemmas.List.{get_or_past}
use Rattle.std.proofs.lemmas.List.Elements.{All-contains}
use Rattle.std.proofs.lemmas.Option.{slice_get-get_or}
use Rattle.cube_space.specs.Cells.{IsSpace}
use Rattle.rule_laws.specs.Meaning.{precedents}
use Rattle.rule_model.specs.declared.rules.CubeRules.{CubeRules}
use Rattle.rule_model.specs.declared.rules.Statement.{Statement}
use Rattle.rule_model.specs.BoundModel.{BoundModel, no_rules, rules_of}
use Rattle.rule_model.specs.Conditions.{AreRules, IsArea, IsPrecedent, IsStatement}
use Rattle.order_laws.proofs.Ordered.{part-reads}
use Rattle.read_sources.specs.declared.source.Source.{Source}
use Rattle.read_sources.specs.Ways.{IsSource, precedent}
use Rattle.read_sources.specs.Sources.{IsRead, AreSourcesOf}

module _ (m : BoundModel) (valid : IsSpace m.space) (ruled : AreRules m.space m.rules) where
  cube-there : (cube : ℕ) (s : Statement) → Contains (rules_of m cube).statements s → cube < length m.space.cubes
  cube-there cube s stands = by (cases_lt cube (length m.rules))
    where
      by : (cube < length m.rules) ⊎ (length m.rules ≤ cube) → cube < length m.space.cubes
      by (inl low) = omega (arith, low, ruled.each_cube)
      by (inr past) =
          let (k, low, is) = subst (λ (r : CubeRules). Contains r.statements s) (get_or_past m.rules cube no_rules past) stands in
          absurd (omega (arith, low))

  pub source-is : (s : Source) → IsRead m s → IsSource m s
  source-is s read =
      let there = cube-there s.cube read.statement read.stands in
      let is : IsStatement m.space s.cube read.statement = All-contains (IsStatement m.space s.cube) (rules_of m s.cube).statements read.statement (ruled.cube s.cube there).statements read.stands in
      let (f, part, has) = read.reads in
      record {
        cube = there;
        area = subst (IsArea m.space s.cube) (sym read.area) is.area;
        reads = All-contains (IsPrecedent m.space s.cube) (precedents f) (precedent s) (part-reads m valid ruled s.cube read.statement s.kind f is part) has;
        asks = read.asks;
      }

  pub sources-are : (sources : List Source) → AreSourcesOf m sources → All (IsSource m) sources
  sources-are sources are = λ k d low. source-is (get_or sources k d) (are.read k (get_or sources k d) (slice_get-get_or sources k d low))

  pub listed-are : (xs : List Source) → ((k : ℕ) (s : Source) → slice_get xs k ≡ Some s → IsRead m s) → All (IsSource m) xs
  listed-are xs read = λ k d low. source-is (get_or xs k d) (read k (get_or xs k d) (slice_get-get_or xs k d low))
