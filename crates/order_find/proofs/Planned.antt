-- The plan of a model over all that its statements read at the same lag.
use Rattle.std.proofs.Common.{◌≡◌, arith, ℕ, ◌≤◌, Some, List, length, All, get_or}
use Rattle.std.specs.Prelude.{slice_get}
use Rattle.std.proofs.lemmas.List.{get_or_default}
use Rattle.std.proofs.lemmas.Option.{slice_get_within, slice_get-get_or}
use Rattle.cube_space.specs.Cells.{IsSpace}
use Rattle.rule_model.specs.BoundModel.{BoundModel}
use Rattle.rule_model.specs.Conditions.{AreRules}
use Rattle.order_find.specs.Numbers.{IsNumbering, count_of, most_places}
use Rattle.read_sources.specs.Ways.{IsSource}
use Rattle.order_find.specs.Slots.{Plan, IsPlan, MeansByKind}
use Rattle.read_sources.specs.Sources.{IsRead, most_sources}
use Rattle.order_find.specs.PlanOfAll.{IsPlanOfAll}
use Rattle.order_find.specs.Filing.{AreFiled, looked_by, plan_of}
use Rattle.read_sources.proofs.Sourced.{source-is, listed-are}
use Rattle.order_find.specs.declared.filing.Filing.{Filing}
use Rattle.read_sources.specs.declared.source.Source.{Source}
use Rattle.order_find.specs.declared.numbering.Numbering.{Numbering}
use Rattle.read_sources.specs.declared.parting.Parted.{Parted}
use Rattle.read_sources.specs.Parts.{AreParts, ArePartsOfAll, members_in}

module _ (m : BoundModel) (valid : IsSpace m.space) (ruled : AreRules m.space m.rules) where
  pub members-are : (parted : Parted) (g : ℕ) → AreParts m most_sources parted → All (IsSource m) (members_in parted g)
  members-are parted g parts = λ k d low.
      source-is m valid ruled (get_or (members_in parted g) k d) (parts.members g (get_or (members_in parted g) k d) (k, low, get_or_default (members_in parted g) k (get_or (members_in parted g) k d) d low))

-- what is read means cells of one kind just where the cube that is read has kinds
listed-mean : (m : BoundModel) (sources : List Source) → ((k : ℕ) (s : Source) → slice_get sources k ≡ Some s → IsRead m s) → All (MeansByKind m) sources
listed-mean m sources read = λ k d low. (read k (get_or sources k d) (slice_get-get_or sources k d low)).has_kind

members-mean : (m : BoundModel) (parted : Parted) (g : ℕ) → AreParts m most_sources parted → All (MeansByKind m) (members_in parted g)
members-mean m parted g parts = λ k d low.
    (parts.members g (get_or (members_in parted g) k d) (k, low, get_or_default (members_in parted g) k (get_or (members_in parted g) k d) d low)).has_kind

module _ (m : BoundModel) (numbering : Numbering) (parted : Parted) (filing grouped : Filing) (valid : IsSpace m.space) (ruled : AreRules m.space m.rules)
    (numbers : IsNumbering m numbering) (few_places : count_of numbering ≤ most_places) (all : ArePartsOfAll m parted)
    (filed : AreFiled (looked_by m numbering parted.singles.items filing) (length parted.singles.items))
    (heads : AreFiled (looked_by m numbering parted.heads.items grouped) (length parted.heads.items)) where
  abbrev plan : Plan
  plan = plan_of m numbering parted filing grouped

  pub plan-is : IsPlan plan
  plan-is =
      let places : count_of numbering ≤ 268435456 = few_places in
      let singles : length parted.singles.items ≤ 536870912 = all.parts.few_singles in
      let many : length parted.heads.items ≤ 536870912 = all.parts.few_heads in
      record {
        valid = valid;
        ruled = ruled;
        few = omega (arith, places, singles, many);
        numbering = numbers;
        sources = listed-are m valid ruled parted.singles.items all.parts.singles;
        heads = listed-are m valid ruled parted.heads.items all.parts.heads;
        grouped = λ g. members-are m valid ruled parted g all.parts;
        means = listed-mean m parted.singles.items all.parts.singles;
        grouped_mean = λ g. members-mean m parted g all.parts;
        of_cubes = filed.of_cubes;
        of_nodes = filed.of_nodes;
        few_of_cubes = λ cube. omega (arith, filed.few_of_cubes cube, singles);
        few_of_nodes = λ n. omega (arith, filed.few_of_nodes n, singles);
        few_members = all.parts.few_members;
        few_groups_of_cubes = λ cube. omega (arith, heads.few_of_cubes cube, many);
        few_groups_of_nodes = λ n. omega (arith, heads.few_of_nodes n, many);
      }

  pub plan-of-all : IsPlanOfAll plan
  plan-of-all = record {
    plan = plan-is;
    read = all.parts.singles;
    read_members = all.parts.members;
    alike = all.parts.alike;
    all = all.all;
    looked_at = λ k s place at. filed.looked_at k s place (slice_get_within parted.singles.items k s at) at;
    of_cubes = heads.of_cubes;
    of_nodes = heads.of_nodes;
    heads_looked_at = λ g s place at. heads.looked_at g s place (slice_get_within parted.heads.items g s at) at;
  }
