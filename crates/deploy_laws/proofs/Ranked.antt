-- Of a model whose orders are to be found one model is found, or none is for one reason.
use Rattle.std.proofs.Common.{◌≡◌, inl, inr, refl, sym, ap, if◌then◌else◌, ◌∙◌, arith, ℕ, ◌<◌, ◌≤◌, Bool, true, false, Option, Some, None, List, [], ◌∷◌, map, length, get_or}
use Rattle.std.specs.Prelude.{IsTrue, slice_get, slice_index_or}
use Rattle.std.proofs.lemmas.List.{ext_get_or, get_or-map}
use Rattle.std.proofs.lemmas.List.FromFn.{fill_by_all, get_or-map-range_with_len, length-map-range_with_len}
use Rattle.std.proofs.lemmas.List.Elements.{Contains-get_or}
use Rattle.std.proofs.lemmas.Option.{get_or_from_slice_get}
use Rattle.dim_core.specs.Outline.{Outline}
use Rattle.cube_space.specs.Layout.{axes}
use Rattle.cube_space.specs.Cells.{IsSpace}
use Rattle.lists.proofs.Found.{there as place-there}
use Rattle.rule_laws.specs.declared.formula.Formula.{Formula}
use Rattle.rule_laws.specs.Meaning.{Precedent, precedents}
use Rattle.rule_laws.specs.RuleSystem.{part_of}
use Rattle.rule_model.specs.declared.order.Order.{Order}
use Rattle.rule_model.specs.declared.order.Position.{Position}
use Rattle.rule_model.specs.declared.order.Position.TheVariants.{Ranks}
use Rattle.rule_model.specs.declared.rules.Statement.{Statement}
use Rattle.rule_model.specs.BoundModel.{BoundModel, rules_of}
use Rattle.rule_model.specs.Order.{position_of}
use Rattle.rule_model.specs.System.{cubes_of, rule_of}
use Rattle.arrow_laws.specs.Nodes.{Node, NodeRanks, has_kinds, has_nodes, last_of, ranks_in}
use Rattle.arrow_laws.specs.Arrows.{IsLevel, Reads, FitArrows, IsLevelThroughout}
use Rattle.arrow_laws.specs.Ranked.{AreNodeRanks, order_by, with_orders}
use Rattle.arrow_laws.proofs.Made.{last-there}
use Rattle.order_find.specs.Numbers.{width}
use Rattle.order_find.specs.Unlagged.{IsLevelReference, IsFirstUnlagged}
use Rattle.order_find.specs.Found.{AreLeast, AreFound, IsFindFault}
use Rattle.order_find.specs.declared.fault.FindFault.{FindFault}
use Rattle.order_find.specs.declared.fault.FindFault.TheVariants.{Unlagged, Cycle, Memory}
use Rattle.order_find.specs.declared.link.Link.{Link}
use Rattle.order_find.specs.declared.link.LinkBy.{LinkBy}
use Rattle.order_find.specs.declared.link.LinkBy.TheVariants.{Reference, Below}
use Rattle.order_find.proofs.Turned.{circle-fits-none}
use Rattle.check_order.proofs.Counted.{counted-hold}
use Rattle.model_bind.specs.Files.{RuleFile}
use Rattle.model_bind.specs.declared.fault.DeployFault.{DeployFault}
use Rattle.model_bind.specs.declared.fault.DeployCause.TheVariants as causes
use Rattle.model_bind.specs.Rules.{refused_at}
use Rattle.model_bind.specs.Binding.{link_name, circle_refusal, cycle_refusal, find_refusal, IsRanked, find_stage}
use Rattle.deploy_laws.specs.OneAnswer.{IsCycle, IsSameRefusal, HasOneAnswer}
use Rattle.deploy_laws.proofs.FirstReferences.{there-holds, none-of-all, one-reference}

-- ---- least ranks

module _ (m : BoundModel) (valid : IsSpace m.space) where
  -- a cube has a rank for each of its nodes of a kind
  as-long : (a : NodeRanks) → AreNodeRanks m a → (cube : ℕ) (kind : Bool) → cube < length m.space.cubes → IsTrue (has_nodes m cube kind)
      → length (ranks_in a kind cube) ≡ width m.space cube
  as-long a are cube kind there has =
      let last = last_of m.space cube in
      let (d, is) = place-there (axes m.space cube) last (last-there m.space cube valid there) in
      let at = get_or_from_slice_get (axes m.space cube) last d d is in
      are.each cube kind d there has is ∙ ap (λ (x : Outline). length x.elements) (sym at)
      ∙ sym (get_or-map (λ (x : Outline). length x.elements) (axes m.space cube) last d 0 (last-there m.space cube valid there))

  one-row : (a b : NodeRanks) → AreNodeRanks m a → AreNodeRanks m b → FitArrows m a → FitArrows m b → AreLeast m a → AreLeast m b
      → (cube : ℕ) (kind : Bool) → cube < length m.space.cubes → IsTrue (has_nodes m cube kind) → ranks_in a kind cube ≡ ranks_in b kind cube
  one-row a b are also fit fits least lowest cube kind there has =
      let long = as-long a are cube kind there has in
      ext_get_or 0 (ranks_in a kind cube) (ranks_in b kind cube) (long ∙ sym (as-long b also cube kind there has))
      (λ k low.
      let node : Node = record { cube = cube; element = k; kind = kind } in
      let inside : k < width m.space cube = omega (arith, low, long) in
      let up : get_or (ranks_in a kind cube) k 0 ≤ get_or (ranks_in b kind cube) k 0 = least b fits node there inside has in
      let down : get_or (ranks_in b kind cube) k 0 ≤ get_or (ranks_in a kind cube) k 0 = lowest a fit node there inside has in
      omega (arith, up, down))

  abbrev by-row : ℕ → List ℕ → List Position
  by-row cube row = position_of m cube true 0 ∷ Ranks (last_of m.space cube) row ∷ []

  abbrev by-rows : ℕ → Bool → List ℕ → List ℕ → Order
  by-rows cube kinds leaves totals = record { positions = by-row cube leaves; totals = if kinds then Some (by-row cube totals) else None }

  one-order : (a b : List Order) → AreFound m a → AreFound m b → a ≡ b
  one-order a b x y =
      let n = length m.space.cubes in
      let none : Order = record { positions = []; totals = None } in
      x.made
      ∙ fill_by_all (order_by m y.ranks) (map (order_by m x.ranks) (cubes_of m)) n none (length-map-range_with_len (order_by m x.ranks) 0 n)
      (λ k low. get_or-map-range_with_len (order_by m x.ranks) 0 n k k none low (omega arith) ∙ same k low)
      ∙ sym y.made
    where
      rows : (kind : Bool) (k : ℕ) → k < length m.space.cubes → IsTrue (has_nodes m k kind) → ranks_in x.ranks kind k ≡ ranks_in y.ranks kind k
      rows kind k low has = one-row x.ranks y.ranks x.each y.each x.fit y.fit x.least y.least k kind low has

      same : (k : ℕ) → k < length m.space.cubes → order_by m x.ranks k ≡ order_by m y.ranks k
      same k low = by (has_kinds m k) refl
        where
          by : (kinds : Bool) → has_kinds m k ≡ kinds
              → by-rows k kinds (ranks_in x.ranks true k) (ranks_in x.ranks false k) ≡ by-rows k kinds (ranks_in y.ranks true k) (ranks_in y.ranks false k)
          by true is =
              ap (λ row. by-rows k true row (ranks_in x.ranks false k)) (rows true k low refl)
              ∙ ap (by-rows k true (ranks_in y.ranks true k)) (rows false k low is)
          by false is = ap (λ row. by-rows k false row (ranks_in x.ranks false k)) (rows true k low refl)

one-ranked : (m a b : BoundModel) → IsRanked m a → IsRanked m b → a ≡ b
one-ranked m a b x y =
    let none : Order = record { positions = []; totals = None } in
    x.with_them ∙ ap (λ orders. with_orders m (λ cube. slice_index_or orders cube none)) (one-order m x.space x.orders y.orders x.found y.found) ∙ sym y.with_them

-- ---- references at a greater lag

module _ (m : BoundModel) (level : IsLevelThroughout m) where
  abbrev AllLevel : ℕ → Statement → Type 0
  AllLevel cube s = (kind : Bool) (p : Precedent) → Reads m cube s kind p → IsLevel m cube s kind p

  level-part : (cube : ℕ) (s : Statement) (kind : Bool) → cube < length m.space.cubes → (place : ℕ) → slice_get (rules_of m cube).statements place ≡ Some s
      → (f : Formula) → part_of (rule_of m.space cube s) kind ≡ Some f → (k : ℕ) (d : Precedent) → k < length (precedents f) → IsLevel m cube s kind (get_or (precedents f) k d)
  level-part cube s kind there place here f is k d low =
      there-holds (AllLevel cube) (rules_of m cube).statements place s (level cube there) here kind (get_or (precedents f) k d) (f, is, Contains-get_or (precedents f) k d low)

  none-unlagged : (cube st r : ℕ) → IsFirstUnlagged m cube st r → ⊥
  none-unlagged cube st r x =
      none-of-all (IsLevelReference m cube x.it) x.it r x.first
      (counted-hold (IsLevel m cube x.it) x.it (level-part cube x.it true x.inside x.place x.here) (level-part cube x.it false x.inside x.place x.here))

-- ---- why none is found

module _ (m : BoundModel) (files : List (Option RuleFile)) where
  abbrev told : FindFault → Option DeployFault
  told fault = find_refusal m.space files fault

  circle-told : (links : List Link) (e : DeployFault) → cycle_refusal m.space files links ≡ Some e → IsCycle e
  circle-told [] e is = let clash : None ≡ Some e = is in absurd (cc)
  circle-told (first ∷ rest) e is = by first.by is
    where
      by : (made : LinkBy) → circle_refusal files first.cube made (map (link_name m.space) (first ∷ rest)) ≡ Some e → IsCycle e
      by (Reference statement reference) is =
          let names = map (link_name m.space) (first ∷ rest) in
          let same : refused_at files first.cube statement (causes.Cycle names) ≡ e = cc is in
          (names, ap (λ (f : DeployFault). f.cause) (sym same))
      by Below is = let clash : None ≡ Some e = is in absurd (cc)

  same-told : (a b : FindFault) (e f : DeployFault) → IsFindFault m a → IsFindFault m b → told a ≡ Some e → told b ≡ Some f → IsSameRefusal e f
  same-told (Unlagged cube st r) (Unlagged other tt q) e f x y is also =
      let one : told (Unlagged cube st r) ≡ told (Unlagged other tt q) = one-reference (IsLevelReference m) m (λ k n j. told (Unlagged k n j)) cube other st r tt q x y in
      let same : Some e ≡ Some f = sym is ∙ one ∙ also in
      inl (cc same)
  same-told (Unlagged cube st r) (Cycle links) e f x y is also = absurd (none-unlagged m y.0 cube st r x)
  same-told (Cycle links) (Unlagged cube st r) e f x y is also = absurd (none-unlagged m x.0 cube st r y)
  same-told (Cycle links) (Cycle others) e f x y is also = inr (circle-told links.items e is, circle-told others.items f also)
  same-told Memory b e f x y is also = let clash : None ≡ Some e = is in absurd (cc)
  same-told (Unlagged cube st r) Memory e f x y is also = let clash : None ≡ Some f = also in absurd (cc)
  same-told (Cycle links) Memory e f x y is also = let clash : None ≡ Some f = also in absurd (cc)

  not-told : (ranked : BoundModel) (a : FindFault) (e : DeployFault) → IsRanked m ranked → IsFindFault m a → told a ≡ Some e → ⊥
  not-told ranked (Unlagged cube st r) e x y is = none-unlagged m x.found.level cube st r y
  not-told ranked (Cycle links) e x y is = circle-fits-none m links.items x.found.ranks y.1 x.found.fit
  not-told ranked Memory e x y is = let clash : None ≡ Some e = is in cc

pub single-find : (m : BoundModel) (files : List (Option RuleFile)) → HasOneAnswer (find_stage files m)
single-find m files = record {
  one_found = one-ranked m;
  one_refusal = λ e f h k. same-told m files h.0 k.0 e f h.1 k.1 h.2 k.2;
  not_both = λ a e h k. not-told m files a k.0 e h k.1 k.2;
}
