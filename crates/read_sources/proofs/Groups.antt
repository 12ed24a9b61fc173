-- Sources, parted into single ones and groups.
use Rattle.std.proofs.Common.{◌≡◌, refl, sym, ap, ◌∙◌, arith, subst, ℕ, zero, suc, ◌+◌, ◌<◌, ◌≤◌, ◌⊎◌, inl, inr, Bool, true, false, Some, List, [], ◌∷◌, ◌++◌, length, set, eqb, Contains}
use Rattle.std.specs.Prelude.{slice_get, slice_index_or}
use Rattle.std.proofs.lemmas.Bool.{cases_lt}
use Rattle.std.proofs.lemmas.Bool.Decides.{eqb_tells}
use Rattle.std.proofs.lemmas.List.{length-append, length-set, get_or-set_same, get_or-set_other}
use Rattle.std.proofs.lemmas.List.Elements.{Contains-append_cases, Contains-append_left, Contains-push}
use Rattle.std.proofs.lemmas.Option.{slice_get_within}
use Rattle.lists.proofs.Found.{some_same}
use Rattle.rule_laws.specs.Meaning.{Precedent}
use Rattle.rule_model.specs.declared.area.Area.{Area}
use Rattle.rule_model.specs.declared.rules.Statement.{Statement}
use Rattle.rule_model.specs.BoundModel.{BoundModel}
use Rattle.arrow_laws.specs.Nodes.{Node, kind_in}
use Rattle.arrow_laws.specs.ByDimension.{is_weak, IsJoinedByDimension}
use Rattle.read_sources.specs.declared.source.Source.{Source}
use Rattle.read_sources.specs.declared.parting.Parted.{Parted}
use Rattle.read_sources.specs.Ways.{precedent, way_of}
use Rattle.read_sources.specs.Sources.{IsRead, IsReadBy, AreSourcesOf, most_sources}
use Rattle.read_sources.specs.Parts.{IsAlike, IsShared, IsMember, IsPlaced, AreParts, IsOfGroup, IsPut, ArePartsOfAll, members_in}
use Rattle.read_sources.specs.Parts.{IsReadLike, IsReadIn, SomeMakesArrowsOf, Joins}
use Rattle.read_sources.proofs.Placed.{get-either, get-first, get-second}
use Rattle.read_sources.proofs.SameArrows.{makes-own}

-- ---- lists

one-has : (s t : Source) → Contains (s ∷ []) t → s ≡ t
one-has s t (zero, low, is) = is
one-has s t (suc k, low, is) = absurd (omega (arith, low))

one-at : (s t : Source) (k : ℕ) → slice_get (s ∷ []) k ≡ Some t → (s ≡ t) × (k ≡ 0)
one-at s t zero at = (some_same at, refl)
one-at s t (suc k) at = absurd (cc)

push-has : (xs : List Source) (s t : Source) → Contains (xs ++ s ∷ []) t → Contains xs t ⊎ (s ≡ t)
push-has xs s t has = elim (Contains-append_cases xs (s ∷ []) t has) [ inl old ↦ inl old | inr new ↦ inr (one-has s t new) ]

push-at : (xs : List Source) (s t : Source) (k : ℕ) → slice_get (xs ++ s ∷ []) k ≡ Some t → (slice_get xs k ≡ Some t) ⊎ ((s ≡ t) × (k ≡ length xs))
push-at xs s t k at = elim (get-either xs (s ∷ []) k t at) [
  | inl old ↦ inl old
  | inr (j, from, new) ↦ let (is, none) = one-at s t j new in inr (is, omega (arith, from, none))
]

abbrev row : List (List Source) → ℕ → List Source
row groups g = slice_index_or groups g []

-- one group more
more-has : (groups : List (List Source)) (own : List Source) (g : ℕ) (t : Source) → Contains (row (groups ++ own ∷ []) g) t → Contains (row groups g) t ⊎ ((g ≡ length groups) × Contains own t)
more-has [] own zero t has = inr (refl, has)
more-has [] own (suc g) t (k, low, is) = absurd (omega (arith, low))
more-has (first ∷ groups) own zero t has = inl has
more-has (first ∷ groups) own (suc g) t has = elim (more-has groups own g t has) [ inl old ↦ inl old | inr (at, new) ↦ inr (omega (arith, at), new) ]

has-more : (groups : List (List Source)) (own : List Source) (g : ℕ) (t : Source) → Contains (row groups g) t → Contains (row (groups ++ own ∷ []) g) t
has-more [] own zero t (k, low, is) = absurd (omega (arith, low))
has-more [] own (suc g) t (k, low, is) = absurd (omega (arith, low))
has-more (first ∷ groups) own zero t has = has
has-more (first ∷ groups) own (suc g) t has = has-more groups own g t has

has-own : (groups : List (List Source)) (own : List Source) (t : Source) → Contains own t → Contains (row (groups ++ own ∷ []) (length groups)) t
has-own [] own t has = has
has-own (first ∷ groups) own t has = has-own groups own t has

more-long : (groups : List (List Source)) (own : List Source) (g n : ℕ) → ((h : ℕ) → length (row groups h) ≤ n) → length own ≤ n → length (row (groups ++ own ∷ []) g) ≤ n
more-long [] own zero n each few = few
more-long [] own (suc g) n each few = omega arith
more-long (first ∷ groups) own zero n each few = each 0
more-long (first ∷ groups) own (suc g) n each few = more-long groups own g n (λ h. each (suc h)) few

-- ---- one source more

-- whether a number is another one
abbrev Tells : ℕ → ℕ → Type 0
Tells g i = ((eqb g i ≡ true) × (g ≡ i)) ⊎ ((eqb g i ≡ false) × (g ≡ i → ⊥))

module _ (m : BoundModel) (s : Source) (old new : Parted) (read : IsRead m s) where
  kept-member : (t : Source) → length old.heads.items ≤ length new.heads.items → ((g : ℕ) → Contains (members_in old g) t → Contains (members_in new g) t) → IsMember m old.heads.items old.groups.items t
      → IsMember m new.heads.items new.groups.items t
  kept-member t heads has member = record { group = member.group; low = omega (arith, member.low, heads); has = has member.group member.has; shared = member.shared }

  pub put-single : new.singles.items ≡ old.singles.items ++ s ∷ [] → new.heads.items ≡ old.heads.items → new.groups.items ≡ old.groups.items → IsPut m s old new
  put-single singles heads groups = record {
    parts = λ count h. record {
      singles = λ k t at. elim (push-at old.singles.items s t k (ap (λ xs. slice_get xs k) (sym singles) ∙ at)) [ inl was ↦ h.singles k t was | inr (is, now) ↦ subst (IsRead m) is read ];
      heads = λ g t at. h.heads g t (ap (λ xs. slice_get xs g) (sym heads) ∙ at);
      members = λ g t has. h.members g t (subst (λ gs. Contains (row gs g) t) groups has);
      alike = λ g head t at has. h.alike g head t (ap (λ xs. slice_get xs g) (sym heads) ∙ at) (subst (λ gs. Contains (row gs g) t) groups has);
      whole = ap (λ (gs : List (List Source)). length gs) groups ∙ h.whole ∙ sym (ap (λ (xs : List Source). length xs) heads);
      few_singles = omega (arith, ap (λ (xs : List Source). length xs) singles, length-append old.singles.items (s ∷ []), h.few_singles);
      few_heads = omega (arith, ap (λ (xs : List Source). length xs) heads, h.few_heads);
      few_members = λ g. omega (arith, ap (λ gs. length (row gs g)) groups, h.few_members g);
    };
    keeps = λ t placed. elim placed [
      | inl was ↦ inl (stays-made t singles was)
      | inr member ↦ inr (kept-member t (omega (arith, ap (λ (xs : List Source). length xs) heads)) (λ g has. subst (λ gs. Contains (row gs g) t) (sym groups) has) member)
    ];
    placed = inl (record {
      k = length old.singles.items;
      one = s;
      here = ap (λ xs. slice_get xs (length old.singles.items)) singles ∙ get-second old.singles.items (s ∷ []) (length old.singles.items) 0 s (omega arith) refl;
      makes = makes-own m s;
    });
  }
    where
      stays-made : (t : Source) → new.singles.items ≡ old.singles.items ++ s ∷ [] → SomeMakesArrowsOf m old.singles.items t → SomeMakesArrowsOf m new.singles.items t
      stays-made t singles was = record {
        k = was.k;
        one = was.one;
        here = ap (λ xs. slice_get xs was.k) singles ∙ get-first old.singles.items (s ∷ []) was.k was.one was.here;
        makes = was.makes;
      }

  pub put-begin : new.singles.items ≡ old.singles.items → new.heads.items ≡ old.heads.items ++ s ∷ [] → new.groups.items ≡ old.groups.items ++ (s ∷ []) ∷ []
      → length old.groups.items ≡ length old.heads.items → IsShared (way_of m s) → IsPut m s old new
  put-begin singles heads groups whole shared = record {
    parts = λ count h. record {
      singles = λ k t at. h.singles k t (ap (λ xs. slice_get xs k) (sym singles) ∙ at);
      heads = λ g t at. elim (push-at old.heads.items s t g (ap (λ xs. slice_get xs g) (sym heads) ∙ at)) [ inl was ↦ h.heads g t was | inr (is, now) ↦ subst (IsRead m) is read ];
      members = λ g t has. elim (of g t has) [ inl was ↦ h.members g t was | inr (at, is) ↦ subst (IsRead m) is read ];
      alike = λ g head t at has. by count h g head t (push-at old.heads.items s head g (ap (λ xs. slice_get xs g) (sym heads) ∙ at)) (of g t has);
      whole = omega (arith, ap (λ (gs : List (List Source)). length gs) groups, length-append old.groups.items ((s ∷ []) ∷ []), ap (λ (xs : List Source). length xs) heads, length-append old.heads.items (s ∷ []), whole);
      few_singles = omega (arith, ap (λ (xs : List Source). length xs) singles, h.few_singles);
      few_heads = omega (arith, ap (λ (xs : List Source). length xs) heads, length-append old.heads.items (s ∷ []), h.few_heads);
      few_members = λ g. omega (arith, ap (λ gs. length (row gs g)) groups, more-long old.groups.items (s ∷ []) g (suc count) (λ h'. omega (arith, h.few_members h')) (omega arith));
    };
    keeps = λ t placed. elim placed [
      | inl was ↦ inl (subst (λ xs. SomeMakesArrowsOf m xs t) (sym singles) was)
      | inr member ↦ inr (kept-member t (omega (arith, ap (λ (xs : List Source). length xs) heads, length-append old.heads.items (s ∷ []))) (λ g has. subst (λ gs. Contains (row gs g) t) (sym groups) (has-more old.groups.items (s ∷ []) g t has)) member)
    ];
    placed = inr (record {
      group = length old.groups.items;
      low = omega (arith, ap (λ (xs : List Source). length xs) heads, length-append old.heads.items (s ∷ []), whole);
      has = subst (λ gs. Contains (row gs (length old.groups.items)) s) (sym groups) (has-own old.groups.items (s ∷ []) s (0, omega arith, refl));
      shared = shared;
    });
  }
    where
      of : (g : ℕ) (t : Source) → Contains (members_in new g) t → Contains (members_in old g) t ⊎ ((g ≡ length old.groups.items) × (s ≡ t))
      of g t has = elim (more-has old.groups.items (s ∷ []) g t (subst (λ gs. Contains (row gs g) t) groups has)) [ inl was ↦ inl was | inr (at, own) ↦ inr (at, one-has s t own) ]

      itself : IsAlike m s s
      itself = record { cube = refl; kind = refl; its = refl; asks = refl; elsewhere = refl; reads = λ e. refl; gives = λ d e. refl; serves = λ e. refl; reads_in = λ d e same. refl }

      past : (g : ℕ) (t : Source) → length old.groups.items ≤ g → Contains (members_in old g) t → ⊥
      past g t high has = let (k, low, is) = subst (λ r. Contains r t) (Rattle.std.proofs.lemmas.List.get_or_past old.groups.items g [] high) has in omega (arith, low)

      by : (count : ℕ) → AreParts m count old → (g : ℕ) (head t : Source) → (slice_get old.heads.items g ≡ Some head) ⊎ ((s ≡ head) × (g ≡ length old.heads.items))
          → Contains (members_in old g) t ⊎ ((g ≡ length old.groups.items) × (s ≡ t)) → IsAlike m head t
      by count h g head t (inl at) (inl has) = h.alike g head t at has
      by count h g head t (inl at) (inr (now, is)) = absurd (omega (arith, slice_get_within old.heads.items g head at, now, whole))
      by count h g head t (inr (is, now)) (inl has) = absurd (past g t (omega (arith, now, whole)) has)
      by count h g head t (inr (is, now)) (inr (at, same)) = subst (λ x. IsAlike m x t) is (subst (IsAlike m s) same itself)

  pub put-join : (g : ℕ) → new.singles.items ≡ old.singles.items → new.heads.items ≡ old.heads.items → new.groups.items ≡ set old.groups.items g (row old.groups.items g ++ s ∷ [])
      → length old.groups.items ≡ length old.heads.items → IsOfGroup m old g s → IsShared (way_of m s) → IsPut m s old new
  put-join g singles heads groups whole of_group shared = record {
    parts = λ count h. record {
      singles = λ k t at. h.singles k t (ap (λ xs. slice_get xs k) (sym singles) ∙ at);
      heads = λ i t at. h.heads i t (ap (λ xs. slice_get xs i) (sym heads) ∙ at);
      members = λ i t has. elim (of i t has) [ inl was ↦ h.members i t was | inr (at, is) ↦ subst (IsRead m) is read ];
      alike = λ i head t at has. by count h i head t (ap (λ xs. slice_get xs i) (sym heads) ∙ at) (of i t has);
      whole = ap (λ (gs : List (List Source)). length gs) groups ∙ length-set old.groups.items g (row old.groups.items g ++ s ∷ []) ∙ whole ∙ sym (ap (λ (xs : List Source). length xs) heads);
      few_singles = omega (arith, ap (λ (xs : List Source). length xs) singles, h.few_singles);
      few_heads = omega (arith, ap (λ (xs : List Source). length xs) heads, h.few_heads);
      few_members = λ i. long count h i (eqb_tells g i);
    };
    keeps = λ t placed. elim placed [
      | inl was ↦ inl (subst (λ xs. SomeMakesArrowsOf m xs t) (sym singles) was)
      | inr member ↦ inr (kept-member t (omega (arith, ap (λ (xs : List Source). length xs) heads)) (λ i has. on i t has (eqb_tells g i)) member)
    ];
    placed = inr (record {
      group = g;
      low = omega (arith, ap (λ (xs : List Source). length xs) heads, slice_get_within old.heads.items g of_group.head of_group.at);
      has = subst (λ r. Contains r s) (sym same) (Contains-push (row old.groups.items g) s);
      shared = shared;
    });
  }
    where
      low : g < length old.groups.items
      low = omega (arith, slice_get_within old.heads.items g of_group.head of_group.at, whole)

      same : members_in new g ≡ row old.groups.items g ++ s ∷ []
      same = ap (λ gs. row gs g) groups ∙ get_or-set_same old.groups.items g (row old.groups.items g ++ s ∷ []) [] low

      other : (i : ℕ) → (g ≡ i → ⊥) → members_in new i ≡ members_in old i
      other i not = ap (λ gs. row gs i) groups ∙ get_or-set_other old.groups.items g i (row old.groups.items g ++ s ∷ []) [] (λ is. not (sym is))

      of-by : (i : ℕ) (t : Source) → Tells g i → Contains (members_in new i) t → Contains (members_in old i) t ⊎ ((g ≡ i) × (s ≡ t))
      of-by i t (inl (e, is)) has = elim (push-has (row old.groups.items g) s t (subst (λ r. Contains r t) same (subst (λ j. Contains (members_in new j) t) (sym is) has))) [
        | inl was ↦ inl (subst (λ j. Contains (members_in old j) t) is was)
        | inr own ↦ inr (is, own)
      ]
      of-by i t (inr (e, not)) has = inl (subst (λ r. Contains r t) (other i not) has)

      of : (i : ℕ) (t : Source) → Contains (members_in new i) t → Contains (members_in old i) t ⊎ ((g ≡ i) × (s ≡ t))
      of i t has = of-by i t (eqb_tells g i) has

      on : (i : ℕ) (t : Source) → Contains (members_in old i) t → Tells g i → Contains (members_in new i) t
      on i t has (inl (e, is)) =
          subst (λ j. Contains (members_in new j) t) is (subst (λ r. Contains r t) (sym same) (Contains-append_left (row old.groups.items g) (s ∷ []) t (subst (λ j. Contains (members_in old j) t) (sym is) has)))
      on i t has (inr (e, not)) = subst (λ r. Contains r t) (sym (other i not)) has

      long : (count : ℕ) → AreParts m count old → (i : ℕ) → Tells g i → length (members_in new i) ≤ suc count
      long count h i (inl (e, is)) =
          subst (λ j. length (members_in new j) ≤ suc count) is (omega (arith, ap (λ (r : List Source). length r) same, length-append (row old.groups.items g) (s ∷ []), h.few_members g))
      long count h i (inr (e, not)) = omega (arith, ap (λ (r : List Source). length r) (other i not), h.few_members i)

      by : (count : ℕ) → AreParts m count old → (i : ℕ) (head t : Source) → slice_get old.heads.items i ≡ Some head → Contains (members_in old i) t ⊎ ((g ≡ i) × (s ≡ t)) → IsAlike m head t
      by count h i head t at (inl has) = h.alike i head t at has
      by count h i head t at (inr (is, own)) =
          let equal : of_group.head ≡ head = some_same (sym of_group.at ∙ ap (slice_get old.heads.items) is ∙ at) in
          subst (IsAlike m head) own (subst (λ x. IsAlike m x s) equal of_group.alike)

-- a source whose arrows a single one makes
pub put-made : (m : BoundModel) (s : Source) (parted : Parted) → SomeMakesArrowsOf m parted.singles.items s → IsPut m s parted parted
put-made m s parted made = record {
  parts = λ count h. record {
    singles = h.singles;
    heads = h.heads;
    members = h.members;
    alike = h.alike;
    whole = h.whole;
    few_singles = omega (arith, h.few_singles);
    few_heads = omega (arith, h.few_heads);
    few_members = λ g. omega (arith, h.few_members g);
  };
  keeps = λ t placed. placed;
  placed = inl made;
}

-- ---- all of them

-- those before one are placed
pub record AreParted (m : BoundModel) (sources : List Source) (k : ℕ) (parted : Parted) : Type 0 where
  pub parts : AreParts m k parted
  pub each : (j : ℕ) (s : Source) → j < k → slice_get sources j ≡ Some s → IsPlaced m parted s

pub parted-none : (m : BoundModel) (sources : List Source) (parted : Parted) → parted.singles.items ≡ [] → parted.heads.items ≡ [] → parted.groups.items ≡ [] → AreParted m sources 0 parted
parted-none m sources parted singles heads groups = record {
  parts = record {
    singles = λ k s at. absurd (none k s (ap (λ xs. slice_get xs k) (sym singles) ∙ at));
    heads = λ k s at. absurd (none k s (ap (λ xs. slice_get xs k) (sym heads) ∙ at));
    members = λ g s has. absurd (no-member g s has);
    alike = λ g head s at has. absurd (no-member g s has);
    whole = ap (λ (gs : List (List Source)). length gs) groups ∙ sym (ap (λ (xs : List Source). length xs) heads);
    few_singles = omega (arith, ap (λ (xs : List Source). length xs) singles);
    few_heads = omega (arith, ap (λ (xs : List Source). length xs) heads);
    few_members = λ g. omega (arith, ap (λ (gs : List (List Source)). length (row gs g)) groups);
  };
  each = λ j s low. absurd (omega (arith, low));
}
  where
    none : (k : ℕ) (s : Source) → slice_get [] k ≡ Some s → ⊥
    none k s at = cc

    no-member : (g : ℕ) (s : Source) → Contains (members_in parted g) s → ⊥
    no-member g s has = let (k, low, is) = subst (λ (gs : List (List Source)). Contains (row gs g) s) groups has in omega (arith, low)

pub parted-more : (m : BoundModel) (sources : List Source) (k : ℕ) (s : Source) (old new : Parted) → slice_get sources k ≡ Some s → AreParted m sources k old → IsPut m s old new → AreParted m sources (k + 1) new
parted-more m sources k s old new at so put = record {
  parts = let next : suc k ≡ k + 1 = omega arith in subst (λ n. AreParts m n new) next (put.parts k so.parts);
  each = λ j t low is. elim (cases_lt j k) [
    | inl before ↦ put.keeps t (so.each j t before is)
    | inr now ↦
        let same : k ≡ j = omega (arith, low, now) in
        subst (IsPlaced m new) (some_same (sym at ∙ ap (slice_get sources) same ∙ is)) put.placed
  ];
}

-- what is read makes the arrows of its source, and the source that was kept for it makes them too
module _ (m : BoundModel) (cube : ℕ) (area : Area) (kind : Bool) (read : Precedent) (s : Source) (own : s.cube ≡ cube) (same_area : s.area.now ≡ area) (same_kind : s.kind ≡ kind) (same_read : precedent s ≡ read) where
  joined-by : (from to : Node) → s.its ≡ kind_in m to.cube to.kind → IsJoinedByDimension m cube area kind read from to → Joins m s from to
  joined-by from to same_its joined =
      let by_area = subst (λ a. IsJoinedByDimension m cube a kind read from to) (sym same_area) joined in
      let by_kind = subst (λ b. IsJoinedByDimension m cube s.area.now b read from to) (sym same_kind) by_area in
      let by_read = subst (λ x. IsJoinedByDimension m cube s.area.now s.kind x from to) (sym same_read) by_kind in
      record { meant = sym same_its; joined = subst (λ c. IsJoinedByDimension m c s.area.now s.kind (precedent s) from to) (sym own) by_read }

  weak-by : IsRead m s → s.weak ≡ is_weak m cube area kind read
  weak-by is =
      is.weak ∙ ap (λ c. is_weak m c s.area.now s.kind (precedent s)) own ∙ ap (λ a. is_weak m cube a s.kind (precedent s)) same_area ∙ ap (λ b. is_weak m cube area b (precedent s)) same_kind
      ∙ ap (is_weak m cube area kind) same_read

module _ (m : BoundModel) (sources : List Source) (cube : ℕ) (statement : Statement) (kind : Bool) (read : Precedent) (from to : Node) (by : IsReadBy sources cube statement kind read (kind_in m to.cube to.kind)) (is : IsRead m by.source)
    (joined : IsJoinedByDimension m cube statement.area kind read from to) where
  joins : Joins m by.source from to
  joins = joined-by m cube statement.area kind read by.source by.own by.area by.same_kind by.same_read from to by.same_its joined

  weak-is : by.source.weak ≡ is_weak m cube statement.area kind read
  weak-is = weak-by m cube statement.area kind read by.source by.own by.area by.same_kind by.same_read is

  read-like : (singles : List Source) → SomeMakesArrowsOf m singles by.source → IsReadLike m singles cube statement kind read from to
  read-like singles made = record { k = made.k; source = made.one; here = made.here; weak = made.makes.weak ∙ weak-is; joins = made.makes.joins from to joins }

  read-in : (heads : List Source) (groups : List (List Source)) → IsMember m heads groups by.source → IsReadIn m heads groups cube statement kind read from to
  read-in heads groups member = record { source = by.source; member = member; weak = weak-is; joins = joins }

pub parts-of-all : (m : BoundModel) (sources : List Source) (k : ℕ) (parted : Parted) → length sources ≤ k → k ≤ most_sources → AreSourcesOf m sources → AreParted m sources k parted → ArePartsOfAll m parted
parts-of-all m sources k parted long few are so = record {
  parts = record {
    singles = so.parts.singles;
    heads = so.parts.heads;
    members = so.parts.members;
    alike = so.parts.alike;
    whole = so.parts.whole;
    few_singles = omega (arith, so.parts.few_singles, few);
    few_heads = omega (arith, so.parts.few_heads, few);
    few_members = λ g. omega (arith, so.parts.few_members g, few);
  };
  all = λ cube statement kind read there stands reads level not_lagged from to joined. (let by = are.all cube statement kind read there stands reads level not_lagged from to joined in
      let is = are.read by.k by.source by.here in
      elim (so.each by.k by.source (omega (arith, slice_get_within sources by.k by.source by.here, long)) by.here) [
        | inl made ↦ inl (read-like m sources cube statement kind read from to by is joined parted.singles.items made)
        | inr member ↦ inr (read-in m sources cube statement kind read from to by is joined parted.heads.items parted.groups.items member)
      ]);
}
