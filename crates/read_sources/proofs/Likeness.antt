-- Sources that read from the same elements.
use Rattle.std.proofs.Common.{◌≡◌, refl, sym, ap, ◌∙◌, arith, ℕ, suc, ◌+◌, ◌<◌, inl, inr, ◌⊎◌, Bool, true, false, not, ◌&&◌, ◌||◌, ◌==◌, Option, Some, None, is_some, nat_lt, List, [], ◌∷◌, length, if◌then◌else◌}
use Rattle.std.specs.Prelude.{slice_get, slice_index_or}
use Rattle.std.specs.List.{list_all}
use Rattle.std.specs.Option.{option_map_or}
use Rattle.std.proofs.lemmas.Bool.{cases_lt}
use Rattle.std.proofs.lemmas.Option.{slice_get-get_or}
use Rattle.lists.proofs.Found.{some_same}
use Rattle.dim_core.specs.Outline.{Outline}
use Rattle.cube_space.specs.Layout.{Layout, axes, sizes}
use Rattle.rule_laws.specs.declared.reference.Reference.{Reference}
use Rattle.rule_laws.specs.Meaning.{Precedent, Named, Components}
use Rattle.rule_laws.specs.declared.reference.Arg.{Arg}
use Rattle.rule_laws.specs.declared.reference.Arg.TheVariants.{Fixed, Moved}
use Rattle.rule_model.specs.declared.area.Area.{Area}
use Rattle.rule_model.specs.declared.rules.Statement.{Statement}
use Rattle.rule_model.specs.Areas.{in_set}
use Rattle.rule_model.specs.BoundModel.{BoundModel, rules_of}
use Rattle.order_laws.specs.Scales.{is_total, is_leaf_element}
use Rattle.order_laws.specs.Earlier.{kinds_before, moved_leaves}
use Rattle.cover_laws.specs.Looking.{sent}
use Rattle.arrow_laws.specs.Nodes.{last_of}
use Rattle.arrow_laws.specs.ByDimension.{admits, asks_total, names_from, serves, names_total, is_from, read_cube}
use Rattle.read_sources.specs.declared.source.Source.{Source}
use Rattle.read_sources.specs.declared.source.Given.{Given}
use Rattle.read_sources.specs.Ways.{precedent, reads_from, gives_total, meets, suits, serves_any}
use Rattle.read_sources.specs.Sources.{IsRead}
use Rattle.read_sources.specs.Parts.{followed, IsAlike, AreArgsAlike, AreReadsAlike, DoAskAlike, AreSetsSame}

-- ---- arguments

-- those at one place more follow the same
abbrev pub FollowUpTo : List Arg → List Arg → ℕ → Type 0
FollowUpTo one other i =
    (j : ℕ) (x y : Arg) → j < i → slice_get one j ≡ Some x → slice_get other j ≡ Some y → followed x ≡ followed y

pub follow-more : (one other : List Arg) (i : ℕ) (x y : Arg) → i < length one → i < length other → x ≡ slice_index_or one i x → y ≡ slice_index_or other i y → followed x ≡ followed y → FollowUpTo one other i
    → FollowUpTo one other (i + 1)
follow-more one other i x y low less here there same so j a b below at is = elim (cases_lt j i) [
  | inl before ↦ so j a b before at is
  | inr now ↦
      let equal : j ≡ i = omega (arith, below, now) in
      let first : a ≡ x = some_same (sym at ∙ ap (slice_get one) equal ∙ slice_get-get_or one i x low) ∙ sym here in
      let second : b ≡ y = some_same (sym is ∙ ap (slice_get other) equal ∙ slice_get-get_or other i y less) ∙ sym there in
      ap followed first ∙ same ∙ sym (ap followed second)
]

names-alike : (i e : ℕ) (x y : Arg) → followed x ≡ followed y → names_from i e x ≡ names_from i e y
names-alike i e (Fixed t) (Fixed u) same = refl
names-alike i e (Fixed t) (Moved from to) same = absurd (cc)
names-alike i e (Moved from to) (Fixed u) same = absurd (cc)
names-alike i e (Moved from to) (Moved its by) same =
    ap (λ (q : ℕ × List (Option ℕ)). not (i == q.0) || is_some (sent q.1 e)) (some_same same)

pub args-serve : (i e : ℕ) (xs ys : List Arg) → AreArgsAlike xs ys → list_all (names_from i e) xs ≡ list_all (names_from i e) ys
args-serve i e [] [] alike = refl
args-serve i e [] (y ∷ ys) alike = absurd (omega (arith, alike.long))
args-serve i e (x ∷ xs) [] alike = absurd (omega (arith, alike.long))
args-serve i e (x ∷ xs) (y ∷ ys) alike =
    let here : names_from i e x ≡ names_from i e y = names-alike i e x y (alike.each 0 x y refl refl) in
    let rest : list_all (names_from i e) xs ≡ list_all (names_from i e) ys = args-serve i e xs ys (record { long = omega (arith, alike.long); each = λ j a b at is. alike.each (suc j) a b at is }) in
    ap (λ b. b && list_all (names_from i e) xs) here ∙ ap (λ b. names_from i e y && b) rest

-- ---- areas

-- sources of one statement have one area
pub same-statement : (m : BoundModel) (one other : Source) (dim : ℕ) → IsRead m one → IsRead m other → one.cube ≡ other.cube → one.statement ≡ other.statement → AreSetsSame dim one other
same-statement m one other dim read its cube number =
    let place : read.place ≡ its.place = omega (arith, read.number, its.number, number) in
    let both : Some read.statement ≡ Some its.statement = sym read.here ∙ ap (λ c. slice_get (rules_of m c).statements read.place) cube ∙ ap (slice_get (rules_of m other.cube).statements) place ∙ its.here in
    let area : one.area.now ≡ other.area.now = read.area ∙ ap (λ (s : Statement). s.area) (some_same both) ∙ sym its.area in
    ap (λ (a : Area). slice_index_or a.sets dim None) area

-- ---- what is asked

pub suits-alike : (one other : Source) → one.kind ≡ other.kind → one.asks ≡ other.asks → one.elsewhere ≡ other.elsewhere → (own its : Bool) → suits one own its ≡ suits other own its
suits-alike one other kind asks elsewhere own its =
    ap (λ k. by one.elsewhere k one.asks) kind ∙ ap (λ a. by one.elsewhere other.kind a) asks ∙ ap (λ g. by g other.kind other.asks) elsewhere
  where
    by : Given → Bool → Bool → Bool
    by given k a = meets given (record { own = not k && not own; its = a && not its })

-- ---- what is read

module _ (dims : List Outline) (i e : ℕ) where
  -- the arguments name leaves alike
  moved-alike : (j : ℕ) (xs ys : List Arg) → AreArgsAlike xs ys → moved_leaves dims j xs i e ≡ moved_leaves dims j ys i e
  moved-alike j [] [] alike = refl
  moved-alike j [] (y ∷ ys) alike = absurd (omega (arith, alike.long))
  moved-alike j (x ∷ xs) [] alike = absurd (omega (arith, alike.long))
  moved-alike j (x ∷ xs) (y ∷ ys) alike =
      here x y (alike.each 0 x y refl refl) (moved-alike (suc j) xs ys (record { long = omega (arith, alike.long); each = λ k a b at is. alike.each (suc k) a b at is }))
    where
      by : ℕ × List (Option ℕ) → Bool → Bool
      by q rest = if i == q.0 then option_map_or (is_leaf_element dims j) (sent q.1 e) true && rest else rest

      here : (x y : Arg) → followed x ≡ followed y → moved_leaves dims (suc j) xs i e ≡ moved_leaves dims (suc j) ys i e → moved_leaves dims j (x ∷ xs) i e ≡ moved_leaves dims j (y ∷ ys) i e
      here (Fixed t) (Fixed u) same rest = rest
      here (Fixed t) (Moved from to) same rest = absurd (cc)
      here (Moved from to) (Fixed u) same rest = absurd (cc)
      here (Moved from to) (Moved its map) same rest = ap (by (from, to)) rest ∙ ap (λ (q : ℕ × List (Option ℕ)). by q (moved_leaves dims (suc j) ys i e)) (some_same same)

module _ (space : Layout) (cube : ℕ) (its : Option Bool) (i e : ℕ) where
  admits-alike : (a b : Bool) → (its ≡ None) ⊎ (a ≡ b) → admits its a ≡ admits its b
  admits-alike a b (inl none) = ap (λ o. admits o a) none ∙ sym (ap (λ o. admits o b) none)
  admits-alike a b (inr same) = ap (admits its) same

  cubes-alike : (r q : Reference) → AreArgsAlike r.args q.args → (its ≡ None) ⊎ (r.cube ≡ q.cube)
      → (its ≡ None) ⊎ (moved_leaves (axes space r.cube) 0 r.args i e ≡ moved_leaves (axes space q.cube) 0 q.args i e)
  cubes-alike r q alike (inl none) = inl none
  cubes-alike r q alike (inr same) = inr (moved-alike (axes space r.cube) i e 0 r.args q.args alike ∙ ap (λ c. moved_leaves (axes space c) 0 q.args i e) same)

  pub serves-alike : (p q : Precedent) → AreReadsAlike p q → (its ≡ None) ⊎ (read_cube cube p ≡ read_cube cube q) → serves space cube p its i e ≡ serves space cube q its i e
  serves-alike (Named r) (Named q) alike same =
      let leaves : Bool → Bool = λ b. list_all (names_from i e) q.args && b in
      ap (λ b. b && admits its (moved_leaves (axes space r.cube) 0 r.args i e)) (args-serve i e r.args q.args alike)
      ∙ ap leaves (admits-alike (moved_leaves (axes space r.cube) 0 r.args i e) (moved_leaves (axes space q.cube) 0 q.args i e) (cubes-alike r q alike same))
  serves-alike (Named r) (Components dim) alike same = absurd alike
  serves-alike (Components dim) (Named q) alike same = absurd alike
  serves-alike (Components dim) (Components other) alike same = ap (λ d. serves space cube (Components d) its i e) alike

  pub names-total-alike : (p q : Precedent) → AreReadsAlike p q → read_cube cube p ≡ read_cube cube q → names_total space cube p i e ≡ names_total space cube q i e
  names-total-alike (Named r) (Named q) alike same = ap not (moved-alike (axes space r.cube) i e 0 r.args q.args alike ∙ ap (λ c. moved_leaves (axes space c) 0 q.args i e) same)
  names-total-alike (Named r) (Components dim) alike same = absurd alike
  names-total-alike (Components dim) (Named q) alike same = absurd alike
  names-total-alike (Components dim) (Components other) alike same = ap (λ d. names_total space cube (Components d) i e) alike

-- ---- sources

-- where nothing is meant apart, nothing is asked of it
none-asked : (m : BoundModel) (s : Source) → IsRead m s → s.its ≡ None → s.asks ≡ false
none-asked m s read none = read.asks ∙ ap (λ o. asks_total o (kinds_before m (precedent s)).its) none

pub alike-of : (m : BoundModel) (one other : Source) → IsRead m one → IsRead m other → one.cube ≡ other.cube → DoAskAlike one other → AreSetsSame (last_of m.space one.cube) one other
    → AreReadsAlike (precedent one) (precedent other) → IsAlike m one other
unfolding is_from
alike-of m one other read its cube asks sets reads = record {
  cube = cube;
  kind = asks.kind;
  its = asks.mean.0;
  asks = asks.asks;
  elsewhere = asks.elsewhere;
  reads = λ e. from (last_of m.space one.cube) e sets;
  gives = gives;
  serves = any;
  reads_in = from;
}
  where
    mean : (one.its ≡ None) ⊎ (read_cube one.cube (precedent one) ≡ read_cube one.cube (precedent other))
    mean = elim asks.mean.1 [ inl none ↦ inl none | inr same ↦ inr (same ∙ ap (λ c. read_cube c (precedent other)) (sym cube)) ]

    test : ℕ → ℕ → Option (List ℕ) → Bool → Bool → ℕ → Bool
    test d c set kind serving e = (nat_lt e (slice_index_or (sizes m.space c) d 0) && in_set set e) && (admits (Some kind) (is_leaf_element (axes m.space c) d e) && serving)

    serving : (d e : ℕ) → serves m.space one.cube (precedent one) one.its d e ≡ serves m.space one.cube (precedent other) other.its d e
    serving d e = serves-alike m.space one.cube one.its d e (precedent one) (precedent other) reads mean ∙ ap (λ o. serves m.space one.cube (precedent other) o d e) asks.mean.0

    from : (d e : ℕ) → AreSetsSame d one other → reads_from m one d e ≡ reads_from m other d e
    from d e same =
        ap (λ set. test d one.cube set one.kind (serves m.space one.cube (precedent one) one.its d e) e) same
        ∙ ap (λ k. test d one.cube (slice_index_or other.area.now.sets d None) k (serves m.space one.cube (precedent one) one.its d e) e) asks.kind
        ∙ ap (λ b. test d one.cube (slice_index_or other.area.now.sets d None) other.kind b e) (serving d e)
        ∙ ap (λ c. test d c (slice_index_or other.area.now.sets d None) other.kind (serves m.space c (precedent other) other.its d e) e) cube

    gives : (d e : ℕ) → gives_total m one d e ≡ gives_total m other d e
    gives d e = by mean
      where
        by : (one.its ≡ None) ⊎ (read_cube one.cube (precedent one) ≡ read_cube one.cube (precedent other)) → gives_total m one d e ≡ gives_total m other d e
        by (inl none) =
            ap (λ b. b && names_total m.space one.cube (precedent one) d e) (none-asked m one read none)
            ∙ sym (ap (λ b. b && names_total m.space other.cube (precedent other) d e) (none-asked m other its (sym asks.mean.0 ∙ none)))
        by (inr same) =
            ap (λ b. b && names_total m.space one.cube (precedent one) d e) asks.asks
            ∙ ap (λ b. other.asks && b) (names-total-alike m.space one.cube one.its d e (precedent one) (precedent other) reads same)
            ∙ ap (λ c. other.asks && names_total m.space c (precedent other) d e) cube

    any : (e : ℕ) → serves_any m one e ≡ serves_any m other e
    any e =
        ap (λ c. suits one (is_total (axes m.space c) (last_of m.space c) e) (gives_total m one (last_of m.space c) e)) cube
        ∙ ap (λ b. suits one (is_total (axes m.space other.cube) (last_of m.space other.cube) e) b) (gives (last_of m.space other.cube) e)
        ∙ suits-alike one other asks.kind asks.asks asks.elsewhere (is_total (axes m.space other.cube) (last_of m.space other.cube) e) (gives_total m other (last_of m.space other.cube) e)
