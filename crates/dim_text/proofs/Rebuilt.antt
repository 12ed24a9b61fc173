-- What is written of a dimension builds it again.
use Rattle.std.proofs.Common.{◌≡◌, ◌<◌, ℕ, ℤ, List, [], ◌∷◌, ◌++◌, length, map, take, get_or, Ok, None, refl, sym, ap, ◌∙◌, subst, inl, inr, arith, append_assoc, append-nil, length-append, IsTrue}
use Rattle.std.proofs.Math.Seq.{get_or-append_seam, take-append_seam}
use Rattle.std.proofs.lemmas.List.{get_or-map, length-map, map-append}
use Rattle.std.proofs.lemmas.List.Elements.{All-head, All-tail, All-map, All-weaker}
use Rattle.std.specs.List.{All, AllZip, IsDistinct, flat_map}
use Rattle.cube_lex.specs.Lexeme.{Lexeme}
use Rattle.cube_lex.specs.Positions.{nowhere}
use Rattle.cube_lex.specs.Written.{spelling_of}
use Rattle.cube_lex.specs.declared.position.Position.{Position}
use Rattle.dim_name.specs.Name.{is_name, is_same_name}
use Rattle.dim_core.proofs.Naming.{place_at}
use Rattle.dim_core.proofs.OwnDefinitions.{element_accepted, written_finishes, names_of-written as names_again}
use Rattle.dim_core.specs.Draft.{Draft, IsFinished, IsResolved, IsResolvedAttribute, with_element}
use Rattle.dim_core.specs.Outline.{Element, Outline, IsDimension, IsWeight, names_of, name_of, components_of}
use Rattle.dim_core.specs.Refusal.{refusal_of, finish_refusal_of}
use Rattle.dim_core.specs.Written.{by_name, written, written_element, written_attribute}
use Rattle.dim_core.specs.declared.attribute.Attribute as given
use Rattle.dim_core.specs.declared.attribute.NamedAttribute.{NamedAttribute}
use Rattle.grammar.specs.Grammar.{Grammar, many}
use Rattle.grammar.specs.Watch.{Passes}
use Rattle.grammar.proofs.Exact.{passes_nothing, passes-append, passes_one}
use Rattle.dim_text.specs.Building.{add, building, element_added, finished, opened}
use Rattle.dim_text.specs.Progress.{Progress}
use Rattle.dim_text.specs.Spelled.{spelled, defining, element_spelled, attribute_spelled, body_spelled}
use Rattle.dim_text.specs.Statement.{Statement, Attribute, End, Close, element, unit, body}
use Rattle.grammar.proofs.Spells.{split_at, spells_many}
use Rattle.dim_text.proofs.SpelledStatements.{IsPart, IsSame, defining_spells, attribute_element_spells, ending_spells, closing_spells}

-- One statement.

-- an element is added again, where nothing is said against it
element_again : (p : Progress) (shown : List ℕ) (components : List (List ℕ × ℤ)) (y : Statement) → IsSame (defining shown components) y → refusal_of p.draft shown components ≡ None
    → (s : Progress) × (add p y ≡ Ok s) × (s.draft ≡ with_element p.draft shown components)
element_again p shown [] y (at, is) free = (_, ap (add p) is ∙ ap (element_added p at shown []) free, refl)
element_again p shown (first ∷ rest) y (at, is) free = (_, ap (add p) is ∙ ap (element_added p at shown (first ∷ rest)) free, refl)

-- Lists of statements.

many-append : (u v : List Lexeme) (xs ys : List Statement) → many element u xs → many element v ys → many element (u ++ v) (xs ++ ys)
many-append u v [] ys h k = subst (λ w. many element (w ++ v) ys) (sym h) k
many-append u v (x ∷ xs) ys (a, b, parts, h, more) k = (a, b ++ v, ap (λ w. w ++ v) parts ∙ append_assoc a b v, h, many-append b v xs ys more k)

-- the attributes are added, whatever they are
attributes_again : (calls : List NamedAttribute) (list : List Statement) → AllZip (λ a y. IsSame (Attribute nowhere a.element a.name a.text) y) calls list
    → (p : Progress) (ts : List Lexeme) → many element ts list → (s : Progress) × Passes building p ts s × (s.draft ≡ record p.draft { attributes = p.draft.attributes ++ calls })
attributes_again [] [] zip p ts h =
    (p, subst (λ u. Passes building p u p) (sym h) (passes_nothing building p), ap (λ calls. record p.draft { attributes = calls }) (sym (append-nil p.draft.attributes)))
attributes_again [] (y ∷ ys) zip p ts h = absurd zip
attributes_again (a ∷ rest) [] zip p ts h = absurd zip
attributes_again (a ∷ rest) (y ∷ ys) zip p ts (u, v, parts, here, more) =
    let at : Position = zip.0.0 in
    let next : Progress = record p { draft = record p.draft { attributes = p.draft.attributes ++ a ∷ [] }; attribute_positions = p.attribute_positions ++ at ∷ [] } in
    let added : add p y ≡ Ok next = ap (add p) zip.0.1 in
    let (s, passes, draft) = attributes_again rest ys zip.1 next v more in (
      s,
      subst (λ w. Passes building p w s) (sym parts) (passes-append building p next s u v (passes_one building p next u (y, inr (inl here), added)) passes),
      draft ∙ ap (λ bs. record p.draft { attributes = bs }) (append_assoc p.draft.attributes (a ∷ []) rest),
    )

-- Names in a dimension.

element_names : (d : Outline) → IsDimension d → (k : ℕ) → k < length d.elements → IsTrue (is_name (get_or (names_of d.elements) k []))
element_names d is k within =
    let none : Element ℕ = record { name = []; components = [] } in
    let same : get_or (names_of d.elements) k [] ≡ (get_or d.elements k none).name = get_or-map (λ (e : Element ℕ). e.name) d.elements k none [] within in
    subst (λ n. IsTrue (is_name n)) (sym same) (is.elements_named k none within)

-- components by name
named_parts : (d : Outline) → IsDimension d → (parts : List (ℕ × ℤ)) → All (λ c. (c.0 < length d.elements) × IsWeight c.1) parts → All IsPart (by_name (names_of d.elements) parts)
named_parts d is parts within = All-map IsPart (λ part. (get_or (names_of d.elements) part.0 [], part.1)) parts
    (All-weaker (λ (c : ℕ × ℤ). (c.0 < length d.elements) × IsWeight c.1) (λ c. IsPart (get_or (names_of d.elements) c.0 [], c.1)) (λ c h. (element_names d is c.0 h.0, h.1)) parts within)

-- an element that can be written
abbrev IsGood : Element (List ℕ) → Type 0
IsGood e = IsTrue (is_name e.name) × All IsPart e.components

all_good : (d : Outline) → IsDimension d → All IsGood (written d).elements
all_good d is = All-map IsGood (written_element (names_of d.elements)) d.elements (λ k e within. (
  is.elements_named k e within,
  (let same : components_of d k ≡ (get_or d.elements k e).components = get_or-map (λ (x : Element ℕ). x.components) d.elements k e [] within in
      named_parts d is (get_or d.elements k e).components (subst (All (λ c. (c.0 < length d.elements) × IsWeight c.1)) same (is.parts k))),
))

-- an attribute that can be written
abbrev IsGoodAttribute : NamedAttribute → Type 0
IsGoodAttribute a = IsTrue (is_name a.element) × IsTrue (is_name a.name)

good_attributes : (d : Outline) → IsDimension d → All IsGoodAttribute (written d).attributes
good_attributes d is = All-map IsGoodAttribute (written_attribute (names_of d.elements)) d.attributes (λ k a within. (element_names d is (get_or d.attributes k a).element (is.attributes k a within), is.attributes_named k a within))

-- an element, behind those before it
free_element : (d : Outline) → IsDimension d → (front : List (Element ℕ)) (e : Element ℕ) (rest : List (Element ℕ)) → d.elements ≡ front ++ e ∷ rest
    → (draft : Draft) → draft.elements ≡ map (written_element (names_of d.elements)) front → refusal_of draft e.name (by_name (names_of d.elements) e.components) ≡ None
free_element d is front e rest parts draft so_far =
    let k : ℕ = length front in
    let within : k < length d.elements = omega (arith, ap length parts, length-append front (e ∷ rest)) in
    let none : Element ℕ = record { name = []; components = [] } in
    let here : get_or d.elements k none ≡ e = ap (λ es. get_or es k none) parts ∙ get_or-append_seam front e rest none in
    let shown : name_of d k ≡ e.name = get_or-map (λ (x : Element ℕ). x.name) d.elements k none [] within ∙ ap (λ x. x.name) here in
    let components : components_of d k ≡ e.components = get_or-map (λ (x : Element ℕ). x.components) d.elements k none [] within ∙ ap (λ x. x.components) here in
    let whole : (written d).elements ≡ map (written_element (names_of d.elements)) front ++ map (written_element (names_of d.elements)) (e ∷ rest) =
    ap (map (written_element (names_of d.elements))) parts ∙ map-append (written_element (names_of d.elements)) front (e ∷ rest) in
    let size : length (map (written_element (names_of d.elements)) front) ≡ k = length-map front (written_element (names_of d.elements)) in
    let first : take k (written d).elements ≡ map (written_element (names_of d.elements)) front =
    ap (take k) whole ∙ subst (λ n. take n (map (written_element (names_of d.elements)) front ++ map (written_element (names_of d.elements)) (e ∷ rest)) ≡ map (written_element (names_of d.elements)) front) size
    (take-append_seam (map (written_element (names_of d.elements)) front) (map (written_element (names_of d.elements)) (e ∷ rest))) in
    ap (λ n. refusal_of draft n (by_name (names_of d.elements) e.components)) (sym shown)
    ∙ ap (λ c. refusal_of draft (name_of d k) (by_name (names_of d.elements) c)) (sym components)
    ∙ element_accepted d draft k is within (so_far ∙ sym first)

elements_again : (d : Outline) → IsDimension d → (rest front : List (Element ℕ)) → d.elements ≡ front ++ rest
    → (list : List Statement) → AllZip (λ (e : Element (List ℕ)) y. IsSame (defining e.name e.components) y) (map (written_element (names_of d.elements)) rest) list
    → (p : Progress) → p.draft.elements ≡ map (written_element (names_of d.elements)) front
    → (ts : List Lexeme) → many element ts list → (s : Progress) × Passes building p ts s × (s.draft ≡ record p.draft { elements = (written d).elements })
elements_again d is [] front parts [] zip p so_far ts h = (
  p,
  subst (λ u. Passes building p u p) (sym h) (passes_nothing building p),
  ap (λ es. record p.draft { elements = es }) (so_far ∙ ap (map (written_element (names_of d.elements))) (sym (parts ∙ append-nil front))),
)
elements_again d is [] front parts (y ∷ ys) zip p so_far ts h = absurd zip
elements_again d is (e ∷ rest) front parts [] zip p so_far ts h = absurd zip
elements_again d is (e ∷ rest) front parts (y ∷ ys) zip p so_far ts (u, v, split, here, more) =
    let (next, added, built) = element_again p e.name (by_name (names_of d.elements) e.components) y zip.0 (free_element d is front e rest parts p.draft so_far) in
    let further : next.draft.elements ≡ map (written_element (names_of d.elements)) (front ++ e ∷ []) =
    ap (λ draft. draft.elements) built ∙ ap (λ es. es ++ written_element (names_of d.elements) e ∷ []) so_far ∙ sym (map-append (written_element (names_of d.elements)) front (e ∷ [])) in
    let (s, passes, draft) = elements_again d is rest (front ++ e ∷ []) (parts ∙ sym (append_assoc front (e ∷ []) rest)) ys zip.1 next further v more in (
      s,
      subst (λ w. Passes building p w s) (sym split) (passes-append building p next s u v (passes_one building p next u (y, inr (inl here), added)) passes),
      draft ∙ ap (λ (old : Draft). record old { elements = (written d).elements }) built,
    )

-- The whole.

pub unit_of : {G : Grammar Lexeme Statement} (u : List Lexeme) (y : Statement) → G u y → unit G u tt
unit_of u y h = (u, [], y, sym (append-nil u), h, (refl, refl))

-- what the body of a block has built
pub record IsBody (d : Outline) (start : Progress) (ts : List Lexeme) : Type 0 where
  pub built : Progress
  pub text : body ts tt
  pub passes : Passes building start ts built
  pub draft : built.draft ≡ written d

many_unit : (u : List Lexeme) (list : List Statement) → many element u list → unit (many element) u tt
many_unit u list h = (u, [], list, sym (append-nil u), h, (refl, refl))

pub body_again : (d : Outline) → IsDimension d → (at : Position) (ts : List Lexeme) → map spelling_of ts ≡ body_spelled (written d) → IsBody d (opened at d.name) ts
body_again d is at ts e =
    let w : Draft = written d in
    let p : Progress = opened at d.name in
    let (u, v, parts, front, back) = split_at ts (flat_map element_spelled w.elements) (flat_map attribute_spelled w.attributes ++ (spelled (End nowhere) ++ spelled Close)) e in
    let (u2, v2, parts2, front2, back2) = split_at v (flat_map attribute_spelled w.attributes) (spelled (End nowhere) ++ spelled Close) back in
    let (u3, v3, parts3, front3, back3) = split_at v2 (spelled (End nowhere)) (spelled Close) back2 in
    let (elements, many_e, zip_e) = (spells_many element_spelled IsGood (λ (x : Element (List ℕ)) y. IsSame (defining x.name x.components) y) (λ x good. defining_spells x.name x.components good.0 good.1) w.elements (all_good d is)).at u front in
    let (attributes, many_a, zip_a) = (spells_many attribute_spelled IsGoodAttribute (λ a y. IsSame (Attribute nowhere a.element a.name a.text) y) (λ a good. attribute_element_spells a.element a.name a.text good.0 good.1) w.attributes (good_attributes d is)).at u2 front2 in
    let (end, end_is, (end_at, end_same)) = (ending_spells nowhere).at u3 front3 in
    let (close, close_is, (close_at, close_same)) = closing_spells.at v3 back3 in
    let (s1, pass1, draft1) = elements_again d is d.elements [] refl elements zip_e p refl u many_e in
    let (s2, pass2, draft2) = attributes_again w.attributes attributes zip_a s1 u2 many_a in
    let built : s2.draft ≡ w = draft2 ∙ ap (λ (x : Draft). record x { attributes = x.attributes ++ w.attributes }) draft1 in
    let ended : add s2 end ≡ Ok s2 = ap (add s2) end_same ∙ ap (λ x. finished s2 (finish_refusal_of x)) built ∙ ap (finished s2) (written_finishes d is) in
    let closed : add s2 close ≡ Ok s2 = ap (add s2) close_same in
    let pass3 : Passes building s2 u3 s2 = passes_one building s2 s2 u3 (end, inr (inr (inl end_is)), ended) in
    let pass4 : Passes building s2 v3 s2 = passes_one building s2 s2 v3 (close, inr (inr (inr close_is)), closed) in
    let whole : ts ≡ (u ++ u2) ++ (u3 ++ v3) = parts ∙ ap (λ x. u ++ x) (parts2 ∙ ap (λ x. u2 ++ x) parts3) ∙ sym (append_assoc u u2 (u3 ++ v3)) in
    record {
      built = s2;
      text = (u ++ u2, u3 ++ v3, tt, whole, many_unit (u ++ u2) (elements ++ attributes) (many-append u u2 elements attributes many_e many_a), (u3, v3, tt, refl, unit_of u3 end end_is, unit_of v3 close close_is));
      passes = subst (λ x. Passes building p x s2) (sym whole) (passes-append building p s2 s2 (u ++ u2) (u3 ++ v3) (passes-append building p s1 s2 u u2 pass1 pass2) (passes-append building s2 s2 s2 u3 v3 pass3 pass4));
      draft = built;
    }

-- The dimension is what its own definitions come to.

parts_again : (names : List (List ℕ)) → IsDistinct is_same_name names → (parts : List (ℕ × ℤ)) → All (λ c. (c.0 < length names) × IsWeight c.1) parts → IsResolved names (by_name names parts) parts
parts_again names distinct [] within = tt
parts_again names distinct (c ∷ cs) within =
    ((place_at names distinct c.0 (All-head (λ c. (c.0 < length names) × IsWeight c.1) c cs within).0, refl), parts_again names distinct cs (All-tail (λ c. (c.0 < length names) × IsWeight c.1) c cs within))

-- this element, with its components by name, comes to itself
abbrev ComesTo : List (List ℕ) → Element (List ℕ) → Element ℕ → Type 0
ComesTo names from to = (to.name ≡ from.name) × IsResolved names from.components to.components

list_again : (names : List (List ℕ)) → IsDistinct is_same_name names → (es : List (Element ℕ)) → All (λ e. All (λ c. (c.0 < length names) × IsWeight c.1) e.components) es
    → AllZip (ComesTo names) (map (written_element names) es) es
list_again names distinct [] within = tt
list_again names distinct (e ∷ es) within =
    let P : Element ℕ → Type 0 = λ x. All (λ c. (c.0 < length names) × IsWeight c.1) x.components in
    ((refl, parts_again names distinct e.components (All-head P e es within)), list_again names distinct es (All-tail P e es within))

calls_again : (names : List (List ℕ)) → IsDistinct is_same_name names → (list : List given.Attribute) → All (λ a. a.element < length names) list
    → AllZip (IsResolvedAttribute names) (map (written_attribute names) list) list
calls_again names distinct [] within = tt
calls_again names distinct (a ∷ list) within =
    let P : given.Attribute → Type 0 = λ x. x.element < length names in
    ((place_at names distinct a.element (All-head P a list within), refl, refl), calls_again names distinct list (All-tail P a list within))

pub dimension_again : (d : Outline) → IsDimension d → IsFinished (written d) d
dimension_again d is =
    let names : List (List ℕ) = names_of d.elements in
    let size : length names ≡ length d.elements = length-map d.elements (λ (e : Element ℕ). e.name) in
    let same : names_of (written d).elements ≡ names = names_again names d.elements in
    let within : All (λ (e : Element ℕ). All (λ c. (c.0 < length names) × IsWeight c.1) e.components) d.elements = λ k e there. (
    let at : components_of d k ≡ (get_or d.elements k e).components = get_or-map (λ (x : Element ℕ). x.components) d.elements k e [] there in
    subst (All (λ c. (c.0 < length names) × IsWeight c.1)) at (subst (λ n. All (λ c. (c.0 < n) × IsWeight c.1) (components_of d k)) (sym size) (is.parts k))) in
    record {
      name = refl;
      elements = subst (λ ns. AllZip (ComesTo ns) (written d).elements d.elements) (sym same) (list_again names is.distinct d.elements within);
      attributes = subst (λ ns. AllZip (IsResolvedAttribute ns) (written d).attributes d.attributes) (sym same)
          (calls_again names is.distinct d.attributes (subst (λ n. All (λ a. a.element < n) d.attributes) (sym size) is.attributes));
    }
