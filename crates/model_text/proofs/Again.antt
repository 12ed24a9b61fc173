-- What is written of a model text is a text again, in which nothing is refused.
use Rattle.std.proofs.Common.{◌≡◌, ◌<◌, ◌≤◌, ℕ, nat_eq, nat_le, List, [], ◌∷◌, ◌++◌, length, map, get_or, codes, true, false, Bool, Option, Some, None, IfSome, Ok, refl, sym, ap, ◌∙◌, subst, inl, inr, arith, length-append, IsTrue}
use Rattle.std.proofs.Math.Seq.{get_or-append_seam}
use Rattle.std.proofs.lemmas.Bool.{lt-leb}
use Rattle.std.proofs.lemmas.Cmp.{nat_eq_equiv}
use Rattle.std.proofs.lemmas.List.{get_or_append_left, length-map, map-append}
use Rattle.std.proofs.lemmas.List.Elements.{length_all_zip}
use Rattle.std.proofs.lemmas.List.Folds.{list_any_none}
use Rattle.std.proofs.lemmas.Map.Keys.{apart_from_distinct}
use Rattle.std.specs.Cmp.{IsEquivalence}
use Rattle.std.specs.List.{All, AllZip, IsDistinct, flat_map, list_any}
use Rattle.cube_lex.specs.Lexeme.{Lexeme}
use Rattle.dim_name.specs.Name.{is_name, is_same_name, has_name, place_of}
use Rattle.dim_core.proofs.Naming.{same_names, place_at}
use Rattle.dim_core.specs.Draft.{IsFinished}
use Rattle.dim_core.specs.Outline.{Outline, IsDimension}
use Rattle.dim_core.specs.Written.{written}
use Rattle.grammar.specs.Grammar.{many}
use Rattle.grammar.specs.Tokens.{is_file}
use Rattle.grammar.proofs.Exact.{passes_one}
use Rattle.dim_text.specs.Building.{opened}
use Rattle.dim_text.proofs.Builds.{Builds}
use Rattle.dim_text.specs.Progress.{Progress, Text, IsBuilt}
use Rattle.cube_lex.specs.Written.{word_token, sign_token, text_token}
use Rattle.cube_lex.specs.declared.position.Position.{Position}
use Rattle.dim_text.specs.Spelled.{head_spelled, body_spelled}
use Rattle.dim_text.proofs.PrintedBack.{body_of}
use Rattle.dim_text.specs.Statement.{body}
use Rattle.model_text.specs.Readers.Views.{IsValid}
use Rattle.model_text.specs.Contents.{most_model_dimensions, most_cubes, most_scripts, AreDimensions, IsLineIn, IsOrderedIn, cube_names, script_names}
use Rattle.model_text.specs.Gathering.{Current, Nothing, DimensionDue, DimensionOpen, DimensionBody, CubeDue, CubeOpen, ScriptDue, ScriptOpen, ScriptWhole, Parts, at, unless, order_of, cube_of, with_cube, with_script, with_dimension, gathered, dimensions_are_full, cubes_are_full, scripts_are_full, has_dimension, has_cube, has_script}
use Rattle.model_text.specs.Printed.{IsSameCube, IsSameScript}
use Rattle.model_text.specs.Spelled.{dim_spelled, cube_head_spelled, dimension_spelled, cube_dimensions_spelled, cube_end_spelled, next_dimension_spelled, cube_spelled, script_spelled}
use Rattle.model_text.specs.Statement.{Piece, piece, has_totals, closing, naming, dimension_behind, dimension_head, dimension, next_dimension, cube_head, cube_dimensions, cube, script}
use Rattle.model_text.specs.Watching.{Seen, watching}
use Rattle.model_text.specs.Writable.{IsFileText, IsWritableOrder, IsWritableCube, IsWritableScript}
use Rattle.model_text.specs.declared.fault.ModelTextCause.{ModelTextCause}
use Rattle.model_text.specs.declared.fault.ModelTextCause.TheVariants as causes
use Rattle.model_text.specs.declared.order.OrderLine.{OrderLine}
use Rattle.model_text.specs.declared.order.OrderWord.{OrderWord}
use Rattle.model_text.specs.declared.parts.CubeText.{CubeText}
use Rattle.model_text.specs.declared.parts.ScriptText.{ScriptText}
use Rattle.model_text.proofs.Going.{Goes, goes_piece, goes_both, goes_unit, goes_as, goes_many}
use Rattle.model_text.proofs.ModelExact.{naming_into, file_into, into_end}
use Rattle.model_text.proofs.Sound.{any-map}
use Rattle.model_text.proofs.SpelledPieces.{IsSameBehind, HasPositions, MayStand, closing_spells, dimension_word_spells, cube_word_spells, script_word_spells, naming_spells, script_file_spells, dimension_behind_spells, cube_end_spells}

-- Lists.

-- nothing before an element of a list without equals is equal to it
fresh : {K : Type 0} (eq : K → K → Bool) → IsEquivalence eq → (front rest : List K) (x : K) → IsDistinct eq (front ++ x ∷ rest) → list_any (eq x) front ≡ false
fresh eq laws front rest x distinct = list_any_none (eq x) front (λ k d inside.
    let own : get_or (front ++ x ∷ rest) k d ≡ get_or front k d = get_or_append_left front (x ∷ rest) d k inside in
    let last : get_or (front ++ x ∷ rest) (length front) d ≡ x = get_or-append_seam front x rest d in
    let there : length front < length (front ++ x ∷ rest) = omega (arith, length-append front (x ∷ rest)) in
    let apart : eq (get_or (front ++ x ∷ rest) k d) (get_or (front ++ x ∷ rest) (length front) d) ≡ false = apart_from_distinct eq (front ++ x ∷ rest) k (length front) d distinct inside there in
    laws.symm x (get_or front k d) ∙ sym (ap (λ a. eq a x) own) ∙ sym (ap (eq (get_or (front ++ x ∷ rest) k d)) last) ∙ apart)

-- the names of a list in three parts
split_names : {X : Type 0} (f : X → List ℕ) (all front rest : List X) (x : X) → all ≡ front ++ x ∷ rest → map f all ≡ map f front ++ f x ∷ map f rest
split_names f all front rest x parts = ap (map f) parts ∙ map-append f front (x ∷ rest)

-- so the name of one more isn't among those before
fresh_name : {X : Type 0} (f : X → List ℕ) (all front rest : List X) (x : X) → all ≡ front ++ x ∷ rest → IsDistinct is_same_name (map f all) → has_name (map f front) (f x) ≡ false
fresh_name f all front rest x parts distinct = fresh is_same_name same_names (map f front) (map f rest) (f x) (subst (IsDistinct is_same_name) (split_names f all front rest x parts) distinct)

-- and there is room for it
room : {X : Type 0} (all front rest : List X) (x : X) (n : ℕ) → all ≡ front ++ x ∷ rest → length all ≤ n → nat_le n (length front) ≡ false
room all front rest x n parts few = lt-leb n (length front) (omega (arith, few, ap length parts, length-append front (x ∷ rest)))

-- an element in the midst
among : {X : Type 0} (P : X → Type 0) (all front rest : List X) (x : X) → all ≡ front ++ x ∷ rest → All P all → P x
among P all front rest x parts h =
    subst P (get_or-append_seam front x rest x) ((subst (All P) parts h) (length front) x (omega (arith, length-append front (x ∷ rest))))

-- what is let through
lets : (b : Bool) (place : Position) (parts : Parts) (current : Current) (cause : ModelTextCause) → b ≡ false → unless b place cause parts current ≡ Ok (at parts current)
lets true place parts current cause e = cc
lets false place parts current cause e = refl

pub zip_last : {X Y : Type 0} (R : X → Y → Type 0) (xs : List X) (ys : List Y) (x : X) (y : Y) → AllZip R xs ys → R x y → AllZip R (xs ++ x ∷ []) (ys ++ y ∷ [])
zip_last R [] [] x y h is = (is, tt)
zip_last R [] (b ∷ ys) x y h is = absurd h
zip_last R (a ∷ xs) [] x y h is = absurd h
zip_last R (a ∷ xs) (b ∷ ys) x y h is = (h.0, zip_last R xs ys x y h.1 is)

-- Pieces.

abbrev pub outside_of : List Progress → Parts → Current → Seen
outside_of blocks parts current = record { blocks = blocks; given = at parts current }

pub into_closing : (u : List Lexeme) (x : Piece) → closing u x → piece u x
into_closing u x h = inr (inl h)

into_naming : (u : List Lexeme) (x : Piece) → naming u x → piece u x
into_naming u x h = inr (inr (inr (inr (inr (inl (naming_into u x h))))))

-- Dimensions.

head_goes : (blocks : List Progress) (parts : Parts) (shown : List ℕ) → IsTrue (is_name shown) → dimensions_are_full parts ≡ false → has_dimension parts shown ≡ false
    → Goes {E = Position} dimension_head (head_spelled shown) (outside_of blocks parts Nothing) (λ place. outside_of blocks parts (DimensionBody place shown)) (λ _. Unit {0})
head_goes blocks parts shown is few new =
    goes_both {xs = word_token (codes "DIM") ∷ []} {ys = text_token shown ∷ sign_token (codes ";") ∷ []}
    (goes_unit (goes_piece {P = λ (place : Position). Unit {0}} (outside_of blocks parts Nothing) (λ place. at parts (DimensionDue place)) (λ u x h. inr (inr (inl h))) dimension_word_spells
    (λ x (place, same). (place, ap (gathered (at parts Nothing)) same ∙ lets (dimensions_are_full parts) place parts (DimensionDue place) causes.TooMany few, tt))))
    (λ place _. goes_both {xs = text_token shown ∷ []} {ys = sign_token (codes ";") ∷ []}
    (goes_unit (goes_piece {P = λ (l : Position). Unit {0}} (outside_of blocks parts (DimensionDue place)) (λ _. at parts (DimensionOpen place shown)) into_naming (naming_spells shown is)
    (λ x (l, same). (l, ap (gathered (at parts (DimensionDue place))) same ∙ lets (has_dimension parts shown) l parts (DimensionOpen place shown) causes.Duplicate new, tt))))
    (λ _ _. goes_unit (goes_piece {P = λ (l : Position). Unit {0}} (outside_of blocks parts (DimensionOpen place shown)) (λ l. at parts (DimensionBody l shown)) into_closing closing_spells
    (λ x same. (place, ap (gathered (at parts (DimensionOpen place shown))) same, tt)))))

body_goes : (blocks : List Progress) (parts : Parts) (d : Outline) (place : Position) → IsDimension d
    → Goes {E = Progress} body (body_spelled (written d)) (outside_of blocks parts (DimensionBody place d.name)) (λ built. outside_of (blocks ++ built ∷ []) (record parts { names = parts.names ++ d.name ∷ [] }) Nothing) (λ built. IsFinished built.draft d)
body_goes blocks parts d place is = record {
  at = λ ts e. (
      let builds : Builds body (opened place d.name) d ts = body_of d is place ts e in (
        tt,
        builds.built,
        builds.text.text,
        passes_one watching (outside_of blocks parts (DimensionBody place d.name)) (outside_of (blocks ++ builds.built ∷ []) (record parts { names = parts.names ++ d.name ∷ [] }) Nothing) ts
            (inr (record { start = opened place d.name; block = builds.built; head = refl; text = builds.text.text; built = builds.text.passes; next = refl })),
        builds.finished,
      ));
}

-- the dimensions so far: the blocks as they were built, their names, and the texts that these blocks are
pub record Dims : Type 0 where
  pub blocks : List Progress
  pub names : List (List ℕ)
  pub texts : List Text

abbrev pub dims_seen : ℕ → Dims → Seen
dims_seen version dims = outside_of dims.blocks (record { version = version; names = dims.names; cubes = []; scripts = [] }) Nothing

abbrev pub block_name : Text → List ℕ
block_name text = text.dimension.name

pub record AreDims (front : List Text) (dims : Dims) : Type 0 where
  pub names : dims.names ≡ map block_name front
  pub built : AllZip IsBuilt dims.texts dims.blocks
  pub same : map (λ text. text.dimension) dims.texts ≡ map (λ text. text.dimension) front

dims_full : (names : List (List ℕ)) (all front rest : List Text) (x : Text) → all ≡ front ++ x ∷ rest → length all ≤ most_model_dimensions → names ≡ map block_name front → nat_le most_model_dimensions (length names) ≡ false
dims_full names all front rest x parts few is = ap (nat_le most_model_dimensions) (ap length is ∙ length-map front block_name) ∙ room all front rest x most_model_dimensions parts few

one_more_dim : (front : List Text) (x : Text) (dims : Dims) (built : Progress) → IsFinished built.draft x.dimension → AreDims front dims
    → AreDims (front ++ x ∷ []) (record { blocks = dims.blocks ++ built ∷ []; names = dims.names ++ block_name x ∷ []; texts = dims.texts ++ record { head = built.head; dimension = x.dimension; positions = built.positions } ∷ [] })
one_more_dim front x dims built finished are =
    let text : Text = record { head = built.head; dimension = x.dimension; positions = built.positions } in
    record {
      names = ap (λ ns. ns ++ block_name x ∷ []) are.names ∙ sym (map-append block_name front (x ∷ []));
      built = zip_last IsBuilt dims.texts dims.blocks text built are.built (record { head = refl; dimension = finished; positions = refl });
      same = map-append (λ (t : Text). t.dimension) dims.texts (text ∷ []) ∙ ap (λ ds. ds ++ x.dimension ∷ []) are.same ∙ sym (map-append (λ (t : Text). t.dimension) front (x ∷ []));
    }

pub dims_go : (version : ℕ) (all : List Text) → All IsValid all → length all ≤ most_model_dimensions → IsDistinct is_same_name (map block_name all)
    → Goes {E = Dims} (many dimension) (flat_map dim_spelled all) (dims_seen version (record { blocks = []; names = []; texts = [] })) (dims_seen version) (AreDims all)
dims_go version all good few distinct = goes_many dimension dim_spelled (dims_seen version) AreDims all
    (λ front rest x parts dims are.
    let is : IsValid x = among IsValid all front rest x parts good in
    let now : Parts = record { version = version; names = dims.names; cubes = []; scripts = [] } in
    let full : dimensions_are_full now ≡ false = dims_full dims.names all front rest x parts few are.names in
    let new : has_dimension now (block_name x) ≡ false = ap (λ ns. has_name ns (block_name x)) are.names ∙ fresh_name block_name all front rest x parts distinct in
    goes_as (λ built finished. (record { blocks = dims.blocks ++ built ∷ []; names = dims.names ++ block_name x ∷ []; texts = dims.texts ++ record { head = built.head; dimension = x.dimension; positions = built.positions } ∷ [] }, refl, one_more_dim front x dims built finished are))
    (goes_both {xs = head_spelled (block_name x)} {ys = body_spelled (written x.dimension)} (head_goes dims.blocks now (block_name x) is.is_named full new) (λ place _. body_goes dims.blocks now x.dimension place is)))
    (record { blocks = []; names = []; texts = [] }) (record { names = refl; built = tt; same = refl })

-- Cubes.

cube_head_goes : (blocks : List Progress) (parts : Parts) (shown : List ℕ) → IsTrue (is_name shown) → cubes_are_full parts ≡ false → has_cube parts shown ≡ false
    → Goes {E = Position} cube_head (cube_head_spelled shown) (outside_of blocks parts Nothing) (λ place. outside_of blocks parts (CubeOpen place shown [])) (λ _. Unit {0})
cube_head_goes blocks parts shown is few new =
    goes_both {xs = word_token (codes "CUBE") ∷ []} {ys = text_token shown ∷ []}
    (goes_unit (goes_piece {P = λ (place : Position). Unit {0}} (outside_of blocks parts Nothing) (λ place. at parts (CubeDue place)) (λ u x h. inr (inr (inr (inl h)))) cube_word_spells
    (λ x (place, same). (place, ap (gathered (at parts Nothing)) same ∙ lets (cubes_are_full parts) place parts (CubeDue place) causes.TooMany few, tt))))
    (λ place _. goes_unit (goes_piece {P = λ (l : Position). Unit {0}} (outside_of blocks parts (CubeDue place)) (λ l. at parts (CubeOpen l shown [])) into_naming (naming_spells shown is)
    (λ x (l, same). (place, ap (gathered (at parts (CubeDue place))) same ∙ lets (has_cube parts shown) l parts (CubeOpen place shown []) causes.Duplicate new, tt))))

-- a dimension of a cube that has these so far
module _ (blocks : List Progress) (parts : Parts) (place : Position) (shown : List ℕ) (named : All (λ name. IsTrue (is_name name)) parts.names) (distinct : IsDistinct is_same_name parts.names) where
  number_goes : (before : List ℕ) → ((u : List Lexeme) (x : Piece) → dimension_behind before u x → piece u x) → (front rest : List ℕ) (number : ℕ) → AreDimensions (length parts.names) (front ++ number ∷ rest) → (so_far : List ℕ) → so_far ≡ front
      → Goes {E = List ℕ} (dimension_behind before) (dimension_spelled before (get_or parts.names number [])) (outside_of blocks parts (CubeOpen place shown so_far)) (λ numbers. outside_of blocks parts (CubeOpen place shown numbers)) (λ numbers. numbers ≡ front ++ number ∷ [])
  number_goes before into front rest number are so_far same =
      let there : number < length parts.names = among (λ n. n < length parts.names) (front ++ number ∷ rest) front rest number refl are.there in
      let found : place_of parts.names (get_or parts.names number []) ≡ Some number = place_at parts.names distinct number there in
      let new : list_any (nat_eq number) so_far ≡ false = ap (list_any (nat_eq number)) same ∙ fresh nat_eq nat_eq_equiv front rest number are.distinct in
      goes_piece (outside_of blocks parts (CubeOpen place shown so_far)) (λ numbers. at parts (CubeOpen place shown numbers)) into (dimension_behind_spells before (get_or parts.names number []) (named number [] there))
      (λ x (l, is). (
        so_far ++ number ∷ [],
        ap (gathered (at parts (CubeOpen place shown so_far))) is ∙ ap (λ o. with_dimension parts l o (CubeOpen place shown so_far)) found ∙ lets (list_any (nat_eq number) so_far) l parts (CubeOpen place shown (so_far ++ number ∷ [])) causes.Duplicate new,
        ap (λ ns. ns ++ number ∷ []) same,
      ))

  numbers_go : (first : ℕ) (rest : List ℕ) → AreDimensions (length parts.names) (first ∷ rest)
      → Goes {E = List ℕ} cube_dimensions (cube_dimensions_spelled parts.names (first ∷ rest)) (outside_of blocks parts (CubeOpen place shown [])) (λ numbers. outside_of blocks parts (CubeOpen place shown numbers)) (λ numbers. numbers ≡ first ∷ rest)
  numbers_go first rest are =
      goes_both {xs = dimension_spelled (codes "(") (get_or parts.names first [])} {ys = flat_map (next_dimension_spelled parts.names) rest}
      (goes_unit (number_goes (codes "(") (λ u x h. inr (inr (inr (inr (inr (inr (inl h))))))) [] rest first are [] refl))
      (λ so_far same. goes_unit (goes_many next_dimension (next_dimension_spelled parts.names) (λ numbers. outside_of blocks parts (CubeOpen place shown numbers)) (λ front numbers. numbers ≡ first ∷ front) rest
      (λ front more number split numbers equal. number_goes (codes ",") (λ u x h. inr (inr (inr (inr (inr (inr (inr (inl h)))))))) (first ∷ front) more number (subst (AreDimensions (length parts.names)) (ap (λ ns. first ∷ ns) split) are) numbers equal)
      so_far same))

-- in a text of the version that it had, an order line is as it was
same_order : (version : ℕ) (o : Option (Position × OrderLine)) (again : Option (Position × List OrderWord)) → IfSome o (λ x. IsLineIn version x.1) → HasPositions o again → IsSameBehind o (order_of version again)
same_order version None None is same = refl
same_order version None (Some a) is same = cc
same_order version (Some o) None is same = cc
same_order version (Some o) (Some a) is same =
    let positions : a.1 ≡ o.1.words = cc in
    ap (λ list. Some (record { version = version; words = list })) positions ∙ ap (λ v. Some (record { version = v; words = o.1.words })) (sym is.version)

-- in version 2 all words may stand
may_stand : (version : ℕ) (o : Option (Position × OrderLine)) → IfSome o (λ x. IsLineIn version x.1) → MayStand (has_totals version) o
may_stand version None is = tt
may_stand version (Some o) is = λ has. ap has_totals (is.kinds has)

-- it has this name, these dimensions and this end
record Has (shown numbers : List ℕ) (r : Option (Position × List ℕ)) (o : Option (Position × OrderLine)) (c : CubeText) : Type 0 where
  name : c.name ≡ shown
  dims : c.dims ≡ numbers
  rules : IsSameBehind r c.rules
  order : IsSameBehind o c.order

cube_goes : (blocks : List Progress) (parts : Parts) (shown numbers : List ℕ) (r : Option (Position × List ℕ)) (o : Option (Position × OrderLine))
    → All (λ name. IsTrue (is_name name)) parts.names → IsDistinct is_same_name parts.names → AreDimensions (length parts.names) numbers → 0 < length numbers → IsTrue (is_name shown)
    → IfSome r (λ x. IsFileText x.1) → IfSome o (λ x. IsWritableOrder x.1.words) → IfSome o (λ x. IsLineIn parts.version x.1) → cubes_are_full parts ≡ false → has_cube parts shown ≡ false
    → Goes {E = CubeText} (cube (has_totals parts.version)) (cube_head_spelled shown ++ (cube_dimensions_spelled parts.names numbers ++ cube_end_spelled r o)) (outside_of blocks parts Nothing) (λ again. outside_of blocks (with_cube parts again) Nothing) (Has shown numbers r o)
cube_goes blocks parts shown [] r o named distinct are some is r_is o_is in_version few new = absurd (omega (arith, some))
cube_goes blocks parts shown (first ∷ rest) r o named distinct are some is r_is o_is in_version few new =
    goes_both {xs = cube_head_spelled shown} {ys = cube_dimensions_spelled parts.names (first ∷ rest) ++ cube_end_spelled r o} (cube_head_goes blocks parts shown is few new)
    (λ place _. goes_both {xs = cube_dimensions_spelled parts.names (first ∷ rest)} {ys = cube_end_spelled r o} (numbers_go blocks parts place shown named distinct first rest are)
    (λ numbers same. goes_unit (goes_piece (outside_of blocks parts (CubeOpen place shown numbers)) (λ again. at (with_cube parts again) Nothing) (into_end (has_totals parts.version)) (cube_end_spells (has_totals parts.version) r o r_is o_is (may_stand parts.version o in_version))
    (λ x end. (
      cube_of parts place shown numbers end.r_again end.o_again,
      ap (gathered (at parts (CubeOpen place shown numbers))) end.is,
      record { name = refl; dims = same; rules = end.r_same; order = same_order parts.version o end.o_again in_version end.o_same },
    )))))

same_names_of : (xs ys : List CubeText) → AllZip IsSameCube xs ys → cube_names ys ≡ cube_names xs
same_names_of [] [] same = refl
same_names_of [] (y ∷ ys) same = absurd same
same_names_of (x ∷ xs) [] same = absurd same
same_names_of (x ∷ xs) (y ∷ ys) same = ap (λ n. n ∷ cube_names ys) same.0.name ∙ ap (λ ns. x.name ∷ ns) (same_names_of xs ys same.1)

module _ (blocks : List Progress) (version : ℕ) (names : List (List ℕ)) where
  abbrev pub cubes_seen : List CubeText → Seen
  cubes_seen cubes = outside_of blocks (record { version = version; names = names; cubes = cubes; scripts = [] }) Nothing

  pub cubes_go : (all : List CubeText) → All (λ name. IsTrue (is_name name)) names → IsDistinct is_same_name names → All (λ (c : CubeText). AreDimensions (length names) c.dims) all → All (IsOrderedIn version) all → All IsWritableCube all → length all ≤ most_cubes → IsDistinct is_same_name (cube_names all)
      → Goes {E = List CubeText} (many (cube (has_totals version))) (flat_map (cube_spelled names) all) (cubes_seen []) cubes_seen (AllZip IsSameCube all)
  cubes_go all named distinct dims ordered good few apart = goes_many (cube (has_totals version)) (cube_spelled names) cubes_seen (AllZip IsSameCube) all
      (λ front rest x split so_far zip.
      let now : Parts = record { version = version; names = names; cubes = so_far; scripts = [] } in
      let is : IsWritableCube x = among IsWritableCube all front rest x split good in
      let are : AreDimensions (length names) x.dims = among (λ (c : CubeText). AreDimensions (length names) c.dims) all front rest x split dims in
      let full : cubes_are_full now ≡ false = ap (nat_le most_cubes) (sym (length_all_zip IsSameCube front so_far zip)) ∙ room all front rest x most_cubes split few in
      let new : has_cube now x.name ≡ false = sym (any-map (is_same_name x.name) (λ (c : CubeText). c.name) so_far) ∙ ap (λ ns. has_name ns x.name) (same_names_of front so_far zip) ∙ fresh_name (λ (c : CubeText). c.name) all front rest x split apart in
      goes_as (λ again has. (so_far ++ again ∷ [], refl, zip_last IsSameCube front so_far x again zip (record { name = has.name; dims = has.dims; rules = has.rules; order = has.order })))
      (cube_goes blocks now x.name x.dims x.rules x.order named distinct are is.dims is.name.0 is.rules is.order (among (IsOrderedIn version) all front rest x split ordered) full new))
      [] tt

-- Scripts.

script_goes : (blocks : List Progress) (parts : Parts) (own : ScriptText) → IsTrue (is_name own.name) → IsTrue (is_file own.file) → scripts_are_full parts ≡ false → has_script parts own.name ≡ false
    → Goes {E = ScriptText} script (script_spelled own) (outside_of blocks parts Nothing) (λ again. outside_of blocks (with_script parts again) Nothing) (IsSameScript own)
script_goes blocks parts own is filed few new =
    goes_both {xs = word_token (codes "SCRIPT") ∷ []} {ys = text_token own.name ∷ text_token own.file ∷ sign_token (codes ";") ∷ []}
    (goes_unit (goes_piece {P = λ (place : Position). Unit {0}} (outside_of blocks parts Nothing) (λ place. at parts (ScriptDue place)) (λ u x h. inr (inr (inr (inr (inl h))))) script_word_spells
    (λ x (place, same). (place, ap (gathered (at parts Nothing)) same ∙ lets (scripts_are_full parts) place parts (ScriptDue place) causes.TooMany few, tt))))
    (λ place _. goes_both {xs = text_token own.name ∷ []} {ys = text_token own.file ∷ sign_token (codes ";") ∷ []}
    (goes_unit (goes_piece {P = λ (l : Position). Unit {0}} (outside_of blocks parts (ScriptDue place)) (λ _. at parts (ScriptOpen place own.name)) into_naming (naming_spells own.name is)
    (λ x (l, same). (l, ap (gathered (at parts (ScriptDue place))) same ∙ lets (has_script parts own.name) l parts (ScriptOpen place own.name) causes.Duplicate new, tt))))
    (λ _ _. goes_both {xs = text_token own.file ∷ []} {ys = sign_token (codes ";") ∷ []}
    (goes_unit (goes_piece {P = λ (l : Position). Unit {0}} (outside_of blocks parts (ScriptOpen place own.name)) (λ _. at parts (ScriptWhole place own.name own.file)) (λ u x h. inr (inr (inr (inr (inr (inl (file_into u x h))))))) (script_file_spells own.file filed)
    (λ x (l, same). (l, ap (gathered (at parts (ScriptOpen place own.name))) same, tt))))
    (λ _ _. goes_unit (goes_piece (outside_of blocks parts (ScriptWhole place own.name own.file)) (λ again. at (with_script parts again) Nothing) into_closing closing_spells
    (λ x same. (record { at = place; name = own.name; file = own.file }, ap (gathered (at parts (ScriptWhole place own.name own.file))) same, record { name = refl; file = refl }))))))

same_scripts_of : (xs ys : List ScriptText) → AllZip IsSameScript xs ys → script_names ys ≡ script_names xs
same_scripts_of [] [] same = refl
same_scripts_of [] (y ∷ ys) same = absurd same
same_scripts_of (x ∷ xs) [] same = absurd same
same_scripts_of (x ∷ xs) (y ∷ ys) same = ap (λ n. n ∷ script_names ys) same.0.name ∙ ap (λ ns. x.name ∷ ns) (same_scripts_of xs ys same.1)

module _ (blocks : List Progress) (version : ℕ) (names : List (List ℕ)) (cubes : List CubeText) where
  abbrev pub scripts_seen : List ScriptText → Seen
  scripts_seen scripts = outside_of blocks (record { version = version; names = names; cubes = cubes; scripts = scripts }) Nothing

  pub scripts_go : (all : List ScriptText) → All IsWritableScript all → length all ≤ most_scripts → IsDistinct is_same_name (script_names all)
      → Goes {E = List ScriptText} (many script) (flat_map script_spelled all) (scripts_seen []) scripts_seen (AllZip IsSameScript all)
  scripts_go all good few apart = goes_many script script_spelled scripts_seen (AllZip IsSameScript) all
      (λ front rest x split so_far zip.
      let now : Parts = record { version = version; names = names; cubes = cubes; scripts = so_far } in
      let is : IsWritableScript x = among IsWritableScript all front rest x split good in
      let full : scripts_are_full now ≡ false = ap (nat_le most_scripts) (sym (length_all_zip IsSameScript front so_far zip)) ∙ room all front rest x most_scripts split few in
      let new : has_script now x.name ≡ false = sym (any-map (is_same_name x.name) (λ (c : ScriptText). c.name) so_far) ∙ ap (λ ns. has_name ns x.name) (same_scripts_of front so_far zip) ∙ fresh_name (λ (c : ScriptText). c.name) all front rest x split apart in
      goes_as (λ again same. (so_far ++ again ∷ [], refl, zip_last IsSameScript front so_far x again zip same))
      (script_goes blocks now x is.name.0 is.file.0 full new))
      [] tt
