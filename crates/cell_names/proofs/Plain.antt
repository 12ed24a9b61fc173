-- What names a cell stands in one line.
use Rattle.std.proofs.Common.{◌≡◌, ℕ, Bool, true, false, not, cond, ◌==◌, if◌then◌else◌, List, [], ◌∷◌, ◌++◌, map, get_or, codes, refl}
use Rattle.std.specs.List.{list_all}
use Rattle.std.proofs.lemmas.Bool.{and_parts, and_from}
use Rattle.cube_lex.specs.Bytes.{is_quote}
use Rattle.cube_lex.specs.Quoted.{doubled, quoted}
use Rattle.cube_space.specs.Cells.{cube_of, elements_of}
use Rattle.cube_space.specs.Layout.{Layout, axes, cube_names}
use Rattle.dim_core.specs.Outline.{Outline, name_of}
use Rattle.dim_name.specs.Bytes.{newline}
use Rattle.cell_names.specs.Inside.Names.{quoted_names}
use Rattle.cell_names.specs.CellNames.{cube_name, dimension_name, element_names, listed, one_line, quoted_name}

-- whether a text doesn't hold this byte
abbrev pub lacks : ℕ → List ℕ → Bool
lacks c text = list_all (λ byte. not (byte == c)) text

pub lacks-cons : (c d : ℕ) (a : List ℕ) → not (d == c) ≡ true → lacks c a ≡ true → lacks c (d ∷ a) ≡ true
lacks-cons c d a one all = rw (one) all

pub lacks-append : (c : ℕ) (a b : List ℕ) → lacks c a ≡ true → lacks c b ≡ true → lacks c (a ++ b) ≡ true
lacks-append c [] b la lb = lb
lacks-append c (d ∷ a) b la lb =
    let parts = and_parts (not (d == c)) (lacks c a) la in
    lacks-cons c d (a ++ b) parts.0 (lacks-append c a b parts.1 lb)

pub one_line_plain : (name : List ℕ) → lacks newline (one_line name) ≡ true
one_line_plain [] = refl
one_line_plain (byte ∷ name) = by (not (byte == newline)) refl (one_line_plain name)
  where
    by : (t : Bool) → not (byte == newline) ≡ t → lacks newline (one_line name) ≡ true → lacks newline (cond t (byte ∷ one_line name) (one_line name)) ≡ true
    by true one rest = lacks-cons newline byte (one_line name) one rest
    by false one rest = rest

doubled_plain : (name : List ℕ) → lacks newline name ≡ true → lacks newline (doubled name) ≡ true
doubled_plain [] plain = refl
doubled_plain (b ∷ name) plain =
    let parts = and_parts (not (b == newline)) (lacks newline name) plain in
    lacks-append newline (if is_quote b then b ∷ b ∷ [] else b ∷ []) (doubled name) (by (is_quote b) parts.0) (doubled_plain name parts.1)
  where
    by : (q : Bool) → not (b == newline) ≡ true → lacks newline (if q then b ∷ b ∷ [] else b ∷ []) ≡ true
    by true other = lacks-cons newline b (b ∷ []) other (lacks-cons newline b [] other refl)
    by false other = lacks-cons newline b [] other refl

quoted_plain : (name : List ℕ) → lacks newline name ≡ true → lacks newline (quoted name) ≡ true
quoted_plain name plain = lacks-append newline (39 ∷ doubled name) (39 ∷ []) (doubled_plain name plain) refl

name_plain : (name : List ℕ) → lacks newline (quoted_name name) ≡ true
name_plain name = quoted_plain (one_line name) (one_line_plain name)

quoted_names_plain : (D : List Outline) (E : List ℕ) → list_all (lacks newline) (quoted_names D E) ≡ true
quoted_names_plain [] E = refl
quoted_names_plain (d ∷ D) [] = refl
quoted_names_plain (d ∷ D) (e ∷ E) =
    and_from (lacks newline (quoted_name (name_of d e))) (list_all (lacks newline) (quoted_names D E)) (name_plain (name_of d e)) (quoted_names_plain D E)

listed_plain : (names : List (List ℕ)) → list_all (lacks newline) names ≡ true → lacks newline (listed names) ≡ true
listed_plain [] all = refl
listed_plain (name ∷ []) all = (and_parts (lacks newline name) true all).0
listed_plain (name ∷ next ∷ names) all =
    let parts = and_parts (lacks newline name) (list_all (lacks newline) (next ∷ names)) all in
    lacks-append newline (name ++ codes ", ") (listed (next ∷ names)) (lacks-append newline name (codes ", ") parts.0 refl) (listed_plain (next ∷ names) parts.1)

module _ (space : Layout) where
  pub cube_plain : (cell : ℕ) → lacks newline (cube_name space cell) ≡ true
  cube_plain cell = name_plain (get_or (cube_names space) (cube_of space cell) [])

  pub elements_plain : (cell : ℕ) → lacks newline (element_names space cell) ≡ true
  elements_plain cell =
      listed_plain (quoted_names (axes space (cube_of space cell)) (elements_of space cell))
      (quoted_names_plain (axes space (cube_of space cell)) (elements_of space cell))

  pub dimension_plain : (cell dim : ℕ) → lacks newline (dimension_name space cell dim) ≡ true
  dimension_plain cell dim = name_plain (get_or (map (λ (axis : Outline). axis.name) (axes space (cube_of space cell))) dim [])
