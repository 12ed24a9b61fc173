-- The rule files of the first cubes, with that of one cube more.
use Rattle.std.proofs.Common.{◌≡◌, ◌∙◌, ℕ, ◌+◌, ◌<◌, List, [], ◌∷◌, ◌++◌, length, length-take, map, take, get_or, slice_index_or, bytes_eq, Option, Some, None, option_map, option_and_then, true, sym, ap, arith}
use Rattle.std.proofs.lemmas.List.{map-append, take_more, get_or-take, get_or-map}
use Rattle.std.proofs.lemmas.Slice.Eq.{bytes_eq-Decides}
use Rattle.cube_lex.specs.declared.position.Position.{Position}
use Rattle.model_text.specs.declared.parts.CubeText.{CubeText}
use Rattle.model_bind.specs.Files.{RuleFile}
use Rattle.file_passes.specs.Pass.{Source, source_of}
use Rattle.judged_files.specs.Rules.{rule_name, rule_file_of, rule_file, rule_files}
use Rattle.judged_files.specs.Inside.RuleFiles.{IsEarlierWith}

-- the file of this name
abbrev named : List Source → Option (List ℕ) → Option RuleFile
named sources name = option_map rule_file_of (option_and_then (source_of sources) name)

-- a cube that has rules names their file
pub its-name : (cubes : List CubeText) (k : ℕ) (place : Position) (item : CubeText) (name : List ℕ) → item ≡ get_or cubes k item → (get_or cubes k item).rules ≡ Some (place, name) → rule_name item ≡ Some name
its-name cubes k place item name is has = ap rule_name is ∙ ap (option_map (λ rules. rules.1)) has

module _ (cubes : List CubeText) (item : CubeText) where
  -- a cube that names a file
  pub with-name : (cube earlier : ℕ) (file name : List ℕ) → earlier < cube → earlier < length cubes → item ≡ get_or cubes earlier item → rule_name item ≡ Some file → bytes_eq file name ≡ true → IsEarlierWith cubes cube name earlier
  with-name cube earlier file name before low is has same = record {
    before = before;
    named = get_or-map rule_name cubes earlier item None low ∙ ap rule_name (sym is) ∙ has ∙ ap (λ n. Some n) ((bytes_eq-Decides file name).0 same);
  }

  module _ (sources : List Source) (cube : ℕ) (low : cube < length cubes) (is : item ≡ get_or cubes cube item) where
    files-more : rule_files sources (take (cube + 1) cubes) ≡ rule_files sources (take cube cubes) ++ rule_file sources item ∷ []
    files-more =
        ap (map (rule_file sources)) (take_more cubes cube item low ∙ ap (λ x. take cube cubes ++ x ∷ []) (sym is))
        ∙ map-append (rule_file sources) (take cube cubes) (item ∷ [])

    -- an earlier cube of the same name has the same file
    file-earlier : (name : List ℕ) (earlier : ℕ) → rule_name item ≡ Some name → IsEarlierWith cubes cube name earlier
        → slice_index_or (rule_files sources (take cube cubes)) earlier None ≡ rule_file sources item
    file-earlier name earlier has there =
        let before = there.before in
        let first : earlier < length cubes = omega (arith, before, low) in
        let taken : earlier < length (take cube cubes) = omega (arith, before, low, length-take cube cubes) in
        let name-there = sym (get_or-map rule_name cubes earlier item None first) ∙ there.named in
        get_or-map (rule_file sources) (take cube cubes) earlier item None taken
        ∙ ap (rule_file sources) (get_or-take cube cubes earlier item before)
        ∙ ap (named sources) (name-there ∙ sym has)

    pub files-shared : (old : List (Option RuleFile)) (name : List ℕ) (earlier : ℕ) → old ≡ rule_files sources (take cube cubes) → rule_name item ≡ Some name → IsEarlierWith cubes cube name earlier
        → old ++ slice_index_or old earlier None ∷ [] ≡ rule_files sources (take (cube + 1) cubes)
    files-shared old name earlier so_far has there =
        ap (λ l. l ++ slice_index_or l earlier None ∷ []) so_far
        ∙ ap (λ file. rule_files sources (take cube cubes) ++ file ∷ []) (file-earlier name earlier has there)
        ∙ sym files-more
