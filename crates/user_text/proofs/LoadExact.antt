-- The readers of a load are exact.
use Rattle.std.proofs.Common.{ℕ, List, [], ◌∷◌, ◌++◌, Option, Some, None, true, false, codes, refl, ◌≡◌, ◌∙◌, ap, subst}
use Rattle.std.specs.Str.{str_eq_ignore_ascii_case}
use Rattle.cube_lex.specs.Lexeme.{Lexeme}
use Rattle.cube_lex.specs.declared.position.Position.{Position}
use Rattle.grammar.specs.Grammar.{Grammar, one, both, done}
use Rattle.grammar.specs.Reading.{both_of, gives, starts}
use Rattle.grammar.specs.Tokens.{word, whole, is_sign, is_word, is_text}
use Rattle.grammar.proofs.Exact.{Exact, Always, Not, exact_gives, exact_then, exact_both, exact_made, exact_before, exact_choose}
use Rattle.grammar.proofs.Begins.{Begins, begins_both, begins_optional, exact_or, exact_option, starts_text}
use Rattle.grammar.proofs.After.{exact_rest_after}
use Rattle.grammar.proofs.Tokens.{exact_sign, exact_word, exact_name, exact_file, exact_text, exact_whole_number, sign_begins, word_begins, text_begins, sign_no_text, money_no_text}
use Rattle.user_text.specs.Counting.{count, counting}
use Rattle.cube_fixed.specs.Text.{decimal_point}
use Rattle.user_text.specs.FileSigns.{comma, separator, decimal}
use Rattle.user_text.specs.UserText.{Source, skip, rejects, given_source, source, value, param, next_param, params_behind, with_params, loading, load}
use Rattle.user_text.specs.Readers.Reading.{read_skip, read_separator, read_decimal, read_rejects, read_given_source, read_source, read_value, read_param, read_next_param, read_further_params, read_params, read_load}
use Rattle.user_text.specs.declared.command.ParamText.{ParamText}
use Rattle.user_text.specs.declared.command.ParamText.TheVariants as params
use Rattle.user_text.specs.declared.command.UserCommand.{UserCommand}
use Rattle.user_text.proofs.CellExact.{amount_exact, closed, closed_sign, closed_word}
use Rattle.user_text.proofs.NewVariables.{exact_new_variable}
use Rattle.user_text.proofs.SignsExact.{Passed, passed_both, passed_decimal, passed_done, passed_option, said_separator, separator_exact, decimal_exact}

skip_exact : Exact counting skip skip read_skip (Not (is_word (codes "SKIP")))
unfolding read_skip
skip_exact = exact_option (is_word (codes "SKIP")) 0 (begins_both (word_begins (codes "SKIP") (codes "SKIP"))) (exact_then (exact_word count (codes "SKIP")) (λ _. exact_whole_number count))

-- `REJECTS whole`
abbrev said_rejects : Grammar Lexeme (Option ℕ)
said_rejects = both (one (word (codes "REJECTS"))) (λ _. both (one whole) (λ most. done (Some most)))

rejects_begins : (other : List ℕ) → Begins said_rejects (is_word other) (str_eq_ignore_ascii_case (codes "REJECTS") other)
rejects_begins other = begins_both (word_begins (codes "REJECTS") other)

rejects_exact : Exact counting rejects rejects read_rejects (Not (is_word (codes "REJECTS")))
unfolding read_rejects
rejects_exact = exact_option (is_word (codes "REJECTS")) None (rejects_begins (codes "REJECTS")) (exact_then (exact_word count (codes "REJECTS")) (λ _. exact_then (exact_whole_number count) (λ most. exact_gives counting (Some most))))

-- what may stand behind the source
record BehindSource (rest : List Lexeme) : Type 0 where
  from : Not (is_word (codes "FROM")) rest
  skip : Not (is_word (codes "SKIP")) rest
  separator : Not (is_word (codes "SEPARATOR")) rest
  decimal : Not (is_word (codes "DECIMAL")) rest
  rejects : Not (is_word (codes "REJECTS")) rest

-- what may stand behind the file
record BehindFile (rest : List Lexeme) : Type 0 where
  skip : Not (is_word (codes "SKIP")) rest
  separator : Not (is_word (codes "SEPARATOR")) rest
  decimal : Not (is_word (codes "DECIMAL")) rest
  rejects : Not (is_word (codes "REJECTS")) rest

separator_no_skip : Begins said_separator (is_word (codes "SKIP")) false
separator_no_skip = begins_both (word_begins (codes "SEPARATOR") (codes "SKIP"))

behind_rejects : (rest : List Lexeme) → BehindFile rest → Not (is_word (codes "REJECTS")) rest
behind_rejects rest stops = stops.rejects

-- the signs of a file of this name, of which so many records are skipped, and how many may be passed over
module _ (path : List ℕ) (records : ℕ) where
  -- [ "REJECTS" whole ]
  abbrev rejects_rest : ℕ → ℕ → Grammar Lexeme Source
  rejects_rest byte mark = both rejects (λ most. done (Some path, records, byte, mark, most))

  -- [ "DECIMAL" Text ] [ "REJECTS" whole ]
  abbrev decimal_rest : ℕ → Grammar Lexeme Source
  decimal_rest byte = both (decimal byte) (rejects_rest byte)

  -- [ "SEPARATOR" ( Text | "TAB" ) ] [ "DECIMAL" Text ] [ "REJECTS" whole ]
  abbrev signs_rest : Grammar Lexeme Source
  signs_rest = both separator decimal_rest

  rejects_no_word : (byte mark : ℕ) (other : List ℕ) → str_eq_ignore_ascii_case (codes "REJECTS") other ≡ false → Passed (is_word other) (rejects_rest byte mark)
  rejects_no_word byte mark other differs = passed_both (passed_option (subst (Begins said_rejects (is_word other)) differs (rejects_begins other))) (λ most. passed_done)

  decimal_no_word : (byte : ℕ) (other : List ℕ) → str_eq_ignore_ascii_case (codes "DECIMAL") other ≡ false → str_eq_ignore_ascii_case (codes "REJECTS") other ≡ false → Passed (is_word other) (decimal_rest byte)
  decimal_no_word byte other differs differ = passed_both (passed_decimal byte other differs) (λ mark. rejects_no_word byte mark other differ)

  signs_no_skip : Passed (is_word (codes "SKIP")) signs_rest
  signs_no_skip = passed_both (passed_option separator_no_skip) (λ byte. decimal_no_word byte (codes "SKIP") refl refl)

  rejects_rest_exact : (byte mark : ℕ) → Exact counting (rejects_rest byte mark) (rejects_rest byte mark) (both_of read_rejects (λ most. gives (Some path, records, byte, mark, most))) BehindFile
  rejects_rest_exact byte mark = exact_before behind_rejects (exact_made (λ most. (Some path, records, byte, mark, most)) rejects_exact)

  decimal_rest_exact : (byte : ℕ) → Exact counting (decimal_rest byte) (decimal_rest byte) (both_of (read_decimal byte) (λ mark. both_of read_rejects (λ most. gives (Some path, records, byte, mark, most)))) BehindFile
  decimal_rest_exact byte = exact_both (decimal_exact byte) (rejects_rest_exact byte)
      (λ mark v b rest l stops. (rejects_no_word byte mark (codes "DECIMAL") refl).at v b rest l stops.decimal)

  signs_exact : Exact counting signs_rest signs_rest (both_of read_separator (λ byte. both_of (read_decimal byte) (λ mark. both_of read_rejects (λ most. gives (Some path, records, byte, mark, most))))) BehindFile
  signs_exact = exact_both separator_exact decimal_rest_exact
      (λ byte v b rest l stops. (decimal_no_word byte (codes "SEPARATOR") refl refl).at v b rest l stops.separator)

given_source_exact : Exact counting given_source given_source read_given_source BehindFile
unfolding read_given_source
given_source_exact = exact_then (exact_word count (codes "FROM")) (λ _. exact_then (exact_file count) (λ path. exact_both skip_exact
    (λ records. signs_exact path records)
    (λ records v b rest l stops. (signs_no_skip path records).at v b rest l stops.skip)))

given_source_begins : Begins given_source (is_word (codes "FROM")) true
given_source_begins = begins_both (word_begins (codes "FROM") (codes "FROM"))

source_exact : Exact counting source source read_source BehindSource
unfolding read_source
source_exact = exact_choose {S = BehindFile} {S' = Always} {S'' = BehindSource} (is_word (codes "FROM"))
    given_source_exact
    (exact_gives counting (None, 0, comma, decimal_point, None))
    (λ u a rest h stops. (starts_text given_source_begins u a rest h, record { skip = stops.skip; separator = stops.separator; decimal = stops.decimal; rejects = stops.rejects }))
    (λ u a rest nothing stops. (ap (λ x. starts (is_word (codes "FROM")) (x ++ rest)) nothing.0 ∙ stops.from, tt))

value_exact : Exact counting value value read_value Always
unfolding read_value
value_exact = exact_or is_text (begins_both text_begins) (begins_both (begins_optional (begins_both (sign_no_text (codes "-"))) (λ negative. begins_both money_no_text)))
    (exact_then (exact_text count) (λ bytes. exact_gives counting (params.Text bytes)))
    (exact_then amount_exact (λ number. exact_gives counting (params.Number number)))

param_exact : (before : List (List ℕ × ParamText)) → Exact counting (param before) (param before) (read_param before) Always
unfolding read_param
param_exact before = exact_then (exact_new_variable before) (λ variable. exact_then (exact_sign count (codes "=")) (λ _. exact_then value_exact (λ given. exact_gives counting (variable, given))))

next_param_exact : (before : List (List ℕ × ParamText)) → Exact counting (next_param before) (next_param before) (read_next_param before) Always
unfolding read_next_param
next_param_exact before = exact_then (exact_sign count (codes ",")) (λ _. param_exact before)

next_param_begins : (before : List (List ℕ × ParamText)) → Begins (next_param before) (is_sign (codes ",")) true
next_param_begins before = begins_both (sign_begins (codes ",") (codes ","))

-- what may stand behind the parameters
record BehindParams (rest : List Lexeme) : Type 0 where
  with_word : Not (is_word (codes "WITH")) rest
  comma : Not (is_sign (codes ",")) rest

given_params_begins : Begins params_behind (is_word (codes "WITH")) true
given_params_begins = begins_both (word_begins (codes "WITH") (codes "WITH"))

params_exact : Exact counting with_params with_params read_params BehindParams
unfolding read_params read_further_params
params_exact = exact_choose {S = Not (is_sign (codes ","))} {S' = Always} {S'' = BehindParams} (is_word (codes "WITH"))
    (exact_then (exact_word count (codes "WITH")) (λ _. exact_then (param_exact []) (λ first. exact_made (λ rest. first ∷ rest) (exact_rest_after (is_sign (codes ",")) next_param_begins next_param_exact (first ∷ [])))))
    (exact_gives counting [])
    (λ u a rest h stops. (starts_text given_params_begins u a rest h, stops.comma))
    (λ u a rest nothing stops. (ap (λ x. starts (is_word (codes "WITH")) (x ++ rest)) nothing.0 ∙ stops.with_word, tt))

-- what stands behind the source
abbrev load_rest : Position → List ℕ → Source → Grammar Lexeme UserCommand
load_rest place script records = both with_params (λ variables. closed (loading place script records variables))

rest_no_from : (place : Position) (script : List ℕ) (records : Source) → Begins (load_rest place script records) (is_word (codes "FROM")) false
rest_no_from place script records = begins_optional (begins_both (word_begins (codes "WITH") (codes "FROM"))) (λ variables. closed_word (loading place script records variables) (codes "FROM"))

rest_no_skip : (place : Position) (script : List ℕ) (records : Source) → Begins (load_rest place script records) (is_word (codes "SKIP")) false
rest_no_skip place script records = begins_optional (begins_both (word_begins (codes "WITH") (codes "SKIP"))) (λ variables. closed_word (loading place script records variables) (codes "SKIP"))

rest_no_decimal : (place : Position) (script : List ℕ) (records : Source) → Begins (load_rest place script records) (is_word (codes "DECIMAL")) false
rest_no_decimal place script records = begins_optional (begins_both (word_begins (codes "WITH") (codes "DECIMAL"))) (λ variables. closed_word (loading place script records variables) (codes "DECIMAL"))

rest_no_separator : (place : Position) (script : List ℕ) (records : Source) → Begins (load_rest place script records) (is_word (codes "SEPARATOR")) false
rest_no_separator place script records = begins_optional (begins_both (word_begins (codes "WITH") (codes "SEPARATOR"))) (λ variables. closed_word (loading place script records variables) (codes "SEPARATOR"))

rest_no_rejects : (place : Position) (script : List ℕ) (records : Source) → Begins (load_rest place script records) (is_word (codes "REJECTS")) false
rest_no_rejects place script records = begins_optional (begins_both (word_begins (codes "WITH") (codes "REJECTS"))) (λ variables. closed_word (loading place script records variables) (codes "REJECTS"))

pub load_exact : Exact counting load load read_load Always
unfolding read_load
load_exact = exact_then (exact_word count (codes "LOAD")) (λ place. exact_then (exact_name count) (λ script. exact_both source_exact
    (λ records. exact_both params_exact
    (λ variables. exact_then (exact_sign count (codes ";")) (λ _. exact_gives counting (loading place script records variables)))
    (λ variables v b rest l stops. record {
      with_word = starts_text (closed_word (loading place script records variables) (codes "WITH")) v b rest l;
      comma = starts_text (closed_sign (loading place script records variables) (codes ",")) v b rest l;
    }))
    (λ records v b rest l stops. record {
      from = starts_text (rest_no_from place script records) v b rest l;
      skip = starts_text (rest_no_skip place script records) v b rest l;
      separator = starts_text (rest_no_separator place script records) v b rest l;
      decimal = starts_text (rest_no_decimal place script records) v b rest l;
      rejects = starts_text (rest_no_rejects place script records) v b rest l;
    })))
