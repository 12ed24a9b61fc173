-- The readers of pieces are exact.
use Rattle.std.proofs.Common.{◌≡◌, ℕ, ◌&&◌, ◌||◌, Bool, List, [], ◌∷◌, ◌++◌, Option, Some, None, option_map, true, false, codes, refl, sym, ◌∙◌, ap, inl, inr, ◌⊎◌, if◌then◌else◌, true≢false}
use Rattle.std.proofs.lemmas.Bool.{or_parts}
use Rattle.std.specs.Str.{str_eq_ignore_ascii_case}
use Rattle.std.proofs.lemmas.Str.{IsUtf8-from_ascii, is_utf8-from_IsUtf8}
use Rattle.cube_lex.specs.Lexeme.{Lexeme}
use Rattle.cube_lex.specs.Positions.{nowhere, position_of}
use Rattle.cube_lex.specs.declared.token.Kind.{Kind}
use Rattle.cube_lex.specs.declared.token.Kind.TheVariants as kinds
use Rattle.cube_lex.specs.Quoted.{unquoted}
use Rattle.cube_lex.specs.declared.position.Position.{Position}
use Rattle.grammar.specs.Grammar.{Grammar, one, both, either, done}
use Rattle.grammar.specs.Watch.{Watch, unwatched, unscanned}
use Rattle.grammar.specs.Reading.{take_one, both_of, gives, choose, starts}
use Rattle.grammar.proofs.Lists.{BehindList, listed_exact, listed_whole_exact, behind_list}
use Rattle.grammar.specs.Tokens.{sign, word, whole, name, file, located, is_sign, is_word, is_number, is_text, is_text_kind, is_number_kind, is_whole}
use Rattle.grammar.specs.declared.cursor.Unwatched.{Unwatched}
use Rattle.dim_name.specs.Name.{is_name}
use Rattle.std.specs.Str.Parse.{digits_value}
use Rattle.grammar.proofs.Exact.{Exact, Always, Not, exact_one, exact_gives, exact_then, exact_both, exact_made, exact_choose, exact_by, exact_before}
use Rattle.grammar.proofs.Begins.{Begins, begins_one, begins_both, begins_either, begins_behind, starts_text, made_is, exact_or, exact_option, exact_before_next}
use Rattle.grammar.proofs.Tokens.{IsValue, name_is_value, whole_is_value, value_no_word, sign_no_text, sign_no_word, begins_any, exact_sign, exact_word, exact_name, exact_whole_number, exact_file, sign_begins, word_begins, when_picks, and_is, sample_of, one_ascii}
use Rattle.model_text.specs.declared.fault.ModelTextFault.{ModelTextFault}
use Rattle.model_text.specs.declared.order.OrderWord.{OrderWord}
use Rattle.model_text.specs.declared.order.OrderWord.TheVariants as words
use Rattle.model_text.specs.Statement.{Version, Closing, DimensionWord, CubeWord, ScriptWord, QuotedText, CubeDimension, CubeEnd, version, closing, dimension_word, cube_word, script_word, naming, script_file, dimension_behind, rule_file, rules, rank, in_parentheses, only_if, total_ranks, behind_ranks, given_ranks, ranks, constant, index, cell_kind, position, position_list, auto_totals, lag_name, lag, auto, order_words, order_line, order, cube_end}
use Rattle.model_text.specs.Readers.Reading.{Plain, choose_if, read_version, read_closing, read_dimension_word, read_cube_word, read_script_word, read_naming, read_script_file, read_dimension_behind, read_rules, read_rank, read_in_parentheses, read_total_ranks, read_behind_ranks, read_ranks, read_cell_kind, read_ranked, read_position, read_auto_totals, read_lag, read_auto, read_order_words, read_order, read_cube_end}
pub use Rattle.lists.proofs.Found.{mapped}

-- nothing watches the parts of a piece
abbrev pub free : Watch Lexeme Unwatched ModelTextFault
free = unwatched

-- Tokens with their places.

pub located_is : {A : Type 0} (pick : Lexeme → Option A) (t : Lexeme) (x : Position × A) → located pick t ≡ Some x → pick t ≡ Some x.1
located_is pick t x e = let (a, picks, same) = mapped (λ a. (position_of t, a)) (pick t) x e in picks ∙ ap (λ y. Some y.1) same

pub located_is_value : {A : Type 0} {pick : Lexeme → Option A} → IsValue pick → IsValue (located pick)
located_is_value {pick = pick} is = record { kind = λ t x e. is.kind t x.1 (located_is pick t x e) }

-- `'a'`
pub exact_located_name : Exact free (one (located name)) (one (located name)) (take_one unscanned (located name)) Always
exact_located_name = exact_one unscanned (located name) (sample_of kinds.Text (39 ∷ 97 ∷ 39 ∷ [])) (nowhere, 97 ∷ []) refl

-- `1`
pub exact_located_whole : Exact free (one (located whole)) (one (located whole)) (take_one unscanned (located whole)) Always
exact_located_whole = exact_one unscanned (located whole) (sample_of kinds.Number (49 ∷ [])) (nowhere, 1) refl

-- `'a'`
pub exact_located_file : Exact free (one (located file)) (one (located file)) (take_one unscanned (located file)) Always
exact_located_file = exact_one unscanned (located file) (sample_of kinds.Text (39 ∷ 97 ∷ 39 ∷ [])) (nowhere, 97 ∷ []) (ap (λ b. option_map (λ a. (nowhere, a)) (if b then Some (97 ∷ []) else None)) (is_utf8-from_IsUtf8 (97 ∷ []) (IsUtf8-from_ascii (97 ∷ []) one_ascii)))

-- Pieces of one or two tokens.

pub version_exact : Exact free version version read_version Always
unfolding read_version
version_exact = exact_then (exact_word unscanned (codes "MODEL")) (λ _. exact_then exact_located_whole (λ n. exact_gives free (Version n.0 n.1)))

pub closing_exact : Exact free closing closing read_closing Always
unfolding read_closing
closing_exact = exact_then (exact_sign unscanned (codes ";")) (λ _. exact_gives free Closing)

pub dimension_word_exact : Exact free dimension_word dimension_word read_dimension_word Always
unfolding read_dimension_word
dimension_word_exact = exact_then (exact_word unscanned (codes "DIM")) (λ place. exact_gives free (DimensionWord place))

pub cube_word_exact : Exact free cube_word cube_word read_cube_word Always
unfolding read_cube_word
cube_word_exact = exact_then (exact_word unscanned (codes "CUBE")) (λ place. exact_gives free (CubeWord place))

pub script_word_exact : Exact free script_word script_word read_script_word Always
unfolding read_script_word
script_word_exact = exact_then (exact_word unscanned (codes "SCRIPT")) (λ place. exact_gives free (ScriptWord place))

pub naming_exact : Exact free naming naming read_naming Always
unfolding read_naming
naming_exact = exact_then exact_located_name (λ n. exact_gives free (QuotedText n.0 n.1))

pub script_file_exact : Exact free script_file script_file read_script_file Always
unfolding read_script_file
script_file_exact = exact_then exact_located_file (λ n. exact_gives free (QuotedText n.0 n.1))

pub dimension_behind_exact : (bytes : List ℕ) → Exact free (dimension_behind bytes) (dimension_behind bytes) (read_dimension_behind bytes) Always
unfolding read_dimension_behind
dimension_behind_exact bytes = exact_then (exact_sign unscanned bytes) (λ _. exact_then exact_located_name (λ n. exact_gives free (CubeDimension n.0 n.1)))

-- The rule file.

rule_file_begins : Begins rule_file (is_word (codes "RULES")) true
rule_file_begins = begins_both (word_begins (codes "RULES") (codes "RULES"))

rules_exact : Exact free rules rules read_rules (Not (is_word (codes "RULES")))
unfolding read_rules
rules_exact = exact_option (is_word (codes "RULES")) None rule_file_begins (exact_then (exact_word unscanned (codes "RULES")) (λ place. exact_then (exact_file unscanned) (λ bytes. exact_then (exact_sign unscanned (codes ";")) (λ _. exact_gives free (Some (place, bytes))))))

-- The order line.

rank_exact : Exact free rank rank read_rank Always
unfolding read_rank
rank_exact = exact_then (exact_name unscanned) (λ shown. exact_then (exact_whole_number unscanned) (λ n. exact_gives free (shown, n)))

in_parentheses_exact : Exact free in_parentheses in_parentheses read_in_parentheses Always
unfolding read_in_parentheses
in_parentheses_exact = exact_then (exact_sign unscanned (codes "(")) (λ _. exact_before_next (listed_whole_exact rank_exact) (λ list. exact_then (exact_sign unscanned (codes ")")) (λ _. exact_gives free list)) (λ list. begins_both (sign_begins (codes ")") (codes ","))))

-- Where the first of two rules may stand, and where it may not.

into_only : {A : Type 0} (G H : Grammar Lexeme A) (u : List Lexeme) (a : A) → either G H u a → either (only_if true G) H u a
into_only G H u a (inl h) = inl (refl, h)
into_only G H u a (inr h) = inr h

from_only : {A : Type 0} (G H : Grammar Lexeme A) (u : List Lexeme) (a : A) → either (only_if true G) H u a → either G H u a
from_only G H u a (inl h) = inl h.1
from_only G H u a (inr h) = inr h

from_other : {A : Type 0} (G H : Grammar Lexeme A) (u : List Lexeme) (a : A) → either (only_if false G) H u a → H u a
from_other G H u a (inl h) = absurd (true≢false (sym h.0))
from_other G H u a (inr h) = h

exact_if : {A : Type 0} {G H G' H' : Grammar Lexeme A} {P Q : Plain A} {S : List Lexeme → Type 0} {p : Lexeme → Bool} (allowed : Bool) → Exact free (either G G') (either H H') (choose p P Q) S → Exact free G' H' Q S → Exact free (either (only_if allowed G) G') (either (only_if allowed H) H') (choose_if allowed p P Q) S
exact_if {G = G} {H = H} {G' = G'} {H' = H'} true e e' = exact_by (into_only G G') (from_only H H') e
exact_if {G = G} {H = H} {G' = G'} {H' = H'} false e e' = exact_by (λ u a h. inr h) (from_other H H') e'

-- Positions.

total_ranks_exact : (shown : List ℕ) (leaves : List (List ℕ × ℕ)) → Exact free (total_ranks shown leaves) (total_ranks shown leaves) (read_total_ranks shown leaves) Always
unfolding read_total_ranks
total_ranks_exact shown leaves = exact_then (exact_word unscanned (codes "TOTALS")) (λ _. exact_then in_parentheses_exact (λ totals. exact_gives free (words.RanksByKind shown leaves totals)))

behind_ranks_exact : (totals : Bool) (shown : List ℕ) (leaves : List (List ℕ × ℕ)) → Exact free (behind_ranks totals shown leaves) (behind_ranks totals shown leaves) (read_behind_ranks totals shown leaves) (Not (is_word (codes "TOTALS")))
unfolding read_behind_ranks
behind_ranks_exact totals shown leaves = exact_if totals
    (exact_option (is_word (codes "TOTALS")) (words.Ranks shown leaves) (begins_both (word_begins (codes "TOTALS") (codes "TOTALS"))) (total_ranks_exact shown leaves))
    (exact_before (λ _ _. tt) (exact_gives free (words.Ranks shown leaves)))

-- with what a position may go on
abbrev goes_on : Lexeme → Bool
goes_on t = is_sign (codes "(") t || is_word (codes "TOTALS") t

no_list : (rest : List Lexeme) → Not goes_on rest → Not (is_sign (codes "(")) rest
no_list [] e = refl
no_list (t ∷ rest) e = (or_parts (is_sign (codes "(") t) (is_word (codes "TOTALS") t) e).0

no_totals : (rest : List Lexeme) → Not goes_on rest → Not (is_word (codes "TOTALS")) rest
no_totals [] e = refl
no_totals (t ∷ rest) e = (or_parts (is_sign (codes "(") t) (is_word (codes "TOTALS") t) e).1

given_ranks_begin : (totals : Bool) (shown : List ℕ) → Begins (given_ranks totals shown) (is_sign (codes "(")) true
given_ranks_begin totals shown = begins_both (begins_both (sign_begins (codes "(") (codes "(")))

given_ranks_exact : (totals : Bool) (shown : List ℕ) → Exact free (given_ranks totals shown) (given_ranks totals shown) (both_of read_in_parentheses (λ leaves. read_behind_ranks totals shown leaves)) (Not (is_word (codes "TOTALS")))
given_ranks_exact totals shown = exact_then in_parentheses_exact (λ leaves. behind_ranks_exact totals shown leaves)

ranks_exact : (totals : Bool) (shown : List ℕ) → Exact free (ranks totals shown) (ranks totals shown) (read_ranks totals shown) (Not goes_on)
unfolding read_ranks
ranks_exact totals shown = exact_choose (is_sign (codes "(")) (given_ranks_exact totals shown) (exact_gives free (words.Index shown))
    (λ u a rest h stops. (starts_text (given_ranks_begin totals shown) u a rest h, no_totals rest stops))
    (λ u a rest h stops. (ap (λ x. starts (is_sign (codes "(")) (x ++ rest)) h.0 ∙ no_list rest stops, tt))

text_no_number : (k : Kind) → is_text_kind k ≡ true → is_number_kind k ≡ false
text_no_number kinds.Word e = refl
text_no_number kinds.Number e = cc
text_no_number kinds.Text e = refl
text_no_number kinds.Sign e = refl

whole_begins : Begins (one whole) is_number true
whole_begins = begins_one whole is_number true (λ t n e. (and_is (is_number_kind t.kind) (is_whole t.piece) (when_picks (λ t. is_number_kind t.kind && is_whole t.piece) (λ t. digits_value 10 t.piece) t n e).0).0)

name_begins : Begins (one name) is_number false
name_begins = begins_one name is_number false (λ t shown e. text_no_number t.kind (and_is (is_text_kind t.kind) (is_name (unquoted t.piece)) (when_picks (λ t. is_text_kind t.kind && is_name (unquoted t.piece)) (λ t. unquoted t.piece) t shown e).0).0)

cell_kind_exact : Exact free cell_kind cell_kind read_cell_kind Always
unfolding read_cell_kind
cell_kind_exact = exact_then (exact_word unscanned (codes "TOTALS")) (λ _. exact_gives free words.Totals)

-- a position other than `TOTALS`
abbrev ranked : Bool → Grammar Lexeme OrderWord
ranked totals = either constant (index totals)

ranked_exact : (totals : Bool) → Exact free (ranked totals) (ranked totals) (read_ranked totals) (Not goes_on)
unfolding read_ranked
ranked_exact totals = exact_or is_number (begins_both whole_begins) (begins_both name_begins)
    (exact_before (λ _ _. tt) (exact_then (exact_whole_number unscanned) (λ n. exact_gives free (words.Constant n))))
    (exact_then (exact_name unscanned) (λ shown. ranks_exact totals shown))

ranked_begins : (totals : Bool) (w : List ℕ) → Begins (ranked totals) (is_word w) false
ranked_begins totals w = begins_either (begins_both (value_no_word whole_is_value w)) (begins_both (value_no_word name_is_value w))

cell_kind_begins : (w : List ℕ) → Begins cell_kind (is_word w) (str_eq_ignore_ascii_case (codes "TOTALS") w)
cell_kind_begins w = begins_both (word_begins (codes "TOTALS") w)

position_exact : (totals : Bool) → Exact free (position totals) (position totals) (read_position totals) (Not goes_on)
unfolding read_position
position_exact totals = exact_if totals (exact_or (is_word (codes "TOTALS")) (cell_kind_begins (codes "TOTALS")) (ranked_begins totals (codes "TOTALS")) (exact_before (λ _ _. tt) cell_kind_exact) (ranked_exact totals)) (ranked_exact totals)

name_is_text : Begins (one name) is_text true
name_is_text = begins_one name is_text true (λ t shown e. (and_is (is_text_kind t.kind) (is_name (unquoted t.piece)) (when_picks (λ t. is_text_kind t.kind && is_name (unquoted t.piece)) (λ t. unquoted t.piece) t shown e).0).0)

lag_name_begins : Begins lag_name (is_word (codes "TOTALS")) false
lag_name_begins = begins_both (value_no_word name_is_value (codes "TOTALS"))

lag_exact : Exact free lag lag read_lag (Not is_text)
unfolding read_lag
lag_exact = exact_option is_text None (begins_both name_is_text) (exact_then (exact_name unscanned) (λ shown. exact_gives free (Some shown)))

-- what may stand behind the words of an order line
record BehindWords (rest : List Lexeme) : Type 0 where
  lag : Not is_text rest
  list : BehindList goes_on rest

auto_totals_exact : (totals : Bool) → Exact free (auto_totals totals) (auto_totals totals) (read_auto_totals totals) (Not (is_word (codes "TOTALS")))
unfolding read_auto_totals
auto_totals_exact totals = exact_if totals
    (exact_option (is_word (codes "TOTALS")) false (begins_both (word_begins (codes "TOTALS") (codes "TOTALS"))) (exact_then (exact_word unscanned (codes "TOTALS")) (λ _. exact_gives free true)))
    (exact_before (λ _ _. tt) (exact_gives free false))

lag_no_totals : (v : List Lexeme) (l : Option (List ℕ)) (rest : List Lexeme) → lag v l → Not (is_word (codes "TOTALS")) rest → Not (is_word (codes "TOTALS")) (v ++ rest)
lag_no_totals v l rest (inl h) stops = starts_text lag_name_begins v l rest h
lag_no_totals v l rest (inr h) stops = ap (λ x. starts (is_word (codes "TOTALS")) (x ++ rest)) h.0 ∙ stops

auto_exact : (totals : Bool) → Exact free (auto totals) (auto totals) (read_auto totals) BehindWords
unfolding read_auto
auto_exact totals = exact_then (exact_word unscanned (codes "AUTO")) (λ _. exact_both (auto_totals_exact totals)
    (λ kinds. exact_made (λ shown. words.Auto kinds shown ∷ []) (exact_before (λ rest (stops : BehindWords rest). stops.lag) lag_exact))
    (λ kinds v b rest h stops. let (l, named) = made_is lag (λ shown. words.Auto kinds shown ∷ []) v b h in lag_no_totals v l rest named (no_totals rest stops.list.item)))

only_begins : {A : Type 0} {G : Grammar Lexeme A} {allowed : Bool} {p : Lexeme → Bool} {b : Bool} → Begins G p b → Begins (only_if allowed G) p b
only_begins e = record { at = λ u a h. e.at u a h.1 }

position_begins : (totals : Bool) → Begins (position totals) (is_word (codes "AUTO")) false
position_begins totals = begins_either (only_begins (cell_kind_begins (codes "AUTO"))) (ranked_begins totals (codes "AUTO"))

position_list_begins : (totals : Bool) → Begins (position_list totals) (is_word (codes "AUTO")) false
position_list_begins totals = begins_both (position_begins totals)

-- no position goes on with a `,` or a `;`

comma_ends : Begins (one (sign (codes ","))) goes_on false
comma_ends = begins_any (sign_begins (codes ",") (codes "(")) (sign_no_word (codes ",") (codes "TOTALS"))

close_ends : Begins (one (sign (codes ";"))) goes_on false
close_ends = begins_any (sign_begins (codes ";") (codes "(")) (sign_no_word (codes ";") (codes "TOTALS"))

auto_begins : (totals : Bool) → Begins (auto totals) (is_word (codes "AUTO")) true
auto_begins totals = begins_both (word_begins (codes "AUTO") (codes "AUTO"))

order_words_exact : (totals : Bool) → Exact free (order_words totals) (order_words totals) (read_order_words totals) BehindWords
unfolding read_order_words
order_words_exact totals = exact_choose (is_word (codes "AUTO")) (auto_exact totals) (listed_exact goes_on comma_ends (position_exact totals))
    (λ u a rest h stops. (starts_text (auto_begins totals) u a rest h, stops))
    (λ u a rest h stops. (starts_text (position_list_begins totals) u a rest h, stops.list))

abbrev line_end : Option (Position × List OrderWord) → Grammar Lexeme (Option (Position × List OrderWord))
line_end o = both (one (sign (codes ";"))) (λ _. done o)

line_end_begins : (o : Option (Position × List OrderWord)) → Begins (line_end o) is_text false
line_end_begins o = begins_both (sign_no_text (codes ";"))

order_line_exact : (totals : Bool) → Exact free (order_line totals) (order_line totals) (both_of (take_one unscanned (word (codes "ORDER"))) (λ place. both_of (read_order_words totals) (λ list. both_of (take_one unscanned (sign (codes ";"))) (λ _. gives (Some (place, list)))))) Always
order_line_exact totals = exact_then (exact_word unscanned (codes "ORDER")) (λ place. exact_both (order_words_exact totals)
    (λ list. exact_then (exact_sign unscanned (codes ";")) (λ _. exact_gives free (Some (place, list))))
    (λ list v b rest l _. record {
      lag = starts_text (line_end_begins (Some (place, list))) v b rest l;
      list = behind_list (codes ";") (done (Some (place, list))) goes_on close_ends refl v b rest l;
    }))

order_exact : (totals : Bool) → Exact free (order totals) (order totals) (read_order totals) (Not (is_word (codes "ORDER")))
unfolding read_order
order_exact totals = exact_option (is_word (codes "ORDER")) None (begins_both (word_begins (codes "ORDER") (codes "ORDER"))) (order_line_exact totals)

-- The end of a cube.

order_line_begins : (totals : Bool) → Begins (order_line totals) (is_word (codes "RULES")) false
order_line_begins totals = begins_both (word_begins (codes "ORDER") (codes "RULES"))

order_first : (totals : Bool) (u : List Lexeme) (o : Option (Position × List OrderWord)) → order totals u o → (u ≡ []) ⊎ ((t : Lexeme) × (v : List Lexeme) × (u ≡ t ∷ v) × (is_word (codes "RULES") t ≡ false))
order_first totals u o (inl h) = inr ((order_line_begins totals).at u o h)
order_first totals u o (inr h) = inl h.0

pub cube_end_exact : (totals : Bool) → Exact free (cube_end totals) (cube_end totals) (read_cube_end totals) Always
unfolding read_cube_end
cube_end_exact totals = exact_then (exact_sign unscanned (codes ")")) (λ _. exact_then (exact_sign unscanned (codes ";")) (λ _. exact_before_next rules_exact
    (λ r. exact_before_next (order_exact totals)
    (λ o. exact_then (exact_word unscanned (codes "END")) (λ _. exact_then (exact_sign unscanned (codes ";")) (λ _. exact_gives free (CubeEnd r o))))
    (λ o. begins_both (word_begins (codes "END") (codes "ORDER"))))
    (λ r. begins_behind (order_first totals) (λ o. begins_both (word_begins (codes "END") (codes "RULES"))))))
