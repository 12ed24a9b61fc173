-- The pieces of a model text end by themselves, and none begins as the body of a dimension does.
use Rattle.std.proofs.Common.{◌≡◌, ℕ, List, [], ◌∷◌, ◌++◌, Bool, true, false, ◌||◌, codes, refl, sym, ◌∙◌, ap, ◌⊎◌, inl, inr}
use Rattle.cube_lex.specs.Lexeme.{Lexeme}
use Rattle.cube_lex.specs.Quoted.{unquoted}
use Rattle.grammar.specs.Grammar.{Grammar, one, either, many}
use Rattle.grammar.specs.Watch.{unscanned, each_text}
use Rattle.grammar.specs.Reading.{gives, take_one, choose, both_of}
use Rattle.grammar.specs.Tokens.{sign, text, located, is_sign, is_word, is_text, is_text_kind}
use Rattle.grammar.specs.declared.cursor.Unwatched.{Unwatched}
use Rattle.cube_lex.specs.declared.token.Kind.TheVariants as kinds
use Rattle.grammar.proofs.Exact.{Exact, Always, exact_one, exact_gives, exact_then}
use Rattle.grammar.proofs.Begins.{HasToken, Begins, begins_one, begins_both, begins_either, begins_behind, exact_or, has_token, made_is}
use Rattle.grammar.proofs.Lists.{listed_settles}
use Rattle.grammar.proofs.Tokens.{sign_begins, word_begins, sign_no_word, word_no_sign, value_no_sign, value_no_word, text_is_value, when_picks, begins_any, sign_no_text}
use Rattle.grammar.proofs.Cuts.{Cuts}
use Rattle.grammar.proofs.Settles.{Settles, settles_one, settles_gives, settles_both, settles_choose, EndsItself, ends_itself, text_cuts}
use Rattle.dim_text.specs.Statement.{element, ending, unit, body}
use Rattle.dim_text.specs.Readers.Reading.{is_element_word}
use Rattle.dim_text.proofs.ElementExact.{element_begins, end_begins}
use Rattle.model_text.specs.Statement.{Piece, QuotedText, dimension_word, cube_word, script_word, shown_text, first_dimension, next_dimension, cube_end, piece}
use Rattle.model_text.specs.Watching.{add}
use Rattle.model_text.specs.Readers.Reading.{Plain, choose_if, read_version, read_closing, read_dimension_word, read_cube_word, read_script_word, read_naming, read_script_file, read_dimension_behind, read_rules, read_rank, read_in_parentheses, read_total_ranks, read_behind_ranks, read_ranks, read_cell_kind, read_ranked, read_position, read_auto_totals, read_lag, read_auto, read_order_words, read_order, read_cube_end}
use Rattle.model_text.proofs.PieceExact.{free, located_is, located_is_value, version_exact, closing_exact, dimension_word_exact, cube_word_exact, script_word_exact, dimension_behind_exact, cube_end_exact}

-- What settles.

pub version_settles : Settles read_version
unfolding read_version
version_settles = settles_both (settles_one _ _) (λ _. settles_both (settles_one _ _) (λ n. settles_gives _))

pub closing_settles : Settles read_closing
unfolding read_closing
closing_settles = settles_both (settles_one _ _) (λ _. settles_gives _)

pub dimension_word_settles : Settles read_dimension_word
unfolding read_dimension_word
dimension_word_settles = settles_both (settles_one _ _) (λ line. settles_gives _)

pub cube_word_settles : Settles read_cube_word
unfolding read_cube_word
cube_word_settles = settles_both (settles_one _ _) (λ line. settles_gives _)

pub script_word_settles : Settles read_script_word
unfolding read_script_word
script_word_settles = settles_both (settles_one _ _) (λ line. settles_gives _)

pub naming_settles : Settles read_naming
unfolding read_naming
naming_settles = settles_both (settles_one _ _) (λ n. settles_gives _)

pub script_file_settles : Settles read_script_file
unfolding read_script_file
script_file_settles = settles_both (settles_one _ _) (λ n. settles_gives _)

pub dimension_behind_settles : (bytes : List ℕ) → Settles (read_dimension_behind bytes)
unfolding read_dimension_behind
dimension_behind_settles bytes = settles_both (settles_one _ _) (λ _. settles_both (settles_one _ _) (λ n. settles_gives _))

rules_settles : Settles read_rules
unfolding read_rules
rules_settles = settles_choose _ (settles_both (settles_one _ _) (λ line. settles_both (settles_one _ _) (λ bytes. settles_both (settles_one _ _) (λ _. settles_gives _)))) (settles_gives _)

rank_settles : Settles read_rank
unfolding read_rank
rank_settles = settles_both (settles_one _ _) (λ shown. settles_both (settles_one _ _) (λ n. settles_gives _))

in_parentheses_settles : Settles read_in_parentheses
unfolding read_in_parentheses
in_parentheses_settles = settles_both (settles_one _ _) (λ _. settles_both (listed_settles unscanned rank_settles) (λ list. settles_both (settles_one _ _) (λ _. settles_gives _)))

settles_if : {A : Type 0} {P Q : Plain A} (allowed : Bool) (p : Lexeme → Bool) → Settles P → Settles Q → Settles (choose_if allowed p P Q)
settles_if true p e f = settles_choose p e f
settles_if false p e f = f

total_ranks_settles : (shown : List ℕ) (leaves : List (List ℕ × ℕ)) → Settles (read_total_ranks shown leaves)
unfolding read_total_ranks
total_ranks_settles shown leaves = settles_both (settles_one _ _) (λ _. settles_both in_parentheses_settles (λ totals. settles_gives _))

behind_ranks_settles : (totals : Bool) (shown : List ℕ) (leaves : List (List ℕ × ℕ)) → Settles (read_behind_ranks totals shown leaves)
unfolding read_behind_ranks
behind_ranks_settles totals shown leaves = settles_if totals _ (total_ranks_settles shown leaves) (settles_gives _)

ranks_settles : (totals : Bool) (shown : List ℕ) → Settles (read_ranks totals shown)
unfolding read_ranks
ranks_settles totals shown = settles_choose _ (settles_both in_parentheses_settles (λ leaves. behind_ranks_settles totals shown leaves)) (settles_gives _)

cell_kind_settles : Settles read_cell_kind
unfolding read_cell_kind
cell_kind_settles = settles_both (settles_one _ _) (λ _. settles_gives _)

ranked_settles : (totals : Bool) → Settles (read_ranked totals)
unfolding read_ranked
ranked_settles totals = settles_choose _ (settles_both (settles_one _ _) (λ n. settles_gives _)) (settles_both (settles_one _ _) (λ shown. ranks_settles totals shown))

position_settles : (totals : Bool) → Settles (read_position totals)
unfolding read_position
position_settles totals = settles_if totals _ cell_kind_settles (ranked_settles totals)

lag_settles : Settles read_lag
unfolding read_lag
lag_settles = settles_choose _ (settles_both (settles_one _ _) (λ shown. settles_gives _)) (settles_gives _)

auto_totals_settles : (totals : Bool) → Settles (read_auto_totals totals)
unfolding read_auto_totals
auto_totals_settles totals = settles_if totals _ (settles_both (settles_one _ _) (λ _. settles_gives _)) (settles_gives _)

auto_settles : (totals : Bool) → Settles (read_auto totals)
unfolding read_auto
auto_settles totals = settles_both (settles_one _ _) (λ _. settles_both (auto_totals_settles totals) (λ kinds. settles_both lag_settles (λ shown. settles_gives _)))

order_words_settles : (totals : Bool) → Settles (read_order_words totals)
unfolding read_order_words
order_words_settles totals = settles_choose _ (auto_settles totals) (listed_settles unscanned (position_settles totals))

order_settles : (totals : Bool) → Settles (read_order totals)
unfolding read_order
order_settles totals = settles_choose _ (settles_both (settles_one _ _) (λ line. settles_both (order_words_settles totals) (λ list. settles_both (settles_one _ _) (λ _. settles_gives _)))) (settles_gives _)

pub cube_end_settles : (totals : Bool) → Settles (read_cube_end totals)
unfolding read_cube_end
cube_end_settles totals = settles_both (settles_one _ _) (λ _. settles_both (settles_one _ _) (λ _. settles_both rules_settles (λ r. settles_both (order_settles totals) (λ o. settles_both (settles_one _ _) (λ _. settles_both (settles_one _ _) (λ _. settles_gives _))))))

-- A quoted text.

abbrev read_shown : Plain Piece
read_shown = both_of (take_one unscanned (located text)) (λ n. gives (QuotedText n.0 n.1))

abbrev sample : Lexeme
sample = record { kind = kinds.Text; piece = 39 ∷ 97 ∷ 39 ∷ []; start = 0; line = 0 }

shown_exact : Exact free shown_text shown_text read_shown Always
shown_exact = exact_then (exact_one unscanned (located text) sample (record { offset = 0; line = 0 }, 97 ∷ []) refl) (λ n. exact_gives free (QuotedText n.0 n.1))

shown_settles : Settles read_shown
shown_settles = settles_both (settles_one _ _) (λ n. settles_gives _)

shown_begins : Begins shown_text is_text true
shown_begins = begins_both (begins_one (located text) is_text true (λ t x e. (when_picks (λ t. is_text_kind t.kind) (λ t. unquoted t.piece) t x.1 (located_is text t x e)).0))

shown_no_word : (w : List ℕ) → Begins shown_text (is_word w) false
shown_no_word w = begins_both (value_no_word (located_is_value text_is_value) w)

shown_no_sign : (b : List ℕ) → Begins shown_text (is_sign b) false
shown_no_sign b = begins_both (value_no_sign (located_is_value text_is_value) b)

-- Any piece, by its first token.

abbrev behind_text : Grammar Lexeme Piece
behind_text = either first_dimension (either next_dimension (cube_end true))

behind_text_begins : (w : List ℕ) → Begins behind_text (is_word w) false
behind_text_begins w = begins_either (begins_both (sign_no_word (codes "(") w)) (begins_either (begins_both (sign_no_word (codes ",") w)) (begins_both (sign_no_word (codes ")") w)))

behind_no_text : Begins behind_text is_text false
behind_no_text = begins_either (begins_both (sign_no_text (codes "("))) (begins_either (begins_both (sign_no_text (codes ","))) (begins_both (sign_no_text (codes ")"))))

abbrev behind_words : Grammar Lexeme Piece
behind_words = either shown_text behind_text

behind_words_begins : (w : List ℕ) → Begins behind_words (is_word w) false
behind_words_begins w = begins_either (shown_no_word w) (behind_text_begins w)

behind_words_close : Begins behind_words (is_sign (codes ";")) false
behind_words_close = begins_either (shown_no_sign (codes ";")) (begins_either (begins_both (sign_begins (codes "(") (codes ";"))) (begins_either (begins_both (sign_begins (codes ",") (codes ";"))) (begins_both (sign_begins (codes ")") (codes ";")))))

abbrev words : Grammar Lexeme Piece
words = either dimension_word (either cube_word (either script_word behind_words))

words_close : Begins words (is_sign (codes ";")) false
words_close = begins_either (begins_both (word_no_sign (codes "DIM") (codes ";"))) (begins_either (begins_both (word_no_sign (codes "CUBE") (codes ";"))) (begins_either (begins_both (word_no_sign (codes "SCRIPT") (codes ";"))) behind_words_close))

words_model : Begins words (is_word (codes "MODEL")) false
words_model = begins_either (begins_both (word_begins (codes "DIM") (codes "MODEL"))) (begins_either (begins_both (word_begins (codes "CUBE") (codes "MODEL"))) (begins_either (begins_both (word_begins (codes "SCRIPT") (codes "MODEL"))) (behind_words_begins (codes "MODEL"))))

abbrev read_behind_text : Plain Piece
read_behind_text = choose (is_sign (codes "(")) (read_dimension_behind (codes "(")) (choose (is_sign (codes ",")) (read_dimension_behind (codes ",")) (read_cube_end true))

behind_text_exact : Exact free behind_text behind_text read_behind_text Always
behind_text_exact = exact_or (is_sign (codes "(")) (begins_both (sign_begins (codes "(") (codes "("))) (begins_either (begins_both (sign_begins (codes ",") (codes "("))) (begins_both (sign_begins (codes ")") (codes "("))))
    (dimension_behind_exact (codes "("))
    (exact_or (is_sign (codes ",")) (begins_both (sign_begins (codes ",") (codes ","))) (begins_both (sign_begins (codes ")") (codes ","))) (dimension_behind_exact (codes ",")) (cube_end_exact true))

abbrev read_words : Plain Piece
read_words = choose (is_word (codes "DIM")) read_dimension_word (choose (is_word (codes "CUBE")) read_cube_word (choose (is_word (codes "SCRIPT")) read_script_word (choose is_text read_shown read_behind_text)))

words_exact : Exact free words words read_words Always
words_exact = exact_or (is_word (codes "DIM")) (begins_both (word_begins (codes "DIM") (codes "DIM")))
    (begins_either (begins_both (word_begins (codes "CUBE") (codes "DIM"))) (begins_either (begins_both (word_begins (codes "SCRIPT") (codes "DIM"))) (behind_words_begins (codes "DIM"))))
    dimension_word_exact
    (exact_or (is_word (codes "CUBE")) (begins_both (word_begins (codes "CUBE") (codes "CUBE")))
    (begins_either (begins_both (word_begins (codes "SCRIPT") (codes "CUBE"))) (behind_words_begins (codes "CUBE")))
    cube_word_exact
    (exact_or (is_word (codes "SCRIPT")) (begins_both (word_begins (codes "SCRIPT") (codes "SCRIPT"))) (behind_words_begins (codes "SCRIPT"))
    script_word_exact
    (exact_or is_text shown_begins behind_no_text shown_exact behind_text_exact)))

abbrev read_piece : Plain Piece
read_piece = choose (is_word (codes "MODEL")) read_version (choose (is_sign (codes ";")) read_closing read_words)

piece_exact : Exact free piece piece read_piece Always
piece_exact = exact_or (is_word (codes "MODEL")) (begins_both (word_begins (codes "MODEL") (codes "MODEL"))) (begins_either (begins_both (sign_no_word (codes ";") (codes "MODEL"))) words_model)
    version_exact
    (exact_or (is_sign (codes ";")) (begins_both (sign_begins (codes ";") (codes ";"))) words_close closing_exact words_exact)

piece_settles : Settles read_piece
piece_settles = settles_choose _ version_settles (settles_choose _ closing_settles (settles_choose _ dimension_word_settles (settles_choose _ cube_word_settles (settles_choose _ script_word_settles
    (settles_choose _ shown_settles (settles_choose _ (dimension_behind_settles (codes "(")) (settles_choose _ (dimension_behind_settles (codes ",")) (cube_end_settles true))))))))

start : Unwatched
start = record {}

pub piece_ends_itself : EndsItself piece
piece_ends_itself = ends_itself piece_exact piece_settles start

-- What a body begins with, and no piece does.

abbrev pub is_body_word : Lexeme → Bool
is_body_word t = is_element_word t || is_word (codes "END") t

sign_no_body : (a : List ℕ) → Begins (one (sign a)) is_body_word false
sign_no_body a = begins_any (begins_any (begins_any (sign_no_word a (codes "N")) (sign_no_word a (codes "C"))) (sign_no_word a (codes "A"))) (sign_no_word a (codes "END"))

behind_no_body : Begins behind_words is_body_word false
behind_no_body = begins_any (begins_any (begins_any (behind_words_begins (codes "N")) (behind_words_begins (codes "C"))) (behind_words_begins (codes "A"))) (behind_words_begins (codes "END"))

pub piece_begins : Begins piece is_body_word false
piece_begins = begins_either (begins_both (begins_any (begins_any (begins_any (word_begins (codes "MODEL") (codes "N")) (word_begins (codes "MODEL") (codes "C"))) (word_begins (codes "MODEL") (codes "A"))) (word_begins (codes "MODEL") (codes "END"))))
    (begins_either (begins_both (sign_no_body (codes ";")))
    (begins_either (begins_both (begins_any (begins_any (begins_any (word_begins (codes "DIM") (codes "N")) (word_begins (codes "DIM") (codes "C"))) (word_begins (codes "DIM") (codes "A"))) (word_begins (codes "DIM") (codes "END"))))
    (begins_either (begins_both (begins_any (begins_any (begins_any (word_begins (codes "CUBE") (codes "N")) (word_begins (codes "CUBE") (codes "C"))) (word_begins (codes "CUBE") (codes "A"))) (word_begins (codes "CUBE") (codes "END"))))
    (begins_either (begins_both (begins_any (begins_any (begins_any (word_begins (codes "SCRIPT") (codes "N")) (word_begins (codes "SCRIPT") (codes "C"))) (word_begins (codes "SCRIPT") (codes "A"))) (word_begins (codes "SCRIPT") (codes "END"))))
    behind_no_body))))

element_end : Begins element (is_word (codes "END")) false
element_end = begins_either (begins_both (word_begins (codes "N") (codes "END"))) (begins_either (begins_both (word_begins (codes "C") (codes "END"))) (begins_both (word_begins (codes "A") (codes "END"))))

element_body : Begins element is_body_word true
element_body = begins_any element_begins element_end

ending_body : Begins ending is_body_word true
ending_body = begins_any end_begins (begins_both (word_begins (codes "END") (codes "END")))

elements_first : (u : List Lexeme) (list : List _) → many element u list → (u ≡ []) ⊎ ((t : Lexeme) × (v : List Lexeme) × (u ≡ t ∷ v) × (is_body_word t ≡ true))
elements_first u [] h = inl h
elements_first u (a ∷ list) (x, y, parts, h, more) = let (t, v, is, tells) = element_body.at x a h in inr (t, v ++ y, parts ∙ ap (λ z. z ++ y) is, tells)

unit_first : (u : List Lexeme) (a : Unit {0}) → unit (many element) u a → (u ≡ []) ⊎ ((t : Lexeme) × (v : List Lexeme) × (u ≡ t ∷ v) × (is_body_word t ≡ true))
unit_first u a h = let (list, each) = made_is (many element) (λ _. tt) u a h in elements_first u list each

pub body_begins : Begins body is_body_word true
body_begins = begins_behind unit_first (λ _. begins_both (begins_both ending_body))

pub piece_has_token : HasToken piece
piece_has_token = has_token piece_begins

pub piece_cuts : Cuts (each_text piece add)
piece_cuts = text_cuts piece add piece_ends_itself piece_has_token

-- Tokens at the beginning of which a piece and a body stand.

pub piece_or_body : (t : Lexeme) (u v : List Lexeme) (x : Piece) (a : Unit {0}) → piece (t ∷ u) x → body (t ∷ v) a → ⊥
piece_or_body t u v x a h k =
    let (s, w, is, isnt_one) = piece_begins.at (t ∷ u) x h in
    let (r, y, are, is_one) = body_begins.at (t ∷ v) a k in
    let first : t ≡ s = cc is in
    let other : t ≡ r = cc are in
    let all : true ≡ false = sym is_one ∙ ap is_body_word (sym other ∙ first) ∙ isnt_one in cc all
