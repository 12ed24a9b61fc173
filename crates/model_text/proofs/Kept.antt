-- What is read of cubes and scripts can be written as tokens again.
use Rattle.std.proofs.Common.{◌≡◌, ◌<◌, ◌^◌, ℕ, Bool, IsTrue, List, [], ◌∷◌, length, slice_index_or, true, false, true≢false, Ok, refl, Option, Some, None, IfSome, sym, ap, ◌∙◌, subst, ◌&&◌, arith}
use Rattle.std.proofs.lemmas.Bool.{ltb-true}
use Rattle.std.proofs.lemmas.List.Elements.{All-nil, All-cons}
use Rattle.std.proofs.lemmas.List.Folds.{list_any_none}
use Rattle.std.specs.List.{All, list_all}
use Rattle.std.specs.Char.{is_ascii_digit}
use Rattle.std.specs.Str.Parse.{digits_value}
use Rattle.cube_lex.specs.Lexeme.{Lexeme}
use Rattle.cube_lex.specs.Quoted.{unquoted}
use Rattle.cube_lex.specs.declared.position.Position.{Position}
use Rattle.dim_name.specs.Name.{is_name}
use Rattle.grammar.specs.Grammar.{Grammar, one}
use Rattle.grammar.specs.Tokens.{located, is_text_kind, is_number_kind, is_file, is_whole, name, file, whole}
use Rattle.grammar.specs.Reading.{take_one, bound, gives}
use Rattle.grammar.specs.Watch.{unscanned}
use Rattle.grammar.specs.declared.cursor.Unwatched.{Unwatched}
use Rattle.grammar.proofs.Exact.{Exact}
use Rattle.grammar.proofs.Kept.{AreTokens, first_tokens, Keeps, keeps_any, keeps_done, keeps_both, keeps_either, keeps_many}
use Rattle.grammar.proofs.Tokens.{when_picks, and_is}
use Rattle.grammar.proofs.Top.{read_told}
use Rattle.dim_text.proofs.Quotable.{text_quotable, name_quotable}
use Rattle.model_text.specs.Contents.{IsLineIn}
use Rattle.model_text.specs.Gathering.{order_of}
use Rattle.model_text.specs.Readers.Reading.{Plain, read_naming, read_script_file, read_cube_end}
use Rattle.model_text.specs.Statement.{Piece, QuotedText, CubeEnd, has_totals, only_if, naming, script_file, rules, rank, rank_list, in_parentheses, behind_ranks, ranks, position, position_list, auto_totals, lag, auto, order_words, order, cube_end}
use Rattle.model_text.specs.Orders.{is_auto, is_by_kind, has_kinds}
use Rattle.model_text.specs.Writable.{IsNameText, IsFileText, IsWritableRank, IsWritableList, IsWritableWord, IsWritableOrder}
use Rattle.model_text.specs.declared.fault.ModelTextFault.{ModelTextFault}
use Rattle.model_text.specs.declared.order.OrderWord.{OrderWord}
use Rattle.model_text.specs.declared.order.OrderWord.TheVariants as words
use Rattle.model_text.proofs.ModelExact.{file_is_text}
use Rattle.model_text.proofs.PieceExact.{free, located_is, naming_exact, script_file_exact, cube_end_exact}

-- Tokens.

name_kept : Keeps (one name) IsNameText
name_kept = record {
  at = λ u shown tokens (t, is, picks). (
      let (both_hold, same) = when_picks (λ (t : Lexeme). is_text_kind t.kind && is_name (unquoted t.piece)) (λ t. unquoted t.piece) t shown picks in
      let named : is_name (unquoted t.piece) ≡ true = (and_is (is_text_kind t.kind) (is_name (unquoted t.piece)) both_hold).1 in
      (ap is_name (sym same) ∙ named, name_quotable.at u shown tokens (t, is, picks)));
}

file_kept : Keeps (one file) IsFileText
file_kept = record {
  at = λ u bytes tokens (t, is, picks). (
      let (both_hold, same) = when_picks (λ (t : Lexeme). is_text_kind t.kind && is_file (unquoted t.piece)) (λ t. unquoted t.piece) t bytes picks in
      let filed : is_file (unquoted t.piece) ≡ true = (and_is (is_text_kind t.kind) (is_file (unquoted t.piece)) both_hold).1 in
      (ap is_file (sym same) ∙ filed, text_quotable.at u bytes tokens (t, is, file_is_text t bytes picks)));
}

whole_kept : Keeps (one whole) (λ n. n < 2 ^ 31)
whole_kept = record {
  at = λ u n tokens (t, is, picks). (
      let (both_hold, same) = when_picks (λ (t : Lexeme). is_number_kind t.kind && is_whole t.piece) (λ t. digits_value 10 t.piece) t n picks in
      let (digits, small) = and_is (list_all is_ascii_digit t.piece) _ (and_is (is_number_kind t.kind) (is_whole t.piece) both_hold).1 in
      subst (λ m. m < 2 ^ 31) same (ltb-true (digits_value 10 t.piece) (2 ^ 31) small));
}

-- The end of a cube.

rules_kept : Keeps rules (λ r. IfSome r (λ x. IsFileText x.1))
rules_kept = keeps_either (keeps_both keeps_any (λ place _. keeps_both file_kept (λ bytes is. keeps_both keeps_any (λ _ _. keeps_done is)))) (keeps_done tt)

rank_kept : Keeps rank IsWritableRank
rank_kept = keeps_both name_kept (λ shown is. keeps_both whole_kept (λ n small. keeps_done (is, small)))

some_more : {A : Type 0} (first : A) (rest : List A) → 0 < length (first ∷ rest)
some_more first rest = omega arith

rank_list_kept : Keeps rank_list (λ list. (0 < length list) × All IsWritableRank list)
rank_list_kept = keeps_both rank_kept (λ first is. keeps_both (keeps_many (keeps_both keeps_any (λ _ _. rank_kept))) (λ rest all. keeps_done (some_more first rest, All-cons IsWritableRank first rest is all)))

in_parentheses_kept : Keeps in_parentheses IsWritableList
in_parentheses_kept = keeps_both keeps_any (λ _ _. keeps_both rank_list_kept (λ list all. keeps_both keeps_any (λ _ _. keeps_done all)))

keeps_allowed : {A : Type 0} {G : Grammar Lexeme A} {allowed : Bool} {P : A → Type 0} → (IsTrue allowed → Keeps G P) → Keeps (only_if allowed G) P
keeps_allowed k = record { at = λ u a tokens h. (k h.0).at u a tokens h.1 }

never : {A : Type 0} → false ≡ true → A
never e = absurd (true≢false (sym e))

-- a word that is a position, and that may stand there
abbrev IsWritablePosition : Bool → OrderWord → Type 0
IsWritablePosition totals p = IsWritableWord p × (is_auto p ≡ false) × (IsTrue (is_by_kind p) → IsTrue totals)

behind_ranks_kept : (totals : Bool) (shown : List ℕ) (leaves : List (List ℕ × ℕ)) → IsNameText shown → IsWritableList leaves → Keeps (behind_ranks totals shown leaves) (IsWritablePosition totals)
behind_ranks_kept totals shown leaves is all = keeps_either
    (keeps_allowed (λ can. keeps_both keeps_any (λ _ _. keeps_both in_parentheses_kept (λ others more. keeps_done ((is, all, more), refl, λ _. can)))))
    (keeps_done ((is, all), refl, never))

ranks_kept : (totals : Bool) (shown : List ℕ) → IsNameText shown → Keeps (ranks totals shown) (IsWritablePosition totals)
ranks_kept totals shown is = keeps_either (keeps_both in_parentheses_kept (λ leaves all. behind_ranks_kept totals shown leaves is all)) (keeps_done (is, refl, never))

position_kept : (totals : Bool) → Keeps (position totals) (IsWritablePosition totals)
position_kept totals = keeps_either (keeps_allowed (λ can. keeps_both keeps_any (λ _ _. keeps_done (tt, refl, λ _. can))))
    (keeps_either (keeps_both whole_kept (λ n small. keeps_done (small, refl, never))) (keeps_both name_kept (λ shown is. ranks_kept totals shown is)))

-- the words of an order line that may stand there
abbrev pub IsWritableLine : Bool → List OrderWord → Type 0
IsWritableLine totals list = IsWritableOrder list × (IsTrue (has_kinds list) → IsTrue totals)

none_of : (b : Bool) → (IsTrue b → false ≡ true) → b ≡ false
none_of true h = sym (h refl)
none_of false h = refl

kinds_may_stand : (totals : Bool) (list : List OrderWord) → All (IsWritablePosition totals) list → IsTrue (has_kinds list) → IsTrue totals
kinds_may_stand true list all has = refl
kinds_may_stand false list all has = never (sym (list_any_none is_by_kind list (λ k d here. none_of (is_by_kind (slice_index_or list k d)) (all k d here).2)) ∙ has)

positions_writable : (totals : Bool) (first : OrderWord) (rest : List OrderWord) → All (IsWritablePosition totals) (first ∷ rest) → IsWritableLine totals (first ∷ rest)
positions_writable totals first rest all = (
  record {
    some = some_more first rest;
    each = λ k d here. (all k d here).0;
    auto_alone = λ has. never (sym (list_any_none is_auto (first ∷ rest) (λ k d here. (all k d here).1)) ∙ has);
  },
  kinds_may_stand totals (first ∷ rest) all,
)

position_list_kept : (totals : Bool) → Keeps (position_list totals) (IsWritableLine totals)
position_list_kept totals = keeps_both (position_kept totals) (λ first is. keeps_both (keeps_many (keeps_both keeps_any (λ _ _. position_kept totals))) (λ rest all. keeps_done (positions_writable totals first rest (All-cons (IsWritablePosition totals) first rest is all))))

lag_kept : Keeps lag (λ l. IfSome l IsNameText)
lag_kept = keeps_either (keeps_both name_kept (λ shown is. keeps_done is)) (keeps_done tt)

auto_totals_kept : (totals : Bool) → Keeps (auto_totals totals) (λ kinds. IsTrue kinds → IsTrue totals)
auto_totals_kept totals = keeps_either (keeps_allowed (λ can. keeps_both keeps_any (λ _ _. keeps_done (λ _. can)))) (keeps_done never)

auto_writable : (kinds : Bool) (l : Option (List ℕ)) → IfSome l IsNameText → IsWritableOrder (words.Auto kinds l ∷ [])
auto_writable kinds l is = record {
  some = some_more (words.Auto kinds l) [];
  each = All-cons IsWritableWord (words.Auto kinds l) [] is (All-nil IsWritableWord);
  auto_alone = λ _. refl;
}

auto_stands : (totals kinds : Bool) (l : Option (List ℕ)) → (IsTrue kinds → IsTrue totals) → IsTrue (has_kinds (words.Auto kinds l ∷ [])) → IsTrue totals
auto_stands totals true l can has = can refl
auto_stands totals false l can has = never has

auto_kept : (totals : Bool) → Keeps (auto totals) (IsWritableLine totals)
auto_kept totals = keeps_both keeps_any (λ _ _. keeps_both (auto_totals_kept totals) (λ kinds can. keeps_both lag_kept (λ l is. keeps_done (auto_writable kinds l is, auto_stands totals kinds l can))))

order_words_kept : (totals : Bool) → Keeps (order_words totals) (IsWritableLine totals)
order_words_kept totals = keeps_either (auto_kept totals) (position_list_kept totals)

order_kept : (totals : Bool) → Keeps (order totals) (λ o. IfSome o (λ x. IsWritableLine totals x.1))
order_kept totals = keeps_either (keeps_both keeps_any (λ place _. keeps_both (order_words_kept totals) (λ list is. keeps_both keeps_any (λ _ _. keeps_done is)))) (keeps_done tt)

abbrev IsWritableEnd : Bool → Piece → Type 0
IsWritableEnd totals (CubeEnd r o) = IfSome r (λ x. IsFileText x.1) × IfSome o (λ x. IsWritableLine totals x.1)
IsWritableEnd totals other = Unit {0}

cube_end_kept : (totals : Bool) → Keeps (cube_end totals) (IsWritableEnd totals)
cube_end_kept totals = keeps_both keeps_any (λ _ _. keeps_both keeps_any (λ _ _. keeps_both rules_kept (λ r r_is. keeps_both (order_kept totals) (λ o o_is. keeps_both keeps_any (λ _ _. keeps_both keeps_any (λ _ _. keeps_done (r_is, o_is)))))))

-- Names and files.

abbrev HasName : Piece → Type 0
HasName (QuotedText place shown) = IsNameText shown
HasName other = Unit {0}

abbrev HasFile : Piece → Type 0
HasFile (QuotedText place bytes) = IsFileText bytes
HasFile other = Unit {0}

located_kept : {A : Type 0} {pick : Lexeme → Option A} {P : A → Type 0} → Keeps (one pick) P → Keeps (one (located pick)) (λ x. P x.1)
located_kept {pick = pick} k = record { at = λ u x tokens (t, is, picks). k.at u x.1 tokens (t, is, located_is pick t x picks) }

naming_kept : Keeps naming HasName
naming_kept = keeps_both (located_kept name_kept) (λ n is. keeps_done is)

script_file_kept : Keeps script_file HasFile
script_file_kept = keeps_both (located_kept file_kept) (λ n is. keeps_done is)

-- What is read of tokens.

told : {G : Grammar Lexeme Piece} {P : Plain Piece} {S : List Lexeme → Type 0} {Q : Piece → Type 0} → Exact free G G P S → Keeps G Q → (ts left : List Lexeme) (x : Piece) (u v : Unwatched) → P u ts ≡ Ok (x, v, left) → AreTokens ts → Q x
told e k ts left x u v read tokens =
    let (text, parts, is) = read_told e u ts x v left read in
    k.at text x (first_tokens text left (subst AreTokens parts tokens)) is.text

pub naming_told : (ts left : List Lexeme) (place : Position) (shown : List ℕ) (u v : Unwatched) → read_naming u ts ≡ Ok (QuotedText place shown, v, left) → AreTokens ts → IsNameText shown
naming_told ts left place shown u v read tokens = told naming_exact naming_kept ts left (QuotedText place shown) u v read tokens

pub taken_name : (ts left : List Lexeme) (n : Position × List ℕ) (u v : Unwatched) → take_one (unscanned {C = ModelTextFault}) (located name) u ts ≡ Ok (n, v, left) → AreTokens ts → IsNameText n.1
unfolding read_naming
taken_name ts left n u v read tokens = naming_told ts left n.0 n.1 u v (ap (λ r. bound r (λ m. gives (QuotedText m.0 m.1))) read) tokens

pub script_file_told : (ts left : List Lexeme) (place : Position) (bytes : List ℕ) (u v : Unwatched) → read_script_file u ts ≡ Ok (QuotedText place bytes, v, left) → AreTokens ts → IsFileText bytes
script_file_told ts left place bytes u v read tokens = told script_file_exact script_file_kept ts left (QuotedText place bytes) u v read tokens

pub cube_end_told : (totals : Bool) (ts left : List Lexeme) (r : Option (Position × List ℕ)) (o : Option (Position × List OrderWord)) (u v : Unwatched) → read_cube_end totals u ts ≡ Ok (CubeEnd r o, v, left) → AreTokens ts → IfSome r (λ x. IsFileText x.1) × IfSome o (λ x. IsWritableLine totals x.1)
cube_end_told totals ts left r o u v read tokens = told (cube_end_exact totals) (cube_end_kept totals) ts left (CubeEnd r o) u v read tokens

pub order_written : (version : ℕ) (o : Option (Position × List OrderWord)) → IfSome o (λ x. IsWritableLine (has_totals version) x.1) → IfSome (order_of version o) (λ x. IsWritableOrder x.1.words)
order_written version None is = tt
order_written version (Some o) is = is.0

second_version : (version : ℕ) → IsTrue (has_totals version) → version ≡ 2
second_version version e = grind (arith, e)

pub order_stands : (version : ℕ) (o : Option (Position × List OrderWord)) → IfSome o (λ x. IsWritableLine (has_totals version) x.1) → IfSome (order_of version o) (λ x. IsLineIn version x.1)
order_stands version None is = tt
order_stands version (Some o) is = record { version = refl; kinds = λ has. second_version version (is.1 has) }
