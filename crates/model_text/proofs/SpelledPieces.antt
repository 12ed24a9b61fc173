-- Each piece as it is written is read as that piece again, at its new place.
use Rattle.std.proofs.Common.{◌≡◌, ◌<◌, ◌^◌, ℕ, List, [], ◌∷◌, ◌++◌, true, Option, Some, None, option_map, IfSome, ◌||◌, refl, sym, ap, ◌∙◌, subst, inl, append-nil, length, codes, IsTrue, Bool, false, arith}
use Rattle.std.proofs.lemmas.List.Elements.{All-nil, All-cons, All-head, All-tail}
use Rattle.std.specs.List.{All, AllZip, flat_map}
use Rattle.cube_lex.specs.Lexeme.{Lexeme}
use Rattle.cube_lex.specs.Quoted.{unquoted}
use Rattle.cube_lex.specs.Written.{Spelling}
use Rattle.cube_lex.proofs.Quotes.{unquoted-quoted}
use Rattle.cube_lex.specs.Positions.{position_of}
use Rattle.dim_name.specs.Name.{is_name}
use Rattle.grammar.specs.Grammar.{Grammar, either}
use Rattle.grammar.specs.Tokens.{is_text_kind, is_file, file, located}
use Rattle.cube_lex.specs.Written.{word_token, sign_token, text_token}
use Rattle.cube_lex.specs.declared.position.Position.{Position}
use Rattle.dim_text.specs.Spelled.{whole_token}
use Rattle.grammar.proofs.Spells.{Spells, Picks, spells_done, spells_next, spells_both, spells_left, spells_right, spells_made, spells_many}
use Rattle.dim_text.proofs.SpelledStatements.{picks_word, picks_sign, picks_name, picks_whole}
use Rattle.grammar.specs.Lists.{next}
use Rattle.model_text.specs.Spelled.{dimension_spelled, rules_spelled, rank_spelled, next_rank_spelled, ranks_spelled, list_spelled, totals_spelled, lag_spelled, position_spelled, next_position_spelled, positions_spelled, order_spelled, ending_spelled, cube_end_spelled}
use Rattle.model_text.specs.Statement.{Piece, only_if, Version, Closing, DimensionWord, CubeWord, ScriptWord, QuotedText, CubeDimension, CubeEnd, version, closing, dimension_word, cube_word, script_word, naming, script_file, dimension_behind, rules, rank, rank_list, in_parentheses, given_ranks, position, position_list, auto_totals, lag, auto, order_words, order, cube_end}
use Rattle.model_text.specs.Orders.{is_auto, has_auto, is_by_kind, has_kinds}
use Rattle.model_text.specs.Writable.{IsNameText, IsFileText, IsWritableRank, IsWritableList, IsWritableWord, IsWritableOrder}
use Rattle.model_text.specs.declared.order.OrderLine.{OrderLine}
use Rattle.model_text.specs.declared.order.OrderWord.{OrderWord}
use Rattle.model_text.specs.declared.order.OrderWord.TheVariants as words
use Rattle.std.proofs.lemmas.Bool.{and_from as and_both, or_parts, cond-true}

-- One token.

picks_file : (bytes : List ℕ) → IsTrue (is_file bytes) → Picks file (text_token bytes) (λ value. value ≡ bytes)
picks_file bytes is = record {
  at = λ t e. (
      let kind : is_text_kind t.kind ≡ true = ap (λ x. is_text_kind x.kind) e in
      let same : unquoted t.piece ≡ bytes = ap (λ x. unquoted x.piece) e ∙ unquoted-quoted bytes in
      let filed : is_file (unquoted t.piece) ≡ true = ap is_file same ∙ is in
      (unquoted t.piece, cond-true _ (Some (unquoted t.piece)) _ (and_both _ _ kind filed), same));
}

-- a token with its place
picks_located : {A : Type 0} {pick : Lexeme → Option A} {token : Spelling} {P : A → Type 0} → Picks pick token P → Picks (located pick) token (λ x. P x.1)
picks_located picks = record { at = λ t e. (let (a, takes, p) = picks.at t e in ((position_of t, a), ap (option_map (λ x. (position_of t, x))) takes, p)) }

-- Pieces of one or two tokens.

-- it is this piece at some place
abbrev pub IsPlaced : (Position → Piece) → Piece → Type 0
IsPlaced on x = (place : Position) × (x ≡ on place)

pub version_spells : (n : ℕ) → n < 2 ^ 31 → Spells version (word_token (codes "MODEL") ∷ whole_token n ∷ []) (IsPlaced (λ place. Version place n))
version_spells n small = spells_next (picks_word (codes "MODEL")) (λ _ _. spells_next (picks_located (picks_whole n small)) (λ x same. spells_done (Version x.0 x.1) (x.0, ap (Version x.0) same)))

pub closing_spells : Spells closing (sign_token (codes ";") ∷ []) (λ x. x ≡ Closing)
closing_spells = spells_next (picks_sign (codes ";")) (λ _ _. spells_done Closing refl)

pub dimension_word_spells : Spells dimension_word (word_token (codes "DIM") ∷ []) (IsPlaced DimensionWord)
dimension_word_spells = spells_next (picks_word (codes "DIM")) (λ place _. spells_done (DimensionWord place) (place, refl))

pub cube_word_spells : Spells cube_word (word_token (codes "CUBE") ∷ []) (IsPlaced CubeWord)
cube_word_spells = spells_next (picks_word (codes "CUBE")) (λ place _. spells_done (CubeWord place) (place, refl))

pub script_word_spells : Spells script_word (word_token (codes "SCRIPT") ∷ []) (IsPlaced ScriptWord)
script_word_spells = spells_next (picks_word (codes "SCRIPT")) (λ place _. spells_done (ScriptWord place) (place, refl))

pub naming_spells : (shown : List ℕ) → IsTrue (is_name shown) → Spells naming (text_token shown ∷ []) (IsPlaced (λ place. QuotedText place shown))
naming_spells shown is = spells_next (picks_located (picks_name shown is)) (λ x same. spells_done (QuotedText x.0 x.1) (x.0, ap (QuotedText x.0) same))

pub script_file_spells : (bytes : List ℕ) → IsTrue (is_file bytes) → Spells script_file (text_token bytes ∷ []) (IsPlaced (λ place. QuotedText place bytes))
script_file_spells bytes is = spells_next (picks_located (picks_file bytes is)) (λ x same. spells_done (QuotedText x.0 x.1) (x.0, ap (QuotedText x.0) same))

pub dimension_behind_spells : (before shown : List ℕ) → IsTrue (is_name shown) → Spells (dimension_behind before) (dimension_spelled before shown) (IsPlaced (λ place. CubeDimension place shown))
dimension_behind_spells before shown is = spells_next (picks_sign before) (λ _ _. spells_next (picks_located (picks_name shown is)) (λ x same. spells_done (CubeDimension x.0 x.1) (x.0, ap (CubeDimension x.0) same)))

-- The rule file.

-- the same, whatever the places
abbrev pub IsSameBehind : {A : Type 0} → Option (Position × A) → Option (Position × A) → Type 0
IsSameBehind x y = option_map (λ a. a.1) y ≡ option_map (λ a. a.1) x

rules_spells : (r : Option (Position × List ℕ)) → IfSome r (λ x. IsFileText x.1) → Spells rules (rules_spelled r) (IsSameBehind r)
rules_spells None is = spells_right (spells_done None refl)
rules_spells (Some r) is = spells_left (spells_next (picks_word (codes "RULES")) (λ place _. spells_next (picks_file r.1 is.0) (λ bytes same. spells_next (picks_sign (codes ";")) (λ _ _. spells_done (Some (place, bytes)) (ap (λ x. Some x) same)))))

-- The order line.

same_list : {A : Type 0} (xs ys : List A) → AllZip (λ x y. y ≡ x) xs ys → ys ≡ xs
same_list [] [] same = refl
same_list [] (y ∷ ys) same = absurd same
same_list (x ∷ xs) [] same = absurd same
same_list (x ∷ xs) (y ∷ ys) same = ap (λ z. z ∷ ys) same.0 ∙ ap (λ zs. x ∷ zs) (same_list xs ys same.1)

rank_spells : (r : List ℕ × ℕ) → IsWritableRank r → Spells rank (rank_spelled r) (λ x. x ≡ r)
rank_spells r is = spells_next (picks_name r.0 is.0.0) (λ shown same. spells_next (picks_whole r.1 is.1) (λ n equal. spells_done (shown, n) (ap (λ x. (x, n)) same ∙ ap (λ m. (r.0, m)) equal)))

next_rank_spells : (r : List ℕ × ℕ) → IsWritableRank r → Spells (next rank) (next_rank_spelled r) (λ x. x ≡ r)
next_rank_spells r is = spells_next (picks_sign (codes ",")) (λ _ _. rank_spells r is)

rank_list_spells : (list : List (List ℕ × ℕ)) → 0 < length list → All IsWritableRank list → Spells rank_list (ranks_spelled list) (λ x. x ≡ list)
rank_list_spells [] some all = absurd (omega (arith, some))
rank_list_spells (first ∷ rest) some all = spells_both {xs = rank_spelled first} {ys = flat_map next_rank_spelled rest} (rank_spells first (All-head IsWritableRank first rest all))
    (λ head same. spells_made (λ more. head ∷ more) (spells_many next_rank_spelled IsWritableRank (λ r x. x ≡ r) next_rank_spells rest (All-tail IsWritableRank first rest all))
    (λ more zip. ap (λ x. x ∷ more) same ∙ ap (λ xs. first ∷ xs) (same_list rest more zip)))

in_parentheses_spells : (list : List (List ℕ × ℕ)) → IsWritableList list → Spells in_parentheses (list_spelled list) (λ x. x ≡ list)
in_parentheses_spells list (some, all) = spells_next (picks_sign (codes "(")) (λ _ _. spells_both {xs = ranks_spelled list} {ys = sign_token (codes ")") ∷ []} (rank_list_spells list some all)
    (λ more equal. spells_next (picks_sign (codes ")")) (λ _ _. spells_done more equal)))

spells_allowed : {A : Type 0} {G H : Grammar Lexeme A} {allowed : Bool} {tokens : List Spelling} {P : A → Type 0} → IsTrue allowed → Spells G tokens P → Spells (either (only_if allowed G) H) tokens P
spells_allowed can g = record { at = λ ts e. (let (a, h, p) = g.at ts e in (a, inl (can, h), p)) }

-- the ranks of leaf cells alone
listed_spells : (totals : Bool) (shown head : List ℕ) (list : List (List ℕ × ℕ)) → head ≡ shown → IsWritableList list
    → Spells (given_ranks totals head) (list_spelled list) (λ x. x ≡ words.Ranks shown list)
listed_spells totals shown head list same is = subst (λ tokens. Spells (given_ranks totals head) tokens (λ x. x ≡ words.Ranks shown list)) (append-nil (list_spelled list))
    (spells_both {xs = list_spelled list} {ys = []} (in_parentheses_spells list is) (λ more equal. spells_right (spells_done (words.Ranks head more) (ap (λ x. words.Ranks x more) same ∙ ap (words.Ranks shown) equal))))

-- and those of consolidated cells behind them
by_kind_spells : (totals : Bool) (shown head : List ℕ) (leaves others : List (List ℕ × ℕ)) → IsTrue totals → head ≡ shown → IsWritableList leaves → IsWritableList others
    → Spells (given_ranks totals head) (list_spelled leaves ++ word_token (codes "TOTALS") ∷ list_spelled others) (λ x. x ≡ words.RanksByKind shown leaves others)
by_kind_spells totals shown head leaves others can same is more = spells_both {xs = list_spelled leaves} {ys = word_token (codes "TOTALS") ∷ list_spelled others} (in_parentheses_spells leaves is)
    (λ before equal. spells_allowed can (spells_next (picks_word (codes "TOTALS")) (λ _ _. spells_made (λ list. words.RanksByKind head before list) (in_parentheses_spells others more)
    (λ list also. ap (λ x. words.RanksByKind x before list) same ∙ ap (λ x. words.RanksByKind shown x list) equal ∙ ap (words.RanksByKind shown leaves) also))))

-- a word that is a position, and that may stand there
abbrev IsWritablePosition : Bool → OrderWord → Type 0
IsWritablePosition totals p = IsWritableWord p × (is_auto p ≡ false) × (IsTrue (is_by_kind p) → IsTrue totals)

position_spells : (totals : Bool) (p : OrderWord) → IsWritablePosition totals p → Spells (position totals) (position_spelled p) (λ x. x ≡ p)
position_spells totals (words.Constant n) (is, none, can) = spells_right (spells_left (spells_next (picks_whole n is) (λ m same. spells_done (words.Constant m) (ap words.Constant same))))
position_spells totals (words.Index shown) (is, none, can) = spells_right (spells_right (spells_next (picks_name shown is.0) (λ head same. spells_right (spells_done (words.Index head) (ap words.Index same)))))
position_spells totals (words.Ranks shown list) (is, none, can) = spells_right (spells_right (spells_next (picks_name shown is.0.0) (λ head same. spells_left (listed_spells totals shown head list same is.1))))
position_spells totals (words.RanksByKind shown leaves others) (is, none, can) = spells_right (spells_right (spells_next (picks_name shown is.0.0) (λ head same. spells_left (by_kind_spells totals shown head leaves others (can refl) same is.1 is.2))))
position_spells totals words.Totals (is, none, can) = spells_allowed (can refl) (spells_next (picks_word (codes "TOTALS")) (λ _ _. spells_done words.Totals refl))
position_spells totals (words.Auto kinds lag) (is, none, can) = cc

next_position_spells : (totals : Bool) (p : OrderWord) → IsWritablePosition totals p → Spells (next (position totals)) (next_position_spelled p) (λ x. x ≡ p)
next_position_spells totals p is = spells_next (picks_sign (codes ",")) (λ _ _. position_spells totals p is)

position_list_spells : (totals : Bool) (list : List OrderWord) → 0 < length list → All (IsWritablePosition totals) list → Spells (position_list totals) (positions_spelled list) (λ x. x ≡ list)
position_list_spells totals [] some all = absurd (omega (arith, some))
position_list_spells totals (first ∷ rest) some all = spells_both {xs = position_spelled first} {ys = flat_map next_position_spelled rest} (position_spells totals first (All-head (IsWritablePosition totals) first rest all))
    (λ head same. spells_made (λ more. head ∷ more) (spells_many next_position_spelled (IsWritablePosition totals) (λ p x. x ≡ p) (next_position_spells totals) rest (All-tail (IsWritablePosition totals) first rest all))
    (λ more zip. ap (λ x. x ∷ more) same ∙ ap (λ xs. first ∷ xs) (same_list rest more zip)))

or_right : (b c : Bool) → c ≡ true → (b || c) ≡ true
or_right true c e = refl
or_right false c e = e

-- where no word is `AUTO`, they are positions
are_positions : (totals : Bool) (list : List OrderWord) → All IsWritableWord list → has_auto list ≡ false → (IsTrue (has_kinds list) → IsTrue totals) → All (IsWritablePosition totals) list
are_positions totals [] all none can = All-nil (IsWritablePosition totals)
are_positions totals (x ∷ rest) all none can =
    let (first, others) = or_parts (is_auto x) (has_auto rest) none in
    All-cons (IsWritablePosition totals) x rest (All-head IsWritableWord x rest all, first, λ is. can (ap (λ b. b || has_kinds rest) is))
    (are_positions totals rest (All-tail IsWritableWord x rest all) others (λ has. can (or_right (is_by_kind x) (has_kinds rest) has)))

auto_totals_spells : (totals kinds : Bool) → (IsTrue kinds → IsTrue totals) → Spells (auto_totals totals) (totals_spelled kinds) (λ x. x ≡ kinds)
auto_totals_spells totals false can = spells_right (spells_done false refl)
auto_totals_spells totals true can = spells_allowed (can refl) (spells_next (picks_word (codes "TOTALS")) (λ _ _. spells_done true refl))

lag_spells : (l : Option (List ℕ)) → IfSome l IsNameText → Spells lag (lag_spelled l) (λ x. x ≡ l)
lag_spells None is = spells_right (spells_done None refl)
lag_spells (Some shown) is = spells_left (spells_next (picks_name shown is.0) (λ head same. spells_done (Some head) (ap (λ x. Some x) same)))

auto_spells : (totals kinds : Bool) (l : Option (List ℕ)) → (IsTrue kinds → IsTrue totals) → IfSome l IsNameText → Spells (auto totals) (position_spelled (words.Auto kinds l)) (λ x. x ≡ words.Auto kinds l ∷ [])
auto_spells totals kinds l can is = spells_next (picks_word (codes "AUTO")) (λ _ _. spells_both {xs = totals_spelled kinds} {ys = lag_spelled l} (auto_totals_spells totals kinds can)
    (λ k same. spells_made (λ m. words.Auto k m ∷ []) (lag_spells l is) (λ m equal. ap (λ x. words.Auto k x ∷ []) equal ∙ ap (λ x. words.Auto x l ∷ []) same)))

-- `AUTO`, the only word of its line
alone_spells : (totals : Bool) (list : List OrderWord) → has_auto list ≡ true → length list ≡ 1 → All IsWritableWord list → (IsTrue (has_kinds list) → IsTrue totals) → Spells (auto totals) (positions_spelled list) (λ x. x ≡ list)
alone_spells totals [] has one all can = absurd (omega (arith, one))
alone_spells totals (x ∷ y ∷ rest) has one all can = absurd (omega (arith, one))
alone_spells totals (words.Constant n ∷ []) has one all can = cc
alone_spells totals (words.Index shown ∷ []) has one all can = cc
alone_spells totals (words.Ranks shown list ∷ []) has one all can = cc
alone_spells totals (words.RanksByKind shown leaves others ∷ []) has one all can = cc
alone_spells totals (words.Totals ∷ []) has one all can = cc
alone_spells totals (words.Auto kinds l ∷ []) has one all can = subst (λ tokens. Spells (auto totals) tokens (λ x. x ≡ words.Auto kinds l ∷ [])) (sym (append-nil (position_spelled (words.Auto kinds l))))
    (auto_spells totals kinds l (λ is. can (ap (λ b. b || false) is)) (All-head IsWritableWord (words.Auto kinds l) [] all))

order_words_spells : (totals : Bool) (list : List OrderWord) → IsWritableOrder list → (IsTrue (has_kinds list) → IsTrue totals) → Spells (order_words totals) (positions_spelled list) (λ x. x ≡ list)
order_words_spells totals list is can = by (has_auto list) refl
  where
    by : (b : Bool) → has_auto list ≡ b → Spells (order_words totals) (positions_spelled list) (λ x. x ≡ list)
    by true has = spells_left (alone_spells totals list has (is.auto_alone has) is.each can)
    by false none = spells_right (position_list_spells totals list is.some (are_positions totals list is.each none can))

-- the words of this order line, whatever the place of its first word
abbrev pub HasPositions : Option (Position × OrderLine) → Option (Position × List OrderWord) → Type 0
HasPositions o again = option_map (λ a. a.1) again ≡ option_map (λ a. a.1.words) o

-- what tells leaf cells and consolidated cells apart may stand in it
abbrev pub MayStand : Bool → Option (Position × OrderLine) → Type 0
MayStand totals o = IfSome o (λ x. IsTrue (has_kinds x.1.words) → IsTrue totals)

order_spells : (totals : Bool) (o : Option (Position × OrderLine)) → IfSome o (λ x. IsWritableOrder x.1.words) → MayStand totals o → Spells (order totals) (order_spelled o) (HasPositions o)
order_spells totals None is can = spells_right (spells_done None refl)
order_spells totals (Some o) is can = spells_left (spells_next (picks_word (codes "ORDER")) (λ place _. spells_both {xs = positions_spelled o.1.words} {ys = sign_token (codes ";") ∷ []} (order_words_spells totals o.1.words is can)
    (λ list same. spells_next (picks_sign (codes ";")) (λ _ _. spells_done (Some (place, list)) (ap (λ x. Some x) same)))))

-- The end of a cube.

-- it is that end of a cube, but for its places
pub record IsEnd (r : Option (Position × List ℕ)) (o : Option (Position × OrderLine)) (x : Piece) : Type 0 where
  pub r_again : Option (Position × List ℕ)
  pub o_again : Option (Position × List OrderWord)
  pub is : x ≡ CubeEnd r_again o_again
  pub r_same : IsSameBehind r r_again
  pub o_same : HasPositions o o_again

pub cube_end_spells : (totals : Bool) (r : Option (Position × List ℕ)) (o : Option (Position × OrderLine)) → IfSome r (λ x. IsFileText x.1) → IfSome o (λ x. IsWritableOrder x.1.words) → MayStand totals o → Spells (cube_end totals) (cube_end_spelled r o) (IsEnd r o)
cube_end_spells totals r o r_is o_is can = spells_next (picks_sign (codes ")")) (λ _ _. spells_next (picks_sign (codes ";")) (λ _ _. spells_both {xs = rules_spelled r} {ys = order_spelled o ++ ending_spelled} (rules_spells r r_is)
    (λ r_again r_same. spells_both {xs = order_spelled o} {ys = ending_spelled} (order_spells totals o o_is can)
    (λ o_again o_same. spells_next (picks_word (codes "END")) (λ _ _. spells_next (picks_sign (codes ";"))
    (λ _ _. spells_done (CubeEnd r_again o_again) (record { r_again = r_again; o_again = o_again; is = refl; r_same = r_same; o_same = o_same })))))))
