-- The operators of rules, written again.
use Rattle.std.proofs.Common.{◌≡◌, ℕ, ◌+◌, List, [], ◌∷◌, ◌++◌, Bool, true, false, Some, if◌then◌else◌, refl, sym, ap, ◌∙◌, subst, codes, arith}
use Rattle.std.proofs.lemmas.Bool.{le-ltb}
use Rattle.std.specs.Str.{bytes_eq}
use Rattle.cube_lex.specs.Lexeme.{Lexeme}
use Rattle.cube_lex.specs.Written.{spelling_of, sign_token}
use Rattle.cube_lex.specs.declared.token.Kind.TheVariants as kinds
use Rattle.grammar.specs.Tokens.{is_sign}
use Rattle.expression_grammar.specs.Language.{Table, operator}
use Rattle.expression_grammar.specs.Spelled.{in_parentheses}
use Rattle.expression_grammar.proofs.PrintedExpressions.{IsCompared, values, truths}
use Rattle.expression_grammar.proofs.PrintedLevels.{Writing, IsJoined, IsLadder}
use Rattle.expression_grammar.proofs.PrintedLimits.{IsWrittenSign}
use Rattle.expression_grammar.proofs.PrintedTokens.{Picks, is_written_sign}
use Rattle.rule_tree.specs.Formula.{ors, ands, relations, sums, products, rules_language}
use Rattle.rule_printer.specs.Spelled.{Written, written, written_at, rank_of, left_level, right_level, sign_of}
use Rattle.rule_tree.specs.declared.counted.Counted.{Counted}
use Rattle.rule_tree.specs.declared.counted.RuleTextPlace.{RuleTextPlace}
use Rattle.rule_tree.specs.declared.tree.Tree.{Tree}
use Rattle.rule_tree.specs.declared.tree.Tree.TheVariants as trees
use Rattle.rule_tree.specs.declared.tree.TreeOp.{TreeOp}
use Rattle.rule_tree.specs.declared.tree.TreeOp.TheVariants as ops
use Rattle.expression_grammar.specs.declared.limits.Limits.{Limits}
use Rattle.rule_printer.proofs.PrintedCounting.{IsPlace, IsQuiet, literal, sign_literal, formula_counting}
use Rattle.rule_printer.proofs.PrintedTrees.{written_minus, written_not, written_binary}

-- how formulas of rules are written
abbrev pub rules_writing : Writing Tree TreeOp
rules_writing = record { rank = λ e. (written e).rank; bare = λ e. (written e).tokens; sign = sign_of }

-- each entry of a table has P
abbrev pub AllOf : (List ℕ → TreeOp → Type 0) → Table TreeOp → Type 0
AllOf P [] = Unit {0}
AllOf P (entry ∷ table) = P entry.0 entry.1 × AllOf P table

in_entry : (P : List ℕ → TreeOp → Type 0) (s : List ℕ) (x : TreeOp) (table : Table TreeOp) (t : Lexeme) (o : TreeOp) (b : Bool) → is_sign s t ≡ b → P s x → (operator table t ≡ Some o → (s : List ℕ) × (is_sign s t ≡ true) × P s o)
    → (if b then Some x else operator table t) ≡ Some o → (s : List ℕ) × (is_sign s t ≡ true) × P s o
in_entry P s x table t o true is p later e = let same : x ≡ o = cc in (s, is, subst (P s) same p)
in_entry P s x table t o false is p later e = later e

in_table : (P : List ℕ → TreeOp → Type 0) (table : Table TreeOp) → AllOf P table → (t : Lexeme) (o : TreeOp) → operator table t ≡ Some o → (s : List ℕ) × (is_sign s t ≡ true) × P s o
in_table P [] all t o e = cc
in_table P (entry ∷ table) all t o e = in_entry P entry.0 entry.1 table t o (is_sign entry.0 t) refl all.0 (in_table P table all.1 t o) e

-- an operator of the table, with how it binds
record Entry (table : Table TreeOp) (rank left right : ℕ) (s : List ℕ) (o : TreeOp) : Type 0 where
  ranks : rank_of o ≡ rank
  lefts : left_level o ≡ left
  rights : right_level o ≡ right
  signs : sign_of o ≡ s
  picks : (t : Lexeme) → operator table (literal kinds.Sign s t) ≡ Some o
  quiet : (t : Lexeme) → IsQuiet (literal kinds.Sign s t)

quiet_of : (s : List ℕ) → bytes_eq s (codes ";") ≡ false → bytes_eq s (codes ":") ≡ false → bytes_eq s (codes ",") ≡ false → bytes_eq s (codes "(") ≡ false → bytes_eq s (codes ")") ≡ false → bytes_eq s (codes "[") ≡ false → bytes_eq s (codes "!") ≡ false
    → (t : Lexeme) → IsQuiet (literal kinds.Sign s t)
quiet_of s semicolon colon comma opening closing bracket mark t = record { kind = refl; semicolon = semicolon; colon = colon; comma = comma; opening = opening; closing = closing; bracket = bracket; mark = mark }

entry_of : (table : Table TreeOp) (rank left right : ℕ) (s : List ℕ) (o : TreeOp) → rank_of o ≡ rank → left_level o ≡ left → right_level o ≡ right → sign_of o ≡ s → ((t : Lexeme) → operator table (literal kinds.Sign s t) ≡ Some o) → ((t : Lexeme) → IsQuiet (literal kinds.Sign s t))
    → Entry table rank left right s o
entry_of table rank left right s o a b c d e f = record { ranks = a; lefts = b; rights = c; signs = d; picks = e; quiet = f }

abbrev Entries : Table TreeOp → ℕ → ℕ → ℕ → Type 0
Entries table rank left right = AllOf (Entry table rank left right) table

or_entries : Entries ors 0 0 1
or_entries = (entry_of ors 0 0 1 (codes "%") ops.Or refl refl refl refl (λ t. refl) (quiet_of (codes "%") refl refl refl refl refl refl refl), tt)

and_entries : Entries ands 1 1 2
and_entries = (entry_of ands 1 1 2 (codes "&") ops.And refl refl refl refl (λ t. refl) (quiet_of (codes "&") refl refl refl refl refl refl refl), tt)

sum_entries : Entries sums 0 0 1
sum_entries = (
  entry_of sums 0 0 1 (codes "+") ops.Add refl refl refl refl (λ t. refl) (quiet_of (codes "+") refl refl refl refl refl refl refl),
  (entry_of sums 0 0 1 (codes "-") ops.Sub refl refl refl refl (λ t. refl) (quiet_of (codes "-") refl refl refl refl refl refl refl), tt),
)

product_entries : Entries products 1 1 2
product_entries = (
  entry_of products 1 1 2 (codes "*") ops.Mul refl refl refl refl (λ t. refl) (quiet_of (codes "*") refl refl refl refl refl refl refl),
  (
    entry_of products 1 1 2 (codes "/") ops.Div refl refl refl refl (λ t. refl) (quiet_of (codes "/") refl refl refl refl refl refl refl),
    (entry_of products 1 1 2 (codes "\\") ops.DivSafe refl refl refl refl (λ t. refl) (quiet_of (codes "\\") refl refl refl refl refl refl refl), tt),
  ),
)

relation_entry : (s : List ℕ) (o : TreeOp) → rank_of o ≡ 3 → left_level o ≡ 0 → right_level o ≡ 0 → sign_of o ≡ s → ((t : Lexeme) → operator relations (literal kinds.Sign s t) ≡ Some o) → ((t : Lexeme) → IsQuiet (literal kinds.Sign s t)) → Entry relations 3 0 0 s o
relation_entry = entry_of relations 3 0 0

relation_entries : Entries relations 3 0 0
relation_entries = (
  relation_entry (codes "=") ops.Equal refl refl refl refl (λ t. refl) (quiet_of (codes "=") refl refl refl refl refl refl refl),
  (
    relation_entry (codes "<>") ops.Unequal refl refl refl refl (λ t. refl) (quiet_of (codes "<>") refl refl refl refl refl refl refl),
    (
      relation_entry (codes "<") ops.Less refl refl refl refl (λ t. refl) (quiet_of (codes "<") refl refl refl refl refl refl refl),
      (
        relation_entry (codes ">") ops.Greater refl refl refl refl (λ t. refl) (quiet_of (codes ">") refl refl refl refl refl refl refl),
        (
          relation_entry (codes "<=") ops.AtMost refl refl refl refl (λ t. refl) (quiet_of (codes "<=") refl refl refl refl refl refl refl),
          (
            relation_entry (codes ">=") ops.AtLeast refl refl refl refl (λ t. refl) (quiet_of (codes ">=") refl refl refl refl refl refl refl),
            (
              relation_entry (codes "@=") ops.Same refl refl refl refl (λ t. refl) (quiet_of (codes "@=") refl refl refl refl refl refl refl),
              (relation_entry (codes "@<>") ops.Other refl refl refl refl (λ t. refl) (quiet_of (codes "@<>") refl refl refl refl refl refl refl), tt),
            ),
          ),
        ),
      ),
    ),
  ),
)

-- a token that is the sign of an entry, or is written so
entry_literal : {table : Table TreeOp} {rank left right : ℕ} {s : List ℕ} {o : TreeOp} → Entry table rank left right s o → (t : Lexeme) → spelling_of t ≡ sign_token (sign_of o) → t ≡ literal kinds.Sign s t
entry_literal {s = s} entry t e = sign_literal s t (is_written_sign s t (e ∙ ap sign_token entry.signs))

entry_picks : {table : Table TreeOp} {rank left right : ℕ} {s : List ℕ} {o : TreeOp} → Entry table rank left right s o → Picks (operator table) (sign_token (sign_of o)) o
entry_picks {table = table} entry = record { at = λ t e. ap (operator table) (entry_literal entry t e) ∙ entry.picks t }

entry_written : {table : Table TreeOp} {rank left right : ℕ} {s : List ℕ} {o : TreeOp} → Entry table rank left right s o → IsWrittenSign IsQuiet (sign_of o)
entry_written entry = record { at = λ t e. subst IsQuiet (sym (entry_literal entry t e)) (entry.quiet t) }

quiet_in : (table : Table TreeOp) (rank left right : ℕ) → Entries table rank left right → (t : Lexeme) (o : TreeOp) → operator table t ≡ Some o → IsQuiet t
quiet_in table rank left right all t o takes =
    let (s, is, entry) = in_table (Entry table rank left right) table all t o takes in
    subst IsQuiet (sym (sign_literal s t is)) (entry.quiet t)

spelled_in : (table : Table TreeOp) (rank left right : ℕ) → Entries table rank left right → (t : Lexeme) (o : TreeOp) → operator table t ≡ Some o → (a b : Tree)
    → (written (trees.Binary o a b)).tokens ≡ written_at left (written a) ++ sign_token (sign_of o) ∷ written_at right (written b)
spelled_in table rank left right all t o takes a b =
    let (s, is, entry) = in_table (Entry table rank left right) table all t o takes in
    ap (λ w. w.tokens) (written_binary o a b)
    ∙ ap (λ n. written_at n (written a) ++ sign_token (sign_of o) ∷ written_at (right_level o) (written b)) entry.lefts
    ∙ ap (λ n. written_at left (written a) ++ sign_token (sign_of o) ∷ written_at n (written b)) entry.rights

ranks_in : (table : Table TreeOp) (rank left right : ℕ) → Entries table rank left right → (t : Lexeme) (o : TreeOp) → operator table t ≡ Some o → (a b : Tree) → (written (trees.Binary o a b)).rank ≡ rank
ranks_in table rank left right all t o takes a b =
    let (s, is, entry) = in_table (Entry table rank left right) table all t o takes in
    ap (λ w. w.rank) (written_binary o a b) ∙ entry.ranks

picks_in : (table : Table TreeOp) (rank left right : ℕ) → Entries table rank left right → (t : Lexeme) (o : TreeOp) → operator table t ≡ Some o → Picks (operator table) (sign_token (sign_of o)) o
picks_in table rank left right all t o takes = let (s, is, entry) = in_table (Entry table rank left right) table all t o takes in entry_picks entry

written_in : (table : Table TreeOp) (rank left right : ℕ) → Entries table rank left right → (t : Lexeme) (o : TreeOp) → operator table t ≡ Some o → IsWrittenSign IsQuiet (sign_of o)
written_in table rank left right all t o takes = let (s, is, entry) = in_table (Entry table rank left right) table all t o takes in entry_written entry

-- where any value may stand
pub anywhere : (w : Written) → written_at 0 w ≡ w.tokens
anywhere w = ap (λ b. if b then in_parentheses w.tokens else w.tokens) (le-ltb w.rank 0 (omega arith))

module _ (place : Limits → RuleTextPlace) (base : ℕ) (is : IsPlace place base) (c : Counted) where
  joins : (table : Table TreeOp) (level : ℕ) → Entries table level level (level + 1) → IsJoined (formula_counting place base is c) rules_writing (λ o left right. trees.Binary o left right) table level
  joins table level all = record {
    rank = ranks_in table level level (level + 1) all;
    bare = spelled_in table level level (level + 1) all;
    picks = picks_in table level level (level + 1) all;
    read = quiet_in table level level (level + 1) all;
    written = written_in table level level (level + 1) all;
  }

  quiet_sign : (s : List ℕ) → ((t : Lexeme) → IsQuiet (literal kinds.Sign s t)) → (t : Lexeme) → is_sign s t ≡ true → IsQuiet t
  quiet_sign s quiet t is-t = subst IsQuiet (sym (sign_literal s t is-t)) (quiet t)

  pub value_ladder : IsLadder (formula_counting place base is c) rules_writing (values rules_language)
  value_ladder = record {
    loose = joins sums 0 sum_entries;
    tight = joins products 1 product_entries;
    before = record {
      rank = λ e. ap (λ w. w.rank) (written_minus e);
      bare = λ e. ap (λ w. w.tokens) (written_minus e);
      read = quiet_sign (codes "-") (quiet_of (codes "-") refl refl refl refl refl refl refl);
      written = record { at = λ t e. quiet_sign (codes "-") (quiet_of (codes "-") refl refl refl refl refl refl refl) t (is_written_sign (codes "-") t e) };
    };
  }

  pub truth_ladder : IsLadder (formula_counting place base is c) rules_writing (truths rules_language)
  truth_ladder = record {
    loose = joins ors 0 or_entries;
    tight = joins ands 1 and_entries;
    before = record {
      rank = λ e. ap (λ w. w.rank) (written_not e);
      bare = λ e. ap (λ w. w.tokens) (written_not e);
      read = quiet_sign (codes "~") (quiet_of (codes "~") refl refl refl refl refl refl refl);
      written = record { at = λ t e. quiet_sign (codes "~") (quiet_of (codes "~") refl refl refl refl refl refl refl) t (is_written_sign (codes "~") t e) };
    };
  }

  pub compares : IsCompared (formula_counting place base is c) rules_writing rules_language
  compares = record {
    rank = ranks_in relations 3 0 0 relation_entries;
    bare = λ t o takes a b. spelled_in relations 3 0 0 relation_entries t o takes a b
        ∙ ap (λ l. l ++ sign_token (sign_of o) ∷ written_at 0 (written b)) (anywhere (written a))
        ∙ ap (λ l. (written a).tokens ++ sign_token (sign_of o) ∷ l) (anywhere (written b));
    picks = picks_in relations 3 0 0 relation_entries;
    read = quiet_in relations 3 0 0 relation_entries;
    written = written_in relations 3 0 0 relation_entries;
  }
