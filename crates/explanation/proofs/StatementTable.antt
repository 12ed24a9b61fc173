-- The statements of a rule text, token by token.
use Rattle.std.proofs.Common.{◌≡◌, ◌≢◌, ◌∙◌, ap, sym, subst, refl, arith, true, false, Bool, not, ◌&&◌, ◌⊎◌, inl, inr, if◌then◌else◌, nat_lt, eq-eqb, ne_eqb, ℕ, zero, suc, ◌+◌, ◌<◌, ◌≤◌, List, [], ◌∷◌, ◌++◌, length, length-append, drop, codes, Option, Some, Result, Ok, Err}
use Rattle.std.specs.Prelude.{slice_get, slice_index_or, ◌==◌, eqb}
use Rattle.std.proofs.lemmas.Bool.Decides.{eqb_tells}
use Rattle.cube_lex.specs.Lexeme.{Lexeme}
use Rattle.file_passes.specs.declared.refusal.FilePlace.TheVariants.{Statement}
use Rattle.grammar.specs.Tokens.{is_sign, is_word}
use Rattle.rule_tree.specs.Counting.{most_statements, start, with_token, in_place, behind_area, behind_formula, behind_targets, behind_argument, one_more, behind_all, moved, count_at, count}
use Rattle.rule_tree.specs.declared.counted.Counted.{Counted}
use Rattle.rule_tree.specs.declared.counted.RuleTextPlace.{RuleTextPlace}
use Rattle.rule_tree.specs.declared.counted.RuleTextPlace.TheVariants as places
use Rattle.rule_tree.specs.declared.excess.Excess.{Excess}
use Rattle.explanation.specs.Statements.{counted_tokens, tokens_from}
use Rattle.explanation.specs.Tables.{IsStatementTable}
use Rattle.explanation.proofs.Begins.{found, past, on}
use Rattle.explanation.proofs.Suffixes.{of-none}
use Rattle.explanation.proofs.Tokens.{none_left}

-- a token is counted as one statement more, or as none
module _ (c : Counted) (t : Lexeme) (more : Counted) where
  abbrev Grows : Type 0
  Grows = (more.statements ≡ c.statements) ⊎ (more.statements ≡ c.statements + 1)

  either : (b : Bool) (x y : Result Counted Excess) → (if b then x else y) ≡ Ok more → (x ≡ Ok more → Grows) → (y ≡ Ok more → Grows) → Grows
  either true x y is a b = a is
  either false x y is a b = b is

  abbrev ok : Counted → Result Counted Excess
  ok other = Ok other

  same : (other : Counted) → other.statements ≡ c.statements → ok other ≡ ok more → Grows
  same other keeps is = let it : other ≡ more = cc is in inl (sym (ap (λ m. m.statements) it) ∙ keeps)

  one : (other : Counted) → other.statements ≡ c.statements + 1 → ok other ≡ ok more → Grows
  one other adds is = let it : other ≡ more = cc is in inr (sym (ap (λ m. m.statements) it) ∙ adds)

  of-moved : (place : Result RuleTextPlace Excess) → moved c place ≡ Ok more → Grows
  of-moved (Ok place) is = same (record c { place = place }) refl is
  of-moved (Err excess) is = cc is

  of-more : one_more c t ≡ Ok more → Grows
  of-more is =
      either (c.feeding && nat_lt c.feeders most_statements) _ _ is
      (λ e. same _ refl e)
      (λ e. either (not c.feeding && nat_lt c.statements most_statements) _ _ e (λ f. one _ refl f) (λ f. cc f))

  of-place : (place : RuleTextPlace) → count_at c place t ≡ Ok more → Grows
  of-place places.Between is =
      either (is_sign (codes "[") t) _ _ is of-more
      (λ e. either (is_sign (codes ":") t) _ _ e (λ f. same _ refl f) (λ f. same _ refl f))
  of-place places.Area is = of-moved (Ok (behind_area t)) is
  of-place (places.Formula l) is = of-moved (behind_formula l t) is
  of-place places.Targets is = of-moved (Ok (behind_targets t)) is
  of-place (places.Argument l) is = of-moved (behind_argument l t) is

  pub grows : count c t ≡ Ok more → Grows
  unfolding count
  grows is = of-place c.place is

-- what stands at a place of a list, or else: one more there, and what is else only past its end
pub as-else : {A : Type 0} (xs : List A) (n : ℕ) (x y : A) → (length xs ≤ n → x ≡ y) → slice_index_or xs n x ≡ slice_index_or xs n y
as-else [] n x y past = of-none n x ∙ past (omega arith) ∙ sym (of-none n y)
as-else (z ∷ xs) zero x y past = refl
as-else (z ∷ xs) (suc n) x y past = as-else xs n x y (λ low. past (omega (arith, low)))

pub one-pushed : {A : Type 0} (xs : List A) (n : ℕ) (x y z : A) → (n ≡ length xs → x ≡ z) → (length xs < n → x ≡ y) → slice_index_or xs n x ≡ slice_index_or (xs ++ z ∷ []) n y
one-pushed [] zero x y z here past = here refl
one-pushed [] (suc n) x y z here past = past (omega arith) ∙ sym (of-none n y)
one-pushed (w ∷ xs) zero x y z here past = refl
one-pushed (w ∷ xs) (suc n) x y z here past = one-pushed xs n x y z (λ is. here (ap suc is)) (λ low. past (omega (arith, low)))

-- the statements that were counted are in the table, and those that come begin in the tokens that are left
pub record IsTableUpTo (tokens : List Lexeme) (table : List (List Lexeme)) (counted : Counted) (left : List Lexeme) : Type 0 where
  pub long : length table ≡ counted.statements
  pub are : (n : ℕ) → tokens_from (Statement (n + 1)) tokens ≡ slice_index_or table n (counted_tokens (Statement (n + 1)) counted left)

pub begun : (tokens : List Lexeme) → IsTableUpTo tokens [] start tokens
begun tokens = record { long = refl; are = λ n. sym (of-none n (counted_tokens (Statement (n + 1)) start tokens)) }

module _ (tokens : List Lexeme) (table : List (List Lexeme)) (counted : Counted) (left : List Lexeme) (is : IsTableUpTo tokens table counted left) where
  pub no-more : ((n : ℕ) → counted_tokens (Statement (n + 1)) counted left ≡ []) → IsStatementTable tokens table
  no-more none n = is.are n ∙ ap (slice_index_or table n) (none n)

  pub all-read : left ≡ [] → IsStatementTable tokens table
  all-read none = no-more (λ n. ap (counted_tokens (Statement (n + 1)) counted) none)

  module _ (token : Lexeme) (comes : slice_get left 0 ≡ Some token) where
    pub stopped : (excess : Excess) × (count counted token ≡ Err excess) → IsStatementTable tokens table
    stopped over = no-more (λ n. past (Statement (n + 1)) counted left token comes over)

    module _ (more : Counted) (within : count counted token ≡ Ok more) where
      later : (n : ℕ) → more.statements ≢ n + 1 → counted_tokens (Statement (n + 1)) counted left ≡ counted_tokens (Statement (n + 1)) more (drop 1 left)
      later n other = on (Statement (n + 1)) counted left token comes more within (ne_eqb _ _ other)

      pub none-begins : more.statements ≡ counted.statements → IsTableUpTo tokens table more (drop 1 left)
      none-begins same = record {
        long = is.long ∙ sym same;
        are = λ n. is.are n ∙ as-else table n _ _ (λ low. later n (λ e. absurd (omega (arith, low, is.long, same, e))));
      }

      pub one-begins : more.statements ≢ counted.statements → IsTableUpTo tokens (table ++ left ∷ []) more (drop 1 left)
      one-begins other = by (grows counted token more within)
        where
          by : (more.statements ≡ counted.statements) ⊎ (more.statements ≡ counted.statements + 1) → IsTableUpTo tokens (table ++ left ∷ []) more (drop 1 left)
          by (inl same) = absurd (other same)
          by (inr grown) = record {
            long = length-append table (left ∷ []) ∙ omega (arith, is.long, grown);
            are = λ n. is.are n
                ∙ one-pushed table n _ _ left
                (λ here. found (Statement (n + 1)) counted left token comes more within (eq-eqb _ _ (omega (arith, here, is.long, grown))))
                (λ low. later n (λ e. absurd (omega (arith, low, is.long, grown, e))));
          }

      abbrev begun_table : Bool → List (List Lexeme)
      begun_table same = if same then table else table ++ left ∷ []

      pub one-token : IsTableUpTo tokens (begun_table (more.statements == counted.statements)) more (drop 1 left)
      one-token = by (eqb_tells more.statements counted.statements)
        where
          by : ((eqb more.statements counted.statements ≡ true) × (more.statements ≡ counted.statements)) ⊎ ((eqb more.statements counted.statements ≡ false) × (more.statements ≢ counted.statements))
              → IsTableUpTo tokens (begun_table (more.statements == counted.statements)) more (drop 1 left)
          by (inl same) = subst (λ b. IsTableUpTo tokens (begun_table b) more (drop 1 left)) (sym same.0) (none-begins same.1)
          by (inr other) = subst (λ b. IsTableUpTo tokens (begun_table b) more (drop 1 left)) (sym other.0) (one-begins other.1)
