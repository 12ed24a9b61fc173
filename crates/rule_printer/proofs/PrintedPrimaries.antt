-- Primaries of formulas count once, whichever text of them is read; calls count as what stands inside them does.
use Rattle.std.proofs.Common.{◌≡◌, ◌<◌, ℕ, ◌+◌, List, [], ◌∷◌, ◌++◌, Bool, true, false, Some, None, nat_lt, if◌then◌else◌, refl, sym, ap, ◌∙◌, subst, codes, arith}
use Rattle.std.proofs.lemmas.Bool.{ltb-true, lt-ltb}
use Rattle.cube_lex.specs.Lexeme.{Lexeme}
use Rattle.cube_lex.specs.declared.token.Kind.{Kind}
use Rattle.cube_lex.specs.declared.token.Kind.TheVariants as kinds
use Rattle.grammar.specs.Tokens.{is_sign_kind, is_word_kind, is_text_kind, is_number_kind, is_sign}
use Rattle.expression_grammar.specs.Limits.{most_open, most_primaries}
use Rattle.expression_grammar.proofs.PrintedLimits.{Counting, Goes, Fits, goes_on, goes_through, some_is}
use Rattle.rule_tree.specs.declared.counted.Counted.{Counted}
use Rattle.rule_tree.specs.declared.counted.RuleTextPlace.{RuleTextPlace}
use Rattle.expression_grammar.specs.declared.limits.Limits.{Limits}
use Rattle.rule_printer.proofs.PrintedBrackets.{AreContent, IsBracketed}
use Rattle.rule_printer.proofs.PrintedCounting.{step, IsPlace, IsQuiet, if_room, if_shallow, due_in, behind_in, bracketed_in, formula_counting, word_step, named_step, mark_step, bracket_step, inner_step, unbracket_step, call_step, comma_step, closes_step, quiet_steps, opens_step}

-- Kinds that are no signs.

pub word_no_sign : (k : Kind) → is_word_kind k ≡ true → is_sign_kind k ≡ false
word_no_sign kinds.Word e = refl
word_no_sign kinds.Number e = refl
word_no_sign kinds.Text e = refl
word_no_sign kinds.Sign e = cc

pub text_no_sign : (k : Kind) → is_text_kind k ≡ true → is_sign_kind k ≡ false
text_no_sign kinds.Word e = refl
text_no_sign kinds.Number e = refl
text_no_sign kinds.Text e = refl
text_no_sign kinds.Sign e = cc

pub number_no_sign : (k : Kind) → is_number_kind k ≡ true → is_sign_kind k ≡ false
number_no_sign kinds.Word e = refl
number_no_sign kinds.Number e = refl
number_no_sign kinds.Text e = refl
number_no_sign kinds.Sign e = cc

room_was : {S : Type 0} (p : ℕ) (s m : S) (b : Bool) → nat_lt p most_primaries ≡ b → (if b then Some s else None) ≡ Some m → (p < most_primaries) × (m ≡ s)
room_was p s m true few e = (ltb-true p most_primaries few, cc)
room_was p s m false few e = cc

room_is : {S : Type 0} (p : ℕ) (s : S) → p < most_primaries → if_room p s ≡ Some s
room_is p s few = rw (lt-ltb p most_primaries few) refl

shallow_was : {S : Type 0} (d : ℕ) (s m : S) (b : Bool) → nat_lt d most_open ≡ b → (if b then Some s else None) ≡ Some m → (d < most_open) × (m ≡ s)
shallow_was d s m true shallow e = (ltb-true d most_open shallow, cc)
shallow_was d s m false shallow e = cc

shallow_is : {S : Type 0} (d : ℕ) (s : S) → d < most_open → if_shallow d s ≡ Some s
shallow_is d s shallow = rw (lt-ltb d most_open shallow) refl

module _ (place : Limits → RuleTextPlace) (base : ℕ) (is : IsPlace place base) (c : Counted) where
  -- these tokens are one primary, with nothing counted inside it
  pub record Once (ts : List Lexeme) : Type 0 where
    pub into : (d q : ℕ) (r : Counted) → Goes step (due_in place c d q) ts r → (q < most_primaries) × (r ≡ behind_in place c d (q + 1))
    pub back : (d p : ℕ) → p < most_primaries → Goes step (due_in place c d p) ts (behind_in place c d (p + 1))

  pub fits_once : (ts u : List Lexeme) → Once ts → Once u → Fits (formula_counting place base is c) ts u
  fits_once ts u a b = record {
    at = λ d e p q above deep long r goes. (
        let (few, r-is) = b.into e q r goes in
        (p + 1, q + 1, r-is, a.back d p (omega (arith, few, long)), omega (arith, long)));
  }

  pub once_word : (t : Lexeme) → is_sign_kind t.kind ≡ false → Once (t ∷ [])
  once_word t kind = record {
    into = λ d q r (m, taken, same). (
        let (few, m-is) = room_was q (behind_in place c d (q + 1)) m (nat_lt q most_primaries) refl (sym (word_step place base is c t d q kind) ∙ taken) in
        (few, same ∙ m-is));
    back = λ d p few. (behind_in place c d (p + 1), word_step place base is c t d p kind ∙ room_is p (behind_in place c d (p + 1)) few, refl);
  }

  -- `!` and a dimension
  pub once_marked : (s t : Lexeme) → is_sign (codes "!") s ≡ true → is_sign_kind t.kind ≡ false → Once (s ∷ t ∷ [])
  once_marked s t mark kind = record {
    into = λ d q r (m, taken, (n, next, same)). (
        let (few, m-is) = room_was q (behind_in place c d (q + 1)) m (nat_lt q most_primaries) refl (sym (mark_step place base is c s d q mark) ∙ taken) in
        let n-is : n ≡ behind_in place c d (q + 1) = some_is n (behind_in place c d (q + 1)) (sym next ∙ ap (λ x. step x t) m-is ∙ named_step place base is c t d (q + 1) kind) in
        (few, same ∙ n-is));
    back = λ d p few. (behind_in place c d (p + 1), mark_step place base is c s d p mark ∙ room_is p (behind_in place c d (p + 1)) few, (behind_in place c d (p + 1), named_step place base is c t d (p + 1) kind, refl));
  }

  content_into : (ts : List Lexeme) (d p : ℕ) (r : Counted) → AreContent ts → Goes step (bracketed_in place c d p) ts r → r ≡ bracketed_in place c d p
  content_into [] d p r content goes = goes
  content_into (t ∷ ts) d p r content (m, taken, goes) =
      let m-is : m ≡ bracketed_in place c d p = some_is m (bracketed_in place c d p) (sym taken ∙ inner_step place base is c t d p content.0.semicolon content.0.closing) in
      content_into ts d p r content.1 (subst (λ x. Goes step x ts r) m-is goes)

  content_from : (ts : List Lexeme) (d p : ℕ) → AreContent ts → Goes step (bracketed_in place c d p) ts (bracketed_in place c d p)
  content_from [] d p content = refl
  content_from (t ∷ ts) d p content = (bracketed_in place c d p, inner_step place base is c t d p content.0.semicolon content.0.closing, content_from ts d p content.1)

  once_between : (s t : Lexeme) (ts : List Lexeme) → is_sign (codes "[") s ≡ true → AreContent ts → is_sign (codes "]") t ≡ true → Once (s ∷ (ts ++ t ∷ []))
  once_between s t ts opens content closes = record {
    into = λ d q r (m, taken, goes). (
        let (few, m-is) = room_was q (bracketed_in place c d (q + 1)) m (nat_lt q most_primaries) refl (sym (bracket_step place base is c s d q opens) ∙ taken) in
        let (n, within, (k, ended, same)) = goes_through step ts (t ∷ []) m r goes in
        let n-is : n ≡ bracketed_in place c d (q + 1) = content_into ts d (q + 1) n content (subst (λ x. Goes step x ts n) m-is within) in
        let k-is : k ≡ behind_in place c d (q + 1) = some_is k (behind_in place c d (q + 1)) (sym ended ∙ ap (λ x. step x t) n-is ∙ unbracket_step place base is c t d (q + 1) closes) in
        (few, same ∙ k-is));
    back = λ d p few. (
        let inside : Counted = bracketed_in place c d (p + 1) in
        let after : Counted = behind_in place c d (p + 1) in
        (inside, bracket_step place base is c s d p opens ∙ room_is p inside few, goes_on step ts (t ∷ []) inside inside after (content_from ts d (p + 1) content) (after, unbracket_step place base is c t d (p + 1) closes, refl)));
  }

  pub once_bracketed : (u : List Lexeme) → IsBracketed u → Once u
  once_bracketed u b = subst Once (sym b.parts) (once_between b.first b.last b.inner b.opens b.content b.closes)

  -- Inside the parentheses of a call, expressions are joined by `,`.

  abbrev pub inside_counting : Counting
  inside_counting = record {
    State = Counted;
    step = step;
    base = base + 1;
    due = due_in place c;
    behind = behind_in place c;
    Precedes = IsQuiet;
    Joins = λ t. is_sign (codes ",") t ≡ true;
    before_operand = λ t d p _ q. quiet_steps place base is c t d p true q;
    behind_operand = λ t d p deep is-t. comma_step place base is c t d p deep is-t;
    opens = λ t d p _ is-t. opens_step place base is c t d p is-t;
    closes = λ t d p deep is-t. closes_step place base is c t d p false (omega (arith, deep)) is-t;
  }

  pub fits_inside : (ts u : List Lexeme) → Fits (formula_counting place base is c) ts u → Fits inside_counting ts u
  fits_inside ts u f = record { at = λ d e p q above deep long r goes. f.at d e p q (omega (arith, above)) deep long r goes }

  -- the function's word and `(` of a call
  pub call_into : (w s : Lexeme) (ts : List Lexeme) (d p : ℕ) (r : Counted) → is_sign_kind w.kind ≡ false → is_sign (codes "(") s ≡ true → Goes step (due_in place c d p) (w ∷ s ∷ ts) r
      → (p < most_primaries) × (d < most_open) × Goes step (due_in place c (d + 1) (p + 1)) ts r
  call_into w s ts d p r kind opens (m, taken, (n, next, goes)) =
      let (few, m-is) = room_was p (behind_in place c d (p + 1)) m (nat_lt p most_primaries) refl (sym (word_step place base is c w d p kind) ∙ taken) in
      let (shallow, n-is) = shallow_was d (due_in place c (d + 1) (p + 1)) n (nat_lt d most_open) refl (sym (call_step place base is c s d (p + 1) opens) ∙ sym (ap (λ x. step x s) m-is) ∙ next) in
      (few, shallow, subst (λ x. Goes step x ts r) n-is goes)

  pub call_from : (w s : Lexeme) (ts : List Lexeme) (d p : ℕ) (r : Counted) → is_sign_kind w.kind ≡ false → is_sign (codes "(") s ≡ true → p < most_primaries → d < most_open → Goes step (due_in place c (d + 1) (p + 1)) ts r
      → Goes step (due_in place c d p) (w ∷ s ∷ ts) r
  call_from w s ts d p r kind opens few shallow goes = (
    behind_in place c d (p + 1),
    word_step place base is c w d p kind ∙ room_is p (behind_in place c d (p + 1)) few,
    (due_in place c (d + 1) (p + 1), call_step place base is c s d (p + 1) opens ∙ shallow_is d (due_in place c (d + 1) (p + 1)) shallow, goes),
  )

  -- a call with arguments
  pub fits_call : (ts u : List Lexeme) (v s t w x y : Lexeme) → is_sign_kind v.kind ≡ false → is_sign (codes "(") s ≡ true → is_sign (codes ")") t ≡ true → is_sign_kind w.kind ≡ false → is_sign (codes "(") x ≡ true → is_sign (codes ")") y ≡ true
      → Fits inside_counting ts u → Fits (formula_counting place base is c) (v ∷ s ∷ (ts ++ t ∷ [])) (w ∷ x ∷ (u ++ y ∷ []))
  fits_call ts u v s t w x y v-kind s-is t-is w-kind x-is y-is f = record {
    at = λ d e p q above deep long r goes. (
        let (few, shallow, inner) = call_into w x (u ++ y ∷ []) e q r w-kind x-is goes in
        let (a, within, (b, ended, same)) = goes_through step u (y ∷ []) (due_in place c (e + 1) (q + 1)) r inner in
        let (m, n, a-is, after, less) = f.at (d + 1) (e + 1) (p + 1) (q + 1) (omega (arith, above)) (omega (arith, deep)) (omega (arith, long)) a within in
        let b-is : b ≡ behind_in place c e n = some_is b (behind_in place c e n) (sym ended ∙ ap (λ k. step k y) a-is ∙ closes_step place base is c y e n false (omega (arith, above, deep)) y-is) in
        let last : Goes step (behind_in place c (d + 1) m) (t ∷ []) (behind_in place c d m) = (behind_in place c d m, closes_step place base is c t d m false above t-is, refl) in (
          m,
          n,
          same ∙ b-is,
          call_from v s (ts ++ t ∷ []) d p (behind_in place c d m) v-kind s-is (omega (arith, few, long)) (omega (arith, shallow, deep))
              (goes_on step ts (t ∷ []) (due_in place c (d + 1) (p + 1)) (behind_in place c (d + 1) m) (behind_in place c d m) after last),
          less,
        ));
  }

  -- a call without arguments
  pub fits_empty_call : (v s t w x y : Lexeme) → is_sign_kind v.kind ≡ false → is_sign (codes "(") s ≡ true → is_sign (codes ")") t ≡ true → is_sign_kind w.kind ≡ false → is_sign (codes "(") x ≡ true → is_sign (codes ")") y ≡ true
      → Fits (formula_counting place base is c) (v ∷ s ∷ t ∷ []) (w ∷ x ∷ y ∷ [])
  fits_empty_call v s t w x y v-kind s-is t-is w-kind x-is y-is = record {
    at = λ d e p q above deep long r goes. (
        let (few, shallow, (b, ended, same)) = call_into w x (y ∷ []) e q r w-kind x-is goes in
        let b-is : b ≡ behind_in place c e (q + 1) = some_is b (behind_in place c e (q + 1)) (sym ended ∙ closes_step place base is c y e (q + 1) true (omega (arith, above, deep)) y-is) in (
          p + 1,
          q + 1,
          same ∙ b-is,
          call_from v s (t ∷ []) d p (behind_in place c d (p + 1)) v-kind s-is (omega (arith, few, long)) (omega (arith, shallow, deep)) (behind_in place c d (p + 1), closes_step place base is c t d (p + 1) true above t-is, refl),
          omega (arith, long),
        ));
  }
