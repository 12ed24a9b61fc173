-- What the first words of statements tell: which of the statements it is, and that one begins.
use Rattle.std.proofs.Common.{◌≡◌, ℕ, List, [], ◌∷◌, Some, None, Bool, true, false, not, ◌&&◌, ◌||◌, if◌then◌else◌, codes, refl, sym, ◌∙◌, ap}
use Rattle.std.specs.Str.{str_eq_ignore_ascii_case}
use Rattle.std.proofs.lemmas.Bool.{false_from_ne_true, true≢false}
use Rattle.cube_lex.specs.Lexeme.{Lexeme}
use Rattle.cube_lex.specs.Positions.{position_of}
use Rattle.cube_lex.specs.declared.position.Position.{Position}
use Rattle.cube_lex.specs.declared.token.Kind.TheVariants as kinds
use Rattle.grammar.specs.Grammar.{one}
use Rattle.grammar.specs.Reading.{take_one}
use Rattle.grammar.specs.Tokens.{word, is_word, is_any_word, is_word_kind, capitals}
use Rattle.grammar.specs.Variables.{is_variable}
use Rattle.grammar.proofs.Exact.{Exact, Always, exact_one}
use Rattle.grammar.proofs.Begins.{Begins, begins_one}
use Rattle.grammar.proofs.Tokens.{when_picks, and_is, word_is, word_tells}
use Rattle.expression_grammar.proofs.WordsExact.{capitals_of_word}
use Rattle.script_tree.specs.Counting.{count, counting}
use Rattle.script_tree.specs.Statement.{variable, leap, may_skip, may_break}
use Rattle.script_reader.specs.Readers.StatementReading.{is_leap, begins_statement}
use Rattle.script_tree.specs.declared.line.Line.{Line}
use Rattle.script_tree.specs.declared.line.Line.TheVariants as lines
use Rattle.script_tree.specs.declared.script.Section.{Section}
use Rattle.script_tree.specs.declared.script.Section.TheVariants as sections

three : (a b c d e f : Bool) → a ≡ d → b ≡ e → c ≡ f → (a || b || c) ≡ (d || e || f)
three a b c d e f p q r = ap (λ x. x || b || c) p ∙ ap (λ x. d || x || c) q ∙ ap (λ x. d || e || x) r

four : (k a b c d w x y z : Bool) → k ≡ true → a ≡ w → b ≡ x → c ≡ y → d ≡ z → (k && not (a || b || c || d)) ≡ not (w || x || y || z)
four k a b c d w x y z o p q r s = ap (λ l. l && not (a || b || c || d)) o ∙ ap (λ l. not (l || b || c || d)) p ∙ ap (λ l. not (w || l || c || d)) q ∙ ap (λ l. not (w || x || l || d)) r ∙ ap (λ l. not (w || x || y || l)) s

-- Fixed words.

-- what a fixed word is told by
abbrev goes_behind : List ℕ → Bool
goes_behind w = str_eq_ignore_ascii_case w (codes "ELSEIF") || str_eq_ignore_ascii_case w (codes "ELSE") || str_eq_ignore_ascii_case w (codes "ENDIF") || str_eq_ignore_ascii_case w (codes "END")

word_kind : (w : List ℕ) (t : Lexeme) (x : Position) → word w t ≡ Some x → is_any_word t ≡ true
word_kind w t x e = (and_is (is_word_kind t.kind) (str_eq_ignore_ascii_case t.piece w) (when_picks (is_word w) position_of t x e).0).0

word_opens : (w : List ℕ) (t : Lexeme) (x : Position) → word w t ≡ Some x → begins_statement t ≡ not (goes_behind w)
word_opens w t x e = four (is_any_word t) (is_word (codes "ELSEIF") t) (is_word (codes "ELSE") t) (is_word (codes "ENDIF") t) (is_word (codes "END") t) _ _ _ _
    (word_kind w t x e) (word_tells w (codes "ELSEIF") t x e) (word_tells w (codes "ELSE") t x e) (word_tells w (codes "ENDIF") t x e) (word_tells w (codes "END") t x e)

-- whether a statement begins with a fixed word
pub word_statement : (w : List ℕ) → Begins (one (word w)) begins_statement (not (goes_behind w))
word_statement w = begins_one (word w) begins_statement (not (goes_behind w)) (word_opens w)

pub word_any : (w : List ℕ) → Begins (one (word w)) is_any_word true
word_any w = begins_one (word w) is_any_word true (word_kind w)

word_leaps : (w : List ℕ) (t : Lexeme) (x : Position) → word w t ≡ Some x → is_leap t ≡ (str_eq_ignore_ascii_case w (codes "ITEMSKIP") || str_eq_ignore_ascii_case w (codes "PROCESSBREAK") || str_eq_ignore_ascii_case w (codes "PROCESSERROR"))
word_leaps w t x e = three (is_word (codes "ITEMSKIP") t) (is_word (codes "PROCESSBREAK") t) (is_word (codes "PROCESSERROR") t) _ _ _
    (word_tells w (codes "ITEMSKIP") t x e) (word_tells w (codes "PROCESSBREAK") t x e) (word_tells w (codes "PROCESSERROR") t x e)

pub word_leap : (w : List ℕ) → Begins (one (word w)) is_leap (str_eq_ignore_ascii_case w (codes "ITEMSKIP") || str_eq_ignore_ascii_case w (codes "PROCESSBREAK") || str_eq_ignore_ascii_case w (codes "PROCESSERROR"))
word_leap w = begins_one (word w) is_leap (str_eq_ignore_ascii_case w (codes "ITEMSKIP") || str_eq_ignore_ascii_case w (codes "PROCESSBREAK") || str_eq_ignore_ascii_case w (codes "PROCESSERROR")) (word_leaps w)

-- Words of variables.

variable_word : (t : Lexeme) (a : List ℕ) → variable t ≡ Some a → (is_word_kind t.kind ≡ true) × (is_variable (capitals t.piece) ≡ true)
variable_word t a e = and_is (is_word_kind t.kind) (is_variable (capitals t.piece)) (when_picks (λ t. is_word_kind t.kind && is_variable (capitals t.piece)) (λ t. capitals t.piece) t a e).0

-- a fixed word that can't name a variable
variable_other : (w : List ℕ) → capitals w ≡ w → is_variable w ≡ false → (t : Lexeme) (a : List ℕ) → variable t ≡ Some a → is_word w t ≡ false
variable_other w capital none t a e = false_from_ne_true (is_word w t) (λ is.
    let same : capitals t.piece ≡ w = (when_picks (λ t. is_word_kind t.kind) (λ t. capitals t.piece) t w (capitals_of_word w capital t (position_of t) (word_is w t is))).1 in
    true≢false (sym (ap is_variable (sym same) ∙ (variable_word t a e).1) ∙ none))

pub variable_no_word : (w : List ℕ) → capitals w ≡ w → is_variable w ≡ false → Begins (one variable) (is_word w) false
variable_no_word w capital none = begins_one variable (is_word w) false (variable_other w capital none)

pub variable_any : Begins (one variable) is_any_word true
variable_any = begins_one variable is_any_word true (λ t a e. (variable_word t a e).0)

pub variable_opens : Begins (one variable) begins_statement true
variable_opens = begins_one variable begins_statement true (λ t a e. four (is_any_word t) (is_word (codes "ELSEIF") t) (is_word (codes "ELSE") t) (is_word (codes "ENDIF") t) (is_word (codes "END") t) false false false false
    (variable_word t a e).0 (variable_other (codes "ELSEIF") refl refl t a e) (variable_other (codes "ELSE") refl refl t a e) (variable_other (codes "ENDIF") refl refl t a e) (variable_other (codes "END") refl refl t a e))

pub variable_no_leap : Begins (one variable) is_leap false
variable_no_leap = begins_one variable is_leap false (λ t a e. three (is_word (codes "ITEMSKIP") t) (is_word (codes "PROCESSBREAK") t) (is_word (codes "PROCESSERROR") t) false false false
    (variable_other (codes "ITEMSKIP") refl refl t a e) (variable_other (codes "PROCESSBREAK") refl refl t a e) (variable_other (codes "PROCESSERROR") refl refl t a e))

-- `X`
pub exact_variable : Exact counting (one variable) (one variable) (take_one count variable) Always
exact_variable = exact_one count variable (record { kind = kinds.Word; piece = 88 ∷ []; start = 0; line = 0 }) (88 ∷ []) refl

-- a word that names a variable in capitals
pub variable_of : (w : List ℕ) → capitals w ≡ w → is_variable w ≡ true → (t : Lexeme) → is_word w t ≡ true → variable t ≡ Some w
variable_of w capital names t is =
    let at : word w t ≡ Some (position_of t) = ap (λ b. if b then Some (position_of t) else None) is in
    let same : capitals t.piece ≡ w = (when_picks (λ t. is_word_kind t.kind) (λ t. capitals t.piece) t w (capitals_of_word w capital t (position_of t) at)).1 in
    ap (λ b. if b && is_variable (capitals t.piece) then Some (capitals t.piece) else None) (word_kind w t (position_of t) at)
    ∙ ap (λ piece. if is_variable piece then Some piece else None) same ∙ ap (λ b. if b then Some w else None) names

-- Statements of one word.

-- what is told of each of the three words
module _ (p : Lexeme → Bool) (c : Bool) (skip : (t : Lexeme) (x : Position) → word (codes "ITEMSKIP") t ≡ Some x → p t ≡ c) (breaks : (t : Lexeme) (x : Position) → word (codes "PROCESSBREAK") t ≡ Some x → p t ≡ c) (fails : (t : Lexeme) (x : Position) → word (codes "PROCESSERROR") t ≡ Some x → p t ≡ c) where
  leap_is : (section : Section) (t : Lexeme) (l : Line) (a b d : Bool) → (may_skip section && is_word (codes "ITEMSKIP") t) ≡ a → (may_break section && is_word (codes "PROCESSBREAK") t) ≡ b → is_word (codes "PROCESSERROR") t ≡ d
      → (if a then Some lines.Skip else if b then Some lines.Break else if d then Some lines.Error else None) ≡ Some l → p t ≡ c
  leap_is section t l true b d ea eb ed e = skip t (position_of t) (word_is (codes "ITEMSKIP") t (and_is (may_skip section) (is_word (codes "ITEMSKIP") t) ea).1)
  leap_is section t l false true d ea eb ed e = breaks t (position_of t) (word_is (codes "PROCESSBREAK") t (and_is (may_break section) (is_word (codes "PROCESSBREAK") t) eb).1)
  leap_is section t l false false true ea eb ed e = fails t (position_of t) (word_is (codes "PROCESSERROR") t ed)
  leap_is section t l false false false ea eb ed e = cc

  leap_tells : (section : Section) → Begins (one (leap section)) p c
  leap_tells section = begins_one (leap section) p c (λ t l e. leap_is section t l (may_skip section && is_word (codes "ITEMSKIP") t) (may_break section && is_word (codes "PROCESSBREAK") t) (is_word (codes "PROCESSERROR") t) refl refl refl e)

pub leap_no_word : (section : Section) (w : List ℕ) → str_eq_ignore_ascii_case (codes "ITEMSKIP") w ≡ false → str_eq_ignore_ascii_case (codes "PROCESSBREAK") w ≡ false → str_eq_ignore_ascii_case (codes "PROCESSERROR") w ≡ false → Begins (one (leap section)) (is_word w) false
leap_no_word section w a b d = leap_tells (is_word w) false (λ t x e. word_tells (codes "ITEMSKIP") w t x e ∙ a) (λ t x e. word_tells (codes "PROCESSBREAK") w t x e ∙ b) (λ t x e. word_tells (codes "PROCESSERROR") w t x e ∙ d) section

pub leap_leaps : (section : Section) → Begins (one (leap section)) is_leap true
leap_leaps section = leap_tells is_leap true (λ t x e. word_leaps (codes "ITEMSKIP") t x e) (λ t x e. word_leaps (codes "PROCESSBREAK") t x e) (λ t x e. word_leaps (codes "PROCESSERROR") t x e) section

pub leap_opens : (section : Section) → Begins (one (leap section)) begins_statement true
leap_opens section = leap_tells begins_statement true (λ t x e. word_opens (codes "ITEMSKIP") t x e) (λ t x e. word_opens (codes "PROCESSBREAK") t x e) (λ t x e. word_opens (codes "PROCESSERROR") t x e) section

pub leap_any : (section : Section) → Begins (one (leap section)) is_any_word true
leap_any section = leap_tells is_any_word true (word_kind (codes "ITEMSKIP")) (word_kind (codes "PROCESSBREAK")) (word_kind (codes "PROCESSERROR")) section

error_word : Lexeme
error_word = record { kind = kinds.Word; piece = codes "PROCESSERROR"; start = 0; line = 0 }

error_leaps : (section : Section) → leap section error_word ≡ Some lines.Error
unfolding error_word
error_leaps sections.Prolog = refl
error_leaps sections.Body = refl
error_leaps sections.Epilog = refl

-- `PROCESSERROR`
pub exact_leap : (section : Section) → Exact counting (one (leap section)) (one (leap section)) (take_one count (leap section)) Always
exact_leap section = exact_one count (leap section) error_word lines.Error (error_leaps section)
