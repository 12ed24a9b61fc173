-- What can be written of a formula, by its parts.
use Rattle.std.proofs.Common.{◌≡◌, ℕ, ℤ, List, [], ◌∷◌, map, get_or, drop, Bool, true, false, not, ◌&&◌, refl, sym, ap, ◌∙◌}
use Rattle.std.proofs.lemmas.Bool.{and_parts, not-true}
use Rattle.std.specs.Int.{is_negative}
use Rattle.std.specs.List.{list_all}
use Rattle.cube_fixed.specs.Range.{is_in_range}
use Rattle.cube_lex.specs.Bytes.{starts_word, is_word_byte}
use Rattle.rule_printer.specs.Spelled.{is_word_text}
use Rattle.rule_printer.specs.Writable.{is_quotable, is_short_word, is_marked, is_writable_simple, itself, writable_step, is_writable}
use Rattle.rule_tree.specs.declared.tree.SimpleText.{SimpleText}
use Rattle.rule_tree.specs.declared.tree.Tree.{Tree}
use Rattle.rule_tree.specs.declared.tree.Tree.TheVariants as trees
use Rattle.rule_tree.specs.declared.tree.TreeOp.{TreeOp}
use Rattle.rule_tree.proofs.TreeFolds.{of-number, of-text, of-current, of-bracket, of-stet, of-continue, of-call, of-minus, of-not, of-binary}

pub writable_number : (z : ℤ) → is_writable (trees.Number z) ≡ (not (is_negative z) && is_in_range z)
unfolding is_writable writable_step
writable_number z = of-number Bool writable_step z

pub writable_text : (bytes : List ℕ) → is_writable (trees.Text bytes) ≡ is_quotable bytes
unfolding is_writable writable_step
writable_text bytes = of-text Bool writable_step bytes

pub writable_current : (dim : List ℕ) → is_writable (trees.Current dim) ≡ is_marked dim
unfolding is_writable writable_step
writable_current dim = of-current Bool writable_step dim

pub writable_bracket : (simples : List SimpleText) → is_writable (trees.Bracket simples) ≡ list_all is_writable_simple simples
unfolding is_writable writable_step
writable_bracket simples = of-bracket Bool writable_step simples

pub writable_stet : is_writable trees.Stet ≡ true
unfolding is_writable writable_step
writable_stet = of-stet Bool writable_step

pub writable_continue : is_writable trees.Continue ≡ true
unfolding is_writable writable_step
writable_continue = of-continue Bool writable_step

all_themselves : (list : List Tree) → list_all itself (map is_writable list) ≡ list_all is_writable list
all_themselves [] = refl
all_themselves (e ∷ list) = ap (λ b. is_writable e && b) (all_themselves list)

pub writable_call : (function : List ℕ) (arguments : List Tree) → is_writable (trees.Call function arguments) ≡ (is_short_word function && list_all is_writable arguments)
unfolding is_writable writable_step
writable_call function arguments = of-call Bool writable_step function arguments ∙ ap (λ b. is_short_word function && b) (all_themselves arguments)

pub writable_minus : (e : Tree) → is_writable (trees.Minus e) ≡ is_writable e
unfolding is_writable writable_step
writable_minus e = of-minus Bool writable_step e

pub writable_not : (e : Tree) → is_writable (trees.Not e) ≡ is_writable e
unfolding is_writable writable_step
writable_not e = of-not Bool writable_step e

pub writable_binary : (op : TreeOp) (left right : Tree) → is_writable (trees.Binary op left right) ≡ (is_writable left && is_writable right)
unfolding is_writable writable_step
writable_binary op left right = of-binary Bool writable_step op left right

-- A formula that can be written, where its root is known.

writable_as : (tree other : Tree) (b : Bool) → is_writable tree ≡ true → tree ≡ other → is_writable other ≡ b → b ≡ true
writable_as tree other b is same step = sym (ap is_writable same ∙ step) ∙ is

pub number_is : (tree : Tree) (z : ℤ) → is_writable tree ≡ true → tree ≡ trees.Number z → is_negative z ≡ false
number_is tree z is same = not-true (is_negative z) (and_parts (not (is_negative z)) (is_in_range z) (writable_as tree (trees.Number z) (not (is_negative z) && is_in_range z) is same (writable_number z))).0

pub text_is : (tree : Tree) (bytes : List ℕ) → is_writable tree ≡ true → tree ≡ trees.Text bytes → is_quotable bytes ≡ true
text_is tree bytes is same = writable_as tree (trees.Text bytes) (is_quotable bytes) is same (writable_text bytes)

pub current_is : (tree : Tree) (dim : List ℕ) → is_writable tree ≡ true → tree ≡ trees.Current dim → is_marked dim ≡ true
current_is tree dim is same = writable_as tree (trees.Current dim) (is_marked dim) is same (writable_current dim)

pub bracket_is : (tree : Tree) (simples : List SimpleText) → is_writable tree ≡ true → tree ≡ trees.Bracket simples → list_all is_writable_simple simples ≡ true
bracket_is tree simples is same = writable_as tree (trees.Bracket simples) (list_all is_writable_simple simples) is same (writable_bracket simples)

pub call_is : (tree : Tree) (function : List ℕ) (arguments : List Tree) → is_writable tree ≡ true → tree ≡ trees.Call function arguments → (is_short_word function ≡ true) × (list_all is_writable arguments ≡ true)
call_is tree function arguments is same = and_parts (is_short_word function) (list_all is_writable arguments) (writable_as tree (trees.Call function arguments) (is_short_word function && list_all is_writable arguments) is same (writable_call function arguments))

pub minus_is : (tree e : Tree) → is_writable tree ≡ true → tree ≡ trees.Minus e → is_writable e ≡ true
minus_is tree e is same = writable_as tree (trees.Minus e) (is_writable e) is same (writable_minus e)

pub not_is : (tree e : Tree) → is_writable tree ≡ true → tree ≡ trees.Not e → is_writable e ≡ true
not_is tree e is same = writable_as tree (trees.Not e) (is_writable e) is same (writable_not e)

pub binary_is : (tree : Tree) (op : TreeOp) (left right : Tree) → is_writable tree ≡ true → tree ≡ trees.Binary op left right → (is_writable left ≡ true) × (is_writable right ≡ true)
binary_is tree op left right is same = and_parts (is_writable left) (is_writable right) (writable_as tree (trees.Binary op left right) (is_writable left && is_writable right) is same (writable_binary op left right))

-- a word, by its first byte and the rest
pub word_parts : (bytes rest : List ℕ) (b : ℕ) → (bytes ≡ [] → ⊥) → b ≡ get_or bytes 0 0 → rest ≡ drop 1 bytes → is_word_text bytes ≡ (starts_word b && list_all is_word_byte rest)
word_parts [] rest b some first further = absurd (some refl)
word_parts (c ∷ bytes) rest b some first further = ap (λ x. starts_word x && list_all is_word_byte bytes) (sym first) ∙ ap (λ l. starts_word b && list_all is_word_byte l) (sym further)
