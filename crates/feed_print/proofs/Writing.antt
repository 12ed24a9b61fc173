-- The texts of arguments can be written.
use Rattle.std.proofs.Common.{◌≡◌, ◌≤◌, ◌*◌, ◌∙◌, ℕ, ℤ, pos, List, [], ◌∷◌, length, Bool, true, false, not, nat_le, if◌then◌else◌, codes, refl, ap, arith, unsigned_abs}
use Rattle.std.proofs.lemmas.Bool.{and_parts, and_from, le-leb, leb-true}
use Rattle.cube_fixed.specs.Range.{unit, IsInRange, is_in_range}
use Rattle.std.specs.Int.{is_negative}
use Rattle.std.specs.List.{list_all}
use Rattle.cube_lex.specs.Bytes.{is_plain}
use Rattle.cube_lex.specs.Parts.{most_token_bytes}
use Rattle.cube_lex.specs.Quoted.{quoted}
use Rattle.rule_printer.specs.Spelled.{is_word_text}
use Rattle.rule_printer.specs.Writable.{is_quotable, is_short_word, is_marked, is_writable}
use Rattle.rule_printer.proofs.WritableTrees.{writable_number, writable_text, writable_current, writable_call, writable_binary}
use Rattle.rule_tree.specs.declared.tree.Tree.{Tree}
use Rattle.rule_tree.specs.declared.tree.Tree.TheVariants as trees
use Rattle.rule_tree.specs.declared.tree.TreeOp.{TreeOp}
use Rattle.cube_fixed.proofs.RoundTrip.{not_negative}
use Rattle.feed_print.specs.FeederTexts.{index_text, shifted_text}
use Rattle.feed_print.proofs.QuotedNames.{quoted_size}

-- a name behind a `!`
marked : (name : List ℕ) → is_quotable name ≡ true → is_marked name ≡ true
unfolding is_quotable is_short_word
marked name q = by (is_word_text name) refl
  where
    short : length name ≤ most_token_bytes
    short =
        let fits = leb-true (length (quoted name)) most_token_bytes (and_parts (list_all is_plain name) (nat_le (length (quoted name)) most_token_bytes) q).1 in
        omega (arith, fits, quoted_size name)

    by : (b : Bool) → is_word_text name ≡ b → (if is_word_text name then is_short_word name else is_quotable name) ≡ true
    by true is =
        ap (λ t. if t then is_short_word name else is_quotable name) is
        ∙ and_from (is_word_text name) (nat_le (length name) most_token_bytes) is (le-leb (length name) most_token_bytes short)
    by false is = ap (λ t. if t then is_short_word name else is_quotable name) is ∙ q

pub number_writable : (n : ℕ) (millionths : ℤ) → millionths ≡ pos n → IsInRange millionths → is_writable (trees.Number millionths) ≡ true
number_writable n millionths is low =
    let small : unsigned_abs millionths ≤ 9000000000000000000 = low in
    let within : is_in_range millionths ≡ true = le-leb (unsigned_abs millionths) 9000000000000000000 small in
    let plus : not (is_negative millionths) ≡ true = ap (λ z. not (is_negative z)) is ∙ ap not (not_negative n) in
    writable_number millionths ∙ and_from (not (is_negative millionths)) (is_in_range millionths) plus within

pub text_writable : (name : List ℕ) → is_quotable name ≡ true → is_writable (trees.Text name) ≡ true
text_writable name q = writable_text name ∙ q

pub own_writable : (name : List ℕ) → is_quotable name ≡ true → is_writable (trees.Current name) ≡ true
own_writable name q = writable_current name ∙ marked name q

words : (is_short_word (codes "DIMIX") ≡ true) × (is_short_word (codes "DIMNM") ≡ true)
unfolding is_short_word
words = (refl, refl)

-- a function of two arguments
call_writable : (function : List ℕ) (a b : Tree) → is_short_word function ≡ true → is_writable a ≡ true → is_writable b ≡ true → is_writable (trees.Call function (a ∷ b ∷ [])) ≡ true
call_writable function a b word first second =
    writable_call function (a ∷ b ∷ [])
    ∙ and_from (is_short_word function) (list_all is_writable (a ∷ b ∷ [])) word
    (and_from (is_writable a) (list_all is_writable (b ∷ [])) first (and_from (is_writable b) true second refl))

pub index_writable : (name : List ℕ) → is_quotable name ≡ true → is_writable (index_text name) ≡ true
index_writable name q = call_writable (codes "DIMIX") (trees.Text name) (trees.Current name) words.0 (text_writable name q) (own_writable name q)

pub shifted_writable : (name : List ℕ) (op : TreeOp) (n : ℕ) → is_writable (trees.Number (pos (n * unit))) ≡ true → is_quotable name ≡ true → is_writable (shifted_text name op n) ≡ true
shifted_writable name op n number q =
    call_writable (codes "DIMNM") (trees.Text name) (trees.Binary op (index_text name) (trees.Number (pos (n * unit)))) words.1 (text_writable name q)
    (writable_binary op (index_text name) (trees.Number (pos (n * unit))) ∙ and_from (is_writable (index_text name)) (is_writable (trees.Number (pos (n * unit)))) (index_writable name q) number)
