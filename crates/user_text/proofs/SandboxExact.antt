-- The readers of SANDBOX, PUBLISH and DISCARD are exact.
use Rattle.std.proofs.Common.{◌≡◌, ℕ, List, Bool, false, codes, subst}
use Rattle.std.specs.Str.{str_eq_ignore_ascii_case}
use Rattle.grammar.specs.Grammar.{one}
use Rattle.grammar.specs.Tokens.{word, is_word}
use Rattle.grammar.proofs.Exact.{Exact, Always, exact_gives, exact_then}
use Rattle.grammar.proofs.Begins.{Begins, begins_both, begins_either, exact_or}
use Rattle.grammar.proofs.Tokens.{exact_sign, exact_word, word_begins}
use Rattle.user_text.specs.Counting.{count, counting}
use Rattle.user_text.specs.UserText.{alone, of_sandboxes}
use Rattle.user_text.specs.Readers.Reading.{read_alone, read_of_sandboxes}
use Rattle.user_text.specs.declared.command.UserBody.{UserBody}
use Rattle.user_text.specs.declared.command.UserBody.TheVariants as bodies

alone_exact : (called : List ℕ) (body : UserBody) → Exact counting (alone called body) (alone called body) (read_alone called body) Always
unfolding read_alone
alone_exact called body = exact_then (exact_word count called) (λ place. exact_then (exact_sign count (codes ";")) (λ _. exact_gives counting (record { at = place; body = body })))

-- whether a word is this one
abbrev pub is_one : List ℕ → List ℕ → Bool
is_one w b = str_eq_ignore_ascii_case w b

begins_no : (called b : List ℕ) (body : UserBody) → is_one called b ≡ false → Begins (alone called body) (is_word b) false
begins_no called b body apart = begins_both (subst (Begins (one (word called)) (is_word b)) apart (word_begins called b))

-- a word that is none of the three
pub sandboxes_no_word : (b : List ℕ) → is_one (codes "SANDBOX") b ≡ false → is_one (codes "PUBLISH") b ≡ false → is_one (codes "DISCARD") b ≡ false → Begins of_sandboxes (is_word b) false
sandboxes_no_word b e f g = begins_either (begins_no (codes "SANDBOX") b bodies.Sandbox e) (begins_either (begins_no (codes "PUBLISH") b bodies.Publish f) (begins_no (codes "DISCARD") b bodies.Discard g))

pub sandboxes_exact : Exact counting of_sandboxes of_sandboxes read_of_sandboxes Always
unfolding read_of_sandboxes
sandboxes_exact =
    exact_or (is_word (codes "SANDBOX")) (begins_both (word_begins (codes "SANDBOX") (codes "SANDBOX"))) (begins_either (begins_both (word_begins (codes "PUBLISH") (codes "SANDBOX"))) (begins_both (word_begins (codes "DISCARD") (codes "SANDBOX")))) (alone_exact (codes "SANDBOX") bodies.Sandbox)
    (exact_or (is_word (codes "PUBLISH")) (begins_both (word_begins (codes "PUBLISH") (codes "PUBLISH"))) (begins_both (word_begins (codes "DISCARD") (codes "PUBLISH"))) (alone_exact (codes "PUBLISH") bodies.Publish) (alone_exact (codes "DISCARD") bodies.Discard))
