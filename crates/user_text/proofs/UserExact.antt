-- The reader of a user's text is exact.
use Rattle.std.proofs.Common.{List, ℕ, true, codes, ◌||◌, refl}
use Rattle.grammar.specs.Grammar.{one}
use Rattle.grammar.specs.Tokens.{word, is_word}
use Rattle.grammar.proofs.Exact.{Exact, Always, Not}
use Rattle.grammar.proofs.Begins.{Begins, begins_both, begins_either, exact_or}
use Rattle.grammar.proofs.Many.{exact_rest}
use Rattle.grammar.proofs.Tokens.{word_begins, begins_any}
use Rattle.user_text.specs.Counting.{counting}
use Rattle.user_text.specs.UserText.{command, user}
use Rattle.user_text.specs.Readers.Reading.{is_command_word, read_command, read_user}
use Rattle.user_text.proofs.CellExact.{put_exact, get_exact, trace_exact}
use Rattle.user_text.proofs.LoadExact.{load_exact}
use Rattle.user_text.proofs.SandboxExact.{is_one, sandboxes_no_word, sandboxes_exact}
use Rattle.user_text.proofs.SpreadExact.{spread_exact}
use Rattle.user_text.proofs.ViewExact.{view_exact}

command_exact : Exact counting command command read_command Always
unfolding read_command
command_exact =
    exact_or (is_word (codes "PUT")) (begins_both (word_begins (codes "PUT") (codes "PUT"))) (begins_either (begins_both (word_begins (codes "GET") (codes "PUT"))) (begins_either (begins_both (word_begins (codes "LOAD") (codes "PUT"))) (begins_either (begins_both (word_begins (codes "VIEW") (codes "PUT"))) (begins_either (begins_both (word_begins (codes "SPREAD") (codes "PUT"))) (begins_either (begins_both (word_begins (codes "TRACE") (codes "PUT"))) (sandboxes_no_word (codes "PUT") refl refl refl)))))) put_exact
    (exact_or (is_word (codes "GET")) (begins_both (word_begins (codes "GET") (codes "GET"))) (begins_either (begins_both (word_begins (codes "LOAD") (codes "GET"))) (begins_either (begins_both (word_begins (codes "VIEW") (codes "GET"))) (begins_either (begins_both (word_begins (codes "SPREAD") (codes "GET"))) (begins_either (begins_both (word_begins (codes "TRACE") (codes "GET"))) (sandboxes_no_word (codes "GET") refl refl refl))))) get_exact
    (exact_or (is_word (codes "LOAD")) (begins_both (word_begins (codes "LOAD") (codes "LOAD"))) (begins_either (begins_both (word_begins (codes "VIEW") (codes "LOAD"))) (begins_either (begins_both (word_begins (codes "SPREAD") (codes "LOAD"))) (begins_either (begins_both (word_begins (codes "TRACE") (codes "LOAD"))) (sandboxes_no_word (codes "LOAD") refl refl refl)))) load_exact
    (exact_or (is_word (codes "VIEW")) (begins_both (word_begins (codes "VIEW") (codes "VIEW"))) (begins_either (begins_both (word_begins (codes "SPREAD") (codes "VIEW"))) (begins_either (begins_both (word_begins (codes "TRACE") (codes "VIEW"))) (sandboxes_no_word (codes "VIEW") refl refl refl))) view_exact
    (exact_or (is_word (codes "SPREAD")) (begins_both (word_begins (codes "SPREAD") (codes "SPREAD"))) (begins_either (begins_both (word_begins (codes "TRACE") (codes "SPREAD"))) (sandboxes_no_word (codes "SPREAD") refl refl refl)) spread_exact
    (exact_or (is_word (codes "TRACE")) (begins_both (word_begins (codes "TRACE") (codes "TRACE"))) (sandboxes_no_word (codes "TRACE") refl refl refl) trace_exact sandboxes_exact)))))

word_begins_command : (w : List ℕ) → Begins (one (word w)) is_command_word (is_one w (codes "PUT") || (is_one w (codes "GET") || (is_one w (codes "LOAD") || (is_one w (codes "VIEW") || (is_one w (codes "SPREAD") || (is_one w (codes "TRACE") || (is_one w (codes "SANDBOX") || (is_one w (codes "PUBLISH") || is_one w (codes "DISCARD")))))))))
word_begins_command w = begins_any (word_begins w (codes "PUT")) (begins_any (word_begins w (codes "GET")) (begins_any (word_begins w (codes "LOAD")) (begins_any (word_begins w (codes "VIEW")) (begins_any (word_begins w (codes "SPREAD")) (begins_any (word_begins w (codes "TRACE")) (begins_any (word_begins w (codes "SANDBOX")) (begins_any (word_begins w (codes "PUBLISH")) (word_begins w (codes "DISCARD")))))))))

command_begins : Begins command is_command_word true
command_begins = begins_either (begins_both (word_begins_command (codes "PUT"))) (begins_either (begins_both (word_begins_command (codes "GET"))) (begins_either (begins_both (word_begins_command (codes "LOAD"))) (begins_either (begins_both (word_begins_command (codes "VIEW"))) (begins_either (begins_both (word_begins_command (codes "SPREAD"))) (begins_either (begins_both (word_begins_command (codes "TRACE"))) (begins_either (begins_both (word_begins_command (codes "SANDBOX"))) (begins_either (begins_both (word_begins_command (codes "PUBLISH"))) (begins_both (word_begins_command (codes "DISCARD"))))))))))

pub user_exact : Exact counting user user read_user (Not is_command_word)
unfolding read_user
user_exact = exact_rest is_command_word command_begins command_begins command_exact
