-- Which rules can be written: those whose names, texts and words fit in tokens. What is read from tokens is so.
use Rattle.std.specs.Prelude.{ℕ, nat_le, Bool, true, not, ◌&&◌, List, length, Option, Some, None, if◌then◌else◌}
use Rattle.std.specs.Int.{is_negative}
use Rattle.std.specs.List.{list_all}
use Rattle.cube_fixed.specs.Range.{is_in_range}
use Rattle.cube_lex.specs.Bytes.{is_plain}
use Rattle.cube_lex.specs.Parts.{most_token_bytes}
use Rattle.cube_lex.specs.Quoted.{quoted}
use Rattle.rule_printer.specs.Spelled.{is_word_text}
use Rattle.rule_tree.specs.declared.rule.BodyText.{BodyText}
use Rattle.rule_tree.specs.declared.rule.BodyText.TheVariants as bodies
use Rattle.rule_tree.specs.declared.rule.EntryText.{EntryText}
use Rattle.rule_tree.specs.declared.rule.FeederText.{FeederText}
use Rattle.rule_tree.specs.declared.rule.RuleText.{RuleText}
use Rattle.rule_tree.specs.declared.rule.StatementText.{StatementText}
use Rattle.rule_tree.specs.declared.rule.TargetText.{TargetText}
use Rattle.rule_tree.specs.declared.rule.TargetText.TheVariants as targets
use Rattle.rule_tree.specs.declared.tree.SimpleText.{SimpleText}
use Rattle.rule_tree.specs.declared.tree.Tree.{Tree, fold-Tree}
use Rattle.rule_tree.specs.declared.tree.Tree.TheOpen.{Tree-F}

-- the bytes may stand in a quoted text, which isn't too long for a token
unfoldable pub is_quotable : List ℕ → Bool
is_quotable bytes = list_all is_plain bytes && nat_le (length (quoted bytes)) most_token_bytes

-- the bytes are a word that isn't too long for a token
unfoldable pub is_short_word : List ℕ → Bool
is_short_word bytes = is_word_text bytes && nat_le (length bytes) most_token_bytes

-- the name of a dimension behind a `!`
abbrev pub is_marked : List ℕ → Bool
is_marked dim = if is_word_text dim then is_short_word dim else is_quotable dim

abbrev pub is_writable_dimension : Option (List ℕ) → Bool
is_writable_dimension None = true
is_writable_dimension (Some dim) = is_quotable dim

abbrev pub is_writable_simple : SimpleText → Bool
is_writable_simple s = is_writable_dimension s.dim && is_quotable s.element

abbrev pub itself : Bool → Bool
itself b = b

-- one level of a formula, by whether its parts can be written
unfoldable pub writable_step : Tree-F Bool → Bool
writable_step (Tree-F.Number millionths) = not (is_negative millionths) && is_in_range millionths
writable_step (Tree-F.Text bytes) = is_quotable bytes
writable_step (Tree-F.Current dim) = is_marked dim
writable_step (Tree-F.Bracket simples) = list_all is_writable_simple simples
writable_step Tree-F.Stet = true
writable_step Tree-F.Continue = true
writable_step (Tree-F.Call function arguments) = is_short_word function && list_all itself arguments
writable_step (Tree-F.Minus e) = e
writable_step (Tree-F.Not e) = e
writable_step (Tree-F.Binary op left right) = left && right

unfoldable pub is_writable : Tree → Bool
is_writable = fold-Tree Bool writable_step

abbrev pub is_writable_entry : EntryText → Bool
is_writable_entry e = is_writable_dimension e.dim && list_all is_quotable e.elements

abbrev pub is_writable_body : BodyText → Bool
is_writable_body (bodies.Both tree) = is_writable tree
is_writable_body (bodies.Leaf leaf) = is_writable leaf
is_writable_body (bodies.Cons cons) = is_writable cons
is_writable_body (bodies.LeafCons leaf cons) = is_writable leaf && is_writable cons
is_writable_body (bodies.ConsLeaf cons leaf) = is_writable cons && is_writable leaf

abbrev pub is_writable_statement : StatementText → Bool
is_writable_statement s = list_all is_writable_entry s.area && is_writable_body s.body

abbrev pub is_writable_target : TargetText → Bool
is_writable_target (targets.Bracket simples) = list_all is_writable_simple simples
is_writable_target (targets.Db arguments) = list_all is_writable arguments

abbrev pub is_writable_feeder : FeederText → Bool
is_writable_feeder f = list_all is_writable_entry f.area && list_all is_writable_target f.targets

abbrev pub are_writable : RuleText → Bool
are_writable text = list_all is_writable_statement text.statements && list_all is_writable_feeder text.feeders
