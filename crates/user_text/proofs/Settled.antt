-- The reader of a user's text never uses up its nesting.
use Rattle.std.proofs.Common.{ℕ, ◌==◌, Bool, true, false, List, [], ◌∷◌, codes}
use Rattle.grammar.specs.Tokens.{is_sign, is_word}
use Rattle.grammar.proofs.Lists.{listed_settles, names_settle, minus_settles}
use Rattle.grammar.proofs.Settles.{Settles, settles_one, settles_gives, settles_both, settles_choose, settles_all, settles_all_after}
use Rattle.user_text.specs.Counting.{count}
use Rattle.cube_fixed.specs.Text.{decimal_point}
use Rattle.user_text.specs.Readers.Reading.{is_command_word, read_cell, read_amount, read_put, read_get, read_skip, read_given_separator, read_separator, read_given_decimal, read_sign_by, read_decimal, read_rejects, read_given_source, read_source, read_value, read_param, read_next_param, read_further_params, read_params, read_load, read_elements, read_set, read_next_set, read_axis, read_point, read_points, read_nozeros, read_view, read_spread_word, read_spread, read_trace, read_alone, read_of_sandboxes, read_command, read_user}
use Rattle.user_text.specs.declared.command.ParamText.{ParamText}
use Rattle.user_text.specs.declared.command.UserBody.{UserBody}

cell_settles : Settles read_cell
unfolding read_cell
cell_settles = settles_both (settles_one _ _) (λ cube. settles_both (settles_one _ _) (λ _. settles_both (names_settle count) (λ elements. settles_both (settles_one _ _) (λ _. settles_gives _))))

amount_settles : Settles read_amount
unfolding read_amount
amount_settles = settles_both (minus_settles count) (λ negative. settles_both (settles_one _ _) (λ number. settles_gives _))

put_settles : Settles read_put
unfolding read_put
put_settles = settles_both (settles_one _ _) (λ place. settles_both cell_settles (λ target. settles_both (settles_one _ _) (λ _. settles_both amount_settles (λ value. settles_both (settles_one _ _) (λ _. settles_gives _)))))

get_settles : Settles read_get
unfolding read_get
get_settles = settles_both (settles_one _ _) (λ place. settles_both cell_settles (λ target. settles_both (settles_one _ _) (λ _. settles_gives _)))

skip_settles : Settles read_skip
unfolding read_skip
skip_settles = settles_choose _ (settles_both (settles_one _ _) (λ _. settles_one _ _)) (settles_gives _)

given_separator_settles : Settles read_given_separator
unfolding read_given_separator
given_separator_settles = settles_choose _ (settles_one _ _) (settles_both (settles_one _ _) (λ _. settles_gives _))

separator_settles : Settles read_separator
unfolding read_separator
separator_settles = settles_choose _ (settles_both (settles_one _ _) (λ _. given_separator_settles)) (settles_gives _)

given_decimal_settles : (byte : ℕ) → Settles (read_given_decimal byte)
unfolding read_given_decimal
given_decimal_settles byte = settles_both (settles_one _ _) (λ _. settles_one _ _)

decimal_by_settles : (needed : Bool) (byte : ℕ) → Settles (read_sign_by needed byte)
unfolding read_sign_by
decimal_by_settles true byte = given_decimal_settles byte
decimal_by_settles false byte = settles_choose _ (given_decimal_settles byte) (settles_gives _)

decimal_settles : (byte : ℕ) → Settles (read_decimal byte)
unfolding read_decimal
decimal_settles byte = decimal_by_settles (byte == decimal_point) byte

rejects_settles : Settles read_rejects
unfolding read_rejects
rejects_settles = settles_choose _ (settles_both (settles_one _ _) (λ _. settles_both (settles_one _ _) (λ most. settles_gives _))) (settles_gives _)

given_source_settles : Settles read_given_source
unfolding read_given_source
given_source_settles = settles_both (settles_one _ _) (λ _. settles_both (settles_one _ _) (λ path. settles_both skip_settles
    (λ records. settles_both separator_settles (λ byte. settles_both (decimal_settles byte) (λ mark. settles_both rejects_settles (λ most. settles_gives _))))))

source_settles : Settles read_source
unfolding read_source
source_settles = settles_choose _ given_source_settles (settles_gives _)

value_settles : Settles read_value
unfolding read_value
value_settles = settles_choose _ (settles_both (settles_one _ _) (λ bytes. settles_gives _)) (settles_both amount_settles (λ number. settles_gives _))

param_settles : (before : List (List ℕ × ParamText)) → Settles (read_param before)
unfolding read_param
param_settles before = settles_both (settles_one _ _) (λ variable. settles_both (settles_one _ _) (λ _. settles_both value_settles (λ given. settles_gives _)))

next_param_settles : (before : List (List ℕ × ParamText)) → Settles (read_next_param before)
unfolding read_next_param
next_param_settles before = settles_both (settles_one _ _) (λ _. param_settles before)

params_settles : Settles read_params
unfolding read_params read_further_params
params_settles = settles_choose _ (settles_both (settles_one _ _) (λ _. settles_both (param_settles []) (λ first. settles_both (settles_all_after (is_sign (codes ",")) next_param_settles (first ∷ [])) (λ rest. settles_gives _)))) (settles_gives _)

load_settles : Settles read_load
unfolding read_load
load_settles = settles_both (settles_one _ _) (λ place. settles_both (settles_one _ _) (λ script. settles_both source_settles (λ records. settles_both params_settles (λ variables. settles_both (settles_one _ _) (λ _. settles_gives _)))))

elements_settle : Settles read_elements
unfolding read_elements
elements_settle = settles_choose _ (settles_both (settles_one _ _) (λ _. settles_both (names_settle count) (λ elements. settles_gives _))) (settles_gives _)

set_settles : Settles read_set
unfolding read_set
set_settles = settles_both (settles_one _ _) (λ dim. settles_both elements_settle (λ elements. settles_gives _))

next_set_settles : Settles read_next_set
unfolding read_next_set
next_set_settles = settles_both (settles_one _ _) (λ _. set_settles)

axis_settles : Settles read_axis
unfolding read_axis
axis_settles = settles_both set_settles (λ first. settles_both (settles_all (is_word (codes "BY")) next_set_settles) (λ rest. settles_gives _))

point_settles : Settles read_point
unfolding read_point
point_settles = settles_both (settles_one _ _) (λ dim. settles_both (settles_one _ _) (λ _. settles_both (settles_one _ _) (λ element. settles_gives _)))

points_settle : Settles read_points
unfolding read_points
points_settle = settles_choose _ (settles_both (settles_one _ _) (λ _. listed_settles count point_settles)) (settles_gives _)

nozeros_settles : Settles read_nozeros
unfolding read_nozeros
nozeros_settles = settles_choose _ (settles_both (settles_one _ _) (λ _. settles_gives _)) (settles_gives _)

view_settles : Settles read_view
unfolding read_view
view_settles = settles_both (settles_one _ _) (λ place. settles_both (settles_one _ _) (λ cube. settles_both (settles_one _ _) (λ _. settles_both axis_settles (λ rows. settles_both (settles_one _ _) (λ _. settles_both axis_settles
    (λ columns. settles_both points_settle (λ at. settles_both nozeros_settles (λ without_zeros. settles_both (settles_one _ _) (λ _. settles_gives _)))))))))

spread_word_settles : Settles read_spread_word
unfolding read_spread_word
spread_word_settles = settles_choose _ (settles_both (settles_one _ _) (λ _. settles_gives _)) (settles_both (settles_one _ _) (λ _. settles_gives _))

spread_settles : Settles read_spread
unfolding read_spread
spread_settles = settles_both (settles_one _ _) (λ place. settles_both cell_settles (λ target. settles_both (settles_one _ _) (λ _. settles_both amount_settles (λ value. settles_both spread_word_settles (λ how. settles_both (settles_one _ _) (λ _. settles_gives _))))))

trace_settles : Settles read_trace
unfolding read_trace
trace_settles = settles_both (settles_one _ _) (λ place. settles_both cell_settles (λ target. settles_both (settles_one _ _) (λ _. settles_gives _)))

alone_settles : (called : List ℕ) (body : UserBody) → Settles (read_alone called body)
unfolding read_alone
alone_settles called body = settles_both (settles_one _ _) (λ place. settles_both (settles_one _ _) (λ _. settles_gives _))

sandboxes_settle : Settles read_of_sandboxes
unfolding read_of_sandboxes
sandboxes_settle = settles_choose _ (alone_settles _ _) (settles_choose _ (alone_settles _ _) (alone_settles _ _))

command_settles : Settles read_command
unfolding read_command
command_settles = settles_choose _ put_settles (settles_choose _ get_settles (settles_choose _ load_settles (settles_choose _ view_settles (settles_choose _ spread_settles (settles_choose _ trace_settles sandboxes_settle)))))

pub user_settles : Settles read_user
unfolding read_user
user_settles = settles_all is_command_word command_settles
