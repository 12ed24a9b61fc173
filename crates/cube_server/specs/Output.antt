-- The texts that a run writes.
use Rattle.std.specs.Prelude.{ℕ, ℤ, ◌+◌, List, [], ◌∷◌, ◌++◌, length, codes, decimal}
use Rattle.std.specs.List.{flat_map}
use Rattle.history.specs.declared.entry.Entry.{Entry}
use Rattle.history.specs.declared.told.Told.{Told}
use Rattle.dim_name.specs.Bytes.{newline}
use Rattle.cube_lex.specs.Quoted.{quoted}
use Rattle.file_passes.specs.declared.refusal.Cause.{Cause}
use Rattle.file_passes.specs.declared.refusal.Cause.TheVariants as causes
use Rattle.file_passes.specs.declared.refusal.FilePlace.{FilePlace}
use Rattle.file_passes.specs.declared.refusal.FilePlace.TheVariants.{Text, Statement, Feeder}
use Rattle.file_passes.specs.declared.refusal.Refusal.{Refusal}

-- the end of a line
abbrev pub line_end : List ℕ
line_end = newline ∷ []

-- the texts of these, one after another, of which the first has this number
abbrev pub numbered : {A : Type 0} → (ℕ → A → List ℕ) → ℕ → List A → List ℕ
numbered text_of number [] = []
numbered text_of number (x ∷ more) = text_of number x ++ numbered text_of (number + 1) more

-- `K @P REPLY`, for command K at place P
abbrev pub told_line : ℕ → Told (List ℕ) → List ℕ
told_line number told =
    decimal number ++ codes " @" ++ decimal told.place ++ codes " " ++ told.reply ++ line_end

-- the lines of the commands, which count from 1
abbrev pub told_lines : List (Told (List ℕ)) → List ℕ
told_lines told = numbered told_line 1 told

-- `user U`, and the user's lines
abbrev pub user_text : ℕ → List (Told (List ℕ)) → List ℕ
user_text user told = codes "user " ++ decimal user ++ line_end ++ told_lines told

-- the texts of the users, who count from 1
abbrev pub users_text : List (List (Told (List ℕ))) → List ℕ
users_text told = numbered user_text 1 told

-- `I user U command K cells N`, for the entry at place I
abbrev pub entry_line : ℕ → Entry (List (ℕ × ℤ)) → List ℕ
entry_line place entry =
    decimal place ++ codes " user " ++ decimal entry.user ++ codes " command " ++ decimal entry.command ++
    codes " cells " ++ decimal (length entry.writes) ++ line_end

-- the lines of the entries, whose places count from 0
abbrev pub entry_lines : List (Entry (List (ℕ × ℤ))) → List ℕ
entry_lines log = numbered entry_line 0 log

-- `history`, and a line for each entry
abbrev pub history_text : List (Entry (List (ℕ × ℤ))) → List ℕ
history_text log = codes "history" ++ line_end ++ entry_lines log

-- what is written when all users are done
abbrev pub output : List (List (Told (List ℕ))) → List (Entry (List (ℕ × ℤ))) → List ℕ
output told log = users_text told ++ history_text log

-- a space, and a name in quotes
abbrev pub quoted_name : List ℕ → List ℕ
quoted_name name = codes " " ++ quoted name

-- the name of a cause, and its number where it has one; a circle by the names of its elements
abbrev pub cause_text : Cause → List ℕ
cause_text causes.Syntax = codes "Syntax"
cause_text causes.WrongVersion = codes "WrongVersion"
cause_text causes.Duplicate = codes "Duplicate"
cause_text causes.UnknownName = codes "UnknownName"
cause_text causes.TooMany = codes "TooMany"
cause_text causes.UnknownComponent = codes "UnknownComponent"
cause_text causes.Loop = codes "Loop"
cause_text causes.WeightRange = codes "WeightRange"
cause_text causes.BadAttribute = codes "BadAttribute"
cause_text causes.CoefficientTooLarge = codes "CoefficientTooLarge"
cause_text (causes.TooManyPairs count) = codes "TooManyPairs " ++ decimal count
cause_text causes.DimensionCount = codes "DimensionCount"
cause_text causes.CubeTooLarge = codes "CubeTooLarge"
cause_text causes.ModelTooLarge = codes "ModelTooLarge"
cause_text causes.WeightProduct = codes "WeightProduct"
cause_text causes.TooDeep = codes "TooDeep"
cause_text causes.UnknownFunction = codes "UnknownFunction"
cause_text causes.Ambiguous = codes "Ambiguous"
cause_text causes.WrongCount = codes "WrongCount"
cause_text causes.DynamicReference = codes "DynamicReference"
cause_text causes.Unsupported = codes "Unsupported"
cause_text causes.BadOrder = codes "BadOrder"
cause_text (causes.Unlagged reference) = codes "Unlagged reference " ++ decimal reference
cause_text (causes.Cycle names) = codes "Cycle" ++ flat_map quoted_name names
cause_text (causes.TooHigh height) = codes "TooHigh " ++ decimal height
cause_text (causes.NotEarlier reference) = codes "NotEarlier reference " ++ decimal reference
cause_text (causes.DenseTooLarge count) = codes "DenseTooLarge " ++ decimal count
cause_text (causes.NotFed operand) = codes "NotFed operand " ++ decimal operand
cause_text (causes.FedLimit count) = codes "FedLimit " ++ decimal count
cause_text causes.UnknownScript = codes "UnknownScript"

-- `line L`, `statement S` or `feeder S`
abbrev pub place_text : FilePlace → List ℕ
place_text (Text place) = codes "line " ++ decimal place.line
place_text (Statement statement) = codes "statement " ++ decimal statement
place_text (Feeder feeder) = codes "feeder " ++ decimal feeder

-- `refused FILE: PLACE: CAUSE`
abbrev pub refused_text : Refusal → List ℕ
refused_text refusal =
    codes "refused " ++ refusal.file ++ codes ": " ++ place_text refusal.at ++ codes ": " ++ cause_text refusal.cause
    ++ line_end

-- `cannot read FILE`
abbrev pub unread_text : List ℕ → List ℕ
unread_text file = codes "cannot read " ++ file ++ line_end

-- how the program is called
abbrev pub usage_text : List ℕ
usage_text =
    codes "usage: cube_program MODEL USER..." ++ line_end ++
    codes "       cube_program --check MODEL" ++ line_end ++
    codes "       cube_program --sample N" ++ line_end ++
    codes "       cube_program --feeders MODEL" ++ line_end ++
    codes "       cube_program --explain MODEL USER..." ++ line_end
