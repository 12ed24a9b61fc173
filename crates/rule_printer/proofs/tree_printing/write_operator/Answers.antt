use Rattle.rule_printer.proofs.tree_printing.write_operator.Goals as goal

pub returns-in-Or : goal.returns-in-Or
returns-in-Or c = rw c.in-Or.is c.write_sign.ensures.spaced

pub returns-in-And : goal.returns-in-And
returns-in-And c = rw c.in-And.is c.write_sign-in-And.ensures.spaced

pub returns-in-Add : goal.returns-in-Add
returns-in-Add c = rw c.in-Add.is c.write_sign-in-Add.ensures.spaced

pub returns-in-Sub : goal.returns-in-Sub
returns-in-Sub c = rw c.in-Sub.is c.write_sign-in-Sub.ensures.spaced

pub returns-in-Mul : goal.returns-in-Mul
returns-in-Mul c = rw c.in-Mul.is c.write_sign-in-Mul.ensures.spaced

pub returns-in-Div : goal.returns-in-Div
returns-in-Div c = rw c.in-Div.is c.write_sign-in-Div.ensures.spaced

pub returns-in-DivSafe : goal.returns-in-DivSafe
returns-in-DivSafe c = rw c.in-DivSafe.is c.write_sign-in-DivSafe.ensures.spaced

pub returns-in-Equal : goal.returns-in-Equal
returns-in-Equal c = rw c.in-Equal.is c.write_sign-in-Equal.ensures.spaced

pub returns-in-Unequal : goal.returns-in-Unequal
returns-in-Unequal c = rw c.in-Unequal.is c.write_sign-in-Unequal.ensures.spaced

pub returns-in-Less : goal.returns-in-Less
returns-in-Less c = rw c.in-Less.is c.write_sign-in-Less.ensures.spaced

pub returns-in-Greater : goal.returns-in-Greater
returns-in-Greater c = rw c.in-Greater.is c.write_sign-in-Greater.ensures.spaced

pub returns-in-AtMost : goal.returns-in-AtMost
returns-in-AtMost c = rw c.in-AtMost.is c.write_sign-in-AtMost.ensures.spaced

pub returns-in-AtLeast : goal.returns-in-AtLeast
returns-in-AtLeast c = rw c.in-AtLeast.is c.write_sign-in-AtLeast.ensures.spaced

pub returns-in-Same : goal.returns-in-Same
returns-in-Same c = rw c.in-Same.is c.write_sign-in-Same.ensures.spaced

pub returns-in-Other : goal.returns-in-Other
returns-in-Other c = rw c.in-Other.is c.write_sign-in-Other.ensures.spaced
