use Rattle.lists.proofs.Members.{same_members}
use Rattle.lists.proofs.rising_lists.rising_lists_are_told_by_their_members.Goals as goal

pub returns : goal.returns
returns c xs ys up_xs up_ys same = same_members xs ys up_xs up_ys same
