use Rattle.std.proofs.Common.{rules, ap, sym, subst, ◌∙◌}
use Rattle.version_book.specs.Lists.{GoesOn}
use Rattle.version_book.specs.Passes.{seen, numbers_of}
use Rattle.version_book.specs.Inside.Plays.{staged}
use Rattle.version_book.specs.declared.pass_view.Stage.TheVariants.{Turn}
use Rattle.version_book.proofs.Hands.{met_by}
use Rattle.version_book.proofs.Joins.{join_allowed}
use Rattle.version_book.proofs.passes.Book+W.meet.Goals as goal

pub join_seat-requires : goal.join_seat-requires
join_seat-requires g c = (
  search rules,
  search rules,
  search rules,
  search rules,
  join_allowed _ _ _ _ _ _ _ c.requires.one.opening c.requires.other.opening c.args.one.rests.1 c.args.other.rests.1,
)

pub returns-clause-one : goal.returns-clause-one
returns-clause-one g c =
    subst (λ xs. GoesOn (seen c.args.one) xs (numbers_of c.args.one)) (sym (ap (λ m. m.0.seen) c.free_turn.ensures.me))
    (met_by c.args.one.place.me.0 c.args.other.place.me.0 c.take_turn.new.place.me.0 c.look.new.place.me.0.seen
    (ap (λ m. m.0) c.take_turn.ensures.me ∙ ap (λ m. staged m.0 Turn) c.join_seat.ensures.2) c.look.ensures.older).0

pub returns-clause-other : goal.returns-clause-other
returns-clause-other g c =
    subst (λ xs. GoesOn (seen c.args.other) xs (numbers_of c.args.other)) (sym (ap (λ m. m.0.seen) c.free_turn.ensures.me))
    (met_by c.args.one.place.me.0 c.args.other.place.me.0 c.take_turn.new.place.me.0 c.look.new.place.me.0.seen
    (ap (λ m. m.0) c.take_turn.ensures.me ∙ ap (λ m. staged m.0 Turn) c.join_seat.ensures.2) c.look.ensures.older).1
