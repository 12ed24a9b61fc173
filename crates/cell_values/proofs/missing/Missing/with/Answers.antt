use Rattle.std.proofs.Common.{[], ◌∷◌}
use Rattle.std.specs.Prelude.{is_ok}
use Rattle.std.proofs.lemmas.List.Elements.{All-nil, All-push}
use Rattle.cell_values.specs.Inside.Questions.{LeadsTo}
use Rattle.cell_values.proofs.Asked.{all-added}
use Rattle.cell_values.proofs.missing.Missing.with.Goals as goal

pub returns-then-is_err : goal.returns-then-is_err
returns-then-is_err c =
    λ at own other.
    let Leads = LeadsTo at.version at.cell in
    let one = All-push Leads [] c.args.other.first (All-nil Leads) other.first.leads in
    record { first = own.first; more = all-added Leads _ c.args.self.more.items (c.args.other.first ∷ []) (is_ok c.push.result) c.push.ensures.items own.more one }

pub returns : goal.returns
returns c =
    λ at own other.
    let Leads = LeadsTo at.version at.cell in
    let one = All-push Leads [] c.args.other.first (All-nil Leads) other.first.leads in
    let two = all-added Leads _ c.args.self.more.items (c.args.other.first ∷ []) (is_ok c.push.result) c.push.ensures.items own.more one in
    record { first = own.first; more = all-added Leads _ c.push.new.self.items c.args.other.more.items (is_ok c.append-added.result) c.append-added.ensures.items two other.more }
