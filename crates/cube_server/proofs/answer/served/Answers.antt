use Rattle.std.proofs.Common.{rules, ◌≡◌, ◌++◌, ◌∷◌, [], None}
use Rattle.layers.specs.Layered.{IsLayeredHistoryOf}
use Rattle.user_session.specs.Content.{after, opening}
use Rattle.user_session.specs.Layers.{answer}
use Rattle.cube_server.specs.Inside.Ending.{joined}
use Rattle.cube_server.specs.Output.{users_text, history_text}
use Rattle.cube_server.proofs.Pieces.{output-joined}
use Rattle.cube_server.proofs.answer.served.Goals as goal

pub returns-clause-text : goal.returns-clause-text
returns-clause-text g c =
    let told = c.in_ok-served.served.told.items in
    let log = c.in_ok-served.served.log.items in
    let pushed : c.push.new.self.items ≡ c.in_ok-pieces.pieces.items ++ c.in_ok-print_history.field-0 ∷ [] = search rules in
    let users : joined c.in_ok-pieces.pieces.items ≡ users_text told = search rules in
    let history : c.in_ok-print_history.field-0.items ≡ history_text log = search rules in
    let served : IsLayeredHistoryOf answer after (opening c.args.model) None c.args.users told log = c.in_ok-served.ensures.history in
    record {
      accepted = c.model-model.ensures.accepted;
      told = told;
      log = log;
      history = served;
      is_text = output-joined told log c.in_ok-pieces.pieces.items c.push.new.self.items c.in_ok-print_history.field-0 pushed users history;
    }
