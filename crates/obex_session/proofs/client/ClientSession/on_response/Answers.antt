use Rattle.std.proofs.Common.{rules}
use Rattle.obex_session.proofs.AskingLaws.{answers, goes_on}
use Rattle.obex_session.proofs.client.ClientSession.on_response.Goals as goal

pub returns-in-Ok-clause-answer : goal.returns-in-Ok-clause-answer
returns-in-Ok-clause-answer c =
    let found = c.in-Ok.ensures.found in
    answers c.in-Some.request c.phase.result c.args.self.now _ c.args.packet.now c.in-Ok.response c.marks_of.result c.heard.result (search rules) c.phase.ensures c.self.view_is
    (record { packet = found.0; spells = found.1; shows = found.2; marked = c.marks_of.ensures }) c.heard.ensures.answer

pub returns-in-Ok-clause-session : goal.returns-in-Ok-clause-session
returns-in-Ok-clause-session c =
    let found = c.in-Ok.ensures.found in
    goes_on c.in-Some.request c.phase.result c.args.self.now _ _ c.args.packet.now c.in-Ok.response c.marks_of.result (search rules) c.phase.ensures c.self.view_is
    (record { packet = found.0; spells = found.1; shows = found.2; marked = c.marks_of.ensures }) c.heard.ensures.session
