use Rattle.std.proofs.Common.{ap, ◌∙◌}
use Rattle.obex_session.specs.declared.marks.Kind.{Kind}
use Rattle.obex_session.specs.Past.{Serving}
use Rattle.obex_session.specs.Turns.{said_after}
use Rattle.obex_session.specs.Views.{is_silence, is_silent}
use Rattle.obex_session.proofs.LookingLaws.{said_by_none}
use Rattle.obex_session.proofs.server.ServerSession.is_silent.Goals as goal

pub returns : goal.returns
returns c =
    let before : Serving = record { maximum = c.self.inside.maximum; offered = c.self.inside.offered; course = c.self.inside.course } in
    c.is_silence.ensures
    ∙ ap is_silence (c.said_after.ensures ∙ ap (λ (k : Kind). said_after c.self.inside.offered c.self.inside.course k c.hear-heard.result.outcome) c.hear-heard.ensures.kind)
    ∙ said_by_none before c.args.packet.now _ _ c.hear-heard.result.outcome c.hear-heard.ensures.heeds
    ∙ ap (λ (s : Serving). is_silent s c.args.packet.now) c.self.view_is
