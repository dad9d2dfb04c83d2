use Rattle.std.proofs.Common.{true, is_some, sym, ap, ◌∙◌}
use Rattle.push_model.specs.rfcomm_model.specs.Machine.{Mux}
use Rattle.push_model.specs.rfcomm_model.specs.Saying.{next}
use Rattle.push_model.specs.Server.{Server, said_on, breaks_now, left_by, leaves_with}
use Rattle.push_profile.specs.Serving.{server_of}
use Rattle.push_profile.proofs.ServerLaws.{framed_anew, says_none}
use Rattle.push_profile.proofs.server.PushServer.lend_frame.Goals as goal

pub returns : goal.returns
returns c =
    let full = c.fill.new.self in
    let said = ap (λ (s : Server). is_some s.frame) (sym c.say.ensures) ∙ ap (λ (s : Server). is_some s.frame) (sym c.self-2.view_is) ∙ sym c.is_there-2.ensures ∙ c.if-is_there-2.false in
    let breaks = ap breaks_now (sym c.say.ensures) ∙ sym c.breaks_now.ensures ∙ c.if-not-breaks_now.false in
    c.say-2.ensures
    ∙ ap (λ (m : Mux). said_on (next m) (record (server_of c.self-2.inside) { mux = m })) c.close.ensures
    ∙ ap left_by (c.self-2.view_is ∙ c.say.ensures)
    ∙ sym (says_none (next full.mux) full true said breaks)
    ∙ ap (λ (s : Server). leaves_with (next s.mux) s) c.fill.ensures
    ∙ sym (framed_anew c.args.self.now (ap (λ (s : Server). is_some s.frame) (sym c.self.view_is) ∙ sym c.is_there.ensures ∙ c.if-is_there.false))
