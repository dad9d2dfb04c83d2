use Rattle.std.proofs.Common.{sym, ◌∙◌, subst, is_err}
use Rattle.bt_base.specs.declared.settings.Transport.TheVariants.{Rfcomm}
use Rattle.obex_session.specs.Counting.{counts_of}
use Rattle.push_model.specs.Server.{Server, remuxed, lets_go_on}
use Rattle.push_profile.specs.Reactions.{Comes}
use Rattle.push_profile.specs.Serving.{reacted}
use Rattle.push_profile.proofs.ServerLaws.{link_parts}
use Rattle.push_profile.proofs.server.PushServer.link_down.Goals as goal

pub returns-clause-comes : goal.returns-clause-comes
returns-clause-comes g c =
    link_parts c.args.self.now c.close_direct.new.self c.close_muxed.new.self _ _ _ _ _ _ (is_err c.close_muxed.result)
    (sym c.has_failed.ensures ∙ c.if-has_failed.false) (sym c.in-Ok.ensures.fails) c.close_muxed.ensures.fails c.in-Ok.ensures.comes
    (subst (λ (s : Server). Comes (lets_go_on Rfcomm (remuxed s)) (reacted c.close_muxed.new.self) (g.B.Inbox.content c.close_direct.new.inbox) (g.B.Inbox.content c.close_muxed.new.inbox) (counts_of g.B.Inbox.faults g.B.Inbox.shortages c.close_direct.new.inbox) (counts_of g.B.Inbox.faults g.B.Inbox.shortages c.close_muxed.new.inbox) (is_err c.close_muxed.result)) c.clear_reply.ensures c.close_muxed.ensures.comes)
