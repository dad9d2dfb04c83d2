-- Whatever happens to a server, its multiplexer keeps its side, its channel, its room and the credits that its peer is to have.
use Rattle.std.proofs.Common.{Bool, true, false, cond, ◌≡◌, ℕ, ◌&&◌, List, length, take, Option, Some, None, refl, sym, subst, ◌∙◌}
use Rattle.std.specs.Prelude.{not, nat_lt, is_none}
use Rattle.std.proofs.lemmas.Bool.{cond_both, cond-false}
use Rattle.link_talk.specs.bt_base.specs.declared.settings.Transport.TheVariants.{L2cap, Rfcomm}
use Rattle.push_model.specs.rfcomm_frames.specs.declared.connection.Role.TheVariants.{Responder}
use Rattle.push_model.specs.rfcomm_frames.specs.FrameReading.{frame_answer, is_empty}
use Rattle.push_model.specs.rfcomm_frames.specs.Frames.{PlainFrame}
use Rattle.push_model.specs.rfcomm_model.specs.declared.state.Asks.TheVariants as asks
use Rattle.push_model.specs.rfcomm_model.specs.declared.state.Command.TheVariants.{LeaveUser}
use Rattle.push_model.specs.rfcomm_model.specs.Hearing.{up, hears}
use Rattle.push_model.specs.rfcomm_model.specs.Machine.{Mux, is_ready, is_leaving, taken_count, sends, leaves, Kept}
use Rattle.push_model.specs.rfcomm_model.specs.Saying.{Said, next, after_said}
use Rattle.push_model.specs.rfcomm_model.proofs.Keeping.{answer_keeps, next_keeps}
use Rattle.push_model.specs.declared.outlet.Outlet.{Outlet}
use Rattle.push_model.specs.declared.outlet.Outlet.TheVariants.{Records, Direct, Muxed}
use Rattle.push_model.specs.Service.{answer_cut}
use Rattle.push_model.specs.Sessions.{Gift}
use Rattle.push_model.specs.Server.{Server, Reacted, with_service, hears_on, filled, said_on, breaks_now, left_by, leaves_with, framed_by, framed, outlet_of, lends_by, taken_by, closed_on, lets_go_on, remuxed, unreplied, unanswered}
use Rattle.push_laws.specs.Occurrences.{Occurrence, Came, Went, Closed, LinkDown, Asked, Answering, done}
use Rattle.push_laws.proofs.Servers.{by_psm, up_keeps}

module _ (largest cap : ℕ) where
  abbrev pub K : Mux → Type 0
  K m = Kept Responder 18 largest cap m

  either_kept : (b : Bool) (x y : Mux) → K x → K y → K (cond b x y)
  either_kept true x y k l = k
  either_kept false x y k l = l

  sends_kept : (octets : List ℕ) (m : Mux) → K m → K (sends octets m)
  sends_kept octets m k = either_kept (is_empty m.waiting && nat_lt 0 m.account.held) (record m { waiting = take (taken_count (length octets) m) octets }) m k k

  leaves_kept : (m : Mux) → K m → K (leaves m)
  leaves_kept m k = either_kept (is_none m.closed && not (is_leaving m.asks)) (record m { asks = asks.Due LeaveUser }) m k k

  says_kept : (m : Mux) → K m → K (after_said (next m) m)
  says_kept m k = let l = next_keeps m in (l.0 ∙ k.0, l.1 ∙ k.1, l.2 ∙ k.2, l.3 ∙ k.3)

  abbrev S : Server → Type 0
  S server = K server.mux

  fills : (server : Server) → S server → S (filled server)
  fills server k =
      cond_both (is_ready server.mux && not (is_empty server.listener.service.answer))
      (with_service (answer_cut (taken_count (length server.listener.service.answer) server.mux) server.listener.service) (record server { mux = sends server.listener.service.answer server.mux })) server S (λ e. sends_kept server.listener.service.answer server.mux k) (λ e. k)

  says : (o : Option Said) (server : Server) → next server.mux ≡ o → S server → S (said_on o server)
  says None server is k = k
  says (Some said) server is k = subst (λ (o : Option Said). K (after_said o server.mux)) is (says_kept server.mux k)

  goes : (o : Option Said) (server : Server) → next server.mux ≡ o → S server → S (leaves_with o server)
  goes None server is k =
      let quiet : Server = said_on None server in
      cond_both (breaks_now quiet) (left_by quiet) quiet S (λ e. says (next (leaves server.mux)) (record quiet { mux = leaves server.mux }) refl (leaves_kept server.mux k)) (λ e. k)
  goes (Some said) server is k = says (Some said) server is k

  frames : (frame : Option PlainFrame) (server : Server) → S server → S (framed_by frame server)
  frames None server k = let full = filled server in goes (next full.mux) full refl (fills server k)
  frames (Some frame) server k = k

  lends_kept : (o : Option Outlet) (server : Server) → S server → S (lends_by o server)
  lends_kept None server k =
      let full : Server = framed server in
      cond_both (is_empty server.reply && is_empty server.listener.service.response) (record full { lent = outlet_of full }) (record server { lent = outlet_of server }) S (λ e. frames server.frame server k) (λ e. k)
  lends_kept (Some outlet) server k = k

  came_kept : (sdu : List ℕ) (server : Server) (gift : Gift) (psm : ℕ) → S server → S (hears_on psm sdu server gift).server
  came_kept sdu server gift psm k =
      by_psm (λ p. S (hears_on p sdu server gift).server) (cond_both (is_empty server.reply) _ _ S (λ e. k) (λ e. k))
      (subst K (sym (up_keeps (up sdu server.mux) (record server { mux = hears sdu server.mux }) gift)) (answer_keeps Responder 18 largest cap (frame_answer sdu) server.mux k)) k
      (λ p x y z. subst (λ (r : Reacted). S r.server) (sym (cond-false _ _ _ x ∙ (cond-false _ _ _ y ∙ cond-false _ _ (let r : Reacted = record { server = server; gift = gift } in r) z))) k) psm

  closed_kept : (server : Server) (gift : Gift) (psm : ℕ) → S server → S (closed_on psm server gift).server
  closed_kept server gift psm k =
      by_psm (λ p. S (closed_on p server gift).server) k k k
      (λ p x y z. subst (λ (r : Reacted). S r.server) (sym (cond-false _ _ _ x ∙ (cond-false _ _ _ y ∙ cond-false _ _ (let r : Reacted = record { server = server; gift = gift } in r) z))) k) psm

  taken_kept : (o : Option Outlet) (server : Server) → S server → S (taken_by o server)
  taken_kept None server k = k
  taken_kept (Some Records) server k = k
  taken_kept (Some Direct) server k = k
  taken_kept (Some Muxed) server k = k

  unless : (failed : Bool) (at after : Reacted) → S at.server → S after.server → S (cond failed (let r : Reacted = record { server = at.server; gift = at.gift } in r) after).server
  unless true at after k l = k
  unless false at after k l = l

  down_kept : (at : Reacted) → S at.server → (let first : Reacted = lets_go_on L2cap (unanswered at.server) at.gift in S (cond first.server.listener.service.failed first (lets_go_on Rfcomm (remuxed (unreplied first.server)) first.gift)).server)
  down_kept at k =
      let first : Reacted = lets_go_on L2cap (unanswered at.server) at.gift in
      cond_both first.server.listener.service.failed first (lets_go_on Rfcomm (remuxed (unreplied first.server)) first.gift) (λ (r : Reacted). S r.server) (λ e. k) (λ e. k)

  pub numbers_stay : (one : Occurrence) (at : Reacted) → K at.server.mux → K (done one at).server.mux
  numbers_stay (Came psm sdu) at k = unless at.server.listener.service.failed at (hears_on psm sdu at.server at.gift) k (came_kept sdu at.server at.gift psm k)
  numbers_stay (Went psm sdu) at k = taken_kept at.server.lent at.server k
  numbers_stay (Closed psm) at k = unless at.server.listener.service.failed at (closed_on psm at.server at.gift) k (closed_kept at.server at.gift psm k)
  numbers_stay LinkDown at k =
      let first : Reacted = lets_go_on L2cap (unanswered at.server) at.gift in
      unless at.server.listener.service.failed at (cond first.server.listener.service.failed first (lets_go_on Rfcomm (remuxed (unreplied first.server)) first.gift)) k (down_kept at k)
  numbers_stay Asked at k = lends_kept at.server.lent at.server k
  numbers_stay (Answering answers) at k = k
