-- What a server sends on the channel to the service records, where one request alone comes there: its one reply, or nothing.
use Rattle.std.proofs.Common.{inl, inr, ◌⊎◌, Bool, true, false, cond, ◌&&◌, ◌≡◌, ◌==◌, ℕ, List, [], Option, Some, None, refl, sym, ap, subst, ◌∙◌}
use Rattle.std.proofs.lemmas.Bool.{cond_both, cond-false}
use Rattle.link_talk.specs.bt_base.specs.Objects.{Contents}
use Rattle.link_talk.specs.bt_base.specs.declared.settings.Serves.{Serves}
use Rattle.link_talk.specs.bt_base.specs.declared.settings.Settings.{Settings}
use Rattle.link_talk.specs.bt_base.specs.declared.settings.Transport.TheVariants.{L2cap, Rfcomm}
use Rattle.push_model.specs.rfcomm_frames.specs.FrameReading.{is_empty}
use Rattle.push_model.specs.rfcomm_frames.specs.Frames.{PlainFrame}
use Rattle.push_model.specs.rfcomm_model.specs.Hearing as hearing
use Rattle.push_model.specs.rfcomm_model.specs.Hearing.{Up, nothing, opened, bytes, closed, up}
use Rattle.push_model.specs.rfcomm_model.specs.Machine.{leaves, sends, taken_count}
use Rattle.push_model.specs.rfcomm_model.specs.Saying.{Said, next}
use Rattle.push_model.specs.sdp_client.specs.Asking.{begun, after_request, request_octets}
use Rattle.push_model.specs.sdp_client.specs.Laws.{first_reply}
use Rattle.push_model.specs.sdp_server.specs.Replies.{reply_to}
use Rattle.push_model.specs.declared.outlet.Outlet.{Outlet}
use Rattle.push_model.specs.declared.outlet.Outlet.TheVariants.{Records, Direct, Muxed}
use Rattle.push_model.specs.Payloads.{Octets, IsSaid}
use Rattle.push_model.specs.Service.{answer_cut}
use Rattle.push_model.specs.Sessions.{Gift}
use Rattle.push_model.specs.Server as server
use Rattle.push_model.specs.Server.{Server, Reacted, Lent, hears_search, hears_up, reply_room, search_psm, with_service, filled, said_on, breaks_now, left_by, leaves_with, framed_by, framed, outlet_of, lends_by, lent_by, frame_lent, lets_go_on, lets_go_twice, remuxed, unanswered, unreplied, new_server}
use Rattle.push_laws.specs.Occurrences as occurrences
use Rattle.push_laws.specs.Occurrences.{Occurrence, Came, Went, Closed, LinkDown, Asked, Answering, done, IsOwn}
use Rattle.push_laws.proofs.Servers.{by_psm}

-- the only request, and the reply to it
pub request : List ℕ
request = request_octets (after_request begun)

pub request_is : request ≡ request_octets (after_request begun)
unfolding request
request_is = refl

pub reply : Serves → List ℕ
reply serves = reply_to serves reply_room request

pub reply_is : (serves : Serves) → reply serves ≡ first_reply serves reply_room
unfolding reply request
reply_is serves = refl

-- octets that may be sent there
abbrev pub IsReply : Serves → List ℕ → Type 0
IsReply serves octets = (octets ≡ []) ⊎ (octets ≡ reply serves)

module _ (serves : Serves) where
  -- it serves what it did, and has no other reply
  abbrev pub HasReply : Server → Type 0
  HasReply at = (at.serves ≡ serves) × IsReply serves at.reply

  abbrev Q : Server → Type 0
  Q at = HasReply at

  up_has : (u : Up) (at : Server) (gift : Gift) → Q at → Q (hears_up u at gift).server
  up_has nothing at gift q = q
  up_has opened at gift q = q
  up_has (closed reason) at gift q = q
  up_has (bytes octets) at gift q = cond_both at.listener.breaks _ _ (λ (r : Reacted). Q r.server) (λ e. q) (λ e. q)

  replied : (at : Server) (sdu : List ℕ) → at.serves ≡ serves → sdu ≡ request → reply_to at.serves reply_room sdu ≡ reply serves
  unfolding reply
  replied at sdu same is = ap (λ (s : Serves). reply_to s reply_room sdu) same ∙ ap (λ (xs : List ℕ). reply_to serves reply_room xs) is

  search_has : (at : Server) (sdu : List ℕ) → sdu ≡ request → Q at → Q (hears_search sdu at)
  search_has at sdu is q = cond_both (is_empty at.reply) (record at { reply = reply_to at.serves reply_room sdu }) at Q (λ e. (q.0, inr (replied at sdu q.0 is))) (λ e. q)

  hears_has : (psm : ℕ) (sdu : List ℕ) (at : Server) (gift : Gift) → ((psm == search_psm) ≡ true → sdu ≡ request) → Q at → Q (server.hears_on psm sdu at gift).server
  hears_has psm sdu at gift =
      by_psm (λ p. ((p == search_psm) ≡ true → sdu ≡ request) → Q at → Q (server.hears_on p sdu at gift).server) (λ is q. search_has at sdu (is refl) q)
      (λ is q. up_has (up sdu at.mux) (record at { mux = hearing.hears sdu at.mux }) gift q) (λ is q. q)
      (λ p x y z is q. subst (λ (r : Reacted). Q r.server) (sym (cond-false _ _ _ x ∙ (cond-false _ _ _ y ∙ cond-false _ _ (let r : Reacted = record { server = at; gift = gift } in r) z))) q) psm

  fills : (at : Server) → Q at → Q (filled at)
  fills at q = cond_both _ (with_service (answer_cut (taken_count _ at.mux) at.listener.service) (record at { mux = sends at.listener.service.answer at.mux })) at Q (λ e. q) (λ e. q)

  said_has : (o : Option Said) (at : Server) → Q at → Q (said_on o at)
  said_has None at q = q
  said_has (Some said) at q = q

  leaves_has : (o : Option Said) (at : Server) → Q at → Q (leaves_with o at)
  leaves_has None at q =
      let quiet : Server = said_on None at in
      cond_both (breaks_now quiet) (left_by quiet) quiet Q (λ e. said_has (next (leaves quiet.mux)) (record quiet { mux = leaves quiet.mux }) q) (λ e. q)
  leaves_has (Some said) at q = said_has (Some said) at q

  framed_has : (frame : Option PlainFrame) (at : Server) → Q at → Q (framed_by frame at)
  framed_has None at q = let full = filled at in leaves_has (next full.mux) full (fills at q)
  framed_has (Some frame) at q = q

  lends_has : (o : Option Outlet) (at : Server) → Q at → Q (lends_by o at)
  lends_has None at q =
      let full : Server = framed at in
      cond_both (is_empty at.reply && is_empty at.listener.service.response) (record full { lent = outlet_of full }) (record at { lent = outlet_of at }) Q (λ e. framed_has at.frame at q) (λ e. q)
  lends_has (Some outlet) at q = q

  taken_has : (o : Option Outlet) (at : Server) → Q at → Q (server.taken_by o at)
  taken_has None at q = q
  taken_has (Some Records) at q = (q.0, inl refl)
  taken_has (Some Direct) at q = q
  taken_has (Some Muxed) at q = q

  closed_has : (psm : ℕ) (at : Server) (gift : Gift) → Q at → Q (server.closed_on psm at gift).server
  closed_has psm at gift q =
      by_psm (λ p. Q (server.closed_on p at gift).server) (q.0, inl refl) q q
      (λ p x y z. subst (λ (r : Reacted). Q r.server) (sym (cond-false _ _ _ x ∙ (cond-false _ _ _ y ∙ cond-false _ _ (let r : Reacted = record { server = at; gift = gift } in r) z))) q) psm

  unless_has : (failed : Bool) (at : Server) (gift : Gift) (after : Reacted) → Q at → Q after.server → Q (cond failed (let r : Reacted = record { server = at; gift = gift } in r) after).server
  unless_has true at gift after a b = a
  unless_has false at gift after a b = b

  twice_has : (r : Reacted) → Q r.server → Q (lets_go_twice r).server
  twice_has r q = cond_both r.server.listener.service.failed r (lets_go_on Rfcomm (remuxed (unreplied r.server)) r.gift) (λ (x : Reacted). Q x.server) (λ e. q) (λ e. (q.0, inl refl))

  -- whatever happens to it, where no other request comes
  pub reply_stays : (one : Occurrence) (at : Reacted) → ((psm : ℕ) (sdu : List ℕ) → one ≡ Came psm sdu → (psm == search_psm) ≡ true → sdu ≡ request) → Q at.server → Q (done one at).server
  reply_stays (Came psm sdu) at only q = unless_has at.server.listener.service.failed at.server at.gift (server.hears_on psm sdu at.server at.gift) q (hears_has psm sdu at.server at.gift (only psm sdu refl) q)
  reply_stays (Went psm sdu) at only q = taken_has at.server.lent at.server q
  reply_stays (Closed psm) at only q = unless_has at.server.listener.service.failed at.server at.gift (server.closed_on psm at.server at.gift) q (closed_has psm at.server at.gift q)
  reply_stays LinkDown at only q = unless_has at.server.listener.service.failed at.server at.gift (lets_go_twice (lets_go_on L2cap (unanswered at.server) at.gift)) q (twice_has (lets_go_on L2cap (unanswered at.server) at.gift) q)
  reply_stays Asked at only q = lends_has at.server.lent at.server q
  reply_stays (Answering answers) at only q = q

  -- ---- what goes there

  sdu_lent : (o : Option Outlet) (at : Server) (lent : Lent) (sdu : List ℕ) → lent_by o at ≡ Some lent → (lent.psm == search_psm) ≡ true → IsSaid lent.payload sdu → sdu ≡ at.reply
  sdu_lent None at lent sdu is here said = absurd cc
  sdu_lent (Some Records) at lent sdu is here said = by is
    where
      by : (let x : Lent = record { psm = search_psm; payload = Octets at.reply } in Some x) ≡ Some lent → sdu ≡ at.reply
      by e = let same : (let x : Lent = record { psm = search_psm; payload = Octets at.reply } in x) ≡ lent = cc in subst (λ (x : Lent). IsSaid x.payload sdu) (sym same) said
  sdu_lent (Some Direct) at lent sdu is here said = by is
    where
      by : (let x : Lent = record { psm = server.object_psm; payload = Octets at.listener.service.response } in Some x) ≡ Some lent → sdu ≡ at.reply
      by e =
          let same : (let x : Lent = record { psm = server.object_psm; payload = Octets at.listener.service.response } in x) ≡ lent = cc in
          let never : false ≡ true = ap (λ (x : Lent). x.psm == search_psm) same ∙ here in
          absurd cc
  sdu_lent (Some Muxed) at lent sdu is here said = by at.frame is
    where
      by : (frame : Option PlainFrame) → frame_lent frame ≡ Some lent → sdu ≡ at.reply
      by None e = absurd cc
      by (Some frame) e = on frame e
        where
          on : (f : PlainFrame) → frame_lent (Some f) ≡ Some lent → sdu ≡ at.reply
          on f e' =
              let never : Some false ≡ Some true = option_psm (frame_lent (Some f)) (Some lent) e' ∙ ap (λ (b : Bool). Some b) here in
              absurd cc
            where
              psm_in : Option Lent → Option Bool
              psm_in None = None
              psm_in (Some x) = Some (x.psm == search_psm)

              option_psm : (a b : Option Lent) → a ≡ b → psm_in a ≡ psm_in b
              option_psm a b same = ap psm_in same

  pub goes_there : (psm : ℕ) (sdu : List ℕ) (at : Server) → (psm == search_psm) ≡ true → IsOwn (Went psm sdu) at → Q at → IsReply serves sdu
  goes_there psm sdu at here own q =
      let lent : Lent = own.0 in
      let is : sdu ≡ at.reply = sdu_lent at.lent at lent sdu own.1 (ap (λ (n : ℕ). n == search_psm) own.2 ∙ here) own.3 in
      elim q.1 [ inl none ↦ inl (is ∙ none) | inr replied ↦ inr (is ∙ replied) ]

pub first_has : (settings : Settings) (content : Option Contents) → HasReply settings.serves (occurrences.begun settings content).server
first_has settings content = (refl, inl refl)
