-- What comes to a server over RFCOMM finds room, and its multiplexer refuses nothing.
use Rattle.std.proofs.Common.{arith, inl, inr, Bool, true, false, cond, ◌≡◌, ◌⊎◌, ◌==◌, ◌-◌, ℕ, ◌||◌, List, [], ◌∷◌, ◌++◌, refl, sym, ap, subst, ◌∙◌, append-nil, append_assoc, if◌then◌else◌}
use Rattle.std.proofs.lemmas.Bool.{cond-false, eqb-true}
use Rattle.link_talk.specs.bt_base.specs.declared.settings.Settings.{Settings}
use Rattle.link_talk.specs.bt_base.specs.declared.settings.Transport.TheVariants.{L2cap, Rfcomm}
use Rattle.push_model.specs.rfcomm_frames.specs.declared.connection.Role.TheVariants.{Responder}
use Rattle.push_model.specs.rfcomm_frames.specs.FrameReading.{frame_answer}
use Rattle.rfcomm_laws.specs.Pairs.{Terms}
use Rattle.rfcomm_laws.proofs.Crossings.{offering}
use Rattle.rfcomm_laws.proofs.Rooms.{tidy_first}
use Rattle.push_model.specs.rfcomm_model.specs.ClosedSides.{IsOrderly}
use Rattle.push_model.specs.rfcomm_model.specs.Hearing.{up}
use Rattle.push_model.specs.rfcomm_frames.specs.declared.connection.Role.TheVariants.{Initiator}
use Rattle.push_model.specs.rfcomm_model.specs.Machine.{Mux, new_mux}
use Rattle.push_model.specs.rfcomm_model.specs.Sides.{AnswerFindsRoom, handed}
use Rattle.push_model.specs.declared.course.Stage.{Stage}
use Rattle.push_model.specs.declared.course.Stage.TheVariants.{Object}
use Rattle.push_model.specs.Client.{Client}
use Rattle.push_model.specs.Laws as deeds
use Rattle.push_model.specs.Server.{Server, Reacted, hears_on, closed_on, lets_go_on, lets_go_twice, remuxed, unreplied, unanswered, rfcomm_psm}
use Rattle.push_laws.specs.Carriage.{Carriage, no_carriage, come_by, gone_by, carriage_after, AreCarried, ComesOpen, StayCarried, OpensMuxed, ServesMuxed, AllServeMuxed, FrameFits, AllFramesFit, FramesFit}
use Rattle.push_laws.specs.Occurrences.{Occurrence, Came, Went, Closed, LinkDown, Asked, Answering, done}
use Rattle.push_laws.specs.Parties.{Move, OfServer, OfClient, server_side, sdu_if, NoFrame}
use Rattle.push_laws.specs.Readings.{closes}
use Rattle.push_laws.proofs.Calm.{IsCalm, calm_more, is_orderly}
use Rattle.push_laws.proofs.Carriage.{Linked, Both, On, Off, client_more}
use Rattle.push_laws.proofs.Carrying.{lends_so, came_apart, closed_apart, GoesBy, Muxedly, Apart, went_so, came_so, reset_calm, came_sound}
use Rattle.push_laws.proofs.Orders.{Order, order_first}
use Rattle.push_laws.proofs.Couples.{waiting, Coupled, Sums, no_sums, server_hears, server_orderly, server_replies, server_breaks}
use Rattle.push_laws.proofs.Late.{Anchor, anchor_of, IsLate}

-- what may happen next fits, and leaves both as they are to be
pub record Goes (anchor : Anchor) (past : List Occurrence) (client : Client) (c : Carriage) (at : Reacted) (one : Occurrence) : Type 0 where
  pub fits : FrameFits at one
  pub both : Both anchor (past ++ one ∷ []) client (carriage_after (OfServer one) client c) (done one at).server

pub no_octets : (sdu : List ℕ) → sdu ∷ [] ≡ [] → ⊥
no_octets sdu e = cc

-- ---- the channel was closed

pub none_comes : (one : Occurrence) → come_by one ≡ [] → NoFrame one
none_comes (Came psm sdu) none = λ is. no_octets sdu (sym (ap (λ (n : ℕ). sdu_if (n == rfcomm_psm) sdu) is) ∙ none)
none_comes (Went psm sdu) none = tt
none_comes (Closed psm) none = tt
none_comes LinkDown none = tt
none_comes Asked none = tt
none_comes (Answering answers) none = tt

pub off_goes : (anchor : Anchor) (past : List Occurrence) (client : Client) (c : Carriage) (at : Reacted) (one : Occurrence) → ServesMuxed at one → ComesOpen (OfServer one) c → c.closed ≡ true → IsCalm past at.server → Goes anchor past client c at one
off_goes anchor past client c at one serves opened closed calm =
    let none = opened closed in
    let later = calm_more past one at (none_comes one none) serves.own calm in
    record {
      fits = record { room = λ sdu is. absurd (no_octets sdu (sym (ap come_by is) ∙ none)); orderly = is_orderly (done one at).server.mux later.fresh };
      both = Off (ap (λ (b : Bool). b || closes rfcomm_psm one) closed) later;
    }

-- ---- the channel stands

-- what comes up of an SDU
abbrev pub up_of : Occurrence → Server → List ℕ
up_of (Came psm sdu) server = if psm == rfcomm_psm then handed (up sdu server.mux) else []
up_of (Went psm sdu) server = []
up_of (Closed psm) server = []
up_of LinkDown server = []
up_of Asked server = []
up_of (Answering answers) server = []

-- both are linked behind it, so much more was handed up, and the server is to send what its answer is besides
pub record Stands (anchor : Anchor) (client : Client) (c : Carriage) (at : Reacted) (sums : Sums) (one : Occurrence) : Type 0 where
  pub got : List ℕ
  pub replied : List ℕ
  pub linked : Linked anchor client (carriage_after (OfServer one) client c) (done one at).server (record sums { got = got; replied = replied })
  pub got_is : got ≡ sums.got ++ up_of one at.server
  pub replied_is : (come_by one ≡ [] → replied ≡ sums.replied)
      × ((done one at).server.listener.service.answer ≡ at.server.listener.service.answer → replied ≡ sums.replied)
      × (at.server.listener.service.answer ≡ [] → (come_by one ≡ []) ⊎ (replied ≡ sums.replied ++ (done one at).server.listener.service.answer))

pub data Behind (anchor : Anchor) (past : List Occurrence) (client : Client) (c : Carriage) (at : Reacted) (sums : Sums) (one : Occurrence) : Type 0 where
  Stays : closes rfcomm_psm one ≡ false → Stands anchor client c at sums one → Behind anchor past client c at sums one
  -- a call of the inbox answered want of memory
  Lacks : closes rfcomm_psm one ≡ true → (done one at).server.listener.service.failed ≡ true → Linked anchor client (carriage_after (OfServer one) client c) (done one at).server sums → Behind anchor past client c at sums one
  Ends : come_by one ≡ [] → (carriage_after (OfServer one) client c).closed ≡ true → IsCalm (past ++ one ∷ []) (done one at).server → Behind anchor past client c at sums one

-- it fits, and both go on, or the channel was closed
pub record Going (anchor : Anchor) (past : List Occurrence) (client : Client) (c : Carriage) (at : Reacted) (sums : Sums) (one : Occurrence) : Type 0 where
  pub fits : FrameFits at one
  pub behind : Behind anchor past client c at sums one

module _ (anchor : Anchor) (past : List Occurrence) (client : Client) (c : Carriage) (at : Reacted) (sums : Sums) (l : Linked anchor client c at.server sums) where
  -- none comes there
  abbrev Holds : Reacted → Type 0
  Holds r = Coupled client.mux c.sent c.come l.unheard r.server.mux r.server.frame l.rest r.server.listener.service.answer (record sums { breaks = r.server.listener.breaks })

  linked : (one : Occurrence) → come_by one ≡ [] → gone_by one ≡ [] → Holds (done one at) → Linked anchor client (carriage_after (OfServer one) client c) (done one at).server sums
  linked one none also held = record {
    heard = l.heard;
    unheard = l.unheard;
    rest = l.rest;
    coupled = subst (λ (xs : List (List ℕ)). Coupled client.mux c.sent xs l.unheard (done one at).server.mux (done one at).server.frame l.rest (done one at).server.listener.service.answer (record sums { breaks = (done one at).server.listener.breaks })) (sym (ap (λ (xs : List (List ℕ)). c.come ++ xs) none ∙ append-nil c.come)) held;
    gone_is = ap (λ (xs : List (List ℕ)). c.gone ++ xs) also ∙ (append-nil c.gone ∙ l.gone_is);
    told_is = l.told_is;
    rest_is = l.rest_is;
    late = l.late;
  }

  orderly : (r : Reacted) → Holds r → IsOrderly r.server.mux.closed
  orderly r held = server_orderly client.mux c.sent c.come l.unheard r.server.mux r.server.frame l.rest r.server.listener.service.answer (record sums { breaks = r.server.listener.breaks }) held

  no_more : (one : Occurrence) → come_by one ≡ [] → up_of one at.server ≡ [] → Linked anchor client (carriage_after (OfServer one) client c) (done one at).server sums → Stands anchor client c at sums one
  no_more one none nothing linked = record {
    got = sums.got;
    replied = sums.replied;
    linked = linked;
    got_is = sym (ap (λ (xs : List ℕ). sums.got ++ xs) nothing ∙ append-nil sums.got);
    replied_is = (λ e. refl, λ e. refl, λ free. inl none);
  }

  fitting : (one : Occurrence) → come_by one ≡ [] → Holds (done one at) → FrameFits at one
  fitting one none held = record { room = λ sdu is. absurd (no_octets sdu (sym (ap come_by is) ∙ none)); orderly = orderly (done one at) held }

  apart : (one : Occurrence) → closes rfcomm_psm one ≡ false → come_by one ≡ [] → gone_by one ≡ [] → up_of one at.server ≡ [] → Holds (done one at) → Going anchor past client c at sums one
  apart one on none also nothing held = record { fits = fitting one none held; behind = Stays on (no_more one none nothing (linked one none also held)) }

  working : (after : Reacted) → at.server.listener.service.failed ≡ false → cond at.server.listener.service.failed (let r : Reacted = record { server = at.server; gift = at.gift } in r) after ≡ after
  working after works = cond-false at.server.listener.service.failed (let r : Reacted = record { server = at.server; gift = at.gift } in r) after works

  -- a frame comes
  came_frame : (sdu : List ℕ) → at.server.listener.service.failed ≡ false → AreCarried (carriage_after (OfServer (Came rfcomm_psm sdu)) client c) → Going anchor past client c at sums (Came rfcomm_psm sdu)
  came_frame sdu works are =
      let answer : List ℕ = at.server.listener.service.answer in
      let one = server_hears client.mux c.sent c.come l.unheard at.server.mux at.server.frame l.rest answer (record sums { breaks = at.server.listener.breaks }) sdu are.front are.behind are.read are.forth l.coupled in
      let more : Sums = record sums { got = sums.got ++ handed (up sdu at.server.mux); breaks = at.server.listener.breaks } in
      let after : Reacted = done (Came rfcomm_psm sdu) at in
      let held = subst (λ (r : Reacted). Coupled client.mux c.sent (c.come ++ sdu ∷ []) l.unheard r.server.mux r.server.frame l.rest answer more) (sym (working (hears_on rfcomm_psm sdu at.server at.gift) works))
      (came_so client.mux c.sent (c.come ++ sdu ∷ []) l.unheard l.rest answer more sdu at.server at.gift one.coupled) in
      let next = server_replies client.mux c.sent (c.come ++ sdu ∷ []) l.unheard after.server.mux after.server.frame l.rest answer after.server.listener.service.answer (record more { breaks = after.server.listener.breaks })
      (server_breaks client.mux c.sent (c.come ++ sdu ∷ []) l.unheard after.server.mux after.server.frame l.rest answer more after.server.listener.breaks
      (λ e. came_sound sdu at.server at.gift (ap (λ (r : Reacted). r.server.listener.breaks) (sym (working (hears_on rfcomm_psm sdu at.server at.gift) works)) ∙ e)) held) in
      record {
        fits = record {
          room = λ other is. subst (λ (s : List ℕ). AnswerFindsRoom (frame_answer s) at.server.mux) (same_sdu other is) one.room;
          orderly = server_orderly client.mux c.sent (c.come ++ sdu ∷ []) l.unheard after.server.mux after.server.frame l.rest answer more held;
        };
        behind = Stays refl (record {
          got = more.got;
          replied = next.0;
          linked = record { heard = l.heard; unheard = l.unheard; rest = l.rest; coupled = next.1; gone_is = append-nil c.gone ∙ l.gone_is; told_is = l.told_is; rest_is = l.rest_is; late = l.late };
          got_is = refl;
          replied_is = (λ e. absurd (no_octets sdu e), λ e. next.3 e, λ free. inr (next.2 free));
        });
      }
    where
      same_sdu : (other : List ℕ) → Came rfcomm_psm sdu ≡ Came rfcomm_psm other → sdu ≡ other
      same_sdu other is = cc

  came_goes : (psm : ℕ) (sdu : List ℕ) (mine : Bool) → (psm == rfcomm_psm) ≡ mine → at.server.listener.service.failed ≡ false → AreCarried (carriage_after (OfServer (Came psm sdu)) client c) → Going anchor past client c at sums (Came psm sdu)
  came_goes psm sdu true mine works are =
      let is = eqb-true psm rfcomm_psm mine in
      subst (λ (n : ℕ). Going anchor past client c at sums (Came n sdu)) (sym is) (came_frame sdu works (subst (λ (n : ℕ). AreCarried (carriage_after (OfServer (Came n sdu)) client c)) is are))
  came_goes psm sdu false away works are =
      apart (Came psm sdu) refl (ap (λ (b : Bool). sdu_if b sdu) away) refl (ap (λ (b : Bool). if b then handed (up sdu at.server.mux) else []) away)
      (subst Holds (sym (working (hears_on psm sdu at.server at.gift) works)) (came_apart client.mux c.sent c.come l.unheard l.rest sums sdu at.server at.gift psm away l.coupled))

  -- what was lent goes
  went_goes : (psm : ℕ) (sdu : List ℕ) → ServesMuxed at (Went psm sdu) → Going anchor past client c at sums (Went psm sdu)
  went_goes psm sdu serves =
      let own = serves.own in
      by (went_so client.mux c.sent c.come l.unheard l.rest sums at.server.lent psm sdu at.server own.0 own.1 own.2 own.3 own.4 l.coupled)
    where
      by : GoesBy client.mux c.sent c.come l.unheard l.rest sums psm sdu (done (Went psm sdu) at).server → Going anchor past client c at sums (Went psm sdu)
      by (Apart away held) = apart (Went psm sdu) refl refl (ap (λ (b : Bool). sdu_if b sdu) away) refl held
      by (Muxedly is held) =
          let after : Server = (done (Went psm sdu) at).server in
          record {
            fits = record {
              room = λ other came. let f : Went psm sdu ≡ Came rfcomm_psm other = came in absurd cc;
              orderly = server_orderly client.mux c.sent c.come (l.unheard ++ sdu ∷ []) after.mux after.frame l.rest after.listener.service.answer (record sums { breaks = after.listener.breaks }) held;
            };
            behind = Stays refl (no_more (Went psm sdu) refl refl (record {
              heard = l.heard;
              unheard = l.unheard ++ sdu ∷ [];
              rest = l.rest;
              coupled = subst (λ (xs : List (List ℕ)). Coupled client.mux c.sent xs (l.unheard ++ sdu ∷ []) after.mux after.frame l.rest after.listener.service.answer (record sums { breaks = after.listener.breaks })) (sym (append-nil c.come)) held;
              gone_is = ap (λ (n : ℕ). c.gone ++ sdu_if (n == rfcomm_psm) sdu) is ∙ (ap (λ (xs : List (List ℕ)). xs ++ sdu ∷ []) l.gone_is ∙ append_assoc l.heard l.unheard (sdu ∷ []));
              told_is = l.told_is;
              rest_is = l.rest_is;
              late = l.late;
            }));
          }

  -- its channel is closed
  role : at.server.mux.role ≡ Responder
  role = let o = l.coupled in subst (λ (m : Mux). m.role ≡ Responder) o.mux_is o.tidy.crossing.back.role

  or_true : (b : Bool) → (b || true) ≡ true
  or_true true = refl
  or_true false = refl

  closing : (one : Occurrence) → closes rfcomm_psm one ≡ true → come_by one ≡ [] → IsCalm (past ++ one ∷ []) (done one at).server → Going anchor past client c at sums one
  closing one closed none calm = record {
    fits = record { room = λ sdu is. absurd (no_octets sdu (sym (ap come_by is) ∙ none)); orderly = is_orderly (done one at).server.mux calm.fresh };
    behind = Ends none (ap (λ (b : Bool). c.closed || b) closed ∙ or_true c.closed) calm;
  }

  closed_goes : (psm : ℕ) (mine : Bool) → (psm == rfcomm_psm) ≡ mine → at.server.listener.service.failed ≡ false → Going anchor past client c at sums (Closed psm)
  closed_goes psm true mine works =
      let is = eqb-true psm rfcomm_psm mine in
      subst (λ (n : ℕ). Going anchor past client c at sums (Closed n)) (sym is)
      (closing (Closed rfcomm_psm) refl refl
      (subst (λ (r : Reacted). IsCalm (past ++ Closed rfcomm_psm ∷ []) r.server) (sym (working (closed_on rfcomm_psm at.server at.gift) works)) (reset_calm past (Closed rfcomm_psm) at.server at.gift role refl)))
  closed_goes psm false away works =
      apart (Closed psm) away refl refl refl (subst Holds (sym (working (closed_on psm at.server at.gift) works)) (closed_apart client.mux c.sent c.come l.unheard l.rest sums at.server at.gift psm away l.coupled))

  -- its link goes down
  pub down_goes : at.server.listener.service.failed ≡ false → Going anchor past client c at sums LinkDown
  down_goes works = by first.server.listener.service.failed refl
    where
      first : Reacted
      first = lets_go_on L2cap (unanswered at.server) at.gift

      is_down : (failed : Bool) → first.server.listener.service.failed ≡ failed → done LinkDown at ≡ cond failed first (lets_go_on Rfcomm (remuxed (unreplied first.server)) first.gift)
      is_down failed is = working (lets_go_twice first) works ∙ ap (λ (b : Bool). cond b first (lets_go_on Rfcomm (remuxed (unreplied first.server)) first.gift)) is

      by : (failed : Bool) → first.server.listener.service.failed ≡ failed → Going anchor past client c at sums LinkDown
      by true is =
          let held = subst Holds (sym (is_down true is)) l.coupled in
          record { fits = fitting LinkDown refl held; behind = Lacks refl (ap (λ (r : Reacted). r.server.listener.service.failed) (is_down true is) ∙ is) (linked LinkDown refl refl held) }
      by false is =
          closing LinkDown refl refl
          (subst (λ (r : Reacted). IsCalm (past ++ LinkDown ∷ []) r.server) (sym (is_down false is)) (reset_calm past LinkDown (unreplied first.server) first.gift role refl))

  pub on_goes : (one : Occurrence) → ServesMuxed at one → AreCarried (carriage_after (OfServer one) client c) → Going anchor past client c at sums one
  on_goes (Came psm sdu) serves are = came_goes psm sdu (psm == rfcomm_psm) refl serves.works are
  on_goes (Went psm sdu) serves are = went_goes psm sdu serves
  on_goes (Closed psm) serves are = closed_goes psm (psm == rfcomm_psm) refl serves.works
  on_goes LinkDown serves are = down_goes serves.works
  on_goes Asked serves are = apart Asked refl refl refl refl (lends_so client.mux c.sent c.come l.unheard l.rest sums at.server.lent at.server l.coupled)
  on_goes (Answering answers) serves are = apart (Answering answers) refl refl refl refl l.coupled

-- ---- all that happens

both_of : (anchor : Anchor) (past : List Occurrence) (client : Client) (c : Carriage) (at : Reacted) (sums : Sums) (one : Occurrence) → Behind anchor past client c at sums one → Both anchor (past ++ one ∷ []) client (carriage_after (OfServer one) client c) (done one at).server
both_of anchor past client c at sums one (Stays on s) = On _ s.linked
both_of anchor past client c at sums one (Lacks closing failed linked) = On sums linked
both_of anchor past client c at sums one (Ends none closed calm) = Off closed calm

pub goes : (anchor : Anchor) (past : List Occurrence) (client : Client) (c : Carriage) (at : Reacted) (one : Occurrence) → ServesMuxed at one → AreCarried (carriage_after (OfServer one) client c) → ComesOpen (OfServer one) c → Both anchor past client c at.server
    → Goes anchor past client c at one
goes anchor past client c at one serves are opened (On sums l) = let g = on_goes anchor past client c at sums l one serves are in record { fits = g.fits; both = both_of anchor past client c at sums one g.behind }
goes anchor past client c at one serves are opened (Off closed calm) = off_goes anchor past client c at one serves opened closed calm

pub deed_goes : (anchor : Anchor) → anchor.transport ≡ Rfcomm → anchor.psm ≡ rfcomm_psm → (past : List Occurrence) (client : Client) (c : Carriage) (at : Server) (deed : deeds.Deed) → AreCarried (carriage_after (OfClient deed) client c) → Both anchor past client c at
    → Both anchor past (deeds.done deed client) (carriage_after (OfClient deed) client c) at
deed_goes anchor muxed there past client c at deed are (On sums l) = (let f = client_more anchor muxed there at client c sums l deed are in On _ f.linked)
deed_goes anchor muxed there past client c at deed are (Off closed calm) = Off closed calm

all_fit : (anchor : Anchor) → anchor.transport ≡ Rfcomm → anchor.psm ≡ rfcomm_psm → (moves : List Move) (past : List Occurrence) (client : Client) (c : Carriage) (at : Reacted) → AllServeMuxed at (server_side moves) → StayCarried moves client c → Both anchor past client c at.server
    → AllFramesFit at (server_side moves)
all_fit anchor muxed there [] past client c at serve carried b = tt
all_fit anchor muxed there (OfServer one ∷ moves) past client c at serve carried b =
    let g = goes anchor past client c at one serve.0 carried.0 carried.1 b in
    (g.fits, all_fit anchor muxed there moves (past ++ one ∷ []) client (carriage_after (OfServer one) client c) (done one at) serve.1 carried.2 g.both)
all_fit anchor muxed there (OfClient deed ∷ moves) past client c at serve carried b =
    all_fit anchor muxed there moves past (deeds.done deed client) (carriage_after (OfClient deed) client c) at serve carried.2 (deed_goes anchor muxed there past client c at.server deed carried.0 b)

-- ---- where they begin

terms : (settings : Settings) (client : Client) (at : Server) → OpensMuxed settings client at → Terms
terms settings client at o =
    let mtu_low = settings.mtu_low in
    let mtu_high = settings.mtu_high in
    record {
      dlci = 18;
      some = omega arith;
      few = omega arith;
      own = o.own;
      own_peer = settings.mtu - 6;
      least = o.least;
      least_peer = omega (arith, mtu_low);
      most = o.most;
      most_peer = omega (arith, mtu_high);
      cap = o.cap;
      cap_peer = settings.credits;
      cap_least = o.some;
      cap_peer_least = settings.credits_low;
      cap_most = o.few;
      cap_peer_most = settings.credits_high;
    }

pub late_at : (stage : Stage) → stage ≡ Object → IsLate stage
late_at stage is = subst IsLate (sym is) tt

pub frames-fit : FramesFit
unfolding terms
frames-fit settings client at moves o serve carried =
    let t = terms settings client at.server o in
    all_fit (anchor_of client) o.muxed o.there moves [] client no_carriage at serve carried
    (On (record no_sums { asked = client.rest; replied = at.server.listener.service.answer }) (record {
      heard = [];
      unheard = [];
      rest = client.rest;
      coupled = record {
        pair = offering t o.largest;
        tidy = tidy_first t o.largest;
        own_is = sym o.mux;
        mux_is = sym o.server_mux;
        front = [];
        come_are = tt;
        sent_is = refl;
        frames = [];
        unheard_are = tt;
        queue_is = sym (ap waiting o.none_waits);
        asked_is = refl;
        got_is = refl;
        replied_is = refl;
        told_is = refl;
        order = λ e. subst (λ (m : Mux). Order m [] at.server.mux []) (sym o.mux)
            (subst (λ (m : Mux). Order (new_mux Initiator 18 o.largest o.own o.cap) [] m []) (sym o.server_mux) (order_first o.largest o.own (settings.mtu - 6) o.cap settings.credits));
      };
      gone_is = refl;
      told_is = λ works. refl;
      rest_is = λ works. refl;
      late = (late_at client.stage o.here, refl);
    }))
