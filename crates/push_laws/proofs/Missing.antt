-- Over L2CAP all that happens to a server may come, where its inbox does not lack memory: also requests that fail, and requests that are ignored.
use Rattle.std.proofs.Common.{Bool, true, false, cond, ◌≡◌, ℕ, ◌≤◌, ◌||◌, List, [], ◌∷◌, ◌++◌, length, Option, Some, None, refl, sym, ap, subst, ◌∙◌, arith}
use Rattle.std.specs.List.{AllByRecursion}
use Rattle.std.proofs.lemmas.Bool.{cond_both, cond-false}
use Rattle.link_talk.specs.bt_base.specs.declared.settings.Settings.{Settings}
use Rattle.link_talk.specs.bt_base.specs.declared.settings.Transport.{Transport}
use Rattle.link_talk.specs.bt_base.specs.declared.settings.Transport.TheVariants.{L2cap, Rfcomm}
use Rattle.link_talk.specs.bt_base.specs.Objects.{Object}
use Rattle.push_model.specs.obex_headers.specs.declared.packet.Phase.TheVariants as phase
use Rattle.push_model.specs.obex_headers.specs.Reading.{packet_in}
use Rattle.push_model.specs.rfcomm_frames.specs.FrameReading.{is_empty}
use Rattle.push_model.specs.obex_session.specs.Past.{Serving}
use Rattle.push_model.specs.obex_session.specs.Views.{rested}
use Rattle.push_model.specs.declared.outlet.Outlet.{Outlet}
use Rattle.push_model.specs.declared.outlet.Outlet.TheVariants as outlets
use Rattle.push_model.specs.Client.{own_maximum}
use Rattle.push_model.specs.Listening.{has_bad_length}
use Rattle.push_model.specs.Service.{Service, Served, response_over, is_ignored, hears_packet}
use Rattle.push_model.specs.Sessions as model
use Rattle.push_model.specs.Sessions.{Sessions, Gift, lets_go, answers_to, is_naming, hears}
use Rattle.push_model.specs.Server.{Server, Reacted, hears_on, taken_by, closed_on, lets_go_on, remuxed, unreplied, unanswered, rfcomm_psm}
use Rattle.push_laws.specs.Calls.{new_session}
use Rattle.push_laws.specs.Faults.{Marked, unmarked}
use Rattle.push_laws.specs.Laws.{new_over}
use Rattle.push_laws.specs.Occurrences.{Occurrence, Came, Went, Closed, LinkDown, Asked, Answering, done, IsOwn}
use Rattle.push_laws.specs.Parties.{NoFrame, ServesDirectly, AllServeDirectly}
use Rattle.push_laws.specs.Premises.{NoneShort, IsAlone, MayCome, AllMayMiss, new_packets}
use Rattle.push_laws.proofs.Calm.{IsCalm, first_calm, calm_more, lends_calm, is_orderly, none_muxed}
use Rattle.push_laws.proofs.Gaining.{Holds, More, holds_more, first_holds}
use Rattle.push_laws.proofs.Lending.{LendsWhole, whole_more}
use Rattle.push_laws.proofs.Readings.{unmarked_more}
use Rattle.push_laws.proofs.Servers.{by_psm}

-- ---- what a session is set to stays

abbrev pub set_by : Server → Serving
set_by server = rested server.listener.service.sessions.direct

over_set : (response : List ℕ) (service : Service) → rested (response_over L2cap response service).sessions.direct ≡ rested service.sessions.direct
over_set [] service = refl
over_set (octet ∷ octets) service = refl

heard_set : (packet : List ℕ) (sessions : Sessions) (gift : Gift) → rested (hears L2cap packet sessions gift).sessions.direct ≡ rested sessions.direct
heard_set packet sessions gift =
    let parted = lets_go Rfcomm sessions gift in
    cond_both (is_naming L2cap packet sessions) _ _ (λ (h : model.Heard). rested h.sessions.direct ≡ rested sessions.direct)
    (λ named. cond_both parted.short _ (answers_to L2cap packet parted.sessions parted.gift) (λ (h : model.Heard). rested h.sessions.direct ≡ rested sessions.direct) (λ short. refl) (λ enough. refl))
    (λ unnamed. refl)

packet_set : (packet : List ℕ) (service : Service) (gift : Gift) → rested (hears_packet L2cap packet service gift).service.sessions.direct ≡ rested service.sessions.direct
packet_set packet service gift =
    cond_both (is_ignored L2cap packet service) _ _ (λ (s : Served). rested s.service.sessions.direct ≡ rested service.sessions.direct)
    (λ ignored. refl)
    (λ taken. let h = hears L2cap packet service.sessions gift in over_set h.response (record service { sessions = h.sessions; failed = service.failed || h.short }) ∙ heard_set packet service.sessions gift)

taken_set : (outlet : Option Outlet) (server : Server) → set_by (taken_by outlet server) ≡ set_by server
taken_set None server = refl
taken_set (Some outlets.Records) server = refl
taken_set (Some outlets.Direct) server = refl
taken_set (Some outlets.Muxed) server = refl

module _ (past : List Occurrence) (at : Reacted) where
  abbrev here : Reacted
  here = record { server = at.server; gift = at.gift }

  unless : (failed : Bool) (after : Reacted) → set_by after.server ≡ set_by at.server → set_by (cond failed here after).server ≡ set_by at.server
  unless true after e = refl
  unless false after e = e

  came_set : (psm : ℕ) (sdu : List ℕ) → NoFrame (Came psm sdu) → set_by (hears_on psm sdu at.server at.gift).server ≡ set_by at.server
  came_set psm sdu =
      by_psm (λ p. NoFrame (Came p sdu) → set_by (hears_on p sdu at.server at.gift).server ≡ set_by at.server)
      (λ direct. cond_both (is_empty at.server.reply) _ _ (λ (s : Server). set_by s ≡ set_by at.server) (λ e. refl) (λ e. refl))
      (λ direct. absurd (direct refl))
      (λ direct. packet_set sdu at.server.listener.service at.gift)
      (λ p a b c direct. ap (λ (r : Reacted). set_by r.server) (cond-false _ _ _ a ∙ (cond-false _ _ _ b ∙ cond-false _ _ here c)))
      psm

  closed_set : (psm : ℕ) → set_by (closed_on psm at.server at.gift).server ≡ set_by at.server
  closed_set psm =
      by_psm (λ p. set_by (closed_on p at.server at.gift).server ≡ set_by at.server) refl refl refl
      (λ p a b c. ap (λ (r : Reacted). set_by r.server) (cond-false _ _ _ a ∙ (cond-false _ _ _ b ∙ cond-false _ _ here c)))
      psm

  down_set : (let first : Reacted = lets_go_on L2cap (unanswered at.server) at.gift in set_by (cond first.server.listener.service.failed first (lets_go_on Rfcomm (remuxed (unreplied first.server)) first.gift)).server) ≡ set_by at.server
  down_set =
      let first : Reacted = lets_go_on L2cap (unanswered at.server) at.gift in
      cond_both first.server.listener.service.failed first (lets_go_on Rfcomm (remuxed (unreplied first.server)) first.gift) (λ (r : Reacted). set_by r.server ≡ set_by at.server) (λ e. refl) (λ e. refl)

  set_more : (one : Occurrence) → NoFrame one → IsOwn one at.server → IsCalm past at.server → set_by (done one at).server ≡ set_by at.server
  set_more (Came psm sdu) direct own calm = unless at.server.listener.service.failed (hears_on psm sdu at.server at.gift) (came_set psm sdu direct)
  set_more (Went psm sdu) direct own calm = taken_set at.server.lent at.server
  set_more (Closed psm) direct own calm = unless at.server.listener.service.failed (closed_on psm at.server at.gift) (closed_set psm)
  set_more LinkDown direct own calm =
      let first : Reacted = lets_go_on L2cap (unanswered at.server) at.gift in
      unless at.server.listener.service.failed (cond first.server.listener.service.failed first (lets_go_on Rfcomm (remuxed (unreplied first.server)) first.gift)) down_set
  set_more Asked direct own calm = ap (λ (s : Service). rested s.sessions.direct) (lends_calm past at.server.lent at.server calm).service
  set_more (Answering answers) direct own calm = refl

-- ---- a server over L2CAP, whatever came

pub record Stays (settings : Settings) (before : List Object) (past : List Occurrence) (at : Reacted) : Type 0 where
  pub calm : IsCalm past at.server
  pub whole : LendsWhole at.server
  pub set : set_by at.server ≡ new_session (own_maximum L2cap settings) true
  -- it does not lack memory
  pub marks : List Marked
  pub same : unmarked marks ≡ past
  pub holds : Holds settings before marks at

module _ (settings : Settings) (before : List Object) (past : List Occurrence) (at : Reacted) where
  direct_alone : IsCalm past at.server → (packets : List (List ℕ)) → AllByRecursion (IsAlone settings past at.server.listener.service L2cap) packets
  direct_alone calm [] = tt
  direct_alone calm (packet ∷ packets) = (record { alone = λ named. calm.idle }, direct_alone calm packets)

  pub no_frame_comes : (one : Occurrence) (sdu : List ℕ) → NoFrame one → one ≡ Came rfcomm_psm sdu → ⊥
  no_frame_comes one sdu direct is = (subst NoFrame is direct) refl

  pub may_miss : (one : Occurrence) → Stays settings before past at → ServesDirectly NoneShort at one → MayCome NoneShort (IsAlone settings past at.server.listener.service) settings past at one
  may_miss one s serves =
      let later = calm_more past one at serves.direct serves.own s.calm in
      let new : new_packets Rfcomm past one ≡ [] = none_muxed past one later.quiet in
      record {
        own = serves.own;
        answers = serves.answers;
        requests = record {
          single = subst (λ (ps : List (List ℕ)). length ps ≤ 1) (sym new) (omega arith);
          heard = λ transport. heard_over new transport;
          lengths = subst (AllByRecursion (λ packet. has_bad_length (packet_in phase.Request (own_maximum Rfcomm settings) packet) ≡ false)) (sym new) tt;
        };
        frame = λ sdu is. absurd (no_frame_comes one sdu serves.direct is);
        orderly = is_orderly (done one at).server.mux later.fresh;
      }
    where
      heard_over : new_packets Rfcomm past one ≡ [] → (transport : Transport) → AllByRecursion (IsAlone settings past at.server.listener.service transport) (new_packets transport past one)
      heard_over new L2cap = direct_alone s.calm (new_packets L2cap past one)
      heard_over new Rfcomm = subst (AllByRecursion (IsAlone settings past at.server.listener.service Rfcomm)) (sym new) tt

  -- the same of what was marked
  pub may_miss_marked : (one : Occurrence) (s : Stays settings before past at) → ServesDirectly NoneShort at one → MayCome NoneShort (IsAlone settings (unmarked s.marks) at.server.listener.service) settings (unmarked s.marks) at one
  may_miss_marked one s serves = subst (λ (os : List Occurrence). MayCome NoneShort (IsAlone settings os at.server.listener.service) settings os at one) (sym s.same) (may_miss one s serves)

  -- how it is marked
  pub marking : (one : Occurrence) (s : Stays settings before past at) → ServesDirectly NoneShort at one → More settings before s.marks one at
  marking one s serves = holds_more settings before s.marks one at s.holds (may_miss_marked one s serves)

  abbrev pub marked_at : (one : Occurrence) (s : Stays settings before past at) → ServesDirectly NoneShort at one → Bool
  marked_at one s serves = (marking one s serves).refused

  pub stays_more : (one : Occurrence) → Stays settings before past at → ServesDirectly NoneShort at one → Stays settings before (past ++ one ∷ []) (done one at)
  stays_more one s serves =
      let more = marking one s serves in
      let last : Marked = record { occurrence = one; refused = more.refused } in
      record {
        calm = calm_more past one at serves.direct serves.own s.calm;
        whole = whole_more one at serves.direct s.whole;
        set = set_more past at one serves.direct serves.own s.calm ∙ s.set;
        marks = s.marks ++ last ∷ [];
        same = unmarked_more s.marks last ∙ ap (λ (os : List Occurrence). os ++ one ∷ []) s.same;
        holds = more.holds;
      }

  pub marks_later : (one : Occurrence) (s : Stays settings before past at) (serves : ServesDirectly NoneShort at one) → (stays_more one s serves).marks ≡ s.marks ++ record { occurrence = one; refused = marked_at one s serves } ∷ []
  unfolding stays_more
  marks_later one s serves = refl

pub not_lent : None ≡ Some outlets.Direct → ⊥
not_lent e = cc

abbrev pub first_stays : (settings : Settings) (before : List Object) → Stays settings before [] (new_over settings before)
first_stays settings before = record { calm = first_calm settings; whole = λ e none. not_lent e; set = refl; marks = []; same = refl; holds = first_holds settings before }

pub all_may_miss : (settings : Settings) (before : List Object) (occurrences past : List Occurrence) (at : Reacted) → Stays settings before past at → AllServeDirectly NoneShort at occurrences → AllMayMiss settings past at occurrences
all_may_miss settings before [] past at s serve = tt
all_may_miss settings before (one ∷ rest) past at s serve =
    (may_miss settings before past at one s serve.0, all_may_miss settings before rest (past ++ one ∷ []) (done one at) (stays_more settings before past at one s serve.0) serve.1)
