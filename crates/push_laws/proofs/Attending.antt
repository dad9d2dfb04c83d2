-- What comes to a server over RFCOMM while one request is under way at most: no request is ignored, and its length is not refused.
use Rattle.std.proofs.Common.{inl, inr, Bool, true, false, ◌≡◌, ◌==◌, ◌≤◌, ◌<◌, ◌-◌, ℕ, List, [], ◌∷◌, ◌++◌, length, Option, Some, None, refl, sym, ap, ap₂, subst, ◌∙◌, arith, append-nil, append_assoc, length-append, if◌then◌else◌}
use Rattle.std.specs.List.{AllByRecursion}
use Rattle.std.proofs.lemmas.Bool.{cond-false, cases_lt}
use Rattle.std.proofs.Math.Seq.{drop-nil}
use Rattle.link_talk.specs.bt_base.specs.declared.settings.Settings.{Settings}
use Rattle.link_talk.specs.bt_base.specs.declared.settings.Transport.TheVariants.{Rfcomm}
use Rattle.link_talk.specs.bt_base.specs.Objects.{Object as Stored}
use Rattle.link_talk.specs.bt_base.specs.Octets.{IsOctets}
use Rattle.push_model.specs.rfcomm_frames.specs.declared.connection.Role.TheVariants.{Initiator, Responder}
use Rattle.push_model.specs.rfcomm_frames.specs.FrameReading.{frame_answer}
use Rattle.push_model.specs.rfcomm_frames.specs.Frames.{PlainFrame}
use Rattle.push_model.specs.rfcomm_frames.specs.Multiplexing.{Passed}
use Rattle.push_model.specs.rfcomm_frames.specs.ObexPackets.{IsPacket, HasNoPacket, obex_packets}
use Rattle.push_model.specs.rfcomm_frames.specs.UserChannel.{user_octets}
use Rattle.push_model.specs.rfcomm_frames.proofs.ObexSplits.{obex_packets-one}
use Rattle.push_model.specs.rfcomm_model.specs.ClosedSides.{IsOrderly}
use Rattle.push_model.specs.rfcomm_model.specs.Hearing as hearing
use Rattle.push_model.specs.rfcomm_model.specs.Hearing.{Up, nothing, opened, bytes, closed, up}
use Rattle.push_model.specs.rfcomm_model.specs.Machine.{Mux}
use Rattle.push_model.specs.rfcomm_model.specs.Sides.{AnswerFindsRoom, handed}
use Rattle.link_talk.specs.Gains.{beyond}
use Rattle.push_model.specs.declared.outlet.Outlet.{Outlet}
use Rattle.push_model.specs.declared.outlet.Outlet.TheVariants.{Records, Direct, Muxed}
use Rattle.push_model.specs.Client.{own_maximum}
use Rattle.push_model.specs.Listening.{heeds_carried, hears_stream}
use Rattle.push_model.specs.Payloads.{Payload, Framed, IsSaid}
use Rattle.push_model.specs.Sessions.{Gift}
use Rattle.push_model.specs.Server.{Server, Reacted, Lent, hears_on, hears_up, frame_lent, lent_by, rfcomm_psm}
use Rattle.push_laws.specs.Carriage.{come_by}
use Rattle.push_laws.specs.Occurrences.{Occurrence, Came, Went, Closed, LinkDown, Asked, Answering, done, IsOwn}
use Rattle.push_laws.specs.Parties.{sdu_if}
use Rattle.push_laws.specs.Premises.{new_packets, may_overtake}
use Rattle.push_laws.specs.Readings.{closes, passed_by, octets_heard}
use Rattle.push_laws.proofs.Exchanging.{IsLess, same_rest, joined_more}
use Rattle.push_laws.proofs.Driving.{joined}
use Rattle.push_laws.proofs.Frames.{Carries, carries_read, carries_came, carries_went}
use Rattle.push_laws.proofs.Gaining.{Holds}
use Rattle.push_laws.proofs.Listening.{GoesOn, IsCut, joined_is}
use Rattle.push_laws.proofs.Parsing.{server_less, server_all}
use Rattle.push_laws.proofs.Readings.{read_more, read_same, read_closed, drop_front, drop_same}
use Rattle.push_laws.proofs.Requesting.{IsRequest, request_packet}
use Rattle.push_laws.proofs.Running.{passed}
use Rattle.push_laws.proofs.Servers.{up_keeps}
use Rattle.push_laws.proofs.Streams.{hears_partial, front_size, no_packets}
use Rattle.push_laws.specs.Faults.{Marked, unmarked, heard_over}

-- ---- a server, with what it heard over RFCOMM

pub record Holding (settings : Settings) (past : List Occurrence) (at : Reacted) : Type 0 where
  pub works : at.server.listener.service.failed ≡ false
  pub carries : Carries (settings.mtu - 6) settings.credits (passed past) (octets_heard past) at.server.mux at.server.frame
  pub held : at.server.listener.breaks ≡ false → octets_heard past ≡ joined (obex_packets (octets_heard past)) ++ at.server.held
  pub maximum : at.server.listener.service.sessions.carried.maximum ≡ own_maximum Rfcomm settings

pub holding_of : (settings : Settings) (before : List Stored) (marks : List Marked) (at : Reacted) → Holds settings before marks at → Holding settings (unmarked marks) at
holding_of settings before marks at h =
    let u = h.upholds in
    let l = u.listens in
    record {
      works = l.serves.enough;
      carries = subst (λ (xs : List ℕ). Carries (settings.mtu - 6) settings.credits (passed (unmarked marks)) xs at.server.mux at.server.frame) (sym h.heard) u.carries;
      held = λ unbroken.
          let cut : GoesOn (own_maximum Rfcomm settings) (heard_over Rfcomm marks) h.got at.server.held l.tail = subst (IsCut (own_maximum Rfcomm settings) (heard_over Rfcomm marks) h.got at.server.held l.tail) unbroken l.cut in
          h.heard ∙ cut.whole ∙ ap (λ (xs : List ℕ). xs ++ at.server.held) (sym (joined_is (heard_over Rfcomm marks)) ∙ ap joined (l.packets ∙ ap obex_packets (sym h.heard)));
      maximum = l.serves.stands.maxima Rfcomm;
    }

-- ---- which packets are whole

no_packet : (most : ℕ) (left : List ℕ) → IsLess most left → HasNoPacket left
no_packet most left (inl none) = inl (let len = ap length none in omega (arith, len))
no_packet most left (inr more) =
    elim (cases_lt (length left) 3) [
      | inl short ↦ inl short
      | inr long ↦
          let is = request_packet most (left ++ more.0) more.2 in
          let size = front_size left more.0 long in
          let all = length-append left more.0 in
          let same = is.1 in
          let least = some_more more.0 more.1 in
          inr (inr (omega (arith, size, all, same, least)))
    ]
  where
    some_more : (xs : List ℕ) → (xs ≡ [] → ⊥) → 0 < length xs
    some_more [] some = absurd (some refl)
    some_more (x ∷ xs) some = omega arith

no_tail : (left ys : List ℕ) → left ++ ys ≡ [] → left ≡ []
no_tail [] ys e = refl
no_tail (x ∷ left) ys e = absurd cc

no_head : (xs ys : List ℕ) → xs ++ ys ≡ [] → ys ≡ []
no_head [] ys e = e
no_head (x ∷ xs) ys e = absurd cc

pub less_before : (most : ℕ) (left ys : List ℕ) → IsLess most (left ++ ys) → IsLess most left
less_before most left ys (inl none) = inl (no_tail left ys none)
less_before most left ys (inr more) = inr (ys ++ more.0, (λ e. more.1 (no_head ys more.0 e)), subst (IsRequest most) (append_assoc left ys more.0) more.2)

packets_are : (most : ℕ) (got left : List ℕ) (packets : List (List ℕ)) → AllByRecursion IsPacket packets → got ≡ joined packets ++ left → IsLess most left → obex_packets got ≡ packets
packets_are most got left packets sound whole less = sym (obex_packets-one got packets (record { rest = left; whole = whole; each = sound; no_more = no_packet most left less }))

all_more : (packets : List (List ℕ)) (packet : List ℕ) → AllByRecursion IsPacket packets → IsPacket packet → AllByRecursion IsPacket (packets ++ packet ∷ [])
all_more [] packet sound is = (is, tt)
all_more (first ∷ packets) packet sound is = (sound.0, all_more packets packet sound.1 is)

pub sound_more : (most : ℕ) (packets : List (List ℕ)) (packet : List ℕ) → AllByRecursion IsPacket packets → IsRequest most packet → AllByRecursion IsPacket (packets ++ packet ∷ [])
sound_more most packets packet sound request = all_more packets packet sound (request_packet most packet request)

-- ---- what comes up to its listener

module _ (most : ℕ) (server : Server) (gift : Gift) (unbroken : server.listener.breaks ≡ false) (maximum : server.listener.service.sessions.carried.maximum ≡ most) where
  within : (stream : List ℕ) → IsRequest most stream → length stream ≤ server.listener.service.sessions.carried.maximum
  within stream request = let less = request.within in omega (arith, less, maximum)

  stream_less : (steps : ℕ) (stream : List ℕ) → IsLess most stream → (hears_stream steps stream server.listener gift).listener ≡ server.listener
  stream_less steps stream (inl none) = ap (λ r. r.listener) (hears_partial steps stream server.listener gift (inl (let len = ap length none in omega (arith, len))))
  stream_less steps stream (inr more) = ap (λ r. r.listener) (server_less steps stream more.0 server.listener gift (request_packet most (stream ++ more.0) more.2) (within (stream ++ more.0) more.2) more.1)

  octets_are : (octets : List ℕ) → (hears_up (bytes octets) server gift).server.listener ≡ (hears_stream (length (server.held ++ octets)) (server.held ++ octets) server.listener gift).listener
  octets_are octets = ap (λ (r : Reacted). r.server.listener) (cond-false server.listener.breaks (let r : Reacted = record { server = server; gift = gift } in r) _ unbroken)

  pub up_less : (u : Up) → IsLess most (server.held ++ handed u) → (hears_up u server gift).server.listener ≡ server.listener
  up_less nothing less = refl
  up_less opened less = refl
  up_less (closed reason) less = refl
  up_less (bytes octets) less = octets_are octets ∙ stream_less (length (server.held ++ octets)) (server.held ++ octets) less

  pub up_whole : (u : Up) → (handed u ≡ [] → ⊥) → IsRequest most (server.held ++ handed u) → (hears_up u server gift).server.listener ≡ (heeds_carried (server.held ++ handed u) server.listener gift).listener
  up_whole nothing some request = absurd (some refl)
  up_whole opened some request = absurd (some refl)
  up_whole (closed reason) some request = absurd (some refl)
  up_whole (bytes octets) some request =
      octets_are octets ∙ server_all (length (server.held ++ octets)) (server.held ++ octets) server.listener gift (request_packet most (server.held ++ octets) request) (within (server.held ++ octets) request) (omega arith)

-- ---- what was heard with one occurrence more

heard_read : (a b : List Passed) → a ≡ b → user_octets 18 Responder Initiator a ≡ user_octets 18 Responder Initiator b
heard_read a b e = ap (user_octets 18 Responder Initiator) e

module _ (settings : Settings) (past : List Occurrence) (at : Reacted) (h : Holding settings past at) where
  pub same_done : (sdu : List ℕ) → done (Came rfcomm_psm sdu) at ≡ hears_on rfcomm_psm sdu at.server at.gift
  same_done sdu = cond-false at.server.listener.service.failed (let r : Reacted = record { server = at.server; gift = at.gift } in r) (hears_on rfcomm_psm sdu at.server at.gift) h.works

  pub came_octets : (sdu : List ℕ) → AnswerFindsRoom (frame_answer sdu) at.server.mux → may_overtake (frame_answer sdu) at.server.frame ≡ true → IsOrderly (done (Came rfcomm_psm sdu) at).server.mux.closed
      → octets_heard (past ++ Came rfcomm_psm sdu ∷ []) ≡ octets_heard past ++ handed (up sdu at.server.mux)
  came_octets sdu room behind orderly =
      let on : List Passed = passed past ++ record { from = Initiator; sdu = sdu } ∷ [] in
      let octets : List ℕ = octets_heard past ++ handed (up sdu at.server.mux) in
      let server : Server = record (at.server) { mux = hearing.hears sdu at.server.mux } in
      let more : passed (past ++ Came rfcomm_psm sdu ∷ []) ≡ on = read_more passed_by rfcomm_psm past (Came rfcomm_psm sdu) refl in
      let carries = carries_came (settings.mtu - 6) settings.credits (passed past) (octets_heard past) at.server.mux at.server.frame sdu h.carries room behind in
      let calm : IsOrderly (hearing.hears sdu at.server.mux).closed = subst (λ (m : Mux). IsOrderly m.closed) (ap (λ (r : Reacted). r.server.mux) (same_done sdu) ∙ up_keeps (up sdu at.server.mux) server at.gift) orderly in
      heard_read (passed (past ++ Came rfcomm_psm sdu ∷ [])) on more ∙ carries_read (settings.mtu - 6) settings.credits on octets (hearing.hears sdu at.server.mux) at.server.frame carries calm

  same_lent : (a b : Lent) → Some a ≡ Some b → a ≡ b
  same_lent a b e = cc

  no_lent : (lent : Lent) → None ≡ Some lent → ⊥
  no_lent lent e = cc

  unpassed : (one : Occurrence) → closes rfcomm_psm one ≡ false → passed_by one ≡ None → octets_heard (past ++ one ∷ []) ≡ octets_heard past
  unpassed one on none = heard_read (passed (past ++ one ∷ [])) (passed past) (read_same passed_by rfcomm_psm past one on none)

  apart_went : (psm : ℕ) (sdu : List ℕ) (lent : Lent) → (lent.psm == rfcomm_psm) ≡ false → lent.psm ≡ psm → octets_heard (past ++ Went psm sdu ∷ []) ≡ octets_heard past
  apart_went psm sdu lent away is = unpassed (Went psm sdu) refl (ap (λ (b : Bool). if b then Some (let p : Passed = record { from = Responder; sdu = sdu } in p) else None) (ap (λ (n : ℕ). n == rfcomm_psm) (sym is) ∙ away))

  frame_went : (frame : Option PlainFrame) (psm : ℕ) (sdu : List ℕ) (lent : Lent) → at.server.frame ≡ frame → frame_lent frame ≡ Some lent → lent.psm ≡ psm → IsSaid lent.payload sdu → IsOctets sdu → IsOrderly at.server.mux.closed
      → octets_heard (past ++ Went psm sdu ∷ []) ≡ octets_heard past
  frame_went None psm sdu lent f e p said octets orderly = absurd (no_lent lent e)
  frame_went (Some frame) psm sdu lent f e p said octets orderly =
      let is = same_lent (record { psm = rfcomm_psm; payload = Framed frame }) lent e in
      let shortest = subst (λ (payload : Payload). IsSaid payload sdu) (sym (ap (λ (l : Lent). l.payload) is)) said in
      let carries = carries_went (settings.mtu - 6) settings.credits (passed past) (octets_heard past) at.server.mux frame sdu
      (subst (λ (o : Option PlainFrame). Carries (settings.mtu - 6) settings.credits (passed past) (octets_heard past) at.server.mux o) f h.carries) octets shortest.spelling in
      let on : List Passed = passed past ++ record { from = Responder; sdu = sdu } ∷ [] in
      subst (λ (n : ℕ). octets_heard (past ++ Went n sdu ∷ []) ≡ octets_heard past) (ap (λ (l : Lent). l.psm) is ∙ p)
      (heard_read (passed (past ++ Went rfcomm_psm sdu ∷ [])) on (read_more passed_by rfcomm_psm past (Went rfcomm_psm sdu) refl) ∙ carries_read (settings.mtu - 6) settings.credits on (octets_heard past) at.server.mux None carries orderly)

  went_octets : (o : Option Outlet) (psm : ℕ) (sdu : List ℕ) (lent : Lent) → lent_by o at.server ≡ Some lent → lent.psm ≡ psm → IsSaid lent.payload sdu → IsOctets sdu → IsOrderly at.server.mux.closed → octets_heard (past ++ Went psm sdu ∷ []) ≡ octets_heard past
  went_octets None psm sdu lent e p said octets orderly = absurd (no_lent lent e)
  went_octets (Some Records) psm sdu lent e p said octets orderly = apart_went psm sdu lent (ap (λ (l : Lent). l.psm == rfcomm_psm) (sym (same_lent _ lent e))) p
  went_octets (Some Direct) psm sdu lent e p said octets orderly = apart_went psm sdu lent (ap (λ (l : Lent). l.psm == rfcomm_psm) (sym (same_lent _ lent e))) p
  went_octets (Some Muxed) psm sdu lent e p said octets orderly = frame_went at.server.frame psm sdu lent refl e p said octets orderly

  -- where no frame comes and the channel stands
  pub same_octets : (one : Occurrence) → closes rfcomm_psm one ≡ false → come_by one ≡ [] → IsOwn one at.server → IsOrderly at.server.mux.closed → octets_heard (past ++ one ∷ []) ≡ octets_heard past
  same_octets (Came psm sdu) on none own orderly = unpassed (Came psm sdu) refl (away (psm == rfcomm_psm) none)
    where
      away : (mine : Bool) → sdu_if mine sdu ≡ [] → (if mine then Some (let p : Passed = record { from = Initiator; sdu = sdu } in p) else None) ≡ None
      away true e = absurd cc
      away false e = refl
  same_octets (Went psm sdu) on none own orderly = went_octets at.server.lent psm sdu own.0 own.1 own.2 own.3 own.4 orderly
  same_octets (Closed psm) on none own orderly = unpassed (Closed psm) on refl
  same_octets LinkDown on none own orderly = absurd (let f : true ≡ false = on in cc)
  same_octets Asked on none own orderly = unpassed Asked refl refl
  same_octets (Answering answers) on none own orderly = unpassed (Answering answers) refl refl

-- ---- new packets

pub none_new : (past : List Occurrence) (one : Occurrence) → octets_heard (past ++ one ∷ []) ≡ octets_heard past → new_packets Rfcomm past one ≡ []
none_new past one same = ap (λ (xs : List ℕ). beyond (obex_packets (octets_heard past)) (obex_packets xs)) same ∙ drop_same (obex_packets (octets_heard past))

pub none_closed : (past : List Occurrence) (one : Occurrence) → closes rfcomm_psm one ≡ true → new_packets Rfcomm past one ≡ []
none_closed past one closing =
    ap (λ (xs : List Passed). beyond (obex_packets (octets_heard past)) (obex_packets (user_octets 18 Responder Initiator xs))) (read_closed passed_by rfcomm_psm past one closing)
    ∙ ap (beyond (obex_packets (octets_heard past))) no_packets ∙ drop-nil (length (obex_packets (octets_heard past)))

module _ (most : ℕ) (past : List Occurrence) (sdu : List ℕ) (packets : List (List ℕ)) (sound : AllByRecursion IsPacket packets) (left ys : List ℕ) (whole : octets_heard past ≡ joined packets ++ left)
    (more : octets_heard (past ++ Came rfcomm_psm sdu ∷ []) ≡ octets_heard past ++ ys) where
  all : octets_heard (past ++ Came rfcomm_psm sdu ∷ []) ≡ joined packets ++ (left ++ ys)
  all = more ∙ ap (λ (xs : List ℕ). xs ++ ys) whole ∙ append_assoc (joined packets) left ys

  pub new_less : IsLess most (left ++ ys) → new_packets Rfcomm past (Came rfcomm_psm sdu) ≡ []
  new_less less =
      ap₂ beyond (packets_are most (octets_heard past) left packets sound whole (less_before most left ys less)) (packets_are most (octets_heard (past ++ Came rfcomm_psm sdu ∷ [])) (left ++ ys) packets sound all less)
      ∙ drop_same packets

  pub new_whole : (ys ≡ [] → ⊥) → IsRequest most (left ++ ys) → new_packets Rfcomm past (Came rfcomm_psm sdu) ≡ (left ++ ys) ∷ []
  new_whole some request =
      ap₂ beyond (packets_are most (octets_heard past) left packets sound whole (inr (ys, some, request)))
      (packets_are most (octets_heard (past ++ Came rfcomm_psm sdu ∷ [])) [] (packets ++ (left ++ ys) ∷ []) (sound_more most packets (left ++ ys) sound request)
      (all ∙ sym (joined_more packets (left ++ ys)) ∙ sym (append-nil (joined (packets ++ (left ++ ys) ∷ [])))) (inl refl))
      ∙ drop_front packets ((left ++ ys) ∷ [])

  -- what the server holds is what is left
  pub held_is : IsLess most left → (held : List ℕ) → octets_heard past ≡ joined (obex_packets (octets_heard past)) ++ held → held ≡ left
  held_is less held e = same_rest (joined packets) held left (sym (e ∙ ap (λ (ps : List (List ℕ)). joined ps ++ held) (packets_are most (octets_heard past) left packets sound whole less)) ∙ whole)
