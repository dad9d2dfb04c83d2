-- The requests that are under way from a client to its server over L2CAP, and the response on its way back.
use Rattle.std.proofs.Common.{Bool, true, false, ◌≡◌, ℕ, ◌+◌, ◌-◌, ◌<◌, ◌≤◌, ◌^◌, ◌⊎◌, inl, inr, List, [], ◌∷◌, ◌++◌, length, Option, Some, None, is_none, refl, sym, ap, subst, ◌∙◌, arith, append-nil, drop, min, nat_le}
use Rattle.std.specs.Prelude.{IfSome}
use Rattle.std.proofs.Math.Seq.{take-append_seam}
use Rattle.link_talk.specs.bt_base.specs.Objects.{Object, HasAt, octets_of}
use Rattle.push_model.specs.obex_headers.specs.declared.packet.Phase.TheVariants as phase
use Rattle.push_model.specs.obex_headers.specs.Packets.{PlainHeader, PlainPacket, IsPacket, header_octets, headers_octets, packet_octets, text_octets}
use Rattle.push_model.specs.obex_headers.specs.Runs.{joined}
use Rattle.push_model.specs.obex_headers.proofs.PacketLaws.{length-packet}
use Rattle.push_model.specs.obex_session.specs.declared.asking.Request.{Request}
use Rattle.push_model.specs.obex_session.specs.declared.asking.Request.TheVariants as requests
use Rattle.push_model.specs.obex_session.specs.declared.client.Answered.TheVariants.{Go}
use Rattle.push_model.specs.obex_session.specs.declared.course.Course.TheVariants.{Runs}
use Rattle.push_model.specs.obex_session.specs.declared.course.Progress.TheVariants.{Filled}
use Rattle.push_model.specs.obex_session.specs.Asking.{Asking}
use Rattle.push_model.specs.obex_session.specs.NextPut.{is_waiting, put_request, after_put, left_of, room_for}
use Rattle.push_model.specs.obex_session.specs.ObjectPuts.{HasPut, place_behind}
use Rattle.push_model.specs.obex_session.specs.Past.{Serving}
use Rattle.push_model.specs.obex_session.specs.PutPackets.{units_in, head_with, head_of, body_header, put_packet, ahead_of, place_of}
use Rattle.push_model.specs.obex_session.specs.Views.{asks_connect, is_silent, answer_at, after_at}
use Rattle.push_model.specs.obex_session.proofs.ModeLaws.{heard, response_to, InMode, Begins, not_in_mode, limit_after, is_first_put, off_after, connects_well, begins_well, streams_well}
use Rattle.push_model.specs.obex_session.proofs.ObjectLaws.{put_of}
use Rattle.push_model.specs.obex_session.proofs.PutPacketLaws.{head_at}
use Rattle.push_model.specs.declared.course.Contact.{Contact}
use Rattle.push_model.specs.declared.course.Contact.TheVariants.{Unmet, Met}
use Rattle.push_model.specs.Steps.{connect_octets}

-- nothing is under way: a client that is connected sends no packet that is too long for its server
pub record Settled (contact : Contact) (session : Asking) (server : Serving) : Type 0 where
  pub fits : contact ≡ Met → session.limit ≤ server.maximum
  pub mode : InMode session.single session.put server.course

-- so it is once the client has heard the response
pub record Readies (contact : Contact) (session : Asking) (response : List ℕ) (server : Serving) : Type 0 where
  pub keeps : contact ≡ Met → (after_at session.awaited session response).limit ≤ server.maximum
  pub meets : contact ≡ Unmet → answer_at session.awaited session response ≡ Some Go → (after_at session.awaited session response).limit ≤ server.maximum
  pub mode : InMode (after_at session.awaited session response).single (after_at session.awaited session response).put server.course

-- requests are under way: each is heard in silence, but for the last, to which the client awaits a response
abbrev pub Flows : Contact → Asking → List (List ℕ) → Serving → Type 0
Flows contact session [] server = (is_waiting session.awaited ≡ true) ⊎ Settled contact session server
Flows contact session (packet ∷ packets) server =
    ((is_silent server packet ≡ true) × Flows contact session packets (heard server packet))
    ⊎ ((packets ≡ []) × (is_waiting session.awaited ≡ true) × ((response_to server packet ≡ []) ⊎ Readies contact session (response_to server packet) (heard server packet)))

not_both : (b : Bool) → b ≡ true → b ≡ false → ⊥
not_both true e f = cc
not_both false e f = cc

-- a request more, which is sent where none waits
pub flows_more : (contact contact' : Contact) (session session' : Asking) (packets : List (List ℕ)) (packet : List ℕ) (server : Serving) → is_waiting session.awaited ≡ false
    → ((next : Serving) → next.maximum ≡ server.maximum → Settled contact session next → Flows contact' session' (packet ∷ []) next) → Flows contact session packets server → Flows contact' session' (packets ++ packet ∷ []) server
flows_more contact contact' session session' [] packet server free asks (inl waits) = absurd (not_both (is_waiting session.awaited) waits free)
flows_more contact contact' session session' [] packet server free asks (inr settled) = asks server refl settled
flows_more contact contact' session session' (first ∷ packets) packet server free asks (inl silent) =
    inl (silent.0, flows_more contact contact' session session' packets packet (heard server first) free (λ next same settled. asks next same settled) silent.1)
flows_more contact contact' session session' (first ∷ packets) packet server free asks (inr last) = absurd (not_both (is_waiting session.awaited) last.1 free)

-- ---- CONNECT

pub connect_flows : (session : Asking) (server : Serving) → 7 ≤ session.maximum → 255 ≤ server.maximum → server.maximum < 2 ^ 16 → Flows Unmet (asks_connect session) (connect_octets session ∷ []) server
connect_flows session server room least most = inr (
  refl,
  refl,
  inr (record {
    keeps = λ e. absurd (let f : Unmet ≡ Met = e in cc);
    meets = λ e go. (connects_well session server (connect_octets session) room least most refl).fits go;
    mode = not_in_mode _ _ _ (off_after (asks_connect session) requests.Connect (response_to server (connect_octets session)) refl refl refl);
  }),
)

-- ---- any request but CONNECT and the first of several PUTs

pub waits_flow : (contact : Contact) (session : Asking) (request : Request) (packet : List ℕ) (server : Serving) → session.awaited ≡ Some request → is_waiting (Some request) ≡ true → is_first_put request ≡ false → session.single ≡ false
    → (contact ≡ Unmet → ⊥) → (contact ≡ Met → session.limit ≤ server.maximum) → Flows contact session (packet ∷ []) server
waits_flow contact session request packet server waits waiting other off met fits =
    let falls = limit_after session request (response_to server packet) waits in
    inr (
      refl,
      ap is_waiting waits ∙ waiting,
      inr (record {
        keeps = λ e. let within = fits e in omega (arith, falls, within);
        meets = λ e go. absurd (met e);
        mode = not_in_mode _ _ _ (off_after session request (response_to server packet) waits other off);
      }),
    )

-- ---- PUT

-- a client that may put the next octets of its object
pub record MayPutNext (name : List ℕ) (size limit : ℕ) (content : Option (List Object)) (puts : List (List ℕ)) (session : Asking) (part : List ℕ) : Type 0 where
  pub few : length (units_in name) ≤ 100
  pub bounded : size ≤ 16777215
  pub least : 255 ≤ limit
  pub most : limit < 2 ^ 15
  pub own : 255 ≤ session.limit
  pub room : 7 ≤ session.maximum
  pub free : is_waiting session.awaited ≡ false
  pub has : HasPut name size puts session content
  pub part_len : length part ≡ min (left_of session size) (room_for session name size limit)
  pub told : 0 < min (left_of session size) (room_for session name size limit) → IfSome content (λ objects. HasAt (place_of session.put) part (octets_of name objects))

same_ahead : (wanted : Bool) (parts : List (List ℕ)) (name : List ℕ) (size : ℕ) → ahead_of wanted (place_behind parts) name size ≡ head_at (head_of wanted (units_in name) size) parts
same_ahead wanted [] name size = refl
same_ahead wanted (part ∷ parts) name size = refl

same_place : (parts : List (List ℕ)) → place_of (place_behind parts) ≡ length (joined parts)
same_place [] = refl
same_place (part ∷ parts) = refl

not_met : Met ≡ Unmet → ⊥
not_met e = cc

module _ (name : List ℕ) (size limit : ℕ) (content : Option (List Object)) (puts : List (List ℕ)) (session : Asking) (part : List ℕ) where
  abbrev count : ℕ
  count = min (left_of session size) (room_for session name size limit)

  abbrev packet : Bool → PlainPacket
  packet final = put_packet final (ahead_of session.wanted session.put name size) part

  abbrev octets : Bool → List ℕ
  octets final = packet_octets (packet final)

  -- what is written
  record Written (final : Bool) : Type 0 where
    body : List ℕ
    body_len : length body ≡ count
    is : octets final ≡ packet_octets (put_packet final (ahead_of session.wanted session.put name size) body)
    sound : IsPacket phase.Request (put_packet final (ahead_of session.wanted session.put name size) body)

  written : MayPutNext name size limit content puts session part → (final : Bool) → final ≡ nat_le (left_of session size) (room_for session name size limit) → Written final
  written may final is =
      let room : List ℕ = octets final ++ drop (length (octets final)) [] in
      let one = put_of final name size limit puts session (after_put session final count) content [] room (length (octets final)) may.few (let bounded = may.bounded in omega (arith, bounded)) may.most may.least may.own may.has
      (record { none_waits = may.free; final_is = is; session_is = refl; written = record { part = part; part_len = may.part_len; told = may.told; count_is = refl; written = refl } }) in
      let ahead = sym (ap (λ (p : Option ℕ). ahead_of session.wanted p name size) may.has.place ∙ same_ahead session.wanted may.has.parts name size) in
      record {
        body = one.part;
        body_len = one.part_len;
        is = sym (take-append_seam (octets final) (drop (length (octets final)) [])) ∙ one.packet ∙ ap (λ (hs : List PlainHeader). packet_octets (put_packet final hs one.part)) ahead;
        sound = subst (λ (hs : List PlainHeader). IsPacket phase.Request (put_packet final hs one.part)) ahead one.sound;
      }

  -- the first of several
  first_flow : MayPutNext name size limit content puts session part → (server : Serving) → session.limit ≤ server.maximum → session.put ≡ None → false ≡ nat_le (left_of session size) (room_for session name size limit)
      → Flows Met (after_put session false count) (octets false ∷ []) server
  first_flow may server fits none is =
      let w = written may false is in
      let after = after_put session false count in
      let body_len = w.body_len in
      let place = ap place_of none in
      let waits : after.awaited ≡ Some requests.FirstPut = ap (λ (p : Option ℕ). Some (put_request (is_none p) false session.single)) none in
      let same : put_packet false (ahead_of session.wanted session.put name size) w.body ≡ put_packet false (head_with session.wanted (text_octets (units_in name)) size) w.body =
      ap (λ (p : Option ℕ). put_packet false (ahead_of session.wanted p name size) w.body) none in
      let total : place_of session.put + count ≡ length w.body = omega (arith, place, body_len) in
      let begins = begins_well after server session.wanted (text_octets (units_in name)) size w.body (subst (IsPacket phase.Request) same w.sound) (record { waits = waits; put = ap Some total; room = may.room; plain = refl }) in
      let octets_are : octets false ≡ packet_octets (put_packet false (head_with session.wanted (text_octets (units_in name)) size) w.body) = w.is ∙ ap packet_octets same in
      subst (λ (os : List ℕ). Flows Met after (os ∷ []) server) (sym octets_are) (inr (refl, ap is_waiting waits, by after waits (packet_octets (put_packet false (head_with session.wanted (text_octets (units_in name)) size) w.body)) fits begins))
    where
      by : (after : Asking) → after.awaited ≡ Some requests.FirstPut → (os : List ℕ) → after.limit ≤ server.maximum → Begins after (response_to server os) (heard server os).course → (response_to server os ≡ []) ⊎ Readies Met after (response_to server os) (heard server os)
      by after waits os fits (inl none) = inl none
      by after waits os fits (inr mode) = let falls = limit_after after requests.FirstPut (response_to server os) waits in inr (record { keeps = λ e. omega (arith, falls, fits); meets = λ e go. absurd (not_met e); mode = mode })

  -- one in single response mode
  stream_flow : MayPutNext name size limit content puts session part → (server : Serving) (place : ℕ) → session.limit ≤ server.maximum → session.single ≡ true → session.put ≡ Some place → server.course ≡ Runs (Filled place) true
      → false ≡ nat_le (left_of session size) (room_for session name size limit) → Flows Met (after_put session false count) (octets false ∷ []) server
  stream_flow may server place fits on some runs is =
      let w = written may false is in
      let ahead : ahead_of session.wanted session.put name size ≡ [] = ap (λ (p : Option ℕ). ahead_of session.wanted p name size) some in
      let room : room_for session name size limit ≡ min session.limit limit - 6 = ap (λ (hs : List PlainHeader). min session.limit limit - (6 + length (headers_octets hs))) ahead in
      let len = length-packet (put_packet false [] w.body) in
      let body = ap length (append-nil (header_octets (body_header false w.body))) in
      let body_len = w.body_len in
      let own = may.own in
      let now : place_of session.put ≡ place = ap place_of some in
      let at : place ≡ length (joined may.has.parts) = sym now ∙ ap place_of may.has.place ∙ same_place may.has.parts in
      let within = may.has.within in
      let bounded = may.bounded in
      let short : length (packet_octets (put_packet false [] w.body)) ≤ server.maximum = omega (arith, len, body, body_len, room, own, fits) in
      let total : place + length w.body ≤ 16777215 = omega (arith, body_len, now, at, within, bounded) in
      let sum : place + length w.body ≡ place_of session.put + count = omega (arith, body_len, now) in
      let same : put_packet false (ahead_of session.wanted session.put name size) w.body ≡ put_packet false [] w.body = ap (λ (hs : List PlainHeader). put_packet false hs w.body) ahead in
      let silent = streams_well server place w.body (subst (IsPacket phase.Request) same w.sound) short runs total in
      subst (λ (os : List ℕ). Flows Met (after_put session false count) (os ∷ []) server) (sym (w.is ∙ ap packet_octets same))
      (inl (
        silent.silent,
        inr (record { fits = λ e. fits; mode = in_mode (packet_octets (put_packet false [] w.body)) session.single (silent.course ∙ ap (λ (n : ℕ). Runs (Filled n) true) sum) }),
      ))
    where
      in_mode : (os : List ℕ) (single : Bool) → (heard server os).course ≡ Runs (Filled (place_of session.put + count)) true → InMode single (Some (place_of session.put + count)) (heard server os).course
      in_mode os true course = course
      in_mode os false course = tt

  puts_by : MayPutNext name size limit content puts session part → (server : Serving) → session.limit ≤ server.maximum → (final single : Bool) (put : Option ℕ) → final ≡ nat_le (left_of session size) (room_for session name size limit) → session.single ≡ single → session.put ≡ put → InMode single put server.course
      → Flows Met (after_put session final count) (octets final ∷ []) server
  puts_by may server fits true single put is s p mode = waits_flow Met (after_put session true count) requests.FinalPut (octets true) server refl refl refl refl not_met (λ e. fits)
  puts_by may server fits false true None is s p mode = absurd mode
  puts_by may server fits false false None is s p mode = first_flow may server fits p is
  puts_by may server fits false true (Some place) is s p mode = stream_flow may server place fits s p mode is
  puts_by may server fits false false (Some place) is s p mode =
      waits_flow Met (after_put session false count) requests.Put (octets false) server (ap (λ (o : Option ℕ). Some (put_request (is_none o) false session.single)) p ∙ ap (λ (b : Bool). Some (put_request false false b)) s) refl refl s not_met (λ e. fits)

  pub put_flows : MayPutNext name size limit content puts session part → (server : Serving) (final : Bool) → final ≡ nat_le (left_of session size) (room_for session name size limit) → Settled Met session server
      → Flows Met (after_put session final count) (octets final ∷ []) server
  put_flows may server final is settled = puts_by may server (settled.fits refl) final session.single session.put is refl refl settled.mode
