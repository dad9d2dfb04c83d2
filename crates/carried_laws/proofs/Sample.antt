-- A push that is in order.
use Rattle.std.proofs.Common.{arith, ◌≡◌, ◌+◌, ℕ, zero, suc, Bool, true, false, List, [], ◌∷◌, ◌++◌, ◌&&◌, length, None, Ok, refl, sym, ap, subst, ◌∙◌}
use Rattle.std.specs.Prelude.{nat_lt}
use Rattle.std.specs.List.{flat_map}
use Rattle.std.proofs.lemmas.Bool.{ltb-true, ltb-false, and_parts}
use Rattle.std.proofs.lemmas.List.{length-append}
use Rattle.push_laws.specs.link_talk.specs.bt_base.specs.declared.settings.Settings.{Settings}
use Rattle.push_laws.specs.link_talk.specs.bt_base.specs.Octets.{IsOctets}
use Rattle.push_laws.specs.push_model.specs.rfcomm_frames.specs.declared.connection.Role.TheVariants.{Initiator, Responder}
use Rattle.push_laws.specs.push_model.specs.rfcomm_frames.specs.declared.frame.MuxKind.{MuxKind}
use Rattle.push_laws.specs.push_model.specs.rfcomm_frames.specs.declared.frame.MuxKind.TheVariants.{Sabm, Disc, Uih}
use Rattle.push_laws.specs.push_model.specs.rfcomm_frames.specs.check_words.specs.CheckWords.{low_bits}
use Rattle.push_laws.specs.push_model.specs.rfcomm_frames.specs.check_words.specs.Division.{divided, added, reduced}
use Rattle.push_laws.specs.push_model.specs.rfcomm_frames.specs.Frames.{PlainFrame}
use Rattle.push_laws.specs.push_model.specs.rfcomm_frames.specs.FrameReading.{frame_answer, messages, messages_within, message_answer}
use Rattle.push_laws.specs.push_model.specs.rfcomm_frames.specs.Multiplexing.{Passed}
use Rattle.push_laws.specs.push_model.specs.rfcomm_frames.specs.ObexPackets.{obex_packets, packets_within}
use Rattle.push_laws.specs.push_model.specs.rfcomm_frames.specs.UserChannel.{user_octets}
use Rattle.push_laws.specs.push_model.specs.rfcomm_model.specs.Sides.{asks_of}
use Rattle.push_laws.specs.push_model.specs.obex_headers.specs.declared.packet.Phase.TheVariants.{Request}
use Rattle.push_laws.specs.push_model.specs.obex_headers.specs.Reading.{packet_in, front_at, behind_length, fields_in, headers_in, headers_at, four_at, header_at, octets_at, one_at, sized_at, text_at, value_at}
use Rattle.push_laws.specs.push_model.specs.Listening.{has_bad_length}
use Rattle.push_laws.specs.rfcomm_laws.specs.Totals.{bonus_of, cost_of}
use Rattle.push_laws.specs.Readings.{user_dlci}
use Rattle.carried_laws.specs.Standing.{standing}
use Rattle.carried_laws.specs.Orderly.{Keeps, requests_in, responses_in, BeginsWell, AsksInTurn, ComesInOrder}
use Rattle.carried_laws.specs.Sample.{client_says, sabm_control, ua_control, pn_command, pn_response, sabm_user, ua_user, msc_command, msc_response, server_command, client_response, connect, connected, put, stored, test_command, test_response, pn_elsewhere, dm_elsewhere, disc_user, APushIsInOrder}

-- ---- what is found by computing

abbrev are_octets : List ℕ → Bool
are_octets [] = true
are_octets (x ∷ xs) = nat_lt x 256 && are_octets xs

octets_are : (xs : List ℕ) → are_octets xs ≡ true → IsOctets xs
octets_are [] all i = omega arith
octets_are (x ∷ xs) all zero = ltb-true x 256 (and_parts (nat_lt x 256) (are_octets xs) all).0
octets_are (x ∷ xs) all (suc i) = octets_are xs (and_parts (nat_lt x 256) (are_octets xs) all).1 i

abbrev joined : List ℕ → List ℕ
joined stream = flat_map (λ (packet : List ℕ). packet) (obex_packets stream)

-- nothing begins behind whole packets
begins_well : (most : ℕ) (stream : List ℕ) → joined stream ≡ stream → BeginsWell most stream
begins_well most stream whole rest is three =
    let same : length stream ≡ length (joined stream) + length rest = ap length is ∙ length-append (joined stream) rest in
    let all : length (joined stream) ≡ length stream = ap length whole in
    absurd (omega (arith, same, all, three))

-- a frame that keeps to the rules
record Fits (past : List Passed) (sdu : List ℕ) (frame : PlainFrame) : Type 0 where
  octets : are_octets sdu ≡ true
  read : frame_answer sdu ≡ Ok frame
  keeps : Keeps (standing past).agreed frame.kind frame
  answered : (standing past).asked ≡ 0
  few : nat_lt 15 ((standing past).owed + asks_of frame.kind frame) ≡ false
  paid : nat_lt (standing past).client_granted ((standing past).client_spent + cost_of frame) ≡ false
  fits : nat_lt (65535 + (standing past).server_spent) ((standing past).server_granted + bonus_of user_dlci frame) ≡ false

-- the octets that the server hears with one SDU more
abbrev heard : List Passed → List ℕ → List ℕ
heard past sdu = user_octets user_dlci Responder Initiator (past ++ client_says sdu ∷ [])

abbrev frame_of : ℕ → MuxKind → Bool → List ℕ → PlainFrame
frame_of dlci kind pf octets = record { dlci = dlci; cr = true; kind = kind; pf = pf; credits = None; octets = octets }

module _ (settings : Settings) (most_is : settings.obex ≡ 1024) where
  comes : (past : List Passed) (sdu : List ℕ) (frame : PlainFrame) → Fits past sdu frame → AsksInTurn settings past sdu → ComesInOrder settings past sdu
  comes past sdu frame fit asks = record {
    octets = octets_are sdu fit.octets;
    frame = frame;
    read = fit.read;
    keeps = fit.keeps;
    answered = λ apart. fit.answered;
    few = ltb-false 15 ((standing past).owed + asks_of frame.kind frame) fit.few;
    paid = ltb-false (standing past).client_granted ((standing past).client_spent + cost_of frame) fit.paid;
    fits = ltb-false (65535 + (standing past).server_spent) ((standing past).server_granted + bonus_of user_dlci frame) fit.fits;
    asks = asks;
  }

  asks_none : (past : List Passed) (sdu : List ℕ) → requests_in (past ++ client_says sdu ∷ []) ≡ requests_in past ++ [] → joined (heard past sdu) ≡ heard past sdu → AsksInTurn settings past sdu
  asks_none past sdu new whole = record { new = []; new_are = new; single = omega arith; lengths = tt; answered = tt; begins = begins_well settings.obex (heard past sdu) whole }

  asks_one : (past : List Passed) (sdu packet : List ℕ) → requests_in (past ++ client_says sdu ∷ []) ≡ requests_in past ++ packet ∷ [] → has_bad_length (packet_in Request 1024 packet) ≡ false → nat_lt (length (responses_in past)) (length (requests_in past)) ≡ false
      → joined (heard past sdu) ≡ heard past sdu → AsksInTurn settings past sdu
  asks_one past sdu packet new fits all whole = record {
    new = packet ∷ [];
    new_are = new;
    single = omega arith;
    lengths = (subst (λ (most : ℕ). has_bad_length (packet_in Request most packet) ≡ false) (sym most_is) fits, tt);
    answered = (ltb-false (length (responses_in past)) (length (requests_in past)) all, tt);
    begins = begins_well settings.obex (heard past sdu) whole;
  }

  -- ---- frame by frame

  sabm_control_comes : ComesInOrder settings ([]) sabm_control.sdu
  unfolding frame_answer low_bits divided added reduced messages messages_within message_answer obex_packets packets_within
  sabm_control_comes =
      comes _ sabm_control.sdu (frame_of 0 Sabm true ([]))
      (record { octets = refl; read = refl; keeps = λ is. cc; answered = refl; few = refl; paid = refl; fits = refl })
      (asks_none _ sabm_control.sdu refl refl)

  pn_command_comes : ComesInOrder settings (sabm_control ∷ ua_control ∷ []) pn_command.sdu
  unfolding frame_answer low_bits divided added reduced messages messages_within message_answer obex_packets packets_within
  pn_command_comes =
      comes _ pn_command.sdu (frame_of 0 Uih false (0x83 ∷ 0x11 ∷ 0x12 ∷ 0xf0 ∷ 0x00 ∷ 0x00 ∷ 0x7f ∷ 0x00 ∷ 0x00 ∷ 0x07 ∷ []))
      (record { octets = refl; read = refl; keeps = λ is. ((ltb-false 127 23 refl, λ here. refl), tt); answered = refl; few = refl; paid = refl; fits = refl })
      (asks_none _ pn_command.sdu refl refl)

  sabm_user_comes : ComesInOrder settings (sabm_control ∷ ua_control ∷ pn_command ∷ pn_response ∷ []) sabm_user.sdu
  unfolding frame_answer low_bits divided added reduced messages messages_within message_answer obex_packets packets_within
  sabm_user_comes =
      comes _ sabm_user.sdu (frame_of 18 Sabm true ([]))
      (record { octets = refl; read = refl; keeps = λ is. refl; answered = refl; few = refl; paid = refl; fits = refl })
      (asks_none _ sabm_user.sdu refl refl)

  msc_command_comes : ComesInOrder settings (sabm_control ∷ ua_control ∷ pn_command ∷ pn_response ∷ sabm_user ∷ ua_user ∷ []) msc_command.sdu
  unfolding frame_answer low_bits divided added reduced messages messages_within message_answer obex_packets packets_within
  msc_command_comes =
      comes _ msc_command.sdu (frame_of 0 Uih false (0xe3 ∷ 0x05 ∷ 0x4b ∷ 0x8d ∷ []))
      (record { octets = refl; read = refl; keeps = λ is. (tt, tt); answered = refl; few = refl; paid = refl; fits = refl })
      (asks_none _ msc_command.sdu refl refl)

  client_response_comes : ComesInOrder settings (sabm_control ∷ ua_control ∷ pn_command ∷ pn_response ∷ sabm_user ∷ ua_user ∷ msc_command ∷ msc_response ∷ server_command ∷ []) client_response.sdu
  unfolding frame_answer low_bits divided added reduced messages messages_within message_answer obex_packets packets_within
  client_response_comes =
      comes _ client_response.sdu (frame_of 0 Uih false (0xe1 ∷ 0x05 ∷ 0x4b ∷ 0x8d ∷ []))
      (record { octets = refl; read = refl; keeps = λ is. (tt, tt); answered = refl; few = refl; paid = refl; fits = refl })
      (asks_none _ client_response.sdu refl refl)

  connect_comes : ComesInOrder settings (sabm_control ∷ ua_control ∷ pn_command ∷ pn_response ∷ sabm_user ∷ ua_user ∷ msc_command ∷ msc_response ∷ server_command ∷ client_response ∷ []) connect.sdu
  unfolding frame_answer low_bits divided added reduced messages messages_within message_answer obex_packets packets_within packet_in front_at behind_length fields_in headers_in headers_at four_at header_at octets_at one_at sized_at text_at value_at
  connect_comes =
      comes _ connect.sdu (frame_of 18 Uih false (0x80 ∷ 0x00 ∷ 0x07 ∷ 0x10 ∷ 0x00 ∷ 0x04 ∷ 0x00 ∷ []))
      (record { octets = refl; read = refl; keeps = λ is. cc; answered = refl; few = refl; paid = refl; fits = refl })
      (asks_one _ connect.sdu (0x80 ∷ 0x00 ∷ 0x07 ∷ 0x10 ∷ 0x00 ∷ 0x04 ∷ 0x00 ∷ []) refl refl refl refl)

  put_comes : ComesInOrder settings (sabm_control ∷ ua_control ∷ pn_command ∷ pn_response ∷ sabm_user ∷ ua_user ∷ msc_command ∷ msc_response ∷ server_command ∷ client_response ∷ connect ∷ connected ∷ []) put.sdu
  unfolding frame_answer low_bits divided added reduced messages messages_within message_answer obex_packets packets_within packet_in front_at behind_length fields_in headers_in headers_at four_at header_at octets_at one_at sized_at text_at value_at
  put_comes =
      comes _ put.sdu (frame_of 18 Uih false (0x82 ∷ 0x00 ∷ 0x0e ∷ 0x01 ∷ 0x00 ∷ 0x07 ∷ 0x00 ∷ 0x61 ∷ 0x00 ∷ 0x00 ∷ 0x49 ∷ 0x00 ∷ 0x04 ∷ 0x78 ∷ []))
      (record { octets = refl; read = refl; keeps = λ is. cc; answered = refl; few = refl; paid = refl; fits = refl })
      (asks_one _ put.sdu (0x82 ∷ 0x00 ∷ 0x0e ∷ 0x01 ∷ 0x00 ∷ 0x07 ∷ 0x00 ∷ 0x61 ∷ 0x00 ∷ 0x00 ∷ 0x49 ∷ 0x00 ∷ 0x04 ∷ 0x78 ∷ []) refl refl refl refl)

  test_command_comes : ComesInOrder settings (sabm_control ∷ ua_control ∷ pn_command ∷ pn_response ∷ sabm_user ∷ ua_user ∷ msc_command ∷ msc_response ∷ server_command ∷ client_response ∷ connect ∷ connected ∷ put ∷ stored ∷ []) test_command.sdu
  unfolding frame_answer low_bits divided added reduced messages messages_within message_answer obex_packets packets_within
  test_command_comes =
      comes _ test_command.sdu (frame_of 0 Uih false (0x23 ∷ 0x05 ∷ 0x61 ∷ 0x62 ∷ []))
      (record { octets = refl; read = refl; keeps = λ is. (tt, tt); answered = refl; few = refl; paid = refl; fits = refl })
      (asks_none _ test_command.sdu refl refl)

  pn_elsewhere_comes : ComesInOrder settings (sabm_control ∷ ua_control ∷ pn_command ∷ pn_response ∷ sabm_user ∷ ua_user ∷ msc_command ∷ msc_response ∷ server_command ∷ client_response ∷ connect ∷ connected ∷ put ∷ stored ∷ test_command ∷ test_response ∷ [])
      pn_elsewhere.sdu
  unfolding frame_answer low_bits divided added reduced messages messages_within message_answer obex_packets packets_within
  pn_elsewhere_comes =
      comes _ pn_elsewhere.sdu (frame_of 0 Uih false (0x83 ∷ 0x11 ∷ 0x14 ∷ 0x00 ∷ 0x00 ∷ 0x00 ∷ 0x7f ∷ 0x00 ∷ 0x00 ∷ 0x00 ∷ []))
      (record { octets = refl; read = refl; keeps = λ is. ((ltb-false 127 23 refl, λ here. let never : 20 ≡ 18 = here in absurd (omega (arith, never))), tt); answered = refl; few = refl; paid = refl; fits = refl })
      (asks_none _ pn_elsewhere.sdu refl refl)

  disc_user_comes : ComesInOrder settings (sabm_control ∷ ua_control ∷ pn_command ∷ pn_response ∷ sabm_user ∷ ua_user ∷ msc_command ∷ msc_response ∷ server_command ∷ client_response ∷ connect ∷ connected ∷ put ∷ stored ∷ test_command ∷ test_response ∷ pn_elsewhere ∷ dm_elsewhere ∷ [])
      disc_user.sdu
  unfolding frame_answer low_bits divided added reduced messages messages_within message_answer obex_packets packets_within
  disc_user_comes =
      comes _ disc_user.sdu (frame_of 18 Disc true ([]))
      (record { octets = refl; read = refl; keeps = tt; answered = refl; few = refl; paid = refl; fits = refl })
      (asks_none _ disc_user.sdu refl refl)

-- ---- the law

pub a_push_is_in_order : APushIsInOrder
a_push_is_in_order settings is = (sabm_control_comes settings is, (tt, (pn_command_comes settings is, (tt, (sabm_user_comes settings is, (tt, (msc_command_comes settings is, (tt, (tt, (client_response_comes settings is, (connect_comes settings is, (tt, (put_comes settings is, (tt, (test_command_comes settings is, (tt, (pn_elsewhere_comes settings is, (tt, (disc_user_comes settings is, (tt, tt))))))))))))))))))))
