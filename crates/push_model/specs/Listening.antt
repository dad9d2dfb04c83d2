-- What a server makes of the stream of packets over RFCOMM, however it was cut (IrOBEX 1.5, 2.2; this project's own where
-- octets begin no packet).
use Rattle.std.specs.Prelude.{ℕ, zero, suc, ◌||◌, Bool, true, false, List, [], take, Result, Ok, Err, if◌then◌else◌}
use Rattle.bt_base.specs.declared.settings.Transport.{Transport}
use Rattle.bt_base.specs.declared.settings.Transport.TheVariants.{Rfcomm}
use Rattle.obex_headers.specs.declared.fault.ObexRefusal.{ObexRefusal}
use Rattle.obex_headers.specs.declared.fault.ObexRefusal.TheVariants.{Short, BadLength, BadHeaderLength, BadText, AboveMaximum, BadVersion}
use Rattle.obex_headers.specs.declared.packet.Phase.TheVariants.{Request}
use Rattle.obex_headers.specs.Packets.{PlainPacket}
use Rattle.obex_headers.specs.Reading.{packet_in}
use Rattle.push_model.specs.Sessions.{Gift}
use Rattle.push_model.specs.Service.{Service, Served, hears_packet, parts}
use Rattle.push_model.specs.Streams.{Front, Whole, Partial, Broken, front_of}

pub record Listener : Type 0 where
  pub service : Service
  -- the multiplexer is to be closed once the response is out
  pub breaks : Bool

-- the listener after a call, and the inbox
pub record Heeded : Type 0 where
  pub listener : Listener
  pub gift : Gift

-- the same, with the octets of a packet that is not whole
pub record Received : Type 0 where
  pub listener : Listener
  pub held : List ℕ
  pub gift : Gift

-- ---- packets

abbrev pub heeded_by : Listener → Served → Heeded
heeded_by listener served = record { listener = record listener { service = served.service }; gift = served.gift }

abbrev pub heeds : Transport → List ℕ → Listener → Gift → Heeded
heeds transport packet listener gift = heeded_by listener (hears_packet transport packet listener.service gift)

abbrev pub lets_go_by : Transport → Listener → Gift → Heeded
lets_go_by transport listener gift = heeded_by listener (parts transport listener.service gift)

-- ---- packets over RFCOMM

-- behind octets whose length is wrong the multiplexer is closed: a CONNECT states too small a maximum
abbrev pub is_length : ObexRefusal → Bool
is_length Short = false
is_length BadLength = true
is_length BadHeaderLength = false
is_length BadText = false
is_length AboveMaximum = true
is_length BadVersion = false

abbrev pub has_bad_length : Result PlainPacket ObexRefusal → Bool
has_bad_length (Ok packet) = false
has_bad_length (Err refusal) = is_length refusal

abbrev pub breaks_at : Listener → List ℕ → Bool
breaks_at listener packet = has_bad_length (packet_in Request listener.service.sessions.carried.maximum packet)

abbrev pub heeds_carried : List ℕ → Listener → Gift → Heeded
heeds_carried packet listener gift = heeds Rfcomm packet (record listener { breaks = breaks_at listener packet }) gift

abbrev pub heeds_broken : List ℕ → Listener → Gift → Heeded
heeds_broken octets listener gift = heeds Rfcomm octets (record listener { breaks = true }) gift

-- ---- the stream

-- nothing more is read
abbrev pub stops : Listener → Bool
stops listener = listener.breaks || listener.service.failed

abbrev pub received : List ℕ → Heeded → Received
received held heeded = record { listener = heeded.listener; held = held; gift = heeded.gift }

-- what follows a packet, unless the multiplexer is to be closed behind it or memory was wanting
abbrev pub hears_on : (Listener → Gift → Received) → Heeded → Received
hears_on more heeded = if stops heeded.listener then received [] heeded else more heeded.listener heeded.gift

-- what stands at the front; octets that begin no packet are heard by their first three
abbrev pub hears_front : (List ℕ → Listener → Gift → Received) → List ℕ → Front → Listener → Gift → Received
hears_front more stream (Whole packet rest) listener gift = hears_on (more rest) (heeds_carried packet listener gift)
hears_front more stream Partial listener gift = record { listener = listener; held = stream; gift = gift }
hears_front more stream (Broken refusal) listener gift = received [] (heeds_broken (take 3 stream) listener gift)

-- packet by packet, in so many steps at most
unfoldable pub hears_stream : ℕ → List ℕ → Listener → Gift → Received
hears_stream zero stream listener gift = record { listener = listener; held = stream; gift = gift }
hears_stream (suc steps) stream listener gift =
    hears_front (λ rest next after. hears_stream steps rest next after) stream (front_of listener.service.sessions.carried.maximum stream) listener gift
