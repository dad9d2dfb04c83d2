-- What a client's session does for the next PUT of an object (this project's own).
use Rattle.std.specs.Prelude.{◌≡◌, ℕ, ◌+◌, ◌-◌, ◌&&◌, not, Bool, true, false, List, Option, Some, None, is_none, Result, Ok, Err, min, nat_le, if◌then◌else◌}
use Rattle.bt_base.specs.Objects.{Object}
use Rattle.bt_base.specs.declared.ports.PortFault.{PortFault}
use Rattle.bt_base.specs.declared.ports.PortFault.TheVariants as fault
use Rattle.obex_session.specs.declared.asking.Request.{Request}
use Rattle.obex_session.specs.declared.asking.Request.TheVariants.{Connect, FirstPut, Put, Stream, FinalPut, Abort, Disconnect}
use Rattle.obex_session.specs.declared.client.PutNext.{PutNext}
use Rattle.obex_session.specs.declared.client.PutNext.TheVariants.{Packet, Wait, ShelfFault, NoMemory}
use Rattle.obex_session.specs.Asking.{Asking}
use Rattle.obex_session.specs.PutPackets.{ahead_of, place_of, room_in, WritesPut}

-- what the shelf answered where the session gives this
abbrev pub outcome_of : PutNext → Result (Unit {0}) PortFault
outcome_of (Packet count final) = Ok tt
outcome_of Wait = Ok tt
outcome_of ShelfFault = Err fault.Failed
outcome_of NoMemory = Err fault.NoMemory

-- how many octets of the object are left, and how many of them have room in the next packet
abbrev pub left_of : Asking → ℕ → ℕ
left_of session size = size - place_of session.put

abbrev pub room_for : Asking → List ℕ → ℕ → ℕ → ℕ
room_for session name size limit = room_in (min session.limit limit) (ahead_of session.wanted session.put name size)

-- Nothing may be put before a response comes. In single response mode the PUTs behind the first wait for none.
abbrev pub is_waiting : Option Request → Bool
is_waiting None = false
is_waiting (Some Connect) = true
is_waiting (Some FirstPut) = true
is_waiting (Some Put) = true
is_waiting (Some Stream) = false
is_waiting (Some FinalPut) = true
is_waiting (Some Abort) = true
is_waiting (Some Disconnect) = true

abbrev pub put_request : Bool → Bool → Bool → Request
put_request first final single = if final then FinalPut else if first then FirstPut else if single then Stream else Put

-- so many octets more were put
abbrev pub after_put : Asking → Bool → ℕ → Asking
after_put session final n = record session {
  put = if final then None else Some (place_of session.put + n);
  single = not final && session.single;
  awaited = Some (put_request (is_none session.put) final session.single);
}

-- the next packet of the object: as many octets as have room, and it is final where these are all that are left
pub record PutsPacket (session session' : Asking) (name : List ℕ) (size limit : ℕ) (content : Option (List Object)) (room room' : List ℕ) (count : ℕ) (final : Bool) : Type 0 where
  pub none_waits : is_waiting session.awaited ≡ false
  pub final_is : final ≡ nat_le (left_of session size) (room_for session name size limit)
  pub session_is : session' ≡ after_put session final (min (left_of session size) (room_for session name size limit))
  pub written : WritesPut final (ahead_of session.wanted session.put name size) (min (left_of session size) (room_for session name size limit)) name (place_of session.put) content room room' count

-- a request waits, the packet was written, or the shelf did not give its octets
abbrev pub PutsNext : Asking → Asking → List ℕ → ℕ → ℕ → Option (List Object) → List ℕ → List ℕ → PutNext → Type 0
PutsNext session session' name size limit content room room' (Packet count final) = PutsPacket session session' name size limit content room room' count final
PutsNext session session' name size limit content room room' Wait = (is_waiting session.awaited ≡ true) × (session' ≡ session) × (room' ≡ room)
PutsNext session session' name size limit content room room' ShelfFault = (is_waiting session.awaited ≡ false) × (session' ≡ session)
PutsNext session session' name size limit content room room' NoMemory = (is_waiting session.awaited ≡ false) × (session' ≡ session)
