-- How the next PUT of an object is written, and what the shelf is asked for it.
use Rattle.std.specs.Prelude.{◌≡◌, ◌<◌, ◌≤◌, ℕ, Bool, IsTrue, List, [], ◌∷◌, ◌++◌, length, min, nat_le, Option, Result, Ok, Err, IfSome}
use Rattle.bt_base.specs.Counts.{HasRisen}
use Rattle.bt_base.specs.Objects.{Object, octets_of, HasAt}
use Rattle.bt_base.specs.Octets.{IsOctets}
use Rattle.bt_base.specs.declared.ports.PortFault.{PortFault}
use Rattle.bt_base.specs.declared.ports.PortFault.TheVariants as fault
use Rattle.obex_headers.specs.Packets.{packet_octets}
use Rattle.obex_session.specs.Asking.{Asking}
use Rattle.obex_session.specs.NextPut.{left_of, room_for, after_put}
use Rattle.obex_session.specs.PutPackets.{ahead_of, place_of, put_packet}
use Rattle.push_model.specs.Client.{Client}
use Rattle.push_model.specs.Steps.{Part, put_count}

-- the packet has so many octets of the object that the shelf has at the place where the last one ended
pub record IsPut (old new : Asking) (name : List ℕ) (size limit : ℕ) (content : Option (List Object)) (octets : List ℕ) : Type 0 where
  pub part : List ℕ
  pub part_len : length part ≡ min (left_of old size) (room_for old name size limit)
  pub told : 0 < length part → IfSome content (λ objects. HasAt (place_of old.put) part (octets_of name objects))
  pub session_is : new ≡ after_put old (nat_le (left_of old size) (room_for old name size limit)) (length part)
  pub octets_are : octets ≡ packet_octets (put_packet (nat_le (left_of old size) (room_for old name size limit)) (ahead_of old.wanted old.put name size) part)

-- where the shelf did not give them, nothing is put
abbrev pub PutsOr : Asking → Asking → List ℕ → ℕ → ℕ → Option (List Object) → List ℕ → Result (Unit {0}) PortFault → Type 0
PutsOr old new name size limit content octets (Ok done) = IsPut old new name size limit content octets
PutsOr old new name size limit content octets (Err fault) = (new ≡ old) × (octets ≡ []) × (0 < min (left_of old size) (room_for old name size limit))

-- ---- the answers of a shelf

-- How it answered: it was asked once at most, for as many octets as the next PUT has. It gave those that stand there, octets, or
-- failed, or found no memory, which its counts show.
abbrev pub IsAnswer : Client → Option (List Object) → (faults faults' shortages shortages' : ℕ) → Part → Type 0
IsAnswer client content faults faults' shortages shortages' (Ok part) =
    (length part ≡ put_count client) × IsOctets part × IfSome content (λ objects. HasAt (place_of client.session.put) part (octets_of client.name objects))
IsAnswer client content faults faults' shortages shortages' (Err fault.Failed) = HasRisen faults faults'
IsAnswer client content faults faults' shortages shortages' (Err fault.NoMemory) = HasRisen shortages shortages'

abbrev pub AreAnswers : Client → Option (List Object) → (faults faults' shortages shortages' : ℕ) → List Part → Type 0
AreAnswers client content faults faults' shortages shortages' [] = Unit {0}
AreAnswers client content faults faults' shortages shortages' (answer ∷ []) = IsAnswer client content faults faults' shortages shortages' answer
AreAnswers client content faults faults' shortages shortages' (answer ∷ other ∷ more) = ⊥

-- A reaction with some answers of the shelf comes to an end with those that are left over, whichever they are; want of
-- memory comes of one of them alone.
pub record Comes {R : Type 0} (reaction end : List Part → R) (client : Client) (content : Option (List Object)) (faults faults' shortages shortages' : ℕ) (lacks : Bool) : Type 0 where
  pub used : List Part
  pub comes : (rest : List Part) → reaction (used ++ rest) ≡ end rest
  pub answers : AreAnswers client content faults faults' shortages shortages' used
  pub short : IsTrue lacks → HasRisen shortages shortages'
  pub faults_stay : faults ≤ faults'
  pub shortages_stay : shortages ≤ shortages'
