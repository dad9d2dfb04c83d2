-- A packet on the line is the packet that is heard.
use Rattle.std.proofs.Common.{◌≡◌, ℕ, true, List, [], Ok, Err, refl, sym, ap, subst, arith}
use Rattle.wire_packets.specs.declared.packet.WirePacket.{WirePacket}
use Rattle.wire_packets.specs.declared.refusal.WireRefusal.{WireRefusal}
use Rattle.wire_packets.specs.declared.stepping.Place.{Place}
use Rattle.wire_packets.specs.declared.stepping.Place.TheVariants.{Outside, Inside, Escaping}
use Rattle.wire_packets.specs.declared.slip.SlipTaken.{SlipTaken}
use Rattle.wire_packets.specs.Packets as wire
use Rattle.wire_packets.specs.Packets.{IsPacket, spelling, plain}
use Rattle.wire_packets.specs.declared.slip.SlipTaken.TheVariants.{Packet, Bad, More}
use denote.Bor.{Bor}
use Rattle.wire_packets.specs.Answers.{Answer, IsAnswer}
use Rattle.wire_packets.specs.Stepping.{Slipping, standing, Takes}
use Rattle.wire_packets.proofs.Taking.{Rests, outside, inside, TakesWhole, takes_whole}
use Rattle.wire_packets.proofs.Spelled.{one_answer_lem}
use Rattle.wire_model.specs.Line.{line}
use Rattle.three_wire.specs.Crossing.{is_open, IsAtRest}

rests_by : (place : Place) (held : List ℕ) → held ≡ [] → is_open place ≡ true → Rests (standing place held)
rests_by Outside held none waits = outside (ap (standing Outside) none)
rests_by Inside held none waits = inside (ap (standing Inside) none)
rests_by Escaping held none waits = absurd cc

pub took_line : (packet : wire.Packet) (old new : Slipping) (octets : List ℕ) (taken : SlipTaken) → IsPacket packet → IsAtRest old → octets ≡ line packet → Takes old octets taken new → TakesWhole (spelling packet) taken new
unfolding line
took_line packet old new octets taken fits rest is t =
    takes_whole old new (spelling packet) taken (rests_by old.place old.held rest.empty rest.waits) (λ e. absurd cc) (omega (arith, fits.length_fits)) (subst (λ (o : List ℕ). Takes old o taken new) is t)

pub at_rest : (new : Slipping) → new ≡ standing Inside [] → IsAtRest new
at_rest new is = subst IsAtRest (sym is) (record { empty = refl; waits = refl })

not_packet : (octets : List ℕ) (taken : SlipTaken) (new : Slipping) → ((bytes : Bor (List ℕ)) (n : ℕ) → taken ≡ Packet bytes n → ⊥) → TakesWhole octets taken new → ⊥
not_packet octets (Packet bytes n) new other whole = other bytes n refl
not_packet octets (Bad refusal n) new other whole = whole
not_packet octets More new other whole = whole

-- a packet on the line is taken as a packet
pub no_other : (packet : wire.Packet) (old new : Slipping) (octets : List ℕ) (taken : SlipTaken) → IsPacket packet → IsAtRest old → octets ≡ line packet → Takes old octets taken new
    → ((bytes : Bor (List ℕ)) (n : ℕ) → taken ≡ Packet bytes n → ⊥) → ⊥
no_other packet old new octets taken fits rest is t other = not_packet (spelling packet) taken new other (took_line packet old new octets taken fits rest is t)

-- and its octets are read as the packet
pub read_line : (packet : wire.Packet) (old new : Slipping) (octets : List ℕ) (taken : SlipTaken) (bytes : Bor (List ℕ)) (n : ℕ) → IsPacket packet → IsAtRest old → octets ≡ line packet → Takes old octets taken new
    → taken ≡ Packet bytes n → (bytes.now ≡ spelling packet) × IsAtRest new
read_line packet old new octets taken bytes n fits rest is t which =
    let w : TakesWhole (spelling packet) (Packet bytes n) new = subst (λ (s : SlipTaken). TakesWhole (spelling packet) s new) which (took_line packet old new octets taken fits rest is t) in
    (w.0, at_rest new w.1)

same_ok : (p q : wire.Packet) → (let a : Answer = Ok p in a) ≡ Ok q → p ≡ q
same_ok p q e = cc

pub is_read : (packet : wire.Packet) (octets : List ℕ) (read : WirePacket) → IsPacket packet → octets ≡ spelling packet → IsAnswer octets (Ok (plain read)) → plain read ≡ packet
is_read packet octets read fits is a = same_ok (plain read) packet (one_answer_lem octets (Ok (plain read)) (Ok packet) a (fits, is))

pub not_refused : (packet : wire.Packet) (octets : List ℕ) (refusal : WireRefusal) → IsPacket packet → octets ≡ spelling packet → IsAnswer octets (Err refusal) → ⊥
not_refused packet octets refusal fits is a = let clash : (let x : Answer = Err refusal in x) ≡ Ok packet = one_answer_lem octets (Err refusal) (Ok packet) a (fits, is) in absurd cc
