-- What is stored where no call failed.
use Rattle.std.proofs.Common.{◌≡◌, ℕ, ◌≤◌, List, [], ◌∷◌, length, Option, refl, ap, ◌∙◌, arith}
use Rattle.std.specs.List.{AllByRecursion}
use Rattle.std.proofs.lemmas.Bool.{le-ltb}
use Rattle.obex_headers.specs.declared.packet.Phase.TheVariants.{Request}
use Rattle.obex_headers.specs.Packets.{PlainPacket}
use Rattle.obex_headers.specs.Reading.{front_at, packet_in}
use Rattle.obex_headers.specs.Runs.{put_of, put_in, objects_from, heard}
use Rattle.obex_session.specs.Past.{puts_heard}
use Rattle.obex_session.specs.Laws.{without_fault, StoresWhatIsSpelled}

pub within_maximum : (maximum maximum' : ℕ) (octets : List ℕ) → length octets ≤ maximum → length octets ≤ maximum' → packet_in Request maximum octets ≡ packet_in Request maximum' octets
unfolding packet_in front_at
within_maximum maximum maximum' octets le le' = rw (le-ltb maximum (length octets) le) (rw (le-ltb maximum' (length octets) le') refl)

heard_alike : (maximum : ℕ) (packets : List (List ℕ)) → maximum ≤ 65535 → AllByRecursion (λ packet. length packet ≤ maximum) packets → puts_heard maximum (without_fault packets) ≡ heard packets
heard_alike maximum [] m all = refl
heard_alike maximum (packet ∷ packets) m all =
    let first : put_of (packet_in Request maximum packet) ≡ put_in packet = ap put_of (within_maximum maximum 65535 packet all.0 (omega (arith, all.0))) in
    ap (λ (p : Option PlainPacket). p ∷ puts_heard maximum (without_fault packets)) first ∙ ap (λ (ps : List (Option PlainPacket)). put_in packet ∷ ps) (heard_alike maximum packets m all.1)

pub stores_spelled : StoresWhatIsSpelled
stores_spelled maximum packets m all = ap (objects_from []) (heard_alike maximum packets m all)
