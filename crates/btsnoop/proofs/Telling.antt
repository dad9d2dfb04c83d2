-- What a conversion makes of the octets where an entry should begin.
use Rattle.std.proofs.Common.{◌≡◌, ℕ, ◌+◌, true, List, [], ◌++◌, length, take, refl, sym, ap, ◌∙◌, arith, inl, inr, length-append}
use Rattle.std.proofs.lemmas.List.{append-nil, take_at}
use Rattle.bt_base.specs.Octets.{be16}
use Rattle.h4_framing.specs.Packets.{spelling}
use Rattle.capture.specs.Entries.{moved_tag}
use Rattle.capture.specs.EntryReading.{IsRecord as IsTagged, record_octets as tagged}
use Rattle.item_stream.specs.declared.teller.Front.TheVariants.{Item as item}
use Rattle.item_stream.specs.Telling.{Tells}
use Rattle.btsnoop.specs.declared.converting.Converter.{Converter}
use Rattle.btsnoop.specs.Files.{records_octets}
use Rattle.btsnoop.specs.Converter.{HasRead, Finds, given_of, EntryRead}
use Rattle.btsnoop.proofs.Growing.{packet_more, passed_more}

tagged_long : (tag : ℕ) (payload : List ℕ) → length (tagged tag payload) ≡ 3 + length payload
tagged_long tag payload = omega (arith, length-append (be16 (length payload)) payload)

-- the same conversion, but for why it refused
same_read : (first old new : Converter) (before said : List ℕ) → new.side ≡ old.side → new.time ≡ old.time → HasRead first old before said → HasRead first new before said
same_read first old new before said side time h = record { items = h.items; each = h.each; whole = h.whole; file = h.file; side = side ∙ h.side; time = time ∙ h.time }

pub tells_entry : (old new : Converter) (octets text text' payload rest : List ℕ) (tag : ℕ) → IsTagged tag payload → octets ≡ tagged tag payload ++ rest → EntryRead tag payload old new text text' true → Tells HasRead Finds old new octets text text' (item (3 + length payload))
tells_entry old new octets text text' payload rest tag is whole (inl (side, flow, tag-is, (packet, is-packet, spelled, adds, new-is))) =
    let front : take (3 + length payload) octets ≡ tagged tag payload = ap (take (3 + length payload)) whole ∙ take_at (tagged tag payload) rest (3 + length payload) (tagged_long tag payload) in
    let octets-is : take (3 + length payload) octets ≡ tagged (moved_tag side flow) (spelling packet) = front ∙ ap (λ (t : ℕ). tagged t payload) tag-is ∙ ap (λ (p : List ℕ). tagged (moved_tag side flow) p) (sym spelled) in (
      omega arith,
      omega (arith, ap length whole, length-append (tagged tag payload) rest, tagged_long tag payload),
      λ first before said h. (records_octets (given_of old side (record { flow = flow; packet = packet })), adds, packet_more first old new before said (take (3 + length payload) octets) _ side flow packet h (is-packet, omega (arith, is.1, ap length spelled)) octets-is refl new-is),
    )
tells_entry old new octets text text' payload rest tag is whole (inr (low, read, same, new-is)) =
    let front : take (3 + length payload) octets ≡ tagged tag payload = ap (take (3 + length payload)) whole ∙ take_at (tagged tag payload) rest (3 + length payload) (tagged_long tag payload) in (
      omega arith,
      omega (arith, ap length whole, length-append (tagged tag payload) rest, tagged_long tag payload),
      λ first before said h. ([], same ∙ sym (append-nil text), passed_more first old new before said (take (3 + length payload) octets) [] tag payload h (low, is.0.1, is.1) front refl new-is),
    )
