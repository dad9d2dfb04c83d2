-- A packet that is too long is refused, as is one without octets; and how a reader goes on over a talk.
use Rattle.std.proofs.Common.{◌≡◌, ℕ, ◌+◌, ◌<◌, ◌≤◌, List, [], ◌∷◌, ◌++◌, length, take, get_or, map, Bool, true, false, cond, eqb, not, Option, None, Result, Ok, Err, ltb, refl, sym, ap, ◌∙◌, append_assoc, add-one, drop-cons, arith}
use Rattle.std.specs.Prelude.{slice_index, drop}
use Rattle.std.proofs.lemmas.Bool.{ltb-true, ltb-false}
use Rattle.std.specs.List.{flat_map}
use Rattle.byteorder.specs.Endian.{big_number}
use Rattle.capture.proofs.HistoryLaws.{front-more}
use Rattle.bt_base.specs.Objects.{Object}
use Rattle.obex_headers.specs.declared.fault.ObexRefusal.{ObexRefusal}
use Rattle.obex_headers.specs.declared.fault.ObexRefusal.TheVariants.{Short, AboveMaximum, BadLength}
use Rattle.obex_headers.specs.declared.packet.Phase.TheVariants.{Request}
use Rattle.obex_headers.specs.Packets.{PlainPacket, fields_len}
use Rattle.obex_headers.specs.Reading.{◌>>=◌, packet_in, front_at, behind_length, headers_in}
use Rattle.obex_headers.specs.Runs.{put_of, put_in, objects_from, spelled}
use Rattle.link_talk.specs.declared.party.Party.{Party}
use Rattle.link_talk.specs.Channels.{Entry, Reading, reading}
use Rattle.link_talk.specs.ObjectsHeard.{put_within, spelled_within, objects_between, objects_with}
use Rattle.link_talk.specs.Shortening.{shortened}

abbrev Front : Type 0
Front = Result (List ℕ × List ℕ) ObexRefusal

-- what is made of the front of a packet
abbrev judged : List ℕ → Front → Option PlainPacket
judged packet front = put_of (front >>= (λ found. headers_in found.1 >>= (λ headers. Ok (record { code = slice_index packet 0; extra = found.0; headers = headers }))))

put_is : (most : ℕ) (packet : List ℕ) → put_within most packet ≡ judged packet (front_at Request most packet)
unfolding packet_in
put_is most packet = refl

abbrev behind_maximum : List ℕ → Front
behind_maximum packet = cond (not (eqb (big_number 2 (drop 1 packet)) (length packet))) (Err BadLength) (behind_length Request packet)

abbrev front_by : Bool → Bool → Front → Front
front_by short above rest = cond short (Err Short) (cond above (Err AboveMaximum) rest)

abbrev is_short : List ℕ → Bool
is_short packet = ltb (length packet) (3 + fields_len Request (slice_index packet 0))

front_is : (most : ℕ) (packet : List ℕ) → front_at Request most packet ≡ front_by (is_short packet) (ltb most (length packet)) (behind_maximum packet)
unfolding front_at
front_is most packet = refl

refused : (packet : List ℕ) (short : Bool) (rest : Front) → judged packet (front_by short true rest) ≡ None
refused packet true rest = refl
refused packet false rest = refl

no_put : put_in [] ≡ None
no_put = put_is 65535 [] ∙ ap (judged []) (front_is 65535 [])

below_all : (most size : ℕ) → most ≤ 65535 → ltb most size ≡ false → ltb 65535 size ≡ false
below_all most size fits within = by_test (ltb 65535 size) refl
  where
    by_test : (t : Bool) → ltb 65535 size ≡ t → t ≡ false
    by_test true is = absurd (let a : 65535 < size = ltb-true 65535 size is in let b : size ≤ most = ltb-false most size within in omega arith)
    by_test false is = refl

put_by : (most : ℕ) (packet : List ℕ) (above : Bool) → most ≤ 65535 → ltb most (length packet) ≡ above → put_within most packet ≡ put_in (cond above [] packet)
put_by most packet true fits is =
    put_is most packet ∙ (ap (judged packet) (front_is most packet ∙ ap (λ b. front_by (is_short packet) b (behind_maximum packet)) is) ∙ (refused packet (is_short packet) (behind_maximum packet) ∙ sym no_put))
put_by most packet false fits is =
    put_is most packet
    ∙ (ap (judged packet) (front_is most packet ∙ (ap (λ b. front_by (is_short packet) b (behind_maximum packet)) (is ∙ sym (below_all most (length packet) fits is)) ∙ sym (front_is 65535 packet)))
    ∙ sym (put_is 65535 packet))

puts_are : (most : ℕ) (packets : List (List ℕ)) → most ≤ 65535 → map (put_within most) packets ≡ map put_in (map (shortened most) packets)
puts_are most [] fits = refl
puts_are most (packet ∷ packets) fits =
    ap (λ put. put ∷ map (put_within most) packets) (put_by most packet (ltb most (length packet)) fits refl)
    ∙ ap (λ puts. put_in (shortened most packet) ∷ puts) (puts_are most packets fits)

pub spelled_is : (most : ℕ) (packets short : List (List ℕ)) (objects : List Object) → most ≤ 65535 → short ≡ map (shortened most) packets → objects ≡ spelled short → objects ≡ spelled_within most packets
spelled_is most packets short objects fits short_is is = is ∙ (ap spelled short_is ∙ sym (ap (objects_from []) (puts_are most packets fits)))
