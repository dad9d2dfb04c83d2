-- How the packets on a stream are told of one by one.
use Rattle.std.proofs.Common.{◌≡◌, ℕ, zero, suc, ◌-◌, ◌≤◌, List, [], ◌∷◌, ◌++◌, length, take, drop, map, fold, refl, sym, ap, ◌∙◌, append_assoc, append-nil, length-append, arith}
use Rattle.std.specs.List.{flat_map}
use Rattle.std.proofs.lemmas.List.{map-append, length-drop}
use Rattle.std.proofs.lemmas.List.Sums.{fold-append}
use Rattle.rfcomm_frames.specs.ObexPackets.{IsPacket, HasNoPacket, obex_packets}
use Rattle.capture.specs.declared.flow.Flow.{Flow}
use Rattle.capture.specs.declared.flow.Flow.TheVariants.{Out, Into}
use Rattle.link_talk.specs.declared.party.Party.{Party}
use Rattle.link_talk.specs.Sdus.{spoken_as, spoken_one_way}
use Rattle.link_talk.specs.Packets.{OverRfcomm}
use Rattle.link_talk.specs.ObjectsHeard.{put_within}
use Rattle.link_readers.specs.talk_laws.specs.Packets.{Streams, stream_with, packets_now, rest_of}
use Rattle.object_lines.specs.Tallies.{Told, Tally, tally_after, told_by, told_from}
use Rattle.object_lines.specs.Matters.{puts_of}
use Rattle.object_lines.proofs.Splitting.{IsSplit, split_whole, split_more}
use Rattle.object_lines.proofs.Mattering.{told_both, none_out}

-- these packets of a stream were told of, and the rest is left
pub record IsPacked (most : ℕ) (stream rest : List ℕ) (before now : Tally) (old new : List Told) : Type 0 where
  pub packets : List (List ℕ)
  pub split : IsSplit stream packets rest
  pub tally : now ≡ fold tally_after before (map (put_within most) packets)
  pub told : new ≡ old ++ told_from before (map (put_within most) packets)

pub packed_none : (most : ℕ) (stream : List ℕ) (tally : Tally) (found : List Told) → IsPacked most stream stream tally tally found found
packed_none most stream tally found = record { packets = []; split = record { whole = refl; each = tt }; tally = refl; told = sym (append-nil found) }

pub packed_more : (most : ℕ) (stream rest : List ℕ) (before now next : Tally) (old new later : List Told) (size : ℕ) → IsPacket (take size rest) → IsPacked most stream rest before now old new
    → next ≡ tally_after now (put_within most (take size rest)) → later ≡ new ++ told_by now (put_within most (take size rest))
    → IsPacked most stream (drop size rest) before next old later
packed_more most stream rest before now next old new later size is packed goes tells =
    let one = take size rest in
    let puts = map (put_within most) packed.packets in
    let more = map-append (put_within most) packed.packets (one ∷ []) in
    record {
      packets = packed.packets ++ one ∷ [];
      split = split_more stream packed.packets (packed.packets ++ one ∷ []) rest size is refl packed.split;
      tally = goes ∙ ap (λ t. tally_after t (put_within most one)) packed.tally ∙ sym (fold-append tally_after before puts (put_within most one ∷ [])) ∙ ap (fold tally_after before) (sym more);
      told =
          tells
          ∙ ap (λ ts. ts ++ told_by now (put_within most one)) packed.told
          ∙ append_assoc old (told_from before puts) (told_by now (put_within most one))
          ∙ ap (λ ts. old ++ (told_from before puts ++ ts)) (sym (append-nil (told_by now (put_within most one))) ∙ ap (λ t. told_from t (put_within most one ∷ [])) packed.tally)
          ∙ ap (λ ts. old ++ ts) (sym (told_both before puts (put_within most one ∷ [])) ∙ ap (told_from before) (sym more));
    }

take_whole : (n : ℕ) (xs : List ℕ) → length xs ≤ n → xs ≡ take n xs
take_whole zero [] le = refl
take_whole zero (x ∷ xs) le = absurd (omega (arith, le))
take_whole (suc n) [] le = refl
take_whole (suc n) (x ∷ xs) le = ap (λ ys. x ∷ ys) (take_whole n xs (omega (arith, le)))

-- what stands behind a packet
pub tail_is : (size : ℕ) (rest : List ℕ) → drop size rest ≡ take (length rest - size) (drop size rest)
tail_is size rest = take_whole (length rest - size) (drop size rest) (omega (arith, length-drop size rest))

drop_front : (xs ys : List ℕ) → drop (length xs) (xs ++ ys) ≡ ys
drop_front [] ys = refl
drop_front (x ∷ xs) ys = drop_front xs ys

-- what is left is what stands behind all packets
pub rest_is : (stream : List ℕ) (packets : List (List ℕ)) (rest : List ℕ) → IsSplit stream packets rest → HasNoPacket rest → rest ≡ rest_of stream
rest_is stream packets rest split none =
    let front = flat_map (λ (packet : List ℕ). packet) packets in
    sym (drop_front front rest) ∙ ap (drop (length front)) (sym split.whole) ∙ ap (λ ps. drop (length (flat_map (λ (packet : List ℕ). packet) ps)) stream) (split_whole stream packets rest split none)

pub end_is : (stream : List ℕ) (packets : List (List ℕ)) (rest : List ℕ) → IsSplit stream packets rest → HasNoPacket rest → drop (length stream - length rest) stream ≡ rest_of stream
end_is stream packets rest split none =
    let front = flat_map (λ (packet : List ℕ). packet) packets in
    let size : length stream - length rest ≡ length front = omega (arith, ap length split.whole, length-append front rest) in
    ap (λ n. drop n stream) size ∙ ap (drop (length front)) split.whole ∙ drop_front front rest ∙ rest_is stream packets rest split none

pub packed_tally : (most : ℕ) (stream rest : List ℕ) (before now : Tally) (old new : List Told) → IsPacked most stream rest before now old new → HasNoPacket rest → now ≡ fold tally_after before (map (put_within most) (obex_packets stream))
packed_tally most stream rest before now old new packed none = packed.tally ∙ ap (λ ps. fold tally_after before (map (put_within most) ps)) (split_whole stream packed.packets rest packed.split none)

pub packed_told : (most : ℕ) (stream rest : List ℕ) (before now : Tally) (old new : List Told) → IsPacked most stream rest before now old new → HasNoPacket rest → new ≡ old ++ told_from before (map (put_within most) (obex_packets stream))
packed_told most stream rest before now old new packed none = packed.told ∙ ap (λ ps. old ++ told_from before (map (put_within most) ps)) (split_whole stream packed.packets rest packed.split none)

-- ---- an SDU over RFCOMM

same_way : (list : List (List ℕ)) → spoken_one_way Into (map (spoken_as Into) list) ≡ list
same_way [] = refl
same_way (octets ∷ list) = ap (λ xs. octets ∷ xs) (same_way list)

-- the packets that are whole with one that comes in, and with one that goes out
pub into_puts : (party : Party) (streams : Streams) (octets : List ℕ)
    → puts_of party (packets_now party OverRfcomm streams (spoken_as Into octets)) ≡ map (put_within party.packet) (obex_packets (stream_with party Into streams (spoken_as Into octets)))
into_puts party streams octets = ap (map (put_within party.packet)) (same_way (obex_packets (stream_with party Into streams (spoken_as Into octets))))

pub out_puts : (party : Party) (streams : Streams) (octets : List ℕ) → puts_of party (packets_now party OverRfcomm streams (spoken_as Out octets)) ≡ []
out_puts party streams octets = none_out party (obex_packets (stream_with party Out streams (spoken_as Out octets)))

-- by the way that it went
pub came_puts : (party : Party) (streams : Streams) (flow : Flow) (octets : List ℕ) → flow ≡ Into
    → map (put_within party.packet) (obex_packets (stream_with party Into streams (spoken_as flow octets))) ≡ puts_of party (packets_now party OverRfcomm streams (spoken_as flow octets))
came_puts party streams Into octets is = sym (into_puts party streams octets)
came_puts party streams Out octets is = cc

pub went_puts : (party : Party) (streams : Streams) (flow : Flow) (octets : List ℕ) → flow ≡ Out → [] ≡ puts_of party (packets_now party OverRfcomm streams (spoken_as flow octets))
went_puts party streams Out octets is = sym (out_puts party streams octets)
went_puts party streams Into octets is = cc
