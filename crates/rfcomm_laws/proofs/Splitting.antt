-- The splits of an assembler are those of the whole stream.
use Rattle.std.proofs.Common.{arith, ◌≡◌, inl, inr, ◌≤◌, ℕ, List, [], ◌∷◌, ◌++◌, length, sym, ap, ◌∙◌, append_assoc}
use Rattle.std.specs.List.{flat_map, AllByRecursion}
use Rattle.std.proofs.lemmas.Bool.{cases_lt}
use Rattle.std.proofs.lemmas.Grind.{flat_map-append}
use Rattle.rfcomm_frames.specs.ObexPackets.{stated_size, IsPacket, HasNoPacket, obex_packets}
use Rattle.rfcomm_frames.proofs.ObexSplits.{obex_packets-right, obex_packets-one}
use Rattle.obex_headers.specs.declared.fault.ObexRefusal.TheVariants.{BadLength}
use Rattle.obex_headers.specs.Assembling.{stated_len, IsFramed, IsPartial, BeginsNone, packets_joined, Splits, BreaksOff, taken, given}
use Rattle.obex_headers.proofs.AssemblerLaws.{any_pieces}
use Rattle.rfcomm_laws.specs.Assembling.{PiecesAreOfOneStream}

-- both read one length
pub same_length : (octets : List ℕ) → 3 ≤ length octets → stated_len octets ≡ stated_size octets
same_length [] long = absurd (omega arith)
same_length (a ∷ []) long = absurd (omega arith)
same_length (a ∷ b ∷ []) long = absurd (omega arith)
same_length (a ∷ b ∷ c ∷ octets) long = omega arith

pub framed_packet : (maximum : ℕ) (octets : List ℕ) → IsFramed maximum octets → IsPacket octets
framed_packet maximum octets framed = (framed.0, sym (same_length octets framed.0) ∙ framed.2)

framed_packets : (maximum : ℕ) (packets : List (List ℕ)) → AllByRecursion (IsFramed maximum) packets → AllByRecursion IsPacket packets
framed_packets maximum [] all = tt
framed_packets maximum (packet ∷ packets) all = (framed_packet maximum packet all.0, framed_packets maximum packets all.1)

pub partial_none : (maximum : ℕ) (rest : List ℕ) → IsPartial maximum rest → HasNoPacket rest
partial_none maximum rest (inl short) = inl short
partial_none maximum rest (inr few) =
    elim (cases_lt (length rest) 3) [
      | inl short ↦ inl short
      | inr long ↦ inr (inr (let same = same_length rest long in omega (arith, same, few.2)))
    ]

pub small_none : (maximum : ℕ) (rest : List ℕ) → BeginsNone maximum rest BadLength → HasNoPacket rest
small_none maximum rest begins = inr (inl (let same = same_length rest begins.0 in omega (arith, same, begins.2)))

-- packets in front of a stream
all_append : (packets others : List (List ℕ)) → AllByRecursion IsPacket packets → AllByRecursion IsPacket others → AllByRecursion IsPacket (packets ++ others)
all_append [] others all more = more
all_append (packet ∷ packets) others all more = (all.0, all_append packets others all.1 more)

pub before : (stream rest : List ℕ) (packets : List (List ℕ)) → stream ≡ packets_joined packets ++ rest → AllByRecursion IsPacket packets → obex_packets stream ≡ packets ++ obex_packets rest
before stream rest packets whole each =
    let behind = obex_packets-right rest in
    sym (obex_packets-one stream (packets ++ obex_packets rest)
    (record {
      rest = behind.rest;
      whole = whole ∙ ap (λ (xs : List ℕ). packets_joined packets ++ xs) behind.whole ∙ sym (append_assoc (packets_joined packets) (packets_joined (obex_packets rest)) behind.rest)
          ∙ ap (λ (xs : List ℕ). xs ++ behind.rest) (sym (flat_map-append (λ (packet : List ℕ). packet) packets (obex_packets rest)));
      each = all_append packets (obex_packets rest) each behind.each;
      no_more = behind.no_more;
    }))

split_packets : (maximum : ℕ) (stream : List ℕ) (packets : List (List ℕ)) (rest : List ℕ) → Splits maximum stream packets rest → packets ≡ obex_packets stream
split_packets maximum stream packets rest s =
    obex_packets-one stream packets (record { rest = rest; whole = s.whole; each = framed_packets maximum packets s.each; no_more = partial_none maximum rest s.partial })

small_packets : (maximum : ℕ) (stream : List ℕ) (packets : List (List ℕ)) → BreaksOff maximum stream packets BadLength → packets ≡ obex_packets stream
small_packets maximum stream packets b =
    obex_packets-one stream packets (record { rest = b.rest; whole = b.whole; each = framed_packets maximum packets b.each; no_more = small_none maximum b.rest b.none })

pub pieces-are_of_one_stream : PiecesAreOfOneStream
pieces-are_of_one_stream = record {
  split = λ maximum calls new run none. split_packets maximum (flat_map taken calls) (flat_map given calls) new.held (any_pieces.split maximum calls new run none);
  refused = λ maximum calls piece refusal mid new run none answers.
      let b = any_pieces.refused maximum calls piece refusal mid new run none answers in
      (obex_packets b.rest, before (flat_map taken calls ++ piece) b.rest (flat_map given calls) b.whole (framed_packets maximum (flat_map given calls) b.each));
  too_small = λ maximum calls piece mid new run none answers.
      small_packets maximum (flat_map taken calls ++ piece) (flat_map given calls) (any_pieces.refused maximum calls piece BadLength mid new run none answers);
}
