-- A stream of packets in two parts.
use Rattle.std.proofs.Common.{◌≡◌, ℕ, List, [], ◌∷◌, ◌++◌, length, drop, inl, arith, refl, sym, ap, ◌∙◌, append_assoc}
use Rattle.std.specs.List.{flat_map, AllByRecursion}
use Rattle.std.proofs.lemmas.Grind.{flat_map-append}
use Rattle.link_talk.specs.rfcomm_frames.specs.ObexPackets.{IsPacket, HasNoPacket, obex_packets}
use Rattle.link_talk.specs.rfcomm_frames.proofs.ObexSplits.{obex_packets-right, obex_packets-one}
use Rattle.talk_laws.specs.Packets.{rest_of}
use Rattle.talk_laws.proofs.Passes.{drop_front}

all_both : {X : Type 0} (P : X → Type 0) (xs ys : List X) → AllByRecursion P xs → AllByRecursion P ys → AllByRecursion P (xs ++ ys)
all_both P [] ys first second = second
all_both P (x ∷ xs) ys (now, first) second = (now, all_both P xs ys first second)

abbrev joined : List (List ℕ) → List ℕ
joined packets = flat_map (λ (packet : List ℕ). packet) packets

-- what stands behind packets with no whole one behind them
parts_of : (xs rest : List ℕ) (packets : List (List ℕ)) → xs ≡ joined packets ++ rest → AllByRecursion IsPacket packets → HasNoPacket rest → (obex_packets xs ≡ packets) × (rest_of xs ≡ rest)
parts_of xs rest packets whole each none =
    let same = obex_packets-one xs packets (record { rest = rest; whole = whole; each = each; no_more = none }) in (
      sym same,
      ap (λ ps. drop (length (joined ps)) xs) (sym same) ∙ (ap (drop (length (joined packets))) whole ∙ drop_front (joined packets) rest),
    )

rest_held : (xs : List ℕ) → rest_of xs ≡ (obex_packets-right xs).rest
rest_held xs =
    let all = obex_packets-right xs in
    ap (drop (length (joined (obex_packets xs)))) all.whole ∙ drop_front (joined (obex_packets xs)) all.rest

abbrev Splits : (xs ys rest : List ℕ) → Type 0
Splits xs ys rest = (obex_packets (xs ++ ys) ≡ obex_packets xs ++ obex_packets (rest ++ ys)) × (rest_of (xs ++ ys) ≡ rest_of (rest ++ ys))

split_by : (xs ys rest : List ℕ) → xs ≡ joined (obex_packets xs) ++ rest → Splits xs ys rest
split_by xs ys rest whole =
    let later = obex_packets-right (rest ++ ys) in
    let old = obex_packets xs in
    let new = obex_packets (rest ++ ys) in
    let all : xs ++ ys ≡ joined (old ++ new) ++ later.rest =
    ap (λ zs. zs ++ ys) whole
    ∙ (append_assoc (joined old) rest ys
    ∙ (ap (λ zs. joined old ++ zs) later.whole
    ∙ (sym (append_assoc (joined old) (joined new) later.rest) ∙ ap (λ zs. zs ++ later.rest) (sym (flat_map-append (λ (packet : List ℕ). packet) old new))))) in
    let found = parts_of (xs ++ ys) later.rest (old ++ new) all (all_both IsPacket old new (obex_packets-right xs).each later.each) later.no_more in
    (found.0, found.1 ∙ sym (rest_held (rest ++ ys)))

-- the packets of a longer stream are those of the shorter one, and those of what stood behind them with the octets more
pub stream-splits : (xs ys : List ℕ) → Splits xs ys (rest_of xs)
stream-splits xs ys = split_by xs ys (rest_of xs) ((obex_packets-right xs).whole ∙ ap (λ rest. joined (obex_packets xs) ++ rest) (sym (rest_held xs)))

pub no_stream : (obex_packets [] ≡ []) × (rest_of [] ≡ [])
no_stream = parts_of [] [] [] refl tt (inl (omega arith))
