-- Something is read of whatever octets stand where an entry should begin, and so of all octets.
use Rattle.std.proofs.Common.{◌≡◌, ℕ, zero, suc, ◌+◌, ◌^◌, ◌<◌, ◌≤◌, ◌⊎◌, List, [], ◌∷◌, ◌++◌, length, take, drop, Option, Some, None, Result, Ok, Err, refl, sym, ap, subst, ◌∙◌, append_assoc, arith, inl, inr, length-append}
use Rattle.std.specs.Prelude.{MatchOption}
use Rattle.std.proofs.lemmas.Bool.{cases_lt}
use Rattle.std.proofs.lemmas.List.{append-nil, take_all, take-append-drop, drop_at}
use Rattle.byteorder.specs.Endian.{big_bytes, big_number}
use Rattle.byteorder.specs.Numbers.{big_number-reads_back}
use Rattle.bt_base.specs.Octets.{IsOctets, be16}
use Rattle.bt_base.proofs.OctetLemmas.{be16-front}
use Rattle.h4_framing.specs.Packets.{Packet, spelling, IsPacket}
use Rattle.h4_framing.specs.Stream.{Ending as PacketEnding, Whole, Cut, Fault, Reads}
use Rattle.h4_framing.proofs.ReadingLemmas.{each_read, one_reading}
use Rattle.h4_framing.proofs.OctetLists.{IsOctets-drop, IsOctets-take, IsOctets-tail}
use Rattle.push_terms.specs.declared.word.Side.{Side}
use Rattle.push_terms.specs.declared.word.Side.TheVariants as sides
use Rattle.push_terms.specs.declared.word.Word.{Word}
use Rattle.push_terms.specs.declared.outcome.Outcome.{Outcome}
use Rattle.push_terms.specs.Words.{word_text}
use Rattle.push_terms.specs.Outcomes.{outcome_text}
use Rattle.script_words.specs.Words.{word_read}
use Rattle.script_words.specs.Outcomes.{outcome_read}
use Rattle.script_words.proofs.WordsWritten.{word_again, word_written}
use Rattle.script_words.proofs.OutcomesWritten.{outcome_again, outcome_written}
use Rattle.capture.specs.declared.flow.Flow.{Flow}
use Rattle.capture.specs.declared.flow.Flow.TheVariants.{Out, Into}
use Rattle.capture.specs.declared.entry_refusal.EntryRefusal.{EntryRefusal}
use Rattle.capture.specs.declared.entry_refusal.EntryRefusal.TheVariants.{BadTag, Truncated, BadRecord}
use Rattle.capture.specs.Entries.{Entry, Moved, Acted, Begun, Ended, IsEntry, moved_tag, tag_of, entry_octets}
use Rattle.capture.specs.EntryReading.{IsTag, record_octets, IsOf, OfNone, IsFront}
use Rattle.capture.specs.CaptureReading.{IsReading}
use Rattle.capture.proofs.EntryLaws.{fronts_same, moved_low}
use Rattle.capture.proofs.FrontLaws.{cut_at_once, cut_in_head, cut_in_body, whole_record}
use Rattle.tagged_entries.specs.Records.{EachIsRead}
use Rattle.tagged_entries.proofs.LongNumbers.{long_front, long_short}

-- ---- the packet that octets are

-- no packet has exactly these octets
abbrev IsNone : List ℕ → Type 0
IsNone octets = (packet : Packet) → IsPacket 65535 packet → spelling packet ≡ octets → ⊥

abbrev pub IsThat : List ℕ → Option Packet → Type 0
IsThat octets found = MatchOption found (IsNone octets) (λ packet. IsPacket 65535 packet × (spelling packet ≡ octets))

-- octets that are exactly one packet are read as it
only_one : (octets : List ℕ) (ps : List Packet) (e : PacketEnding) → Reads 65535 octets ps e → (q : Packet) → IsPacket 65535 q → spelling q ≡ octets → (ps ≡ q ∷ []) × (e ≡ Whole)
only_one octets ps e read q is spelled =
    one_reading 65535 octets ps (q ∷ []) e Whole read (record { each = (is, tt); rest = []; whole = sym spelled ∙ sym (append-nil (spelling q)) ∙ sym (append-nil (spelling q ++ [])); ends = refl })

packet_by : (octets : List ℕ) (ps : List Packet) (e : PacketEnding) → Reads 65535 octets ps e → (found : Option Packet) × IsThat octets found
packet_by octets [] e read = (None, λ q is spelled. let only = only_one octets [] e read q is spelled in let lists : [] ≡ q ∷ [] = only.0 in cc)
packet_by octets (p ∷ r ∷ ps) e read = (None, λ q is spelled. let only = only_one octets (p ∷ r ∷ ps) e read q is spelled in let lists : p ∷ r ∷ ps ≡ q ∷ [] = only.0 in cc)
packet_by octets (p ∷ []) Whole read =
    (Some p, (read.each.0, sym (read.whole ∙ ap (λ (t : List ℕ). (spelling p ++ []) ++ t) read.ends ∙ append-nil (spelling p ++ []) ∙ append-nil (spelling p))))
packet_by octets (p ∷ []) Cut read = (None, λ q is spelled. let only = only_one octets (p ∷ []) Cut read q is spelled in let ends : Cut ≡ Whole = only.1 in cc)
packet_by octets (p ∷ []) (Fault refusal place) read = (None, λ q is spelled. let only = only_one octets (p ∷ []) (Fault refusal place) read q is spelled in let ends : Fault refusal place ≡ Whole = only.1 in cc)

pub packet_in : (octets : List ℕ) → IsOctets octets → (found : Option Packet) × IsThat octets found
packet_in octets fits = let read = each_read 65535 octets (omega arith) fits in packet_by octets read.0 read.1 read.2

-- ---- the entry of a record

-- an entry has that tag and that payload, or none has
abbrev Judged : ℕ → List ℕ → Type 0
Judged tag payload = ((entry : Entry) × IsOf tag payload entry) ⊎ OfNone tag payload

no_move : (side : Side) (flow : Flow) (payload : List ℕ) → IsNone payload → OfNone (moved_tag side flow) payload
no_move side flow payload none (Moved s f p) (is, tag, e) = none p is.0 e
no_move side flow payload none (Acted n w) (is, tag, e) = omega (arith, moved_low side flow, tag)
no_move side flow payload none (Begun n) (is, tag, e) = omega (arith, moved_low side flow, tag)
no_move side flow payload none (Ended n o) (is, tag, e) = omega (arith, moved_low side flow, tag)

move_by : (side : Side) (flow : Flow) (payload : List ℕ) → length payload < 2 ^ 16 → (found : Option Packet) → IsThat payload found → Judged (moved_tag side flow) payload
move_by side flow payload short None none = inr (no_move side flow payload none)
move_by side flow payload short (Some p) (is, spelled) = inl (Moved side flow p, ((is, subst (λ (t : List ℕ). length t < 2 ^ 16) (sym spelled) short), refl, spelled))

move_judged : (side : Side) (flow : Flow) (payload : List ℕ) → IsOctets payload → length payload < 2 ^ 16 → Judged (moved_tag side flow) payload
move_judged side flow payload fits short = let found = packet_in payload fits in move_by side flow payload short found.0 found.1

no_acted : (payload : List ℕ) → ((n : ℕ) (w : Word) → IsEntry (Acted n w) → big_bytes 8 n ++ word_text w ≡ payload → ⊥) → OfNone 5 payload
no_acted payload none (Moved s f p) (is, tag, e) = omega (arith, moved_low s f, tag)
no_acted payload none (Acted n w) (is, tag, e) = none n w is e
no_acted payload none (Begun n) (is, tag, e) = absurd (omega (arith, tag))
no_acted payload none (Ended n o) (is, tag, e) = absurd (omega (arith, tag))

no_begun : (payload : List ℕ) → (length payload ≡ 2 → ⊥) → OfNone 6 payload
no_begun payload none (Moved s f p) (is, tag, e) = omega (arith, moved_low s f, tag)
no_begun payload none (Acted n w) (is, tag, e) = absurd (omega (arith, tag))
no_begun payload none (Begun n) (is, tag, e) = none (ap length (sym e))
no_begun payload none (Ended n o) (is, tag, e) = absurd (omega (arith, tag))

no_ended : (payload : List ℕ) → ((n : ℕ) (o : Outcome) → IsEntry (Ended n o) → be16 n ++ outcome_text o ≡ payload → ⊥) → OfNone 7 payload
no_ended payload none (Moved s f p) (is, tag, e) = omega (arith, moved_low s f, tag)
no_ended payload none (Acted n w) (is, tag, e) = absurd (omega (arith, tag))
no_ended payload none (Begun n) (is, tag, e) = absurd (omega (arith, tag))
no_ended payload none (Ended n o) (is, tag, e) = none n o is e

none_some : {X : Type 0} {x : X} → None ≡ Some x → ⊥
none_some {X} {x} e = cc

-- a number of eight octets, and a text
acted_by : (n : ℕ) (text payload : List ℕ) → n < 2 ^ 64 → payload ≡ big_bytes 8 n ++ text → (found : Option Word) → word_read text ≡ found → Judged 5 payload
acted_by n text payload small whole None read =
    inr (no_acted payload (λ m w is e. let parts = fronts_same (big_bytes 8 m) (big_bytes 8 n) (word_text w) text refl (e ∙ whole) in none_some (sym read ∙ ap word_read (sym parts.1) ∙ word_again w is.2)))
acted_by zero text payload small whole (Some v) read =
    inr (no_acted payload (λ m w is e.
    let parts = fronts_same (big_bytes 8 m) (big_bytes 8 0) (word_text w) text refl (e ∙ whole) in
    let same : m ≡ 0 = sym (big_number-reads_back 8 m [] is.1) ∙ ap (λ (xs : List ℕ). big_number 8 (xs ++ [])) parts.0 ∙ big_number-reads_back 8 0 [] small in
    absurd (omega (arith, is.0, same))))
acted_by (suc n) text payload small whole (Some v) read =
    let says = word_written text v read in inl (Acted (suc n) v, ((omega arith, small, says.0), refl, ap (λ (t : List ℕ). big_bytes 8 (suc n) ++ t) (sym says.1) ∙ sym whole))

front_drop : (n : ℕ) (front payload : List ℕ) → front ≡ take n payload → payload ≡ front ++ drop n payload
front_drop n front payload is = sym (take-append-drop n payload) ∙ ap (λ (t : List ℕ). t ++ drop n payload) (sym is)

acted_judged : (payload : List ℕ) → IsOctets payload → Judged 5 payload
acted_judged payload fits =
    elim (cases_lt (length payload) 8) [
      | inl short ↦ inr (no_acted payload (λ n w is e. absurd (omega (arith, short, ap length e, length-append (big_bytes 8 n) (word_text w)))))
      | inr long ↦ acted_by (big_number 8 payload) (drop 8 payload) payload (long_short payload fits) (front_drop 8 (big_bytes 8 (big_number 8 payload)) payload (long_front payload fits long)) (word_read (drop 8 payload)) refl
    ]

short_number : (payload : List ℕ) → IsOctets payload → big_number 2 payload < 2 ^ 16
short_number payload fits = omega (arith, fits 0, fits 1)

begun_of : (payload : List ℕ) → IsOctets payload → length payload ≡ 2 → Judged 6 payload
begun_of payload fits long =
    inl (Begun (big_number 2 payload), (short_number payload fits, refl, be16-front payload fits (omega (arith, long)) ∙ take_all 2 payload (omega (arith, long))))

begun_judged : (payload : List ℕ) → IsOctets payload → Judged 6 payload
begun_judged payload fits =
    elim (cases_lt (length payload) 2) [
      | inl short ↦ inr (no_begun payload (λ e. absurd (omega (arith, short, e))))
      | inr long ↦ elim (cases_lt 2 (length payload)) [ inl more ↦ inr (no_begun payload (λ e. absurd (omega (arith, more, e)))) | inr most ↦ begun_of payload fits (omega (arith, long, most)) ]
    ]

ended_by : (n : ℕ) (text payload : List ℕ) → n < 2 ^ 16 → payload ≡ be16 n ++ text → (found : Option Outcome) → outcome_read text ≡ found → Judged 7 payload
ended_by n text payload small whole None read =
    inr (no_ended payload (λ m o is e. let parts = fronts_same (be16 m) (be16 n) (outcome_text o) text refl (e ∙ whole) in none_some (sym read ∙ ap outcome_read (sym parts.1) ∙ outcome_again o is.1)))
ended_by n text payload small whole (Some o) read =
    let says = outcome_written text o read in inl (Ended n o, ((small, says.0), refl, ap (λ (t : List ℕ). be16 n ++ t) (sym says.1) ∙ sym whole))

ended_judged : (payload : List ℕ) → IsOctets payload → Judged 7 payload
ended_judged payload fits =
    elim (cases_lt (length payload) 2) [
      | inl short ↦ inr (no_ended payload (λ n o is e. absurd (omega (arith, short, ap length e, length-append (be16 n) (outcome_text o)))))
      | inr long ↦ ended_by (big_number 2 payload) (drop 2 payload) payload (short_number payload fits) (front_drop 2 (be16 (big_number 2 payload)) payload (be16-front payload fits long)) (outcome_read (drop 2 payload)) refl
    ]

judged : (tag : ℕ) (payload : List ℕ) → IsTag tag → IsOctets payload → length payload < 2 ^ 16 → Judged tag payload
judged zero payload is fits short = absurd (omega (arith, is.0))
judged (suc zero) payload is fits short = move_judged sides.A Out payload fits short
judged (suc (suc zero)) payload is fits short = move_judged sides.A Into payload fits short
judged (suc (suc (suc zero))) payload is fits short = move_judged sides.B Out payload fits short
judged (suc (suc (suc (suc zero)))) payload is fits short = move_judged sides.B Into payload fits short
judged (suc (suc (suc (suc (suc zero))))) payload is fits short = acted_judged payload fits
judged (suc (suc (suc (suc (suc (suc zero)))))) payload is fits short = begun_judged payload fits
judged (suc (suc (suc (suc (suc (suc (suc zero))))))) payload is fits short = ended_judged payload fits
judged (suc (suc (suc (suc (suc (suc (suc (suc n)))))))) payload is fits short = absurd (omega (arith, is.1))

-- ---- what stands at the front

abbrev Fronted : List ℕ → Type 0
Fronted octets = (answer : Result (Entry × ℕ) EntryRefusal) × IsFront octets answer

record_front : (octets : List ℕ) (tag : ℕ) (payload rest : List ℕ) → IsTag tag → length payload < 2 ^ 16 → octets ≡ record_octets tag payload ++ rest → Judged tag payload → Fronted octets
record_front octets tag payload rest is short whole (inl (entry, (holds, tags, payloads))) =
    (Ok (entry, length (entry_octets entry)), (rest, holds, whole ∙ ap (λ (t : ℕ). record_octets t payload ++ rest) (sym tags) ∙ ap (λ (t : List ℕ). record_octets (tag_of entry) t ++ rest) (sym payloads), refl))
record_front octets tag payload rest is short whole (inr none) = (Err BadRecord, (tag, payload, rest, (is, short), whole, none))

behind_front : (tag : ℕ) (behind : List ℕ) → IsOctets (tag ∷ behind) → IsTag tag → 2 ≤ length behind → Fronted (tag ∷ behind)
behind_front tag behind fits is two =
    let inner = IsOctets-tail tag behind fits in
    let n : ℕ = big_number 2 behind in
    let body : List ℕ = drop 2 behind in
    let small : n < 2 ^ 16 = short_number behind inner in
    let number : behind ≡ be16 n ++ body = front_drop 2 (be16 n) behind (be16-front behind inner two) in
    elim (cases_lt (length body) n) [
      | inl short ↦ (Err Truncated, cut_in_body (tag ∷ behind) tag behind n body is refl number small short)
      | inr long ↦
          let whole = whole_record (tag ∷ behind) tag behind n body (take n body) refl number long refl in
          let short : length (take n body) < 2 ^ 16 = omega (arith, whole.0, small) in
          record_front (tag ∷ behind) tag (take n body) (drop n body) is short whole.1 (judged tag (take n body) is (IsOctets-take n body (IsOctets-drop 2 behind inner)) short)
    ]

tag_front : (tag : ℕ) (behind : List ℕ) → IsOctets (tag ∷ behind) → IsTag tag → Fronted (tag ∷ behind)
tag_front tag behind fits is =
    elim (cases_lt (length behind) 2) [
      | inl short ↦ (Err Truncated, cut_in_head (tag ∷ behind) tag behind fits is refl short)
      | inr two ↦ behind_front tag behind fits is two
    ]

no_tag : (tag : ℕ) (behind : List ℕ) → (IsTag tag → ⊥) → Fronted (tag ∷ behind)
no_tag tag behind none = (Err BadTag, (tag, behind, refl, none))

pub front_of : (octets : List ℕ) → IsOctets octets → Fronted octets
front_of [] fits = (Err Truncated, cut_at_once [] refl)
front_of (tag ∷ behind) fits =
    elim (cases_lt tag 1) [
      | inl low ↦ no_tag tag behind (λ is. absurd (omega (arith, low, is.0)))
      | inr some ↦ elim (cases_lt 7 tag) [ inl high ↦ no_tag tag behind (λ is. absurd (omega (arith, high, is.1))) | inr most ↦ tag_front tag behind fits (some, most) ]
    ]

-- ---- all octets

abbrev Read : List ℕ → Type 0
Read octets = (reading : Result (List Entry) (EntryRefusal × ℕ)) × IsReading octets reading

nothing_read : (octets : List ℕ) → octets ≡ [] → Read octets
nothing_read octets none = (Ok [], record { each = tt; whole = none })

more_read : (entry : Entry) (octets rest : List ℕ) → IsEntry entry → octets ≡ entry_octets entry ++ rest → Read rest → Read octets
more_read entry octets rest is whole (Ok es, read) = (Ok (entry ∷ es), record { each = (is, read.each); whole = whole ∙ ap (λ (t : List ℕ). entry_octets entry ++ t) read.whole })
more_read entry octets rest is whole (Err (refusal, place), read) = (
  Err (refusal, length (entry_octets entry) + place),
  record {
    entries = entry ∷ read.entries;
    rest = read.rest;
    each = (is, read.each);
    whole = whole ∙ ap (λ (t : List ℕ). entry_octets entry ++ t) read.whole ∙ sym (append_assoc (entry_octets entry) _ read.rest);
    more = read.more;
    refused = read.refused;
    stands = ap (λ (n : ℕ). length (entry_octets entry) + n) read.stands ∙ sym (length-append (entry_octets entry) _);
  },
)

nothing_left : (octets : List ℕ) → length octets ≡ 0 → octets ≡ []
nothing_left [] e = refl
nothing_left (x ∷ octets) e = absurd (omega (arith, e))

suffix_octets : (octets front rest : List ℕ) → IsOctets octets → octets ≡ front ++ rest → IsOctets rest
suffix_octets octets front rest fits whole = subst IsOctets (ap (drop (length front)) whole ∙ drop_at front rest (length front) refl) (IsOctets-drop (length front) octets fits)

-- behind an entry there are fewer octets
front_read : (x : ℕ) (octets : List ℕ) → IsOctets (x ∷ octets) → ((rest : List ℕ) → IsOctets rest → length rest ≤ length octets → Read rest) → Fronted (x ∷ octets) → Read (x ∷ octets)
front_read x octets fits behind (Ok (entry, used), (rest, is, whole, n)) =
    more_read entry (x ∷ octets) rest is whole (behind rest (suffix_octets (x ∷ octets) (entry_octets entry) rest fits whole) (omega (arith, ap length whole, length-append (entry_octets entry) rest)))
front_read x octets fits behind (Err refusal, front) =
    (Err (refusal, 0), record { entries = []; rest = x ∷ octets; each = tt; whole = refl; more = (λ e. absurd cc); refused = front; stands = refl })

-- octets of at most that many
read_within : (most : ℕ) (octets : List ℕ) → IsOctets octets → length octets ≤ most → Read octets
read_within zero octets fits short = nothing_read octets (nothing_left octets (omega (arith, short)))
read_within (suc most) [] fits short = nothing_read [] refl
read_within (suc most) (x ∷ octets) fits short = front_read x octets fits (λ rest inner le. read_within most rest inner (omega (arith, le, short))) (front_of (x ∷ octets) fits)

pub each_is_read : EachIsRead
each_is_read octets fits = read_within (length octets) octets fits (omega arith)
