-- Entries are known by their octets.
use Rattle.std.proofs.Common.{◌≡◌, ℕ, ◌/◌, ◌%◌, ◌^◌, ◌<◌, List, [], ◌∷◌, ◌++◌, length, get_or, take, drop, refl, sym, ap, ◌∙◌, arith}
use Rattle.std.specs.Prelude.{cond, nat_lt, ◌==◌}
use Rattle.std.specs.List.{AllByRecursion}
use Rattle.std.proofs.lemmas.List.{take_at, drop_at}
use Rattle.byteorder.specs.Endian.{big_bytes, big_number}
use Rattle.byteorder.specs.Numbers.{big_number-reads_back}
use Rattle.bt_base.specs.Octets.{be16}
use Rattle.bt_base.proofs.OctetLemmas.{be16-same}
use Rattle.h4_framing.specs.Packets.{Packet, spelling, IsPacket}
use Rattle.h4_framing.proofs.SpellingLemmas.{one_spelling}
use Rattle.push_terms.specs.declared.word.Side.{Side}
use Rattle.push_terms.specs.declared.word.Side.TheVariants as sides
use Rattle.push_terms.specs.declared.word.Word.{Word}
use Rattle.push_terms.specs.declared.outcome.Outcome.{Outcome}
use Rattle.push_terms.specs.Words.{word_text}
use Rattle.push_terms.specs.Outcomes.{outcome_text}
use Rattle.script_words.proofs.Lengths.{word_short, outcome_short}
use Rattle.script_words.proofs.WordsWritten.{one_word}
use Rattle.script_words.proofs.OutcomesWritten.{one_outcome}
use Rattle.capture.specs.declared.flow.Flow.{Flow}
use Rattle.capture.specs.declared.flow.Flow.TheVariants.{Out, Into}
use Rattle.capture.specs.Entries.{Entry, Moved, Acted, Begun, Ended, IsEntry, moved_tag, tag_of, payload_of, entry_octets, capture_octets}
use Rattle.capture.specs.EntryLaws.{NoEntryBeginsAnother, OneCapture}

-- the length of a payload fits its two octets
pub payload_short : (entry : Entry) → IsEntry entry → length (payload_of entry) < 2 ^ 16
payload_short (Moved side flow packet) is = is.1
payload_short (Acted ordinal word) is = omega (arith, word_short word is.2)
payload_short (Begun push) is = omega arith
payload_short (Ended push outcome) is = omega (arith, outcome_short outcome is.1)

-- octets with a head of three octets and a payload behind it are those of the entry
pub put_entry_octets : (entry : Entry) (n : ℕ) → n ≡ length (payload_of entry) → (tag : ℕ) (head number body rest : List ℕ) → tag ≡ tag_of entry → number ≡ be16 n → head ≡ tag ∷ get_or number 0 0 ∷ get_or number 1 0 ∷ [] → body ≡ payload_of entry ++ rest
    → head ++ body ≡ entry_octets entry ++ rest
put_entry_octets entry n long tag head number body rest e1 e2 e3 e4 = rw (e3, e2, e1, e4, long) refl

-- ---- a record of a tag, a length and a payload is read in one way

-- two lists that begin with as many octets each
pub fronts_same : (a b x y : List ℕ) → length a ≡ length b → a ++ x ≡ b ++ y → (a ≡ b) × (x ≡ y)
fronts_same a b x y long e = (
  sym (take_at a x (length a) refl) ∙ ap (take (length a)) e ∙ take_at b y (length a) (sym long),
  sym (drop_at a x (length a) refl) ∙ ap (drop (length a)) e ∙ drop_at b y (length a) (sym long),
)

lengths_same : (m n : ℕ) → m < 2 ^ 16 → n < 2 ^ 16 → m % 256 ≡ n % 256 → m / 256 % 256 ≡ n / 256 % 256 → m ≡ n
lengths_same m n p q e f = omega arith

abbrev pub recorded : ℕ → List ℕ → List ℕ
recorded tag payload = tag ∷ (be16 (length payload) ++ payload)

pub one_record : (s t : ℕ) (p q x y : List ℕ) → length p < 2 ^ 16 → length q < 2 ^ 16 → recorded s p ++ x ≡ recorded t q ++ y → (s ≡ t) × (p ≡ q) × (x ≡ y)
one_record s t p q x y short few e =
    let tags : s ≡ t = cc in
    let high : length p / 256 % 256 ≡ length q / 256 % 256 = cc in
    let low : length p % 256 ≡ length q % 256 = cc in
    let rest : p ++ x ≡ q ++ y = cc in
    let both = fronts_same p q x y (lengths_same (length p) (length q) short few low high) rest in
    (tags, both.0, both.1)

-- ---- a tag and a payload are those of one entry

abbrev side_of : ℕ → Side
side_of tag = cond (nat_lt tag 0x03) sides.A sides.B

abbrev flow_of : ℕ → Flow
flow_of tag = cond (tag % 2 == 1) Out Into

side_again : (side : Side) (flow : Flow) → side_of (moved_tag side flow) ≡ side
side_again sides.A Out = refl
side_again sides.A Into = refl
side_again sides.B Out = refl
side_again sides.B Into = refl

flow_again : (side : Side) (flow : Flow) → flow_of (moved_tag side flow) ≡ flow
flow_again sides.A Out = refl
flow_again sides.A Into = refl
flow_again sides.B Out = refl
flow_again sides.B Into = refl

pub moved_low : (side : Side) (flow : Flow) → moved_tag side flow < 5
moved_low sides.A Out = omega arith
moved_low sides.A Into = omega arith
moved_low sides.B Out = omega arith
moved_low sides.B Into = omega arith

moved_same : (s t : Side) (f g : Flow) (p q : Packet) → moved_tag s f ≡ moved_tag t g → p ≡ q → Moved s f p ≡ Moved t g q
moved_same s t f g p q e same =
    ap (λ side. Moved side f p) (sym (side_again s f) ∙ ap side_of e ∙ side_again t g)
    ∙ ap (λ flow. Moved t flow p) (sym (flow_again s f) ∙ ap flow_of e ∙ flow_again t g)
    ∙ ap (λ packet. Moved t g packet) same

packets_same : (p q : Packet) → IsPacket 65535 p → IsPacket 65535 q → spelling p ≡ spelling q → p ≡ q
packets_same p q is are e = (one_spelling 65535 p q [] [] is are (ap (λ (xs : List ℕ). xs ++ []) e)).0

ordinals_same : (m n : ℕ) → m < 2 ^ 64 → n < 2 ^ 64 → big_bytes 8 m ≡ big_bytes 8 n → m ≡ n
ordinals_same m n fits-m fits-n e = sym (big_number-reads_back 8 m [] fits-m) ∙ ap (λ (xs : List ℕ). big_number 8 (xs ++ [])) e ∙ big_number-reads_back 8 n [] fits-n

acted_same : (m n : ℕ) (v w : Word) → IsEntry (Acted m v) → IsEntry (Acted n w) → big_bytes 8 m ++ word_text v ≡ big_bytes 8 n ++ word_text w → Acted m v ≡ Acted n w
acted_same m n v w is are e =
    let parts = fronts_same (big_bytes 8 m) (big_bytes 8 n) (word_text v) (word_text w) refl e in
    ap (λ ordinal. Acted ordinal v) (ordinals_same m n is.1 are.1 parts.0) ∙ ap (λ word. Acted n word) (one_word (word_text v) v w (is.2, refl) (are.2, parts.1))

ended_same : (m n : ℕ) (o p : Outcome) → IsEntry (Ended m o) → IsEntry (Ended n p) → be16 m ++ outcome_text o ≡ be16 n ++ outcome_text p → Ended m o ≡ Ended n p
ended_same m n o p is are e =
    let parts = fronts_same (be16 m) (be16 n) (outcome_text o) (outcome_text p) refl e in
    ap (λ push. Ended push o) (be16-same m n is.0 are.0 parts.0) ∙ ap (λ outcome. Ended n outcome) (one_outcome (outcome_text o) o p (is.1, refl) (are.1, parts.1))

pub one_entry : (entry other : Entry) → IsEntry entry → IsEntry other → tag_of entry ≡ tag_of other → payload_of entry ≡ payload_of other → entry ≡ other
one_entry (Moved s f p) (Moved t g q) is are tags payloads = moved_same s t f g p q tags (packets_same p q is.0 are.0 payloads)
one_entry (Moved s f p) (Acted n w) is are tags payloads = absurd (omega (arith, moved_low s f, tags))
one_entry (Moved s f p) (Begun n) is are tags payloads = absurd (omega (arith, moved_low s f, tags))
one_entry (Moved s f p) (Ended n o) is are tags payloads = absurd (omega (arith, moved_low s f, tags))
one_entry (Acted m v) (Moved t g q) is are tags payloads = absurd (omega (arith, moved_low t g, tags))
one_entry (Acted m v) (Acted n w) is are tags payloads = acted_same m n v w is are payloads
one_entry (Acted m v) (Begun n) is are tags payloads = absurd (omega (arith, tags))
one_entry (Acted m v) (Ended n o) is are tags payloads = absurd (omega (arith, tags))
one_entry (Begun m) (Moved t g q) is are tags payloads = absurd (omega (arith, moved_low t g, tags))
one_entry (Begun m) (Acted n w) is are tags payloads = absurd (omega (arith, tags))
one_entry (Begun m) (Begun n) is are tags payloads = ap (λ push. Begun push) (be16-same m n is are payloads)
one_entry (Begun m) (Ended n o) is are tags payloads = absurd (omega (arith, tags))
one_entry (Ended m o) (Moved t g q) is are tags payloads = absurd (omega (arith, moved_low t g, tags))
one_entry (Ended m o) (Acted n w) is are tags payloads = absurd (omega (arith, tags))
one_entry (Ended m o) (Begun n) is are tags payloads = absurd (omega (arith, tags))
one_entry (Ended m o) (Ended n p) is are tags payloads = ended_same m n o p is are payloads

-- ---- the laws

pub no_entry_begins_another : NoEntryBeginsAnother
no_entry_begins_another entry other more rest is are e =
    let parts = one_record (tag_of entry) (tag_of other) (payload_of entry) (payload_of other) more rest (payload_short entry is) (payload_short other are) e in
    (one_entry entry other is are parts.0 parts.1, parts.2)

pub captures_same : (entries others : List Entry) → AllByRecursion IsEntry entries → AllByRecursion IsEntry others → capture_octets entries ≡ capture_octets others → entries ≡ others
captures_same [] [] is are e = refl
captures_same [] (other ∷ others) is are e = absurd cc
captures_same (entry ∷ entries) [] is are e = absurd cc
captures_same (entry ∷ entries) (other ∷ others) is are e =
    let parts = no_entry_begins_another entry other (capture_octets entries) (capture_octets others) is.0 are.0 e in
    ap (λ first. first ∷ entries) parts.0 ∙ ap (λ rest. other ∷ rest) (captures_same entries others is.1 are.1 parts.1)

pub one_capture : OneCapture
one_capture octets entries others is are = captures_same entries others is.each are.each (sym is.whole ∙ are.whole)
