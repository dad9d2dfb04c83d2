-- The octets of what a host gives are those that are worked out, and no others; a PDU that is given says its own length.
use Rattle.std.proofs.Common.{ap, sym, subst, ◌∙◌, ◌≡◌, ◌<◌, ◌≤◌, ℕ, suc, ◌+◌, ◌*◌, ◌/◌, ◌%◌, ◌^◌, ◌==◌, ◌&&◌, nat_lt, nat_le, Bool, true, false, List, [], ◌∷◌, ◌++◌, length, refl, arith, tests, length-append, append_assoc, inl, inr, if◌then◌else◌}
use Rattle.std.proofs.lemmas.Bool.{cases_lt}
use Rattle.rest_laws.specs.bt_base.specs.Octets.{IsOctets, le16}
use Rattle.rest_laws.specs.h4_framing.proofs.OctetLists.{IsOctets-tail}
use Rattle.push_model.specs.check_words.specs.CheckWords.{L2capCheckHolds, l2cap_check, rfcomm_check, low_bits}
use Rattle.push_model.specs.check_words.proofs.Octets.{word-holds}
use Rattle.push_model.specs.check_words.proofs.LowBits.{low_bits-same}
use Rattle.rest_laws.specs.acl_fragments.specs.Pieces.{pdu_length}
use Rattle.channel_model.specs.l2cap_signal.specs.Commands.{spelling}
use Rattle.channel_model.specs.ertm_frames.specs.Frames.{PlainFrame, Spells, covered, control_of, body_of}
use Rattle.push_model.specs.rfcomm_frames.specs.Lengths.{shortest, one_octet, two_octets, States}
use Rattle.push_model.specs.rfcomm_frames.specs.Frames as mux
use Rattle.channel_model.specs.Giving.{Given, Signal, Whole, Framed, headed, IsPdu}
use Rattle.push_model.specs.Payloads.{Payload, Octets, Framed as Muxed, IsSaid, IsShortest}
use Rattle.host_model.specs.Pdus.{number_of, checked, frame_octets, pdu_of, mux_octets, sdu_of, are_octets, is_frame}
use Rattle.host_model.proofs.Spelled.{word_fits, word_is, octet_fits, octet_is}

-- ---- L2CAP

pair_is : (a b : ℕ) → a < 256 → b < 256 → le16 (a + 256 * b) ≡ a ∷ b ∷ []
pair_is a b low high =
    let first : (a + 256 * b) % 256 ≡ a = omega (arith, low) in
    let second : (a + 256 * b) / 256 % 256 ≡ b = omega (arith, low, high) in
    ap (λ (n : ℕ). n ∷ (a + 256 * b) / 256 % 256 ∷ []) first ∙ ap (λ (n : ℕ). a ∷ n ∷ []) second

frame_is : (peer : ℕ) (frame : PlainFrame) (pdu : List ℕ) → Spells peer frame pdu → pdu ≡ frame_octets peer frame
frame_is peer frame pdu s =
    let octets = covered peer (control_of frame) (body_of frame) in
    let a = s.check % 256 in
    let b = s.check / 256 % 256 in
    let word = number_of (l2cap_check octets) in
    let is : word ≡ a + 256 * b = (word-holds octets a b word (omega arith) (omega arith) (word_fits octets) (word_is octets)).0 (subst L2capCheckHolds s.parts s.holds) in
    s.parts ∙ ap (λ xs. octets ++ xs) (sym (ap le16 is ∙ pair_is a b (omega arith) (omega arith)))

pub only_pdu : (given : Given) (pdu : List ℕ) → IsPdu given pdu → pdu ≡ pdu_of given
only_pdu (Signal command) pdu is = is
only_pdu (Whole peer sdu) pdu is = is
only_pdu (Framed peer frame) pdu is = frame_is peer frame pdu is

-- what begins with the length of what stands behind its header
says_length : (n peer : ℕ) (payload : List ℕ) → length payload ≡ n → n < 2 ^ 16 → (pdu_length (le16 n ++ (le16 peer ++ payload)) == length (le16 n ++ (le16 peer ++ payload))) ≡ true
says_length n peer payload is small = let fits : n % 256 + 256 * (n / 256 % 256) ≡ n = omega (arith, small) in grind (arith, tests, is, fits)

octets_of : (xs : List ℕ) → IsOctets xs → are_octets xs ≡ true
octets_of [] octets = refl
octets_of (x ∷ xs) octets =
    let below = octets 0 in
    let first : nat_lt x 256 ≡ true = grind (arith, tests, below) in
    ap (λ (b : Bool). b && are_octets xs) first ∙ octets_of xs (IsOctets-tail x xs octets)

framed : (pdu : List ℕ) (n peer : ℕ) (payload : List ℕ) → IsOctets pdu → pdu ≡ le16 n ++ (le16 peer ++ payload) → length payload ≡ n → length pdu ≤ 32775 → is_frame pdu ≡ true
framed pdu n peer payload octets is long short =
    let raw = ap length is in
    let size : length pdu ≡ 4 + length payload = omega (arith, raw) in
    let small : n < 2 ^ 16 = omega (arith, size, long, short) in
    let says = ap (λ xs. pdu_length xs == length xs) is ∙ says_length n peer payload long small in
    let first : nat_le 4 (length pdu) ≡ true = grind (arith, tests, size) in
    let last : nat_le (length pdu) 32775 ≡ true = grind (arith, tests, short) in
    ap (λ (b : Bool). b && (nat_le 4 (length pdu) && ((pdu_length pdu == length pdu) && nat_le (length pdu) 32775))) (octets_of pdu octets)
    ∙ ap (λ (b : Bool). b && ((pdu_length pdu == length pdu) && nat_le (length pdu) 32775)) first ∙ ap (λ (b : Bool). b && nat_le (length pdu) 32775) says ∙ last

pub pdu_is_frame : (given : Given) (pdu : List ℕ) → IsPdu given pdu → IsOctets pdu → length pdu ≤ 32775 → is_frame pdu ≡ true
pdu_is_frame (Signal command) pdu is octets short = framed pdu (length (spelling command)) 0x0001 (spelling command) octets is refl short
pdu_is_frame (Whole peer sdu) pdu is octets short = framed pdu (length sdu) peer sdu octets is refl short
pdu_is_frame (Framed peer frame) pdu s octets short =
    let body = body_of frame in
    framed pdu (4 + length body) peer (le16 (control_of frame) ++ body ++ le16 s.check) octets s.parts (let tail = length-append body (le16 s.check) in omega (arith, tail)) short

-- ---- RFCOMM

one_or_two : (n : ℕ) (field : List ℕ) → States field n → length field ≡ length (shortest n) → field ≡ shortest n
one_or_two n field (inl one) same = let below : nat_lt n 128 ≡ true = grind (arith, tests, one.0) in one.1 ∙ rw below refl
one_or_two n field (inr two) same =
    elim (cases_lt n 128) [
      | inl low ↦
          let below : nat_lt n 128 ≡ true = grind (arith, tests, low) in
          let long : length field ≡ 2 = ap length two.1 in
          let short : length (shortest n) ≡ 1 = rw below refl in
          absurd (omega (arith, long, short, same))
      | inr high ↦ let above : nat_lt n 128 ≡ false = grind (arith, tests, high) in two.1 ∙ rw above refl
    ]

pub only_mux : (frame : mux.PlainFrame) (octets : List ℕ) → IsShortest frame octets → octets ≡ mux_octets frame
only_mux frame octets is =
    let form = is.spelling.form in
    let n = length frame.octets in
    let rest = mux.credit_octets frame.credits ++ frame.octets in
    let whole = ap length form.parts in
    let behind = length-append (form.field ++ rest) (form.check ∷ []) in
    let own = length-append form.field rest in
    let written = length-append (shortest n) rest in
    let size = is.size in
    let same : length form.field ≡ length (shortest n) = omega (arith, whole, behind, own, written, size) in
    let field : form.field ≡ shortest n = one_or_two n form.field form.states same in
    let word = number_of (rfcomm_check (mux.covered (shortest n) frame)) in
    let check : form.check ≡ word =
    low_bits-same 8 form.check word form.check_fits (octet_fits (mux.covered (shortest n) frame))
    (is.spelling.holds ∙ ap (λ (f : List ℕ). rfcomm_check (mux.covered f frame)) field ∙ sym (octet_is (mux.covered (shortest n) frame))) in
    form.parts ∙ ap (λ (f : List ℕ). mux.address_of frame ∷ mux.control_octet frame.kind frame.pf ∷ ((f ++ rest) ++ form.check ∷ [])) field
    ∙ ap (λ (c : ℕ). mux.unchecked frame ++ c ∷ []) check

pub only_sdu : (payload : Payload) (octets : List ℕ) → IsSaid payload octets → octets ≡ sdu_of payload
only_sdu (Octets content) octets is = is
only_sdu (Muxed frame) octets is = only_mux frame octets is
