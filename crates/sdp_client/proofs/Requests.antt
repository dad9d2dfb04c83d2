-- The request of a query as it is written.
use Rattle.std.proofs.Common.{◌≡◌, ℕ, ◌+◌, ◌/◌, ◌%◌, ◌≤◌, List, [], ◌∷◌, ◌++◌, length, take, drop, sym, ap, ◌∙◌, arith}
use Rattle.std.specs.Prelude.{slice_index}
use Rattle.bt_base.specs.Octets.{be16}
use Rattle.sdp_elements.specs.Exchange.{pdu_octets}
use Rattle.sdp_elements.proofs.WritingLaws.{written_behind}
use Rattle.sdp_client.specs.Asking.{request_parameters}

-- what stands behind the length of the parameters, up to the continuation state
abbrev asked : ℕ → List ℕ
asked n = 0x35 ∷ 0x03 ∷ 0x19 ∷ 0x11 ∷ 0x05 ∷ 0x01 ∷ 0x00 ∷ 0x35 ∷ 0x06 ∷ 0x09 ∷ 0x00 ∷ 0x04 ∷ 0x09 ∷ 0x02 ∷ 0x00 ∷ n ∷ []

abbrev pub front_of : ℕ → ℕ → ℕ → ℕ → ℕ → List ℕ
front_of transaction_high transaction_low high low n = 0x06 ∷ transaction_high ∷ transaction_low ∷ high ∷ low ∷ asked n

front_is : (transaction : ℕ) (continuation : List ℕ) → length continuation ≤ 16
    → front_of (transaction / 256 % 256) (transaction % 256) 0 (16 + length continuation) (length continuation) ++ continuation ≡ pdu_octets 6 transaction (request_parameters continuation)
front_is transaction continuation fits =
    let n = length (request_parameters continuation) in
    let len : n ≡ 16 + length continuation = omega arith in
    let high : n / 256 % 256 ≡ 0 = omega arith in
    let low : n % 256 ≡ 16 + length continuation = omega arith in
    ap (λ (x : ℕ). front_of (transaction / 256 % 256) (transaction % 256) x (16 + length continuation) (length continuation) ++ continuation) (sym high)
    ∙ ap (λ (x : ℕ). front_of (transaction / 256 % 256) (transaction % 256) (n / 256 % 256) x (length continuation) ++ continuation) (sym low)

pub request_written : (transaction : ℕ) (continuation old mid new bytes content : List ℕ) (start end n : ℕ) → start ≡ 21
    → mid ≡ front_of (slice_index bytes 0) (slice_index bytes 1) 0 (16 + n) n ++ drop start old → end ≡ start + length content → new ≡ take start mid ++ (content ++ drop end mid)
    → bytes ≡ be16 transaction → content ≡ continuation → n ≡ length continuation → length continuation ≤ 16 → new ≡ pdu_octets 6 transaction (request_parameters continuation) ++ drop end old
request_written transaction continuation old mid new bytes content start end n at m e w b k len fits =
    let front = front_of (slice_index bytes 0) (slice_index bytes 1) 0 (16 + n) n in
    let high = transaction / 256 % 256 in
    let low = transaction % 256 in
    w ∙ written_behind front content old mid start end m at e
    ∙ ap (λ (x : List ℕ). (front ++ x) ++ drop end old) k
    ∙ ap (λ (bs : List ℕ). (front_of (slice_index bs 0) (slice_index bs 1) 0 (16 + n) n ++ continuation) ++ drop end old) b
    ∙ ap (λ (i : ℕ). (front_of high low 0 (16 + i) i ++ continuation) ++ drop end old) len
    ∙ ap (λ (x : List ℕ). x ++ drop end old) (front_is transaction continuation fits)
