-- Check words as numbers, and the octets of frames.
use Rattle.std.proofs.Common.{ap, sym, subst, ◌∙◌, ◌≡◌, ◌<◌, ℕ, suc, ◌+◌, ◌*◌, ◌/◌, ◌%◌, ◌^◌, ◌==◌, Bool, true, false, not, List, [], ◌∷◌, length, refl, arith, length-append, replicate}
use Rattle.std.proofs.Math.Nat.{pow-suc}
use Rattle.std.proofs.lemmas.List.{length-map}
use Rattle.push_model.specs.check_words.specs.CheckWords.{low_bits, bits_of, l2cap_check, rfcomm_check, rfcomm_rest}
use Rattle.push_model.specs.check_words.specs.Division.{zeros}
use Rattle.push_model.specs.check_words.proofs.Steps.{length-kept_all}
use Rattle.push_model.specs.check_words.proofs.CheckWord as l2cap
use Rattle.push_model.specs.check_words.proofs.RfcommWord as rfcomm
use Rattle.push_model.specs.check_words.proofs.Octets.{word-holds}
use Rattle.channel_model.specs.ertm_frames.proofs.Parts.{number}
use Rattle.channel_model.specs.ertm_frames.specs.Frames.{PlainFrame, Spells, covered, control_of, body_of}
use Rattle.push_model.specs.rfcomm_frames.specs.Lengths.{shortest}
use Rattle.push_model.specs.rfcomm_frames.proofs.Lengths.{states-shortest}
use Rattle.push_model.specs.rfcomm_frames.specs.Frames as mux
use Rattle.channel_model.specs.Giving.{Given, Signal, Whole, Framed, IsPdu}
use Rattle.push_model.specs.Payloads.{IsShortest}
use Rattle.host_model.specs.Pdus.{number_of, frame_octets, pdu_of, mux_octets}
use Rattle.host_model.specs.Spelling.{Fits, CanSpell, OctetsAreRight}

-- ---- numbers and bits

pub number_bits : (bits : List Bool) → low_bits (length bits) (number_of bits) ≡ bits
unfolding low_bits number_of
number_bits [] = refl
number_bits (true ∷ bits) =
    let n = number_of bits in
    let lowest : (1 + 2 * n) % 2 ≡ 1 = omega arith in
    let behind : (1 + 2 * n) / 2 ≡ n = omega arith in
    ap (λ (k : ℕ). (k == 1) ∷ low_bits (length bits) ((1 + 2 * n) / 2)) lowest ∙ ap (λ (k : ℕ). true ∷ low_bits (length bits) k) behind ∙ ap (λ (xs : List Bool). true ∷ xs) (number_bits bits)
number_bits (false ∷ bits) =
    let n = number_of bits in
    let lowest : (2 * n) % 2 ≡ 0 = omega arith in
    let behind : (2 * n) / 2 ≡ n = omega arith in
    ap (λ (k : ℕ). (k == 1) ∷ low_bits (length bits) ((2 * n) / 2)) lowest ∙ ap (λ (k : ℕ). false ∷ low_bits (length bits) k) behind ∙ ap (λ (xs : List Bool). false ∷ xs) (number_bits bits)

double : (p k n : ℕ) → k ≡ p * 2 → n < p → 1 + 2 * n < k
double p k n is small = omega (arith, is, small)

pub number_small : (bits : List Bool) → number_of bits < 2 ^ length bits
unfolding number_of
number_small [] = omega arith
number_small (true ∷ bits) = let is = pow-suc 2 (length bits) in let small = number_small bits in double (2 ^ length bits) (2 ^ suc (length bits)) (number_of bits) is small
number_small (false ∷ bits) = let is = pow-suc 2 (length bits) in let small = number_small bits in let more = double (2 ^ length bits) (2 ^ suc (length bits)) (number_of bits) is small in omega (arith, more)

-- ---- L2CAP

check_long : (octets : List ℕ) → length (l2cap_check octets) ≡ 16
check_long octets = ap length (l2cap.check_is_kept octets) ∙ length-kept_all l2cap.low_part (zeros 16) (bits_of octets) refl

pub word_fits : (octets : List ℕ) → number_of (l2cap_check octets) < 2 ^ 16
word_fits octets = subst (λ (k : ℕ). number_of (l2cap_check octets) < 2 ^ k) (check_long octets) (number_small (l2cap_check octets))

pub word_is : (octets : List ℕ) → low_bits 16 (number_of (l2cap_check octets)) ≡ l2cap_check octets
word_is octets = ap (λ (k : ℕ). low_bits k (number_of (l2cap_check octets))) (sym (check_long octets)) ∙ number_bits (l2cap_check octets)

frame_spells : (peer : ℕ) (frame : PlainFrame) → Fits peer frame → Spells peer frame (frame_octets peer frame)
frame_spells peer frame fits =
    let octets = covered peer (control_of frame) (body_of frame) in
    let check = number_of (l2cap_check octets) in
    let small = word_fits octets in
    record {
      check = check;
      parts = refl;
      holds = (word-holds octets (check % 256) (check / 256 % 256) check (omega arith) (omega arith) small (word_is octets)).1 (sym (number check small));
      cid_fits = fits.peer_fits;
      length_fits = fits.length_fits;
      fits = fits.fits;
    }

pdus : (given : Given) → CanSpell given → IsPdu given (pdu_of given)
pdus (Signal command) fits = refl
pdus (Whole peer sdu) fits = refl
pdus (Framed peer frame) fits = frame_spells peer frame fits

-- ---- RFCOMM

octet_long : (octets : List ℕ) → length (rfcomm_check octets) ≡ 8
octet_long octets = length-map (rfcomm_rest octets) not ∙ ap length (rfcomm.rest_is_kept octets) ∙ length-kept_all rfcomm.low_part (replicate 8 true) (bits_of octets) refl

pub octet_fits : (octets : List ℕ) → number_of (rfcomm_check octets) < 256
octet_fits octets = subst (λ (k : ℕ). number_of (rfcomm_check octets) < 2 ^ k) (octet_long octets) (number_small (rfcomm_check octets))

pub octet_is : (octets : List ℕ) → low_bits 8 (number_of (rfcomm_check octets)) ≡ rfcomm_check octets
octet_is octets = ap (λ (k : ℕ). low_bits k (number_of (rfcomm_check octets))) (sym (octet_long octets)) ∙ number_bits (rfcomm_check octets)

frames : (frame : mux.PlainFrame) → mux.IsFrame frame → length frame.octets < 2 ^ 15 → IsShortest frame (mux_octets frame)
frames frame fits short =
    let field = shortest (length frame.octets) in
    let octets = mux.covered field frame in
    record {
      spelling = record {
        form = record { field = field; check = number_of (rfcomm_check octets); parts = refl; states = states-shortest (length frame.octets) short; check_fits = octet_fits octets; fits = fits };
        holds = octet_is octets;
      };
      size = length-append (mux.unchecked frame) (number_of (rfcomm_check octets) ∷ []);
    }

pub octets_are_right : OctetsAreRight
octets_are_right = record { pdus = pdus; frames = frames }
