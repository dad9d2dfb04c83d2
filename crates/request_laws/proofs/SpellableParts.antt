-- The frames and control messages that a multiplexer says: their numbers fit, and their octets are octets.
use Rattle.std.proofs.Common.{Bool, true, false, cond, ltb, ◌&&◌, ◌+◌, ◌-◌, ◌*◌, ◌/◌, ◌%◌, ◌^◌, ◌≤◌, ◌<◌, ◌≡◌, ◌==◌, ℕ, zero, suc, List, [], ◌∷◌, ◌++◌, length, drop, Ok, Err, arith, refl, sym, ap, subst, inl, inr, length-append}
use Rattle.std.specs.Prelude.{not}
use Rattle.std.specs.List.{AllByRecursion}
use Rattle.std.proofs.lemmas.Bool.{eqb-true, ltb-true}
use Rattle.pair_laws.specs.bt_base.specs.Octets.{IsOctets}
use Rattle.pair_laws.specs.rfcomm_frames.specs.declared.connection.Role.{Role}
use Rattle.pair_laws.specs.rfcomm_frames.specs.declared.frame.MuxKind.{MuxKind}
use Rattle.pair_laws.specs.rfcomm_frames.specs.declared.frame.MuxKind.TheVariants.{Sabm, Ua, Dm, Disc, Uih}
use Rattle.pair_laws.specs.rfcomm_frames.specs.ControlAnswers.{ControlAnswer, IsControlAnswer}
use Rattle.pair_laws.specs.rfcomm_frames.specs.Controls.{PlainControl, pn, msc, test, rpn, rls, nsc, other, type_of, value_of, IsControl, written}
use Rattle.pair_laws.specs.rfcomm_frames.specs.FrameReading.{MessageAnswer, message_answer, messages_from, messages_within, messages, used_by}
use Rattle.pair_laws.specs.rfcomm_frames.specs.Frames.{PlainFrame, bit, code_of, carries, address_of, control_octet, credit_octets, body_of, Spells}
use Rattle.pair_laws.specs.rfcomm_frames.specs.Lengths.{States, shortest}
use Rattle.pair_laws.specs.rfcomm_frames.proofs.FrameReading.{message_answered, spelled_answered}
use Rattle.pair_laws.specs.rfcomm_frames.proofs.MessageReading.{behind_fits}
use Rattle.pair_laws.specs.rfcomm_model.specs.Written.{response_frame, command_frame, grant_frame, data_frame, control_frame}
use Rattle.pair_laws.specs.host_model.specs.Pdus.{mux_octets}
use Rattle.pair_laws.specs.host_model.proofs.Spelled.{octets_are_right}
use Rattle.request_laws.specs.Spellable.{IsSpellable, IsInformation, SpelledIsReadSo}

-- ---- octets

pub none_octets : IsOctets []
none_octets i = omega arith

pub cons_octets : (x : ℕ) (xs : List ℕ) → x < 256 → IsOctets xs → IsOctets (x ∷ xs)
cons_octets x xs small fits zero = small
cons_octets x xs small fits (suc i) = fits i

pub append_octets : (xs ys : List ℕ) → IsOctets xs → IsOctets ys → IsOctets (xs ++ ys)
append_octets [] ys fits more = more
append_octets (x ∷ xs) ys fits more = cons_octets x (xs ++ ys) (fits 0) (append_octets xs ys (λ i. fits (suc i)) more)

-- ---- frames

pub command_fits : (role : Role) (kind : MuxKind) (n : ℕ) → n < 64 → carries kind ≡ false → IsSpellable (command_frame role kind n)
command_fits role kind n small none = record {
  fits = record { dlci_fits = small; granting = sym (ap (λ (b : Bool). b && (true && not (n == 0))) none); credits_fit = none_octets; are_octets = none_octets; alone = λ is. refl };
  short = omega arith;
}

pub response_fits : (role : Role) (kind : MuxKind) (n : ℕ) → n < 64 → carries kind ≡ false → IsSpellable (response_frame role kind n)
response_fits role kind n small none = record {
  fits = record { dlci_fits = small; granting = sym (ap (λ (b : Bool). b && (true && not (n == 0))) none); credits_fit = none_octets; are_octets = none_octets; alone = λ is. refl };
  short = omega arith;
}

pub data_fits : (role : Role) (n : ℕ) (octets : List ℕ) → n < 64 → IsInformation octets → IsSpellable (data_frame role n octets)
data_fits role n octets small waits = record {
  fits = record { dlci_fits = small; granting = refl; credits_fit = none_octets; are_octets = waits.are_octets; alone = λ is. cc };
  short = waits.short;
}

no_control : (b : Bool) (n : ℕ) → (n == 0) ≡ b → 0 < n → true ≡ not b
no_control true n is user = let none = eqb-true n 0 is in absurd (omega (arith, none, user))
no_control false n is user = refl

pub grant_fits : (role : Role) (n credits : ℕ) → 0 < n → n < 64 → credits < 256 → IsSpellable (grant_frame role n credits)
grant_fits role n credits user small few = record {
  fits = record { dlci_fits = small; granting = no_control (n == 0) n refl user; credits_fit = cons_octets credits [] few none_octets; are_octets = none_octets; alone = λ is. cc };
  short = omega arith;
}

pub few_by : (b : Bool) (cap peer : ℕ) → cap < 256 → cond b (cap - peer) 0 < 256
few_by true cap peer fits = omega (arith, fits)
few_by false cap peer fits = omega arith

-- ---- control messages

field_by : (b : Bool) (n : ℕ) → ltb n 128 ≡ b → n < 2 ^ 15 → IsOctets (cond b ((0x01 + 2 * n) ∷ []) ((2 * (n % 128)) ∷ (n / 128) ∷ []))
field_by true n is short = let few = ltb-true n 128 is in cons_octets (0x01 + 2 * n) [] (omega (arith, few)) none_octets
field_by false n is short = cons_octets (2 * (n % 128)) ((n / 128) ∷ []) (omega arith) (cons_octets (n / 128) [] (omega (arith, short)) none_octets)

field_octets : (n : ℕ) → n < 2 ^ 15 → IsOctets (shortest n)
field_octets n short = field_by (ltb n 128) n refl short

type_by : (b : Bool) (low : ℕ) → low ≤ 0xE1 → low + 0x02 * bit b < 256
type_by true low few = omega (arith, few)
type_by false low few = omega (arith, few)

type_octet : (control : PlainControl) → IsControl control → type_of control < 256
type_octet (pn command n flow priority timer frame retransmissions credits) fits = type_by command 0x81 (omega arith)
type_octet (msc command address signals) fits = type_by command 0xE1 (omega arith)
type_octet (test command octets) fits = type_by command 0x21 (omega arith)
type_octet (rpn command value) fits = type_by command 0x91 (omega arith)
type_octet (rls command value) fits = type_by command 0x51 (omega arith)
type_octet (nsc kind) fits = omega arith
type_octet (other kind value) fits = fits.0.octet

pub three : (a : ℕ) (b : ℕ) (xs : List ℕ) → a < 256 → b < 256 → IsOctets xs → IsOctets (a ∷ b ∷ xs)
three a b xs fit fits more = cons_octets a (b ∷ xs) fit (cons_octets b xs fits more)

value_octets : (control : PlainControl) → IsControl control → IsOctets (value_of control)
value_octets (pn command n flow priority timer frame retransmissions credits) (a, b, c, d, e, f, g) =
    three n flow (priority ∷ timer ∷ (frame % 256) ∷ (frame / 256 % 256) ∷ retransmissions ∷ credits ∷ []) a b
    (three priority timer ((frame % 256) ∷ (frame / 256 % 256) ∷ retransmissions ∷ credits ∷ []) c d
    (three (frame % 256) (frame / 256 % 256) (retransmissions ∷ credits ∷ []) (omega arith) (omega arith) (three retransmissions credits [] f g none_octets)))
value_octets (msc command address signals) (a, b) = three address signals [] a b none_octets
value_octets (test command octets) fits = fits
value_octets (rpn command value) fits = fits
value_octets (rls command value) fits = fits
value_octets (nsc kind) fits = cons_octets kind [] fits none_octets
value_octets (other kind value) fits = fits.1

-- a message that fits a small frame
pub control_fits : (role : Role) (control : PlainControl) → IsControl control → length (written control) ≤ 40 → IsSpellable (control_frame role control)
control_fits role control fits few =
    let value = value_of control in
    let long = length-append (shortest (length value)) value in
    let short : length value < 2 ^ 15 = omega (arith, long, few) in
    data_fits role 0 (written control) (omega arith) (record {
      are_octets = cons_octets (type_of control) (shortest (length value) ++ value) (type_octet control fits) (append_octets (shortest (length value)) value (field_octets (length value) short) (value_octets control fits));
      short = omega (arith, few);
    })

-- ---- octets of a frame

bit_few : (b : Bool) → bit b ≤ 1
bit_few true = omega arith
bit_few false = omega arith

code_few : (kind : MuxKind) → code_of kind ≤ 0xEF
code_few Sabm = omega arith
code_few Ua = omega arith
code_few Dm = omega arith
code_few Disc = omega arith
code_few Uih = omega arith

stated_octets : (field : List ℕ) (n : ℕ) → States field n → IsOctets field
stated_octets field n states =
    elim states [
      | inl one ↦ (let few = one.0 in subst IsOctets (sym one.1) (cons_octets (0x01 + 2 * n) [] (omega (arith, few)) none_octets))
      | inr two ↦ (let few = two.0 in subst IsOctets (sym two.1) (cons_octets (2 * (n % 128)) ((n / 128) ∷ []) (omega arith) (cons_octets (n / 128) [] (omega (arith, few)) none_octets)))
    ]

pub spelled_octets : (frame : PlainFrame) (octets : List ℕ) → Spells frame octets → IsOctets octets
spelled_octets frame octets spelled =
    let form = spelled.form in
    let low = form.fits.dlci_fits in
    let cr = bit_few frame.cr in
    let pf = bit_few frame.pf in
    let code = code_few frame.kind in
    let body = append_octets form.field (credit_octets frame.credits ++ frame.octets) (stated_octets form.field (length frame.octets) form.states) (append_octets (credit_octets frame.credits) frame.octets form.fits.credits_fit form.fits.are_octets) in
    subst IsOctets (sym form.parts)
    (three (address_of frame) (control_octet frame.kind frame.pf) (body_of form.field frame ++ form.check ∷ []) (omega (arith, low, cr)) (omega (arith, pf, code))
    (append_octets (body_of form.field frame) (form.check ∷ []) body (cons_octets form.check [] form.check_fits none_octets)))

pub read_so : SpelledIsReadSo
read_so frame is =
    let said = octets_are_right.frames frame is.fits is.short in
    (said, spelled_answered frame (mux_octets frame) (spelled_octets frame (mux_octets frame) said.spelling) said.spelling)

-- ---- messages that are heard

abbrev pub IsMessage : MessageAnswer → Type 0
IsMessage (Ok control) = IsControl control
IsMessage (Err refusal) = Unit {0}

from_fits : (octets : List ℕ) (a : ControlAnswer) (rest : List MessageAnswer) → IsControlAnswer octets a → AllByRecursion IsMessage rest → AllByRecursion IsMessage (messages_from a rest)
from_fits octets (Ok found) rest is all = (is.1.fits, all)
from_fits octets (Err refusal) rest is all = (tt, tt)

within_fit : (steps : ℕ) (octets : List ℕ) → IsOctets octets → AllByRecursion IsMessage (messages_within steps octets)
unfolding messages_within
within_fit zero [] fits = tt
within_fit (suc steps) [] fits = tt
within_fit zero (octet ∷ octets) fits = tt
within_fit (suc steps) (octet ∷ octets) fits =
    let used = used_by (message_answer (octet ∷ octets)) in
    from_fits (octet ∷ octets) (message_answer (octet ∷ octets)) (messages_within steps (drop used (octet ∷ octets))) (message_answered (octet ∷ octets) fits)
    (within_fit steps (drop used (octet ∷ octets)) (behind_fits used (octet ∷ octets) fits))

pub messages_fit : (octets : List ℕ) → IsOctets octets → AllByRecursion IsMessage (messages octets)
unfolding messages
messages_fit octets fits = within_fit (length octets) octets fits
