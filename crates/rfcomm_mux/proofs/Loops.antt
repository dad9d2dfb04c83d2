-- The messages of a frame, one after the other.
use Rattle.std.proofs.Common.{◌≡◌, ◌≢◌, ℕ, ◌∷◌, List, [], drop, length, Option, Some, None, is_some, Ok, Err, Bool, true, false, ◌==◌, refl, sym, ap, ◌∙◌, arith}
use Rattle.std.specs.Prelude.{not}
use Rattle.std.proofs.lemmas.Bool.{eqb-true}
use Rattle.bt_base.specs.Octets.{IsOctets}
use Rattle.rfcomm_frames.specs.Controls.{PlainControl}
use Rattle.rfcomm_frames.specs.FrameReading.{MessageAnswer, message_answer, messages}
use Rattle.rfcomm_frames.specs.declared.refusal.MuxRefusal.{MuxRefusal}
use Rattle.rfcomm_frames.proofs.MessageReading.{messages-ok, messages-err, messages-none}
use Rattle.rfcomm_model.specs.declared.state.MuxReason.{MuxReason}
use Rattle.rfcomm_model.specs.declared.state.MuxReason.TheVariants as reasons
use Rattle.rfcomm_model.specs.Machine.{Mux, closes}
use Rattle.rfcomm_model.specs.Hearing.{if_stands, hears_message, hears_messages, hears_control}

-- a multiplexer that is closed hears no message
pub closed_hears : (messages' : List MessageAnswer) (m : Mux) (reason : MuxReason) → m.closed ≡ Some reason → hears_messages messages' m ≡ m
closed_hears [] m reason is = refl
closed_hears (message ∷ rest) m reason is = ap (λ (closed : Option MuxReason). hears_messages rest (if_stands (hears_message message) closed m)) is ∙ closed_hears rest m reason is

-- a message, and those behind it
pub hears_next : (m : Mux) (octets : List ℕ) (control : PlainControl) (used : ℕ) → octets ≢ [] → IsOctets octets → m.closed ≡ None
    → message_answer octets ≡ Ok (control, used) → hears_messages (messages octets) m ≡ hears_messages (messages (drop used octets)) (hears_control control m)
hears_next m [] control used some fits stands is = absurd (some refl)
hears_next m (octet ∷ behind) control used some fits stands is =
    ap (λ (ms : List MessageAnswer). hears_messages ms m) (messages-ok octet behind control used fits is)
    ∙ ap (λ (closed : Option MuxReason). hears_messages (messages (drop used (octet ∷ behind))) (if_stands (hears_message (Ok control)) closed m)) stands

-- a refused one is the last
pub hears_last : (m : Mux) (octets : List ℕ) (refusal : MuxRefusal) → octets ≢ [] → m.closed ≡ None → message_answer octets ≡ Err refusal → hears_messages (messages octets) m ≡ closes reasons.BadFrame m
hears_last m [] refusal some stands is = absurd (some refl)
hears_last m (octet ∷ behind) refusal some stands is =
    ap (λ (ms : List MessageAnswer). hears_messages ms m) (messages-err octet behind refusal is)
    ∙ ap (λ (closed : Option MuxReason). if_stands (hears_message (Err refusal)) closed m) stands

pub hears_none : (m : Mux) → hears_messages (messages []) m ≡ m
hears_none m = ap (λ (ms : List MessageAnswer). hears_messages ms m) messages-none

-- what the tests of the loop say

pub not_empty : (xs : List ℕ) (b : Bool) → b ≡ (length xs == 0) → b ≡ false → xs ≢ []
not_empty [] b is fails = λ e. let never : true ≡ false = sym is ∙ fails in cc
not_empty (x ∷ xs) b is fails = λ e. cc

pub no_octets : (xs : List ℕ) (b : Bool) → b ≡ (length xs == 0) → b ≡ true → xs ≡ []
no_octets [] b is holds = refl
no_octets (x ∷ xs) b is holds = let zero_is : length (x ∷ xs) ≡ 0 = eqb-true (length (x ∷ xs)) 0 (sym is ∙ holds) in absurd (omega arith)

pub stands_is : (closed : Option MuxReason) (b : Bool) → is_some closed ≡ not b → b ≡ true → closed ≡ None
stands_is None b is holds = refl
stands_is (Some reason) b is holds = let never : true ≡ false = is ∙ ap not holds in cc

pub closed_is : (closed : Option MuxReason) (b : Bool) → is_some closed ≡ not b → b ≡ false → (reason : MuxReason) × (closed ≡ Some reason)
closed_is None b is fails = let never : false ≡ true = is ∙ ap not fails in cc
closed_is (Some reason) b is fails = (reason, refl)
