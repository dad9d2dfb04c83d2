-- What comes in at the place of a channel.
use Rattle.std.proofs.Common.{◌≡◌, ◌∙◌, ℕ, zero, suc, ◌<◌, Bool, true, false, List, [], ◌∷◌, length, refl, sym, ap, arith}
use Rattle.std.specs.Prelude.{drop, slice_get, Option, Some, None, is_some, option_map, Ok, Err, if◌then◌else◌}
use Rattle.l2cap_config.specs.declared.options.Options.{Options}
use Rattle.ertm_frames.specs.declared.refusal.FrameRefusal.{FrameRefusal}
use Rattle.ertm_frames.specs.Frames.{PlainFrame}
use Rattle.ertm_frames.specs.Answers.{Answer}
use Rattle.ertm_model.specs.declared.reason.ErtmReason.{ErtmReason}
use Rattle.ertm_model.specs.Value.{Ertm}
use Rattle.ertm_model.specs.Hearing.{fault, heard, heard_by, open_heard, refused, closed_by, refusal_fault, answer_by}
use Rattle.channel_model.specs.Value.{Own, Unasked, Asking, Granted, Carrier, Plain, Retransmitting, Setup, Stage, Requested, Connected, Leaving, Closing, Crossed, Held, Channels}
use Rattle.channel_model.specs.Changing.{to_stage, to_setup, with_setup, stage_with, setup_of}
use Rattle.channel_model.specs.Closing.{closes}
use Rattle.channel_model.specs.Configuring.{grants, granted_setup}
use Rattle.channel_model.specs.Carrying as model
use Rattle.channel_model.specs.Carrying.{reason_of, settles_machine, with_machine, read_by, machine_heard, is_frame, opens_with, takes_with, takes_on, takes_held, sdu_heard, machine_sdu, sdu_with, sdu_at, Up, up_by, up_on}
use Rattle.l2cap_channels.specs.Arriving.{opened, opened_own, opened_setup, opens, handed_at, handed_up, carrier_fault, carrier_answer, fault_on, heard_setup, frame_sdu, frame_up, refused_at}
use Rattle.l2cap_channels.specs.Finding.{on_place, place_setup}
use Rattle.l2cap_channels.specs.Readings.{Nothing, Basic, Framed, reading_by, shown_by, taken_by, taken_on, taken_at, IsOpenCarrier, IsOpenOn}
use Rattle.l2cap_channels.specs.Steps.{with_change, on_setup, with_setup_at, granted}
use Rattle.l2cap_channels.specs.Timers.{asked_by, asked_on}

same_some : {X : Type 0} (x y : X) → Some x ≡ Some y → x ≡ y
same_some x y e = cc

same_framed : (a b : Answer) → Framed a ≡ Framed b → a ≡ b
same_framed a b e = cc

same_basic : (a b : List ℕ) → Basic a ≡ Basic b → a ≡ b
same_basic a b e = cc

shown_frame : (a : Answer) (frame : PlainFrame) → shown_by (Framed a) ≡ Framed (Ok frame) → a ≡ Ok frame
shown_frame (Ok other) frame e = same_framed (Ok other) (Ok frame) e
shown_frame (Err refusal) frame e = cc

shown_refusal : (a : Answer) (refusal : FrameRefusal) → shown_by (Framed a) ≡ Framed (Err refusal) → ⊥
shown_refusal (Ok other) refusal e = let no : Ok other ≡ Err refusal = same_framed (Ok other) (Err refusal) e in cc
shown_refusal (Err other) refusal e = cc

shown_nothing : (a : Answer) → shown_by (Framed a) ≡ Nothing → is_frame a ≡ false
shown_nothing (Ok frame) e = cc
shown_nothing (Err refusal) e = refl

no_basic : (a : Answer) (sdu : List ℕ) → shown_by (Framed a) ≡ Basic sdu → ⊥
no_basic (Ok frame) sdu e = cc
no_basic (Err refusal) sdu e = cc

-- a setup of these parts
abbrev made : Options → Option Carrier → Own → (refused renewed : ℕ) → Setup
made parts carrier own refused renewed = record { parts = parts; carrier = carrier; own = own; refused = refused; renewed = renewed }

-- what a machine makes of what was read, by how far the own request is
abbrev is_shown : Own → Answer → Bool
is_shown Unasked a = false
is_shown (Asking request options) a = is_frame a
is_shown Granted a = true

abbrev machine_takes : Own → Answer → Ertm → Held → Setup → Channels → Channels
machine_takes own a m held setup v =
    if is_shown own a then with_machine (machine_heard a m) (with_setup held (granted_setup setup)) (granted_setup setup) (opens_with own held setup v) else v

abbrev machine_up : Own → Answer → Ertm → Option (List ℕ)
machine_up own a m = if is_shown own a then machine_sdu a m else None

takes_is : (own : Own) (parts : Options) (refused renewed : ℕ) (m : Ertm) (pdu : List ℕ) (a : Answer) (held : Held) (v : Channels) → read_by m pdu ≡ a
    → machine_takes own a m held (made parts (Some (Retransmitting m)) own refused renewed) v ≡ takes_with (Some (Retransmitting m)) pdu held (made parts (Some (Retransmitting m)) own refused renewed) v
takes_is Unasked parts refused renewed m pdu a held v is = refl
takes_is (Asking request options) parts refused renewed m pdu a held v is =
    ap (λ (x : Answer). machine_takes (Asking request options) x m held (made parts (Some (Retransmitting m)) (Asking request options) refused renewed) v) (sym is)
takes_is Granted parts refused renewed m pdu a held v is =
    ap (λ (x : Answer). machine_takes Granted x m held (made parts (Some (Retransmitting m)) Granted refused renewed) v) (sym is)

up_is : (own : Own) (m : Ertm) (pdu : List ℕ) (a : Answer) → read_by m pdu ≡ a → machine_up own a m ≡ sdu_with (Some (Retransmitting m)) own pdu
up_is Unasked m pdu a is = refl
up_is (Asking request options) m pdu a is = ap (λ (x : Answer). machine_up (Asking request options) x m) (sym is)
up_is Granted m pdu a is = ap (λ (x : Answer). machine_up Granted x m) (sym is)

-- ---- a machine that is open

heard_is : (m : Ertm) (frame : PlainFrame) → m.closed ≡ None → heard frame m ≡ heard_by (fault frame m) frame m
heard_is m frame open_ = ap (λ (c : Option ErtmReason). open_heard c frame m) open_

settled_none : (m : Ertm) (held : Held) (setup : Setup) (v : Channels) → m.closed ≡ None → with_machine m held setup v ≡ to_setup held (record setup { carrier = Some (Retransmitting m) }) v
settled_none m held setup v open_ = ap (λ (c : Option ErtmReason). settles_machine c m held setup v) open_

settled_some : (m : Ertm) (held : Held) (setup : Setup) (v : Channels) (r : ErtmReason) → m.closed ≡ Some r → with_machine m held setup v ≡ closes (reason_of r) held v
settled_some m held setup v r shut = ap (λ (c : Option ErtmReason). settles_machine c m held setup v) shut

pub stays_open : (m : Ertm) (frame : PlainFrame) → m.closed ≡ None → fault frame m ≡ None → (heard frame m).closed ≡ None
stays_open m frame open_ none = ap (λ (x : Ertm). x.closed) (heard_is m frame open_ ∙ ap (λ (f : Option ErtmReason). heard_by f frame m) none) ∙ open_

is_closed : (m : Ertm) (frame : PlainFrame) (r : ErtmReason) → m.closed ≡ None → fault frame m ≡ Some r → (heard frame m).closed ≡ Some r
is_closed m frame r open_ some = ap (λ (x : Ertm). x.closed) (heard_is m frame open_ ∙ ap (λ (f : Option ErtmReason). heard_by f frame m) some)

-- ---- stages

changed : (f : Setup → Setup) (s : Setup) (stage : Stage) → setup_of stage ≡ Some s → with_change f stage ≡ stage_with (f s) stage
changed f s (Requested request) is = cc
changed f s (Connected peer setup) is = ap (λ (x : Setup). Connected peer (f x)) (same_some setup s is)
changed f s (Leaving peer setup request) is = ap (λ (x : Setup). Leaving peer (f x) request) (same_some setup s is)
changed f s (Closing peer request checked) is = cc
changed f s (Crossed peer request) is = cc

changed_again : (f : Setup → Setup) (s : Setup) (stage : Stage) → with_change f (stage_with s stage) ≡ stage_with (f s) (stage_with s stage)
changed_again f s (Requested request) = refl
changed_again f s (Connected peer setup) = refl
changed_again f s (Leaving peer setup request) = refl
changed_again f s (Closing peer request checked) = refl
changed_again f s (Crossed peer request) = refl

same_stage : (s : Setup) (stage : Stage) → setup_of stage ≡ Some s → stage_with s stage ≡ stage
same_stage s (Requested request) is = cc
same_stage s (Connected peer setup) is = ap (λ (x : Setup). Connected peer x) (sym (same_some setup s is))
same_stage s (Leaving peer setup request) is = ap (λ (x : Setup). Leaving peer x request) (sym (same_some setup s is))
same_stage s (Closing peer request checked) is = cc
same_stage s (Crossed peer request) is = cc

opened_setup_of : (s : Option Setup) (stage : Stage) → setup_of stage ≡ s → setup_of (with_change opened_setup stage) ≡ option_map opened_setup s
opened_setup_of s (Requested request) is = ap (option_map opened_setup) is
opened_setup_of s (Connected peer setup) is = ap (option_map opened_setup) is
opened_setup_of s (Leaving peer setup request) is = ap (option_map opened_setup) is
opened_setup_of s (Closing peer request checked) is = ap (option_map opened_setup) is
opened_setup_of s (Crossed peer request) is = ap (option_map opened_setup) is

-- ---- what follows, by what is taken

untaken : (carrier : Option Carrier) (own : Own) (parts : Options) (refused renewed : ℕ) (held : Held) (pdu : List ℕ) (v : Channels) → taken_by own (reading_by carrier pdu) ≡ Nothing
    → v ≡ takes_with carrier pdu held (made parts carrier own refused renewed) v
untaken None own parts refused renewed held pdu v none = refl
untaken (Some (Plain agreed waiting)) Unasked parts refused renewed held pdu v none = refl
untaken (Some (Plain agreed waiting)) (Asking request options) parts refused renewed held pdu v none = cc
untaken (Some (Plain agreed waiting)) Granted parts refused renewed held pdu v none = cc
untaken (Some (Retransmitting m)) Unasked parts refused renewed held pdu v none = refl
untaken (Some (Retransmitting m)) (Asking request options) parts refused renewed held pdu v none =
    let S = made parts (Some (Retransmitting m)) (Asking request options) refused renewed in
    let no : is_frame (read_by m pdu) ≡ false = shown_nothing (read_by m pdu) none in
    sym (ap (λ (b : Bool). if b then with_machine (machine_heard (read_by m pdu) m) (with_setup held (granted_setup S)) (granted_setup S) (opens_with (Asking request options) held S v) else v) no)
untaken (Some (Retransmitting m)) Granted parts refused renewed held pdu v none = cc

basic : (carrier : Option Carrier) (own : Own) (parts : Options) (refused renewed : ℕ) (held : Held) (pdu sdu : List ℕ) (v : Channels) → taken_by own (reading_by carrier pdu) ≡ Basic sdu
    → opens_with own held (made parts carrier own refused renewed) v ≡ takes_with carrier pdu held (made parts carrier own refused renewed) v
basic None Unasked parts refused renewed held pdu sdu v is = cc
basic None (Asking request options) parts refused renewed held pdu sdu v is = cc
basic None Granted parts refused renewed held pdu sdu v is = cc
basic (Some (Plain agreed waiting)) Unasked parts refused renewed held pdu sdu v is = cc
basic (Some (Plain agreed waiting)) (Asking request options) parts refused renewed held pdu sdu v is = refl
basic (Some (Plain agreed waiting)) Granted parts refused renewed held pdu sdu v is = refl
basic (Some (Retransmitting m)) Unasked parts refused renewed held pdu sdu v is = cc
basic (Some (Retransmitting m)) (Asking request options) parts refused renewed held pdu sdu v is = absurd (no_basic (read_by m pdu) sdu is)
basic (Some (Retransmitting m)) Granted parts refused renewed held pdu sdu v is = cc

stays : (carrier : Option Carrier) (own : Own) (parts : Options) (refused renewed : ℕ) (held : Held) (pdu : List ℕ) (frame : PlainFrame) (v : Channels) → taken_by own (reading_by carrier pdu) ≡ Framed (Ok frame)
    → IsOpenCarrier carrier → carrier_fault carrier frame ≡ None
    → to_setup (with_setup held (opened_setup (made parts carrier own refused renewed))) (heard_setup frame (opened_setup (made parts carrier own refused renewed))) (opens_with own held (made parts carrier own refused renewed) v)
    ≡ takes_with carrier pdu held (made parts carrier own refused renewed) v
stays None Unasked parts refused renewed held pdu frame v is open_ none = cc
stays None (Asking request options) parts refused renewed held pdu frame v is open_ none = cc
stays None Granted parts refused renewed held pdu frame v is open_ none = cc
stays (Some (Plain agreed waiting)) Unasked parts refused renewed held pdu frame v is open_ none = cc
stays (Some (Plain agreed waiting)) (Asking request options) parts refused renewed held pdu frame v is open_ none = cc
stays (Some (Plain agreed waiting)) Granted parts refused renewed held pdu frame v is open_ none = cc
stays (Some (Retransmitting m)) Unasked parts refused renewed held pdu frame v is open_ none = cc
stays (Some (Retransmitting m)) (Asking request options) parts refused renewed held pdu frame v is open_ none =
    let S = made parts (Some (Retransmitting m)) (Asking request options) refused renewed in
    sym (settled_none (heard frame m) (with_setup held (granted_setup S)) (granted_setup S) (opens_with (Asking request options) held S v) (stays_open m frame open_ none))
    ∙ takes_is (Asking request options) parts refused renewed m pdu (Ok frame) held v (shown_frame (read_by m pdu) frame is)
stays (Some (Retransmitting m)) Granted parts refused renewed held pdu frame v is open_ none =
    let S = made parts (Some (Retransmitting m)) Granted refused renewed in
    sym (settled_none (heard frame m) (with_setup held (granted_setup S)) (granted_setup S) (opens_with Granted held S v) (stays_open m frame open_ none))
    ∙ takes_is Granted parts refused renewed m pdu (Ok frame) held v (same_framed (read_by m pdu) (Ok frame) is)

shuts : (carrier : Option Carrier) (own : Own) (parts : Options) (refused renewed : ℕ) (held : Held) (pdu : List ℕ) (frame : PlainFrame) (r : ErtmReason) (v : Channels) → taken_by own (reading_by carrier pdu) ≡ Framed (Ok frame)
    → IsOpenCarrier carrier → carrier_fault carrier frame ≡ Some r
    → closes (reason_of r) (with_setup held (opened_setup (made parts carrier own refused renewed))) (opens_with own held (made parts carrier own refused renewed) v)
    ≡ takes_with carrier pdu held (made parts carrier own refused renewed) v
shuts None own parts refused renewed held pdu frame r v is open_ some = cc
shuts (Some (Plain agreed waiting)) own parts refused renewed held pdu frame r v is open_ some = cc
shuts (Some (Retransmitting m)) Unasked parts refused renewed held pdu frame r v is open_ some = cc
shuts (Some (Retransmitting m)) (Asking request options) parts refused renewed held pdu frame r v is open_ some =
    let S = made parts (Some (Retransmitting m)) (Asking request options) refused renewed in
    sym (settled_some (heard frame m) (with_setup held (granted_setup S)) (granted_setup S) (opens_with (Asking request options) held S v) r (is_closed m frame r open_ some))
    ∙ takes_is (Asking request options) parts refused renewed m pdu (Ok frame) held v (shown_frame (read_by m pdu) frame is)
shuts (Some (Retransmitting m)) Granted parts refused renewed held pdu frame r v is open_ some =
    let S = made parts (Some (Retransmitting m)) Granted refused renewed in
    sym (settled_some (heard frame m) (with_setup held (granted_setup S)) (granted_setup S) (opens_with Granted held S v) r (is_closed m frame r open_ some))
    ∙ takes_is Granted parts refused renewed m pdu (Ok frame) held v (same_framed (read_by m pdu) (Ok frame) is)

-- what is no frame closes an open machine, or changes nothing
unframed : (f : Option ErtmReason) (m : Ertm) (held : Held) (setup : Setup) (v : Channels) → m.closed ≡ None → to_setup held (record setup { carrier = Some (Retransmitting m) }) v ≡ v
    → refused_at f (Some held) v ≡ with_machine (closed_by None f m) held setup v
unframed None m held setup v open_ same = sym (settled_none m held setup v open_ ∙ same)
unframed (Some r) m held setup v open_ same = refl

refuses : (carrier : Option Carrier) (own : Own) (parts : Options) (refused renewed : ℕ) (held : Held) (pdu : List ℕ) (refusal : FrameRefusal) (v : Channels) → taken_by own (reading_by carrier pdu) ≡ Framed (Err refusal)
    → IsOpenCarrier carrier → with_setup held (made parts carrier own refused renewed) ≡ held → to_setup held (made parts carrier own refused renewed) v ≡ v
    → refused_at (refusal_fault refusal) (Some held) v ≡ takes_with carrier pdu held (made parts carrier own refused renewed) v
refuses None Unasked parts refused_ renewed held pdu refusal v is open_ here same = cc
refuses None (Asking request options) parts refused_ renewed held pdu refusal v is open_ here same = cc
refuses None Granted parts refused_ renewed held pdu refusal v is open_ here same = cc
refuses (Some (Plain agreed waiting)) Unasked parts refused_ renewed held pdu refusal v is open_ here same = cc
refuses (Some (Plain agreed waiting)) (Asking request options) parts refused_ renewed held pdu refusal v is open_ here same = cc
refuses (Some (Plain agreed waiting)) Granted parts refused_ renewed held pdu refusal v is open_ here same = cc
refuses (Some (Retransmitting m)) Unasked parts refused_ renewed held pdu refusal v is open_ here same = cc
refuses (Some (Retransmitting m)) (Asking request options) parts refused_ renewed held pdu refusal v is open_ here same = absurd (shown_refusal (read_by m pdu) refusal is)
refuses (Some (Retransmitting m)) Granted parts refused_ renewed held pdu refusal v is open_ here same =
    let S = made parts (Some (Retransmitting m)) Granted refused_ renewed in
    unframed (refusal_fault refusal) m held S v open_ same
    ∙ ap (λ (c : Option ErtmReason). with_machine (closed_by c (refusal_fault refusal) m) held S v) (sym open_)
    ∙ ap (λ (k : Held). with_machine (refused refusal m) k S v) (sym here)
    ∙ takes_is Granted parts refused_ renewed m pdu (Err refusal) held v (same_framed (read_by m pdu) (Err refusal) is)

-- ---- the same at the place of the channel

untaken_on : (s : Option Setup) (h : Held) (pdu : List ℕ) (v : Channels) → taken_on s pdu ≡ Nothing → v ≡ takes_on s pdu h v
untaken_on None h pdu v none = refl
untaken_on (Some s) h pdu v none = untaken s.carrier s.own s.parts s.refused s.renewed h pdu v none

pub untaken_at : (o : Option Held) (pdu : List ℕ) (v : Channels) → taken_at o pdu ≡ Nothing → v ≡ takes_held o pdu v
untaken_at None pdu v none = refl
untaken_at (Some h) pdu v none = untaken_on (setup_of h.stage) h pdu v none

basic_on : (s : Option Setup) (h : Held) (pdu sdu : List ℕ) (v : Channels) → taken_on s pdu ≡ Basic sdu → on_setup opens s h v ≡ takes_on s pdu h v
basic_on None h pdu sdu v is = cc
basic_on (Some s) h pdu sdu v is = basic s.carrier s.own s.parts s.refused s.renewed h pdu sdu v is

pub basic_at : (o : Option Held) (pdu sdu : List ℕ) (v : Channels) → taken_at o pdu ≡ Basic sdu → on_place (with_setup_at opens) o v ≡ takes_held o pdu v
basic_at None pdu sdu v is = cc
basic_at (Some h) pdu sdu v is = basic_on (setup_of h.stage) h pdu sdu v is

refuses_on : (s : Option Setup) (h : Held) (pdu : List ℕ) (refusal : FrameRefusal) (v : Channels) → setup_of h.stage ≡ s → taken_on s pdu ≡ Framed (Err refusal) → IsOpenOn s → to_stage h h.stage v ≡ v
    → refused_at (refusal_fault refusal) (Some h) v ≡ takes_on s pdu h v
refuses_on None h pdu refusal v at is open_ same = cc
refuses_on (Some s) h pdu refusal v at is open_ same =
    let stage : stage_with s h.stage ≡ h.stage = same_stage s h.stage at in
    refuses s.carrier s.own s.parts s.refused s.renewed h pdu refusal v is open_ (ap (λ (x : Stage). record h { stage = x }) stage) (ap (λ (x : Stage). to_stage h x v) stage ∙ same)

pub refuses_at : (o : Option Held) (pdu : List ℕ) (refusal : FrameRefusal) (v : Channels) → taken_at o pdu ≡ Framed (Err refusal) → IsOpenOn (place_setup o) → on_place (λ held. to_stage held held.stage) o v ≡ v
    → refused_at (refusal_fault refusal) o v ≡ takes_held o pdu v
refuses_at None pdu refusal v is open_ same = cc
refuses_at (Some h) pdu refusal v is open_ same = refuses_on (setup_of h.stage) h pdu refusal v refl is open_ same

-- the fault of a frame is the same once the own request is accepted
fault_opened : (s : Option Setup) (stage : Stage) (frame : PlainFrame) → setup_of stage ≡ s → fault_on (setup_of (with_change opened_setup stage)) frame ≡ fault_on s frame
fault_opened s stage frame at = ap (λ (x : Option Setup). fault_on x frame) (opened_setup_of s stage at) ∙ same_fault s
  where
    same_fault : (s : Option Setup) → fault_on (option_map opened_setup s) frame ≡ fault_on s frame
    same_fault None = refl
    same_fault (Some s) = refl

opened_is : (s : Setup) (h : Held) → setup_of h.stage ≡ Some s → opened h ≡ with_setup h (opened_setup s)
opened_is s h at = ap (λ (x : Stage). record h { stage = x }) (changed opened_setup s h.stage at)

-- what a channel makes of a frame that does not close it
abbrev pub hears_in : PlainFrame → Held → Channels → Channels
hears_in frame held v = to_stage held (with_change (heard_setup frame) held.stage) v

stays_on : (s : Option Setup) (h : Held) (pdu : List ℕ) (frame : PlainFrame) (v : Channels) → setup_of h.stage ≡ s → taken_on s pdu ≡ Framed (Ok frame) → IsOpenOn s → fault_on s frame ≡ None
    → hears_in frame (opened h) (on_setup opens s h v) ≡ takes_on s pdu h v
stays_on None h pdu frame v at is open_ none = cc
stays_on (Some s) h pdu frame v at is open_ none =
    ap (λ (k : Held). hears_in frame k (opens_with s.own h s v)) (opened_is s h at)
    ∙ ap (λ (x : Stage). to_stage (with_setup h (opened_setup s)) x (opens_with s.own h s v)) (changed_again (heard_setup frame) (opened_setup s) h.stage)
    ∙ stays s.carrier s.own s.parts s.refused s.renewed h pdu frame v is open_ none

pub stays_at : (o : Option Held) (pdu : List ℕ) (frame : PlainFrame) (v w : Channels) → taken_at o pdu ≡ Framed (Ok frame) → IsOpenOn (place_setup o) → w ≡ on_place (with_setup_at opens) o v
    → fault_on (place_setup (option_map opened o)) frame ≡ None → on_place (hears_in frame) (option_map opened o) w ≡ takes_held o pdu v
stays_at None pdu frame v w is open_ w_is none = cc
stays_at (Some h) pdu frame v w is open_ w_is none =
    ap (hears_in frame (opened h)) w_is
    ∙ stays_on (setup_of h.stage) h pdu frame v refl is open_ (sym (fault_opened (setup_of h.stage) h.stage frame refl) ∙ none)

shuts_on : (s : Option Setup) (h : Held) (pdu : List ℕ) (frame : PlainFrame) (r : ErtmReason) (v : Channels) → setup_of h.stage ≡ s → taken_on s pdu ≡ Framed (Ok frame) → IsOpenOn s → fault_on s frame ≡ Some r
    → closes (reason_of r) (opened h) (on_setup opens s h v) ≡ takes_on s pdu h v
shuts_on None h pdu frame r v at is open_ some = cc
shuts_on (Some s) h pdu frame r v at is open_ some =
    ap (λ (k : Held). closes (reason_of r) k (opens_with s.own h s v)) (opened_is s h at)
    ∙ shuts s.carrier s.own s.parts s.refused s.renewed h pdu frame r v is open_ some

pub shuts_at : (o : Option Held) (pdu : List ℕ) (frame : PlainFrame) (r : ErtmReason) (v w : Channels) → taken_at o pdu ≡ Framed (Ok frame) → IsOpenOn (place_setup o) → w ≡ on_place (with_setup_at opens) o v
    → fault_on (place_setup (option_map opened o)) frame ≡ Some r → on_place (closes (reason_of r)) (option_map opened o) w ≡ takes_held o pdu v
shuts_at None pdu frame r v w is open_ w_is some = cc
shuts_at (Some h) pdu frame r v w is open_ w_is some =
    ap (closes (reason_of r) (opened h)) w_is
    ∙ shuts_on (setup_of h.stage) h pdu frame r v refl is open_ (sym (fault_opened (setup_of h.stage) h.stage frame refl) ∙ some)

-- ---- what is handed up

sdu_untaken : (carrier : Option Carrier) (own : Own) (pdu : List ℕ) → taken_by own (reading_by carrier pdu) ≡ Nothing → sdu_with carrier own pdu ≡ None
sdu_untaken None own pdu none = refl
sdu_untaken (Some (Plain agreed waiting)) Unasked pdu none = refl
sdu_untaken (Some (Plain agreed waiting)) (Asking request options) pdu none = cc
sdu_untaken (Some (Plain agreed waiting)) Granted pdu none = cc
sdu_untaken (Some (Retransmitting m)) Unasked pdu none = refl
sdu_untaken (Some (Retransmitting m)) (Asking request options) pdu none =
    ap (λ (b : Bool). if b then machine_sdu (read_by m pdu) m else None) (shown_nothing (read_by m pdu) none)
sdu_untaken (Some (Retransmitting m)) Granted pdu none = cc

sdu_basic : (carrier : Option Carrier) (own : Own) (pdu sdu : List ℕ) → taken_by own (reading_by carrier pdu) ≡ Basic sdu → sdu_with carrier own pdu ≡ Some sdu
sdu_basic None Unasked pdu sdu is = cc
sdu_basic None (Asking request options) pdu sdu is = cc
sdu_basic None Granted pdu sdu is = cc
sdu_basic (Some (Plain agreed waiting)) Unasked pdu sdu is = cc
sdu_basic (Some (Plain agreed waiting)) (Asking request options) pdu sdu is = ap (λ (x : List ℕ). Some x) (same_basic (drop 4 pdu) sdu is)
sdu_basic (Some (Plain agreed waiting)) Granted pdu sdu is = ap (λ (x : List ℕ). Some x) (same_basic (drop 4 pdu) sdu is)
sdu_basic (Some (Retransmitting m)) Unasked pdu sdu is = cc
sdu_basic (Some (Retransmitting m)) (Asking request options) pdu sdu is = absurd (no_basic (read_by m pdu) sdu is)
sdu_basic (Some (Retransmitting m)) Granted pdu sdu is = cc

sdu_refused : (carrier : Option Carrier) (own : Own) (pdu : List ℕ) (refusal : FrameRefusal) → taken_by own (reading_by carrier pdu) ≡ Framed (Err refusal) → sdu_with carrier own pdu ≡ None
sdu_refused None own pdu refusal is = refl
sdu_refused (Some (Plain agreed waiting)) Unasked pdu refusal is = cc
sdu_refused (Some (Plain agreed waiting)) (Asking request options) pdu refusal is = cc
sdu_refused (Some (Plain agreed waiting)) Granted pdu refusal is = cc
sdu_refused (Some (Retransmitting m)) Unasked pdu refusal is = refl
sdu_refused (Some (Retransmitting m)) (Asking request options) pdu refusal is = absurd (shown_refusal (read_by m pdu) refusal is)
sdu_refused (Some (Retransmitting m)) Granted pdu refusal is = sym (up_is Granted m pdu (Err refusal) (same_framed (read_by m pdu) (Err refusal) is))

sdu_framed : (carrier : Option Carrier) (own : Own) (pdu : List ℕ) (frame : PlainFrame) → taken_by own (reading_by carrier pdu) ≡ Framed (Ok frame) → sdu_with carrier own pdu ≡ sdu_heard (carrier_answer carrier frame)
sdu_framed None own pdu frame is = refl
sdu_framed (Some (Plain agreed waiting)) Unasked pdu frame is = refl
sdu_framed (Some (Plain agreed waiting)) (Asking request options) pdu frame is = cc
sdu_framed (Some (Plain agreed waiting)) Granted pdu frame is = cc
sdu_framed (Some (Retransmitting m)) Unasked pdu frame is = cc
sdu_framed (Some (Retransmitting m)) (Asking request options) pdu frame is = sym (up_is (Asking request options) m pdu (Ok frame) (shown_frame (read_by m pdu) frame is))
sdu_framed (Some (Retransmitting m)) Granted pdu frame is = sym (up_is Granted m pdu (Ok frame) (same_framed (read_by m pdu) (Ok frame) is))

sdu_shut : (carrier : Option Carrier) (frame : PlainFrame) (r : ErtmReason) → IsOpenCarrier carrier → carrier_fault carrier frame ≡ Some r → sdu_heard (carrier_answer carrier frame) ≡ None
sdu_shut None frame r open_ some = refl
sdu_shut (Some (Plain agreed waiting)) frame r open_ some = refl
sdu_shut (Some (Retransmitting m)) frame r open_ some = ap (λ (c : Option ErtmReason). sdu_heard (answer_by c frame m)) (is_closed m frame r open_ some)

pub up_untaken : (o : Option Held) (pdu : List ℕ) → taken_at o pdu ≡ Nothing → model.Nothing ≡ up_on o pdu
up_untaken None pdu none = refl
up_untaken (Some h) pdu none = ap (λ (x : Option (List ℕ)). up_by x h) (sym (by_stage h.stage none))
  where
    by_stage : (stage : Stage) → taken_on (setup_of stage) pdu ≡ Nothing → sdu_at stage pdu ≡ None
    by_stage (Requested request) none = refl
    by_stage (Connected peer setup) none = sdu_untaken setup.carrier setup.own pdu none
    by_stage (Leaving peer setup request) none = refl
    by_stage (Closing peer request checked) none = refl
    by_stage (Crossed peer request) none = refl

pub up_basic : (o : Option Held) (pdu sdu : List ℕ) → taken_at o pdu ≡ Basic sdu → handed_up o sdu ≡ up_on o pdu
up_basic None pdu sdu is = refl
up_basic (Some h) pdu sdu is = ap (λ (x : Option (List ℕ)). up_by x h) (sym (by_stage h.stage is))
  where
    by_stage : (stage : Stage) → taken_on (setup_of stage) pdu ≡ Basic sdu → sdu_at stage pdu ≡ handed_at stage sdu
    by_stage (Requested request) is = refl
    by_stage (Connected peer setup) is = sdu_basic setup.carrier setup.own pdu sdu is
    by_stage (Leaving peer setup request) is = refl
    by_stage (Closing peer request checked) is = refl
    by_stage (Crossed peer request) is = refl

pub up_refused : (o : Option Held) (pdu : List ℕ) (refusal : FrameRefusal) → taken_at o pdu ≡ Framed (Err refusal) → model.Nothing ≡ up_on o pdu
up_refused None pdu refusal is = refl
up_refused (Some h) pdu refusal is = ap (λ (x : Option (List ℕ)). up_by x h) (sym (by_stage h.stage is))
  where
    by_stage : (stage : Stage) → taken_on (setup_of stage) pdu ≡ Framed (Err refusal) → sdu_at stage pdu ≡ None
    by_stage (Requested request) is = refl
    by_stage (Connected peer setup) is = sdu_refused setup.carrier setup.own pdu refusal is
    by_stage (Leaving peer setup request) is = refl
    by_stage (Closing peer request checked) is = refl
    by_stage (Crossed peer request) is = refl

up_framed : (stage : Stage) (pdu : List ℕ) (frame : PlainFrame) → taken_on (setup_of stage) pdu ≡ Framed (Ok frame) → frame_sdu (with_change opened_setup stage) frame ≡ sdu_at stage pdu
up_framed (Requested request) pdu frame is = refl
up_framed (Connected peer setup) pdu frame is = sym (sdu_framed setup.carrier setup.own pdu frame is)
up_framed (Leaving peer setup request) pdu frame is = refl
up_framed (Closing peer request checked) pdu frame is = refl
up_framed (Crossed peer request) pdu frame is = refl

pub up_stays : (o : Option Held) (pdu : List ℕ) (frame : PlainFrame) → taken_at o pdu ≡ Framed (Ok frame) → frame_up (option_map opened o) frame ≡ up_on o pdu
up_stays None pdu frame is = refl
up_stays (Some h) pdu frame is = same_up (frame_sdu (with_change opened_setup h.stage) frame) ∙ ap (λ (x : Option (List ℕ)). up_by x h) (up_framed h.stage pdu frame is)
  where
    same_up : (sdu : Option (List ℕ)) → up_by sdu (opened h) ≡ up_by sdu h
    same_up None = refl
    same_up (Some sdu) = refl

pub up_shuts : (o : Option Held) (pdu : List ℕ) (frame : PlainFrame) (r : ErtmReason) → taken_at o pdu ≡ Framed (Ok frame) → IsOpenOn (place_setup o) → fault_on (place_setup (option_map opened o)) frame ≡ Some r → model.Nothing ≡ up_on o pdu
up_shuts None pdu frame r is open_ some = refl
up_shuts (Some h) pdu frame r is open_ some =
    ap (λ (x : Option (List ℕ)). up_by x h) (sym (sym (up_framed h.stage pdu frame is) ∙ by_stage h.stage open_ (sym (fault_opened (setup_of h.stage) h.stage frame refl) ∙ some)))
  where
    by_stage : (stage : Stage) → IsOpenOn (setup_of stage) → fault_on (setup_of stage) frame ≡ Some r → frame_sdu (with_change opened_setup stage) frame ≡ None
    by_stage (Requested request) open_ some = refl
    by_stage (Connected peer setup) open_ some = sdu_shut setup.carrier frame r open_ some
    by_stage (Leaving peer setup request) open_ some = refl
    by_stage (Closing peer request checked) open_ some = refl
    by_stage (Crossed peer request) open_ some = refl

-- ---- the own request is accepted where it waits

asked_opens : (s : Option Setup) (h : Held) (v : Channels) → is_some (asked_on s) ≡ true → on_setup grants s h v ≡ on_setup opens s h v
asked_opens None h v some = refl
asked_opens (Some s) h v some = by_own s.own refl some
  where
    by_own : (own : Own) → s.own ≡ own → is_some (asked_by own) ≡ true → grants h s v ≡ opens_with s.own h s v
    by_own Unasked is some = cc
    by_own (Asking request options) is some = ap (λ (x : Own). opens_with x h s v) (sym is)
    by_own Granted is some = cc

pub asked_at : (o : Option Held) (v : Channels) → is_some (asked_on (place_setup o)) ≡ true → on_place (with_setup_at grants) o v ≡ on_place (with_setup_at opens) o v
asked_at None v some = refl
asked_at (Some h) v some = asked_opens (setup_of h.stage) h v some

unasked_opens : (s : Option Setup) (h : Held) (v : Channels) → is_some (asked_on s) ≡ false → v ≡ on_setup opens s h v
unasked_opens None h v none = refl
unasked_opens (Some s) h v none = by_own s.own none
  where
    by_own : (own : Own) → is_some (asked_by own) ≡ false → v ≡ opens_with own h s v
    by_own Unasked none = refl
    by_own (Asking request options) none = cc
    by_own Granted none = refl

pub unasked_at : (o : Option Held) (v : Channels) → is_some (asked_on (place_setup o)) ≡ false → v ≡ on_place (with_setup_at opens) o v
unasked_at None v none = refl
unasked_at (Some h) v none = unasked_opens (setup_of h.stage) h v none

asked_setup : (s : Setup) → is_some (asked_by s.own) ≡ true → granted_setup s ≡ opened_setup s
asked_setup s some = by_own s.own some
  where
    by_own : (own : Own) → is_some (asked_by own) ≡ true → granted_setup s ≡ record s { own = opened_own own }
    by_own Unasked some = cc
    by_own (Asking request options) some = refl
    by_own Granted some = cc

unasked_setup : (s : Setup) → is_some (asked_by s.own) ≡ false → opened_setup s ≡ s
unasked_setup s none = by_own s.own refl none
  where
    by_own : (own : Own) → s.own ≡ own → is_some (asked_by own) ≡ false → opened_setup s ≡ s
    by_own Unasked is none = ap (λ (x : Own). record s { own = opened_own x }) is ∙ ap (λ (x : Own). record s { own = x }) (sym is)
    by_own (Asking request options) is none = cc
    by_own Granted is none = ap (λ (x : Own). record s { own = opened_own x }) is ∙ ap (λ (x : Own). record s { own = x }) (sym is)

asked_stage : (stage : Stage) → is_some (asked_on (setup_of stage)) ≡ true → with_change granted_setup stage ≡ with_change opened_setup stage
asked_stage (Requested request) some = refl
asked_stage (Connected peer setup) some = ap (λ (x : Setup). Connected peer x) (asked_setup setup some)
asked_stage (Leaving peer setup request) some = ap (λ (x : Setup). Leaving peer x request) (asked_setup setup some)
asked_stage (Closing peer request checked) some = refl
asked_stage (Crossed peer request) some = refl

unasked_stage : (stage : Stage) → is_some (asked_on (setup_of stage)) ≡ false → with_change opened_setup stage ≡ stage
unasked_stage (Requested request) none = refl
unasked_stage (Connected peer setup) none = ap (λ (x : Setup). Connected peer x) (unasked_setup setup none)
unasked_stage (Leaving peer setup request) none = ap (λ (x : Setup). Leaving peer x request) (unasked_setup setup none)
unasked_stage (Closing peer request checked) none = refl
unasked_stage (Crossed peer request) none = refl

pub asked_there : (o : Option Held) → is_some (asked_on (place_setup o)) ≡ true → option_map granted o ≡ option_map opened o
asked_there None some = refl
asked_there (Some h) some = ap (λ (x : Stage). Some (record h { stage = x })) (asked_stage h.stage some)

pub unasked_there : (o : Option Held) → is_some (asked_on (place_setup o)) ≡ false → o ≡ option_map opened o
unasked_there None none = refl
unasked_there (Some h) none = ap (λ (x : Stage). Some (record h { stage = x })) (sym (unasked_stage h.stage none))

pub is_there : (o : Option Held) → is_some (asked_on (place_setup o)) ≡ true → is_some (place_setup o) ≡ true
is_there None some = cc
is_there (Some h) some = by_setup (setup_of h.stage) some
  where
    by_setup : (s : Option Setup) → is_some (asked_on s) ≡ true → is_some s ≡ true
    by_setup None some = cc
    by_setup (Some s) some = refl

pub within_there : (xs ys : List Held) (at : ℕ) → at < length xs → slice_get ys at ≡ option_map opened (slice_get xs at) → at < length ys
within_there [] ys at within is = absurd (omega arith)
within_there (x ∷ xs) [] zero within is = cc
within_there (x ∷ xs) [] (suc at) within is = absurd (omega (arith, within_there xs [] at (omega arith) is))
within_there (x ∷ xs) (y ∷ ys) zero within is = omega arith
within_there (x ∷ xs) (y ∷ ys) (suc at) within is = omega (arith, within_there xs ys at (omega arith) is)
