-- What a host says is read as what its channels gave.
use Rattle.std.proofs.Common.{◌≡◌, ℕ, zero, suc, ◌+◌, ◌^◌, ◌<◌, ◌≤◌, arith, length-append, List, [], ◌∷◌, ◌++◌, length, drop, map, Bool, true, false, eqb, Option, Some, None, Ok, refl, sym, ap, subst, ◌∙◌, if◌then◌else◌}
use Rattle.std.specs.List.{AllByRecursion}
use Rattle.shelf_model.specs.acl_fragments.specs.Pieces.{channel_of}
use Rattle.shelf_model.specs.bt_base.specs.Octets.{IsOctets, le16}
use Rattle.shelf_model.specs.capture.specs.declared.flow.Flow.TheVariants.{Out}
use Rattle.shelf_model.specs.capture.specs.Pdus.{Pdu}
use Rattle.shelf_model.specs.check_words.specs.CheckWords.{l2cap_check}
use Rattle.shelf_model.specs.ertm_frames.specs.Frames as frames
use Rattle.shelf_model.specs.ertm_frames.specs.Frames.{PlainFrame, information, supervisory, control_of, body_of, covered}
use Rattle.shelf_model.specs.l2cap_signal.proofs.Contents.{octets_behind}
use Rattle.shelf_model.specs.l2cap_signal.specs.Commands.{Command, spelling}
use Rattle.shelf_model.specs.l2cap_signal.specs.Reading.{answers}
use Rattle.push_laws.specs.link_talk.specs.Sayings.{Saying, Carried, said_by}
use Rattle.push_laws.specs.link_talk.specs.Sayings as sayings
use Rattle.channel_laws.specs.channel_model.specs.Value.{Channels}
use Rattle.channel_laws.specs.channel_model.specs.Policies.{policy}
use Rattle.channel_laws.specs.channel_model.specs.Giving.{Given, Signal, Whole, Framed, IsPdu, next_given, headed}
use Rattle.channel_laws.specs.Belonging.{IsFit}
use Rattle.channel_laws.proofs.Fitted.{IsLowPsm, low-psm, IsForEndpoint, given-endpoint, given-fit}
use Rattle.channel_laws.proofs.Numbering.{HasNumbers, IsNumberedGiven, given-numbered}
use Rattle.channel_laws.proofs.Uttering.{uttered-is_read}
use Rattle.shelf_model.specs.world_model.specs.Machines.{Linked, Failed, Heard, TimerFired, Cancelled, Opening}
use Rattle.shelf_model.specs.host_model.specs.Circumstances.{Circumstance}
use Rattle.shelf_model.specs.host_model.specs.Pdus.{pdu_of, is_frame, number_of, frame_octets}
use Rattle.shelf_model.specs.host_model.specs.Spelling.{Fits, CanSpell}
use Rattle.shelf_model.specs.host_model.proofs.Spelled.{octets_are_right}
use Rattle.shelf_model.specs.host_model.specs.Profiles.{Profile}
use Rattle.shelf_model.specs.host_model.specs.Hosts.{Host, first_host, says, after_said, next}
use Rattle.shelf_model.specs.host_model.specs.Clients.{client_profile}
use Rattle.shelf_model.specs.host_model.specs.Servers.{server_profile}
use Rattle.shelf_model.specs.host_model.specs.Machines.{upper}
use Rattle.shelf_model.specs.host_model.proofs.Orderly.{says_frames, says_octets}
use Rattle.host_laws.specs.Acts.{Act, Hears, Says, Does, Acting}
use Rattle.host_laws.specs.Calm.{IsReadFrom}
use Rattle.host_laws.specs.Read.{IsSoberPdu, IsActSo, SaysAsRead, SaidIsRead}
use Rattle.host_laws.specs.Seen.{saying_of}
use Rattle.host_laws.proofs.Fitting.{IsProper, proper-holds, KeepsFit, FitHost, AnyServer, IsLowClient, first-fits, hears-fit, said-fits, servers-keep_fit, clients-keep_fit}

-- ---- a PDU that is said

-- what its channels gave, and the host once it was said
pub record Spoke {P : Type 0} (A : Profile P) (host : Host P) (pdu : List ℕ) (after : Host P) : Type 0 where
  pub given : Given
  pub is : next_given host.channels ≡ Some given
  pub pdu_is : pdu ≡ pdu_of given
  pub left : ℕ
  pub after_is : after ≡ after_said A left host

same_some : {X : Type 0} (x y : X) → Some x ≡ Some y → x ≡ y
same_some x y is = cc

same_front : {X Y : Type 0} (a c : X) (b d : Y) → (let one : X × Y = (a, b) in let other : X × Y = (c, d) in Some one ≡ Some other) → a ≡ c
same_front {X} {Y} a c b d is = ap (λ (p : X × Y). p.0) (same_some _ _ is)

pub same_back : {X Y : Type 0} (a c : X) (b d : Y) → (let one : X × Y = (a, b) in let other : X × Y = (c, d) in Some one ≡ Some other) → b ≡ d
same_back {X} {Y} a c b d is = ap (λ (p : X × Y). p.1) (same_some _ _ is)

none_some : {X : Type 0} {Z : Type 0} (x : X) → None ≡ Some x → Z
none_some x is = cc

abbrev framed_by : {P : Type 0} → Bool → List ℕ → Host P → Option (List ℕ × Host P)
framed_by test pdu after = if test then Some (pdu, after) else None

pub spoke : {P : Type 0} (A : Profile P) (host : Host P) (pdu : List ℕ) (after : Host P) → next A host ≡ Some (pdu, after) → Spoke A host pdu after
spoke {P} A host pdu after said = by (next_given host.channels) refl host.may_say said
  where
    framed : (given : Given) (count : ℕ) (test : Bool) → next_given host.channels ≡ Some given → framed_by {P = P} test (pdu_of given) (after_said A count host) ≡ Some (pdu, after) → Spoke A host pdu after
    framed given count true is same =
        record { given = given; is = is; pdu_is = sym (same_front (pdu_of given) pdu (after_said A count host) after same); left = count; after_is = sym (same_back (pdu_of given) pdu (after_said A count host) after same) }
    framed given count false is same = none_some (pdu, after) same

    by : (found : Option Given) → next_given host.channels ≡ found → (count : ℕ) → says A found count host ≡ Some (pdu, after) → Spoke A host pdu after
    by None is count same = none_some (pdu, after) same
    by (Some given) is zero same = none_some (pdu, after) same
    by (Some given) is (suc count) same = framed given count (is_frame (pdu_of given)) is same

-- ---- how it is read

abbrev out : List ℕ → Pdu
out pdu = record { flow = Out; octets = pdu }

-- on the signalling channel
signal_read : (command : Command) (pdu : List ℕ) → pdu ≡ headed 0x0001 (spelling command) → answers (drop 4 pdu) ≡ Ok command ∷ [] → said_by (out pdu) ≡ saying_of (Signal command) pdu ∷ []
signal_read command pdu is read =
    ap (λ (b : Bool). if b then map (sayings.Command Out) (answers (drop 4 pdu)) else Carried Out pdu ∷ []) (ap (λ (p : List ℕ). eqb (channel_of p) 0x0001) is) ∙ ap (map (sayings.Command Out)) read

-- on another one
carried_read : (pdu : List ℕ) → eqb (channel_of pdu) 0x0001 ≡ false → said_by (out pdu) ≡ Carried Out pdu ∷ []
carried_read pdu apart = ap (λ (b : Bool). if b then map (sayings.Command Out) (answers (drop 4 pdu)) else Carried Out pdu ∷ []) apart

octets_front : (xs ys : List ℕ) → IsOctets (xs ++ ys) → IsOctets xs
octets_front [] ys all i = omega arith
octets_front (x ∷ xs) ys all zero = all zero
octets_front (x ∷ xs) ys all (suc i) = octets_front xs ys (λ j. all (suc j)) i

-- what a frame carries
abbrev carried : PlainFrame → List ℕ
carried (information tx final req sar total octets) = octets
carried (supervisory kind poll final req) = []

carried_octets : (frame : PlainFrame) → IsOctets (body_of frame) → IsOctets (carried frame)
carried_octets (information tx final req sar total octets) all = by (eqb sar 1) all
  where
    by : (start : Bool) → IsOctets ((if start then le16 total else []) ++ octets) → IsOctets octets
    by true all = octets_behind 2 (le16 total ++ octets) all
    by false all = all
carried_octets (supervisory kind poll final req) all = all

frame_is : (frame : PlainFrame) → HasNumbers frame → IsOctets (carried frame) → frames.IsFrame frame
frame_is (information tx final req sar total octets) numbers all = record { tx_fits = numbers.0; req_fits = numbers.1; sar_fits = numbers.2; total_fits = numbers.3; stated = numbers.4; are_octets = all }
frame_is (supervisory kind poll final req) numbers all = numbers

-- the octets of a frame that is said are octets, and its length fits
frame_fits : (peer : ℕ) (frame : PlainFrame) → peer < 2 ^ 16 → HasNumbers frame → length (frame_octets peer frame) ≤ 32775 → IsOctets (frame_octets peer frame) → Fits peer frame
frame_fits peer frame there numbers short octets =
    let body = body_of frame in
    let check = le16 (number_of (l2cap_check (covered peer (control_of frame) body))) in
    let size = length-append body check in
    let whole : length (frame_octets peer frame) ≡ 6 + (length body + 2) = omega (arith, size) in
    record { peer_fits = there; length_fits = omega (arith, whole, short); fits = frame_is frame numbers (carried_octets frame (octets_front body check (octets_behind 6 (frame_octets peer frame) octets))) }

-- what a host gives has the octets that it says
can_spell : (given : Given) → IsForEndpoint given → IsNumberedGiven given → length (pdu_of given) ≤ 32775 → IsOctets (pdu_of given) → CanSpell given
can_spell (Signal command) there numbers short octets = tt
can_spell (Whole peer sdu) there numbers short octets = tt
can_spell (Framed peer frame) there numbers short octets = frame_fits peer frame there.0 numbers short octets

given_read : (given : Given) (pdu : List ℕ) → IsFit given → IsPdu given pdu → said_by (out pdu) ≡ saying_of given pdu ∷ []
given_read (Signal command) pdu fit spelled = signal_read command pdu spelled (uttered-is_read (Signal command) pdu fit spelled)
given_read (Whole peer sdu) pdu fit spelled = carried_read pdu (uttered-is_read (Whole peer sdu) pdu fit spelled) ∙ ap (λ (p : List ℕ). Carried Out p ∷ []) spelled
given_read (Framed peer frame) pdu fit spelled = carried_read pdu (uttered-is_read (Framed peer frame) pdu fit spelled)

-- where a host's channels are as they should be
pub reads-so : {P : Type 0} (A : Profile P) (host after : Host P) (pdu : List ℕ) → IsProper A.policy host.channels → next A host ≡ Some (pdu, after) → IsReadFrom pdu host
reads-so A host after pdu proper said given is =
    let told = spoke A host pdu after said in
    let octets = says_octets A host pdu after said in
    let same : told.given ≡ given = some_is told.given given (sym told.is ∙ is) in
    let spells : pdu ≡ pdu_of given = told.pdu_is ∙ ap pdu_of same in
    let short : length (pdu_of given) ≤ 32775 = subst (λ (p : List ℕ). length p ≤ 32775) spells (says_frames A host pdu after said).short in
    let all : IsOctets (pdu_of given) = subst IsOctets spells octets in
    let can = can_spell given (given-endpoint IsLowPsm low-psm host.channels given proper.fitted is) (given-numbered A.policy host.channels given proper.numbered is) short all in
    let spelled : IsPdu given pdu = subst (IsPdu given) (sym spells) (octets_are_right.pdus given can) in
    record { read = given_read given pdu (given-fit IsLowPsm low-psm (λ n low. low) host.channels given pdu proper.fitted is spelled octets) spelled; spelled = spelled; octets = octets }
  where
    some_is : (x y : Given) → Some x ≡ Some y → x ≡ y
    some_is x y is = cc

-- ---- from the first moment on

pub act-fits : {P : Type 0} (A : Profile P) (S : List ℕ → Type 0) (K : Channels → Type 0) (Q : P → Type 0) → KeepsFit A S K Q → (act : Act Circumstance) (old mid : Host P) → IsActSo S act → Does (upper A) act old mid → FitHost K Q old → FitHost K Q mid
act-fits A S K Q keeps (Hears circumstances news) old mid sober does fit = subst (FitHost K Q) (sym does) (hears-fit A S K Q keeps circumstances news old sober fit)
act-fits A S K Q keeps (Says pdu) old mid sober does fit = let told = spoke A old pdu mid does in subst (FitHost K Q) (sym told.after_is) (said-fits A S K Q keeps told.left old fit)

pub acts-fit : {P : Type 0} (A : Profile P) (S : List ℕ → Type 0) (K : Channels → Type 0) (Q : P → Type 0) → KeepsFit A S K Q → (acts : List (Act Circumstance)) (old now : Host P) → AllByRecursion (IsActSo S) acts → Acting (upper A) acts old now → FitHost K Q old → FitHost K Q now
acts-fit A S K Q keeps [] old now sober same fit = subst (FitHost K Q) (sym same) fit
acts-fit A S K Q keeps (act ∷ acts) old now sober (mid, does, rest) fit = acts-fit A S K Q keeps acts mid now sober.1 rest (act-fits A S K Q keeps act old mid sober.0 does fit)

-- what is so of a profile whatever comes in
pub profile-so : {P : Type 0} (A : Profile P) (Q : P → Type 0) → KeepsFit A (λ pdu. Unit {0}) (λ v. Unit {0}) Q → (acts : List (Act Circumstance)) (now : Host P) → Acting (upper A) acts (first_host A) now → Q now.profile
profile-so A Q keeps acts now acting = (acts-fit A (λ pdu. Unit {0}) (λ v. Unit {0}) Q keeps acts (first_host A) now (all_any acts) acting (first-fits A (λ pdu. Unit {0}) (λ v. Unit {0}) Q keeps)).profile
  where
    any_act : (act : Act Circumstance) → IsActSo (λ pdu. Unit {0}) act
    any_act (Hears circumstances (Linked event)) = tt
    any_act (Hears circumstances (Failed status)) = tt
    any_act (Hears circumstances (Heard pdu)) = tt
    any_act (Hears circumstances TimerFired) = tt
    any_act (Hears circumstances Cancelled) = tt
    any_act (Hears circumstances (Opening name)) = tt
    any_act (Says pdu) = tt

    all_any : (acts : List (Act Circumstance)) → AllByRecursion (IsActSo (λ pdu. Unit {0})) acts
    all_any [] = tt
    all_any (act ∷ acts) = (any_act act, all_any acts)

says_as_read : {P : Type 0} (A : Profile P) (Q : P → Type 0) → KeepsFit A IsSoberPdu (IsProper A.policy) Q → SaysAsRead A
says_as_read A Q keeps acts now after pdu sober acting said = reads-so A now after pdu (acts-fit A IsSoberPdu (IsProper A.policy) Q keeps acts (first_host A) now sober acting (first-fits A IsSoberPdu (IsProper A.policy) Q keeps)).channels said

pub said-is_read : SaidIsRead
said-is_read = record {
  clients = λ settings. says_as_read (client_profile settings) IsLowClient (clients-keep_fit settings IsSoberPdu (IsProper (policy settings false)) (proper-holds (policy settings false)));
  servers = λ settings content. says_as_read (server_profile settings content) AnyServer (servers-keep_fit settings content IsSoberPdu (IsProper (policy settings true)) (proper-holds (policy settings true)));
}
