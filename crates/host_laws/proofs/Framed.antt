-- What the channels of a host have to give is a frame, where all that they hold is octets.
use Rattle.std.proofs.Common.{◌≡◌, ℕ, zero, suc, ◌+◌, ◌<◌, ◌≤◌, List, [], ◌∷◌, ◌++◌, length, Bool, true, false, cond, eqb, Option, Some, None, refl, subst, arith, length-append}
use Rattle.std.specs.Prelude.{find, option_map, slice_get}
use Rattle.std.specs.List.{AllByRecursion, flat_map}
use Rattle.shelf_model.specs.bt_base.specs.Octets.{IsOctets, le16}
use Rattle.shelf_model.specs.h4_framing.proofs.OctetLists.{IsOctets-append, IsOctets-cons, IsOctets-nil}
use Rattle.shelf_model.specs.check_words.specs.CheckWords.{l2cap_check}
use Rattle.shelf_model.specs.ertm_frames.specs.Frames as frames
use Rattle.shelf_model.specs.ertm_frames.specs.Frames.{PlainFrame, information, supervisory, control_of, body_of, covered}
use Rattle.shelf_model.specs.ertm_model.specs.Value.{Kept, Ertm}
use Rattle.shelf_model.specs.ertm_model.specs.Giving.{Giving, PollAnswer, Acknowledgement, Rejection, Polling, Again, New, giving, frame_by}
use Rattle.shelf_model.specs.ertm_model.proofs.Inverting.{Gives, gives as machine_gives}
use Rattle.shelf_model.specs.l2cap_signal.specs.Commands.{Content, Command, reject, connection_request, connection_response, configuration_request, configuration_response, disconnection_request, disconnection_response, echo_request, echo_response, information_request, information_response, code_of, words_of, rest_of, payload_of, spelling}
use Rattle.shelf_model.specs.l2cap_config.specs.declared.wish.Wish.{Wish}
use Rattle.channel_laws.specs.channel_model.specs.declared.errand.Errand.{Errand}
use Rattle.channel_laws.specs.channel_model.specs.declared.errand.Errand.TheVariants as errands
use Rattle.channel_laws.specs.channel_model.specs.Value.{Request, Queued, Answer, Ask, Own, Unasked, Asking, Granted, Carrier, Plain, Retransmitting, Stage, Requested, Connected, Leaving, Closing, Crossed, Held, Channels}
use Rattle.channel_laws.specs.channel_model.specs.Policies.{Policy}
use Rattle.channel_laws.specs.channel_model.specs.Changing.{has_own, held_at}
use Rattle.channel_laws.specs.channel_model.specs.Giving.{Given, Signal, Whole, Framed, connection_at, configuration_by, configuration_at, disconnection_at, on_held, features_command, command_of, some_carrier_gives, stage_gives, gives, held_gives, queue_gives, next_given, headed}
use Rattle.channel_laws.specs.channel_model.proofs.Lookups.{own_of, found-distinct}
use Rattle.channel_laws.proofs.Fitted.{IsLowPsm, low-psm, IsForEndpoint, given-endpoint, given-fit}
use Rattle.channel_laws.proofs.Keeping.{StageKeeps, HeldKeeps}
use Rattle.channel_laws.proofs.Lasting.{answers_of, asked_by}
use Rattle.channel_laws.proofs.Numbering.{HasNumbers, IsNumberedGiven, given-numbered}
use Rattle.shelf_model.specs.host_model.specs.Pdus.{number_of, pdu_of, frame_octets, is_frame}
use Rattle.shelf_model.specs.host_model.specs.Spelling.{Fits as FitsFields}
use Rattle.shelf_model.specs.host_model.proofs.Single.{pdu_is_frame}
use Rattle.shelf_model.specs.host_model.proofs.Spelled.{octets_are_right}
use Rattle.host_laws.proofs.Answering.{IsSmallAsked, AreSignals}
use Rattle.host_laws.proofs.Cargo.{lead, IsCargo, IsLaden, IsLadenSome, LadenOn, AreLaden}
use Rattle.host_laws.proofs.Fitting.{IsProper}
use Rattle.host_laws.proofs.Signals.{word, word-alone, FitsOwn, FitsStage, FitsFound, fits-found}
use Rattle.host_laws.proofs.Verdicts.{IsOctetCommand}

-- ---- a command

words_octets : (words : List ℕ) (xs : List ℕ) → IsOctets xs → IsOctets (flat_map le16 words ++ xs)
words_octets [] xs fits = fits
words_octets (n ∷ words) xs fits = word n (flat_map le16 words ++ xs) (words_octets words xs fits)

code_low : (what : Content) → code_of what < 256
code_low (reject reason rest) = omega arith
code_low (connection_request psm source) = omega arith
code_low (connection_response destination source answer status) = omega arith
code_low (configuration_request destination flags options) = omega arith
code_low (configuration_response source flags answer options) = omega arith
code_low (disconnection_request destination source) = omega arith
code_low (disconnection_response destination source) = omega arith
code_low (echo_request octets) = omega arith
code_low (echo_response octets) = omega arith
code_low (information_request kind) = omega arith
code_low (information_response kind answer rest) = omega arith

spelling_octets : (c : Command) → IsOctetCommand c → IsOctets (spelling c)
spelling_octets c so =
    let payload = payload_of c.content in
    let sized = le16 (length payload) ++ payload in
    IsOctets-cons (code_of c.content) (c.identifier ∷ sized) (code_low c.content) (IsOctets-cons c.identifier sized so.0 (word (length payload) payload (words_octets (words_of c.content) (rest_of c.content) so.1)))

headed_octets : (endpoint : ℕ) (payload : List ℕ) → IsOctets payload → IsOctets (headed endpoint payload)
headed_octets endpoint payload fits = word (length payload) (le16 endpoint ++ payload) (word endpoint payload fits)

-- ---- what is given

-- the octets that a frame carries are those of a segment
abbrev IsLadenFrame : PlainFrame → Type 0
IsLadenFrame (information tx final req sar total octets) = IsOctets octets × (lead sar + length octets ≤ 32767)
IsLadenFrame (supervisory kind poll final req) = Unit {0}

abbrev IsLadenGiven : Given → Type 0
IsLadenGiven (Signal command) = IsOctetCommand command
IsLadenGiven (Whole peer sdu) = IsOctets sdu × (length sdu ≤ 32767)
IsLadenGiven (Framed peer frame) = IsLadenFrame frame

abbrev IsLadenGivenSome : Option Given → Type 0
IsLadenGivenSome None = Unit {0}
IsLadenGivenSome (Some given) = IsLadenGiven given

kept_cargo : (kept : List Kept) (place : ℕ) → AllByRecursion (λ (k : Kept). IsCargo k.segment) kept → (one : Kept) → slice_get kept place ≡ Some one → IsCargo one.segment
kept_cargo [] place all one is = cc
kept_cargo (other ∷ kept) zero all one is = subst (λ (k : Kept). IsCargo k.segment) (let same : other ≡ one = cc in same) all.0
kept_cargo (other ∷ kept) (suc place) all one is = kept_cargo kept place all.1 one is

frame_laden : (window peer : ℕ) (m : Ertm) (found : Option Giving) → Gives m found → IsLaden window m → IsLadenGivenSome (option_map (Framed peer) (frame_by found m))
frame_laden window peer m None gives so = tt
frame_laden window peer m (Some PollAnswer) gives so = tt
frame_laden window peer m (Some Acknowledgement) gives so = tt
frame_laden window peer m (Some Rejection) gives so = tt
frame_laden window peer m (Some Polling) gives so = tt
frame_laden window peer m (Some (Again kept)) gives so = let one = kept_cargo m.sender.unacked m.sender.next so.unacked kept gives.1 in (one.octets, one.short)
frame_laden window peer m (Some (New segment behind)) gives so = let waiting : AllByRecursion IsCargo (segment ∷ behind) = subst (AllByRecursion IsCargo) gives.2 so.fresh in (waiting.0.octets, waiting.0.short)

carrier_laden : (window peer : ℕ) (carrier : Option Carrier) → IsLadenSome window carrier → IsLadenGivenSome (some_carrier_gives carrier peer)
carrier_laden window peer None so = tt
carrier_laden window peer (Some (Plain agreed None)) so = tt
carrier_laden window peer (Some (Plain agreed (Some sdu))) so = so
carrier_laden window peer (Some (Retransmitting machine)) so = frame_laden window peer machine (giving machine) (machine_gives machine) so

stage_laden : (wish : Wish) (stage : Stage) → StageKeeps (LadenOn 0) wish stage → IsLadenGivenSome (stage_gives stage)
stage_laden wish (Requested request) so = tt
stage_laden wish (Connected peer setup) so = carrier_laden wish.window peer setup.carrier so
stage_laden wish (Leaving peer setup request) so = carrier_laden wish.window peer setup.carrier so
stage_laden wish (Closing peer request checked) so = tt
stage_laden wish (Crossed peer request) so = tt

-- ---- requests

abbrev IsOctetSome : Option Command → Type 0
IsOctetSome None = Unit {0}
IsOctetSome (Some command) = IsOctetCommand command

module _ (Leaves : Type 0) where
  connection_octets : (stage : Stage) (held : Held) → FitsStage Leaves stage → IsOctetSome (connection_at stage held)
  connection_octets (Requested request) held so = (so, IsOctets-nil)
  connection_octets (Connected peer setup) held so = tt
  connection_octets (Leaving peer setup request) held so = tt
  connection_octets (Closing peer request checked) held so = tt
  connection_octets (Crossed peer request) held so = tt

  own_octets : (own : Own) (peer : ℕ) → FitsOwn own → IsOctetSome (configuration_by own peer)
  own_octets Unasked peer so = tt
  own_octets (Asking request options) peer so = so
  own_octets Granted peer so = tt

  configuration_octets : (stage : Stage) → FitsStage Leaves stage → IsOctetSome (configuration_at stage)
  configuration_octets (Requested request) so = tt
  configuration_octets (Connected peer setup) so = own_octets setup.own peer so.own
  configuration_octets (Leaving peer setup request) so = own_octets setup.own peer so.1.own
  configuration_octets (Closing peer request checked) so = tt
  configuration_octets (Crossed peer request) so = tt

  disconnection_octets : (stage : Stage) (held : Held) → FitsStage Leaves stage → IsOctetSome (disconnection_at stage held)
  disconnection_octets (Requested request) held so = tt
  disconnection_octets (Connected peer setup) held so = tt
  disconnection_octets (Leaving peer setup request) held so = (so.2, IsOctets-nil)
  disconnection_octets (Closing peer request checked) held so = (so, IsOctets-nil)
  disconnection_octets (Crossed peer request) held so = (so, IsOctets-nil)

  on_octets : (f : Held → Option Command) (found : Option Held) → ((held : Held) → FitsStage Leaves held.stage → IsOctetSome (f held)) → FitsFound Leaves found → IsOctetSome (on_held f found)
  on_octets f None all so = tt
  on_octets f (Some held) all so = all held so

  features_octets : (features : Option Request) → IsSmallAsked (asked_by features) → IsOctetSome (features_command features)
  features_octets None so = tt
  features_octets (Some request) so = (so, IsOctets-nil)

  asked_octets : (errand : Errand) (v : Channels) → AreSignals Leaves v → IsOctetSome (command_of errand v)
  asked_octets (errands.Connection own) v so = on_octets (λ held. connection_at held.stage held) (held_at own v) (λ held. connection_octets held.stage held) (fits-found Leaves (has_own own) v so.core)
  asked_octets (errands.Configuration own) v so = on_octets (λ held. configuration_at held.stage) (held_at own v) (λ held. configuration_octets held.stage) (fits-found Leaves (has_own own) v so.core)
  asked_octets (errands.Disconnection own) v so = on_octets (λ held. disconnection_at held.stage held) (held_at own v) (λ held. disconnection_octets held.stage held) (fits-found Leaves (has_own own) v so.core)
  asked_octets errands.Features v so = features_octets v.features so.features

  -- ---- the next PDU

  -- all that the channels of a host hold is fit for a link, and octets
  pub record IsFlowing (policy : Policy) (v : Channels) : Type 0 where
    pub proper : IsProper policy v
    pub signals : AreSignals Leaves v
    pub laden : AreLaden policy v

  queue_laden : (policy : Policy) (queue : List Queued) (v : Channels) → AllByRecursion IsOctetCommand (answers_of queue) → IsFlowing policy v → IsLadenGivenSome (queue_gives queue v)
  queue_laden policy [] v all so = by (find gives v.held) refl
    where
      by : (found : Option Held) → find gives v.held ≡ found → IsLadenGivenSome (held_gives found)
      by None is = tt
      by (Some held) is = stage_laden (policy.wish held.psm) held.stage (subst (HeldKeeps policy (LadenOn held.own)) (found-distinct own_of gives v.held held so.proper.numbered.lone is) (so.laden.at held.own))
  queue_laden policy (Answer command ∷ behind) v all so = all.0
  queue_laden policy (Ask errand ∷ behind) v all so = by (command_of errand v) (asked_octets errand v so.signals)
    where
      by : (command : Option Command) → IsOctetSome command → IsLadenGivenSome (option_map Signal command)
      by None octets = tt
      by (Some command) octets = octets

  given_laden : (policy : Policy) (v : Channels) (given : Given) → IsFlowing policy v → next_given v ≡ Some given → IsLadenGiven given
  given_laden policy v given so is = subst IsLadenGivenSome is (queue_laden policy v.queue v so.signals.answers so)

  -- ---- and its octets

  body_octets : (start : Bool) (total : ℕ) (octets : List ℕ) → IsOctets octets → IsOctets ((cond start (le16 total) []) ++ octets)
  body_octets true total octets fits = word total octets fits
  body_octets false total octets fits = fits

  frame_body : (frame : PlainFrame) → IsLadenFrame frame → IsOctets (body_of frame)
  frame_body (information tx final req sar total octets) so = body_octets (eqb sar 1) total octets so.0
  frame_body (supervisory kind poll final req) so = IsOctets-nil

  body_count : (start : Bool) (total : ℕ) (octets : List ℕ) → length (cond start (le16 total) [] ++ octets) ≡ cond start 2 0 + length octets
  body_count true total octets = omega arith
  body_count false total octets = omega arith

  body_short : (frame : PlainFrame) → IsLadenFrame frame → length (body_of frame) ≤ 32767
  body_short (information tx final req sar total octets) so = let count = body_count (eqb sar 1) total octets in let short = so.1 in omega (arith, count, short)
  body_short (supervisory kind poll final req) so = omega arith

  frame_fit : (frame : PlainFrame) → HasNumbers frame → IsLadenFrame frame → frames.IsFrame frame
  frame_fit (information tx final req sar total octets) numbers so = record { tx_fits = numbers.0; req_fits = numbers.1; sar_fits = numbers.2; total_fits = numbers.3; stated = numbers.4; are_octets = so.0 }
  frame_fit (supervisory kind poll final req) numbers so = numbers

  pub given-is_frame : (policy : Policy) (v : Channels) (given : Given) → IsFlowing policy v → next_given v ≡ Some given → is_frame (pdu_of given) ≡ true
  given-is_frame policy v given so is = by given is (given_laden policy v given so is) (given-endpoint IsLowPsm low-psm v given so.proper.fitted is) (given-numbered policy v given so.proper.numbered is)
    where
      by : (given : Given) → next_given v ≡ Some given → IsLadenGiven given → IsForEndpoint given → IsNumberedGiven given → is_frame (pdu_of given) ≡ true
      by (Signal command) is laden there numbers =
          let octets = headed_octets 0x0001 (spelling command) (spelling_octets command laden) in
          let fit = given-fit IsLowPsm low-psm (λ n low. low) v (Signal command) (pdu_of (Signal command)) so.proper.fitted is refl octets in
          let short = fit.1 in
          pdu_is_frame (Signal command) (pdu_of (Signal command)) refl octets (omega (arith, short))
      by (Whole peer sdu) is laden there numbers =
          let short = laden.1 in
          pdu_is_frame (Whole peer sdu) (pdu_of (Whole peer sdu)) refl (headed_octets peer sdu laden.0) (omega (arith, short))
      by (Framed peer frame) is laden there numbers =
          let body = body_of frame in
          let check = number_of (l2cap_check (covered peer (control_of frame) body)) in
          let short = body_short frame laden in
          let whole = length-append body (le16 check) in
          let octets : IsOctets (frame_octets peer frame) =
          word (4 + length body) (le16 peer ++ (le16 (control_of frame) ++ (body ++ le16 check))) (word peer (le16 (control_of frame) ++ (body ++ le16 check))
          (word (control_of frame) (body ++ le16 check) (IsOctets-append body (le16 check) (frame_body frame laden) (word-alone check)))) in
          let can : FitsFields peer frame = record { peer_fits = there.0; length_fits = omega (arith, short); fits = frame_fit frame numbers laden } in
          pdu_is_frame (Framed peer frame) (frame_octets peer frame) (octets_are_right.pdus (Framed peer frame) can) octets (omega (arith, short, whole))
