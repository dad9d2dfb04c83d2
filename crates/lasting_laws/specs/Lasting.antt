-- For what a host closes a channel by itself (Core 5.1, Volume 3 Part A, 4.5, 4.6, 6.2.1, 7.1 and 8.6.5).
use Rattle.std.specs.Prelude.{ℕ, ◌≡◌, ◌<◌, ◌==◌, true, false, List, [], ◌∷◌, drop, Option, Some, None, Ok}
use Rattle.channel_laws.specs.acl_fragments.specs.Pieces.{channel_of}
use Rattle.channel_laws.specs.capture.specs.Histories.{EachAfter}
use Rattle.channel_laws.specs.capture.specs.declared.flow.Flow.{Flow}
use Rattle.channel_laws.specs.ertm_model.specs.Giving.{timed}
use Rattle.channel_laws.specs.ertm_model.specs.Value.{Ertm}
use Rattle.channel_laws.specs.l2cap_signal.specs.Commands.{Command, configuration_response, disconnection_request}
use Rattle.channel_laws.specs.l2cap_signal.specs.Reading.{answers}
use Rattle.channel_laws.specs.link_talk.specs.Sayings.{Saying}
use Rattle.channel_laws.specs.link_talk.specs.Sayings as sayings
use Rattle.channel_laws.specs.channel_model.specs.Calls.{setup_on}
use Rattle.channel_laws.specs.channel_model.specs.Carrying.{machine_heard, read_by, is_taken_with}
use Rattle.channel_laws.specs.channel_model.specs.Changing.{held_at}
use Rattle.channel_laws.specs.channel_model.specs.Policies.{Policy}
use Rattle.channel_laws.specs.channel_model.specs.Value.{Own, Unasked, Asking, Granted, Carrier, Retransmitting, Setup, Held, Channels}
use Rattle.channel_laws.specs.Awaited.{asks_for_end}
use Rattle.channel_laws.specs.OwnTalk.{spoken, command_with}
use Rattle.channel_laws.specs.Runs.{Occurrence, Comes, Connects, AsksFeatures, Disconnects, Sends, Gives, Fires, Tells, Run, run_of}
use Rattle.channel_laws.specs.Signals.{StandsIn}

-- ---- options

-- each response to a request for options that a talk has says success
abbrev pub OptionsSucceed : List Saying → Type 0
OptionsSucceed said = (flow : Flow) (identifier peer flags result : ℕ) (options : List ℕ) → StandsIn (sayings.Command flow (Ok (command_with identifier (configuration_response peer flags result options)))) said → result ≡ 0

-- ---- the timer

-- it does not close the machine of a channel
abbrev pub OutlastsTimer : Option Carrier → Type 0
OutlastsTimer carrier = (m : Ertm) → carrier ≡ Some (Retransmitting m) → (timed m).closed ≡ None

-- nor is a request for options that waits spent: it was given less often than the host tries
abbrev pub IsUnspent : (tries : ℕ) → Own → Option Carrier → Type 0
IsUnspent tries Unasked carrier = OutlastsTimer carrier
IsUnspent tries (Asking request options) carrier = request.given < tries
IsUnspent tries Granted carrier = OutlastsTimer carrier

-- ---- what may happen

-- Nothing that closes a channel: a signalling PDU has one command, a PDU on a channel does not close its machine, nor does the timer, no request for options is
-- spent, and the host's profile asks for no end.
abbrev pub IsSpared : Policy → Occurrence → Channels → Type 0
IsSpared policy (Comes pdu) v =
    ((channel_of pdu == 0x0001) ≡ true → (command : Command) × (answers (drop 4 pdu) ≡ Ok command ∷ []))
    × ((channel_of pdu == 0x0001) ≡ false → (setup : Setup) (m : Ertm) → setup_on (held_at (channel_of pdu) v) ≡ Some setup → setup.carrier ≡ Some (Retransmitting m) → is_taken_with setup.own (Retransmitting m) pdu ≡ true → (machine_heard (read_by m pdu) m).closed ≡ None)
IsSpared policy (Connects psm) v = Unit {0}
IsSpared policy AsksFeatures v = Unit {0}
IsSpared policy (Disconnects own) v = ⊥
IsSpared policy (Sends own sdu) v = Unit {0}
IsSpared policy (Gives pdu) v = Unit {0}
IsSpared policy Fires v = (own : ℕ) (setup : Setup) → setup_on (held_at own v) ≡ Some setup → IsUnspent policy.tries setup.own setup.carrier
IsSpared policy Tells v = Unit {0}

abbrev pub AreSpared : Policy → List Occurrence → Type 0
AreSpared policy list = EachAfter (λ past one. IsSpared policy one (run_of policy past).value) [] list

-- ---- the law

-- a host asked for the end of no channel
abbrev pub AsksForNoEnd : List Saying → Type 0
AsksForNoEnd said = (identifier own peer : ℕ) → StandsIn (spoken (command_with identifier (disconnection_request peer own))) said → ⊥

-- it asked for none, and has closed none of those that it has
pub record Lasts (run : Run) : Type 0 where
  pub no_end : AsksForNoEnd run.said
  pub there : (own : ℕ) (held : Held) → held_at own run.value ≡ Some held → asks_for_end held.stage ≡ false

-- Where nothing of this happens to a host, and each response to a request for options that it hears or says is success, it asks for the end of no channel.
abbrev pub ChannelsLast : Type 0
ChannelsLast = (policy : Policy) (list : List Occurrence) → AreSpared policy list → OptionsSucceed (run_of policy list).said → Lasts (run_of policy list)
