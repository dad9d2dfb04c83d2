-- What a host answers to the requests of its peer (Core 5.1, Volume 3 Part A, 4). An order among the rows is this project's own.
use Rattle.std.specs.Prelude.{ℕ, ◌==◌, not, nat_lt, nat_le, [], ◌∷◌, ◌++◌, length, Option, Some, None, if◌then◌else◌}
use Rattle.std.specs.List.{list_any}
use Rattle.bt_base.specs.Octets.{le16}
use Rattle.l2cap_signal.specs.Commands.{Content, reject, connection_request, connection_response, configuration_request, configuration_response, disconnection_request, disconnection_response, echo_request, echo_response, information_request, information_response}
use Rattle.l2cap_config.specs.declared.options.Options.{Options}
use Rattle.l2cap_config.specs.declared.agreement.ConfigAnswer.{ConfigAnswer}
use Rattle.l2cap_config.specs.declared.agreement.ConfigAnswer.TheVariants.{Accept, Unacceptable, Unknown}
use Rattle.l2cap_config.specs.Writing.{written}
use Rattle.channel_model.specs.declared.request_kind.RequestKind.{RequestKind}
use Rattle.channel_model.specs.declared.request_kind.RequestKind.TheVariants.{Connection, Configuration, Disconnection, Echo, Information}
use Rattle.channel_model.specs.Value.{Stage, Requested, Connected, Leaving, Closing, Crossed, Held, Remembered, Memory, Channels}
use Rattle.channel_model.specs.Policies.{Policy}
use Rattle.channel_model.specs.Changing.{held_at, has_peer}
use Rattle.channel_model.specs.Configuring.{Verdict, NoChannel, TooLate, Unreadable, Incomplete, Judged, verdict}

-- ---- the kinds of requests

abbrev pub kind_of_code : ℕ → Option RequestKind
kind_of_code code =
    if code == 0x02 then Some Connection else
    if code == 0x04 then Some Configuration else
    if code == 0x06 then Some Disconnection else
    if code == 0x08 then Some Echo else
    if code == 0x0A then Some Information else
    None

-- the response of the last request of a kind
abbrev pub remembered : RequestKind → Memory → Option Remembered
remembered Connection memory = memory.connection
remembered Configuration memory = memory.configuration
remembered Disconnection memory = memory.disconnection
remembered Echo memory = memory.echo
remembered Information memory = memory.information

abbrev pub with_remembered : RequestKind → Remembered → Memory → Memory
with_remembered Connection last memory = record memory { connection = Some last }
with_remembered Configuration last memory = record memory { configuration = Some last }
with_remembered Disconnection last memory = record memory { disconnection = Some last }
with_remembered Echo last memory = record memory { echo = Some last }
with_remembered Information last memory = record memory { information = Some last }

-- ---- rejects (4.1)

abbrev pub not_understood : Content
not_understood = reject 0x0000 []

-- the longest payload that is read on the signalling channel has 672 octets
abbrev pub too_long : Content
too_long = reject 0x0001 (le16 672)

-- with both endpoints as the request named them, and 0 for one that it did not name
abbrev pub no_such_channel : (own peer : ℕ) → Content
no_such_channel own peer = reject 0x0002 (le16 own ++ le16 peer)

-- ---- a channel is asked for (4.2, 4.3)

-- why it is refused, and 0 where it is granted
abbrev pub connection_result : Policy → (psm source : ℕ) → Channels → ℕ
connection_result policy psm source v =
    if not (policy.offers psm) then 2 else
    if nat_le 4 (length v.held) then 4 else
    if nat_lt 0xFFFF v.next then 4 else
    if nat_lt source 0x0040 then 6 else
    if list_any (has_peer source) v.held then 7 else
    0

abbrev pub connection_answer : (result source : ℕ) → Channels → Content
connection_answer result source v = connection_response (if result == 0 then v.next else 0x0000) source result 0

-- ---- options are asked for (4.4, 4.5)

abbrev pub judged_answer : ConfigAnswer → (peer : ℕ) → Options → Content
judged_answer (Accept given) peer options = configuration_response peer 0 0 (written given)
judged_answer (Unacceptable refusal given) peer options = configuration_response peer 0 1 (written given)
judged_answer Unknown peer options = configuration_response peer 0 3 options.unknown

abbrev pub configuration_answer : Verdict → (own : ℕ) → Content
configuration_answer NoChannel own = no_such_channel own 0x0000
configuration_answer (TooLate peer) own = configuration_response peer 0 2 []
configuration_answer (Unreadable peer) own = configuration_response peer 0 2 []
configuration_answer (Incomplete peer options) own = configuration_response peer 1 0 []
configuration_answer (Judged peer options answer) own = judged_answer answer peer options

-- ---- the end of a channel is asked for (4.6, 4.7)

abbrev pub disconnection_by : Stage → (own peer : ℕ) → Option Content
disconnection_by (Requested request) own peer = Some (no_such_channel own peer)
disconnection_by (Connected endpoint setup) own peer = if endpoint == peer then Some (disconnection_response own peer) else None
disconnection_by (Leaving endpoint setup request) own peer = if endpoint == peer then Some (disconnection_response own peer) else None
disconnection_by (Closing endpoint request checked) own peer = if endpoint == peer then Some (disconnection_response own peer) else None
disconnection_by (Crossed endpoint request) own peer = if endpoint == peer then Some (disconnection_response own peer) else None

-- a request that names another endpoint of the peer gets no answer
abbrev pub disconnection_answer : Option Held → (own peer : ℕ) → Option Content
disconnection_answer None own peer = Some (no_such_channel own peer)
disconnection_answer (Some held) own peer = disconnection_by held.stage own peer

-- ---- information is asked for (4.10, 4.11): the features (kind 2) are enhanced retransmission mode, the FCS option and
-- fixed channels; of the fixed channels (kind 3) there is the signalling channel

abbrev pub information_answer : ℕ → Content
information_answer kind =
    if kind == 2 then information_response kind 0 (0xA8 ∷ 0x00 ∷ 0x00 ∷ 0x00 ∷ []) else
    if kind == 3 then information_response kind 0 (0x02 ∷ 0x00 ∷ 0x00 ∷ 0x00 ∷ 0x00 ∷ 0x00 ∷ 0x00 ∷ 0x00 ∷ []) else
    information_response kind 1 []

-- ---- the answer to a request that can be read

abbrev pub answer_to : Policy → Content → Channels → Option Content
answer_to policy (reject reason rest) v = None
answer_to policy (connection_request psm source) v = Some (connection_answer (connection_result policy psm source v) source v)
answer_to policy (connection_response destination source answer status) v = None
answer_to policy (configuration_request destination flags options) v =
    Some (configuration_answer (verdict policy destination flags options v) destination)
answer_to policy (configuration_response source flags answer options) v = None
answer_to policy (disconnection_request destination source) v = disconnection_answer (held_at destination v) destination source
answer_to policy (disconnection_response destination source) v = None
answer_to policy (echo_request octets) v = Some (echo_response octets)
answer_to policy (echo_response octets) v = None
answer_to policy (information_request kind) v = Some (information_answer kind)
answer_to policy (information_response kind answer rest) v = None
