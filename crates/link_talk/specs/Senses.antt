-- What a command is for a channel: it asks, it opens, it ends, or it is quiet (Core 5.1, Volume 3 Part A, 4). An endpoint
-- is called own or the peer's as the host sees it.
use Rattle.std.specs.Prelude.{ℕ, ◌==◌, List, Some, None, Ok, Err, if◌then◌else◌}
use Rattle.l2cap_signal.specs.Commands.{Content, reject, connection_request, connection_response, configuration_request, configuration_response, disconnection_request, disconnection_response, echo_request, echo_response, information_request, information_response}
use Rattle.l2cap_signal.specs.Reading.{Answer}
use Rattle.l2cap_signal.specs.declared.refusal.SignalRefusal.{SignalRefusal}
use Rattle.l2cap_signal.specs.declared.refusal.SignalRefusal.TheVariants.{ZeroIdentifier, BadLength, UnknownCode, AboveMtu}
use Rattle.capture.specs.declared.flow.Flow.{Flow}
use Rattle.capture.specs.declared.flow.Flow.TheVariants.{Out, Into}
use Rattle.link_talk.specs.declared.word.Word.{Word}
use Rattle.link_talk.specs.declared.word.Word.TheVariants.{AsksEnd, AnswersEnd, EndAnswered, EndForgone}
use Rattle.link_talk.specs.Sayings.{Saying, Command, Carried, GaveUp, Forgone as Request, Connection, Disconnection, Information}

-- for a channel, with the endpoint of the side that asks; for options of the channel of an endpoint of the other side;
-- or a request with that code that cannot be read
pub data Question : Type 0 where
  ForChannel : (psm source : ℕ) → Question
  ForOptions : (endpoint : ℕ) (options : List ℕ) → Question
  Unread : (code : ℕ) → Question

-- The response to a request for a channel, or for options. Where the host gave up its request for a channel, no response
-- counts any more.
pub data Reply : Type 0 where
  OnChannel : (destination source answer : ℕ) → Reply
  OnOptions : (endpoint flags answer : ℕ) (options : List ℕ) → Reply
  Forgone : (own : ℕ) → Reply

pub data Sense : Type 0 where
  Asks : (flow : Flow) (identifier : ℕ) (question : Question) → Sense
  Opens : (flow : Flow) (identifier : ℕ) (reply : Reply) → Sense
  Ends : (word : Word) (own peer : ℕ) → Sense
  Quiet : Sense

-- a disconnection names the endpoint of the side that the request goes to, then that of the side that asks (4.6, 4.7);
-- the peer's request alone ends nothing
abbrev pub farewell : Flow → (destination source : ℕ) → Sense
farewell Out destination source = Ends AsksEnd source destination
farewell Into destination source = Quiet

abbrev pub farewell_answered : Flow → (destination source : ℕ) → Sense
farewell_answered Out destination source = Ends AnswersEnd destination source
farewell_answered Into destination source = Ends EndAnswered source destination

abbrev pub sense_of : Flow → ℕ → Content → Sense
sense_of flow identifier (reject reason rest) = Quiet
sense_of flow identifier (connection_request psm source) = Asks flow identifier (ForChannel psm source)
sense_of flow identifier (connection_response destination source answer status) = Opens flow identifier (OnChannel destination source answer)
sense_of flow identifier (configuration_request destination flags options) = Asks flow identifier (ForOptions destination options)
sense_of flow identifier (configuration_response source flags answer options) = Opens flow identifier (OnOptions source flags answer options)
sense_of flow identifier (disconnection_request destination source) = farewell flow destination source
sense_of flow identifier (disconnection_response destination source) = farewell_answered flow destination source
sense_of flow identifier (echo_request octets) = Quiet
sense_of flow identifier (echo_response octets) = Quiet
sense_of flow identifier (information_request kind) = Quiet
sense_of flow identifier (information_response kind answer rest) = Quiet

-- A request that cannot be read is a request of its code all the same, if it has an identifier (4.1).
abbrev pub unread : Flow → (code identifier : ℕ) → Sense
unread flow code identifier = if (identifier == 0) then Quiet else Asks flow identifier (Unread code)

abbrev pub sense_refused : Flow → SignalRefusal → Sense
sense_refused flow (ZeroIdentifier code identifier) = Quiet
sense_refused flow (BadLength code None) = Quiet
sense_refused flow (BadLength code (Some identifier)) = unread flow code identifier
sense_refused flow (UnknownCode code identifier) = Quiet
sense_refused flow (AboveMtu code identifier) = Quiet

abbrev pub sense_answered : Flow → Answer → Sense
sense_answered flow (Ok command) = sense_of flow command.identifier command.content
sense_answered flow (Err refusal) = sense_refused flow refusal

abbrev pub sense_forgone : Request → Sense
sense_forgone (Connection identifier own) = Opens Into identifier (Forgone own)
sense_forgone (Disconnection own peer) = Ends EndForgone own peer
sense_forgone (Information identifier) = Quiet

abbrev pub sense : Saying → Sense
sense (Command flow answer) = sense_answered flow answer
sense (Carried flow pdu) = Quiet
sense (GaveUp forgone) = sense_forgone forgone
