-- That all responses to requests for options succeed where each new request does (Core 5.1, Volume 3 Part A, 4, 4.4 and 4.5).
use Rattle.std.specs.Prelude.{ℕ, ◌≡◌, ◌==◌, true, List, [], ◌∷◌, drop, Option, Some, Ok}
use Rattle.channel_laws.specs.acl_fragments.specs.Pieces.{channel_of}
use Rattle.channel_laws.specs.capture.specs.Histories.{EachAfter}
use Rattle.channel_laws.specs.l2cap_signal.specs.Commands.{Content, Command, configuration_request, configuration_response}
use Rattle.channel_laws.specs.l2cap_signal.specs.Reading.{answers}
use Rattle.channel_laws.specs.channel_model.specs.Answers.{answer_to}
use Rattle.channel_laws.specs.channel_model.specs.Policies.{Policy}
use Rattle.channel_laws.specs.channel_model.specs.Value.{Remembered, Channels}
use Rattle.channel_laws.specs.Runs.{Occurrence, Comes, Connects, AsksFeatures, Disconnects, Sends, Gives, Fires, Tells, run_of}
use Rattle.lasting_laws.specs.Ends.{AnswersSuccess}

-- an answer is success, if it is a response to a request for options (4.5)
abbrev pub SaysSuccess : Option Content → Type 0
SaysSuccess answer = (peer flags result : ℕ) (given : List ℕ) → answer ≡ Some (configuration_response peer flags result given) → result ≡ 0

-- a signalling PDU is one command, and where it is a request for options that is not the last one again, its answer is success, if it is a response to such a request
pub record Succeeds (policy : Policy) (pdu : List ℕ) (v : Channels) : Type 0 where
  pub command : Command
  pub is_one : answers (drop 4 pdu) ≡ Ok command ∷ []
  pub success : (own flags : ℕ) (options : List ℕ) → command.content ≡ configuration_request own flags options → ((last : Remembered) → v.memory.configuration ≡ Some last → last.identifier ≡ command.identifier → ⊥)
      → SaysSuccess (answer_to policy command.content v)

abbrev pub SucceedsIn : Policy → Occurrence → Channels → Type 0
SucceedsIn policy (Comes pdu) v = (channel_of pdu == 0x0001) ≡ true → Succeeds policy pdu v
SucceedsIn policy (Connects psm) v = Unit {0}
SucceedsIn policy AsksFeatures v = Unit {0}
SucceedsIn policy (Disconnects own) v = Unit {0}
SucceedsIn policy (Sends own sdu) v = Unit {0}
SucceedsIn policy (Gives pdu) v = Unit {0}
SucceedsIn policy Fires v = Unit {0}
SucceedsIn policy Tells v = Unit {0}

-- Then each response to a request for options that a host says is success.
abbrev pub NewSuccessesSuffice : Type 0
NewSuccessesSuffice = (policy : Policy) (list : List Occurrence) → EachAfter (λ past one. SucceedsIn policy one (run_of policy past).value) [] list → AnswersSuccess (run_of policy list).said
