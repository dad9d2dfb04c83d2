-- What the requests that the code lends stand for.
use Rattle.std.specs.Prelude.{◌≡◌, ℕ, ◌≤◌, List, Option, Some, None}
use Rattle.sdp_elements.specs.Answers as answers
use Rattle.sdp_elements.specs.Answers.{Range}
use Rattle.sdp_server.specs.declared.request.Question.{Question}
use Rattle.sdp_server.specs.declared.request.Question.TheVariants as lent
use Rattle.sdp_server.specs.declared.request.Request.{Request}
use Rattle.sdp_server.specs.Lists.{Lists, Seeks}
use Rattle.sdp_server.specs.Requests as requests

-- the question is this one
abbrev pub Asks : Question → answers.Question → Type 0
Asks (lent.Handles pattern) question = (identifiers : List (List ℕ)) × (question ≡ answers.Handles identifiers) × Seeks pattern identifiers
Asks (lent.Attributes handle list) question = (ranges : List Range) × (question ≡ answers.Attributes handle ranges) × Lists list ranges
Asks (lent.Search pattern list) question = (identifiers : List (List ℕ)) × (ranges : List Range) × (question ≡ answers.Search identifiers ranges) × Seeks pattern identifiers × Lists list ranges

-- the request is this one
pub record IsRequest (request : Request) (read : requests.Request) : Type 0 where
  pub question : Asks request.question read.question
  pub most : request.most ≡ read.most
  pub continuation : request.continuation.now ≡ read.continuation

-- a function of the code found the request that reading finds, which asks for at least so much
abbrev pub GivesRequest : ℕ → Option Request → Option requests.Request → Type 0
GivesRequest least (Some request) read = (r : requests.Request) × (read ≡ Some r) × IsRequest request r × (least ≤ request.most)
GivesRequest least None read = read ≡ None
