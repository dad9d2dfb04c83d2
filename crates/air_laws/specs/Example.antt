-- An example: a caller that says one PDU and waits for its answer, a host that answers, and one whole run of them (this project's
-- own).
use Rattle.std.specs.Prelude.{ℕ, ◌≡◌, ◌<◌, Bool, true, false, List, [], ◌∷◌, ◌++◌, Option, Some, None}
use Rattle.std.proofs.Common.{ap, arith}
use Rattle.turn_laws.specs.bt_base.specs.Octets.{le16}
use Rattle.turn_laws.specs.hci_packets.specs.declared.acl.Boundary.TheVariants.{First, FirstFromController}
use Rattle.turn_laws.specs.acl_fragments.specs.Pieces.{Piece}
use Rattle.turn_laws.specs.push_terms.specs.declared.word.Side.TheVariants.{A, B}
use Rattle.turn_laws.specs.push_terms.specs.declared.word.Word.TheVariants.{Pass, Drop}
use Rattle.turn_laws.specs.push_terms.specs.declared.outcome.Outcome.{Outcome}
use Rattle.turn_laws.specs.push_terms.specs.declared.outcome.Outcome.TheVariants.{Done}
use Rattle.turn_laws.specs.radio_model.specs.Controllers.{Returned, Stated, Called, LinkMade, LinkGone, GivenBack, address}
use Rattle.turn_laws.specs.radio_model.specs.Air.{Hosts}
use Rattle.turn_laws.specs.world_model.specs.Machines.{Up, Down, News, Linked, Heard, Opening, Upper}
use Rattle.turn_laws.specs.world_model.specs.Stations.{Reset, ReadBuffers, ReadAddress, Scan, Page, Accept, End, Data, Taking, Putting, Asking, Leaving, Commanding}
use Rattle.turn_laws.specs.world_model.specs.Worlds.{World, Happening, Tries, Departure, GivingBack, Piecemeal, Answering, Turns, Misses, Opens, Closes, Runs, IsAtRest, first_world}
use Rattle.turn_laws.specs.WorldLaws.{Fits}
use Rattle.air_laws.specs.AirLaws.{TellsHosts}

-- a PDU of one octet, on channel 64
abbrev pub greeting : List ℕ
greeting = 1 ∷ 0 ∷ 0x40 ∷ 0 ∷ 7 ∷ []

-- ---- the caller

pub data Caller : Type 0 where
  Resting : Caller
  -- it wants a link, has its PDU to say, and waits for an answer
  Calling : Caller
  Speaking : Caller
  Waiting : Caller
  -- it was answered, or its link is gone
  Answered : Caller
  Over : Caller

abbrev pub caller_hears : List ℕ → News → Caller → Caller
caller_hears answers (Opening name) caller = Calling
caller_hears answers (Linked Up) Calling = Speaking
caller_hears answers (Linked (Down reason)) caller = Over
caller_hears answers (Heard pdu) Waiting = Answered
caller_hears answers news caller = caller

abbrev pub caller_next : Caller → Option (List ℕ × Caller)
caller_next Speaking = Some (greeting, Waiting)
caller_next caller = None

abbrev pub caller_left : Caller → ℕ
caller_left Speaking = 1
caller_left caller = 0

caller_after : Option (List ℕ × Caller) → Caller
caller_after None = Resting
caller_after (Some one) = one.1

pub caller_falls : (caller : Caller) (pdu : List ℕ) (after : Caller) → caller_next caller ≡ Some (pdu, after) → caller_left after < caller_left caller
unfolding caller_after
caller_falls Speaking pdu after is = let same = ap caller_after is in rw (← same) (omega arith)
caller_falls Resting pdu after is = cc
caller_falls Calling pdu after is = cc
caller_falls Waiting pdu after is = cc
caller_falls Answered pdu after is = cc
caller_falls Over pdu after is = cc

abbrev pub is_calling : Caller → Bool
is_calling Calling = true
is_calling caller = false

abbrev pub is_answered : Caller → Bool
is_answered Answered = true
is_answered caller = false

abbrev pub is_resting : Caller → Bool
is_resting Resting = true
is_resting Over = true
is_resting caller = false

abbrev pub caller_outcome : Caller → Option Outcome
caller_outcome Over = Some Done
caller_outcome caller = None

abbrev pub caller : Upper Caller ℕ
caller = record {
  first = Resting;
  hear = caller_hears;
  next = caller_next;
  left = caller_left;
  falls = caller_falls;
  wants_link = is_calling;
  leaves_link = is_answered;
  is_idle = is_resting;
  outcome = caller_outcome;
  armed = λ caller. false;
  may_cancel = λ caller. false;
  has_check = λ caller channel. false;
}

-- ---- the host that answers

pub data Answerer : Type 0 where
  Listening : Answerer
  Replying : Answerer

abbrev pub answerer_hears : List ℕ → News → Answerer → Answerer
answerer_hears answers (Heard pdu) answerer = Replying
answerer_hears answers news answerer = Listening

abbrev pub answerer_next : Answerer → Option (List ℕ × Answerer)
answerer_next Replying = Some (greeting, Listening)
answerer_next Listening = None

abbrev pub answerer_left : Answerer → ℕ
answerer_left Replying = 1
answerer_left Listening = 0

answerer_after : Option (List ℕ × Answerer) → Answerer
answerer_after None = Listening
answerer_after (Some one) = one.1

pub answerer_falls : (answerer : Answerer) (pdu : List ℕ) (after : Answerer) → answerer_next answerer ≡ Some (pdu, after) → answerer_left after < answerer_left answerer
unfolding answerer_after
answerer_falls Replying pdu after is = let same = ap answerer_after is in rw (← same) (omega arith)
answerer_falls Listening pdu after is = cc

abbrev pub answerer : Upper Answerer ℕ
answerer = record {
  first = Listening;
  hear = answerer_hears;
  next = answerer_next;
  left = answerer_left;
  falls = answerer_falls;
  wants_link = λ answerer. false;
  leaves_link = λ answerer. false;
  is_idle = λ answerer. true;
  outcome = λ answerer. None;
  armed = λ answerer. false;
  may_cancel = λ answerer. false;
  has_check = λ answerer channel. false;
}

-- ---- one run

-- a command goes out of a host, and is answered
abbrev pub first_piece : Piece
first_piece = record { boundary = First; octets = greeting }

abbrev pub handed_piece : Piece
handed_piece = record { boundary = FirstFromController; octets = greeting }

abbrev pub buffers_told : List ℕ
buffers_told = 0 ∷ (le16 27 ++ (0 ∷ (le16 2 ++ le16 0)))

-- both hosts start
abbrev pub starting : List Happening
starting =
    Tries A Commanding ∷ Departure A Reset ∷ Answering A (Returned 0x0C03 (0 ∷ []))
    ∷ Tries A Commanding ∷ Departure A ReadBuffers ∷ Answering A (Returned 0x1005 buffers_told)
    ∷ Tries A Commanding ∷ Departure A ReadAddress ∷ Answering A (Returned 0x1009 (0 ∷ address A))
    ∷ Tries B Commanding ∷ Departure B Reset ∷ Answering B (Returned 0x0C03 (0 ∷ []))
    ∷ Tries B Commanding ∷ Departure B ReadBuffers ∷ Answering B (Returned 0x1005 buffers_told)
    ∷ Tries B Commanding ∷ Departure B ReadAddress ∷ Answering B (Returned 0x1009 (0 ∷ address B))
    ∷ Tries B Commanding ∷ Departure B Scan ∷ Answering B (Returned 0x0C1A (0 ∷ [])) ∷ []

-- a push begins, and its link comes
abbrev pub joining : List Happening
joining =
    Opens 1 (0x41 ∷ [])
    ∷ Tries A Asking ∷ Tries A Commanding ∷ Departure A Page ∷ Answering A (Stated 0x0405)
    ∷ Answering B Called ∷ Tries B Commanding ∷ Departure B Accept ∷ Answering B (Stated 0x0409) ∷ Answering B (LinkMade 1) ∷ Answering A (LinkMade 1) ∷ []

-- the greeting goes out, comes into the other host, and comes back
abbrev pub speaking : List Happening
speaking = Tries A Taking ∷ Tries A Putting ∷ Departure A (Data 1 first_piece) ∷ GivingBack A ∷ Answering A (GivenBack 1 1) ∷ []

abbrev pub answering : List Happening
answering =
    Turns 1 Pass ∷ Piecemeal B 1 handed_piece
    ∷ Tries B Taking ∷ Tries B Putting ∷ Departure B (Data 1 first_piece) ∷ GivingBack B ∷ Answering B (GivenBack 1 1) ∷ []

abbrev pub hearing : List Happening
hearing = Turns 2 Pass ∷ Piecemeal A 1 handed_piece ∷ []

-- the caller leaves, and its push ends; the word that is left finds nothing
abbrev pub leaving : List Happening
leaving =
    Tries A Leaving ∷ Tries A Commanding ∷ Departure A (End 1) ∷ Answering A (Stated 0x0406) ∷ Answering A (LinkGone 1 0x16) ∷ Answering B (LinkGone 1 0x13)
    ∷ Closes 1 Done ∷ Misses Drop ∷ []

abbrev pub example : List Happening
example = starting ++ (joining ++ (speaking ++ (answering ++ (hearing ++ leaving))))

-- no timer is ever armed, and no channel has a check word
abbrev pub plain_hosts : Hosts
plain_hosts = record { armed = λ side past. false; checks = λ side past channel. false }

abbrev pub example_world : World Caller Answerer
example_world = first_world caller answerer 27 2 ((0x41 ∷ []) ∷ [])

-- it is a run, and ends at rest with its push done; what the laws of runs ask of machines and of the capture holds here
abbrev pub ExampleRuns : Type 0
ExampleRuns =
    (w : World Caller Answerer) × Runs caller answerer example example_world w × IsAtRest caller answerer w × (w.pushes.outcomes ≡ Done ∷ [])
    × Fits caller answerer 27 × TellsHosts caller answerer plain_hosts example example_world
