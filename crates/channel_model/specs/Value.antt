-- The channels of a link as one of its hosts keeps them, as a value (Core 5.1, Volume 3 Part A, 2.1, 4, 6 and 7).
use Rattle.std.specs.Prelude.{ℕ, Bool, List, [], Option, None}
use Rattle.l2cap_signal.specs.Commands.{Content, Command}
use Rattle.l2cap_config.specs.declared.options.Options.{Options}
use Rattle.l2cap_config.specs.declared.wish.Agreed.{Agreed}
use Rattle.l2cap_config.specs.Items.{no_options}
use Rattle.ertm_model.specs.Value.{Ertm}
use Rattle.channel_model.specs.declared.errand.Errand.{Errand}
use Rattle.channel_model.specs.declared.event.ChannelEvent.{ChannelEvent}

-- ---- own requests

-- an own request that waits for its response: its identifier, and how often it was given
pub record Request : Type 0 where
  pub identifier : ℕ
  pub given : ℕ

-- what waits to be given on the signalling channel: an answer to the peer, or a copy of an own request
pub data Queued : Type 0 where
  Answer : (command : Command) → Queued
  Ask : (errand : Errand) → Queued

-- ---- a channel

-- the host's own request for options: it was not made yet; it waits for its response, with the options that it asks for; it
-- was accepted
pub data Own : Type 0 where
  Unasked : Own
  Asking : (request : Request) (options : Options) → Own
  Granted : Own

-- what carries SDUs: in basic mode the agreement, and the SDU that waits to be given; else a retransmission machine
pub data Carrier : Type 0 where
  Plain : (agreed : Agreed) (waiting : Option (List ℕ)) → Carrier
  Retransmitting : (machine : Ertm) → Carrier

-- how far the two sides are with the options of a channel
pub record Setup : Type 0 where
  -- the options of the parts so far of a request that comes in parts
  pub parts : Options
  -- there is one once a request of the peer was accepted
  pub carrier : Option Carrier
  pub own : Own
  -- how many requests of the peer were answered as unacceptable, and how many own ones were so answered by the peer
  pub refused : ℕ
  pub renewed : ℕ

abbrev pub no_setup : Setup
no_setup = record { parts = no_options; carrier = None; own = Unasked; refused = 0; renewed = 0 }

pub data Stage : Type 0 where
  -- the host asked for the channel
  Requested : (request : Request) → Stage
  -- it is there, with the peer's endpoint of it
  Connected : (peer : ℕ) (setup : Setup) → Stage
  -- it is there, and the host asked for its end
  Leaving : (peer : ℕ) (setup : Setup) (request : Request) → Stage
  -- the host closed it and waits for the answer to its request for the end; what comes in until then has a check word, or none
  Closing : (peer : ℕ) (request : Request) (checked : Bool) → Stage
  -- the same, and the host has answered the peer's request for the end as well
  Crossed : (peer : ℕ) (request : Request) → Stage

pub record Held : Type 0 where
  pub psm : ℕ
  -- the host's own endpoint
  pub own : ℕ
  pub stage : Stage

-- ---- all channels of a link

-- what was answered to the last request of a kind
pub record Remembered : Type 0 where
  pub identifier : ℕ
  pub response : Option Content

pub record Memory : Type 0 where
  pub connection : Option Remembered
  pub configuration : Option Remembered
  pub disconnection : Option Remembered
  pub echo : Option Remembered
  pub information : Option Remembered

pub record Channels : Type 0 where
  -- the channels that count, in the order of their endpoints
  pub held : List Held
  -- the endpoint that is given next, and the identifier of the next own request
  pub next : ℕ
  pub identifier : ℕ
  pub queue : List Queued
  -- the question for the peer's features, where it waits
  pub features : Option Request
  pub memory : Memory
  pub events : List ChannelEvent

abbrev pub no_memory : Memory
no_memory = record { connection = None; configuration = None; disconnection = None; echo = None; information = None }

-- the channels of a link that is new (endpoints below 0x0040 are not given to channels, 2.1)
abbrev pub no_channels : Channels
no_channels = record { held = []; next = 0x0040; identifier = 1; queue = []; features = None; memory = no_memory; events = [] }
