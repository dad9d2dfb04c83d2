-- The signalling commands of L2CAP and their octets (Core 5.1, Volume 3 Part A, section 4).
use Rattle.std.specs.Prelude.{ℕ, ◌^◌, ◌<◌, List, [], ◌∷◌, ◌++◌, length}
use Rattle.std.specs.List.{flat_map, AllByRecursion}
use Rattle.bt_base.specs.Octets.{IsOctets, le16}
use Rattle.l2cap_signal.specs.declared.signal.Signal.{Signal}
use Rattle.l2cap_signal.specs.declared.signal.SignalKind.{SignalKind}
use Rattle.l2cap_signal.specs.declared.signal.SignalKind.TheVariants.{Reject, ConnectionRequest, ConnectionResponse, ConfigurationRequest, ConfigurationResponse, DisconnectionRequest, DisconnectionResponse, EchoRequest, EchoResponse, InformationRequest, InformationResponse}

-- what a command says, apart from where its octets lie in memory
pub data Content : Type 0 where
  reject : (reason : ℕ) (rest : List ℕ) → Content
  connection_request : (psm source : ℕ) → Content
  connection_response : (destination source answer status : ℕ) → Content
  configuration_request : (destination flags : ℕ) (options : List ℕ) → Content
  configuration_response : (source flags answer : ℕ) (options : List ℕ) → Content
  disconnection_request : (destination source : ℕ) → Content
  disconnection_response : (destination source : ℕ) → Content
  echo_request : (octets : List ℕ) → Content
  echo_response : (octets : List ℕ) → Content
  information_request : (kind : ℕ) → Content
  information_response : (kind answer : ℕ) (rest : List ℕ) → Content

abbrev pub content : SignalKind → Content
content (Reject reason rest) = reject reason rest.now
content (ConnectionRequest psm source) = connection_request psm source
content (ConnectionResponse destination source answer status) = connection_response destination source answer status
content (ConfigurationRequest destination flags options) = configuration_request destination flags options.now
content (ConfigurationResponse source flags answer options) = configuration_response source flags answer options.now
content (DisconnectionRequest destination source) = disconnection_request destination source
content (DisconnectionResponse destination source) = disconnection_response destination source
content (EchoRequest octets) = echo_request octets.now
content (EchoResponse octets) = echo_response octets.now
content (InformationRequest kind) = information_request kind
content (InformationResponse kind answer rest) = information_response kind answer rest.now

-- a command, apart from where its octets lie in memory
pub record Command : Type 0 where
  pub identifier : ℕ
  pub content : Content

abbrev pub command : Signal → Command
command signal = record { identifier = signal.identifier; content = content signal.kind }

abbrev pub code_of : Content → ℕ
code_of (reject reason rest) = 0x01
code_of (connection_request psm source) = 0x02
code_of (connection_response destination source answer status) = 0x03
code_of (configuration_request destination flags options) = 0x04
code_of (configuration_response source flags answer options) = 0x05
code_of (disconnection_request destination source) = 0x06
code_of (disconnection_response destination source) = 0x07
code_of (echo_request octets) = 0x08
code_of (echo_response octets) = 0x09
code_of (information_request kind) = 0x0A
code_of (information_response kind answer rest) = 0x0B

-- the numbers at the front of a payload, and what follows them
abbrev pub words_of : Content → List ℕ
words_of (reject reason rest) = reason ∷ []
words_of (connection_request psm source) = psm ∷ source ∷ []
words_of (connection_response destination source answer status) = destination ∷ source ∷ answer ∷ status ∷ []
words_of (configuration_request destination flags options) = destination ∷ flags ∷ []
words_of (configuration_response source flags answer options) = source ∷ flags ∷ answer ∷ []
words_of (disconnection_request destination source) = destination ∷ source ∷ []
words_of (disconnection_response destination source) = destination ∷ source ∷ []
words_of (echo_request octets) = []
words_of (echo_response octets) = []
words_of (information_request kind) = kind ∷ []
words_of (information_response kind answer rest) = kind ∷ answer ∷ []

abbrev pub rest_of : Content → List ℕ
rest_of (reject reason rest) = rest
rest_of (connection_request psm source) = []
rest_of (connection_response destination source answer status) = []
rest_of (configuration_request destination flags options) = options
rest_of (configuration_response source flags answer options) = options
rest_of (disconnection_request destination source) = []
rest_of (disconnection_response destination source) = []
rest_of (echo_request octets) = octets
rest_of (echo_response octets) = octets
rest_of (information_request kind) = []
rest_of (information_response kind answer rest) = rest

-- the payload of a command
abbrev pub payload_of : Content → List ℕ
payload_of what = flat_map le16 (words_of what) ++ rest_of what

-- a code, an identifier, the payload's length and the payload (4, Figure 4.2)
abbrev pub framed : ℕ → ℕ → List ℕ → List ℕ
framed code identifier payload = code ∷ identifier ∷ le16 (length payload) ++ payload

-- the octets of a command
abbrev pub spelling : Command → List ℕ
spelling c = framed (code_of c.content) c.identifier (payload_of c.content)

-- numbers of two octets, then octets
pub record IsContent (what : Content) : Type 0 where
  pub words : AllByRecursion (λ n. n < 2 ^ 16) (words_of what)
  pub rest : IsOctets (rest_of what)
  pub size : length (payload_of what) < 2 ^ 16

-- what has a spelling: an identifier is an octet and never 0
pub record IsCommand (c : Command) : Type 0 where
  pub above_zero : 0 < c.identifier
  pub octet : c.identifier < 256
  pub content : IsContent c.content
