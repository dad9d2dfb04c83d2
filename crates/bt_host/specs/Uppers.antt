-- The half of a host above its line, in code: its channels and its end (this project's own).
use Rattle.std.specs.Prelude.{ℕ, ◌≡◌, ◌&&◌, nat_lt, Bool, List, [], ◌++◌, length, drop, is_some, Option, Some, None}
use Rattle.shelf_model.specs.acl_fragments.specs.Pieces.{channel_of}
use Rattle.channel_model.specs.Giving.{Given, IsPdu, next_given, after_given}
use Rattle.l2cap_channels.specs.Machine.{Machine, with_channels}
use Rattle.host_link.specs.Hearing.{PlainNews, Nothing, LinkUp, LinkFailed, LinkDown, Pdu}
use Rattle.shelf_model.specs.world_model.specs.Machines.{News, Linked, Up, Down, Failed, Heard, Opening}
use Rattle.bt_host.specs.Calls.{Does}
use Rattle.shelf_model.specs.host_model.specs.Circumstances.{Circumstance}
use Rattle.shelf_model.specs.host_model.specs.Profiles.{Profile}
use Rattle.shelf_model.specs.host_model.specs.Hosts.{Host, hear, next, strides}

-- the channels, with the settings of the host; its end; and how many PDUs it may say until it hears something
pub record Upward (E : Type 0) : Type 0 where
  pub machine : Machine
  pub end : E
  pub may_say : ℕ

-- as a host whose profile is what the end is, for all that its port may answer from now on
abbrev pub asking : {E P S : Type 0} → (E → P → List Circumstance → S) → P → Upward E → List Circumstance → Host S
asking pushing port upper rest = record { channels = upper.machine.channels; profile = pushing upper.end port rest; may_say = upper.may_say }

-- it is the host of that side, and nothing waits to be told
pub record IsOf {E : Type 0} (server : Bool) (upper : Upward E) : Type 0 where
  pub party : upper.machine.server ≡ server
  pub told : upper.machine.channels.events ≡ []

-- a step of its profile was taken: whether the profile is to be asked again, and the host then
pub record Strode (S : Type 0) : Type 0 where
  pub more : Bool
  pub host : Host S

abbrev pub strode : {S : Type 0} → Profile S → Host S → Strode S
strode A host = let stride = A.steps host.channels host.profile in record { more = stride.more; host = strides A stride host }

-- it has a PDU to say
abbrev pub says : {E : Type 0} → Upward E → Bool
says upper = nat_lt 0 upper.may_say && is_some (next_given upper.machine.channels)

-- The next PDU was said: its octets are written from the front on, and no others.
pub record SaysInto {S P : Type 0} (A : Profile S) (Answers : P → List Circumstance → P → Type 0) (before after : List Circumstance → Host S) (port port' : P) (into : List ℕ) (size : ℕ) (into' : List ℕ) : Type 0 where
  pub pdu : List ℕ
  pub says : Does Answers (λ rest. next A (before rest)) (λ rest. Some (pdu, after rest)) port port'
  pub size_is : size ≡ length pdu
  pub written : into' ≡ pdu ++ drop size into

-- the channels gave their next PDU
pub record GivesInto {E : Type 0} (old : Upward E) (into : List ℕ) (size : ℕ) (new : Upward E) (into' : List ℕ) : Type 0 where
  pub given : Given
  pub next : next_given old.machine.channels ≡ Some given
  pub pdu : List ℕ
  pub is_pdu : IsPdu given pdu
  pub size_is : size ≡ length pdu
  pub written : into' ≡ pdu ++ drop size into
  pub after : new ≡ record old { machine = with_channels old.machine (after_given old.machine.channels) }

-- ---- what it hears

-- news other than the begin of a push
abbrev pub IsAside : News → Type 0
IsAside (Opening name) = ⊥
IsAside news = Unit {0}

-- what news of the line are to the host above it
abbrev pub told_of : PlainNews → Option News
told_of Nothing = None
told_of LinkUp = Some (Linked Up)
told_of (LinkFailed status) = Some (Failed status)
told_of (LinkDown reason) = Some (Linked (Down reason))
told_of (Pdu channel octets) = Some (Heard octets)

abbrev pub hears_told : {S : Type 0} → Profile S → List Circumstance → Option News → Host S → Host S
hears_told A rest None host = host
hears_told A rest (Some news) host = hear A rest news host

-- a PDU is told with its own channel
abbrev pub IsTitled : PlainNews → Type 0
IsTitled Nothing = Unit {0}
IsTitled LinkUp = Unit {0}
IsTitled (LinkFailed status) = Unit {0}
IsTitled (LinkDown reason) = Unit {0}
IsTitled (Pdu channel octets) = channel ≡ channel_of octets
