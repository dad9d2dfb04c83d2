-- What each step keeps of which all that happens to a host is made.
use Rattle.std.proofs.Common.{◌≡◌, ℕ, List, [], ◌∷◌, ◌++◌, Bool, true, false, not, Option, Some, None, Ok, Err, ◌⊎◌}
use Rattle.talk_laws.specs.acl_fragments.specs.Pieces.{channel_of}
use Rattle.talk_laws.specs.capture.specs.declared.flow.Flow.TheVariants.{Into}
use Rattle.talk_laws.specs.l2cap_signal.specs.Commands.{Content, connection_request, connection_response}
use Rattle.talk_laws.specs.l2cap_signal.specs.Reading.{Answer as Read}
use Rattle.talk_laws.specs.link_talk.specs.Sayings.{Saying, Carried}
use Rattle.talk_laws.specs.link_talk.specs.Channels.{reading}
use Rattle.channel_model.specs.Value.{no_setup, Connected, Held, Remembered, Channels, no_channels}
use Rattle.channel_model.specs.Policies.{Policy}
use Rattle.channel_model.specs.Changing.{has_room, held_at}
use Rattle.channel_model.specs.Following.{follows, can_say}
use Rattle.channel_model.specs.Hearing.{hears_content}
use Rattle.channel_model.specs.Carrying.{takes}
use Rattle.channel_model.specs.Timing.{times_held, times_end, times_features}
use Rattle.own_channel_laws.specs.OwnTalk.{command_with, command_if, exchanged, asked_between}
use Rattle.own_channel_laws.specs.Runs.{Occurrence, Comes, Connects, AsksFeatures, Disconnects, Sends, Gives, Fires, Tells, said_on_firing, said_by_features, said_in, value_after}
use Rattle.channel_model.proofs.Lookups.{own_of, Distinct}
use Rattle.own_channel_laws.proofs.Sound.{Sound}
use Rattle.own_channel_laws.proofs.Lasting.{answers_of}
use Rattle.own_channel_laws.proofs.Replying.{is_response, IsReply}

-- ---- what each step keeps

-- the same but for what waits and what is remembered
pub record IsAlike (v u : Channels) : Type 0 where
  pub held_is : u.held ≡ v.held
  pub next_is : u.next ≡ v.next
  pub identifier_is : u.identifier ≡ v.identifier
  pub features_is : u.features ≡ v.features
  pub events_are : u.events ≡ v.events

-- nothing more waits to be answered, or the answer to a command waits, for which there was room
abbrev pub WaitsSo : (v u : Channels) (identifier : ℕ) → Option Content → Type 0
WaitsSo v u identifier response =
    (answers_of u.queue ≡ answers_of v.queue) ⊎ ((content : Content) × (response ≡ Some content) × (has_room v ≡ true) × (answers_of u.queue ≡ answers_of v.queue ++ command_with identifier content ∷ []))

-- a command that is no response of the peer
abbrev pub is_asking : Read → Bool
is_asking (Ok command) = not (is_response command.content)
is_asking (Err refusal) = true

-- what happens alone: no PDU that comes in, and no firing
abbrev pub is_single : Occurrence → Bool
is_single (Comes pdu) = false
is_single (Connects psm) = true
is_single AsksFeatures = true
is_single (Disconnects own) = true
is_single (Sends own sdu) = true
is_single (Gives pdu) = true
is_single Fires = false
is_single Tells = true

-- from some channels to others, with what is said of it
abbrev pub Goes : Policy → (J : List Saying → Channels → Type 0) → (past : List Saying) (v : Channels) (said : List Saying) (w : Channels) → Type 0
Goes policy J past v said w = Sound policy (reading past) v → J past v → Sound policy (reading (past ++ said)) w → J (past ++ said) w

-- something between all that was said and the channels that each of the steps keeps of which all that happens is made;
-- besides, something that always holds of the channels
pub record Converses (policy : Policy) (K : Channels → Type 0) (J : List Saying → Channels → Type 0) : Type 0 where
  pub first : K no_channels
  pub kept : (v : Channels) (more : Occurrence) → Distinct own_of v.held → K v → K (value_after policy more v)
  -- the peer asks, and is answered
  pub asked : (past : List Saying) (v u : Channels) (one : Read) (identifier : ℕ) (response : Option Content) (content : Content) → is_asking one ≡ true → IsReply response → IsAlike v u → WaitsSo v u identifier response
      → Goes policy J past v (exchanged one (command_if identifier response) v ++ asked_between v (follows policy content u)) (follows policy content u)
  -- the peer responds
  pub answered : (past : List Saying) (v : Channels) (identifier : ℕ) (content : Content) → is_response content ≡ true
      → Goes policy J past v (exchanged (Ok (command_with identifier content)) None v ++ asked_between v (hears_content policy identifier content v)) (hears_content policy identifier content v)
  pub taken : (past : List Saying) (v : Channels) (pdu : List ℕ) → K v → Goes policy J past v (Carried Into pdu ∷ asked_between v (takes (channel_of pdu) pdu v)) (takes (channel_of pdu) pdu v)
  -- what the timer finds of a channel: what it waits for, and its end
  pub waits : (past : List Saying) (v : Channels) (tries own : ℕ) → Goes policy J past v (said_on_firing own v (times_held (held_at own v) tries v)) (times_held (held_at own v) tries v)
  pub ends : (past : List Saying) (v : Channels) (tries own : ℕ) → Goes policy J past v (said_on_firing own v (times_end (held_at own v) tries v)) (times_end (held_at own v) tries v)
  pub loses : (past : List Saying) (v : Channels) (tries : ℕ) → Goes policy J past v (said_by_features tries v) (times_features v.features tries v)
  pub single : (past : List Saying) (v : Channels) (more : Occurrence) → is_single more ≡ true → K v → Goes policy J past v (said_in policy more v) (value_after policy more v)

-- ---- what is known of a response besides

-- a channel comes to be, of the endpoint that is given next
pub record IsMade (v w : Channels) (own peer : ℕ) : Type 0 where
  pub own_is : own ≡ v.next
  pub held : Held
  pub found : held_at own w ≡ Some held
  pub stage_is : held.stage ≡ Connected peer no_setup

-- the response to the last request for a channel
abbrev pub IsLast : Channels → (identifier : ℕ) → Content → Type 0
IsLast v identifier content = (last : Remembered) × (v.memory.connection ≡ Some last) × (last.identifier ≡ identifier) × (last.response ≡ Some content)

-- a request for a channel for this endpoint of the peer, which is not the last one again
pub record IsAnew (v : Channels) (one : Read) (identifier peer : ℕ) : Type 0 where
  pub psm : ℕ
  pub asks : one ≡ Ok (command_with identifier (connection_request psm peer))
  pub other : (last : Remembered) → v.memory.connection ≡ Some last → last.identifier ≡ identifier → ⊥

-- One that grants a channel is the last one again, or that of a channel that comes to be, to a request that is not. The last one is as
-- it was, or is this one.
pub record Grants (v w : Channels) (one : Read) (identifier : ℕ) (response : Option Content) : Type 0 where
  pub grant : can_say response v ≡ true → (own peer status : ℕ) → response ≡ Some (connection_response own peer 0 status) → IsLast v identifier (connection_response own peer 0 status) ⊎ IsMade v w own peer
  pub anew : can_say response v ≡ true → (own peer status : ℕ) → response ≡ Some (connection_response own peer 0 status) → IsLast v identifier (connection_response own peer 0 status) ⊎ IsAnew v one identifier peer
  pub last_is : (w.memory.connection ≡ v.memory.connection) ⊎ ((can_say response v ≡ true) × (last : Remembered) × (w.memory.connection ≡ Some last) × (last.identifier ≡ identifier) × (last.response ≡ response))

-- the same, where this is known, and where what the host does alone is so
pub record ConversesWhile (policy : Policy) (A : List Saying → Occurrence → Channels → Type 0) (K : Channels → Type 0) (J : List Saying → Channels → Type 0) : Type 0 where
  pub first : K no_channels
  pub kept : (v : Channels) (more : Occurrence) → Distinct own_of v.held → K v → K (value_after policy more v)
  pub asked : (past : List Saying) (v u : Channels) (one : Read) (identifier : ℕ) (response : Option Content) (content : Content) → is_asking one ≡ true → IsReply response → IsAlike v u → WaitsSo v u identifier response → Grants v (follows policy content u) one identifier response
      → Goes policy J past v (exchanged one (command_if identifier response) v ++ asked_between v (follows policy content u)) (follows policy content u)
  pub answered : (past : List Saying) (v : Channels) (identifier : ℕ) (content : Content) → is_response content ≡ true → (hears_content policy identifier content v).memory ≡ v.memory
      → Goes policy J past v (exchanged (Ok (command_with identifier content)) None v ++ asked_between v (hears_content policy identifier content v)) (hears_content policy identifier content v)
  pub taken : (past : List Saying) (v : Channels) (pdu : List ℕ) → K v → (takes (channel_of pdu) pdu v).memory ≡ v.memory → Goes policy J past v (Carried Into pdu ∷ asked_between v (takes (channel_of pdu) pdu v)) (takes (channel_of pdu) pdu v)
  pub waits : (past : List Saying) (v : Channels) (tries own : ℕ) → (times_held (held_at own v) tries v).memory ≡ v.memory → Goes policy J past v (said_on_firing own v (times_held (held_at own v) tries v)) (times_held (held_at own v) tries v)
  pub ends : (past : List Saying) (v : Channels) (tries own : ℕ) → (times_end (held_at own v) tries v).memory ≡ v.memory → Goes policy J past v (said_on_firing own v (times_end (held_at own v) tries v)) (times_end (held_at own v) tries v)
  pub loses : (past : List Saying) (v : Channels) (tries : ℕ) → (times_features v.features tries v).memory ≡ v.memory → Goes policy J past v (said_by_features tries v) (times_features v.features tries v)
  pub single : (past : List Saying) (v : Channels) (more : Occurrence) → is_single more ≡ true → A past more v → K v → (value_after policy more v).memory ≡ v.memory → Goes policy J past v (said_in policy more v) (value_after policy more v)

abbrev pub AnyOccurs : List Saying → Occurrence → Channels → Type 0
AnyOccurs past more v = Unit {0}

abbrev pub ConversesKnowing : Policy → (K : Channels → Type 0) (J : List Saying → Channels → Type 0) → Type 0
ConversesKnowing policy K J = ConversesWhile policy AnyOccurs K J

pub knowing : (policy : Policy) (K : Channels → Type 0) (J : List Saying → Channels → Type 0) → Converses policy K J → ConversesKnowing policy K J
knowing policy K J c = record {
  first = c.first;
  kept = c.kept;
  asked = λ past v u one identifier response content asking reply alike waits grants. c.asked past v u one identifier response content asking reply alike waits;
  answered = λ past v identifier content is same. c.answered past v identifier content is;
  taken = λ past v pdu known same. c.taken past v pdu known;
  waits = λ past v tries own same. c.waits past v tries own;
  ends = λ past v tries own same. c.ends past v tries own;
  loses = λ past v tries same. c.loses past v tries;
  single = λ past v more is any known same. c.single past v more is known;
}
