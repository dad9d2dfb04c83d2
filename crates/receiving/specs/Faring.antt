-- How far a host has come with what it is fed (this project's own).
use Rattle.std.specs.Prelude.{ℕ, ◌≡◌, ◌≢◌, ◌+◌, ◌<◌, ◌≤◌, ◌⊎◌, ◌&&◌, Bool, true, false, List, [], ◌∷◌, ◌++◌, length, Option, None, IfSome, Result, Ok, Err}
use Rattle.std.specs.List.{AllByRecursion}
use Rattle.bt_base.specs.Streams.{gained}
use Rattle.h4_framing.specs.Packets.{spellings, IsPacket}
use Rattle.h4_framing.specs.Stream.{IsUnfinished, IsLeastLength}
use Rattle.h4_framing.specs.Framing.{Framing}
use Rattle.btpush_forms.specs.h4_view.specs.View.{Took}
use Rattle.bt_host.specs.obex_session.specs.Counting as counting
use Rattle.bt_host.specs.host_model.specs.Circumstances.{Circumstance, answers_in}
use Rattle.bt_host.specs.host_model.specs.Profiles.{Profile}
use Rattle.bt_host.specs.declared.feed_refusal.FeedRefusal.{FeedRefusal}
use Rattle.bt_host.specs.declared.feed_refusal.FeedRefusal.TheVariants as fed
use Rattle.bt_host.specs.Refusals.{acl_limit}
use Rattle.h4_framing.specs.declared.refusal.H4Refusal.TheVariants as h4
use Rattle.receiving.specs.declared.fault.StreamRefusal.TheVariants as refusals
use Rattle.receiving.specs.declared.fault.ListenFault.{ListenFault}
use Rattle.receiving.specs.declared.fault.ListenFault.TheVariants.{Refused, ReadFault, WriteFault, NoMemory}
use Rattle.receiving.specs.Turns.{Stand, HasRest, Begun, Turn, HasTurns, answers_along, packets_in, said_in}
use Rattle.receiving.specs.Coming.{input_limit, Beside, Halts, Comes}

-- It heard the packets of the octets that it was fed, and holds what stands behind them: nothing, where the last of these left it no room. All that it said
-- is written, and the counts of its port say what that answered.
pub record Fares {S : Type 0} (A : Profile S) (first : Begun S) (octets : List ℕ) (framing : Framing) (stands : Stand S) (before after : Beside) : Type 0 where
  pub turns : List Turn
  pub full : Bool
  pub heard : Bool
  pub runs : HasTurns A turns first.posture (record { stands = stands; full = full; heard = heard })
  pub each : AllByRecursion (IsPacket acl_limit) (packets_in turns)
  pub whole : octets ≡ spellings (packets_in turns) ++ framing.held
  pub place : framing.before ≡ length (spellings (packets_in turns))
  pub limit : framing.limit ≡ acl_limit
  pub sound : framing.fault ≡ None
  pub unfinished : IsUnfinished acl_limit framing.held
  pub wrote : after.sink ≡ gained before.sink (first.said ++ said_in turns)
  pub answered : counting.AreCounted (answers_in (answers_along A turns first.posture (record { stands = stands; full = full; heard = heard }) runs)) before.counts after.counts
  pub empty : (rest : List Circumstance) → (stands rest).line.out ≡ []
  pub rests : full ≡ false → HasRest A stands
  pub paused : (full && heard) ≡ true → framing.held ≡ []

-- it is fed one octet more
abbrev pub HearsOctet : {S : Type 0} → Profile S → Begun S → List ℕ → Framing → Stand S → (before after : Beside) → Result (Unit {0}) ListenFault → Type 0
HearsOctet A first octets framing stands before after (Ok done) = Fares A first octets framing stands before after
HearsOctet A first octets framing stands before after (Err why) = (behind : List ℕ) (left : Option (List ℕ)) → Halts A first octets behind left stands before after (Err why)

-- it is fed a piece more, or stops within it
abbrev pub HearsPiece : {S : Type 0} → Profile S → Begun S → (octets piece : List ℕ) → Framing → Stand S → (before after : Beside) → Result (Unit {0}) ListenFault → Type 0
HearsPiece A first octets piece framing stands before after (Ok done) = Fares A first (octets ++ piece) framing stands before after
HearsPiece A first octets piece framing stands before after (Err why) =
    (heard behind : List ℕ) × (piece ≡ heard ++ behind) × ((left : Option (List ℕ)) → Halts A first (octets ++ heard) behind left stands before after (Err why))

-- how far it has come with a source, of which so many octets were read
pub record Follows {S : Type 0} (A : Profile S) (first : Begun S) (source left : Option (List ℕ)) (framing : Framing) (stands : Stand S) (before after : Beside) (count : ℕ) : Type 0 where
  pub octets : List ℕ
  pub took : Took source left octets
  pub counted : count ≡ length octets
  pub within : count ≤ input_limit
  pub fares : Fares A first octets framing stands before after

-- the source goes on, and more of it was fed; or it ended; or the host is fed no more
abbrev pub FollowsOn : {S : Type 0} → Profile S → Begun S → (source left : Option (List ℕ)) → Framing → Stand S → (before after : Beside) → (count : ℕ) → Result Bool ListenFault → Type 0
FollowsOn A first source left framing stands before after count (Ok true) = Follows A first source left framing stands before after count
FollowsOn A first source left framing stands before after count (Ok false) = Comes A first source left stands before after (Ok tt)
FollowsOn A first source left framing stands before after count (Err why) = Comes A first source left stands before after (Err why)

-- ---- from wherever it began

-- where a host stands that is fed a stream: what it holds of it, its machines, and what stands beside it
pub record Spot (S : Type 0) : Type 0 where
  pub framing : Framing
  pub stands : Stand S
  pub near : Beside

abbrev pub spot : {S : Type 0} → Framing → Stand S → Beside → Spot S
spot framing stands near = record { framing = framing; stands = stands; near = near }

-- however it came to where it stood, it is fed an octet more, or a piece, within the greatest length
abbrev pub HearsOneOn : {S : Type 0} → Profile S → (old new : Spot S) → (octet : ℕ) → Result (Unit {0}) ListenFault → Type 0
HearsOneOn {S} A old new octet result = (first : Begun S) (octets : List ℕ) (before : Beside) → length octets < input_limit → Fares A first octets old.framing old.stands before old.near
    → HearsOctet A first (octets ++ octet ∷ []) new.framing new.stands before new.near result

abbrev pub HearsOn : {S : Type 0} → Profile S → (old new : Spot S) → (piece : List ℕ) → Result (Unit {0}) ListenFault → Type 0
HearsOn {S} A old new piece result = (first : Begun S) (octets : List ℕ) (before : Beside) → length octets + length piece ≤ input_limit → Fares A first octets old.framing old.stands before old.near
    → HearsPiece A first octets piece new.framing new.stands before new.near result

-- and so it goes on with its source, where a framer holds what it holds
abbrev pub ReadsOn : {S : Type 0} → Profile S → (old new : Spot S) → (left left' : Option (List ℕ)) → (count count' : ℕ) → (IsAlike : Type 0) → Result Bool ListenFault → Type 0
ReadsOn {S} A old new left left' count count' IsAlike result = (first : Begun S) (origin : Option (List ℕ)) (before : Beside) → Follows A first origin left old.framing old.stands before old.near count → IsAlike
    → FollowsOn A first origin left' new.framing new.stands before new.near count' result

-- from where it was fed nothing it comes to the end of its source
abbrev pub ListensOn : {S : Type 0} → Profile S → (old new : Spot S) → (source source' : Option (List ℕ)) → (IsAlike : Type 0) → Result (Unit {0}) ListenFault → Type 0
ListensOn {S} A old new source source' IsAlike result = (first : Begun S) (before : Beside) → Fares A first [] old.framing old.stands before old.near → IsAlike → Comes A first source source' new.stands before new.near result

-- what the end of the source means where these octets are held
abbrev pub EndsHeld : Framing → Result (Unit {0}) ListenFault → Type 0
EndsHeld framing (Ok done) = framing.held ≡ []
EndsHeld framing (Err (Refused refusals.Truncated place)) = (place ≡ framing.before) × (framing.held ≢ []) × ((n : ℕ) × IsLeastLength acl_limit framing.held n × (framing.before + n ≤ input_limit))
EndsHeld framing (Err (Refused refusals.TooLong place)) = (place ≡ input_limit) × (framing.held ≢ []) × ((n : ℕ) × IsLeastLength acl_limit framing.held n × (input_limit < framing.before + n))
EndsHeld framing (Err why) = ⊥

-- what it means that the source was read up to the greatest length: it ends there, or is too long
abbrev pub EndsAtLimit : Framing → (left left' : Option (List ℕ)) → Result (Unit {0}) ListenFault → Type 0
EndsAtLimit framing left left' (Ok done) = (framing.held ≡ []) × IfSome left (λ octets. octets ≡ []) × Took left left' []
EndsAtLimit framing left left' (Err (Refused refusals.TooLong place)) = (place ≡ input_limit) × ((behind : List ℕ) × Took left left' behind × ((framing.held ≢ []) ⊎ (behind ≢ [])))
EndsAtLimit framing left left' (Err ReadFault) = Took left left' []
EndsAtLimit framing left left' (Err NoMemory) = Took left left' []
EndsAtLimit framing left left' (Err why) = ⊥

-- what a refusal of the host is to the stream
abbrev pub told_by : FeedRefusal → ListenFault
told_by (fed.Transport h4.BadIndicator place) = Refused refusals.BadIndicator place
told_by (fed.Transport h4.AclTooLong place) = Refused refusals.AclTooLong place
told_by (fed.Transport h4.Truncated place) = Refused refusals.Truncated place
told_by (fed.CommandFailed opcode status place) = Refused refusals.CommandFailed place
told_by (fed.BadBuffers size count place) = Refused refusals.BadBuffers place
told_by fed.NoMemory = NoMemory

-- a fault of the sink, or of the source, or want of memory
abbrev pub IsOfSink : ListenFault → Type 0
IsOfSink (Refused refusal place) = ⊥
IsOfSink ReadFault = ⊥
IsOfSink WriteFault = Unit {0}
IsOfSink NoMemory = Unit {0}

abbrev pub IsOfSource : ListenFault → Type 0
IsOfSource (Refused refusal place) = ⊥
IsOfSource ReadFault = Unit {0}
IsOfSource WriteFault = ⊥
IsOfSource NoMemory = Unit {0}
