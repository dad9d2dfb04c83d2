-- What a host does with octets that it is fed (this project's own).
use Rattle.std.specs.Prelude.{ℕ, ◌≡◌, List, [], ◌∷◌, ◌++◌, Result, Ok, Err}
use Rattle.h4_framing.specs.Packets.{Packet}
use Rattle.h4_framing.specs.Framing.{Framing}
use Rattle.bt_host.specs.obex_session.specs.Counting as counting
use Rattle.bt_host.specs.host_model.specs.Circumstances.{Circumstance, answers_in}
use Rattle.bt_host.specs.host_model.specs.Profiles.{Profile}
use Rattle.bt_host.specs.declared.feed_refusal.FeedRefusal.{FeedRefusal}
use Rattle.bt_host.specs.declared.feed_refusal.FeedRefusal.TheVariants.{NoMemory}
use Rattle.bt_host.specs.Pieces.{IsTaken, IsStopped}
use Rattle.receiving.specs.Turns.{Stand, Moves, HearsOne}

-- one packet after the other
abbrev pub HearsEach : {S : Type 0} → Profile S → List Packet → Stand S → Stand S → Type 0
HearsEach A [] old new = new ≡ old
HearsEach {S} A (packet ∷ packets) old new = (mid : Stand S) × HearsOne A packet old mid × HearsEach A packets mid new

-- what its port answered meanwhile
abbrev pub answers_each : {S : Type 0} → (A : Profile S) (packets : List Packet) (old new : Stand S) → HearsEach A packets old new → List Circumstance
answers_each A [] old new hears = []
answers_each A (packet ∷ packets) old new (mid, one, more) = one.moves.used ++ answers_each A packets mid new more

-- What was held back goes out, and then the packets are heard. A host that is the same then used no answers up. Both counts of its port say what all
-- its answers were.
pub record Listens {S : Type 0} (A : Profile S) (packets : List Packet) (old new : Stand S) (counts counts' : counting.Counts) : Type 0 where
  pub between : Stand S
  pub back : Moves A old between
  pub still : ((rest : List Circumstance) → between rest ≡ old (back.used ++ rest)) → (between ≡ old) × (answers_in back.used ≡ [])
  pub hears : HearsEach A packets between new
  pub answered : counting.AreCounted (answers_in (back.used ++ answers_each A packets between new hears)) counts counts'

-- It is fed a piece: all of it is taken, or it stops at a refusal. Of want of memory nothing is said here.
abbrev pub IsFed : {S : Type 0} → Profile S → List ℕ → (framing framing' : Framing) → (old new : Stand S) → (counts counts' : counting.Counts) → Result (Unit {0}) FeedRefusal → Type 0
IsFed A piece framing framing' old new counts counts' (Ok done) = (packets : List Packet) × IsTaken framing framing' piece packets × Listens A packets old new counts counts'
IsFed A piece framing framing' old new counts counts' (Err NoMemory) = Unit {0}
IsFed A piece framing framing' old new counts counts' (Err refusal) = (packets : List Packet) × IsStopped framing framing' piece packets (new []).line refusal × Listens A packets old new counts counts'
