-- A host in code (this project's own).
use Rattle.std.specs.Prelude.{ℕ, ◌≡◌, ◌⊎◌, true, List, Option, Some, None, Result, Ok, Err, MatchOption, is_err}
use Rattle.h4_framing.specs.Framing.{Framing}
use Rattle.h4_framing.specs.Packets.{Packet}
use Rattle.shelf_model.specs.host_model.specs.Circumstances.{Circumstance}
use Rattle.shelf_model.specs.host_model.specs.Profiles.{Profile}
use Rattle.bt_host.specs.declared.feed_refusal.FeedRefusal.{FeedRefusal}
use Rattle.bt_host.specs.declared.feed_refusal.FeedRefusal.TheVariants.{NoMemory}
use Rattle.bt_host.specs.Refusals.{refusal_in}
use Rattle.bt_host.specs.Pieces.{IsTaken, IsStopped}
use Rattle.bt_base.specs.declared.settings.Settings.{Settings}
use Rattle.bt_host.specs.Stacks.{Stacked, Moment, GoesOn, HearsAll, IsResting}

-- how far it has come in what it was fed, its line and what stands above, and why it cannot go on
pub record Shelled (E : Type 0) : Type 0 where
  pub framing : Framing
  pub stack : Stacked E
  pub refusal : Option FeedRefusal

abbrev pub settings_of : {E : Type 0} → Shelled E → Settings
settings_of host = host.stack.upper.machine.settings

abbrev pub moment_of : {E P : Type 0} → Shelled E → P → Moment E P
moment_of host port = record { stack = host.stack; port = port }

-- it has done all that it can by itself; its settings are those of before, and so is the device that it pages
pub record ComesToRest {E S P : Type 0} (profile : Settings → Profile S) (pushing : E → P → List Circumstance → S) (old new : Shelled E) (port : P) : Type 0 where
  pub rests : IsResting (profile (settings_of old)) pushing (moment_of new port)
  pub settings : settings_of new ≡ settings_of old
  pub paged : new.stack.paged ≡ old.stack.paged

-- all was taken, and the host heard the packets one after the other
pub record Takes {E S P : Type 0} (A : Profile S) (Answers : P → List Circumstance → P → Type 0) (pushing : E → P → List Circumstance → S) (piece : List ℕ) (framing framing' : Framing) (old new : Moment E P) : Type 0 where
  pub packets : List Packet
  pub taken : IsTaken framing framing' piece packets
  pub hears : HearsAll A Answers pushing packets old new

-- the host heard the packets before the refusal one after the other
pub record Stops {E S P : Type 0} (A : Profile S) (Answers : P → List Circumstance → P → Type 0) (pushing : E → P → List Circumstance → S) (piece : List ℕ) (framing framing' : Framing) (old new : Moment E P) (refusal : FeedRefusal) : Type 0 where
  pub packets : List Packet
  pub stopped : IsStopped framing framing' piece packets new.stack.line refusal
  pub hears : HearsAll A Answers pushing packets old new

abbrev pub Reads : {E S P : Type 0} → Profile S → (P → List Circumstance → P → Type 0) → (P → P → Type 0) → (E → P → List Circumstance → S) → List ℕ → (framing framing' : Framing) → (old new : Moment E P) → Result (Unit {0}) FeedRefusal → Type 0
Reads A Answers Lacked pushing piece framing framing' old new (Ok done) = Takes A Answers pushing piece framing framing' old new
Reads A Answers Lacked pushing piece framing framing' old new (Err NoMemory) = Lacked old.port new.port
Reads A Answers Lacked pushing piece framing framing' old new (Err refusal) = Stops A Answers pushing piece framing framing' old new refusal

-- What was held back goes out, and then the piece is heard.
abbrev pub FeedsOn : {E S P : Type 0} → Profile S → (P → List Circumstance → P → Type 0) → (P → P → Type 0) → (E → P → List Circumstance → S) → List ℕ → (framing framing' : Framing) → (old new : Moment E P) → Result (Unit {0}) FeedRefusal → Type 0
FeedsOn A Answers Lacked pushing piece framing framing' old new (Err NoMemory) = Lacked old.port new.port
FeedsOn {E} {S} {P} A Answers Lacked pushing piece framing framing' old new result =
    (mid : Moment E P) × GoesOn A Answers pushing old mid × Reads A Answers Lacked pushing piece framing framing' mid new result

-- A piece is fed. A refusal is answered for good, and then nothing changes.
abbrev pub Feeds : {E S P : Type 0} → Profile S → (P → List Circumstance → P → Type 0) → (P → P → Type 0) → (E → P → List Circumstance → S) → List ℕ → (old new : Shelled E) → (port port' : P) → Result (Unit {0}) FeedRefusal → Type 0
Feeds A Answers Lacked pushing piece old new port port' result =
    MatchOption old.refusal
    (FeedsOn A Answers Lacked pushing piece old.framing new.framing (record { stack = old.stack; port = port }) (record { stack = new.stack; port = port' }) result × (new.refusal ≡ refusal_in result))
    (λ refusal. (result ≡ Err refusal) × (new ≡ old) × (port' ≡ port))

-- it refused nothing, but may have found no memory once
abbrev pub RefusedNone : {E : Type 0} → Shelled E → Type 0
RefusedNone host = (host.refusal ≡ None) ⊎ (host.refusal ≡ Some NoMemory)

-- A host that found no memory once answers so for good, and then nothing changes, nor is its port asked.
abbrev pub StaysFailed : {E P X : Type 0} → (old new : Shelled E) → (port port' : P) → Result (Unit {0}) X → Type 0
StaysFailed old new port port' result = old.refusal ≡ Some NoMemory → (is_err result ≡ true) × (new ≡ old) × (port' ≡ port)
