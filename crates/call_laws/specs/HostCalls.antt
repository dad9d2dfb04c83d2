-- What a maker calls of a host in code, in any order, and what comes to that host with it, while no call is refused or answers want of memory (this
-- project's own).
use Rattle.std.specs.Prelude.{ℕ, ◌≡◌, ◌≤◌, List, [], ◌∷◌, ◌++◌, map, length, drop, Ok}
use Rattle.std.specs.List.{flat_map}
use Rattle.bt_host.specs.bt_base.specs.declared.settings.Settings.{Settings}
use Rattle.unit_laws.specs.scenario_laws.specs.h4_framing.specs.Packets.{Packet, spellings}
use Rattle.unit_laws.specs.scenario_laws.specs.h4_framing.specs.Stream.{IsUnfinished}
use Rattle.unit_laws.specs.scenario_laws.specs.world_model.specs.Machines.{News, TimerFired, Cancelled, Opening}
use Rattle.bt_host.specs.host_model.specs.Circumstances.{Circumstance}
use Rattle.bt_host.specs.host_model.specs.Profiles.{Profile}
use Rattle.bt_host.specs.Refusals.{acl_limit}
use Rattle.bt_host.specs.Shells.{Shelled, settings_of, moment_of, ComesToRest, Feeds}
use Rattle.bt_host.specs.Stacks.{HearsNews}
use Rattle.bt_host.specs.Stacks as stacks
use Rattle.call_laws.specs.Impulses.{Impulse, Hears, Learns, GoesOn, Gives, Pages, IsDevice, HasImpulses, heard_in}

-- ---- the calls

-- each is the method of that name
pub data HostCall : Type 0 where
  Feed : (piece : List ℕ) → HostCall
  OnTimer : HostCall
  Push : (name : List ℕ) → HostCall
  Cancel : HostCall
  PutOut : HostCall
  Taken : (count : ℕ) → HostCall
  PageDevice : (address : List ℕ) → HostCall

-- the octets that it feeds
abbrev pub piece_of : HostCall → List ℕ
piece_of (Feed piece) = piece
piece_of OnTimer = []
piece_of (Push name) = []
piece_of Cancel = []
piece_of PutOut = []
piece_of (Taken count) = []
piece_of (PageDevice address) = []

-- all octets that were fed, in their order
abbrev pub fed_in : List HostCall → List ℕ
fed_in calls = flat_map piece_of calls

module _ {E S P : Type 0} (profile : Settings → Profile S) (Answers : P → List Circumstance → P → Type 0) (Lacked : P → P → Type 0) (pushing : E → P → List Circumstance → S) where
  -- its line and what stands above change alone, and it has done all that it can
  abbrev pub Settles : (old new : Shelled E) → (port' : P) → Type 0
  Settles old new port' = ComesToRest profile pushing old new port' × (new ≡ record old { stack = new.stack })

  abbrev pub Tells : News → (old new : Shelled E) → (port port' : P) → Type 0
  Tells news old new port port' = HearsNews (profile (settings_of old)) Answers pushing news (moment_of old port) (moment_of new port') × Settles old new port'

  -- What the clauses say of a call that answered Ok, with its port before and behind it.
  abbrev pub Calls : HostCall → (old new : Shelled E) → (port port' : P) → Type 0
  Calls (Feed piece) old new port port' = Feeds (profile (settings_of old)) Answers Lacked pushing piece old new port port' (Ok tt) × ComesToRest profile pushing old new port'
  Calls OnTimer old new port port' = Tells TimerFired old new port port'
  Calls (Push name) old new port port' = Tells (Opening name) old new port port'
  Calls Cancel old new port port' = Tells Cancelled old new port port'
  Calls PutOut old new port port' = stacks.GoesOn (profile (settings_of old)) Answers pushing (moment_of old port) (moment_of new port') × Settles old new port'
  Calls (Taken count) old new port port' =
      (count ≤ length old.stack.line.out) × (new ≡ record old { stack = record old.stack { line = record old.stack.line { out = drop count old.stack.line.out } } })
  Calls (PageDevice address) old new port port' = IsDevice address × (new ≡ record old { stack = record old.stack { paged = address } })

  -- One call after the other, in any order; between them the port may change as it likes.
  abbrev pub HasCalls : List HostCall → (old new : Shelled E) → Type 0
  HasCalls [] old new = new ≡ old
  HasCalls (call ∷ calls) old new = (mid : Shelled E) × (port : P) × (port' : P) × Calls call old mid port port' × HasCalls calls mid new

-- ---- what comes to the host

-- these impulses, with the packets that are whole with the piece
abbrev pub impulses_of : HostCall → List Packet → List Impulse
impulses_of (Feed piece) packets = GoesOn ∷ map Hears packets
impulses_of OnTimer packets = Learns TimerFired ∷ []
impulses_of (Push name) packets = Learns (Opening name) ∷ []
impulses_of Cancel packets = Learns Cancelled ∷ []
impulses_of PutOut packets = GoesOn ∷ []
impulses_of (Taken count) packets = Gives count ∷ []
impulses_of (PageDevice address) packets = Pages address ∷ []

-- call after call
abbrev pub ComeWith : List HostCall → List Impulse → Type 0
ComeWith [] impulses = impulses ≡ []
ComeWith (call ∷ calls) impulses = (packets : List Packet) × (rest : List Impulse) × ComeWith calls rest × (impulses ≡ impulses_of call packets ++ rest)

-- With the calls these impulses come to it, and the packets among them are all that are whole of what was fed.
pub record AreImpulses {E S P : Type 0} (profile : Settings → Profile S) (Answers : P → List Circumstance → P → Type 0) (pushing : E → P → List Circumstance → S) (calls : List HostCall) (old new : Shelled E) (impulses : List Impulse) : Type 0 where
  pub has : HasImpulses (profile (settings_of old)) Answers pushing impulses old.stack new.stack
  pub come : ComeWith calls impulses
  pub whole : old.framing.held ++ fed_in calls ≡ spellings (heard_in impulses) ++ new.framing.held
  pub unfinished : IsUnfinished acl_limit old.framing.held → IsUnfinished acl_limit new.framing.held
