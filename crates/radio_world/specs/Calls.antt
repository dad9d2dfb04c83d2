-- What a call of a world works on, and what comes of it (this project's own).
use Rattle.std.specs.Prelude.{ℕ, ◌≡◌, List, [], Option, Result, length, OnOk, OnErr}
use Rattle.std.specs.List.{AllByRecursion}
use Rattle.bt_base.specs.declared.ports.Sink as sink
use Rattle.bt_base.specs.Streams.{gained, GainedFront}
use Rattle.push_terms.specs.declared.word.Word.{Word}
use Rattle.push_terms.specs.declared.outcome.Outcome.{Outcome}
use Rattle.push_script.specs.declared.scenario.Scenario.{Scenario}
use Rattle.capture.specs.Entries.{IsEntry, capture_octets}
use Rattle.room_laws.specs.Rooms.{OwesNoneBack}
use Rattle.room_laws.specs.world_model.specs.Worlds.{IsSettled}
use Rattle.radio_world.specs.declared.fault.WorldFault.{WorldFault}
use Rattle.radio_world.specs.declared.host.Host as host
use Rattle.radio_world.specs.Hosts.{answering}
use Rattle.radio_world.specs.Scenes.{Scene, first_scene, moment, world_at, Stage, stage, Advances}
use Rattle.radio_world.specs.Standing.{IsReached, Stands, last_ended, last_entries, all_outcomes}
use Rattle.radio_world.specs.Both.{Both}
use Rattle.radio_world.specs.Causes.{Blames}
use Rattle.radio_world.specs.Counting.{AdvancesBy}
use Rattle.radio_world.specs.Shortages.{LacksByTrace, Lacks, Wants}
use Rattle.radio_world.specs.Breaking.{Broken}

-- ---- what a call works on

-- a trace: what it holds, where it tells that, and how often it failed and found no memory
pub record Traced : Type 0 where
  pub content : Option (List ℕ)
  pub faults : ℕ
  pub shortages : ℕ

-- the ports of a call: those that both hosts work on, and the trace
pub record Ports (P Q : Type 0) : Type 0 where
  pub shelf : P
  pub inbox : Q
  pub trace : Traced

abbrev pub traced : {T : Type 0} → sink.Ghosts T → T → Traced
traced of_trace trace = record { content = of_trace.content trace; faults = of_trace.faults trace; shortages = of_trace.shortages trace }

abbrev pub ports_of : {P Q T : Type 0} → sink.Ghosts T → P → Q → T → Ports P Q
ports_of of_trace shelf inbox trace = record { shelf = shelf; inbox = inbox; trace = traced of_trace trace }

abbrev pub both : {A B : Type 0} → A → B → Scene → Both A B
both a b scene = record { a = a; b = b; scene = scene }

-- what these hosts are beside their ports, with what lies between them, their ports, and the trace
abbrev pub staged : {A B P Q : Type 0} (one : host.Ghosts A P) (two : host.Ghosts B Q) → Both A B → Ports P Q → Stage one.State two.State one.Answer two.Answer P Q
staged one two world ports = stage world.scene (one.station world.a ports.shelf) (two.station world.b ports.inbox) ports.shelf ports.inbox ports.trace.content

-- ---- where a call begins

-- neither host holds octets of a packet, and each is sound beside its port
pub record AreSound {A B P Q : Type 0} (one : host.Ghosts A P) (two : host.Ghosts B Q) (world : Both A B) (shelf : P) (inbox : Q) : Type 0 where
  pub none_held : (one.held world.a ≡ []) × (two.held world.b ≡ [])
  pub sound : one.is_sound world.a shelf × two.is_sound world.b inbox

-- a run of the pure world led there, whatever the ports answer from now on
abbrev pub AreReached : {A B P Q : Type 0} → host.Ghosts A P → host.Ghosts B Q → Both A B → P → Q → Type 0
AreReached one two world shelf inbox =
    (rest_a : List one.Answer) (rest_b : List two.Answer) → IsReached one.machine two.machine (moment world.scene (answering rest_a (one.station world.a shelf)) (answering rest_b (two.station world.b inbox)))

-- A world may start: a run of the pure world led there, and no packet is owed back to a host.
pub record MayStart {A B P Q : Type 0} (one : host.Ghosts A P) (two : host.Ghosts B Q) (world : Both A B) (shelf : P) (inbox : Q) : Type 0 where
  pub reached : AreReached one two world shelf inbox
  pub none_back : OwesNoneBack world.scene.medium.radio
  pub are_sound : AreSound one two world shelf inbox

-- A word may be turned: besides, all is settled.
pub record MayTurn {A B P Q : Type 0} (one : host.Ghosts A P) (two : host.Ghosts B Q) (world : Both A B) (shelf : P) (inbox : Q) : Type 0 where
  pub stands : Stands one.machine two.machine world.scene (one.station world.a shelf) (two.station world.b inbox)
  pub are_sound : AreSound one two world shelf inbox

-- the world of a scenario with two new hosts of its settings
abbrev pub new_world : {A B P Q : Type 0} → host.Ghosts A P → host.Ghosts B Q → Scenario → Both A B
new_world one two scenario = record { a = one.fresh scenario.settings; b = two.fresh scenario.settings; scene = first_scene scenario.acl_length scenario.acl_count scenario.names }

-- ---- what comes of a call

-- a run of the pure world from one to the other, in which these words were turned, as the trace gained it
abbrev pub AdvancesAt : {A B P Q : Type 0} → host.Ghosts A P → host.Ghosts B Q → List Word → Both A B → Ports P Q → Both A B → Ports P Q → Type 0
AdvancesAt one two words old ports new ports' = Advances one.machine two.machine one.answers two.answers words (staged one two old ports) (staged one two new ports')

-- of which so many entries at least tell
abbrev pub AdvancesByAt : {A B P Q : Type 0} → ℕ → host.Ghosts A P → host.Ghosts B Q → List Word → Both A B → Ports P Q → Both A B → Ports P Q → Type 0
AdvancesByAt count one two words old ports new ports' = AdvancesBy count one.machine two.machine one.answers two.answers words (staged one two old ports) (staged one two new ports')

-- all is settled, whatever the ports answer from now on
abbrev pub AreSettled : {A B P Q : Type 0} → host.Ghosts A P → host.Ghosts B Q → Both A B → P → Q → Type 0
AreSettled one two world shelf inbox =
    (rest_a : List one.Answer) (rest_b : List two.Answer) → IsSettled one.machine two.machine (world_at (moment world.scene (answering rest_a (one.station world.a shelf)) (answering rest_b (two.station world.b inbox))))

-- it broke off there
abbrev pub BrokenAt : {A B P Q : Type 0} → host.Ghosts A P → host.Ghosts B Q → List Word → Both A B → Ports P Q → Ports P Q → Type 0
BrokenAt one two words old ports ports' = Broken one.machine two.machine one.answers two.answers one.lacked two.lacked two.station words (staged one two old ports) ports'.shelf ports'.inbox ports'.trace.content

-- what it says of want of memory
abbrev pub LacksAt : {A B P Q X : Type 0} → host.Ghosts A P → host.Ghosts B Q → List Word → Both A B → Ports P Q → Ports P Q → Result X WorldFault → Type 0
LacksAt one two words old ports ports' result =
    Lacks ports.trace.shortages ports'.trace.shortages (Wants one.machine two.machine one.answers two.answers one.lacked two.lacked words (staged one two old ports) ports'.shelf ports'.inbox ports'.trace.content) result

-- these words were turned, and the next one may be
pub record Turned {A B P Q : Type 0} (one : host.Ghosts A P) (two : host.Ghosts B Q) (words : List Word) (old : Both A B) (ports : Ports P Q) (new : Both A B) (ports' : Ports P Q) : Type 0 where
  pub advances : AdvancesAt one two words old ports new ports'
  pub may : MayTurn one two new ports'.shelf ports'.inbox

-- What comes of a call in which these words are to be turned: they were; or it broke off, and why. Its ports counted what they lacked.
pub record Turns {A B P Q X : Type 0} (one : host.Ghosts A P) (two : host.Ghosts B Q) (words : List Word) (old : Both A B) (ports : Ports P Q) (new : Both A B) (ports' : Ports P Q) (result : Result X WorldFault) : Type 0 where
  pub turned : OnOk result (Turned one two words old ports new ports')
  pub breaks : OnErr result (BrokenAt one two words old ports ports')
  pub blames : Blames ports.trace.faults ports'.trace.faults result
  pub lacks : LacksAt one two words old ports ports' result

-- ---- what comes of the end of a script

-- all objects have their outcomes, the trace gained the entry of the last end, and nothing else changed
pub record Finished (came : Option Outcome) (old new : Scene) (trace trace' : Traced) : Type 0 where
  pub outcomes : new.pushes.outcomes ≡ all_outcomes (last_ended came old.pushes)
  pub each : length new.pushes.outcomes ≡ length old.pushes.names
  pub written : trace'.content ≡ gained trace.content (capture_octets (last_entries came old.pushes))
  pub medium : new.medium ≡ old.medium

-- What comes of it, where that had come of the last push: this, or else the trace has a front of that entry.
pub record Finishes {A B X : Type 0} (came : Option Outcome) (old new : Both A B) (trace trace' : Traced) (result : Result X WorldFault) : Type 0 where
  pub finished : OnOk result (Finished came old.scene new.scene trace trace')
  pub front : GainedFront trace.content trace'.content (capture_octets (last_entries came old.scene.pushes))
  pub entries : AllByRecursion IsEntry (last_entries came old.scene.pushes)
  pub hosts : (new.a ≡ old.a) × (new.b ≡ old.b)
  pub blames : Blames trace.faults trace'.faults result
  pub lacks : LacksByTrace trace.shortages trace'.shortages result
