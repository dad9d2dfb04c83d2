-- A host that is calm on its link: nothing waits in it where it hears something, a PDU has one command, and what it says is read as it
-- was meant (Core 5.1, Volume 3 Part A, 3.1 and 4).
use Rattle.std.specs.Prelude.{ℕ, ◌≡◌, List, [], ◌∷◌, Some, None, map, ◌++◌}
use Rattle.std.specs.List.{AllByRecursion, filter_map, flat_map}
use Rattle.shelf_model.specs.capture.specs.declared.flow.Flow.TheVariants.{Out, Into}
use Rattle.shelf_model.specs.capture.specs.Pdus.{Pdu}
use Rattle.push_laws.specs.link_talk.specs.Sayings.{said_by}
use Rattle.channel_laws.specs.channel_model.specs.Value.{Channels, no_channels}
use Rattle.channel_laws.specs.channel_model.specs.Policies.{Policy}
use Rattle.channel_laws.specs.channel_model.specs.Giving.{Given, next_given}
use Rattle.channel_laws.specs.Frames.{AreUttered}
use Rattle.channel_laws.specs.Runs.{Occurrence, run_of}
use Rattle.shelf_model.specs.world_model.specs.Machines.{Up, News, Linked, Failed, Heard, TimerFired, Cancelled, Opening}
use Rattle.shelf_model.specs.world_model.specs.Talks.{Talk, Told, Said, Unsent, Met, Done}
use Rattle.shelf_model.specs.host_model.specs.Circumstances.{Circumstance}
use Rattle.shelf_model.specs.host_model.specs.Profiles.{Profile}
use Rattle.shelf_model.specs.host_model.specs.Hosts.{Host, hear, next}
use Rattle.shelf_model.specs.host_model.specs.Machines.{upper}
use Rattle.host_laws.specs.Acts.{Act, Hears, Says, Does, Acting, StaysOnLink, from_acts}
use Rattle.host_laws.specs.Turning.{OnLink}
use Rattle.host_laws.specs.Lives.{Occurred, Turned, act_marks, Lives}
use Rattle.host_laws.specs.Calls.{Asks, outer}
use Rattle.host_laws.specs.Seen.{spoken_of, moved, IsQuiet, IsSaidAs, IsOneCommand, FiresPlainly}

abbrev pub IsCalmNews : Policy → News → Channels → Type 0
IsCalmNews policy (Linked event) v = Unit {0}
IsCalmNews policy (Failed status) v = Unit {0}
IsCalmNews policy (Heard pdu) v = IsQuiet v × IsOneCommand pdu
IsCalmNews policy TimerFired v = IsQuiet v × FiresPlainly policy v
IsCalmNews policy Cancelled v = Unit {0}
IsCalmNews policy (Opening name) v = Unit {0}

-- what the host gives has these octets, and is read so
abbrev pub IsReadFrom : {P : Type 0} → List ℕ → Host P → Type 0
IsReadFrom pdu host = (given : Given) → next_given host.channels ≡ Some given → IsSaidAs given pdu

abbrev pub IsCalmAct : {P : Type 0} → Profile P → Act Circumstance → Host P → Type 0
IsCalmAct A (Hears circumstances news) host = IsCalmNews A.policy news host.channels
IsCalmAct A (Says pdu) host = IsReadFrom pdu host

-- with each of its acts
abbrev pub AreCalm : {P : Type 0} → Profile P → List (Act Circumstance) → Host P → Type 0
AreCalm A [] host = Unit {0}
AreCalm {P} A (act ∷ acts) host = IsCalmAct A act host × ((mid : Host P) → Does (upper A) act host mid → AreCalm A acts mid)

-- its channels are those of a run of which the own talk is what moved, but for what was given up
pub record Moves {P : Type 0} (A : Profile P) (acts : List (Act Circumstance)) (new : Host P) : Type 0 where
  pub list : List Occurrence
  pub channels_run : new.channels ≡ (run_of A.policy list).value
  pub acted_is : filter_map outer list ≡ from_acts acts
  pub talk_is : spoken_of (run_of A.policy list).said ≡ moved (from_acts acts)

-- So it is of a host on a link of its own, for every profile, where it is calm and nothing waits at the end.
abbrev pub CalmHostsMove : {P : Type 0} → Profile P → Type 0
CalmHostsMove {P} A =
    (asks : Asks A) (acts : List (Act Circumstance)) (old new : Host P) → old.channels ≡ no_channels → AllByRecursion StaysOnLink acts → Acting (upper A) acts old new → AreCalm A acts old
    → IsQuiet new.channels → Moves A acts new

-- ---- in a world of turns

-- where it has nothing to say, its channels have nothing to give: no bound on what it says holds a PDU back
abbrev pub HoldsNothingBack : {P : Type 0} → Profile P → Host P → Type 0
HoldsNothingBack A host = next A host ≡ None → next_given host.channels ≡ None

abbrev pub IsGentleNews : {P : Type 0} → Profile P → News → Host P → Type 0
IsGentleNews A (Linked event) host = Unit {0}
IsGentleNews A (Failed status) host = Unit {0}
IsGentleNews A (Heard pdu) host = HoldsNothingBack A host × IsOneCommand pdu
IsGentleNews A TimerFired host = HoldsNothingBack A host × FiresPlainly A.policy host.channels
IsGentleNews A Cancelled host = Unit {0}
IsGentleNews A (Opening name) host = Unit {0}

abbrev pub IsGentleAct : {P : Type 0} → Profile P → Act Circumstance → Host P → Type 0
IsGentleAct A (Hears circumstances news) host = IsGentleNews A news host
IsGentleAct A (Says pdu) host = IsReadFrom pdu host

-- what comes in has one command in a PDU, and what is said is read so
abbrev pub AreGentle : {P : Type 0} → Profile P → List (Act Circumstance) → Host P → Type 0
AreGentle A [] host = Unit {0}
AreGentle {P} A (act ∷ acts) host = IsGentleAct A act host × ((mid : Host P) → Does (upper A) act host mid → AreGentle A acts mid)

-- the PDUs that a host heard and said
abbrev pub pdus_in : Talk → List Pdu
pdus_in (Told (Linked event)) = []
pdus_in (Told (Failed status)) = []
pdus_in (Told (Heard pdu)) = record { flow = Into; octets = pdu } ∷ []
pdus_in (Told TimerFired) = []
pdus_in (Told Cancelled) = []
pdus_in (Told (Opening name)) = []
pdus_in (Said pdu) = record { flow = Out; octets = pdu } ∷ []
pdus_in (Unsent pdu) = record { flow = Out; octets = pdu } ∷ []
pdus_in (Met fate checked) = []
pdus_in (Done outcome) = []

-- it lives so that the own talk on its last link is what was told and said since the link came up, but for what was given up
pub record TalksSo {P : Type 0} (A : Profile P) (asks : Asks A) (talk : List Talk) (now : Host P) (on : OnLink (upper A) talk now) : Type 0 where
  pub lives : Lives A asks ((flat_map act_marks on.before ++ Turned Up ∷ []) ++ map Occurred (from_acts on.acts)) now
  pub talk_is : spoken_of (run_of A.policy lives.now).said ≡ flat_map said_by (flat_map pdus_in on.since)
  -- and what it says goes out as its octets
  pub uttered : AreUttered A.policy lives.now

-- So it is of a host on a link of a run of turns, where it has said all. All that is told of how hosts live holds of it with this talk.
abbrev pub HostsTalkInTurns : {P : Type 0} → Profile P → Type 0
HostsTalkInTurns {P} A =
    (asks : Asks A) (talk : List Talk) (now : Host P) (on : OnLink (upper A) talk now) → AreGentle A on.acts (hear A on.gifts (Linked Up) on.old) → next A now ≡ None → HoldsNothingBack A now
    → TalksSo A asks talk now on
