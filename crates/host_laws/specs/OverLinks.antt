-- What a host does over all links of a run of turns, and what moved on each of them.
use Rattle.std.specs.Prelude.{ℕ, ◌≡◌, Bool, true, false, List, [], ◌∷◌, ◌++◌, map, if◌then◌else◌}
use Rattle.std.specs.List.{AllByRecursion, AllZip, filter_map, flat_map}
use Rattle.shelf_model.specs.capture.specs.declared.flow.Flow.TheVariants.{Out, Into}
use Rattle.push_laws.specs.link_talk.specs.Sayings.{Saying, Command, Carried, GaveUp, said_by}
use Rattle.channel_laws.specs.channel_model.specs.Policies.{Policy}
use Rattle.channel_laws.specs.Runs.{Occurrence, Comes, Gives, run_of}
use Rattle.shelf_model.specs.world_model.specs.Machines.{Up, Down, Linked, Heard, Upper}
use Rattle.shelf_model.specs.world_model.specs.Talks.{Talk, Told, Said, Unsent, Met, Done}
use Rattle.shelf_model.specs.world_model.specs.Turns.{Step, Pair, Passes, first_pair}
use Rattle.shelf_model.specs.host_model.specs.Circumstances.{Circumstance}
use Rattle.shelf_model.specs.host_model.specs.Profiles.{Profile}
use Rattle.shelf_model.specs.host_model.specs.Hosts.{Host, first_host}
use Rattle.shelf_model.specs.host_model.specs.Machines.{upper}
use Rattle.host_laws.specs.Acts.{Act, Hears, Says, Does, Acting, from_news}
use Rattle.host_laws.specs.Calls.{Asks, outer}
use Rattle.host_laws.specs.Calm.{IsCalmAct, IsGentleAct, pdus_in}
use Rattle.host_laws.specs.Lives.{Mark, Occurred, Turned, news_marks, Lives, on_links}
use Rattle.host_laws.specs.Seen.{spoken_of}
use Rattle.host_laws.specs.Turning.{deed_of, deeds_in, IsActInQuiet}

-- ---- the machine

-- whether a link is up behind an act
abbrev pub is_up_behind : {G : Type 0} → Bool → Act G → Bool
is_up_behind up (Hears gifts (Linked Up)) = true
is_up_behind up (Hears gifts (Linked (Down reason))) = false
is_up_behind up (Hears gifts news) = up
is_up_behind up (Says pdu) = up

-- a PDU is heard while a link is up, a link comes up while none is, and goes down while it is up
abbrev pub IsTimely : {G : Type 0} → (up : Bool) → Act G → Type 0
IsTimely up (Hears gifts (Linked Up)) = up ≡ false
IsTimely up (Hears gifts (Linked (Down reason))) = up ≡ true
IsTimely up (Hears gifts (Heard pdu)) = up ≡ true
IsTimely up (Hears gifts news) = Unit {0}
IsTimely up (Says pdu) = Unit {0}

-- and while a link is up it hears PDUs, and its timer fires, where it has said all
pub record IsInTurn {S G : Type 0} (U : Upper S G) (up : Bool) (act : Act G) (now : S) : Type 0 where
  pub timely : IsTimely up act
  pub in_quiet : up ≡ true → IsActInQuiet U act now

abbrev pub AreInTurn : {S G : Type 0} → Upper S G → (up : Bool) → List (Act G) → S → Type 0
AreInTurn U up [] now = Unit {0}
AreInTurn {S} U up (act ∷ acts) now = IsInTurn U up act now × ((next : S) → Does U act now next → AreInTurn U (is_up_behind up act) acts next)

-- what it did from its first moment on, that is told and said so
pub record OverLinks {S G : Type 0} (U : Upper S G) (talk : List Talk) (now : S) : Type 0 where
  pub acts : List (Act G)
  pub acting : Acting U acts U.first now
  pub deeds_are : map deed_of acts ≡ flat_map deeds_in talk
  pub in_turn : AreInTurn U false acts U.first

-- So it is of both hosts, in every run of turns.
pub record BothOverLinks {S T G H : Type 0} (U : Upper S G) (V : Upper T H) (pair : Pair S T) : Type 0 where
  pub a : OverLinks U pair.a.talk pair.a.upper
  pub b : OverLinks V pair.b.talk pair.b.upper

abbrev pub AllLinksAreActs : {S T G H : Type 0} → Upper S G → Upper T H → Type 0
AllLinksAreActs {S} {T} U V = (size : ℕ) (names : List (List ℕ)) (steps : List Step) (pair : Pair S T) → Passes U V steps (first_pair U V size names) pair → BothOverLinks U V pair

-- ---- the talk of each link

abbrev pub turns_link : Talk → Bool
turns_link (Told (Linked event)) = true
turns_link (Told news) = false
turns_link (Said pdu) = false
turns_link (Unsent pdu) = false
turns_link (Met fate checked) = false
turns_link (Done outcome) = false

abbrev pub parts_from : (part talk : List Talk) → List (List Talk)
parts_from part [] = part ∷ []
parts_from part (one ∷ talk) = if turns_link one then part ∷ parts_from [] talk else parts_from (part ++ one ∷ []) talk

-- what was told and said up to each time that a link came up or went down, and what stands behind the last of them
abbrev pub parts : List Talk → List (List Talk)
parts talk = parts_from [] talk

-- what the PDUs say that a host heard and said there
abbrev pub moved_in : List Talk → List Saying
moved_in part = flat_map said_by (flat_map pdus_in part)

abbrev pub talk_marks : Talk → List Mark
talk_marks (Told news) = news_marks news
talk_marks (Said pdu) = Occurred (Gives pdu) ∷ []
talk_marks (Unsent pdu) = Occurred (Gives pdu) ∷ []
talk_marks (Met fate checked) = []
talk_marks (Done outcome) = []

-- the same of marks: a PDU comes in while a link is up, a link comes up while none is, and goes down while it is up
abbrev pub AreTimely : (up : Bool) → List Mark → Type 0
AreTimely up [] = Unit {0}
AreTimely up (Occurred (Comes pdu) ∷ marks) = (up ≡ true) × AreTimely up marks
AreTimely up (Occurred one ∷ marks) = AreTimely up marks
AreTimely up (Turned Up ∷ marks) = (up ≡ false) × AreTimely true marks
AreTimely up (Turned (Down reason) ∷ marks) = (up ≡ true) × AreTimely false marks

abbrev pub GoesOut : Saying → Type 0
GoesOut (Command Out answer) = Unit {0}
GoesOut (Command Into answer) = ⊥
GoesOut (Carried Out pdu) = Unit {0}
GoesOut (Carried Into pdu) = ⊥
GoesOut (GaveUp forgone) = ⊥

-- what talk is for the channels of its link
abbrev pub talk_outer : Talk → List Occurrence
talk_outer (Told news) = from_news news
talk_outer (Said pdu) = Gives pdu ∷ []
talk_outer (Unsent pdu) = Gives pdu ∷ []
talk_outer (Met fate checked) = []
talk_outer (Done outcome) = []

-- The own talk of a link is what moved on it, but for what was given up; and behind it what the host let wait, and did not say before
-- the link was gone.
pub record IsTalkOf (policy : Policy) (list : List Occurrence) (part : List Talk) : Type 0 where
  pub outer_is : filter_map outer list ≡ flat_map talk_outer part
  pub waits : List Saying
  pub talk_is : spoken_of (run_of policy list).said ≡ moved_in part ++ waits
  pub go_out : AllByRecursion GoesOut waits

-- ---- the laws

-- what comes in has one command in a PDU, and what is said is read so; where no link is up nothing waits besides
abbrev pub IsGentleUp : {P : Type 0} → Profile P → (up : Bool) → Act Circumstance → Host P → Type 0
IsGentleUp A true act host = IsGentleAct A act host
IsGentleUp A false act host = IsCalmAct A act host

abbrev pub AreGentleUp : {P : Type 0} → Profile P → (up : Bool) → List (Act Circumstance) → Host P → Type 0
AreGentleUp A up [] host = Unit {0}
AreGentleUp {P} A up (act ∷ acts) host = IsGentleUp A up act host × ((mid : Host P) → Does (upper A) act host mid → AreGentleUp A (is_up_behind up act) acts mid)

-- a host lives so that its talk falls to its links
pub record TalksOverLinks {P : Type 0} (A : Profile P) (asks : Asks A) (talk : List Talk) (now : Host P) : Type 0 where
  pub lives : Lives A asks (flat_map talk_marks talk) now
  pub timely : AreTimely false (flat_map talk_marks talk)
  pub talks_are : AllZip (IsTalkOf A.policy) (on_links A asks (flat_map talk_marks talk) now lives) (parts talk)

-- So it is of every host of a run of turns, at each moment of it.
abbrev pub HostsTalkOverLinks : {P : Type 0} → Profile P → Type 0
HostsTalkOverLinks {P} A = (asks : Asks A) (talk : List Talk) (now : Host P) (over : OverLinks (upper A) talk now) → AreGentleUp A false over.acts (first_host A) → TalksOverLinks A asks talk now
