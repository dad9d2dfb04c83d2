-- What the inbox gains where its calls fail and where one packet at most has a Name on each channel of a server, over either transport; and so of what is
-- pushed over RFCOMM (IrOBEX 1.5, 3.4.3; Object Push Profile 1.2, 4.3).
use Rattle.std.specs.Prelude.{ℕ, ◌≡◌, ◌≤◌, ◌+◌, ◌⊎◌, List, [], ◌∷◌, ◌++◌, Option, Some, None}
use Rattle.std.specs.List.{AllByRecursion}
use Rattle.link_talk.specs.bt_base.specs.declared.settings.Settings.{Settings}
use Rattle.link_talk.specs.bt_base.specs.declared.settings.Transport.{Transport}
use Rattle.link_talk.specs.bt_base.specs.Objects.{Object}
use Rattle.push_model.specs.obex_headers.specs.Packets.{PlainPacket}
use Rattle.push_model.specs.obex_headers.specs.Runs.{names}
use Rattle.link_talk.specs.ObjectsHeard.{put_within}
use Rattle.push_model.specs.Client.{own_maximum}
use Rattle.push_model.specs.Sessions.{other_of}
use Rattle.push_model.specs.Server.{Reacted}
use Rattle.push_laws.specs.Faults as faulty
use Rattle.push_laws.specs.Faults.{Marked, unmarked, mark_of, faults_of, spent_from}
use Rattle.push_laws.specs.Gains.{objects_with}
use Rattle.push_laws.specs.Laws.{new_over, GainsBut}
use Rattle.push_laws.specs.Losing.{GainsLess}
use Rattle.push_laws.specs.Occurrences.{Occurrence, Came, Went, Closed, LinkDown, Asked, Answering, done}
use Rattle.push_laws.specs.Parties.{Push, IsOffered, over_pushes, AllServeDirectly}
use Rattle.push_laws.specs.Premises.{NoneShort, AllMayFail, AllMayMiss}
use Rattle.push_laws.specs.Readings.{packets_over}
use Rattle.push_laws.specs.Searches.{IsPushedOver, AllServe}

-- ---- one Name

abbrev pub Unnamed : Option PlainPacket → Type 0
Unnamed None = Unit {0}
Unnamed (Some put) = names put.headers ≡ []

-- none of them is a PUT with a Name
abbrev pub NoNames : ℕ → List (List ℕ) → Type 0
NoNames most packets = AllByRecursion (λ (packet : List ℕ). Unnamed (put_within most packet)) packets

-- packets that are no PUT, one that may have a Name, and others that have none; or a front of these
abbrev pub HasOneName : ℕ → List (List ℕ) → Type 0
HasOneName most [] = Unit {0}
HasOneName most (packet ∷ packets) = ((put_within most packet ≡ None) × HasOneName most packets) ⊎ NoNames most packets

-- The packets that were heard over a transport since its channel was last closed are such, and over the other one none was heard.
pub record IsNamedOnce (settings : Settings) (transport : Transport) (past : List Occurrence) : Type 0 where
  pub alone : packets_over (other_of transport) past ≡ []
  pub once : HasOneName (own_maximum transport settings) (packets_over transport past)

-- behind each occurrence
abbrev pub AllNamedOnce : Settings → Transport → List Occurrence → List Occurrence → Type 0
AllNamedOnce settings transport past [] = Unit {0}
AllNamedOnce settings transport past (one ∷ rest) = IsNamedOnce settings transport (past ++ one ∷ []) × AllNamedOnce settings transport (past ++ one ∷ []) rest

-- ---- what is left out

-- with an occurrence is gained what is spelled with it, or nothing
abbrev pub IsKeptOrLeft : Settings → List Marked → Reacted → Occurrence → Type 0
IsKeptOrLeft settings past at one =
    (faulty.objects_with settings past (mark_of (unmarked past) at one) ≡ []) ⊎ (faulty.objects_with settings past (mark_of (unmarked past) at one) ≡ objects_with settings (unmarked past) one)

abbrev pub AllKeptOrLeft : Settings → List Marked → Reacted → List Occurrence → Type 0
AllKeptOrLeft settings past at [] = Unit {0}
AllKeptOrLeft settings past at (one ∷ rest) = IsKeptOrLeft settings past at one × AllKeptOrLeft settings (past ++ mark_of (unmarked past) at one ∷ []) (done one at) rest

-- the faults that the inbox is told to answer with
abbrev pub faults_in : Occurrence → ℕ
faults_in (Came psm sdu) = 0
faults_in (Went psm sdu) = 0
faults_in (Closed psm) = 0
faults_in LinkDown = 0
faults_in Asked = 0
faults_in (Answering answers) = faults_of answers

abbrev pub faults_told : List Occurrence → ℕ
faults_told [] = 0
faults_told (one ∷ rest) = faults_in one + faults_told rest

-- The inbox gained what each occurrence kept. So the last packet of an object tells whether it is kept: success is said to it exactly there.
pub record TellsEach (settings : Settings) (before : List Object) (occurrences : List Occurrence) : Type 0 where
  pub but : GainsBut settings before occurrences
  pub each : AllKeptOrLeft settings [] (new_over settings before) occurrences

-- It gained less by one object at most for each fault, and its calls used up no more faults than it was told.
pub record LosesByFaults (settings : Settings) (before : List Object) (occurrences : List Occurrence) : Type 0 where
  pub less : GainsLess settings before occurrences
  pub few : spent_from (new_over settings before) occurrences ≤ faults_told occurrences
  pub tells : TellsEach settings before occurrences

-- ---- the laws

-- Where one packet at most has a Name on each channel and the inbox does not lack memory, each object is kept or left out so.
abbrev pub NamedOnceTellEach : Type 0
NamedOnceTellEach = (settings : Settings) (before : List Object) (transport : Transport) (occurrences : List Occurrence) → AllMayMiss settings [] (new_over settings before) occurrences → AllNamedOnce settings transport [] occurrences
    → TellsEach settings before occurrences

-- So it is push after push over L2CAP, of objects of any size and in any mode.
abbrev pub PushesTellEach : Type 0
PushesTellEach = (settings : Settings) (before : List Object) (pushes : List Push) (last : Push) → AllByRecursion IsOffered pushes → IsOffered last → AllServeDirectly NoneShort (new_over settings before) (over_pushes pushes last)
    → TellsEach settings before (over_pushes pushes last)

-- Where besides no request is ignored, it gains what is spelled, but for one object at most for each fault.
abbrev pub NamedOnceGainLess : Type 0
NamedOnceGainLess = (settings : Settings) (before : List Object) (transport : Transport) (occurrences : List Occurrence) → AllMayFail settings [] (new_over settings before) occurrences → AllNamedOnce settings transport [] occurrences
    → LosesByFaults settings before occurrences

-- So it does push after push over RFCOMM, whatever becomes of the pushes. Of these no more is asked than where the inbox grants all calls.
abbrev pub PushedGainLess : Type 0
PushedGainLess = (settings : Settings) (before : List Object) (pushes : List Push) (last : Push) → AllByRecursion IsPushedOver pushes → IsPushedOver last → AllServe NoneShort (new_over settings before) (over_pushes pushes last)
    → LosesByFaults settings before (over_pushes pushes last)
