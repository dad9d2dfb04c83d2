-- A server that keeps what its inbox is to answer, from its first moment on (this project's own).
use Rattle.std.specs.Prelude.{List, None}
use Rattle.pair_laws.specs.bt_base.specs.declared.settings.Settings.{Settings}
use Rattle.pair_laws.specs.push_laws.specs.Premises.{AllGranted, NoneShort}
use Rattle.pair_laws.specs.world_model.specs.Machines.{Upper}
use Rattle.pair_laws.specs.world_model.specs.Worlds.{World, Happening, Runs, IsAtRest}
use Rattle.pair_laws.specs.host_model.specs.Circumstances.{Circumstance}
use Rattle.pair_laws.specs.host_model.specs.Profiles.{Profile}
use Rattle.pair_laws.specs.host_model.specs.Clients.{ClientProfile}
use Rattle.pair_laws.specs.host_model.specs.Servers.{ServerProfile, server_profile}
use Rattle.pair_laws.specs.host_model.specs.Settings.{SetHost, with_settings, client_machine, server_machine}
use Rattle.pair_laws.specs.Enough.{remembering}
use Rattle.pair_laws.specs.Granted.{granting}

-- It reads what its inbox answers off its own state, and is given no more of it with what it hears.
abbrev pub own_profile : Settings → Profile ServerProfile
own_profile settings = record (server_profile settings None) { given = λ circumstances serving. serving }

abbrev pub own_machine : Upper (SetHost ServerProfile) Circumstance
own_machine = with_settings own_profile

-- what is left of the answers of its inbox are grants, or none of them is want of memory
abbrev pub IsGranting : SetHost ServerProfile → Type 0
IsGranting s = AllGranted s.host.profile.inbox.answers

abbrev pub HasEnough : SetHost ServerProfile → Type 0
HasEnough s = NoneShort s.host.profile.inbox.answers

-- ---- the laws

abbrev pub BothSet : Type 0
BothSet = World (SetHost ClientProfile) (SetHost ServerProfile)

-- What happens to a client and such a server happens to that client and a server that is given its answers with each thing that it hears; and
-- the one world is at rest where the other is.
abbrev pub OwnRunsAreRuns : Type 0
OwnRunsAreRuns = (happenings : List Happening) (old new : BothSet) → Runs client_machine own_machine happenings old new → Runs client_machine server_machine happenings old new

abbrev pub OwnRestsAreRests : Type 0
OwnRestsAreRests = (world : BothSet) → IsAtRest client_machine own_machine world → IsAtRest client_machine server_machine world

-- Where its answers are grants at first, it happens to a server whose inbox grants whatever it is asked.
abbrev pub GrantedRunsAreGranted : Type 0
GrantedRunsAreGranted = (happenings : List Happening) (old new : BothSet) → IsGranting old.b.upper → Runs client_machine own_machine happenings old new → Runs client_machine (granting server_machine) happenings old new

-- And where none of them is want of memory, it happens to one whose inbox does not lack memory.
abbrev pub EnoughRunsAreEnough : Type 0
EnoughRunsAreEnough = (happenings : List Happening) (old new : BothSet) → HasEnough old.b.upper → Runs client_machine own_machine happenings old new → Runs client_machine (remembering server_machine) happenings old new
