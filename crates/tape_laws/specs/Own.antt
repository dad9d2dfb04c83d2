-- A server that keeps what its inbox is to answer is one with a tape of that (this project's own).
use Rattle.std.specs.Prelude.{◌≡◌, ◌⊎◌, Bool, true, List, Option}
use Rattle.inbox_laws.specs.bt_base.specs.declared.settings.Settings.{Settings}
use Rattle.inbox_laws.specs.bt_base.specs.Objects.{Contents}
use Rattle.inbox_laws.specs.obex_session.specs.InboxCalls.{Answer}
use Rattle.inbox_laws.specs.world_model.specs.Machines.{Upper}
use Rattle.inbox_laws.specs.world_model.specs.Worlds.{World, Happening, Runs}
use Rattle.inbox_laws.specs.alike_laws.specs.Twins.{WorldsAlike, world_with}
use Rattle.inbox_laws.specs.host_model.specs.Hosts.{Host, first_host}
use Rattle.inbox_laws.specs.host_model.specs.Machines.{upper}
use Rattle.inbox_laws.specs.host_model.specs.Profiles.{Profile}
use Rattle.inbox_laws.specs.host_model.specs.Servers.{ServerProfile, server_profile}
use Rattle.tape_laws.specs.Once.{once}
use Rattle.tape_laws.specs.Taped.{Taped, taped, untaped_host}

abbrev pub own_first : Settings → Option Contents → List Answer → ServerProfile
own_first settings content answers = record ((server_profile settings content).first) { inbox = record { content = content; answers = answers } }

-- it has these answers from its first moment on, and is given no more
abbrev pub own_server : Settings → Option Contents → List Answer → Profile ServerProfile
own_server settings content answers = record (server_profile settings content) { first = own_first settings content answers; given = λ circumstances serving. serving }

abbrev pub taped_server : Settings → Option Contents → List Answer → Profile (Taped ServerProfile Bool)
taped_server settings content answers = taped (server_profile settings content) (once answers)

-- both are the same once the tape has run, or both have heard nothing yet
abbrev pub AreOneServer : Settings → Option Contents → List Answer → Host ServerProfile → Host (Taped ServerProfile Bool) → Type 0
AreOneServer settings content answers own host = ((own ≡ untaped_host host) × (host.profile.at ≡ true)) ⊎ ((own ≡ first_host (own_server settings content answers)) × (host ≡ first_host (taped_server settings content answers)))

-- ---- the law

-- What happens to it and to any machine happens where it has that tape.
abbrev pub OwnServersAreTaped : {S G : Type 0} → Upper S G → Type 0
OwnServersAreTaped {S} {G} U =
    (settings : Settings) (content : Option Contents) (answers : List Answer) (happenings : List Happening) (old new : World S (Host ServerProfile)) → old.b.upper ≡ first_host (own_server settings content answers)
    → Runs U (upper (own_server settings content answers)) happenings old new
    → (there : World S (Host (Taped ServerProfile Bool))) × WorldsAlike (λ (s t : S). t ≡ s) (AreOneServer settings content answers) new there
    × Runs U (upper (taped_server settings content answers)) happenings (world_with old.a.upper (first_host (taped_server settings content answers)) old) there
