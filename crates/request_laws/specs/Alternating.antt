-- Links of a host come up and go down in turn (this project's own).
use Rattle.std.specs.Prelude.{◌≡◌, List, [], ◌∷◌, Option}
use Rattle.pair_laws.specs.bt_base.specs.declared.settings.Settings.{Settings}
use Rattle.pair_laws.specs.bt_base.specs.Objects.{Contents}
use Rattle.pair_laws.specs.world_model.specs.Machines.{Up}
use Rattle.pair_laws.specs.world_model.specs.Talks.{Talk}
use Rattle.pair_laws.specs.host_model.specs.Clients.{ClientProfile, client_profile}
use Rattle.pair_laws.specs.host_model.specs.Hosts.{Host}
use Rattle.pair_laws.specs.host_model.specs.Servers.{ServerProfile, server_profile}
use Rattle.pair_laws.specs.host_laws.specs.Calls.{Asks}
use Rattle.pair_laws.specs.host_laws.specs.Lives.{Span}
use Rattle.pair_laws.specs.host_laws.specs.OverLinks.{TalksOverLinks}
use Rattle.request_laws.specs.BothFed.{IsDown}

-- the first time that the host hears of its link is that one comes up, then that it goes down, and so on
abbrev pub Alternate : List Span → Type 0
Alternate [] = Unit {0}
Alternate (up ∷ []) = up.event ≡ Up
Alternate (up ∷ down ∷ spans) = (up.event ≡ Up) × IsDown down.event × Alternate spans

-- So it is of both hosts over all their links, at each moment.
pub record LinksAlternate : Type 0 where
  pub clients : (settings : Settings) (asks : Asks (client_profile settings)) (talk : List Talk) (now : Host ClientProfile) (so : TalksOverLinks (client_profile settings) asks talk now) → Alternate so.lives.spans
  pub servers : (settings : Settings) (content : Option Contents) (asks : Asks (server_profile settings content)) (talk : List Talk) (now : Host ServerProfile) (so : TalksOverLinks (server_profile settings content) asks talk now) → Alternate so.lives.spans
