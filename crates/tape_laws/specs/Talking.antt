-- What a host with a tape does over its links (this project's own).
use Rattle.std.specs.Prelude.{List}
use Rattle.inbox_laws.specs.world_model.specs.Talks.{Talk}
use Rattle.inbox_laws.specs.host_model.specs.Hosts.{Host}
use Rattle.inbox_laws.specs.host_model.specs.Machines.{upper}
use Rattle.inbox_laws.specs.host_model.specs.Profiles.{Profile}
use Rattle.inbox_laws.specs.host_laws.specs.OverLinks.{OverLinks}
use Rattle.tape_laws.specs.Runs.{HearsNewsAlone}
use Rattle.tape_laws.specs.Taped.{Tape, Taped, taped, untaped_host}

-- By what it did from its first moment on, that is told and said so, one without a tape comes to where it is.
abbrev pub TapedHostsComeSo : {P T : Type 0} → Profile P → Tape P T → Type 0
TapedHostsComeSo {P} {T} A tape = HearsNewsAlone A → (talk : List Talk) (now : Host (Taped P T)) → OverLinks (upper (taped A tape)) talk now → OverLinks (upper A) talk (untaped_host now)
