-- What happens to a host with a tape happens to one without it (this project's own).
use Rattle.std.specs.Prelude.{◌≡◌, List}
use Rattle.inbox_laws.specs.world_model.specs.Machines.{News, Upper}
use Rattle.inbox_laws.specs.world_model.specs.Worlds.{World, Happening, Runs}
use Rattle.inbox_laws.specs.alike_laws.specs.Twins.{world_with}
use Rattle.inbox_laws.specs.host_model.specs.Circumstances.{Circumstance}
use Rattle.inbox_laws.specs.host_model.specs.Hosts.{Host, hear}
use Rattle.inbox_laws.specs.host_model.specs.Machines.{upper}
use Rattle.inbox_laws.specs.host_model.specs.Profiles.{Profile}
use Rattle.tape_laws.specs.Taped.{Tape, Taped, taped, untaped_host}

-- what a profile makes of news hangs on the news alone, as a server's does
abbrev pub HearsNewsAlone : {P : Type 0} → Profile P → Type 0
HearsNewsAlone {P} A = (one other : List Circumstance) (news : News) (p : P) → A.told one news p ≡ A.told other news p

-- a host with a tape hears as one without it that is given what the tape tells
abbrev pub TapedHostsHearSo : {P T : Type 0} → Profile P → Tape P T → Type 0
TapedHostsHearSo {P} {T} A tape = HearsNewsAlone A → (circumstances : List Circumstance) (news : News) (host : Host (Taped P T))
    → untaped_host (hear (taped A tape) circumstances news host) ≡ hear A (tape.gives host.profile.at host.profile.profile) news (untaped_host host)

abbrev pub untaped_world : {S P T : Type 0} → World S (Host (Taped P T)) → World S (Host P)
untaped_world world = world_with world.a.upper (untaped_host world.b.upper) world

-- So what happens to it and to any machine happens where it has no tape.
abbrev pub TapedRunsAreRuns : {S G P T : Type 0} → Upper S G → Profile P → Tape P T → Type 0
TapedRunsAreRuns {S} {G} {P} {T} U A tape = HearsNewsAlone A → (happenings : List Happening) (old new : World S (Host (Taped P T))) → Runs U (upper (taped A tape)) happenings old new → Runs U (upper A) happenings (untaped_world old) (untaped_world new)
