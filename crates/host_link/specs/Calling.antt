-- Which commands end a link (Core 5.1, Volume 2 Part E, 7.1.6).
use Rattle.std.specs.Prelude.{Bool, true, false, not, ◌&&◌, is_some}
use Rattle.std.specs.List.{list_any}
use Rattle.host_link.specs.declared.host_command.HostCommand.{HostCommand}
use Rattle.host_link.specs.declared.host_command.HostCommand.TheVariants.{Disconnect}
use Rattle.host_link.specs.Lines.{Line}

abbrev pub ends : HostCommand → Bool
ends (Disconnect handle) = true
ends command = false

-- a link is up and was not ended, and no Disconnect of a link before waits to be put out
abbrev pub may_end : Line → Bool
may_end line = is_some line.link && (not line.ending && not (list_any ends line.commands.waiting))
