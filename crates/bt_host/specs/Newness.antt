-- Hosts to which nothing has happened (this project's own).
use Rattle.std.specs.Prelude.{false, []}
use Rattle.bt_base.specs.declared.settings.Settings.{Settings}
use Rattle.host_link.specs.declared.role.Role.TheVariants.{Server}
use Rattle.push_model.specs.Server.{new_server}
use Rattle.bt_host.specs.Noting.{Noted, unnoted}
use Rattle.bt_host.specs.Serving.{Served}
use Rattle.bt_host.specs.Stacks.{Stacked, fresh_stack}

abbrev pub new_stack : Settings → Stacked (Noted Served)
new_stack settings = fresh_stack Server settings (unnoted (record { server = new_server settings; endpoints = []; breaks = false }))
