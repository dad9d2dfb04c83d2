-- Responses as they are kept.
use Rattle.std.specs.Prelude.{take}
use Rattle.l2cap_signal.specs.Commands.{Content}
use Rattle.l2cap_channels.specs.declared.response.Response.{Response}
use Rattle.l2cap_channels.specs.Heads.{said}

abbrev pub response_value : Response → Content
response_value response = said response.head (take response.size response.octets)
