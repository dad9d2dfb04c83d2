-- Where a host puts out the same in one order as in rounds (this project's own).
use Rattle.std.specs.Prelude.{◌≡◌, ◌⊎◌, true, false, List, None, Some}
use Rattle.bt_host.specs.shelf_model.specs.h4_framing.specs.Packets.{Packet}
use Rattle.bt_host.specs.host_link.specs.Hearing.{fault_of}
use Rattle.bt_host.specs.host_link.specs.PuttingOut.{can_take_pdu, put_pieces, put_command}
use Rattle.bt_host.specs.host_model.specs.Circumstances.{Circumstance}
use Rattle.bt_host.specs.host_model.specs.Hosts.{hear, has_more}
use Rattle.bt_host.specs.host_model.specs.Profiles.{Profile}
use Rattle.bt_host.specs.shelf_model.specs.world_model.specs.Machines.{News}
use Rattle.bt_host.specs.Stacks.{Standing, Rests, with_host, after_packet, goes_out}
use Rattle.order_laws.specs.Rounds.{EndsInRounds, midway_at, midway_told, midway_heard}

-- Whatever packet a host hears that had done all that it could, it puts out the same octets, and is the same host, as in rounds.
abbrev pub PacketsGoInRounds : Type 0 → Type 0
PacketsGoInRounds S = (A : Profile S) (packet : Packet) (rest : List Circumstance) (now : Standing S) → Rests A now → fault_of packet now.line ≡ None
    → EndsInRounds A (midway_heard A packet rest now) (goes_out A (after_packet A packet rest now))

-- So it is of each of the news that no packet brings.
abbrev pub NewsGoInRounds : Type 0 → Type 0
NewsGoInRounds S = (A : Profile S) (news : News) (rest : List Circumstance) (now : Standing S) → Rests A now → EndsInRounds A (midway_told A rest (Some news) now) (goes_out A (with_host (hear A rest news now.host) now))

-- nothing but a command can go out
pub record LetsCommandAlone {S : Type 0} (now : Standing S) : Type 0 where
  pub pieces : put_pieces now.line ≡ now.line
  pub none_more : can_take_pdu now.line ≡ true → has_more now.host ≡ false

-- And of a host that hears nothing, once octets of it were taken: where no command can go out, or nothing else can.
abbrev pub HeldBackGoInRounds : Type 0 → Type 0
HeldBackGoInRounds S = (A : Profile S) (now : Standing S) → (put_command now.line ≡ now.line) ⊎ LetsCommandAlone now → EndsInRounds A (midway_at now) (goes_out A now)
