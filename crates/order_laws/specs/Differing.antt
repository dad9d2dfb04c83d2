-- Where both a command and PDUs were held back, as for want of room, the two orders may differ: but where room is left, in the place of the command alone
-- (this project's own).
use Rattle.std.specs.Prelude.{ℕ, ◌≡◌, true, false, List, [], ◌∷◌, ◌++◌, Option, Some, None}
use Rattle.bt_host.specs.shelf_model.specs.h4_framing.specs.Packets.{spelling}
use Rattle.bt_host.specs.channel_model.specs.Policies.{Policy}
use Rattle.bt_host.specs.channel_model.specs.Value.{Answer, Channels, no_channels}
use Rattle.bt_host.specs.channel_model.specs.l2cap_signal.specs.Commands.{echo_response}
use Rattle.bt_host.specs.host_link.specs.declared.role.Role.TheVariants.{Client}
use Rattle.bt_host.specs.host_link.specs.declared.host_command.HostCommand.{HostCommand}
use Rattle.bt_host.specs.host_link.specs.declared.host_command.HostCommand.TheVariants.{Reset}
use Rattle.bt_host.specs.host_link.specs.CommandFlows.{next_command}
use Rattle.bt_host.specs.host_link.specs.HostCommands.{command_packet}
use Rattle.bt_host.specs.host_link.specs.Lines.{fresh}
use Rattle.bt_host.specs.host_link.specs.PuttingOut.{has_room}
use Rattle.bt_host.specs.host_model.specs.Circumstances.{Circumstance}
use Rattle.bt_host.specs.host_model.specs.Profiles.{Profile}
use Rattle.bt_host.specs.shelf_model.specs.world_model.specs.Machines.{News}
use Rattle.bt_host.specs.Stacks.{Standing, usual_peer, with_host, with_line, goes_out}
use Rattle.bt_host.specs.Uppers.{hears_told}
use Rattle.order_laws.specs.Rounds.{EndsInRounds, midway_at, midway_told}

-- a profile that never does anything
abbrev pub idle_profile : Policy → Profile (Unit {0})
idle_profile rules = record {
  policy = rules;
  first = tt;
  given = λ circumstances profile. profile;
  told = λ circumstances news profile. profile;
  received = λ own psm sdu profile. profile;
  happened = λ event channels profile. profile;
  sent = λ channels profile. profile;
  steps = λ channels profile. record { channels = channels; profile = profile; more = false };
  wants_link = λ profile. false;
  leaves_link = λ profile. false;
  is_idle = λ profile. true;
  outcome = λ profile. None;
  armed = λ profile. false;
  may_cancel = λ profile. false;
}

-- two answers to echo requests wait, and a command; there is room for all three, and a buffer for each answer
abbrev pub two_echoes : Channels
two_echoes = record no_channels { queue = Answer (record { identifier = 1; content = echo_response [] }) ∷ Answer (record { identifier = 2; content = echo_response [] }) ∷ [] }

abbrev pub waiting_together : Standing (Unit {0})
waiting_together = record {
  line = record (fresh Client) { commands = record { waiting = Reset ∷ []; awaited = None; number = 1 }; ledger = record { total = 2; held = None }; link = Some 1 };
  host = record { channels = two_echoes; profile = tt; may_say = 2 };
  paged = usual_peer;
}

-- In one order both PDUs come ahead of the command, and in rounds it comes between them.
abbrev pub OrdersMayDiffer : Type 0
OrdersMayDiffer = (rules : Policy) → EndsInRounds (idle_profile rules) (midway_at waiting_together) (goes_out (idle_profile rules) waiting_together) → ⊥

-- ---- where room is left

abbrev pub with_out : {S : Type 0} → List ℕ → Standing S → Standing S
with_out octets now = with_line (λ line. record line { out = octets }) now

abbrev pub octets_of_command : Option HostCommand → List ℕ
octets_of_command None = []
octets_of_command (Some command) = spelling (command_packet command)

-- The one put the command out last, and the other some of these octets behind it; nothing else differs.
pub record DiffersInPlace {S : Type 0} (command : Option HostCommand) (one other : Standing S) : Type 0 where
  pub front : List ℕ
  pub back : List ℕ
  pub one_is : one.line.out ≡ (front ++ back) ++ octets_of_command command
  pub other_is : other ≡ with_out (front ++ (octets_of_command command ++ back)) one

-- Whatever was held back, and whatever a host then hears, or nothing: where room is left behind all that goes out, no more than the place of the command that
-- could go out may differ.
abbrev pub RoomSuffices : Type 0 → Type 0
RoomSuffices S = (A : Profile S) (rest : List Circumstance) (told : Option News) (now : Standing S)
    → (let one = goes_out A (with_host (hears_told A rest told now.host) now) in has_room one.line ≡ true → (other : Standing S) × EndsInRounds A (midway_told A rest told now) other × DiffersInPlace (next_command now.line.commands) one other)
