-- A host that goes on by itself in rounds. In each its pieces that wait go out, then the next PDU that its channels have, then a command; and where its
-- channels have no PDU then, its profile takes its next step (Core 5.1, Volume 2 Part E, 4.1.1 and 4.4; the order is this project's own).
use Rattle.std.specs.Prelude.{ℕ, zero, suc, ◌≡◌, List, Option, Some, None, is_some, if◌then◌else◌}
use Rattle.bt_host.specs.shelf_model.specs.h4_framing.specs.Packets.{Packet}
use Rattle.bt_host.specs.channel_model.specs.Giving.{Given, next_given, after_given}
use Rattle.bt_host.specs.host_link.specs.Hearing.{news_of, heard}
use Rattle.bt_host.specs.host_link.specs.Lines.{Line}
use Rattle.bt_host.specs.host_link.specs.PuttingOut.{can_take_pdu, take_pdu, put_pieces, put_command}
use Rattle.bt_host.specs.host_model.specs.Circumstances.{Circumstance}
use Rattle.bt_host.specs.host_model.specs.Hosts.{Host, with_channels, settles, strides, most_steps, hears_news, ready, says_frame, steps_behind}
use Rattle.bt_host.specs.host_model.specs.Pdus.{pdu_of}
use Rattle.bt_host.specs.host_model.specs.Profiles.{Stride, Profile}
use Rattle.bt_host.specs.shelf_model.specs.world_model.specs.Machines.{News}
use Rattle.bt_host.specs.Stacks.{Standing, with_line, with_host, leaves, pages}
use Rattle.bt_host.specs.Uppers.{told_of}

-- a host between two rounds, and how many steps its profile may still be asked for; with none it waits
pub record Midway (S : Type 0) : Type 0 where
  pub now : Standing S
  pub steps : ℕ

abbrev pub on_line : {S : Type 0} → (Line → Line) → Midway S → Midway S
on_line change midway = record midway { now = with_line change midway.now }

-- ---- the next PDU of its channels

-- the channels gave it, and no step of the profile was asked for since
abbrev pub given_alone : {S : Type 0} → Profile S → Option Given → (may_say : ℕ) → Host S → Option (List ℕ × Host S)
given_alone A None count host = None
given_alone A (Some given) zero host = None
given_alone A (Some given) (suc count) host = says_frame (pdu_of given) (record (settles A (with_channels (after_given host.channels) host)) { may_say = count })

abbrev pub with_given : {S : Type 0} → Option (List ℕ × Host S) → Midway S → Midway S
with_given None midway = midway
with_given (Some (pdu, host)) midway = record { now = record midway.now { line = take_pdu pdu midway.now.line; host = host }; steps = steps_behind host.may_say }

-- it is said where it may be taken
abbrev pub says_given : {S : Type 0} → Profile S → Midway S → Midway S
says_given A midway =
    let host = midway.now.host in if can_take_pdu midway.now.line then with_given (given_alone A (next_given host.channels) host.may_say host) midway else midway

-- ---- the next step of its profile

abbrev pub with_stride : {S : Type 0} → Profile S → (left : ℕ) → Stride S → Standing S → Midway S
with_stride A left stride now =
    if stride.more then record { now = with_host (settles A (strides A stride now.host)) now; steps = left } else record { now = with_host (strides A stride now.host) now; steps = 0 }

-- where its channels have no PDU
abbrev pub takes_step : {S : Type 0} → Profile S → (steps : ℕ) → Standing S → Midway S
takes_step A zero now = record { now = now; steps = 0 }
takes_step A (suc left) now =
    if is_some (next_given now.host.channels) then record { now = now; steps = suc left } else with_stride A left (A.steps now.host.channels now.host.profile) now

-- ---- rounds

abbrev pub steps_on : {S : Type 0} → Profile S → Midway S → Midway S
steps_on A midway = takes_step A midway.steps midway.now

abbrev pub goes_round : {S : Type 0} → Profile S → Midway S → Midway S
goes_round A midway = steps_on A (on_line put_command (says_given A (on_line put_pieces midway)))

unfoldable pub goes_rounds : {S : Type 0} → Profile S → (count : ℕ) → Midway S → Midway S
goes_rounds A zero midway = midway
goes_rounds A (suc count) midway = goes_rounds A count (goes_round A midway)

-- Round after round, until one changes nothing; then the end of its link, or a link, is asked for where its profile wants that, and so may be a command that
-- goes out last.
pub record EndsInRounds {S : Type 0} (A : Profile S) (midway : Midway S) (new : Standing S) : Type 0 where
  pub count : ℕ
  pub last : Midway S
  pub rounds : goes_rounds A count midway ≡ last
  pub still : goes_round A last ≡ last
  pub behind : new ≡ with_line put_command (pages A (leaves A last.now))

-- ---- where they begin

-- nothing was heard
abbrev pub midway_at : {S : Type 0} → Standing S → Midway S
midway_at now = record { now = now; steps = 0 }

-- news were heard, and no step of the profile was asked for since
abbrev pub midway_told : {S : Type 0} → Profile S → List Circumstance → Option News → Standing S → Midway S
midway_told A rest None now = midway_at now
midway_told A rest (Some news) now = record { now = with_host (settles A (hears_news A rest news (ready A rest now.host))) now; steps = most_steps }

-- a packet was heard
abbrev pub midway_heard : {S : Type 0} → Profile S → Packet → List Circumstance → Standing S → Midway S
midway_heard A packet rest old = midway_told A rest (told_of (news_of packet old.line)) (record old { line = heard packet old.line })
