-- One pass over the talk of a link that holds what matters of each channel, and what it has told.
use Rattle.std.specs.Prelude.{ℕ, ◌==◌, Bool, List, [], ◌∷◌, ◌++◌, map, Option, Some, None, if◌then◌else◌}
use Rattle.std.specs.List.{list_any}
use Rattle.link_readers.specs.l2cap_config.specs.declared.wish.Mode.{Mode}
use Rattle.link_readers.specs.l2cap_config.specs.declared.wish.Mode.TheVariants.{Basic}
use Rattle.link_talk.specs.declared.channel.Channel.{Channel}
use Rattle.link_talk.specs.declared.party.Party.{Party}
use Rattle.link_talk.specs.Sayings.{Saying}
use Rattle.link_talk.specs.Meanings.{Meaning}
use Rattle.link_talk.specs.Channels.{Entry, entry_after, fresh, is_owner, made_by}
use Rattle.link_talk.specs.Carriages.{Carriage}
use Rattle.link_talk.specs.Packets.{carrier}
use Rattle.link_readers.specs.Lent.{plain_requests, plain_entry}
use Rattle.link_readers.specs.talk_laws.specs.LinkPass.{KeptChannel, LinkPass, no_pass, entry_of, kept_with}
use Rattle.object_lines.specs.declared.taking.Taken.{Taken}
use Rattle.object_lines.specs.declared.passing.KeptChannel.{KeptChannel as LentChannel}
use Rattle.object_lines.specs.declared.passing.LinkPass.{LinkPass as LentPass}
use Rattle.object_lines.specs.Tallies.{Told, plain_told}
use Rattle.object_lines.specs.Matters.{Matter, no_matter, matter_passing, told_passing, matter_pass, pass_told}
use Rattle.object_lines.specs.Matter.{plain_matter, carriage}

-- what is held of the channels of a link, and what was told of their objects
pub record Telling : Type 0 where
  pub pass : LinkPass Matter
  pub told : List Told

abbrev pub no_telling : Telling
no_telling = record { pass = no_pass Matter; told = [] }

-- one saying more
abbrev pub telling_after : Party → Telling → Saying → Telling
telling_after party telling saying = record { pass = matter_pass party telling.pass saying; told = telling.told ++ pass_told party telling.pass saying }

-- ---- the channel that takes a PDU

abbrev pub has_endpoint : ℕ → Entry → Bool
has_endpoint own entry = entry.channel.own == own

abbrev pub taken_on : Channel → Option Taken → List Carriage
taken_on channel None = []
taken_on channel (Some taken) = if taken.own == channel.own then carriage taken.flow taken.pdu.now ∷ [] else []

abbrev pub taken_mode : Option Taken → Mode
taken_mode None = Basic
taken_mode (Some taken) = taken.mode

-- what is held of a channel with a PDU that is taken, and with a meaning
abbrev pub kept_heard : Party → Option Taken → Meaning → KeptChannel Matter → KeptChannel Matter
kept_heard party taken more one =
    record { entry = entry_after more one.entry; state = matter_passing party (carrier one.entry.channel.psm) (taken_mode taken) one.state (taken_on one.entry.channel taken) }

abbrev pub told_heard : Party → Option Taken → KeptChannel Matter → List Told
told_heard party taken one = told_passing party (carrier one.entry.channel.psm) (taken_mode taken) one.state (taken_on one.entry.channel taken)

-- a channel that a meaning makes stands behind the others
abbrev pub kept_if_free : List (KeptChannel Matter) → Option Channel → List (KeptChannel Matter)
kept_if_free kept None = kept
kept_if_free kept (Some channel) = if list_any (is_owner channel) (map entry_of kept) then kept else kept ++ kept_with no_matter (fresh channel) ∷ []

abbrev pub kept_behind : Meaning → List (KeptChannel Matter) → List (KeptChannel Matter)
kept_behind more kept = kept_if_free kept (made_by more)

-- ---- what a reader holds

abbrev pub kept_entry : LentChannel → Entry
kept_entry one = plain_entry one.entry

abbrev pub kept_entries : List LentChannel → List Entry
kept_entries list = map kept_entry list

abbrev pub plain_kept : LentChannel → KeptChannel Matter
plain_kept one = record { entry = plain_entry one.entry; state = plain_matter one.matter }

abbrev pub plain_pass : LentPass → LinkPass Matter
plain_pass pass = record { requests = plain_requests pass.requests; kept = map plain_kept pass.kept.items }

abbrev pub plain_telling : LentPass → Telling
plain_telling pass = record { pass = plain_pass pass; told = map plain_told pass.found.items }
