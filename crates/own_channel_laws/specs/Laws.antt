-- The local law of channels.
use Rattle.std.specs.Prelude.{ℕ, ◌≡◌, ◌≤◌, List, None}
use Rattle.talk_laws.specs.link_talk.specs.Channels.{reading}
use Rattle.channel_model.specs.Policies.{Policy}
use Rattle.channel_model.specs.Changing.{held_at}
use Rattle.own_channel_laws.specs.Runs.{Occurrence, Run, run_of}
use Rattle.own_channel_laws.specs.Views.{IsRead, read_at}

-- Whatever a host offers and wishes, and whatever happens: what it holds of each of its endpoints is what its own talk says.
abbrev pub ChannelsAreRead : Type 0
ChannelsAreRead = (policy : Policy) (list : List Occurrence) (own : ℕ) → IsRead policy (held_at own (run_of policy list).value) (read_at own (reading (run_of policy list).said).entries)

-- The endpoint that is given next has never been that of a channel, on the talk or with the host.
pub record IsUngiven (run : Run) : Type 0 where
  pub high : 0x0040 ≤ run.value.next
  pub unheld : held_at run.value.next run.value ≡ None
  pub unread : read_at run.value.next (reading run.said).entries ≡ None

abbrev pub EndpointsAreNew : Type 0
EndpointsAreNew = (policy : Policy) (list : List Occurrence) → IsUngiven (run_of policy list)
