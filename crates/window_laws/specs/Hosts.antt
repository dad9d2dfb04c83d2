-- That a host holds its window on each enhanced channel, whatever comes in (Core 5.1, Volume 3 Part A, 5.4, 8.3 and 8.6).
use Rattle.std.specs.Prelude.{ℕ, ◌≤◌, List}
use Rattle.own_channel_laws.specs.talk_laws.specs.link_talk.specs.declared.party.Party.{Party}
use Rattle.own_channel_laws.specs.channel_model.specs.Policies.{Policy}
use Rattle.own_channel_laws.specs.Frames.{AreUttered}
use Rattle.own_channel_laws.specs.Runs.{Occurrence, run_of}
use Rattle.own_channel_laws.specs.Sdus.{StatesFrame}
use Rattle.window_laws.specs.Numbers.{HoldsAsTaken}
use Rattle.window_laws.specs.Windows.{HoldsOnEach}

-- Whatever happens to a host and whatever comes in: it holds each window that is none below those that it states itself.
abbrev pub HostsHoldAsTaken : Type 0
HostsHoldAsTaken = (policy : Policy) (party : Party) (list : List Occurrence) (window : ℕ) → StatesFrame policy party → AreUttered policy list → ((psm : ℕ) → (policy.wish psm).window ≤ window)
    → HoldsOnEach (HoldsAsTaken window) party (run_of policy list).said
