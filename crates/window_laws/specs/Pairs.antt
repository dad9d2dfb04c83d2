-- That two hosts that have an enhanced channel in common hold their windows, in numbers that never wrap (Core 5.1, Volume 3 Part A, 5.4, 8.3 and 8.6).
use Rattle.std.specs.Prelude.{ℕ, ◌≤◌, min, List}
use Rattle.own_channel_laws.specs.talk_laws.specs.link_talk.specs.declared.party.Party.{Party}
use Rattle.own_channel_laws.specs.channel_model.specs.Policies.{Policy}
use Rattle.own_channel_laws.specs.Sdus.{StatesFrame}
use Rattle.channel_laws.specs.Belonging.{AreRead}
use Rattle.channel_laws.specs.Ends.{AreFair}
use Rattle.channel_laws.specs.Pairs.{Turn, pair_of}
use Rattle.channel_laws.specs.Pipes.{AreCarried, CanStateBoth}
use Rattle.window_laws.specs.Numbers.{LastIsTaken}
use Rattle.window_laws.specs.Windows.{HoldsAbsolutely, HoldsOnEach}

-- Whatever the link loses, repeats and damages: no ReqSeq that comes in at either host is refused, also while the host has closed its channel.
abbrev pub BothTakeAll : Type 0
BothTakeAll = (near far : Policy) (turns : List Turn) (party : Party) → StatesFrame near party → StatesFrame far party → AreFair near far turns → AreRead near far turns → AreCarried near far turns → ((psm : ℕ) → CanStateBoth near far psm)
    → HoldsOnEach LastIsTaken party (pair_of near far turns).near.run.said × HoldsOnEach LastIsTaken party (pair_of near far turns).far.run.said

-- So both hold the lesser of both windows: of one that is none below those that the one states, and of one that is none below those that the other states.
abbrev pub BothHoldAbsolutely : Type 0
BothHoldAbsolutely = (near far : Policy) (turns : List Turn) (party : Party) (near_window far_window : ℕ) → StatesFrame near party → StatesFrame far party → AreFair near far turns → AreRead near far turns → AreCarried near far turns → ((psm : ℕ) → CanStateBoth near far psm)
    → ((psm : ℕ) → (near.wish psm).window ≤ near_window) → ((psm : ℕ) → (far.wish psm).window ≤ far_window)
    → HoldsOnEach (HoldsAbsolutely (min near_window far_window)) party (pair_of near far turns).near.run.said × HoldsOnEach (HoldsAbsolutely (min near_window far_window)) party (pair_of near far turns).far.run.said
