-- What the two ends of a link utter (this project's own).
use Rattle.std.specs.Prelude.{◌≡◌, List, []}
use Rattle.own_channel_laws.specs.talk_laws.specs.capture.specs.Histories.{EachAfter}
use Rattle.own_channel_laws.specs.channel_model.specs.Value.{Channels}
use Rattle.own_channel_laws.specs.channel_model.specs.Policies.{Policy}
use Rattle.own_channel_laws.specs.Runs.{Occurrence, Gives, Run, run_of}
use Rattle.own_channel_laws.specs.Frames.{IsUttered, AreUttered}
use Rattle.channel_laws.specs.Pairs.{End, Pair, Happening, Acts, Puts, Takes, Repeats, Loses, Damages, Side, Near, Far, Turn, pair_of}

-- what an end does by itself is so
abbrev pub DoesSo : (Occurrence → Channels → Type 0) → Happening → End → Type 0
DoesSo F (Acts occurrence) end' = F occurrence end'.run.value
DoesSo F (Puts pdu) end' = F (Gives pdu) end'.run.value
DoesSo F Takes end' = Unit {0}
DoesSo F Repeats end' = Unit {0}
DoesSo F Loses end' = Unit {0}
DoesSo F (Damages pdu) end' = Unit {0}

abbrev pub end_at : Side → Pair → End
end_at Near pair = pair.near
end_at Far pair = pair.far

-- each time, each end utters it as it is
abbrev pub AreFair : (near far : Policy) → List Turn → Type 0
AreFair near far turns = EachAfter (λ past turn. DoesSo IsUttered turn.happening (end_at turn.side (pair_of near far past))) [] turns

-- a host to which something occurred, and that uttered what it is
abbrev pub IsUtteredRunOf : Policy → Run → Type 0
IsUtteredRunOf policy run = (list : List Occurrence) × (run ≡ run_of policy list) × AreUttered policy list

-- So the laws of one host on what it utters hold at both ends, whatever the link does.
abbrev pub EachEndUtters : Type 0
EachEndUtters = (near far : Policy) (turns : List Turn) → AreFair near far turns → IsUtteredRunOf near (pair_of near far turns).near.run × IsUtteredRunOf far (pair_of near far turns).far.run
