-- That no command of a host waits to be given when its timer fires (Core 5.1, Volume 3 Part A, 4 and 6.2.1).
use Rattle.std.specs.Prelude.{◌≡◌, true, List, []}
use Rattle.scenario_laws.specs.capture.specs.Histories.{EachAfter}
use Rattle.channel_laws.specs.channel_model.specs.Policies.{Policy}
use Rattle.channel_laws.specs.Ends.{end_at}
use Rattle.channel_laws.specs.Pairs.{End, Happening, Acts, Puts, Takes, Repeats, Loses, Damages, Turn, pair_of}
use Rattle.channel_laws.specs.Tries.{is_firing}

-- when its timer fires, no request and no answer waits in the host's queue
abbrev pub NoneWaitsAt : Happening → End → Type 0
NoneWaitsAt (Acts occurrence) end' = is_firing occurrence ≡ true → end'.run.value.queue ≡ []
NoneWaitsAt (Puts pdu) end' = Unit {0}
NoneWaitsAt Takes end' = Unit {0}
NoneWaitsAt Repeats end' = Unit {0}
NoneWaitsAt Loses end' = Unit {0}
NoneWaitsAt (Damages pdu) end' = Unit {0}

-- each time, at either end
abbrev pub NoneEverWaits : (near far : Policy) → List Turn → Type 0
NoneEverWaits near far turns = EachAfter (λ past turn. NoneWaitsAt turn.happening (end_at turn.side (pair_of near far past))) [] turns
