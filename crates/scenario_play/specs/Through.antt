-- A world of any two hosts that is played through, beside its ports (this project's own).
use Rattle.std.specs.Prelude.{List, Result}
use Rattle.push_terms.specs.declared.word.Word.{Word}
use Rattle.radio_world.specs.declared.fault.WorldFault.{WorldFault}
use Rattle.radio_world.specs.declared.host.Host as host
use Rattle.radio_world.specs.Both.{Both}
use Rattle.radio_world.specs.Calls.{Ports, staged}
use Rattle.radio_world.specs.Shortages.{Lacks}
use Rattle.scenario_play.specs.Breaking.{BreaksThrough, MayWant}
use Rattle.scenario_play.specs.Running.{RunsThrough}

-- it ran from its beginning to the end of its last push
abbrev pub RunsThroughAt : {A B P Q : Type 0} → host.Ghosts A P → host.Ghosts B Q → List Word → Both A B → Ports P Q → Both A B → Ports P Q → Type 0
RunsThroughAt one two words old ports new ports' = RunsThrough one.machine two.machine one.answers two.answers words (staged one two old ports) (staged one two new ports')

-- it broke off on its way, or as it ended
abbrev pub BreaksThroughAt : {A B P Q : Type 0} → host.Ghosts A P → host.Ghosts B Q → List Word → Both A B → Ports P Q → Ports P Q → Type 0
BreaksThroughAt one two words old ports ports' =
    BreaksThrough one.machine two.machine one.answers two.answers one.lacked two.lacked two.station words (staged one two old ports) ports'.shelf ports'.inbox ports'.trace.content

-- what it says of want of memory
abbrev pub MayWantAt : {A B P Q X : Type 0} → host.Ghosts A P → host.Ghosts B Q → List Word → Both A B → Ports P Q → Ports P Q → Result X WorldFault → Type 0
MayWantAt one two words old ports ports' result =
    Lacks ports.trace.shortages ports'.trace.shortages (MayWant one.machine two.machine one.answers two.answers one.lacked two.lacked words (staged one two old ports) ports'.shelf ports'.inbox ports'.trace.content) result
