-- A world of any two hosts that broke off before anything happened.
use Rattle.std.proofs.Common.{[], List, refl}
use Rattle.push_terms.specs.declared.word.Word.{Word}
use Rattle.radio_world.specs.declared.host.Host as host
use Rattle.radio_world.specs.Hosts.{JoinAnswers}
use Rattle.radio_world.specs.Both.{Both}
use Rattle.radio_world.specs.Calls.{Ports, staged}
use Rattle.radio_world.proofs.Advancing.{advances_none}
use Rattle.radio_world.proofs.Broken.{advances_no_more}
use Rattle.scenario_play.specs.Breaking.{OnItsWay}
use Rattle.scenario_play.specs.Through.{BreaksThroughAt}

pub untouched_breaks : {A B P Q : Type 0} (one : host.Ghosts A P) (two : host.Ghosts B Q) (words : List Word) (world : Both A B) (ports : Ports P Q) → JoinAnswers one.answers → JoinAnswers two.answers → BreaksThroughAt one two words world ports ports
untouched_breaks one two words world ports joins_a joins_b =
    let first = staged one two world ports in
    OnItsWay (advances_no_more one.machine two.machine one.answers two.answers one.lacked two.lacked two.station joins_a joins_b words [] words first first refl (advances_none one.machine two.machine one.answers two.answers first joins_a joins_b) (world.b, refl))
