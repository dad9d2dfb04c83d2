-- What each run of a scenario keeps, over either transport.
use Rattle.scenario_play.specs.Gaining.{PlaysKeep}
use Rattle.object_push.specs.Keeping.{RunsKeep}
use Rattle.object_push.specs.Ports.{counts_in}
use Rattle.object_push.specs.Running.{RanToEnd, RanShort}

pub runs_keep : PlaysKeep → RunsKeep
runs_keep law scenario old new result (RanToEnd outcomes kept peaks played gains faults reports) =
    law.plays scenario old.shelf.content old.inbox.content new.inbox.content old.trace.content new.trace.content outcomes peaks (counts_in old.inbox) (counts_in new.inbox) played
runs_keep law scenario old new result (RanShort fault is stops broken grows silent) =
    law.breaks scenario old.shelf.content old.inbox.content new.inbox.content old.trace.content new.trace.content (counts_in old.inbox) (counts_in new.inbox) broken
