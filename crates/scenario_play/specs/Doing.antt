-- What comes of the pushes of a played scenario that are done, by its capture and its inbox (IrOBEX 1.5, 3.2.1 and 3.3.3; Object Push Profile 1.2, 4.3).
use Rattle.std.specs.Prelude.{ℕ, ◌≡◌, Bool, List, [], ◌++◌, Option, Some, IfSome}
use Rattle.bt_base.specs.Objects.{Object, Contents}
use Rattle.bt_base.specs.declared.settings.Transport.TheVariants.{L2cap}
use Rattle.noting_laws.specs.obex_session.specs.Counting.{Counts}
use Rattle.push_script.specs.declared.scenario.Scenario.{Scenario}
use Rattle.push_terms.specs.declared.outcome.Outcome.{Outcome}
use Rattle.push_terms.specs.declared.peaks.Peaks.{Peaks}
use Rattle.push_terms.specs.declared.word.Side.TheVariants.{B}
use Rattle.capture.specs.Entries.{Entry}
use Rattle.capture.specs.Histories.{EachAfter}
use Rattle.done_laws.specs.Storing.{kept_of, AtDone, StoresDone, SpellsNamed}
use Rattle.unmarked_laws.specs.Unserved.{SpellsNoMore}
use Rattle.unspelled_laws.specs.Withheld.{AtWithheld}
use Rattle.noting_laws.specs.link_talk.specs.Captures.{objects_heard}
use Rattle.noting_laws.specs.world_model.specs.Worlds.{all_entries}
use Rattle.noting_laws.specs.scenario_laws.specs.Gains.{holding}
use Rattle.noting_laws.specs.scenario_laws.specs.Parties.{party_of}
use Rattle.scenario_play.specs.Breaking.{IsBroken}
use Rattle.scenario_play.specs.Playing.{LackedNever, IsPlayed}

-- where a push ends that is done, the object that is spelled more is the shelf's under the name of that push
abbrev pub NamesDone : Scenario → (shelf : List Object) → List Entry → Entry → Type 0
NamesDone scenario shelf past entry = AtDone (SpellsNamed scenario shelf) past entry

-- wherever a push ends whose object was not sent, as it was cancelled, its shelf failed or it found no service, the packets spell what they spelled before that push was begun
abbrev pub UnsentSpellNone : Scenario → List Entry → Type 0
UnsentSpellNone scenario capture = EachAfter (AtWithheld (SpellsNoMore (party_of scenario.settings B))) [] capture

-- Where the inbox tells what it holds, it has what it had, and behind that, of the objects that the packets spell that host b heard, those that are kept, in their order. And wherever a
-- push ends that is done, they spell what they spelled before that push was begun, and one object more, which is kept. That object is the shelf's under the name of that very push.
-- Of a push that was cancelled, whose shelf failed or that found no service they spell none.
abbrev pub DoneAreStored : Scenario → (shelf before : List Object) → (after : Option Contents) → List Entry → Type 0
DoneAreStored scenario shelf before after capture =
    IfSome after (λ held. (kept : List Bool) × (held.stored ≡ before ++ kept_of kept (objects_heard (party_of scenario.settings B) B capture)) × EachAfter (StoresDone scenario.settings kept) [] capture) × EachAfter (NamesDone scenario shelf) [] capture × UnsentSpellNone scenario capture

-- So it is of every scenario that was played over L2CAP with a shelf that tells what it holds, to its end or as far as it came, where the inbox never lacked memory,
-- whatever its script says and its ports answer besides.
pub record PlaysStoreDone : Type 0 where
  pub plays : (scenario : Scenario) (shelf before : List Object) (after : Option Contents) (trace trace' : Option (List ℕ)) (outcomes : List Outcome) (peaks : Peaks) (counts counts' : Counts)
      (played : IsPlayed scenario (Some shelf) (holding before) after trace trace' outcomes peaks counts counts') → scenario.settings.transport ≡ L2cap → LackedNever counts counts' → DoneAreStored scenario shelf before after played.capture
  pub breaks : (scenario : Scenario) (shelf before : List Object) (after : Option Contents) (trace trace' : Option (List ℕ)) (counts counts' : Counts)
      (broken : IsBroken scenario (Some shelf) (holding before) after trace trace' counts counts') → scenario.settings.transport ≡ L2cap → LackedNever counts counts' → DoneAreStored scenario shelf before after (all_entries broken.happenings)
