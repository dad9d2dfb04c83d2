-- That a push that was given up, or found no service, spells nothing, by the capture (IrOBEX 1.5, 3.4.3 and 3.4.5; Object Push Profile 1.2, 4.3).
use Rattle.std.specs.Prelude.{◌≡◌, true, List, [], Some}
use Rattle.tape_laws.specs.bt_base.specs.declared.settings.Transport.TheVariants.{L2cap}
use Rattle.tape_laws.specs.bt_base.specs.Objects.{Object}
use Rattle.tape_laws.specs.obex_session.specs.InboxCalls.{Answer}
use Rattle.tape_laws.specs.push_script.specs.declared.scenario.Scenario.{Scenario}
use Rattle.tape_laws.specs.push_terms.specs.declared.outcome.Outcome.{Outcome}
use Rattle.tape_laws.specs.push_terms.specs.declared.word.Side.TheVariants.{B}
use Rattle.tape_laws.specs.capture.specs.Entries.{Entry, Moved, Acted, Begun, Ended}
use Rattle.tape_laws.specs.capture.specs.Histories.{EachAfter}
use Rattle.tape_laws.specs.push_laws.specs.Premises.{NoneShort}
use Rattle.tape_laws.specs.world_model.specs.Worlds.{all_entries}
use Rattle.tape_laws.specs.scenario_laws.specs.Gains.{holding}
use Rattle.tape_laws.specs.scenario_laws.specs.Parties.{party_of}
use Rattle.tape_laws.specs.OwnPairs.{RanOwn}
use Rattle.unmarked_laws.specs.Unspelled.{is_withheld}
use Rattle.unmarked_laws.specs.Unserved.{SpellsNoMore}

-- so it is where a push ends whose object was withheld: that was cancelled, whose shelf failed, or that found no service
abbrev pub AtWithheld : (List Entry → Type 0) → List Entry → Entry → Type 0
AtWithheld So past (Moved side flow packet) = Unit {0}
AtWithheld So past (Acted ordinal word) = Unit {0}
AtWithheld So past (Begun push) = Unit {0}
AtWithheld So past (Ended push outcome) = is_withheld outcome ≡ true → So past

-- So it is in a run: wherever such a push ends, and at any moment at which the client of host a came to such an outcome, also while its link is up or ends.
pub record WithholdsAll (scenario : Scenario) (shelf before : List Object) (answers : List Answer) (capture : List Entry) (own : RanOwn scenario (Some shelf) (holding before) answers capture) : Type 0 where
  pub moments : EachAfter (AtWithheld (SpellsNoMore (party_of scenario.settings B))) [] (all_entries own.happenings)
  pub now : (outcome : Outcome) → is_withheld outcome ≡ true → own.world.a.upper.profile.client.cause ≡ Some outcome → SpellsNoMore (party_of scenario.settings B) (all_entries own.happenings)

-- So it is of each run over L2CAP, wherever it broke off, with a server that has its answers from its first moment on, none of which is want of memory, and a shelf that
-- tells what it holds.
abbrev pub OwnServersWithholdAll : Type 0
OwnServersWithholdAll = (scenario : Scenario) (shelf before : List Object) (answers : List Answer) (capture : List Entry) (own : RanOwn scenario (Some shelf) (holding before) answers capture) → scenario.settings.transport ≡ L2cap → NoneShort answers
    → WithholdsAll scenario shelf before answers capture own
