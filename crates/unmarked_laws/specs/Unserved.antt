-- That a push that found no service, or was given up on its link, spells nothing, by the capture (IrOBEX 1.5, 3.4.5; Core 5.1, Volume 3 Part B, 4.7; Object Push Profile 1.2, 4.3 and 5).
use Rattle.std.specs.Prelude.{◌≡◌, true, List, [], Some, None}
use Rattle.tape_laws.specs.bt_base.specs.declared.settings.Transport.TheVariants.{L2cap}
use Rattle.tape_laws.specs.bt_base.specs.Objects.{Object}
use Rattle.tape_laws.specs.obex_session.specs.InboxCalls.{Answer}
use Rattle.tape_laws.specs.push_script.specs.declared.scenario.Scenario.{Scenario}
use Rattle.tape_laws.specs.push_terms.specs.declared.outcome.Outcome.{Outcome}
use Rattle.tape_laws.specs.push_terms.specs.declared.outcome.Outcome.TheVariants.{NoService}
use Rattle.tape_laws.specs.push_terms.specs.declared.word.Side.TheVariants.{B}
use Rattle.tape_laws.specs.capture.specs.Entries.{Entry, Moved, Acted, Begun, Ended}
use Rattle.tape_laws.specs.capture.specs.Histories.{EachAfter}
use Rattle.tape_laws.specs.capture.specs.Links.{link_up}
use Rattle.tape_laws.specs.link_talk.specs.declared.party.Party.{Party}
use Rattle.tape_laws.specs.link_talk.specs.Captures.{objects_heard}
use Rattle.tape_laws.specs.push_laws.specs.Premises.{NoneShort}
use Rattle.tape_laws.specs.world_model.specs.Worlds.{all_entries}
use Rattle.tape_laws.specs.scenario_laws.specs.Gains.{holding}
use Rattle.tape_laws.specs.scenario_laws.specs.Parties.{party_of}
use Rattle.tape_laws.specs.OwnPairs.{RanOwn}
use Rattle.done_laws.specs.Storing.{before_begun}
use Rattle.unmarked_laws.specs.Unspelled.{is_withheld}
use Rattle.unmarked_laws.specs.Ends.{IsOverAt}

-- what the packets spell that host b heard is what they spelled before the push was begun that was begun last
abbrev pub SpellsNoMore : Party → List Entry → Type 0
SpellsNoMore party past = objects_heard party B past ≡ objects_heard party B (before_begun past)

-- so it is where a push ends that found no service
abbrev pub AtUnserved : (List Entry → Type 0) → List Entry → Entry → Type 0
AtUnserved So past (Moved side flow packet) = Unit {0}
AtUnserved So past (Acted ordinal word) = Unit {0}
AtUnserved So past (Begun push) = Unit {0}
AtUnserved So past (Ended push outcome) = outcome ≡ NoService → So past

-- So it is in a run: wherever a push ends that found no service, and where nothing is owed to either host and that of host a, which still goes on, has found none.
pub record SpellsNone (scenario : Scenario) (shelf before : List Object) (answers : List Answer) (capture : List Entry) (own : RanOwn scenario (Some shelf) (holding before) answers capture) : Type 0 where
  pub moments : EachAfter (AtUnserved (SpellsNoMore (party_of scenario.settings B))) [] (all_entries own.happenings)
  pub now : IsOverAt NoService own.world → SpellsNoMore (party_of scenario.settings B) (all_entries own.happenings)
  -- and while the link of host b is up also where it was cancelled, or the shelf failed
  pub linked : (outcome : Outcome) → is_withheld outcome ≡ true → IsOverAt outcome own.world → (link_up B (all_entries own.happenings) ≡ None → ⊥) → SpellsNoMore (party_of scenario.settings B) (all_entries own.happenings)

-- So it is of each run over L2CAP, wherever it broke off, with a server that has its answers from its first moment on, none of which is want of memory, and a shelf that
-- tells what it holds.
abbrev pub OwnServersSpellNone : Type 0
OwnServersSpellNone = (scenario : Scenario) (shelf before : List Object) (answers : List Answer) (capture : List Entry) (own : RanOwn scenario (Some shelf) (holding before) answers capture) → scenario.settings.transport ≡ L2cap → NoneShort answers
    → SpellsNone scenario shelf before answers capture own
