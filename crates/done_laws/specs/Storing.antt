-- That the object of a push that is done is stored, by the capture and by what the inbox gained (IrOBEX 1.5, 3.2.1 and 3.3.3; Object Push Profile 1.2, 4.3).
use Rattle.std.specs.Prelude.{◌≡◌, ℕ, ◌-◌, Bool, true, false, List, [], ◌∷◌, ◌++◌, length, get_or, Some, if◌then◌else◌, slice_get}
use Rattle.cause_laws.specs.FirstCauses.{since_begun, HasCause, EndsByCause}
use Rattle.tape_laws.specs.bt_base.specs.declared.settings.Settings.{Settings}
use Rattle.tape_laws.specs.bt_base.specs.declared.settings.Transport.TheVariants.{L2cap}
use Rattle.tape_laws.specs.bt_base.specs.Objects.{Object, octets_of}
use Rattle.tape_laws.specs.obex_session.specs.InboxCalls.{Answer}
use Rattle.tape_laws.specs.obex_session.specs.PutPackets.{units_in}
use Rattle.tape_laws.specs.push_script.specs.declared.scenario.Scenario.{Scenario}
use Rattle.tape_laws.specs.push_terms.specs.declared.outcome.Outcome.TheVariants.{Done}
use Rattle.tape_laws.specs.push_terms.specs.declared.word.Side.TheVariants.{B}
use Rattle.tape_laws.specs.capture.specs.Entries.{Entry, Moved, Acted, Begun, Ended}
use Rattle.tape_laws.specs.capture.specs.Histories.{led_by, EachAfter}
use Rattle.tape_laws.specs.link_talk.specs.declared.party.Party.{Party}
use Rattle.tape_laws.specs.link_talk.specs.Captures.{objects_heard}
use Rattle.tape_laws.specs.world_model.specs.Worlds.{all_entries}
use Rattle.tape_laws.specs.push_laws.specs.Laws.{stored_in}
use Rattle.tape_laws.specs.push_laws.specs.Premises.{NoneShort}
use Rattle.tape_laws.specs.scenario_laws.specs.Gains.{holding}
use Rattle.tape_laws.specs.scenario_laws.specs.Parties.{party_of}
use Rattle.tape_laws.specs.OwnPairs.{RanOwn}
use Rattle.done_laws.specs.Runs.{IsDoneAt}

-- ---- which objects are kept

-- those of some objects that are kept, by one mark for each
abbrev pub kept_of : (kept : List Bool) → List Object → List Object
kept_of kept [] = []
kept_of [] (object ∷ objects) = []
kept_of (one ∷ kept) (object ∷ objects) = if one then object ∷ kept_of kept objects else kept_of kept objects

-- ---- the part of a push

-- the entries ahead of the push that was begun last; none before the first
abbrev pub ahead_of_push : (past ahead : List Entry) → Entry → List Entry
ahead_of_push past ahead (Begun push) = past
ahead_of_push past ahead entry = ahead

abbrev pub before_begun : List Entry → List Entry
before_begun past = led_by ahead_of_push [] [] past

-- What the packets spell that host b heard is what they spelled before that push was begun, and one object more; and that object is kept.
pub record StoresOneMore (party : Party) (kept : List Bool) (past : List Entry) : Type 0 where
  pub object : Object
  pub spelled : objects_heard party B past ≡ objects_heard party B (before_begun past) ++ object ∷ []
  pub is_kept : get_or kept (length (objects_heard party B (before_begun past))) false ≡ true

-- so it is where a push ends that is done, by its number
abbrev pub AtDone : (ℕ → List Entry → Type 0) → List Entry → Entry → Type 0
AtDone So past (Moved side flow packet) = Unit {0}
AtDone So past (Acted ordinal word) = Unit {0}
AtDone So past (Begun push) = Unit {0}
AtDone So past (Ended push outcome) = outcome ≡ Done → So push past

-- where the capture shows why it ended so
abbrev pub AtShown : Settings → (ℕ → List Entry → Type 0) → List Entry → Entry → Type 0
AtShown settings So past entry = EndsByCause settings past entry → AtDone So past entry

abbrev pub StoresDone : Settings → (kept : List Bool) → List Entry → Entry → Type 0
StoresDone settings kept past entry = AtDone (λ push before. StoresOneMore (party_of settings B) kept before) past entry

-- ---- its name

-- That object is the one that the shelf holds under the name of that push: its name in UTF-16 units, and all its octets. The first push has the number 1.
pub record SpellsNamed (scenario : Scenario) (shelf : List Object) (push : ℕ) (past : List Entry) : Type 0 where
  pub name : List ℕ
  pub name_is : slice_get scenario.names (push - 1) ≡ Some name
  pub octets : List ℕ
  pub held : octets_of name shelf ≡ Some octets
  pub spelled : objects_heard (party_of scenario.settings B) B past ≡ objects_heard (party_of scenario.settings B) B (before_begun past) ++ record { name = units_in name; octets = octets } ∷ []

-- ---- a run

-- Of the objects that the packets spell the inbox gained those that are kept, in their order: that of each push that is done is one of them, wherever the capture shows
-- why it ended so, and where nothing is owed to either host and host a's client is done. It is the shelf's under the name of that push, where the client did not lack memory.
-- What a front spells is a front of what all spells, so the mark at its place is its own.
pub record StoresKept (scenario : Scenario) (shelf before : List Object) (answers : List Answer) (capture : List Entry) (own : RanOwn scenario (Some shelf) (holding before) answers capture) : Type 0 where
  pub kept : List Bool
  pub gained : stored_in own.world.b.upper.profile.inbox.content ≡ Some (before ++ kept_of kept (objects_heard (party_of scenario.settings B) B capture))
  pub moments : EachAfter (AtShown scenario.settings (λ push past. StoresOneMore (party_of scenario.settings B) kept past)) [] (all_entries own.happenings)
  pub now : IsDoneAt own.world → HasCause Done (since_begun (all_entries own.happenings)) → StoresOneMore (party_of scenario.settings B) kept (all_entries own.happenings)
  pub named : own.world.a.upper.profile.client.failed ≡ false → EachAfter (AtShown scenario.settings (SpellsNamed scenario shelf)) [] (all_entries own.happenings)
  pub named_now : own.world.a.upper.profile.client.failed ≡ false → IsDoneAt own.world → HasCause Done (since_begun (all_entries own.happenings)) → SpellsNamed scenario shelf own.world.pushes.begun (all_entries own.happenings)

-- So it is in a run over L2CAP, wherever it broke off, with a server that has its answers from its first moment on, none of which is want of memory, and a shelf that
-- tells what it holds.
abbrev pub OwnServersStoreDone : Type 0
OwnServersStoreDone = (scenario : Scenario) (shelf before : List Object) (answers : List Answer) (capture : List Entry) (own : RanOwn scenario (Some shelf) (holding before) answers capture) → scenario.settings.transport ≡ L2cap → NoneShort answers
    → StoresKept scenario shelf before answers capture own
