-- What a call says of want of memory (this project's own).
use Rattle.std.specs.Prelude.{ℕ, ◌≡◌, ◌≤◌, ◌+◌, ◌^◌, ◌⊎◌, ◌||◌, true, List, [], ◌∷◌, ◌++◌, length, Option, Result, IsErrOf}
use Rattle.std.specs.List.{AllByRecursion}
use Rattle.bt_base.specs.Counts.{HasRisen}
use Rattle.bt_base.specs.Streams.{gained}
use Rattle.push_terms.specs.declared.word.Side.{Side}
use Rattle.push_terms.specs.declared.word.Word.{Word}
use Rattle.capture.specs.Entries.{IsEntry, capture_octets}
use Rattle.radio_model.specs.Queues.{is_crowded}
use Rattle.radio_model.specs.Owed.{owes_many, wants_memory}
use Rattle.radio_model.specs.Radio.{Radio}
use Rattle.room_laws.specs.world_model.specs.Machines.{Upper}
use Rattle.room_laws.specs.world_model.specs.Stations.{Order}
use Rattle.radio_world.specs.declared.fault.WorldFault.{WorldFault}
use Rattle.radio_world.specs.declared.fault.WorldFault.TheVariants.{NoMemory}
use Rattle.radio_world.specs.Leaving.{Medium, after_all, leaving_entries}
use Rattle.radio_world.specs.Scenes.{Stage, Advances}

-- The count of shortages of the trace does not fall, and `NoMemory` comes only where it rose.
pub record LacksByTrace {X : Type 0} (shortages shortages' : ℕ) (result : Result X WorldFault) : Type 0 where
  pub stays : shortages ≤ shortages'
  pub short : IsErrOf result NoMemory → HasRisen shortages shortages'

-- The same, or else for that cause.
pub record Lacks {X : Type 0} (shortages shortages' : ℕ) (Cause : Type 0) (result : Result X WorldFault) : Type 0 where
  pub stays : shortages ≤ shortages'
  pub short : IsErrOf result NoMemory → HasRisen shortages shortages' ⊎ Cause

-- ---- between a host and the radio

-- where nothing is handed over, the radio wants memory for what makes this of it
abbrev pub WantsRoom : (old new : Radio) → Type 0
WantsRoom old new = old.a.coming ≡ [] → old.b.coming ≡ [] → wants_memory old new ≡ true

-- The first of these orders stand in the trace, and for the last of them the radio wants memory.
pub record Overflows (side : Side) (orders : List Order) (medium : Medium) (trace trace' : Option (List ℕ)) : Type 0 where
  pub whole : List Order
  pub due : Order
  pub left : List Order
  pub orders_are : orders ≡ whole ++ due ∷ left
  pub wants : WantsRoom (after_all side whole medium).radio (after_all side (whole ++ due ∷ []) medium).radio
  pub written : trace' ≡ gained trace (capture_octets (leaving_entries side (whole ++ due ∷ [])))
  pub each : AllByRecursion IsEntry (leaving_entries side (whole ++ due ∷ []))

-- Why all that moves between a host and the radio may want memory: its port lacked some; or the radio does, for an order, or for the
-- packets of all of them that it gives back.
pub data Shortage {P : Type 0} (Lacked : P → P → Type 0) (side : Side) (orders : List Order) (medium : Medium) (port port' : P) (trace trace' : Option (List ℕ)) : Type 0 where
  PortLacked : Lacked port port' → Shortage Lacked side orders medium port port' trace trace'
  OrderWants : port' ≡ port → Overflows side orders medium trace trace' → Shortage Lacked side orders medium port port' trace trace'
  ReturnWants : owes_many 16 (after_all side orders medium).radio ≡ true → Shortage Lacked side orders medium port port' trace trace'

-- ---- in the world

-- A run of the pure world led to where more frames wait in a direction of the air, or more octets of them, than memory is reserved
-- for. The trace has what happened in it; the first of the words were turned.
pub record Overruns {S T G H P Q : Type 0} (U : Upper S G) (V : Upper T H) (AnswersA : P → List G → P → Type 0) (AnswersB : Q → List H → Q → Type 0) (words : List Word) (old : Stage S T G H P Q) (shelf : P) (inbox : Q) (trace : Option (List ℕ)) : Type 0 where
  pub new : Stage S T G H P Q
  pub turned : List Word
  pub later : List Word
  pub words_are : words ≡ turned ++ later
  pub advances : Advances U V AnswersA AnswersB turned old new
  pub crowded : (is_crowded new.scene.medium.radio.a.waiting || is_crowded new.scene.medium.radio.b.waiting) ≡ true
  pub shelf_is : new.shelf ≡ shelf
  pub inbox_is : new.inbox ≡ inbox
  pub trace_is : new.trace ≡ trace

-- Why a world may want memory where the trace did not: a port lacked some, or the air is crowded, or more words would have been turned
-- than can be counted.
pub data Wants {S T G H P Q : Type 0} (U : Upper S G) (V : Upper T H) (AnswersA : P → List G → P → Type 0) (AnswersB : Q → List H → Q → Type 0) (LackedA : P → P → Type 0) (LackedB : Q → Q → Type 0) (words : List Word) (old : Stage S T G H P Q) (shelf : P) (inbox : Q) (trace : Option (List ℕ)) : Type 0 where
  ShelfLacked : LackedA old.shelf shelf → Wants U V AnswersA AnswersB LackedA LackedB words old shelf inbox trace
  InboxLacked : LackedB old.inbox inbox → Wants U V AnswersA AnswersB LackedA LackedB words old shelf inbox trace
  AirCrowded : Overruns U V AnswersA AnswersB words old shelf inbox trace → Wants U V AnswersA AnswersB LackedA LackedB words old shelf inbox trace
  WordsFull : 2 ^ 64 ≤ old.scene.turned + length words → Wants U V AnswersA AnswersB LackedA LackedB words old shelf inbox trace
