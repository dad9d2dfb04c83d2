-- What ports were when they began to be watched (this project's own).
use Rattle.std.specs.Prelude.{ℕ, ◌≡◌, List, Option, None}
use Rattle.bt_base.specs.Objects.{Object, Contents}

-- which sink it is, and how often it had failed and found no memory
pub record SinkPast : Type 0 where
  pub name : ℕ
  pub faults : ℕ
  pub shortages : ℕ

-- which shelf it is, what it told of its objects, and its counts
pub record ShelfPast : Type 0 where
  pub name : ℕ
  pub content : Option (List Object)
  pub faults : ℕ
  pub shortages : ℕ
  pub absences : ℕ

-- which inbox it is, what it told of its objects, and its counts
pub record InboxPast : Type 0 where
  pub name : ℕ
  pub content : Option Contents
  pub faults : ℕ
  pub shortages : ℕ

-- ---- it is that port, as it was then

pub record IsSink (past : SinkPast) (name faults shortages : ℕ) : Type 0 where
  pub name_is : name ≡ past.name
  pub faults_are : faults ≡ past.faults
  pub shortages_are : shortages ≡ past.shortages

pub record IsShelf (past : ShelfPast) (name : ℕ) (content : Option (List Object)) (faults shortages absences : ℕ) : Type 0 where
  pub name_is : name ≡ past.name
  pub content_is : content ≡ past.content
  pub faults_are : faults ≡ past.faults
  pub shortages_are : shortages ≡ past.shortages
  pub absences_are : absences ≡ past.absences

pub record IsInbox (past : InboxPast) (name : ℕ) (content : Option Contents) (faults shortages : ℕ) : Type 0 where
  pub name_is : name ≡ past.name
  pub content_is : content ≡ past.content
  pub faults_are : faults ≡ past.faults
  pub shortages_are : shortages ≡ past.shortages

-- ---- none of them was there yet

abbrev pub no_sink : SinkPast
no_sink = record { name = 0; faults = 0; shortages = 0 }

abbrev pub no_shelf : ShelfPast
no_shelf = record { name = 0; content = None; faults = 0; shortages = 0; absences = 0 }

abbrev pub no_inbox : InboxPast
no_inbox = record { name = 0; content = None; faults = 0; shortages = 0 }
