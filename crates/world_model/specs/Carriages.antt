-- Between what happens, packet by packet, and the world of turns: PDUs that move one at a time, between hosts that wait to be told
-- what became of their link (this project's own). How PDUs are cut and joined, and how hosts and controllers come by a link, is left
-- out here.
use Rattle.std.specs.Prelude.{ℕ, ◌≡◌, ◌||◌, Bool, true, false, List, [], ◌∷◌, ◌++◌, map, Option, Some, None, if◌then◌else◌}
use Rattle.std.specs.List.{flat_map}
use Rattle.acl_fragments.specs.Pieces.{channel_of}
use Rattle.push_terms.specs.declared.word.Side.{Side}
use Rattle.push_terms.specs.declared.word.Side.TheVariants.{A, B}
use Rattle.push_terms.specs.declared.word.Way.{Way}
use Rattle.push_terms.specs.declared.word.Way.TheVariants.{Ab, Ba}
use Rattle.push_terms.specs.declared.word.Word.{Word}
use Rattle.push_terms.specs.declared.outcome.Outcome.{Outcome}
use Rattle.radio_model.specs.declared.fate.Fate.{Fate}
use Rattle.radio_model.specs.declared.deed.Deed.{Deed}
use Rattle.radio_model.specs.declared.deed.Deed.TheVariants.{Nothing, Meets, Fires, FiresBoth, Breaks, Cancels}
use Rattle.radio_model.specs.Fates.{meets, comes_of}
use Rattle.radio_model.specs.Words.{deed_of, served_by}
use Rattle.world_model.specs.Machines.{LinkEvent, Up, Down, News, Linked, Heard, TimerFired, Cancelled, Opening, Upper}
use Rattle.world_model.specs.Pushes.{Pushes, no_pushes, next_name, one_begun, one_ended}
use Rattle.world_model.specs.Talks.{Talk, Told, Said, Unsent, Met, Done}
use Rattle.world_model.specs.Turns.{Step, Turn, Idle, Rise, Fall, Began, Ended, IsCalm, FindsNothing, may_be_cancelled}

-- one host, and all that is on its way to it or from it
pub record End (S : Type 0) : Type 0 where
  pub upper : S
  -- whether it was told of a link, and the events that it has not been told
  pub linked : Bool
  pub owed : List LinkEvent
  -- the PDUs that it said and that have not moved, and those in the air
  pub waiting : List (List ℕ)
  pub queue : List (List ℕ)
  -- what is being handed over to it, at most one PDU
  pub coming : List (List ℕ)
  -- what it was told and said so far
  pub talk : List Talk

pub record Carriage (S T : Type 0) : Type 0 where
  pub size : ℕ
  pub link : Bool
  pub served : Option Way
  pub pushes : Pushes
  pub a : End S
  pub b : End T

-- ---- one host

pub data Motion : Type 0 where
  -- it says a PDU, the first that it said has moved, one comes into it, it is told of an event
  Saying : (pdu : List ℕ) → Motion
  Departure : (pdu : List ℕ) → Motion
  Arrival : (pdu : List ℕ) → Motion
  Telling : (event : LinkEvent) → Motion

-- what it says on a link that is gone, as it has not been told, is dropped
abbrev pub landed : List LinkEvent → List (List ℕ) → List ℕ → List (List ℕ)
landed [] queue pdu = queue ++ pdu ∷ []
landed (event ∷ events) queue pdu = queue

pub record Says {S G : Type 0} (U : Upper S G) (pdu : List ℕ) (old new : End S) : Type 0 where
  pub on : old.linked ≡ true
  pub after : S
  pub next : U.next old.upper ≡ Some (pdu, after)
  -- it has heard all that comes
  pub none_comes : old.coming ≡ []
  pub is : new ≡ record old { upper = after; waiting = old.waiting ++ pdu ∷ [] }

pub record Departs {S : Type 0} (pdu : List ℕ) (old new : End S) : Type 0 where
  pub on : old.linked ≡ true
  pub left : List (List ℕ)
  pub first : old.waiting ≡ pdu ∷ left
  pub is : new ≡ record old { waiting = left; queue = landed old.owed old.queue pdu; talk = old.talk ++ Said pdu ∷ [] }

pub record Arrives {S G : Type 0} (U : Upper S G) (pdu : List ℕ) (old new : End S) : Type 0 where
  pub answers : List G
  pub first : old.coming ≡ pdu ∷ []
  pub is : new ≡ record old { upper = U.hear answers (Heard pdu) old.upper; coming = []; talk = old.talk ++ Told (Heard pdu) ∷ [] }

abbrev pub linked_by : LinkEvent → Bool
linked_by Up = true
linked_by (Down reason) = false

abbrev pub is_told : {S G : Type 0} → Upper S G → List G → LinkEvent → List LinkEvent → End S → End S
is_told U answers event more e = record e {
  upper = U.hear answers (Linked event) e.upper;
  linked = linked_by event;
  owed = more;
  waiting = [];
  talk = e.talk ++ (map Unsent e.waiting ++ Told (Linked event) ∷ []);
}

-- an event is told after all that comes before it; what waits to be said is dropped
pub record Tells {S G : Type 0} (U : Upper S G) (event : LinkEvent) (old new : End S) : Type 0 where
  pub answers : List G
  pub more : List LinkEvent
  pub first : old.owed ≡ event ∷ more
  pub none_comes : old.coming ≡ []
  pub is : new ≡ is_told U answers event more old

abbrev pub DoesMotion : {S G : Type 0} → Upper S G → Motion → End S → End S → Type 0
DoesMotion U (Saying pdu) old new = Says U pdu old new
DoesMotion U (Departure pdu) old new = Departs pdu old new
DoesMotion U (Arrival pdu) old new = Arrives U pdu old new
DoesMotion U (Telling event) old new = Tells U event old new

abbrev pub told : {S G : Type 0} → Upper S G → List G → News → End S → End S
told U answers news e = record e { upper = U.hear answers news e.upper; talk = e.talk ++ Told news ∷ [] }

-- its timer fires if it is armed
abbrev pub fired : {S G : Type 0} → Upper S G → List G → End S → End S
fired U answers e = if U.armed e.upper then told U answers TimerFired e else e

-- nothing more is to be said
pub record IsQuiet {S G : Type 0} (U : Upper S G) (upper : S) (waiting : List (List ℕ)) : Type 0 where
  pub none_waits : waiting ≡ []
  pub none_next : U.next upper ≡ None

abbrev pub SaidAll : {S G : Type 0} → Upper S G → End S → Type 0
SaidAll U e = e.linked ≡ true → IsQuiet U e.upper e.waiting

-- nothing is on its way to it, and it has nothing to say
pub record IsIdle {S G : Type 0} (U : Upper S G) (e : End S) : Type 0 where
  pub none_owed : e.owed ≡ []
  pub none_comes : e.coming ≡ []
  pub said_all : SaidAll U e

abbrev pub owing : {S : Type 0} → LinkEvent → End S → End S
owing Up e = record e { owed = e.owed ++ Up ∷ [] }
owing (Down reason) e = record e { owed = e.owed ++ Down reason ∷ []; queue = [] }

-- ---- both

pub record IsAtRest {S T G H : Type 0} (U : Upper S G) (V : Upper T H) (c : Carriage S T) : Type 0 where
  pub idle_a : IsIdle U c.a
  pub idle_b : IsIdle V c.b
  pub calm : IsCalm U V c.link c.pushes c.a.upper c.b.upper

-- the first frame of one meets its fate
pub record MeetsFate {S T H : Type 0} (V : Upper T H) (size : ℕ) (fate : Fate) (e : End S) (f : End T) (e' : End S) (f' : End T) : Type 0 where
  pub frame : List ℕ
  pub rest : List (List ℕ)
  pub checked : Bool
  pub is : e.queue ≡ frame ∷ rest
  pub checked_is : checked ≡ V.has_check f.upper (channel_of frame)
  pub one_is : e' ≡ record e { queue = (meets size fate checked frame).stays ++ rest; talk = e.talk ++ Met fate checked ∷ [] }
  pub other_is : f' ≡ record f { coming = comes_of size fate checked frame }

abbrev pub with_events : {S T : Type 0} → Bool → (event_a event_b : LinkEvent) → Carriage S T → Carriage S T
with_events link event_a event_b c = record c { link = link; a = owing event_a c.a; b = owing event_b c.b }

pub data Doing : Type 0 where
  Moved : (side : Side) (motion : Motion) → Doing
  Deeds : (word : Word) → Doing
  Misses : (word : Word) → Doing
  Rises : Doing
  Falls : (by : Side) → Doing
  Opens : (name : List ℕ) → Doing
  Closes : (outcome : Outcome) → Doing

abbrev pub ActsOn : {S T G H : Type 0} → Upper S G → Upper T H → Deed → Carriage S T → Carriage S T → Type 0
ActsOn U V Nothing old new = ⊥
ActsOn {S} {T} U V (Meets Ab fate) old new =
    (e : End S) × (f : End T) × MeetsFate V old.size fate old.a old.b e f × (new ≡ record old { served = served_by Ab fate old.served; a = e; b = f })
ActsOn {S} {T} U V (Meets Ba fate) old new =
    (e : End S) × (f : End T) × MeetsFate U old.size fate old.b old.a f e × (new ≡ record old { served = served_by Ba fate old.served; a = e; b = f })
ActsOn {G} U V (Fires A) old new = (U.armed old.a.upper ≡ true) × (g : List G) × (new ≡ record old { a = told U g TimerFired old.a })
ActsOn {H} U V (Fires B) old new = (V.armed old.b.upper ≡ true) × (h : List H) × (new ≡ record old { b = told V h TimerFired old.b })
ActsOn {G} {H} U V FiresBoth old new =
    ((U.armed old.a.upper || V.armed old.b.upper) ≡ true) × (g : List G) × (h : List H) × (new ≡ record old { a = fired U g old.a; b = fired V h old.b })
ActsOn U V Breaks old new = new ≡ with_events false (Down 0x08) (Down 0x08) old
ActsOn {G} U V Cancels old new =
    (may_be_cancelled U old.pushes old.a.upper ≡ true) × (g : List G) × (new ≡ record old { a = told U g Cancelled old.a })

-- what a word finds
abbrev pub finds : {S T : Type 0} → Word → Carriage S T → Deed
finds word c = deed_of word c.served c.a.queue c.b.queue c.link

abbrev pub IsDone : {S T G H : Type 0} → Upper S G → Upper T H → Doing → Carriage S T → Carriage S T → Type 0
IsDone {S} U V (Moved A motion) old new = (e : End S) × DoesMotion U motion old.a e × (new ≡ record old { a = e })
IsDone {T} U V (Moved B motion) old new = (f : End T) × DoesMotion V motion old.b f × (new ≡ record old { b = f })
IsDone U V (Deeds word) old new = IsAtRest U V old × ActsOn U V (finds word old) old new
IsDone U V (Misses word) old new = IsAtRest U V old × FindsNothing U V (finds word old) old.pushes old.a.upper old.b.upper × (new ≡ old)
-- host b may still be owed what became of the link before
IsDone U V Rises old new =
    (old.link ≡ false) × IsIdle U old.a × (old.pushes.going ≡ true) × (U.wants_link old.a.upper ≡ true) × (new ≡ with_events true Up Up old)
-- a host that ends the link waits for itself alone
IsDone U V (Falls A) old new =
    (old.link ≡ true) × IsIdle U old.a × (U.leaves_link old.a.upper ≡ true) × (new ≡ with_events false (Down 0x16) (Down 0x13) old)
IsDone U V (Falls B) old new =
    (old.link ≡ true) × IsIdle V old.b × (V.leaves_link old.b.upper ≡ true) × (new ≡ with_events false (Down 0x13) (Down 0x16) old)
IsDone {G} U V (Opens name) old new =
    (old.link ≡ false) × IsIdle U old.a × (U.is_idle old.a.upper ≡ true) × (next_name old.pushes ≡ Some name) × (g : List G)
    × (new ≡ record old { pushes = one_begun old.pushes; a = told U g (Opening name) old.a })
IsDone U V (Closes outcome) old new =
    (old.link ≡ false) × IsIdle U old.a × IsIdle V old.b × (old.pushes.going ≡ true) × (U.is_idle old.a.upper ≡ true) × (U.outcome old.a.upper ≡ Some outcome)
    × (new ≡ record old { pushes = one_ended outcome old.pushes; a = record old.a { talk = old.a.talk ++ Done outcome ∷ [] } })

-- ---- runs

-- one after the other
abbrev pub Carries : {S T G H : Type 0} → Upper S G → Upper T H → List Doing → Carriage S T → Carriage S T → Type 0
Carries U V [] old new = new ≡ old
Carries {S} {T} U V (doing ∷ doings) old new = (mid : Carriage S T) × IsDone U V doing old mid × Carries U V doings mid new

-- the words that were turned
abbrev pub words_at : Doing → List Word
words_at (Deeds word) = word ∷ []
words_at (Misses word) = word ∷ []
words_at (Moved side motion) = []
words_at Rises = []
words_at (Falls by) = []
words_at (Opens name) = []
words_at (Closes outcome) = []

abbrev pub all_words : List Doing → List Word
all_words doings = flat_map words_at doings

-- the steps of the world of turns: movements are none
abbrev pub steps_of : Doing → List Step
steps_of (Moved side motion) = []
steps_of (Deeds word) = Turn word ∷ []
steps_of (Misses word) = Idle word ∷ []
steps_of Rises = Rise ∷ []
steps_of (Falls by) = Fall by ∷ []
steps_of (Opens name) = Began name ∷ []
steps_of (Closes outcome) = Ended outcome ∷ []

abbrev pub all_steps : List Doing → List Step
all_steps doings = flat_map steps_of doings

abbrev pub first_end : {S G : Type 0} → Upper S G → End S
first_end U = record { upper = U.first; linked = false; owed = []; waiting = []; queue = []; coming = []; talk = [] }

abbrev pub first_carriage : {S T G H : Type 0} → Upper S G → Upper T H → (size : ℕ) → (names : List (List ℕ)) → Carriage S T
first_carriage U V size names = record { size = size; link = false; served = None; pushes = no_pushes names; a = first_end U; b = first_end V }
