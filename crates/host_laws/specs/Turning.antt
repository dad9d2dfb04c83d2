-- What a host does in a world of turns is what it was told and said there.
use Rattle.std.specs.Prelude.{ℕ, ◌≡◌, true, List, [], ◌∷◌, ◌++◌, map, None}
use Rattle.std.specs.List.{AllByRecursion, flat_map}
use Rattle.shelf_model.specs.world_model.specs.Machines.{Up, News, Linked, Failed, Heard, TimerFired, Cancelled, Opening, Upper}
use Rattle.shelf_model.specs.world_model.specs.Talks.{Talk, Told, Said, Unsent, Met, Done}
use Rattle.shelf_model.specs.world_model.specs.Turns.{Step, Pair, Passes, first_pair}
use Rattle.host_laws.specs.Acts.{Act, Hears, Says, Does, Acting, StaysOnLink}

-- an act without what was given with it
pub data Deed : Type 0 where
  Learned : (news : News) → Deed
  Spoke : (pdu : List ℕ) → Deed

abbrev pub deed_of : {G : Type 0} → Act G → Deed
deed_of (Hears gifts news) = Learned news
deed_of (Says pdu) = Spoke pdu

-- what it said counts, whether it moved or not; what became of it in the air does not, nor that a push is over
abbrev pub deeds_in : Talk → List Deed
deeds_in (Told news) = Learned news ∷ []
deeds_in (Said pdu) = Spoke pdu ∷ []
deeds_in (Unsent pdu) = Spoke pdu ∷ []
deeds_in (Met fate checked) = []
deeds_in (Done outcome) = []

-- acts from the first moment on, that are told and said so
pub record Behaves {S G : Type 0} (U : Upper S G) (talk : List Talk) (now : S) : Type 0 where
  pub acts : List (Act G)
  pub acting : Acting U acts U.first now
  pub deeds_are : map deed_of acts ≡ flat_map deeds_in talk

-- ---- a link that is up

-- it hears PDUs, and its timer fires, where it has said all
abbrev pub IsHeardInQuiet : {S G : Type 0} → Upper S G → News → S → Type 0
IsHeardInQuiet U (Linked event) now = Unit {0}
IsHeardInQuiet U (Failed status) now = Unit {0}
IsHeardInQuiet U (Heard pdu) now = U.next now ≡ None
IsHeardInQuiet U TimerFired now = U.next now ≡ None
IsHeardInQuiet U Cancelled now = Unit {0}
IsHeardInQuiet U (Opening name) now = Unit {0}

abbrev pub IsActInQuiet : {S G : Type 0} → Upper S G → Act G → S → Type 0
IsActInQuiet U (Hears gifts news) now = IsHeardInQuiet U news now
IsActInQuiet U (Says pdu) now = Unit {0}

abbrev pub AreInQuiet : {S G : Type 0} → Upper S G → List (Act G) → S → Type 0
AreInQuiet U [] now = Unit {0}
AreInQuiet {S} U (act ∷ acts) now = IsActInQuiet U act now × ((next : S) → Does U act now next → AreInQuiet U acts next)

-- what it did since the link came up
pub record OnLink {S G : Type 0} (U : Upper S G) (talk : List Talk) (now : S) : Type 0 where
  pub before : List (Act G)
  pub gifts : List G
  pub old : S
  pub acting_before : Acting U before U.first old
  pub acts : List (Act G)
  pub acting : Acting U acts (U.hear gifts (Linked Up) old) now
  pub stays : AllByRecursion StaysOnLink acts
  pub in_quiet : AreInQuiet U acts (U.hear gifts (Linked Up) old)
  pub past : List Talk
  pub since : List Talk
  pub talk_is : talk ≡ past ++ Told (Linked Up) ∷ since
  pub deeds_are : map deed_of acts ≡ flat_map deeds_in since

-- ---- the laws

-- So it is of both hosts, in every run of turns.
pub record BothBehave {S T G H : Type 0} (U : Upper S G) (V : Upper T H) (pair : Pair S T) : Type 0 where
  pub a : Behaves U pair.a.talk pair.a.upper
  pub b : Behaves V pair.b.talk pair.b.upper

abbrev pub TurnsAreActs : {S T G H : Type 0} → Upper S G → Upper T H → Type 0
TurnsAreActs {S} {T} U V = (size : ℕ) (names : List (List ℕ)) (steps : List Step) (pair : Pair S T) → Passes U V steps (first_pair U V size names) pair → BothBehave U V pair

-- and while a link is up, of all that each did since it came up
pub record BothOnLink {S T G H : Type 0} (U : Upper S G) (V : Upper T H) (pair : Pair S T) : Type 0 where
  pub a : OnLink U pair.a.talk pair.a.upper
  pub b : OnLink V pair.b.talk pair.b.upper

abbrev pub LinksAreActs : {S T G H : Type 0} → Upper S G → Upper T H → Type 0
LinksAreActs {S} {T} U V =
    (size : ℕ) (names : List (List ℕ)) (steps : List Step) (pair : Pair S T) → Passes U V steps (first_pair U V size names) pair → pair.link ≡ true → BothOnLink U V pair
