-- The world of turns: at a word one host hears one whole PDU, or a timer fires, or a link ends; and that host at once says all that
-- it has to say (this project's own).
use Rattle.std.specs.Prelude.{ℕ, ◌≡◌, ◌&&◌, ◌||◌, Bool, true, false, List, [], ◌∷◌, ◌++◌, map, take, drop, Option, Some, None, is_none, if◌then◌else◌}
use Rattle.std.specs.List.{flat_map}
use Rattle.push_terms.specs.declared.word.Side.{Side}
use Rattle.push_terms.specs.declared.word.Side.TheVariants.{A, B}
use Rattle.push_terms.specs.declared.word.Way.{Way}
use Rattle.push_terms.specs.declared.word.Way.TheVariants.{Ab, Ba}
use Rattle.push_terms.specs.declared.word.Word.{Word}
use Rattle.acl_fragments.specs.Pieces.{channel_of}
use Rattle.push_terms.specs.declared.outcome.Outcome.{Outcome}
use Rattle.radio_model.specs.declared.fate.Fate.{Fate}
use Rattle.radio_model.specs.declared.deed.Deed.{Deed}
use Rattle.radio_model.specs.declared.deed.Deed.TheVariants.{Nothing, Meets, Fires, FiresBoth, Breaks, Cancels}
use Rattle.radio_model.specs.Fates.{meets, comes_of}
use Rattle.radio_model.specs.Words.{deed_of, served_by}
use Rattle.radio_model.specs.Controllers.{is_empty}
use Rattle.world_model.specs.Machines.{LinkEvent, Up, Down, News, Linked, Heard, TimerFired, Cancelled, Opening, Upper, Spoken, drain, all_said, Breath, Whole, Short, Reaction}
use Rattle.world_model.specs.Pushes.{Pushes, no_pushes, next_name, one_begun, one_ended}
use Rattle.world_model.specs.Talks.{Talk, Told, Said, Unsent, Met, Done}

-- one host: its machine, what it said that is in the air, what it was told and said, and whether it has said all that it had to say
pub record Party (S : Type 0) : Type 0 where
  pub upper : S
  pub queue : List (List ℕ)
  pub talk : List Talk
  pub whole : Bool

-- both hosts; controllers hand frames over in pieces of at most `size` octets; whether a link is up; the direction that a `pass`
-- served last; the pushes
pub record Pair (S T : Type 0) : Type 0 where
  pub size : ℕ
  pub link : Bool
  pub served : Option Way
  pub pushes : Pushes
  pub a : Party S
  pub b : Party T

-- ---- one host

-- it says all, behind what it has begun to say
abbrev pub says_all : {S : Type 0} → Spoken S → List (List ℕ) → Party S → Party S
says_all spoken begun p = record {
  upper = spoken.after;
  queue = p.queue ++ (begun ++ spoken.said);
  talk = p.talk ++ map Said (begun ++ spoken.said);
  whole = true;
}

-- it stops short: of what it said so many PDUs have moved
abbrev pub stops_short : {S G : Type 0} → Upper S G → ℕ → Spoken S → List (List ℕ) → Party S → Party S
stops_short U moved spoken begun p = record {
  upper = spoken.after;
  queue = p.queue ++ take moved (begun ++ spoken.said);
  talk = p.talk ++ (map Said (take moved (begun ++ spoken.said)) ++ map Unsent (drop moved (begun ++ spoken.said)));
  whole = is_none (U.next spoken.after) && is_empty (drop moved (begun ++ spoken.said));
}

abbrev pub breathes : {S G : Type 0} → Upper S G → Breath → List (List ℕ) → Party S → Party S
breathes U Whole begun p = says_all (all_said U p.upper) begun p
breathes U (Short moved asked) begun p = stops_short U moved (drain U asked p.upper) begun p

-- it speaks while a link is up
abbrev pub speaks_on : {S G : Type 0} → Upper S G → Bool → Breath → List (List ℕ) → Party S → Party S
speaks_on U true breath begun p = breathes U breath begun p
speaks_on U false breath begun p = p

abbrev pub speaks : {S G : Type 0} → Upper S G → Bool → Breath → Party S → Party S
speaks U link breath p = speaks_on U link breath [] p

abbrev pub with_talk : {S : Type 0} → Talk → Party S → Party S
with_talk talk p = record p { talk = p.talk ++ talk ∷ [] }

abbrev pub with_queue : {S : Type 0} → List (List ℕ) → Party S → Party S
with_queue queue p = record p { queue = queue }

abbrev pub notes : {S G : Type 0} → Upper S G → List G → News → Party S → Party S
notes U answers news p = record p { upper = U.hear answers news p.upper; talk = p.talk ++ Told news ∷ [] }

abbrev pub hears : {S G : Type 0} → Upper S G → Bool → Reaction G → News → Party S → Party S
hears U link reaction news p = speaks U link reaction.breath (notes U reaction.answers news p)

-- what comes of the first frame of the other, at most one PDU
abbrev pub receives : {S G : Type 0} → Upper S G → Bool → Reaction G → List (List ℕ) → Party S → Party S
receives U link reaction [] p = p
receives U link reaction (pdu ∷ pdus) p = hears U link reaction (Heard pdu) p

-- a link comes up, or goes down with all that is in the air
abbrev pub event_heard : {S G : Type 0} → Upper S G → LinkEvent → Reaction G → Party S → Party S
event_heard U Up reaction p = hears U true reaction (Linked Up) p
event_heard U (Down reason) reaction p = notes U reaction.answers (Linked (Down reason)) (record p { queue = []; whole = true })

-- its timer fires if it is armed
abbrev pub fires : {S G : Type 0} → Upper S G → Bool → Reaction G → Party S → Party S
fires U link reaction p = if U.armed p.upper then hears U link reaction TimerFired p else p

-- ---- steps

pub data Step : Type 0 where
  -- a word does something, or finds nothing to act on
  Turn : (word : Word) → Step
  Idle : (word : Word) → Step
  -- a link comes up as host a wants it, and goes down as a host wants it
  Rise : Step
  Fall : (by : Side) → Step
  -- a push begins and ends
  Began : (name : List ℕ) → Step
  Ended : (outcome : Outcome) → Step

-- No host wants the link otherwise than it is, no push is to begin or to end, and both have said all.
pub record IsCalm {S T G H : Type 0} (U : Upper S G) (V : Upper T H) (link : Bool) (pushes : Pushes) (s : S) (t : T) : Type 0 where
  pub no_rise : link ≡ false → pushes.going ≡ true → U.wants_link s ≡ false
  pub no_fall_a : link ≡ true → U.leaves_link s ≡ false
  pub no_fall_b : link ≡ true → V.leaves_link t ≡ false
  pub no_begin : pushes.going ≡ false → U.is_idle s ≡ true → next_name pushes ≡ None
  pub no_end : link ≡ false → pushes.going ≡ true → U.is_idle s ≡ true → U.outcome s ≡ None

pub record IsCalmPair {S T G H : Type 0} (U : Upper S G) (V : Upper T H) (pair : Pair S T) : Type 0 where
  pub calm : IsCalm U V pair.link pair.pushes pair.a.upper pair.b.upper
  pub whole_a : pair.a.whole ≡ true
  pub whole_b : pair.b.whole ≡ true

-- the first frame of one meets its fate, and the other hears what comes of it
pub record Hands {S T H : Type 0} (V : Upper T H) (size : ℕ) (link : Bool) (fate : Fate) (p : Party S) (q : Party T) (p' : Party S) (q' : Party T) : Type 0 where
  pub frame : List ℕ
  pub rest : List (List ℕ)
  pub checked : Bool
  pub reaction : Reaction H
  pub is : p.queue ≡ frame ∷ rest
  pub checked_is : checked ≡ V.has_check q.upper (channel_of frame)
  pub one_is : p' ≡ with_talk (Met fate checked) (with_queue ((meets size fate checked frame).stays ++ rest) p)
  pub other_is : q' ≡ receives V link reaction (comes_of size fate checked frame) q

abbrev pub with_event : {S T G H : Type 0} → Upper S G → Upper T H → (link : Bool) → (event_a event_b : LinkEvent) → Reaction G → Reaction H → Pair S T → Pair S T
with_event U V link event_a event_b r s pair = record pair { link = link; a = event_heard U event_a r pair.a; b = event_heard V event_b s pair.b }

-- whether there is a push to be cancelled
abbrev pub may_be_cancelled : {S G : Type 0} → Upper S G → Pushes → S → Bool
may_be_cancelled U pushes s = pushes.going && U.may_cancel s

-- what a word finds is done; a link that breaks has reason 08 for both hosts (Core 5.1, Volume 1 Part F, 2.8)
abbrev pub Acts : {S T G H : Type 0} → Upper S G → Upper T H → Deed → Pair S T → Pair S T → Type 0
Acts U V Nothing old new = ⊥
Acts {S} {T} U V (Meets Ab fate) old new =
    (p : Party S) × (q : Party T) × Hands V old.size old.link fate old.a old.b p q × (new ≡ record old { served = served_by Ab fate old.served; a = p; b = q })
Acts {S} {T} U V (Meets Ba fate) old new =
    (p : Party S) × (q : Party T) × Hands U old.size old.link fate old.b old.a q p × (new ≡ record old { served = served_by Ba fate old.served; a = p; b = q })
Acts {G} U V (Fires A) old new = (U.armed old.a.upper ≡ true) × (r : Reaction G) × (new ≡ record old { a = hears U old.link r TimerFired old.a })
Acts {H} U V (Fires B) old new = (V.armed old.b.upper ≡ true) × (s : Reaction H) × (new ≡ record old { b = hears V old.link s TimerFired old.b })
Acts {G} {H} U V FiresBoth old new =
    ((U.armed old.a.upper || V.armed old.b.upper) ≡ true) × (r : Reaction G) × (s : Reaction H)
    × (new ≡ record old { a = fires U old.link r old.a; b = fires V old.link s old.b })
Acts {G} {H} U V Breaks old new = (r : Reaction G) × (s : Reaction H) × (new ≡ with_event U V false (Down 0x08) (Down 0x08) r s old)
Acts {G} U V Cancels old new =
    (may_be_cancelled U old.pushes old.a.upper ≡ true) × (r : Reaction G) × (new ≡ record old { a = hears U old.link r Cancelled old.a })

abbrev pub FindsNothing : {S T G H : Type 0} → Upper S G → Upper T H → Deed → Pushes → S → T → Type 0
FindsNothing U V Nothing pushes s t = Unit {0}
FindsNothing U V (Meets way fate) pushes s t = ⊥
FindsNothing U V (Fires A) pushes s t = U.armed s ≡ false
FindsNothing U V (Fires B) pushes s t = V.armed t ≡ false
FindsNothing U V FiresBoth pushes s t = (U.armed s || V.armed t) ≡ false
FindsNothing U V Breaks pushes s t = ⊥
FindsNothing U V Cancels pushes s t = may_be_cancelled U pushes s ≡ false

-- what a word finds
abbrev pub found : {S T : Type 0} → Word → Pair S T → Deed
found word pair = deed_of word pair.served pair.a.queue pair.b.queue pair.link

-- The host that ends the link has reason 16, the other one 13. It waits for itself alone: the other may have stopped short.
abbrev pub Moves : {S T G H : Type 0} → Upper S G → Upper T H → Step → Pair S T → Pair S T → Type 0
Moves U V (Turn word) old new = IsCalmPair U V old × Acts U V (found word old) old new
Moves U V (Idle word) old new = IsCalmPair U V old × FindsNothing U V (found word old) old.pushes old.a.upper old.b.upper × (new ≡ old)
Moves {G} {H} U V Rise old new =
    (old.link ≡ false) × (old.pushes.going ≡ true) × (U.wants_link old.a.upper ≡ true) × (r : Reaction G) × (s : Reaction H) × (new ≡ with_event U V true Up Up r s old)
Moves {G} {H} U V (Fall A) old new =
    (old.link ≡ true) × (U.leaves_link old.a.upper ≡ true) × (old.a.whole ≡ true) × (r : Reaction G) × (s : Reaction H) × (new ≡ with_event U V false (Down 0x16) (Down 0x13) r s old)
Moves {G} {H} U V (Fall B) old new =
    (old.link ≡ true) × (V.leaves_link old.b.upper ≡ true) × (old.b.whole ≡ true) × (r : Reaction G) × (s : Reaction H) × (new ≡ with_event U V false (Down 0x13) (Down 0x16) r s old)
Moves {G} U V (Began name) old new =
    (old.link ≡ false) × (U.is_idle old.a.upper ≡ true) × (next_name old.pushes ≡ Some name) × (r : Reaction G)
    × (new ≡ record old { pushes = one_begun old.pushes; a = notes U r.answers (Opening name) old.a })
Moves U V (Ended outcome) old new =
    (old.link ≡ false) × (old.pushes.going ≡ true) × (U.is_idle old.a.upper ≡ true) × (U.outcome old.a.upper ≡ Some outcome)
    × (new ≡ record old { pushes = one_ended outcome old.pushes; a = with_talk (Done outcome) old.a })

-- ---- runs

abbrev pub Passes : {S T G H : Type 0} → Upper S G → Upper T H → List Step → Pair S T → Pair S T → Type 0
Passes U V [] old new = new ≡ old
Passes {S} {T} U V (step ∷ steps) old new = (mid : Pair S T) × Moves U V step old mid × Passes U V steps mid new

abbrev pub words_in : Step → List Word
words_in (Turn word) = word ∷ []
words_in (Idle word) = word ∷ []
words_in Rise = []
words_in (Fall by) = []
words_in (Began name) = []
words_in (Ended outcome) = []

abbrev pub words_of : List Step → List Word
words_of steps = flat_map words_in steps

abbrev pub first_party : {S G : Type 0} → Upper S G → Party S
first_party U = record { upper = U.first; queue = []; talk = []; whole = true }

abbrev pub first_pair : {S T G H : Type 0} → Upper S G → Upper T H → (size : ℕ) → (names : List (List ℕ)) → Pair S T
first_pair U V size names = record { size = size; link = false; served = None; pushes = no_pushes names; a = first_party U; b = first_party V }
