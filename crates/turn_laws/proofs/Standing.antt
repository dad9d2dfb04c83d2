-- What is true of a host whatever happened; each motion keeps that, and what the host comes to.
use Rattle.std.proofs.Common.{ℕ, ◌≡◌, ◌⊎◌, inl, inr, Bool, true, false, List, [], ◌∷◌, ◌++◌, Some, map, refl, ap, sym, ◌∙◌, subst}
use Rattle.std.proofs.lemmas.List.{append_assoc, append-nil}
use Rattle.world_model.specs.radio_model.specs.Controllers.{is_empty}
use Rattle.world_model.specs.Machines.{LinkEvent, Up, Down, Linked, Heard, Upper, Breath, Whole, Short, Reaction}
use Rattle.world_model.specs.Talks.{Talk, Told, Said, Unsent}
use Rattle.world_model.specs.Turns.{Party, breathes, speaks_on, event_heard}
use Rattle.world_model.specs.Carriages.{End, Motion, Saying, Departure, Arrival, Telling, landed, is_told, linked_by, IsQuiet, IsIdle, DoesMotion}
use Rattle.turn_laws.proofs.Finishing.{party, plain, same_party, Coming, first_reaction, later, behind, reacting, ended, ending, events_heard, comes_to, speaks_none, once_more_asked, says_same, once_more_moved, departs_same, down_same}

-- events that are owed go with what the host was told last, and with what is
abbrev pub Chain : List LinkEvent → (linked link : Bool) → Type 0
Chain [] linked link = linked ≡ link
Chain (Up ∷ more) linked link = (linked ≡ false) × Chain more true link
Chain (Down reason ∷ more) linked link = (linked ≡ true) × Chain more false link

pub record Sound {S G : Type 0} (U : Upper S G) (link : Bool) (e : End S) : Type 0 where
  -- a host into which a PDU comes has nothing to say
  pub hearing : (e.coming ≡ []) ⊎ IsQuiet U e.upper e.waiting
  -- a host that knows of no link has nothing
  pub off_waiting : e.linked ≡ false → e.waiting ≡ []
  pub off_coming : e.linked ≡ false → e.coming ≡ []
  pub off_queue : e.linked ≡ false → e.queue ≡ []
  -- nothing is in the air of a host that is owed an event
  pub owed_queue : is_empty e.owed ≡ false → e.queue ≡ []
  pub chain : Chain e.owed e.linked link

pub record Keeps {S G : Type 0} (U : Upper S G) (link : Bool) (coming : Coming G) (e e' : End S) : Type 0 where
  pub sound : Sound U link e'
  pub before : Coming G
  pub comes : comes_to U coming e' ≡ comes_to U before e

-- a host that speaks and has nothing coming
on_comes : {S G : Type 0} (U : Upper S G) (coming : Coming G) (e : End S) → e.linked ≡ true → e.coming ≡ []
    → comes_to U coming e ≡ events_heard U e.owed coming.reactions (breathes U coming.breath e.waiting (plain e))
on_comes U coming e on none = rw (on, none) refl

-- ---- it says a PDU

says_keeps : {S G : Type 0} (U : Upper S G) (link : Bool) (coming : Coming G) (e : End S) (pdu : List ℕ) (after : S)
    → e.linked ≡ true → U.next e.upper ≡ Some (pdu, after) → e.coming ≡ [] → Sound U link e → Keeps U link coming e (record e { upper = after; waiting = e.waiting ++ pdu ∷ [] })
says_keeps {S} U link coming e pdu after on next none sound =
    let before : Coming _ = record { breath = once_more_asked coming.breath; reactions = coming.reactions } in
    let said : End S = record e { upper = after; waiting = e.waiting ++ pdu ∷ [] } in
    record {
      sound = record {
        hearing = inl none;
        off_waiting = λ off. cc;
        off_coming = sound.off_coming;
        off_queue = sound.off_queue;
        owed_queue = sound.owed_queue;
        chain = sound.chain;
      };
      before = before;
      comes = on_comes U coming said on none
          ∙ ap (λ (p : Party S). events_heard U e.owed coming.reactions p) (says_same U coming.breath e.waiting e.upper after pdu e.queue e.talk next)
          ∙ sym (on_comes U before e on none);
    }

-- ---- the first that it said moves

landed_none : (owed : List LinkEvent) (queue : List (List ℕ)) (pdu : List ℕ) → is_empty owed ≡ false → queue ≡ [] → landed owed queue pdu ≡ []
landed_none [] queue pdu some none = cc
landed_none (event ∷ events) queue pdu some none = none

landed_same :
    {S G : Type 0} (U : Upper S G) (link : Bool) (owed : List LinkEvent) (reactions : List (Reaction G)) (breath : Breath) (left : List (List ℕ)) (s : S) (queue : List (List ℕ)) (pdu : List ℕ) (talk : List Talk)
    → Chain owed true link
    → events_heard U owed reactions (breathes U breath left (party s (landed owed queue pdu) talk)) ≡ events_heard U owed reactions (breathes U breath left (party s (queue ++ pdu ∷ []) talk))
landed_same U link [] reactions breath left s queue pdu talk chain = refl
landed_same U link (Up ∷ more) reactions breath left s queue pdu talk chain = let up = chain.0 in cc
landed_same {S} U link (Down reason ∷ more) reactions breath left s queue pdu talk chain =
    ap (λ (p : Party S). events_heard U more (later reactions) p) (down_same U reason (first_reaction reactions) true breath left s queue (queue ++ pdu ∷ []) talk)

-- nothing comes into a host that has something to say
none_comes : {S G : Type 0} (U : Upper S G) (e : End S) (pdu : List ℕ) (left : List (List ℕ)) → (e.coming ≡ []) ⊎ IsQuiet U e.upper e.waiting → e.waiting ≡ pdu ∷ left → e.coming ≡ []
none_comes U e pdu left hearing first = elim hearing [ inl none ↦ none | inr quiet ↦ let none = quiet.none_waits in cc ]

departs_keeps : {S G : Type 0} (U : Upper S G) (link : Bool) (coming : Coming G) (e : End S) (pdu : List ℕ) (left : List (List ℕ))
    → e.linked ≡ true → e.waiting ≡ pdu ∷ left → Sound U link e
    → Keeps U link coming e (record e { waiting = left; queue = landed e.owed e.queue pdu; talk = e.talk ++ Said pdu ∷ [] })
departs_keeps {S} U link coming e pdu left on first sound =
    let before : Coming _ = record { breath = once_more_moved coming.breath; reactions = coming.reactions } in
    let moved : End S = record e { waiting = left; queue = landed e.owed e.queue pdu; talk = e.talk ++ Said pdu ∷ [] } in
    let none = none_comes U e pdu left sound.hearing first in
    let chain : Chain e.owed true link = subst (λ (l : Bool). Chain e.owed l link) on sound.chain in
    record {
      sound = record {
        hearing = inl none;
        off_waiting = λ off. cc;
        off_coming = sound.off_coming;
        off_queue = λ off. cc;
        owed_queue = λ some. landed_none e.owed e.queue pdu some (sound.owed_queue some);
        chain = sound.chain;
      };
      before = before;
      comes = on_comes U coming moved on none
          ∙ landed_same U link e.owed coming.reactions coming.breath left e.upper e.queue pdu (e.talk ++ Said pdu ∷ []) chain
          ∙ ap (λ (p : Party S). events_heard U e.owed coming.reactions p) (departs_same U coming.breath left pdu e.upper e.queue e.talk)
          ∙ ap (λ (l : List (List ℕ)). events_heard U e.owed coming.reactions (breathes U before.breath l (plain e))) (sym first)
          ∙ sym (on_comes U before e on none);
    }

-- ---- a PDU comes into it

pub quiet_there : {S G : Type 0} (U : Upper S G) (e : End S) (pdu : List ℕ) (pdus : List (List ℕ)) → (e.coming ≡ []) ⊎ IsQuiet U e.upper e.waiting → e.coming ≡ pdu ∷ pdus → IsQuiet U e.upper e.waiting
quiet_there U e pdu pdus hearing first = elim hearing [ inl none ↦ cc | inr quiet ↦ quiet ]

arrives_keeps : {S G : Type 0} (U : Upper S G) (link : Bool) (coming : Coming G) (e : End S) (pdu : List ℕ) (answers : List G)
    → e.coming ≡ pdu ∷ [] → Sound U link e
    → Keeps U link coming e (record e { upper = U.hear answers (Heard pdu) e.upper; coming = []; talk = e.talk ++ Told (Heard pdu) ∷ [] })
arrives_keeps {S} U link coming e pdu answers first sound =
    let quiet = quiet_there U e pdu [] sound.hearing first in
    let heard : Party S = party (U.hear answers (Heard pdu) e.upper) e.queue (e.talk ++ Told (Heard pdu) ∷ []) in
    record {
      sound = record {
        hearing = inl refl;
        off_waiting = sound.off_waiting;
        off_coming = λ off. refl;
        off_queue = sound.off_queue;
        owed_queue = sound.owed_queue;
        chain = sound.chain;
      };
      before = reacting answers coming;
      comes = ap (λ (l : List (List ℕ)). events_heard U e.owed coming.reactions (speaks_on U e.linked coming.breath l heard)) quiet.none_waits
          ∙ ap (λ (l : List (List ℕ)). events_heard U e.owed (behind l (reacting answers coming).reactions) (ending U e.linked Whole (first_reaction (reacting answers coming).reactions) l e.waiting (plain e))) (sym first);
    }

-- ---- it is told of an event

tells_chain : (event : LinkEvent) (more : List LinkEvent) (linked link : Bool) → Chain (event ∷ more) linked link → Chain more (linked_by event) link
tells_chain Up more linked link chain = chain.1
tells_chain (Down reason) more linked link chain = chain.1

tells_sound : {S G : Type 0} (U : Upper S G) (link : Bool) (event : LinkEvent) (more : List LinkEvent) (e : End S) (answers : List G)
    → e.owed ≡ event ∷ more → e.coming ≡ [] → Sound U link e → Sound U link (is_told U answers event more e)
tells_sound U link event more e answers first none sound =
    let empty : e.queue ≡ [] = sound.owed_queue (ap (λ (l : List LinkEvent). is_empty l) first) in
    record {
      hearing = inl none;
      off_waiting = λ off. refl;
      off_coming = λ off. none;
      off_queue = λ off. empty;
      owed_queue = λ some. empty;
      chain = tells_chain event more e.linked link (subst (λ (l : List LinkEvent). Chain l e.linked link) first sound.chain);
    }

short_talk : (talk : List Talk) (waiting : List (List ℕ)) (one : Talk) → (talk ++ map Unsent (waiting ++ [])) ++ one ∷ [] ≡ talk ++ (map Unsent waiting ++ one ∷ [])
short_talk talk waiting one = rw (append-nil waiting, append_assoc) refl

tells_by : {S G : Type 0} (U : Upper S G) (link : Bool) (event : LinkEvent) (more : List LinkEvent) (e : End S) (answers : List G) (breath : Breath)
    → Chain (event ∷ more) e.linked link → e.queue ≡ [] → (e.linked ≡ false → e.waiting ≡ [])
    → speaks_on U (linked_by event) breath [] (plain (is_told U answers event more e))
    ≡ event_heard U event (record { answers = answers; breath = breath }) (speaks_on U e.linked (Short 0 0) e.waiting (plain e))
tells_by {S} U link Up more e answers breath chain empty off =
    let linked = chain.0 in
    let none = off linked in
    rw (linked, none) refl
tells_by {S} U link (Down reason) more e answers breath chain empty off =
    let linked = chain.0 in
    rw linked (same_party refl empty (sym (short_talk e.talk e.waiting (Told (Linked (Down reason))))))

tells_keeps : {S G : Type 0} (U : Upper S G) (link : Bool) (coming : Coming G) (event : LinkEvent) (more : List LinkEvent) (e : End S) (answers : List G)
    → e.owed ≡ event ∷ more → e.coming ≡ [] → Sound U link e → Keeps U link coming e (is_told U answers event more e)
tells_keeps {S} U link coming event more e answers first none sound =
    let empty : e.queue ≡ [] = sound.owed_queue (ap (λ (l : List LinkEvent). is_empty l) first) in
    let chain : Chain (event ∷ more) e.linked link = subst (λ (l : List LinkEvent). Chain l e.linked link) first sound.chain in
    record {
      sound = tells_sound U link event more e answers first none sound;
      before = ended answers coming;
      comes = rw (first, none) (ap (λ (p : Party S). events_heard U more coming.reactions p) (tells_by U link event more e answers coming.breath chain empty sound.off_waiting));
    }

-- ---- whatever moves

pub motion_keeps : {S G : Type 0} (U : Upper S G) (link : Bool) (coming : Coming G) (motion : Motion) (e e' : End S) → DoesMotion U motion e e' → Sound U link e → Keeps U link coming e e'
motion_keeps U link coming (Saying pdu) e e' does sound = rw does.is (says_keeps U link coming e pdu does.after does.on does.next does.none_comes sound)
motion_keeps U link coming (Departure pdu) e e' does sound = rw does.is (departs_keeps U link coming e pdu does.left does.on does.first sound)
motion_keeps U link coming (Arrival pdu) e e' does sound = rw does.is (arrives_keeps U link coming e pdu does.answers does.first sound)
motion_keeps U link coming (Telling event) e e' does sound = rw does.is (tells_keeps U link coming event does.more e does.answers does.first does.none_comes sound)

-- ---- a host that waits for nothing

waits_none : {S G : Type 0} (U : Upper S G) (linked : Bool) (s : S) (waiting : List (List ℕ)) → (linked ≡ false → waiting ≡ []) → (linked ≡ true → IsQuiet U s waiting) → waiting ≡ []
waits_none U true s waiting off quiet = (quiet refl).none_waits
waits_none U false s waiting off quiet = off refl

pub idle_waits : {S G : Type 0} (U : Upper S G) (link : Bool) (e : End S) → IsIdle U e → Sound U link e → e.waiting ≡ []
idle_waits U link e idle sound = waits_none U e.linked e.upper e.waiting sound.off_waiting idle.said_all

-- what it comes to is what it is
pub idle_comes : {S G : Type 0} (U : Upper S G) (link : Bool) (coming : Coming G) (e : End S) → IsIdle U e → Sound U link e → comes_to U coming e ≡ plain e
idle_comes U link coming e idle sound =
    rw (idle.none_owed, idle.none_comes) (speaks_none U e.linked coming.breath e.waiting e.upper e.queue e.talk (idle_waits U link e idle sound) (λ on. (idle.said_all on).none_next))

pub idle_linked : {S G : Type 0} (U : Upper S G) (link : Bool) (e : End S) → IsIdle U e → Sound U link e → e.linked ≡ link
idle_linked U link e idle sound = subst (λ (l : List LinkEvent). Chain l e.linked link) idle.none_owed sound.chain
