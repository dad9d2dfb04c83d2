-- What words and links do to one host that waits for nothing, and to one that faces it.
use Rattle.std.proofs.Common.{ℕ, ◌≡◌, inl, inr, Bool, true, false, List, [], ◌∷◌, ◌++◌, None, if◌then◌else◌, refl, ap, sym, ◌∙◌}
use Rattle.world_model.specs.radio_model.specs.Controllers.{is_empty}
use Rattle.world_model.specs.radio_model.specs.declared.fate.Fate.{Fate}
use Rattle.world_model.specs.radio_model.specs.Fates.{meets, comes_of}
use Rattle.world_model.specs.Machines.{LinkEvent, Up, Down, News, TimerFired, Upper, Reaction}
use Rattle.world_model.specs.Talks.{Talk, Met}
use Rattle.world_model.specs.Turns.{speaks_on, hears, receives, event_heard, fires, Hands}
use Rattle.world_model.specs.Carriages.{End, told, fired, linked_by, owing, IsIdle, MeetsFate}
use Rattle.turn_laws.proofs.Finishing.{party, plain, Coming, first_reaction, behind, ending, events_heard, comes_to, speaks_none, down_ending, reactions_past, events_append}
use Rattle.turn_laws.proofs.Standing.{Chain, Sound, idle_waits, idle_comes, idle_linked}

-- ---- a word tells a host something

pub told_sound : {S G : Type 0} (U : Upper S G) (link : Bool) (answers : List G) (news : News) (e : End S) → IsIdle U e → Sound U link e → Sound U link (told U answers news e)
told_sound U link answers news e idle sound = record {
  hearing = inl idle.none_comes;
  off_waiting = sound.off_waiting;
  off_coming = sound.off_coming;
  off_queue = sound.off_queue;
  owed_queue = sound.owed_queue;
  chain = sound.chain;
}

-- how far it comes with the reaction is what was to come
abbrev pub reaction_of : {G : Type 0} → List G → Coming G → Reaction G
reaction_of answers coming = record { answers = answers; breath = coming.breath }

pub told_comes : {S G : Type 0} (U : Upper S G) (link : Bool) (coming : Coming G) (answers : List G) (news : News) (e : End S) → IsIdle U e → Sound U link e
    → comes_to U coming (told U answers news e) ≡ hears U link (reaction_of answers coming) news (plain e)
told_comes {S} U link coming answers news e idle sound =
    rw (idle.none_owed, idle.none_comes, idle_waits U link e idle sound)
    (ap (λ (l : Bool). speaks_on U l coming.breath [] (plain (told U answers news e))) (idle_linked U link e idle sound))

-- its timer fires if it is armed
fired_by : {S G : Type 0} (U : Upper S G) (link : Bool) (coming : Coming G) (answers : List G) (e : End S) (armed : Bool) → IsIdle U e → Sound U link e
    → comes_to U coming (if armed then told U answers TimerFired e else e) ≡ if armed then hears U link (reaction_of answers coming) TimerFired (plain e) else plain e
fired_by U link coming answers e true idle sound = told_comes U link coming answers TimerFired e idle sound
fired_by U link coming answers e false idle sound = idle_comes U link coming e idle sound

pub fired_comes : {S G : Type 0} (U : Upper S G) (link : Bool) (coming : Coming G) (answers : List G) (e : End S) → IsIdle U e → Sound U link e
    → comes_to U coming (fired U answers e) ≡ fires U link (reaction_of answers coming) (plain e)
fired_comes U link coming answers e idle sound = fired_by U link coming answers e (U.armed e.upper) idle sound

fired_sound_by : {S G : Type 0} (U : Upper S G) (link : Bool) (answers : List G) (e : End S) (armed : Bool) → IsIdle U e → Sound U link e → Sound U link (if armed then told U answers TimerFired e else e)
fired_sound_by U link answers e true idle sound = told_sound U link answers TimerFired e idle sound
fired_sound_by U link answers e false idle sound = sound

pub fired_sound : {S G : Type 0} (U : Upper S G) (link : Bool) (answers : List G) (e : End S) → IsIdle U e → Sound U link e → Sound U link (fired U answers e)
fired_sound U link answers e idle sound = fired_sound_by U link answers e (U.armed e.upper) idle sound

-- ---- the first frame of one meets its fate

pub on_by : (linked : Bool) (queue : List (List ℕ)) (frame : List ℕ) (rest : List (List ℕ)) → (linked ≡ false → queue ≡ []) → queue ≡ frame ∷ rest → linked ≡ true
on_by true queue frame rest none some = refl
on_by false queue frame rest none some = let empty = none refl in cc

sends_sound : {S G : Type 0} (U : Upper S G) (link : Bool) (queue : List (List ℕ)) (talk : List Talk) (e : End S) → IsIdle U e → e.linked ≡ true → Sound U link e → Sound U link (record e { queue = queue; talk = talk })
sends_sound U link queue talk e idle on sound = record {
  hearing = sound.hearing;
  off_waiting = sound.off_waiting;
  off_coming = sound.off_coming;
  off_queue = λ off. cc;
  owed_queue = λ some. let none = idle.none_owed in let empty = ap (λ (l : List LinkEvent). is_empty l) none in cc;
  chain = sound.chain;
}

receives_sound : {S G : Type 0} (U : Upper S G) (link : Bool) (comes : List (List ℕ)) (e : End S) → IsIdle U e → e.linked ≡ true → Sound U link e → Sound U link (record e { coming = comes })
receives_sound U link comes e idle on sound = record {
  hearing = inr (idle.said_all on);
  off_waiting = sound.off_waiting;
  off_coming = λ off. cc;
  off_queue = sound.off_queue;
  owed_queue = sound.owed_queue;
  chain = sound.chain;
}

receives_by : {S G : Type 0} (U : Upper S G) (linked : Bool) (coming : Coming G) (comes : List (List ℕ)) (s : S) (queue : List (List ℕ)) (talk : List Talk) → (linked ≡ true → U.next s ≡ None)
    → ending U linked coming.breath (first_reaction coming.reactions) comes [] (party s queue talk) ≡ receives U linked (first_reaction coming.reactions) comes (party s queue talk)
receives_by U linked coming [] s queue talk none = speaks_none U linked coming.breath [] s queue talk refl none
receives_by U linked coming (pdu ∷ pdus) s queue talk none = refl

receives_comes : {S G : Type 0} (U : Upper S G) (link : Bool) (coming : Coming G) (comes : List (List ℕ)) (e : End S) → IsIdle U e → Sound U link e
    → comes_to U coming (record e { coming = comes }) ≡ receives U link (first_reaction coming.reactions) comes (plain e)
receives_comes {S} U link coming comes e idle sound =
    rw (idle.none_owed, idle_waits U link e idle sound)
    (receives_by U e.linked coming comes e.upper e.queue e.talk (λ on. (idle.said_all on).none_next)
    ∙ ap (λ (l : Bool). receives U l (first_reaction coming.reactions) comes (plain e)) (idle_linked U link e idle sound))

pub record MeetsHands {S T G H : Type 0} (U : Upper S G) (V : Upper T H) (size : ℕ) (link : Bool) (one : Coming G) (other : Coming H) (fate : Fate) (e : End S) (f : End T) (e' : End S) (f' : End T) : Type 0 where
  pub sound_one : Sound U link e'
  pub sound_other : Sound V link f'
  pub hands : Hands V size link fate (plain e) (plain f) (comes_to U one e') (comes_to V other f')

pub meets_hands :
    {S T G H : Type 0} (U : Upper S G) (V : Upper T H) (size : ℕ) (link : Bool) (one : Coming G) (other : Coming H) (fate : Fate) (e : End S) (f : End T) (e' : End S) (f' : End T)
    → IsIdle U e → IsIdle V f → Sound U link e → Sound V link f → MeetsFate V size fate e f e' f' → MeetsHands U V size link one other fate e f e' f'
meets_hands {S} {T} U V size link one other fate e f e' f' idle_e idle_f sound_e sound_f does =
    let on_e = on_by e.linked e.queue does.frame does.rest sound_e.off_queue does.is in
    let on_f : f.linked ≡ true = idle_linked V link f idle_f sound_f ∙ sym (idle_linked U link e idle_e sound_e) ∙ on_e in
    let queue : List (List ℕ) = (meets size fate does.checked does.frame).stays ++ does.rest in
    let talk : List Talk = e.talk ++ Met fate does.checked ∷ [] in
    let comes : List (List ℕ) = comes_of size fate does.checked does.frame in
    let next : End S = record e { queue = queue; talk = talk } in
    let idle_next : IsIdle U next = record { none_owed = idle_e.none_owed; none_comes = idle_e.none_comes; said_all = idle_e.said_all } in
    let sent = sends_sound U link queue talk e idle_e on_e sound_e in
    rw (does.one_is, does.other_is) (record {
      sound_one = sent;
      sound_other = receives_sound V link comes f idle_f on_f sound_f;
      hands = record {
        frame = does.frame;
        rest = does.rest;
        checked = does.checked;
        reaction = first_reaction other.reactions;
        is = does.is;
        checked_is = does.checked_is;
        one_is = idle_comes U link one next idle_next sent;
        other_is = receives_comes V link other comes f idle_f sound_f;
      };
    })

-- ---- the link comes up or goes down, and a host is not told yet

abbrev pub before : LinkEvent → Bool
before Up = false
before (Down reason) = true

chain_more : (event : LinkEvent) (owed : List LinkEvent) (linked : Bool) → Chain owed linked (before event) → Chain (owed ++ event ∷ []) linked (linked_by event)
chain_more Up [] linked chain = (chain, refl)
chain_more (Down reason) [] linked chain = (chain, refl)
chain_more event (Up ∷ owed) linked chain = (chain.0, chain_more event owed true chain.1)
chain_more event (Down reason ∷ owed) linked chain = (chain.0, chain_more event owed false chain.1)

no_queue : (owed : List LinkEvent) (linked : Bool) (queue : List (List ℕ)) → Chain owed linked false → (linked ≡ false → queue ≡ []) → (is_empty owed ≡ false → queue ≡ []) → queue ≡ []
no_queue [] linked queue chain off stale = off chain
no_queue (event ∷ owed) linked queue chain off stale = stale refl

pub record Owes {S G : Type 0} (U : Upper S G) (coming : Coming G) (event : LinkEvent) (e : End S) : Type 0 where
  pub sound : Sound U (linked_by event) (owing event e)
  pub reaction : Reaction G
  pub comes : comes_to U coming (owing event e) ≡ event_heard U event reaction (comes_to U coming e)

down_lost :
    {S G : Type 0} (U : Upper S G) (reason : ℕ) (r : Reaction G) (coming : Coming G) (e : End S) (owed : List LinkEvent) (reactions : List (Reaction G)) → (is_empty owed ≡ false → e.queue ≡ [])
    → event_heard U (Down reason) r (events_heard U owed reactions (ending U e.linked coming.breath (first_reaction coming.reactions) e.coming e.waiting (party e.upper [] e.talk)))
    ≡ event_heard U (Down reason) r (events_heard U owed reactions (ending U e.linked coming.breath (first_reaction coming.reactions) e.coming e.waiting (plain e)))
down_lost U reason r coming e [] reactions stale = down_ending U reason r e.linked coming.breath (first_reaction coming.reactions) e.coming e.waiting e.upper [] e.queue e.talk
down_lost U reason r coming e (event ∷ owed) reactions stale = rw (stale refl) refl

pub owes : {S G : Type 0} (U : Upper S G) (coming : Coming G) (event : LinkEvent) (e : End S) → Sound U (before event) e → Owes U coming event e
owes U coming Up e sound = record {
  sound = record {
    hearing = sound.hearing;
    off_waiting = sound.off_waiting;
    off_coming = sound.off_coming;
    off_queue = sound.off_queue;
    owed_queue = λ some. no_queue e.owed e.linked e.queue sound.chain sound.off_queue sound.owed_queue;
    chain = chain_more Up e.owed e.linked sound.chain;
  };
  reaction = first_reaction (reactions_past e.owed (behind e.coming coming.reactions));
  comes = events_append U e.owed (Up ∷ []) (behind e.coming coming.reactions) (ending U e.linked coming.breath (first_reaction coming.reactions) e.coming e.waiting (plain e));
}
owes U coming (Down reason) e sound = record {
  sound = record {
    hearing = sound.hearing;
    off_waiting = sound.off_waiting;
    off_coming = sound.off_coming;
    off_queue = λ off. refl;
    owed_queue = λ some. refl;
    chain = chain_more (Down reason) e.owed e.linked sound.chain;
  };
  reaction = first_reaction (reactions_past e.owed (behind e.coming coming.reactions));
  comes = events_append U e.owed (Down reason ∷ []) (behind e.coming coming.reactions) (ending U e.linked coming.breath (first_reaction coming.reactions) e.coming e.waiting (party e.upper [] e.talk))
      ∙ down_lost U reason (first_reaction (reactions_past e.owed (behind e.coming coming.reactions))) coming e e.owed (behind e.coming coming.reactions) sound.owed_queue;
}
