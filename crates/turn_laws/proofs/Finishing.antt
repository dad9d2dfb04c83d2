-- What one host comes to when all that is on its way has moved: no motion changes that.
use Rattle.std.proofs.Common.{ℕ, suc, ◌≡◌, Bool, true, false, List, [], ◌∷◌, ◌++◌, Some, None, map, take, drop, is_none, ◌&&◌, refl, ap, ◌∙◌}
use Rattle.std.proofs.Math.Seq.{take-nil, drop-nil}
use Rattle.std.proofs.lemmas.List.{append_assoc, append-nil}
use Rattle.world_model.specs.radio_model.specs.Controllers.{is_empty}
use Rattle.world_model.specs.Machines.{LinkEvent, Down, Heard, Upper, drain, all_said, Breath, Whole, Short, Reaction}
use Rattle.world_model.specs.Talks.{Talk, Told, Said, Unsent}
use Rattle.world_model.specs.Turns.{Party, stops_short, breathes, speaks_on, hears, event_heard}
use Rattle.world_model.specs.Carriages.{End}
use Rattle.turn_laws.proofs.Saying.{drain_none, drain_some, all_said_none, all_said_some}

abbrev pub party : {S : Type 0} → S → List (List ℕ) → List Talk → Party S
party upper queue talk = record { upper = upper; queue = queue; talk = talk; whole = true }

abbrev pub plain : {S : Type 0} → End S → Party S
plain e = party e.upper e.queue e.talk

pub same_party : {S : Type 0} {s t : S} {q p : List (List ℕ)} {k l : List Talk} → s ≡ t → q ≡ p → k ≡ l → Path (Party S) (party s q k) (party t p l)
same_party e f g = λ i. record { upper = e i; queue = f i; talk = g i; whole = true }

pub same_full : {S : Type 0} {s t : S} {q p : List (List ℕ)} {k l : List Talk} {u v : Bool} → s ≡ t → q ≡ p → k ≡ l → u ≡ v
    → Path (Party S) (record { upper = s; queue = q; talk = k; whole = u }) (record { upper = t; queue = p; talk = l; whole = v })
same_full e f g h = λ i. record { upper = e i; queue = f i; talk = g i; whole = h i }

-- ---- what is still to come

-- how far it comes with what it has to say now, and the reactions behind that
pub record Coming (G : Type 0) : Type 0 where
  pub breath : Breath
  pub reactions : List (Reaction G)

abbrev pub nothing_more : {G : Type 0} → Coming G
nothing_more = record { breath = Whole; reactions = [] }

abbrev pub first_reaction : {G : Type 0} → List (Reaction G) → Reaction G
first_reaction [] = record { answers = []; breath = Whole }
first_reaction (reaction ∷ reactions) = reaction

abbrev pub later : {G : Type 0} → List (Reaction G) → List (Reaction G)
later [] = []
later (reaction ∷ reactions) = reactions

abbrev pub behind : {G : Type 0} → List (List ℕ) → List (Reaction G) → List (Reaction G)
behind [] reactions = reactions
behind (pdu ∷ pdus) reactions = later reactions

-- a reaction that comes first, and how far it comes is what was to come now
abbrev pub reacting : {G : Type 0} → List G → Coming G → Coming G
reacting answers coming = record { breath = Whole; reactions = record { answers = answers; breath = coming.breath } ∷ coming.reactions }

-- a reaction that speaks no more
abbrev pub ended : {G : Type 0} → List G → Coming G → Coming G
ended answers coming = record { breath = Short 0 0; reactions = record { answers = answers; breath = coming.breath } ∷ coming.reactions }

-- ---- what a host comes to

abbrev pub ending : {S G : Type 0} → Upper S G → Bool → Breath → Reaction G → (coming waiting : List (List ℕ)) → Party S → Party S
ending U linked breath reaction [] waiting p = speaks_on U linked breath waiting p
ending U linked breath reaction (pdu ∷ pdus) waiting p = hears U linked reaction (Heard pdu) p

abbrev pub events_heard : {S G : Type 0} → Upper S G → List LinkEvent → List (Reaction G) → Party S → Party S
events_heard U [] reactions p = p
events_heard U (event ∷ events) reactions p = events_heard U events (later reactions) (event_heard U event (first_reaction reactions) p)

abbrev pub comes_to : {S G : Type 0} → Upper S G → Coming G → End S → Party S
comes_to U coming e =
    events_heard U e.owed (behind e.coming coming.reactions) (ending U e.linked coming.breath (first_reaction coming.reactions) e.coming e.waiting (plain e))

-- ---- a host that has nothing to say

short_none : {S G : Type 0} (U : Upper S G) (moved : ℕ) (s : S) (queue : List (List ℕ)) (talk : List Talk) → U.next s ≡ None
    → stops_short U moved (record { said = []; after = s }) [] (party s queue talk) ≡ party s queue talk
short_none {S} U moved s queue talk none =
    let taken = take-nil {A = List ℕ} moved in
    let left = drop-nil {A = List ℕ} moved in
    same_full refl
    (ap (λ (l : List (List ℕ)). queue ++ l) taken ∙ append-nil queue)
    (ap (λ (l : List (List ℕ)). talk ++ (map Said l ++ map Unsent (drop moved []))) taken ∙ ap (λ (l : List (List ℕ)). talk ++ map Unsent l) left ∙ append-nil talk)
    (rw (none, left) refl)

breathes_none : {S G : Type 0} (U : Upper S G) (breath : Breath) (s : S) (queue : List (List ℕ)) (talk : List Talk) → U.next s ≡ None → breathes U breath [] (party s queue talk) ≡ party s queue talk
breathes_none U Whole s queue talk none = rw (all_said_none U s none) (same_party refl (append-nil queue) (append-nil talk))
breathes_none U (Short moved asked) s queue talk none = rw (drain_none U asked s none) (short_none U moved s queue talk none)

pub speaks_none : {S G : Type 0} (U : Upper S G) (linked : Bool) (breath : Breath) (waiting : List (List ℕ)) (s : S) (queue : List (List ℕ)) (talk : List Talk)
    → waiting ≡ [] → (linked ≡ true → U.next s ≡ None) → speaks_on U linked breath waiting (party s queue talk) ≡ party s queue talk
speaks_none U true breath waiting s queue talk empty none = rw empty (breathes_none U breath s queue talk (none refl))
speaks_none U false breath waiting s queue talk empty none = refl

-- ---- it says a PDU

abbrev pub once_more_asked : Breath → Breath
once_more_asked Whole = Whole
once_more_asked (Short moved asked) = Short moved (suc asked)

abbrev same_short : {S G : Type 0} → Upper S G → ℕ → S → List (List ℕ) → List Talk → List (List ℕ) → Party S
same_short U moved after queue talk all = record {
  upper = after;
  queue = queue ++ take moved all;
  talk = talk ++ (map Said (take moved all) ++ map Unsent (drop moved all));
  whole = is_none (U.next after) && is_empty (drop moved all);
}

pub says_same :
    {S G : Type 0} (U : Upper S G) (breath : Breath) (waiting : List (List ℕ)) (s t : S) (pdu : List ℕ) (queue : List (List ℕ)) (talk : List Talk) → U.next s ≡ Some (pdu, t)
    → breathes U breath (waiting ++ pdu ∷ []) (party t queue talk) ≡ breathes U (once_more_asked breath) waiting (party s queue talk)
says_same U Whole waiting s t pdu queue talk is =
    rw (all_said_some U s pdu t is) (ap (λ (l : List (List ℕ)). party (all_said U t).after (queue ++ l) (talk ++ map Said l)) (append_assoc waiting (pdu ∷ []) (all_said U t).said))
says_same {S} U (Short moved asked) waiting s t pdu queue talk is =
    let A : S = (drain U asked t).after in
    rw (drain_some U asked s pdu t is)
    (ap (λ (l : List (List ℕ)). same_short U moved A queue talk l) (append_assoc waiting (pdu ∷ []) (drain U asked t).said))

-- ---- the first that it said moves

abbrev pub once_more_moved : Breath → Breath
once_more_moved Whole = Whole
once_more_moved (Short moved asked) = Short (suc moved) asked

pub departs_same :
    {S G : Type 0} (U : Upper S G) (breath : Breath) (left : List (List ℕ)) (pdu : List ℕ) (s : S) (queue : List (List ℕ)) (talk : List Talk)
    → breathes U breath left (party s (queue ++ pdu ∷ []) (talk ++ Said pdu ∷ [])) ≡ breathes U (once_more_moved breath) (pdu ∷ left) (party s queue talk)
departs_same U Whole left pdu s queue talk =
    same_party refl (append_assoc queue (pdu ∷ []) (left ++ (all_said U s).said)) (append_assoc talk (Said pdu ∷ []) (map Said (left ++ (all_said U s).said)))
departs_same U (Short moved asked) left pdu s queue talk =
    same_full refl
    (append_assoc queue (pdu ∷ []) (take moved (left ++ (drain U asked s).said)))
    (append_assoc talk (Said pdu ∷ []) (map Said (take moved (left ++ (drain U asked s).said)) ++ map Unsent (drop moved (left ++ (drain U asked s).said))))
    refl

-- what is in the air does not matter to a host that is told that its link is gone
down_breathes : {S G : Type 0} (U : Upper S G) (reason : ℕ) (r : Reaction G) (breath : Breath) (waiting : List (List ℕ)) (s : S) (queue other : List (List ℕ)) (talk : List Talk)
    → event_heard U (Down reason) r (breathes U breath waiting (party s queue talk)) ≡ event_heard U (Down reason) r (breathes U breath waiting (party s other talk))
down_breathes U reason r Whole waiting s queue other talk = refl
down_breathes U reason r (Short moved asked) waiting s queue other talk = refl

pub down_same : {S G : Type 0} (U : Upper S G) (reason : ℕ) (r : Reaction G) (linked : Bool) (breath : Breath) (waiting : List (List ℕ)) (s : S) (queue other : List (List ℕ)) (talk : List Talk)
    → event_heard U (Down reason) r (speaks_on U linked breath waiting (party s queue talk)) ≡ event_heard U (Down reason) r (speaks_on U linked breath waiting (party s other talk))
down_same U reason r true breath waiting s queue other talk = down_breathes U reason r breath waiting s queue other talk
down_same U reason r false breath waiting s queue other talk = refl

pub down_ending : {S G : Type 0} (U : Upper S G) (reason : ℕ) (r : Reaction G) (linked : Bool) (breath : Breath) (reaction : Reaction G) (coming waiting : List (List ℕ)) (s : S) (queue other : List (List ℕ)) (talk : List Talk)
    → event_heard U (Down reason) r (ending U linked breath reaction coming waiting (party s queue talk)) ≡ event_heard U (Down reason) r (ending U linked breath reaction coming waiting (party s other talk))
down_ending U reason r linked breath reaction [] waiting s queue other talk = down_same U reason r linked breath waiting s queue other talk
down_ending U reason r linked breath reaction (pdu ∷ pdus) waiting s queue other talk =
    down_same U reason r linked reaction.breath [] (U.hear reaction.answers (Heard pdu) s) queue other (talk ++ Told (Heard pdu) ∷ [])

-- ---- events

abbrev pub reactions_past : {G : Type 0} → List LinkEvent → List (Reaction G) → List (Reaction G)
reactions_past [] reactions = reactions
reactions_past (event ∷ events) reactions = reactions_past events (later reactions)

pub events_append : {S G : Type 0} (U : Upper S G) (one two : List LinkEvent) (reactions : List (Reaction G)) (p : Party S)
    → events_heard U (one ++ two) reactions p ≡ events_heard U two (reactions_past one reactions) (events_heard U one reactions p)
events_append U [] two reactions p = refl
events_append U (event ∷ one) two reactions p = events_append U one two (later reactions) (event_heard U event (first_reaction reactions) p)
