-- What a host was told and said on its last link, with the firings of its timer, is what its units and its timer say.
use Rattle.std.proofs.Common.{◌≡◌, ℕ, Bool, true, false, cond, is_some, List, [], ◌∷◌, ◌++◌, map, length, drop, fold, Option, Some, None, refl, sym, ap, ◌∙◌, append_assoc, if◌then◌else◌}
use Rattle.std.specs.List.{flat_map}
use Rattle.std.specs.Option.{option_map}
use Rattle.std.proofs.lemmas.List.{append-nil}
use Rattle.std.proofs.lemmas.List.Concat.{flat_map-append}
use Rattle.std.proofs.lemmas.List.Sums.{fold-append}
use Rattle.scenario_laws.specs.capture.specs.declared.flow.Flow.{Flow}
use Rattle.scenario_laws.specs.capture.specs.Links.{Link}
use Rattle.scenario_laws.specs.capture.specs.Moves.{Move}
use Rattle.scenario_laws.specs.capture.specs.Pdus.{Pdu, pdus}
use Rattle.scenario_laws.specs.channel_laws.specs.Runs.{Occurrence, Gives}
use Rattle.scenario_laws.specs.world_model.specs.Machines.{LinkEvent, Linked, Failed, Heard, TimerFired, Cancelled, Opening}
use Rattle.scenario_laws.specs.world_model.specs.PerLink.{Linkage, pdus_of, with_moved}
use Rattle.scenario_laws.specs.world_model.specs.Talks.{Talk, Told, Unsent}
use Rattle.scenario_laws.specs.host_laws.specs.OverLinks.{turns_link, talk_outer}
use Rattle.scenario_laws.proofs.Parting.{now_from}
use Rattle.unit_laws.specs.Timed.{Timed, timed_after, timed_on, passed, occurred, news_ticks, ticks_of}
use Rattle.unit_laws.specs.Units.{Occasion, Comes, Learns, Says, Puts, Commands, Waits, units_of}

-- ---- talk

abbrev pub talk_timed : List Occurrence → Talk → List Occurrence
talk_timed list one = if turns_link one then [] else list ++ talk_outer one

-- what stands of it behind the last time that the link turned
abbrev pub timed_talk : List Talk → List Occurrence
timed_talk talk = fold talk_timed [] talk

pub timed_one : (talk : List Talk) (one : Talk) → timed_talk (talk ++ one ∷ []) ≡ talk_timed (timed_talk talk) one
timed_one talk one = fold-append talk_timed [] talk (one ∷ [])

pub timed_told : (talk : List Talk) (one : Talk) (list : List Occurrence) → turns_link one ≡ false → timed_talk talk ≡ list → timed_talk (talk ++ one ∷ []) ≡ list ++ talk_outer one
timed_told talk one list keeps is = timed_one talk one ∙ (ap (λ (b : Bool). if b then [] else timed_talk talk ++ talk_outer one) keeps ∙ ap (λ (l : List Occurrence). l ++ talk_outer one) is)

pub timed_turned : (talk : List Talk) (waiting : List (List ℕ)) (event : LinkEvent) → timed_talk (talk ++ (map Unsent waiting ++ Told (Linked event) ∷ [])) ≡ []
timed_turned talk waiting event = ap timed_talk (sym (append_assoc talk (map Unsent waiting) (Told (Linked event) ∷ []))) ∙ timed_one (talk ++ map Unsent waiting) (Told (Linked event))

unsent_from : (list : List Occurrence) (waiting : List (List ℕ)) → fold talk_timed list (map Unsent waiting) ≡ list ++ map Gives waiting
unsent_from list [] = sym (append-nil list)
unsent_from list (pdu ∷ waiting) = unsent_from (list ++ Gives pdu ∷ []) waiting ∙ append_assoc list (Gives pdu ∷ []) (map Gives waiting)

pub timed_unsent : (talk : List Talk) (waiting : List (List ℕ)) → timed_talk (talk ++ map Unsent waiting) ≡ timed_talk talk ++ map Gives waiting
timed_unsent talk waiting = fold-append talk_timed [] talk (map Unsent waiting) ∙ unsent_from (timed_talk talk) waiting

-- as the last part of it has it
outer_by : (b : Bool) (now more : List Talk) (list : List Occurrence) (talk : List Talk) → flat_map talk_outer now ≡ fold talk_timed [] talk → flat_map talk_outer more ≡ fold talk_timed list talk → flat_map talk_outer (cond b now more) ≡ fold talk_timed (if b then [] else list) talk
outer_by true now more list talk one other = one
outer_by false now more list talk one other = other

pub now_timed : (part talk : List Talk) → flat_map talk_outer (now_from part talk) ≡ fold talk_timed (flat_map talk_outer part) talk
now_timed part [] = refl
now_timed part (one ∷ talk) =
    outer_by (turns_link one) (now_from [] talk) (now_from (part ++ one ∷ []) talk) (flat_map talk_outer part ++ talk_outer one) talk (now_timed [] talk)
    (now_timed (part ++ one ∷ []) talk
    ∙ ap (λ (l : List Occurrence). fold talk_timed l talk) (flat_map-append talk_outer part (one ∷ []) ∙ ap (λ (l : List Occurrence). flat_map talk_outer part ++ l) (append-nil (talk_outer one))))

-- ---- units

left_over : (xs ys : List Pdu) → drop (length xs) (xs ++ ys) ≡ ys
left_over [] ys = refl
left_over (x ∷ xs) ys = left_over xs ys

all_left : (xs : List Pdu) → drop (length xs) xs ≡ []
all_left [] = refl
all_left (x ∷ xs) = all_left xs

pub timed_same : (up : Option (List Pdu)) (list : List Occurrence) → timed_on up up list ≡ list
timed_same None list = refl
timed_same (Some old) list = ap (λ (l : List Pdu). list ++ map occurred l) (all_left old) ∙ append-nil list

all_passed : (flow : Flow) (octets : List (List ℕ)) → map occurred (pdus_of flow octets) ≡ map (passed flow) octets
all_passed flow [] = refl
all_passed flow (pdu ∷ octets) = ap (λ (l : List Occurrence). passed flow pdu ∷ l) (all_passed flow octets)

moved_on : (up : Option (List Pdu)) (flow : Flow) (octets : List (List ℕ)) (list : List Occurrence) → is_some up ≡ true → timed_on up (option_map (λ now. now ++ pdus_of flow octets) up) list ≡ list ++ map (passed flow) octets
moved_on None flow octets list on = cc
moved_on (Some old) flow octets list on = ap (λ (l : List Pdu). list ++ map occurred l) (left_over old (pdus_of flow octets)) ∙ ap (λ (l : List Occurrence). list ++ l) (all_passed flow octets)

pub timed_moved : (flow : Flow) (octets : List (List ℕ)) (l : Linkage) (list : List Occurrence) → is_some l.up ≡ true → timed_on l.up (with_moved flow octets l).up list ≡ list ++ map (passed flow) octets
timed_moved flow octets l list on = moved_on l.up flow octets list on

pub timed_down : (up : Option (List Pdu)) (list : List Occurrence) → is_some up ≡ true → timed_on up None list ≡ []
timed_down None list on = cc
timed_down (Some old) list on = refl

pub timed_up : (up : Option (List Pdu)) (list : List Occurrence) → up ≡ None → timed_on up (Some []) list ≡ []
timed_up up list off = ap (λ (u : Option (List Pdu)). timed_on u (Some []) list) off

-- a link is up where its line has it
pub none_shown : (up : Option Link) → option_map (λ (link : Link). link.handle) up ≡ None → option_map pdus up ≡ None
none_shown None off = refl
none_shown (Some link) off = cc

pub some_shown : (up : Option Link) (handle : ℕ) → option_map (λ (link : Link). link.handle) up ≡ Some handle → is_some (option_map pdus up) ≡ true
some_shown None handle on = cc
some_shown (Some link) handle on = refl

-- ---- ticks

same_moved : (old : Timed) → old ≡ record { moved = old.moved ++ []; list = old.list }
same_moved old = ap (λ (l : List Move). let now : Timed = record { moved = l; list = old.list } in now) (sym (append-nil old.moved))

-- the units of an occasion are behind those before it
pub occasion_timed : {G : Type 0} (old : Timed) (occasion : Occasion G) → fold timed_after old (ticks_of occasion) ≡ record { moved = old.moved ++ units_of occasion; list = (fold timed_after old (ticks_of occasion)).list }
occasion_timed old (Comes gifts unit) = refl
occasion_timed old (Learns gifts (Linked event)) = same_moved old
occasion_timed old (Learns gifts (Failed status)) = same_moved old
occasion_timed old (Learns gifts (Heard pdu)) = same_moved old
occasion_timed old (Learns gifts TimerFired) = same_moved (fold timed_after old (news_ticks TimerFired))
occasion_timed old (Learns gifts Cancelled) = same_moved old
occasion_timed old (Learns gifts (Opening name)) = same_moved old
occasion_timed old (Says pdu) = same_moved old
occasion_timed old (Puts handle piece) = refl
occasion_timed old (Commands command) = refl
occasion_timed old Waits = same_moved old
