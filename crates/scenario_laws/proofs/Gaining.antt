-- The inbox gains what the capture spells.
use Rattle.std.proofs.Common.{◌≡◌, ℕ, ◌==◌, inl, inr, Bool, true, false, cond, List, [], ◌∷◌, ◌++◌, map, drop, Option, Some, None, refl, sym, ap, ap₂, subst, ◌∙◌}
use Rattle.std.specs.List.{AllByRecursion, flat_map}
use Rattle.std.proofs.lemmas.List.{append-nil}
use Rattle.std.proofs.lemmas.List.Concat.{flat_map-append}
use Rattle.std.proofs.lemmas.List.Elements.{filter-append}
use Rattle.radio_world.specs.bt_base.specs.declared.settings.Settings.{Settings}
use Rattle.radio_world.specs.bt_base.specs.declared.settings.Transport.{Transport}
use Rattle.radio_world.specs.bt_base.specs.Objects.{Object}
use Rattle.radio_world.specs.push_terms.specs.declared.word.Side.TheVariants as sides
use Rattle.host_laws.specs.acl_fragments.specs.Pieces.{channel_of}
use Rattle.radio_world.specs.capture.specs.declared.flow.Flow.{Flow}
use Rattle.radio_world.specs.capture.specs.declared.flow.Flow.TheVariants.{Out}
use Rattle.radio_world.specs.capture.specs.Histories.{EachAfter}
use Rattle.radio_world.specs.capture.specs.Links.{Link, links, link_up}
use Rattle.radio_world.specs.capture.specs.Pdus.{Pdu, pdus}
use Rattle.host_laws.specs.l2cap_signal.specs.Reading.{Answer, answers}
use Rattle.host_laws.specs.link_talk.specs.Captures.{talks}
use Rattle.host_laws.specs.link_talk.specs.declared.party.Party.{Party}
use Rattle.host_laws.specs.link_talk.specs.ObjectsHeard.{objects}
use Rattle.host_laws.specs.link_talk.specs.Sayings.{Saying, Command, Carried, said_by, talk}
use Rattle.host_laws.specs.push_model.specs.Client.{own_maximum}
use Rattle.host_laws.specs.world_model.specs.Talks.{Talk}
use Rattle.host_laws.specs.Calm.{pdus_in}
use Rattle.host_laws.specs.Carriers.{objects_moved}
use Rattle.host_laws.specs.OverLinks.{GoesOut, parts, moved_in, talk_marks}
use Rattle.host_laws.specs.Seen.{is_spoken, spoken_of}
use Rattle.host_laws.specs.Spoken.{AsksForNone, GrantsAnew, IsServed}
use Rattle.host_laws.proofs.Carriers.{hosts_gain_by_carriers}
use Rattle.host_laws.proofs.GainingOver.{hosts_read_over_links}
use Rattle.host_laws.proofs.Serving.{hosts_gain}
use Rattle.host_laws.proofs.Spoken.{objects-move}
use Rattle.scenario_laws.specs.Coming.{out_of, FallTo}
use Rattle.scenario_laws.specs.Gains.{holding, asked_by, ReadServer, ServersAreRead, GainsExactly, behind_last, carried_links, GainsOverEither}
use Rattle.scenario_laws.specs.Parties.{party_of}
use Rattle.scenario_laws.proofs.Wishes.{states_frame}

-- ---- what PDUs say

abbrev said_all : List Pdu → List Saying
said_all list = flat_map said_by list

commands_spoken : (flow : Flow) (list : List Answer) → spoken_of (map (Command flow) list) ≡ map (Command flow) list
commands_spoken flow [] = refl
commands_spoken flow (one ∷ list) = ap (λ (l : List Saying). Command flow one ∷ l) (commands_spoken flow list)

-- nothing of it is given up
one_spoken : (pdu : Pdu) → spoken_of (said_by pdu) ≡ said_by pdu
one_spoken pdu = by (channel_of pdu.octets == 0x0001)
  where
    by : (b : Bool) → spoken_of (cond b (map (Command pdu.flow) (answers (drop 4 pdu.octets))) (Carried pdu.flow pdu.octets ∷ [])) ≡ cond b (map (Command pdu.flow) (answers (drop 4 pdu.octets))) (Carried pdu.flow pdu.octets ∷ [])
    by true = commands_spoken pdu.flow (answers (drop 4 pdu.octets))
    by false = refl

all_spoken : (list : List Pdu) → spoken_of (said_all list) ≡ said_all list
all_spoken [] = refl
all_spoken (pdu ∷ list) = filter-append is_spoken (said_by pdu) (said_all list) ∙ ap₂ (λ (x y : List Saying). x ++ y) (one_spoken pdu) (all_spoken list)

-- what a host says goes out
commands_out : (list : List Answer) → AllByRecursion GoesOut (map (Command Out) list)
commands_out [] = tt
commands_out (one ∷ list) = (tt, commands_out list)

one_out : (pdu : List ℕ) → AllByRecursion GoesOut (said_by (out_of pdu))
one_out pdu = by (channel_of pdu == 0x0001)
  where
    by : (b : Bool) → AllByRecursion GoesOut (cond b (map (Command Out) (answers (drop 4 pdu))) (Carried Out pdu ∷ []))
    by true = commands_out (answers (drop 4 pdu))
    by false = (tt, tt)

pub both_out : (xs ys : List Saying) → AllByRecursion GoesOut xs → AllByRecursion GoesOut ys → AllByRecursion GoesOut (xs ++ ys)
both_out [] ys one two = two
both_out (x ∷ xs) ys one two = (one.0, both_out xs ys one.1 two)

pub all-out : (unsent : List (List ℕ)) → AllByRecursion GoesOut (said_all (map out_of unsent))
all-out [] = tt
all-out (pdu ∷ unsent) = both_out (said_by (out_of pdu)) (said_all (map out_of unsent)) (one_out pdu) (all-out unsent)

-- ---- what a front of a talk has

all_front : {X : Type 0} (P : X → Type 0) (xs ys : List X) → AllByRecursion P (xs ++ ys) → AllByRecursion P xs
all_front P [] ys all = tt
all_front P (x ∷ xs) ys all = (all.0, all_front P xs ys all.1)

each_front : {X : Type 0} (P : List X → X → Type 0) (past xs ys : List X) → EachAfter P past (xs ++ ys) → EachAfter P past xs
each_front P past [] ys each = tt
each_front P past (x ∷ xs) ys each = (each.0, each_front P (past ++ x ∷ []) xs ys each.1)

front_served : (xs ys : List Saying) → IsServed (xs ++ ys) → IsServed xs
front_served xs ys served = record { asks_for_none = all_front AsksForNone xs ys served.asks_for_none; given_once = each_front GrantsAnew [] xs ys served.given_once }

-- ---- parts and links

part_spells : (party : Party) (part : List Talk) (link : List Pdu) (unsent : List (List ℕ)) → flat_map pdus_in part ≡ link ++ map out_of unsent → IsServed (moved_in part) → objects party (moved_in part) ≡ objects party (said_all link)
part_spells party part link unsent moved served =
    let both : moved_in part ≡ said_all link ++ said_all (map out_of unsent) = ap said_all moved ∙ flat_map-append said_by link (map out_of unsent) in
    objects-move party (moved_in part) (said_all link) (said_all (map out_of unsent)) (all_spoken (flat_map pdus_in part) ∙ both) (all-out unsent) (front_served (said_all link) (said_all (map out_of unsent)) (subst IsServed both served))

abbrev pub spelled_on : Party → List (List Pdu) → List Object
spelled_on party links = flat_map (λ link. objects party (said_all link)) links

pub all_spell : (party : Party) (ps : List (List Talk)) (links : List (List Pdu)) → FallTo ps links → AllByRecursion (λ part. IsServed (moved_in part)) ps → flat_map (λ part. objects party (moved_in part)) ps ≡ spelled_on party links
all_spell party [] links none served = ap (spelled_on party) (sym none)
all_spell party (part ∷ ps) links fall served =
    elim fall [
      | inl (silent, more) ↦ ap₂ (λ (x y : List Object). x ++ y) (ap (λ (l : List Pdu). objects party (said_all l)) silent) (all_spell party ps links more served.1)
      | inr (link, rest, unsent, is, moved, more) ↦
          ap₂ (λ (x y : List Object). x ++ y) (part_spells party part link unsent moved served.0) (all_spell party ps rest more served.1) ∙ ap (spelled_on party) (sym is)
    ]

-- ---- links of a capture

pub link_talks : (party : Party) (list : List Link) → spelled_on party (map pdus list) ≡ flat_map (objects party) (map talk list)
link_talks party [] = refl
link_talks party (link ∷ list) = ap (λ (l : List Object). objects party (talk link) ++ l) (link_talks party list)

-- ---- the inbox

pub servers_are_read : ServersAreRead
servers_are_read asks scenario before capture ran transport read =
    let settings = scenario.settings in
    let party = party_of settings sides.B in
    let talk = read.came.talk in
    hosts_read_over_links settings (holding before) party (asked_by asks settings before) talk ran.world.b.upper read.so (states_frame settings true sides.B) (ap (λ (t : Transport). own_maximum t settings) transport)
    read.direct read.carried read.carries read.granted
    ∙ (all_spell party (parts talk) (map pdus (links sides.B capture)) read.came.fall read.granted ∙ link_talks party (links sides.B capture))

pub gains_exactly : GainsExactly
gains_exactly asks scenario before capture ran transport orderly =
    let settings = scenario.settings in
    let read : ReadServer asks settings before capture ran.world.b.upper =
    record { came = orderly.came; so = orderly.so; direct = orderly.direct; carried = orderly.carried; carries = orderly.carries; granted = orderly.granted } in
    hosts_gain settings before (asked_by asks settings before) (flat_map talk_marks orderly.came.talk) ran.world.b.upper orderly.so.lives orderly.comes
    ∙ ap (λ (l : List Object). Some (before ++ l)) (servers_are_read asks scenario before capture ran transport read)

-- ---- over either transport

moved_objects : (settings : Settings) (list : List (List Saying)) → objects_moved settings settings.mps (map (λ said. record { transport = settings.transport; moved = said }) list) ≡ flat_map (objects (party_of settings sides.B)) list
moved_objects settings [] = refl
moved_objects settings (said ∷ list) = ap (λ (l : List Object). objects (party_of settings sides.B) said ++ l) (moved_objects settings list)

none_behind : (party : Party) (up : Option Link) → flat_map (objects party) (behind_last up) ≡ []
none_behind party None = refl
none_behind party (Some link) = refl

pub gains_over_either : GainsOverEither
gains_over_either asks scenario before capture ran serves =
    let settings = scenario.settings in
    let party = party_of settings sides.B in
    let gains = hosts_gain_by_carriers settings before settings.mps (asked_by asks settings before) (flat_map talk_marks serves.came.talk) ran.world.b.upper serves.so.lives serves.comes (carried_links settings capture) serves.read in
    gains ∙ ap (λ (l : List Object). Some (before ++ l))
    (moved_objects settings (talks sides.B capture ++ behind_last (link_up sides.B capture))
    ∙ (flat_map-append (objects party) (talks sides.B capture) (behind_last (link_up sides.B capture))
    ∙ (ap (λ (l : List Object). flat_map (objects party) (talks sides.B capture) ++ l) (none_behind party (link_up sides.B capture)) ∙ append-nil (flat_map (objects party) (talks sides.B capture)))))
