-- What happens between one host and the radio, one after the other.
use Rattle.std.proofs.Common.{◌≡◌, ℕ, List, [], ◌∷◌, ◌++◌, map, Option, refl, sym, ap, subst, ◌∙◌, append_assoc}
use Rattle.std.proofs.lemmas.List.{append-nil, map-append}
use Rattle.std.proofs.lemmas.Grind.{flat_map-append}
use Rattle.bt_base.specs.Streams.{gained}
use Rattle.bt_base.proofs.PortLaws.{gained-gained, gained-nil}
use Rattle.push_terms.specs.declared.word.Side.{Side}
use Rattle.capture.specs.Entries.{Entry, capture_octets}
use Rattle.capture.proofs.MoreLaws.{octets-in_parts}
use Rattle.radio_model.specs.Radio.{after_offer}
use Rattle.room_laws.specs.world_model.specs.Machines.{Upper}
use Rattle.room_laws.specs.world_model.specs.Stations.{Order, Station}
use Rattle.room_laws.specs.world_model.specs.Worlds.{all_entries, entries_of}
use Rattle.radio_world.specs.Hosts.{Asking, answering, Reacts, JoinAnswers, AreSent}
use Rattle.radio_world.specs.Leaving.{Medium, after_all, after_leaving, in_radio, leaving_entry, leaving_entries}
use Rattle.radio_world.specs.Halves.{Half, Motion, Leaving, Returning, happening_of, happenings_of, MakesAll, half_of, Goes}
use Rattle.radio_world.proofs.Entering.{tryings, tries, silent}
use Rattle.radio_world.proofs.Spelled.{each_of_same, each_then, sent_are_entries}

-- ---- lists of motions

pub makes_then : {S G : Type 0} (U : Upper S G) (side : Side) (xs ys : List Motion) (old mid new : Half S) → MakesAll U side xs old mid → MakesAll U side ys mid new → MakesAll U side (xs ++ ys) old new
makes_then {S} U side [] ys old mid new first second = subst (λ (h : Half S). MakesAll U side ys h new) first second
makes_then U side (x ∷ xs) ys old mid new first second = (first.0, first.1, makes_then U side xs ys first.0 mid new first.2 second)

pub entries_of_both : (side : Side) (xs ys : List Motion) → all_entries (happenings_of side (xs ++ ys)) ≡ all_entries (happenings_of side xs) ++ all_entries (happenings_of side ys)
entries_of_both side xs ys = ap all_entries (map-append (happening_of side) xs ys) ∙ flat_map-append entries_of (happenings_of side xs) (happenings_of side ys)

pub written_then :
    (trace trace' trace'' : Option (List ℕ)) (xs ys both : List Entry) → both ≡ xs ++ ys → trace' ≡ gained trace (capture_octets xs) → trace'' ≡ gained trace' (capture_octets ys)
    → trace'' ≡ gained trace (capture_octets both)
written_then trace trace' trace'' xs ys both are first second =
    second ∙ ap (λ t. gained t (capture_octets ys)) first ∙ gained-gained trace (capture_octets xs) (capture_octets ys) ∙ ap (gained trace) (sym (ap capture_octets are ∙ octets-in_parts xs ys))

-- ---- going on

pub goes_none : {S G P : Type 0} (U : Upper S G) (side : Side) (Answers : P → List G → P → Type 0) (medium : Medium) (host : Asking S G) (port : P) (trace : Option (List ℕ)) → JoinAnswers Answers → Goes U side Answers medium medium host host port port trace trace
goes_none U side Answers medium host port trace joins = record {
  motions = [];
  used = [];
  answered = joins.none port;
  makes = λ rest. refl;
  written = sym (gained-nil trace);
  each = tt;
}

unfoldable pub goes_then :
    {S G P : Type 0} (U : Upper S G) (side : Side) (Answers : P → List G → P → Type 0) (first mid last : Medium) (host host' host'' : Asking S G) (port port' port'' : P) (trace trace' trace'' : Option (List ℕ))
    → JoinAnswers Answers → Goes U side Answers first mid host host' port port' trace trace' → Goes U side Answers mid last host' host'' port' port'' trace' trace''
    → Goes U side Answers first last host host'' port port'' trace trace''
goes_then {S} {G} U side Answers first mid last host host' host'' port port' port'' trace trace' trace'' joins one two = record {
  motions = one.motions ++ two.motions;
  used = one.used ++ two.used;
  answered = joins.then port port' port'' one.used two.used one.answered two.answered;
  makes = λ rest.
      subst (λ (gs : List G). MakesAll U side (one.motions ++ two.motions) (half_of first host gs) (half_of last host'' rest)) (sym (append_assoc one.used two.used rest))
      (makes_then U side one.motions two.motions (half_of first host (one.used ++ (two.used ++ rest))) (half_of mid host' (two.used ++ rest)) (half_of last host'' rest) (one.makes (two.used ++ rest)) (two.makes rest));
  written = written_then trace trace' trace'' (all_entries (happenings_of side one.motions)) (all_entries (happenings_of side two.motions)) _ (entries_of_both side one.motions two.motions) one.written two.written;
  each = each_then (all_entries (happenings_of side one.motions)) (all_entries (happenings_of side two.motions)) _ (entries_of_both side one.motions two.motions) one.each two.each;
}

-- ---- all that a host put out moves

abbrev pub leavings : List Order → List Motion
leavings orders = map Leaving orders

pub leaving_are : (side : Side) (orders : List Order) → all_entries (happenings_of side (leavings orders)) ≡ leaving_entries side orders
leaving_are side [] = refl
leaving_are side (order ∷ orders) = ap (λ es. leaving_entry side order ∷ es) (leaving_are side orders)

pub leave : {S G : Type 0} (U : Upper S G) (side : Side) (orders : List Order) (medium : Medium) (station : Station S) → station.out ≡ orders
    → MakesAll U side (leavings orders) (record { medium = medium; station = station }) (record { medium = after_all side orders medium; station = record station { out = [] } })
leave U side [] medium station are = ap (λ out. record { medium = medium; station = record station { out = out } }) (sym are)
leave U side (order ∷ orders) medium station are =
    (record { medium = after_leaving side order medium; station = record station { out = orders } }, (orders, are, refl), leave U side orders (after_leaving side order medium) (record station { out = orders }) refl)

unfoldable pub goes_out :
    {S G P : Type 0} (U : Upper S G) (side : Side) (Answers : P → List G → P → Type 0) (medium medium' : Medium) (host host' : Asking S G) (port port' : P) (trace trace' : Option (List ℕ))
    → medium' ≡ after_all side host.out medium → Reacts U side Answers (λ used station. station) (record host { out = [] }) host' port port' → trace' ≡ gained trace (capture_octets (leaving_entries side host.out))
    → AreSent side host.out → Goes U side Answers medium medium' host host' port port' trace trace'
goes_out {S} {G} U side Answers medium medium' host host' port port' trace trace' moved taken written sent =
    let after : Medium = after_all side host.out medium in
    let offered : Asking S G = record host { out = [] } in
    let entries : all_entries (happenings_of side (leavings host.out ++ tryings taken.efforts)) ≡ leaving_entries side host.out =
    entries_of_both side (leavings host.out) (tryings taken.efforts) ∙ ap (λ es. es ++ all_entries (happenings_of side (tryings taken.efforts))) (leaving_are side host.out)
    ∙ ap (λ es. leaving_entries side host.out ++ es) (silent side taken.efforts) ∙ append-nil (leaving_entries side host.out) in
    record {
      motions = leavings host.out ++ tryings taken.efforts;
      used = taken.used;
      answered = taken.answered;
      makes = λ rest.
          let known : List G = taken.used ++ rest in
          subst (λ (m : Medium). MakesAll U side (leavings host.out ++ tryings taken.efforts) (half_of medium host known) (half_of m host' rest)) (sym moved)
          (makes_then U side (leavings host.out) (tryings taken.efforts) (half_of medium host known) (half_of after offered known) (half_of after host' rest) (leave U side host.out medium (answering known host) refl)
          (tries U side taken.efforts after (answering known offered) (answering rest host') (taken.reacts rest)));
      written = written ∙ ap (λ es. gained trace (capture_octets es)) (sym entries);
      each = each_of_same _ (leaving_entries side host.out) entries (sent_are_entries side host.out sent);
    }

-- and its buffers are given back
pub goes_back :
    {S G P : Type 0} (U : Upper S G) (side : Side) (Answers : P → List G → P → Type 0) (medium medium' : Medium) (host : Asking S G) (port : P) (trace : Option (List ℕ))
    → JoinAnswers Answers → medium' ≡ in_radio (after_offer side medium.radio) medium → Goes U side Answers medium medium' host host port port trace trace
goes_back U side Answers medium medium' host port trace joins after = record {
  motions = Returning ∷ [];
  used = [];
  answered = joins.none port;
  makes = λ rest. (half_of medium' host rest, ap (λ (m : Medium). half_of m host rest) after, refl);
  written = sym (gained-nil trace);
  each = tt;
}
