-- While no link is up no PDU comes in.
use Rattle.std.proofs.Common.{◌≡◌, Bool, true, false, List, [], ◌∷◌, ◌++◌, refl, sym, subst, ◌∙◌, append_assoc, append-nil}
use Rattle.std.specs.List.{AllByRecursion, flat_map}
use Rattle.pair_laws.specs.channel_laws.specs.Runs as channels
use Rattle.pair_laws.specs.world_model.specs.Machines.{LinkEvent, Up, Down}
use Rattle.pair_laws.specs.host_laws.specs.Lives.{Mark, Turned, Span, marks_on, span_marks, all_marks}
use Rattle.pair_laws.specs.host_laws.specs.OverLinks.{AreTimely}
use Rattle.request_laws.specs.BothFed.{IsDown}
use Rattle.request_laws.specs.Alternating.{Alternate, LinksAlternate}

abbrev pub HearsNothing : channels.Occurrence → Type 0
HearsNothing (channels.Comes pdu) = ⊥
HearsNothing (channels.Connects psm) = Unit {0}
HearsNothing channels.AsksFeatures = Unit {0}
HearsNothing (channels.Disconnects own) = Unit {0}
HearsNothing (channels.Sends own sdu) = Unit {0}
HearsNothing (channels.Gives pdu) = Unit {0}
HearsNothing channels.Fires = Unit {0}
HearsNothing channels.Tells = Unit {0}

-- ---- marks of a link

abbrev IsDeafIf : (up : Bool) → List channels.Occurrence → Type 0
IsDeafIf true list = Unit {0}
IsDeafIf false list = AllByRecursion HearsNothing list

deaf_more : (up : Bool) (one : channels.Occurrence) (list : List channels.Occurrence) → HearsNothing one → IsDeafIf up list → IsDeafIf up (one ∷ list)
deaf_more true one list here rest = tt
deaf_more false one list here rest = (here, rest)

hears_more : (up : Bool) (one : channels.Occurrence) (list : List channels.Occurrence) → up ≡ true → IsDeafIf up list → IsDeafIf up (one ∷ list)
hears_more true one list is rest = tt
hears_more false one list is rest = cc

record Cut (up : Bool) (list : List channels.Occurrence) (marks : List Mark) : Type 0 where
  deaf : IsDeafIf up list
  rest : AreTimely up marks

cut : (up : Bool) (list : List channels.Occurrence) (marks : List Mark) → AreTimely up (marks_on list ++ marks) → Cut up list marks
cut up [] marks timely = record { deaf = none up; rest = timely }
  where
    none : (b : Bool) → IsDeafIf b []
    none true = tt
    none false = tt
cut up (channels.Comes pdu ∷ list) marks timely = let more = cut up list marks timely.1 in record { deaf = hears_more up (channels.Comes pdu) list timely.0 more.deaf; rest = more.rest }
cut up (channels.Connects psm ∷ list) marks timely = let more = cut up list marks timely in record { deaf = deaf_more up (channels.Connects psm) list tt more.deaf; rest = more.rest }
cut up (channels.AsksFeatures ∷ list) marks timely = let more = cut up list marks timely in record { deaf = deaf_more up channels.AsksFeatures list tt more.deaf; rest = more.rest }
cut up (channels.Disconnects own ∷ list) marks timely = let more = cut up list marks timely in record { deaf = deaf_more up (channels.Disconnects own) list tt more.deaf; rest = more.rest }
cut up (channels.Sends own sdu ∷ list) marks timely = let more = cut up list marks timely in record { deaf = deaf_more up (channels.Sends own sdu) list tt more.deaf; rest = more.rest }
cut up (channels.Gives pdu ∷ list) marks timely = let more = cut up list marks timely in record { deaf = deaf_more up (channels.Gives pdu) list tt more.deaf; rest = more.rest }
cut up (channels.Fires ∷ list) marks timely = let more = cut up list marks timely in record { deaf = deaf_more up channels.Fires list tt more.deaf; rest = more.rest }
cut up (channels.Tells ∷ list) marks timely = let more = cut up list marks timely in record { deaf = deaf_more up channels.Tells list tt more.deaf; rest = more.rest }

-- ---- of a host

span_cut : (span : Span) (spans : List Span) (now : List channels.Occurrence) → all_marks (span ∷ spans) now ≡ marks_on span.list ++ Turned span.event ∷ all_marks spans now
span_cut span spans now =
    append_assoc (span_marks span) (flat_map span_marks spans) (marks_on now) ∙ append_assoc (marks_on span.list) (Turned span.event ∷ []) (all_marks spans now)

after_up : (event : LinkEvent) (marks : List Mark) → event ≡ Up → AreTimely false (Turned event ∷ marks) → AreTimely true marks
after_up Up marks is timely = timely.1
after_up (Down reason) marks is timely = cc

after_down : (up : Bool) (event : LinkEvent) (marks : List Mark) → IsDown event → AreTimely up (Turned event ∷ marks) → AreTimely false marks
after_down up Up marks down timely = absurd down
after_down up (Down reason) marks down timely = timely.1

comes_first : (event : LinkEvent) (marks : List Mark) → AreTimely false (Turned event ∷ marks) → event ≡ Up
comes_first Up marks timely = refl
comes_first (Down reason) marks timely = let never : false ≡ true = timely.0 in cc

goes_next : (event : LinkEvent) (marks : List Mark) → AreTimely true (Turned event ∷ marks) → IsDown event
goes_next Up marks timely = let never : true ≡ false = timely.0 in cc
goes_next (Down reason) marks timely = tt

-- where no link is up the next thing that becomes of one is that it comes up, and then that it goes down
pub is_up : (span : Span) (spans : List Span) (now : List channels.Occurrence) → AreTimely false (all_marks (span ∷ spans) now) → span.event ≡ Up
is_up span spans now timely = comes_first span.event (all_marks spans now) (cut false span.list (Turned span.event ∷ all_marks spans now) (subst (AreTimely false) (span_cut span spans now) timely)).rest

pub goes_down : (span : Span) (spans : List Span) (now : List channels.Occurrence) → AreTimely true (all_marks (span ∷ spans) now) → IsDown span.event
goes_down span spans now timely = goes_next span.event (all_marks spans now) (cut true span.list (Turned span.event ∷ all_marks spans now) (subst (AreTimely true) (span_cut span spans now) timely)).rest

-- between two links nothing comes in, and then the link is up
pub record Deaf (span : Span) (spans : List Span) (now : List channels.Occurrence) : Type 0 where
  pub deaf : AllByRecursion HearsNothing span.list
  pub rest : AreTimely true (all_marks spans now)

pub is_deaf : (span : Span) (spans : List Span) (now : List channels.Occurrence) → span.event ≡ Up → AreTimely false (all_marks (span ∷ spans) now) → Deaf span spans now
is_deaf span spans now up timely =
    let one = cut false span.list (Turned span.event ∷ all_marks spans now) (subst (AreTimely false) (span_cut span spans now) timely) in
    record { deaf = one.deaf; rest = after_up span.event (all_marks spans now) up one.rest }

-- behind a link none is up
pub is_down : (span : Span) (spans : List Span) (now : List channels.Occurrence) → IsDown span.event → AreTimely true (all_marks (span ∷ spans) now) → AreTimely false (all_marks spans now)
is_down span spans now down timely =
    let one = cut true span.list (Turned span.event ∷ all_marks spans now) (subst (AreTimely true) (span_cut span spans now) timely) in
    after_down true span.event (all_marks spans now) down one.rest

-- nor does anything where none is up at the end
pub is_deaf_now : (now : List channels.Occurrence) → AreTimely false (all_marks [] now) → AllByRecursion HearsNothing now
is_deaf_now now timely = (cut false now [] (subst (AreTimely false) (sym (append-nil (marks_on now))) timely)).deaf

-- ---- links come up and go down in turn

alternate : (spans : List Span) (now : List channels.Occurrence) → AreTimely false (all_marks spans now) → Alternate spans
alternate [] now timely = tt
alternate (up ∷ []) now timely = is_up up [] now timely
alternate (up ∷ down ∷ spans) now timely =
    let up_is = is_up up (down ∷ spans) now timely in
    let on_link = (is_deaf up (down ∷ spans) now up_is timely).rest in
    let down_is = goes_down down spans now on_link in
    (up_is, down_is, alternate spans now (is_down down spans now down_is on_link))

pub links_alternate : LinksAlternate
links_alternate = record {
  clients = λ settings asks talk now so. alternate so.lives.spans so.lives.now (subst (AreTimely false) (sym so.lives.marks_are) so.timely);
  servers = λ settings content asks talk now so. alternate so.lives.spans so.lives.now (subst (AreTimely false) (sym so.lives.marks_are) so.timely);
}
