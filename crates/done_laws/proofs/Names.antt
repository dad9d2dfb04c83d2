-- A client keeps the name of the object that it pushes until it is told of another.
use Rattle.std.proofs.Common.{inl, inr, ◌⊎◌, ◌≡◌, ◌==◌, ℕ, Bool, true, false, List, [], ◌∷◌, ◌++◌, Option, Some, None, Result, Ok, Err, refl, sym, subst, ◌∙◌, append-nil, append_assoc, if◌then◌else◌}
use Rattle.tape_laws.specs.bt_base.specs.declared.ports.PortFault.{PortFault}
use Rattle.tape_laws.specs.bt_base.specs.declared.ports.PortFault.TheVariants as fault
use Rattle.tape_laws.specs.bt_base.specs.declared.settings.Settings.{Settings}
use Rattle.tape_laws.specs.bt_base.specs.declared.settings.Transport.{Transport}
use Rattle.tape_laws.specs.bt_base.specs.declared.settings.Transport.TheVariants.{L2cap, Rfcomm}
use Rattle.tape_laws.specs.push_terms.specs.declared.outcome.Outcome.{Outcome}
use Rattle.tape_laws.specs.push_terms.specs.declared.outcome.Outcome.TheVariants as outcomes
use Rattle.tape_laws.specs.push_model.specs.declared.course.Stage.{Stage}
use Rattle.tape_laws.specs.push_model.specs.declared.course.Contact.TheVariants.{Closing}
use Rattle.tape_laws.specs.push_model.specs.rfcomm_model.specs.Machine.{leaves}
use Rattle.tape_laws.specs.push_model.specs.rfcomm_model.specs.Saying.{Said, next}
use Rattle.tape_laws.specs.push_model.specs.Client.{Client, ends, ends_by, begins, begun_by, may_cancel}
use Rattle.tape_laws.specs.push_model.specs.Laws as deeds
use Rattle.tape_laws.specs.push_model.specs.Laws.{Deed, Hears, Asks, Finishes, Cancels}
use Rattle.tape_laws.specs.push_model.specs.Responding.{is_object}
use Rattle.tape_laws.specs.push_model.specs.Steps as steps
use Rattle.tape_laws.specs.push_model.specs.Steps.{Part, Made, Ask, Connect, Put, Abort, Disconnect, Close, Nothing, next_ask, may_ask, put_count, puts_part, puts_from, leaves_by, puts_or_leaves, requests, sends_direct, asks_direct, filled, said_by, says, sends_muxed, takes_some, asks_through, asks_muxed, goes_muxed, steps_object, steps_at}
use Rattle.tape_laws.specs.push_model.proofs.CauseLaws.{first_causes_stay}
use Rattle.tape_laws.specs.push_laws.proofs.Sending.{at_talk}
use Rattle.tape_laws.specs.push_laws.proofs.Talks.{Talk, Kept, object_of, news_keeps, hears_by}
use Rattle.tape_laws.specs.world_model.specs.Machines.{Linked, Failed, Heard, TimerFired, Cancelled, Opening}
use Rattle.tape_laws.specs.host_model.specs.Circumstances.{Circumstance, size_in}
use Rattle.tape_laws.specs.host_model.specs.Clients.{ClientProfile, client_profile, ended}
use Rattle.tape_laws.specs.host_model.specs.Shelves.{is_short, size_if, name_if, size_for, name_for}
use Rattle.tape_laws.specs.host_laws.specs.Feeds.{Feed, Gifts, Learns, Receives, Happens, Sent, Steps, fed, all_fed}
use Rattle.tape_laws.specs.host_laws.specs.Openings.{names_told}
use Rattle.tape_laws.specs.host_laws.specs.Pushing.{Affair, Begins, Does, AllAsked, client_behind, then_ends, then_calls, pushed_with}
use Rattle.tape_laws.specs.host_laws.proofs.AllAsked.{IsBare, FeedSo, begun_asked, feed_asked}
use Rattle.tape_laws.specs.host_laws.proofs.Pushing.{feed_so}
use Rattle.cause_laws.proofs.Clients.{lame_behind}

-- ---- a step

abbrev IsNamed : Client → Client → Type 0
IsNamed old new = new.name ≡ old.name

either : (test : Bool) (old one other : Client) → IsNamed old one → IsNamed old other → IsNamed old (if test then one else other)
either true old one other x y = x
either false old one other x y = y

ends_named : (outcome : Outcome) (client : Client) → IsNamed client (ends outcome client)
ends_named outcome client = by client.cause
  where
    by : (cause : Option Outcome) → IsNamed client (ends_by cause outcome client)
    by None = refl
    by (Some earlier) = refl

leaves_named : (ask : Ask) (client : Client) (parts : List Part) → IsNamed client (leaves_by ask client parts).client
leaves_named Connect client parts = refl
leaves_named Put client parts = refl
leaves_named Abort client parts = refl
leaves_named Disconnect client parts = refl
leaves_named Close client parts = refl
leaves_named Nothing client parts = refl

failing_named : (client : Client) (parts : List Part) → (let ended = ends outcomes.ShelfFault client in IsNamed client (leaves_by (next_ask ended) ended parts).client)
failing_named client parts = let ended = ends outcomes.ShelfFault client in leaves_named (next_ask ended) ended parts ∙ ends_named outcomes.ShelfFault client

part_named : (part : Part) (client : Client) (parts : List Part) → (let put = puts_part part client parts in IsNamed client (puts_or_leaves put.outcome put).client)
part_named (Ok part) client parts = refl
part_named (Err fault.Failed) client parts = failing_named client parts
part_named (Err fault.NoMemory) client parts = refl

from_named : (parts : List Part) (client : Client) → (let put = puts_from parts client in IsNamed client (puts_or_leaves put.outcome put).client)
from_named [] client = failing_named client []
from_named (part ∷ parts) client = part_named part client parts

requests_named : (ask : Ask) (client : Client) (parts : List Part) → IsNamed client (requests ask client parts).client
requests_named Put client parts = by (put_count client == 0)
  where
    by : (zero : Bool) → (let put = if zero then puts_part (Ok []) client parts else puts_from parts client in IsNamed client (puts_or_leaves put.outcome put).client)
    by true = part_named (Ok []) client parts
    by false = from_named parts client
requests_named Connect client parts = refl
requests_named Abort client parts = refl
requests_named Disconnect client parts = refl
requests_named Close client parts = refl
requests_named Nothing client parts = refl

-- over L2CAP

direct_sent : (outcome : Result (Unit {0}) PortFault) (request : Made) → IsNamed request.client (sends_direct outcome request).client
direct_sent (Ok done) request = refl
direct_sent (Err fault) request = refl

direct_named : (ask : Ask) (client : Client) (parts : List Part) → IsNamed client (asks_direct ask client parts).client
direct_named Close client parts = refl
direct_named Nothing client parts = refl
direct_named Connect client parts = let request = requests Connect client parts in direct_sent request.outcome request ∙ requests_named Connect client parts
direct_named Put client parts = let request = requests Put client parts in direct_sent request.outcome request ∙ requests_named Put client parts
direct_named Abort client parts = let request = requests Abort client parts in direct_sent request.outcome request ∙ requests_named Abort client parts
direct_named Disconnect client parts = let request = requests Disconnect client parts in direct_sent request.outcome request ∙ requests_named Disconnect client parts

-- over RFCOMM

said_named : (said : Option Said) (client : Client) (parts : List Part) → IsNamed client (said_by said client parts).client
said_named None client parts = refl
said_named (Some said) client parts = refl

filled_named : (client : Client) → IsNamed client (filled client)
filled_named client = either _ client _ client refl refl

says_named : (client : Client) (parts : List Part) → IsNamed client (says client parts).client
says_named client parts = let full = filled client in said_named (next full.mux) full parts ∙ filled_named client

muxed_sent : (outcome : Result (Unit {0}) PortFault) (request : Made) → IsNamed request.client (sends_muxed outcome request).client
muxed_sent (Ok done) request = says_named request.client request.left
muxed_sent (Err fault) request = refl

through_named : (ask : Ask) (client : Client) (parts : List Part) → IsNamed client (asks_through ask client parts).client
through_named ask client parts = by (takes_some client.mux)
  where
    bare : Client
    bare = record client { rest = [] }

    by : (some : Bool) → IsNamed client (if some then (let request = requests ask (record client { rest = [] }) parts in sends_muxed request.outcome request) else record { client = client; step = steps.Wait; left = parts }).client
    by true = let request = requests ask (record client { rest = [] }) parts in muxed_sent request.outcome request ∙ requests_named ask (record client { rest = [] }) parts
    by false = refl

muxed_named : (ask : Ask) (client : Client) (parts : List Part) → IsNamed client (asks_muxed ask client parts).client
muxed_named Close client parts = says_named (record client { mux = leaves client.mux; contact = Closing }) parts
muxed_named Nothing client parts = refl
muxed_named Connect client parts = through_named Connect client parts
muxed_named Put client parts = through_named Put client parts
muxed_named Abort client parts = through_named Abort client parts
muxed_named Disconnect client parts = through_named Disconnect client parts

goes_named : (said : Option Said) (client : Client) (parts : List Part) → IsNamed client (goes_muxed said client parts).client
goes_named (Some said) client parts = refl
goes_named None client parts = by (may_ask quiet)
  where
    quiet : Client
    quiet = record client { frame = None }

    by : (may : Bool) → (let quiet' : Client = record client { frame = None } in IsNamed client (if may then asks_muxed (next_ask quiet') quiet' parts else record { client = quiet'; step = steps.Wait; left = parts }).client)
    by true = muxed_named (next_ask (record client { frame = None })) (record client { frame = None }) parts
    by false = refl

object_named : (transport : Transport) (client : Client) (parts : List Part) → IsNamed client (steps_object transport client parts).client
object_named L2cap client parts = by (may_ask client)
  where
    by : (may : Bool) → IsNamed client (if may then asks_direct (next_ask client) (record client { rest = [] }) parts else record { client = client; step = steps.Wait; left = parts }).client
    by true = direct_named (next_ask client) (record client { rest = [] }) parts
    by false = refl
object_named Rfcomm client parts = let full = filled client in goes_named (next full.mux) full parts ∙ filled_named client

stage_named : (object : Bool) (stage : Stage) (client : Client) (parts : List Part) → is_object stage ≡ object → IsNamed client (steps_at stage client parts).client
stage_named false stage client parts is = at_talk (λ (t : Talk). t.name ≡ client.name) stage client parts is refl
stage_named true stage client parts is = subst (λ (s : Stage). IsNamed client (steps_at s client parts).client) (sym (object_of stage is)) (object_named client.transport client parts)

step_named : (client : Client) (parts : List Part) → IsNamed client (steps.steps client parts).client
step_named client parts = by client.failed client.given
  where
    by : (failed given : Bool)
        → IsNamed client (if failed then record { client = client; step = steps.NoMemory; left = parts } else if given then record { client = client; step = steps.Wait; left = parts } else steps_at client.stage client parts).client
    by true given = refl
    by false true = refl
    by false false = stage_named (is_object client.stage) client.stage client parts refl

-- ---- a deed

named_kept : (name : List ℕ) → Kept (λ (t : Talk). t.name ≡ name)
named_kept name = record {
  unheard = record { ends = λ outcome t free none is. is; opens = λ limit t least most is. is };
  hears = λ packet client is. hears_by (λ (t : Talk). t.name ≡ name) (λ o t so. so) (λ contact t so. so) packet client is is;
}

pub deed_named : (deed : Deed) (client : Client) → (deeds.done deed client).name ≡ client.name
deed_named (Hears news) client = news_keeps (λ (t : Talk). t.name ≡ client.name) (named_kept client.name) news client refl
deed_named (Asks parts) client = step_named client parts
deed_named Finishes client = refl
deed_named Cancels client = either (may_cancel client) client (ends outcomes.Cancelled client) client (ends_named outcomes.Cancelled client) refl

pub all_named : (side : List Deed) (client : Client) → (deeds.all_done side client).name ≡ client.name
all_named [] client = refl
all_named (deed ∷ side) client = all_named side (deeds.done deed client) ∙ deed_named deed client

-- ---- what it is told

-- it has that name, or its shelf does not give the object, or it lacked memory
abbrev pub HasName : List ℕ → Client → Type 0
HasName name client = (client.name ≡ name) ⊎ ((client.cause ≡ Some outcomes.ShelfFault) ⊎ (client.failed ≡ true))

deed_has : (name : List ℕ) (deed : Deed) (client : Client) → HasName name client → HasName name (deeds.done deed client)
deed_has name deed client (inl is) = inl (deed_named deed client ∙ is)
deed_has name deed client (inr (inl faulty)) = inr (inl (first_causes_stay (deed ∷ []) client outcomes.ShelfFault faulty))
deed_has name deed client (inr (inr lame)) = inr (inr (lame_behind (Does deed ∷ []) client lame))

abbrev BeginsNone : Affair → Client → Type 0
BeginsNone (Begins size name) client = ⊥
BeginsNone (Does deed) client = Unit {0}

bare : (deed : Deed) (client : Client) → IsBare deed → BeginsNone (Does deed) client
bare deed client is = tt

all_have : (name : List ℕ) (affairs : List Affair) (client : Client) → AllAsked BeginsNone affairs client → HasName name client → HasName name (client_behind affairs client)
all_have name [] client none has = has
all_have name (Begins size other ∷ affairs) client none has = absurd none.0
all_have name (Does deed ∷ affairs) client none has = all_have name affairs (deeds.done deed client) none.1 (deed_has name deed client has)

begun_has : (name : List ℕ) (size : Result ℕ PortFault) (short failed : Bool) (client : Client) → client.failed ≡ failed → (let n = name_if short name in HasName name (if failed then client else begun_by (size_if short size) n client))
begun_has name size short true client is = inr (inr is)
begun_has name (Ok size) true false client is = inl refl
begun_has name (Err fault.Failed) true false client is = inr (inl refl)
begun_has name (Err fault.NoMemory) true false client is = inr (inr refl)
begun_has name size false false client is = inr (inl refl)

-- it was told no name, or it has the last one that it was told
abbrev pub HasLast : List (List ℕ) → Client → Type 0
HasLast names client = (names ≡ []) ⊎ ((ahead : List (List ℕ)) × (name : List ℕ) × (names ≡ ahead ++ name ∷ []) × HasName name client)

module _ (settings : Settings) where
  quiet_has : (name : List ℕ) (p : ClientProfile) (feed : Feed) → FeedSo BeginsNone bare p feed → HasName name p.client → HasName name (fed (client_profile settings) p feed).client
  quiet_has name p feed so has = subst (HasName name) (sym (feed_so settings p feed)) (all_have name (pushed_with p feed) p.client (feed_asked BeginsNone bare p feed so) has)

  opening_has : (circumstances : List Circumstance) (name : List ℕ) (p : ClientProfile) → HasName name (fed (client_profile settings) p (Learns circumstances (Opening name))).client
  opening_has circumstances name p =
      let begun : Client = begins (size_for circumstances name) (name_for name) p.client in
      subst (HasName name) (sym (feed_so settings p (Learns circumstances (Opening name))))
      (all_have name (then_ends begun ++ then_calls (ended begun)) begun (begun_asked BeginsNone bare begun) (begun_has name (size_in circumstances) (is_short name) p.client.failed p.client refl))

  quiet_last : (names : List (List ℕ)) (p : ClientProfile) (feed : Feed) → FeedSo BeginsNone bare p feed → HasLast names p.client → HasLast names (fed (client_profile settings) p feed).client
  quiet_last names p feed so (inl none) = inl none
  quiet_last names p feed so (inr (ahead, name, is, has)) = inr (ahead, name, is, quiet_has name p feed so has)

  pub has_last : (feeds : List Feed) (names : List (List ℕ)) (p : ClientProfile) → HasLast names p.client → HasLast (names ++ names_told feeds) (all_fed (client_profile settings) p feeds).client
  has_last [] names p has = subst (λ (ns : List (List ℕ)). HasLast ns p.client) (sym (append-nil names)) has
  has_last (Learns circumstances (Opening name) ∷ feeds) names p has =
      let next = fed (client_profile settings) p (Learns circumstances (Opening name)) in
      subst (λ (ns : List (List ℕ)). HasLast ns (all_fed (client_profile settings) next feeds).client) (append_assoc names (name ∷ []) (names_told feeds))
      (has_last feeds (names ++ name ∷ []) next (inr (names, name, refl, opening_has circumstances name p)))
  has_last (Learns circumstances (Linked event) ∷ feeds) names p has = has_last feeds names (fed (client_profile settings) p (Learns circumstances (Linked event))) (quiet_last names p (Learns circumstances (Linked event)) tt has)
  has_last (Learns circumstances (Failed status) ∷ feeds) names p has = has_last feeds names (fed (client_profile settings) p (Learns circumstances (Failed status))) (quiet_last names p (Learns circumstances (Failed status)) tt has)
  has_last (Learns circumstances (Heard pdu) ∷ feeds) names p has = has_last feeds names p has
  has_last (Learns circumstances TimerFired ∷ feeds) names p has = has_last feeds names (fed (client_profile settings) p (Learns circumstances TimerFired)) (quiet_last names p (Learns circumstances TimerFired) tt has)
  has_last (Learns circumstances Cancelled ∷ feeds) names p has = has_last feeds names (fed (client_profile settings) p (Learns circumstances Cancelled)) (quiet_last names p (Learns circumstances Cancelled) tt has)
  has_last (Gifts circumstances ∷ feeds) names p has = has_last feeds names (fed (client_profile settings) p (Gifts circumstances)) (quiet_last names p (Gifts circumstances) tt has)
  has_last (Receives own psm sdu ∷ feeds) names p has = has_last feeds names (fed (client_profile settings) p (Receives own psm sdu)) (quiet_last names p (Receives own psm sdu) tt has)
  has_last (Happens event v ∷ feeds) names p has = has_last feeds names (fed (client_profile settings) p (Happens event v)) (quiet_last names p (Happens event v) tt has)
  has_last (Sent v ∷ feeds) names p has = has_last feeds names (fed (client_profile settings) p (Sent v)) (quiet_last names p (Sent v) tt has)
  has_last (Steps v ∷ feeds) names p has = has_last feeds names (fed (client_profile settings) p (Steps v)) (quiet_last names p (Steps v) tt has)
