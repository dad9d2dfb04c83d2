-- On a channel to the service records a client sends its one request alone, wherever it stands in its push.
use Rattle.std.proofs.Common.{Bool, true, false, ◌≡◌, ◌-◌, ℕ, List, [], ◌∷◌, Option, Some, None, Result, Ok, Err, refl, sym, ap, subst, ◌∙◌, if◌then◌else◌}
use Rattle.std.specs.List.{AllByRecursion}
use Rattle.std.proofs.lemmas.Bool.{ne_eqb}
use Rattle.link_talk.specs.bt_base.specs.declared.ports.PortFault.{PortFault}
use Rattle.link_talk.specs.bt_base.specs.declared.settings.Transport.{Transport}
use Rattle.link_talk.specs.bt_base.specs.declared.settings.Transport.TheVariants.{L2cap, Rfcomm}
use Rattle.link_talk.specs.push_terms.specs.declared.outcome.Outcome.{Outcome}
use Rattle.push_model.specs.rfcomm_model.specs.Machine.{leaves}
use Rattle.push_model.specs.rfcomm_model.specs.Saying.{Said, next}
use Rattle.push_model.specs.sdp_client.specs.Asking.{is_due, after_request, request_octets}
use Rattle.push_model.specs.sdp_elements.specs.Targets.{is_service_psm}
use Rattle.push_model.specs.sdp_elements.specs.declared.target.Target.{Target}
use Rattle.push_model.specs.declared.course.Contact.TheVariants.{Closing}
use Rattle.push_model.specs.declared.course.Point.TheVariants.{Due, Asked}
use Rattle.push_model.specs.declared.course.Stage.{Stage}
use Rattle.push_model.specs.declared.course.Stage.TheVariants.{Rest, Link, SearchChannel, Search, SearchEnd, Features, ObjectChannel, Object, ObjectEnd, LinkEnd, Over}
use Rattle.push_model.specs.Client.{Client}
use Rattle.push_model.specs.Events as events
use Rattle.push_model.specs.Events.{search_psm}
use Rattle.push_model.specs.Laws.{Deed, Hears, Asks, Finishes, Cancels}
use Rattle.push_model.specs.Payloads.{Octets}
use Rattle.push_model.specs.Responding.{is_object}
use Rattle.push_model.specs.Shown.{way_of}
use Rattle.push_model.specs.Steps as steps
use Rattle.push_model.specs.Steps.{Part, Step, SendSdu, Stepped, Made, Ask, Connect, Put, Abort, Disconnect, Close, Nothing, requests, sends_direct, asks_direct, filled, said_by, says, sends_muxed, takes_some, asks_through, asks_muxed, goes_muxed, steps_object, tells_end, steps_at, rests, may_ask, next_ask}
use Rattle.push_laws.specs.Searches.{sent_on, sdus_on}
use Rattle.push_laws.proofs.Late.{Anchor, IsLate, anchor_of, requests_late}
use Rattle.push_laws.proofs.Lookups.{request}
use Rattle.push_laws.proofs.Opening.{Walk, Names, Stands, course_of, psm_over, opened_at}
use Rattle.push_laws.proofs.Searching.{is_searching, Searches, first_request}
use Rattle.push_laws.proofs.TwoChannels.{other_psm}

-- ---- the channel of the object is another

never : {A : Type 0} → false ≡ true → A
never e = cc

named_direct : (kept : Bool) (psm number : ℕ) → is_service_psm psm ≡ kept → (if kept then Some psm else None) ≡ Some number → is_service_psm number ≡ true
named_direct true psm number is e = let same : psm ≡ number = cc in ap is_service_psm (sym same) ∙ is
named_direct false psm number is e = absurd cc

way_direct : (found : Option ℕ) (number : ℕ) → events.kept_of is_service_psm found ≡ Some number → is_service_psm number ≡ true
way_direct None number e = absurd cc
way_direct (Some psm) number e = named_direct (is_service_psm psm) psm number refl e

other_by : (t : Transport) (target : Target) (number : ℕ) → way_of t target ≡ Some number → psm_over t number ≡ search_psm → ⊥
other_by L2cap target number named is = (other_psm number (way_direct target.l2cap number named)).not_search is
other_by Rfcomm target number named is = absurd cc

names_other : (w : Walk) (anchor : Anchor) → Names w anchor → anchor.psm ≡ search_psm → ⊥
names_other w anchor n is = other_by w.transport n.target n.number n.named (sym n.psm_is ∙ is)

-- ---- nothing goes to the service records from the channel of the object

abbrev Apart : Stepped → Type 0
Apart s = sdus_on search_psm s.step ≡ []

apart_either : (test : Bool) (a b : Stepped) → Apart a → Apart b → Apart (if test then a else b)
apart_either true a b x y = x
apart_either false a b x y = y

sent_apart : (psm : ℕ) (octets : List ℕ) → (psm ≡ search_psm → ⊥) → sdus_on search_psm (SendSdu psm (Octets octets)) ≡ []
sent_apart psm octets other = ap (λ (b : Bool). if b then octets ∷ [] else []) (ne_eqb psm search_psm other)

direct_apart : (outcome : Result (Unit {0}) PortFault) (made : Made) → (made.client.psm ≡ search_psm → ⊥) → Apart (sends_direct outcome made)
direct_apart (Ok done) made other = sent_apart made.client.psm made.client.rest other
direct_apart (Err fault) made other = refl

-- a request leaves its channel
request_psm : (ask : Ask) (client : Client) (parts : List Part) → client.stage ≡ Object → (requests ask client parts).client.psm ≡ client.psm
request_psm ask client parts is = ap (λ (a : Anchor). a.psm) (requests_late (anchor_of client) ask client parts (subst IsLate (sym is) tt, refl)).1

asks_apart : (ask : Ask) (client : Client) (parts : List Part) → client.stage ≡ Object → (client.psm ≡ search_psm → ⊥) → Apart (asks_direct ask client parts)
asks_apart Close client parts is other = refl
asks_apart Nothing client parts is other = refl
asks_apart Connect client parts is other = let made : Made = requests Connect client parts in direct_apart made.outcome made (λ e. other (sym (request_psm Connect client parts is) ∙ e))
asks_apart Put client parts is other = let made : Made = requests Put client parts in direct_apart made.outcome made (λ e. other (sym (request_psm Put client parts is) ∙ e))
asks_apart Abort client parts is other = let made : Made = requests Abort client parts in direct_apart made.outcome made (λ e. other (sym (request_psm Abort client parts is) ∙ e))
asks_apart Disconnect client parts is other = let made : Made = requests Disconnect client parts in direct_apart made.outcome made (λ e. other (sym (request_psm Disconnect client parts is) ∙ e))

said_apart : (said : Option Said) (client : Client) (parts : List Part) → Apart (said_by said client parts)
said_apart None client parts = refl
said_apart (Some said) client parts = refl

muxed_sent : (outcome : Result (Unit {0}) PortFault) (made : Made) → Apart (sends_muxed outcome made)
muxed_sent (Ok done) made = let full = filled made.client in said_apart (next full.mux) full made.left
muxed_sent (Err fault) made = refl

through_apart : (ask : Ask) (client : Client) (parts : List Part) → Apart (asks_through ask client parts)
through_apart ask client parts =
    let made : Made = requests ask (record client { rest = [] }) parts in
    apart_either (takes_some client.mux) (sends_muxed made.outcome made) (rests client parts) (muxed_sent made.outcome made) refl

muxed_apart : (ask : Ask) (client : Client) (parts : List Part) → Apart (asks_muxed ask client parts)
muxed_apart Close client parts = let full = filled (record client { mux = leaves client.mux; contact = Closing }) in said_apart (next full.mux) full parts
muxed_apart Nothing client parts = refl
muxed_apart Connect client parts = through_apart Connect client parts
muxed_apart Put client parts = through_apart Put client parts
muxed_apart Abort client parts = through_apart Abort client parts
muxed_apart Disconnect client parts = through_apart Disconnect client parts

goes_apart : (said : Option Said) (client : Client) (parts : List Part) → Apart (goes_muxed said client parts)
goes_apart None client parts =
    let quiet : Client = record client { frame = None } in apart_either (may_ask quiet) (asks_muxed (next_ask quiet) quiet parts) (rests quiet parts) (muxed_apart (next_ask quiet) quiet parts) refl
goes_apart (Some said) client parts = said_apart (Some said) client parts

object_apart : (t : Transport) (client : Client) (parts : List Part) → client.stage ≡ Object → (client.psm ≡ search_psm → ⊥) → Apart (steps_object t client parts)
object_apart L2cap client parts is other =
    apart_either (may_ask client) (asks_direct (next_ask client) (record client { rest = [] }) parts) (rests client parts) (asks_apart (next_ask client) (record client { rest = [] }) parts is other) refl
object_apart Rfcomm client parts is other = let full = filled client in goes_apart (next full.mux) full parts

-- ---- all steps

abbrev Alone : List (List ℕ) → Type 0
Alone sdus = AllByRecursion (λ sdu. sdu ≡ request) sdus

abbrev Asks_so : Stepped → Type 0
Asks_so s = Alone (sdus_on search_psm s.step)

so_either : (test : Bool) (a b : Stepped) → Asks_so a → Asks_so b → Asks_so (if test then a else b)
so_either true a b x y = x
so_either false a b x y = y

tells_so : (cause : Option Outcome) (client : Client) (parts : List Part) → Asks_so (tells_end cause client parts)
tells_so None client parts = tt
tells_so (Some outcome) client parts = tt

at_so : (w : Walk) (stage : Stage) (client : Client) (parts : List Part) → client.stage ≡ stage → Searches client → Stands w client → Asks_so (steps_at stage client parts)
at_so w Rest client parts is s c = tt
at_so w (Link Due) client parts is s c = tt
at_so w (Link Asked) client parts is s c = tt
at_so w (SearchChannel Due) client parts is s c = tt
at_so w (SearchChannel Asked) client parts is s c = tt
at_so w Search client parts is s c =
    let asked : Client = record client { query = after_request client.query; left = client.left - 1; rest = request_octets client.query } in
    so_either (is_due client.query) (steps.sends_sdu search_psm (Octets (request_octets client.query)) asked parts) (rests client parts) (first_request client.query (s (ap is_searching is)), tt) tt
at_so w (SearchEnd Due) client parts is s c = tt
at_so w (SearchEnd Asked) client parts is s c = tt
at_so w (Features Due) client parts is s c = tt
at_so w (Features Asked) client parts is s c = tt
at_so w (ObjectChannel Due) client parts is s c = tt
at_so w (ObjectChannel Asked) client parts is s c = tt
at_so w Object client parts is s c =
    let has = opened_at w client.stage (course_of client) (ap is_object is) c in
    subst Alone (sym (object_apart client.transport client parts is (names_other w (anchor_of client) has.names))) tt
at_so w (ObjectEnd Due) client parts is s c = tt
at_so w (ObjectEnd Asked) client parts is s c = tt
at_so w (LinkEnd Due) client parts is s c = tt
at_so w (LinkEnd Asked) client parts is s c = tt
at_so w Over client parts is s c = tells_so client.cause client parts

pub deed_asks : (w : Walk) (deed : Deed) (client : Client) → Searches client → Stands w client → Alone (sent_on search_psm deed client)
deed_asks w (Hears news) client s c = tt
deed_asks w (Asks parts) client s c =
    so_either client.failed (record { client = client; step = steps.NoMemory; left = parts }) (if client.given then rests client parts else steps_at client.stage client parts) tt
    (so_either client.given (rests client parts) (steps_at client.stage client parts) tt (at_so w client.stage client parts refl s c))
deed_asks w Finishes client s c = tt
deed_asks w Cancels client s c = tt
