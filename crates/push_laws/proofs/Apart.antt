-- A client over RFCOMM sends nothing to PSM 1001, so nothing comes there where nothing is made up.
use Rattle.std.proofs.Common.{Bool, true, false, ◌≡◌, ◌==◌, ◌-◌, ℕ, List, [], ◌∷◌, ◌++◌, Option, Some, None, Result, Ok, Err, refl, sym, ap, subst, ◌∙◌, append-nil, append_assoc, arith, if◌then◌else◌}
use Rattle.std.specs.List.{All, AllByRecursion, Contains, flat_map}
use Rattle.std.proofs.lemmas.List.Elements.{All-contains, Contains-push}
use Rattle.link_talk.specs.bt_base.specs.declared.ports.PortFault.{PortFault}
use Rattle.link_talk.specs.bt_base.specs.declared.settings.Transport.{Transport}
use Rattle.link_talk.specs.bt_base.specs.declared.settings.Transport.TheVariants.{L2cap, Rfcomm}
use Rattle.push_model.specs.obex_session.specs.InboxCalls.{Answer}
use Rattle.link_talk.specs.push_terms.specs.declared.outcome.Outcome.{Outcome}
use Rattle.push_model.specs.rfcomm_model.specs.Machine.{leaves}
use Rattle.push_model.specs.rfcomm_model.specs.Saying.{Said, next}
use Rattle.push_model.specs.sdp_client.specs.Asking.{is_due, after_request, request_octets}
use Rattle.push_model.specs.declared.course.Contact.TheVariants.{Closing}
use Rattle.push_model.specs.declared.course.Point.TheVariants.{Due, Asked}
use Rattle.push_model.specs.declared.course.Stage.{Stage}
use Rattle.push_model.specs.declared.course.Stage.TheVariants.{Rest, Link, SearchChannel, Search, SearchEnd, Features, ObjectChannel, Object, ObjectEnd, LinkEnd, Over}
use Rattle.push_model.specs.Client.{Client}
use Rattle.push_model.specs.Events.{search_psm}
use Rattle.push_model.specs.Laws as deeds
use Rattle.push_model.specs.Laws.{Deed, Hears, Asks, Finishes, Cancels}
use Rattle.push_model.specs.Payloads.{Octets}
use Rattle.push_model.specs.Server.{Reacted, object_psm}
use Rattle.push_model.specs.Steps as steps
use Rattle.push_model.specs.Steps.{Part, SendSdu, Stepped, Made, Ask, Connect, Put, Abort, Disconnect, Close, Nothing, requests, filled, said_by, says, sends_muxed, takes_some, asks_through, asks_muxed, goes_muxed, steps_muxed, steps_object, tells_end, steps_at, rests, may_ask, next_ask}
use Rattle.push_laws.specs.Dialogs.{NoPacket, ServesCarried, AllServeCarried}
use Rattle.push_laws.specs.Occurrences.{Occurrence, Came, Went, Closed, LinkDown, Answering, done}
use Rattle.push_laws.specs.Occurrences as occurrences
use Rattle.push_laws.specs.Parties.{Move, OfServer, OfClient, server_side, sdu_if, Push, begun_of, ended_with, over_pushes}
use Rattle.push_laws.specs.Searches.{Traffic, no_traffic, sdus_on, sent_on, come_on, traffic_after, IsTrue, StaysTrue, IsTrueOn, ServesSo, AllServe}
use Rattle.push_laws.proofs.Working.{transport_stays}

-- ---- what it sends

abbrev Apart : Stepped → Type 0
Apart s = sdus_on object_psm s.step ≡ []

apart_either : (test : Bool) (a b : Stepped) → Apart a → Apart b → Apart (if test then a else b)
apart_either true a b x y = x
apart_either false a b x y = y

said_apart : (said : Option Said) (client : Client) (parts : List Part) → Apart (said_by said client parts)
said_apart None client parts = refl
said_apart (Some said) client parts = refl

muxed_sent : (outcome : Result (Unit {0}) PortFault) (made : Made) → Apart (sends_muxed outcome made)
muxed_sent (Ok done) made = let full = filled made.client in said_apart (next full.mux) full made.left
muxed_sent (Err fault) made = refl

through_apart : (ask : Ask) (client : Client) (parts : List Part) → Apart (asks_through ask client parts)
through_apart ask client parts =
    let made : Made = requests ask (record client { rest = [] }) parts in
    apart_either (takes_some client.mux) (sends_muxed made.outcome made) (rests client parts) (muxed_sent made.outcome made) refl

muxed_apart : (ask : Ask) (client : Client) (parts : List Part) → Apart (asks_muxed ask client parts)
muxed_apart Close client parts = let full = filled (record client { mux = leaves client.mux; contact = Closing }) in said_apart (next full.mux) full parts
muxed_apart Nothing client parts = refl
muxed_apart Connect client parts = through_apart Connect client parts
muxed_apart Put client parts = through_apart Put client parts
muxed_apart Abort client parts = through_apart Abort client parts
muxed_apart Disconnect client parts = through_apart Disconnect client parts

goes_apart : (said : Option Said) (client : Client) (parts : List Part) → Apart (goes_muxed said client parts)
goes_apart None client parts =
    let quiet : Client = record client { frame = None } in apart_either (may_ask quiet) (asks_muxed (next_ask quiet) quiet parts) (rests quiet parts) (muxed_apart (next_ask quiet) quiet parts) refl
goes_apart (Some said) client parts = said_apart (Some said) client parts

object_apart : (t : Transport) (client : Client) (parts : List Part) → t ≡ Rfcomm → Apart (steps_object t client parts)
object_apart L2cap client parts is = absurd (let f : L2cap ≡ Rfcomm = is in cc)
object_apart Rfcomm client parts is = let full = filled client in goes_apart (next full.mux) full parts

tells_apart : (cause : Option Outcome) (client : Client) (parts : List Part) → Apart (tells_end cause client parts)
tells_apart None client parts = refl
tells_apart (Some outcome) client parts = refl

at_apart : (stage : Stage) (client : Client) (parts : List Part) → client.transport ≡ Rfcomm → Apart (steps_at stage client parts)
at_apart Rest client parts t = refl
at_apart (Link Due) client parts t = refl
at_apart (Link Asked) client parts t = refl
at_apart (SearchChannel Due) client parts t = refl
at_apart (SearchChannel Asked) client parts t = refl
at_apart Search client parts t =
    let asked : Client = record client { query = after_request client.query; left = client.left - 1; rest = request_octets client.query } in
    apart_either (is_due client.query) (steps.sends_sdu search_psm (Octets (request_octets client.query)) asked parts) (rests client parts) refl refl
at_apart (SearchEnd Due) client parts t = refl
at_apart (SearchEnd Asked) client parts t = refl
at_apart (Features Due) client parts t = refl
at_apart (Features Asked) client parts t = refl
at_apart (ObjectChannel Due) client parts t = refl
at_apart (ObjectChannel Asked) client parts t = refl
at_apart Object client parts t = object_apart client.transport client parts t
at_apart (ObjectEnd Due) client parts t = refl
at_apart (ObjectEnd Asked) client parts t = refl
at_apart (LinkEnd Due) client parts t = refl
at_apart (LinkEnd Asked) client parts t = refl
at_apart Over client parts t = tells_apart client.cause client parts

none_sent : (deed : Deed) (client : Client) → client.transport ≡ Rfcomm → sent_on object_psm deed client ≡ []
none_sent (Hears news) client t = refl
none_sent (Asks parts) client t =
    apart_either client.failed (record { client = client; step = steps.NoMemory; left = parts }) (if client.given then rests client parts else steps_at client.stage client parts) refl
    (apart_either client.given (rests client parts) (steps_at client.stage client parts) refl (at_apart client.stage client parts t))
none_sent Finishes client t = refl
none_sent Cancels client t = refl

-- ---- so nothing comes

none_in : (x : List ℕ) → Contains [] x → ⊥
none_in x c = omega arith

came_none : (before : List (List ℕ)) (here : Bool) (sdu : List ℕ) → All (Contains []) (before ++ sdu_if here sdu) → here ≡ true → ⊥
came_none before true sdu all is = none_in sdu (All-contains (Contains []) (before ++ sdu ∷ []) sdu all (Contains-push before sdu))
came_none before false sdu all is = let never : false ≡ true = is in cc

no_packet : (one : Occurrence) (before : List (List ℕ)) → All (Contains []) (before ++ come_on object_psm one) → NoPacket one
no_packet (Came psm sdu) before all = λ same. came_none before (psm == object_psm) sdu all (ap (λ (n : ℕ). n == object_psm) same)
no_packet (Went psm sdu) before all = tt
no_packet (Closed psm) before all = tt
no_packet LinkDown before all = tt
no_packet occurrences.Asked before all = tt
no_packet (Answering answers) before all = tt

moves_none : (moves : List Move) (client : Client) (t : Traffic) → client.transport ≡ Rfcomm → t.sent ≡ [] → StaysTrue object_psm moves client t → AllByRecursion NoPacket (server_side moves)
moves_none [] client t muxed none stays = tt
moves_none (OfServer one ∷ moves) client t muxed none stays =
    let first : IsTrue (traffic_after object_psm (OfServer one) client t) = stays.0 in
    (no_packet one t.come (subst (λ (xs : List (List ℕ)). All (Contains xs) (t.come ++ come_on object_psm one)) none first.requests), moves_none moves client (traffic_after object_psm (OfServer one) client t) muxed none stays.1)
moves_none (OfClient deed ∷ moves) client t muxed none stays =
    moves_none moves (deeds.done deed client) (traffic_after object_psm (OfClient deed) client t) (transport_stays deed client muxed)
    (ap (λ (xs : List (List ℕ)). t.sent ++ xs) (none_sent deed client muxed) ∙ (append-nil t.sent ∙ none)) stays.1

both_none : (a b : List Occurrence) → AllByRecursion NoPacket a → AllByRecursion NoPacket b → AllByRecursion NoPacket (a ++ b)
both_none [] b x y = y
both_none (one ∷ a) b x y = (x.0, both_none a b x.1 y)

-- a push over RFCOMM with such a channel
pub record IsApart (push : Push) : Type 0 where
  pub muxed : push.client.transport ≡ Rfcomm
  pub direct : IsTrueOn object_psm push

push_none : (push : Push) → IsApart push → AllByRecursion NoPacket (server_side push.moves)
push_none push p = moves_none push.moves (begun_of push) no_traffic p.muxed refl p.direct

pub pushes_none : (pushes : List Push) (last : Push) → AllByRecursion IsApart pushes → IsApart last → AllByRecursion NoPacket (over_pushes pushes last)
pushes_none [] last all over = push_none last over
pushes_none (push ∷ pushes) last all over =
    subst (AllByRecursion NoPacket) (sym (append_assoc (ended_with push) (flat_map ended_with pushes) (server_side last.moves)))
    (both_none (ended_with push) (over_pushes pushes last) (both_none (server_side push.moves) (LinkDown ∷ []) (push_none push all.0) (tt, tt)) (pushes_none pushes last all.1 over))

pub serves_carried : (Are : List Answer → Type 0) (at : Reacted) (list : List Occurrence) → AllServe Are at list → AllByRecursion NoPacket list → AllServeCarried Are at list
serves_carried Are at [] serve none = tt
serves_carried Are at (one ∷ rest) serve none =
    let first : ServesSo Are at one = serve.0 in
    let now : ServesCarried Are at one = record { own = first.own; answers = first.answers; carried = none.0 } in
    (now, serves_carried Are (done one at) rest serve.1 none.1)
