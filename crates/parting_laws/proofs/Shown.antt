-- Which causes are shown to a client by anything but the end of a link, of a channel, a loss of features and its timer: neither that its peer closed something, nor that a limit was met.
use Rattle.std.proofs.Common.{◌≡◌, ℕ, List, ◌++◌, length, Bool, true, false, ◌&&◌, eqb, Some, None, refl}
use Rattle.std.specs.Prelude.{nat_lt, is_none}
use Rattle.cause_laws.specs.bt_base.specs.declared.settings.Transport.{Transport}
use Rattle.cause_laws.specs.bt_base.specs.declared.settings.Transport.TheVariants.{L2cap, Rfcomm}
use Rattle.cause_laws.specs.push_terms.specs.declared.outcome.Outcome.{Outcome}
use Rattle.cause_laws.specs.push_terms.specs.declared.outcome.Outcome.TheVariants.{RetryLimit, NoService, ShelfFault, PeerClosed}
use Rattle.cause_laws.specs.rfcomm_model.specs.Hearing as mux
use Rattle.cause_laws.specs.sdp_client.specs.declared.reason.Found.{Found}
use Rattle.cause_laws.specs.sdp_client.specs.declared.reason.Found.TheVariants as found
use Rattle.cause_laws.specs.sdp_client.specs.declared.reason.QueryReason.{QueryReason}
use Rattle.cause_laws.specs.sdp_client.specs.declared.reason.QueryReason.TheVariants.{BadReply, ErrorCode, WrongTransaction, TooLong}
use Rattle.cause_laws.specs.sdp_client.specs.Hearing.{found_at}
use Rattle.cause_laws.specs.push_model.specs.declared.course.Point.TheVariants.{Due, Asked}
use Rattle.cause_laws.specs.push_model.specs.declared.course.Stage.{Stage}
use Rattle.cause_laws.specs.push_model.specs.declared.course.Stage.TheVariants.{Rest, Link, SearchChannel, Search, SearchEnd, Features, ObjectChannel, Object, ObjectEnd, LinkEnd, Over}
use Rattle.cause_laws.specs.push_model.specs.Causes.{cause_of_query, cause_of_mux, small_channel}
use Rattle.cause_laws.specs.push_model.specs.Client.{Client, is_direct}
use Rattle.cause_laws.specs.push_model.specs.Events.{search_psm}
use Rattle.cause_laws.specs.push_model.specs.Responding.{is_left}
use Rattle.cause_laws.specs.push_model.specs.Shown.{way_of, found_shows, opened_shows, response_shows, stream_shows, up_shows, object_shows, outside_shows, sdu_shows}
use Rattle.cause_laws.proofs.Clients.{is_responded, is_shelf, Within, within_more, either, response_responds, stream_responds}

-- neither of both
abbrev pub is_else : Outcome → Bool
is_else PeerClosed = false
is_else RetryLimit = false
is_else outcome = true

pub shelf_else : (outcome : Outcome) → is_shelf outcome ≡ true → is_else outcome ≡ true
shelf_else ShelfFault is = refl
shelf_else outcome is = cc

responded_else : (outcome : Outcome) → is_responded outcome ≡ true → is_else outcome ≡ true
responded_else PeerClosed is = cc
responded_else RetryLimit is = cc
responded_else outcome is = refl

pub opened_else : (stage : Stage) (psm mtu : ℕ) (client : Client) → Within is_else (opened_shows stage psm mtu client)
opened_else Rest psm mtu client = tt
opened_else (Link point) psm mtu client = tt
opened_else (SearchChannel point) psm mtu client = tt
opened_else Search psm mtu client = tt
opened_else (SearchEnd point) psm mtu client = tt
opened_else (Features point) psm mtu client = tt
opened_else (ObjectChannel Due) psm mtu client = tt
opened_else (ObjectChannel Asked) psm mtu client = either is_else (eqb psm client.psm && (is_direct client.transport && nat_lt mtu 255)) (Some small_channel) None refl tt
opened_else Object psm mtu client = tt
opened_else (ObjectEnd point) psm mtu client = tt
opened_else (LinkEnd point) psm mtu client = tt
opened_else Over psm mtu client = tt

query_else : (reason : QueryReason) → Within is_else (cause_of_query reason)
query_else BadReply = refl
query_else (ErrorCode code) = refl
query_else WrongTransaction = tt
query_else TooLong = refl

found_else : (transport : Transport) (what : Found) → Within is_else (found_shows transport what)
found_else transport found.More = tt
found_else transport (found.Service target) = either is_else (is_none (way_of transport target)) (Some NoService) None refl tt
found_else transport found.NoService = refl
found_else transport (found.Refused reason) = query_else reason

up_else : (news : mux.Up) (client : Client) → Within is_else (up_shows news client)
up_else mux.nothing client = tt
up_else mux.opened client = tt
up_else (mux.bytes octets) client =
    within_more is_responded is_else responded_else (stream_shows (length (client.held ++ octets)) (client.held ++ octets) client) (stream_responds (length (client.held ++ octets)) (client.held ++ octets) client)
up_else (mux.closed reason) client = either is_else (is_left client.contact reason) None (Some (cause_of_mux reason)) tt refl

object_else : (transport : Transport) (sdu : List ℕ) (client : Client) → Within is_else (object_shows transport sdu client)
object_else L2cap sdu client = within_more is_responded is_else responded_else (response_shows sdu client) (response_responds sdu client)
object_else Rfcomm sdu client = up_else (mux.up sdu client.mux) (record client { mux = mux.hears sdu client.mux })

outside_else : (transport : Transport) → Within is_else (outside_shows transport)
outside_else L2cap = refl
outside_else Rfcomm = tt

pub sdu_else : (stage : Stage) (psm : ℕ) (sdu : List ℕ) (client : Client) → Within is_else (sdu_shows stage psm sdu client)
sdu_else Rest psm sdu client = tt
sdu_else (Link point) psm sdu client = tt
sdu_else (SearchChannel point) psm sdu client = tt
sdu_else Search psm sdu client = either is_else (eqb psm search_psm) (found_shows client.transport (found_at client.query sdu)) None (found_else client.transport (found_at client.query sdu)) tt
sdu_else (SearchEnd point) psm sdu client = tt
sdu_else (Features point) psm sdu client = tt
sdu_else (ObjectChannel point) psm sdu client = either is_else (eqb psm client.psm) (outside_shows client.transport) None (outside_else client.transport) tt
sdu_else Object psm sdu client = either is_else (eqb psm client.psm) (object_shows client.transport sdu client) None (object_else client.transport sdu client) tt
sdu_else (ObjectEnd point) psm sdu client = either is_else (eqb psm client.psm) (outside_shows client.transport) None (outside_else client.transport) tt
sdu_else (LinkEnd point) psm sdu client = tt
sdu_else Over psm sdu client = tt
