-- What a client hears shows a fault of its peer by a row of the table alone.
use Rattle.std.proofs.Common.{inl, inr, ◌+◌, ◌≤◌, Bool, true, false, ◌||◌, ◌&&◌, ◌≡◌, ◌==◌, ℕ, List, ◌++◌, length, nat_lt, nat_le, Option, Some, None, is_none, refl, sym, ap, subst, ◌∙◌, arith, if◌then◌else◌}
use Rattle.std.specs.Prelude.{◌⊎◌, not}
use Rattle.std.proofs.lemmas.Bool.{eqb-true, eqb-false, ltb-true, ltb-false, leb-true, and_parts}
use Rattle.link_talk.specs.bt_base.specs.declared.settings.Transport.{Transport}
use Rattle.link_talk.specs.bt_base.specs.declared.settings.Transport.TheVariants.{L2cap, Rfcomm}
use Rattle.link_talk.specs.push_terms.specs.declared.outcome.Outcome.TheVariants as outcomes
use Rattle.push_model.specs.rfcomm_model.specs.declared.state.MuxReason.{MuxReason}
use Rattle.push_model.specs.rfcomm_model.specs.declared.state.MuxReason.TheVariants as mux
use Rattle.push_model.specs.rfcomm_model.specs.Hearing.{Up, nothing, opened, bytes, closed, up, hears}
use Rattle.push_model.specs.sdp_client.specs.Asking.{is_due}
use Rattle.push_model.specs.sdp_client.specs.Hearing.{found_at}
use Rattle.push_model.specs.sdp_client.specs.declared.reason.Found.{Found}
use Rattle.push_model.specs.sdp_client.specs.declared.reason.Found.TheVariants as found
use Rattle.push_model.specs.sdp_client.specs.declared.reason.QueryReason.{QueryReason}
use Rattle.push_model.specs.sdp_client.specs.declared.reason.QueryReason.TheVariants as query
use Rattle.push_model.specs.declared.closing.CloseCause.{CloseCause}
use Rattle.push_model.specs.declared.closing.CloseCause.TheVariants as channel
use Rattle.push_model.specs.declared.course.Contact.{Contact}
use Rattle.push_model.specs.declared.course.Point.TheVariants.{Due, Asked}
use Rattle.push_model.specs.declared.course.Stage.{Stage}
use Rattle.push_model.specs.declared.course.Stage.TheVariants.{Rest, Link, SearchChannel, Search, SearchEnd, Features, ObjectChannel, Object, ObjectEnd, LinkEnd, Over}
use Rattle.push_model.specs.Causes.{cause_of_link, cause_of_page, cause_of_close, cause_of_mux, mux_number, small_channel}
use Rattle.push_model.specs.Client.{Client, is_direct}
use Rattle.push_model.specs.Events as events
use Rattle.push_model.specs.Events.{News, search_psm}
use Rattle.push_model.specs.Responding.{is_left}
use Rattle.push_model.specs.Shown.{watched, closed_shows, opened_shows, way_of, found_shows, up_shows, object_shows, outside_shows, sdu_shows, news_show}
use Rattle.push_laws.specs.Blames as table
use Rattle.push_laws.specs.Blames.{Blames, IsClosed, IsQueryEnded, ComesToObject, IsMuxClosed, SduBlames}
use Rattle.push_laws.proofs.FaultyResponses.{OnFault, either_fault, response_faults, stream_faults}

-- ---- links

link_faults : (P : ℕ → ℕ → Type 0) (test : Bool) → OnFault P (Some (if test then outcomes.PeerClosed else outcomes.LinkLost))
link_faults P true = tt
link_faults P false = tt

paging : (stage : Stage) → events.is_paging stage ≡ true → stage ≡ Link Asked
paging (Link Asked) e = refl
paging Rest e = absurd (let f : false ≡ true = e in cc)
paging (Link Due) e = absurd (let f : false ≡ true = e in cc)
paging (SearchChannel point) e = absurd (let f : false ≡ true = e in cc)
paging Search e = absurd (let f : false ≡ true = e in cc)
paging (SearchEnd point) e = absurd (let f : false ≡ true = e in cc)
paging (Features point) e = absurd (let f : false ≡ true = e in cc)
paging (ObjectChannel point) e = absurd (let f : false ≡ true = e in cc)
paging Object e = absurd (let f : false ≡ true = e in cc)
paging (ObjectEnd point) e = absurd (let f : false ≡ true = e in cc)
paging (LinkEnd point) e = absurd (let f : false ≡ true = e in cc)
paging Over e = absurd (let f : false ≡ true = e in cc)

-- ---- channels

pub one_of_three : (result : ℕ) → (nat_le 2 result && nat_le result 4) ≡ true → (result ≡ 2) ⊎ ((result ≡ 3) ⊎ (result ≡ 4))
one_of_three result e = let parts = and_parts (nat_le 2 result) (nat_le result 4) e in by (nat_lt result 3) (nat_lt result 4) (leb-true 2 result parts.0) (leb-true result 4 parts.1) refl refl
  where
    by : (third fourth : Bool) → 2 ≤ result → result ≤ 4 → nat_lt result 3 ≡ third → nat_lt result 4 ≡ fourth → (result ≡ 2) ⊎ ((result ≡ 3) ⊎ (result ≡ 4))
    by true fourth low high below other = inl (omega (arith, low, ltb-true result 3 below))
    by false true low high above below = inr (inl (omega (arith, ltb-false result 3 above, ltb-true result 4 below)))
    by false false low high above other = inr (inr (omega (arith, ltb-false result 4 other, high)))

refused_row : (news : News) (client : Client) (result : ℕ) → IsClosed (channel.Refused result) news client → (test : Bool) → (nat_le 2 result && nat_le result 4) ≡ test → Blames news client 2 (if test then 16 + result else 31)
refused_row news client result c true e = by (one_of_three result e)
  where
    same : (n : ℕ) → result ≡ n → (IsClosed (channel.Refused n) news client → Blames news client 2 (16 + n)) → Blames news client 2 (16 + result)
    same n is row = subst (λ (m : ℕ). Blames news client 2 (16 + m)) (sym is) (row (subst (λ (m : ℕ). IsClosed (channel.Refused m) news client) is c))

    by : (result ≡ 2) ⊎ ((result ≡ 3) ⊎ (result ≡ 4)) → Blames news client 2 (16 + result)
    by (inl is) = same 2 is (λ c. table.NoPsm c)
    by (inr (inl is)) = same 3 is (λ c. table.NoSecurity c)
    by (inr (inr is)) = same 4 is (λ c. table.NoResources c)
refused_row news client result c false e = table.NoChannel result c (other 2 refl) (other 3 refl) (other 4 refl)
  where
    other : (n : ℕ) → (nat_le 2 n && nat_le n 4) ≡ true → result ≡ n → ⊥
    other n within is = let f : true ≡ false = sym within ∙ ap (λ (m : ℕ). nat_le 2 m && nat_le m 4) (sym is) ∙ e in cc

machine_row : (news : News) (client : Client) (number : ℕ) → IsClosed (channel.Broken number) news client → (test : Bool) → (number == 5) ≡ test → OnFault (Blames news client) (Some (if test then outcomes.RetryLimit else outcomes.PeerFault 2 number))
machine_row news client number c true e = tt
machine_row news client number c false e = table.NoFrame number c (eqb-false number 5 e)

close_faults : (news : News) (client : Client) (cause : CloseCause) → IsClosed cause news client → OnFault (Blames news client) (cause_of_close cause)
close_faults news client channel.Peer c = tt
close_faults news client (channel.Refused result) c = refused_row news client result c (nat_le 2 result && nat_le result 4) refl
close_faults news client channel.NoAgreement c = table.NoAgreement c
close_faults news client channel.RetryLimit c = tt
close_faults news client (channel.Broken number) c = machine_row news client number c (number == 5) refl
close_faults news client channel.Own c = tt

closed_faults : (psm : ℕ) (cause : CloseCause) (client : Client) (own : Option ℕ) → watched client.stage client ≡ own → OnFault (Blames (events.ChannelClosed psm cause) client) (closed_shows psm cause own)
closed_faults psm cause client None is = tt
closed_faults psm cause client (Some own) is =
    either_fault (Blames (events.ChannelClosed psm cause) client) (psm == own) (cause_of_close cause) None
    (λ here. close_faults (events.ChannelClosed psm cause) client cause (record { psm = psm; is = refl; here = is ∙ ap Some (sym (eqb-true psm own here)) })) (λ other. tt)

direct : (t : Transport) → is_direct t ≡ true → t ≡ L2cap
direct L2cap e = refl
direct Rfcomm e = absurd (let f : false ≡ true = e in cc)

opened_faults : (psm mtu : ℕ) (client : Client) (stage : Stage) → client.stage ≡ stage → OnFault (Blames (events.ChannelOpen psm mtu) client) (opened_shows stage psm mtu client)
opened_faults psm mtu client (ObjectChannel Asked) is =
    either_fault (Blames (events.ChannelOpen psm mtu) client) ((psm == client.psm) && (is_direct client.transport && nat_lt mtu 255)) (Some small_channel) None
    (λ small. let parts = and_parts (psm == client.psm) (is_direct client.transport && nat_lt mtu 255) small in
    let others = and_parts (is_direct client.transport) (nat_lt mtu 255) parts.1 in
    table.SmallMtu mtu (ap (λ (p : ℕ). events.ChannelOpen p mtu) (eqb-true psm client.psm parts.0)) is (direct client.transport others.0) (ltb-true mtu 255 others.1)) (λ other. tt)
opened_faults psm mtu client (ObjectChannel Due) is = tt
opened_faults psm mtu client Object is = tt
opened_faults psm mtu client Search is = tt
opened_faults psm mtu client (ObjectEnd point) is = tt
opened_faults psm mtu client Rest is = tt
opened_faults psm mtu client (Link point) is = tt
opened_faults psm mtu client (SearchChannel point) is = tt
opened_faults psm mtu client (SearchEnd point) is = tt
opened_faults psm mtu client (Features point) is = tt
opened_faults psm mtu client (LinkEnd point) is = tt
opened_faults psm mtu client Over is = tt

-- ---- replies

found_faults : (news : News) (client : Client) (what : Found) → ((reason : QueryReason) → what ≡ found.Refused reason → IsQueryEnded reason news client) → OnFault (Blames news client) (found_shows client.transport what)
found_faults news client found.More ends = tt
found_faults news client (found.Service target) ends = either_fault (Blames news client) (is_none (way_of client.transport target)) (Some outcomes.NoService) None (λ e. tt) (λ e. tt)
found_faults news client found.NoService ends = tt
found_faults news client (found.Refused query.BadReply) ends = table.NoReply (ends query.BadReply refl)
found_faults news client (found.Refused (query.ErrorCode code)) ends = table.ErrorReply code (ends (query.ErrorCode code) refl)
found_faults news client (found.Refused query.WrongTransaction) ends = tt
found_faults news client (found.Refused query.TooLong) ends = table.LongReply (ends query.TooLong refl)

-- ---- the channel of the object

mux_row : (news : News) (client : Client) (reason : MuxReason) → IsMuxClosed reason news client → is_left client.contact reason ≡ false → Blames news client 4 (mux_number reason)
mux_row news client mux.Dm c own = table.ByDm c
mux_row news client mux.Disc c own = table.ByDisc c (λ closing. let f : true ≡ false = sym (ap (λ (contact : Contact). is_left contact mux.Disc) closing) ∙ own in cc)
mux_row news client mux.NoCreditFlow c own = table.NoCreditFlow c
mux_row news client mux.Overdrawn c own = table.NoCredit c
mux_row news client mux.BadFrame c own = table.NoMuxFrame c
mux_row news client mux.CreditOverflow c own = table.ManyCredits c

object_faults : (news : News) (sdu : List ℕ) (client : Client) (t : Transport) → ComesToObject t sdu news client → OnFault (Blames news client) (object_shows t sdu client)
object_faults news sdu client L2cap here = response_faults (Blames news client) sdu client (λ reason b. table.ByResponse L2cap sdu reason here b)
object_faults news sdu client Rfcomm here = by (up sdu client.mux) refl
  where
    now : Client
    now = record client { mux = hears sdu client.mux }

    by : (what : Up) → up sdu client.mux ≡ what → OnFault (Blames news client) (up_shows what now)
    by nothing is = tt
    by opened is = tt
    by (bytes octets) is = stream_faults (Blames news client) (length (client.held ++ octets)) (client.held ++ octets) now (λ reason b. table.ByResponse Rfcomm sdu reason here (octets, is, b))
    by (closed reason) is =
        either_fault (Blames news client) (is_left client.contact reason) None (Some (cause_of_mux reason)) (λ own. tt) (λ other. mux_row news client reason (record { sdu = sdu; here = here; closes = is }) other)

outside_faults : (P : ℕ → ℕ → Type 0) (t : Transport) → (t ≡ L2cap → P 5 153) → OnFault P (outside_shows t)
outside_faults P L2cap row = row refl
outside_faults P Rfcomm row = tt

-- an SDU on the channel to a PSM
told_on : (psm own : ℕ) (octets : List ℕ) → (psm == own) ≡ true → events.Sdu psm octets ≡ events.Sdu own octets
told_on psm own octets here = ap (λ (p : ℕ). events.Sdu p octets) (eqb-true psm own here)

sdu_faults : (psm : ℕ) (octets : List ℕ) (client : Client) (stage : Stage) → client.stage ≡ stage → OnFault (Blames (events.Sdu psm octets) client) (sdu_shows stage psm octets client)
sdu_faults psm octets client Search is =
    either_fault (Blames (events.Sdu psm octets) client) (psm == search_psm) (found_shows client.transport (found_at client.query octets)) None
    (λ here. found_faults (events.Sdu psm octets) client (found_at client.query octets) (λ reason refused. record { octets = octets; is = told_on psm search_psm octets here; stage = is; found = refused })) (λ other. tt)
sdu_faults psm octets client (ObjectChannel point) is =
    either_fault (Blames (events.Sdu psm octets) client) (psm == client.psm) (outside_shows client.transport) None
    (λ here. outside_faults (Blames (events.Sdu psm octets) client) client.transport (λ over. table.AheadOfOpening point octets (told_on psm client.psm octets here) is over)) (λ other. tt)
sdu_faults psm octets client Object is =
    either_fault (Blames (events.Sdu psm octets) client) (psm == client.psm) (object_shows client.transport octets client) None
    (λ here. object_faults (events.Sdu psm octets) octets client client.transport (record { is = told_on psm client.psm octets here; stage = is; transport_is = refl })) (λ other. tt)
sdu_faults psm octets client (ObjectEnd point) is =
    either_fault (Blames (events.Sdu psm octets) client) (psm == client.psm) (outside_shows client.transport) None
    (λ here. outside_faults (Blames (events.Sdu psm octets) client) client.transport (λ over. table.BehindEnd point octets (told_on psm client.psm octets here) is over)) (λ other. tt)
sdu_faults psm octets client Rest is = tt
sdu_faults psm octets client (Link point) is = tt
sdu_faults psm octets client (SearchChannel point) is = tt
sdu_faults psm octets client (SearchEnd point) is = tt
sdu_faults psm octets client (Features point) is = tt
sdu_faults psm octets client (LinkEnd point) is = tt
sdu_faults psm octets client Over is = tt

-- ---- all that is told

pub news_faults : (news : News) (client : Client) → OnFault (Blames news client) (news_show news client)
news_faults events.LinkUp client = tt
news_faults (events.LinkDown reason) client = either_fault (Blames (events.LinkDown reason) client) (events.is_linked client.stage) (Some (cause_of_link reason)) None (λ e. link_faults (Blames (events.LinkDown reason) client) (reason == 0x13)) (λ e. tt)
news_faults (events.LinkFailed status) client =
    either_fault (Blames (events.LinkFailed status) client) (events.is_paging client.stage) (Some (cause_of_page status)) None (λ waits. table.NoLink status refl (paging client.stage waits)) (λ e. tt)
news_faults (events.ChannelOpen psm mtu) client = opened_faults psm mtu client client.stage refl
news_faults (events.ChannelClosed psm cause) client = closed_faults psm cause client (watched client.stage client) refl
news_faults (events.Sdu psm octets) client = sdu_faults psm octets client client.stage refl
news_faults events.FeaturesTold client = tt
news_faults events.FeaturesLost client = either_fault (Blames events.FeaturesLost client) (events.is_asking_features client.stage) (Some outcomes.RetryLimit) None (λ e. tt) (λ e. tt)
news_faults events.Timer client =
    either_fault (Blames events.Timer client) ((events.armed client && not (client.given || is_due client.query)) && (client.left == 0)) (Some outcomes.RetryLimit) None (λ e. tt) (λ e. tt)
