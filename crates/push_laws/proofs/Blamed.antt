-- Each row of the table shows a fault of the peer, and nothing but what a client hears does.
use Rattle.std.proofs.Common.{inl, inr, ◌+◌, ◌<◌, Bool, true, false, ◌&&◌, ◌≡◌, ◌==◌, ℕ, List, [], ◌∷◌, ◌++◌, length, nat_lt, nat_le, Option, Some, None, Result, Ok, Err, refl, sym, ap, subst, ◌∙◌, arith, if◌then◌else◌}
use Rattle.std.specs.Prelude.{◌≢◌, ◌⊎◌, ◌↔◌, not}
use Rattle.std.specs.List.{AllByRecursion}
use Rattle.std.proofs.lemmas.Bool.{cond-true, eqb-true, eq-eqb, lt-ltb, and_from}
use Rattle.link_talk.specs.bt_base.specs.declared.ports.PortFault.{PortFault}
use Rattle.link_talk.specs.bt_base.specs.declared.ports.PortFault.TheVariants as fault
use Rattle.link_talk.specs.bt_base.specs.declared.settings.Transport.{Transport}
use Rattle.link_talk.specs.bt_base.specs.declared.settings.Transport.TheVariants.{L2cap, Rfcomm}
use Rattle.link_talk.specs.push_terms.specs.declared.outcome.Outcome.{Outcome}
use Rattle.link_talk.specs.push_terms.specs.declared.outcome.Outcome.TheVariants as outcomes
use Rattle.ertm_model.specs.declared.reason.ErtmReason.{ErtmReason}
use Rattle.ertm_model.specs.declared.reason.ErtmReason.TheVariants as ertm
use Rattle.ertm_model.specs.Reasons.{number_of}
use Rattle.push_model.specs.rfcomm_model.specs.declared.state.MuxReason.{MuxReason}
use Rattle.push_model.specs.rfcomm_model.specs.declared.state.MuxReason.TheVariants as mux
use Rattle.push_model.specs.rfcomm_model.specs.Hearing.{Up, hears}
use Rattle.push_model.specs.rfcomm_model.specs.Saying.{Said, next}
use Rattle.push_model.specs.sdp_client.specs.declared.reason.Found.{Found}
use Rattle.push_model.specs.sdp_client.specs.declared.reason.QueryReason.{QueryReason}
use Rattle.push_model.specs.sdp_client.specs.declared.reason.QueryReason.TheVariants as query
use Rattle.push_model.specs.declared.closing.CloseCause.{CloseCause}
use Rattle.push_model.specs.declared.closing.CloseCause.TheVariants as channel
use Rattle.push_model.specs.declared.course.Contact.{Contact}
use Rattle.push_model.specs.declared.course.Contact.TheVariants.{Unmet, Met, Left, Closing}
use Rattle.push_model.specs.declared.course.Stage.{Stage}
use Rattle.push_model.specs.declared.course.Stage.TheVariants.{ObjectChannel, ObjectEnd}
use Rattle.push_model.specs.Causes.{cause_of_page, cause_of_close, cause_of_query, cause_of_mux, small_channel}
use Rattle.push_model.specs.Client.{Client, is_direct, may_cancel}
use Rattle.push_model.specs.Events as events
use Rattle.push_model.specs.Events.{News, search_psm}
use Rattle.push_model.specs.Laws.{Deed, Hears, Asks, Finishes, Cancels, all_done}
use Rattle.push_model.specs.Responding.{is_left, is_object}
use Rattle.push_model.specs.Shown.{closed_shows, opened_shows, found_shows, up_shows, object_shows, outside_shows, sdu_shows, news_show, part_shows, ask_shows, said_shows, step_shows, shows}
use Rattle.push_model.specs.ShownFirst.{IsEndedBy}
use Rattle.push_model.specs.Steps as steps
use Rattle.push_model.specs.Steps.{Part, Ask, puts, takes_some, filled, next_ask, may_ask}
use Rattle.push_model.proofs.ShownFirstLaws.{outcomes_end_exactly}
use Rattle.push_laws.specs.Blames as table
use Rattle.push_laws.specs.Blames.{Blames, IsClosed, IsQueryEnded, ComesToObject, IsMuxClosed, SduBlames, FaultsAreOfTheTable, OnlyNewsBlame, NumbersAreApart, PeerIsBlamed, PeersAreBlamedExactly}
use Rattle.push_laws.proofs.Blaming.{one_of_three, news_faults}
use Rattle.push_laws.proofs.FaultyResponses.{OnFault, either_fault, response_blames, stream_blames}

-- ---- a channel

closed_shown : (news : News) (client : Client) (cause : CloseCause) → IsClosed cause news client → news_show news client ≡ cause_of_close cause
closed_shown news client cause c = ap (λ (n : News). news_show n client) c.is ∙ ap (closed_shows c.psm cause) c.here ∙ cond-true (c.psm == c.psm) (cause_of_close cause) None (eq-eqb c.psm c.psm refl)

machine_shown : (number : ℕ) (test : Bool) → (number == 5) ≡ test → number ≢ 5 → (if test then outcomes.RetryLimit else outcomes.PeerFault 2 number) ≡ outcomes.PeerFault 2 number
machine_shown number true is other = absurd (other (eqb-true number 5 is))
machine_shown number false is other = refl

refused_shown : (result : ℕ) (test : Bool) → (nat_le 2 result && nat_le result 4) ≡ test → result ≢ 2 → result ≢ 3 → result ≢ 4 → (if test then 16 + result else 31) ≡ 31
refused_shown result false is two three four = refl
refused_shown result true is two three four = absurd (by (one_of_three result is))
  where
    by : (result ≡ 2) ⊎ ((result ≡ 3) ⊎ (result ≡ 4)) → ⊥
    by (inl e) = two e
    by (inr (inl e)) = three e
    by (inr (inr e)) = four e

-- ---- the query

query_shown : (news : News) (client : Client) (reason : QueryReason) → IsQueryEnded reason news client → news_show news client ≡ cause_of_query reason
query_shown news client reason q =
    ap (λ (n : News). news_show n client) q.is ∙ ap (λ (stage : Stage). sdu_shows stage search_psm q.octets client) q.stage ∙ ap (λ (found : Found). found_shows client.transport found) q.found

-- ---- the channel of the object

object_shown : (news : News) (client : Client) (t : Transport) (sdu : List ℕ) → ComesToObject t sdu news client → news_show news client ≡ object_shows t sdu client
object_shown news client t sdu here =
    ap (λ (n : News). news_show n client) here.is ∙ ap (λ (stage : Stage). sdu_shows stage client.psm sdu client) here.stage
    ∙ cond-true (client.psm == client.psm) (object_shows client.transport sdu client) None (eq-eqb client.psm client.psm refl) ∙ ap (λ (transport : Transport). object_shows transport sdu client) here.transport_is

mux_shown : (news : News) (client : Client) (reason : MuxReason) → IsMuxClosed reason news client → is_left client.contact reason ≡ false → news_show news client ≡ Some (cause_of_mux reason)
mux_shown news client reason c other =
    object_shown news client Rfcomm c.sdu c.here ∙ ap (λ (what : Up). up_shows what (record client { mux = hears c.sdu client.mux })) c.closes ∙ ap (λ (own : Bool). if own then None else Some (cause_of_mux reason)) other

-- the own last DISC is answered by a DISC alone
unasked : (contact : Contact) (reason : MuxReason) → is_left Closing reason ≡ false → is_left contact reason ≡ false
unasked Unmet reason e = refl
unasked Met reason e = refl
unasked Left reason e = refl
unasked Closing reason e = e

before_own : (contact : Contact) → contact ≢ Closing → is_left contact mux.Disc ≡ false
before_own Unmet other = refl
before_own Met other = refl
before_own Left other = refl
before_own Closing other = absurd (other refl)

sdu_blames : (t : Transport) (sdu : List ℕ) (client : Client) (reason : ℕ) → SduBlames t sdu client reason → object_shows t sdu client ≡ Some (outcomes.PeerFault 5 reason)
sdu_blames L2cap sdu client reason b = response_blames sdu client reason b
sdu_blames Rfcomm sdu client reason b =
    let now : Client = record client { mux = hears sdu client.mux } in
    ap (λ (what : Up). up_shows what now) b.1 ∙ stream_blames (length (client.held ++ b.0)) (client.held ++ b.0) now reason (omega arith) b.2

outside_shown : (news : News) (client : Client) (stage : Stage) (sdu : List ℕ) → news ≡ events.Sdu client.psm sdu → client.stage ≡ stage → client.transport ≡ L2cap
    → sdu_shows stage client.psm sdu client ≡ (if client.psm == client.psm then outside_shows client.transport else None) → news_show news client ≡ Some (outcomes.PeerFault 5 153)
outside_shown news client stage sdu is at over shown =
    ap (λ (n : News). news_show n client) is ∙ ap (λ (s : Stage). sdu_shows s client.psm sdu client) at ∙ shown
    ∙ cond-true (client.psm == client.psm) (outside_shows client.transport) None (eq-eqb client.psm client.psm refl) ∙ ap outside_shows over

-- ---- the rows

rows_show : (news : News) (client : Client) (layer reason : ℕ) → Blames news client layer reason → news_show news client ≡ Some (outcomes.PeerFault layer reason)
rows_show news client _ _ (table.NoLink status is stage) = ap (λ (n : News). news_show n client) is ∙ ap (λ (s : Stage). if events.is_paging s then Some (cause_of_page status) else None) stage
rows_show news client _ _ (table.NoFrame number c other) = closed_shown news client (channel.Broken number) c ∙ ap Some (machine_shown number (number == 5) refl other)
rows_show news client _ _ (table.SmallMtu mtu is stage over small) =
    ap (λ (n : News). news_show n client) is ∙ ap (λ (s : Stage). opened_shows s client.psm mtu client) stage
    ∙ cond-true ((client.psm == client.psm) && (is_direct client.transport && nat_lt mtu 255)) (Some small_channel) None
    (and_from (client.psm == client.psm) (is_direct client.transport && nat_lt mtu 255) (eq-eqb client.psm client.psm refl) (and_from (is_direct client.transport) (nat_lt mtu 255) (ap is_direct over) (lt-ltb mtu 255 small)))
rows_show news client _ _ (table.NoAgreement c) = closed_shown news client channel.NoAgreement c
rows_show news client _ _ (table.NoPsm c) = closed_shown news client (channel.Refused 2) c
rows_show news client _ _ (table.NoSecurity c) = closed_shown news client (channel.Refused 3) c
rows_show news client _ _ (table.NoResources c) = closed_shown news client (channel.Refused 4) c
rows_show news client _ _ (table.NoChannel result c two three four) =
    closed_shown news client (channel.Refused result) c ∙ ap (λ (n : ℕ). Some (outcomes.PeerFault 2 n)) (refused_shown result (nat_le 2 result && nat_le result 4) refl two three four)
rows_show news client _ _ (table.NoReply q) = query_shown news client query.BadReply q
rows_show news client _ _ (table.ErrorReply code q) = query_shown news client (query.ErrorCode code) q
rows_show news client _ _ (table.LongReply q) = query_shown news client query.TooLong q
rows_show news client _ _ (table.ByDm c) = mux_shown news client mux.Dm c (unasked client.contact mux.Dm refl)
rows_show news client _ _ (table.ByDisc c other) = mux_shown news client mux.Disc c (before_own client.contact other)
rows_show news client _ _ (table.NoCreditFlow c) = mux_shown news client mux.NoCreditFlow c (unasked client.contact mux.NoCreditFlow refl)
rows_show news client _ _ (table.NoCredit c) = mux_shown news client mux.Overdrawn c (unasked client.contact mux.Overdrawn refl)
rows_show news client _ _ (table.NoMuxFrame c) = mux_shown news client mux.BadFrame c (unasked client.contact mux.BadFrame refl)
rows_show news client _ _ (table.ManyCredits c) = mux_shown news client mux.CreditOverflow c (unasked client.contact mux.CreditOverflow refl)
rows_show news client _ _ (table.ByResponse t sdu reason here b) = object_shown news client t sdu here ∙ sdu_blames t sdu client reason b
rows_show news client _ _ (table.AheadOfOpening point sdu is stage over) = outside_shown news client (ObjectChannel point) sdu is stage over refl
rows_show news client _ _ (table.BehindEnd point sdu is stage over) = outside_shown news client (ObjectEnd point) sdu is stage over refl

fault_is : (P : ℕ → ℕ → Type 0) (shown : Option Outcome) (layer reason : ℕ) → OnFault P shown → shown ≡ Some (outcomes.PeerFault layer reason) → P layer reason
fault_is P shown layer reason holds e = subst (OnFault P) e holds

pub faults_by_rows : FaultsAreOfTheTable
faults_by_rows news client layer reason = (fault_is (Blames news client) (news_show news client) layer reason (news_faults news client), rows_show news client layer reason)

-- ---- nothing else

abbrev Never : ℕ → ℕ → Type 0
Never layer reason = ⊥

part_faults : (outcome : Result (Unit {0}) PortFault) → OnFault Never (part_shows outcome)
part_faults (Ok done) = tt
part_faults (Err fault.Failed) = tt
part_faults (Err fault.NoMemory) = tt

ask_faults : (ask : Ask) (client : Client) (parts : List Part) → OnFault Never (ask_shows ask client parts)
ask_faults steps.Put client parts = part_faults (puts client parts).outcome
ask_faults steps.Connect client parts = tt
ask_faults steps.Abort client parts = tt
ask_faults steps.Disconnect client parts = tt
ask_faults steps.Close client parts = tt
ask_faults steps.Nothing client parts = tt

said_faults : (said : Option Said) (client : Client) (parts : List Part) → OnFault Never (said_shows said client parts)
said_faults None client parts =
    let quiet : Client = record client { frame = None; rest = [] } in
    either_fault Never (may_ask client && takes_some client.mux) (ask_shows (next_ask client) quiet parts) None (λ e. ask_faults (next_ask client) quiet parts) (λ e. tt)
said_faults (Some said) client parts = tt

step_faults : (t : Transport) (client : Client) (parts : List Part) → OnFault Never (step_shows t client parts)
step_faults L2cap client parts = let quiet : Client = record client { rest = [] } in either_fault Never (may_ask client) (ask_shows (next_ask client) quiet parts) None (λ e. ask_faults (next_ask client) quiet parts) (λ e. tt)
step_faults Rfcomm client parts = let full = filled client in said_faults (next full.mux) full parts

pub only_news : OnlyNewsBlame
only_news (Hears news) client layer reason e = (news, refl)
only_news (Asks parts) client layer reason e =
    absurd (fault_is Never (shows (Asks parts) client) layer reason (either_fault Never (not client.failed && (not client.given && is_object client.stage)) (step_shows client.transport client parts) None (λ t. step_faults client.transport client parts) (λ t. tt)) e)
only_news Finishes client layer reason e = absurd (fault_is Never None layer reason tt e)
only_news Cancels client layer reason e = absurd (fault_is Never (shows Cancels client) layer reason (either_fault Never (may_cancel client) (Some outcomes.Cancelled) None (λ t. tt) (λ t. tt)) e)

-- ---- the numbers of the machine's reasons

apart : (a b : ℕ) → a < b → a ≡ b → ⊥
apart a b less e = omega (arith, less, e)

small_number : (reason : ErtmReason) → number_of reason < 14
small_number ertm.BadReqSeq = omega arith
small_number ertm.Srej = omega arith
small_number ertm.BadSegment = omega arith
small_number ertm.RetryLimit = omega arith
small_number ertm.TooLongSdu = omega arith
small_number ertm.BadFrame = omega arith

small_apart : (n : ℕ) → n < 14 → AllByRecursion (λ (number : ℕ). n ≢ number) (14 ∷ 15 ∷ 18 ∷ 19 ∷ 20 ∷ 31 ∷ [])
small_apart n small = (apart n 14 small, (apart n 15 (omega (arith, small)), (apart n 18 (omega (arith, small)), (apart n 19 (omega (arith, small)), (apart n 20 (omega (arith, small)), (apart n 31 (omega (arith, small)), tt))))))

limit_number : (reason : ErtmReason) → (number_of reason ≡ 5) ↔ (reason ≡ ertm.RetryLimit)
limit_number ertm.RetryLimit = (λ e. refl, λ e. refl)
limit_number ertm.BadReqSeq = (λ e. absurd (apart 1 5 (omega arith) e), λ e. ap number_of e)
limit_number ertm.Srej = (λ e. absurd (apart 3 5 (omega arith) e), λ e. ap number_of e)
limit_number ertm.BadSegment = (λ e. absurd (apart 4 5 (omega arith) e), λ e. ap number_of e)
limit_number ertm.TooLongSdu = (λ e. absurd (apart 5 6 (omega arith) (sym e)), λ e. ap number_of e)
limit_number ertm.BadFrame = (λ e. absurd (apart 5 7 (omega arith) (sym e)), λ e. ap number_of e)

pub numbers_are_apart : NumbersAreApart
numbers_are_apart = record { others = λ reason. small_apart (number_of reason) (small_number reason); limit = limit_number }

-- ---- a push

blamed : (deeds : List Deed) (client : Client) (layer reason : ℕ) → IsEndedBy (outcomes.PeerFault layer reason) deeds client → PeerIsBlamed layer reason deeds client
blamed deeds client layer reason s =
    let at : Client = all_done s.before client in
    let heard = only_news s.deed at layer reason s.shown in
    record {
      before = s.before;
      news = heard.0;
      after = s.after;
      parts = s.parts ∙ ap (λ (deed : Deed). s.before ++ deed ∷ s.after) heard.1;
      first = s.first;
      blames = (faults_by_rows heard.0 at layer reason).0 (sym (ap (λ (deed : Deed). shows deed at) heard.1) ∙ s.shown);
    }

ended : (deeds : List Deed) (client : Client) (layer reason : ℕ) → PeerIsBlamed layer reason deeds client → IsEndedBy (outcomes.PeerFault layer reason) deeds client
ended deeds client layer reason b =
    record { before = b.before; deed = Hears b.news; after = b.after; parts = b.parts; first = b.first; shown = rows_show b.news (all_done b.before client) layer reason b.blames }

pub peers_blamed_exactly : PeersAreBlamedExactly
peers_blamed_exactly deeds client layer reason start =
    let ends = outcomes_end_exactly deeds client (outcomes.PeerFault layer reason) start in (λ e. blamed deeds client layer reason (ends.0 e), λ b. ends.1 (ended deeds client layer reason b))
