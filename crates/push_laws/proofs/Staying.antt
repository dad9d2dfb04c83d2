-- Whatever a client over RFCOMM hears and does, its multiplexer keeps its side, its room and the credits that its peer is to have.
use Rattle.std.proofs.Common.{Bool, true, false, ◌≡◌, ◌==◌, ◌&&◌, ℕ, List, [], ◌∷◌, length, take, drop, Option, Some, None, Result, Ok, Err, refl, sym, ap, subst, ◌∙◌, if◌then◌else◌}
use Rattle.std.specs.Prelude.{not, nat_lt, is_none}
use Rattle.link_talk.specs.bt_base.specs.declared.ports.PortFault.{PortFault}
use Rattle.link_talk.specs.bt_base.specs.declared.settings.Transport.{Transport}
use Rattle.link_talk.specs.bt_base.specs.declared.settings.Transport.TheVariants.{Rfcomm}
use Rattle.push_model.specs.rfcomm_frames.specs.FrameReading.{frame_answer, is_empty}
use Rattle.push_model.specs.rfcomm_model.specs.declared.state.Asks.TheVariants as asks
use Rattle.push_model.specs.rfcomm_model.specs.declared.state.Command.TheVariants.{LeaveUser}
use Rattle.push_model.specs.rfcomm_model.specs.Hearing.{up, hears}
use Rattle.push_model.specs.rfcomm_model.specs.Machine.{Mux, is_ready, is_leaving, taken_count, sends, leaves}
use Rattle.push_model.specs.rfcomm_model.specs.Saying.{Said, next, after_said}
use Rattle.push_model.specs.rfcomm_model.proofs.Keeping.{answer_keeps, next_keeps}
use Rattle.push_model.specs.declared.course.Contact.TheVariants.{Closing}
use Rattle.push_model.specs.declared.course.Stage.{Stage}
use Rattle.push_model.specs.declared.course.Stage.TheVariants.{Object}
use Rattle.push_model.specs.Client.{Client}
use Rattle.push_model.specs.Events as events
use Rattle.push_model.specs.Laws as deeds
use Rattle.push_model.specs.Laws.{Deed, Hears, Asks, Finishes, Cancels}
use Rattle.push_model.specs.Responding.{is_object, hears_up}
use Rattle.push_model.specs.Steps as steps
use Rattle.push_model.specs.Steps.{Part, Stepped, Made, Ask, Connect, Put, Abort, Disconnect, Close, Nothing, requests, filled, said_by, says, sends_muxed, takes_some, asks_through, asks_muxed, goes_muxed, steps_muxed, steps_object, steps_at, rests, may_ask, next_ask}
use Rattle.link_talk.specs.push_terms.specs.declared.outcome.Outcome.{Outcome}
use Rattle.link_talk.specs.push_terms.specs.declared.outcome.Outcome.TheVariants as outcomes
use Rattle.push_laws.specs.Dialogs.{SameNumbers, MultiplexersStay, ClientsStay}
use Rattle.push_laws.specs.Parties.{begun_of, client_side}
use Rattle.push_laws.specs.Sending.{MayPush}
use Rattle.push_laws.proofs.Pushing.{Task, Fixed, Fresh}
use Rattle.push_laws.proofs.Sending.{all_stand}
use Rattle.push_laws.proofs.Driving.{news_stays, up_stays, cancels_stays, requests_same}
use Rattle.push_laws.proofs.Early.{Begun, Early, Opened, early_deed}
use Rattle.push_laws.proofs.Late.{IsLate}
use Rattle.push_laws.proofs.Talks.{object_of}
use Rattle.push_laws.proofs.Working.{transport_stays}

module _ (first : Mux) where
  abbrev N : Mux → Type 0
  N mux = SameNumbers first mux

  either : (test : Bool) (a b : Mux) → N a → N b → N (if test then a else b)
  either true a b x y = x
  either false a b x y = y

  same : (a b : Mux) → b ≡ a → N a → N b
  same a b is k = subst N (sym is) k

  sends_n : (octets : List ℕ) (m : Mux) → N m → N (sends octets m)
  sends_n octets m k = either (is_empty m.waiting && nat_lt 0 m.account.held) (record m { waiting = take (taken_count (length octets) m) octets }) m k k

  leaves_n : (m : Mux) → N m → N (leaves m)
  leaves_n m k = either (is_none m.closed && not (is_leaving m.asks)) (record m { asks = asks.Due LeaveUser }) m k k

  says_next : (o : Option Said) (m : Mux) → next m ≡ o → N m → N (after_said o m)
  says_next o m is k = subst (λ (x : Option Said). N (after_said x m)) is (let l = next_keeps m in (l.0 ∙ k.0, l.2 ∙ k.1, l.3 ∙ k.2))

  hears_n : (sdu : List ℕ) (m : Mux) → N m → N (hears sdu m)
  hears_n sdu m k = let l = answer_keeps m.role m.dlci m.largest m.account.cap (frame_answer sdu) m (refl, refl, refl, refl) in (l.0 ∙ k.0, l.2 ∙ k.1, l.3 ∙ k.2)

  -- ---- its steps

  stepped_either : (test : Bool) (a b : Stepped) → N a.client.mux → N b.client.mux → N (if test then a else b).client.mux
  stepped_either true a b x y = x
  stepped_either false a b x y = y

  filled_n : (client : Client) → N client.mux → N (filled client).mux
  filled_n client k = by (is_ready client.mux && not (is_empty client.rest))
    where
      by : (test : Bool) → N (if test then record client { mux = sends client.rest client.mux; rest = drop (taken_count (length client.rest) client.mux) client.rest } else client).mux
      by true = sends_n client.rest client.mux k
      by false = k

  said_n : (o : Option Said) (client : Client) (parts : List Part) → next client.mux ≡ o → N client.mux → N (said_by o client parts).client.mux
  said_n None client parts is k = k
  said_n (Some said) client parts is k = says_next (Some said) client.mux is k

  says_n : (client : Client) (parts : List Part) → N client.mux → N (says client parts).client.mux
  says_n client parts k = let full = filled client in said_n (next full.mux) full parts refl (filled_n client k)

  made_n : (outcome : Result (Unit {0}) PortFault) (request : Made) → N request.client.mux → N (sends_muxed outcome request).client.mux
  made_n (Ok done) request k = says_n request.client request.left k
  made_n (Err fault) request k = k

  through_n : (ask : Ask) (client : Client) (parts : List Part) → N client.mux → N (asks_through ask client parts).client.mux
  through_n ask client parts k =
      let request : Made = requests ask (record client { rest = [] }) parts in
      stepped_either (takes_some client.mux) (sends_muxed request.outcome request) (rests client parts)
      (made_n request.outcome request (same client.mux request.client.mux (requests_same client.mux ask (record client { rest = [] }) parts refl) k)) k

  asks_n : (ask : Ask) (client : Client) (parts : List Part) → N client.mux → N (asks_muxed ask client parts).client.mux
  asks_n Close client parts k = says_n (record client { mux = leaves client.mux; contact = Closing }) parts (leaves_n client.mux k)
  asks_n Nothing client parts k = k
  asks_n Connect client parts k = through_n Connect client parts k
  asks_n Put client parts k = through_n Put client parts k
  asks_n Abort client parts k = through_n Abort client parts k
  asks_n Disconnect client parts k = through_n Disconnect client parts k

  goes_n : (o : Option Said) (client : Client) (parts : List Part) → next client.mux ≡ o → N client.mux → N (goes_muxed o client parts).client.mux
  goes_n None client parts is k =
      let quiet : Client = record client { frame = None } in stepped_either (may_ask quiet) (asks_muxed (next_ask quiet) quiet parts) (rests quiet parts) (asks_n (next_ask quiet) quiet parts k) k
  goes_n (Some said) client parts is k = said_n (Some said) client parts is k

  muxed_n : (client : Client) (parts : List Part) → N client.mux → N (steps_muxed client parts).client.mux
  muxed_n client parts k = let full = filled client in goes_n (next full.mux) full parts refl (filled_n client k)

  -- ---- on the channel of its object

  module _ (client : Client) (k : N client.mux) (muxed : client.transport ≡ Rfcomm) (here : client.stage ≡ Object) where
    late : IsLate client.stage
    late = subst IsLate (sym here) tt

    news_n : (news : events.News) → ((at : ℕ) (sdu : List ℕ) → news ≡ events.Sdu at sdu → ⊥) → N (events.hears_news news client).mux
    news_n news none = let s = news_stays client.mux client.rest true news client none (late, λ works. refl, refl, refl) in same client.mux (events.hears_news news client).mux s.2 k

    sdu_n : (psm : ℕ) (sdu : List ℕ) → N (events.sdu_at client.stage psm sdu client).mux
    sdu_n psm sdu = subst (λ (st : Stage). N (events.sdu_at st psm sdu client).mux) (sym here) (by (psm == client.psm))
      where
        on : N (hears_up (up sdu client.mux) (record client { mux = hears sdu client.mux })).mux
        on =
            let s = up_stays (hears sdu client.mux) client.rest true (up sdu client.mux) (record client { mux = hears sdu client.mux }) (late, λ works. refl, refl, refl) in
            same (hears sdu client.mux) (hears_up (up sdu client.mux) (record client { mux = hears sdu client.mux })).mux s.2 (hears_n sdu client.mux k)

        by : (mine : Bool) → N (if mine then events.hears_object client.transport sdu client else client).mux
        by true = subst (λ (t : Transport). N (events.hears_object t sdu client).mux) (sym muxed) on
        by false = k

    steps_n : (parts : List Part) → N (steps.steps client parts).client.mux
    steps_n parts =
        stepped_either client.failed (record { client = client; step = steps.NoMemory; left = parts }) (if client.given then rests client parts else steps_at client.stage client parts) k
        (stepped_either client.given (rests client parts) (steps_at client.stage client parts) k
        (subst (λ (st : Stage). N (steps_at st client parts).client.mux) (sym here) (subst (λ (t : Transport). N (steps_object t client parts).client.mux) (sym muxed) (muxed_n client parts k))))

    object_n : (deed : Deed) → N (deeds.done deed client).mux
    object_n (Hears (events.Sdu psm sdu)) = sdu_n psm sdu
    object_n (Hears events.LinkUp) = news_n events.LinkUp (λ p s e. let g : events.LinkUp ≡ events.Sdu p s = e in cc)
    object_n (Hears (events.LinkDown reason)) = news_n (events.LinkDown reason) (λ p s e. let g : events.LinkDown reason ≡ events.Sdu p s = e in cc)
    object_n (Hears (events.LinkFailed status)) = news_n (events.LinkFailed status) (λ p s e. let g : events.LinkFailed status ≡ events.Sdu p s = e in cc)
    object_n (Hears (events.ChannelOpen psm mtu)) = news_n (events.ChannelOpen psm mtu) (λ p s e. let g : events.ChannelOpen psm mtu ≡ events.Sdu p s = e in cc)
    object_n (Hears (events.ChannelClosed psm cause)) = news_n (events.ChannelClosed psm cause) (λ p s e. let g : events.ChannelClosed psm cause ≡ events.Sdu p s = e in cc)
    object_n (Hears events.FeaturesTold) = news_n events.FeaturesTold (λ p s e. let g : events.FeaturesTold ≡ events.Sdu p s = e in cc)
    object_n (Hears events.FeaturesLost) = news_n events.FeaturesLost (λ p s e. let g : events.FeaturesLost ≡ events.Sdu p s = e in cc)
    object_n (Hears events.Timer) = news_n events.Timer (λ p s e. let g : events.Timer ≡ events.Sdu p s = e in cc)
    object_n (Asks parts) = steps_n parts
    object_n Finishes = k
    object_n Cancels = let s = cancels_stays client.mux client.rest true client (late, λ works. refl, refl, refl) in same client.mux (deeds.done Cancels client).mux s.2 k

  -- ---- anywhere

  early_n : (client : Client) (after : Client) → N client.mux → Begun client.mux after → N after.mux
  early_n client after k (Early e) = same client.mux after.mux e.1 k
  early_n client after k (Opened o) =
      let is = o.mux_is in
      (ap (λ (m : Mux). m.role) is ∙ k.0, ap (λ (m : Mux). m.largest) is ∙ k.1, ap (λ (m : Mux). m.account.cap) is ∙ k.2)

  deed_n : (deed : Deed) (client : Client) → client.transport ≡ Rfcomm → N client.mux → N (deeds.done deed client).mux
  deed_n deed client muxed k = by (is_object client.stage) refl
    where
      by : (object : Bool) → is_object client.stage ≡ object → N (deeds.done deed client).mux
      by true is = object_n client k muxed (object_of client.stage is) deed
      by false is = early_n client (deeds.done deed client) k (early_deed client.mux deed client (is, refl, muxed))

  all_n : (list : List Deed) (client : Client) → client.transport ≡ Rfcomm → N client.mux → ((deeds.all_done list client).transport ≡ Rfcomm) × N (deeds.all_done list client).mux
  all_n [] client muxed k = (muxed, k)
  all_n (deed ∷ list) client muxed k = all_n list (deeds.done deed client) (transport_stays deed client muxed) (deed_n deed client muxed k)

pub multiplexers-stay : MultiplexersStay
multiplexers-stay client list muxed = all_n client.mux list client muxed (refl, refl, refl)

no_cause : (outcome : Outcome) → None ≡ Some outcome → ⊥
no_cause outcome e = cc

pub clients-stay : ClientsStay
clients-stay settings push c =
    let may : MayPush push.client push.name push.size = c.may in
    let begun = begun_of push in
    let list = client_side push.moves in
    let w : Task = record { maximum = push.client.session.maximum; wanted = push.client.session.wanted; name = push.name; size = push.size; content = push.content } in
    let fixed : Fixed w begun.session push.name push.size push.client.limit =
    record { maximum = refl; wanted = refl; name_is = refl; size_is = refl; short = may.short; small = may.small; least = may.least; most = may.most } in
    let stands = all_stand w [] list begun c.answers (fixed, Fresh refl refl refl refl (λ e. may.own) (λ e. no_cause outcomes.Done e)) in
    let now = stands.0 in
    let all = all_n push.client.mux list begun c.muxed (refl, refl, refl) in
    record { muxed = all.0; numbers = all.1; maximum = now.maximum; wanted = now.wanted }
