-- Of an inbox that goes on with what is left of its answers.
use Rattle.std.proofs.Common.{◌≡◌, ℕ, ◌≤◌, ◌+◌, arith, Bool, true, false, List, [], ◌∷◌, ◌++◌, Option, Some, None, Ok, Err, cond, sym, ap, subst}
use Rattle.std.specs.List.{AllByRecursion}
use Rattle.pair_laws.specs.bt_base.specs.declared.settings.Settings.{Settings}
use Rattle.pair_laws.specs.bt_base.specs.Objects.{Contents}
use Rattle.pair_laws.specs.obex_session.specs.InboxCalls.{InboxCall, Answer, left_by}
use Rattle.pair_laws.specs.channel_model.specs.declared.event.ChannelEvent.{ChannelEvent}
use Rattle.pair_laws.specs.channel_model.specs.declared.event.ChannelEvent.TheVariants as events
use Rattle.pair_laws.specs.channel_model.specs.Value.{Channels}
use Rattle.pair_laws.specs.push_model.specs.Server.{Reacted, Lent, lends, lent_sdu}
use Rattle.pair_laws.specs.push_laws.specs.Faults.{faults_of, spends, spent_from}
use Rattle.pair_laws.specs.push_laws.specs.Occurrences.{Occurrence, Came, Went, Closed, LinkDown, Asked, Answering, done, all_done}
use Rattle.pair_laws.specs.push_laws.specs.Premises.{NoneShort}
use Rattle.pair_laws.specs.world_model.specs.Machines.{News, Linked, Up, Down, Failed, Heard, TimerFired, Cancelled, Opening}
use Rattle.pair_laws.specs.host_model.specs.Circumstances.{Circumstance, answers_in}
use Rattle.pair_laws.specs.host_model.specs.Endpoints.{endpoint_of, takes_sdu}
use Rattle.pair_laws.specs.host_model.specs.Pdus.{sdu_of}
use Rattle.pair_laws.specs.host_model.specs.Servers.{ServerProfile, is_told, server_profile}
use Rattle.pair_laws.specs.host_laws.specs.Feeds.{Feed, Gifts, Learns, Receives, Happens, Sent, Steps, fed}
use Rattle.pair_laws.specs.host_laws.specs.Gifts.{gifts_of}
use Rattle.pair_laws.specs.host_laws.specs.Serving.{news_served, event_served, taken_by, lent_by, served_with, served_from, reacted}
use Rattle.pair_laws.specs.host_laws.proofs.Serving.{feed_done}
use Rattle.inbox_laws.specs.Spending.{AreLeft, SpendsWhatIsGiven, GivesWhatIsLeft}
use Rattle.answer_laws.specs.Memory.{HadMemory}
use Rattle.answer_laws.proofs.Using.{sdu_heard, channel_closed, link_gone}
use Rattle.inbox_laws.proofs.Granting.{all_left, answers_kept}

-- ---- what is kept of answers that are used up

abbrev FewFaults : ℕ → List Answer → Type 0
FewFaults most answers = faults_of answers ≤ most

few_left : (most : ℕ) (calls : List InboxCall) (answers : List Answer) → FewFaults most answers → FewFaults most (left_by calls answers)
few_left most [] answers few = few
few_left most (call ∷ calls) [] few = few
few_left most (call ∷ calls) (Ok done ∷ answers) few = few_left most calls answers few
few_left most (call ∷ calls) (Err fault ∷ answers) few = omega (arith, few)

-- ---- along what happens to a server

-- its inbox is told nothing of what it will answer
abbrev TellsNone : Occurrence → Type 0
TellsNone (Came psm sdu) = Unit {0}
TellsNone (Went psm sdu) = Unit {0}
TellsNone (Closed psm) = Unit {0}
TellsNone LinkDown = Unit {0}
TellsNone Asked = Unit {0}
TellsNone (Answering answers) = ⊥

spent_with : (one : Occurrence) (at : Reacted) → TellsNone one → spends at one + faults_of (done one at).gift.answers ≤ faults_of at.gift.answers
spent_with (Came psm sdu) at none =
    let most = faults_of at.gift.answers in
    let less : faults_of (done (Came psm sdu) at).gift.answers ≤ most = sdu_heard (λ failed. FewFaults most) (λ failed. few_left most) psm sdu at.server at.gift (omega arith) in omega (arith, less)
spent_with (Went psm sdu) at none = omega arith
spent_with (Closed psm) at none =
    let most = faults_of at.gift.answers in
    let less : faults_of (done (Closed psm) at).gift.answers ≤ most = channel_closed (λ failed. FewFaults most) (λ failed. few_left most) psm at.server at.gift (omega arith) in omega (arith, less)
spent_with LinkDown at none =
    let most = faults_of at.gift.answers in
    let less : faults_of (done LinkDown at).gift.answers ≤ most = link_gone (λ failed. FewFaults most) (λ failed. few_left most) at.server at.gift (omega arith) in omega (arith, less)
spent_with Asked at none = omega arith
spent_with (Answering answers) at none = absurd none

spent_along : (list : List Occurrence) (at : Reacted) → AllByRecursion TellsNone list → spent_from at list + faults_of (all_done list at).gift.answers ≤ faults_of at.gift.answers
spent_along [] at none = omega arith
spent_along (one ∷ list) at none =
    let here = spent_with one at none.0 in
    let rest = spent_along list (done one at) none.1 in
    omega (arith, here, rest)

spent_joined : (front behind : List Occurrence) (at : Reacted) → spent_from at (front ++ behind) ≡ spent_from at front + spent_from (all_done front at) behind
spent_joined [] behind at = omega arith
spent_joined (one ∷ front) behind at = let rest = spent_joined front behind (done one at) in omega (arith, rest)

-- ---- along what its profile goes through

news_tell : (heard : News) → AllByRecursion TellsNone (news_served heard)
news_tell (Linked Up) = tt
news_tell (Linked (Down reason)) = (tt, tt)
news_tell (Failed status) = tt
news_tell (Heard pdu) = tt
news_tell TimerFired = tt
news_tell Cancelled = tt
news_tell (Opening name) = tt

one_if : (is : Bool) (one : Occurrence) → TellsNone one → AllByRecursion TellsNone (cond is (one ∷ []) [])
one_if true one none = (none, tt)
one_if false one none = tt

event_tells : (event : ChannelEvent) → AllByRecursion TellsNone (event_served event)
event_tells (events.Opened own psm) = tt
event_tells (events.Closed own psm reason) = one_if (is_told reason) (Closed psm) tt
event_tells (events.Features features) = tt
event_tells events.FeaturesLost = tt
event_tells (events.DisconnectLost own) = tt

taken_tells : (own : Option ℕ) (lent : Lent) (v : Channels) → AllByRecursion TellsNone (taken_by own lent v)
taken_tells None lent v = tt
taken_tells (Some own) lent v = one_if (takes_sdu own (sdu_of lent.payload) v) (Went lent.psm (sdu_of lent.payload)) tt

lent_tells : (lent : Option Lent) (v : Channels) (p : ServerProfile) → AllByRecursion TellsNone (lent_by lent v p)
lent_tells None v p = tt
lent_tells (Some lent) v p = taken_tells (endpoint_of lent.psm p.endpoints) lent v

module _ (settings : Settings) (content : Option Contents) where
  abbrev after : ServerProfile → Feed → ServerProfile
  after p feed = fed (server_profile settings content) p feed

  abbrev Spends : ServerProfile → Feed → Type 0
  Spends p feed = spent_from (reacted p) (served_with p feed) + faults_of (after p feed).inbox.answers ≤ faults_of p.inbox.answers

  quiet_spends : (p : ServerProfile) (feed : Feed) → AllByRecursion TellsNone (served_with p feed) → Spends p feed
  quiet_spends p feed none =
      subst (λ (at : Reacted). spent_from (reacted p) (served_with p feed) + faults_of at.gift.answers ≤ faults_of p.inbox.answers) (sym (feed_done settings content p feed)) (spent_along (served_with p feed) (reacted p) none)

  feed_spends : (p : ServerProfile) (feed : Feed) (left : AreLeft settings content p (feed ∷ [])) → Spends p feed
  feed_spends p (Gifts circumstances) left = let same = ap faults_of left.0 in omega (arith, same)
  feed_spends p (Learns circumstances news) left = quiet_spends p (Learns circumstances news) (news_tell news)
  feed_spends p (Receives own psm sdu) left = quiet_spends p (Receives own psm sdu) (tt, tt)
  feed_spends p (Happens event v) left = quiet_spends p (Happens event v) (event_tells event)
  feed_spends p (Sent v) left = quiet_spends p (Sent v) tt
  feed_spends p (Steps v) left = quiet_spends p (Steps v) (tt, lent_tells (lent_sdu (lends p.server)) v p)

  all_spend : (feeds : List Feed) (p : ServerProfile) → AreLeft settings content p feeds → spent_from (reacted p) (served_from settings content p feeds) ≤ faults_of p.inbox.answers
  all_spend [] p left = omega arith
  all_spend (feed ∷ feeds) p left =
      let next = after p feed in
      let others = served_from settings content next feeds in
      let here = feed_spends p feed (left.0, tt) in
      let rest = all_spend feeds next left.1 in
      let both = spent_joined (served_with p feed) others (reacted p) in
      let there : spent_from (reacted next) others ≡ spent_from (all_done (served_with p feed) (reacted p)) others = ap (λ (at : Reacted). spent_from at others) (feed_done settings content p feed) in
      omega (arith, here, rest, both, there)

  -- ---- what it is given

  gift_kept : (feed : Feed) (p : ServerProfile) (left : AreLeft settings content p (feed ∷ [])) → NoneShort p.inbox.answers → NoneShort (after p feed).inbox.answers
  gift_kept (Gifts circumstances) p left none = subst NoneShort (sym left.0) none
  gift_kept (Learns circumstances news) p left none = (answers_kept NoneShort (all_left HadMemory) settings).told circumstances news p none
  gift_kept (Receives own psm sdu) p left none = (answers_kept NoneShort (all_left HadMemory) settings).received own psm sdu p none
  gift_kept (Happens event v) p left none = (answers_kept NoneShort (all_left HadMemory) settings).happened event v p none
  gift_kept (Sent v) p left none = none
  gift_kept (Steps v) p left none = (answers_kept NoneShort (all_left HadMemory) settings).steps v p none

  abbrev AreEnough : List Feed → Type 0
  AreEnough feeds = AllByRecursion (λ (gift : List Circumstance). NoneShort (answers_in gift)) (gifts_of feeds)

  feed_enough : (feed : Feed) (p : ServerProfile) (left : AreLeft settings content p (feed ∷ [])) → NoneShort p.inbox.answers → (feeds : List Feed) → AreEnough feeds → AreEnough (feed ∷ feeds)
  feed_enough (Gifts circumstances) p left none feeds rest = (subst NoneShort (sym left.0) none, rest)
  feed_enough (Learns circumstances news) p left none feeds rest = rest
  feed_enough (Receives own psm sdu) p left none feeds rest = rest
  feed_enough (Happens event v) p left none feeds rest = rest
  feed_enough (Sent v) p left none feeds rest = rest
  feed_enough (Steps v) p left none feeds rest = rest

  all_enough : (feeds : List Feed) (p : ServerProfile) → AreLeft settings content p feeds → NoneShort p.inbox.answers → AreEnough feeds
  all_enough [] p left none = tt
  all_enough (feed ∷ feeds) p left none = feed_enough feed p (left.0, tt) none feeds (all_enough feeds (after p feed) left.1 (gift_kept feed p (left.0, tt) none))

-- ---- the laws

pub spends_what_is_given : SpendsWhatIsGiven
spends_what_is_given settings content answers [] given = omega arith
spends_what_is_given settings content answers (feed ∷ feeds) (circumstances, is, same, left) =
    subst (λ (one : Feed). spent_from (reacted (server_profile settings content).first) (served_from settings content (server_profile settings content).first (one ∷ feeds)) ≤ faults_of answers) (sym is)
    (first (subst (λ (one : Feed). AreLeft settings content (fed (server_profile settings content) (server_profile settings content).first one) feeds) is left))
  where
    first : AreLeft settings content (fed (server_profile settings content) (server_profile settings content).first (Gifts circumstances)) feeds
        → spent_from (reacted (server_profile settings content).first) (served_from settings content (server_profile settings content).first (Gifts circumstances ∷ feeds)) ≤ faults_of answers
    first rest =
        let all = all_spend settings content feeds (fed (server_profile settings content) (server_profile settings content).first (Gifts circumstances)) rest in
        let equal = ap faults_of same in
        omega (arith, all, equal)

pub gives_what_is_left : GivesWhatIsLeft
gives_what_is_left settings content answers [] given none = tt
gives_what_is_left settings content answers (feed ∷ feeds) (circumstances, is, same, left) none =
    subst (AreEnough settings content) (ap (λ (one : Feed). one ∷ feeds) (sym is)) (
      subst NoneShort (sym same) none,
      all_enough settings content feeds (fed (server_profile settings content) (server_profile settings content).first (Gifts circumstances))
          (subst (λ (one : Feed). AreLeft settings content (fed (server_profile settings content) (server_profile settings content).first one) feeds) is left) (subst NoneShort (sym same) none),
    )
