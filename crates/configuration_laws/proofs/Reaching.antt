-- Where a request for the options of a channel waits, the peer has the channel, as long as it answered no request for its end and gave none up.
use Rattle.std.proofs.Common.{◌≡◌, ℕ, List, true, false, eqb, Option, Some, None, Ok, refl, sym, ap, subst, ◌∙◌, inl, inr}
use Rattle.std.specs.Prelude.{find}
use Rattle.channel_laws.specs.capture.specs.declared.flow.Flow.TheVariants.{Into}
use Rattle.channel_laws.specs.l2cap_signal.specs.Commands.{disconnection_response}
use Rattle.channel_laws.specs.link_talk.specs.declared.channel.Channel.{Channel}
use Rattle.channel_laws.specs.link_talk.specs.declared.life.Life.TheVariants as lives
use Rattle.channel_laws.specs.link_talk.specs.Channels.{Entry, is_there, reading}
use Rattle.channel_laws.specs.link_talk.specs.Sayings.{Saying, GaveUp, Disconnection}
use Rattle.channel_laws.specs.link_talk.specs.Sayings as sayings
use Rattle.channel_laws.specs.channel_model.specs.Changing.{has_own, held_at, is_peer, setup_of}
use Rattle.channel_laws.specs.channel_model.specs.Policies.{Policy}
use Rattle.channel_laws.specs.channel_model.specs.Value.{Setup, Stage, Requested, Connected, Leaving, Closing, Crossed, Held, Channels}
use Rattle.channel_laws.specs.channel_model.proofs.Lookups.{eqb-same}
use Rattle.channel_laws.specs.Belonging.{AreRead, said_at, HasAsked, HasGranted, Belongs}
use Rattle.channel_laws.specs.Ends.{end_at}
use Rattle.channel_laws.specs.Granted.{IsFor}
use Rattle.channel_laws.specs.Modes.{policy_of}
use Rattle.channel_laws.specs.OwnTalk.{command_with}
use Rattle.channel_laws.specs.Pairs.{Pair, Side, Near, Far, turned, Turn, pair_of, IsRunOf}
use Rattle.channel_laws.specs.Responding.{HasPeer}
use Rattle.channel_laws.specs.Runs.{Run}
use Rattle.channel_laws.specs.Signals.{StandsIn}
use Rattle.channel_laws.specs.Views.{IsRead, IsReadBy, peer_of, read_at}
use Rattle.channel_laws.proofs.Belonging.{channels-belong, pledges-were_said, wishes-belong}
use Rattle.channel_laws.proofs.Bestowing.{endpoints-are_granted_once}
use Rattle.channel_laws.proofs.Demanding.{asked_at, asked_on}
use Rattle.channel_laws.proofs.Holding.{is-read}
use Rattle.channel_laws.proofs.Petitions.{IsPetitioned, accepted-petitioned}
use Rattle.channel_laws.proofs.Running.{all-sound, channels-are_read}
use Rattle.channel_laws.proofs.Sound.{Sound}
use Rattle.disconnection_laws.specs.Ended.{HasAnsweredEnd, IsEndedFor}
use Rattle.disconnection_laws.proofs.Ending.{answered-ends_are_ended}
use Rattle.disconnection_laws.proofs.Waiting.{own-of_read, my-run, their-run}
use Rattle.configuration_laws.specs.Met.{Remains}
use Rattle.configuration_laws.proofs.Keeping.{IsBehind, HasIt}
use Rattle.configuration_laws.proofs.Parting.{IsOver, all-over}

-- ---- what is read

record Found (peer : ℕ) (found : Option Entry) : Type 0 where
  entry : Entry
  is : found ≡ Some entry
  peer_is : entry.channel.peer ≡ peer

for_some : (peer : ℕ) (found : Option Entry) → IsFor peer found → Found peer found
for_some peer None for = elim for [ ]
for_some peer (Some entry) for = record { entry = entry; is = refl; peer_is = for }

for_one : (one other : ℕ) (found : Option Entry) → IsFor one found → IsFor other found → one ≡ other
for_one one other None first second = elim first [ ]
for_one one other (Some entry) first second = sym first ∙ second

-- a channel whose options are asked for has not ended
record Asked (own : ℕ) (v : Channels) : Type 0 where
  held : Held
  setup : Setup
  found : find (has_own own) v.held ≡ Some held
  has : setup_of held.stage ≡ Some setup

is_asked : (own n : ℕ) (v : Channels) → asked_on (held_at own v) ≡ Some (Some n) → Asked own v
is_asked own n v = by (held_at own v) refl
  where
    staged : (held : Held) (stage : Stage) → held_at own v ≡ Some held → held.stage ≡ stage → asked_at stage ≡ Some (Some n) → Asked own v
    staged held (Requested request) at is asks = cc
    staged held (Connected peer setup) at is asks = record { held = held; setup = setup; found = at; has = ap setup_of is }
    staged held (Leaving peer setup request) at is asks = record { held = held; setup = setup; found = at; has = ap setup_of is }
    staged held (Closing peer request checked) at is asks = cc
    staged held (Crossed peer request) at is asks = cc

    by : (held : Option Held) → held_at own v ≡ held → asked_on held ≡ Some (Some n) → Asked own v
    by None at asks = cc
    by (Some held) at asks = staged held held.stage at refl asks

asked_there : (policy : Policy) (run : Run) → IsRunOf policy run → (own n peer : ℕ) → asked_on (held_at own run.value) ≡ Some (Some n) → IsEndedFor peer (read_at own (reading run.said).entries) → ⊥
asked_there policy run (list, is) own n peer asks ended =
    let it = is_asked own n run.value asks in
    let r = is-read policy run.said run.value own it.held it.setup it.found it.has (subst (λ (x : Run). Sound policy (reading x.said) x.value) (sym is) (all-sound policy list)) in
    by (read_at own (reading run.said).entries) ended r.entry r.found r.there
  where
    by : (found : Option Entry) → IsEndedFor peer found → (entry : Entry) → found ≡ Some entry → is_there entry.life ≡ true → ⊥
    by None gone entry at there = elim gone [ ]
    by (Some other) gone entry at there =
        let same : other ≡ entry = cc in
        let never : true ≡ false = sym there ∙ (ap (λ (e : Entry). is_there e.life) (sym same) ∙ gone.1) in cc

-- a channel that is read with the endpoint, and is not over, is there with it
peer_there : (policy : Policy) (run : Run) → IsRunOf policy run → (own peer : ℕ) (entry : Entry) → read_at own (reading run.said).entries ≡ Some entry → entry.channel.peer ≡ peer → (entry.life ≡ lives.Over → ⊥) → HasPeer peer (held_at own run.value)
peer_there policy run (list, is) own peer entry found to lasts = by (held_at own run.value) (subst (λ (e : Option Entry). IsRead policy (held_at own run.value) e) found (subst (λ (r : Run). IsRead policy (held_at own r.value) (read_at own (reading r.said).entries)) (sym is) (channels-are_read policy list own)))
  where
    named : (stage : Stage) → peer_of stage ≡ Some peer → is_peer peer stage ≡ true
    named (Requested request) at = cc
    named (Connected other setup) at = let same : other ≡ peer = cc in ap (eqb peer) same ∙ eqb-same peer
    named (Leaving other setup request) at = let same : other ≡ peer = cc in ap (eqb peer) same ∙ eqb-same peer
    named (Closing other request checked) at = let same : other ≡ peer = cc in ap (eqb peer) same ∙ eqb-same peer
    named (Crossed other request) at = let same : other ≡ peer = cc in ap (eqb peer) same ∙ eqb-same peer

    staged : (held : Held) (endpoint : Option ℕ) → peer_of held.stage ≡ endpoint → IsReadBy policy held endpoint (Some entry) → is_peer peer held.stage ≡ true
    staged held None at reads = elim reads [ ]
    staged held (Some other) at reads = named held.stage (at ∙ ap Some (sym (ap (λ (c : Channel). c.peer) reads.0.channel_is) ∙ to))

    by : (held : Option Held) → IsRead policy held (Some entry) → HasPeer peer held
    by None over = absurd (lasts over)
    by (Some held) reads = staged held (peer_of held.stage) refl reads

-- ---- both hosts

module _ (near far : Policy) (past : List Turn) (read : AreRead near far past) (side : Side) where
  abbrev pair : Pair
  pair = pair_of near far past

  abbrev mine : List Saying
  mine = said_at side pair

  abbrev theirs : List Saying
  theirs = said_at side (turned pair)

  they_belong : (own : ℕ) (entry : Entry) → read_at own (reading theirs).entries ≡ Some entry → Belongs theirs mine entry.channel
  they_belong = by side
    where
      by : (which : Side) (own : ℕ) (entry : Entry) → read_at own (reading (said_at which (turned pair))).entries ≡ Some entry → Belongs (said_at which (turned pair)) (said_at which pair) entry.channel
      by Near own entry found = channels-belong near far past read Far own entry found
      by Far own entry found = channels-belong near far past read Near own entry found

  -- a response to a request for an end that the other heard this one said
  they_heard : (identifier own peer : ℕ) → StandsIn (sayings.Command Into (Ok (command_with identifier (disconnection_response own peer)))) theirs → HasAnsweredEnd identifier own peer mine
  they_heard identifier own peer = by side
    where
      by : (which : Side) → StandsIn (sayings.Command Into (Ok (command_with identifier (disconnection_response own peer)))) (said_at which (turned pair)) → HasAnsweredEnd identifier own peer (said_at which pair)
      by Near stands = pledges-were_said near far past read Far (command_with identifier (disconnection_response own peer)) refl stands
      by Far stands = pledges-were_said near far past read Near (command_with identifier (disconnection_response own peer)) refl stands

  granted_once : (identifier status own peer : ℕ) → HasGranted identifier status own peer mine → IsFor peer (read_at own (reading mine).entries) × ((another psm : ℕ) → ¬ HasAsked another psm own mine)
  granted_once identifier status own peer granted =
      let (list, is) = my-run near far past read side in
      subst (λ (run : Run). IsFor peer (read_at own (reading run.said).entries) × ((another psm : ℕ) → ¬ HasAsked another psm own run.said)) (sym is)
      (endpoints-are_granted_once (policy_of side near far) list identifier status own peer (subst (λ (run : Run). HasGranted identifier status own peer run.said) is granted))

  granted_there : (identifier status own peer : ℕ) → HasGranted identifier status own peer theirs → IsFor peer (read_at own (reading theirs).entries)
  granted_there identifier status own peer granted =
      let (list, is) = their-run near far past read side in
      subst (λ (run : Run). IsFor peer (read_at own (reading run.said).entries)) (sym is)
      (endpoints-are_granted_once (policy_of side far near) list identifier status own peer (subst (λ (run : Run). HasGranted identifier status own peer run.said) is granted)).0

  -- the other end has a channel for it
  reads_there : (own destination : ℕ) → IsBehind own mine → IsFor destination (read_at own (reading mine).entries) → IsFor own (read_at destination (reading theirs).entries)
  reads_there own destination behind for = by (channels-belong near far past read side own one.entry one.is)
    where
      one : Found destination (read_at own (reading mine).entries)
      one = for_some destination (read_at own (reading mine).entries) for

      own_is : one.entry.channel.own ≡ own
      own_is = own-of_read own (reading mine).entries one.entry one.is

      -- this end granted it, so the other one asked for its options
      petitioned : (identifier status : ℕ) → HasGranted identifier status own destination mine → IsBehind own mine → IsFor own (read_at destination (reading theirs).entries)
      petitioned identifier status granted (inr (another, psm, asked)) = absurd ((granted_once identifier status own destination granted).1 another psm asked)
      petitioned identifier status granted (inl (channel, channel_is, took)) =
          subst (λ n. IsFor own (read_at n (reading theirs).entries)) (same (they_belong belongs.0 other.entry other.is)) belongs.1
        where
          petition : IsPetitioned own mine
          petition = accepted-petitioned mine own took.entry (ap (λ n. read_at n (reading mine).entries) (sym channel_is) ∙ took.found) took.accepted

          belongs : (another : ℕ) × IsFor own (read_at another (reading theirs).entries)
          belongs = wishes-belong near far past read side petition.1.0 own petition.1.1 petition.0 petition.1.2

          other : Found own (read_at belongs.0 (reading theirs).entries)
          other = for_some own (read_at belongs.0 (reading theirs).entries) belongs.1

          there : other.entry.channel.own ≡ belongs.0
          there = own-of_read belongs.0 (reading theirs).entries other.entry other.is

          same : Belongs theirs mine other.entry.channel → belongs.0 ≡ destination
          same (i, s, inl (their_grant, my_asking)) = absurd ((granted_once identifier status own destination granted).1 i other.entry.channel.psm (subst (λ n. HasAsked i other.entry.channel.psm n mine) other.peer_is my_asking))
          same (i, s, inr (their_asking, my_grant)) =
              let also : HasGranted i s own belongs.0 mine = subst (λ n. HasGranted i s own n mine) there (subst (λ n. HasGranted i s n other.entry.channel.own mine) other.peer_is my_grant) in
              for_one belongs.0 destination (read_at own (reading mine).entries) (granted_once i s own belongs.0 also).0 for

      by : Belongs mine theirs one.entry.channel → IsFor own (read_at destination (reading theirs).entries)
      by (i, s, inl (granted, asked)) = petitioned i s (subst (λ n. HasGranted i s own n mine) one.peer_is (subst (λ n. HasGranted i s n one.entry.channel.peer mine) own_is granted)) behind
      by (i, s, inr (asked, granted)) = granted_there i s destination own (subst (λ n. HasGranted i s n own theirs) one.peer_is (subst (λ n. HasGranted i s one.entry.channel.peer n theirs) own_is granted))

  -- and has it still
  pub has-it : (own : ℕ) → ((n : ℕ) → asked_on (held_at own (end_at side pair).run.value) ≡ Some (Some n) → IsBehind own mine) → Remains own theirs → HasIt own mine (end_at side pair).run.value (end_at side (turned pair)).run.value
  has-it own behind stays n destination asks for = peer_there (policy_of side far near) (end_at side (turned pair)).run (their-run near far past read side) destination own other.entry other.is other.peer_is lasts
    where
      other : Found own (read_at destination (reading theirs).entries)
      other = for_some own (read_at destination (reading theirs).entries) (reads_there own destination (behind n asks) for)

      own_is : other.entry.channel.own ≡ destination
      own_is = own-of_read destination (reading theirs).entries other.entry other.is

      never : IsOver destination own theirs → ⊥
      never (inl (identifier, answered)) = stays.unanswered identifier destination answered
      never (inr (inl (identifier, heard))) =
          let (list, is) = my-run near far past read side in
          let answered : HasAnsweredEnd identifier own destination mine = they_heard identifier own destination heard in
          let ended : IsEndedFor destination (read_at own (reading mine).entries) =
          subst (λ (run : Run). IsEndedFor destination (read_at own (reading run.said).entries)) (sym is)
          (answered-ends_are_ended (policy_of side near far) list identifier own destination (subst (λ (run : Run). HasAnsweredEnd identifier own destination run.said) is answered)).0 in
          asked_there (policy_of side near far) (end_at side pair).run (my-run near far past read side) own n destination asks ended
      never (inr (inr gave)) = stays.not_forgone destination gave

      lasts : other.entry.life ≡ lives.Over → ⊥
      lasts over = never (subst (λ n. IsOver n own theirs) own_is (subst (λ n. IsOver other.entry.channel.own n theirs) other.peer_is (all-over theirs destination other.entry other.is over)))
