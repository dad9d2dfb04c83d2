-- A channel that both hosts have is there at each of them, where neither ended it.
use Rattle.std.proofs.Common.{◌≡◌, ℕ, List, true, false, Option, Some, None, refl, sym, ap, subst, ◌∙◌, inl, inr}
use Rattle.channel_laws.specs.l2cap_signal.specs.Commands.{disconnection_response}
use Rattle.channel_laws.specs.link_talk.specs.declared.channel.Channel.{Channel}
use Rattle.channel_laws.specs.link_talk.specs.declared.life.Life.TheVariants as lives
use Rattle.channel_laws.specs.link_talk.specs.Channels.{Entry, is_there, reading}
use Rattle.channel_laws.specs.channel_model.specs.Changing.{held_at, setup_of}
use Rattle.channel_laws.specs.channel_model.specs.Policies.{Policy}
use Rattle.channel_laws.specs.channel_model.specs.Value.{Stage, Requested, Connected, Leaving, Closing, Crossed, Held}
use Rattle.channel_laws.specs.Awaited.{asks_for_end}
use Rattle.channel_laws.specs.Belonging.{AreRead, HasGranted, Belongs}
use Rattle.channel_laws.specs.Common.{mirrored}
use Rattle.channel_laws.specs.Endpoints.{IsOf}
use Rattle.channel_laws.specs.OwnTalk.{command_with}
use Rattle.channel_laws.specs.Pairs.{Near, Far, Turn, pair_of, IsRunOf}
use Rattle.channel_laws.specs.Pipes.{HaveChannel}
use Rattle.channel_laws.specs.Runs.{Run}
use Rattle.channel_laws.specs.Views.{read_at, peer_of, life_of}
use Rattle.channel_laws.proofs.Belonging.{channels-belong, pledges-were_said}
use Rattle.channel_laws.proofs.Holding.{is-read}
use Rattle.channel_laws.proofs.Pairing.{each-end_runs}
use Rattle.channel_laws.proofs.Running.{all-sound}
use Rattle.channel_laws.proofs.Sound.{ReadsBy, Reads, Sound}
use Rattle.configuration_laws.specs.Asked.{EndsAreAskedFor}
use Rattle.configuration_laws.specs.Met.{Remains}
use Rattle.configuration_laws.proofs.Parting.{IsOver, all-over}
use Rattle.disconnection_laws.specs.Ended.{HasAnsweredEnd, IsEndedFor, AnsweredEndsAreEnded}
use Rattle.disconnection_laws.specs.Waits.{GrantsApart}
use Rattle.disconnection_laws.proofs.Waiting.{own-of_read}
use Rattle.lasting_laws.specs.Lasting.{AsksForNoEnd, Lasts}
use Rattle.recovered_laws.specs.Paid.{IsThere}
use Rattle.channel_laws.specs.Belonging.{HasAsked}
use Rattle.forgoing_laws.specs.Forgone.{ForgoesNoEnd}
use Rattle.channel_laws.specs.channel_model.proofs.Lookups.{own_of, found-has}
use Rattle.staying_laws.specs.Stays.{IsKept, AllKept}
use Rattle.staying_laws.proofs.Kept.{found-kept}
use Rattle.staying_laws.proofs.Crossing.{all-crossed}

-- ---- one host

-- it has not closed the channel
abbrev pub IsLive : Stage → Type 0
IsLive (Requested request) = Unit {0}
IsLive (Connected peer setup) = Unit {0}
IsLive (Leaving peer setup request) = Unit {0}
IsLive (Closing peer request checked) = ⊥
IsLive (Crossed peer request) = ⊥

there_by : (policy : Policy) (run : Run) → IsRunOf policy run → (own : ℕ) (entry : Entry) → read_at own (reading run.said).entries ≡ Some entry → (entry.life ≡ lives.Over → ⊥)
    → ((held : Held) → held_at own run.value ≡ Some held → entry.life ≡ life_of held.stage → IsLive held.stage) → IsThere own run.value
there_by policy run (list, is) own entry found lasts live = by (held_at own run.value) refl (subst (Reads policy (held_at own run.value)) found ((subst (λ (r : Run). Sound policy (reading r.said) r.value) (sym is) (all-sound policy list)).core.reads own))
  where
    staged : (held : Held) (stage : Stage) → held.stage ≡ stage → held_at own run.value ≡ Some held → ReadsBy policy held (peer_of stage) (Some entry) → IsThere own run.value
    staged held (Requested request) same at reads = elim reads [ ]
    staged held (Connected peer setup) same at reads = (held, setup, at, ap setup_of same)
    staged held (Leaving peer setup request) same at reads = (held, setup, at, ap setup_of same)
    staged held (Closing peer request checked) same at reads = absurd (subst IsLive same (live held at reads.0.life_is))
    staged held (Crossed peer request) same at reads = absurd (subst IsLive same (live held at reads.0.life_is))

    by : (found : Option Held) → held_at own run.value ≡ found → Reads policy found (Some entry) → IsThere own run.value
    by None at over = absurd (lasts over)
    by (Some held) at reads = staged held held.stage refl at reads

record Found (channel : Channel) (found : Option Entry) : Type 0 where
  entry : Entry
  is : found ≡ Some entry
  of : entry.channel ≡ channel

found_of : (channel : Channel) (found : Option Entry) → IsOf channel found → Found channel found
found_of channel None is = elim is [ ]
found_of channel (Some entry) is = record { entry = entry; is = refl; of = is }

ended_there : (policy : Policy) (run : Run) → IsRunOf policy run → (own peer : ℕ) → IsThere own run.value → IsEndedFor peer (read_at own (reading run.said).entries) → ⊥
ended_there policy run (list, is) own peer (held, setup, at, has) ended =
    let r = is-read policy run.said run.value own held setup at has (subst (λ (x : Run). Sound policy (reading x.said) x.value) (sym is) (all-sound policy list)) in
    by (read_at own (reading run.said).entries) ended r.entry r.found r.there
  where
    by : (found : Option Entry) → IsEndedFor peer found → (entry : Entry) → found ≡ Some entry → is_there entry.life ≡ true → ⊥
    by None gone entry at there = elim gone [ ]
    by (Some other) gone entry at there = let same : other ≡ entry = cc in let never : true ≡ false = sym there ∙ (ap (λ (e : Entry). is_there e.life) (sym same) ∙ gone.1) in cc

-- ---- both hosts at a moment up to which the far one asked for no end

module _ (asked_for : EndsAreAskedFor) (near far : Policy) (past : List Turn) (read : AreRead near far past) (none : AsksForNoEnd (pair_of near far past).far.run.said) where
  -- so the near one answered no request for one
  unanswered : (identifier own peer : ℕ) → HasAnsweredEnd identifier own peer (pair_of near far past).near.run.said → ⊥
  unanswered identifier own peer answered = let (another, asked) = asked_for near far past read Near identifier own peer answered in none another peer own asked

  module _ (channel : Channel) (have : HaveChannel near far past channel) where
    here : Found channel (read_at channel.own (reading (pair_of near far past).near.run.said).entries)
    here = found_of channel (read_at channel.own (reading (pair_of near far past).near.run.said).entries) have.near_has

    beyond : Found (mirrored channel) (read_at channel.peer (reading (pair_of near far past).far.run.said).entries)
    beyond = found_of (mirrored channel) (read_at channel.peer (reading (pair_of near far past).far.run.said).entries) have.far_has

    -- where the far one answered no request for its end, and gave none up, it is there
    pub far-there : Lasts (pair_of near far past).far.run → Remains channel.own (pair_of near far past).far.run.said → IsThere channel.peer (pair_of near far past).far.run.value
    far-there lasts stays = there_by far (pair_of near far past).far.run (each-end_runs near far past).1 channel.peer beyond.entry beyond.is (λ over. never (subst (λ (c : Channel). IsOver c.own c.peer (pair_of near far past).far.run.said) beyond.of (all-over (pair_of near far past).far.run.said channel.peer beyond.entry beyond.is over)))
        (λ held at life. live held.stage (lasts.there channel.peer held at))
      where
        live : (stage : Stage) → asks_for_end stage ≡ false → IsLive stage
        live (Requested request) is = tt
        live (Connected peer setup) is = tt
        live (Leaving peer setup request) is = tt
        live (Closing peer request checked) is = cc
        live (Crossed peer request) is = cc

        never : IsOver channel.peer channel.own (pair_of near far past).far.run.said → ⊥
        never (inl (identifier, answered)) = stays.unanswered identifier channel.peer answered
        never (inr (inl (identifier, heard))) = unanswered identifier channel.own channel.peer (pledges-were_said near far past read Far (command_with identifier (disconnection_response channel.own channel.peer)) refl heard)
        never (inr (inr gave)) = stays.not_forgone channel.peer gave

    -- where it is there, the far one answered no request for the end of it
    pub far-remains : AnsweredEndsAreEnded → ((identifier psm own : ℕ) → HasAsked identifier psm own (pair_of near far past).far.run.said → ⊥) → GrantsApart (pair_of near far past).far.run.said → ForgoesNoEnd (pair_of near far past).far.run.said
        → IsThere channel.peer (pair_of near far past).far.run.value → Remains channel.own (pair_of near far past).far.run.said
    far-remains ended none_called apart forgoes there = record { unanswered = unended; not_forgone = λ peer gave. forgoes peer channel.own gave }
      where
        granted : (own : ℕ) (entry : Entry) → read_at own (reading (pair_of near far past).far.run.said).entries ≡ Some entry → (identifier : ℕ) × (status : ℕ) × HasGranted identifier status entry.channel.own entry.channel.peer (pair_of near far past).far.run.said
        granted own entry found = by (channels-belong near far past read Far own entry found)
          where
            by : Belongs (pair_of near far past).far.run.said (pair_of near far past).near.run.said entry.channel → (identifier : ℕ) × (status : ℕ) × HasGranted identifier status entry.channel.own entry.channel.peer (pair_of near far past).far.run.said
            by (i, s, inl (grant, asked)) = (i, s, grant)
            by (i, s, inr (asked, grant)) = absurd (none_called i entry.channel.psm entry.channel.own asked)

        same : (peer : ℕ) → IsEndedFor channel.own (read_at peer (reading (pair_of near far past).far.run.said).entries) → peer ≡ channel.peer
        same peer = by (read_at peer (reading (pair_of near far past).far.run.said).entries) refl
          where
            by : (found : Option Entry) → read_at peer (reading (pair_of near far past).far.run.said).entries ≡ found → IsEndedFor channel.own found → peer ≡ channel.peer
            by None at gone = elim gone [ ]
            by (Some entry) at gone =
                let (i, s, one) = granted peer entry at in
                let (j, u, other) = granted channel.peer beyond.entry beyond.is in
                let mine = own-of_read peer (reading (pair_of near far past).far.run.said).entries entry at in
                apart i s peer j u channel.peer channel.own (subst (λ n. HasGranted i s n channel.own (pair_of near far past).far.run.said) mine (subst (λ n. HasGranted i s entry.channel.own n (pair_of near far past).far.run.said) gone.0 one))
                (subst (λ (c : Channel). HasGranted j u c.own c.peer (pair_of near far past).far.run.said) beyond.of other)

        unended : (identifier peer : ℕ) → HasAnsweredEnd identifier peer channel.own (pair_of near far past).far.run.said → ⊥
        unended identifier peer answered =
            let (list, is) = (each-end_runs near far past).1 in
            let gone : IsEndedFor channel.own (read_at peer (reading (pair_of near far past).far.run.said).entries) =
            subst (λ (r : Run). IsEndedFor channel.own (read_at peer (reading r.said).entries)) (sym is) (ended far list identifier peer channel.own (subst (λ (r : Run). HasAnsweredEnd identifier peer channel.own r.said) is answered)).0 in
            ended_there far (pair_of near far past).far.run (each-end_runs near far past).1 channel.peer channel.own there (subst (λ n. IsEndedFor channel.own (read_at n (reading (pair_of near far past).far.run.said).entries)) (same peer gone) gone)

    -- so it is there at the near one, which did not close it, and gave up no request for its end
    pub near-there : AllKept channel.own (pair_of near far past).near.run.value → ForgoesNoEnd (pair_of near far past).near.run.said → Remains channel.own (pair_of near far past).far.run.said → IsThere channel.own (pair_of near far past).near.run.value
    near-there kept forgoes stays = there_by near (pair_of near far past).near.run (each-end_runs near far past).0 channel.own here.entry here.is (λ over. never (subst (λ (c : Channel). IsOver c.own c.peer (pair_of near far past).near.run.said) here.of (all-over (pair_of near far past).near.run.said channel.own here.entry here.is over)))
        (λ held at life. live held.stage life (found-kept channel.own channel.own (pair_of near far past).near.run.value held kept at (found-has own_of channel.own (pair_of near far past).near.run.value.held held at)))
      where
        live : (stage : Stage) → here.entry.life ≡ life_of stage → IsKept stage → IsLive stage
        live (Requested request) life is = tt
        live (Connected peer setup) life is = tt
        live (Leaving peer setup request) life is = tt
        live (Closing peer request checked) life is = is
        live (Crossed peer request) life is =
            let (identifier, answered) = all-crossed (pair_of near far past).near.run.said channel.own here.entry here.is life in unanswered identifier here.entry.channel.own here.entry.channel.peer answered

        never : IsOver channel.own channel.peer (pair_of near far past).near.run.said → ⊥
        never (inl (identifier, answered)) = unanswered identifier channel.own channel.peer answered
        never (inr (inl (identifier, heard))) = stays.unanswered identifier channel.peer (pledges-were_said near far past read Near (command_with identifier (disconnection_response channel.peer channel.own)) refl heard)
        never (inr (inr gave)) = forgoes channel.own channel.peer gave
