-- Each response to a request for the end of a channel ends its wait.
use Rattle.std.proofs.Common.{◌≡◌, ℕ, List, [], ◌∷◌, ◌++◌, drop, Bool, true, cond, eqb, Option, Some, None, Ok, refl, sym, ap, subst, ◌∙◌, inl, inr, append_assoc}
use Rattle.std.specs.Prelude.{find}
use Rattle.std.proofs.lemmas.Bool.{eqb-true}
use Rattle.std.proofs.lemmas.List.Sums.{fold-append}
use Rattle.channel_laws.specs.acl_fragments.specs.Pieces.{channel_of}
use Rattle.channel_laws.specs.capture.specs.Histories.{EachAfter}
use Rattle.channel_laws.specs.capture.proofs.HistoryLaws.{each_after-more}
use Rattle.channel_laws.specs.capture.specs.declared.flow.Flow.TheVariants.{Into}
use Rattle.channel_laws.specs.l2cap_signal.specs.Commands.{Content, Command, reject, connection_request, connection_response, configuration_request, configuration_response, disconnection_request, disconnection_response, echo_request, echo_response, information_request, information_response}
use Rattle.channel_laws.specs.l2cap_signal.specs.Reading.{answers}
use Rattle.channel_laws.specs.link_talk.specs.declared.channel.Channel.{Channel}
use Rattle.channel_laws.specs.link_talk.specs.Channels.{Entry, reading}
use Rattle.channel_laws.specs.link_talk.specs.Sayings.{Saying, Carried}
use Rattle.channel_laws.specs.link_talk.specs.Sayings as sayings
use Rattle.channel_laws.specs.channel_model.specs.declared.errand.Errand.TheVariants.{Disconnection}
use Rattle.channel_laws.specs.channel_model.specs.Carrying.{takes}
use Rattle.channel_laws.specs.channel_model.specs.Changing.{has_own, held_at, is_peer}
use Rattle.channel_laws.specs.channel_model.specs.Hearing.{hears_command}
use Rattle.channel_laws.specs.channel_model.specs.Policies.{Policy}
use Rattle.channel_laws.specs.channel_model.specs.Value.{Request, Stage, Requested, Connected, Leaving, Closing, Crossed, Held, Channels}
use Rattle.channel_laws.specs.channel_model.proofs.Lookups.{own_of, eqb-same, found-has}
use Rattle.channel_laws.specs.Adverse.{responds_with, responds_to}
use Rattle.channel_laws.specs.Belonging.{IsRead as IsReadBehind, AreRead, is_pledge, said_at, HasAsked, HasGranted, Belongs}
use Rattle.channel_laws.specs.Ends.{end_at}
use Rattle.channel_laws.specs.Final.{OnHeld, IsFinal, FinalResponsesEndWaits}
use Rattle.channel_laws.specs.Granted.{IsFor}
use Rattle.channel_laws.specs.Heeded.{WaitsNoMore, EndsWait}
use Rattle.channel_laws.specs.Modes.{policy_of}
use Rattle.channel_laws.specs.OwnTalk.{spoken, command_with, asked_between, said_with_all}
use Rattle.channel_laws.specs.Pairs.{End, Pair, new_pair, Happening, Acts, Puts, Takes, Repeats, Loses, Damages, occurs, let_go, takes_first, Side, Near, Far, turned, Turn, happens_at, pair_after, pair_of, IsRunOf}
use Rattle.channel_laws.specs.Runs.{Occurrence, Comes, Run, run_of, said_in}
use Rattle.channel_laws.specs.Signals.{StandsIn}
use Rattle.channel_laws.specs.Tries.{for_end, request_at, request_of}
use Rattle.channel_laws.specs.Views.{IsRead, IsReadBy, peer_of, read_at}
use Rattle.channel_laws.proofs.Belonging.{channels-belong, pledges-were_said}
use Rattle.channel_laws.proofs.Bestowing.{endpoints-are_granted_once}
use Rattle.channel_laws.proofs.Both.{and-right}
use Rattle.channel_laws.proofs.Pairing.{each-end_runs}
use Rattle.channel_laws.proofs.Running.{channels-are_read}
use Rattle.channel_laws.proofs.Saying.{stands-left, stands-right}
use Rattle.channel_laws.proofs.Sharing.{said-grows}
use Rattle.disconnection_laws.specs.Ended.{HasAnsweredEnd, IsEndedFor}
use Rattle.disconnection_laws.specs.Waits.{GrantsApart, IsAnsweredBy, EndsAreAnswered}
use Rattle.disconnection_laws.proofs.Ending.{answered-ends_are_ended}

-- ---- what is read of an endpoint

pub record Read (own peer : ℕ) (found : Option Entry) : Type 0 where
  pub entry : Entry
  pub is : found ≡ Some entry
  pub own_is : entry.channel.own ≡ own
  pub peer_is : entry.channel.peer ≡ peer

-- of a channel that is there, with its endpoints
pub held_read : (policy : Policy) (list : List Occurrence) (own peer : ℕ) (held : Held) → find (has_own own) (run_of policy list).value.held ≡ Some held → peer_of held.stage ≡ Some peer → Read own peer (read_at own (reading (run_of policy list).said).entries)
held_read policy list own peer held found to = by (read_at own (reading run.said).entries) refl there
  where
    run : Run
    run = run_of policy list

    there : IsReadBy policy held (Some peer) (read_at own (reading run.said).entries)
    there =
        subst (λ (p : Option ℕ). IsReadBy policy held p (read_at own (reading run.said).entries)) to
        (subst (λ (h : Option Held). IsRead policy h (read_at own (reading run.said).entries)) found (channels-are_read policy list own))

    by : (entry : Option Entry) → read_at own (reading run.said).entries ≡ entry → IsReadBy policy held (Some peer) entry → Read own peer (read_at own (reading run.said).entries)
    by None is reads = elim reads [ ]
    by (Some entry) is reads = record {
      entry = entry;
      is = is;
      own_is = ap (λ (c : Channel). c.own) reads.0.channel_is ∙ found-has own_of own run.value.held held found;
      peer_is = ap (λ (c : Channel). c.peer) reads.0.channel_is;
    }

-- of one that has ended
pub ended_read : (peer : ℕ) (found : Option Entry) → IsEndedFor peer found → (entry : Entry) × (found ≡ Some entry) × (entry.channel.peer ≡ peer)
ended_read peer None is = elim is [ ]
ended_read peer (Some entry) (to, gone) = (entry, refl, to)

pub own-of_read : (own : ℕ) (entries : List Entry) (entry : Entry) → read_at own entries ≡ Some entry → entry.channel.own ≡ own
own-of_read own entries entry is = found-has (λ (e : Entry). e.channel.own) own entries entry is

pub for_one : (one other : ℕ) (found : Option Entry) → IsFor one found → IsFor other found → one ≡ other
for_one one other None first second = elim first [ ]
for_one one other (Some entry) first second = sym first ∙ second

-- ---- the endpoint that a response names

module _ (near far : Policy) (past : List Turn) (read : AreRead near far past) (side : Side) where
  abbrev pair : Pair
  pair = pair_of near far past

  abbrev mine : List Saying
  mine = said_at side pair

  abbrev theirs : List Saying
  theirs = said_at side (turned pair)

  pub my-run : IsRunOf (policy_of side near far) (end_at side pair).run
  my-run = by side
    where
      by : (which : Side) → IsRunOf (policy_of which near far) (end_at which pair).run
      by Near = (each-end_runs near far past).0
      by Far = (each-end_runs near far past).1

  pub their-run : IsRunOf (policy_of side far near) (end_at side (turned pair)).run
  their-run = by side
    where
      by : (which : Side) → IsRunOf (policy_of which far near) (end_at which (turned pair)).run
      by Near = (each-end_runs near far past).1
      by Far = (each-end_runs near far past).0

  they_belong : (own : ℕ) (entry : Entry) → read_at own (reading theirs).entries ≡ Some entry → Belongs theirs mine entry.channel
  they_belong = by side
    where
      by : (which : Side) (own : ℕ) (entry : Entry) → read_at own (reading (said_at which (turned pair))).entries ≡ Some entry → Belongs (said_at which (turned pair)) (said_at which pair) entry.channel
      by Near own entry found = channels-belong near far past read Far own entry found
      by Far own entry found = channels-belong near far past read Near own entry found

  -- what this end granted is for one endpoint of the other, and was not asked for
  my_grant : (identifier status own peer : ℕ) → HasGranted identifier status own peer mine → IsFor peer (read_at own (reading mine).entries) × ((another psm : ℕ) → ¬ HasAsked another psm own mine)
  my_grant identifier status own peer granted =
      let (list, is) = my-run in
      subst (λ (run : Run). IsFor peer (read_at own (reading run.said).entries) × ((another psm : ℕ) → ¬ HasAsked another psm own run.said)) (sym is)
      (endpoints-are_granted_once (policy_of side near far) list identifier status own peer (subst (λ (run : Run). HasGranted identifier status own peer run.said) is granted))

  -- the channel of a response that the other end said is read there
  answered_there : (identifier own peer : ℕ) → HasAnsweredEnd identifier own peer theirs → IsEndedFor peer (read_at own (reading theirs).entries)
  answered_there identifier own peer answered =
      let (list, is) = their-run in
      subst (λ (run : Run). IsEndedFor peer (read_at own (reading run.said).entries)) (sym is) (answered-ends_are_ended (policy_of side far near) list identifier own peer (subst (λ (run : Run). HasAnsweredEnd identifier own peer run.said) is answered)).0

  pub read-here : (own peer : ℕ) (held : Held) → find (has_own own) (end_at side pair).run.value.held ≡ Some held → peer_of held.stage ≡ Some peer → Read own peer (read_at own (reading mine).entries)
  read-here own peer held found to =
      let (list, is) = my-run in
      subst (λ (run : Run). Read own peer (read_at own (reading run.said).entries)) (sym is) (held_read (policy_of side near far) list own peer held (subst (λ (run : Run). find (has_own own) run.value.held ≡ Some held) is found) to)

  -- both ends have the channel with the same endpoints
  same_peer : (identifier destination own peer : ℕ) (held : Held) → GrantsApart theirs → HasAnsweredEnd identifier destination own theirs → find (has_own own) (end_at side pair).run.value.held ≡ Some held → peer_of held.stage ≡ Some peer → destination ≡ peer
  same_peer identifier destination own peer held apart answered found to = by (channels-belong near far past read side own one.entry one.is) (they_belong destination other.0 other.1)
    where
      one : Read own peer (read_at own (reading mine).entries)
      one = read-here own peer held found to

      other : (entry : Entry) × (read_at destination (reading theirs).entries ≡ Some entry) × (entry.channel.peer ≡ own)
      other = ended_read own (read_at destination (reading theirs).entries) (answered_there identifier destination own answered)

      there : other.0.channel.own ≡ destination
      there = own-of_read destination (reading theirs).entries other.0 other.1

      by : Belongs mine theirs one.entry.channel → Belongs theirs mine other.0.channel → destination ≡ peer
      by (i, s, inl (granted, asked)) (j, t, inl (their_grant, my_asking)) =
          let mine_is : HasGranted i s own one.entry.channel.peer mine = subst (λ n. HasGranted i s n one.entry.channel.peer mine) one.own_is granted in
          absurd ((my_grant i s own one.entry.channel.peer mine_is).1 j other.0.channel.psm (subst (λ n. HasAsked j other.0.channel.psm n mine) other.2 my_asking))
      by (i, s, inl (granted, asked)) (j, t, inr (their_asking, my_grant_of)) =
          let first : HasGranted i s own peer mine = subst (λ n. HasGranted i s own n mine) one.peer_is (subst (λ n. HasGranted i s n one.entry.channel.peer mine) one.own_is granted) in
          let second : HasGranted j t own destination mine = subst (λ n. HasGranted j t own n mine) there (subst (λ n. HasGranted j t n other.0.channel.own mine) other.2 my_grant_of) in
          for_one destination peer (read_at own (reading mine).entries) (my_grant j t own destination second).0 (my_grant i s own peer first).0
      by (i, s, inr (asked, granted)) (j, t, inl (their_grant, my_asking)) =
          let first : HasGranted i s peer own theirs = subst (λ n. HasGranted i s n own theirs) one.peer_is (subst (λ n. HasGranted i s one.entry.channel.peer n theirs) one.own_is granted) in
          let second : HasGranted j t destination own theirs = subst (λ n. HasGranted j t n own theirs) there (subst (λ n. HasGranted j t other.0.channel.own n theirs) other.2 their_grant) in
          apart j t destination i s peer own second first
      by (i, s, inr (asked, granted)) (j, t, inr (their_asking, my_grant_of)) =
          let mine_is : HasGranted j t own other.0.channel.own mine = subst (λ n. HasGranted j t n other.0.channel.own mine) other.2 my_grant_of in
          absurd ((my_grant j t own other.0.channel.own mine_is).1 i one.entry.channel.psm (subst (λ n. HasAsked i one.entry.channel.psm n mine) one.own_is asked))

  -- so a response ends the wait
  ends_wait : FinalResponsesEndWaits → (own : ℕ) (command : Command) (request : Request) → GrantsApart theirs → StandsIn (spoken command) theirs → request_of (Disconnection own) (end_at side pair).run.value ≡ Some request → responds_to (Disconnection own) request.identifier command ≡ true
      → WaitsNoMore (Disconnection own) request.identifier (hears_command (end_at side pair).policy (Ok command) (end_at side pair).run.value)
  ends_wait final_ends own command request apart was_said waits responds =
      final_ends (end_at side pair).policy v (Disconnection own) request command waits responds (final command.content refl (and-right (eqb command.identifier request.identifier) (responds_with (Disconnection own) command.content) responds))
    where
      v : Channels
      v = (end_at side pair).run.value

      staged : (destination : ℕ) (held : Held) (stage : Stage) → held.stage ≡ stage → for_end stage ≡ Some request → ((peer : ℕ) → peer_of stage ≡ Some peer → destination ≡ peer) → is_peer destination stage ≡ true
      staged destination held (Requested other) is at same = cc
      staged destination held (Connected peer setup) is at same = cc
      staged destination held (Leaving peer setup other) is at same = ap (eqb destination) (sym (same peer refl)) ∙ eqb-same destination
      staged destination held (Closing peer other checked) is at same = ap (eqb destination) (sym (same peer refl)) ∙ eqb-same destination
      staged destination held (Crossed peer other) is at same = ap (eqb destination) (sym (same peer refl)) ∙ eqb-same destination

      named : (destination : ℕ) → command.content ≡ disconnection_response destination own → (found : Option Held) → held_at own v ≡ found → request_at for_end found ≡ Some request → OnHeld (λ (held : Held). is_peer destination held.stage ≡ true) found
      named destination is None at waiting = cc
      named destination is (Some held) at waiting =
          let answered : HasAnsweredEnd command.identifier destination own theirs = subst (λ (c : Content). StandsIn (spoken (command_with command.identifier c)) theirs) is was_said in
          staged destination held held.stage refl waiting (λ peer to. same_peer command.identifier destination own peer held apart answered at to)

      final : (content : Content) → command.content ≡ content → responds_with (Disconnection own) content ≡ true → IsFinal (end_at side pair).policy request.identifier content v
      final (reject reason rest) is so = tt
      final (connection_request psm source) is so = tt
      final (connection_response destination source answer status) is so = cc
      final (configuration_request destination flags options) is so = tt
      final (configuration_response source flags answer options) is so = cc
      final (disconnection_request destination source) is so = tt
      final (disconnection_response destination source) is so =
          let mine_is : source ≡ own = eqb-true source own so in
          subst (λ n. OnHeld (λ (held : Held). is_peer destination held.stage ≡ true) (held_at n v)) (sym mine_is)
          (named destination (is ∙ ap (disconnection_response destination) mine_is) (held_at own v) refl waits)
      final (echo_request octets) is so = tt
      final (echo_response octets) is so = tt
      final (information_request kind) is so = tt
      final (information_response kind answer rest) is so = tt

-- ---- each turn

-- a response is heard as it comes in
pub takes_said : (end' : End) (pdu : List ℕ) (own : ℕ) (command : Command) → eqb (channel_of pdu) 0x0001 ≡ true → answers (drop 4 pdu) ≡ Ok command ∷ [] → responds_with (Disconnection own) command.content ≡ true → StandsIn (sayings.Command Into (Ok command)) (occurs (Comes pdu) end').run.said
takes_said end' pdu own command signals read responds =
    let said_is : said_in end'.policy (Comes pdu) end'.run.value ≡ said_with_all end'.policy (Ok command ∷ []) end'.run.value =
    ap (λ (b : Bool). cond b (said_with_all end'.policy (answers (drop 4 pdu)) end'.run.value) (Carried Into pdu ∷ asked_between end'.run.value (takes (channel_of pdu) pdu end'.run.value))) signals ∙ ap (λ list. said_with_all end'.policy list end'.run.value) read in
    stands-right _ end'.run.said (said_in end'.policy (Comes pdu) end'.run.value) (subst (StandsIn (sayings.Command Into (Ok command))) (sym said_is) (by command.content refl responds))
  where
    it : Content → Command
    it content = command_with command.identifier content

    by : (content : Content) → command.content ≡ content → responds_with (Disconnection own) content ≡ true → StandsIn (sayings.Command Into (Ok command)) (said_with_all end'.policy (Ok command ∷ []) end'.run.value)
    by (disconnection_response destination source) is so =
        let same : it (disconnection_response destination source) ≡ command = ap it (sym is) in
        subst (λ (c : Command). StandsIn (sayings.Command Into (Ok c)) (said_with_all end'.policy (Ok c ∷ []) end'.run.value)) same
        (inl refl)
    by (reject reason rest) is so = cc
    by (connection_request psm source) is so = cc
    by (connection_response destination source answer status) is so = cc
    by (configuration_request destination flags options) is so = cc
    by (configuration_response source flags answer options) is so = cc
    by (disconnection_request destination source) is so = cc
    by (echo_request octets) is so = cc
    by (echo_response octets) is so = cc
    by (information_request kind) is so = cc
    by (information_response kind answer rest) is so = cc

module _ (final_ends : FinalResponsesEndWaits) (near far : Policy) (past : List Turn) (own : ℕ) where
  abbrev both : Pair
  both = pair_of near far past

  -- each response to a request for the end that is heard behind what comes in was said
  abbrev WereSaid : Side → Type 0
  WereSaid which = (command : Command) → responds_with (Disconnection own) command.content ≡ true → StandsIn (sayings.Command Into (Ok command)) (said_at which (happens_at which Takes both)) → StandsIn (spoken command) (said_at which (turned both))

  ends_near : AreRead near far past → (coming : List (List ℕ)) → both.near.coming ≡ coming → GrantsApart both.far.run.said → WereSaid Near → EndsWait (Disconnection own) coming both
  ends_near read [] is apart said = tt
  ends_near read (pdu ∷ coming) is apart said = λ command request signals is_read waits responds.
      let so = and-right (eqb command.identifier request.identifier) (responds_with (Disconnection own) command.content) responds in
      let takes_is : (takes_first both.near.coming both.near).run ≡ (occurs (Comes pdu) (let_go coming both.near)).run = ap (λ (c : List (List ℕ)). (takes_first c both.near).run) is in
      let was = said command so (subst (λ (run : Run). StandsIn (sayings.Command Into (Ok command)) run.said) (sym takes_is) (takes_said (let_go coming both.near) pdu own command signals is_read so)) in
      ends_wait near far past read Near final_ends own command request apart was waits responds

  ends_far : AreRead near far past → (coming : List (List ℕ)) → both.far.coming ≡ coming → GrantsApart both.near.run.said → WereSaid Far → EndsWait (Disconnection own) coming (turned both)
  ends_far read [] is apart said = tt
  ends_far read (pdu ∷ coming) is apart said = λ command request signals is_read waits responds.
      let so = and-right (eqb command.identifier request.identifier) (responds_with (Disconnection own) command.content) responds in
      let takes_is : (takes_first both.far.coming both.far).run ≡ (occurs (Comes pdu) (let_go coming both.far)).run = ap (λ (c : List (List ℕ)). (takes_first c both.far).run) is in
      let was = said command so (subst (λ (run : Run). StandsIn (sayings.Command Into (Ok command)) run.said) (sym takes_is) (takes_said (let_go coming both.far) pdu own command signals is_read so)) in
      ends_wait near far past read Far final_ends own command request apart was waits responds

  is_answered : (owner at : Side) (happening : Happening) → AreRead near far past → GrantsApart (said_at owner (turned both)) → WereSaid owner → IsAnsweredBy (Disconnection own) owner at happening both
  is_answered owner at (Acts more) read apart said = tt
  is_answered owner at (Puts pdu) read apart said = tt
  is_answered Near Near Takes read apart said = ends_near read both.near.coming refl apart said
  is_answered Near Far Takes read apart said = tt
  is_answered Far Near Takes read apart said = tt
  is_answered Far Far Takes read apart said = ends_far read both.far.coming refl apart said
  is_answered owner at Repeats read apart said = tt
  is_answered owner at Loses read apart said = tt
  is_answered owner at (Damages pdu) read apart said = tt

pub response_pledged : (own : ℕ) (content : Content) → responds_with (Disconnection own) content ≡ true → is_pledge content ≡ true
response_pledged own (disconnection_response destination source) so = refl
response_pledged own (reject reason rest) so = cc
response_pledged own (connection_request psm source) so = cc
response_pledged own (connection_response destination source answer status) so = cc
response_pledged own (configuration_request destination flags options) so = cc
response_pledged own (configuration_response source flags answer options) so = cc
response_pledged own (disconnection_request destination source) so = cc
response_pledged own (echo_request octets) so = cc
response_pledged own (echo_response octets) so = cc
response_pledged own (information_request kind) so = cc
response_pledged own (information_response kind answer rest) so = cc

abbrev pub ReadBehind : (near far : Policy) → List Turn → Turn → Type 0
ReadBehind near far front turn = IsReadBehind turn.happening (end_at turn.side (pair_of near far front))

-- what would come in now was said
pub were_said : (final_ends : FinalResponsesEndWaits) (near far : Policy) (past : List Turn) (own : ℕ) → AreRead near far past → (which : Side) → WereSaid final_ends near far past own which
were_said final_ends near far past own read which command so heard = by which (subst (λ (p : Pair). StandsIn (spoken command) (said_at which (turned p))) next_is
    (pledges-were_said near far (past ++ taking ∷ []) (each_after-more (ReadBehind near far) past taking read tt) which command (response_pledged own command.content so)
    (subst (λ (p : Pair). StandsIn (sayings.Command Into (Ok command)) (said_at which p)) (sym next_is) heard)))
  where
    taking : Turn
    taking = record { side = which; happening = Takes }

    next_is : pair_of near far (past ++ taking ∷ []) ≡ happens_at which Takes (pair_of near far past)
    next_is = fold-append pair_after (new_pair near far) past (taking ∷ [])

    by : (at : Side) → StandsIn (spoken command) (said_at at (turned (happens_at at Takes (pair_of near far past)))) → StandsIn (spoken command) (said_at at (turned (pair_of near far past)))
    by Near stands = stands
    by Far stands = stands

-- what was granted so far stays
pub apart_before : (near far : Policy) (owner : Side) (past rest : List Turn) → GrantsApart (said_at owner (turned (pair_of near far (past ++ rest)))) → GrantsApart (said_at owner (turned (pair_of near far past)))
apart_before near far Near past rest apart i s own j t second peer one other =
    let (more, grown) = said-grows near far Far past rest in
    apart i s own j t second peer (subst (HasGranted i s own peer) (sym grown) (stands-left _ _ more one)) (subst (HasGranted j t second peer) (sym grown) (stands-left _ _ more other))
apart_before near far Far past rest apart i s own j t second peer one other =
    let (more, grown) = said-grows near far Near past rest in
    apart i s own j t second peer (subst (HasGranted i s own peer) (sym grown) (stands-left _ _ more one)) (subst (HasGranted j t second peer) (sym grown) (stands-left _ _ more other))

pub all_answered : FinalResponsesEndWaits → (near far : Policy) (owner : Side) (own : ℕ) (past turns : List Turn) → AreRead near far past → EachAfter (ReadBehind near far) past turns → GrantsApart (said_at owner (turned (pair_of near far (past ++ turns))))
    → EachAfter (λ front turn. IsAnsweredBy (Disconnection own) owner turn.side turn.happening (pair_of near far front)) past turns
all_answered final_ends near far owner own past [] before read apart = tt
all_answered final_ends near far owner own past (turn ∷ turns) before (now, later) apart = (
  is_answered final_ends near far past own owner turn.side turn.happening before (apart_before near far owner past (turn ∷ turns) apart) (were_said final_ends near far past own before owner),
  all_answered final_ends near far owner own (past ++ turn ∷ []) turns (each_after-more (ReadBehind near far) past turn before now) later
      (subst (λ (list : List Turn). GrantsApart (said_at owner (turned (pair_of near far list)))) (sym (append_assoc past (turn ∷ []) turns)) apart),
)

pub ends-are_answered : FinalResponsesEndWaits → EndsAreAnswered
ends-are_answered final_ends near far turns read side apart own = all_answered final_ends near far side own [] turns tt read apart
