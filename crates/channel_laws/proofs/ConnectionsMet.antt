-- Each copy of a request for a channel is responded to, and each response ends its wait.
use Rattle.std.proofs.Common.{◌≡◌, ℕ, ◌≤◌, List, [], ◌∷◌, ◌++◌, drop, Bool, true, false, cond, eqb, not, ◌&&◌, Option, Some, None, Ok, refl, sym, ap, subst, ◌∙◌, ◌⊎◌, inl, inr, append_assoc, append-nil}
use Rattle.std.specs.Prelude.{find, nat_le, option_map}
use Rattle.std.specs.List.{list_any}
use Rattle.std.proofs.lemmas.Bool.{eqb-true, le-leb}
use Rattle.std.proofs.lemmas.List.Sums.{fold-append}
use Rattle.own_channel_laws.specs.talk_laws.specs.acl_fragments.specs.Pieces.{channel_of}
use Rattle.own_channel_laws.specs.talk_laws.specs.capture.specs.Histories.{EachAfter}
use Rattle.own_channel_laws.specs.talk_laws.specs.capture.specs.declared.flow.Flow.TheVariants.{Out, Into}
use Rattle.own_channel_laws.specs.talk_laws.specs.l2cap_signal.specs.Commands.{Content, Command, reject, connection_request, connection_response, configuration_request, configuration_response, disconnection_request, disconnection_response, echo_request, echo_response, information_request, information_response}
use Rattle.own_channel_laws.specs.talk_laws.specs.l2cap_signal.specs.Reading.{answers}
use Rattle.own_channel_laws.specs.talk_laws.specs.link_talk.specs.declared.channel.Channel.{Channel}
use Rattle.own_channel_laws.specs.talk_laws.specs.link_talk.specs.Channels.{Entry, reading}
use Rattle.own_channel_laws.specs.talk_laws.specs.link_talk.specs.Sayings.{Saying}
use Rattle.own_channel_laws.specs.talk_laws.specs.link_talk.specs.Sayings as sayings
use Rattle.own_channel_laws.specs.channel_model.specs.declared.errand.Errand.TheVariants.{Connection}
use Rattle.own_channel_laws.specs.channel_model.specs.Changing.{has_own, held_at, has_live_peer, is_live_peer, has_room}
use Rattle.own_channel_laws.specs.channel_model.specs.Hearing.{hears_command}
use Rattle.own_channel_laws.specs.channel_model.specs.Policies.{Policy}
use Rattle.own_channel_laws.specs.channel_model.specs.Responses.{is_fresh_endpoint}
use Rattle.own_channel_laws.specs.channel_model.specs.Value.{Request, Stage, Requested, Connected, Leaving, Closing, Crossed, Held, Remembered, Channels}
use Rattle.own_channel_laws.specs.channel_model.proofs.Lookups.{own_of, Distinct, found-has, any-finds, found-distinct}
use Rattle.channel_laws.specs.Adverse.{asks_with, asks_for, responds_with, responds_to, IsRoomy, AreRoomy}
use Rattle.channel_laws.specs.Belonging.{AreRead, is_pledge, said_at, HasAsked, HasGranted}
use Rattle.own_channel_laws.specs.Decisive.{IsDecisive}
use Rattle.channel_laws.specs.Ends.{end_at}
use Rattle.own_channel_laws.specs.Endpoints.{IsOf}
use Rattle.channel_laws.specs.Final.{IsFinal}
use Rattle.channel_laws.specs.Granted.{IsFor}
use Rattle.channel_laws.specs.Heeded.{IsResponse, WaitsNoMore, RespondsTo, EndsWait, IsMetBy}
use Rattle.channel_laws.specs.Pairs.{End, Pair, new_pair, Happening, Acts, Puts, Takes, Repeats, Loses, Damages, occurs, let_go, takes_first, Side, Near, Far, turned, Turn, happens_at, pair_after, pair_of, IsRunOf}
use Rattle.channel_laws.specs.Responding.{Recalls, RecalledOr, IsRecalledOr, CanRespond}
use Rattle.channel_laws.specs.Modes.{policy_of}
use Rattle.own_channel_laws.specs.Runs.{Occurrence, Comes, Run, run_of, said_in}
use Rattle.own_channel_laws.specs.Signals.{StandsIn}
use Rattle.own_channel_laws.specs.Tries.{for_channel, request_at, request_of}
use Rattle.own_channel_laws.specs.channel_model.specs.Carrying.{takes}
use Rattle.own_channel_laws.specs.channel_model.specs.Following.{can_say}
use Rattle.own_channel_laws.specs.OwnTalk.{spoken, command_with, response_to, command_if, reply_to, asked_between, said_with_all}
use Rattle.own_channel_laws.specs.Views.{IsRead as IsReadAt, IsReadBy, peer_of, channel_by, read_at}
use Rattle.channel_laws.specs.Connections.{NamesApart, ConnectionsAreMet}
use Rattle.channel_laws.proofs.Belonging.{channels-belong, pledges-were_said}
use Rattle.channel_laws.proofs.Bestowing.{endpoints-are_granted_once}
use Rattle.channel_laws.proofs.Concluding.{final-responses_end_waits}
use Rattle.channel_laws.proofs.Mating.{high-at}
use Rattle.own_channel_laws.proofs.Origins.{answered-asked}
use Rattle.channel_laws.proofs.Pairing.{each-end_runs}
use Rattle.channel_laws.proofs.Responding.{copies-have_responses}
use Rattle.own_channel_laws.proofs.Running.{IsSound, all-sound, channels-are_read}
use Rattle.own_channel_laws.proofs.Saying.{stands-left, stands-right}
use Rattle.channel_laws.proofs.Sharing.{said-grows}
use Rattle.own_channel_laws.proofs.Sound.{Wants, WantsAt, wanted_by}
use Rattle.channel_laws.proofs.UnderWay.{AllPlainly, BothPlainly, come-plainly}
use Rattle.channel_laws.proofs.Recalling.{CallRemembered, heard-so, calls-remembered}

-- ---- lists

pub each_split : {X : Type 0} (P : List X → X → Type 0) (past xs ys : List X) → EachAfter P past (xs ++ ys) → EachAfter P past xs × EachAfter P (past ++ xs) ys
each_split P past [] ys all = (tt, subst (λ before. EachAfter P before ys) (sym (append-nil past)) all)
each_split P past (x ∷ xs) ys (now, all) =
    let rest = each_split P (past ++ x ∷ []) xs ys all in ((now, rest.0), subst (λ before. EachAfter P before ys) (append_assoc past (x ∷ []) xs) rest.1)

pub each_within : {X : Type 0} (P : List X → X → Type 0) (past xs : List X) → ((front : List X) (x : X) (rest : List X) → past ++ xs ≡ front ++ x ∷ rest → P front x) → EachAfter P past xs
each_within P past [] all = tt
each_within P past (x ∷ xs) all = (all past x xs refl, each_within P (past ++ x ∷ []) xs (λ front y rest is. all front y rest (sym (append_assoc past (x ∷ []) xs) ∙ is)))

-- ---- a request for a channel that waits

-- the host that it waits at has a channel that is only asked for
pub record Due (own : ℕ) (request : Request) (v : Channels) : Type 0 where
  pub held : Held
  pub found : find (has_own own) v.held ≡ Some held
  pub stage_is : held.stage ≡ Requested request

pub due_at : (own : ℕ) (request : Request) (v : Channels) → request_of (Connection own) v ≡ Some request → Due own request v
due_at own request v is = by (held_at own v) refl is
  where
    at : (held : Held) (stage : Stage) → find (has_own own) v.held ≡ Some held → held.stage ≡ stage → for_channel stage ≡ Some request → Due own request v
    at held (Requested other) found stage_is same = let it : other ≡ request = cc in record { held = held; found = found; stage_is = stage_is ∙ ap Requested it }
    at held (Connected peer setup) found stage_is same = cc
    at held (Leaving peer setup other) found stage_is same = cc
    at held (Closing peer other checked) found stage_is same = cc
    at held (Crossed peer other) found stage_is same = cc

    by : (held : Option Held) → find (has_own own) v.held ≡ held → request_at for_channel held ≡ Some request → Due own request v
    by None found same = cc
    by (Some held) found same = at held held.stage found refl same

-- and it was said
pub due_asked : (policy : Policy) (list : List Occurrence) (own : ℕ) (request : Request) → (due : Due own request (run_of policy list).value) → HasAsked request.identifier due.held.psm own (run_of policy list).said
due_asked policy list own request due =
    let run : Run = run_of policy list in
    let sound : IsSound policy run = all-sound policy list in
    let want : WantsAt (reading run.said).requests due.held due.held.stage = subst (Wants (reading run.said).requests) due.found (sound.kept.wants own) in
    let awaits = subst (WantsAt (reading run.said).requests due.held) due.stage_is want in
    let own_is : due.held.own ≡ own = found-has own_of own run.value.held due.held due.found in
    subst (λ (n : ℕ). HasAsked request.identifier due.held.psm n run.said) own_is (answered-asked run.said Out request.identifier due.held.own (wanted_by due.held.psm due.held.own) awaits.0)

-- ---- the endpoint that is granted is no other channel's

-- a live channel with that endpoint of the peer
pub record Live (peer : ℕ) (v : Channels) : Type 0 where
  pub held : Held
  pub found : find (has_own held.own) v.held ≡ Some held
  pub is : is_live_peer peer held.stage ≡ true

pub has_peer_of : (stage : Stage) (peer : ℕ) → is_live_peer peer stage ≡ true → peer_of stage ≡ Some peer
has_peer_of (Requested request) peer is = cc
has_peer_of (Connected other setup) peer is = ap Some (sym (eqb-true peer other is))
has_peer_of (Leaving other setup request) peer is = ap Some (sym (eqb-true peer other is))
has_peer_of (Closing other request checked) peer is = ap Some (sym (eqb-true peer other is))
has_peer_of (Crossed other request) peer is = cc

-- its talk has it
abbrev pub LiveRead : (run : Run) (peer : ℕ) → Live peer run.value → Type 0
LiveRead run peer live = (entry : Entry) × (read_at live.held.own (reading run.said).entries ≡ Some entry) × (entry.channel ≡ channel_by live.held.psm live.held.own peer)

pub live_read : (policy : Policy) (list : List Occurrence) (peer : ℕ) (live : Live peer (run_of policy list).value) → LiveRead (run_of policy list) peer live
live_read policy list peer live = by (read_at live.held.own (reading run.said).entries) refl there
  where
    run : Run
    run = run_of policy list

    there : IsReadBy policy live.held (Some peer) (read_at live.held.own (reading run.said).entries)
    there =
        subst (λ (p : Option ℕ). IsReadBy policy live.held p (read_at live.held.own (reading run.said).entries)) (has_peer_of live.held.stage peer live.is)
        (subst (λ (h : Option Held). IsReadAt policy h (read_at live.held.own (reading run.said).entries)) live.found (channels-are_read policy list live.held.own))

    by : (found : Option Entry) → read_at live.held.own (reading run.said).entries ≡ found → IsReadBy policy live.held (Some peer) found → LiveRead run peer live
    by None found is = elim is [ ]
    by (Some entry) found is = (entry, found, is.0.channel_is)

pub is_for_some : (peer : ℕ) (found : Option Entry) → IsFor peer found → (entry : Entry) × (found ≡ Some entry) × (entry.channel.peer ≡ peer)
is_for_some peer None is = elim is [ ]
is_for_some peer (Some entry) is = (entry, refl, is)

-- it is for one endpoint of the peer
pub granted_to_one : (one other endpoint : ℕ) (said : List Saying) → IsFor one (read_at endpoint (reading said).entries) → IsFor other (read_at endpoint (reading said).entries) → one ≡ other
granted_to_one one other endpoint said first second =
    let (entry, found, is) = is_for_some one (read_at endpoint (reading said).entries) first in
    sym is ∙ subst (IsFor other) found second

module _ (near far : Policy) (past : List Turn) (read : AreRead near far past) (side : Side) where
  abbrev pair : Pair
  pair = pair_of near far past

  abbrev me : End
  me = end_at side pair

  abbrev other : End
  other = end_at side (turned pair)

  my_run : IsRunOf (policy_of side near far) me.run
  my_run = by side
    where
      by : (which : Side) → IsRunOf (policy_of which near far) (end_at which pair).run
      by Near = (each-end_runs near far past).0
      by Far = (each-end_runs near far past).1

  other_run : IsRunOf (policy_of side far near) other.run
  other_run = by side
    where
      by : (which : Side) → IsRunOf (policy_of which far near) (end_at which (turned pair)).run
      by Near = (each-end_runs near far past).1
      by Far = (each-end_runs near far past).0

  granted_once : (identifier status destination own : ℕ) → HasGranted identifier status destination own other.run.said → IsFor own (read_at destination (reading other.run.said).entries) × ((another psm : ℕ) → ¬ HasAsked another psm destination other.run.said)
  granted_once identifier status destination own granted =
      let (list, is) = other_run in
      subst (λ (run : Run). IsFor own (read_at destination (reading run.said).entries) × ((another psm : ℕ) → ¬ HasAsked another psm destination run.said)) (sym is)
      (endpoints-are_granted_once (policy_of side far near) list identifier status destination own (subst (λ (run : Run). HasGranted identifier status destination own run.said) is granted))

  high : (own destination : ℕ) → IsFor own (read_at destination (reading other.run.said).entries) → 0x0040 ≤ destination
  high own destination for =
      let (entry, found, is) = is_for_some own (read_at destination (reading other.run.said).entries) for in
      high-at (policy_of side far near) other.run entry.channel destination other_run (subst (IsOf entry.channel) (sym found) refl)

  none_live : (own destination : ℕ) (request : Request) → IsFor own (read_at destination (reading other.run.said).entries) → ((another psm : ℕ) → ¬ HasAsked another psm destination other.run.said) → Due own request me.run.value → Live destination me.run.value → ⊥
  none_live own destination request for unasked due live = by my_run
    where
      -- it was granted to that endpoint alone
      same_own : live.held.own ≡ own → ⊥
      same_own same =
          let both : Some live.held ≡ Some due.held = sym live.found ∙ (ap (λ (n : ℕ). find (has_own n) me.run.value.held) same ∙ due.found) in
          let it : live.held ≡ due.held = cc in
          let never : true ≡ false = sym live.is ∙ ap (is_live_peer destination) (ap (λ (h : Held). h.stage) it ∙ due.stage_is) in cc

      belongs : (entry : Entry) → entry.channel ≡ channel_by live.held.psm live.held.own destination
          → (identifier : ℕ) × (status : ℕ) × ((HasGranted identifier status entry.channel.own entry.channel.peer me.run.said × HasAsked identifier entry.channel.psm entry.channel.peer other.run.said) ⊎ (HasAsked identifier entry.channel.psm entry.channel.own me.run.said × HasGranted identifier status entry.channel.peer entry.channel.own other.run.said)) → ⊥
      belongs entry channel_is (identifier, status, inl (granted, asked)) = unasked identifier entry.channel.psm (subst (λ (n : ℕ). HasAsked identifier entry.channel.psm n other.run.said) (ap (λ (c : Channel). c.peer) channel_is) asked)
      belongs entry channel_is (identifier, status, inr (asked, granted)) =
          let to : HasGranted identifier status destination live.held.own other.run.said = subst (λ (n : ℕ). HasGranted identifier status n live.held.own other.run.said) (ap (λ (c : Channel). c.peer) channel_is)
          (subst (λ (n : ℕ). HasGranted identifier status entry.channel.peer n other.run.said) (ap (λ (c : Channel). c.own) channel_is) granted) in
          same_own (granted_to_one live.held.own own destination other.run.said (granted_once identifier status destination live.held.own to).0 for)

      there : IsRunOf (policy_of side near far) me.run → LiveRead me.run destination live
      there (list, is) = subst (λ (run : Run). (l : Live destination run.value) → LiveRead run destination l) (sym is) (λ l. live_read (policy_of side near far) list destination l) live

      by : IsRunOf (policy_of side near far) me.run → ⊥
      by run = let (entry, found, channel_is) = there run in belongs entry channel_is (channels-belong near far past read side live.held.own entry found)

  is_fresh : (identifier status destination own : ℕ) (request : Request) → HasGranted identifier status destination own other.run.said → Due own request me.run.value → is_fresh_endpoint destination me.run.value ≡ true
  is_fresh identifier status destination own request granted due =
      let once = granted_once identifier status destination own granted in
      let above : nat_le 0x0040 destination ≡ true = le-leb 0x0040 destination (high own destination once.0) in
      ap (λ (b : Bool). b && not (list_any (has_live_peer destination) me.run.value.held)) above ∙ ap not (none (list_any (has_live_peer destination) me.run.value.held) refl once)
    where
      lone : Distinct own_of me.run.value.held
      lone = let (list, is) = my_run in subst (λ (run : Run). Distinct own_of run.value.held) (sym is) (all-sound (policy_of side near far) list).core.lone

      none : (any : Bool) → list_any (has_live_peer destination) me.run.value.held ≡ any → IsFor own (read_at destination (reading other.run.said).entries) × ((another psm : ℕ) → ¬ HasAsked another psm destination other.run.said) → any ≡ false
      none false is once = refl
      none true is once =
          let (held, found, live) = any-finds (has_live_peer destination) me.run.value.held is in
          absurd (none_live own destination request once.0 once.1 due (record { held = held; found = found-distinct own_of (has_live_peer destination) me.run.value.held held lone found; is = live }))

  -- a response that comes in ends the wait
  ends_wait : (own : ℕ) (command : Command) (request : Request) → StandsIn (spoken command) other.run.said → IsDecisive command.content → request_of (Connection own) me.run.value ≡ Some request → responds_to (Connection own) request.identifier command ≡ true
      → WaitsNoMore (Connection own) request.identifier (hears_command me.policy (Ok command) me.run.value)
  ends_wait own command request said decides waits responds =
      final-responses_end_waits me.policy me.run.value (Connection own) request command waits responds (final command.content refl decides (and_second (eqb command.identifier request.identifier) (responds_with (Connection own) command.content) responds))
    where
      and_second : (a b : Bool) → (a && b) ≡ true → b ≡ true
      and_second true b is = is
      and_second false b is = cc

      final : (content : Content) → command.content ≡ content → IsDecisive content → responds_with (Connection own) content ≡ true → IsFinal me.policy request.identifier content me.run.value
      final (connection_response destination source answer status) is decisive to = (
        decisive,
        λ granted.
            let source_is : source ≡ own = eqb-true source own to in
            let answer_is : answer ≡ 0 = eqb-true answer 0 granted in
            let it : command ≡ command_with command.identifier (connection_response destination own 0 status)
            = ap (command_with command.identifier) (is ∙ (ap (λ (n : ℕ). connection_response destination n answer status) source_is ∙ ap (λ (n : ℕ). connection_response destination own n status) answer_is)) in
            is_fresh command.identifier status destination own request (subst (λ (c : Command). StandsIn (spoken c) other.run.said) it said) (due_at own request me.run.value waits),
      )
      final (reject reason rest) is decisive to = tt
      final (connection_request psm source) is decisive to = tt
      final (configuration_request destination flags options) is decisive to = tt
      final (configuration_response source flags answer options) is decisive to = cc
      final (disconnection_request destination source) is decisive to = tt
      final (disconnection_response destination source) is decisive to = cc
      final (echo_request octets) is decisive to = tt
      final (echo_response octets) is decisive to = tt
      final (information_request kind) is decisive to = tt
      final (information_response kind answer rest) is decisive to = tt

  -- a copy that comes in is responded to
  has_response : (own : ℕ) (command : Command) (request : Request) → NamesApart me.run.said → CallRemembered other.run.said other.run.value.memory.connection → has_room other.run.value ≡ true → request_of (Connection own) me.run.value ≡ Some request → asks_for (Connection own) request.identifier command ≡ true
      → IsResponse (Connection own) request.identifier (reply_to other.policy (Ok command) other.run.value) other.run.value
  has_response own command request apart remembered room waits asks =
      copies-have_responses other.policy other.run.value (Connection own) request.identifier command asks (can command.content) room
    where
      and_first : (a b : Bool) → (a && b) ≡ true → a ≡ true
      and_first true b is = refl
      and_first false b is = cc

      same : command.identifier ≡ request.identifier
      same = eqb-true command.identifier request.identifier (and_first (eqb command.identifier request.identifier) (asks_with (Connection own) command.content) asks)

      asked : (due : Due own request me.run.value) → HasAsked request.identifier due.held.psm own me.run.said
      asked due =
          let (list, is) = my_run in
          subst (λ (run : Run). (d : Due own request run.value) → HasAsked request.identifier d.held.psm own run.said) (sym is) (λ d. due_asked (policy_of side near far) list own request d) due

      was_said : (identifier psm source : ℕ) → StandsIn (sayings.Command Into (Ok (command_with identifier (connection_request psm source)))) other.run.said → HasAsked identifier psm source me.run.said
      was_said identifier psm source heard = at side heard
        where
          at : (which : Side) → StandsIn (sayings.Command Into (Ok (command_with identifier (connection_request psm source)))) (end_at which (turned pair)).run.said → HasAsked identifier psm source (end_at which pair).run.said
          at Near stands = pledges-were_said near far past read Far (command_with identifier (connection_request psm source)) refl stands
          at Far stands = pledges-were_said near far past read Near (command_with identifier (connection_request psm source)) refl stands

      recalls : (last : Option Remembered) → CallRemembered other.run.said last → IsRecalledOr (Connection own) last command.identifier (Unit {0})
      recalls None is = tt
      recalls (Some last) is = by (eqb last.identifier command.identifier) refl
        where
          by : (now : Bool) → eqb last.identifier command.identifier ≡ now → RecalledOr now (Recalls (Connection own) last.response) (Unit {0})
          by false now = tt
          by true now =
              let due = due_at own request me.run.value waits in
              let last_is : last.identifier ≡ request.identifier = eqb-true last.identifier command.identifier now ∙ same in
              let earlier : HasAsked last.identifier is.psm is.source me.run.said = was_said last.identifier is.psm is.source is.heard in
              let it : is.source ≡ own = apart request.identifier is.psm is.source due.held.psm own (subst (λ (n : ℕ). HasAsked n is.psm is.source me.run.said) last_is earlier) (asked due) in
              subst (λ (n : ℕ). Recalls (Connection n) last.response) it is.responds

      can : (content : Content) → CanRespond (Connection own) command.identifier content other.run.value
      can (connection_request psm source) = recalls other.run.value.memory.connection remembered
      can (reject reason rest) = tt
      can (connection_response destination source answer status) = tt
      can (configuration_request destination flags options) = tt
      can (configuration_response source flags answer options) = tt
      can (disconnection_request destination source) = tt
      can (disconnection_response destination source) = tt
      can (echo_request octets) = tt
      can (echo_response octets) = tt
      can (information_request kind) = tt
      can (information_response kind answer rest) = tt

-- ---- each turn

-- a response is heard as it comes in
pub takes_said : (end' : End) (pdu : List ℕ) (own : ℕ) (command : Command) → eqb (channel_of pdu) 0x0001 ≡ true → answers (drop 4 pdu) ≡ Ok command ∷ [] → responds_with (Connection own) command.content ≡ true → StandsIn (sayings.Command Into (Ok command)) (occurs (Comes pdu) end').run.said
takes_said end' pdu own command signals read responds =
    let said_is : said_in end'.policy (Comes pdu) end'.run.value ≡ said_with_all end'.policy (Ok command ∷ []) end'.run.value =
    ap (λ (b : Bool). cond b (said_with_all end'.policy (answers (drop 4 pdu)) end'.run.value) (sayings.Carried Into pdu ∷ asked_between end'.run.value (takes (channel_of pdu) pdu end'.run.value))) signals ∙ ap (λ list. said_with_all end'.policy list end'.run.value) read in
    stands-right _ end'.run.said (said_in end'.policy (Comes pdu) end'.run.value) (subst (StandsIn (sayings.Command Into (Ok command))) (sym said_is) (by command.content refl responds))
  where
    none : (content : Content) → responds_with (Connection own) content ≡ true → response_to end'.policy command.identifier content end'.run.value ≡ None
    none (connection_response destination source answer status) so = refl
    none (reject reason rest) so = cc
    none (connection_request psm source) so = cc
    none (configuration_request destination flags options) so = cc
    none (configuration_response source flags answer options) so = cc
    none (disconnection_request destination source) so = cc
    none (disconnection_response destination source) so = cc
    none (echo_request octets) so = cc
    none (echo_response octets) so = cc
    none (information_request kind) so = cc
    none (information_response kind answer rest) so = cc

    by : (content : Content) → command.content ≡ content → responds_with (Connection own) content ≡ true → StandsIn (sayings.Command Into (Ok command)) (said_with_all end'.policy (Ok command ∷ []) end'.run.value)
    by content is so =
        let silent : reply_to end'.policy (Ok command) end'.run.value ≡ None = ap (command_if command.identifier) (ap (λ (c : Content). response_to end'.policy command.identifier c end'.run.value) is ∙ none content so) in
        heard-so end'.policy command end'.run.value _ (ap (λ (r : Option Command). can_say (option_map (λ (c : Command). c.content) r) end'.run.value) silent)

pub response_pledged : (own : ℕ) (content : Content) → responds_with (Connection own) content ≡ true → is_pledge content ≡ true
response_pledged own (connection_response destination source answer status) so = refl
response_pledged own (reject reason rest) so = cc
response_pledged own (connection_request psm source) so = cc
response_pledged own (configuration_request destination flags options) so = cc
response_pledged own (configuration_response source flags answer options) so = cc
response_pledged own (disconnection_request destination source) so = cc
response_pledged own (disconnection_response destination source) so = cc
response_pledged own (echo_request octets) so = cc
response_pledged own (echo_response octets) so = cc
response_pledged own (information_request kind) so = cc
response_pledged own (information_response kind answer rest) so = cc

pub second_holds : (a b : Bool) → (a && b) ≡ true → b ≡ true
second_holds true b is = is
second_holds false b is = cc

-- what came in so is decisive
pub decisive_first : (pdu : List ℕ) (coming : List (List ℕ)) (command : Command) → AllPlainly (pdu ∷ coming) → eqb (channel_of pdu) 0x0001 ≡ true → answers (drop 4 pdu) ≡ Ok command ∷ [] → IsDecisive command.content
decisive_first pdu coming command all signals read =
    let (meant, is, decisive) = all pdu (inl refl) signals in
    let same : Ok meant ∷ [] ≡ Ok command ∷ [] = sym is ∙ read in
    let it : meant ≡ command = cc in
    subst (λ (c : Command). IsDecisive c.content) it decisive

module _ (near far : Policy) (past : List Turn) (read : AreRead near far past) (own : ℕ) where
  abbrev both : Pair
  both = pair_of near far past

  -- what is heard behind a turn was said
  abbrev Pledge : Side → Happening → Type 0
  Pledge at happening = (command : Command) → is_pledge command.content ≡ true → (which : Side) → StandsIn (sayings.Command Into (Ok command)) (said_at which (happens_at at happening both)) → StandsIn (spoken command) (said_at which (turned (happens_at at happening both)))

  plain : BothPlainly both
  plain = come-plainly near far past read

  ends_near : (coming : List (List ℕ)) → both.near.coming ≡ coming → Pledge Near Takes → EndsWait (Connection own) coming both
  ends_near [] is pledge = tt
  ends_near (pdu ∷ coming) is pledge = λ command request signals is_read waits responds.
      let with_own = second_holds (eqb command.identifier request.identifier) (responds_with (Connection own) command.content) responds in
      let takes_is : (takes_first both.near.coming both.near).run ≡ (occurs (Comes pdu) (let_go coming both.near)).run = ap (λ (c : List (List ℕ)). (takes_first c both.near).run) is in
      let said = pledge command (response_pledged own command.content with_own) Near (subst (λ (run : Run). StandsIn (sayings.Command Into (Ok command)) run.said) (sym takes_is) (takes_said (let_go coming both.near) pdu own command signals is_read with_own)) in
      ends_wait near far past read Near own command request said (decisive_first pdu coming command (subst AllPlainly is plain.near) signals is_read) waits responds

  ends_far : (coming : List (List ℕ)) → both.far.coming ≡ coming → Pledge Far Takes → EndsWait (Connection own) coming (turned both)
  ends_far [] is pledge = tt
  ends_far (pdu ∷ coming) is pledge = λ command request signals is_read waits responds.
      let with_own = second_holds (eqb command.identifier request.identifier) (responds_with (Connection own) command.content) responds in
      let takes_is : (takes_first both.far.coming both.far).run ≡ (occurs (Comes pdu) (let_go coming both.far)).run = ap (λ (c : List (List ℕ)). (takes_first c both.far).run) is in
      let said = pledge command (response_pledged own command.content with_own) Far (subst (λ (run : Run). StandsIn (sayings.Command Into (Ok command)) run.said) (sym takes_is) (takes_said (let_go coming both.far) pdu own command signals is_read with_own)) in
      ends_wait near far past read Far own command request said (decisive_first pdu coming command (subst AllPlainly is plain.far) signals is_read) waits responds

  responds_far : (coming : List (List ℕ)) → NamesApart both.near.run.said → has_room both.far.run.value ≡ true → RespondsTo (Connection own) coming both
  responds_far [] apart room = tt
  responds_far (pdu ∷ coming) apart room = λ command request signals is_read waits asks.
      has_response near far past read Near own command request apart (calls-remembered near far past read Far) room waits asks

  responds_near : (coming : List (List ℕ)) → NamesApart both.far.run.said → has_room both.near.run.value ≡ true → RespondsTo (Connection own) coming (turned both)
  responds_near [] apart room = tt
  responds_near (pdu ∷ coming) apart room = λ command request signals is_read waits asks.
      has_response near far past read Far own command request apart (calls-remembered near far past read Near) room waits asks

  is_met : (owner at : Side) (happening : Happening) → NamesApart (said_at owner both) → IsRoomy happening (end_at at both) → Pledge at happening → IsMetBy (Connection own) owner at happening both
  is_met owner at (Acts more) apart room pledge = tt
  is_met owner at (Puts pdu) apart room pledge = tt
  is_met Near Near Takes apart room pledge = ends_near both.near.coming refl pledge
  is_met Near Far Takes apart room pledge = responds_far both.far.coming apart room
  is_met Far Near Takes apart room pledge = responds_near both.near.coming apart room
  is_met Far Far Takes apart room pledge = ends_far both.far.coming refl pledge
  is_met owner at Repeats apart room pledge = tt
  is_met owner at Loses apart room pledge = tt
  is_met owner at (Damages pdu) apart room pledge = tt

pub connections-are_met : ConnectionsAreMet
connections-are_met near far turns read roomy side apart own = each_within (λ past turn. IsMetBy (Connection own) side turn.side turn.happening (pair_of near far past)) [] turns step
  where
    step : (front : List Turn) (turn : Turn) (rest : List Turn) → turns ≡ front ++ turn ∷ rest → IsMetBy (Connection own) side turn.side turn.happening (pair_of near far front)
    step front turn rest is =
        let reads : AreRead near far (front ++ turn ∷ rest) = subst (AreRead near far) is read in
        let rooms : AreRoomy near far (front ++ turn ∷ rest) = subst (AreRoomy near far) is roomy in
        let now : AreRead near far (front ++ turn ∷ []) = (each_split _ [] (front ++ turn ∷ []) rest (subst (AreRead near far) (sym (append_assoc front (turn ∷ []) rest)) reads)).0 in
        let before : AreRead near far front = (each_split _ [] front (turn ∷ rest) reads).0 in
        let room : IsRoomy turn.happening (end_at turn.side (pair_of near far front)) = (each_split _ [] front (turn ∷ rest) rooms).1.0 in
        let next_is : pair_of near far (front ++ turn ∷ []) ≡ pair_after (pair_of near far front) turn = fold-append pair_after (new_pair near far) front (turn ∷ []) in
        is_met near far front before own side turn.side turn.happening (earlier front (turn ∷ rest) is) room
        (λ command pledged which heard. subst (λ (p : Pair). StandsIn (spoken command) (said_at which (turned p))) next_is (pledges-were_said near far (front ++ turn ∷ []) now which command pledged (subst (λ (p : Pair). StandsIn (sayings.Command Into (Ok command)) (said_at which p)) (sym next_is) heard)))
      where
        earlier : (front rest : List Turn) → turns ≡ front ++ rest → NamesApart (said_at side (pair_of near far front))
        earlier front rest is identifier psm one other again first second =
            let (more, grown) = said-grows near far side front rest in
            let whole : said_at side (pair_of near far turns) ≡ said_at side (pair_of near far front) ++ more = ap (λ (list : List Turn). said_at side (pair_of near far list)) is ∙ grown in
            apart identifier psm one other again (subst (StandsIn _) (sym whole) (stands-left _ (said_at side (pair_of near far front)) more first)) (subst (StandsIn _) (sym whole) (stands-left _ (said_at side (pair_of near far front)) more second))
