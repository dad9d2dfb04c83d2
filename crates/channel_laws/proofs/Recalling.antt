-- What a host remembers of the last request for a channel: it heard that request, and the response is for its endpoint.
use Rattle.std.proofs.Common.{◌≡◌, ℕ, List, [], ◌∷◌, ◌++◌, map, drop, Bool, true, false, cond, eqb, Option, Some, None, Ok, refl, sym, ap, subst, ◌∙◌, inl, append_assoc, append-nil}
use Rattle.std.proofs.lemmas.List.Sums.{fold-append}
use Rattle.own_channel_laws.specs.talk_laws.specs.capture.specs.Histories.{EachAfter}
use Rattle.own_channel_laws.specs.talk_laws.specs.capture.proofs.HistoryLaws.{each_after-more}
use Rattle.std.specs.Prelude.{option_map, option_to_list}
use Rattle.own_channel_laws.specs.talk_laws.specs.acl_fragments.specs.Pieces.{channel_of}
use Rattle.own_channel_laws.specs.talk_laws.specs.capture.specs.declared.flow.Flow.TheVariants.{Into}
use Rattle.own_channel_laws.specs.talk_laws.specs.l2cap_signal.specs.Commands.{Content, Command, reject, connection_request, connection_response, configuration_request, configuration_response, disconnection_request, disconnection_response, echo_request, echo_response, information_request, information_response}
use Rattle.own_channel_laws.specs.talk_laws.specs.l2cap_signal.specs.Reading.{answers}
use Rattle.own_channel_laws.specs.talk_laws.specs.link_talk.specs.Sayings.{Saying}
use Rattle.own_channel_laws.specs.talk_laws.specs.link_talk.specs.Sayings as sayings
use Rattle.own_channel_laws.specs.channel_model.specs.declared.errand.Errand.TheVariants.{Connection}
use Rattle.own_channel_laws.specs.channel_model.specs.declared.request_kind.RequestKind.{RequestKind}
use Rattle.own_channel_laws.specs.channel_model.specs.declared.request_kind.RequestKind.TheVariants as kinds
use Rattle.own_channel_laws.specs.channel_model.specs.Answers.{answer_to}
use Rattle.own_channel_laws.specs.channel_model.specs.Carrying.{takes}
use Rattle.own_channel_laws.specs.channel_model.specs.Changing.{held_at}
use Rattle.own_channel_laws.specs.channel_model.specs.Following.{follows, remembers, says, can_say, hears_new, hears_again, hears_kind}
use Rattle.own_channel_laws.specs.channel_model.specs.Hearing.{hears_content, hears_command, hears_commands}
use Rattle.own_channel_laws.specs.channel_model.specs.Policies.{Policy}
use Rattle.own_channel_laws.specs.channel_model.specs.Responses.{features_in}
use Rattle.own_channel_laws.specs.channel_model.specs.Timing.{times_held, times_end, times_channels, timed_out}
use Rattle.own_channel_laws.specs.channel_model.specs.Value.{Held, Remembered, Memory, Channels}
use Rattle.own_channel_laws.specs.channel_model.proofs.Lookups.{eqb-same}
use Rattle.own_channel_laws.specs.OwnTalk.{spoken, command_with, response_by, response_to, command_if, reply_to, exchanged, asked_between, said_with_all}
use Rattle.own_channel_laws.specs.channel_model.specs.Calls.{has_fcs}
use Rattle.own_channel_laws.specs.channel_model.specs.Giving.{Given, next_given}
use Rattle.channel_laws.specs.Belonging.{AreRead, IsRead}
use Rattle.channel_laws.specs.Ends.{end_at}
use Rattle.channel_laws.specs.Pairs.{Pair, new_pair, Happening, Acts, Puts, Takes, Repeats, Loses, Damages, is_alone, occurs, with_near, puts, let_go, takes_first, repeats_first, loses_first, damages_first, happens_near, Side, Near, Far, turned, Turn, happens_at, pair_after, pair_of}
use Rattle.channel_laws.specs.Responding.{Recalls}
use Rattle.own_channel_laws.specs.Runs.{Occurrence, Comes, Connects, AsksFeatures, Disconnects, Sends, Gives, Fires, Tells, said_in, value_after, Run, run_on}
use Rattle.own_channel_laws.specs.Signals.{StandsIn}
use Rattle.own_channel_laws.proofs.Conversing.{says_memory, features_memory, features_lost, single_memory}
use Rattle.own_channel_laws.proofs.Lasting.{follows-lasts, grant-lasts, response-lasts, end-lasts, takes-lasts, times-last, ends-last}
use Rattle.own_channel_laws.proofs.Saying.{stands-left, stands-right}
use Rattle.channel_laws.proofs.Sharing.{near_grows}
use Rattle.channel_laws.proofs.UnderWay.{IsPlainly, AllPlainly, BothPlainly, come-plainly}

-- ---- what is remembered

abbrev pub Heard : (identifier psm source : ℕ) → List Saying → Type 0
Heard identifier psm source said = StandsIn (sayings.Command Into (Ok (command_with identifier (connection_request psm source)))) said

pub record IsOfCall (said : List Saying) (last : Remembered) : Type 0 where
  pub psm : ℕ
  pub source : ℕ
  pub heard : Heard last.identifier psm source said
  pub responds : Recalls (Connection source) last.response

abbrev pub CallRemembered : List Saying → Option Remembered → Type 0
CallRemembered said None = Unit {0}
CallRemembered said (Some last) = IsOfCall said last

pub more_remembered : (said more : List Saying) (last : Option Remembered) → CallRemembered said last → CallRemembered (said ++ more) last
more_remembered said more None is = tt
more_remembered said more (Some last) is = record { psm = is.psm; source = is.source; heard = stands-left _ said more is.heard; responds = is.responds }

-- ---- a command

pub said_memory : (identifier : ℕ) (response : Option Content) (v : Channels) (can : Bool) → (cond can (says identifier response v) v).memory ≡ v.memory
said_memory identifier response v true = says_memory identifier response v
said_memory identifier response v false = refl

-- a request of another kind
pub other_kind : (last : Option Remembered) (kind : RequestKind) (identifier : ℕ) (response : Option Content) (more : Channels → Channels) (v : Channels) → ((u : Channels) → (more u).memory ≡ u.memory) → ((one : Remembered) (u : Channels) → (remembers kind one.identifier one.response u).memory.connection ≡ u.memory.connection)
    → (hears_kind last kind identifier response more v).memory.connection ≡ v.memory.connection
other_kind last kind identifier response more v keeps apart = by last
  where
    new : (can : Bool) → (cond can (more (says identifier response (remembers kind identifier response v))) v).memory.connection ≡ v.memory.connection
    new true =
        let u : Channels = remembers kind identifier response v in
        let one : Remembered = record { identifier = identifier; response = response } in
        ap (λ (m : Memory). m.connection) (keeps (says identifier response u)) ∙ (ap (λ (m : Memory). m.connection) (says_memory identifier response u) ∙ apart one v)
    new false = refl

    by : (last : Option Remembered) → (hears_kind last kind identifier response more v).memory.connection ≡ v.memory.connection
    by None = new (can_say response v)
    by (Some one) = at (eqb one.identifier identifier)
      where
        at : (same : Bool) → (cond same (hears_again identifier one.response v) (hears_new kind identifier response more v)).memory.connection ≡ v.memory.connection
        at true = ap (λ (m : Memory). m.connection) (said_memory identifier one.response v (can_say one.response v))
        at false = new (can_say response v)

-- what is said of a command and its response begins with the command, where there is room
pub heard-so : (policy : Policy) (command : Command) (v : Channels) (rest : List Saying) → can_say (option_map (λ (c : Command). c.content) (reply_to policy (Ok command) v)) v ≡ true
    → StandsIn (sayings.Command Into (Ok command)) ((exchanged (Ok command) (reply_to policy (Ok command) v) v ++ rest) ++ [])
heard-so policy command v rest can =
    stands-left _ (exchanged (Ok command) (reply_to policy (Ok command) v) v ++ rest) []
    (stands-left _ (exchanged (Ok command) (reply_to policy (Ok command) v) v) rest
    (subst (λ (b : Bool). StandsIn (sayings.Command Into (Ok command)) (cond b (sayings.Command Into (Ok command) ∷ map spoken (option_to_list (reply_to policy (Ok command) v))) [])) (sym can) (inl refl)))

pub answered_with : (policy : Policy) (psm source : ℕ) (v : Channels) → Recalls (Connection source) (answer_to policy (connection_request psm source) v)
answered_with policy psm source v = eqb-same source

pub can_reply : (identifier : ℕ) (response : Option Content) (v : Channels) → can_say (option_map (λ (c : Command). c.content) (command_if identifier response)) v ≡ can_say response v
can_reply identifier None v = refl
can_reply identifier (Some content) v = refl

-- a request for a channel
pub call_remembered : (policy : Policy) (said : List Saying) (v : Channels) (identifier psm source : ℕ) (rest : List Saying) → CallRemembered said v.memory.connection
    → (let command : Command = command_with identifier (connection_request psm source) in
    CallRemembered (said ++ ((exchanged (Ok command) (reply_to policy (Ok command) v) v ++ rest) ++ [])) (hears_command policy (Ok command) v).memory.connection)
call_remembered policy said v identifier psm source rest so = by v.memory.connection refl
  where
    asked : Content
    asked = connection_request psm source

    command : Command
    command = command_with identifier asked

    fresh : Option Content
    fresh = answer_to policy asked v

    now : List Saying
    now = (exchanged (Ok command) (reply_to policy (Ok command) v) v ++ rest) ++ []

    old : CallRemembered (said ++ now) v.memory.connection
    old = more_remembered said now v.memory.connection so

    new : response_to policy identifier asked v ≡ fresh → (can : Bool) → can_say fresh v ≡ can → CallRemembered (said ++ now) (cond can (follows policy asked (says identifier fresh (remembers kinds.Connection identifier fresh v))) v).memory.connection
    new same false can = old
    new same true can =
        let u : Channels = remembers kinds.Connection identifier fresh v in
        let one : Remembered = record { identifier = identifier; response = fresh } in
        let kept : (follows policy asked (says identifier fresh u)).memory ≡ u.memory = (follows-lasts policy asked (says identifier fresh u)).1 ∙ says_memory identifier fresh u in
        let room : can_say (option_map (λ (c : Command). c.content) (reply_to policy (Ok command) v)) v ≡ true = can_reply identifier (response_to policy identifier asked v) v ∙ (ap (λ (r : Option Content). can_say r v) same ∙ can) in
        subst (λ (m : Memory). CallRemembered (said ++ now) m.connection) (sym kept)
        (let it : IsOfCall (said ++ now) one = record { psm = psm; source = source; heard = stands-right _ said now (heard-so policy command v rest room); responds = answered_with policy psm source v } in it)

    by : (last : Option Remembered) → v.memory.connection ≡ last → CallRemembered (said ++ now) (hears_kind last kinds.Connection identifier fresh (follows policy asked) v).memory.connection
    by None is = new (ap (λ (l : Option Remembered). response_by l identifier fresh) is) (can_say fresh v) refl
    by (Some last) is = at (eqb last.identifier identifier) refl
      where
        at : (same : Bool) → eqb last.identifier identifier ≡ same
            → CallRemembered (said ++ now) (cond same (hears_again identifier last.response v) (hears_new kinds.Connection identifier fresh (follows policy asked) v)).memory.connection
        at true same = subst (λ (m : Memory). CallRemembered (said ++ now) m.connection) (sym (said_memory identifier last.response v (can_say last.response v))) old
        at false same = new (ap (λ (l : Option Remembered). response_by l identifier fresh) is ∙ ap (λ (b : Bool). cond b last.response fresh) same) (can_say fresh v) refl

-- any other command
pub same_memory : (policy : Policy) (identifier : ℕ) (content : Content) (v : Channels) → ((psm source : ℕ) → content ≡ connection_request psm source → ⊥) → (hears_content policy identifier content v).memory.connection ≡ v.memory.connection
same_memory policy identifier (reject reason rest) v apart = ap (λ (m : Memory). m.connection) (features_memory identifier None v)
same_memory policy identifier (connection_request psm source) v apart = absurd (apart psm source refl)
same_memory policy identifier (connection_response destination source answer status) v apart = ap (λ (m : Memory). m.connection) (grant-lasts v (held_at source v) policy identifier destination answer).1
same_memory policy identifier (configuration_request destination flags options) v apart =
    let c : Content = configuration_request destination flags options in other_kind v.memory.configuration kinds.Configuration identifier (answer_to policy c v) (follows policy c) v (λ u. (follows-lasts policy c u).1) (λ one u. refl)
same_memory policy identifier (configuration_response source flags answer options) v apart = ap (λ (m : Memory). m.connection) (response-lasts v (held_at source v) policy identifier answer options).1
same_memory policy identifier (disconnection_request destination source) v apart =
    let c : Content = disconnection_request destination source in other_kind v.memory.disconnection kinds.Disconnection identifier (answer_to policy c v) (follows policy c) v (λ u. (follows-lasts policy c u).1) (λ one u. refl)
same_memory policy identifier (disconnection_response destination source) v apart = ap (λ (m : Memory). m.connection) (end-lasts v (held_at source v) destination).1
same_memory policy identifier (echo_request octets) v apart =
    let c : Content = echo_request octets in other_kind v.memory.echo kinds.Echo identifier (answer_to policy c v) (follows policy c) v (λ u. (follows-lasts policy c u).1) (λ one u. refl)
same_memory policy identifier (echo_response octets) v apart = refl
same_memory policy identifier (information_request kind) v apart =
    let c : Content = information_request kind in other_kind v.memory.information kinds.Information identifier (answer_to policy c v) (follows policy c) v (λ u. (follows-lasts policy c u).1) (λ one u. refl)
same_memory policy identifier (information_response kind answer rest) v apart = ap (λ (m : Memory). m.connection) (features_memory identifier (features_in kind answer rest) v)

pub command_remembered : (policy : Policy) (said : List Saying) (v : Channels) (command : Command) → CallRemembered said v.memory.connection → CallRemembered (said ++ said_with_all policy (Ok command ∷ []) v) (hears_command policy (Ok command) v).memory.connection
command_remembered policy said v command so = by command.content refl
  where
    now : List Saying
    now = said_with_all policy (Ok command ∷ []) v

    other : ((psm source : ℕ) → command.content ≡ connection_request psm source → ⊥) → CallRemembered (said ++ now) (hears_command policy (Ok command) v).memory.connection
    other apart = subst (CallRemembered (said ++ now)) (sym (same_memory policy command.identifier command.content v apart)) (more_remembered said now v.memory.connection so)

    by : (content : Content) → command.content ≡ content → CallRemembered (said ++ now) (hears_command policy (Ok command) v).memory.connection
    by (connection_request psm source) is =
        let it : command_with command.identifier (connection_request psm source) ≡ command = ap (command_with command.identifier) (sym is) in
        subst (λ (c : Command). CallRemembered (said ++ said_with_all policy (Ok c ∷ []) v) (hears_command policy (Ok c) v).memory.connection) it
        (call_remembered policy said v command.identifier psm source _ so)
    by (reject reason rest) is = other (λ psm source same. let never : reject reason rest ≡ connection_request psm source = sym is ∙ same in cc)
    by (connection_response destination source answer status) is = other (λ psm s same. let never : connection_response destination source answer status ≡ connection_request psm s = sym is ∙ same in cc)
    by (configuration_request destination flags options) is = other (λ psm s same. let never : configuration_request destination flags options ≡ connection_request psm s = sym is ∙ same in cc)
    by (configuration_response source flags answer options) is = other (λ psm s same. let never : configuration_response source flags answer options ≡ connection_request psm s = sym is ∙ same in cc)
    by (disconnection_request destination source) is = other (λ psm s same. let never : disconnection_request destination source ≡ connection_request psm s = sym is ∙ same in cc)
    by (disconnection_response destination source) is = other (λ psm s same. let never : disconnection_response destination source ≡ connection_request psm s = sym is ∙ same in cc)
    by (echo_request octets) is = other (λ psm s same. let never : echo_request octets ≡ connection_request psm s = sym is ∙ same in cc)
    by (echo_response octets) is = other (λ psm s same. let never : echo_response octets ≡ connection_request psm s = sym is ∙ same in cc)
    by (information_request kind) is = other (λ psm s same. let never : information_request kind ≡ connection_request psm s = sym is ∙ same in cc)
    by (information_response kind answer rest) is = other (λ psm s same. let never : information_response kind answer rest ≡ connection_request psm s = sym is ∙ same in cc)

-- ---- the timer, and what happens alone

pub channels_memory : (tries : ℕ) (owns : List ℕ) (v : Channels) → (times_channels tries owns v).memory ≡ v.memory
channels_memory tries [] v = refl
channels_memory tries (own ∷ owns) v =
    let u : Channels = times_held (held_at own v) tries v in
    let w : Channels = times_end (held_at own u) tries u in
    channels_memory tries owns w ∙ ((ends-last tries own u).1 ∙ (times-last tries own v).1)

pub fired_memory : (policy : Policy) (v : Channels) → (timed_out policy v).memory ≡ v.memory
fired_memory policy v =
    let owns : List ℕ = map (λ (held : Held). held.own) v.held in
    let u : Channels = times_channels policy.tries owns v in
    features_lost policy.tries u u.features ∙ channels_memory policy.tries owns v

-- where a PDU on the signalling channel is one command
abbrev pub ComesPlainly : Occurrence → Type 0
ComesPlainly (Comes pdu) = eqb (channel_of pdu) 0x0001 ≡ true → (command : Command) × (answers (drop 4 pdu) ≡ Ok command ∷ [])
ComesPlainly (Connects psm) = Unit {0}
ComesPlainly AsksFeatures = Unit {0}
ComesPlainly (Disconnects own) = Unit {0}
ComesPlainly (Sends own sdu) = Unit {0}
ComesPlainly (Gives pdu) = Unit {0}
ComesPlainly Fires = Unit {0}
ComesPlainly Tells = Unit {0}

pub occurs-remembered : (policy : Policy) (run : Run) (more : Occurrence) → ComesPlainly more → CallRemembered run.said run.value.memory.connection → CallRemembered (run_on policy run more).said (run_on policy run more).value.memory.connection
occurs-remembered policy run more plainly so = by more plainly
  where
    v : Channels
    v = run.value

    same : (one : Occurrence) → (value_after policy one v).memory ≡ v.memory → CallRemembered (run.said ++ said_in policy one v) (value_after policy one v).memory.connection
    same one is = subst (λ (m : Memory). CallRemembered (run.said ++ said_in policy one v) m.connection) (sym is) (more_remembered run.said (said_in policy one v) v.memory.connection so)

    by : (one : Occurrence) → ComesPlainly one → CallRemembered (run.said ++ said_in policy one v) (value_after policy one v).memory.connection
    by (Comes pdu) plainly = at (eqb (channel_of pdu) 0x0001) refl
      where
        at : (signals : Bool) → eqb (channel_of pdu) 0x0001 ≡ signals → CallRemembered (run.said ++ said_in policy (Comes pdu) v) (value_after policy (Comes pdu) v).memory.connection
        at false is = same (Comes pdu) (ap (λ (b : Bool). (cond b (hears_commands policy (answers (drop 4 pdu)) v) (takes (channel_of pdu) pdu v)).memory) is ∙ (takes-lasts (channel_of pdu) pdu v).1)
        at true is =
            let (command, read) = plainly is in
            let said_is : said_in policy (Comes pdu) v ≡ said_with_all policy (Ok command ∷ []) v =
            ap (λ (b : Bool). cond b (said_with_all policy (answers (drop 4 pdu)) v) (sayings.Carried Into pdu ∷ asked_between v (takes (channel_of pdu) pdu v))) is ∙ ap (λ list. said_with_all policy list v) read in
            let value_is : value_after policy (Comes pdu) v ≡ hears_command policy (Ok command) v =
            ap (λ (b : Bool). cond b (hears_commands policy (answers (drop 4 pdu)) v) (takes (channel_of pdu) pdu v)) is ∙ ap (λ list. hears_commands policy list v) read in
            subst (λ (said : List Saying). CallRemembered (run.said ++ said) (value_after policy (Comes pdu) v).memory.connection) (sym said_is)
            (subst (λ (w : Channels). CallRemembered (run.said ++ said_with_all policy (Ok command ∷ []) v) w.memory.connection) (sym value_is) (command_remembered policy run.said v command so))
    by (Connects psm) plainly = same (Connects psm) (single_memory policy (Connects psm) v refl)
    by AsksFeatures plainly = same AsksFeatures (single_memory policy AsksFeatures v refl)
    by (Disconnects own) plainly = same (Disconnects own) (single_memory policy (Disconnects own) v refl)
    by (Sends own sdu) plainly = same (Sends own sdu) (single_memory policy (Sends own sdu) v refl)
    by (Gives pdu) plainly = same (Gives pdu) (single_memory policy (Gives pdu) v refl)
    by Fires plainly = same Fires (fired_memory policy v)
    by Tells plainly = same Tells (single_memory policy Tells v refl)

-- ---- two ends

abbrev pub Remembers : Run → Type 0
Remembers run = CallRemembered run.said run.value.memory.connection

pub alone_plainly : (more : Occurrence) → is_alone more ≡ true → ComesPlainly more
alone_plainly (Comes pdu) alone = cc
alone_plainly (Connects psm) alone = tt
alone_plainly AsksFeatures alone = tt
alone_plainly (Disconnects own) alone = tt
alone_plainly (Sends own sdu) alone = tt
alone_plainly (Gives pdu) alone = cc
alone_plainly Fires alone = tt
alone_plainly Tells alone = tt

pub comes_plainly : (pdu : List ℕ) → IsPlainly pdu → ComesPlainly (Comes pdu)
comes_plainly pdu plainly signals = let (command, read, decisive) = plainly signals in (command, read)

pub near_remembers : (happening : Happening) (pair : Pair) → IsRead happening pair.near → AllPlainly pair.near.coming → Remembers pair.near.run → Remembers (happens_near happening pair).near.run
near_remembers (Acts more) pair read plainly so = by (is_alone more) refl
  where
    by : (alone : Bool) → is_alone more ≡ alone → Remembers (cond alone (with_near (occurs more pair.near) pair) pair).near.run
    by true alone = occurs-remembered pair.near.policy pair.near.run more (alone_plainly more alone) so
    by false alone = so
near_remembers (Puts pdu) pair read plainly so = by (next_given pair.near.run.value)
  where
    by : (given : Option Given) → Remembers (puts given pdu pair).near.run
    by None = so
    by (Some given) = occurs-remembered pair.near.policy pair.near.run (Gives pdu) tt so
near_remembers Takes pair read plainly so = by pair.near.coming refl
  where
    by : (coming : List (List ℕ)) → pair.near.coming ≡ coming → Remembers (takes_first coming pair.near).run
    by [] is = so
    by (pdu ∷ coming) is = occurs-remembered pair.near.policy pair.near.run (Comes pdu) (comes_plainly pdu (plainly pdu (subst (StandsIn pdu) (sym is) (inl refl)))) so
near_remembers Repeats pair read plainly so = by pair.near.coming refl
  where
    by : (coming : List (List ℕ)) → pair.near.coming ≡ coming → Remembers (repeats_first coming pair.near).run
    by [] is = so
    by (pdu ∷ coming) is = occurs-remembered pair.near.policy pair.near.run (Comes pdu) (comes_plainly pdu (plainly pdu (subst (StandsIn pdu) (sym is) (inl refl)))) so
near_remembers Loses pair read plainly so = by pair.near.coming
  where
    by : (coming : List (List ℕ)) → Remembers (loses_first coming pair.near).run
    by [] = so
    by (pdu ∷ coming) = so
near_remembers (Damages other) pair read plainly so = by pair.near.coming
  where
    by : (coming : List (List ℕ)) → Remembers (damages_first other coming pair.near).run
    by [] = so
    by (pdu ∷ coming) = at (has_fcs (channel_of pdu) pair.near.run.value)
      where
        at : (checked : Bool) → Remembers (cond checked (occurs (Comes other) (let_go coming pair.near)) (let_go coming pair.near)).run
        at true = occurs-remembered pair.near.policy pair.near.run (Comes other) (λ signals. let never : true ≡ false = sym signals ∙ read in absurd cc) so
        at false = so

pub record BothRemember (pair : Pair) : Type 0 where
  pub near : Remembers pair.near.run
  pub far : Remembers pair.far.run

pub turn_remembers : (happening : Happening) (pair : Pair) → IsRead happening pair.near → AllPlainly pair.near.coming → BothRemember pair → BothRemember (happens_near happening pair)
turn_remembers happening pair read plainly both = record { near = near_remembers happening pair read plainly both.near; far = subst Remembers (sym (near_grows happening pair).1) both.far }

pub all_remember : (near far : Policy) (past turns : List Turn) → AreRead near far past → EachAfter (λ front turn. IsRead turn.happening (end_at turn.side (pair_of near far front))) past turns → BothRemember (pair_of near far past) → BothRemember (pair_of near far (past ++ turns))
all_remember near far past [] before read both = subst (λ (list : List Turn). BothRemember (pair_of near far list)) (sym (append-nil past)) both
all_remember near far past (turn ∷ turns) before (now, read) both =
    subst (λ (list : List Turn). BothRemember (pair_of near far list)) (append_assoc past (turn ∷ []) turns)
    (all_remember near far (past ++ turn ∷ []) turns (each_after-more (λ front turn. IsRead turn.happening (end_at turn.side (pair_of near far front))) past turn before now) read
    (subst BothRemember (sym (fold-append pair_after (new_pair near far) past (turn ∷ []))) (at turn.side turn.happening now)))
  where
    pair : Pair
    pair = pair_of near far past

    plain : BothPlainly pair
    plain = come-plainly near far past before

    at : (side : Side) (happening : Happening) → IsRead happening (end_at side pair) → BothRemember (happens_at side happening pair)
    at Near happening fair = turn_remembers happening pair fair plain.near both
    at Far happening fair =
        let after = turn_remembers happening (turned pair) fair plain.far (record { near = both.far; far = both.near }) in record { near = after.far; far = after.near }

-- so it is of both ends, whatever the link loses, repeats and damages
pub calls-remembered : (near far : Policy) (turns : List Turn) → AreRead near far turns → (side : Side) → CallRemembered (end_at side (pair_of near far turns)).run.said (end_at side (pair_of near far turns)).run.value.memory.connection
calls-remembered near far turns read side = by side
  where
    both : BothRemember (pair_of near far turns)
    both = all_remember near far [] turns tt read (record { near = tt; far = tt })

    by : (which : Side) → Remembers (end_at which (pair_of near far turns)).run
    by Near = both.near
    by Far = both.far
