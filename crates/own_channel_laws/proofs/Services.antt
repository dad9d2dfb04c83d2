-- A host that asks for no services waits for none.
use Rattle.std.proofs.Common.{◌≡◌, ℕ, List, [], ◌∷◌, ◌++◌, length, map, drop, fold, Bool, true, false, cond, ◌&&◌, ◌||◌, eqb, Option, Some, None, refl, sym, ap, subst, ◌∙◌, append_assoc, append-nil}
use Rattle.std.specs.Prelude.{find, is_some, option_map}
use Rattle.std.specs.List.{list_any, filter_map, AllByRecursion}
use Rattle.std.proofs.lemmas.Bool.{eqb-true}
use Rattle.std.proofs.lemmas.List.{map-append}
use Rattle.std.proofs.lemmas.List.Elements.{filter_map-append}
use Rattle.std.proofs.lemmas.List.Sums.{fold-append}
use Rattle.std.proofs.Math.Seq.{drop-append_seam}
use Rattle.talk_laws.specs.acl_fragments.specs.Pieces.{channel_of}
use Rattle.talk_laws.specs.capture.specs.declared.flow.Flow.{Flow}
use Rattle.talk_laws.specs.capture.specs.declared.flow.Flow.TheVariants.{Out, Into}
use Rattle.talk_laws.specs.capture.specs.Histories.{each_after, given_by, EachAfter}
use Rattle.talk_laws.specs.capture.specs.Pdus.{same_flow}
use Rattle.talk_laws.specs.l2cap_signal.specs.Commands.{Command}
use Rattle.talk_laws.specs.l2cap_signal.specs.Reading.{answers}
use Rattle.talk_laws.specs.l2cap_config.specs.declared.wish.Mode.{Mode}
use Rattle.talk_laws.specs.l2cap_config.specs.declared.wish.Mode.TheVariants.{Basic, Enhanced}
use Rattle.talk_laws.specs.l2cap_config.specs.declared.wish.Wish.{Wish}
use Rattle.talk_laws.specs.ertm_frames.specs.Frames.{PlainFrame}
use Rattle.channel_model.specs.ertm_model.specs.Value.{Ertm}
use Rattle.channel_model.specs.ertm_model.specs.Giving.{next_frame}
use Rattle.talk_laws.specs.sdp_elements.specs.Pdus.{pdu_in}
use Rattle.talk_laws.specs.link_talk.specs.declared.channel.Channel.{Channel}
use Rattle.talk_laws.specs.link_talk.specs.declared.party.Party.{Party}
use Rattle.talk_laws.specs.link_talk.specs.Sayings.{Saying, Command as Said, Carried, GaveUp}
use Rattle.talk_laws.specs.link_talk.specs.Setups.{is_set, is_enhanced, agreed_mode}
use Rattle.talk_laws.specs.link_talk.specs.Channels.{is_there, Entry, Reading, nothing_read, read_on, reading}
use Rattle.talk_laws.specs.link_talk.specs.Carriages.{Carriage, is_held, is_heard, takes, taker, is_on, carried, stretch, pdus_of, one_way, entry_mode, mode_of, has_own as is_of}
use Rattle.talk_laws.specs.link_talk.specs.Gains.{gained}
use Rattle.talk_laws.specs.link_talk.specs.GrowingLaws.{has_opened}
use Rattle.talk_laws.specs.link_talk.specs.Sdus.{Spoken, spoken_as, sdus_of, spoken_with, spoken}
use Rattle.talk_laws.specs.link_talk.specs.ServiceAnswers.{transaction_of, asked_by, waiting_after}
use Rattle.talk_laws.specs.link_talk.specs.Waits.{query_waits}
use Rattle.talk_laws.specs.link_talk.proofs.Growing.{stretch-grows, mode-stands}
use Rattle.channel_model.specs.Value.{Queued, Answer, Ask, Own, Unasked, Asking, Granted, Carrier, Plain, Retransmitting, Setup, Stage, Requested, Connected, Leaving, Closing, Crossed, Held, Channels}
use Rattle.channel_model.specs.Policies.{Policy}
use Rattle.channel_model.specs.Changing.{held_at, is_stated, setup_of}
use Rattle.channel_model.specs.Carrying as carrying
use Rattle.channel_model.specs.Giving.{command_of, Signal, Framed, headed, gives, stage_gives, some_carrier_gives, held_gives, queue_gives}
use Rattle.channel_model.specs.Calls.{connected, asks_features, disconnected, carrier_at, is_armed, armed}
use Rattle.channel_model.proofs.Lookups.{own_of, found-distinct}
use Rattle.own_channel_laws.specs.OwnTalk.{asked_between, said_with_all}
use Rattle.own_channel_laws.specs.Runs.{Occurrence, Comes, Connects, AsksFeatures, Disconnects, Sends, Gives, Fires, Tells, given_up, said_by_channels, peer_at, said_by_carrier, said_as, said_in, Run, new_link, run_on, run_of}
use Rattle.own_channel_laws.specs.Views.{peer_of, asked_mode, standing, read_at}
use Rattle.own_channel_laws.specs.Frames.{IsSpelled, IsUttered, AreUttered}
use Rattle.own_channel_laws.specs.Endpoints.{IsOf}
use Rattle.own_channel_laws.specs.Armed.{asks_services, services_wait}
use Rattle.own_channel_laws.specs.Services.{AsksNoServices, ChannelsAloneWait}
use Rattle.own_channel_laws.proofs.Both.{and-left, and-right, both-true}
use Rattle.own_channel_laws.proofs.Entries.{read-own, any-found}
use Rattle.own_channel_laws.proofs.Sound.{Agrees, AgreesIf, ReadsBy, Reads, Sound}
use Rattle.own_channel_laws.proofs.Moves.{quiet-passes}
use Rattle.own_channel_laws.proofs.Naming.{said-of}
use Rattle.own_channel_laws.proofs.Running.{run-more, all-sound}
use Rattle.own_channel_laws.proofs.Stretching.{unopened-stretch}
use Rattle.own_channel_laws.proofs.Signalling.{is_carried, IsBare, bare-asked, bare-left, bare-with_all, bare-fired}
use Rattle.own_channel_laws.proofs.Carriages.{goes_over, carried-none}
use Rattle.own_channel_laws.proofs.Receiving.{mode-by}
use Rattle.own_channel_laws.proofs.Passages.{both-false, spelled-frame}
use Rattle.own_channel_laws.proofs.Holding.{IsRead, is-read}
use Rattle.own_channel_laws.proofs.Outgoing.{gives-none, gives-by}
use Rattle.own_channel_laws.proofs.Arming.{armed-at, armed-is_what_waits}

-- ---- what goes out on a basic channel

-- what goes out is no request
abbrev IsSent : Carriage → Type 0
IsSent one = one.flow ≡ Out → transaction_of (pdu_in (drop 4 one.pdu)) ≡ None

abbrev AllSent : List Carriage → Type 0
AllSent carriages = AllByRecursion IsSent carriages

all_append : (xs ys : List Carriage) → AllSent xs → AllSent ys → AllSent (xs ++ ys)
all_append [] ys none all = all
all_append (x ∷ xs) ys (now, later) all = (now, all_append xs ys later all)

-- of all channels that are read
abbrev Silent : List Saying → Type 0
Silent past = (own : ℕ) (entry : Entry) → read_at own (reading past).entries ≡ Some entry → agreed_mode entry.setup ≡ Basic → AllSent (stretch entry.channel past)

-- ---- one saying more that carries nothing

reading_more : (past : List Saying) (more : Saying) → reading (past ++ more ∷ []) ≡ read_on (reading past) more
reading_more past more = fold-append read_on nothing_read past (more ∷ [])

-- a channel that is read behind it, as it was before
before_so : (past : List Saying) (more : Saying) (own : ℕ) (entry : Entry) (found : Option Entry) → Silent past → read_at own (reading past).entries ≡ found → read_at own (reading (past ++ more ∷ [])).entries ≡ Some entry → agreed_mode entry.setup ≡ Basic
    → AllSent (stretch entry.channel past)
before_so past more own entry None silent before at basic =
    let own_is : entry.channel.own ≡ own = read-own own (reading (past ++ more ∷ [])).entries entry at in
    subst AllSent (sym (unopened-stretch entry.channel past (ap (λ n. has_opened (read_at n (reading past).entries)) own_is ∙ ap has_opened before))) tt
before_so past more own entry (Some e) silent before at basic = by (is_set e.setup) refl
  where
    own_is : e.channel.own ≡ own
    own_is = read-own own (reading past).entries e before

    here : read_at e.channel.own (reading past).entries ≡ Some e
    here = ap (λ n. read_at n (reading past).entries) own_is ∙ before

    there : read_at e.channel.own (reading (past ++ more ∷ [])).entries ≡ Some entry
    there = ap (λ n. read_at n (reading (past ++ more ∷ [])).entries) own_is ∙ at

    same : entry.channel ≡ e.channel
    same = subst (IsOf e.channel) (ap (λ (r : Reading). read_at own r.entries) (sym (reading_more past more)) ∙ at) (said-of e.channel own (more ∷ []) (reading past) (subst (IsOf e.channel) (sym before) refl))

    by : (opened : Bool) → is_set e.setup ≡ opened → AllSent (stretch entry.channel past)
    by false shut = subst (λ c. AllSent (stretch c past)) (sym same) (subst AllSent (sym (unopened-stretch e.channel past (ap has_opened here ∙ shut))) tt)
    by true opened =
        let stands = mode-stands e.channel past more (ap has_opened here ∙ opened) in
        let mode : agreed_mode e.setup ≡ Basic = sym (ap entry_mode here) ∙ (sym stands.0 ∙ (ap entry_mode there ∙ basic)) in
        subst (λ c. AllSent (stretch c past)) (sym same) (silent own e before mode)

none_more : (past : List Saying) (more : Saying) → ((channel : Channel) → carried is_heard channel past more ≡ []) → Silent past → Silent (past ++ more ∷ [])
none_more past more none silent own entry at basic =
    subst AllSent (sym (stretch-grows entry.channel past more ∙ (ap (λ cs. stretch entry.channel past ++ cs) (none entry.channel) ∙ append-nil (stretch entry.channel past))))
    (before_so past more own entry (read_at own (reading past).entries) silent refl at basic)

bare_one : (past : List Saying) (more : Saying) → is_carried more ≡ false → Silent past → Silent (past ++ more ∷ [])
bare_one past (Said flow answer) bare silent = none_more past (Said flow answer) (λ channel. refl) silent
bare_one past (Carried flow pdu) bare silent = cc
bare_one past (GaveUp forgone) bare silent = none_more past (GaveUp forgone) (λ channel. refl) silent

nothing_more : (past : List Saying) → Silent past → Silent (past ++ [])
nothing_more past silent = subst Silent (sym (append-nil past)) silent

bare_more : (past said : List Saying) → IsBare said → Silent past → Silent (past ++ said)
bare_more past [] bare silent = nothing_more past silent
bare_more past (more ∷ said) bare silent =
    let parts = both-false (is_carried more) (list_any is_carried said) bare in
    subst Silent (append_assoc past (more ∷ []) said) (bare_more (past ++ more ∷ []) said parts.1 (bare_one past more parts.0 silent))

-- ---- a PDU is carried

-- what it adds to each channel of basic mode
carried_more : (past : List Saying) (flow : Flow) (pdu : List ℕ)
    → ((own : ℕ) (entry : Entry) → read_at own (reading past).entries ≡ Some entry → agreed_mode entry.setup ≡ Basic → AllSent (carried is_heard entry.channel past (Carried flow pdu)))
    → Silent past → Silent (past ++ Carried flow pdu ∷ [])
carried_more past flow pdu adds silent own entry at basic =
    let same : reading (past ++ Carried flow pdu ∷ []) ≡ reading past = reading_more past (Carried flow pdu) ∙ quiet-passes (Carried flow pdu) refl (reading past) in
    let before : read_at own (reading past).entries ≡ Some entry = ap (λ (r : Reading). read_at own r.entries) (sym same) ∙ at in
    subst AllSent (sym (stretch-grows entry.channel past (Carried flow pdu)))
    (all_append (stretch entry.channel past) (carried is_heard entry.channel past (Carried flow pdu)) (silent own entry before basic) (adds own entry before basic))

one_more : (past : List Saying) (flow : Flow) (pdu : List ℕ) → (let one : Carriage = record { flow = flow; pdu = pdu } in IsSent one) → Silent past → Silent (past ++ Carried flow pdu ∷ [])
one_more past flow pdu sent silent = carried_more past flow pdu (λ own entry at basic. by (is_on entry.channel (taker is_heard flow pdu (reading past).entries))) silent
  where
    one : Carriage
    one = record { flow = flow; pdu = pdu }

    by : (on : Bool) → AllSent (cond on (one ∷ []) [])
    by true = (sent, tt)
    by false = tt

-- ---- an SDU is sent

sends_more : (past : List Saying) (carrier : Option Carrier) (peer : ℕ) (sdu : List ℕ) → transaction_of (pdu_in sdu) ≡ None → Silent past → Silent (past ++ said_by_carrier carrier peer sdu)
sends_more past None peer sdu none silent = nothing_more past silent
sends_more past (Some (Plain agreed (Some waiting))) peer sdu none silent = nothing_more past silent
sends_more past (Some (Plain agreed None)) peer sdu none silent = one_more past Out (headed peer sdu) (λ is. none) silent
sends_more past (Some (Retransmitting machine)) peer sdu none silent = nothing_more past silent

-- ---- a frame is given

stated_if : (wish : Wish) (own : Own) → is_some (asked_mode wish own) ≡ true → is_stated own ≡ true
stated_if wish Unasked is = is
stated_if wish (Asking request options) is = refl
stated_if wish Granted is = refl

-- its channel is none of basic mode
frame_more : (policy : Policy) (past : List Saying) (v : Channels) (held : Held) (setup : Setup) (machine : Ertm) (pdu : List ℕ) (r : IsRead policy past held.own held setup) → setup.carrier ≡ Some (Retransmitting machine) → channel_of pdu ≡ r.peer → Sound policy (reading past) v
    → Silent past → Silent (past ++ Carried Out pdu ∷ [])
frame_more policy past v held setup machine pdu r is to sound silent =
    carried_more past Out pdu (λ own entry at basic. subst AllSent (sym (carried-none is_heard entry.channel past Out pdu (over own entry at basic))) tt) silent
  where
    apart : (own : ℕ) (entry : Entry) → read_at own (reading past).entries ≡ Some entry → agreed_mode entry.setup ≡ Basic → (b : Bool) → takes is_heard Out (channel_of pdu) entry ≡ b → b ≡ false
    apart own entry at basic false now = refl
    apart own entry at basic true now =
        let held_so : is_held entry ≡ true = and-left (is_held entry) (eqb entry.channel.peer (channel_of pdu)) now in
        let there : is_there entry.life ≡ true = and-right (is_set entry.setup) (is_there entry.life) held_so in
        let peer_so : entry.channel.peer ≡ r.peer = eqb-true entry.channel.peer (channel_of pdu) (and-right (is_held entry) (eqb entry.channel.peer (channel_of pdu)) now) ∙ to in
        let own_so : own ≡ held.own = sound.core.apart own held.own entry r.entry at r.found there r.there (peer_so ∙ sym r.here) in
        let found : Some entry ≡ Some r.entry = sym at ∙ (ap (λ n. read_at n (reading past).entries) own_so ∙ r.found) in
        let same : entry ≡ r.entry = cc in
        let asked : is_some r.entry.setup.asked ≡ true = and-left (is_some r.entry.setup.asked) (is_some r.entry.setup.accepted) (ap (λ (e : Entry). is_set e.setup) (sym same) ∙ and-left (is_set entry.setup) (is_there entry.life) held_so) in
        let stated : is_stated setup.own ≡ true = stated_if (policy.wish held.psm) setup.own (sym (ap is_some r.agrees.set_up.asked_is) ∙ asked) in
        let enhanced : agreed_mode r.entry.setup ≡ Enhanced = mode-by (policy.wish held.psm) setup r.entry.setup (Retransmitting machine) r.agrees is stated in
        let never : Basic ≡ Enhanced = sym basic ∙ (ap (λ (e : Entry). agreed_mode e.setup) same ∙ enhanced) in cc

    over : (own : ℕ) (entry : Entry) → read_at own (reading past).entries ≡ Some entry → agreed_mode entry.setup ≡ Basic → goes_over is_heard Out pdu (find (is_of entry.channel) (reading past).entries) ≡ false
    over own entry at basic =
        let own_is : entry.channel.own ≡ own = read-own own (reading past).entries entry at in
        ap (goes_over is_heard Out pdu) (ap (λ n. read_at n (reading past).entries) own_is ∙ at) ∙ apart own entry at basic (takes is_heard Out (channel_of pdu) entry) refl

carrier_more : (policy : Policy) (past : List Saying) (v : Channels) (held : Held) (setup : Setup) (carrier : Option Carrier) (pdu : List ℕ) (r : IsRead policy past held.own held setup) → setup.carrier ≡ carrier → IsSpelled (some_carrier_gives carrier r.peer) pdu → Sound policy (reading past) v
    → Silent past → Silent (past ++ said_as (some_carrier_gives carrier r.peer) pdu)
carrier_more policy past v held setup None pdu r is spelled sound silent = nothing_more past silent
carrier_more policy past v held setup (Some (Plain agreed None)) pdu r is spelled sound silent = nothing_more past silent
carrier_more policy past v held setup (Some (Plain agreed (Some sdu))) pdu r is spelled sound silent = nothing_more past silent
carrier_more policy past v held setup (Some (Retransmitting machine)) pdu r is spelled sound silent = by (next_frame machine) spelled
  where
    by : (frame : Option PlainFrame) → IsSpelled (option_map (Framed r.peer) frame) pdu → Silent (past ++ said_as (option_map (Framed r.peer) frame) pdu)
    by None spelled = nothing_more past silent
    by (Some frame) (spells, octets) = frame_more policy past v held setup machine pdu r is (spelled-frame r.peer frame pdu spells octets).1 sound silent

setup_more : (policy : Policy) (past : List Saying) (v : Channels) (held : Held) (setup : Option Setup) (pdu : List ℕ) → find (λ h. eqb h.own held.own) v.held ≡ Some held → setup_of held.stage ≡ setup → IsSpelled (stage_gives held.stage) pdu → Sound policy (reading past) v
    → Silent past → Silent (past ++ said_as (stage_gives held.stage) pdu)
setup_more policy past v held None pdu found has spelled sound silent = subst (λ g. Silent (past ++ said_as g pdu)) (sym (gives-none held.stage has)) (nothing_more past silent)
setup_more policy past v held (Some setup) pdu found has spelled sound silent =
    let r : IsRead policy past held.own held setup = is-read policy past v held.own held setup found has sound in
    let same : stage_gives held.stage ≡ some_carrier_gives setup.carrier r.peer = gives-by held.stage setup r.peer has r.peer_is in
    subst (λ g. Silent (past ++ said_as g pdu)) (sym same) (carrier_more policy past v held setup setup.carrier pdu r refl (subst (λ g. IsSpelled g pdu) same spelled) sound silent)

held_more : (policy : Policy) (past : List Saying) (v : Channels) (held : Option Held) (pdu : List ℕ) → find gives v.held ≡ held → IsSpelled (held_gives held) pdu → Sound policy (reading past) v → Silent past → Silent (past ++ said_as (held_gives held) pdu)
held_more policy past v None pdu found spelled sound silent = nothing_more past silent
held_more policy past v (Some held) pdu found spelled sound silent = setup_more policy past v held (setup_of held.stage) pdu (found-distinct own_of gives v.held held sound.core.lone found) refl spelled sound silent

gives_more : (policy : Policy) (past : List Saying) (v : Channels) (queue : List Queued) (pdu : List ℕ) → IsSpelled (queue_gives queue v) pdu → Sound policy (reading past) v → Silent past → Silent (past ++ said_as (queue_gives queue v) pdu)
gives_more policy past v [] pdu spelled sound silent = held_more policy past v (find gives v.held) pdu refl spelled sound silent
gives_more policy past v (Answer command ∷ behind) pdu spelled sound silent = nothing_more past silent
gives_more policy past v (Ask errand ∷ behind) pdu spelled sound silent = by (command_of errand v)
  where
    by : (found : Option Command) → Silent (past ++ said_as (option_map Signal found) pdu)
    by None = nothing_more past silent
    by (Some command) = nothing_more past silent

-- ---- whatever happens

comes_more : (policy : Policy) (past : List Saying) (v : Channels) (pdu : List ℕ) (signals : Bool) → Silent past → Silent (past ++ cond signals (said_with_all policy (answers (drop 4 pdu)) v) (Carried Into pdu ∷ asked_between v (carrying.takes (channel_of pdu) pdu v)))
comes_more policy past v pdu true silent = bare_more past (said_with_all policy (answers (drop 4 pdu)) v) (bare-with_all policy (answers (drop 4 pdu)) v) silent
comes_more policy past v pdu false silent =
    let w : Channels = carrying.takes (channel_of pdu) pdu v in
    subst Silent (append_assoc past (Carried Into pdu ∷ []) (asked_between v w)) (bare_more (past ++ Carried Into pdu ∷ []) (asked_between v w) (bare-asked v w) (one_more past Into pdu (λ is. cc) silent))

occurs_more : (policy : Policy) (past : List Saying) (v : Channels) (more : Occurrence) → IsUttered more v → AsksNoServices more → Sound policy (reading past) v → Silent past → Silent (past ++ said_in policy more v)
occurs_more policy past v (Comes pdu) uttered none sound silent = comes_more policy past v pdu (eqb (channel_of pdu) 0x0001) silent
occurs_more policy past v (Connects psm) uttered none sound silent = bare_more past (asked_between v (connected psm v)) (bare-asked v (connected psm v)) silent
occurs_more policy past v AsksFeatures uttered none sound silent = bare_more past (asked_between v (asks_features v)) (bare-asked v (asks_features v)) silent
occurs_more policy past v (Disconnects own) uttered none sound silent =
    let w : Channels = disconnected own v in bare_more past (asked_between v w ++ given_up own v w) (bare-left own v w) silent
occurs_more policy past v (Sends own sdu) uttered none sound silent = sends_more past (carrier_at own v) (peer_at (held_at own v)) sdu none silent
occurs_more policy past v (Gives pdu) uttered none sound silent = gives_more policy past v v.queue pdu uttered sound silent
occurs_more policy past v Fires uttered none sound silent =
    let owns : List ℕ = map (λ held. held.own) v.held in bare_more past (said_by_channels policy.tries owns v) (bare-fired policy.tries owns v) silent
occurs_more policy past v Tells uttered none sound silent = nothing_more past silent

later_more : (policy : Policy) (past later : List Occurrence) → EachAfter (λ front more. IsUttered more (run_of policy front).value) past later → AllByRecursion AsksNoServices later
    → Sound policy (reading (run_of policy past).said) (run_of policy past).value → Silent (run_of policy past).said → Silent (run_of policy (past ++ later)).said
later_more policy past [] uttered none sound silent = subst (λ list. Silent (run_of policy list).said) (sym (append-nil past)) silent
later_more policy past (more ∷ later) (now, uttered) (asks, none) sound silent =
    let run : Run = run_of policy past in
    let further : run_of policy (past ++ more ∷ []) ≡ run_on policy run more = fold-append (run_on policy) new_link past (more ∷ []) in
    subst (λ list. Silent (run_of policy list).said) (append_assoc past (more ∷ []) later)
    (later_more policy (past ++ more ∷ []) later uttered none (subst (λ (x : Run). Sound policy (reading x.said) x.value) (sym further) (run-more policy run more sound))
    (subst (λ (x : Run). Silent x.said) (sym further) (occurs_more policy run.said run.value more now asks sound silent)))

run_silent : (policy : Policy) (list : List Occurrence) → AreUttered policy list → AllByRecursion AsksNoServices list → Silent (run_of policy list).said
run_silent policy list uttered none = later_more policy [] list uttered none (all-sound policy []) (λ own entry at basic. tt)

-- ---- what is spoken there

flow_same : (flow : Flow) → same_flow flow flow ≡ true
flow_same Out = refl
flow_same Into = refl

-- in basic mode a PDU brings its SDU
brings_one : (party : Party) (past : List Carriage) (one : Carriage) → gained (sdus_of party Basic one.flow) past one ≡ drop 4 one.pdu ∷ []
brings_one party past one =
    let before : List (List ℕ) = sdus_of party Basic one.flow past in
    let last : pdus_of one.flow (one ∷ []) ≡ one.pdu ∷ [] = ap (λ b. filter_map (λ (x : Option (List ℕ)). x) (cond b (Some one.pdu) None ∷ [])) (flow_same one.flow) in
    ap (drop (length before))
    (ap (map (drop 4)) (filter_map-append (one_way one.flow) past (one ∷ []) ∙ ap (λ ps. pdus_of one.flow past ++ ps) last) ∙ map-append (drop 4) (pdus_of one.flow past) (one.pdu ∷ []))
    ∙ drop-append_seam before (drop 4 one.pdu ∷ [])

waits_none : (flow : Flow) (octets : List ℕ) → (flow ≡ Out → transaction_of (pdu_in octets) ≡ None) → waiting_after None (spoken_as flow octets) ≡ None
waits_none Out octets none = ap (asked_by None) (none refl)
waits_none Into octets none = refl

none_waits : (party : Party) (past rest : List Carriage) → AllSent rest → fold waiting_after None (each_after (spoken_with party Basic) past rest) ≡ None
none_waits party past [] all = refl
none_waits party past (one ∷ rest) (now, all) =
    let later : List Spoken = each_after (spoken_with party Basic) (past ++ one ∷ []) rest in
    ap (λ (sdus : List (List ℕ)). fold waiting_after None (map (spoken_as one.flow) sdus ++ later)) (brings_one party past one)
    ∙ (ap (λ w. fold waiting_after w later) (waits_none one.flow (drop 4 one.pdu) now) ∙ none_waits party (past ++ one ∷ []) rest all)

-- ---- nothing waits but what the channels know

basic_mode : (asked accepted : Option Mode) → is_enhanced asked ≡ false → cond (is_enhanced asked && is_enhanced accepted) Enhanced Basic ≡ Basic
basic_mode asked accepted is = ap (λ t. cond (t && is_enhanced accepted) Enhanced Basic) is

asked_basic : (wish : Wish) (own : Own) → wish.mode ≡ Basic → is_enhanced (asked_mode wish own) ≡ false
asked_basic wish Unasked basic = refl
asked_basic wish (Asking request options) basic = ap (λ m. is_enhanced (Some m)) basic
asked_basic wish Granted basic = ap (λ m. is_enhanced (Some m)) basic

entry_armed : (policy : Policy) (party : Party) (list : List Occurrence) (own : ℕ) (entry : Entry) → (policy.wish 0x0001).mode ≡ Basic → Silent (run_of policy list).said → Sound policy (reading (run_of policy list).said) (run_of policy list).value
    → read_at own (reading (run_of policy list).said).entries ≡ Some entry → asks_services party (run_of policy list).said entry ≡ true → armed (run_of policy list).value ≡ true
entry_armed policy party list own entry basic silent sound found asks = on (held_at own run.value) refl (subst (Reads policy (held_at own run.value)) found (sound.core.reads own))
  where
    run : Run
    run = run_of policy list

    parts : (is_there entry.life ≡ true) × (query_waits party run.said entry.channel ≡ true)
    parts = both-true (is_there entry.life) (query_waits party run.said entry.channel) asks

    psm_is : entry.channel.psm ≡ 0x0001
    psm_is = eqb-true entry.channel.psm 0x0001 (and-left (eqb entry.channel.psm 0x0001) (is_some (fold waiting_after None (spoken party entry.channel run.said))) parts.1)

    mode_is : mode_of entry.channel run.said ≡ agreed_mode entry.setup
    mode_is = ap (λ n. entry_mode (read_at n (reading run.said).entries)) (read-own own (reading run.said).entries entry found) ∙ ap entry_mode found

    connected_so : (held : Held) (peer : ℕ) (setup : Setup) → held.psm ≡ entry.channel.psm → Agrees (policy.wish held.psm) setup entry.setup → ⊥
    connected_so held peer setup psm agrees =
        let wishes : (policy.wish held.psm).mode ≡ Basic = ap (λ n. (policy.wish n).mode) (psm ∙ psm_is) ∙ basic in
        let agreed : agreed_mode entry.setup ≡ Basic = basic_mode entry.setup.asked entry.setup.accepted (ap is_enhanced agrees.set_up.asked_is ∙ asked_basic (policy.wish held.psm) setup.own wishes) in
        let none : fold waiting_after None (spoken party entry.channel run.said) ≡ None =
        ap (λ m. fold waiting_after None (given_by (spoken_with party m) (stretch entry.channel run.said))) (mode_is ∙ agreed) ∙ none_waits party [] (stretch entry.channel run.said) (silent own entry found agreed) in
        let never : true ≡ false = sym (and-right (eqb entry.channel.psm 0x0001) (is_some (fold waiting_after None (spoken party entry.channel run.said))) parts.1) ∙ ap (λ (w : Option ℕ). is_some w) none in cc

    stage_so : (held : Held) (stage : Stage) → held_at own run.value ≡ Some held → held.stage ≡ stage → ReadsBy policy held (peer_of stage) (Some entry) → armed run.value ≡ true
    stage_so held (Requested request) at is reads = armed-at run.value own (Some held) at is_armed (λ s so. so) (ap is_armed is)
    stage_so held (Connected peer setup) at is (there, agrees) = absurd (connected_so held peer setup (sym (ap (λ (c : Channel). c.psm) there.channel_is)) (subst (λ s. AgreesIf (policy.wish held.psm) (standing s) entry.setup) is agrees))
    stage_so held (Leaving peer setup request) at is reads = armed-at run.value own (Some held) at is_armed (λ s so. so) (ap is_armed is)
    stage_so held (Closing peer request checked) at is reads = armed-at run.value own (Some held) at is_armed (λ s so. so) (ap is_armed is)
    stage_so held (Crossed peer request) at is reads = armed-at run.value own (Some held) at is_armed (λ s so. so) (ap is_armed is)

    on : (held : Option Held) → held_at own run.value ≡ held → Reads policy held (Some entry) → armed run.value ≡ true
    on None at over = let never : false ≡ true = sym (ap is_there over) ∙ parts.0 in cc
    on (Some held) at reads = stage_so held held.stage at refl reads

pub channels-alone_wait : ChannelsAloneWait
channels-alone_wait policy party list states uttered basic none =
    by (armed run.value) (services_wait party run.said) refl refl ∙ sym (armed-is_what_waits policy party list states uttered)
  where
    run : Run
    run = run_of policy list

    sound : Sound policy (reading run.said) run.value
    sound = all-sound policy list

    by : (some services : Bool) → armed run.value ≡ some → services_wait party run.said ≡ services → armed run.value ≡ (armed run.value || services_wait party run.said)
    by true services is waits_so = is ∙ sym (ap (λ b. b || services_wait party run.said) is)
    by false false is waits_so = is ∙ sym (ap (λ b. b || services_wait party run.said) is ∙ waits_so)
    by false true is waits_so =
        let (own, entry, found, asks) = any-found (asks_services party run.said) (reading run.said).entries sound.core.distinct waits_so in
        let never : false ≡ true = sym is ∙ entry_armed policy party list own entry basic (run_silent policy list uttered none) sound found asks in cc
