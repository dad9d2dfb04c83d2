-- What always holds between the channels of a host and the reading of its own talk.
use Rattle.std.proofs.Common.{◌≡◌, ℕ, ◌<◌, ◌≤◌, ◌%◌, List, [], ◌∷◌, Bool, true, false, ◌&&◌, eqb, not, Option, Some, None, Ok, refl, sym, ap, subst, ◌∙◌}
use Rattle.std.specs.Prelude.{find, filter, is_some, option_map}
use Rattle.std.specs.Option.{option_or}
use Rattle.std.specs.List.{list_any}
use Rattle.std.proofs.lemmas.Bool.{eqb-true}
use Rattle.talk_laws.specs.capture.specs.declared.flow.Flow.TheVariants.{Out, Into}
use Rattle.talk_laws.specs.l2cap_signal.specs.Commands.{Content, reject, connection_request, connection_response, configuration_request, configuration_response, disconnection_request, disconnection_response, echo_request, echo_response, information_request, information_response}
use Rattle.talk_laws.specs.l2cap_config.specs.declared.options.ModeOption.{ModeOption}
use Rattle.talk_laws.specs.l2cap_config.specs.declared.options.Options.{Options}
use Rattle.talk_laws.specs.l2cap_config.specs.declared.wish.Mode.{Mode}
use Rattle.talk_laws.specs.l2cap_config.specs.declared.wish.Mode.TheVariants.{Basic, Enhanced}
use Rattle.talk_laws.specs.l2cap_config.specs.declared.wish.Wish.{Wish}
use Rattle.talk_laws.specs.l2cap_config.specs.Reading.{options_read}
use Rattle.talk_laws.specs.l2cap_config.specs.Agreement.{requested}
use Rattle.talk_laws.specs.link_talk.specs.declared.call.Wanted.{Wanted}
use Rattle.talk_laws.specs.link_talk.specs.declared.call.Call.{Call}
use Rattle.talk_laws.specs.link_talk.specs.Senses.{Quiet, sense_of}
use Rattle.talk_laws.specs.link_talk.specs.Requests.{Requests, Query, Terms, went, is_own_call, answered_call, answered_query, has_failed}
use Rattle.talk_laws.specs.link_talk.specs.Meanings.{Meaning, Part}
use Rattle.talk_laws.specs.link_talk.specs.Setups as read
use Rattle.talk_laws.specs.link_talk.specs.Setups.{is_enhanced}
use Rattle.talk_laws.specs.link_talk.specs.declared.life.Life.TheVariants.{Over}
use Rattle.talk_laws.specs.link_talk.specs.Channels.{word, is_there, Entry, entry_after, made_by, entries_after, Reading}
use Rattle.channel_model.specs.Value.{Own, Unasked, Asking, Granted, Carrier, Plain, Retransmitting, Setup, Stage, Requested, Connected, Leaving, Closing, Crossed, Held, Remembered, Memory, Channels, Request}
use Rattle.channel_model.specs.Policies.{Policy}
use Rattle.channel_model.specs.Changing.{has_own, has_fcs_by, is_stated, is_retransmitting, setup_of}
use Rattle.own_channel_laws.specs.Views.{peer_of, asked_mode, carrier_mode, IsSetUp, Standing, Unread, Agreeing, Shut, standing, is_checked_by, IsSetUpIf, IsThere, IsRead, IsReadBy, read_at}
use Rattle.channel_model.proofs.Lookups.{own_of, Distinct, and_off}
use Rattle.own_channel_laws.proofs.Entries.{own_read, read-after, there-before}

-- ---- one channel

-- the parts so far state the same mode
pub record PartsAre (mode : Option ModeOption) (parts : List ℕ) : Type 0 where
  pub stated : Options
  pub read_is : options_read parts ≡ Ok stated
  pub mode_is : stated.mode ≡ mode

-- what a request of the host states of the mode that it wishes
abbrev pub states_mode : Mode → Option Mode
states_mode Basic = None
states_mode Enhanced = Some Enhanced

-- options that a host asks for: its wish, or what its peer suggests within that
abbrev pub IsRequested : Wish → Options → Type 0
IsRequested wish options = (suggested : Options) × (options ≡ requested wish suggested)

abbrev pub OwnStates : Wish → Own → Type 0
OwnStates wish Unasked = Unit {0}
OwnStates wish (Asking request options) = IsRequested wish options
OwnStates wish Granted = Unit {0}

abbrev pub CarrierIs : Wish → Option Carrier → Type 0
CarrierIs wish None = Unit {0}
CarrierIs wish (Some carrier) = carrier_mode carrier ≡ wish.mode

pub record Agrees (wish : Wish) (setup : Setup) (said : read.Setup) : Type 0 where
  pub set_up : IsSetUp wish setup said
  pub states : OwnStates wish setup.own
  pub carrier_is : CarrierIs wish setup.carrier
  pub parts_are : read.is_set said ≡ false → PartsAre setup.parts.mode said.parts

abbrev pub AgreesIf : Wish → Standing → read.Setup → Type 0
AgreesIf wish Unread said = Unit {0}
AgreesIf wish (Agreeing setup) said = Agrees wish setup said
AgreesIf wish (Shut checked) said = is_checked_by said ≡ checked

pub standing-is : (stage : Stage) (setup : Setup) → setup_of stage ≡ Some setup → standing stage ≡ Agreeing setup
standing-is (Requested request) setup is = cc
standing-is (Connected peer s) setup is = cc
standing-is (Leaving peer s request) setup is = cc
standing-is (Closing peer request checked) setup is = cc
standing-is (Crossed peer request) setup is = cc

-- ---- check words

mode_checks : (carrier : Carrier) → is_enhanced (Some (carrier_mode carrier)) ≡ is_retransmitting (Some carrier)
mode_checks (Plain agreed waiting) = refl
mode_checks (Retransmitting machine) = refl

stated_checks : (wish : Wish) (carrier : Carrier) (own : Own) → carrier_mode carrier ≡ wish.mode → is_enhanced (asked_mode wish own) ≡ (is_stated own && is_retransmitting (Some carrier))
stated_checks wish carrier Unasked is = refl
stated_checks wish carrier (Asking request options) is = ap (λ m. is_enhanced (Some m)) (sym is) ∙ mode_checks carrier
stated_checks wish carrier Granted is = ap (λ m. is_enhanced (Some m)) (sym is) ∙ mode_checks carrier

modes_check : (wish : Wish) (own : Own) (carrier : Option Carrier) → CarrierIs wish carrier → (is_some (option_map carrier_mode carrier) && is_enhanced (asked_mode wish own)) ≡ (is_stated own && is_retransmitting carrier)
modes_check wish own None is = sym (and_off (is_stated own))
modes_check wish own (Some carrier) is = stated_checks wish carrier own is

-- where both agree on the options they agree on check words
pub checks-agree : (wish : Wish) (setup : Setup) (said : read.Setup) → Agrees wish setup said → is_checked_by said ≡ has_fcs_by setup
checks-agree wish setup said agrees =
    ap (λ (m : Option Mode). is_some m && is_enhanced said.asked) agrees.set_up.accepted_is
    ∙ (ap (λ m. is_some (option_map carrier_mode setup.carrier) && is_enhanced m) agrees.set_up.asked_is ∙ modes_check wish setup.own setup.carrier agrees.carrier_is)

-- ---- one channel of the talk

abbrev pub ReadsBy : Policy → Held → (peer : Option ℕ) → Option Entry → Type 0
ReadsBy policy held None None = Unit {0}
ReadsBy policy held None (Some entry) = ⊥
ReadsBy policy held (Some peer) None = ⊥
ReadsBy policy held (Some peer) (Some entry) = IsThere held peer entry × AgreesIf (policy.wish held.psm) (standing held.stage) entry.setup

-- as it is read in the law, and the parts so far of a request in parts
abbrev pub Reads : Policy → Option Held → Option Entry → Type 0
Reads policy None None = Unit {0}
Reads policy None (Some entry) = entry.life ≡ Over
Reads policy (Some held) found = ReadsBy policy held (peer_of held.stage) found

weaker_setup : (wish : Wish) (now : Standing) (said : read.Setup) → AgreesIf wish now said → IsSetUpIf wish now said
weaker_setup wish Unread said agrees = tt
weaker_setup wish (Agreeing setup) said agrees = agrees.set_up
weaker_setup wish (Shut checked) said agrees = agrees

weaker_by : (policy : Policy) (held : Held) (peer : Option ℕ) (found : Option Entry) → ReadsBy policy held peer found → IsReadBy policy held peer found
weaker_by policy held None None reads = tt
weaker_by policy held None (Some entry) reads = reads
weaker_by policy held (Some peer) None reads = reads
weaker_by policy held (Some peer) (Some entry) reads = (reads.0, weaker_setup (policy.wish held.psm) (standing held.stage) entry.setup reads.1)

pub is_read : (policy : Policy) (held : Option Held) (found : Option Entry) → Reads policy held found → IsRead policy held found
is_read policy None None reads = tt
is_read policy None (Some entry) reads = reads
is_read policy (Some held) found reads = weaker_by policy held (peer_of held.stage) found reads

-- one that is only asked for is not read
unread_by : (policy : Policy) (held : Held) (found : Option Entry) → ReadsBy policy held None found → found ≡ None
unread_by policy held None reads = refl
unread_by policy held (Some entry) reads = elim reads [ ]

pub requested-unread : (policy : Policy) (held : Held) (request : Request) (found : Option Entry) → held.stage ≡ Requested request → Reads policy (Some held) found → found ≡ None
requested-unread policy held request found is reads = unread_by policy held found (subst (λ p. ReadsBy policy held p found) (ap peer_of is) reads)

-- ---- all channels

-- of channels that are there the peer gave each an endpoint of its own
abbrev pub Apart : List Entry → Type 0
Apart entries = (a b : ℕ) (x y : Entry) → read_at a entries ≡ Some x → read_at b entries ≡ Some y → is_there x.life ≡ true → is_there y.life ≡ true → x.channel.peer ≡ y.channel.peer → a ≡ b

pub record Core (policy : Policy) (entries : List Entry) (held : List Held) (next : ℕ) : Type 0 where
  pub reads : (own : ℕ) → Reads policy (find (has_own own) held) (read_at own entries)
  pub held_below : (own : ℕ) → next ≤ own → find (has_own own) held ≡ None
  pub read_below : (own : ℕ) → next ≤ own → read_at own entries ≡ None
  pub held_low : (own : ℕ) → own < 0x0040 → find (has_own own) held ≡ None
  pub read_low : (own : ℕ) → own < 0x0040 → read_at own entries ≡ None
  pub start : 0x0040 ≤ next
  pub apart : Apart entries
  pub distinct : Distinct own_read entries
  pub lone : Distinct own_of held

-- ---- what is remembered

abbrev pub BeginsWith : {X : Type 0} → (X → ℕ) → ℕ → List X → Type 0
BeginsWith key n [] = ⊥
BeginsWith key n (x ∷ xs) = key x ≡ n

abbrev pub IsSome : Option Entry → Type 0
IsSome None = ⊥
IsSome (Some entry) = Unit {0}

-- a channel that is granted is there already
abbrev pub IsKnown : List Entry → Option Content → Type 0
IsKnown entries None = Unit {0}
IsKnown entries (Some (connection_response destination source answer status)) = answer ≡ 0 → IsSome (read_at destination entries)
IsKnown entries (Some (reject reason rest)) = Unit {0}
IsKnown entries (Some (connection_request psm source)) = ⊥
IsKnown entries (Some (configuration_request destination flags options)) = ⊥
IsKnown entries (Some (configuration_response source flags answer options)) = ⊥
IsKnown entries (Some (disconnection_request destination source)) = ⊥
IsKnown entries (Some (disconnection_response destination source)) = ⊥
IsKnown entries (Some (echo_request octets)) = ⊥
IsKnown entries (Some (echo_response octets)) = ⊥
IsKnown entries (Some (information_request kind)) = ⊥
IsKnown entries (Some (information_response kind answer rest)) = ⊥

abbrev pub identifier_of : Call → ℕ
identifier_of one = one.identifier

abbrev pub CallsKept : List Call → List Entry → Option Remembered → Type 0
CallsKept calls entries None = calls ≡ []
CallsKept calls entries (Some last) = BeginsWith identifier_of last.identifier calls × IsKnown entries last.response

-- the channel has ended for its host
abbrev pub IsAway : Option Entry → Type 0
IsAway None = ⊥
IsAway (Some entry) = is_there entry.life ≡ false

abbrev pub IsEnded : List Entry → Option Content → Type 0
IsEnded entries None = Unit {0}
IsEnded entries (Some (disconnection_response destination source)) = IsAway (read_at destination entries)
IsEnded entries (Some (reject reason rest)) = Unit {0}
IsEnded entries (Some (connection_request psm source)) = ⊥
IsEnded entries (Some (connection_response destination source answer status)) = ⊥
IsEnded entries (Some (configuration_request destination flags options)) = ⊥
IsEnded entries (Some (configuration_response source flags answer options)) = ⊥
IsEnded entries (Some (disconnection_request destination source)) = ⊥
IsEnded entries (Some (echo_request octets)) = ⊥
IsEnded entries (Some (echo_response octets)) = ⊥
IsEnded entries (Some (information_request kind)) = ⊥
IsEnded entries (Some (information_response kind answer rest)) = ⊥

abbrev pub EndsKept : List Entry → Option Remembered → Type 0
EndsKept entries None = Unit {0}
EndsKept entries (Some last) = IsEnded entries last.response

-- ---- an answer to a request for options that is said again

-- a part of options that states no mode but that of all so far
pub record StatesAgain (mode : Option ModeOption) (options : List ℕ) : Type 0 where
  pub stated : Options
  pub read_is : options_read options ≡ Ok stated
  pub again : option_or stated.mode mode ≡ mode

abbrev pub IsAgain : (accepted more : Bool) → Option ModeOption → List ℕ → Type 0
IsAgain false more mode options = mode ≡ None
IsAgain true false mode options = ⊥
IsAgain true true mode options = StatesAgain mode options

-- while the channel is not set up, it changes nothing; nor does it set up one that was closed
abbrev pub RepeatsIn : Standing → read.Setup → Part → Type 0
RepeatsIn Unread said part = Unit {0}
RepeatsIn (Agreeing setup) said part = read.is_set said ≡ false → IsAgain part.accepted part.more setup.parts.mode part.options
RepeatsIn (Shut checked) said part = read.is_set said ≡ false → (part.accepted && not part.more) ≡ false

-- a refusal changes nothing where the options are not agreed on any more
pub refused-nothing : (stage : Stage) (said : read.Setup) (part : Part) → setup_of stage ≡ None → part.accepted ≡ false → RepeatsIn (standing stage) said part
refused-nothing (Requested request) said part none refused = tt
refused-nothing (Connected peer setup) said part none refused = cc
refused-nothing (Leaving peer setup request) said part none refused = cc
refused-nothing (Closing peer request checked) said part none refused = λ unset. ap (λ a. a && not part.more) refused
refused-nothing (Crossed peer request) said part none refused = tt

abbrev pub Repeats : Option Held → Option Entry → Part → Type 0
Repeats held None part = ⊥
Repeats None (Some entry) part = Unit {0}
Repeats (Some held) (Some entry) part = RepeatsIn (standing held.stage) entry.setup part

abbrev pub part_of : Terms → (peer flags answer : ℕ) → Part
part_of terms peer flags answer = record { own = terms.own; peer = peer; accepted = eqb answer 0; more = eqb (flags % 2) 1; options = terms.options }

abbrev pub RepeatsOf : List Held → List Entry → Option Terms → (peer flags answer : ℕ) → Type 0
RepeatsOf held entries None peer flags answer = Unit {0}
RepeatsOf held entries (Some terms) peer flags answer = Repeats (find (has_own terms.own) held) (read_at terms.own entries) (part_of terms peer flags answer)

abbrev pub IsRepeated : Option Terms → List Held → List Entry → Option Content → Type 0
IsRepeated terms held entries None = Unit {0}
IsRepeated terms held entries (Some (configuration_response peer flags answer options)) = RepeatsOf held entries terms peer flags answer
IsRepeated terms held entries (Some (reject reason rest)) = Unit {0}
IsRepeated terms held entries (Some (connection_request psm source)) = ⊥
IsRepeated terms held entries (Some (connection_response destination source answer status)) = ⊥
IsRepeated terms held entries (Some (configuration_request destination flags options)) = ⊥
IsRepeated terms held entries (Some (disconnection_request destination source)) = ⊥
IsRepeated terms held entries (Some (disconnection_response destination source)) = ⊥
IsRepeated terms held entries (Some (echo_request octets)) = ⊥
IsRepeated terms held entries (Some (echo_response octets)) = ⊥
IsRepeated terms held entries (Some (information_request kind)) = ⊥
IsRepeated terms held entries (Some (information_response kind answer rest)) = ⊥

abbrev pub identifier_asked : Query → ℕ
identifier_asked one = one.identifier

abbrev pub QueriesKept : Requests → List Held → List Entry → Option Remembered → Type 0
QueriesKept asked held entries None = asked.queries ≡ []
QueriesKept asked held entries (Some last) =
    BeginsWith identifier_asked last.identifier asked.queries × IsRepeated (answered_query asked last.identifier) held entries last.response

-- ---- an answer that is nothing for channels

abbrev pub IsHarmless : Option Content → Type 0
IsHarmless None = Unit {0}
IsHarmless (Some content) = (identifier : ℕ) → sense_of Out identifier content ≡ Quiet

abbrev pub HarmlessKept : Option Remembered → Type 0
HarmlessKept None = Unit {0}
HarmlessKept (Some last) = IsHarmless last.response

-- ---- what the host asked for

abbrev pub has_called : Requests → (identifier own : ℕ) → Bool
has_called asked identifier own = list_any (is_own_call identifier own) asked.calls

abbrev pub wanted_by : (psm own : ℕ) → Wanted
wanted_by psm own = record { psm = psm; source = own }

-- a request that waits is the one that a response answers, and the only one for its endpoint
abbrev pub Awaits : Requests → (psm own identifier : ℕ) → Type 0
Awaits asked psm own identifier =
    (answered_call asked Out identifier own ≡ Some (wanted_by psm own)) × (has_failed asked identifier own ≡ false) × ((other : ℕ) → has_called asked other own ≡ true → other ≡ identifier)

abbrev pub WantsAt : Requests → Held → Stage → Type 0
WantsAt asked held (Requested request) = Awaits asked held.psm held.own request.identifier
WantsAt asked held (Connected peer setup) = Unit {0}
WantsAt asked held (Leaving peer setup request) = Unit {0}
WantsAt asked held (Closing peer request checked) = Unit {0}
WantsAt asked held (Crossed peer request) = Unit {0}

abbrev pub Wants : Requests → Option Held → Type 0
Wants asked None = Unit {0}
Wants asked (Some held) = WantsAt asked held held.stage

-- any other came to a channel, or to nothing
abbrev pub IsPlaced : Option Held → Option Entry → Type 0
IsPlaced held (Some entry) = Unit {0}
IsPlaced (Some held) None = Unit {0}
IsPlaced None None = ⊥

abbrev pub Outgoing : Requests → List Held → List Entry → Type 0
Outgoing asked held entries = (identifier own : ℕ) → has_called asked identifier own ≡ true → has_failed asked identifier own ≡ false → IsPlaced (find (has_own own) held) (read_at own entries)

-- nothing was asked for the endpoints that are given later
abbrev pub Uncalled : Requests → ℕ → Type 0
Uncalled asked next = (own : ℕ) → next ≤ own → (identifier : ℕ) → (has_called asked identifier own ≡ false) × (has_failed asked identifier own ≡ false)

pub placed-held : (held : Held) (found : Option Entry) → IsPlaced (Some held) found
placed-held held None = tt
placed-held held (Some entry) = tt

pub placed-read : (held : Option Held) (entry : Entry) → IsPlaced held (Some entry)
placed-read None entry = tt
placed-read (Some held) entry = tt

-- ---- all of it

pub record Kept (asked : Requests) (entries : List Entry) (held : List Held) (memory : Memory) : Type 0 where
  pub calls : CallsKept (filter (went Into) asked.calls) entries memory.connection
  pub queries : QueriesKept asked held entries memory.configuration
  pub ends : EndsKept entries memory.disconnection
  pub echoes : HarmlessKept memory.echo
  pub informations : HarmlessKept memory.information
  pub wants : (own : ℕ) → Wants asked (find (has_own own) held)
  pub outgoing : Outgoing asked held entries

pub record Sound (policy : Policy) (read_so_far : Reading) (v : Channels) : Type 0 where
  pub core : Core policy read_so_far.entries v.held v.next
  pub kept : Kept read_so_far.requests read_so_far.entries v.held v.memory
  pub uncalled : Uncalled read_so_far.requests v.next

-- ---- one channel goes on

pub some-of_map : {X : Type 0} (f : X → X) (found : Option X) (y : X) → option_map f found ≡ Some y → (x : X) × (found ≡ Some x) × (f x ≡ y)
some-of_map f None y is = cc
some-of_map f (Some x) y is = (x, refl, cc)

-- at every endpoint, where all but one are as they were
pub at_each : (P Q : ℕ → Type 0) (here : ℕ) → ((own : ℕ) → eqb here own ≡ false → P own → Q own) → Q here → ((own : ℕ) → P own) → (own : ℕ) → Q own
at_each P Q here others now all own = by (eqb here own) refl
  where
    by : (same : Bool) → eqb here own ≡ same → Q own
    by true is = subst Q (eqb-true here own is) now
    by false is = others own is (all own)

-- what one more meaning does to what is read at an endpoint
abbrev pub moved : Meaning → ℕ → List Entry → Option Entry
moved more own entries = option_map (entry_after more) (read_at own entries)

pub apart-after : (more : Meaning) (entries : List Entry) → made_by more ≡ None → Apart entries → Apart (entries_after entries more)
apart-after more entries none apart a b x y at_a at_b there_x there_y same =
    let (x', found_x, is_x) = some-of_map (entry_after more) (read_at a entries) x (sym (read-after more entries a none) ∙ at_a) in
    let (y', found_y, is_y) = some-of_map (entry_after more) (read_at b entries) y (sym (read-after more entries b none) ∙ at_b) in
    apart a b x' y' found_x found_y
    (there-before x'.life (word x'.channel more) (ap (λ (e : Entry). is_there e.life) is_x ∙ there_x))
    (there-before y'.life (word y'.channel more) (ap (λ (e : Entry). is_there e.life) is_y ∙ there_y))
    (ap (λ (e : Entry). e.channel.peer) is_x ∙ (same ∙ sym (ap (λ (e : Entry). e.channel.peer) is_y)))
