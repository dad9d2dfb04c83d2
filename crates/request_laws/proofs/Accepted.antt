-- A channel that is open or brings an SDU is one of its host's own talk, which accepted options of it; and so it stays.
use Rattle.std.proofs.Common.{◌≡◌, ℕ, List, [], ◌∷◌, ◌++◌, fold, map, Bool, true, false, cond, eqb, Option, Some, None, is_some, refl, sym, ap, subst, ◌∙◌, append_assoc}
use Rattle.std.specs.Prelude.{option_map, option_to_list, unwrap_or}
use Rattle.std.specs.Option.{option_or}
use Rattle.std.specs.List.{AllByRecursion, list_any}
use Rattle.std.proofs.lemmas.List.Sums.{fold-append}
use Rattle.pair_laws.specs.acl_fragments.specs.Pieces.{channel_of}
use Rattle.pair_laws.specs.l2cap_config.specs.declared.wish.Mode.TheVariants.{Basic}
use Rattle.pair_laws.specs.link_talk.specs.declared.channel.Channel.{Channel}
use Rattle.pair_laws.specs.link_talk.specs.Sayings.{Saying}
use Rattle.pair_laws.specs.link_talk.specs.Senses.{sense}
use Rattle.pair_laws.specs.link_talk.specs.Meanings.{Meaning, Part, meant}
use Rattle.pair_laws.specs.link_talk.specs.Setups.{Setup as Read, Term, Wished, Answered, is_set, mode_in, with_success, with_term, setup_after, term}
use Rattle.pair_laws.specs.link_talk.specs.Channels.{Entry, fresh, is_there, entry_after, is_owner, with_fresh, made_by, entries_after, Reading, nothing_read, read_on, reading}
use Rattle.pair_laws.specs.channel_model.specs.Calls.{setup_on, carrier_if, open_carrier, carrier_mtu, peer_mtu}
use Rattle.pair_laws.specs.channel_model.specs.Carrying.{Up as Handed, Nothing, Received, sdu_with, sdu_at, up_by, up_on, up_at}
use Rattle.pair_laws.specs.channel_model.specs.Changing.{held_at, setup_of, is_open}
use Rattle.pair_laws.specs.channel_model.specs.Policies.{Policy}
use Rattle.pair_laws.specs.channel_model.specs.Value.{Carrier, Setup, Stage, Requested, Connected, Leaving, Closing, Crossed, Held}
use Rattle.pair_laws.specs.channel_model.proofs.Lookups.{find-map}
use Rattle.pair_laws.specs.channel_model.proofs.Walking.{found-own}
use Rattle.pair_laws.specs.channel_laws.specs.Runs.{Occurrence, Comes, Connects, AsksFeatures, Disconnects, Sends, Gives, Fires, Tells, said_in, Run, new_link, run_on, run_of, up_with}
use Rattle.pair_laws.specs.channel_laws.specs.Views.{Standing, Agreeing, standing, IsSetUp, IsSetUpIf, IsRead, IsReadBy, channel_by, carrier_mode, peer_of, read_at}
use Rattle.pair_laws.specs.channel_laws.proofs.Entries.{own_read, read-own, read-append}
use Rattle.pair_laws.specs.channel_laws.proofs.Running.{channels-are_read}
use Rattle.request_laws.proofs.HandedUp.{ups_from, ups_of}

-- ---- options that were accepted stay so

abbrev Has : Read → Type 0
Has setup = is_some setup.accepted ≡ true

either : (test : Bool) (one other : Read) → Has one → Has other → Has (cond test one other)
either true one other first second = first
either false one other first second = second

success_stays : (setup : Read) (part : Part) → Has setup → Has (with_success setup part)
success_stays setup part has =
    either part.more (record setup { parts = setup.parts ++ part.options }) (record setup { parts = []; accepted = Some (unwrap_or (mode_in (setup.parts ++ part.options)) Basic) }) has refl

term_stays : (setup : Read) (one : Term) → Has setup → Has (with_term setup one)
term_stays setup (Wished options) has = has
term_stays setup (Answered part) has = either part.accepted (with_success setup part) (record setup { parts = [] }) (success_stays setup part has) has

setup_stays : (setup : Read) (one : Option Term) → Has setup → Has (setup_after setup one)
setup_stays setup None has = has
setup_stays setup (Some one) has = either (is_set setup) setup (with_term setup one) has (term_stays setup one has)

-- this channel is read, with options that were accepted
abbrev pub Accepted : Channel → Option Entry → Type 0
Accepted channel None = ⊥
Accepted channel (Some entry) = (entry.channel ≡ channel) × (is_some entry.setup.accepted ≡ true)

moved : (channel : Channel) (more : Meaning) (found : Option Entry) → Accepted channel found → Accepted channel (option_map (entry_after more) found)
moved channel more None is = is
moved channel more (Some entry) (same, has) = (same, either (is_there entry.life) (setup_after entry.setup (term entry.channel more)) entry.setup (setup_stays entry.setup (term entry.channel more) has) has)

appended : (channel : Channel) (found other : Option Entry) → Accepted channel found → Accepted channel (option_or found other)
appended channel None other is = absurd is
appended channel (Some entry) other is = is

with_new : (channel new : Channel) (own : ℕ) (entries : List Entry) → Accepted channel (read_at own entries) → Accepted channel (read_at own (with_fresh entries new))
with_new channel new own entries is = by (list_any (is_owner new) entries)
  where
    by : (owned : Bool) → Accepted channel (read_at own (cond owned entries (entries ++ fresh new ∷ [])))
    by true = is
    by false = subst (Accepted channel) (sym (read-append own entries new)) (appended channel (read_at own entries) (cond (eqb new.own own) (Some (fresh new)) None) is)

all_new : (channel : Channel) (own : ℕ) (news : List Channel) (entries : List Entry) → Accepted channel (read_at own entries) → Accepted channel (read_at own (fold with_fresh entries news))
all_new channel own [] entries is = is
all_new channel own (new ∷ news) entries is = all_new channel own news (with_fresh entries new) (with_new channel new own entries is)

after_one : (channel : Channel) (own : ℕ) (entries : List Entry) (more : Meaning) → Accepted channel (read_at own entries) → Accepted channel (read_at own (entries_after entries more))
after_one channel own entries more is =
    all_new channel own (option_to_list (made_by more)) (map (entry_after more) entries)
    (subst (Accepted channel) (sym (find-map own_read (entry_after more) (λ e. refl) own entries)) (moved channel more (read_at own entries) is))

after_all : (channel : Channel) (own : ℕ) (said : List Saying) (r : Reading) → Accepted channel (read_at own r.entries) → Accepted channel (read_at own (fold read_on r said).entries)
after_all channel own [] r is = is
after_all channel own (more ∷ said) r is = after_all channel own said (read_on r more) (after_one channel own r.entries (meant r.requests (sense more)) is)

run_stays : (policy : Policy) (channel : Channel) (own : ℕ) (later : List Occurrence) (run : Run) → Accepted channel (read_at own (reading run.said).entries) → Accepted channel (read_at own (reading (fold (run_on policy) run later).said).entries)
run_stays policy channel own [] run is = is
run_stays policy channel own (more ∷ later) run is =
    run_stays policy channel own later (run_on policy run more)
    (subst (λ r. Accepted channel (read_at own r.entries)) (sym (fold-append read_on nothing_read run.said (said_in policy more run.value))) (after_all channel own (said_in policy more run.value) (reading run.said) is))

pub accepted-stays : (policy : Policy) (list later : List Occurrence) (channel : Channel) (own : ℕ) → Accepted channel (read_at own (reading (run_of policy list).said).entries) → Accepted channel (read_at own (reading (run_of policy (list ++ later)).said).entries)
accepted-stays policy list later channel own is =
    subst (λ run. Accepted channel (read_at own (reading run.said).entries)) (sym (fold-append (run_on policy) new_link list later)) (run_stays policy channel own later (run_of policy list) is)

-- ---- a channel of the talk at an own endpoint

-- it has this PSM, and options of it were accepted
abbrev pub Opened : List Saying → (psm own : ℕ) → Type 0
Opened said psm own = (peer : ℕ) × Accepted (channel_by psm own peer) (read_at own (reading said).entries)

pub opened-stays : (policy : Policy) (list later : List Occurrence) (psm own : ℕ) → Opened (run_of policy list).said psm own → Opened (run_of policy (list ++ later)).said psm own
opened-stays policy list later psm own (peer, is) = (peer, accepted-stays policy list later (channel_by psm own peer) own is)

-- ---- what is held is read

setup_peer : (stage : Stage) (setup : Setup) → setup_of stage ≡ Some setup → (peer : ℕ) × (peer_of stage ≡ Some peer) × (standing stage ≡ Agreeing setup)
setup_peer (Requested request) setup is = cc
setup_peer (Connected peer other) setup is = let same : other ≡ setup = cc in (peer, refl, ap Agreeing same)
setup_peer (Leaving peer other request) setup is = let same : other ≡ setup = cc in (peer, refl, ap Agreeing same)
setup_peer (Closing peer request checked) setup is = cc
setup_peer (Crossed peer request) setup is = cc

pub opened-held : (policy : Policy) (list : List Occurrence) (own : ℕ) (held : Held) (setup : Setup) (carrier : Carrier) → held_at own (run_of policy list).value ≡ Some held → setup_of held.stage ≡ Some setup → setup.carrier ≡ Some carrier
    → Opened (run_of policy list).said held.psm own
opened-held policy list own held setup carrier at has is = on (setup_peer held.stage setup has)
  where
    run : Run
    run = run_of policy list

    by : (peer : ℕ) (found : Option Entry) → standing held.stage ≡ Agreeing setup → read_at own (reading run.said).entries ≡ found → IsReadBy policy held (Some peer) found → Opened run.said held.psm own
    by peer None stands there read = absurd read
    by peer (Some entry) stands there read =
        let own_is : held.own ≡ own = sym (ap (λ (c : Channel). c.own) read.0.channel_is) ∙ read-own own (reading run.said).entries entry there in
        let set : IsSetUp (policy.wish held.psm) setup entry.setup = subst (λ (s : Standing). IsSetUpIf (policy.wish held.psm) s entry.setup) stands read.1 in
        (peer, subst (Accepted (channel_by held.psm own peer)) (sym there) (read.0.channel_is ∙ ap (λ n. channel_by held.psm n peer) own_is, ap is_some (set.accepted_is ∙ ap (option_map carrier_mode) is)))

    on : (peer : ℕ) × (peer_of held.stage ≡ Some peer) × (standing held.stage ≡ Agreeing setup) → Opened run.said held.psm own
    on (peer, there, stands) =
        by peer (read_at own (reading run.said).entries) stands refl
        (subst (λ (p : Option ℕ). IsReadBy policy held p (read_at own (reading run.said).entries)) there
        (subst (λ (h : Option Held). IsRead policy h (read_at own (reading run.said).entries)) at (channels-are_read policy list own)))

-- a channel that the peer takes SDUs on
pub opened-open : (policy : Policy) (list : List Occurrence) (own mtu : ℕ) → peer_mtu own (run_of policy list).value ≡ Some mtu → (psm : ℕ) × Opened (run_of policy list).said psm own
opened-open policy list own mtu is = by (held_at own (run_of policy list).value) refl is
  where
    open_by : (held : Held) (setup : Setup) → held_at own (run_of policy list).value ≡ Some held → setup_of held.stage ≡ Some setup → (opened : Bool) (carrier : Option Carrier) → setup.carrier ≡ carrier
        → option_map carrier_mtu (carrier_if opened setup) ≡ Some mtu → (psm : ℕ) × Opened (run_of policy list).said psm own
    open_by held setup at has false carrier carries is = cc
    open_by held setup at has true None carries is = let never : None ≡ Some mtu = sym (ap (option_map carrier_mtu) carries) ∙ is in absurd cc
    open_by held setup at has true (Some carrier) carries is = (held.psm, opened-held policy list own held setup carrier at has carries)

    on : (held : Held) (setup : Option Setup) → held_at own (run_of policy list).value ≡ Some held → setup_of held.stage ≡ setup → option_map carrier_mtu (open_carrier setup) ≡ Some mtu → (psm : ℕ) × Opened (run_of policy list).said psm own
    on held None at has is = cc
    on held (Some setup) at has is = open_by held setup at has (is_open setup) setup.carrier refl is

    by : (found : Option Held) → held_at own (run_of policy list).value ≡ found → option_map carrier_mtu (open_carrier (setup_on found)) ≡ Some mtu → (psm : ℕ) × Opened (run_of policy list).said psm own
    by None at is = cc
    by (Some held) at is = on held (setup_of held.stage) at refl is

-- ---- what comes up

abbrev pub OpenedUp : List Saying → Handed → Type 0
OpenedUp said Nothing = Unit {0}
OpenedUp said (Received own psm sdu) = Opened said psm own

module _ (policy : Policy) (list : List Occurrence) where
  abbrev said : List Saying
  said = (run_of policy list).said

  up_carried : (held : Held) (setup : Setup) (carrier : Option Carrier) (pdu : List ℕ) → held_at held.own (run_of policy list).value ≡ Some held → setup_of held.stage ≡ Some setup → setup.carrier ≡ carrier
      → OpenedUp said (up_by (sdu_with carrier setup.own pdu) held)
  up_carried held setup None pdu at has is = tt
  up_carried held setup (Some carrier) pdu at has is = by (sdu_with (Some carrier) setup.own pdu)
    where
      by : (octets : Option (List ℕ)) → OpenedUp said (up_by octets held)
      by None = tt
      by (Some octets) = opened-held policy list held.own held setup carrier at has is

  up_staged : (held : Held) (stage : Stage) (pdu : List ℕ) → held_at held.own (run_of policy list).value ≡ Some held → held.stage ≡ stage → OpenedUp said (up_by (sdu_at stage pdu) held)
  up_staged held (Requested request) pdu at is = tt
  up_staged held (Connected peer setup) pdu at is = up_carried held setup setup.carrier pdu at (ap setup_of is) refl
  up_staged held (Leaving peer setup request) pdu at is = tt
  up_staged held (Closing peer request checked) pdu at is = tt
  up_staged held (Crossed peer request) pdu at is = tt

  up_held : (own : ℕ) (found : Option Held) (pdu : List ℕ) → held_at own (run_of policy list).value ≡ found → OpenedUp said (up_on found pdu)
  up_held own None pdu at = tt
  up_held own (Some held) pdu at = up_staged held held.stage pdu (found-own own (run_of policy list).value held at) refl

  pub opened-up : (one : Occurrence) → OpenedUp said (up_with one (run_of policy list).value)
  opened-up (Comes pdu) = by (eqb (channel_of pdu) 0x0001)
    where
      by : (signals : Bool) → OpenedUp said (cond signals Nothing (up_at (channel_of pdu) pdu (run_of policy list).value))
      by true = tt
      by false = up_held (channel_of pdu) (held_at (channel_of pdu) (run_of policy list).value) pdu refl
  opened-up (Connects psm) = tt
  opened-up AsksFeatures = tt
  opened-up (Disconnects own) = tt
  opened-up (Sends own sdu) = tt
  opened-up (Gives pdu) = tt
  opened-up Fires = tt
  opened-up Tells = tt

pub up-stays : (policy : Policy) (list later : List Occurrence) (brought : Handed) → OpenedUp (run_of policy list).said brought → OpenedUp (run_of policy (list ++ later)).said brought
up-stays policy list later Nothing is = tt
up-stays policy list later (Received own psm sdu) is = opened-stays policy list later psm own is

run_more : (policy : Policy) (before : List Occurrence) (one : Occurrence) → run_of policy (before ++ one ∷ []) ≡ run_on policy (run_of policy before) one
run_more policy before one = fold-append (run_on policy) new_link before (one ∷ [])

ups_opened : (policy : Policy) (before list : List Occurrence) → AllByRecursion (OpenedUp (run_of policy (before ++ list)).said) (ups_from policy (run_of policy before).value list)
ups_opened policy before [] = tt
ups_opened policy before (one ∷ list) =
    let run = run_of policy before in (
      up-stays policy before (one ∷ list) (up_with one run.value) (opened-up policy before one),
      subst (λ (r : Run). AllByRecursion (OpenedUp (run_of policy (before ++ one ∷ list)).said) (ups_from policy r.value list)) (run_more policy before one)
          (subst (λ (whole : List Occurrence). AllByRecursion (OpenedUp (run_of policy whole).said) (ups_from policy (run_of policy (before ++ one ∷ [])).value list)) (append_assoc before (one ∷ []) list)
          (ups_opened policy (before ++ one ∷ []) list)),
    )

-- each SDU that came up is of a channel of the talk, whose options were accepted
pub all-opened : (policy : Policy) (list : List Occurrence) → AllByRecursion (OpenedUp (run_of policy list).said) (run_of policy list).up
all-opened policy list = subst (AllByRecursion (OpenedUp (run_of policy list).said)) (sym (ups_of policy list)) (ups_opened policy [] list)
