-- A host whose channels remain at a peer that counts one asks for the options of one channel at a time; and no two channels of a host are for one endpoint of its peer.
use Rattle.std.proofs.Common.{◌≡◌, ℕ, List, [], ◌++◌, true, Option, Some, None, refl, sym, ap, subst, ◌∙◌, ◌⊎◌, inl, inr}
use Rattle.std.specs.Prelude.{is_some, option_map}
use Rattle.std.proofs.lemmas.Bool.{eqb-true}
use Rattle.channel_laws.specs.capture.specs.declared.flow.Flow.TheVariants.{Out}
use Rattle.channel_laws.specs.l2cap_config.specs.declared.options.Options.{Options}
use Rattle.channel_laws.specs.l2cap_config.specs.declared.wish.Mode.{Mode}
use Rattle.channel_laws.specs.link_talk.specs.Channels.{Entry, reading}
use Rattle.channel_laws.specs.link_talk.specs.Sayings.{Saying}
use Rattle.channel_laws.specs.channel_model.specs.Changing.{held_at, is_peer, setup_of}
use Rattle.channel_laws.specs.channel_model.specs.Giving.{own_given}
use Rattle.channel_laws.specs.channel_model.specs.Policies.{Policy}
use Rattle.channel_laws.specs.channel_model.specs.Value.{Request, Own, Unasked, Asking, Granted, Carrier, Setup, Stage, Requested, Connected, Leaving, Closing, Crossed, Held, Channels}
use Rattle.channel_laws.specs.channel_model.proofs.Lookups.{own_of, found-has}
use Rattle.channel_laws.specs.Belonging.{said_at, HasAsked, HasGranted, Belongs}
use Rattle.channel_laws.specs.Ends.{end_at}
use Rattle.channel_laws.specs.Granted.{IsFor}
use Rattle.channel_laws.specs.Modes.{policy_of}
use Rattle.channel_laws.specs.Pairs.{Near, Far, turned, pair_of, IsRunOf}
use Rattle.channel_laws.specs.Responding.{HasPeer}
use Rattle.channel_laws.specs.Runs.{Occurrence, Run, run_of}
use Rattle.channel_laws.specs.Tries.{own_request}
use Rattle.channel_laws.specs.Views.{carrier_mode, read_at}
use Rattle.channel_laws.proofs.Belonging.{channels-belong}
use Rattle.channel_laws.proofs.Bestowing.{endpoints-are_granted_once}
use Rattle.channel_laws.proofs.Demanding.{asked_at, asked_on}
use Rattle.channel_laws.proofs.Entries.{read-own}
use Rattle.channel_laws.proofs.Holding.{IsRead, is-read}
use Rattle.channel_laws.proofs.Lasting.{asked_by}
use Rattle.channel_laws.proofs.Origins.{answered-asked}
use Rattle.channel_laws.proofs.Pairing.{each-end_runs}
use Rattle.channel_laws.proofs.Running.{all-sound}
use Rattle.channel_laws.proofs.Saying.{stands-left}
use Rattle.channel_laws.proofs.Sound.{Wants, WantsAt, wanted_by, Sound}
use Rattle.disconnection_laws.proofs.Waiting.{my-run}
use Rattle.configuration_laws.proofs.Asking.{waits-asked}
use Rattle.configuration_laws.proofs.Keeping.{IsBehind}
use Rattle.configuration_laws.proofs.Reaching.{has-it}
use Rattle.accepting_laws.specs.First.{SuggestsNone}
use Rattle.accepting_laws.proofs.Owning.{OfSetup, Stays, AllOf, setup-so, found-so}
use Rattle.accepting_laws.proofs.Walking.{Walks, walks-on}
use Rattle.lateness_laws.specs.Once.{CountsOne, PeersAreApart, RemainingAsksOnce}

-- ---- a channel whose options are asked for

-- a host asked for it
abbrev Called : (own : ℕ) → List Saying → Type 0
Called own said = (identifier : ℕ) × (psm : ℕ) × HasAsked identifier psm own said

-- where its request for options waits, options of the peer were accepted, or the host had asked for the channel
abbrev Behind : List Saying → OfSetup
Behind past psm own peer setup = (request : Request) (options : Options) → setup.own ≡ Asking request options → (is_some setup.carrier ≡ true) ⊎ Called own past

behind-stays : (policy : Policy) (past : List Saying) → Stays policy (Behind past)
behind-stays policy past = record {
  same = λ psm own peer before after same carries is request options asks. by own before after carries (is request options (sym same ∙ asks));
  made = λ psm own peer before after request none asked carries is other options asks. inl carries;
  given = λ psm own peer setup is request options asks. given psm own peer setup is request options setup.own refl asks;
  granted = λ psm own peer setup granted request options asks. let never : Granted ≡ Asking request options = sym granted ∙ asks in absurd cc;
}
  where
    by : (own : ℕ) (before after : Setup) → (is_some before.carrier ≡ true → is_some after.carrier ≡ true) → (is_some before.carrier ≡ true) ⊎ Called own past → (is_some after.carrier ≡ true) ⊎ Called own past
    by own before after carries (inl some) = inl (carries some)
    by own before after carries (inr called) = inr called

    given : (psm own peer : ℕ) (setup : Setup) → Behind past psm own peer setup → (request : Request) (options : Options) (by_own : Own) → setup.own ≡ by_own → own_given by_own ≡ Asking request options → (is_some setup.carrier ≡ true) ⊎ Called own past
    given psm own peer setup is request options Unasked at asks = cc
    given psm own peer setup is request options (Asking other wishes) at asks = is other wishes at
    given psm own peer setup is request options Granted at asks = cc

-- a channel that is only asked for was asked for
called_so : (policy : Policy) (said : List Saying) (v : Channels) (held : Held) (request : Request) → Sound policy (reading said) v → held_at held.own v ≡ Some held → held.stage ≡ Requested request → Called held.own said
called_so policy said v held request sound found is =
    let want : WantsAt (reading said).requests held held.stage = subst (Wants (reading said).requests) found (sound.kept.wants held.own) in
    let awaits = subst (WantsAt (reading said).requests held) is want in
    (request.identifier, held.psm, answered-asked said Out request.identifier held.own (wanted_by held.psm held.own) awaits.0)

behind-walks : (policy : Policy) → Walks policy (λ past. Unit {0}) Behind
behind-walks policy = record {
  further = λ past said known. tt;
  stays = behind-stays policy;
  more = more;
  new = λ past v known sound psm peer request options asks. cc;
  made = λ past v known sound held request found is peer other options asks. inr (called_so policy past v held request sound found is);
}
  where
    more : (past said : List Saying) (psm own peer : ℕ) (setup : Setup) → Behind past psm own peer setup → Behind (past ++ said) psm own peer setup
    more past said psm own peer setup is request options asks = by (is request options asks)
      where
        by : (is_some setup.carrier ≡ true) ⊎ Called own past → (is_some setup.carrier ≡ true) ⊎ Called own (past ++ said)
        by (inl some) = inl some
        by (inr (identifier, wanted, asked)) = inr (identifier, wanted, stands-left _ past said asked)

all_behind : (policy : Policy) (list : List Occurrence) → SuggestsNone (run_of policy list).said → AllOf (Behind (run_of policy list).said) (run_of policy list).value
all_behind policy list none = walks-on policy (λ past. Unit {0}) Behind (behind-walks policy) [] list tt (λ quiet. tt) none

-- ---- its options, as they are read

-- a request for its options waits
record Waits (own : ℕ) (v : Channels) : Type 0 where
  held : Held
  setup : Setup
  request : Request
  options : Options
  found : held_at own v ≡ Some held
  has : setup_of held.stage ≡ Some setup
  asks : setup.own ≡ Asking request options

waits_at : (own n : ℕ) (v : Channels) → asked_on (held_at own v) ≡ Some (Some n) → Waits own v
waits_at own n v = by (held_at own v) refl
  where
    set : (held : Held) (setup : Setup) → held_at own v ≡ Some held → setup_of held.stage ≡ Some setup → (by_own : Own) → setup.own ≡ by_own → Some (asked_by (own_request by_own)) ≡ Some (Some n) → Waits own v
    set held setup found has Unasked at asked = cc
    set held setup found has (Asking request options) at asked = record { held = held; setup = setup; request = request; options = options; found = found; has = has; asks = at }
    set held setup found has Granted at asked = cc

    staged : (held : Held) → held_at own v ≡ Some held → (stage : Stage) → held.stage ≡ stage → asked_at stage ≡ Some (Some n) → Waits own v
    staged held found (Requested request) is asked = cc
    staged held found (Connected peer setup) is asked = set held setup found (ap setup_of is) setup.own refl asked
    staged held found (Leaving peer setup request) is asked = set held setup found (ap setup_of is) setup.own refl asked
    staged held found (Closing peer request checked) is asked = cc
    staged held found (Crossed peer request) is asked = cc

    by : (held : Option Held) → held_at own v ≡ held → asked_on held ≡ Some (Some n) → Waits own v
    by None found asked = cc
    by (Some held) found asked = staged held found held.stage refl asked

some_mode : (carrier : Option Carrier) → is_some (option_map carrier_mode carrier) ≡ is_some carrier
some_mode None = refl
some_mode (Some carrier) = refl

-- of a host's run
is_behind : (policy : Policy) (run : Run) → IsRunOf policy run → SuggestsNone run.said → (own n : ℕ) → asked_on (held_at own run.value) ≡ Some (Some n) → IsBehind own run.said × ((peer : ℕ) × IsFor peer (read_at own (reading run.said).entries))
is_behind policy run (list, is) none own n asked = (by (setup-so (Behind run.said) it.held it.setup (found-so policy (Behind run.said) (behind-stays policy run.said) own run.value it.held all it.found) it.has r.peer r.peer_is it.request it.options it.asks), (r.peer, subst (IsFor r.peer) (sym r.found) r.here))
  where
    it : Waits own run.value
    it = waits_at own n run.value asked

    all : AllOf (Behind run.said) run.value
    all = subst (λ (r : Run). AllOf (Behind r.said) r.value) (sym is) (all_behind policy list (subst (λ (r : Run). SuggestsNone r.said) is none))

    r : IsRead policy run.said own it.held it.setup
    r = is-read policy run.said run.value own it.held it.setup it.found it.has (subst (λ (r : Run). Sound policy (reading r.said) r.value) (sym is) (all-sound policy list))

    own_is : r.entry.channel.own ≡ own
    own_is = read-own own (reading run.said).entries r.entry r.found

    by : (is_some it.setup.carrier ≡ true) ⊎ Called it.held.own run.said → IsBehind own run.said
    by (inl carries) = inl (
      r.entry.channel,
      own_is,
      record {
        entry = r.entry;
        found = ap (λ n. read_at n (reading run.said).entries) own_is ∙ r.found;
        channel_is = refl;
        accepted = ap (λ (m : Option Mode). is_some m) r.agrees.set_up.accepted_is ∙ (some_mode it.setup.carrier ∙ carries);
      },
    )
    by (inr called) = inr (subst (λ n. Called n run.said) (found-has own_of own run.value.held it.held it.found) called)

-- ---- both hosts

same_counts : (one other : ℕ) (u : Channels) → CountsOne u → (first second : ℕ) → HasPeer one (held_at first u) → HasPeer other (held_at second u) → one ≡ other
same_counts one other u counts first second has also = by (held_at first u) (held_at second u) refl refl has also
  where
    named : (stage : Stage) → is_peer one stage ≡ true → is_peer other stage ≡ true → one ≡ other
    named (Requested request) is also = cc
    named (Connected peer setup) is also = eqb-true one peer is ∙ sym (eqb-true other peer also)
    named (Leaving peer setup request) is also = eqb-true one peer is ∙ sym (eqb-true other peer also)
    named (Closing peer request checked) is also = eqb-true one peer is ∙ sym (eqb-true other peer also)
    named (Crossed peer request) is also = eqb-true one peer is ∙ sym (eqb-true other peer also)

    by : (held other' : Option Held) → held_at first u ≡ held → held_at second u ≡ other' → HasPeer one held → HasPeer other other' → one ≡ other
    by None other' found there is so = elim is [ ]
    by (Some held) None found there is so = elim so [ ]
    by (Some held) (Some next) found there is so =
        let same : first ≡ second = counts first second held next found there in
        let both : Some held ≡ Some next = sym found ∙ (ap (λ n. held_at n u) same ∙ there) in
        let it : held ≡ next = cc in named held.stage is (subst (λ (h : Held). is_peer other h.stage ≡ true) (sym it) so)

pub remaining-asks_once : RemainingAsksOnce
remaining-asks_once near far turns read side none counts stays own other first second one two =
    let there : (mine n : ℕ) (waits : asked_on (held_at mine v) ≡ Some (Some n)) → HasPeer mine (held_at (so mine n waits).1.0 (end_at side (turned (pair_of near far turns))).run.value) =
    λ mine n waits. has-it near far turns read side mine (λ m asked. (so mine m asked).0) (stays mine) n (so mine n waits).1.0 waits (so mine n waits).1.1 in
    same_counts own other (end_at side (turned (pair_of near far turns))).run.value counts (so own first.identifier (waits-asked own v first one)).1.0 (so other second.identifier (waits-asked other v second two)).1.0
    (there own first.identifier (waits-asked own v first one)) (there other second.identifier (waits-asked other v second two))
  where
    v : Channels
    v = (end_at side (pair_of near far turns)).run.value

    so : (mine n : ℕ) → asked_on (held_at mine v) ≡ Some (Some n) → IsBehind mine (said_at side (pair_of near far turns)) × ((peer : ℕ) × IsFor peer (read_at mine (reading (said_at side (pair_of near far turns))).entries))
    so mine n asked = is_behind (policy_of side near far) (end_at side (pair_of near far turns)).run (my-run near far turns read side) none mine n asked

-- ---- the endpoints of a peer

granted_for : (policy : Policy) (run : Run) → IsRunOf policy run → (identifier status own peer : ℕ) → HasGranted identifier status own peer run.said → IsFor peer (read_at own (reading run.said).entries)
granted_for policy run (list, is) = subst (λ (r : Run). (i s own peer : ℕ) → HasGranted i s own peer r.said → IsFor peer (read_at own (reading r.said).entries)) (sym is) (λ i s own peer granted. (endpoints-are_granted_once policy list i s own peer granted).0)

same_for : (one other : ℕ) (found : Option Entry) → IsFor one found → IsFor other found → one ≡ other
same_for one other None first second = elim first [ ]
same_for one other (Some entry) first second = sym first ∙ second

pub peers-are_apart : PeersAreApart
peers-are_apart near far turns read none apart Near own other entry also found there same = by (channels-belong near far turns read Near own entry found) (channels-belong near far turns read Near other also there)
  where
    mine : List Saying
    mine = (pair_of near far turns).near.run.said

    theirs : List Saying
    theirs = (pair_of near far turns).far.run.said

    of_peer : (identifier status peer own : ℕ) → HasGranted identifier status peer own theirs → IsFor own (read_at peer (reading theirs).entries)
    of_peer = granted_for far (pair_of near far turns).far.run (each-end_runs near far turns).1

    by : Belongs mine theirs entry.channel → Belongs mine theirs also.channel → own ≡ other
    by (i, s, inl (granted, asked)) second = absurd (none i entry.channel.psm entry.channel.peer asked)
    by (i, s, inr first) (j, t, inl (granted, asked)) = absurd (none j also.channel.psm also.channel.peer asked)
    by (i, s, inr (asked, granted)) (j, t, inr (asks, grants)) =
        sym (read-own own (reading mine).entries entry found)
        ∙ (same_for entry.channel.own also.channel.own (read_at also.channel.peer (reading theirs).entries)
        (subst (λ p. IsFor entry.channel.own (read_at p (reading theirs).entries)) same (of_peer i s entry.channel.peer entry.channel.own granted)) (of_peer j t also.channel.peer also.channel.own grants)
        ∙ read-own other (reading mine).entries also there)
peers-are_apart near far turns read none apart Far own other entry also found there same = by (channels-belong near far turns read Far own entry found) (channels-belong near far turns read Far other also there)
  where
    mine : List Saying
    mine = (pair_of near far turns).far.run.said

    theirs : List Saying
    theirs = (pair_of near far turns).near.run.said

    by : Belongs mine theirs entry.channel → Belongs mine theirs also.channel → own ≡ other
    by (i, s, inr (asked, granted)) second = absurd (none i entry.channel.psm entry.channel.own asked)
    by (i, s, inl first) (j, t, inr (asked, granted)) = absurd (none j also.channel.psm also.channel.own asked)
    by (i, s, inl (granted, asked)) (j, t, inl (grants, asks)) =
        sym (read-own own (reading mine).entries entry found)
        ∙ (apart i s entry.channel.own j t also.channel.own entry.channel.peer granted (subst (λ p. HasGranted j t also.channel.own p mine) (sym same) grants)
        ∙ read-own other (reading mine).entries also there)
