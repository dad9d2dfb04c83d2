-- The objects of a talk are those of what moved.
use Rattle.std.proofs.Common.{◌≡◌, ℕ, List, [], ◌∷◌, ◌++◌, map, fold, find, Bool, true, false, cond, ◌||◌, ◌&&◌, eqb, Option, Some, None, option_to_list, refl, sym, ap, ap₂, subst, ◌∙◌, append_assoc, append-nil}
use Rattle.std.specs.Prelude.{IfSome}
use Rattle.std.specs.List.{AllByRecursion, AllZip, list_any}
use Rattle.std.proofs.lemmas.Bool.{eqb-true, eq-eqb}
use Rattle.std.proofs.lemmas.List.Folds.{list_any-append}
use Rattle.shelf_model.specs.acl_fragments.specs.Pieces.{channel_of}
use Rattle.shelf_model.specs.bt_base.specs.Objects.{Object}
use Rattle.shelf_model.specs.capture.specs.Histories.{EachAfter}
use Rattle.shelf_model.specs.capture.specs.declared.flow.Flow.{Flow}
use Rattle.shelf_model.specs.capture.specs.declared.flow.Flow.TheVariants.{Out, Into}
use Rattle.push_laws.specs.link_talk.specs.declared.channel.Channel.{Channel}
use Rattle.push_laws.specs.link_talk.specs.declared.party.Party.{Party}
use Rattle.push_laws.specs.link_talk.specs.declared.call.Call.{Call}
use Rattle.push_laws.specs.link_talk.specs.declared.call.Failure.{Failure}
use Rattle.push_laws.specs.link_talk.specs.declared.life.Life.{Life}
use Rattle.push_laws.specs.link_talk.specs.declared.life.Life.TheVariants.{Alive, Leaving, Crossed, Over}
use Rattle.push_laws.specs.link_talk.specs.declared.word.Word.{Word}
use Rattle.push_laws.specs.link_talk.specs.declared.word.Word.TheVariants.{AsksEnd, AnswersEnd, EndAnswered, EndForgone}
use Rattle.push_laws.specs.link_talk.specs.Sayings.{Saying, Command, Carried, GaveUp, Forgone, Connection, Disconnection, Information}
use Rattle.push_laws.specs.link_talk.specs.Senses.{sense}
use Rattle.push_laws.specs.link_talk.specs.Requests.{Requests, requests_after, call, went, is_call, is_own_call}
use Rattle.push_laws.specs.link_talk.specs.Meanings.{Meaning, meant}
use Rattle.push_laws.specs.link_talk.specs.Setups.{Setup, is_set}
use Rattle.push_laws.specs.link_talk.specs.Channels.{Entry, fresh, entry_after, entries_after, life_after, is_alive, is_there, is_owner, with_fresh, made_by, Reading, reading}
use Rattle.push_laws.specs.link_talk.specs.Carriages.{Carriage, is_heard, endpoint, takes, taker, is_on, carried_by, has_own, entry_mode}
use Rattle.push_laws.specs.link_talk.specs.ObjectsHeard.{objects}
use Rattle.push_laws.specs.link_talk.proofs.OnePass.{reading-more}
use Rattle.channel_laws.specs.talk_laws.specs.Waits.{mode_held}
use Rattle.channel_laws.specs.talk_laws.specs.Spelling.{Hearing, hearing_after, hearing_with, hearing_of, objects_now}
use Rattle.channel_laws.specs.talk_laws.specs.LinkObjects.{objects_by, objects_on}
use Rattle.channel_laws.specs.talk_laws.proofs.Owning.{Alone, either_false, eqb_other, alone, found_other, found_one, owns_stay}
use Rattle.channel_laws.specs.talk_laws.proofs.Spelling.{hearing-more, hearing-anew}
use Rattle.channel_laws.specs.talk_laws.proofs.LinkObjects.{link-objects_grow}
use Rattle.host_laws.specs.OverLinks.{GoesOut}
use Rattle.host_laws.specs.Seen.{spoken_of}
use Rattle.host_laws.specs.Spoken.{AsksForNone, IsApart, GrantsAnew, ObjectsMove}

same_number : (n : ℕ) → eqb n n ≡ true
same_number n = eq-eqb n n refl

-- ---- which channel a PDU is of

-- no two have the same endpoint of the peer
abbrev has_peer : Channel → Entry → Bool
has_peer channel entry = eqb entry.channel.peer channel.peer

abbrev PeersAlone : List Entry → Type 0
PeersAlone [] = Unit {0}
PeersAlone (entry ∷ entries) = (list_any (has_peer entry.channel) entries ≡ false) × PeersAlone entries

abbrev at_end : Flow → Channel → Entry → Bool
at_end flow channel entry = eqb (endpoint flow entry.channel) (endpoint flow channel)

none_at : (flow : Flow) (channel : Channel) (entries : List Entry) → list_any (has_own channel) entries ≡ false → list_any (has_peer channel) entries ≡ false → list_any (at_end flow channel) entries ≡ false
none_at Out channel entries owns peers = peers
none_at Into channel entries owns peers = owns

each_none : (test : Entry → Bool) (entries : List Entry) → list_any test entries ≡ false → AllByRecursion (λ (entry : Entry). test entry ≡ false) entries
each_none test [] none = tt
each_none test (entry ∷ entries) none = let apart = either_false (test entry) (list_any test entries) none in (apart.0, each_none test entries apart.1)

each_with : {P Q R : Entry → Type 0} (entries : List Entry) → ((entry : Entry) → P entry → Q entry → R entry) → AllByRecursion P entries → AllByRecursion Q entries → AllByRecursion R entries
each_with [] both ps qs = tt
each_with (entry ∷ entries) both ps qs = (both entry ps.0 qs.0, each_with entries both ps.1 qs.1)

-- the channel takes the PDU that names it
abbrev TakesOwn : Flow → ℕ → List Entry → Entry → Type 0
TakesOwn flow n entries entry = is_on entry.channel (find (takes is_heard flow n) entries) ≡ takes is_heard flow n entry

first_takes : (flow : Flow) (n : ℕ) (entry : Entry) (entries : List Entry) → list_any (has_own entry.channel) entries ≡ false → TakesOwn flow n (entry ∷ entries) entry
first_takes flow n entry entries owns = by (takes is_heard flow n entry) (find (takes is_heard flow n) entries) refl
  where
    by : (here : Bool) (rest : Option Entry) → find (takes is_heard flow n) entries ≡ rest → is_on entry.channel (cond here (Some entry) rest) ≡ here
    by true rest is = same_number entry.channel.own
    by false None is = refl
    by false (Some found) is = found_other entry.channel (takes is_heard flow n) entries found owns is

and_last : (a b : Bool) → (a && b) ≡ true → b ≡ true
and_last true b is = is
and_last false b is = cc

at_number : (flow : Flow) (n : ℕ) (entry : Entry) → takes is_heard flow n entry ≡ true → endpoint flow entry.channel ≡ n
at_number flow n entry is = eqb-true (endpoint flow entry.channel) n (and_last (is_heard flow entry) (eqb (endpoint flow entry.channel) n) is)

later_takes : (flow : Flow) (n : ℕ) (entry later : Entry) (entries : List Entry) → has_own entry.channel later ≡ false → at_end flow entry.channel later ≡ false → TakesOwn flow n entries later → TakesOwn flow n (entry ∷ entries) later
later_takes flow n entry later entries own_apart end_apart rest = by (takes is_heard flow n entry) refl
  where
    other : (taken : Bool) → takes is_heard flow n later ≡ taken → takes is_heard flow n entry ≡ true → false ≡ taken
    other false is here = refl
    other true is here = sym end_apart ∙ eq-eqb (endpoint flow later.channel) (endpoint flow entry.channel) (at_number flow n later is ∙ sym (at_number flow n entry here))

    by : (here : Bool) → takes is_heard flow n entry ≡ here → is_on later.channel (cond here (Some entry) (find (takes is_heard flow n) entries)) ≡ takes is_heard flow n later
    by true is = eqb_other later.channel.own entry.channel.own own_apart ∙ other (takes is_heard flow n later) refl is
    by false is = rest

record Apart (flow : Flow) (entry later : Entry) : Type 0 where
  own_apart : has_own entry.channel later ≡ false
  end_apart : at_end flow entry.channel later ≡ false

all_take : (flow : Flow) (n : ℕ) (entries : List Entry) → Alone entries → PeersAlone entries → AllByRecursion (TakesOwn flow n entries) entries
all_take flow n [] owns peers = tt
all_take flow n (entry ∷ entries) owns peers = (
  first_takes flow n entry entries owns.0,
  each_with {P = Apart flow entry} entries (λ later apart rest. later_takes flow n entry later entries apart.own_apart apart.end_apart rest)
      (each_with {R = Apart flow entry} entries (λ later own end'. record { own_apart = own; end_apart = end' }) (each_none (has_own entry.channel) entries owns.0) (each_none (at_end flow entry.channel) entries (none_at flow entry.channel entries owns.0 peers.0)))
      (all_take flow n entries owns.1 peers.1),
)

-- it is found by its endpoint
all_found : (entries : List Entry) → Alone entries → AllByRecursion (λ (entry : Entry). find (has_own entry.channel) entries ≡ Some entry) entries
all_found [] owns = tt
all_found (entry ∷ entries) owns = (
  ap (λ b. cond b (Some entry) (find (has_own entry.channel) entries)) (same_number entry.channel.own),
  each_with entries (λ later apart found. ap (λ b. cond b (Some entry) (find (has_own later.channel) entries)) (eqb_other later.channel.own entry.channel.own apart) ∙ found)
      (each_none (has_own entry.channel) entries owns.0) (all_found entries owns.1),
)

-- ---- a channel in both talks

-- it is the same in both, with what was heard on it, or closed in both
data Same (party : Party) (said moved : List Saying) (one other : Entry) : Type 0 where
  Stays : one ≡ other → hearing_of party one.channel said ≡ hearing_of party one.channel moved → Same party said moved one other
  Ended : one.channel ≡ other.channel → is_alive one.life ≡ false → is_alive other.life ≡ false → Same party said moved one other

abbrev AllSame : Party → (said moved : List Saying) → (xs ys : List Entry) → Type 0
AllSame party said moved xs ys = AllZip (Same party said moved) xs ys

channel_same : (party : Party) (said moved : List Saying) (one other : Entry) → Same party said moved one other → one.channel ≡ other.channel
channel_same party said moved one other (Stays is hearing) = ap (λ (e : Entry). e.channel) is
channel_same party said moved one other (Ended is first second) = is

any_same : (party : Party) (said moved : List Saying) (test : Channel → Bool) (xs ys : List Entry) → AllSame party said moved xs ys → list_any (λ (e : Entry). test e.channel) xs ≡ list_any (λ (e : Entry). test e.channel) ys
any_same party said moved test [] [] all = refl
any_same party said moved test [] (y ∷ ys) all = absurd all
any_same party said moved test (x ∷ xs) [] all = absurd all
any_same party said moved test (x ∷ xs) (y ∷ ys) all = ap₂ (λ a b. a || b) (ap test (channel_same party said moved x y all.0)) (any_same party said moved test xs ys all.1)

peers_same : (party : Party) (said moved : List Saying) (xs ys : List Entry) → AllSame party said moved xs ys → PeersAlone ys → PeersAlone xs
peers_same party said moved [] [] all peers = tt
peers_same party said moved [] (y ∷ ys) all peers = tt
peers_same party said moved (x ∷ xs) [] all peers = absurd all
peers_same party said moved (x ∷ xs) (y ∷ ys) all peers = (
  any_same party said moved (λ (c : Channel). eqb c.peer x.channel.peer) xs ys all.1 ∙ (ap (λ (c : Channel). list_any (has_peer c) ys) (channel_same party said moved x y all.0) ∙ peers.0),
  peers_same party said moved xs ys all.1 peers.1,
)

-- ---- lives

stays_closed : (life : Life) (said : Option Word) → is_alive life ≡ false → is_alive (life_after life said) ≡ false
stays_closed Alive said is = cc
stays_closed Leaving None is = refl
stays_closed Leaving (Some AsksEnd) is = refl
stays_closed Leaving (Some AnswersEnd) is = refl
stays_closed Leaving (Some EndAnswered) is = refl
stays_closed Leaving (Some EndForgone) is = refl
stays_closed Crossed None is = refl
stays_closed Crossed (Some AsksEnd) is = refl
stays_closed Crossed (Some AnswersEnd) is = refl
stays_closed Crossed (Some EndAnswered) is = refl
stays_closed Crossed (Some EndForgone) is = refl
stays_closed Over None is = refl
stays_closed Over (Some AsksEnd) is = refl
stays_closed Over (Some AnswersEnd) is = refl
stays_closed Over (Some EndAnswered) is = refl
stays_closed Over (Some EndForgone) is = refl

-- where something is given up, a channel that is alive is as it was
alive_stays : (asked : Requests) (forgone : Forgone) (channel : Channel) (life : Life) (setup : Setup) → is_alive life ≡ true
    → (let entry : Entry = record { channel = channel; life = life; setup = setup } in entry_after (meant asked (sense (GaveUp forgone))) entry ≡ entry)
alive_stays asked (Connection identifier own) channel Alive setup is = refl
alive_stays asked (Disconnection own peer) channel Alive setup is = by (eqb own channel.own && eqb peer channel.peer)
  where
    by : (names : Bool) → (let entry : Entry = record { channel = channel; life = life_after Alive (cond names (Some EndForgone) None); setup = setup } in let old : Entry = record { channel = channel; life = Alive; setup = setup } in entry ≡ old)
    by true = refl
    by false = refl
alive_stays asked (Information identifier) channel Alive setup is = refl
alive_stays asked forgone channel Leaving setup is = cc
alive_stays asked forgone channel Crossed setup is = cc
alive_stays asked forgone channel Over setup is = cc

-- ---- both talks

record Alike (party : Party) (said moved : List Saying) : Type 0 where
  requests_are : (reading said).requests ≡ (reading moved).requests
  none_asked : list_any (went Out) (reading moved).requests.calls ≡ false
  entries_are : AllSame party said moved (reading said).entries (reading moved).entries
  peers : PeersAlone (reading moved).entries
  objects_are : objects party said ≡ objects party moved

-- ---- the host gives something up

none_own_call : (identifier own : ℕ) (calls : List Call) → list_any (went Out) calls ≡ false → list_any (is_own_call identifier own) calls ≡ false
none_own_call identifier own [] none = refl
none_own_call identifier own (one ∷ calls) none =
    let apart = either_false (went Out one) (list_any (went Out) calls) none in
    ap₂ (λ a b. (a && is_call identifier own one) || b) apart.0 (none_own_call identifier own calls apart.1)

forgone_requests : (asked : Requests) (forgone : Forgone) → list_any (went Out) asked.calls ≡ false → requests_after asked (sense (GaveUp forgone)) ≡ asked
forgone_requests asked (Connection identifier own) none =
    let one : Failure = record { identifier = identifier; own = own } in
    ap (λ b. let more : List Failure = cond b (one ∷ []) [] in let r : Requests = record { calls = asked.calls; queries = asked.queries; failures = more ++ asked.failures } in r) (none_own_call identifier own asked.calls none)
forgone_requests asked (Disconnection own peer) none = refl
forgone_requests asked (Information identifier) none = refl

forgone_entries : (asked : Requests) (forgone : Forgone) (entries : List Entry) → entries_after entries (meant asked (sense (GaveUp forgone))) ≡ map (entry_after (meant asked (sense (GaveUp forgone)))) entries
forgone_entries asked (Connection identifier own) entries = refl
forgone_entries asked (Disconnection own peer) entries = refl
forgone_entries asked (Information identifier) entries = refl

forgone_one : (party : Party) (said moved : List Saying) (asked : Requests) (forgone : Forgone) (one other : Entry) → Same party said moved one other → Same party (said ++ GaveUp forgone ∷ []) moved (entry_after (meant asked (sense (GaveUp forgone))) one) other
forgone_one party said moved asked forgone one other (Ended is first second) = Ended is (stays_closed one.life _ first) second
forgone_one party said moved asked forgone one other (Stays is hearing) = by (is_alive one.life) refl
  where
    by : (alive : Bool) → is_alive one.life ≡ alive → Same party (said ++ GaveUp forgone ∷ []) moved (entry_after (meant asked (sense (GaveUp forgone))) one) other
    by true alive = Stays (alive_stays asked forgone one.channel one.life one.setup alive ∙ is) (hearing-more party one.channel said (GaveUp forgone) ∙ hearing)
    by false closed = Ended (ap (λ (e : Entry). e.channel) is) (stays_closed one.life _ closed) (ap (λ (e : Entry). is_alive e.life) (sym is) ∙ closed)

forgone_all : (party : Party) (said moved : List Saying) (asked : Requests) (forgone : Forgone) (xs ys : List Entry) → AllSame party said moved xs ys → AllSame party (said ++ GaveUp forgone ∷ []) moved (map (entry_after (meant asked (sense (GaveUp forgone)))) xs) ys
forgone_all party said moved asked forgone [] [] all = tt
forgone_all party said moved asked forgone [] (y ∷ ys) all = absurd all
forgone_all party said moved asked forgone (x ∷ xs) [] all = absurd all
forgone_all party said moved asked forgone (x ∷ xs) (y ∷ ys) all = (forgone_one party said moved asked forgone x y all.0, forgone_all party said moved asked forgone xs ys all.1)

forgone_alike : (party : Party) (said moved : List Saying) (forgone : Forgone) → Alike party said moved → Alike party (said ++ GaveUp forgone ∷ []) moved
forgone_alike party said moved forgone so =
    let asked = (reading said).requests in
    let more = reading-more said (GaveUp forgone) in
    let none : list_any (went Out) asked.calls ≡ false = ap (λ (r : Requests). list_any (went Out) r.calls) so.requests_are ∙ so.none_asked in
    record {
      requests_are = ap (λ (r : Reading). r.requests) more ∙ (forgone_requests asked forgone none ∙ so.requests_are);
      none_asked = so.none_asked;
      entries_are = subst (λ (es : List Entry). AllSame party (said ++ GaveUp forgone ∷ []) moved es (reading moved).entries) (sym (ap (λ (r : Reading). r.entries) more ∙ forgone_entries asked forgone (reading said).entries))
          (forgone_all party said moved asked forgone (reading said).entries (reading moved).entries so.entries_are);
      peers = so.peers;
      objects_are = link-objects_grow party said (GaveUp forgone) ∙ (append-nil (objects party said) ∙ so.objects_are);
    }

-- ---- both have one saying more

-- what is heard on a channel that stays, where it takes what names it
abbrev CarriesOwn : List Entry → Saying → Entry → Type 0
CarriesOwn entries (Command flow answer) entry = Unit {0}
CarriesOwn entries (Carried flow pdu) entry = TakesOwn flow (channel_of pdu) entries entry
CarriesOwn entries (GaveUp forgone) entry = Unit {0}

all_carry : (entries : List Entry) (more : Saying) → Alone entries → PeersAlone entries → AllByRecursion (CarriesOwn entries more) entries
all_carry entries (Carried flow pdu) owns peers = all_take flow (channel_of pdu) entries owns peers
all_carry entries (Command flow answer) owns peers = each_with entries (λ entry one two. tt) (all_found entries owns) (all_found entries owns)
all_carry entries (GaveUp forgone) owns peers = each_with entries (λ entry one two. tt) (all_found entries owns) (all_found entries owns)

abbrev Placed : List Entry → Saying → Entry → Type 0
Placed entries more entry = (find (has_own entry.channel) entries ≡ Some entry) × CarriesOwn entries more entry

carried_same : (xs ys : List Entry) (more : Saying) (entry : Entry) → CarriesOwn xs more entry → CarriesOwn ys more entry → carried_by is_heard entry.channel xs more ≡ carried_by is_heard entry.channel ys more
carried_same xs ys (Command flow answer) entry first second = refl
carried_same xs ys (Carried flow pdu) entry first second = ap (λ b. let list : List Carriage = cond b (record { flow = flow; pdu = pdu } ∷ []) [] in list) (first ∙ sym second)
carried_same xs ys (GaveUp forgone) entry first second = refl

hears_same : (party : Party) (held other : Reading) (more : Saying) (entry : Entry) (hearing hearing' : Hearing) → Placed held.entries more entry → Placed other.entries more entry → hearing ≡ hearing'
    → hearing_with party entry.channel held hearing more ≡ hearing_with party entry.channel other hearing' more
hears_same party held other more entry hearing hearing' first second same =
    ap (λ h. hearing_after party entry.channel (mode_held entry.channel held) h (carried_by is_heard entry.channel held.entries more)) same
    ∙ (ap (λ found. hearing_after party entry.channel (entry_mode found) hearing' (carried_by is_heard entry.channel held.entries more)) (first.0 ∙ sym second.0)
    ∙ ap (hearing_after party entry.channel (mode_held entry.channel other) hearing') (carried_same held.entries other.entries more entry first.1 second.1))

module _ (party : Party) (said moved : List Saying) (more : Saying) where
  abbrev Next : (one other : Entry) → Type 0
  Next one other = Same party (said ++ more ∷ []) (moved ++ more ∷ []) one other

  next_one : (meaning : Meaning) (one other : Entry) → Placed (reading said).entries more one → Placed (reading moved).entries more other → Same party said moved one other → Next (entry_after meaning one) (entry_after meaning other)
  next_one meaning one other first second (Ended is closed also) = Ended is (stays_closed one.life _ closed) (stays_closed other.life _ also)
  next_one meaning one other first second (Stays is hearing) =
      Stays (ap (entry_after meaning) is)
      (hearing-more party one.channel said more
      ∙ (hears_same party (reading said) (reading moved) more one (hearing_of party one.channel said) (hearing_of party one.channel moved) first (subst (λ (e : Entry). Placed (reading moved).entries more e) (sym is) second) hearing
      ∙ sym (hearing-more party one.channel moved more)))

  next_all : (meaning : Meaning) (xs ys : List Entry) → AllByRecursion (Placed (reading said).entries more) xs → AllByRecursion (Placed (reading moved).entries more) ys → AllSame party said moved xs ys
      → AllZip Next (map (entry_after meaning) xs) (map (entry_after meaning) ys)
  next_all meaning [] [] first second all = tt
  next_all meaning [] (y ∷ ys) first second all = absurd all
  next_all meaning (x ∷ xs) [] first second all = absurd all
  next_all meaning (x ∷ xs) (y ∷ ys) first second all = (next_one meaning x y first.0 second.0 all.0, next_all meaning xs ys first.1 second.1 all.1)

  placed : (held : List Entry) → Alone held → PeersAlone held → AllByRecursion (Placed held more) held
  placed held owns peers = each_with held (λ entry found carries. (found, carries)) (all_found held owns) (all_carry held more owns peers)

  -- ---- a channel comes to be

  abbrev OtherPeers : Channel → List Entry → Type 0
  OtherPeers channel entries = AllByRecursion (IsApart channel) entries

  owner_is : (channel : Channel) (entry : Entry) → IsApart channel entry → is_owner channel entry ≡ has_own channel entry
  owner_is channel entry apart = by (has_own channel entry) (has_peer channel entry) refl refl
    where
      by : (own peer : Bool) → has_own channel entry ≡ own → has_peer channel entry ≡ peer → (own || (peer && is_there entry.life)) ≡ own
      by true peer own_is peer_is = refl
      by false false own_is peer_is = refl
      by false true own_is peer_is = let never : true ≡ false = sym (apart peer_is) ∙ own_is in absurd cc

  owners_are : (channel : Channel) (entries : List Entry) → OtherPeers channel entries → list_any (is_owner channel) entries ≡ list_any (has_own channel) entries
  owners_are channel [] apart = refl
  owners_are channel (entry ∷ entries) apart = ap₂ (λ a b. a || b) (owner_is channel entry apart.0) (owners_are channel entries apart.1)

  apart_after : (channel : Channel) (meaning : Meaning) (entries : List Entry) → OtherPeers channel entries → OtherPeers channel (map (entry_after meaning) entries)
  apart_after channel meaning [] apart = tt
  apart_after channel meaning (entry ∷ entries) apart = (apart.0, apart_after channel meaning entries apart.1)

  apart_same : (channel : Channel) (xs ys : List Entry) → AllSame party said moved xs ys → OtherPeers channel ys → OtherPeers channel xs
  apart_same channel [] [] all apart = tt
  apart_same channel [] (y ∷ ys) all apart = tt
  apart_same channel (x ∷ xs) [] all apart = absurd all
  apart_same channel (x ∷ xs) (y ∷ ys) all apart = (subst (λ (c : Channel). eqb c.peer channel.peer ≡ true → eqb c.own channel.own ≡ true) (sym (channel_same party said moved x y all.0)) apart.0, apart_same channel xs ys all.1 apart.1)

  zip_more : (xs ys : List Entry) (one other : Entry) → AllZip Next xs ys → Next one other → AllZip Next (xs ++ one ∷ []) (ys ++ other ∷ [])
  zip_more [] [] one other all now = (now, tt)
  zip_more [] (y ∷ ys) one other all now = absurd all
  zip_more (x ∷ xs) [] one other all now = absurd all
  zip_more (x ∷ xs) (y ∷ ys) one other all now = (all.0, zip_more xs ys one other all.1 now)

  peer_apart : (channel : Channel) (entries : List Entry) → OtherPeers channel entries → list_any (has_own channel) entries ≡ false → AllByRecursion (λ (entry : Entry). has_peer channel entry ≡ false) entries
  peer_apart channel [] apart none = tt
  peer_apart channel (entry ∷ entries) apart none =
      let parts = either_false (has_own channel entry) (list_any (has_own channel) entries) none in
      (by (has_peer channel entry) refl parts.0, peer_apart channel entries apart.1 parts.1)
    where
      by : (peer : Bool) → has_peer channel entry ≡ peer → has_own channel entry ≡ false → peer ≡ false
      by true is own = sym (apart.0 is) ∙ own
      by false is own = refl

  peers_with : (channel : Channel) (entries : List Entry) → AllByRecursion (λ (entry : Entry). has_peer channel entry ≡ false) entries → PeersAlone entries → PeersAlone (entries ++ fresh channel ∷ [])
  peers_with channel [] apart peers = (refl, tt)
  peers_with channel (entry ∷ entries) apart peers = (
    list_any-append (has_peer entry.channel) entries (fresh channel ∷ [])
        ∙ (ap (λ b. b || (eqb channel.peer entry.channel.peer || false)) peers.0 ∙ ap (λ b. b || false) (eqb_other entry.channel.peer channel.peer apart.0)),
    peers_with channel entries apart.1 peers.1,
  )

  peers_after : (meaning : Meaning) (entries : List Entry) → PeersAlone entries → PeersAlone (map (entry_after meaning) entries)
  peers_after meaning [] peers = tt
  peers_after meaning (entry ∷ entries) peers = (any_after (has_peer entry.channel) entries (λ e. refl) ∙ peers.0, peers_after meaning entries peers.1)
    where
      any_after : (test : Entry → Bool) (es : List Entry) → ((e : Entry) → test (entry_after meaning e) ≡ test e) → list_any test (map (entry_after meaning) es) ≡ list_any test es
      any_after test [] same = refl
      any_after test (e ∷ es) same = ap₂ (λ a b. a || b) (same e) (any_after test es same)

  record Grown (xs ys : List Entry) : Type 0 where
    all : AllZip Next xs ys
    peers : PeersAlone ys

  made_more : (meaning : Meaning) (made : Option Channel) → IfSome made (λ (channel : Channel). OtherPeers channel (reading moved).entries) → Alike party said moved
      → AllZip Next (map (entry_after meaning) (reading said).entries) (map (entry_after meaning) (reading moved).entries)
      → Grown (fold with_fresh (map (entry_after meaning) (reading said).entries) (option_to_list made)) (fold with_fresh (map (entry_after meaning) (reading moved).entries) (option_to_list made))
  made_more meaning None apart so all = record { all = all; peers = peers_after meaning (reading moved).entries so.peers }
  made_more meaning (Some channel) apart so all = by (list_any (has_own channel) ys) (owners_are channel xs' apart_xs ∙ owns_xs) (owners_are channel ys' apart_ys ∙ owns_stay channel meaning ys) refl
    where
      xs : List Entry
      xs = (reading said).entries

      ys : List Entry
      ys = (reading moved).entries

      xs' : List Entry
      xs' = map (entry_after meaning) xs

      ys' : List Entry
      ys' = map (entry_after meaning) ys

      apart_ys : OtherPeers channel ys'
      apart_ys = apart_after channel meaning ys apart

      apart_xs : OtherPeers channel xs'
      apart_xs = apart_after channel meaning xs (apart_same channel xs ys so.entries_are apart)

      owns_same : list_any (has_own channel) xs ≡ list_any (has_own channel) ys
      owns_same = any_same party said moved (λ (c : Channel). eqb c.own channel.own) xs ys so.entries_are

      owns_xs : list_any (has_own channel) xs' ≡ list_any (has_own channel) ys
      owns_xs = owns_stay channel meaning xs ∙ owns_same

      by : (known : Bool) → list_any (is_owner channel) xs' ≡ list_any (has_own channel) ys → list_any (is_owner channel) ys' ≡ list_any (has_own channel) ys → list_any (has_own channel) ys ≡ known → Grown (with_fresh xs' channel) (with_fresh ys' channel)
      by true first second is =
          subst (λ b. Grown (cond b xs' (xs' ++ fresh channel ∷ [])) (with_fresh ys' channel)) (sym (first ∙ is))
          (subst (λ b. Grown xs' (cond b ys' (ys' ++ fresh channel ∷ []))) (sym (second ∙ is)) (record { all = all; peers = peers_after meaning ys so.peers }))
      by false first second is =
          let new : Next (fresh channel) (fresh channel) = Stays refl (hearing-anew party channel said more (owns_same ∙ is) ∙ sym (hearing-anew party channel moved more is)) in
          subst (λ b. Grown (cond b xs' (xs' ++ fresh channel ∷ [])) (with_fresh ys' channel)) (sym (first ∙ is))
          (subst (λ b. Grown (xs' ++ fresh channel ∷ []) (cond b ys' (ys' ++ fresh channel ∷ []))) (sym (second ∙ is)) (record {
            all = zip_more xs' ys' (fresh channel) (fresh channel) all new;
            peers = peers_with channel ys' (peer_apart channel ys' apart_ys (owns_stay channel meaning ys ∙ is)) (peers_after meaning ys so.peers);
          }))

  -- ---- objects

  abbrev IsTaken : (one other : Option Entry) → Type 0
  IsTaken None None = Unit {0}
  IsTaken None (Some other) = ⊥
  IsTaken (Some one) None = ⊥
  IsTaken (Some one) (Some other) = (one ≡ other) × (hearing_of party one.channel said ≡ hearing_of party one.channel moved)

  closed_takes : (n : ℕ) (entry : Entry) → is_alive entry.life ≡ false → takes is_heard Into n entry ≡ false
  closed_takes n entry closed = ap (λ b. (is_set entry.setup && b) && eqb entry.channel.own n) closed ∙ by (is_set entry.setup)
    where
      by : (set : Bool) → ((set && false) && eqb entry.channel.own n) ≡ false
      by true = refl
      by false = refl

  taken_same : (n : ℕ) (xs ys : List Entry) → AllSame party said moved xs ys → IsTaken (find (takes is_heard Into n) xs) (find (takes is_heard Into n) ys)
  taken_same n [] [] all = tt
  taken_same n [] (y ∷ ys) all = absurd all
  taken_same n (x ∷ xs) [] all = absurd all
  taken_same n (x ∷ xs) (y ∷ ys) (Ended is first second, all) =
      subst (λ b. IsTaken (cond b (Some x) (find (takes is_heard Into n) xs)) (find (takes is_heard Into n) (y ∷ ys))) (sym (closed_takes n x first))
      (subst (λ b. IsTaken (find (takes is_heard Into n) xs) (cond b (Some y) (find (takes is_heard Into n) ys))) (sym (closed_takes n y second)) (taken_same n xs ys all))
  taken_same n (x ∷ xs) (y ∷ ys) (Stays is hearing, all) =
      subst (λ (e : Entry). IsTaken (find (takes is_heard Into n) (x ∷ xs)) (find (takes is_heard Into n) (e ∷ ys))) is (by (takes is_heard Into n x) (taken_same n xs ys all))
    where
      by : (here : Bool) → IsTaken (find (takes is_heard Into n) xs) (find (takes is_heard Into n) ys) → IsTaken (cond here (Some x) (find (takes is_heard Into n) xs)) (cond here (Some x) (find (takes is_heard Into n) ys))
      by true rest = (refl, hearing)
      by false rest = rest

  mode_taken : (talk : List Saying) (n : ℕ) (entry : Entry) → find (takes is_heard Into n) (reading talk).entries ≡ Some entry → mode_held entry.channel (reading talk) ≡ entry_mode (Some entry)
  mode_taken talk n entry is = ap entry_mode (found_one entry.channel (takes is_heard Into n) (reading talk).entries entry (alone talk) is (same_number entry.channel.own))

  by_same : (pdu : List ℕ) (one other : Option Entry) → taker is_heard Into pdu (reading said).entries ≡ one → taker is_heard Into pdu (reading moved).entries ≡ other → IsTaken one other
      → objects_by party (reading said) (λ channel. hearing_of party channel said) pdu one ≡ objects_by party (reading moved) (λ channel. hearing_of party channel moved) pdu other
  by_same pdu None None first second taken = refl
  by_same pdu None (Some other) first second taken = absurd taken
  by_same pdu (Some one) None first second taken = absurd taken
  by_same pdu (Some one) (Some other) first second (is, hearing) =
      let carriage : Carriage = record { flow = Into; pdu = pdu } in
      ap₂ (λ mode h. objects_now party one.channel mode h (carriage ∷ [])) (mode_taken said (channel_of pdu) one first) hearing
      ∙ (ap (λ (e : Entry). objects_now party e.channel (entry_mode (Some e)) (hearing_of party e.channel moved) (carriage ∷ [])) is
      ∙ ap (λ mode. objects_now party other.channel mode (hearing_of party other.channel moved) (carriage ∷ [])) (sym (mode_taken moved (channel_of pdu) other second)))

on_same : (party : Party) (said moved : List Saying) (more : Saying) → AllSame party said moved (reading said).entries (reading moved).entries
    → objects_on party (reading said) (λ channel. hearing_of party channel said) more ≡ objects_on party (reading moved) (λ channel. hearing_of party channel moved) more
on_same party said moved (Command flow answer) all = refl
on_same party said moved (Carried Out pdu) all = refl
on_same party said moved (Carried Into pdu) all =
    by_same party said moved (Carried Into pdu) pdu (taker is_heard Into pdu (reading said).entries) (taker is_heard Into pdu (reading moved).entries) refl refl
    (taken_same party said moved (Carried Into pdu) (channel_of pdu) (reading said).entries (reading moved).entries all)
on_same party said moved (GaveUp forgone) all = refl

-- ---- one saying more

asked_more : (asked : Requests) (more : Saying) → AsksForNone more → list_any (went Out) asked.calls ≡ false → list_any (went Out) (requests_after asked (sense more)).calls ≡ false
asked_more asked more none before = by (call (sense more)) none
  where
    by : (one : Option Call) → IfSome one (λ (c : Call). went Out c ≡ false) → list_any (went Out) (option_to_list one ++ asked.calls) ≡ false
    by None is = before
    by (Some c) is = ap₂ (λ a b. a || b) is before

spoken_alike : (party : Party) (said moved : List Saying) (more : Saying) → AsksForNone more → GrantsAnew moved more → Alike party said moved → Alike party (said ++ more ∷ []) (moved ++ more ∷ [])
spoken_alike party said moved more none anew so =
    let meaning = meant (reading moved).requests (sense more) in
    let one = reading-more said more in
    let other = reading-more moved more in
    let first = placed party said moved more (reading said).entries (alone said) (peers_same party said moved (reading said).entries (reading moved).entries so.entries_are so.peers) in
    let second = placed party said moved more (reading moved).entries (alone moved) so.peers in
    let grown = made_more party said moved more meaning (made_by meaning) anew so (next_all party said moved more meaning (reading said).entries (reading moved).entries first second so.entries_are) in
    record {
      requests_are = ap (λ (r : Reading). r.requests) one ∙ (ap (λ r. requests_after r (sense more)) so.requests_are ∙ sym (ap (λ (r : Reading). r.requests) other));
      none_asked = ap (λ (r : Reading). list_any (went Out) r.requests.calls) other ∙ asked_more (reading moved).requests more none so.none_asked;
      entries_are = subst (λ (es : List Entry). AllSame party (said ++ more ∷ []) (moved ++ more ∷ []) es (reading (moved ++ more ∷ [])).entries)
          (sym (ap (λ (r : Reading). r.entries) one ∙ ap (λ (r : Requests). entries_after (reading said).entries (meant r (sense more))) so.requests_are))
          (subst (λ (es : List Entry). AllSame party (said ++ more ∷ []) (moved ++ more ∷ []) (entries_after (reading said).entries meaning) es) (sym (ap (λ (r : Reading). r.entries) other)) grown.all);
      peers = subst PeersAlone (sym (ap (λ (r : Reading). r.entries) other)) grown.peers;
      objects_are = link-objects_grow party said more ∙ (ap₂ (λ (a b : List Object). a ++ b) so.objects_are (on_same party said moved more so.entries_are) ∙ sym (link-objects_grow party moved more));
    }

-- ---- all of it

all_alike : (party : Party) (said moved rest : List Saying) → Alike party said moved → AllByRecursion AsksForNone (spoken_of rest) → EachAfter GrantsAnew moved (spoken_of rest) → Alike party (said ++ rest) (moved ++ spoken_of rest)
all_alike party said moved [] so none anew = subst (λ (s : List Saying). Alike party s (moved ++ [])) (sym (append-nil said)) (subst (λ (m : List Saying). Alike party said m) (sym (append-nil moved)) so)
all_alike party said moved (Command flow answer ∷ rest) so none anew =
    let more = Command flow answer in
    subst (λ (s : List Saying). Alike party s (moved ++ more ∷ spoken_of rest)) (append_assoc said (more ∷ []) rest)
    (subst (λ (m : List Saying). Alike party ((said ++ more ∷ []) ++ rest) m) (append_assoc moved (more ∷ []) (spoken_of rest))
    (all_alike party (said ++ more ∷ []) (moved ++ more ∷ []) rest (spoken_alike party said moved more none.0 anew.0 so) none.1 anew.1))
all_alike party said moved (Carried flow pdu ∷ rest) so none anew =
    let more = Carried flow pdu in
    subst (λ (s : List Saying). Alike party s (moved ++ more ∷ spoken_of rest)) (append_assoc said (more ∷ []) rest)
    (subst (λ (m : List Saying). Alike party ((said ++ more ∷ []) ++ rest) m) (append_assoc moved (more ∷ []) (spoken_of rest))
    (all_alike party (said ++ more ∷ []) (moved ++ more ∷ []) rest (spoken_alike party said moved more none.0 anew.0 so) none.1 anew.1))
all_alike party said moved (GaveUp forgone ∷ rest) so none anew =
    subst (λ (s : List Saying). Alike party s (moved ++ spoken_of rest)) (append_assoc said (GaveUp forgone ∷ []) rest)
    (all_alike party (said ++ GaveUp forgone ∷ []) moved rest (forgone_alike party said moved forgone so) none anew)

-- what stands behind all that moved brings none
behind : (party : Party) (said back : List Saying) (more : Saying) → objects_on party (reading said) (λ channel. hearing_of party channel said) more ≡ [] → objects party ((said ++ more ∷ []) ++ back) ≡ objects party (said ++ more ∷ []) → objects party (said ++ more ∷ back) ≡ objects party said
behind party said back more none later =
    ap (objects party) (sym (append_assoc said (more ∷ []) back))
    ∙ (later ∙ (link-objects_grow party said more ∙ (ap (λ (new : List Object). objects party said ++ new) none ∙ append-nil (objects party said))))

trailing : (party : Party) (said back : List Saying) → AllByRecursion GoesOut (spoken_of back) → objects party (said ++ back) ≡ objects party said
trailing party said [] out = ap (objects party) (append-nil said)
trailing party said (Command Out answer ∷ back) out = behind party said back (Command Out answer) refl (trailing party (said ++ Command Out answer ∷ []) back out.1)
trailing party said (Command Into answer ∷ back) out = absurd out.0
trailing party said (Carried Out pdu ∷ back) out = behind party said back (Carried Out pdu) refl (trailing party (said ++ Carried Out pdu ∷ []) back out.1)
trailing party said (Carried Into pdu ∷ back) out = absurd out.0
trailing party said (GaveUp forgone ∷ back) out = behind party said back (GaveUp forgone) refl (trailing party (said ++ GaveUp forgone ∷ []) back out)

spoken_out : (said : List Saying) → AllByRecursion GoesOut said → AllByRecursion GoesOut (spoken_of said)
spoken_out [] out = tt
spoken_out (Command flow answer ∷ said) out = (out.0, spoken_out said out.1)
spoken_out (Carried flow pdu ∷ said) out = (out.0, spoken_out said out.1)
spoken_out (GaveUp forgone ∷ said) out = absurd out.0

-- what a host alone says spells nothing
pub all-out : (party : Party) (said : List Saying) → AllByRecursion GoesOut said → objects party said ≡ []
all-out party said out = trailing party [] said (spoken_out said out)

record Split (said moved waits : List Saying) : Type 0 where
  front : List Saying
  back : List Saying
  all : said ≡ front ++ back
  first : spoken_of front ≡ moved
  rest : spoken_of back ≡ waits

split : (said moved waits : List Saying) → spoken_of said ≡ moved ++ waits → Split said moved waits
split said [] waits is = record { front = []; back = said; all = refl; first = refl; rest = is }
split [] (m ∷ moved) waits is = cc
split (Command flow answer ∷ said) (m ∷ moved) waits is =
    let same : Command flow answer ≡ m = cc in
    let later = split said moved waits cc in
    record { front = Command flow answer ∷ later.front; back = later.back; all = ap (λ (s : List Saying). Command flow answer ∷ s) later.all; first = ap₂ (λ (x : Saying) (s : List Saying). x ∷ s) same later.first; rest = later.rest }
split (Carried flow pdu ∷ said) (m ∷ moved) waits is =
    let same : Carried flow pdu ≡ m = cc in
    let later = split said moved waits cc in
    record { front = Carried flow pdu ∷ later.front; back = later.back; all = ap (λ (s : List Saying). Carried flow pdu ∷ s) later.all; first = ap₂ (λ (x : Saying) (s : List Saying). x ∷ s) same later.first; rest = later.rest }
split (GaveUp forgone ∷ said) (m ∷ moved) waits is =
    let later = split said (m ∷ moved) waits is in
    record { front = GaveUp forgone ∷ later.front; back = later.back; all = ap (λ (s : List Saying). GaveUp forgone ∷ s) later.all; first = later.first; rest = later.rest }

pub objects-move : ObjectsMove
objects-move party said moved waits is out served =
    let parts = split said moved waits is in
    let first : Alike party [] [] = record { requests_are = refl; none_asked = refl; entries_are = tt; peers = tt; objects_are = refl } in
    let alike = all_alike party [] [] parts.front first (subst (λ (m : List Saying). AllByRecursion AsksForNone m) (sym parts.first) served.asks_for_none) (subst (λ (m : List Saying). EachAfter GrantsAnew [] m) (sym parts.first) served.given_once) in
    ap (objects party) parts.all
    ∙ (trailing party parts.front parts.back (subst (λ (w : List Saying). AllByRecursion GoesOut w) (sym parts.rest) out)
    ∙ (alike.objects_are ∙ ap (objects party) parts.first))
