-- What the own words of a host make of the request for options that waits on a channel.
use Rattle.std.proofs.Common.{◌≡◌, ℕ, List, [], ◌∷◌, ◌++◌, map, fold, Bool, true, false, cond, eqb, Option, Some, None, refl, sym, ap, subst, ◌∙◌, append_assoc, append-nil}
use Rattle.std.specs.Prelude.{find, option_to_list}
use Rattle.std.proofs.lemmas.Bool.{eqb-true}
use Rattle.std.proofs.lemmas.List.Sums.{fold-append}
use Rattle.talk_laws.specs.capture.specs.Histories.{given_by}
use Rattle.talk_laws.specs.capture.proofs.HistoryLaws.{given_by-more}
use Rattle.talk_laws.specs.l2cap_signal.specs.Commands.{connection_request, configuration_request, disconnection_request, information_request}
use Rattle.talk_laws.specs.l2cap_config.specs.Writing.{written}
use Rattle.talk_laws.specs.link_talk.specs.declared.channel.Channel.{Channel}
use Rattle.talk_laws.specs.link_talk.specs.declared.party.Party.{Party}
use Rattle.talk_laws.specs.link_talk.specs.Sayings.{Saying, GaveUp}
use Rattle.talk_laws.specs.link_talk.specs.Sayings as sayings
use Rattle.talk_laws.specs.link_talk.specs.Senses.{sense}
use Rattle.talk_laws.specs.link_talk.specs.Requests.{Requests}
use Rattle.talk_laws.specs.link_talk.specs.Meanings.{Meaning, meant}
use Rattle.talk_laws.specs.link_talk.specs.Channels.{word, Entry, is_there, entry_after, made_by, reading}
use Rattle.talk_laws.specs.link_talk.specs.Carriages.{has_own as is_of}
use Rattle.talk_laws.specs.link_talk.specs.Waits.{AsksOptions, demand_of_saying, demand_at, demand, demanded}
use Rattle.channel_model.specs.declared.errand.Errand.TheVariants as errands
use Rattle.channel_model.specs.Value.{Request, Own, Unasked, Asking, Granted, Stage, Requested, Connected, Leaving, Closing, Crossed, Held, Channels}
use Rattle.channel_model.specs.Policies.{Policy}
use Rattle.channel_model.specs.Changing.{held_at}
use Rattle.channel_model.specs.Giving.{configuration_by, configuration_at, on_held}
use Rattle.channel_model.proofs.Lookups.{eqb-same}
use Rattle.own_channel_laws.specs.OwnTalk.{spoken, command_with, said_of, asked_between}
use Rattle.own_channel_laws.specs.Tries.{own_request}
use Rattle.own_channel_laws.specs.Views.{peer_of, life_of, read_at}
use Rattle.own_channel_laws.proofs.Entries.{read-after, there-before}
use Rattle.own_channel_laws.proofs.Sound.{ReadsBy, Reads, Sound, some-of_map}
use Rattle.own_channel_laws.proofs.Lasting.{asked_by}
use Rattle.own_channel_laws.proofs.Demanding.{asked_at, asked_on}
use Rattle.talk_laws.specs.l2cap_config.specs.declared.options.Options.{Options}
use Rattle.channel_model.specs.Value.{Setup}
use Rattle.channel_model.specs.Changing.{setup_of}
use Rattle.own_channel_laws.proofs.Words.{Words, words-asked}
use Rattle.own_channel_laws.proofs.Conversing.{reading-on}

-- the request for options that waits, of all that was said
abbrev pub waiting : Party → Channel → List Saying → Option ℕ
waiting party channel said = fold demanded None (given_by (demand party channel) said)

pub waiting-more : (party : Party) (channel : Channel) (past : List Saying) (more : Saying) → waiting party channel (past ++ more ∷ []) ≡ fold demanded (waiting party channel past) (demand party channel past more)
waiting-more party channel past more =
    ap (fold demanded None) (given_by-more (demand party channel) past more) ∙ fold-append demanded None (given_by (demand party channel) past) (demand party channel past more)

-- a saying that is no demand on any channel
pub silent : (party : Party) (channel : Channel) (past : List Saying) (s : Saying) → ((entry : Entry) → demand_of_saying party (reading past) s entry ≡ []) → waiting party channel (past ++ s ∷ []) ≡ waiting party channel past
silent party channel past s none = waiting-more party channel past s ∙ by (find (is_of channel) (reading past).entries)
  where
    m : Option ℕ
    m = waiting party channel past

    if_there : (b : Bool) (entry : Entry) → fold demanded m (cond b (demand_of_saying party (reading past) s entry) []) ≡ m
    if_there true entry = ap (fold demanded m) (none entry)
    if_there false entry = refl

    by : (found : Option Entry) → fold demanded m (demand_at party (reading past) s found) ≡ m
    by None = refl
    by (Some entry) = if_there (is_there entry.life) entry

-- ---- channels that are there

-- the peer's endpoint of a channel whose options can be asked for
abbrev pub talks_to : Stage → Option ℕ
talks_to (Requested request) = None
talks_to (Connected peer setup) = Some peer
talks_to (Leaving peer setup request) = Some peer
talks_to (Closing peer request checked) = None
talks_to (Crossed peer request) = None

pub record IsNamed (entries : List Entry) (own peer : ℕ) : Type 0 where
  pub entry : Entry
  pub found : read_at own entries ≡ Some entry
  pub peer_is : entry.channel.peer ≡ peer
  pub there : is_there entry.life ≡ true

-- each is read with its endpoints, and no two have the same one of the peer
pub record AreNamed (entries : List Entry) (v : Channels) : Type 0 where
  pub named : (own peer : ℕ) (held : Held) → held_at own v ≡ Some held → talks_to held.stage ≡ Some peer → IsNamed entries own peer
  pub lone : (a b peer : ℕ) (x y : Held) → held_at a v ≡ Some x → held_at b v ≡ Some y → talks_to x.stage ≡ Some peer → talks_to y.stage ≡ Some peer → a ≡ b

named_by : (policy : Policy) (held : Held) (stage : Stage) (own peer : ℕ) (entries : List Entry) (found : Option Entry) → held.stage ≡ stage → talks_to stage ≡ Some peer → read_at own entries ≡ found → ReadsBy policy held (Some peer) found → IsNamed entries own peer
named_by policy held stage own peer entries None is talks read reads = elim reads [ ]
named_by policy held stage own peer entries (Some entry) is talks read (there, agrees) = record {
  entry = entry;
  found = read;
  peer_is = ap (λ (c : Channel). c.peer) there.channel_is;
  there = ap is_there (there.life_is ∙ ap life_of is) ∙ lives stage talks;
}
  where
    lives : (s : Stage) → talks_to s ≡ Some peer → is_there (life_of s) ≡ true
    lives (Requested request) to = cc
    lives (Connected other setup) to = refl
    lives (Leaving other setup request) to = refl
    lives (Closing other request checked) to = cc
    lives (Crossed other request) to = cc

named_at : (policy : Policy) (held : Held) (stage : Stage) (own peer : ℕ) (entries : List Entry) → held.stage ≡ stage → talks_to stage ≡ Some peer → Reads policy (Some held) (read_at own entries) → IsNamed entries own peer
named_at policy held (Requested request) own peer entries is talks reads = cc
named_at policy held (Connected other setup) own peer entries is talks reads =
    let same : Some other ≡ Some peer = talks in
    named_by policy held (Connected other setup) own peer entries (read_at own entries) is talks refl (subst (λ p. ReadsBy policy held p (read_at own entries)) (ap peer_of is ∙ same) reads)
named_at policy held (Leaving other setup request) own peer entries is talks reads =
    let same : Some other ≡ Some peer = talks in
    named_by policy held (Leaving other setup request) own peer entries (read_at own entries) is talks refl (subst (λ p. ReadsBy policy held p (read_at own entries)) (ap peer_of is ∙ same) reads)
named_at policy held (Closing other request checked) own peer entries is talks reads = cc
named_at policy held (Crossed other request) own peer entries is talks reads = cc

pub sound-named : (policy : Policy) (past : List Saying) (v : Channels) → Sound policy (reading past) v → AreNamed (reading past).entries v
sound-named policy past v sound = record {
  named = one;
  lone = λ a b peer x y at_a at_b to_a to_b.
      let left = one a peer x at_a to_a in
      let right = one b peer y at_b to_b in
      sound.core.apart a b left.entry right.entry left.found right.found left.there right.there (left.peer_is ∙ sym right.peer_is);
}
  where
    one : (own peer : ℕ) (held : Held) → held_at own v ≡ Some held → talks_to held.stage ≡ Some peer → IsNamed (reading past).entries own peer
    one own peer held at talks = named_at policy held held.stage own peer (reading past).entries refl talks (subst (λ h. Reads policy h (read_at own (reading past).entries)) at (sound.core.reads own))

-- ---- sayings that leave alone what waits

-- where it is waited for as the host has it
pub record Leaves (party : Party) (channel : Channel) (w : Channels) (past said : List Saying) : Type 0 where
  pub named : AreNamed (reading (past ++ said)).entries w → AreNamed (reading past).entries w
  pub waits : AreNamed (reading (past ++ said)).entries w → (m : Option ℕ) → asked_on (held_at channel.own w) ≡ Some m → waiting party channel past ≡ m → waiting party channel (past ++ said) ≡ m

abbrev pub Mild : Party → Channel → Channels → List Saying → Type 0
Mild party channel w said = (past : List Saying) → Leaves party channel w past said

pub mild-none : (party : Party) (channel : Channel) (w : Channels) → Mild party channel w []
mild-none party channel w past = record {
  named = λ named. subst (λ all. AreNamed (reading all).entries w) (append-nil past) named;
  waits = λ named m asked is. ap (waiting party channel) (append-nil past) ∙ is;
}

pub mild-both : (party : Party) (channel : Channel) (w : Channels) (xs ys : List Saying) → Mild party channel w xs → Mild party channel w ys → Mild party channel w (xs ++ ys)
mild-both party channel w xs ys one other past =
    let there : (past ++ xs) ++ ys ≡ past ++ (xs ++ ys) = append_assoc past xs ys in
    let first = one past in
    let second = other (past ++ xs) in
    record {
      named = λ named. first.named (second.named (subst (λ all. AreNamed (reading all).entries w) (sym there) named));
      waits = λ named m asked is.
          let before : AreNamed (reading ((past ++ xs) ++ ys)).entries w = subst (λ all. AreNamed (reading all).entries w) (sym there) named in
          sym (ap (waiting party channel) there) ∙ second.waits before m asked (first.waits (second.named before) m asked is);
    }

-- a saying that makes no channel
abbrev MakesNone : Saying → Type 0
MakesNone s = (asked : Requests) → made_by (meant asked (sense s)) ≡ None

named_before : (past : List Saying) (s : Saying) (own peer : ℕ) → MakesNone s → IsNamed (reading (past ++ s ∷ [])).entries own peer → IsNamed (reading past).entries own peer
named_before past s own peer none named =
    let m : Meaning = meant (reading past).requests (sense s) in
    let (entry, found, is) = some-of_map (entry_after m) (read_at own (reading past).entries) named.entry
    (sym (read-after m (reading past).entries own (none (reading past).requests)) ∙ (sym (ap (λ r. read_at own r.entries) (reading-on past (s ∷ []))) ∙ named.found)) in
    record {
      entry = entry;
      found = found;
      peer_is = ap (λ (e : Entry). e.channel.peer) is ∙ named.peer_is;
      there = there-before entry.life (word entry.channel m) (ap (λ (e : Entry). is_there e.life) is ∙ named.there);
    }

all_before : (past : List Saying) (s : Saying) (w : Channels) → MakesNone s → AreNamed (reading (past ++ s ∷ [])).entries w → AreNamed (reading past).entries w
all_before past s w none named = record { named = λ own peer held at talks. named_before past s own peer none (named.named own peer held at talks); lone = named.lone }

pub mild-one : (party : Party) (channel : Channel) (w : Channels) (s : Saying) → MakesNone s → ((past : List Saying) (entry : Entry) → demand_of_saying party (reading past) s entry ≡ []) → Mild party channel w (s ∷ [])
mild-one party channel w s none quiet past = record {
  named = all_before past s w none;
  waits = λ named m asked is. silent party channel past s (quiet past) ∙ is;
}

-- ---- a request for options

abbrev wish_for : (identifier peer : ℕ) (octets : List ℕ) → Saying
wish_for identifier peer octets = spoken (command_with identifier (configuration_request peer 0 octets))

heeds_at : (party : Party) (channel : Channel) (past : List Saying) (identifier peer : ℕ) (octets : List ℕ) (entry : Entry) → read_at channel.own (reading past).entries ≡ Some entry → is_there entry.life ≡ true
    → waiting party channel (past ++ wish_for identifier peer octets ∷ []) ≡ fold demanded (waiting party channel past) (cond (eqb peer entry.channel.peer) (AsksOptions identifier ∷ []) [])
heeds_at party channel past identifier peer octets entry found there =
    waiting-more party channel past (wish_for identifier peer octets)
    ∙ (ap (λ e. fold demanded (waiting party channel past) (demand_at party (reading past) (wish_for identifier peer octets) e)) found
    ∙ ap (λ b. fold demanded (waiting party channel past) (cond b (cond (eqb peer entry.channel.peer) (AsksOptions identifier ∷ []) []) [])) there)

-- that of the channel itself waits from then on
wish_waits : (party : Party) (channel : Channel) (past : List Saying) (identifier peer : ℕ) (octets : List ℕ) → IsNamed (reading past).entries channel.own peer
    → waiting party channel (past ++ wish_for identifier peer octets ∷ []) ≡ Some identifier
wish_waits party channel past identifier peer octets named =
    heeds_at party channel past identifier peer octets named.entry named.found named.there
    ∙ (ap (λ n. fold demanded (waiting party channel past) (cond (eqb peer n) (AsksOptions identifier ∷ []) [])) named.peer_is
    ∙ ap (λ b. fold demanded (waiting party channel past) (cond b (AsksOptions identifier ∷ []) [])) (eqb-same peer))

asked_talks : (stage : Stage) (m : Option ℕ) → asked_at stage ≡ Some m → (peer : ℕ) × (talks_to stage ≡ Some peer)
asked_talks (Requested request) m is = cc
asked_talks (Connected peer setup) m is = (peer, refl)
asked_talks (Leaving peer setup request) m is = (peer, refl)
asked_talks (Closing peer request checked) m is = cc
asked_talks (Crossed peer request) m is = cc

-- one of another channel is nothing for it
wish_passes : (party : Party) (channel : Channel) (past : List Saying) (w : Channels) (identifier peer other : ℕ) (octets : List ℕ) (m : Option ℕ) (held : Held) (mine : Option Held) → AreNamed (reading past).entries w → held_at other w ≡ Some held → talks_to held.stage ≡ Some peer
    → eqb other channel.own ≡ false → held_at channel.own w ≡ mine → asked_on mine ≡ Some m → waiting party channel (past ++ wish_for identifier peer octets ∷ []) ≡ waiting party channel past
wish_passes party channel past w identifier peer other octets m held None named at talks away here asked = cc
wish_passes party channel past w identifier peer other octets m held (Some mine) named at talks away here asked =
    let (own_peer, mine_talks) = asked_talks mine.stage m asked in
    let named_here = named.named channel.own own_peer mine here mine_talks in
    by named_here (eqb peer named_here.entry.channel.peer) refl mine_talks
  where
    by : {own_peer : ℕ} (found : IsNamed (reading past).entries channel.own own_peer) (b : Bool) → eqb peer found.entry.channel.peer ≡ b → talks_to mine.stage ≡ Some own_peer → waiting party channel (past ++ wish_for identifier peer octets ∷ []) ≡ waiting party channel past
    by {own_peer = own_peer} found true is to =
        let same : peer ≡ own_peer = eqb-true peer found.entry.channel.peer is ∙ found.peer_is in
        let one : other ≡ channel.own = named.lone other channel.own own_peer held mine at here (talks ∙ ap Some same) to in
        let never : false ≡ true = sym away ∙ (ap (λ n. eqb n channel.own) one ∙ eqb-same channel.own) in absurd cc
    by found false is to =
        heeds_at party channel past identifier peer octets found.entry found.found found.there
        ∙ ap (λ b. fold demanded (waiting party channel past) (cond b (AsksOptions identifier ∷ []) [])) is

-- ---- the own request of any channel

-- the identifier that a channel waits for is that of its request
asking_is : (stage : Stage) (request : Request) (m : Option ℕ) → asked_at stage ≡ Some m → asked_at stage ≡ Some (Some request.identifier) → Some request.identifier ≡ m
asking_is stage request m is asking =
    let same : Some (Some request.identifier) ≡ Some m = sym asking ∙ is in
    let inner : Some request.identifier ≡ m = cc in inner

mild_wish : (party : Party) (channel : Channel) (w : Channels) (other peer : ℕ) (held : Held) (request : Request) (octets : List ℕ) → held_at other w ≡ Some held → talks_to held.stage ≡ Some peer → asked_at held.stage ≡ Some (Some request.identifier)
    → Mild party channel w (wish_for request.identifier peer octets ∷ [])
mild_wish party channel w other peer held request octets at talks asks = λ past. record { named = all_before past s w (λ asked. refl); waits = λ named m asked is. by past named m asked is (eqb other channel.own) refl }
  where
    s : Saying
    s = wish_for request.identifier peer octets

    by : (past : List Saying) → AreNamed (reading (past ++ s ∷ [])).entries w → (m : Option ℕ) → asked_on (held_at channel.own w) ≡ Some m → waiting party channel past ≡ m → (b : Bool) → eqb other channel.own ≡ b → waiting party channel (past ++ s ∷ []) ≡ m
    by past after m asked is true same =
        let own_is : other ≡ channel.own = eqb-true other channel.own same in
        let here : held_at channel.own w ≡ Some held = subst (λ n. held_at n w ≡ Some held) own_is at in
        wish_waits party channel past request.identifier peer octets ((all_before past s w (λ q. refl) after).named channel.own peer held here talks)
        ∙ asking_is held.stage request m (sym (ap asked_on here) ∙ asked) asks
    by past after m asked is false away = wish_passes party channel past w request.identifier peer other octets m held (held_at channel.own w) (all_before past s w (λ q. refl) after) at talks away refl asked ∙ is

pub setup_wishes : (stage : Stage) (setup : Setup) (peer : ℕ) (request : Request) (options : Options) → setup_of stage ≡ Some setup → peer_of stage ≡ Some peer → setup.own ≡ Asking request options → (talks_to stage ≡ Some peer) × (asked_at stage ≡ Some (Some request.identifier))
setup_wishes (Requested other) setup peer request options has to is = cc
setup_wishes (Connected p s) setup peer request options has to is = let same : s ≡ setup = cc in (to, ap (λ o. Some (asked_by (own_request o))) (ap (λ (x : Setup). x.own) same ∙ is))
setup_wishes (Leaving p s other) setup peer request options has to is = let same : s ≡ setup = cc in (to, ap (λ o. Some (asked_by (own_request o))) (ap (λ (x : Setup). x.own) same ∙ is))
setup_wishes (Closing p other checked) setup peer request options has to is = cc
setup_wishes (Crossed p other) setup peer request options has to is = cc

-- whatever the host says of its own accord
pub own-words : (party : Party) (channel : Channel) (w : Channels) → Words w (Mild party channel w)
own-words party channel w = record {
  none = mild-none party channel w;
  both = mild-both party channel w;
  calls = λ own held request at is. mild-one party channel w (spoken (command_with request.identifier (connection_request held.psm held.own))) (λ asked. refl) (λ past entry. refl);
  wishes = λ own peer held setup request options at has to is. let (talks, asks) = setup_wishes held.stage setup peer request options has to is in mild_wish party channel w own peer held request (written options) at talks asks;
  ends = λ identifier peer own. mild-one party channel w (spoken (command_with identifier (disconnection_request peer own))) (λ asked. refl) (λ past entry. refl);
  asks = λ request is. mild-one party channel w (spoken (command_with request.identifier (information_request 2))) (λ asked. refl) (λ past entry. refl);
  lets_call = λ identifier own. mild-one party channel w (GaveUp (sayings.Connection identifier own)) (λ asked. refl) (λ past entry. refl);
  lets_end = λ own peer. mild-one party channel w (GaveUp (sayings.Disconnection own peer)) (λ asked. refl) (λ past entry. refl);
}

pub mild-asked : (party : Party) (channel : Channel) (v w : Channels) → Mild party channel w (asked_between v w)
mild-asked party channel v w = words-asked w (Mild party channel w) (own-words party channel w) v

-- ---- a request that is new

new_by : (party : Party) (channel : Channel) (past : List Saying) (w : Channels) (n peer : ℕ) (held : Held) (own : Own) → held_at channel.own w ≡ Some held → talks_to held.stage ≡ Some peer → asked_by (own_request own) ≡ Some n
    → AreNamed (reading (past ++ map spoken (option_to_list (configuration_by own peer)))).entries w → waiting party channel (past ++ map spoken (option_to_list (configuration_by own peer))) ≡ Some n
new_by party channel past w n peer held Unasked at talks asks named = cc
new_by party channel past w n peer held Granted at talks asks named = cc
new_by party channel past w n peer held (Asking request options) at talks asks named =
    let s : Saying = wish_for request.identifier peer (written options) in
    wish_waits party channel past request.identifier peer (written options) ((all_before past s w (λ q. refl) named).named channel.own peer held at talks) ∙ asks

new_at : (party : Party) (channel : Channel) (past : List Saying) (w : Channels) (n : ℕ) (held : Held) (stage : Stage) → held.stage ≡ stage → held_at channel.own w ≡ Some held → asked_at stage ≡ Some (Some n)
    → AreNamed (reading (past ++ map spoken (option_to_list (configuration_at stage)))).entries w → waiting party channel (past ++ map spoken (option_to_list (configuration_at stage))) ≡ Some n
new_at party channel past w n held (Requested request) is at asks named = cc
new_at party channel past w n held (Connected peer setup) is at asks named = let asked : asked_by (own_request setup.own) ≡ Some n = cc in new_by party channel past w n peer held setup.own at (ap talks_to is) asked named
new_at party channel past w n held (Leaving peer setup request) is at asks named = let asked : asked_by (own_request setup.own) ≡ Some n = cc in new_by party channel past w n peer held setup.own at (ap talks_to is) asked named
new_at party channel past w n held (Closing peer request checked) is at asks named = cc
new_at party channel past w n held (Crossed peer request) is at asks named = cc

new_on : (party : Party) (channel : Channel) (past : List Saying) (w : Channels) (n : ℕ) (held : Option Held) → held_at channel.own w ≡ held → asked_on held ≡ Some (Some n)
    → (let said : List Saying = past ++ map spoken (option_to_list (on_held (λ h. configuration_at h.stage) held)) in AreNamed (reading said).entries w → waiting party channel said ≡ Some n)
new_on party channel past w n None at asks named = cc
new_on party channel past w n (Some held) at asks named = new_at party channel past w n held held.stage refl at asks named

-- it waits once it is said
pub new-waits : (party : Party) (channel : Channel) (past : List Saying) (w : Channels) (n : ℕ) → asked_on (held_at channel.own w) ≡ Some (Some n) → AreNamed (reading (past ++ said_of (Some (errands.Configuration channel.own)) w)).entries w
    → waiting party channel (past ++ said_of (Some (errands.Configuration channel.own)) w) ≡ Some n
new-waits party channel past w n asks named = new_on party channel past w n (held_at channel.own w) refl asks named
