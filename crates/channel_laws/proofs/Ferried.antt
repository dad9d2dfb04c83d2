-- A basic channel that two hosts have in common, whatever happens at one of them and over all turns, for any account of what came.
use Rattle.std.proofs.Common.{◌≡◌, ℕ, ◌<◌, ◌≤◌, List, [], ◌∷◌, ◌++◌, map, drop, Bool, true, false, cond, eqb, Option, Some, None, refl, sym, ap, subst, ◌∙◌, ◌⊎◌, inl, inr, append_assoc, append-nil}
use Rattle.std.specs.Prelude.{option_to_list}
use Rattle.std.specs.List.{AllByRecursion}
use Rattle.std.proofs.lemmas.Bool.{eqb-true}
use Rattle.std.proofs.lemmas.List.Sums.{fold-append}
use Rattle.own_channel_laws.specs.talk_laws.specs.acl_fragments.specs.Pieces.{channel_of}
use Rattle.own_channel_laws.specs.talk_laws.specs.capture.specs.declared.flow.Flow.TheVariants.{Into}
use Rattle.own_channel_laws.specs.talk_laws.specs.capture.specs.Histories.{EachAfter}
use Rattle.own_channel_laws.specs.talk_laws.specs.l2cap_signal.specs.Reading.{answers}
use Rattle.own_channel_laws.specs.talk_laws.specs.l2cap_config.specs.declared.wish.Mode.TheVariants.{Basic, Enhanced}
use Rattle.own_channel_laws.specs.talk_laws.specs.link_talk.specs.declared.channel.Channel.{Channel}
use Rattle.own_channel_laws.specs.talk_laws.specs.link_talk.specs.Sayings.{Saying, Carried}
use Rattle.own_channel_laws.specs.talk_laws.specs.link_talk.specs.Channels.{reading}
use Rattle.own_channel_laws.specs.channel_model.specs.Value.{Carrier, Plain, Retransmitting, Setup, Stage, Requested, Connected, Leaving, Closing, Crossed, Held, Channels}
use Rattle.own_channel_laws.specs.channel_model.specs.Policies.{Policy}
use Rattle.own_channel_laws.specs.channel_model.specs.Changing.{held_at, setup_of, is_stated, is_retransmitting}
use Rattle.own_channel_laws.specs.channel_model.specs.Carrying.{Up, Nothing, is_taken_with, sdu_with, sdu_at, up_at, takes}
use Rattle.own_channel_laws.specs.channel_model.specs.Hearing.{hears_commands, up}
use Rattle.own_channel_laws.specs.channel_model.specs.Giving.{Given, next_given, queue_given}
use Rattle.own_channel_laws.specs.channel_model.specs.Calls.{has_fcs_at, has_fcs_on, has_fcs, connected, asks_features, disconnected, sends, after_event}
use Rattle.own_channel_laws.specs.channel_model.specs.Timing.{timed_out}
use Rattle.own_channel_laws.specs.channel_model.proofs.Lookups.{found-has}
use Rattle.own_channel_laws.specs.channel_model.proofs.Lookups.{own_of}
use Rattle.own_channel_laws.specs.channel_model.proofs.Going.{Walks}
use Rattle.own_channel_laws.specs.channel_model.proofs.Walking.{commands-go}
use Rattle.own_channel_laws.specs.channel_model.proofs.Calling.{connected-goes, asks-features-goes, disconnected-goes, timed-goes, takes-goes}
use Rattle.own_channel_laws.specs.OwnTalk.{asked_between, said_with_all}
use Rattle.own_channel_laws.specs.Runs.{Occurrence, Comes, Connects, AsksFeatures, Disconnects, Sends, Gives, Fires, Tells, peer_at, given_up, said_by_channels, said_as, said_in, up_with, sdu_up, sdus_up}
use Rattle.own_channel_laws.specs.Views.{read_at}
use Rattle.own_channel_laws.specs.Frames.{IsSpelled, IsUttered}
use Rattle.channel_laws.specs.Pairs.{End, Pair, new_pair, Happening, Acts, Puts, Takes, Repeats, Loses, Damages, is_alone, occurs, with_near, puts, let_go, takes_first, repeats_first, loses_first, damages_first, happens_near, Side, Near, Far, turned, Turn, happens_at, pair_after, pair_of, IsRunOf}
use Rattle.channel_laws.specs.Ends.{AreFair, DoesSo, end_at}
use Rattle.channel_laws.specs.Belonging.{AreRead}
use Rattle.own_channel_laws.specs.Endpoints.{IsOf}
use Rattle.channel_laws.specs.Common.{mirrored}
use Rattle.channel_laws.specs.Modes.{OneWishes}
use Rattle.channel_laws.specs.Pipes.{IsAddressed, IsSeen, IsCarried, AreCarried, HaveChannel}
use Rattle.own_channel_laws.proofs.Both.{and-right}
use Rattle.own_channel_laws.proofs.Running.{IsSound, all-sound}
use Rattle.own_channel_laws.proofs.Keeping.{KeepsOn, walks-keep}
use Rattle.own_channel_laws.proofs.Signalling.{IsBare, bare-asked, bare-left, bare-with_all, bare-fired}
use Rattle.own_channel_laws.proofs.Receiving.{up-nothing}
use Rattle.channel_laws.proofs.Pairing.{BothRun, at-runs, first-runs, each-end_runs}
use Rattle.channel_laws.proofs.Partaking.{IsSole, sdu_for}
use Rattle.channel_laws.proofs.Piped.{under_way, sends-others, up-more, up-here, up-away}
use Rattle.channel_laws.proofs.Conveying.{low-apart, flipped}
use Rattle.channel_laws.proofs.Flowing.{sound-of}
use Rattle.channel_laws.proofs.Mating.{AreWished, one-wished, other-wishes, sole-at, high-at}
use Rattle.channel_laws.proofs.Delivering.{Stays, WaitsAt, keeps-waits, sent_on, sent-heard, sent-bare}
use Rattle.channel_laws.proofs.Ferrying.{Flight, Reach, Owes, Grows, IsBasic, Way, Delivers, Comes_again, Reaches, Allows, owes-walked, owes-unmoved, owes-same, sends-here, sends-there, gives-owed}

-- ---- the host that sends

-- it has the channel as it is
pub record Sends_so (channel : Channel) (end' : End) : Type 0 where
  pub high : 0x0040 ≤ channel.peer
  pub sound : IsSound end'.policy end'.run
  pub sole : IsSole channel.own channel.peer end'.run.value
  pub basic : IsBasic channel.own end'.run.value

-- by what it does
abbrev After : Way → Channel → Pair → Occurrence → Type 0
After W channel pair more = Owes pair.near.policy channel.own (sent_on channel (pair.near.run.said ++ said_in pair.near.policy more pair.near.run.value)) (Flight channel.peer pair.far.coming) (W (sdus_up channel.peer pair.far.run.up)) (occurs more pair.near).run.value

walks_on : (policy : Policy) (own : ℕ) (rest : List (List ℕ)) → Walks policy Stays (KeepsOn policy (WaitsAt own rest))
walks_on policy own rest = walks-keep policy Stays _ (keeps-waits policy own rest)

bare_walk : (W : Way) (channel : Channel) (pair : Pair) (said : List Saying) (w : Channels) → Sends_so channel pair.near → IsBare said → ((rest : List (List ℕ)) → KeepsOn pair.near.policy (WaitsAt channel.own rest) pair.near.run.value w) → Delivers W channel pair
    → Owes pair.near.policy channel.own (sent_on channel (pair.near.run.said ++ said)) (Flight channel.peer pair.far.coming) (W (sdus_up channel.peer pair.far.run.up)) w
bare_walk W channel pair said w so bare keeps h =
    owes-same pair.near.policy channel.own _ _ _ _ _ w (sent-bare channel said pair.near.run.said bare) refl (owes-walked pair.near.policy channel.own _ _ _ pair.near.run.value w so.sound.core.held_below keeps h)

sends_owed : (W : Way) (channel : Channel) (pair : Pair) (own : ℕ) (sdu : List ℕ) → Sends_so channel pair.near → peer_at (held_at own pair.near.run.value) < 65536 → Delivers W channel pair → After W channel pair (Sends own sdu)
sends_owed W channel pair own sdu so fits h = by (eqb own channel.own) refl
  where
    v : Channels
    v = pair.near.run.value

    past : List Saying
    past = pair.near.run.said

    by : (here : Bool) → eqb own channel.own ≡ here → After W channel pair (Sends own sdu)
    by true here =
        let same : own ≡ channel.own = eqb-true own channel.own here in
        subst (λ n. After W channel pair (Sends n sdu)) (sym same)
        (sends-here pair.near.policy channel past (Flight channel.peer pair.far.coming) (W (sdus_up channel.peer pair.far.run.up)) v sdu so.sound so.basic (subst (λ n. peer_at (held_at n v) < 65536) same fits) h)
    by false away =
        let others = sends-others own channel.own sdu v away in
        owes-same pair.near.policy channel.own _ _ _ _ _ (sends own sdu v) (sends-there pair.near.policy channel past v own sdu so.sound so.sole away fits) refl
        (owes-unmoved pair.near.policy channel.own _ _ _ v (sends own sdu v) others.0 others.1 h)

acts_owed : (W : Way) (channel : Channel) (pair : Pair) (more : Occurrence) → is_alone more ≡ true → Sends_so channel pair.near → IsUttered more pair.near.run.value → Delivers W channel pair → After W channel pair more
acts_owed W channel pair (Comes pdu) alone so uttered h = cc
acts_owed W channel pair (Connects psm) alone so uttered h =
    let v : Channels = pair.near.run.value in let w : Channels = connected psm v in
    bare_walk W channel pair (asked_between v w) w so (bare-asked v w) (λ rest. connected-goes pair.near.policy Stays _ (walks_on pair.near.policy channel.own rest) psm v) h
acts_owed W channel pair AsksFeatures alone so uttered h =
    let v : Channels = pair.near.run.value in let w : Channels = asks_features v in
    bare_walk W channel pair (asked_between v w) w so (bare-asked v w) (λ rest. asks-features-goes pair.near.policy Stays _ (walks_on pair.near.policy channel.own rest) v) h
acts_owed W channel pair (Disconnects own) alone so uttered h =
    let v : Channels = pair.near.run.value in let w : Channels = disconnected own v in
    bare_walk W channel pair (asked_between v w ++ given_up own v w) w so (bare-left own v w) (λ rest. disconnected-goes pair.near.policy Stays _ (walks_on pair.near.policy channel.own rest) own v) h
acts_owed W channel pair (Sends own sdu) alone so uttered h = sends_owed W channel pair own sdu so uttered h
acts_owed W channel pair (Gives pdu) alone so uttered h = cc
acts_owed W channel pair Fires alone so uttered h =
    let v : Channels = pair.near.run.value in let owns : List ℕ = map (λ (held : Held). held.own) v.held in
    bare_walk W channel pair (said_by_channels pair.near.policy.tries owns v) (timed_out pair.near.policy v) so (bare-fired pair.near.policy.tries owns v)
    (λ rest. timed-goes pair.near.policy Stays _ (walks_on pair.near.policy channel.own rest) v (λ machine open'. tt)) h
acts_owed W channel pair Tells alone so uttered h =
    let v : Channels = pair.near.run.value in
    owes-same pair.near.policy channel.own _ _ _ _ _ (after_event v) (ap (sent_on channel) (append-nil pair.near.run.said)) refl (owes-unmoved pair.near.policy channel.own _ _ _ v (after_event v) refl refl h)

-- a PDU comes in
comes_owed : (W : Way) (channel : Channel) (pair : Pair) (pdu : List ℕ) → Sends_so channel pair.near → Delivers W channel pair → After W channel pair (Comes pdu)
comes_owed W channel pair pdu so h = by (eqb (channel_of pdu) 0x0001)
  where
    policy : Policy
    policy = pair.near.policy

    v : Channels
    v = pair.near.run.value

    past : List Saying
    past = pair.near.run.said

    w : Channels
    w = takes (channel_of pdu) pdu v

    by : (signal : Bool) → Owes policy channel.own (sent_on channel (past ++ cond signal (said_with_all policy (answers (drop 4 pdu)) v) (Carried Into pdu ∷ asked_between v w))) (Flight channel.peer pair.far.coming) (W (sdus_up channel.peer pair.far.run.up))
        (cond signal (hears_commands policy (answers (drop 4 pdu)) v) w)
    by true =
        bare_walk W channel pair (said_with_all policy (answers (drop 4 pdu)) v) (hears_commands policy (answers (drop 4 pdu)) v) so (bare-with_all policy (answers (drop 4 pdu)) v)
        (λ rest. commands-go policy Stays _ (walks_on policy channel.own rest) (answers (drop 4 pdu)) v) h
    by false =
        owes-same policy channel.own (sent_on channel past) _ _ _ _ w
        (ap (sent_on channel) (sym (append_assoc past (Carried Into pdu ∷ []) (asked_between v w))) ∙ (sent-bare channel (asked_between v w) (past ++ Carried Into pdu ∷ []) (bare-asked v w) ∙ sent-heard channel past pdu)) refl
        (owes-walked policy channel.own _ _ _ v w so.sound.core.held_below (λ rest. takes-goes policy Stays _ (walks_on policy channel.own rest) (channel_of pdu) pdu v (λ machine open'. tt)) h)

-- whatever happens at it
pub near_owed : (W : Way) → ((came : List (List ℕ)) → Grows (W came)) → (channel : Channel) (pair : Pair) (happening : Happening) → Sends_so channel pair.near → DoesSo IsUttered happening pair.near → IsCarried happening pair.near → Delivers W channel pair → Delivers W channel (happens_near happening pair)
near_owed W grows channel pair (Acts occurrence) so uttered carried h = by (is_alone occurrence) refl
  where
    by : (alone : Bool) → is_alone occurrence ≡ alone → Delivers W channel (cond alone (with_near (occurs occurrence pair.near) pair) pair)
    by true alone = acts_owed W channel pair occurrence alone so uttered h
    by false alone = h
near_owed W grows channel pair (Puts pdu) so uttered carried h = by (next_given pair.near.run.value) refl uttered carried
  where
    by : (given : Option Given) → next_given pair.near.run.value ≡ given → IsSpelled given pdu → IsAddressed given pdu → Delivers W channel (puts given pdu pair)
    by None is spelled addressed = h
    by (Some given) is spelled addressed =
        subst (λ g. Owes pair.near.policy channel.own (sent_on channel (pair.near.run.said ++ said_as g pdu)) (Flight channel.peer (pair.far.coming ++ pdu ∷ [])) (W (sdus_up channel.peer pair.far.run.up)) (queue_given pair.near.run.value.queue pair.near.run.value)) (sym is)
        (gives-owed pair.near.policy channel pair.near.run.said pair.far.coming (W (sdus_up channel.peer pair.far.run.up)) pair.near.run.value pdu pair.near.run.value.queue
        (record { high = so.high; sound = so.sound; sole = so.sole; basic = so.basic; grows = grows (sdus_up channel.peer pair.far.run.up); owes = h }) given is spelled addressed)
near_owed W grows channel pair Takes so uttered carried h = by pair.near.coming
  where
    by : (coming : List (List ℕ)) → Delivers W channel (with_near (takes_first coming pair.near) pair)
    by [] = h
    by (pdu ∷ coming) = comes_owed W channel pair pdu so h
near_owed W grows channel pair Repeats so uttered carried h = by pair.near.coming
  where
    by : (coming : List (List ℕ)) → Delivers W channel (with_near (repeats_first coming pair.near) pair)
    by [] = h
    by (pdu ∷ coming) = comes_owed W channel pair pdu so h
near_owed W grows channel pair Loses so uttered carried h = by pair.near.coming
  where
    by : (coming : List (List ℕ)) → Delivers W channel (with_near (loses_first coming pair.near) pair)
    by [] = h
    by (pdu ∷ coming) = h
near_owed W grows channel pair (Damages other) so uttered carried h = by pair.near.coming
  where
    on : (coming : List (List ℕ)) (checked : Bool) → Delivers W channel (with_near (cond checked (occurs (Comes other) (let_go coming pair.near)) (let_go coming pair.near)) pair)
    on coming true = comes_owed W channel pair other so h
    on coming false = h

    by : (coming : List (List ℕ)) → Delivers W channel (with_near (damages_first other coming pair.near) pair)
    by [] = h
    by (pdu ∷ coming) = on coming (has_fcs (channel_of pdu) pair.near.run.value)

-- ---- the host that takes

-- nothing, or what the PDU carries
abbrev IsOfIt : List ℕ → Option (List ℕ) → Type 0
IsOfIt sdu came = (came ≡ None) ⊎ (came ≡ Some sdu)

came_with : (own : ℕ) (v : Channels) (pdu : List ℕ) (held : Held) (stage : Stage) → IsBasic own v → held_at own v ≡ Some held → held.stage ≡ stage → IsOfIt (drop 4 pdu) (sdu_at stage pdu)
came_with own v pdu held (Requested request) basic found is = inl refl
came_with own v pdu held (Leaving peer setup request) basic found is = inl refl
came_with own v pdu held (Closing peer request checked) basic found is = inl refl
came_with own v pdu held (Crossed peer request) basic found is = inl refl
came_with own v pdu held (Connected peer setup) basic found is = by setup.carrier refl
  where
    taken : (b : Bool) → IsOfIt (drop 4 pdu) (cond b (Some (drop 4 pdu)) None)
    taken true = inr refl
    taken false = inl refl

    by : (carrier : Option Carrier) → setup.carrier ≡ carrier → IsOfIt (drop 4 pdu) (sdu_with carrier setup.own pdu)
    by None carrier_is = inl refl
    by (Some (Plain agreed waiting)) carrier_is = taken (is_taken_with setup.own (Plain agreed waiting) pdu)
    by (Some (Retransmitting machine)) carrier_is = let never : Enhanced ≡ Basic = basic held setup (Retransmitting machine) found (ap setup_of is) carrier_is in absurd cc

came_for : (own : ℕ) (v : Channels) (pdu : List ℕ) → IsBasic own v → IsOfIt (drop 4 pdu) (sdu_for (held_at own v) pdu)
came_for own v pdu basic = by (held_at own v) refl
  where
    by : (held : Option Held) → held_at own v ≡ held → IsOfIt (drop 4 pdu) (sdu_for held pdu)
    by None found = inl refl
    by (Some held) found = came_with own v pdu held held.stage basic found refl

-- for its endpoint
pub up_of_it : (own : ℕ) (ups : List Up) (v : Channels) (pdu : List ℕ) → 0x0040 ≤ own → channel_of pdu ≡ own → sdus_up own (ups ++ up (channel_of pdu) pdu v ∷ []) ≡ sdus_up own ups ++ option_to_list (sdu_for (held_at own v) pdu)
up_of_it own ups v pdu high to =
    up-more own ups (up (channel_of pdu) pdu v)
    ∙ ap (λ o. sdus_up own ups ++ option_to_list o)
    (ap (λ n. sdu_up own (up n pdu v)) to
    ∙ (ap (λ b. sdu_up own (cond b Nothing (up_at own pdu v))) (flipped 0x0001 own (low-apart own high)) ∙ up-here own (held_at own v) pdu (λ x is. found-has own_of own v.held x is)))

-- for another one
pub up_of_other : (own : ℕ) (ups : List Up) (v : Channels) (pdu : List ℕ) → eqb (channel_of pdu) own ≡ false → sdus_up own (ups ++ up (channel_of pdu) pdu v ∷ []) ≡ sdus_up own ups
up_of_other own ups v pdu away = up-nothing own ups (up (channel_of pdu) pdu v) (by (eqb (channel_of pdu) 0x0001))
  where
    by : (signal : Bool) → sdu_up own (cond signal Nothing (up_at (channel_of pdu) pdu v)) ≡ None
    by true = refl
    by false = up-away own (channel_of pdu) (held_at (channel_of pdu) v) pdu (λ x is. found-has own_of (channel_of pdu) v.held x is) away

-- the first that is under way comes, or not, and stays
first_comes : (W : Way) → Comes_again W → (policy : Policy) (own : ℕ) (sent flight came : List (List ℕ)) (x : List ℕ) (now : Option (List ℕ)) (v : Channels) → IsOfIt x now → Owes policy own sent (x ∷ flight) (W came) v → Owes policy own sent (x ∷ flight) (W (came ++ option_to_list now)) v
first_comes W again policy own sent flight came x now v (inl none) owes = subst (λ c. Owes policy own sent (x ∷ flight) (W c) v) (sym (ap (λ o. came ++ option_to_list o) none ∙ append-nil came)) owes
first_comes W again policy own sent flight came x now v (inr some) owes = subst (λ o. Owes policy own sent (x ∷ flight) (W (came ++ option_to_list o)) v) (sym some) (record {
  done = owes.done;
  rest = owes.rest;
  sent_is = owes.sent_is;
  reached = again came owes.done flight x owes.reached;
  held = owes.held;
  before = owes.before;
})

-- it is under way no more
pub first_done : (policy : Policy) (own : ℕ) (sent flight : List (List ℕ)) (x : List ℕ) (R R' : Reach) (v : Channels) → ((done : List (List ℕ)) → R done (x ∷ flight) → R' (done ++ x ∷ []) flight) → Owes policy own sent (x ∷ flight) R v → Owes policy own sent flight R' v
first_done policy own sent flight x R R' v by owes = record {
  done = owes.done ++ x ∷ [];
  rest = owes.rest;
  sent_is = owes.sent_is ∙ sym (append_assoc owes.done (x ∷ []) (flight ++ owes.rest));
  reached = by owes.done owes.reached;
  held = owes.held;
  before = owes.before;
}

first_gone : (W : Way) → Reaches W → (policy : Policy) (own : ℕ) (sent flight came : List (List ℕ)) (x : List ℕ) (v : Channels) → Owes policy own sent (x ∷ flight) (W came) v → Owes policy own sent flight (W came) v
first_gone W reaches policy own sent flight came x v owes = first_done policy own sent flight x (W came) (W came) v (λ done. reaches.goes came done flight x) owes

-- and it came, or not
first_taken : (W : Way) → Reaches W → (policy : Policy) (own : ℕ) (sent flight came : List (List ℕ)) (x : List ℕ) (now : Option (List ℕ)) (v : Channels) → IsOfIt x now → Owes policy own sent (x ∷ flight) (W came) v → Owes policy own sent flight (W (came ++ option_to_list now)) v
first_taken W reaches policy own sent flight came x now v (inl none) owes =
    subst (λ c. Owes policy own sent flight (W c) v) (sym (ap (λ o. came ++ option_to_list o) none ∙ append-nil came)) (first_gone W reaches policy own sent flight came x v owes)
first_taken W reaches policy own sent flight came x now v (inr some) owes =
    subst (λ o. Owes policy own sent flight (W (came ++ option_to_list o)) v) (sym some) (first_done policy own sent flight x (W came) (W (came ++ x ∷ [])) v (λ done. reaches.comes came done flight x) owes)

-- what the other host owes it
abbrev pub Owed : Way → Channel → Pair → (coming : List (List ℕ)) → List Up → Type 0
Owed W channel pair coming ups = Owes pair.far.policy channel.peer (sent_on (mirrored channel) pair.far.run.said) (Flight channel.own coming) (W (sdus_up channel.own ups)) pair.far.run.value

record Takes_so (channel : Channel) (end' : End) : Type 0 where
  high : 0x0040 ≤ channel.own
  basic : IsBasic channel.own end'.run.value

-- something comes in for another endpoint
pub other_in : (W : Way) (channel : Channel) (pair : Pair) (pdu : List ℕ) (coming : List (List ℕ)) → eqb (channel_of pdu) channel.own ≡ false → Owed W channel pair coming pair.near.run.up → Owed W channel pair coming (pair.near.run.up ++ up (channel_of pdu) pdu pair.near.run.value ∷ [])
other_in W channel pair pdu coming away h =
    subst (λ c. Owes pair.far.policy channel.peer (sent_on (mirrored channel) pair.far.run.said) (Flight channel.own coming) (W c) pair.far.run.value) (sym (up_of_other channel.own pair.near.run.up pair.near.run.value pdu away)) h

-- the first is for its endpoint, or not
pub flight_first : (own : ℕ) (pdu : List ℕ) (coming : List (List ℕ)) → eqb (channel_of pdu) own ≡ true → Flight own (pdu ∷ coming) ≡ drop 4 pdu ∷ Flight own coming
flight_first own pdu coming here = ap (λ b. map (drop 4) (cond b (pdu ∷ under_way own coming) (under_way own coming))) here

pub flight_other : (own : ℕ) (pdu : List ℕ) (coming : List (List ℕ)) → eqb (channel_of pdu) own ≡ false → Flight own (pdu ∷ coming) ≡ Flight own coming
flight_other own pdu coming away = ap (λ b. map (drop 4) (cond b (pdu ∷ under_way own coming) (under_way own coming))) away

-- the first comes in, and stays
first_in : (W : Way) → Comes_again W → (channel : Channel) (pair : Pair) (pdu : List ℕ) (coming : List (List ℕ)) → Takes_so channel pair.near → Owed W channel pair (pdu ∷ coming) pair.near.run.up → Owed W channel pair (pdu ∷ coming) (pair.near.run.up ++ up (channel_of pdu) pdu pair.near.run.value ∷ [])
first_in W again channel pair pdu coming so h = by (eqb (channel_of pdu) channel.own) refl
  where
    v : Channels
    v = pair.near.run.value

    sent : List (List ℕ)
    sent = sent_on (mirrored channel) pair.far.run.said

    by : (here : Bool) → eqb (channel_of pdu) channel.own ≡ here → Owed W channel pair (pdu ∷ coming) (pair.near.run.up ++ up (channel_of pdu) pdu v ∷ [])
    by true here =
        let flight : Flight channel.own (pdu ∷ coming) ≡ drop 4 pdu ∷ Flight channel.own coming = flight_first channel.own pdu coming here in
        subst (λ f. Owes pair.far.policy channel.peer sent f (W (sdus_up channel.own (pair.near.run.up ++ up (channel_of pdu) pdu v ∷ []))) pair.far.run.value) (sym flight)
        (subst (λ c. Owes pair.far.policy channel.peer sent (drop 4 pdu ∷ Flight channel.own coming) (W c) pair.far.run.value) (sym (up_of_it channel.own pair.near.run.up v pdu so.high (eqb-true (channel_of pdu) channel.own here)))
        (first_comes W again pair.far.policy channel.peer sent (Flight channel.own coming) (sdus_up channel.own pair.near.run.up) (drop 4 pdu) (sdu_for (held_at channel.own v) pdu) pair.far.run.value (came_for channel.own v pdu so.basic)
        (subst (λ f. Owes pair.far.policy channel.peer sent f (W (sdus_up channel.own pair.near.run.up)) pair.far.run.value) flight h)))
    by false away = other_in W channel pair pdu (pdu ∷ coming) away h

-- the first comes in, and is gone
taken_in : (W : Way) → Reaches W → (channel : Channel) (pair : Pair) (pdu : List ℕ) (coming : List (List ℕ)) → Takes_so channel pair.near → Owed W channel pair (pdu ∷ coming) pair.near.run.up → Owed W channel pair coming (pair.near.run.up ++ up (channel_of pdu) pdu pair.near.run.value ∷ [])
taken_in W reaches channel pair pdu coming so h = by (eqb (channel_of pdu) channel.own) refl
  where
    v : Channels
    v = pair.near.run.value

    sent : List (List ℕ)
    sent = sent_on (mirrored channel) pair.far.run.said

    by : (here : Bool) → eqb (channel_of pdu) channel.own ≡ here → Owed W channel pair coming (pair.near.run.up ++ up (channel_of pdu) pdu v ∷ [])
    by true here =
        subst (λ c. Owes pair.far.policy channel.peer sent (Flight channel.own coming) (W c) pair.far.run.value) (sym (up_of_it channel.own pair.near.run.up v pdu so.high (eqb-true (channel_of pdu) channel.own here)))
        (first_taken W reaches pair.far.policy channel.peer sent (Flight channel.own coming) (sdus_up channel.own pair.near.run.up) (drop 4 pdu) (sdu_for (held_at channel.own v) pdu) pair.far.run.value (came_for channel.own v pdu so.basic)
        (subst (λ f. Owes pair.far.policy channel.peer sent f (W (sdus_up channel.own pair.near.run.up)) pair.far.run.value) (flight_first channel.own pdu coming here) h))
    by false away =
        other_in W channel pair pdu coming away (subst (λ f. Owes pair.far.policy channel.peer sent f (W (sdus_up channel.own pair.near.run.up)) pair.far.run.value) (flight_other channel.own pdu coming away) h)

-- the first is gone
pop_owed : (W : Way) → Reaches W → (channel : Channel) (pair : Pair) (pdu : List ℕ) (coming : List (List ℕ)) (ups : List Up) → Owed W channel pair (pdu ∷ coming) ups → Owed W channel pair coming ups
pop_owed W reaches channel pair pdu coming ups h = by (eqb (channel_of pdu) channel.own) h
  where
    by : (here : Bool) → Owes pair.far.policy channel.peer (sent_on (mirrored channel) pair.far.run.said) (map (drop 4) (cond here (pdu ∷ under_way channel.own coming) (under_way channel.own coming))) (W (sdus_up channel.own ups)) pair.far.run.value → Owed W channel pair coming ups
    by true h = first_gone W reaches pair.far.policy channel.peer (sent_on (mirrored channel) pair.far.run.said) (Flight channel.own coming) (sdus_up channel.own ups) (drop 4 pdu) pair.far.run.value h
    by false h = h

-- where a basic channel has a check word nothing is handed up
unchecked : (own : ℕ) (v : Channels) (pdu : List ℕ) → IsBasic own v → has_fcs own v ≡ true → sdu_for (held_at own v) pdu ≡ None
unchecked own v pdu basic = of (held_at own v) refl
  where
    by : (held : Held) (setup : Setup) (carrier : Option Carrier) → held_at own v ≡ Some held → setup_of held.stage ≡ Some setup → setup.carrier ≡ carrier → is_retransmitting carrier ≡ false
    by held setup None found has is = refl
    by held setup (Some (Plain agreed waiting)) found has is = refl
    by held setup (Some (Retransmitting machine)) found has is = let never : Enhanced ≡ Basic = basic held setup (Retransmitting machine) found has is in absurd cc

    on : (held : Held) (stage : Stage) → held_at own v ≡ Some held → held.stage ≡ stage → has_fcs_at stage ≡ true → sdu_at stage pdu ≡ None
    on held (Requested request) found is checked = refl
    on held (Connected peer setup) found is checked =
        let never : false ≡ true = sym (by held setup setup.carrier found (ap setup_of is) refl) ∙ and-right (is_stated setup.own) (is_retransmitting setup.carrier) checked in absurd cc
    on held (Leaving peer setup request) found is checked = refl
    on held (Closing peer request still) found is checked = refl
    on held (Crossed peer request) found is checked = refl

    of : (held : Option Held) → held_at own v ≡ held → has_fcs_on held ≡ true → sdu_for held pdu ≡ None
    of None found checked = refl
    of (Some held) found checked = on held held.stage found refl checked

-- by what it does
pub acts_up : (own : ℕ) (more : Occurrence) (v : Channels) → is_alone more ≡ true → sdu_up own (up_with more v) ≡ None
acts_up own (Comes pdu) v alone = cc
acts_up own (Connects psm) v alone = refl
acts_up own AsksFeatures v alone = refl
acts_up own (Disconnects other) v alone = refl
acts_up own (Sends other sdu) v alone = refl
acts_up own (Gives pdu) v alone = cc
acts_up own Fires v alone = refl
acts_up own Tells v alone = refl

pub none_up : (W : Way) (channel : Channel) (pair : Pair) (coming : List (List ℕ)) (now : Up) → sdu_up channel.own now ≡ None → Owed W channel pair coming pair.near.run.up → Owed W channel pair coming (pair.near.run.up ++ now ∷ [])
none_up W channel pair coming now none h = subst (λ c. Owes pair.far.policy channel.peer (sent_on (mirrored channel) pair.far.run.said) (Flight channel.own coming) (W c) pair.far.run.value) (sym (up-nothing channel.own pair.near.run.up now none)) h

-- whatever happens at it
near_taken : (W : Way) → Reaches W → (channel : Channel) (pair : Pair) (happening : Happening) → Allows W happening → Takes_so channel pair.near → IsCarried happening pair.near → Delivers W (mirrored channel) (turned pair) → Delivers W (mirrored channel) (turned (happens_near happening pair))
near_taken W reaches channel pair (Acts occurrence) allows so carried h = by (is_alone occurrence) refl
  where
    by : (alone : Bool) → is_alone occurrence ≡ alone → Delivers W (mirrored channel) (turned (cond alone (with_near (occurs occurrence pair.near) pair) pair))
    by true alone = none_up W channel pair pair.near.coming (up_with occurrence pair.near.run.value) (acts_up channel.own occurrence pair.near.run.value alone) h
    by false alone = h
near_taken W reaches channel pair (Puts pdu) allows so carried h = by (next_given pair.near.run.value)
  where
    by : (given : Option Given) → Delivers W (mirrored channel) (turned (puts given pdu pair))
    by None = h
    by (Some given) = none_up W channel pair pair.near.coming Nothing refl h
near_taken W reaches channel pair Takes allows so carried h = by pair.near.coming refl
  where
    by : (coming : List (List ℕ)) → pair.near.coming ≡ coming → Delivers W (mirrored channel) (turned (with_near (takes_first coming pair.near) pair))
    by [] is = h
    by (pdu ∷ coming) is = taken_in W reaches channel pair pdu coming so (subst (λ c. Owed W channel pair c pair.near.run.up) is h)
near_taken W reaches channel pair Repeats allows so carried h = by pair.near.coming refl
  where
    by : (coming : List (List ℕ)) → pair.near.coming ≡ coming → Delivers W (mirrored channel) (turned (with_near (repeats_first coming pair.near) pair))
    by [] is = h
    by (pdu ∷ coming) is =
        let ups : List Up = pair.near.run.up ++ up (channel_of pdu) pdu pair.near.run.value ∷ [] in
        subst (λ c. Owed W channel pair c ups) (sym is) (first_in W allows channel pair pdu coming so (subst (λ c. Owed W channel pair c pair.near.run.up) is h))
near_taken W reaches channel pair Loses allows so carried h = by pair.near.coming refl
  where
    by : (coming : List (List ℕ)) → pair.near.coming ≡ coming → Delivers W (mirrored channel) (turned (with_near (loses_first coming pair.near) pair))
    by [] is = h
    by (pdu ∷ coming) is = pop_owed W reaches channel pair pdu coming pair.near.run.up (subst (λ c. Owed W channel pair c pair.near.run.up) is h)
near_taken W reaches channel pair (Damages other) allows so carried h = by pair.near.coming refl carried
  where
    on : (pdu : List ℕ) (coming : List (List ℕ)) (here checked : Bool) → eqb (channel_of pdu) channel.own ≡ here → has_fcs (channel_of pdu) pair.near.run.value ≡ checked → IsSeen (pdu ∷ coming) other → Owed W channel pair coming pair.near.run.up
        → Delivers W (mirrored channel) (turned (with_near (cond checked (occurs (Comes other) (let_go coming pair.near)) (let_go coming pair.near)) pair))
    on pdu coming here false to is seen left = left
    on pdu coming true true to is seen left =
        let here : channel_of pdu ≡ channel.own = eqb-true (channel_of pdu) channel.own to in
        let v : Channels = pair.near.run.value in
        let none : sdu_for (held_at channel.own v) other ≡ None = unchecked channel.own v other so.basic (sym (ap (λ n. has_fcs n v) here) ∙ is) in
        subst (λ c. Owes pair.far.policy channel.peer (sent_on (mirrored channel) pair.far.run.said) (Flight channel.own coming) (W c) pair.far.run.value)
        (sym (up_of_it channel.own pair.near.run.up v other so.high (seen.0 ∙ here) ∙ (ap (λ o. sdus_up channel.own pair.near.run.up ++ option_to_list o) none ∙ append-nil (sdus_up channel.own pair.near.run.up)))) left
    on pdu coming false true to is seen left = other_in W channel pair other coming (ap (λ n. eqb n channel.own) seen.0 ∙ to) left

    by : (coming : List (List ℕ)) → pair.near.coming ≡ coming → IsSeen coming other → Delivers W (mirrored channel) (turned (with_near (damages_first other coming pair.near) pair))
    by [] is seen = h
    by (pdu ∷ coming) is seen =
        on pdu coming (eqb (channel_of pdu) channel.own) (has_fcs (channel_of pdu) pair.near.run.value) refl refl seen (pop_owed W reaches channel pair pdu coming pair.near.run.up (subst (λ c. Owed W channel pair c pair.near.run.up) is h))

-- ---- all turns

-- both ways
pub record Ferries (W : Way) (channel : Channel) (pair : Pair) : Type 0 where
  pub there : Delivers W channel pair
  pub back : Delivers W (mirrored channel) (turned pair)

pub record Ends_so (channel : Channel) (pair : Pair) : Type 0 where
  pub near_sole : IsSole channel.own channel.peer pair.near.run.value
  pub near_basic : IsBasic channel.own pair.near.run.value
  pub far_sole : IsSole channel.peer channel.own pair.far.run.value
  pub far_basic : IsBasic channel.peer pair.far.run.value

record High (channel : Channel) : Type 0 where
  own : 0x0040 ≤ channel.own
  peer : 0x0040 ≤ channel.peer

near_ferries : (W : Way) → Reaches W → (channel : Channel) (pair : Pair) (happening : Happening) → Allows W happening → High channel → IsSound pair.near.policy pair.near.run → Ends_so channel pair → DoesSo IsUttered happening pair.near → IsCarried happening pair.near
    → Ferries W channel pair → Ferries W channel (happens_near happening pair)
near_ferries W reaches channel pair happening allows high sound so uttered carried f = record {
  there = near_owed W reaches.grows channel pair happening (record { high = high.peer; sound = sound; sole = so.near_sole; basic = so.near_basic }) uttered carried f.there;
  back = near_taken W reaches channel pair happening allows (record { high = high.own; basic = so.near_basic }) carried f.back;
}

side_ferries : (W : Way) → Reaches W → (near far : Policy) (channel : Channel) (pair : Pair) (side : Side) (happening : Happening) → Allows W happening → High channel → BothRun IsUttered near far pair → Ends_so channel pair → DoesSo IsUttered happening (end_at side pair)
    → IsCarried happening (end_at side pair) → Ferries W channel pair → Ferries W channel (happens_at side happening pair)
side_ferries W reaches near far channel pair Near happening allows high runs so uttered carried f = near_ferries W reaches channel pair happening allows high (sound-of IsUttered near pair.near runs.near_runs) so uttered carried f
side_ferries W reaches near far channel pair Far happening allows high runs so uttered carried f =
    let after = near_ferries W reaches (mirrored channel) (turned pair) happening allows (record { own = high.peer; peer = high.own }) (sound-of IsUttered far pair.far runs.far_runs)
    (record { near_sole = so.far_sole; near_basic = so.far_basic; far_sole = so.near_sole; far_basic = so.near_basic }) uttered carried (record { there = f.back; back = f.there }) in
    record { there = after.back; back = after.there }

all_ferried : (W : Way) → Reaches W → (near far : Policy) (channel : Channel) (all past rest : List Turn) → High channel → ((front behind : List Turn) → all ≡ front ++ behind → Ends_so channel (pair_of near far front)) → all ≡ past ++ rest → AllByRecursion (λ turn. Allows W turn.happening) rest
    → EachAfter (λ front turn. DoesSo IsUttered turn.happening (end_at turn.side (pair_of near far front))) past rest → EachAfter (λ front turn. IsCarried turn.happening (end_at turn.side (pair_of near far front))) past rest
    → BothRun IsUttered near far (pair_of near far past) → Ferries W channel (pair_of near far past) → Ferries W channel (pair_of near far all)
all_ferried W reaches near far channel all past [] high so is allowed uttered carried runs f = subst (λ list. Ferries W channel (pair_of near far list)) (sym (is ∙ append-nil past)) f
all_ferried W reaches near far channel all past (turn ∷ rest) high so is (allows, allowed) (now, uttered) (passes, carried) runs f =
    all_ferried W reaches near far channel all (past ++ turn ∷ []) rest high so (is ∙ sym (append_assoc past (turn ∷ []) rest)) allowed uttered carried
    (subst (BothRun IsUttered near far) (sym next) (at-runs IsUttered near far turn.side turn.happening pair (λ pdu v. tt) now runs))
    (subst (Ferries W channel) (sym next) (side_ferries W reaches near far channel pair turn.side turn.happening allows high runs (so past (turn ∷ rest) is) now passes f))
  where
    pair : Pair
    pair = pair_of near far past

    next : pair_of near far (past ++ turn ∷ []) ≡ happens_at turn.side turn.happening pair
    next = fold-append pair_after (new_pair near far) past (turn ∷ [])

first_owes : (W : Way) → Reaches W → (policy : Policy) (channel : Channel) (far : Policy) → Ferries W channel (new_pair policy far)
first_owes W reaches policy channel far = record {
  there = record { done = []; rest = []; sent_is = refl; reached = reaches.first; held = tt; before = λ above. refl };
  back = record { done = []; rest = []; sent_is = refl; reached = reaches.first; held = tt; before = λ above. refl };
}

pub ends_at : (near far : Policy) (turns : List Turn) (channel : Channel) → AreRead near far turns → HaveChannel near far turns channel → OneWishes near far channel.psm Basic → (front behind : List Turn) → turns ≡ front ++ behind → Ends_so channel (pair_of near far front)
ends_at near far turns channel read have wish front behind is = record {
  near_sole = near_so.0;
  near_basic = one-wished Basic _ _ channel.own (pair_of near far front).near.run.value wish near_so.1;
  far_sole = far_so.0;
  far_basic = one-wished Basic _ _ channel.peer (pair_of near far front).far.run.value (other-wishes near far channel.psm Basic wish) far_so.1;
}
  where
    whole : AreRead near far (front ++ behind)
    whole = subst (AreRead near far) is read

    near_so : IsSole channel.own channel.peer (pair_of near far front).near.run.value × AreWished (near.wish channel.psm).mode (far.wish channel.psm).mode channel.own (pair_of near far front).near.run.value
    near_so = sole-at near far near front behind Near channel whole
        (let (list, runs) = (each-end_runs near far front).0 in subst (IsSound near) (sym runs) (all-sound near list))
        (subst (λ x. IsOf channel (read_at channel.own (reading (pair_of near far x).near.run.said).entries)) is have.near_has) (subst (λ x. IsOf (mirrored channel) (read_at channel.peer (reading (pair_of near far x).far.run.said).entries)) is have.far_has)

    far_so : IsSole channel.peer channel.own (pair_of near far front).far.run.value × AreWished (far.wish channel.psm).mode (near.wish channel.psm).mode channel.peer (pair_of near far front).far.run.value
    far_so = sole-at near far far front behind Far (mirrored channel) whole
        (let (list, runs) = (each-end_runs near far front).1 in subst (IsSound far) (sym runs) (all-sound far list))
        (subst (λ x. IsOf (mirrored channel) (read_at channel.peer (reading (pair_of near far x).far.run.said).entries)) is have.far_has) (subst (λ x. IsOf channel (read_at channel.own (reading (pair_of near far x).near.run.said).entries)) is have.near_has)

-- so both ways of a channel that two hosts have in common
pub all-ferries : (W : Way) → Reaches W → (near far : Policy) (turns : List Turn) (channel : Channel) → AllByRecursion (λ turn. Allows W turn.happening) turns → AreFair near far turns → AreRead near far turns → AreCarried near far turns → HaveChannel near far turns channel
    → OneWishes near far channel.psm Basic → Ferries W channel (pair_of near far turns)
all-ferries W reaches near far turns channel allowed uttered read passes have wish =
    all_ferried W reaches near far channel turns [] turns (record { own = high-at near (pair_of near far turns).near.run channel channel.own runs.0 have.near_has; peer = high-at far (pair_of near far turns).far.run (mirrored channel) channel.peer runs.1 have.far_has }) (ends_at near far turns channel read have wish) refl allowed uttered passes (first-runs IsUttered near far)
    (first_owes W reaches near channel far)
  where
    runs : IsRunOf near (pair_of near far turns).near.run × IsRunOf far (pair_of near far turns).far.run
    runs = each-end_runs near far turns
