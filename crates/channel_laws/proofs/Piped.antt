-- An enhanced channel that two hosts have in common is a pipe of SDUs.
use Rattle.std.proofs.Common.{◌≡◌, ℕ, ◌<◌, ◌≤◌, List, [], ◌∷◌, ◌++◌, length, Bool, true, false, cond, eqb, ◌&&◌, Option, Some, None, refl, sym, ap, subst, ◌∙◌, inr, append_assoc, append-nil}
use Rattle.std.specs.Prelude.{find, filter, drop, map, option_map, option_to_list, unwrap_or}
use Rattle.std.specs.List.{cons_option}
use Rattle.std.proofs.lemmas.Bool.{eqb-true}
use Rattle.std.proofs.lemmas.List.Elements.{filter_map-append}
use Rattle.own_channel_laws.specs.talk_laws.specs.bt_base.proofs.OctetLemmas.{le16-number}
use Rattle.own_channel_laws.specs.talk_laws.specs.acl_fragments.specs.Pieces.{channel_of}
use Rattle.own_channel_laws.specs.talk_laws.specs.capture.specs.declared.flow.Flow.TheVariants.{Out, Into}
use Rattle.own_channel_laws.specs.talk_laws.specs.l2cap_signal.specs.Reading.{answers}
use Rattle.own_channel_laws.specs.talk_laws.specs.l2cap_config.specs.declared.wish.Agreed.{Agreed}
use Rattle.own_channel_laws.specs.talk_laws.specs.ertm_frames.specs.Frames.{PlainFrame}
use Rattle.own_channel_laws.specs.talk_laws.specs.ertm_frames.specs.Reading.{frame_in}
use Rattle.own_channel_laws.specs.talk_laws.specs.ertm_frames.specs.Picking.{In, outs}
use Rattle.own_channel_laws.specs.talk_laws.specs.ertm_frames.proofs.Telling.{outs-same}
use Rattle.own_channel_laws.specs.talk_laws.specs.link_talk.specs.declared.channel.Channel.{Channel}
use Rattle.own_channel_laws.specs.talk_laws.specs.link_talk.specs.declared.party.Party.{Party}
use Rattle.own_channel_laws.specs.talk_laws.specs.link_talk.specs.Sayings.{Saying, Carried}
use Rattle.own_channel_laws.specs.talk_laws.specs.link_talk.specs.Setups.{is_set}
use Rattle.own_channel_laws.specs.talk_laws.specs.link_talk.specs.Channels.{Entry, is_there, reading}
use Rattle.own_channel_laws.specs.talk_laws.specs.link_talk.specs.Carriages.{is_passed, is_held, carried}
use Rattle.own_channel_laws.specs.talk_laws.specs.link_talk.specs.Accounts.{frames_passed}
use Rattle.own_channel_laws.specs.channel_model.specs.Value.{Carrier, Plain, Retransmitting, Setup, Stage, Requested, Connected, Leaving, Closing, Crossed, Held, Channels}
use Rattle.own_channel_laws.specs.channel_model.specs.Policies.{Policy}
use Rattle.own_channel_laws.specs.channel_model.specs.Changing.{has_own, held_at, is_open, setup_of}
use Rattle.own_channel_laws.specs.channel_model.specs.Carrying.{Up, Nothing, sdu_at, up_by, up_on, up_at, takes}
use Rattle.own_channel_laws.specs.channel_model.specs.Hearing.{hears_commands, hears, up}
use Rattle.own_channel_laws.specs.channel_model.specs.Giving.{headed}
use Rattle.own_channel_laws.specs.channel_model.specs.Calls.{setup_on, open_carrier, carrier_if, carrier_at, carrier_mtu, peer_mtu, connected, asks_features, disconnected, sends_on, sends_held, sends, after_event}
use Rattle.own_channel_laws.specs.channel_model.specs.Timing.{timed_out}
use Rattle.own_channel_laws.specs.channel_model.proofs.Lookups.{own_of, eqb-same, found-has, find-placed}
use Rattle.own_channel_laws.specs.channel_model.proofs.Going.{Walks}
use Rattle.own_channel_laws.specs.channel_model.proofs.Walking.{found-own, commands-go}
use Rattle.own_channel_laws.specs.channel_model.proofs.Calling.{connected-goes, asks-features-goes, disconnected-goes, timed-goes}
use Rattle.own_channel_laws.specs.OwnTalk.{asked_between, said_with_all}
use Rattle.own_channel_laws.specs.Runs.{Occurrence, Comes, Connects, AsksFeatures, Disconnects, Sends, Gives, Fires, Tells, peer_at, given_up, said_by_channels, said_by_carrier, said_in, sdu_up, sdus_up}
use Rattle.own_channel_laws.specs.Views.{peer_of, read_at}
use Rattle.own_channel_laws.specs.Frames.{IsUttered}
use Rattle.channel_laws.specs.Pairs.{Pair, is_alone, occurs, with_near}
use Rattle.channel_laws.specs.Common.{mirrored}
use Rattle.channel_laws.specs.Pipes.{IsTakeable, Suits}
use Rattle.own_channel_laws.proofs.Sound.{ReadsBy, Reads as IsReadAs, Sound}
use Rattle.own_channel_laws.proofs.Running.{IsSound}
use Rattle.own_channel_laws.proofs.Keeping.{KeepsOn, walks-keep}
use Rattle.own_channel_laws.proofs.Signalling.{IsBare, bare-asked, bare-left, bare-with_all, bare-fired}
use Rattle.own_channel_laws.proofs.Carriages.{goes_over, carried-none, counted_in}
use Rattle.own_channel_laws.proofs.Taking.{takes-others}
use Rattle.own_channel_laws.proofs.Receiving.{up-nothing}
use Rattle.own_channel_laws.proofs.Passing.{Fired, heard_in}
use Rattle.own_channel_laws.proofs.Passages.{none_more, bare-passes, into-other, into-own}
use Rattle.channel_laws.proofs.Joining.{Seen, Terms, Joined, Kept, keeps-kept, joined-walks, joined-same}
use Rattle.channel_laws.proofs.Partaking.{IsSole, IsMate, Agrees, CanHear, sdu_for, joined-takes, IsShort, SendsShort, joined-sends}

-- ---- what is seen of a channel

abbrev pub frames_said : Party → Channel → List Saying → List PlainFrame
frames_said party channel said = outs (frames_passed party channel said)

abbrev pub is_to : ℕ → List ℕ → Bool
is_to own pdu = eqb (channel_of pdu) own

abbrev pub under_way : ℕ → List (List ℕ) → List (List ℕ)
under_way own coming = filter (is_to own) coming

-- the two hosts have it in common, where the near one is so
abbrev pub Next : Party → Terms → Channel → Pair → (said : List PlainFrame) → (to_near to_far near_up : List (List ℕ)) → Channels → Type 0
Next party t channel pair said to_near to_far near_up v =
    let d : Seen = record { near_said = said; far_said = frames_said party (mirrored channel) pair.far.run.said; to_near = to_near; to_far = to_far } in
    Joined pair.near.policy pair.far.policy t channel.own channel.peer d near_up (sdus_up channel.peer pair.far.run.up) v pair.far.run.value

abbrev pub Piped : Party → Terms → Channel → Pair → Type 0
Piped party t channel pair =
    Next party t channel pair (frames_said party channel pair.near.run.said) (under_way channel.own pair.near.coming) (under_way channel.peer pair.far.coming) (sdus_up channel.own pair.near.run.up) pair.near.run.value

-- ---- what is said elsewhere

-- for another endpoint than the channel's
pub carried-elsewhere : (policy : Policy) (channel : Channel) (past : List Saying) (v : Channels) (pdu : List ℕ) → Sound policy (reading past) v → IsSole channel.own channel.peer v → eqb channel.peer (channel_of pdu) ≡ false → carried is_passed channel past (Carried Out pdu) ≡ []
carried-elsewhere policy channel past v pdu sound sole away = carried-none is_passed channel past Out pdu (by (held_at channel.own v) (read_at channel.own (reading past).entries) refl refl (sound.core.reads channel.own))
  where
    not_there : (x : Entry) → is_there x.life ≡ false → goes_over is_passed Out pdu (Some x) ≡ false
    not_there x gone = off (is_set x.setup) (is_there x.life) (eqb x.channel.peer (channel_of pdu)) gone
      where
        off : (a b c : Bool) → b ≡ false → ((a && b) && c) ≡ false
        off true false c is = refl
        off false false c is = refl
        off a true c is = cc

    not_its : (x : Entry) → x.channel.peer ≡ channel.peer → goes_over is_passed Out pdu (Some x) ≡ false
    not_its x same = off (is_held x) (eqb x.channel.peer (channel_of pdu)) (ap (λ n. eqb n (channel_of pdu)) same ∙ away)
      where
        off : (a b : Bool) → b ≡ false → (a && b) ≡ false
        off true b is = is
        off false b is = refl

    on : (held : Held) (peer : Option ℕ) (x : Entry) → held_at channel.own v ≡ Some held → peer_of held.stage ≡ peer → ReadsBy policy held peer (Some x) → goes_over is_passed Out pdu (Some x) ≡ false
    on held None x at to reads = elim reads [ ]
    on held (Some peer) x at to (there, agrees) = not_its x (ap (λ (c : Channel). c.peer) there.channel_is ∙ sole.for held peer at to)

    by : (held : Option Held) (found : Option Entry) → held_at channel.own v ≡ held → read_at channel.own (reading past).entries ≡ found → IsReadAs policy held found → goes_over is_passed Out pdu found ≡ false
    by held None at is reads = refl
    by None (Some x) at is reads = not_there x (ap is_there reads)
    by (Some held) (Some x) at is reads = on held (peer_of held.stage) x at refl reads

pub passed-elsewhere : (policy : Policy) (party : Party) (channel : Channel) (past : List Saying) (v : Channels) (pdu : List ℕ) → Sound policy (reading past) v → IsSole channel.own channel.peer v → eqb channel.peer (channel_of pdu) ≡ false
    → frames_passed party channel (past ++ Carried Out pdu ∷ []) ≡ frames_passed party channel past
passed-elsewhere policy party channel past v pdu sound sole away = none_more party channel past (Carried Out pdu) (carried-elsewhere policy channel past v pdu sound sole away)

pub said-elsewhere : (policy : Policy) (party : Party) (channel : Channel) (past : List Saying) (v : Channels) (pdu : List ℕ) → Sound policy (reading past) v → IsSole channel.own channel.peer v → eqb channel.peer (channel_of pdu) ≡ false
    → frames_said party channel (past ++ Carried Out pdu ∷ []) ≡ frames_said party channel past
said-elsewhere policy party channel past v pdu sound sole away = ap outs (passed-elsewhere policy party channel past v pdu sound sole away)

-- what comes in is not said
said_with_heard : (party : Party) (channel : Channel) (past : List Saying) (pdu : List ℕ) → frames_said party channel (past ++ Carried Into pdu ∷ []) ≡ frames_said party channel past
said_with_heard party channel past pdu = by (eqb (channel_of pdu) channel.own) refl
  where
    none : (found : Option PlainFrame) → outs (frames_passed party channel past ++ option_to_list (option_map In found)) ≡ frames_said party channel past
    none None = ap outs (append-nil (frames_passed party channel past))
    none (Some frame) = outs-same (frames_passed party channel past) frame

    over : (holds : Bool) → outs (frames_passed party channel past ++ cond holds (heard_in party.frame pdu) []) ≡ frames_said party channel past
    over true = none (frame_in party.frame pdu)
    over false = ap outs (append-nil (frames_passed party channel past))

    by : (here : Bool) → eqb (channel_of pdu) channel.own ≡ here → frames_said party channel (past ++ Carried Into pdu ∷ []) ≡ frames_said party channel past
    by true here = ap outs (into-own party channel past pdu (counted_in is_passed (read_at channel.own (reading past).entries)) here refl) ∙ over (counted_in is_passed (read_at channel.own (reading past).entries))
    by false here = ap outs (into-other party channel past pdu here)

-- ---- one step

quiet_next : (party : Party) (t : Terms) (channel : Channel) (pair : Pair) (to_near to_far : List (List ℕ)) (said : List Saying) (now : Up) (v : Channels) → IsBare said → sdu_up channel.own now ≡ None
    → Next party t channel pair (frames_said party channel pair.near.run.said) to_near to_far (sdus_up channel.own pair.near.run.up) v
    → Next party t channel pair (frames_said party channel (pair.near.run.said ++ said)) to_near to_far (sdus_up channel.own (pair.near.run.up ++ now ∷ [])) v
quiet_next party t channel pair to_near to_far said now v bare none h =
    subst (λ s. Next party t channel pair s to_near to_far (sdus_up channel.own (pair.near.run.up ++ now ∷ [])) v) (sym (ap outs (bare-passes party channel said pair.near.run.said bare)))
    (subst (λ u. Next party t channel pair (frames_said party channel pair.near.run.said) to_near to_far u v) (sym (up-nothing channel.own pair.near.run.up now none)) h)

-- what all walks of a host keep of it
abbrev Kept_in : Party → Terms → Channel → Pair → (to_near to_far : List (List ℕ)) → Channels → Channels → Type 0
Kept_in party t channel pair to_near to_far v w =
    let d : Seen = record { near_said = frames_said party channel pair.near.run.said; far_said = frames_said party (mirrored channel) pair.far.run.said; to_near = to_near; to_far = to_far } in
    KeepsOn pair.near.policy (Kept pair.far.policy t d channel.own channel.peer (sdus_up channel.own pair.near.run.up) (sdus_up channel.peer pair.far.run.up) pair.far.run.value) v w

walks_in : (party : Party) (t : Terms) (channel : Channel) (pair : Pair) (to_near to_far : List (List ℕ)) → Walks pair.near.policy Fired (Kept_in party t channel pair to_near to_far)
walks_in party t channel pair to_near to_far = walks-keep pair.near.policy Fired _ (keeps-kept pair.near.policy pair.far.policy t _ channel.own channel.peer _ _ pair.far.run.value)

walked : (party : Party) (t : Terms) (channel : Channel) (pair : Pair) (to_near to_far : List (List ℕ)) (said : List Saying) (now : Up) (w : Channels) → IsSound pair.near.policy pair.near.run → IsBare said → sdu_up channel.own now ≡ None
    → Kept_in party t channel pair to_near to_far pair.near.run.value w → Next party t channel pair (frames_said party channel pair.near.run.said) to_near to_far (sdus_up channel.own pair.near.run.up) pair.near.run.value
    → Next party t channel pair (frames_said party channel (pair.near.run.said ++ said)) to_near to_far (sdus_up channel.own (pair.near.run.up ++ now ∷ [])) w
walked party t channel pair to_near to_far said now w sound bare none keeps h =
    quiet_next party t channel pair to_near to_far said now w bare none (joined-walks pair.near.policy pair.far.policy t channel.own channel.peer _ _ _ pair.near.run.value w pair.far.run.value sound.core.held_below keeps h)

-- ---- what a host does by itself

mate_agrees : (agreed : Agreed) (own peer : ℕ) (v : Channels) → IsMate agreed own peer v → Agrees agreed own v
mate_agrees agreed own peer v mate held setup carrier found has is = mate.enhanced held setup carrier found has is

takeable : (own : ℕ) (sdu : List ℕ) (v : Channels) → ((most : ℕ) → peer_mtu own v ≡ Some most → length sdu ≤ most) → SendsShort sdu own v
takeable own sdu v short held setup carrier found has opened is = by carrier (ap (option_map carrier_mtu) (ap (λ h. open_carrier (setup_on h)) found ∙ (ap open_carrier has ∙ (ap (λ b. carrier_if b setup) opened ∙ is))))
  where
    by : (c : Carrier) → peer_mtu own v ≡ Some (carrier_mtu c) → IsShort sdu c
    by (Plain agreed waiting) mtu = tt
    by (Retransmitting machine) mtu = short machine.agreed.send_mtu mtu

pub peered : (held : Held) (stage : Stage) (setup : Setup) → held.stage ≡ stage → setup_of stage ≡ Some setup → peer_of held.stage ≡ Some (peer_at (Some held))
peered held (Requested request) setup is has = cc
peered held (Connected peer s) setup is has = let to : peer_of held.stage ≡ Some peer = ap peer_of is in to ∙ ap Some (sym (ap (λ o. unwrap_or o 0) to))
peered held (Leaving peer s request) setup is has = let to : peer_of held.stage ≡ Some peer = ap peer_of is in to ∙ ap Some (sym (ap (λ o. unwrap_or o 0) to))
peered held (Closing peer request checked) setup is has = cc
peered held (Crossed peer request) setup is has = cc

-- an SDU that is sent on the channel, or on another one
pub sends-passed : (t : Agreed) (party : Party) (channel : Channel) (pair : Pair) (own : ℕ) (sdu : List ℕ) → IsSound pair.near.policy pair.near.run → IsMate t channel.own channel.peer pair.near.run.value → peer_at (held_at own pair.near.run.value) < 65536
    → (let v : Channels = pair.near.run.value in let past : List Saying = pair.near.run.said in
    frames_passed party channel (past ++ said_by_carrier (carrier_at own v) (peer_at (held_at own v)) sdu) ≡ frames_passed party channel past)
sends-passed t party channel pair own sdu sound mate fits = of (held_at own v) refl fits
  where
    v : Channels
    v = pair.near.run.value

    past : List Saying
    past = pair.near.run.said

    silent : frames_passed party channel (past ++ []) ≡ frames_passed party channel past
    silent = ap (frames_passed party channel) (append-nil past)

    -- a basic channel is another one, so its peer's endpoint is another one
    apart : (held : Held) (setup : Setup) (agreed : Agreed) (waiting : Option (List ℕ)) (peer : ℕ) → find (has_own held.own) v.held ≡ Some held → setup_of held.stage ≡ Some setup → setup.carrier ≡ Some (Plain agreed waiting) → peer_of held.stage ≡ Some peer → eqb channel.peer peer ≡ false
    apart held setup agreed waiting peer found has is to = on (eqb channel.peer peer) refl
      where
        on : (b : Bool) → eqb channel.peer peer ≡ b → b ≡ false
        on false b_is = refl
        on true b_is =
            let one : held.own ≡ channel.own = mate.sole.alone held setup (Plain agreed waiting) found has is (to ∙ ap Some (sym (eqb-true channel.peer peer b_is))) in
            absurd (mate.enhanced held setup (Plain agreed waiting) (ap (λ n. find (has_own n) v.held) (sym one) ∙ found) has is)

    carries : (held : Held) (setup : Setup) (carrier : Option Carrier) → find (has_own held.own) v.held ≡ Some held → setup_of held.stage ≡ Some setup → setup.carrier ≡ carrier → peer_at (Some held) < 65536
        → frames_passed party channel (past ++ said_by_carrier carrier (peer_at (Some held)) sdu) ≡ frames_passed party channel past
    carries held setup None found has is fits = silent
    carries held setup (Some (Retransmitting machine)) found has is fits = silent
    carries held setup (Some (Plain agreed (Some waiting))) found has is fits = silent
    carries held setup (Some (Plain agreed None)) found has is fits =
        passed-elsewhere pair.near.policy party channel past v (headed (peer_at (Some held)) sdu) sound mate.sole
        (ap (eqb channel.peer) (le16-number (peer_at (Some held)) sdu fits) ∙ apart held setup agreed None (peer_at (Some held)) found has is (peered held held.stage setup refl has))

    opens : (held : Held) (setup : Setup) (opened : Bool) → find (has_own held.own) v.held ≡ Some held → setup_of held.stage ≡ Some setup → peer_at (Some held) < 65536 → frames_passed party channel (past ++ said_by_carrier (carrier_if opened setup) (peer_at (Some held)) sdu) ≡ frames_passed party channel past
    opens held setup true found has fits = carries held setup setup.carrier found has refl fits
    opens held setup false found has fits = silent

    on_setup : (held : Held) (setup : Option Setup) → find (has_own held.own) v.held ≡ Some held → setup_of held.stage ≡ setup → peer_at (Some held) < 65536 → frames_passed party channel (past ++ said_by_carrier (open_carrier setup) (peer_at (Some held)) sdu) ≡ frames_passed party channel past
    on_setup held None found has fits = silent
    on_setup held (Some setup) found has fits = opens held setup (is_open setup) found has fits

    of : (held : Option Held) → held_at own v ≡ held → peer_at held < 65536 → frames_passed party channel (past ++ said_by_carrier (open_carrier (setup_on held)) (peer_at held) sdu) ≡ frames_passed party channel past
    of None found fits = silent
    of (Some held) found fits = on_setup held (setup_of held.stage) (found-own own v held found) refl fits

-- and nothing else comes of one on another
pub sends-others : (own other : ℕ) (sdu : List ℕ) (v : Channels) → eqb own other ≡ false → (held_at other (sends own sdu v) ≡ held_at other v) × ((sends own sdu v).next ≡ v.next)
sends-others own other sdu v away = by (held_at own v) refl
  where
    on : (held : Held) (setup : Option Setup) → held.own ≡ own → (held_at other (sends_on setup sdu held v) ≡ held_at other v) × ((sends_on setup sdu held v).next ≡ v.next)
    on held None same = (refl, refl)
    on held (Some setup) same = (find-placed _ v.held other (ap (λ n. eqb n other) same ∙ away), refl)

    by : (held : Option Held) → held_at own v ≡ held → (held_at other (sends_held held sdu v) ≡ held_at other v) × ((sends_held held sdu v).next ≡ v.next)
    by None found = (refl, refl)
    by (Some held) found = on held (setup_of held.stage) (found-has own_of own v.held held found)

sends_next : (party : Party) (t : Terms) (channel : Channel) (pair : Pair) (own : ℕ) (sdu : List ℕ) → Suits t.mine t.other → IsSound pair.near.policy pair.near.run → IsMate t.mine channel.own channel.peer pair.near.run.value → peer_at (held_at own pair.near.run.value) < 65536
    → ((most : ℕ) → peer_mtu own pair.near.run.value ≡ Some most → length sdu ≤ most) → Piped party t channel pair → Piped party t channel (with_near (occurs (Sends own sdu) pair.near) pair)
sends_next party t channel pair own sdu suits sound mate fits short h =
    subst (λ s. Next party t channel pair s (under_way channel.own pair.near.coming) (under_way channel.peer pair.far.coming) (sdus_up channel.own (pair.near.run.up ++ Nothing ∷ [])) (sends own sdu pair.near.run.value)) (sym (ap outs (sends-passed t.mine party channel pair own sdu sound mate fits)))
    (subst (λ u. Next party t channel pair (frames_said party channel pair.near.run.said) (under_way channel.own pair.near.coming) (under_way channel.peer pair.far.coming) u (sends own sdu pair.near.run.value)) (sym (up-nothing channel.own pair.near.run.up Nothing refl)) (by (eqb own channel.own) refl))
  where
    v : Channels
    v = pair.near.run.value

    d : Seen
    d = record { near_said = frames_said party channel pair.near.run.said; far_said = frames_said party (mirrored channel) pair.far.run.said; to_near = under_way channel.own pair.near.coming; to_far = under_way channel.peer pair.far.coming }

    by : (here : Bool) → eqb own channel.own ≡ here → Joined pair.near.policy pair.far.policy t channel.own channel.peer d (sdus_up channel.own pair.near.run.up) (sdus_up channel.peer pair.far.run.up) (sends own sdu v) pair.far.run.value
    by true is =
        let same : own ≡ channel.own = eqb-true own channel.own is in
        subst (λ n. Joined pair.near.policy pair.far.policy t channel.own channel.peer d (sdus_up channel.own pair.near.run.up) (sdus_up channel.peer pair.far.run.up) (sends n sdu v) pair.far.run.value) (sym same)
        (joined-sends pair.near.policy pair.far.policy t channel.own channel.peer d _ _ v pair.far.run.value sdu suits sound.core.held_below (mate_agrees t.mine channel.own channel.peer v mate) (subst (λ n. SendsShort sdu n v) same (takeable own sdu v short)) h)
    by false away =
        let others = sends-others own channel.own sdu v away in
        joined-same pair.near.policy pair.far.policy t channel.own channel.peer d _ _ v (sends own sdu v) pair.far.run.value others.0 others.1 h

-- something that the host does alone
pub acts-next : (party : Party) (t : Terms) (channel : Channel) (pair : Pair) (more : Occurrence) → is_alone more ≡ true → Suits t.mine t.other → IsSound pair.near.policy pair.near.run → IsMate t.mine channel.own channel.peer pair.near.run.value → IsUttered more pair.near.run.value
    → IsTakeable more pair.near.run.value → Piped party t channel pair → Piped party t channel (with_near (occurs more pair.near) pair)
acts-next party t channel pair (Comes pdu) alone suits sound mate uttered short h = cc
acts-next party t channel pair (Connects psm) alone suits sound mate uttered short h =
    let v : Channels = pair.near.run.value in let w : Channels = connected psm v in
    walked party t channel pair _ _ (asked_between v w) Nothing w sound (bare-asked v w) refl (connected-goes pair.near.policy Fired _ (walks_in party t channel pair _ _) psm v) h
acts-next party t channel pair AsksFeatures alone suits sound mate uttered short h =
    let v : Channels = pair.near.run.value in let w : Channels = asks_features v in
    walked party t channel pair _ _ (asked_between v w) Nothing w sound (bare-asked v w) refl (asks-features-goes pair.near.policy Fired _ (walks_in party t channel pair _ _) v) h
acts-next party t channel pair (Disconnects own) alone suits sound mate uttered short h =
    let v : Channels = pair.near.run.value in let w : Channels = disconnected own v in
    walked party t channel pair _ _ (asked_between v w ++ given_up own v w) Nothing w sound (bare-left own v w) refl (disconnected-goes pair.near.policy Fired _ (walks_in party t channel pair _ _) own v) h
acts-next party t channel pair (Sends own sdu) alone suits sound mate uttered short h = sends_next party t channel pair own sdu suits sound mate uttered short h
acts-next party t channel pair (Gives pdu) alone suits sound mate uttered short h = cc
acts-next party t channel pair Fires alone suits sound mate uttered short h =
    let v : Channels = pair.near.run.value in let owns : List ℕ = map (λ (held : Held). held.own) v.held in
    walked party t channel pair _ _ (said_by_channels pair.near.policy.tries owns v) Nothing (timed_out pair.near.policy v) sound (bare-fired pair.near.policy.tries owns v) refl
    (timed-goes pair.near.policy Fired _ (walks_in party t channel pair _ _) v (λ machine open'. inr (refl, open'))) h
acts-next party t channel pair Tells alone suits sound mate uttered short h =
    quiet_next party t channel pair _ _ [] Nothing (after_event pair.near.run.value) refl refl (joined-same pair.near.policy pair.far.policy t channel.own channel.peer _ _ _ pair.near.run.value (after_event pair.near.run.value) pair.far.run.value refl refl h)

-- ---- a PDU comes in

pub up-more : (own : ℕ) (ups : List Up) (now : Up) → sdus_up own (ups ++ now ∷ []) ≡ sdus_up own ups ++ option_to_list (sdu_up own now)
up-more own ups now = filter_map-append (sdu_up own) ups (now ∷ []) ∙ ap (λ l. sdus_up own ups ++ l) (by (sdu_up own now))
  where
    by : (found : Option (List ℕ)) → cons_option found [] ≡ option_to_list found
    by None = refl
    by (Some sdu) = refl

pub up-here : (own : ℕ) (held : Option Held) (pdu : List ℕ) → ((h : Held) → held ≡ Some h → h.own ≡ own) → sdu_up own (up_on held pdu) ≡ sdu_for held pdu
up-here own None pdu its = refl
up-here own (Some held) pdu its = by (sdu_at held.stage pdu)
  where
    by : (sdu : Option (List ℕ)) → sdu_up own (up_by sdu held) ≡ sdu
    by None = refl
    by (Some sdu) = ap (λ b. cond b (Some sdu) None) (ap (λ n. eqb n own) (its held refl) ∙ eqb-same own)

pub up-away : (own other : ℕ) (held : Option Held) (pdu : List ℕ) → ((h : Held) → held ≡ Some h → h.own ≡ other) → eqb other own ≡ false → sdu_up own (up_on held pdu) ≡ None
up-away own other None pdu its away = refl
up-away own other (Some held) pdu its away = by (sdu_at held.stage pdu)
  where
    by : (sdu : Option (List ℕ)) → sdu_up own (up_by sdu held) ≡ None
    by None = refl
    by (Some sdu) = ap (λ b. cond b (Some sdu) None) (ap (λ n. eqb n own) (its held refl) ∙ away)

pub comes-next : (party : Party) (t : Terms) (channel : Channel) (pair : Pair) (to_near to_far : List (List ℕ)) (pdu : List ℕ) → 0x0040 ≤ channel.own → IsSound pair.near.policy pair.near.run → IsMate t.mine channel.own channel.peer pair.near.run.value
    → IsMate t.mine channel.own channel.peer (hears pair.near.policy (channel_of pdu) pdu pair.near.run.value)
    → (let d : Seen = record { near_said = frames_said party channel pair.near.run.said; far_said = frames_said party (mirrored channel) pair.far.run.said; to_near = to_near; to_far = to_far } in eqb (channel_of pdu) channel.own ≡ true → CanHear t d pdu)
    → Next party t channel pair (frames_said party channel pair.near.run.said) to_near to_far (sdus_up channel.own pair.near.run.up) pair.near.run.value
    → Next party t channel pair (frames_said party channel (pair.near.run.said ++ said_in pair.near.policy (Comes pdu) pair.near.run.value)) to_near to_far (sdus_up channel.own (pair.near.run.up ++ up (channel_of pdu) pdu pair.near.run.value ∷ []))
    (hears pair.near.policy (channel_of pdu) pdu pair.near.run.value)
comes-next party t channel pair to_near to_far pdu high sound mate after hear h = by (eqb (channel_of pdu) 0x0001) refl after
  where
    policy : Policy
    policy = pair.near.policy

    v : Channels
    v = pair.near.run.value

    w : Channels
    w = takes (channel_of pdu) pdu v

    ups : List (List ℕ)
    ups = sdus_up channel.own pair.near.run.up

    d : Seen
    d = record { near_said = frames_said party channel pair.near.run.said; far_said = frames_said party (mirrored channel) pair.far.run.said; to_near = to_near; to_far = to_far }

    said : List Saying
    said = Carried Into pdu ∷ asked_between v w

    on_channel : (here : Bool) → eqb (channel_of pdu) channel.own ≡ here → IsMate t.mine channel.own channel.peer w → Next party t channel pair (frames_said party channel pair.near.run.said) to_near to_far (sdus_up channel.own (pair.near.run.up ++ up_at (channel_of pdu) pdu v ∷ [])) w
    on_channel true here after =
        let same : channel_of pdu ≡ channel.own = eqb-true (channel_of pdu) channel.own here in
        subst (λ u. Next party t channel pair (frames_said party channel pair.near.run.said) to_near to_far u w)
        (sym (up-more channel.own pair.near.run.up (up_at (channel_of pdu) pdu v) ∙ ap (λ o. ups ++ option_to_list o) (up-here channel.own (held_at (channel_of pdu) v) pdu (λ x is. found-has own_of (channel_of pdu) v.held x is ∙ same))))
        (subst (λ n. Next party t channel pair (frames_said party channel pair.near.run.said) to_near to_far (ups ++ option_to_list (sdu_for (held_at n v) pdu)) (takes n pdu v)) (sym same)
        (joined-takes policy pair.far.policy t channel.own channel.peer d ups (sdus_up channel.peer pair.far.run.up) v pair.far.run.value pdu sound.core.held_below (hear here) (mate_agrees t.mine channel.own channel.peer v mate)
        (subst (λ n. Agrees t.mine channel.own (takes n pdu v)) same (mate_agrees t.mine channel.own channel.peer w after)) h))
    on_channel false away after =
        let others = takes-others (channel_of pdu) pdu v in
        subst (λ u. Next party t channel pair (frames_said party channel pair.near.run.said) to_near to_far u w)
        (sym (up-nothing channel.own pair.near.run.up (up_at (channel_of pdu) pdu v) (up-away channel.own (channel_of pdu) (held_at (channel_of pdu) v) pdu (λ x is. found-has own_of (channel_of pdu) v.held x is) away)))
        (joined-same policy pair.far.policy t channel.own channel.peer d ups (sdus_up channel.peer pair.far.run.up) v w pair.far.run.value (others.others channel.own away) others.next_is h)

    by : (signal : Bool) → eqb (channel_of pdu) 0x0001 ≡ signal → IsMate t.mine channel.own channel.peer (cond signal (hears_commands policy (answers (drop 4 pdu)) v) w)
        → Next party t channel pair (frames_said party channel (pair.near.run.said ++ cond signal (said_with_all policy (answers (drop 4 pdu)) v) said)) to_near to_far (sdus_up channel.own (pair.near.run.up ++ cond signal Nothing (up_at (channel_of pdu) pdu v) ∷ []))
        (cond signal (hears_commands policy (answers (drop 4 pdu)) v) w)
    by true is after =
        walked party t channel pair to_near to_far (said_with_all policy (answers (drop 4 pdu)) v) Nothing (hears_commands policy (answers (drop 4 pdu)) v) sound (bare-with_all policy (answers (drop 4 pdu)) v) refl
        (commands-go policy Fired _ (walks_in party t channel pair to_near to_far) (answers (drop 4 pdu)) v) h
    by false is after =
        subst (λ s. Next party t channel pair s to_near to_far (sdus_up channel.own (pair.near.run.up ++ up_at (channel_of pdu) pdu v ∷ [])) w)
        (sym (ap (frames_said party channel) (sym (append_assoc pair.near.run.said (Carried Into pdu ∷ []) (asked_between v w)))
        ∙ (ap outs (bare-passes party channel (asked_between v w) (pair.near.run.said ++ Carried Into pdu ∷ []) (bare-asked v w)) ∙ said_with_heard party channel pair.near.run.said pdu)))
        (on_channel (eqb (channel_of pdu) channel.own) refl after)
