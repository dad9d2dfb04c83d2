-- What the talk of a host says that went out on an enhanced channel is a front of what the channel took.
use Rattle.std.proofs.Common.{◌≡◌, ℕ, List, [], ◌∷◌, ◌++◌, map, Bool, true, false, cond, eqb, Option, Some, None, refl, sym, ap, subst, ◌∙◌, inl, inr, append-nil, append_assoc}
use Rattle.std.specs.Prelude.{find, option_map, drop}
use Rattle.std.specs.List.{filter_map, cons_option}
use Rattle.std.proofs.lemmas.List.Sums.{fold-append}
use Rattle.own_channel_laws.specs.talk_laws.specs.acl_fragments.specs.Pieces.{channel_of}
use Rattle.own_channel_laws.specs.talk_laws.specs.capture.specs.declared.flow.Flow.TheVariants.{Into}
use Rattle.own_channel_laws.specs.talk_laws.specs.capture.specs.Histories.{EachAfter}
use Rattle.own_channel_laws.specs.talk_laws.specs.capture.proofs.HistoryLaws.{given_by-more, each_after-both}
use Rattle.own_channel_laws.specs.talk_laws.specs.l2cap_signal.specs.Reading.{answers}
use Rattle.own_channel_laws.specs.talk_laws.specs.l2cap_config.specs.declared.wish.Mode.TheVariants.{Enhanced}
use Rattle.own_channel_laws.specs.talk_laws.specs.ertm_frames.specs.Frames.{PlainFrame}
use Rattle.own_channel_laws.specs.talk_laws.specs.ertm_frames.specs.Reading.{frame_in}
use Rattle.own_channel_laws.specs.talk_laws.specs.ertm_frames.specs.Joining.{sdus_of}
use Rattle.own_channel_laws.specs.talk_laws.specs.ertm_frames.specs.Picking.{picked, outs, In}
use Rattle.own_channel_laws.specs.talk_laws.specs.ertm_frames.proofs.Telling.{outs-same}
use Rattle.own_channel_laws.specs.talk_laws.specs.link_talk.specs.declared.channel.Channel.{Channel}
use Rattle.own_channel_laws.specs.talk_laws.specs.link_talk.specs.declared.party.Party.{Party}
use Rattle.own_channel_laws.specs.talk_laws.specs.link_talk.specs.Sayings.{Saying, Carried}
use Rattle.own_channel_laws.specs.talk_laws.specs.link_talk.specs.Channels.{Entry, reading}
use Rattle.own_channel_laws.specs.talk_laws.specs.link_talk.specs.Carriages.{Carriage, is_passed, is_on, taker, entry_mode, mode_of}
use Rattle.own_channel_laws.specs.talk_laws.specs.link_talk.specs.Accounts.{passage_in}
use Rattle.own_channel_laws.specs.channel_model.specs.Value.{Carrier, Plain, Retransmitting, Setup, Held, Channels}
use Rattle.own_channel_laws.specs.channel_model.specs.Policies.{Policy}
use Rattle.own_channel_laws.specs.channel_model.specs.Changing.{has_own, is_open, setup_of}
use Rattle.own_channel_laws.specs.channel_model.specs.Hearing.{hears_commands}
use Rattle.own_channel_laws.specs.channel_model.specs.Carrying.{takes}
use Rattle.own_channel_laws.specs.channel_model.specs.Timing.{timed_out}
use Rattle.own_channel_laws.specs.channel_model.specs.Calls.{connected, asks_features, disconnected, after_event}
use Rattle.own_channel_laws.specs.channel_model.proofs.Walking.{commands-go}
use Rattle.own_channel_laws.specs.channel_model.proofs.Calling.{connected-goes, asks-features-goes, disconnected-goes, takes-goes, timed-goes}
use Rattle.own_channel_laws.specs.OwnTalk.{asked_between, said_with_all}
use Rattle.own_channel_laws.specs.Runs.{Occurrence, Comes, Connects, AsksFeatures, Disconnects, Sends, Gives, Fires, Tells, given_up, said_by_channels, said_in, value_after, Run, new_link, run_on, run_of}
use Rattle.own_channel_laws.specs.Views.{read_at}
use Rattle.own_channel_laws.specs.Endpoints.{IsOf}
use Rattle.own_channel_laws.specs.Frames.{IsUttered, AreUttered}
use Rattle.own_channel_laws.specs.Sdus.{StatesFrame}
use Rattle.channel_laws.specs.Pipes.{IsFront}
use Rattle.channel_laws.specs.Taken.{taken_in, taken_of, TakenGoesOut}
use Rattle.own_channel_laws.proofs.Attending.{fires-aside}
use Rattle.own_channel_laws.proofs.Sound.{ReadsBy, Reads, Sound}
use Rattle.own_channel_laws.proofs.Running.{IsSound, all-sound}
use Rattle.own_channel_laws.proofs.Keeping.{HeldKeeps, keep-also}
use Rattle.channel_laws.proofs.Partaking.{kept-on}
use Rattle.own_channel_laws.proofs.Signalling.{IsBare, bare-asked, bare-left, bare-with_all, bare-fired}
use Rattle.own_channel_laws.proofs.Incoming.{channel_at}
use Rattle.own_channel_laws.proofs.Passages.{passed-more, bare-passes}
use Rattle.own_channel_laws.proofs.Holding.{frames_on, Pass, IsRead, is-read}
use Rattle.own_channel_laws.proofs.Frames.{run-passes}
use Rattle.own_channel_laws.proofs.Naming.{endpoints-name_one}
use Rattle.channel_laws.proofs.OwnModes.{modes-are_own}
use Rattle.channel_laws.proofs.Flowing.{sent-are, enhanced-accepted}
use Rattle.channel_laws.proofs.Putting.{puts-front, fresh-timed}
use Rattle.channel_laws.proofs.Drawing.{CarrierPuts, Putting, Leaves, Taken, says_on, Draw, Moves, Draws, walks-draw, leaves-hears, draws-same}
use Rattle.channel_laws.proofs.Submitting.{sends-draw, gives-draw}

-- ---- whatever happens

-- where the same is said of what goes out, and nothing is taken
still_draws : (policy : Policy) (party : Party) (channel : Channel) (given : Taken) (past past' : List Saying) (w : Channels) → ((own : ℕ) → says_on party channel past' own ≡ says_on party channel past own) → Draw policy party channel given past w
    → Draws policy party channel given (λ own. given own ++ []) past past' w
still_draws policy party channel given past past' w same all = record {
  draw = keep-also policy (λ own. Putting (given own) (says_on party channel past own)) (λ own. Putting (given own ++ []) (says_on party channel past' own)) w
      (λ own psm leaving opened carrier was.
      subst (λ g. CarrierPuts g (says_on party channel past' own) (policy.wish psm) opened carrier) (sym (append-nil (given own)))
      (subst (λ fs. CarrierPuts (given own) fs (policy.wish psm) opened carrier) (sym (same own)) was)) all;
  moves = λ own. inl (append-nil (given own), same own);
}

bare_draws : (policy : Policy) (party : Party) (channel : Channel) (given : Taken) (past said : List Saying) (w : Channels) → IsBare said → Draw policy party channel given past w → Draws policy party channel given (λ own. given own ++ []) past (past ++ said) w
bare_draws policy party channel given past said w bare all = still_draws policy party channel given past (past ++ said) w (λ own. ap outs (bare-passes party (channel_at channel own) said past bare)) all

-- what comes in does not go out
heard_says : (party : Party) (channel : Channel) (past : List Saying) (pdu : List ℕ) (own : ℕ) → says_on party channel (past ++ Carried Into pdu ∷ []) own ≡ says_on party channel past own
heard_says party channel past pdu own =
    let one : Carriage = record { flow = Into; pdu = pdu } in
    ap outs (passed-more party (channel_at channel own) past (Carried Into pdu)) ∙ by (is_on (channel_at channel own) (taker is_passed Into pdu (reading past).entries))
  where
    come : (found : Option PlainFrame) → outs (frames_on party channel past own ++ cons_option (option_map In found) []) ≡ says_on party channel past own
    come None = ap outs (append-nil (frames_on party channel past own))
    come (Some frame) = outs-same (frames_on party channel past own) frame

    by : (b : Bool) → outs (frames_on party channel past own ++ filter_map (passage_in party) (cond b (record { flow = Into; pdu = pdu } ∷ []) [])) ≡ says_on party channel past own
    by true = come (frame_in party.frame pdu)
    by false = ap outs (append-nil (frames_on party channel past own))

comes_draw : (policy : Policy) (party : Party) (channel : Channel) (given : Taken) (past : List Saying) (v : Channels) (pdu : List ℕ) (signals : Bool) → Draw policy party channel given past v
    → Draws policy party channel given (λ own. given own ++ []) past (past ++ cond signals (said_with_all policy (answers (drop 4 pdu)) v) (Carried Into pdu ∷ asked_between v (takes (channel_of pdu) pdu v))) (cond signals (hears_commands policy (answers (drop 4 pdu)) v) (takes (channel_of pdu) pdu v))
comes_draw policy party channel given past v pdu true all =
    bare_draws policy party channel given past (said_with_all policy (answers (drop 4 pdu)) v) (hears_commands policy (answers (drop 4 pdu)) v) (bare-with_all policy (answers (drop 4 pdu)) v)
    (commands-go policy Leaves _ (walks-draw policy party channel given past) (answers (drop 4 pdu)) v all)
comes_draw policy party channel given past v pdu false all =
    let w : Channels = takes (channel_of pdu) pdu v in
    still_draws policy party channel given past (past ++ Carried Into pdu ∷ asked_between v w) w
    (λ own. ap (λ said. says_on party channel said own) (sym (append_assoc past (Carried Into pdu ∷ []) (asked_between v w)))
    ∙ (ap outs (bare-passes party (channel_at channel own) (asked_between v w) (past ++ Carried Into pdu ∷ []) (bare-asked v w)) ∙ heard_says party channel past pdu own))
    (takes-goes policy Leaves _ (walks-draw policy party channel given past) (channel_of pdu) pdu v (λ machine open'. leaves-hears pdu machine) all)

occurs_draw : (policy : Policy) (party : Party) (channel : Channel) (given : Taken) (past : List Saying) (v : Channels) (more : Occurrence) → IsUttered more v → Sound policy (reading past) v → Pass policy party channel past v → Draw policy party channel given past v
    → Draws policy party channel given (λ own. given own ++ taken_in own more v) past (past ++ said_in policy more v) (value_after policy more v)
occurs_draw policy party channel given past v (Comes pdu) uttered sound pass all = comes_draw policy party channel given past v pdu (eqb (channel_of pdu) 0x0001) all
occurs_draw policy party channel given past v (Connects psm) uttered sound pass all =
    let w : Channels = connected psm v in bare_draws policy party channel given past (asked_between v w) w (bare-asked v w) (connected-goes policy Leaves _ (walks-draw policy party channel given past) psm v all)
occurs_draw policy party channel given past v AsksFeatures uttered sound pass all =
    let w : Channels = asks_features v in bare_draws policy party channel given past (asked_between v w) w (bare-asked v w) (asks-features-goes policy Leaves _ (walks-draw policy party channel given past) v all)
occurs_draw policy party channel given past v (Disconnects own) uttered sound pass all =
    let w : Channels = disconnected own v in
    bare_draws policy party channel given past (asked_between v w ++ given_up own v w) w (bare-left own v w) (disconnected-goes policy Leaves _ (walks-draw policy party channel given past) own v all)
occurs_draw policy party channel given past v (Sends own sdu) uttered sound pass all = sends-draw policy party channel given past v own sdu uttered sound all
occurs_draw policy party channel given past v (Gives pdu) uttered sound pass all =
    let now = gives-draw policy party channel given past v pdu sound pass all uttered in
    let w : Channels = value_after policy (Gives pdu) v in
    let past' : List Saying = past ++ said_in policy (Gives pdu) v in
    let after = still_draws policy party channel given past' past' w (λ own. refl) now.draw in
    record { draw = after.draw; moves = λ own. by own (now.moves own) }
  where
    by : (own : ℕ) → Moves party channel given given past (past ++ said_in policy (Gives pdu) v) (value_after policy (Gives pdu) v) own
        → Moves party channel given (λ n. given n ++ []) past (past ++ said_in policy (Gives pdu) v) (value_after policy (Gives pdu) v) own
    by own (inl (same, silent)) = inl (append-nil (given own), silent)
    by own (inr alive) = inr alive
occurs_draw policy party channel given past v Fires uttered sound pass all =
    let owns : List ℕ = map (λ held. held.own) v.held in
    bare_draws policy party channel given past (said_by_channels policy.tries owns v) (timed_out policy v) (bare-fired policy.tries owns v)
    (timed-goes policy Leaves _ (walks-draw policy party channel given past) v (λ machine open'. ((fires-aside machine open').agreed_same, fresh-timed machine)) all)
occurs_draw policy party channel given past v Tells uttered sound pass all = draws-same policy party channel given (λ own. given own ++ []) past (past ++ []) v (after_event v) refl refl (append-nil past) (λ own. append-nil (given own)) all

-- ---- what its frames say is a front of what it took

-- what carries on it is of enhanced mode
abbrev IsEnhanced : Policy → ℕ → Channels → Type 0
IsEnhanced policy own v = (held : Held) (setup : Setup) → find (has_own own) v.held ≡ Some held → setup_of held.stage ≡ Some setup → (policy.wish held.psm).mode ≡ Enhanced

abbrev IsPut : Party → Channel → Taken → List Saying → ℕ → Type 0
IsPut party channel given past own = IsFront (sdus_of (picked 0 (says_on party channel past own))) (given own)

moves_put : (policy : Policy) (party : Party) (channel : Channel) (given given' : Taken) (past past' : List Saying) (w : Channels) (own : ℕ) → IsEnhanced policy own w → Draws policy party channel given given' past past' w → IsPut party channel given past own → IsPut party channel given' past' own
moves_put policy party channel given given' past past' w own enhanced draws was = by (draws.moves own)
  where
    P : (held : Held) (setup : Setup) (carrier : Carrier) → (policy.wish held.psm).mode ≡ Enhanced → CarrierPuts (given' own) (says_on party channel past' own) (policy.wish held.psm) (is_open setup) (Some carrier) → IsPut party channel given' past' own
    P held setup (Plain agreed waiting) mode puts = cc
    P held setup (Retransmitting machine) mode puts = puts-front (given' own) (says_on party channel past' own) (is_open setup) machine puts

    by : Moves party channel given given' past past' w own → IsPut party channel given' past' own
    by (inl (same, silent)) =
        subst (λ g. IsFront (sdus_of (picked 0 (says_on party channel past' own))) g) (sym same) (subst (λ fs. IsFront (sdus_of (picked 0 fs)) (given own)) (sym silent) was)
    by (inr (held, setup, carrier, found, has, is)) =
        let Q = Putting (given' own) (says_on party channel past' own) in
        P held setup carrier (enhanced held setup found has)
        (subst (CarrierPuts (given' own) (says_on party channel past' own) (policy.wish held.psm) (is_open setup)) is
        (kept-on Q (policy.wish held.psm) held.stage setup has (subst (HeldKeeps policy Q) found (draws.draw.at own))))

-- ---- a run

later_put : (policy : Policy) (party : Party) (channel : Channel) (all past later : List Occurrence) (given : Taken) → StatesFrame policy party → all ≡ past ++ later → ((front behind : List Occurrence) → all ≡ front ++ behind → IsEnhanced policy channel.own (run_of policy front).value)
    → ((own : ℕ) → given own ≡ taken_of policy own past) → AreUttered policy past → EachAfter (λ front more. IsUttered more (run_of policy front).value) past later → Draw policy party channel given (run_of policy past).said (run_of policy past).value
    → IsPut party channel given (run_of policy past).said channel.own → IsFront (sdus_of (picked 0 (says_on party channel (run_of policy all).said channel.own))) (taken_of policy channel.own all)
later_put policy party channel all past [] given states is enhanced given_is before uttered draw put =
    subst (λ list. IsFront (sdus_of (picked 0 (says_on party channel (run_of policy list).said channel.own))) (taken_of policy channel.own list)) (sym (is ∙ append-nil past))
    (subst (IsFront (sdus_of (picked 0 (says_on party channel (run_of policy past).said channel.own)))) (given_is channel.own) put)
later_put policy party channel all past (more ∷ later) given states is enhanced given_is before (now, uttered) draw put =
    later_put policy party channel all (past ++ more ∷ []) later given' states further enhanced
    (λ own. ap (λ g. g ++ taken_in own more run.value) (given_is own) ∙ sym (given_by-more (λ front x. taken_in own x (run_of policy front).value) past more))
    (each_after-both (λ front x. IsUttered x (run_of policy front).value) [] past (more ∷ []) before (now, tt)) uttered
    (subst (λ (r : Run). Draw policy party channel given' r.said r.value) (sym next) draws.draw)
    (subst (λ (r : Run). IsPut party channel given' r.said channel.own) (sym next)
    (moves_put policy party channel given given' run.said after.said after.value channel.own
    (subst (λ (r : Run). IsEnhanced policy channel.own r.value) next (enhanced (past ++ more ∷ []) later further)) draws put))
  where
    run : Run
    run = run_of policy past

    after : Run
    after = run_on policy run more

    given' : Taken
    given' own = given own ++ taken_in own more run.value

    next : run_of policy (past ++ more ∷ []) ≡ after
    next = fold-append (run_on policy) new_link past (more ∷ [])

    further : all ≡ (past ++ more ∷ []) ++ later
    further = is ∙ sym (append_assoc past (more ∷ []) later)

    draws : Draws policy party channel given given' run.said after.said after.value
    draws = let (sound, pass) = run-passes policy party channel past states before in occurs_draw policy party channel given run.said run.value more now sound pass draw

-- ---- in enhanced mode

-- the channel that is read of an endpoint has the PSM of what is held there
psm_by : (policy : Policy) (held : Held) (peer : ℕ) (entry : Entry) → ReadsBy policy held (Some peer) (Some entry) → entry.channel.psm ≡ held.psm
psm_by policy held peer entry (there, agrees) = ap (λ (c : Channel). c.psm) there.channel_is

one_channel : (channel : Channel) (found : Option Entry) (entry : Entry) → found ≡ Some entry → IsOf channel found → entry.channel ≡ channel
one_channel channel found entry is of = subst (IsOf channel) is of

-- the mode that is read of it in the end its host wishes of the PSM that it has at any time
held_enhanced : (policy : Policy) (all front behind : List Occurrence) (own : ℕ) (entry : Entry) → all ≡ front ++ behind → read_at own (reading (run_of policy all).said).entries ≡ Some entry → (policy.wish entry.channel.psm).mode ≡ Enhanced → IsEnhanced policy own (run_of policy front).value
held_enhanced policy all front behind own entry is read mode held setup found has =
    let run : Run = run_of policy front in
    let sound : IsSound policy run = all-sound policy front in
    let r : IsRead policy run.said own held setup = is-read policy run.said run.value own held setup found has sound in
    let reads : ReadsBy policy held (Some r.peer) (Some r.entry) =
    subst (λ e. ReadsBy policy held (Some r.peer) e) r.found (subst (λ p. ReadsBy policy held p (read_at own (reading run.said).entries)) r.peer_is
    (subst (λ h. Reads policy h (read_at own (reading run.said).entries)) found (sound.core.reads own))) in
    let same : entry.channel ≡ r.entry.channel =
    one_channel r.entry.channel (read_at own (reading (run_of policy all).said).entries) entry read (subst (λ list. IsOf r.entry.channel (read_at own (reading (run_of policy list).said).entries)) (sym is) (endpoints-name_one policy front behind own r.entry r.found)) in
    ap (λ psm. (policy.wish psm).mode) (sym (ap (λ (c : Channel). c.psm) same ∙ psm_by policy held r.peer r.entry reads)) ∙ mode

-- as it is where its host wishes that mode of the channel that is read in the end
wish_enhanced : (policy : Policy) (all : List Occurrence) (channel : Channel) → IsOf channel (read_at channel.own (reading (run_of policy all).said).entries) → (policy.wish channel.psm).mode ≡ Enhanced → (front behind : List Occurrence) → all ≡ front ++ behind → IsEnhanced policy channel.own (run_of policy front).value
wish_enhanced policy all channel has mode front behind is = by (read_at channel.own (reading (run_of policy all).said).entries) refl has
  where
    by : (found : Option Entry) → read_at channel.own (reading (run_of policy all).said).entries ≡ found → IsOf channel found → IsEnhanced policy channel.own (run_of policy front).value
    by None read of = elim of [ ]
    by (Some entry) read of = held_enhanced policy all front behind channel.own entry is read (ap (λ (c : Channel). (policy.wish c.psm).mode) of ∙ mode)

all_enhanced : (policy : Policy) (all : List Occurrence) (channel : Channel) → mode_of channel (run_of policy all).said ≡ Enhanced → (front behind : List Occurrence) → all ≡ front ++ behind → IsEnhanced policy channel.own (run_of policy front).value
all_enhanced policy all channel mode front behind is = by (read_at channel.own (reading (run_of policy all).said).entries) refl mode
  where
    by : (found : Option Entry) → read_at channel.own (reading (run_of policy all).said).entries ≡ found → entry_mode found ≡ Enhanced → IsEnhanced policy channel.own (run_of policy front).value
    by None read now = cc
    by (Some entry) read now = held_enhanced policy all front behind channel.own entry is read (modes-are_own policy all channel.own entry Enhanced read (enhanced-accepted entry.setup now))

put_of : (policy : Policy) (party : Party) (list : List Occurrence) (channel : Channel) → StatesFrame policy party → AreUttered policy list → ((front behind : List Occurrence) → list ≡ front ++ behind → IsEnhanced policy channel.own (run_of policy front).value)
    → IsFront (sdus_of (picked 0 (says_on party channel (run_of policy list).said channel.own))) (taken_of policy channel.own list)
put_of policy party list channel states uttered enhanced =
    later_put policy party channel list [] list (λ own. []) states refl enhanced (λ own. refl) tt uttered
    (record { at = λ own. tt; fresh = λ own psm above. (refl, refl); below = λ own above. refl }) ([], refl)

pub taken-said : (policy : Policy) (party : Party) (list : List Occurrence) (channel : Channel) → StatesFrame policy party → AreUttered policy list → IsOf channel (read_at channel.own (reading (run_of policy list).said).entries) → (policy.wish channel.psm).mode ≡ Enhanced
    → IsFront (sdus_of (picked 0 (says_on party channel (run_of policy list).said channel.own))) (taken_of policy channel.own list)
taken-said policy party list channel states uttered has mode = put_of policy party list channel states uttered (wish_enhanced policy list channel has mode)

pub taken-goes_out : TakenGoesOut
taken-goes_out policy party list channel states uttered mode =
    subst (λ sdus. IsFront sdus (taken_of policy channel.own list)) (sym (sent-are party channel (run_of policy list).said mode))
    (put_of policy party list channel states uttered (all_enhanced policy list channel mode))
