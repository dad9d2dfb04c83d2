-- An enhanced channel that two hosts have in common is a pipe of SDUs, over all turns.
use Rattle.std.proofs.Common.{◌≡◌, ℕ, ◌≤◌, List, [], ◌∷◌, ◌++◌, Bool, true, false, cond, ◌&&◌, Option, Some, None, refl, sym, ap, subst, ◌∙◌, inl, inr, append_assoc, append-nil}
use Rattle.std.specs.Prelude.{option_map}
use Rattle.std.specs.List.{filter_map, cons_option}
use Rattle.std.proofs.lemmas.List.Sums.{fold-append}
use Rattle.std.proofs.lemmas.List.Elements.{filter_map-append}
use Rattle.own_channel_laws.specs.talk_laws.specs.capture.specs.declared.flow.Flow.{Flow}
use Rattle.own_channel_laws.specs.talk_laws.specs.capture.specs.declared.flow.Flow.TheVariants.{Out, Into}
use Rattle.own_channel_laws.specs.talk_laws.specs.capture.specs.Histories.{each_after, EachAfter}
use Rattle.own_channel_laws.specs.talk_laws.specs.l2cap_config.specs.declared.wish.Mode.TheVariants.{Basic, Enhanced}
use Rattle.own_channel_laws.specs.talk_laws.specs.l2cap_config.specs.declared.wish.Mode.{Mode}
use Rattle.own_channel_laws.specs.talk_laws.specs.ertm_frames.specs.Frames.{PlainFrame}
use Rattle.own_channel_laws.specs.talk_laws.specs.ertm_frames.specs.Reading.{frame_in, frames_in}
use Rattle.own_channel_laws.specs.talk_laws.specs.ertm_frames.specs.Picking.{Out as Gave, In, outs, picked}
use Rattle.own_channel_laws.specs.talk_laws.specs.ertm_frames.specs.Joining.{sdus_of}
use Rattle.own_channel_laws.specs.channel_model.specs.ertm_model.specs.Pair.{new_end as new_machine_end}
use Rattle.own_channel_laws.specs.channel_model.specs.ertm_model.proofs.Standing.{new-stands, swapped}
use Rattle.own_channel_laws.specs.talk_laws.specs.link_talk.specs.declared.channel.Channel.{Channel}
use Rattle.own_channel_laws.specs.talk_laws.specs.link_talk.specs.declared.party.Party.{Party}
use Rattle.own_channel_laws.specs.talk_laws.specs.link_talk.specs.Sayings.{Saying, Command, Carried, GaveUp}
use Rattle.own_channel_laws.specs.talk_laws.specs.link_talk.specs.Channels.{Entry, reading}
use Rattle.own_channel_laws.specs.talk_laws.specs.link_talk.specs.Setups.{Setup, is_enhanced, agreed_mode}
use Rattle.own_channel_laws.specs.talk_laws.specs.link_talk.specs.Carriages.{Carriage, is_heard, is_passed, is_on, taker, carried, stretch, passages, one_way, pdus_of, entry_mode, mode_of}
use Rattle.own_channel_laws.specs.talk_laws.specs.link_talk.specs.Accounts.{passage, passage_in}
use Rattle.own_channel_laws.specs.talk_laws.specs.link_talk.specs.Sdus.{longest, sdus_by, sdus}
use Rattle.own_channel_laws.specs.channel_model.specs.Policies.{Policy}
use Rattle.own_channel_laws.specs.Runs.{sdus_up}
use Rattle.own_channel_laws.specs.Frames.{IsUttered}
use Rattle.channel_laws.specs.Pairs.{End, Pair, new_pair, Happening, happens_near, Side, Near, Far, turned, Turn, happens_at, pair_after, pair_of, IsRunOf}
use Rattle.channel_laws.specs.Ends.{DoesSo, AreFair, end_at}
use Rattle.own_channel_laws.specs.Views.{read_at}
use Rattle.own_channel_laws.specs.Endpoints.{IsOf}
use Rattle.channel_laws.specs.Belonging.{AreRead, said_at}
use Rattle.channel_laws.specs.Common.{mirrored}
use Rattle.channel_laws.specs.Modes.{policy_of, OneWishes}
use Rattle.channel_laws.specs.Pipes.{IsCarried, HaveChannel, Suits, CanStateBoth, AreCarried, IsFront, IsPipe, EnhancedChannelsArePipes}
use Rattle.own_channel_laws.proofs.Running.{IsSound, all-sound}
use Rattle.channel_laws.proofs.Pairing.{OfOccurrence, Runs, BothRun, at-runs, first-runs, each-end_runs}
use Rattle.channel_laws.proofs.Partaking.{IsMate}
use Rattle.channel_laws.proofs.Mating.{other-wishes, mates-at, high-at}
use Rattle.channel_laws.proofs.Modes.{modes-are_wished}
use Rattle.channel_laws.proofs.Bonds.{within-suits, Bond, bond-of}
use Rattle.channel_laws.proofs.Piping.{tells-pipe}
use Rattle.channel_laws.proofs.Joining.{Terms, other_terms, joined-swapped}
use Rattle.channel_laws.proofs.Piped.{frames_said, Piped}
use Rattle.channel_laws.proofs.Conveying.{near-piped}

-- ---- a turn

pub sound-of : (F : OfOccurrence) (policy : Policy) (end' : End) → Runs F policy end' → IsSound end'.policy end'.run
sound-of F policy end' runs = subst (λ p. IsSound p end'.run) (sym runs.policy_is) (subst (IsSound policy) (sym runs.run_is) (all-sound policy runs.list))

pub turned-piped : (party : Party) (t : Terms) (channel : Channel) (pair : Pair) → Piped party t channel pair → Piped party (other_terms t) (mirrored channel) (turned pair)
turned-piped party t channel pair h = joined-swapped pair.near.policy pair.far.policy t channel.own channel.peer _ _ _ pair.near.run.value pair.far.run.value h

-- both hosts have the channel as it is
pub record Common (t : Terms) (channel : Channel) (pair : Pair) : Type 0 where
  pub near_mate : IsMate t.mine channel.own channel.peer pair.near.run.value
  pub far_mate : IsMate t.other channel.peer channel.own pair.far.run.value

pub record Fair (t : Terms) (channel : Channel) : Type 0 where
  pub own_high : 0x0040 ≤ channel.own
  pub peer_high : 0x0040 ≤ channel.peer
  pub there : Suits t.mine t.other
  pub back : Suits t.other t.mine

pub side_piped : (near far : Policy) (party : Party) (t : Terms) (channel : Channel) (pair : Pair) (side : Side) (happening : Happening) → Fair t channel → BothRun IsUttered near far pair → Common t channel pair → Common t channel (happens_at side happening pair)
    → DoesSo IsUttered happening (end_at side pair) → IsCarried happening (end_at side pair) → Piped party t channel pair → Piped party t channel (happens_at side happening pair)
side_piped near far party t channel pair Near happening fair runs before after uttered carried' h =
    near-piped party t channel pair happening fair.own_high fair.there (record { high = fair.peer_high; sound = sound-of IsUttered near pair.near runs.near_runs; mate = before.near_mate }) after.near_mate uttered carried' h
side_piped near far party t channel pair Far happening fair runs before after uttered carried' h =
    let other : Pair = turned pair in
    turned-piped party (other_terms t) (mirrored channel) (happens_near happening other)
    (near-piped party (other_terms t) (mirrored channel) other happening fair.peer_high fair.back (record { high = fair.own_high; sound = sound-of IsUttered far pair.far runs.far_runs; mate = before.far_mate }) after.far_mate uttered carried'
    (turned-piped party t channel pair h))

-- ---- all turns

all_piped : (near far : Policy) (party : Party) (t : Terms) (channel : Channel) (all past rest : List Turn) → Fair t channel → ((front behind : List Turn) → all ≡ front ++ behind → Common t channel (pair_of near far front)) → all ≡ past ++ rest
    → EachAfter (λ front turn. DoesSo IsUttered turn.happening (end_at turn.side (pair_of near far front))) past rest → EachAfter (λ front turn. IsCarried turn.happening (end_at turn.side (pair_of near far front))) past rest
    → BothRun IsUttered near far (pair_of near far past) → Piped party t channel (pair_of near far past) → Piped party t channel (pair_of near far all)
all_piped near far party t channel all past [] fair common is uttered carried' runs h = subst (λ list. Piped party t channel (pair_of near far list)) (sym (is ∙ append-nil past)) h
all_piped near far party t channel all past (turn ∷ rest) fair common is (now, uttered) (passes, carried') runs h =
    all_piped near far party t channel all (past ++ turn ∷ []) rest fair common further uttered carried'
    (subst (BothRun IsUttered near far) (sym next) (at-runs IsUttered near far turn.side turn.happening pair (λ pdu v. tt) now runs))
    (subst (Piped party t channel) (sym next) (side_piped near far party t channel pair turn.side turn.happening fair runs (common past (turn ∷ rest) is) (subst (Common t channel) next (common (past ++ turn ∷ []) rest further)) now passes h))
  where
    pair : Pair
    pair = pair_of near far past

    next : pair_of near far (past ++ turn ∷ []) ≡ happens_at turn.side turn.happening pair
    next = fold-append pair_after (new_pair near far) past (turn ∷ [])

    further : all ≡ (past ++ turn ∷ []) ++ rest
    further = is ∙ sym (append_assoc past (turn ∷ []) rest)

pub first_piped : (near far : Policy) (party : Party) (t : Terms) (channel : Channel) → Suits t.mine t.other → Suits t.other t.mine → Piped party t channel (new_pair near far)
first_piped near far party t channel there back = record {
  pair = record { a = new_machine_end t.mine; b = new_machine_end t.other };
  joins = record {
    stands = new-stands t.mine t.other there.meets back.meets;
    near_tells = record { put_is = refl; short = tt };
    far_tells = record { put_is = refl; short = tt };
    near_flies = tt;
    far_flies = tt;
    near_by = refl;
    far_by = refl;
  };
  near_at = record { held = tt; before = λ above. (refl, refl); front = ([], refl) };
  far_at = record { held = tt; before = λ above. (refl, refl); front = ([], refl) };
}

-- ---- what is read of it

-- what went out on a channel is the same for whoever asks
pub out-same : (channel : Channel) (past said : List Saying) → pdus_of Out (each_after (carried is_heard channel) past said) ≡ pdus_of Out (each_after (carried is_passed channel) past said)
out-same channel past [] = refl
out-same channel past (more ∷ said) =
    filter_map-append (one_way Out) (carried is_heard channel past more) (each_after (carried is_heard channel) (past ++ more ∷ []) said)
    ∙ (ap (λ l. l ++ pdus_of Out (each_after (carried is_heard channel) (past ++ more ∷ []) said)) (one more)
    ∙ (ap (λ l. pdus_of Out (carried is_passed channel past more) ++ l) (out-same channel (past ++ more ∷ []) said)
    ∙ sym (filter_map-append (one_way Out) (carried is_passed channel past more) (each_after (carried is_passed channel) (past ++ more ∷ []) said))))
  where
    silent : (pdu : List ℕ) (b : Bool) → pdus_of Out (cond b (record { flow = Into; pdu = pdu } ∷ []) []) ≡ []
    silent pdu true = refl
    silent pdu false = refl

    one : (more : Saying) → pdus_of Out (carried is_heard channel past more) ≡ pdus_of Out (carried is_passed channel past more)
    one (Command flow answer) = refl
    one (Carried Out pdu) = refl
    one (Carried Into pdu) = silent pdu (is_on channel (taker is_heard Into pdu (reading past).entries)) ∙ sym (silent pdu (is_on channel (taker is_passed Into pdu (reading past).entries)))
    one (GaveUp forgone) = refl

out_one : (party : Party) (flow : Flow) (pdu : List ℕ) (carriages : List Carriage) → outs (filter_map (passage_in party) carriages) ≡ frames_in 65535 (pdus_of Out carriages)
    → outs (cons_option (option_map (passage flow) (frame_in (longest party flow) pdu)) (filter_map (passage_in party) carriages)) ≡ frames_in 65535 (cons_option (one_way Out (record { flow = flow; pdu = pdu })) (pdus_of Out carriages))
out_one party Out pdu carriages rest = gone (frame_in 65535 pdu)
  where
    gone : (found : Option PlainFrame) → outs (cons_option (option_map Gave found) (filter_map (passage_in party) carriages)) ≡ cons_option found (frames_in 65535 (pdus_of Out carriages))
    gone None = rest
    gone (Some frame) = ap (λ fs. frame ∷ fs) rest
out_one party Into pdu carriages rest = come (frame_in party.frame pdu)
  where
    come : (found : Option PlainFrame) → outs (cons_option (option_map In found) (filter_map (passage_in party) carriages)) ≡ frames_in 65535 (pdus_of Out carriages)
    come None = rest
    come (Some frame) = rest

out_frames : (party : Party) (carriages : List Carriage) → outs (filter_map (passage_in party) carriages) ≡ frames_in 65535 (pdus_of Out carriages)
out_frames party [] = refl
out_frames party (one ∷ carriages) = out_one party one.flow one.pdu carriages (out_frames party carriages)

pub sent-are : (party : Party) (channel : Channel) (said : List Saying) → mode_of channel said ≡ Enhanced → sdus party channel Out said ≡ sdus_of (picked 0 (frames_said party channel said))
sent-are party channel said mode =
    ap (λ m. sdus_by 65535 m (pdus_of Out (stretch channel said))) mode
    ∙ ap (λ fs. sdus_of (picked 0 fs)) (ap (frames_in 65535) (out-same channel [] said) ∙ sym (out_frames party (passages channel said)))

pub front-of_front : {X : Type 0} (xs ys zs : List X) → IsFront xs ys → IsFront ys zs → IsFront xs zs
front-of_front xs ys zs (more, is) (further, also) = (more ++ further, also ∙ (ap (λ l. l ++ further) is ∙ append_assoc xs more further))

near_pipe : (t : Terms) (channel : Channel) (pair : Pair) → ((party : Party) → Piped party t channel pair) → IsPipe (mirrored channel) pair.far.run.said channel.own pair.near.run.up
near_pipe t channel pair piped party mode =
    let h = piped party in
    let said = frames_said party (mirrored channel) pair.far.run.said in
    subst (IsFront (sdus_up channel.own pair.near.run.up)) (sym (sent-are party (mirrored channel) pair.far.run.said mode))
    (front-of_front (sdus_up channel.own pair.near.run.up) h.pair.a.up (sdus_of (picked 0 said)) h.near_at.front (tells-pipe t.mine.receive_mps h.pair.b h.pair.a said (swapped h.joins.stands) h.joins.far_tells))

-- each host has it as it is, whenever
pub common_at : (near far : Policy) (turns : List Turn) (channel : Channel) (near_bond : Bond near far turns Near channel.psm channel.own) (far_bond : Bond near far turns Far channel.psm channel.peer) → AreRead near far turns → HaveChannel near far turns channel → OneWishes near far channel.psm Enhanced
    → (front behind : List Turn) → turns ≡ front ++ behind → (let t : Terms = record { mine = near_bond.agreed; other = far_bond.agreed } in Common t channel (pair_of near far front))
common_at near far turns channel near_bond far_bond read have wish front behind is = record {
  near_mate = mates-at near far near front behind Near channel near_bond.agreed whole
      (let (list, runs) = (each-end_runs near far front).0 in subst (IsSound near) (sym runs) (all-sound near list))
      (near_bond.all front behind is) wish
      (subst (λ x. IsOf channel (read_at channel.own (reading (pair_of near far x).near.run.said).entries)) is have.near_has) (subst (λ x. IsOf (mirrored channel) (read_at channel.peer (reading (pair_of near far x).far.run.said).entries)) is have.far_has);
  far_mate = mates-at near far far front behind Far (mirrored channel) far_bond.agreed whole
      (let (list, runs) = (each-end_runs near far front).1 in subst (IsSound far) (sym runs) (all-sound far list))
      (far_bond.all front behind is) (other-wishes near far channel.psm Enhanced wish)
      (subst (λ x. IsOf (mirrored channel) (read_at channel.peer (reading (pair_of near far x).far.run.said).entries)) is have.far_has) (subst (λ x. IsOf channel (read_at channel.own (reading (pair_of near far x).near.run.said).entries)) is have.near_has);
}
  where
    whole : AreRead near far (front ++ behind)
    whole = subst (AreRead near far) is read

-- what its talk has in enhanced mode its host accepted in that mode
pub enhanced-accepted : (setup : Setup) → agreed_mode setup ≡ Enhanced → setup.accepted ≡ Some Enhanced
enhanced-accepted setup is = by (is_enhanced setup.asked) setup.accepted is
  where
    by : (asked : Bool) (accepted : Option Mode) → cond (asked && is_enhanced accepted) Enhanced Basic ≡ Enhanced → accepted ≡ Some Enhanced
    by false accepted is = cc
    by true None is = cc
    by true (Some Basic) is = cc
    by true (Some Enhanced) is = refl

-- so the other host wishes that mode
pub other_wishes : (near far : Policy) (turns : List Turn) → AreRead near far turns → (side : Side) (channel : Channel) → IsOf channel (read_at channel.own (reading (said_at side (pair_of near far turns))).entries) → mode_of channel (said_at side (pair_of near far turns)) ≡ Enhanced
    → ((policy_of side far near).wish channel.psm).mode ≡ Enhanced
other_wishes near far turns read side channel has mode = by (read_at channel.own (reading (said_at side (pair_of near far turns))).entries) refl has mode
  where
    by : (found : Option Entry) → read_at channel.own (reading (said_at side (pair_of near far turns))).entries ≡ found → IsOf channel found → entry_mode found ≡ Enhanced → ((policy_of side far near).wish channel.psm).mode ≡ Enhanced
    by None at has mode = elim has [ ]
    by (Some entry) at has mode = ap (λ (c : Channel). ((policy_of side far near).wish c.psm).mode) (sym has) ∙ modes-are_wished near far turns read side channel.own entry Enhanced at (enhanced-accepted entry.setup mode)

-- by what each end has it
abbrev pub terms_of : (near far : Policy) (turns : List Turn) (channel : Channel) → Bond near far turns Near channel.psm channel.own → Bond near far turns Far channel.psm channel.peer → Terms
terms_of near far turns channel near_bond far_bond = record { mine = near_bond.agreed; other = far_bond.agreed }

-- both endpoints are of channels, and what each agreed on suits the other
pub fair-by : (near far : Policy) (turns : List Turn) (channel : Channel) → HaveChannel near far turns channel → CanStateBoth near far channel.psm → (near_bond : Bond near far turns Near channel.psm channel.own) (far_bond : Bond near far turns Far channel.psm channel.peer)
    → Fair (terms_of near far turns channel near_bond far_bond) channel
fair-by near far turns channel have can near_bond far_bond = record {
  own_high = high-at near (pair_of near far turns).near.run channel channel.own runs.0 have.near_has;
  peer_high = high-at far (pair_of near far turns).far.run (mirrored channel) channel.peer runs.1 have.far_has;
  there = within-suits (near.wish channel.psm) (far.wish channel.psm) near_bond.agreed far_bond.agreed can.far_can near_bond.within far_bond.within;
  back = within-suits (far.wish channel.psm) (near.wish channel.psm) far_bond.agreed near_bond.agreed can.near_can far_bond.within near_bond.within;
}
  where
    runs : IsRunOf near (pair_of near far turns).near.run × IsRunOf far (pair_of near far turns).far.run
    runs = each-end_runs near far turns

-- where one host wishes enhanced mode, its two ends are two ends in order
pub piped-by : (near far : Policy) (turns : List Turn) → AreFair near far turns → AreRead near far turns → AreCarried near far turns → (channel : Channel) → HaveChannel near far turns channel → CanStateBoth near far channel.psm
    → (near_bond : Bond near far turns Near channel.psm channel.own) (far_bond : Bond near far turns Far channel.psm channel.peer) → OneWishes near far channel.psm Enhanced → (party : Party)
    → Piped party (terms_of near far turns channel near_bond far_bond) channel (pair_of near far turns)
piped-by near far turns uttered read passes channel have can near_bond far_bond wish party =
    all_piped near far party t channel turns [] turns fair (common_at near far turns channel near_bond far_bond read have wish) refl uttered passes (first-runs IsUttered near far) (first_piped near far party t channel fair.there fair.back)
  where
    t : Terms
    t = terms_of near far turns channel near_bond far_bond

    fair : Fair t channel
    fair = fair-by near far turns channel have can near_bond far_bond

pub enhanced-are_pipes : EnhancedChannelsArePipes
enhanced-are_pipes near far turns channel uttered read passes have can = (
  λ party mode. near_pipe t channel (pair_of near far turns) (piped (inl (other_wishes near far turns read Far (mirrored channel) have.far_has mode))) party mode,
  λ party mode. let wish : OneWishes near far channel.psm Enhanced = inr (other_wishes near far turns read Near channel have.near_has mode) in
      near_pipe (other_terms t) (mirrored channel) (turned (pair_of near far turns)) (λ party. turned-piped party t channel (pair_of near far turns) (piped wish party)) party mode,
)
  where
    near_bond : Bond near far turns Near channel.psm channel.own
    near_bond = bond-of near far turns read Near channel have.near_has can.near_can can.far_can

    far_bond : Bond near far turns Far channel.psm channel.peer
    far_bond = bond-of near far turns read Far (mirrored channel) have.far_has can.far_can can.near_can

    t : Terms
    t = terms_of near far turns channel near_bond far_bond

    piped : OneWishes near far channel.psm Enhanced → (party : Party) → Piped party t channel (pair_of near far turns)
    piped wish party = piped-by near far turns uttered read passes channel have can near_bond far_bond wish party
