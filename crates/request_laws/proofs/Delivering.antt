-- Along the turns of a pair that keeps its order, what comes up at either end on any channel is what the other end took there.
use Rattle.std.proofs.Common.{◌≡◌, ℕ, Bool, true, false, cond, eqb, List, [], ◌∷◌, ◌++◌, Option, Some, None, ◌⊎◌, inl, inr, refl, sym, ap, subst, ◌∙◌}
use Rattle.std.specs.List.{AllByRecursion, flat_map, cons_option}
use Rattle.std.proofs.lemmas.Bool.{eqb-true, eq-eqb}
use Rattle.pair_laws.specs.bt_base.specs.declared.settings.Settings.{Settings}
use Rattle.pair_laws.specs.capture.specs.Histories.{EachAfter}
use Rattle.pair_laws.specs.push_terms.specs.declared.word.Side.TheVariants as sides
use Rattle.pair_laws.specs.l2cap_config.specs.declared.wish.Mode.TheVariants.{Basic, Enhanced}
use Rattle.pair_laws.specs.l2cap_config.specs.declared.wish.Wish.{Wish}
use Rattle.pair_laws.specs.link_talk.specs.declared.channel.Channel.{Channel}
use Rattle.pair_laws.specs.link_talk.specs.Channels.{Entry, reading}
use Rattle.pair_laws.specs.link_talk.specs.Sayings.{Saying}
use Rattle.pair_laws.specs.channel_model.specs.Carrying.{Up as Handed, Nothing, Received}
use Rattle.pair_laws.specs.channel_model.specs.Policies.{Policy, policy, enhanced_wish, wished}
use Rattle.pair_laws.specs.channel_laws.specs.Belonging.{HasGranted, HasAsked, Belongs, IsRead, AreRead, said_at}
use Rattle.pair_laws.specs.channel_laws.specs.Common.{mirrored}
use Rattle.pair_laws.specs.channel_laws.specs.Delivered.{IsRunBy}
use Rattle.pair_laws.specs.channel_laws.specs.Endpoints.{IsOf}
use Rattle.pair_laws.specs.channel_laws.specs.Ends.{DoesSo, end_at}
use Rattle.pair_laws.specs.channel_laws.specs.Frames.{IsUttered, AreUttered}
use Rattle.pair_laws.specs.channel_laws.specs.Pairs.{Side, Near, Far, Turn, turned, new_pair, pair_of}
use Rattle.pair_laws.specs.channel_laws.specs.Pipes.{HaveChannel, IsCarried, AreCarried, IsFront}
use Rattle.pair_laws.specs.channel_laws.specs.Runs.{Occurrence, Run, run_of, sdus_up}
use Rattle.pair_laws.specs.channel_laws.specs.Taken.{taken_of}
use Rattle.pair_laws.specs.channel_laws.specs.Views.{channel_by, read_at}
use Rattle.pair_laws.specs.channel_laws.proofs.Belonging.{channels-belong}
use Rattle.pair_laws.specs.channel_laws.proofs.Bestowing.{endpoints-are_granted_once, endpoints-ask_for_one_psm}
use Rattle.pair_laws.specs.channel_laws.proofs.Delivered.{wished-is_delivered}
use Rattle.pair_laws.specs.channel_laws.proofs.Sharing.{channels-are_common}
use Rattle.pair_laws.specs.scenario_laws.specs.Parties.{party_of}
use Rattle.pair_laws.specs.scenario_laws.proofs.Wishes.{states_frame}
use Rattle.pair_laws.specs.Fronts.{IsFrontOfTurns}
use Rattle.pair_laws.specs.Orders.{Joint, near_in, far_in, joints_from}
use Rattle.pair_laws.specs.Pairs.{PairOnLink}
use Rattle.pair_laws.specs.PlainPipes.{ArePlainPipes}
use Rattle.pair_laws.proofs.Facing.{each_split}
use Rattle.pair_laws.proofs.Fronts.{fronts-are_run}
use Rattle.pair_laws.proofs.Whole.{both_can}
use Rattle.request_laws.specs.HandedUp.{handed_for}
use Rattle.request_laws.proofs.Accepted.{Accepted, Opened, OpenedUp, all-opened}
use Rattle.request_laws.proofs.Feeding.{all_ahead}
use Rattle.request_laws.proofs.Sole.{is_of}

-- ---- SDUs of a PSM are those of its channels

-- each of them is so where those of each channel of the talk with that PSM are
pub ups-all : (F : List ℕ → Type 0) (psm : ℕ) (said : List Saying) (ups : List Handed) → ((own : ℕ) → Opened said psm own → AllByRecursion F (sdus_up own ups)) → AllByRecursion (OpenedUp said) ups → AllByRecursion F (handed_for psm ups)
ups-all F psm said [] each opened = tt
ups-all F psm said (Nothing ∷ ups) each opened = ups-all F psm said ups each opened.1
ups-all F psm said (Received own at sdu ∷ ups) each opened = by (eqb at psm) refl (ups-all F psm said ups (λ other is. behind (eqb own other) other (each other is)) opened.1)
  where
    behind : (here : Bool) (other : ℕ) → AllByRecursion F (cons_option (cond here (Some sdu) None) (sdus_up other ups)) → AllByRecursion F (sdus_up other ups)
    behind true other all = all.1
    behind false other all = all

    ahead : (here : Bool) → here ≡ true → AllByRecursion F (cons_option (cond here (Some sdu) None) (sdus_up own ups)) → F sdu
    ahead true is all = all.0
    ahead false is all = cc

    by : (here : Bool) → eqb at psm ≡ here → AllByRecursion F (handed_for psm ups) → AllByRecursion F (cons_option (cond here (Some sdu) None) (handed_for psm ups))
    by true is rest = (ahead (eqb own own) (eq-eqb own own refl) (each own (subst (λ n. Opened said n own) (eqb-true at psm is) opened.0)), rest)
    by false is rest = rest

front_all : (F : List ℕ → Type 0) (front all : List (List ℕ)) → IsFront front all → AllByRecursion F all → AllByRecursion F front
front_all F front all (behind, is) so = (all_ahead F front behind (subst (AllByRecursion F) is so)).0

-- ---- at a moment of a pair

-- both hosts' channels at some moment: each end of a channel hands up a front of what the other took
pub record Met (near far : Policy) (one other : List Occurrence) : Type 0 where
  pub past : List Turn
  pub read : AreRead near far past
  pub near_by : IsRunBy near (pair_of near far past).near.run one
  pub far_by : IsRunBy far (pair_of near far past).far.run other
  pub delivers : (channel : Channel) → HaveChannel near far past channel
      → IsFront (sdus_up channel.own (pair_of near far past).near.run.up) (taken_of far channel.peer other) × IsFront (sdus_up channel.peer (pair_of near far past).far.run.up) (taken_of near channel.own one)

module _ (near far : Policy) (one other : List Occurrence) (m : Met near far one other) where
  common : (side : Side) (c : Channel) (own : ℕ) → Accepted c (read_at own (reading (said_at side (pair_of near far m.past))).entries) → IsOf (mirrored c) (read_at c.peer (reading (said_at side (turned (pair_of near far m.past)))).entries)
  common side c own is = by (read_at own (reading (said_at side (pair_of near far m.past))).entries) refl is
    where
      by : (found : Option Entry) → read_at own (reading (said_at side (pair_of near far m.past))).entries ≡ found → Accepted c found → IsOf (mirrored c) (read_at c.peer (reading (said_at side (turned (pair_of near far m.past)))).entries)
      by None at is = absurd is
      by (Some entry) at is = subst (λ (x : Channel). IsOf (mirrored x) (read_at x.peer (reading (said_at side (turned (pair_of near far m.past)))).entries)) is.0 (channels-are_common near far m.past m.read side own entry at is.1)

  -- what comes up at the near end is so where all is so that the far end took there
  pub near-ups : (F : List ℕ → Type 0) (psm : ℕ) → ((own peer : ℕ) → IsOf (channel_by psm peer own) (read_at peer (reading (run_of far other).said).entries) → AllByRecursion F (taken_of far peer other)) → AllByRecursion F (handed_for psm (run_of near one).up)
  near-ups F psm each = ups-all F psm (run_of near one).said (run_of near one).up on (all-opened near one)
    where
      on : (own : ℕ) → Opened (run_of near one).said psm own → AllByRecursion F (sdus_up own (run_of near one).up)
      on own (peer, is) =
          let here : Accepted (channel_by psm own peer) (read_at own (reading (pair_of near far m.past).near.run.said).entries) = subst (λ (r : Run). Accepted (channel_by psm own peer) (read_at own (reading r.said).entries)) (sym m.near_by.run_is) is in
          let there : IsOf (channel_by psm peer own) (read_at peer (reading (pair_of near far m.past).far.run.said).entries) = common Near (channel_by psm own peer) own here in
          let has : HaveChannel near far m.past (channel_by psm own peer) = record { near_has = is_of (channel_by psm own peer) (read_at own (reading (pair_of near far m.past).near.run.said).entries) here; far_has = there } in
          subst (λ (r : Run). AllByRecursion F (sdus_up own r.up)) m.near_by.run_is
          (front_all F _ _ (m.delivers (channel_by psm own peer) has).0 (each own peer (subst (λ (r : Run). IsOf (channel_by psm peer own) (read_at peer (reading r.said).entries)) m.far_by.run_is there)))

  -- and so the other way
  pub far-ups : (F : List ℕ → Type 0) (psm : ℕ) → ((own peer : ℕ) → IsOf (channel_by psm peer own) (read_at peer (reading (run_of near one).said).entries) → AllByRecursion F (taken_of near peer one)) → AllByRecursion F (handed_for psm (run_of far other).up)
  far-ups F psm each = ups-all F psm (run_of far other).said (run_of far other).up on (all-opened far other)
    where
      on : (own : ℕ) → Opened (run_of far other).said psm own → AllByRecursion F (sdus_up own (run_of far other).up)
      on own (peer, is) =
          let here : Accepted (channel_by psm own peer) (read_at own (reading (pair_of near far m.past).far.run.said).entries) = subst (λ (r : Run). Accepted (channel_by psm own peer) (read_at own (reading r.said).entries)) (sym m.far_by.run_is) is in
          let there : IsOf (channel_by psm peer own) (read_at peer (reading (pair_of near far m.past).near.run.said).entries) = common Far (channel_by psm own peer) own here in
          let has : HaveChannel near far m.past (channel_by psm peer own) = record { near_has = there; far_has = is_of (channel_by psm own peer) (read_at own (reading (pair_of near far m.past).far.run.said).entries) here } in
          subst (λ (r : Run). AllByRecursion F (sdus_up own r.up)) m.far_by.run_is
          (front_all F _ _ (m.delivers (channel_by psm peer own) has).1 (each own peer (subst (λ (r : Run). IsOf (channel_by psm peer own) (read_at peer (reading r.said).entries)) m.near_by.run_is there)))

  -- a channel of the near host that it asked for has the PSM that it asked for
  pub asked-psm : (identifier psm at_psm own peer : ℕ) → HasAsked identifier psm own (run_of near one).said → IsOf (channel_by at_psm own peer) (read_at own (reading (run_of near one).said).entries) → at_psm ≡ psm
  asked-psm identifier psm at_psm own peer asked is =
      of_psm (read_at own (reading (pair_of near far m.past).near.run.said).entries) refl (subst (λ (r : Run). IsOf (channel_by at_psm own peer) (read_at own (reading r.said).entries)) (sym m.near_by.run_is) is)
    where
      by : Belongs (pair_of near far m.past).near.run.said (pair_of near far m.past).far.run.said (channel_by at_psm own peer) → at_psm ≡ psm
      by (id, status, inl (granted, asks)) =
          absurd ((endpoints-are_granted_once near one id status own peer (subst (λ (r : Run). HasGranted id status own peer r.said) m.near_by.run_is granted)).1 identifier psm asked)
      by (id, status, inr (asks, granted)) = endpoints-ask_for_one_psm near one id at_psm own identifier psm (subst (λ (r : Run). HasAsked id at_psm own r.said) m.near_by.run_is asks) asked

      of_psm : (found : Option Entry) → read_at own (reading (pair_of near far m.past).near.run.said).entries ≡ found → IsOf (channel_by at_psm own peer) found → at_psm ≡ psm
      of_psm None at is = absurd is
      of_psm (Some entry) at is = by (subst (Belongs (pair_of near far m.past).near.run.said (pair_of near far m.past).far.run.said) is (channels-belong near far m.past m.read Near own entry at))

-- ---- both hosts wish the same modes

each_ahead : (P : List Turn → Turn → Type 0) (turns past later : List Turn) → turns ≡ past ++ later → EachAfter P [] turns → EachAfter P [] past
each_ahead P turns past later is each = (each_split P [] past later (subst (EachAfter P []) is each)).0

either_mode : (search muxed : Bool) (a b c : Wish) → a.mode ≡ Basic → b.mode ≡ Basic → c.mode ≡ Enhanced → ((cond search a (cond muxed b c)).mode ≡ Basic) ⊎ ((cond search a (cond muxed b c)).mode ≡ Enhanced)
either_mode true muxed a b c one two three = inl one
either_mode false true a b c one two three = inl two
either_mode false false a b c one two three = inr three

wished_mode : (settings : Settings) (psm : ℕ) → ((wished settings psm).mode ≡ Basic) ⊎ ((wished settings psm).mode ≡ Enhanced)
wished_mode settings psm =
    either_mode (eqb psm 0x0001) (eqb psm 0x0003) (record (enhanced_wish settings) { mode = Basic; mtu = 672 }) (record (enhanced_wish settings) { mode = Basic }) (enhanced_wish settings) refl refl refl

module _ (settings : Settings) (near_all far_all : List Occurrence) (pair : PairOnLink (policy settings false) (policy settings true) near_all far_all) (plain : ArePlainPipes (policy settings false) (policy settings true) pair.turns)
    (carried : AreCarried (policy settings false) (policy settings true) pair.turns) (near_utters : AreUttered (policy settings false) near_all) (far_utters : AreUttered (policy settings true) far_all) where
  abbrev P : Policy
  P = policy settings false

  abbrev Q : Policy
  Q = policy settings true

  pub met-at : (ahead after : List Joint) → joints_from (new_pair (policy settings false) (policy settings true)) pair.turns ≡ ahead ++ after → Met (policy settings false) (policy settings true) (flat_map near_in ahead) (flat_map far_in ahead)
  met-at ahead after joints_are = record { past = run.past; read = reads; near_by = run.near_by; far_by = run.far_by; delivers = λ channel has. by channel has (wished_mode settings channel.psm) }
    where
      run : IsFrontOfTurns P Q pair.turns ahead
      run =
          fronts-are_run P Q pair.turns ahead after joints_are (subst (AreUttered P) (sym pair.near_list ∙ ap (flat_map near_in) joints_are) near_utters)
          (subst (AreUttered Q) (sym pair.far_list ∙ ap (flat_map far_in) joints_are) far_utters)

      reads : AreRead P Q run.past
      reads = each_ahead (λ past turn. IsRead turn.happening (end_at turn.side (pair_of P Q past))) pair.turns run.past run.later run.turns_are pair.read

      by : (channel : Channel) → HaveChannel P Q run.past channel → ((wished settings channel.psm).mode ≡ Basic) ⊎ ((wished settings channel.psm).mode ≡ Enhanced)
          → IsFront (sdus_up channel.own (pair_of P Q run.past).near.run.up) (taken_of Q channel.peer (flat_map far_in ahead)) × IsFront (sdus_up channel.peer (pair_of P Q run.past).far.run.up) (taken_of P channel.own (flat_map near_in ahead))
      by channel has (inl basic) =
          let both = plain ahead after channel joints_are
          (record {
            near_has = subst (λ (r : Run). IsOf channel (read_at channel.own (reading r.said).entries)) run.near_by.run_is has.near_has;
            far_has = subst (λ (r : Run). IsOf (mirrored channel) (read_at channel.peer (reading r.said).entries)) run.far_by.run_is has.far_has;
            near_mode = basic;
            far_mode = basic;
          }) in (
            subst (λ (r : Run). IsFront (sdus_up channel.own r.up) (taken_of Q channel.peer (flat_map far_in ahead))) (sym run.near_by.run_is) both.near_comes,
            subst (λ (r : Run). IsFront (sdus_up channel.peer r.up) (taken_of P channel.own (flat_map near_in ahead))) (sym run.far_by.run_is) both.far_comes,
          )
      by channel has (inr enhanced) =
          let both = wished-is_delivered P Q run.past channel (flat_map near_in ahead) (flat_map far_in ahead)
          (each_ahead (λ past turn. DoesSo IsUttered turn.happening (end_at turn.side (pair_of P Q past))) pair.turns run.past run.later run.turns_are pair.fair) reads
          (each_ahead (λ past turn. IsCarried turn.happening (end_at turn.side (pair_of P Q past))) pair.turns run.past run.later run.turns_are carried) has
          (both_can settings channel.psm) enhanced enhanced run.near_by run.far_by in
          (both.0 (party_of settings sides.B) (states_frame settings true sides.B), both.1 (party_of settings sides.A) (states_frame settings false sides.A))
