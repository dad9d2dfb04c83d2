-- Each ReqSeq that comes in at either of two hosts is taken, over all turns.
use Rattle.std.proofs.Common.{◌≡◌, ℕ, List, [], ◌∷◌, ◌++◌, Option, Some, None, inl, inr, refl, sym, ap, subst, ◌∙◌, arith, append_assoc, append-nil}
use Rattle.std.specs.Prelude.{is_some}
use Rattle.std.proofs.lemmas.List.Sums.{fold-append}
use Rattle.own_channel_laws.specs.talk_laws.specs.capture.specs.Histories.{EachAfter, AtEach}
use Rattle.own_channel_laws.specs.talk_laws.specs.capture.proofs.HistoryLaws.{at_each-none}
use Rattle.own_channel_laws.specs.talk_laws.specs.l2cap_config.specs.declared.wish.Mode.{Mode}
use Rattle.own_channel_laws.specs.talk_laws.specs.l2cap_config.specs.declared.wish.Mode.TheVariants.{Enhanced}
use Rattle.own_channel_laws.specs.talk_laws.specs.link_talk.specs.declared.channel.Channel.{Channel}
use Rattle.own_channel_laws.specs.talk_laws.specs.link_talk.specs.declared.party.Party.{Party}
use Rattle.own_channel_laws.specs.talk_laws.specs.link_talk.specs.Channels.{Entry, reading}
use Rattle.own_channel_laws.specs.talk_laws.specs.link_talk.specs.Carriages.{entry_mode, mode_of}
use Rattle.own_channel_laws.specs.talk_laws.specs.link_talk.specs.Accounts.{frames_passed}
use Rattle.own_channel_laws.specs.channel_model.specs.Policies.{Policy}
use Rattle.own_channel_laws.specs.Endpoints.{IsOf}
use Rattle.own_channel_laws.specs.Frames.{IsUttered}
use Rattle.own_channel_laws.specs.Runs.{Run}
use Rattle.own_channel_laws.specs.Sdus.{StatesFrame}
use Rattle.own_channel_laws.specs.Views.{read_at}
use Rattle.own_channel_laws.proofs.Frames.{RunPasses, run-passes}
use Rattle.channel_laws.specs.Belonging.{AreRead, said_at}
use Rattle.channel_laws.specs.Common.{mirrored}
use Rattle.channel_laws.specs.Ends.{DoesSo, AreFair, end_at}
use Rattle.channel_laws.specs.Modes.{OneWishes}
use Rattle.channel_laws.specs.Pairs.{End, Pair, Happening, new_pair, Side, Near, Far, turned, Turn, happens_at, pair_after, pair_of}
use Rattle.channel_laws.specs.Pipes.{IsCarried, AreCarried, HaveChannel, CanStateBoth}
use Rattle.channel_laws.proofs.Bonds.{Bond, bond-of}
use Rattle.channel_laws.proofs.Flowing.{sound-of, turned-piped, Common, Fair, side_piped, first_piped, common_at, enhanced-accepted, other_wishes, terms_of, fair-by}
use Rattle.channel_laws.proofs.Joining.{Terms, other_terms}
use Rattle.channel_laws.proofs.Pairing.{Runs, BothRun, at-runs, first-runs}
use Rattle.channel_laws.proofs.Piped.{Piped}
use Rattle.channel_laws.proofs.Sharing.{channels-are_common}
use Rattle.window_laws.specs.Numbers.{LastIsTaken}
use Rattle.window_laws.specs.Pairs.{BothTakeAll}
use Rattle.window_laws.specs.Windows.{HoldsOnEach}
use Rattle.window_laws.proofs.Climbing.{Kept}
use Rattle.window_laws.proofs.Watching.{Watched, near-watched, far-watched}

passes_of : (policy : Policy) (party : Party) (channel : Channel) (end' : End) → StatesFrame policy party → Runs IsUttered policy end' → RunPasses end'.policy party channel end'.run
passes_of policy party channel end' states runs =
    subst (λ p. RunPasses p party channel end'.run) (sym runs.policy_is) (subst (λ (run : Run). RunPasses policy party channel run) (sym runs.run_is) (run-passes policy party channel runs.list states runs.each))

-- both ends state the same frames
record Frames (party : Party) (t : Terms) (near far : Policy) : Type 0 where
  near_states : StatesFrame near party
  far_states : StatesFrame far party
  mine_is : t.mine.receive_mps ≡ party.frame
  other_is : t.other.receive_mps ≡ party.frame

module _ (near far : Policy) (party : Party) (t : Terms) (channel : Channel) (fair : Fair t channel) (states : Frames party t near far) where
  -- of the end that is watched
  abbrev WatchedAt : Side → Pair → Type 0
  WatchedAt Near pair = Watched party channel pair
  WatchedAt Far pair = Watched party (mirrored channel) (turned pair)

  turn_watched : (watch side : Side) (happening : Happening) (pair : Pair) → BothRun IsUttered near far pair → Common t channel pair → DoesSo IsUttered happening (end_at side pair) → IsCarried happening (end_at side pair) → Piped party t channel pair
      → WatchedAt watch pair → WatchedAt watch (happens_at side happening pair)
  turn_watched Near Near happening pair runs common uttered carried h watched =
      near-watched party t channel pair states.mine_is (record { high = fair.peer_high; sound = sound-of IsUttered near pair.near runs.near_runs; mate = common.near_mate }) (passes_of near party channel pair.near states.near_states runs.near_runs) h happening uttered carried watched
  turn_watched Far Near happening pair runs common uttered carried h watched =
      far-watched party t channel pair states.mine_is (record { high = fair.peer_high; sound = sound-of IsUttered near pair.near runs.near_runs; mate = common.near_mate }) (passes_of near party channel pair.near states.near_states runs.near_runs) h happening uttered carried watched
  turn_watched Far Far happening pair runs common uttered carried h watched =
      near-watched party (other_terms t) (mirrored channel) (turned pair) states.other_is (record { high = fair.own_high; sound = sound-of IsUttered far pair.far runs.far_runs; mate = common.far_mate })
      (passes_of far party (mirrored channel) pair.far states.far_states runs.far_runs) (turned-piped party t channel pair h) happening uttered carried watched
  turn_watched Near Far happening pair runs common uttered carried h watched =
      far-watched party (other_terms t) (mirrored channel) (turned pair) states.other_is (record { high = fair.own_high; sound = sound-of IsUttered far pair.far runs.far_runs; mate = common.far_mate })
      (passes_of far party (mirrored channel) pair.far states.far_states runs.far_runs) (turned-piped party t channel pair h) happening uttered carried watched

  all_watched : (watch : Side) (all past rest : List Turn) → ((front behind : List Turn) → all ≡ front ++ behind → Common t channel (pair_of near far front)) → all ≡ past ++ rest
      → EachAfter (λ front turn. DoesSo IsUttered turn.happening (end_at turn.side (pair_of near far front))) past rest → EachAfter (λ front turn. IsCarried turn.happening (end_at turn.side (pair_of near far front))) past rest
      → BothRun IsUttered near far (pair_of near far past) → Piped party t channel (pair_of near far past) → WatchedAt watch (pair_of near far past) → WatchedAt watch (pair_of near far all)
  all_watched watch all past [] common is uttered carried runs h watched = subst (λ list. WatchedAt watch (pair_of near far list)) (sym (is ∙ append-nil past)) watched
  all_watched watch all past (turn ∷ rest) common is (now, uttered) (passes, carried) runs h watched =
      all_watched watch all (past ++ turn ∷ []) rest common further uttered carried
      (subst (BothRun IsUttered near far) (sym next) (at-runs IsUttered near far turn.side turn.happening pair (λ pdu v. tt) now runs))
      (subst (Piped party t channel) (sym next) (side_piped near far party t channel pair turn.side turn.happening fair runs here (subst (Common t channel) next (common (past ++ turn ∷ []) rest further)) now passes h))
      (subst (WatchedAt watch) (sym next) (turn_watched watch turn.side turn.happening pair runs here now passes h watched))
    where
      pair : Pair
      pair = pair_of near far past

      here : Common t channel pair
      here = common past (turn ∷ rest) is

      next : pair_of near far (past ++ turn ∷ []) ≡ happens_at turn.side turn.happening pair
      next = fold-append pair_after (new_pair near far) past (turn ∷ [])

      further : all ≡ (past ++ turn ∷ []) ++ rest
      further = is ∙ sym (append_assoc past (turn ∷ []) rest)

-- ---- both ends

none_kept : (Spent : Type 0) → Kept Spent [] [] []
none_kept Spent = record { few = omega arith; counts = inr (omega arith); high = 0; climbs = omega arith; high_accepted = omega arith; high_given = omega arith }

module _ (near far : Policy) (turns : List Turn) (party : Party) (near_states : StatesFrame near party) (far_states : StatesFrame far party) (fair : AreFair near far turns) (read : AreRead near far turns) (carried : AreCarried near far turns)
    (can : (psm : ℕ) → CanStateBoth near far psm) where
  -- of a channel that both have, which one wishes in enhanced mode
  both_have : (channel : Channel) → HaveChannel near far turns channel → OneWishes near far channel.psm Enhanced
      → AtEach LastIsTaken (frames_passed party channel (pair_of near far turns).near.run.said) × AtEach LastIsTaken (frames_passed party (mirrored channel) (pair_of near far turns).far.run.said)
  both_have channel have wish = ((watched Near (first Near)).1, (watched Far (first Far)).1)
    where
      near_bond : Bond near far turns Near channel.psm channel.own
      near_bond = bond-of near far turns read Near channel have.near_has (can channel.psm).near_can (can channel.psm).far_can

      far_bond : Bond near far turns Far channel.psm channel.peer
      far_bond = bond-of near far turns read Far (mirrored channel) have.far_has (can channel.psm).far_can (can channel.psm).near_can

      t : Terms
      t = terms_of near far turns channel near_bond far_bond

      suits : Fair t channel
      suits = fair-by near far turns channel have (can channel.psm) near_bond far_bond

      states : Frames party t near far
      states = record { near_states = near_states; far_states = far_states; mine_is = near_bond.within.own_mps ∙ near_states channel.psm; other_is = far_bond.within.own_mps ∙ far_states channel.psm }

      first : (watch : Side) → WatchedAt near far party t channel suits states watch (new_pair near far)
      first Near = (none_kept _, at_each-none LastIsTaken refl)
      first Far = (none_kept _, at_each-none LastIsTaken refl)

      watched : (watch : Side) → WatchedAt near far party t channel suits states watch (new_pair near far) → WatchedAt near far party t channel suits states watch (pair_of near far turns)
      watched watch now =
          all_watched near far party t channel suits states watch turns [] turns (common_at near far turns channel near_bond far_bond read have wish) refl fair carried (first-runs IsUttered near far)
          (first_piped near far party t channel suits.there suits.back) now

  -- a channel that one has in enhanced mode both have
  there : (side : Side) (channel : Channel) → IsOf channel (read_at channel.own (reading (said_at side (pair_of near far turns))).entries) → mode_of channel (said_at side (pair_of near far turns)) ≡ Enhanced
      → IsOf (mirrored channel) (read_at channel.peer (reading (said_at side (turned (pair_of near far turns)))).entries)
  there side channel has mode = by (read_at channel.own (reading (said_at side (pair_of near far turns))).entries) refl has mode
    where
      by : (found : Option Entry) → read_at channel.own (reading (said_at side (pair_of near far turns))).entries ≡ found → IsOf channel found → entry_mode found ≡ Enhanced
          → IsOf (mirrored channel) (read_at channel.peer (reading (said_at side (turned (pair_of near far turns)))).entries)
      by None at is enhanced = elim is [ ]
      by (Some entry) at is enhanced =
          subst (λ (c : Channel). IsOf (mirrored c) (read_at c.peer (reading (said_at side (turned (pair_of near far turns)))).entries)) is
          (channels-are_common near far turns read side channel.own entry at (ap (λ (o : Option Mode). is_some o) (enhanced-accepted entry.setup enhanced)))

  pub near_takes : HoldsOnEach LastIsTaken party (pair_of near far turns).near.run.said
  near_takes channel has mode = (both_have channel (record { near_has = has; far_has = there Near channel has mode }) (inr (other_wishes near far turns read Near channel has mode))).0

  pub far_takes : HoldsOnEach LastIsTaken party (pair_of near far turns).far.run.said
  far_takes channel has mode = (both_have (mirrored channel) (record { near_has = there Far channel has mode; far_has = has }) (inl (other_wishes near far turns read Far channel has mode))).1

pub both-take_all : BothTakeAll
both-take_all near far turns party near_states far_states fair read carried can =
    (near_takes near far turns party near_states far_states fair read carried can, far_takes near far turns party near_states far_states fair read carried can)
