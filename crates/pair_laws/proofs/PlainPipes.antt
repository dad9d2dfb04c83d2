-- Basic channels of both hosts of a run are pipes of what they took, at each moment of a link.
use Rattle.std.proofs.Common.{◌≡◌, ℕ, zero, suc, Bool, true, false, List, [], ◌∷◌, ◌++◌, sym, subst, ◌∙◌}
use Rattle.std.specs.Prelude.{get_or}
use Rattle.std.specs.List.{AllByRecursion, flat_map}
use Rattle.scenario_laws.specs.capture.specs.Histories.{EachAfter}
use Rattle.scenario_laws.specs.link_talk.specs.Channels.{reading}
use Rattle.channel_laws.specs.channel_model.specs.Policies.{Policy}
use Rattle.channel_laws.specs.Belonging.{IsRead}
use Rattle.channel_laws.specs.Common.{mirrored}
use Rattle.channel_laws.specs.Endpoints.{IsOf}
use Rattle.channel_laws.specs.Ends.{DoesSo, end_at}
use Rattle.channel_laws.specs.Frames.{IsUttered, AreUttered}
use Rattle.channel_laws.specs.Ordered.{same_side, AtEnd, KeepsWay, IsBroken, IsOrdered}
use Rattle.channel_laws.specs.Pairs.{Happening, Acts, Puts, Takes, Repeats, Loses, Damages, Side, Near, Far, Turn, pair_of}
use Rattle.channel_laws.specs.Pipes.{IsCarried, AreCarried, HaveChannel, IsFront}
use Rattle.channel_laws.specs.Runs.{Occurrence, Run, sdus_up}
use Rattle.channel_laws.specs.Taken.{taken_of}
use Rattle.channel_laws.specs.Views.{read_at}
use Rattle.channel_laws.proofs.PlainTaken.{plain-is_delivered}
use Rattle.scenario_laws.specs.host_model.specs.Clients.{client_profile}
use Rattle.scenario_laws.specs.host_model.specs.Servers.{server_profile}
use Rattle.host_laws.specs.Lives.{on_links}
use Rattle.host_laws.specs.OverLinks.{talk_marks}
use Rattle.pair_laws.specs.Fronts.{IsFrontOfTurns}
use Rattle.pair_laws.specs.Orders.{near_in, far_in}
use Rattle.pair_laws.specs.Pairs.{PairOnLink}
use Rattle.pair_laws.specs.PlainPipes.{ArePlainPipes, PlainPairsArePipes}
use Rattle.pair_laws.proofs.Facing.{each_split}
use Rattle.pair_laws.proofs.Fronts.{fronts-are_run}
use Rattle.pair_laws.proofs.Taking.{pairs-are_carried}

-- ---- a front of what keeps its order

broken_ahead : (side : Side) (past later : List Turn) → IsBroken side (past ++ later) → IsBroken side past
broken_ahead side [] later broken = tt
broken_ahead side (turn ∷ past) later broken = (broken.0, broken_ahead side past later broken.1)

way_ahead : (happening : Happening) (whole broken whole' broken' : Type 0) → (whole → whole') → (broken → broken') → KeepsWay happening whole broken → KeepsWay happening whole' broken'
way_ahead (Acts occurrence) whole broken whole' broken' to over keeps = to keeps
way_ahead (Puts pdu) whole broken whole' broken' to over keeps = to keeps
way_ahead Takes whole broken whole' broken' to over keeps = to keeps
way_ahead Repeats whole broken whole' broken' to over keeps = absurd keeps
way_ahead Loses whole broken whole' broken' to over keeps = over keeps
way_ahead (Damages pdu) whole broken whole' broken' to over keeps = absurd keeps

pub ordered_ahead : (side : Side) (past later : List Turn) → IsOrdered side (past ++ later) → IsOrdered side past
ordered_ahead side [] later ordered = tt
ordered_ahead side (turn ∷ past) later ordered = by (same_side turn.side side) (ordered_ahead side past later) ordered
  where
    by : (here : Bool) → (IsOrdered side (past ++ later) → IsOrdered side past) → AtEnd here (KeepsWay turn.happening (IsOrdered side (past ++ later)) (IsBroken side (past ++ later))) (IsOrdered side (past ++ later))
        → AtEnd here (KeepsWay turn.happening (IsOrdered side past) (IsBroken side past)) (IsOrdered side past)
    by true rest keeps = way_ahead turn.happening (IsOrdered side (past ++ later)) (IsBroken side (past ++ later)) (IsOrdered side past) (IsBroken side past) rest (broken_ahead side past later) keeps
    by false rest keeps = rest keeps

each_ahead : (P : List Turn → Turn → Type 0) (turns past later : List Turn) → turns ≡ past ++ later → EachAfter P [] turns → EachAfter P [] past
each_ahead P turns past later is each = (each_split P [] past later (subst (EachAfter P []) is each)).0

-- ---- along a pair

module _ (near far : Policy) (one other : List Occurrence) (pair : PairOnLink near far one other) (carried : AreCarried near far pair.turns) (near_utters : AreUttered near one) (far_utters : AreUttered far other)
    (near_ordered : IsOrdered Near pair.turns) (far_ordered : IsOrdered Far pair.turns) where
  pub plain_pipes : ArePlainPipes near far pair.turns
  plain_pipes front rest channel joints_are plain = record {
    near_comes = subst (λ (r : Run). IsFront (sdus_up channel.own r.up) (taken_of far channel.peer (flat_map far_in front))) run.near_by.run_is (both.0 (ordered_ahead Near run.past run.later (subst (IsOrdered Near) run.turns_are near_ordered)));
    far_comes = subst (λ (r : Run). IsFront (sdus_up channel.peer r.up) (taken_of near channel.own (flat_map near_in front))) run.far_by.run_is (both.1 (ordered_ahead Far run.past run.later (subst (IsOrdered Far) run.turns_are far_ordered)));
  }
    where
      near_is : one ≡ flat_map near_in (front ++ rest)
      near_is = sym pair.near_list ∙ (λ i. flat_map near_in (joints_are i))

      far_is : other ≡ flat_map far_in (front ++ rest)
      far_is = sym pair.far_list ∙ (λ i. flat_map far_in (joints_are i))

      run : IsFrontOfTurns near far pair.turns front
      run = fronts-are_run near far pair.turns front rest joints_are (subst (AreUttered near) near_is near_utters) (subst (AreUttered far) far_is far_utters)

      have : HaveChannel near far run.past channel
      have = record {
        near_has = subst (λ (r : Run). IsOf channel (read_at channel.own (reading r.said).entries)) (sym run.near_by.run_is) plain.near_has;
        far_has = subst (λ (r : Run). IsOf (mirrored channel) (read_at channel.peer (reading r.said).entries)) (sym run.far_by.run_is) plain.far_has;
      }

      both : (IsOrdered Near run.past → IsFront (sdus_up channel.own (pair_of near far run.past).near.run.up) (taken_of far channel.peer (flat_map far_in front)))
          × (IsOrdered Far run.past → IsFront (sdus_up channel.peer (pair_of near far run.past).far.run.up) (taken_of near channel.own (flat_map near_in front)))
      both =
          plain-is_delivered near far run.past channel (flat_map near_in front) (flat_map far_in front)
          (each_ahead (λ past turn. DoesSo IsUttered turn.happening (end_at turn.side (pair_of near far past))) pair.turns run.past run.later run.turns_are pair.fair)
          (each_ahead (λ past turn. IsRead turn.happening (end_at turn.side (pair_of near far past))) pair.turns run.past run.later run.turns_are pair.read)
          (each_ahead (λ past turn. IsCarried turn.happening (end_at turn.side (pair_of near far past))) pair.turns run.past run.later run.turns_are carried)
          have plain.near_mode plain.far_mode run.near_by run.far_by

-- ---- of a run

-- of each link what is so of all, and of one on which nothing happened yet
pub at_number : (P : List Occurrence → Type 0) → P [] → (lists : List (List Occurrence)) → AllByRecursion P lists → (number : ℕ) → P (get_or lists number [])
at_number P none [] all number = none
at_number P none (list ∷ lists) all zero = all.0
at_number P none (list ∷ lists) all (suc number) = at_number P none lists all.1 number

pub plain-pairs_are_pipes : PlainPairsArePipes
plain-pairs_are_pipes asks scenario content capture ran order within number =
    let A = client_profile scenario.settings in
    let B = server_profile scenario.settings content in
    let pairs = order.turns.pairs in
    plain_pipes A.policy B.policy _ _ (pairs.pairs number) (pairs-are_carried asks scenario content capture ran pairs within number)
    (at_number (AreUttered A.policy) tt (on_links A (asks.clients scenario.settings) (flat_map talk_marks pairs.a.came.talk) ran.world.a.upper pairs.a.fed.so.lives) pairs.a.uttered number)
    (at_number (AreUttered B.policy) tt (on_links B (asks.servers scenario.settings content) (flat_map talk_marks pairs.b.came.talk) ran.world.b.upper pairs.b.fed.so.lives) pairs.b.uttered number) (order.near number) (order.far number)
