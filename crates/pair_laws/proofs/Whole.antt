-- All that comes on the channels of a pair of a run is handed up.
use Rattle.std.proofs.Common.{◌≡◌, ℕ, suc, Bool, true, false, eqb, cond, List, [], ◌∷◌, subst, ◌∙◌, arith}
use Rattle.std.specs.Prelude.{get_or}
use Rattle.std.specs.List.{AllByRecursion, flat_map}
use Rattle.scenario_laws.specs.bt_base.specs.declared.settings.Settings.{Settings}
use Rattle.scenario_laws.specs.l2cap_config.specs.declared.wish.Mode.TheVariants.{Basic}
use Rattle.scenario_laws.specs.push_terms.specs.declared.word.Side.TheVariants as sides
use Rattle.channel_laws.specs.channel_model.specs.Policies.{Policy, wished, enhanced_wish, policy}
use Rattle.channel_laws.specs.Pairs.{pair_of}
use Rattle.channel_laws.specs.Pipes.{CanState, CanStateBoth}
use Rattle.channel_laws.specs.Runs.{Occurrence, Run, run_of}
use Rattle.channel_laws.specs.Whole.{HandsAllUp}
use Rattle.channel_laws.proofs.Wholeness.{channels-are_whole}
use Rattle.scenario_laws.specs.host_model.specs.Clients.{client_profile}
use Rattle.scenario_laws.specs.host_model.specs.Servers.{server_profile}
use Rattle.host_laws.specs.InOrder.{IsWhole}
use Rattle.host_laws.specs.Lives.{on_links}
use Rattle.host_laws.specs.OverLinks.{talk_marks}
use Rattle.host_laws.proofs.Telling.{sdus_run}
use Rattle.pair_laws.specs.OnLinks.{happened_on}
use Rattle.pair_laws.specs.Whole.{PairsAreWhole}
use Rattle.pair_laws.proofs.Taking.{pairs-are_carried}

-- ---- what hosts of these settings wish

can_enhanced : (settings : Settings) → CanState (enhanced_wish settings)
can_enhanced settings = record {
  mtu = let high = settings.mtu_high in omega (arith, high);
  mps = let high = settings.mps_high in omega (arith, high);
  least = let low = settings.mps_low in omega (arith, low);
  tries = let high = settings.tries_high in omega (arith, high);
  some = settings.window_low;
  most = settings.window_high;
}

can_wish : (settings : Settings) (psm : ℕ) → CanState (wished settings psm)
can_wish settings psm = by (eqb psm 0x0001) (eqb psm 0x0003)
  where
    can : CanState (enhanced_wish settings)
    can = can_enhanced settings

    by : (services rfcomm : Bool) → CanState (cond services (record (enhanced_wish settings) { mode = Basic; mtu = 672 }) (cond rfcomm (record (enhanced_wish settings) { mode = Basic }) (enhanced_wish settings)))
    by true rfcomm = record { mtu = omega arith; mps = can.mps; least = can.least; tries = can.tries; some = can.some; most = can.most }
    by false true = record { mtu = can.mtu; mps = can.mps; least = can.least; tries = can.tries; some = can.some; most = can.most }
    by false false = can

pub both_can : (settings : Settings) (psm : ℕ) → CanStateBoth (policy settings false) (policy settings true) psm
both_can settings psm = record { near_can = can_wish settings psm; far_can = can_wish settings psm }

-- ---- on a link

whole_run : (policy : Policy) (list : List Occurrence) (run : Run) → run ≡ run_of policy list → HandsAllUp policy run → IsWhole policy list
whole_run policy list run is hands channel broken party states =
    subst (λ (r : Run). HandsAllUp policy r) is hands party channel states ∙ sdus_run policy channel.own list

-- each of a list has it where each place of it has
pub all_places : (P : List Occurrence → Type 0) (lists : List (List Occurrence)) → ((number : ℕ) → P (get_or lists number [])) → AllByRecursion P lists
all_places P [] each = tt
all_places P (list ∷ lists) each = (each 0, all_places P lists (λ number. each (suc number)))

pub pairs-are_whole : PairsAreWhole
pairs-are_whole asks scenario content capture ran pairs within = record {
  a = all_places (IsWhole (policy scenario.settings false)) (on_links (client_profile scenario.settings) (asks.clients scenario.settings) (flat_map talk_marks pairs.a.came.talk) ran.world.a.upper pairs.a.fed.so.lives)
      (λ number. let pair = pairs.pairs number in whole_run (policy scenario.settings false) (happened_on (client_profile scenario.settings) (asks.clients scenario.settings) sides.A capture ran.world.a.upper pairs.a number) (pair_of (policy scenario.settings false) (policy scenario.settings true) pair.turns).near.run pair.near_is (hands number).0);
  b = all_places (IsWhole (policy scenario.settings true)) (on_links (server_profile scenario.settings content) (asks.servers scenario.settings content) (flat_map talk_marks pairs.b.came.talk) ran.world.b.upper pairs.b.fed.so.lives)
      (λ number. let pair = pairs.pairs number in whole_run (policy scenario.settings true) (happened_on (server_profile scenario.settings content) (asks.servers scenario.settings content) sides.B capture ran.world.b.upper pairs.b number) (pair_of (policy scenario.settings false) (policy scenario.settings true) pair.turns).far.run pair.far_is (hands number).1);
}
  where
    hands : (number : ℕ) → HandsAllUp (policy scenario.settings false) (pair_of (policy scenario.settings false) (policy scenario.settings true) (pairs.pairs number).turns).near.run × HandsAllUp (policy scenario.settings true) (pair_of (policy scenario.settings false) (policy scenario.settings true) (pairs.pairs number).turns).far.run
    hands number =
        let pair = pairs.pairs number in
        channels-are_whole (policy scenario.settings false) (policy scenario.settings true) pair.turns pair.fair pair.read (pairs-are_carried asks scenario content capture ran pairs within number) (both_can scenario.settings)
