-- How many passes an enhanced channel of two hosts needs.
use Rattle.std.proofs.Common.{◌≡◌, ℕ, ◌+◌, ◌*◌, ◌≤◌, List, [], length, refl, sym, subst, inl, arith, append-nil}
use Rattle.channel_laws.specs.l2cap_config.specs.declared.wish.Mode.TheVariants.{Enhanced}
use Rattle.channel_laws.specs.ertm_model.specs.Pair.{Pair as Machines, new_pair as new_ends}
use Rattle.channel_laws.specs.ertm_model.specs.Recovery.{IsDone}
use Rattle.channel_laws.specs.ertm_model.proofs.Standing.{swapped}
use Rattle.channel_laws.specs.link_talk.specs.declared.channel.Channel.{Channel}
use Rattle.channel_laws.specs.channel_model.specs.Value.{Retransmitting}
use Rattle.channel_laws.specs.channel_model.specs.Changing.{is_open}
use Rattle.channel_laws.specs.Modes.{OneWishes}
use Rattle.channel_laws.specs.Pairs.{Pair, new_pair, Near, Far, Turn, pair_of}
use Rattle.channel_laws.proofs.Bonds.{Bond, bond-of}
use Rattle.channel_laws.proofs.Flowing.{Common, Fair as Suited, terms_of, fair-by, common_at}
use Rattle.channel_laws.proofs.Joining.{Terms, Holds}
use Rattle.channel_laws.proofs.Keeping.{HeldKeeps}
use Rattle.channel_laws.proofs.Pairing.{each-end_runs}
use Rattle.channel_laws.proofs.Partaking.{kept-on, settle}
use Rattle.channel_laws.specs.Common.{mirrored}
use Rattle.recovered_laws.proofs.Twins.{On, Twins, Both}
use Rattle.recovered_laws.proofs.Turning.{Joint}
use Rattle.recovered_laws.proofs.Paying.{first_joint}
use Rattle.recovered_laws.proofs.Readying.{both-ready}
use Rattle.recovered_laws.proofs.Settling.{OpenAt, open-at, wishes-it}
use Rattle.recovery_laws.specs.Number.{passes_left}
use Rattle.recovery_laws.specs.Facts.{Recovers}
use Rattle.recovery_laws.proofs.Turning.{new-recovers, recovers-holds, holds-recovers, total-is}
use Rattle.recovery_laws.proofs.Within.{Within}
use Rattle.passing_laws.specs.Words.{turns_of, AreSilent, all_wrongs, all_finds}
use Rattle.passing_laws.specs.Channels.{IsIdle, ChannelsRecover}
use Rattle.passing_laws.proofs.Idle.{idle-done}
use Rattle.passing_laws.proofs.Known.{to_near, to_far}
use Rattle.passing_laws.proofs.Onsets.{Ready, ready-joint}
use Rattle.passing_laws.proofs.Counting.{Course, standing, below_near, below_far, words-within}

-- two new ends need two passes for each segment that is planned
first_within : (t : Terms) (channel : Channel) → Suited t channel → Within 0 0 (new_ends t.mine t.other)
first_within t channel suited planned_a planned_b fits_a fits_b =
    let (recovers, is) = new-recovers t.mine t.other planned_a planned_b suited.there.meets suited.back.meets in
    let all = total-is planned_a planned_b (new_ends t.mine t.other) recovers.fit_a recovers.fit_b recovers.settled_a recovers.settled_b in
    record { holds = recovers-holds planned_a planned_b (new_ends t.mine t.other) recovers; within = omega (arith, is, all) }

counted_so : (found owed planned_a planned_b : ℕ) (n f : List (List ℕ)) (p : Machines) → length p.a.put ≤ planned_a → length p.b.put ≤ planned_b → Ready found owed n f p
    → Recovers planned_a planned_b p × (found + passes_left planned_a planned_b p ≤ owed + (2 * planned_a + 2 * planned_b))
counted_so found owed planned_a planned_b n f p fits_a fits_b r =
    let b = r.within planned_a planned_b fits_a fits_b in
    let all = total-is planned_a planned_b p b.holds.fit_x b.holds.fit_y r.settled_a r.settled_b in
    let le = b.within in
    (holds-recovers planned_a planned_b p b.holds r.settled_a r.settled_b, omega (arith, le, all))

-- where a machine is idle
near_done : (found owed : ℕ) (n f : List (List ℕ)) (p : Machines) → Ready found owed n f p → IsIdle p.a.machine → IsDone p.a p.b
near_done found owed n f p r idle = let b = r.within (length p.a.put) (length p.b.put) (omega arith) (omega arith) in idle-done p.a p.b r.known.stands r.settled_a b.holds.fit_x.ready idle

far_done : (found owed : ℕ) (n f : List (List ℕ)) (p : Machines) → Ready found owed n f p → IsIdle p.b.machine → IsDone p.b p.a
far_done found owed n f p r idle = let b = r.within (length p.a.put) (length p.b.put) (omega arith) (omega arith) in idle-done p.b p.a (swapped r.known.stands) r.settled_b b.holds.fit_y.ready idle

pub channels-recover : ChannelsRecover
channels-recover near far words channel uttered read passes have can are near_machine far_machine near_carries far_carries = record {
  ends = x.pair;
  near_is = near_same;
  far_is = far_same;
  to_near = x.kept.known.near_long;
  to_far = x.kept.known.far_long;
  counted = λ planned_a planned_b fits_a fits_b.
      let (recovers, le) = counted_so (0 + all_finds channel (new_pair near far) words) (0 + 256 * all_wrongs words) planned_a planned_b n f x.pair fits_a fits_b x.kept in (recovers, omega (arith, le));
  near_idle = λ idle. near_done (0 + all_finds channel (new_pair near far) words) (0 + 256 * all_wrongs words) n f x.pair x.kept (subst IsIdle near_same idle);
  far_idle = λ idle. far_done (0 + all_finds channel (new_pair near far) words) (0 + 256 * all_wrongs words) n f x.pair x.kept (subst IsIdle far_same idle);
}
  where
    turns : List Turn
    turns = turns_of words

    pair : Pair
    pair = pair_of near far turns

    n : List (List ℕ)
    n = to_near channel (pair_of near far (turns_of words))

    f : List (List ℕ)
    f = to_far channel (pair_of near far (turns_of words))

    near_bond : Bond near far (turns_of words) Near channel.psm channel.own
    near_bond = bond-of near far (turns_of words) read Near channel have.near_has can.near_can can.far_can

    far_bond : Bond near far (turns_of words) Far channel.psm channel.peer
    far_bond = bond-of near far (turns_of words) read Far (mirrored channel) have.far_has can.far_can can.near_can

    t : Terms
    t = terms_of near far (turns_of words) channel near_bond far_bond

    suited : Suited t channel
    suited = fair-by near far (turns_of words) channel have can near_bond far_bond

    wish : OneWishes near far channel.psm Enhanced
    wish = inl (wishes-it near (pair_of near far (turns_of words)).near.run channel near_machine (each-end_runs near far (turns_of words)).0 have.near_has near_carries)

    course : Course near far t channel (turns_of words)
    course = record {
      suited = suited;
      common = common_at near far (turns_of words) channel near_bond far_bond read have wish;
      ready = both-ready near far (turns_of words) channel uttered read passes have near_bond far_bond;
      uttered = uttered;
      carried = passes;
    }

    now : Common t channel (pair_of near far (turns_of words))
    now = course.common (turns_of words) [] (sym (append-nil (turns_of words)))

    all : Joint t channel (Within (0 + all_finds channel (new_pair near far) words) (0 + 256 * all_wrongs words)) (pair_of near far (turns_of words)) × AreSilent (pair_of near far (turns_of words))
    all = words-within near far t channel (turns_of words) course 0 0 [] words refl are (first_joint near far t channel suited (Within 0 0) (first_within t channel suited))

    joint : Joint t channel (Ready (0 + all_finds channel (new_pair near far) words) (0 + 256 * all_wrongs words) n f) (pair_of near far (turns_of words))
    joint =
        let s = standing near far t channel (turns_of words) (turns_of words) [] (sym (append-nil (turns_of words))) course in
        ready-joint t channel (pair_of near far (turns_of words)) (0 + all_finds channel (new_pair near far) words) (0 + 256 * all_wrongs words) (below_near near far t channel (pair_of near far (turns_of words)) s) (below_far near far t channel (pair_of near far (turns_of words)) s) all.1 all.0

    o : OpenAt channel.own (pair_of near far (turns_of words)).near.run.value (Retransmitting near_machine)
    o = open-at channel.own (pair_of near far (turns_of words)).near.run.value (Retransmitting near_machine) near_carries

    q : OpenAt channel.peer (pair_of near far (turns_of words)).far.run.value (Retransmitting far_machine)
    q = open-at channel.peer (pair_of near far (turns_of words)).far.run.value (Retransmitting far_machine) far_carries

    near_so : Both t n f (Ready (0 + all_finds channel (new_pair near far) words) (0 + 256 * all_wrongs words) n f) (pair_of near far (turns_of words)).far.policy channel.peer (pair_of near far (turns_of words)).far.run.value (is_open o.setup) o.setup.carrier
    near_so =
        kept-on (On (Both t n f (Ready (0 + all_finds channel (new_pair near far) words) (0 + 256 * all_wrongs words) n f) (pair_of near far (turns_of words)).far.policy channel.peer (pair_of near far (turns_of words)).far.run.value)) ((pair_of near far (turns_of words)).near.policy.wish o.held.psm) o.held.stage o.setup o.has
        (subst (HeldKeeps (pair_of near far (turns_of words)).near.policy (On (Both t n f (Ready (0 + all_finds channel (new_pair near far) words) (0 + 256 * all_wrongs words) n f) (pair_of near far (turns_of words)).far.policy channel.peer (pair_of near far (turns_of words)).far.run.value))) o.found joint.held)

    x : Twins t n f (Ready (0 + all_finds channel (new_pair near far) words) (0 + 256 * all_wrongs words) n f) (is_open o.setup) o.setup.carrier (is_open q.setup) q.setup.carrier
    x =
        kept-on (On (Twins t n f (Ready (0 + all_finds channel (new_pair near far) words) (0 + 256 * all_wrongs words) n f) (is_open o.setup) o.setup.carrier)) ((pair_of near far (turns_of words)).far.policy.wish q.held.psm) q.held.stage q.setup q.has
        (subst (HeldKeeps (pair_of near far (turns_of words)).far.policy (On (Twins t n f (Ready (0 + all_finds channel (new_pair near far) words) (0 + 256 * all_wrongs words) n f) (is_open o.setup) o.setup.carrier))) q.found near_so.held)

    near_same : near_machine ≡ x.pair.a.machine
    near_same = (settle t.mine x.pair.a (is_open o.setup) near_machine (now.near_mate.enhanced o.held o.setup (Retransmitting near_machine) o.found o.has o.is o.opened) (subst (Holds t.mine x.pair.a (is_open o.setup)) o.is x.near_holds)).0

    far_same : far_machine ≡ x.pair.b.machine
    far_same = (settle t.other x.pair.b (is_open q.setup) far_machine (now.far_mate.enhanced q.held q.setup (Retransmitting far_machine) q.found q.has q.is q.opened) (subst (Holds t.other x.pair.b (is_open q.setup)) q.is x.far_holds)).0
