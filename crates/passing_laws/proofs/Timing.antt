-- What the timers of hosts make of the two ends of a channel, where nothing is under way.
use Rattle.std.proofs.Common.{◌≡◌, ℕ, ◌+◌, ◌≤◌, List, [], ◌∷◌, length, Bool, true, false, Option, Some, None, refl, sym, ap, subst, ◌∙◌, inl, inr, arith}
use Rattle.std.specs.Prelude.{◌||◌}
use Rattle.channel_laws.specs.l2cap_config.specs.declared.wish.Agreed.{Agreed}
use Rattle.channel_laws.specs.ertm_model.specs.Value.{Ertm}
use Rattle.channel_laws.specs.ertm_model.specs.Pair.{Sent, End as MachineEnd, Fire, Pair as Machines, ByA}
use Rattle.channel_laws.specs.link_talk.specs.declared.channel.Channel.{Channel}
use Rattle.channel_laws.specs.channel_model.specs.Value.{Carrier, Plain, Retransmitting, Setup, Held, Channels}
use Rattle.channel_laws.specs.channel_model.specs.Policies.{Policy}
use Rattle.channel_laws.specs.channel_model.specs.Changing.{held_at, setup_of}
use Rattle.channel_laws.specs.channel_model.specs.Calls.{setup_on}
use Rattle.channel_laws.specs.channel_model.specs.Timing.{timed_out}
use Rattle.channel_laws.specs.channel_model.proofs.Calling.{timed-goes}
use Rattle.channel_laws.specs.Common.{mirrored}
use Rattle.channel_laws.specs.Pairs.{Pair, Acts, happens_near, Near, Far, turned}
use Rattle.channel_laws.specs.Runs.{Fires}
use Rattle.channel_laws.specs.Tries.{one_if}
use Rattle.channel_laws.proofs.Joining.{Terms, Holds, other_terms, IsBelow}
use Rattle.channel_laws.proofs.Keeping.{walks-keep}
use Rattle.channel_laws.proofs.Piped.{under_way}
use Rattle.recovered_laws.proofs.Moving.{swap}
use Rattle.recovered_laws.proofs.Twins.{here-also, here-walks, walks-on, Goes, Twins, twins-also, Both, both-follow}
use Rattle.recovered_laws.proofs.Turning.{Move, Joint, Woken, woken_again}
use Rattle.recovered_laws.proofs.Paying.{turned_joint}
use Rattle.recovery_laws.specs.Number.{is_due}
use Rattle.recovery_laws.proofs.Tests.{bit}
use Rattle.recovery_laws.proofs.Waking.{woken}
use Rattle.recovery_laws.proofs.Within.{Within, within-more, Rested, woken_ends, wakes-within}
use Rattle.passing_laws.specs.Words.{AreSilent, carrier_polls, setup_polls, polls_at, Timers, OfOne, OfBoth, timer_turns, ByTimers, all_after, finds}
use Rattle.passing_laws.proofs.Known.{Known, to_near, to_far, joint-knows}
use Rattle.passing_laws.proofs.Onsets.{Ready, ready-joint}

-- ---- the timer of the near host

pub fires-near : (t : Terms) (channel : Channel) (pair : Pair) (K L : Machines → Type 0) → IsBelow pair.near.run.value → ((p : Machines) → K p → L p) → Move (ByA Fire) K L → Joint t channel K pair → Joint t channel L (happens_near (Acts Fires) pair)
fires-near t channel pair K L below stays move h =
    here-also near channel.own (Both t n f (Woken K) far channel.peer w) (Both t n f L far channel.peer w) (timed_out near v) (λ opened carrier both. here-also far channel.peer (Twins t n f (Woken K) opened carrier) (Twins t n f L opened carrier) w
    (λ far_opened far_carrier x. twins-also t n f (Woken K) L opened carrier far_opened far_carrier done x) both)
    (here-walks near channel.own (Both t n f (Woken K) far channel.peer w) v (timed_out near v) below
    (timed-goes near (Goes true) _ (walks-keep near (Goes true) _ (walks-on near channel.own (Both t n f (Woken K) far channel.peer w) true (both-follow t n f (Woken K) true (woken_again K) far channel.peer w))) v (λ machine open'. inr (refl, refl, open')))
    (here-also near channel.own (Both t n f K far channel.peer w) (Both t n f (Woken K) far channel.peer w) v (λ opened carrier both. here-also far channel.peer (Twins t n f K opened carrier) (Twins t n f (Woken K) opened carrier) w
    (λ far_opened far_carrier x. twins-also t n f K (Woken K) opened carrier far_opened far_carrier (λ p k. inl k) x) both) h))
  where
    near : Policy
    near = pair.near.policy

    far : Policy
    far = pair.far.policy

    v : Channels
    v = pair.near.run.value

    w : Channels
    w = pair.far.run.value

    n : List (List ℕ)
    n = to_near channel pair

    f : List (List ℕ)
    f = to_far channel pair

    done : (p : Machines) → Woken K p → L p
    done p (inl k) = stays p k
    done p (inr (q, stands, k, is)) = subst L (sym is) (move q stands tt k)

-- ---- one of them, or both, one after the other

none_long : (queue : List Sent) → length queue ≡ 0 → queue ≡ []
none_long [] is = refl
none_long (sent ∷ queue) is = absurd (omega (arith, is))

rested : (found owed : ℕ) (n f : List (List ℕ)) (p : Machines) → n ≡ [] → f ≡ [] → Ready found owed n f p → Rested found owed p
rested found owed n f p none_n none_f r = record {
  within = r.within;
  stands = r.known.stands;
  settled_a = r.settled_a;
  settled_b = r.settled_b;
  none_a = none_long p.a.queue (r.known.far_long ∙ ap length none_f);
  none_b = none_long p.b.queue (r.known.near_long ∙ ap length none_n);
}

-- each fired, or did not
abbrev pub Half : (found owed : ℕ) → Machines → Type 0
Half found owed p = (q : Machines) × Rested found owed q × (fired : Bool) × (p ≡ woken_ends fired false q)

abbrev pub Whole : (found owed : ℕ) → Machines → Type 0
Whole found owed p = (q : Machines) × Rested found owed q × (fired_a : Bool) × (fired_b : Bool) × (p ≡ woken_ends fired_a fired_b q)

abbrev pub fired_b_too : Machines → Machines
fired_b_too m = record { a = m.a; b = woken true m.b }

module _ (t : Terms) (channel : Channel) (pair : Pair) (found owed : ℕ) (below : IsBelow pair.near.run.value) (far_below : IsBelow pair.far.run.value) (silent : AreSilent pair) (none_near : pair.near.coming ≡ []) (none_far : pair.far.coming ≡ []) (h : Joint t channel (Within found owed) pair) where
  abbrev n : List (List ℕ)
  n = to_near channel pair

  abbrev f : List (List ℕ)
  f = to_far channel pair

  abbrev first : Pair
  first = happens_near (Acts Fires) pair

  calm : (p : Machines) → Ready found owed n f p → Rested found owed p
  calm p r = rested found owed n f p (ap (under_way channel.own) none_near) (ap (under_way channel.peer) none_far) r

  now : Joint t channel (Ready found owed n f) pair
  now = ready-joint t channel pair found owed below far_below silent h

  pub timers-fire : (timers : Timers) → Joint t channel (Whole found owed) (all_after pair (timer_turns timers))
  timers-fire (OfOne Near) = fires-near t channel pair (Ready found owed n f) (Whole found owed) below (λ p r. (p, calm p r, false, false, refl)) (λ p stands may r. (p, calm p r, true, false, refl)) now
  timers-fire (OfOne Far) =
      turned_joint (other_terms t) (mirrored channel) (happens_near (Acts Fires) (turned pair)) (λ p. Whole found owed (swap p)) (Whole found owed) (λ p so. so)
      (fires-near (other_terms t) (mirrored channel) (turned pair) (λ p. Ready found owed n f (swap p)) (λ p. Whole found owed (swap p)) far_below (λ p r. (swap p, calm (swap p) r, false, false, refl)) (λ p stands may r. (swap p, calm (swap p) r, false, true, refl))
      (turned_joint t channel pair (Ready found owed n f) (λ p. Ready found owed n f (swap p)) (λ p so. so) now))
  timers-fire OfBoth =
      turned_joint (other_terms t) (mirrored channel) (happens_near (Acts Fires) (turned first)) (λ p. Whole found owed (swap p)) (Whole found owed) (λ p so. so)
      (fires-near (other_terms t) (mirrored channel) (turned first) (λ p. Half found owed (swap p)) (λ p. Whole found owed (swap p)) far_below
      (λ p (q, r, fired, is). (q, r, fired, false, is)) (λ p stands may (q, r, fired, is). (q, r, fired, true, ap fired_b_too is))
      (turned_joint t channel first (Half found owed) (λ p. Half found owed (swap p)) (λ p so. so)
      (fires-near t channel pair (Ready found owed n f) (Half found owed) below (λ p r. (p, calm p r, false, refl)) (λ p stands may r. (p, calm p r, true, refl)) now)))

-- ---- a machine has a poll to give then

due_held : (agreed : Agreed) (e : MachineEnd) (opened : Bool) (carrier : Option Carrier) → Holds agreed e opened carrier → carrier_polls carrier ≡ true → is_due e.machine.sender.poll ≡ true
due_held agreed e opened None holds polls = cc
due_held agreed e opened (Some (Plain a waiting)) holds polls = cc
due_held agreed e opened (Some (Retransmitting machine)) (inl (other, is, new)) polls = let never : false ≡ true = sym (ap (λ (m : Ertm). is_due m.sender.poll) is) ∙ polls in absurd cc
due_held agreed e opened (Some (Retransmitting machine)) (inr (is, now, open')) polls = ap (λ (m : Ertm). is_due m.sender.poll) (sym is) ∙ polls

some_due : (a : Bool) → 1 ≤ bit (a || true)
some_due true = omega arith
some_due false = omega arith

fewer : (polls far_polls due far_due : Bool) → (polls ≡ true → due ≡ true) → (far_polls ≡ true → far_due ≡ true) → one_if (polls || far_polls) ≤ bit (due || far_due)
fewer true far_polls due far_due so far_so = subst (λ (d : Bool). 1 ≤ bit (d || far_due)) (sym (so refl)) (omega arith)
fewer false true due far_due so far_so = subst (λ (d : Bool). 1 ≤ bit (due || d)) (sym (far_so refl)) (some_due due)
fewer false false due far_due so far_so = omega arith

-- so a host's carrier has one
abbrev Polls : (own : ℕ) → Channels → Option Carrier → Type 0
Polls own v carrier = polls_at own v ≡ true → carrier_polls carrier ≡ true

none_polls : (own : ℕ) (v : Channels) → setup_on (held_at own v) ≡ None → Polls own v None
none_polls own v none polls = sym (ap setup_polls none) ∙ polls

held_polls : (own : ℕ) (v : Channels) (held : Held) (setup : Setup) → held_at own v ≡ Some held → setup_of held.stage ≡ Some setup → Polls own v setup.carrier
held_polls own v held setup found has polls = sym (ap (λ h. setup_polls (setup_on h)) found ∙ ap setup_polls has) ∙ polls

pub timers-begin : (t : Terms) (channel : Channel) (pair : Pair) (found owed : ℕ) (timers : Timers) → IsBelow pair.near.run.value → IsBelow pair.far.run.value → (let after : Pair = all_after pair (timer_turns timers) in IsBelow after.near.run.value) → (let after : Pair = all_after pair (timer_turns timers) in IsBelow after.far.run.value)
    → AreSilent pair → pair.near.coming ≡ [] → pair.far.coming ≡ [] → Joint t channel (Within found owed) pair → Joint t channel (Within (found + finds channel (ByTimers timers) pair) owed) (all_after pair (timer_turns timers))
timers-begin t channel pair found owed timers below far_below after_below after_far silent none_near none_far h =
    joint-knows t channel after (Polls channel.own v) (Polls channel.peer w) (Whole found owed) (Within (found + one_if (polls_at channel.own v || polls_at channel.peer w)) owed) after_below after_far
    (none_polls channel.own v) (held_polls channel.own v) (none_polls channel.peer w) (held_polls channel.peer w)
    (λ opened carrier far_opened far_carrier near_so far_so p held whole. by p held.known (λ polls. due_held t.mine p.a opened carrier held.near_holds (near_so polls)) (λ polls. due_held t.other p.b far_opened far_carrier held.far_holds (far_so polls)) whole)
    (timers-fire t channel pair found owed below far_below silent none_near none_far h timers)
  where
    after : Pair
    after = all_after pair (timer_turns timers)

    v : Channels
    v = after.near.run.value

    w : Channels
    w = after.far.run.value

    by : (p : Machines) → Known (to_near channel after) (to_far channel after) p → (polls_at channel.own v ≡ true → is_due p.a.machine.sender.poll ≡ true) → (polls_at channel.peer w ≡ true → is_due p.b.machine.sender.poll ≡ true) → Whole found owed p
        → Within (found + one_if (polls_at channel.own v || polls_at channel.peer w)) owed p
    by p known due far_due (q, r, fired_a, fired_b, is) =
        let p_due : Bool = is_due p.a.machine.sender.poll in
        let p_far : Bool = is_due p.b.machine.sender.poll in
        let few = fewer (polls_at channel.own v) (polls_at channel.peer w) p_due p_far due far_due in
        let same = ap (λ (m : Machines). bit (is_due m.a.machine.sender.poll || is_due m.b.machine.sender.poll)) is in
        within-more (found + bit (is_due (woken fired_a q.a).machine.sender.poll || is_due (woken fired_b q.b).machine.sender.poll)) owed (found + one_if (polls_at channel.own v || polls_at channel.peer w)) owed p (omega (arith, few, same)) (omega arith)
        (subst (Within (found + bit (is_due (woken fired_a q.a).machine.sender.poll || is_due (woken fired_b q.b).machine.sender.poll)) owed) (sym is)
        (wakes-within found owed fired_a fired_b q r (ap (λ (m : Machines). m.a.machine.closed) (sym is) ∙ known.open_a) (ap (λ (m : Machines). m.b.machine.closed) (sym is) ∙ known.open_b)))
