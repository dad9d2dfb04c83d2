-- What is known of the two ends of a channel by what their hosts hold.
use Rattle.std.proofs.Common.{◌≡◌, ℕ, List, [], ◌∷◌, length, Bool, Option, Some, None, refl, sym, ap, ◌∙◌, inl, inr, arith}
use Rattle.channel_laws.specs.l2cap_config.specs.declared.wish.Agreed.{Agreed}
use Rattle.channel_laws.specs.ertm_model.specs.Value.{Ertm}
use Rattle.channel_laws.specs.ertm_model.specs.Pair.{Sent, End as MachineEnd, Pair as Machines}
use Rattle.channel_laws.specs.ertm_model.specs.Order.{StandsBoth}
use Rattle.channel_laws.specs.link_talk.specs.declared.channel.Channel.{Channel}
use Rattle.channel_laws.specs.channel_model.specs.Value.{Carrier, Plain, Retransmitting, Setup, Stage, Requested, Connected, Leaving, Closing, Crossed, Held, Channels}
use Rattle.channel_laws.specs.channel_model.specs.Policies.{Policy}
use Rattle.channel_laws.specs.channel_model.specs.Changing.{held_at, setup_of}
use Rattle.channel_laws.specs.channel_model.specs.Calls.{setup_on}
use Rattle.channel_laws.specs.Pairs.{Pair}
use Rattle.channel_laws.proofs.Joining.{AreSpelled, Terms, Holds, IsBelow}
use Rattle.channel_laws.proofs.Keeping.{StageKeeps, HeldKeeps}
use Rattle.channel_laws.proofs.Piped.{under_way}
use Rattle.recovered_laws.proofs.Twins.{OfEnd, On, Here, here-also, Twins, Both}
use Rattle.recovered_laws.proofs.Turning.{Joint}
use Rattle.recovered_laws.proofs.Paying.{With}

-- ---- as long as both hosts have the channel

pub record Known (n f : List (List ℕ)) (p : Machines) : Type 0 where
  pub open_a : p.a.machine.closed ≡ None
  pub open_b : p.b.machine.closed ≡ None
  pub near_long : length p.b.queue ≡ length n
  pub far_long : length p.a.queue ≡ length f
  pub stands : StandsBoth p

open_held : (agreed : Agreed) (e : MachineEnd) (opened : Bool) (carrier : Option Carrier) → Holds agreed e opened carrier → e.machine.closed ≡ None
open_held agreed e opened None new = ap (λ (x : MachineEnd). x.machine.closed) new
open_held agreed e opened (Some (Plain a waiting)) new = ap (λ (x : MachineEnd). x.machine.closed) new
open_held agreed e opened (Some (Retransmitting machine)) (inl (a, is, new)) = ap (λ (x : MachineEnd). x.machine.closed) new
open_held agreed e opened (Some (Retransmitting machine)) (inr (is, now, open')) = ap (λ (x : Ertm). x.closed) (sym is) ∙ open'

spelled_long : (pdus : List (List ℕ)) (queue : List Sent) → AreSpelled pdus queue → length queue ≡ length pdus
spelled_long [] [] spelled = refl
spelled_long [] (sent ∷ queue) spelled = elim spelled [ ]
spelled_long (pdu ∷ pdus) [] spelled = elim spelled [ ]
spelled_long (pdu ∷ pdus) (sent ∷ queue) spelled = let e = spelled_long pdus queue spelled.1 in omega (arith, e)

known : (t : Terms) (n f : List (List ℕ)) (K : Machines → Type 0) (opened : Bool) (carrier : Option Carrier) (far_opened : Bool) (far_carrier : Option Carrier) → (x : Twins t n f K opened carrier far_opened far_carrier) → Known n f x.pair
known t n f K opened carrier far_opened far_carrier x = record {
  open_a = open_held t.mine x.pair.a opened carrier x.near_holds;
  open_b = open_held t.other x.pair.b far_opened far_carrier x.far_holds;
  near_long = spelled_long n x.pair.b.queue x.ends.joins.far_flies;
  far_long = spelled_long f x.pair.a.queue x.ends.joins.near_flies;
  stands = x.ends.joins.stands;
}

-- ---- with what is so of the carriers that both hosts have for it

-- also where a host has none
pub here_knows : (policy : Policy) (own : ℕ) (F : Option Carrier → Type 0) (Q : OfEnd) (v : Channels) → IsBelow v → (setup_on (held_at own v) ≡ None → F None) → ((held : Held) (setup : Setup) → held_at own v ≡ Some held → setup_of held.stage ≡ Some setup → F setup.carrier)
    → Here policy own Q v → Here policy own (With F Q) v
here_knows policy own F Q v below none so h = record { held = of (held_at own v) refl h.held; before = λ above. (none (ap setup_on (below own above)), h.before above) }
  where
    at : (held : Held) → held_at own v ≡ Some held → (stage : Stage) → held.stage ≡ stage → StageKeeps (On Q) (policy.wish held.psm) stage → StageKeeps (On (With F Q)) (policy.wish held.psm) stage
    at held found (Requested request) is was = (none (ap setup_on found ∙ ap setup_of is), was)
    at held found (Connected peer setup) is was = (so held setup found (ap setup_of is), was)
    at held found (Leaving peer setup request) is was = (so held setup found (ap setup_of is), was)
    at held found (Closing peer request checked) is was = tt
    at held found (Crossed peer request) is was = tt

    of : (held : Option Held) → held_at own v ≡ held → HeldKeeps policy (On Q) held → HeldKeeps policy (On (With F Q)) held
    of None found was = tt
    of (Some held) found was = at held found held.stage refl was

-- the PDUs of the channel that are under way to each host
abbrev pub to_near : Channel → Pair → List (List ℕ)
to_near channel pair = under_way channel.own pair.near.coming

abbrev pub to_far : Channel → Pair → List (List ℕ)
to_far channel pair = under_way channel.peer pair.far.coming

-- what the hosts hold of the ends
pub record HeldBy (t : Terms) (n f : List (List ℕ)) (opened : Bool) (carrier : Option Carrier) (far_opened : Bool) (far_carrier : Option Carrier) (p : Machines) : Type 0 where
  pub near_holds : Holds t.mine p.a opened carrier
  pub far_holds : Holds t.other p.b far_opened far_carrier
  pub known : Known n f p

twins_with : (t : Terms) (n f : List (List ℕ)) (K L : Machines → Type 0) (opened : Bool) (carrier : Option Carrier) (far_opened : Bool) (far_carrier : Option Carrier)
    → ((p : Machines) → HeldBy t n f opened carrier far_opened far_carrier p → K p → L p) → Twins t n f K opened carrier far_opened far_carrier → Twins t n f L opened carrier far_opened far_carrier
twins_with t n f K L opened carrier far_opened far_carrier so x = record {
  pair = x.pair;
  ends = x.ends;
  near_holds = x.near_holds;
  far_holds = x.far_holds;
  near_first = x.near_first;
  far_first = x.far_first;
  kept = so x.pair (record { near_holds = x.near_holds; far_holds = x.far_holds; known = known t n f K opened carrier far_opened far_carrier x }) x.kept;
}

-- by what is so of the carriers
pub joint-knows : (t : Terms) (channel : Channel) (pair : Pair) (F G : Option Carrier → Type 0) (K L : Machines → Type 0) → IsBelow pair.near.run.value → IsBelow pair.far.run.value
    → (setup_on (held_at channel.own pair.near.run.value) ≡ None → F None) → ((held : Held) (setup : Setup) → held_at channel.own pair.near.run.value ≡ Some held → setup_of held.stage ≡ Some setup → F setup.carrier)
    → (setup_on (held_at channel.peer pair.far.run.value) ≡ None → G None) → ((held : Held) (setup : Setup) → held_at channel.peer pair.far.run.value ≡ Some held → setup_of held.stage ≡ Some setup → G setup.carrier)
    → ((opened : Bool) (carrier : Option Carrier) (far_opened : Bool) (far_carrier : Option Carrier) → F carrier → G far_carrier → (p : Machines) → HeldBy t (to_near channel pair) (to_far channel pair) opened carrier far_opened far_carrier p → K p → L p)
    → Joint t channel K pair → Joint t channel L pair
joint-knows t channel pair F G K L below far_below none some far_none far_some so h =
    here-also near channel.own (With F (Both t n f K far channel.peer w)) (Both t n f L far channel.peer w) v
    (λ opened carrier (near_so, both). here-also far channel.peer (With G (Twins t n f K opened carrier)) (Twins t n f L opened carrier) w
    (λ far_opened far_carrier (far_so, x). twins_with t n f K L opened carrier far_opened far_carrier (so opened carrier far_opened far_carrier near_so far_so) x)
    (here_knows far channel.peer G (Twins t n f K opened carrier) w far_below far_none far_some both))
    (here_knows near channel.own F (Both t n f K far channel.peer w) v below none some h)
  where
    near : Policy
    near = pair.near.policy

    far : Policy
    far = pair.far.policy

    v : Channels
    v = pair.near.run.value

    w : Channels
    w = pair.far.run.value

    n : List (List ℕ)
    n = to_near channel pair

    f : List (List ℕ)
    f = to_far channel pair

-- by what is known of the ends alone
pub joint-also : (t : Terms) (channel : Channel) (pair : Pair) (K L : Machines → Type 0) → ((p : Machines) → Known (to_near channel pair) (to_far channel pair) p → K p → L p) → Joint t channel K pair → Joint t channel L pair
joint-also t channel pair K L so h =
    here-also pair.near.policy channel.own (Both t n f K far channel.peer w) (Both t n f L far channel.peer w) pair.near.run.value
    (λ opened carrier both. here-also far channel.peer (Twins t n f K opened carrier) (Twins t n f L opened carrier) w
    (λ far_opened far_carrier x. twins_with t n f K L opened carrier far_opened far_carrier (λ p held. so p held.known) x) both) h
  where
    far : Policy
    far = pair.far.policy

    w : Channels
    w = pair.far.run.value

    n : List (List ℕ)
    n = to_near channel pair

    f : List (List ℕ)
    f = to_far channel pair
