-- By what an enhanced channel is open at each end of a link, and that it suits the other end.
use Rattle.std.proofs.Common.{◌≡◌, ℕ, ◌≤◌, List, [], ◌∷◌, ◌++◌, fold, Option, Some, None, refl, sym, ap, subst, ◌∙◌, ◌⊎◌, inl, inr, arith, append_assoc, append-nil}
use Rattle.std.proofs.lemmas.List.Sums.{fold-append}
use Rattle.own_channel_laws.specs.talk_laws.specs.l2cap_config.specs.declared.wish.Agreed.{Agreed}
use Rattle.own_channel_laws.specs.talk_laws.specs.l2cap_config.specs.declared.wish.Mode.TheVariants.{Enhanced}
use Rattle.own_channel_laws.specs.talk_laws.specs.l2cap_config.specs.declared.wish.Wish.{Wish}
use Rattle.own_channel_laws.specs.talk_laws.specs.l2cap_config.specs.Items.{no_options}
use Rattle.own_channel_laws.specs.talk_laws.specs.l2cap_config.specs.Agreement.{agreed_on}
use Rattle.own_channel_laws.specs.channel_model.specs.ertm_model.specs.Value.{Ertm}
use Rattle.own_channel_laws.specs.talk_laws.specs.link_talk.specs.declared.channel.Channel.{Channel}
use Rattle.own_channel_laws.specs.talk_laws.specs.link_talk.specs.Sayings.{Saying}
use Rattle.own_channel_laws.specs.talk_laws.specs.link_talk.specs.Channels.{Entry, reading}
use Rattle.own_channel_laws.specs.channel_model.specs.Value.{Carrier, Plain, Retransmitting, Channels}
use Rattle.own_channel_laws.specs.channel_model.specs.Policies.{Policy}
use Rattle.own_channel_laws.specs.channel_model.specs.Configuring.{bounded_agreement}
use Rattle.own_channel_laws.specs.channel_model.specs.Calls.{carrier_at}
use Rattle.own_channel_laws.specs.Views.{read_at}
use Rattle.own_channel_laws.specs.Endpoints.{IsOf}
use Rattle.own_channel_laws.specs.Runs.{Run, new_link, run_on}
use Rattle.channel_laws.specs.Pairs.{Side, Near, Far, Turn, pair_of, IsRunOf}
use Rattle.channel_laws.specs.Ends.{end_at}
use Rattle.channel_laws.specs.Belonging.{AreRead, said_at}
use Rattle.channel_laws.specs.Modes.{policy_of}
use Rattle.own_channel_laws.specs.Agreements.{IsOnHeard}
use Rattle.channel_laws.specs.Pipes.{Suits, CanState}
use Rattle.channel_laws.proofs.Pairing.{each-end_runs}
use Rattle.channel_laws.proofs.Sharing.{run-grows, said-grows, stays-of}
use Rattle.own_channel_laws.proofs.Agreements.{on-heard-later, agreements-are_on_heard}
use Rattle.channel_laws.proofs.Suiting.{options-suit}
use Rattle.channel_laws.proofs.Binding.{agreements-stay}

-- while the channel is open its host has it by this agreement
abbrev pub IsAgreed : Agreed → (own : ℕ) → Channels → Type 0
IsAgreed agreed own v = (machine : Ertm) → carrier_at own v ≡ Some (Retransmitting machine) → machine.agreed ≡ agreed

-- ---- one agreement at all moments

abbrev pub value_at : (near far : Policy) → Side → List Turn → Channels
value_at near far side turns = (end_at side (pair_of near far turns)).run.value

pub runs-at : (near far : Policy) (turns : List Turn) (side : Side) → IsRunOf (policy_of side near far) (end_at side (pair_of near far turns)).run
runs-at near far turns Near = (each-end_runs near far turns).0
runs-at near far turns Far = (each-end_runs near far turns).1

bound_turns : (near far : Policy) (side : Side) (past rest : List Turn) (own : ℕ) (machine again : Ertm) → carrier_at own (value_at near far side past) ≡ Some (Retransmitting machine) → carrier_at own (value_at near far side (past ++ rest)) ≡ Some (Retransmitting again) → again.agreed ≡ machine.agreed
bound_turns near far side past rest own machine again is also =
    let policy : Policy = policy_of side near far in
    let (list, runs) = runs-at near far past side in
    let (later, grows) = run-grows near far side past rest in
    agreements-stay policy list later own machine again (subst (λ (run : Run). carrier_at own run.value ≡ Some (Retransmitting machine)) runs is)
    (subst (λ (run : Run). carrier_at own run.value ≡ Some (Retransmitting again)) (grows ∙ (ap (λ run. fold (run_on policy) run later) runs ∙ sym (fold-append (run_on policy) new_link list later))) also)

-- from a moment on: it is open at some later one, and all have the agreement of that one
record Opens (near far : Policy) (side : Side) (own : ℕ) (done rest : List Turn) : Type 0 where
  machine : Ertm
  front : List Turn
  behind : List Turn
  split : rest ≡ front ++ behind
  carries : carrier_at own (value_at near far side (done ++ front)) ≡ Some (Retransmitting machine)
  all : (first last : List Turn) → rest ≡ first ++ last → IsAgreed machine.agreed own (value_at near far side (done ++ first))

-- or at none
abbrev Never : (near far : Policy) (side : Side) (own : ℕ) (done rest : List Turn) → Type 0
Never near far side own done rest = (first last : List Turn) → rest ≡ first ++ last → (machine : Ertm) → carrier_at own (value_at near far side (done ++ first)) ≡ Some (Retransmitting machine) → ⊥

opens_now : (near far : Policy) (side : Side) (own : ℕ) (done rest : List Turn) (machine : Ertm) → carrier_at own (value_at near far side done) ≡ Some (Retransmitting machine) → Opens near far side own done rest
opens_now near far side own done rest machine is = record {
  machine = machine;
  front = [];
  behind = rest;
  split = refl;
  carries = subst (λ l. carrier_at own (value_at near far side l) ≡ Some (Retransmitting machine)) (sym (append-nil done)) is;
  all = λ first last split again also. bound_turns near far side done first own machine again is also;
}

abbrev Shut : (near far : Policy) (side : Side) (own : ℕ) → List Turn → Type 0
Shut near far side own done = (machine : Ertm) → carrier_at own (value_at near far side done) ≡ Some (Retransmitting machine) → ⊥

never_first : (near far : Policy) (side : Side) (own : ℕ) (done : List Turn) → Shut near far side own done → (machine : Ertm) → carrier_at own (value_at near far side (done ++ [])) ≡ Some (Retransmitting machine) → ⊥
never_first near far side own done shut machine is = shut machine (subst (λ l. carrier_at own (value_at near far side l) ≡ Some (Retransmitting machine)) (append-nil done) is)

never_more : (near far : Policy) (side : Side) (own : ℕ) (done : List Turn) (turn : Turn) (more : List Turn) → Shut near far side own done → Never near far side own (done ++ turn ∷ []) more → Never near far side own done (turn ∷ more)
never_more near far side own done turn more shut never [] last split machine is = never_first near far side own done shut machine is
never_more near far side own done turn more shut never (x ∷ first) last split machine is =
    let head : turn ≡ x = cc in
    let tail : more ≡ first ++ last = cc in
    never first last tail machine (subst (λ l. carrier_at own (value_at near far side l) ≡ Some (Retransmitting machine)) (ap (λ t. done ++ t ∷ first) (sym head) ∙ sym (append_assoc done (turn ∷ []) first)) is)

opens_more : (near far : Policy) (side : Side) (own : ℕ) (done : List Turn) (turn : Turn) (more : List Turn) → Shut near far side own done → Opens near far side own (done ++ turn ∷ []) more → Opens near far side own done (turn ∷ more)
opens_more near far side own done turn more shut opens = record {
  machine = opens.machine;
  front = turn ∷ opens.front;
  behind = opens.behind;
  split = ap (λ l. turn ∷ l) opens.split;
  carries = subst (λ l. carrier_at own (value_at near far side l) ≡ Some (Retransmitting opens.machine)) (append_assoc done (turn ∷ []) opens.front) opens.carries;
  all = all;
}
  where
    all : (first last : List Turn) → turn ∷ more ≡ first ++ last → IsAgreed opens.machine.agreed own (value_at near far side (done ++ first))
    all [] last split = λ machine is. absurd (never_first near far side own done shut machine is)
    all (x ∷ first) last split =
        let head : turn ≡ x = cc in
        let tail : more ≡ first ++ last = cc in
        subst (λ l. IsAgreed opens.machine.agreed own (value_at near far side l)) (append_assoc done (turn ∷ []) first ∙ ap (λ t. done ++ t ∷ first) head) (opens.all first last tail)

search : (near far : Policy) (side : Side) (own : ℕ) (done rest : List Turn) → Opens near far side own done rest ⊎ Never near far side own done rest
search near far side own done [] = by (carrier_at own (value_at near far side done)) refl
  where
    none : Shut near far side own done → Never near far side own done []
    none shut [] last split machine is = never_first near far side own done shut machine is
    none shut (x ∷ first) last split machine is = cc

    by : (found : Option Carrier) → carrier_at own (value_at near far side done) ≡ found → Opens near far side own done [] ⊎ Never near far side own done []
    by None at = inr (none (λ machine is. let never : None ≡ Some (Retransmitting machine) = sym at ∙ is in absurd cc))
    by (Some (Plain agreed waiting)) at = inr (none (λ machine is. let never : Some (Plain agreed waiting) ≡ Some (Retransmitting machine) = sym at ∙ is in absurd cc))
    by (Some (Retransmitting machine)) at = inl (opens_now near far side own done [] machine at)
search near far side own done (turn ∷ more) = by (carrier_at own (value_at near far side done)) refl (search near far side own (done ++ turn ∷ []) more)
  where
    onward : Shut near far side own done → Opens near far side own (done ++ turn ∷ []) more ⊎ Never near far side own (done ++ turn ∷ []) more → Opens near far side own done (turn ∷ more) ⊎ Never near far side own done (turn ∷ more)
    onward shut (inl opens) = inl (opens_more near far side own done turn more shut opens)
    onward shut (inr never) = inr (never_more near far side own done turn more shut never)

    by : (found : Option Carrier) → carrier_at own (value_at near far side done) ≡ found → Opens near far side own (done ++ turn ∷ []) more ⊎ Never near far side own (done ++ turn ∷ []) more → Opens near far side own done (turn ∷ more) ⊎ Never near far side own done (turn ∷ more)
    by None at later = onward (λ machine is. let never : None ≡ Some (Retransmitting machine) = sym at ∙ is in absurd cc) later
    by (Some (Plain agreed waiting)) at later = onward (λ machine is. let never : Some (Plain agreed waiting) ≡ Some (Retransmitting machine) = sym at ∙ is in absurd cc) later
    by (Some (Retransmitting machine)) at later = inl (opens_now near far side own done (turn ∷ more) machine at)

-- ---- it suits

pub record IsWithin (mine theirs : Wish) (agreed : Agreed) : Type 0 where
  pub some : 1 ≤ agreed.send_window
  pub window : agreed.send_window ≤ theirs.window
  pub mtu : agreed.send_mtu ≤ theirs.mtu
  pub least : 1 ≤ agreed.send_mps
  pub mps : agreed.send_mps ≤ theirs.mps
  pub own_window : agreed.receive_window ≡ mine.window
  pub own_mtu : agreed.receive_mtu ≡ mine.mtu
  pub own_mps : agreed.receive_mps ≡ mine.mps

pub within-suits : (mine theirs : Wish) (a b : Agreed) → CanState theirs → IsWithin mine theirs a → IsWithin theirs mine b → Suits a b
within-suits mine theirs a b can one other = record {
  meets = record {
    some = one.some;
    within = omega (arith, one.window, other.own_window);
    most = omega (arith, can.most, other.own_window);
    mtu = omega (arith, one.mtu, other.own_mtu);
  };
  some = one.least;
  within = omega (arith, one.mps, other.own_mps);
}

-- where it never comes to be open
abbrev least_agreed : Wish → Agreed
least_agreed mine = record { mode = Enhanced; send_mtu = 0; receive_mtu = mine.mtu; send_mps = 1; receive_mps = mine.mps; send_window = 1; receive_window = mine.window; tries = mine.tries }

least_within : (mine theirs : Wish) → CanState theirs → IsWithin mine theirs (least_agreed mine)
least_within mine theirs can = record { some = omega arith; window = can.some; mtu = omega arith; least = omega arith; mps = can.least; own_window = refl; own_mtu = refl; own_mps = refl }

-- one agreement at all moments of an end, within what the other wishes
pub record Bond (near far : Policy) (turns : List Turn) (side : Side) (psm own : ℕ) : Type 0 where
  pub agreed : Agreed
  pub within : IsWithin ((policy_of side near far).wish psm) ((policy_of side far near).wish psm) agreed
  pub all : (first last : List Turn) → turns ≡ first ++ last → IsAgreed agreed own (value_at near far side first)

pub heard-within : (near far : Policy) (turns : List Turn) → AreRead near far turns → (side : Side) (channel : Channel) → IsOf channel (read_at channel.own (reading (said_at side (pair_of near far turns))).entries)
    → CanState ((policy_of side near far).wish channel.psm) → CanState ((policy_of side far near).wish channel.psm) → (agreed : Agreed) → ((policy_of side near far).wish channel.psm).mode ≡ Enhanced
    → IsOnHeard (policy_of side near far) channel.psm channel.own (said_at side (pair_of near far turns)) agreed → IsWithin ((policy_of side near far).wish channel.psm) ((policy_of side far near).wish channel.psm) agreed
heard-within near far turns read side channel has can theirs_can agreed enhanced heard = by (read_at channel.own (reading (said_at side (pair_of near far turns))).entries) refl has
  where
    mine : Wish
    mine = (policy_of side near far).wish channel.psm

    theirs : Wish
    theirs = (policy_of side far near).wish channel.psm

    within : Suits agreed (bounded_agreement (agreed_on theirs no_options)) → IsWithin mine theirs agreed
    within suits = record {
      some = suits.meets.some;
      window = suits.meets.within;
      mtu = suits.meets.mtu;
      least = suits.some;
      mps = suits.within;
      own_window = ap (λ (a : Agreed). a.receive_window) heard.agreed_is;
      own_mtu = ap (λ (a : Agreed). a.receive_mtu) heard.agreed_is;
      own_mps = ap (λ (a : Agreed). a.receive_mps) heard.agreed_is;
    }

    on : (entry : Entry) → read_at channel.own (reading (said_at side (pair_of near far turns))).entries ≡ Some entry → channel ≡ entry.channel → IsWithin mine theirs agreed
    on entry at same = within (subst (λ (c : Channel). let t : Wish = (policy_of side far near).wish c.psm in Suits agreed (bounded_agreement (agreed_on t no_options))) (sym same)
        (options-suit near far turns read side channel.own entry agreed no_options at
        (subst (λ (c : Channel). IsOnHeard (policy_of side near far) c.psm channel.own (said_at side (pair_of near far turns)) agreed) same heard)
        (subst (λ (c : Channel). ((policy_of side near far).wish c.psm).mode ≡ Enhanced) same enhanced)
        (subst (λ (c : Channel). CanState ((policy_of side near far).wish c.psm)) same can)
        (subst (λ (c : Channel). CanState ((policy_of side far near).wish c.psm)) same theirs_can)))

    by : (found : Option Entry) → read_at channel.own (reading (said_at side (pair_of near far turns))).entries ≡ found → IsOf channel found → IsWithin mine theirs agreed
    by None at is = elim is [ ]
    by (Some entry) at is = on entry at (sym is)

-- two channels that are read at one endpoint are one
one_channel : (a b : Channel) (found : Option Entry) → IsOf a found → IsOf b found → a ≡ b
one_channel a b None is also = elim is [ ]
one_channel a b (Some entry) is also = sym is ∙ also

-- what a host has the channel open by at a moment
record IsOpenBy (near far : Policy) (side : Side) (past : List Turn) (channel : Channel) (agreed : Agreed) : Type 0 where
  mode : ((policy_of side near far).wish channel.psm).mode ≡ Enhanced
  heard : IsOnHeard (policy_of side near far) channel.psm channel.own (said_at side (pair_of near far past)) agreed

open_by : (near far : Policy) (side : Side) (past rest : List Turn) (channel : Channel) (machine : Ertm) → IsOf channel (read_at channel.own (reading (said_at side (pair_of near far (past ++ rest)))).entries)
    → carrier_at channel.own (value_at near far side past) ≡ Some (Retransmitting machine) → IsOpenBy near far side past channel machine.agreed
open_by near far side past rest channel machine has carries =
    let policy : Policy = policy_of side near far in
    let (list, runs) = runs-at near far past side in
    let (found, is_of, mode, heard) = agreements-are_on_heard policy list channel.own (Retransmitting machine) (subst (λ (run : Run). carrier_at channel.own run.value ≡ Some (Retransmitting machine)) runs carries) in
    let same : found ≡ channel =
    one_channel found channel (read_at channel.own (reading (said_at side (pair_of near far (past ++ rest)))).entries)
    (stays-of near far side past rest found channel.own (subst (λ (run : Run). IsOf found (read_at channel.own (reading run.said).entries)) (sym runs) is_of)) has in
    record {
      mode = subst (λ (c : Channel). (policy.wish c.psm).mode ≡ Enhanced) same (sym mode);
      heard = subst (λ (c : Channel). IsOnHeard policy c.psm channel.own (said_at side (pair_of near far past)) machine.agreed) same (subst (λ (run : Run). IsOnHeard policy found.psm channel.own run.said machine.agreed) (sym runs) heard);
    }

pub bond-of : (near far : Policy) (turns : List Turn) → AreRead near far turns → (side : Side) (channel : Channel) → IsOf channel (read_at channel.own (reading (said_at side (pair_of near far turns))).entries)
    → CanState ((policy_of side near far).wish channel.psm) → CanState ((policy_of side far near).wish channel.psm) → Bond near far turns side channel.psm channel.own
bond-of near far turns read side channel has can theirs_can = by (search near far side channel.own [] turns)
  where
    mine : Wish
    mine = (policy_of side near far).wish channel.psm

    by : Opens near far side channel.own [] turns ⊎ Never near far side channel.own [] turns → Bond near far turns side channel.psm channel.own
    by (inl opens) = record { agreed = opens.machine.agreed; within = heard-within near far turns read side channel has can theirs_can opens.machine.agreed now.mode later; all = opens.all }
      where
        now : IsOpenBy near far side opens.front channel opens.machine.agreed
        now = open_by near far side opens.front opens.behind channel opens.machine (subst (λ l. IsOf channel (read_at channel.own (reading (said_at side (pair_of near far l))).entries)) opens.split has) opens.carries

        grows : (more : List Saying) × (said_at side (pair_of near far turns) ≡ said_at side (pair_of near far opens.front) ++ more)
        grows = subst (λ l. (more : List Saying) × (said_at side (pair_of near far l) ≡ said_at side (pair_of near far opens.front) ++ more)) (sym opens.split) (said-grows near far side opens.front opens.behind)

        later : IsOnHeard (policy_of side near far) channel.psm channel.own (said_at side (pair_of near far turns)) opens.machine.agreed
        later = subst (λ said. IsOnHeard (policy_of side near far) channel.psm channel.own said opens.machine.agreed) (sym grows.1)
            (on-heard-later (policy_of side near far) channel.psm channel.own (said_at side (pair_of near far opens.front)) grows.0 opens.machine.agreed now.heard)
    by (inr never) = record { agreed = least_agreed mine; within = least_within mine ((policy_of side far near).wish channel.psm) theirs_can; all = λ first last split machine is. absurd (never first last split machine is) }
