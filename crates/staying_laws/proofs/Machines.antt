-- While few turns upset no machine of a channel of a host closes that its peer has.
use Rattle.std.proofs.Common.{◌≡◌, ◌<◌, ◌+◌, ℕ, List, [], ◌∷◌, ◌++◌, Bool, true, false, eqb, ◌&&◌, Option, Some, None, Err, refl, sym, ap, subst, ◌∙◌, ◌⊎◌, inl, inr, arith}
use Rattle.std.specs.Prelude.{is_some}
use Rattle.std.proofs.lemmas.Bool.{eq-eqb}
use Rattle.channel_laws.specs.acl_fragments.specs.Pieces.{channel_of}
use Rattle.channel_laws.specs.ertm_frames.specs.Answers.{Answer}
use Rattle.channel_laws.specs.ertm_frames.specs.Reading.{answer_in}
use Rattle.channel_laws.specs.ertm_frames.specs.declared.refusal.FrameRefusal.TheVariants.{Short, BadFcs}
use Rattle.channel_laws.specs.ertm_model.specs.declared.reason.ErtmReason.{ErtmReason}
use Rattle.channel_laws.specs.ertm_model.specs.Giving.{open_timed, timed}
use Rattle.channel_laws.specs.ertm_model.specs.Hearing.{closed_by}
use Rattle.channel_laws.specs.ertm_model.specs.Value.{Ertm}
use Rattle.channel_laws.specs.ertm_model.proofs.Resting.{new_account}
use Rattle.channel_laws.specs.l2cap_config.specs.declared.wish.Agreed.{Agreed}
use Rattle.channel_laws.specs.l2cap_config.specs.declared.wish.Mode.TheVariants.{Enhanced}
use Rattle.channel_laws.specs.link_talk.specs.declared.channel.Channel.{Channel}
use Rattle.channel_laws.specs.link_talk.specs.Channels.{reading}
use Rattle.channel_laws.specs.channel_model.specs.declared.errand.Errand.TheVariants.{Configuration}
use Rattle.channel_laws.specs.channel_model.specs.Calls.{setup_on, open_carrier, carrier_if, carrier_at}
use Rattle.channel_laws.specs.channel_model.specs.Carrying.{machine_heard, read_by, is_frame, is_taken_with}
use Rattle.channel_laws.specs.channel_model.specs.Changing.{held_at, setup_of, is_stated, is_granted, is_open}
use Rattle.channel_laws.specs.channel_model.specs.Policies.{Policy}
use Rattle.channel_laws.specs.channel_model.specs.Telling.{is_told_closed}
use Rattle.channel_laws.specs.channel_model.specs.Value.{Request, Own, Unasked, Asking, Granted, Carrier, Retransmitting, Setup, Stage, Requested, Connected, Leaving, Closing, Crossed, Held, Channels}
use Rattle.channel_laws.specs.channel_model.proofs.Going.{IsStated}
use Rattle.channel_laws.specs.Belonging.{AreRead}
use Rattle.channel_laws.specs.Common.{mirrored}
use Rattle.channel_laws.specs.Endpoints.{IsOf}
use Rattle.channel_laws.specs.Ends.{AreFair}
use Rattle.channel_laws.specs.Frames.{IsUttered}
use Rattle.channel_laws.specs.Modes.{OneWishes}
use Rattle.channel_laws.specs.Pairs.{Pair, Near, Far, Turn, new_pair, pair_of, IsRunOf}
use Rattle.channel_laws.specs.Pipes.{AreCarried, HaveChannel, CanStateBoth}
use Rattle.channel_laws.specs.Runs.{Occurrence, Run, run_of}
use Rattle.channel_laws.specs.Tries.{own_request, for_options, request_at, request_of}
use Rattle.channel_laws.specs.Views.{read_at}
use Rattle.channel_laws.proofs.Agreements.{IsRead, accepted-heard}
use Rattle.channel_laws.proofs.Bonds.{Bond, bond-of}
use Rattle.channel_laws.proofs.Flowing.{Fair as Suited, terms_of, fair-by, common_at}
use Rattle.channel_laws.proofs.Joining.{Terms}
use Rattle.channel_laws.proofs.Pairing.{first-runs, each-end_runs}
use Rattle.channel_laws.proofs.Running.{along}
use Rattle.channel_laws.proofs.Sharing.{channels-are_common}
use Rattle.channel_laws.proofs.Telling.{StageTold, HeldTold, RunTold, one_told, nothing_told}
use Rattle.recovered_laws.specs.Calm.{all_upsets}
use Rattle.recovered_laws.specs.Paid.{IsThere, IsPaid, MachinesArePaid}
use Rattle.recovered_laws.proofs.Paying.{Paid, all_paid, first_joint}
use Rattle.recovered_laws.proofs.Readying.{both-ready}
use Rattle.recovered_laws.proofs.Turning.{Joint}
use Rattle.lasting_laws.specs.Lasting.{IsUnspent}
use Rattle.lasting_laws.proofs.Opening.{Alike, opening}
use Rattle.lasting_laws.proofs.Machines.{none-closes}

-- ---- one host

pub held_of : (own : ℕ) (v : Channels) (setup : Setup) → setup_on (held_at own v) ≡ Some setup → (held : Held) × (held_at own v ≡ Some held) × (setup_of held.stage ≡ Some setup)
held_of own v setup = by (held_at own v) refl
  where
    by : (found : Option Held) → held_at own v ≡ found → setup_on found ≡ Some setup → (held : Held) × (held_at own v ≡ Some held) × (setup_of held.stage ≡ Some setup)
    by None at is = cc
    by (Some held) at is = (held, at, is)

-- it made its own request where it accepted one
stated_at : (policy : Policy) (list : List Occurrence) (own : ℕ) (held : Held) (setup : Setup) → held_at own (run_of policy list).value ≡ Some held → setup_of held.stage ≡ Some setup → IsStated setup
stated_at policy list own held setup found has = by held.stage has (subst (λ h. HeldTold h closed) found (told.at own))
  where
    told : RunTold (run_of policy list)
    told = (along policy RunTold nothing_told (λ run more sound told. one_told policy run more sound.core.lone told) list).1

    closed : Bool
    closed = is_told_closed own ((run_of policy list).told ++ (run_of policy list).value.events)

    by : (stage : Stage) → setup_of stage ≡ Some setup → StageTold stage closed → IsStated setup
    by (Requested request) is now = cc
    by (Connected peer s) is now = let same : s ≡ setup = cc in subst IsStated same now.0
    by (Leaving peer s request) is now = let same : s ≡ setup = cc in subst IsStated same now.0
    by (Closing peer request checked) is now = cc
    by (Crossed peer request) is now = cc

pub options_wait : (own : ℕ) (v : Channels) (held : Held) (setup : Setup) (request : Request) (options : _) → held_at own v ≡ Some held → setup_of held.stage ≡ Some setup → setup.own ≡ Asking request options → request_of (Configuration own) v ≡ Some request
options_wait own v held setup request options found has asks = ap (request_at for_options) found ∙ by held.stage has
  where
    by : (stage : Stage) → setup_of stage ≡ Some setup → for_options stage ≡ Some request
    by (Requested other) is = cc
    by (Connected peer s) is = let same : s ≡ setup = cc in ap (λ (x : Setup). own_request x.own) same ∙ ap own_request asks
    by (Leaving peer s other) is = let same : s ≡ setup = cc in ap (λ (x : Setup). own_request x.own) same ∙ ap own_request asks
    by (Closing peer other checked) is = cc
    by (Crossed peer other) is = cc

-- a machine that outlasts its timer is open
open_of : (m : Ertm) → (timed m).closed ≡ None → m.closed ≡ None
open_of m out = by m.closed refl
  where
    by : (shut : Option ErtmReason) → m.closed ≡ shut → m.closed ≡ None
    by None is = is
    by (Some reason) is = sym (ap (λ s. (open_timed s m).closed) is) ∙ out

-- what is damaged closes none
damage_closes_none : (m : Ertm) (answer : Answer) → (answer ≡ Err Short) ⊎ (answer ≡ Err BadFcs) → m.closed ≡ None → (machine_heard answer m).closed ≡ None
damage_closes_none m answer (inl is) open' = ap (λ a. (machine_heard a m).closed) is ∙ (ap (λ s. (closed_by s None m).closed) open' ∙ open')
damage_closes_none m answer (inr is) open' = ap (λ a. (machine_heard a m).closed) is ∙ (ap (λ s. (closed_by s None m).closed) open' ∙ open')

-- ---- the near host at a moment, and its channel of an endpoint, which its peer has

module _ (near far : Policy) (past : List Turn) (fair : AreFair near far past) (read : AreRead near far past) (passes : AreCarried near far past) (paid : MachinesArePaid) (can : (psm : ℕ) → CanStateBoth near far psm)
    (few : (psm : ℕ) → all_upsets (new_pair near far) past < (near.wish psm).tries) (own : ℕ) (stays : (channel : Channel) → HaveChannel near far past channel → channel.own ≡ own → IsThere channel.peer (pair_of near far past).far.run.value) where
  abbrev pair : Pair
  pair = pair_of near far past

  abbrev wrong : ℕ
  wrong = all_upsets (new_pair near far) past

  runs : IsRunOf near pair.near.run
  runs = (each-end_runs near far past).0

  -- it is an enhanced one
  module _ (held : Held) (setup : Setup) (m : Ertm) (found : held_at own pair.near.run.value ≡ Some held) (has : setup_of held.stage ≡ Some setup) (is : setup.carrier ≡ Some (Retransmitting m)) where
    heard : IsRead near pair.near.run.said own (Retransmitting m)
    heard =
        subst (λ (r : Run). IsRead near r.said own (Retransmitting m)) (sym runs.1)
        (accepted-heard near runs.0 own held setup (Retransmitting m) (subst (λ (r : Run). held_at own r.value ≡ Some held) runs.1 found) has is)

    abbrev channel : Channel
    channel = heard.channel

    have : HaveChannel near far past channel
    have = record {
      near_has = subst (λ n. IsOf heard.channel (read_at n (reading pair.near.run.said).entries)) (sym heard.own_is) (subst (IsOf heard.channel) (sym heard.found) heard.channel_is);
      far_has = subst (λ (c : Channel). IsOf (mirrored c) (read_at c.peer (reading pair.far.run.said).entries)) heard.channel_is (channels-are_common near far past read Near own heard.entry heard.found heard.accepted);
    }

    here : IsThere channel.own pair.near.run.value
    here = subst (λ n. IsThere n pair.near.run.value) (sym heard.own_is) (held, setup, found, has)

    there : IsThere channel.peer pair.far.run.value
    there = stays channel have heard.own_is

    tries_are : m.agreed.tries ≡ (near.wish channel.psm).tries
    tries_are = ap (λ (a : Agreed). a.tries) heard.heard.agreed_is

    less : wrong < m.agreed.tries
    less = let low = few channel.psm in let same = tries_are in omega (arith, low, same)

    open_paid : is_open setup ≡ true → IsPaid wrong channel.own pair.near.coming m
    open_paid opened =
        (paid near far past channel fair read passes have (can channel.psm) here there).0 m
        (subst (λ n. carrier_at n pair.near.run.value ≡ Some (Retransmitting m)) (sym heard.own_is) (ap (λ h. open_carrier (setup_on h)) found ∙ (ap open_carrier has ∙ (ap (λ b. carrier_if b setup) opened ∙ is))))

    far_bond : Bond near far past Far channel.psm channel.peer
    far_bond = bond-of near far past read Far (mirrored channel) have.far_has (can channel.psm).far_can (can channel.psm).near_can

    near_bond : Bond near far past Near channel.psm channel.own
    near_bond = bond-of near far past read Near channel have.near_has (can channel.psm).near_can (can channel.psm).far_can

    abbrev t : Terms
    t = terms_of near far past channel near_bond far_bond

    wish : OneWishes near far channel.psm Enhanced
    wish = inl (sym heard.mode_is)

    suited : Suited t channel
    suited = fair-by near far past channel have (can channel.psm) near_bond far_bond

    joint : Joint t channel (Paid wrong) pair
    joint =
        let e : all_upsets (new_pair near far) past + 0 ≡ wrong = omega arith in
        subst (λ k. Joint t channel (Paid k) pair) e
        (all_paid near far t channel 0 past [] past suited (common_at near far past channel near_bond far_bond read have wish) refl fair passes (both-ready near far past channel fair read passes have near_bond far_bond) (first-runs IsUttered near far)
        (first_joint near far t channel suited (Paid 0) (record { there = new_account t.mine t.other; back = new_account t.other t.mine })))

    alike : Alike m.agreed near_bond.agreed
    alike = record {
      mps = ap (λ (a : Agreed). a.receive_mps) heard.heard.agreed_is ∙ sym near_bond.within.own_mps;
      window = ap (λ (a : Agreed). a.receive_window) heard.heard.agreed_is ∙ sym near_bond.within.own_window;
      mtu = ap (λ (a : Agreed). a.receive_mtu) heard.heard.agreed_is ∙ sym near_bond.within.own_mtu;
    }

    -- what comes first does not close it, whether it is open or not
    frame_stands : (pdu : List ℕ) (behind : List (List ℕ)) → pair.near.coming ≡ pdu ∷ behind → eqb (channel_of pdu) channel.own ≡ true → (machine_heard (read_by m pdu) m).closed ≡ None
    frame_stands pdu behind coming_is for = by (is_open setup) refl
      where
        by : (b : Bool) → is_open setup ≡ b → (machine_heard (read_by m pdu) m).closed ≡ None
        by true opened = none-closes (machine_heard (read_by m pdu) m).closed m.agreed.tries wrong less (λ reason closes. (open_paid opened).at_frame pdu behind reason coming_is for closes)
        by false shut = opening t channel pair wrong held setup m pdu behind joint there (subst (λ n. held_at n pair.near.run.value ≡ Some held) (sym heard.own_is) found) has is shut alike coming_is for

    -- nor does the timer, where it is open
    timer_stands : is_open setup ≡ true → (timed m).closed ≡ None
    timer_stands opened = none-closes (timed m).closed m.agreed.tries wrong less (open_paid opened).at_timer

    here_is : (pdu : List ℕ) → channel_of pdu ≡ own → eqb (channel_of pdu) channel.own ≡ true
    here_is pdu same = eq-eqb (channel_of pdu) channel.own (same ∙ sym heard.own_is)

  -- ---- what comes in

  at_own : (n : ℕ) (setup : Setup) → n ≡ own → setup_on (held_at n pair.near.run.value) ≡ Some setup → setup_on (held_at own pair.near.run.value) ≡ Some setup
  at_own n setup same on = subst (λ k. setup_on (held_at k pair.near.run.value) ≡ Some setup) same on

  pub withstands-front : (pdu : List ℕ) (behind : List (List ℕ)) → pair.near.coming ≡ pdu ∷ behind → channel_of pdu ≡ own → (setup : Setup) (m : Ertm) → setup_on (held_at (channel_of pdu) pair.near.run.value) ≡ Some setup → setup.carrier ≡ Some (Retransmitting m) → (machine_heard (read_by m pdu) m).closed ≡ None
  withstands-front pdu behind coming_is same setup m on is =
      let (held, found, has) = held_of own pair.near.run.value setup (at_own (channel_of pdu) setup same on) in
      frame_stands held setup m found has is pdu behind coming_is (here_is held setup m found has is pdu same)

  pub withstands-damage : (other : List ℕ) → ((most : ℕ) → (answer_in most other ≡ Err Short) ⊎ (answer_in most other ≡ Err BadFcs)) → channel_of other ≡ own → (setup : Setup) (m : Ertm) → setup_on (held_at (channel_of other) pair.near.run.value) ≡ Some setup → setup.carrier ≡ Some (Retransmitting m)
      → is_taken_with setup.own (Retransmitting m) other ≡ true → (machine_heard (read_by m other) m).closed ≡ None
  withstands-damage other seen same setup m on is taken = by setup.own refl taken
    where
      no_frame : (answer : Answer) → (answer ≡ Err Short) ⊎ (answer ≡ Err BadFcs) → is_frame answer ≡ true → ⊥
      no_frame answer (inl bad) framed = let never : false ≡ true = sym (ap is_frame bad) ∙ framed in cc
      no_frame answer (inr bad) framed = let never : false ≡ true = sym (ap is_frame bad) ∙ framed in cc

      by : (asked : Own) → setup.own ≡ asked → is_taken_with asked (Retransmitting m) other ≡ true → (machine_heard (read_by m other) m).closed ≡ None
      by Unasked own_is now = cc
      by (Asking request options) own_is now = absurd (no_frame (read_by m other) (seen m.agreed.receive_mps) now)
      by Granted own_is now =
          let (held, found, has) = held_of own pair.near.run.value setup (at_own (channel_of other) setup same on) in
          let opened : is_open setup ≡ true = ap (λ (c : Option Carrier). is_some c && is_granted setup.own) is ∙ ap is_granted own_is in
          damage_closes_none m (read_by m other) (seen m.agreed.receive_mps) (open_of m (timer_stands held setup m found has is opened))

  -- ---- the timer

  pub withstands-timer : ((request : Request) → request_of (Configuration own) pair.near.run.value ≡ Some request → request.given < near.tries) → (setup : Setup) → setup_on (held_at own pair.near.run.value) ≡ Some setup → IsUnspent near.tries setup.own setup.carrier
  withstands-timer unspent setup on = by setup.own refl
    where
      at : (held : Held) × (held_at own pair.near.run.value ≡ Some held) × (setup_of held.stage ≡ Some setup)
      at = held_of own pair.near.run.value setup on

      stated : IsStated setup
      stated = stated_at near runs.0 own at.0 setup (subst (λ (r : Run). held_at own r.value ≡ Some at.0) runs.1 at.1) at.2

      by : (asked : Own) → setup.own ≡ asked → IsUnspent near.tries asked setup.carrier
      by Unasked own_is = λ m is. let never : false ≡ true = sym (ap is_stated own_is) ∙ stated (ap (λ (c : Option Carrier). is_some c) is) in absurd cc
      by (Asking request options) own_is = unspent request (options_wait own pair.near.run.value at.0 setup request options at.1 at.2 own_is)
      by Granted own_is = λ m is. timer_stands at.0 setup m at.1 at.2 is (ap (λ (c : Option Carrier). is_some c && is_granted setup.own) is ∙ ap is_granted own_is)
