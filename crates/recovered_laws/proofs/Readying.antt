-- What two hosts have done about the options of a channel that they have in common, whenever one of them has it.
use Rattle.std.proofs.Common.{◌≡◌, ℕ, List, [], ◌++◌, Bool, true, false, ◌&&◌, Option, Some, None, refl, sym, ap, subst, ◌∙◌}
use Rattle.std.specs.Prelude.{is_some, option_map}
use Rattle.channel_laws.specs.l2cap_config.specs.declared.wish.Agreed.{Agreed}
use Rattle.channel_laws.specs.l2cap_config.specs.declared.wish.Mode.{Mode}
use Rattle.channel_laws.specs.ertm_model.specs.Value.{Ertm}
use Rattle.channel_laws.specs.link_talk.specs.declared.channel.Channel.{Channel}
use Rattle.channel_laws.specs.link_talk.specs.Channels.{Entry, reading}
use Rattle.channel_laws.specs.link_talk.specs.Sayings.{Saying}
use Rattle.channel_laws.specs.channel_model.specs.Value.{Carrier, Retransmitting, Setup, Stage, Requested, Connected, Leaving, Closing, Crossed, Held, Channels}
use Rattle.channel_laws.specs.channel_model.specs.Policies.{Policy}
use Rattle.channel_laws.specs.channel_model.specs.Changing.{held_at, is_granted, is_open, setup_of}
use Rattle.channel_laws.specs.channel_model.specs.Calls.{setup_on, open_carrier, carrier_if, carrier_at}
use Rattle.channel_laws.specs.channel_model.specs.Telling.{is_told_closed}
use Rattle.channel_laws.specs.channel_model.proofs.Going.{IsStated}
use Rattle.channel_laws.specs.Belonging.{AreRead, said_at}
use Rattle.channel_laws.specs.Common.{mirrored}
use Rattle.channel_laws.specs.Consent.{HasAccepted}
use Rattle.channel_laws.specs.Endpoints.{IsOf}
use Rattle.channel_laws.specs.Ends.{AreFair, end_at}
use Rattle.channel_laws.specs.Pairs.{Side, Near, Far, turned, Turn, pair_of, IsRunOf}
use Rattle.channel_laws.specs.Pipes.{AreCarried, HaveChannel}
use Rattle.channel_laws.specs.Runs.{Occurrence, Run, run_of}
use Rattle.channel_laws.specs.Views.{read_at, carrier_mode}
use Rattle.channel_laws.proofs.Agreements.{accepted-heard}
use Rattle.channel_laws.proofs.Assents.{Took}
use Rattle.channel_laws.proofs.Bonds.{Bond}
use Rattle.channel_laws.proofs.Flowing.{terms_of}
use Rattle.channel_laws.proofs.Holding.{IsRead, is-read}
use Rattle.channel_laws.proofs.Joining.{other_terms}
use Rattle.channel_laws.proofs.Keeping.{HeldKeeps}
use Rattle.channel_laws.proofs.Mating.{front-each, same_channel, stays_other}
use Rattle.channel_laws.proofs.Pairing.{each-end_runs}
use Rattle.channel_laws.proofs.Running.{along}
use Rattle.channel_laws.proofs.Sharing.{channels-are_common, stays-of}
use Rattle.channel_laws.proofs.Sound.{Reads, requested-unread, Sound}
use Rattle.channel_laws.proofs.Telling.{StageTold, HeldTold, RunTold, one_told, nothing_told}
use Rattle.channel_laws.proofs.Trusting.{both-sound, peers-have_accepted}
use Rattle.recovered_laws.proofs.Paying.{BothPrepared}
use Rattle.recovered_laws.proofs.Turning.{IsSome, Prepared}
use Rattle.recovered_laws.proofs.Twins.{On, Here}

-- ---- one host

-- it made its own request where it accepted one
pub stated_at : (policy : Policy) (list : List Occurrence) (own : ℕ) (held : Held) (setup : Setup) → held_at own (run_of policy list).value ≡ Some held → setup_of held.stage ≡ Some setup → IsStated setup
stated_at policy list own held setup found has = by held.stage has (subst (λ h. HeldTold h closed) found (told.at own))
  where
    told : RunTold (run_of policy list)
    told = (along policy RunTold nothing_told (λ run more sound told. one_told policy run more sound.core.lone told) list).1

    closed : Bool
    closed = is_told_closed own ((run_of policy list).told ++ (run_of policy list).value.events)

    by : (stage : Stage) → setup_of stage ≡ Some setup → StageTold stage closed → IsStated setup
    by (Requested request) is now = cc
    by (Connected peer s) is now = let same : s ≡ setup = cc in subst IsStated same now.0
    by (Leaving peer s request) is now = let same : s ≡ setup = cc in subst IsStated same now.0
    by (Closing peer request checked) is now = cc
    by (Crossed peer request) is now = cc

-- what it accepted carries where it has the channel
pub took_here : (policy : Policy) (said : List Saying) (v : Channels) (channel : Channel) → Sound policy (reading said) v → Took channel said → Here policy channel.own IsSome v
took_here policy said v channel sound took = record { held = of (held_at channel.own v) refl; before = λ above. let never : None ≡ Some took.entry = sym (sound.core.read_below channel.own above) ∙ took.found in λ none. cc }
  where
    some_entry : (a b : Entry) → Some a ≡ Some b → a ≡ b
    some_entry a b is = cc

    carries : (held : Held) (setup : Setup) → held_at channel.own v ≡ Some held → setup_of held.stage ≡ Some setup → setup.carrier ≡ None → ⊥
    carries held setup found has none =
        let r : IsRead policy said channel.own held setup = is-read policy said v channel.own held setup found has sound in
        let same : r.entry ≡ took.entry = some_entry r.entry took.entry (sym r.found ∙ took.found) in
        let off : is_some took.entry.setup.accepted ≡ false =
        ap (λ (e : Entry). is_some e.setup.accepted) (sym same) ∙ ap (λ (m : Option Mode). is_some m) (r.agrees.set_up.accepted_is ∙ ap (option_map carrier_mode) none) in
        let never : false ≡ true = sym off ∙ took.accepted in cc

    on : (held : Held) → held_at channel.own v ≡ Some held → HeldKeeps policy (On IsSome) (Some held)
    on held found = by held.stage refl
      where
        by : (stage : Stage) → held.stage ≡ stage → (let h : Held = record held { stage = stage } in HeldKeeps policy (On IsSome) (Some h))
        by (Requested request) is =
            let none : read_at channel.own (reading said).entries ≡ None = requested-unread policy held request (read_at channel.own (reading said).entries) is (subst (λ h. Reads policy h (read_at channel.own (reading said).entries)) found (sound.core.reads channel.own)) in
            let never : None ≡ Some took.entry = sym none ∙ took.found in absurd cc
        by (Connected peer setup) is = carries held setup found (ap setup_of is)
        by (Leaving peer setup request) is = carries held setup found (ap setup_of is)
        by (Closing peer request checked) is = tt
        by (Crossed peer request) is = tt

    of : (held : Option Held) → held_at channel.own v ≡ held → HeldKeeps policy (On IsSome) held
    of None found = tt
    of (Some held) found = on held found

-- an open channel has a carrier
pub open_carries : (own : ℕ) (v : Channels) (held : Held) (setup : Setup) → held_at own v ≡ Some held → setup_of held.stage ≡ Some setup → is_open setup ≡ true → (carrier : Carrier) × (carrier_at own v ≡ Some carrier)
open_carries own v held setup found has opened = by setup.carrier refl
  where
    carries : carrier_at own v ≡ setup.carrier
    carries = ap (λ h. open_carrier (setup_on h)) found ∙ (ap open_carrier has ∙ ap (λ b. carrier_if b setup) opened)

    by : (carrier : Option Carrier) → setup.carrier ≡ carrier → (c : Carrier) × (carrier_at own v ≡ Some c)
    by None is = let never : false ≡ true = sym (ap (λ (c : Option Carrier). is_some c && is_granted setup.own) is) ∙ opened in absurd cc
    by (Some carrier) is = (carrier, carries ∙ is)

-- ---- two hosts, at a moment of all

-- what a host accepted for the other's endpoint of the channel is the channel
pub took_by : (near far : Policy) (side : Side) (front behind : List Turn) (channel : Channel) → AreRead near far front → IsOf (mirrored channel) (read_at channel.peer (reading (said_at side (turned (pair_of near far (front ++ behind))))).entries)
    → HasAccepted channel.peer (said_at side (pair_of near far front)) → Took channel (said_at side (pair_of near far front))
took_by near far side front behind channel read has accepted =
    record { entry = accepted.entry; found = ap (λ (c : Channel). read_at c.own (reading (said_at side (pair_of near far front))).entries) (sym same) ∙ accepted.found; channel_is = same; accepted = accepted.accepted }
  where
    it : Channel
    it = accepted.entry.channel

    common : IsOf (mirrored it) (read_at it.peer (reading (said_at side (turned (pair_of near far (front ++ behind))))).entries)
    common = stays_other near far side front behind (mirrored it) it.peer (channels-are_common near far front read side it.own accepted.entry accepted.found accepted.accepted)

    same : it ≡ channel
    same = ap mirrored (same_channel (mirrored it) (mirrored channel) (read_at channel.peer (reading (said_at side (turned (pair_of near far (front ++ behind))))).entries)
        (subst (λ n. IsOf (mirrored it) (read_at n (reading (said_at side (turned (pair_of near far (front ++ behind))))).entries)) accepted.peer_is common) has)

-- frames are as long as its host wishes of the channel
pub long_as_wished : (near far policy : Policy) (side : Side) (front behind : List Turn) (channel : Channel) (list : List Occurrence) → (end_at side (pair_of near far front)).run ≡ run_of policy list → IsOf channel (read_at channel.own (reading (end_at side (pair_of near far (front ++ behind))).run.said).entries)
    → (held : Held) (setup : Setup) (machine : Ertm) → held_at channel.own (end_at side (pair_of near far front)).run.value ≡ Some held → setup_of held.stage ≡ Some setup → setup.carrier ≡ Some (Retransmitting machine) → machine.agreed.receive_mps ≡ (policy.wish channel.psm).mps
long_as_wished near far policy side front behind channel list runs has held setup machine found set is =
    let r = accepted-heard policy list channel.own held setup (Retransmitting machine) (subst (λ (run : Run). held_at channel.own run.value ≡ Some held) runs found) set is in
    let here : IsOf r.channel (read_at channel.own (reading (end_at side (pair_of near far front)).run.said).entries) =
    subst (λ (run : Run). IsOf r.channel (read_at channel.own (reading run.said).entries)) (sym runs) (subst (IsOf r.channel) (sym r.found) r.channel_is) in
    let same : r.channel ≡ channel = same_channel r.channel channel (read_at channel.own (reading (end_at side (pair_of near far (front ++ behind))).run.said).entries) (stays-of near far side front behind r.channel channel.own here) has in
    ap (λ (a : Agreed). a.receive_mps) r.heard.agreed_is ∙ ap (λ (c : Channel). (policy.wish c.psm).mps) same

module _ (near far : Policy) (turns : List Turn) (channel : Channel) (fair : AreFair near far turns) (read : AreRead near far turns) (passes : AreCarried near far turns) (have : HaveChannel near far turns channel)
    (near_bond : Bond near far turns Near channel.psm channel.own) (far_bond : Bond near far turns Far channel.psm channel.peer) (front behind : List Turn) (is : turns ≡ front ++ behind) where
  read_so : AreRead near far front
  read_so = front-each _ [] front behind (subst (AreRead near far) is read)

  fair_so : AreFair near far front
  fair_so = front-each _ [] front behind (subst (AreFair near far) is fair)

  passes_so : AreCarried near far front
  passes_so = front-each _ [] front behind (subst (AreCarried near far) is passes)

  near_has : IsOf channel (read_at channel.own (reading (pair_of near far (front ++ behind)).near.run.said).entries)
  near_has = subst (λ l. IsOf channel (read_at channel.own (reading (pair_of near far l).near.run.said).entries)) is have.near_has

  far_has : IsOf (mirrored channel) (read_at channel.peer (reading (pair_of near far (front ++ behind)).far.run.said).entries)
  far_has = subst (λ l. IsOf (mirrored channel) (read_at channel.peer (reading (pair_of near far l).far.run.said).entries)) is have.far_has

  runs : IsRunOf near (pair_of near far front).near.run × IsRunOf far (pair_of near far front).far.run
  runs = each-end_runs near far front

  near_ready : Prepared (terms_of near far turns channel near_bond far_bond) channel (pair_of near far front)
  near_ready = record {
    stated = λ held setup found has. stated_at near runs.0.0 channel.own held setup (subst (λ (run : Run). held_at channel.own run.value ≡ Some held) runs.0.1 found) has;
    frames = λ held setup machine found has carrier. long_as_wished near far near Near front behind channel runs.0.0 runs.0.1 near_has held setup machine found has carrier ∙ sym near_bond.within.own_mps;
    accepted = λ held setup found has opened.
        let (carrier, carries) = open_carries channel.own (pair_of near far front).near.run.value held setup found has opened in
        took_here (pair_of near far front).far.policy (pair_of near far front).far.run.said (pair_of near far front).far.run.value (mirrored channel) (both-sound near far front).1
        (took_by near far Far front behind (mirrored channel) read_so near_has (peers-have_accepted near far front fair_so read_so passes_so Near channel.own carrier carries));
  }

  far_ready : Prepared (other_terms (terms_of near far turns channel near_bond far_bond)) (mirrored channel) (turned (pair_of near far front))
  far_ready = record {
    stated = λ held setup found has. stated_at far runs.1.0 channel.peer held setup (subst (λ (run : Run). held_at channel.peer run.value ≡ Some held) runs.1.1 found) has;
    frames = λ held setup machine found has carrier. long_as_wished near far far Far front behind (mirrored channel) runs.1.0 runs.1.1 far_has held setup machine found has carrier ∙ sym far_bond.within.own_mps;
    accepted = λ held setup found has opened.
        let (carrier, carries) = open_carries channel.peer (pair_of near far front).far.run.value held setup found has opened in
        took_here (pair_of near far front).near.policy (pair_of near far front).near.run.said (pair_of near far front).near.run.value channel (both-sound near far front).0
        (took_by near far Near front behind channel read_so far_has (peers-have_accepted near far front fair_so read_so passes_so Far channel.peer carrier carries));
  }

  both_ready : BothPrepared (terms_of near far turns channel near_bond far_bond) channel (pair_of near far front)
  both_ready = (near_ready, far_ready)

pub both-ready : (near far : Policy) (turns : List Turn) (channel : Channel) → AreFair near far turns → AreRead near far turns → AreCarried near far turns → HaveChannel near far turns channel → (near_bond : Bond near far turns Near channel.psm channel.own)
    (far_bond : Bond near far turns Far channel.psm channel.peer) (front behind : List Turn) → turns ≡ front ++ behind → BothPrepared (terms_of near far turns channel near_bond far_bond) channel (pair_of near far front)
both-ready near far turns channel fair read passes have near_bond far_bond front behind is = both_ready near far turns channel fair read passes have near_bond far_bond front behind is
