-- What comes up for a PSM that carries packets at either end comes of the one channel that both talks have of it, and is what the other end took.
use Rattle.std.proofs.Common.{◌≡◌, ℕ, List, [], ◌∷◌, ◌++◌, Bool, true, false, cond, eqb, Option, Some, None, refl, sym, ap, ap₂, subst, ◌∙◌, ◌⊎◌, inl, inr}
use Rattle.std.specs.List.{AllByRecursion, cons_option}
use Rattle.std.proofs.lemmas.Bool.{eqb-true, eq-eqb}
use Rattle.pair_laws.specs.link_talk.specs.declared.channel.Channel.{Channel}
use Rattle.pair_laws.specs.link_talk.specs.Channels.{Entry, reading}
use Rattle.pair_laws.specs.link_talk.specs.Sayings.{Saying}
use Rattle.pair_laws.specs.channel_model.specs.Carrying.{Up as Handed, Nothing, Received}
use Rattle.pair_laws.specs.channel_model.specs.Policies.{Policy}
use Rattle.pair_laws.specs.channel_laws.specs.Belonging.{AreRead, said_at, HasAsked, HasGranted, Belongs}
use Rattle.pair_laws.specs.channel_laws.specs.Common.{mirrored}
use Rattle.pair_laws.specs.channel_laws.specs.Delivered.{IsRunBy}
use Rattle.pair_laws.specs.channel_laws.specs.Endpoints.{IsOf}
use Rattle.pair_laws.specs.channel_laws.specs.Pairs.{Side, Near, Far, turned, Turn, pair_of}
use Rattle.pair_laws.specs.channel_laws.specs.Pipes.{HaveChannel, IsFront}
use Rattle.pair_laws.specs.channel_laws.specs.Runs.{Occurrence, Run, run_of, sdus_up}
use Rattle.pair_laws.specs.channel_laws.specs.Taken.{taken_of}
use Rattle.pair_laws.specs.channel_laws.specs.Views.{channel_by, read_at}
use Rattle.pair_laws.specs.channel_laws.proofs.Belonging.{channels-belong}
use Rattle.pair_laws.specs.channel_laws.proofs.Bestowing.{endpoints-are_granted_once, endpoints-ask_for_one_psm}
use Rattle.pair_laws.specs.channel_laws.proofs.Naming.{endpoints-name_one}
use Rattle.pair_laws.specs.channel_laws.proofs.Sharing.{channels-are_common}
use Rattle.pair_laws.specs.host_laws.specs.OneCarrier.{IsAside, IsFor, CarriesAlone}
use Rattle.pair_laws.specs.host_laws.proofs.Gaining.{found_in}
use Rattle.request_laws.specs.HandedUp.{handed_for}
use Rattle.request_laws.proofs.Accepted.{Accepted, Opened, OpenedUp, all-opened}

-- ---- SDUs of a PSM and of an endpoint

-- an SDU is for the PSM of the object where it is of the endpoint
abbrev pub Agrees : (carrier own : ℕ) → Handed → Type 0
Agrees carrier own Nothing = Unit {0}
Agrees carrier own (Received at psm sdu) = eqb psm carrier ≡ eqb at own

handed_is : (carrier own : ℕ) (ups : List Handed) → AllByRecursion (Agrees carrier own) ups → handed_for carrier ups ≡ sdus_up own ups
handed_is carrier own [] all = refl
handed_is carrier own (Nothing ∷ ups) all = handed_is carrier own ups all.1
handed_is carrier own (Received at psm sdu ∷ ups) all = ap₂ (λ (b : Bool) (l : List (List ℕ)). cons_option (cond b (Some sdu) None) l) all.0 (handed_is carrier own ups all.1)

all_agree : (carrier own : ℕ) (said : List Saying) (ups : List Handed) → ((psm at : ℕ) → Opened said psm at → eqb psm carrier ≡ eqb at own) → AllByRecursion (OpenedUp said) ups → AllByRecursion (Agrees carrier own) ups
all_agree carrier own said [] agrees all = tt
all_agree carrier own said (Nothing ∷ ups) agrees all = (tt, all_agree carrier own said ups agrees all.1)
all_agree carrier own said (Received at psm sdu ∷ ups) agrees all = (agrees psm at all.0, all_agree carrier own said ups agrees all.1)

-- none came up for the PSM, or one of a channel of the talk
abbrev pub NoneOrOpened : (carrier : ℕ) → List Saying → List Handed → Type 0
NoneOrOpened carrier said ups = (handed_for carrier ups ≡ []) ⊎ ((own : ℕ) × Opened said carrier own)

pub none_or_opened : (carrier : ℕ) (said : List Saying) (ups : List Handed) → AllByRecursion (OpenedUp said) ups → NoneOrOpened carrier said ups
none_or_opened carrier said [] all = inl refl
none_or_opened carrier said (Nothing ∷ ups) all = none_or_opened carrier said ups all.1
none_or_opened carrier said (Received own psm sdu ∷ ups) all = by (eqb psm carrier) refl (none_or_opened carrier said ups all.1)
  where
    by : (here : Bool) → eqb psm carrier ≡ here → NoneOrOpened carrier said ups → NoneOrOpened carrier said (Received own psm sdu ∷ ups)
    by true is rest = inr (own, subst (λ n. Opened said n own) (eqb-true psm carrier is) all.0)
    by false is (inl none) = inl (ap (λ b. cons_option (cond b (Some sdu) None) (handed_for carrier ups)) is ∙ none)
    by false is (inr some) = inr some

-- ---- one channel alone has the PSM

same_channel : (one other : Channel) (found : Option Entry) → IsOf one found → Accepted other found → other ≡ one
same_channel one other None of is = absurd of
same_channel one other (Some entry) of is = sym is.0 ∙ of

pub is_of : (channel : Channel) (found : Option Entry) → Accepted channel found → IsOf channel found
is_of channel None is = absurd is
is_of channel (Some entry) is = is.0

of_stays : (policy : Policy) (list later : List Occurrence) (channel : Channel) (own : ℕ) → IsOf channel (read_at own (reading (run_of policy list).said).entries) → IsOf channel (read_at own (reading (run_of policy (list ++ later)).said).entries)
of_stays policy list later channel own is = by (read_at own (reading (run_of policy list).said).entries) refl is
  where
    by : (found : Option Entry) → read_at own (reading (run_of policy list).said).entries ≡ found → IsOf channel found → IsOf channel (read_at own (reading (run_of policy (list ++ later)).said).entries)
    by None at is = absurd is
    by (Some entry) at is = subst (λ c. IsOf c (read_at own (reading (run_of policy (list ++ later)).said).entries)) is (endpoints-name_one policy list later own entry at)

pub for_of : (one channel : Channel) (said : List Saying) (own : ℕ) → CarriesAlone one said → IsOf channel (read_at own (reading said).entries) → IsFor one channel
for_of one channel said own alone is = by (read_at own (reading said).entries) refl is
  where
    by : (found : Option Entry) → read_at own (reading said).entries ≡ found → IsOf channel found → IsFor one channel
    by None at is = absurd is
    by (Some entry) at is = subst (IsFor one) is (found_in own (λ (e : Entry). IsFor one e.channel) (reading said).entries entry alone at)

-- packets go on channels of that PSM
abbrev pub CarriesPackets : ℕ → Type 0
CarriesPackets carrier = (psm : ℕ) → IsAside psm → psm ≡ carrier → ⊥

-- a channel has the PSM where it has the endpoint of that one, and then it is that one
pub record IsSole (carrier : ℕ) (one channel : Channel) : Type 0 where
  pub agrees : eqb channel.psm carrier ≡ eqb channel.own one.own
  pub same : eqb channel.psm carrier ≡ true → channel ≡ one

pub sole : (carrier : ℕ) (one channel : Channel) → CarriesPackets carrier → one.psm ≡ carrier → IsFor one channel → IsSole carrier one channel
sole carrier one channel carries psm_is fit = by (eqb channel.own one.own) refl
  where
    off : (b : Bool) → eqb channel.psm carrier ≡ b → (channel.psm ≡ carrier → ⊥) → b ≡ false
    off false is never = refl
    off true is never = absurd (never (eqb-true channel.psm carrier is))

    by : (here : Bool) → eqb channel.own one.own ≡ here → IsSole carrier one channel
    by true is =
        let same : channel ≡ one = fit.same is in
        record { agrees = eq-eqb channel.psm carrier (ap (λ (c : Channel). c.psm) same ∙ psm_is) ∙ sym is; same = λ here. same }
    by false is =
        let apart : eqb channel.psm carrier ≡ false = off (eqb channel.psm carrier) refl (carries channel.psm (fit.aside is)) in
        record { agrees = apart ∙ sym is; same = λ here. let never : true ≡ false = sym here ∙ apart in absurd cc }

-- ---- a pair at a moment

-- what it went through, and the one channel that has the PSM in the far host's talk, now and later; where both talks have it, each end hands
-- up a front of what the other took
pub record Moment (carrier : ℕ) (near far : Policy) (turns : List Turn) (one other later : List Occurrence) (channel : Channel) : Type 0 where
  pub read : AreRead near far turns
  pub carries : CarriesPackets carrier
  pub delivers : HaveChannel near far turns (mirrored channel)
      → IsFront (sdus_up channel.peer (pair_of near far turns).near.run.up) (taken_of far channel.own other) × IsFront (sdus_up channel.own (pair_of near far turns).far.run.up) (taken_of near channel.peer one)
  pub near_by : IsRunBy near (pair_of near far turns).near.run one
  pub far_by : IsRunBy far (pair_of near far turns).far.run other
  pub psm_is : channel.psm ≡ carrier
  pub alone : CarriesAlone channel (run_of far (other ++ later)).said

module _ (carrier : ℕ) (near far : Policy) (turns : List Turn) (one other later : List Occurrence) (channel : Channel) (m : Moment carrier near far turns one other later channel) where
  -- the near host's talk has it as well
  abbrev pub NearHas : Type 0
  NearHas = IsOf (mirrored channel) (read_at channel.peer (reading (run_of near one).said).entries)

  common : (side : Side) (c : Channel) (own : ℕ) → Accepted c (read_at own (reading (said_at side (pair_of near far turns))).entries) → IsOf (mirrored c) (read_at c.peer (reading (said_at side (turned (pair_of near far turns)))).entries)
  common side c own is = by (read_at own (reading (said_at side (pair_of near far turns))).entries) refl is
    where
      by : (found : Option Entry) → read_at own (reading (said_at side (pair_of near far turns))).entries ≡ found → Accepted c found → IsOf (mirrored c) (read_at c.peer (reading (said_at side (turned (pair_of near far turns)))).entries)
      by None at is = absurd is
      by (Some entry) at is = subst (λ (x : Channel). IsOf (mirrored x) (read_at x.peer (reading (said_at side (turned (pair_of near far turns)))).entries)) is.0 (channels-are_common near far turns m.read side own entry at is.1)

  near_common : (c : Channel) (own : ℕ) → Accepted c (read_at own (reading (run_of near one).said).entries) → IsOf (mirrored c) (read_at c.peer (reading (run_of far other).said).entries)
  near_common c own is =
      subst (λ (r : Run). IsOf (mirrored c) (read_at c.peer (reading r.said).entries)) m.far_by.run_is
      (common Near c own (subst (λ (r : Run). Accepted c (read_at own (reading r.said).entries)) (sym m.near_by.run_is) is))

  far_common : (c : Channel) (own : ℕ) → Accepted c (read_at own (reading (run_of far other).said).entries) → IsOf (mirrored c) (read_at c.peer (reading (run_of near one).said).entries)
  far_common c own is =
      subst (λ (r : Run). IsOf (mirrored c) (read_at c.peer (reading r.said).entries)) m.near_by.run_is
      (common Far c own (subst (λ (r : Run). Accepted c (read_at own (reading r.said).entries)) (sym m.far_by.run_is) is))

  far_sole : (c : Channel) (own : ℕ) → IsOf c (read_at own (reading (run_of far other).said).entries) → IsSole carrier channel c
  far_sole c own is = sole carrier channel c m.carries m.psm_is (for_of channel c (run_of far (other ++ later)).said own m.alone (of_stays far other later c own is))

  pub far-agrees : (psm own : ℕ) → Opened (run_of far other).said psm own → eqb psm carrier ≡ eqb own channel.own
  far-agrees psm own (peer, is) = (far_sole (channel_by psm own peer) own (is_of (channel_by psm own peer) (read_at own (reading (run_of far other).said).entries) is)).agrees

  near_sole : (psm own peer : ℕ) → Accepted (channel_by psm own peer) (read_at own (reading (run_of near one).said).entries) → IsSole carrier channel (channel_by psm peer own)
  near_sole psm own peer is = far_sole (channel_by psm peer own) peer (near_common (channel_by psm own peer) own is)

  pub near-agrees : NearHas → (psm own : ℕ) → Opened (run_of near one).said psm own → eqb psm carrier ≡ eqb own channel.peer
  near-agrees has psm own (peer, is) = by (eqb psm carrier) refl
    where
      off : (b : Bool) → eqb own channel.peer ≡ b → eqb psm carrier ≡ false → b ≡ false
      off false at apart = refl
      off true at apart =
          let there : IsOf (mirrored channel) (read_at own (reading (run_of near one).said).entries) = subst (λ n. IsOf (mirrored channel) (read_at n (reading (run_of near one).said).entries)) (sym (eqb-true own channel.peer at)) has in
          let same : channel_by psm own peer ≡ mirrored channel = same_channel (mirrored channel) (channel_by psm own peer) (read_at own (reading (run_of near one).said).entries) there is in
          let never : true ≡ false = sym (eq-eqb psm carrier (ap (λ (c : Channel). c.psm) same ∙ m.psm_is)) ∙ apart in
          absurd cc

      by : (here : Bool) → eqb psm carrier ≡ here → eqb psm carrier ≡ eqb own channel.peer
      by true is' = is' ∙ sym (eq-eqb own channel.peer (ap (λ (c : Channel). c.peer) ((near_sole psm own peer is).same is')))
      by false is' = is' ∙ sym (off (eqb own channel.peer) refl is')

  -- ---- what comes up

  has_both : NearHas → IsOf channel (read_at channel.own (reading (run_of far other).said).entries) → HaveChannel near far turns (mirrored channel)
  has_both has there = record {
    near_has = subst (λ (r : Run). IsOf (mirrored channel) (read_at channel.peer (reading r.said).entries)) (sym m.near_by.run_is) has;
    far_has = subst (λ (r : Run). IsOf channel (read_at channel.own (reading r.said).entries)) (sym m.far_by.run_is) there;
  }

  delivered : NearHas → IsOf channel (read_at channel.own (reading (run_of far other).said).entries)
      → IsFront (sdus_up channel.peer (pair_of near far turns).near.run.up) (taken_of far channel.own other) × IsFront (sdus_up channel.own (pair_of near far turns).far.run.up) (taken_of near channel.peer one)
  delivered has there = m.delivers (has_both has there)

  -- requests: none came, or both talks have the channel and they are a front of what the near host's end of it took
  abbrev pub RequestsCome : Type 0
  RequestsCome = (handed_for carrier (run_of far other).up ≡ []) ⊎ (NearHas × IsFront (handed_for carrier (run_of far other).up) (taken_of near channel.peer one))

  pub requests-come : RequestsCome
  requests-come = by (none_or_opened carrier (run_of far other).said (run_of far other).up (all-opened far other))
    where
      by : NoneOrOpened carrier (run_of far other).said (run_of far other).up → RequestsCome
      by (inl none) = inl none
      by (inr (own, (peer, is))) =
          let there : IsOf (channel_by carrier own peer) (read_at own (reading (run_of far other).said).entries) = is_of (channel_by carrier own peer) (read_at own (reading (run_of far other).said).entries) is in
          let same : channel_by carrier own peer ≡ channel = (far_sole (channel_by carrier own peer) own there).same (eq-eqb carrier carrier refl) in
          let has : NearHas = subst (λ (c : Channel). IsOf (mirrored c) (read_at c.peer (reading (run_of near one).said).entries)) same (far_common (channel_by carrier own peer) own is) in
          let here : IsOf channel (read_at channel.own (reading (run_of far other).said).entries) = subst (λ (c : Channel). IsOf c (read_at c.own (reading (run_of far other).said).entries)) same there in
          let front : IsFront (sdus_up channel.own (run_of far other).up) (taken_of near channel.peer one) =
          subst (λ (r : Run). IsFront (sdus_up channel.own r.up) (taken_of near channel.peer one)) m.far_by.run_is (delivered has here).1 in
          inr (has, subst (λ (l : List (List ℕ)). IsFront l (taken_of near channel.peer one)) (sym (handed_is carrier channel.own (run_of far other).up (all_agree carrier channel.own (run_of far other).said (run_of far other).up far-agrees (all-opened far other)))) front)

  abbrev pub ResponsesCome : Type 0
  ResponsesCome = (handed_for carrier (run_of near one).up ≡ []) ⊎ IsFront (handed_for carrier (run_of near one).up) (taken_of far channel.own other)

  pub responses-come : ResponsesCome
  responses-come = by (none_or_opened carrier (run_of near one).said (run_of near one).up (all-opened near one))
    where
      by : NoneOrOpened carrier (run_of near one).said (run_of near one).up → ResponsesCome
      by (inl none) = inl none
      by (inr (own, (peer, is))) =
          let same : channel_by carrier peer own ≡ channel = (near_sole carrier own peer is).same (eq-eqb carrier carrier refl) in
          let there : IsOf (channel_by carrier peer own) (read_at peer (reading (run_of far other).said).entries) = near_common (channel_by carrier own peer) own is in
          let here : IsOf channel (read_at channel.own (reading (run_of far other).said).entries) = subst (λ (c : Channel). IsOf c (read_at c.own (reading (run_of far other).said).entries)) same there in
          let near_is : IsOf (channel_by carrier own peer) (read_at own (reading (run_of near one).said).entries) = is_of (channel_by carrier own peer) (read_at own (reading (run_of near one).said).entries) is in
          let has : NearHas = subst (λ (c : Channel). IsOf (mirrored c) (read_at c.peer (reading (run_of near one).said).entries)) same near_is in
          let front : IsFront (sdus_up channel.peer (run_of near one).up) (taken_of far channel.own other) =
          subst (λ (r : Run). IsFront (sdus_up channel.peer r.up) (taken_of far channel.own other)) m.near_by.run_is (delivered has here).0 in
          inr (subst (λ (l : List (List ℕ)). IsFront l (taken_of far channel.own other)) (sym (handed_is carrier channel.peer (run_of near one).up (all_agree carrier channel.peer (run_of near one).said (run_of near one).up (near-agrees has) (all-opened near one)))) front)

  -- ---- an endpoint that the near host asked for a channel with

  pub asked-agrees : NearHas → (identifier psm own other_psm : ℕ) → HasAsked identifier psm own (run_of near one).said → Opened (run_of near one).said other_psm own → eqb psm carrier ≡ eqb own channel.peer
  asked-agrees has identifier psm own other_psm asked (peer, is) =
      ap (λ n. eqb n carrier) (sym (of_psm (read_at own (reading (pair_of near far turns).near.run.said).entries) refl
      (subst (λ (r : Run). Accepted (channel_by other_psm own peer) (read_at own (reading r.said).entries)) (sym m.near_by.run_is) is)))
      ∙ near-agrees has other_psm own (peer, is)
    where
      here : HasAsked identifier psm own (pair_of near far turns).near.run.said
      here = subst (λ (r : Run). HasAsked identifier psm own r.said) (sym m.near_by.run_is) asked

      by : Belongs (pair_of near far turns).near.run.said (pair_of near far turns).far.run.said (channel_by other_psm own peer) → other_psm ≡ psm
      by (id, status, inl (granted, asks)) =
          absurd ((endpoints-are_granted_once near one id status own peer (subst (λ (r : Run). HasGranted id status own peer r.said) m.near_by.run_is granted)).1 identifier psm asked)
      by (id, status, inr (asks, granted)) = endpoints-ask_for_one_psm near one id other_psm own identifier psm (subst (λ (r : Run). HasAsked id other_psm own r.said) m.near_by.run_is asks) asked

      of_psm : (found : Option Entry) → read_at own (reading (pair_of near far turns).near.run.said).entries ≡ found → Accepted (channel_by other_psm own peer) found → other_psm ≡ psm
      of_psm None at is = absurd is
      of_psm (Some entry) at is = by (subst (Belongs (pair_of near far turns).near.run.said (pair_of near far turns).far.run.said) is.0 (channels-belong near far turns m.read Near own entry at))
