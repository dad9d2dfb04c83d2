-- A host whose peer asks for two channels at most grants two at most: each that it grants is for an endpoint of its own of the peer.
use Rattle.std.proofs.Common.{◌≡◌, ℕ, ◌<◌, ◌≤◌, List, [], ◌∷◌, Bool, true, false, Option, Some, None, refl, sym, ap, subst, ◌∙◌, ◌⊎◌, inl, inr, arith}
use Rattle.std.specs.Prelude.{nat_lt}
use Rattle.std.specs.List.{AllByRecursion}
use Rattle.std.proofs.lemmas.Bool.{ltb-true, ltb-false}
use Rattle.channel_laws.specs.capture.specs.declared.flow.Flow.TheVariants.{Out, Into}
use Rattle.channel_laws.specs.link_talk.specs.declared.call.Call.{Call}
use Rattle.channel_laws.specs.link_talk.specs.declared.channel.Channel.{Channel}
use Rattle.channel_laws.specs.link_talk.specs.Channels.{Entry, reading}
use Rattle.channel_laws.specs.link_talk.specs.Sayings.{Saying}
use Rattle.channel_laws.specs.channel_model.specs.Policies.{Policy}
use Rattle.channel_laws.specs.channel_model.specs.Value.{no_channels}
use Rattle.channel_laws.specs.Belonging.{AreRead, HasAsked, HasGranted, Belongs, ChannelsBelong}
use Rattle.channel_laws.specs.Connections.{requests_for}
use Rattle.channel_laws.specs.Endpoints.{IsOf}
use Rattle.channel_laws.specs.Pairs.{Far, Turn, pair_of}
use Rattle.channel_laws.specs.Runs.{Occurrence, Comes, Connects, AsksFeatures, Disconnects, Sends, Gives, Fires, Tells, Run, run_of}
use Rattle.channel_laws.specs.Signals.{StandsIn}
use Rattle.channel_laws.specs.Singly.{calls_that_went, AreOneByOne, AsksForNoChannel, GrantsAreSingle, NoneIsCalled}
use Rattle.channel_laws.specs.Views.{read_at}
use Rattle.channel_laws.proofs.Bestowing.{Bestows, converses, first-bestows}
use Rattle.channel_laws.proofs.Calling.{own_call}
use Rattle.channel_laws.proofs.Conversing.{conversed-knowing}
use Rattle.channel_laws.proofs.Entries.{read-own}
use Rattle.channel_laws.proofs.Saying.{stands-left, stands-right}
use Rattle.channel_laws.proofs.Singling.{calls-more}
use Rattle.identifier_laws.specs.Granting.{TwoAreGranted}
use Rattle.identifier_laws.proofs.Growing.{IsPlaced, Since}
use Rattle.identifier_laws.proofs.Hosts.{below, since, each-nothing, next-few}

-- ---- a host that asks for nothing asks for no channel

pub no-channel : (list : List Occurrence) → requests_for list ≡ 0 → AllByRecursion AsksForNoChannel list
no-channel [] none = tt
no-channel (Comes pdu ∷ list) none = (tt, no-channel list (omega (arith, none)))
no-channel (Connects psm ∷ list) none = absurd (omega (arith, none))
no-channel (AsksFeatures ∷ list) none = absurd (omega (arith, none))
no-channel (Disconnects own ∷ list) none = (tt, no-channel list (omega (arith, none)))
no-channel (Sends own sdu ∷ list) none = (tt, no-channel list (omega (arith, none)))
no-channel (Gives pdu ∷ list) none = (tt, no-channel list (omega (arith, none)))
no-channel (Fires ∷ list) none = (tt, no-channel list (omega (arith, none)))
no-channel (Tells ∷ list) none = (tt, no-channel list (omega (arith, none)))

-- a request for a channel that was said is one of the calls
asked_called : (identifier psm own : ℕ) (said : List Saying) → HasAsked identifier psm own said → StandsIn (own_call identifier psm own) (calls_that_went Out said)
asked_called identifier psm own [] stands = stands
asked_called identifier psm own (first ∷ rest) (inl same) =
    subst (StandsIn (own_call identifier psm own)) (sym (calls-more Out (first ∷ []) rest))
    (stands-right (own_call identifier psm own) (calls_that_went Out rest) (calls_that_went Out (first ∷ [])) (subst (λ (s : Saying). StandsIn (own_call identifier psm own) (calls_that_went Out (s ∷ []))) (sym same) (inl refl)))
asked_called identifier psm own (first ∷ rest) (inr later) =
    subst (StandsIn (own_call identifier psm own)) (sym (calls-more Out (first ∷ []) rest))
    (stands-left (own_call identifier psm own) (calls_that_went Out rest) (calls_that_went Out (first ∷ [])) (asked_called identifier psm own rest later))

pub none-asked : NoneIsCalled → (policy : Policy) (list : List Occurrence) → requests_for list ≡ 0 → (identifier psm own : ℕ) → HasAsked identifier psm own (run_of policy list).said → ⊥
none-asked none policy list nothing identifier psm own asked =
    subst (StandsIn (own_call identifier psm own)) (none policy list (no-channel list nothing)) (asked_called identifier psm own (run_of policy list).said asked)

-- ---- an endpoint that was granted

record Grant (mine theirs : List Saying) (own : ℕ) : Type 0 where
  identifier : ℕ
  status : ℕ
  psm : ℕ
  peer : ℕ
  granted : HasGranted identifier status own peer mine
  asked : HasAsked identifier psm peer theirs
  high : 0x0040 ≤ peer

module _ (belong : ChannelsBelong) (single : GrantsAreSingle) (none : NoneIsCalled) (near far : Policy) (turns : List Turn) (one other : List Occurrence) (Fits : ℕ → List Call → Bool) (read : AreRead near far turns) (near_is : (pair_of near far turns).near.run ≡ run_of near one)
    (far_is : (pair_of near far turns).far.run ≡ run_of far other) (offers_none : (psm : ℕ) → near.offers psm ≡ false) (few : requests_for one ≤ 14) (nothing : requests_for other ≡ 0) (one_by_one : AreOneByOne Fits (calls_that_went Into (run_of far other).said)) where
  all : Since far no_channels (below far []) (run_of far other).said (run_of far other).value
  all = since far [] other (each-nothing [] other nothing)

  grant : (own : ℕ) → 0x0040 ≤ own → own < (run_of far other).value.next → Grant (run_of far other).said (run_of near one).said own
  grant own high low = from (all.placed own high low)
    where
      at : (channel : Channel) → 0x0040 ≤ channel.peer → channel.own ≡ own → Belongs (run_of far other).said (run_of near one).said channel → Grant (run_of far other).said (run_of near one).said own
      at channel far_high own_is (identifier, status, inl (granted, asked)) =
          record { identifier = identifier; status = status; psm = channel.psm; peer = channel.peer; granted = subst (λ n. HasGranted identifier status n channel.peer (run_of far other).said) own_is granted; asked = asked; high = far_high }
      at channel far_high own_is (identifier, status, inr (asked, granted)) = absurd (none-asked none far other nothing identifier channel.psm channel.own asked)

      by : (channel : Channel) → 0x0040 ≤ channel.peer → (found : Option Entry) → read_at own (reading (run_of far other).said).entries ≡ found → IsOf channel found → Grant (run_of far other).said (run_of near one).said own
      by channel far_high None is of = elim of [ ]
      by channel far_high (Some entry) is of =
          let there : read_at own (reading (pair_of near far turns).far.run.said).entries ≡ Some entry = ap (λ (r : Run). read_at own (reading r.said).entries) far_is ∙ is in
          let belongs = belong near far turns read Far own entry there in
          at channel far_high (ap (λ (c : Channel). c.own) (sym of) ∙ read-own own (reading (run_of far other).said).entries entry is)
          (subst (Belongs (run_of far other).said (run_of near one).said) of
          (subst (λ (r : Run). Belongs r.said (run_of near one).said entry.channel) far_is (subst (λ (r : Run). Belongs (pair_of near far turns).far.run.said r.said entry.channel) near_is belongs)))

      from : IsPlaced own (run_of far other).said → Grant (run_of far other).said (run_of near one).said own
      from (channel, far_high, of) = by channel far_high (read_at own (reading (run_of far other).said).entries) refl of

  bestows : Bestows (run_of near one).said (run_of near one).value
  bestows = conversed-knowing near (λ v. Unit {0}) Bestows (converses near) first-bestows one

  -- the peer has two endpoints for it
  of_two : (n : ℕ) → 0x0040 ≤ n → n < 66 → (n ≡ 64) ⊎ (n ≡ 65)
  of_two n high low = by (nat_lt 64 n) refl
    where
      by : (more : Bool) → nat_lt 64 n ≡ more → (n ≡ 64) ⊎ (n ≡ 65)
      by true is = let above = ltb-true 64 n is in inr (omega (arith, above, low))
      by false is = let under = ltb-false 64 n is in inl (omega (arith, under, high))

  low_peer : (own : ℕ) (it : Grant (run_of far other).said (run_of near one).said own) → (it.peer ≡ 64) ⊎ (it.peer ≡ 65)
  low_peer own it =
      let under = bestows.asks.under it.identifier it.psm it.peer it.asked in
      let most = next-few near offers_none one in
      of_two it.peer it.high (omega (arith, under, most, few))

  same_own : (own second : ℕ) (it : Grant (run_of far other).said (run_of near one).said own) (also : Grant (run_of far other).said (run_of near one).said second) → it.peer ≡ also.peer → own ≡ second
  same_own own second it also same =
      single far other Fits one_by_one it.identifier it.status own also.identifier also.status second also.peer (subst (λ n. HasGranted it.identifier it.status own n (run_of far other).said) same it.granted) also.granted

  -- of three two would be for one
  never_three : 66 < (run_of far other).value.next → ⊥
  never_three more = by (low_peer 64 a) (low_peer 65 b) (low_peer 66 c)
    where
      a : Grant (run_of far other).said (run_of near one).said 64
      a = grant 64 (omega arith) (omega (arith, more))

      b : Grant (run_of far other).said (run_of near one).said 65
      b = grant 65 (omega arith) (omega (arith, more))

      c : Grant (run_of far other).said (run_of near one).said 66
      c = grant 66 (omega arith) (omega (arith, more))

      by : (a.peer ≡ 64) ⊎ (a.peer ≡ 65) → (b.peer ≡ 64) ⊎ (b.peer ≡ 65) → (c.peer ≡ 64) ⊎ (c.peer ≡ 65) → ⊥
      by (inl x) (inl y) z = let same = same_own 64 65 a b (x ∙ sym y) in omega (arith, same)
      by (inr x) (inr y) z = let same = same_own 64 65 a b (x ∙ sym y) in omega (arith, same)
      by (inl x) (inr y) (inl z) = let same = same_own 64 66 a c (x ∙ sym z) in omega (arith, same)
      by (inl x) (inr y) (inr z) = let same = same_own 65 66 b c (y ∙ sym z) in omega (arith, same)
      by (inr x) (inl y) (inl z) = let same = same_own 65 66 b c (y ∙ sym z) in omega (arith, same)
      by (inr x) (inl y) (inr z) = let same = same_own 64 66 a c (x ∙ sym z) in omega (arith, same)

  two : (run_of far other).value.next ≤ 66
  two = by (nat_lt 66 (run_of far other).value.next) refl
    where
      by : (more : Bool) → nat_lt 66 (run_of far other).value.next ≡ more → (run_of far other).value.next ≤ 66
      by true is = absurd (never_three (ltb-true 66 (run_of far other).value.next is))
      by false is = ltb-false 66 (run_of far other).value.next is

pub two-are_granted : ChannelsBelong → GrantsAreSingle → NoneIsCalled → TwoAreGranted
two-are_granted belong single none near far turns one other Fits read near_is far_is offers_none few nothing one_by_one = two belong single none near far turns one other Fits read near_is far_is offers_none few nothing one_by_one
