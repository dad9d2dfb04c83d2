-- What comes over a basic channel that two hosts have in common is what was sent, some of it left out and some repeated.
use Rattle.std.proofs.Common.{◌≡◌, ℕ, ◌+◌, List, [], ◌∷◌, ◌++◌, map, drop, Bool, true, false, cond, ◌||◌, Option, Some, None, refl, sym, ap, subst, ◌∙◌, ◌⊎◌, inl, inr, append_assoc, append-nil}
use Rattle.std.specs.Prelude.{option_to_list, replicate}
use Rattle.std.specs.List.{list_any}
use Rattle.std.proofs.lemmas.Grind.{replicate_next}
use Rattle.std.proofs.lemmas.List.{map-append}
use Rattle.std.proofs.lemmas.List.Elements.{filter_map-append}
use Rattle.own_channel_laws.specs.talk_laws.specs.capture.specs.declared.flow.Flow.TheVariants.{Out, Into}
use Rattle.own_channel_laws.specs.talk_laws.specs.l2cap_config.specs.declared.wish.Agreed.{Agreed}
use Rattle.own_channel_laws.specs.talk_laws.specs.l2cap_config.specs.declared.wish.Mode.TheVariants.{Basic}
use Rattle.own_channel_laws.specs.talk_laws.specs.l2cap_config.specs.declared.wish.Wish.{Wish}
use Rattle.own_channel_laws.specs.talk_laws.specs.link_talk.specs.declared.channel.Channel.{Channel}
use Rattle.own_channel_laws.specs.talk_laws.specs.link_talk.specs.Sayings.{Saying, Carried}
use Rattle.own_channel_laws.specs.talk_laws.specs.link_talk.specs.Sayings as sayings
use Rattle.own_channel_laws.specs.talk_laws.specs.link_talk.specs.Channels.{reading}
use Rattle.own_channel_laws.specs.talk_laws.specs.link_talk.specs.Carriages.{is_passed, is_on, taker, carried, passages, pdus_of}
use Rattle.own_channel_laws.specs.talk_laws.specs.link_talk.proofs.Growing.{passages-grow}
use Rattle.own_channel_laws.specs.channel_model.specs.Value.{Carrier, Plain, Retransmitting}
use Rattle.own_channel_laws.specs.channel_model.specs.Policies.{Policy}
use Rattle.own_channel_laws.specs.channel_model.proofs.Going.{IsAccepted, CarrierGoes}
use Rattle.channel_laws.specs.Arrivals.{Arrives}
use Rattle.own_channel_laws.proofs.Keeping.{OfCarrier, Keeps}
use Rattle.own_channel_laws.proofs.Attending.{IsNew, new-carrier}
use Rattle.own_channel_laws.proofs.Signalling.{is_carried, IsBare}

-- ---- what comes

none_arrives : {X : Type 0} (sent : List X) → Arrives [] sent
none_arrives [] = refl
none_arrives (x ∷ sent) = (0, [], refl, none_arrives sent)

-- more was sent
pub arrives-more : {X : Type 0} (came sent more : List X) → Arrives came sent → Arrives came (sent ++ more)
arrives-more came [] more is = subst (λ c. Arrives c more) (sym is) (none_arrives more)
arrives-more came (x ∷ sent) more (times, rest, is, arrives) = (times, rest, is, arrives-more rest sent more arrives)

-- the last comes once more
pub arrives-again : {X : Type 0} (came sent : List X) (x : X) → Arrives came (sent ++ x ∷ []) → Arrives (came ++ x ∷ []) (sent ++ x ∷ [])
arrives-again came [] x (times, rest, is, none) =
    (times + 1, [], ap (λ c. c ++ x ∷ []) (is ∙ (ap (λ r. replicate times x ++ r) none ∙ append-nil (replicate times x))) ∙ (sym (replicate_next times x) ∙ sym (append-nil (replicate (times + 1) x))), refl)
arrives-again came (y ∷ sent) x (times, rest, is, arrives) = (times, rest ++ x ∷ [], ap (λ c. c ++ x ∷ []) is ∙ append_assoc (replicate times y) rest (x ∷ []), arrives-again rest sent x arrives)

-- ---- what waits with the host that sends

-- an SDU that was taken and not given waits, in basic mode, and none while the channel is not open
abbrev pub Waits : List (List ℕ) → OfCarrier
Waits rest wish leaving opened None = rest ≡ []
Waits rest wish leaving opened (Some (Plain agreed waiting)) = (rest ≡ option_to_list waiting) × (opened ≡ false → waiting ≡ None)
Waits rest wish leaving opened (Some (Retransmitting machine)) = rest ≡ []

-- it stays
abbrev pub Stays : Carrier → Carrier → Type 0
Stays (Plain agreed waiting) (Plain agreed' waiting') = waiting' ≡ waiting
Stays (Plain agreed waiting) (Retransmitting machine) = ⊥
Stays (Retransmitting machine) (Plain agreed waiting) = ⊥
Stays (Retransmitting machine) (Retransmitting after) = Unit {0}

pub stays-same : (carrier : Carrier) → Stays carrier carrier
stays-same (Plain agreed waiting) = refl
stays-same (Retransmitting machine) = tt

new_waits : (rest : List (List ℕ)) (wish : Wish) (leaving opened : Bool) (carrier : Carrier) → IsAccepted wish carrier → rest ≡ [] → Waits rest wish leaving opened (Some carrier)
new_waits rest wish leaving opened carrier accepted none = by (new-carrier wish carrier accepted)
  where
    by : ((a : Agreed) × (carrier ≡ Plain a None) × (wish.mode ≡ Basic)) ⊎ ((a : Agreed) × IsNew wish a carrier) → Waits rest wish leaving opened (Some carrier)
    by (inl (a, is, basic)) = subst (λ c. Waits rest wish leaving opened (Some c)) (sym is) (none, λ shut. refl)
    by (inr (a, made)) = subst (λ c. Waits rest wish leaving opened (Some c)) (sym made.is) none

still_waits : (rest : List (List ℕ)) (wish : Wish) (leaving opened opened' : Bool) (before after : Carrier) → (opened' ≡ false → opened ≡ false) → Stays before after → Waits rest wish leaving opened (Some before) → Waits rest wish leaving opened' (Some after)
still_waits rest wish leaving opened opened' (Plain a waiting) (Plain b waiting') shut same (is, none) = (is ∙ ap option_to_list (sym same), λ now. same ∙ none (shut now))
still_waits rest wish leaving opened opened' (Plain a waiting) (Retransmitting m) shut same was = elim same [ ]
still_waits rest wish leaving opened opened' (Retransmitting m) (Plain b waiting) shut same was = elim same [ ]
still_waits rest wish leaving opened opened' (Retransmitting m) (Retransmitting after) shut same was = was

shut_waits : (rest : List (List ℕ)) (wish : Wish) (leaving opened : Bool) (carrier : Carrier) → opened ≡ false → Waits rest wish leaving opened (Some carrier) → rest ≡ []
shut_waits rest wish leaving opened (Plain a waiting) shut (is, none) = is ∙ ap option_to_list (none shut)
shut_waits rest wish leaving opened (Retransmitting m) shut is = is

goes_wait : (rest : List (List ℕ)) (wish : Wish) (leaving opened opened' : Bool) (before after : Option Carrier) → (opened' ≡ false → opened ≡ false) → CarrierGoes wish Stays opened before after → Waits rest wish leaving opened before → Waits rest wish leaving opened' after
goes_wait rest wish leaving opened opened' None None shut goes was = was
goes_wait rest wish leaving opened opened' None (Some after) shut goes was = new_waits rest wish leaving opened' after goes was
goes_wait rest wish leaving opened opened' (Some before) None shut goes was = elim goes [ ]
goes_wait rest wish leaving opened opened' (Some before) (Some after) shut (inl goes) was = still_waits rest wish leaving opened opened' before after shut goes was
goes_wait rest wish leaving opened opened' (Some before) (Some after) shut (inr (closed, accepted)) was = new_waits rest wish leaving opened' after accepted (shut_waits rest wish leaving opened before closed was)

leaves_wait : (rest : List (List ℕ)) (wish : Wish) (opened : Bool) (carrier : Option Carrier) → Waits rest wish false opened carrier → Waits rest wish true opened carrier
leaves_wait rest wish opened None was = was
leaves_wait rest wish opened (Some (Plain a waiting)) was = was
leaves_wait rest wish opened (Some (Retransmitting m)) was = was

-- of the channel of one own endpoint
abbrev pub WaitsAt : (own : ℕ) → List (List ℕ) → ℕ → OfCarrier
WaitsAt own rest other wish leaving opened carrier = other ≡ own → Waits rest wish leaving opened carrier

pub keeps-waits : (policy : Policy) (own : ℕ) (rest : List (List ℕ)) → Keeps policy Stays (WaitsAt own rest)
keeps-waits policy own rest = record {
  same = stays-same;
  goes = λ other psm leaving opened opened' before after shut goes was same. goes_wait rest (policy.wish psm) leaving opened opened' before after shut goes (was same);
  leaves = λ other psm opened carrier was same. leaves_wait rest (policy.wish psm) opened carrier (was same);
}

-- ---- what was sent

-- the SDUs that a host said on a channel
abbrev pub sent_on : Channel → List Saying → List (List ℕ)
sent_on channel said = map (drop 4) (pdus_of Out (passages channel said))

pub sent-more : (channel : Channel) (past : List Saying) (more : Saying) → sent_on channel (past ++ more ∷ []) ≡ sent_on channel past ++ map (drop 4) (pdus_of Out (carried is_passed channel past more))
sent-more channel past more =
    ap (λ cs. map (drop 4) (pdus_of Out cs)) (passages-grow channel past more)
    ∙ (ap (map (drop 4)) (filter_map-append _ (passages channel past) (carried is_passed channel past more)) ∙ map-append (drop 4) (pdus_of Out (passages channel past)) (pdus_of Out (carried is_passed channel past more)))

sent_none : (channel : Channel) (past : List Saying) (more : Saying) → pdus_of Out (carried is_passed channel past more) ≡ [] → sent_on channel (past ++ more ∷ []) ≡ sent_on channel past
sent_none channel past more none = sent-more channel past more ∙ (ap (λ ps. sent_on channel past ++ map (drop 4) ps) none ∙ append-nil (sent_on channel past))

pub sent-elsewhere : (channel : Channel) (past : List Saying) (more : Saying) → carried is_passed channel past more ≡ [] → sent_on channel (past ++ more ∷ []) ≡ sent_on channel past
sent-elsewhere channel past more none = sent_none channel past more (ap (pdus_of Out) none)

pub sent-heard : (channel : Channel) (past : List Saying) (pdu : List ℕ) → sent_on channel (past ++ Carried Into pdu ∷ []) ≡ sent_on channel past
sent-heard channel past pdu = sent_none channel past (Carried Into pdu) (by (is_on channel (taker is_passed Into pdu (reading past).entries)))
  where
    by : (b : Bool) → pdus_of Out (cond b (record { flow = Into; pdu = pdu } ∷ []) []) ≡ []
    by true = refl
    by false = refl

both_false : (a b : Bool) → (a || b) ≡ false → (a ≡ false) × (b ≡ false)
both_false true b is = cc
both_false false b is = (refl, is)

bare_one : (channel : Channel) (past : List Saying) (more : Saying) → is_carried more ≡ false → sent_on channel (past ++ more ∷ []) ≡ sent_on channel past
bare_one channel past (sayings.Command flow answer) bare = sent_none channel past (sayings.Command flow answer) refl
bare_one channel past (Carried flow pdu) bare = cc
bare_one channel past (sayings.GaveUp forgone) bare = sent_none channel past (sayings.GaveUp forgone) refl

pub sent-bare : (channel : Channel) (said past : List Saying) → IsBare said → sent_on channel (past ++ said) ≡ sent_on channel past
sent-bare channel [] past bare = ap (sent_on channel) (append-nil past)
sent-bare channel (more ∷ said) past bare =
    let parts = both_false (is_carried more) (list_any is_carried said) bare in
    sym (ap (sent_on channel) (append_assoc past (more ∷ []) said)) ∙ (sent-bare channel said (past ++ more ∷ []) parts.1 ∙ bare_one channel past more parts.0)
