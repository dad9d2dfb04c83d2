-- What a host asks of its channels from some moment on, where its profile asks for none and for no features: so many identifiers as it grants channels, and requests for ends that are new.
use Rattle.std.proofs.Common.{◌≡◌, ℕ, ◌+◌, ◌*◌, ◌<◌, ◌≤◌, List, [], ◌∷◌, ◌++◌, Bool, true, false, cond, eqb, not, Option, Some, None, Ok, refl, sym, ap, subst, ◌∙◌, arith}
use Rattle.std.specs.Prelude.{find, length, nat_le, nat_lt}
use Rattle.std.specs.List.{list_any}
use Rattle.std.proofs.lemmas.Bool.{ltb-true, ltb-false}
use Rattle.channel_laws.specs.acl_fragments.specs.Pieces.{channel_of}
use Rattle.channel_laws.specs.l2cap_signal.specs.Commands.{Content, reject, connection_request, connection_response, configuration_request, configuration_response, disconnection_request, disconnection_response, echo_request, echo_response, information_request, information_response}
use Rattle.channel_laws.specs.link_talk.specs.declared.channel.Channel.{Channel}
use Rattle.channel_laws.specs.link_talk.specs.Channels.{Entry, reading}
use Rattle.channel_laws.specs.link_talk.specs.Sayings.{Saying, Carried}
use Rattle.channel_laws.specs.capture.specs.declared.flow.Flow.TheVariants.{Into}
use Rattle.channel_laws.specs.channel_model.specs.declared.errand.Errand.TheVariants as errands
use Rattle.channel_laws.specs.channel_model.specs.declared.event.ChannelEvent.TheVariants.{Features}
use Rattle.channel_laws.specs.channel_model.specs.Answers.{connection_result}
use Rattle.channel_laws.specs.channel_model.specs.Asking.{StillDue, OnceMore, Spent}
use Rattle.channel_laws.specs.channel_model.specs.Carrying.{takes}
use Rattle.channel_laws.specs.channel_model.specs.Changing.{has_own, has_peer, held_at, is_due, forgets, tells}
use Rattle.channel_laws.specs.channel_model.specs.Following.{with_channel, follows}
use Rattle.channel_laws.specs.channel_model.specs.Hearing.{hears_content}
use Rattle.channel_laws.specs.channel_model.specs.Policies.{Policy}
use Rattle.channel_laws.specs.channel_model.specs.Responses.{has_identifier, hears_features, features_in}
use Rattle.channel_laws.specs.channel_model.specs.Timing.{fires, loses_features, times_held, times_end, times_features}
use Rattle.channel_laws.specs.channel_model.specs.Value.{Request, no_setup, Connected, Held, Channels}
use Rattle.channel_laws.specs.channel_model.proofs.Going.{new_held}
use Rattle.channel_laws.specs.channel_model.proofs.Lookups.{own_of, Distinct}
use Rattle.channel_laws.specs.Connections.{requests_by}
use Rattle.channel_laws.specs.Endpoints.{IsOf}
use Rattle.channel_laws.specs.OwnTalk.{command_with, command_if, exchanged, asked_between}
use Rattle.channel_laws.specs.Runs.{Occurrence, Comes, Connects, AsksFeatures, Disconnects, Sends, Gives, Fires, Tells, said_on_firing, said_by_features, said_in, value_after}
use Rattle.channel_laws.specs.Views.{read_at}
use Rattle.channel_laws.proofs.Bestowing.{still_of}
use Rattle.channel_laws.proofs.Converses.{IsAlike, is_single, ConversesWhile}
use Rattle.channel_laws.proofs.Identifiers.{all_left, append-left, Spends, both-spend, still-spends, same-spends, configuration-spends, disconnection-spends, grant-spends, response-spends, end-spends, features-spend, taken-held}
use Rattle.channel_laws.proofs.Identifying.{held_spends, ended_spends, asked_features_spend, left_held, sent_held, queue_spends}
use Rattle.channel_laws.proofs.Inviting.{held_here}
use Rattle.channel_laws.proofs.Placing.{is_call, follows-next, responds-next, takes-next, times-next, timed-end-next, features-next, single-next}
use Rattle.channel_laws.proofs.Replying.{is_response}
use Rattle.channel_laws.proofs.Sound.{ReadsBy, Reads, Sound}
use Rattle.identifier_laws.proofs.Ending.{AllFit, Goes, still-fits, made-fits, configuration-fits, disconnection-fits, grant-fits, response-fits, end-fits, taken-fits, timed-fits, ended-fits, left-fits, sent-fits, queue-fits}

-- ---- identifiers

-- those that were taken, with those that may still be taken for the channels that are there
abbrev pub spent : Channels → ℕ
spent v = v.identifier + all_left v.held

-- a channel is read for an endpoint of the peer that a channel can have
abbrev pub IsPlaced : ℕ → List Saying → Type 0
IsPlaced own said = (channel : Channel) × (0x0040 ≤ channel.peer) × IsOf channel (read_at own (reading said).entries)

abbrev pub AsksNothing : List Saying → Occurrence → Channels → Type 0
AsksNothing past more v = requests_by more ≡ 0

-- ---- what leaves the channels as they are

features_held : (tries : ℕ) (v : Channels) (features : Option Request) → (times_features features tries v).held ≡ v.held
features_held tries v None = refl
features_held tries v (Some request) = by (is_due errands.Features v) (nat_le tries request.given)
  where
    by : (due most : Bool) → (fires (cond due StillDue (cond most Spent OnceMore)) errands.Features loses_features v).held ≡ v.held
    by true most = refl
    by false true = refl
    by false false = refl

told_held : (identifier : ℕ) (given : Option ℕ) (v : Channels) → (hears_features identifier given v).held ≡ v.held
told_held identifier given v = by (has_identifier identifier v.features)
  where
    by : (b : Bool) → (cond b (tells (Features given) (forgets errands.Features (record v { features = None }))) v).held ≡ v.held
    by true = refl
    by false = refl

-- why a channel is granted
granted_so : (a b c d e : Bool) → eqb (cond a 2 (cond b 4 (cond c 4 (cond d 6 (cond e 7 0))))) 0 ≡ true → (a ≡ false) × (d ≡ false)
granted_so true b c d e is = cc
granted_so false true c d e is = cc
granted_so false false true d e is = cc
granted_so false false false true e is = cc
granted_so false false false false true is = cc
granted_so false false false false false is = (refl, refl)

granted_by : (policy : Policy) (psm source : ℕ) (u : Channels) → eqb (connection_result policy psm source u) 0 ≡ true → (not (policy.offers psm) ≡ false) × (nat_lt source 0x0040 ≡ false)
granted_by policy psm source u is = granted_so (not (policy.offers psm)) (nat_le 4 (length u.held)) (nat_lt 0xFFFF u.next) (nat_lt source 0x0040) (list_any (has_peer source) u.held) is

-- ---- from one moment on

module _ (policy : Policy) (base : Channels) (below : (own : ℕ) → base.next ≤ own → held_at own base ≡ None) where
  pub record Since (past : List Saying) (v : Channels) : Type 0 where
    pub next : base.next ≤ v.next
    pub few : spent v + 4 * base.next ≤ spent base + 4 * v.next
    pub rises : spent base + 4 * v.next ≤ 255 + 4 * base.next → base.identifier ≤ v.identifier
    pub fits : spent base + 4 * v.next ≤ 255 + 4 * base.next → AllFit base v
    pub placed : (own : ℕ) → base.next ≤ own → own < v.next → IsPlaced own past
    pub refuses : ((psm : ℕ) → policy.offers psm ≡ false) → v.next ≡ base.next

  still_placed : (past said : List Saying) (own : ℕ) → IsPlaced own past → IsPlaced own (past ++ said)
  still_placed past said own (channel, high, of) = (channel, high, still_of past said own channel of)

  -- no channel comes to be
  step : (past said : List Saying) (v w : Channels) → Distinct own_of v.held → Spends v w → Goes base v w → w.next ≡ v.next → Since past v → Since (past ++ said) w
  step past said v w lone spends goes next_is since = record {
    next = let before = since.next in omega (arith, before, next_is);
    few = let before = since.few in let less = (spends lone).less in omega (arith, before, less, next_is);
    rises = λ few. let low = earlier few in let up = since.rises low in let before = since.few in let now = (spends lone).rises (omega (arith, low, before)) in omega (arith, up, now);
    fits = λ few. goes (since.rises (earlier few)) (since.fits (earlier few));
    placed = λ own high low. still_placed past said own (since.placed own high (subst (λ n. own < n) next_is low));
    refuses = λ none. next_is ∙ since.refuses none;
  }
    where
      earlier : spent base + 4 * w.next ≤ 255 + 4 * base.next → spent base + 4 * v.next ≤ 255 + 4 * base.next
      earlier few = omega (arith, few, next_is)

  alike_spends : (v u : Channels) → IsAlike v u → Spends v u
  alike_spends v u alike = still-spends v u alike.held_is alike.identifier_is alike.features_is

  -- a channel that is granted
  made : (past said : List Saying) (v u : Channels) (psm source : ℕ) → IsAlike v u → Sound policy (reading past) v → eqb (connection_result policy psm source u) 0 ≡ true
      → (let w : Channels = with_channel psm (Connected source no_setup) u in Sound policy (reading (past ++ said)) w → Since past v → Since (past ++ said) w)
  made past said v u psm source alike sound zero after since = record {
    next = let before = since.next in let same = alike.next_is in omega (arith, before, same);
    few = let before = since.few in let same = alike.next_is in let named = alike.identifier_is in let left : all_left u.held ≡ all_left v.held = ap all_left alike.held_is in let more = append-left u.held new in omega (arith, before, same, named, left, more);
    rises = λ few. let up = since.rises (earlier few) in let named = alike.identifier_is in omega (arith, up, named);
    fits = λ few.
        let up : base.identifier ≤ u.identifier = subst (λ n. base.identifier ≤ n) (sym alike.identifier_is) (since.rises (earlier few)) in
        made-fits base below u w new refl refl (subst (λ n. base.next ≤ n) (sym alike.next_is) since.next) up (still-fits base v u alike.held_is (since.rises (earlier few)) (since.fits (earlier few)));
    placed = λ own high low. placed own high low (nat_lt own v.next) refl;
    refuses = λ none. let never : true ≡ false = sym (ap not (none psm)) ∙ (granted_by policy psm source u zero).0 in cc;
  }
    where
      w : Channels
      w = with_channel psm (Connected source no_setup) u

      new : Held
      new = new_held psm u.next (Connected source no_setup)

      earlier : spent base + 4 * w.next ≤ 255 + 4 * base.next → spent base + 4 * v.next ≤ 255 + 4 * base.next
      earlier few = let same = alike.next_is in omega (arith, few, same)

      found : held_at u.next w ≡ Some new
      found = held_here u.held new (subst (λ n. find (has_own n) u.held ≡ None) (sym alike.next_is) (ap (find (has_own v.next)) alike.held_is ∙ sound.core.held_below v.next (omega arith)))

      here : (entry : Option Entry) → read_at u.next (reading (past ++ said)).entries ≡ entry → ReadsBy policy new (Some source) entry → (channel : Channel) × (0x0040 ≤ channel.peer) × IsOf channel entry
      here None is reads = elim reads [ ]
      here (Some entry) is reads = (entry.channel, subst (λ n. 0x0040 ≤ n) (sym (ap (λ (c : Channel). c.peer) reads.0.channel_is)) (ltb-false source 0x0040 (granted_by policy psm source u zero).1), refl)

      placed : (own : ℕ) → base.next ≤ own → own < w.next → (old : Bool) → nat_lt own v.next ≡ old → IsPlaced own (past ++ said)
      placed own high low true is = still_placed past said own (since.placed own high (ltb-true own v.next is))
      placed own high low false is =
          let above : v.next ≤ own = ltb-false own v.next is in
          let same : u.next ≡ own = let alike' = alike.next_is in omega (arith, low, above, alike') in
          let (channel, far, of) = here (read_at u.next (reading (past ++ said)).entries) refl (subst (λ (h : Option Held). Reads policy h (read_at u.next (reading (past ++ said)).entries)) found (after.core.reads u.next)) in
          (channel, far, subst (λ n. IsOf channel (read_at n (reading (past ++ said)).entries)) same of)

  -- ---- a request of the peer

  follows_spend : (content : Content) (u : Channels) → is_call content ≡ false → Spends u (follows policy content u)
  follows_spend (reject reason rest) u is = same-spends u
  follows_spend (connection_request psm source) u is = cc
  follows_spend (connection_response destination source answer status) u is = same-spends u
  follows_spend (configuration_request destination flags options) u is = configuration-spends u destination (held_at destination u) policy flags options refl
  follows_spend (configuration_response source flags answer options) u is = same-spends u
  follows_spend (disconnection_request destination source) u is = disconnection-spends u destination (held_at destination u) source refl
  follows_spend (disconnection_response destination source) u is = same-spends u
  follows_spend (echo_request octets) u is = same-spends u
  follows_spend (echo_response octets) u is = same-spends u
  follows_spend (information_request kind) u is = same-spends u
  follows_spend (information_response kind answer rest) u is = same-spends u

  follows_fits : (content : Content) (u : Channels) → is_call content ≡ false → Goes base u (follows policy content u)
  follows_fits (reject reason rest) u is = still-fits base u u refl
  follows_fits (connection_request psm source) u is = cc
  follows_fits (connection_response destination source answer status) u is = still-fits base u u refl
  follows_fits (configuration_request destination flags options) u is = configuration-fits base u destination (held_at destination u) policy flags options refl
  follows_fits (configuration_response source flags answer options) u is = still-fits base u u refl
  follows_fits (disconnection_request destination source) u is = disconnection-fits base u destination (held_at destination u) source refl
  follows_fits (disconnection_response destination source) u is = still-fits base u u refl
  follows_fits (echo_request octets) u is = still-fits base u u refl
  follows_fits (echo_response octets) u is = still-fits base u u refl
  follows_fits (information_request kind) u is = still-fits base u u refl
  follows_fits (information_response kind answer rest) u is = still-fits base u u refl

  asked_step : (past said : List Saying) (v u : Channels) (content : Content) → IsAlike v u → Sound policy (reading past) v → Since past v → Sound policy (reading (past ++ said)) (follows policy content u) → Since (past ++ said) (follows policy content u)
  asked_step past said v u content alike sound since = by (is_call content) refl
    where
      called : (psm source : ℕ) (zero : Bool) → eqb (connection_result policy psm source u) 0 ≡ zero → (let w : Channels = cond zero (with_channel psm (Connected source no_setup) u) u in Sound policy (reading (past ++ said)) w → Since (past ++ said) w)
      called psm source true is after = made past said v u psm source alike sound is after since
      called psm source false is after = step past said v u sound.core.lone (alike_spends v u alike) (still-fits base v u alike.held_is) alike.next_is since

      calls : (c : Content) → is_call c ≡ true → Sound policy (reading (past ++ said)) (follows policy c u) → Since (past ++ said) (follows policy c u)
      calls (reject reason rest) is = cc
      calls (connection_request psm source) is = called psm source (eqb (connection_result policy psm source u) 0) refl
      calls (connection_response destination source answer status) is = cc
      calls (configuration_request destination flags options) is = cc
      calls (configuration_response source flags answer options) is = cc
      calls (disconnection_request destination source) is = cc
      calls (disconnection_response destination source) is = cc
      calls (echo_request octets) is = cc
      calls (echo_response octets) is = cc
      calls (information_request kind) is = cc
      calls (information_response kind answer rest) is = cc

      by : (call : Bool) → is_call content ≡ call → Sound policy (reading (past ++ said)) (follows policy content u) → Since (past ++ said) (follows policy content u)
      by true is after = calls content is after
      by false is after =
          let w : Channels = follows policy content u in
          step past said v w sound.core.lone (both-spend v u w (alike_spends v u alike) (follows_spend content u is))
          (λ rises all. follows_fits content u is (subst (λ n. base.identifier ≤ n) (sym alike.identifier_is) rises) (still-fits base v u alike.held_is rises all)) (follows-next policy content u is ∙ alike.next_is) since

  -- ---- a response of the peer

  responds_spend : (identifier : ℕ) (content : Content) (v : Channels) → is_response content ≡ true → Spends v (hears_content policy identifier content v)
  responds_spend identifier (reject reason rest) v is = features-spend v identifier None
  responds_spend identifier (connection_request psm source) v is = cc
  responds_spend identifier (connection_response destination source answer status) v is = grant-spends v source (held_at source v) policy identifier destination answer refl
  responds_spend identifier (configuration_request destination flags options) v is = cc
  responds_spend identifier (configuration_response source flags answer options) v is = response-spends v source (held_at source v) policy identifier answer options refl
  responds_spend identifier (disconnection_request destination source) v is = cc
  responds_spend identifier (disconnection_response destination source) v is = end-spends v (held_at source v) destination
  responds_spend identifier (echo_request octets) v is = cc
  responds_spend identifier (echo_response octets) v is = same-spends v
  responds_spend identifier (information_request kind) v is = cc
  responds_spend identifier (information_response kind answer rest) v is = features-spend v identifier (features_in kind answer rest)

  responds_fits : (identifier : ℕ) (content : Content) (v : Channels) → is_response content ≡ true → Goes base v (hears_content policy identifier content v)
  responds_fits identifier (reject reason rest) v is = still-fits base v (hears_features identifier None v) (told_held identifier None v)
  responds_fits identifier (connection_request psm source) v is = cc
  responds_fits identifier (connection_response destination source answer status) v is = grant-fits base v source (held_at source v) policy identifier destination answer refl
  responds_fits identifier (configuration_request destination flags options) v is = cc
  responds_fits identifier (configuration_response source flags answer options) v is = response-fits base v source (held_at source v) policy identifier answer options refl
  responds_fits identifier (disconnection_request destination source) v is = cc
  responds_fits identifier (disconnection_response destination source) v is = end-fits base v (held_at source v) destination
  responds_fits identifier (echo_request octets) v is = cc
  responds_fits identifier (echo_response octets) v is = still-fits base v v refl
  responds_fits identifier (information_request kind) v is = cc
  responds_fits identifier (information_response kind answer rest) v is = let given : Option ℕ = features_in kind answer rest in still-fits base v (hears_features identifier given v) (told_held identifier given v)

  -- ---- what the host does by itself

  single_step : (past : List Saying) (v : Channels) (more : Occurrence) → is_single more ≡ true → requests_by more ≡ 0 → Sound policy (reading past) v → Since past v → Since (past ++ said_in policy more v) (value_after policy more v)
  single_step past v (Comes pdu) is none sound since = cc
  single_step past v (Connects psm) is none sound since = absurd (omega (arith, none))
  single_step past v AsksFeatures is none sound since = absurd (omega (arith, none))
  single_step past v (Disconnects own) is none sound since =
      step past (said_in policy (Disconnects own) v) v (value_after policy (Disconnects own) v) sound.core.lone (left_held v own (held_at own v) refl) (left-fits base v own (held_at own v) refl) (single-next policy (Disconnects own) v refl tt) since
  single_step past v (Sends own sdu) is none sound since =
      step past (said_in policy (Sends own sdu) v) v (value_after policy (Sends own sdu) v) sound.core.lone (sent_held v own (held_at own v) sdu refl) (sent-fits base v own (held_at own v) sdu refl) (single-next policy (Sends own sdu) v refl tt) since
  single_step past v (Gives pdu) is none sound since =
      step past (said_in policy (Gives pdu) v) v (value_after policy (Gives pdu) v) sound.core.lone (queue_spends v v.queue) (queue-fits base v v.queue sound.core.lone) (single-next policy (Gives pdu) v refl tt) since
  single_step past v Fires is none sound since = cc
  single_step past v Tells is none sound since = step past [] v (value_after policy Tells v) sound.core.lone (still-spends v (value_after policy Tells v) refl refl refl) (still-fits base v (value_after policy Tells v) refl) refl since

  -- ---- whatever happens

  pub since-goes : ConversesWhile policy AsksNothing (λ v. Unit {0}) Since
  since-goes = record {
    first = tt;
    kept = λ v more lone known. tt;
    asked = λ past v u one identifier response content asking reply alike waits grants sound since after. asked_step past (exchanged one (command_if identifier response) v ++ asked_between v (follows policy content u)) v u content alike sound since after;
    answered = λ past v identifier content is memory sound since after.
        let w : Channels = hears_content policy identifier content v in
        step past (exchanged (Ok (command_with identifier content)) None v ++ asked_between v w) v w sound.core.lone (responds_spend identifier content v is) (responds_fits identifier content v is) (responds-next policy identifier content v is) since;
    taken = λ past v pdu known memory sound since after.
        let w : Channels = takes (channel_of pdu) pdu v in
        step past (Carried Into pdu ∷ asked_between v w) v w sound.core.lone (taken-held v (channel_of pdu) (held_at (channel_of pdu) v) pdu refl) (taken-fits base v (channel_of pdu) (held_at (channel_of pdu) v) pdu refl) (takes-next (channel_of pdu) pdu v) since;
    waits = λ past v tries own memory sound since after.
        let w : Channels = times_held (held_at own v) tries v in
        step past (said_on_firing own v w) v w sound.core.lone (held_spends v own (held_at own v) tries refl) (timed-fits base v own (held_at own v) tries refl) (times-next (held_at own v) tries v) since;
    ends = λ past v tries own memory sound since after.
        let w : Channels = times_end (held_at own v) tries v in
        step past (said_on_firing own v w) v w sound.core.lone (ended_spends v (held_at own v) tries) (ended-fits base v (held_at own v) tries) (timed-end-next (held_at own v) tries v) since;
    loses = λ past v tries memory sound since after.
        let w : Channels = times_features v.features tries v in
        step past (said_by_features tries v) v w sound.core.lone (asked_features_spend v v.features tries) (still-fits base v w (features_held tries v v.features)) (features-next v.features tries v) since;
    single = λ past v more is none known memory sound since after. single_step past v more is none sound since;
  }
