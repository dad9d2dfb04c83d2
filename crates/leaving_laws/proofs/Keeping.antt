-- While a host leaves a channel no copy that waits of its request for the end is lost, but when it is given.
use Rattle.std.proofs.Common.{◌≡◌, ℕ, ◌+◌, ◌≤◌, List, [], ◌∷◌, ◌++◌, drop, Bool, true, false, cond, ◌||◌, eqb, not, Option, Some, None, Result, Ok, Err, refl, sym, ap, subst, ◌∙◌, arith}
use Rattle.std.specs.Prelude.{find, filter, map, option_map, is_some, nat_le}
use Rattle.std.specs.Option.{option_or}
use Rattle.channel_laws.specs.acl_fragments.specs.Pieces.{channel_of}
use Rattle.channel_laws.specs.l2cap_signal.specs.Commands.{Content, reject, connection_request, connection_response, configuration_request, configuration_response, disconnection_request, disconnection_response, echo_request, echo_response, information_request, information_response}
use Rattle.channel_laws.specs.l2cap_signal.specs.Reading.{Answer as Read, answers}
use Rattle.channel_laws.specs.l2cap_signal.specs.declared.refusal.SignalRefusal.TheVariants.{ZeroIdentifier, BadLength, UnknownCode, AboveMtu}
use Rattle.channel_laws.specs.l2cap_config.specs.declared.options.Options.{Options}
use Rattle.channel_laws.specs.l2cap_config.specs.declared.options.ConfigRefusal.{ConfigRefusal}
use Rattle.channel_laws.specs.l2cap_config.specs.declared.agreement.ConfigAnswer.{ConfigAnswer}
use Rattle.channel_laws.specs.l2cap_config.specs.declared.agreement.ConfigAnswer.TheVariants.{Accept, Unacceptable, Unknown}
use Rattle.channel_laws.specs.l2cap_config.specs.declared.agreement.Settled.{Settled}
use Rattle.channel_laws.specs.l2cap_config.specs.declared.agreement.Settled.TheVariants.{Accepted, Again, Wait, Never}
use Rattle.channel_laws.specs.l2cap_config.specs.declared.wish.Wish.{Wish}
use Rattle.channel_laws.specs.l2cap_config.specs.Reading.{options_read}
use Rattle.channel_laws.specs.l2cap_config.specs.Agreement.{settled}
use Rattle.channel_laws.specs.ertm_model.specs.declared.reason.ErtmReason.{ErtmReason}
use Rattle.channel_laws.specs.ertm_model.specs.Value.{Ertm}
use Rattle.channel_laws.specs.channel_model.specs.declared.errand.Errand.{Errand}
use Rattle.channel_laws.specs.channel_model.specs.declared.errand.Errand.TheVariants as errands
use Rattle.channel_laws.specs.channel_model.specs.declared.event.ChannelEvent.TheVariants.{Features}
use Rattle.channel_laws.specs.channel_model.specs.declared.event.CloseReason.{CloseReason}
use Rattle.channel_laws.specs.channel_model.specs.declared.event.CloseReason.TheVariants.{NoAgreement, Refused, OwnClosed}
use Rattle.channel_laws.specs.channel_model.specs.declared.request_kind.RequestKind.{RequestKind}
use Rattle.channel_laws.specs.channel_model.specs.declared.request_kind.RequestKind.TheVariants as kinds
use Rattle.channel_laws.specs.channel_model.specs.Value.{Request, Queued, Answer, Ask, Own, Unasked, Asking, Granted, Carrier, Plain, Retransmitting, Setup, no_setup, Stage, Requested, Connected, Leaving, Closing, Crossed, Held, Remembered, Channels}
use Rattle.channel_laws.specs.channel_model.specs.Policies.{Policy}
use Rattle.channel_laws.specs.channel_model.specs.Changing.{has_own, in_place_of, same_errand, is_about, has_fcs_by, held_at, is_peer, is_leaving, setup_of, stage_with, with_setup, to_setup, is_copy, is_copy_about, forgets, tells}
use Rattle.channel_laws.specs.channel_model.specs.Asking.{new_request, asks, first_options, asks_options}
use Rattle.channel_laws.specs.channel_model.specs.Closing.{closes, closes_at, peer_closes_at, ends, ends_at}
use Rattle.channel_laws.specs.channel_model.specs.Configuring.{Verdict, NoChannel, TooLate, Unreadable, Incomplete, Judged, verdict, accepted_setup, without_parts, accepts_with, refused_setup, follows_answer, follows_verdict, opens_if, granted_setup, grants}
use Rattle.channel_laws.specs.channel_model.specs.Answers.{connection_result, kind_of_code, remembered, not_understood, too_long, answer_to}
use Rattle.channel_laws.specs.channel_model.specs.Following.{with_channel, follows_setup, follows_configuration, follows_disconnection, follows, remembers, says, can_say, hears_new, hears_again, hears_kind}
use Rattle.channel_laws.specs.channel_model.specs.Responses.{is_fresh_endpoint, connects, hears_connected, hears_grant_at, hears_grant, renewed_setup, hears_settled, hears_options, is_asked, hears_response_on, hears_response, hears_end, has_identifier, hears_features, features_in}
use Rattle.channel_laws.specs.channel_model.specs.Hearing.{hears_content, hears_malformed, is_response_code, is_kind, hears_unread, hears_command, hears_commands}
use Rattle.channel_laws.specs.channel_model.specs.Carrying.{reason_of, settles_machine, machine_heard, read_by, carries, is_taken_with, shows, opens_with, takes_with, takes_on, takes_held, takes}
use Rattle.channel_laws.specs.channel_model.specs.Giving.{gives, carrier_given, carrier_spent, held_given}
use Rattle.channel_laws.specs.channel_model.specs.Calls.{can_connect, connected, asks_features, disconnected, sends, disconnected_at, disconnected_held, sends_setup, sends_on, sends_held}
use Rattle.channel_laws.specs.channel_model.proofs.Lookups.{found-placed, find-placed, find-gone, find-others, own_of, Distinct, find-append, found-distinct, eqb-away}
use Rattle.channel_laws.specs.channel_model.proofs.Going.{new_held, staged}
use Rattle.channel_laws.specs.channel_model.proofs.Walking.{found-own, with-found}
use Rattle.channel_laws.specs.channel_model.proofs.Calling.{granted-same}
use Rattle.channel_laws.specs.Runs.{Occurrence, Comes, Connects, AsksFeatures, Disconnects, Sends, Gives, Fires, Tells, value_after}
use Rattle.std.proofs.lemmas.Bool.{eqb-true}
use Rattle.channel_laws.specs.Tries.{copies, one_if, is_firing}
use Rattle.channel_laws.proofs.Spending.{same-is, is_giving}
use Rattle.channel_laws.proofs.Trying.{copies-append, copies-asked}

-- ---- copies that wait

-- those that pass are kept
copies_kept : (e : Errand) (passes : Queued → Bool) (queue : List Queued) → ((x : Queued) → is_copy e x ≡ true → passes x ≡ true) → copies e queue ≤ copies e (filter passes queue)
copies_kept e passes [] all = omega arith
copies_kept e passes (x ∷ queue) all = by (passes x) refl (is_copy e x) refl (copies_kept e passes queue all)
  where
    by : (pass : Bool) → passes x ≡ pass → (copy : Bool) → is_copy e x ≡ copy → copies e queue ≤ copies e (filter passes queue) → one_if (is_copy e x) + copies e queue ≤ copies e (cond pass (x ∷ filter passes queue) (filter passes queue))
    by true p copy c less = omega (arith, less)
    by false p true c less = let never : false ≡ true = sym p ∙ all x c in cc
    by false p false c less = let none : one_if (is_copy e x) ≡ 0 = ap one_if c in omega (arith, none, less)

-- of the request for the end of a channel
module _ (own : ℕ) where
  abbrev pub the_end : Errand
  the_end = errands.Disconnection own

  -- another request is forgotten
  apart_passes : (errand : Errand) → same_errand errand the_end ≡ false → (x : Queued) → is_copy the_end x ≡ true → not (is_copy errand x) ≡ true
  apart_passes errand apart (Answer command) is = cc
  apart_passes errand apart (Ask other) is = subst (λ o. not (same_errand errand o) ≡ true) (same-is the_end other is) (ap not apart)

  end_apart : (n : ℕ) → eqb n own ≡ false → same_errand (errands.Disconnection n) the_end ≡ false
  end_apart n apart = apart

  pub away : (n : ℕ) → eqb n own ≡ false → eqb own n ≡ false
  away n apart = eqb-away n own apart

  -- another channel is gone
  gone_passes : (n : ℕ) → eqb n own ≡ false → (x : Queued) → is_copy the_end x ≡ true → not (is_copy_about n x) ≡ true
  gone_passes n apart (Answer command) is = cc
  gone_passes n apart (Ask other) is = subst (λ o. not (is_about n o) ≡ true) (same-is the_end other is) (ap not (eqb-away n own apart))

  forgot : (errand : Errand) (queue : List Queued) → same_errand errand the_end ≡ false → copies the_end queue ≤ copies the_end (filter (λ x. not (is_copy errand x)) queue)
  forgot errand queue apart = copies_kept the_end (λ x. not (is_copy errand x)) queue (apart_passes errand apart)

  pub more_waits : (x : Queued) (queue : List Queued) → copies the_end queue ≤ copies the_end (queue ++ x ∷ [])
  more_waits x queue = let whole = copies-append the_end queue x in omega (arith, whole)

  asked_apart : (errand : Errand) (queue : List Queued) → same_errand errand the_end ≡ false → copies the_end queue ≤ copies the_end (filter (λ x. not (is_copy errand x)) queue ++ Ask errand ∷ [])
  asked_apart errand queue apart =
      let one = forgot errand queue apart in let two = more_waits (Ask errand) (filter (λ x. not (is_copy errand x)) queue) in omega (arith, one, two)

  -- ---- what is kept of it

  module _ (X : Request → ℕ → Type 0) (grows : (request : Request) (m n : ℕ) → m ≤ n → X request m → X request n) (new : (request : Request) (n : ℕ) → 1 ≤ n → X request n) where
    -- while the host leaves the channel, of the request for its end and of the copies of that which wait
    abbrev pub StageSo : Stage → ℕ → Type 0
    StageSo (Requested request) n = Unit {0}
    StageSo (Connected peer setup) n = Unit {0}
    StageSo (Leaving peer setup request) n = X request n
    StageSo (Closing peer request checked) n = Unit {0}
    StageSo (Crossed peer request) n = Unit {0}

    abbrev pub FoundSo : Option Held → ℕ → Type 0
    FoundSo None n = Unit {0}
    FoundSo (Some held) n = StageSo held.stage n

    abbrev pub K : Channels → Type 0
    K v = FoundSo (held_at own v) (copies the_end v.queue)

    abbrev pub At : Channels → Held → Type 0
    At v held = find (has_own held.own) v.held ≡ Some held

    abbrev pub Has : Held → Setup → Type 0
    Has held setup = setup_of held.stage ≡ Some setup

    pub stage_more : (stage : Stage) (m n : ℕ) → m ≤ n → StageSo stage m → StageSo stage n
    stage_more (Requested request) m n less so = tt
    stage_more (Connected peer setup) m n less so = tt
    stage_more (Leaving peer setup request) m n less so = grows request m n less so
    stage_more (Closing peer request checked) m n less so = tt
    stage_more (Crossed peer request) m n less so = tt

    found_more : (found : Option Held) (m n : ℕ) → m ≤ n → FoundSo found m → FoundSo found n
    found_more None m n less so = tt
    found_more (Some held) m n less so = stage_more held.stage m n less so

    pub either : (b : Bool) (x y : Channels) → K x → K y → K (cond b x y)
    either true x y one other = one
    either false x y one other = other

    pub still : (v w : Channels) → w.held ≡ v.held → copies the_end v.queue ≤ copies the_end w.queue → K v → K w
    still v w held_is less k = subst (λ (hs : List Held). FoundSo (find (has_own own) hs) (copies the_end w.queue)) (sym held_is) (found_more (held_at own v) (copies the_end v.queue) (copies the_end w.queue) less k)

    -- a channel goes on to a stage
    pub moves : (v w : Channels) (held : Held) (stage : Stage) → At v held → w.held ≡ map (in_place_of (staged held stage)) v.held → (eqb held.own own ≡ false → copies the_end v.queue ≤ copies the_end w.queue)
        → (eqb held.own own ≡ true → StageSo held.stage (copies the_end v.queue) → StageSo stage (copies the_end w.queue)) → K v → K w
    moves v w held stage found held_is others here k = by (eqb held.own own) refl
      where
        by : (same : Bool) → eqb held.own own ≡ same → K w
        by true is =
            let it : held.own ≡ own = eqb-true held.own own is in
            let before : held_at own v ≡ Some held = subst (λ n. find (has_own n) v.held ≡ Some held) it found in
            let after : held_at own w ≡ Some (staged held stage) = ap (find (has_own own)) held_is ∙ subst (λ n. find (has_own n) (map (in_place_of (staged held stage)) v.held) ≡ Some (staged held stage)) it (found-placed (staged held stage) held v.held found) in
            subst (λ (h : Option Held). FoundSo h (copies the_end w.queue)) (sym after) (here is (subst (λ (h : Option Held). FoundSo h (copies the_end v.queue)) before k))
        by false is =
            let same : held_at own w ≡ held_at own v = ap (find (has_own own)) held_is ∙ find-placed (staged held stage) v.held own is in
            subst (λ (h : Option Held). FoundSo h (copies the_end w.queue)) (sym same) (found_more (held_at own v) (copies the_end v.queue) (copies the_end w.queue) (others is) k)

    -- a channel is gone
    drops : (v w : Channels) (held : Held) → w.held ≡ filter (λ other. not (eqb other.own held.own)) v.held → w.queue ≡ filter (λ x. not (is_copy_about held.own x)) v.queue → K v → K w
    drops v w held held_is queue_is k = by (eqb held.own own) refl
      where
        by : (same : Bool) → eqb held.own own ≡ same → K w
        by true is =
            let it : held.own ≡ own = eqb-true held.own own is in
            let none : held_at own w ≡ None = ap (find (has_own own)) held_is ∙ subst (λ n. find (has_own n) (filter (λ other. not (eqb other.own held.own)) v.held) ≡ None) it (find-gone own_of held.own v.held) in
            subst (λ (h : Option Held). FoundSo h (copies the_end w.queue)) (sym none) tt
        by false is =
            let same : held_at own w ≡ held_at own v = ap (find (has_own own)) held_is ∙ find-others own_of held.own own v.held is in
            let less : copies the_end v.queue ≤ copies the_end w.queue = subst (λ (q : List Queued). copies the_end v.queue ≤ copies the_end q) (sym queue_is) (copies_kept the_end (λ x. not (is_copy_about held.own x)) v.queue (gone_passes held.own is)) in
            subst (λ (h : Option Held). FoundSo h (copies the_end w.queue)) (sym same) (found_more (held_at own v) (copies the_end v.queue) (copies the_end w.queue) less k)

    -- ---- a channel is closed

    closes_at_so : (v : Channels) (held : Held) (reason : CloseReason) (stage : Stage) → At v held → K v → K (closes_at stage reason held v)
    closes_at_so v held reason (Requested request) found k = drops v (closes_at (Requested request) reason held v) held refl refl k
    closes_at_so v held reason (Connected peer setup) found k =
        moves v (closes_at (Connected peer setup) reason held v) held (Closing peer (new_request v) (has_fcs_by setup)) found refl
        (λ apart. let one = forgot (errands.Configuration held.own) v.queue refl in let two = asked_apart (errands.Disconnection held.own) (filter (λ x. not (is_copy (errands.Configuration held.own) x)) v.queue) (end_apart held.own apart) in omega (arith, one, two))
        (λ same so. tt) k
    closes_at_so v held reason (Leaving peer setup request) found k =
        moves v (closes_at (Leaving peer setup request) reason held v) held (Closing peer request (has_fcs_by setup)) found refl (λ apart. forgot (errands.Configuration held.own) v.queue refl) (λ same so. tt) k
    closes_at_so v held reason (Closing peer request checked) found k = k
    closes_at_so v held reason (Crossed peer request) found k = k

    pub close : (v : Channels) (held : Held) (reason : CloseReason) → At v held → K v → K (closes reason held v)
    close v held reason found k = closes_at_so v held reason held.stage found k

    peer_so : (v : Channels) (held : Held) (stage : Stage) → At v held → K v → K (peer_closes_at stage held v)
    peer_so v held (Requested request) found k = k
    peer_so v held (Connected peer setup) found k = drops v (peer_closes_at (Connected peer setup) held v) held refl refl k
    peer_so v held (Leaving peer setup request) found k = moves v (peer_closes_at (Leaving peer setup request) held v) held (Crossed peer request) found refl (λ apart. forgot (errands.Configuration held.own) v.queue refl) (λ same so. tt) k
    peer_so v held (Closing peer request checked) found k = moves v (peer_closes_at (Closing peer request checked) held v) held (Crossed peer request) found refl (λ apart. omega arith) (λ same so. tt) k
    peer_so v held (Crossed peer request) found k = k

    pub ends_so : (v : Channels) (held : Held) (reason : CloseReason) (stage : Stage) → K v → K (ends_at stage reason held v)
    ends_so v held reason (Requested request) k = k
    ends_so v held reason (Connected peer setup) k = k
    ends_so v held reason (Leaving peer setup request) k = drops v (ends_at (Leaving peer setup request) reason held v) held refl refl k
    ends_so v held reason (Closing peer request checked) k = drops v (ends_at (Closing peer request checked) reason held v) held refl refl k
    ends_so v held reason (Crossed peer request) k = drops v (ends_at (Crossed peer request) reason held v) held refl refl k

    -- ---- options

    setup_so : (stage : Stage) (after : Setup) (m n : ℕ) → m ≤ n → StageSo stage m → StageSo (stage_with after stage) n
    setup_so (Requested request) after m n less so = tt
    setup_so (Connected peer setup) after m n less so = tt
    setup_so (Leaving peer setup request) after m n less so = grows request m n less so
    setup_so (Closing peer request checked) after m n less so = tt
    setup_so (Crossed peer request) after m n less so = tt

    set_up : (v w : Channels) (held : Held) (after : Setup) → At v held → w.held ≡ (to_setup held after v).held → copies the_end v.queue ≤ copies the_end w.queue → K v → K w
    set_up v w held after found held_is less k = moves v w held (stage_with after held.stage) found held_is (λ apart. less) (λ same so. setup_so held.stage after (copies the_end v.queue) (copies the_end w.queue) less so) k

    asked_so : (v : Channels) (held : Held) (after : Setup) (options : Options) → At v held → K v → K (asks_options held after options v)
    asked_so v held after options found k =
        let asked : Setup = record after { own = Asking (new_request v) options } in
        set_up v (asks_options held after options v) held asked found refl (asked_apart (errands.Configuration held.own) v.queue refl) k

    opened : (b : Bool) (held : Held) (v : Channels) → K v → K (opens_if b held v)
    opened true held v k = k
    opened false held v k = k

    grants_so : (v : Channels) (held : Held) (setup : Setup) → At v held → K v → K (grants held setup v)
    grants_so v held setup found k =
        let after : Setup = granted_setup setup in
        let w : Channels = to_setup held after (forgets (errands.Configuration held.own) v) in
        opened (is_some setup.carrier) held w (set_up v w held after found refl (forgot (errands.Configuration held.own) v.queue refl) k)

    pub plain_setup : (v : Channels) (held : Held) (after : Setup) → At v held → K v → K (to_setup held after v)
    plain_setup v held after found k = set_up v (to_setup held after v) held after found refl (omega arith) k

    third_so : (v : Channels) (held : Held) (after : Setup) → At v held → K v → K (closes NoAgreement (with_setup held after) (to_setup held after v))
    third_so v held after found k = let u : Channels = to_setup held after v in close u (with_setup held after) NoAgreement (with-found v held after found) (plain_setup v held after found k)

    accepts_so : (v : Channels) (asks : Own) (wish : Wish) (held : Held) (after : Setup) → At v held → K v → K (accepts_with asks wish held after v)
    accepts_so v Unasked wish held after found k = asked_so v held after (first_options wish) found k
    accepts_so v (Asking request options) wish held after found k = plain_setup v held after found k
    accepts_so v Granted wish held after found k = set_up v (accepts_with Granted wish held after v) held after found refl (omega arith) k

    answer_so : (v : Channels) (answer : ConfigAnswer) (wish : Wish) (options : Options) (held : Held) (setup : Setup) → At v held → K v → K (follows_answer answer wish options held setup v)
    answer_so v (Accept given) wish options held setup found k = accepts_so v setup.own wish held (accepted_setup wish options setup) found k
    answer_so v (Unacceptable refusal given) wish options held setup found k =
        let after : Setup = refused_setup setup in
        either (nat_le 3 after.refused) (closes NoAgreement (with_setup held after) (to_setup held after v)) (to_setup held after v) (third_so v held after found k) (plain_setup v held after found k)
    answer_so v Unknown wish options held setup found k = plain_setup v held (without_parts setup) found k

    verdict_so : (v : Channels) (now : Verdict) (wish : Wish) (held : Held) (setup : Setup) → At v held → K v → K (follows_verdict now wish held setup v)
    verdict_so v NoChannel wish held setup found k = k
    verdict_so v (TooLate peer) wish held setup found k = k
    verdict_so v (Unreadable peer) wish held setup found k = plain_setup v held (without_parts setup) found k
    verdict_so v (Incomplete peer options) wish held setup found k = let after : Setup = record setup { parts = options } in plain_setup v held after found k
    verdict_so v (Judged peer options answer) wish held setup found k = answer_so v answer wish options held setup found k

    setup_follows : (v : Channels) (setup : Option Setup) (policy : Policy) (held : Held) (flags : ℕ) (octets : List ℕ) → At v held → K v → K (follows_setup setup policy held flags octets v)
    setup_follows v None policy held flags octets found k = k
    setup_follows v (Some setup) policy held flags octets found k = verdict_so v (verdict policy held.own flags octets v) (policy.wish held.psm) held setup found k

    configuration_so : (v : Channels) (n : ℕ) (found : Option Held) (policy : Policy) (flags : ℕ) (octets : List ℕ) → held_at n v ≡ found → K v → K (follows_configuration found policy flags octets v)
    configuration_so v n None policy flags octets is k = k
    configuration_so v n (Some held) policy flags octets is k = setup_follows v (setup_of held.stage) policy held flags octets (found-own n v held is) k

    disconnection_so : (v : Channels) (n : ℕ) (found : Option Held) (peer : ℕ) → held_at n v ≡ found → K v → K (follows_disconnection found peer v)
    disconnection_so v n None peer is k = k
    disconnection_so v n (Some held) peer is k = either (is_peer peer held.stage) (peer_closes_at held.stage held v) v (peer_so v held held.stage (found-own n v held is) k) k

    -- a channel that is there at once
    born : (v w : Channels) (new : Held) → w.held ≡ v.held ++ new ∷ [] → copies the_end v.queue ≤ copies the_end w.queue → ((n : ℕ) → StageSo new.stage n) → K v → K w
    born v w new held_is less free k =
        subst (λ (h : Option Held). FoundSo h (copies the_end w.queue)) (sym (ap (find (has_own own)) held_is ∙ find-append own_of own v.held new)) (by (held_at own v) (eqb new.own own) (found_more (held_at own v) (copies the_end v.queue) (copies the_end w.queue) less k))
      where
        by : (found : Option Held) (b : Bool) → FoundSo found (copies the_end w.queue) → FoundSo (option_or found (cond b (Some new) None)) (copies the_end w.queue)
        by None true so = free (copies the_end w.queue)
        by None false so = tt
        by (Some held) b so = so

    follows_so : (policy : Policy) (content : Content) (v : Channels) → K v → K (follows policy content v)
    follows_so policy (reject reason rest) v k = k
    follows_so policy (connection_request psm source) v k =
        let w : Channels = with_channel psm (Connected source no_setup) v in either (eqb (connection_result policy psm source v) 0) w v (born v w (new_held psm v.next (Connected source no_setup)) refl (omega arith) (λ n. tt) k) k
    follows_so policy (connection_response destination source answer status) v k = k
    follows_so policy (configuration_request destination flags options) v k = configuration_so v destination (held_at destination v) policy flags options refl k
    follows_so policy (configuration_response source flags answer options) v k = k
    follows_so policy (disconnection_request destination source) v k = disconnection_so v destination (held_at destination v) source refl k
    follows_so policy (disconnection_response destination source) v k = k
    follows_so policy (echo_request octets) v k = k
    follows_so policy (echo_response octets) v k = k
    follows_so policy (information_request kind) v k = k
    follows_so policy (information_response kind answer rest) v k = k

    -- ---- what the peer responds

    connects_so : (v : Channels) (wish : Wish) (endpoint : ℕ) (held : Held) → At v held → K v → K (connects wish endpoint held v)
    connects_so v wish endpoint held found k =
        let asked : Setup = record no_setup { own = Asking (new_request v) (first_options wish) } in
        let queue : List Queued = filter (λ x. not (is_copy (errands.Connection held.own) x)) v.queue in
        moves v (connects wish endpoint held v) held (Connected endpoint asked) found refl (λ apart. let one = forgot (errands.Connection held.own) v.queue refl in let two = asked_apart (errands.Configuration held.own) queue refl in omega (arith, one, two)) (λ same so. tt) k

    connected_so : (v : Channels) (policy : Policy) (endpoint result : ℕ) (held : Held) → At v held → K v → K (hears_connected policy endpoint result held v)
    connected_so v policy endpoint result held found k =
        let made : Channels = connects (policy.wish held.psm) endpoint held v in
        let refused : Channels = closes (Refused result) held v in
        either (eqb result 0) (cond (is_fresh_endpoint endpoint v) made v) (cond (eqb result 1) v refused) (either (is_fresh_endpoint endpoint v) made v (connects_so v (policy.wish held.psm) endpoint held found k) k)
        (either (eqb result 1) v refused k (close v held (Refused result) found k))

    grant_at_so : (v : Channels) (stage : Stage) (policy : Policy) (identifier endpoint result : ℕ) (held : Held) → At v held → K v → K (hears_grant_at stage policy identifier endpoint result held v)
    grant_at_so v (Requested request) policy identifier endpoint result held found k = either (eqb request.identifier identifier) (hears_connected policy endpoint result held v) v (connected_so v policy endpoint result held found k) k
    grant_at_so v (Connected peer setup) policy identifier endpoint result held found k = k
    grant_at_so v (Leaving peer setup request) policy identifier endpoint result held found k = k
    grant_at_so v (Closing peer request checked) policy identifier endpoint result held found k = k
    grant_at_so v (Crossed peer request) policy identifier endpoint result held found k = k

    grant_so : (v : Channels) (n : ℕ) (found : Option Held) (policy : Policy) (identifier endpoint result : ℕ) → held_at n v ≡ found → K v → K (hears_grant found policy identifier endpoint result v)
    grant_so v n None policy identifier endpoint result is k = k
    grant_so v n (Some held) policy identifier endpoint result is k = grant_at_so v held.stage policy identifier endpoint result held (found-own n v held is) k

    settled_so : (v : Channels) (now : Settled) (held : Held) (setup : Setup) → At v held → K v → K (hears_settled now held setup v)
    settled_so v Accepted held setup found k = grants_so v held setup found k
    settled_so v (Again options) held setup found k =
        let after : Setup = renewed_setup setup in
        either (is_leaving held.stage || nat_le 3 after.renewed) (closes NoAgreement (with_setup held after) (to_setup held after v)) (asks_options held after options v) (third_so v held after found k) (asked_so v held after options found k)
    settled_so v Wait held setup found k = k
    settled_so v Never held setup found k = close v held NoAgreement found k

    options_so : (v : Channels) (given : Result Options ConfigRefusal) (policy : Policy) (result : ℕ) (held : Held) (setup : Setup) → At v held → K v → K (hears_options given policy result held setup v)
    options_so v (Ok options) policy result held setup found k = settled_so v (settled (policy.wish held.psm) result options) held setup found k
    options_so v (Err refusal) policy result held setup found k = k

    response_on_so : (v : Channels) (setup : Option Setup) (policy : Policy) (identifier result : ℕ) (octets : List ℕ) (held : Held) → At v held → K v → K (hears_response_on setup policy identifier result octets held v)
    response_on_so v None policy identifier result octets held found k = k
    response_on_so v (Some setup) policy identifier result octets held found k =
        either (is_asked identifier setup.own) (hears_options (options_read octets) policy result held setup v) v (options_so v (options_read octets) policy result held setup found k) k

    response_so : (v : Channels) (n : ℕ) (found : Option Held) (policy : Policy) (identifier result : ℕ) (octets : List ℕ) → held_at n v ≡ found → K v → K (hears_response found policy identifier result octets v)
    response_so v n None policy identifier result octets is k = k
    response_so v n (Some held) policy identifier result octets is k = response_on_so v (setup_of held.stage) policy identifier result octets held (found-own n v held is) k

    end_so : (v : Channels) (found : Option Held) (peer : ℕ) → K v → K (hears_end found peer v)
    end_so v None peer k = k
    end_so v (Some held) peer k = either (is_peer peer held.stage) (ends OwnClosed held v) v (ends_so v held OwnClosed held.stage k) k

    features_so : (v : Channels) (identifier : ℕ) (given : Option ℕ) → K v → K (hears_features identifier given v)
    features_so v identifier given k =
        let w : Channels = tells (Features given) (forgets errands.Features (record v { features = None })) in
        either (has_identifier identifier v.features) w v (still v w refl (forgot errands.Features v.queue refl) k) k

    -- ---- commands

    says_so : (v : Channels) (identifier : ℕ) (response : Option Content) → K v → K (says identifier response v)
    says_so v identifier None k = k
    says_so v identifier (Some content) k = still v (says identifier (Some content) v) refl (more_waits (Answer (record { identifier = identifier; content = content })) v.queue) k

    new_so : (v : Channels) (kind : RequestKind) (identifier : ℕ) (response : Option Content) (more : Channels → Channels) → ((u : Channels) → K u → K (more u)) → K v → K (hears_new kind identifier response more v)
    new_so v kind identifier response more goes k =
        let t : Channels = remembers kind identifier response v in
        let u : Channels = says identifier response t in
        either (can_say response v) (more u) v (goes u (says_so t identifier response k)) k

    again_so : (v : Channels) (identifier : ℕ) (response : Option Content) → K v → K (hears_again identifier response v)
    again_so v identifier response k = either (can_say response v) (says identifier response v) v (says_so v identifier response k) k

    kind_so : (v : Channels) (last : Option Remembered) (kind : RequestKind) (identifier : ℕ) (response : Option Content) (more : Channels → Channels) → ((u : Channels) → K u → K (more u)) → K v → K (hears_kind last kind identifier response more v)
    kind_so v None kind identifier response more goes k = new_so v kind identifier response more goes k
    kind_so v (Some last) kind identifier response more goes k =
        either (eqb last.identifier identifier) (hears_again identifier last.response v) (hears_new kind identifier response more v) (again_so v identifier last.response k) (new_so v kind identifier response more goes k)

    content_so : (policy : Policy) (identifier : ℕ) (content : Content) (v : Channels) → K v → K (hears_content policy identifier content v)
    content_so policy identifier (reject reason rest) v k = features_so v identifier None k
    content_so policy identifier (connection_request psm source) v k = let c : Content = connection_request psm source in kind_so v v.memory.connection kinds.Connection identifier (answer_to policy c v) (follows policy c) (follows_so policy c) k
    content_so policy identifier (connection_response destination source answer status) v k = grant_so v source (held_at source v) policy identifier destination answer refl k
    content_so policy identifier (configuration_request destination flags options) v k = let c : Content = configuration_request destination flags options in kind_so v v.memory.configuration kinds.Configuration identifier (answer_to policy c v) (follows policy c) (follows_so policy c) k
    content_so policy identifier (configuration_response source flags answer options) v k = response_so v source (held_at source v) policy identifier answer options refl k
    content_so policy identifier (disconnection_request destination source) v k = let c : Content = disconnection_request destination source in kind_so v v.memory.disconnection kinds.Disconnection identifier (answer_to policy c v) (follows policy c) (follows_so policy c) k
    content_so policy identifier (disconnection_response destination source) v k = end_so v (held_at source v) destination k
    content_so policy identifier (echo_request octets) v k = let c : Content = echo_request octets in kind_so v v.memory.echo kinds.Echo identifier (answer_to policy c v) (follows policy c) (follows_so policy c) k
    content_so policy identifier (echo_response octets) v k = k
    content_so policy identifier (information_request kind) v k = let c : Content = information_request kind in kind_so v v.memory.information kinds.Information identifier (answer_to policy c v) (follows policy c) (follows_so policy c) k
    content_so policy identifier (information_response kind answer rest) v k = features_so v identifier (features_in kind answer rest) k

    malformed_so : (kind : Option RequestKind) (identifier : ℕ) (v : Channels) → K v → K (hears_malformed kind identifier v)
    malformed_so None identifier v k = k
    malformed_so (Some kind) identifier v k = kind_so v (remembered kind v.memory) kind identifier (Some not_understood) (λ w. w) (λ u now. now) k

    unread_so : (code identifier : ℕ) (v : Channels) → K v → K (hears_unread code identifier v)
    unread_so code identifier v k =
        let malformed : Channels = hears_malformed (kind_of_code code) identifier v in
        let again : Channels = hears_again identifier (Some not_understood) v in
        either (eqb identifier 0) v (cond (is_response_code code) v (cond (is_kind (kind_of_code code)) malformed again)) k
        (either (is_response_code code) v (cond (is_kind (kind_of_code code)) malformed again) k
        (either (is_kind (kind_of_code code)) malformed again (malformed_so (kind_of_code code) identifier v k) (again_so v identifier (Some not_understood) k)))

    command_so : (policy : Policy) (one : Read) (v : Channels) → K v → K (hears_command policy one v)
    command_so policy (Ok command) v k = content_so policy command.identifier command.content v k
    command_so policy (Err (ZeroIdentifier code identifier)) v k = k
    command_so policy (Err (BadLength code None)) v k = k
    command_so policy (Err (BadLength code (Some identifier))) v k = unread_so code identifier v k
    command_so policy (Err (UnknownCode code None)) v k = k
    command_so policy (Err (UnknownCode code (Some identifier))) v k = unread_so code identifier v k
    command_so policy (Err (AboveMtu code None)) v k = k
    command_so policy (Err (AboveMtu code (Some identifier))) v k = either (eqb identifier 0) v (hears_again identifier (Some too_long) v) k (again_so v identifier (Some too_long) k)

    commands_so : (policy : Policy) (list : List Read) (v : Channels) → K v → K (hears_commands policy list v)
    commands_so policy [] v k = k
    commands_so policy (one ∷ list) v k = commands_so policy list (hears_command policy one v) (command_so policy one v k)

    -- ---- a PDU on a channel

    pub settles_so : (v : Channels) (closed : Option ErtmReason) (machine : Ertm) (held : Held) (setup : Setup) → At v held → K v → K (settles_machine closed machine held setup v)
    settles_so v None machine held setup found k = let after : Setup = record setup { carrier = Some (Retransmitting machine) } in plain_setup v held after found k
    settles_so v (Some reason) machine held setup found k = close v held (reason_of reason) found k

    carries_so : (v : Channels) (carrier : Carrier) (pdu : List ℕ) (held : Held) (setup : Setup) → At v held → K v → K (carries carrier pdu held setup v)
    carries_so v (Plain agreed waiting) pdu held setup found k = k
    carries_so v (Retransmitting machine) pdu held setup found k = let after : Ertm = machine_heard (read_by machine pdu) machine in settles_so v after.closed after held setup found k

    opened_so : (v : Channels) (pdu : List ℕ) (held : Held) (setup : Setup) (carrier : Carrier) (asks : Own) → setup.own ≡ asks → At v held → Has held setup → K v
        → K (cond (is_taken_with asks carrier pdu) (carries carrier pdu (with_setup held (granted_setup setup)) (granted_setup setup) (opens_with asks held setup v)) v)
    opened_so v pdu held setup carrier Unasked own_is found is k = k
    opened_so v pdu held setup carrier (Asking request options) own_is found is k =
        let u : Channels = grants held setup v in
        let w : Channels = carries carrier pdu (with_setup held (granted_setup setup)) (granted_setup setup) u in
        either (shows carrier pdu) w v (carries_so u carrier pdu (with_setup held (granted_setup setup)) (granted_setup setup) (there (is_some setup.carrier)) (grants_so v held setup found k)) k
      where
        there : (b : Bool) → find (has_own held.own) (opens_if b held (to_setup held (granted_setup setup) (forgets (errands.Configuration held.own) v))).held ≡ Some (with_setup held (granted_setup setup))
        there true = with-found v held (granted_setup setup) found
        there false = with-found v held (granted_setup setup) found
    opened_so v pdu held setup carrier Granted own_is found is k =
        let same : with_setup held (granted_setup setup) ≡ held = ap (λ (s : Stage). let h : Held = record held { stage = s } in h) (granted-same held.stage setup is own_is) in
        carries_so v carrier pdu (with_setup held (granted_setup setup)) (granted_setup setup) (found ∙ ap Some (sym same)) k

    taken_with : (v : Channels) (carrier : Option Carrier) (pdu : List ℕ) (held : Held) (setup : Setup) → At v held → Has held setup → K v → K (takes_with carrier pdu held setup v)
    taken_with v None pdu held setup found is k = k
    taken_with v (Some carrier) pdu held setup found is k = opened_so v pdu held setup carrier setup.own refl found is k

    taken_on : (v : Channels) (setup : Option Setup) (pdu : List ℕ) (held : Held) → At v held → setup_of held.stage ≡ setup → K v → K (takes_on setup pdu held v)
    taken_on v None pdu held found is k = k
    taken_on v (Some setup) pdu held found is k = taken_with v setup.carrier pdu held setup found is k

    taken_held : (v : Channels) (n : ℕ) (found : Option Held) (pdu : List ℕ) → held_at n v ≡ found → K v → K (takes_held found pdu v)
    taken_held v n None pdu is k = k
    taken_held v n (Some held) pdu is k = taken_on v (setup_of held.stage) pdu held (found-own n v held is) refl k

    pub comes-so : (policy : Policy) (pdu : List ℕ) (v : Channels) → K v → K (value_after policy (Comes pdu) v)
    comes-so policy pdu v k =
        either (eqb (channel_of pdu) 0x0001) (hears_commands policy (answers (drop 4 pdu)) v) (takes (channel_of pdu) pdu v) (commands_so policy (answers (drop 4 pdu)) v k) (taken_held v (channel_of pdu) (held_at (channel_of pdu) v) pdu refl k)

    -- ---- what the host does by itself

    sent_on : (v : Channels) (setup : Option Setup) (sdu : List ℕ) (held : Held) → At v held → K v → K (sends_on setup sdu held v)
    sent_on v None sdu held found k = k
    sent_on v (Some setup) sdu held found k = plain_setup v held (sends_setup setup sdu) found k

    sent_held : (v : Channels) (n : ℕ) (found : Option Held) (sdu : List ℕ) → held_at n v ≡ found → K v → K (sends_held found sdu v)
    sent_held v n None sdu is k = k
    sent_held v n (Some held) sdu is k = sent_on v (setup_of held.stage) sdu held (found-own n v held is) k

    -- a new request for the end waits as a copy
    left_at : (v : Channels) (held : Held) (stage : Stage) → At v held → K v → K (disconnected_at stage held v)
    left_at v held (Requested request) found k = close v held OwnClosed found k
    left_at v held (Connected peer setup) found k =
        moves v (disconnected_at (Connected peer setup) held v) held (Leaving peer setup (new_request v)) found refl (λ apart. asked_apart (errands.Disconnection held.own) v.queue (end_apart held.own apart))
        (λ same so. new (new_request v) (copies the_end (disconnected_at (Connected peer setup) held v).queue)
        (subst (λ n. 1 ≤ copies (errands.Disconnection n) (disconnected_at (Connected peer setup) held v).queue) (eqb-true held.own own same) (let one = copies-asked (errands.Disconnection held.own) v.queue in omega (arith, one)))) k
    left_at v held (Leaving peer setup request) found k = k
    left_at v held (Closing peer request checked) found k = k
    left_at v held (Crossed peer request) found k = k

    left_held : (v : Channels) (n : ℕ) (found : Option Held) → held_at n v ≡ found → K v → K (disconnected_held found v)
    left_held v n None is k = k
    left_held v n (Some held) is k = left_at v held held.stage (found-own n v held is) k

    pub leaves-so : (v : Channels) (n : ℕ) → K v → K (disconnected n v)
    leaves-so v n k = left_held v n (held_at n v) refl k

    pub calls-so : (v : Channels) (psm : ℕ) → K v → K (connected psm v)
    calls-so v psm k =
        let new : Held = new_held psm v.next (Requested (new_request v)) in
        let w : Channels = asks (errands.Connection v.next) (with_channel psm (Requested (new_request v)) v) in
        either (can_connect v) w v (born v w new refl (asked_apart (errands.Connection v.next) v.queue refl) (λ n. tt) k) k

    pub asks-so : (v : Channels) → K v → K (asks_features v)
    asks-so v k =
        let w : Channels = asks errands.Features (record v { features = Some (new_request v) }) in
        either (is_some v.features) v w k (still v w refl (asked_apart errands.Features v.queue refl) k)

    pub sends-so : (v : Channels) (n : ℕ) (sdu : List ℕ) → K v → K (sends n sdu v)
    sends-so v n sdu k = sent_held v n (held_at n v) sdu refl k

    -- whatever happens but a firing, and where nothing is given
    pub single-so : (policy : Policy) (more : Occurrence) (v : Channels) → is_firing more ≡ false → is_giving more ≡ false → K v → K (value_after policy more v)
    single-so policy (Comes pdu) v fires gives k = comes-so policy pdu v k
    single-so policy (Connects psm) v fires gives k = calls-so v psm k
    single-so policy AsksFeatures v fires gives k = asks-so v k
    single-so policy (Disconnects n) v fires gives k = leaves-so v n k
    single-so policy (Sends n sdu) v fires gives k = sends-so v n sdu k
    single-so policy (Gives pdu) v fires gives k = cc
    single-so policy Fires v fires gives k = cc
    single-so policy Tells v fires gives k = still v (value_after policy Tells v) refl (omega arith) k

    -- the first channel that has something to give is given of
    pub spent-so : (v : Channels) (found : Option Held) → Distinct own_of v.held → find gives v.held ≡ found → K v → K (held_given found v)
    spent-so v None lone is k = k
    spent-so v (Some held) lone is k = by (setup_of held.stage)
      where
        by : (setup : Option Setup) → K (carrier_spent setup held v)
        by None = k
        by (Some setup) = let after : Setup = record setup { carrier = option_map carrier_given setup.carrier } in plain_setup v held after (found-distinct own_of gives v.held held lone is) k
