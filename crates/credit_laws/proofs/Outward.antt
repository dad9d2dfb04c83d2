-- What a host sends goes over a channel that it has.
use Rattle.std.proofs.Common.{◌≡◌, ℕ, ◌<◌, List, [], ◌∷◌, ◌++◌, map, drop, Bool, true, false, cond, eqb, Option, Some, None, refl, sym, ap, subst, ◌∙◌, append_assoc, append-nil}
use Rattle.std.specs.Prelude.{unwrap_or}
use Rattle.std.specs.List.{AllByRecursion}
use Rattle.std.proofs.lemmas.List.Sums.{fold-append}
use Rattle.inbox_laws.specs.bt_base.proofs.OctetLemmas.{le16-number}
use Rattle.inbox_laws.specs.acl_fragments.specs.Pieces.{channel_of}
use Rattle.inbox_laws.specs.capture.specs.Histories.{EachAfter}
use Rattle.inbox_laws.specs.capture.specs.declared.flow.Flow.TheVariants.{Into}
use Rattle.inbox_laws.specs.l2cap_signal.specs.Reading.{answers}
use Rattle.inbox_laws.specs.link_talk.specs.Sayings.{Saying, Command, Carried, GaveUp}
use Rattle.inbox_laws.specs.channel_model.specs.Value.{Carrier, Plain, Retransmitting, Setup, Held, Channels}
use Rattle.inbox_laws.specs.channel_model.specs.Policies.{Policy}
use Rattle.inbox_laws.specs.channel_model.specs.Changing.{held_at, is_open, setup_of}
use Rattle.inbox_laws.specs.channel_model.specs.Carrying.{takes}
use Rattle.inbox_laws.specs.channel_model.specs.Giving.{Given, Signal, Whole, Framed, headed, next_given}
use Rattle.inbox_laws.specs.channel_model.specs.Calls.{setup_on, carrier_if, open_carrier, carrier_at, connected, asks_features, disconnected}
use Rattle.inbox_laws.specs.channel_laws.specs.Frames.{IsSpelled, IsUttered, AreUttered}
use Rattle.inbox_laws.specs.channel_laws.specs.OwnTalk.{asked_between, said_with_all}
use Rattle.inbox_laws.specs.channel_laws.specs.Runs.{Occurrence, Comes, Connects, AsksFeatures, Disconnects, Sends, Gives, Fires, Tells, peer_at, said_by_carrier, said_as, said_in, Run, new_link, run_on, run_of}
use Rattle.inbox_laws.specs.channel_laws.proofs.Holding.{IsRead, is-read}
use Rattle.inbox_laws.specs.channel_laws.proofs.Naming.{endpoints-name_one}
use Rattle.inbox_laws.specs.channel_laws.proofs.Passages.{both-false, spelled-frame}
use Rattle.inbox_laws.specs.channel_laws.proofs.Running.{all-sound}
use Rattle.inbox_laws.specs.channel_laws.proofs.Signalling.{is_carried, IsBare, bare-asked, bare-left, bare-with_all, bare-fired}
use Rattle.inbox_laws.specs.channel_laws.proofs.Trusting.{Gives_out, queue-out}
use Rattle.request_laws.proofs.Feeding.{all_both}
use Rattle.credit_laws.specs.Moved.{GoesOver, IsCarriedOver}

bare_over : (whole said : List Saying) → IsBare said → AllByRecursion (IsCarriedOver whole) said
bare_over whole [] bare = tt
bare_over whole (more ∷ said) bare = let parts = both-false (is_carried more) _ bare in (by more parts.0, bare_over whole said parts.1)
  where
    by : (s : Saying) → is_carried s ≡ false → IsCarriedOver whole s
    by (Command flow answer) is = tt
    by (Carried flow pdu) is = cc
    by (GaveUp forgone) is = tt

module _ (policy : Policy) (past later : List Occurrence) where
  abbrev v : Channels
  v = (run_of policy past).value

  abbrev whole : List Saying
  whole = (run_of policy (past ++ later)).said

  -- the channel of an endpoint that is there stays that of the endpoint
  over_held : (own : ℕ) (held : Held) (setup : Setup) (identifier : ℕ) → held_at own (run_of policy past).value ≡ Some held → setup_of held.stage ≡ Some setup → (r : IsRead policy (run_of policy past).said own held setup) → identifier ≡ r.peer → GoesOver whole identifier
  over_held own held setup identifier at has r to = record { channel = r.entry.channel; own = own; is = endpoints-name_one policy past later own r.entry r.found; named = to ∙ sym r.here }

  sends_over : (own : ℕ) (sdu : List ℕ) (held : Held) (setup : Setup) (carrier : Option Carrier) → held_at own (run_of policy past).value ≡ Some held → setup_of held.stage ≡ Some setup → peer_at (Some held) < 65536 → AllByRecursion (IsCarriedOver whole) (said_by_carrier carrier (peer_at (Some held)) sdu)
  sends_over own sdu held setup None at has fits = tt
  sends_over own sdu held setup (Some (Retransmitting machine)) at has fits = tt
  sends_over own sdu held setup (Some (Plain agreed (Some waiting))) at has fits = tt
  sends_over own sdu held setup (Some (Plain agreed None)) at has fits =
      let r : IsRead policy (run_of policy past).said own held setup = is-read policy (run_of policy past).said (run_of policy past).value own held setup at has (all-sound policy past) in
      (over_held own held setup (channel_of (headed (peer_at (Some held)) sdu)) at has r (le16-number (peer_at (Some held)) sdu fits ∙ ap (λ p. unwrap_or p 0) r.peer_is), tt)

  sent_over : (own : ℕ) (sdu : List ℕ) → peer_at (held_at own (run_of policy past).value) < 65536 → AllByRecursion (IsCarriedOver whole) (said_by_carrier (carrier_at own (run_of policy past).value) (peer_at (held_at own (run_of policy past).value)) sdu)
  sent_over own sdu fits = of (held_at own v) refl fits
    where
      opens : (held : Held) (setup : Setup) (opened : Bool) → held_at own v ≡ Some held → setup_of held.stage ≡ Some setup → peer_at (Some held) < 65536 → AllByRecursion (IsCarriedOver whole) (said_by_carrier (carrier_if opened setup) (peer_at (Some held)) sdu)
      opens held setup true at has fits' = sends_over own sdu held setup setup.carrier at has fits'
      opens held setup false at has fits' = tt

      on : (held : Held) (setup : Option Setup) → held_at own v ≡ Some held → setup_of held.stage ≡ setup → peer_at (Some held) < 65536 → AllByRecursion (IsCarriedOver whole) (said_by_carrier (open_carrier setup) (peer_at (Some held)) sdu)
      on held None at has fits' = tt
      on held (Some setup) at has fits' = opens held setup (is_open setup) at has fits'

      of : (held : Option Held) → held_at own v ≡ held → peer_at held < 65536 → AllByRecursion (IsCarriedOver whole) (said_by_carrier (open_carrier (setup_on held)) (peer_at held) sdu)
      of None at fits' = tt
      of (Some held) at fits' = on held (setup_of held.stage) at refl fits'

  given_over : (given : Option Given) (pdu : List ℕ) → next_given (run_of policy past).value ≡ given → IsSpelled given pdu → AllByRecursion (IsCarriedOver whole) (said_as given pdu)
  given_over None pdu is spelled = tt
  given_over (Some (Signal command)) pdu is spelled = tt
  given_over (Some (Whole peer sdu)) pdu is spelled = tt
  given_over (Some (Framed peer frame)) pdu is spelled =
      let sound = all-sound policy past in
      let g : Gives_out peer (Framed peer frame) v = queue-out v v.queue peer (Framed peer frame) sound.core.lone is refl in
      let r : IsRead policy (run_of policy past).said g.held.own g.held g.setup = is-read policy (run_of policy past).said v g.held.own g.held g.setup g.found g.has sound in
      (over_held g.held.own g.held g.setup (channel_of pdu) g.found g.has r ((spelled-frame peer frame pdu spelled.0 spelled.1).1 ∙ some_same peer r.peer (sym g.to ∙ r.peer_is)), tt)
    where
      some_same : (a b : ℕ) → Some a ≡ Some b → a ≡ b
      some_same a b same = cc

  one_over : (more : Occurrence) → IsUttered more (run_of policy past).value → AllByRecursion (IsCarriedOver whole) (said_in policy more (run_of policy past).value)
  one_over (Comes pdu) uttered = by (eqb (channel_of pdu) 0x0001)
    where
      by : (signals : Bool) → AllByRecursion (IsCarriedOver whole) (cond signals (said_with_all policy (answers (drop 4 pdu)) v) (Carried Into pdu ∷ asked_between v (takes (channel_of pdu) pdu v)))
      by true = bare_over whole (said_with_all policy (answers (drop 4 pdu)) v) (bare-with_all policy (answers (drop 4 pdu)) v)
      by false = (tt, bare_over whole (asked_between v (takes (channel_of pdu) pdu v)) (bare-asked v (takes (channel_of pdu) pdu v)))
  one_over (Connects psm) uttered = bare_over whole (asked_between v (connected psm v)) (bare-asked v (connected psm v))
  one_over AsksFeatures uttered = bare_over whole (asked_between v (asks_features v)) (bare-asked v (asks_features v))
  one_over (Disconnects own) uttered = bare_over whole (said_in policy (Disconnects own) v) (bare-left own v (disconnected own v))
  one_over (Sends own sdu) uttered = sent_over own sdu uttered
  one_over (Gives pdu) uttered = given_over (next_given v) pdu refl uttered
  one_over Fires uttered = bare_over whole (said_in policy Fires v) (bare-fired policy.tries (map (λ (held : Held). held.own) v.held) v)
  one_over Tells uttered = tt

all_over : (policy : Policy) (all past rest : List Occurrence) → all ≡ past ++ rest → EachAfter (λ front more. IsUttered more (run_of policy front).value) past rest → AllByRecursion (IsCarriedOver (run_of policy all).said) (run_of policy past).said
    → AllByRecursion (IsCarriedOver (run_of policy all).said) (run_of policy all).said
all_over policy all past [] is uttered over = subst (λ (l : List Occurrence). AllByRecursion (IsCarriedOver (run_of policy all).said) (run_of policy l).said) (sym (is ∙ append-nil past)) over
all_over policy all past (more ∷ rest) is (now, uttered) over =
    let here : AllByRecursion (IsCarriedOver (run_of policy all).said) (said_in policy more (run_of policy past).value) =
    subst (λ (l : List Occurrence). AllByRecursion (IsCarriedOver (run_of policy l).said) (said_in policy more (run_of policy past).value)) (sym is) (one_over policy past (more ∷ rest) more now) in
    all_over policy all (past ++ more ∷ []) rest (is ∙ sym (append_assoc past (more ∷ []) rest)) uttered
    (subst (AllByRecursion (IsCarriedOver (run_of policy all).said)) (sym (ap (λ (r : Run). r.said) (fold-append (run_on policy) new_link past (more ∷ []))))
    (all_both (IsCarriedOver (run_of policy all).said) (run_of policy past).said (said_in policy more (run_of policy past).value) over here))

pub goes-over : (policy : Policy) (list : List Occurrence) → AreUttered policy list → AllByRecursion (IsCarriedOver (run_of policy list).said) (run_of policy list).said
goes-over policy list uttered = all_over policy list [] list refl uttered tt
