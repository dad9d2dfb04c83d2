-- What an endpoint of a host took is among what the host asked to be sent to the PSM of its channel.
use Rattle.std.proofs.Common.{◌≡◌, ℕ, List, [], ◌∷◌, ◌++◌, Bool, true, false, cond, eqb, ◌&&◌, Option, Some, None, refl, sym, subst, append_assoc}
use Rattle.std.specs.List.{AllByRecursion, flat_map}
use Rattle.pair_laws.specs.bt_base.specs.declared.settings.Settings.{Settings}
use Rattle.pair_laws.specs.bt_base.specs.Objects.{Contents}
use Rattle.pair_laws.specs.channel_model.specs.Calls.{carrier_at}
use Rattle.pair_laws.specs.channel_model.specs.Policies.{Policy, policy}
use Rattle.pair_laws.specs.channel_model.specs.Value.{Channels, no_channels}
use Rattle.pair_laws.specs.channel_laws.specs.Belonging.{HasAsked}
use Rattle.pair_laws.specs.channel_laws.specs.Runs.{Occurrence, run_of}
use Rattle.pair_laws.specs.channel_laws.specs.Taken.{is_free, taken_of}
use Rattle.pair_laws.specs.push_model.specs.Server.{Lent, lends, lent_sdu}
use Rattle.pair_laws.specs.push_model.specs.Steps.{Step, Wait, MakeLink, AskFeatures, OpenChannel, SendSdu, CloseChannel, BreakLink, Ended, NoMemory, steps}
use Rattle.pair_laws.specs.push_laws.specs.Occurrences as served
use Rattle.pair_laws.specs.push_laws.specs.Parties.{sdu_if}
use Rattle.pair_laws.specs.host_model.specs.Clients.{ClientProfile, client_profile, fitted}
use Rattle.pair_laws.specs.host_model.specs.Endpoints.{endpoint_of, takes_sdu}
use Rattle.pair_laws.specs.host_model.specs.Pdus.{sdu_of}
use Rattle.pair_laws.specs.host_model.specs.Servers.{ServerProfile, server_profile}
use Rattle.pair_laws.specs.host_model.specs.Shelves.{unused}
use Rattle.pair_laws.specs.host_laws.specs.Calls.{from_call, values_after}
use Rattle.pair_laws.specs.host_laws.specs.Serving.{taken_by as sent_by, lent_by}
use Rattle.pair_laws.specs.host_laws.specs.Woven.{Strand, Hearing, Giving, Firing, Telling, Gifting, Learning, Checking, Stepping, strand_list, strand_profile, woven_list}
use Rattle.pair_laws.specs.host_laws.proofs.Asking.{send_if, sends_on, closes_on, asked, clients_ask, clients-call, hosts_ask, lent_call, servers-call}
use Rattle.request_laws.specs.Streams.{gone_on, taken_by, taken_at}
use Rattle.request_laws.specs.Twists.{taken_on}
use Rattle.request_laws.proofs.Accepted.{Opened, opened-stays}
use Rattle.request_laws.proofs.ClientTakes.{WasAsked, asked_later, Asked, strand_asked, took}
use Rattle.request_laws.proofs.Feeding.{all_both, all_ahead}
use Rattle.request_laws.proofs.ServerTakes.{WasOpened, Open, strand_open, goes_by, went}
use Rattle.request_laws.proofs.Takes.{takes_from, takes_both, takes_of, value_behind, grown, AllEndpoints, endpoint_so}

-- ---- a client

module _ (F : List ℕ → Type 0) (carrier : ℕ) (settings : Settings) where
  abbrev own : Policy
  own = policy settings false

  abbrev list_of : Strand → Channels → ClientProfile → List Occurrence
  list_of strand v p = strand_list (client_profile settings) (clients_ask settings) strand v p

  -- a channel that the client asked for with this endpoint is one to the PSM
  abbrev pub AsksFor : List Occurrence → ℕ → Type 0
  AsksFor all here = (identifier psm at : ℕ) → HasAsked identifier psm at (run_of (policy settings false) all).said → eqb at here ≡ true → eqb psm carrier ≡ true

  sdu_among : (named here free : Bool) (sdu : List ℕ) → (here ≡ true → named ≡ true) → AllByRecursion F (cond named (sdu ∷ []) []) → AllByRecursion F (cond (here && free) (sdu ∷ []) [] ++ [])
  sdu_among named false free sdu is all = tt
  sdu_among named true false sdu is all = tt
  sdu_among true true true sdu is all = (all.0, tt)
  sdu_among false true true sdu is all = let never : false ≡ true = is refl in absurd cc

  asked_for : (front later : List Occurrence) (here psm at : ℕ) (p : ClientProfile) → Asked carrier settings front p → AsksFor (front ++ later) here → endpoint_of psm p.endpoints ≡ Some at → eqb at here ≡ true → eqb psm carrier ≡ true
  asked_for front later here psm at p all sure found is =
      let was = asked_later (run_of own front).said (run_of own (front ++ later)).said (grown own front later) (record { psm = psm; own = at }) (endpoint_so (WasAsked (run_of own front).said) psm at p.endpoints all found) in
      sure was.0 psm at was.1 is

  step_among : (front later : List Occurrence) (here : ℕ) (step : Step) (v : Channels) (after : ClientProfile) → Asked carrier settings front after → AsksFor (front ++ later) here → AllByRecursion F (taken_by carrier step after.endpoints v)
      → AllByRecursion F (takes_from own here v (from_call (asked step v after)))
  step_among front later here Wait v after all sure so = tt
  step_among front later here MakeLink v after all sure so = tt
  step_among front later here AskFeatures v after all sure so = tt
  step_among front later here (OpenChannel psm) v after all sure so = tt
  step_among front later here (SendSdu psm payload) v after all sure so = on (endpoint_of psm after.endpoints) refl so
    where
      by : (at : ℕ) (takes : Bool) → endpoint_of psm after.endpoints ≡ Some at → AllByRecursion F (cond (eqb psm carrier) (cond takes (sdu_of payload ∷ []) []) []) → AllByRecursion F (takes_from own here v (from_call (send_if takes at payload)))
      by at false found so = tt
      by at true found so = sdu_among (eqb psm carrier) (eqb at here) (is_free (carrier_at at v)) (sdu_of payload) (λ is. asked_for front later here psm at after all sure found is) so

      on : (found : Option ℕ) → endpoint_of psm after.endpoints ≡ found → AllByRecursion F (cond (eqb psm carrier) (taken_on found (sdu_of payload) v) []) → AllByRecursion F (takes_from own here v (from_call (sends_on v payload found)))
      on None found so = tt
      on (Some at) found so = by at (takes_sdu at (sdu_of payload) v) found so
  step_among front later here (CloseChannel psm) v after all sure so = by (endpoint_of psm after.endpoints)
    where
      by : (found : Option ℕ) → AllByRecursion F (takes_from own here v (from_call (closes_on found)))
      by None = tt
      by (Some at) = tt
  step_among front later here BreakLink v after all sure so = tt
  step_among front later here (Ended outcome) v after all sure so = tt
  step_among front later here NoMemory v after all sure so = tt

  strand_among : (front later : List Occurrence) (here : ℕ) (strand : Strand) (v : Channels) (p : ClientProfile) → Asked carrier settings front p → AsksFor (front ++ later) here → AllByRecursion F (taken_at carrier strand v p) → AllByRecursion F (takes_from own here v (list_of strand v p))
  strand_among front later here (Hearing pdu) v p all sure so = tt
  strand_among front later here (Giving pdu) v p all sure so = tt
  strand_among front later here Firing v p all sure so = tt
  strand_among front later here Telling v p all sure so = tt
  strand_among front later here (Gifting circumstances) v p all sure so = tt
  strand_among front later here (Learning circumstances news) v p all sure so = tt
  strand_among front later here Checking v p all sure so = tt
  strand_among front later here Stepping v p all sure so =
      let one = steps p.client (fitted p) in
      let after : ClientProfile = record p { client = one.client; parts = unused one.left p.parts } in
      subst (λ call. AllByRecursion F (takes_from own here v (from_call call))) (sym (clients-call settings v p)) (step_among front later here one.step v after all sure so)

  weave_among : (here : ℕ) (weave : List Strand) (front : List Occurrence) (v : Channels) (p : ClientProfile) → v ≡ (run_of (policy settings false) front).value → Asked carrier settings front p
      → AsksFor (front ++ woven_list (client_profile settings) (clients_ask settings) weave v p) here → AllByRecursion F (took carrier settings weave v p) → AllByRecursion F (takes_from own here v (woven_list (client_profile settings) (clients_ask settings) weave v p))
  weave_among here [] front v p at all sure so = tt
  weave_among here (strand ∷ weave) front v p at all sure so =
      let list = list_of strand v p in
      let w = values_after own v list in
      let q = strand_profile (client_profile settings) strand v p in
      let rest = woven_list (client_profile settings) (clients_ask settings) weave w q in
      let parts = all_ahead F (taken_at carrier strand v p) (took carrier settings weave w q) so in
      subst (AllByRecursion F) (sym (takes_both own here list rest v))
      (all_both F (takes_from own here v list) (takes_from own here w rest) (strand_among front (list ++ rest) here strand v p all sure parts.0)
      (weave_among here weave (front ++ list) w q (value_behind own front list v at) (strand_asked carrier settings front strand v p at all) (subst (λ (l : List Occurrence). AsksFor l here) (sym (append_assoc front list rest)) sure) parts.1))

  -- of a client that keeps no endpoint when the link comes up
  pub took-among : (here : ℕ) (weave : List Strand) (p : ClientProfile) → p.endpoints ≡ [] → AsksFor (woven_list (client_profile settings) (clients_ask settings) weave no_channels p) here → AllByRecursion F (took carrier settings weave no_channels p)
      → AllByRecursion F (taken_of (policy settings false) here (woven_list (client_profile settings) (clients_ask settings) weave no_channels p))
  took-among here weave p none sure so =
      subst (AllByRecursion F) (sym (takes_of own here (woven_list (client_profile settings) (clients_ask settings) weave no_channels p)))
      (weave_among here weave [] no_channels p refl (subst (AllEndpoints (WasAsked [])) (sym none) tt) sure so)

-- ---- a server

module _ (F : List ℕ → Type 0) (carrier : ℕ) (settings : Settings) (content : Option Contents) where
  abbrev own_b : Policy
  own_b = policy settings true

  abbrev list_at : Strand → Channels → ServerProfile → List Occurrence
  list_at strand v p = strand_list (server_profile settings content) (hosts_ask.servers settings content) strand v p

  -- a channel of the talk with this endpoint is one to the PSM
  abbrev pub OpensFor : List Occurrence → ℕ → Type 0
  OpensFor all here = (psm at : ℕ) → Opened (run_of (policy settings true) all).said psm at → eqb at here ≡ true → eqb psm carrier ≡ true

  gone_among : (named here free : Bool) (sdu : List ℕ) → (here ≡ true → named ≡ true) → AllByRecursion F (sdu_if named sdu ++ []) → AllByRecursion F (cond (here && free) (sdu ∷ []) [] ++ [])
  gone_among named false free sdu is all = tt
  gone_among named true false sdu is all = tt
  gone_among true true true sdu is all = (all.0, tt)
  gone_among false true true sdu is all = let never : false ≡ true = is refl in absurd cc

  lent_among : (front later : List Occurrence) (here : ℕ) (lent : Option Lent) (v : Channels) (p : ServerProfile) → Open carrier settings content front p → OpensFor (front ++ later) here → AllByRecursion F (flat_map (gone_on carrier) (lent_by lent v p ++ []))
      → AllByRecursion F (takes_from own_b here v (from_call (lent_call lent v p)))
  lent_among front later here None v p all sure so = tt
  lent_among front later here (Some lent) v p all sure so = on (endpoint_of lent.psm p.endpoints) refl so
    where
      by : (at : ℕ) (taken : Bool) → endpoint_of lent.psm p.endpoints ≡ Some at → AllByRecursion F (flat_map (gone_on carrier) (cond taken (served.Went lent.psm (sdu_of lent.payload) ∷ []) [] ++ []))
          → AllByRecursion F (takes_from own_b here v (from_call (send_if taken at lent.payload)))
      by at false found so = tt
      by at true found so =
          let opened = endpoint_so (WasOpened carrier settings content front) lent.psm at p.endpoints all found in
          gone_among (eqb lent.psm carrier) (eqb at here) (is_free (carrier_at at v)) (sdu_of lent.payload) (λ is. sure lent.psm at (opened-stays own_b front later lent.psm at opened) is) so

      on : (found : Option ℕ) → endpoint_of lent.psm p.endpoints ≡ found → AllByRecursion F (flat_map (gone_on carrier) (sent_by found lent v ++ [])) → AllByRecursion F (takes_from own_b here v (from_call (sends_on v lent.payload found)))
      on None found so = tt
      on (Some at) found so = by at (takes_sdu at (sdu_of lent.payload) v) found so

  strand_amid : (front later : List Occurrence) (here : ℕ) (strand : Strand) (v : Channels) (p : ServerProfile) → Open carrier settings content front p → OpensFor (front ++ later) here → AllByRecursion F (goes_by carrier settings content strand v p)
      → AllByRecursion F (takes_from own_b here v (list_at strand v p))
  strand_amid front later here (Hearing pdu) v p all sure so = tt
  strand_amid front later here (Giving pdu) v p all sure so = tt
  strand_amid front later here Firing v p all sure so = tt
  strand_amid front later here Telling v p all sure so = tt
  strand_amid front later here (Gifting circumstances) v p all sure so = tt
  strand_amid front later here (Learning circumstances news) v p all sure so = tt
  strand_amid front later here Checking v p all sure so = tt
  strand_amid front later here Stepping v p all sure so =
      subst (λ call. AllByRecursion F (takes_from own_b here v (from_call call))) (sym (servers-call settings content v p)) (lent_among front later here (lent_sdu (lends p.server)) v p all sure so)

  weave_amid : (here : ℕ) (weave : List Strand) (front : List Occurrence) (v : Channels) (p : ServerProfile) → v ≡ (run_of (policy settings true) front).value → Open carrier settings content front p
      → OpensFor (front ++ woven_list (server_profile settings content) (hosts_ask.servers settings content) weave v p) here → AllByRecursion F (went carrier settings content weave v p)
      → AllByRecursion F (takes_from own_b here v (woven_list (server_profile settings content) (hosts_ask.servers settings content) weave v p))
  weave_amid here [] front v p at all sure so = tt
  weave_amid here (strand ∷ weave) front v p at all sure so =
      let list = list_at strand v p in
      let w = values_after own_b v list in
      let q = strand_profile (server_profile settings content) strand v p in
      let rest = woven_list (server_profile settings content) (hosts_ask.servers settings content) weave w q in
      let parts = all_ahead F (goes_by carrier settings content strand v p) (went carrier settings content weave w q) so in
      subst (AllByRecursion F) (sym (takes_both own_b here list rest v))
      (all_both F (takes_from own_b here v list) (takes_from own_b here w rest) (strand_amid front (list ++ rest) here strand v p all sure parts.0)
      (weave_amid here weave (front ++ list) w q (value_behind own_b front list v at) (strand_open carrier settings content front strand v p at all) (subst (λ (l : List Occurrence). OpensFor l here) (sym (append_assoc front list rest)) sure) parts.1))

  -- of a server that keeps no endpoint when the link comes up
  pub went-among : (here : ℕ) (weave : List Strand) (p : ServerProfile) → p.endpoints ≡ [] → OpensFor (woven_list (server_profile settings content) (hosts_ask.servers settings content) weave no_channels p) here → AllByRecursion F (went carrier settings content weave no_channels p)
      → AllByRecursion F (taken_of (policy settings true) here (woven_list (server_profile settings content) (hosts_ask.servers settings content) weave no_channels p))
  went-among here weave p none sure so =
      subst (AllByRecursion F) (sym (takes_of own_b here (woven_list (server_profile settings content) (hosts_ask.servers settings content) weave no_channels p)))
      (weave_amid here weave [] no_channels p refl (subst (AllEndpoints (λ e. Opened [] e.psm e.own)) (sym none) tt) sure so)
