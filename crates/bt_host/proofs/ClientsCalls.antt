-- The calls of the end of a client, by what its parts did.
use Rattle.std.proofs.Common.{◌≡◌, ◌∙◌, ◌≤◌, not, ℕ, Bool, true, false, List, [], ◌∷◌, length, refl, sym, ap, subst, if◌then◌else◌, take, filter}
use Rattle.std.proofs.lemmas.Bool.{false≢true}
use Rattle.std.specs.Prelude.{Option, Some, None, IfSome, find, option_map}
use Rattle.std.specs.Option.{IsSome}
use Rattle.std.specs.List.{AllByRecursion}
use Rattle.bt_base.specs.Numbers.{IsCid}
use Rattle.bt_base.specs.Objects.{Object}
use Rattle.bt_base.specs.Octets.{IsOctets}
use Rattle.bt_base.specs.declared.settings.Settings.{Settings}
use Rattle.channel_model.specs.Value.{Channels}
use Rattle.channel_model.specs.Calls.{sends}
use Rattle.l2cap_channels.specs.Machine.{Machine, with_channels}
use Rattle.l2cap_channels.specs.Sending.{takes}
use Rattle.shelf_model.specs.obex_session.specs.PutPackets.{units_in}
use Rattle.push_model.specs.Client.{Client, cancelled}
use Rattle.push_model.specs.Payloads.{Payload, IsSaid}
use Rattle.push_model.specs.Steps as course
use Rattle.push_model.specs.Steps.{steps, stepped}
use Rattle.push_client.specs.Ending as push
use Rattle.push_client.specs.Pushing.{gone, payload_in, step_of, wants_memory, Begins}
use Rattle.push_client.specs.Putting.{Comes}
use Rattle.push_client.specs.declared.step.Step.{Step}
use Rattle.push_client.specs.declared.step.Step.TheVariants as step
use Rattle.shelf_model.specs.world_model.specs.Machines.{Cancelled, Opening}
use Rattle.shelf_model.specs.host_model.specs.Clients as model
use Rattle.shelf_model.specs.host_model.specs.Clients.{ClientProfile, client_profile, calls}
use Rattle.shelf_model.specs.host_model.specs.Endpoints.{Endpoint, is_of, endpoint_of, with_endpoint, takes_sdu}
use Rattle.shelf_model.specs.host_model.proofs.Single.{only_sdu}
use Rattle.bt_host.specs.Calls.{Does}
use Rattle.bt_host.specs.Pushing.{HasCid, Pushes, IsDue}
use Rattle.bt_host.specs.PushingLaws.{Answers}
use Rattle.bt_host.specs.Shelving.{told_shelved, shelf_profile, shelved_by}
use Rattle.bt_host.proofs.Clients.{ended_is, StepsTo, step_does, step_sound}
use Rattle.bt_host.proofs.Shelving.{steps_shelved}
use Rattle.bt_host.proofs.ClientsBeginning.{calls_is, asked_is, asks_link, opening, begin_does}
use Rattle.bt_host.proofs.Servers.{takes-octets}

-- ---- its channels

one_cid : (test : Bool) (own : ℕ) (endpoint : Endpoint) (others : Option Endpoint) → HasCid endpoint → (option_map (λ (e : Endpoint). e.own) others ≡ Some own → IsCid own)
    → option_map (λ (e : Endpoint). e.own) (if test then Some endpoint else others) ≡ Some own → IsCid own
one_cid true own endpoint others first later is = let same : endpoint.own ≡ own = cc in subst IsCid same first
one_cid false own endpoint others first later is = later is

first_cid : (psm own : ℕ) (endpoints : List Endpoint) → AllByRecursion HasCid endpoints → option_map (λ (e : Endpoint). e.own) (find (is_of psm) endpoints) ≡ Some own → IsCid own
first_cid psm own [] all is = cc
first_cid psm own (endpoint ∷ endpoints) all is = one_cid (is_of psm endpoint) own endpoint (find (is_of psm) endpoints) all.0 (first_cid psm own endpoints all.1) is

cid_some : (result : Option ℕ) (own : ℕ) → IsSome result → IfSome result (λ cid. cid ≡ own) → result ≡ Some own
cid_some None own some value = absurd (false≢true some)
cid_some (Some cid) own some value = ap Some value

pub cid_is : (end now : ClientProfile) (psm number own : ℕ) (found result : Option ℕ) → end ≡ now → number ≡ psm → AllByRecursion HasCid now.endpoints → found ≡ endpoint_of number end.endpoints → found ≡ Some own
    → (IsCid own → IsSome result) → IfSome result (λ cid. cid ≡ own) → result ≡ endpoint_of psm now.endpoints
cid_is end now psm number own found result view number_is all found_is some exactly value =
    let at : endpoint_of psm now.endpoints ≡ Some own = ap (λ (e : ClientProfile). endpoint_of psm e.endpoints) (sym view) ∙ ap (λ (n : ℕ). endpoint_of n end.endpoints) (sym number_is) ∙ sym found_is ∙ some in
    cid_some result own (exactly (first_cid psm own now.endpoints all at)) value ∙ sym at

kept_cid : (keep : Bool) (endpoint : Endpoint) (others : List Endpoint) → HasCid endpoint → AllByRecursion HasCid others → AllByRecursion HasCid (if keep then endpoint ∷ others else others)
kept_cid true endpoint others first rest = (first, rest)
kept_cid false endpoint others first rest = rest

filter_cid : (test : Endpoint → Bool) (endpoints : List Endpoint) → AllByRecursion HasCid endpoints → AllByRecursion HasCid (filter test endpoints)
filter_cid test [] all = tt
filter_cid test (endpoint ∷ endpoints) all = kept_cid (test endpoint) endpoint (filter test endpoints) all.0 (filter_cid test endpoints all.1)

three_cid : (endpoints : List Endpoint) → AllByRecursion HasCid endpoints → AllByRecursion HasCid (take 3 endpoints)
three_cid [] all = tt
three_cid (a ∷ []) all = all
three_cid (a ∷ b ∷ []) all = all
three_cid (a ∷ b ∷ c ∷ more) all = (all.0, (all.1.0, (all.1.1.0, tt)))

pub put_cid : (psm own : ℕ) (endpoints : List Endpoint) → IsCid own → AllByRecursion HasCid endpoints → AllByRecursion HasCid (with_endpoint psm own endpoints)
put_cid psm own endpoints cid all = (cid, three_cid (filter (λ other. not (is_of psm other)) endpoints) (filter_cid (λ other. not (is_of psm other)) endpoints all))

-- ---- its SDU

pub submit_is : (end now : ClientProfile) (own psm : ℕ) (sdu : List ℕ) (machine machine' : Machine) → end ≡ now → endpoint_of psm now.endpoints ≡ Some own → IsSaid (payload_in end.client) sdu → IsOctets sdu → takes own (length sdu) machine.channels ≡ true
    → machine' ≡ with_channels machine (sends own sdu machine.channels)
    → record { channels = machine'.channels; profile = record end { submitted = Some own }; more = false } ≡ model.submits (endpoint_of psm now.endpoints) (payload_in now.client) machine.channels now
submit_is end now own psm sdu machine machine' view at said octets may machine_is =
    let v = machine.channels in
    let after = record end { submitted = Some own } in
    ap (λ (m : Machine). model.waiting m.channels after) machine_is
    ∙ sym (ap (λ (b : Bool). (if b then model.waiting (sends own sdu v) after else model.waiting v end)) (takes-octets own sdu v octets ∙ may))
    ∙ ap (λ (xs : List ℕ). (if takes_sdu own xs v then model.waiting (sends own xs v) after else model.waiting v end)) (only_sdu (payload_in end.client) sdu said)
    ∙ sym (ap (λ (found : Option ℕ). model.submits found (payload_in end.client) v end) (ap (λ (e : ClientProfile). endpoint_of psm e.endpoints) view ∙ at))
    ∙ ap (λ (e : ClientProfile). model.submits (endpoint_of psm e.endpoints) (payload_in e.client) v e) view

-- ---- what it is told

pub lost_is : (heard : Client → Client) (end now after : ClientProfile) (mid new : Client) → end ≡ now → mid ≡ heard end.client → new ≡ push.ended mid → after ≡ model.unlinked new end → after ≡ model.unlinked (model.ended (heard now.client)) now
lost_is heard end now after mid new view mid_is new_is after_is =
    after_is ∙ ap (λ (c : Client). model.unlinked c end) (new_is ∙ ap push.ended mid_is ∙ sym (ended_is (heard end.client))) ∙ ap (λ (e : ClientProfile). model.unlinked (model.ended (heard e.client)) e) view

pub cancel_is : (end now : ClientProfile) (mid new : Client) → end ≡ now → mid ≡ cancelled end.client → new ≡ push.ended mid → record end { client = new } ≡ model.told [] Cancelled now
cancel_is end now mid new view mid_is new_is =
    ap (λ (c : Client). record end { client = c }) (new_is ∙ ap push.ended mid_is ∙ sym (ended_is (cancelled end.client))) ∙ ap (model.told [] Cancelled) view

-- ---- a step

not_short : (result : Step) → (result ≡ step.NoMemory → ⊥) → wants_memory result ≡ false
not_short step.Wait none = refl
not_short step.MakeLink none = refl
not_short step.AskFeatures none = refl
not_short (step.OpenChannel psm) none = refl
not_short (step.SendSdu psm) none = refl
not_short (step.CloseChannel psm) none = refl
not_short step.BreakLink none = refl
not_short (step.Ended outcome) none = refl
not_short step.NoMemory none = absurd (none refl)

pub stepped_sound : {content : Option (List Object)} {f f' s s' : ℕ} (end now mid after : ClientProfile) (new : Client) (result : Step) (lacks more : Bool) (v v' : Channels) → end ≡ now
    → mid ≡ record end { client = new } → Pushes now → Comes (steps end.client) (gone new result) end.client content f f' s s' lacks → wants_memory result ≡ new.failed → (result ≡ step.NoMemory → ⊥)
    → record { channels = v'; profile = after; more = more } ≡ model.takes (step_of (payload_in mid.client) result) v mid mid → AllByRecursion HasCid after.endpoints → Pushes after
stepped_sound end now mid after new result lacks more v v' view mid_is sound k fails none takes_is endpoints =
    step_sound end mid after new result lacks more v v' mid_is (subst Pushes (sym view) sound) k fails (not_short result none) takes_is endpoints

make_link : (payload : Payload) (result : Step) → course.MakeLink ≡ step_of payload result → result ≡ step.MakeLink
make_link payload step.Wait is = cc
make_link payload step.MakeLink is = refl
make_link payload step.AskFeatures is = cc
make_link payload (step.OpenChannel psm) is = cc
make_link payload (step.SendSdu psm) is = cc
make_link payload (step.CloseChannel psm) is = cc
make_link payload step.BreakLink is = cc
make_link payload (step.Ended outcome) is = cc
make_link payload step.NoMemory is = cc

module _ {content : Option (List Object)} {f f' s s' : ℕ} (end now : ClientProfile) (new : Client) (result : Step) (lacks : Bool) (view : end ≡ now) (due : IsDue now.client) (k : Comes (steps end.client) (gone new result) end.client content f f' s s' lacks) where
  due_end : IsDue end.client
  due_end = subst (λ (e : ClientProfile). IsDue e.client) (sym view) due

  pub call_is : (done : Client) → done ≡ stepped new → record end { client = done; bid = model.Paging } ≡ calls now
  call_is done done_is =
      ap (λ (c : Client). record end { client = c; bid = model.Paging }) (done_is ∙ ap stepped (asked_is end.client new result lacks due_end k)) ∙ sym (calls_is end due_end) ∙ ap calls view

  pub makes_link : result ≡ step.MakeLink
  makes_link = make_link (payload_in new) result (asks_link end.client new result lacks due_end k)

module _ {P : Type 0} (content : P → Option (List Object)) (faults shortages : P → ℕ) where
  pub stepped_does : (end now mid after : ClientProfile) (new : Client) (result : Step) (lacks more : Bool) (v v' : Channels) (first last : P) → end ≡ now
      → mid ≡ record end { client = new } → Pushes now
      → Comes (steps end.client) (gone new result) end.client (content first) (faults first) (faults last) (shortages first) (shortages last) lacks → wants_memory result ≡ new.failed → (result ≡ step.NoMemory → ⊥) → content last ≡ content first
      → record { channels = v'; profile = after; more = more } ≡ model.takes (step_of (payload_in mid.client) result) v mid mid
      → (settings : Settings) → Does (Answers content faults shortages) (λ rest. (shelf_profile settings).steps v (shelved_by content now first rest)) (λ rest. record { channels = v'; profile = shelved_by content after last rest; more = more }) first last
  stepped_does end now mid after new result lacks more v v' first last view mid_is sound k fails none stays takes_is settings =
      steps_shelved content faults shortages v v' more now after first last settings (
      subst (λ (e : ClientProfile). StepsTo content faults shortages settings e after more v v' first last) view
      (step_does content faults shortages end mid after new result lacks more v v' first last mid_is (subst Pushes (sym view) sound).called k (sym fails ∙ not_short result none) stays takes_is settings))

  pub begun_does : (end now new : ClientProfile) (mid after : Client) (name : List ℕ) (first second last : P) → length (units_in name) ≤ 100 → end ≡ now → Pushes now
      → (b : Begins end.client mid name (content first) (faults first) (faults second) (shortages first) (shortages second)) → mid.failed ≡ false → content second ≡ content first → after ≡ push.ended mid → new ≡ calls (opening end after)
      → Answers content faults shortages second [] last
      → Does (Answers content faults shortages) (λ rest. told_shelved rest (Opening name) (shelved_by content now first rest)) (shelved_by content new last) first last
  begun_does end now new mid after name first second last few view sound b works stays is new_is behind =
      subst (λ (e : ClientProfile). Does (Answers content faults shortages) (λ rest. told_shelved rest (Opening name) (shelved_by content e first rest)) (shelved_by content new last) first last) view
      (begin_does content faults shortages end new mid after name first second last few (subst Pushes (sym view) sound).works b works stays is new_is behind)
