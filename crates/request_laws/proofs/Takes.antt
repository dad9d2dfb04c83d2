-- What an endpoint of a host took on a link, one thing after the other; and endpoints that a profile keeps.
use Rattle.std.proofs.Common.{◌≡◌, ℕ, suc, zero, List, [], ◌∷◌, ◌++◌, fold, filter, take, Bool, true, false, cond, not, ◌&&◌, Option, Some, None, refl, sym, ap, subst, ◌∙◌, append_assoc, append-nil}
use Rattle.std.specs.Prelude.{find, length, option_map}
use Rattle.std.specs.List.{AllByRecursion}
use Rattle.std.proofs.lemmas.Bool.{eqb-true, and_parts}
use Rattle.std.proofs.lemmas.List.Sums.{fold-append}
use Rattle.pair_laws.specs.capture.specs.Histories.{each_after}
use Rattle.pair_laws.specs.link_talk.specs.Sayings.{Saying}
use Rattle.pair_laws.specs.channel_model.specs.Calls.{carrier_mtu, some_waits, carrier_at, peer_mtu, waits}
use Rattle.pair_laws.specs.channel_model.specs.Policies.{Policy}
use Rattle.pair_laws.specs.channel_model.specs.Value.{Carrier, Channels, no_channels}
use Rattle.pair_laws.specs.channel_laws.specs.Runs.{Occurrence, said_in, Run, new_link, run_on, run_of, value_after}
use Rattle.pair_laws.specs.channel_laws.specs.Taken.{is_free, taken_in, taken_of}
use Rattle.pair_laws.specs.host_model.specs.Endpoints.{Endpoint, is_of, endpoint_of, with_endpoint, fits, takes_sdu}
use Rattle.pair_laws.specs.host_model.specs.Pdus.{are_octets}
use Rattle.pair_laws.specs.host_laws.specs.Calls.{values_after}

-- ---- what was taken

abbrev pub takes_from : Policy → (own : ℕ) → Channels → List Occurrence → List (List ℕ)
takes_from policy own v [] = []
takes_from policy own v (one ∷ list) = taken_in own one v ++ takes_from policy own (value_after policy one v) list

pub takes_both : (policy : Policy) (own : ℕ) (xs ys : List Occurrence) (v : Channels) → takes_from policy own v (xs ++ ys) ≡ takes_from policy own v xs ++ takes_from policy own (values_after policy v xs) ys
takes_both policy own [] ys v = refl
takes_both policy own (x ∷ xs) ys v =
    let w = value_after policy x v in
    ap (λ (l : List (List ℕ)). taken_in own x v ++ l) (takes_both policy own xs ys w) ∙ sym (append_assoc (taken_in own x v) (takes_from policy own w xs) (takes_from policy own (values_after policy w xs) ys))

pub run_more : (policy : Policy) (before : List Occurrence) (one : Occurrence) → run_of policy (before ++ one ∷ []) ≡ run_on policy (run_of policy before) one
run_more policy before one = fold-append (run_on policy) new_link before (one ∷ [])

takes_on : (policy : Policy) (own : ℕ) (past list : List Occurrence) → each_after (λ front more. taken_in own more (run_of policy front).value) past list ≡ takes_from policy own (run_of policy past).value list
takes_on policy own past [] = refl
takes_on policy own past (one ∷ list) =
    let v = (run_of policy past).value in
    ap (λ (l : List (List ℕ)). taken_in own one v ++ l)
    (takes_on policy own (past ++ one ∷ []) list ∙ ap (λ (r : Run). takes_from policy own r.value list) (run_more policy past one))

pub takes_of : (policy : Policy) (own : ℕ) (list : List Occurrence) → taken_of policy own list ≡ takes_from policy own no_channels list
takes_of policy own list = takes_on policy own [] list

-- ---- a run goes on

pub values_run : (policy : Policy) (list : List Occurrence) (run : Run) → (fold (run_on policy) run list).value ≡ values_after policy run.value list
values_run policy [] run = refl
values_run policy (one ∷ list) run = values_run policy list (run_on policy run one)

pub value_behind : (policy : Policy) (front here : List Occurrence) (v : Channels) → v ≡ (run_of policy front).value → values_after policy v here ≡ (run_of policy (front ++ here)).value
value_behind policy front here v is =
    ap (λ (w : Channels). values_after policy w here) is ∙ (sym (values_run policy here (run_of policy front)) ∙ ap (λ (r : Run). r.value) (sym (fold-append (run_on policy) new_link front here)))

-- its talk grows
pub record Grown (before after : List Saying) : Type 0 where
  pub more : List Saying
  pub is : after ≡ before ++ more

grown_on : (policy : Policy) (list : List Occurrence) (run : Run) → Grown run.said (fold (run_on policy) run list).said
grown_on policy [] run = record { more = []; is = sym (append-nil run.said) }
grown_on policy (one ∷ list) run =
    let here = said_in policy one run.value in
    let rest = grown_on policy list (run_on policy run one) in
    record { more = here ++ rest.more; is = rest.is ∙ append_assoc run.said here rest.more }

pub grown : (policy : Policy) (front later : List Occurrence) → Grown (run_of policy front).said (run_of policy (front ++ later)).said
grown policy front later = subst (λ (r : Run). Grown (run_of policy front).said r.said) (sym (fold-append (run_on policy) new_link front later)) (grown_on policy later (run_of policy front))

-- ---- an SDU that a channel takes

-- its channel is free, and the peer takes SDUs on it
pub record IsTaken (own : ℕ) (v : Channels) : Type 0 where
  pub free : is_free (carrier_at own v) ≡ true
  pub mtu : ℕ
  pub mtu_is : peer_mtu own v ≡ Some mtu

pub is_taken : (own : ℕ) (sdu : List ℕ) (v : Channels) → takes_sdu own sdu v ≡ true → IsTaken own v
is_taken own sdu v takes =
    let both = and_parts (fits (length sdu) (peer_mtu own v)) (not (waits own v)) (and_parts (fits (length sdu) (peer_mtu own v) && not (waits own v)) (are_octets sdu) takes).0 in
    by (carrier_at own v) refl both.0 both.1
  where
    by : (carrier : Option Carrier) → carrier_at own v ≡ carrier → fits (length sdu) (option_map carrier_mtu carrier) ≡ true → not (some_waits carrier) ≡ true → IsTaken own v
    by None is fit free = cc
    by (Some carrier) is fit free = record { free = ap is_free is ∙ free; mtu = carrier_mtu carrier; mtu_is = ap (option_map carrier_mtu) is }

-- ---- the endpoints that a profile keeps

abbrev pub AllEndpoints : (Endpoint → Type 0) → List Endpoint → Type 0
AllEndpoints F endpoints = AllByRecursion F endpoints

all_taken : (F : Endpoint → Type 0) (n : ℕ) (endpoints : List Endpoint) → AllEndpoints F endpoints → AllEndpoints F (take n endpoints)
all_taken F zero endpoints all = tt
all_taken F (suc n) [] all = tt
all_taken F (suc n) (e ∷ endpoints) all = (all.0, all_taken F n endpoints all.1)

all_filtered : (F : Endpoint → Type 0) (test : Endpoint → Bool) (endpoints : List Endpoint) → AllEndpoints F endpoints → AllEndpoints F (filter test endpoints)
all_filtered F test [] all = tt
all_filtered F test (e ∷ endpoints) all = by (test e) (all_filtered F test endpoints all.1)
  where
    by : (b : Bool) → AllEndpoints F (filter test endpoints) → AllEndpoints F (cond b (e ∷ filter test endpoints) (filter test endpoints))
    by true rest = (all.0, rest)
    by false rest = rest

pub with_new : (F : Endpoint → Type 0) (psm own : ℕ) (endpoints : List Endpoint) → F (record { psm = psm; own = own }) → AllEndpoints F endpoints → AllEndpoints F (with_endpoint psm own endpoints)
with_new F psm own endpoints new all = (new, all_taken F 3 (filter (λ other. not (is_of psm other)) endpoints) (all_filtered F (λ other. not (is_of psm other)) endpoints all))

pub all_mapped : (F G : Endpoint → Type 0) (endpoints : List Endpoint) → ((e : Endpoint) → F e → G e) → AllEndpoints F endpoints → AllEndpoints G endpoints
all_mapped F G [] to all = tt
all_mapped F G (e ∷ endpoints) to all = (to e all.0, all_mapped F G endpoints to all.1)

abbrev endpoint_with : (psm own : ℕ) → Endpoint
endpoint_with psm own = record { psm = psm; own = own }

-- the one of a PSM
pub endpoint_so : (F : Endpoint → Type 0) (psm own : ℕ) (endpoints : List Endpoint) → AllEndpoints F endpoints → endpoint_of psm endpoints ≡ Some own → F (record { psm = psm; own = own })
endpoint_so F psm own [] all is = cc
endpoint_so F psm own (e ∷ endpoints) all is = by (is_of psm e) refl is (λ rest. endpoint_so F psm own endpoints all.1 rest)
  where
    by : (here : Bool) → is_of psm e ≡ here → option_map (λ (x : Endpoint). x.own) (cond here (Some e) (find (is_of psm) endpoints)) ≡ Some own → (endpoint_of psm endpoints ≡ Some own → F (record { psm = psm; own = own })) → F (record { psm = psm; own = own })
    by true here found later =
        let own_is : e.own ≡ own = cc in
        let same : e ≡ endpoint_with psm own = ap (λ n. endpoint_with n e.own) (eqb-true e.psm psm here) ∙ ap (endpoint_with psm) own_is in
        subst F same all.0
    by false here found later = later found
