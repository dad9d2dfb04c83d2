-- Behind the end of a channel its host is told no SDU of it; and each SDU that it is told is of a channel that is read.
use Rattle.std.proofs.Common.{◌≡◌, ℕ, List, [], ◌∷◌, ◌++◌, map, Bool, true, false, cond, ◌||◌, eqb, Option, Some, None, refl, sym, ap, ap₂, subst, ◌∙◌, append_assoc}
use Rattle.std.specs.List.{AllByRecursion}
use Rattle.std.proofs.lemmas.Bool.{eqb-true}
use Rattle.std.proofs.lemmas.List.Sums.{fold-append}
use Rattle.shelf_model.specs.acl_fragments.specs.Pieces.{channel_of}
use Rattle.push_laws.specs.link_talk.specs.Channels.{Entry, is_alive, reading}
use Rattle.channel_laws.specs.channel_model.specs.declared.event.ChannelEvent.{ChannelEvent}
use Rattle.channel_laws.specs.channel_model.specs.Value.{Setup, Stage, Requested, Connected, Leaving, Closing, Crossed, Held, Channels, no_channels}
use Rattle.channel_laws.specs.channel_model.specs.Policies.{Policy}
use Rattle.channel_laws.specs.channel_model.specs.Changing.{held_at}
use Rattle.channel_laws.specs.channel_model.specs.Carrying.{Up, Nothing, Received, sdu_at, up_by, up_on, up_at}
use Rattle.channel_laws.specs.channel_model.specs.Hearing.{up}
use Rattle.channel_laws.specs.channel_model.specs.Telling.{any_reason, closes_for, is_told_closed}
use Rattle.channel_laws.specs.channel_model.proofs.Walking.{found-own}
use Rattle.channel_laws.specs.Runs.{Occurrence, Comes, Connects, AsksFeatures, Disconnects, Sends, Gives, Fires, Run, new_link, run_on, run_of, value_after, told_in, up_with}
use Rattle.channel_laws.specs.Runs as runs
use Rattle.channel_laws.specs.Views.{IsRead, IsReadBy, channel_by, life_of, peer_of, read_at}
use Rattle.channel_laws.specs.Endpoints.{IsOf}
use Rattle.channel_laws.proofs.Running.{along, channels-are_read}
use Rattle.channel_laws.proofs.Telling.{HeldTold, StageTold, RunTold, nothing_told, one_told}
use Rattle.channel_laws.proofs.Naming.{endpoints-name_one}
use Rattle.host_laws.specs.Feeds.{Tiding, Brings, Tells, Turns, brought_by, tidings_from}
use Rattle.host_laws.specs.Told.{events_told, sdus_told, IsEnded, IsOfChannel}

-- ---- what is told of an end

-- the one list behind another
pub all-told : (policy : Policy) (list : List Occurrence) → RunTold (run_of policy list)
all-told policy list = (along policy RunTold nothing_told (λ before more sound told. one_told policy before more sound.core.lone told) list).1

any_more : (own : ℕ) (xs ys : List ChannelEvent) → is_told_closed own xs ≡ true → is_told_closed own (xs ++ ys) ≡ true
any_more own [] ys is = cc
any_more own (x ∷ xs) ys is = by (closes_for any_reason own x) is (λ rest. any_more own xs ys rest)
  where
    by : (b : Bool) → (b || is_told_closed own xs) ≡ true → (is_told_closed own xs ≡ true → is_told_closed own (xs ++ ys) ≡ true) → (b || is_told_closed own (xs ++ ys)) ≡ true
    by true now later = refl
    by false now later = later now

-- ---- what brings an SDU

-- it is open, or shown to be so
abbrev IsConnected : (psm own : ℕ) → Option Held → Type 0
IsConnected psm own None = ⊥
IsConnected psm own (Some held) = (peer : ℕ) × (setup : Setup) × (held.stage ≡ Connected peer setup) × (held.psm ≡ psm) × (held.own ≡ own)

abbrev Comes_of : Channels → Up → Type 0
Comes_of v Nothing = Unit {0}
Comes_of v (Received own psm sdu) = IsConnected psm own (held_at own v)

up_stage : (v : Channels) (held : Held) (stage : Stage) (pdu : List ℕ) → held.stage ≡ stage → held_at held.own v ≡ Some held → Comes_of v (up_by (sdu_at stage pdu) held)
up_stage v held (Requested request) pdu is found = tt
up_stage v held (Connected peer setup) pdu is found = by (sdu_at (Connected peer setup) pdu)
  where
    by : (octets : Option (List ℕ)) → Comes_of v (up_by octets held)
    by None = tt
    by (Some octets) = subst (IsConnected held.psm held.own) (sym found) (peer, setup, is, refl, refl)
up_stage v held (Leaving peer setup request) pdu is found = tt
up_stage v held (Closing peer request checked) pdu is found = tt
up_stage v held (Crossed peer request) pdu is found = tt

up_held : (v : Channels) (own : ℕ) (found : Option Held) (pdu : List ℕ) → held_at own v ≡ found → Comes_of v (up_on found pdu)
up_held v own None pdu is = tt
up_held v own (Some held) pdu is = up_stage v held held.stage pdu refl (found-own own v held is)

up_so : (v : Channels) (endpoint : ℕ) (pdu : List ℕ) (signals : Bool) → Comes_of v (cond signals Nothing (up_at endpoint pdu v))
up_so v endpoint pdu true = tt
up_so v endpoint pdu false = up_held v endpoint (held_at endpoint v) pdu refl

comes_so : (v : Channels) (one : Occurrence) → Comes_of v (up_with one v)
comes_so v (Comes pdu) = up_so v (channel_of pdu) pdu (eqb (channel_of pdu) 0x0001)
comes_so v (Connects psm) = tt
comes_so v AsksFeatures = tt
comes_so v (Disconnects own) = tt
comes_so v (Sends own sdu) = tt
comes_so v (Gives pdu) = tt
comes_so v Fires = tt
comes_so v runs.Tells = tt

-- ---- none is told behind an end

abbrev Silent : (own : ℕ) → (closed : Bool) → List Tiding → Type 0
Silent own closed [] = Unit {0}
Silent own closed (Brings other psm sdu ∷ rest) = (closed ≡ true → eqb other own ≡ false) × Silent own closed rest
Silent own closed (Tells event ∷ rest) = Silent own (closed || closes_for any_reason own event) rest
Silent own closed (Turns event ∷ rest) = Silent own closed rest

silent_events : (own : ℕ) (closed : Bool) (events : List ChannelEvent) (rest : List Tiding) → Silent own (closed || is_told_closed own events) rest → Silent own closed (map Tells events ++ rest)
silent_events own closed [] rest silent = subst (λ b. Silent own b rest) (or_false closed) silent
  where
    or_false : (b : Bool) → (b || false) ≡ b
    or_false true = refl
    or_false false = refl
silent_events own closed (event ∷ events) rest silent =
    silent_events own (closed || closes_for any_reason own event) events rest (subst (λ b. Silent own b rest) (assoc closed (closes_for any_reason own event) (is_told_closed own events)) silent)
  where
    assoc : (a b c : Bool) → (a || (b || c)) ≡ ((a || b) || c)
    assoc true b c = refl
    assoc false b c = refl

silent_with : (own : ℕ) (closed : Bool) (one : Up) (events : List ChannelEvent) (rest : List Tiding) → Silent own closed (brought_by one) → Silent own (closed || is_told_closed own events) rest
    → Silent own closed ((brought_by one ++ map Tells events) ++ rest)
silent_with own closed Nothing events rest up silent = silent_events own closed events rest silent
silent_with own closed (Received other psm sdu) events rest up silent = (up.0, silent_events own closed events rest silent)

-- a channel that is there was not told to be closed
open_told : (psm own : ℕ) (found : Option Held) (closed : Bool) → IsConnected psm own found → HeldTold found closed → closed ≡ false
open_told psm own None closed is told = absurd is
open_told psm own (Some held) closed (peer, setup, stage_is, psm_is, own_is) told = let at : StageTold (Connected peer setup) closed = subst (λ s. StageTold s closed) stage_is told in at.1

silent_up : (run : Run) (own : ℕ) (up : Up) → RunTold run → Comes_of run.value up → Silent own (is_told_closed own run.told) (brought_by up)
silent_up run own Nothing told comes = tt
silent_up run own (Received other psm sdu) told comes = (λ closed. by (eqb other own) refl closed, tt)
  where
    by : (same : Bool) → eqb other own ≡ same → is_told_closed own run.told ≡ true → same ≡ false
    by false is closed = refl
    by true is closed =
        let at : is_told_closed own (run.told ++ run.value.events) ≡ false =
        subst (λ n. is_told_closed n (run.told ++ run.value.events) ≡ false) (eqb-true other own is) (open_told psm other (held_at other run.value) (is_told_closed other (run.told ++ run.value.events)) comes (told.at other)) in
        let never : true ≡ false = sym (any_more own run.told run.value.events closed) ∙ at in
        absurd cc

run_more : (policy : Policy) (before : List Occurrence) (one : Occurrence) → run_of policy (before ++ one ∷ []) ≡ run_on policy (run_of policy before) one
run_more policy before one = fold-append (run_on policy) new_link before (one ∷ [])

any_both : (own : ℕ) (xs ys : List ChannelEvent) → is_told_closed own (xs ++ ys) ≡ (is_told_closed own xs || is_told_closed own ys)
any_both own [] ys = refl
any_both own (x ∷ xs) ys = ap (λ b. closes_for any_reason own x || b) (any_both own xs ys) ∙ assoc (closes_for any_reason own x) (is_told_closed own xs) (is_told_closed own ys)
  where
    assoc : (a b c : Bool) → (a || (b || c)) ≡ ((a || b) || c)
    assoc true b c = refl
    assoc false b c = refl

silent_on : (policy : Policy) (own : ℕ) (before list : List Occurrence) → Silent own (is_told_closed own (run_of policy before).told) (tidings_from policy (run_of policy before).value list)
silent_on policy own before [] = tt
silent_on policy own before (one ∷ list) =
    let run = run_of policy before in
    let later : Silent own (is_told_closed own (run.told ++ told_in one run.value)) (tidings_from policy (value_after policy one run.value) list) =
    subst (λ (r : Run). Silent own (is_told_closed own r.told) (tidings_from policy r.value list)) (run_more policy before one) (silent_on policy own (before ++ one ∷ []) list) in
    silent_with own (is_told_closed own run.told) (up_with one run.value) (told_in one run.value) (tidings_from policy (value_after policy one run.value) list)
    (silent_up run own (up_with one run.value) (all-told policy before) (comes_so run.value one))
    (subst (λ b. Silent own b (tidings_from policy (value_after policy one run.value) list)) (any_both own run.told (told_in one run.value)) later)

-- so it is behind any front
silent_behind : (own : ℕ) (closed : Bool) (before after : List Tiding) → Silent own closed (before ++ after) → Silent own (closed || is_told_closed own (events_told before)) after
silent_behind own closed [] after silent = subst (λ b. Silent own b after) (sym (or_false closed)) silent
  where
    or_false : (b : Bool) → (b || false) ≡ b
    or_false true = refl
    or_false false = refl
silent_behind own closed (Brings other psm sdu ∷ before) after silent = silent_behind own closed before after silent.1
silent_behind own closed (Tells event ∷ before) after silent =
    subst (λ b. Silent own b after) (assoc closed (closes_for any_reason own event) (is_told_closed own (events_told before))) (silent_behind own (closed || closes_for any_reason own event) before after silent)
  where
    assoc : (a b c : Bool) → ((a || b) || c) ≡ (a || (b || c))
    assoc true b c = refl
    assoc false b c = refl
silent_behind own closed (Turns event ∷ before) after silent = silent_behind own closed before after silent

none_then : (own : ℕ) (tidings : List Tiding) → Silent own true tidings → sdus_told own tidings ≡ []
none_then own [] silent = refl
none_then own (Brings other psm sdu ∷ rest) silent = rw (silent.0 refl) (none_then own rest silent.1)
none_then own (Tells event ∷ rest) silent = none_then own rest silent
none_then own (Turns event ∷ rest) silent = none_then own rest silent

pub ends-are_last : (policy : Policy) (list : List Occurrence) (own : ℕ) (before after : List Tiding) → tidings_from policy no_channels list ≡ before ++ after → is_told_closed own (events_told before) ≡ true → sdus_told own after ≡ []
ends-are_last policy list own before after is closed =
    none_then own after (subst (λ b. Silent own b after) closed (silent_behind own false before after (subst (Silent own false) is (silent_on policy own [] list))))

-- ---- a channel whose end was told

held_ended : (policy : Policy) (found : Option Held) (entry : Option Entry) → HeldTold found true → IsRead policy found entry → IsEnded entry
held_ended policy None None told read = tt
held_ended policy None (Some entry) told read = ap is_alive read
held_ended policy (Some held) entry told read = by held.stage refl entry told read
  where
    by : (stage : Stage) → held.stage ≡ stage → (entry : Option Entry) → StageTold stage true → IsReadBy policy held (peer_of stage) entry → IsEnded entry
    by (Requested request) is None told read = tt
    by (Requested request) is (Some entry) told read = absurd read
    by (Connected peer setup) is entry told read = let never = told.1 in cc
    by (Leaving peer setup request) is entry told read = let never = told.1 in cc
    by (Closing peer request checked) is None told read = tt
    by (Closing peer request checked) is (Some entry) told read = ap is_alive (read.0.life_is ∙ ap life_of is)
    by (Crossed peer request) is None told read = tt
    by (Crossed peer request) is (Some entry) told read = ap is_alive (read.0.life_is ∙ ap life_of is)

pub told-ended : (policy : Policy) (list : List Occurrence) (own : ℕ) → is_told_closed own (run_of policy list).told ≡ true → IsEnded (read_at own (reading (run_of policy list).said).entries)
told-ended policy list own closed =
    let run = run_of policy list in
    let at : HeldTold (held_at own run.value) true = subst (HeldTold (held_at own run.value)) (any_more own run.told run.value.events closed) ((all-told policy list).at own) in
    held_ended policy (held_at own run.value) (read_at own (reading run.said).entries) at (channels-are_read policy list own)

-- ---- SDUs are of channels that are read

connected_read : (policy : Policy) (psm own : ℕ) (found : Option Held) (entry : Option Entry) → IsConnected psm own found → IsRead policy found entry → (peer : ℕ) × IsOf (channel_by psm own peer) entry
connected_read policy psm own None entry is read = absurd is
connected_read policy psm own (Some held) entry (peer, setup, stage_is, psm_is, own_is) read = by entry (subst (λ s. IsReadBy policy held (peer_of s) entry) stage_is read)
  where
    by : (entry : Option Entry) → IsReadBy policy held (Some peer) entry → (at : ℕ) × IsOf (channel_by psm own at) entry
    by None read = absurd read
    by (Some entry) read = (peer, read.0.channel_is ∙ ap₂ (λ (p o : ℕ). channel_by p o peer) psm_is own_is)

lasting : (policy : Policy) (before later : List Occurrence) (channel_own : ℕ) (psm peer : ℕ) → IsOf (channel_by psm channel_own peer) (read_at channel_own (reading (run_of policy before).said).entries)
    → IsOf (channel_by psm channel_own peer) (read_at channel_own (reading (run_of policy (before ++ later)).said).entries)
lasting policy before later own psm peer is = by (read_at own (reading (run_of policy before).said).entries) refl is
  where
    by : (found : Option Entry) → read_at own (reading (run_of policy before).said).entries ≡ found → IsOf (channel_by psm own peer) found → IsOf (channel_by psm own peer) (read_at own (reading (run_of policy (before ++ later)).said).entries)
    by None at is = absurd is
    by (Some entry) at is = subst (λ c. IsOf c (read_at own (reading (run_of policy (before ++ later)).said).entries)) is (endpoints-name_one policy before later own entry at)

of_up : (policy : Policy) (before later : List Occurrence) (up : Up) → Comes_of (run_of policy before).value up → AllByRecursion (IsOfChannel (reading (run_of policy (before ++ later)).said).entries) (brought_by up)
of_up policy before later Nothing comes = tt
of_up policy before later (Received own psm sdu) comes =
    let run = run_of policy before in
    let (peer, is) = connected_read policy psm own (held_at own run.value) (read_at own (reading run.said).entries) comes (channels-are_read policy before own) in
    ((peer, lasting policy before later own psm peer is), tt)

of_events : (entries : List Entry) (events : List ChannelEvent) (rest : List Tiding) → AllByRecursion (IsOfChannel entries) rest → AllByRecursion (IsOfChannel entries) (map Tells events ++ rest)
of_events entries [] rest all = all
of_events entries (event ∷ events) rest all = (tt, of_events entries events rest all)

of_with : (entries : List Entry) (one : Up) (events : List ChannelEvent) (rest : List Tiding) → AllByRecursion (IsOfChannel entries) (brought_by one) → AllByRecursion (IsOfChannel entries) rest
    → AllByRecursion (IsOfChannel entries) ((brought_by one ++ map Tells events) ++ rest)
of_with entries Nothing events rest up all = of_events entries events rest all
of_with entries (Received own psm sdu) events rest up all = (up.0, of_events entries events rest all)

of_on : (policy : Policy) (before list : List Occurrence) → AllByRecursion (IsOfChannel (reading (run_of policy (before ++ list)).said).entries) (tidings_from policy (run_of policy before).value list)
of_on policy before [] = tt
of_on policy before (one ∷ list) =
    let run = run_of policy before in
    let entries = (reading (run_of policy (before ++ one ∷ list)).said).entries in
    let later : AllByRecursion (IsOfChannel entries) (tidings_from policy (value_after policy one run.value) list) =
    subst (λ (r : Run). AllByRecursion (IsOfChannel entries) (tidings_from policy r.value list)) (run_more policy before one)
    (subst (λ (whole : List Occurrence). AllByRecursion (IsOfChannel (reading (run_of policy whole).said).entries) (tidings_from policy (run_of policy (before ++ one ∷ [])).value list)) (append_assoc before (one ∷ []) list)
    (of_on policy (before ++ one ∷ []) list)) in
    of_with entries (up_with one run.value) (told_in one run.value) (tidings_from policy (value_after policy one run.value) list)
    (of_up policy before (one ∷ list) (up_with one run.value) (comes_so run.value one)) later

pub channels-are_named : (policy : Policy) (list : List Occurrence) → AllByRecursion (IsOfChannel (reading (run_of policy list).said).entries) (tidings_from policy no_channels list)
channels-are_named policy list = of_on policy [] list
