-- What a frame does to the receiver that hears it.
use Rattle.std.proofs.Common.{ℕ, ◌≡◌, ◌+◌, ◌-◌, ◌%◌, ◌<◌, ◌≤◌, ◌⊎◌, inl, inr, max, Bool, true, false, cond, List, [], ◌∷◌, ◌++◌, length, Option, None, refl, ap, sym, ◌∙◌, subst, arith, length-append, append-nil}
use Rattle.std.specs.Prelude.{nat_lt, ◌==◌, ◌&&◌, slice_get}
use Rattle.std.specs.List.{AllByRecursion}
use Rattle.std.proofs.lemmas.List.{append_assoc}
use Rattle.std.proofs.lemmas.Bool.{le-ltb, ne_eqb}
use Rattle.ertm_frames.specs.Frames.{information}
use Rattle.ertm_frames.specs.Segments.{Segment}
use Rattle.ertm_frames.specs.Joining.{Begun, Joint, Misplaced, Begins, Ends, joint, Joining, At, Stopped, joined_by, ended_by, joined, ended}
use Rattle.ertm_frames.proofs.Longest.{joined-append, ended-append, joined-stopped}
use Rattle.ertm_model.specs.declared.reason.ErtmReason.{ErtmReason}
use Rattle.ertm_model.specs.Value.{Kept, Rejects, Receiver}
use Rattle.ertm_model.specs.Hearing.{past, Place, Expected, Ahead, Other, place_of, stated, joint_fault, place_fault, begun_after, placed_after, segment_of, sdu_by, placed_sdu}
use Rattle.ertm_model.specs.Pair.{Sent, placed_segment, listed}
use Rattle.ertm_model.specs.Order.{Way}
use Rattle.ertm_model.proofs.Counting.{past-up, past-down, Order, below, equal, above, order}
use Rattle.ertm_model.proofs.Lists.{get-behind, get-first, all-of}
use Rattle.ertm_model.proofs.Queues.{flies-still, rises-more}

-- ---- where a number stands

pub data PlaceIs (n c : ℕ) (place : Place) : Type 0 where
  at : n ≡ c → place ≡ Expected → PlaceIs n c place
  ahead : c < n → (place ≡ Ahead) ⊎ (place ≡ Other) → PlaceIs n c place
  behind : n < c → place ≡ Other → PlaceIs n c place

one_of : (b : Bool) → (cond b Ahead Other ≡ Ahead) ⊎ (cond b Ahead Other ≡ Other)
one_of true = inl refl
one_of false = inr refl

not_both : (b : Bool) → cond (b && false) Ahead Other ≡ Other
not_both true = refl
not_both false = refl

place_by : (window own n c : ℕ) → window ≤ own → own ≤ 63 → c ≤ n + window → n < c + window → Order n c → PlaceIs n c (place_of own (past (c % 64) (n % 64)))
place_by window own n c within most low high (below h) =
    let d : past (c % 64) (n % 64) ≡ n + 64 - c = past-down c n h (omega arith) in
    let e : (n + 64 - c == 0) ≡ false = ne_eqb (n + 64 - c) 0 (λ e. omega (arith, e)) in
    let g : nat_lt (n + 64 - c + own) 64 ≡ false = le-ltb (n + 64 - c + own) 64 (omega arith) in
    behind h (rw (d, e, g) (not_both (nat_lt (n + 64 - c) own)))
place_by window own n c within most low high (equal h) =
    let d : past (c % 64) (n % 64) ≡ 0 = past-up c n (omega arith) (omega arith) ∙ omega arith in
    at h (rw d refl)
place_by window own n c within most low high (above h) =
    let d : past (c % 64) (n % 64) ≡ n - c = past-up c n (omega arith) (omega arith) in
    let e : (n - c == 0) ≡ false = ne_eqb (n - c) 0 (λ e. omega (arith, e)) in
    ahead h (rw (d, e) (one_of (nat_lt (n - c) own && nat_lt (n - c + own) 64)))

pub place-is : (window own n c : ℕ) → window ≤ own → own ≤ 63 → c ≤ n + window → n < c + window → PlaceIs n c (place_of own (past (c % 64) (n % 64)))
place-is window own n c within most low high = place_by window own n c within most low high (order n c)

-- ---- what the expected segment makes

-- it has its place, and is of no SDU that is too long
record JoinsOn (j : Joint) : Type 0 where
  joins : joined_by j ≡ At (begun_after j)
  ends : ended_by j ++ [] ≡ listed (sdu_by j)
  harmless : (mtu : ℕ) (segment : Segment) → stated segment ≤ mtu → joint_fault j mtu segment ≡ None

joins_on : (j : Joint) (rest : List Segment) → joined (joined_by j) rest ≡ At None → JoinsOn j
joins_on Misplaced rest is = let e : Stopped ≡ At None = sym (joined-stopped rest) ∙ is in cc
joins_on (Begins begun) rest is = record { joins = refl; ends = refl; harmless = λ mtu segment le. let e = le-ltb mtu (stated segment) le in rw e refl }
joins_on (Ends sdu) rest is = record { joins = refl; ends = refl; harmless = λ mtu segment le. let e = le-ltb mtu (stated segment) le in rw e refl }

-- ---- a frame at its place

-- it does not close the receiver, and what holds goes on
pub record Accepted (window mtu first next : ℕ) (unacked : List Kept) (fresh put : List Segment) (sdus : List (List ℕ)) (queue : List Sent) (got : List Segment) (up : List (List ℕ)) (asking : List Sent) (cause : Option ErtmReason) (after : Receiver) (more : List Segment) (brought : List (List ℕ)) : Type 0 where
  pub harmless : cause ≡ None
  pub way : Way window mtu first next unacked fresh put sdus queue after.expected after.begun (got ++ more) (up ++ brought) asking

same_way :
    {window mtu first next : ℕ} {unacked : List Kept} {fresh put : List Segment} {sdus : List (List ℕ)} {queue : List Sent} {expected : ℕ} {begun : Option Begun} {got : List Segment} {up : List (List ℕ)} {asking : List Sent}
    → Way window mtu first next unacked fresh put sdus queue expected begun got up asking
    → Way window mtu first next unacked fresh put sdus queue expected begun (got ++ []) (up ++ []) asking
same_way {got = got} {up = up} h = rw (append-nil got, append-nil up) h

pub stays :
    {window mtu first next : ℕ} {unacked : List Kept} {fresh put : List Segment} {sdus : List (List ℕ)} {queue : List Sent} {got : List Segment} {up : List (List ℕ)} {asking : List Sent} (r after : Receiver)
    → after.expected ≡ r.expected → after.begun ≡ r.begun → Way window mtu first next unacked fresh put sdus queue r.expected r.begun got up asking
    → Accepted window mtu first next unacked fresh put sdus queue got up asking None after [] []
stays r after same same' h = record { harmless = refl; way = rw (same, same') (same_way h) }

expected_on :
    {window mtu first next : ℕ} {unacked : List Kept} {fresh put : List Segment} {sdus : List (List ℕ)} {got : List Segment} {up : List (List ℕ)} {asking : List Sent}
    (tx req sar total : ℕ) (final : Bool) (octets : List ℕ) (number asks : ℕ) (queue : List Sent) (r : Receiver) → 1 ≤ window → number ≡ length got
    → Way window mtu first next unacked fresh put sdus (record { frame = information tx final req sar total octets; number = number; asks = asks } ∷ queue) r.expected r.begun got up asking
    → Accepted window mtu first next unacked fresh put sdus (record { frame = information tx final req sar total octets; number = number; asks = asks } ∷ queue) got up asking
    (place_fault Expected mtu (segment_of sar total octets) r) (placed_after Expected (segment_of sar total octets) r) (segment_of sar total octets ∷ []) (listed (placed_sdu Expected (segment_of sar total octets) r))
expected_on {window} {mtu} {first} {next} {unacked} {fresh} {put} {sdus} {got} {up} {asking} tx req sar total final octets number asks queue r some is h =
    let segment = segment_of sar total octets in
    let may = h.flies.0 in
    let given = may.1 in
    let a_c = h.a_c in
    let begins = get-first h.accepts.left segment (sym (get-behind got h.accepts.left 0 number (omega arith)) ∙ ap (λ (l : List Segment). slice_get l number) (sym h.accepts.put_is) ∙ may.3) in
    let put_is : put ≡ got ++ segment ∷ begins.rest = h.accepts.put_is ∙ ap (λ (l : List Segment). got ++ l) begins.is in
    let whole : joined (joined_by (joint r.begun segment)) begins.rest ≡ At None =
    sym (joined-append (At None) got (segment ∷ begins.rest) ∙ ap (λ (j : Joining). joined j (segment ∷ begins.rest)) h.accepts.joins)
    ∙ ap (λ (l : List Segment). joined (At None) l) (sym put_is) ∙ h.holds.joins in
    let on = joins_on (joint r.begun segment) begins.rest whole in
    let fits = (all-of (λ (s : Segment). stated s ≤ mtu) got (segment ∷ begins.rest) (subst (λ (l : List Segment). AllByRecursion (λ (s : Segment). stated s ≤ mtu) l) put_is h.holds.within)).0 in
    let long = length-append got (segment ∷ []) in
    record {
      harmless = on.harmless mtu segment fits;
      way = record {
        a = h.a;
        sends = h.sends;
        accepts = record {
          left = begins.rest;
          put_is = put_is ∙ sym (append_assoc got (segment ∷ []) begins.rest);
          expected_is = let e = h.accepts.expected_is in omega arith;
          joins = joined-append (At None) got (segment ∷ []) ∙ ap (λ (j : Joining). joined j (segment ∷ [])) h.accepts.joins ∙ on.joins;
          up_is =
              ended-append (At None) got (segment ∷ [])
              ∙ ap (λ (l : List (List ℕ)). l ++ ended (joined (At None) got) (segment ∷ [])) h.accepts.up_is
              ∙ ap (λ (j : Joining). up ++ ended j (segment ∷ [])) h.accepts.joins
              ∙ ap (λ (l : List (List ℕ)). up ++ l) on.ends;
        };
        holds = h.holds;
        a_c = omega arith;
        c_n = omega arith;
        flies = (
          (may.0, may.1, omega arith, may.3),
          flies-still window put (h.a + length unacked) (h.a + length unacked) (max (length got) (number + 1)) (max (length (got ++ segment ∷ [])) (number + 1)) queue (omega arith) (omega arith) h.flies.1,
        );
        rises = rises-more h.a (length got) (length (got ++ segment ∷ [])) asking (omega arith) h.rises;
      };
    }

pub rejected-same : (rejecting : Bool) (r : Receiver) (reply : Receiver) → reply.expected ≡ r.expected → reply.begun ≡ r.begun → ((cond rejecting r reply).expected ≡ r.expected) × ((cond rejecting r reply).begun ≡ r.begun)
rejected-same true r reply same same' = (refl, refl)
rejected-same false r reply same same' = (same, same')

pub placed-on :
    {window mtu first next : ℕ} {unacked : List Kept} {fresh put : List Segment} {sdus : List (List ℕ)} {got : List Segment} {up : List (List ℕ)} {asking : List Sent}
    (tx req sar total : ℕ) (final : Bool) (octets : List ℕ) (number asks : ℕ) (queue : List Sent) (r : Receiver) (place : Place) → 1 ≤ window → PlaceIs number (length got) place
    → Way window mtu first next unacked fresh put sdus (record { frame = information tx final req sar total octets; number = number; asks = asks } ∷ queue) r.expected r.begun got up asking
    → Accepted window mtu first next unacked fresh put sdus (record { frame = information tx final req sar total octets; number = number; asks = asks } ∷ queue) got up asking
    (place_fault place mtu (segment_of sar total octets) r) (placed_after place (segment_of sar total octets) r) (placed_segment place (segment_of sar total octets)) (listed (placed_sdu place (segment_of sar total octets) r))
placed-on tx req sar total final octets number asks queue r Expected some (at is e) h = expected_on tx req sar total final octets number asks queue r some is h
placed-on tx req sar total final octets number asks queue r Expected some (ahead is one) h = elim one [ inl e ↦ cc | inr e ↦ cc ]
placed-on tx req sar total final octets number asks queue r Expected some (behind is e) h = cc
placed-on tx req sar total final octets number asks queue r Ahead some place h =
    let same = rejected-same r.rejecting r (record r { reply = Rejects; rejecting = true }) refl refl in
    stays r (placed_after Ahead (segment_of sar total octets) r) same.0 same.1 h
placed-on tx req sar total final octets number asks queue r Other some place h = stays r r refl refl h
