-- A stream that is stuck has no packets, whatever comes behind it.
use Rattle.std.proofs.Common.{◌≡◌, inl, inr, ℕ, ◌+◌, ◌*◌, ◌<◌, ◌≤◌, ◌&&◌, Bool, true, false, cond, not, nat_lt, List, [], ◌∷◌, ◌++◌, length, take, drop, refl, sym, ap, ◌∙◌, arith}
use Rattle.std.specs.List.{flat_map}
use Rattle.std.proofs.lemmas.Bool.{ltb-true, lt-ltb, le-ltb}
use Rattle.rfcomm_frames.specs.ObexPackets.{stated_size, obex_packets}
use Rattle.link_readers.specs.talk_laws.specs.Packets.{rest_of}
use Rattle.object_lines.specs.Matters.{is_stuck, short_stream}
use Rattle.object_lines.proofs.Splitting.{split_whole}

-- octets whose first three state so few
record Stuck (stream : List ℕ) : Type 0 where
  long : 3 ≤ length stream
  few : stated_size stream < 3

no_packets : (stream : List ℕ) → Stuck stream → obex_packets stream ≡ []
no_packets stream stuck = sym (split_whole stream [] stream (record { whole = refl; each = tt }) (inr (inl stuck.few)))

all_left : (stream : List ℕ) → Stuck stream → rest_of stream ≡ stream
all_left stream stuck = ap (λ packets. drop (length (flat_map (λ (packet : List ℕ). packet) packets)) stream) (no_packets stream stuck)

both : (a b : Bool) → a ≡ true → b ≡ true → (a && b) ≡ true
both true true e f = refl
both true false e f = f
both false b e f = e

second : (a b : Bool) → (a && b) ≡ true → b ≡ true
second true b is = is
second false b is = cc

is_so : (stream : List ℕ) → Stuck stream → is_stuck stream ≡ true
is_so stream stuck = both (not (nat_lt (length stream) 3)) (nat_lt (stated_size stream) 3) (ap not (le-ltb (length stream) 3 stuck.long)) (lt-ltb (stated_size stream) 3 stuck.few)

head_left : (stream : List ℕ) → Stuck stream → short_stream (rest_of stream) ≡ take 3 stream
head_left stream stuck = ap short_stream (all_left stream stuck) ∙ ap (λ is. cond is (take 3 stream) stream) (is_so stream stuck)

-- its head tells, whatever stands behind
stuck_with : (code high low : ℕ) (behind : List ℕ) → 256 * high + low < 3 → Stuck (code ∷ high ∷ low ∷ behind)
stuck_with code high low behind few = record { long = omega arith; few = few }

few_of : (code high low : ℕ) (stream : List ℕ) → is_stuck (code ∷ high ∷ low ∷ stream) ≡ true → 256 * high + low < 3
few_of code high low stream is = ltb-true (256 * high + low) 3 (second (not (nat_lt (length (code ∷ high ∷ low ∷ stream)) 3)) (nat_lt (256 * high + low) 3) is)

-- the packets with more octets behind
pub short_packets : (stream more : List ℕ) → obex_packets (short_stream stream ++ more) ≡ obex_packets (stream ++ more)
short_packets [] more = refl
short_packets (code ∷ []) more = refl
short_packets (code ∷ high ∷ []) more = refl
short_packets (code ∷ high ∷ low ∷ stream) more = by (is_stuck (code ∷ high ∷ low ∷ stream)) refl
  where
    by : (stuck : Bool) → is_stuck (code ∷ high ∷ low ∷ stream) ≡ stuck → obex_packets (cond stuck (code ∷ high ∷ low ∷ []) (code ∷ high ∷ low ∷ stream) ++ more) ≡ obex_packets (code ∷ high ∷ low ∷ (stream ++ more))
    by false is = refl
    by true is =
        let few = few_of code high low stream is in
        no_packets (code ∷ high ∷ low ∷ more) (stuck_with code high low more few) ∙ sym (no_packets (code ∷ high ∷ low ∷ (stream ++ more)) (stuck_with code high low (stream ++ more) few))

-- and what matters then
pub short_rest : (stream more : List ℕ) → short_stream (rest_of (short_stream stream ++ more)) ≡ short_stream (rest_of (stream ++ more))
short_rest [] more = refl
short_rest (code ∷ []) more = refl
short_rest (code ∷ high ∷ []) more = refl
short_rest (code ∷ high ∷ low ∷ stream) more = by (is_stuck (code ∷ high ∷ low ∷ stream)) refl
  where
    by : (stuck : Bool) → is_stuck (code ∷ high ∷ low ∷ stream) ≡ stuck
        → short_stream (rest_of (cond stuck (code ∷ high ∷ low ∷ []) (code ∷ high ∷ low ∷ stream) ++ more)) ≡ short_stream (rest_of (code ∷ high ∷ low ∷ (stream ++ more)))
    by false is = refl
    by true is =
        let few = few_of code high low stream is in
        head_left (code ∷ high ∷ low ∷ more) (stuck_with code high low more few) ∙ sym (head_left (code ∷ high ∷ low ∷ (stream ++ more)) (stuck_with code high low (stream ++ more) few))
