-- The stream of packets over RFCOMM, as a listener hears it.
use Rattle.std.proofs.Common.{inl, inr, ◌⊎◌, zero, suc, Bool, true, false, cond, ltb, eqb, ◌+◌, ◌<◌, ◌≤◌, ◌≡◌, ℕ, List, [], ◌∷◌, ◌++◌, length, take, Result, Ok, Err, refl, sym, ap, ◌∙◌, arith, append_assoc, length-append}
use Rattle.std.specs.Prelude.{not, slice_index}
use Rattle.std.specs.List.{flat_map}
use Rattle.std.proofs.lemmas.Bool.{cases_lt, lt-ltb, le-ltb, ltb-false, cond-true, cond-false, ne_eqb}
use Rattle.push_model.specs.rfcomm_frames.specs.ObexPackets.{stated_size, HasNoPacket, obex_packets}
use Rattle.push_model.specs.rfcomm_frames.proofs.ObexSplits.{obex_packets-right, obex_packets-one}
use Rattle.rfcomm_laws.proofs.Splitting.{same_length, before}
use Rattle.push_model.specs.obex_headers.specs.declared.fault.ObexRefusal.{ObexRefusal}
use Rattle.push_model.specs.obex_headers.specs.declared.fault.ObexRefusal.TheVariants.{Short, BadLength, BadHeaderLength, BadText, AboveMaximum, BadVersion}
use Rattle.push_model.specs.obex_headers.specs.declared.packet.Phase.TheVariants.{Request}
use Rattle.push_model.specs.obex_headers.specs.Assembling.{stated_len, IsFramed, IsPartial, BeginsNone}
use Rattle.push_model.specs.obex_headers.specs.Packets.{PlainPacket, fields_len}
use Rattle.push_model.specs.obex_headers.specs.Reading.{◌>>=◌, behind_length, front_at, headers_in, packet_in}
use Rattle.push_model.proofs.StreamLaws.{whole_front, partial_front, broken_front}
use Rattle.push_model.specs.Sessions.{Gift}
use Rattle.push_model.specs.Streams.{Front}
use Rattle.push_model.specs.Listening.{Listener, has_bad_length, heeds_carried, heeds_broken, received, hears_on, hears_front, hears_stream}

-- ---- lengths

pub front_size : (octets more : List ℕ) → 3 ≤ length octets → stated_size (octets ++ more) ≡ stated_size octets
front_size [] more long = absurd (omega arith)
front_size (a ∷ []) more long = absurd (omega arith)
front_size (a ∷ b ∷ []) more long = absurd (omega arith)
front_size (a ∷ b ∷ c ∷ octets) more long = refl

-- octets without a whole packet at their front are less than one, or begin none
pub none_front : (most : ℕ) (rest : List ℕ) → HasNoPacket rest → IsPartial most rest ⊎ ((refusal : ObexRefusal) × BeginsNone most rest refusal)
none_front most rest none =
    elim (cases_lt (length rest) 3) [
      | inl short ↦ inl (inl short)
      | inr long ↦ elim (cases_lt most (stated_len rest)) [
        | inl above ↦ inr (AboveMaximum, (long, above))
        | inr within ↦ elim (cases_lt (stated_len rest) 3) [
          | inl small ↦ inr (BadLength, (long, within, small))
          | inr size ↦ inl (inr (size, within, few (same_length rest long) long size none))
        ]
      ]
    ]
  where
    few : stated_len rest ≡ stated_size rest → 3 ≤ length rest → 3 ≤ stated_len rest → HasNoPacket rest → length rest < stated_len rest
    few same long size (inl short) = absurd (omega (arith, short, long))
    few same long size (inr (inl small)) = absurd (omega (arith, same, size, small))
    few same long size (inr (inr less)) = omega (arith, same, less)

-- what stands behind whole packets decides what follows them
pub packets_more : (got rest ys : List ℕ) → got ≡ flat_map (λ packet. packet) (obex_packets got) ++ rest → obex_packets (got ++ ys) ≡ obex_packets got ++ obex_packets (rest ++ ys)
packets_more got rest ys whole =
    before (got ++ ys) (rest ++ ys) (obex_packets got) (ap (λ xs. xs ++ ys) whole ∙ append_assoc (flat_map (λ packet. packet) (obex_packets got)) rest ys) (obex_packets-right got).each

pub no_packets : obex_packets [] ≡ []
no_packets = sym (obex_packets-one [] [] (record { rest = []; whole = refl; each = tt; no_more = inl (omega arith) }))

-- ---- refusals

refused_by : (short above wrong : Bool) (behind : Result (List ℕ × List ℕ) ObexRefusal) → (short ≡ false → above ≡ false → wrong ≡ true)
    → (refusal : ObexRefusal) × (cond short (Err Short) (cond above (Err AboveMaximum) (cond wrong (Err BadLength) behind)) ≡ Err refusal)
refused_by true above wrong behind h = (Short, refl)
refused_by false true wrong behind h = (AboveMaximum, refl)
refused_by false false true behind h = (BadLength, refl)
refused_by false false false behind h = absurd (let e = h refl refl in cc)

front_refused : (octets : List ℕ) (most : ℕ) (refusal : ObexRefusal) → front_at Request most octets ≡ Err refusal → packet_in Request most octets ≡ Err refusal
unfolding packet_in
front_refused octets most refusal e = ap (λ front. front >>= (λ parts. headers_in parts.1 >>= (λ headers. Ok (let p : PlainPacket = record { code = slice_index octets 0; extra = parts.0; headers = headers } in p)))) e

three_fronts : (a b c : ℕ) (most : ℕ) → (ltb most 3 ≡ false → eqb (stated_len (a ∷ b ∷ c ∷ [])) 3 ≡ false) → (refusal : ObexRefusal) × (front_at Request most (a ∷ b ∷ c ∷ []) ≡ Err refusal)
unfolding front_at
three_fronts a b c most h =
    refused_by (ltb 3 (3 + fields_len Request a)) (ltb most 3) (not (eqb (stated_len (a ∷ b ∷ c ∷ [])) 3)) (behind_length Request (a ∷ b ∷ c ∷ [])) (λ few within. ap not (h within))

-- the first three octets of what begins no packet are none
pub three_refused : (most : ℕ) (stream : List ℕ) (refusal : ObexRefusal) → BeginsNone most stream refusal → (other : ObexRefusal) × (packet_in Request most (take 3 stream) ≡ Err other)
three_refused most (a ∷ b ∷ c ∷ stream) AboveMaximum begins =
    let front = three_fronts a b c most (λ within. ne_eqb (stated_len (a ∷ b ∷ c ∷ [])) 3 (λ e. let least = ltb-false most 3 within in let above = begins.1 in omega arith)) in
    (front.0, front_refused (a ∷ b ∷ c ∷ []) most front.0 front.1)
three_refused most (a ∷ b ∷ c ∷ stream) BadLength begins =
    let front = three_fronts a b c most (λ within. ne_eqb (stated_len (a ∷ b ∷ c ∷ [])) 3 (λ e. let small = begins.2 in omega arith)) in
    (front.0, front_refused (a ∷ b ∷ c ∷ []) most front.0 front.1)
three_refused most [] AboveMaximum begins = absurd (let long = begins.0 in omega arith)
three_refused most [] BadLength begins = absurd (let long = begins.0 in omega arith)
three_refused most (a ∷ []) AboveMaximum begins = absurd (let long = begins.0 in omega arith)
three_refused most (a ∷ []) BadLength begins = absurd (let long = begins.0 in omega arith)
three_refused most (a ∷ b ∷ []) AboveMaximum begins = absurd (let long = begins.0 in omega arith)
three_refused most (a ∷ b ∷ []) BadLength begins = absurd (let long = begins.0 in omega arith)
three_refused most stream Short begins = absurd begins
three_refused most stream BadHeaderLength begins = absurd begins
three_refused most stream BadText begins = absurd begins
three_refused most stream BadVersion begins = absurd begins

few_by : (a b : Bool) → cond a 4 (cond b 2 0) ≤ 4
few_by true b = omega arith
few_by false true = omega arith
few_by false false = omega arith

few_fields : (code : ℕ) → fields_len Request code ≤ 4
few_fields code = few_by (eqb code 0x80) (eqb code 0x85)

above_refused : (most : ℕ) (packet : List ℕ) → 7 ≤ most → most < length packet → front_at Request most packet ≡ Err AboveMaximum
unfolding front_at
above_refused most packet least above =
    let fields = few_fields (slice_index packet 0) in
    cond-false _ _ _ (le-ltb (length packet) (3 + fields_len Request (slice_index packet 0)) (omega arith)) ∙ cond-true _ _ _ (lt-ltb most (length packet) above)

-- a packet is no longer than the maximum where its length is not refused
pub right_length : (most : ℕ) (packet : List ℕ) → 7 ≤ most → has_bad_length (packet_in Request most packet) ≡ false → length packet ≤ most
right_length most packet least right =
    elim (cases_lt most (length packet)) [
      | inl above ↦ absurd (never (sym (ap has_bad_length (front_refused packet most AboveMaximum (above_refused most packet least above))) ∙ right))
      | inr within ↦ within
    ]
  where
    never : true ≡ false → ⊥
    never e = cc

-- ---- one stream

pub hears_partial : (steps : ℕ) (stream : List ℕ) (listener : Listener) (gift : Gift) → IsPartial listener.service.sessions.carried.maximum stream
    → hears_stream steps stream listener gift ≡ record { listener = listener; held = stream; gift = gift }
unfolding hears_stream
hears_partial zero stream listener gift partial = refl
hears_partial (suc steps) stream listener gift partial =
    ap (λ (f : Front). hears_front (λ rest next after. hears_stream steps rest next after) stream f listener gift) (partial_front listener.service.sessions.carried.maximum stream partial)

begins_long : (most : ℕ) (stream : List ℕ) (refusal : ObexRefusal) → BeginsNone most stream refusal → 3 ≤ length stream
begins_long most stream AboveMaximum begins = begins.0
begins_long most stream BadLength begins = begins.0
begins_long most stream Short begins = absurd begins
begins_long most stream BadHeaderLength begins = absurd begins
begins_long most stream BadText begins = absurd begins
begins_long most stream BadVersion begins = absurd begins

pub hears_broken : (steps : ℕ) (stream : List ℕ) (listener : Listener) (gift : Gift) (refusal : ObexRefusal) → length stream ≤ steps → BeginsNone listener.service.sessions.carried.maximum stream refusal
    → hears_stream steps stream listener gift ≡ received [] (heeds_broken (take 3 stream) listener gift)
unfolding hears_stream
hears_broken zero stream listener gift refusal long begins = absurd (let least = begins_long listener.service.sessions.carried.maximum stream refusal begins in omega arith)
hears_broken (suc steps) stream listener gift refusal long begins =
    ap (λ (f : Front). hears_front (λ rest next after. hears_stream steps rest next after) stream f listener gift) (broken_front listener.service.sessions.carried.maximum stream refusal begins)

pub record HearsWhole (steps : ℕ) (packet rest : List ℕ) (listener : Listener) (gift : Gift) : Type 0 where
  pub less : ℕ
  pub enough : length rest ≤ less
  pub hears : hears_stream steps (packet ++ rest) listener gift ≡ hears_on (λ next after. hears_stream less rest next after) (heeds_carried packet listener gift)

pub hears_whole : (steps : ℕ) (packet rest : List ℕ) (listener : Listener) (gift : Gift) → length (packet ++ rest) ≤ steps → IsFramed listener.service.sessions.carried.maximum packet → HearsWhole steps packet rest listener gift
unfolding hears_stream
hears_whole zero packet rest listener gift long framed = absurd (let size = length-append packet rest in let least = framed.0 in omega arith)
hears_whole (suc steps) packet rest listener gift long framed = record {
  less = steps;
  enough = (let size = length-append packet rest in let least = framed.0 in omega arith);
  hears = ap (λ (f : Front). hears_front (λ others next after. hears_stream steps others next after) (packet ++ rest) f listener gift) (whole_front listener.service.sessions.carried.maximum packet rest framed);
}
