-- Packets on a stream, however it is cut into pieces.
use Rattle.std.proofs.Common.{◌≡◌, ℕ, ◌+◌, ◌-◌, ◌<◌, ◌≤◌, List, [], ◌∷◌, ◌++◌, length, take, drop, Some, None, refl, sym, ap, subst, ◌∙◌, append_assoc, arith, inl, inr, ◌⊎◌}
use Rattle.std.specs.List.{flat_map, AllByRecursion}
use Rattle.std.proofs.lemmas.Bool.{cases_lt}
use Rattle.std.proofs.lemmas.List.{append-nil, length-append, length-take, take-append-drop, take_at, drop_at}
use Rattle.obex_headers.specs.declared.fault.ObexRefusal.{ObexRefusal}
use Rattle.obex_headers.specs.declared.fault.ObexRefusal.TheVariants.{Short, BadLength, BadHeaderLength, BadText, AboveMaximum, BadVersion}
use Rattle.obex_headers.specs.Assembling.{stated_len, IsFramed, IsPartial, BeginsNone, packets_joined, Splits, BreaksOff, Assembling, Answer, Packet, More, Refused, Answers, Call, IsRun, taken, given, fresh, AnyPieces}

-- the length is stated by the front
stated_front : (xs ys : List ℕ) → 3 ≤ length xs → stated_len (xs ++ ys) ≡ stated_len xs
stated_front [] ys h = absurd (omega arith)
stated_front (a ∷ []) ys h = absurd (omega arith)
stated_front (a ∷ b ∷ []) ys h = absurd (omega arith)
stated_front (a ∷ b ∷ c ∷ xs) ys h = refl

-- ---- the next packet

short : (maximum : ℕ) (held piece : List ℕ) → length held < stated_len held → 3 ≤ stated_len (held ++ piece) → length held < stated_len (held ++ piece)
short maximum held piece h l =
    elim (cases_lt (length held) 3) [
      | inl few ↦ omega arith
      | inr enough ↦ subst (λ (n : ℕ). length held < n) (sym (stated_front held piece enough)) h
    ]

-- fewer octets are held than the length that they and the piece state
held_short : (maximum : ℕ) (held piece : List ℕ) → IsPartial maximum held → 3 ≤ stated_len (held ++ piece) → length held < stated_len (held ++ piece)
held_short maximum held piece h l =
    elim h [
      | inl few ↦ omega arith
      | inr some ↦ short maximum held piece some.2 l
    ]

pub is_joined : (maximum : ℕ) (held piece : List ℕ) (whole : ℕ) → whole ≡ stated_len (held ++ piece) → IsPartial maximum held → 3 ≤ whole → whole ≤ maximum → whole ≤ length held + length piece
    → (0 < whole - length held) × (whole - length held ≤ length piece) × IsFramed maximum (held ++ take (whole - length held) piece)
is_joined maximum held piece whole e h l most long =
    let more : length held < stated_len (held ++ piece) = held_short maximum held piece h (omega arith) in
    let used = whole - length held in
    let len : length (held ++ take used piece) ≡ whole = omega (arith, length-append held (take used piece), length-take used piece) in
    let split : held ++ piece ≡ (held ++ take used piece) ++ drop used piece = ap (λ (y : List ℕ). held ++ y) (sym (take-append-drop used piece)) ∙ sym (append_assoc held (take used piece) (drop used piece)) in
    let same : stated_len (held ++ take used piece) ≡ whole = sym (stated_front (held ++ take used piece) (drop used piece) (omega arith)) ∙ ap stated_len (sym split) ∙ sym e in
    (omega arith, omega arith, (omega arith, omega arith, same ∙ sym len))

-- ---- calls, one after the other

-- what a run of calls that refused nothing took and gave
record Fed (old : Assembling) (calls : List Call) (new : Assembling) : Type 0 where
  pub whole : old.held ++ flat_map taken calls ≡ packets_joined (flat_map given calls) ++ new.held
  pub each : AllByRecursion (IsFramed old.maximum) (flat_map given calls)
  pub partial : IsPartial old.maximum new.held
  pub maximum : new.maximum ≡ old.maximum
  pub open_still : old.refusal ≡ None

fed_one : (old mid new : Assembling) (piece : List ℕ) (answer : Answer) (calls : List Call) → IsPartial old.maximum old.held → Answers old piece answer mid
    → ((mid' : Assembling) → mid ≡ mid' → IsPartial mid'.maximum mid'.held → Fed mid' calls new) → Fed old (record { piece = piece; answer = answer } ∷ calls) new
fed_one old mid new piece (Packet octets used) calls h a on =
    let f = on (record old { held = [] }) a.5 (inl (omega arith)) in
    record {
      whole = sym (append_assoc old.held (take used piece) (flat_map taken calls)) ∙ ap (λ (y : List ℕ). y ++ flat_map taken calls) (sym a.3) ∙ ap (λ (y : List ℕ). octets ++ y) f.whole ∙ sym (append_assoc octets (packets_joined (flat_map given calls)) new.held);
      each = (a.4, f.each);
      partial = f.partial;
      maximum = f.maximum;
      open_still = a.0;
    }
fed_one old mid new piece More calls h a on =
    let f = on (record old { held = old.held ++ piece }) a.2 a.1 in
    record { whole = sym (append_assoc old.held piece (flat_map taken calls)) ∙ f.whole; each = f.each; partial = f.partial; maximum = f.maximum; open_still = a.0 }
fed_one old mid new piece (Refused refusal) calls h a on =
    elim a [
      | inl again ↦ absurd (let f = on old again.1 h in let e = sym again.0 ∙ f.open_still in cc)
      | inr now ↦ absurd (let f = on (record old { refusal = Some refusal }) now.2 h in let e = f.open_still in cc)
    ]

fed : (old new : Assembling) (calls : List Call) → IsPartial old.maximum old.held → IsRun old calls new → new.refusal ≡ None → Fed old calls new
fed old new [] h run none = subst (λ (n : Assembling). Fed old [] n) (sym run) (record { whole = append-nil old.held; each = tt; partial = h; maximum = refl; open_still = ap (λ (n : Assembling). n.refusal) (sym run) ∙ none })
fed old new (call ∷ calls) h run none =
    fed_one old run.0 new call.piece call.answer calls h run.1
    (λ mid same partial. fed mid new calls partial (subst (λ (m : Assembling). IsRun m calls new) same run.2) none)

is_split : (maximum : ℕ) (calls : List Call) (new : Assembling) → IsRun (fresh maximum) calls new → new.refusal ≡ None → Splits maximum (flat_map taken calls) (flat_map given calls) new.held
is_split maximum calls new run none =
    let f = fed (fresh maximum) new calls (inl (omega arith)) run none in
    record { whole = f.whole; each = f.each; partial = f.partial }

breaks_off : (maximum : ℕ) (calls : List Call) (piece : List ℕ) (refusal : ObexRefusal) (mid new : Assembling) → IsRun (fresh maximum) calls mid → mid.refusal ≡ None → Answers mid piece (Refused refusal) new
    → BreaksOff maximum (flat_map taken calls ++ piece) (flat_map given calls) refusal
breaks_off maximum calls piece refusal mid new run none a =
    let f = fed (fresh maximum) mid calls (inl (omega arith)) run none in
    elim a [
      | inl again ↦ absurd (let e = sym again.0 ∙ none in cc)
      | inr now ↦ record {
        rest = mid.held ++ piece;
        whole = ap (λ (y : List ℕ). y ++ piece) f.whole ∙ append_assoc (packets_joined (flat_map given calls)) mid.held piece;
        each = f.each;
        none = subst (λ (m : ℕ). BeginsNone m (mid.held ++ piece) refusal) f.maximum now.1;
      }
    ]

is_for_good : (old new : Assembling) (piece : List ℕ) (answer : Answer) (refusal : ObexRefusal) → old.refusal ≡ Some refusal → Answers old piece answer new → (answer ≡ Refused refusal) × (new ≡ old)
is_for_good old new piece (Packet octets used) refusal e a = absurd (let k = sym e ∙ a.0 in cc)
is_for_good old new piece More refusal e a = absurd (let k = sym e ∙ a.0 in cc)
is_for_good old new piece (Refused other) refusal e a =
    elim a [
      | inl again ↦ (ap Refused (let k = sym again.0 ∙ e in cc), again.1)
      | inr now ↦ absurd (let k = sym e ∙ now.0 in cc)
    ]

-- ---- a stream is read in one way

framed_front : (maximum : ℕ) (p q x y : List ℕ) → IsFramed maximum p → IsFramed maximum q → p ++ x ≡ q ++ y → (p ≡ q) × (x ≡ y)
framed_front maximum p q x y hp hq e =
    let len : length p ≡ length q = sym hp.2 ∙ sym (stated_front p x hp.0) ∙ ap stated_len e ∙ stated_front q y hq.0 ∙ hq.2 in
    (sym (take_at p x (length p) refl) ∙ ap (take (length p)) e ∙ take_at q y (length p) (sym len), sym (drop_at p x (length p) refl) ∙ ap (drop (length p)) e ∙ drop_at q y (length p) (sym len))

too_short : (n stated p x : ℕ) → n < stated → stated ≡ p → n ≡ p + x → ⊥
too_short n stated p x a b c = omega arith

not_above : (m stated p : ℕ) → m < stated → stated ≡ p → p ≤ m → ⊥
not_above m stated p a b c = omega arith

not_below : (stated p : ℕ) → stated < 3 → stated ≡ p → 3 ≤ p → ⊥
not_below stated p a b c = omega arith

not_most : (m stated : ℕ) → m < stated → stated ≤ m → ⊥
not_most m stated a b = omega arith

not_least : (stated : ℕ) → stated < 3 → 3 ≤ stated → ⊥
not_least stated a b = omega arith

partial_no_packet : (maximum : ℕ) (rest p x : List ℕ) → IsPartial maximum rest → IsFramed maximum p → rest ≡ p ++ x → ⊥
partial_no_packet maximum rest p x h f e =
    let stated : stated_len rest ≡ length p = ap stated_len e ∙ stated_front p x f.0 ∙ f.2 in
    let long : length rest ≡ length p + length x = ap length e ∙ length-append p x in
    let least = f.0 in
    elim h [ inl few ↦ omega arith | inr some ↦ too_short (length rest) (stated_len rest) (length p) (length x) some.2 stated long ]

none_is_long : (maximum : ℕ) (rest : List ℕ) (refusal : ObexRefusal) → BeginsNone maximum rest refusal → (3 ≤ length rest) × ((maximum < stated_len rest) ⊎ (stated_len rest < 3))
none_is_long maximum rest AboveMaximum h = (h.0, inl h.1)
none_is_long maximum rest BadLength h = (h.0, inr h.2)
none_is_long maximum rest Short h = absurd h
none_is_long maximum rest BadHeaderLength h = absurd h
none_is_long maximum rest BadText h = absurd h
none_is_long maximum rest BadVersion h = absurd h

none_no_packet : (maximum : ℕ) (rest p x : List ℕ) (refusal : ObexRefusal) → BeginsNone maximum rest refusal → IsFramed maximum p → rest ≡ p ++ x → ⊥
none_no_packet maximum rest p x refusal h f e =
    let stated : stated_len rest ≡ length p = ap stated_len e ∙ stated_front p x f.0 ∙ f.2 in
    let least = f.0 in
    let most = f.1 in
    elim ((none_is_long maximum rest refusal h).1) [ inl above ↦ not_above maximum (stated_len rest) (length p) above stated most | inr below ↦ not_below (stated_len rest) (length p) below stated least ]

none_not_partial : (maximum : ℕ) (rest : List ℕ) (refusal : ObexRefusal) → BeginsNone maximum rest refusal → IsPartial maximum rest → ⊥
none_not_partial maximum rest refusal h p =
    let n = none_is_long maximum rest refusal h in
    let long = n.0 in
    elim p [
      | inl few ↦ omega arith
      | inr some ↦ elim (n.1) [ inl above ↦ not_most maximum (stated_len rest) above some.1 | inr below ↦ not_least (stated_len rest) below some.0 ]
    ]

one_reading : (maximum : ℕ) (packets others : List (List ℕ)) (rest rest' : List ℕ) → AllByRecursion (IsFramed maximum) packets → AllByRecursion (IsFramed maximum) others → IsPartial maximum rest → IsPartial maximum rest'
    → packets_joined packets ++ rest ≡ packets_joined others ++ rest' → (packets ≡ others) × (rest ≡ rest')
one_reading maximum [] [] rest rest' h k p q e = (refl, e)
one_reading maximum [] (other ∷ others) rest rest' h k p q e = absurd (partial_no_packet maximum rest other (packets_joined others ++ rest') p k.0 (e ∙ append_assoc other (packets_joined others) rest'))
one_reading maximum (packet ∷ packets) [] rest rest' h k p q e = absurd (partial_no_packet maximum rest' packet (packets_joined packets ++ rest) q h.0 (sym e ∙ append_assoc packet (packets_joined packets) rest))
one_reading maximum (packet ∷ packets) (other ∷ others) rest rest' h k p q e =
    let f = framed_front maximum packet other (packets_joined packets ++ rest) (packets_joined others ++ rest') h.0 k.0 (sym (append_assoc packet (packets_joined packets) rest) ∙ e ∙ append_assoc other (packets_joined others) rest') in
    let r = one_reading maximum packets others rest rest' h.1 k.1 p q f.1 in
    (ap (λ (x : List ℕ). x ∷ packets) f.0 ∙ ap (λ (ps : List (List ℕ)). other ∷ ps) r.0, r.1)

no_other : (maximum : ℕ) (packets others : List (List ℕ)) (rest rest' : List ℕ) (refusal : ObexRefusal) → AllByRecursion (IsFramed maximum) packets → AllByRecursion (IsFramed maximum) others → IsPartial maximum rest → BeginsNone maximum rest' refusal
    → packets_joined packets ++ rest ≡ packets_joined others ++ rest' → ⊥
no_other maximum [] [] rest rest' refusal h k p q e = none_not_partial maximum rest' refusal q (subst (IsPartial maximum) e p)
no_other maximum [] (other ∷ others) rest rest' refusal h k p q e = partial_no_packet maximum rest other (packets_joined others ++ rest') p k.0 (e ∙ append_assoc other (packets_joined others) rest')
no_other maximum (packet ∷ packets) [] rest rest' refusal h k p q e = none_no_packet maximum rest' packet (packets_joined packets ++ rest) refusal q h.0 (sym e ∙ append_assoc packet (packets_joined packets) rest)
no_other maximum (packet ∷ packets) (other ∷ others) rest rest' refusal h k p q e =
    let f = framed_front maximum packet other (packets_joined packets ++ rest) (packets_joined others ++ rest') h.0 k.0 (sym (append_assoc packet (packets_joined packets) rest) ∙ e ∙ append_assoc other (packets_joined others) rest') in
    no_other maximum packets others rest rest' refusal h.1 k.1 p q f.1

pub any_pieces : AnyPieces
any_pieces = record {
  split = is_split;
  refused = breaks_off;
  for_good = is_for_good;
  one_way = λ maximum stream packets others rest rest' s t. one_reading maximum packets others rest rest' s.each t.each s.partial t.partial (sym s.whole ∙ t.whole);
  no_both = λ maximum stream packets others rest refusal s t. no_other maximum packets others rest t.rest refusal s.each t.each s.partial t.none (sym s.whole ∙ t.whole);
}
