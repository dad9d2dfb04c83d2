-- A packet that is read is spelled so, and what is spelled is read again.
use Rattle.std.proofs.Common.{◌≡◌, ℕ, suc, ◌+◌, ◌/◌, ◌%◌, ◌≤◌, Bool, true, false, not, cond, ltb, eqb, List, [], ◌∷◌, ◌++◌, length, get_or, take, drop, Result, Ok, Err, refl, sym, ap, subst, ◌∙◌, arith}
use Rattle.std.specs.Prelude.{IsTrue, IfOk, IsOkAnd}
use Rattle.std.specs.List.{AllByRecursion}
use Rattle.std.proofs.lemmas.Bool.{eqb-true, eq-eqb, ltb-false, le-ltb, cond-true, cond-false, not-false, not_from_true}
use Rattle.std.proofs.lemmas.List.{length-append, length-drop, length-take, take-append-drop, take_at, drop_at}
use Rattle.byteorder.specs.Endian.{big_number}
use Rattle.bt_base.specs.Octets.{IsOctets, be16}
use Rattle.obex_headers.specs.declared.fault.ObexRefusal.{ObexRefusal}
use Rattle.obex_headers.specs.declared.fault.ObexRefusal.TheVariants.{Short, BadLength, AboveMaximum, BadVersion}
use Rattle.obex_headers.specs.declared.packet.Phase.{Phase}
use Rattle.obex_headers.specs.declared.packet.Packet.{Packet}
use Rattle.obex_headers.specs.Packets.{PlainHeader, PlainPacket, headers_octets, IsHeader, is_connect, fields_len, version_of, maximum_of, packet_len, packet_octets, HasFields, IsPacket, Spells, Shows}
use Rattle.obex_headers.specs.Reading.{◌>>=◌, headers_in, fields_in, behind_length, front_at, packet_in, GivesPacket}
use Rattle.bt_base.proofs.OctetLemmas.{be16-number}
use Rattle.obex_headers.proofs.Numbers.{IsOctets-drop, IsOctets-rest, be16_back, big_number_2-lt}
use Rattle.obex_headers.proofs.HeaderLaws.{bind_ok, passed, passed_else, ok_is, headers_take, headers_again}

-- ---- the fields

-- the fields that are accepted of a packet, which states a connection or does not
pub record Accepts (connects : Bool) (extra : List ℕ) : Type 0 where
  pub version : IsTrue connects → version_of extra ≡ 1
  pub maximum : IsTrue connects → 255 ≤ maximum_of extra

judge : Bool → List ℕ → Result (List ℕ) ObexRefusal
judge connects extra = cond (not connects) (Ok extra) (cond (ltb (maximum_of extra) 255) (Err BadLength) (cond (eqb (version_of extra) 1) (Ok extra) (Err BadVersion)))

judge_takes : (connects : Bool) (extra y : List ℕ) → judge connects extra ≡ Ok y → (extra ≡ y) × Accepts connects extra
unfolding judge
judge_takes true extra y e =
    let a = passed (ltb (maximum_of extra) 255) BadLength _ y e in
    let b = passed_else (eqb (version_of extra) 1) BadVersion (Ok extra) y a.1 in
    (ok_is extra y b.1, record { version = λ _. eqb-true _ _ b.0; maximum = λ _. ltb-false _ _ a.0 })
judge_takes false extra y e = (ok_is extra y e, record { version = λ h. absurd cc; maximum = λ h. absurd cc })

judge_again : (connects : Bool) (extra : List ℕ) → Accepts connects extra → judge connects extra ≡ Ok extra
unfolding judge
judge_again true extra h = cond-false _ _ _ (le-ltb _ _ (h.maximum refl)) ∙ cond-true _ _ _ (eq-eqb _ _ (h.version refl))
judge_again false extra h = refl

fields_judged : (phase : Phase) (code : ℕ) (extra : List ℕ) → fields_in phase code extra ≡ judge (is_connect phase code) extra
unfolding fields_in judge
fields_judged phase code extra = refl

-- ---- the front

-- what is known of octets whose front was accepted
pub record FrontIs (phase : Phase) (maximum : ℕ) (octets : List ℕ) (x : List ℕ × List ℕ) : Type 0 where
  pub long : 3 + fields_len phase (get_or octets 0 0) ≤ length octets
  pub within : length octets ≤ maximum
  pub len : big_number 2 (drop 1 octets) ≡ length octets
  pub extra : take (fields_len phase (get_or octets 0 0)) (drop 3 octets) ≡ x.0
  pub headers : drop (fields_len phase (get_or octets 0 0)) (drop 3 octets) ≡ x.1
  pub accepts : Accepts (is_connect phase (get_or octets 0 0)) x.0

pub front_takes : (phase : Phase) (maximum : ℕ) (octets : List ℕ) (x : List ℕ × List ℕ) → front_at phase maximum octets ≡ Ok x → FrontIs phase maximum octets x
unfolding front_at behind_length
front_takes phase maximum octets x e =
    let n = fields_len phase (get_or octets 0 0) in
    let a = passed (ltb (length octets) (3 + n)) Short _ x e in
    let b = passed (ltb maximum (length octets)) AboveMaximum _ x a.1 in
    let c = passed (not (eqb (big_number 2 (drop 1 octets)) (length octets))) BadLength _ x b.1 in
    let d = bind_ok (fields_in phase (get_or octets 0 0) (take n (drop 3 octets))) (λ extra. Ok (extra, drop n (drop 3 octets))) x c.1 in
    let j = judge_takes (is_connect phase (get_or octets 0 0)) (take n (drop 3 octets)) d.0 (sym (fields_judged phase (get_or octets 0 0) (take n (drop 3 octets))) ∙ d.1) in
    let made : List ℕ × List ℕ = (d.0, drop n (drop 3 octets)) in
    subst (FrontIs phase maximum octets) (ok_is made x d.2)
    (record {
      long = ltb-false _ _ a.0;
      within = ltb-false _ _ b.0;
      len = eqb-true _ _ (not-false _ c.0);
      extra = j.0;
      headers = refl;
      accepts = subst (Accepts (is_connect phase (get_or octets 0 0))) j.0 j.1;
    })

pub front_fits : (phase : Phase) (maximum : ℕ) (octets : List ℕ) (x : List ℕ × List ℕ) → IsOctets octets → front_at phase maximum octets ≡ Ok x → IsOctets x.1
front_fits phase maximum octets x fits e =
    subst IsOctets (front_takes phase maximum octets x e).headers (IsOctets-drop (fields_len phase (get_or octets 0 0)) (drop 3 octets) (IsOctets-drop 3 octets fits))

-- ---- the packet

whole_from : (phase : Phase) (maximum : ℕ) (octets : List ℕ) (x : List ℕ × List ℕ) (headers : List PlainHeader) → IsOctets octets → FrontIs phase maximum octets x → x.1 ≡ headers_octets headers → AllByRecursion IsHeader headers
    → Spells phase maximum octets (record { code = get_or octets 0 0; extra = x.0; headers = headers })
whole_from phase maximum [] x headers fits front e hs = absurd (let l = front.long in omega arith)
whole_from phase maximum (code ∷ octets) x headers fits front e hs =
    let n = fields_len phase code in
    let d = drop 2 octets in
    let long : 3 + n ≤ suc (length octets) = front.long in
    let split : octets ≡ be16 (big_number 2 octets) ++ d = be16_back octets (IsOctets-rest code octets fits) (omega arith) in
    let body : d ≡ x.0 ++ headers_octets headers = sym (take-append-drop n d) ∙ ap (λ (y : List ℕ). y ++ drop n d) front.extra ∙ ap (λ (y : List ℕ). x.0 ++ y) (front.headers ∙ e) in
    let extra_len : length x.0 ≡ n = ap length (sym front.extra) ∙ omega (arith, length-take n d, length-drop 2 octets) in
    let total : suc (length octets) ≡ 3 + (length x.0 + length (headers_octets headers)) = omega (arith, length-drop 2 octets, ap length body, length-append x.0 (headers_octets headers)) in
    let stated : big_number 2 octets ≡ 3 + (length x.0 + length (headers_octets headers)) = front.len ∙ total in
    record {
      sound = record {
        fields = record { code_fits = fits 0; len = extra_len; version = front.accepts.version; maximum = front.accepts.maximum };
        headers = hs;
        len = omega (arith, big_number_2-lt octets (IsOctets-rest code octets fits));
      };
      within = front.within;
      spelling = ap (λ (y : List ℕ). code ∷ y) (split ∙ ap (λ (y : List ℕ). be16 (big_number 2 octets) ++ y) body ∙ ap (λ (k : ℕ). be16 k ++ (x.0 ++ headers_octets headers)) stated);
    }

pub packet_takes : (phase : Phase) (maximum : ℕ) (octets : List ℕ) (packet : PlainPacket) → IsOctets octets → packet_in phase maximum octets ≡ Ok packet → Spells phase maximum octets packet
unfolding packet_in
packet_takes phase maximum octets packet fits e =
    let a = bind_ok (front_at phase maximum octets) (λ front. headers_in front.1 >>= λ headers. Ok (record { code = get_or octets 0 0; extra = front.0; headers = headers })) packet e in
    let b = bind_ok (headers_in a.0.1) (λ headers. Ok (record { code = get_or octets 0 0; extra = a.0.0; headers = headers })) packet a.2 in
    let h = headers_take a.0.1 b.0 (front_fits phase maximum octets a.0 fits a.1) b.1 in
    let made : PlainPacket = record { code = get_or octets 0 0; extra = a.0.0; headers = b.0 } in
    subst (Spells phase maximum octets) (ok_is made packet b.2) (whole_from phase maximum octets a.0 b.0 fits (front_takes phase maximum octets a.0 a.1) h.0 h.1)

behind_again : (phase : Phase) (code high low : ℕ) (extra headers : List ℕ) → HasFields phase code extra → behind_length phase (code ∷ high ∷ low ∷ (extra ++ headers)) ≡ Ok (extra, headers)
unfolding behind_length
behind_again phase code high low extra headers h =
    let n = fields_len phase code in
    let back : take n (extra ++ headers) ≡ extra = take_at extra headers n h.len in
    let rest : drop n (extra ++ headers) ≡ headers = drop_at extra headers n h.len in
    let judged : fields_in phase code extra ≡ Ok extra = fields_judged phase code extra ∙ judge_again (is_connect phase code) extra (record { version = h.version; maximum = h.maximum }) in
    ap (λ (y : List ℕ). fields_in phase code y >>= λ z. Ok (z, drop n (extra ++ headers))) back
    ∙ ap (λ (r : Result (List ℕ) ObexRefusal). r >>= λ z. Ok (z, drop n (extra ++ headers))) judged
    ∙ ap (λ (y : List ℕ). Ok (extra, y)) rest

pub length-packet : (packet : PlainPacket) → length (packet_octets packet) ≡ packet_len packet
length-packet packet = omega (arith, length-append packet.extra (headers_octets packet.headers))

front_again : (phase : Phase) (maximum : ℕ) (packet : PlainPacket) → IsPacket phase packet → packet_len packet ≤ maximum → front_at phase maximum (packet_octets packet) ≡ Ok (packet.extra, headers_octets packet.headers)
unfolding front_at
front_again phase maximum packet h within =
    let s = packet_octets packet in
    let body = packet.extra ++ headers_octets packet.headers in
    let len : length s ≡ packet_len packet = length-packet packet in
    let t1 : ltb (length s) (3 + fields_len phase packet.code) ≡ false = le-ltb _ _ (omega (arith, h.fields.len)) in
    let t2 : ltb maximum (length s) ≡ false = le-ltb _ _ (omega arith) in
    let t3 : not (eqb (big_number 2 (be16 (packet_len packet) ++ body)) (length s)) ≡ false = not_from_true _ (eq-eqb _ _ (be16-number (packet_len packet) body h.len ∙ sym len)) in
    cond-false _ _ _ t1 ∙ cond-false _ _ _ t2 ∙ cond-false _ _ _ t3
    ∙ behind_again phase packet.code (packet_len packet / 256 % 256) (packet_len packet % 256) packet.extra (headers_octets packet.headers) h.fields

pub packet_again : (phase : Phase) (maximum : ℕ) (octets : List ℕ) (packet : PlainPacket) → Spells phase maximum octets packet → packet_in phase maximum octets ≡ Ok packet
unfolding packet_in
packet_again phase maximum octets packet h =
    let within : packet_len packet ≤ maximum = omega (arith, h.within, ap length h.spelling, length-packet packet) in
    ap (packet_in phase maximum) h.spelling
    ∙ ap (λ (r : Result (List ℕ × List ℕ) ObexRefusal). r >>= λ front. headers_in front.1 >>= λ headers. Ok (record { code = packet.code; extra = front.0; headers = headers })) (front_again phase maximum packet h.sound within)
    ∙ ap (λ (r : Result (List PlainHeader) ObexRefusal). r >>= λ headers. Ok (record { code = packet.code; extra = packet.extra; headers = headers })) (headers_again packet.headers h.sound.headers)

-- ---- what the call answers

pub is_found : (phase : Phase) (maximum : ℕ) (octets : List ℕ) (r : Result Packet ObexRefusal) → IsOctets octets → GivesPacket r (packet_in phase maximum octets)
    → IfOk r (λ p. (packet : PlainPacket) × Spells phase maximum octets packet × Shows p packet)
is_found phase maximum octets (Ok p) fits h = (h.0, packet_takes phase maximum octets h.0 fits h.1, h.2)
is_found phase maximum octets (Err d) fits h = tt

pub is_only : (phase : Phase) (maximum : ℕ) (octets : List ℕ) (packet : PlainPacket) (r : Result Packet ObexRefusal) → Spells phase maximum octets packet → GivesPacket r (packet_in phase maximum octets) → IsOkAnd r (λ p. Shows p packet)
is_only phase maximum octets packet (Ok p) h given = subst (Shows p) (ok_is given.0 packet (sym given.1 ∙ packet_again phase maximum octets packet h)) given.2
is_only phase maximum octets packet (Err d) h given = absurd (let e = sym given ∙ packet_again phase maximum octets packet h in cc)

-- the parts that were judged are the packet
pub is_judged : (phase : Phase) (maximum : ℕ) (octets : List ℕ) (lent : Packet) (headers : List PlainHeader) → IsOctets octets → lent.code ≡ get_or octets 0 0
    → front_at phase maximum octets ≡ Ok (lent.extra.now, lent.headers.now) → headers_in lent.headers.now ≡ Ok headers → GivesPacket (Ok lent) (packet_in phase maximum octets)
unfolding packet_in
is_judged phase maximum octets lent headers fits code front hs =
    let made : PlainPacket = record { code = get_or octets 0 0; extra = lent.extra.now; headers = headers } in (
      made,
      ap (λ (r : Result (List ℕ × List ℕ) ObexRefusal). r >>= λ front. headers_in front.1 >>= λ headers. Ok (record { code = get_or octets 0 0; extra = front.0; headers = headers })) front
          ∙ ap (λ (r : Result (List PlainHeader) ObexRefusal). r >>= λ headers. Ok (record { code = get_or octets 0 0; extra = lent.extra.now; headers = headers })) hs,
      record { code = code; extra = refl; headers = (headers_take lent.headers.now headers (front_fits phase maximum octets (lent.extra.now, lent.headers.now) fits front) hs).0 },
    )
