-- A stream has one reading.
use Rattle.std.proofs.Common.{◌≡◌, ℕ, zero, suc, ◌+◌, ◌≤◌, List, [], ◌∷◌, ◌++◌, length, take, drop, refl, sym, ap, subst, ◌∙◌, append_assoc, arith, inl, inr}
use Rattle.std.specs.List.{AllByRecursion}
use Rattle.std.proofs.lemmas.Bool.{cases_lt}
use Rattle.std.proofs.lemmas.List.{append-nil, length-append, length-take-le, take-append-drop, drop_at, nil_from_length}
use Rattle.bt_base.specs.Octets.{IsOctets}
use Rattle.h4_framing.specs.declared.refusal.H4Refusal.{H4Refusal}
use Rattle.h4_framing.specs.declared.refusal.H4Refusal.TheVariants.{BadIndicator, AclTooLong, Truncated}
use Rattle.h4_framing.specs.declared.extent.Extent.{Extent}
use Rattle.h4_framing.specs.declared.extent.Extent.TheVariants.{AtLeast, Known, Refused}
use Rattle.h4_framing.specs.declared.leading.Leading.{Leading}
use Rattle.h4_framing.specs.declared.leading.Leading.TheVariants as leading
use Rattle.h4_framing.specs.Packets.{Packet, packet, spelling, spellings, IsPacket}
use Rattle.h4_framing.specs.Stream.{IsUnfinished, GoesWrong, Ending, Whole, Cut, Fault, Ends, Reads}
use Rattle.h4_framing.specs.Extents.{extent}
use Rattle.h4_framing.specs.Leading.{IsLeading}
use Rattle.h4_framing.specs.Laws.{IsWholeOf}
use Rattle.h4_framing.proofs.OctetLists.{IsOctets-drop, IsOctets-take}
use Rattle.h4_framing.proofs.ExtentLemmas.{packet_known, known_packet, known_take, known_unfinished, short_unfinished, refused_wrong, wrong_refused, unfinished_known, unfinished_right, packet_right, packet_long}
use Rattle.h4_framing.proofs.SpellingLemmas.{one_spelling}

-- no packet stands whole at the front
pub NoPacket : ℕ → List ℕ → Type 0
NoPacket limit octets = (p : Packet) (more : List ℕ) → IsPacket limit p → octets ≡ spelling p ++ more → ⊥

pub unfinished_none : (limit : ℕ) (octets : List ℕ) → IsUnfinished limit octets → NoPacket limit octets
unfolding NoPacket
unfinished_none limit octets u p more fits e =
    let lt = unfinished_known limit octets (length (spelling p)) u (ap (extent limit) e ∙ packet_known limit p more fits) in
    omega (arith, ap length e, length-append (spelling p) more)

pub wrong_none : (limit : ℕ) (octets : List ℕ) (r : H4Refusal) (n : ℕ) → GoesWrong limit octets r n → NoPacket limit octets
unfolding NoPacket
wrong_none limit octets r n h p more fits e = packet_right limit p more r n fits (subst (λ (xs : List ℕ). GoesWrong limit xs r n) e h)

pub nothing_none : (limit : ℕ) → NoPacket limit []
unfolding NoPacket
nothing_none limit p more fits e = omega (arith, packet_long p, ap length e, length-append (spelling p) more)

pub ends_none : (limit : ℕ) (rest : List ℕ) (from : ℕ) (e : Ending) → Ends limit rest from e → NoPacket limit rest
ends_none limit rest from Whole h = subst (NoPacket limit) (sym h) (nothing_none limit)
ends_none limit rest from Cut h = unfinished_none limit rest h.1
ends_none limit rest from (Fault r place) h = wrong_none limit rest r h.0 h.1

-- packets that stand at the front of a list of packets are its first ones
pub record ComesFirst (ps qs : List Packet) (x rest : List ℕ) : Type 0 where
  pub others : List Packet
  pub split : qs ≡ ps ++ others
  pub left : x ≡ spellings others ++ rest

pub front_packets : (limit : ℕ) (ps qs : List Packet) (x rest : List ℕ) → AllByRecursion (IsPacket limit) ps → AllByRecursion (IsPacket limit) qs → NoPacket limit rest
    → spellings ps ++ x ≡ spellings qs ++ rest → ComesFirst ps qs x rest
unfolding NoPacket
front_packets limit [] qs x rest fits-ps fits-qs none e = record { others = qs; split = refl; left = e }
front_packets limit (p ∷ ps) [] x rest fits-ps fits-qs none e = absurd (none p (spellings ps ++ x) fits-ps.0 (sym e ∙ append_assoc (spelling p) (spellings ps) x))
front_packets limit (p ∷ ps) (q ∷ qs) x rest fits-ps fits-qs none e =
    let same = one_spelling limit p q (spellings ps ++ x) (spellings qs ++ rest) fits-ps.0 fits-qs.0 (sym (append_assoc (spelling p) (spellings ps) x) ∙ e ∙ append_assoc (spelling q) (spellings qs) rest) in
    let more = front_packets limit ps qs x rest fits-ps.1 fits-qs.1 none same.1 in
    record { others = more.others; split = ap (λ (k : Packet). k ∷ qs) (sym same.0) ∙ ap (λ (ks : List Packet). p ∷ ks) more.split; left = more.left }

no_others : (limit : ℕ) (others : List Packet) (x rest : List ℕ) → AllByRecursion (IsPacket limit) others → NoPacket limit x → x ≡ spellings others ++ rest → (others ≡ []) × (x ≡ rest)
unfolding NoPacket
no_others limit [] x rest fits none e = (refl, e)
no_others limit (q ∷ qs) x rest fits none e = absurd (none q (spellings qs ++ rest) fits.0 (e ∙ append_assoc (spelling q) (spellings qs) rest))

all_right : (P : Packet → Type 0) (ps qs : List Packet) → AllByRecursion P (ps ++ qs) → AllByRecursion P qs
all_right P [] qs h = h
all_right P (p ∷ ps) qs h = all_right P ps qs h.1

pub all_append : (P : Packet → Type 0) (ps qs : List Packet) → AllByRecursion P ps → AllByRecursion P qs → AllByRecursion P (ps ++ qs)
all_append P [] qs h k = k
all_append P (p ∷ ps) qs h k = (h.0, all_append P ps qs h.1 k)

pub same_split : (limit : ℕ) (ps qs : List Packet) (x y : List ℕ) → AllByRecursion (IsPacket limit) ps → AllByRecursion (IsPacket limit) qs → NoPacket limit x → NoPacket limit y
    → spellings ps ++ x ≡ spellings qs ++ y → (ps ≡ qs) × (x ≡ y)
same_split limit ps qs x y fits-ps fits-qs none-x none-y e =
    let first = front_packets limit ps qs x y fits-ps fits-qs none-y e in
    let fits : AllByRecursion (IsPacket limit) first.others = all_right (IsPacket limit) ps first.others (subst (AllByRecursion (IsPacket limit)) first.split fits-qs) in
    let none = no_others limit first.others x y fits none-x first.left in
    (sym (first.split ∙ ap (λ (ks : List Packet). ps ++ ks) none.0 ∙ append-nil ps), none.1)

refused_same : (r s : H4Refusal) (m n : ℕ) → Refused r m ≡ Refused s n → (r ≡ s) × (m ≡ n)
refused_same r s m n e = (cc, cc)

pub no_wrong_nothing : (limit : ℕ) (r : H4Refusal) (n : ℕ) → GoesWrong limit [] r n → ⊥
no_wrong_nothing limit BadIndicator n h = let e = h.2 in absurd cc
no_wrong_nothing limit AclTooLong n h = let e = h.3 in absurd cc
no_wrong_nothing limit Truncated n h = h

ends_same : (limit : ℕ) (rest : List ℕ) (from : ℕ) (e f : Ending) → Ends limit rest from e → Ends limit rest from f → e ≡ f
ends_same limit rest from Whole Whole h k = refl
ends_same limit rest from Whole Cut h k = absurd (k.0 h)
ends_same limit rest from Whole (Fault s q) h k = absurd (no_wrong_nothing limit s k.0 (subst (λ (xs : List ℕ). GoesWrong limit xs s k.0) h k.1))
ends_same limit rest from Cut Whole h k = absurd (h.0 k)
ends_same limit rest from Cut Cut h k = refl
ends_same limit rest from Cut (Fault s q) h k = absurd (unfinished_right limit rest s k.0 h.1 k.1)
ends_same limit rest from (Fault r p) Whole h k = absurd (no_wrong_nothing limit r h.0 (subst (λ (xs : List ℕ). GoesWrong limit xs r h.0) k h.1))
ends_same limit rest from (Fault r p) Cut h k = absurd (unfinished_right limit rest r h.0 k.1 h.1)
ends_same limit rest from (Fault r p) (Fault s q) h k =
    let same = refused_same r s h.0 k.0 (sym (wrong_refused limit rest r h.0 h.1) ∙ wrong_refused limit rest s k.0 k.1) in
    let place : p ≡ q = h.2 ∙ ap (λ (n : ℕ). from + n) same.1 ∙ sym k.2 in
    ap (λ (x : H4Refusal). Fault x p) same.0 ∙ ap (Fault s) place

pub one_reading : (limit : ℕ) (stream : List ℕ) (ps qs : List Packet) (e f : Ending) → Reads limit stream ps e → Reads limit stream qs f → (ps ≡ qs) × (e ≡ f)
one_reading limit stream ps qs e f h k =
    let same = same_split limit ps qs h.rest k.rest h.each k.each (ends_none limit h.rest (length (spellings ps)) e h.ends) (ends_none limit k.rest (length (spellings qs)) f k.ends) (sym h.whole ∙ k.whole) in
    let moved : Ends limit h.rest (length (spellings ps)) f =
    subst (λ (xs : List ℕ). Ends limit xs (length (spellings ps)) f) (sym same.1) (subst (λ (ks : List Packet). Ends limit k.rest (length (spellings ks)) f) (sym same.0) k.ends) in
    (same.0, ends_same limit h.rest (length (spellings ps)) e f h.ends moved)

-- ---- what is written is read

leading_same : (limit : ℕ) (p q : Packet) (more : List ℕ) (n : ℕ) → IsPacket limit p → IsPacket limit q → n ≤ length (spelling p ++ more) → take n (spelling p ++ more) ≡ spelling q → (q ≡ p) × (n ≡ length (spelling p))
leading_same limit p q more n fits-p fits-q le e =
    let split : spelling p ++ more ≡ spelling q ++ drop n (spelling p ++ more) = sym (take-append-drop n (spelling p ++ more)) ∙ ap (λ (xs : List ℕ). xs ++ drop n (spelling p ++ more)) e in
    let same = one_spelling limit p q more (drop n (spelling p ++ more)) fits-p fits-q split in
    (sym same.0, omega (arith, ap length e, length-take-le n (spelling p ++ more) le, ap (λ (k : Packet). length (spelling k)) same.0))

pub written_is_read : (limit : ℕ) (p : Packet) (more : List ℕ) (found : Leading) → IsPacket limit p → IsLeading limit (spelling p ++ more) found → IsWholeOf p found
unfolding NoPacket
written_is_read limit p more (leading.Whole unit n) fits h = leading_same limit p (packet unit) more n fits h.0 h.2 h.3
written_is_read limit p more leading.Partial fits h = unfinished_none limit (spelling p ++ more) h p more fits refl
written_is_read limit p more (leading.Refused r n) fits h = packet_right limit p more r n fits h

-- ---- each stream is read

-- what stands at the front of octets
data Front (limit : ℕ) (octets : List ℕ) : Type 0 where
  whole : (p : Packet) (more : List ℕ) → IsPacket limit p → octets ≡ spelling p ++ more → Front limit octets
  unfinished : IsUnfinished limit octets → Front limit octets
  wrong : (r : H4Refusal) (n : ℕ) → GoesWrong limit octets r n → Front limit octets

front_by : (limit : ℕ) (octets : List ℕ) (x : Extent) → 255 ≤ limit → IsOctets octets → extent limit octets ≡ x → Front limit octets
front_by limit octets (AtLeast n) low fits e = unfinished (short_unfinished limit octets n low fits e)
front_by limit octets (Known n) low fits e =
    elim (cases_lt (length octets) n) [
      | inl lt ↦ unfinished (known_unfinished limit octets n e fits lt)
      | inr le ↦
          let known : extent limit (take n octets) ≡ Known (length (take n octets)) = known_take limit octets n e le ∙ ap Known (sym (length-take-le n octets le)) in
          let p = known_packet limit (take n octets) known (IsOctets-take n octets fits) in
          whole p.0 (drop n octets) p.1 (sym (take-append-drop n octets) ∙ ap (λ (xs : List ℕ). xs ++ drop n octets) (sym p.2))
    ]
front_by limit octets (Refused r n) low fits e = wrong r n (refused_wrong limit octets r n fits e)

reads_nothing : (limit : ℕ) → Reads limit [] [] Whole
reads_nothing limit = record { each = tt; rest = []; whole = refl; ends = refl }

-- a packet before what is read
later : ℕ → Ending → Ending
later n Whole = Whole
later n Cut = Cut
later n (Fault r place) = Fault r (n + place)

ends_later : (limit : ℕ) (rest : List ℕ) (from n : ℕ) (e : Ending) → Ends limit rest from e → Ends limit rest (n + from) (later n e)
unfolding later
ends_later limit rest from n Whole h = h
ends_later limit rest from n Cut h = h
ends_later limit rest from n (Fault r place) h = (h.0, h.1, let at = h.2 in omega arith)

reads_after : (limit : ℕ) (p : Packet) (stream : List ℕ) (ps : List Packet) (e : Ending) → IsPacket limit p → Reads limit stream ps e → Reads limit (spelling p ++ stream) (p ∷ ps) (later (length (spelling p)) e)
reads_after limit p stream ps e fits h =
    record {
      each = (fits, h.each);
      rest = h.rest;
      whole = ap (λ (xs : List ℕ). spelling p ++ xs) h.whole ∙ sym (append_assoc (spelling p) (spellings ps) h.rest);
      ends = subst (λ (n : ℕ). Ends limit h.rest n (later (length (spelling p)) e)) (sym (length-append (spelling p) (spellings ps))) (ends_later limit h.rest (length (spellings ps)) (length (spelling p)) e h.ends);
    }

read_within : (fuel limit : ℕ) (stream : List ℕ) → 255 ≤ limit → IsOctets stream → length stream ≤ fuel → (packets : List Packet) × (ending : Ending) × Reads limit stream packets ending
read_within zero limit stream low fits le = ([], Whole, subst (λ (xs : List ℕ). Reads limit xs [] Whole) (sym (nil_from_length stream (omega arith))) (reads_nothing limit))
read_within (suc fuel) limit [] low fits le = ([], Whole, reads_nothing limit)
read_within (suc fuel) limit (x ∷ xs) low fits le =
    elim (front_by limit (x ∷ xs) (extent limit (x ∷ xs)) low fits refl) [
      | whole p more ok e ↦
          let short : length more ≤ fuel = omega (arith, packet_long p, ap length e, length-append (spelling p) more) in
          let left : IsOctets more = subst IsOctets (ap (drop (length (spelling p))) e ∙ drop_at (spelling p) more (length (spelling p)) refl) (IsOctets-drop (length (spelling p)) (x ∷ xs) fits) in
          let rest = read_within fuel limit more low left short in
          (p ∷ rest.0, later (length (spelling p)) rest.1, subst (λ (ys : List ℕ). Reads limit ys (p ∷ rest.0) (later (length (spelling p)) rest.1)) (sym e) (reads_after limit p more rest.0 rest.1 ok rest.2))
      | unfinished u ↦ ([], Cut, record { each = tt; rest = x ∷ xs; whole = refl; ends = ((λ none. absurd cc), u) })
      | wrong r n h ↦ ([], Fault r n, record { each = tt; rest = x ∷ xs; whole = refl; ends = (n, h, omega arith) })
    ]

pub each_read : (limit : ℕ) (stream : List ℕ) → 255 ≤ limit → IsOctets stream → (packets : List Packet) × (ending : Ending) × Reads limit stream packets ending
each_read limit stream low fits = read_within (length stream) limit stream low fits (omega arith)
