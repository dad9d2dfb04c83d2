-- A framer that takes what a host is fed holds what the host holds.
use Rattle.std.proofs.Common.{◌≡◌, ◌∙◌, ℕ, ◌+◌, List, [], ◌∷◌, ◌++◌, length, take, refl, sym, ap, subst, append_assoc, length-append, arith}
use Rattle.std.specs.Prelude.{Option, None, MatchOption}
use Rattle.std.specs.List.{AllByRecursion}
use Rattle.std.proofs.lemmas.List.{append-nil}
use Rattle.h4_framing.specs.declared.refusal.H4Refusal.{H4Refusal}
use Rattle.h4_framing.specs.declared.framer.Taken.{Taken}
use Rattle.h4_framing.specs.declared.framer.Taken.TheVariants.{Whole, More, Refused}
use Rattle.h4_framing.specs.Packets.{Packet, packet, spelling, spellings, IsPacket}
use Rattle.h4_framing.specs.Stream.{IsUnfinished, GoesWrong}
use Rattle.h4_framing.specs.Framing.{Framing, counted}
use Rattle.h4_framing.specs.Taking.{Takes}
use Rattle.h4_framing.proofs.ExtentLemmas.{wrong_more, packet_right}
use Rattle.h4_framing.proofs.SpellingLemmas.{one_spelling}
use Rattle.bt_host.specs.Refusals.{acl_limit}
use Rattle.bt_host.specs.Pieces.{IsTaken, place_behind}
use Rattle.receiving.proofs.Lists.{empty_parts, some_spelled}

none_spelled : (packets : List Packet) → spellings packets ≡ [] → packets ≡ []
none_spelled [] is = refl
none_spelled (p ∷ packets) is = absurd (some_spelled p (spellings packets) is)

-- a whole packet is no packets and an unfinished one
whole_only : (u : Packet) (packets : List Packet) (rest : List ℕ) → IsPacket acl_limit u → AllByRecursion (IsPacket acl_limit) packets → spelling u ≡ spellings packets ++ rest → IsUnfinished acl_limit rest → (packets ≡ u ∷ []) × (rest ≡ [])
whole_only u [] rest is each spelled (q, (more, whole, some, begins)) =
    absurd (some (one_spelling acl_limit u q more [] is whole (ap (λ (t : List ℕ). t ++ more) spelled ∙ begins ∙ sym (append-nil (spelling q)))).1)
whole_only u (p ∷ packets) rest is each spelled unfinished =
    let one = one_spelling acl_limit u p [] (spellings packets ++ rest) is each.0 (append-nil (spelling u) ∙ spelled ∙ append_assoc (spelling p) (spellings packets) rest) in
    let parts = empty_parts (spellings packets) rest (sym one.1) in
    (ap (λ (ps : List Packet). p ∷ ps) (none_spelled packets parts.0) ∙ ap (λ (q : Packet). q ∷ []) (sym one.0), parts.1)

-- an unfinished packet is no packets
cut_only : (octets : List ℕ) (packets : List Packet) (rest : List ℕ) → IsUnfinished acl_limit octets → AllByRecursion (IsPacket acl_limit) packets → octets ≡ spellings packets ++ rest → packets ≡ []
cut_only octets [] rest unfinished each split = refl
cut_only octets (p ∷ packets) rest (q, (more, whole, some, begins)) each split =
    let one = one_spelling acl_limit q p [] ((spellings packets ++ rest) ++ more) whole each.0
    (append-nil (spelling q) ∙ sym begins ∙ ap (λ (t : List ℕ). t ++ more) (split ∙ append_assoc (spelling p) (spellings packets) rest) ∙ append_assoc (spelling p) (spellings packets ++ rest) more) in
    absurd (some (empty_parts (spellings packets ++ rest) more (sym one.1)).1)

-- packets and an unfinished one do not go wrong
never_wrong : (packets : List Packet) (rest : List ℕ) (refusal : H4Refusal) (n : ℕ) → AllByRecursion (IsPacket acl_limit) packets → IsUnfinished acl_limit rest → GoesWrong acl_limit (spellings packets ++ rest) refusal n → ⊥
never_wrong [] rest refusal n each (q, (more, whole, some, begins)) wrong =
    packet_right acl_limit q [] refusal n whole (subst (λ (t : List ℕ). GoesWrong acl_limit t refusal n) (begins ∙ sym (append-nil (spelling q))) (wrong_more acl_limit rest more refusal n wrong))
never_wrong (p ∷ packets) rest refusal n each unfinished wrong =
    packet_right acl_limit p (spellings packets ++ rest) refusal n each.0 (subst (λ (t : List ℕ). GoesWrong acl_limit t refusal n) (append_assoc (spelling p) (spellings packets) rest) wrong)

abbrev framing_with : Framing → ℕ → List ℕ → Framing
framing_with framing before held = record framing { before = before; held = held }

-- ---- one octet more

module _ (o : ℕ) (framing framing' : Framing) (packets : List Packet) (taken : IsTaken framing framing' (o ∷ []) packets) (limit : framing.limit ≡ acl_limit) (sound : framing.fault ≡ None) where
  goes_on : (answer : Taken) (own' : Framing) → Takes framing (o ∷ []) answer own' → own' ≡ framing'
  goes_on (Whole unit n) own' (none, is, some, short, spelled, after) =
      let one : n ≡ 1 = omega (arith, some, short) in
      let split : spelling (packet unit) ≡ spellings packets ++ taken.rest = spelled ∙ ap (λ (k : ℕ). framing.held ++ take k (o ∷ [])) one ∙ taken.read.octets in
      let only = whole_only (packet unit) packets taken.rest (subst (λ (k : ℕ). IsPacket k (packet unit)) limit is) taken.read.each split taken.unfinished in
      let long : length (spelling (packet unit)) ≡ length framing.held + n = ap (λ (t : List ℕ). length t) (spelled ∙ ap (λ (k : ℕ). framing.held ++ take k (o ∷ [])) one) ∙ length-append framing.held (o ∷ []) ∙ ap (λ (k : ℕ). length framing.held + k) (sym one) in
      after ∙ ap (λ (k : ℕ). framing_with framing (counted framing.before k) []) (sym long)
      ∙ ap (λ (ps : List Packet). framing_with framing (place_behind framing ps) []) (sym only.0) ∙ ap (framing_with framing (place_behind framing packets)) (sym only.1) ∙ sym taken.framing_is
  goes_on More own' (none, unfinished, after) =
      let nothing : packets ≡ [] = cut_only (framing.held ++ o ∷ []) packets taken.rest (subst (λ (k : ℕ). IsUnfinished k (framing.held ++ o ∷ [])) limit unfinished) taken.read.each taken.read.octets in
      let held : framing.held ++ o ∷ [] ≡ taken.rest = taken.read.octets ∙ ap (λ (ps : List Packet). spellings ps ++ taken.rest) nothing in
      after ∙ ap (framing_with framing framing.before) held ∙ ap (λ (ps : List Packet). framing_with framing (place_behind framing ps) taken.rest) (sym nothing) ∙ sym taken.framing_is
  goes_on (Refused refusal place) own' (why, after) =
      let wrong = subst (λ (f : Option (H4Refusal × ℕ)). MatchOption f ((n : ℕ) × GoesWrong framing.limit (framing.held ++ o ∷ []) refusal n × (place ≡ counted framing.before n)) (λ fault. fault ≡ (refusal, place))) sound why in
      absurd (never_wrong packets taken.rest refusal wrong.0 taken.read.each taken.unfinished
      (subst (λ (t : List ℕ). GoesWrong acl_limit t refusal wrong.0) taken.read.octets (subst (λ (k : ℕ). GoesWrong k (framing.held ++ o ∷ []) refusal wrong.0) limit wrong.1)))

  pub follows_alike : (own own' : Framing) (answer : Taken) → own ≡ framing → Takes own (o ∷ []) answer own' → own' ≡ framing'
  follows_alike own own' answer same takes = goes_on answer own' (subst (λ (f : Framing). Takes f (o ∷ []) answer own') same takes)
