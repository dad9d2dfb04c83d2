-- A query whose requests are answered by the parts of one answer.
use Rattle.std.proofs.Common.{◌≡◌, ◌^◌, ℕ, ◌+◌, ◌-◌, ◌<◌, ◌≤◌, false, cond, List, [], ◌∷◌, ◌++◌, length, take, drop, Option, Some, None, refl, sym, ap, ◌∙◌, arith}
use Rattle.std.specs.Prelude.{◌==◌, nat_lt, unwrap_or}
use Rattle.std.specs.List.{AllByRecursion}
use Rattle.std.proofs.Math.Seq.{take-add}
use Rattle.std.proofs.lemmas.Bool.{eq-eqb, ne_eqb, le-ltb, cond-true, cond-false, cases_lt}
use Rattle.std.proofs.Common.{inl, inr}
use Rattle.std.proofs.lemmas.List.{length-take, take_all}
use Rattle.sdp_elements.specs.declared.target.Target.{Target}
use Rattle.sdp_elements.specs.Exchange.{pdu_octets, offset_in, part_len, part_parameters, part_reply}
use Rattle.sdp_elements.specs.Targets.{target_in}
use Rattle.sdp_client.specs.declared.query.Stage.TheVariants as stages
use Rattle.sdp_client.specs.declared.reason.Found.{Found}
use Rattle.sdp_client.specs.declared.reason.Found.TheVariants.{More, Refused}
use Rattle.sdp_client.specs.declared.reason.QueryReason.TheVariants.{WrongTransaction, TooLong}
use Rattle.sdp_client.specs.Asking.{Asking}
use Rattle.sdp_client.specs.Hearing.{found_at, found_in, found_target, found_whole, after_whole, with_part, asks_on, ended, found_part, after_part, found_said, when_said}
use Rattle.sdp_client.specs.Laws.{Size, IsSize, next_part, or_later, found_over, PartsJoin}
use Rattle.sdp_client.specs.Replies.{PlainPart, Gives, said_in, is_of_another}
use Rattle.sdp_client.proofs.PartLaws.{own_reply, state_at, state_last, state_within, offset_again, part_said}

-- ---- one reply

abbrev asking_of : ℕ → List ℕ → List ℕ → Asking
asking_of transaction continuation joined = record { stage = stages.Due; transaction = transaction; continuation = continuation; joined = joined }

abbrev written_of : ℕ → List ℕ → List ℕ → Asking
written_of transaction continuation joined = record { stage = stages.Written; transaction = transaction; continuation = continuation; joined = joined }

found_heard : (asking : Asking) (reply : List ℕ) (part : PlainPart) → is_of_another reply asking.transaction ≡ false → said_in reply ≡ Gives part
    → cond (is_of_another reply asking.transaction) (Refused WrongTransaction) (found_said asking (said_in reply)) ≡ found_part asking part
found_heard asking reply part own said = cond-false (is_of_another reply asking.transaction) (Refused WrongTransaction) (found_said asking (said_in reply)) own ∙ ap (found_said asking) said

after_heard : (asking : Asking) (reply : List ℕ) (part : PlainPart) → is_of_another reply asking.transaction ≡ false → said_in reply ≡ Gives part
    → cond (is_of_another reply asking.transaction) asking (when_said asking (said_in reply)) ≡ after_part asking part
after_heard asking reply part own said = cond-false (is_of_another reply asking.transaction) asking (when_said asking (said_in reply)) own ∙ ap (when_said asking) said

-- what is found whole is no part
named : (l2cap rfcomm : Option ℕ) (later : Found) → or_later (found_target l2cap rfcomm) later ≡ found_target l2cap rfcomm
named None None later = refl
named None (Some rfcomm) later = refl
named (Some l2cap) rfcomm later = refl

whole_first : (o : Option Target) (later : Found) → or_later (found_in o) later ≡ found_in o
whole_first None later = refl
whole_first (Some target) later = named target.l2cap target.rfcomm later

-- the last part
part_last : (asking : Asking) (part : PlainPart) (octets : List ℕ) → asking.joined ++ part.octets ≡ octets → length octets ≤ 4096 → part.continuation ≡ [] → found_part asking part ≡ found_whole octets
part_last asking part octets all fits last =
    let joined = asking.joined ++ part.octets in
    let len = ap length all in
    let short = le-ltb 4096 (length joined) (omega arith) in
    cond-false (nat_lt 4096 (length joined)) (Refused TooLong) (cond (length part.continuation == 0) (found_whole joined) More) short
    ∙ cond-true (length part.continuation == 0) (found_whole joined) More (eq-eqb (length part.continuation) 0 (ap length last))
    ∙ ap found_whole all

-- a part with more behind it
more_found : (asking : Asking) (part : PlainPart) → length (asking.joined ++ part.octets) ≤ 4096 → length part.continuation ≡ 2 → found_part asking part ≡ More
more_found asking part fits more =
    let joined = asking.joined ++ part.octets in
    let short = le-ltb 4096 (length joined) fits in
    cond-false (nat_lt 4096 (length joined)) (Refused TooLong) (cond (length part.continuation == 0) (found_whole joined) More) short
    ∙ cond-false (length part.continuation == 0) (found_whole joined) More (ne_eqb (length part.continuation) 0 (λ e. omega arith))

more_after : (asking : Asking) (part : PlainPart) → length (asking.joined ++ part.octets) ≤ 4096 → length part.continuation ≡ 2 → after_part asking part ≡ asks_on (with_part asking part) part.continuation
more_after asking part fits more =
    let joined = asking.joined ++ part.octets in
    let short = le-ltb 4096 (length joined) fits in
    let on = asks_on (with_part asking part) part.continuation in
    cond-false (nat_lt 4096 (length joined)) (ended asking TooLong) (cond (length part.continuation == 0) (after_whole (with_part asking part)) on) short
    ∙ cond-false (length part.continuation == 0) (after_whole (with_part asking part)) on (ne_eqb (length part.continuation) 0 (λ e. omega arith))

-- ---- one reply after the other

-- how far a query has come: the octets up to an offset are joined, and the next part begins there
record Stands (octets : List ℕ) (transaction offset : ℕ) (continuation joined : List ℕ) : Type 0 where
  joined_is : joined ≡ take offset octets
  names : offset_in continuation (length octets) ≡ Some offset
  counted : transaction ≤ 1 + offset
  within : offset < length octets
  fits : length octets ≤ 4096

-- the part that a reply in this size carries
abbrev carried : List ℕ → ℕ → Size → ℕ
carried octets offset size = part_len size.most (length octets - offset) size.room

abbrev piece_of : List ℕ → ℕ → ℕ → PlainPart
piece_of octets offset n = record { octets = take n (drop offset octets); continuation = state_at (length octets) (offset + n) }

reply_is : (octets : List ℕ) (size : Size) (transaction offset : ℕ) (continuation joined : List ℕ) → Stands octets transaction offset continuation joined
    → next_part octets size (written_of transaction continuation joined) ≡ pdu_octets 7 transaction (part_parameters octets offset (carried octets offset size))
reply_is octets size transaction offset continuation joined s =
    ap (λ (o : Option ℕ). part_reply 7 transaction octets (unwrap_or o 0) size.most size.room) s.names

some_carried : (octets : List ℕ) (offset : ℕ) (size : Size) → offset < length octets → IsSize size → 0 < carried octets offset size
some_carried octets offset size h is = omega arith

carried_within : (octets : List ℕ) (offset : ℕ) (size : Size) → offset < length octets → offset + carried octets offset size ≤ length octets
carried_within octets offset size h = omega arith

joined_more : (octets joined : List ℕ) (offset n : ℕ) → joined ≡ take offset octets → joined ++ take n (drop offset octets) ≡ take (offset + n) octets
joined_more octets joined offset n e = ap (λ (x : List ℕ). x ++ take n (drop offset octets)) e ∙ sym (take-add offset n octets)

both_heard : (f g : Found) (a b : Asking) (octets : List ℕ) (sizes : List Size) → f ≡ g → a ≡ b → or_later f (found_over octets a sizes) ≡ or_later g (found_over octets b sizes)
both_heard f g a b octets sizes e h = ap (λ (x : Found). or_later x (found_over octets a sizes)) e ∙ ap (λ (x : Asking). or_later g (found_over octets x sizes)) h

-- a query that stands within an answer comes to its end
over : (sizes : List Size) (octets : List ℕ) (transaction offset : ℕ) (continuation joined : List ℕ) → Stands octets transaction offset continuation joined → AllByRecursion IsSize sizes → length octets ≤ offset + length sizes
    → found_over octets (asking_of transaction continuation joined) sizes ≡ found_whole octets
over [] octets transaction offset continuation joined s is enough = absurd (omega (arith, s.within))
over (size ∷ sizes) octets transaction offset continuation joined s is enough =
    let asking = written_of transaction continuation joined in
    let n = carried octets offset size in
    let part = piece_of octets offset n in
    let reply = next_part octets size asking in
    let within = s.within in
    let fits = s.fits in
    let counted = s.counted in
    let some = some_carried octets offset size within is.0 in
    let bound = carried_within octets offset size within in
    let written = reply_is octets size transaction offset continuation joined s in
    let own : is_of_another reply transaction ≡ false = ap (λ (x : List ℕ). is_of_another x transaction) written ∙ own_reply 7 transaction (part_parameters octets offset n) (omega arith) in
    let said : said_in reply ≡ Gives part = ap said_in written ∙ part_said transaction octets offset n (omega arith) some bound fits in
    let step = both_heard _ (found_part asking part) _ (after_part asking part) octets sizes (found_heard asking reply part own said) (after_heard asking reply part own said) in
    let all = joined_more octets joined offset n s.joined_is in
    elim (cases_lt (offset + n) (length octets)) [
      | inr reached ↦
          let last : offset + n ≡ length octets = omega arith in
          let whole = all ∙ take_all (offset + n) octets reached in
          step ∙ ap (λ (x : Found). or_later x (found_over octets (after_part asking part) sizes)) (part_last asking part octets whole fits (state_last (length octets) (offset + n) last))
          ∙ whole_first (target_in octets) (found_over octets (after_part asking part) sizes)
      | inl less ↦
          let state = state_within (length octets) (offset + n) less in
          let two : length part.continuation ≡ 2 = ap length state in
          let room : length (joined ++ part.octets) ≤ 4096 = omega (arith, ap length all, length-take (offset + n) octets) in
          let next = asks_on (with_part asking part) part.continuation in
          step ∙ both_heard (found_part asking part) More (after_part asking part) next octets sizes (more_found asking part room two) (more_after asking part room two)
          ∙ over sizes octets (transaction + 1) (offset + n) part.continuation (joined ++ part.octets)
          (record {
            joined_is = all;
            names = ap (λ (k : List ℕ). offset_in k (length octets)) state ∙ offset_again (length octets) (offset + n) (omega arith) less (omega arith);
            counted = omega arith;
            within = less;
            fits = fits;
          }) is.1 (omega arith)
    ]

-- an answer that one reply carries
pub one_reply : (octets reply : List ℕ) (transaction most room : ℕ) → transaction < 2 ^ 16 → 0 < length octets → length octets ≤ 4096 → length octets ≤ most → length octets + 10 ≤ room
    → reply ≡ part_reply 7 transaction octets 0 most room → found_at (written_of transaction [] []) reply ≡ found_whole octets
one_reply octets reply transaction most room t some fits enough place e =
    let n = part_len most (length octets - 0) room in
    let whole : n ≡ length octets = omega arith in
    let part = piece_of octets 0 n in
    let own : is_of_another reply transaction ≡ false = ap (λ (x : List ℕ). is_of_another x transaction) e ∙ own_reply 7 transaction (part_parameters octets 0 n) t in
    let said : said_in reply ≡ Gives part = ap said_in e ∙ part_said transaction octets 0 n t (omega arith) (omega arith) fits in
    found_heard (written_of transaction [] []) reply part own said
    ∙ part_last (written_of transaction [] []) part octets (take_all n octets (omega arith)) fits (state_last (length octets) (0 + n) (omega arith))

pub parts_join : PartsJoin
parts_join octets sizes some fits is enough = over sizes octets 1 0 [] [] (record { joined_is = refl; names = refl; counted = omega arith; within = some; fits = fits }) is (omega arith)
