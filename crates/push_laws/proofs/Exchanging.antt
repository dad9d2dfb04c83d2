-- One request of a client over RFCOMM, and its response, as octets that were to be sent and that came.
use Rattle.std.proofs.Common.{inl, inr, ◌⊎◌, Bool, true, false, ◌≡◌, ℕ, List, [], ◌∷◌, ◌++◌, length, refl, sym, ap, subst, ◌∙◌, arith, append-nil, append_assoc}
use Rattle.std.proofs.lemmas.Grind.{flat_map-append}
use Rattle.push_model.specs.rfcomm_frames.specs.ObexPackets.{IsPacket}
use Rattle.rfcomm_laws.specs.Pairs.{IsFront}
use Rattle.push_laws.proofs.Couples.{Sums}
use Rattle.push_laws.proofs.Driving.{joined}
use Rattle.push_laws.proofs.Requesting.{IsRequest, request_packet}
use Rattle.push_laws.proofs.Stating.{IsResponse, IsAnswer}

-- ---- lists of octets

pub same_rest : (xs a b : List ℕ) → xs ++ a ≡ xs ++ b → a ≡ b
same_rest [] a b e = e
same_rest (x ∷ xs) a b e = same_rest xs a b (tail e)
  where
    tail : x ∷ (xs ++ a) ≡ x ∷ (xs ++ b) → xs ++ a ≡ xs ++ b
    tail f = cc

first_none : (ys rest : List ℕ) → [] ≡ ys ++ rest → ys ≡ []
first_none [] rest e = refl
first_none (y ∷ ys) rest e = absurd cc

-- nothing more came where all had come
no_more : (got all ys rest : List ℕ) → got ≡ all → all ≡ (got ++ ys) ++ rest → ys ≡ []
no_more got all ys rest is front = first_none ys rest (same_rest got [] (ys ++ rest) (append-nil got ∙ is ∙ front ∙ append_assoc got ys rest))

-- what came next of what is left
next_of : (before part more ys rest : List ℕ) → before ++ (part ++ more) ≡ ((before ++ part) ++ ys) ++ rest → more ≡ ys ++ rest
next_of before part more ys rest e = same_rest part more (ys ++ rest) (same_rest before (part ++ more) (part ++ (ys ++ rest)) (e ∙ append_assoc (before ++ part) ys rest ∙ append_assoc before part (ys ++ rest)))

pub joined_more : (packets : List (List ℕ)) (packet : List ℕ) → joined (packets ++ packet ∷ []) ≡ joined packets ++ packet
joined_more packets packet = flat_map-append (λ (p : List ℕ). p) packets (packet ∷ []) ∙ ap (λ (xs : List ℕ). joined packets ++ xs) (append-nil packet)

some_octets : (packet : List ℕ) → IsPacket packet → packet ≡ [] → ⊥
some_octets packet is none = let least = is.0 in let len = ap length none in omega (arith, least, len)

-- ---- a request and its response

-- nothing is under way; a request is, of which a part came; its response is. These packets came wholly, and the client holds so much.
pub data Exchange (most : ℕ) (sums : Sums) (packets : List (List ℕ)) (waits : Bool) (held : List ℕ) : Type 0 where
  Idle : sums.asked ≡ joined packets → sums.got ≡ sums.asked → sums.replied ≡ sums.told → held ≡ [] → Exchange most sums packets waits held
  Requested : (part more : List ℕ) → sums.got ≡ joined packets ++ part → sums.asked ≡ joined packets ++ (part ++ more) → (more ≡ [] → ⊥) → IsRequest most (part ++ more) → sums.replied ≡ sums.told → held ≡ [] → waits ≡ true → Exchange most sums packets waits held
  Responded : sums.asked ≡ joined packets → sums.got ≡ sums.asked → (before part more : List ℕ) → sums.told ≡ before ++ part → sums.replied ≡ before ++ (part ++ more) → (more ≡ [] → ⊥) → IsResponse most (part ++ more) → held ≡ part → waits ≡ true
      → Exchange most sums packets waits held

-- less than a request, or nothing
abbrev pub IsLess : ℕ → List ℕ → Type 0
IsLess most stream = (stream ≡ []) ⊎ ((more : List ℕ) × (more ≡ [] → ⊥) × IsRequest most (stream ++ more))

module _ (most : ℕ) (sums : Sums) (packets : List (List ℕ)) (waits : Bool) (held : List ℕ) where
  -- ---- octets come to the server

  -- a request is not whole with them; or it is, and is answered, or not
  pub data Coming (ys : List ℕ) : Type 0 where
    Less : (left : List ℕ) → sums.got ≡ joined packets ++ left → IsLess most (left ++ ys) → Exchange most (record sums { got = sums.got ++ ys }) packets waits held → Coming ys
    Whole : (left : List ℕ) → sums.got ≡ joined packets ++ left → (ys ≡ [] → ⊥) → IsRequest most (left ++ ys) → sums.replied ≡ sums.told
        → ((answer : List ℕ) → IsAnswer most answer → Exchange most (record sums { got = sums.got ++ ys; replied = sums.replied ++ answer }) (packets ++ (left ++ ys) ∷ []) waits held) → Coming ys

  nothing_came : (ys : List ℕ) → ys ≡ [] → sums.asked ≡ joined packets → sums.got ≡ sums.asked → Exchange most sums packets waits held → Coming ys
  nothing_came ys none asked got x =
      Less [] (got ∙ asked ∙ sym (append-nil (joined packets))) (inl none)
      (subst (λ (xs : List ℕ). Exchange most (record sums { got = xs }) packets waits held) (sym (ap (λ (zs : List ℕ). sums.got ++ zs) none ∙ append-nil sums.got)) x)

  pub comes : (ys : List ℕ) → IsFront (sums.got ++ ys) sums.asked → Exchange most sums packets waits held → Coming ys
  comes ys front (Idle asked got replied none) = nothing_came ys (no_more sums.got sums.asked ys front.0 got front.1) asked got (Idle asked got replied none)
  comes ys front (Responded asked got before part more told replied some is holds waiting) =
      nothing_came ys (no_more sums.got sums.asked ys front.0 got front.1) asked got (Responded asked got before part more told replied some is holds waiting)
  comes ys front (Requested part more got asked some request replied none waiting) =
      by front.0 (next_of (joined packets) part more ys front.0 (sym asked ∙ front.1 ∙ ap (λ (xs : List ℕ). (xs ++ ys) ++ front.0) got))
    where
      came : sums.got ++ ys ≡ joined packets ++ (part ++ ys)
      came = ap (λ (xs : List ℕ). xs ++ ys) got ∙ append_assoc (joined packets) part ys

      by : (rest : List ℕ) → more ≡ ys ++ rest → Coming ys
      by [] is =
          let same : part ++ more ≡ part ++ ys = ap (λ (xs : List ℕ). part ++ xs) (is ∙ append-nil ys) in
          let all : sums.asked ≡ joined (packets ++ (part ++ ys) ∷ []) = asked ∙ ap (λ (xs : List ℕ). joined packets ++ xs) same ∙ sym (joined_more packets (part ++ ys)) in
          let got' : sums.got ++ ys ≡ sums.asked = came ∙ sym (joined_more packets (part ++ ys)) ∙ sym all in
          Whole part got (λ none. some (is ∙ append-nil ys ∙ none)) (subst (IsRequest most) same request) replied
          (λ answer answered. elim answered [
            | inl nothing ↦ Idle all got' (ap (λ (xs : List ℕ). sums.replied ++ xs) nothing ∙ append-nil sums.replied ∙ replied) none
            | inr packet ↦ Responded all got' sums.told [] answer (sym (append-nil sums.told)) (ap (λ (xs : List ℕ). xs ++ answer) replied) (some_octets answer packet.packet) packet none waiting
          ])
      by (x ∷ rest) is =
          let same : part ++ more ≡ (part ++ ys) ++ x ∷ rest = ap (λ (xs : List ℕ). part ++ xs) is ∙ sym (append_assoc part ys (x ∷ rest)) in
          let is_request : IsRequest most ((part ++ ys) ++ x ∷ rest) = subst (IsRequest most) same request in
          let some' : x ∷ rest ≡ [] → ⊥ = λ e. absurd cc in
          Less part got (inr (x ∷ rest, some', is_request)) (Requested (part ++ ys) (x ∷ rest) came (asked ∙ ap (λ (xs : List ℕ). joined packets ++ xs) same) some' is_request replied none waiting)

  -- ---- octets come to the client

  -- there are none; a response is not whole with them; or it is
  pub data Telling (zs : List ℕ) : Type 0 where
    NoneTold : zs ≡ [] → held ≡ [] → Exchange most (record sums { told = sums.told ++ zs }) packets waits held → Telling zs
    PartTold : (more : List ℕ) → (more ≡ [] → ⊥) → IsPacket ((held ++ zs) ++ more) → Exchange most (record sums { told = sums.told ++ zs }) packets waits (held ++ zs) → Telling zs
    AllTold : IsResponse most (held ++ zs) → ((waits' : Bool) → Exchange most (record sums { told = sums.told ++ zs }) packets waits' []) → Telling zs

  nothing_told : (zs : List ℕ) → zs ≡ [] → held ≡ [] → Exchange most sums packets waits held → Telling zs
  nothing_told zs none empty x = NoneTold none empty (subst (λ (xs : List ℕ). Exchange most (record sums { told = xs }) packets waits held) (sym (ap (λ (ys : List ℕ). sums.told ++ ys) none ∙ append-nil sums.told)) x)

  pub tells : (zs : List ℕ) → IsFront (sums.told ++ zs) sums.replied → Exchange most sums packets waits held → Telling zs
  tells zs front (Idle asked got replied none) = nothing_told zs (no_more sums.told sums.replied zs front.0 (sym replied) front.1) none (Idle asked got replied none)
  tells zs front (Requested part more got asked some request replied none waiting) =
      nothing_told zs (no_more sums.told sums.replied zs front.0 (sym replied) front.1) none (Requested part more got asked some request replied none waiting)
  tells zs front (Responded asked got before part more told replied some is holds waiting) =
      by front.0 (next_of before part more zs front.0 (sym replied ∙ front.1 ∙ ap (λ (xs : List ℕ). (xs ++ zs) ++ front.0) told))
    where
      now : sums.told ++ zs ≡ before ++ (part ++ zs)
      now = ap (λ (xs : List ℕ). xs ++ zs) told ∙ append_assoc before part zs

      by : (rest : List ℕ) → more ≡ zs ++ rest → Telling zs
      by [] next =
          let same : part ++ more ≡ part ++ zs = ap (λ (xs : List ℕ). part ++ xs) (next ∙ append-nil zs) in
          AllTold (subst (IsResponse most) (same ∙ ap (λ (xs : List ℕ). xs ++ zs) (sym holds)) is) (λ waits'. Idle asked got (replied ∙ ap (λ (xs : List ℕ). before ++ xs) same ∙ sym now) refl)
      by (x ∷ rest) next =
          let same : part ++ more ≡ (part ++ zs) ++ x ∷ rest = ap (λ (xs : List ℕ). part ++ xs) next ∙ sym (append_assoc part zs (x ∷ rest)) in
          let some' : x ∷ rest ≡ [] → ⊥ = λ e. absurd cc in
          let is' : IsResponse most ((part ++ zs) ++ x ∷ rest) = subst (IsResponse most) same is in
          PartTold (x ∷ rest) some' (subst (λ (xs : List ℕ). IsPacket ((xs ++ zs) ++ x ∷ rest)) (sym holds) is'.packet)
          (Responded asked got before (part ++ zs) (x ∷ rest) now (replied ∙ ap (λ (xs : List ℕ). before ++ xs) same) some' is' (ap (λ (xs : List ℕ). xs ++ zs) holds) waiting)

  -- ---- a request is made

  not_waiting : waits ≡ true → waits ≡ false → ⊥
  not_waiting a b = let f : true ≡ false = sym a ∙ b in cc

  pub requests : (packet : List ℕ) → waits ≡ false → IsRequest most packet → Exchange most sums packets waits held → Exchange most (record sums { asked = sums.asked ++ packet }) packets true held
  requests packet still request (Idle asked got replied none) =
      Requested [] packet (got ∙ asked ∙ sym (append-nil (joined packets))) (ap (λ (xs : List ℕ). xs ++ packet) asked) (some_octets packet (request_packet most packet request)) request replied none refl
  requests packet still request (Requested part more got asked some other replied none waiting) = absurd (not_waiting waiting still)
  requests packet still request (Responded asked got before part more told replied some is holds waiting) = absurd (not_waiting waiting still)
