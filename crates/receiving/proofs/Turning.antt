-- One turn more, and one octet more.
use Rattle.std.proofs.Common.{◌≡◌, ◌∙◌, ℕ, ◌+◌, ◌<◌, ◌≤◌, List, [], ◌∷◌, ◌++◌, length, sym, ap, subst, append_assoc, length-append, arith}
use Rattle.std.specs.Prelude.{None, fold, option_to_list}
use Rattle.std.specs.List.{AllByRecursion}
use Rattle.std.proofs.lemmas.List.{append-nil}
use Rattle.std.proofs.lemmas.List.Concat.{flat_map-append}
use Rattle.h4_framing.specs.Packets.{Packet, spelling, spellings, IsPacket}
use Rattle.h4_framing.specs.Stream.{IsUnfinished}
use Rattle.h4_framing.specs.Framing.{Framing, counted}
use Rattle.btpush_forms.specs.h4_view.proofs.Showing.{spellings-append}
use Rattle.bt_host.specs.Refusals.{acl_limit}
use Rattle.bt_host.specs.Pieces.{IsTaken}
use Rattle.receiving.specs.Turns.{Turn, packets_in, said_in}
use Rattle.receiving.specs.Coming.{input_limit}

-- ---- lists

pub all_append : {A : Type 0} (P : A → Type 0) (xs ys : List A) → AllByRecursion P xs → AllByRecursion P ys → AllByRecursion P (xs ++ ys)
all_append P [] ys first second = second
all_append P (x ∷ xs) ys first second = (first.0, all_append P xs ys first.1 second)

pub packets_snoc : (turns : List Turn) (turn : Turn) → packets_in (turns ++ turn ∷ []) ≡ packets_in turns ++ option_to_list turn.packet
packets_snoc turns turn = flat_map-append (λ (t : Turn). option_to_list t.packet) turns (turn ∷ []) ∙ ap (λ (ps : List Packet). packets_in turns ++ ps) (append-nil (option_to_list turn.packet))

pub said_snoc : (turns : List Turn) (turn : Turn) → said_in (turns ++ turn ∷ []) ≡ said_in turns ++ turn.said
said_snoc turns turn = flat_map-append (λ (t : Turn). t.said) turns (turn ∷ []) ∙ ap (λ (xs : List ℕ). said_in turns ++ xs) (append-nil turn.said)

-- ---- places

counted_small : (m n : ℕ) → m + n ≤ input_limit → counted m n ≡ m + n
counted_small m n small = omega arith

pub place_sum : (packets : List Packet) (from : ℕ) → from + length (spellings packets) ≤ input_limit → fold (λ place packet. counted place (length (spelling packet))) from packets ≡ from + length (spellings packets)
place_sum [] from small = omega arith
place_sum (p ∷ packets) from small =
    let long = length-append (spelling p) (spellings packets) in
    let one = counted_small from (length (spelling p)) (omega (arith, small, long)) in
    ap (λ (n : ℕ). fold (λ place packet. counted place (length (spelling packet))) n packets) one
    ∙ place_sum packets (from + length (spelling p)) (omega (arith, small, long)) ∙ omega (arith, long)

-- ---- what was fed and what is held

pub record Framed (octets : List ℕ) (packets : List Packet) (framing : Framing) : Type 0 where
  pub each : AllByRecursion (IsPacket acl_limit) packets
  pub whole : octets ≡ spellings packets ++ framing.held
  pub place : framing.before ≡ length (spellings packets)
  pub limit : framing.limit ≡ acl_limit
  pub sound : framing.fault ≡ None
  pub unfinished : IsUnfinished acl_limit framing.held

pub whole_more : (octets : List ℕ) (o : ℕ) (packets more : List Packet) (held rest : List ℕ) → octets ≡ spellings packets ++ held → held ++ o ∷ [] ≡ spellings more ++ rest → octets ++ o ∷ [] ≡ spellings (packets ++ more) ++ rest
whole_more octets o packets more held rest whole split =
    ap (λ (t : List ℕ). t ++ o ∷ []) whole ∙ append_assoc (spellings packets) held (o ∷ []) ∙ ap (λ (t : List ℕ). spellings packets ++ t) split
    ∙ sym (append_assoc (spellings packets) (spellings more) rest) ∙ ap (λ (t : List ℕ). t ++ rest) (sym (spellings-append packets more))

pub framed_more : (octets : List ℕ) (o : ℕ) (packets more : List Packet) (framing framing' : Framing) → Framed octets packets framing → IsTaken framing framing' (o ∷ []) more → length octets < input_limit → Framed (octets ++ o ∷ []) (packets ++ more) framing'
framed_more octets o packets more framing framing' framed taken small =
    let whole = whole_more octets o packets more framing.held taken.rest framed.whole taken.read.octets in
    let both = ap (λ (t : List ℕ). length t) whole in
    let one = length-append octets (o ∷ []) in
    let two = length-append (spellings (packets ++ more)) taken.rest in
    let three = ap (λ (t : List ℕ). length t) (spellings-append packets more) ∙ length-append (spellings packets) (spellings more) in
    let held : framing'.held ≡ taken.rest = ap (λ (f : Framing). f.held) taken.framing_is in
    record {
      each = all_append (IsPacket acl_limit) packets more framed.each taken.read.each;
      whole = whole ∙ ap (λ (t : List ℕ). spellings (packets ++ more) ++ t) (sym held);
      place =
          ap (λ (f : Framing). f.before) taken.framing_is ∙ ap (λ (n : ℕ). fold (λ place packet. counted place (length (spelling packet))) n more) framed.place
          ∙ place_sum more (length (spellings packets)) (omega (arith, both, one, two, three, small)) ∙ sym three;
      limit = ap (λ (f : Framing). f.limit) taken.framing_is ∙ framed.limit;
      sound = ap (λ (f : Framing). f.fault) taken.framing_is ∙ framed.sound;
      unfinished = subst (λ (t : List ℕ). IsUnfinished acl_limit t) (sym held) taken.unfinished;
    }
