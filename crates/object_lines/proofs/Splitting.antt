-- How far a stream is split in packets.
use Rattle.std.proofs.Common.{◌≡◌, ℕ, List, [], ◌∷◌, ◌++◌, take, drop, sym, ap, subst, ◌∙◌, append_assoc, append-nil}
use Rattle.std.proofs.lemmas.List.{take-append-drop}
use Rattle.std.specs.List.{flat_map, AllByRecursion}
use Rattle.rfcomm_frames.specs.ObexPackets.{IsPacket, HasNoPacket, obex_packets}
use Rattle.rfcomm_frames.proofs.ObexSplits.{obex_packets-one}

-- how far a stream is split
pub record IsSplit (stream : List ℕ) (found : List (List ℕ)) (rest : List ℕ) : Type 0 where
  pub whole : stream ≡ flat_map (λ packet. packet) found ++ rest
  pub each : AllByRecursion IsPacket found

pub split_whole : (stream : List ℕ) (found : List (List ℕ)) (rest : List ℕ) → IsSplit stream found rest → HasNoPacket rest → found ≡ obex_packets stream
split_whole stream found rest split none = obex_packets-one stream found (record { rest = rest; whole = split.whole; each = split.each; no_more = none })

all_both : {X : Type 0} (P : X → Type 0) (xs ys : List X) → AllByRecursion P xs → AllByRecursion P ys → AllByRecursion P (xs ++ ys)
all_both P [] ys first second = second
all_both P (x ∷ xs) ys (now, first) second = (now, all_both P xs ys first second)

flat_more : (xs : List (List ℕ)) (x rest : List ℕ) → flat_map (λ (packet : List ℕ). packet) (xs ++ x ∷ []) ++ rest ≡ flat_map (λ (packet : List ℕ). packet) xs ++ (x ++ rest)
flat_more [] x rest = ap (λ ys. ys ++ rest) (append-nil x)
flat_more (y ∷ xs) x rest =
    append_assoc y (flat_map (λ (packet : List ℕ). packet) (xs ++ x ∷ [])) rest
    ∙ (ap (λ ys. y ++ ys) (flat_more xs x rest) ∙ sym (append_assoc y (flat_map (λ (packet : List ℕ). packet) xs) (x ++ rest)))

pub split_more : (stream : List ℕ) (found after : List (List ℕ)) (rest : List ℕ) (size : ℕ) → IsPacket (take size rest) → after ≡ found ++ take size rest ∷ [] → IsSplit stream found rest
    → IsSplit stream after (drop size rest)
split_more stream found after rest size packet grown split = record {
  whole =
      split.whole ∙ (ap (λ xs. flat_map (λ (p : List ℕ). p) found ++ xs) (sym (take-append-drop size rest))
      ∙ (sym (flat_more found (take size rest) (drop size rest)) ∙ ap (λ xs. flat_map (λ (p : List ℕ). p) xs ++ drop size rest) (sym grown)));
  each = subst (AllByRecursion IsPacket) (sym grown) (all_both IsPacket found (take size rest ∷ []) split.each (packet, tt));
}
