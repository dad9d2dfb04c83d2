-- An octet more ends one packet at most, and no octet stands behind it.
use Rattle.std.proofs.Common.{◌≡◌, ◌≢◌, ◌∙◌, ◌⊎◌, inl, inr, ℕ, List, [], ◌∷◌, ◌++◌, refl, sym, ap, append_assoc}
use Rattle.std.specs.List.{AllByRecursion}
use Rattle.std.proofs.lemmas.List.{append-nil}
use Rattle.h4_framing.specs.Packets.{Packet, Command, Acl, Sync, Event, spelling, spellings, IsPacket}
use Rattle.h4_framing.specs.Stream.{IsUnfinished}
use Rattle.h4_framing.proofs.SpellingLemmas.{one_spelling}

tail_of : List ℕ → List ℕ
tail_of [] = []
tail_of (x ∷ xs) = xs

head_or : ℕ → List ℕ → ℕ
head_or other [] = other
head_or other (x ∷ xs) = x

tail_is : (x : ℕ) (xs : List ℕ) → tail_of (x ∷ xs) ≡ xs
unfolding tail_of
tail_is x xs = refl

pub empty_parts : (xs ys : List ℕ) → xs ++ ys ≡ [] → (xs ≡ []) × (ys ≡ [])
empty_parts [] ys is = (refl, is)
empty_parts (x ∷ xs) ys is = absurd cc

pub some_spelled : (p : Packet) (xs : List ℕ) → spelling p ++ xs ≢ []
some_spelled (Command opcode params) xs is = absurd cc
some_spelled (Acl word octets) xs is = absurd cc
some_spelled (Sync word octets) xs is = absurd cc
some_spelled (Event code params) xs is = absurd cc

none_cons : (a : List ℕ) (y : ℕ) (ys : List ℕ) → [] ≡ a ++ y ∷ ys → ⊥
none_cons [] y ys is = absurd cc
none_cons (x ∷ a) y ys is = absurd cc

-- one octet is no packet
pub none_alone : (o : ℕ) (p : Packet) (rest : List ℕ) → o ∷ [] ≡ spelling p ++ rest → ⊥
unfolding tail_of
none_alone o (Command opcode params) rest is = let more = ap tail_of is in absurd cc
none_alone o (Acl word octets) rest is = let more = ap tail_of is in absurd cc
none_alone o (Sync word octets) rest is = let more = ap tail_of is in absurd cc
none_alone o (Event code params) rest is = let more = ap tail_of is in absurd cc

-- what ends before the last octet ends within those before it
behind : (a held : List ℕ) (o y : ℕ) (ys : List ℕ) → held ++ o ∷ [] ≡ a ++ y ∷ ys → (front : List ℕ) × (held ≡ a ++ front)
unfolding tail_of head_or
behind [] held o y ys is = (held, refl)
behind (x ∷ a) [] o y ys is = absurd (none_cons a y ys (ap tail_of is))
behind (x ∷ a) (h ∷ held) o y ys is =
    let more = behind a held o y ys (ap tail_of is) in
    let same : h ≡ x = ap (head_or 0) is in
    (more.0, ap (λ (k : ℕ). k ∷ held) same ∙ ap (λ (t : List ℕ). x ∷ t) more.1)

not_within : (limit : ℕ) (held : List ℕ) (o : ℕ) (p : Packet) (rest : List ℕ) → IsUnfinished limit held → IsPacket limit p → held ++ o ∷ [] ≡ spelling p ++ rest → rest ≢ [] → ⊥
not_within limit held o p [] unfinished is split some = some refl
not_within limit held o p (y ∷ ys) (packet, (more, whole, some_more, begins)) is split some =
    let front = behind (spelling p) held o y ys split in
    let same = one_spelling limit packet p [] (front.0 ++ more) whole is (append-nil (spelling packet) ∙ sym begins ∙ ap (λ (h : List ℕ). h ++ more) front.1 ∙ append_assoc (spelling p) front.0 more) in
    some_more (empty_parts front.0 more (sym same.1)).1

-- where something stands behind the packets there are none
pub none_before : (limit : ℕ) (held : List ℕ) (o : ℕ) (packets : List Packet) (rest : List ℕ) → IsUnfinished limit held → AllByRecursion (IsPacket limit) packets → held ++ o ∷ [] ≡ spellings packets ++ rest → rest ≢ [] → packets ≡ []
none_before limit held o [] rest unfinished each split some = refl
none_before limit held o (p ∷ packets) rest unfinished each split some =
    absurd (not_within limit held o p (spellings packets ++ rest) unfinished each.0 (split ∙ append_assoc (spelling p) (spellings packets) rest) (λ none. some (empty_parts (spellings packets) rest none).1))

pub one_at_most : (limit : ℕ) (held : List ℕ) (o : ℕ) (packets : List Packet) (rest : List ℕ) → IsUnfinished limit held → AllByRecursion (IsPacket limit) packets → held ++ o ∷ [] ≡ spellings packets ++ rest
    → (packets ≡ []) ⊎ ((p : Packet) × (packets ≡ p ∷ []) × (rest ≡ []))
one_at_most limit held o [] rest unfinished each split = inl refl
one_at_most limit held o (p ∷ []) [] unfinished each split = inr (p, refl, refl)
one_at_most limit held o (p ∷ []) (y ∷ ys) unfinished each split =
    absurd (not_within limit held o p (y ∷ ys) unfinished each.0 (split ∙ append_assoc (spelling p) [] (y ∷ ys)) (λ none. absurd cc))
one_at_most limit held o (p ∷ q ∷ packets) rest unfinished each split =
    absurd (not_within limit held o p (spellings (q ∷ packets) ++ rest) unfinished each.0 (split ∙ append_assoc (spelling p) (spellings (q ∷ packets)) rest)
    (λ none. some_spelled q (spellings packets ++ rest) (sym (append_assoc (spelling q) (spellings packets) rest) ∙ none)))
