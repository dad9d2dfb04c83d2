-- The places of channels, in the order in which they were made.
use Rattle.std.proofs.Common.{◌≡◌, ℕ, suc, zero, ◌<◌, List, [], ◌∷◌, ◌++◌, length, set, Bool, true, false, cond, eqb, Option, Some, None, refl, sym, ap, ◌∙◌, arith, length-append}
use Rattle.std.specs.Prelude.{slice_get}
use Rattle.std.proofs.lemmas.List.{set-append_left}
use Rattle.std.proofs.Math.Seq.{set-append_seam}
use Rattle.seen_channels.specs.declared.direction.Direction.{Direction}
use Rattle.seen_channels.specs.declared.direction.Direction.TheVariants.{Out, In}
use Rattle.seen_channels.specs.declared.channel.Channel.{Channel}
use Rattle.seen_channels.specs.Tellings.{number, find, in_mode, with_mode}
use Rattle.seen_channels.specs.Tables.{oldest_first, place_of}

pub length-oldest_first : (cs : List Channel) → length (oldest_first cs) ≡ length cs
length-oldest_first [] = refl
length-oldest_first (c ∷ cs) = omega (arith, length-append (oldest_first cs) (c ∷ []), length-oldest_first cs)

last_got : (xs : List Channel) (c : Channel) → slice_get (xs ++ c ∷ []) (length xs) ≡ Some c
last_got [] c = refl
last_got (x ∷ xs) c = last_got xs c

left_got : (xs ys : List Channel) (k : ℕ) → k < length xs → slice_get (xs ++ ys) k ≡ slice_get xs k
left_got [] ys k lt = absurd (omega arith)
left_got (x ∷ xs) ys zero lt = refl
left_got (x ∷ xs) ys (suc k) lt = left_got xs ys k (omega arith)

bound_by : (b : Bool) (n k : ℕ) (rest : Option ℕ) → (rest ≡ Some k → k < n) → cond b (Some n) rest ≡ Some k → k < suc n
bound_by true n k rest ih e = let same : n ≡ k = cc in omega arith
bound_by false n k rest ih e = let lt = ih e in omega arith

-- a place is one of the list
pub place_within : (d : Direction) (cid : ℕ) (cs : List Channel) (k : ℕ) → place_of d cid cs ≡ Some k → k < length cs
place_within d cid [] k e = absurd cc
place_within d cid (c ∷ cs) k e = bound_by (eqb (number d c) cid) (length cs) k (place_of d cid cs) (place_within d cid cs k) e

-- the channel at a place of the list, where there is one
abbrev pub at_place : List Channel → Option ℕ → Option Channel
at_place list None = None
at_place list (Some place) = slice_get list place

found_before : (c : Channel) (cs : List Channel) (place : Option ℕ) → ((k : ℕ) → place ≡ Some k → k < length cs) → at_place (oldest_first cs ++ c ∷ []) place ≡ at_place (oldest_first cs) place
found_before c cs None within = refl
found_before c cs (Some k) within = left_got (oldest_first cs) (c ∷ []) k (omega (arith, length-oldest_first cs, within k refl))

found_by : (b : Bool) (c : Channel) (cs : List Channel) (place : Option ℕ) (found : Option Channel) → found ≡ at_place (oldest_first cs) place → ((k : ℕ) → place ≡ Some k → k < length cs)
    → cond b (Some c) found ≡ at_place (oldest_first cs ++ c ∷ []) (cond b (Some (length cs)) place)
found_by true c cs place found is within = sym (ap (λ (k : ℕ). slice_get (oldest_first cs ++ c ∷ []) k) (sym (length-oldest_first cs)) ∙ last_got (oldest_first cs) c)
found_by false c cs place found is within = is ∙ sym (found_before c cs place within)

-- the latest channel of a number stands at its place
pub found_at : (d : Direction) (cid : ℕ) (cs : List Channel) → find d cid cs ≡ at_place (oldest_first cs) (place_of d cid cs)
found_at d cid [] = refl
found_at d cid (c ∷ cs) = found_by (eqb (number d c) cid) c cs (place_of d cid cs) (find d cid cs) (found_at d cid cs) (place_within d cid cs)

-- the same by what the tables hold
pub found_in : (d : Direction) (cid : ℕ) (cs list : List Channel) (place : Option ℕ) → list ≡ oldest_first cs → place ≡ place_of d cid cs → at_place list place ≡ find d cid cs
found_in d cid cs list place is at = sym (found_at d cid cs ∙ ap (λ (l : List Channel). at_place l (place_of d cid cs)) (sym is) ∙ ap (at_place list) (sym at))

number_kept : (d : Direction) (c : Channel) (mode : Bool) → number d (in_mode c mode) ≡ number d c
number_kept Out c mode = refl
number_kept In c mode = refl

length_by : (b : Bool) (d : Direction) (cid : ℕ) (mode : Bool) (c : Channel) (cs cs' : List Channel) → length cs' ≡ length cs → length (cond b (in_mode c mode ∷ cs) (c ∷ cs')) ≡ suc (length cs)
length_by true d cid mode c cs cs' ih = refl
length_by false d cid mode c cs cs' ih = ap suc ih

-- another mode leaves the numbers and their places
pub length-with_mode : (d : Direction) (cid : ℕ) (mode : Bool) (cs : List Channel) → length (with_mode d cid mode cs) ≡ length cs
length-with_mode d cid mode [] = refl
length-with_mode d cid mode (c ∷ cs) = length_by (eqb (number d c) cid) d cid mode c cs (with_mode d cid mode cs) (length-with_mode d cid mode cs)

place_by : (b : Bool) (e : Direction) (other : ℕ) (mode : Bool) (c : Channel) (cs cs' : List Channel) → length cs' ≡ length cs → place_of e other cs' ≡ place_of e other cs
    → place_of e other (cond b (in_mode c mode ∷ cs) (c ∷ cs')) ≡ place_of e other (c ∷ cs)
place_by true e other mode c cs cs' size ih = ap (λ (n : ℕ). cond (eqb n other) (Some (length cs)) (place_of e other cs)) (number_kept e c mode)
place_by false e other mode c cs cs' size ih =
    ap (λ (n : ℕ). cond (eqb (number e c) other) (Some n) (place_of e other cs')) size ∙ ap (λ (p : Option ℕ). cond (eqb (number e c) other) (Some (length cs)) p) ih

pub place-with_mode : (d : Direction) (cid : ℕ) (mode : Bool) (e : Direction) (other : ℕ) (cs : List Channel) → place_of e other (with_mode d cid mode cs) ≡ place_of e other cs
place-with_mode d cid mode e other [] = refl
place-with_mode d cid mode e other (c ∷ cs) = place_by (eqb (number d c) cid) e other mode c cs (with_mode d cid mode cs) (length-with_mode d cid mode cs) (place-with_mode d cid mode e other cs)

-- the list with the channel at a place in that mode
abbrev pub mode_at : List Channel → Bool → Option ℕ → Option Channel → List Channel
mode_at list mode None found = list
mode_at list mode (Some place) None = list
mode_at list mode (Some place) (Some channel) = set list place (in_mode channel mode)

mode_before : (c : Channel) (cs : List Channel) (mode : Bool) (place : Option ℕ) (found : Option Channel) → ((k : ℕ) → place ≡ Some k → k < length cs)
    → mode_at (oldest_first cs) mode place found ++ c ∷ [] ≡ mode_at (oldest_first cs ++ c ∷ []) mode place found
mode_before c cs mode None found within = refl
mode_before c cs mode (Some k) None within = refl
mode_before c cs mode (Some k) (Some channel) within = sym (set-append_left (oldest_first cs) (c ∷ []) k (in_mode channel mode) (omega (arith, length-oldest_first cs, within k refl)))

oldest_by : (b : Bool) (mode : Bool) (c : Channel) (cs cs' : List Channel) (place : Option ℕ) (found : Option Channel) → oldest_first cs' ≡ mode_at (oldest_first cs) mode place found → ((k : ℕ) → place ≡ Some k → k < length cs)
    → oldest_first (cond b (in_mode c mode ∷ cs) (c ∷ cs')) ≡ mode_at (oldest_first cs ++ c ∷ []) mode (cond b (Some (length cs)) place) (cond b (Some c) found)
oldest_by true mode c cs cs' place found ih within = sym (ap (λ (k : ℕ). set (oldest_first cs ++ c ∷ []) k (in_mode c mode)) (sym (length-oldest_first cs)) ∙ set-append_seam (oldest_first cs) c [] (in_mode c mode))
oldest_by false mode c cs cs' place found ih within = ap (λ (l : List Channel). l ++ c ∷ []) ih ∙ mode_before c cs mode place found within

-- a mode is written at the place of the channel
pub oldest-with_mode : (d : Direction) (cid : ℕ) (mode : Bool) (cs : List Channel) → oldest_first (with_mode d cid mode cs) ≡ mode_at (oldest_first cs) mode (place_of d cid cs) (find d cid cs)
oldest-with_mode d cid mode [] = refl
oldest-with_mode d cid mode (c ∷ cs) = oldest_by (eqb (number d c) cid) mode c cs (with_mode d cid mode cs) (place_of d cid cs) (find d cid cs) (oldest-with_mode d cid mode cs) (place_within d cid cs)
