-- Nothing comes on the channel of the object once it was closed, as long as the link is up.
use Rattle.std.proofs.Common.{◌≡◌, ℕ, Bool, true, false, ◌||◌, List, [], ◌∷◌, ◌++◌, refl, sym, ap, subst, ◌∙◌, true≢false}
use Rattle.std.specs.List.{AllByRecursion, flat_map}
use Rattle.request_laws.specs.push_model.specs.Server.{object_psm}
use Rattle.request_laws.specs.push_laws.specs.Occurrences.{Occurrence, Came, Went, Closed, LinkDown, Asked, Answering}
use Rattle.request_laws.specs.push_laws.specs.Readings.{closes}
use Rattle.request_laws.specs.BothFed.{ComesNone}
use Rattle.request_laws.specs.Carried.{NoneComesBehind}
use Rattle.request_laws.specs.Streams.{come_on}
use Rattle.request_laws.proofs.Silent.{IsStill}
use Rattle.orderly_laws.proofs.Counting.{more_closed, NoneFollows}

or_off : (b : Bool) → b ≡ (b || false)
or_off true = refl
or_off false = refl

parts : (xs ys : List (List ℕ)) → xs ++ ys ≡ [] → (xs ≡ []) × (ys ≡ [])
parts [] ys none = (refl, none)
parts (x ∷ xs) ys none = let never : x ∷ (xs ++ ys) ≡ [] = none in absurd cc

-- nothing comes, goes or is closed
pub still-follow : (closed : Bool) (still rest : List Occurrence) → AllByRecursion IsStill still → NoneFollows closed rest → NoneFollows closed (still ++ rest)
still-follow closed [] rest all later = later
still-follow closed (Came psm sdu ∷ still) rest all later = ((λ is. all.0.come object_psm), still-follow closed still rest all.1 later)
still-follow closed (Went psm sdu ∷ still) rest all later = ((λ is. refl), still-follow closed still rest all.1 later)
still-follow closed (Closed psm ∷ still) rest all later =
    ((λ is. refl), subst (λ (b : Bool). NoneFollows b (still ++ rest)) (or_off closed ∙ ap (λ (b : Bool). closed || b) (sym (all.0.open_yet object_psm))) (still-follow closed still rest all.1 later))
still-follow closed (LinkDown ∷ still) rest all later = let never : true ≡ false = all.0.open_yet object_psm in absurd cc
still-follow closed (Asked ∷ still) rest all later = ((λ is. refl), still-follow closed still rest all.1 later)
still-follow closed (Answering answers ∷ still) rest all later = ((λ is. refl), still-follow closed still rest all.1 later)

-- the link goes down
pub down-follow : (closed : Bool) (ahead rest : List Occurrence) → AllByRecursion ComesNone ahead → NoneFollows false rest → NoneFollows closed (ahead ++ LinkDown ∷ rest)
down-follow closed [] rest none later = ((λ is. refl), later)
down-follow closed (one ∷ ahead) rest none later = ((λ is. none.0 object_psm), down-follow (more_closed closed one) ahead rest none.1 later)

-- on a link
quiet_more : (closed : Bool) (one : Occurrence) (here : List Occurrence) → (closes object_psm one ≡ true → flat_map (come_on object_psm) here ≡ []) → (closed ≡ true → flat_map (come_on object_psm) here ≡ [])
    → more_closed closed one ≡ true → flat_map (come_on object_psm) here ≡ []
quiet_more closed (Came psm sdu) here ends quiet is = quiet is
quiet_more closed (Went psm sdu) here ends quiet is = quiet is
quiet_more true (Closed psm) here ends quiet is = quiet refl
quiet_more false (Closed psm) here ends quiet is = ends is
quiet_more closed LinkDown here ends quiet is = absurd (true≢false (sym is))
quiet_more closed Asked here ends quiet is = quiet is
quiet_more closed (Answering answers) here ends quiet is = quiet is

pub link-follow : (closed : Bool) (here rest : List Occurrence) → NoneComesBehind object_psm here → (closed ≡ true → flat_map (come_on object_psm) here ≡ []) → ((k : Bool) → NoneFollows k rest) → NoneFollows closed (here ++ rest)
link-follow closed [] rest behind quiet later = later closed
link-follow closed (one ∷ here) rest behind quiet later =
    let first = come_on object_psm one in
    let more = flat_map (come_on object_psm) here in
    ((λ is. (parts first more (quiet is)).0), link-follow (more_closed closed one) here rest behind.1 (quiet_more closed one here behind.0 (λ is. (parts first more (quiet is)).1)) later)
