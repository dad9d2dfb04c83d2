-- Walks over the parts of patterns and lists.
use Rattle.std.proofs.Common.{◌≡◌, ℕ, Bool, true, false, List, [], ◌∷◌, Option, Some, None, refl, sym, ap, ◌∙◌}
use Rattle.std.specs.Prelude.{◌&&◌, ◌||◌, not, is_some, option_map}
use Rattle.std.specs.Option.{option_map_or}
use Rattle.sdp_elements.specs.Answers.{Range}
use Rattle.sdp_elements.specs.Elements.{PlainElement, Value, Sequence, Alternative, Tree, Trees, Finish, Then}
use Rattle.sdp_elements.specs.Optional.{◌>>=◌}
use Rattle.sdp_elements.specs.Sequences.{sequence_at, collected}
use Rattle.sdp_elements.specs.Spelling.{AreSpelledBy, Stands}
use Rattle.sdp_elements.proofs.WalkLaws.{Walked, collected_step}
use Rattle.sdp_server.specs.Requests.{uuid_of, uuid_in, range_of, range_in, ranges_at}

-- a part is what its tree is
pub uuid-of_tree : (element : PlainElement) (tree : Tree) → Stands element tree → uuid_of tree ≡ uuid_in element
uuid-of_tree (Value value) tree s = ap uuid_of s
uuid-of_tree (Sequence content) tree s = ap uuid_of s.1
uuid-of_tree (Alternative content) tree s = ap uuid_of s.1

pub range-of_tree : (element : PlainElement) (tree : Tree) → Stands element tree → range_of tree ≡ range_in element
range-of_tree (Value value) tree s = ap range_of s
range-of_tree (Sequence content) tree s = ap range_of s.1
range-of_tree (Alternative content) tree s = ap range_of s.1

-- ---- judging a list

-- the parts that are left decide of all parts
pub record Judges {A : Type 0} (what : Tree → Option A) (trees : Trees) (left : List ℕ) : Type 0 where
  pub rest : Trees
  pub spelled : AreSpelledBy rest left
  pub same : is_some (collected what trees) ≡ is_some (collected what rest)

pub judges_all : {A : Type 0} (what : Tree → Option A) (trees : Trees) (left : List ℕ) → AreSpelledBy trees left → Judges what trees left
judges_all what trees left s = record { rest = trees; spelled = s; same = refl }

rest_some : {A : Type 0} (x : A) (rest : Option (List A)) → is_some (rest >>= λ more. Some (x ∷ more)) ≡ is_some rest
rest_some x (Some more) = refl
rest_some x None = refl

-- the first part is something, so the others decide
judged_first : {A : Type 0} (what : Tree → Option A) (first : Tree) (others : Trees) (o : Option A) → what first ≡ o → is_some o ≡ true → is_some (collected what (Then first others)) ≡ is_some (collected what others)
judged_first {A} what first others (Some x) e h = ap (λ (p : Option A). is_some (p >>= λ found. collected what others >>= λ more. Some (found ∷ more))) e ∙ rest_some x (collected what others)
judged_first what first others None e h = absurd cc

judged_none : {A : Type 0} (what : Tree → Option A) (first : Tree) (others : Trees) (o : Option A) → what first ≡ o → is_some o ≡ false → is_some (collected what (Then first others)) ≡ false
judged_none what first others (Some x) e h = absurd cc
judged_none {A} what first others None e h = ap (λ (p : Option A). is_some (p >>= λ found. collected what others >>= λ more. Some (found ∷ more))) e

along : {A : Type 0} (what : Tree → Option A) (trees rest : Trees) (first : Tree) (others : Trees) → is_some (collected what trees) ≡ is_some (collected what rest) → rest ≡ Then first others
    → is_some (collected what trees) ≡ is_some (collected what (Then first others))
along what trees rest first others same is = same ∙ ap (λ (t : Trees). is_some (collected what t)) is

pub judges_on : {A : Type 0} (what : Tree → Option A) (trees : Trees) (old new : List ℕ) (element : PlainElement) (j : Judges what trees old) (w : Walked j.rest element new) → is_some (what w.first) ≡ true → Judges what trees new
judges_on what trees old new element j w h = record {
  rest = w.others;
  spelled = w.spelled;
  same = along what trees j.rest w.first w.others j.same w.rest_is ∙ judged_first what w.first w.others (what w.first) refl h;
}

pub judges_no : {A : Type 0} (what : Tree → Option A) (trees : Trees) (old new : List ℕ) (element : PlainElement) (j : Judges what trees old) (w : Walked j.rest element new) → is_some (what w.first) ≡ false
    → is_some (collected what trees) ≡ false
judges_no what trees old new element j w h = along what trees j.rest w.first w.others j.same w.rest_is ∙ judged_none what w.first w.others (what w.first) refl h

pub judges_yes : {A : Type 0} (what : Tree → Option A) (trees : Trees) (left : List ℕ) (j : Judges what trees left) → j.rest ≡ Finish → is_some (collected what trees) ≡ true
judges_yes what trees left j over = j.same ∙ ap (λ (t : Trees). is_some (collected what t)) over

-- ---- asking a list

-- what is asked of all is asked of those that are left
pub record Asks {A : Type 0} (what : Tree → Option A) (asked : List A → Bool) (all : List A) (left : List ℕ) : Type 0 where
  pub rest : Trees
  pub more : List A
  pub spelled : AreSpelledBy rest left
  pub read : collected what rest ≡ Some more
  pub same : asked all ≡ asked more

pub asks_all : {A : Type 0} (what : Tree → Option A) (asked : List A → Bool) (all : List A) (left : List ℕ) → ((parts : Trees) × AreSpelledBy parts left × (collected what parts ≡ Some all)) → Asks what asked all left
asks_all what asked all left h = record { rest = h.0; more = all; spelled = h.1; read = h.2; same = refl }

-- the next one, and those behind it
pub record Next {A : Type 0} (what : Tree → Option A) (asked : List A → Bool) (all : List A) (first : Tree) (left : List ℕ) : Type 0 where
  pub found : A
  pub more : List A
  pub others : Trees
  pub spelled : AreSpelledBy others left
  pub first_is : what first ≡ Some found
  pub others_are : collected what others ≡ Some more
  pub same : asked all ≡ asked (found ∷ more)

pub asks_next : {A : Type 0} (what : Tree → Option A) (asked : List A → Bool) (all : List A) (old new : List ℕ) (element : PlainElement) (a : Asks what asked all old) (w : Walked a.rest element new) → Next what asked all w.first new
asks_next {A} what asked all old new element a w =
    let c = collected_step what w.first w.others a.more (ap (collected what) (sym w.rest_is) ∙ a.read) in
    record {
      found = c.found;
      more = c.more;
      others = w.others;
      spelled = w.spelled;
      first_is = c.first_is;
      others_are = c.others_are;
      same = a.same ∙ ap asked c.all_is;
    }

pub asks_on : {A : Type 0} (what : Tree → Option A) (asked : List A → Bool) (all : List A) (first : Tree) (left : List ℕ) (n : Next what asked all first left) → asked (n.found ∷ n.more) ≡ asked n.more → Asks what asked all left
asks_on what asked all first left n h = record { rest = n.others; more = n.more; spelled = n.spelled; read = n.others_are; same = n.same ∙ h }

some_list : {A : Type 0} (x y : List A) → Some x ≡ Some y → x ≡ y
some_list x y e = cc

pub asks_over : {A : Type 0} (what : Tree → Option A) (asked : List A → Bool) (all : List A) (left : List ℕ) (a : Asks what asked all left) → a.rest ≡ Finish → asked all ≡ asked []
asks_over {A} what asked all left a over =
    let none : List A = [] in
    a.same ∙ ap asked (some_list a.more none (sym a.read ∙ ap (collected what) over))

-- ---- what the code finds of a part

pub none_there : {A X : Type 0} (view : X → A) (o : Option X) (what found : Option A) (test : Bool) → is_some o ≡ not test → test ≡ true → option_map view o ≡ found → what ≡ found → is_some what ≡ false
none_there view (Some x) what found test e h r s = absurd (let n = ap not h in cc)
none_there view None what found test e h r s = ap is_some (s ∙ sym r)

pub some_there : {A X : Type 0} (view : X → A) (o : Option X) (what found : Option A) (test : Bool) → is_some o ≡ not test → test ≡ false → option_map view o ≡ found → what ≡ found → is_some what ≡ true
some_there view (Some x) what found test e h r s = ap is_some (s ∙ sym r)
some_there view None what found test e h r s = absurd (let n = ap not h in cc)

pub mapped : {A : Type 0} (o found : Option A) → o ≡ found → option_map (λ x. x) o ≡ found
mapped (Some x) found e = e
mapped None found e = e

-- the test of a part is that of what it is
pub tested : {A : Type 0} (p : A → Bool) (what found : Option A) (x : A) (test : Bool) → test ≡ option_map_or p found false → what ≡ found → what ≡ Some x → test ≡ p x
tested {A} p what found x test e s h = e ∙ ap (λ (o : Option A). option_map_or p o false) (sym s ∙ h)

pub any_here : (p q : Bool) → p ≡ true → (p || q) ≡ true
any_here p q h = ap (λ (b : Bool). b || q) h

pub any_later : (p q : Bool) → p ≡ false → (p || q) ≡ q
any_later p q h = ap (λ (b : Bool). b || q) h

pub all_not_here : (p q : Bool) → p ≡ false → (p && q) ≡ false
all_not_here p q h = ap (λ (b : Bool). b && q) h

pub all_later : (p q : Bool) → p ≡ true → (p && q) ≡ q
all_later p q h = ap (λ (b : Bool). b && q) h

-- ---- a list at the front

pub list_found : (octets rest : List ℕ) (parts : Trees) → sequence_at octets ≡ Some (parts, rest) → (read : Option (List Range)) → collected range_of parts ≡ read → is_some read ≡ true
    → (ranges : List Range) × (ranges_at octets ≡ Some (ranges, rest)) × (collected range_of parts ≡ Some ranges)
list_found octets rest parts e (Some ranges) c h = (
  ranges,
  ap (λ (o : Option (Trees × List ℕ)). o >>= λ found. collected range_of found.0 >>= λ ranges. Some (ranges, found.1)) e ∙ ap (λ (o : Option (List Range)). o >>= λ ranges. Some (ranges, rest)) c,
  c,
)
list_found octets rest parts e None c h = absurd cc
