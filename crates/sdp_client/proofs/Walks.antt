-- The target read part by part.
use Rattle.std.proofs.Common.{◌≡◌, ℕ, Bool, true, false, List, [], ◌∷◌, ◌++◌, Option, Some, None, refl, sym, ap, ◌∙◌}
use Rattle.std.specs.Prelude.{is_some, cond}
use Rattle.std.specs.List.{flat_map}
use Rattle.std.specs.Option.{option_or}
use Rattle.sdp_elements.specs.declared.target.Target.{Target}
use Rattle.sdp_elements.specs.Elements.{PlainElement, Value, Sequence, Alternative, Tree, Trees, Finish, Then}
use Rattle.sdp_elements.specs.Optional.{◌>>=◌}
use Rattle.sdp_elements.specs.Records.{Attribute, attribute}
use Rattle.sdp_elements.specs.Sequences.{collected, sequence_parts}
use Rattle.sdp_elements.specs.Spelling.{AreSpelledBy, Stands}
use Rattle.sdp_elements.specs.Targets.{number_of, number_in, is_rfcomm, is_server_channel, kept, channel_among, channel_of, channels_among, attributes_in, attributes_of, psm_in, channel_in, first_found, target_of}
use Rattle.sdp_elements.proofs.WalkLaws.{Walked}
use Rattle.sdp_client.specs.Reading.{server_channel, is_rfcomm_in, target_or, target_by, record_target, service_target, records_target}

-- ---- a part is what its tree is

pub number-of_tree : (width : ℕ) (element : PlainElement) (tree : Tree) → Stands element tree → number_of width tree ≡ number_in width element
number-of_tree width (Value value) tree s = ap (number_of width) s
number-of_tree width (Sequence content) tree s = ap (number_of width) s.1
number-of_tree width (Alternative content) tree s = ap (number_of width) s.1

pub rfcomm-of_tree : (element : PlainElement) (tree : Tree) → Stands element tree → is_rfcomm tree ≡ is_rfcomm_in element
rfcomm-of_tree (Value value) tree s = ap is_rfcomm s
rfcomm-of_tree (Sequence content) tree s = ap is_rfcomm s.1
rfcomm-of_tree (Alternative content) tree s = ap is_rfcomm s.1

-- ---- the first server channel of protocols

-- the protocols so far named none
pub record Seeks (trees : Trees) (left : List ℕ) : Type 0 where
  pub rest : Trees
  pub spelled : AreSpelledBy rest left
  pub same : channels_among trees ≡ channels_among rest

pub seeks_all : (trees : Trees) (left : List ℕ) → AreSpelledBy trees left → Seeks trees left
seeks_all trees left s = record { rest = trees; spelled = s; same = refl }

pub seeks_here : (trees : Trees) (old new : List ℕ) (element : PlainElement) (k : Seeks trees old) (w : Walked k.rest element new) → channels_among trees ≡ option_or (channel_of w.first) (channels_among w.others)
seeks_here trees old new element k w = k.same ∙ ap channels_among w.rest_is

none_is : (o : Option ℕ) → is_some o ≡ false → o ≡ None
none_is (Some x) h = absurd cc
none_is None h = refl

some_or : (o other : Option ℕ) → is_some o ≡ true → option_or o other ≡ o
some_or (Some x) other h = refl
some_or None other h = absurd cc

pub seeks_on : (trees : Trees) (old new : List ℕ) (element : PlainElement) (k : Seeks trees old) (w : Walked k.rest element new) → is_some (channel_of w.first) ≡ false → Seeks trees new
seeks_on trees old new element k w h = record {
  rest = w.others;
  spelled = w.spelled;
  same = seeks_here trees old new element k w ∙ ap (λ (o : Option ℕ). option_or o (channels_among w.others)) (none_is (channel_of w.first) h);
}

pub seeks_found : (trees : Trees) (old new : List ℕ) (element : PlainElement) (k : Seeks trees old) (w : Walked k.rest element new) (channel : Option ℕ) → channel ≡ channel_of w.first → is_some channel ≡ true → channel ≡ channels_among trees
seeks_found trees old new element k w channel e h =
    e ∙ sym (some_or (channel_of w.first) (channels_among w.others) (ap is_some (sym e) ∙ h)) ∙ sym (seeks_here trees old new element k w)

-- ---- one attribute after the other

pub or_assoc : (a b c : Option ℕ) → option_or (option_or a b) c ≡ option_or a (option_or b c)
or_assoc (Some x) b c = refl
or_assoc None b c = refl

or_none : (a : Option ℕ) → option_or a None ≡ a
or_none (Some x) = refl
or_none None = refl

abbrev target : Option ℕ → Option ℕ → Target
target l2cap rfcomm = record { l2cap = l2cap; rfcomm = rfcomm }

both : (a b c d : Option ℕ) → a ≡ b → c ≡ d → target a c ≡ target b d
both a b c d e f = ap (λ (x : Option ℕ). target x c) e ∙ ap (target b) f

pub target_or-assoc : (a b c : Target) → target_or (target_or a b) c ≡ target_or a (target_or b c)
target_or-assoc a b c = both (option_or (option_or a.l2cap b.l2cap) c.l2cap) (option_or a.l2cap (option_or b.l2cap c.l2cap)) (option_or (option_or a.rfcomm b.rfcomm) c.rfcomm) (option_or a.rfcomm (option_or b.rfcomm c.rfcomm))
    (or_assoc a.l2cap b.l2cap c.l2cap) (or_assoc a.rfcomm b.rfcomm c.rfcomm)

pub target_or-nothing : (a : Target) → target_or a (target None None) ≡ a
target_or-nothing a = both (option_or a.l2cap None) a.l2cap (option_or a.rfcomm None) a.rfcomm (or_none a.l2cap) (or_none a.rfcomm)

-- the target so far, and what is found behind it
abbrev pub behind : Target → Option Target → Option Target
behind so_far read = read >>= λ later. Some (target_or so_far later)

pub behind-behind : (a b : Target) (read : Option Target) → behind a (behind b read) ≡ behind (target_or a b) read
behind-behind a b (Some later) = ap (λ (t : Target). Some t) (sym (target_or-assoc a b later))
behind-behind a b None = refl

pub behind-nothing : (read : Option Target) → behind (target None None) read ≡ read
behind-nothing (Some later) = refl
behind-nothing None = refl

-- what is found of the parts is the target so far with what is found of those that are left
pub record Finds (what : Trees → Option Target) (trees : Trees) (so_far : Target) (left : List ℕ) : Type 0 where
  pub rest : Trees
  pub spelled : AreSpelledBy rest left
  pub same : what trees ≡ behind so_far (what rest)

pub finds_all : (what : Trees → Option Target) (trees : Trees) (left : List ℕ) → AreSpelledBy trees left → Finds what trees (record { l2cap = None; rfcomm = None }) left
finds_all what trees left s = record { rest = trees; spelled = s; same = sym (behind-nothing (what trees)) }

-- ---- the attributes of a service record

append_found : (what : Attribute → Option ℕ) (xs ys : List Attribute) → first_found what (xs ++ ys) ≡ option_or (first_found what xs) (first_found what ys)
append_found what [] ys = refl
append_found what (x ∷ xs) ys = ap (option_or (what x)) (append_found what xs ys) ∙ sym (or_assoc (what x) (first_found what xs) (first_found what ys))

target_of-append : (xs ys : List Attribute) → target_of (xs ++ ys) ≡ target_or (target_of xs) (target_of ys)
target_of-append xs ys = both (first_found psm_in (xs ++ ys)) (option_or (first_found psm_in xs) (first_found psm_in ys)) (first_found channel_in (xs ++ ys)) (option_or (first_found channel_in xs) (first_found channel_in ys))
    (append_found psm_in xs ys) (append_found channel_in xs ys)

pair_read : (identifier : ℕ) (value : Tree) (read : Option (List Attribute))
    → (read >>= λ more. Some (attribute identifier value ∷ more)) >>= (λ attributes. Some (target_of attributes)) ≡ behind (target_by identifier value) (read >>= λ attributes. Some (target_of attributes))
pair_read identifier value (Some more) = refl
pair_read identifier value None = refl

-- one attribute more
pub pair_found : (first value : Tree) (others : Trees) (identifier : ℕ) → number_of 2 first ≡ Some identifier → record_target (Then first (Then value others)) ≡ behind (target_by identifier value) (record_target others)
pair_found first value others identifier e =
    ap (λ (o : Option ℕ). (o >>= λ i. attributes_in others >>= λ more. Some (attribute i value ∷ more)) >>= λ attributes. Some (target_of attributes)) e ∙ pair_read identifier value (attributes_in others)

no_pair : (first value : Tree) (others : Trees) (o : Option ℕ) → number_of 2 first ≡ o → is_some o ≡ false → record_target (Then first (Then value others)) ≡ None
no_pair first value others (Some x) e h = absurd cc
no_pair first value others None e h = ap (λ (o : Option ℕ). (o >>= λ i. attributes_in others >>= λ more. Some (attribute i value ∷ more)) >>= λ attributes. Some (target_of attributes)) e

-- no identifier, whatever is behind it
pub no_identifier : (first : Tree) (others : Trees) → number_of 2 first ≡ None → record_target (Then first others) ≡ None
no_identifier first Finish e = refl
no_identifier first (Then value others) e = no_pair first value others (number_of 2 first) refl (ap is_some e)

-- ---- the service records of an answer

service_read : (attributes : List Attribute) (read : Option (List (List Attribute)))
    → (read >>= λ more. Some (attributes ∷ more)) >>= (λ found. Some (target_of (flat_map (λ a. a) found))) ≡ behind (target_of attributes) (read >>= λ found. Some (target_of (flat_map (λ a. a) found)))
service_read attributes (Some more) = ap (λ (t : Target). Some t) (target_of-append attributes (flat_map (λ (a : List Attribute). a) more))
service_read attributes None = refl

attributes_read : (o : Option (List Attribute)) (read : Option (List (List Attribute)))
    → (o >>= λ attributes. read >>= λ more. Some (attributes ∷ more)) >>= (λ found. Some (target_of (flat_map (λ a. a) found)))
    ≡ (o >>= λ attributes. Some (target_of attributes)) >>= (λ t. behind t (read >>= λ found. Some (target_of (flat_map (λ a. a) found))))
attributes_read (Some attributes) read = service_read attributes read
attributes_read None read = refl

service_in : (parts : Option Trees) (read : Option (List (List Attribute)))
    → ((parts >>= attributes_in) >>= λ attributes. read >>= λ more. Some (attributes ∷ more)) >>= (λ found. Some (target_of (flat_map (λ a. a) found)))
    ≡ (parts >>= record_target) >>= (λ t. behind t (read >>= λ found. Some (target_of (flat_map (λ a. a) found))))
service_in (Some parts) read = attributes_read (attributes_in parts) read
service_in None read = refl

-- one service record more
pub service_found : (first : Tree) (others : Trees) → records_target (Then first others) ≡ (service_target first >>= λ t. behind t (records_target others))
service_found first others = service_in (sequence_parts first) (collected attributes_of others)

-- ---- the steps of the walks

pub finds_on : (what : Trees → Option Target) (trees : Trees) (so_far more made : Target) (old new : List ℕ) (k : Finds what trees so_far old) (rest : Trees) → AreSpelledBy rest new → what k.rest ≡ behind more (what rest)
    → made ≡ target_or so_far more → Finds what trees made new
finds_on what trees so_far more made old new k rest s e m = record {
  rest = rest;
  spelled = s;
  same = k.same ∙ ap (behind so_far) e ∙ behind-behind so_far more (what rest) ∙ ap (λ (t : Target). behind t (what rest)) (sym m);
}

pub finds_none : (what : Trees → Option Target) (trees : Trees) (so_far : Target) (old : List ℕ) (k : Finds what trees so_far old) → what k.rest ≡ None → what trees ≡ None
finds_none what trees so_far old k e = k.same ∙ ap (behind so_far) e

pub finds_over : (what : Trees → Option Target) (trees : Trees) (so_far : Target) (old : List ℕ) (k : Finds what trees so_far old) → k.rest ≡ Finish → what Finish ≡ Some (target None None) → what trees ≡ Some so_far
finds_over what trees so_far old k over e = k.same ∙ ap (λ (rest : Trees). behind so_far (what rest)) over ∙ ap (behind so_far) e ∙ ap (λ (t : Target). Some t) (target_or-nothing so_far)

-- ---- the parts of a protocol

cond_is : {A : Type 0} (test : Bool) (b : Bool) (x y : A) → test ≡ b → cond test x y ≡ cond b x y
cond_is {A} test b x y e = ap (λ (t : Bool). cond t x y) e

two : (trees : Trees) (first : Tree) (others : Trees) (second : Tree) (more : Trees) → trees ≡ Then first others → others ≡ Then second more → trees ≡ Then first (Then second more)
two trees first others second more e f = e ∙ ap (Then first) f

pub no_channel : (trees : Trees) (first : Tree) (others : Trees) (second : Tree) (more : Trees) → trees ≡ Then first others → others ≡ Then second more → is_rfcomm first ≡ false → channel_among trees ≡ None
no_channel trees first others second more e f h =
    let none : Option ℕ = None in
    ap channel_among (two trees first others second more e f) ∙ cond_is (is_rfcomm first) false (number_of 1 second >>= kept is_server_channel) none h

pub channel_here : (trees : Trees) (first : Tree) (others : Trees) (second : Tree) (more : Trees) (element : PlainElement) → trees ≡ Then first others → others ≡ Then second more → is_rfcomm first ≡ true → Stands element second
    → channel_among trees ≡ server_channel element
channel_here trees first others second more element e f h s =
    let none : Option ℕ = None in
    ap channel_among (two trees first others second more e f) ∙ cond_is (is_rfcomm first) true (number_of 1 second >>= kept is_server_channel) none h
    ∙ ap (λ (o : Option ℕ). o >>= kept is_server_channel) (number-of_tree 1 element second s)
