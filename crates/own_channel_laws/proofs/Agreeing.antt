-- How what is agreed on goes on with what is said.
use Rattle.std.proofs.Common.{◌≡◌, ℕ, zero, suc, ◌<◌, ◌≤◌, List, [], ◌∷◌, ◌++◌, length, take, drop, Bool, true, false, cond, ltb, eqb, not, Option, Some, None, Result, Ok, refl, sym, ap, subst, ◌∙◌, ◌⊎◌, inl, inr, arith, length-append}
use Rattle.std.specs.Prelude.{option_map, unwrap_or, is_some}
use Rattle.std.specs.Option.{option_or}
use Rattle.std.proofs.lemmas.Bool.{eqb-true, ltb-false, le-ltb}
use Rattle.std.proofs.lemmas.List.{take-append-le, drop-append-le, length-drop}
use Rattle.talk_laws.specs.l2cap_config.specs.declared.options.ModeOption.{ModeOption}
use Rattle.talk_laws.specs.l2cap_config.specs.declared.options.Options.{Options}
use Rattle.talk_laws.specs.l2cap_config.specs.declared.options.ConfigRefusal.{ConfigRefusal}
use Rattle.talk_laws.specs.l2cap_config.specs.declared.agreement.ConfigAnswer.{ConfigAnswer}
use Rattle.talk_laws.specs.l2cap_config.specs.declared.agreement.ConfigAnswer.TheVariants.{Accept, Unacceptable, Unknown}
use Rattle.talk_laws.specs.l2cap_config.specs.declared.wish.Mode.{Mode}
use Rattle.talk_laws.specs.l2cap_config.specs.declared.wish.Mode.TheVariants.{Basic, Enhanced}
use Rattle.talk_laws.specs.l2cap_config.specs.declared.wish.Wish.{Wish}
use Rattle.talk_laws.specs.l2cap_config.specs.Items.{Item, options_in, joined}
use Rattle.talk_laws.specs.l2cap_config.specs.Reading.{item_at, items_of, items_within, fits, stated, options_read}
use Rattle.talk_laws.specs.l2cap_config.specs.Writing.{written}
use Rattle.talk_laws.specs.l2cap_config.specs.Agreement.{basic_mode, asked_mode, mode_number, answered, agreed_on, requested}
use Rattle.talk_laws.specs.l2cap_config.proofs.ItemLists.{items_step, items_none, items_nothing, options-append}
use Rattle.talk_laws.specs.link_talk.specs.Meanings.{Part}
use Rattle.talk_laws.specs.link_talk.specs.Setups as read
use Rattle.talk_laws.specs.link_talk.specs.Setups.{mode_in, mode_stated, mode_numbered, is_set, with_term, setup_after, Wished, Answered}
use Rattle.channel_model.specs.Value.{Request, Own, Unasked, Asking, Granted, Carrier, Setup}
use Rattle.channel_model.specs.Configuring.{carrier_by, new_carrier, bounded_agreement}
use Rattle.own_channel_laws.specs.Views.{carrier_mode, asked_mode as mode_asked}
use Rattle.own_channel_laws.proofs.Both.{and-left, and-right}
use Rattle.own_channel_laws.proofs.Sound.{PartsAre, states_mode, IsRequested, OwnStates, CarrierIs, Agrees}
use Rattle.own_channel_laws.proofs.Granting.{no_parts}

-- ---- lists of options joined

guards : {A : Type 0} (short long : Bool) (x y : A) → cond short None (cond long (Some x) None) ≡ Some y → (short ≡ false) × (long ≡ true) × (x ≡ y)
guards true long x y e = absurd cc
guards false true x y e = (refl, refl, cc)
guards false false x y e = absurd cc

item-more : (octets more : List ℕ) (found : Item × List ℕ) → item_at octets ≡ Some found → item_at (octets ++ more) ≡ Some (found.0, found.1 ++ more)
item-more [] more found e = absurd cc
item-more (o ∷ []) more found e = absurd cc
item-more (o ∷ size ∷ rest) more found e =
    let item : Item = record { octet = o; value = take size rest } in
    let g = guards (ltb (length rest) size) (fits o size) (item, drop size rest) found e in
    let long : size ≤ length rest = ltb-false _ _ g.0 in
    let whole : ltb (length (rest ++ more)) size ≡ false = le-ltb _ _ (omega (arith, long, length-append rest more)) in
    let after : Item = record { octet = o; value = take size (rest ++ more) } in
    ap (λ t. cond t None (cond (fits o size) (Some (after, drop size (rest ++ more))) None)) whole
    ∙ (ap (λ t. cond t (Some (after, drop size (rest ++ more))) None) g.1
    ∙ (ap (λ (x : List ℕ). let one : Item = record { octet = o; value = x } in Some (one, drop size (rest ++ more))) (take-append-le size rest more long)
    ∙ (ap (λ x. Some (item, x)) (drop-append-le size rest more long)
    ∙ ap (λ (f : Item × List ℕ). Some (f.0, f.1 ++ more)) g.2)))

item-shorter : (octets : List ℕ) (found : Item × List ℕ) → item_at octets ≡ Some found → length found.1 < length octets
item-shorter [] found e = absurd cc
item-shorter (o ∷ []) found e = absurd cc
item-shorter (o ∷ size ∷ rest) found e =
    let item : Item = record { octet = o; value = take size rest } in
    let g = guards (ltb (length rest) size) (fits o size) (item, drop size rest) found e in
    subst (λ (f : Item × List ℕ). length f.1 < length (o ∷ size ∷ rest)) g.2 (omega (arith, length-drop size rest))

some_was : {A : Type 0} (x y : A) → Some x ≡ Some y → x ≡ y
some_was x y e = cc

-- one item, and the others
first_was : (item : Item) (found : Option (List Item)) (items : List Item) → option_map (λ more. item ∷ more) found ≡ Some items → (more : List Item) × (found ≡ Some more) × (item ∷ more ≡ items)
first_was item None items e = absurd cc
first_was item (Some more) items e = (more, refl, cc)

mutual_join : (octets more : List ℕ) (items last : List Item) (found : Option (Item × List ℕ)) → item_at octets ≡ found → 0 < length octets
    → ((one : Item × List ℕ) → item_at octets ≡ Some one → (rest : List Item) → items_of one.1 ≡ Some rest → items_of (one.1 ++ more) ≡ Some (rest ++ last))
    → items_of octets ≡ Some items → items_of (octets ++ more) ≡ Some (items ++ last)
mutual_join octets more items last None at some later is = let bad : None ≡ Some items = sym (items_none octets some at) ∙ is in absurd cc
mutual_join octets more items last (Some one) at some later is =
    let f = first_was one.0 (items_of one.1) items (sym (items_step octets one at) ∙ is) in
    items_step (octets ++ more) (one.0, one.1 ++ more) (item-more octets more one at)
    ∙ (ap (option_map (λ rest. one.0 ∷ rest)) (later one at f.0 f.1)
    ∙ ap (λ all. Some (all ++ last)) f.2)

joins-within : (n : ℕ) (octets more : List ℕ) (items last : List Item) → length octets ≤ n → items_of octets ≡ Some items → items_of more ≡ Some last → items_of (octets ++ more) ≡ Some (items ++ last)
joins-within n [] more items last short is also = also ∙ ap (λ all. Some (all ++ last)) (some_was [] items (sym items_nothing ∙ is))
joins-within zero (o ∷ octets) more items last short is also = absurd (omega arith)
joins-within (suc n) (o ∷ octets) more items last short is also =
    mutual_join (o ∷ octets) more items last (item_at (o ∷ octets)) refl (omega arith)
    (λ one at rest rest_is. joins-within n one.1 more rest last (let less = item-shorter (o ∷ octets) one at in omega (arith, less, short)) rest_is also) is

read_by : (found : Option (List Item)) (options : Options) → stated found ≡ Ok options → (items : List Item) × (found ≡ Some items) × (options_in items ≡ options)
read_by None options is = absurd cc
read_by (Some items) options is = (items, refl, cc)

-- what two lists state, one behind the other
pub read-joined : (octets more : List ℕ) (first last : Options) → options_read octets ≡ Ok first → options_read more ≡ Ok last → options_read (octets ++ more) ≡ Ok (joined first last)
read-joined octets more first last is also =
    let (items, items_is, first_is) = read_by (items_of octets) first is in
    let (others, others_is, last_is) = read_by (items_of more) last also in
    ap stated (joins-within (length octets) octets more items others (omega arith) items_is others_is)
    ∙ (ap Ok (options-append items others) ∙ (ap (λ o. Ok (joined o (options_in others))) first_is ∙ ap (λ o. Ok (joined first o)) last_is))

pub parts-more : (mode : Option ModeOption) (parts options : List ℕ) (more : Options) → PartsAre mode parts → options_read options ≡ Ok more → PartsAre (option_or more.mode mode) (parts ++ options)
parts-more mode parts options more are is = record {
  stated = joined are.stated more;
  read_is = read-joined parts options are.stated more are.read_is is;
  mode_is = ap (option_or more.mode) are.mode_is;
}

-- ---- own requests

pub requested-states : (wish : Wish) (suggested : Options) (mode : Mode) → wish.mode ≡ mode → mode_in (written (requested wish suggested)) ≡ states_mode mode
unfolding items_of items_within
requested-states wish suggested Basic is = rw is refl
requested-states wish suggested Enhanced is = rw is refl

pub requested-so : (wish : Wish) (options : Options) → IsRequested wish options → mode_in (written options) ≡ states_mode wish.mode
requested-so wish options (suggested, is) = ap (λ o. mode_in (written o)) is ∙ requested-states wish suggested wish.mode refl

-- ---- acceptance

-- what is accepted has the mode that is wished
pub carrier-is : (wish : Wish) (options : Options) → carrier_mode (new_carrier (agreed_on wish options)) ≡ wish.mode
carrier-is wish options = by wish.mode (bounded_agreement (agreed_on wish options))
  where
    by : (mode : Mode) (agreed : _) → carrier_mode (carrier_by mode agreed) ≡ mode
    by Basic agreed = refl
    by Enhanced agreed = refl

number_is : (mode : Mode) (number : ℕ) → number ≡ mode_number mode → mode_numbered number ≡ mode
number_is Basic number is = ap mode_numbered is
number_is Enhanced number is = ap mode_numbered is

basic_is : (mode : Mode) → 0 ≡ mode_number mode → Basic ≡ mode
basic_is Basic is = refl
basic_is Enhanced is = cc

accepted_mode : (wish : Wish) (mode : Option ModeOption) → (unwrap_or mode basic_mode).mode ≡ mode_number wish.mode → unwrap_or (option_map (λ (one : ModeOption). mode_numbered one.mode) mode) Basic ≡ wish.mode
accepted_mode wish None is = basic_is wish.mode is
accepted_mode wish (Some one) is = number_is wish.mode one.mode is

accept_row : (a b : Bool) (refusal : _) (options given : Options) (rest : ConfigAnswer) → cond (not a) Unknown (cond (not b) (Unacceptable refusal options) rest) ≡ Accept given → b ≡ true
accept_row false b refusal options given rest is = cc
accept_row true false refusal options given rest is = cc
accept_row true true refusal options given rest is = refl

pub accepts-mode : (wish : Wish) (options given : Options) → answered wish options ≡ Accept given → (asked_mode options).mode ≡ mode_number wish.mode
accepts-mode wish options given is =
    eqb-true (asked_mode options).mode (mode_number wish.mode) (accept_row (eqb (length options.unknown) 0) (eqb (asked_mode options).mode (mode_number wish.mode)) _ _ given _ is)

-- ---- an answer of the host

some_map : (carrier : Option Carrier) → is_some (option_map carrier_mode carrier) ≡ true → is_some carrier ≡ true
some_map None is = is
some_map (Some carrier) is = refl

modes_same : (wish : Wish) (a b : Option Carrier) → CarrierIs wish a → CarrierIs wish b → is_some a ≡ true → is_some b ≡ true → option_map carrier_mode a ≡ option_map carrier_mode b
modes_same wish None b one other is also = cc
modes_same wish (Some x) None one other is also = cc
modes_same wish (Some x) (Some y) one other is also = ap Some (one ∙ sym other)

-- what it does while the channel is not set up
pub record Answers (setup : Setup) (said : read.Setup) (part : Part) : Type 0 where
  pub asked_is : (read.with_answer said part).asked ≡ said.asked
  pub accepted_is : (read.with_answer said part).accepted ≡ option_map carrier_mode setup.carrier
  pub parts_are : PartsAre setup.parts.mode (read.with_answer said part).parts

answer_by : (wish : Wish) (before after : Setup) (said : read.Setup) (part : Part) (set : Bool) → is_set said ≡ set → Agrees wish before said → after.own ≡ before.own → CarrierIs wish after.carrier
    → (is_some before.carrier ≡ true → is_some after.carrier ≡ true) → (is_set said ≡ false → Answers after said part) → Agrees wish after (cond set said (read.with_answer said part))
answer_by wish before after said part true is agrees own carrier lasts answers = record {
  set_up = record {
    asked_is = agrees.set_up.asked_is ∙ ap (mode_asked wish) (sym own);
    accepted_is =
        let some : is_some before.carrier ≡ true = some_map before.carrier (ap is_some (sym agrees.set_up.accepted_is) ∙ and-right (is_some said.asked) (is_some said.accepted) is) in
        agrees.set_up.accepted_is ∙ modes_same wish before.carrier after.carrier agrees.carrier_is carrier some (lasts some);
  };
  states = subst (OwnStates wish) (sym own) agrees.states;
  carrier_is = carrier;
  parts_are = λ unset. let never : true ≡ false = sym is ∙ unset in absurd cc;
}
answer_by wish before after said part false is agrees own carrier lasts answers =
    let now = answers is in
    record {
      set_up = record { asked_is = now.asked_is ∙ (agrees.set_up.asked_is ∙ ap (mode_asked wish) (sym own)); accepted_is = now.accepted_is };
      states = subst (OwnStates wish) (sym own) agrees.states;
      carrier_is = carrier;
      parts_are = λ unset. now.parts_are;
    }

pub answer-agrees : (wish : Wish) (before after : Setup) (said : read.Setup) (part : Part) → Agrees wish before said → after.own ≡ before.own → CarrierIs wish after.carrier
    → (is_some before.carrier ≡ true → is_some after.carrier ≡ true) → (is_set said ≡ false → Answers after said part) → Agrees wish after (setup_after said (Some (Answered part)))
answer-agrees wish before after said part agrees own carrier lasts answers = answer_by wish before after said part (is_set said) refl agrees own carrier lasts answers

-- ---- a request of the host

pub wish_states : (mode : Mode) (options : List ℕ) (before : Option Mode) → mode_in options ≡ states_mode mode → (before ≡ None) ⊎ (before ≡ Some mode) → Some (unwrap_or (mode_in options) (unwrap_or before Basic)) ≡ Some mode
wish_states Basic options before is was = ap (λ m. Some (unwrap_or m (unwrap_or before Basic))) is ∙ elim was [
  | inl none ↦ ap (λ b. Some (unwrap_or b Basic)) none
  | inr some ↦ ap (λ b. Some (unwrap_or b Basic)) some
]
wish_states Enhanced options before is was = ap (λ m. Some (unwrap_or m (unwrap_or before Basic))) is

asked_either : (wish : Wish) (own : Own) → (mode_asked wish own ≡ None) ⊎ (mode_asked wish own ≡ Some wish.mode)
asked_either wish Unasked = inl refl
asked_either wish (Asking request options) = inr refl
asked_either wish Granted = inr refl

asked_some : (wish : Wish) (own : Own) → is_some (mode_asked wish own) ≡ true → mode_asked wish own ≡ Some wish.mode
asked_some wish Unasked is = cc
asked_some wish (Asking request options) is = refl
asked_some wish Granted is = refl

wish_by : (wish : Wish) (setup : Setup) (said : read.Setup) (request : Request) (options : Options) (set : Bool) → is_set said ≡ set → Agrees wish setup said → IsRequested wish options
    → (let after : Setup = record setup { own = Asking request options } in Agrees wish after (cond set said (read.with_wish said (written options))))
wish_by wish setup said request options true is agrees states = record {
  set_up = record {
    asked_is = agrees.set_up.asked_is ∙ asked_some wish setup.own (ap is_some (sym agrees.set_up.asked_is) ∙ and-left (is_some said.asked) (is_some said.accepted) is);
    accepted_is = agrees.set_up.accepted_is;
  };
  states = states;
  carrier_is = agrees.carrier_is;
  parts_are = agrees.parts_are;
}
wish_by wish setup said request options false is agrees states = record {
  set_up = record {
    asked_is = wish_states wish.mode (written options) said.asked (requested-so wish options states) (elim (asked_either wish setup.own) [
      | inl none ↦ inl (agrees.set_up.asked_is ∙ none)
      | inr some ↦ inr (agrees.set_up.asked_is ∙ some)
    ]);
    accepted_is = agrees.set_up.accepted_is;
  };
  states = states;
  carrier_is = agrees.carrier_is;
  parts_are = λ unset. agrees.parts_are is;
}

pub wish-agrees : (wish : Wish) (setup : Setup) (said : read.Setup) (request : Request) (options : Options) → Agrees wish setup said → IsRequested wish options
    → (let after : Setup = record setup { own = Asking request options } in Agrees wish after (setup_after said (Some (Wished (written options)))))
wish-agrees wish setup said request options agrees states = wish_by wish setup said request options (is_set said) refl agrees states

-- what is set up stays so
pub set-stays : (said : read.Setup) (term : read.Term) → is_set (setup_after said (Some term)) ≡ false → is_set said ≡ false
set-stays said term is = by (is_set said) refl is
  where
    by : (set : Bool) → is_set said ≡ set → is_set (cond set said (with_term said term)) ≡ false → set ≡ false
    by false was unset = refl
    by true was unset = sym was ∙ unset

-- ---- each answer

pub refused-answers : (wish : Wish) (setup after : Setup) (said : read.Setup) (own peer : ℕ) (more : Bool) (options : List ℕ) → Agrees wish setup said → after.carrier ≡ setup.carrier → after.parts.mode ≡ None
    → (let part : Part = record { own = own; peer = peer; accepted = false; more = more; options = options } in Answers after said part)
refused-answers wish setup after said own peer more options agrees carrier none = record {
  asked_is = refl;
  accepted_is = agrees.set_up.accepted_is ∙ ap (option_map carrier_mode) (sym carrier);
  parts_are = subst (λ m. PartsAre m []) (sym none) no_parts;
}

pub part-answers : (wish : Wish) (setup after : Setup) (said : read.Setup) (own peer : ℕ) (options : List ℕ) (more : Options) → Agrees wish setup said → is_set said ≡ false → after.carrier ≡ setup.carrier → options_read options ≡ Ok more
    → after.parts.mode ≡ option_or more.mode setup.parts.mode → (let part : Part = record { own = own; peer = peer; accepted = true; more = true; options = options } in Answers after said part)
part-answers wish setup after said own peer options more agrees unset carrier is mode = record {
  asked_is = refl;
  accepted_is = agrees.set_up.accepted_is ∙ ap (option_map carrier_mode) (sym carrier);
  parts_are = subst (λ m. PartsAre m (said.parts ++ options)) (sym mode) (parts-more setup.parts.mode said.parts options more (agrees.parts_are unset) is);
}

pub whole-answers : (wish : Wish) (setup after : Setup) (said : read.Setup) (own peer : ℕ) (options : List ℕ) (more given : Options) → Agrees wish setup said → is_set said ≡ false → options_read options ≡ Ok more
    → answered wish (joined setup.parts more) ≡ Accept given → after.carrier ≡ Some (new_carrier (agreed_on wish (joined setup.parts more))) → after.parts.mode ≡ None
    → (let part : Part = record { own = own; peer = peer; accepted = true; more = false; options = options } in Answers after said part)
whole-answers wish setup after said own peer options more given agrees unset is accepts carrier none =
    let all : PartsAre (option_or more.mode setup.parts.mode) (said.parts ++ options) = parts-more setup.parts.mode said.parts options more (agrees.parts_are unset) is in
    record {
      asked_is = refl;
      accepted_is =
          ap (λ (found : Result Options ConfigRefusal). Some (unwrap_or (mode_stated found) Basic)) all.read_is
          ∙ (ap (λ (m : Option ModeOption). Some (unwrap_or (option_map (λ (one : ModeOption). mode_numbered one.mode) m) Basic)) all.mode_is
          ∙ (ap Some (accepted_mode wish (option_or more.mode setup.parts.mode) (accepts-mode wish (joined setup.parts more) given accepts))
          ∙ (ap Some (sym (carrier-is wish (joined setup.parts more)))
          ∙ ap (option_map carrier_mode) (sym carrier))));
      parts_are = subst (λ m. PartsAre m []) (sym none) no_parts;
    }
