-- What a host answers is fit for its fields, where what it hears are octets; and so is what it gives.
use Rattle.std.proofs.Common.{◌≡◌, ℕ, ◌+◌, ◌^◌, ◌<◌, ◌≤◌, List, [], ◌∷◌, ◌++◌, length, Bool, true, false, cond, eqb, Option, Some, None, Result, Ok, Err, refl, sym, ap, subst, ◌∙◌, inl, inr, arith, length-append}
use Rattle.std.specs.Prelude.{filter, map, nat_le, nat_lt, not, ◌%◌}
use Rattle.std.specs.List.{AllByRecursion, list_any, list_all}
use Rattle.std.proofs.lemmas.Bool.{ltb-false, and_from, and_parts}
use Rattle.talk_laws.specs.bt_base.specs.Octets.{IsOctets}
use Rattle.talk_laws.specs.l2cap_signal.specs.Commands.{Content, Command, reject, connection_request, connection_response, configuration_request, configuration_response, disconnection_request, disconnection_response, echo_request, echo_response, information_request, information_response, words_of, payload_of}
use Rattle.talk_laws.specs.l2cap_signal.specs.Reading.{Answer as Read, answers}
use Rattle.talk_laws.specs.l2cap_signal.specs.Grammar.{Judges, AreGiven, AreAnswers}
use Rattle.talk_laws.specs.l2cap_signal.proofs.Payloads.{answers_right}
use Rattle.talk_laws.specs.l2cap_config.specs.declared.options.ModeOption.{ModeOption}
use Rattle.talk_laws.specs.l2cap_config.specs.declared.options.Options.{Options}
use Rattle.talk_laws.specs.l2cap_config.specs.declared.options.ConfigRefusal.{ConfigRefusal}
use Rattle.talk_laws.specs.l2cap_config.specs.declared.agreement.ConfigAnswer.{ConfigAnswer}
use Rattle.talk_laws.specs.l2cap_config.specs.declared.agreement.ConfigAnswer.TheVariants.{Accept, Unacceptable, Unknown}
use Rattle.talk_laws.specs.l2cap_config.specs.declared.wish.Wish.{Wish}
use Rattle.talk_laws.specs.l2cap_config.specs.Types.{is_unknown, contains, with_type, joined_types, AreUnknown}
use Rattle.talk_laws.specs.l2cap_config.specs.Items.{Item, joined}
use Rattle.talk_laws.specs.l2cap_config.specs.Reading.{items_of, stated, options_read}
use Rattle.talk_laws.specs.l2cap_config.specs.Writing.{written}
use Rattle.talk_laws.specs.l2cap_config.proofs.TypeLists.{room, unknown_push, unknown_none}
use Rattle.channel_model.specs.Value.{Stage, Requested, Connected, Leaving, Closing, Crossed, Setup, Held, Channels}
use Rattle.channel_model.specs.Policies.{Policy}
use Rattle.channel_model.specs.Changing.{has_own, held_at, has_peer, is_open}
use Rattle.channel_model.specs.Configuring.{Verdict, NoChannel, TooLate, Unreadable, Incomplete, Judged, judged_part, judged_read, judged_setup, judged_stage, verdict_on, verdict}
use Rattle.channel_model.specs.Answers.{not_understood, too_long, no_such_channel, connection_result, connection_answer, judged_answer, configuration_answer, disconnection_by, disconnection_answer, information_answer, answer_to}
use Rattle.own_channel_laws.proofs.Fitting.{IsEndpoint, FitsSetup, FitsStage, FitsFound, Fits, fits-found}

-- ---- commands

-- numbers of two octets, and no more octets than are heard of one payload
pub record IsModest (what : Content) : Type 0 where
  pub words : AllByRecursion (λ n. n < 2 ^ 16) (words_of what)
  pub size : length (payload_of what) ≤ 668

abbrev pub IsModestCommand : Command → Type 0
IsModestCommand c = (0 < c.identifier) × IsModest c.content

abbrev pub IsModestRead : Read → Type 0
IsModestRead (Ok command) = IsModestCommand command
IsModestRead (Err refusal) = Unit {0}

abbrev pub IsModestAnswer : Option Content → Type 0
IsModestAnswer None = Unit {0}
IsModestAnswer (Some content) = IsModest content

-- ---- what is heard

given_modest : (octets : List ℕ) (list : List Read) → length octets ≤ 672 → AreGiven octets list → AllByRecursion IsModestRead list
given_modest octets [] short given = tt
given_modest octets (one ∷ list) short (inl (breaks, none)) =
    subst (λ (r : Read). IsModestRead r × AllByRecursion IsModestRead list) (sym breaks.refusal) (tt, subst (AllByRecursion IsModestRead) (sym none) tt)
given_modest octets (one ∷ list) short (inr (rest, begins, behind)) =
    let size : length octets ≡ 4 + (length begins.payload + length rest) = ap length begins.parts ∙ omega (arith, length-append begins.payload rest) in
    (by one begins.judged, given_modest rest list (omega (arith, short, size)) behind)
  where
    by : (r : Read) → Judges begins.code begins.identifier begins.payload r → IsModestRead r
    by (Ok c) judged =
        let some = judged.1 in
        let same = judged.0 in
        let says = judged.2 in
        let count : length (payload_of c.content) ≡ length begins.payload = ap length (sym says.payload_is) in
        let whole : length octets ≡ 4 + (length begins.payload + length rest) = ap length begins.parts ∙ omega (arith, length-append begins.payload rest) in
        (omega (arith, some, same), record { words = says.fits.words; size = omega (arith, short, whole, count) })
    by (Err refusal) judged = tt

pub heard-modest : (octets : List ℕ) → IsOctets octets → AllByRecursion IsModestRead (answers octets)
heard-modest octets fits = by (answers octets) (answers_right octets fits)
  where
    by : (list : List Read) → AreAnswers octets list → AllByRecursion IsModestRead list
    by list (inl (long, is)) = subst (AllByRecursion IsModestRead) (sym is) (tt, tt)
    by list (inr (short, given)) = given_modest octets list short given

-- ---- options

joined_unknown : (types later : List ℕ) → AreUnknown types → list_all is_unknown later ≡ true → AreUnknown (joined_types types later)
joined_unknown types [] unknown all = unknown
joined_unknown types (one ∷ later) unknown all = joined_unknown (with_type types one) later (by (contains types one) refl) (and_parts (is_unknown one) (list_all is_unknown later) all).1
  where
    by : (there : Bool) → contains types one ≡ there → AreUnknown (cond there types (types ++ one ∷ []))
    by true is = unknown
    by false is = unknown_push types one unknown (and_parts (is_unknown one) (list_all is_unknown later) all).0 is

all_kept : (types : List ℕ) → list_all is_unknown (filter is_unknown types) ≡ true
all_kept [] = refl
all_kept (one ∷ types) = by (is_unknown one) refl (all_kept types)
  where
    by : (b : Bool) → is_unknown one ≡ b → list_all is_unknown (filter is_unknown types) ≡ true → list_all is_unknown (cond b (one ∷ filter is_unknown types) (filter is_unknown types)) ≡ true
    by true is rest = and_from (is_unknown one) (list_all is_unknown (filter is_unknown types)) is rest
    by false is rest = rest

abbrev IsStated : Result Options ConfigRefusal → Type 0
IsStated (Ok options) = list_all is_unknown options.unknown ≡ true
IsStated (Err refusal) = Unit {0}

of_unknown : (types : List ℕ) → AreUnknown types → list_all is_unknown types ≡ true
of_unknown types unknown = unknown.unknown

read_unknown : (found : Option (List Item)) → IsStated (stated found)
read_unknown None = tt
read_unknown (Some items) = let types = map (λ (item : Item). item.octet) items in of_unknown (joined_types [] (filter is_unknown types)) (joined_unknown [] (filter is_unknown types) unknown_none (all_kept types))

abbrev pub FitsVerdict : Verdict → Type 0
FitsVerdict NoChannel = Unit {0}
FitsVerdict (TooLate peer) = IsEndpoint peer
FitsVerdict (Unreadable peer) = IsEndpoint peer
FitsVerdict (Incomplete peer options) = IsEndpoint peer × AreUnknown options.unknown
FitsVerdict (Judged peer options answer) = IsEndpoint peer × AreUnknown options.unknown

setup_verdict : (peer flags : ℕ) (wish : Wish) (setup : Setup) (octets : List ℕ) → IsEndpoint peer → FitsSetup setup → FitsVerdict (judged_setup peer flags wish setup octets)
setup_verdict peer flags wish setup octets there so = by (is_open setup)
  where
    part : (options : Options) (more : Bool) → AreUnknown options.unknown → FitsVerdict (judged_part more peer wish options)
    part options true unknown = (there, unknown)
    part options false unknown = (there, unknown)

    on : (found : Result Options ConfigRefusal) → IsStated found → FitsVerdict (judged_read peer flags wish setup found)
    on (Ok options) all = part (joined setup.parts options) (eqb (flags % 2) 1) (joined_unknown setup.parts.unknown options.unknown so.parts all)
    on (Err refusal) all = there

    by : (opened : Bool) → FitsVerdict (cond opened (TooLate peer) (judged_read peer flags wish setup (options_read octets)))
    by true = there
    by false = on (options_read octets) (read_unknown (items_of octets))

verdict_of : (F : ℕ → Type 0) (found : Option Held) (policy : Policy) (flags : ℕ) (octets : List ℕ) → FitsFound F found → FitsVerdict (verdict_on found policy flags octets)
verdict_of F None policy flags octets one = tt
verdict_of F (Some held) policy flags octets one = by held.stage one.stage
  where
    by : (stage : Stage) → FitsStage stage → FitsVerdict (judged_stage stage (policy.wish held.psm) flags octets)
    by (Requested request) fits = tt
    by (Connected peer setup) fits = setup_verdict peer flags (policy.wish held.psm) setup octets fits.0 fits.1
    by (Leaving peer setup request) fits = setup_verdict peer flags (policy.wish held.psm) setup octets fits.0 fits.1
    by (Closing peer request checked) fits = fits.0
    by (Crossed peer request) fits = fits.0

pub verdict-fits : (F : ℕ → Type 0) (policy : Policy) (own flags : ℕ) (octets : List ℕ) (v : Channels) → Fits F v → FitsVerdict (verdict policy own flags octets v)
verdict-fits F policy own flags octets v fits = verdict_of F (held_at own v) policy flags octets (fits-found F (has_own own) v fits)

short_options : (mtu : Option ℕ) (mode : Option ModeOption) (fcs : Option ℕ) (unknown : List ℕ) → length (written (record { mtu = mtu; mode = mode; fcs = fcs; unknown = unknown })) ≤ 18
short_options None None None unknown = omega arith
short_options None None (Some f) unknown = omega arith
short_options None (Some m) None unknown = omega arith
short_options None (Some m) (Some f) unknown = omega arith
short_options (Some n) None None unknown = omega arith
short_options (Some n) None (Some f) unknown = omega arith
short_options (Some n) (Some m) None unknown = omega arith
short_options (Some n) (Some m) (Some f) unknown = omega arith

pub short-written : (options : Options) → length (written options) ≤ 18
short-written options = short_options options.mtu options.mode options.fcs options.unknown

-- ---- what is answered

pub unread-modest : IsModest not_understood
unread-modest = record { words = (omega arith, tt); size = omega arith }

pub long-modest : IsModest too_long
long-modest = record { words = (omega arith, tt); size = omega arith }

missing : (own peer : ℕ) → IsModest (no_such_channel own peer)
missing own peer = record { words = (omega arith, tt); size = omega arith }

connection_modest : (policy : Policy) (psm source : ℕ) (v : Channels) → source < 2 ^ 16 → IsModest (connection_answer (connection_result policy psm source v) source v)
connection_modest policy psm source v small = by (not (policy.offers psm)) (nat_le 4 (length v.held)) (nat_lt 0xFFFF v.next) refl (nat_lt source 0x0040) (list_any (has_peer source) v.held)
  where
    answer : (result own : ℕ) → result < 2 ^ 16 → own < 2 ^ 16 → IsModest (connection_response own source result 0)
    answer result own low given = record { words = (given, (small, (low, (omega arith, tt)))); size = omega arith }

    by : (a b c : Bool) → nat_lt 0xFFFF v.next ≡ c → (d e : Bool) → IsModest (connection_answer (cond a 2 (cond b 4 (cond c 4 (cond d 6 (cond e 7 0))))) source v)
    by true b c is d e = answer 2 0 (omega arith) (omega arith)
    by false true c is d e = answer 4 0 (omega arith) (omega arith)
    by false false true is d e = answer 4 0 (omega arith) (omega arith)
    by false false false is true e = answer 6 0 (omega arith) (omega arith)
    by false false false is false true = answer 7 0 (omega arith) (omega arith)
    by false false false is false false = answer 0 v.next (omega arith) (omega (arith, ltb-false 0xFFFF v.next is))

responds : (peer flags result : ℕ) (octets : List ℕ) → peer < 2 ^ 16 → flags < 2 ^ 16 → result < 2 ^ 16 → length octets ≤ 600 → IsModest (configuration_response peer flags result octets)
responds peer flags result octets there small low short = record { words = (there, (small, (low, tt))); size = omega (arith, short) }

judged_modest : (answer : ConfigAnswer) (peer : ℕ) (options : Options) → IsEndpoint peer → AreUnknown options.unknown → IsModest (judged_answer answer peer options)
judged_modest (Accept given) peer options there unknown = responds peer 0 0 (written given) there.1 (omega arith) (omega arith) (omega (arith, short-written given))
judged_modest (Unacceptable refusal given) peer options there unknown = responds peer 0 1 (written given) there.1 (omega arith) (omega arith) (omega (arith, short-written given))
judged_modest Unknown peer options there unknown = responds peer 0 3 options.unknown there.1 (omega arith) (omega arith) (omega (arith, room options.unknown unknown))

configuration_modest : (now : Verdict) (own : ℕ) → FitsVerdict now → IsModest (configuration_answer now own)
configuration_modest NoChannel own fits = missing own 0x0000
configuration_modest (TooLate peer) own fits = responds peer 0 2 [] fits.1 (omega arith) (omega arith) (omega arith)
configuration_modest (Unreadable peer) own fits = responds peer 0 2 [] fits.1 (omega arith) (omega arith) (omega arith)
configuration_modest (Incomplete peer options) own fits = responds peer 1 0 [] fits.0.1 (omega arith) (omega arith) (omega arith)
configuration_modest (Judged peer options answer) own fits = judged_modest answer peer options fits.0 fits.1

disconnection_modest : (found : Option Held) (own peer : ℕ) → own < 2 ^ 16 → peer < 2 ^ 16 → IsModestAnswer (disconnection_answer found own peer)
disconnection_modest None own peer one other = missing own peer
disconnection_modest (Some held) own peer one other = by held.stage
  where
    named : (same : Bool) → IsModestAnswer (cond same (Some (disconnection_response own peer)) None)
    named true = record { words = (one, (other, tt)); size = omega arith }
    named false = tt

    by : (stage : Stage) → IsModestAnswer (disconnection_by stage own peer)
    by (Requested request) = missing own peer
    by (Connected endpoint setup) = named (eqb endpoint peer)
    by (Leaving endpoint setup request) = named (eqb endpoint peer)
    by (Closing endpoint request checked) = named (eqb endpoint peer)
    by (Crossed endpoint request) = named (eqb endpoint peer)

information_modest : (kind : ℕ) → kind < 2 ^ 16 → IsModest (information_answer kind)
information_modest kind small = by (eqb kind 2) (eqb kind 3)
  where
    by : (two three : Bool) → IsModest (cond two (information_response kind 0 (0xA8 ∷ 0x00 ∷ 0x00 ∷ 0x00 ∷ [])) (cond three (information_response kind 0 (0x02 ∷ 0x00 ∷ 0x00 ∷ 0x00 ∷ 0x00 ∷ 0x00 ∷ 0x00 ∷ 0x00 ∷ [])) (information_response kind 1 [])))
    by true three = record { words = (small, (omega arith, tt)); size = omega arith }
    by false true = record { words = (small, (omega arith, tt)); size = omega arith }
    by false false = record { words = (small, (omega arith, tt)); size = omega arith }

pub answer-modest : (F : ℕ → Type 0) (policy : Policy) (content : Content) (v : Channels) → IsModest content → Fits F v → IsModestAnswer (answer_to policy content v)
answer-modest F policy (reject reason rest) v so fits = tt
answer-modest F policy (connection_request psm source) v so fits = connection_modest policy psm source v so.words.1.0
answer-modest F policy (connection_response destination source answer status) v so fits = tt
answer-modest F policy (configuration_request destination flags options) v so fits = configuration_modest (verdict policy destination flags options v) destination (verdict-fits F policy destination flags options v fits)
answer-modest F policy (configuration_response source flags answer options) v so fits = tt
answer-modest F policy (disconnection_request destination source) v so fits = disconnection_modest (held_at destination v) destination source so.words.0 so.words.1.0
answer-modest F policy (disconnection_response destination source) v so fits = tt
answer-modest F policy (echo_request octets) v so fits = record { words = tt; size = so.size }
answer-modest F policy (echo_response octets) v so fits = tt
answer-modest F policy (information_request kind) v so fits = information_modest kind so.words.0
answer-modest F policy (information_response kind answer rest) v so fits = tt
