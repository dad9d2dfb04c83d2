-- What a host hears on the signalling channel, and what it answers to it, are octets (Core 5.1, Volume 3 Part A, 4 and 5).
use Rattle.std.proofs.Common.{◌≡◌, ℕ, zero, suc, ◌<◌, List, [], ◌∷◌, ◌++◌, length, Bool, true, false, cond, eqb, not, ◌||◌, Option, Some, None, Result, Ok, Err, refl, sym, subst, inl, inr, arith}
use Rattle.std.specs.Prelude.{replicate, option_map, nat_lt, slice_get, ◌%◌}
use Rattle.std.specs.Option.{option_or}
use Rattle.std.specs.List.{AllByRecursion, list_all}
use Rattle.std.proofs.lemmas.Bool.{and_parts, ltb-true}
use Rattle.shelf_model.specs.bt_base.specs.Octets.{IsOctets, le16}
use Rattle.shelf_model.specs.h4_framing.proofs.OctetLists.{IsOctets-cons, IsOctets-nil}
use Rattle.shelf_model.specs.l2cap_signal.specs.Commands.{Content, Command, disconnection_response, information_response, rest_of, framed}
use Rattle.shelf_model.specs.l2cap_signal.specs.Reading.{Answer as Read, answers}
use Rattle.shelf_model.specs.l2cap_signal.specs.Grammar.{Judges, AreGiven, AreAnswers}
use Rattle.shelf_model.specs.l2cap_signal.specs.declared.refusal.SignalRefusal.{SignalRefusal}
use Rattle.shelf_model.specs.l2cap_signal.specs.declared.refusal.SignalRefusal.TheVariants.{ZeroIdentifier, BadLength, UnknownCode, AboveMtu}
use Rattle.shelf_model.specs.l2cap_signal.proofs.Payloads.{answers_right}
use Rattle.shelf_model.specs.l2cap_config.specs.declared.options.ModeOption.{ModeOption}
use Rattle.shelf_model.specs.l2cap_config.specs.declared.options.Options.{Options}
use Rattle.shelf_model.specs.l2cap_config.specs.declared.options.ConfigRefusal.{ConfigRefusal}
use Rattle.shelf_model.specs.l2cap_config.specs.declared.options.ConfigRefusal.TheVariants.{BadMtu, BadMode, BadWindow, BadMps}
use Rattle.shelf_model.specs.l2cap_config.specs.declared.agreement.ConfigAnswer.{ConfigAnswer}
use Rattle.shelf_model.specs.l2cap_config.specs.declared.agreement.ConfigAnswer.TheVariants.{Accept, Unacceptable, Unknown}
use Rattle.shelf_model.specs.l2cap_config.specs.declared.wish.Mode.{Mode}
use Rattle.shelf_model.specs.l2cap_config.specs.declared.wish.Mode.TheVariants.{Basic, Enhanced}
use Rattle.shelf_model.specs.l2cap_config.specs.declared.wish.Wish.{Wish}
use Rattle.shelf_model.specs.l2cap_config.specs.Types.{kind_of, is_unknown}
use Rattle.shelf_model.specs.l2cap_config.specs.Items.{Item, IsItem, last_of, mode_in, no_options, joined}
use Rattle.shelf_model.specs.l2cap_config.specs.Agreement.{asked_mode, asked_mtu, mode_number, own_mode, only_mode, only_mtu, answered_mode, answered_values, answered}
use Rattle.shelf_model.specs.l2cap_config.specs.Reading.{items_of, stated, options_read}
use Rattle.shelf_model.specs.l2cap_config.specs.Writing.{written}
use Rattle.shelf_model.specs.l2cap_config.proofs.ItemLists.{items_take}
use Rattle.channel_laws.specs.channel_model.specs.Value.{Setup, Stage, Requested, Connected, Leaving, Closing, Crossed, Held}
use Rattle.channel_laws.specs.channel_model.specs.Changing.{is_open}
use Rattle.channel_laws.specs.channel_model.specs.Configuring.{Verdict, NoChannel, TooLate, Unreadable, Incomplete, Judged, judged_part, judged_read, judged_setup}
use Rattle.channel_laws.specs.channel_model.specs.Answers.{no_such_channel, judged_answer, configuration_answer, disconnection_by, disconnection_answer, information_answer}
use Rattle.channel_laws.proofs.Modest.{FitsVerdict as FitsLowVerdict}
use Rattle.host_laws.proofs.Signals.{word, word-alone, mode-written, mtu-written, IsSmallMode, IsSmallWish, FitsSetup}

-- ---- what is heard

abbrev pub IsOctetCommand : Command → Type 0
IsOctetCommand c = (c.identifier < 256) × IsOctets (rest_of c.content)

abbrev pub IsOctetAnswer : Option Content → Type 0
IsOctetAnswer None = Unit {0}
IsOctetAnswer (Some content) = IsOctets (rest_of content)

abbrev IsSmallIdentifier : Option ℕ → Type 0
IsSmallIdentifier None = Unit {0}
IsSmallIdentifier (Some identifier) = identifier < 256

abbrev pub IsOctetRefusal : SignalRefusal → Type 0
IsOctetRefusal (ZeroIdentifier code identifier) = Unit {0}
IsOctetRefusal (BadLength code identifier) = IsSmallIdentifier identifier
IsOctetRefusal (UnknownCode code identifier) = IsSmallIdentifier identifier
IsOctetRefusal (AboveMtu code identifier) = IsSmallIdentifier identifier

abbrev pub IsOctetRead : Read → Type 0
IsOctetRead (Ok command) = IsOctetCommand command
IsOctetRead (Err refusal) = IsOctetRefusal refusal

second_small : (octets : List ℕ) → IsOctets octets → IsSmallIdentifier (slice_get octets 1)
second_small [] fits = tt
second_small (a ∷ []) fits = tt
second_small (a ∷ b ∷ rest) fits = fits 1

named : (identifier other : ℕ) (given : Option ℕ) → given ≡ Some other → other ≡ identifier → identifier < 256 → IsSmallIdentifier given
named identifier other given is same small = subst IsSmallIdentifier (sym is) (subst (λ (n : ℕ). n < 256) (sym same) small)

judged_octets : (code identifier : ℕ) (payload : List ℕ) (one : Read) → identifier < 256 → Judges code identifier payload one → IsOctetRead one
judged_octets code identifier payload (Ok c) small judged = (subst (λ (n : ℕ). n < 256) (sym judged.0) small, judged.2.fits.rest)
judged_octets code identifier payload (Err (ZeroIdentifier k i)) small judged = tt
judged_octets code identifier payload (Err (BadLength k i)) small judged = named identifier identifier i judged.1 refl small
judged_octets code identifier payload (Err (UnknownCode k i)) small judged = named identifier identifier i judged.1 refl small
judged_octets code identifier payload (Err (AboveMtu k i)) small judged = absurd judged

octets_back : (xs ys : List ℕ) → IsOctets (xs ++ ys) → IsOctets ys
octets_back [] ys fits = fits
octets_back (x ∷ xs) ys fits = octets_back xs ys (λ i. fits (suc i))

given_octets : (octets : List ℕ) (list : List Read) → IsOctets octets → AreGiven octets list → AllByRecursion IsOctetRead list
given_octets octets [] fits given = tt
given_octets octets (one ∷ list) fits (inl (breaks, none)) =
    subst (λ (r : Read). IsOctetRead r × AllByRecursion IsOctetRead list) (sym breaks.refusal) (second_small octets fits, subst (AllByRecursion IsOctetRead) (sym none) tt)
given_octets octets (one ∷ list) fits (inr (rest, begins, behind)) =
    let front = framed begins.code begins.identifier begins.payload in
    let whole : IsOctets (front ++ rest) = subst IsOctets begins.parts fits in
    (judged_octets begins.code begins.identifier begins.payload one (whole 1) begins.judged, given_octets rest list (octets_back front rest whole) behind)

pub heard_octets : (octets : List ℕ) → IsOctets octets → AllByRecursion IsOctetRead (answers octets)
heard_octets octets fits = by (answers octets) (answers_right octets fits)
  where
    by : (list : List Read) → AreAnswers octets list → AllByRecursion IsOctetRead list
    by list (inl (long, is)) = subst (AllByRecursion IsOctetRead) (sym is) (second_small octets fits, tt)
    by list (inr (short, given)) = given_octets octets list fits given

-- ---- options that are read

unknown_octets : (types : List ℕ) → list_all is_unknown types ≡ true → IsOctets types
unknown_octets [] all = IsOctets-nil
unknown_octets (one ∷ types) all =
    let both = and_parts (is_unknown one) (list_all is_unknown types) all in
    let low : one < 128 = ltb-true one 128 (and_parts (nat_lt one 128) _ both.0).0 in
    IsOctets-cons one types (omega (arith, low)) (unknown_octets types both.1)

last_mode : (list : List Item) → AllByRecursion IsItem list → IsSmallMode (option_map mode_in (last_of 4 list))
last_mode [] all = tt
last_mode (item ∷ list) all = by (last_of 4 list) (last_mode list all.1) (eqb (kind_of item.octet) 4)
  where
    by : (found : Option (List ℕ)) → IsSmallMode (option_map mode_in found) → (same : Bool) → IsSmallMode (option_map mode_in (option_or found (cond same (Some item.value) None)))
    by (Some value) small same = small
    by None small true = (all.0.value 1, all.0.value 2)
    by None small false = tt

abbrev IsSmallRead : Result Options ConfigRefusal → Type 0
IsSmallRead (Ok options) = IsSmallMode options.mode
IsSmallRead (Err refusal) = Unit {0}

read_small : (octets : List ℕ) → IsOctets octets → IsSmallRead (options_read octets)
read_small octets fits = by (items_of octets) refl
  where
    by : (found : Option (List Item)) → items_of octets ≡ found → IsSmallRead (stated found)
    by None is = tt
    by (Some list) is = last_mode list (items_take octets list fits is).0

joined_small : (earlier later : Option ModeOption) → IsSmallMode earlier → IsSmallMode later → IsSmallMode (option_or later earlier)
joined_small earlier None one other = one
joined_small earlier (Some mode) one other = other

-- ---- what is answered to options

asked_small : (mode : Option ModeOption) (options : Options) → options.mode ≡ mode → IsSmallMode mode → ((asked_mode options).window < 256) × ((asked_mode options).tries < 256)
asked_small None options is small = subst (λ (m : Option ModeOption). (let o = record no_options { mode = m } in ((asked_mode o).window < 256) × ((asked_mode o).tries < 256))) (sym is) (omega arith, omega arith)
asked_small (Some mode) options is small = subst (λ (m : Option ModeOption). (let o = record no_options { mode = m } in ((asked_mode o).window < 256) × ((asked_mode o).tries < 256))) (sym is) small

abbrev IsOctetAgreed : ConfigAnswer → Type 0
IsOctetAgreed (Accept given) = IsOctets (written given)
IsOctetAgreed (Unacceptable refusal given) = IsOctets (written given)
IsOctetAgreed Unknown = Unit {0}

answered_small : (wish : Wish) (options : Options) → IsSmallWish wish → IsSmallMode options.mode → IsOctetAgreed (answered wish options)
answered_small wish options wished small = by (not (eqb (length options.unknown) 0)) (not (eqb (asked_mode options).mode (mode_number wish.mode))) (nat_lt (asked_mtu options) 48)
  where
    asked : ModeOption
    asked = asked_mode options

    both : (asked.window < 256) × (asked.tries < 256)
    both = asked_small options.mode options refl small

    values : (mode : Mode) (a b : Bool) → IsOctetAgreed (cond a (Unacceptable BadWindow (only_mode (answered_mode 10 asked.tries asked.mps))) (cond b (Unacceptable BadMps (only_mode (answered_mode asked.window asked.tries 48))) (Accept (only_mode (answered_mode asked.window asked.tries asked.mps)))))
    values mode true b = mode-written None (answered_mode 10 asked.tries asked.mps) (omega arith) (omega arith) both.1
    values mode false true = mode-written None (answered_mode asked.window asked.tries 48) (omega arith) both.0 both.1
    values mode false false = mode-written None (answered_mode asked.window asked.tries asked.mps) (omega arith) both.0 both.1

    agreed : (mode : Mode) → IsOctetAgreed (answered_values mode asked)
    agreed Basic = IsOctets-nil
    agreed Enhanced = values Enhanced (eqb asked.window 0 || nat_lt 63 asked.window) (nat_lt asked.mps 8)

    own : (mode : Mode) → IsOctets (written (only_mode (own_mode wish mode)))
    own Basic = mode-written None (own_mode wish Basic) (omega arith) (omega arith) (omega arith)
    own Enhanced = mode-written None (own_mode wish Enhanced) (omega arith) wished.0 wished.1

    by : (a b c : Bool) → IsOctetAgreed (cond a Unknown (cond b (Unacceptable BadMode (only_mode (own_mode wish wish.mode))) (cond c (Unacceptable BadMtu (only_mtu 48)) (answered_values wish.mode asked))))
    by true b c = tt
    by false true c = own wish.mode
    by false false true = mtu-written 48
    by false false false = agreed wish.mode

-- the parts so far are small, and what is answered are octets
abbrev pub FitsVerdict : Verdict → Type 0
FitsVerdict NoChannel = Unit {0}
FitsVerdict (TooLate peer) = Unit {0}
FitsVerdict (Unreadable peer) = Unit {0}
FitsVerdict (Incomplete peer options) = IsSmallMode options.mode
FitsVerdict (Judged peer options answer) = IsOctetAgreed answer

pub setup_verdict : (peer flags : ℕ) (wish : Wish) (setup : Setup) (octets : List ℕ) → IsSmallWish wish → IsOctets octets → FitsSetup setup → FitsVerdict (judged_setup peer flags wish setup octets)
setup_verdict peer flags wish setup octets wished fits so = by (is_open setup)
  where
    part : (options : Options) (more : Bool) → IsSmallMode options.mode → FitsVerdict (judged_part more peer wish options)
    part options true small = small
    part options false small = answered_small wish options wished small

    on : (found : Result Options ConfigRefusal) → IsSmallRead found → FitsVerdict (judged_read peer flags wish setup found)
    on (Ok options) small = part (joined setup.parts options) (eqb (flags % 2) 1) (joined_small setup.parts.mode options.mode so.parts small)
    on (Err refusal) small = tt

    by : (opened : Bool) → FitsVerdict (cond opened (TooLate peer) (judged_read peer flags wish setup (options_read octets)))
    by true = tt
    by false = on (options_read octets) (read_small octets fits)

missing : (own peer : ℕ) → IsOctets (rest_of (no_such_channel own peer))
missing own peer = word own (le16 peer) (word-alone peer)

judged_so : (answer : ConfigAnswer) (peer : ℕ) (options : Options) → IsOctetAgreed answer → list_all is_unknown options.unknown ≡ true → IsOctets (rest_of (judged_answer answer peer options))
judged_so (Accept given) peer options octets unknown = octets
judged_so (Unacceptable refusal given) peer options octets unknown = octets
judged_so Unknown peer options octets unknown = unknown_octets options.unknown unknown

pub configured : (now : Verdict) (own : ℕ) → FitsVerdict now → FitsLowVerdict now → IsOctets (rest_of (configuration_answer now own))
configured NoChannel own fits low = missing own 0x0000
configured (TooLate peer) own fits low = IsOctets-nil
configured (Unreadable peer) own fits low = IsOctets-nil
configured (Incomplete peer options) own fits low = IsOctets-nil
configured (Judged peer options answer) own fits low = judged_so answer peer options fits low.1.unknown

pub disconnected_so : (found : Option Held) (own peer : ℕ) → IsOctetAnswer (disconnection_answer found own peer)
disconnected_so None own peer = missing own peer
disconnected_so (Some held) own peer = by held.stage
  where
    named : (same : Bool) → IsOctetAnswer (cond same (Some (disconnection_response own peer)) None)
    named true = IsOctets-nil
    named false = tt

    by : (stage : Stage) → IsOctetAnswer (disconnection_by stage own peer)
    by (Requested request) = missing own peer
    by (Connected endpoint setup) = named (eqb endpoint peer)
    by (Leaving endpoint setup request) = named (eqb endpoint peer)
    by (Closing endpoint request checked) = named (eqb endpoint peer)
    by (Crossed endpoint request) = named (eqb endpoint peer)

-- so many octets of zero
zeros : (n : ℕ) → IsOctets (replicate n 0)
zeros zero = IsOctets-nil
zeros (suc n) = IsOctets-cons 0 (replicate n 0) (omega arith) (zeros n)

pub informed : (kind : ℕ) → IsOctets (rest_of (information_answer kind))
informed kind = by (eqb kind 2) (eqb kind 3)
  where
    by : (two three : Bool) → IsOctets (rest_of (cond two (information_response kind 0 (0xA8 ∷ 0x00 ∷ 0x00 ∷ 0x00 ∷ [])) (cond three (information_response kind 0 (0x02 ∷ 0x00 ∷ 0x00 ∷ 0x00 ∷ 0x00 ∷ 0x00 ∷ 0x00 ∷ 0x00 ∷ [])) (information_response kind 1 []))))
    by true three = IsOctets-cons 0xA8 (0x00 ∷ 0x00 ∷ 0x00 ∷ []) (omega arith) (zeros 3)
    by false true = IsOctets-cons 0x02 (0x00 ∷ 0x00 ∷ 0x00 ∷ 0x00 ∷ 0x00 ∷ 0x00 ∷ 0x00 ∷ []) (omega arith) (zeros 7)
    by false false = IsOctets-nil
