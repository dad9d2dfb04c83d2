-- What goes out last spends, and grants nothing.
use Rattle.std.proofs.Common.{arith, ◌≡◌, ◌≤◌, ℕ, ◌==◌, Bool, true, false, ◌&&◌, cond, List, [], ◌∷◌, ◌++◌, map, Option, Some, None, Ok, Err, refl, sym, ap, subst, ◌∙◌, append-nil, append_assoc}
use Rattle.std.specs.Prelude.{pos}
use Rattle.std.specs.List.{AllByRecursion, filter_map, cons_option}
use Rattle.std.proofs.lemmas.Bool.{eqb-true}
use Rattle.std.proofs.lemmas.List.{map-append}
use Rattle.std.specs.Option.{option_or}
use Rattle.inbox_laws.specs.capture.specs.Histories.{last_of}
use Rattle.inbox_laws.specs.capture.specs.declared.flow.Flow.TheVariants.{Out, Into}
use Rattle.inbox_laws.specs.link_talk.specs.Accounts.{carries_rfcomm, credits_on}
use Rattle.inbox_laws.specs.link_talk.specs.Carriages.{Carriage, is_heard, is_on, taker, carried, stretch, mode_of}
use Rattle.inbox_laws.specs.link_talk.specs.Channels.{Entry, is_alive, reading}
use Rattle.inbox_laws.specs.link_talk.specs.declared.channel.Channel.{Channel}
use Rattle.inbox_laws.specs.link_talk.specs.declared.party.Party.{Party}
use Rattle.inbox_laws.specs.link_talk.specs.Packets.{passed}
use Rattle.inbox_laws.specs.link_talk.specs.Sayings.{Saying, Command, Carried, GaveUp}
use Rattle.inbox_laws.specs.link_talk.specs.Sdus.{Spoken, spoken_as, spoken, longest}
use Rattle.inbox_laws.specs.l2cap_config.specs.declared.wish.Mode.{Mode}
use Rattle.inbox_laws.specs.talk_laws.specs.Sdus.{Ears, ear_of, sdus_with, spoken_from, ears_so_far}
use Rattle.inbox_laws.specs.talk_laws.proofs.Waits.{spoken-more}
use Rattle.inbox_laws.specs.rfcomm_frames.specs.declared.connection.Role.{Role}
use Rattle.inbox_laws.specs.rfcomm_frames.specs.Answers.{Answer}
use Rattle.inbox_laws.specs.rfcomm_frames.specs.Ending.{no_course, has_last}
use Rattle.inbox_laws.specs.rfcomm_frames.specs.Frames.{PlainFrame}
use Rattle.inbox_laws.specs.rfcomm_frames.specs.FrameReading.{frame_answer}
use Rattle.inbox_laws.specs.rfcomm_frames.specs.Multiplexing.{Passed, Framed, framed, frames, no_connections, granted, spent}
use Rattle.inbox_laws.specs.rfcomm_model.specs.Sides.{connections_of}
use Rattle.inbox_laws.specs.rfcomm_model.proofs.Ended.{to_all, to_more, to_over}
use Rattle.inbox_laws.specs.rfcomm_model.proofs.Reading.{granted_more, spent_more, own_grants}
use Rattle.credit_laws.specs.Seen.{IsCoveredOn, IsSaidOut, EarlierIsCovered, HoldsSome, CoveredHoldSome}
use Rattle.credit_laws.proofs.Paying.{Paid, frames_more, paid_covers}

-- ---- one own SDU less

own_back : (d : ℕ) (role : Role) (fs : List Framed) (f : PlainFrame) → Paid d role (fs ++ record { from = role; frame = f } ∷ []) → Paid d role fs
own_back d role fs f paid = by (has_last d role no_course fs) refl
  where
    own : Framed
    own = record { from = role; frame = f }

    by : (b : Bool) → has_last d role no_course fs ≡ b → Paid d role fs
    by true over = subst (λ (xs : List Framed). spent d role xs ≤ granted d role no_connections xs) (to_over d role no_course fs (record { from = role; frame = f } ∷ []) over) paid
    by false none =
        let more : spent d role (fs ++ record { from = role; frame = f } ∷ []) ≤ granted d role no_connections (fs ++ record { from = role; frame = f } ∷ []) =
        subst (λ (xs : List Framed). spent d role xs ≤ granted d role no_connections xs) (to_more d role no_course fs (record { from = role; frame = f }) none) paid in
        let spends = spent_more d role fs (record { from = role; frame = f }) in
        let grants = granted_more d role no_connections fs (record { from = role; frame = f }) in
        let nothing = own_grants d role (connections_of d no_connections fs) f in
        subst (λ (xs : List Framed). spent d role xs ≤ granted d role no_connections xs) (sym (to_all d role no_course fs none)) (omega (arith, more, spends, grants, nothing))

answer_back : (d : ℕ) (role : Role) (fs : List Framed) (a : Answer) → Paid d role (fs ++ cons_option (framed role a) []) → Paid d role fs
answer_back d role fs (Ok f) paid = own_back d role fs f paid
answer_back d role fs (Err refusal) paid = subst (Paid d role) (append-nil fs) paid

sdu_back : (d : ℕ) (role : Role) (list : List Passed) (one : Passed) → one.from ≡ role → Paid d role (frames (list ++ one ∷ [])) → Paid d role (frames list)
sdu_back d role list one from paid =
    answer_back d role (frames list) (frame_answer one.sdu)
    (subst (λ (r : Role). Paid d role (frames list ++ cons_option (framed r (frame_answer one.sdu)) [])) from (subst (Paid d role) (frames_more list (one ∷ [])) paid))

abbrev IsOwn : Role → Passed → Type 0
IsOwn role one = one.from ≡ role

sdus_back : (d : ℕ) (role : Role) (list own : List Passed) → AllByRecursion (IsOwn role) own → Paid d role (frames (list ++ own)) → Paid d role (frames list)
sdus_back d role list [] all paid = subst (λ (xs : List Passed). Paid d role (frames xs)) (append-nil list) paid
sdus_back d role list (one ∷ own) all paid =
    sdu_back d role list one all.0 (sdus_back d role (list ++ one ∷ []) own all.1 (subst (λ (xs : List Passed). Paid d role (frames xs)) (sym (append_assoc list (one ∷ []) own)) paid))

-- ---- one saying less

all_own : (party : Party) (octets : List (List ℕ)) → AllByRecursion (IsOwn party.role) (map (passed party) (map (spoken_as Out) octets))
all_own party [] = tt
all_own party (one ∷ rest) = (refl, all_own party rest)

own_both : (role : Role) (xs ys : List Passed) → AllByRecursion (IsOwn role) xs → AllByRecursion (IsOwn role) ys → AllByRecursion (IsOwn role) (xs ++ ys)
own_both role [] ys one two = two
own_both role (x ∷ xs) ys one two = (one.0, own_both role xs ys one.1 two)

abbrev out_carriage : List ℕ → Carriage
out_carriage pdu = record { flow = Out; pdu = pdu }

-- what goes out on it is the host's own
goes_own : (party : Party) (mode : Mode) (ears : Ears) (pdu : List ℕ) (here : Bool) → AllByRecursion (IsOwn party.role) (map (passed party) (spoken_from party mode ears (cond here (out_carriage pdu ∷ []) [])))
goes_own party mode ears pdu true =
    subst (λ (xs : List Spoken). AllByRecursion (IsOwn party.role) (map (passed party) xs)) (sym (append-nil (map (spoken_as Out) (sdus_with (longest party Out) mode (ear_of Out ears) pdu))))
    (all_own party (sdus_with (longest party Out) mode (ear_of Out ears) pdu))
goes_own party mode ears pdu false = tt

abbrev behind : Party → Channel → List Saying → Saying → List Spoken
behind party channel said more = spoken_from party (mode_of channel said) (ears_so_far party (stretch channel said)) (carried is_heard channel said more)

says_own : (party : Party) (channel : Channel) (said : List Saying) (more : Saying) → IsSaidOut more → AllByRecursion (IsOwn party.role) (map (passed party) (behind party channel said more))
says_own party channel said (Command Out answer) out = tt
says_own party channel said (Command Into answer) out = absurd out
says_own party channel said (Carried Out pdu) out = goes_own party (mode_of channel said) (ears_so_far party (stretch channel said)) pdu (is_on channel (taker is_heard Out pdu (reading said).entries))
says_own party channel said (Carried Into pdu) out = absurd out
says_own party channel said (GaveUp forgone) out = tt

saying_back : (party : Party) (channel : Channel) (said : List Saying) (more : Saying) → IsSaidOut more → IsCoveredOn party channel (said ++ more ∷ []) → IsCoveredOn party channel said
saying_back party channel said more out covered =
    let list : List Passed = map (passed party) (spoken party channel said) in
    let own : List Passed = map (passed party) (behind party channel said more) in
    let same : map (passed party) (spoken party channel (said ++ more ∷ [])) ≡ list ++ own =
    ap (map (passed party)) (spoken-more party channel said more) ∙ map-append (passed party) (spoken party channel said) (behind party channel said more) in
    paid_covers party.dlci party.role list (sdus_back party.dlci party.role list own (says_own party channel said more out) (subst (λ (xs : List Passed). Paid party.dlci party.role (frames xs)) same covered.covered))

pub earlier-is_covered : EarlierIsCovered
earlier-is_covered party channel said [] out covered = subst (IsCoveredOn party channel) (append-nil said) covered
earlier-is_covered party channel said (more ∷ last) out covered =
    saying_back party channel said more out.0 (earlier-is_covered party channel (said ++ more ∷ []) last out.1 (subst (IsCoveredOn party channel) (sym (append_assoc said (more ∷ []) last)) covered))

-- ---- the credits of a talk

abbrev HoldsOn : Party → List Saying → Option Channel → Type 0
HoldsOn party said found = (left : ℕ) × (credits_on party said found ≡ pos left)

either_holds : (party : Party) (said : List Saying) (found : Option Channel) (one : Channel) → HoldsOn party said found → HoldsOn party said (Some one) → HoldsOn party said (option_or found (Some one))
either_holds party said None one rest here = here
either_holds party said (Some other) one rest here = rest

last_holds : (party : Party) (said : List Saying) (channels : List Channel) → AllByRecursion (λ (channel : Channel). HoldsOn party said (Some channel)) channels → HoldsOn party said (last_of channels)
last_holds party said [] all = (0, refl)
last_holds party said (one ∷ rest) all = either_holds party said (last_of rest) one (last_holds party said rest all.1) all.0

-- of one that its host has not closed
abbrev pub Covers : Party → List Saying → Entry → Type 0
Covers party said entry = entry.channel.psm ≡ 0x0003 → is_alive entry.life ≡ true → IsCoveredOn party entry.channel said

carried_hold : (party : Party) (said : List Saying) (entries : List Entry) → AllByRecursion (Covers party said) entries → AllByRecursion (λ (channel : Channel). HoldsOn party said (Some channel)) (filter_map carries_rfcomm entries)
carried_hold party said [] all = tt
carried_hold party said (entry ∷ rest) all = by (entry.channel.psm == 0x0003) (is_alive entry.life) refl refl (carried_hold party said rest all.1)
  where
    by : (mine alive : Bool) → (entry.channel.psm == 0x0003) ≡ mine → is_alive entry.life ≡ alive → AllByRecursion (λ (channel : Channel). HoldsOn party said (Some channel)) (filter_map carries_rfcomm rest)
        → AllByRecursion (λ (channel : Channel). HoldsOn party said (Some channel)) (cons_option (cond (mine && alive) (Some entry.channel) None) (filter_map carries_rfcomm rest))
    by true true is lives later = let covered = all.0 (eqb-true entry.channel.psm 0x0003 is) lives in ((covered.left, covered.held), later)
    by true false is lives later = later
    by false alive is lives later = later

pub alive-hold_some : (party : Party) (said : List Saying) → AllByRecursion (Covers party said) (reading said).entries → HoldsSome party said
alive-hold_some party said all =
    let held = last_holds party said (filter_map carries_rfcomm (reading said).entries) (carried_hold party said (reading said).entries all) in
    record { left = held.0; held = held.1 }

pub covered-hold_some : CoveredHoldSome
covered-hold_some party said all = alive-hold_some party said (each (reading said).entries all)
  where
    each : (entries : List Entry) → AllByRecursion (λ (entry : Entry). entry.channel.psm ≡ 0x0003 → IsCoveredOn party entry.channel said) entries → AllByRecursion (Covers party said) entries
    each [] all' = tt
    each (entry ∷ rest) all' = ((λ psm alive. all'.0 psm), each rest all'.1)
