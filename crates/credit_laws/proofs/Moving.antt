-- Where the own talk of a host covers what it spent, so does what moved, whatever it gave up.
use Rattle.std.proofs.Common.{◌≡◌, ℕ, Bool, true, false, cond, List, [], ◌∷◌, ◌++◌, map, Option, Some, None, refl, sym, ap, ap₂, subst, ◌∙◌, inl, inr, eqb, append_assoc, append-nil, arith}
use Rattle.std.specs.List.{AllByRecursion}
use Rattle.std.proofs.lemmas.Bool.{eqb-true}
use Rattle.std.proofs.lemmas.List.{map-append}
use Rattle.inbox_laws.specs.acl_fragments.specs.Pieces.{channel_of}
use Rattle.inbox_laws.specs.capture.specs.Histories.{each_after}
use Rattle.inbox_laws.specs.capture.specs.declared.flow.Flow.{Flow}
use Rattle.inbox_laws.specs.capture.specs.declared.flow.Flow.TheVariants.{Out, Into}
use Rattle.inbox_laws.specs.l2cap_config.specs.declared.wish.Mode.{Mode}
use Rattle.inbox_laws.specs.rfcomm_frames.specs.FrameReading.{frame_answer}
use Rattle.inbox_laws.specs.rfcomm_frames.specs.Multiplexing.{frames}
use Rattle.inbox_laws.specs.rfcomm_frames.specs.UserChannel.{credits_held}
use Rattle.inbox_laws.specs.link_talk.specs.declared.channel.Channel.{Channel}
use Rattle.inbox_laws.specs.link_talk.specs.declared.party.Party.{Party}
use Rattle.inbox_laws.specs.link_talk.specs.Carriages.{Carriage, is_heard, takes, taker, is_on, carried, stretch, has_own, entry_mode, mode_of}
use Rattle.inbox_laws.specs.link_talk.specs.Channels.{Entry, is_alive, reading}
use Rattle.inbox_laws.specs.link_talk.specs.Packets.{passed}
use Rattle.inbox_laws.specs.link_talk.specs.Sayings.{Saying, Command, Carried, GaveUp}
use Rattle.inbox_laws.specs.link_talk.specs.Sdus.{Spoken, spoken_as, spoken_with, sdus_of, spoken}
use Rattle.inbox_laws.specs.link_talk.specs.Gains.{gained}
use Rattle.inbox_laws.specs.link_talk.proofs.Growing.{stretch-grows}
use Rattle.inbox_laws.specs.talk_laws.proofs.Owning.{alone, found_passes, some_is}
use Rattle.inbox_laws.specs.talk_laws.proofs.Passes.{from_end}
use Rattle.inbox_laws.specs.channel_laws.specs.Endpoints.{IsOf}
use Rattle.inbox_laws.specs.channel_laws.specs.Signals.{StandsIn}
use Rattle.inbox_laws.specs.channel_laws.specs.Views.{read_at}
use Rattle.inbox_laws.specs.channel_laws.proofs.Both.{and-right}
use Rattle.inbox_laws.specs.channel_laws.proofs.Entries.{read-own}
use Rattle.inbox_laws.specs.channel_laws.proofs.Origins.{Origin, entries-from}
use Rattle.inbox_laws.specs.channel_laws.proofs.Saying.{stands-left, stands-right}
use Rattle.inbox_laws.specs.host_laws.specs.Seen.{spoken_of}
use Rattle.inbox_laws.specs.host_laws.proofs.Gaining.{found_in}
use Rattle.request_laws.proofs.Feeding.{all_both}
use Rattle.credit_laws.specs.Moved.{IsSole, GoesOver, IsCarriedOver, MovedHoldSome}
use Rattle.credit_laws.specs.Seen.{IsCoveredOn, AreCovered, IsSaidOut, HoldsSome}
use Rattle.credit_laws.proofs.Meant.{sole_ahead, origin_within, stands_spoken}
use Rattle.credit_laws.proofs.Forgoing.{Same, NoneYet, Stays, Ended, Forgoes, keeps-all, never_comes, found_from}
use Rattle.credit_laws.proofs.Parts.{are_earlier}
use Rattle.credit_laws.proofs.Paying.{Paid, heard_more, frames_more, paid_covers}
use Rattle.credit_laws.proofs.Seeing.{Covers, alive-hold_some}
use Rattle.credit_laws.proofs.Each.{all_found, each_with}

-- ---- what only comes in grants

abbrev IsSpokenInto : Spoken → Type 0
IsSpokenInto one = one.flow ≡ Into

abbrev IsInto : Carriage → Type 0
IsInto one = one.flow ≡ Into

all_said_so : (flow : Flow) (octets : List (List ℕ)) → flow ≡ Into → AllByRecursion IsSpokenInto (map (spoken_as flow) octets)
all_said_so flow [] is = tt
all_said_so flow (one ∷ octets) is = (is, all_said_so flow octets is)

into_spoken : (party : Party) (mode : Mode) (past carriages : List Carriage) → AllByRecursion IsInto carriages → AllByRecursion IsSpokenInto (each_after (spoken_with party mode) past carriages)
into_spoken party mode past [] all = tt
into_spoken party mode past (one ∷ rest) all =
    all_both IsSpokenInto (spoken_with party mode past one) (each_after (spoken_with party mode) (past ++ one ∷ []) rest) (all_said_so one.flow (gained (sdus_of party mode one.flow) past one) all.0)
    (into_spoken party mode (past ++ one ∷ []) rest all.1)

module _ (party : Party) where
  abbrev IsPaid : List Spoken → Type 0
  IsPaid list = Paid party.dlci party.role (frames (map (passed party) list))

  into_paid : (list : List Spoken) → AllByRecursion IsSpokenInto list → IsPaid list
  into_paid = from_end (λ list. AllByRecursion IsSpokenInto list → IsPaid list) (λ all. omega arith) step
    where
      ahead : (xs : List Spoken) (x : Spoken) → AllByRecursion IsSpokenInto (xs ++ x ∷ []) → AllByRecursion IsSpokenInto xs × IsSpokenInto x
      ahead [] x all = (tt, all.0)
      ahead (y ∷ xs) x all = let rest = ahead xs x all.1 in ((all.0, rest.0), rest.1)

      step : (list : List Spoken) (one : Spoken) → (AllByRecursion IsSpokenInto list → IsPaid list) → AllByRecursion IsSpokenInto (list ++ one ∷ []) → IsPaid (list ++ one ∷ [])
      step list one before all =
          let parts = ahead list one all in
          let fs = frames (map (passed party) list) in
          subst (Paid party.dlci party.role)
          (ap (λ flow. let x : Spoken = record { flow = flow; octets = one.octets } in fs ++ frames (passed party x ∷ [])) (sym parts.1)
          ∙ (sym (frames_more (map (passed party) list) (passed party one ∷ [])) ∙ ap frames (sym (map-append (passed party) list (one ∷ [])))))
          (heard_more party.dlci party.role fs (frame_answer one.octets) (before parts.0))

  -- ---- a talk, up to what it says last, and what moved

  module _ (whole front back : List Saying) (is : whole ≡ front ++ back) (out : AllByRecursion IsSaidOut back) (sole : (own : ℕ) → IsSole own whole) (over : AllByRecursion (IsCarriedOver whole) whole) where
    abbrev moved : List Saying
    moved = spoken_of front

    sole_front : (own : ℕ) → IsSole own front
    sole_front own = sole_ahead own front back (subst (IsSole own) is (sole own))

    within : (past rest : List Saying) → spoken_of front ≡ past ++ rest → (s : Saying) → StandsIn s past → StandsIn s whole
    within past rest is_moved s stands = subst (StandsIn s) (sym is) (stands-left s front back (stands_spoken front s (subst (StandsIn s) (sym is_moved) (stands-left s past rest stands))))

    stands_all : (list : List Saying) → AllByRecursion (IsCarriedOver whole) list → (s : Saying) → StandsIn s list → IsCarriedOver whole s
    stands_all [] all s stands = absurd stands
    stands_all (x ∷ list) all s (inl same) = subst (IsCarriedOver whole) same all.0
    stands_all (x ∷ list) all s (inr there) = stands_all list all.1 s there

    -- nothing goes out on a channel that the host never has
    module _ (channel : Channel) (none : read_at channel.own (reading whole).entries ≡ None) where
      never_on : (past rest : List Saying) (pdu : List ℕ) → spoken_of front ≡ past ++ Carried Out pdu ∷ rest → (found : Option Entry) → taker is_heard Out pdu (reading past).entries ≡ found → is_on channel found ≡ false
      never_on past rest pdu is_moved None at = refl
      never_on past rest pdu is_moved (Some entry) at = by (has_own channel entry) refl
        where
          it : Saying
          it = Carried Out pdu

          by : (mine : Bool) → has_own channel entry ≡ mine → mine ≡ false
          by false away = refl
          by true mine =
              let stands : StandsIn it whole = subst (StandsIn it) (sym is) (stands-left it front back (stands_spoken front it (subst (StandsIn it) (sym is_moved) (stands-right it past (it ∷ rest) (inl refl))))) in
              let goes : GoesOver whole (channel_of pdu) = stands_all whole over it stands in
              let named : entry.channel.peer ≡ channel_of pdu = eqb-true entry.channel.peer (channel_of pdu) (and-right (is_heard Out entry) (eqb entry.channel.peer (channel_of pdu)) (found_passes (takes is_heard Out (channel_of pdu)) (reading past).entries entry at)) in
              let from : Origin whole entry.channel = origin_within past whole (within past (it ∷ rest) is_moved) entry.channel (found_from past Out pdu entry at) in
              absurd (held goes.channel goes.own (read_at goes.own (reading whole).entries) refl goes.is (sym goes.named ∙ sym named) from (eqb-true entry.channel.own channel.own mine))
            where
              held : (other : Channel) (own : ℕ) (found : Option Entry) → read_at own (reading whole).entries ≡ found → IsOf other found → other.peer ≡ entry.channel.peer → Origin whole entry.channel → entry.channel.own ≡ channel.own → ⊥
              held other own None there of peers from mine = of
              held other own (Some x) there of peers from mine =
                  let origin : Origin whole other = subst (Origin whole) of (entries-from whole own x there) in
                  let owns : other.own ≡ entry.channel.own = (sole own).apart other entry.channel origin from peers in
                  let here : own ≡ channel.own = sym (read-own own (reading whole).entries x there) ∙ (ap (λ (c : Channel). c.own) of ∙ (owns ∙ mine)) in
                  let never : None ≡ Some x = sym none ∙ (ap (λ n. read_at n (reading whole).entries) (sym here) ∙ there) in absurd cc

      one_into : (past rest : List Saying) (more : Saying) → spoken_of front ≡ past ++ more ∷ rest → AllByRecursion IsInto (carried is_heard channel past more)
      one_into past rest (Command flow answer) is_moved = tt
      one_into past rest (Carried Out pdu) is_moved =
          let one : Carriage = record { flow = Out; pdu = pdu } in
          subst (λ b. AllByRecursion IsInto (cond b (one ∷ []) [])) (sym (never_on past rest pdu is_moved (taker is_heard Out pdu (reading past).entries) refl)) tt
      one_into past rest (Carried Into pdu) is_moved = by (is_on channel (taker is_heard Into pdu (reading past).entries))
        where
          by : (here : Bool) → (let one : Carriage = record { flow = Into; pdu = pdu } in AllByRecursion IsInto (cond here (one ∷ []) []))
          by true = (refl, tt)
          by false = tt
      one_into past rest (GaveUp forgone) is_moved = tt

      all_into : (past rest : List Saying) → spoken_of front ≡ past ++ rest → AllByRecursion IsInto (stretch channel past) → AllByRecursion IsInto (stretch channel (spoken_of front))
      all_into past [] is_moved all = subst (λ (l : List Saying). AllByRecursion IsInto (stretch channel l)) (sym (is_moved ∙ append-nil past)) all
      all_into past (more ∷ rest) is_moved all =
          all_into (past ++ more ∷ []) rest (is_moved ∙ sym (append_assoc past (more ∷ []) rest))
          (subst (AllByRecursion IsInto) (sym (stretch-grows channel past more)) (all_both IsInto (stretch channel past) (carried is_heard channel past more) all (one_into past rest more is_moved)))

      never-covered : IsCoveredOn party channel (spoken_of front)
      never-covered =
          let list = spoken party channel moved in
          paid_covers party.dlci party.role (map (passed party) list) (into_paid list (into_spoken party (mode_of channel moved) [] (stretch channel moved) (all_into [] moved refl tt)))

    -- ---- each channel of what moved

    same_covered : (channel : Channel) (entry : Entry) → read_at channel.own (reading front).entries ≡ Some entry → read_at channel.own (reading moved).entries ≡ Some entry → stretch channel front ≡ stretch channel moved
        → IsCoveredOn party channel front → IsCoveredOn party channel (spoken_of front)
    same_covered channel entry at there same covered = record {
      covered = subst (λ (l : List Spoken). IsPaid l) both covered.covered;
      left = covered.left;
      held = ap (λ (l : List Spoken). credits_held party.dlci party.role (map (passed party) l)) (sym both) ∙ covered.held;
    }
      where
        both : spoken party channel front ≡ spoken party channel (spoken_of front)
        both = ap₂ (λ (m : Mode) (cs : List Carriage). each_after (spoken_with party m) [] cs) (ap entry_mode (at ∙ sym there)) same

    entry_covered : AreCovered party front → (entry : Entry) → read_at entry.channel.own (reading (spoken_of front)).entries ≡ Some entry → Covers party (spoken_of front) entry
    entry_covered covered entry found psm alive = by (keeps-all entry.channel front (sole_front entry.channel.own)).same
      where
        by : Same entry.channel front moved (read_at entry.channel.own (reading front).entries) (read_at entry.channel.own (reading moved).entries) → IsCoveredOn party entry.channel (spoken_of front)
        by (NoneYet none also fails) = let never : None ≡ Some entry = sym also ∙ found in absurd cc
        by (Stays other at there same) =
            let one : other ≡ entry = some_is other entry (sym there ∙ found) in
            let here : read_at entry.channel.own (reading front).entries ≡ Some entry = at ∙ ap Some one in
            same_covered entry.channel entry here found same
            (found_in entry.channel.own (λ (e : Entry). e.channel.psm ≡ 0x0003 → IsCoveredOn party e.channel front) (reading front).entries entry covered here psm)
        by (Ended x y at there closed also) =
            let never : true ≡ false = sym alive ∙ (ap (λ (e : Entry). is_alive e.life) (sym (some_is y entry (sym there ∙ found))) ∙ also) in absurd cc
        by (Forgoes identifier none called failed) =
            never-covered entry.channel
            (subst (λ (l : List Saying). read_at entry.channel.own (reading l).entries ≡ None) (sym is) (never_comes entry.channel front back identifier (subst (IsSole entry.channel.own) is (sole entry.channel.own)) none called failed))

    holds : AreCovered party whole → HoldsSome party (spoken_of front)
    holds covered =
        let earlier : AreCovered party front = are_earlier party front back out (subst (AreCovered party) is covered) in
        let found = all_found (reading moved).entries (alone moved) in
        alive-hold_some party moved (each_with (reading moved).entries (λ entry here too. entry_covered earlier entry here) found found)

pub moved-hold_some : MovedHoldSome
moved-hold_some party said last out sole over covered = holds party (said ++ last) said last refl out sole over covered
