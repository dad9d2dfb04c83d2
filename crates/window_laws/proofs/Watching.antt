-- One turn at either of two hosts, and the ReqSeq values that come in at one of them.
use Rattle.std.proofs.Common.{◌≡◌, ℕ, ◌+◌, ◌≤◌, List, [], ◌∷◌, ◌++◌, length, Bool, true, false, cond, eqb, Option, Some, None, inl, inr, ◌⊎◌, refl, sym, ap, subst, arith}
use Rattle.own_channel_laws.specs.talk_laws.specs.acl_fragments.specs.Pieces.{channel_of}
use Rattle.own_channel_laws.specs.talk_laws.specs.capture.specs.Histories.{AtEach}
use Rattle.own_channel_laws.specs.talk_laws.specs.capture.proofs.HistoryLaws.{at_each-more, at_each-whole}
use Rattle.own_channel_laws.specs.talk_laws.specs.ertm_frames.specs.Picking.{Passage, Out as Gave, In}
use Rattle.own_channel_laws.specs.talk_laws.specs.link_talk.specs.declared.channel.Channel.{Channel}
use Rattle.own_channel_laws.specs.talk_laws.specs.link_talk.specs.declared.party.Party.{Party}
use Rattle.own_channel_laws.specs.talk_laws.specs.link_talk.specs.Sayings.{Saying}
use Rattle.own_channel_laws.specs.talk_laws.specs.link_talk.specs.Accounts.{frames_passed}
use Rattle.own_channel_laws.specs.talk_laws.specs.link_talk.specs.Picks.{pick}
use Rattle.own_channel_laws.specs.channel_model.specs.Value.{Channels}
use Rattle.own_channel_laws.specs.channel_model.specs.Giving.{Given, next_given}
use Rattle.own_channel_laws.specs.channel_model.specs.Calls.{has_fcs}
use Rattle.own_channel_laws.specs.Frames.{IsSpelled, IsUttered}
use Rattle.own_channel_laws.specs.Runs.{Occurrence, Comes, Gives, said_as, said_in, value_after}
use Rattle.own_channel_laws.proofs.Frames.{RunPasses}
use Rattle.channel_laws.specs.Common.{mirrored}
use Rattle.channel_laws.specs.Ends.{DoesSo}
use Rattle.channel_laws.specs.Pairs.{Pair, Happening, Acts, Puts, Takes, Repeats, Loses, Damages, is_alone, occurs, with_near, puts, let_go, takes_first, repeats_first, loses_first, damages_first, happens_near, turned}
use Rattle.channel_laws.specs.Pipes.{IsSeen, IsAddressed, IsCarried}
use Rattle.channel_laws.proofs.Conveying.{under-else, under-here, Speaks}
use Rattle.channel_laws.proofs.Joining.{Terms}
use Rattle.channel_laws.proofs.Piped.{under_way, Piped}
use Rattle.window_laws.specs.Numbers.{Numbers, numbers_of, LastIsTaken}
use Rattle.window_laws.proofs.Climbing.{Kept, kept-behind, kept-spent, kept-gave, kept-took, kept-heard, kept-given, taken-out}
use Rattle.window_laws.proofs.Growing.{acts-same, GivenSo, gives-grow, HeardSo, first-grows, damaged-same, heard-bound}
use Rattle.window_laws.proofs.Numbers.{numbers-more}
use Rattle.window_laws.proofs.Spent.{Spent, spent-on}

-- what is kept of the near host of a pair, and what is so at each moment
abbrev pub Watched : Party → Channel → Pair → Type 0
Watched party channel pair =
    Kept (Spent pair.far.policy channel.peer pair.far.run.value) (frames_passed party channel pair.near.run.said) (frames_passed party (mirrored channel) pair.far.run.said) (under_way channel.own pair.near.coming)
    × AtEach LastIsTaken (frames_passed party channel pair.near.run.said)

module _ (party : Party) (t : Terms) (channel : Channel) (pair : Pair) (frame_is : t.mine.receive_mps ≡ party.frame) (speaks : Speaks t.mine party channel pair) (passes : RunPasses pair.near.policy party channel pair.near.run) (h : Piped party t channel pair) where
  abbrev v : Channels
  v = pair.near.run.value

  abbrev past : List Saying
  past = pair.near.run.said

  abbrev frames : List Passage
  frames = frames_passed party channel past

  -- ---- the host that is watched

  abbrev theirs : List Passage
  theirs = frames_passed party (mirrored channel) pair.far.run.said

  abbrev On : List Passage → List (List ℕ) → Type 0
  On mine under = Kept (Spent pair.far.policy channel.peer pair.far.run.value) mine theirs under × AtEach LastIsTaken mine

  -- the first PDU that is under way is gone
  pop : (mine : List Passage) (pdu : List ℕ) (coming : List (List ℕ)) → On mine (under_way channel.own (pdu ∷ coming)) → On mine (under_way channel.own coming)
  pop mine pdu coming on = by (eqb (channel_of pdu) channel.own) on
    where
      by : (here : Bool) → On mine (cond here (pdu ∷ under_way channel.own coming) (under_way channel.own coming)) → On mine (under_way channel.own coming)
      by true (kept, each) = (kept-behind (Spent pair.far.policy channel.peer pair.far.run.value) mine theirs pdu (under_way channel.own coming) kept, each)
      by false on = on

  -- it is heard
  hears_on : (pdu : List ℕ) (coming : List (List ℕ)) → HeardSo party t channel pair frame_is speaks passes h pdu → On frames (under_way channel.own (pdu ∷ coming)) → On (frames_passed party channel (past ++ said_in pair.near.policy (Comes pdu) v)) (under_way channel.own (pdu ∷ coming))
  hears_on pdu coming (inl same) on = subst (λ fs. On fs (under_way channel.own (pdu ∷ coming))) (sym same) on
  hears_on pdu coming (inr heard) on =
      subst (λ fs. On fs (under_way channel.own (pdu ∷ coming))) (sym heard.grown)
      (subst (On (frames ++ In heard.sent.frame ∷ [])) (sym first) (by (subst (On frames) first on)))
    where
      first : under_way channel.own (pdu ∷ coming) ≡ pdu ∷ under_way channel.own coming
      first = ap (λ b. cond b (pdu ∷ under_way channel.own coming) (under_way channel.own coming)) heard.here

      by : On frames (pdu ∷ under_way channel.own coming) → On (frames ++ In heard.sent.frame ∷ []) (pdu ∷ under_way channel.own coming)
      by (kept, each) =
          let (taken, after) = kept-took (Spent pair.far.policy channel.peer pair.far.run.value) frames theirs pdu heard.sent.frame (under_way channel.own coming) heard.reads kept in
          (after, at_each-more LastIsTaken frames (In heard.sent.frame) each taken)

  gives_on : (given : Given) (pdu : List ℕ) → GivenSo party t channel pair frame_is speaks passes h given pdu → On frames (under_way channel.own pair.near.coming) → On (frames_passed party channel (past ++ said_as (Some given) pdu)) (under_way channel.own pair.near.coming)
  gives_on given pdu (inl (same, away)) on = subst (λ fs. On fs (under_way channel.own pair.near.coming)) (sym same) on
  gives_on given pdu (inr grew) (kept, each) =
      subst (λ fs. On fs (under_way channel.own pair.near.coming)) (sym grew.grown) (
        kept-gave (Spent pair.far.policy channel.peer pair.far.run.value) frames theirs grew.frame (under_way channel.own pair.near.coming) grew.holds kept,
        at_each-more LastIsTaken frames (Gave grew.frame) each (taken-out frames grew.frame (at_each-whole LastIsTaken frames each)),
      )

  pub near-watched : (happening : Happening) → DoesSo IsUttered happening pair.near → IsCarried happening pair.near → Watched party channel pair → Watched party channel (happens_near happening pair)
  near-watched (Acts occurrence) uttered carried on = by (is_alone occurrence) refl
    where
      by : (alone : Bool) → is_alone occurrence ≡ alone → Watched party channel (cond alone (with_near (occurs occurrence pair.near) pair) pair)
      by true is = subst (λ fs. On fs (under_way channel.own pair.near.coming)) (sym (acts-same party t channel pair frame_is speaks passes h occurrence is uttered)) on
      by false is = on
  near-watched (Puts pdu) uttered carried on = by (next_given v) refl uttered carried
    where
      by : (given : Option Given) → next_given v ≡ given → IsSpelled given pdu → IsAddressed given pdu → Watched party channel (puts given pdu pair)
      by None is spelled addressed = on
      by (Some given) is spelled addressed =
          subst (λ o. On (frames_passed party channel (past ++ said_as o pdu)) (under_way channel.own pair.near.coming)) (sym is)
          (gives_on given pdu (gives-grow party t channel pair frame_is speaks passes h given pdu is spelled addressed) on)
  near-watched Takes uttered carried on = by pair.near.coming refl
    where
      by : (coming : List (List ℕ)) → pair.near.coming ≡ coming → Watched party channel (with_near (takes_first coming pair.near) pair)
      by [] is = on
      by (pdu ∷ coming) is =
          pop (frames_passed party channel (past ++ said_in pair.near.policy (Comes pdu) v)) pdu coming
          (hears_on pdu coming (first-grows party t channel pair frame_is speaks passes h pdu coming is) (subst (λ cs. On frames (under_way channel.own cs)) is on))
  near-watched Repeats uttered carried on = by pair.near.coming refl
    where
      by : (coming : List (List ℕ)) → pair.near.coming ≡ coming → Watched party channel (with_near (repeats_first coming pair.near) pair)
      by [] is = on
      by (pdu ∷ coming) is =
          subst (λ cs. On (frames_passed party channel (past ++ said_in pair.near.policy (Comes pdu) v)) (under_way channel.own cs)) (sym is)
          (hears_on pdu coming (first-grows party t channel pair frame_is speaks passes h pdu coming is) (subst (λ cs. On frames (under_way channel.own cs)) is on))
  near-watched Loses uttered carried on = by pair.near.coming refl
    where
      by : (coming : List (List ℕ)) → pair.near.coming ≡ coming → Watched party channel (with_near (loses_first coming pair.near) pair)
      by [] is = on
      by (pdu ∷ coming) is = pop frames pdu coming (subst (λ cs. On frames (under_way channel.own cs)) is on)
  near-watched (Damages other) uttered carried on = by pair.near.coming refl carried
    where
      lost : (pdu : List ℕ) (coming : List (List ℕ)) (checked : Bool) → pair.near.coming ≡ pdu ∷ coming → IsSeen (pdu ∷ coming) other → Watched party channel (with_near (cond checked (occurs (Comes other) (let_go coming pair.near)) (let_go coming pair.near)) pair)
      lost pdu coming true is seen =
          subst (λ fs. On fs (under_way channel.own coming)) (sym (damaged-same party t channel pair frame_is speaks passes h pdu other coming seen)) (pop frames pdu coming (subst (λ cs. On frames (under_way channel.own cs)) is on))
      lost pdu coming false is seen = pop frames pdu coming (subst (λ cs. On frames (under_way channel.own cs)) is on)

      by : (coming : List (List ℕ)) → pair.near.coming ≡ coming → IsSeen coming other → Watched party channel (with_near (damages_first other coming pair.near) pair)
      by [] is seen = on
      by (pdu ∷ coming) is seen = lost pdu coming (has_fcs (channel_of pdu) v) is seen

  -- ---- the other host is watched

  abbrev mine : List Passage
  mine = frames_passed party (mirrored channel) pair.far.run.said

  abbrev Gone : Channels → Type 0
  Gone w = Spent pair.near.policy channel.own w

  abbrev Beside : List Passage → List (List ℕ) → Channels → Type 0
  Beside heard under w = Kept (Gone w) mine heard under

  abbrev under : List (List ℕ)
  under = under_way channel.peer pair.far.coming

  after : (more : Occurrence) → Gone v → Gone (value_after pair.near.policy more v)
  after more = spent-on pair.near.policy channel.own more v speaks.sound.core.lone

  same_beside : (more : Occurrence) (heard : List Passage) → heard ≡ frames → Beside frames under v → Beside heard under (value_after pair.near.policy more v)
  same_beside more heard same kept = subst (λ fs. Beside fs under (value_after pair.near.policy more v)) (sym same) (kept-spent (Gone v) mine frames (Gone (value_after pair.near.policy more v)) under (after more) kept)

  -- it heard something
  hears_beside : (pdu : List ℕ) → HeardSo party t channel pair frame_is speaks passes h pdu → Beside frames under v → Beside (frames_passed party channel (past ++ said_in pair.near.policy (Comes pdu) v)) under (value_after pair.near.policy (Comes pdu) v)
  hears_beside pdu (inl same) kept = same_beside (Comes pdu) (frames_passed party channel (past ++ said_in pair.near.policy (Comes pdu) v)) same kept
  hears_beside pdu (inr heard) kept =
      subst (λ fs. Beside fs under (value_after pair.near.policy (Comes pdu) v)) (sym heard.grown)
      (kept-heard (Gone v) mine frames (frames ++ In heard.sent.frame ∷ []) under (Gone (value_after pair.near.policy (Comes pdu) v)) (omega (arith, more)) (λ was. by (heard-bound party t channel pair frame_is speaks passes h heard.sent heard.rest under heard.first was)) kept)
    where
      more : (numbers_of (frames ++ In heard.sent.frame ∷ [])).accepted ≡ (numbers_of frames).accepted + length (pick (numbers_of frames).accepted heard.sent.frame)
      more = ap (λ (m : Numbers). m.accepted) (numbers-more frames (In heard.sent.frame))

      by : Gone v ⊎ ((numbers_of frames).accepted + length (pick (numbers_of frames).accepted heard.sent.frame) ≤ (numbers_of mine).given) → Gone (value_after pair.near.policy (Comes pdu) v) ⊎ ((numbers_of (frames ++ In heard.sent.frame ∷ [])).accepted ≤ (numbers_of mine).given)
      by (inl gone) = inl (after (Comes pdu) gone)
      by (inr le) = inr (omega (arith, le, more))

  -- it gave something
  gives_beside : (given : Given) (pdu : List ℕ) → GivenSo party t channel pair frame_is speaks passes h given pdu → Beside frames under v
      → Beside (frames_passed party channel (past ++ said_as (Some given) pdu)) (under_way channel.peer (pair.far.coming ++ pdu ∷ [])) (value_after pair.near.policy (Gives pdu) v)
  gives_beside given pdu (inl (same, away)) kept =
      subst (λ cs. Beside (frames_passed party channel (past ++ said_as (Some given) pdu)) cs (value_after pair.near.policy (Gives pdu) v)) (sym (under-else channel.peer pair.far.coming pdu away))
      (same_beside (Gives pdu) (frames_passed party channel (past ++ said_as (Some given) pdu)) same kept)
  gives_beside given pdu (inr grew) kept =
      subst (λ cs. Beside (frames_passed party channel (past ++ said_as (Some given) pdu)) cs (value_after pair.near.policy (Gives pdu) v)) (sym (under-here channel.peer pair.far.coming pdu grew.to))
      (subst (λ fs. Beside fs (under ++ pdu ∷ []) (value_after pair.near.policy (Gives pdu) v)) (sym grew.grown)
      (kept-heard (Gone v) mine frames (frames ++ Gave grew.frame ∷ []) (under ++ pdu ∷ []) (Gone (value_after pair.near.policy (Gives pdu) v)) (omega (arith, same)) (λ was. by was.counts)
      (kept-given (Gone v) mine frames pdu grew.frame under grew.unspent grew.reads grew.asks kept)))
    where
      same : (numbers_of (frames ++ Gave grew.frame ∷ [])).accepted ≡ (numbers_of frames).accepted
      same = ap (λ (m : Numbers). m.accepted) (numbers-more frames (Gave grew.frame))

      by : Gone v ⊎ ((numbers_of frames).accepted ≤ (numbers_of mine).given) → Gone (value_after pair.near.policy (Gives pdu) v) ⊎ ((numbers_of (frames ++ Gave grew.frame ∷ [])).accepted ≤ (numbers_of mine).given)
      by (inl gone) = inl (after (Gives pdu) gone)
      by (inr le) = inr (omega (arith, le, same))

  pub far-watched : (happening : Happening) → DoesSo IsUttered happening pair.near → IsCarried happening pair.near → Watched party (mirrored channel) (turned pair) → Watched party (mirrored channel) (turned (happens_near happening pair))
  far-watched (Acts occurrence) uttered carried (kept, each) = by (is_alone occurrence) refl
    where
      by : (alone : Bool) → is_alone occurrence ≡ alone → Watched party (mirrored channel) (turned (cond alone (with_near (occurs occurrence pair.near) pair) pair))
      by true is = (same_beside occurrence (frames_passed party channel (past ++ said_in pair.near.policy occurrence v)) (acts-same party t channel pair frame_is speaks passes h occurrence is uttered) kept, each)
      by false is = (kept, each)
  far-watched (Puts pdu) uttered carried (kept, each) = by (next_given v) refl uttered carried
    where
      by : (given : Option Given) → next_given v ≡ given → IsSpelled given pdu → IsAddressed given pdu → Watched party (mirrored channel) (turned (puts given pdu pair))
      by None is spelled addressed = (kept, each)
      by (Some given) is spelled addressed = (
        subst (λ o. Beside (frames_passed party channel (past ++ said_as o pdu)) (under_way channel.peer (pair.far.coming ++ pdu ∷ [])) (value_after pair.near.policy (Gives pdu) v)) (sym is)
            (gives_beside given pdu (gives-grow party t channel pair frame_is speaks passes h given pdu is spelled addressed) kept),
        each,
      )
  far-watched Takes uttered carried (kept, each) = by pair.near.coming refl
    where
      by : (coming : List (List ℕ)) → pair.near.coming ≡ coming → Watched party (mirrored channel) (turned (with_near (takes_first coming pair.near) pair))
      by [] is = (kept, each)
      by (pdu ∷ coming) is = (hears_beside pdu (first-grows party t channel pair frame_is speaks passes h pdu coming is) kept, each)
  far-watched Repeats uttered carried (kept, each) = by pair.near.coming refl
    where
      by : (coming : List (List ℕ)) → pair.near.coming ≡ coming → Watched party (mirrored channel) (turned (with_near (repeats_first coming pair.near) pair))
      by [] is = (kept, each)
      by (pdu ∷ coming) is = (hears_beside pdu (first-grows party t channel pair frame_is speaks passes h pdu coming is) kept, each)
  far-watched Loses uttered carried (kept, each) = by pair.near.coming
    where
      by : (coming : List (List ℕ)) → Watched party (mirrored channel) (turned (with_near (loses_first coming pair.near) pair))
      by [] = (kept, each)
      by (pdu ∷ coming) = (kept, each)
  far-watched (Damages other) uttered carried (kept, each) = by pair.near.coming carried
    where
      lost : (pdu : List ℕ) (coming : List (List ℕ)) (checked : Bool) → IsSeen (pdu ∷ coming) other → Watched party (mirrored channel) (turned (with_near (cond checked (occurs (Comes other) (let_go coming pair.near)) (let_go coming pair.near)) pair))
      lost pdu coming true seen = (same_beside (Comes other) (frames_passed party channel (past ++ said_in pair.near.policy (Comes other) v)) (damaged-same party t channel pair frame_is speaks passes h pdu other coming seen) kept, each)
      lost pdu coming false seen = (kept, each)

      by : (coming : List (List ℕ)) → IsSeen coming other → Watched party (mirrored channel) (turned (with_near (damages_first other coming pair.near) pair))
      by [] seen = (kept, each)
      by (pdu ∷ coming) seen = lost pdu coming (has_fcs (channel_of pdu) v) seen
