-- The ReqSeq values that are under way to a host are those of numbers that rise.
use Rattle.std.proofs.Common.{◌≡◌, ℕ, ◌+◌, ◌%◌, ◌≤◌, List, [], ◌∷◌, ◌++◌, length, Ok, inl, inr, ◌⊎◌, sym, ap, subst, ◌∙◌, arith}
use Rattle.own_channel_laws.specs.talk_laws.specs.ertm_frames.specs.Answers.{Answer, IsWithin}
use Rattle.own_channel_laws.specs.talk_laws.specs.ertm_frames.specs.Frames.{PlainFrame, information, supervisory}
use Rattle.own_channel_laws.specs.talk_laws.specs.ertm_frames.specs.Picking.{Passage, Out, In, ins, req_of, last_req}
use Rattle.own_channel_laws.specs.talk_laws.specs.ertm_frames.specs.Reading.{answer_in}
use Rattle.own_channel_laws.specs.talk_laws.specs.ertm_frames.proofs.Telling.{req-more}
use Rattle.own_channel_laws.specs.talk_laws.specs.link_talk.specs.Picks.{pick}
use Rattle.own_channel_laws.proofs.Passing.{ins_in, ins_out}
use Rattle.channel_laws.proofs.Joining.{Reads}
use Rattle.window_laws.specs.Numbers.{Numbers, acknowledged_with, numbers_of, HoldsAsTaken, LastIsTaken}
use Rattle.window_laws.specs.Windows.{number_from}
use Rattle.window_laws.proofs.Numbers.{numbers-more, acknowledged-with}

-- ---- PDUs that are under way

-- each is read as a frame, whose ReqSeq is that of a number from the one before it on
abbrev pub Climbs : (low high : ℕ) → List (List ℕ) → Type 0
Climbs low high [] = low ≤ high
Climbs low high (pdu ∷ pdus) = (x : ℕ) × (frame : PlainFrame) × (low ≤ x) × Reads pdu frame × (req_of frame ≡ x % 64) × Climbs x high pdus

climbs_end : (low high : ℕ) (pdus : List (List ℕ)) → Climbs low high pdus → low ≤ high
climbs_end low high [] climbs = climbs
climbs_end low high (pdu ∷ pdus) (x, frame, le, reads, req, rest) = let more = climbs_end x high pdus rest in omega (arith, le, more)

climbs_low : (less low high : ℕ) (pdus : List (List ℕ)) → less ≤ low → Climbs low high pdus → Climbs less high pdus
climbs_low less low high [] le climbs = omega (arith, le, climbs)
climbs_low less low high (pdu ∷ pdus) le (x, frame, above, reads, req, rest) = (x, frame, omega (arith, le, above), reads, req, rest)

climbs_more : (low high more : ℕ) (pdus : List (List ℕ)) (pdu : List ℕ) (frame : PlainFrame) → high ≤ more → Reads pdu frame → req_of frame ≡ more % 64 → Climbs low high pdus → Climbs low more (pdus ++ pdu ∷ [])
climbs_more low high more [] pdu frame le reads req climbs = (more, frame, omega (arith, le, climbs), reads, req, omega arith)
climbs_more low high more (first ∷ pdus) pdu frame le reads req (x, other, above, reads_it, req_it, rest) = (x, other, above, reads_it, req_it, climbs_more x high more pdus pdu frame le reads req rest)

abbrev widest : PlainFrame → ℕ
widest (information tx final req sar total octets) = length octets
widest (supervisory kind poll final req) = 0

fits_widest : (frame : PlainFrame) (most : ℕ) → widest frame ≤ most → IsWithin most frame
fits_widest (information tx final req sar total octets) most le = le
fits_widest (supervisory kind poll final req) most le = tt

-- a PDU is read as one frame alone
reads_one : (pdu : List ℕ) (f g : PlainFrame) → Reads pdu f → Reads pdu g → f ≡ g
reads_one pdu f g one other =
    let most = widest f + widest g in
    let here : answer_in most pdu ≡ Ok f = one.1 most (fits_widest f most (omega arith)) in
    let there : answer_in most pdu ≡ Ok g = other.1 most (fits_widest g most (omega arith)) in
    same (answer_in most pdu) here there
  where
    same : (found : Answer) → found ≡ Ok f → found ≡ Ok g → f ≡ g
    same found one other = cc

-- ---- what is kept

-- Of a host and its peer, what passed at either: the frames of the host that are not acknowledged are at most a window; the peer accepted no more than went out, while it may still give
-- something; and the ReqSeq values that are under way to the host rise from what is acknowledged to no more than was accepted and went out.
pub record Kept (Spent : Type 0) (mine theirs : List Passage) (under : List (List ℕ)) : Type 0 where
  pub few : (numbers_of mine).given ≤ (numbers_of mine).acknowledged + 63
  pub counts : Spent ⊎ ((numbers_of theirs).accepted ≤ (numbers_of mine).given)
  pub high : ℕ
  pub climbs : Climbs (numbers_of mine).acknowledged high under
  pub high_accepted : high ≤ (numbers_of theirs).accepted
  pub high_given : high ≤ (numbers_of mine).given

module _ (Spent : Type 0) (mine theirs : List Passage) where
  -- no more is acknowledged than was accepted
  pub kept-above : (under : List (List ℕ)) → Kept Spent mine theirs under → (numbers_of mine).acknowledged ≤ (numbers_of theirs).accepted
  kept-above under h = let above = climbs_end (numbers_of mine).acknowledged h.high under h.climbs in let most = h.high_accepted in omega (arith, above, most)

  pub kept-behind : (pdu : List ℕ) (under : List (List ℕ)) → Kept Spent mine theirs (pdu ∷ under) → Kept Spent mine theirs under
  kept-behind pdu under h =
      let (x, frame, le, reads, req, rest) = h.climbs in
      record { few = h.few; counts = h.counts; high = h.high; climbs = climbs_low (numbers_of mine).acknowledged x h.high under le rest; high_accepted = h.high_accepted; high_given = h.high_given }

  pub kept-spent : (Other : Type 0) (under : List (List ℕ)) → (Spent → Other) → Kept Spent mine theirs under → Kept Other mine theirs under
  kept-spent Other under also h = record { few = h.few; counts = by h.counts; high = h.high; climbs = h.climbs; high_accepted = h.high_accepted; high_given = h.high_given }
    where
      by : Spent ⊎ ((numbers_of theirs).accepted ≤ (numbers_of mine).given) → Other ⊎ ((numbers_of theirs).accepted ≤ (numbers_of mine).given)
      by (inl spent) = inl (also spent)
      by (inr le) = inr le

  -- the host gives a frame
  pub kept-gave : (frame : PlainFrame) (under : List (List ℕ)) → HoldsAsTaken 63 (mine ++ Out frame ∷ []) → Kept Spent mine theirs under → Kept Spent (mine ++ Out frame ∷ []) theirs under
  kept-gave frame under holds h = record {
    few = holds.within;
    counts = subst (λ (m : Numbers). Spent ⊎ ((numbers_of theirs).accepted ≤ m.given)) (sym more) (by h.counts);
    high = h.high;
    climbs = subst (λ (m : Numbers). Climbs m.acknowledged h.high under) (sym more) h.climbs;
    high_accepted = h.high_accepted;
    high_given = subst (λ (m : Numbers). h.high ≤ m.given) (sym more) (let le = h.high_given in omega (arith, le));
  }
    where
      more : numbers_of (mine ++ Out frame ∷ []) ≡ record (numbers_of mine) { given = (numbers_of mine).given + length (pick (numbers_of mine).given frame) }
      more = numbers-more mine (Out frame)

      by : Spent ⊎ ((numbers_of theirs).accepted ≤ (numbers_of mine).given) → Spent ⊎ ((numbers_of theirs).accepted ≤ (numbers_of mine).given + length (pick (numbers_of mine).given frame))
      by (inl spent) = inl spent
      by (inr le) = inr (omega (arith, le))

  -- it hears the first frame that is under way
  pub kept-took : (pdu : List ℕ) (frame : PlainFrame) (under : List (List ℕ)) → Reads pdu frame → Kept Spent mine theirs (pdu ∷ under) → LastIsTaken (mine ++ In frame ∷ []) × Kept Spent (mine ++ In frame ∷ []) theirs (pdu ∷ under)
  kept-took pdu frame under reads h = by h.climbs
    where
      a : ℕ
      a = (numbers_of mine).acknowledged

      n : ℕ
      n = (numbers_of mine).given

      by : Climbs a h.high (pdu ∷ under) → LastIsTaken (mine ++ In frame ∷ []) × Kept Spent (mine ++ In frame ∷ []) theirs (pdu ∷ under)
      by (x, other, le, reads_it, req, rest) =
          let same : other ≡ frame = reads_one pdu other frame reads_it reads in
          let says : req_of frame ≡ x % 64 = ap req_of (sym same) ∙ req in
          let top = climbs_end x h.high under rest in
          let most = h.high_given in
          let few = h.few in
          let is : number_from a (req_of frame) ≡ x = ap (number_from a) says ∙ omega (arith, le, top, most, few) in
          let taken : acknowledged_with a n (number_from a (req_of frame)) ≡ x = acknowledged-with (λ (k : ℕ). k ≡ x) a n (number_from a (req_of frame)) (λ low. is) (λ lt. absurd (omega (arith, is, lt, top, most))) in
          let acknowledged : (numbers_of (mine ++ In frame ∷ [])).acknowledged ≡ x = ap (λ (m : Numbers). m.acknowledged) (numbers-more mine (In frame)) ∙ taken in
          let given : (numbers_of (mine ++ In frame ∷ [])).given ≡ n = ap (λ (m : Numbers). m.given) (numbers-more mine (In frame)) in
          let last : last_req 0 (ins (mine ++ In frame ∷ [])) ≡ req_of frame = ap (last_req 0) (ins_in mine frame) ∙ req-more 0 (ins mine) frame in (
            ap (λ (k : ℕ). k % 64) acknowledged ∙ (sym says ∙ sym last),
            record {
              few = omega (arith, acknowledged, given, few, le);
              counts = subst (λ (k : ℕ). Spent ⊎ ((numbers_of theirs).accepted ≤ k)) (sym given) h.counts;
              high = h.high;
              climbs = subst (λ (k : ℕ). Climbs k h.high (pdu ∷ under)) (sym acknowledged) (x, frame, omega arith, reads, says, rest);
              high_accepted = h.high_accepted;
              high_given = omega (arith, given, most);
            },
          )

  -- the peer gives something else, or hears
  pub kept-heard : (theirs' : List Passage) (under : List (List ℕ)) (Other : Type 0) → (numbers_of theirs).accepted ≤ (numbers_of theirs').accepted → (Kept Spent mine theirs under → Other ⊎ ((numbers_of theirs').accepted ≤ (numbers_of mine).given))
      → Kept Spent mine theirs under → Kept Other mine theirs' under
  kept-heard theirs' under Other more counts h =
      record { few = h.few; counts = counts h; high = h.high; climbs = h.climbs; high_accepted = (let le = h.high_accepted in omega (arith, le, more)); high_given = h.high_given }

  -- the peer gives a frame
  pub kept-given : (pdu : List ℕ) (frame : PlainFrame) (under : List (List ℕ)) → (Spent → ⊥) → Reads pdu frame → req_of frame ≡ (numbers_of theirs).accepted % 64 → Kept Spent mine theirs under → Kept Spent mine theirs (under ++ pdu ∷ [])
  kept-given pdu frame under never reads req h = by h.counts
    where
      by : Spent ⊎ ((numbers_of theirs).accepted ≤ (numbers_of mine).given) → Kept Spent mine theirs (under ++ pdu ∷ [])
      by (inl spent) = absurd (never spent)
      by (inr le) = record {
        few = h.few;
        counts = inr le;
        high = (numbers_of theirs).accepted;
        climbs = climbs_more (numbers_of mine).acknowledged h.high (numbers_of theirs).accepted under pdu frame h.high_accepted reads req h.climbs;
        high_accepted = omega arith;
        high_given = le;
      }

-- what goes out takes no ReqSeq
pub taken-out : (passed : List Passage) (frame : PlainFrame) → LastIsTaken passed → LastIsTaken (passed ++ Out frame ∷ [])
taken-out passed frame taken = ap (λ (m : Numbers). m.acknowledged % 64) (numbers-more passed (Out frame)) ∙ (taken ∙ ap (last_req 0) (sym (ins_out passed frame)))
