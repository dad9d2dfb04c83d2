-- How a view ends: at the end of its input, at a refusal, or at the greatest length.
use Rattle.std.proofs.Common.{◌≡◌, ◌≢◌, ℕ, ◌+◌, ◌-◌, ◌<◌, ◌≤◌, List, [], ◌∷◌, ◌++◌, length, take, Option, Some, None, IfSome, IfOk, IfErr, OnErr, Result, Ok, Err, refl, sym, ap, subst, ◌∙◌, append_assoc, arith, inl, inr, length-append}
use Rattle.std.proofs.lemmas.List.{append-nil, take_at, take_all}
use Rattle.std.specs.List.{AllByRecursion}
use Rattle.bt_base.specs.Streams.{gained, GainedFront}
use Rattle.bt_base.proofs.PortLaws.{gained-gained, front_none, front_then}
use Rattle.h4_framing.specs.declared.refusal.H4Refusal.{H4Refusal}
use Rattle.h4_framing.specs.declared.refusal.H4Refusal.TheVariants as h4
use Rattle.h4_framing.specs.Packets.{Packet, spellings, IsPacket}
use Rattle.h4_framing.specs.Stream.{IsUnfinished, IsLeastLength, GoesWrong}
use Rattle.h4_framing.specs.Framing.{Framing, counted}
use Rattle.h4_framing.specs.Accounts.{Accounts}
use Rattle.h4_framing.proofs.LengthLemmas.{front_short}
use Rattle.h4_view.specs.declared.refusal.ViewRefusal.{ViewRefusal}
use Rattle.h4_view.specs.declared.refusal.ViewRefusal.TheVariants.{BadIndicator, Truncated, TooLong}
use Rattle.h4_view.specs.declared.refusal.ViewFault.{ViewFault}
use Rattle.h4_view.specs.declared.refusal.ViewFault.TheVariants.{Refused, ReadFault, WriteFault, NoMemory}
use Rattle.h4_view.specs.declared.links.Links.{Links}
use Rattle.h4_view.specs.Lines.{lines, refusal_line}
use Rattle.h4_view.specs.Shows.{Shows}
use Rattle.h4_view.specs.Standing.{Standing}
use Rattle.h4_view.specs.View.{acl_limit, input_limit, HasBadIndicator, GoesPast, Stops, BeginsWith, FrontWritten, OfLines, OfAll, ShowsAll, Views, Took, IsOfPorts, IsRefusal, EndsView, EndsAtLimit}
use Rattle.h4_view.proofs.Stands.{took_then, held_behind, fault_behind, told, taken_front, fault_shows, lines_then}

-- a count that does not reach its end
counted_plain : (n : ℕ) → n ≤ input_limit → counted 0 n ≡ n
counted_plain n le = omega arith

-- the framer is at the end of the stream, below the greatest length
ends_by : (verdict : Option (ViewRefusal × ℕ)) (octets : List ℕ) (packets : List Packet) (framing : Framing) → Accounts octets packets framing → framing.fault ≡ None → framing.limit ≡ acl_limit
    → length octets < input_limit → EndsView framing verdict → Stops (length (spellings packets)) framing.held verdict
ends_by None octets packets framing accounts sound keeps below ends = ends
ends_by (Some (Truncated, place)) octets packets framing accounts sound keeps below (at, some, (n, least, within)) =
    let behind = held_behind octets packets framing accounts sound in
    let size : length octets ≡ length (spellings packets) + length framing.held = ap length behind.0 ∙ length-append (spellings packets) framing.held in
    let before : framing.before ≡ length (spellings packets) = behind.2 ∙ counted_plain (length (spellings packets)) (omega arith) in
    let least' : IsLeastLength acl_limit framing.held n = subst (λ (k : ℕ). IsLeastLength k framing.held n) keeps least in
    (at ∙ before, some, (least'.some.0, least'.some.1, omega (arith, least'.some.2)))
ends_by (Some (TooLong, place)) octets packets framing accounts sound keeps below (at, some, (n, least, past)) =
    let behind = held_behind octets packets framing accounts sound in
    let from : ℕ = length (spellings packets) in
    let size : length octets ≡ from + length framing.held = ap length behind.0 ∙ length-append (spellings packets) framing.held in
    let before : framing.before ≡ from = behind.2 ∙ counted_plain from (omega arith) in
    let least' : IsLeastLength acl_limit framing.held n = subst (λ (k : ℕ). IsLeastLength k framing.held n) keeps least in
    let unfinished : IsUnfinished acl_limit framing.held = subst (λ (k : ℕ). IsUnfinished k framing.held) keeps behind.1 in
    let goes : GoesPast from framing.held = (unfinished, λ p f. omega (arith, least'.none_shorter p f)) in
    let front : take (input_limit - from) framing.held ≡ framing.held = take_all (input_limit - from) framing.held (omega arith) in
    (at, some, subst (λ (t : List ℕ). GoesPast from t) (sym front) goes)
ends_by (Some (_, place)) octets packets framing accounts sound keeps below ends = absurd ends

pub ended : (verdict : Option (ViewRefusal × ℕ)) (input left old new : Option (List ℕ)) (framing : Framing) (links : Links) (offset fed : ℕ) → Standing input left old new framing links offset fed → fed < input_limit
    → IfSome left (λ octets. octets ≡ []) → EndsView framing verdict → IfSome input (λ all. ShowsAll all left old new (Ok verdict))
ended verdict input left old new framing links offset fed s below empty ends = told input (λ all e.
    let begin = taken_front input left s.octets all s.took e in
    let none : begin.0 ≡ [] = rw begin.2 at empty in
    let all-is : all ≡ s.octets = begin.1 ∙ ap (λ (t : List ℕ). s.octets ++ t) none ∙ append-nil s.octets in
    let behind = held_behind s.octets s.packets framing s.accounts s.sound in
    let size : length s.octets ≡ length (spellings s.packets) + length framing.held = ap length behind.0 ∙ length-append (spellings s.packets) framing.held in (
      s.packets,
      record {
        begins = record {
          each = subst (λ (k : ℕ). AllByRecursion (IsPacket k) s.packets) s.keeps s.accounts.each;
          within = omega (arith, s.count);
          rest = framing.held;
          whole = all-is ∙ behind.0;
        };
        stops = ends_by verdict s.octets s.packets framing s.accounts s.sound s.keeps (omega (arith, s.count)) ends;
      },
      s.written,
    ))

-- octets that go wrong where a packet should begin, with more behind them
bad_indicator : (refusal : H4Refusal) (rest more : List ℕ) (n : ℕ) → GoesWrong acl_limit rest refusal n → HasBadIndicator (rest ++ more) × (n ≡ 0) × (0 < length rest)
bad_indicator h4.BadIndicator rest more n (first, others, is, wrong, at) =
    ((first, others ++ more, ap (λ (t : List ℕ). t ++ more) is, wrong, refl), at, subst (λ (t : List ℕ). 0 < length t) (sym is) (omega arith))
bad_indicator h4.AclTooLong rest more n (word, size, others, is, fits, above, at) = absurd (omega arith)
bad_indicator h4.Truncated rest more n wrong = absurd wrong

-- the piece was shown and written up to a refusal
pub refused : (input left left' old new new' : Option (List ℕ)) (framing framing' : Framing) (links links' : Links) (offset offset' fed n place : ℕ) (refusal : H4Refusal) (text xs : List ℕ)
    → Standing input left old new framing links offset fed → Took left left' xs → Shows framing framing' links links' offset offset' [] text xs (Some (refusal, place)) → new' ≡ gained new text → length xs ≡ n → fed + n ≤ input_limit
    → IfSome input (λ all. ShowsAll all left' old new' (Ok (Some (BadIndicator, place))))
refused input left left' old new new' framing framing' links links' offset offset' fed n place refusal text xs s took shows wrote size within = told input (λ all e.
    let packets : List Packet = s.packets ++ shows.added in
    let octets : List ℕ = s.octets ++ xs in
    let accounts = shows.accounts s.octets s.packets s.accounts in
    let keeps : framing'.limit ≡ acl_limit = shows.keeps ∙ s.keeps in
    let begin = taken_front input left' octets all (took_then input left left' s.octets xs s.took took) e in
    let faulty = fault_behind octets packets framing' refusal place accounts shows.answers in
    let reads = faulty.1 in
    let wrong = bad_indicator refusal reads.rest begin.0 reads.ends.0 (subst (λ (k : ℕ). GoesWrong k reads.rest refusal reads.ends.0) keeps reads.ends.1) in
    let from : ℕ = length (spellings packets) in
    let long : length octets ≡ from + length reads.rest = ap length reads.whole ∙ length-append (spellings packets) reads.rest in
    let fed-is : length octets ≡ fed + n = omega (arith, length-append s.octets xs, s.count, size) in
    let at : faulty.0 ≡ from = omega (arith, reads.ends.2, wrong.1) in (
      packets,
      record {
        begins = record {
          each = subst (λ (k : ℕ). AllByRecursion (IsPacket k) packets) keeps accounts.each;
          within = omega arith;
          rest = reads.rest ++ begin.0;
          whole = begin.1 ∙ ap (λ (t : List ℕ). t ++ begin.0) reads.whole ∙ append_assoc (spellings packets) reads.rest begin.0;
        };
        stops = (faulty.2 ∙ ap (counted 0) at ∙ counted_plain from (omega arith), omega (arith, wrong.2), wrong.0);
      },
      wrote
          ∙ ap (λ (c : Option (List ℕ)). gained c text) s.written
          ∙ gained-gained old (lines [] 0 s.packets) text
          ∙ ap (λ (t : List ℕ). gained old (lines [] 0 s.packets ++ t)) (shows.adds s.packets s.knows).0
          ∙ ap (gained old) (sym (lines_then offset s.packets shows.added s.moves)),
    ))

append_none : (a b : List ℕ) → a ++ b ≡ [] → a ≡ []
append_none [] b e = refl
append_none (x ∷ a) b e = absurd cc

append_none_right : (a b : List ℕ) → a ++ b ≡ [] → b ≡ []
append_none_right [] b e = e
append_none_right (x ∷ a) b e = absurd cc

-- the stream was read up to the greatest length
limit_by : (verdict : Option (ViewRefusal × ℕ)) (octets rest : List ℕ) (left : Option (List ℕ)) (packets : List Packet) (framing : Framing) → Accounts octets packets framing → framing.fault ≡ None → framing.limit ≡ acl_limit
    → length octets ≡ input_limit → left ≡ Some rest → EndsAtLimit framing left verdict → Stops (length (spellings packets)) (framing.held ++ rest) verdict
limit_by None octets rest left packets framing accounts sound keeps full left-is ends =
    let none : rest ≡ [] = rw left-is at ends.1 in ap (λ (t : List ℕ). t ++ rest) ends.0 ∙ none
limit_by (Some (TooLong, place)) octets rest left packets framing accounts sound keeps full left-is ends =
    let behind = held_behind octets packets framing accounts sound in
    let from : ℕ = length (spellings packets) in
    let size : length octets ≡ from + length framing.held = ap length behind.0 ∙ length-append (spellings packets) framing.held in
    let some : framing.held ++ rest ≢ [] = elim ends.1 [
      | inl held ↦ λ e. held (append_none framing.held rest e)
      | inr more ↦ let more' : rest ≢ [] = rw left-is at more in λ e. more' (append_none_right framing.held rest e)
    ] in
    let front : take (input_limit - from) (framing.held ++ rest) ≡ framing.held = take_at framing.held rest (input_limit - from) (omega arith) in
    let unfinished : IsUnfinished acl_limit framing.held = subst (λ (k : ℕ). IsUnfinished k framing.held) keeps behind.1 in
    let goes : GoesPast from framing.held = (unfinished, λ p f. omega (arith, front_short acl_limit framing.held p f)) in
    (ends.0, some, subst (λ (t : List ℕ). GoesPast from t) (sym front) goes)
limit_by (Some (_, place)) octets rest left packets framing accounts sound keeps full left-is ends = absurd ends

pub at_limit : (verdict : Option (ViewRefusal × ℕ)) (input left old new : Option (List ℕ)) (framing : Framing) (links : Links) (offset fed : ℕ) → Standing input left old new framing links offset fed → input_limit ≤ fed
    → EndsAtLimit framing left verdict → IfSome input (λ all. ShowsAll all left old new (Ok verdict))
at_limit verdict input left old new framing links offset fed s full ends = told input (λ all e.
    let begin = taken_front input left s.octets all s.took e in
    let behind = held_behind s.octets s.packets framing s.accounts s.sound in
    let size : length s.octets ≡ length (spellings s.packets) + length framing.held = ap length behind.0 ∙ length-append (spellings s.packets) framing.held in (
      s.packets,
      record {
        begins = record {
          each = subst (λ (k : ℕ). AllByRecursion (IsPacket k) s.packets) s.keeps s.accounts.each;
          within = omega (arith, s.count, s.within);
          rest = framing.held ++ begin.0;
          whole = begin.1 ∙ ap (λ (t : List ℕ). t ++ begin.0) behind.0 ∙ append_assoc (spellings s.packets) framing.held begin.0;
        };
        stops = limit_by verdict s.octets begin.0 left s.packets framing s.accounts s.sound s.keeps (omega (arith, s.count, s.within)) begin.2 ends;
      },
      s.written,
    ))

-- what the end of the loop shows
pub limit_shows : (result : Result (Option (ViewRefusal × ℕ)) ViewFault) (input left left' old new : Option (List ℕ)) (framing : Framing) (links : Links) (offset fed : ℕ) → Standing input left old new framing links offset fed → input_limit ≤ fed
    → IfOk result (λ verdict. EndsAtLimit framing left verdict) → IfErr result IsOfPorts → OnErr result (left' ≡ left) → IfSome input (λ all. ShowsAll all left' old new result)
limit_shows (Ok verdict) input left left' old new framing links offset fed s full ends port kept = at_limit verdict input left old new framing links offset fed s full ends
limit_shows (Err fault) input left left' old new framing links offset fed s full ends port kept = fault_shows fault input left left' old new framing links offset fed s port kept

-- an input begins with no packets
begins_none : (all : List ℕ) → BeginsWith all []
begins_none all = record { each = tt; within = omega arith; rest = all; whole = refl }

-- nothing was shown, for want of memory
pub nothing_shown : (input left old : Option (List ℕ)) (fault : ViewFault) → fault ≡ NoMemory → IfSome input (λ all. Views all left old old (Err fault))
nothing_shown None left old fault short = tt
nothing_shown (Some all) left old fault short = subst (λ (f : ViewFault). Views all left old old (Err f)) (sym short) (OfLines [] (begins_none all) (front_none old []))

-- a front of the refusal behind all lines
all_front : (input : List ℕ) (left old mid new : Option (List ℕ)) (refusal : ViewRefusal) (place : ℕ) → ShowsAll input left old mid (Ok (Some (refusal, place))) → GainedFront mid new (refusal_line refusal place) → FrontWritten old new input
all_front input left old mid new refusal place (packets, view, wrote) front = OfAll packets (Some (refusal, place)) view (front_then old mid new (lines [] 0 packets) (refusal_line refusal place) wrote front)

-- the refusal's line behind all lines
pub refusal_shown : (input left old mid new : Option (List ℕ)) (refusal : ViewRefusal) (place : ℕ) (fault : ViewFault) → IfSome input (λ all. ShowsAll all left old mid (Ok (Some (refusal, place)))) → IsRefusal refusal place mid new fault
    → IfSome input (λ all. Views all left old new (Err fault))
refusal_shown None left old mid new refusal place fault shows is = tt
refusal_shown (Some all) left old mid new refusal place (Refused refusal' place') (packets, view, wrote) (r, p, w) =
    subst (λ (x : ViewRefusal). Views all left old new (Err (Refused x place'))) (sym r) (subst (λ (n : ℕ). Views all left old new (Err (Refused refusal n))) (sym p)
    (packets, view, w ∙ ap (λ (c : Option (List ℕ)). gained c (refusal_line refusal place)) wrote ∙ gained-gained old (lines [] 0 packets) (refusal_line refusal place)))
refusal_shown (Some all) left old mid new refusal place ReadFault shows is = absurd is
refusal_shown (Some all) left old mid new refusal place WriteFault shows is = all_front all left old mid new refusal place shows is
refusal_shown (Some all) left old mid new refusal place NoMemory shows is = all_front all left old mid new refusal place shows is
