-- A host is fed a source piece by piece.
use Rattle.std.proofs.Common.{◌≡◌, ◌∙◌, inl, inr, ℕ, ◌+◌, ◌≤◌, List, [], ◌∷◌, ◌++◌, length, refl, sym, ap, subst, append_assoc, length-append, arith}
use Rattle.std.specs.Prelude.{Option, Some, None, IfSome, Result, Ok, Err}
use Rattle.std.proofs.lemmas.List.{append-nil}
use Rattle.bt_base.specs.Streams.{gained}
use Rattle.bt_base.proofs.PortLaws.{front_whole}
use Rattle.h4_framing.specs.Packets.{spellings}
use Rattle.h4_framing.specs.Framing.{Framing}
use Rattle.btpush_forms.specs.h4_view.specs.View.{Took}
use Rattle.btpush_forms.specs.h4_view.proofs.Stands.{took_then}
use Rattle.bt_host.specs.obex_session.specs.Counting as counting
use Rattle.bt_host.specs.host_model.specs.Circumstances.{answers_in}
use Rattle.bt_host.specs.host_model.specs.Profiles.{Profile}
use Rattle.receiving.specs.declared.fault.StreamRefusal.TheVariants as refusals
use Rattle.receiving.specs.declared.fault.ListenFault.{ListenFault}
use Rattle.receiving.specs.declared.fault.ListenFault.TheVariants.{Refused, ReadFault, WriteFault, NoMemory}
use Rattle.receiving.specs.Turns.{Stand, Begun, answers_along, packets_in, said_in}
use Rattle.receiving.specs.Coming.{input_limit, Ends, Writes, Unless, Beside, Halts, Comes}
use Rattle.receiving.specs.Faring.{Fares, HearsOctet, HearsPiece, Follows, EndsHeld, EndsAtLimit, IsOfSource}

pub writes_all : (sink sink' : Option (List ℕ)) (said : List ℕ) (result : Result (Unit {0}) ListenFault) → sink' ≡ gained sink said → Writes sink sink' said result
writes_all sink sink' said (Ok done) is = is
writes_all sink sink' said (Err (Refused refusal place)) is = is
writes_all sink sink' said (Err ReadFault) is = is
writes_all sink sink' said (Err WriteFault) is = front_whole sink sink' said is
writes_all sink sink' said (Err NoMemory) is = front_whole sink sink' said is

pub unless_any : (result : Result (Unit {0}) ListenFault) (told : Type 0) → told → Unless result told
unless_any (Ok done) told is = is
unless_any (Err (Refused refusal place)) told is = is
unless_any (Err ReadFault) told is = is
unless_any (Err WriteFault) told is = is
unless_any (Err NoMemory) told is = tt

took_none : (content : Option (List ℕ)) → Took content content []
took_none None = refl
took_none (Some all) = (all, refl, refl)

pub took_nothing : (old new : Option (List ℕ)) → new ≡ old → Took old new []
took_nothing old new is = subst (λ (c : Option (List ℕ)). Took old c []) (sym is) (took_none old)

pub left_same : (old new : Option (List ℕ)) → Took old new [] → IfSome old (λ octets. octets ≡ []) → IfSome new (λ octets. octets ≡ [])
left_same None None took none = tt
left_same None (Some new) took none = absurd cc
left_same (Some old) None (rest, whole, is) none = absurd cc
left_same (Some old) (Some new) (rest, whole, is) none = let same : new ≡ rest = cc in same ∙ sym whole ∙ none

-- ---- pieces

-- nothing of a piece was fed yet
pub none_fed : {S : Type 0} (A : Profile S) (first : Begun S) (octets : List ℕ) (framing : Framing) (stands : Stand S) (before near : Beside) → Fares A first octets framing stands before near → Fares A first (octets ++ []) framing stands before near
none_fed A first octets framing stands before near = subst (λ (xs : List ℕ). Fares A first xs framing stands before near) (sym (append-nil octets))

pub more_fed : {S : Type 0} (A : Profile S) (first : Begun S) (octets front more : List ℕ) (o : ℕ) (framing : Framing) (stands : Stand S) (before near : Beside) → more ≡ front ++ o ∷ [] → Fares A first ((octets ++ front) ++ o ∷ []) framing stands before near
    → Fares A first (octets ++ more) framing stands before near
more_fed A first octets front more o framing stands before near is = subst (λ (xs : List ℕ). Fares A first xs framing stands before near) (append_assoc octets front (o ∷ []) ∙ ap (λ (t : List ℕ). octets ++ t) (sym is))

-- it stopped within the piece
pub stops_within : {S : Type 0} (A : Profile S) (first : Begun S) (octets piece front behind : List ℕ) (o : ℕ) (framing : Framing) (stands : Stand S) (before near : Beside) (why : ListenFault) → piece ≡ (front ++ o ∷ []) ++ behind
    → HearsOctet A first ((octets ++ front) ++ o ∷ []) framing stands before near (Err why) → HearsPiece A first octets piece framing stands before near (Err why)
stops_within A first octets piece front behind o framing stands before near why is hears =
    (front ++ o ∷ [], behind, is, λ left. subst (λ (xs : List ℕ). Halts A first xs behind left stands before near (Err why)) (append_assoc octets front (o ∷ [])) (hears behind left))

-- ---- a source

module _ {S : Type 0} (A : Profile S) (first : Begun S) (origin left : Option (List ℕ)) (framing : Framing) (stands : Stand S) (before near : Beside) where
  halts_here : (octets behind : List ℕ) (left' : Option (List ℕ)) (result : Result (Unit {0}) ListenFault) (F : Fares A first octets framing stands before near)
      → Ends (stands []).line (length (spellings (packets_in F.turns))) framing.held behind left' result → Halts A first octets behind left' stands before near result
  halts_here octets behind left' result F ends = record {
    turns = F.turns;
    last = record { stands = stands; full = F.full; heard = F.heard };
    runs = F.runs;
    each = F.each;
    rest = framing.held;
    whole = F.whole;
    ends = ends;
    wrote = writes_all before.sink near.sink (first.said ++ said_in F.turns) result F.wrote;
    there = unless_any result (stands ≡ stands) refl;
    answered = unless_any result (counting.AreCounted (answers_in (answers_along A F.turns first.posture (record { stands = stands; full = F.full; heard = F.heard }) F.runs)) before.counts near.counts) F.answered;
  }

  module _ (count : ℕ) (follows : Follows A first origin left framing stands before near count) where
    comes_by : (left' : Option (List ℕ)) (behind : List ℕ) (result : Result (Unit {0}) ListenFault) → Took left left' behind
        → Ends (stands []).line (length (spellings (packets_in follows.fares.turns))) framing.held behind left' result → Comes A first origin left' stands before near result
    comes_by left' behind result took ends = record {
      octets = follows.octets;
      behind = behind;
      took = took_then origin left left' follows.octets behind follows.took took;
      within = omega (arith, follows.counted, follows.within);
      halts = halts_here follows.octets behind left' result follows.fares ends;
    }

    -- the source failed, and nothing was taken of it
    pub source_fails : (why : ListenFault) (left' : Option (List ℕ)) → IsOfSource why → left' ≡ left → Comes A first origin left' stands before near (Err why)
    source_fails (Refused refusal place) left' of same = absurd of
    source_fails WriteFault left' of same = absurd of
    source_fails ReadFault left' of same = comes_by left' [] (Err ReadFault) (took_nothing left left' same) (follows.fares.unfinished, refl)
    source_fails NoMemory left' of same = comes_by left' [] (Err NoMemory) (took_nothing left left' same) tt

    -- the source ended
    pub source_ends : (result : Result (Unit {0}) ListenFault) (left' : Option (List ℕ)) → Took left left' [] → IfSome left (λ octets. octets ≡ []) → EndsHeld framing result → Comes A first origin left' stands before near result
    source_ends (Ok done) left' took none ends = comes_by left' [] (Ok tt) took (ends, refl, left_same left left' took none)
    source_ends (Err (Refused refusals.Truncated place)) left' took none (at, some, (n, least, fits)) =
        comes_by left' [] (Err (Refused refusals.Truncated place)) took (at ∙ follows.fares.place, some, refl, left_same left left' took none, (n, least, omega (arith, fits, follows.fares.place)))
    source_ends (Err (Refused refusals.TooLong place)) left' took none (at, some, (n, least, past)) =
        comes_by left' [] (Err (Refused refusals.TooLong place)) took (at, inl (some, refl, left_same left left' took none, (n, least, omega (arith, past, follows.fares.place))))
    source_ends (Err (Refused refusals.BadIndicator place)) left' took none ends = absurd ends
    source_ends (Err (Refused refusals.AclTooLong place)) left' took none ends = absurd ends
    source_ends (Err (Refused refusals.CommandFailed place)) left' took none ends = absurd ends
    source_ends (Err (Refused refusals.BadBuffers place)) left' took none ends = absurd ends
    source_ends (Err ReadFault) left' took none ends = absurd ends
    source_ends (Err WriteFault) left' took none ends = absurd ends
    source_ends (Err NoMemory) left' took none ends = absurd ends

    -- the source was read up to the greatest length
    pub limit_ends : (result : Result (Unit {0}) ListenFault) (left' : Option (List ℕ)) → input_limit ≤ count → EndsAtLimit framing left left' result → Comes A first origin left' stands before near result
    limit_ends (Ok done) left' full (none, end, took) = comes_by left' [] (Ok tt) took (none, refl, left_same left left' took end)
    limit_ends (Err (Refused refusals.TooLong place)) left' full (at, (behind, took, some)) =
        let long = ap (λ (xs : List ℕ). length xs) follows.fares.whole ∙ length-append (spellings (packets_in follows.fares.turns)) framing.held in
        comes_by left' behind (Err (Refused refusals.TooLong place)) took (at, inr (follows.fares.unfinished, omega (arith, long, full, follows.counted, follows.within), some))
    limit_ends (Err (Refused refusals.Truncated place)) left' full ends = absurd ends
    limit_ends (Err (Refused refusals.BadIndicator place)) left' full ends = absurd ends
    limit_ends (Err (Refused refusals.AclTooLong place)) left' full ends = absurd ends
    limit_ends (Err (Refused refusals.CommandFailed place)) left' full ends = absurd ends
    limit_ends (Err (Refused refusals.BadBuffers place)) left' full ends = absurd ends
    limit_ends (Err ReadFault) left' full took = comes_by left' [] (Err ReadFault) took (follows.fares.unfinished, refl)
    limit_ends (Err WriteFault) left' full ends = absurd ends
    limit_ends (Err NoMemory) left' full took = comes_by left' [] (Err NoMemory) took tt

    module _ (left' : Option (List ℕ)) (piece : List ℕ) (n : ℕ) (took : Took left left' piece) (size : length piece ≡ n) (room : count + n ≤ input_limit) (framing' : Framing) (stands' : Stand S) (near' : Beside) where
      -- a piece was fed
      pub piece_follows : HearsPiece A first follows.octets piece framing' stands' before near' (Ok tt) → Follows A first origin left' framing' stands' before near' (count + n)
      piece_follows fares = record {
        octets = follows.octets ++ piece;
        took = took_then origin left left' follows.octets piece follows.took took;
        counted = omega (arith, follows.counted, size, length-append follows.octets piece);
        within = room;
        fares = fares;
      }

      -- or it stopped within it
      pub piece_stops : (why : ListenFault) → HearsPiece A first follows.octets piece framing' stands' before near' (Err why) → Comes A first origin left' stands' before near' (Err why)
      piece_stops why (heard, behind, parts, halts) =
          let long = ap (λ (xs : List ℕ). length xs) parts ∙ length-append heard behind in
          record {
            octets = follows.octets ++ heard;
            behind = behind;
            took = subst (λ (xs : List ℕ). Took origin left' xs) (ap (λ (t : List ℕ). follows.octets ++ t) parts ∙ sym (append_assoc follows.octets heard behind)) (took_then origin left left' follows.octets piece follows.took took);
            within = omega (arith, follows.counted, size, room, long, length-append follows.octets heard);
            halts = halts left';
          }

-- nothing was read yet
pub follows_none : {S : Type 0} (A : Profile S) (first : Begun S) (origin : Option (List ℕ)) (framing : Framing) (stands : Stand S) (before near : Beside) → Fares A first [] framing stands before near → Follows A first origin origin framing stands before near 0
follows_none A first origin framing stands before near fares = record { octets = []; took = took_none origin; counted = refl; within = omega arith; fares = fares }
