-- What brought an outcome about is among what came to the client.
use Rattle.std.proofs.Common.{◌≡◌, ℕ, Bool, true, false, ◌==◌, ◌&&◌, ◌||◌, List, [], ◌∷◌, ◌++◌, fold, Option, Some, None, refl, sym, ap, subst, ◌∙◌, append-nil, inl, inr, if◌then◌else◌}
use Rattle.std.specs.Prelude.{IfSome}
use Rattle.outcome_laws.specs.cause_laws.specs.push_terms.specs.declared.outcome.Outcome.{Outcome}
use Rattle.outcome_laws.specs.cause_laws.specs.push_terms.specs.declared.outcome.Outcome.TheVariants.{LinkLost, RetryLimit, ShelfFault, Cancelled, PeerClosed, PeerFault, ScriptEnded}
use Rattle.outcome_laws.specs.cause_laws.specs.world_model.specs.Machines.{News}
use Rattle.outcome_laws.specs.cause_laws.specs.FirstCauses.{IsLoss, may_blame}
use Rattle.outcome_laws.specs.cause_laws.proofs.Clients.{never}
use Rattle.outcome_laws.specs.unit_laws.specs.scenario_laws.specs.h4_framing.specs.Packets.{Packet}
use Rattle.outcome_laws.specs.cause_laws.specs.host_model.specs.Circumstances.{Circumstance}
use Rattle.outcome_laws.specs.unit_laws.specs.Units.{Comes, Learns, Says, Puts, Commands, Waits}
use Rattle.outcome_laws.specs.BroughtAbout.{is_begin_news, is_cancel, is_firing, is_piece, end_reason, failed_status, is_number, since_more, since_begun, finds_fault, BringsAbout, IsBroughtAbout, HasCause}
use Rattle.outcome_laws.specs.SaidWith.{BeginsNone}
use Rattle.lending_laws.specs.Comings.{comings_of, comings_in}
use Rattle.lending_laws.proofs.Coming.{One, comings_both}

-- ---- since a push began

begun_more : (part : List One) (one : One) → comings_in (since_more part one) ≡ fold since_more (comings_in part) (comings_of one)
begun_more part (Comes gifts unit) = comings_both part (Comes gifts unit ∷ [])
begun_more part (Learns gifts news) = by (is_begin_news news)
  where
    by : (begins : Bool) → comings_in (if begins then [] else part ++ Learns gifts news ∷ []) ≡ (if begins then [] else comings_in part ++ Learns [] news ∷ [])
    by true = refl
    by false = comings_both part (Learns gifts news ∷ [])
begun_more part (Says pdu) = comings_both part (Says pdu ∷ []) ∙ append-nil (comings_in part)
begun_more part (Puts handle piece) = comings_both part (Puts handle piece ∷ []) ∙ append-nil (comings_in part)
begun_more part (Commands command) = comings_both part (Commands command ∷ []) ∙ append-nil (comings_in part)
begun_more part Waits = comings_both part (Waits ∷ []) ∙ append-nil (comings_in part)

one_more : (part more : List One) (one : One) → fold since_more (fold since_more part (comings_of one)) more ≡ fold since_more part (comings_of one ++ more)
one_more part more (Comes gifts unit) = refl
one_more part more (Learns gifts news) = refl
one_more part more (Says pdu) = refl
one_more part more (Puts handle piece) = refl
one_more part more (Commands command) = refl
one_more part more Waits = refl

part_comes : (part list : List One) → comings_in (fold since_more part list) ≡ fold since_more (comings_in part) (comings_in list)
part_comes part [] = refl
part_comes part (one ∷ list) =
    part_comes (since_more part one) list
    ∙ (ap (λ (l : List One). fold since_more l (comings_in list)) (begun_more part one) ∙ one_more (comings_in part) (comings_in list) one)

pub since_comes : (list : List One) → comings_in (since_begun list) ≡ since_begun (comings_in list)
since_comes list = part_comes [] list

-- ---- what brings an outcome about

none_and : (a : Bool) → (a && false) ≡ false
none_and true = refl
none_and false = refl

-- of nothing that comes to the client no outcome comes
module _ (one : One) (piece : is_piece one ≡ false) (cancel : is_cancel one ≡ false) (firing : is_firing one ≡ false) (ended : end_reason one ≡ None) (status : failed_status one ≡ None) where
  limit_none : (a b : Bool) → a ≡ false → b ≡ false → (a || b) ≡ true → ⊥
  limit_none false false x y is = never is
  limit_none true b x y is = never (sym x)
  limit_none false true x y is = never (sym y)

  fault_none : (layer reason : ℕ) → finds_fault layer reason one ≡ false
  fault_none layer reason =
      ap (λ (s : Option ℕ). ((layer == 1) && is_number reason s) || ((may_blame layer && is_piece one) || ((layer == 2) && is_firing one))) status
      ∙ (ap (λ (b : Bool). ((layer == 1) && false) || ((may_blame layer && b) || ((layer == 2) && is_firing one))) piece
      ∙ (ap (λ (b : Bool). ((layer == 1) && false) || ((may_blame layer && false) || ((layer == 2) && b))) firing
      ∙ by (layer == 1) (may_blame layer) (layer == 2)))
    where
      by : (a b c : Bool) → ((a && false) || ((b && false) || (c && false))) ≡ false
      by true true c = none_and c
      by true false c = none_and c
      by false true c = none_and c
      by false false c = none_and c

  end_none : (found : Option ℕ) → found ≡ None → found ≡ Some 0x13 → ⊥
  end_none None none is = cc
  end_none (Some reason) none is = cc

  brings_none : (outcome : Outcome) → BringsAbout outcome one → ⊥
  brings_none LinkLost brings = subst IsLoss ended brings
  brings_none Cancelled brings = never (sym cancel ∙ brings)
  brings_none RetryLimit brings = limit_none (is_piece one) (is_firing one) piece firing brings
  brings_none (PeerFault layer reason) brings = never (sym (fault_none layer reason) ∙ brings)
  brings_none PeerClosed brings = elim brings [ inl is ↦ never (sym piece ∙ is) | inr is ↦ end_none (end_reason one) ended is ]
  brings_none ShelfFault brings = brings
  brings_none ScriptEnded brings = brings
  brings_none outcome brings = never (sym piece ∙ brings)

unit_brings : (gifts : List Circumstance) (unit : Packet) (outcome : Outcome) → BringsAbout outcome (Comes gifts unit) → BringsAbout {G = Circumstance} outcome (Comes [] unit)
unit_brings gifts unit LinkLost brings = brings
unit_brings gifts unit outcome brings = brings

news_bring : (gifts : List Circumstance) (news : News) (outcome : Outcome) → BringsAbout outcome (Learns gifts news) → BringsAbout {G = Circumstance} outcome (Learns [] news)
news_bring gifts news LinkLost brings = brings
news_bring gifts news outcome brings = brings

about_comes : (outcome : Outcome) (part : List One) → IsBroughtAbout outcome part → IsBroughtAbout outcome (comings_in part)
about_comes outcome part about = by about.one about.part_is about.brings
  where
    by : (one : One) → part ≡ about.before ++ one ∷ about.after → BringsAbout outcome one → IsBroughtAbout outcome (comings_in part)
    by (Comes gifts unit) is brings = record {
      before = comings_in about.before;
      one = Comes [] unit;
      after = comings_in about.after;
      part_is = ap (λ (l : List One). comings_in l) is ∙ comings_both about.before (Comes gifts unit ∷ about.after);
      brings = unit_brings gifts unit outcome brings;
    }
    by (Learns gifts news) is brings = record {
      before = comings_in about.before;
      one = Learns [] news;
      after = comings_in about.after;
      part_is = ap (λ (l : List One). comings_in l) is ∙ comings_both about.before (Learns gifts news ∷ about.after);
      brings = news_bring gifts news outcome brings;
    }
    by (Says pdu) is brings = absurd (brings_none (Says pdu) refl refl refl refl refl outcome brings)
    by (Puts handle piece) is brings = absurd (brings_none (Puts handle piece) refl refl refl refl refl outcome brings)
    by (Commands command) is brings = absurd (brings_none (Commands command) refl refl refl refl refl outcome brings)
    by Waits is brings = absurd (brings_none Waits refl refl refl refl refl outcome brings)

cause_comes : (outcome : Outcome) (part : List One) → HasCause outcome part → HasCause outcome (comings_in part)
cause_comes ShelfFault part has = tt
cause_comes ScriptEnded part has = absurd has
cause_comes outcome part has = about_comes outcome part has

-- so of what came since the push began
pub caused_along : (cause : Option Outcome) (list comings : List One) → comings_in list ≡ comings → IfSome cause (λ outcome. HasCause outcome (since_begun list)) → IfSome cause (λ outcome. HasCause outcome (since_begun comings))
caused_along None list comings is has = tt
caused_along (Some outcome) list comings is has =
    subst (λ (l : List One). HasCause outcome (since_begun l)) is (subst (HasCause outcome) (since_comes list) (cause_comes outcome (since_begun list) has))

-- ---- where no push begins

pub none_begins : (list : List One) → BeginsNone list → BeginsNone (comings_in list)
none_begins [] all = tt
none_begins (Comes gifts unit ∷ list) all = (all.0, none_begins list all.1)
none_begins (Learns gifts news ∷ list) all = (all.0, none_begins list all.1)
none_begins (Says pdu ∷ list) all = none_begins list all.1
none_begins (Puts handle piece ∷ list) all = none_begins list all.1
none_begins (Commands command ∷ list) all = none_begins list all.1
none_begins (Waits ∷ list) all = none_begins list all.1

pub behind_begins : (one two : List One) → BeginsNone (one ++ two) → BeginsNone two
behind_begins [] two all = all
behind_begins (occasion ∷ one) two all = behind_begins one two all.1
