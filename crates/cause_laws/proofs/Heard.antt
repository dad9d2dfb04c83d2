-- What host a had heard, from one entry to the next.
use Rattle.std.proofs.Common.{◌≡◌, Bool, true, List, [], ◌∷◌, ◌++◌, Option, Some, None, refl, sym, ap, subst, ◌∙◌, append_assoc}
use Rattle.std.specs.Prelude.{IfSome}
use Rattle.std.specs.List.{AllByRecursion}
use Rattle.scenario_laws.specs.bt_base.specs.declared.settings.Settings.{Settings}
use Rattle.scenario_laws.specs.push_terms.specs.declared.outcome.Outcome.{Outcome}
use Rattle.scenario_laws.specs.capture.specs.Entries.{Entry}
use Rattle.scenario_laws.specs.capture.proofs.HistoryLaws.{each_after-both}
use Rattle.cause_laws.specs.FirstCauses.{since_begun, is_piece, AreNoCauses, IsHeardBefore, IsNoBegin, HasHeard}
use Rattle.cause_laws.specs.Said.{Decision, decision_of}
use Rattle.cause_laws.proofs.Clients.{is_unsaid, unsaid_says, Came}

-- what an SDU said with which it came
abbrev pub decided : Option Outcome → Option Decision
decided None = None
decided (Some outcome) = decision_of outcome

none_begun_more : (entries : List Entry) (entry : Entry) → IsNoBegin entry → AllByRecursion IsNoBegin entries → AllByRecursion IsNoBegin (entries ++ entry ∷ [])
none_begun_more [] entry none all = (none, tt)
none_begun_more (one ∷ entries) entry none all = (all.0, none_begun_more entries entry none all.1)

module _ (settings : Settings) where
  abbrev pub HeardSo : Option Outcome → List Entry → Type 0
  HeardSo cause past = IfSome (decided cause) (λ decision. HasHeard settings decision past)

  -- it was heard by the time of an entry that asks for that
  abbrev pub HeardBy : Option Outcome → (past : List Entry) → Entry → Type 0
  HeardBy cause past entry = IfSome (decided cause) (λ decision. IsHeardBefore settings decision past entry)

  -- where the entry asks for nothing
  pub unasked : (cause : Option Outcome) (past : List Entry) (entry : Entry) → ((decision : Decision) → IsHeardBefore settings decision past entry) → HeardBy cause past entry
  unasked cause past entry free = by (decided cause)
    where
      by : (found : Option Decision) → IfSome found (λ decision. IsHeardBefore settings decision past entry)
      by None = tt
      by (Some decision) = free decision

  has_heard_more : (past : List Entry) (entry : Entry) → IsNoBegin entry → (decision : Decision) → IsHeardBefore settings decision past entry → HasHeard settings decision past → HasHeard settings decision (past ++ entry ∷ [])
  has_heard_more past entry none decision heard has = record {
    before = has.before;
    entry = has.entry;
    after = has.after ++ entry ∷ [];
    past_is = ap (λ (l : List Entry). l ++ entry ∷ []) has.past_is ∙ append_assoc has.before (has.entry ∷ has.after) (entry ∷ []);
    piece = has.piece;
    first = has.first;
    none_begun = none_begun_more has.after entry none has.none_begun;
    heard = each_after-both (IsHeardBefore settings decision) (has.before ++ has.entry ∷ []) has.after (entry ∷ []) has.heard
        (subst (λ (l : List Entry). IsHeardBefore settings decision l entry) (has.past_is ∙ sym (append_assoc has.before (has.entry ∷ []) has.after)) heard, tt);
  }

  -- it stays heard
  pub heard_same : (past : List Entry) (entry : Entry) (cause : Option Outcome) → IsNoBegin entry → HeardBy cause past entry → HeardSo cause past → HeardSo cause (past ++ entry ∷ [])
  heard_same past entry cause none = by (decided cause)
    where
      by : (found : Option Decision) → IfSome found (λ decision. IsHeardBefore settings decision past entry) → IfSome found (λ decision. HasHeard settings decision past) → IfSome found (λ decision. HasHeard settings decision (past ++ entry ∷ []))
      by None heard so = tt
      by (Some decision) heard so = has_heard_more past entry none decision heard so

  -- where one of them comes, what it asks for was heard
  abbrev pub Hears : (Outcome → Bool) → List Entry → Type 0
  Hears q past = (outcome : Outcome) → q outcome ≡ true → HeardSo (Some outcome) past

  pub heard_with : (q : Outcome → Bool) (past : List Entry) (entry : Entry) (old new : Option Outcome) → IsNoBegin entry → (old ≡ None → Hears q (past ++ entry ∷ [])) → HeardBy old past entry → Came q old new → HeardSo old past → HeardSo new (past ++ entry ∷ [])
  heard_with q past entry None None none hears heard came so = tt
  heard_with q past entry None (Some outcome) none hears heard came so = hears refl outcome came
  heard_with q past entry (Some outcome) new none hears heard came so = subst (λ (c : Option Outcome). HeardSo c (past ++ entry ∷ [])) (sym came) (heard_same past entry (Some outcome) none heard so)

  -- of those that no SDU decides nothing is asked
  pub unsaid_hears : (q : Outcome → Bool) (past : List Entry) → ((outcome : Outcome) → q outcome ≡ true → is_unsaid outcome ≡ true) → Hears q past
  unsaid_hears q past unsaid outcome is = unsaid_says (λ decision. HasHeard settings decision past) outcome (unsaid outcome is)

  -- and of any others a piece of a PDU, ahead of which there was no cause
  pub piece_hears : (q : Outcome → Bool) (past : List Entry) (entry : Entry) → is_piece entry ≡ true → AreNoCauses (since_begun past) → Hears q (past ++ entry ∷ [])
  piece_hears q past entry piece first outcome is = by (decision_of outcome)
    where
      by : (found : Option Decision) → IfSome found (λ decision. HasHeard settings decision (past ++ entry ∷ []))
      by None = tt
      by (Some decision) = record { before = past; entry = entry; after = []; past_is = refl; piece = piece; first = first; none_begun = tt; heard = tt }

  pub heard_still : (q : Outcome → Bool) (past : List Entry) (old new : Option Outcome) → ((outcome : Outcome) → q outcome ≡ true → is_unsaid outcome ≡ true) → Came q old new → HeardSo old past → HeardSo new past
  heard_still q past None None unsaid came so = tt
  heard_still q past None (Some outcome) unsaid came so = unsaid_hears q past unsaid outcome came
  heard_still q past (Some outcome) new unsaid came so = subst (λ (c : Option Outcome). HeardSo c past) (sym came) so
