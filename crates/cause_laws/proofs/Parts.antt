-- How the part of a push stands, as its outcome is so far; and which entries bring which outcomes about.
use Rattle.std.proofs.Common.{◌≡◌, ℕ, Bool, true, false, not, ◌&&◌, ◌||◌, ◌==◌, List, [], ◌∷◌, ◌++◌, Option, Some, None, refl, sym, ap, subst, ◌∙◌, append_assoc, inl, inr}
use Rattle.std.proofs.lemmas.Bool.{eqb-true}
use Rattle.scenario_laws.specs.push_terms.specs.declared.outcome.Outcome.{Outcome}
use Rattle.scenario_laws.specs.push_terms.specs.declared.outcome.Outcome.TheVariants.{LinkLost, RetryLimit, ShelfFault, Cancelled as PushCancelled, PeerClosed, PeerFault, ScriptEnded}
use Rattle.scenario_laws.specs.capture.specs.Entries.{Entry}
use Rattle.cause_laws.specs.FirstCauses.{is_cancel, is_piece, end_reason, is_firing, IsLoss, may_blame, finds_fault, BringsAbout, IsNoCause, AreNoCauses, AreNotCancelled, IsBroughtAbout, HasCause}
use Rattle.cause_laws.proofs.Clients.{never, is_any, is_heard, is_shelf, Came, HasCome}
use Rattle.cause_laws.proofs.Driving.{is_timed, is_gone}

-- what it shows of an outcome that came before the script ended
abbrev Shown : Outcome → List Entry → Type 0
Shown ScriptEnded part = ⊥
Shown outcome part = HasCause outcome part

-- as the outcome of its push is so far
abbrev pub Stood : List Entry → Option Outcome → Type 0
Stood part None = AreNoCauses part
Stood part (Some outcome) = Shown outcome part

pub shown_cause : (outcome : Outcome) (part : List Entry) → Shown outcome part → HasCause outcome part
shown_cause ScriptEnded part shown = absurd shown
shown_cause outcome part shown = shown

not_cancelled_of : (part : List Entry) → AreNoCauses part → AreNotCancelled part
not_cancelled_of [] all = tt
not_cancelled_of (entry ∷ part) all = (all.0.not_cancelled, not_cancelled_of part all.1)

all_more : (part : List Entry) (entry : Entry) → is_cancel entry ≡ false → AreNotCancelled part → AreNotCancelled (part ++ entry ∷ [])
all_more [] entry plain all = (plain, tt)
all_more (one ∷ part) entry plain all = (all.0, all_more part entry plain all.1)

pub none_more : (part : List Entry) (entry : Entry) → IsNoCause entry → AreNoCauses part → AreNoCauses (part ++ entry ∷ [])
none_more [] entry none all = (none, tt)
none_more (one ∷ part) entry none all = (all.0, none_more part entry none all.1)

brought_more : (outcome : Outcome) (part : List Entry) (entry : Entry) → is_cancel entry ≡ false → IsBroughtAbout outcome part → IsBroughtAbout outcome (part ++ entry ∷ [])
brought_more outcome part entry plain about = record {
  before = about.before;
  entry = about.entry;
  after = about.after ++ entry ∷ [];
  part_is = ap (λ (l : List Entry). l ++ entry ∷ []) about.part_is ∙ append_assoc about.before (about.entry ∷ about.after) (entry ∷ []);
  first = about.first;
  brings = about.brings;
  none_after = all_more about.after entry plain about.none_after;
}

shown_more : (outcome : Outcome) (part : List Entry) (entry : Entry) → is_cancel entry ≡ false → Shown outcome part → Shown outcome (part ++ entry ∷ [])
shown_more ShelfFault part entry plain shown = all_more part entry plain shown
shown_more ScriptEnded part entry plain shown = absurd shown
shown_more outcome part entry plain shown = brought_more outcome part entry plain shown

pub stood_more : (part : List Entry) (entry : Entry) (cause : Option Outcome) → IsNoCause entry → Stood part cause → Stood (part ++ entry ∷ []) cause
stood_more part entry None none stood = none_more part entry none stood
stood_more part entry (Some outcome) none stood = shown_more outcome part entry none.not_cancelled stood

-- the fault of the shelf needs no entry
shelf_shown : (outcome : Outcome) (part : List Entry) → is_shelf outcome ≡ true → AreNotCancelled part → Shown outcome part
shelf_shown ShelfFault part is all = all
shelf_shown outcome part is all = never is

-- where one of them comes of the entry, it brings it about
abbrev Brings : (Outcome → Bool) → Entry → Type 0
Brings q entry = (outcome : Outcome) (part : List Entry) → q outcome ≡ true → AreNoCauses part → Shown outcome (part ++ entry ∷ [])

pub stood_with : (q : Outcome → Bool) (part : List Entry) (entry : Entry) (old new : Option Outcome) → IsNoCause entry → Brings q entry → Came q old new → Stood part old → Stood (part ++ entry ∷ []) new
stood_with q part entry None None none brings came stood = none_more part entry none stood
stood_with q part entry None (Some outcome) none brings came stood = brings outcome part came stood
stood_with q part entry (Some outcome) new none brings came stood = subst (λ (c : Option Outcome). Stood (part ++ entry ∷ []) c) (sym came) (shown_more outcome part entry none.not_cancelled stood)

-- the same where the entry is a cause, and one of them came
pub stood_by : (q : Outcome → Bool) (part : List Entry) (entry : Entry) (old new : Option Outcome) → is_cancel entry ≡ false → Brings q entry → Came q old new → HasCome new → Stood part old → Stood (part ++ entry ∷ []) new
stood_by q part entry None None plain brings came comes stood = absurd comes
stood_by q part entry None (Some outcome) plain brings came comes stood = brings outcome part came stood
stood_by q part entry (Some outcome) new plain brings came comes stood = subst (λ (c : Option Outcome). Stood (part ++ entry ∷ []) c) (sym came) (shown_more outcome part entry plain stood)

pub stood_still : (part : List Entry) (old new : Option Outcome) → Came is_shelf old new → Stood part old → Stood part new
stood_still part None None came stood = stood
stood_still part None (Some outcome) came stood = shelf_shown outcome part came (not_cancelled_of part stood)
stood_still part (Some outcome) new came stood = subst (λ (c : Option Outcome). Stood part c) (sym came) stood

pub shelf_brings : (entry : Entry) → is_cancel entry ≡ false → Brings is_shelf entry
shelf_brings entry plain outcome part is all = shelf_shown outcome (part ++ entry ∷ []) is (all_more part entry plain (not_cancelled_of part all))

pub brought_by : (outcome : Outcome) (part : List Entry) (entry : Entry) → AreNoCauses part → BringsAbout outcome entry → IsBroughtAbout outcome (part ++ entry ∷ [])
brought_by outcome part entry all brings = record { before = part; entry = entry; after = []; part_is = refl; first = all; brings = brings; none_after = tt }

pub fired_brings : (entry : Entry) → is_cancel entry ≡ false → (is_piece entry || is_firing entry) ≡ true → Brings is_timed entry
fired_brings entry plain fires RetryLimit part is all = brought_by RetryLimit part entry all fires
fired_brings entry plain fires (PeerFault layer reason) part is all = brought_by (PeerFault layer reason) part entry all (subst (λ (n : ℕ). finds_fault n entry ≡ true) (sym (eqb-true layer 2 is)) fires)
fired_brings entry plain fires ShelfFault part is all = all_more part entry plain (not_cancelled_of part all)
fired_brings entry plain fires outcome part is all = never is

piece_finds : (layer : ℕ) (entry : Entry) → is_piece entry ≡ true → may_blame layer ≡ true → finds_fault layer entry ≡ true
piece_finds layer entry piece may = ap (λ (b : Bool). (b && is_piece entry) || ((layer == 2) && is_firing entry)) may ∙ ap (λ (b : Bool). b || ((layer == 2) && is_firing entry)) piece

pub piece_brings : (entry : Entry) → is_cancel entry ≡ false → is_piece entry ≡ true → Brings is_heard entry
piece_brings entry plain piece LinkLost part is all = never is
piece_brings entry plain piece PushCancelled part is all = never is
piece_brings entry plain piece ScriptEnded part is all = never is
piece_brings entry plain piece RetryLimit part is all = brought_by RetryLimit part entry all (ap (λ (b : Bool). b || is_firing entry) piece)
piece_brings entry plain piece (PeerFault layer reason) part is all = brought_by (PeerFault layer reason) part entry all (piece_finds layer entry piece is)
piece_brings entry plain piece PeerClosed part is all = brought_by PeerClosed part entry all (inl piece)
piece_brings entry plain piece ShelfFault part is all = all_more part entry plain (not_cancelled_of part all)
piece_brings entry plain piece outcome part is all = brought_by outcome part entry all piece

not_true : (b : Bool) → not b ≡ true → b ≡ false
not_true true is = never is
not_true false is = refl

pub gone_brings : (reason : ℕ) (entry : Entry) → is_cancel entry ≡ false → end_reason entry ≡ Some reason → Brings (is_gone (reason == 0x13)) entry
gone_brings reason entry plain ends LinkLost part is all = brought_by LinkLost part entry all (subst IsLoss (sym ends) (not_true (reason == 0x13) is))
gone_brings reason entry plain ends PeerClosed part is all = brought_by PeerClosed part entry all (inr (ends ∙ ap Some (eqb-true reason 0x13 is)))
gone_brings reason entry plain ends ShelfFault part is all = all_more part entry plain (not_cancelled_of part all)
gone_brings reason entry plain ends outcome part is all = never is

-- as outcomes that come of more
pub timed_any : (outcome : Outcome) → is_timed outcome ≡ true → is_any outcome ≡ true
timed_any RetryLimit is = refl
timed_any ShelfFault is = refl
timed_any (PeerFault layer reason) is = is
timed_any outcome is = never is
