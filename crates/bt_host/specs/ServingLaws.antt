-- Answers of an inbox, one list behind another (this project's own).
use Rattle.std.specs.Prelude.{ℕ, ◌≡◌, ◌≤◌, List, [], ◌∷◌, ◌++◌, refl}
use Rattle.std.proofs.Common.{arith, inl, inr, sym, ap, ◌∙◌, subst, append_assoc}
use Rattle.std.specs.List.{AllByRecursion}
use Rattle.std.proofs.lemmas.Bool.{cases_lt}
use Rattle.bt_base.specs.Counts.{HasRisen, last_count}
use Rattle.shelf_model.specs.obex_session.specs.Counting.{Counts, AreCounted, counts_of}
use Rattle.shelf_model.specs.obex_session.specs.InboxCalls.{Answer}
use Rattle.shelf_model.specs.obex_session.proofs.CountingLaws.{counted_none, counted_then}
use Rattle.answer_laws.specs.Memory.{HadMemory}
use Rattle.shelf_model.specs.host_model.specs.Circumstances.{Circumstance, answer_of, answers_in}
use Rattle.bt_base.specs.declared.settings.Settings.{Settings}
use Rattle.shelf_model.specs.world_model.specs.Machines.{News, Linked, Up, Down, Failed, Heard, TimerFired, Cancelled, Opening}
use Rattle.shelf_model.specs.host_model.specs.Servers.{ServerProfile}
use Rattle.bt_host.specs.Serving.{profile_of, Asks}
use Rattle.bt_host.specs.Uppers.{IsAside}
use Rattle.bt_host.specs.Calls.{JoinAnswers}

answers_join : (xs ys : List Circumstance) → answers_in (xs ++ ys) ≡ answers_in xs ++ answers_in ys
answers_join [] ys = refl
answers_join (x ∷ xs) ys = ap (λ (answers : List Answer). answer_of x ++ answers) (answers_join xs ys) ∙ sym (append_assoc (answer_of x) (answers_in xs) (answers_in ys))

both_had : (xs ys : List Answer) → AllByRecursion HadMemory xs → AllByRecursion HadMemory ys → AllByRecursion HadMemory (xs ++ ys)
both_had [] ys one two = two
both_had (x ∷ xs) ys one two = (one.0, both_had xs ys one.1 two)

pub joins : {P : Type 0} (faults shortages : P → ℕ) → JoinAnswers {G = Circumstance} (Asks faults shortages)
joins {P = P} faults shortages =
    let counts : P → Counts = counts_of faults shortages in
    record {
      none = λ port. record { counted = counted_none (counts port); none_short = tt };
      then = λ first mid last xs ys before behind. record {
        counted = subst (λ (answers : List Answer). AreCounted answers (counts first) (counts last)) (sym (answers_join xs ys))
            (counted_then (answers_in xs) (answers_in ys) (counts first) (counts mid) (counts last) before.counted behind.counted);
        none_short = subst (λ (answers : List Answer). AllByRecursion HadMemory answers) (sym (answers_join xs ys)) (both_had (answers_in xs) (answers_in ys) before.none_short behind.none_short);
      };
    }

risen : (a b c : ℕ) → a ≤ b → b ≤ c → HasRisen b c → HasRisen a c
risen a b c before behind (inl rose) = inl (omega (arith, before, rose))
risen a b c before behind (inr end) = elim (cases_lt a last_count) [ inl below ↦ inl (omega (arith, below, end, behind)) | inr above ↦ inr above ]

pub lacks : {P : Type 0} (faults shortages : P → ℕ) (first mid last : P) (used : List Circumstance) → Asks faults shortages first used mid → HasRisen (shortages mid) (shortages last) × (shortages mid ≤ shortages last)
    → HasRisen (shortages first) (shortages last) × (shortages first ≤ shortages last)
lacks faults shortages first mid last used before (rose, behind) =
    (risen (shortages first) (shortages mid) (shortages last) before.counted.shortages_stay behind rose, omega (arith, before.counted.shortages_stay, behind))

pub told_alone : (settings : Settings) (all : List Circumstance) (news : News) (serving : ServerProfile) → IsAside news → (profile_of settings).told all news serving ≡ (profile_of settings).told [] news serving
told_alone settings all (Linked Up) serving aside = refl
told_alone settings all (Linked (Down reason)) serving aside = refl
told_alone settings all (Failed status) serving aside = refl
told_alone settings all (Heard pdu) serving aside = refl
told_alone settings all TimerFired serving aside = refl
told_alone settings all Cancelled serving aside = refl
told_alone settings all (Opening name) serving aside = refl
