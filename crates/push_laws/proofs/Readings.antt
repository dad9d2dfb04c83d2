-- What is read off one occurrence more.
use Rattle.std.proofs.Common.{true, false, cond, ◌≡◌, ℕ, List, [], ◌∷◌, ◌++◌, length, drop, map, Option, None, refl, sym, ap, ◌∙◌, append_assoc, append-nil}
use Rattle.std.specs.List.{filter_map, cons_option}
use Rattle.std.proofs.lemmas.Bool.{cond-true, cond-false}
use Rattle.std.proofs.lemmas.List.{map-append}
use Rattle.std.proofs.lemmas.List.Elements.{filter_map-append}
use Rattle.link_talk.specs.bt_base.specs.declared.settings.Transport.{Transport}
use Rattle.push_model.specs.obex_headers.specs.Runs.{objects_from}
use Rattle.push_model.specs.obex_session.specs.Laws.{without_fault}
use Rattle.push_model.specs.obex_session.specs.Past.{Heard, put_heard, puts_heard, open_from, stored_by}
use Rattle.push_model.specs.obex_session.proofs.SuccessLaws.{more_stored}
use Rattle.link_talk.specs.Gains.{beyond}
use Rattle.link_talk.specs.ObjectsHeard.{put_within, spelled_within}
use Rattle.push_laws.specs.Occurrences.{Occurrence}
use Rattle.push_laws.specs.Faults.{Marked, unmarked, heard_behind, heard_from, heard_over}
use Rattle.push_laws.specs.Readings.{closes, since_from, since}

-- ---- since the last closing

since_more : (psm : ℕ) (kept past : List Occurrence) (one : Occurrence) → since_from psm kept (past ++ one ∷ []) ≡ cond (closes psm one) [] (since_from psm kept past ++ one ∷ [])
since_more psm kept [] one = refl
since_more psm kept (first ∷ past) one = since_more psm (cond (closes psm first) [] (kept ++ first ∷ [])) past one

abbrev pub read : {Y : Type 0} → (Occurrence → Option Y) → ℕ → List Occurrence → List Y
read view psm past = filter_map view (since psm past)

pub read_more : {Y : Type 0} (view : Occurrence → Option Y) (psm : ℕ) (past : List Occurrence) (one : Occurrence) → closes psm one ≡ false → read view psm (past ++ one ∷ []) ≡ read view psm past ++ cons_option (view one) []
read_more view psm past one on =
    ap (filter_map view) (since_more psm [] past one ∙ cond-false _ _ _ on) ∙ filter_map-append view (since psm past) (one ∷ [])

pub read_same : {Y : Type 0} (view : Occurrence → Option Y) (psm : ℕ) (past : List Occurrence) (one : Occurrence) → closes psm one ≡ false → view one ≡ None → read view psm (past ++ one ∷ []) ≡ read view psm past
read_same view psm past one on none = read_more view psm past one on ∙ ap (λ o. read view psm past ++ cons_option o []) none ∙ append-nil (read view psm past)

pub read_closed : {Y : Type 0} (view : Occurrence → Option Y) (psm : ℕ) (past : List Occurrence) (one : Occurrence) → closes psm one ≡ true → read view psm (past ++ one ∷ []) ≡ []
read_closed view psm past one closed = ap (filter_map view) (since_more psm [] past one ∙ cond-true _ _ _ closed)

-- ---- what a list has more

pub drop_front : {X : Type 0} (xs ys : List X) → drop (length xs) (xs ++ ys) ≡ ys
drop_front [] ys = refl
drop_front (x ∷ xs) ys = drop_front xs ys

pub drop_same : {X : Type 0} (xs : List X) → drop (length xs) xs ≡ []
drop_same [] = refl
drop_same (x ∷ xs) = drop_same xs

-- ---- objects

-- with a packet more
pub stored_more : (most : ℕ) (past : List Heard) (one : Heard) → beyond (stored_by most past) (stored_by most (past ++ one ∷ [])) ≡ objects_from (open_from [] (puts_heard most past)) (put_heard most one ∷ [])
stored_more most past one = ap (beyond (stored_by most past)) (more_stored most past one) ∙ drop_front (stored_by most past) (objects_from (open_from [] (puts_heard most past)) (put_heard most one ∷ []))

-- where no call fails
puts_same : (most : ℕ) (packets : List (List ℕ)) → puts_heard most (without_fault packets) ≡ map (put_within most) packets
puts_same most [] = refl
puts_same most (packet ∷ packets) = ap (λ ps. put_within most packet ∷ ps) (puts_same most packets)

pub spelled_stored : (most : ℕ) (packets : List (List ℕ)) → stored_by most (without_fault packets) ≡ spelled_within most packets
spelled_stored most packets = ap (objects_from []) (puts_same most packets)

-- ---- marks

pub unmarked_more : (past : List Marked) (one : Marked) → unmarked (past ++ one ∷ []) ≡ unmarked past ++ one.occurrence ∷ []
unmarked_more past one = map-append (λ (m : Marked). m.occurrence) past (one ∷ [])

heard_last : (t : Transport) (before : List Occurrence) (kept : List Heard) (past : List Marked) (one : Marked) → heard_from t before kept (past ++ one ∷ []) ≡ heard_behind t (before ++ unmarked past) (heard_from t before kept past) one
heard_last t before kept [] one = ap (λ (os : List Occurrence). heard_behind t os kept one) (sym (append-nil before))
heard_last t before kept (first ∷ past) one =
    heard_last t (before ++ first.occurrence ∷ []) (heard_behind t before kept first) past one
    ∙ ap (λ (os : List Occurrence). heard_behind t os (heard_from t (before ++ first.occurrence ∷ []) (heard_behind t before kept first) past) one) (append_assoc before (first.occurrence ∷ []) (unmarked past))

pub heard_more : (t : Transport) (past : List Marked) (one : Marked) → heard_over t (past ++ one ∷ []) ≡ heard_behind t (unmarked past) (heard_over t past) one
heard_more t past one = heard_last t [] [] past one
