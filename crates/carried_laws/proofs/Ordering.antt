-- What comes to a server over its links comes in order where that is so of what passed on each of them.
use Rattle.std.proofs.Common.{inl, inr, ◌≡◌, ℕ, true, false, List, [], ◌∷◌, ◌++◌, Option, Some, None, refl, sym, ap, subst, ◌∙◌, append_assoc, append-nil}
use Rattle.std.specs.List.{filter_map, flat_map, cons_option}
use Rattle.std.proofs.lemmas.Bool.{cases_Bool}
use Rattle.push_laws.specs.link_talk.specs.bt_base.specs.declared.settings.Settings.{Settings}
use Rattle.push_laws.specs.link_talk.specs.capture.specs.Histories.{EachAfter}
use Rattle.push_laws.specs.push_model.specs.rfcomm_frames.specs.declared.connection.Role.TheVariants.{Initiator}
use Rattle.push_laws.specs.push_model.specs.rfcomm_frames.specs.Multiplexing.{Passed}
use Rattle.push_laws.specs.push_model.specs.Server.{Reacted, rfcomm_psm}
use Rattle.push_laws.specs.Carriage.{come_by}
use Rattle.push_laws.specs.Dialogs.{AllServeCarried}
use Rattle.push_laws.specs.Occurrences.{Occurrence, Came, done}
use Rattle.push_laws.specs.Premises.{AllGranted}
use Rattle.push_laws.specs.Readings.{closes, passed_by}
use Rattle.push_laws.proofs.Readings.{read_more, read_same}
use Rattle.carried_laws.specs.Orderly.{ComesInOrder, ComesNext, passed_on, AllServeOrderly}

-- each frame that comes does so in order, behind all that was
abbrev pub InOrderFrom : Settings → List Occurrence → List Occurrence → Type 0
InOrderFrom settings past [] = Unit {0}
InOrderFrom settings past (one ∷ rest) = ((sdu : List ℕ) → one ≡ Came rfcomm_psm sdu → ComesInOrder settings (passed_on past) sdu) × InOrderFrom settings (past ++ one ∷ []) rest

-- none comes behind the end of the channel
abbrev pub ComesLast : List Occurrence → Type 0
ComesLast [] = Unit {0}
ComesLast (one ∷ rest) = (closes rfcomm_psm one ≡ true → flat_map come_by rest ≡ []) × ComesLast rest

module _ (settings : Settings) where
  abbrev pub Next : List Passed → Passed → Type 0
  Next past p = ComesNext settings p.from past p.sdu

  pub order_both : (past xs ys : List Occurrence) → InOrderFrom settings past xs → InOrderFrom settings (past ++ xs) ys → InOrderFrom settings past (xs ++ ys)
  order_both past [] ys first second = subst (λ (before : List Occurrence). InOrderFrom settings before ys) (append-nil past) second
  order_both past (x ∷ xs) ys first second = (first.0, order_both (past ++ x ∷ []) xs ys first.1 (subst (λ (before : List Occurrence). InOrderFrom settings before ys) (sym (append_assoc past (x ∷ []) xs)) second))

  -- ---- no frame comes

  none_ahead : (xs ys : List (List ℕ)) → xs ++ ys ≡ [] → (xs ≡ []) × (ys ≡ [])
  none_ahead [] ys none = (refl, none)
  none_ahead (x ∷ xs) ys none = cc

  no_came : (one : Occurrence) (sdu : List ℕ) → come_by one ≡ [] → one ≡ Came rfcomm_psm sdu → ⊥
  no_came one sdu none is = let never : sdu ∷ [] ≡ [] = sym (ap come_by is) ∙ none in cc

  pub quiet_order : (xs past : List Occurrence) → flat_map come_by xs ≡ [] → InOrderFrom settings past xs
  quiet_order [] past none = tt
  quiet_order (one ∷ xs) past none = let cut = none_ahead (come_by one) (flat_map come_by xs) none in ((λ sdu is. absurd (no_came one sdu cut.0 is)), quiet_order xs (past ++ one ∷ []) cut.1)

  -- ---- on a link

  ends_none : (one : Occurrence) (sdu : List ℕ) → closes rfcomm_psm one ≡ true → one ≡ Came rfcomm_psm sdu → ⊥
  ends_none one sdu over is = let never : false ≡ true = sym (ap (closes rfcomm_psm) is) ∙ over in cc

  same_passed : (p q : Passed) → Some p ≡ Some q → p ≡ q
  same_passed p q e = cc

  no_passed : (p : Passed) → None ≡ Some p → ⊥
  no_passed p e = cc

  pub link_order : (xs past : List Occurrence) → EachAfter Next (passed_on past) (filter_map passed_by xs) → ComesLast xs → InOrderFrom settings past xs
  link_order [] past each last = tt
  link_order (one ∷ xs) past each last =
      elim (cases_Bool (closes rfcomm_psm one)) [ inl over ↦ ((λ sdu is. absurd (ends_none one sdu over is)), quiet_order xs (past ++ one ∷ []) (last.0 over)) | inr on ↦ by (λ each'. link_order xs (past ++ one ∷ []) each' last.1) on (passed_by one) refl each ]
    where
      by : (EachAfter Next (passed_on (past ++ one ∷ [])) (filter_map passed_by xs) → InOrderFrom settings (past ++ one ∷ []) xs) → closes rfcomm_psm one ≡ false → (o : Option Passed) → passed_by one ≡ o → EachAfter Next (passed_on past) (cons_option o (filter_map passed_by xs)) → InOrderFrom settings past (one ∷ xs)
      by goes on None e more = (
        (λ sdu is. absurd (no_passed (record { from = Initiator; sdu = sdu }) (sym e ∙ ap passed_by is))),
        goes (subst (λ (ps : List Passed). EachAfter Next ps (filter_map passed_by xs)) (sym (read_same passed_by rfcomm_psm past one on e)) more),
      )
      by goes on (Some p) e more = (
        (λ sdu is. subst (Next (passed_on past)) (same_passed p (record { from = Initiator; sdu = sdu }) (sym e ∙ ap passed_by is)) more.0),
        goes (subst (λ (ps : List Passed). EachAfter Next ps (filter_map passed_by xs)) (sym (read_more passed_by rfcomm_psm past one on ∙ ap (λ (o : Option Passed). passed_on past ++ cons_option o []) e)) more.1),
      )

  -- ---- what a server does besides

  pub orderly_serves : (list past : List Occurrence) (at : Reacted) → AllServeCarried AllGranted at list → InOrderFrom settings past list → AllServeOrderly settings past at list
  orderly_serves [] past at serves order = tt
  orderly_serves (one ∷ rest) past at serves order =
      (record { own = serves.0.own; granted = serves.0.answers; aside = serves.0.carried; orderly = order.0 }, orderly_serves rest (past ++ one ∷ []) (done one at) serves.1 order.1)
