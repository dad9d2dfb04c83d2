-- A server ignores no request where each that has a response comes behind the response to the one before it on its channel, as the closing of a channel lets the next
-- one begin anew.
use Rattle.std.proofs.Common.{◌≡◌, ◌≤◌, ◌+◌, ℕ, Bool, true, false, cond, ◌&&◌, ◌||◌, eqb, List, [], ◌∷◌, ◌++◌, length, filter_map, Option, Some, None, refl, sym, ap, subst, ◌∙◌, arith, true≢false, if◌then◌else◌}
use Rattle.std.specs.Prelude.{not}
use Rattle.std.specs.List.{cons_option}
use Rattle.std.proofs.lemmas.Bool.{eqb-true}
use Rattle.request_laws.specs.bt_base.specs.declared.settings.Settings.{Settings}
use Rattle.request_laws.specs.bt_base.specs.declared.settings.Transport.TheVariants.{L2cap}
use Rattle.request_laws.specs.bt_base.specs.Objects.{Object}
use Rattle.request_laws.specs.obex_session.specs.Calls.{session_behind}
use Rattle.request_laws.specs.obex_session.specs.Views.{is_silent}
use Rattle.request_laws.specs.push_model.specs.declared.outlet.Outlet.{Outlet}
use Rattle.request_laws.specs.push_model.specs.declared.outlet.Outlet.TheVariants.{Records, Direct, Muxed}
use Rattle.request_laws.specs.push_model.specs.Payloads.{IsSaid}
use Rattle.request_laws.specs.push_model.specs.Server.{Server, Reacted, Lent, lent_by, frame_lent, object_psm}
use Rattle.request_laws.specs.push_laws.specs.Answers.{said}
use Rattle.request_laws.specs.push_laws.specs.Laws.{new_over}
use Rattle.request_laws.specs.push_laws.specs.Occurrences.{Occurrence, Came, Went, Closed, LinkDown, Asked, Answering, done}
use Rattle.request_laws.specs.push_laws.specs.Parties.{sdu_if, ServesDirectly, AllServeDirectly}
use Rattle.request_laws.specs.push_laws.specs.Premises.{AllGranted, AllMayCome}
use Rattle.request_laws.specs.push_laws.specs.Readings.{packets_over}
use Rattle.request_laws.specs.push_laws.specs.Turns.{in_silence, due_behind, InTurn, TakesTurn}
use Rattle.request_laws.specs.push_laws.proofs.Gaining.{Clear, clear_more}
use Rattle.request_laws.specs.push_laws.proofs.Turns.{Stands, grants, still_more, may_come, first_clear, first_still}
use Rattle.request_laws.specs.host_laws.proofs.Gains.{state, state_is}
use Rattle.orderly_laws.specs.Answered.{fresh_session, responses_due}
use Rattle.orderly_laws.proofs.Counting.{gone, MayAsk}
use Rattle.orderly_laws.proofs.Due.{due_one, due_none}

-- ---- how many responses went since the channel of the object was last closed

abbrev pub went : ℕ → Occurrence → ℕ
went m (Came psm sdu) = m
went m (Went psm sdu) = m + length (gone (Went psm sdu))
went m (Closed psm) = cond (eqb psm object_psm) 0 m
went m LinkDown = 0
went m Asked = m
went m (Answering answers) = m

-- Where no more went than are due, what comes next may be asked, and so on behind it, for as long as it lasts; and then this is so.
abbrev pub Proceeds : Settings → Type 0 → (rs : List (List ℕ)) (m : ℕ) → List Occurrence → Type 0
Proceeds settings G rs m [] = m ≤ responses_due settings rs → G
Proceeds settings G rs m (one ∷ rest) = m ≤ responses_due settings rs → MayAsk settings rs m one × Proceeds settings G (state rs one) (went m one) rest

-- ---- flags

abbrev one_due : Bool → ℕ
one_due due = if due then 1 else 0

or_off : (b : Bool) → (b || false) ≡ b
or_off true = refl
or_off false = refl

turn_by : (due silent : Bool) (d m : ℕ) → (silent ≡ false → d ≤ m) → m + one_due due ≤ d → (due && not silent) ≡ false
turn_by false silent d m ask count = refl
turn_by true true d m ask count = refl
turn_by true false d m ask count = let few = ask refl in absurd (omega (arith, few, count))

none_due : (due silent : Bool) → (due && not silent) ≡ false → silent ≡ false → due ≡ false
none_due false silent turn loud = refl
none_due true true turn loud = absurd (true≢false loud)
none_due true false turn loud = absurd (true≢false turn)

-- ---- a response that goes was due

lent_same : (a b : Lent) → Some a ≡ Some b → a ≡ b
lent_same a b e = cc

went_none : (out : Option Outlet) (server : Server) (lent : Lent) (sdu : List ℕ) → lent_by out server ≡ Some lent → lent.psm ≡ object_psm → IsSaid lent.payload sdu → server.frame ≡ None → server.listener.service.response ≡ [] → sdu ≡ []
went_none None server lent sdu is at says frame response = let never : None ≡ Some lent = is in cc
went_none (Some Muxed) server lent sdu is at says frame response = let never : None ≡ Some lent = sym (ap frame_lent frame) ∙ is in cc
went_none (Some Records) server lent sdu is at says frame response = let never : 0x0001 ≡ 0x1001 = ap (λ (l : Lent). l.psm) (lent_same _ lent is) ∙ at in absurd (omega (arith, never))
went_none (Some Direct) server lent sdu is at says frame response = let same = lent_same _ lent is in subst (λ (l : Lent). IsSaid l.payload sdu) (sym same) says ∙ response

-- ---- what stands behind what came and went

module _ (settings : Settings) (before : List Object) where
  abbrev silent_behind : List (List ℕ) → List ℕ → Bool
  silent_behind rs sdu = is_silent (session_behind (fresh_session settings) rs) sdu

  abbrev IsCounted : List (List ℕ) → ℕ → Bool → Type 0
  IsCounted rs m due = m + one_due due ≤ responses_due settings rs

  record Reached (past : List Occurrence) (due : Bool) (at : Reacted) (rs : List (List ℕ)) (m : ℕ) : Type 0 where
    clear : Clear settings before past at
    stands : Stands settings past due at.server
    count : IsCounted rs m due
    same : packets_over L2cap past ≡ rs

  fewer : (m d : ℕ) (due : Bool) → m + one_due due ≤ d → m ≤ d
  fewer m d true count = omega (arith, count)
  fewer m d false count = omega (arith, count)

  -- ---- it comes in turn

  came_turn : (past : List Occurrence) (due : Bool) (at : Reacted) (rs : List (List ℕ)) (m : ℕ) (psm : ℕ) (sdu : List ℕ) → Reached past due at rs m → MayAsk settings rs m (Came psm sdu) → psm ≡ object_psm → (due && not (in_silence settings past sdu)) ≡ false
  came_turn past due at rs m psm sdu r ask object =
      let silent : in_silence settings past sdu ≡ silent_behind rs sdu = ap (λ (l : List (List ℕ)). silent_behind l sdu) r.same in
      ap (λ (b : Bool). due && not b) silent ∙ turn_by due (silent_behind rs sdu) (responses_due settings rs) m (ask object) r.count

  in_turn : (past : List Occurrence) (due : Bool) (at : Reacted) (rs : List (List ℕ)) (m : ℕ) (one : Occurrence) → Reached past due at rs m → ServesDirectly AllGranted at one → MayAsk settings rs m one → InTurn settings past due one
  in_turn past due at rs m (Came psm sdu) r serves ask = (serves.direct, came_turn past due at rs m psm sdu r ask)
  in_turn past due at rs m (Went psm sdu) r serves ask = tt
  in_turn past due at rs m (Closed psm) r serves ask = tt
  in_turn past due at rs m LinkDown r serves ask = tt
  in_turn past due at rs m Asked r serves ask = tt
  in_turn past due at rs m (Answering answers) r serves ask = tt

  -- ---- the counts

  came_count : (past : List Occurrence) (due : Bool) (at : Reacted) (rs : List (List ℕ)) (m : ℕ) (psm : ℕ) (sdu : List ℕ) → Reached past due at rs m → MayAsk settings rs m (Came psm sdu) → IsCounted (state rs (Came psm sdu)) m (due_behind settings past due (Came psm sdu))
  came_count past due at rs m psm sdu r ask = by (eqb psm object_psm) refl
    where
      loud_by : (silent : Bool) → silent_behind rs sdu ≡ silent → in_silence settings past sdu ≡ silent → (due && not silent) ≡ false → IsCounted (rs ++ sdu ∷ []) m (due || not (in_silence settings past sdu))
      loud_by true quiet same turn =
          subst (λ (b : Bool). IsCounted (rs ++ sdu ∷ []) m (due || not b)) (sym same)
          (subst (IsCounted (rs ++ sdu ∷ []) m) (sym (or_off due)) (subst (λ (n : ℕ). m + one_due due ≤ n) (sym (due_none settings rs sdu quiet)) r.count))
      loud_by false loud same turn =
          let off : due ≡ false = none_due due false turn refl in
          let count : m + 0 ≤ responses_due settings rs = subst (IsCounted rs m) off r.count in
          let more = due_one settings rs sdu loud in
          subst (λ (b : Bool). IsCounted (rs ++ sdu ∷ []) m (due || not b)) (sym same)
          (subst (λ (b : Bool). IsCounted (rs ++ sdu ∷ []) m (b || true)) (sym off) (omega (arith, count, more)))

      by : (here : Bool) → eqb psm object_psm ≡ here → IsCounted (cond here (rs ++ sdu ∷ []) rs) m (due || (here && not (in_silence settings past sdu)))
      by false is = subst (IsCounted rs m) (sym (or_off due)) r.count
      by true is =
          let turn = came_turn past due at rs m psm sdu r ask (eqb-true psm object_psm is) in
          let same : in_silence settings past sdu ≡ silent_behind rs sdu = ap (λ (l : List (List ℕ)). silent_behind l sdu) r.same in
          loud_by (silent_behind rs sdu) refl same (ap (λ (b : Bool). due && not b) (sym same) ∙ turn)

  went_count : (past : List Occurrence) (due : Bool) (at : Reacted) (rs : List (List ℕ)) (m : ℕ) (psm : ℕ) (sdu : List ℕ) → Reached past due at rs m → ServesDirectly AllGranted at (Went psm sdu) → IsCounted rs (went m (Went psm sdu)) (due_behind settings past due (Went psm sdu))
  went_count past due at rs m psm sdu r serves = by (eqb psm object_psm) refl
    where
      few_by : (goes : Bool) (response : List ℕ) → (goes ≡ false → response ≡ []) → m + one_due goes ≤ responses_due settings rs → (m + length (cons_option (said response) [])) + 0 ≤ responses_due settings rs
      few_by goes [] none count = let few = fewer m (responses_due settings rs) goes count in omega (arith, few)
      few_by true (octet ∷ octets) none count = omega (arith, count)
      few_by false (octet ∷ octets) none count = let never : octet ∷ octets ≡ [] = none refl in absurd cc

      by : (here : Bool) → eqb psm object_psm ≡ here → IsCounted rs (m + length (filter_map said (sdu_if here sdu))) (cond here false due)
      by false is = subst (λ (n : ℕ). n + one_due due ≤ responses_due settings rs) (plus m) r.count
        where
          plus : (n : ℕ) → n ≡ n + 0
          plus n = omega arith
      by true is =
          let own = serves.own in
          few_by due sdu (λ off. went_none at.server.lent at.server own.0 sdu own.1 (own.2 ∙ eqb-true psm object_psm is) own.3 r.stands.calm.no_frame (r.stands.free off)) r.count

  count_more : (past : List Occurrence) (due : Bool) (at : Reacted) (rs : List (List ℕ)) (m : ℕ) (one : Occurrence) → Reached past due at rs m → ServesDirectly AllGranted at one → MayAsk settings rs m one → IsCounted (state rs one) (went m one) (due_behind settings past due one)
  count_more past due at rs m (Came psm sdu) r serves ask = came_count past due at rs m psm sdu r ask
  count_more past due at rs m (Went psm sdu) r serves ask = went_count past due at rs m psm sdu r serves
  count_more past due at rs m (Closed psm) r serves ask = by (eqb psm object_psm)
    where
      by : (here : Bool) → IsCounted (cond here [] rs) (cond here 0 m) (cond here false due)
      by true = let nothing : 0 + 0 ≤ 0 = omega arith in nothing
      by false = r.count
  count_more past due at rs m LinkDown r serves ask = let nothing : 0 + 0 ≤ 0 = omega arith in nothing
  count_more past due at rs m Asked r serves ask = r.count
  count_more past due at rs m (Answering answers) r serves ask = r.count

  -- ---- all of them

  reaches : (G : Type 0) (rest past : List Occurrence) (due : Bool) (at : Reacted) (rs : List (List ℕ)) (m : ℕ) → Reached past due at rs m → AllServeDirectly AllGranted at rest → Proceeds settings G rs m rest → AllMayCome settings past at rest × G
  reaches G [] past due at rs m r serve proceeds = (tt, proceeds (fewer m (responses_due settings rs) due r.count))
  reaches G (one ∷ rest) past due at rs m r serve proceeds =
      let asks = proceeds (fewer m (responses_due settings rs) due r.count) in
      let turn : TakesTurn settings past due at one = record { own = serve.0.own; granted = serve.0.answers; turn = in_turn past due at rs m one r serve.0 asks.0 } in
      let later = still_more settings before past one due at r.clear.holds.upholds.listens.serves.enough (grants one at r.clear.spared) turn.own turn.turn r.stands in
      let may = may_come settings before past one due at r.clear turn r.stands later in
      let next : Reached (past ++ one ∷ []) (due_behind settings past due one) (done one at) (state rs one) (went m one) = record {
        clear = clear_more settings before past one at r.clear may;
        stands = later;
        count = count_more past due at rs m one r serve.0 asks.0;
        same = state_is past one ∙ ap (λ (l : List (List ℕ)). state l one) r.same;
      } in
      let more = reaches G rest (past ++ one ∷ []) (due_behind settings past due one) (done one at) (state rs one) (went m one) next serve.1 asks.1 in
      ((may, more.0), more.1)

  -- Where requests come so, none is ignored, and what was to be so then is so.
  pub none-ignored : (G : Type 0) (occurrences : List Occurrence) → AllServeDirectly AllGranted (new_over settings before) occurrences → Proceeds settings G [] 0 occurrences → AllMayCome settings [] (new_over settings before) occurrences × G
  none-ignored G occurrences serve proceeds =
      let nothing : 0 + 0 ≤ 0 = omega arith in
      reaches G occurrences [] false (new_over settings before) [] 0 (record { clear = first_clear settings before; stands = first_still settings before; count = nothing; same = refl }) serve proceeds
