-- A server ignores no request where each that has a response comes behind the response to the one before, read off what came and went.
use Rattle.std.proofs.Common.{◌≡◌, ◌≤◌, ◌+◌, ℕ, Bool, true, false, cond, ◌&&◌, ◌||◌, eqb, List, [], ◌∷◌, ◌++◌, length, filter_map, Option, Some, None, refl, sym, ap, subst, ◌∙◌, append-nil, arith, true≢false, if◌then◌else◌}
use Rattle.std.specs.Prelude.{not}
use Rattle.std.specs.List.{cons_option}
use Rattle.std.proofs.lemmas.Bool.{eqb-true, eq-eqb}
use Rattle.request_laws.specs.bt_base.specs.declared.settings.Settings.{Settings}
use Rattle.request_laws.specs.bt_base.specs.declared.settings.Transport.TheVariants.{L2cap}
use Rattle.request_laws.specs.bt_base.specs.Objects.{Object}
use Rattle.request_laws.specs.obex_session.specs.Calls.{session_behind}
use Rattle.request_laws.specs.obex_session.specs.Views.{is_silent}
use Rattle.request_laws.specs.push_model.specs.declared.outlet.Outlet.{Outlet}
use Rattle.request_laws.specs.push_model.specs.declared.outlet.Outlet.TheVariants.{Records, Direct, Muxed}
use Rattle.request_laws.specs.push_model.specs.Payloads.{IsSaid}
use Rattle.request_laws.specs.push_model.specs.Server.{Server, Reacted, Lent, lent_by, frame_lent, object_psm}
use Rattle.request_laws.specs.push_laws.specs.Answers.{said}
use Rattle.request_laws.specs.push_laws.specs.Laws.{new_over}
use Rattle.request_laws.specs.push_laws.specs.Occurrences.{Occurrence, Came, Went, Closed, LinkDown, Asked, Answering, done}
use Rattle.request_laws.specs.push_laws.specs.Parties.{sdu_if, ServesDirectly, AllServeDirectly}
use Rattle.request_laws.specs.push_laws.specs.Premises.{AllGranted, AllMayCome}
use Rattle.request_laws.specs.push_laws.specs.Readings.{came_on, packets_over}
use Rattle.request_laws.specs.push_laws.specs.Turns.{in_silence, due_behind, InTurn, TakesTurn}
use Rattle.request_laws.specs.push_laws.proofs.Gaining.{Clear, clear_more}
use Rattle.request_laws.specs.push_laws.proofs.Readings.{read_more, read_same, read_closed}
use Rattle.request_laws.specs.push_laws.proofs.Turns.{Stands, grants, still_more, may_come, first_clear, first_still}
use Rattle.request_laws.specs.Streams.{come_on}
use Rattle.orderly_laws.specs.Answered.{fresh_session, responses_due}
use Rattle.orderly_laws.proofs.Due.{due_one, due_none}

-- ---- what came, and how many responses went, on the channel of the object since the link came up

abbrev pub gone : Occurrence → List (List ℕ)
gone (Came psm sdu) = []
gone (Went psm sdu) = filter_map said (sdu_if (eqb psm object_psm) sdu)
gone (Closed psm) = []
gone LinkDown = []
gone Asked = []
gone (Answering answers) = []

abbrev pub more_came : List (List ℕ) → Occurrence → List (List ℕ)
more_came rs (Came psm sdu) = rs ++ sdu_if (eqb psm object_psm) sdu
more_came rs (Went psm sdu) = rs
more_came rs (Closed psm) = rs
more_came rs LinkDown = []
more_came rs Asked = rs
more_came rs (Answering answers) = rs

abbrev pub more_went : ℕ → Occurrence → ℕ
more_went m (Came psm sdu) = m
more_went m (Went psm sdu) = m + length (gone (Went psm sdu))
more_went m (Closed psm) = m
more_went m LinkDown = 0
more_went m Asked = m
more_went m (Answering answers) = m

-- no request that has a response comes before those of the ones before it went
abbrev pub MayAsk : Settings → (rs : List (List ℕ)) (m : ℕ) → Occurrence → Type 0
MayAsk settings rs m (Came psm sdu) = psm ≡ object_psm → is_silent (session_behind (fresh_session settings) rs) sdu ≡ false → responses_due settings rs ≤ m
MayAsk settings rs m (Went psm sdu) = Unit {0}
MayAsk settings rs m (Closed psm) = Unit {0}
MayAsk settings rs m LinkDown = Unit {0}
MayAsk settings rs m Asked = Unit {0}
MayAsk settings rs m (Answering answers) = Unit {0}

abbrev pub AskInTurn : Settings → (rs : List (List ℕ)) (m : ℕ) → List Occurrence → Type 0
AskInTurn settings rs m [] = Unit {0}
AskInTurn settings rs m (one ∷ rest) = MayAsk settings rs m one × AskInTurn settings (more_came rs one) (more_went m one) rest

-- at no time more went than are due
abbrev pub NoMoreGo : Settings → (rs : List (List ℕ)) (m : ℕ) → List Occurrence → Type 0
NoMoreGo settings rs m [] = m ≤ responses_due settings rs
NoMoreGo settings rs m (one ∷ rest) = (m ≤ responses_due settings rs) × NoMoreGo settings (more_came rs one) (more_went m one) rest

-- the channel of the object was closed since the link came up, and nothing comes on it then
abbrev pub more_closed : Bool → Occurrence → Bool
more_closed closed (Came psm sdu) = closed
more_closed closed (Went psm sdu) = closed
more_closed closed (Closed psm) = closed || eqb psm object_psm
more_closed closed LinkDown = false
more_closed closed Asked = closed
more_closed closed (Answering answers) = closed

abbrev pub NoneFollows : Bool → List Occurrence → Type 0
NoneFollows closed [] = Unit {0}
NoneFollows closed (one ∷ rest) = (closed ≡ true → come_on object_psm one ≡ []) × NoneFollows (more_closed closed one) rest

-- ---- flags

abbrev one_due : Bool → ℕ
one_due due = if due then 1 else 0

or_off : (b : Bool) → (b || false) ≡ b
or_off true = refl
or_off false = refl

turn_by : (due silent : Bool) (d m : ℕ) → (silent ≡ false → d ≤ m) → m + one_due due ≤ d → (due && not silent) ≡ false
turn_by false silent d m ask count = refl
turn_by true true d m ask count = refl
turn_by true false d m ask count = let few = ask refl in absurd (omega (arith, few, count))

none_due : (due silent : Bool) → (due && not silent) ≡ false → silent ≡ false → due ≡ false
none_due false silent turn loud = refl
none_due true true turn loud = absurd (true≢false loud)
none_due true false turn loud = absurd (true≢false turn)

-- ---- a response that goes was due

lent_same : (a b : Lent) → Some a ≡ Some b → a ≡ b
lent_same a b e = cc

went_none : (out : Option Outlet) (server : Server) (lent : Lent) (sdu : List ℕ) → lent_by out server ≡ Some lent → lent.psm ≡ object_psm → IsSaid lent.payload sdu → server.frame ≡ None → server.listener.service.response ≡ [] → sdu ≡ []
went_none None server lent sdu is at says frame response = let never : None ≡ Some lent = is in cc
went_none (Some Muxed) server lent sdu is at says frame response = let never : None ≡ Some lent = sym (ap frame_lent frame) ∙ is in cc
went_none (Some Records) server lent sdu is at says frame response = let never : 0x0001 ≡ 0x1001 = ap (λ (l : Lent). l.psm) (lent_same _ lent is) ∙ at in absurd (omega (arith, never))
went_none (Some Direct) server lent sdu is at says frame response = let same = lent_same _ lent is in subst (λ (l : Lent). IsSaid l.payload sdu) (sym same) says ∙ response

-- ---- what stands behind what came and went

module _ (settings : Settings) (before : List Object) where
  abbrev due_of : List (List ℕ) → ℕ
  due_of rs = responses_due settings rs

  abbrev silent_behind : List (List ℕ) → List ℕ → Bool
  silent_behind rs sdu = is_silent (session_behind (fresh_session settings) rs) sdu

  record Reached (past : List Occurrence) (due : Bool) (at : Reacted) (rs : List (List ℕ)) (m : ℕ) (closed : Bool) : Type 0 where
    clear : Clear settings before past at
    stands : Stands settings past due at.server
    count : m + one_due due ≤ responses_due settings rs
    same : closed ≡ false → packets_over L2cap past ≡ rs

  fewer : (m d : ℕ) (due : Bool) → m + one_due due ≤ d → m ≤ d
  fewer m d true count = omega (arith, count)
  fewer m d false count = omega (arith, count)

  -- ---- it comes in turn

  came_turn : (past : List Occurrence) (due : Bool) (at : Reacted) (rs : List (List ℕ)) (m : ℕ) (closed : Bool) (psm : ℕ) (sdu : List ℕ) → Reached past due at rs m closed → MayAsk settings rs m (Came psm sdu) → (closed ≡ true → come_on object_psm (Came psm sdu) ≡ [])
      → psm ≡ object_psm → (closed ≡ false) × ((due && not (in_silence settings past sdu)) ≡ false)
  came_turn past due at rs m true psm sdu r ask none object =
      let never : sdu_if (eqb psm object_psm) sdu ≡ [] = none refl in
      let some : sdu ∷ [] ≡ [] = sym (ap (λ (here : Bool). sdu_if here sdu) (eq-eqb psm object_psm object)) ∙ never in
      absurd cc
  came_turn past due at rs m false psm sdu r ask none object =
      let silent : in_silence settings past sdu ≡ silent_behind rs sdu = ap (λ (l : List (List ℕ)). silent_behind l sdu) (r.same refl) in
      (refl, ap (λ (b : Bool). due && not b) silent ∙ turn_by due (silent_behind rs sdu) (due_of rs) m (ask object) r.count)

  in_turn : (past : List Occurrence) (due : Bool) (at : Reacted) (rs : List (List ℕ)) (m : ℕ) (closed : Bool) (one : Occurrence) → Reached past due at rs m closed → ServesDirectly AllGranted at one → MayAsk settings rs m one → (closed ≡ true → come_on object_psm one ≡ [])
      → InTurn settings past due one
  in_turn past due at rs m closed (Came psm sdu) r serves ask none = (serves.direct, λ object. (came_turn past due at rs m closed psm sdu r ask none object).1)
  in_turn past due at rs m closed (Went psm sdu) r serves ask none = tt
  in_turn past due at rs m closed (Closed psm) r serves ask none = tt
  in_turn past due at rs m closed LinkDown r serves ask none = tt
  in_turn past due at rs m closed Asked r serves ask none = tt
  in_turn past due at rs m closed (Answering answers) r serves ask none = tt

  -- ---- the counts

  abbrev IsCounted : List (List ℕ) → ℕ → Bool → Type 0
  IsCounted rs m due = m + one_due due ≤ responses_due settings rs

  came_count : (past : List Occurrence) (due : Bool) (at : Reacted) (rs : List (List ℕ)) (m : ℕ) (closed : Bool) (psm : ℕ) (sdu : List ℕ) → Reached past due at rs m closed → MayAsk settings rs m (Came psm sdu) → (closed ≡ true → come_on object_psm (Came psm sdu) ≡ [])
      → IsCounted (more_came rs (Came psm sdu)) m (due_behind settings past due (Came psm sdu))
  came_count past due at rs m closed psm sdu r ask none = by (eqb psm object_psm) refl
    where
      loud_by : (silent : Bool) → silent_behind rs sdu ≡ silent → in_silence settings past sdu ≡ silent → (due && not silent) ≡ false → IsCounted (rs ++ sdu ∷ []) m (due || not (in_silence settings past sdu))
      loud_by true quiet same turn =
          subst (λ (b : Bool). IsCounted (rs ++ sdu ∷ []) m (due || not b)) (sym same)
          (subst (IsCounted (rs ++ sdu ∷ []) m) (sym (or_off due)) (subst (λ (n : ℕ). m + one_due due ≤ n) (sym (due_none settings rs sdu quiet)) r.count))
      loud_by false loud same turn =
          let off : due ≡ false = none_due due false turn refl in
          let count : m + 0 ≤ responses_due settings rs = subst (IsCounted rs m) off r.count in
          let more = due_one settings rs sdu loud in
          subst (λ (b : Bool). IsCounted (rs ++ sdu ∷ []) m (due || not b)) (sym same)
          (subst (λ (b : Bool). IsCounted (rs ++ sdu ∷ []) m (b || true)) (sym off) (omega (arith, count, more)))

      by : (here : Bool) → eqb psm object_psm ≡ here → IsCounted (rs ++ sdu_if here sdu) m (due || (here && not (in_silence settings past sdu)))
      by false is = subst (IsCounted (rs ++ []) m) (sym (or_off due)) (subst (λ (l : List (List ℕ)). IsCounted l m due) (sym (append-nil rs)) r.count)
      by true is =
          let turn = came_turn past due at rs m closed psm sdu r ask none (eqb-true psm object_psm is) in
          let same : in_silence settings past sdu ≡ silent_behind rs sdu = ap (λ (l : List (List ℕ)). silent_behind l sdu) (r.same turn.0) in
          loud_by (silent_behind rs sdu) refl same (ap (λ (b : Bool). due && not b) (sym same) ∙ turn.1)

  went_count : (past : List Occurrence) (due : Bool) (at : Reacted) (rs : List (List ℕ)) (m : ℕ) (closed : Bool) (psm : ℕ) (sdu : List ℕ) → Reached past due at rs m closed → ServesDirectly AllGranted at (Went psm sdu)
      → IsCounted rs (more_went m (Went psm sdu)) (due_behind settings past due (Went psm sdu))
  went_count past due at rs m closed psm sdu r serves = by (eqb psm object_psm) refl
    where
      few_by : (goes : Bool) (response : List ℕ) → (goes ≡ false → response ≡ []) → m + one_due goes ≤ responses_due settings rs → (m + length (cons_option (said response) [])) + 0 ≤ responses_due settings rs
      few_by goes [] none count = let few = fewer m (due_of rs) goes count in omega (arith, few)
      few_by true (octet ∷ octets) none count = omega (arith, count)
      few_by false (octet ∷ octets) none count = let never : octet ∷ octets ≡ [] = none refl in absurd cc

      by : (here : Bool) → eqb psm object_psm ≡ here → IsCounted rs (m + length (filter_map said (sdu_if here sdu))) (cond here false due)
      by false is = subst (λ (n : ℕ). n + one_due due ≤ responses_due settings rs) (plus m) r.count
        where
          plus : (n : ℕ) → n ≡ n + 0
          plus n = omega arith
      by true is =
          let own = serves.own in
          few_by due sdu (λ off. went_none at.server.lent at.server own.0 sdu own.1 (own.2 ∙ eqb-true psm object_psm is) own.3 r.stands.calm.no_frame (r.stands.free off)) r.count

  count_more : (past : List Occurrence) (due : Bool) (at : Reacted) (rs : List (List ℕ)) (m : ℕ) (closed : Bool) (one : Occurrence) → Reached past due at rs m closed → ServesDirectly AllGranted at one → MayAsk settings rs m one → (closed ≡ true → come_on object_psm one ≡ [])
      → IsCounted (more_came rs one) (more_went m one) (due_behind settings past due one)
  count_more past due at rs m closed (Came psm sdu) r serves ask none = came_count past due at rs m closed psm sdu r ask none
  count_more past due at rs m closed (Went psm sdu) r serves ask none = went_count past due at rs m closed psm sdu r serves
  count_more past due at rs m closed (Closed psm) r serves ask none = by (eqb psm object_psm)
    where
      by : (here : Bool) → IsCounted rs m (cond here false due)
      by true = let few = fewer m (due_of rs) due r.count in omega (arith, few)
      by false = r.count
  count_more past due at rs m closed LinkDown r serves ask none = let nothing : 0 + 0 ≤ 0 = omega arith in nothing
  count_more past due at rs m closed Asked r serves ask none = r.count
  count_more past due at rs m closed (Answering answers) r serves ask none = r.count

  -- ---- what came on the channel that is there is all that came on the link

  abbrev IsSame : List Occurrence → List (List ℕ) → Bool → Type 0
  IsSame past rs closed = closed ≡ false → packets_over L2cap past ≡ rs

  same_more : (past : List Occurrence) (rs : List (List ℕ)) (closed : Bool) (one : Occurrence) → IsSame past rs closed → IsSame (past ++ one ∷ []) (more_came rs one) (more_closed closed one)
  same_more past rs closed (Came psm sdu) same = λ off. read_more (came_on object_psm) object_psm past (Came psm sdu) refl ∙ (ap (λ (l : List (List ℕ)). l ++ cons_option (came_on object_psm (Came psm sdu)) []) (same off) ∙ by (eqb psm object_psm))
    where
      by : (here : Bool) → rs ++ cons_option (cond here (Some sdu) None) [] ≡ rs ++ sdu_if here sdu
      by true = refl
      by false = refl
  same_more past rs closed (Went psm sdu) same = λ off. read_same (came_on object_psm) object_psm past (Went psm sdu) refl refl ∙ same off
  same_more past rs closed (Closed psm) same = by closed (eqb psm object_psm) refl same
    where
      by : (shut here : Bool) → eqb psm object_psm ≡ here → IsSame past rs shut → (shut || here) ≡ false → packets_over L2cap (past ++ Closed psm ∷ []) ≡ rs
      by true here is same' off = absurd (true≢false off)
      by false true is same' off = absurd (true≢false off)
      by false false is same' off = read_same (came_on object_psm) object_psm past (Closed psm) is refl ∙ same' refl
  same_more past rs closed LinkDown same = λ off. read_closed (came_on object_psm) object_psm past LinkDown refl
  same_more past rs closed Asked same = λ off. read_same (came_on object_psm) object_psm past Asked refl refl ∙ same off
  same_more past rs closed (Answering answers) same = λ off. read_same (came_on object_psm) object_psm past (Answering answers) refl refl ∙ same off

  -- ---- all of them

  reaches : (rest past : List Occurrence) (due : Bool) (at : Reacted) (rs : List (List ℕ)) (m : ℕ) (closed : Bool) → Reached past due at rs m closed → AllServeDirectly AllGranted at rest → AskInTurn settings rs m rest → NoneFollows closed rest
      → AllMayCome settings past at rest × NoMoreGo settings rs m rest
  reaches [] past due at rs m closed r serve ask follow = (tt, fewer m (due_of rs) due r.count)
  reaches (one ∷ rest) past due at rs m closed r serve ask follow =
      let turn : TakesTurn settings past due at one = record { own = serve.0.own; granted = serve.0.answers; turn = in_turn past due at rs m closed one r serve.0 ask.0 follow.0 } in
      let later = still_more settings before past one due at r.clear.holds.upholds.listens.serves.enough (grants one at r.clear.spared) turn.own turn.turn r.stands in
      let may = may_come settings before past one due at r.clear turn r.stands later in
      let next : Reached (past ++ one ∷ []) (due_behind settings past due one) (done one at) (more_came rs one) (more_went m one) (more_closed closed one) = record {
        clear = clear_more settings before past one at r.clear may;
        stands = later;
        count = count_more past due at rs m closed one r serve.0 ask.0 follow.0;
        same = same_more past rs closed one r.same;
      } in
      let more = reaches rest (past ++ one ∷ []) (due_behind settings past due one) (done one at) (more_came rs one) (more_went m one) (more_closed closed one) next serve.1 ask.1 follow.1 in
      ((may, more.0), (fewer m (due_of rs) due r.count, more.1))

  -- Where requests come so, none is ignored, and at no time more responses went than are due.
  pub none-ignored : (occurrences : List Occurrence) → AllServeDirectly AllGranted (new_over settings before) occurrences → AskInTurn settings [] 0 occurrences → NoneFollows false occurrences → AllMayCome settings [] (new_over settings before) occurrences × NoMoreGo settings [] 0 occurrences
  none-ignored occurrences serve ask follow =
      let nothing : 0 + 0 ≤ 0 = omega arith in
      reaches occurrences [] false (new_over settings before) [] 0 false (record { clear = first_clear settings before; stands = first_still settings before; count = nothing; same = λ off. refl }) serve ask follow
