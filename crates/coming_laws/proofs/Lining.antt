-- What a unit tells of the link of a host, by the links that its units show.
use Rattle.std.proofs.Common.{◌≡◌, ◌&&◌, ℕ, Bool, true, false, cond, eqb, List, [], ◌∷◌, ◌++◌, Option, Some, None, is_none, is_some, refl, sym, ap, subst, ◌∙◌, inl, inr}
use Rattle.std.specs.Prelude.{slice_index}
use Rattle.std.specs.Option.{option_map}
use Rattle.std.proofs.lemmas.Bool.{cases_Bool, eqb-true}
use Rattle.outcome_laws.specs.unit_laws.specs.scenario_laws.specs.acl_fragments.specs.Pieces.{Piece, starts}
use Rattle.outcome_laws.specs.unit_laws.specs.scenario_laws.specs.acl_fragments.specs.Answers.{Answer, Pdu as Whole, More, Dropped, answer}
use Rattle.outcome_laws.specs.unit_laws.specs.scenario_laws.specs.capture.specs.Links.{Link, Linking, LinkNews, Answered, LinkEnded, NoNews, link_news, linking}
use Rattle.outcome_laws.specs.unit_laws.specs.scenario_laws.specs.capture.specs.Moves.{Move}
use Rattle.outcome_laws.specs.unit_laws.specs.scenario_laws.specs.capture.specs.Pdus.{pdus}
use Rattle.outcome_laws.specs.unit_laws.specs.scenario_laws.specs.h4_framing.specs.Packets.{Packet, Command, Acl, Sync, Event}
use Rattle.outcome_laws.specs.unit_laws.specs.scenario_laws.specs.hci_packets.specs.Events.{PlainEvent, Other, event_refusal}
use Rattle.outcome_laws.specs.unit_laws.specs.scenario_laws.specs.host_link.specs.CommandFlows.{is_number}
use Rattle.outcome_laws.specs.unit_laws.specs.scenario_laws.specs.host_link.specs.Hearing.{PlainNews, Nothing, LinkUp, LinkFailed, LinkDown, Pdu as News_pdu, piece_on, piece_news, joined_news, disconnection_news, event_news, news_of}
use Rattle.outcome_laws.specs.unit_laws.specs.scenario_laws.specs.host_link.specs.Lines.{Line, longest_pdu}
use Rattle.outcome_laws.specs.unit_laws.specs.scenario_laws.specs.host_link.specs.Stands.{Stands, into}
use Rattle.outcome_laws.specs.unit_laws.specs.scenario_laws.specs.world_model.specs.PerLink.{Linkage}
use Rattle.outcome_laws.specs.cause_laws.specs.FirstCauses.{reason_told}
use Rattle.outcome_laws.specs.unit_laws.proofs.Hearing.{news_adds, heard_shown}
use Rattle.outcome_laws.specs.unit_laws.proofs.Shown.{shown}
use Rattle.outcome_laws.proofs.Units.{TellsSo, unit_tells}
use Rattle.coming_laws.specs.OwnLinks.{brings_link}

-- ---- where a line is told so

-- a link that comes up is the only one, one that failed was asked for and answered so, and one that ends was up
abbrev pub IsToldAt : PlainNews → LinkNews → Line → Type 0
IsToldAt Nothing answer line = Unit {0}
IsToldAt LinkUp answer line = is_none line.link ≡ true
IsToldAt (LinkFailed status) answer line = (line.asked ≡ true) × ((eqb status 0 ≡ false) × ((handle : ℕ) × (answer ≡ Answered status handle)))
IsToldAt (LinkDown reason) answer line = is_some line.link ≡ true
IsToldAt (News_pdu channel octets) answer line = Unit {0}

-- and where it was asked for, and answered so, it is told that it failed
abbrev pub FailsSo : LinkNews → PlainNews → Line → Type 0
FailsSo (Answered status handle) news line = line.asked ≡ true → eqb status 0 ≡ false → news ≡ LinkFailed status
FailsSo answer news line = Unit {0}

abbrev pub IsUnitSo : PlainNews → LinkNews → Line → Type 0
IsUnitSo news answer line = IsToldAt news answer line × FailsSo answer news line

joined_at : (judged : Answer) (line : Line) → IsUnitSo (joined_news judged) NoNews line
joined_at (Whole channel pdu) line = (tt, tt)
joined_at More line = (tt, tt)
joined_at (Dropped reason) line = (tt, tt)

piece_at : (found : Option Piece) (line : Line) → IsUnitSo (piece_news found line) NoNews line
piece_at None line = (tt, tt)
piece_at (Some piece) line = joined_at (answer longest_pdu line.joining (starts piece.boundary) piece.octets) line

never : {X : Type 0} → false ≡ true → X
never is = absurd cc

made_at : (line : Line) (status handle : ℕ) (asked made free : Bool) → line.asked ≡ asked → eqb status 0 ≡ made → is_none line.link ≡ free
    → IsUnitSo (cond asked (cond made (cond free LinkUp Nothing) (LinkFailed status)) Nothing) (Answered status handle) line
made_at line status handle false made free is done off = (tt, λ on failed. never (sym is ∙ on))
made_at line status handle true true true is done off = (off, λ on failed. never (sym failed ∙ done))
made_at line status handle true true false is done off = (tt, λ on failed. never (sym failed ∙ done))
made_at line status handle true false free is done off = ((is, (done, (handle, refl))), λ on failed. refl)

number_some : (handle : ℕ) (link : Option ℕ) → is_number handle link ≡ true → is_some link ≡ true
number_some handle None is = is
number_some handle (Some other) is = refl

down_at : (params : List ℕ) (handle : ℕ) (line : Line) → IsUnitSo (disconnection_news (slice_index params 0) handle (slice_index params 3) line) (cond (eqb (slice_index params 0) 0) (LinkEnded handle) NoNews) line
down_at params handle line = by (eqb (slice_index params 0) 0) (is_number handle line.link) refl
  where
    by : (success whose : Bool) → is_number handle line.link ≡ whose → IsUnitSo (cond (success && whose) (LinkDown (slice_index params 3)) Nothing) (cond success (LinkEnded handle) NoNews) line
    by true true is = (number_some handle line.link is, tt)
    by true false is = (tt, tt)
    by false whose is = (tt, tt)

other_news : (a b c d : Bool) (code : ℕ) (params : List ℕ) (line : Line) (one two three four : PlainEvent) → event_news (Some one) line ≡ Nothing → event_news (Some two) line ≡ Nothing → event_news (Some three) line ≡ Nothing → event_news (Some four) line ≡ Nothing
    → event_news (Some (cond a one (cond b two (cond c three (cond d four (Other code params)))))) line ≡ Nothing
other_news true b c d code params line one two three four e f g h = e
other_news false true c d code params line one two three four e f g h = f
other_news false false true d code params line one two three four e f g h = g
other_news false false false true code params line one two three four e f g h = h
other_news false false false false code params line one two three four e f g h = refl

abbrev EventAt : Line → ℕ → List ℕ → Type 0
EventAt line code params = IsUnitSo (news_of (Event code params) line) (link_news (into (Event code params))) line

made_told : (line : Line) (params : List ℕ) → is_none (event_refusal 0x03 params) ≡ true → EventAt line 0x03 params
made_told line params fine = rw fine (made_at line (slice_index params 0) _ line.asked (eqb (slice_index params 0) 0) (is_none line.link) refl refl refl)

ended_told : (line : Line) (params : List ℕ) → is_none (event_refusal 0x05 params) ≡ true → EventAt line 0x05 params
ended_told line params fine = rw fine (down_at params _ line)

event_told : (line : Line) (code : ℕ) (params : List ℕ) → EventAt line code params
event_told line code params =
    let claim : ℕ → Type 0 = λ k. is_none (event_refusal k params) ≡ true → EventAt line k params in
    elim (cases_Bool (is_none (event_refusal code params))) [
      | inr wrong ↦ rw wrong (tt, tt)
      | inl fine ↦
          elim (cases_Bool (eqb code 0x03)) [
            | inl is ↦ subst claim (sym (eqb-true code 0x03 is)) (λ f. made_told line params f) fine
            | inr no3 ↦
                elim (cases_Bool (eqb code 0x05)) [
                  | inl is ↦ subst claim (sym (eqb-true code 0x05 is)) (λ f. ended_told line params f) fine
                  | inr no5 ↦
                      rw (fine, no3, no5)
                      (subst (λ (news : PlainNews). IsUnitSo news NoNews line) (sym (other_news (eqb code 0x04) (eqb code 0x0E) (eqb code 0x0F) (eqb code 0x13) code params line _ _ _ _ refl refl refl refl)) (tt, tt))
                ]
          ]
    ]

pub unit_at : (unit : Packet) (line : Line) → IsUnitSo (news_of unit line) (link_news (into unit)) line
unit_at (Command opcode params) line = piece_at (piece_on line.link (Command opcode params)) line
unit_at (Acl word octets) line = piece_at (piece_on line.link (Acl word octets)) line
unit_at (Sync word octets) line = piece_at (piece_on line.link (Sync word octets)) line
unit_at (Event code params) line = event_told line code params

-- ---- links that come up and go down

abbrev pub is_up_told : PlainNews → Bool
is_up_told LinkUp = true
is_up_told news = false

some_of : {X Y : Type 0} (f : X → Y) (found : Option X) → is_some (option_map f found) ≡ is_some found
some_of f None = refl
some_of f (Some x) = refl

none_of : {X Y : Type 0} (f : X → Y) (found : Option X) → is_none (option_map f found) ≡ is_none found
none_of f None = refl
none_of f (Some x) = refl

none_some : {X : Type 0} (found : Option X) → (is_none found && is_some found) ≡ false
none_some None = refl
none_some (Some x) = refl

none_is : {X : Type 0} (found : Option X) → is_some found ≡ false → found ≡ None
none_is None is = refl
none_is (Some x) is = cc

module _ (moved : List Move) (line : Line) (unit : Packet) (stands : Stands moved line) where
  abbrev old : Linking
  old = linking moved

  abbrev new : Linking
  new = linking (moved ++ into unit ∷ [])

  up_now : (news : PlainNews) → news_of unit line ≡ news → option_map pdus (linking (moved ++ into unit ∷ [])).up ≡ (news_adds news (shown (linking moved))).up
  up_now news is = ap (λ (l : Linkage). l.up) (heard_shown moved line unit stands).adds ∙ ap (λ (n : PlainNews). (news_adds n (shown (linking moved))).up) is

  -- a link is up behind it exactly where that is
  some_now : (news : PlainNews) → news_of unit line ≡ news → is_some (linking (moved ++ into unit ∷ [])).up ≡ is_some (news_adds news (shown (linking moved))).up
  some_now news is = sym (some_of pdus new.up) ∙ ap is_some (up_now news is)

  as_before : (news : PlainNews) → news_of unit line ≡ news → is_some (news_adds news (shown (linking moved))).up ≡ is_some (linking moved).up → brings_link moved unit ≡ false
  as_before news is same = ap (λ (b : Bool). is_none old.up && b) (some_now news is ∙ same) ∙ none_some old.up

  no_link : is_none line.link ≡ true → is_none (linking moved).up ≡ true
  no_link off = sym (none_of (λ (link : Link). link.handle) old.up) ∙ (ap is_none stands.link ∙ off)

  pub brings : (news : PlainNews) → news_of unit line ≡ news → brings_link moved unit ≡ is_up_told news
  brings Nothing is = as_before Nothing is (some_of pdus old.up)
  brings LinkUp is =
      let off = no_link (subst (λ (news : PlainNews). IsToldAt news (link_news (into unit)) line) is (unit_at unit line).0) in
      ap (λ (b : Bool). b && is_some new.up) off ∙ some_now LinkUp is
  brings (LinkFailed status) is = as_before (LinkFailed status) is (some_of pdus old.up)
  brings (LinkDown reason) is = ap (λ (b : Bool). is_none old.up && b) (some_now (LinkDown reason) is) ∙ by (is_none old.up)
    where
      by : (b : Bool) → (b && false) ≡ false
      by true = refl
      by false = refl
  brings (News_pdu channel octets) is = as_before (News_pdu channel octets) is (some_of _ (option_map pdus old.up) ∙ some_of pdus old.up)

  -- ---- its end

  pub record LinkOf : Type 0 where
    pub link : Link
    pub is : (linking moved).up ≡ Some link

  link_found : (found : Option Link) → (linking moved).up ≡ found → is_some found ≡ true → LinkOf
  link_found None is some = cc
  link_found (Some link) is some = record { link = link; is = is }

  -- the link that is up ends
  pub ended_link : (reason : ℕ) → news_of unit line ≡ LinkDown reason → LinkOf
  ended_link reason is =
      let on : is_some line.link ≡ true = subst (λ (news : PlainNews). IsToldAt news (link_news (into unit)) line) is (unit_at unit line).0 in
      link_found old.up refl (sym (some_of (λ (link : Link). link.handle) old.up) ∙ (ap is_some stands.link ∙ on))

  pub none_behind : (reason : ℕ) → news_of unit line ≡ LinkDown reason → (linking (moved ++ into unit ∷ [])).up ≡ None
  none_behind reason is = none_is new.up (some_now (LinkDown reason) is)

  -- and where it does, that is told
  pub end_told : (link : Link) (reason : ℕ) → (linking moved).up ≡ Some link → (linking (moved ++ into unit ∷ [])).up ≡ None → reason_told unit ≡ Some reason → news_of unit line ≡ LinkDown reason
  end_told link reason up down told = by (news_of unit line) refl
    where
      on : is_some (linking moved).up ≡ true
      on = ap is_some up

      gone : is_some (linking (moved ++ into unit ∷ [])).up ≡ false
      gone = ap is_some down

      same_reason : (other : ℕ) → Some other ≡ Some reason → LinkDown other ≡ LinkDown reason
      same_reason other is = cc

      by : (news : PlainNews) → news_of unit line ≡ news → news ≡ LinkDown reason
      by Nothing is = never (sym gone ∙ (some_now Nothing is ∙ (some_of pdus old.up ∙ on)))
      by LinkUp is = never (sym gone ∙ some_now LinkUp is)
      by (LinkFailed status) is = never (sym gone ∙ (some_now (LinkFailed status) is ∙ (some_of pdus old.up ∙ on)))
      by (LinkDown other) is = same_reason other (sym (subst (λ (news : PlainNews). TellsSo news unit) is (unit_tells unit line)) ∙ told)
      by (News_pdu channel octets) is = never (sym gone ∙ (some_now (News_pdu channel octets) is ∙ (some_of _ (option_map pdus old.up) ∙ (some_of pdus old.up ∙ on))))

  -- ---- it is not made

  pub failed_at : (status : ℕ) → news_of unit line ≡ LinkFailed status → IsToldAt (LinkFailed status) (link_news (into unit)) line
  failed_at status is = subst (λ (news : PlainNews). IsToldAt news (link_news (into unit)) line) is (unit_at unit line).0

  pub asked_is : (status : ℕ) → news_of unit line ≡ LinkFailed status → (linking moved).asked ≡ true
  asked_is status is = stands.asked ∙ (failed_at status is).0

  pub failure_told : (status handle : ℕ) → (linking moved).asked ≡ true → link_news (into unit) ≡ Answered status handle → eqb status 0 ≡ false → news_of unit line ≡ LinkFailed status
  failure_told status handle asked is failed = subst (λ (answer : LinkNews). FailsSo answer (news_of unit line) line) is (unit_at unit line).1 (sym stands.asked ∙ asked) failed
