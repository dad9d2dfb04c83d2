-- A machine whose ports answer so is one whose ports answer whatever, where the answers were so.
use Rattle.std.proofs.Common.{◌≡◌, Bool, false, List, [], ◌∷◌, map, refl, sym, ap, subst, ◌∙◌}
use Rattle.std.specs.List.{AllByRecursion}
use Rattle.request_laws.specs.host_link.specs.Hearing.{PlainNews, Nothing, LinkUp, LinkFailed, LinkDown, Pdu, news_of, heard}
use Rattle.request_laws.specs.world_model.specs.Machines.{Linked, Up, Down, Failed, Heard, TimerFired, Cancelled, Opening, Upper}
use Rattle.request_laws.specs.world_model.specs.Talks.{Talk}
use Rattle.request_laws.specs.turn_laws.specs.Premises.{SaysFrames}
use Rattle.request_laws.specs.host_laws.specs.Acts.{Act, Hears, Says as Saying, Does, Acting}
use Rattle.request_laws.specs.host_laws.specs.OverLinks.{is_up_behind, IsTimely, AreInTurn, OverLinks}
use Rattle.request_laws.specs.host_laws.specs.Turning.{deed_of, IsActInQuiet}
use Rattle.request_laws.proofs.Feeding.{all_ahead}
use Rattle.unit_laws.specs.Calls.{gifts_of, gifts_in}
use Rattle.unit_laws.specs.Units.{Lined, Occasion, Comes, Learns, Says, Puts, Commands, Waits, hears_line, Happens, Runs, HasSaidAll, IsToldInTurn, ComesInTurn}

module _ {S G : Type 0} (U : Upper S G) (to : List G → List G) where
  -- its ports answer that in place of what is given
  abbrev pub answered : Upper S G
  answered = record U { hear = λ gifts news. U.hear (to gifts) news }

  -- ---- a run of the one is a run of the other

  said_all : (now : Lined S) → HasSaidAll U now → HasSaidAll answered now
  said_all now said = record { pieces = said.pieces; none_next = said.none_next }

  told_turn : (news : PlainNews) (now : Lined S) → IsToldInTurn U now news → IsToldInTurn answered now news
  told_turn Nothing now turn = tt
  told_turn LinkUp now turn = tt
  told_turn (LinkFailed status) now turn = said_all now turn
  told_turn (LinkDown reason) now turn = tt
  told_turn (Pdu channel octets) now turn = said_all now turn

  comes_turn : (occasion : Occasion G) (now : Lined S) → ComesInTurn U occasion now → ComesInTurn answered occasion now
  comes_turn (Comes gifts unit) now turn = told_turn (news_of unit now.line) now turn
  comes_turn (Learns gifts news) now turn = said_all now turn
  comes_turn (Says pdu) now turn = tt
  comes_turn (Puts handle piece) now turn = tt
  comes_turn (Commands command) now turn = tt
  comes_turn Waits now turn = tt

  heard_same : (gifts : List G) (news : PlainNews) (s : S) → to gifts ≡ gifts → hears_line U gifts news s ≡ hears_line answered gifts news s
  heard_same gifts Nothing s same = refl
  heard_same gifts LinkUp s same = ap (λ (g : List G). U.hear g (Linked Up) s) (sym same)
  heard_same gifts (LinkFailed status) s same = ap (λ (g : List G). U.hear g (Failed status) s) (sym same)
  heard_same gifts (LinkDown reason) s same = ap (λ (g : List G). U.hear g (Linked (Down reason)) s) (sym same)
  heard_same gifts (Pdu channel octets) s same = ap (λ (g : List G). U.hear g (Heard octets) s) (sym same)

  abbrev IsSame : List G → Type 0
  IsSame gifts = to gifts ≡ gifts

  happens_same : (occasion : Occasion G) (old new : Lined S) → AllByRecursion IsSame (gifts_of occasion) → Happens U occasion old new → Happens answered occasion old new
  happens_same (Comes gifts unit) old new same (fault, is) =
      (fault, is ∙ ap (λ (s : S). (let after : Lined S = record { line = heard unit old.line; upper = s } in after)) (heard_same gifts (news_of unit old.line) old.upper same.0))
  happens_same (Learns gifts news) old new same (own, is) = (own, is ∙ ap (λ (g : List G). (let after : Lined S = record old { upper = U.hear g news old.upper } in after)) (sym same.0))
  happens_same (Says pdu) old new same says = record { handle = says.handle; link = says.link; none_waits = says.none_waits; next_is = says.next_is; line_is = says.line_is }
  happens_same (Puts handle piece) old new same puts = puts
  happens_same (Commands command) old new same puts = puts
  happens_same Waits old new same waits = waits

  pub runs-same : (occasions : List (Occasion G)) (old new : Lined S) → AllByRecursion (λ (gifts : List G). to gifts ≡ gifts) (gifts_in occasions) → Runs U (ComesInTurn U) occasions old new → Runs answered (ComesInTurn answered) occasions old new
  runs-same [] old new same is = is
  runs-same (occasion ∷ occasions) old new same (mid, turn, happens, rest) =
      let both = all_ahead IsSame (gifts_of occasion) (gifts_in occasions) same in
      (mid, comes_turn occasion old turn, happens_same occasion old mid both.0 happens, runs-same occasions mid new both.1 rest)

  pub frames-same : SaysFrames U → SaysFrames answered
  frames-same frames s pdu after is = frames s pdu after is

  -- ---- what it did the other did

  abbrev pub act_so : Act G → Act G
  act_so (Hears gifts news) = Hears (to gifts) news
  act_so (Saying pdu) = Saying pdu

  does_so : (act : Act G) (old new : S) → Does answered act old new → Does U (act_so act) old new
  does_so (Hears gifts news) old new does = does
  does_so (Saying pdu) old new does = does

  does_back : (act : Act G) (old new : S) → Does U (act_so act) old new → Does answered act old new
  does_back (Hears gifts news) old new does = does
  does_back (Saying pdu) old new does = does

  acting_so : (acts : List (Act G)) (old new : S) → Acting answered acts old new → Acting U (map act_so acts) old new
  acting_so [] old new is = is
  acting_so (act ∷ acts) old new (mid, does, rest) = (mid, does_so act old mid does, acting_so acts mid new rest)

  deeds_so : (acts : List (Act G)) → map deed_of (map act_so acts) ≡ map deed_of acts
  deeds_so [] = refl
  deeds_so (Hears gifts news ∷ acts) = ap (λ l. deed_of (Hears gifts news) ∷ l) (deeds_so acts)
  deeds_so (Saying pdu ∷ acts) = ap (λ l. deed_of (act_so (Saying pdu)) ∷ l) (deeds_so acts)

  timely_so : (up : Bool) (act : Act G) → IsTimely up act → IsTimely up (act_so act)
  timely_so up (Hears gifts (Linked Up)) timely = timely
  timely_so up (Hears gifts (Linked (Down reason))) timely = timely
  timely_so up (Hears gifts (Failed status)) timely = timely
  timely_so up (Hears gifts (Heard pdu)) timely = timely
  timely_so up (Hears gifts TimerFired) timely = timely
  timely_so up (Hears gifts Cancelled) timely = timely
  timely_so up (Hears gifts (Opening name)) timely = timely
  timely_so up (Saying pdu) timely = timely

  quiet_so : (act : Act G) (s : S) → IsActInQuiet answered act s → IsActInQuiet U (act_so act) s
  quiet_so (Hears gifts (Linked event)) s quiet = tt
  quiet_so (Hears gifts (Failed status)) s quiet = tt
  quiet_so (Hears gifts (Heard pdu)) s quiet = quiet
  quiet_so (Hears gifts TimerFired) s quiet = quiet
  quiet_so (Hears gifts Cancelled) s quiet = tt
  quiet_so (Hears gifts (Opening name)) s quiet = tt
  quiet_so (Saying pdu) s quiet = tt

  up_so : (up : Bool) (act : Act G) → is_up_behind up (act_so act) ≡ is_up_behind up act
  up_so up (Hears gifts (Linked Up)) = refl
  up_so up (Hears gifts (Linked (Down reason))) = refl
  up_so up (Hears gifts (Failed status)) = refl
  up_so up (Hears gifts (Heard pdu)) = refl
  up_so up (Hears gifts TimerFired) = refl
  up_so up (Hears gifts Cancelled) = refl
  up_so up (Hears gifts (Opening name)) = refl
  up_so up (Saying pdu) = refl

  turn_so : (up : Bool) (acts : List (Act G)) (s : S) → AreInTurn answered up acts s → AreInTurn U up (map act_so acts) s
  turn_so up [] s turn = tt
  turn_so up (act ∷ acts) s turn = (
    record { timely = timely_so up act turn.0.timely; in_quiet = λ on. quiet_so act s (turn.0.in_quiet on) },
    λ next does. subst (λ (b : Bool). AreInTurn U b (map act_so acts) next) (sym (up_so up act)) (turn_so (is_up_behind up act) acts next (turn.1 next (does_back act s next does))),
  )

  pub over-so : (talk : List Talk) (now : S) → OverLinks answered talk now → OverLinks U talk now
  over-so talk now over = record {
    acts = map act_so over.acts;
    acting = acting_so over.acts U.first now over.acting;
    deeds_are = deeds_so over.acts ∙ over.deeds_are;
    in_turn = turn_so false over.acts U.first over.in_turn;
  }

  pub over-acts : (talk : List Talk) (now : S) (over : OverLinks answered talk now) → (over-so talk now over).acts ≡ map act_so over.acts
  unfolding over-so
  over-acts talk now over = refl
