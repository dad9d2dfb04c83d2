-- What a host with a tape does, one without it does that is given what the tape tells.
use Rattle.std.proofs.Common.{◌≡◌, Bool, false, List, [], ◌∷◌, map, None, refl, sym, ap, ap₂, subst, ◌∙◌}
use Rattle.inbox_laws.specs.world_model.specs.Machines.{Up, Down, Linked, Failed, Heard, TimerFired, Cancelled, Opening}
use Rattle.inbox_laws.specs.host_model.specs.Circumstances.{Circumstance}
use Rattle.inbox_laws.specs.host_model.specs.Hosts.{Host, first_host, next}
use Rattle.inbox_laws.specs.host_model.specs.Machines.{upper}
use Rattle.inbox_laws.specs.host_model.specs.Profiles.{Profile}
use Rattle.inbox_laws.specs.host_laws.specs.Acts.{Act, Hears, Says, Does, Acting}
use Rattle.inbox_laws.specs.host_laws.specs.OverLinks.{IsTimely, AreInTurn, is_up_behind}
use Rattle.inbox_laws.specs.host_laws.specs.Turning.{Deed, deed_of, IsActInQuiet}
use Rattle.inbox_laws.specs.host_laws.proofs.Turning.{does_one}
use Rattle.tape_laws.specs.Runs.{HearsNewsAlone}
use Rattle.tape_laws.specs.Taped.{Tape, Taped, taped, untaped_host}
use Rattle.tape_laws.specs.Talking.{TapedHostsComeSo}
use Rattle.tape_laws.proofs.Hearing.{untaped_said, hears_so, next_so}

abbrev Acts : Type 0
Acts = List (Act Circumstance)

module _ {P T : Type 0} (A : Profile P) (tape : Tape P T) (alone : HearsNewsAlone A) where
  abbrev B : Profile (Taped P T)
  B = taped A tape

  abbrev On : Type 0
  On = Host (Taped P T)

  -- ---- one act

  abbrev plain : On → Act Circumstance → Act Circumstance
  plain host (Hears gifts news) = Hears (tape.gives host.profile.at host.profile.profile) news
  plain host (Says pdu) = Says pdu

  does_so : (act : Act Circumstance) (old new : On) → Does (upper B) act old new → Does (upper A) (plain old act) (untaped_host old) (untaped_host new)
  does_so (Hears gifts news) old new does = ap untaped_host does ∙ hears_so A tape alone gifts news old
  does_so (Says pdu) old new does = sym (next_so A tape old) ∙ ap (untaped_said A tape) does

  none_so : (host : On) → next B host ≡ None → next A (untaped_host host) ≡ None
  none_so host none = sym (next_so A tape host) ∙ ap (untaped_said A tape) none

  deed_so : (host : On) (act : Act Circumstance) → deed_of (plain host act) ≡ deed_of act
  deed_so host (Hears gifts news) = refl
  deed_so host (Says pdu) = refl

  timely_so : (up : Bool) (host : On) (act : Act Circumstance) → IsTimely up act → IsTimely up (plain host act)
  timely_so up host (Hears gifts (Linked Up)) timely = timely
  timely_so up host (Hears gifts (Linked (Down reason))) timely = timely
  timely_so up host (Hears gifts (Failed status)) timely = tt
  timely_so up host (Hears gifts (Heard pdu)) timely = timely
  timely_so up host (Hears gifts TimerFired) timely = tt
  timely_so up host (Hears gifts Cancelled) timely = tt
  timely_so up host (Hears gifts (Opening name)) timely = tt
  timely_so up host (Says pdu) timely = tt

  up_so : (up : Bool) (host : On) (act : Act Circumstance) → is_up_behind up (plain host act) ≡ is_up_behind up act
  up_so up host (Hears gifts (Linked Up)) = refl
  up_so up host (Hears gifts (Linked (Down reason))) = refl
  up_so up host (Hears gifts (Failed status)) = refl
  up_so up host (Hears gifts (Heard pdu)) = refl
  up_so up host (Hears gifts TimerFired) = refl
  up_so up host (Hears gifts Cancelled) = refl
  up_so up host (Hears gifts (Opening name)) = refl
  up_so up host (Says pdu) = refl

  quiet_so : (host : On) (act : Act Circumstance) → IsActInQuiet (upper B) act host → IsActInQuiet (upper A) (plain host act) (untaped_host host)
  quiet_so host (Hears gifts (Linked event)) quiet = tt
  quiet_so host (Hears gifts (Failed status)) quiet = tt
  quiet_so host (Hears gifts (Heard pdu)) quiet = none_so host quiet
  quiet_so host (Hears gifts TimerFired) quiet = none_so host quiet
  quiet_so host (Hears gifts Cancelled) quiet = tt
  quiet_so host (Hears gifts (Opening name)) quiet = tt
  quiet_so host (Says pdu) quiet = tt

  -- ---- one act after the other

  abbrev all : (acts : Acts) (old new : On) → Acting (upper B) acts old new → Acts
  all [] old new acting = []
  all (act ∷ acts) old new (mid, does, rest) = plain old act ∷ all acts mid new rest

  acting_so : (acts : Acts) (old new : On) (acting : Acting (upper B) acts old new) → Acting (upper A) (all acts old new acting) (untaped_host old) (untaped_host new)
  acting_so [] old new acting = ap untaped_host acting
  acting_so (act ∷ acts) old new (mid, does, rest) = (untaped_host mid, does_so act old mid does, acting_so acts mid new rest)

  deeds_so : (acts : Acts) (old new : On) (acting : Acting (upper B) acts old new) → map deed_of (all acts old new acting) ≡ map deed_of acts
  deeds_so [] old new acting = refl
  deeds_so (act ∷ acts) old new (mid, does, rest) = ap₂ (λ (deed : Deed) (deeds : List Deed). deed ∷ deeds) (deed_so old act) (deeds_so acts mid new rest)

  turn_so : (up : Bool) (acts : Acts) (old new : On) (acting : Acting (upper B) acts old new) → AreInTurn (upper B) up acts old → AreInTurn (upper A) up (all acts old new acting) (untaped_host old)
  turn_so up [] old new acting turn = tt
  turn_so up (act ∷ acts) old new (mid, does, rest) turn =
      let behind = all acts mid new rest in
      let later : AreInTurn (upper A) (is_up_behind up (plain old act)) behind (untaped_host mid) =
      subst (λ (is : Bool). AreInTurn (upper A) is behind (untaped_host mid)) (sym (up_so up old act)) (turn_so (is_up_behind up act) acts mid new rest (turn.1 mid does)) in (
        record { timely = timely_so up old act turn.0.timely; in_quiet = λ on. quiet_so old act (turn.0.in_quiet on) },
        λ next does'. subst (λ (host : Host P). AreInTurn (upper A) (is_up_behind up (plain old act)) behind host) (does_one (upper A) (plain old act) (untaped_host old) (untaped_host mid) next (does_so act old mid does) does') later,
      )

pub taped_hosts_come_so : {P T : Type 0} (A : Profile P) (tape : Tape P T) → TapedHostsComeSo A tape
taped_hosts_come_so A tape alone talk now over =
    let first = first_host (taped A tape) in
    record {
      acts = all A tape alone over.acts first now over.acting;
      acting = acting_so A tape alone over.acts first now over.acting;
      deeds_are = deeds_so A tape alone over.acts first now over.acting ∙ over.deeds_are;
      in_turn = turn_so A tape alone false over.acts first now over.acting over.in_turn;
    }
