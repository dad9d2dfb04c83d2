-- What is so of a profile, whatever it is told, is so of it with a tape.
use Rattle.std.proofs.Common.{◌≡◌, ℕ, List, Option, Some, None, refl, sym, ap, subst, ◌∙◌}
use Rattle.inbox_laws.specs.channel_model.specs.Value.{Channels}
use Rattle.inbox_laws.specs.world_model.specs.Machines.{Linked, Up, Upper}
use Rattle.inbox_laws.specs.world_model.specs.Worlds.{World, IsAtRest}
use Rattle.inbox_laws.specs.alike_laws.proofs.Alike.{rest_on}
use Rattle.inbox_laws.specs.turn_laws.specs.Premises.{SaysFrames}
use Rattle.inbox_laws.specs.host_model.specs.Hosts.{Host, next}
use Rattle.inbox_laws.specs.host_model.specs.Machines.{upper}
use Rattle.inbox_laws.specs.host_model.specs.Profiles.{Profile}
use Rattle.inbox_laws.specs.host_laws.proofs.Fitting.{KeepsFit}
use Rattle.inbox_laws.specs.scenario_laws.proofs.Unlinked.{Keeps}
use Rattle.inbox_laws.specs.pair_laws.proofs.Abreast.{HasToldAll, Awaits}
use Rattle.inbox_laws.specs.pair_laws.proofs.Answered.{IsSame, same_alike}
use Rattle.tape_laws.specs.Runs.{HearsNewsAlone, untaped_world}
use Rattle.tape_laws.specs.Taped.{Tape, Taped, taped, untaped_host}
use Rattle.tape_laws.proofs.Hearing.{hears_so, next_so, untaped_said, IsBare, taped_alike}

module _ {P T : Type 0} (A : Profile P) (tape : Tape P T) where
  abbrev B : Profile (Taped P T)
  B = taped A tape

  abbrev pub Within : (P → Type 0) → Taped P T → Type 0
  Within Q now = Q now.profile

  pub taped_fits : (S : List ℕ → Type 0) (K : Channels → Type 0) (Q : P → Type 0) → KeepsFit A S K Q → KeepsFit B S K (Within Q)
  taped_fits S K Q keeps = record {
    holds = keeps.holds;
    first = keeps.first;
    given = λ circumstances now so. keeps.given (tape.gives now.at now.profile) now.profile so;
    told = λ circumstances news now so. keeps.told circumstances news now.profile so;
    received = λ own psm sdu now so. keeps.received own psm sdu now.profile so;
    happened = λ event v now so. keeps.happened event v now.profile so;
    sent = λ v now so. keeps.sent v now.profile so;
    steps = λ v now fit so. keeps.steps v now.profile fit so;
  }

  pub taped_keeps : (Q : P → Type 0) → Keeps A Q → Keeps B (Within Q)
  taped_keeps Q keeps = record {
    first = keeps.first;
    given = λ circumstances now so. keeps.given (tape.gives now.at now.profile) now.profile so;
    down = λ circumstances reason now. keeps.down circumstances reason now.profile;
    aside = λ circumstances news now aside so. keeps.aside circumstances news now.profile aside so;
    sent = λ now so. keeps.sent now.profile so;
    steps = λ now so. keeps.steps now.profile so;
    quiet = λ now so. keeps.quiet now.profile so;
  }

  -- it says what the one without it says
  pub taped_frames : SaysFrames (upper A) → SaysFrames (upper B)
  taped_frames frames host pdu after is = frames (untaped_host host) pdu (untaped_host after) (sym (next_so A tape host) ∙ ap (untaped_said A tape) is)

  abbrev pub Bare : (Host P → Type 0) → Host (Taped P T) → Type 0
  Bare F host = F (untaped_host host)

  -- and awaits on a link what that awaits
  pub taped_awaits : {S G : Type 0} (U : Upper S G) (F : Host P → Type 0) → HearsNewsAlone A → Awaits U (upper A) HasToldAll F → Awaits U (upper B) HasToldAll (Bare F)
  taped_awaits U F alone awaits = record {
    rises = λ gifts host told. subst F (sym (hears_so A tape alone gifts (Linked Up) host)) (awaits.rises (tape.gives host.profile.at host.profile.profile) (untaped_host host) told);
    says = λ host pdu after new is. awaits.says (untaped_host host) pdu (untaped_host after) new (sym (next_so A tape host) ∙ ap (untaped_said A tape) is);
    stays = λ host new leaves. awaits.stays (untaped_host host) new leaves;
  }

  -- where all is at rest with the tape, it is without
  pub bare_rest : {S G : Type 0} (U : Upper S G) → HearsNewsAlone A → (w : World S (Host (Taped P T))) → IsAtRest U (upper B) w → IsAtRest U (upper A) (untaped_world w)
  bare_rest {S} {G} U alone w rest = rest_on IsSame (IsBare A tape) U U (upper B) (upper A) (same_alike (λ news (answers : List G). answers) U) (taped_alike A tape alone) w (untaped_world w) (record { a = refl; b = refl; same = refl }) rest

  silent_back : (said : Option (List ℕ × Host (Taped P T))) → untaped_said A tape said ≡ None → said ≡ None
  silent_back None is = refl
  silent_back (Some one) is = cc

  pub taped_rest : {S G : Type 0} (U : Upper S G) (w : World S (Host (Taped P T))) → IsAtRest U (upper A) (untaped_world w) → IsAtRest U (upper B) w
  taped_rest U w rest =
      let still = rest.still_b in
      let calm = rest.calm in
      record {
        still_a = rest.still_a;
        still_b = record {
          none_waits = still.none_waits;
          none_goes = still.none_goes;
          none_out = still.none_out;
          unasked = still.unasked;
          none_next = λ handle is. silent_back (next B w.b.upper) (next_so A tape w.b.upper ∙ still.none_next handle is);
          none_comes = still.none_comes;
          none_owed = still.none_owed;
          returned = still.returned;
        };
        paged = rest.paged;
        calm = record { no_rise = calm.no_rise; no_fall_a = calm.no_fall_a; no_fall_b = calm.no_fall_b; no_begin = calm.no_begin; no_end = calm.no_end };
      }
