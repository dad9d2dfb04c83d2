-- The example is a run.
use Rattle.std.proofs.Common.{◌≡◌, ◌<◌, ℕ, true, Bool, false, List, [], ◌∷◌, ◌++◌, Option, Some, None, refl, ap, subst, arith}
use Rattle.turn_laws.specs.push_terms.specs.declared.word.Way.{Way}
use Rattle.turn_laws.specs.push_terms.specs.declared.word.Way.TheVariants.{Ab, Ba}
use Rattle.turn_laws.specs.push_terms.specs.declared.outcome.Outcome.TheVariants.{Done}
use Rattle.turn_laws.specs.radio_model.specs.Controllers.{Controller}
use Rattle.turn_laws.specs.radio_model.specs.Radio.{Apart, Together}
use Rattle.turn_laws.specs.world_model.specs.Machines.{Up, Down, News, Linked, Failed, Heard, TimerFired, Cancelled, Opening}
use Rattle.turn_laws.specs.world_model.specs.Stations.{Station}
use Rattle.turn_laws.specs.world_model.specs.Worlds.{World, Happening, Runs, IsAtRest, first_world}
use Rattle.turn_laws.specs.Premises.{IsFrame, SaysFrames, IsAside}
use Rattle.turn_laws.specs.WorldLaws.{Fits}
use Rattle.air_laws.specs.AirLaws.{TellsHosts}
use Rattle.air_laws.specs.Example.{Caller, Resting, Calling, Speaking, Waiting, Answered, Over, caller, Answerer, Listening, Replying, answerer, greeting, starting, joining, speaking, answering, hearing, leaving, example, plain_hosts, example_world, ExampleRuns}

-- ---- what the laws ask of machines

greeting_fits : IsFrame greeting
greeting_fits = record { pdu = (omega arith, refl); short = omega arith }

said_by : {S : Type 0} → Option (List ℕ × S) → List ℕ
said_by None = []
said_by (Some one) = one.0

caller_frames : SaysFrames caller
unfolding said_by
caller_frames Speaking pdu after is = let same = ap said_by is in rw (← same) greeting_fits
caller_frames Resting pdu after is = absurd cc
caller_frames Calling pdu after is = absurd cc
caller_frames Waiting pdu after is = absurd cc
caller_frames Answered pdu after is = absurd cc
caller_frames Over pdu after is = absurd cc

answerer_frames : SaysFrames answerer
unfolding said_by
answerer_frames Replying pdu after is = let same = ap said_by is in rw (← same) greeting_fits
answerer_frames Listening pdu after is = absurd cc

idle_wants : (s : Caller) → caller.is_idle s ≡ true → caller.wants_link s ≡ false
idle_wants Resting idle = refl
idle_wants Over idle = refl
idle_wants Calling idle = absurd cc
idle_wants Speaking idle = absurd cc
idle_wants Waiting idle = absurd cc
idle_wants Answered idle = absurd cc

idle_hears : (answers : List ℕ) (news : News) (s : Caller) → IsAside news → caller.is_idle s ≡ true → caller.is_idle (caller.hear answers news s) ≡ true
idle_hears answers (Opening name) s aside idle = absurd aside
idle_hears answers (Linked Up) Resting aside idle = refl
idle_hears answers (Linked Up) Over aside idle = refl
idle_hears answers (Linked (Down reason)) s aside idle = refl
idle_hears answers (Failed status) Resting aside idle = refl
idle_hears answers (Failed status) Over aside idle = refl
idle_hears answers (Heard pdu) Resting aside idle = refl
idle_hears answers (Heard pdu) Over aside idle = refl
idle_hears answers TimerFired Resting aside idle = refl
idle_hears answers TimerFired Over aside idle = refl
idle_hears answers Cancelled Resting aside idle = refl
idle_hears answers Cancelled Over aside idle = refl
idle_hears answers news Calling aside idle = absurd cc
idle_hears answers news Speaking aside idle = absurd cc
idle_hears answers news Waiting aside idle = absurd cc
idle_hears answers news Answered aside idle = absurd cc

idle_says : (s : Caller) (pdu : List ℕ) (after : Caller) → caller.next s ≡ Some (pdu, after) → caller.is_idle s ≡ true → caller.is_idle after ≡ true
idle_says Speaking pdu after is idle = absurd cc
idle_says Resting pdu after is idle = absurd cc
idle_says Calling pdu after is idle = absurd cc
idle_says Waiting pdu after is idle = absurd cc
idle_says Answered pdu after is idle = absurd cc
idle_says Over pdu after is idle = absurd cc

example_fits : Fits caller answerer 27
example_fits = record {
  long = omega arith;
  frames_a = caller_frames;
  frames_b = answerer_frames;
  idles = record { first = refl; wants_none = idle_wants; hears = idle_hears; says = idle_says };
}

-- ---- the run

true_false : true ≡ false → ⊥
true_false is = cc

false_true : false ≡ true → ⊥
false_true is = cc

none_some : (handle : ℕ) → ◌≡◌ {A = Option ℕ} None (Some handle) → ⊥
none_some handle is = cc

-- of two buffers one is free
one_free : 0 < 2
one_free = omega arith

abbrev caller_side : (told : ℕ) (up : Bool) (frames : List (List ℕ)) → Controller
caller_side told up frames = record { scan = 0; told = told; up = up; taken = 0; begun = []; waiting = frames; coming = []; owed = [] }

abbrev answerer_side : (told : ℕ) (up : Bool) (frames : List (List ℕ)) → Controller
answerer_side told up frames = record { scan = 3; told = told; up = up; taken = 0; begun = []; waiting = frames; coming = []; owed = [] }

abbrev station_of : {S : Type 0} → S → Option ℕ → Station S
station_of upper link = record { upper = upper; waiting = []; awaited = None; size = 27; total = 2; outstanding = 0; asked = false; link = link; ending = false; joining = []; pieces = []; out = [] }

abbrev names : List (List ℕ)
names = (0x41 ∷ []) ∷ []

abbrev at_first : World Caller Answerer
at_first = first_world caller answerer 27 2 names

abbrev started : World Caller Answerer
started = record {
  radio = record { size = 27; count = 2; a = caller_side 0 false []; b = answerer_side 0 false []; phase = Apart; number = 0; served = None };
  a = station_of Resting None;
  b = station_of Listening None;
  pushes = record { names = names; begun = 0; going = false; outcomes = [] };
  turned = 0;
}

-- while their link is up
abbrev linked : Option Way → (ab ba : List (List ℕ)) → Caller → Answerer → ℕ → World Caller Answerer
linked served ab ba one other turned = record {
  radio = record { size = 27; count = 2; a = caller_side 1 true ab; b = answerer_side 1 true ba; phase = Together; number = 1; served = served };
  a = station_of one (Some 1);
  b = station_of other (Some 1);
  pushes = record { names = names; begun = 1; going = true; outcomes = [] };
  turned = turned;
}

abbrev joined : World Caller Answerer
joined = linked None [] [] Speaking Listening 0

abbrev spoken : World Caller Answerer
spoken = linked None (greeting ∷ []) [] Waiting Listening 0

abbrev answered : World Caller Answerer
answered = linked (Some Ab) [] (greeting ∷ []) Waiting Listening 1

abbrev heard : World Caller Answerer
heard = linked (Some Ba) [] [] Answered Listening 2

abbrev left : World Caller Answerer
left = record {
  radio = record { size = 27; count = 2; a = caller_side 1 false []; b = answerer_side 1 false []; phase = Apart; number = 1; served = Some Ba };
  a = station_of Over None;
  b = station_of Listening None;
  pushes = record { names = names; begun = 1; going = false; outcomes = Done ∷ [] };
  turned = 3;
}

-- ---- its parts

starts : Runs caller answerer starting at_first started
starts = (
  _,
  (_, record { order = _; rest = _; first = refl; none_awaited = refl; new_is = refl }, refl),
  (
    _,
    (_, refl, refl),
    (
      _,
      (_, refl, refl, [], refl),
      (
        _,
        (_, record { order = _; rest = _; first = refl; none_awaited = refl; new_is = refl }, refl),
        (
          _,
          (_, refl, refl),
          (
            _,
            (_, refl, refl, [], refl),
            (
              _,
              (_, record { order = _; rest = _; first = refl; none_awaited = refl; new_is = refl }, refl),
              (
                _,
                (_, refl, refl),
                (
                  _,
                  (_, refl, refl, [], refl),
                  (
                    _,
                    (_, record { order = _; rest = _; first = refl; none_awaited = refl; new_is = refl }, refl),
                    (
                      _,
                      (_, refl, refl),
                      (
                        _,
                        (_, refl, refl, [], refl),
                        (
                          _,
                          (_, record { order = _; rest = _; first = refl; none_awaited = refl; new_is = refl }, refl),
                          (
                            _,
                            (_, refl, refl),
                            (
                              _,
                              (_, refl, refl, [], refl),
                              (
                                _,
                                (_, record { order = _; rest = _; first = refl; none_awaited = refl; new_is = refl }, refl),
                                (
                                  _,
                                  (_, refl, refl),
                                  (
                                    _,
                                    (_, refl, refl, [], refl),
                                    (
                                      _,
                                      (_, record { order = _; rest = _; first = refl; none_awaited = refl; new_is = refl }, refl),
                                      (
                                        _,
                                        (_, refl, refl),
                                        (
                                          _,
                                          (_, refl, refl, [], refl),
                                          refl,
                                        ),
                                      ),
                                    ),
                                  ),
                                ),
                              ),
                            ),
                          ),
                        ),
                      ),
                    ),
                  ),
                ),
              ),
            ),
          ),
        ),
      ),
    ),
  ),
)

joins : Runs caller answerer joining started joined
joins = (
  _,
  (refl, refl, refl, [], refl),
  (
    _,
    (_, record { wants = refl; off = refl; unasked = refl; none_waits = refl; new_is = refl }, refl),
    (
      _,
      (_, record { order = _; rest = _; first = refl; none_awaited = refl; new_is = refl }, refl),
      (
        _,
        (_, refl, refl),
        (
          _,
          (_, refl, refl, [], refl),
          (
            _,
            (_, refl, refl, [], refl),
            (
              _,
              (_, record { order = _; rest = _; first = refl; none_awaited = refl; new_is = refl }, refl),
              (
                _,
                (_, refl, refl),
                (
                  _,
                  (_, refl, refl, [], refl),
                  (
                    _,
                    (_, refl, refl, [], refl),
                    (
                      _,
                      (_, refl, refl, [], refl),
                      refl,
                    ),
                  ),
                ),
              ),
            ),
          ),
        ),
      ),
    ),
  ),
)

speaks : Runs caller answerer speaking joined spoken
speaks = (
  _,
  (_, record { handle = _; link = refl; none_waits = refl; free = one_free; pdu = _; after = _; next = refl; new_is = refl }, refl),
  (
    _,
    (_, record { handle = _; link = refl; free = one_free; piece = _; rest = _; first = refl; new_is = refl }, refl),
    (
      _,
      (_, refl, refl),
      (
        _,
        refl,
        (
          _,
          (_, refl, refl, [], refl),
          refl,
        ),
      ),
    ),
  ),
)

answers : Runs caller answerer answering spoken answered
answers = (
  _,
  (record { still_a = record { none_waits = refl; none_goes = refl; none_out = refl; unasked = refl; none_next = λ handle is. refl; none_comes = refl; none_owed = refl; returned = refl }; still_b = record { none_waits = refl; none_goes = refl; none_out = refl; unasked = refl; none_next = λ handle is. refl; none_comes = refl; none_owed = refl; returned = refl }; paged = refl; calm = record { no_rise = λ off going. absurd (true_false off); no_fall_a = λ on. refl; no_fall_b = λ on. refl; no_begin = λ still idle. absurd (true_false still); no_end = λ off going idle. absurd (true_false off) } }, tt, refl, _, refl, refl),
  (
    _,
    (_, refl, refl, [], refl),
    (
      _,
      (_, record { handle = _; link = refl; none_waits = refl; free = one_free; pdu = _; after = _; next = refl; new_is = refl }, refl),
      (
        _,
        (_, record { handle = _; link = refl; free = one_free; piece = _; rest = _; first = refl; new_is = refl }, refl),
        (
          _,
          (_, refl, refl),
          (
            _,
            refl,
            (
              _,
              (_, refl, refl, [], refl),
              refl,
            ),
          ),
        ),
      ),
    ),
  ),
)

hears : Runs caller answerer hearing answered heard
hears = (
  _,
  (record { still_a = record { none_waits = refl; none_goes = refl; none_out = refl; unasked = refl; none_next = λ handle is. refl; none_comes = refl; none_owed = refl; returned = refl }; still_b = record { none_waits = refl; none_goes = refl; none_out = refl; unasked = refl; none_next = λ handle is. refl; none_comes = refl; none_owed = refl; returned = refl }; paged = refl; calm = record { no_rise = λ off going. absurd (true_false off); no_fall_a = λ on. refl; no_fall_b = λ on. refl; no_begin = λ still idle. absurd (true_false still); no_end = λ off going idle. absurd (true_false off) } }, tt, refl, _, refl, refl),
  (
    _,
    (_, refl, refl, [], refl),
    refl,
  ),
)

leaves : Runs caller answerer leaving heard left
leaves = (
  _,
  (_, record { handle = _; link = refl; none_waits = refl; none_next = refl; leaves = refl; unended = refl; none_ends = refl; new_is = refl }, refl),
  (
    _,
    (_, record { order = _; rest = _; first = refl; none_awaited = refl; new_is = refl }, refl),
    (
      _,
      (_, refl, refl),
      (
        _,
        (_, refl, refl, [], refl),
        (
          _,
          (_, refl, refl, [], refl),
          (
            _,
            (_, refl, refl, [], refl),
            (
              _,
              (refl, refl, refl, refl, refl, refl, refl, refl, refl, refl),
              (
                _,
                (record { still_a = record { none_waits = refl; none_goes = refl; none_out = refl; unasked = refl; none_next = λ handle is. absurd (none_some handle is); none_comes = refl; none_owed = refl; returned = refl }; still_b = record { none_waits = refl; none_goes = refl; none_out = refl; unasked = refl; none_next = λ handle is. absurd (none_some handle is); none_comes = refl; none_owed = refl; returned = refl }; paged = refl; calm = record { no_rise = λ off going. absurd (false_true going); no_fall_a = λ on. absurd (false_true on); no_fall_b = λ on. absurd (false_true on); no_begin = λ still idle. refl; no_end = λ off going idle. absurd (false_true going) } }, tt, refl),
                refl,
              ),
            ),
          ),
        ),
      ),
    ),
  ),
)

runs_append : (one two : List Happening) (old mid new : World Caller Answerer) → Runs caller answerer one old mid → Runs caller answerer two mid new → Runs caller answerer (one ++ two) old new
runs_append [] two old mid new same after = subst (λ (w : World Caller Answerer). Runs caller answerer two w new) same after
runs_append (happening ∷ one) two old mid new (next, does, runs) after = (next, does, runs_append one two next mid new runs after)

rests : IsAtRest caller answerer left
rests = record { still_a = record { none_waits = refl; none_goes = refl; none_out = refl; unasked = refl; none_next = λ handle is. absurd (none_some handle is); none_comes = refl; none_owed = refl; returned = refl }; still_b = record { none_waits = refl; none_goes = refl; none_out = refl; unasked = refl; none_next = λ handle is. absurd (none_some handle is); none_comes = refl; none_owed = refl; returned = refl }; paged = refl; calm = record { no_rise = λ off going. absurd (false_true going); no_fall_a = λ on. absurd (false_true on); no_fall_b = λ on. absurd (false_true on); no_begin = λ still idle. refl; no_end = λ off going idle. absurd (false_true going) } }

example_tells : TellsHosts caller answerer plain_hosts example example_world
example_tells = record {
  ends = record { armed = λ side past push outcome. refl; checks = λ side past push outcome channel. refl };
  at_rest = λ front w is runs rest. record { armed_a = refl; armed_b = refl; checks_a = λ channel. refl; checks_b = λ channel. refl };
}

pub example_runs : ExampleRuns
example_runs = (
  left,
  runs_append starting (joining ++ (speaking ++ (answering ++ (hearing ++ leaving)))) at_first started left starts
      (runs_append joining (speaking ++ (answering ++ (hearing ++ leaving))) started joined left joins
      (runs_append speaking (answering ++ (hearing ++ leaving)) joined spoken left speaks
      (runs_append answering (hearing ++ leaving) spoken answered left answers (runs_append hearing leaving answered heard left hears leaves)))),
  rests,
  refl,
  example_fits,
  example_tells,
)
